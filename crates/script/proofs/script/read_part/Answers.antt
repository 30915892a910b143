use Rattle.std.proofs.Common.{◌≡◌, [], ◌∷◌, ◌++◌, vec_items, arith, rules}
use Rattle.script.proofs.Readings.{drained, faulted, one_more}
use Rattle.script.proofs.script.read_part.Goals as goal

pub loop-unread-preserved : goal.loop-unread-preserved
loop-unread-preserved g c =
    let pushed : vec_items c.push.new.self ≡ vec_items c.loop-unread.calls ++ c.in-Ok-Some-default.call ∷ [] = search rules in
    (one_more g.C.Call.item (vec_items c.loop-unread.calls) (vec_items c.push.new.self) c.in-Ok-Some-default.call c.args.at c.args.rest.now c.loop-unread.unread.now c.in-Ok-Some-default.behind.now
    pushed (search rules) c.in-Ok-Some-default.ensures.1 c.loop-unread.invariant).1

pub returns-in-Ok-None-default : goal.returns-in-Ok-None-default
returns-in-Ok-None-default g c =
    (drained g.C.Call.item (vec_items c.loop-unread.calls) c.args.at c.args.rest.now c.loop-unread.unread.now c.in-Ok-None-default.behind.now
    (search rules) c.in-Ok-None-default.ensures.1 c.loop-unread.invariant).1

pub returns-in-Err : goal.returns-in-Err
returns-in-Err g c =
    faulted g.C.Call.item (vec_items c.loop-unread.calls) (record { fault = c.in-Err.fault; at = _ }) c.args.at c.args.rest.now c.loop-unread.unread.now (search rules) c.in-Err.ensures (omega arith) c.loop-unread.invariant
