use Rattle.std.proofs.Common.{◌≤◌, ◌+◌, length, vec_items, arith, length-drop, rules}
use Rattle.std.proofs.lemmas.List.{take_rest}
use Rattle.script.specs.Calls.{open_item}
use Rattle.script.proofs.Readings.{drain_within}
use Rattle.script.proofs.Phases.{with_drain}
use Rattle.script.proofs.script.read_calls.Given as given
use Rattle.script.proofs.script.read_calls.Goals as goal

-- the bytes behind the drain are an end of those that are read
within : (g : given.Over) (c : goal.In-Ok-Some g) → (c.args.at ≤ c.in-Ok-Some.behind) × (c.in-Ok-Some.behind ≤ c.args.at + length c.args.rest.now)
within g c =
    drain_within (open_item g.P.Payload.brought) (vec_items c.in_ok-open.open.calls) c.in_ok-open.open.end c.in-Ok-Some.behind c.args.at c.args.rest.now
    (search rules) c.in_ok-open.ensures

pub overflow_sub-behind : goal.overflow_sub-behind
overflow_sub-behind g c = (within g c).0

pub slice_bounds-read_part-count : goal.slice_bounds-read_part-count
slice_bounds-read_part-count g c = omega (arith, within g c)

pub slice_bounds-read_part-start : goal.slice_bounds-read_part-start
slice_bounds-read_part-start g c = let w = within g c in search rules

pub read_part-requires-2 : goal.read_part-requires-2
read_part-requires-2 g c =
    let w = drain_within (open_item g.P.Payload.brought) (vec_items c.in_ok-open.open.calls) c.in_ok-open.open.end c.in-Ok-Some.behind c.args.at c.args.rest.now
    (search rules) c.in_ok-open.ensures in
    rw take_rest (simp length-drop (omega arith))

pub returns : goal.returns
returns g c =
    with_drain g.P.Payload.brought c.in_ok-open.open.end c.in_ok-draining.draining.end c.in-Ok-Some.behind c.err-2.result (vec_items c.in_ok-open.open.calls) _ _ c.args.at c.args.rest.now (omega arith) (search rules)
    (search rules) c.err-2.ensures.value c.in_ok-open.ensures c.in_ok-draining.ensures
