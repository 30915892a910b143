use Rattle.std.proofs.Common.{is_some, sym, ap, ◌∙◌}
use Rattle.std.proofs.lemmas.Bool.{both_ways}
use Rattle.line.specs.Answers.{told_done}
use Rattle.line.specs.Calls.{begins_collect}
use Rattle.runs.proofs.Performing.{ready_crew}
use Rattle.runs.proofs.Readiness.{begins_collect_ready}
use Rattle.runs.proofs.Turns.{begin_turns}
use Rattle.runs.proofs.running.Running.begin_collect.Goals as goal

pub invariant_of-self-2 : goal.invariant_of-self-2
invariant_of-self-2 g c =
    let ws = g.B.Board.words c.args.self.now.board.now in
    let ps = c.args.self.now.trays.now in
    let core = g.C.AnyCrew.core c.args.self.now.crew in
    let did = c.begin_collect.ensures in
    let accepted = sym (ap (λ t. t.number) did.answer) ∙ ap (λ r. (told_done r).number) c.in_ok-receipt.was in
    record {
      ready = ready_crew _ ws ps (begins_collect core).crew _ did.crew
          (begins_collect_ready c.args.self.now.held _ ws ps core c.args.self.now.ready (ap is_some c.replace.ensures.after ∙ sym ((begin_turns core).is accepted)));
    }

pub drop-other-requires : goal.drop-other-requires
drop-other-requires g c =
    let core = g.C.AnyCrew.core c.args.self.now.crew in
    let accepted = sym (ap (λ t. t.number) c.begin_collect.ensures.answer) ∙ ap (λ r. (told_done r).number) c.in_ok-receipt.was in
    let idle = c.args.self.now.ready.receipt ∙ (begin_turns core).was accepted in
    absurd (both_ways (is_some c.args.self.now.held) idle (ap is_some (sym c.replace.ensures.value ∙ c.in-Some.is)))
