use Rattle.std.proofs.Common.{is_some, sym, ap, ◌∙◌}
use Rattle.line.specs.Calls.{settles}
use Rattle.line.specs.Collect.{begun}
use Rattle.runs.proofs.Performing.{ready_crew}
use Rattle.runs.proofs.Readiness.{settles_ready}
use Rattle.runs.proofs.Turns.{collected_0, refused_above_0, settle_turns}
use Rattle.runs.proofs.running.Running.settle.Goals as goal

pub invariant_of-self-in-Ok-1 : goal.invariant_of-self-in-Ok-1
invariant_of-self-in-Ok-1 g c =
    let ws = g.B.Board.words c.args.self.now.board.now in
    let ps = c.args.self.now.trays.now in
    let core = g.C.AnyCrew.core c.args.self.now.crew in
    let did = c.in-Ok.ensures in
    let settled = (settle_turns core).is (sym (ap (λ t. t.number) did.answer) ∙ collected_0 c.in-Ok.how) in
    record {
      ready = ready_crew _ ws ps (settles core).crew _ did.crew
          (settles_ready c.args.self.now.held _ ws ps core c.args.self.now.ready (ap is_some c.take.ensures.after ∙ sym settled));
    }

pub invariant_of-self-in-Err : goal.invariant_of-self-in-Err
invariant_of-self-in-Err g c =
    let ws = g.B.Board.words c.args.self.now.board.now in
    let ps = c.args.self.now.trays.now in
    let core = g.C.AnyCrew.core c.args.self.now.crew in
    let did = c.in-Err.ensures in
    let kept = (settle_turns core).same (λ e. refused_above_0 c.in-Err.field-0.refusal (ap (λ t. t.number) did.answer ∙ e)) in
    record {
      ready = ready_crew _ ws ps (settles core).crew _ did.crew
          (settles_ready c.args.self.now.held _ ws ps core c.args.self.now.ready (ap is_some c.in-Some.ensures.value ∙ c.args.self.now.ready.receipt ∙ sym (ap (λ k. begun k.collector.stage) kept)));
    }
