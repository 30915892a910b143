use Rattle.std.proofs.Common.{rules, ap, ◌∙◌}
use Rattle.std.specs.Option.{option_map}
use Rattle.line.specs.Answers.{told_done}
use Rattle.line.specs.Calls.{drained}
use Rattle.runs.specs.Runs.{runs}
use Rattle.runs.proofs.Completion.{completes_drained, completes_same, completes_undrained, drained_ready, new_ready}
use Rattle.runs.proofs.Performing.{ready_same}
use Rattle.runs.proofs.whole.perform_list.Goals as goal

pub invariant_of-running : goal.invariant_of-running
invariant_of-running g c =
    record { ready = new_ready (g.B.Board.words c.args.board.now) c.args.trays.now c.args.laying c.args.before.now _ c.new-crew.ensures _ _ _ _ c.lay-laid.ensures.step }

pub invariant_of-draining : goal.invariant_of-draining
invariant_of-draining g c =
    let ran = c.perform_all.new.self in
    record {
      ready = ready_same ran.held _ (g.B.Board.words ran.board.now) _ ran.trays.now _ (drained ran.crew.core) _
          c.into_parts-held.ensures.held (search rules) (search rules) (c.drain.ensures ∙ ap (λ k. drained k.core) c.into_parts-held.ensures.crew)
          (drained_ready ran.held _ _ ran.crew.core ran.ready);
    }

pub returns-in-None : goal.returns-in-None
returns-in-None g c =
    let ws = g.B.Board.words c.args.board.now in
    let ps = c.args.trays.now in
    let did = completes_undrained ws ps c.args.laying c.args.before.now _ c.new-crew.ensures (told_done c.lay-laid.result) _ _ _ c.lay-laid.ensures.step _ _ _ _ c.perform_all.ensures.left _ _ _
    c.close.ensures.board c.close.ensures.trays c.close.ensures.crew in
    let whole = completes_same _ _ _ _ _ _ _ _ (ap (λ later. runs ws ps c.args.laying c.args.before.now (option_map (λ calls. calls.now) later)) c.in-None.is) did in
    record {
      lays = whole.lays;
      says_before = whole.says_before;
      says_after = ap (option_map _) c.in-None.is ∙ whole.says_after;
      board = search (rules, whole.board);
      trays = search (rules, whole.trays);
      crew = ap (λ k. k.core) c.into_crew.ensures.crew ∙ whole.crew;
    }

pub returns-in-Some : goal.returns-in-Some
returns-in-Some g c =
    let ws = g.B.Board.words c.args.board.now in
    let ps = c.args.trays.now in
    let drained_crew = c.drain.ensures ∙ ap (λ k. drained k.core) c.into_parts-held.ensures.crew in
    let did = completes_drained ws ps c.args.laying c.args.before.now _ c.new-crew.ensures (told_done c.lay-laid.result) _ _ _ c.lay-laid.ensures.step _ _ _ _ c.perform_all.ensures.left
    c.in-Some.later.now _ _ _ _ _ _ _ _ _ _ (search rules) (search rules) drained_crew c.perform_all-in-Some.ensures.left
    c.close-in-Some.ensures.board c.close-in-Some.ensures.trays c.close-in-Some.ensures.crew in
    let later_same = ap (λ later. runs ws ps c.args.laying c.args.before.now (option_map (λ calls. calls.now) later)) c.in-Some.is in
    let whole = completes_same _ _ _ _ _ _ _ _ later_same did in
    record {
      lays = whole.lays;
      says_before = whole.says_before;
      says_after = ap (option_map _) c.in-Some.is ∙ whole.says_after;
      board = search (rules, whole.board);
      trays = search (rules, whole.trays);
      crew = ap (λ k. k.core) c.into_crew-in-Some.ensures.crew ∙ whole.crew;
    }
