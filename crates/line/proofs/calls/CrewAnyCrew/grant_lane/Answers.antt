use Rattle.std.proofs.Common.{◌≡◌, true, sym, ap, ◌∙◌, arith}
use Rattle.std.proofs.lemmas.Bool.{lt-ltb}
use Rattle.line.specs.Calls.{lane_grant_tests, refuse}
use Rattle.line.specs.Crew.{row_of, busy}
use Rattle.line.proofs.Steps.{busy_unless_at_rest, lane_does, memory_told}
use Rattle.line.proofs.Tested.{gives_same, passed}
use Rattle.line.proofs.calls.CrewAnyCrew.grant_lane.Goals as goal

pub returns : goal.returns
returns g c =
    let ws = g.B.Board.words c.args.board.now in
    let ps = c.args.trays.now in
    let core = c.args.self.now.core in
    let lane = c.args.lane in
    let made = c.in_ok-own.ensures in
    let is_busy : busy (row_of core lane).stage ≡ true = sym (ap (λ r. busy r.stage) made.1) ∙ busy_unless_at_rest _ c.in_default.not-AtRest in
    let holds = memory_told ws ps core core.shape c.len.result true c.len.ensures c.if-not-held_by.ensures in
    record {
      step = gives_same
          (passed (refuse ws ps core) (lane_grant_tests ws ps core lane) _ (sym c.if-not-is_laid.ensures, (holds, (lt-ltb lane core.shape.lanes (omega arith), (made.0, (is_busy, tt))))))
          (lane_does ws ps core lane (row_of core lane) c.in_ok-own.own.row c.access.result c.perform-word.result c.step-answer.result _ _ _ c.posted_after-self.result
          made.1 c.access.ensures c.perform-word.ensures.read c.perform-word.ensures.board c.perform-word.ensures.trays
          c.step-answer.ensures.answer c.step-answer.ensures.after c.posted_after-self.ensures);
      stays = c.perform-word.ensures.stays;
    }
