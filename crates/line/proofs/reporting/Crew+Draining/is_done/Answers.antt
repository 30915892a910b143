use Rattle.std.proofs.Common.{◌&&◌, not, ap, ◌∙◌, rules, tests, arith}
use Rattle.std.proofs.lemmas.Iterator.{YieldsList-from_range}
use Rattle.std.proofs.lemmas.Iterator.Search.{all_from_yields_List}
use Rattle.line.specs.Calls.{all_below, is_lane, lane_done}
use Rattle.line.proofs.Done.{all_below_by_turns}
use Rattle.line.proofs.reporting.Crew+Draining.is_done.Goals as goal

pub returns-then-not-is_begun : goal.returns-then-not-is_begun
returns-then-not-is_begun c =
    let core = c.args.self.now.core in
    let lanes = core.shape.lanes in
    all_from_yields_List (λ lane. is_lane core lane && lane_done core lane) _ _ _ c.all.ensures.ran (YieldsList-from_range 0 lanes lanes (cc) (omega arith)) (λ x b q k. search (rules, tests))
    ∙ all_below_by_turns (lane_done core) lanes
    ∙ ap (λ begun. not begun && all_below (lane_done core) lanes) c.if-not-is_begun.ensures
