use Rattle.std.proofs.Common.{◌≡◌, map, refl, rules, arith}
use Rattle.line.specs.Crew.{resting_row}
use Rattle.plain_crew.specs.Lanes.{lane_of, plain_lane}
use Rattle.plain_crew.proofs.Mapping.{mapped_by_index}
use Rattle.plain_crew.proofs.crew.CoreFromRefPlainCrew.from.Goals as goal

pub returns : goal.returns
returns c =
    let blank = plain_lane (resting_row 0) in
    let rows : c.from_fn.result ≡ map lane_of c.args.plain.now.rows = mapped_by_index c.from_fn.ensures.items (λ f. f.0.now ≡ c.args.plain.now) lane_of _ blank (λ p i y q same below called. search rules) refl (omega arith) in
    search rules
