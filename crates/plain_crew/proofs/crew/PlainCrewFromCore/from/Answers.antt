use Rattle.std.proofs.Common.{◌≡◌, Bool, true, false, cond, map, refl, rules, arith}
use mir.Val.{bool_byte}
use Rattle.line.specs.Crew.{resting_row}
use Rattle.plain_crew.specs.Lanes.{plain_lane}
use Rattle.plain_crew.proofs.Mapping.{mapped_by_index}
use Rattle.plain_crew.proofs.crew.PlainCrewFromCore.from.Goals as goal

as_number : (b : Bool) → bool_byte b ≡ cond b 1 0
as_number true = refl
as_number false = refl

pub returns : goal.returns
returns c =
    let rows : c.from_fn.result ≡ map plain_lane c.args.core.rows = mapped_by_index c.from_fn.ensures.items (λ f. f.0.now ≡ c.args.core.rows) plain_lane _ (resting_row 0) (λ p i y q same below called. search rules) refl (omega arith) in
    let draining = as_number c.args.core.draining in
    search rules
