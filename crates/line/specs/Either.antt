-- A crew of either kind, and the crew that is taken up from what one kept.
--
-- fit          whether a crew can have this shape: at most 16 lanes, and cells if there are lanes
-- core_kept    what a crew keeps, open or draining
use Rattle.std.specs.Prelude.{◌≡◌, Bool, true, false, ◌&&◌, ◌||◌, ◌==◌, nat_le, nat_lt, Result, MatchResult}
use Rattle.line.specs.declared.access.Shape.{Shape}
use Rattle.line.specs.declared.crew.Core.{Core}
use Rattle.line.specs.declared.either.EitherCrew.{EitherCrew}
use Rattle.line.specs.declared.either.EitherCrew.TheVariants.{Open, Draining}
use Rattle.line.specs.declared.either.UnfitShape.{UnfitShape}

abbrev pub fit : Shape → Bool
fit s = nat_le s.lanes 16 && (s.lanes == 0 || nat_lt 0 s.cells)

abbrev pub core_kept : EitherCrew → Core
core_kept (Open crew) = crew.core
core_kept (Draining crew) = crew.core

-- a crew that keeps just this is taken up exactly where its shape is one that a crew can have
abbrev pub TakesUp : Core → Result EitherCrew UnfitShape → Type 0
TakesUp core r = MatchResult r (λ crew. (fit core.shape ≡ true) × (core_kept crew ≡ core)) (λ _. fit core.shape ≡ false)
