-- The shapes that a crew can have: at most 16 lanes, and a line that is laid has cells to go round.
use Rattle.std.specs.Prelude.{◌<◌, ◌≤◌}
use Rattle.line.specs.declared.access.Shape.{Shape}

abbrev pub Within : Shape → Type 0
Within s = (s.lanes ≤ 16) × (0 < s.lanes → 0 < s.cells)
