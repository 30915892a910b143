use Rattle.std.proofs.Common.{◌≡◌, ◌-◌}
use Rattle.runs.specs.Runs.{repeated}
use Rattle.runs.proofs.running.Running.grant.Given as goal

-- the grants that are left do what all of them do from the start
abbrev pub invariant-loop-made : goal.invariant-loop-made
invariant-loop-made g l =
    (repeated (g.G.Grant.grants l.grant) (l.times - l._made) (g.B.Board.words l.self.board.now) l.self.trays.now (g.C.AnyCrew.core l.self.crew)
    ≡ repeated (g.G.Grant.grants l.grant) l.times (g.B.Board.words l.initial.self.board.now) l.initial.self.trays.now (g.C.AnyCrew.core l.initial.self.crew))
    × (l.self.board.ghost_name ≡ l.initial.self.board.ghost_name) × (l.self.trays.ghost_name ≡ l.initial.self.trays.ghost_name)
