use Rattle.std.proofs.Common.{◌≡◌, ◌≤◌, map, length, drop, vec_items, vec_len, vec_capacity}
use Rattle.runs.specs.Runs.{runs_on, said}
use Rattle.runs.proofs.running.Running.perform_all.Given as goal

-- the calls that are left lead to what the whole list leads to, and the answers still to come have room
abbrev pub invariant-loop-call : goal.invariant-loop-call
invariant-loop-call g l =
    (runs_on g.K.PartCall.performed g.K.PartCall.says (drop l.call-index l.calls) (map said (vec_items l.answers)) (g.B.Board.words l.self.board.now) l.self.trays.now (g.C.AnyCrew.core l.self.crew)
    ≡ runs_on g.K.PartCall.performed g.K.PartCall.says l.calls (map said (vec_items l.initial.answers)) (g.B.Board.words l.initial.self.board.now) l.initial.self.trays.now (g.C.AnyCrew.core l.initial.self.crew))
    × (vec_len l.answers ≡ l.call-index) × (length l.calls ≤ vec_capacity l.answers)
    × (l.self.board.ghost_name ≡ l.initial.self.board.ghost_name) × (l.self.trays.ghost_name ≡ l.initial.self.trays.ghost_name)
