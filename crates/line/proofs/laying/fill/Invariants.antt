use Rattle.std.proofs.Common.{◌≡◌, ◌-◌, replicate}
use lib.Seq.{paste}
use Rattle.line.proofs.laying.fill.Given as goal

abbrev pub invariant-loop-word : goal.invariant-loop-word
invariant-loop-word g l =
    (g.B.Board.words l.board ≡ paste (g.B.Board.words l.initial.board) l.at (replicate (l.word - l.at) l.value) (l.word - l.at))
    × (g.B.Board.home l.board ≡ g.B.Board.home l.initial.board)
