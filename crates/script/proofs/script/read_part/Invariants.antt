use Rattle.std.proofs.Common.{length, vec_items}
use Rattle.script.proofs.Readings.{ReadSoFar}
use Rattle.script.proofs.script.read_part.Given as goal

abbrev pub invariant-loop-unread : goal.invariant-loop-unread
invariant-loop-unread g l = ReadSoFar g.C.Call.item (vec_items l.calls) l.at l.rest l.unread

abbrev pub decreases-loop-unread : goal.decreases-loop-unread
decreases-loop-unread g l = length l.unread
