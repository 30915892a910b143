use Rattle.std.proofs.Common.{◌≤◌, length}
use Rattle.walking.proofs.batch.write_batch.Given as goal

abbrev pub invariant-loop-unread : goal.invariant-loop-unread
invariant-loop-unread g l = length l.unread ≤ length l.batch

abbrev pub decreases-loop-unread : goal.decreases-loop-unread
decreases-loop-unread g l = length l.unread
