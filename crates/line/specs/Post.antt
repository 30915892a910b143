-- A post, grant by grant: which access a lane at its stage makes, and what it does next once it has the word read.
--
-- row          a lane as the crew keeps it: cells, tail copy, stage of its post, grants the post has had
-- own stamp    the stamp that the post took from the counter
-- attempt      the slot is told of the frame in at most two tries of four grants each
use Rattle.std.specs.Prelude.{ℕ, ◌+◌, ◌-◌, ◌%◌, ◌^◌, min, Bool, cond, ◌&&◌, ◌==◌, nat_le, nat_lt}
use Rattle.boards.specs.Words.{stamp_limit}
use Rattle.line.specs.declared.access.Address.TheVariants.{Counter, Slot, Head, Tail, CellStamp}
use Rattle.line.specs.declared.access.Place.TheVariants.{Hand, Cell}
use Rattle.line.specs.declared.access.Access.{Access}
use Rattle.line.specs.declared.access.Access.TheVariants.{Nothing, Load, Store, Swap, Take, CopyTray}
use Rattle.line.specs.declared.answer.LaneAnswer.{LaneAnswer}
use Rattle.line.specs.declared.answer.LaneAnswer.TheVariants.{On, Posted, Full, UsedUp}
use Rattle.line.specs.declared.lane.Attempt.TheVariants.{First, Second}
use Rattle.line.specs.declared.lane.LaneRow.{LaneRow}
use Rattle.line.specs.declared.lane.Next.{Next}
use Rattle.line.specs.declared.lane.Next.TheVariants.{Goes, EndsPosted, EndsFull, EndsUsedUp}
use Rattle.line.specs.declared.lane.Stage.{Stage}
use Rattle.line.specs.declared.lane.Stage.TheVariants.{AtRest, TestSpace, TakeStamp, FillCell, MarkCell, Publish, Look, LoadHead, LoadFront, SwapSlot}

-- the cell after the tail, round the ring
abbrev pub next_tail : LaneRow → ℕ
next_tail row = (row.tail + 1) % row.cells

-- the one access of lane r at its stage
abbrev pub lane_access : ℕ → LaneRow → Stage → Access
lane_access r row AtRest = Nothing
lane_access r row TestSpace = Load (Head r)
lane_access r row TakeStamp = Take Counter
lane_access r row (FillCell stamp) = CopyTray (Hand r) (Cell r row.tail)
lane_access r row (MarkCell stamp) = Store (CellStamp r row.tail) stamp
lane_access r row (Publish stamp) = Store (Tail r) (next_tail row)
lane_access r row (Look attempt stamp) = Load (Slot r)
lane_access r row (LoadHead attempt stamp seen) = Load (Head r)
lane_access r row (LoadFront attempt stamp seen head) = Load (CellStamp r head)
lane_access r row (SwapSlot attempt stamp seen) = Swap (Slot r) seen stamp

-- the stage and the word that the grant read decide together what comes next
abbrev pub lane_next : LaneRow → Stage → ℕ → Next
lane_next row AtRest w = Goes AtRest
lane_next row TestSpace w = cond (w % row.cells == next_tail row) EndsFull (Goes TakeStamp)
lane_next row TakeStamp w = cond (w == stamp_limit) EndsUsedUp (Goes (FillCell w))
lane_next row (FillCell stamp) w = Goes (MarkCell stamp)
lane_next row (MarkCell stamp) w = Goes (Publish stamp)
lane_next row (Publish stamp) w = Goes (Look First stamp)
lane_next row (Look attempt stamp) w = Goes (LoadHead attempt stamp w)
lane_next row (LoadHead attempt stamp seen) w =
    cond (w % row.cells == row.tail) (EndsPosted stamp) (Goes (LoadFront attempt stamp seen (w % row.cells)))
lane_next row (LoadFront attempt stamp seen head) w = cond (w == stamp) (Goes (SwapSlot attempt stamp seen)) (EndsPosted stamp)
lane_next row (SwapSlot First stamp seen) w = cond (w == 0) (Goes (Look Second stamp)) (EndsPosted stamp)
lane_next row (SwapSlot Second stamp seen) w = EndsPosted stamp

-- a count goes up by one and stops at 2^64 − 1
abbrev pub one_more : ℕ → ℕ
one_more n = min (n + 1) (2 ^ 64 - 1)

-- publishing moves the tail copy; nothing else does
abbrev pub tail_after : LaneRow → Stage → ℕ
tail_after row AtRest = row.tail
tail_after row TestSpace = row.tail
tail_after row TakeStamp = row.tail
tail_after row (FillCell stamp) = row.tail
tail_after row (MarkCell stamp) = row.tail
tail_after row (Publish stamp) = next_tail row
tail_after row (Look attempt stamp) = row.tail
tail_after row (LoadHead attempt stamp seen) = row.tail
tail_after row (LoadFront attempt stamp seen head) = row.tail
tail_after row (SwapSlot attempt stamp seen) = row.tail

-- the row of a lane whose post goes on or has ended
abbrev pub row_at : LaneRow → ℕ → Next → LaneRow
row_at row tail (Goes stage) = record { cells = row.cells; tail = tail; stage = stage; grants = one_more row.grants }
row_at row tail (EndsPosted stamp) = record { cells = row.cells; tail = tail; stage = AtRest; grants = 0 }
row_at row tail EndsFull = record { cells = row.cells; tail = tail; stage = AtRest; grants = 0 }
row_at row tail EndsUsedUp = record { cells = row.cells; tail = tail; stage = AtRest; grants = 0 }

-- a lane's row after a grant that read the word w
abbrev pub row_after : LaneRow → ℕ → LaneRow
row_after row w = row_at row (tail_after row row.stage) (lane_next row row.stage w)

-- what the grant answers, once counted
abbrev pub answer_at : ℕ → Next → LaneAnswer
answer_at grants (Goes stage) = On
answer_at grants (EndsPosted stamp) = Posted stamp grants
answer_at grants EndsFull = Full grants
answer_at grants EndsUsedUp = UsedUp grants

abbrev pub lane_answer : LaneRow → ℕ → LaneAnswer
lane_answer row w = answer_at (one_more row.grants) (lane_next row row.stage w)

-- a row of which a lane can be made
abbrev pub sound : LaneRow → Bool
sound row = nat_le 2 row.cells && (nat_le row.cells 64 && nat_lt row.tail row.cells)
