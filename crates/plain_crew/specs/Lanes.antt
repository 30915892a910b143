-- A lane's row as plain numbers, and back.
--
-- lane_of      the row that the numbers mean; a stage that is none of 1 to 9 is at rest
-- plain_lane   the numbers of a row; those that its stage does not have are 0
use Rattle.std.specs.Prelude.{ℕ, cond, ◌==◌}
use Rattle.line.specs.declared.lane.Attempt.{Attempt}
use Rattle.line.specs.declared.lane.Attempt.TheVariants.{First, Second}
use Rattle.line.specs.declared.lane.LaneRow.{LaneRow}
use Rattle.line.specs.declared.lane.Stage.{Stage}
use Rattle.line.specs.declared.lane.Stage.TheVariants.{AtRest, TestSpace, TakeStamp, FillCell, MarkCell, Publish, Look, LoadHead, LoadFront, SwapSlot}
use Rattle.plain_crew.specs.declared.lane.PlainLane.{PlainLane}

abbrev pub attempt_number : Attempt → ℕ
attempt_number First = 1
attempt_number Second = 2

abbrev pub attempt_of : ℕ → Attempt
attempt_of n = cond (n == 2) Second First

-- the stages by their numbers, in the order of a post's grants
abbrev pub stage_numbered : ℕ → Attempt → ℕ → ℕ → ℕ → Stage
stage_numbered n attempt stamp seen head =
    cond (n == 1) TestSpace
    (cond (n == 2) TakeStamp
    (cond (n == 3) (FillCell stamp)
    (cond (n == 4) (MarkCell stamp)
    (cond (n == 5) (Publish stamp)
    (cond (n == 6) (Look attempt stamp)
    (cond (n == 7) (LoadHead attempt stamp seen)
    (cond (n == 8) (LoadFront attempt stamp seen head)
    (cond (n == 9) (SwapSlot attempt stamp seen) AtRest))))))))

abbrev pub stage_of : PlainLane → Stage
stage_of l = stage_numbered l.stage (attempt_of l.attempt) l.stamp l.seen l.head

abbrev pub lane_of : PlainLane → LaneRow
lane_of l = record { cells = l.cells; tail = l.tail; stage = stage_of l; grants = l.grants }

abbrev pub plain_stage : LaneRow → ℕ → ℕ → ℕ → ℕ → ℕ → PlainLane
plain_stage row n attempt stamp seen head =
    record {
      cells = row.cells;
      tail = row.tail;
      stage = n;
      attempt = attempt;
      head = head;
      stamp = stamp;
      seen = seen;
      grants = row.grants;
    }

abbrev pub plain_lane_at : LaneRow → Stage → PlainLane
plain_lane_at row AtRest = plain_stage row 0 0 0 0 0
plain_lane_at row TestSpace = plain_stage row 1 0 0 0 0
plain_lane_at row TakeStamp = plain_stage row 2 0 0 0 0
plain_lane_at row (FillCell stamp) = plain_stage row 3 0 stamp 0 0
plain_lane_at row (MarkCell stamp) = plain_stage row 4 0 stamp 0 0
plain_lane_at row (Publish stamp) = plain_stage row 5 0 stamp 0 0
plain_lane_at row (Look attempt stamp) = plain_stage row 6 (attempt_number attempt) stamp 0 0
plain_lane_at row (LoadHead attempt stamp seen) = plain_stage row 7 (attempt_number attempt) stamp seen 0
plain_lane_at row (LoadFront attempt stamp seen head) = plain_stage row 8 (attempt_number attempt) stamp seen head
plain_lane_at row (SwapSlot attempt stamp seen) = plain_stage row 9 (attempt_number attempt) stamp seen 0

abbrev pub plain_lane : LaneRow → PlainLane
plain_lane row = plain_lane_at row row.stage
