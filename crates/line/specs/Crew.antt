-- The crew: its shape, a row and a head copy for each lane, the collector, the two totals, and whether it drains.
--
-- never laid   a crew whose shape has no lanes
-- busy         a post is under way: its stage is not at rest
use Rattle.std.specs.Prelude.{◌≡◌, ℕ, ◌+◌, ◌-◌, ◌%◌, Bool, true, false, List, replicate, slice_index_or, slice_set}
use Rattle.line.specs.declared.access.Shape.{Shape}
use Rattle.line.specs.declared.collector.CollectStage.TheVariants.{Idle}
use Rattle.line.specs.declared.collector.Collector.{Collector}
use Rattle.line.specs.declared.crew.Core.{Core}
use Rattle.line.specs.declared.lane.LaneRow.{LaneRow}
use Rattle.line.specs.declared.lane.Stage.{Stage}
use Rattle.line.specs.declared.lane.Stage.TheVariants.{AtRest, TestSpace, TakeStamp, FillCell, MarkCell, Publish, Look, LoadHead, LoadFront, SwapSlot}
use Rattle.line.specs.declared.answer.LaneAnswer.{LaneAnswer}
use Rattle.line.specs.declared.answer.LaneAnswer.TheVariants.{On, Posted, Full, UsedUp}
use Rattle.line.specs.Collect.{collector, head_of}
use Rattle.line.specs.Post.{one_more}

abbrev pub shape : ℕ → ℕ → Shape
shape n k = record { lanes = n; cells = k }

abbrev pub resting_row : ℕ → LaneRow
resting_row k = record { cells = k; tail = 0; stage = AtRest; grants = 0 }

-- the row of a lane whose post has just begun
abbrev pub begun_row : LaneRow → LaneRow
begun_row row = record { cells = row.cells; tail = row.tail; stage = TestSpace; grants = 0 }

-- a crew of n lanes of k cells with nothing under way
abbrev pub resting_crew : ℕ → ℕ → Core
resting_crew n k =
    record {
      shape = shape n k;
      rows = replicate 16 (resting_row k);
      heads = replicate 16 0;
      collector = collector Idle 0;
      posted = 0;
      delivered = 0;
      draining = false;
    }

abbrev pub never_laid : Core
never_laid = resting_crew 0 0

abbrev pub row_of : Core → ℕ → LaneRow
row_of c lane = slice_index_or c.rows lane (resting_row 0)

-- what a lane's call changes: its row, and the total of posted frames
abbrev pub with_row : Core → ℕ → LaneRow → ℕ → Core
with_row c lane row posted =
    record {
      shape = c.shape;
      rows = slice_set c.rows lane row;
      heads = c.heads;
      collector = c.collector;
      posted = posted;
      delivered = c.delivered;
      draining = c.draining;
    }

-- what a collector's call changes: its stage and grants, the head copies, and the total of delivered frames
abbrev pub with_collector : Core → List ℕ → Collector → ℕ → Core
with_collector c heads collector delivered =
    record {
      shape = c.shape;
      rows = c.rows;
      heads = heads;
      collector = collector;
      posted = c.posted;
      delivered = delivered;
      draining = c.draining;
    }

-- the frames that lie in a lane's ring, by the crew's copies of its tail and head
abbrev pub fill_of : Core → ℕ → ℕ
fill_of c lane = ((row_of c lane).tail + c.shape.cells - head_of c.heads lane) % c.shape.cells

abbrev pub busy : Stage → Bool
busy AtRest = false
busy TestSpace = true
busy TakeStamp = true
busy (FillCell stamp) = true
busy (MarkCell stamp) = true
busy (Publish stamp) = true
busy (Look attempt stamp) = true
busy (LoadHead attempt stamp seen) = true
busy (LoadFront attempt stamp seen head) = true
busy (SwapSlot attempt stamp seen) = true

-- only a post that ends as posted counts
abbrev pub posted_after : ℕ → LaneAnswer → ℕ
posted_after total On = total
posted_after total (Posted stamp grants) = one_more total
posted_after total (Full grants) = total
posted_after total (UsedUp grants) = total

-- a call after the laying keeps the shape, and whether the crew drains
pub record Keeps (before after : Core) : Type 0 where
  pub shape : after.shape ≡ before.shape
  pub draining : after.draining ≡ before.draining
