-- What the numbers of a crew mean is the crew.
use Rattle.std.proofs.Common.{◌≡◌, ℕ, Bool, true, false, cond, not, ◌==◌, refl}
use Rattle.line.specs.declared.collector.Collected.TheVariants.{Empty, Delivered}
use Rattle.line.specs.declared.collector.CollectStage.{CollectStage}
use Rattle.line.specs.declared.collector.CollectStage.TheVariants.{Idle, ScanFirst, ScanSecond, Fetch, Free, SeeSlot, SeeTail, SeeFront, RefreshSlot, Ended}
use Rattle.line.specs.declared.lane.Attempt.TheVariants.{First, Second}
use Rattle.line.specs.declared.lane.LaneRow.{LaneRow}
use Rattle.line.specs.declared.lane.Stage.{Stage}
use Rattle.line.specs.declared.lane.Stage.TheVariants.{AtRest, TestSpace, TakeStamp, FillCell, MarkCell, Publish, Look, LoadHead, LoadFront, SwapSlot}
use Rattle.line.specs.Collect.{collector}
use Rattle.plain_crew.specs.Collectors.{collector_of, plain_collector_at}
use Rattle.plain_crew.specs.Crews.{NumbersMeanTheirCrew}
use Rattle.plain_crew.specs.Lanes.{lane_of, plain_lane, plain_lane_at}
use Rattle.plain_crew.proofs.Mapping.{mapped_back}

-- a row at another stage
abbrev row_at : LaneRow → Stage → LaneRow
row_at row s = record { cells = row.cells; tail = row.tail; stage = s; grants = row.grants }

-- the numbers of a row keep its cells, tail and grants whatever its stage
lane_undone_at : (row : LaneRow) (s : Stage) → lane_of (plain_lane_at row s) ≡ row_at row s
lane_undone_at row AtRest = refl
lane_undone_at row TestSpace = refl
lane_undone_at row TakeStamp = refl
lane_undone_at row (FillCell stamp) = refl
lane_undone_at row (MarkCell stamp) = refl
lane_undone_at row (Publish stamp) = refl
lane_undone_at row (Look First stamp) = refl
lane_undone_at row (Look Second stamp) = refl
lane_undone_at row (LoadHead First stamp seen) = refl
lane_undone_at row (LoadHead Second stamp seen) = refl
lane_undone_at row (LoadFront First stamp seen head) = refl
lane_undone_at row (LoadFront Second stamp seen head) = refl
lane_undone_at row (SwapSlot First stamp seen) = refl
lane_undone_at row (SwapSlot Second stamp seen) = refl

collector_undone_at : (g : ℕ) (s : CollectStage) → collector_of (plain_collector_at g s) ≡ collector s g
collector_undone_at g Idle = refl
collector_undone_at g (ScanFirst next kept) = refl
collector_undone_at g (ScanSecond next bound kept) = refl
collector_undone_at g (Fetch kept) = refl
collector_undone_at g (Free kept) = refl
collector_undone_at g (SeeSlot First kept) = refl
collector_undone_at g (SeeSlot Second kept) = refl
collector_undone_at g (SeeTail First kept seen) = refl
collector_undone_at g (SeeTail Second kept seen) = refl
collector_undone_at g (SeeFront First kept seen) = refl
collector_undone_at g (SeeFront Second kept seen) = refl
collector_undone_at g (RefreshSlot First kept seen fresh) = refl
collector_undone_at g (RefreshSlot Second kept seen fresh) = refl
collector_undone_at g (Ended (Empty grants)) = refl
collector_undone_at g (Ended (Delivered lane stamp grants)) = refl

draining_undone : (b : Bool) → not (cond b 1 0 == 0) ≡ b
draining_undone true = refl
draining_undone false = refl

pub numbers_mean_their_crew : NumbersMeanTheirCrew
numbers_mean_their_crew c = λ i.
    record {
      shape = c.shape;
      rows = mapped_back plain_lane lane_of (λ row. lane_undone_at row row.stage) c.rows i;
      heads = c.heads;
      collector = collector_undone_at c.collector.grants c.collector.stage i;
      posted = c.posted;
      delivered = c.delivered;
      draining = draining_undone c.draining i;
    }
