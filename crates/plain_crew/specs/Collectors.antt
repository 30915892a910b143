-- The collector as plain numbers, and back.
--
-- collector_of      the collector that the numbers mean; a stage that is none of 1 to 10 is idle
-- plain_collector   the numbers of a collector; those that its stage does not have are 0
use Rattle.std.specs.Prelude.{ℕ, cond, ◌==◌}
use Rattle.line.specs.declared.collector.Collected.TheVariants.{Empty, Delivered}
use Rattle.line.specs.declared.collector.CollectStage.{CollectStage}
use Rattle.line.specs.declared.collector.CollectStage.TheVariants.{Idle, ScanFirst, ScanSecond, Fetch, Free, SeeSlot, SeeTail, SeeFront, RefreshSlot, Ended}
use Rattle.line.specs.declared.collector.Collector.{Collector}
use Rattle.line.specs.declared.collector.Kept.{Kept}
use Rattle.line.specs.declared.lane.Attempt.{Attempt}
use Rattle.plain_crew.specs.declared.collector.PlainCollector.{PlainCollector}
use Rattle.plain_crew.specs.Lanes.{attempt_number, attempt_of}

-- the stages by their numbers, in the order of a collect's grants
abbrev pub collect_stage_at : PlainCollector → Attempt → Kept → CollectStage
collect_stage_at p attempt kept =
    cond (p.stage == 1) (ScanFirst p.next kept)
    (cond (p.stage == 2) (ScanSecond p.next p.bound kept)
    (cond (p.stage == 3) (Fetch kept)
    (cond (p.stage == 4) (Free kept)
    (cond (p.stage == 5) (SeeSlot attempt kept)
    (cond (p.stage == 6) (SeeTail attempt kept p.seen)
    (cond (p.stage == 7) (SeeFront attempt kept p.seen)
    (cond (p.stage == 8) (RefreshSlot attempt kept p.seen p.fresh)
    (cond (p.stage == 9) (Ended (Empty p.ended_grants))
    (cond (p.stage == 10) (Ended (Delivered p.ended_lane p.stamp p.ended_grants)) Idle)))))))))

abbrev pub collect_stage_of : PlainCollector → CollectStage
collect_stage_of p = collect_stage_at p (attempt_of p.attempt) (record { lane = p.kept_lane; stamp = p.stamp })

abbrev pub collector_of : PlainCollector → Collector
collector_of p = record { stage = collect_stage_of p; grants = p.grants }

-- the numbers of a collect under way that keeps a lane and a stamp
abbrev pub plain_keeping : ℕ → ℕ → ℕ → ℕ → ℕ → Kept → ℕ → ℕ → PlainCollector
plain_keeping grants n attempt next bound kept seen fresh =
    record {
      stage = n;
      attempt = attempt;
      next = next;
      bound = bound;
      kept_lane = kept.lane;
      stamp = kept.stamp;
      seen = seen;
      fresh = fresh;
      ended_lane = 0;
      ended_grants = 0;
      grants = grants;
    }

-- the numbers of a collector with no collect under way
abbrev pub plain_resting : ℕ → ℕ → ℕ → ℕ → ℕ → PlainCollector
plain_resting grants n lane stamp ended =
    record {
      stage = n;
      attempt = 0;
      next = 0;
      bound = 0;
      kept_lane = 0;
      stamp = stamp;
      seen = 0;
      fresh = 0;
      ended_lane = lane;
      ended_grants = ended;
      grants = grants;
    }

abbrev pub plain_collector_at : ℕ → CollectStage → PlainCollector
plain_collector_at g Idle = plain_resting g 0 0 0 0
plain_collector_at g (ScanFirst next kept) = plain_keeping g 1 0 next 0 kept 0 0
plain_collector_at g (ScanSecond next bound kept) = plain_keeping g 2 0 next bound kept 0 0
plain_collector_at g (Fetch kept) = plain_keeping g 3 0 0 0 kept 0 0
plain_collector_at g (Free kept) = plain_keeping g 4 0 0 0 kept 0 0
plain_collector_at g (SeeSlot attempt kept) = plain_keeping g 5 (attempt_number attempt) 0 0 kept 0 0
plain_collector_at g (SeeTail attempt kept seen) = plain_keeping g 6 (attempt_number attempt) 0 0 kept seen 0
plain_collector_at g (SeeFront attempt kept seen) = plain_keeping g 7 (attempt_number attempt) 0 0 kept seen 0
plain_collector_at g (RefreshSlot attempt kept seen fresh) = plain_keeping g 8 (attempt_number attempt) 0 0 kept seen fresh
plain_collector_at g (Ended (Empty grants)) = plain_resting g 9 0 0 grants
plain_collector_at g (Ended (Delivered lane stamp grants)) = plain_resting g 10 lane stamp grants

abbrev pub plain_collector : Collector → PlainCollector
plain_collector k = plain_collector_at k.grants k.stage
