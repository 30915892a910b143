-- The calls: for every input the answer, and board, trays and crew afterwards.
--
-- Outcome      what a call tells, and the words, trays and crew that it leaves
-- CrewOutcome  the same of a call that is given neither board nor trays
-- tested       a call's tests in their fixed order: the first that fails refuses by its number and everything stays
use Rattle.std.specs.Prelude.{◌≡◌, ℕ, zero, suc, ◌+◌, ◌*◌, Bool, true, cond, not, ◌&&◌, List, [], ◌∷◌, ◌++◌, length, drop, replicate, ◌==◌, nat_le, nat_lt, slice_set}
use Rattle.boards.specs.Words.{empty_word, stamp_limit}
use Rattle.line.specs.declared.access.Access.{Access}
use Rattle.line.specs.declared.access.Place.TheVariants.{Hand}
use Rattle.line.specs.declared.access.Shape.{Shape}
use Rattle.line.specs.declared.collector.CollectNext.{CollectNext}
use Rattle.line.specs.declared.collector.CollectStage.{CollectStage}
use Rattle.line.specs.declared.collector.CollectStage.TheVariants.{Idle, ScanFirst, ScanSecond, Fetch, Free, SeeSlot, SeeTail, SeeFront, RefreshSlot, Ended}
use Rattle.line.specs.declared.crew.Core.{Core}
use Rattle.line.specs.declared.lane.LaneRow.{LaneRow}
use Rattle.line.specs.Answers.{Told, told, lane_told, collector_told, collected_told}
use Rattle.line.specs.Collect.{begun, begun_collector, collect_answer_at, collector, collector_access, collector_at, collector_next, delivered_after, heads_after, under_way}
use Rattle.line.specs.Crew.{shape, resting_crew, begun_row, row_of, with_row, with_collector, busy, posted_after, fill_of}
use Rattle.line.specs.Map.{words_needed, trays_needed, tray_of}
use Rattle.line.specs.Perform.{word_read, words_after, trays_after}
use Rattle.line.specs.Post.{lane_access, lane_answer, one_more, row_after, sound}

pub record Outcome (P : Type 0) : Type 0 where
  pub answer : Told
  pub words : List ℕ
  pub trays : List P
  pub crew : Core

pub record CrewOutcome : Type 0 where
  pub answer : Told
  pub crew : Core

-- a call did what the outcome says
pub record Gives {P : Type 0} (o : Outcome P) (a : Told) (ws : List ℕ) (ps : List P) (c : Core) : Type 0 where
  pub answer : a ≡ o.answer
  pub board : ws ≡ o.words
  pub trays : ps ≡ o.trays
  pub crew : c ≡ o.crew

pub record CrewGives (o : CrewOutcome) (a : Told) (c : Core) : Type 0 where
  pub answer : a ≡ o.answer
  pub crew : c ≡ o.crew

abbrev pub tested : {O : Type 0} → (ℕ → O) → List (Bool × ℕ) → O → O
tested refuse [] go = go
tested refuse (test ∷ tests) go = cond test.0 (tested refuse tests go) (refuse test.1)

abbrev pub laid : Core → Bool
laid c = nat_lt 0 c.shape.lanes

abbrev pub is_lane : Core → ℕ → Bool
is_lane c lane = nat_lt lane c.shape.lanes

-- Beginning a collect: the first scan starts at slot 0 with nothing kept.
abbrev pub refuse_crew : Core → ℕ → CrewOutcome
refuse_crew c number = record { answer = told number []; crew = c }

abbrev pub begin_collect_tests : Core → List (Bool × ℕ)
begin_collect_tests c = (laid c, 4) ∷ (not (begun c.collector.stage), 10) ∷ []

abbrev pub begins_collect : Core → CrewOutcome
begins_collect c = tested (refuse_crew c) (begin_collect_tests c) (record { answer = told 0 []; crew = with_collector c c.heads begun_collector c.delivered })

-- Settling: it repeats how the collect ended, and the collector is idle again.
abbrev pub settles_at : Core → CollectStage → CrewOutcome
settles_at c Idle = refuse_crew c 11
settles_at c (ScanFirst i best) = refuse_crew c 12
settles_at c (ScanSecond i bound best) = refuse_crew c 12
settles_at c (Fetch best) = refuse_crew c 12
settles_at c (Free best) = refuse_crew c 12
settles_at c (SeeSlot attempt best) = refuse_crew c 12
settles_at c (SeeTail attempt best seen) = refuse_crew c 12
settles_at c (SeeFront attempt best seen) = refuse_crew c 12
settles_at c (RefreshSlot attempt best seen fresh) = refuse_crew c 12
settles_at c (Ended how) = record { answer = collected_told how; crew = with_collector c c.heads (collector Idle 0) c.delivered }

abbrev pub settles : Core → CrewOutcome
settles c = tested (refuse_crew c) ((laid c, 4) ∷ []) (settles_at c c.collector.stage)

-- The fill of a lane; nothing changes.
abbrev pub fills : Core → ℕ → Told
fills c lane = tested (λ number. told number []) ((laid c, 4) ∷ (is_lane c lane, 5) ∷ []) (told 0 (fill_of c lane ∷ []))

-- Reporting: the two totals, once nothing is under way, the last collect is settled, and every lane's ring is empty.
abbrev pub all_below : (ℕ → Bool) → ℕ → Bool
all_below test zero = true
all_below test (suc n) = test n && all_below test n

abbrev pub lane_done : Core → ℕ → Bool
lane_done c lane = not (busy (row_of c lane).stage) && fill_of c lane == 0

abbrev pub all_done : Core → Bool
all_done c = not (begun c.collector.stage) && all_below (lane_done c) c.shape.lanes

abbrev pub reports : Core → Told
reports c = tested (λ number. told number []) ((laid c, 4) ∷ (all_done c, 13) ∷ []) (told 0 (c.posted ∷ c.delivered ∷ []))

-- Draining: the crew takes no more posts; all else stays.
abbrev pub drained : Core → Core
drained c =
    record {
      shape = c.shape;
      rows = c.rows;
      heads = c.heads;
      collector = c.collector;
      posted = c.posted;
      delivered = c.delivered;
      draining = true;
    }

-- the words of a line with nothing under way: the start stamp in the counter, the empty mark in the slots, and 0 in the
-- line's other words; further words stay
abbrev pub laid_words : List ℕ → ℕ → ℕ → ℕ → List ℕ
laid_words ws n k start = start ∷ replicate n empty_word ++ (replicate (2 * n + n * k) 0 ++ drop (words_needed (shape n k)) ws)

-- 1 to 16 lanes of 2 to 64 cells
abbrev pub is_shape : ℕ → ℕ → Bool
is_shape n k = nat_le 1 n && (nat_le n 16 && (nat_le 2 k && nat_le k 64))

module _ {P : Type 0} (ws : List ℕ) (ps : List P) (c : Core) where
  abbrev pub refuse : ℕ → Outcome P
  refuse number = record { answer = told number []; words = ws; trays = ps; crew = c }

  abbrev pub board_holds : Shape → Bool
  board_holds s = nat_le (words_needed s) (length ws)

  abbrev pub trays_hold : Shape → Bool
  trays_hold s = nat_le (trays_needed s) (length ps)

  -- Laying: words and crew have nothing under way; the trays stay.
  abbrev pub laying_tests : ℕ → ℕ → ℕ → List (Bool × ℕ)
  laying_tests n k start =
      (is_shape n k, 1)
      ∷ (nat_le start stamp_limit, 2)
      ∷ (not (begun c.collector.stage), 10)
      ∷ (board_holds (shape n k) && trays_hold (shape n k), 3)
      ∷ []

  abbrev pub lays : ℕ → ℕ → ℕ → Outcome P
  lays n k start =
      tested refuse (laying_tests n k start) (record { answer = told 0 []; words = laid_words ws n k start; trays = ps; crew = resting_crew n k })

  -- Beginning a post: its payload lies in the lane's hand, and its first grant tests the space.
  abbrev pub begin_post_tests : ℕ → List (Bool × ℕ)
  begin_post_tests lane = (laid c, 4) ∷ (trays_hold c.shape, 3) ∷ (is_lane c lane, 5) ∷ (not (busy (row_of c lane).stage), 6) ∷ []

  abbrev pub begins_post : ℕ → P → Outcome P
  begins_post lane x =
      tested refuse (begin_post_tests lane)
      (record { answer = told 0 []; words = ws; trays = slice_set ps (tray_of c.shape (Hand lane)) x; crew = with_row c lane (begun_row (row_of c lane)) c.posted })

  -- A lane's grant: one access, and what the lane makes of the word that it read. A row of which no lane can be made
  -- was never laid.
  abbrev pub lane_grant_tests : ℕ → List (Bool × ℕ)
  lane_grant_tests lane =
      (laid c, 4)
      ∷ (board_holds c.shape && trays_hold c.shape, 3)
      ∷ (is_lane c lane, 5)
      ∷ (sound (row_of c lane), 4)
      ∷ (busy (row_of c lane).stage, 7)
      ∷ []

  abbrev pub lane_steps : ℕ → LaneRow → Access → Outcome P
  lane_steps lane row access =
      let w = word_read c.shape access ws in
      record {
        answer = lane_told (lane_answer row w);
        words = words_after c.shape access ws;
        trays = trays_after c.shape access ps;
        crew = with_row c lane (row_after row w) (posted_after c.posted (lane_answer row w));
      }

  abbrev pub grants_lane : ℕ → Outcome P
  grants_lane lane =
      tested refuse (lane_grant_tests lane) (lane_steps lane (row_of c lane) (lane_access lane (row_of c lane) (row_of c lane).stage))

  -- The collector's grant: one access, and what the collector makes of the word that it read.
  abbrev pub collector_grant_tests : List (Bool × ℕ)
  collector_grant_tests = (laid c, 4) ∷ (board_holds c.shape && trays_hold c.shape, 3) ∷ (under_way c.collector.stage, 11) ∷ []

  abbrev pub collector_goes : Access → CollectNext → Outcome P
  collector_goes access next =
      record {
        answer = collector_told (collect_answer_at (one_more c.collector.grants) next);
        words = words_after c.shape access ws;
        trays = trays_after c.shape access ps;
        crew = with_collector c (heads_after c.shape c.heads c.collector.stage) (collector_at (one_more c.collector.grants) next) (delivered_after c.delivered next);
      }

  abbrev pub collector_steps : Access → Outcome P
  collector_steps access = collector_goes access (collector_next c.shape c.heads c.collector.stage (word_read c.shape access ws))

  abbrev pub grants_collector : Outcome P
  grants_collector = tested refuse collector_grant_tests (collector_steps (collector_access c.shape c.heads c.collector.stage))
