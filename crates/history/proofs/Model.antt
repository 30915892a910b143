-- The line as the proofs see it: its lanes, the counter, and how far the collector is.
--
-- LineModel   n lanes of K cells; the counter; the time; when each stamp was taken; when the collect began; the lanes; the collector
-- Progress    the collector: at rest (idle, or ended and not settled); in its first scan, with nothing kept or with a lane and stamp kept;
--             in its second scan, up to the lane that the first one kept; about to fetch or to free the frame of the lane and stamp kept; and
--             past the free, with the word seen in the slot, and the one to be swapped in
-- After a l   every frame of the lane whose post has ended, ended after time a
use Rattle.std.proofs.Common.{◌≡◌, ℕ, suc, ◌+◌, ◌%◌, ◌<◌, ◌≤◌, cond, eqb, ltb, ◌≢◌, ◌⊎◌, List, [], ◌∷◌}
use Rattle.std.specs.List.{AllByRecursion}
use Rattle.boards.specs.Words.{empty_word, stamp_limit}
use Rattle.line.specs.declared.lane.Attempt.{Attempt}
use Rattle.line.specs.declared.lane.Attempt.TheVariants.{First, Second}
use Rattle.line.specs.declared.lane.Stage.{Stage}
use Rattle.line.specs.declared.lane.Stage.TheVariants.{AtRest, TestSpace, TakeStamp, FillCell, MarkCell, Publish, Look, LoadHead, LoadFront, SwapSlot}
use Rattle.order.specs.Tables.{upd}
use Rattle.history.proofs.Slot.{View}
use Rattle.history.proofs.Slot.View.{away, kept, looks, seen, swaps}
use Rattle.history.proofs.Lanes.{LaneModel, LaneOk, goes, grant, waits}

pub data Progress : Type 0 where
  rest : Progress
  scan : ℕ → Progress
  scan_kept : ℕ → ℕ → ℕ → Progress
  again : ℕ → ℕ → ℕ → ℕ → Progress
  fetch : ℕ → ℕ → Progress
  frees : ℕ → ℕ → Progress
  looking : ℕ → Attempt → ℕ → Progress
  tailing : ℕ → Attempt → ℕ → ℕ → Progress
  fronting : ℕ → Attempt → ℕ → ℕ → Progress
  swapping : ℕ → Attempt → ℕ → ℕ → ℕ → Progress

-- the collector as lane q sees it: with lane r only
abbrev pub on : ℕ → ℕ → View → View
on r q c = cond (eqb q r) c away

abbrev pub view : Progress → ℕ → View
view rest q = away
view (scan i) q = away
view (scan_kept i b m) q = on b q (kept m)
view (again j b r m) q = on r q (kept m)
view (fetch r m) q = on r q (kept m)
view (frees r m) q = on r q (kept m)
view (looking r j m) q = on r q (looks j m)
view (tailing r j m v) q = on r q (seen j m v)
view (fronting r j m v) q = on r q (seen j m v)
view (swapping r j m v w) q = on r q (swaps j m v w)

pub record LineModel : Type 0 where
  pub n : ℕ
  pub K : ℕ
  pub counter : ℕ
  pub now : ℕ
  pub took : ℕ → ℕ
  pub began : ℕ
  pub lanes : ℕ → LaneModel
  pub col : Progress

abbrev pub After : ℕ → LaneModel → Type 0
After a l = AllByRecursion (λ x. a < l.ended x) (waits l.ring l.stage)

-- all but the first
abbrev pub rest_of : List ℕ → List ℕ
rest_of [] = []
rest_of (x ∷ xs) = xs

-- the lane after its first frame was freed, and with another slot word
abbrev pub freeing : ℕ → LaneModel → LaneModel
freeing K l =
    record { slot = l.slot; heads = (l.heads + 1) % K; tails = l.tails; cell = l.cell; stage = l.stage; freed = suc l.freed; ring = rest_of l.ring; ended = l.ended }

abbrev pub slotting : LaneModel → ℕ → LaneModel
slotting l σ =
    record { slot = σ; heads = l.heads; tails = l.tails; cell = l.cell; stage = l.stage; freed = l.freed; ring = l.ring; ended = l.ended }

-- one call later, with these lanes and the collector there
abbrev pub moved : LineModel → (ℕ → LaneModel) → Progress → LineModel
moved s ls c = record { n = s.n; K = s.K; counter = s.counter; now = suc s.now; took = s.took; began = s.began; lanes = ls; col = c }

-- lane r has taken the next stamp
abbrev pub taken : LineModel → ℕ → LineModel
taken s r =
    record {
      n = s.n;
      K = s.K;
      counter = suc s.counter;
      now = suc s.now;
      took = upd s.took s.counter s.now;
      began = s.began;
      lanes = upd s.lanes r (goes (s.lanes r) (FillCell s.counter));
      col = s.col;
    }

-- a post begins, and a collect
abbrev pub begun_post : LineModel → ℕ → LineModel
begun_post s r = moved s (upd s.lanes r (goes (s.lanes r) TestSpace)) s.col

abbrev pub begun_collect : LineModel → LineModel
begun_collect s =
    record { n = s.n; K = s.K; counter = s.counter; now = suc s.now; took = s.took; began = s.now; lanes = s.lanes; col = scan 0 }

-- a lane's grant
abbrev pub moves : LineModel → ℕ → Stage → LineModel
moves s r g = moved s (upd s.lanes r (grant s.K s.now (s.lanes r) g)) s.col

abbrev pub grant_lane : LineModel → ℕ → Stage → LineModel
grant_lane s r TakeStamp = cond (ltb s.counter stamp_limit) (taken s r) (moved s (upd s.lanes r (goes (s.lanes r) AtRest)) s.col)
grant_lane s r AtRest = moves s r AtRest
grant_lane s r TestSpace = moves s r TestSpace
grant_lane s r (FillCell x) = moves s r (FillCell x)
grant_lane s r (MarkCell x) = moves s r (MarkCell x)
grant_lane s r (Publish x) = moves s r (Publish x)
grant_lane s r (Look k x) = moves s r (Look k x)
grant_lane s r (LoadHead k x v) = moves s r (LoadHead k x v)
grant_lane s r (LoadFront k x v h) = moves s r (LoadFront k x v h)
grant_lane s r (SwapSlot k x v) = moves s r (SwapSlot k x v)

-- where the scans go on to: with nothing kept; in the second scan; and with a lane kept
abbrev pub next_none : ℕ → ℕ → Progress
next_none n i = cond (eqb i n) rest (scan i)

abbrev pub next_again : ℕ → ℕ → ℕ → ℕ → Progress
next_again j b r m = cond (eqb j b) (fetch r m) (again j b r m)

abbrev pub next_kept : ℕ → ℕ → ℕ → ℕ → Progress
next_kept n i b m = cond (eqb i n) (next_again 0 b b m) (scan_kept i b m)

-- after a swap that failed
abbrev pub retry : ℕ → Attempt → ℕ → Progress
retry r First m = looking r Second m
retry r Second m = rest

-- the collector's grant
abbrev pub collect : LineModel → Progress → LineModel
collect s rest = s
collect s (scan i) =
    cond (eqb (s.lanes i).slot empty_word) (moved s s.lanes (next_none s.n (suc i)))
    (moved s s.lanes (next_kept s.n (suc i) i (s.lanes i).slot))
collect s (scan_kept i b m) =
    cond (ltb (s.lanes i).slot m) (moved s s.lanes (next_kept s.n (suc i) i (s.lanes i).slot))
    (moved s s.lanes (next_kept s.n (suc i) b m))
collect s (again j b r m) =
    cond (ltb (s.lanes j).slot m) (moved s s.lanes (next_again (suc j) b j (s.lanes j).slot))
    (moved s s.lanes (next_again (suc j) b r m))
collect s (fetch r m) = moved s s.lanes (frees r m)
collect s (frees r m) = moved s (upd s.lanes r (freeing s.K (s.lanes r))) (looking r First m)
collect s (looking r j m) = moved s s.lanes (tailing r j m (s.lanes r).slot)
collect s (tailing r j m v) =
    cond (eqb (s.lanes r).tails (s.lanes r).heads) (moved s s.lanes (swapping r j m v empty_word)) (moved s s.lanes (fronting r j m v))
collect s (fronting r j m v) = moved s s.lanes (swapping r j m v ((s.lanes r).cell (s.lanes r).heads))
collect s (swapping r j m v w) =
    cond (eqb (s.lanes r).slot v) (moved s (upd s.lanes r (slotting (s.lanes r) w)) rest) (moved s s.lanes (retry r j m))

-- what the scans know: of the lanes they saw, no frame waits that ended before the collect began, or before the kept stamp was taken
abbrev pub ProgressOk : LineModel → Progress → Type 0
ProgressOk s rest = Unit {0}
ProgressOk s (scan i) = (i < s.n) × (s.began < s.now) × ((q : ℕ) → q < i → After s.began (s.lanes q))
ProgressOk s (scan_kept i b m) = (i < s.n) × (b < i) × ((q : ℕ) → b ≤ q → q < i → After (s.took m) (s.lanes q))
ProgressOk s (again j b r m) =
    (j < b) × (b < s.n) × ((r ≡ b) ⊎ (r < j)) × ((q : ℕ) → q < s.n → (q < j) ⊎ (b ≤ q) → After (s.took m) (s.lanes q))
ProgressOk s (fetch r m) = (r < s.n) × ((q : ℕ) → q < s.n → After (s.took m) (s.lanes q))
ProgressOk s (frees r m) = (r < s.n) × ((q : ℕ) → q < s.n → After (s.took m) (s.lanes q))
ProgressOk s (looking r j m) = r < s.n
ProgressOk s (tailing r j m v) = r < s.n
ProgressOk s (fronting r j m v) = (r < s.n) × ((s.lanes r).ring ≢ [])
ProgressOk s (swapping r j m v w) = r < s.n

-- `climbs`: a lower stamp was not taken later
pub record ModelOk (s : LineModel) : Type 0 where
  pub posts : (q : ℕ) → LaneOk s.K s.counter s.now s.took (s.lanes q) (view s.col q)
  pub ticks : (x : ℕ) → x < s.counter → s.took x < s.now
  pub climbs : (x y : ℕ) → x ≤ y → y < s.counter → s.took x ≤ s.took y
  pub top : s.counter ≤ stamp_limit
  pub cols : ProgressOk s s.col
