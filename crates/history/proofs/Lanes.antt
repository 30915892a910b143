-- One lane as the proofs see it: its words, its stage, and what they stand for.
--
-- LaneModel   slot, head, tail and stamp cells as they lie on the board; the stage of the lane's post; and, known only here, how many
--             frames were freed, the stamps of the ring (published and not freed, oldest first), and when the post of each stamp ended
-- waits       the stamps of the ring whose posts have ended
-- whole       the ring, with the stamp freed last before it while the collector is past its free
use Rattle.std.proofs.Common.{◌≡◌, ℕ, suc, ◌+◌, ◌%◌, ◌<◌, cond, eqb, List, [], ◌∷◌, ◌++◌, length}
use Rattle.std.specs.List.{AllByRecursion}
use Rattle.line.specs.declared.lane.Attempt.{Attempt}
use Rattle.line.specs.declared.lane.Attempt.TheVariants.{First, Second}
use Rattle.line.specs.declared.lane.Stage.{Stage}
use Rattle.line.specs.declared.lane.Stage.TheVariants.{AtRest, TestSpace, TakeStamp, FillCell, MarkCell, Publish, Look, LoadHead, LoadFront, SwapSlot}
use Rattle.order.specs.Tables.{upd}
use Rattle.history.proofs.Slot.{Duty, SlotOk, View}
use Rattle.history.proofs.Slot.Duty.{quiet, look, head, swap}
use Rattle.history.proofs.Slot.View.{away, kept, looks, seen, swaps}

pub record LaneModel : Type 0 where
  pub slot : ℕ
  pub heads : ℕ
  pub tails : ℕ
  pub cell : ℕ → ℕ
  pub stage : Stage
  pub freed : ℕ
  pub ring : List ℕ
  pub ended : ℕ → ℕ

-- what a lane has to do at its slot
abbrev pub duty : (ℕ → ℕ) → Stage → Duty
duty cell AtRest = quiet
duty cell TestSpace = quiet
duty cell TakeStamp = quiet
duty cell (FillCell s) = quiet
duty cell (MarkCell s) = quiet
duty cell (Publish s) = quiet
duty cell (Look k s) = look k s
duty cell (LoadHead k s v) = head k s v
duty cell (LoadFront k s v h) = cond (eqb (cell h) s) (swap k s v) quiet
duty cell (SwapSlot k s v) = swap k s v

-- The lane at another stage; with its stamp in the cell at the tail; with its frame published; and at the end of its post of stamp s, at this
-- time, with this slot word.
abbrev pub goes : LaneModel → Stage → LaneModel
goes l g =
    record { slot = l.slot; heads = l.heads; tails = l.tails; cell = l.cell; stage = g; freed = l.freed; ring = l.ring; ended = l.ended }

abbrev pub stores : LaneModel → ℕ → LaneModel
stores l s =
    record { slot = l.slot; heads = l.heads; tails = l.tails; cell = upd l.cell l.tails s; stage = Publish s; freed = l.freed; ring = l.ring; ended = l.ended }

abbrev pub publishes : ℕ → LaneModel → ℕ → LaneModel
publishes K l s =
    record { slot = l.slot; heads = l.heads; tails = (l.tails + 1) % K; cell = l.cell; stage = Look First s; freed = l.freed; ring = l.ring ++ s ∷ []; ended = l.ended }

abbrev pub ends : LaneModel → ℕ → ℕ → ℕ → LaneModel
ends l now s σ =
    record { slot = σ; heads = l.heads; tails = l.tails; cell = l.cell; stage = AtRest; freed = l.freed; ring = l.ring; ended = upd l.ended s now }

-- a swap that failed: the second try, or the end
abbrev pub retries : LaneModel → ℕ → ℕ → Attempt → LaneModel
retries l now s First = goes l (Look Second s)
retries l now s Second = ends l now s l.slot

-- the lane after a grant at its stage; the take of a stamp concerns the counter too and stands with the line
abbrev pub grant : ℕ → ℕ → LaneModel → Stage → LaneModel
grant K now l AtRest = l
grant K now l TestSpace = cond (eqb l.heads ((l.tails + 1) % K)) (goes l AtRest) (goes l TakeStamp)
grant K now l TakeStamp = l
grant K now l (FillCell s) = goes l (MarkCell s)
grant K now l (MarkCell s) = stores l s
grant K now l (Publish s) = publishes K l s
grant K now l (Look k s) = goes l (LoadHead k s l.slot)
grant K now l (LoadHead k s v) = cond (eqb l.heads l.tails) (ends l now s l.slot) (goes l (LoadFront k s v l.heads))
grant K now l (LoadFront k s v h) = cond (eqb (l.cell h) s) (goes l (SwapSlot k s v)) (ends l now s l.slot)
grant K now l (SwapSlot k s v) = cond (eqb l.slot v) (ends l now s s) (retries l now s k)

-- all but the last
abbrev pub front : List ℕ → List ℕ
front [] = []
front (x ∷ []) = []
front (x ∷ (y ∷ ys)) = x ∷ front (y ∷ ys)

-- past publish the last of the ring is the lane's own, whose post is under way
abbrev pub waits : List ℕ → Stage → List ℕ
waits R AtRest = R
waits R TestSpace = R
waits R TakeStamp = R
waits R (FillCell s) = R
waits R (MarkCell s) = R
waits R (Publish s) = R
waits R (Look k s) = front R
waits R (LoadHead k s v) = front R
waits R (LoadFront k s v h) = front R
waits R (SwapSlot k s v) = front R

abbrev pub whole : List ℕ → View → List ℕ
whole R away = R
whole R (kept m) = R
whole R (looks j m) = m ∷ R
whole R (seen j m v) = m ∷ R
whole R (swaps j m v w) = m ∷ R

-- the cells from place i on hold these stamps, round the ring
abbrev pub CellsHold : ℕ → (ℕ → ℕ) → ℕ → List ℕ → Type 0
CellsHold K cell i [] = Unit {0}
CellsHold K cell i (x ∷ xs) = (cell (i % K) ≡ x) × CellsHold K cell (suc i) xs

abbrev pub Rising : List ℕ → Type 0
Rising [] = Unit {0}
Rising (x ∷ xs) = AllByRecursion (λ y. x < y) xs × Rising xs

-- the list, if it is not empty, has s at its end, and lower stamps before it
abbrev pub Ends : ℕ → List ℕ → Type 0
Ends s [] = Unit {0}
Ends s (x ∷ []) = x ≡ s
Ends s (x ∷ (y ∷ ys)) = (x < s) × Ends s (y ∷ ys)

-- a stamp whose frame is published: the last of the list
pub record Own (counter s : ℕ) (L : List ℕ) : Type 0 where
  pub last : Ends s L
  pub taken : s < counter

-- a stamp whose frame is on its way into a ring of n frames: above all stamps of the list
pub record New (K counter s : ℕ) (L : List ℕ) (n : ℕ) : Type 0 where
  pub room : suc n < K
  pub above : AllByRecursion (λ x. x < s) L
  pub taken : s < counter

-- what the stage says of the list L, of the number n of frames in the ring, and of the cell at the tail t
abbrev pub StageOk : ℕ → ℕ → List ℕ → ℕ → ℕ → (ℕ → ℕ) → Stage → Type 0
StageOk K counter L n t cell AtRest = Unit {0}
StageOk K counter L n t cell TestSpace = Unit {0}
StageOk K counter L n t cell TakeStamp = suc n < K
StageOk K counter L n t cell (FillCell s) = New K counter s L n
StageOk K counter L n t cell (MarkCell s) = New K counter s L n
StageOk K counter L n t cell (Publish s) = New K counter s L n × (cell t ≡ s)
StageOk K counter L n t cell (Look k s) = Own counter s L
StageOk K counter L n t cell (LoadHead k s v) = Own counter s L
StageOk K counter L n t cell (LoadFront k s v h) = Own counter s L × (h < K)
StageOk K counter L n t cell (SwapSlot k s v) = Own counter s L

-- every stamp of the list was taken before its post ended, and that was before now
abbrev pub Timed : ℕ → (ℕ → ℕ) → (ℕ → ℕ) → List ℕ → Type 0
Timed now took ended W = AllByRecursion (λ x. (took x < ended x) × (ended x < now)) W

pub record LaneOk (K counter now : ℕ) (took : ℕ → ℕ) (l : LaneModel) (c : View) : Type 0 where
  pub small : length l.ring < K
  pub headed : l.heads ≡ l.freed % K
  pub tailed : l.tails ≡ (l.freed + length l.ring) % K
  pub holds : CellsHold K l.cell l.freed l.ring
  pub rising : Rising (whole l.ring c)
  pub below : AllByRecursion (λ x. x < counter) (whole l.ring c)
  pub stage : StageOk K counter (whole l.ring c) (length l.ring) l.tails l.cell l.stage
  pub slots : SlotOk l.ring l.slot (duty l.cell l.stage) c
  pub timed : Timed now took l.ended (waits l.ring l.stage)
