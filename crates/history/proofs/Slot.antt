-- The slot of one lane: what it may hold, by what the lane still has to do at it and by how far the collector is with the lane.
--
-- ring      the stamps of the lane's frames that are published and not freed, oldest first
-- duty      what a lane has to do at its slot: nothing; or, past publish with its own stamp, look at the slot, load the head (having seen a
--           word in the slot), or swap it. A lane at its front cell is counted by what it will find there: its own stamp, and so a swap
--           is due, or another's, and nothing is
-- view      the collector as the lane sees it: away; keeping the lane's stamp, up to the free; or past the free of a stamp, about to see the
--           slot, to read tail and front (having seen a word), or to swap
use Rattle.std.proofs.Common.{◌≡◌, ℕ, ◌≢◌, ◌⊎◌, List, [], ◌∷◌}
use Rattle.boards.specs.Words.{empty_word}
use Rattle.line.specs.declared.lane.Attempt.{Attempt}
use Rattle.line.specs.declared.lane.Attempt.TheVariants.{First, Second}

pub data Duty : Type 0 where
  quiet : Duty
  look : Attempt → ℕ → Duty
  head : Attempt → ℕ → ℕ → Duty
  swap : Attempt → ℕ → ℕ → Duty

pub data View : Type 0 where
  away : View
  kept : ℕ → View
  looks : Attempt → ℕ → View
  seen : Attempt → ℕ → ℕ → View
  swaps : Attempt → ℕ → ℕ → ℕ → View

-- the word that a ring wants in its slot
abbrev pub wanted : List ℕ → ℕ
wanted [] = empty_word
wanted (x ∷ xs) = x

-- The slot may be empty while the lane's own frame is alone in the ring: the lane is going to mend it.
abbrev pub Late : List ℕ → Duty → Type 0
Late R quiet = ⊥
Late R (look k s) = R ≡ s ∷ []
Late R (head First s v) = R ≡ s ∷ []
Late R (head Second s v) = (R ≡ s ∷ []) × (v ≡ empty_word)
Late R (swap First s v) = R ≡ s ∷ []
Late R (swap Second s v) = (R ≡ s ∷ []) × (v ≡ empty_word)

-- The collector may be about to empty the slot while the lane's own frame is alone in the ring: the lane's first try has yet to swap,
-- and will fail at it, or overtake the collector.
abbrev pub Stale : List ℕ → ℕ → Duty → Type 0
Stale R σ quiet = ⊥
Stale R σ (look First s) = R ≡ s ∷ []
Stale R σ (look Second s) = ⊥
Stale R σ (head First s v) = (R ≡ s ∷ []) × (v ≡ σ)
Stale R σ (head Second s v) = ⊥
Stale R σ (swap First s v) = (R ≡ s ∷ []) × (v ≡ σ)
Stale R σ (swap Second s v) = ⊥

-- the slot word σ, by the collector's view: m is the stamp kept or freed, v the word seen, w the word to be swapped in
abbrev pub ViewOk : List ℕ → ℕ → Duty → View → Type 0
ViewOk R σ l away = (σ ≡ wanted R) ⊎ ((σ ≡ empty_word) × Late R l)
ViewOk R σ l (kept m) = (σ ≡ m) × (wanted R ≡ m) × (m ≢ empty_word)
ViewOk R σ l (looks First m) = (σ ≢ empty_word) × ((σ ≡ m) ⊎ (σ ≡ wanted R))
ViewOk R σ l (looks Second m) = (σ ≢ empty_word) × (σ ≡ wanted R)
ViewOk R σ l (seen First m v) = (σ ≢ empty_word) × ((σ ≡ m) ⊎ (σ ≡ wanted R)) × ((v ≡ σ) ⊎ (v ≡ m))
ViewOk R σ l (seen Second m v) = (σ ≢ empty_word) × (σ ≡ wanted R)
ViewOk R σ l (swaps First m v w) =
    (σ ≢ empty_word) × ((σ ≡ m) ⊎ (σ ≡ wanted R)) × ((v ≡ σ) ⊎ (v ≡ m)) × (v ≡ σ → (w ≡ wanted R) ⊎ ((w ≡ empty_word) × (σ ≡ m) × Stale R σ l))
ViewOk R σ l (swaps Second m v w) = (σ ≢ empty_word) × (σ ≡ wanted R) × (w ≡ wanted R)

-- the slot word σ, by the lane's duty
abbrev pub DutyOk : List ℕ → ℕ → Duty → Type 0
DutyOk R σ quiet = Unit {0}
DutyOk R σ (look k s) = Unit {0}
DutyOk R σ (head k s v) = v ≡ empty_word → σ ≡ empty_word
DutyOk R σ (swap k s v) = ((R ≡ []) ⊎ (R ≡ s ∷ [])) × (v ≡ empty_word → (σ ≡ empty_word) × (R ≡ s ∷ []))

pub record SlotOk (R : List ℕ) (σ : ℕ) (l : Duty) (c : View) : Type 0 where
  pub view : ViewOk R σ l c
  pub lane : DutyOk R σ l

-- past the free, the stamp freed is the lane's own exactly if the ring has become empty
abbrev pub Tied : List ℕ → ℕ → View → Type 0
Tied R s away = Unit {0}
Tied R s (kept m) = Unit {0}
Tied R s (looks j m) = (R ≡ [] → m ≡ s) × (R ≡ s ∷ [] → m ≢ s)
Tied R s (seen j m v) = (R ≡ [] → m ≡ s) × (R ≡ s ∷ [] → m ≢ s)
Tied R s (swaps j m v w) = (R ≡ [] → m ≡ s) × (R ≡ s ∷ [] → m ≢ s)
