-- The slot stays right through every step of the lane and of the collector: the tables of the slot, step by step.
use Rattle.std.proofs.Common.{ℕ, ◌≢◌, List, [], ◌∷◌, ◌++◌, refl, inl, arith}
use Rattle.boards.specs.Words.{empty_word}
use Rattle.line.specs.declared.lane.Attempt.{Attempt}
use Rattle.line.specs.declared.lane.Attempt.TheVariants.{First, Second}
use Rattle.history.proofs.Slot.{Duty, View, wanted, SlotOk, Tied}
use Rattle.history.proofs.Slot.Duty.{quiet, look, head, swap}
use Rattle.history.proofs.Slot.View.{away, kept, looks, seen, swaps}

-- a line just laid
pub laid : SlotOk [] empty_word quiet away
laid = record { view = inl refl; lane = tt }

-- the lane: its frame is published
pub published : (R : List ℕ) (σ s : ℕ) (c : View) → SlotOk R σ quiet c → SlotOk (R ++ s ∷ []) σ (look First s) c
published R σ s c h = grind arith

-- it sees what the slot holds
pub looked : (R : List ℕ) (σ s : ℕ) (k : Attempt) (c : View) → SlotOk R σ (look k s) c → SlotOk R σ (head k s σ) c
looked R σ s k c h = grind arith

-- its frame is the only one: it is going to swap
pub alone : (σ s v : ℕ) (k : Attempt) (c : View) → SlotOk (s ∷ []) σ (head k s v) c → SlotOk (s ∷ []) σ (swap k s v) c
alone σ s v k c h = grind arith

-- its frame is freed already, or another stands before it: the slot is not its business
pub gone : (R : List ℕ) (σ s v : ℕ) (k : Attempt) (c : View) → R ≢ s ∷ [] → SlotOk R σ (head k s v) c → SlotOk R σ quiet c
gone R σ s v k c n h = grind arith

-- its swap went through
pub won : (R : List ℕ) (s v : ℕ) (k : Attempt) (c : View) → s ≢ empty_word → Tied R s c → SlotOk R v (swap k s v) c → SlotOk R s quiet c
won R s v k c n t h = grind arith

-- its first swap failed, and its second
pub lost : (R : List ℕ) (σ s v : ℕ) (c : View) → σ ≢ v → SlotOk R σ (swap First s v) c → SlotOk R σ (look Second s) c
lost R σ s v c n h = grind arith

pub lost_again : (R : List ℕ) (σ s v : ℕ) (c : View) → σ ≢ v → SlotOk R σ (swap Second s v) c → SlotOk R σ quiet c
lost_again R σ s v c n h = grind arith

-- the collector: a scan keeps the stamp of the slot, and gives it up for a lower one
pub keep : (R : List ℕ) (σ : ℕ) (l : Duty) → σ ≢ empty_word → SlotOk R σ l away → SlotOk R σ l (kept σ)
keep R σ l n h = grind arith

pub drop : (R : List ℕ) (σ m : ℕ) (l : Duty) → SlotOk R σ l (kept m) → SlotOk R σ l away
drop R σ m l h = grind arith

-- the frame kept is freed
pub free : (R : List ℕ) (σ x m : ℕ) (l : Duty) → SlotOk (x ∷ R) σ l (kept m) → SlotOk R σ l (looks First m)
free R σ x m l h = grind arith

-- it sees what the slot holds
pub see : (R : List ℕ) (σ m : ℕ) (j : Attempt) (l : Duty) → SlotOk R σ l (looks j m) → SlotOk R σ l (seen j m σ)
see R σ m j l h = grind arith

-- it has read, from tail and front, what the ring wants in the slot
pub read : (R : List ℕ) (σ m v : ℕ) (j : Attempt) (l : Duty) → SlotOk R σ l (seen j m v) → SlotOk R σ l (swaps j m v (wanted R))
read R σ m v j l h = grind arith

-- its swap went through
pub wrote : (R : List ℕ) (m v w : ℕ) (j : Attempt) (l : Duty) → SlotOk R v l (swaps j m v w) → SlotOk R w l away
wrote R m v w j l h = grind arith

-- its first swap failed, and its second
pub failed : (R : List ℕ) (σ m v w : ℕ) (l : Duty) → σ ≢ v → SlotOk R σ l (swaps First m v w) → SlotOk R σ l (looks Second m)
failed R σ m v w l n h = grind arith

pub failed_again : (R : List ℕ) (σ m v w : ℕ) (l : Duty) → SlotOk R σ l (swaps Second m v w) → SlotOk R σ l away
failed_again R σ m v w l h = grind arith
