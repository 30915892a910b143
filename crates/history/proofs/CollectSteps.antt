-- The collector's grants keep what holds of the lane.
use Rattle.std.proofs.Common.{◌≡◌, ℕ, suc, ◌+◌, ◌<◌, ◌≤◌, ◌≢◌, List, [], ◌∷◌, length, sym, refl, ap, ◌∙◌, arith}
use native.Mathlib.Nat.{mod-add-mod}
use Rattle.std.specs.List.{AllByRecursion}
use Rattle.boards.specs.Words.{empty_word}
use Rattle.line.specs.declared.lane.Attempt.{Attempt}
use Rattle.line.specs.declared.lane.Attempt.TheVariants.{First, Second}
use Rattle.line.specs.declared.lane.Stage.{Stage}
use Rattle.line.specs.declared.lane.Stage.TheVariants.{AtRest, TestSpace, TakeStamp, FillCell, MarkCell, Publish, Look, LoadHead, LoadFront, SwapSlot}
use Rattle.history.proofs.Slot.{View, wanted, SlotOk}
use Rattle.history.proofs.Slot.View.{away, kept, looks, seen, swaps}
use Rattle.history.proofs.Lanes.{LaneModel, duty, whole, Rising, Ends, StageOk, LaneOk}
use Rattle.history.proofs.Model.{rest_of, freeing, slotting}
use Rattle.history.proofs.Waits.{waits_behind}
use Rattle.history.proofs.SlotSteps as slot

-- a list that loses its first keeps its end
ends_behind : (s m : ℕ) (R : List ℕ) → Ends s (m ∷ R) → Ends s R
ends_behind s m R h = grind arith

-- the stage, as the frame freed last is forgotten
stage_behind : (K counter m : ℕ) (R : List ℕ) (n t : ℕ) (cell : ℕ → ℕ) (g : Stage) → StageOk K counter (m ∷ R) n t cell g → StageOk K counter R n t cell g
stage_behind K counter m R n t cell AtRest h = tt
stage_behind K counter m R n t cell TestSpace h = tt
stage_behind K counter m R n t cell TakeStamp h = h
stage_behind K counter m R n t cell (FillCell s) h = record { room = h.room; above = h.above.1; taken = h.taken }
stage_behind K counter m R n t cell (MarkCell s) h = record { room = h.room; above = h.above.1; taken = h.taken }
stage_behind K counter m R n t cell (Publish s) (h, e) = (record { room = h.room; above = h.above.1; taken = h.taken }, e)
stage_behind K counter m R n t cell (Look k s) h = record { last = ends_behind s m R h.last; taken = h.taken }
stage_behind K counter m R n t cell (LoadHead k s v) h = record { last = ends_behind s m R h.last; taken = h.taken }
stage_behind K counter m R n t cell (LoadFront k s v p) (h, i) = (record { last = ends_behind s m R h.last; taken = h.taken }, i)
stage_behind K counter m R n t cell (SwapSlot k s v) h = record { last = ends_behind s m R h.last; taken = h.taken }

-- the stage, as the ring gets shorter
stage_shorter : (K counter : ℕ) (L : List ℕ) (n n' t : ℕ) (cell : ℕ → ℕ) (g : Stage) → n' ≤ n → StageOk K counter L n t cell g → StageOk K counter L n' t cell g
stage_shorter K counter L n n' t cell AtRest a h = tt
stage_shorter K counter L n n' t cell TestSpace a h = tt
stage_shorter K counter L n n' t cell TakeStamp a h = omega arith
stage_shorter K counter L n n' t cell (FillCell s) a h = record { room = omega (arith, h.room); above = h.above; taken = h.taken }
stage_shorter K counter L n n' t cell (MarkCell s) a h = record { room = omega (arith, h.room); above = h.above; taken = h.taken }
stage_shorter K counter L n n' t cell (Publish s) a (h, e) = (record { room = omega (arith, h.room); above = h.above; taken = h.taken }, e)
stage_shorter K counter L n n' t cell (Look k s) a h = h
stage_shorter K counter L n n' t cell (LoadHead k s v) a h = h
stage_shorter K counter L n n' t cell (LoadFront k s v p) a h = h
stage_shorter K counter L n n' t cell (SwapSlot k s v) a h = h

module _ (K counter now : ℕ) (took : ℕ → ℕ) (l : LaneModel) where
  abbrev Ok : LaneModel → View → Type 0
  Ok l c = LaneOk K counter now took l c

  -- another view with the same list
  same_whole : (c d : View) → whole l.ring c ≡ whole l.ring d → Ok l c → SlotOk l.ring l.slot (duty l.cell l.stage) d → Ok l d
  same_whole c d e h b =
      record { small = h.small; headed = h.headed; tailed = h.tailed; holds = h.holds; rising = rw e at h.rising; below = rw e at h.below; stage = rw e at h.stage; slots = b; timed = h.timed }

  pub keep : l.slot ≢ empty_word → Ok l away → Ok l (kept l.slot)
  keep n h = same_whole away (kept l.slot) refl h (slot.keep _ _ _ n h.slots)

  pub drop : (m : ℕ) → Ok l (kept m) → Ok l away
  drop m h = same_whole (kept m) away refl h (slot.drop _ _ m _ h.slots)

  pub see : (j : Attempt) (m : ℕ) → Ok l (looks j m) → Ok l (seen j m l.slot)
  see j m h = same_whole (looks j m) (seen j m l.slot) refl h (slot.see _ _ m j _ h.slots)

  pub read : (j : Attempt) (m v w : ℕ) → w ≡ wanted l.ring → Ok l (seen j m v) → Ok l (swaps j m v w)
  read j m v w e h = same_whole (seen j m v) (swaps j m v w) refl h (rw e (slot.read _ _ m v j _ h.slots))

  pub failed : (m v w : ℕ) → l.slot ≢ v → Ok l (swaps First m v w) → Ok l (looks Second m)
  failed m v w n h = same_whole (swaps First m v w) (looks Second m) refl h (slot.failed _ _ m v w _ n h.slots)

  -- the end of the collect
  collect_left : (m σ : ℕ) (c : View) → whole l.ring c ≡ m ∷ l.ring → Ok l c → SlotOk l.ring σ (duty l.cell l.stage) away → Ok (slotting l σ) away
  collect_left m σ c e h b =
      let r : Rising (m ∷ l.ring) = rw e at h.rising in
      let k : AllByRecursion (λ x. x < counter) (m ∷ l.ring) = rw e at h.below in
      record { small = h.small; headed = h.headed; tailed = h.tailed; holds = h.holds; rising = r.1; below = k.1; stage = stage_behind K counter m l.ring (length l.ring) l.tails l.cell l.stage (rw e at h.stage); slots = b; timed = h.timed }

  pub wrote : (j : Attempt) (m v w : ℕ) → l.slot ≡ v → Ok l (swaps j m v w) → Ok (slotting l w) away
  wrote j m v w e h = collect_left m w (swaps j m v w) refl h (slot.wrote _ m v w j _ (rw e at h.slots))

  pub failed_again : (m v w : ℕ) → Ok l (swaps Second m v w) → Ok l away
  failed_again m v w h = collect_left m l.slot (swaps Second m v w) refl h (slot.failed_again _ _ m v w _ h.slots)

  pub free : (m : ℕ) (R : List ℕ) → l.ring ≡ R → Ok l (kept m) → Ok (freeing K l) (looks First m)
  free m [] e h = absurd (h.slots.view.2 (sym h.slots.view.1 ∙ ap wanted e))
  free m (x ∷ R) e h =
      let n : length l.ring ≡ suc (length R) = ap length e in
      let is : m ≡ x = sym h.slots.view.1 ∙ ap wanted e in
      let all : whole l.ring (kept m) ≡ m ∷ R = e ∙ cc in
      let q : rest_of l.ring ≡ R = ap rest_of e in
      record {
        small = rw q (omega (arith, h.small));
        headed = let z : suc l.freed ≡ l.freed + 1 = omega arith in cc (h.headed, mod-add-mod l.freed K 1);
        tailed = let z : suc l.freed + length (rest_of l.ring) ≡ l.freed + length l.ring = rw q (omega arith) in cc h.tailed;
        holds = rw q (rw e at h.holds).1;
        rising = rw q (rw all at h.rising);
        below = rw q (rw all at h.below);
        stage = rw q (stage_shorter K counter (m ∷ R) (length (m ∷ R)) (length R) l.tails l.cell l.stage (omega arith) (rw all at h.stage));
        slots = rw q (slot.free R _ x m _ (rw e at h.slots));
        timed = rw q (waits_behind _ x R l.stage (rw e at h.timed));
      }
