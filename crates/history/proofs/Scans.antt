-- What the scans know, and that it stays.
use Rattle.std.proofs.Common.{◌≡◌, ℕ, ◌+◌, ◌%◌, ◌<◌, ◌≤◌, cond, eqb, List, [], ◌∷◌, length, sym, ◌∙◌, inl, inr, arith}
use Rattle.std.specs.List.{AllByRecursion}
use Rattle.std.proofs.lemmas.Bool.{cond_both}
use Rattle.std.proofs.lemmas.Bool.Decides.{nat_tests}
use Rattle.std.proofs.ByRecursion.{All-weaker}
use Rattle.boards.specs.Words.{empty_word, stamp_limit}
use Rattle.line.specs.declared.lane.Attempt.TheVariants.{First, Second}
use Rattle.line.specs.declared.lane.Stage.{Stage}
use Rattle.line.specs.declared.lane.Stage.TheVariants.{AtRest, TestSpace, TakeStamp, FillCell, MarkCell, Publish, Look, LoadHead, LoadFront, SwapSlot}
use Rattle.order.specs.Tables.{upd}
use Rattle.history.proofs.Slot.{Duty, View, wanted, Late}
use Rattle.history.proofs.Slot.Duty.{quiet, look, head, swap}
use Rattle.history.proofs.Slot.View.{away}
use Rattle.history.proofs.Lanes.{LaneModel, duty, ends, grant, whole, Rising, Own, StageOk, LaneOk, Timed, waits, front}
use Rattle.history.proofs.Model.{After}
use Rattle.history.proofs.Waits.{front_push, all_with_last, waits_all, ends_part}

-- an earlier time
pub after_less : (a b : ℕ) (l : LaneModel) → a ≤ b → After b l → After a l
after_less a b l n h = All-weaker (λ x. b < l.ended x) (λ x. a < l.ended x) (λ x f. omega arith) (waits l.ring l.stage) h

late_short : (R : List ℕ) (d : Duty) → Late R d → front R ≡ []
late_short R d w = grind arith

module _ (K counter now : ℕ) (took : ℕ → ℕ) (l : LaneModel) (h : LaneOk K counter now took l away) (top : counter ≤ stamp_limit) where
  -- no frame waits where the own one is alone
  late_none : (P : ℕ → Type 0) (g : Stage) (R : List ℕ) → Late R (duty l.cell g) → AllByRecursion P (waits R g)
  late_none P AtRest R w = absurd w
  late_none P TestSpace R w = absurd w
  late_none P TakeStamp R w = absurd w
  late_none P (FillCell s) R w = absurd w
  late_none P (MarkCell s) R w = absurd w
  late_none P (Publish s) R w = absurd w
  late_none P (Look k s) R w = rw (late_short R (look k s) w) tt
  late_none P (LoadHead k s v) R w = rw (late_short R (head k s v) w) tt
  late_none P (LoadFront k s v p) R w = rw (late_short R (cond (eqb (l.cell p) s) (swap k s v) quiet) w) tt
  late_none P (SwapSlot k s v) R w = rw (late_short R (swap k s v) w) tt

  -- an empty slot: no frame of the lane waits
  pub loaded_none : (a : ℕ) → l.slot ≡ empty_word → After a l
  loaded_none a e = elim h.slots.view [ inl f ↦ waits_all _ l.ring l.stage (go l.ring h.below (sym f ∙ e)) | inr w ↦ late_none _ l.stage l.ring w.1 ]
    where
      go : (R : List ℕ) → AllByRecursion (λ x. x < counter) R → wanted R ≡ empty_word → AllByRecursion (λ x. a < l.ended x) R
      go [] b f = tt
      go (x ∷ R) b f = absurd (omega arith)

  -- a stamp: every frame of the lane took its own at that time or later
  pub loaded_some : ((x y : ℕ) → x ≤ y → y < counter → took x ≤ took y) → (m : ℕ) → m ≤ l.slot → After (took m) l
  loaded_some climbs m n =
      elim h.slots.view [
        | inl f ↦ join (waits l.ring l.stage) (waits_all (λ x. took m ≤ took x) l.ring l.stage (go l.ring h.below h.rising (rw f at n))) h.timed
        | inr w ↦ late_none _ l.stage l.ring w.1
      ]
    where
      go : (R : List ℕ) → AllByRecursion (λ x. x < counter) R → Rising R → m ≤ wanted R → AllByRecursion (λ x. took m ≤ took x) R
      go [] b r f = tt
      go (x ∷ R) (b, bs) (r, rs) f = (climbs m x f b, up R bs r)
        where
          up : (S : List ℕ) → AllByRecursion (λ x. x < counter) S → AllByRecursion (λ y. x < y) S → AllByRecursion (λ x. took m ≤ took x) S
          up [] b r = tt
          up (y ∷ S) (b, bs) (r, rs) = (climbs m y (omega arith) b, up S bs rs)

      join : (W : List ℕ) → AllByRecursion (λ x. took m ≤ took x) W → Timed now took l.ended W → AllByRecursion (λ x. took m < l.ended x) W
      join [] p q = tt
      join (x ∷ W) (p, ps) (q, qs) = (omega arith, join W ps qs)

-- a lane's grant leaves it so
module _ (K counter now : ℕ) (took : ℕ → ℕ) (l : LaneModel) (c : View) (a : ℕ) (past : a < now) where
  after_ends : (s σ : ℕ) → Own counter s (whole l.ring c) → AllByRecursion (λ x. a < l.ended x) (front l.ring) → After a (ends l now s σ)
  after_ends s σ o k =
      all_with_last _ s l.ring (ends_part s l.ring c o.last) (All-weaker (λ x. a < l.ended x) (λ x. a < upd l.ended s now x) (λ x f. grind (arith, nat_tests)) (front l.ring) k) (grind (arith, nat_tests))

  pub after_grant : (g : Stage) → StageOk K counter (whole l.ring c) (length l.ring) l.tails l.cell g → l.stage ≡ g → AllByRecursion (λ x. a < l.ended x) (waits l.ring g) → After a (grant K now l g)
  after_grant AtRest h e k = rw e k
  after_grant TestSpace h e k = cond_both (eqb l.heads ((l.tails + 1) % K)) _ _ (After a) (λ _. k) (λ _. k)
  after_grant TakeStamp h e k = rw e k
  after_grant (FillCell s) h e k = k
  after_grant (MarkCell s) h e k = k
  after_grant (Publish s) h e k = rw (front_push s l.ring) k
  after_grant (Look j s) h e k = k
  after_grant (LoadHead j s v) h e k = cond_both (eqb l.heads l.tails) _ _ (After a) (λ _. after_ends s l.slot h k) (λ _. k)
  after_grant (LoadFront j s v p) (h, i) e k = cond_both (eqb (l.cell p) s) _ _ (After a) (λ _. k) (λ _. after_ends s l.slot h k)
  after_grant (SwapSlot First s v) h e k = cond_both (eqb l.slot v) _ _ (After a) (λ _. after_ends s s h k) (λ _. k)
  after_grant (SwapSlot Second s v) h e k = cond_both (eqb l.slot v) _ _ (After a) (λ _. after_ends s s h k) (λ _. after_ends s l.slot h k)
