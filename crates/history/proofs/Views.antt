-- What holds of every lane under its view of the collector, which is with one lane at most: as the collector stays with its lane, takes one
-- up, or leaves it, and as that lane changes.
use Rattle.std.proofs.Common.{◌≡◌, ℕ, Bool, true, false, cond, eqb, ◌≢◌, refl, inl, inr}
use Rattle.std.proofs.lemmas.Bool.{ne_eqb, eq-eqb, cond_both, eqb-true, eqb-false, cases_eq}
use Rattle.order.specs.Tables.{upd}
use Rattle.history.proofs.Slot.{View}
use Rattle.history.proofs.Slot.View.{away}
use Rattle.history.proofs.Lanes.{LaneModel}
use Rattle.history.proofs.Model.{on}

module _ (P : LaneModel → View → Type 0) (ls : ℕ → LaneModel) (r : ℕ) (c : View) (h : (q : ℕ) → P (ls q) (on r q c)) where
  -- of the lane that the collector is with, and of the others
  pub here : P (ls r) c
  here = rw (eq-eqb r r refl) at (h r)

  pub there : (q : ℕ) → q ≢ r → P (ls q) away
  there q n = rw (ne_eqb q r n) at (h q)

  -- the lane changes, and the collector goes on with it
  pub turns : (l : LaneModel) (d : View) → P l d → (q : ℕ) → P (upd ls r l q) (on r q d)
  turns l d k q = both (eqb q r) (λ e. there q (eqb-false q r e))
    where
      both : (b : Bool) → (b ≡ false → P (ls q) away) → P (cond b l (ls q)) (cond b d away)
      both true f = k
      both false f = f refl

  -- the lane changes, and the collector leaves it; or it leaves the lane as it is
  pub leaves : (l : LaneModel) → P l away → (q : ℕ) → P (upd ls r l q) away
  leaves l k q = cond_both (eqb q r) l (ls q) (λ x. P x away) (λ _. k) (λ e. there q (eqb-false q r e))

  pub drops : P (ls r) away → (q : ℕ) → P (ls q) away
  drops k q = elim (cases_eq q r) [ inl e ↦ rw e k | inr n ↦ there q n ]

  -- the collector goes on, and the lane stays
  pub views : (d : View) → P (ls r) d → (q : ℕ) → P (ls q) (on r q d)
  views d k q = cond_both (eqb q r) d away (P (ls q)) (λ e. rw (eqb-true q r e) k) (λ e. there q (eqb-false q r e))

-- the collector takes up a lane
pub enters : (P : LaneModel → View → Type 0) (ls : ℕ → LaneModel) (r : ℕ) (d : View) → ((q : ℕ) → P (ls q) away) → P (ls r) d → (q : ℕ) → P (ls q) (on r q d)
enters P ls r d h k q = cond_both (eqb q r) d away (P (ls q)) (λ e. rw (eqb-true q r e) k) (λ e. h q)
