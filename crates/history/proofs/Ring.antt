-- Places of a ring of K cells: places less than K apart are different cells, so a write at the tail leaves the ring alone.
use Rattle.std.proofs.Common.{◌≡◌, ℕ, suc, ◌+◌, ◌/◌, ◌%◌, ◌<◌, ◌≤◌, ◌≢◌, List, [], ◌∷◌, ◌++◌, length, sym, refl, ap, ◌∙◌, add-zero, add-suc, suc-add, mul-le-mul_left, arith}
use native.Mathlib.Nat.{div-add-mod, mod-add-mod, add-mod_right}
use native.Mathlib.Decide.{dec_lt}
use Rattle.std.specs.List.{AllByRecursion}
use Rattle.std.proofs.lemmas.Bool.{ne_eqb}
use Rattle.std.proofs.ByRecursion.{All-push}
use Rattle.order.specs.Tables.{upd}
use Rattle.history.proofs.Lanes.{CellsHold, Rising, Ends}

-- places of a ring that are less than K apart
pub apart : (K i j : ℕ) → i < j → j < i + K → i % K ≢ j % K
apart K i j a b e =
    elim (dec_lt (i / K) (j / K)) [
      | yes l ↦ omega (arith, mul-le-mul_left K l, div-add-mod i K, div-add-mod j K)
      | no n ↦ let g : j / K ≤ i / K = omega arith in omega (arith, mul-le-mul_left K g, div-add-mod i K, div-add-mod j K)
    ]

pub holds_upd : (K i j s : ℕ) (cell : ℕ → ℕ) (R : List ℕ) → i + length R ≤ j → j < i + K → CellsHold K cell i R → CellsHold K (upd cell (j % K) s) i R
holds_upd K i j s cell [] a b h = tt
holds_upd K i j s cell (x ∷ R) a b (e, h) =
    (rw (ne_eqb (i % K) (j % K) (apart K i j (omega arith) (omega arith))) e, holds_upd K (suc i) j s cell R (omega arith) (omega arith) h)

pub holds_push : (K i s : ℕ) (cell : ℕ → ℕ) (R : List ℕ) → cell ((i + length R) % K) ≡ s → CellsHold K cell i R → CellsHold K cell i (R ++ s ∷ [])
holds_push K i s cell [] e h = (rw add-zero at e, tt)
holds_push K i s cell (x ∷ R) e (k, h) = (k, holds_push K (suc i) s cell R (rw (add-suc, ← suc-add) at e) h)

pub rising_push : (s : ℕ) (R : List ℕ) → AllByRecursion (λ x. x < s) R → Rising R → Rising (R ++ s ∷ [])
rising_push s [] a h = (tt, tt)
rising_push s (x ∷ R) (a, b) (g, h) = (All-push (λ y. x < y) R s g a, rising_push s R b h)

pub ends_push : (s : ℕ) (R : List ℕ) → AllByRecursion (λ x. x < s) R → Ends s (R ++ s ∷ [])
ends_push s [] a = refl
ends_push s (x ∷ []) a = (a.0, refl)
ends_push s (x ∷ (y ∷ R)) (a, b) = (a, ends_push s (y ∷ R) b)

-- the test for space finds a full ring, and only a full one
pub full_tail : (K f n : ℕ) → suc n ≡ K → f % K ≡ ((f + n) % K + 1) % K
full_tail K f n e = sym (add-mod_right f K) ∙ ap (λ x. x % K) (omega arith) ∙ sym (mod-add-mod (f + n) K 1)

pub full_only : (K f n : ℕ) → n < K → f % K ≡ ((f + n) % K + 1) % K → suc n ≡ K
full_only K f n a e =
    elim (dec_lt (suc n) K) [
      | yes y ↦ absurd (apart K f (f + n + 1) (omega arith) (omega arith) (e ∙ mod-add-mod (f + n) K 1))
      | no y ↦ omega arith
    ]
