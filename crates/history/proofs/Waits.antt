-- The frames that wait, as the ring changes.
use Rattle.std.proofs.Common.{◌≡◌, ℕ, List, [], ◌∷◌, ◌++◌, refl, ap, arith}
use Rattle.std.specs.List.{AllByRecursion}
use Rattle.line.specs.declared.lane.Stage.{Stage}
use Rattle.history.proofs.Slot.{View}
use Rattle.history.proofs.Lanes.{Ends, front, waits, whole}

pub front_push : (s : ℕ) (R : List ℕ) → front (R ++ s ∷ []) ≡ R
front_push s [] = refl
front_push s (x ∷ []) = refl
front_push s (x ∷ (y ∷ R)) = ap (λ z. x ∷ z) (front_push s (y ∷ R))

-- the end of a post: its frame, if it is not freed, comes last
pub front_ends : (s x : ℕ) (R : List ℕ) → Ends s (x ∷ R) → x ∷ R ≡ front (x ∷ R) ++ s ∷ []
front_ends s x [] e = cc
front_ends s x (y ∷ R) (_, e) = ap (λ z. x ∷ z) (front_ends s y R e)

module _ (P : ℕ → Type 0) where
  pub all_with_last : (s : ℕ) (R : List ℕ) → Ends s R → AllByRecursion P (front R) → P s → AllByRecursion P R
  all_with_last s [] e h p = tt
  all_with_last s (x ∷ []) e h p = (rw e p, tt)
  all_with_last s (x ∷ (y ∷ R)) (_, e) (q, h) p = (q, all_with_last s (y ∷ R) e h p)

  front_all : (R : List ℕ) → AllByRecursion P R → AllByRecursion P (front R)
  front_all [] h = tt
  front_all (x ∷ []) h = tt
  front_all (x ∷ (y ∷ R)) (p, h) = (p, front_all (y ∷ R) h)

  front_behind : (x : ℕ) (R : List ℕ) → AllByRecursion P (front (x ∷ R)) → AllByRecursion P (front R)
  front_behind x [] h = tt
  front_behind x (y ∷ R) h = h.1

  pub waits_all : (R : List ℕ) (g : Stage) → AllByRecursion P R → AllByRecursion P (waits R g)
  waits_all R g h = grind (arith, front_all R h)

  pub waits_behind : (x : ℕ) (R : List ℕ) (g : Stage) → AllByRecursion P (waits (x ∷ R) g) → AllByRecursion P (waits R g)
  waits_behind x R g h = grind (arith, front_behind x R)

pub ends_part : (s : ℕ) (R : List ℕ) (c : View) → Ends s (whole R c) → Ends s R
ends_part s R c h = grind arith
