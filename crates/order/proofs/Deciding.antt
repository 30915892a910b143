-- Tests on lists and on frames of numbers, and what they decide.
-- an element of a list that a test lets through
use Rattle.std.proofs.Common.{◌≡◌, ℕ, Bool, true, false, cond, ◌&&◌, ◌||◌, eqb, List, [], ◌∷◌, refl, ap, ◌∙◌, inl, inr}
use Rattle.std.specs.List.{AllByRecursion}
use Rattle.std.proofs.lemmas.Bool.{and_from, and_parts, eq-eqb, eqb-true, false≢true, or_cases, or_left, or_right}
use Rattle.order.specs.Tables.{In}
use Rattle.order.specs.SingleFile.{Frame, frame_of}

pub in_cond : {X : Type 0} (t : Bool) (x y : X) → In y (cond t (x ∷ []) []) → (t ≡ true) × (x ≡ y)
in_cond true x y (inl e) = (refl, e)
in_cond true x y (inr i) = absurd i
in_cond false x y i = absurd i

-- frames of numbers can be compared
abbrev pub same_frame : Frame ℕ → Frame ℕ → Bool
same_frame f h = eqb f.lane h.lane && (eqb f.stamp h.stamp && eqb f.payload h.payload)

pub same_frame_true : (f h : Frame ℕ) → same_frame f h ≡ true → f ≡ h
same_frame_true f h e =
    let p = and_parts (eqb f.lane h.lane) (eqb f.stamp h.stamp && eqb f.payload h.payload) e in
    let q = and_parts (eqb f.stamp h.stamp) (eqb f.payload h.payload) p.1 in
    λ i. frame_of (eqb-true f.lane h.lane p.0 i) (eqb-true f.stamp h.stamp q.0 i) (eqb-true f.payload h.payload q.1 i)

pub true_same_frame : (f h : Frame ℕ) → f ≡ h → same_frame f h ≡ true
true_same_frame f h e =
    and_from (eqb f.lane h.lane) (eqb f.stamp h.stamp && eqb f.payload h.payload) (eq-eqb f.lane h.lane (ap (λ (f : Frame ℕ). f.lane) e))
    (and_from (eqb f.stamp h.stamp) (eqb f.payload h.payload) (eq-eqb f.stamp h.stamp (ap (λ (f : Frame ℕ). f.stamp) e)) (eq-eqb f.payload h.payload (ap (λ (f : Frame ℕ). f.payload) e)))

abbrev pub any : {X : Type 0} → (X → Bool) → List X → Bool
any t [] = false
any t (x ∷ xs) = t x || any t xs

abbrev pub all : {X : Type 0} → (X → Bool) → List X → Bool
all t [] = true
all t (x ∷ xs) = t x && all t xs

module _ {X : Type 0} (t : X → Bool) where
  pub any_true : (xs : List X) → any t xs ≡ true → (x : X) × In x xs × (t x ≡ true)
  any_true [] e = absurd (false≢true e)
  any_true (x ∷ xs) e = elim (or_cases (t x) (any t xs) e) [ inl h ↦ (x, inl refl, h) | inr h ↦ (let n = any_true xs h in (n.0, inr n.1, n.2)) ]

  pub true_any : (xs : List X) (x : X) → In x xs → t x ≡ true → any t xs ≡ true
  true_any [] x i e = absurd i
  true_any (y ∷ xs) x (inl q) e = or_left (t y) (any t xs) (ap t q ∙ e)
  true_any (y ∷ xs) x (inr i) e = or_right (t y) (any t xs) (true_any xs x i e)

  pub all_true : (xs : List X) → all t xs ≡ true → AllByRecursion (λ (x : X). t x ≡ true) xs
  all_true [] e = tt
  all_true (x ∷ xs) e = let p = and_parts (t x) (all t xs) e in (p.0, all_true xs p.1)

  pub true_all : (xs : List X) → AllByRecursion (λ (x : X). t x ≡ true) xs → all t xs ≡ true
  true_all [] h = refl
  true_all (x ∷ xs) (h, hs) = and_from (t x) (all t xs) h (true_all xs hs)
