-- An array made by a call at each index of another, and mapping there and back.
use Rattle.std.proofs.Common.{◌≡◌, ℕ, ◌+◌, ◌<◌, ◌≤◌, zero, suc, List, [], ◌∷◌, map, length, get_or, ap, sym, refl, ◌∙◌, ⊎_elim, arith}
use Rattle.std.proofs.lemmas.Bool.{cases_lt}
use Rattle.std.proofs.lemmas.List.{ext_get_or, get_or-map, length-map}
use Rattle.std.specs.Array.{IsFromFnResult, IsFromFnResultFrom}
use denote.Param.Members.{Mut, Called}

module _ {F X Y : Type 0} {g : Mut F (ℕ × Unit {0}) Y} (Stays : F → Type 0) (h : X → Y) (xs : List X) (blank : X)
    (gives : (p : F) (i : ℕ) (y : Y) (q : F) → Stays p → i < length xs → Called g p (i, tt) y q → Stays q × (y ≡ h (get_or xs i blank))) where
  made_at : (f : F) (ys : List Y) (i n j : ℕ) → Stays f → i + n ≡ length xs → IsFromFnResultFrom g f ys i n → i ≤ j → j < length xs → get_or ys j (h blank) ≡ h (get_or xs j blank)
  made_at f ys i zero j stays all made low high = absurd (omega arith)
  made_at f ys i (suc n) j stays all (q, y, is, called, rest) low high =
      let now = gives f i y q stays (omega arith) called in
      ⊎_elim
      (λ later. made_at q ys (i + 1) n j now.0 (omega arith) rest (omega arith) high)
      (λ not_later. let here : j ≡ i = omega arith in ap (λ k. get_or ys k (h blank)) here ∙ is.1 (h blank) ∙ now.1 ∙ ap (λ k. h (get_or xs k blank)) (sym here))
      (cases_lt i j)

-- where each call, as long as the function stays as it was, gives h of the element at its index, the array is h of each
pub mapped_by_index :
    {F X Y : Type 0} {g : Mut F (ℕ × Unit {0}) Y} {f : F} {ys : List Y} {n : ℕ} → IsFromFnResult g f ys n
    → (Stays : F → Type 0) (h : X → Y) (xs : List X) (blank : X)
    → ((p : F) (i : ℕ) (y : Y) (q : F) → Stays p → i < length xs → Called g p (i, tt) y q → Stays q × (y ≡ h (get_or xs i blank)))
    → Stays f → n ≡ length xs → ys ≡ map h xs
mapped_by_index {f = f} {ys = ys} {n = n} made Stays h xs blank gives stays is-xs =
    ext_get_or (h blank) ys (map h xs) (made.long ∙ is-xs ∙ sym (length-map xs h))
    (λ i inside.
    let below : i < length xs = omega (made.long, is-xs, arith) in
    made_at Stays h xs blank gives f ys 0 n i stays (omega arith) made.each (omega arith) below ∙ sym (get_or-map h xs i blank (h blank) below))

-- to map there and back is to change nothing
pub mapped_back : {X Y : Type 0} (f : X → Y) (g : Y → X) → ((x : X) → g (f x) ≡ x) → (xs : List X) → map g (map f xs) ≡ xs
mapped_back f g undoes [] = refl
mapped_back f g undoes (x ∷ xs) = let behind = mapped_back f g undoes xs in λ i. undoes x i ∷ behind i
