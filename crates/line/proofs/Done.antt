-- Lanes tested one after another, from the first on, are all done just as the definition says.
use Rattle.std.proofs.Common.{◌≡◌, ℕ, zero, suc, ◌+◌, Bool, true, false, ◌&&◌, nat_lt, sym, refl, ap, ◌∙◌, add-one, zero-add, arith}
use Rattle.std.proofs.lemmas.Bool.{lt-ltb}
use Rattle.std.specs.List.{list_all, range_with_len}
use Rattle.line.specs.Calls.{all_below}

swapped : (x y z : Bool) → ((x && y) && z) ≡ (y && (x && z))
swapped true y z = refl
swapped false true z = refl
swapped false false z = refl

and_true : (x : Bool) → (x && true) ≡ x
and_true true = refl
and_true false = refl

module _ (test : ℕ → Bool) (limit : ℕ) where
  abbrev there : ℕ → Bool
  there i = nat_lt i limit && test i

  rest_below : (n at : ℕ) → at + n ≡ limit → (list_all there (range_with_len at n) && all_below test at) ≡ all_below test limit
  rest_below zero at e = let same : at ≡ limit = omega arith in ap (all_below test) same
  rest_below (suc n) at e =
      ap (λ t. ((t && test at) && list_all there (range_with_len (at + 1) n)) && all_below test at) (lt-ltb at limit (omega arith))
      ∙ swapped (test at) _ (all_below test at)
      ∙ ap (λ m. list_all there (range_with_len (at + 1) n) && all_below test m) (sym (add-one at))
      ∙ rest_below n (at + 1) (omega arith)

  pub all_below_by_turns : list_all there (range_with_len 0 limit) ≡ all_below test limit
  all_below_by_turns = sym (and_true _) ∙ rest_below limit 0 (zero-add limit)
