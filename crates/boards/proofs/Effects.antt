-- What each effect of a call is, by cases on the word that the call names; and what every effect keeps.
use Rattle.std.proofs.Common.{◌≡◌, ℕ, ◌+◌, ◌<◌, ◌≤◌, true, false, ltb, ◌≢◌, List, length, get_or, set, refl, ap, ◌∙◌, arith}
use Rattle.std.proofs.lemmas.List.{length-set, get_or-set_same, get_or-set_other, get_or_default, get_or_past, set_past}
use Rattle.std.proofs.lemmas.Bool.{cond_both}
use Rattle.std.proofs.lemmas.Bool.Decides.{nat_tests}
use Rattle.boards.specs.Words.{empty_word, stamp_limit, loaded, stored, swaps, swapped, taken, raised}
use Rattle.boards.specs.Laws.{TouchesOnly, NoOtherWord, AtWord, Beyond}

module _ (ws : List ℕ) (k : ℕ) where
  -- a word of the list

  pub swap_yes : (from to : ℕ) → k < length ws → get_or ws k 0 ≡ from → (swaps ws k from ≡ true) × (swapped ws k from to ≡ set ws k to)
  swap_yes from to h e = (grind (arith, nat_tests), grind (arith, nat_tests))

  pub swap_no : (from to : ℕ) → get_or ws k 0 ≢ from → (swaps ws k from ≡ false) × (swapped ws k from to ≡ ws)
  swap_no from to ne = (grind (arith, nat_tests), grind (arith, nat_tests))

  pub take_below : k < length ws → get_or ws k 0 < stamp_limit → (taken ws k ≡ get_or ws k 0) × (raised ws k ≡ set ws k (get_or ws k 0 + 1))
  take_below h lt = let w = get_or_default ws k 0 stamp_limit h in (grind (arith, nat_tests), grind (arith, nat_tests))

  pub take_full : k < length ws → stamp_limit ≤ get_or ws k 0 → (taken ws k ≡ stamp_limit) × (raised ws k ≡ ws)
  take_full h le = let w = get_or_default ws k 0 stamp_limit h in (grind (arith, nat_tests), grind (arith, nat_tests))

  -- beyond the length

  pub swap_past : (from to : ℕ) → length ws ≤ k → (swaps ws k from ≡ false) × (swapped ws k from to ≡ ws)
  swap_past from to h = (grind (arith, nat_tests), grind (arith, nat_tests))

  pub take_past : length ws ≤ k → (taken ws k ≡ stamp_limit) × (raised ws k ≡ ws)
  take_past h = let w = get_or_past ws k stamp_limit h in (grind (arith, nat_tests), grind (arith, nat_tests))

  -- what every call keeps

  nothing_touched : TouchesOnly k ws ws
  nothing_touched = record { size = refl; others = λ j d ne. refl }

  pub store_touches : (v : ℕ) → TouchesOnly k ws (stored ws k v)
  store_touches v = record { size = length-set ws k v; others = λ j d ne. get_or-set_other ws k j v d ne }

  pub swap_touches : (from to : ℕ) → TouchesOnly k ws (swapped ws k from to)
  swap_touches from to =
      cond_both (swaps ws k from) (set ws k to) ws (TouchesOnly k ws) (λ e. store_touches to) (λ e. nothing_touched)

  pub take_touches : TouchesOnly k ws (raised ws k)
  take_touches =
      cond_both (ltb (get_or ws k stamp_limit) stamp_limit) (set ws k (get_or ws k 0 + 1)) ws
      (TouchesOnly k ws)
      (λ e. store_touches (get_or ws k 0 + 1))
      (λ e. nothing_touched)

  pub touches : NoOtherWord ws k
  touches = record { by_store = store_touches; by_swap = swap_touches; by_take = take_touches }

  pub within : k < length ws → AtWord ws k (get_or ws k 0)
  within h =
      record {
        load = get_or_default ws k empty_word 0 h;
        store = λ v. get_or-set_same ws k v empty_word h;
        swap_yes = λ from to e. ((swap_yes from to h e).0, ap (λ after. loaded after k) (swap_yes from to h e).1 ∙ get_or-set_same ws k to empty_word h);
        swap_no = swap_no;
        take_below = λ lt. ((take_below h lt).0, ap (λ after. loaded after k) (take_below h lt).1 ∙ get_or-set_same ws k (get_or ws k 0 + 1) empty_word h);
        take_full = take_full h;
      }

  pub beyond : length ws ≤ k → Beyond ws k
  beyond h =
      record {
        load = get_or_past ws k empty_word h;
        store = λ v. set_past ws k v h;
        swap = λ from to. swap_past from to h;
        take = take_past h;
      }
