-- Reading the items of one part of a script, one after another.
use Rattle.std.proofs.Common.{◌≡◌, ℕ, ◌+◌, ◌-◌, ◌<◌, ◌≤◌, List, [], ◌∷◌, ◌++◌, length, drop, Some, None, Option, Ok, Err, Result, sym, refl, ap, ◌∙◌, subst, arith, length-drop}
use Rattle.std.proofs.lemmas.Bool.Decides.{nat_tests}
use Rattle.std.proofs.lemmas.List.{drop-drop}
use Rattle.script.specs.declared.fault.Fault.{Fault}
use Rattle.script.specs.declared.fault.FaultAt.{FaultAt}
use Rattle.script.specs.declared.record.Record.{Record}
use Rattle.script.specs.Records.{rest_at, two}
use Rattle.script.specs.Scripts.{CallsUpTo, Stops, next_item}

module _ {C : Type 0} (item_of : Record → Result (Option C) Fault) where
  -- a record whose item is read lies whole in its bytes
  pub item_within : (bs : List ℕ) (i : Option C) → next_item item_of bs ≡ Ok i → (4 ≤ length bs) × (4 ≤ two bs 0) × (two bs 0 ≤ length bs)
  item_within bs i h = grind (arith, nat_tests)

  -- the bytes `bs` at place `at` are the end of `xs`, which starts at `from`
  abbrev pub EndOf : ℕ → List ℕ → ℕ → List ℕ → Type 0
  EndOf from xs at bs = (from ≤ at) × (at + length bs ≡ from + length xs) × (bs ≡ drop (at - from) xs)

  pub all_of : (from : ℕ) (xs : List ℕ) → EndOf from xs from xs
  all_of from xs = let none : from - from ≡ 0 = omega arith in (omega arith, refl, rw none)

  pub passed : (from : ℕ) (xs : List ℕ) (at : ℕ) (bs : List ℕ) (i : Option C) → next_item item_of bs ≡ Ok i → EndOf from xs at bs → EndOf from xs (at + two bs 0) (rest_at bs)
  passed from xs at bs i h p =
      let w = item_within bs i h in
      let n : at - from + two bs 0 ≡ at + two bs 0 - from = omega arith in (
        omega arith,
        omega (arith, length-drop (two bs 0) bs),
        ap (drop (two bs 0)) p.2 ∙ drop-drop (two bs 0) (at - from) xs ∙ ap (λ k. drop k xs) n,
      )

  -- what holds behind the calls may be told otherwise there
  pub retold : (S T : ℕ → List ℕ → Type 0) (from : ℕ) (xs : List ℕ) → ((at : ℕ) (bs : List ℕ) → EndOf from xs at bs → S at bs → T at bs) → (cs : List C) (at : ℕ) (bs : List ℕ) → EndOf from xs at bs → CallsUpTo item_of S cs at bs → CallsUpTo item_of T cs at bs
  retold S T from xs tell [] at bs p h = tell at bs p h
  retold S T from xs tell (c ∷ cs) at bs p h =
      (h.0, retold S T from xs tell cs (at + two bs 0) (rest_at bs) (passed from xs at bs (Some c) h.0 p) h.1)

  -- what follows from it alone, holds
  pub behind_calls : (R : Type 0) (cs : List C) (at : ℕ) (bs : List ℕ) → CallsUpTo item_of (λ _ _. R) cs at bs → R
  behind_calls R [] at bs h = h
  behind_calls R (c ∷ cs) at bs h = behind_calls R cs (at + two bs 0) (rest_at bs) h.1

  -- calls behind calls
  pub joined_calls : (S : ℕ → List ℕ → Type 0) (cs ds : List C) (at : ℕ) (bs : List ℕ) → CallsUpTo item_of (CallsUpTo item_of S ds) cs at bs → CallsUpTo item_of S (cs ++ ds) at bs
  joined_calls S [] ds at bs h = h
  joined_calls S (c ∷ cs) ds at bs h = (h.0, joined_calls S cs ds (at + two bs 0) (rest_at bs) h.1)

  -- the bytes `left` are still to be read
  abbrev pub Left : List ℕ → ℕ → List ℕ → Type 0
  Left left at bs = bs ≡ left

  -- `items` are read of `xs`, which stands at `from`; `left` is to be read
  abbrev pub ReadSoFar : List C → ℕ → List ℕ → List ℕ → Type 0
  ReadSoFar items from xs left = (length left ≤ length xs) × CallsUpTo item_of (Left left) items from xs

  -- the place where `left` starts
  abbrev pub place_of : ℕ → List ℕ → List ℕ → ℕ
  place_of from xs left = from + (length xs - length left)

  pub stops : (S : ℕ → List ℕ → Type 0) (items : List C) (from : ℕ) (xs left : List ℕ) → ReadSoFar items from xs left → S (place_of from xs left) left → CallsUpTo item_of S items from xs
  stops S items from xs left inv h =
      retold (Left left) S from xs
      (λ at bs p e. let place : place_of from xs left ≡ at = omega (arith, ap length e) in subst (λ a. S a bs) place (subst (S (place_of from xs left)) (sym e) h))
      items from xs (all_of from xs) inv.1

  -- what is left behind an item is shorter, and starts at the place behind it
  behind_item : (from : ℕ) (xs left left' : List ℕ) (i : Option C) → next_item item_of left ≡ Ok i → left' ≡ rest_at left → length left ≤ length xs → (length left' < length left) × (place_of from xs left' ≡ place_of from xs left + two left 0)
  behind_item from xs left left' i h rest le =
      let w = item_within left i h in
      let len = length-drop (two left 0) left in
      rw rest (omega arith, omega arith)

  -- one more call is read
  pub one_more : (items items' : List C) (c : C) (from : ℕ) (xs left left' : List ℕ) → items' ≡ items ++ c ∷ [] → next_item item_of left ≡ Ok (Some c) → left' ≡ rest_at left → ReadSoFar items from xs left → (length left' < length left) × ReadSoFar items' from xs left'
  one_more items items' c from xs left left' more called rest inv =
      let p = behind_item from xs left left' (Some c) called rest inv.0 in
      let S : ℕ → List ℕ → Type 0 = Left left' in
      let within : length left' ≤ length xs = omega arith in
      (p.0, (within, rw more (joined_calls S items (c ∷ []) from xs (stops (CallsUpTo item_of S (c ∷ [])) items from xs left inv (called, sym rest)))))

  -- the next record is faulty
  pub faulted : (items : List C) (f : FaultAt) (from : ℕ) (xs left : List ℕ) → 0 < length left → next_item item_of left ≡ Err f.fault → f.at ≡ place_of from xs left → ReadSoFar items from xs left → CallsUpTo item_of (Stops item_of (Err f)) items from xs
  faulted items f from xs left more refused place inv =
      stops (Stops item_of (Err f)) items from xs left inv (more, refused, place)

  -- the drain is read
  pub drained : (items : List C) (from : ℕ) (xs left left' : List ℕ) → next_item item_of left ≡ Ok None → left' ≡ rest_at left → ReadSoFar items from xs left → (length left' ≤ length xs) × CallsUpTo item_of (Stops item_of (Ok (Some (place_of from xs left')))) items from xs
  drained items from xs left left' drains rest inv =
      let p = behind_item from xs left left' None drains rest inv.0 in
      (omega arith, stops (Stops item_of (Ok (Some (place_of from xs left')))) items from xs left inv (drains, p.1))

  -- the bytes behind the drain lie within those that were read
  pub drain_within : (items : List C) (stop : Result (Option ℕ) FaultAt) (behind from : ℕ) (xs : List ℕ) → stop ≡ Ok (Some behind) → CallsUpTo item_of (Stops item_of stop) items from xs → (from ≤ behind) × (behind ≤ from + length xs)
  drain_within items stop behind from xs e h =
      let R : Type 0 = (from ≤ behind) × (behind ≤ from + length xs) in
      behind_calls R items from xs
      (retold (Stops item_of (Ok (Some behind))) (λ _ _. R) from xs (λ at bs p s. let w = item_within bs None s.0 in (omega arith, omega arith)) items from xs (all_of from xs) (rw e at h))
