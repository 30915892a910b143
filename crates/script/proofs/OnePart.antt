-- Laws of reading one part of a script. `S` and `T` speak of where its calls stop.
use Rattle.std.proofs.Common.{◌≡◌, ℕ, ◌+◌, ◌-◌, ◌<◌, ◌≤◌, List, [], ◌∷◌, ◌++◌, length, take, drop, Some, None, Ok, Option, Result, sym, refl, ap, ◌∙◌, arith, length-drop}
use Rattle.std.proofs.lemmas.List.{length-take-le, take-append-drop}
use Rattle.std.proofs.lemmas.Slice.{between_is}
use Rattle.script.specs.declared.fault.Fault.{Fault}
use Rattle.script.specs.declared.fault.FaultAt.{FaultAt}
use Rattle.script.specs.declared.record.Record.{Record}
use Rattle.script.specs.Records.{rest_at, two}
use Rattle.script.specs.Scripts.{CallsUpTo, Ends, next_item, said}
use Rattle.script.proofs.InBytes.{record_before, rest_before, two_before}
use Rattle.script.proofs.Readings.{item_within, joined_calls}

same_fault : (f g : FaultAt) → f.fault ≡ g.fault → f.at ≡ g.at → f ≡ g
same_fault f g e p = λ i. record { fault = e i; at = p i }

module _ {C : Type 0} (item_of : Record → Result (Option C) Fault) where
  -- where no call follows
  abbrev pub Final : (ℕ → List ℕ → Type 0) → Type 0
  Final S = (at : ℕ) (bs : List ℕ) (c : C) → S at bs → next_item item_of bs ≡ Ok (Some c) → ⊥

  pub ended_final : (f : Option FaultAt) (at : ℕ) (bs : List ℕ) (i : Option C) → Ends item_of f at bs → next_item item_of bs ≡ Ok i → ⊥
  ended_final None at bs i e h = let w = item_within item_of bs i h in omega (arith, ap length e)
  ended_final (Some f) at bs i e h = let k = e.1 in cc

  pub one_end : (f g : Option FaultAt) (at : ℕ) (bs : List ℕ) → Ends item_of f at bs → Ends item_of g at bs → f ≡ g
  one_end None None at bs h k = refl
  one_end None (Some g) at bs h k = absurd (omega (arith, ap length h, k.0))
  one_end (Some f) None at bs h k = absurd (omega (arith, ap length k, h.0))
  one_end (Some f) (Some g) at bs h k =
      let same : f.fault ≡ g.fault = let p = h.1 in let q = k.1 in cc in
      ap (λ x. Some x) (same_fault f g same (h.2 ∙ sym k.2))

  -- one reading: calls that stop where no call follows are the same, and stop at the same place
  pub one_part : (S T : ℕ → List ℕ → Type 0) (R : Type 0) → Final S → Final T → ((at : ℕ) (bs : List ℕ) → S at bs → T at bs → R) → (cs ds : List C) (at : ℕ) (bs : List ℕ) → CallsUpTo item_of S cs at bs → CallsUpTo item_of T ds at bs → (cs ≡ ds) × R
  one_part S T R finS finT both [] [] at bs h k = (refl, both at bs h k)
  one_part S T R finS finT both [] (d ∷ ds) at bs h k = absurd (finS at bs d h k.0)
  one_part S T R finS finT both (c ∷ cs) [] at bs h k = absurd (finT at bs c k h.0)
  one_part S T R finS finT both (c ∷ cs) (d ∷ ds) at bs h k =
      let rest = one_part S T R finS finT both cs ds (at + two bs 0) (rest_at bs) h.1 k.1 in
      let same : c ≡ d = let p = h.0 in let q = k.0 in cc in
      (let r = rest.0 in cc, rest.1)

  -- an item in the bytes `xs` is the same with `ys` behind them
  pub item_before : (xs ys : List ℕ) (i : Option C) → next_item item_of xs ≡ Ok i → (next_item item_of (xs ++ ys) ≡ Ok i) × (two (xs ++ ys) 0 ≡ two xs 0) × (rest_at (xs ++ ys) ≡ rest_at xs ++ ys)
  item_before xs ys i h =
      let w = item_within item_of xs i h in (
        ap (said item_of) (record_before xs ys w.0 w.1 w.2) ∙ h,
        two_before xs ys 0 (omega arith),
        rest_before xs ys w.0 w.2,
      )

  -- with `ys` behind the bytes, the same calls stop at the same place
  pub longer : (S T : ℕ → List ℕ → Type 0) (end : ℕ) (ys : List ℕ) → ((at : ℕ) (bs : List ℕ) → at + length bs ≡ end → S at bs → T at (bs ++ ys)) → (cs : List C) (at : ℕ) (xs : List ℕ) → at + length xs ≡ end → CallsUpTo item_of S cs at xs → CallsUpTo item_of T cs at (xs ++ ys)
  longer S T end ys tell [] at xs sum h = tell at xs sum h
  longer S T end ys tell (c ∷ cs) at xs sum h =
      let w = item_within item_of xs (Some c) h.0 in
      let b = item_before xs ys (Some c) h.0 in
      let len = length-drop (two xs 0) xs in
      (b.0, rw (b.2, b.1) (longer S T end ys tell cs (at + two xs 0) (rest_at xs) (omega arith) h.1))

  -- bytes that are read whole, and bytes behind them
  pub appended : (T : ℕ → List ℕ → Type 0) (cs ds : List C) (at : ℕ) (xs ys : List ℕ) → CallsUpTo item_of (Ends item_of None) cs at xs → CallsUpTo item_of T ds (at + length xs) ys → CallsUpTo item_of T (cs ++ ds) at (xs ++ ys)
  appended T cs ds at xs ys h k =
      joined_calls item_of T cs ds at (xs ++ ys)
      (longer (Ends item_of None) (CallsUpTo item_of T ds) (at + length xs) ys
      (λ a bs sum e. let place : at + length xs ≡ a = omega (arith, ap length e) in rw e (rw place at k))
      cs at xs refl h)

  -- an item in a front of the bytes
  item_in_front : (bs : List ℕ) (m : ℕ) (i : Option C) → next_item item_of bs ≡ Ok i → two bs 0 ≤ m → m ≤ length bs → (next_item item_of (take m bs) ≡ Ok i) × (two (take m bs) 0 ≡ two bs 0) × (rest_at (take m bs) ≡ take (m - two bs 0) (rest_at bs))
  item_in_front bs m i h low high =
      let w = item_within item_of bs i h in
      let len : length (take m bs) ≡ m = length-take-le m bs high in
      let parts = take-append-drop m bs in
      let same : two (take m bs) 0 ≡ two bs 0 = sym (two_before (take m bs) (drop m bs) 0 (omega arith)) ∙ ap (λ l. two l 0) parts in (
        ap (said item_of) (sym (record_before (take m bs) (drop m bs) (omega arith) (omega arith) (omega arith))) ∙ ap (next_item item_of) parts ∙ h,
        same,
        ap (λ n. drop n (take m bs)) same ∙ sym (between_is bs (two bs 0) m),
      )

  -- the place `p` is one of the bytes, and what stands before it satisfies `T`
  abbrev pub Cut : (ℕ → List ℕ → Type 0) → ℕ → ℕ → List ℕ → Type 0
  Cut T p at bs = (at ≤ p) × (p < at + length bs) × T at (take (p - at) bs)

  -- bytes are cut behind an item
  pub cut_behind : (T U : ℕ → List ℕ → Type 0) (p at : ℕ) (bs : List ℕ) (i : Option C) → next_item item_of bs ≡ Ok i → ((xs : List ℕ) → next_item item_of xs ≡ Ok i → T (at + two xs 0) (rest_at xs) → U at xs) → Cut T p (at + two bs 0) (rest_at bs) → Cut U p at bs
  cut_behind T U p at bs i h tell k =
      let w = item_within item_of bs i h in
      let len = length-drop (two bs 0) bs in
      let front = item_in_front bs (p - at) i h (omega arith) (omega arith) in
      let less : p - at - two bs 0 ≡ p - (at + two bs 0) = omega arith in
      (omega arith, omega arith, tell (take (p - at) bs) front.0 (rw (front.2, front.1, less) k.2))

  pub cut_calls : (S T : ℕ → List ℕ → Type 0) (p : ℕ) → ((at : ℕ) (bs : List ℕ) → S at bs → Cut T p at bs) → (cs : List C) (at : ℕ) (bs : List ℕ) → CallsUpTo item_of S cs at bs → Cut (CallsUpTo item_of T cs) p at bs
  cut_calls S T p tell [] at bs h = tell at bs h
  cut_calls S T p tell (c ∷ cs) at bs h =
      cut_behind (CallsUpTo item_of T cs) (CallsUpTo item_of T (c ∷ cs)) p at bs (Some c) h.0 (λ xs e k. (e, k)) (cut_calls S T p tell cs (at + two bs 0) (rest_at bs) h.1)

  -- nothing is left before a fault
  pub cut_fault : (f : FaultAt) (at : ℕ) (bs : List ℕ) → Ends item_of (Some f) at bs → Cut (Ends item_of None) f.at at bs
  cut_fault f at bs h =
      let none : f.at - at ≡ 0 = omega (arith, h.2) in
      (omega (arith, h.2), omega (arith, h.0, h.2), rw none)
