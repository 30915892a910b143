-- Lists of which each element has some things: what is gathered from all of them, and when that has nothing twice.
use Rattle.std.proofs.Common.{◌≡◌, ◌≢◌, ◌⊎◌, List, [], ◌∷◌, ◌++◌, sym, refl, ap, ◌∙◌, subst, inl, inr}
use Rattle.std.specs.List.{AllByRecursion}
use Rattle.std.proofs.ByRecursion.{All-append, All-weaker}
use Rattle.order.specs.Tables.{In, Once, Pairs, gather}
use Rattle.order.proofs.Lists.{all_from_in, all_in, in_first, in_second, in_split, pairs_weaker}

abbrev pub Distinct : {Y : Type 0} → List Y → Type 0
Distinct {Y} ys = Pairs (λ (x y : Y). x ≢ y) ys

-- x and y have nothing in common
abbrev pub Disjoint : {X Y : Type 0} → (X → List Y) → X → X → Type 0
Disjoint {Y = Y} of x y = (f : Y) → In f (of x) → In f (of y) → ⊥

module _ {Y : Type 0} where
  distinct_parts : (us vs : List Y) → Distinct (us ++ vs) → (f : Y) → In f us → In f vs → ⊥
  distinct_parts [] vs h f i j = i
  distinct_parts (u ∷ us) vs (a, h) f (inl e) j = all_in (λ (y : Y). u ≢ y) f (us ++ vs) (in_second f us vs j) a e
  distinct_parts (u ∷ us) vs (a, h) f (inr i) j = distinct_parts us vs h f i j

  distinct_rest : (us vs : List Y) → Distinct (us ++ vs) → Distinct vs
  distinct_rest [] vs h = h
  distinct_rest (u ∷ us) vs (a, h) = distinct_rest us vs h

  distinct_join : (us vs : List Y) → Distinct us → Distinct vs → ((f : Y) → In f us → AllByRecursion (λ (y : Y). f ≢ y) vs) → Distinct (us ++ vs)
  distinct_join [] vs d e h = e
  distinct_join (u ∷ us) vs (b, d) e h = (All-append (λ (y : Y). u ≢ y) us vs b (h u (inl refl)), distinct_join us vs d e (λ f i. h f (inr i)))

  -- one of a list that has nothing twice is in it once
  pub once_in : (x : Y) (xs : List Y) → Distinct xs → In x xs → Once x xs
  once_in x [] d i = elim i [ ]
  once_in x (y ∷ xs) (a, d) (inl e) =
      ([], xs, ap (λ (z : Y). z ∷ xs) e, All-weaker (λ (z : Y). y ≢ z) (λ (z : Y). z ≢ x) (λ z n q. n (e ∙ sym q)) xs a)
  once_in x (y ∷ xs) (a, d) (inr i) =
      let n = once_in x xs d i in
      (y ∷ n.0, n.1, ap (λ (zs : List Y). y ∷ zs) n.2, (all_in (λ (z : Y). y ≢ z) x xs i a, n.3))

  -- of two elements, each in the list: they are the same, or related one way or the other
  pub two_in : (R : Y → Y → Type 0) (x y : Y) (xs : List Y) → Pairs R xs → In x xs → In y xs → (x ≡ y) ⊎ (R x y ⊎ R y x)
  two_in R x y [] h i j = elim i [ ]
  two_in R x y (z ∷ xs) (a, h) (inl e) (inl q) = inl (sym e ∙ q)
  two_in R x y (z ∷ xs) (a, h) (inl e) (inr j) = inr (inl (subst (λ (z : Y). R z y) e (all_in (R z) y xs j a)))
  two_in R x y (z ∷ xs) (a, h) (inr i) (inl q) = inr (inr (subst (λ (z : Y). R z x) q (all_in (R z) x xs i a)))
  two_in R x y (z ∷ xs) (a, h) (inr i) (inr j) = two_in R x y xs h i j

  -- another relation, of every two of the list
  pub pairs_in : (R S : Y → Y → Type 0) (xs : List Y) → ((x y : Y) → In x xs → In y xs → R x y → S x y) → Pairs R xs → Pairs S xs
  pairs_in R S xs f h = pairs_weaker (λ (x : Y). In x xs) R S (λ x y i j r. f x y i j r) xs (all_from_in (λ (x : Y). In x xs) xs (λ x i. i)) h

module _ {X Y : Type 0} (of : X → List Y) where
  pub gather_in : (f : Y) (xs : List X) → In f (gather of xs) → (x : X) × In x xs × In f (of x)
  gather_in f [] i = elim i [ ]
  gather_in f (x ∷ xs) i =
      elim (in_split f (of x) (gather of xs) i) [ inl j ↦ (x, inl refl, j) | inr j ↦ (let n = gather_in f xs j in (n.0, inr n.1, n.2)) ]

  pub in_gather : (f : Y) (x : X) (xs : List X) → In x xs → In f (of x) → In f (gather of xs)
  in_gather f x [] i j = elim i [ ]
  in_gather f x (y ∷ xs) (inl e) j = in_first f (of y) (gather of xs) (subst (λ (x : X). In f (of x)) (sym e) j)
  in_gather f x (y ∷ xs) (inr i) j = in_second f (of y) (gather of xs) (in_gather f x xs i j)

  -- if nothing is gathered twice, no two have the same
  pub disjoint_from : (xs : List X) → Distinct (gather of xs) → Pairs (Disjoint of) xs
  disjoint_from [] h = tt
  disjoint_from (x ∷ xs) h = (
    all_from_in (Disjoint of x) xs (λ y i f j k. distinct_parts (of x) (gather of xs) h f j (in_gather f y xs i k)),
    disjoint_from xs (distinct_rest (of x) (gather of xs) h),
  )

  -- and the other way round, if none has anything twice
  pub distinct_from : ((x : X) → Distinct (of x)) → (xs : List X) → Pairs (Disjoint of) xs → Distinct (gather of xs)
  distinct_from o [] h = tt
  distinct_from o (x ∷ xs) (a, h) =
      distinct_join (of x) (gather of xs) (o x) (distinct_from o xs h)
      (λ f i. all_from_in (λ (y : Y). f ≢ y) (gather of xs) (λ y j e. let n = gather_in y xs j in all_in (Disjoint of x) n.0 xs n.1 a f i (subst (λ (y : Y). In y (of n.0)) (sym e) n.2)))
