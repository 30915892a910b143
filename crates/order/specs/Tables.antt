-- Words on lists and on tables over the lanes.
--   In x xs      x is one of xs
--   Pairs R xs   R holds of every two of xs, the first of them the earlier in the list
--   Once x xs    x is one of xs, at one place only
--   gather of xs what each of xs has, one after another
--   upd f i a    the table f with a at place i
use Rattle.std.specs.Prelude.{◌≡◌, ℕ, cond, ◌≢◌, ◌⊎◌, List, [], ◌∷◌, ◌++◌, ◌==◌}
use Rattle.std.specs.List.{AllByRecursion}

abbrev pub In : {X : Type 0} → X → List X → Type 0
In x [] = ⊥
In x (y ∷ ys) = (y ≡ x) ⊎ In x ys

abbrev pub Pairs : {X : Type 0} → (X → X → Type 0) → List X → Type 0
Pairs R [] = Unit {0}
Pairs R (x ∷ xs) = AllByRecursion (R x) xs × Pairs R xs

abbrev pub Once : {X : Type 0} → X → List X → Type 0
Once {X} x xs = (before : List X) × (behind : List X) × (xs ≡ before ++ x ∷ behind) × AllByRecursion (λ (y : X). y ≢ x) (before ++ behind)

abbrev pub gather : {X Y : Type 0} → (X → List Y) → List X → List Y
gather of [] = []
gather of (x ∷ xs) = of x ++ gather of xs

abbrev pub upd : {X : Type 0} → (ℕ → X) → ℕ → X → ℕ → X
upd f i a j = cond (j == i) a (f j)
