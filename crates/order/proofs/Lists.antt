-- Members of a list, what holds of all of them and of every two, as elements come in, go out or move; tables with one place changed.
-- What holds of all is followed through the members; what holds of every two, through the two parts of a joined list.
use Rattle.std.proofs.Common.{◌≡◌, ℕ, eqb, ◌≢◌, ◌⊎◌, List, [], ◌∷◌, ◌++◌, sym, refl, subst, inl, inr}
use Rattle.std.specs.List.{AllByRecursion}
use Rattle.std.proofs.ByRecursion.{All-append, All-weaker}
use Rattle.std.proofs.lemmas.Bool.{cases_eq, cond-false, cond-true, eq-eqb, ne_eqb}
use Rattle.order.specs.Tables.{In, Pairs, upd}

module _ {X : Type 0} (x : X) where
  -- a member of a joined list is one of the first part, or of the second
  pub in_first : (xs ys : List X) → In x xs → In x (xs ++ ys)
  in_first [] ys i = absurd i
  in_first (z ∷ xs) ys (inl e) = inl e
  in_first (z ∷ xs) ys (inr i) = inr (in_first xs ys i)

  pub in_second : (xs ys : List X) → In x ys → In x (xs ++ ys)
  in_second [] ys i = i
  in_second (z ∷ xs) ys i = inr (in_second xs ys i)

  pub in_split : (xs ys : List X) → In x (xs ++ ys) → In x xs ⊎ In x ys
  in_split [] ys i = inr i
  in_split (z ∷ xs) ys (inl e) = inl (inl e)
  in_split (z ∷ xs) ys (inr i) = elim (in_split xs ys i) [ inl j ↦ inl (inr j) | inr j ↦ inr j ]

  -- with y in the middle: x may be y, or is one of the others
  pub in_here : (xs ys : List X) → In x (xs ++ x ∷ ys)
  in_here xs ys = in_second xs (x ∷ ys) (inl refl)

  pub in_put : (xs ys : List X) (y : X) → In x (xs ++ ys) → In x (xs ++ y ∷ ys)
  in_put xs ys y i = elim (in_split xs ys i) [ inl j ↦ in_first xs (y ∷ ys) j | inr j ↦ in_second xs (y ∷ ys) (inr j) ]

  pub in_push : (xs : List X) (y : X) → In x xs → In x (xs ++ y ∷ [])
  in_push xs y i = in_first xs (y ∷ []) i

  pub in_cases : (xs ys : List X) (y : X) → In x (xs ++ y ∷ ys) → (y ≡ x) ⊎ In x (xs ++ ys)
  in_cases xs ys y i =
      elim (in_split xs (y ∷ ys) i) [ inl j ↦ inr (in_first xs ys j) | inr (inl e) ↦ inl e | inr (inr j) ↦ inr (in_second xs ys j) ]

  -- y moves from the middle of a later part to its start
  pub in_move : (y : X) (front p q : List X) → In x (front ++ (p ++ y ∷ q)) → In x (front ++ y ∷ (p ++ q))
  in_move y front p q i = elim (in_split front (p ++ y ∷ q) i) [ inl j ↦ in_first front (y ∷ (p ++ q)) j | inr j ↦ in_second front (y ∷ (p ++ q)) (in_cases p q y j) ]

module _ {X : Type 0} (Q : X → Type 0) where
  pub all_in : (x : X) (xs : List X) → In x xs → AllByRecursion Q xs → Q x
  all_in x [] i h = absurd i
  all_in x (y ∷ xs) (inl e) h = subst Q e h.0
  all_in x (y ∷ xs) (inr i) h = all_in x xs i h.1

  pub all_from_in : (xs : List X) → ((x : X) → In x xs → Q x) → AllByRecursion Q xs
  all_from_in [] h = tt
  all_from_in (x ∷ xs) h = (h x (inl refl), all_from_in xs (λ y i. h y (inr i)))

  pub all_any : ((x : X) → Q x) → (xs : List X) → AllByRecursion Q xs
  all_any h xs = all_from_in xs (λ x i. h x)

  -- the members of one list are members of another
  all_fewer : (xs ys : List X) → ((x : X) → In x ys → In x xs) → AllByRecursion Q xs → AllByRecursion Q ys
  all_fewer xs ys f h = all_from_in ys (λ x i. all_in x xs (f x i) h)

  pub all_front : (xs ys : List X) → AllByRecursion Q (xs ++ ys) → AllByRecursion Q xs
  all_front xs ys h = all_fewer (xs ++ ys) xs (λ x i. in_first x xs ys i) h

  pub all_rest : (xs ys : List X) → AllByRecursion Q (xs ++ ys) → AllByRecursion Q ys
  all_rest xs ys h = all_fewer (xs ++ ys) ys (λ x i. in_second x xs ys i) h

  pub all_put : (xs ys : List X) (x : X) → Q x → AllByRecursion Q (xs ++ ys) → AllByRecursion Q (xs ++ x ∷ ys)
  all_put xs ys x q h = All-append Q xs (x ∷ ys) (all_front xs ys h) (q, all_rest xs ys h)

  pub all_less : (xs ys : List X) (x : X) → AllByRecursion Q (xs ++ x ∷ ys) → AllByRecursion Q (xs ++ ys)
  all_less xs ys x h = all_fewer (xs ++ x ∷ ys) (xs ++ ys) (λ z i. in_put z xs ys x i) h

  pub all_at : (xs ys : List X) (x : X) → AllByRecursion Q (xs ++ x ∷ ys) → Q x
  all_at xs ys x h = all_in x (xs ++ x ∷ ys) (in_here x xs ys) h

  pub all_move : (x : X) (front p q : List X) → AllByRecursion Q (front ++ (p ++ x ∷ q)) → AllByRecursion Q (front ++ x ∷ (p ++ q))
  all_move x front p q h =
      let later : AllByRecursion Q (p ++ x ∷ q) = all_rest front (p ++ x ∷ q) h in
      All-append Q front (x ∷ (p ++ q)) (all_front front (p ++ x ∷ q) h) (all_at p q x later, all_less p q x later)

pub all_both : {X : Type 0} (P Q S : X → Type 0) → ((x : X) → P x → Q x → S x) → (xs : List X) → AllByRecursion P xs → AllByRecursion Q xs → AllByRecursion S xs
all_both P Q S f xs p q = all_from_in S xs (λ x i. f x (all_in P x xs i p) (all_in Q x xs i q))

module _ {X : Type 0} (R : X → X → Type 0) where
  -- every one of the first list with every one of the second
  abbrev Across : List X → List X → Type 0
  Across xs ys = AllByRecursion (λ (x : X). AllByRecursion (R x) ys) xs

  pairs_join : (xs ys : List X) → Pairs R xs → Pairs R ys → Across xs ys → Pairs R (xs ++ ys)
  pairs_join [] ys p q c = q
  pairs_join (x ∷ xs) ys (a, p) q (b, c) = (All-append (R x) xs ys a b, pairs_join xs ys p q c)

  pairs_parts : (xs ys : List X) → Pairs R (xs ++ ys) → Pairs R xs × Pairs R ys × Across xs ys
  pairs_parts [] ys h = (tt, h, tt)
  pairs_parts (x ∷ xs) ys (a, h) =
      let (p, q, c) = pairs_parts xs ys h in
      ((all_front (R x) xs ys a, p), q, (all_rest (R x) xs ys a, c))

  -- one more in the middle; at the end; one less
  pub pairs_put : (xs ys : List X) (x : X) → AllByRecursion (λ (e : X). R e x) xs → AllByRecursion (R x) ys → Pairs R (xs ++ ys) → Pairs R (xs ++ x ∷ ys)
  pairs_put xs ys x before behind h =
      let (p, q, c) = pairs_parts xs ys h in
      pairs_join xs (x ∷ ys) p (behind, q) (all_both (λ (e : X). R e x) (λ (e : X). AllByRecursion (R e) ys) (λ (e : X). AllByRecursion (R e) (x ∷ ys)) (λ e r rs. (r, rs)) xs before c)

  pub pairs_push : (xs : List X) (x : X) → AllByRecursion (λ (e : X). R e x) xs → Pairs R xs → Pairs R (xs ++ x ∷ [])
  pairs_push xs x before p = pairs_join xs (x ∷ []) p (tt, tt) (All-weaker (λ (e : X). R e x) (λ (e : X). AllByRecursion (R e) (x ∷ [])) (λ e r. (r, tt)) xs before)

  pub pairs_less : (xs ys : List X) (x : X) → Pairs R (xs ++ x ∷ ys) → Pairs R (xs ++ ys)
  pairs_less xs ys x h =
      let (p, q, c) = pairs_parts xs (x ∷ ys) h in
      pairs_join xs ys p q.1 (All-weaker (λ (e : X). AllByRecursion (R e) (x ∷ ys)) (λ (e : X). AllByRecursion (R e) ys) (λ e rs. rs.1) xs c)

  -- what stands before the one in the middle, and behind it
  pub pairs_before : (xs ys : List X) (x : X) → Pairs R (xs ++ x ∷ ys) → AllByRecursion (λ (e : X). R e x) xs
  pairs_before xs ys x h = All-weaker (λ (e : X). AllByRecursion (R e) (x ∷ ys)) (λ (e : X). R e x) (λ e rs. rs.0) xs (pairs_parts xs (x ∷ ys) h).2

  pub pairs_behind : (xs ys : List X) (x : X) → Pairs R (xs ++ x ∷ ys) → AllByRecursion (R x) ys
  pairs_behind xs ys x h = (pairs_parts xs (x ∷ ys) h).1.0

  -- x moves from the middle of a later part to its start
  pub pairs_move : (x : X) (front p q : List X) → AllByRecursion (R x) p → Pairs R (front ++ (p ++ x ∷ q)) → Pairs R (front ++ x ∷ (p ++ q))
  pairs_move x front p q a h =
      let (f, later, c) = pairs_parts front (p ++ x ∷ q) h in
      pairs_join front (x ∷ (p ++ q)) f (All-append (R x) p q a (pairs_behind p q x later), pairs_less p q x later)
      (All-weaker (λ (e : X). AllByRecursion (R e) (p ++ x ∷ q)) (λ (e : X). AllByRecursion (R e) (x ∷ (p ++ q))) (λ e rs. (all_at (R e) p q x rs, all_less (R e) p q x rs)) front c)

-- another relation, of every two elements of which each has a property
pub pairs_weaker : {X : Type 0} (Q : X → Type 0) (R S : X → X → Type 0) → ((x y : X) → Q x → Q y → R x y → S x y) → (xs : List X) → AllByRecursion Q xs → Pairs R xs → Pairs S xs
pairs_weaker Q R S f [] h p = tt
pairs_weaker Q R S f (x ∷ xs) (q, h) (a, p) = (all_both Q (R x) (S x) (λ y s r. f x y q s r) xs h a, pairs_weaker Q R S f xs h p)

-- a table with one place changed: at that place, at the others, at every place
module _ {X : Type 0} (f : ℕ → X) (i : ℕ) (a : X) where
  pub upd_same : upd f i a i ≡ a
  upd_same = cond-true (eqb i i) a (f i) (eq-eqb i i refl)

  pub upd_other : (j : ℕ) → j ≢ i → upd f i a j ≡ f j
  upd_other j n = cond-false (eqb j i) a (f j) (ne_eqb j i n)

pub upd_all : {X : Type 0} (Q : ℕ → X → Type 0) (f : ℕ → X) (i : ℕ) (a : X) → Q i a → ((j : ℕ) → j ≢ i → Q j (f j)) → (j : ℕ) → Q j (upd f i a j)
upd_all Q f i a here there j =
    elim (cases_eq j i) [
      | inl e ↦ subst (λ (l : ℕ). Q l (upd f i a l)) (sym e) (subst (Q i) (sym (upd_same f i a)) here)
      | inr n ↦ subst (Q j) (sym (upd_other f i a j n)) (there j n)
    ]
