-- All arrangements of the members can be tried, one act after another, by computing. What is found to have no arrangement has no order.
use Rattle.std.proofs.Common.{◌≡◌, ℕ, zero, suc, ◌≤◌, Bool, true, false, cond, not, ◌&&◌, ◌||◌, eqb, leb, ◌≢◌, List, [], ◌∷◌, ◌++◌, length, sym, refl, ap, ◌∙◌, subst, inl, inr, append_assoc, arith, length-append}
use mathlib.Core.Option.{Option, none, some}
use Rattle.std.specs.List.{AllByRecursion}
use Rattle.std.proofs.ByRecursion.{All-append, All-weaker}
use Rattle.std.proofs.lemmas.Bool.{and_from, both_ways, cases_Bool, cases_eq, cond-false, cond-true, eq-eqb, eqb-false, eqb-true, le-leb, leb-true, ne_eqb, not_from_false, not-true, or_cases, or_left, or_right}
use Rattle.order.specs.Tables.{In, Pairs}
use Rattle.order.specs.SingleFile.{Act, Did, Does, Frame, Replays, count}
use Rattle.order.specs.SingleFile.Did.{delivered, empty, full, posted}
use Rattle.order.specs.Logs.{Ended}
use Rattle.order.proofs.Lists.{all_from_in, all_in, in_cases, in_put, pairs_before, pairs_behind, pairs_less}
use Rattle.order.proofs.Deciding.{all, all_true, same_frame, same_frame_true, true_all, true_same_frame}

abbrev takes_first : Frame ℕ → List (Frame ℕ) → Option (List (Frame ℕ))
takes_first f [] = none
takes_first f (h ∷ q) = cond (same_frame h f) (some q) none

abbrev finds_none : List (Frame ℕ) → Option (List (Frame ℕ))
finds_none [] = some []
finds_none (h ∷ q) = none

-- the file after an act, if the act can be done on the file q
abbrev pub after_act : ℕ → List (Frame ℕ) → Did ℕ → Option (List (Frame ℕ))
after_act cap q (posted f) = cond (eqb (count f.lane q) cap) none (some (q ++ f ∷ []))
after_act cap q (full r) = cond (eqb (count r q) cap) (some q) none
after_act cap q (delivered f) = takes_first f q
after_act cap q empty = finds_none q

some_inj : {X : Type 0} (x y : X) → some x ≡ some y → x ≡ y
some_inj x y e = cc

none_some : {X : Type 0} (x : X) → none ≡ some x → ⊥
none_some x e = let y : ◌≡◌ {A = ℕ} 0 1 = cc in omega arith

first_taken : (f : Frame ℕ) (q m : List (Frame ℕ)) → q ≡ f ∷ m → takes_first f q ≡ some m
first_taken f [] m e = absurd (let y : ◌≡◌ {A = ℕ} 0 1 = cc in omega arith)
first_taken f (h ∷ q) m e = let hf : h ≡ f = cc in let qm : q ≡ m = cc in cond-true (same_frame h f) (some q) none (true_same_frame h f hf) ∙ ap some qm

taken_first : (f : Frame ℕ) (q m : List (Frame ℕ)) → takes_first f q ≡ some m → q ≡ f ∷ m
taken_first f [] m e = absurd (none_some m e)
taken_first f (h ∷ q) m e =
    elim (cases_Bool (same_frame h f)) [
      | inl t ↦ (let hf = same_frame_true h f t in let qm : q ≡ m = some_inj q m (sym (cond-true (same_frame h f) (some q) none t) ∙ e) in cc)
      | inr t ↦ absurd (none_some m (sym (cond-false (same_frame h f) (some q) none t) ∙ e))
    ]

pub after_does : (cap : ℕ) (q m : List (Frame ℕ)) (did : Did ℕ) → Does cap q did m → after_act cap q did ≡ some m
after_does cap q m (posted f) (n, e) = cond-false (eqb (count f.lane q) cap) none (some (q ++ f ∷ [])) (ne_eqb (count f.lane q) cap n) ∙ ap some (sym e)
after_does cap q m (full r) (n, e) = cond-true (eqb (count r q) cap) (some q) none (eq-eqb (count r q) cap n) ∙ ap some (sym e)
after_does cap q m (delivered f) e = first_taken f q m e
after_does cap q m empty (e, z) = ap finds_none e ∙ ap some (sym z)

does_after : (cap : ℕ) (q m : List (Frame ℕ)) (did : Did ℕ) → after_act cap q did ≡ some m → Does cap q did m
does_after cap q m (posted f) e =
    let there = eqb (count f.lane q) cap in
    elim (cases_Bool there) [
      | inl t ↦ absurd (none_some m (sym (cond-true there none (some (q ++ f ∷ [])) t) ∙ e))
      | inr t ↦ (eqb-false (count f.lane q) cap t, sym (some_inj (q ++ f ∷ []) m (sym (cond-false there none (some (q ++ f ∷ [])) t) ∙ e)))
    ]
does_after cap q m (full r) e =
    let there = eqb (count r q) cap in
    elim (cases_Bool there) [
      | inl t ↦ (eqb-true (count r q) cap t, sym (some_inj q m (sym (cond-true there (some q) none t) ∙ e)))
      | inr t ↦ absurd (none_some m (sym (cond-false there (some q) none t) ∙ e))
    ]
does_after cap q m (delivered f) e = taken_first f q m e
does_after cap [] m empty e = (refl, sym (some_inj [] m e))
does_after cap (h ∷ q) m empty e = absurd (none_some m e)

-- a whole order, from the file q
abbrev pub and_then : {X Y : Type 0} → (X → Option Y) → Option X → Option Y
and_then f none = none
and_then f (some x) = f x

abbrev pub play : ℕ → List (Frame ℕ) → List (Act ℕ) → Option (List (Frame ℕ))
play cap q [] = some q
play cap q (a ∷ later) = and_then (λ m. play cap m later) (after_act cap q a.did)

pub played : (cap : ℕ) (q : List (Frame ℕ)) (order : List (Act ℕ)) (left : List (Frame ℕ)) → play cap q order ≡ some left → Replays cap q order left
played cap q [] left e = some_inj q left e
played cap q (a ∷ later) left e = on_file (after_act cap q a.did) refl e (λ m. played cap m later left)
  where
    on_file : (o : Option (List (Frame ℕ))) → after_act cap q a.did ≡ o → and_then (λ m. play cap m later) o ≡ some left → ((m : List (Frame ℕ)) → play cap m later ≡ some left → Replays cap m later left) → Replays cap q (a ∷ later) left
    on_file none z e ih = absurd (none_some left e)
    on_file (some m) z e ih = (m, does_after cap q m a.did z, ih m e)

-- y did not end before x began
abbrev pub in_time : List (Ended ℕ) → Act ℕ → Act ℕ → Bool
in_time ds x y = all (λ d. not (eqb d.began y.began) || leb x.began d.ended) ds

module _ (x y : Act ℕ) where
  abbrev ends_late : Ended ℕ → Bool
  ends_late d = not (eqb d.began y.began) || leb x.began d.ended

  pub in_time_true : (ds : List (Ended ℕ)) → in_time ds x y ≡ true → AllByRecursion (λ (d : Ended ℕ). d.began ≡ y.began → x.began ≤ d.ended) ds
  in_time_true ds e =
      All-weaker (λ (d : Ended ℕ). ends_late d ≡ true) (λ (d : Ended ℕ). d.began ≡ y.began → x.began ≤ d.ended)
      (λ d h q. elim (or_cases (not (eqb d.began y.began)) (leb x.began d.ended) h) [ inl n ↦ absurd (both_ways (eqb d.began y.began) (not-true (eqb d.began y.began) n) (eq-eqb d.began y.began q)) | inr l ↦ leb-true x.began d.ended l ])
      ds (all_true ends_late ds e)

  true_in_time : (ds : List (Ended ℕ)) → AllByRecursion (λ (d : Ended ℕ). d.began ≡ y.began → x.began ≤ d.ended) ds → in_time ds x y ≡ true
  true_in_time ds h =
      true_all ends_late ds
      (All-weaker (λ (d : Ended ℕ). d.began ≡ y.began → x.began ≤ d.ended) (λ (d : Ended ℕ). ends_late d ≡ true)
      (λ d f. elim (cases_eq d.began y.began) [
        | inl q ↦ or_right (not (eqb d.began y.began)) (leb x.began d.ended) (le-leb x.began d.ended (f q))
        | inr n ↦ or_left (not (eqb d.began y.began)) (leb x.began d.ended) (not_from_false (eqb d.began y.began) (ne_eqb d.began y.began n))
      ])
      ds h)

-- some element, handed to the test with the others
abbrev try : {X : Type 0} → (X → List X → Bool) → List X → List X → Bool
try t before [] = false
try t before (x ∷ xs) = t x (before ++ xs) || try t (before ++ x ∷ []) xs

tried : {X : Type 0} (t : X → List X → Bool) (us before vs : List X) (x : X) → t x (before ++ (us ++ vs)) ≡ true → try t before (us ++ x ∷ vs) ≡ true
tried t [] before vs x e = or_left (t x (before ++ vs)) (try t (before ++ x ∷ []) vs) e
tried t (u ∷ us) before vs x e =
    or_right (t u (before ++ (us ++ x ∷ vs))) (try t (before ++ u ∷ []) (us ++ x ∷ vs))
    (tried t us (before ++ u ∷ []) vs x (ap (t x) (append_assoc before (u ∷ []) (us ++ vs)) ∙ e))

abbrev is_nil : {X : Type 0} → List X → Bool
is_nil [] = true
is_nil (x ∷ xs) = false

abbrev holds : {X : Type 0} → (X → Bool) → Option X → Bool
holds t none = false
holds t (some x) = t x

-- whether the acts of `rest` can be arranged so that they replay from q and keep real time; n is at least their number
abbrev pub arranges : ℕ → ℕ → List (Ended ℕ) → List (Frame ℕ) → List (Act ℕ) → Bool
arranges zero cap ds q rest = is_nil rest
arranges (suc n) cap ds q rest = is_nil rest || try (λ a others. all (in_time ds a) others && holds (λ m. arranges n cap ds m others) (after_act cap q a.did)) [] rest

in_parts : {X : Type 0} (x : X) (xs : List X) → In x xs → (us : List X) × (vs : List X) × (xs ≡ us ++ x ∷ vs)
in_parts x [] i = absurd i
in_parts {X} x (y ∷ xs) (inl e) = ([], xs, ap (λ (z : X). z ∷ xs) e)
in_parts {X} x (y ∷ xs) (inr i) = let n = in_parts x xs i in (y ∷ n.0, n.1, ap (λ (zs : List X). y ∷ zs) n.2)

abbrev pub Apart : Act ℕ → Act ℕ → Type 0
Apart x y = x.began ≢ y.began

none_in : {X : Type 0} (xs : List X) → ((x : X) → In x xs → ⊥) → is_nil xs ≡ true
none_in [] h = refl
none_in (x ∷ xs) h = absurd (h x (inl refl))

-- an order with these members, which replays and keeps real time, is found
module _ (cap : ℕ) (ds : List (Ended ℕ)) (left : List (Frame ℕ)) where
  pub arranged :
      (n : ℕ) (order : List (Act ℕ)) (q : List (Frame ℕ)) (rest : List (Act ℕ)) → length rest ≤ n
      → ((a : Act ℕ) → In a order → In a rest) → ((a : Act ℕ) → In a rest → In a order)
      → Pairs Apart order → Pairs Apart rest → Pairs (λ (x y : Act ℕ). AllByRecursion (λ (d : Ended ℕ). d.began ≡ y.began → x.began ≤ d.ended) ds) order
      → Replays cap q order left → arranges n cap ds q rest ≡ true
  arranged zero order q [] l i j p r t h = refl
  arranged zero order q (x ∷ rest) l i j p r t h = absurd (omega arith)
  arranged (suc n) [] q rest l i j p r t h = or_left (is_nil rest) (try (λ a others. all (in_time ds a) others && holds (λ m. arranges n cap ds m others) (after_act cap q a.did)) [] rest) (none_in rest j)
  arranged (suc n) (a ∷ order) q rest l i j (pa, p) r (ta, t) (m, s, h) =
      let (us, vs, e) = in_parts a rest (i a (inl refl)) in
      let others : List (Act ℕ) = us ++ vs in
      let r' : Pairs Apart (us ++ a ∷ vs) = subst (Pairs Apart) e r in
      let len : length others ≤ n = omega (arith, ap length e, length-append us (a ∷ vs), length-append us vs) in
      let apart_others : AllByRecursion (λ (z : Act ℕ). z.began ≢ a.began) others =
      All-append (λ (z : Act ℕ). z.began ≢ a.began) us vs (pairs_before Apart us vs a r') (All-weaker (Apart a) (λ (z : Act ℕ). z.began ≢ a.began) (λ z n q. n (sym q)) vs (pairs_behind Apart us vs a r')) in
      let into : (z : Act ℕ) → In z order → In z others =
      λ z k. elim (in_cases z us vs a (subst (In z) e (i z (inr k)))) [ inl w ↦ absurd (all_in (Apart a) z order k pa (ap (λ (x : Act ℕ). x.began) w)) | inr w ↦ w ] in
      let from : (z : Act ℕ) → In z others → In z order =
      λ z k. elim (j z (subst (In z) (sym e) (in_put z us vs a k))) [ inl w ↦ absurd (all_in (λ (z : Act ℕ). z.began ≢ a.began) z others k apart_others (ap (λ (x : Act ℕ). x.began) (sym w))) | inr w ↦ w ] in
      let timely : all (in_time ds a) others ≡ true =
      true_all (in_time ds a) others (all_from_in (λ (y : Act ℕ). in_time ds a y ≡ true) others (λ y k. true_in_time a y ds (all_in (λ (y : Act ℕ). AllByRecursion (λ (d : Ended ℕ). d.began ≡ y.began → a.began ≤ d.ended) ds) y order (from y k) ta))) in
      let ih : arranges n cap ds m others ≡ true = arranged n order m others len into from p (pairs_less Apart us vs a r') t h in
      let goes_on : holds (λ m. arranges n cap ds m others) (after_act cap q a.did) ≡ true = ap (holds (λ m. arranges n cap ds m others)) (after_does cap q m a.did s) ∙ ih in
      let test : Act ℕ → List (Act ℕ) → Bool = λ a others. all (in_time ds a) others && holds (λ m. arranges n cap ds m others) (after_act cap q a.did) in
      or_right (is_nil rest) (try test [] rest)
      (ap (try test []) e ∙ tried test us [] vs a (and_from (all (in_time ds a) others) (holds (λ m. arranges n cap ds m others) (after_act cap q a.did)) timely goes_on))
