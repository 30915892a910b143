-- The replay of a back, as one count for each lane: how many frames of the lane lie in the file at each item. An item moves only the
-- count of its own lane, so no list of frames has to be followed while items move.
-- Levels cap l p is: with p frames of lane l posted so far, and those still to be delivered by the collects of `is`, a
-- waiting post of lane l finds less than cap, and a full one cap.
use Rattle.std.proofs.Common.{◌≡◌, ℕ, ◌+◌, ◌<◌, eqb, ◌≢◌, List, [], ◌∷◌, ◌++◌, length, sym, refl, ap, ◌∙◌, subst, append_assoc, append-nil, arith}
use Rattle.std.specs.List.{AllByRecursion}
use Rattle.std.proofs.lemmas.Bool.{ne_eqb}
use Rattle.order.specs.SingleFile.{Frame, Replays, count, one}
use Rattle.order.specs.Books.{Waiting}
use Rattle.order.proofs.Backs.{ClearOf, Item, acts, deliveries, deliveries_append, leftovers, standing_of}
use Rattle.order.proofs.Backs.Item.{fetch, refused, standing}

abbrev pub Levels : {P : Type 0} → ℕ → ℕ → ℕ → List (Item P) → Type 0
Levels cap l p [] = Unit {0}
Levels cap l p (standing w ∷ is) = (w.frame.lane ≡ l → count l (deliveries is) + p < cap) × Levels cap l (one (eqb w.frame.lane l) + p) is
Levels cap l p (refused b r u ∷ is) = (r ≡ l → count l (deliveries is) + p ≡ cap) × Levels cap l p is
Levels cap l p (fetch b f u ∷ is) = Levels cap l p is

module _ {P : Type 0} where
  pub count_append : (l : ℕ) (xs ys : List (Frame P)) → count l (xs ++ ys) ≡ count l xs + count l ys
  count_append l [] ys = omega arith
  count_append l (x ∷ xs) ys = omega (arith, count_append l xs ys)

  count_deliveries : (l : ℕ) (a b : List (Item P)) → count l (deliveries (a ++ b)) ≡ count l (deliveries a) + count l (deliveries b)
  count_deliveries l a b = ap (count l) (deliveries_append a b) ∙ count_append l (deliveries a) (deliveries b)

  -- the counts of all lanes give the replay, from the frames still to be delivered and those posted so far
  pub back_replays :
      (cap : ℕ) (is : List (Item P)) (ps : List (Frame P)) → ((l : ℕ) → Levels cap l (count l ps) is)
      → Replays cap (deliveries is ++ ps) (acts is) (ps ++ leftovers is)
  back_replays cap [] ps h = sym (append-nil ps)
  back_replays cap (standing w ∷ is) ps h =
      let f = w.frame in
      let n : count f.lane (deliveries is ++ ps) < cap = omega (arith, (h f.lane).0 refl, count_append f.lane (deliveries is) ps) in
      let ih = back_replays cap is (ps ++ f ∷ []) (λ l. subst (λ (p : ℕ). Levels cap l p is) (omega (arith, count_append l ps (f ∷ []))) (h l).1) in
      (deliveries is ++ (ps ++ f ∷ []), (λ e. omega arith, sym (append_assoc (deliveries is) ps (f ∷ []))), rw append_assoc at ih)
  back_replays cap (refused b r u ∷ is) ps h =
      (deliveries is ++ ps, (omega (arith, (h r).0 refl, count_append r (deliveries is) ps), refl), back_replays cap is ps (λ l. (h l).1))
  back_replays cap (fetch b f u ∷ is) ps h = (deliveries is ++ ps, refl, back_replays cap is ps h)

  -- a frame counted as posted so far is delivered by a collect at the end instead
  levels_late : (cap l p b u : ℕ) (f : Frame P) (is : List (Item P)) → Levels cap l (one (eqb f.lane l) + p) is → Levels cap l p (is ++ fetch b f u ∷ [])
  levels_late cap l p b u f [] h = tt
  levels_late cap l p b u f (standing w ∷ is) (a, h) = (
    λ e. omega (arith, a e, count_deliveries l is (fetch b f u ∷ [])),
    levels_late cap l (one (eqb w.frame.lane l) + p) b u f is (subst (λ (n : ℕ). Levels cap l n is) (omega arith) h),
  )
  levels_late cap l p b u f (refused c r v ∷ is) (a, h) = (λ e. omega (arith, a e, count_deliveries l is (fetch b f u ∷ [])), levels_late cap l p b u f is h)
  levels_late cap l p b u f (fetch c g v ∷ is) h = levels_late cap l p b u f is h

  -- items that are clear of the lane of f, before an end that now delivers f as well
  module _ (cap l : ℕ) (f : Frame P) (old new : List (Item P)) (more : (n : ℕ) → count n (deliveries new) ≡ count n (deliveries old) + count n (f ∷ [])) (at-end : (p : ℕ) → Levels cap l p old → Levels cap l p new) where
    other_lane : (a : List (Item P)) → f.lane ≢ l → count l (deliveries (a ++ new)) ≡ count l (deliveries (a ++ old))
    other_lane a n =
        let z : count l (f ∷ []) ≡ 0 = rw (ne_eqb f.lane l n) (omega arith) in
        omega (arith, more l, count_deliveries l a new, count_deliveries l a old)

    levels_over : (a : List (Item P)) (p : ℕ) → AllByRecursion (ClearOf f.lane) a → Levels cap l p (a ++ old) → Levels cap l p (a ++ new)
    levels_over [] p c h = at-end p h
    levels_over (standing w ∷ a) p (n, c) (k, h) =
        (λ e. omega (arith, k e, other_lane a (λ z. n (e ∙ sym z))), levels_over a (one (eqb w.frame.lane l) + p) c h)
    levels_over (refused b r u ∷ a) p (n, c) (k, h) = (λ e. omega (arith, k e, other_lane a (λ z. n (e ∙ sym z))), levels_over a p c h)
    levels_over (fetch b g u ∷ a) p (n, c) h = levels_over a p c h

  -- a waiting post leaves its place, and a collect at the end delivers its frame
  pub levels_moved :
      (cap l b u : ℕ) (w : Waiting P) (x y : List (Item P)) → AllByRecursion (ClearOf w.frame.lane) x
      → Levels cap l 0 (x ++ standing w ∷ y) → Levels cap l 0 (x ++ (y ++ fetch b w.frame u ∷ []))
  levels_moved cap l b u w x y c h =
      levels_over cap l w.frame (standing w ∷ y) (y ++ fetch b w.frame u ∷ [])
      (λ n. omega (arith, count_deliveries n y (fetch b w.frame u ∷ [])))
      (λ p k. levels_late cap l p b u w.frame y k.1) x 0 c h

  -- a collect at the end delivers a frame that has no post in the back
  pub levels_own : (cap l b u : ℕ) (f : Frame P) (x : List (Item P)) → AllByRecursion (ClearOf f.lane) x → Levels cap l 0 x → Levels cap l 0 (x ++ fetch b f u ∷ [])
  levels_own cap l b u f x c h = levels_over cap l f [] (fetch b f u ∷ []) (λ n. omega arith) (λ p k. tt) x 0 c (rw append-nil h)

  -- a post that waits, or a full one, comes to the end: it finds the frames of its lane that wait in the back
  pub levels_push : (cap l p : ℕ) (i : Item P) (is : List (Item P)) → deliveries (i ∷ []) ≡ [] → Levels cap l (length (standing_of l is) + p) (i ∷ []) → Levels cap l p is → Levels cap l p (is ++ i ∷ [])
  levels_push cap l p i [] n e h = subst (λ (q : ℕ). Levels cap l q (i ∷ [])) (omega arith) e
  levels_push cap l p i (standing v ∷ is) n e (a, h) = (
    λ z. omega (arith, a z, count_deliveries l is (i ∷ []), ap (count l) n),
    levels_push cap l (one (eqb v.frame.lane l) + p) i is n (subst (λ (q : ℕ). Levels cap l q (i ∷ [])) (grind arith) e) h,
  )
  levels_push cap l p i (refused b r u ∷ is) n e (a, h) = (λ z. omega (arith, a z, count_deliveries l is (i ∷ []), ap (count l) n), levels_push cap l p i is n e h)
  levels_push cap l p i (fetch b f u ∷ is) n e h = levels_push cap l p i is n e h
