-- Frames that wait against the stamps of a ring.
use Rattle.std.proofs.Common.{◌≡◌, ℕ, suc, ◌+◌, ◌%◌, ◌<◌, ◌≤◌, ◌≢◌, List, [], ◌∷◌, ◌++◌, length, sym, refl, ap, ◌∙◌, add-zero, add-suc, suc-add, arith}
use mathlib.Core.Option.{Option}
use Rattle.std.specs.List.{AllByRecursion}
use Rattle.std.proofs.lemmas.Bool.{ne_eqb}
use Rattle.std.proofs.ByRecursion.{All-weaker}
use Rattle.order.specs.Books.{Waiting}
use Rattle.order.specs.Tables.{upd}
use Rattle.history.proofs.Lanes.{Ends, front}
use Rattle.history.proofs.Goods.{Carries, Fits, Match}
use Rattle.history.proofs.Ring.{apart}
use Rattle.history.proofs.Waits.{front_ends}

-- the stamps before the last are lower
ends_front : (s : ℕ) (R : List ℕ) → Ends s R → AllByRecursion (λ x. x < s) (front R)
ends_front s [] e = tt
ends_front s (x ∷ []) e = tt
ends_front s (x ∷ (y ∷ R)) (l, e) = (l, ends_front s (y ∷ R) e)

module _ {P : Type 0} (r : ℕ) where
  -- tables that agree on the stamps of the list
  abbrev pub Same : (load load' : ℕ → Option P) (took took' ended ended' : ℕ → ℕ) → ℕ → Type 0
  Same load load' took took' ended ended' x = (load' x ≡ load x) × (took' x ≡ took x) × (ended' x ≡ ended x)

  pub match_on :
      (load load' : ℕ → Option P) (took took' ended ended' : ℕ → ℕ) (ws : List (Waiting P)) (xs : List ℕ)
      → AllByRecursion (Same load load' took took' ended ended') xs → Match r load took ended ws xs → Match r load' took' ended' ws xs
  match_on load load' took took' ended ended' [] [] a m = tt
  match_on load load' took took' ended ended' [] (x ∷ xs) a m = m
  match_on load load' took took' ended ended' (w ∷ ws) [] a m = m
  match_on load load' took took' ended ended' (w ∷ ws) (x ∷ xs) ((l, t, e), a) (f, m) =
      (record { lane = f.lane; stamp = f.stamp; payload = l ∙ f.payload; take = t ∙ f.take; end = e ∙ f.end }, match_on load load' took took' ended ended' ws xs a m)

  module _ (load : ℕ → Option P) (took ended : ℕ → ℕ) where
    pub match_length : (ws : List (Waiting P)) (xs : List ℕ) → Match r load took ended ws xs → length ws ≡ length xs
    match_length [] [] m = refl
    match_length [] (x ∷ xs) m = absurd m
    match_length (w ∷ ws) [] m = absurd m
    match_length (w ∷ ws) (x ∷ xs) (f, m) = ap suc (match_length ws xs m)

    match_push : (ws : List (Waiting P)) (xs : List ℕ) (w : Waiting P) (x : ℕ) → Fits r load took ended w x → Match r load took ended ws xs → Match r load took ended (ws ++ w ∷ []) (xs ++ x ∷ [])
    match_push [] [] w x f m = (f, tt)
    match_push [] (y ∷ xs) w x f m = absurd m
    match_push (v ∷ ws) [] w x f m = absurd m
    match_push (v ∷ ws) (y ∷ xs) w x f (g, m) = (g, match_push ws xs w x f m)

    -- frames of the ring that ended after a time, in the book
    pub match_after : (ws : List (Waiting P)) (xs : List ℕ) (a t : ℕ) → a ≡ suc t → AllByRecursion (λ x. a < ended x) xs → Match r load took ended ws xs → AllByRecursion (λ (w : Waiting P). t < w.end) ws
    match_after [] xs a t e h m = tt
    match_after (w ∷ ws) [] a t e h m = absurd m
    match_after (w ∷ ws) (x ∷ xs) a t e (h, hs) (f, m) = (omega (arith, f.end), match_after ws xs a t e hs m)

  -- the last frame of the ring begins to wait
  pub match_ends :
      (load : ℕ → Option P) (took ended : ℕ → ℕ) (now s : ℕ) (w : Waiting P) (ws : List (Waiting P)) (R : List ℕ) → R ≢ [] → Ends s R
      → Fits r load took (upd ended s now) w s → Match r load took ended ws (front R) → Match r load took (upd ended s now) (ws ++ w ∷ []) R
  match_ends load took ended now s w ws [] n e f m = absurd (n refl)
  match_ends load took ended now s w ws (x ∷ R) n e f m =
      rw (front_ends s x R e)
      (match_push load took (upd ended s now) ws (front (x ∷ R)) w s f
      (match_on load load took took ended (upd ended s now) ws (front (x ∷ R))
      (All-weaker (λ y. y < s) (Same load load took took ended (upd ended s now)) (λ y l. (refl, refl, rw (ne_eqb y s (omega arith)) refl)) (front (x ∷ R)) (ends_front s (x ∷ R) e)) m))

module _ {P : Type 0} (K : ℕ) where
  -- the copy into the cell at the tail
  pub carries_copy : (i j : ℕ) (tray load : ℕ → Option P) (a : Option P) (R : List ℕ) → i + length R ≤ j → j < i + K → Carries K tray load i R → Carries K (upd tray (j % K) a) load i R
  carries_copy i j tray load a [] p q h = tt
  carries_copy i j tray load a (x ∷ R) p q (e, h) =
      (rw (ne_eqb (i % K) (j % K) (apart K i j (omega arith) (omega arith))) e, carries_copy (suc i) j tray load a R (omega arith) (omega arith) h)

  -- publish
  pub carries_push : (i s : ℕ) (tray load : ℕ → Option P) (R : List ℕ) → tray ((i + length R) % K) ≡ load s → Carries K tray load i R → Carries K tray load i (R ++ s ∷ [])
  carries_push i s tray load [] e h = (rw add-zero at e, tt)
  carries_push i s tray load (x ∷ R) e (k, h) = (k, carries_push (suc i) s tray load R (rw (add-suc, ← suc-add) at e) h)

  -- another table of payloads that agrees on the ring
  pub carries_on : (i : ℕ) (tray load load' : ℕ → Option P) (R : List ℕ) → AllByRecursion (λ x. load' x ≡ load x) R → Carries K tray load i R → Carries K tray load' i R
  carries_on i tray load load' [] a h = tt
  carries_on i tray load load' (x ∷ R) (a, as') (e, h) = (e ∙ sym a, carries_on (suc i) tray load load' R as' h)
