-- A collect that ends empty comes to the end of the front: the back delivers nothing then, and all of it lies after the collect began.
use Rattle.std.proofs.Common.{◌≡◌, ℕ, suc, ◌<◌, ◌≤◌, eqb, ◌≢◌, List, [], ◌∷◌, ◌++◌, length, sym, refl, ◌∙◌, subst, inl, inr, append_assoc, arith}
use mathlib.Core.Option.{none}
use Rattle.std.specs.List.{AllByRecursion}
use Rattle.std.proofs.ByRecursion.{All-weaker}
use Rattle.std.proofs.lemmas.Bool.{cases_eq, cond-false, cond-true, eq-eqb, lt-ltb, ne_eqb}
use Rattle.order.specs.Tables.{In, Pairs}
use Rattle.order.specs.SingleFile.{Act, act_of, count}
use Rattle.order.specs.SingleFile.Did.{empty}
use Rattle.order.specs.Events.CollectEnd.{as_empty}
use Rattle.order.specs.Logs.{Ended}
use Rattle.order.specs.Logs.Operation.{collect}
use Rattle.order.specs.Books.{Book, Waiting, book_collect}
use Rattle.order.specs.Books.Collect.{at_rest, looking}
use Rattle.order.specs.Guards.{Late}
use Rattle.order.proofs.Lists.{all_both, all_front, all_put, all_rest, in_here, in_put, pairs_put}
use Rattle.order.proofs.Backs.{ClearOf, Item, act_at, acts, all_acts, all_items, deliveries, fetched_after, since, standing_of}
use Rattle.order.proofs.Backs.Item.{fetch, refused, standing}
use Rattle.order.proofs.Invariant.{After, Before, BegunBefore, CollectOk, Core, EndsLate, FetchedBefore, FirstStands, NotBegunAt, Placed, RefusedBefore, Settled, Sorted, Unplaced, View, view}
use Rattle.order.proofs.Facts.{acts_next, all_before_last, all_timed_next, apart_next, before_next, ended_next, ends_late_next}
use Rattle.order.proofs.Framing.{lane_stays, replays_push}
use Rattle.order.proofs.Closing.{ended_cases, ended_new, ended_old, ends_as, keeps_closed}

module _ {P : Type 0} where
  -- if every frame that waits ended after t, then every item of the back has its place after t
  pub all_late :
      (book : Book P) (t : ℕ) (back : List (Item P)) → FirstStands back → ((l : ℕ) → standing_of l back ≡ book.waiting l) → Late book t → Pairs Sorted back
      → AllByRecursion (After t) back
  all_late book t [] h w k o = tt
  all_late book t (standing v ∷ is) h w k (a, o) =
      let l = v.frame.lane in
      let e : v ∷ standing_of l is ≡ book.waiting l = sym (cond-true (eqb l l) (v ∷ standing_of l is) (standing_of l is) (eq-eqb l l refl)) ∙ w l in
      let n : AllByRecursion (λ (w : Waiting P). t < w.end) (v ∷ standing_of l is) = subst (AllByRecursion (λ (w : Waiting P). t < w.end)) (sym e) (k l) in
      (n.0, All-weaker (Sorted (standing v)) (After t) (λ j s. omega (arith, n.0)) is a)
  all_late book t (refused b r u ∷ is) h w k o = absurd h
  all_late book t (fetch b f u ∷ is) h w k o = absurd h

  -- then it has none of the collects that lie before t
  none_delivered : (t : ℕ) (is : List (Item P)) → AllByRecursion (After t) is → AllByRecursion (FetchedBefore t) is → deliveries is ≡ []
  none_delivered t [] h k = refl
  none_delivered t (standing w ∷ is) (a, h) (b, k) = none_delivered t is h k
  none_delivered t (refused c r u ∷ is) (a, h) (b, k) = none_delivered t is h k
  none_delivered t (fetch c f u ∷ is) (a, h) (b, k) = absurd (omega arith)

  -- its deliveries of a lane are its frees of that lane after t
  pub all_fetched_after : (l t : ℕ) (is : List (Item P)) → AllByRecursion (After t) is → fetched_after l t is ≡ count l (deliveries is)
  all_fetched_after l t [] h = refl
  all_fetched_after l t (standing w ∷ is) (a, h) = all_fetched_after l t is h
  all_fetched_after l t (refused c r u ∷ is) (a, h) = all_fetched_after l t is h
  all_fetched_after l t (fetch c f u ∷ is) (a, h) = let ih = all_fetched_after l t is h in let e = lt-ltb t u a in grind arith

  -- it is clear of a lane on which nothing waits, if the full posts of that lane lie before b, and b before t
  pub all_clear : (r b t : ℕ) (is : List (Item P)) → b < t → AllByRecursion (After t) is → standing_of r is ≡ [] → AllByRecursion (RefusedBefore r b) is → AllByRecursion (ClearOf r) is
  all_clear r b t [] n h w k = tt
  all_clear r b t (standing v ∷ is) n (a, h) w (s, k) =
      elim (cases_eq v.frame.lane r) [
        | inl e ↦ absurd (let z : v ∷ standing_of r is ≡ [] = sym (cond-true (eqb v.frame.lane r) (v ∷ standing_of r is) (standing_of r is) (eq-eqb v.frame.lane r e)) ∙ w in let y : ◌≡◌ {A = ℕ} 0 1 = cc in omega arith)
        | inr m ↦ (m, all_clear r b t is n h (sym (cond-false (eqb v.frame.lane r) (v ∷ standing_of r is) (standing_of r is) (ne_eqb v.frame.lane r m)) ∙ w) k)
      ]
  all_clear r b t (refused c l u ∷ is) n (a, h) w (s, k) = ((λ e. omega (arith, s e)), all_clear r b t is n h w k)
  all_clear r b t (fetch c f u ∷ is) n (a, h) w (s, k) = (tt, all_clear r b t is n h w k)

  -- what began by t may stand before items that all have their place after t
  pub before_first :
      (ds : List (Ended P)) (t : ℕ) (a : Act P) (is : List (Item P)) → a.began ≤ t → AllByRecursion (After t) is → AllByRecursion (EndsLate ds) is
      → Unplaced (acts is) a.began → AllByRecursion (Before ds a) (acts is)
  before_first ds t a is n h k u =
      let Later : Item P → Type 0 = λ j. (t < since j) × ((act_at j).began ≢ a.began) in
      let both : AllByRecursion Later is = all_both (After t) (λ (j : Item P). (act_at j).began ≢ a.began) Later (λ j x y. (x, y)) is h (all_items (NotBegunAt a.began) is u) in
      all_acts (Before ds a) is
      (all_both Later (EndsLate ds) (λ (j : Item P). Before ds a (act_at j))
      (λ j p o. ((λ e. p.1 (sym e)), All-weaker (λ (d : Ended P). d.began ≡ (act_at j).began → since j ≤ d.ended) (λ (d : Ended P). d.began ≡ (act_at j).began → a.began ≤ d.ended) (λ d q e. omega (arith, q e, p.0)) ds o))
      is both k)

  pub empty_keeps :
      (cap : ℕ) (ds : List (Ended P)) (book : Book P) → Placed cap ds book → (b n : ℕ) → book.collect ≡ looking b → Late book b
      → Placed cap (ends_as b book.now n (collect none as_empty) ∷ ds) (book_collect book at_rest)
  empty_keeps cap ds book v b n e late =
      let o = v.owner in
      let now = book.now in
      let front = v.front in
      let back = v.back in
      let a : Act P = act_of b empty in
      let d : Ended P = ends_as b now n (collect none as_empty) in
      let book' = book_collect book at_rest in
      let old : List (Act P) = front ++ acts back in
      let new : List (Act P) = front ++ a ∷ acts back in
      let c : Core cap ds book o old back = subst (λ (xs : List (Act P)). Core cap ds book o xs back) v.split.parts v.core in
      let u : View P = view ds book o old back in
      let u' : View P = view (d ∷ ds) book' o new back in
      let was : CollectOk u (looking b) = rw e at c.collector in
      let later : AllByRecursion (After b) back = all_late book b back v.first_stands c.waiting late c.sorted in
      let nil : deliveries back ≡ [] = none_delivered b back later was.2 in
      let past : AllByRecursion (BegunBefore now) new = all_put (BegunBefore now) front (acts back) a was.0.0 c.past in
      record {
        owner = o;
        order = new;
        front = front ++ a ∷ [];
        back = back;
        first_stands = v.first_stands;
        split = record { parts = sym (append_assoc front (a ∷ []) (acts back)); replays = replays_push cap front a [] (deliveries back) (deliveries back) v.split.replays (nil, nil) };
        core =
            record {
              levels = c.levels;
              waiting = c.waiting;
              sorted = c.sorted;
              timed = all_timed_next now back c.timed;
              ends_late = ends_late_next now d ds back refl c.timed c.ends_late;
              room = c.room;
              lanes =
                  λ l. lane_stays u u' cap l (length (book.waiting l)) (length (book.waiting l)) (book.posts l)
                  (keeps_closed ds book o old new back back d (suc l) (λ z. omega (arith, was.0.1)) (λ b m h. all_put (NotBegunAt b) front (acts back) a m h))
                  (λ b h. h) (λ t h. omega arith) (c.lanes l);
              collector = tt;
              precede =
                  before_next now d ds new refl past
                  (pairs_put (Before ds) front (acts back) a
                  (all_before_last ds a front was.0.2 (all_front (NotBegunAt b) front (acts back) was.1))
                  (before_first ds b a back (omega arith) later c.ends_late (all_rest (NotBegunAt b) front (acts back) was.1))
                  c.precede);
              past = acts_next now new past;
              past_ended = (omega (arith, was.0.0), ended_next now ds c.past_ended);
              ended_apart = (apart_next d ds was.0.2, c.ended_apart);
              settled =
                  all_put (Settled (d ∷ ds) book') front (acts back) a (inl (ended_new ds d empty a refl refl))
                  (All-weaker (Settled ds book) (Settled (d ∷ ds) book')
                  (λ x h. elim h [
                    | inl k ↦ inl (ended_old ds d x k)
                    | inr (inl (c, w, z, q)) ↦ absurd (let y : ◌≡◌ {A = ℕ} 0 1 = cc in omega arith)
                    | inr (inr k) ↦ inr (inr k)
                  ])
                  old c.settled);
              whole =
                  λ x h. elim h [
                    | inl k ↦ elim (ended_cases ds d empty x (λ m h. h) k) [ inl q ↦ subst (λ (x : Act P). In x new) q (in_here a front (acts back)) | inr q ↦ in_put x front (acts back) a (c.whole x (inl q)) ]
                    | inr (inl (c, w, z, q)) ↦ absurd (let y : ◌≡◌ {A = ℕ} 0 1 = cc in omega arith)
                    | inr (inr k) ↦ in_put x front (acts back) a (c.whole x (inr (inr k)))
                  ];
            };
      }
