-- A collect frees a frame. The frame's post goes to the end of the front, from its place in the back if it waited, and the collect comes
-- to the end of the back; then the back is normalised.
use Rattle.std.proofs.Common.{◌≡◌, ℕ, suc, ◌+◌, ◌<◌, ◌≤◌, Bool, true, false, ◌&&◌, eqb, ltb, ◌≢◌, List, [], ◌∷◌, ◌++◌, length, sym, refl, ap, ◌∙◌, subst, inl, inr, append_assoc, append-nil, arith}
use Rattle.std.specs.List.{AllByRecursion}
use Rattle.std.proofs.ByRecursion.{All-push, All-weaker}
use Rattle.std.proofs.lemmas.Bool.{ne_eqb}
use Rattle.order.specs.Tables.{In, Pairs}
use Rattle.order.specs.SingleFile.{Act, Does, Frame, Replays, act_of, count, one}
use Rattle.order.specs.SingleFile.Did.{delivered, posted}
use Rattle.order.specs.Logs.{Ended}
use Rattle.order.specs.Books.{Book, Post, Waiting}
use Rattle.order.specs.Books.Collect.{holding}
use Rattle.order.proofs.Lists.{pairs_push}
use Rattle.order.proofs.Backs.{Item, acts, acts_append, deliveries, deliveries_append, fetched_after, fetched_append, standing_append, standing_of}
use Rattle.order.proofs.Backs.Item.{fetch, refused, standing}
use Rattle.order.proofs.Levels.{Levels}
use Rattle.order.proofs.Invariant.{Before, BegunBefore, EarlierThan, EndedOther, EndsLate, LaneOk, Open, Placed, RefusedApart, RefusedBefore, Room, Settled, Sorted, Timed, Unplaced, View, view}
use Rattle.order.proofs.Facts.{acts_next, all_before_last, all_timed_next, ended_next, since_past}
use Rattle.order.proofs.Framing.{normalise, replays_push}

-- The collect that began at b frees f, whose post has the act e; `rest` is the back without e.
module _
    {P : Type 0} (cap : ℕ) (ds : List (Ended P)) (book : Book P) (owner : ℕ → ℕ) (front : List (Act P)) (e : Act P) (rest : List (Item P))
    (b : ℕ) (f : Frame P) (posts' : ℕ → Post P) (waiting' : ℕ → List (Waiting P))
  where
    abbrev pub freed_book : Book P
    freed_book = record { now = suc book.now; posts = posts'; waiting = waiting'; collect = holding b f; top = book.top }

    -- the order with e in its new place; with the collect behind it
    abbrev moved_order : List (Act P)
    moved_order = front ++ e ∷ acts rest

    abbrev freed_order : List (Act P)
    freed_order = moved_order ++ act_of b (delivered f) ∷ []

    abbrev freed_back : List (Item P)
    freed_back = rest ++ fetch b f book.now ∷ []

    abbrev freed_view : View P
    freed_view = view ds freed_book owner freed_order freed_back

    pub record Ready : Type 0 where
      pub opened : Open (view ds book owner moved_order rest) 0 b
      pub unplaced : Unplaced moved_order b
      pub its_post : e.did ≡ posted f
      pub fits : count f.lane (deliveries rest) < cap
      pub replays : Replays cap [] front (deliveries rest)
      pub levels : (l : ℕ) → Levels cap l 0 freed_back
      pub waiting : (l : ℕ) → standing_of l rest ≡ waiting' l
      pub sorted : Pairs Sorted rest
      pub timed : AllByRecursion (Timed book.now) rest
      pub ends_late : AllByRecursion (EndsLate ds) rest
      pub room : (l : ℕ) → Room cap l freed_back 0 (waiting' l)
      pub lanes : (l : ℕ) → LaneOk cap freed_view l (length (waiting' l)) (posts' l)
      pub precede : Pairs (Before ds) moved_order
      pub past : AllByRecursion (BegunBefore book.now) moved_order
      pub past_ended : AllByRecursion (EarlierThan book.now) ds
      pub ended_apart : Pairs (λ (x y : Ended P). x.began ≢ y.began) ds
      pub settled : AllByRecursion (Settled ds freed_book) moved_order
      pub whole : (a : Act P) → Settled ds freed_book a → In a freed_order

    pub frees : Ready → Placed cap ds freed_book
    frees k =
        let n = book.now in
        let d : Act P = act_of b (delivered f) in
        let i : Item P = fetch b f n in
        let posts_e : Does cap (deliveries rest) e.did (deliveries rest ++ f ∷ []) = rw k.its_post ((λ z. omega (arith, k.fits)), refl) in
        let front_e : Replays cap [] (front ++ e ∷ []) (deliveries freed_back) =
        subst (Replays cap [] (front ++ e ∷ [])) (sym (deliveries_append rest (i ∷ []))) (replays_push cap front e [] (deliveries rest) (deliveries rest ++ f ∷ []) k.replays posts_e) in
        let parts_e : freed_order ≡ (front ++ e ∷ []) ++ acts freed_back =
        append_assoc front (e ∷ acts rest) (d ∷ []) ∙ (ap (λ (xs : List (Act P)). front ++ e ∷ xs) (sym (acts_append rest (i ∷ []))) ∙ sym (append_assoc front (e ∷ []) (acts freed_back))) in
        normalise cap ds freed_book owner freed_order freed_back (front ++ e ∷ []) (record { parts = parts_e; replays = front_e })
        (record {
          levels = k.levels;
          waiting = λ l. standing_append l rest (i ∷ []) ∙ (append-nil (standing_of l rest) ∙ k.waiting l);
          sorted = pairs_push Sorted rest i (All-weaker (Timed n) (λ (j : Item P). Sorted j i) (λ j o. (since_past n j o, apart_fetch j)) rest k.timed) k.sorted;
          timed = All-push (Timed (suc n)) rest i (all_timed_next n rest k.timed) (k.opened.0, omega arith);
          ends_late =
              All-push (EndsLate ds) rest i k.ends_late
              (All-weaker (EndedOther b) (λ (d : Ended P). d.began ≡ b → n ≤ d.ended) (λ d m e. absurd (m e)) ds k.opened.2);
          room = k.room;
          lanes = k.lanes;
          collector = (omega (arith, k.opened.0), k.opened.1, k.opened.2);
          precede = pairs_push (Before ds) moved_order d (all_before_last ds d moved_order k.opened.2 k.unplaced) k.precede;
          past = acts_next n freed_order (All-push (BegunBefore n) moved_order d k.past k.opened.0);
          past_ended = ended_next n ds k.past_ended;
          ended_apart = k.ended_apart;
          settled = All-push (Settled ds freed_book) moved_order d k.settled (inr (inl (b, f, refl, refl)));
          whole = k.whole;
        })
      where
        apart_fetch : (j : Item P) → RefusedApart j (fetch b f book.now)
        apart_fetch (standing w) = tt
        apart_fetch (refused c l u) = tt
        apart_fetch (fetch c h u) = tt

one_at_most : (t : Bool) → one t ≤ 1
one_at_most true = omega arith
one_at_most false = omega arith

module _ {P : Type 0} where
  -- one more collect frees at most one frame of its lane more, and none of another
  pub one_more : (l t b u : ℕ) (f : Frame P) (is : List (Item P)) → fetched_after l t (is ++ fetch b f u ∷ []) ≤ fetched_after l t is + 1
  one_more l t b u f is = omega (arith, fetched_append l t is (fetch b f u ∷ []), one_at_most (eqb f.lane l && ltb t u))

  pub no_more : (l t b u : ℕ) (f : Frame P) (is : List (Item P)) → l ≢ f.lane → fetched_after l t (is ++ fetch b f u ∷ []) ≡ fetched_after l t is
  no_more l t b u f is n = let e = ne_eqb f.lane l (λ z. n (sym z)) in let a = fetched_append l t is (fetch b f u ∷ []) in grind arith

  pub apart_before : (j : Item P) (w : Waiting P) → RefusedApart j (standing w) → RefusedBefore w.frame.lane w.began j
  apart_before (standing v) w h = tt
  apart_before (refused b r u) w h = λ e. h (sym e)
  apart_before (fetch b f u) w h = tt
