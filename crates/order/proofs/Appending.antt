-- A post that ends posted or full, and whose frame was not freed before, comes to the end of the back.
use Rattle.std.proofs.Common.{◌≡◌, ℕ, suc, ◌+◌, ◌<◌, ◌≤◌, ◌≢◌, List, [], ◌∷◌, ◌++◌, length, sym, refl, ap, ◌∙◌, subst, inl, inr, append_assoc, append-nil, arith}
use mathlib.Core.Option.{none, some}
use Rattle.std.specs.List.{AllByRecursion}
use Rattle.std.proofs.ByRecursion.{All-push, All-weaker}
use Rattle.std.proofs.lemmas.Bool.{eq-eqb, ne_eqb}
use Rattle.order.specs.Tables.{In, upd}
use Rattle.order.specs.SingleFile.{Act, Did}
use Rattle.order.specs.Events.PostEnd.{as_full, as_posted}
use Rattle.order.specs.Logs.{Ended, Operation}
use Rattle.order.specs.Logs.Operation.{post}
use Rattle.order.specs.Orders.{Agrees}
use Rattle.order.specs.Books.{Book, Waiting, book_post, book_posted, waits_now}
use Rattle.order.specs.Books.Post.{begun, idle, stamped}
use Rattle.order.proofs.Lists.{all_any, all_both, in_here, in_push, pairs_push, upd_all, upd_other}
use Rattle.order.proofs.Backs.{Item, act_at, acts, acts_append, deliveries, deliveries_append, fetched_after, fetched_append, since, standing_append, standing_of}
use Rattle.order.proofs.Backs.Item.{fetch, refused, standing}
use Rattle.order.proofs.Levels.{Levels, levels_push}
use Rattle.order.proofs.Invariant.{Before, BegunBefore, EndedOther, EndsLate, FetchedBefore, LaneOk, NotBegunAt, Open, Placed, RefusedApart, RefusedBefore, Room, Settled, Sorted, Split, Timed, Unplaced, View, view}
use Rattle.order.proofs.Facts.{NotGone, acts_next, all_before_last, all_timed_next, apart_next, before_next, begun_not_gone, ended_next, ends_late_next, gone_after, gone_from, idle_not_gone, since_past, stamped_not_gone}
use Rattle.order.proofs.Framing.{Keeps, collect_stays, lane_stays, normalise, room_post, room_stays}
use Rattle.order.proofs.Closing.{ended_cases, ended_new, ended_old, ends_as, keeps_closed, suc_apart}

-- a post of lane r ends now with the operation o; its item is i
module _ {P : Type 0} (cap : ℕ) (ds : List (Ended P)) (book : Book P) (v : Placed cap ds book) (r n : ℕ) (i : Item P) (o : Operation P) (waiting' : ℕ → List (Waiting P)) where
  abbrev new_ended : Ended P
  new_ended = ends_as (act_at i).began book.now n o

  abbrev new_book : Book P
  new_book = record { now = suc book.now; posts = upd book.posts r idle; waiting = waiting'; collect = book.collect; top = book.top }

  abbrev new_order : List (Act P)
  new_order = v.order ++ act_at i ∷ []

  abbrev new_back : List (Item P)
  new_back = v.back ++ i ∷ []

  abbrev was : View P
  was = view ds book v.owner v.order v.back

  abbrev new_view : View P
  new_view = view (new_ended ∷ ds) new_book v.owner new_order new_back

  -- what has to be known of the item and of what waits with it
  record Fits : Type 0 where
    opened : Open was (suc r) (act_at i).began
    unplaced : Unplaced v.order (act_at i).began
    not_gone : NotGone (book.posts r)
    agrees : Agrees o (act_at i).did
    only : (m : Did P) → Agrees o m → (act_at i).did ≡ m
    its_end : since i ≡ book.now
    its_times : Timed (suc book.now) i
    delivers_none : deliveries (i ∷ []) ≡ []
    fetches_none : (l t : ℕ) → fetched_after l t (i ∷ []) ≡ 0
    no_refusal : (l b : ℕ) → l ≢ r → RefusedBefore l b i
    no_fetch : (b : ℕ) → FetchedBefore b i
    apart : AllByRecursion (λ (j : Item P). RefusedApart j i) v.back
    levels : (l : ℕ) → Levels cap l (length (standing_of l v.back) + 0) (i ∷ [])
    waiting : (l : ℕ) → standing_of l v.back ++ standing_of l (i ∷ []) ≡ waiting' l
    room : (l : ℕ) → Room cap l v.back 0 (waiting' l)
    others : (l : ℕ) → l ≢ r → waiting' l ≡ book.waiting l

  module _ (f : Fits) where
    keeps : (who : ℕ) → suc r ≢ who → Keeps was new_view who
    keeps who m =
        keeps_closed ds book v.owner v.order new_order v.back new_back new_ended who (λ e. m (sym f.opened.1 ∙ e))
        (λ b m h. All-push (NotBegunAt b) v.order (act_at i) h m)

    same_fetches : (l t : ℕ) → fetched_after l t new_back ≡ fetched_after l t v.back
    same_fetches l t = omega (arith, fetched_append l t v.back (i ∷ []), f.fetches_none l t)

    other_lanes : (l : ℕ) → l ≢ r → LaneOk cap new_view l (length (waiting' l)) (book.posts l)
    other_lanes l m =
        lane_stays was new_view cap l (length (book.waiting l)) (length (waiting' l)) (book.posts l)
        (keeps (suc l) (λ e. suc_apart l r m e))
        (λ b h. All-push (RefusedBefore l b) v.back i h (f.no_refusal l b m))
        (λ t h. omega (arith, same_fetches l t, ap length (f.others l m)))
        (v.core.lanes l)

    new_split : Split cap new_order v.front new_back
    new_split =
        record {
          parts = rw v.split.parts (append_assoc v.front (acts v.back) (act_at i ∷ []) ∙ ap (λ (xs : List (Act P)). v.front ++ xs) (sym (acts_append v.back (i ∷ []))));
          replays = rw (deliveries_append v.back (i ∷ []), f.delivers_none, append-nil (deliveries v.back)) v.split.replays;
        }

    into : (a : Act P) → Settled ds book a → Settled (new_ended ∷ ds) new_book a
    into a h =
        elim h [ inl k ↦ inl (ended_old ds new_ended a k) | inr (inl k) ↦ inr (inl k) | inr (inr k) ↦ inr (inr (gone_after book.posts r idle a f.not_gone k)) ]

    from : (a : Act P) → Settled (new_ended ∷ ds) new_book a → In a new_order
    from a h =
        let old : Settled ds book a → In a new_order = λ k. in_push a v.order (act_at i) (v.core.whole a k) in
        elim h [
          | inl k ↦ elim (ended_cases ds new_ended (act_at i).did a f.only k) [ inl q ↦ subst (λ (a : Act P). In a new_order) q (in_here (act_at i) v.order []) | inr q ↦ old (inl q) ]
          | inr (inl k) ↦ old (inr (inl k))
          | inr (inr k) ↦ old (inr (inr (gone_from book.posts r idle a idle_not_gone k)))
        ]

    appends : Placed cap (new_ended ∷ ds) new_book
    appends =
        let c = v.core in
        let t = book.now in
        let past : AllByRecursion (BegunBefore t) new_order = All-push (BegunBefore t) v.order (act_at i) c.past f.opened.0 in
        normalise cap (new_ended ∷ ds) new_book v.owner new_order new_back v.front new_split
        (record {
          levels = λ l. levels_push cap l 0 i v.back f.delivers_none (f.levels l) (c.levels l);
          waiting = λ l. standing_append l v.back (i ∷ []) ∙ f.waiting l;
          sorted =
              pairs_push Sorted v.back i
              (all_both (Timed t) (λ (j : Item P). RefusedApart j i) (λ (j : Item P). Sorted j i) (λ j o a. (omega (arith, since_past t j o, f.its_end), a)) v.back c.timed f.apart) c.sorted;
          timed = All-push (Timed (suc t)) v.back i (all_timed_next t v.back c.timed) f.its_times;
          ends_late =
              All-push (EndsLate (new_ended ∷ ds)) v.back i (ends_late_next t new_ended ds v.back refl c.timed c.ends_late)
              ((λ _. omega (arith, f.its_end)), All-weaker (EndedOther (act_at i).began) (λ (d : Ended P). d.began ≡ (act_at i).began → since i ≤ d.ended) (λ d m e. absurd (m e)) ds f.opened.2);
          room = λ l. room_stays cap l v.back new_back 0 0 (waiting' l) (λ t. omega (arith, same_fetches l t)) (f.room l);
          lanes = upd_all (λ l p. LaneOk cap new_view l (length (waiting' l)) p) book.posts r idle tt other_lanes;
          collector = collect_stays was new_view book.collect (keeps 0 (λ e. omega arith)) (λ b h. All-push (FetchedBefore b) v.back i h (f.no_fetch b)) c.collector;
          precede =
              before_next t new_ended ds new_order refl past
              (pairs_push (Before ds) v.order (act_at i) (all_before_last ds (act_at i) v.order f.opened.2 f.unplaced) c.precede);
          past = acts_next t new_order past;
          past_ended = (omega (arith, f.opened.0), ended_next t ds c.past_ended);
          ended_apart = (apart_next new_ended ds f.opened.2, c.ended_apart);
          settled =
              All-push (Settled (new_ended ∷ ds) new_book) v.order (act_at i) (All-weaker (Settled ds book) (Settled (new_ended ∷ ds) new_book) into v.order c.settled)
              (inl (ended_new ds new_ended (act_at i).did (act_at i) f.agrees refl));
          whole = from;
        })

module _ {P : Type 0} where
  apart_standing : (j : Item P) (w : Waiting P) → RefusedBefore w.frame.lane w.began j → RefusedApart j (standing w)
  apart_standing (standing v) w h = tt
  apart_standing (refused b r u) w h = λ e. h (sym e)
  apart_standing (fetch b f u) w h = tt

  apart_refused : (b r u : ℕ) (j : Item P) → RefusedApart j (refused b r u)
  apart_refused b r u (standing v) = tt
  apart_refused b r u (refused c l t) = tt
  apart_refused b r u (fetch c f t) = tt

module _ {P : Type 0} (cap : ℕ) (ds : List (Ended P)) (book : Book P) (v : Placed cap ds book) where
  pub posted_keeps :
      (r b s t n k : ℕ) (x : P) → k ≡ s → book.posts r ≡ stamped b x s t
      → Placed cap (ends_as b book.now n (post r x (some s) (as_posted k)) ∷ ds) (book_posted book r (stamped b x s t))
  posted_keeps r b s t n k x ks e =
      let c = v.core in
      let w : Waiting P = waits_now book r b x s t in
      let ws : List (Waiting P) = book.waiting r ++ w ∷ [] in
      let lane : LaneOk cap (view ds book v.owner v.order v.back) r (length (book.waiting r)) (stamped b x s t) = rw e at (c.lanes r) in
      let m : length (standing_of r v.back) < cap = omega (arith, ap length (c.waiting r), lane.5) in
      appends cap ds book v r n (standing w) (post r x (some s) (as_posted k)) (upd book.waiting r ws)
      (record {
        opened = lane.0;
        unplaced = lane.1;
        not_gone = rw e (stamped_not_gone b x s t);
        agrees = (refl, ks);
        only = λ m h. h.0;
        its_end = refl;
        its_times = (lane.3, lane.4, omega arith);
        delivers_none = refl;
        fetches_none = λ l u. refl;
        no_refusal = λ l c n. tt;
        no_fetch = λ c. tt;
        apart = All-weaker (RefusedBefore r b) (λ (j : Item P). RefusedApart j (standing w)) (λ j h. apart_standing j w h) v.back lane.2;
        levels = λ l. ((λ z. subst (λ (l : ℕ). 0 + (length (standing_of l v.back) + 0) < cap) z (omega arith)), tt);
        waiting =
            upd_all (λ l us. standing_of l v.back ++ standing_of l (standing w ∷ []) ≡ us) book.waiting r ws
            (rw (eq-eqb r r refl, c.waiting r) refl)
            (λ l d. rw (ne_eqb r l (λ z. d (sym z)), c.waiting l) (append-nil (book.waiting l)));
        room =
            upd_all (λ l us. Room cap l v.back 0 us) book.waiting r ws
            (room_post cap r v.back 0 (book.waiting r) w (omega (arith, lane.5)) (c.room r)) (λ l _. c.room l);
        others = λ l d. upd_other book.waiting r ws l d;
      })

  pub full_keeps :
      (r b n : ℕ) (x : P) → book.posts r ≡ begun b x → length (book.waiting r) ≡ cap
      → Placed cap (ends_as b book.now n (post r x none as_full) ∷ ds) (book_post book r idle)
  full_keeps r b n x e m =
      let c = v.core in
      let i : Item P = refused b r book.now in
      let lane : LaneOk cap (view ds book v.owner v.order v.back) r (length (book.waiting r)) (begun b x) = rw e at (c.lanes r) in
      let k : length (standing_of r v.back) ≡ cap = omega (arith, ap length (c.waiting r)) in
      appends cap ds book v r n i (post r x none as_full) book.waiting
      (record {
        opened = lane.0;
        unplaced = lane.1;
        not_gone = rw e (begun_not_gone b x);
        agrees = refl;
        only = λ m h. h;
        its_end = refl;
        its_times = (lane.0.0, omega arith);
        delivers_none = refl;
        fetches_none = λ l u. refl;
        no_refusal = λ l c d z. absurd (d (sym z));
        no_fetch = λ c. tt;
        apart = all_any (λ (j : Item P). RefusedApart j i) (apart_refused b r book.now) v.back;
        levels = λ l. ((λ z. subst (λ (l : ℕ). 0 + (length (standing_of l v.back) + 0) ≡ cap) z (omega arith)), tt);
        waiting = λ l. append-nil (standing_of l v.back) ∙ c.waiting l;
        room = c.room;
        others = λ l d. refl;
      })
