-- A collect frees a frame that waited, the oldest of its lane: its post moves from the back to the end of the front.
use Rattle.std.proofs.Common.{◌≡◌, ℕ, suc, ◌+◌, ◌≤◌, ◌≢◌, List, [], ◌∷◌, ◌++◌, length, sym, refl, ap, ◌∙◌, subst, inl, inr, append_assoc, arith}
use Rattle.std.specs.List.{AllByRecursion}
use Rattle.std.proofs.ByRecursion.{All-push, All-weaker}
use Rattle.std.proofs.lemmas.Bool.{ne_eqb}
use Rattle.order.specs.Tables.{In, upd}
use Rattle.order.specs.SingleFile.{Act, Replays, act_of, count}
use Rattle.order.specs.SingleFile.Did.{delivered}
use Rattle.order.specs.Logs.{Ended}
use Rattle.order.specs.Books.{Book, Waiting}
use Rattle.order.specs.Books.Collect.{holding, looking}
use Rattle.order.specs.Guards.{Late}
use Rattle.order.proofs.Lists.{all_at, all_front, all_less, all_move, all_rest, in_here, in_move, in_push, pairs_before, pairs_less, pairs_move, upd_all}
use Rattle.order.proofs.Backs.{ClearOf, Found, Item, act_at, acts, acts_append, deliveries, deliveries_append, fetched_after, fetched_append, find, standing_append, standing_of}
use Rattle.order.proofs.Backs.Item.{fetch, standing}
use Rattle.order.proofs.Levels.{levels_moved}
use Rattle.order.proofs.Invariant.{After, Before, BegunBefore, CollectOk, Core, EndsLate, FirstStands, NotBegunAt, Placed, RefusedBefore, Room, Settled, Sorted, Timed, Unplaced, View, view}
use Rattle.order.proofs.Framing.{Keeps, lane_stays, room_stays}
use Rattle.order.proofs.Emptying.{all_clear, all_fetched_after, all_late, before_first}
use Rattle.order.proofs.Freeing.{apart_before, freed_book, frees, no_more, one_more}

module _ {P : Type 0} where
  pub freed_waiting_keeps :
      (cap : ℕ) (ds : List (Ended P)) (book : Book P) → Placed cap ds book → (b r : ℕ) (w : Waiting P) (ws : List (Waiting P))
      → book.collect ≡ looking b → book.waiting r ≡ w ∷ ws → Late book w.take
      → Placed cap ds (record { now = suc book.now; posts = book.posts; waiting = upd book.waiting r ws; collect = holding b w.frame; top = book.top })
  freed_waiting_keeps cap ds book v b r w ws is-looking is-w late =
      let o = v.owner in
      let n = book.now in
      let f = w.frame in
      let t = w.take in
      let front = v.front in
      let found : Found r w ws v.back = find r w ws v.back (v.core.waiting r ∙ is-w) in
      let x = found.before in
      let y = found.behind in
      let rl : f.lane ≡ r = found.its_lane in
      let back : List (Item P) = x ++ standing w ∷ y in
      let rest : List (Item P) = x ++ y in
      let e : Act P = act_at (standing w) in
      let d : Act P = act_of b (delivered f) in
      let i : Item P = fetch b f n in
      let waiting' : ℕ → List (Waiting P) = upd book.waiting r ws in
      let book' : Book P = freed_book cap ds book o front e rest b f book.posts waiting' in
      let old : List (Act P) = front ++ (acts x ++ e ∷ acts y) in
      let mid : List (Act P) = front ++ e ∷ acts rest in
      let parts_old : v.order ≡ old = v.split.parts ∙ (ap (λ (is : List (Item P)). front ++ acts is) found.parts ∙ ap (λ (xs : List (Act P)). front ++ xs) (acts_append x (standing w ∷ y))) in
      let acts_rest : acts rest ≡ acts x ++ acts y = acts_append x y in
      let c0 : Core cap ds book o old v.back = subst (λ (xs : List (Act P)). Core cap ds book o xs v.back) parts_old v.core in
      let c : Core cap ds book o old back = subst (λ (is : List (Item P)). Core cap ds book o old is) found.parts c0 in
      let u : View P = view ds book o old back in
      let u' : View P = view ds book' o (mid ++ d ∷ []) (rest ++ i ∷ []) in
      let was : CollectOk u (looking b) = rw is-looking at c.collector in
      let moved : (Q : Act P → Type 0) → AllByRecursion Q old → AllByRecursion Q mid = λ Q h. rw acts_rest (all_move Q e front (acts x) (acts y) h) in
      let lates : AllByRecursion (After t) back = all_late book t back (subst FirstStands found.parts v.first_stands) c.waiting late c.sorted in
      let lates_x : AllByRecursion (After t) x = all_front (After t) x (standing w ∷ y) lates in
      let lates_rest : AllByRecursion (After t) rest = all_less (After t) x y (standing w) lates in
      let times : Timed n (standing w) = all_at (Timed n) x y (standing w) c.timed in
      let refusals : AllByRecursion (RefusedBefore f.lane w.began) x =
      All-weaker (λ (j : Item P). Sorted j (standing w)) (RefusedBefore f.lane w.began) (λ j s. apart_before j w s.1) x (pairs_before Sorted x y (standing w) c.sorted) in
      let clear : AllByRecursion (ClearOf f.lane) x = all_clear f.lane w.began t x times.0 lates_x (subst (λ (l : ℕ). standing_of l x ≡ []) (sym rl) found.none_before) refusals in
      let same_deliveries : deliveries back ≡ deliveries rest = deliveries_append x (standing w ∷ y) ∙ sym (deliveries_append x y) in
      let same_fetches : (l u : ℕ) → fetched_after l u back ≡ fetched_after l u rest = λ l u. omega (arith, fetched_append l u x (standing w ∷ y), fetched_append l u x y) in
      let room_r : Room cap r back 0 (w ∷ ws) = subst (Room cap r back 0) is-w (c.room r) in
      let len : length (book.waiting r) ≡ suc (length ws) = ap length is-w in
      let later : (l u : ℕ) → l ≢ r → fetched_after l u (rest ++ i ∷ []) ≡ fetched_after l u back = λ l u m. omega (arith, no_more l u b n f rest (λ z. m (z ∙ rl)), same_fetches l u) in
      let later_r : (u : ℕ) → fetched_after r u (rest ++ i ∷ []) ≤ fetched_after r u back + 1 = λ u. omega (arith, one_more r u b n f rest, same_fetches r u) in
      let lengths : (l u : ℕ) → fetched_after l u (rest ++ i ∷ []) + length (waiting' l) ≤ fetched_after l u back + length (book.waiting l) =
      λ l u. upd_all (λ l us. fetched_after l u (rest ++ i ∷ []) + length us ≤ fetched_after l u back + length (book.waiting l)) book.waiting r ws (omega (arith, later_r u)) (λ l m. omega (arith, later l u m)) l in
      let keeps : (who : ℕ) → who ≢ 0 → Keeps u u' who =
      λ who m. record {
        later = omega arith;
        owned = λ b h. refl;
        unended = λ b o h. h;
        unplaced = λ c z h. All-push (NotBegunAt c) mid d (moved (NotBegunAt c) h) (λ q. m (sym z ∙ (ap o (sym q) ∙ was.0.1)));
      } in
      let apart_x : Unplaced (acts x) e.began =
      All-weaker (λ (a : Act P). Before ds a e) (NotBegunAt e.began) (λ a m. m.0) (acts x)
      (all_rest (λ (a : Act P). Before ds a e) front (acts x) (pairs_before (Before ds) (front ++ acts x) (acts y) e (rw append_assoc c.precede))) in
      frees cap ds book o front e rest b f book.posts waiting'
      (record {
        opened = was.0;
        unplaced = moved (NotBegunAt b) was.1;
        its_post = refl;
        fits = omega (arith, room_r.0, subst (λ (l : ℕ). fetched_after r t rest ≡ count l (deliveries rest)) (sym rl) (all_fetched_after r t rest lates_rest), same_fetches r t);
        replays = subst (Replays cap [] front) (ap deliveries found.parts ∙ same_deliveries) v.split.replays;
        levels = λ l. rw append_assoc (levels_moved cap l b n w x y clear (c.levels l));
        waiting =
            upd_all (λ l us. standing_of l rest ≡ us) book.waiting r ws
            (standing_append r x y ∙ rw found.none_before found.others_behind)
            (λ l m. standing_append l x y ∙ (sym (standing_append l x (standing w ∷ y) ∙ rw (ne_eqb f.lane l (λ z. m (sym z ∙ rl))) refl) ∙ c.waiting l));
        sorted = pairs_less Sorted x y (standing w) c.sorted;
        timed = all_less (Timed n) x y (standing w) c.timed;
        ends_late = all_less (EndsLate ds) x y (standing w) c.ends_late;
        room =
            upd_all (λ l us. Room cap l (rest ++ i ∷ []) 0 us) book.waiting r ws
            (room_stays cap r back (rest ++ i ∷ []) 1 0 ws (λ u. omega (arith, later_r u)) room_r.1)
            (λ l m. room_stays cap l back (rest ++ i ∷ []) 0 0 (book.waiting l) (λ u. omega (arith, later l u m)) (c.room l));
        lanes =
            λ l. lane_stays u u' cap l (length (book.waiting l)) (length (waiting' l)) (book.posts l) (keeps (suc l) (λ z. omega arith))
            (λ c h. All-push (RefusedBefore l c) rest i (all_less (RefusedBefore l c) x y (standing w) h) tt)
            (λ u h. lengths l u) (c.lanes l);
        precede =
            rw acts_rest
            (pairs_move (Before ds) e front (acts x) (acts y)
            (before_first ds t e x (omega arith) lates_x (all_front (EndsLate ds) x (standing w ∷ y) c.ends_late) apart_x)
            c.precede);
        past = moved (BegunBefore n) c.past;
        past_ended = c.past_ended;
        ended_apart = c.ended_apart;
        settled =
            moved (Settled ds book')
            (All-weaker (Settled ds book) (Settled ds book')
            (λ a h. elim h [ inl j ↦ inl j | inr (inl (c, h, z, q)) ↦ absurd (let y : ◌≡◌ {A = ℕ} 0 1 = cc in omega arith) | inr (inr j) ↦ inr (inr j) ]) old c.settled);
        whole =
            λ a h.
            let kept : Settled ds book a → In a (mid ++ d ∷ []) = λ j. in_push a mid d (rw acts_rest (in_move a e front (acts x) (acts y) (c.whole a j))) in
            elim h [
              | inl j ↦ kept (inl j)
              | inr (inl (c, h, z, q)) ↦ (let m : ◌≡◌ {A = Act P} d (act_of c (delivered h)) = cc in subst (λ (a : Act P). In a (mid ++ d ∷ [])) (m ∙ sym q) (in_here d mid []))
              | inr (inr j) ↦ kept (inr (inr j))
            ];
      })
