-- A collect frees the frame of a post under way, on a lane where none waits: the post gets its place, at the end of the front.
use Rattle.std.proofs.Common.{◌≡◌, ℕ, suc, eqb, ◌≢◌, List, [], ◌∷◌, ◌++◌, length, sym, refl, ap, ◌∙◌, subst, inl, inr, arith}
use Rattle.std.specs.List.{AllByRecursion}
use Rattle.std.proofs.ByRecursion.{All-push, All-weaker}
use Rattle.std.proofs.lemmas.Bool.{cases_eq, cond-true, eq-eqb}
use Rattle.order.specs.Tables.{In, upd}
use Rattle.order.specs.SingleFile.{Act, Frame, act_of, frame_of}
use Rattle.order.specs.SingleFile.Did.{delivered, posted}
use Rattle.order.specs.Logs.{Ended}
use Rattle.order.specs.Books.{Book, Post}
use Rattle.order.specs.Books.Post.{gone, stamped}
use Rattle.order.specs.Books.Collect.{holding, looking}
use Rattle.order.specs.Guards.{Late}
use Rattle.order.proofs.Lists.{all_front, all_put, all_rest, in_here, in_push, in_put, pairs_put, upd_all, upd_other, upd_same}
use Rattle.order.proofs.Backs.{ClearOf, Item, acts, fetched_after}
use Rattle.order.proofs.Backs.Item.{fetch}
use Rattle.order.proofs.Levels.{levels_own}
use Rattle.order.proofs.Invariant.{After, Before, BegunBefore, CollectOk, Core, LaneOk, NotBegunAt, Placed, RefusedBefore, Room, Settled, View, view}
use Rattle.order.proofs.Facts.{all_before_last, gone_after, stamped_not_gone}
use Rattle.order.proofs.Framing.{Keeps, lane_stays, room_stays}
use Rattle.order.proofs.Closing.{suc_apart}
use Rattle.order.proofs.Emptying.{all_clear, all_fetched_after, all_late, before_first}
use Rattle.order.proofs.Freeing.{freed_book, frees, no_more}

module _ {P : Type 0} where
  pub freed_own_keeps :
      (cap : ℕ) (ds : List (Ended P)) (book : Book P) → Placed cap ds book → (b r b₁ s t : ℕ) (y : P)
      → book.collect ≡ looking b → book.waiting r ≡ [] → book.posts r ≡ stamped b₁ y s t → Late book t
      → Placed cap ds (record { now = suc book.now; posts = upd book.posts r (gone b₁ y s); waiting = book.waiting; collect = holding b (frame_of r s y); top = book.top })
  freed_own_keeps cap ds book v b r b₁ s t y is-looking is_nil is-stamped late =
      let o = v.owner in
      let n = book.now in
      let f : Frame P = frame_of r s y in
      let front = v.front in
      let back = v.back in
      let e : Act P = act_of b₁ (posted f) in
      let d : Act P = act_of b (delivered f) in
      let i : Item P = fetch b f n in
      let p : Post P = gone b₁ y s in
      let posts' : ℕ → Post P = upd book.posts r p in
      let book' : Book P = freed_book cap ds book o front e back b f posts' book.waiting in
      let old : List (Act P) = front ++ acts back in
      let mid : List (Act P) = front ++ e ∷ acts back in
      let c : Core cap ds book o old back = subst (λ (xs : List (Act P)). Core cap ds book o xs back) v.split.parts v.core in
      let u : View P = view ds book o old back in
      let u' : View P = view ds book' o (mid ++ d ∷ []) (back ++ i ∷ []) in
      let was : CollectOk u (looking b) = rw is-looking at c.collector in
      let lane : LaneOk cap u r (length (book.waiting r)) (stamped b₁ y s t) = rw is-stamped at (c.lanes r) in
      let owner_r : o b₁ ≡ suc r = lane.0.1 in
      let lates : AllByRecursion (After t) back = all_late book t back v.first_stands c.waiting late c.sorted in
      let clear : AllByRecursion (ClearOf r) back = all_clear r b₁ t back lane.3 lates (c.waiting r ∙ is_nil) lane.2 in
      let later : (l u : ℕ) → l ≢ r → fetched_after l u (back ++ i ∷ []) ≡ fetched_after l u back = λ l u m. no_more l u b n f back m in
      let put : (Q : Act P → Type 0) → Q e → AllByRecursion Q old → AllByRecursion Q mid = λ Q q h. all_put Q front (acts back) e q h in
      let keeps : (l : ℕ) → l ≢ r → Keeps u u' (suc l) =
      λ l m. record {
        later = omega arith;
        owned = λ b h. refl;
        unended = λ b o h. h;
        unplaced = λ c z h. All-push (NotBegunAt c) mid d (put (NotBegunAt c) (λ q. suc_apart l r m (sym owner_r ∙ (ap o q ∙ z))) h) (λ q. let k : suc l ≡ 0 = sym z ∙ (ap o (sym q) ∙ was.0.1) in omega arith);
      } in
      frees cap ds book o front e back b f posts' book.waiting
      (record {
        opened = was.0;
        unplaced = put (NotBegunAt b) (λ q. let k : suc r ≡ 0 = sym owner_r ∙ (ap o q ∙ was.0.1) in omega arith) was.1;
        its_post = refl;
        fits = omega (arith, lane.5, all_fetched_after r t back lates, ap length is_nil);
        replays = v.split.replays;
        levels = λ l. levels_own cap l b n f back clear (c.levels l);
        waiting = c.waiting;
        sorted = c.sorted;
        timed = c.timed;
        ends_late = c.ends_late;
        room =
            λ l. elim (cases_eq l r) [
              | inl z ↦ subst (Room cap l (back ++ i ∷ []) 0) (sym (ap book.waiting z ∙ is_nil)) tt
              | inr m ↦ room_stays cap l back (back ++ i ∷ []) 0 0 (book.waiting l) (λ u. omega (arith, later l u m)) (c.room l)
            ];
        lanes =
            upd_all (λ l p. LaneOk cap u' l (length (book.waiting l)) p) book.posts r p
            (omega (arith, lane.0.0), owner_r, lane.0.2)
            (λ l m. lane_stays u u' cap l (length (book.waiting l)) (length (book.waiting l)) (book.posts l) (keeps l m)
            (λ c h. All-push (RefusedBefore l c) back i h tt) (λ u h. omega (arith, later l u m)) (c.lanes l));
        precede =
            pairs_put (Before ds) front (acts back) e
            (all_before_last ds e front lane.0.2 (all_front (NotBegunAt b₁) front (acts back) lane.1))
            (before_first ds t e back (omega (arith, lane.3)) lates c.ends_late (all_rest (NotBegunAt b₁) front (acts back) lane.1))
            c.precede;
        past = put (BegunBefore n) lane.0.0 c.past;
        past_ended = c.past_ended;
        ended_apart = c.ended_apart;
        settled =
            put (Settled ds book') (inr (inr (r, b₁, y, s, upd_same book.posts r p, refl)))
            (All-weaker (Settled ds book) (Settled ds book')
            (λ a h. elim h [
              | inl j ↦ inl j
              | inr (inl (c, h, z, q)) ↦ absurd (let y : ◌≡◌ {A = ℕ} 0 1 = cc in omega arith)
              | inr (inr j) ↦ inr (inr (gone_after book.posts r p a (rw is-stamped (stamped_not_gone b₁ y s t)) j))
            ]) old c.settled);
        whole =
            λ a h.
            let kept : Settled ds book a → In a (mid ++ d ∷ []) = λ j. in_push a mid d (in_put a front (acts back) e (c.whole a j)) in
            elim h [
              | inl j ↦ kept (inl j)
              | inr (inl (c, h, z, q)) ↦ (let m : ◌≡◌ {A = Act P} d (act_of c (delivered h)) = cc in subst (λ (a : Act P). In a (mid ++ d ∷ [])) (m ∙ sym q) (in_here d mid []))
              | inr (inr (l, c, x, k, z, q)) ↦ elim (cases_eq l r) [
                | inl j ↦ (let z' : p ≡ gone c x k = sym (cond-true (eqb l r) p (book.posts l) (eq-eqb l r j)) ∙ z in let m : ◌≡◌ {A = Act P} e (act_of c (posted (frame_of l k x))) = cc in subst (λ (a : Act P). In a (mid ++ d ∷ [])) (m ∙ sym q) (in_push e mid d (in_here e front (acts back))))
                | inr m ↦ kept (inr (inr (l, c, x, k, sym (upd_other book.posts r p l m) ∙ z, q)))
              ]
            ];
      })
