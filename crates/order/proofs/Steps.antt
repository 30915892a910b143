-- The invariant that every admitted event keeps, of a log and its book: a line that carries it along knows at each moment that its log has a
-- single-file order.
use Rattle.std.proofs.Common.{◌≡◌, ℕ, suc, ◌<◌, ◌≤◌, List, [], ◌∷◌, ◌++◌, length, sym, refl, ap, subst, inl, inr, arith}
use mathlib.Core.Option.{Option, none, some}
use Rattle.order.specs.Tables.{upd}
use Rattle.order.specs.SingleFile.{Frame, frame_of}
use Rattle.order.specs.SingleFile.Did.{full}
use Rattle.order.specs.Events.{CollectEnd, Event, PostEnd}
use Rattle.order.specs.Events.PostEnd.{as_full, as_posted, as_used_up}
use Rattle.order.specs.Events.CollectEnd.{as_delivered, as_empty}
use Rattle.order.specs.Events.Event.{began_collect, began_post, ended_collect, ended_post, freed, quiet, reported, stepped_collector, stepped_lane, took}
use Rattle.order.specs.Logs.{Collecting, Ended, Log, Posting, collect_fetch, collect_step, log_collect, log_collect_end, log_post, log_post_end, log_step, post_step, post_take}
use Rattle.order.specs.Logs.Operation.{collect, post}
use Rattle.order.specs.Books.{Book, Collect, Post, Waiting, book_collect, book_free, book_free_from, book_post, book_posted, book_step, book_take, book_tick, goes, waits_now}
use Rattle.order.specs.Books.Post.{begun, gone, idle, stamped}
use Rattle.order.specs.Books.Collect.{at_rest, holding, looking}
use Rattle.order.specs.Guards.{Admits, Answers, FindsNone, Frees, Holds, Oldest, OwnFrame, Unstamped}
use Rattle.order.specs.Accounts.{frame_posted}
use Rattle.order.proofs.Lists.{upd_all}
use Rattle.order.proofs.Invariant.{Placed}
use Rattle.order.proofs.Steady.{began_collect_keeps, began_post_keeps, tick_keeps, took_keeps}
use Rattle.order.proofs.Closing.{delivered_keeps, ends_as, gone_posted_keeps, used_up_keeps}
use Rattle.order.proofs.Appending.{full_keeps, posted_keeps}
use Rattle.order.proofs.Emptying.{empty_keeps}
use Rattle.order.proofs.FreedWaiting.{freed_waiting_keeps}
use Rattle.order.proofs.FreedOwn.{freed_own_keeps}
use Rattle.order.proofs.Stamps.{Stamps, stamps_began_collect, stamps_began_post, stamps_delivered, stamps_empty, stamps_freed_own, stamps_freed_waiting, stamps_gone_posted, stamps_post_end, stamps_posted, stamps_tick, stamps_took}
use Rattle.order.proofs.TakenOnce.{HasStamp, TakenOnce, once_change, once_ended, once_posted, once_took}
use Rattle.order.proofs.Agreement.{Agree, Shows, ShowsCollect, collecting_of, posting, shows_collect_step, shows_step, shows_upd}

pub record Kept {P : Type 0} (cap : ℕ) (g : Log P) (k : Book P) : Type 0 where
  pub agree : Agree g k
  pub placed : Placed cap g.ended k
  pub stamps : Stamps g.ended k
  pub once : TakenOnce g.ended k.posts k.top

module _ {P : Type 0} (cap : ℕ) (g : Log P) (k : Book P) (v : Kept cap g k) where
  abbrev ds : List (Ended P)
  ds = g.ended

  abbrev a : Agree g k
  a = v.agree

  next : suc g.now ≡ suc k.now
  next = ap suc a.now

  -- a call that the book does not see, with the posts and the collect that the log has now
  ticks : (posts' : ℕ → Option (Posting P)) (c : Option (Collecting P)) (t : Option (ℕ × ℕ)) → ((r : ℕ) → Shows (k.posts r) (posts' r)) → ShowsCollect k.collect c
      → Kept cap (record { now = suc g.now; posts = posts'; collecting = c; ended = g.ended; report = t }) (book_tick k)
  ticks posts' c t ps cs =
      record {
        agree = record { now = next; posts = ps; collect = cs };
        placed = tick_keeps cap ds k v.placed;
        stamps = stamps_tick ds k v.stamps;
        once = v.once;
      }

  on_stepped_lane : (r : ℕ) → Kept cap (log_post g r (post_step (g.posts r))) (book_tick k)
  on_stepped_lane r =
      ticks (upd g.posts r (post_step (g.posts r))) g.collecting none
      (upd_all (λ l q. Shows (k.posts l) q) g.posts r (post_step (g.posts r)) (shows_step (k.posts r) (g.posts r) (a.posts r)) (λ l _. a.posts l)) a.collect

  on_began_post : (r : ℕ) (x : P) → k.posts r ≡ idle → Kept cap (log_post g r (some (posting g.now x none 0))) (book_post k r (begun k.now x))
  on_began_post r x e =
      record {
        agree =
            record {
              now = next;
              posts = shows_upd k.posts g.posts r (begun k.now x) (some (posting g.now x none 0)) (0, ap (λ (t : ℕ). some (posting t x none 0)) a.now) a.posts;
              collect = a.collect;
            };
        placed = began_post_keeps cap ds k v.placed r x e;
        stamps = stamps_began_post ds k v.stamps r x;
        once = once_change ds k.posts k.top v.once r (begun k.now x) (λ s h. absurd h);
      }

  on_took : (r s : ℕ) (p : Post P) → k.posts r ≡ p → Unstamped p → length (k.waiting r) < cap → k.top ≤ s → Kept cap (log_post g r (post_take s (g.posts r))) (book_take k r s p)
  on_took r s idle e h m n = absurd h
  on_took r s (begun b x) e h m n =
      let shown : Shows (begun b x) (g.posts r) = rw e at (a.posts r) in
      record {
        agree =
            record {
              now = next;
              posts = shows_upd k.posts g.posts r (stamped b x s k.now) (post_take s (g.posts r)) (suc shown.0, ap (post_take s) shown.1) a.posts;
              collect = a.collect;
            };
        placed = took_keeps cap ds k v.placed r s b x e m;
        stamps = stamps_took ds k v.stamps r s (begun b x) h n;
        once = once_took ds k.posts k.top v.once r b k.now s x n;
      }
  on_took r s (stamped b x u t) e h m n = absurd h
  on_took r s (gone b x u) e h m n = absurd h

  -- the post of lane r ends: the log has its entry, and the book no post of the lane
  post_ends :
      (r b n : ℕ) (x : P) (s : Option ℕ) (how : PostEnd) (waiting' : ℕ → List (Waiting P)) → g.posts r ≡ some (posting b x s n)
      → (let k' : Book P = record { now = suc k.now; posts = upd k.posts r idle; waiting = waiting'; collect = k.collect; top = k.top } in
      let d : Ended P = ends_as b k.now (suc n) (post r x s how) in
      Placed cap (d ∷ ds) k' → Stamps (d ∷ ds) k' → TakenOnce (d ∷ ds) (upd k.posts r idle) k.top → Kept cap (log_post_end g r how (g.posts r)) k')
  post_ends r b n x s how waiting' e p st o =
      let k' : Book P = record { now = suc k.now; posts = upd k.posts r idle; waiting = waiting'; collect = k.collect; top = k.top } in
      let entry : ℕ → Ended P = λ t. ends_as b t (suc n) (post r x s how) in
      subst (λ (q : Option (Posting P)). Kept cap (log_post_end g r how q) k') (sym e)
      (record {
        agree = record { now = next; posts = shows_upd k.posts g.posts r idle none refl a.posts; collect = a.collect };
        placed = subst (λ (t : ℕ). Placed cap (entry t ∷ ds) k') (sym a.now) p;
        stamps = subst (λ (t : ℕ). Stamps (entry t ∷ ds) k') (sym a.now) st;
        once = subst (λ (t : ℕ). TakenOnce (entry t ∷ ds) (upd k.posts r idle) k.top) (sym a.now) o;
      })

  on_posted : (r c : ℕ) (p : Post P) → k.posts r ≡ p → Answers c p → Kept cap (log_post_end g r (as_posted c) (g.posts r)) (book_posted k r p)
  on_posted r c idle e h = absurd h
  on_posted r c (begun b x) e h = absurd h
  on_posted r c (stamped b x s t) e h =
      let shown : Shows (stamped b x s t) (g.posts r) = rw e at (a.posts r) in
      let has : HasStamp (k.posts r) s = subst (λ (p : Post P). HasStamp p s) (sym e) refl in
      let n = suc shown.0 in
      post_ends r b shown.0 x (some s) (as_posted c) (upd k.waiting r (k.waiting r ++ waits_now k r b x s t ∷ [])) shown.1
      (posted_keeps cap ds k v.placed r b s t n c x h e)
      (stamps_posted ds k v.stamps r b s t n c x e h)
      (once_posted ds k.posts k.top v.once r b k.now n s c x has)
  on_posted r c (gone b x s) e h =
      let shown : Shows (gone b x s) (g.posts r) = rw e at (a.posts r) in
      let has : HasStamp (k.posts r) s = subst (λ (p : Post P). HasStamp p s) (sym e) refl in
      let n = suc shown.0 in
      post_ends r b shown.0 x (some s) (as_posted c) k.waiting shown.1
      (gone_posted_keeps cap ds k v.placed r b s n c x h e)
      (stamps_gone_posted ds k v.stamps r b s n c x h)
      (once_posted ds k.posts k.top v.once r b k.now n s c x has)

  -- a post that took no stamp ends full or used up
  module _ (r : ℕ) (how : PostEnd) where
    abbrev plain : ℕ → ℕ → P → Ended P
    plain b n x = ends_as b k.now (suc n) (post r x none how)

    on_plain :
        (p : Post P) → k.posts r ≡ p → Unstamped p
        → ((b n : ℕ) (x : P) → k.posts r ≡ begun b x → Placed cap (plain b n x ∷ ds) (book_post k r idle))
        → ((b n : ℕ) (x : P) → Stamps (plain b n x ∷ ds) (book_post k r idle))
        → ((x : P) → frame_posted (post r x none how) ≡ [])
        → Kept cap (log_post_end g r how (g.posts r)) (book_post k r idle)
    on_plain idle e h p st o = absurd h
    on_plain (begun b x) e h p st o =
        let shown : Shows (begun b x) (g.posts r) = rw e at (a.posts r) in
        let n = shown.0 in
        post_ends r b n x none how k.waiting shown.1 (p b n x e) (st b n x)
        (once_ended ds (upd k.posts r idle) k.top (once_change ds k.posts k.top v.once r idle (λ s h. absurd h)) (plain b n x) (o x))
    on_plain (stamped b x s t) e h p st o = absurd h
    on_plain (gone b x s) e h p st o = absurd h

  on_full : (r : ℕ) → Unstamped (k.posts r) → length (k.waiting r) ≡ cap → Kept cap (log_post_end g r as_full (g.posts r)) (book_post k r idle)
  on_full r h m =
      on_plain r as_full (k.posts r) refl h
      (λ b n x e. full_keeps cap ds k v.placed r b (suc n) x e m)
      (λ b n x. stamps_post_end ds k v.stamps r (plain r as_full b n x) (λ f z. let y : ◌≡◌ {A = ℕ} 0 1 = cc in omega arith) (inr (full r, refl)))
      (λ x. refl)

  on_used_up : (r : ℕ) → Unstamped (k.posts r) → Kept cap (log_post_end g r as_used_up (g.posts r)) (book_post k r idle)
  on_used_up r h =
      on_plain r as_used_up (k.posts r) refl h
      (λ b n x e. used_up_keeps cap ds k v.placed r b (suc n) x e)
      (λ b n x. stamps_post_end ds k v.stamps r (plain r as_used_up b n x) (λ f z. z) (inl tt))
      (λ x. refl)

  on_began_collect : k.collect ≡ at_rest → Kept cap (log_collect g (some (collecting_of g.now none 0))) (book_collect k (looking k.now))
  on_began_collect e =
      record {
        agree = record { now = next; posts = a.posts; collect = (0, ap (λ (t : ℕ). some (collecting_of t none 0)) a.now) };
        placed = began_collect_keeps cap ds k v.placed e;
        stamps = stamps_began_collect ds k v.stamps e;
        once = v.once;
      }

  on_freed_own :
      (b r s : ℕ) (x : P) (p : Post P) → k.collect ≡ looking b → k.waiting r ≡ [] → k.posts r ≡ p → OwnFrame k (frame_of r s x) p
      → Kept cap (log_collect g (collect_fetch (frame_of r s x) g.collecting))
      (record { now = suc k.now; posts = upd k.posts r (goes p); waiting = k.waiting; collect = holding b (frame_of r s x); top = k.top })
  on_freed_own b r s x idle c w e h = absurd h
  on_freed_own b r s x (begun b₁ y) c w e h = absurd h
  on_freed_own b r s x (stamped b₁ y u t) c w e (p, q, l) =
      let f : Frame P = frame_of r s x in
      let same : ◌≡◌ {A = Frame P} (frame_of r u y) f = λ i. record { lane = r; stamp = sym p i; payload = sym q i } in
      let shown : Shows (stamped b₁ y u t) (g.posts r) = rw e at (a.posts r) in
      let looked : ShowsCollect (looking b) g.collecting = rw c at a.collect in
      let k' : Frame P → Book P = λ f. record { now = suc k.now; posts = upd k.posts r (gone b₁ y u); waiting = k.waiting; collect = holding b f; top = k.top } in
      record {
        agree =
            record {
              now = next;
              posts = upd_all (λ l p. Shows p (g.posts l)) k.posts r (gone b₁ y u) shown (λ l _. a.posts l);
              collect = (suc looked.0, ap (collect_fetch f) looked.1);
            };
        placed = subst (λ (f : Frame P). Placed cap ds (k' f)) same (freed_own_keeps cap ds k v.placed b r b₁ u t y c w e l);
        stamps = subst (λ (f : Frame P). Stamps ds (k' f)) same (stamps_freed_own ds k v.stamps b r b₁ u t y c e);
        once = once_change ds k.posts k.top v.once r (gone b₁ y u) (λ s h. subst (λ (p : Post P). HasStamp p s) (sym e) h);
      }
  on_freed_own b r s x (gone b₁ y u) c w e h = absurd h

  on_freed_from :
      (b : ℕ) (f : Frame P) (ws : List (Waiting P)) → k.collect ≡ looking b → k.waiting f.lane ≡ ws → Oldest k f ws
      → Kept cap (log_collect g (collect_fetch f g.collecting)) (book_free_from k b f.lane f ws)
  on_freed_from b f [] c w h = on_freed_own b f.lane f.stamp f.payload (k.posts f.lane) c w refl h
  on_freed_from b f (w ∷ ws) c e (p, l) =
      let r = f.lane in
      let looked : ShowsCollect (looking b) g.collecting = rw c at a.collect in
      let k' : Frame P → Book P = λ f. record { now = suc k.now; posts = k.posts; waiting = upd k.waiting r ws; collect = holding b f; top = k.top } in
      record {
        agree = record { now = next; posts = a.posts; collect = (suc looked.0, ap (collect_fetch f) looked.1) };
        placed = subst (λ (f : Frame P). Placed cap ds (k' f)) p (freed_waiting_keeps cap ds k v.placed b r w ws c e l);
        stamps = subst (λ (f : Frame P). Stamps ds (k' f)) p (stamps_freed_waiting ds k v.stamps b r w ws c e);
        once = v.once;
      }

  on_freed : (f : Frame P) (c : Collect P) → k.collect ≡ c → Frees k f c → Kept cap (log_collect g (collect_fetch f g.collecting)) (book_free k f c)
  on_freed f at_rest e h = absurd h
  on_freed f (looking b) e h = on_freed_from b f (k.waiting f.lane) e refl h
  on_freed f (holding b f') e h = absurd h

  -- the collect ends
  collect_ends :
      (b n : ℕ) (f : Option (Frame P)) (how : CollectEnd) → g.collecting ≡ some (collecting_of b f n)
      → (let d : Ended P = ends_as b k.now (suc n) (collect f how) in
      Placed cap (d ∷ ds) (book_collect k at_rest) → Stamps (d ∷ ds) (book_collect k at_rest) → Kept cap (log_collect_end g how g.collecting) (book_collect k at_rest))
  collect_ends b n f how e p st =
      let entry : ℕ → Ended P = λ t. ends_as b t (suc n) (collect f how) in
      subst (λ (q : Option (Collecting P)). Kept cap (log_collect_end g how q) (book_collect k at_rest)) (sym e)
      (record {
        agree = record { now = next; posts = a.posts; collect = refl };
        placed = subst (λ (t : ℕ). Placed cap (entry t ∷ ds) (book_collect k at_rest)) (sym a.now) p;
        stamps = subst (λ (t : ℕ). Stamps (entry t ∷ ds) (book_collect k at_rest)) (sym a.now) st;
        once = once_ended ds k.posts k.top v.once (entry g.now) refl;
      })

  on_empty : (c : Collect P) → k.collect ≡ c → FindsNone k c → Kept cap (log_collect_end g as_empty g.collecting) (book_collect k at_rest)
  on_empty at_rest e h = absurd h
  on_empty (looking b) e h =
      let looked : ShowsCollect (looking b) g.collecting = rw e at a.collect in
      let n = suc looked.0 in
      collect_ends b looked.0 none as_empty looked.1 (empty_keeps cap ds k v.placed b n e h) (stamps_empty ds k v.stamps b n e)
  on_empty (holding b f) e h = absurd h

  on_delivered : (l s : ℕ) (c : Collect P) → k.collect ≡ c → Holds l s c → Kept cap (log_collect_end g (as_delivered l s) g.collecting) (book_collect k at_rest)
  on_delivered l s at_rest e h = absurd h
  on_delivered l s (looking b) e h = absurd h
  on_delivered l s (holding b f) e (p, q) =
      let held : ShowsCollect (holding b f) g.collecting = rw e at a.collect in
      let n = suc held.0 in
      collect_ends b held.0 (some f) (as_delivered l s) held.1 (delivered_keeps cap ds k v.placed b n l s f p q e) (stamps_delivered ds k v.stamps b n l s f p q e)

  -- the step: every admitted event keeps the invariant
  pub kept_step : (e : Event P) → Admits cap k e → Kept cap (log_step g e) (book_step k e)
  kept_step (began_post r x) h = on_began_post r x h
  kept_step (took r s) h = on_took r s (k.posts r) refl h.0 h.1 h.2
  kept_step (ended_post r (as_posted c)) h = on_posted r c (k.posts r) refl h
  kept_step (ended_post r as_full) h = on_full r h.0 h.1
  kept_step (ended_post r as_used_up) h = on_used_up r h
  kept_step began_collect h = on_began_collect h
  kept_step (freed r s x) h = on_freed (frame_of r s x) k.collect refl h
  kept_step (ended_collect as_empty) h = on_empty k.collect refl h
  kept_step (ended_collect (as_delivered l s)) h = on_delivered l s k.collect refl h
  kept_step (stepped_lane r) h = on_stepped_lane r
  kept_step stepped_collector h = ticks g.posts (collect_step g.collecting) none a.posts (shows_collect_step k.collect g.collecting a.collect)
  kept_step (reported p d) h = ticks g.posts g.collecting (some (p, d)) a.posts a.collect
  kept_step quiet h = ticks g.posts g.collecting none a.posts a.collect
