-- Stamps tell frames apart: no frame that a collect has freed has the stamp of a frame of its lane that waits or is under way. And every
-- ended operation agrees with some act, unless it ended used up.
use Rattle.std.proofs.Common.{◌≡◌, ℕ, suc, ◌<◌, ◌≤◌, ◌≢◌, ◌⊎◌, List, [], ◌∷◌, ◌++◌, sym, refl, ap, ◌∙◌, subst, inl, inr, arith}
use mathlib.Core.Option.{none, some}
use Rattle.std.specs.List.{AllByRecursion}
use Rattle.std.proofs.ByRecursion.{All-push, All-weaker}
use Rattle.order.specs.Tables.{In, upd}
use Rattle.order.specs.SingleFile.{Did, Frame, frame_of}
use Rattle.order.specs.SingleFile.Did.{delivered, empty, posted}
use Rattle.order.specs.Events.PostEnd.{as_posted}
use Rattle.order.specs.Events.CollectEnd.{as_delivered, as_empty}
use Rattle.order.specs.Logs.{Ended, Operation}
use Rattle.order.specs.Logs.Operation.{collect, post}
use Rattle.order.specs.Orders.{Agrees, UsedUp}
use Rattle.order.specs.Books.{Book, Collect, Post, Waiting, blank, book_collect, book_post, book_posted, book_take, book_tick, waits_now}
use Rattle.order.specs.Books.Post.{begun, gone, idle, stamped}
use Rattle.order.specs.Books.Collect.{at_rest, holding, looking}
use Rattle.order.specs.Guards.{Unstamped}
use Rattle.order.proofs.Lists.{all_in, upd_all, upd_other}
use Rattle.order.proofs.Closing.{ends_as}

-- a collect that ended, or the one under way, has freed this frame
abbrev pub Freed : {P : Type 0} → List (Ended P) → Collect P → Frame P → Type 0
Freed {P} ds c f = ((d : Ended P) × In d ds × Agrees d.operation (delivered f)) ⊎ ((b : ℕ) × (c ≡ holding b f))

abbrev pub Honest : {P : Type 0} → Operation P → Type 0
Honest {P} o = UsedUp o ⊎ ((did : Did P) × Agrees o did)

abbrev pub PostOk : {P : Type 0} → List (Ended P) → Collect P → ℕ → ℕ → List (Waiting P) → Post P → Type 0
PostOk ds c top r ws idle = Unit {0}
PostOk ds c top r ws (begun b x) = Unit {0}
PostOk {P} ds c top r ws (stamped b x s t) = (s < top) × AllByRecursion (λ (w : Waiting P). w.frame.stamp ≢ s) ws × ((f : Frame P) → Freed ds c f → f.lane ≡ r → f.stamp ≢ s)
PostOk ds c top r ws (gone b x s) = Freed ds c (frame_of r s x)

abbrev pub WaitOk : {P : Type 0} → ℕ → ℕ → Waiting P → Type 0
WaitOk top r w = (w.frame.lane ≡ r) × (w.frame.stamp < top)

pub record Stamps {P : Type 0} (ds : List (Ended P)) (book : Book P) : Type 0 where
  pub below : (f : Frame P) → Freed ds book.collect f → f.stamp < book.top
  pub waits_ok : (r : ℕ) → AllByRecursion (WaitOk book.top r) (book.waiting r)
  pub posts_ok : (r : ℕ) → PostOk ds book.collect book.top r (book.waiting r) (book.posts r)
  pub honest : AllByRecursion (λ (d : Ended P). Honest d.operation) ds

module _ {P : Type 0} where
  -- of this lane nothing new is freed but what waited
  post_stays :
      (ds ds' : List (Ended P)) (c c' : Collect P) (top top' r : ℕ) (ws ws' : List (Waiting P)) (p : Post P)
      → top ≤ top'
      → ((Q : Waiting P → Type 0) → AllByRecursion Q ws → AllByRecursion Q ws')
      → ((f : Frame P) → Freed ds c f → Freed ds' c' f)
      → ((f : Frame P) → Freed ds' c' f → f.lane ≡ r → Freed ds c f ⊎ ((w : Waiting P) × In w ws × (w.frame ≡ f)))
      → PostOk ds c top r ws p → PostOk ds' c' top' r ws' p
  post_stays ds ds' c c' top top' r ws ws' idle n q i o h = tt
  post_stays ds ds' c c' top top' r ws ws' (begun b x) n q i o h = tt
  post_stays ds ds' c c' top top' r ws ws' (stamped b x s t) n q i o (l, a, h) = (
    omega arith,
    q (λ (w : Waiting P). w.frame.stamp ≢ s) a,
    λ f k e. elim (o f k e) [ inl j ↦ h f j e | inr (w, j, z) ↦ (λ m. all_in (λ (w : Waiting P). w.frame.stamp ≢ s) w ws j a (ap (λ (f : Frame P). f.stamp) z ∙ m)) ],
  )
  post_stays ds ds' c c' top top' r ws ws' (gone b x s) n q i o h = i (frame_of r s x) h

  -- what is freed, once one more operation ended
  freed_old : (ds : List (Ended P)) (d : Ended P) (c : Collect P) (f : Frame P) → Freed ds c f → Freed (d ∷ ds) c f
  freed_old ds d c f (inl (e, i, s)) = inl (e, inr i, s)
  freed_old ds d c f (inr h) = inr h

  freed_same : (ds : List (Ended P)) (d : Ended P) (c : Collect P) (f : Frame P) → ((k : Frame P) → Agrees d.operation (delivered k) → ⊥) → Freed (d ∷ ds) c f → Freed ds c f
  freed_same ds d c f n (inl (e, inl i, s)) = absurd (n f (subst (λ (d : Ended P). Agrees d.operation (delivered f)) (sym i) s))
  freed_same ds d c f n (inl (e, inr i, s)) = inl (e, i, s)
  freed_same ds d c f n (inr h) = inr h

  not_held : (b : ℕ) (f : Frame P) (c : Collect P) → c ≡ at_rest → c ≡ holding b f → ⊥
  not_held b f c e q = let y : ◌≡◌ {A = ℕ} 0 1 = cc in omega arith

  not_held_yet : (b a : ℕ) (f : Frame P) (c : Collect P) → c ≡ looking a → c ≡ holding b f → ⊥
  not_held_yet b a f c e q = let y : ◌≡◌ {A = ℕ} 0 1 = cc in omega arith

module _ {P : Type 0} (ds : List (Ended P)) (book : Book P) (v : Stamps ds book) where
  -- the lanes whose post stays, in a step that frees nothing
  same_post :
      (ds' : List (Ended P)) (c' : Collect P) (top' : ℕ) → book.top ≤ top'
      → ((f : Frame P) → Freed ds book.collect f → Freed ds' c' f) → ((f : Frame P) → Freed ds' c' f → Freed ds book.collect f)
      → (r : ℕ) → PostOk ds' c' top' r (book.waiting r) (book.posts r)
  same_post ds' c' top' n i o r =
      post_stays ds ds' book.collect c' book.top top' r (book.waiting r) (book.waiting r) (book.posts r) n (λ Q h. h) i (λ f h e. inl (o f h)) (v.posts_ok r)

  pub stamps_tick : Stamps ds (book_tick book)
  stamps_tick = record { below = v.below; waits_ok = v.waits_ok; posts_ok = v.posts_ok; honest = v.honest }

  pub stamps_began_post : (r : ℕ) (x : P) → Stamps ds (book_post book r (begun book.now x))
  stamps_began_post r x =
      record {
        below = v.below;
        waits_ok = v.waits_ok;
        posts_ok = upd_all (λ l p. PostOk ds book.collect book.top l (book.waiting l) p) book.posts r (begun book.now x) tt (λ l _. v.posts_ok l);
        honest = v.honest;
      }

  pub stamps_took : (r s : ℕ) (p : Post P) → Unstamped p → book.top ≤ s → Stamps ds (book_take book r s p)
  stamps_took r s idle h n = absurd h
  stamps_took r s (begun b x) h n =
      record {
        below = λ f h. omega (arith, v.below f h);
        waits_ok = λ l. All-weaker (WaitOk book.top l) (WaitOk (suc s) l) (λ w k. (k.0, omega arith)) (book.waiting l) (v.waits_ok l);
        posts_ok =
            upd_all (λ l p. PostOk ds book.collect (suc s) l (book.waiting l) p) book.posts r (stamped b x s book.now)
            (omega arith, All-weaker (WaitOk book.top r) (λ (w : Waiting P). w.frame.stamp ≢ s) (λ w k e. omega arith) (book.waiting r) (v.waits_ok r), λ f h e z. omega (arith, v.below f h))
            (λ l _. same_post ds book.collect (suc s) (omega arith) (λ f h. h) (λ f h. h) l);
        honest = v.honest;
      }
  stamps_took r s (stamped b x k t) h n = absurd h
  stamps_took r s (gone b x k) h n = absurd h

  -- a post ends that does not begin to wait
  pub stamps_post_end : (r : ℕ) (d : Ended P) → ((f : Frame P) → Agrees d.operation (delivered f) → ⊥) → Honest d.operation → Stamps (d ∷ ds) (book_post book r idle)
  stamps_post_end r d n h =
      record {
        below = λ f k. v.below f (freed_same ds d book.collect f n k);
        waits_ok = v.waits_ok;
        posts_ok =
            upd_all (λ l p. PostOk (d ∷ ds) book.collect book.top l (book.waiting l) p) book.posts r idle tt
            (λ l _. same_post (d ∷ ds) book.collect book.top (omega arith) (freed_old ds d book.collect) (λ f k. freed_same ds d book.collect f n k) l);
        honest = (h, v.honest);
      }

  posts_none : (r s k : ℕ) (x : P) (f : Frame P) → Agrees (post r x (some s) (as_posted k)) (delivered f) → ⊥
  posts_none r s k x f (e, _) = let z : ◌≡◌ {A = ℕ} 0 1 = cc in omega arith

  pub stamps_posted :
      (r b s t n k : ℕ) (x : P) → book.posts r ≡ stamped b x s t → k ≡ s
      → Stamps (ends_as b book.now n (post r x (some s) (as_posted k)) ∷ ds) (book_posted book r (stamped b x s t))
  stamps_posted r b s t n k x e h =
      let d : Ended P = ends_as b book.now n (post r x (some s) (as_posted k)) in
      let w : Waiting P = waits_now book r b x s t in
      let ws : List (Waiting P) = book.waiting r ++ w ∷ [] in
      let was : PostOk ds book.collect book.top r (book.waiting r) (stamped b x s t) = rw e at (v.posts_ok r) in
      record {
        below = λ f j. v.below f (freed_same ds d book.collect f (posts_none r s k x) j);
        waits_ok = upd_all (λ l us. AllByRecursion (WaitOk book.top l) us) book.waiting r ws (All-push (WaitOk book.top r) (book.waiting r) w (v.waits_ok r) (refl, was.0)) (λ l _. v.waits_ok l);
        posts_ok =
            upd_all (λ l p. PostOk (d ∷ ds) book.collect book.top l (upd book.waiting r ws l) p) book.posts r idle tt
            (λ l m. subst (λ us. PostOk (d ∷ ds) book.collect book.top l us (book.posts l)) (sym (upd_other book.waiting r ws l m))
            (same_post (d ∷ ds) book.collect book.top (omega arith) (freed_old ds d book.collect) (λ f j. freed_same ds d book.collect f (posts_none r s k x) j) l));
        honest = (inr (posted (frame_of r s x), (refl, h)), v.honest);
      }

  pub stamps_gone_posted :
      (r b s n k : ℕ) (x : P) → k ≡ s → Stamps (ends_as b book.now n (post r x (some s) (as_posted k)) ∷ ds) (book_post book r idle)
  stamps_gone_posted r b s n k x h =
      stamps_post_end r (ends_as b book.now n (post r x (some s) (as_posted k))) (posts_none r s k x) (inr (posted (frame_of r s x), (refl, h)))

  -- the collect begins or ends, and what is freed stays the same
  stamps_collect :
      (c : Collect P) (ds' : List (Ended P))
      → ((f : Frame P) → Freed ds book.collect f → Freed ds' c f) → ((f : Frame P) → Freed ds' c f → Freed ds book.collect f) → AllByRecursion (λ (d : Ended P). Honest d.operation) ds'
      → Stamps ds' (book_collect book c)
  stamps_collect c ds' i o h =
      record { below = λ f k. v.below f (o f k); waits_ok = v.waits_ok; posts_ok = same_post ds' c book.top (omega arith) i o; honest = h }

  pub stamps_began_collect : book.collect ≡ at_rest → Stamps ds (book_collect book (looking book.now))
  stamps_began_collect e =
      stamps_collect (looking book.now) ds
      (λ f h. elim h [ inl k ↦ inl k | inr (b, z) ↦ absurd (not_held b f book.collect e z) ])
      (λ f h. elim h [ inl k ↦ inl k | inr (b, z) ↦ absurd (not_held_yet b book.now f (looking book.now) refl z) ])
      v.honest

  pub stamps_empty : (b n : ℕ) → book.collect ≡ looking b → Stamps (ends_as b book.now n (collect none as_empty) ∷ ds) (book_collect book at_rest)
  stamps_empty b n e =
      let d : Ended P = ends_as b book.now n (collect none as_empty) in
      stamps_collect at_rest (d ∷ ds)
      (λ f h. elim h [ inl (c, i, s) ↦ inl (c, inr i, s) | inr (c, z) ↦ absurd (not_held_yet c b f book.collect e z) ])
      (λ f h. elim (freed_same ds d at_rest f (λ k z. let y : ◌≡◌ {A = ℕ} 0 1 = cc in omega arith) h) [ inl k ↦ inl k | inr (c, z) ↦ absurd (not_held c f at_rest refl z) ])
      (inr (empty, refl), v.honest)

  pub stamps_delivered :
      (b n l s : ℕ) (f : Frame P) → l ≡ f.lane → s ≡ f.stamp → book.collect ≡ holding b f
      → Stamps (ends_as b book.now n (collect (some f) (as_delivered l s)) ∷ ds) (book_collect book at_rest)
  stamps_delivered b n l s f p q e =
      let d : Ended P = ends_as b book.now n (collect (some f) (as_delivered l s)) in
      stamps_collect at_rest (d ∷ ds)
      (λ k h. elim h [ inl (c, i, s) ↦ inl (c, inr i, s) | inr (c, z) ↦ inl (d, inl refl, let y : delivered f ≡ delivered k = cc in (y, p, q)) ])
      (λ k h. elim h [
        | inl (c, inl i, a) ↦ inr (b, let a' : Agrees d.operation (delivered k) = subst (λ (d : Ended P). Agrees d.operation (delivered k)) (sym i) a in let y : delivered f ≡ delivered k = a'.0 in cc)
        | inl (c, inr i, a) ↦ inl (c, i, a)
        | inr (c, z) ↦ absurd (not_held c k at_rest refl z)
      ])
      (inr (delivered f, (refl, p, q)), v.honest)

  -- what is freed once the collect that looked from b holds f
  freed_cases : (b : ℕ) (f k : Frame P) → book.collect ≡ looking b → Freed ds (holding b f) k → (f ≡ k) ⊎ Freed ds book.collect k
  freed_cases b f k e (inl h) = inr (inl h)
  freed_cases b f k e (inr (c, z)) = inl (cc)

  freed_next : (b : ℕ) (f k : Frame P) → book.collect ≡ looking b → Freed ds book.collect k → Freed ds (holding b f) k
  freed_next b f k e (inl h) = inl h
  freed_next b f k e (inr (c, z)) = absurd (not_held_yet c b k book.collect e z)

  pub stamps_freed_own :
      (b r c s t : ℕ) (x : P) → book.collect ≡ looking b → book.posts r ≡ stamped c x s t
      → Stamps ds (record { now = suc book.now; posts = upd book.posts r (gone c x s); waiting = book.waiting; collect = holding b (frame_of r s x); top = book.top })
  stamps_freed_own b r c s t x e q =
      let f : Frame P = frame_of r s x in
      let was : PostOk ds book.collect book.top r (book.waiting r) (stamped c x s t) = rw q at (v.posts_ok r) in
      record {
        below = λ k h. elim (freed_cases b f k e h) [ inl z ↦ subst (λ (k : Frame P). k.stamp < book.top) z was.0 | inr z ↦ v.below k z ];
        waits_ok = v.waits_ok;
        posts_ok =
            upd_all (λ l p. PostOk ds (holding b f) book.top l (book.waiting l) p) book.posts r (gone c x s)
            (inr (b, refl))
            (λ l m. post_stays ds ds book.collect (holding b f) book.top book.top l (book.waiting l) (book.waiting l) (book.posts l) (omega arith) (λ Q h. h)
            (λ k h. freed_next b f k e h)
            (λ k h z. elim (freed_cases b f k e h) [ inl y ↦ absurd (m (sym (ap (λ (f : Frame P). f.lane) y ∙ z))) | inr y ↦ inl y ])
            (v.posts_ok l));
        honest = v.honest;
      }

  pub stamps_freed_waiting :
      (b r : ℕ) (w : Waiting P) (ws : List (Waiting P)) → book.collect ≡ looking b → book.waiting r ≡ w ∷ ws
      → Stamps ds (record { now = suc book.now; posts = book.posts; waiting = upd book.waiting r ws; collect = holding b w.frame; top = book.top })
  stamps_freed_waiting b r w ws e q =
      let f = w.frame in
      let old : AllByRecursion (WaitOk book.top r) (w ∷ ws) = subst (AllByRecursion (WaitOk book.top r)) q (v.waits_ok r) in
      let from : (l : ℕ) (k : Frame P) → Freed ds (holding b f) k → k.lane ≡ l → Freed ds book.collect k ⊎ ((w : Waiting P) × In w (book.waiting l) × (w.frame ≡ k)) =
      λ l k h z. elim (freed_cases b f k e h) [
        | inl y ↦ inr (w, (let rl : r ≡ l = sym old.0.0 ∙ (ap (λ (f : Frame P). f.lane) y ∙ z) in subst (λ (l : ℕ). In w (book.waiting l)) rl (subst (In w) (sym q) (inl refl))), y)
        | inr y ↦ inl y
      ] in
      record {
        below = λ k h. elim (freed_cases b f k e h) [ inl z ↦ subst (λ (f : Frame P). f.stamp < book.top) z old.0.1 | inr z ↦ v.below k z ];
        waits_ok = upd_all (λ l us. AllByRecursion (WaitOk book.top l) us) book.waiting r ws old.1 (λ l _. v.waits_ok l);
        posts_ok =
            λ l. post_stays ds ds book.collect (holding b f) book.top book.top l (book.waiting l) (upd book.waiting r ws l) (book.posts l) (omega arith)
            (λ Q h. upd_all (λ l us. AllByRecursion Q (book.waiting l) → AllByRecursion Q us) book.waiting r ws (λ a. (subst (AllByRecursion Q) q a).1) (λ l _ a. a) l h)
            (λ k h. freed_next b f k e h) (from l) (v.posts_ok l);
        honest = v.honest;
      }

module _ {P : Type 0} where
  pub stamps_blank : Stamps [] (blank {P = P})
  stamps_blank =
      record {
        below = λ f h. absurd (elim h [ inl (d, i, s) ↦ i | inr (b, z) ↦ not_held b f at_rest refl z ]);
        waits_ok = λ r. tt;
        posts_ok = λ r. tt;
        honest = tt;
      }
