-- A lane's calls meet their guards and keep the ties between the model and the book.
use Rattle.std.proofs.Common.{◌≡◌, ℕ, suc, ◌+◌, ◌%◌, ◌<◌, ◌≢◌, List, [], ◌∷◌, ◌++◌, length, sym, refl, ap, ◌∙◌, subst, inl, inr, arith, length-append}
use mathlib.Core.Option.{Option, some}
use Rattle.std.specs.List.{AllByRecursion}
use Rattle.std.proofs.lemmas.Bool.{ne_eqb, eq-eqb, cases_eq}
use Rattle.std.proofs.ByRecursion.{All-weaker}
use Rattle.line.specs.declared.lane.Stage.{Stage}
use Rattle.line.specs.declared.lane.Stage.TheVariants.{AtRest, TestSpace, TakeStamp, FillCell, MarkCell, Publish, Look, LoadHead, LoadFront, SwapSlot}
use Rattle.order.specs.Events.{Event}
use Rattle.order.specs.Events.PostEnd.{as_full, as_posted, as_used_up}
use Rattle.order.specs.Events.Event.{began_post, ended_post, quiet, stepped_lane, took}
use Rattle.order.specs.Books.{Book, Collect, Post, Waiting, book_post, book_posted, book_step, book_take, waits_now}
use Rattle.order.specs.Books.Post.{begun, idle, stamped}
use Rattle.order.specs.Guards.{Admits, Answers, Unstamped}
use Rattle.order.specs.Tables.{upd}
use Rattle.history.specs.Limits.{capacity}
use Rattle.history.proofs.Slot.{View}
use Rattle.history.proofs.Lanes.{Ends, LaneModel, LaneOk, Own, StageOk, ends, front, goes, publishes, stores, waits, whole}
use Rattle.history.proofs.Model.{LineModel, ModelOk, Progress, moved, taken, view}
use Rattle.history.proofs.Model.Progress.{rest, scan, scan_kept, again, fetch, frees, looking, tailing, fronting, swapping}
use Rattle.history.proofs.Goods.{Begun, CollectTie, Goods, LaneTie, Match, Past, PostTie, Stamped, Tied}
use Rattle.history.proofs.LaneSteps.{whole_part}
use Rattle.history.proofs.ModelSteps.{kept_below}
use Rattle.history.proofs.Views.{here}
use Rattle.history.proofs.Waits.{ends_part, front_push, waits_all}
use Rattle.history.proofs.Matching.{Same, carries_copy, carries_on, carries_push, match_ends, match_length, match_on}
use Rattle.history.proofs.Ring.{full_only}

-- what holds of lane r and of the others holds of all
pub by_lane : (r : ℕ) (Q : ℕ → Type 0) → Q r → ((q : ℕ) → q ≢ r → Q q) → (q : ℕ) → Q q
by_lane r Q a b q = elim (cases_eq q r) [ inl e ↦ rw e a | inr n ↦ b q n ]

module _ {P : Type 0} (G : Goods P) where
  abbrev pub with_hand : ℕ → Option P → Goods P
  with_hand r x = record { load = G.load; hand = upd G.hand r x; fetched = G.fetched; tray = G.tray }

  abbrev pub with_tray : ℕ → (ℕ → Option P) → Goods P
  with_tray r f = record { load = G.load; hand = G.hand; fetched = G.fetched; tray = upd G.tray r f }

  abbrev pub with_load : ℕ → Option P → Goods P
  with_load s x = record { load = upd G.load s x; hand = G.hand; fetched = G.fetched; tray = G.tray }

  abbrev pub with_fetched : Option P → Goods P
  with_fetched x = record { load = G.load; hand = G.hand; fetched = x; tray = G.tray }

-- an event that meets its guard, and the ties after it
pub record Step {P : Type 0} (s : LineModel) (G : Goods P) (k : Book P) (e : Event P) : Type 0 where
  pub admits : Admits (capacity s.K) k e
  pub tied : Tied s G (book_step k e)

module _ {P : Type 0} (took took' : ℕ → ℕ) (load load' : ℕ → Option P) (counter : ℕ) (same_took : (x : ℕ) → x < counter → took' x ≡ took x) (same_load : (x : ℕ) → x < counter → load' x ≡ load x) where
  stamped_on : (s : ℕ) (p : Post P) → s < counter → Stamped took load s p → Stamped took' load' s p
  stamped_on s p l (b, x, t, e, f, g) = (b, x, t, e, same_load s l ∙ f, same_took s l ∙ g)

  past_on : (R : List ℕ) (s : ℕ) (p : Post P) → s < counter → Past took load R s p → Past took' load' R s p
  past_on R s p l (inl (a, n)) = inl (stamped_on s p l a, n)
  past_on R s p l (inr a) = inr a

  -- the ties of a lane stay as another stamp is taken
  post_tie_on : (K : ℕ) (L : List ℕ) (n : ℕ) (cell : ℕ → ℕ) (hand : Option P) (tray : ℕ → Option P) (R : List ℕ) (t : ℕ) (g : Stage) (p : Post P)
      → StageOk K counter L n t cell g → PostTie took load hand tray R t g p → PostTie took' load' hand tray R t g p
  post_tie_on K L n cell hand tray R t AtRest p a h = h
  post_tie_on K L n cell hand tray R t TestSpace p a h = h
  post_tie_on K L n cell hand tray R t TakeStamp p a h = h
  post_tie_on K L n cell hand tray R t (FillCell s) p a (h, e) = (stamped_on s p a.taken h, e ∙ sym (same_load s a.taken))
  post_tie_on K L n cell hand tray R t (MarkCell s) p a (h, e) = (stamped_on s p a.taken h, e ∙ sym (same_load s a.taken))
  post_tie_on K L n cell hand tray R t (Publish s) p (a, _) (h, e) = (stamped_on s p a.taken h, e ∙ sym (same_load s a.taken))
  post_tie_on K L n cell hand tray R t (Look k s) p a h = past_on R s p a.taken h
  post_tie_on K L n cell hand tray R t (LoadHead k s v) p a h = past_on R s p a.taken h
  post_tie_on K L n cell hand tray R t (LoadFront k s v i) p (a, _) h = past_on R s p a.taken h
  post_tie_on K L n cell hand tray R t (SwapSlot k s v) p a h = past_on R s p a.taken h

  lane_tie_on : (r K now : ℕ) (hand : Option P) (tray : ℕ → Option P) (l : LaneModel) (c : View) (p : Post P) (ws : List (Waiting P))
      → LaneOk K counter now took l c → LaneTie r K took load hand tray l p ws → LaneTie r K took' load' hand tray l p ws
  lane_tie_on r K now hand tray l c p ws o h =
      let low : AllByRecursion (λ x. x < counter) l.ring = whole_part l.ring c (λ x. x < counter) o.below in
      record {
        waits =
            match_on r load load' took took' l.ended l.ended ws (waits l.ring l.stage)
            (All-weaker (λ x. x < counter) (Same r load load' took took' l.ended l.ended) (λ x b. (same_load x b, same_took x b, refl)) (waits l.ring l.stage) (waits_all (λ x. x < counter) l.ring l.stage low))
            h.waits;
        carries = carries_on K l.freed tray load load' l.ring (All-weaker (λ x. x < counter) (λ x. load' x ≡ load x) (λ x b. same_load x b) l.ring low) h.carries;
        post = post_tie_on K (whole l.ring c) (length l.ring) l.cell hand tray l.ring l.tails l.stage p o.stage h.post;
      }

module _ {P : Type 0} (s : LineModel) (h : ModelOk s) (G : Goods P) (k : Book P) (t : Tied s G k) where
  -- a call that does nothing to the model
  pub quiet_step : Step (moved s s.lanes s.col) G k quiet
  quiet_step = record { admits = tt; tied = record { now = ap suc t.now; top = t.top; lanes = t.lanes; others = t.others; collect = t.collect } }

  module _ (r : ℕ) (below : r < s.n) where
    old : LaneTie r s.K s.took G.load (G.hand r) (G.tray r) (s.lanes r) (k.posts r) (k.waiting r)
    old = t.lanes r below

    ok : LaneOk s.K s.counter s.now s.took (s.lanes r) (view s.col r)
    ok = h.posts r

    -- the lane's stage or ring changes, and the book sees nothing
    stepped : (l' : LaneModel) → LaneTie r s.K s.took G.load (G.hand r) (G.tray r) l' (k.posts r) (k.waiting r)
        → Step (moved s (upd s.lanes r l') s.col) G k (stepped_lane r)
    stepped l' a =
        record {
          admits = tt;
          tied =
              record {
                now = ap suc t.now;
                top = t.top;
                lanes =
                    by_lane r (λ q. q < s.n → LaneTie q s.K s.took G.load (G.hand q) (G.tray q) (upd s.lanes r l' q) (k.posts q) (k.waiting q))
                    (λ _. rw (eq-eqb r r refl) a) (λ q n b. rw (ne_eqb q r n) (t.lanes q b));
                others = t.others;
                collect = t.collect;
              };
        }

    stepped_tray : (l' : LaneModel) (f : ℕ → Option P) → LaneTie r s.K s.took G.load (G.hand r) f l' (k.posts r) (k.waiting r)
        → Step (moved s (upd s.lanes r l') s.col) (with_tray G r f) k (stepped_lane r)
    stepped_tray l' f a =
        record {
          admits = tt;
          tied =
              record {
                now = ap suc t.now;
                top = t.top;
                lanes =
                    by_lane r (λ q. q < s.n → LaneTie q s.K s.took G.load (G.hand q) (upd G.tray r f q) (upd s.lanes r l' q) (k.posts q) (k.waiting q))
                    (λ _. rw (eq-eqb r r refl) a) (λ q n b. rw (ne_eqb q r n) (t.lanes q b));
                others = t.others;
                collect = t.collect;
              };
        }

    -- the lane's post in the book changes, and its hand
    post_changes : (l' : LaneModel) (x : Option P) (p : Post P) → LaneTie r s.K s.took G.load x (G.tray r) l' p (k.waiting r)
        → Tied (moved s (upd s.lanes r l') s.col) (with_hand G r x) (book_post k r p)
    post_changes l' x p a =
        record {
          now = ap suc t.now;
          top = t.top;
          lanes =
              by_lane r (λ q. q < s.n → LaneTie q s.K s.took G.load (upd G.hand r x q) (G.tray q) (upd s.lanes r l' q) (upd k.posts r p q) (k.waiting q))
              (λ _. rw (eq-eqb r r refl) a) (λ q n b. rw (ne_eqb q r n) (t.lanes q b));
          others = λ q o. rw (ne_eqb q r (omega arith)) (t.others q o);
          collect = t.collect;
        }

    post_ends : (l' : LaneModel) → LaneTie r s.K s.took G.load (G.hand r) (G.tray r) l' idle (k.waiting r)
        → Tied (moved s (upd s.lanes r l') s.col) G (book_post k r idle)
    post_ends l' a =
        record {
          now = ap suc t.now;
          top = t.top;
          lanes =
              by_lane r (λ q. q < s.n → LaneTie q s.K s.took G.load (G.hand q) (G.tray q) (upd s.lanes r l' q) (upd k.posts r idle q) (k.waiting q))
              (λ _. rw (eq-eqb r r refl) a) (λ q n b. rw (ne_eqb q r n) (t.lanes q b));
          others = λ q o. rw (ne_eqb q r (omega arith)) (t.others q o);
          collect = t.collect;
        }

    -- the beginning of a post
    pub begins : (x : P) → (s.lanes r).stage ≡ AtRest → Step (moved s (upd s.lanes r (goes (s.lanes r) TestSpace)) s.col) (with_hand G r (some x)) k (began_post r x)
    begins x e =
        record {
          admits = rw e at old.post;
          tied = post_changes (goes (s.lanes r) TestSpace) (some x) (begun k.now x)
              (record { waits = rw e at old.waits; carries = old.carries; post = (k.now, x, refl, refl) });
        }

    begun_unstamped : (p : Post P) (hand : Option P) → Begun hand p → Unstamped p
    begun_unstamped p hand (b, x, e, f) = rw e tt

    waits_as_many : (g : Stage) → (s.lanes r).stage ≡ g → waits (s.lanes r).ring g ≡ (s.lanes r).ring → length (k.waiting r) ≡ length (s.lanes r).ring
    waits_as_many g e w = match_length r G.load s.took (s.lanes r).ended (k.waiting r) _ old.waits ∙ ap length (ap (waits (s.lanes r).ring) e ∙ w)

    -- a post that takes no stamp ends
    pub ends_full : (s.lanes r).stage ≡ TestSpace → (s.lanes r).heads ≡ ((s.lanes r).tails + 1) % s.K
        → Step (moved s (upd s.lanes r (goes (s.lanes r) AtRest)) s.col) G k (ended_post r as_full)
    ends_full e f =
        let full : suc (length (s.lanes r).ring) ≡ s.K = full_only s.K (s.lanes r).freed (length (s.lanes r).ring) ok.small (cc (ok.headed, ok.tailed)) in
        record {
          admits = (begun_unstamped (k.posts r) (G.hand r) (rw e at old.post), omega (arith, waits_as_many TestSpace e refl));
          tied = post_ends (goes (s.lanes r) AtRest) (record { waits = rw e at old.waits; carries = old.carries; post = refl });
        }

    pub ends_used_up : (s.lanes r).stage ≡ TakeStamp → Step (moved s (upd s.lanes r (goes (s.lanes r) AtRest)) s.col) G k (ended_post r as_used_up)
    ends_used_up e =
        record {
          admits = begun_unstamped (k.posts r) (G.hand r) (rw e at old.post);
          tied = post_ends (goes (s.lanes r) AtRest) (record { waits = rw e at old.waits; carries = old.carries; post = refl });
        }

    -- the stamp is taken
    takes_as : (p : Post P) → k.posts r ≡ p → Begun (G.hand r) p → (s.lanes r).stage ≡ TakeStamp → Tied (taken s r) (with_load G s.counter (G.hand r)) (book_take k r s.counter p)
    takes_as p e (b, x, f, y) g =
        let load' = upd G.load s.counter (G.hand r) in
        let took' = upd s.took s.counter s.now in
        let same_took : (x : ℕ) → x < s.counter → took' x ≡ s.took x = λ x q. rw (ne_eqb x s.counter (omega arith)) refl in
        let same_load : (x : ℕ) → x < s.counter → load' x ≡ G.load x = λ x q. rw (ne_eqb x s.counter (omega arith)) refl in
        let on = λ (q : ℕ) (b : q < s.n). lane_tie_on s.took took' G.load load' s.counter same_took same_load q s.K s.now (G.hand q) (G.tray q) (s.lanes q) (view s.col q) (k.posts q) (k.waiting q) (h.posts q) (t.lanes q b) in
        subst (λ (p : Post P). Tied (taken s r) (with_load G s.counter (G.hand r)) (book_take k r s.counter p)) (sym f)
        (record {
          now = ap suc t.now;
          top = omega arith;
          lanes =
              by_lane r (λ q. q < s.n → LaneTie q s.K took' load' (G.hand q) (G.tray q) (upd s.lanes r (goes (s.lanes r) (FillCell s.counter)) q) (upd k.posts r (stamped b x s.counter k.now) q) (k.waiting q))
              (λ _. rw (eq-eqb r r refl)
              (record {
                waits = rw g at (on r below).waits;
                carries = (on r below).carries;
                post = ((b, x, k.now, refl, rw (eq-eqb s.counter s.counter refl) y, rw (eq-eqb s.counter s.counter refl) t.now), rw (eq-eqb s.counter s.counter refl) refl);
              }))
              (λ q n o. rw (ne_eqb q r n) (on q o));
          others = λ q o. rw (ne_eqb q r (omega arith)) (t.others q o);
          collect = collect_on s.col k.collect h h.posts t.collect;
        })
      where
        collect_on : (g : Progress) (c : Collect P) → ModelOk s → ((q : ℕ) → LaneOk s.K s.counter s.now s.took (s.lanes q) (view g q))
            → CollectTie s.began G.fetched G.load g c → CollectTie s.began G.fetched (upd G.load s.counter (G.hand r)) g c
        collect_on rest c o p a = a
        collect_on (scan i) c o p a = a
        collect_on (scan_kept i b m) c o p a = a
        collect_on (again j b q m) c o p a = a
        collect_on (fetch q m) c o p a = a
        collect_on (frees q m) c o p (a, f) =
            let mb = kept_below s.K s.counter s.now s.took (s.lanes q) m (here (LaneOk s.K s.counter s.now s.took) s.lanes q (View.kept m) p) in
            (a, rw (ne_eqb m s.counter (omega arith)) f)
        collect_on (looking q j m) c o p a = a
        collect_on (tailing q j m v) c o p a = a
        collect_on (fronting q j m v) c o p a = a
        collect_on (swapping q j m v w) c o p a = a

    pub takes : (s.lanes r).stage ≡ TakeStamp → Step (taken s r) (with_load G s.counter (G.hand r)) k (took r s.counter)
    takes e =
        let b : Begun (G.hand r) (k.posts r) = rw e at old.post in
        let room : suc (length (s.lanes r).ring) < s.K = rw e at ok.stage in
        record {
          admits = (begun_unstamped (k.posts r) (G.hand r) b, omega (arith, waits_as_many TakeStamp e refl), t.top);
          tied = takes_as (k.posts r) refl b e;
        }

    -- the way to publish
    pub fills_cell : (x : ℕ) → (s.lanes r).stage ≡ FillCell x → Step (moved s (upd s.lanes r (goes (s.lanes r) (MarkCell x))) s.col) (with_tray G r (upd (G.tray r) (s.lanes r).tails (G.hand r))) k (stepped_lane r)
    fills_cell x e =
        let (a, f) : Stamped s.took G.load x (k.posts r) × (G.hand r ≡ G.load x) = rw e at old.post in
        stepped_tray (goes (s.lanes r) (MarkCell x)) (upd (G.tray r) (s.lanes r).tails (G.hand r))
        (record {
          waits = rw e at old.waits;
          carries = rw ok.tailed (carries_copy s.K (s.lanes r).freed ((s.lanes r).freed + length (s.lanes r).ring) (G.tray r) G.load (G.hand r) (s.lanes r).ring (omega arith) (omega (arith, ok.small)) old.carries);
          post = (a, rw (eq-eqb (s.lanes r).tails (s.lanes r).tails refl) f);
        })

    pub marks_cell : (x : ℕ) → (s.lanes r).stage ≡ MarkCell x → Step (moved s (upd s.lanes r (stores (s.lanes r) x)) s.col) G k (stepped_lane r)
    marks_cell x e = stepped (stores (s.lanes r) x) (record { waits = rw e at old.waits; carries = old.carries; post = rw e at old.post })

    some_pushed : (xs : List ℕ) (x : ℕ) → xs ++ x ∷ [] ≢ []
    some_pushed xs x e = let z : length (xs ++ x ∷ []) ≡ 0 = ap length e in omega (arith, length-append xs (x ∷ []))

    pub publishes_it : (x : ℕ) → (s.lanes r).stage ≡ Publish x → Step (moved s (upd s.lanes r (publishes s.K (s.lanes r) x)) s.col) G k (stepped_lane r)
    publishes_it x e =
        let (a, f) : Stamped s.took G.load x (k.posts r) × (G.tray r (s.lanes r).tails ≡ G.load x) = rw e at old.post in
        stepped (publishes s.K (s.lanes r) x)
        (record {
          waits = rw (front_push x (s.lanes r).ring) (rw e at old.waits);
          carries = carries_push s.K (s.lanes r).freed x (G.tray r) G.load (s.lanes r).ring (rw ok.tailed at f) old.carries;
          post = inl (a, some_pushed (s.lanes r).ring x);
        })

    -- past publish the stage moves on
    pub moves_past : (g : Stage) → Match r G.load s.took (s.lanes r).ended (k.waiting r) (waits (s.lanes r).ring g)
        → PostTie s.took G.load (G.hand r) (G.tray r) (s.lanes r).ring (s.lanes r).tails g (k.posts r)
        → Step (moved s (upd s.lanes r (goes (s.lanes r) g)) s.col) G k (stepped_lane r)
    moves_past g a b = stepped (goes (s.lanes r) g) (record { waits = a; carries = old.carries; post = b })

    -- the end of a post that published
    module _ (x σ : ℕ) (own : Own s.counter x (whole (s.lanes r).ring (view s.col r))) (m : Match r G.load s.took (s.lanes r).ended (k.waiting r) (front (s.lanes r).ring)) where
      last : Ends x (s.lanes r).ring
      last = ends_part x (s.lanes r).ring (view s.col r) own.last

      ended_as : (p : Post P) → k.posts r ≡ p → Past s.took G.load (s.lanes r).ring x p → Answers x p × Tied (moved s (upd s.lanes r (ends (s.lanes r) s.now x σ)) s.col) G (book_posted k r p)
      ended_as p e (inl ((b, y, u, f, g, i), n)) =
          subst (λ (p : Post P). Answers x p × Tied (moved s (upd s.lanes r (ends (s.lanes r) s.now x σ)) s.col) G (book_posted k r p)) (sym f) (
            refl,
            record {
              now = ap suc t.now;
              top = t.top;
              lanes =
                  by_lane r (λ q. q < s.n → LaneTie q s.K s.took G.load (G.hand q) (G.tray q) (upd s.lanes r (ends (s.lanes r) s.now x σ) q) (upd k.posts r idle q) (upd k.waiting r (k.waiting r ++ waits_now k r b y x u ∷ []) q))
                  (λ _. rw (eq-eqb r r refl)
                  (record {
                    waits =
                        match_ends r G.load s.took (s.lanes r).ended s.now x (waits_now k r b y x u) (k.waiting r) (s.lanes r).ring n last
                        (record { lane = refl; stamp = refl; payload = g; take = i; end = rw (eq-eqb x x refl) t.now }) m;
                    carries = old.carries;
                    post = refl;
                  }))
                  (λ q n b. rw (ne_eqb q r n) (t.lanes q b));
              others = λ q o. rw (ne_eqb q r (omega arith)) (t.others q o);
              collect = t.collect;
            },
          )
      ended_as p e (inr ((b, y, f), n)) =
          subst (λ (p : Post P). Answers x p × Tied (moved s (upd s.lanes r (ends (s.lanes r) s.now x σ)) s.col) G (book_posted k r p)) (sym f) (
            refl,
            post_ends (ends (s.lanes r) s.now x σ)
                (record { waits = emptied (k.waiting r) (s.lanes r).ring n m; carries = old.carries; post = refl }),
          )
        where
          emptied : (ws : List (Waiting P)) (R : List ℕ) → R ≡ [] → Match r G.load s.took (s.lanes r).ended ws (front R) → Match r G.load s.took (upd (s.lanes r).ended x s.now) ws R
          emptied [] [] e m = tt
          emptied (w ∷ ws) [] e m = m
          emptied ws (y ∷ R) e m = let z : ◌≡◌ {A = ℕ} 0 1 = cc in absurd (omega arith)

      pub ends_posted : Past s.took G.load (s.lanes r).ring x (k.posts r) → Step (moved s (upd s.lanes r (ends (s.lanes r) s.now x σ)) s.col) G k (ended_post r (as_posted x))
      ends_posted p = let (a, b) = ended_as (k.posts r) refl p in record { admits = a; tied = b }
