-- The collector's calls meet their guards and keep the ties between the model and the book.
use Rattle.std.proofs.Common.{◌≡◌, ℕ, suc, ◌<◌, ◌≢◌, ◌⊎◌, List, [], ◌∷◌, length, sym, refl, ap, ◌∙◌, subst, inl, inr, arith}
use mathlib.Core.Option.{some}
use Rattle.std.proofs.lemmas.Bool.{ne_eqb, eq-eqb, cases_lt}
use Rattle.line.specs.declared.lane.Attempt.TheVariants.{First}
use Rattle.line.specs.declared.lane.Stage.{Stage}
use Rattle.line.specs.declared.lane.Stage.TheVariants.{AtRest, TestSpace, TakeStamp, FillCell, MarkCell, Publish, Look, LoadHead, LoadFront, SwapSlot}
use Rattle.order.specs.SingleFile.{Frame, frame_of}
use Rattle.order.specs.Events.CollectEnd.{as_delivered, as_empty}
use Rattle.order.specs.Events.Event.{began_collect, ended_collect, freed, stepped_collector}
use Rattle.order.specs.Books.{Book, Collect, Post, Waiting, book_free, book_free_from, goes as post-goes}
use Rattle.order.specs.Books.Collect.{holding}
use Rattle.order.specs.Guards.{FindsNone, Frees, Holds, Late, Oldest, OwnFrame}
use Rattle.order.specs.Tables.{upd}
use Rattle.history.proofs.Slot.{wanted}
use Rattle.history.proofs.Slot.View.{kept}
use Rattle.history.proofs.Lanes.{Ends, LaneOk, Own, StageOk, front, waits}
use Rattle.history.proofs.Model.{After, LineModel, ModelOk, Progress, begun_collect, freeing, moved, slotting, rest_of}
use Rattle.history.proofs.Model.Progress.{rest, frees, looking}
use Rattle.history.proofs.Goods.{Carries, CollectTie, Fits, Goods, Gone, Holding, LaneTie, Looking, Match, Past, PostTie, Stamped, Tied}
use Rattle.history.proofs.Matching.{match_after}
use Rattle.history.proofs.LaneTies.{Step, by_lane, with_fetched}

-- all but the last, of a list that begins with x
front_cons : (x : ℕ) (R : List ℕ) → ((front (x ∷ R) ≡ x ∷ front R) × (R ≢ [])) ⊎ ((front (x ∷ R) ≡ []) × (R ≡ []))
front_cons x [] = inr (refl, refl)
front_cons x (y ∷ R) = inl (refl, λ e. let z : ◌≡◌ {A = ℕ} 0 1 = cc in absurd (omega arith))

module _ {P : Type 0} (s : LineModel) (h : ModelOk s) (G : Goods P) (k : Book P) (t : Tied s G k) where
  -- every frame that waits in the book ended after the time
  late_from : (a u : ℕ) → a ≡ suc u → ((q : ℕ) → q < s.n → After a (s.lanes q)) → Late k u
  late_from a u e f q =
      elim (cases_lt q s.n) [
        | inl b ↦ match_after q G.load s.took (s.lanes q).ended (k.waiting q) (waits (s.lanes q).ring (s.lanes q).stage) a u e (f q b) (t.lanes q b).waits
        | inr b ↦ rw (t.others q b).1 tt
      ]

  pub collect_begins : s.col ≡ rest → Step (begun_collect s) G k began_collect
  collect_begins e =
      record {
        admits = rw e at t.collect;
        tied = record { now = ap suc t.now; top = t.top; lanes = t.lanes; others = t.others; collect = (k.now, refl, t.now) };
      }

  -- the collect goes on, and the book sees nothing
  pub goes_on : (g : Progress) → CollectTie s.began G.fetched G.load g k.collect → Step (moved s s.lanes g) G k stepped_collector
  goes_on g a = record { admits = tt; tied = record { now = ap suc t.now; top = t.top; lanes = t.lanes; others = t.others; collect = a } }

  found_none : (c : Collect P) → Looking s.began c → ((q : ℕ) → q < s.n → After s.began (s.lanes q)) → FindsNone k c
  found_none c (b, e, f) a = rw e (late_from s.began b f a)

  pub ends_empty : Looking s.began k.collect → ((q : ℕ) → q < s.n → After s.began (s.lanes q)) → Step (moved s s.lanes rest) G k (ended_collect as_empty)
  ends_empty l a =
      record { admits = found_none k.collect l a; tied = record { now = ap suc t.now; top = t.top; lanes = t.lanes; others = t.others; collect = refl } }

  holds_it : (r m : ℕ) (c : Collect P) → Holding r m c → Holds r m c
  holds_it r m c (b, f, e, x, y) = rw e (x, y)

  pub ends_delivered : (r m : ℕ) → Holding r m k.collect → Step (moved s s.lanes rest) G k (ended_collect (as_delivered r m))
  ends_delivered r m a =
      record { admits = holds_it r m k.collect a; tied = record { now = ap suc t.now; top = t.top; lanes = t.lanes; others = t.others; collect = refl } }

  -- the slot of lane r gets another word, and the collect ends
  pub ends_slotting : (r m σ : ℕ) → Holding r m k.collect → Step (moved s (upd s.lanes r (slotting (s.lanes r) σ)) rest) G k (ended_collect (as_delivered r m))
  ends_slotting r m σ a =
      record {
        admits = holds_it r m k.collect a;
        tied =
            record {
              now = ap suc t.now;
              top = t.top;
              lanes =
                  by_lane r (λ q. q < s.n → LaneTie q s.K s.took G.load (G.hand q) (G.tray q) (upd s.lanes r (slotting (s.lanes r) σ) q) (k.posts q) (k.waiting q))
                  (λ b. rw (eq-eqb r r refl) (record { waits = (t.lanes r b).waits; carries = (t.lanes r b).carries; post = (t.lanes r b).post }))
                  (λ q n b. rw (ne_eqb q r n) (t.lanes q b));
              others = t.others;
              collect = refl;
            };
      }

  module _ (r m : ℕ) (below : r < s.n) (o : LaneOk s.K s.counter s.now s.took (s.lanes r) (kept m)) where
    -- the kept stamp is the first of the ring
    first_kept : (R : List ℕ) → (s.lanes r).ring ≡ R → R ≡ m ∷ rest_of R
    first_kept [] e = absurd (o.slots.view.2 (sym o.slots.view.1 ∙ ap wanted e))
    first_kept (x ∷ R) e = ap (λ y. y ∷ R) (sym (ap wanted e) ∙ o.slots.view.1)

    front_payload : (R : List ℕ) → R ≡ m ∷ rest_of R → Carries s.K (G.tray r) G.load (s.lanes r).freed R → G.tray r (s.lanes r).heads ≡ G.load m
    front_payload R e c = let (a, _) : Carries s.K (G.tray r) G.load (s.lanes r).freed (m ∷ rest_of R) = rw e at c in rw o.headed a

    -- the payload of the first frame is copied into the collector's hand
    pub fetches : Looking s.began k.collect → Step (moved s s.lanes (frees r m)) (with_fetched G (G.tray r (s.lanes r).heads)) k stepped_collector
    fetches l =
        record {
          admits = tt;
          tied =
              record {
                now = ap suc t.now;
                top = t.top;
                lanes = t.lanes;
                others = t.others;
                collect = (l, front_payload (s.lanes r).ring (first_kept (s.lanes r).ring refl) (t.lanes r below).carries);
              };
        }

    -- the free
    module _ (x : P) (held : G.fetched ≡ some x) (loaded : G.fetched ≡ G.load m) (b : ℕ) (late : (q : ℕ) → q < s.n → After (s.took m) (s.lanes q)) where
      abbrev f : Frame P
      f = frame_of r m x

      abbrev s' : LineModel
      s' = moved s (upd s.lanes r (freeing s.K (s.lanes r))) (looking r First m)

      same_payload : (y : P) → G.load m ≡ some y → x ≡ y
      same_payload y e = cc (held, loaded)

      -- the ties after the free, by what becomes of the lane's post and of its waiting frames
      freed_tied : (posts' : ℕ → Post P) (waiting' : ℕ → List (Waiting P)) (p : Post P) (ws : List (Waiting P))
          → ((q : ℕ) → q ≢ r → posts' q ≡ k.posts q) → ((q : ℕ) → q ≢ r → waiting' q ≡ k.waiting q) → posts' r ≡ p → waiting' r ≡ ws
          → Match r G.load s.took (s.lanes r).ended ws (waits (rest_of (s.lanes r).ring) (s.lanes r).stage)
          → PostTie s.took G.load (G.hand r) (G.tray r) (rest_of (s.lanes r).ring) (s.lanes r).tails (s.lanes r).stage p
          → Tied s' G (record { now = suc k.now; posts = posts'; waiting = waiting'; collect = holding b f; top = k.top })
      freed_tied posts' waiting' p ws pe we p-is w-is a c =
          record {
            now = ap suc t.now;
            top = t.top;
            lanes =
                by_lane r (λ q. q < s.n → LaneTie q s.K s.took G.load (G.hand q) (G.tray q) (upd s.lanes r (freeing s.K (s.lanes r)) q) (posts' q) (waiting' q))
                (λ _. rw (eq-eqb r r refl, p-is, w-is)
                (record { waits = a; carries = rest_carried (s.lanes r).ring (first_kept (s.lanes r).ring refl) (t.lanes r below).carries; post = c }))
                (λ q n o. rw (ne_eqb q r n, pe q n, we q n) (t.lanes q o));
            others = λ q o. let n : q ≢ r = omega arith in rw (pe q n, we q n) (t.others q o);
            collect = (b, f, refl, refl, refl);
          }
        where
          rest_carried : (R : List ℕ) → R ≡ m ∷ rest_of R → Carries s.K (G.tray r) G.load (s.lanes r).freed R → Carries s.K (G.tray r) G.load (suc (s.lanes r).freed) (rest_of R)
          rest_carried R e c = let (_, d) : Carries s.K (G.tray r) G.load (s.lanes r).freed (m ∷ rest_of R) = rw e at c in d

      abbrev Goal : List (Waiting P) → Type 0
      Goal ws = Oldest k f ws × Tied s' G (book_free_from k b r f ws)

      -- the oldest frame that waits is freed
      frees_waiting : (w : Waiting P) (ws : List (Waiting P)) (R : List ℕ) → k.waiting r ≡ w ∷ ws → Fits r G.load s.took (s.lanes r).ended w m
          → Match r G.load s.took (s.lanes r).ended ws (waits (rest_of (s.lanes r).ring) (s.lanes r).stage)
          → PostTie s.took G.load (G.hand r) (G.tray r) (rest_of (s.lanes r).ring) (s.lanes r).tails (s.lanes r).stage (k.posts r)
          → Goal (w ∷ ws)
      frees_waiting w ws R e i a c =
          let same : w.frame ≡ f = λ j. record { lane = i.lane j; stamp = i.stamp j; payload = sym (same_payload w.frame.payload i.payload) j } in (
            (same, late_from (s.took m) w.take i.take late),
            freed_tied k.posts (upd k.waiting r ws) (k.posts r) ws (λ q n. refl) (λ q n. rw (ne_eqb q r n) refl) refl (rw (eq-eqb r r refl) refl) a c,
          )

      -- a stage before publish, or at rest: the whole ring waits
      frees_plain : (g : Stage) → (s.lanes r).stage ≡ g → ((R : List ℕ) → waits R g ≡ R)
          → ((R R' : List ℕ) → PostTie s.took G.load (G.hand r) (G.tray r) R (s.lanes r).tails g (k.posts r) → PostTie s.took G.load (G.hand r) (G.tray r) R' (s.lanes r).tails g (k.posts r))
          → (ws : List (Waiting P)) → k.waiting r ≡ ws → Goal ws
      frees_plain g e wg pg ws w =
          let a : Match r G.load s.took (s.lanes r).ended ws (m ∷ rest_of (s.lanes r).ring) = subst (λ (R : List ℕ). Match r G.load s.took (s.lanes r).ended ws R) (ap (waits (s.lanes r).ring) e ∙ wg (s.lanes r).ring ∙ first_kept (s.lanes r).ring refl) (rw w at (t.lanes r below).waits) in
          go ws w a
        where
          go : (ws : List (Waiting P)) → k.waiting r ≡ ws → Match r G.load s.took (s.lanes r).ended ws (m ∷ rest_of (s.lanes r).ring) → Goal ws
          go [] w a = absurd a
          go (v ∷ ws) w (i, a) =
              frees_waiting v ws (s.lanes r).ring w i (rw (e, wg (rest_of (s.lanes r).ring)) a) (rw e (pg (s.lanes r).ring (rest_of (s.lanes r).ring) (rw e at (t.lanes r below).post)))

      -- a stage past publish: the ring but its last waits
      frees_past : (g : Stage) (y : ℕ) → (s.lanes r).stage ≡ g → ((R : List ℕ) → waits R g ≡ front R) → Ends y (s.lanes r).ring
          → Past s.took G.load (s.lanes r).ring y (k.posts r)
          → ((R : List ℕ) (p : Post P) → Past s.took G.load R y p → PostTie s.took G.load (G.hand r) (G.tray r) R (s.lanes r).tails g p)
          → (ws : List (Waiting P)) → k.waiting r ≡ ws → Goal ws
      frees_past g y e wg ends (inr (_, n)) pg ws w = let z : ◌≡◌ {A = ℕ} 0 1 = cc (first_kept (s.lanes r).ring refl) in absurd (omega arith)
      frees_past g y e wg ends (inl (st, n)) pg ws w =
          let ring_is = first_kept (s.lanes r).ring refl in
          let a : Match r G.load s.took (s.lanes r).ended ws (front (m ∷ rest_of (s.lanes r).ring)) = subst (λ (R : List ℕ). Match r G.load s.took (s.lanes r).ended ws R) (ap (waits (s.lanes r).ring) e ∙ wg (s.lanes r).ring ∙ ap front ring_is) (rw w at (t.lanes r below).waits) in
          elim (front_cons m (rest_of (s.lanes r).ring)) [
            | inl (u, v) ↦ more ws w (rw u at a) v
            | inr (u, v) ↦ own ws w (rw u at a) v
          ]
        where
          more : (ws : List (Waiting P)) → k.waiting r ≡ ws → Match r G.load s.took (s.lanes r).ended ws (m ∷ front (rest_of (s.lanes r).ring)) → rest_of (s.lanes r).ring ≢ [] → Goal ws
          more [] w a v = absurd a
          more (u ∷ ws) w (i, a) v = frees_waiting u ws (s.lanes r).ring w i (rw (e, wg (rest_of (s.lanes r).ring)) a) (rw e (pg (rest_of (s.lanes r).ring) (k.posts r) (inl (st, v))))

          own_frame : (p : Post P) → Stamped s.took G.load y p → m ≡ y → OwnFrame k f p
          own_frame p (c, z, u, p-is, l, tk) q = rw p-is (q, same_payload z (ap G.load q ∙ l), late_from (s.took m) u (ap s.took q ∙ tk) late)

          is_gone : (p : Post P) → Stamped s.took G.load y p → Gone y (post-goes p)
          is_gone p (c, z, u, p-is, l, tk) = (c, z, ap post-goes p-is)

          own : (ws : List (Waiting P)) → k.waiting r ≡ ws → Match r G.load s.took (s.lanes r).ended ws [] → rest_of (s.lanes r).ring ≡ [] → Goal ws
          own (u ∷ ws) w a v = absurd a
          own [] w a v =
              let ring_is : (s.lanes r).ring ≡ m ∷ [] = first_kept (s.lanes r).ring refl ∙ ap (λ (R : List ℕ). m ∷ R) v in
              let m_is : m ≡ y = rw ring_is at ends in (
                own_frame (k.posts r) st m_is,
                freed_tied (upd k.posts r (post-goes (k.posts r))) k.waiting (post-goes (k.posts r)) [] (λ q n. rw (ne_eqb q r n) refl) (λ q n. refl) (rw (eq-eqb r r refl) refl) w
                    (rw (e, wg (rest_of (s.lanes r).ring), v) tt)
                    (rw e (pg (rest_of (s.lanes r).ring) (post-goes (k.posts r)) (inr (is_gone (k.posts r) st, v)))),
              )

      own_last : (y : ℕ) → Own s.counter y (s.lanes r).ring → Ends y (s.lanes r).ring
      own_last y own = own.last

      frees_at : (g : Stage) → (s.lanes r).stage ≡ g → StageOk s.K s.counter (s.lanes r).ring (length (s.lanes r).ring) (s.lanes r).tails (s.lanes r).cell g
          → PostTie s.took G.load (G.hand r) (G.tray r) (s.lanes r).ring (s.lanes r).tails g (k.posts r) → Goal (k.waiting r)
      frees_at AtRest e a c = frees_plain AtRest e (λ R. refl) (λ R R' z. z) (k.waiting r) refl
      frees_at TestSpace e a c = frees_plain TestSpace e (λ R. refl) (λ R R' z. z) (k.waiting r) refl
      frees_at TakeStamp e a c = frees_plain TakeStamp e (λ R. refl) (λ R R' z. z) (k.waiting r) refl
      frees_at (FillCell y) e a c = frees_plain (FillCell y) e (λ R. refl) (λ R R' z. z) (k.waiting r) refl
      frees_at (MarkCell y) e a c = frees_plain (MarkCell y) e (λ R. refl) (λ R R' z. z) (k.waiting r) refl
      frees_at (Publish y) e a c = frees_plain (Publish y) e (λ R. refl) (λ R R' z. z) (k.waiting r) refl
      frees_at (Look j y) e a c = frees_past (Look j y) y e (λ R. refl) (own_last y a) c (λ R p z. z) (k.waiting r) refl
      frees_at (LoadHead j y v) e a c = frees_past (LoadHead j y v) y e (λ R. refl) (own_last y a) c (λ R p z. z) (k.waiting r) refl
      frees_at (LoadFront j y v i) e (a, _) c = frees_past (LoadFront j y v i) y e (λ R. refl) (own_last y a) c (λ R p z. z) (k.waiting r) refl
      frees_at (SwapSlot j y v) e a c = frees_past (SwapSlot j y v) y e (λ R. refl) (own_last y a) c (λ R p z. z) (k.waiting r) refl

      frees_goal : Goal (k.waiting r)
      frees_goal = frees_at (s.lanes r).stage refl o.stage (t.lanes r below).post

    frees_as : (x : P) (c : Collect P) → G.fetched ≡ some x → G.fetched ≡ G.load m → ((q : ℕ) → q < s.n → After (s.took m) (s.lanes q)) → Looking s.began c
        → Frees k (frame_of r m x) c × Tied (moved s (upd s.lanes r (freeing s.K (s.lanes r))) (looking r First m)) G (book_free k (frame_of r m x) c)
    frees_as x c held loaded late (b, e, _) =
        subst (λ (c : Collect P). Frees k (frame_of r m x) c × Tied (moved s (upd s.lanes r (freeing s.K (s.lanes r))) (looking r First m)) G (book_free k (frame_of r m x) c)) (sym e)
        (frees_goal x held loaded b late)

    pub frees_it : (x : P) → G.fetched ≡ some x → G.fetched ≡ G.load m → ((q : ℕ) → q < s.n → After (s.took m) (s.lanes q)) → Looking s.began k.collect
        → Step (moved s (upd s.lanes r (freeing s.K (s.lanes r))) (looking r First m)) G k (freed r m x)
    frees_it x held loaded late l = let (a, b) = frees_as x k.collect held loaded late l in record { admits = a; tied = b }
