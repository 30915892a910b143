-- Every move keeps the line's invariant.
use Rattle.std.proofs.Common.{◌≡◌, ℕ, suc, ◌+◌, ◌<◌, ◌≤◌, eqb, ltb, ◌≢◌, ◌⊎◌, List, [], ◌∷◌, ◌++◌, length, sym, refl, ap, inl, inr, arith, length-append}
use Rattle.std.specs.List.{AllByRecursion}
use Rattle.std.proofs.lemmas.Bool.{cond_both, eqb-true, eqb-false, ltb-true, ltb-false, cases_eq}
use Rattle.std.proofs.lemmas.Bool.Decides.{nat_tests}
use Rattle.boards.specs.Words.{empty_word, stamp_limit}
use Rattle.line.specs.declared.lane.Attempt.{Attempt}
use Rattle.line.specs.declared.lane.Attempt.TheVariants.{First, Second}
use Rattle.line.specs.declared.lane.Stage.{Stage}
use Rattle.line.specs.declared.lane.Stage.TheVariants.{AtRest, TestSpace, TakeStamp, FillCell, MarkCell, Publish, Look, LoadHead, LoadFront, SwapSlot}
use Rattle.order.specs.Tables.{upd}
use Rattle.order.proofs.Lists.{upd_all}
use Rattle.history.proofs.Slot.{View, wanted, SlotOk}
use Rattle.history.proofs.Slot.View.{away, kept, looks, seen, swaps}
use Rattle.history.proofs.Lanes.{LaneModel, duty, goes, grant, whole, CellsHold, StageOk, LaneOk, waits}
use Rattle.history.proofs.Model.{Progress, on, view, LineModel, After, freeing, slotting, next_again, next_kept, retry, moved, collect, begun_collect, begun_post, moves, taken, grant_lane, ProgressOk, ModelOk}
use Rattle.history.proofs.Model.Progress.{rest, scan, scan_kept, again, fetch, frees, looking, tailing, fronting, swapping}
use Rattle.history.proofs.LaneSteps.{is_empty, lane_goes as one-lane-goes, lane_granted, lane_later, stamp_taken}
use Rattle.history.proofs.CollectSteps as c
use Rattle.history.proofs.Views.{here, there, turns, leaves, drops, views, enters}
use Rattle.history.proofs.Scans.{after_less, loaded_none, loaded_some, after_grant}

-- a kept stamp was taken
pub kept_below : (K counter now : ℕ) (took : ℕ → ℕ) (l : LaneModel) (m : ℕ) → LaneOk K counter now took l (kept m) → m < counter
kept_below K counter now took l m h = go l.ring h.below h.slots.view.1 h.slots.view.2
  where
    go : (R : List ℕ) → AllByRecursion (λ x. x < counter) R → wanted R ≡ m → m ≢ empty_word → m < counter
    go [] b e n = absurd (n (sym e))
    go (x ∷ R) b e n = omega arith

module _ (s : LineModel) (h : ModelOk s) where
  abbrev Ok : LaneModel → View → Type 0
  Ok l c = LaneOk s.K s.counter (suc s.now) s.took l c

  -- the clock
  pub tick : (l : LaneModel) (c : View) → LaneOk s.K s.counter s.now s.took l c → Ok l c
  tick l c k = lane_later s.K s.counter s.counter s.now (suc s.now) s.took s.took l c (omega arith) (omega arith) (λ x e. refl) k

  line_comes_to : (ls : ℕ → LaneModel) (g : Progress) → ((q : ℕ) → Ok (ls q) (view g q)) → ProgressOk (moved s ls g) g → ModelOk (moved s ls g)
  line_comes_to ls g p o = record { posts = p; ticks = λ x e. omega (arith, h.ticks x e); climbs = h.climbs; top = h.top; cols = o }

  -- the scans go on
  second_scan_goes_on : (j b r m : ℕ) → j ≤ b → b < s.n → (r ≡ b) ⊎ (r < j) → ((q : ℕ) → Ok (s.lanes q) (on r q (kept m)))
      → ((q : ℕ) → q < s.n → (q < j) ⊎ (b ≤ q) → After (s.took m) (s.lanes q)) → ModelOk (moved s s.lanes (next_again j b r m))
  second_scan_goes_on j b r m a d w p f =
      cond_both (eqb j b) (fetch r m) (again j b r m) (λ g. ModelOk (moved s s.lanes g))
      (λ e. let k = eqb-true j b e in line_comes_to s.lanes (fetch r m) p ((omega arith), λ q n. f q n (grind arith)))
      (λ e. let k = eqb-false j b e in line_comes_to s.lanes (again j b r m) p (omega arith, d, w, f))

  kept_scan_goes_on : (i b m : ℕ) → i ≤ s.n → b < i → ((q : ℕ) → Ok (s.lanes q) (on b q (kept m)))
      → ((q : ℕ) → b ≤ q → q < i → After (s.took m) (s.lanes q)) → ModelOk (moved s s.lanes (next_kept s.n i b m))
  kept_scan_goes_on i b m a d p f =
      cond_both (eqb i s.n) (next_again 0 b b m) (scan_kept i b m) (λ g. ModelOk (moved s s.lanes g))
      (λ e. let k = eqb-true i s.n e in second_scan_goes_on 0 b b m (omega arith) (omega arith) (inl refl) p (λ q n w. f q (grind arith) (omega arith)))
      (λ e. let k = eqb-false i s.n e in line_comes_to s.lanes (scan_kept i b m) p (omega arith, d, f))

  module _ (i : ℕ) (k : Ok (s.lanes i) away) where
    empty_slot_none_waits : (a : ℕ) → (s.lanes i).slot ≡ empty_word → After a (s.lanes i)
    empty_slot_none_waits a e = loaded_none s.K s.counter (suc s.now) s.took (s.lanes i) k h.top a e

    stamp_in_slot_later : (m : ℕ) → m ≤ (s.lanes i).slot → After (s.took m) (s.lanes i)
    stamp_in_slot_later m n = loaded_some s.K s.counter (suc s.now) s.took (s.lanes i) k h.top h.climbs m n

    slot_kept : (s.lanes i).slot ≢ empty_word → Ok (s.lanes i) (kept (s.lanes i).slot)
    slot_kept n = c.keep s.K s.counter (suc s.now) s.took (s.lanes i) n k

  module _ (r : ℕ) (c : View) (k : Ok (s.lanes r) c) where
    no_tail : (s.lanes r).tails ≡ (s.lanes r).heads → (s.lanes r).ring ≡ []
    no_tail e = is_empty s.K s.counter (suc s.now) s.took (s.lanes r) c k _ refl (sym e)

    some_tail : (s.lanes r).tails ≢ (s.lanes r).heads → (s.lanes r).ring ≢ []
    some_tail n e =
        let q : (s.lanes r).freed + length (s.lanes r).ring ≡ (s.lanes r).freed = rw e (omega arith) in
        n (cc (k.headed, k.tailed))

    at_front : (R : List ℕ) → (s.lanes r).ring ≡ R → R ≢ [] → (s.lanes r).cell (s.lanes r).heads ≡ wanted R
    at_front [] e n = absurd (n refl)
    at_front (x ∷ R) e n = let (o, _) : CellsHold s.K (s.lanes r).cell (s.lanes r).freed (x ∷ R) = rw e at k.holds in cc k.headed

  pub collector_granted_model : (g : Progress) → ((q : ℕ) → Ok (s.lanes q) (view g q)) → ProgressOk s g → ModelOk s → ModelOk (collect s g)
  collector_granted_model rest p o e = e
  collector_granted_model (scan i) p (a, d, f) e =
      cond_both (eqb (s.lanes i).slot empty_word) _ _ ModelOk
      (λ y. cond_both (eqb (suc i) s.n) rest (scan (suc i)) (λ g. ModelOk (moved s s.lanes g))
      (λ z. line_comes_to s.lanes rest p tt)
      (λ z. let n = eqb-false _ _ z in line_comes_to s.lanes (scan (suc i)) p (
        omega arith,
        omega arith,
        λ q w. elim (cases_eq q i) [
          | inl u ↦ rw u (empty_slot_none_waits i (p i) s.began (eqb-true _ _ y))
          | inr u ↦ f q (omega arith)
        ],
      )))
      (λ y. kept_scan_goes_on (suc i) i (s.lanes i).slot a (omega arith) (enters Ok s.lanes i (kept (s.lanes i).slot) p (slot_kept i (p i) (eqb-false _ _ y)))
      (λ q u w. let z : q ≡ i = omega arith in rw z (stamp_in_slot_later i (p i) (s.lanes i).slot (omega arith))))
  collector_granted_model (scan_kept i b m) p (a, d, f) e =
      let ki = there Ok s.lanes b (kept m) p i (omega arith) in
      let kb = here Ok s.lanes b (kept m) p in
      cond_both (ltb (s.lanes i).slot m) _ _ ModelOk
      (λ y.
      let small : (s.lanes i).slot ≢ empty_word = omega (arith, ltb-true _ _ y, kept_below _ _ _ _ _ m kb, h.top) in
      kept_scan_goes_on (suc i) i (s.lanes i).slot a (omega arith)
      (enters Ok s.lanes i (kept (s.lanes i).slot) (drops Ok s.lanes b (kept m) p (c.drop _ _ _ _ _ m kb)) (slot_kept i ki small))
      (λ q u w. let z : q ≡ i = omega arith in rw z (stamp_in_slot_later i ki (s.lanes i).slot (omega arith))))
      (λ y. kept_scan_goes_on (suc i) b m a (omega arith) p (λ q u w. elim (cases_eq q i) [
        | inl z ↦ rw z (stamp_in_slot_later i ki m (ltb-false _ _ y))
        | inr z ↦ f q u (omega arith)
      ]))
  collector_granted_model (again j b r m) p (a, d, w, f) e =
      let kj = there Ok s.lanes r (kept m) p j (omega arith) in
      let kr = here Ok s.lanes r (kept m) p in
      let x = (s.lanes j).slot in
      cond_both (ltb (s.lanes j).slot m) _ _ ModelOk
      (λ y.
      let lt = ltb-true _ _ y in
      let mb = kept_below _ _ _ _ _ m kr in
      let small : (s.lanes j).slot ≢ empty_word = omega (arith, h.top) in
      second_scan_goes_on (suc j) b j (s.lanes j).slot a d (inr (omega arith))
      (enters Ok s.lanes j (kept (s.lanes j).slot) (drops Ok s.lanes r (kept m) p (c.drop _ _ _ _ _ m kr)) (slot_kept j kj small))
      (λ q n u. elim (cases_eq q j) [
        | inl z ↦ rw z (stamp_in_slot_later j kj (s.lanes j).slot (omega arith))
        | inr z ↦ after_less _ _ (s.lanes q) (h.climbs (s.lanes j).slot m (omega arith) mb) (f q n (grind arith))
      ]))
      (λ y. second_scan_goes_on (suc j) b r m a d (grind arith) p (λ q n u. elim (cases_eq q j) [
        | inl z ↦ rw z (stamp_in_slot_later j kj m (ltb-false _ _ y))
        | inr z ↦ f q n (grind arith)
      ]))
  collector_granted_model (fetch r m) p o e = line_comes_to s.lanes (frees r m) p o
  collector_granted_model (frees r m) p (o, f) e =
      line_comes_to _ (looking r First m) (turns Ok s.lanes r (kept m) p (freeing s.K (s.lanes r)) (looks First m) (c.free _ _ _ _ (s.lanes r) m _ refl (here Ok s.lanes r (kept m) p))) o
  collector_granted_model (looking r j m) p o e =
      line_comes_to _ (tailing r j m (s.lanes r).slot) (views Ok s.lanes r (looks j m) p (seen j m (s.lanes r).slot) (c.see _ _ _ _ (s.lanes r) j m (here Ok s.lanes r (looks j m) p))) o
  collector_granted_model (tailing r j m v) p o e =
      let k = here Ok s.lanes r (seen j m v) p in
      cond_both (eqb (s.lanes r).tails (s.lanes r).heads) _ _ ModelOk
      (λ y. line_comes_to s.lanes (swapping r j m v empty_word) (views Ok s.lanes r (seen j m v) p (swaps j m v empty_word)
      (c.read _ _ _ _ (s.lanes r) j m v empty_word (sym (ap wanted (no_tail r _ k (eqb-true _ _ y)))) k)) o)
      (λ y. line_comes_to s.lanes (fronting r j m v) p (o, some_tail r _ k (eqb-false _ _ y)))
  collector_granted_model (fronting r j m v) p (o, n) e =
      let k = here Ok s.lanes r (seen j m v) p in
      line_comes_to s.lanes (swapping r j m v _) (views Ok s.lanes r (seen j m v) p (swaps j m v _)
      (c.read _ _ _ _ (s.lanes r) j m v _ (at_front r _ k (s.lanes r).ring refl n) k)) o
  collector_granted_model (swapping r j m v w) p o e =
      let k = here Ok s.lanes r (swaps j m v w) p in
      cond_both (eqb (s.lanes r).slot v) _ _ ModelOk
      (λ y. line_comes_to (upd s.lanes r (slotting (s.lanes r) w)) rest (leaves Ok s.lanes r (swaps j m v w) p (slotting (s.lanes r) w) (c.wrote _ _ _ _ (s.lanes r) j m v w (eqb-true _ _ y) k)) tt)
      (λ y. tries j p k (eqb-false _ _ y))
    where
      tries : (j : Attempt) → ((q : ℕ) → Ok (s.lanes q) (on r q (swaps j m v w))) → Ok (s.lanes r) (swaps j m v w) → ((s.lanes r).slot ≡ v → ⊥) → ModelOk (moved s s.lanes (retry r j m))
      tries First p k n = line_comes_to s.lanes (looking r Second m) (views Ok s.lanes r (swaps First m v w) p (looks Second m) (c.failed _ _ _ _ (s.lanes r) m v w n k)) o
      tries Second p k n = line_comes_to s.lanes rest (drops Ok s.lanes r (swaps Second m v w) p (c.failed_again _ _ _ _ (s.lanes r) m v w k)) tt

-- what the scans know stays as a lane moves
progress_later : (s u : LineModel) (g : Progress) → u.n ≡ s.n → u.began ≡ s.began → s.now ≤ u.now → ((x : ℕ) → x < s.counter → u.took x ≡ s.took x)
    → ((x : ℕ) → x < s.counter → s.took x < s.now)
    → ((q a : ℕ) → a < s.now → After a (s.lanes q) → After a (u.lanes q)) → ((q : ℕ) → (s.lanes q).ring ≢ [] → (u.lanes q).ring ≢ [])
    → ((q : ℕ) → LaneOk s.K s.counter s.now s.took (s.lanes q) (view g q)) → ProgressOk s g → ProgressOk u g
progress_later s u rest n b t k i f r p o = tt
progress_later s u (scan x) n b t k i f r p (o, d, w) = (omega arith, omega arith, λ q y. rw b (f q s.began d (w q y)))
progress_later s u (scan_kept x b' m) n b t k i f r p (o, d, w) =
    let mb = kept_below _ _ _ _ _ m (here (LaneOk s.K s.counter s.now s.took) s.lanes b' (kept m) p) in
    (omega arith, d, λ q y z. rw (k m mb) (f q (s.took m) (i m mb) (w q y z)))
progress_later s u (again j b' r' m) n b t k i f r p (o, d, e, w) =
    let mb = kept_below _ _ _ _ _ m (here (LaneOk s.K s.counter s.now s.took) s.lanes r' (kept m) p) in
    (o, omega arith, e, λ q y z. rw (k m mb) (f q (s.took m) (i m mb) (w q (omega arith) z)))
progress_later s u (fetch r' m) n b t k i f r p (o, w) =
    let mb = kept_below _ _ _ _ _ m (here (LaneOk s.K s.counter s.now s.took) s.lanes r' (kept m) p) in
    (omega arith, λ q y. rw (k m mb) (f q (s.took m) (i m mb) (w q (omega arith))))
progress_later s u (frees r' m) n b t k i f r p (o, w) =
    let mb = kept_below _ _ _ _ _ m (here (LaneOk s.K s.counter s.now s.took) s.lanes r' (kept m) p) in
    (omega arith, λ q y. rw (k m mb) (f q (s.took m) (i m mb) (w q (omega arith))))
progress_later s u (looking r' j m) n b t k i f r p o = omega arith
progress_later s u (tailing r' j m v) n b t k i f r p o = omega arith
progress_later s u (fronting r' j m v) n b t k i f r p (o, w) = (omega arith, r r' w)
progress_later s u (swapping r' j m v w) n b t k i f r p o = omega arith

pushed_not_empty : (xs : List ℕ) (x : ℕ) → (xs ++ x ∷ [] ≡ []) → ⊥
pushed_not_empty xs x e = let z : length (xs ++ x ∷ []) ≡ 0 = ap length e in omega (arith, length-append xs (x ∷ []))

-- a frame that waits goes on to wait, as its lane moves
ring_stays : (K counter now : ℕ) (l : LaneModel) (g : Stage) → l.ring ≢ [] → (grant K now l g).ring ≢ []
ring_stays K counter now l g n = λ e. grind (arith, pushed_not_empty)

module _ (s : LineModel) (h : ModelOk s) (r : ℕ) where
  old : LaneOk s.K s.counter s.now s.took (s.lanes r) (view s.col r)
  old = h.posts r

  -- a lane changed, by its own move
  lane_moves : (l : LaneModel) → LaneOk s.K s.counter (suc s.now) s.took l (view s.col r)
      → ((a : ℕ) → a < s.now → After a (s.lanes r) → After a l) → ((s.lanes r).ring ≢ [] → l.ring ≢ [])
      → ModelOk (moved s (upd s.lanes r l) s.col)
  lane_moves l k f n =
      let u = moved s (upd s.lanes r l) s.col in
      record {
        posts = upd_all (λ q x. LaneOk s.K s.counter (suc s.now) s.took x (view s.col q)) s.lanes r l k (λ q _. tick s h _ _ (h.posts q));
        ticks = λ x e. omega (arith, h.ticks x e);
        climbs = h.climbs;
        top = h.top;
        cols =
            progress_later s u s.col refl refl (omega arith) (λ x e. refl) h.ticks
            (λ q a b. upd_all (λ q x. After a (s.lanes q) → After a x) s.lanes r l (f a b) (λ q _ z. z) q)
            (λ q. upd_all (λ q x. (s.lanes q).ring ≢ [] → x.ring ≢ []) s.lanes r l n (λ q _ z. z) q)
            h.posts h.cols;
      }

  lane_grant : (g : Stage) → (s.lanes r).stage ≡ g → g ≢ TakeStamp → ModelOk (moves s r g)
  lane_grant g e n =
      let a : StageOk s.K s.counter (whole (s.lanes r).ring (view s.col r)) (length (s.lanes r).ring) (s.lanes r).tails (s.lanes r).cell g = rw e at old.stage in
      let b : SlotOk (s.lanes r).ring (s.lanes r).slot (duty (s.lanes r).cell g) (view s.col r) = rw e at old.slots in
      lane_moves (grant s.K s.now (s.lanes r) g)
      (lane_granted s.K s.counter s.now s.took h.ticks h.top (s.lanes r) (view s.col r) old g a b (rw e at old.timed) n)
      (λ t p k. after_grant s.K s.counter s.now s.took (s.lanes r) (view s.col r) t p g a e (rw e at k))
      (ring_stays s.K s.counter s.now (s.lanes r) g)

  -- a change of the stage alone
  same_waits : (P : ℕ → Type 0) (f g : Stage) → (s.lanes r).stage ≡ f → ((f ≡ TakeStamp) × (g ≡ AtRest)) ⊎ ((f ≡ AtRest) × (g ≡ TestSpace)) → AllByRecursion P (waits (s.lanes r).ring (s.lanes r).stage) → AllByRecursion P (waits (s.lanes r).ring g)
  same_waits P f g e d k = elim d [ inl x ↦ rw x.1 (rw (e, x.0) at k) | inr x ↦ rw x.1 (rw (e, x.0) at k) ]

  lane_goes : (f g : Stage) → (s.lanes r).stage ≡ f → ((f ≡ TakeStamp) × (g ≡ AtRest)) ⊎ ((f ≡ AtRest) × (g ≡ TestSpace)) → ModelOk (moved s (upd s.lanes r (goes (s.lanes r) g)) s.col)
  lane_goes f g e d =
      lane_moves (goes (s.lanes r) g)
      (one-lane-goes s.K s.counter s.now s.took h.ticks h.top (s.lanes r) (view s.col r) g old (elim d [ inl x ↦ rw x.1 tt | inr x ↦ rw x.1 tt ])
      (elim d [ inl x ↦ rw x.1 (rw (e, x.0) at old.slots) | inr x ↦ rw x.1 (rw (e, x.0) at old.slots) ])
      (same_waits (λ x. (s.took x < (s.lanes r).ended x) × ((s.lanes r).ended x < s.now)) f g e d old.timed))
      (λ a b k. same_waits (λ x. a < (s.lanes r).ended x) f g e d k) (λ n. n)

  lane_takes : (s.lanes r).stage ≡ TakeStamp → s.counter < stamp_limit → ModelOk (taken s r)
  lane_takes e t =
      let l = goes (s.lanes r) (FillCell s.counter) in
      let k = stamp_taken s.K s.counter s.now s.took h.ticks h.top (s.lanes r) (view s.col r) old e t in
      let same : (x : ℕ) → x < s.counter → upd s.took s.counter s.now x ≡ s.took x = λ x q. grind (arith, nat_tests) in
      record {
        posts = upd_all (λ q x. LaneOk s.K (suc s.counter) (suc s.now) (upd s.took s.counter s.now) x (view s.col q)) s.lanes r l k
            (λ q _. lane_later s.K s.counter (suc s.counter) s.now (suc s.now) s.took (upd s.took s.counter s.now) _ _ (omega arith) (omega arith) same (h.posts q));
        ticks = λ x q. grind (arith, nat_tests, h.ticks x);
        climbs = λ x y p q. grind (arith, nat_tests, h.climbs x y, h.ticks x);
        top = t;
        cols =
            progress_later s (taken s r) s.col refl refl (omega arith) same h.ticks
            (λ q a b. upd_all (λ q x. After a (s.lanes q) → After a x) s.lanes r l (λ z. rw e at z) (λ q _ z. z) q)
            (λ q. upd_all (λ q x. (s.lanes q).ring ≢ [] → x.ring ≢ []) s.lanes r l (λ z. z) (λ q _ z. z) q)
            h.posts h.cols;
      }

  pub lane_granted_model : (g : Stage) → (s.lanes r).stage ≡ g → ModelOk (grant_lane s r g)
  lane_granted_model AtRest e = lane_grant AtRest e (λ x. grind arith)
  lane_granted_model TestSpace e = lane_grant TestSpace e (λ x. grind arith)
  lane_granted_model TakeStamp e = cond_both (ltb s.counter stamp_limit) _ _ ModelOk (λ y. lane_takes e (ltb-true _ _ y)) (λ y. lane_goes TakeStamp AtRest e (inl (refl, refl)))
  lane_granted_model (FillCell x) e = lane_grant (FillCell x) e (λ x. grind arith)
  lane_granted_model (MarkCell x) e = lane_grant (MarkCell x) e (λ x. grind arith)
  lane_granted_model (Publish x) e = lane_grant (Publish x) e (λ x. grind arith)
  lane_granted_model (Look k x) e = lane_grant (Look k x) e (λ x. grind arith)
  lane_granted_model (LoadHead k x v) e = lane_grant (LoadHead k x v) e (λ x. grind arith)
  lane_granted_model (LoadFront k x v q) e = lane_grant (LoadFront k x v q) e (λ x. grind arith)
  lane_granted_model (SwapSlot k x v) e = lane_grant (SwapSlot k x v) e (λ x. grind arith)

  pub post_begins : (s.lanes r).stage ≡ AtRest → ModelOk (begun_post s r)
  post_begins e = lane_goes AtRest TestSpace e (inr (refl, refl))

-- a call that leaves the line alone: only the clock goes on
pub model_tick : (s : LineModel) → ModelOk s → ModelOk (moved s s.lanes s.col)
model_tick s h =
    record {
      posts = λ q. tick s h _ _ (h.posts q);
      ticks = λ x e. omega (arith, h.ticks x e);
      climbs = h.climbs;
      top = h.top;
      cols = progress_later s (moved s s.lanes s.col) s.col refl refl (omega arith) (λ x e. refl) h.ticks (λ q a b z. z) (λ q z. z) h.posts h.cols;
    }

pub collect_begins : (s : LineModel) → ModelOk s → s.col ≡ rest → 0 < s.n → ModelOk (begun_collect s)
collect_begins s h e p =
    record {
      posts = λ q. tick s h _ _ (rw e at (h.posts q));
      ticks = λ x y. omega (arith, h.ticks x y);
      climbs = h.climbs;
      top = h.top;
      cols = (p, omega arith, λ q y. absurd (omega arith));
    }
