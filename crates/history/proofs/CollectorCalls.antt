-- The collector's grants, by the line's definitions: each leaves an event that met its guard, and the line as it should be.
use Rattle.std.proofs.Common.{◌≡◌, ℕ, suc, ◌+◌, ◌*◌, ◌%◌, ◌<◌, ◌≤◌, Bool, true, false, cond, eqb, ltb, ◌≢◌, List, [], ◌∷◌, get_or, set, sym, refl, ap, ◌∙◌, subst, inl, inr, mod-eq_of_lt, arith}
use mathlib.Core.Option.{Option, some}
use Rattle.std.specs.List.{AllByRecursion}
use Rattle.std.proofs.lemmas.List.{get_or-set_other, get_or-set_same, length-set}
use Rattle.std.proofs.lemmas.Bool.{eq-eqb, eqb-false, eqb-true, le-ltb, lt-ltb, ltb-false, ltb-true, cases_eq, false≢true, ne_eqb}
use Rattle.boards.specs.Words.{empty_word, loaded}
use Rattle.line.specs.declared.access.Address.TheVariants.{Slot, Head, Tail, CellStamp}
use Rattle.line.specs.declared.access.Place.{Place}
use Rattle.line.specs.declared.access.Place.TheVariants.{Hand, CollectorsHand, Cell}
use Rattle.line.specs.declared.access.Shape.{Shape}
use Rattle.line.specs.declared.collector.CollectNext.{CollectNext}
use Rattle.line.specs.declared.collector.CollectNext.TheVariants.{Goes, EndsEmpty, EndsDelivered}
use Rattle.line.specs.declared.collector.CollectStage.{CollectStage}
use Rattle.line.specs.declared.collector.CollectStage.TheVariants.{Idle, ScanFirst, ScanSecond, Fetch, Free, SeeSlot, SeeTail, SeeFront, RefreshSlot, Ended}
use Rattle.line.specs.declared.collector.Collected.TheVariants.{Empty, Delivered}
use Rattle.line.specs.declared.collector.Kept.{Kept}
use Rattle.line.specs.declared.crew.Core.{Core}
use Rattle.line.specs.declared.lane.Attempt.{Attempt}
use Rattle.line.specs.declared.lane.Attempt.TheVariants.{First, Second}
use Rattle.line.specs.Answers.{collector_told}
use Rattle.line.specs.Collect.{after_first, after_second, better, collect_answer_at, collector, collector_access, collector_at, collector_next, delivered_after, head_of, heads_after, kept as keeping, under_way}
use Rattle.line.specs.Crew.{with_collector}
use Rattle.line.specs.Laws.{IsPlace}
use Rattle.line.specs.Map.{tray_of, word_of}
use Rattle.line.specs.Perform.{copied, trays_after, word_read, words_after}
use Rattle.line.specs.Post.{one_more}
use Rattle.line.proofs.Places.{tray_below}
use Rattle.order.specs.Accounts.{number_delivered}
use Rattle.order.specs.Events.{Event}
use Rattle.order.specs.Events.CollectEnd.{as_delivered, as_empty}
use Rattle.order.specs.Events.Event.{ended_collect, freed, stepped_collector}
use Rattle.order.specs.Logs.{Log, log_step}
use Rattle.order.specs.Books.{Book, book_step}
use Rattle.order.specs.Tables.{upd}
use Rattle.order.proofs.Lists.{upd_other, upd_same}
use Rattle.history.specs.Limits.{as_total, most_collect_grants}
use Rattle.history.specs.Happening.{collector_event, freed_with, in_hand}
use Rattle.history.specs.Performing.{State, state_of}
use Rattle.history.proofs.Slot.{wanted}
use Rattle.history.proofs.Slot.View.{away, kept}
use Rattle.history.proofs.Lanes.{LaneModel, LaneOk}
use Rattle.history.proofs.Model.{LineModel, ModelOk, Progress, ProgressOk, collect, freeing, moved, next_again, next_kept, next_none, slotting, view}
use Rattle.history.proofs.Model.Progress.{rest, scan, scan_kept, again, fetch, frees, looking, tailing, fronting, swapping}
use Rattle.history.proofs.Goods.{CollectTie, Goods, Holding, Looking}
use Rattle.history.proofs.LaneSteps.{heads_below, tails_below}
use Rattle.history.proofs.LaneTies.{Step, with_fetched}
use Rattle.history.proofs.CollectTies.{ends_delivered, ends_empty, ends_slotting, fetches, frees_it, goes_on}
use Rattle.history.proofs.Ledger.{Few, Ledger, ledger_ended_collect, ledger_freed, ledger_stepped_collector, few_tries, total_more, total_same}
use Rattle.history.proofs.Mirror.{Mirror, copied_is, field_here, lane_memory, memory, mirror_collector, progress_of, same_memory, slot_swaps, some_lies, stock, trays_written, upd_when, words_written}
use Rattle.history.proofs.ModelSteps.{collector_granted_model, kept_below, tick}
use Rattle.history.proofs.Scans.{loaded_none}
use Rattle.history.proofs.Views.{here}
use Rattle.history.proofs.Safe.{Leaves, Safe, leaves}

module _ {P : Type 0} (n K : ℕ) (S : State P) (g : Log P) (k : Book P) (v : Safe n K S g k) where
  abbrev c : Core
  c = S.crew

  abbrev sh : Shape
  sh = S.crew.shape

  abbrev s : LineModel
  s = v.model

  abbrev G : Goods P
  G = v.goods

  m : Mirror S s G
  m = v.mirror

  abbrev grants : ℕ
  grants = one_more S.crew.collector.grants

  -- the outcome of a grant at a stage, by what comes next
  abbrev Result : CollectStage → CollectNext → List ℕ → List P → Type 0
  Result at nx ws ps =
      Leaves n K g k (collector_event (in_hand S) at (collector_told (collect_answer_at grants nx)))
      (state_of ws ps (with_collector c (heads_after sh c.heads at) (collector_at grants nx) (delivered_after c.delivered nx)))

  abbrev Granted : CollectStage → Type 0
  Granted at =
      Result at (collector_next sh c.heads at (word_read sh (collector_access sh c.heads at) S.words))
      (words_after sh (collector_access sh c.heads at) S.words) (trays_after sh (collector_access sh c.heads at) S.trays)

  model_on : (q : Progress) → s.col ≡ q → ModelOk (collect s q)
  model_on q e = collector_granted_model s v.ok q (λ i. tick s v.ok (s.lanes i) (view q i) (rw e at (v.ok.posts i))) (rw e at v.ok.cols) v.ok

  -- words, trays and head copies stay
  loads : (e : Event P) (q : Progress) (at : CollectStage) (x delivered : ℕ) → progress_of at ≡ q → ModelOk (moved s s.lanes q) → Step (moved s s.lanes q) G k e
      → Ledger (moved s s.lanes q) c.posted delivered (log_step g e) (book_step k e) → Leaves n K g k e (state_of S.words S.trays (with_collector c c.heads (collector at x) delivered))
  loads e q at x delivered col o st lg =
      leaves n K g k (state_of S.words S.trays (with_collector c c.heads (collector at x) delivered)) e (moved s s.lanes q) G v.n_is v.KIs
      (mirror_collector S s G m S.words S.trays c.heads (collector at x) delivered (moved s s.lanes q) G refl refl col refl refl m.heads_long
      (λ b ib. m.words b ib ∙ same_memory s (moved s s.lanes q) refl refl b) m.goods (λ i b. (refl, refl)) m.heads) o st lg

  -- how the grants go on
  abbrev GoesOn : Progress → Type 0
  GoesOn q = (x : ℕ) → Few s.n x s.col → Few s.n (suc x) q × (suc x < most_collect_grants s.n)

  moves_on : (q : Progress) (at : CollectStage) → progress_of at ≡ q → ModelOk (moved s s.lanes q) → CollectTie s.began G.fetched G.load q k.collect → GoesOn q
      → Leaves n K g k stepped_collector (state_of S.words S.trays (with_collector c c.heads (collector at grants) c.delivered))
  moves_on q at col o t few =
      loads stepped_collector q at grants c.delivered col o (goes_on s v.ok G k v.tied q t)
      (ledger_stepped_collector s c.posted c.delivered g k v.ledger (moved s s.lanes q) refl refl (λ i. refl) few)

  same_delivered : c.delivered ≡ as_total (0 + number_delivered g.ended)
  same_delivered = v.ledger.delivered_is ∙ total_same (number_delivered g.ended)

  more_delivered : one_more c.delivered ≡ as_total (1 + number_delivered g.ended)
  more_delivered = ap one_more v.ledger.delivered_is ∙ total_more (number_delivered g.ended)

  in_shape : (r : ℕ) → r < s.n → r < sh.lanes
  in_shape r h = omega (arith, m.lanes)

  slot_word : (r : ℕ) → r < s.n → loaded S.words (word_of sh (Slot r)) ≡ (s.lanes r).slot
  slot_word r h = m.words (Slot r) (in_shape r h)

  head_below : (r : ℕ) → (s.lanes r).heads < s.K
  head_below r = heads_below s.K s.counter s.now s.took (s.lanes r) (view s.col r) (v.ok.posts r)

  few_at : (q : Progress) → s.col ≡ q → (x : ℕ) → Few s.n x s.col → Few s.n x q
  few_at q e x f = subst (λ (q : Progress). Few s.n x q) e f

  -- the scans: what comes after a slot, with a lane kept
  module _ (i : ℕ) (low : i < s.n) where
    more : i + 1 ≡ suc i
    more = omega arith

    after_kept : (was best : Kept) → Looking s.began k.collect → best.stamp ≢ empty_word → ((x : ℕ) → Few s.n x s.col → x ≤ i)
        → ModelOk (moved s s.lanes (next_kept s.n (suc i) best.lane best.stamp)) → Result (ScanFirst i was) (after_first s.n i best) S.words S.trays
    after_kept was best lk isnt few o = by_end (ltb (i + 1) s.n) refl o
      where
        found : eqb best.stamp empty_word ≡ false
        found = ne_eqb best.stamp empty_word isnt

        by_lane_zero : (b : Bool) → eqb 0 best.lane ≡ b → suc i ≡ s.n → ModelOk (moved s s.lanes (cond b (fetch best.lane best.stamp) (again 0 best.lane best.lane best.stamp)))
            → Result (ScanFirst i was) (cond (eqb best.lane 0) (Goes (Fetch best)) (Goes (ScanSecond 0 best.lane best))) S.words S.trays
        by_lane_zero true e last o =
            subst (λ (b : Bool). Result (ScanFirst i was) (cond b (Goes (Fetch best)) (Goes (ScanSecond 0 best.lane best))) S.words S.trays) (sym (eq-eqb best.lane 0 (sym (eqb-true 0 best.lane e))))
            (moves_on (fetch best.lane best.stamp) (Fetch best) refl o lk (λ x f. (omega (arith, few x f, m.some_lane), omega (arith, few x f))))
        by_lane_zero false e last o =
            subst (λ (b : Bool). Result (ScanFirst i was) (cond b (Goes (Fetch best)) (Goes (ScanSecond 0 best.lane best))) S.words S.trays) (sym (ne_eqb best.lane 0 (λ z. eqb-false 0 best.lane e (sym z))))
            (moves_on (again 0 best.lane best.lane best.stamp) (ScanSecond 0 best.lane best) refl o lk (λ x f. (omega (arith, few x f), omega (arith, few x f))))

        by_end : (b : Bool) → ltb (i + 1) s.n ≡ b → ModelOk (moved s s.lanes (next_kept s.n (suc i) best.lane best.stamp))
            → Result (ScanFirst i was) (cond b (Goes (ScanFirst (i + 1) best)) (cond (eqb best.stamp empty_word) EndsEmpty (cond (eqb best.lane 0) (Goes (Fetch best)) (Goes (ScanSecond 0 best.lane best))))) S.words S.trays
        by_end true e o =
            let lt = ltb-true (i + 1) s.n e in
            let o' : ModelOk (moved s s.lanes (scan_kept (suc i) best.lane best.stamp)) = rw (ne_eqb (suc i) s.n (omega arith)) at o in
            moves_on (scan_kept (suc i) best.lane best.stamp) (ScanFirst (i + 1) best)
            (ap (λ (b : Bool). cond b (scan (i + 1)) (scan_kept (i + 1) best.lane best.stamp)) found ∙ ap (λ (j : ℕ). scan_kept j best.lane best.stamp) more) o' lk
            (λ x f. (omega (arith, few x f), omega (arith, few x f)))
        by_end false e o =
            let ge = ltb-false (i + 1) s.n e in
            let o' : ModelOk (moved s s.lanes (next_again 0 best.lane best.lane best.stamp)) = rw (eq-eqb (suc i) s.n (omega arith)) at o in
            subst (λ (b : Bool). Result (ScanFirst i was) (cond b EndsEmpty (cond (eqb best.lane 0) (Goes (Fetch best)) (Goes (ScanSecond 0 best.lane best)))) S.words S.trays) (sym found)
            (by_lane_zero (eqb 0 best.lane) refl (omega arith) o')

    -- the slot is empty, or holds a stamp
    slot_low : (l : LaneModel) → LaneOk s.K s.counter s.now s.took l away → l.slot ≢ empty_word → l.slot < empty_word
    slot_low l o z = elim o.slots.view [ inl f ↦ go l.ring o.below f | inr w ↦ absurd (z w.0) ]
      where
        go : (R : List ℕ) → AllByRecursion (λ x. x < s.counter) R → l.slot ≡ wanted R → l.slot < empty_word
        go [] b f = absurd (z f)
        go (x ∷ R) (b, _) f = omega (arith, v.ok.top)

    -- nothing kept so far
    none_kept : (was : Kept) → was.stamp ≡ empty_word → s.col ≡ scan i → Result (ScanFirst i was) (after_first s.n i (better i (s.lanes i).slot was)) S.words S.trays
    none_kept was we e =
        elim (cases_eq (s.lanes i).slot empty_word) [
          | inl z ↦
              subst (λ (b : Bool). Result (ScanFirst i was) (after_first s.n i (cond b (keeping i (s.lanes i).slot) was)) S.words S.trays) (sym (le-ltb (s.lanes i).slot was.stamp (omega arith)))
              (still_none (rw (eq-eqb (s.lanes i).slot empty_word z) at (model_on (scan i) e)) z)
          | inr z ↦
              subst (λ (b : Bool). Result (ScanFirst i was) (after_first s.n i (cond b (keeping i (s.lanes i).slot) was)) S.words S.trays) (sym (lt-ltb (s.lanes i).slot was.stamp (rw we (slot_low (s.lanes i) at_slot z))))
              (after_kept was (keeping i (s.lanes i).slot) lk z (few_at (scan i) e) (rw (ne_eqb (s.lanes i).slot empty_word z) at (model_on (scan i) e)))
        ]
      where
        lk : Looking s.began k.collect
        lk = rw e at v.tied.collect

        at_slot : LaneOk s.K s.counter s.now s.took (s.lanes i) away
        at_slot = rw e at (v.ok.posts i)

        found : eqb was.stamp empty_word ≡ true
        found = eq-eqb was.stamp empty_word we

        still_none : ModelOk (moved s s.lanes (next_none s.n (suc i))) → (s.lanes i).slot ≡ empty_word → Result (ScanFirst i was) (after_first s.n i was) S.words S.trays
        still_none o z = by_end (ltb (i + 1) s.n) refl
          where
            by_end : (b : Bool) → ltb (i + 1) s.n ≡ b
                → Result (ScanFirst i was) (cond b (Goes (ScanFirst (i + 1) was)) (cond (eqb was.stamp empty_word) EndsEmpty (cond (eqb was.lane 0) (Goes (Fetch was)) (Goes (ScanSecond 0 was.lane was))))) S.words S.trays
            by_end true y =
                let lt = ltb-true (i + 1) s.n y in
                let o' : ModelOk (moved s s.lanes (scan (suc i))) = rw (ne_eqb (suc i) s.n (omega arith)) at o in
                moves_on (scan (suc i)) (ScanFirst (i + 1) was)
                (ap (λ (b : Bool). cond b (scan (i + 1)) (scan_kept (i + 1) was.lane was.stamp)) found ∙ ap scan more) o' lk
                (λ x f. let f' : x ≤ i = few_at (scan i) e x f in (omega arith, omega arith))
            by_end false y =
                let ge = ltb-false (i + 1) s.n y in
                let o' : ModelOk (moved s s.lanes rest) = rw (eq-eqb (suc i) s.n (omega arith)) at o in
                let (_, _, seen) : ProgressOk s (scan i) = rw e at v.ok.cols in
                let st = ends_empty s v.ok G k v.tied lk (λ q b. elim (cases_eq q i) [
                  | inl u ↦ rw u (loaded_none s.K s.counter s.now s.took (s.lanes i) at_slot v.ok.top s.began z)
                  | inr u ↦ seen q (omega arith)
                ]) in
                subst (λ (b : Bool). Result (ScanFirst i was) (cond b EndsEmpty (cond (eqb was.lane 0) (Goes (Fetch was)) (Goes (ScanSecond 0 was.lane was)))) S.words S.trays) (sym found)
                (loads (ended_collect as_empty) rest (Ended (Empty grants)) 0 c.delivered refl o' st
                (ledger_ended_collect s c.posted c.delivered g k v.ledger (moved s s.lanes rest) refl refl (λ q. refl) as_empty c.delivered st.admits same_delivered))

    -- a lane kept so far
    some_kept : (was : Kept) → was.stamp ≢ empty_word → s.col ≡ scan_kept i was.lane was.stamp → Result (ScanFirst i was) (after_first s.n i (better i (s.lanes i).slot was)) S.words S.trays
    some_kept was wn e = both (ltb (s.lanes i).slot was.stamp) refl (model_on (scan_kept i was.lane was.stamp) e)
      where
        lk : Looking s.began k.collect
        lk = rw e at v.tied.collect

        low_kept : was.stamp < s.counter
        low_kept = kept_below s.K s.counter s.now s.took (s.lanes was.lane) was.stamp (here (LaneOk s.K s.counter s.now s.took) s.lanes was.lane (kept was.stamp) (rw e at v.ok.posts))

        both : (b : Bool) → ltb (s.lanes i).slot was.stamp ≡ b
            → ModelOk (cond b (moved s s.lanes (next_kept s.n (suc i) i (s.lanes i).slot)) (moved s s.lanes (next_kept s.n (suc i) was.lane was.stamp)))
            → Result (ScanFirst i was) (after_first s.n i (cond b (keeping i (s.lanes i).slot) was)) S.words S.trays
        both true y o = after_kept was (keeping i (s.lanes i).slot) lk (omega (arith, ltb-true (s.lanes i).slot was.stamp y, low_kept, v.ok.top)) (few_at (scan_kept i was.lane was.stamp) e) o
        both false y o = after_kept was was lk wn (few_at (scan_kept i was.lane was.stamp) e) o

  at_scan_first : (i : ℕ) (was : Kept) → s.col ≡ progress_of (ScanFirst i was) → Granted (ScanFirst i was)
  at_scan_first i was e = both (eqb was.stamp empty_word) refl e
    where
      fits : (low : i < s.n) → Result (ScanFirst i was) (after_first s.n i (better i (s.lanes i).slot was)) S.words S.trays → Granted (ScanFirst i was)
      fits low x =
          subst (λ (w : ℕ). Result (ScanFirst i was) (after_first sh.lanes i (better i w was)) S.words S.trays) (sym (slot_word i low))
          (subst (λ (N : ℕ). Result (ScanFirst i was) (after_first N i (better i (s.lanes i).slot was)) S.words S.trays) (sym m.lanes) x)

      both : (b : Bool) → eqb was.stamp empty_word ≡ b → s.col ≡ cond b (scan i) (scan_kept i was.lane was.stamp) → Granted (ScanFirst i was)
      both true y e =
          let (low, _, _) : ProgressOk s (scan i) = rw e at v.ok.cols in
          fits low (none_kept i low was (eqb-true was.stamp empty_word y) e)
      both false y e =
          let (low, _, _) : ProgressOk s (scan_kept i was.lane was.stamp) = rw e at v.ok.cols in
          fits low (some_kept i low was (eqb-false was.stamp empty_word y) e)

  -- the second scan
  after_again : (i bound : ℕ) (was best : Kept) → Looking s.began k.collect → i < bound → bound < s.n → ((x : ℕ) → Few s.n x s.col → x ≤ s.n + i)
      → ModelOk (moved s s.lanes (next_again (suc i) bound best.lane best.stamp)) → Result (ScanSecond i bound was) (after_second bound i best) S.words S.trays
  after_again i bound was best lk lb bn few o = by_end (ltb (i + 1) bound) refl
    where
      more_by_one : i + 1 ≡ suc i
      more_by_one = omega arith

      by_end : (b : Bool) → ltb (i + 1) bound ≡ b → Result (ScanSecond i bound was) (cond b (Goes (ScanSecond (i + 1) bound best)) (Goes (Fetch best))) S.words S.trays
      by_end true y =
          let lt = ltb-true (i + 1) bound y in
          let o' : ModelOk (moved s s.lanes (again (suc i) bound best.lane best.stamp)) = rw (ne_eqb (suc i) bound (omega arith)) at o in
          moves_on (again (suc i) bound best.lane best.stamp) (ScanSecond (i + 1) bound best) (ap (λ (j : ℕ). again j bound best.lane best.stamp) more_by_one) o' lk
          (λ x f. (omega (arith, few x f), omega (arith, few x f)))
      by_end false y =
          let ge = ltb-false (i + 1) bound y in
          let o' : ModelOk (moved s s.lanes (fetch best.lane best.stamp)) = rw (eq-eqb (suc i) bound (omega arith)) at o in
          moves_on (fetch best.lane best.stamp) (Fetch best) refl o' lk (λ x f. (omega (arith, few x f), omega (arith, few x f)))

  at_scan_second : (i bound : ℕ) (was : Kept) → s.col ≡ again i bound was.lane was.stamp → Granted (ScanSecond i bound was)
  at_scan_second i bound was e =
      let (lb, bn, _, _) : ProgressOk s (again i bound was.lane was.stamp) = rw e at v.ok.cols in
      subst (λ (w : ℕ). Result (ScanSecond i bound was) (after_second bound i (better i w was)) S.words S.trays) (sym (slot_word i (omega arith)))
      (both lb bn (ltb (s.lanes i).slot was.stamp) (model_on (again i bound was.lane was.stamp) e))
    where
      lk : Looking s.began k.collect
      lk = rw e at v.tied.collect

      both : i < bound → bound < s.n → (b : Bool)
          → ModelOk (cond b (moved s s.lanes (next_again (suc i) bound i (s.lanes i).slot)) (moved s s.lanes (next_again (suc i) bound was.lane was.stamp)))
          → Result (ScanSecond i bound was) (after_second bound i (cond b (keeping i (s.lanes i).slot) was)) S.words S.trays
      both lb bn true o = after_again i bound was (keeping i (s.lanes i).slot) lk lb bn (few_at (again i bound was.lane was.stamp) e) o
      both lb bn false o = after_again i bound was was lk lb bn (few_at (again i bound was.lane was.stamp) e) o

  -- fetching and freeing the kept lane's first frame
  at_fetch : (best : Kept) → s.col ≡ fetch best.lane best.stamp → Granted (Fetch best)
  at_fetch best e =
      let r = best.lane in
      let (low, _) : ProgressOk s (fetch best.lane best.stamp) = rw e at v.ok.cols in
      let o : LaneOk s.K s.counter s.now s.took (s.lanes best.lane) (kept best.stamp) = here (LaneOk s.K s.counter s.now s.took) s.lanes best.lane (kept best.stamp) (rw e at v.ok.posts) in
      let st = fetches s v.ok G k v.tied best.lane best.stamp low o (rw e at v.tied.collect) in
      let cell_in : IsPlace sh (Cell best.lane (s.lanes best.lane).heads) = (in_shape best.lane low, omega (arith, head_below best.lane, m.cells)) in
      let (y, ly, is) = copied_is S.trays (tray_of sh (Cell best.lane (s.lanes best.lane).heads)) (tray_of sh CollectorsHand) (omega (arith, tray_below sh (Cell best.lane (s.lanes best.lane).heads) cell_in, m.room)) in
      let hy : G.tray best.lane (s.lanes best.lane).heads ≡ some y = sym (m.goods (Cell best.lane (s.lanes best.lane).heads) cell_in) ∙ ly in
      let G' = with_fetched G (G.tray best.lane (s.lanes best.lane).heads) in
      let s' = moved s s.lanes (frees best.lane best.stamp) in
      let ps = set S.trays (tray_of sh CollectorsHand) y in
      subst (λ (i : ℕ). Result (Fetch best) (Goes (Free best)) S.words (copied S.trays (tray_of sh (Cell best.lane i)) (tray_of sh CollectorsHand))) (sym (m.heads best.lane low))
      (subst (λ (ps : List P). Result (Fetch best) (Goes (Free best)) S.words ps) (sym is)
      (leaves n K g k (state_of S.words ps (with_collector c c.heads (collector (Free best) grants) c.delivered)) stepped_collector s' G' v.n_is v.KIs
      (mirror_collector S s G m S.words ps c.heads (collector (Free best) grants) c.delivered s' G' refl refl refl refl (length-set S.trays (tray_of sh CollectorsHand) y) m.heads_long
      (λ b ib. m.words b ib ∙ same_memory s s' refl refl b)
      (trays_written sh S.trays m.room CollectorsHand y (stock G) (stock G') tt hy (others (G.tray best.lane (s.lanes best.lane).heads)) m.goods)
      (λ i b. (refl, refl)) m.heads)
      (model_on (fetch best.lane best.stamp) e) st
      (ledger_stepped_collector s c.posted c.delivered g k v.ledger s' refl refl (λ i. refl)
      (λ x f. let f' : suc x ≤ 2 * s.n = few_at (fetch best.lane best.stamp) e x f in (omega arith, omega arith)))))
    where
      others : (x : Option P) (b : Place) → b ≢ CollectorsHand → stock (with_fetched G x) b ≡ stock G b
      others x (Hand q) z = refl
      others x CollectorsHand z = absurd (z refl)
      others x (Cell q i) z = refl

  at_free : (best : Kept) → s.col ≡ frees best.lane best.stamp → Granted (Free best)
  at_free best e =
      let (low, late) : ProgressOk s (frees best.lane best.stamp) = rw e at v.ok.cols in
      let o : LaneOk s.K s.counter s.now s.took (s.lanes best.lane) (kept best.stamp) = here (LaneOk s.K s.counter s.now s.took) s.lanes best.lane (kept best.stamp) (rw e at v.ok.posts) in
      let (lk, loaded) : Looking s.began k.collect × (G.fetched ≡ G.load best.stamp) = rw e at v.tied.collect in
      let (y, ly, xs, dr) = some_lies S.trays (tray_of sh CollectorsHand) (omega (arith, tray_below sh CollectorsHand tt, m.room)) in
      let held : G.fetched ≡ some y = sym (m.goods CollectorsHand tt) ∙ ly in
      let st = frees_it s v.ok G k v.tied best.lane best.stamp low o y held loaded late lk in
      subst (λ (hand : List P). Leaves n K g k (freed_with best hand) (after (next_head best))) (sym dr)
      (frees_as best y low e (model_on (frees best.lane best.stamp) e) st)
    where
      next_head : Kept → ℕ
      next_head best = (head_of c.heads best.lane + 1) % sh.cells

      after : ℕ → State P
      after h = state_of (set S.words (word_of sh (Head best.lane)) h) S.trays (with_collector c (set c.heads best.lane h) (collector (SeeSlot First best) grants) c.delivered)

      frees_as : (best : Kept) (y : P) → best.lane < s.n → s.col ≡ frees best.lane best.stamp
          → (let s' = moved s (upd s.lanes best.lane (freeing s.K (s.lanes best.lane))) (looking best.lane First best.stamp) in
          ModelOk s' → Step s' G k (freed best.lane best.stamp y)
          → Leaves n K g k (freed best.lane best.stamp y) (state_of (set S.words (word_of sh (Head best.lane)) (next_head best)) S.trays (with_collector c (set c.heads best.lane (next_head best)) (collector (SeeSlot First best) grants) c.delivered)))
      frees_as best y low e o st =
          let r = best.lane in
          let l' = freeing s.K (s.lanes best.lane) in
          let s' = moved s (upd s.lanes best.lane l') (looking best.lane First best.stamp) in
          let h = next_head best in
          let h_is : h ≡ l'.heads = cc (m.heads best.lane low, m.cells) in
          leaves n K g k (state_of (set S.words (word_of sh (Head best.lane)) h) S.trays (with_collector c (set c.heads best.lane h) (collector (SeeSlot First best) grants) c.delivered))
          (freed best.lane best.stamp y) s' G v.n_is v.KIs
          (mirror_collector S s G m (set S.words (word_of sh (Head best.lane)) h) S.trays (set c.heads best.lane h) (collector (SeeSlot First best) grants) c.delivered s' G refl refl refl
          (length-set S.words (word_of sh (Head best.lane)) h) refl (length-set c.heads best.lane h ∙ m.heads_long)
          (words_written sh S.words m.board (Head best.lane) h (memory s) (memory s') (in_shape best.lane low)
          (ap (λ (z : LaneModel). z.heads) (upd_same s.lanes best.lane l') ∙ sym h_is)
          (lane_memory s.lanes best.lane l' s s' (Head best.lane) refl refl refl (λ z. refl) (λ z. absurd (z refl)) (λ z. refl) (λ i z. refl)) m.words)
          m.goods (λ q b. (field_here s.lanes best.lane l' (λ (z : LaneModel). z.tails) q (λ _. refl), field_here s.lanes best.lane l' (λ (z : LaneModel). z.stage) q (λ _. refl)))
          (λ q b. new_heads best.lane low l' h h_is q b))
          o st
          (ledger_freed s c.posted c.delivered g k v.ledger s' refl refl (λ q. field_here s.lanes best.lane l' (λ (z : LaneModel). z.stage) q (λ _. refl))
          (λ x f. let f' : x ≤ 2 * s.n = few_at (frees best.lane best.stamp) e x f in (omega arith, omega arith)) best.lane best.stamp y st.admits)
        where
          new_heads : (r : ℕ) → r < s.n → (l : LaneModel) (h : ℕ) → h ≡ l.heads → (q : ℕ) → q < s.n → head_of (set c.heads r h) q ≡ (upd s.lanes r l q).heads
          new_heads r low l h z q b =
              elim (cases_eq q r) [
                | inl y ↦ ap (λ (i : ℕ). get_or (set c.heads r h) i 0) y ∙ get_or-set_same c.heads r h 0 (omega (arith, m.heads_long, m.few)) ∙ z ∙ ap (λ (w : LaneModel). w.heads) (sym (upd_when s.lanes r q l y))
                | inr y ↦ get_or-set_other c.heads r q h 0 y ∙ m.heads q b ∙ ap (λ (w : LaneModel). w.heads) (sym (upd_other s.lanes r l q y))
              ]

  -- past the free
  at_see_slot : (j : Attempt) (best : Kept) → s.col ≡ looking best.lane j best.stamp → Granted (SeeSlot j best)
  at_see_slot j best e =
      let low : best.lane < s.n = rw e at v.ok.cols in
      subst (λ (w : ℕ). Result (SeeSlot j best) (Goes (SeeTail j best w)) S.words S.trays) (sym (slot_word best.lane low))
      (moves_on (tailing best.lane j best.stamp (s.lanes best.lane).slot) (SeeTail j best (s.lanes best.lane).slot) refl (model_on (looking best.lane j best.stamp) e) (rw e at v.tied.collect)
      (λ x f. few_tries s.n x j 1 2 (omega arith) (omega arith) (few_at (looking best.lane j best.stamp) e x f)))

  at_see_tail : (j : Attempt) (best : Kept) (seen : ℕ) → s.col ≡ tailing best.lane j best.stamp seen → Granted (SeeTail j best seen)
  at_see_tail j best seen e =
      let low : best.lane < s.n = rw e at v.ok.cols in
      let w : loaded S.words (word_of sh (Tail best.lane)) ≡ (s.lanes best.lane).tails = m.words (Tail best.lane) (in_shape best.lane low) in
      let o : LaneOk s.K s.counter s.now s.took (s.lanes best.lane) (view s.col best.lane) = v.ok.posts best.lane in
      let tl_below : (s.lanes best.lane).tails < s.K = tails_below s.K s.counter s.now s.took (s.lanes best.lane) (view s.col best.lane) o in
      let small : (s.lanes best.lane).tails % s.K ≡ (s.lanes best.lane).tails = mod-eq_of_lt tl_below in
      let same : eqb (loaded S.words (word_of sh (Tail best.lane)) % sh.cells) (head_of c.heads best.lane) ≡ eqb (s.lanes best.lane).tails (s.lanes best.lane).heads = cc (w, small, m.cells, m.heads best.lane low) in
      subst (λ (b : Bool). Result (SeeTail j best seen) (cond b (Goes (RefreshSlot j best seen empty_word)) (Goes (SeeFront j best seen))) S.words S.trays) (sym same)
      (both (eqb (s.lanes best.lane).tails (s.lanes best.lane).heads) (model_on (tailing best.lane j best.stamp seen) e))
    where
      both : (b : Bool) → ModelOk (cond b (moved s s.lanes (swapping best.lane j best.stamp seen empty_word)) (moved s s.lanes (fronting best.lane j best.stamp seen)))
          → Result (SeeTail j best seen) (cond b (Goes (RefreshSlot j best seen empty_word)) (Goes (SeeFront j best seen))) S.words S.trays
      both true o =
          moves_on (swapping best.lane j best.stamp seen empty_word) (RefreshSlot j best seen empty_word) refl o (rw e at v.tied.collect) (λ x f. few_tries s.n x j 2 4 (omega arith) (omega arith) (few_at (tailing best.lane j best.stamp seen) e x f))
      both false o =
          moves_on (fronting best.lane j best.stamp seen) (SeeFront j best seen) refl o (rw e at v.tied.collect) (λ x f. few_tries s.n x j 2 3 (omega arith) (omega arith) (few_at (tailing best.lane j best.stamp seen) e x f))

  at_see_front : (j : Attempt) (best : Kept) (seen : ℕ) → s.col ≡ fronting best.lane j best.stamp seen → Granted (SeeFront j best seen)
  at_see_front j best seen e =
      let (low, _) : ProgressOk s (fronting best.lane j best.stamp seen) = rw e at v.ok.cols in
      let l = s.lanes best.lane in
      let w : loaded S.words (word_of sh (CellStamp best.lane (s.lanes best.lane).heads)) ≡ (s.lanes best.lane).cell (s.lanes best.lane).heads =
      m.words (CellStamp best.lane (s.lanes best.lane).heads) (in_shape best.lane low, omega (arith, head_below best.lane, m.cells)) in
      subst (λ (i : ℕ). Result (SeeFront j best seen) (Goes (RefreshSlot j best seen (loaded S.words (word_of sh (CellStamp best.lane i))))) S.words S.trays) (sym (m.heads best.lane low))
      (subst (λ (w : ℕ). Result (SeeFront j best seen) (Goes (RefreshSlot j best seen w)) S.words S.trays) (sym w)
      (moves_on (swapping best.lane j best.stamp seen ((s.lanes best.lane).cell (s.lanes best.lane).heads)) (RefreshSlot j best seen ((s.lanes best.lane).cell (s.lanes best.lane).heads)) refl
      (model_on (fronting best.lane j best.stamp seen) e) (rw e at v.tied.collect) (λ x f. few_tries s.n x j 3 4 (omega arith) (omega arith) (few_at (fronting best.lane j best.stamp seen) e x f))))

  module _ (best : Kept) (low : best.lane < s.n) (hold : Holding best.lane best.stamp k.collect) where
    -- the collect ends with the slot as it is
    ends_plain : (j : Attempt) (seen fresh : ℕ) → ModelOk (moved s s.lanes rest) → Result (RefreshSlot j best seen fresh) (EndsDelivered best) S.words S.trays
    ends_plain j seen fresh o =
        let st = ends_delivered s v.ok G k v.tied best.lane best.stamp hold in
        loads (ended_collect (as_delivered best.lane best.stamp)) rest (Ended (Delivered best.lane best.stamp grants)) 0 (one_more c.delivered) refl o st
        (ledger_ended_collect s c.posted c.delivered g k v.ledger (moved s s.lanes rest) refl refl (λ q. refl) (as_delivered best.lane best.stamp) (one_more c.delivered) st.admits more_delivered)

    -- the swap went through
    ends_swapped : (j : Attempt) (seen fresh : ℕ) → ModelOk (moved s (upd s.lanes best.lane (slotting (s.lanes best.lane) fresh)) rest)
        → Result (RefreshSlot j best seen fresh) (EndsDelivered best) (set S.words (word_of sh (Slot best.lane)) fresh) S.trays
    ends_swapped j seen fresh o =
        let l' = slotting (s.lanes best.lane) fresh in
        let s' = moved s (upd s.lanes best.lane l') rest in
        let ws = set S.words (word_of sh (Slot best.lane)) fresh in
        let st = ends_slotting s v.ok G k v.tied best.lane best.stamp fresh hold in
        leaves n K g k (state_of ws S.trays (with_collector c c.heads (collector (Ended (Delivered best.lane best.stamp grants)) 0) (one_more c.delivered)))
        (ended_collect (as_delivered best.lane best.stamp)) s' G v.n_is v.KIs
        (mirror_collector S s G m ws S.trays c.heads (collector (Ended (Delivered best.lane best.stamp grants)) 0) (one_more c.delivered) s' G refl refl refl
        (length-set S.words (word_of sh (Slot best.lane)) fresh) refl m.heads_long
        (words_written sh S.words m.board (Slot best.lane) fresh (memory s) (memory s') (in_shape best.lane low)
        (ap (λ (z : LaneModel). z.slot) (upd_same s.lanes best.lane l'))
        (lane_memory s.lanes best.lane l' s s' (Slot best.lane) refl refl refl (λ z. absurd (z refl)) (λ z. refl) (λ z. refl) (λ i z. refl)) m.words)
        m.goods (λ q b. (field_here s.lanes best.lane l' (λ (z : LaneModel). z.tails) q (λ _. refl), field_here s.lanes best.lane l' (λ (z : LaneModel). z.stage) q (λ _. refl)))
        (λ q b. m.heads q b ∙ sym (field_here s.lanes best.lane l' (λ (z : LaneModel). z.heads) q (λ _. refl))))
        o st
        (ledger_ended_collect s c.posted c.delivered g k v.ledger s' refl refl (λ q. field_here s.lanes best.lane l' (λ (z : LaneModel). z.stage) q (λ _. refl)) (as_delivered best.lane best.stamp) (one_more c.delivered) st.admits more_delivered)

  at_refresh_slot : (j : Attempt) (best : Kept) (seen fresh : ℕ) → s.col ≡ swapping best.lane j best.stamp seen fresh → Granted (RefreshSlot j best seen fresh)
  at_refresh_slot j best seen fresh e =
      let low : best.lane < s.n = rw e at v.ok.cols in
      subst (λ (b : Bool). Result (RefreshSlot j best seen fresh) (collector_next sh c.heads (RefreshSlot j best seen fresh) (cond b 1 0)) (cond b (set S.words (word_of sh (Slot best.lane)) fresh) S.words) S.trays) (sym (slot_swaps S s G m best.lane seen low))
      (by_attempt j low e (rw e at v.tied.collect) (model_on (swapping best.lane j best.stamp seen fresh) e))
    where
      by_attempt : (j : Attempt) → best.lane < s.n → s.col ≡ swapping best.lane j best.stamp seen fresh → Holding best.lane best.stamp k.collect → ModelOk (collect s (swapping best.lane j best.stamp seen fresh))
          → Result (RefreshSlot j best seen fresh) (collector_next sh c.heads (RefreshSlot j best seen fresh) (cond (eqb (s.lanes best.lane).slot seen) 1 0)) (cond (eqb (s.lanes best.lane).slot seen) (set S.words (word_of sh (Slot best.lane)) fresh) S.words) S.trays
      by_attempt First low e hold o = both (eqb (s.lanes best.lane).slot seen) o
        where
          both : (b : Bool) → ModelOk (cond b (moved s (upd s.lanes best.lane (slotting (s.lanes best.lane) fresh)) rest) (moved s s.lanes (looking best.lane Second best.stamp)))
              → Result (RefreshSlot First best seen fresh) (collector_next sh c.heads (RefreshSlot First best seen fresh) (cond b 1 0)) (cond b (set S.words (word_of sh (Slot best.lane)) fresh) S.words) S.trays
          both true o = ends_swapped best low hold First seen fresh o
          both false o =
              moves_on (looking best.lane Second best.stamp) (SeeSlot Second best) refl o hold
              (λ x f. let f' : x ≤ 2 * s.n + 4 = few_at (swapping best.lane First best.stamp seen fresh) e x f in (omega arith, omega arith))
      by_attempt Second low e hold o = both (eqb (s.lanes best.lane).slot seen) o
        where
          both : (b : Bool) → ModelOk (cond b (moved s (upd s.lanes best.lane (slotting (s.lanes best.lane) fresh)) rest) (moved s s.lanes rest))
              → Result (RefreshSlot Second best seen fresh) (EndsDelivered best) (cond b (set S.words (word_of sh (Slot best.lane)) fresh) S.words) S.trays
          both true o = ends_swapped best low hold Second seen fresh o
          both false o = ends_plain best low hold Second seen fresh o

  -- a grant of a collector whose collect is under way
  pub granted : (at : CollectStage) → c.collector.stage ≡ at → under_way at ≡ true → Granted at
  granted Idle e u = absurd (false≢true u)
  granted (ScanFirst i best) e u = at_scan_first i best (sym m.col ∙ ap progress_of e)
  granted (ScanSecond i bound best) e u = at_scan_second i bound best (sym m.col ∙ ap progress_of e)
  granted (Fetch best) e u = at_fetch best (sym m.col ∙ ap progress_of e)
  granted (Free best) e u = at_free best (sym m.col ∙ ap progress_of e)
  granted (SeeSlot j best) e u = at_see_slot j best (sym m.col ∙ ap progress_of e)
  granted (SeeTail j best seen) e u = at_see_tail j best seen (sym m.col ∙ ap progress_of e)
  granted (SeeFront j best seen) e u = at_see_front j best seen (sym m.col ∙ ap progress_of e)
  granted (RefreshSlot j best seen fresh) e u = at_refresh_slot j best seen fresh (sym m.col ∙ ap progress_of e)
  granted (Ended how) e u = absurd (false≢true u)
