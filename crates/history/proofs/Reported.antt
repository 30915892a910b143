-- An accepted report: nothing is under way and nothing waits, so the account holds. No other call reports.
use Rattle.std.proofs.Common.{◌≡◌, ℕ, zero, suc, ◌+◌, ◌-◌, ◌%◌, ◌<◌, Bool, true, not, eqb, ltb, List, [], ◌∷◌, sym, refl, ap, ◌∙◌, subst, inl, inr, mod-eq_of_lt, arith}
use native.Mathlib.Nat.{add-mod_right}
use native.Mathlib.Decide.{dec_lt}
use mathlib.Core.Option.{Option, none, some}
use Rattle.std.proofs.lemmas.Bool.{and_parts, cases_lt, cond_both, eqb-true, not-true}
use Rattle.line.specs.declared.collector.CollectStage.{CollectStage}
use Rattle.line.specs.declared.collector.CollectStage.TheVariants.{Idle, ScanFirst, ScanSecond, Fetch, Free, SeeSlot, SeeTail, SeeFront, RefreshSlot, Ended}
use Rattle.line.specs.declared.collector.Kept.{Kept}
use Rattle.line.specs.declared.lane.Stage.{Stage}
use Rattle.line.specs.declared.lane.Stage.TheVariants.{AtRest, TestSpace, TakeStamp, FillCell, MarkCell, Publish, Look, LoadHead, LoadFront, SwapSlot}
use Rattle.line.specs.Answers.{Told, told}
use Rattle.line.specs.Calls.{all_below, all_done, lane_done, reports}
use Rattle.line.specs.Collect.{begun, head_of}
use Rattle.line.specs.Crew.{busy, fill_of, row_of}
use Rattle.order.specs.Events.{CollectEnd, Event, PostEnd}
use Rattle.order.specs.Events.PostEnd.{as_full, as_used_up}
use Rattle.order.specs.Events.Event.{began_collect, began_post, ended_collect, ended_post, freed, quiet, reported, stepped_collector, stepped_lane, took}
use Rattle.order.specs.Logs.{Collecting, Log, Posting, log_collect_end, log_post_end, log_step}
use Rattle.order.specs.Books.{Book, Waiting, book_step}
use Rattle.order.specs.Books.Collect.{at_rest}
use Rattle.order.specs.Books.Post.{idle}
use Rattle.order.specs.Promises.{NothingUnderWay}
use Rattle.order.proofs.Balance.{balanced}
use Rattle.history.specs.Limits.{capacity}
use Rattle.history.specs.Happening.{collector_event, collector_went, collector_went_on, freed_with, if_accepted, lane_event, lane_went, lane_went_on, totals_event}
use Rattle.history.specs.Performing.{State}
use Rattle.history.specs.Promise.{Accounted}
use Rattle.history.proofs.Lanes.{LaneOk, waits}
use Rattle.history.proofs.Model.{LineModel, moved, view}
use Rattle.history.proofs.Model.Progress.{rest}
use Rattle.history.proofs.Goods.{Match}
use Rattle.history.proofs.LaneSteps.{heads_below, is_empty, tails_below}
use Rattle.history.proofs.Ledger.{ledger_reported}
use Rattle.history.proofs.Mirror.{progress_of}
use Rattle.history.proofs.ModelSteps.{model_tick}
use Rattle.history.proofs.Called.{not_begun_idle, not_busy_rests}
use Rattle.history.proofs.Safe.{Leaves, Safe, leaves, leaves_alone, same_mirror, tested_by}

-- events that are no report
abbrev pub Unreported : {P : Type 0} → Event P → Type 0
Unreported (began_post r x) = Unit {0}
Unreported (took r s) = Unit {0}
Unreported (ended_post r how) = Unit {0}
Unreported began_collect = Unit {0}
Unreported (freed r s x) = Unit {0}
Unreported (ended_collect how) = Unit {0}
Unreported (stepped_lane r) = Unit {0}
Unreported stepped_collector = Unit {0}
Unreported (reported p d) = ⊥
Unreported quiet = Unit {0}

module _ {P : Type 0} where
  no_report : (g : Log P) → g.report ≡ none → Accounted g
  no_report g e p d f = let z : ◌≡◌ {A = ℕ} 0 1 = cc in absurd (omega arith)

  post_end_none : (g : Log P) (r : ℕ) (how : PostEnd) (o : Option (Posting P)) → (log_post_end g r how o).report ≡ none
  post_end_none g r how none = refl
  post_end_none g r how (some p) = refl

  collect_end_none : (g : Log P) (how : CollectEnd) (o : Option (Collecting P)) → (log_collect_end g how o).report ≡ none
  collect_end_none g how none = refl
  collect_end_none g how (some p) = refl

  pub unreported : (g : Log P) (e : Event P) → Unreported e → Accounted (log_step g e)
  unreported g (began_post r x) u = no_report (log_step g (began_post r x)) refl
  unreported g (took r s) u = no_report (log_step g (took r s)) refl
  unreported g (ended_post r how) u = no_report (log_step g (ended_post r how)) (post_end_none g r how (g.posts r))
  unreported g began_collect u = no_report (log_step g began_collect) refl
  unreported g (freed r s x) u = no_report (log_step g (freed r s x)) refl
  unreported g (ended_collect how) u = no_report (log_step g (ended_collect how)) (collect_end_none g how g.collecting)
  unreported g (stepped_lane r) u = no_report (log_step g (stepped_lane r)) refl
  unreported g stepped_collector u = no_report (log_step g stepped_collector) refl
  unreported g (reported p d) u = absurd u
  unreported g quiet u = no_report (log_step g quiet) refl

  pub accepted_unreported : (a : Told) (e : Event P) → Unreported e → Unreported (if_accepted a e)
  accepted_unreported a e u = cond_both (eqb a.number 0) e quiet Unreported (λ _. u) (λ _. tt)

-- the events of grants
module _ (P : Type 0) where
  went_on_unreported : (r : ℕ) (at : Stage) (x : ℕ) → Unreported (lane_went_on {P = P} r at x)
  went_on_unreported r AtRest x = tt
  went_on_unreported r TestSpace x = tt
  went_on_unreported r TakeStamp x = tt
  went_on_unreported r (FillCell s) x = tt
  went_on_unreported r (MarkCell s) x = tt
  went_on_unreported r (Publish s) x = tt
  went_on_unreported r (Look j s) x = tt
  went_on_unreported r (LoadHead j s v) x = tt
  went_on_unreported r (LoadFront j s v h) x = tt
  went_on_unreported r (SwapSlot j s v) x = tt

  went_unreported : (r : ℕ) (at : Stage) (x : ℕ) (vs : List ℕ) → Unreported (lane_went {P = P} r at x vs)
  went_unreported r at x [] = went_on_unreported r at x
  went_unreported r at x (v ∷ vs) = tt

  pub lane_unreported : (r : ℕ) (at : Stage) (x : ℕ) (a : Told) → Unreported (lane_event {P = P} r at x a)
  lane_unreported r at x a =
      cond_both (eqb a.number 0) (lane_went r at x a.values) _ Unreported (λ _. went_unreported r at x a.values)
      (λ _. cond_both (eqb a.number 8) (ended_post r as_full) _ Unreported (λ _. tt)
      (λ _. cond_both (eqb a.number 9) (ended_post r as_used_up) quiet Unreported (λ _. tt) (λ _. tt)))

module _ {P : Type 0} where
  freed_unreported : (best : Kept) (xs : List P) → Unreported (freed_with best xs)
  freed_unreported best [] = tt
  freed_unreported best (x ∷ xs) = tt

  collector_on_unreported : (xs : List P) (at : CollectStage) → Unreported (collector_went_on xs at)
  collector_on_unreported xs Idle = tt
  collector_on_unreported xs (ScanFirst i best) = tt
  collector_on_unreported xs (ScanSecond i bound best) = tt
  collector_on_unreported xs (Fetch best) = tt
  collector_on_unreported xs (Free best) = freed_unreported best xs
  collector_on_unreported xs (SeeSlot j best) = tt
  collector_on_unreported xs (SeeTail j best seen) = tt
  collector_on_unreported xs (SeeFront j best seen) = tt
  collector_on_unreported xs (RefreshSlot j best seen fresh) = tt
  collector_on_unreported xs (Ended how) = tt

  collector_went_unreported : (xs : List P) (at : CollectStage) (vs : List ℕ) → Unreported (collector_went xs at vs)
  collector_went_unreported xs at [] = collector_on_unreported xs at
  collector_went_unreported xs at (v ∷ []) = tt
  collector_went_unreported xs at (v ∷ (w ∷ vs)) = tt

  pub collector_unreported : (xs : List P) (at : CollectStage) (a : Told) → Unreported (collector_event xs at a)
  collector_unreported xs at a = accepted_unreported a (collector_went xs at a.values) (collector_went_unreported xs at a.values)

-- a ring whose fill is 0 has its tail at its head
tail_at_head : (K t h : ℕ) → t < K → h < K → (t + K - h) % K ≡ 0 → h ≡ t
tail_at_head K t h a b e =
    elim (dec_lt t h) [
      | yes l ↦ let z : (t + K - h) % K ≡ t + K - h = mod-eq_of_lt (omega arith) in absurd (omega arith)
      | no l ↦
          let x : t + K - h ≡ (t - h) + K = omega arith in
          let z : (t + K - h) % K ≡ t - h = ap (λ (y : ℕ). y % K) x ∙ add-mod_right (t - h) K ∙ mod-eq_of_lt (omega arith) in
          omega arith
    ]

all_below_each : (test : ℕ → Bool) (n : ℕ) → all_below test n ≡ true → (q : ℕ) → q < n → test q ≡ true
all_below_each test zero e q h = absurd (omega arith)
all_below_each test (suc n) e q h =
    let (a, b) = and_parts (test n) (all_below test n) e in
    elim (cases_lt q n) [ inl l ↦ all_below_each test n b q l | inr l ↦ let z : q ≡ n = omega arith in rw z a ]

module _ {P : Type 0} (n K : ℕ) (S : State P) (g : Log P) (k : Book P) (v : Safe n K S g k) (done : all_done S.crew ≡ true) where
  abbrev s : LineModel
  s = v.model

  each_done : (q : ℕ) → q < s.n → lane_done S.crew q ≡ true
  each_done q h =
      let (_, b) = and_parts (not (begun S.crew.collector.stage)) (all_below (lane_done S.crew) S.crew.shape.lanes) done in
      all_below_each (lane_done S.crew) S.crew.shape.lanes b q (omega (arith, v.mirror.lanes))

  at_rest_now : (q : ℕ) → q < s.n → (s.lanes q).stage ≡ AtRest
  at_rest_now q h =
      let (a, _) = and_parts (not (busy (row_of S.crew q).stage)) (eqb (fill_of S.crew q) 0) (each_done q h) in
      sym (v.mirror.rows q h).stage ∙ not_busy_rests (row_of S.crew q).stage (not-true (busy (row_of S.crew q).stage) a)

  ring_empty : (q : ℕ) → q < s.n → (s.lanes q).ring ≡ []
  ring_empty q h =
      let (_, b) = and_parts (not (busy (row_of S.crew q).stage)) (eqb (fill_of S.crew q) 0) (each_done q h) in
      let tie = v.mirror.rows q h in
      let ok : LaneOk s.K s.counter s.now s.took (s.lanes q) (view s.col q) = v.ok.posts q in
      let hb = heads_below s.K s.counter s.now s.took (s.lanes q) (view s.col q) ok in
      let tb = tails_below s.K s.counter s.now s.took (s.lanes q) (view s.col q) ok in
      let zero_fill : ((row_of S.crew q).tail + S.crew.shape.cells - head_of S.crew.heads q) % S.crew.shape.cells ≡ 0 = eqb-true (fill_of S.crew q) 0 b in
      let fill : ((s.lanes q).tails + s.K - (s.lanes q).heads) % s.K ≡ 0 = cc (tie.tail, v.mirror.cells, v.mirror.heads q h) in
      is_empty s.K s.counter s.now s.took (s.lanes q) (view s.col q) ok (s.lanes q).ring refl (tail_at_head s.K (s.lanes q).tails (s.lanes q).heads tb hb fill)

  no_waiting : (q : ℕ) → k.waiting q ≡ []
  no_waiting q =
      elim (cases_lt q s.n) [
        | inl h ↦
            let m : Match q v.goods.load s.took (s.lanes q).ended (k.waiting q) [] = subst (λ (R : List ℕ). Match q v.goods.load s.took (s.lanes q).ended (k.waiting q) R) (ap (waits (s.lanes q).ring) (at_rest_now q h) ∙ ring_empty q h) (v.tied.lanes q h).waits in
            none_match v.goods.load s.took (s.lanes q).ended (k.waiting q) m
        | inr h ↦ (v.tied.others q h).1
      ]
    where
      none_match : (load : ℕ → Option P) (a b : ℕ → ℕ) (ws : List (Waiting P)) → Match q load a b ws [] → ws ≡ []
      none_match load a b [] m = refl
      none_match load a b (w ∷ ws) m = absurd m

  no_post : (q : ℕ) → k.posts q ≡ idle
  no_post q =
      elim (cases_lt q s.n) [
        | inl h ↦ rw (at_rest_now q h) at (v.tied.lanes q h).post
        | inr h ↦ (v.tied.others q h).0
      ]

  no_collect : k.collect ≡ at_rest
  no_collect =
      let (a, _) = and_parts (not (begun S.crew.collector.stage)) (all_below (lane_done S.crew) S.crew.shape.lanes) done in
      let e : s.col ≡ rest = sym v.mirror.col ∙ ap progress_of (not_begun_idle S.crew.collector.stage (not-true (begun S.crew.collector.stage) a)) in
      rw e at v.tied.collect

  nothing_under_way : NothingUnderWay g
  nothing_under_way = (λ q. rw (no_post q) at (v.ledger.kept.agree.posts q), rw no_collect at v.ledger.kept.agree.collect)

  report_leaves : (p d : ℕ) → Leaves n K g k (reported p d) S
  report_leaves p d =
      leaves n K g k S (reported p d) (moved s s.lanes s.col) v.goods v.n_is v.KIs (same_mirror n K g k S s v.goods v.mirror) (model_tick s v.ok)
      (record {
        admits = tt;
        tied = record { now = ap suc v.tied.now; top = v.tied.top; lanes = v.tied.lanes; others = v.tied.others; collect = v.tied.collect };
      })
      (ledger_reported s S.crew.posted S.crew.delivered g k v.ledger (moved s s.lanes s.col) p d refl refl refl refl)

  report_accounts : Accounted (log_step g (reported S.crew.posted S.crew.delivered))
  report_accounts p d e =
      let both : ◌≡◌ {A = ℕ × ℕ} (S.crew.posted, S.crew.delivered) (p, d) = cc in
      let f : S.crew.posted ≡ p = ap (λ (x : ℕ × ℕ). x.0) both in
      let h : S.crew.delivered ≡ d = ap (λ (x : ℕ × ℕ). x.1) both in
      let w = (report_leaves S.crew.posted S.crew.delivered).safe in (
        balanced (capacity w.model.K) (log_step g (reported S.crew.posted S.crew.delivered)) (book_step k (reported S.crew.posted S.crew.delivered)) w.ledger.kept no_waiting nothing_under_way,
        sym f ∙ v.ledger.posted_is,
        sym h ∙ v.ledger.delivered_is,
      )

-- a report, refused or accepted
module _ {P : Type 0} (n K : ℕ) (S : State P) (g : Log P) (k : Book P) (v : Safe n K S g k) where
  pub report_called : (let a = reports S.crew in Leaves n K g k (if_accepted a (totals_event a.values)) S × Accounted (log_step g (if_accepted a (totals_event a.values))))
  report_called =
      tested_by (λ number. told number []) ((ltb 0 S.crew.shape.lanes, 4) ∷ ((all_done S.crew, 13) ∷ [])) (told 0 (S.crew.posted ∷ (S.crew.delivered ∷ [])))
      (λ (a : Told). Leaves n K g k (if_accepted a (totals_event a.values)) S × Accounted (log_step g (if_accepted a (totals_event a.values))))
      (refused, (refused, tt))
      (λ h. (report_leaves n K S g k v h.1.0 S.crew.posted S.crew.delivered, report_accounts n K S g k v h.1.0))
    where
      refused : Leaves n K g k quiet S × Accounted (log_step g quiet)
      refused = (leaves_alone n K g k S v, unreported g quiet tt)
