-- Every call but the accepted report, by the line's definitions: its tests, what a refusal leaves, and what it leaves if it is accepted.
use Rattle.std.proofs.Common.{◌≡◌, ℕ, ◌<◌, true, false, ltb, ◌≢◌, List, [], ◌∷◌, set, sym, refl, ap, ◌∙◌, arith}
use mathlib.Core.Option.{Option, none, some}
use Rattle.std.proofs.lemmas.List.{length-set}
use Rattle.std.proofs.lemmas.Bool.{false≢true, ltb-true, not-true}
use Rattle.line.specs.declared.access.Place.{Place}
use Rattle.line.specs.declared.access.Place.TheVariants.{Hand, CollectorsHand, Cell}
use Rattle.line.specs.declared.answer.CollectorAnswer.{CollectorAnswer}
use Rattle.line.specs.declared.answer.CollectorAnswer.TheVariants.{On as CollectGoesOn, Ended as CollectEnded}
use Rattle.line.specs.declared.answer.LaneAnswer.{LaneAnswer}
use Rattle.line.specs.declared.answer.LaneAnswer.TheVariants.{On, Posted, Full, UsedUp}
use Rattle.line.specs.declared.collector.CollectStage.{CollectStage}
use Rattle.line.specs.declared.collector.CollectStage.TheVariants.{Idle, ScanFirst, ScanSecond, Fetch, Free, SeeSlot, SeeTail, SeeFront, RefreshSlot, Ended}
use Rattle.line.specs.declared.collector.Collected.TheVariants.{Empty, Delivered}
use Rattle.line.specs.declared.lane.Stage.{Stage}
use Rattle.line.specs.declared.lane.Stage.TheVariants.{AtRest, TestSpace, TakeStamp, FillCell, MarkCell, Publish, Look, LoadHead, LoadFront, SwapSlot}
use Rattle.line.specs.Answers.{collector_told, lane_told}
use Rattle.line.specs.Calls.{CrewOutcome, Outcome, begin_collect_tests, begin_post_tests, begins_collect, begins_post, collector_grant_tests, collector_steps, grants_collector, grants_lane, lane_grant_tests, lane_steps, laying_tests, lays, refuse, refuse_crew, settles, settles_at}
use Rattle.line.specs.Collect.{begun, begun_collector, collect_answer_at, collector, collector_access, collector_next}
use Rattle.line.specs.Crew.{begun_row, busy, row_of, with_collector, with_row}
use Rattle.line.specs.Map.{tray_of}
use Rattle.line.specs.Perform.{word_read}
use Rattle.line.specs.Post.{lane_access, one_more}
use Rattle.order.specs.Events.Event.{began_collect, began_post, quiet}
use Rattle.order.specs.Logs.{Log}
use Rattle.order.specs.Books.{Book}
use Rattle.order.specs.Tables.{upd}
use Rattle.order.proofs.Lists.{upd_other, upd_same}
use Rattle.history.specs.Happening.{grant_collector_event, grant_lane_event, if_accepted}
use Rattle.history.specs.Performing.{Memory, State, drain, granted_collector, granted_lane, on_memory, state_of}
use Rattle.history.specs.Promise.{TooShortElsewhere}
use Rattle.history.proofs.Lanes.{goes}
use Rattle.history.proofs.Model.{begun_collect, moved}
use Rattle.history.proofs.Model.Progress.{rest}
use Rattle.history.proofs.Goods.{Goods}
use Rattle.history.proofs.LaneTies.{begins as post_begins, with_hand}
use Rattle.history.proofs.CollectTies.{collect_begins}
use Rattle.history.proofs.Ledger.{ledger_began_collect, ledger_began_post}
use Rattle.history.proofs.Mirror.{lane_memory_same, mirror_collector, mirror_lane, progress_of, same_memory, stock, trays_written}
use Rattle.history.proofs.ModelSteps.{collect_begins as model-begins-collect, post_begins as model-begins-post}
use Rattle.history.proofs.LaneCalls.{granted as lane_granted}
use Rattle.history.proofs.CollectorCalls.{granted as collector-granted}
use Rattle.history.proofs.Safe.{Leaves, Safe, leaves, leaves_alone, leaves_quiet, tested_by}

-- stages by what the tests say of them
busy_not_rest : (at : Stage) → busy at ≡ true → at ≢ AtRest
busy_not_rest at b e = false≢true (rw e at b)

pub not_busy_rests : (at : Stage) → busy at ≡ false → at ≡ AtRest
not_busy_rests AtRest e = refl
not_busy_rests TestSpace e = absurd (false≢true (sym e))
not_busy_rests TakeStamp e = absurd (false≢true (sym e))
not_busy_rests (FillCell s) e = absurd (false≢true (sym e))
not_busy_rests (MarkCell s) e = absurd (false≢true (sym e))
not_busy_rests (Publish s) e = absurd (false≢true (sym e))
not_busy_rests (Look j s) e = absurd (false≢true (sym e))
not_busy_rests (LoadHead j s v) e = absurd (false≢true (sym e))
not_busy_rests (LoadFront j s v h) e = absurd (false≢true (sym e))
not_busy_rests (SwapSlot j s v) e = absurd (false≢true (sym e))

pub not_begun_idle : (at : CollectStage) → begun at ≡ false → at ≡ Idle
not_begun_idle Idle e = refl
not_begun_idle (ScanFirst i best) e = absurd (false≢true (sym e))
not_begun_idle (ScanSecond i bound best) e = absurd (false≢true (sym e))
not_begun_idle (Fetch best) e = absurd (false≢true (sym e))
not_begun_idle (Free best) e = absurd (false≢true (sym e))
not_begun_idle (SeeSlot j best) e = absurd (false≢true (sym e))
not_begun_idle (SeeTail j best seen) e = absurd (false≢true (sym e))
not_begun_idle (SeeFront j best seen) e = absurd (false≢true (sym e))
not_begun_idle (RefreshSlot j best seen fresh) e = absurd (false≢true (sym e))
not_begun_idle (Ended how) e = absurd (false≢true (sym e))

-- an accepted grant does not answer that memory is too short
lane_answers : (a : LaneAnswer) → (lane_told a).number ≢ 3
lane_answers On e = omega arith
lane_answers (Posted s x) e = omega arith
lane_answers (Full x) e = omega arith
lane_answers (UsedUp x) e = omega arith

collector_answers : (a : CollectorAnswer) → (collector_told a).number ≢ 3
collector_answers CollectGoesOn e = omega arith
collector_answers (CollectEnded (Empty x)) e = omega arith
collector_answers (CollectEnded (Delivered l s x)) e = omega arith

module _ {P : Type 0} (n K : ℕ) (S : State P) (g : Log P) (k : Book P) (v : Safe n K S g k) where
  alone : Leaves n K g k quiet (state_of S.words S.trays S.crew)
  alone = leaves_alone n K g k S v

  -- a lane's grant
  lane_called : (lane : ℕ) → (let o = grants_lane S.words S.trays S.crew lane in Leaves n K g k (grant_lane_event S lane o.answer) (state_of o.words o.trays o.crew))
  lane_called lane =
      tested_by (refuse S.words S.trays S.crew) (lane_grant_tests S.words S.trays S.crew lane)
      (lane_steps S.words S.trays S.crew lane (row_of S.crew lane) (lane_access lane (row_of S.crew lane) (row_of S.crew lane).stage))
      (λ (o : Outcome P). Leaves n K g k (grant_lane_event S lane o.answer) (state_of o.words o.trays o.crew))
      (alone, (alone, (alone, (alone, (alone, tt)))))
      (λ h.
      lane_granted n K S g k v lane (omega (arith, ltb-true lane S.crew.shape.lanes h.1.1.0, v.mirror.lanes)) (row_of S.crew lane).stage refl (busy_not_rest (row_of S.crew lane).stage h.1.1.1.1.0))

  lane_called_elsewhere : (m : Memory P) (lane : ℕ) → (let o = grants_lane m.words m.trays S.crew lane in o.answer.number ≡ 3 → Leaves n K g k (grant_lane_event S lane o.answer) (state_of S.words S.trays o.crew))
  lane_called_elsewhere m lane =
      tested_by (refuse m.words m.trays S.crew) (lane_grant_tests m.words m.trays S.crew lane)
      (lane_steps m.words m.trays S.crew lane (row_of S.crew lane) (lane_access lane (row_of S.crew lane) (row_of S.crew lane).stage))
      (λ (o : Outcome P). o.answer.number ≡ 3 → Leaves n K g k (grant_lane_event S lane o.answer) (state_of S.words S.trays o.crew))
      ((λ _. alone), ((λ _. alone), ((λ _. alone), ((λ _. alone), ((λ _. alone), tt)))))
      (λ _ e. absurd (lane_answers _ e))

  pub grant_lane_leaves : (elsewhere : Option (Memory P)) (lane : ℕ) → (let d = granted_lane S elsewhere lane in TooShortElsewhere elsewhere d.answer → Leaves n K g k (grant_lane_event S lane d.answer) d.state)
  grant_lane_leaves none lane h = lane_called lane
  grant_lane_leaves (some m) lane h = lane_called_elsewhere m lane h

  -- the collector's grant
  collector_called : (let o = grants_collector S.words S.trays S.crew in Leaves n K g k (grant_collector_event S o.answer) (state_of o.words o.trays o.crew))
  collector_called =
      tested_by (refuse S.words S.trays S.crew) (collector_grant_tests S.words S.trays S.crew)
      (collector_steps S.words S.trays S.crew (collector_access S.crew.shape S.crew.heads S.crew.collector.stage))
      (λ (o : Outcome P). Leaves n K g k (grant_collector_event S o.answer) (state_of o.words o.trays o.crew))
      (alone, (alone, (alone, tt)))
      (λ h. collector-granted n K S g k v S.crew.collector.stage refl h.1.1.0)

  collector_called_elsewhere : (m : Memory P) → (let o = grants_collector m.words m.trays S.crew in o.answer.number ≡ 3 → Leaves n K g k (grant_collector_event S o.answer) (state_of S.words S.trays o.crew))
  collector_called_elsewhere m =
      tested_by (refuse m.words m.trays S.crew) (collector_grant_tests m.words m.trays S.crew)
      (collector_steps m.words m.trays S.crew (collector_access S.crew.shape S.crew.heads S.crew.collector.stage))
      (λ (o : Outcome P). o.answer.number ≡ 3 → Leaves n K g k (grant_collector_event S o.answer) (state_of S.words S.trays o.crew))
      ((λ _. alone), ((λ _. alone), ((λ _. alone), tt)))
      (λ _ e. absurd (collector_answers (collect_answer_at (one_more S.crew.collector.grants) (collector_next S.crew.shape S.crew.heads S.crew.collector.stage (word_read S.crew.shape (collector_access S.crew.shape S.crew.heads S.crew.collector.stage) m.words))) e))

  pub grant_collector_leaves : (elsewhere : Option (Memory P)) → (let d = granted_collector S elsewhere in TooShortElsewhere elsewhere d.answer → Leaves n K g k (grant_collector_event S d.answer) d.state)
  grant_collector_leaves none h = collector_called
  grant_collector_leaves (some m) h = collector_called_elsewhere m h

  -- a laying that is refused
  laying_refused : (ws : List ℕ) (ps : List P) (lanes cells start : ℕ) → (let o = lays ws ps S.crew lanes cells start in o.answer.number ≢ 0 → Leaves n K g k quiet (state_of S.words S.trays o.crew))
  laying_refused ws ps lanes cells start =
      tested_by (refuse ws ps S.crew) (laying_tests ws ps S.crew lanes cells start) _
      (λ (o : Outcome P). o.answer.number ≢ 0 → Leaves n K g k quiet (state_of S.words S.trays o.crew))
      ((λ _. alone), ((λ _. alone), ((λ _. alone), ((λ _. alone), tt))))
      (λ _ e. absurd (e refl))

  pub lay_leaves : (elsewhere : Option (Memory P)) (lanes cells start : ℕ)
      → (let d = on_memory S elsewhere (λ ws ps c. lays ws ps c lanes cells start) in d.answer.number ≢ 0 → Leaves n K g k quiet d.state)
  lay_leaves none lanes cells start =
      tested_by (refuse S.words S.trays S.crew) (laying_tests S.words S.trays S.crew lanes cells start) _
      (λ (o : Outcome P). o.answer.number ≢ 0 → Leaves n K g k quiet (state_of o.words o.trays o.crew))
      ((λ _. alone), ((λ _. alone), ((λ _. alone), ((λ _. alone), tt))))
      (λ _ e. absurd (e refl))
  lay_leaves (some m) lanes cells start = laying_refused m.words m.trays lanes cells start

  -- the beginning of a post
  post_begun : (r : ℕ) (x : P) → r < v.model.n → (row_of S.crew r).stage ≡ AtRest
      → Leaves n K g k (began_post r x) (state_of S.words (set S.trays (tray_of S.crew.shape (Hand r)) x) (with_row S.crew r (begun_row (row_of S.crew r)) S.crew.posted))
  post_begun r x below e =
      let s = v.model in
      let G = v.goods in
      let m = v.mirror in
      let sh = S.crew.shape in
      let tie = m.rows r below in
      let at : (s.lanes r).stage ≡ AtRest = sym tie.stage ∙ e in
      let l' = goes (s.lanes r) TestSpace in
      let s' = moved s (upd s.lanes r l') s.col in
      let G' = with_hand G r (some x) in
      let ps = set S.trays (tray_of sh (Hand r)) x in
      let st = post_begins s v.ok G k v.tied r below x at in
      let in_shape : r < sh.lanes = omega (arith, m.lanes) in
      leaves n K g k (state_of S.words ps (with_row S.crew r (begun_row (row_of S.crew r)) S.crew.posted)) (began_post r x) s' G' v.n_is v.KIs
      (mirror_lane S s G m r below S.words ps (begun_row (row_of S.crew r)) S.crew.posted l' s' G' refl refl refl refl refl (length-set S.trays (tray_of sh (Hand r)) x)
      (λ b ib. m.words b ib ∙ sym (lane_memory_same s.lanes r l' s s' refl refl refl refl refl refl (λ i. refl) b))
      (trays_written sh S.trays m.room (Hand r) x (stock G) (stock G') in_shape (upd_same G.hand r (some x)) (others v.goods) m.goods)
      (record { cells = tie.cells; tail = tie.tail; stage = refl }) refl)
      (model-begins-post s v.ok r at) st
      (ledger_began_post s S.crew.posted S.crew.delivered g k v.ledger r l' s' refl refl refl refl x st.admits refl)
    where
      others : (G : Goods P) (b : Place) → b ≢ Hand r → stock (with_hand G r (some x)) b ≡ stock G b
      others G (Hand q) z = upd_other G.hand r (some x) q (λ i. z (ap Hand i))
      others G CollectorsHand z = refl
      others G (Cell q i) z = refl

  post_called : (lane : ℕ) (x : P) → (let o = begins_post S.words S.trays S.crew lane x in Leaves n K g k (if_accepted o.answer (began_post lane x)) (state_of o.words o.trays o.crew))
  post_called lane x =
      tested_by (refuse S.words S.trays S.crew) (begin_post_tests S.words S.trays S.crew lane) _
      (λ (o : Outcome P). Leaves n K g k (if_accepted o.answer (began_post lane x)) (state_of o.words o.trays o.crew))
      (alone, (alone, (alone, (alone, tt))))
      (λ h. post_begun lane x (omega (arith, ltb-true lane S.crew.shape.lanes h.1.1.0, v.mirror.lanes)) (not_busy_rests (row_of S.crew lane).stage (not-true (busy (row_of S.crew lane).stage) h.1.1.1.0)))

  post_called_elsewhere : (m : Memory P) (lane : ℕ) (x : P)
      → (let o = begins_post m.words m.trays S.crew lane x in o.answer.number ≡ 3 → Leaves n K g k (if_accepted o.answer (began_post lane x)) (state_of S.words S.trays o.crew))
  post_called_elsewhere m lane x =
      tested_by (refuse m.words m.trays S.crew) (begin_post_tests m.words m.trays S.crew lane) _
      (λ (o : Outcome P). o.answer.number ≡ 3 → Leaves n K g k (if_accepted o.answer (began_post lane x)) (state_of S.words S.trays o.crew))
      ((λ _. alone), ((λ _. alone), ((λ _. alone), ((λ _. alone), tt))))
      (λ _ e. absurd (omega arith))

  pub begin_post_leaves : (elsewhere : Option (Memory P)) (lane : ℕ) (x : P)
      → (let d = on_memory S elsewhere (λ ws ps c. begins_post ws ps c lane x) in TooShortElsewhere elsewhere d.answer → Leaves n K g k (if_accepted d.answer (began_post lane x)) d.state)
  begin_post_leaves none lane x h = post_called lane x
  begin_post_leaves (some m) lane x h = post_called_elsewhere m lane x h

  -- the beginning of a collect
  collect_begun : S.crew.collector.stage ≡ Idle → Leaves n K g k began_collect (state_of S.words S.trays (with_collector S.crew S.crew.heads begun_collector S.crew.delivered))
  collect_begun e =
      let s = v.model in
      let m = v.mirror in
      let at : s.col ≡ rest = sym m.col ∙ ap progress_of e in
      let s' = begun_collect s in
      let st = collect_begins s v.ok v.goods k v.tied at in
      leaves n K g k (state_of S.words S.trays (with_collector S.crew S.crew.heads begun_collector S.crew.delivered)) began_collect s' v.goods v.n_is v.KIs
      (mirror_collector S s v.goods m S.words S.trays S.crew.heads begun_collector S.crew.delivered s' v.goods refl refl refl refl refl m.heads_long
      (λ b ib. m.words b ib ∙ same_memory s s' refl refl b) m.goods (λ q b. (refl, refl)) m.heads)
      (model-begins-collect s v.ok at m.some_lane) st
      (ledger_began_collect s S.crew.posted S.crew.delivered g k v.ledger s' refl refl (λ q. refl) st.admits refl)

  pub begin_collect_leaves : (let o = begins_collect S.crew in Leaves n K g k (if_accepted o.answer began_collect) (state_of S.words S.trays o.crew))
  begin_collect_leaves =
      tested_by (refuse_crew S.crew) (begin_collect_tests S.crew) _
      (λ (o : CrewOutcome). Leaves n K g k (if_accepted o.answer began_collect) (state_of S.words S.trays o.crew))
      (alone, (alone, tt))
      (λ h. collect_begun (not_begun_idle S.crew.collector.stage (not-true (begun S.crew.collector.stage) h.1.0)))

  -- settling, and draining
  settled : (how : CollectStage) → progress_of how ≡ rest → S.crew.collector.stage ≡ how → Leaves n K g k quiet (state_of S.words S.trays (with_collector S.crew S.crew.heads (collector Idle 0) S.crew.delivered))
  settled how is e =
      leaves_quiet n K g k S (state_of S.words S.trays (with_collector S.crew S.crew.heads (collector Idle 0) S.crew.delivered)) v
      (λ s G m.
      mirror_collector S s G m S.words S.trays S.crew.heads (collector Idle 0) S.crew.delivered (moved s s.lanes s.col) G refl refl (sym is ∙ sym (ap progress_of e) ∙ m.col) refl refl m.heads_long
      (λ b ib. m.words b ib ∙ same_memory s (moved s s.lanes s.col) refl refl b) m.goods (λ q b. (refl, refl)) m.heads)
      refl refl

  settled_at : (at : CollectStage) → S.crew.collector.stage ≡ at → Leaves n K g k quiet (state_of S.words S.trays (settles_at S.crew at).crew)
  settled_at Idle e = alone
  settled_at (ScanFirst i best) e = alone
  settled_at (ScanSecond i bound best) e = alone
  settled_at (Fetch best) e = alone
  settled_at (Free best) e = alone
  settled_at (SeeSlot j best) e = alone
  settled_at (SeeTail j best seen) e = alone
  settled_at (SeeFront j best seen) e = alone
  settled_at (RefreshSlot j best seen fresh) e = alone
  settled_at (Ended how) e = settled (Ended how) refl e

  pub settle_leaves : Leaves n K g k quiet (state_of S.words S.trays (settles S.crew).crew)
  settle_leaves =
      tested_by (refuse_crew S.crew) ((ltb 0 S.crew.shape.lanes, 4) ∷ []) _
      (λ (o : CrewOutcome). Leaves n K g k quiet (state_of S.words S.trays o.crew))
      (alone, tt)
      (λ h. settled_at S.crew.collector.stage refl)

  pub fill_leaves : Leaves n K g k quiet S
  fill_leaves = leaves_alone n K g k S v

  pub drain_leaves : Leaves n K g k quiet (drain S)
  drain_leaves =
      leaves_quiet n K g k S (drain S) v
      (λ s G m.
      record {
        lanes = m.lanes;
        cells = m.cells;
        few = m.few;
        some_lane = m.some_lane;
        some_cell = m.some_cell;
        board = m.board;
        room = m.room;
        words = λ b ib. m.words b ib ∙ same_memory s (moved s s.lanes s.col) refl refl b;
        goods = m.goods;
        rows_long = m.rows_long;
        heads_long = m.heads_long;
        rows = m.rows;
        heads = m.heads;
        col = m.col;
      })
      refl refl
