-- A lane's grants, by the line's definitions: each leaves an event that met its guard, and the line as it should be.
use Rattle.std.proofs.Common.{◌≡◌, ℕ, suc, ◌+◌, ◌%◌, ◌<◌, Bool, true, false, cond, eqb, ltb, ◌≢◌, List, length, get_or, set, sym, refl, ap, ◌∙◌, subst, inl, inr, mod-eq_of_lt, arith}
use mathlib.Core.Option.{Option, some}
use Rattle.std.proofs.lemmas.List.{get_or_default, length-set}
use Rattle.std.proofs.lemmas.Bool.{eqb-true, ltb-false, ltb-true, cases_eq, ne_eqb}
use Rattle.boards.specs.Words.{empty_word, loaded, raised, stamp_limit, taken as Taken-word}
use Rattle.boards.proofs.Effects.{take_below, take_full}
use Rattle.line.specs.declared.access.Address.{Address}
use Rattle.line.specs.declared.access.Address.TheVariants.{Counter, Slot, Head, Tail, CellStamp}
use Rattle.line.specs.declared.access.Place.{Place}
use Rattle.line.specs.declared.access.Place.TheVariants.{Hand, CollectorsHand, Cell}
use Rattle.line.specs.declared.access.Shape.{Shape}
use Rattle.line.specs.declared.crew.Core.{Core}
use Rattle.line.specs.declared.lane.Attempt.{Attempt}
use Rattle.line.specs.declared.lane.Attempt.TheVariants.{First, Second}
use Rattle.line.specs.declared.lane.LaneRow.{LaneRow}
use Rattle.line.specs.declared.lane.Next.{Next}
use Rattle.line.specs.declared.lane.Next.TheVariants.{Goes, EndsPosted, EndsFull, EndsUsedUp}
use Rattle.line.specs.declared.lane.Stage.{Stage}
use Rattle.line.specs.declared.lane.Stage.TheVariants.{AtRest, TestSpace, TakeStamp, FillCell, MarkCell, Publish, Look, LoadHead, LoadFront, SwapSlot}
use Rattle.line.specs.Answers.{lane_told}
use Rattle.line.specs.Crew.{posted_after, row_of, with_row}
use Rattle.line.specs.Laws.{IsAddress, IsPlace}
use Rattle.line.specs.Map.{tray_of, word_of}
use Rattle.line.specs.Perform.{copied, trays_after, word_read, words_after}
use Rattle.line.specs.Post.{answer_at, lane_access, lane_next, next_tail, one_more, row_at, tail_after}
use Rattle.line.proofs.Places.{tray_below}
use Rattle.order.specs.Events.{Event, PostEnd}
use Rattle.order.specs.Accounts.{number_posted}
use Rattle.order.specs.Events.PostEnd.{as_full, as_posted, as_used_up}
use Rattle.order.specs.Events.Event.{ended_post, stepped_lane, took}
use Rattle.order.specs.Logs.{Log, log_step}
use Rattle.order.specs.Books.{Book, book_step}
use Rattle.order.specs.Tables.{upd}
use Rattle.order.proofs.Lists.{upd_other, upd_same}
use Rattle.order.proofs.Totals.{one_posted}
use Rattle.history.specs.Limits.{as_total, most_post_grants}
use Rattle.history.specs.Happening.{given_stamp, lane_event}
use Rattle.history.specs.Performing.{State, state_of}
use Rattle.history.proofs.Lanes.{LaneModel, LaneOk, Own, ends, front, goes, publishes, stores, whole}
use Rattle.history.proofs.Model.{LineModel, ModelOk, grant_lane, moved, taken, view}
use Rattle.history.proofs.Goods.{Goods, LaneTie, Match, Past}
use Rattle.history.proofs.LaneSteps.{heads_below, tails_below}
use Rattle.history.proofs.LaneTies.{Step, ends_full, ends_posted, ends_used_up, fills_cell, marks_cell, moves_past, publishes_it, takes, with_load, with_tray}
use Rattle.history.proofs.Ledger.{Ledger, ledger_ended_post, ledger_stepped_lane, ledger_took, rank, total_more, total_same, tries_few, tries_more}
use Rattle.history.proofs.Mirror.{Mirror, RowTie, copied_is, lane_memory, lane_memory_same, lies, memory, mirror_lane, slot_swaps, stock, trays_written, upd_when, words_written}
use Rattle.history.proofs.ModelSteps.{lane_granted_model}
use Rattle.history.proofs.Safe.{Leaves, Safe, leaves}

module _ {P : Type 0} (n K : ℕ) (S : State P) (g : Log P) (k : Book P) (v : Safe n K S g k) (r : ℕ) (below : r < v.model.n) where
  abbrev c : Core
  c = S.crew

  abbrev sh : Shape
  sh = S.crew.shape

  abbrev s : LineModel
  s = v.model

  abbrev l : LaneModel
  l = v.model.lanes r

  abbrev G : Goods P
  G = v.goods

  abbrev row : LaneRow
  row = row_of S.crew r

  m : Mirror S s G
  m = v.mirror

  tie : RowTie s.K row l
  tie = v.mirror.rows r below

  ok : LaneOk s.K s.counter s.now s.took l (view s.col r)
  ok = v.ok.posts r

  in_shape : r < sh.lanes
  in_shape = omega (arith, m.lanes)

  head_below : l.heads < s.K
  head_below = heads_below s.K s.counter s.now s.took l (view s.col r) ok

  tail_below : l.tails < s.K
  tail_below = tails_below s.K s.counter s.now s.took l (view s.col r) ok

  head_word : loaded S.words (word_of sh (Head r)) ≡ l.heads
  head_word = m.words (Head r) in_shape

  -- the head as the lane reads it
  head_read : loaded S.words (word_of sh (Head r)) % row.cells ≡ l.heads
  head_read =
      let e : l.heads % s.K ≡ l.heads = mod-eq_of_lt head_below in
      cc (head_word, tie.cells)

  next_is : next_tail row ≡ (l.tails + 1) % s.K
  next_is = cc (tie.tail, tie.cells)

  -- the outcome of a grant at a stage, by what comes next
  abbrev Result : Stage → Next → List ℕ → List P → Type 0
  Result at nx ws ps =
      Leaves n K g k (lane_event r at (given_stamp S) (lane_told (answer_at (one_more row.grants) nx)))
      (state_of ws ps (with_row c r (row_at row (tail_after row at) nx) (posted_after c.posted (answer_at (one_more row.grants) nx))))

  abbrev Granted : Stage → Type 0
  Granted at =
      Result at (lane_next row at (word_read sh (lane_access r row at) S.words)) (words_after sh (lane_access r row at) S.words)
      (trays_after sh (lane_access r row at) S.trays)

  -- the lane of the model changes to l', and the event is one of the lane
  closes : (e : Event P) (l' : LaneModel) (G' : Goods P) (ws : List ℕ) (ps : List P) (row' : LaneRow) (posted : ℕ)
      → (let s' = moved s (upd s.lanes r l') s.col in
      length ws ≡ length S.words → length ps ≡ length S.trays
      → ((b : Address) → IsAddress sh b → loaded ws (word_of sh b) ≡ memory s' b) → ((b : Place) → IsPlace sh b → lies ps (tray_of sh b) ≡ stock G' b)
      → RowTie s.K row' l' → l'.heads ≡ l.heads → ModelOk s' → Step s' G' k e → Ledger s' posted c.delivered (log_step g e) (book_step k e)
      → Leaves n K g k e (state_of ws ps (with_row c r row' posted)))
  closes e l' G' ws ps row' posted wl pl words goods t h o st lg =
      let s' = moved s (upd s.lanes r l') s.col in
      leaves n K g k (state_of ws ps (with_row c r row' posted)) e s' G' v.n_is v.KIs
      (mirror_lane S s G m r below ws ps row' posted l' s' G' refl refl refl refl wl pl words goods t h) o st lg

  -- a load: words and trays stay
  loads : (e : Event P) (l' : LaneModel) (row' : LaneRow) (posted : ℕ) → l'.slot ≡ l.slot → l'.heads ≡ l.heads → l'.tails ≡ l.tails → ((i : ℕ) → l'.cell i ≡ l.cell i)
      → (let s' = moved s (upd s.lanes r l') s.col in
      RowTie s.K row' l' → ModelOk s' → Step s' G k e → Ledger s' posted c.delivered (log_step g e) (book_step k e)
      → Leaves n K g k e (state_of S.words S.trays (with_row c r row' posted)))
  loads e l' row' posted f h i j t o st lg =
      let s' = moved s (upd s.lanes r l') s.col in
      closes e l' G S.words S.trays row' posted refl refl (λ b ib. m.words b ib ∙ sym (lane_memory_same s.lanes r l' s s' refl refl refl f h i j b)) m.goods t h o st lg

  goes_ledger : (at : Stage) (l' : LaneModel) → l.stage ≡ at → rank l'.stage ≡ suc (rank at) → suc (rank at) < most_post_grants
      → (let s' = moved s (upd s.lanes r l') s.col in Ledger s' c.posted c.delivered (log_step g (stepped_lane r)) (book_step k (stepped_lane r)))
  goes_ledger at l' e a b =
      ledger_stepped_lane s c.posted c.delivered g k v.ledger r l' (moved s (upd s.lanes r l') s.col) refl refl refl refl (rw e a) (rw e b)

  -- a load after which the post goes on
  moves_on : (at next : Stage) (row' : LaneRow) → l.stage ≡ at → RowTie s.K row' (goes l next) → rank next ≡ suc (rank at) → suc (rank at) < most_post_grants
      → (let s' = moved s (upd s.lanes r (goes l next)) s.col in
      ModelOk s' → Step s' G k (stepped_lane r) → Leaves n K g k (stepped_lane r) (state_of S.words S.trays (with_row c r row' c.posted)))
  moves_on at next row' e t a b o st = loads (stepped_lane r) (goes l next) row' c.posted refl refl refl (λ i. refl) t o st (goes_ledger at (goes l next) e a b)

  -- a post that ends without a frame, and one that ends posted
  ends_without : (how : PostEnd) (row' : LaneRow) → RowTie s.K row' (goes l AtRest)
      → (let s' = moved s (upd s.lanes r (goes l AtRest)) s.col in
      ModelOk s' → Step s' G k (ended_post r how) → c.posted ≡ as_total (one_posted {P = P} (ended_post r how) + number_posted g.ended)
      → Leaves n K g k (ended_post r how) (state_of S.words S.trays (with_row c r row' c.posted)))
  ends_without how row' t o st e =
      let s' = moved s (upd s.lanes r (goes l AtRest)) s.col in
      loads (ended_post r how) (goes l AtRest) row' c.posted refl refl refl (λ i. refl) t o st
      (ledger_ended_post s c.posted c.delivered g k v.ledger r (goes l AtRest) s' refl refl refl refl how c.posted st.admits e)

  posted_ledger : (x : ℕ) (l' : LaneModel) → (let s' = moved s (upd s.lanes r l') s.col in Step s' G k (ended_post r (as_posted x)) → Ledger s' (one_more c.posted) c.delivered (log_step g (ended_post r (as_posted x))) (book_step k (ended_post r (as_posted x))))
  posted_ledger x l' st =
      ledger_ended_post s c.posted c.delivered g k v.ledger r l' (moved s (upd s.lanes r l') s.col) refl refl refl refl (as_posted x) (one_more c.posted) st.admits
      (ap one_more v.ledger.posted_is ∙ total_more (number_posted g.ended))

  ended_step : (x σ : ℕ) → Own s.counter x (whole l.ring (view s.col r)) → Match r G.load s.took l.ended (k.waiting r) (front l.ring)
      → Past s.took G.load l.ring x (k.posts r) → Step (moved s (upd s.lanes r (ends l s.now x σ)) s.col) G k (ended_post r (as_posted x))
  ended_step x σ own mm past = ends_posted s v.ok G k v.tied r below x σ own mm past

  -- the post ends posted, and the slot is not touched
  ends_as_posted : (x : ℕ) (row' : LaneRow) → RowTie s.K row' (ends l s.now x l.slot)
      → Own s.counter x (whole l.ring (view s.col r)) → Match r G.load s.took l.ended (k.waiting r) (front l.ring) → Past s.took G.load l.ring x (k.posts r)
      → ModelOk (moved s (upd s.lanes r (ends l s.now x l.slot)) s.col)
      → Leaves n K g k (ended_post r (as_posted x)) (state_of S.words S.trays (with_row c r row' (one_more c.posted)))
  ends_as_posted x row' t own mm past o =
      let st = ended_step x l.slot own mm past in
      loads (ended_post r (as_posted x)) (ends l s.now x l.slot) row' (one_more c.posted) refl refl refl (λ i. refl) t o st (posted_ledger x (ends l s.now x l.slot) st)

  -- a row that goes on, or rests, with the tail where it is
  row_tie : (next : Stage) (x : ℕ) (l' : LaneModel) → l'.tails ≡ l.tails → l'.stage ≡ next → RowTie s.K (record { cells = row.cells; tail = row.tail; stage = next; grants = x }) l'
  row_tie next x l' e f = record { cells = tie.cells; tail = tie.tail ∙ sym e; stage = sym f }

  abbrev row_to : Stage → LaneRow
  row_to next = record { cells = row.cells; tail = row.tail; stage = next; grants = one_more row.grants }

  abbrev row_done : LaneRow
  row_done = record { cells = row.cells; tail = row.tail; stage = AtRest; grants = 0 }

  same_posted : c.posted ≡ as_total (0 + number_posted g.ended)
  same_posted = v.ledger.posted_is ∙ total_same (number_posted g.ended)

  old : LaneTie r s.K s.took G.load (G.hand r) (G.tray r) l (k.posts r) (k.waiting r)
  old = v.tied.lanes r below

  at_test_space : l.stage ≡ TestSpace → Granted TestSpace
  at_test_space e =
      let same : eqb (loaded S.words (word_of sh (Head r)) % row.cells) (next_tail row) ≡ eqb l.heads ((l.tails + 1) % s.K) = cc (head_read, next_is) in
      subst (λ (b : Bool). Result TestSpace (cond b EndsFull (Goes TakeStamp)) S.words S.trays) (sym same)
      (both (eqb l.heads ((l.tails + 1) % s.K)) refl (lane_granted_model s v.ok r TestSpace e))
    where
      both : (b : Bool) → eqb l.heads ((l.tails + 1) % s.K) ≡ b → ModelOk (moved s (upd s.lanes r (cond b (goes l AtRest) (goes l TakeStamp))) s.col)
          → Result TestSpace (cond b EndsFull (Goes TakeStamp)) S.words S.trays
      both true q o =
          ends_without as_full row_done (row_tie AtRest 0 (goes l AtRest) refl refl) o (ends_full s v.ok G k v.tied r below e (eqb-true l.heads ((l.tails + 1) % s.K) q)) same_posted
      both false q o =
          moves_on TestSpace TakeStamp (row_to TakeStamp) e (row_tie TakeStamp (one_more row.grants) (goes l TakeStamp) refl refl) refl (omega arith) o
          (moves_past s v.ok G k v.tied r below TakeStamp (rw e at old.waits) (rw e at old.post))

  at_look : (j : Attempt) (x : ℕ) → l.stage ≡ Look j x → Granted (Look j x)
  at_look j x e =
      let w : loaded S.words (word_of sh (Slot r)) ≡ l.slot = m.words (Slot r) in_shape in
      subst (λ (y : ℕ). Result (Look j x) (Goes (LoadHead j x y)) S.words S.trays) (sym w)
      (moves_on (Look j x) (LoadHead j x l.slot) (row_to (LoadHead j x l.slot)) e (row_tie (LoadHead j x l.slot) (one_more row.grants) (goes l (LoadHead j x l.slot)) refl refl)
      (tries_more j 5) (tries_few j 5 (omega arith)) (lane_granted_model s v.ok r (Look j x) e)
      (moves_past s v.ok G k v.tied r below (LoadHead j x l.slot) (rw e at old.waits) (rw e at old.post)))

  at_load_head : (j : Attempt) (x y : ℕ) → l.stage ≡ LoadHead j x y → Granted (LoadHead j x y)
  at_load_head j x y e =
      let same : eqb (loaded S.words (word_of sh (Head r)) % row.cells) row.tail ≡ eqb l.heads l.tails = cc (head_read, tie.tail) in
      subst (λ (b : Bool). Result (LoadHead j x y) (cond b (EndsPosted x) (Goes (LoadFront j x y (loaded S.words (word_of sh (Head r)) % row.cells)))) S.words S.trays) (sym same)
      (subst (λ (i : ℕ). Result (LoadHead j x y) (cond (eqb l.heads l.tails) (EndsPosted x) (Goes (LoadFront j x y i))) S.words S.trays) (sym head_read)
      (both (eqb l.heads l.tails) (lane_granted_model s v.ok r (LoadHead j x y) e)))
    where
      both : (b : Bool) → ModelOk (moved s (upd s.lanes r (cond b (ends l s.now x l.slot) (goes l (LoadFront j x y l.heads)))) s.col)
          → Result (LoadHead j x y) (cond b (EndsPosted x) (Goes (LoadFront j x y l.heads))) S.words S.trays
      both true o = ends_as_posted x row_done (row_tie AtRest 0 (ends l s.now x l.slot) refl refl) (rw e at ok.stage) (rw e at old.waits) (rw e at old.post) o
      both false o =
          moves_on (LoadHead j x y) (LoadFront j x y l.heads) (row_to (LoadFront j x y l.heads)) e (row_tie (LoadFront j x y l.heads) (one_more row.grants) (goes l (LoadFront j x y l.heads)) refl refl)
          (tries_more j 6) (tries_few j 6 (omega arith)) o (moves_past s v.ok G k v.tied r below (LoadFront j x y l.heads) (rw e at old.waits) (rw e at old.post))

  at_load_front : (j : Attempt) (x y i : ℕ) → l.stage ≡ LoadFront j x y i → Granted (LoadFront j x y i)
  at_load_front j x y i e =
      let (own, low) : Own s.counter x (whole l.ring (view s.col r)) × (i < s.K) = rw e at ok.stage in
      let w : loaded S.words (word_of sh (CellStamp r i)) ≡ l.cell i = m.words (CellStamp r i) (in_shape, omega (arith, m.cells)) in
      let same : eqb (loaded S.words (word_of sh (CellStamp r i))) x ≡ eqb (l.cell i) x = ap (λ (z : ℕ). eqb z x) w in
      subst (λ (b : Bool). Result (LoadFront j x y i) (cond b (Goes (SwapSlot j x y)) (EndsPosted x)) S.words S.trays) (sym same)
      (both own (eqb (l.cell i) x) (lane_granted_model s v.ok r (LoadFront j x y i) e))
    where
      both : Own s.counter x (whole l.ring (view s.col r)) → (b : Bool) → ModelOk (moved s (upd s.lanes r (cond b (goes l (SwapSlot j x y)) (ends l s.now x l.slot))) s.col)
          → Result (LoadFront j x y i) (cond b (Goes (SwapSlot j x y)) (EndsPosted x)) S.words S.trays
      both own true o =
          moves_on (LoadFront j x y i) (SwapSlot j x y) (row_to (SwapSlot j x y)) e (row_tie (SwapSlot j x y) (one_more row.grants) (goes l (SwapSlot j x y)) refl refl)
          (tries_more j 7) (tries_few j 7 (omega arith)) o (moves_past s v.ok G k v.tied r below (SwapSlot j x y) (rw e at old.waits) (rw e at old.post))
      both own false o = ends_as_posted x row_done (row_tie AtRest 0 (ends l s.now x l.slot) refl refl) own (rw e at old.waits) (rw e at old.post) o

  -- the swap went through: the slot holds the own stamp, and the post ends posted
  swaps_slot : (j : Attempt) (x y : ℕ) → l.stage ≡ SwapSlot j x y → ModelOk (moved s (upd s.lanes r (ends l s.now x x)) s.col) → Result (SwapSlot j x y) (EndsPosted x) (set S.words (word_of sh (Slot r)) x) S.trays
  swaps_slot j x y e o =
      let l' = ends l s.now x x in
      let s' = moved s (upd s.lanes r l') s.col in
      let st = ended_step x x (rw e at ok.stage) (rw e at old.waits) (rw e at old.post) in
      closes (ended_post r (as_posted x)) l' G (set S.words (word_of sh (Slot r)) x) S.trays row_done (one_more c.posted) (length-set S.words (word_of sh (Slot r)) x) refl
      (words_written sh S.words m.board (Slot r) x (memory s) (memory s') in_shape (ap (λ (z : LaneModel). z.slot) (upd_same s.lanes r l'))
      (lane_memory s.lanes r l' s s' (Slot r) refl refl refl (λ z. absurd (z refl)) (λ z. refl) (λ z. refl) (λ i z. refl)) m.words)
      m.goods (row_tie AtRest 0 l' refl refl) refl o st (posted_ledger x l' st)

  at_swap_slot : (j : Attempt) (x y : ℕ) → l.stage ≡ SwapSlot j x y → Granted (SwapSlot j x y)
  at_swap_slot j x y e =
      subst (λ (b : Bool). Result (SwapSlot j x y) (lane_next row (SwapSlot j x y) (cond b 1 0)) (cond b (set S.words (word_of sh (Slot r)) x) S.words) S.trays) (sym (slot_swaps S s G m r y below))
      (by_attempt j e (lane_granted_model s v.ok r (SwapSlot j x y) e))
    where
      by_attempt : (j : Attempt) → l.stage ≡ SwapSlot j x y → ModelOk (grant_lane s r (SwapSlot j x y))
          → Result (SwapSlot j x y) (lane_next row (SwapSlot j x y) (cond (eqb l.slot y) 1 0)) (cond (eqb l.slot y) (set S.words (word_of sh (Slot r)) x) S.words) S.trays
      by_attempt First e o = both (eqb l.slot y) o
        where
          both : (b : Bool) → ModelOk (moved s (upd s.lanes r (cond b (ends l s.now x x) (goes l (Look Second x)))) s.col)
              → Result (SwapSlot First x y) (lane_next row (SwapSlot First x y) (cond b 1 0)) (cond b (set S.words (word_of sh (Slot r)) x) S.words) S.trays
          both true o = swaps_slot First x y e o
          both false o =
              moves_on (SwapSlot First x y) (Look Second x) (row_to (Look Second x)) e (row_tie (Look Second x) (one_more row.grants) (goes l (Look Second x)) refl refl)
              refl (omega arith) o (moves_past s v.ok G k v.tied r below (Look Second x) (rw e at old.waits) (rw e at old.post))
      by_attempt Second e o = both (eqb l.slot y) o
        where
          both : (b : Bool) → ModelOk (moved s (upd s.lanes r (cond b (ends l s.now x x) (ends l s.now x l.slot))) s.col)
              → Result (SwapSlot Second x y) (EndsPosted x) (cond b (set S.words (word_of sh (Slot r)) x) S.words) S.trays
          both true o = swaps_slot Second x y e o
          both false o = ends_as_posted x row_done (row_tie AtRest 0 (ends l s.now x l.slot) refl refl) (rw e at ok.stage) (rw e at old.waits) (rw e at old.post) o

  -- the payload goes from the hand into the cell at the tail
  filled_goods : (x : P) → G.hand r ≡ some x → (b : Place) → IsPlace sh b → lies (set S.trays (tray_of sh (Cell r l.tails)) x) (tray_of sh b) ≡ stock (with_tray G r (upd (G.tray r) l.tails (G.hand r))) b
  filled_goods x hx =
      trays_written sh S.trays m.room (Cell r l.tails) x (stock G) (stock (with_tray G r (upd (G.tray r) l.tails (G.hand r)))) (in_shape, omega (arith, tail_below, m.cells))
      (ap (λ (f : ℕ → Option P). f l.tails) (upd_same G.tray r (upd (G.tray r) l.tails (G.hand r))) ∙ upd_same (G.tray r) l.tails (G.hand r) ∙ hx)
      others m.goods
    where
      others : (b : Place) → b ≢ Cell r l.tails → stock (with_tray G r (upd (G.tray r) l.tails (G.hand r))) b ≡ stock G b
      others (Hand q) z = refl
      others CollectorsHand z = refl
      others (Cell q i) z =
          elim (cases_eq q r) [
            | inl e ↦
                let ni : i ≢ l.tails = λ f. z (ap (λ (q : ℕ). Cell q i) e ∙ ap (Cell r) f) in
                ap (λ (f : ℕ → Option P). f i) (upd_when G.tray r q (upd (G.tray r) l.tails (G.hand r)) e) ∙ upd_other (G.tray r) l.tails (G.hand r) i ni ∙ ap (λ (q : ℕ). G.tray q i) (sym e)
            | inr ne ↦ ap (λ (f : ℕ → Option P). f i) (upd_other G.tray r (upd (G.tray r) l.tails (G.hand r)) q ne)
          ]

  at_fill_cell : (x : ℕ) → l.stage ≡ FillCell x → Granted (FillCell x)
  at_fill_cell x e =
      let (y, ly, is) = copied_is S.trays (tray_of sh (Hand r)) (tray_of sh (Cell r l.tails)) (omega (arith, tray_below sh (Hand r) in_shape, m.room)) in
      let hy : G.hand r ≡ some y = sym (m.goods (Hand r) in_shape) ∙ ly in
      let st = fills_cell s v.ok G k v.tied r below x e in
      subst (λ (t : ℕ). Result (FillCell x) (Goes (MarkCell x)) S.words (copied S.trays (tray_of sh (Hand r)) (tray_of sh (Cell r t)))) (sym tie.tail)
      (subst (λ (ps : List P). Result (FillCell x) (Goes (MarkCell x)) S.words ps) (sym is)
      (closes (stepped_lane r) (goes l (MarkCell x)) (with_tray G r (upd (G.tray r) l.tails (G.hand r))) S.words (set S.trays (tray_of sh (Cell r l.tails)) y) (row_to (MarkCell x)) c.posted
      refl (length-set S.trays (tray_of sh (Cell r l.tails)) y)
      (λ b ib. m.words b ib ∙ sym (lane_memory_same s.lanes r (goes l (MarkCell x)) s (moved s (upd s.lanes r (goes l (MarkCell x))) s.col) refl refl refl refl refl refl (λ i. refl) b))
      (filled_goods y hy) (row_tie (MarkCell x) (one_more row.grants) (goes l (MarkCell x)) refl refl) refl (lane_granted_model s v.ok r (FillCell x) e) st
      (goes_ledger (FillCell x) (goes l (MarkCell x)) e refl (omega arith))))

  at_mark_cell : (x : ℕ) → l.stage ≡ MarkCell x → Granted (MarkCell x)
  at_mark_cell x e =
      let l' = stores l x in
      let s' = moved s (upd s.lanes r l') s.col in
      subst (λ (t : ℕ). Result (MarkCell x) (Goes (Publish x)) (set S.words (word_of sh (CellStamp r t)) x) S.trays) (sym tie.tail)
      (closes (stepped_lane r) l' G (set S.words (word_of sh (CellStamp r l.tails)) x) S.trays (row_to (Publish x)) c.posted
      (length-set S.words (word_of sh (CellStamp r l.tails)) x) refl
      (words_written sh S.words m.board (CellStamp r l.tails) x (memory s) (memory s') (in_shape, omega (arith, tail_below, m.cells))
      (ap (λ (z : LaneModel). z.cell l.tails) (upd_same s.lanes r l') ∙ upd_same l.cell l.tails x)
      (lane_memory s.lanes r l' s s' (CellStamp r l.tails) refl refl refl (λ z. refl) (λ z. refl) (λ z. refl)
      (λ i z. let ni : i ≢ l.tails = λ f. z (ap (CellStamp r) f) in rw (ne_eqb i l.tails ni) refl)) m.words)
      m.goods (row_tie (Publish x) (one_more row.grants) l' refl refl) refl (lane_granted_model s v.ok r (MarkCell x) e) (marks_cell s v.ok G k v.tied r below x e)
      (goes_ledger (MarkCell x) l' e refl (omega arith)))

  at_publish : (x : ℕ) → l.stage ≡ Publish x → Granted (Publish x)
  at_publish x e =
      let l' = publishes s.K l x in
      let s' = moved s (upd s.lanes r l') s.col in
      closes (stepped_lane r) l' G (set S.words (word_of sh (Tail r)) (next_tail row)) S.trays
      (record { cells = row.cells; tail = next_tail row; stage = Look First x; grants = one_more row.grants }) c.posted
      (length-set S.words (word_of sh (Tail r)) (next_tail row)) refl
      (words_written sh S.words m.board (Tail r) (next_tail row) (memory s) (memory s') in_shape
      (ap (λ (z : LaneModel). z.tails) (upd_same s.lanes r l') ∙ sym next_is)
      (lane_memory s.lanes r l' s s' (Tail r) refl refl refl (λ z. refl) (λ z. refl) (λ z. absurd (z refl)) (λ i z. refl)) m.words)
      m.goods (record { cells = tie.cells; tail = next_is; stage = refl }) refl (lane_granted_model s v.ok r (Publish x) e) (publishes_it s v.ok G k v.tied r below x e)
      (goes_ledger (Publish x) l' e refl (omega arith))

  -- the counter
  counter_low : word_of sh Counter < length S.words
  counter_low = omega (arith, m.board)

  counter_word : get_or S.words (word_of sh Counter) 0 ≡ s.counter
  counter_word = get_or_default S.words (word_of sh Counter) 0 empty_word counter_low ∙ m.words Counter tt

  -- the model as the stamp is taken has the counter one higher
  taken_memory : (b : Address) → b ≢ Counter → memory (taken s r) b ≡ memory s b
  taken_memory Counter z = absurd (z refl)
  taken_memory (Slot q) z = lane_memory_same s.lanes r (goes l (FillCell s.counter)) s (moved s (upd s.lanes r (goes l (FillCell s.counter))) s.col) refl refl refl refl refl refl (λ i. refl) (Slot q)
  taken_memory (Head q) z = lane_memory_same s.lanes r (goes l (FillCell s.counter)) s (moved s (upd s.lanes r (goes l (FillCell s.counter))) s.col) refl refl refl refl refl refl (λ i. refl) (Head q)
  taken_memory (Tail q) z = lane_memory_same s.lanes r (goes l (FillCell s.counter)) s (moved s (upd s.lanes r (goes l (FillCell s.counter))) s.col) refl refl refl refl refl refl (λ i. refl) (Tail q)
  taken_memory (CellStamp q i) z = lane_memory_same s.lanes r (goes l (FillCell s.counter)) s (moved s (upd s.lanes r (goes l (FillCell s.counter))) s.col) refl refl refl refl refl refl (λ i. refl) (CellStamp q i)

  -- the outcome of the take, by the word read, the stamp given and the words left
  abbrev Outcome : ℕ → ℕ → List ℕ → Type 0
  Outcome w given ws =
      Leaves n K g k (lane_event r TakeStamp given (lane_told (answer_at (one_more row.grants) (cond (eqb w stamp_limit) EndsUsedUp (Goes (FillCell w))))))
      (state_of ws S.trays (with_row c r (row_at row row.tail (cond (eqb w stamp_limit) EndsUsedUp (Goes (FillCell w)))) (posted_after c.posted (answer_at (one_more row.grants) (cond (eqb w stamp_limit) EndsUsedUp (Goes (FillCell w)))))))

  at_take_stamp : l.stage ≡ TakeStamp → Granted TakeStamp
  at_take_stamp e = both (ltb s.counter stamp_limit) refl (lane_granted_model s v.ok r TakeStamp e)
    where
      takes_one : s.counter < stamp_limit → ModelOk (taken s r) → Outcome s.counter s.counter (set S.words (word_of sh Counter) (s.counter + 1))
      takes_one lt o =
          let st = takes s v.ok G k v.tied r below e in
          let l' = goes l (FillCell s.counter) in
          subst (λ (b : Bool). Leaves n K g k (lane_event r TakeStamp s.counter (lane_told (answer_at (one_more row.grants) (cond b EndsUsedUp (Goes (FillCell s.counter))))))
          (state_of (set S.words (word_of sh Counter) (s.counter + 1)) S.trays (with_row c r (row_at row row.tail (cond b EndsUsedUp (Goes (FillCell s.counter)))) (posted_after c.posted (answer_at (one_more row.grants) (cond b EndsUsedUp (Goes (FillCell s.counter))))))))
          (sym (ne_eqb s.counter stamp_limit (omega arith)))
          (leaves n K g k (state_of (set S.words (word_of sh Counter) (s.counter + 1)) S.trays (with_row c r (row_to (FillCell s.counter)) c.posted)) (took r s.counter) (taken s r) (with_load G s.counter (G.hand r)) v.n_is v.KIs
          (mirror_lane S s G m r below (set S.words (word_of sh Counter) (s.counter + 1)) S.trays (row_to (FillCell s.counter)) c.posted l' (taken s r) (with_load G s.counter (G.hand r)) refl refl refl refl
          (length-set S.words (word_of sh Counter) (s.counter + 1)) refl
          (words_written sh S.words m.board Counter (s.counter + 1) (memory s) (memory (taken s r)) tt (omega arith) taken_memory m.words)
          (λ b ib. m.goods b ib ∙ same_stock b) (row_tie (FillCell s.counter) (one_more row.grants) l' refl refl) refl)
          o st
          (ledger_took s c.posted c.delivered g k v.ledger r l' (taken s r) refl refl refl refl s.counter st.admits (rw e refl) (rw e (omega arith))))
        where
          same_stock : (b : Place) → stock G b ≡ stock (with_load G s.counter (G.hand r)) b
          same_stock (Hand q) = refl
          same_stock CollectorsHand = refl
          same_stock (Cell q i) = refl

      none_left : (s.counter ≡ stamp_limit) → ModelOk (moved s (upd s.lanes r (goes l AtRest)) s.col) → (given : ℕ) → Outcome stamp_limit given S.words
      none_left q o given =
          ends_without as_used_up row_done (row_tie AtRest 0 (goes l AtRest) refl refl) o (ends_used_up s v.ok G k v.tied r below e) same_posted

      both : (b : Bool) → ltb s.counter stamp_limit ≡ b → ModelOk (cond b (taken s r) (moved s (upd s.lanes r (goes l AtRest)) s.col))
          → Outcome (Taken-word S.words (word_of sh Counter)) (Taken-word S.words (word_of sh Counter)) (raised S.words (word_of sh Counter))
      both true q o =
          let lt = ltb-true s.counter stamp_limit q in
          let (a, b) = take_below S.words (word_of sh Counter) counter_low (omega (arith, counter_word)) in
          let w : Taken-word S.words (word_of sh Counter) ≡ s.counter = a ∙ counter_word in
          let ws : raised S.words (word_of sh Counter) ≡ set S.words (word_of sh Counter) (s.counter + 1) = b ∙ ap (λ (z : ℕ). set S.words (word_of sh Counter) (z + 1)) counter_word in
          subst (λ (z : ℕ). Outcome z z (raised S.words (word_of sh Counter))) (sym w) (subst (λ (z : List ℕ). Outcome s.counter s.counter z) (sym ws) (takes_one lt o))
      both false q o =
          let ge = ltb-false s.counter stamp_limit q in
          let (a, b) = take_full S.words (word_of sh Counter) counter_low (omega (arith, counter_word)) in
          subst (λ (z : ℕ). Outcome z z (raised S.words (word_of sh Counter))) (sym a) (subst (λ (z : List ℕ). Outcome stamp_limit stamp_limit z) (sym b) (none_left (omega (arith, v.ok.top)) o stamp_limit))

  -- a grant of a lane whose post is under way
  pub granted : (at : Stage) → row.stage ≡ at → at ≢ AtRest → Granted at
  granted AtRest e z = absurd (z refl)
  granted TestSpace e z = at_test_space (sym tie.stage ∙ e)
  granted TakeStamp e z = at_take_stamp (sym tie.stage ∙ e)
  granted (FillCell x) e z = at_fill_cell x (sym tie.stage ∙ e)
  granted (MarkCell x) e z = at_mark_cell x (sym tie.stage ∙ e)
  granted (Publish x) e z = at_publish x (sym tie.stage ∙ e)
  granted (Look j x) e z = at_look j x (sym tie.stage ∙ e)
  granted (LoadHead j x y) e z = at_load_head j x y (sym tie.stage ∙ e)
  granted (LoadFront j x y i) e z = at_load_front j x y i (sym tie.stage ∙ e)
  granted (SwapSlot j x y) e z = at_swap_slot j x y (sym tie.stage ∙ e)
