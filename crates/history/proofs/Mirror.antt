-- The state of a line as its model has it: words by their address, trays by their place, rows, head copies and the collector.
--
-- memory    the word that the model has at an address
-- stock     the payload that the goods have at a place
-- lies      what lies in a tray, if there is one of that number
use Rattle.std.proofs.Common.{◌≡◌, ℕ, zero, suc, ◌<◌, ◌≤◌, Bool, cond, ◌&&◌, eqb, ◌≢◌, List, [], ◌∷◌, length, get_or, drop, set, sym, refl, ap, ◌∙◌, inl, inr, arith}
use mathlib.Core.Option.{Option, none, some}
use Rattle.std.proofs.lemmas.List.{get_or_default, get_or-set_other, get_or-set_same, length-set}
use Rattle.std.proofs.lemmas.Bool.{cases_eq, eq-eqb, lt-ltb, ne_eqb}
use Rattle.boards.specs.Words.{empty_word, loaded, swaps}
use Rattle.line.specs.declared.access.Address.{Address}
use Rattle.line.specs.declared.access.Address.TheVariants.{Counter, Slot, Head, Tail, CellStamp}
use Rattle.line.specs.declared.access.Place.{Place}
use Rattle.line.specs.declared.access.Place.TheVariants.{Hand, CollectorsHand, Cell}
use Rattle.line.specs.declared.access.Shape.{Shape}
use Rattle.line.specs.declared.collector.CollectStage.{CollectStage}
use Rattle.line.specs.declared.collector.CollectStage.TheVariants.{Idle, ScanFirst, ScanSecond, Fetch, Free, SeeSlot, SeeTail, SeeFront, RefreshSlot, Ended}
use Rattle.line.specs.declared.collector.Collector.{Collector}
use Rattle.line.specs.declared.lane.LaneRow.{LaneRow}
use Rattle.line.specs.Collect.{head_of}
use Rattle.line.specs.Crew.{resting_row, row_of, with_collector, with_row}
use Rattle.line.specs.Laws.{IsAddress, IsPlace}
use Rattle.line.specs.Map.{tray_of, trays_needed, word_of, words_needed}
use Rattle.line.specs.Perform.{copied, put_first}
use Rattle.line.proofs.Places.{each_address_has_its_own_word, each_place_has_its_own_tray, word_below}
use Rattle.order.specs.Tables.{upd}
use Rattle.order.proofs.Lists.{upd_other}
use Rattle.history.specs.Performing.{State, state_of}
use Rattle.history.proofs.Lanes.{LaneModel}
use Rattle.history.proofs.Model.{LineModel, Progress}
use Rattle.history.proofs.Model.Progress.{rest, scan, scan_kept, again, fetch, frees, looking, tailing, fronting, swapping}
use Rattle.history.proofs.Goods.{Goods}
use Rattle.history.proofs.LaneTies.{by_lane}

abbrev pub memory : LineModel → Address → ℕ
memory s Counter = s.counter
memory s (Slot q) = (s.lanes q).slot
memory s (Head q) = (s.lanes q).heads
memory s (Tail q) = (s.lanes q).tails
memory s (CellStamp q i) = (s.lanes q).cell i

abbrev pub stock : {P : Type 0} → Goods P → Place → Option P
stock G (Hand q) = G.hand q
stock G CollectorsHand = G.fetched
stock G (Cell q i) = G.tray q i

abbrev pub lies : {P : Type 0} → List P → ℕ → Option P
lies [] i = none
lies (x ∷ xs) zero = some x
lies (x ∷ xs) (suc i) = lies xs i

abbrev pub progress_of : CollectStage → Progress
progress_of Idle = rest
progress_of (ScanFirst i best) = cond (eqb best.stamp empty_word) (scan i) (scan_kept i best.lane best.stamp)
progress_of (ScanSecond i bound best) = again i bound best.lane best.stamp
progress_of (Fetch best) = fetch best.lane best.stamp
progress_of (Free best) = frees best.lane best.stamp
progress_of (SeeSlot attempt best) = looking best.lane attempt best.stamp
progress_of (SeeTail attempt best seen) = tailing best.lane attempt best.stamp seen
progress_of (SeeFront attempt best seen) = fronting best.lane attempt best.stamp seen
progress_of (RefreshSlot attempt best seen fresh) = swapping best.lane attempt best.stamp seen fresh
progress_of (Ended how) = rest

pub record RowTie (K : ℕ) (row : LaneRow) (l : LaneModel) : Type 0 where
  pub cells : row.cells ≡ K
  pub tail : row.tail ≡ l.tails
  pub stage : row.stage ≡ l.stage

pub record Mirror {P : Type 0} (S : State P) (s : LineModel) (G : Goods P) : Type 0 where
  pub lanes : S.crew.shape.lanes ≡ s.n
  pub cells : S.crew.shape.cells ≡ s.K
  pub few : s.n ≤ 16
  pub some_lane : 0 < s.n
  pub some_cell : 1 < s.K
  pub board : words_needed S.crew.shape ≤ length S.words
  pub room : trays_needed S.crew.shape ≤ length S.trays
  pub words : (a : Address) → IsAddress S.crew.shape a → loaded S.words (word_of S.crew.shape a) ≡ memory s a
  pub goods : (p : Place) → IsPlace S.crew.shape p → lies S.trays (tray_of S.crew.shape p) ≡ stock G p
  pub rows_long : length S.crew.rows ≡ 16
  pub heads_long : length S.crew.heads ≡ 16
  pub rows : (q : ℕ) → q < s.n → RowTie s.K (row_of S.crew q) (s.lanes q)
  pub heads : (q : ℕ) → q < s.n → head_of S.crew.heads q ≡ (s.lanes q).heads
  pub col : progress_of S.crew.collector.stage ≡ s.col

-- trays
module _ {P : Type 0} where
  lies_set : (ps : List P) (i : ℕ) (x : P) → i < length ps → lies (set ps i x) i ≡ some x
  lies_set [] i x h = absurd (omega arith)
  lies_set (y ∷ ps) zero x h = refl
  lies_set (y ∷ ps) (suc i) x h = lies_set ps i x (omega arith)

  lies_other : (ps : List P) (i j : ℕ) (x : P) → j ≢ i → lies (set ps i x) j ≡ lies ps j
  lies_other [] i j x n = refl
  lies_other (y ∷ ps) zero zero x n = absurd (n refl)
  lies_other (y ∷ ps) zero (suc j) x n = refl
  lies_other (y ∷ ps) (suc i) zero x n = refl
  lies_other (y ∷ ps) (suc i) (suc j) x n = lies_other ps i j x (λ e. n (ap suc e))

  -- the tray of a number below the length, and the list from it on
  pub some_lies : (ps : List P) (i : ℕ) → i < length ps → (x : P) × (lies ps i ≡ some x) × (xs : List P) × (drop i ps ≡ x ∷ xs)
  some_lies [] i h = absurd (omega arith)
  some_lies (y ∷ ps) zero h = (y, refl, ps, refl)
  some_lies (y ∷ ps) (suc i) h = some_lies ps i (omega arith)

  pub copied_is : (ps : List P) (from to : ℕ) → from < length ps → (x : P) × (lies ps from ≡ some x) × (copied ps from to ≡ set ps to x)
  copied_is ps from to h = let (x, e, xs, d) = some_lies ps from h in (x, e, ap (put_first ps to) d)

-- one word, or one tray, is written, and the model has it written too
module _ (sh : Shape) (ws : List ℕ) (long : words_needed sh ≤ length ws) where
  pub words_written : (a : Address) (v : ℕ) (M M' : Address → ℕ) → IsAddress sh a → M' a ≡ v → ((b : Address) → b ≢ a → M' b ≡ M b)
      → ((b : Address) → IsAddress sh b → loaded ws (word_of sh b) ≡ M b) → (b : Address) → IsAddress sh b → loaded (set ws (word_of sh a) v) (word_of sh b) ≡ M' b
  words_written a v M M' ia here there h b ib =
      let (low, own) = each_address_has_its_own_word sh a b ia ib in
      elim (cases_eq (word_of sh b) (word_of sh a)) [
        | inl e ↦ ap (λ (i : ℕ). get_or (set ws (word_of sh a) v) i empty_word) e ∙ get_or-set_same ws (word_of sh a) v empty_word (omega arith) ∙ sym here ∙ ap M' (own (sym e))
        | inr n ↦ get_or-set_other ws (word_of sh a) (word_of sh b) v empty_word n ∙ h b ib ∙ sym (there b (λ e. n (ap (word_of sh) e)))
      ]

module _ {P : Type 0} (sh : Shape) (ps : List P) (long : trays_needed sh ≤ length ps) where
  pub trays_written : (a : Place) (x : P) (M M' : Place → Option P) → IsPlace sh a → M' a ≡ some x → ((b : Place) → b ≢ a → M' b ≡ M b)
      → ((b : Place) → IsPlace sh b → lies ps (tray_of sh b) ≡ M b) → (b : Place) → IsPlace sh b → lies (set ps (tray_of sh a) x) (tray_of sh b) ≡ M' b
  trays_written a x M M' ia here there h b ib =
      let (low, own) = each_place_has_its_own_tray sh a b ia ib in
      elim (cases_eq (tray_of sh b) (tray_of sh a)) [
        | inl e ↦ ap (λ (i : ℕ). lies (set ps (tray_of sh a) x) i) e ∙ lies_set ps (tray_of sh a) x (omega arith) ∙ sym here ∙ ap M' (own (sym e))
        | inr n ↦ lies_other ps (tray_of sh a) (tray_of sh b) x n ∙ h b ib ∙ sym (there b (λ e. n (ap (tray_of sh) e)))
      ]

pub upd_when : {X : Type 0} (f : ℕ → X) (i j : ℕ) (a : X) → j ≡ i → upd f i a j ≡ a
upd_when f i j a e = rw (eq-eqb j i e) refl

-- the memory of the model, with the same lanes and the same counter
pub same_memory : (s s' : LineModel) → s'.counter ≡ s.counter → s'.lanes ≡ s.lanes → (b : Address) → memory s b ≡ memory s' b
same_memory s s' c l Counter = sym c
same_memory s s' c l (Slot q) = ap (λ (ls : ℕ → LaneModel). (ls q).slot) (sym l)
same_memory s s' c l (Head q) = ap (λ (ls : ℕ → LaneModel). (ls q).heads) (sym l)
same_memory s s' c l (Tail q) = ap (λ (ls : ℕ → LaneModel). (ls q).tails) (sym l)
same_memory s s' c l (CellStamp q i) = ap (λ (ls : ℕ → LaneModel). (ls q).cell i) (sym l)

-- the memory of the model as one lane changes: all but the word at one address, or all of it
module _ (ls : ℕ → LaneModel) (r : ℕ) (l : LaneModel) where
  -- what the lane keeps of itself, all lanes keep
  pub field_here : {X : Type 0} (f : LaneModel → X) (q : ℕ) → (q ≡ r → f l ≡ f (ls r)) → f (upd ls r l q) ≡ f (ls q)
  field_here f q h = elim (cases_eq q r) [ inl e ↦ ap f (upd_when ls r q l e) ∙ h e ∙ ap (λ (i : ℕ). f (ls i)) (sym e) | inr n ↦ ap f (upd_other ls r l q n) ]

  pub lane_memory : (s s' : LineModel) (a : Address) → s.lanes ≡ ls → s'.lanes ≡ upd ls r l → s'.counter ≡ s.counter
      → (Slot r ≢ a → l.slot ≡ (ls r).slot) → (Head r ≢ a → l.heads ≡ (ls r).heads) → (Tail r ≢ a → l.tails ≡ (ls r).tails)
      → ((i : ℕ) → CellStamp r i ≢ a → l.cell i ≡ (ls r).cell i) → (b : Address) → b ≢ a → memory s' b ≡ memory s b
  lane_memory s s' a x y z f g h k Counter n = z
  lane_memory s s' a x y z f g h k (Slot q) n = rw (x, y) (field_here (λ m. m.slot) q (λ e. f (λ i. n (ap Slot e ∙ i))))
  lane_memory s s' a x y z f g h k (Head q) n = rw (x, y) (field_here (λ m. m.heads) q (λ e. g (λ i. n (ap Head e ∙ i))))
  lane_memory s s' a x y z f g h k (Tail q) n = rw (x, y) (field_here (λ m. m.tails) q (λ e. h (λ i. n (ap Tail e ∙ i))))
  lane_memory s s' a x y z f g h k (CellStamp q j) n = rw (x, y) (field_here (λ m. m.cell j) q (λ e. k j (λ i. n (ap (λ (q : ℕ). CellStamp q j) e ∙ i))))

  pub lane_memory_same : (s s' : LineModel) → s.lanes ≡ ls → s'.lanes ≡ upd ls r l → s'.counter ≡ s.counter
      → l.slot ≡ (ls r).slot → l.heads ≡ (ls r).heads → l.tails ≡ (ls r).tails → ((i : ℕ) → l.cell i ≡ (ls r).cell i) → (b : Address) → memory s' b ≡ memory s b
  lane_memory_same s s' x y z f g h k Counter = z
  lane_memory_same s s' x y z f g h k (Slot q) = rw (x, y) (field_here (λ m. m.slot) q (λ e. f))
  lane_memory_same s s' x y z f g h k (Head q) = rw (x, y) (field_here (λ m. m.heads) q (λ e. g))
  lane_memory_same s s' x y z f g h k (Tail q) = rw (x, y) (field_here (λ m. m.tails) q (λ e. h))
  lane_memory_same s s' x y z f g h k (CellStamp q j) = rw (x, y) (field_here (λ m. m.cell j) q (λ e. k j))

-- a lane's call: its row, perhaps one word and one tray, and the total of posted frames change
module _ {P : Type 0} (S : State P) (s : LineModel) (G : Goods P) (m : Mirror S s G) (r : ℕ) (below : r < s.n) where
  pub mirror_lane : (ws : List ℕ) (ps : List P) (row : LaneRow) (posted : ℕ) (l : LaneModel) (s' : LineModel) (G' : Goods P)
      → s'.n ≡ s.n → s'.K ≡ s.K → s'.lanes ≡ upd s.lanes r l → s'.col ≡ s.col
      → length ws ≡ length S.words → length ps ≡ length S.trays
      → ((b : Address) → IsAddress S.crew.shape b → loaded ws (word_of S.crew.shape b) ≡ memory s' b)
      → ((b : Place) → IsPlace S.crew.shape b → lies ps (tray_of S.crew.shape b) ≡ stock G' b)
      → RowTie s.K row l → l.heads ≡ (s.lanes r).heads → Mirror (state_of ws ps (with_row S.crew r row posted)) s' G'
  mirror_lane ws ps row posted l s' G' n_is KIs lanes-are col-is ws-long ps-long words goods tie heads =
      record {
        lanes = m.lanes ∙ sym n_is;
        cells = m.cells ∙ sym KIs;
        few = omega (arith, m.few);
        some_lane = omega (arith, m.some_lane);
        some_cell = omega (arith, m.some_cell);
        board = omega (arith, m.board);
        room = omega (arith, m.room);
        words = words;
        goods = goods;
        rows_long = length-set S.crew.rows r row ∙ m.rows_long;
        heads_long = m.heads_long;
        rows =
            by_lane r (λ q. q < s'.n → RowTie s'.K (get_or (set S.crew.rows r row) q (resting_row 0)) (s'.lanes q))
            (λ _. rw (KIs, lanes-are, get_or-set_same S.crew.rows r row (resting_row 0) (omega (arith, m.rows_long, m.few)), eq-eqb r r refl) tie)
            (λ q n b. rw (KIs, lanes-are, get_or-set_other S.crew.rows r q row (resting_row 0) n, ne_eqb q r n) (m.rows q (omega arith)));
        heads =
            by_lane r (λ q. q < s'.n → head_of S.crew.heads q ≡ (s'.lanes q).heads)
            (λ _. rw (lanes-are, eq-eqb r r refl) (m.heads r below ∙ sym heads))
            (λ q n b. rw (lanes-are, ne_eqb q r n) (m.heads q (omega arith)));
        col = m.col ∙ sym col-is;
      }

-- a call of the collector: its stage and grants, perhaps one word, one tray, one head copy, and the total of delivered frames
module _ {P : Type 0} (S : State P) (s : LineModel) (G : Goods P) (m : Mirror S s G) where
  pub mirror_collector : (ws : List ℕ) (ps : List P) (heads : List ℕ) (collector : Collector) (delivered : ℕ) (s' : LineModel) (G' : Goods P)
      → s'.n ≡ s.n → s'.K ≡ s.K → progress_of collector.stage ≡ s'.col
      → length ws ≡ length S.words → length ps ≡ length S.trays → length heads ≡ 16
      → ((b : Address) → IsAddress S.crew.shape b → loaded ws (word_of S.crew.shape b) ≡ memory s' b)
      → ((b : Place) → IsPlace S.crew.shape b → lies ps (tray_of S.crew.shape b) ≡ stock G' b)
      → ((q : ℕ) → q < s.n → ((s'.lanes q).tails ≡ (s.lanes q).tails) × ((s'.lanes q).stage ≡ (s.lanes q).stage))
      → ((q : ℕ) → q < s.n → head_of heads q ≡ (s'.lanes q).heads) → Mirror (state_of ws ps (with_collector S.crew heads collector delivered)) s' G'
  mirror_collector ws ps heads collector delivered s' G' n_is KIs col-is ws-long ps-long heads_long words goods same heads-are =
      record {
        lanes = m.lanes ∙ sym n_is;
        cells = m.cells ∙ sym KIs;
        few = omega (arith, m.few);
        some_lane = omega (arith, m.some_lane);
        some_cell = omega (arith, m.some_cell);
        board = omega (arith, m.board);
        room = omega (arith, m.room);
        words = words;
        goods = goods;
        rows_long = m.rows_long;
        heads_long = heads_long;
        rows = λ q b.
            let t = m.rows q (omega arith) in
            let (e, f) = same q (omega arith) in
            record { cells = t.cells ∙ sym KIs; tail = t.tail ∙ sym e; stage = t.stage ∙ sym f };
        heads = λ q b. heads-are q (omega arith);
        col = col-is;
      }

-- the slot's swap, as the model has it: the word is the one expected, or not
module _ {P : Type 0} (S : State P) (s : LineModel) (G : Goods P) (m : Mirror S s G) where
  pub slot_swaps : (r y : ℕ) → r < s.n → swaps S.words (word_of S.crew.shape (Slot r)) y ≡ eqb (s.lanes r).slot y
  slot_swaps r y h =
      let in_shape : r < S.crew.shape.lanes = omega (arith, m.lanes) in
      let low : word_of S.crew.shape (Slot r) < length S.words = omega (arith, word_below S.crew.shape (Slot r) in_shape, m.board) in
      let w : get_or S.words (word_of S.crew.shape (Slot r)) 0 ≡ (s.lanes r).slot = get_or_default S.words (word_of S.crew.shape (Slot r)) 0 empty_word low ∙ m.words (Slot r) in_shape in
      ap (λ (b : Bool). b && eqb (get_or S.words (word_of S.crew.shape (Slot r)) 0) y) (lt-ltb (word_of S.crew.shape (Slot r)) (length S.words) low) ∙ ap (λ (z : ℕ). eqb z y) w
