-- A line just laid: its words, its crew, and the model that they mirror.
use Rattle.std.proofs.Common.{◌≡◌, ℕ, suc, ◌+◌, ◌*◌, ◌<◌, ◌≤◌, ◌&&◌, leb, List, [], ◌++◌, length, get_or, drop, replicate, sym, refl, ap, ◌∙◌, arith}
use native.Mathlib.Nat.{zero-mod}
use mathlib.Core.Option.{none}
use Rattle.std.proofs.lemmas.List.{get_or_append_left, get_or-append_right, get_or-replicate, length-append, length-replicate}
use Rattle.std.proofs.lemmas.Bool.{and_parts, leb-true}
use Rattle.boards.specs.Words.{empty_word, loaded, stamp_limit}
use Rattle.line.specs.declared.access.Address.{Address}
use Rattle.line.specs.declared.access.Address.TheVariants.{Counter, Slot, Head, Tail, CellStamp}
use Rattle.line.specs.declared.access.Place.{Place}
use Rattle.line.specs.declared.access.Place.TheVariants.{Hand, CollectorsHand, Cell}
use Rattle.line.specs.declared.crew.Core.{Core}
use Rattle.line.specs.declared.lane.Stage.TheVariants.{AtRest}
use Rattle.line.specs.Calls.{Outcome, laid_words, laying_tests, lays, refuse}
use Rattle.line.specs.Crew.{resting_crew, resting_row, shape}
use Rattle.line.specs.Laws.{IsAddress}
use Rattle.line.specs.Map.{tray_of, trays_needed, word_of, words_needed}
use Rattle.line.proofs.Places.{cell_below}
use Rattle.order.specs.Books.{blank}
use Rattle.order.specs.Logs.{start}
use Rattle.order.proofs.GrantBounds.{collects_end_start, posts_end_start}
use Rattle.order.proofs.Ordered.{kept_start}
use Rattle.history.specs.Limits.{capacity, most_collect_grants, most_post_grants}
use Rattle.history.specs.Performing.{state_of}
use Rattle.history.specs.Promise.{laid_state}
use Rattle.history.proofs.Lanes.{LaneModel, LaneOk}
use Rattle.history.proofs.Model.{LineModel, ModelOk}
use Rattle.history.proofs.Model.Progress.{rest}
use Rattle.history.proofs.Slot.View.{away}
use Rattle.history.proofs.SlotSteps.{laid}
use Rattle.history.proofs.Goods.{Goods, Tied}
use Rattle.history.proofs.Ledger.{Ledger}
use Rattle.history.proofs.Mirror.{Mirror, RowTie, lies, memory, stock}
use Rattle.history.proofs.Safe.{Safe, tested_by}

-- the model of a line just laid: nothing published, nothing freed; the clock starts at 1
abbrev laid_lane : LaneModel
laid_lane = record { slot = empty_word; heads = 0; tails = 0; cell = λ _. 0; stage = AtRest; freed = 0; ring = []; ended = λ _. 0 }

abbrev laid_model : ℕ → ℕ → ℕ → LineModel
laid_model n k stamp = record { n = n; K = k; counter = stamp; now = 1; took = λ _. 0; began = 0; lanes = λ _. laid_lane; col = rest }

abbrev laid_goods : {P : Type 0} → ℕ → ℕ → List P → Goods P
laid_goods n k ps =
    record {
      load = λ _. none;
      hand = λ r. lies ps (tray_of (shape n k) (Hand r));
      fetched = lies ps (tray_of (shape n k) CollectorsHand);
      tray = λ r i. lies ps (tray_of (shape n k) (Cell r i));
    }

module _ (n k stamp : ℕ) (cells : 2 ≤ k) (low : stamp ≤ stamp_limit) where
  lane_ok : LaneOk k stamp 1 (λ _. 0) laid_lane away
  lane_ok =
      record {
        small = omega arith;
        headed = sym (zero-mod k);
        tailed = sym (zero-mod k);
        holds = tt;
        rising = tt;
        below = tt;
        stage = tt;
        slots = laid;
        timed = tt;
      }

  model_ok : ModelOk (laid_model n k stamp)
  model_ok = record { posts = λ q. lane_ok; ticks = λ x e. omega arith; climbs = λ x y a b. omega arith; top = low; cols = tt }

-- the words
module _ (ws : List ℕ) (n k stamp : ℕ) where
  abbrev rest_words : List ℕ
  rest_words = drop (words_needed (shape n k)) ws

  laid_long : words_needed (shape n k) ≤ length (laid_words ws n k stamp)
  laid_long =
      omega (arith, length-append (replicate n empty_word) (replicate (2 * n + n * k) 0 ++ rest_words), length-append (replicate {A = ℕ} (2 * n + n * k) 0) rest_words, length-replicate n empty_word, length-replicate {A = ℕ} (2 * n + n * k) 0)

  slot_is_empty : (r : ℕ) → r < n → get_or (replicate n empty_word ++ (replicate (2 * n + n * k) 0 ++ rest_words)) r empty_word ≡ empty_word
  slot_is_empty r h =
      get_or_append_left (replicate n empty_word) (replicate (2 * n + n * k) 0 ++ rest_words) empty_word r (omega (arith, length-replicate n empty_word)) ∙ get_or-replicate n r empty_word empty_word h

  zero_from : (m i : ℕ) → i < m → get_or (replicate n empty_word ++ (replicate m 0 ++ rest_words)) (n + i) empty_word ≡ 0
  zero_from m i h =
      get_or-append_right (replicate n empty_word) (replicate m 0 ++ rest_words) n (n + i) empty_word (length-replicate n empty_word) (omega arith)
      ∙ ap (λ (j : ℕ). get_or (replicate m 0 ++ rest_words) j empty_word) (omega arith)
      ∙ get_or_append_left (replicate m 0) rest_words empty_word i (omega (arith, length-replicate {A = ℕ} m 0))
      ∙ get_or-replicate m i 0 empty_word h

  zero_at : (w i : ℕ) → w ≡ suc (n + i) → i < 2 * n + n * k → loaded (laid_words ws n k stamp) w ≡ 0
  zero_at w i e h = ap (λ (j : ℕ). loaded (laid_words ws n k stamp) j) e ∙ zero_from (2 * n + n * k) i h

  words_laid : (a : Address) → IsAddress (shape n k) a → loaded (laid_words ws n k stamp) (word_of (shape n k) a) ≡ memory (laid_model n k stamp) a
  words_laid Counter i = refl
  words_laid (Slot r) i = ap (λ (j : ℕ). loaded (laid_words ws n k stamp) j) {y = suc r} (omega arith) ∙ slot_is_empty r i
  words_laid (Head r) i = zero_at (1 + n + r) r (omega arith) (omega arith)
  words_laid (Tail r) i = zero_at (1 + 2 * n + r) (n + r) (omega arith) (omega arith)
  words_laid (CellStamp r j) (h, l) = zero_at (1 + 3 * n + r * k + j) (2 * n + (r * k + j)) (omega arith) (omega (arith, cell_below n k r j h l))

module _ {P : Type 0} (ws : List ℕ) (ps : List P) (n k stamp : ℕ) where
  goods_laid : (p : Place) → lies ps (tray_of (shape n k) p) ≡ stock (laid_goods n k ps) p
  goods_laid (Hand r) = refl
  goods_laid CollectorsHand = refl
  goods_laid (Cell r i) = refl

  rows_laid : (q : ℕ) → q < 16 → RowTie k (get_or (replicate 16 (resting_row k)) q (resting_row 0)) laid_lane
  rows_laid q h = rw (get_or-replicate 16 q (resting_row k) (resting_row 0) h) (record { cells = refl; tail = refl; stage = refl })

  mirror_laid : 1 ≤ n → n ≤ 16 → 2 ≤ k → trays_needed (shape n k) ≤ length ps → Mirror (state_of (laid_words ws n k stamp) ps (resting_crew n k)) (laid_model n k stamp) (laid_goods n k ps)
  mirror_laid some_lane few cells room =
      record {
        lanes = refl;
        cells = refl;
        few = few;
        some_lane = some_lane;
        some_cell = cells;
        board = laid_long ws n k stamp;
        room = room;
        words = words_laid ws n k stamp;
        goods = λ p i. goods_laid p;
        rows_long = length-replicate 16 (resting_row k);
        heads_long = length-replicate {A = ℕ} 16 0;
        rows = λ q b. rows_laid q (omega arith);
        heads = λ q b. get_or-replicate 16 q 0 0 (omega arith);
        col = refl;
      }

  tied_laid : Tied (laid_model n k stamp) (laid_goods n k ps) blank
  tied_laid =
      record { now = refl; top = omega arith; lanes = λ q b. record { waits = tt; carries = tt; post = refl }; others = λ q b. (refl, refl); collect = refl }

  ledger_laid : Ledger {P = P} (laid_model n k stamp) 0 0 start blank
  ledger_laid =
      record {
        kept = kept_start (capacity k);
        posts = posts_end_start most_post_grants;
        collects = collects_end_start (most_collect_grants n);
        post_counts = λ q. tt;
        collect_counts = tt;
        posted_is = omega arith;
        delivered_is = omega arith;
      }

  safe_laid : 1 ≤ n → n ≤ 16 → 2 ≤ k → stamp ≤ stamp_limit → trays_needed (shape n k) ≤ length ps → Safe n k (state_of (laid_words ws n k stamp) ps (resting_crew n k)) start blank
  safe_laid some_lane few cells low room =
      record {
        model = laid_model n k stamp;
        goods = laid_goods n k ps;
        n_is = refl;
        KIs = refl;
        mirror = mirror_laid some_lane few cells room;
        ok = model_ok n k stamp cells low;
        tied = tied_laid;
        ledger = ledger_laid;
      }

  -- an accepted laying
  pub laid_safe : (c : Core) → (lays ws ps c n k stamp).answer.number ≡ 0 → Safe n k (laid_state ws ps c n k stamp) start blank
  laid_safe c =
      tested_by (refuse ws ps c) (laying_tests ws ps c n k stamp) _ (λ (o : Outcome P). o.answer.number ≡ 0 → Safe n k (state_of o.words o.trays o.crew) start blank)
      ((λ e. absurd (omega arith)), ((λ e. absurd (omega arith)), ((λ e. absurd (omega arith)), ((λ e. absurd (omega arith)), tt))))
      (λ h e.
      let (a, b) = and_parts (leb 1 n) (leb n 16 && (leb 2 k && leb k 64)) h.0 in
      let (b, d) = and_parts (leb n 16) (leb 2 k && leb k 64) b in
      let (d, f) = and_parts (leb 2 k) (leb k 64) d in
      let (u, w) = and_parts (leb (words_needed (shape n k)) (length ws)) (leb (trays_needed (shape n k)) (length ps)) h.1.1.1.0 in
      safe_laid (leb-true 1 n a) (leb-true n 16 b) (leb-true 2 k d) (leb-true stamp stamp_limit h.1.0) (leb-true (trays_needed (shape n k)) (length ps) w))
