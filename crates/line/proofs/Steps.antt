-- A grant whose tests all pass gives what the definition says, from what its access and its reaction are.
use Rattle.std.proofs.Common.{◌≡◌, ℕ, Bool, true, ◌&&◌, List, length, leb, sym, refl, ap, ◌∙◌}
use Rattle.line.specs.declared.access.Access.{Access}
use Rattle.line.specs.declared.access.Shape.{Shape}
use Rattle.line.specs.declared.answer.CollectorAnswer.{CollectorAnswer}
use Rattle.line.specs.declared.answer.LaneAnswer.{LaneAnswer}
use Rattle.line.specs.declared.crew.Core.{Core}
use Rattle.line.specs.declared.lane.LaneRow.{LaneRow}
use Rattle.line.specs.declared.lane.Stage.{Stage}
use Rattle.line.specs.declared.lane.Stage.TheVariants.{AtRest, TestSpace, TakeStamp, FillCell, MarkCell, Publish, Look, LoadHead, LoadFront, SwapSlot}
use Rattle.line.specs.Answers.{collector_told, lane_told}
use Rattle.line.specs.Calls.{Gives, board_holds, collector_steps, lane_steps, trays_hold}
use Rattle.line.specs.Collect.{collect_answer_at, collector_access, collector_at, collector_next, delivered_after, heads_after}
use Rattle.line.specs.Crew.{busy, posted_after, with_collector, with_row}
use Rattle.line.specs.Map.{words_needed, trays_needed}
use Rattle.line.specs.Perform.{word_read, words_after, trays_after}
use Rattle.line.specs.Post.{lane_access, lane_answer, one_more, row_after}

pub busy_unless_at_rest : (s : Stage) → (s ≡ AtRest → ⊥) → busy s ≡ true
busy_unless_at_rest AtRest h = absurd (h refl)
busy_unless_at_rest TestSpace h = refl
busy_unless_at_rest TakeStamp h = refl
busy_unless_at_rest (FillCell s) h = refl
busy_unless_at_rest (MarkCell s) h = refl
busy_unless_at_rest (Publish s) h = refl
busy_unless_at_rest (Look t s) h = refl
busy_unless_at_rest (LoadHead t s v) h = refl
busy_unless_at_rest (LoadFront t s v i) h = refl
busy_unless_at_rest (SwapSlot t s v) h = refl

module _ {P : Type 0} (ws : List ℕ) (ps : List P) (c : Core) where
  -- the test of board and trays, told by the board's length
  pub memory_told : (s : Shape) (n : ℕ) (test : Bool) → n ≡ length ws → test ≡ (leb (words_needed s) n && leb (trays_needed s) (length ps)) →
      (board_holds ws ps c s && trays_hold ws ps c s) ≡ test
  memory_told s n test len told = sym (told ∙ ap (λ m. leb (words_needed s) m && leb (trays_needed s) (length ps)) len)

  -- a collector's step over lanes of so many cells
  pub collector_does : (s : Shape) (a : Access) (w : ℕ) (answer : CollectorAnswer) (ws' : List ℕ) (ps' : List P) (c' : Core) → s ≡ c.shape →
      a ≡ collector_access s c.heads c.collector.stage → w ≡ word_read c.shape a ws → ws' ≡ words_after c.shape a ws → ps' ≡ trays_after c.shape a ps →
      answer ≡ collect_answer_at (one_more c.collector.grants) (collector_next s c.heads c.collector.stage w) →
      c' ≡ with_collector c (heads_after s c.heads c.collector.stage) (collector_at (one_more c.collector.grants) (collector_next s c.heads c.collector.stage w)) (delivered_after c.delivered (collector_next s c.heads c.collector.stage w)) →
      Gives (collector_steps ws ps c (collector_access c.shape c.heads c.collector.stage)) (collector_told answer) ws' ps' c'
  collector_does s a w answer ws' ps' c' same a_is w_is ws_is ps_is answer_is crew_is =
      let stage = c.collector.stage in
      let next = collector_next c.shape c.heads stage (word_read c.shape (collector_access c.shape c.heads stage) ws) in
      let access_is = a_is ∙ ap (λ t. collector_access t c.heads stage) same in
      let next_is = ap (λ t. collector_next t c.heads stage w) same ∙ ap (collector_next c.shape c.heads stage) (w_is ∙ ap (λ x. word_read c.shape x ws) access_is) in
      record {
        answer = ap collector_told (answer_is ∙ ap (collect_answer_at (one_more c.collector.grants)) next_is);
        board = ws_is ∙ ap (λ x. words_after c.shape x ws) access_is;
        trays = ps_is ∙ ap (λ x. trays_after c.shape x ps) access_is;
        crew = crew_is
            ∙ ap (λ x. with_collector c (heads_after s c.heads stage) (collector_at (one_more c.collector.grants) x) (delivered_after c.delivered x)) next_is
            ∙ ap (λ t. with_collector c (heads_after t c.heads stage) (collector_at (one_more c.collector.grants) next) (delivered_after c.delivered next)) same;
      }

  -- a lane's step, from its row
  pub lane_does : (lane : ℕ) (row own : LaneRow) (a : Access) (w : ℕ) (answer : LaneAnswer) (ws' : List ℕ) (ps' : List P) (row' : LaneRow) (posted : ℕ) → own ≡ row →
      a ≡ lane_access lane own own.stage → w ≡ word_read c.shape a ws → ws' ≡ words_after c.shape a ws → ps' ≡ trays_after c.shape a ps →
      answer ≡ lane_answer own w → row' ≡ row_after own w → posted ≡ posted_after c.posted answer →
      Gives (lane_steps ws ps c lane row (lane_access lane row row.stage)) (lane_told answer) ws' ps' (with_row c lane row' posted)
  lane_does lane row own a w answer ws' ps' row' posted own_is a_is w_is ws_is ps_is answer_is row_is posted_is =
      let access_is = a_is ∙ ap (λ r. lane_access lane r r.stage) own_is in
      let word_is = w_is ∙ ap (λ x. word_read c.shape x ws) access_is in
      let told_is = answer_is ∙ ap (λ r. lane_answer r w) own_is ∙ ap (lane_answer row) word_is in
      record {
        answer = ap lane_told told_is;
        board = ws_is ∙ ap (λ x. words_after c.shape x ws) access_is;
        trays = ps_is ∙ ap (λ x. trays_after c.shape x ps) access_is;
        crew = ap (λ r. with_row c lane r posted) (row_is ∙ ap (λ r. row_after r w) own_is ∙ ap (row_after row) word_is) ∙ ap (with_row c lane _) (posted_is ∙ ap (posted_after c.posted) told_is);
      }
