-- What holds between the calls of a run.
--
-- held         the receipt of the collect that is begun, if one is
-- Ending       the collect under way ends within 41 more grants, whatever they read
use Rattle.std.specs.Prelude.{◌≡◌, ℕ, ◌≤◌, true, ◌&&◌, List, is_some, Option}
use Rattle.line.specs.Calls.{board_holds, laid, trays_hold}
use Rattle.line.specs.Collect.{begun, under_way}
use Rattle.line.specs.Laws.{CollectEndsWithin}
use Rattle.line.specs.declared.crew.Core.{Core}
use Rattle.line.specs.declared.receipt.Receipt.{Receipt}

abbrev pub Ending : Core → Type 0
Ending c = (more : ℕ) × (m : ℕ) × (more ≤ 41) × CollectEndsWithin more m c.shape c.heads c.collector

pub record Ready {P : Type 0} (held : Option Receipt) (ws : List ℕ) (ps : List P) (c : Core) : Type 0 where
  -- a receipt is held exactly while a collect is begun
  pub receipt : is_some held ≡ begun c.collector.stage
  pub few : c.shape.lanes ≤ 16
  -- a collect is begun only on a laid line, and a laid line has its words and trays
  pub laid_first : begun c.collector.stage ≡ true → laid c ≡ true
  pub room : laid c ≡ true → (board_holds ws ps c c.shape && trays_hold ws ps c c.shape) ≡ true
  pub ends : under_way c.collector.stage ≡ true → ∥ Ending c ∥₁
