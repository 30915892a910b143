-- Where the words and trays of a line lie.
--
-- lanes, n     how many lanes; they are numbered from 0
-- cells, K     how many cells each lane has; they are numbered from 0
-- word_of      the number of the word on the board that an address means
-- tray_of      the number of the tray that a place means
use Rattle.std.specs.Prelude.{ℕ, ◌+◌, ◌*◌}
use Rattle.line.specs.declared.access.Shape.{Shape}
use Rattle.line.specs.declared.access.Address.{Address}
use Rattle.line.specs.declared.access.Address.TheVariants.{Counter, Slot, Head, Tail, CellStamp}
use Rattle.line.specs.declared.access.Place.{Place}
use Rattle.line.specs.declared.access.Place.TheVariants.{Hand, CollectorsHand, Cell}

-- the counter, three words a lane, and a stamp for each cell
abbrev pub words_needed : Shape → ℕ
words_needed s = 1 + 3 * s.lanes + s.lanes * s.cells

-- a hand for each lane, the collector's hand, and a tray for each cell
abbrev pub trays_needed : Shape → ℕ
trays_needed s = s.lanes + 1 + s.lanes * s.cells

abbrev pub word_of : Shape → Address → ℕ
word_of s Counter = 0
word_of s (Slot r) = 1 + r
word_of s (Head r) = 1 + s.lanes + r
word_of s (Tail r) = 1 + 2 * s.lanes + r
word_of s (CellStamp r i) = 1 + 3 * s.lanes + r * s.cells + i

abbrev pub tray_of : Shape → Place → ℕ
tray_of s (Hand r) = r
tray_of s CollectorsHand = s.lanes
tray_of s (Cell r i) = s.lanes + 1 + r * s.cells + i
