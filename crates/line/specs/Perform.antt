-- What one access does to the words of a board and to the trays, and which word it answers.
--
-- The board's own effects are those of its crate. A swap answers 1 for yes and 0 for no; a store, a copy and no access
-- answer 0. A copy from or to a tray that is not there changes nothing.
use Rattle.std.specs.Prelude.{ℕ, cond, List, [], ◌∷◌, drop, slice_set}
use Rattle.boards.specs.Words.{loaded, stored, swaps, swapped, taken, raised}
use Rattle.line.specs.declared.access.Shape.{Shape}
use Rattle.line.specs.declared.access.Access.{Access}
use Rattle.line.specs.declared.access.Access.TheVariants.{Nothing, Load, Store, Swap, Take, CopyTray}
use Rattle.line.specs.Map.{word_of, tray_of}

-- the word that an access answers
abbrev pub word_read : Shape → Access → List ℕ → ℕ
word_read s Nothing ws = 0
word_read s (Load a) ws = loaded ws (word_of s a)
word_read s (Store a v) ws = 0
word_read s (Swap a from to) ws = cond (swaps ws (word_of s a) from) 1 0
word_read s (Take a) ws = taken ws (word_of s a)
word_read s (CopyTray from to) ws = 0

abbrev pub words_after : Shape → Access → List ℕ → List ℕ
words_after s Nothing ws = ws
words_after s (Load a) ws = ws
words_after s (Store a v) ws = stored ws (word_of s a) v
words_after s (Swap a from to) ws = swapped ws (word_of s a) from to
words_after s (Take a) ws = raised ws (word_of s a)
words_after s (CopyTray from to) ws = ws

module _ {P : Type 0} where
  -- tray `to` holds what the list begins with; of an empty list nothing is put
  abbrev pub put_first : List P → ℕ → List P → List P
  put_first ps to [] = ps
  put_first ps to (x ∷ xs) = slice_set ps to x

  -- tray `to` holds what tray `from` holds
  abbrev pub copied : List P → ℕ → ℕ → List P
  copied ps from to = put_first ps to (drop from ps)

  abbrev pub trays_after : Shape → Access → List P → List P
  trays_after s Nothing ps = ps
  trays_after s (Load a) ps = ps
  trays_after s (Store a v) ps = ps
  trays_after s (Swap a from to) ps = ps
  trays_after s (Take a) ps = ps
  trays_after s (CopyTray from to) ps = copied ps (tray_of s from) (tray_of s to)
