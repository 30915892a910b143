-- The rules of a board in plain words, as statements about the effects of its calls.
--
-- ws is the list of words before a call, k the number of the word that the call names, and w that word.

use Rattle.std.specs.Prelude.{◌≡◌, ℕ, ◌+◌, ◌*◌, ◌<◌, ◌≤◌, true, false, ◌≢◌, List, length, take, drop, slice_index, slice_index_or}
use Rattle.boards.specs.Words.{empty_word, stamp_limit, loaded, stored, swaps, swapped, taken, raised}
use Rattle.boards.specs.Bytes.{value, word_count, words_of}

-- from `before` to `after` at most word k has changed
pub record TouchesOnly (k : ℕ) (before after : List ℕ) : Type 0 where
  pub size : length after ≡ length before
  pub others : (j d : ℕ) → j ≢ k → slice_index_or after j d ≡ slice_index_or before j d

-- no call touches another word than the one it names
pub record NoOtherWord (ws : List ℕ) (k : ℕ) : Type 0 where
  pub by_store : (v : ℕ) → TouchesOnly k ws (stored ws k v)
  pub by_swap : (from to : ℕ) → TouchesOnly k ws (swapped ws k from to)
  pub by_take : TouchesOnly k ws (raised ws k)

abbrev pub NoCallTouchesAnotherWord : Type 0
NoCallTouchesAnotherWord = (ws : List ℕ) (k : ℕ) → NoOtherWord ws k

-- what a call does with a word w of the list
pub record AtWord (ws : List ℕ) (k w : ℕ) : Type 0 where
  pub load : loaded ws k ≡ w
  pub store : (v : ℕ) → loaded (stored ws k v) k ≡ v
  pub swap_yes : (from to : ℕ) → w ≡ from → (swaps ws k from ≡ true) × (loaded (swapped ws k from to) k ≡ to)
  pub swap_no : (from to : ℕ) → w ≢ from → (swaps ws k from ≡ false) × (swapped ws k from to ≡ ws)
  pub take_below : w < stamp_limit → (taken ws k ≡ w) × (loaded (raised ws k) k ≡ w + 1)
  pub take_full : stamp_limit ≤ w → (taken ws k ≡ stamp_limit) × (raised ws k ≡ ws)

abbrev pub EveryCallDoesItsWork : Type 0
EveryCallDoesItsWork = (ws : List ℕ) (k : ℕ) → k < length ws → AtWord ws k (slice_index ws k)

-- what a call does beyond the length
pub record Beyond (ws : List ℕ) (k : ℕ) : Type 0 where
  pub load : loaded ws k ≡ empty_word
  pub store : (v : ℕ) → stored ws k v ≡ ws
  pub swap : (from to : ℕ) → (swaps ws k from ≡ false) × (swapped ws k from to ≡ ws)
  pub take : (taken ws k ≡ stamp_limit) × (raised ws k ≡ ws)

abbrev pub NothingChangesBeyond : Type 0
NothingChangesBeyond = (ws : List ℕ) (k : ℕ) → length ws ≤ k → Beyond ws k

-- bytes as words: how many there are, and each one the little-endian value of its eight bytes
pub record ReadsAs (bs ws : List ℕ) : Type 0 where
  pub count : length ws ≡ word_count bs
  pub each : (k d : ℕ) → k < word_count bs → slice_index_or ws k d ≡ value (take 8 (drop (8 * k) bs))

abbrev pub WordsAreLittleEndian : Type 0
WordsAreLittleEndian = (bs : List ℕ) → ReadsAs bs (words_of bs)
