-- Bytes read as words.
--
-- bs is a list of bytes. Word k is the little-endian value of the eight bytes from 8 * k on.
-- Behind the last whole word up to seven bytes are left over: the rest, which is no part of any word.

use Rattle.std.specs.Prelude.{ℕ, ◌+◌, ◌*◌, ◌/◌, List, [], ◌∷◌, map, length, take, drop}
use Rattle.std.specs.List.{range_with_len}

-- the little-endian value of a list of bytes: the first counts least
abbrev pub value : List ℕ → ℕ
value [] = 0
value (b ∷ bs) = b + 256 * value bs

-- how many whole words there are
abbrev pub word_count : List ℕ → ℕ
word_count bs = length bs / 8

abbrev pub word_at : List ℕ → ℕ → ℕ
word_at bs k = value (take 8 (drop (8 * k) bs))

-- every whole word, in order
unfoldable pub words_of : List ℕ → List ℕ
words_of bs = map (word_at bs) (range_with_len 0 (word_count bs))

-- the bytes behind the last whole word
abbrev pub rest_of : List ℕ → List ℕ
rest_of bs = drop (8 * word_count bs) bs

-- where lent bytes lie, by the number of their loan, and those of them that make no word
abbrev pub home_of : ℕ → List ℕ → ℕ × List ℕ
home_of loan bs = (loan, rest_of bs)
