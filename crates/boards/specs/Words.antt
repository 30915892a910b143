-- What each call of a board answers and does, over the list of words that the board means.
--
-- ws is that list before the call, k the number of a word. A word is a number below 2 ^ 64.
-- Within the list a call reads or changes word k alone. Past its end a load answers `empty_word`,
-- a swap no, a take `stamp_limit`, and the list stays as it is.

use Rattle.std.specs.Prelude.{ℕ, ◌+◌, ◌-◌, ◌^◌, min, Bool, cond, ◌&&◌, List, length, ◌==◌, nat_lt, slice_index, slice_index_or, slice_set}

-- the word that marks an empty slot
abbrev pub empty_word : ℕ
empty_word = 2 ^ 64 - 1

-- where a counter stops
abbrev pub stamp_limit : ℕ
stamp_limit = 2 ^ 62

-- load k: the answer
abbrev pub loaded : List ℕ → ℕ → ℕ
loaded ws k = slice_index_or ws k empty_word

-- store k v: the words after
abbrev pub stored : List ℕ → ℕ → ℕ → List ℕ
stored ws k v = slice_set ws k v

-- swap k from to: the answer, yes exactly if there is a word k and it is `from`
abbrev pub swaps : List ℕ → ℕ → ℕ → Bool
swaps ws k from = nat_lt k (length ws) && slice_index ws k == from

-- swap k from to: the words after
abbrev pub swapped : List ℕ → ℕ → ℕ → ℕ → List ℕ
swapped ws k from to = cond (swaps ws k from) (slice_set ws k to) ws

-- take k: the answer, word k up to the limit
abbrev pub taken : List ℕ → ℕ → ℕ
taken ws k = min (slice_index_or ws k stamp_limit) stamp_limit

-- take k: the words after, word k one more if it was below the limit
abbrev pub raised : List ℕ → ℕ → List ℕ
raised ws k = cond (nat_lt (slice_index_or ws k stamp_limit) stamp_limit) (slice_set ws k (slice_index ws k + 1)) ws
