-- How much of a line of n lanes of k cells there is at most.
use Rattle.std.specs.Prelude.{ℕ, ◌+◌, ◌-◌, ◌*◌, ◌^◌, min}

-- how many frames of one lane wait at most: one cell stays free
abbrev pub capacity : ℕ → ℕ
capacity k = k - 1

-- how many grants a post has at most, and a collect
abbrev pub most_post_grants : ℕ
most_post_grants = 13

abbrev pub most_collect_grants : ℕ → ℕ
most_collect_grants n = 2 * n + 9

-- a total stops at 2^64 − 1
abbrev pub as_total : ℕ → ℕ
as_total count = min count (2 ^ 64 - 1)
