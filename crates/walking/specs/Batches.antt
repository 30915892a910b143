-- A batch is one script after another, each behind its length: a number in four bytes, little-endian.
-- `Splits bs script rest`: the batch bs begins with this script, and rest is what stands behind it.
-- `Cuts bs cut`: the batch bs is cut short in this way, so that no script can be split off.
use Rattle.std.specs.Prelude.{◌≡◌, ℕ, ◌+◌, ◌<◌, ◌≤◌, List, ◌++◌, length, take}
use Rattle.script.specs.Records.{four}
use Rattle.walking.specs.declared.batch.Cut.{Cut}
use Rattle.walking.specs.declared.batch.Cut.TheVariants.{InLength, InScript}

abbrev pub Splits : List ℕ → List ℕ → List ℕ → Type 0
Splits bs script rest = (4 ≤ length bs) × (length script ≡ four bs 0) × (take 4 bs ++ (script ++ rest) ≡ bs)

abbrev pub Cuts : List ℕ → Cut → Type 0
Cuts bs (InLength left) = (left < 4) × (length bs ≡ left)
Cuts bs (InScript n left) = (left < n) × (length bs ≡ 4 + left) × (four bs 0 ≡ n)
