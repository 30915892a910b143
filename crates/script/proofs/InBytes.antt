-- A record in its bytes: it lies whole within them, and what stands behind it does not matter.
use Rattle.std.proofs.Common.{◌≡◌, ℕ, ◌+◌, ◌-◌, ◌<◌, ◌≤◌, List, ◌++◌, length, take, drop, arith, length-append, length-drop}
use Rattle.std.proofs.lemmas.List.{drop-append-le, get_or_append_left, take-append-le}
use Rattle.std.proofs.lemmas.Bool.Decides.{nat_tests}
use Rattle.script.specs.Records.{record_at, rest_at, two}

-- what is read of a record in `xs` is the same with `ys` behind it
pub two_before : (xs ys : List ℕ) (i : ℕ) → i + 1 < length xs → two (xs ++ ys) i ≡ two xs i
two_before xs ys i h =
    let a : i < length xs = omega arith in
    rw (get_or_append_left xs ys 0 i a, get_or_append_left xs ys 0 (i + 1) h)

body_before : (xs ys : List ℕ) (n : ℕ) → 4 ≤ length xs → n ≤ length xs → take (n - 4) (drop 4 (xs ++ ys)) ≡ take (n - 4) (drop 4 xs)
body_before xs ys n header within =
    let t : n - 4 ≤ length (drop 4 xs) = omega (arith, length-drop 4 xs) in
    rw (drop-append-le 4 xs ys header, take-append-le (n - 4) (drop 4 xs) ys t)

pub record_before : (xs ys : List ℕ) → 4 ≤ length xs → 4 ≤ two xs 0 → two xs 0 ≤ length xs → record_at (xs ++ ys) ≡ record_at xs
record_before xs ys header enough within =
    let len = two_before xs ys 0 (omega arith) in
    let kind = two_before xs ys 2 (omega arith) in
    let longer = length-append xs ys in
    let body = body_before xs ys (two xs 0) header within in
    grind (arith, nat_tests)

pub rest_before : (xs ys : List ℕ) → 4 ≤ length xs → two xs 0 ≤ length xs → rest_at (xs ++ ys) ≡ rest_at xs ++ ys
rest_before xs ys header within =
    rw (two_before xs ys 0 (omega arith), drop-append-le (two xs 0) xs ys within)
