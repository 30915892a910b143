-- The words that bytes mean: how many there are, and what a write of one word's eight bytes does to them and to the rest.
use Rattle.std.proofs.Common.{◌≡◌, ℕ, suc, zero, Some, ◌+◌, ◌-◌, ◌*◌, ◌/◌, ◌%◌, ◌^◌, ◌<◌, ◌≤◌, ◌≢◌, List, [], ◌∷◌, length, get_or, slice_index, take, drop, set, sym, ap, ◌∙◌, ⊎_elim, arith, rules}
use borrow.Rule.Slice.PartMut.{put_mid}
use Rattle.std.proofs.lemmas.List.FromFn.{length-map-range_with_len, get_or-map-range_with_len}
use Rattle.std.specs.Simd.{first_chunks}
use Rattle.std.proofs.lemmas.List.{drop_all, drop_more, drop-drop, length-drop, length-take-le, places, same_lists, length-set, get_or-set_same, get_or-set_other}
use Rattle.std.proofs.lemmas.Slice.{between_is, take-put_mid_below, drop-put_mid, between-put_mid}
use Rattle.std.proofs.lemmas.Bool.{cases_eq, cases_lt}
use Rattle.boards.specs.Bytes.{value, word_at, word_count, words_of, rest_of}
use Rattle.std.specs.List.{slice_get}
use Rattle.std.proofs.lemmas.Option.{slice_get-get_or, unwrap_or-slice_get}
use Rattle.boards.specs.Laws.{ReadsAs}

pub length_words : (bs : List ℕ) → length (words_of bs) ≡ word_count bs
unfolding words_of
length_words bs = length-map-range_with_len (word_at bs) 0 (word_count bs)

pub get_or_words : (bs : List ℕ) (k d : ℕ) → k < word_count bs → get_or (words_of bs) k d ≡ word_at bs k
unfolding words_of
get_or_words bs k d h = get_or-map-range_with_len (word_at bs) 0 (word_count bs) k k d h (omega arith)

pub reads : (bs : List ℕ) → ReadsAs bs (words_of bs)
reads bs = record { count = length_words bs; each = get_or_words bs }

-- the groups of n numbers: group k is n numbers from n * k on
pub get_or-first_chunks : (n c k : ℕ) (xs d : List ℕ) → k < c → get_or (first_chunks n c xs) k d ≡ take n (drop (n * k) xs)
get_or-first_chunks n (suc c) zero xs d h = ap (λ (i : ℕ). take n (drop i xs)) (let e : 0 ≡ n * 0 = omega arith in e)
get_or-first_chunks n (suc c) (suc k) xs d h =
    get_or-first_chunks n c k (drop n xs) d (omega arith)
    ∙ ap (take n) (drop-drop (n * k) n xs ∙ ap (λ (i : ℕ). drop i xs) (let e : n + n * k ≡ n * suc k = grind arith in e))
get_or-first_chunks n zero k xs d h = absurd (omega arith)

-- the value of n bytes from place i on, byte by byte
abbrev value_from : ℕ → ℕ → List ℕ → ℕ
value_from zero i bs = 0
value_from (suc n) i bs = slice_index bs i + 256 * value_from n (i + 1) bs

value_at : (n i : ℕ) (bs : List ℕ) → i + n ≡ length bs → value (drop i bs) ≡ value_from n i bs
value_at zero i bs e = ap value (drop_all i bs (omega (arith, e)))
value_at (suc n) i bs e =
    ap value (drop_more bs i 0 (omega (arith, e)))
    ∙ ap (λ v. slice_index bs i + 256 * v) (value_at n (i + 1) bs (omega (arith, e)))

-- the sum that a read of eight bytes makes
abbrev pub sum_of_eight : List ℕ → ℕ
sum_of_eight bs =
    slice_index bs 0 + slice_index bs 1 * 256 + slice_index bs 2 * 65536 + slice_index bs 3 * 16777216 + slice_index bs 4 * 4294967296
    + slice_index bs 5 * 1099511627776 + slice_index bs 6 * 281474976710656 + slice_index bs 7 * 72057594037927936

value_of_eight : (bs : List ℕ) → length bs ≡ 8 → sum_of_eight bs ≡ value bs
value_of_eight bs eight = let bytes = value_at 8 0 bs (sym eight) in omega (arith, bytes)

-- word k, read as group k of the bytes
pub word_read : (bs group : List ℕ) (k : ℕ) → k < word_count bs → group ≡ get_or (first_chunks 8 (word_count bs) bs) k group → {w : ℕ} → w ≡ sum_of_eight group → Some w ≡ slice_get (words_of bs) k
word_read bs group k there here read =
    let rest = length-drop (8 * k) bs in
    let at_k : group ≡ take 8 (drop (8 * k) bs) = here ∙ get_or-first_chunks 8 (word_count bs) k bs group there in
    ap (λ (w : ℕ). Some w) (read ∙ value_of_eight group (ap length at_k ∙ length-take-le 8 (drop (8 * k) bs) (omega (arith, rest))) ∙ ap value at_k ∙ sym (get_or_words bs k 0 there))
    ∙ sym (slice_get-get_or (words_of bs) k 0 (omega (arith, length_words bs)))

-- how many words there are, and a word that is there or another answer
pub ruleset words_found = (length_words, unwrap_or-slice_get)

-- the eight bytes of a 64-bit number, the least first
abbrev pub eight_bytes : ℕ → List ℕ
eight_bytes v =
    (v % 256) ∷ (v / 256 % 256) ∷ (v / 65536 % 256) ∷ (v / 16777216 % 256) ∷ (v / 4294967296 % 256)
    ∷ (v / 1099511627776 % 256) ∷ (v / 281474976710656 % 256) ∷ (v / 72057594037927936 % 256) ∷ []

pub value_eight_bytes : (v : ℕ) → v < 2 ^ 64 → value (eight_bytes v) ≡ v
value_eight_bytes v h = omega arith

-- a write of n elements at a keeps the length (said for any n: at the numeral 8 the search would unroll the list)
length_put : (xs ys : List ℕ) (a n : ℕ) → a + n ≤ length xs → length ys ≡ n → length (put_mid a n xs ys) ≡ length xs
length_put xs ys a n room width = search (rules, places)

-- bs, with the bytes of word k overwritten by vs
abbrev pub written : List ℕ → List ℕ → ℕ → List ℕ
written bs vs k = put_mid (8 * k) 8 bs vs

module _ (bs vs : List ℕ) (k : ℕ) (there : k < word_count bs) (eight : length vs ≡ 8) where
  pub length_written : length (written bs vs k) ≡ length bs
  length_written = length_put bs vs (8 * k) 8 (omega arith) eight

  pub rest_written : rest_of (written bs vs k) ≡ rest_of bs
  rest_written =
      ap (λ n. drop (8 * (n / 8)) (written bs vs k)) length_written
      ∙ drop-put_mid (8 * k) 8 bs vs (8 * word_count bs) (omega arith) (omega arith) eight

  word_before : (j : ℕ) → j < k → word_at (written bs vs k) j ≡ word_at bs j
  word_before j before =
      ap value
      (front (written bs vs k)
      ∙ ap (drop (8 * j)) (take-put_mid_below (8 * k) 8 bs vs (8 * j + 8) (omega arith) (omega arith))
      ∙ sym (front bs))
    where
      front : (xs : List ℕ) → take 8 (drop (8 * j) xs) ≡ drop (8 * j) (take (8 * j + 8) xs)
      front xs = let width : 8 ≡ 8 * j + 8 - 8 * j = omega arith in ap (λ n. take n (drop (8 * j) xs)) width ∙ between_is xs (8 * j) (8 * j + 8)

  word_behind : (j : ℕ) → k < j → word_at (written bs vs k) j ≡ word_at bs j
  word_behind j behind = ap (λ tail. value (take 8 tail)) (drop-put_mid (8 * k) 8 bs vs (8 * j) (omega arith) (omega arith) eight)

  word_here : word_at (written bs vs k) k ≡ value vs
  word_here =
      let width : 8 ≡ 8 * k + 8 - 8 * k = omega arith in
      ap value
      (ap (λ n. take n (drop (8 * k) (written bs vs k))) width
      ∙ between-put_mid (8 * k) 8 bs vs (8 * k + 8) (omega arith) (eight ∙ width))

  word_other : (j : ℕ) → j ≢ k → word_at (written bs vs k) j ≡ word_at bs j
  word_other j ne = ⊎_elim (λ before. word_before j before) (λ behind. word_behind j (omega arith)) (cases_lt j k)

  pub words_written : words_of (written bs vs k) ≡ set (words_of bs) k (value vs)
  words_written =
      same_lists (words_of (written bs vs k)) (set (words_of bs) k (value vs))
      (count ∙ sym (length-set (words_of bs) k (value vs) ∙ length_words bs))
      (λ j d below.
      let inside : j < word_count bs = omega (arith, count) in
      get_or_words (written bs vs k) j d (omega (arith, length_written))
      ∙ ⊎_elim
      (λ eq. ap (word_at (written bs vs k)) eq ∙ word_here ∙ sym (ap (λ i. get_or (set (words_of bs) k (value vs)) i d) eq ∙ get_or-set_same (words_of bs) k (value vs) d (omega (arith, length_words bs))))
      (λ ne. word_other j ne ∙ sym (get_or-set_other (words_of bs) k j (value vs) d ne ∙ get_or_words bs j d inside))
      (cases_eq j k))
    where
      count : length (words_of (written bs vs k)) ≡ word_count bs
      count = length_words (written bs vs k) ∙ ap (λ n. n / 8) length_written

-- what a write of v at word k leaves: n is the width as the slice counts it
pub put_word :
    (bs vs : List ℕ) (k v n : ℕ) → k < word_count bs → n ≡ 8 → vs ≡ eight_bytes v → v < 2 ^ 64
    → (words_of (put_mid (8 * k) n bs vs) ≡ set (words_of bs) k v) × (rest_of (put_mid (8 * k) n bs vs) ≡ rest_of bs)
put_word bs vs k v n there width laid fits =
    let eight : length vs ≡ 8 = ap length laid in (
      ap (λ n. words_of (put_mid (8 * k) n bs vs)) width
          ∙ words_written bs vs k there eight
          ∙ ap (set (words_of bs) k) (ap value laid ∙ value_eight_bytes v fits),
      ap (λ n. rest_of (put_mid (8 * k) n bs vs)) width ∙ rest_written bs vs k there eight,
    )
