-- The word map and the tray map: every address has a word of its own, and every place a tray of its own.
use Rattle.std.proofs.Common.{◌≡◌, ℕ, ◌+◌, ◌-◌, ◌*◌, ◌/◌, ◌%◌, ◌<◌, cond, ltb, sym, refl, ap, ◌∙◌, mul-le-mul_right, suc-mul, arith}
use lib.Arith.{digits_div, digits_mod}
use Rattle.std.proofs.lemmas.Bool.Decides.{nat_tests}
use Rattle.line.specs.declared.access.Address.{Address}
use Rattle.line.specs.declared.access.Address.TheVariants.{Counter, Slot, Head, Tail, CellStamp}
use Rattle.line.specs.declared.access.Place.{Place}
use Rattle.line.specs.declared.access.Place.TheVariants.{Hand, CollectorsHand, Cell}
use Rattle.line.specs.declared.access.Shape.{Shape}
use Rattle.line.specs.Laws.{IsAddress, IsPlace, EachAddressHasItsOwnWord, EachPlaceHasItsOwnTray}
use Rattle.line.specs.Map.{words_needed, trays_needed, word_of, tray_of}

-- cell i of lane r among n lanes of k cells
pub cell_below : (n k r i : ℕ) → r < n → i < k → r * k + i < n * k
cell_below n k r i h l = omega (arith, mul-le-mul_right k h, suc-mul r k)

module _ (s : Shape) where
  pub word_below : (a : Address) → IsAddress s a → word_of s a < words_needed s
  word_below Counter h = omega arith
  word_below (Slot r) h = omega arith
  word_below (Head r) h = omega arith
  word_below (Tail r) h = omega arith
  word_below (CellStamp r i) (h, l) = omega (arith, cell_below s.lanes s.cells r i h l)

  pub tray_below : (p : Place) → IsPlace s p → tray_of s p < trays_needed s
  tray_below (Hand r) h = omega arith
  tray_below CollectorsHand h = omega arith
  tray_below (Cell r i) (h, l) = omega (arith, cell_below s.lanes s.cells r i h l)

  -- the address of a word, and the place of a tray
  abbrev address_at : ℕ → Address
  address_at w =
      cond (ltb w 1) Counter
      (cond (ltb w (1 + s.lanes)) (Slot (w - 1))
      (cond (ltb w (1 + 2 * s.lanes)) (Head (w - (1 + s.lanes)))
      (cond (ltb w (1 + 3 * s.lanes)) (Tail (w - (1 + 2 * s.lanes)))
      (CellStamp ((w - (1 + 3 * s.lanes)) / s.cells) ((w - (1 + 3 * s.lanes)) % s.cells)))))

  abbrev place_at : ℕ → Place
  place_at w =
      cond (ltb w s.lanes) (Hand w)
      (cond (ltb w (s.lanes + 1)) CollectorsHand (Cell ((w - (s.lanes + 1)) / s.cells) ((w - (s.lanes + 1)) % s.cells)))

  address_again : (a : Address) → IsAddress s a → address_at (word_of s a) ≡ a
  address_again Counter h = refl
  address_again (Slot r) h = grind (arith, nat_tests)
  address_again (Head r) h = grind (arith, nat_tests)
  address_again (Tail r) h = grind (arith, nat_tests)
  address_again (CellStamp r i) (h, l) =
      let back : 1 + 3 * s.lanes + r * s.cells + i - (1 + 3 * s.lanes) ≡ r * s.cells + i = omega arith in
      let lane : (1 + 3 * s.lanes + r * s.cells + i - (1 + 3 * s.lanes)) / s.cells ≡ r = ap (λ x. x / s.cells) back ∙ digits_div r l in
      let cell : (1 + 3 * s.lanes + r * s.cells + i - (1 + 3 * s.lanes)) % s.cells ≡ i = ap (λ x. x % s.cells) back ∙ digits_mod r l in
      grind (arith, nat_tests)

  place_again : (p : Place) → IsPlace s p → place_at (tray_of s p) ≡ p
  place_again (Hand r) h = grind (arith, nat_tests)
  place_again CollectorsHand h = grind (arith, nat_tests)
  place_again (Cell r i) (h, l) =
      let back : s.lanes + 1 + r * s.cells + i - (s.lanes + 1) ≡ r * s.cells + i = omega arith in
      let lane : (s.lanes + 1 + r * s.cells + i - (s.lanes + 1)) / s.cells ≡ r = ap (λ x. x / s.cells) back ∙ digits_div r l in
      let cell : (s.lanes + 1 + r * s.cells + i - (s.lanes + 1)) % s.cells ≡ i = ap (λ x. x % s.cells) back ∙ digits_mod r l in
      grind (arith, nat_tests)

pub each_address_has_its_own_word : EachAddressHasItsOwnWord
each_address_has_its_own_word s a b x y = (word_below s a x, λ e. sym (address_again s a x) ∙ ap (address_at s) e ∙ address_again s b y)

pub each_place_has_its_own_tray : EachPlaceHasItsOwnTray
each_place_has_its_own_tray s a b x y = (tray_below s a x, λ e. sym (place_again s a x) ∙ ap (place_at s) e ∙ place_again s b y)
