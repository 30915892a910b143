-- Laws of the line's definitions, each proved once and named by what it says.
--
-- IsAddress   the lane and the cell of an address are there; likewise IsPlace
-- EndsWithin  whatever words its grants read, a post ends within so many more of them, and tells how many it had in all:
--              1 where the lane is full, 2 where the stamps are used up; likewise CollectEndsWithin
use Rattle.std.specs.Prelude.{◌≡◌, ℕ, zero, suc, ◌+◌, ◌*◌, ◌<◌, ◌≤◌, List, Result}
use Rattle.line.specs.declared.access.Address.{Address}
use Rattle.line.specs.declared.access.Address.TheVariants.{Counter, Slot, Head, Tail, CellStamp}
use Rattle.line.specs.declared.access.Place.{Place}
use Rattle.line.specs.declared.access.Place.TheVariants.{Hand, CollectorsHand, Cell}
use Rattle.line.specs.declared.access.Shape.{Shape}
use Rattle.line.specs.declared.answer.CollectorAnswer.{CollectorAnswer}
use Rattle.line.specs.declared.answer.CollectorAnswer.TheVariants.{On as CollectGoesOn, Ended as CollectEnded}
use Rattle.line.specs.declared.answer.LaneAnswer.{LaneAnswer}
use Rattle.line.specs.declared.answer.LaneAnswer.TheVariants.{On, Posted, Full, UsedUp}
use Rattle.line.specs.declared.answer.Refusal.{Refusal}
use Rattle.line.specs.declared.collector.Collected.TheVariants.{Empty, Delivered}
use Rattle.line.specs.declared.collector.Collector.{Collector}
use Rattle.line.specs.declared.lane.LaneRow.{LaneRow}
use Rattle.line.specs.Answers.{told_collector, told_lane}
use Rattle.line.specs.Collect.{begun_collector, collect_answer_at, collector_at, collector_next, heads_after}
use Rattle.line.specs.Crew.{begun_row}
use Rattle.line.specs.Map.{words_needed, trays_needed, word_of, tray_of}
use Rattle.line.specs.Post.{lane_answer, one_more, row_after}

abbrev pub IsAddress : Shape → Address → Type 0
IsAddress s Counter = Unit {0}
IsAddress s (Slot r) = r < s.lanes
IsAddress s (Head r) = r < s.lanes
IsAddress s (Tail r) = r < s.lanes
IsAddress s (CellStamp r i) = (r < s.lanes) × (i < s.cells)

abbrev pub IsPlace : Shape → Place → Type 0
IsPlace s (Hand r) = r < s.lanes
IsPlace s CollectorsHand = Unit {0}
IsPlace s (Cell r i) = (r < s.lanes) × (i < s.cells)

-- every address of a line is a word of its own among the words that the line takes up
abbrev pub EachAddressHasItsOwnWord : Type 0
EachAddressHasItsOwnWord =
    (s : Shape) (a b : Address) → IsAddress s a → IsAddress s b → (word_of s a < words_needed s) × (word_of s a ≡ word_of s b → a ≡ b)

abbrev pub EachPlaceHasItsOwnTray : Type 0
EachPlaceHasItsOwnTray =
    (s : Shape) (a b : Place) → IsPlace s a → IsPlace s b → (tray_of s a < trays_needed s) × (tray_of s a ≡ tray_of s b → a ≡ b)

-- no two answers of a lane's grant are told alike, and no two of the collector's
abbrev pub AnswersAreToldApart : Type 0
AnswersAreToldApart =
    ((a b : Result LaneAnswer Refusal) → told_lane a ≡ told_lane b → a ≡ b)
    × ((a b : Result CollectorAnswer Refusal) → told_collector a ≡ told_collector b → a ≡ b)

-- after the answer, with n grants made: a post that goes on does what is said of the rest
abbrev pub EndsOrGoesOn : LaneAnswer → ℕ → Type 0 → Type 0
EndsOrGoesOn On n rest = rest
EndsOrGoesOn (Posted stamp grants) n rest = grants ≡ n
EndsOrGoesOn (Full grants) n rest = (grants ≡ n) × (n ≡ 1)
EndsOrGoesOn (UsedUp grants) n rest = (grants ≡ n) × (n ≡ 2)

-- a post that has had n grants
abbrev pub EndsWithin : ℕ → ℕ → LaneRow → Type 0
EndsWithin zero n row = ⊥
EndsWithin (suc more) n row = (w : ℕ) → EndsOrGoesOn (lane_answer row w) (suc n) (EndsWithin more (suc n) (row_after row w))

abbrev pub EachPostEndsByItsThirteenthGrant : Type 0
EachPostEndsByItsThirteenthGrant = (row : LaneRow) → EndsWithin 13 0 (begun_row row)

-- the same of the collector over n lanes: an empty collect ends with its grant n
abbrev pub CollectEndsOrGoesOn : CollectorAnswer → ℕ → ℕ → Type 0 → Type 0
CollectEndsOrGoesOn CollectGoesOn n m rest = rest
CollectEndsOrGoesOn (CollectEnded (Empty grants)) n m rest = (grants ≡ m) × (m ≡ n)
CollectEndsOrGoesOn (CollectEnded (Delivered lane stamp grants)) n m rest = grants ≡ m

-- a collect that has had m grants
abbrev pub CollectEndsWithin : ℕ → ℕ → Shape → List ℕ → Collector → Type 0
CollectEndsWithin zero m s heads k = ⊥
CollectEndsWithin (suc more) m s heads k =
    (w : ℕ) →
    let next = collector_next s heads k.stage w in
    CollectEndsOrGoesOn (collect_answer_at (one_more k.grants) next) s.lanes (suc m)
    (CollectEndsWithin more (suc m) s (heads_after s heads k.stage) (collector_at (one_more k.grants) next))

abbrev pub Each-collect-ends-by-grant-2n+9 : Type 0
Each-collect-ends-by-grant-2n+9 =
    (s : Shape) (heads : List ℕ) → 1 ≤ s.lanes → s.lanes ≤ 16 → CollectEndsWithin (2 * s.lanes + 9) 0 s heads begun_collector
