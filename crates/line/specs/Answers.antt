-- The numbers and values of the answers.
--
-- Told         an answer as a caller is told it: a number and the values that come with it. A refusal has its own number
--              and no values; a post that ends without posting has its number and its grants; every other answer is 0.
-- grants       how many grants the operation had, the one that ended it included
use Rattle.std.specs.Prelude.{ℕ, List, [], ◌∷◌, Ok, Err, Result}
use Rattle.line.specs.declared.answer.Refusal.{Refusal}
use Rattle.line.specs.declared.answer.Refusal.TheVariants.{BadShape, BadStart, TooShort, NeverLaid, NoLane, PostUnderWay, NoPost, CollectUnsettled, NoCollect, CollectNotEnded, NotDone}
use Rattle.line.specs.declared.answer.CollectorAnswer.{CollectorAnswer}
use Rattle.line.specs.declared.answer.CollectorAnswer.TheVariants.{On as CollectGoesOn, Ended as CollectEnded}
use Rattle.line.specs.declared.answer.LaneAnswer.{LaneAnswer}
use Rattle.line.specs.declared.answer.Totals.{Totals}
use Rattle.line.specs.declared.answer.LaneAnswer.TheVariants.{On, Posted, Full, UsedUp}
use Rattle.line.specs.declared.collector.Collected.{Collected}
use Rattle.line.specs.declared.collector.Collected.TheVariants.{Empty, Delivered}
use Rattle.line.specs.declared.receipt.Unspent.{Unspent}

pub record Told : Type 0 where
  pub number : ℕ
  pub values : List ℕ

abbrev pub told : ℕ → List ℕ → Told
told n vs = record { number = n; values = vs }

abbrev pub refusal_number : Refusal → ℕ
refusal_number BadShape = 1
refusal_number BadStart = 2
refusal_number TooShort = 3
refusal_number NeverLaid = 4
refusal_number NoLane = 5
refusal_number PostUnderWay = 6
refusal_number NoPost = 7
refusal_number CollectUnsettled = 10
refusal_number NoCollect = 11
refusal_number CollectNotEnded = 12
refusal_number NotDone = 13

abbrev pub lane_told : LaneAnswer → Told
lane_told On = told 0 []
lane_told (Posted stamp grants) = told 0 (stamp ∷ grants ∷ [])
lane_told (Full grants) = told 8 (grants ∷ [])
lane_told (UsedUp grants) = told 9 (grants ∷ [])

abbrev pub collected_told : Collected → Told
collected_told (Empty grants) = told 0 (grants ∷ [])
collected_told (Delivered lane stamp grants) = told 0 (lane ∷ stamp ∷ grants ∷ [])

abbrev pub collector_told : CollectorAnswer → Told
collector_told CollectGoesOn = told 0 []
collector_told (CollectEnded how) = collected_told how

-- what a call tells that may be refused
abbrev pub told_by : {X : Type 0} → (X → Told) → Result X Refusal → Told
told_by f (Ok x) = f x
told_by f (Err e) = told (refusal_number e) []

-- a call that has nothing to tell but that it was accepted
abbrev pub told_done : {X : Type 0} → Result X Refusal → Told
told_done = told_by (λ _. told 0 [])

abbrev pub told_lane : Result LaneAnswer Refusal → Told
told_lane = told_by lane_told

abbrev pub told_collector : Result CollectorAnswer Refusal → Told
told_collector = told_by collector_told

-- a settling that is refused hands the receipt back with its refusal
abbrev pub told_settled : Result Collected Unspent → Told
told_settled (Ok how) = collected_told how
told_settled (Err back) = told (refusal_number back.refusal) []

-- a fill tells its number
abbrev pub told_fill : Result ℕ Refusal → Told
told_fill = told_by (λ n. told 0 (n ∷ []))

-- a report tells both totals: posted, then delivered
abbrev pub told_totals : Result Totals Refusal → Told
told_totals = told_by (λ totals. told 0 (totals.posted ∷ totals.delivered ∷ []))
