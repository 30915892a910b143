-- Answers can be told apart: from number and values each is found again.
use Rattle.std.proofs.Common.{◌≡◌, ℕ, List, [], ◌∷◌, get_or, Ok, Err, Result, sym, refl, ap, ◌∙◌}
use Rattle.line.specs.declared.answer.CollectorAnswer.{CollectorAnswer}
use Rattle.line.specs.declared.answer.CollectorAnswer.TheVariants.{On as CollectGoesOn, Ended as CollectEnded}
use Rattle.line.specs.declared.answer.LaneAnswer.{LaneAnswer}
use Rattle.line.specs.declared.answer.LaneAnswer.TheVariants.{On, Posted, Full, UsedUp}
use Rattle.line.specs.declared.answer.Refusal.{Refusal}
use Rattle.line.specs.declared.answer.Refusal.TheVariants.{BadShape, BadStart, TooShort, NeverLaid, NoLane, PostUnderWay, NoPost, CollectUnsettled, NoCollect, CollectNotEnded, NotDone}
use Rattle.line.specs.declared.collector.Collected.TheVariants.{Empty, Delivered}
use Rattle.line.specs.Answers.{Told, refusal_number, told_by, told_collector, told_lane}
use Rattle.line.specs.Laws.{AnswersAreToldApart}

-- the answer of a number: one of these three, or a refusal
module _ {X : Type 0} where
  abbrev numbered : Result X Refusal → Result X Refusal → Result X Refusal → ℕ → Result X Refusal
  numbered accepted eight nine n =
      get_or (accepted ∷ Err BadShape ∷ Err BadStart ∷ Err TooShort ∷ Err NeverLaid ∷ Err NoLane ∷ Err PostUnderWay ∷ Err NoPost ∷ eight ∷ nine ∷ Err CollectUnsettled ∷ Err NoCollect ∷ Err CollectNotEnded ∷ []) n (Err NotDone)

  refusal_again : (a b c : Result X Refusal) (e : Refusal) → numbered a b c (refusal_number e) ≡ Err e
  refusal_again a b c BadShape = refl
  refusal_again a b c BadStart = refl
  refusal_again a b c TooShort = refl
  refusal_again a b c NeverLaid = refl
  refusal_again a b c NoLane = refl
  refusal_again a b c PostUnderWay = refl
  refusal_again a b c NoPost = refl
  refusal_again a b c CollectUnsettled = refl
  refusal_again a b c NoCollect = refl
  refusal_again a b c CollectNotEnded = refl
  refusal_again a b c NotDone = refl

  -- what is found again from its telling is told apart
  apart : (f : X → Told) (back : Told → Result X Refusal) → ((a : Result X Refusal) → back (told_by f a) ≡ a) → (a b : Result X Refusal) → told_by f a ≡ told_by f b → a ≡ b
  apart f back again a b e = sym (again a) ∙ ap back e ∙ again b

abbrev posted_by : List ℕ → Result LaneAnswer Refusal
posted_by [] = Ok On
posted_by (s ∷ vs) = Ok (Posted s (get_or vs 0 0))

abbrev lane_by : Told → Result LaneAnswer Refusal
lane_by t = numbered (posted_by t.values) (Ok (Full (get_or t.values 0 0))) (Ok (UsedUp (get_or t.values 0 0))) t.number

lane_again : (a : Result LaneAnswer Refusal) → lane_by (told_lane a) ≡ a
lane_again (Ok On) = refl
lane_again (Ok (Posted s g)) = refl
lane_again (Ok (Full g)) = refl
lane_again (Ok (UsedUp g)) = refl
lane_again (Err e) = refusal_again (Ok On) (Ok (Full 0)) (Ok (UsedUp 0)) e

abbrev delivered_by : ℕ → List ℕ → Result CollectorAnswer Refusal
delivered_by v [] = Ok (CollectEnded (Empty v))
delivered_by v (s ∷ vs) = Ok (CollectEnded (Delivered v s (get_or vs 0 0)))

abbrev collected_by : List ℕ → Result CollectorAnswer Refusal
collected_by [] = Ok CollectGoesOn
collected_by (v ∷ vs) = delivered_by v vs

abbrev collector_by : Told → Result CollectorAnswer Refusal
collector_by t = numbered (collected_by t.values) (Ok CollectGoesOn) (Ok CollectGoesOn) t.number

collector_again : (a : Result CollectorAnswer Refusal) → collector_by (told_collector a) ≡ a
collector_again (Ok CollectGoesOn) = refl
collector_again (Ok (CollectEnded (Empty g))) = refl
collector_again (Ok (CollectEnded (Delivered l s g))) = refl
collector_again (Err e) = refusal_again (Ok CollectGoesOn) (Ok CollectGoesOn) (Ok CollectGoesOn) e

pub answers_are_told_apart : AnswersAreToldApart
answers_are_told_apart = (apart _ lane_by lane_again, apart _ collector_by collector_again)
