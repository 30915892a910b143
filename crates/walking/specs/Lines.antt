-- The text of each line that is printed: what a record is answered with, or the fault that ends the script.
use Rattle.std.specs.Prelude.{ℕ, List, ◌++◌, Some, None, Option, Ok, Err, codes, decimal, Result}
use Rattle.std.specs.Result.{result_err}
use Rattle.line.specs.Answers.{refusal_number}
use Rattle.line.specs.declared.answer.CollectorAnswer.{CollectorAnswer}
use Rattle.line.specs.declared.answer.CollectorAnswer.TheVariants as collector
use Rattle.line.specs.declared.answer.LaneAnswer.{LaneAnswer}
use Rattle.line.specs.declared.answer.LaneAnswer.TheVariants.{On, Posted, Full, UsedUp}
use Rattle.line.specs.declared.answer.Refusal.{Refusal}
use Rattle.line.specs.declared.answer.Totals.{Totals}
use Rattle.line.specs.declared.collector.Collected.{Collected}
use Rattle.line.specs.declared.collector.Collected.TheVariants.{Empty, Delivered}
use Rattle.runs.specs.declared.answers.Answer.TheVariants.{BeginPost, GrantLane, BeginCollect, GrantCollector, Settle, Report}
use Rattle.script.specs.Faults.{fault_line}
use Rattle.walking.specs.declared.lines.Line.{Line}
use Rattle.walking.specs.declared.lines.Line.TheVariants.{Laid, Answered, Draining, Fault}

-- a number behind a blank
abbrev pub then_number : ℕ → List ℕ
then_number n = codes " " ++ decimal n

abbrev pub refused_line : Refusal → List ℕ
refused_line r = codes "refused " ++ decimal (refusal_number r)

-- what an accepted call says by `text`, or the refusal; None where `text` says nothing
abbrev pub or_refused : {T : Type 0} → (T → Option (List ℕ)) → Result T Refusal → Option (List ℕ)
or_refused text (Ok x) = text x
or_refused text (Err r) = Some (refused_line r)

-- an accepted call by this word
abbrev pub done_line : List ℕ → Result (Unit {0}) Refusal → List ℕ
done_line word (Ok _) = word
done_line word (Err r) = refused_line r

abbrev pub lane_text : LaneAnswer → List ℕ
lane_text On = codes " on"
lane_text (Posted stamp grants) = codes " posted" ++ (then_number stamp ++ then_number grants)
lane_text (Full grants) = codes " refused 8" ++ then_number grants
lane_text (UsedUp grants) = codes " refused 9" ++ then_number grants

abbrev pub lane_line : ℕ → Result LaneAnswer Refusal → List ℕ
lane_line lane (Ok answer) = codes "L" ++ (decimal lane ++ lane_text answer)
lane_line lane (Err r) = refused_line r

abbrev pub collected_line : Collected → List ℕ
collected_line (Empty grants) = codes "C empty" ++ then_number grants
collected_line (Delivered lane stamp grants) =
    codes "C delivered" ++ (then_number lane ++ (then_number stamp ++ then_number grants))

abbrev pub collector_line : Result CollectorAnswer Refusal → List ℕ
collector_line (Ok collector.On) = codes "C on"
collector_line (Ok (collector.Ended how)) = collected_line how
collector_line (Err r) = refused_line r

abbrev pub settled_line : Result Collected Refusal → List ℕ
settled_line (Ok _) = codes "settled"
settled_line (Err r) = refused_line r

abbrev pub report_line : Result Totals Refusal → List ℕ
report_line (Ok totals) = codes "report" ++ (then_number totals.posted ++ then_number totals.delivered)
report_line (Err r) = refused_line r

abbrev pub line_text : Line → List ℕ
line_text (Laid result) = done_line (codes "laid") result
line_text (Answered (BeginPost result)) = done_line (codes "begun") result
line_text (Answered (GrantLane lane result)) = lane_line lane result
line_text (Answered (BeginCollect result)) = done_line (codes "begun") result
line_text (Answered (GrantCollector result)) = collector_line result
line_text (Answered (Settle result)) = settled_line result
line_text (Answered (Report result)) = report_line result
line_text Draining = codes "draining"
line_text (Fault fault) = fault_line fault

-- the refusal that a record is answered with
abbrev pub refusal_of : Line → Option Refusal
refusal_of (Laid result) = result_err result
refusal_of (Answered (BeginPost result)) = result_err result
refusal_of (Answered (GrantLane lane result)) = result_err result
refusal_of (Answered (BeginCollect result)) = result_err result
refusal_of (Answered (GrantCollector result)) = result_err result
refusal_of (Answered (Settle result)) = result_err result
refusal_of (Answered (Report result)) = result_err result
refusal_of Draining = None
refusal_of (Fault fault) = None
