-- What a record after the laying says: a call, or that the line drains from there on (None).
-- Before the drain a record is read by `open_item`, after it by `draining_item`; `crew_call` has the calls that may
-- stand in both parts.
use Rattle.std.specs.Prelude.{cond, Some, None, Option, Ok, Err, Result, ◌==◌}
use Rattle.runs.specs.declared.calls.CrewCall.{CrewCall}
use Rattle.runs.specs.declared.calls.CrewCall.TheVariants as crew
use Rattle.runs.specs.declared.calls.DrainingCall.{DrainingCall}
use Rattle.runs.specs.declared.calls.DrainingCall.TheVariants as draining
use Rattle.runs.specs.declared.calls.OpenCall.{OpenCall}
use Rattle.runs.specs.declared.calls.OpenCall.TheVariants.{BeginPost, Any}
use Rattle.script.specs.declared.fault.Fault.{Fault}
use Rattle.script.specs.declared.fault.Fault.TheVariants.{OutOfPlace, FieldNotAllowed}
use Rattle.script.specs.declared.record.Kind.TheVariants.{PostTicket, PostNote, GrantLane, BeginCollect, GrantCollector, Settle, Drain, Report}
use Rattle.script.specs.declared.record.Record.{Record}
use Rattle.script.specs.Records.{by_kind}

-- a grant is given at least once
abbrev pub if_times : Record → CrewCall → Result CrewCall Fault
if_times r c = cond (r.times == 0) (Err FieldNotAllowed) (Ok c)

abbrev pub crew_call : Record → Result CrewCall Fault
crew_call r =
    by_kind (λ k. elim k [
      | GrantLane ↦ if_times r (crew.GrantLane r.lane r.times)
      | BeginCollect ↦ Ok crew.BeginCollect
      | GrantCollector ↦ if_times r (crew.GrantCollector r.times)
      | Settle ↦ Ok crew.Settle
      | _ ↦ Err OutOfPlace
    ]) r

-- the item that makes the call of what was read
module _ {X C : Type 0} (call : X → C) where
  abbrev pub calling : Result X Fault → Result (Option C) Fault
  calling (Ok x) = Ok (Some (call x))
  calling (Err f) = Err f

abbrev pub draining_item : Record → Result (Option DrainingCall) Fault
draining_item r =
    by_kind (λ k. elim k [ Report ↦ Ok (Some draining.Report) | _ ↦ calling (λ c. draining.Any c) (crew_call r) ]) r

-- `brought` says what the record of a post brings
module _ {P : Type 0} (brought : Record → Result P Fault) where
  abbrev pub open_item : Record → Result (Option (OpenCall P)) Fault
  open_item r =
      by_kind (λ k. elim k [
        | PostTicket ↦ calling (λ p. BeginPost r.lane p) (brought r)
        | PostNote ↦ calling (λ p. BeginPost r.lane p) (brought r)
        | Drain ↦ Ok None
        | _ ↦ calling (λ c. Any c) (crew_call r)
      ]) r
