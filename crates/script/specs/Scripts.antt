-- What a whole script says. Its first record lays a line for one payload, tickets or notes (`opening`); each later
-- record is a call on that line or its drain, up to the end or up to the first fault (`Reads`).
use Rattle.std.specs.Prelude.{◌≡◌, ℕ, ◌+◌, ◌<◌, ◌≤◌, cond, List, [], ◌∷◌, length, Some, None, Ok, Err, vec_items, Option, Result, Vec, ◌==◌, nat_lt}
use Rattle.runs.specs.declared.calls.DrainingCall.{DrainingCall}
use Rattle.runs.specs.declared.calls.Laying.{Laying}
use Rattle.runs.specs.declared.calls.OpenCall.{OpenCall}
use Rattle.script.specs.declared.fault.Fault.{Fault}
use Rattle.script.specs.declared.fault.Fault.TheVariants.{OutOfPlace, TooLong}
use Rattle.script.specs.declared.fault.FaultAt.{FaultAt}
use Rattle.script.specs.declared.record.Kind.{Kind}
use Rattle.script.specs.declared.record.Kind.TheVariants.{LayTickets, LayNotes}
use Rattle.script.specs.declared.record.Record.{Record}
use Rattle.script.specs.declared.script.Payloads.{Payloads}
use Rattle.script.specs.declared.script.Payloads.TheVariants.{Tickets, Notes}
use Rattle.script.specs.Calls.{draining_item, open_item}
use Rattle.script.specs.Records.{kind_of, record_at, rest_at, two}

-- for which payload a line is laid, and with which numbers
pub data Line : Type 0 where
  tickets : Laying → Line
  notes : Laying → Line

abbrev pub laying_of : Record → Laying
laying_of r = record { lanes = r.lanes; cells = r.cells; start = r.start }

abbrev pub line_for : Payloads → Laying → Line
line_for Tickets l = tickets l
line_for Notes l = notes l

-- what the posts bring on a line that a record of this kind lays
abbrev pub payloads_of : Kind → Result Payloads Fault
payloads_of k = elim k [ LayTickets ↦ Ok Tickets | LayNotes ↦ Ok Notes | _ ↦ Err OutOfPlace ]

-- the first record of a script has to lay a line
abbrev pub first_line : Result Record Fault → Result Line Fault
first_line (Err f) = Err f
first_line (Ok r) =
    elim (kind_of r.kind) [
      | Ok k ↦ elim (payloads_of k) [ Ok p ↦ Ok (line_for p (laying_of r)) | Err f ↦ Err f ]
      | Err _ ↦ Err OutOfPlace
    ]

abbrev pub line_of : Result Record Fault → Result (Option Line) FaultAt
line_of r = elim (first_line r) [ Ok line ↦ Ok (Some line) | Err f ↦ Err (record { fault = f; at = 0 }) ]

abbrev pub too_long : FaultAt
too_long = record { fault = TooLong; at = 0 }

-- how a script begins; one without bytes lays no line
abbrev pub opening : List ℕ → Result (Option Line) FaultAt
opening bs =
    cond (nat_lt 60000 (length bs)) (Err too_long) (cond (length bs == 0) (Ok None) (line_of (record_at bs)))

-- the script begins with this line, and goes on with the bytes `rest`
abbrev pub Opens : List ℕ → Line → List ℕ → Type 0
Opens bs line rest = (opening bs ≡ Ok (Some line)) × (rest ≡ rest_at bs)

-- the calls behind the drain, if there is one
module _ {X Z : Type 0} where
  abbrev pub after_items : Option (Vec X Z) → Option (List X)
  after_items None = None
  after_items (Some v) = Some (vec_items v)

-- Reading by a rule `item_of`, which says what a record of one part of a script says: a call, or that the line drains (None).
-- `Then` speaks of a place of the script and the bytes from there on.
module _ {C : Type 0} (item_of : Record → Result (Option C) Fault) where
  abbrev pub said : Result Record Fault → Result (Option C) Fault
  said (Ok r) = item_of r
  said (Err f) = Err f

  -- what the record at the front of the bytes says
  abbrev pub next_item : List ℕ → Result (Option C) Fault
  next_item bs = said (record_at bs)

  -- the bytes, which stand at place `at`, begin with the records of these calls; `Then` holds behind them
  abbrev pub CallsUpTo : (ℕ → List ℕ → Type 0) → List C → ℕ → List ℕ → Type 0
  CallsUpTo Then [] at bs = Then at bs
  CallsUpTo Then (c ∷ cs) at bs = (next_item bs ≡ Ok (Some c)) × CallsUpTo Then cs (at + two bs 0) (rest_at bs)

  -- the script ends here: after its last byte, or by this fault
  abbrev pub Ends : Option FaultAt → ℕ → List ℕ → Type 0
  Ends None at bs = bs ≡ []
  Ends (Some f) at bs = (0 < length bs) × (next_item bs ≡ Err f.fault) × (f.at ≡ at)

  -- a part of a script ends so: with the script, at a drain (with the place behind it), or by a fault
  abbrev pub Stops : Result (Option ℕ) FaultAt → ℕ → List ℕ → Type 0
  Stops (Ok None) at bs = Ends None at bs
  Stops (Ok (Some behind)) at bs = (next_item bs ≡ Ok None) × (behind ≡ at + two bs 0)
  Stops (Err f) at bs = Ends (Some f) at bs

-- the bytes behind a drain are read as these calls, up to their end or up to this fault
abbrev pub ReadsDraining : List DrainingCall → Option FaultAt → ℕ → List ℕ → Type 0
ReadsDraining cs f = CallsUpTo draining_item (Ends draining_item f) cs

-- `brought` says what the record of a post brings
module _ {P : Type 0} (brought : Record → Result P Fault) where
  -- how the calls before a drain end: with the script (None), or at the drain and the calls behind it
  abbrev pub EndsOpen : Option (List DrainingCall) → Option FaultAt → ℕ → List ℕ → Type 0
  EndsOpen None f at bs = Ends (open_item brought) f at bs
  EndsOpen (Some cs) f at bs =
      (next_item (open_item brought) bs ≡ Ok None) × ReadsDraining cs f (at + two bs 0) (rest_at bs)

  -- the bytes behind the laying, which stand at place `at`, are read as these calls before and after the drain, up to
  -- their end or up to this fault
  abbrev pub Reads : List (OpenCall P) → Option (List DrainingCall) → Option FaultAt → ℕ → List ℕ → Type 0
  Reads cs after f = CallsUpTo (open_item brought) (EndsOpen after f) cs

  -- the same, but a script of more than 60,000 bytes has no calls at all
  abbrev pub CallsFrom : ℕ → List ℕ → List (OpenCall P) → Option (List DrainingCall) → Option FaultAt → Type 0
  CallsFrom at bs cs after f =
      (60000 < at + length bs → (cs ≡ []) × (after ≡ None) × (f ≡ Some too_long))
      × (at + length bs ≤ 60000 → Reads cs after f at bs)
