-- What the record of a post brings.
-- A reading has a tag (1 temperature, 2 bias voltage, 3 mean dark level, 4 fault code) and the bits of its value.
use Rattle.std.specs.Prelude.{ℕ, ◌/◌, ◌%◌, Bool, cond, not, ◌&&◌, Ok, Err, Result, ◌==◌, from_bits, nat_le, List, ◌++◌, codes, decimal, Some, None, Option}
use Rattle.std.specs.Float.{Float, binary32}
use Rattle.script.specs.declared.fault.Fault.{Fault}
use Rattle.script.specs.declared.fault.Fault.TheVariants.{OutOfPlace, FieldNotAllowed}
use Rattle.script.specs.declared.payload.Note.{Note}
use Rattle.script.specs.declared.payload.Note.TheVariants.{Temperature, BiasVoltage, DarkLevel, FaultCode}
use Rattle.script.specs.declared.payload.Ticket.{Ticket}
use Rattle.script.specs.declared.record.Kind.{Kind}
use Rattle.script.specs.declared.record.Kind.TheVariants.{PostTicket, PostNote}
use Rattle.script.specs.declared.record.Record.{Record}
use Rattle.script.specs.Records.{kind_number}

-- the bits of a float that is a finite number: its exponent bits are not all ones
abbrev pub finite : ℕ → Bool
finite bits = not (bits / 8388608 % 256 == 255)

-- a measured value is finite, a fault code is any number, and there is no other tag
abbrev pub allowed_reading : ℕ → ℕ → Bool
allowed_reading tag bits = cond (nat_le 1 tag && nat_le tag 3) (finite bits) (tag == 4)

abbrev pub reading : ℕ → ℕ → Note
reading tag bits =
    cond (tag == 1) (Temperature (from_bits binary32 bits))
    (cond (tag == 2) (BiasVoltage (from_bits binary32 bits))
    (cond (tag == 3) (DarkLevel (from_bits binary32 bits)) (FaultCode bits)))

abbrev pub note_of : ℕ → ℕ → Result Note Fault
note_of tag bits = cond (allowed_reading tag bits) (Ok (reading tag bits)) (Err FieldNotAllowed)

abbrev pub measured : ℕ → Result Float Fault
measured bits = cond (finite bits) (Ok (from_bits binary32 bits)) (Err FieldNotAllowed)

-- what a post of kind k brings; a record of another kind is out of place
abbrev pub if_kind : {X : Type 0} → Kind → Record → Result X Fault → Result X Fault
if_kind k r brings = cond (r.kind == kind_number k) brings (Err OutOfPlace)

abbrev pub ticket_brought : Record → Result Ticket Fault
ticket_brought r =
    if_kind PostTicket r (Ok (record { frame = r.frame; place = r.place; length = r.length }))

abbrev pub note_brought : Record → Result Note Fault
note_brought r = if_kind PostNote r (note_of r.tag r.value)

-- the text of a ticket
abbrev pub ticket_text : Ticket → List ℕ
ticket_text t =
    codes "frame " ++ (decimal t.frame ++ (codes ", place " ++ (decimal t.place ++ (codes ", length " ++ decimal t.length))))

-- the text of a note; None for a measured value, since no contract says how a float is printed
abbrev pub note_text : Note → Option (List ℕ)
note_text (FaultCode code) = Some (codes "fault code " ++ decimal code)
note_text (Temperature _) = None
note_text (BiasVoltage _) = None
note_text (DarkLevel _) = None
