-- How a fault of a script is reported: by its number, and by a line of text with its number and its place.
use Rattle.std.specs.Prelude.{ℕ, List, ◌++◌, codes, decimal}
use Rattle.script.specs.declared.fault.Fault.{Fault}
use Rattle.script.specs.declared.fault.Fault.TheVariants.{CutShort, UnknownKind, OutOfPlace, FieldNotAllowed, TooLong}
use Rattle.script.specs.declared.fault.FaultAt.{FaultAt}

abbrev pub fault_number : Fault → ℕ
fault_number CutShort = 14
fault_number UnknownKind = 15
fault_number OutOfPlace = 16
fault_number FieldNotAllowed = 17
fault_number TooLong = 18

-- what stands in the script, in words
abbrev pub fault_text : Fault → List ℕ
fault_text CutShort = codes "a record cut short or of wrong length"
fault_text UnknownKind = codes "a record of unknown kind"
fault_text OutOfPlace = codes "a record whose kind is out of place"
fault_text FieldNotAllowed = codes "a record with a field that is not allowed"
fault_text TooLong = codes "a script of more than 60,000 bytes"

abbrev pub fault_line : FaultAt → List ℕ
fault_line f = codes "fault " ++ (decimal (fault_number f.fault) ++ (codes " at " ++ decimal f.at))
