-- Laws of reading, for whatever the posts of a script bring (`brought`).
-- `Reads brought before after fault at bytes`: the bytes, which stand at place `at` of a script, are read as the calls
-- `before`, and if there is a drain, as the calls `after` behind it, up to their end or up to this fault.
use Rattle.std.specs.Prelude.{◌≡◌, ℕ, ◌+◌, ◌-◌, ◌<◌, ◌≤◌, List, ◌++◌, length, take, Some, None, Option, Result}
use Rattle.runs.specs.declared.calls.DrainingCall.{DrainingCall}
use Rattle.runs.specs.declared.calls.OpenCall.{OpenCall}
use Rattle.script.specs.declared.fault.Fault.{Fault}
use Rattle.script.specs.declared.fault.FaultAt.{FaultAt}
use Rattle.script.specs.declared.record.Record.{Record}
use Rattle.script.specs.Scripts.{Reads, ReadsDraining}

module _ {P : Type 0} (brought : Record → Result P Fault) where
  -- bytes have one reading
  abbrev pub OneReading : Type 0
  OneReading =
      (cs ds : List (OpenCall P)) (after after' : Option (List DrainingCall)) (f g : Option FaultAt) (at : ℕ) (bs : List ℕ) → Reads brought cs after f at bs → Reads brought ds after' g at bs → (cs ≡ ds) × (after ≡ after') × (f ≡ g)

  -- bytes without a fault and without a drain, and bytes behind them, are read one after the other
  abbrev pub ReadsOn : Type 0
  ReadsOn =
      (cs ds : List (OpenCall P)) (after : Option (List DrainingCall)) (f : Option FaultAt) (at : ℕ) (xs ys : List ℕ) → Reads brought cs None None at xs → Reads brought ds after f (at + length xs) ys → Reads brought (cs ++ ds) after f at (xs ++ ys)

  -- so are bytes without a fault but with a drain; what stands behind them is read as calls after the drain
  abbrev pub DrainsOn : Type 0
  DrainsOn =
      (cs : List (OpenCall P)) (ds es : List DrainingCall) (f : Option FaultAt) (at : ℕ) (xs ys : List ℕ) → Reads brought cs (Some ds) None at xs → ReadsDraining es f (at + length xs) ys → Reads brought cs (Some (ds ++ es)) f at (xs ++ ys)

  -- a fault keeps the calls before it: they are what the bytes before its place are read as, without a fault
  abbrev pub KeepsCallsBefore : Type 0
  KeepsCallsBefore =
      (cs : List (OpenCall P)) (after : Option (List DrainingCall)) (f : FaultAt) (at : ℕ) (bs : List ℕ) → Reads brought cs after (Some f) at bs → (at ≤ f.at) × (f.at < at + length bs) × Reads brought cs after None at (take (f.at - at) bs)
