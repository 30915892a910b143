-- The laws of reading whole scripts.
use Rattle.std.proofs.Common.{◌≡◌, ℕ, ◌+◌, List, ◌++◌, length, Some, None, Ok, Option, Result, refl, ap, arith, length-drop}
use Rattle.runs.specs.declared.calls.DrainingCall.{DrainingCall}
use Rattle.runs.specs.declared.calls.OpenCall.{OpenCall}
use Rattle.script.specs.declared.fault.Fault.{Fault}
use Rattle.script.specs.declared.fault.FaultAt.{FaultAt}
use Rattle.script.specs.declared.record.Record.{Record}
use Rattle.script.specs.Calls.{draining_item, open_item}
use Rattle.script.specs.Laws.{DrainsOn, KeepsCallsBefore, OneReading, ReadsOn}
use Rattle.script.specs.Records.{rest_at, two}
use Rattle.script.specs.Scripts.{Ends, EndsOpen, ReadsDraining, next_item}
use Rattle.script.proofs.OnePart.{Cut, appended, cut_behind, cut_calls, cut_fault, ended_final, item_before, longer, one_end, one_part}
use Rattle.script.proofs.Readings.{item_within}

-- the calls after a drain
one_draining : (cs ds : List DrainingCall) (f g : Option FaultAt) (at : ℕ) (bs : List ℕ) → ReadsDraining cs f at bs → ReadsDraining ds g at bs → (cs ≡ ds) × (f ≡ g)
one_draining cs ds f g =
    one_part draining_item (Ends draining_item f) (Ends draining_item g) (f ≡ g) (λ at bs c. ended_final draining_item f at bs (Some c)) (λ at bs c. ended_final draining_item g at bs (Some c)) (one_end draining_item f g) cs ds

module _ {P : Type 0} (brought : Record → Result P Fault) where
  open_final : (after : Option (List DrainingCall)) (f : Option FaultAt) (at : ℕ) (bs : List ℕ) (c : OpenCall P) → EndsOpen brought after f at bs → next_item (open_item brought) bs ≡ Ok (Some c) → ⊥
  open_final None f at bs c e h = ended_final (open_item brought) f at bs (Some c) e h
  open_final (Some ds) f at bs c e h = let k = e.0 in cc

  one_open_end : (after after' : Option (List DrainingCall)) (f g : Option FaultAt) (at : ℕ) (bs : List ℕ) → EndsOpen brought after f at bs → EndsOpen brought after' g at bs → (after ≡ after') × (f ≡ g)
  one_open_end None None f g at bs h k = (refl, one_end (open_item brought) f g at bs h k)
  one_open_end None (Some ds) f g at bs h k = absurd (ended_final (open_item brought) f at bs None h k.0)
  one_open_end (Some cs) None f g at bs h k = absurd (ended_final (open_item brought) g at bs None k h.0)
  one_open_end (Some cs) (Some ds) f g at bs h k =
      let same = one_draining cs ds f g (at + two bs 0) (rest_at bs) h.1 k.1 in
      (ap (λ l. Some l) same.0, same.1)

  pub one_reading : OneReading brought
  one_reading cs ds after after' f g at bs h k =
      let both = one_part (open_item brought) (EndsOpen brought after f) (EndsOpen brought after' g) ((after ≡ after') × (f ≡ g)) (open_final after f) (open_final after' g) (one_open_end after after' f g) cs ds at bs h k in
      (both.0, both.1.0, both.1.1)

  pub reads_on : ReadsOn brought
  reads_on cs ds after f = appended (open_item brought) (EndsOpen brought after f) cs ds

  pub drains_on : DrainsOn brought
  drains_on cs ds es f at xs ys h k =
      longer (open_item brought) (EndsOpen brought (Some ds) None) (EndsOpen brought (Some (ds ++ es)) f) (at + length xs) ys
      (λ a bs sum e.
      let w = item_within (open_item brought) bs None e.0 in
      let b = item_before (open_item brought) bs ys None e.0 in
      let place : at + length xs ≡ a + two bs 0 + length (rest_at bs) = omega (arith, length-drop (two bs 0) bs) in
      (b.0, rw (b.2, b.1) (appended draining_item (Ends draining_item f) ds es (a + two bs 0) (rest_at bs) ys e.1 (rw place at k))))
      cs at xs refl h

  cut_draining : (ds : List DrainingCall) (f : FaultAt) (at : ℕ) (bs : List ℕ) → ReadsDraining ds (Some f) at bs → Cut draining_item (ReadsDraining ds None) f.at at bs
  cut_draining ds f =
      cut_calls draining_item (Ends draining_item (Some f)) (Ends draining_item None) f.at (cut_fault draining_item f) ds

  cut_open : (after : Option (List DrainingCall)) (f : FaultAt) (at : ℕ) (bs : List ℕ) → EndsOpen brought after (Some f) at bs → Cut (open_item brought) (EndsOpen brought after None) f.at at bs
  cut_open None f at bs h = cut_fault (open_item brought) f at bs h
  cut_open (Some ds) f at bs h =
      cut_behind (open_item brought) (ReadsDraining ds None) (EndsOpen brought (Some ds) None) f.at at bs None h.0 (λ xs e k. (e, k)) (cut_draining ds f (at + two bs 0) (rest_at bs) h.1)

  pub keeps_calls_before : KeepsCallsBefore brought
  keeps_calls_before cs after f at bs h =
      cut_calls (open_item brought) (EndsOpen brought after (Some f)) (EndsOpen brought after None) f.at (cut_open after f) cs at bs h
