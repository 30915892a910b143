-- The two parts of a script: the calls before the drain, and those after it.
use Rattle.std.proofs.Common.{◌≡◌, ℕ, ◌+◌, ◌-◌, ◌≤◌, List, length, take, drop, Some, None, Ok, Err, Option, Result, arith}
use Rattle.std.specs.Result.{result_err}
use Rattle.runs.specs.declared.calls.CrewCall.{CrewCall}
use Rattle.runs.specs.declared.calls.DrainingCall.{DrainingCall}
use Rattle.runs.specs.declared.calls.DrainingCall.TheVariants as draining
use Rattle.runs.specs.declared.calls.OpenCall.{OpenCall}
use Rattle.std.proofs.lemmas.List.{take_rest}
use Rattle.script.specs.declared.fault.Fault.{Fault}
use Rattle.script.specs.declared.fault.FaultAt.{FaultAt}
use Rattle.script.specs.declared.record.Kind.{Kind}
use Rattle.script.specs.declared.record.Kind.TheVariants.{Report}
use Rattle.script.specs.declared.record.Record.{Record}
use Rattle.script.specs.Calls.{calling, crew_call, draining_item, open_item}
use Rattle.script.specs.Records.{kind_of, record_at}
use Rattle.script.specs.Scripts.{CallsFrom, CallsUpTo, EndsOpen, Reads, ReadsDraining, Stops, said}
use Rattle.script.proofs.Readings.{all_of, behind_calls, passed, retold}

-- no record says after the drain that the line drains
no_second_of : (k : Result Kind Fault) (x : Result CrewCall Fault) → ◌≡◌ {A = Result (Option DrainingCall) Fault} (elim k [ Ok k' ↦ elim k' [ Report ↦ Ok (Some draining.Report) | _ ↦ calling (λ c. draining.Any c) x ] | Err f ↦ Err f ]) (Ok None) → ⊥
no_second_of (Err f) x h = cc
no_second_of (Ok Report) x h = cc
no_second_of (Ok _) (Ok c) h = cc
no_second_of (Ok _) (Err f) h = cc

no_second : (x : Result Record Fault) → said draining_item x ≡ Ok None → ⊥
no_second (Ok r) h = no_second_of (kind_of r.kind) (crew_call r) h
no_second (Err f) h = cc

-- the part after the drain ends with the script
read_draining : (stop : Result (Option ℕ) FaultAt) (cs : List DrainingCall) (at : ℕ) (bs : List ℕ) → CallsUpTo draining_item (Stops draining_item stop) cs at bs → ReadsDraining cs (result_err stop) at bs
read_draining (Ok None) cs at bs h = h
read_draining (Err f) cs at bs h = h
read_draining (Ok (Some behind)) cs at bs h =
    absurd (behind_calls draining_item ⊥ cs at bs (retold draining_item (Stops draining_item (Ok (Some behind))) (λ _ _. ⊥) at bs (λ a b p s. no_second (record_at b) s.0) cs at bs (all_of draining_item at bs) h))

module _ {P : Type 0} (brought : Record → Result P Fault) where
  -- a script that is not too long
  short : (cs : List (OpenCall P)) (after : Option (List DrainingCall)) (f : Option FaultAt) (at : ℕ) (bs : List ℕ) → at + length bs ≤ 60000 → Reads brought cs after f at bs → CallsFrom brought at bs cs after f
  short cs after f at bs le h = (λ long. absurd (omega arith), λ _. h)

  -- the part before the drain ends there, and the part behind the drain follows
  pub with_drain : (stop dstop : Result (Option ℕ) FaultAt) (behind : ℕ) (f : Option FaultAt) (cs cs' : List (OpenCall P)) (ds : List DrainingCall) (at : ℕ) (bs : List ℕ) → at + length bs ≤ 60000 → cs' ≡ cs → stop ≡ Ok (Some behind) → f ≡ result_err dstop → CallsUpTo (open_item brought) (Stops (open_item brought) stop) cs at bs → CallsUpTo draining_item (Stops draining_item dstop) ds behind (take (length bs - (behind - at)) (drop (behind - at) bs)) → CallsFrom brought at bs cs' (Some ds) f
  with_drain stop dstop behind f cs cs' ds at bs le same e ef h k =
      let rest : ReadsDraining ds f behind (drop (behind - at) bs) = rw ef (read_draining dstop ds behind _ (rw take_rest at k)) in
      short cs' (Some ds) f at bs le
      (rw same (retold (open_item brought) (Stops (open_item brought) (Ok (Some behind))) (EndsOpen brought (Some ds) f) at bs
      (λ a b p s. let q = passed (open_item brought) at bs a b None s.0 p in (s.0, rw (q.2, ← s.1) rest))
      cs at bs (all_of (open_item brought) at bs) (rw e at h)))
