-- Calls as data, and what performing one does.
--
-- State        the line's words and trays, and its crew
-- Memory       words and trays other than the line's
-- elsewhere    the memory that a call is given in place of the line's, if it is
-- Done         what a call tells, and the state that it leaves
use Rattle.std.specs.Prelude.{ℕ, List, [], ◌∷◌}
use Rattle.std.proofs.Math.Option.{Option, none, some}
use Rattle.line.specs.declared.crew.Core.{Core}
use Rattle.line.specs.Answers.{Told}
use Rattle.line.specs.Calls.{CrewOutcome, Outcome, begins_collect, begins_post, drained, fills, grants_collector, grants_lane, lays, reports, settles}

pub record State (P : Type 0) : Type 0 where
  pub words : List ℕ
  pub trays : List P
  pub crew : Core

pub record Memory (P : Type 0) : Type 0 where
  pub words : List ℕ
  pub trays : List P

pub record Done (P : Type 0) : Type 0 where
  pub answer : Told
  pub state : State P

-- the calls on a crew that takes posts
pub data OpenCall (P : Type 0) : Type 0 where
  -- lanes, cells, start stamp
  lay : (elsewhere : Option (Memory P)) → ℕ → ℕ → ℕ → OpenCall P
  -- lane, payload
  begin_post : (elsewhere : Option (Memory P)) → ℕ → P → OpenCall P
  grant_lane : (elsewhere : Option (Memory P)) → ℕ → OpenCall P
  begin_collect : OpenCall P
  grant_collector : (elsewhere : Option (Memory P)) → OpenCall P
  settle : OpenCall P
  fill : ℕ → OpenCall P

-- the calls on a crew that drains
pub data DrainingCall (P : Type 0) : Type 0 where
  grant_lane : (elsewhere : Option (Memory P)) → ℕ → DrainingCall P
  begin_collect : DrainingCall P
  grant_collector : (elsewhere : Option (Memory P)) → DrainingCall P
  settle : DrainingCall P
  fill : ℕ → DrainingCall P
  report : DrainingCall P

module _ {P : Type 0} where
  abbrev pub state_of : List ℕ → List P → Core → State P
  state_of ws ps c = record { words = ws; trays = ps; crew = c }

  -- a call that is given memory: the line's own, or other memory, and then the line's stays as it is
  abbrev pub on_memory : State P → Option (Memory P) → (List ℕ → List P → Core → Outcome P) → Done P
  on_memory s none call =
      let o = call s.words s.trays s.crew in record { answer = o.answer; state = state_of o.words o.trays o.crew }
  on_memory s (some m) call =
      let o = call m.words m.trays s.crew in record { answer = o.answer; state = state_of s.words s.trays o.crew }

  -- a call on the crew alone, and one that only tells
  abbrev pub on_crew : State P → CrewOutcome → Done P
  on_crew s o = record { answer = o.answer; state = state_of s.words s.trays o.crew }

  abbrev pub telling : State P → Told → Done P
  telling s t = record { answer = t; state = s }

  -- each call that both crews take, by the line's definitions
  abbrev pub granted_lane : State P → Option (Memory P) → ℕ → Done P
  granted_lane s elsewhere lane = on_memory s elsewhere (λ ws ps c. grants_lane ws ps c lane)

  abbrev pub granted_collector : State P → Option (Memory P) → Done P
  granted_collector s elsewhere = on_memory s elsewhere (λ ws ps c. grants_collector ws ps c)

  abbrev pub open_done : State P → OpenCall P → Done P
  open_done s (lay elsewhere n k start) = on_memory s elsewhere (λ ws ps c. lays ws ps c n k start)
  open_done s (begin_post elsewhere lane x) = on_memory s elsewhere (λ ws ps c. begins_post ws ps c lane x)
  open_done s (OpenCall.grant_lane elsewhere lane) = granted_lane s elsewhere lane
  open_done s OpenCall.begin_collect = on_crew s (begins_collect s.crew)
  open_done s (OpenCall.grant_collector elsewhere) = granted_collector s elsewhere
  open_done s OpenCall.settle = on_crew s (settles s.crew)
  open_done s (OpenCall.fill lane) = telling s (fills s.crew lane)

  abbrev pub draining_done : State P → DrainingCall P → Done P
  draining_done s (DrainingCall.grant_lane elsewhere lane) = granted_lane s elsewhere lane
  draining_done s DrainingCall.begin_collect = on_crew s (begins_collect s.crew)
  draining_done s (DrainingCall.grant_collector elsewhere) = granted_collector s elsewhere
  draining_done s DrainingCall.settle = on_crew s (settles s.crew)
  draining_done s (DrainingCall.fill lane) = telling s (fills s.crew lane)
  draining_done s report = telling s (reports s.crew)

  -- the crew drains from now on
  abbrev pub drain : State P → State P
  drain s = state_of s.words s.trays (drained s.crew)

  -- the state after a list of calls
  abbrev pub open_end : State P → List (OpenCall P) → State P
  open_end s [] = s
  open_end s (call ∷ calls) = open_end (open_done s call).state calls
