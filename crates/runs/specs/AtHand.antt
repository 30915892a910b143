-- The single calls that a run makes, one for each grant made, and what the promise over lists of calls says of them.
--
-- made_again   a grant made again, up to the first answer other than on: as many single calls as were made
-- singles      the single calls that one call of a list makes
-- history_of   the events of all single calls of a run
use Rattle.std.specs.Prelude.{◌≡◌, ℕ, zero, suc, cond, List, [], ◌∷◌, ◌++◌, Some, None, Option}
use Rattle.std.proofs.Math.Option.{none}
use Rattle.history.specs.Happening.{draining_events, open_events}
use Rattle.history.specs.Performing.{Done, DrainingCall as SingleDraining, OpenCall as SingleOpen, State, drain, draining_done, open_done, open_end, state_of}
use Rattle.history.specs.Promise.{KeepsPromise, laid_state}
use Rattle.line.specs.Calls.{lays}
use Rattle.line.specs.Crew.{never_laid}
use Rattle.order.specs.Events.{Event}
use Rattle.order.specs.Events.Event.{quiet}
use Rattle.order.specs.Logs.{log_of}
use Rattle.runs.specs.declared.calls.CrewCall.TheVariants.{GrantLane, BeginCollect, GrantCollector, Settle}
use Rattle.runs.specs.declared.calls.DrainingCall.{DrainingCall}
use Rattle.runs.specs.declared.calls.DrainingCall.TheVariants.{Any as AnyDraining, Report}
use Rattle.runs.specs.declared.calls.Laying.{Laying}
use Rattle.runs.specs.declared.calls.OpenCall.{OpenCall}
use Rattle.runs.specs.declared.calls.OpenCall.TheVariants.{BeginPost, Any}
use Rattle.runs.specs.Runs.{Ran, draining_performed, draining_says, is_on, open_performed, open_says, runs_on}

module _ {P : Type 0} where
  abbrev pub made_again : {X : Type 0} → (State P → X → Done P) → X → ℕ → State P → List X
  made_again done call zero s = []
  made_again done call (suc times) s = call ∷ cond (is_on (done s call).answer) (made_again done call times (done s call).state) []

  abbrev pub open_singles : OpenCall P → State P → List (SingleOpen P)
  open_singles (BeginPost lane payload) s = SingleOpen.begin_post none lane payload ∷ []
  open_singles (Any (GrantLane lane times)) s = made_again open_done (SingleOpen.grant_lane none lane) times s
  open_singles (Any BeginCollect) s = SingleOpen.begin_collect ∷ []
  open_singles (Any (GrantCollector times)) s = made_again open_done (SingleOpen.grant_collector none) times s
  open_singles (Any Settle) s = SingleOpen.settle ∷ []

  abbrev pub draining_singles : DrainingCall → State P → List (SingleDraining P)
  draining_singles (AnyDraining (GrantLane lane times)) s = made_again draining_done (SingleDraining.grant_lane none lane) times s
  draining_singles (AnyDraining BeginCollect) s = SingleDraining.begin_collect ∷ []
  draining_singles (AnyDraining (GrantCollector times)) s = made_again draining_done (SingleDraining.grant_collector none) times s
  draining_singles (AnyDraining Settle) s = SingleDraining.settle ∷ []
  draining_singles Report s = SingleDraining.report ∷ []

  -- the state after single calls
  abbrev pub after_all : {X : Type 0} → (State P → X → Done P) → State P → List X → State P
  after_all done s [] = s
  after_all done s (call ∷ calls) = after_all done (done s call).state calls

  -- the single calls of a list of calls, one call after another
  abbrev pub one_by_one : {X Y : Type 0} → (State P → Y → Done P) → (X → State P → List Y) → List X → State P → List Y
  one_by_one done singles [] s = []
  one_by_one done singles (call ∷ calls) s = singles call s ++ one_by_one done singles calls (after_all done s (singles call s))

  abbrev pub open_ones : List (OpenCall P) → State P → List (SingleOpen P)
  open_ones = one_by_one open_done open_singles

  abbrev pub draining_ones : List DrainingCall → State P → List (SingleDraining P)
  draining_ones = one_by_one draining_done draining_singles

  abbrev pub history_of : State P → List (OpenCall P) → Option (List DrainingCall) → List (Event P)
  history_of s before None = open_events s (open_ones before s)
  history_of s before (Some later) =
      let d = drain (open_end s (open_ones before s)) in
      open_events s (open_ones before s) ++ quiet ∷ draining_events d (draining_ones later d)

  -- after an accepted laying, the history of the calls that were made keeps the promise
  abbrev pub TheseCallsKeepThePromise : List ℕ → List P → Laying → List (OpenCall P) → Option (List DrainingCall) → Type 0
  TheseCallsKeepThePromise ws ps laying before after =
      (lays ws ps never_laid laying.lanes laying.cells laying.start).answer.number ≡ 0 →
      KeepsPromise laying.lanes laying.cells (log_of (history_of (laid_state ws ps never_laid laying.lanes laying.cells laying.start) before after))

  abbrev pub state_left : Ran P → State P
  state_left r = state_of r.words r.trays r.crew

  -- the single calls reach the board, trays and crew that the run reaches
  abbrev pub ReachTheSame : State P → List (OpenCall P) → List DrainingCall → Type 0
  ReachTheSame s before later =
      let r = runs_on open_performed open_says before [] s.words s.trays s.crew in
      let d = drain (state_left r) in
      (open_end s (open_ones before s) ≡ state_left r)
      × (after_all draining_done d (draining_ones later d) ≡ state_left (runs_on draining_performed draining_says later [] d.words d.trays d.crew))
