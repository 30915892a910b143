-- The single calls of a run may all be made: they are given the line's own memory, and none of them lays a line.
use Rattle.std.proofs.Common.{ℕ, zero, suc, List, [], ◌∷◌, ◌++◌, Some, None, Option}
use mathlib.Core.Option.{none}
use Rattle.std.proofs.lemmas.Bool.{cond_both}
use Rattle.history.proofs.Promised.{every_list_of_calls_keeps_the_promise}
use Rattle.history.specs.Performing.{Done, DrainingCall as SingleDraining, OpenCall as SingleOpen, State, draining_done, open_done}
use Rattle.history.specs.Promise.{DrainingCallAdmitted, DrainingCallsAdmitted, OpenCallAdmitted, OpenCallsAdmitted}
use Rattle.line.specs.Crew.{never_laid}
use Rattle.runs.specs.AtHand.{TheseCallsKeepThePromise, after_all, draining_ones, draining_singles, made_again, one_by_one, open_ones, open_singles}
use Rattle.runs.specs.Runs.{is_on}
use Rattle.runs.specs.declared.calls.CrewCall.TheVariants.{GrantLane, BeginCollect, GrantCollector, Settle}
use Rattle.runs.specs.declared.calls.DrainingCall.{DrainingCall}
use Rattle.runs.specs.declared.calls.DrainingCall.TheVariants.{Any as AnyDraining, Report}
use Rattle.runs.specs.declared.calls.Laying.{Laying}
use Rattle.runs.specs.declared.calls.OpenCall.{OpenCall}
use Rattle.runs.specs.declared.calls.OpenCall.TheVariants.{BeginPost, Any}

module _ {P Y : Type 0} (done : State P → Y → Done P) (Good : State P → Y → Type 0) where
  -- every call of a list, at the state that it is made in
  abbrev pub Every : State P → List Y → Type 0
  Every s [] = Unit {0}
  Every s (call ∷ calls) = Good s call × Every (done s call).state calls

  every_append : (s : State P) (xs ys : List Y) → Every s xs → Every (after_all done s xs) ys → Every s (xs ++ ys)
  every_append s [] ys _ h = h
  every_append s (x ∷ xs) ys (g, gs) h = (g, every_append (done s x).state xs ys gs h)

  pub every_made : (call : Y) → ((s : State P) → Good s call) → (times : ℕ) (s : State P) → Every s (made_again done call times s)
  every_made call good zero s = tt
  every_made call good (suc times) s =
      (good s, cond_both (is_on (done s call).answer) (made_again done call times (done s call).state) [] (Every (done s call).state) (λ _. every_made call good times (done s call).state) (λ _. tt))

  pub every_one : {X : Type 0} (singles : X → State P → List Y) → ((call : X) (s : State P) → Every s (singles call s)) → (calls : List X) (s : State P) → Every s (one_by_one done singles calls s)
  every_one singles each [] s = tt
  every_one singles each (call ∷ calls) s = every_append s (singles call s) _ (each call s) (every_one singles each calls (after_all done s (singles call s)))

module _ {P : Type 0} where
  open_single_good : (call : OpenCall P) (s : State P) → Every open_done OpenCallAdmitted s (open_singles call s)
  open_single_good (BeginPost lane x) s = (tt, tt)
  open_single_good (Any (GrantLane lane times)) s = every_made open_done OpenCallAdmitted (SingleOpen.grant_lane none lane) (λ _. tt) times s
  open_single_good (Any BeginCollect) s = (tt, tt)
  open_single_good (Any (GrantCollector times)) s = every_made open_done OpenCallAdmitted (SingleOpen.grant_collector none) (λ _. tt) times s
  open_single_good (Any Settle) s = (tt, tt)

  draining_single_good : (call : DrainingCall) (s : State P) → Every draining_done DrainingCallAdmitted s (draining_singles call s)
  draining_single_good (AnyDraining (GrantLane lane times)) s = every_made draining_done DrainingCallAdmitted (SingleDraining.grant_lane none lane) (λ _. tt) times s
  draining_single_good (AnyDraining BeginCollect) s = (tt, tt)
  draining_single_good (AnyDraining (GrantCollector times)) s = every_made draining_done DrainingCallAdmitted (SingleDraining.grant_collector none) (λ _. tt) times s
  draining_single_good (AnyDraining Settle) s = (tt, tt)
  draining_single_good Report s = (tt, tt)

  open_admitted : (s : State P) (calls : List (SingleOpen P)) → Every open_done OpenCallAdmitted s calls → OpenCallsAdmitted s calls
  open_admitted s [] h = tt
  open_admitted s (call ∷ calls) (g, gs) = (g, open_admitted (open_done s call).state calls gs)

  draining_admitted : (s : State P) (calls : List (SingleDraining P)) → Every draining_done DrainingCallAdmitted s calls → DrainingCallsAdmitted s calls
  draining_admitted s [] h = tt
  draining_admitted s (call ∷ calls) (g, gs) = (g, draining_admitted (draining_done s call).state calls gs)

  pub these_calls_keep_the_promise : (ws : List ℕ) (ps : List P) (laying : Laying) (before : List (OpenCall P)) (after : Option (List DrainingCall)) → TheseCallsKeepThePromise ws ps laying before after
  these_calls_keep_the_promise ws ps laying before None laid =
      (every_list_of_calls_keeps_the_promise P ws ps never_laid laying.lanes laying.cells laying.start laid (open_ones before _) (open_admitted _ _ (every_one open_done OpenCallAdmitted open_singles open_single_good before _))).0
  these_calls_keep_the_promise ws ps laying before (Some later) laid =
      (every_list_of_calls_keeps_the_promise P ws ps never_laid laying.lanes laying.cells laying.start laid (open_ones before _) (open_admitted _ _ (every_one open_done OpenCallAdmitted open_singles open_single_good before _))).1
      (draining_ones later _) (draining_admitted _ _ (every_one draining_done DrainingCallAdmitted draining_singles draining_single_good later _))
