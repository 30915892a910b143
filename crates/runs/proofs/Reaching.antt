-- The single calls of a run reach what the run reaches.
use Rattle.std.proofs.Common.{◌≡◌, ℕ, zero, suc, List, [], ◌∷◌, ◌++◌, sym, refl, ap, ◌∙◌, ⊎_elim}
use mathlib.Core.Option.{none}
use Rattle.std.proofs.lemmas.Bool.{cases_Bool, cond-false, cond-true}
use Rattle.history.specs.Performing.{Done, DrainingCall as SingleDraining, OpenCall as SingleOpen, State, drain, draining_done, open_done, open_end, state_of}
use Rattle.line.specs.Answers.{Told}
use Rattle.line.specs.Calls.{Outcome, grants_collector, grants_lane}
use Rattle.line.specs.declared.crew.Core.{Core}
use Rattle.runs.specs.AtHand.{ReachTheSame, after_all, draining_singles, made_again, one_by_one, open_singles, state_left}
use Rattle.runs.specs.Runs.{Said, draining_performed, draining_says, is_on, open_performed, open_says, repeated, runs_on}
use Rattle.runs.specs.declared.calls.CrewCall.TheVariants.{GrantLane, BeginCollect, GrantCollector, Settle}
use Rattle.runs.specs.declared.calls.DrainingCall.{DrainingCall}
use Rattle.runs.specs.declared.calls.DrainingCall.TheVariants.{Any as AnyDraining, Report}
use Rattle.runs.specs.declared.calls.OpenCall.{OpenCall}
use Rattle.runs.specs.declared.calls.OpenCall.TheVariants.{BeginPost, Any}

module _ {P : Type 0} where
  abbrev left_by : Outcome P → State P
  left_by o = state_of o.words o.trays o.crew

  module _ {Y : Type 0} (done : State P → Y → Done P) where
    after_append : (s : State P) (xs ys : List Y) → after_all done s (xs ++ ys) ≡ after_all done (after_all done s xs) ys
    after_append s [] ys = refl
    after_append s (x ∷ xs) ys = after_append (done s x).state xs ys

    -- a grant made again, call by call
    module _ (call : Y) (grant : List ℕ → List P → Core → Outcome P)
        (tells : (s : State P) → (done s call).answer ≡ (grant s.words s.trays s.crew).answer)
        (leaves : (s : State P) → (done s call).state ≡ left_by (grant s.words s.trays s.crew)) where
      made_reaches : (times : ℕ) (s : State P) → after_all done s (made_again done call times s) ≡ left_by (repeated grant times s.words s.trays s.crew)
      made_reaches zero s = refl
      made_reaches (suc times) s =
          let o : Outcome P = grant s.words s.trays s.crew in
          let s' : State P = (done s call).state in
          let same : is_on (done s call).answer ≡ is_on o.answer = ap is_on (tells s) in
          ⊎_elim
          (λ on.
          ap (after_all done s') (cond-true _ (made_again done call times s') [] on)
          ∙ made_reaches times s'
          ∙ ap (λ x. left_by (repeated grant times x.words x.trays x.crew)) (leaves s)
          ∙ sym (ap left_by (cond-true _ (repeated grant times o.words o.trays o.crew) o (sym same ∙ on))))
          (λ off.
          ap (after_all done s') (cond-false _ (made_again done call times s') [] off)
          ∙ leaves s
          ∙ sym (ap left_by (cond-false _ (repeated grant times o.words o.trays o.crew) o (sym same ∙ off))))
          (cases_Bool (is_on (done s call).answer))

    -- a list of calls, call by call
    module _ {X : Type 0} (singles : X → State P → List Y) (performed : X → List ℕ → List P → Core → Outcome P) (says : X → Told → Said)
        (each : (call : X) (s : State P) → after_all done s (singles call s) ≡ left_by (performed call s.words s.trays s.crew)) where
      ones_reach : (calls : List X) (s : State P) (before : List Said) → after_all done s (one_by_one done singles calls s) ≡ state_left (runs_on performed says calls before s.words s.trays s.crew)
      ones_reach [] s before = refl
      ones_reach (call ∷ calls) s before =
          let o : Outcome P = performed call s.words s.trays s.crew in
          let s' : State P = after_all done s (singles call s) in
          let before' : List Said = before ++ says call o.answer ∷ [] in
          after_append s (singles call s) (one_by_one done singles calls s')
          ∙ ones_reach calls s' before'
          ∙ ap (λ x. state_left (runs_on performed says calls before' x.words x.trays x.crew)) (each call s)

  open_each : (call : OpenCall P) (s : State P) → after_all open_done s (open_singles call s) ≡ left_by (open_performed call s.words s.trays s.crew)
  open_each (BeginPost lane x) s = refl
  open_each (Any (GrantLane lane times)) s = made_reaches open_done (SingleOpen.grant_lane none lane) (λ ws ps c. grants_lane ws ps c lane) (λ _. refl) (λ _. refl) times s
  open_each (Any BeginCollect) s = refl
  open_each (Any (GrantCollector times)) s = made_reaches open_done (SingleOpen.grant_collector none) grants_collector (λ _. refl) (λ _. refl) times s
  open_each (Any Settle) s = refl

  draining_each : (call : DrainingCall) (s : State P) → after_all draining_done s (draining_singles call s) ≡ left_by (draining_performed call s.words s.trays s.crew)
  draining_each (AnyDraining (GrantLane lane times)) s = made_reaches draining_done (SingleDraining.grant_lane none lane) (λ ws ps c. grants_lane ws ps c lane) (λ _. refl) (λ _. refl) times s
  draining_each (AnyDraining BeginCollect) s = refl
  draining_each (AnyDraining (GrantCollector times)) s = made_reaches draining_done (SingleDraining.grant_collector none) grants_collector (λ _. refl) (λ _. refl) times s
  draining_each (AnyDraining Settle) s = refl
  draining_each Report s = refl

  open_end_is : (s : State P) (calls : List (SingleOpen P)) → open_end s calls ≡ after_all open_done s calls
  open_end_is s [] = refl
  open_end_is s (call ∷ calls) = open_end_is (open_done s call).state calls

  pub reach_the_same : (s : State P) (before : List (OpenCall P)) (later : List DrainingCall) → ReachTheSame s before later
  reach_the_same s before later = (
    open_end_is s (one_by_one open_done open_singles before s) ∙ ones_reach open_done open_singles open_performed open_says open_each before s [],
    ones_reach draining_done draining_singles draining_performed draining_says draining_each later (drain (state_left (runs_on open_performed open_says before [] s.words s.trays s.crew))) [],
  )
