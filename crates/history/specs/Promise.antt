-- What a line promises: of every list of calls that may follow an accepted laying, and of every list that may follow a drain.
--
-- admitted     the list has no second accepted laying (refused ones may stand in it), and a call that was given other memory
--              than the line's was refused because that memory is too short (3)
-- keeps        the operations stand in a single-file order, every operation ends within its bound, and a report gives the account
use Rattle.std.specs.Prelude.{◌≡◌, ℕ, ◌≢◌, List, [], ◌∷◌, ◌++◌}
use Rattle.std.proofs.Math.Option.{Option, none, some}
use Rattle.line.specs.declared.crew.Core.{Core}
use Rattle.line.specs.Answers.{Told}
use Rattle.line.specs.Calls.{lays}
use Rattle.order.specs.Accounts.{Balanced, number_delivered, number_posted}
use Rattle.order.specs.Bounds.{CollectsEndBy, PostsEndBy}
use Rattle.order.specs.Events.{Event}
use Rattle.order.specs.Events.Event.{quiet}
use Rattle.order.specs.Guards.{Admitted}
use Rattle.order.specs.Logs.{Log, log_of}
use Rattle.order.specs.Orders.{SingleFileOrder}
use Rattle.history.specs.Happening.{draining_events, open_events}
use Rattle.history.specs.Limits.{as_total, capacity, most_collect_grants, most_post_grants}
use Rattle.history.specs.Performing.{DrainingCall, Memory, OpenCall, State, drain, draining_done, open_done, open_end, state_of}
use Rattle.history.specs.Performing.OpenCall.{begin_post, lay}
use Rattle.history.specs.Performing.DrainingCall.{report}

module _ {P : Type 0} where
  abbrev pub TooShortElsewhere : Option (Memory P) → Told → Type 0
  TooShortElsewhere none answer = Unit {0}
  TooShortElsewhere (some m) answer = answer.number ≡ 3

  abbrev pub OpenCallAdmitted : State P → OpenCall P → Type 0
  OpenCallAdmitted s (lay elsewhere n k start) =
      let answer = (open_done s (lay elsewhere n k start)).answer in (answer.number ≢ 0) × TooShortElsewhere elsewhere answer
  OpenCallAdmitted s (begin_post elsewhere lane x) = TooShortElsewhere elsewhere (open_done s (begin_post elsewhere lane x)).answer
  OpenCallAdmitted s (OpenCall.grant_lane elsewhere lane) = TooShortElsewhere elsewhere (open_done s (OpenCall.grant_lane elsewhere lane)).answer
  OpenCallAdmitted s OpenCall.begin_collect = Unit {0}
  OpenCallAdmitted s (OpenCall.grant_collector elsewhere) = TooShortElsewhere elsewhere (open_done s (OpenCall.grant_collector elsewhere)).answer
  OpenCallAdmitted s OpenCall.settle = Unit {0}
  OpenCallAdmitted s (OpenCall.fill lane) = Unit {0}

  abbrev pub DrainingCallAdmitted : State P → DrainingCall P → Type 0
  DrainingCallAdmitted s (DrainingCall.grant_lane elsewhere lane) = TooShortElsewhere elsewhere (draining_done s (DrainingCall.grant_lane elsewhere lane)).answer
  DrainingCallAdmitted s DrainingCall.begin_collect = Unit {0}
  DrainingCallAdmitted s (DrainingCall.grant_collector elsewhere) = TooShortElsewhere elsewhere (draining_done s (DrainingCall.grant_collector elsewhere)).answer
  DrainingCallAdmitted s DrainingCall.settle = Unit {0}
  DrainingCallAdmitted s (DrainingCall.fill lane) = Unit {0}
  DrainingCallAdmitted s report = Unit {0}

  abbrev pub OpenCallsAdmitted : State P → List (OpenCall P) → Type 0
  OpenCallsAdmitted s [] = Unit {0}
  OpenCallsAdmitted s (call ∷ calls) = OpenCallAdmitted s call × OpenCallsAdmitted (open_done s call).state calls

  abbrev pub DrainingCallsAdmitted : State P → List (DrainingCall P) → Type 0
  DrainingCallsAdmitted s [] = Unit {0}
  DrainingCallsAdmitted s (call ∷ calls) = DrainingCallAdmitted s call × DrainingCallsAdmitted (draining_done s call).state calls

  -- the state after a laying that was accepted
  abbrev pub laid_state : List ℕ → List P → Core → ℕ → ℕ → ℕ → State P
  laid_state ws ps c n k start = let o = lays ws ps c n k start in state_of o.words o.trays o.crew

-- if the last call was an accepted report: every frame posted was delivered once, every frame delivered was posted once, and
-- the totals count the posts and the collects
abbrev pub Accounted : {P : Type 0} → Log P → Type 0
Accounted g = (p d : ℕ) → g.report ≡ some (p, d) → Balanced g × (p ≡ as_total (number_posted g.ended)) × (d ≡ as_total (number_delivered g.ended))

-- the log of a line of n lanes of k cells
pub record KeepsPromise {P : Type 0} (n k : ℕ) (g : Log P) : Type 0 where
  pub order : SingleFileOrder (capacity k) g
  pub posts : PostsEndBy most_post_grants g
  pub collects : CollectsEndBy (most_collect_grants n) g
  pub account : Accounted g

-- what holds of every history that a line of n lanes of k cells can leave
abbrev pub OfEveryHistory : {P : Type 0} → (ℕ → ℕ → List (Event P) → Type 0) → Type 0
OfEveryHistory {P} Holds =
    (ws : List ℕ) (ps : List P) (c : Core) (n k start : ℕ) → (lays ws ps c n k start).answer.number ≡ 0
    → (let laid = laid_state ws ps c n k start in
    (before : List (OpenCall P)) → OpenCallsAdmitted laid before
    → Holds n k (open_events laid before)
    × (let draining = drain (open_end laid before) in
    (behind : List (DrainingCall P)) → DrainingCallsAdmitted draining behind
    → Holds n k (open_events laid before ++ quiet ∷ draining_events draining behind)))

-- every event of the history meets its guard
abbrev pub CallsMeetTheGuards : Type 0 → Type 0
CallsMeetTheGuards P = OfEveryHistory {P = P} (λ n k es. Admitted (capacity k) es)

abbrev pub EveryListOfCallsKeepsThePromise : Type 0 → Type 0
EveryListOfCallsKeepsThePromise P = OfEveryHistory {P = P} (λ n k es. KeepsPromise n k (log_of es))
