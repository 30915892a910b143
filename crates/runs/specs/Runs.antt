-- Runs: what a list of calls answers, and the board, trays and crew that it leaves.
--
-- Said         one call's answer: which call it was, and what it told
-- Ran          what the calls said, in order, and what they left
-- closes       what is done with a collect that is still open at the end: it is granted to its end and settled
use Rattle.std.specs.Prelude.{◌≡◌, ℕ, zero, suc, Bool, true, false, cond, ◌&&◌, List, [], ◌∷◌, ◌++◌, Some, None, Option, ◌==◌}
use Rattle.line.specs.Answers.{Told, told, told_by, told_collector, told_done, told_lane, told_totals, collected_told}
use Rattle.line.specs.Calls.{CrewOutcome, Outcome, begins_collect, begins_post, drained, grants_collector, grants_lane, lays, reports, settles}
use Rattle.line.specs.Crew.{never_laid}
use Rattle.line.specs.declared.crew.Core.{Core}
use Rattle.runs.specs.declared.answers.Answer.{Answer}
use Rattle.runs.specs.declared.answers.Answer.TheVariants.{BeginPost as PostBegun, GrantLane as LaneGranted, BeginCollect as CollectBegun, GrantCollector as CollectorGranted, Settle as Settled, Report as Reported}
use Rattle.runs.specs.declared.calls.CrewCall.{CrewCall}
use Rattle.runs.specs.declared.calls.CrewCall.TheVariants.{GrantLane, BeginCollect, GrantCollector, Settle}
use Rattle.runs.specs.declared.calls.DrainingCall.{DrainingCall}
use Rattle.runs.specs.declared.calls.DrainingCall.TheVariants.{Any as AnyDraining, Report}
use Rattle.runs.specs.declared.calls.Laying.{Laying}
use Rattle.runs.specs.declared.calls.OpenCall.{OpenCall}
use Rattle.runs.specs.declared.calls.OpenCall.TheVariants.{BeginPost, Any}

pub data Said : Type 0 where
  began_post : Told → Said
  granted_lane : ℕ → Told → Said
  began_collect : Told → Said
  granted_collector : Told → Said
  settled : Told → Said
  reported : Told → Said

abbrev pub said : Answer → Said
said (PostBegun result) = began_post (told_done result)
said (LaneGranted lane result) = granted_lane lane (told_lane result)
said (CollectBegun result) = began_collect (told_done result)
said (CollectorGranted result) = granted_collector (told_collector result)
said (Settled result) = settled (told_by collected_told result)
said (Reported result) = reported (told_totals result)

-- the answer on: number 0 and no values
abbrev pub no_values : List ℕ → Bool
no_values [] = true
no_values (v ∷ vs) = false

abbrev pub is_on : Told → Bool
is_on t = t.number == 0 && no_values t.values

module _ {P : Type 0} where
  -- a call that is given neither board nor trays leaves both
  abbrev pub alone : CrewOutcome → List ℕ → List P → Outcome P
  alone o ws ps = record { answer = o.answer; words = ws; trays = ps; crew = o.crew }

  -- a grant made again, at most so many times in all, up to the first answer other than on
  abbrev pub repeated : (List ℕ → List P → Core → Outcome P) → ℕ → List ℕ → List P → Core → Outcome P
  repeated grant zero ws ps c = record { answer = told 0 []; words = ws; trays = ps; crew = c }
  repeated grant (suc times) ws ps c =
      let o = grant ws ps c in
      cond (is_on o.answer) (repeated grant times o.words o.trays o.crew) o

  abbrev pub any_performed : CrewCall → List ℕ → List P → Core → Outcome P
  any_performed (GrantLane lane times) ws ps c = repeated (λ xs qs k. grants_lane xs qs k lane) times ws ps c
  any_performed BeginCollect ws ps c = alone (begins_collect c) ws ps
  any_performed (GrantCollector times) ws ps c = repeated grants_collector times ws ps c
  any_performed Settle ws ps c = alone (settles c) ws ps

  abbrev pub open_performed : OpenCall P → List ℕ → List P → Core → Outcome P
  open_performed (BeginPost lane payload) ws ps c = begins_post ws ps c lane payload
  open_performed (Any call) ws ps c = any_performed call ws ps c

  abbrev pub draining_performed : DrainingCall → List ℕ → List P → Core → Outcome P
  draining_performed (AnyDraining call) ws ps c = any_performed call ws ps c
  draining_performed Report ws ps c = record { answer = reports c; words = ws; trays = ps; crew = c }

abbrev pub any_says : CrewCall → Told → Said
any_says (GrantLane lane times) t = granted_lane lane t
any_says BeginCollect t = began_collect t
any_says (GrantCollector times) t = granted_collector t
any_says Settle t = settled t

abbrev pub open_says : {P : Type 0} → OpenCall P → Told → Said
open_says (BeginPost lane payload) t = began_post t
open_says (Any call) t = any_says call t

abbrev pub draining_says : DrainingCall → Told → Said
draining_says (AnyDraining call) t = any_says call t
draining_says Report t = reported t

-- a call did what the outcome says
pub record Answers {P : Type 0} (o : Outcome P) (sayer : Told → Said) (a : Said) (ws : List ℕ) (ps : List P) (c : Core) : Type 0 where
  pub answer : a ≡ sayer o.answer
  pub board : ws ≡ o.words
  pub trays : ps ≡ o.trays
  pub crew : c ≡ o.crew

pub record Ran (P : Type 0) : Type 0 where
  pub answers : List Said
  pub words : List ℕ
  pub trays : List P
  pub crew : Core

-- as many grants as a collect over 16 lanes can have: 2 · 16 + 9
unfoldable pub most_collect_grants : ℕ
most_collect_grants = 41

-- calls answered and left what the run says
pub record Left {P : Type 0} (ran : Ran P) (answers : List Said) (ws : List ℕ) (ps : List P) (c : Core) : Type 0 where
  pub says : answers ≡ ran.answers
  pub board : ws ≡ ran.words
  pub trays : ps ≡ ran.trays
  pub crew : c ≡ ran.crew

module _ {P : Type 0} where
  -- calls performed one after another, after those that said `before`
  abbrev pub runs_on : {X : Type 0} → (X → List ℕ → List P → Core → Outcome P) → (X → Told → Said) → List X → List Said → List ℕ → List P → Core → Ran P
  runs_on performed says [] before ws ps c = record { answers = before; words = ws; trays = ps; crew = c }
  runs_on performed says (call ∷ calls) before ws ps c =
      let o = performed call ws ps c in
      runs_on performed says calls (before ++ says call o.answer ∷ []) o.words o.trays o.crew

  -- where no collect is begun nothing changes
  abbrev pub closes : List ℕ → List P → Core → Outcome P
  closes ws ps c =
      let o = repeated grants_collector most_collect_grants ws ps c in
      alone (settles o.crew) o.words o.trays

-- a whole run: what the laying told, what the calls before and after the drain said, and what they left
pub record Whole (P : Type 0) : Type 0 where
  pub laid : Told
  pub before : List Said
  pub after : Option (List Said)
  pub words : List ℕ
  pub trays : List P
  pub crew : Core

module _ {P : Type 0} where
  abbrev pub whole : Told → List Said → Option (List Said) → Outcome P → Whole P
  whole laid before after o = record { laid = laid; before = before; after = after; words = o.words; trays = o.trays; crew = o.crew }

  abbrev pub open_run : Outcome P → List (OpenCall P) → Ran P
  open_run o calls = runs_on open_performed open_says calls [] o.words o.trays o.crew

  abbrev pub draining_run : Ran P → List DrainingCall → Ran P
  draining_run r calls = runs_on draining_performed draining_says calls [] r.words r.trays (drained r.crew)

  abbrev pub ends_run : Told → Ran P → Option (List DrainingCall) → Whole P
  ends_run laid r None = whole laid r.answers None (closes r.words r.trays r.crew)
  ends_run laid r (Some calls) =
      let d = draining_run r calls in
      whole laid r.answers (Some d.answers) (closes d.words d.trays d.crew)

  -- a laying by a new crew, refused or not; the calls before the drain; and, if there is a drain, those after it
  abbrev pub runs : List ℕ → List P → Laying → List (OpenCall P) → Option (List DrainingCall) → Whole P
  runs ws ps laying before after =
      let o = lays ws ps never_laid laying.lanes laying.cells laying.start in
      ends_run o.answer (open_run o before) after
