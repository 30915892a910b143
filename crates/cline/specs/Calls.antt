-- What each call of a C program does: the answer, and board, trays and the crew's numbers afterwards.
--
-- Left, CrewLeft    what a call with and without memory leaves
-- take              what the crew keeps that is taken up: the numbers mean one, and it is of the call's kind, open or draining. Else why
--                   there is none: numbers that mean no crew are never laid (4), and a crew of another kind is out of place (16)
-- calls, crew_calls, tells    a call does what the line's definition says of the crew that is taken up. If there is none, it is refused
--                   by that number, and everything stays
use Rattle.std.specs.Prelude.{◌≡◌, ℕ, Bool, true, cond, not, List, [], Result, Ok, Err}
use Rattle.line.specs.Answers.{Told, told}
use Rattle.line.specs.Calls.{CrewOutcome, Outcome, drained}
use Rattle.line.specs.Either.{fit}
use Rattle.line.specs.declared.crew.Core.{Core}
use Rattle.plain_crew.specs.Crews.{core_of, plain_crew}
use Rattle.plain_crew.specs.declared.crew.PlainCrew.{PlainCrew}
use Rattle.script.specs.declared.payload.Ticket.{Ticket}
use Rattle.cline.specs.Answers.{answer_of, refused, refused_number}
use Rattle.cline.specs.declared.answer.Answer.{Answer}
use Rattle.cline.specs.declared.answer.Refused.{Refused}
use Rattle.cline.specs.declared.answer.Refused.TheVariants.{NeverLaid, OutOfPlace}

pub record Left : Type 0 where
  pub answer : Answer
  pub words : List ℕ
  pub trays : List Ticket
  pub crew : PlainCrew

pub record CrewLeft : Type 0 where
  pub answer : Answer
  pub crew : PlainCrew

-- a call did what is said
pub record Leaves (o : Left) (a : Answer) (ws : List ℕ) (ps : List Ticket) (p : PlainCrew) : Type 0 where
  pub answer : a ≡ o.answer
  pub board : ws ≡ o.words
  pub trays : ps ≡ o.trays
  pub crew : p ≡ o.crew

pub record CrewLeaves (o : CrewLeft) (a : Answer) (p : PlainCrew) : Type 0 where
  pub answer : a ≡ o.answer
  pub crew : p ≡ o.crew

-- the crew is put away as numbers
abbrev pub put_away : Outcome Ticket → Left
put_away o = record { answer = answer_of o.answer; words = o.words; trays = o.trays; crew = plain_crew o.crew }

abbrev pub crew_put_away : CrewOutcome → CrewLeft
crew_put_away o = record { answer = answer_of o.answer; crew = plain_crew o.crew }

abbrev pub any_kind : Core → Bool
any_kind c = true

abbrev pub is_open : Core → Bool
is_open c = not c.draining

abbrev pub is_draining : Core → Bool
is_draining c = c.draining

-- what the crew keeps that is taken up, if there is one and it is of the kind that the call is for
abbrev pub take : (Core → Bool) → Core → Result Core Refused
take right-kind c = cond (fit c.shape) (cond (right-kind c) (Ok c) (Err OutOfPlace)) (Err NeverLaid)

-- what a crew that was taken up keeps
abbrev pub kept_by : {X : Type 0} → (X → Core) → Result X Refused → Result Core Refused
kept_by core (Ok crew) = Ok (core crew)
kept_by core (Err e) = Err e

-- what it does then
abbrev pub taken_up : {O : Type 0} → (ℕ → O) → (Core → O) → Result Core Refused → O
taken_up refuse call (Ok c) = call c
taken_up refuse call (Err e) = refuse (refused_number e)

module _ (right-kind : Core → Bool) where
  abbrev pub calls : List ℕ → List Ticket → PlainCrew → (Core → Outcome Ticket) → Left
  calls ws ps p call = taken_up (λ number. record { answer = refused number; words = ws; trays = ps; crew = p }) (λ c. put_away (call c)) (take right-kind (core_of p))

  abbrev pub crew_calls : PlainCrew → (Core → CrewOutcome) → CrewLeft
  crew_calls p call = taken_up (λ number. record { answer = refused number; crew = p }) (λ c. crew_put_away (call c)) (take right-kind (core_of p))

  abbrev pub tells : PlainCrew → (Core → Told) → Answer
  tells p call = taken_up refused (λ c. answer_of (call c)) (take right-kind (core_of p))

-- draining: the crew takes no more posts
abbrev pub drains : Core → CrewOutcome
drains c = record { answer = told 0 []; crew = drained c }
