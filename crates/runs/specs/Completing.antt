-- A whole run, as its caller gets it.
use Rattle.std.specs.Prelude.{◌≡◌, ◌≤◌, ℕ, List, [], length, map, vec_capacity, vec_items, vec_len, Some, None, Option, Vec}
use Rattle.std.specs.Option.{option_map}
use Rattle.std.specs.declared.alloc.Global.{Global}
use Rattle.line.specs.Answers.{Told}
use Rattle.line.specs.declared.crew.Core.{Core}
use Rattle.runs.specs.declared.answers.Answer.{Answer}
use Rattle.runs.specs.declared.calls.DrainingCall.{DrainingCall}
use Rattle.runs.specs.Runs.{Said, Whole, said}

-- nothing is answered yet, and the answers to these calls have room
abbrev pub HasRoom : {X : Type 0} → Vec Answer Global → List X → Type 0
HasRoom answers calls = (answers.items ≡ []) × (vec_len answers ≡ 0) × (length calls ≤ vec_capacity answers)

-- the calls after the drain; none without one
abbrev pub later_calls : Option (List DrainingCall) → List DrainingCall
later_calls None = []
later_calls (Some calls) = calls

-- what the calls after the drain said, if there was one
abbrev pub said_after : Option (Vec Answer Global) → Option (List Said)
said_after answers = option_map (λ v. map said (vec_items v)) answers

-- a run answered and left what the definition says
pub record Completes {P : Type 0} (w : Whole P) (laid : Told) (before : List Said) (after : Option (List Said)) (ws : List ℕ) (ps : List P) (c : Core) : Type 0 where
  pub lays : laid ≡ w.laid
  pub says_before : before ≡ w.before
  pub says_after : after ≡ w.after
  pub board : ws ≡ w.words
  pub trays : ps ≡ w.trays
  pub crew : c ≡ w.crew
