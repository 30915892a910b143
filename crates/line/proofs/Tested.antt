-- A call whose tests all pass goes on.
use Rattle.std.proofs.Common.{◌≡◌, ℕ, Bool, true, List, [], ◌∷◌, sym, refl, ap, ◌∙◌}
use Rattle.std.proofs.lemmas.Bool.{cond-true}
use Rattle.line.specs.declared.crew.Core.{Core}
use Rattle.line.specs.Answers.{Told}
use Rattle.line.specs.Calls.{Outcome, Gives, tested}

abbrev pub Pass : List (Bool × ℕ) → Type 0
Pass [] = Unit {0}
Pass (test ∷ tests) = (test.0 ≡ true) × Pass tests

pub passed : {O : Type 0} (refuse : ℕ → O) (tests : List (Bool × ℕ)) (go : O) → Pass tests → tested refuse tests go ≡ go
passed refuse [] go _ = refl
passed refuse (test ∷ tests) go (h, hs) = cond-true test.0 _ (refuse test.1) h ∙ passed refuse tests go hs

-- what equals an outcome gives what that outcome gives
pub gives_same : {P : Type 0} {o o' : Outcome P} {a : Told} {ws : List ℕ} {ps : List P} {c : Core} → o' ≡ o → Gives o a ws ps c → Gives o' a ws ps c
gives_same e g =
    record {
      answer = g.answer ∙ sym (ap (λ x. x.answer) e);
      board = g.board ∙ sym (ap (λ x. x.words) e);
      trays = g.trays ∙ sym (ap (λ x. x.trays) e);
      crew = g.crew ∙ sym (ap (λ x. x.crew) e);
    }
