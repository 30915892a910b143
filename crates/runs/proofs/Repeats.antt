-- A grant made again and again, step by step.
use Rattle.std.proofs.Common.{◌≡◌, ℕ, suc, true, false, List, [], sym, refl, ap, ◌∙◌}
use Rattle.std.proofs.lemmas.Bool.{cond-true, cond-false}
use Rattle.line.specs.Answers.{Told, told}
use Rattle.line.specs.Calls.{Outcome, Gives}
use Rattle.line.specs.declared.crew.Core.{Core}
use Rattle.line.proofs.Tested.{gives_same}
use Rattle.runs.specs.Runs.{is_on, repeated}

module _ {P : Type 0} (grant : List ℕ → List P → Core → Outcome P) where
  -- where no grant is left the answer is on
  pub repeated_none : (left : ℕ) (ws : List ℕ) (ps : List P) (c : Core) (o : Outcome P) (a : Told) → a ≡ told 0 [] → left ≡ 0 → repeated grant left ws ps c ≡ o → Gives o a ws ps c
  repeated_none left ws ps c o a on none e =
      gives_same (sym e ∙ ap (λ n. repeated grant n ws ps c) none) (record { answer = on; board = refl; trays = refl; crew = refl })

  module _ (left more : ℕ) (ws ws' : List ℕ) (ps ps' : List P) (c c' : Core) (a : Told) (some : left ≡ suc more) (did : Gives (grant ws ps c) a ws' ps' c') where
    -- an answer other than on is the last
    pub repeated_stops : (o : Outcome P) → is_on a ≡ false → repeated grant left ws ps c ≡ o → Gives o a ws' ps' c'
    repeated_stops o ends e =
        gives_same (sym e ∙ ap (λ n. repeated grant n ws ps c) some ∙ cond-false _ _ _ (sym (ap is_on did.answer) ∙ ends)) did

    -- after the answer on the rest is made
    pub repeated_more : is_on a ≡ true → repeated grant more ws' ps' c' ≡ repeated grant left ws ps c
    repeated_more goes =
        ap (λ x. repeated grant more x ps' c') did.board
        ∙ ap (λ x. repeated grant more (grant ws ps c).words x c') did.trays
        ∙ ap (λ x. repeated grant more (grant ws ps c).words (grant ws ps c).trays x) did.crew
        ∙ sym (ap (λ n. repeated grant n ws ps c) some ∙ cond-true _ _ _ (sym (ap is_on did.answer) ∙ goes))
