-- Calls performed one after another, step by step.
use Rattle.std.proofs.Common.{◌≡◌, ℕ, ◌+◌, ◌<◌, ◌≤◌, List, [], ◌∷◌, ◌++◌, length, get_or, drop, sym, ap, ◌∙◌}
use Rattle.std.proofs.lemmas.List.{at_drop_more, at_drop_all}
use Rattle.line.specs.Answers.{Told}
use Rattle.line.specs.Calls.{Outcome}
use Rattle.line.specs.declared.crew.Core.{Core}
use Rattle.runs.specs.Runs.{Answers, Left, Ran, Said, runs_on}

module _ {P X : Type 0} (performed : X → List ℕ → List P → Core → Outcome P) (says : X → Told → Said) where
  -- what equals the state that a run goes on from leads to the same
  pub onward : (calls : List X) (before before' : List Said) (ws ws' : List ℕ) (ps ps' : List P) (c c' : Core) → before ≡ before' → ws ≡ ws' → ps ≡ ps' → c ≡ c' →
      runs_on performed says calls before ws ps c ≡ runs_on performed says calls before' ws' ps' c'
  onward calls before before' ws ws' ps ps' c c' e f g h =
      ap (λ x. runs_on performed says calls x ws ps c) e
      ∙ ap (λ x. runs_on performed says calls before' x ps c) f
      ∙ ap (λ x. runs_on performed says calls before' ws' x c) g
      ∙ ap (runs_on performed says calls before' ws' ps') h

  module _ (calls : List X) (i : ℕ) (before : List Said) (ws : List ℕ) (ps : List P) (c : Core) where
    pub run_more : (call : X) (a : Said) (after : List Said) (ws' : List ℕ) (ps' : List P) (c' : Core) →
        i < length calls → call ≡ get_or calls i call → after ≡ before ++ a ∷ [] → Answers (performed call ws ps c) (says call) a ws' ps' c' →
        runs_on performed says (drop (i + 1) calls) after ws' ps' c' ≡ runs_on performed says (drop i calls) before ws ps c
    run_more call a after ws' ps' c' below e pushed did =
        onward (drop (i + 1) calls) after (before ++ says call (performed call ws ps c).answer ∷ []) ws' _ ps' _ c' _ (pushed ∙ ap (λ x. before ++ x ∷ []) did.answer) did.board did.trays did.crew
        ∙ ap (λ x. runs_on performed says (x ∷ drop (i + 1) calls) before ws ps c) e
        ∙ sym (at_drop_more (λ l. runs_on performed says l before ws ps c) calls i call below)

    pub run_ends : (ran : Ran P) → length calls ≤ i → runs_on performed says (drop i calls) before ws ps c ≡ ran → Left ran before ws ps c
    run_ends ran past e =
        let end = sym (at_drop_all (λ l. runs_on performed says l before ws ps c) calls i past) ∙ e in
        record { says = ap (λ r. r.answers) end; board = ap (λ r. r.words) end; trays = ap (λ r. r.trays) end; crew = ap (λ r. r.crew) end }
