-- A run that equals one that is ready is ready.
use Rattle.std.proofs.Common.{◌≡◌, ℕ, List, [], Option, sym, subst}
use Rattle.line.specs.Answers.{told}
use Rattle.line.specs.Calls.{Outcome}
use Rattle.line.specs.declared.crew.Core.{Core}
use Rattle.line.specs.declared.receipt.Receipt.{Receipt}
use Rattle.runs.specs.Ready.{Ready}

module _ {P : Type 0} where
  -- readiness for the words, trays and crew that an outcome says
  pub ready_left : (held : Option Receipt) (o : Outcome P) (ws : List ℕ) (ps : List P) (c : Core) → ws ≡ o.words → ps ≡ o.trays → c ≡ o.crew → Ready held o.words o.trays o.crew → Ready held ws ps c
  ready_left held o ws ps c e f g r = subst (λ k. Ready held ws ps k) (sym g) (subst (λ qs. Ready held ws qs o.crew) (sym f) (subst (λ xs. Ready held xs o.trays o.crew) (sym e) r))

  -- what equals a run that is ready is ready
  pub ready_same : (held held' : Option Receipt) (ws ws' : List ℕ) (ps ps' : List P) (c c' : Core) → held' ≡ held → ws' ≡ ws → ps' ≡ ps → c' ≡ c → Ready held ws ps c → Ready held' ws' ps' c'
  ready_same held held' ws ws' ps ps' c c' e f g h r =
      subst (λ x. Ready x ws' ps' c') (sym e) (ready_left held (record { answer = told 0 []; words = ws; trays = ps; crew = c }) ws' ps' c' f g h r)

  -- readiness of a crew that equals the one left
  pub ready_crew : (held : Option Receipt) (ws : List ℕ) (ps : List P) (c c' : Core) → c' ≡ c → Ready held ws ps c → Ready held ws ps c'
  ready_crew held ws ps c c' e = subst (Ready held ws ps) (sym e)
