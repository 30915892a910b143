-- A whole run, put together from the laying, the calls before and after the drain, and the closing.
use Rattle.std.proofs.Common.{◌≡◌, ℕ, ◌+◌, ◌*◌, ◌≤◌, false, leb, List, [], ◌++◌, length, drop, replicate, Some, None, Option, sym, refl, ap, ◌∙◌, subst, arith}
use lib.ListN.{length-replicate}
use Rattle.std.proofs.lemmas.List.{length-append, length-drop}
use Rattle.std.proofs.lemmas.Bool.{and_from, and_parts, both_ways, le-leb, leb-true}
use Rattle.boards.specs.Words.{empty_word}
use Rattle.line.proofs.Tested.{gives_same}
use Rattle.line.specs.Answers.{Told}
use Rattle.line.specs.Calls.{Gives, Outcome, board_holds, drained, laid_words, laying_tests, lays, refuse}
use Rattle.line.specs.Crew.{never_laid, shape}
use Rattle.line.specs.Map.{words_needed}
use Rattle.line.specs.declared.crew.Core.{Core}
use Rattle.line.specs.declared.receipt.Receipt.{Receipt}
use Rattle.runs.specs.Completing.{Completes}
use Rattle.runs.specs.Ready.{Ready}
use Rattle.runs.specs.Runs.{Left, Ran, Said, closes, draining_performed, draining_run, draining_says, open_performed, open_run, open_says, runs, runs_on, Whole}
use Rattle.runs.specs.declared.calls.DrainingCall.{DrainingCall}
use Rattle.runs.specs.declared.calls.Laying.{Laying}
use Rattle.runs.specs.declared.calls.OpenCall.{OpenCall}
use Rattle.runs.proofs.Keeping.{tested_cases}
use Rattle.runs.proofs.Onward.{onward}
use Rattle.runs.proofs.Performing.{ready_left}

-- laying keeps the board's length
pub length_laid_words : (ws : List ℕ) (n k start : ℕ) → words_needed (shape n k) ≤ length ws → length (laid_words ws n k start) ≡ length ws
length_laid_words ws n k start h =
    let zeroes = replicate {A = ℕ} (2 * n + n * k) 0 in
    let rest = drop (words_needed (shape n k)) ws in
    omega (arith, length-append (replicate n empty_word) (zeroes ++ rest), length-append zeroes rest, length-replicate n empty_word, length-replicate {A = ℕ} (2 * n + n * k) 0, length-drop (words_needed (shape n k)) ws)

module _ {P : Type 0} where
  -- a run completes what equals it
  pub completes_same : (w w' : Whole P) (told : Told) (before : List Said) (after : Option (List Said)) (ws : List ℕ) (ps : List P) (c : Core) → w ≡ w' → Completes w' told before after ws ps c → Completes w told before after ws ps c
  completes_same w w' told before after ws ps c e = subst (λ x. Completes x told before after ws ps c) (sym e)

  -- what equals the state that a run left is closed alike
  closed_same : (r : Ran P) (answers : List Said) (ws : List ℕ) (ps : List P) (c : Core) → Left r answers ws ps c → closes ws ps c ≡ closes r.words r.trays r.crew
  closed_same r answers ws ps c left = ap (λ x. closes x ps c) left.board ∙ ap (λ x. closes r.words x c) left.trays ∙ ap (closes r.words r.trays) left.crew

  -- a new crew is ready, laid or refused
  pub laid_ready : (ws : List ℕ) (ps : List P) (n k start : ℕ) → let o = lays ws ps never_laid n k start in Ready None o.words o.trays o.crew
  laid_ready ws ps n k start =
      tested_cases (refuse ws ps never_laid) (λ o. Ready None o.words o.trays o.crew) (laying_tests ws ps never_laid n k start) _
      (λ _. record { receipt = refl; few = omega arith; laid_first = λ h. absurd (both_ways false refl h); room = λ h. absurd (both_ways false refl h); ends = λ h. absurd (both_ways false refl h) })
      (λ passes.
      let limits = and_parts (leb 1 n) _ passes.0 in
      let few = and_parts (leb n 16) _ limits.1 in
      let held = and_parts (board_holds ws ps never_laid (shape n k)) _ passes.1.1.1.0 in
      let long : words_needed (shape n k) ≤ length ws = leb-true (words_needed (shape n k)) (length ws) held.0 in
      record {
        receipt = refl;
        few = leb-true n 16 few.0;
        laid_first = λ h. absurd (both_ways false refl h);
        room = λ _. and_from _ _ (le-leb (words_needed (shape n k)) (length (laid_words ws n k start)) (omega (arith, length_laid_words ws n k start long))) held.1;
        ends = λ h. absurd (both_ways false refl h);
      })

  module _ (ws : List ℕ) (ps : List P) (laying : Laying) (calls : List (OpenCall P)) (c₀ : Core) (new : c₀ ≡ never_laid) (told : Told) (ws₁ : List ℕ) (ps₁ : List P) (c₁ : Core)
      (did : Gives (lays ws ps c₀ laying.lanes laying.cells laying.start) told ws₁ ps₁ c₁) where
    abbrev o : Outcome P
    o = lays ws ps never_laid laying.lanes laying.cells laying.start

    by_new : Gives o told ws₁ ps₁ c₁
    by_new = gives_same (ap (λ k. lays ws ps k laying.lanes laying.cells laying.start) (sym new)) did

    pub new_ready : Ready None ws₁ ps₁ c₁
    new_ready = ready_left None o ws₁ ps₁ c₁ by_new.board by_new.trays by_new.crew (laid_ready ws ps laying.lanes laying.cells laying.start)

    module _ (answers : List Said) (ws₂ : List ℕ) (ps₂ : List P) (c₂ : Core) (ran : Left (runs_on open_performed open_says calls [] ws₁ ps₁ c₁) answers ws₂ ps₂ c₂) where
      opened : Left (open_run o calls) answers ws₂ ps₂ c₂
      opened = subst (λ r. Left r answers ws₂ ps₂ c₂) (onward open_performed open_says calls [] [] ws₁ o.words ps₁ o.trays c₁ o.crew refl by_new.board by_new.trays by_new.crew) ran

      pub completes_undrained : (ws₃ : List ℕ) (ps₃ : List P) (c₃ : Core) → ws₃ ≡ (closes ws₂ ps₂ c₂).words → ps₃ ≡ (closes ws₂ ps₂ c₂).trays → c₃ ≡ (closes ws₂ ps₂ c₂).crew →
          Completes (runs ws ps laying calls None) told answers None ws₃ ps₃ c₃
      completes_undrained ws₃ ps₃ c₃ e f g =
          let same = closed_same (open_run o calls) answers ws₂ ps₂ c₂ opened in
          record { lays = by_new.answer; says_before = opened.says; says_after = refl; board = e ∙ ap (λ x. x.words) same; trays = f ∙ ap (λ x. x.trays) same; crew = g ∙ ap (λ x. x.crew) same }

      pub completes_drained : (later : List DrainingCall) (ws' : List ℕ) (ps' : List P) (d : Core) (last : List Said) (ws₃ ws₄ : List ℕ) (ps₃ ps₄ : List P) (c₃ c₄ : Core) → ws' ≡ ws₂ → ps' ≡ ps₂ → d ≡ drained c₂ →
          Left (runs_on draining_performed draining_says later [] ws' ps' d) last ws₃ ps₃ c₃ →
          ws₄ ≡ (closes ws₃ ps₃ c₃).words → ps₄ ≡ (closes ws₃ ps₃ c₃).trays → c₄ ≡ (closes ws₃ ps₃ c₃).crew →
          Completes (runs ws ps laying calls (Some later)) told answers (Some last) ws₄ ps₄ c₄
      completes_drained later ws' ps' d last ws₃ ws₄ ps₃ ps₄ c₃ c₄ same_words same_trays turned ran_on e f g =
          let r = open_run o calls in
          let drains : Left (draining_run r later) last ws₃ ps₃ c₃ =
          subst (λ x. Left x last ws₃ ps₃ c₃) (onward draining_performed draining_says later [] [] ws' r.words ps' r.trays d (drained r.crew) refl (same_words ∙ opened.board) (same_trays ∙ opened.trays) (turned ∙ ap drained opened.crew)) ran_on in
          let same = closed_same (draining_run r later) last ws₃ ps₃ c₃ drains in
          record { lays = by_new.answer; says_before = opened.says; says_after = ap Some drains.says; board = e ∙ ap (λ x. x.words) same; trays = f ∙ ap (λ x. x.trays) same; crew = g ∙ ap (λ x. x.crew) same }

-- draining a crew leaves the run ready
pub drained_ready : {P : Type 0} (held : Option Receipt) (ws : List ℕ) (ps : List P) (c : Core) → Ready held ws ps c → Ready held ws ps (drained c)
drained_ready held ws ps c r = record { receipt = r.receipt; few = r.few; laid_first = r.laid_first; room = r.room; ends = r.ends }
