-- The words of a laid line, from the stores that lay it.
use Rattle.std.proofs.Common.{◌≡◌, ℕ, ◌+◌, ◌*◌, ◌<◌, ◌≤◌, List, [], ◌∷◌, ◌++◌, length, drop, set, replicate, sym, refl, ap, ◌∙◌, append_assoc, zero-add, arith}
use lib.ListN.{length-replicate}
use lib.Seq.{paste}
use Rattle.boards.specs.Words.{empty_word}
use Rattle.std.proofs.lemmas.List.Edits.{paste-paste, paste_all}
use Rattle.std.proofs.lemmas.List.{length-append}
use Rattle.line.specs.Calls.{laid_words}
use Rattle.line.specs.Crew.{shape}
use Rattle.line.specs.Map.{words_needed}

-- a store in word 0 pastes one word
first_word : (ws : List ℕ) (start : ℕ) → 0 < length ws → set ws 0 start ≡ paste ws 0 (start ∷ []) 1
first_word [] start h = absurd (omega arith)
first_word (w ∷ ws) start h = refl

pub laid_is : (ws : List ℕ) (n k start : ℕ) → words_needed (shape n k) ≤ length ws →
    paste (paste (set ws 0 start) 1 (replicate n empty_word) n) (1 + n) (replicate (2 * n + n * k) 0) (2 * n + n * k) ≡ laid_words ws n k start
laid_is ws n k start h = from_start (2 * n + n * k) (words_needed (shape n k)) (omega arith) (omega arith)
  where
    from_start : (m needed : ℕ) → needed ≡ 1 + n + m → needed ≤ length ws →
        paste (paste (set ws 0 start) 1 (replicate n empty_word) n) (1 + n) (replicate m 0) m ≡ start ∷ replicate n empty_word ++ (replicate m 0 ++ drop needed ws)
    from_start m needed e le =
        ap (λ xs. paste (paste xs 1 (replicate n empty_word) n) (1 + n) (replicate m 0) m) (first_word ws start (omega arith))
        ∙ ap (λ xs. paste xs (1 + n) (replicate m 0) m) (paste-paste ws 0 (start ∷ []) (replicate n empty_word) 1 n refl (sym (length-replicate n empty_word)) (omega arith))
        ∙ ap (λ j. paste (paste ws 0 (start ∷ replicate n empty_word) (1 + n)) j (replicate m 0) m) (sym (zero-add (1 + n)))
        ∙ paste-paste ws 0 (start ∷ replicate n empty_word) (replicate m 0) (1 + n) m (omega (arith, length-replicate n empty_word)) (sym (length-replicate {A = ℕ} m 0)) (omega arith)
        ∙ paste_all ws 0 (start ∷ (replicate n empty_word ++ replicate m 0)) (1 + n + m) (omega (arith, length-append (replicate n empty_word) (replicate m 0), length-replicate n empty_word, length-replicate {A = ℕ} m 0))
        ∙ ap (λ j. start ∷ ((replicate n empty_word ++ replicate m 0) ++ drop j ws)) (zero-add (1 + n + m) ∙ sym e)
        ∙ ap (λ xs. start ∷ xs) (append_assoc (replicate n empty_word) (replicate m 0) (drop needed ws))
