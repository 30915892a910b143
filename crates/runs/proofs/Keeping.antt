-- What calls leave alone: lengths of board and trays, the shape, and of a lane's calls the collector.
use Rattle.std.proofs.Common.{◌≡◌, ℕ, zero, suc, Bool, List, [], ◌∷◌, length, drop, refl, length-set}
use Rattle.std.proofs.lemmas.Bool.{cond_both}
use Rattle.boards.proofs.Effects.{swap_touches, take_touches}
use Rattle.line.proofs.Tested.{Pass}
use Rattle.line.specs.Calls.{Outcome, begin_post_tests, begins_post, grants_lane, lane_grant_tests, lane_steps, refuse, tested}
use Rattle.line.specs.Crew.{row_of}
use Rattle.line.specs.Map.{tray_of, word_of}
use Rattle.line.specs.Perform.{put_first, trays_after, words_after}
use Rattle.line.specs.Post.{lane_access}
use Rattle.line.specs.declared.access.Access.{Access}
use Rattle.line.specs.declared.access.Access.TheVariants.{Nothing, Load, Store, Swap, Take, CopyTray}
use Rattle.line.specs.declared.access.Shape.{Shape}
use Rattle.line.specs.declared.crew.Core.{Core}
use Rattle.runs.specs.Runs.{is_on, repeated}

-- what holds of every refusal, and of what follows when the tests pass, holds of the call
pub tested_cases : {O : Type 0} (refused : ℕ → O) (Q : O → Type 0) (tests : List (Bool × ℕ)) (go : O) → ((n : ℕ) → Q (refused n)) → (Pass tests → Q go) → Q (tested refused tests go)
tested_cases refused Q [] go r g = g tt
tested_cases refused Q (test ∷ tests) go r g =
    cond_both test.0 (tested refused tests go) (refused test.1) Q (λ h. tested_cases refused Q tests go r (λ hs. g (h, hs))) (λ _. r test.1)

pub length_words_after : (s : Shape) (a : Access) (ws : List ℕ) → length (words_after s a ws) ≡ length ws
length_words_after s Nothing ws = refl
length_words_after s (Load a) ws = refl
length_words_after s (Store a v) ws = length-set ws (word_of s a) v
length_words_after s (Swap a v w) ws = (swap_touches ws (word_of s a) v w).size
length_words_after s (Take a) ws = (take_touches ws (word_of s a)).size
length_words_after s (CopyTray p q) ws = refl

module _ {P : Type 0} where
  length_put_first : (ps : List P) (to : ℕ) (xs : List P) → length (put_first ps to xs) ≡ length ps
  length_put_first ps to [] = refl
  length_put_first ps to (x ∷ xs) = length-set ps to x

  pub length_trays_after : (s : Shape) (a : Access) (ps : List P) → length (trays_after s a ps) ≡ length ps
  length_trays_after s Nothing ps = refl
  length_trays_after s (Load a) ps = refl
  length_trays_after s (Store a v) ps = refl
  length_trays_after s (Swap a v w) ps = refl
  length_trays_after s (Take a) ps = refl
  length_trays_after s (CopyTray p q) ps = length_put_first ps (tray_of s q) (drop (tray_of s p) ps)

  -- from one state to another only the lanes' rows, the words and the trays' contents have changed
  pub record Spares (ws : List ℕ) (ps : List P) (c : Core) (ws' : List ℕ) (ps' : List P) (c' : Core) : Type 0 where
    pub board : length ws' ≡ length ws
    pub trays : length ps' ≡ length ps
    pub shape : c'.shape ≡ c.shape
    pub heads : c'.heads ≡ c.heads
    pub collector : c'.collector ≡ c.collector

  pub begins_post_spares : (ws : List ℕ) (ps : List P) (c : Core) (lane : ℕ) (x : P) → let o = begins_post ws ps c lane x in Spares ws ps c o.words o.trays o.crew
  begins_post_spares ws ps c lane x =
      tested_cases (refuse ws ps c) (λ o. Spares ws ps c o.words o.trays o.crew) (begin_post_tests ws ps c lane) _
      (λ n. record { board = refl; trays = refl; shape = refl; heads = refl; collector = refl })
      (λ _. record { board = refl; trays = length-set ps lane x; shape = refl; heads = refl; collector = refl })

  pub grants_lane_spares : (lane : ℕ) (ws : List ℕ) (ps : List P) (c : Core) → let o = grants_lane ws ps c lane in Spares ws ps c o.words o.trays o.crew
  grants_lane_spares lane ws ps c =
      let access = lane_access lane (row_of c lane) (row_of c lane).stage in
      tested_cases (refuse ws ps c) (λ o. Spares ws ps c o.words o.trays o.crew) (lane_grant_tests ws ps c lane) (lane_steps ws ps c lane (row_of c lane) access)
      (λ n. record { board = refl; trays = refl; shape = refl; heads = refl; collector = refl })
      (λ _. record { board = length_words_after c.shape access ws; trays = length_trays_after c.shape access ps; shape = refl; heads = refl; collector = refl })

  -- what each grant keeps, grants made again keep
  pub repeated_keeps : (R : List ℕ → List P → Core → Type 0) (grant : List ℕ → List P → Core → Outcome P) →
      ((ws : List ℕ) (ps : List P) (c : Core) → R ws ps c → let o = grant ws ps c in R o.words o.trays o.crew) →
      (times : ℕ) (ws : List ℕ) (ps : List P) (c : Core) → R ws ps c → let o = repeated grant times ws ps c in R o.words o.trays o.crew
  repeated_keeps R grant keeps zero ws ps c r = r
  repeated_keeps R grant keeps (suc times) ws ps c r =
      let o = grant ws ps c in
      let r' = keeps ws ps c r in
      cond_both (is_on o.answer) (repeated grant times o.words o.trays o.crew) o (λ x. R x.words x.trays x.crew)
      (λ _. repeated_keeps R grant keeps times o.words o.trays o.crew r')
      (λ _. r')
