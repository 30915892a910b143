-- A collect that is open at the end of a run is granted to its end, and its settling is accepted.
use Rattle.std.proofs.Common.{◌≡◌, ℕ, zero, suc, ◌≤◌, Bool, true, false, cond, ◌&&◌, List, Option, sym, refl, ap, ◌∙◌, subst, ⊎_elim, arith}
use Rattle.std.proofs.Math.Logic.{∥∥₁_elim}
use Rattle.std.proofs.lemmas.Bool.{both_ways, cases_Bool, cond_both, cond-true}
use mathlib.Core.Bool.{Bool-set}
use Rattle.line.proofs.Tested.{passed}
use Rattle.line.specs.Calls.{Outcome, board_holds, collector_goes, collector_grant_tests, collector_steps, grants_collector, laid, refuse, refuse_crew, settles, settles_at, trays_hold}
use Rattle.line.specs.Collect.{begun, collect_answer_at, collector_access, collector_at, collector_next, under_way}
use Rattle.line.specs.Laws.{CollectEndsOrGoesOn, CollectEndsWithin}
use Rattle.line.specs.Perform.{word_read}
use Rattle.line.specs.Post.{one_more}
use Rattle.line.specs.declared.access.Access.{Access}
use Rattle.line.specs.declared.collector.CollectNext.{CollectNext}
use Rattle.line.specs.declared.collector.CollectNext.TheVariants.{Goes, EndsEmpty, EndsDelivered}
use Rattle.line.specs.declared.collector.CollectStage.{CollectStage}
use Rattle.line.specs.declared.collector.CollectStage.TheVariants.{Idle, ScanFirst, ScanSecond, Fetch, Free, SeeSlot, SeeTail, SeeFront, RefreshSlot, Ended}
use Rattle.line.specs.declared.crew.Core.{Core}
use Rattle.line.specs.declared.receipt.Receipt.{Receipt}
use Rattle.runs.specs.Ready.{Ready}
use Rattle.runs.specs.Runs.{closes, is_on, most_collect_grants, repeated}
use Rattle.runs.proofs.Keeping.{repeated_keeps, tested_cases}
use Rattle.runs.proofs.Readiness.{OnOrEnded, begun_under_way, grants_collector_ready, on_or_ended}
use Rattle.runs.proofs.Turns.{collected_0, settle_refused}

-- ended and not settled
abbrev pub ended : CollectStage → Bool
ended Idle = false
ended (ScanFirst i best) = false
ended (ScanSecond i bound best) = false
ended (Fetch best) = false
ended (Free best) = false
ended (SeeSlot t best) = false
ended (SeeTail t best v) = false
ended (SeeFront t best v) = false
ended (RefreshSlot t best v f) = false
ended (Ended how) = true

-- begun and not under way: ended
ended_otherwise : (stage : CollectStage) → begun stage ≡ true → under_way stage ≡ false → ended stage ≡ true
ended_otherwise Idle b u = b
ended_otherwise (ScanFirst i best) b u = sym u
ended_otherwise (ScanSecond i bound best) b u = sym u
ended_otherwise (Fetch best) b u = sym u
ended_otherwise (Free best) b u = sym u
ended_otherwise (SeeSlot t best) b u = sym u
ended_otherwise (SeeTail t best v) b u = sym u
ended_otherwise (SeeFront t best v) b u = sym u
ended_otherwise (RefreshSlot t best v f) b u = sym u
ended_otherwise (Ended how) b u = refl

-- a settling of an ended collect on a laid line is accepted
pub ended_settles : (c : Core) → laid c ≡ true → ended c.collector.stage ≡ true → (settles c).answer.number ≡ 0
ended_settles c is_laid over = ap (λ o. o.answer.number) (cond-true (laid c) (settles_at c c.collector.stage) (refuse_crew c 4) is_laid) ∙ at c.collector.stage over
  where
    at : (stage : CollectStage) → ended stage ≡ true → (settles_at c stage).answer.number ≡ 0
    at Idle h = absurd (both_ways false refl h)
    at (ScanFirst i best) h = absurd (both_ways false refl h)
    at (ScanSecond i bound best) h = absurd (both_ways false refl h)
    at (Fetch best) h = absurd (both_ways false refl h)
    at (Free best) h = absurd (both_ways false refl h)
    at (SeeSlot t best) h = absurd (both_ways false refl h)
    at (SeeTail t best v) h = absurd (both_ways false refl h)
    at (SeeFront t best v) h = absurd (both_ways false refl h)
    at (RefreshSlot t best v f) h = absurd (both_ways false refl h)
    at (Ended how) h = collected_0 how

module _ {P : Type 0} where
  -- with no collect under way a grant is refused, and grants made again leave everything
  abbrev Still : ℕ → List ℕ → List P → Core → Outcome P → Type 0
  Still times ws ps c o =
      let o' = cond (is_on o.answer) (repeated grants_collector times o.words o.trays o.crew) o in
      (o'.words ≡ ws) × (o'.trays ≡ ps) × (o'.crew ≡ c)

  pub stands_still : (times : ℕ) (ws : List ℕ) (ps : List P) (c : Core) → under_way c.collector.stage ≡ false →
      let o = repeated grants_collector times ws ps c in (o.words ≡ ws) × (o.trays ≡ ps) × (o.crew ≡ c)
  stands_still zero ws ps c quiet = (refl, refl, refl)
  stands_still (suc times) ws ps c quiet =
      cond_both (laid c) _ (refuse ws ps c 4) (Still times ws ps c)
      (λ _. cond_both (board_holds ws ps c c.shape && trays_hold ws ps c c.shape) _ (refuse ws ps c 3) (Still times ws ps c)
      (λ _. subst (λ t. Still times ws ps c (cond t (collector_steps ws ps c (collector_access c.shape c.heads c.collector.stage)) (refuse ws ps c 11))) (sym quiet) (refl, refl, refl))
      (λ _. (refl, refl, refl)))
      (λ _. (refl, refl, refl))

  -- the stage after a grant that gave the outcome, and the grants after it
  abbrev Over : ℕ → Outcome P → Type 0
  Over times o = ended (cond (is_on o.answer) (repeated grants_collector times o.words o.trays o.crew) o).crew.collector.stage ≡ true

  -- a grant that ends the collect is the last; one that does not is followed by the rest
  after_next : (ws : List ℕ) (ps : List P) (c : Core) (access : Access) (times n m : ℕ) (X : Type 0) (next : CollectNext) → OnOrEnded next →
      CollectEndsOrGoesOn (collect_answer_at (one_more c.collector.grants) next) n m X →
      (under_way (collector_at (one_more c.collector.grants) next).stage ≡ true → X → let o = collector_goes ws ps c access next in ended (repeated grants_collector times o.words o.trays o.crew).crew.collector.stage ≡ true) →
      Over times (collector_goes ws ps c access next)
  after_next ws ps c access times n m X (Goes stage) on h rest = rest on h
  after_next ws ps c access times n m X EndsEmpty on h rest = refl
  after_next ws ps c access times n m X (EndsDelivered best) on h rest = refl

  pub ends_in : (times more m : ℕ) (held : Option Receipt) (ws : List ℕ) (ps : List P) (c : Core) → more ≤ times → Ready held ws ps c → under_way c.collector.stage ≡ true →
      CollectEndsWithin more m c.shape c.heads c.collector → ended (repeated grants_collector times ws ps c).crew.collector.stage ≡ true
  ends_in times zero m held ws ps c le r going h = absurd h
  ends_in zero (suc more) m held ws ps c le r going h = absurd (omega arith)
  ends_in (suc times) (suc more) m held ws ps c le r going h =
      let access = collector_access c.shape c.heads c.collector.stage in
      let w = word_read c.shape access ws in
      let next = collector_next c.shape c.heads c.collector.stage w in
      let is_laid = r.laid_first (begun_under_way c.collector.stage going) in
      let step : grants_collector ws ps c ≡ collector_steps ws ps c access = passed (refuse ws ps c) (collector_grant_tests ws ps c) (collector_steps ws ps c access) (is_laid, (r.room is_laid, (going, tt))) in
      let ready = grants_collector_ready held ws ps c r in
      subst (Over times) (sym step)
      (after_next ws ps c access times c.shape.lanes (suc m) _ next (on_or_ended c.shape c.heads c.collector.stage w going) (h w)
      (λ going' left. ends_in times more (suc m) held _ _ _ (omega arith) (subst (λ o. Ready held o.words o.trays o.crew) step ready) going' left))

  -- grants of the collector keep the line laid
  laid_still : (times : ℕ) (ws : List ℕ) (ps : List P) (c : Core) → laid c ≡ true → laid (repeated grants_collector times ws ps c).crew ≡ true
  laid_still = repeated_keeps (λ _ _ c. laid c ≡ true) grants_collector
      (λ ws ps c h. tested_cases (refuse ws ps c) (λ o. laid o.crew ≡ true) (collector_grant_tests ws ps c) (collector_steps ws ps c (collector_access c.shape c.heads c.collector.stage)) (λ n. h) (λ _. h))

  -- an open collect ends within 41 grants, and then settles
  pub open_collect_ends : (times : ℕ) (held : Option Receipt) (ws : List ℕ) (ps : List P) (c : Core) → 41 ≤ times → Ready held ws ps c → begun c.collector.stage ≡ true →
      (settles (repeated grants_collector times ws ps c).crew).answer.number ≡ 0
  open_collect_ends times held ws ps c enough r is-begun =
      ended_settles (repeated grants_collector times ws ps c).crew (laid_still times ws ps c (r.laid_first is-begun))
      (⊎_elim going quiet (cases_Bool (under_way c.collector.stage)))
    where
      going : under_way c.collector.stage ≡ true → ended (repeated grants_collector times ws ps c).crew.collector.stage ≡ true
      going g = ∥∥₁_elim (r.ends g) (Bool-set _ _) (λ e. ends_in times e.0 e.1 held ws ps c (omega (arith, e.2)) r g e.3)

      quiet : under_way c.collector.stage ≡ false → ended (repeated grants_collector times ws ps c).crew.collector.stage ≡ true
      quiet q = ap (λ k. ended k.collector.stage) (stands_still times ws ps c q).2 ∙ ended_otherwise c.collector.stage is-begun q

  -- with no collect begun nothing is done
  pub nothing_to_close : (ws : List ℕ) (ps : List P) (c : Core) → begun c.collector.stage ≡ false → let o = closes ws ps c in (ws ≡ o.words) × (ps ≡ o.trays) × (c ≡ o.crew)
  nothing_to_close ws ps c idle =
      let quiet : under_way c.collector.stage ≡ false = not_begun c.collector.stage idle in
      let same = stands_still most_collect_grants ws ps c quiet in
      let refused : (settles c).crew ≡ c = ap (λ o. o.crew) (settle_refused c idle) in
      (sym same.0, sym same.1, sym (ap (λ k. (settles k).crew) same.2 ∙ refused))
    where
      not_begun : (stage : CollectStage) → begun stage ≡ false → under_way stage ≡ false
      not_begun stage h = ⊎_elim (λ u. absurd (both_ways (begun stage) h (begun_under_way stage u))) (λ u. u) (cases_Bool (under_way stage))
