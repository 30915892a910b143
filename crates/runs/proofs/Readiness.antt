-- A run stays ready for its next call.
use Rattle.std.proofs.Common.{◌≡◌, ℕ, zero, suc, ◌+◌, ◌*◌, ◌%◌, ◌≤◌, Bool, true, false, cond, ◌&&◌, eqb, ltb, leb, List, length, is_some, Option, sym, refl, ap, ◌∙◌, subst, arith}
use Rattle.std.proofs.Math.Logic.{∥∥₁_map}
use Rattle.std.proofs.lemmas.Bool.{both_ways, cond_both, ltb-true}
use Rattle.line.proofs.CollectEndings.{each-collect-ends-by-grant-2n+9}
use Rattle.line.specs.Calls.{begin_collect_tests, begins_collect, begins_post, collector_grant_tests, collector_steps, grants_collector, grants_lane, laid, refuse, refuse_crew, settles, settles_at}
use Rattle.line.specs.Collect.{begun, better, collect_answer_at, collector_access, collector_at, collector_next, head_of, heads_after, under_way}
use Rattle.line.specs.Laws.{CollectEndsOrGoesOn, CollectEndsWithin}
use Rattle.line.specs.Map.{trays_needed, words_needed}
use Rattle.line.specs.Perform.{trays_after, word_read}
use Rattle.line.specs.Post.{one_more}
use Rattle.line.specs.declared.access.Access.{Access}
use Rattle.line.specs.declared.access.Shape.{Shape}
use Rattle.line.specs.declared.collector.CollectNext.{CollectNext}
use Rattle.line.specs.declared.collector.CollectNext.TheVariants.{Goes, EndsEmpty, EndsDelivered}
use Rattle.line.specs.declared.collector.CollectStage.{CollectStage}
use Rattle.line.specs.declared.collector.Collector.{Collector}
use Rattle.line.specs.declared.collector.CollectStage.TheVariants.{Idle, ScanFirst, ScanSecond, Fetch, Free, SeeSlot, SeeTail, SeeFront, RefreshSlot, Ended}
use Rattle.line.specs.declared.crew.Core.{Core}
use Rattle.line.specs.declared.lane.Attempt.TheVariants.{First, Second}
use Rattle.line.specs.declared.receipt.Receipt.{Receipt}
use Rattle.runs.specs.Ready.{Ending, Ready}
use Rattle.runs.proofs.Keeping.{Spares, begins_post_spares, grants_lane_spares, length_trays_after, length_words_after, tested_cases}

-- a collect under way is begun
pub begun_under_way : (stage : CollectStage) → under_way stage ≡ true → begun stage ≡ true
begun_under_way Idle h = h
begun_under_way (ScanFirst i best) h = refl
begun_under_way (ScanSecond i bound best) h = refl
begun_under_way (Fetch best) h = refl
begun_under_way (Free best) h = refl
begun_under_way (SeeSlot t best) h = refl
begun_under_way (SeeTail t best v) h = refl
begun_under_way (SeeFront t best v) h = refl
begun_under_way (RefreshSlot t best v f) h = refl
begun_under_way (Ended how) h = refl

-- a grant of a collect under way leaves it under way, or ends it
abbrev pub OnOrEnded : CollectNext → Type 0
OnOrEnded (Goes stage) = under_way stage ≡ true
OnOrEnded EndsEmpty = Unit {0}
OnOrEnded (EndsDelivered best) = Unit {0}

on_either : (test : Bool) (x y : CollectNext) → OnOrEnded x → OnOrEnded y → OnOrEnded (cond test x y)
on_either test x y p q = cond_both test x y OnOrEnded (λ _. p) (λ _. q)

pub on_or_ended : (s : Shape) (heads : List ℕ) (stage : CollectStage) (w : ℕ) → under_way stage ≡ true → OnOrEnded (collector_next s heads stage w)
on_or_ended s heads Idle w h = absurd (both_ways false refl h)
on_or_ended s heads (ScanFirst i best) w h =
    let b = better i w best in
    on_either (ltb (i + 1) s.lanes) _ _ refl (on_either _ EndsEmpty (cond (eqb b.lane 0) (Goes (Fetch b)) (Goes (ScanSecond 0 b.lane b))) tt (on_either (eqb b.lane 0) (Goes (Fetch b)) (Goes (ScanSecond 0 b.lane b)) refl refl))
on_or_ended s heads (ScanSecond i bound best) w h = on_either (ltb (i + 1) bound) (Goes (ScanSecond (i + 1) bound (better i w best))) (Goes (Fetch (better i w best))) refl refl
on_or_ended s heads (Fetch best) w h = refl
on_or_ended s heads (Free best) w h = refl
on_or_ended s heads (SeeSlot t best) w h = refl
on_or_ended s heads (SeeTail t best v) w h = on_either (eqb (w % s.cells) (head_of heads best.lane)) (Goes (RefreshSlot t best v _)) (Goes (SeeFront t best v)) refl refl
on_or_ended s heads (SeeFront t best v) w h = refl
on_or_ended s heads (RefreshSlot First best v f) w h = on_either (eqb w 0) (Goes (SeeSlot Second best)) (EndsDelivered best) refl tt
on_or_ended s heads (RefreshSlot Second best v f) w h = tt
on_or_ended s heads (Ended how) w h = absurd (both_ways false refl h)

-- what is left of a collect's bound after a grant that leaves it under way
bound_left : (next : CollectNext) (g n m : ℕ) (X : Type 0) → CollectEndsOrGoesOn (collect_answer_at g next) n m X → under_way (collector_at g next).stage ≡ true → X
bound_left (Goes stage) g n m X h u = h
bound_left EndsEmpty g n m X h u = absurd (both_ways false refl u)
bound_left (EndsDelivered best) g n m X h u = absurd (both_ways false refl u)

-- the collect is begun still
begun_still : (next : CollectNext) (g : ℕ) → OnOrEnded next → begun (collector_at g next).stage ≡ true
begun_still (Goes stage) g h = begun_under_way stage h
begun_still EndsEmpty g h = refl
begun_still (EndsDelivered best) g h = refl

-- the collect's bound after its next grant
ending_goes_on : (s : Shape) (heads : List ℕ) (more m : ℕ) (k : Collector) (w : ℕ) → more ≤ 41 → CollectEndsWithin more m s heads k →
    let next = collector_next s heads k.stage w in
    let k' = collector_at (one_more k.grants) next in
    under_way k'.stage ≡ true → (more' : ℕ) × (m' : ℕ) × (more' ≤ 41) × CollectEndsWithin more' m' s (heads_after s heads k.stage) k'
ending_goes_on s heads zero m k w le h u = absurd h
ending_goes_on s heads (suc more) m k w le h u =
    let next = collector_next s heads k.stage w in
    (more, suc m, omega arith, bound_left next (one_more k.grants) s.lanes (suc m) _ (h w) u)

module _ {P : Type 0} where
  -- what lanes do leaves a run ready
  pub spared_ready : (held : Option Receipt) (ws ws' : List ℕ) (ps ps' : List P) (c c' : Core) → Spares ws ps c ws' ps' c' → Ready held ws ps c → Ready held ws' ps' c'
  spared_ready held ws ws' ps ps' c c' same r =
      let stage_same : begun c'.collector.stage ≡ begun c.collector.stage = ap (λ k. begun k.stage) same.collector in
      let laid_same : laid c' ≡ laid c = ap (λ s. ltb 0 s.lanes) same.shape in
      record {
        receipt = r.receipt ∙ sym stage_same;
        few = subst (λ (s : Shape). s.lanes ≤ 16) (sym same.shape) r.few;
        laid_first = λ h. laid_same ∙ r.laid_first (sym stage_same ∙ h);
        room = λ h. ap (λ s. leb (words_needed s) (length ws') && leb (trays_needed s) (length ps')) same.shape ∙ ap (λ n. leb (words_needed c.shape) n && leb (trays_needed c.shape) (length ps')) same.board ∙ ap (λ n. leb (words_needed c.shape) (length ws) && leb (trays_needed c.shape) n) same.trays ∙ r.room (sym laid_same ∙ h);
        ends = λ h. ∥∥₁_map (r.ends (sym (ap (λ k. under_way k.stage) same.collector) ∙ h)) moved;
      }
    where
      moved : Ending c → Ending c'
      moved e = subst (λ k. (more : ℕ) × (m : ℕ) × (more ≤ 41) × CollectEndsWithin more m c'.shape c'.heads k) (sym same.collector) (subst (λ hs. (more : ℕ) × (m : ℕ) × (more ≤ 41) × CollectEndsWithin more m c'.shape hs c.collector) (sym same.heads) (subst (λ s. (more : ℕ) × (m : ℕ) × (more ≤ 41) × CollectEndsWithin more m s c.heads c.collector) (sym same.shape) e))

  -- nothing changed but the receipt that is held
  still : (held held' : Option Receipt) (ws : List ℕ) (ps : List P) (c : Core) → Ready held ws ps c → is_some held' ≡ begun c.collector.stage → Ready held' ws ps c
  still held held' ws ps c r e = record { receipt = e; few = r.few; laid_first = r.laid_first; room = r.room; ends = r.ends }

  pub begins_post_ready : (held : Option Receipt) (ws : List ℕ) (ps : List P) (c : Core) (lane : ℕ) (x : P) → Ready held ws ps c → let o = begins_post ws ps c lane x in Ready held o.words o.trays o.crew
  begins_post_ready held ws ps c lane x = spared_ready held ws _ ps _ c _ (begins_post_spares ws ps c lane x)

  pub grants_lane_ready : (held : Option Receipt) (lane : ℕ) (ws : List ℕ) (ps : List P) (c : Core) → Ready held ws ps c → let o = grants_lane ws ps c lane in Ready held o.words o.trays o.crew
  grants_lane_ready held lane ws ps c = spared_ready held ws _ ps _ c _ (grants_lane_spares lane ws ps c)

  collector_steps_ready : (held : Option Receipt) (ws : List ℕ) (ps : List P) (c : Core) (access : Access) → under_way c.collector.stage ≡ true → Ready held ws ps c →
      let o = collector_steps ws ps c access in Ready held o.words o.trays o.crew
  collector_steps_ready held ws ps c access going r =
      let s = c.shape in
      let k = c.collector in
      let w = word_read s access ws in
      let next = collector_next s c.heads k.stage w in
      let is_begun : begun k.stage ≡ true = begun_under_way k.stage going in
      let still : begun (collector_at (one_more k.grants) next).stage ≡ true = begun_still next (one_more k.grants) (on_or_ended s c.heads k.stage w going) in
      record {
        receipt = r.receipt ∙ is_begun ∙ sym still;
        few = r.few;
        laid_first = λ _. r.laid_first is_begun;
        room = λ h. ap (λ n. leb (words_needed s) n && leb (trays_needed s) (length (trays_after s access ps))) (length_words_after s access ws) ∙ ap (λ n. leb (words_needed s) (length ws) && leb (trays_needed s) n) (length_trays_after s access ps) ∙ r.room h;
        ends = λ u. ∥∥₁_map (r.ends going) (λ e. ending_goes_on s c.heads e.0 e.1 k w e.2 e.3 u);
      }

  pub grants_collector_ready : (held : Option Receipt) (ws : List ℕ) (ps : List P) (c : Core) → Ready held ws ps c → let o = grants_collector ws ps c in Ready held o.words o.trays o.crew
  grants_collector_ready held ws ps c r =
      let access = collector_access c.shape c.heads c.collector.stage in
      tested_cases (refuse ws ps c) (λ o. Ready held o.words o.trays o.crew) (collector_grant_tests ws ps c) (collector_steps ws ps c access)
      (λ n. r)
      (λ passes. collector_steps_ready held ws ps c access passes.1.1.0 r)

  -- a collect may be begun, or settled: a receipt is held afterwards exactly if one is begun
  pub begins_collect_ready : (held held' : Option Receipt) (ws : List ℕ) (ps : List P) (c : Core) → Ready held ws ps c → is_some held' ≡ begun (begins_collect c).crew.collector.stage →
      Ready held' ws ps (begins_collect c).crew
  begins_collect_ready held held' ws ps c r =
      tested_cases (refuse_crew c) (λ o. is_some held' ≡ begun o.crew.collector.stage → Ready held' ws ps o.crew) (begin_collect_tests c) _
      (λ n e. still held held' ws ps c r e)
      (λ passes e.
      record {
        receipt = e;
        few = r.few;
        laid_first = λ _. passes.0;
        room = r.room;
        ends = λ _. ∣ (2 * c.shape.lanes + 9, 0, omega (arith, r.few), each-collect-ends-by-grant-2n+9 c.shape c.heads (omega (arith, ltb-true 0 c.shape.lanes passes.0)) r.few) ∣₁;
      })

  settled_ready : (held held' : Option Receipt) (ws : List ℕ) (ps : List P) (c : Core) (stage : CollectStage) → Ready held ws ps c → is_some held' ≡ begun (settles_at c stage).crew.collector.stage →
      Ready held' ws ps (settles_at c stage).crew
  settled_ready held held' ws ps c Idle r e = still held held' ws ps c r e
  settled_ready held held' ws ps c (ScanFirst i best) r e = still held held' ws ps c r e
  settled_ready held held' ws ps c (ScanSecond i bound best) r e = still held held' ws ps c r e
  settled_ready held held' ws ps c (Fetch best) r e = still held held' ws ps c r e
  settled_ready held held' ws ps c (Free best) r e = still held held' ws ps c r e
  settled_ready held held' ws ps c (SeeSlot t best) r e = still held held' ws ps c r e
  settled_ready held held' ws ps c (SeeTail t best v) r e = still held held' ws ps c r e
  settled_ready held held' ws ps c (SeeFront t best v) r e = still held held' ws ps c r e
  settled_ready held held' ws ps c (RefreshSlot t best v f) r e = still held held' ws ps c r e
  settled_ready held held' ws ps c (Ended how) r e =
      record { receipt = e; few = r.few; laid_first = λ h. absurd (both_ways false refl h); room = r.room; ends = λ h. absurd (both_ways false refl h) }

  pub settles_ready : (held held' : Option Receipt) (ws : List ℕ) (ps : List P) (c : Core) → Ready held ws ps c → is_some held' ≡ begun (settles c).crew.collector.stage → Ready held' ws ps (settles c).crew
  settles_ready held held' ws ps c r =
      cond_both (laid c) (settles_at c c.collector.stage) (refuse_crew c 4) (λ o. is_some held' ≡ begun o.crew.collector.stage → Ready held' ws ps o.crew)
      (λ _ e. settled_ready held held' ws ps c c.collector.stage r e)
      (λ _ e. still held held' ws ps c r e)
