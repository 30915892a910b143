-- When a receipt is handed out, and when it is spent.
use Rattle.std.proofs.Common.{◌≡◌, ℕ, Bool, true, false, cond, not, sym, refl, ap, ◌∙◌, arith}
use Rattle.std.proofs.lemmas.Bool.{both_ways, cond_both, not-true}
use Rattle.line.specs.Answers.{collected_told, refusal_number}
use Rattle.line.specs.Calls.{CrewOutcome, begins_collect, laid, refuse_crew, settles, settles_at}
use Rattle.line.specs.Collect.{begun}
use Rattle.line.specs.declared.answer.Refusal.{Refusal}
use Rattle.line.specs.declared.answer.Refusal.TheVariants.{BadShape, BadStart, TooShort, NeverLaid, NoLane, PostUnderWay, NoPost, CollectUnsettled, NoCollect, CollectNotEnded, NotDone}
use Rattle.line.specs.declared.collector.Collected.{Collected}
use Rattle.line.specs.declared.collector.Collected.TheVariants.{Empty, Delivered}
use Rattle.line.specs.declared.collector.CollectStage.{CollectStage}
use Rattle.line.specs.declared.collector.CollectStage.TheVariants.{Idle, ScanFirst, ScanSecond, Fetch, Free, SeeSlot, SeeTail, SeeFront, RefreshSlot, Ended}
use Rattle.line.specs.declared.crew.Core.{Core}

-- no refusal has the number 0
pub refused_above_0 : (e : Refusal) → refusal_number e ≡ 0 → ⊥
refused_above_0 BadShape h = omega arith
refused_above_0 BadStart h = omega arith
refused_above_0 TooShort h = omega arith
refused_above_0 NeverLaid h = omega arith
refused_above_0 NoLane h = omega arith
refused_above_0 PostUnderWay h = omega arith
refused_above_0 NoPost h = omega arith
refused_above_0 CollectUnsettled h = omega arith
refused_above_0 NoCollect h = omega arith
refused_above_0 CollectNotEnded h = omega arith
refused_above_0 NotDone h = omega arith

-- how a collect ended is told with the number 0
pub collected_0 : (how : Collected) → (collected_told how).number ≡ 0
collected_0 (Empty g) = refl
collected_0 (Delivered l s g) = refl

-- told 0, a call changed whether a collect is begun from one to the other; told a refusal, it changed nothing
pub record Turns (from to : Bool) (c : Core) (o : CrewOutcome) : Type 0 where
  pub was : o.answer.number ≡ 0 → begun c.collector.stage ≡ from
  pub is : o.answer.number ≡ 0 → begun o.crew.collector.stage ≡ to
  pub same : (o.answer.number ≡ 0 → ⊥) → o.crew ≡ c

refusal_turns : (from to : Bool) (c : Core) (n : ℕ) → (n ≡ 0 → ⊥) → Turns from to c (refuse_crew c n)
refusal_turns from to c n h = record { was = λ e. absurd (h e); is = λ e. absurd (h e); same = λ _. refl }

pub begin_turns : (c : Core) → Turns false true c (begins_collect c)
begin_turns c =
    cond_both (laid c) _ (refuse_crew c 4) (Turns false true c)
    (λ _. cond_both (not (begun c.collector.stage)) _ (refuse_crew c 10) (Turns false true c)
    (λ h. record { was = λ _. not-true (begun c.collector.stage) h; is = λ _. refl; same = λ no_way. absurd (no_way refl) })
    (λ _. refusal_turns false true c 10 (λ e. omega arith)))
    (λ _. refusal_turns false true c 4 (λ e. omega arith))

settles_at_turns : (c : Core) (stage : CollectStage) → c.collector.stage ≡ stage → Turns true false c (settles_at c stage)
settles_at_turns c Idle e = refusal_turns true false c 11 (λ z. omega arith)
settles_at_turns c (ScanFirst i best) e = refusal_turns true false c 12 (λ z. omega arith)
settles_at_turns c (ScanSecond i bound best) e = refusal_turns true false c 12 (λ z. omega arith)
settles_at_turns c (Fetch best) e = refusal_turns true false c 12 (λ z. omega arith)
settles_at_turns c (Free best) e = refusal_turns true false c 12 (λ z. omega arith)
settles_at_turns c (SeeSlot t best) e = refusal_turns true false c 12 (λ z. omega arith)
settles_at_turns c (SeeTail t best v) e = refusal_turns true false c 12 (λ z. omega arith)
settles_at_turns c (SeeFront t best v) e = refusal_turns true false c 12 (λ z. omega arith)
settles_at_turns c (RefreshSlot t best v f) e = refusal_turns true false c 12 (λ z. omega arith)
settles_at_turns c (Ended (Empty g)) e = record { was = λ _. ap begun e; is = λ _. refl; same = λ no_way. absurd (no_way refl) }
settles_at_turns c (Ended (Delivered l s g)) e = record { was = λ _. ap begun e; is = λ _. refl; same = λ no_way. absurd (no_way refl) }

pub settle_turns : (c : Core) → Turns true false c (settles c)
settle_turns c =
    cond_both (laid c) (settles_at c c.collector.stage) (refuse_crew c 4) (Turns true false c)
    (λ _. settles_at_turns c c.collector.stage refl)
    (λ _. refusal_turns true false c 4 (λ e. omega arith))

-- with no collect begun, a settling is refused with 11, or with 4 where no line is laid
pub settle_refused : (c : Core) → begun c.collector.stage ≡ false → settles c ≡ refuse_crew c (cond (laid c) 11 4)
settle_refused c idle =
    cond_both (laid c) (settles_at c c.collector.stage) (refuse_crew c 4) (λ o. o ≡ refuse_crew c (cond (laid c) 11 4))
    (λ h. at_idle c.collector.stage idle ∙ ap (λ t. refuse_crew c (cond t 11 4)) (sym h))
    (λ h. ap (λ t. refuse_crew c (cond t 11 4)) (sym h))
  where
    at_idle : (stage : CollectStage) → begun stage ≡ false → settles_at c stage ≡ refuse_crew c 11
    at_idle Idle h = refl
    at_idle (ScanFirst i best) h = absurd (both_ways true h refl)
    at_idle (ScanSecond i bound best) h = absurd (both_ways true h refl)
    at_idle (Fetch best) h = absurd (both_ways true h refl)
    at_idle (Free best) h = absurd (both_ways true h refl)
    at_idle (SeeSlot t best) h = absurd (both_ways true h refl)
    at_idle (SeeTail t best v) h = absurd (both_ways true h refl)
    at_idle (SeeFront t best v) h = absurd (both_ways true h refl)
    at_idle (RefreshSlot t best v f) h = absurd (both_ways true h refl)
    at_idle (Ended how) h = absurd (both_ways true h refl)
