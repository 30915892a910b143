-- A collect over n lanes ends by grant 2n + 9: stage by stage, the last first.
use Rattle.std.proofs.Common.{◌≡◌, ℕ, zero, suc, ◌+◌, ◌-◌, ◌*◌, ◌%◌, ◌<◌, ◌≤◌, Bool, cond, eqb, ltb, List, refl, subst, add-one, arith}
use Rattle.boards.specs.Words.{empty_word}
use Rattle.std.proofs.lemmas.Bool.{cond_both, eqb-false, ltb-true, ltb-false}
use Rattle.line.specs.declared.access.Shape.{Shape}
use Rattle.line.specs.declared.answer.CollectorAnswer.{CollectorAnswer}
use Rattle.line.specs.declared.answer.CollectorAnswer.TheVariants.{On, Ended as EndsNow}
use Rattle.line.specs.declared.collector.Collected.TheVariants.{Empty, Delivered}
use Rattle.line.specs.declared.collector.CollectNext.{CollectNext}
use Rattle.line.specs.declared.collector.CollectNext.TheVariants.{Goes, EndsEmpty, EndsDelivered}
use Rattle.line.specs.declared.collector.CollectStage.TheVariants.{ScanFirst, ScanSecond, Fetch, Free, SeeSlot, SeeTail, SeeFront, RefreshSlot}
use Rattle.line.specs.declared.collector.Collector.{Collector}
use Rattle.line.specs.declared.collector.Kept.{Kept}
use Rattle.line.specs.declared.lane.Attempt.TheVariants.{First, Second}
use Rattle.line.specs.Collect.{better, collect_answer_at, collector, collector_at, collector_next, head_of, heads_after, kept}
use Rattle.line.specs.Laws.{CollectEndsOrGoesOn, CollectEndsWithin, Each-collect-ends-by-grant-2n+9}
use Rattle.line.specs.Post.{one_more}

-- what is left to show may be weakened
onwards : (a : CollectorAnswer) (n m : ℕ) (X Y : Type 0) → (X → Y) → CollectEndsOrGoesOn a n m X → CollectEndsOrGoesOn a n m Y
onwards On n m X Y f h = f h
onwards (EndsNow (Empty g)) n m X Y f h = h
onwards (EndsNow (Delivered l s g)) n m X Y f h = h

-- one grant more, of few
counted : (g m : ℕ) → g ≡ m → m < 100 → one_more g ≡ suc m
counted g m e few = omega arith

module _ (s : Shape) where
  longer : (a b m : ℕ) (heads : List ℕ) (k : Collector) → a ≤ b → CollectEndsWithin a m s heads k → CollectEndsWithin b m s heads k
  longer zero b m heads k le h = absurd h
  longer (suc a) zero m heads k le h = absurd (omega arith)
  longer (suc a) (suc b) m heads k le h = λ w.
      let next = collector_next s heads k.stage w in
      onwards (collect_answer_at (one_more k.grants) next) s.lanes (suc m) _ _
      (longer a b (suc m) (heads_after s heads k.stage) (collector_at (one_more k.grants) next) (omega arith)) (h w)

  -- what a grant at a stage that leads to `next` leaves to show
  abbrev Leads : ℕ → ℕ → ℕ → List ℕ → CollectNext → Type 0
  Leads more g m heads next = CollectEndsOrGoesOn (collect_answer_at (one_more g) next) s.lanes (suc m) (CollectEndsWithin more (suc m) s heads (collector_at (one_more g) next))

  either : (more g m : ℕ) (heads : List ℕ) (test : Bool) (x y : CollectNext) → Leads more g m heads x → Leads more g m heads y → Leads more g m heads (cond test x y)
  either more g m heads test x y p q = cond_both test x y (Leads more g m heads) (λ _. p) (λ _. q)

  module _ (best : Kept) where
    swap_again : (g m v f : ℕ) (heads : List ℕ) → g ≡ m → m < 99 → CollectEndsWithin 1 m s heads (collector (RefreshSlot Second best v f) g)
    swap_again g m v f heads e few w = counted g m e (omega arith)

    front_again : (g m v : ℕ) (heads : List ℕ) → g ≡ m → m < 98 → CollectEndsWithin 2 m s heads (collector (SeeFront Second best v) g)
    front_again g m v heads e few w = swap_again (one_more g) (suc m) v w heads (counted g m e (omega arith)) (omega arith)

    tail_again : (g m v : ℕ) (heads : List ℕ) → g ≡ m → m < 97 → CollectEndsWithin 3 m s heads (collector (SeeTail Second best v) g)
    tail_again g m v heads e few w =
        let e' = counted g m e (omega arith) in
        either 2 g m heads (eqb (w % s.cells) (head_of heads best.lane)) (Goes (RefreshSlot Second best v empty_word)) (Goes (SeeFront Second best v))
        (longer 1 2 (suc m) heads (collector (RefreshSlot Second best v empty_word) (one_more g)) (omega arith) (swap_again (one_more g) (suc m) v empty_word heads e' (omega arith)))
        (front_again (one_more g) (suc m) v heads e' (omega arith))

    slot_again : (g m : ℕ) (heads : List ℕ) → g ≡ m → m < 96 → CollectEndsWithin 4 m s heads (collector (SeeSlot Second best) g)
    slot_again g m heads e few w = tail_again (one_more g) (suc m) w heads (counted g m e (omega arith)) (omega arith)

    swap : (g m v f : ℕ) (heads : List ℕ) → g ≡ m → m < 95 → CollectEndsWithin 5 m s heads (collector (RefreshSlot First best v f) g)
    swap g m v f heads e few w =
        let e' = counted g m e (omega arith) in
        either 4 g m heads (eqb w 0) (Goes (SeeSlot Second best)) (EndsDelivered best) (slot_again (one_more g) (suc m) heads e' (omega arith)) e'

    front : (g m v : ℕ) (heads : List ℕ) → g ≡ m → m < 94 → CollectEndsWithin 6 m s heads (collector (SeeFront First best v) g)
    front g m v heads e few w = swap (one_more g) (suc m) v w heads (counted g m e (omega arith)) (omega arith)

    tail : (g m v : ℕ) (heads : List ℕ) → g ≡ m → m < 93 → CollectEndsWithin 7 m s heads (collector (SeeTail First best v) g)
    tail g m v heads e few w =
        let e' = counted g m e (omega arith) in
        either 6 g m heads (eqb (w % s.cells) (head_of heads best.lane)) (Goes (RefreshSlot First best v empty_word)) (Goes (SeeFront First best v))
        (longer 5 6 (suc m) heads (collector (RefreshSlot First best v empty_word) (one_more g)) (omega arith) (swap (one_more g) (suc m) v empty_word heads e' (omega arith)))
        (front (one_more g) (suc m) v heads e' (omega arith))

    slot : (g m : ℕ) (heads : List ℕ) → g ≡ m → m < 92 → CollectEndsWithin 8 m s heads (collector (SeeSlot First best) g)
    slot g m heads e few w = tail (one_more g) (suc m) w heads (counted g m e (omega arith)) (omega arith)

    free : (g m : ℕ) (heads : List ℕ) → g ≡ m → m < 91 → CollectEndsWithin 9 m s heads (collector (Free best) g)
    free g m heads e few w = slot (one_more g) (suc m) (heads_after s heads (Free best)) (counted g m e (omega arith)) (omega arith)

    fetch : (g m : ℕ) (heads : List ℕ) → g ≡ m → m < 90 → CollectEndsWithin 10 m s heads (collector (Fetch best) g)
    fetch g m heads e few w = free (one_more g) (suc m) heads (counted g m e (omega arith)) (omega arith)

  -- d slots of the second scan are left after this one
  abbrev second_left : ℕ → ℕ
  second_left zero = 11
  second_left (suc d) = suc (second_left d)

  second_left_is : (d : ℕ) → second_left d ≡ d + 11
  second_left_is zero = refl
  second_left_is (suc d) = omega (arith, second_left_is d)

  second : (d g m i bound : ℕ) (best : Kept) (heads : List ℕ) → bound ≡ i + suc d → g ≡ m → m + d < 80 → CollectEndsWithin (second_left d) m s heads (collector (ScanSecond i bound best) g)
  second zero g m i bound best heads e n few = λ w.
      let best' = better i w best in
      cond_both (ltb (i + 1) bound) (Goes (ScanSecond (i + 1) bound best')) (Goes (Fetch best')) (Leads 10 g m heads)
      (λ t. absurd (omega (arith, ltb-true (i + 1) bound t)))
      (λ t. fetch best' (one_more g) (suc m) heads (counted g m n (omega arith)) (omega arith))
  second (suc d) g m i bound best heads e n few = λ w.
      let best' = better i w best in
      let n' = counted g m n (omega arith) in
      either (second_left d) g m heads (ltb (i + 1) bound) (Goes (ScanSecond (i + 1) bound best')) (Goes (Fetch best'))
      (second d (one_more g) (suc m) (i + 1) bound best' heads (omega arith) n' (omega arith))
      (longer 10 (second_left d) (suc m) heads (collector (Fetch best') (one_more g)) (omega (arith, second_left_is d)) (fetch best' (one_more g) (suc m) heads n' (omega arith)))

  -- d slots of the first scan are left after this one
  abbrev first_left : ℕ → ℕ
  first_left zero = suc (s.lanes + 9)
  first_left (suc d) = suc (first_left d)

  first_left_is : (d : ℕ) → first_left d ≡ d + s.lanes + 10
  first_left_is zero = omega arith
  first_left_is (suc d) = omega (arith, first_left_is d)

  -- after the last slot of the first scan
  scanned : (g i : ℕ) (best : Kept) (heads : List ℕ) → s.lanes ≡ i + 1 → best.lane ≤ i → s.lanes ≤ 16 → g ≡ i →
      Leads (s.lanes + 9) g i heads (cond (eqb best.stamp empty_word) EndsEmpty (cond (eqb best.lane 0) (Goes (Fetch best)) (Goes (ScanSecond 0 best.lane best))))
  scanned g i best heads last below few n =
      let n' = counted g i n (omega arith) in
      either (s.lanes + 9) g i heads (eqb best.stamp empty_word) EndsEmpty (cond (eqb best.lane 0) (Goes (Fetch best)) (Goes (ScanSecond 0 best.lane best))) (n', omega arith)
      (cond_both (eqb best.lane 0) (Goes (Fetch best)) (Goes (ScanSecond 0 best.lane best)) (Leads (s.lanes + 9) g i heads)
      (λ _. longer 10 (s.lanes + 9) (suc i) heads (collector (Fetch best) (one_more g)) (omega arith) (fetch best (one_more g) (suc i) heads n' (omega arith)))
      (λ t.
      let above : best.lane ≡ 0 → ⊥ = eqb-false best.lane 0 t in
      let d : ℕ = best.lane - 1 in
      longer (second_left d) (s.lanes + 9) (suc i) heads (collector (ScanSecond 0 best.lane best) (one_more g)) (omega (arith, second_left_is d))
      (second d (one_more g) (suc i) 0 best.lane best heads (omega arith) n' (omega arith))))

  -- the lane kept is one of those seen
  kept_below : (i w : ℕ) (best : Kept) → best.lane ≤ i → (better i w best).lane ≤ i
  kept_below i w best h = cond_both (ltb w best.stamp) (kept i w) best (λ k. k.lane ≤ i) (λ _. omega arith) (λ _. h)

  first : (d g i : ℕ) (best : Kept) (heads : List ℕ) → s.lanes ≡ i + suc d → best.lane ≤ i → s.lanes ≤ 16 → g ≡ i → CollectEndsWithin (first_left d) i s heads (collector (ScanFirst i best) g)
  first zero g i best heads e below few n = λ w.
      let best' = better i w best in
      cond_both (ltb (i + 1) s.lanes) (Goes (ScanFirst (i + 1) best')) (cond (eqb best'.stamp empty_word) EndsEmpty (cond (eqb best'.lane 0) (Goes (Fetch best')) (Goes (ScanSecond 0 best'.lane best')))) (Leads (s.lanes + 9) g i heads)
      (λ t. absurd (omega (arith, ltb-true (i + 1) s.lanes t)))
      (λ _. scanned g i best' heads (omega arith) (kept_below i w best below) few n)
  first (suc d) g i best heads e below few n = λ w.
      let best' = better i w best in
      let low : best'.lane ≤ i + 1 = omega (arith, kept_below i w best below) in
      cond_both (ltb (i + 1) s.lanes) (Goes (ScanFirst (i + 1) best')) (cond (eqb best'.stamp empty_word) EndsEmpty (cond (eqb best'.lane 0) (Goes (Fetch best')) (Goes (ScanSecond 0 best'.lane best')))) (Leads (first_left d) g i heads)
      (λ _. subst (λ m. CollectEndsWithin (first_left d) m s heads (collector (ScanFirst (i + 1) best') (one_more g))) (add-one i)
      (first d (one_more g) (i + 1) best' heads (omega arith) low few (omega (arith, counted g i n (omega arith)))))
      (λ t. absurd (omega (arith, ltb-false (i + 1) s.lanes t)))

pub each-collect-ends-by-grant-2n+9 : Each-collect-ends-by-grant-2n+9
each-collect-ends-by-grant-2n+9 s heads some few =
    let d : ℕ = s.lanes - 1 in
    longer s (first_left s d) (2 * s.lanes + 9) 0 heads (collector (ScanFirst 0 (kept 0 empty_word)) 0) (omega (arith, first_left_is s d))
    (first s d 0 0 (kept 0 empty_word) heads (omega arith) (omega arith) few refl)
