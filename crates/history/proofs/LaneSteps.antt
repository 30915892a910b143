-- A lane's grant keeps what holds of the lane.
use Rattle.std.proofs.Common.{◌≡◌, ℕ, suc, ◌+◌, ◌%◌, ◌<◌, ◌≤◌, cond, eqb, ◌≢◌, List, [], ◌∷◌, ◌++◌, length, sym, refl, ap, ◌∙◌, mod-lt, arith, length-append}
use native.Mathlib.Nat.{mod-add-mod}
use native.Mathlib.Decide.{dec_lt}
use Rattle.std.specs.List.{AllByRecursion}
use Rattle.std.proofs.lemmas.Bool.{cond_both, eqb-true, eqb-false}
use Rattle.std.proofs.lemmas.Bool.Decides.{nat_tests}
use Rattle.std.proofs.ByRecursion.{All-push, All-weaker}
use Rattle.boards.specs.Words.{stamp_limit}
use Rattle.line.specs.declared.lane.Attempt.{Attempt}
use Rattle.line.specs.declared.lane.Attempt.TheVariants.{First, Second}
use Rattle.line.specs.declared.lane.Stage.{Stage}
use Rattle.line.specs.declared.lane.Stage.TheVariants.{AtRest, TestSpace, TakeStamp, FillCell, MarkCell, Publish, Look, LoadHead, LoadFront, SwapSlot}
use Rattle.order.specs.Tables.{upd}
use Rattle.history.proofs.Slot.{View, SlotOk, Tied}
use Rattle.history.proofs.Slot.Duty.{quiet, head, swap}
use Rattle.history.proofs.Slot.View.{away, kept, looks, seen, swaps}
use Rattle.history.proofs.Lanes.{LaneModel, duty, ends, goes, retries, grant, whole, CellsHold, Ends, Own, StageOk, LaneOk, Timed, waits, front}
use Rattle.history.proofs.Waits.{front_push, all_with_last, waits_all, ends_part}
use Rattle.history.proofs.SlotSteps as slot
use Rattle.history.proofs.Ring.{apart, holds_upd, holds_push, rising_push, ends_push, full_tail}

-- the counter and the clock go on
all_later : (a b : ℕ) (xs : List ℕ) → a ≤ b → AllByRecursion (λ x. x < a) xs → AllByRecursion (λ x. x < b) xs
all_later a b xs h k = All-weaker (λ x. x < a) (λ x. x < b) (λ x g. omega arith) xs k

stage_later : (K counter counter' : ℕ) (L : List ℕ) (n t : ℕ) (cell : ℕ → ℕ) (g : Stage) → counter ≤ counter' → StageOk K counter L n t cell g → StageOk K counter' L n t cell g
stage_later K counter counter' L n t cell AtRest a h = tt
stage_later K counter counter' L n t cell TestSpace a h = tt
stage_later K counter counter' L n t cell TakeStamp a h = h
stage_later K counter counter' L n t cell (FillCell s) a h = record { room = h.room; above = h.above; taken = omega arith }
stage_later K counter counter' L n t cell (MarkCell s) a h = record { room = h.room; above = h.above; taken = omega arith }
stage_later K counter counter' L n t cell (Publish s) a (h, e) = (record { room = h.room; above = h.above; taken = omega arith }, e)
stage_later K counter counter' L n t cell (Look k s) a h = record { last = h.last; taken = omega arith }
stage_later K counter counter' L n t cell (LoadHead k s v) a h = record { last = h.last; taken = omega arith }
stage_later K counter counter' L n t cell (LoadFront k s v p) a (h, i) = (record { last = h.last; taken = omega arith }, i)
stage_later K counter counter' L n t cell (SwapSlot k s v) a h = record { last = h.last; taken = omega arith }

pub whole_part : (R : List ℕ) (v : View) (P : ℕ → Type 0) → AllByRecursion P (whole R v) → AllByRecursion P R
whole_part R away P h = h
whole_part R (kept m) P h = h
whole_part R (looks j m) P h = h.1
whole_part R (seen j m x) P h = h.1
whole_part R (swaps j m x w) P h = h.1

timed_later : (counter now now' : ℕ) (took took' ended : ℕ → ℕ) (W : List ℕ) → now ≤ now' → ((x : ℕ) → x < counter → took' x ≡ took x) → AllByRecursion (λ x. x < counter) W → Timed now took ended W → Timed now' took' ended W
timed_later counter now now' took took' ended [] b w a h = tt
timed_later counter now now' took took' ended (x ∷ W) b w (a, as') (h, hs) = (omega (arith, w x a), timed_later counter now now' took took' ended W b w as' hs)

pub lane_later : (K counter counter' now now' : ℕ) (took took' : ℕ → ℕ) (l : LaneModel) (c : View) → counter ≤ counter' → now ≤ now' → ((x : ℕ) → x < counter → took' x ≡ took x)
    → LaneOk K counter now took l c → LaneOk K counter' now' took' l c
lane_later K counter counter' now now' took took' l c a b w h =
    record {
      small = h.small;
      headed = h.headed;
      tailed = h.tailed;
      holds = h.holds;
      rising = h.rising;
      below = all_later counter counter' _ a h.below;
      stage = stage_later K counter counter' (whole l.ring c) (length l.ring) l.tails l.cell l.stage a h.stage;
      slots = h.slots;
      timed = timed_later counter now now' took took' l.ended (waits l.ring l.stage) b w (waits_all (λ x. x < counter) l.ring l.stage (whole_part l.ring c (λ x. x < counter) h.below)) h.timed;
    }

-- head and tail of the ring: both are cells, and they are the same only if the ring is empty
module _ (K counter now : ℕ) (took : ℕ → ℕ) (l : LaneModel) (c : View) (h : LaneOk K counter now took l c) where
  pub heads_below : l.heads < K
  heads_below = rw h.headed (mod-lt l.freed (omega (arith, h.small)))

  pub tails_below : l.tails < K
  tails_below = rw h.tailed (mod-lt (l.freed + length l.ring) (omega (arith, h.small)))

  pub is_empty : (R : List ℕ) → l.ring ≡ R → l.heads ≡ l.tails → R ≡ []
  is_empty [] e q = refl
  is_empty (x ∷ R) e q =
      let n : length l.ring ≡ suc (length R) = ap length e in
      absurd (apart K l.freed (l.freed + length l.ring) (omega arith) (omega (arith, h.small)) (cc))

module _ (K counter now : ℕ) (took : ℕ → ℕ) (ticks : (x : ℕ) → x < counter → took x < now) (top : counter ≤ stamp_limit) (l : LaneModel) (c : View) where
  later : (W : List ℕ) → Timed now took l.ended W → Timed (suc now) took l.ended W
  later W u = All-weaker (λ x. (took x < l.ended x) × (l.ended x < now)) (λ x. (took x < l.ended x) × (l.ended x < suc now)) (λ x k. omega arith) W u

  -- a step to another stage
  pub lane_goes : (g : Stage) → LaneOk K counter now took l c → StageOk K counter (whole l.ring c) (length l.ring) l.tails l.cell g
      → SlotOk l.ring l.slot (duty l.cell g) c → Timed now took l.ended (waits l.ring g) → LaneOk K counter (suc now) took (goes l g) c
  lane_goes g h a b u =
      record { small = h.small; headed = h.headed; tailed = h.tailed; holds = h.holds; rising = h.rising; below = h.below; stage = a; slots = b; timed = later _ u }

  -- the end of a post
  lane_ends : (s σ : ℕ) → Own counter s (whole l.ring c) → Timed now took l.ended (front l.ring) → LaneOk K counter now took l c → SlotOk l.ring σ quiet c → LaneOk K counter (suc now) took (ends l now s σ) c
  lane_ends s σ a u h b =
      record { small = h.small; headed = h.headed; tailed = h.tailed; holds = h.holds; rising = h.rising; below = h.below; stage = tt; slots = b; timed = all_with_last _ s l.ring (ends_part s l.ring c a.last) (All-weaker (λ x. (took x < l.ended x) × (l.ended x < now)) _ (λ x k. grind (arith, nat_tests, ticks s a.taken)) (front l.ring) u) (grind (arith, nat_tests, ticks s a.taken)) }

  -- the own stamp and the freed one
  own_and_freed : (s : ℕ) (R : List ℕ) (v : View) → Ends s (whole R v) → Tied R s v
  own_and_freed s R v h = grind arith

  -- the own frame comes first only if it is alone
  own_first_is_alone : (s x : ℕ) (R : List ℕ) (v : View) → Ends s (whole (x ∷ R) v) → x ≡ s → x ∷ R ≡ s ∷ []
  own_first_is_alone s x [] v h e = cc
  own_first_is_alone s x (y ∷ R) v h e = grind arith

  whole_push : (s : ℕ) (R : List ℕ) (v : View) → whole (R ++ s ∷ []) v ≡ whole R v ++ s ∷ []
  whole_push s R v = grind arith

  module _ (h : LaneOk K counter now took l c) where
    head_loaded : (R : List ℕ) (s v : ℕ) (k : Attempt) → l.ring ≡ R → l.heads ≢ l.tails → Ends s (whole R c)
        → SlotOk R l.slot (head k s v) c → SlotOk R l.slot (cond (eqb (l.cell l.heads) s) (swap k s v) quiet) c
    head_loaded [] s v k e n w b =
        let z : length l.ring ≡ 0 = ap length e in
        let q : l.freed + length l.ring ≡ l.freed = omega arith in
        absurd (n (cc (h.headed, h.tailed)))
    head_loaded (x ∷ R) s v k e n w b =
        let (o, _) : CellsHold K l.cell l.freed (x ∷ R) = rw e at h.holds in
        let is : l.cell l.heads ≡ x = cc in
        cond_both (eqb (l.cell l.heads) s) (swap k s v) quiet (λ g. SlotOk (x ∷ R) l.slot g c)
        (λ y. let q = own_first_is_alone s x R c w (sym is ∙ eqb-true _ _ y) in rw q (slot.alone _ s v k c (rw q at b)))
        (λ y. slot.gone (x ∷ R) l.slot s v k c (λ q. eqb-false _ _ y (cc)) b)

    space_left : l.heads ≢ (l.tails + 1) % K → suc (length l.ring) < K
    space_left n =
        elim (dec_lt (suc (length l.ring)) K) [
          | yes y ↦ y
          | no y ↦ let z : suc (length l.ring) ≡ K = omega (arith, h.small) in
              let f = full_tail K l.freed (length l.ring) z in
              absurd (n (cc (h.headed, h.tailed)))
        ]

    pub lane_granted : (g : Stage) → StageOk K counter (whole l.ring c) (length l.ring) l.tails l.cell g → SlotOk l.ring l.slot (duty l.cell g) c → Timed now took l.ended (waits l.ring g)
        → g ≢ TakeStamp → LaneOk K counter (suc now) took (grant K now l g) c
    lane_granted AtRest a b u n = lane_later K counter counter now (suc now) took took l c (omega arith) (omega arith) (λ x e. refl) h
    lane_granted TestSpace a b u n = cond_both (eqb l.heads ((l.tails + 1) % K)) _ _ (λ z. LaneOk K counter (suc now) took z c) (λ y. lane_goes AtRest h tt b u) (λ y. lane_goes TakeStamp h (space_left (eqb-false _ _ y)) b u)
    lane_granted TakeStamp a b u n = absurd (n refl)
    lane_granted (FillCell s) a b u n = lane_goes (MarkCell s) h a b u
    lane_granted (MarkCell s) a b u n =
        record {
          small = h.small;
          headed = h.headed;
          tailed = h.tailed;
          holds = rw h.tailed (holds_upd K l.freed (l.freed + length l.ring) s l.cell l.ring (omega arith) (omega (arith, h.small)) h.holds);
          rising = h.rising;
          below = h.below;
          stage = (a, grind (arith, nat_tests));
          slots = b;
          timed = later _ u;
        }
    lane_granted (Publish s) (a, o) b u n =
        let e : length (l.ring ++ s ∷ []) ≡ suc (length l.ring) = simp length-append (omega arith) in
        record {
          small = omega (arith, a.room);
          headed = h.headed;
          tailed =
              let q : l.freed + length l.ring + 1 ≡ l.freed + length (l.ring ++ s ∷ []) = omega arith in
              cc (h.tailed, mod-add-mod (l.freed + length l.ring) K 1);
          holds = holds_push K l.freed s l.cell l.ring (rw h.tailed at o) h.holds;
          rising = rw (whole_push s l.ring c) (rising_push s _ a.above h.rising);
          below = rw (whole_push s l.ring c) (All-push (λ x. x < counter) _ s h.below a.taken);
          stage = record { last = rw (whole_push s l.ring c) (ends_push s _ a.above); taken = a.taken };
          slots = slot.published _ _ s c b;
          timed = later _ (rw (front_push s l.ring) u);
        }
    lane_granted (Look k s) a b u n = lane_goes (LoadHead k s l.slot) h a (slot.looked _ _ s k c b) u
    lane_granted (LoadHead k s v) a b u n = cond_both (eqb l.heads l.tails) _ _ (λ z. LaneOk K counter (suc now) took z c)
        (λ y. lane_ends s l.slot a u h (slot.gone _ _ s v k c (λ q. let z = is_empty K counter now took l c h l.ring refl (eqb-true _ _ y) in grind arith) b))
        (λ y. lane_goes (LoadFront k s v l.heads) h (a, heads_below K counter now took l c h) (head_loaded l.ring s v k refl (eqb-false _ _ y) a.last b) u)
    lane_granted (LoadFront k s v p) (a, i) b u n = cond_both (eqb (l.cell p) s) _ _ (λ z. LaneOk K counter (suc now) took z c)
        (λ y. lane_goes (SwapSlot k s v) h a (rw y at b) u)
        (λ y. lane_ends s l.slot a u h (rw y at b))
    lane_granted (SwapSlot k s v) a b u n = cond_both (eqb l.slot v) _ _ (λ z. LaneOk K counter (suc now) took z c)
        (λ y. lane_ends s s a u h (slot.won _ s v k c (omega (arith, a.taken, top)) (own_and_freed s l.ring c a.last) (rw (eqb-true _ _ y) at b)))
        (λ y. again k (eqb-false _ _ y) b)
      where
        again : (j : Attempt) → (l.slot ≡ v → ⊥) → SlotOk l.ring l.slot (swap j s v) c → LaneOk K counter (suc now) took (retries l now s j) c
        again First f b = lane_goes (Look Second s) h a (slot.lost _ _ s v c f b) u
        again Second f b = lane_ends s l.slot a u h (slot.lost_again _ _ s v c f b)

    pub stamp_taken : l.stage ≡ TakeStamp → counter < stamp_limit → LaneOk K (suc counter) (suc now) (upd took counter now) (goes l (FillCell counter)) c
    stamp_taken e r =
        let p = lane_later K counter (suc counter) now (suc now) took (upd took counter now) l c (omega arith) (omega arith) (λ x q. grind (arith, nat_tests)) h in
        record {
          small = h.small;
          headed = h.headed;
          tailed = h.tailed;
          holds = h.holds;
          rising = h.rising;
          below = p.below;
          stage = record { room = rw e at h.stage; above = h.below; taken = omega arith };
          slots = rw e at h.slots;
          timed = rw e at p.timed;
        }
