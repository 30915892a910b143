-- A post ends by its thirteenth grant: stage by stage, the last first.
use Rattle.std.proofs.Common.{ℕ, ◌+◌, ◌%◌, Bool, cond, eqb, refl}
use Rattle.boards.specs.Words.{stamp_limit}
use Rattle.std.proofs.lemmas.Bool.{cond_both}
use Rattle.line.specs.declared.lane.Attempt.TheVariants.{First, Second}
use Rattle.line.specs.declared.lane.LaneRow.{LaneRow}
use Rattle.line.specs.declared.lane.Next.{Next}
use Rattle.line.specs.declared.lane.Next.TheVariants.{Goes, EndsPosted, EndsFull, EndsUsedUp}
use Rattle.line.specs.declared.lane.Stage.{Stage}
use Rattle.line.specs.declared.lane.Stage.TheVariants.{TestSpace, TakeStamp, FillCell, Look, LoadHead, LoadFront, SwapSlot}
use Rattle.line.specs.Laws.{EndsOrGoesOn, EndsWithin, EachPostEndsByItsThirteenthGrant}
use Rattle.line.specs.Post.{answer_at, row_at}

module _ (k t : ℕ) where
  -- the lane with its post at a stage, after so many grants
  abbrev at : Stage → ℕ → LaneRow
  at stage grants = record { cells = k; tail = t; stage = stage; grants = grants }

  -- what a grant that leads to `next` leaves to show; a test leads to one of two
  abbrev Leads : ℕ → ℕ → Stage → Next → Type 0
  Leads more n stage next = EndsOrGoesOn (answer_at (n + 1) next) (n + 1) (EndsWithin more (n + 1) (row_at (at stage n) t next))

  either : (more n : ℕ) (stage : Stage) (test : Bool) (x y : Next) → Leads more n stage x → Leads more n stage y → Leads more n stage (cond test x y)
  either more n stage test x y p q = cond_both test x y (Leads more n stage) (λ _. p) (λ _. q)

  module _ (s : ℕ) where
    swap_again : (v : ℕ) → EndsWithin 1 12 (at (SwapSlot Second s v) 12)
    swap_again v w = refl

    front_again : (v h : ℕ) → EndsWithin 2 11 (at (LoadFront Second s v h) 11)
    front_again v h w = either 1 11 (LoadFront Second s v h) (eqb w s) (Goes (SwapSlot Second s v)) (EndsPosted s) (swap_again v) refl

    head_again : (v : ℕ) → EndsWithin 3 10 (at (LoadHead Second s v) 10)
    head_again v w = either 2 10 (LoadHead Second s v) (eqb (w % k) t) (EndsPosted s) (Goes (LoadFront Second s v (w % k))) refl (front_again v (w % k))

    look_again : EndsWithin 4 9 (at (Look Second s) 9)
    look_again w = head_again w

    swap : (v : ℕ) → EndsWithin 5 8 (at (SwapSlot First s v) 8)
    swap v w = either 4 8 (SwapSlot First s v) (eqb w 0) (Goes (Look Second s)) (EndsPosted s) look_again refl

    front : (v h : ℕ) → EndsWithin 6 7 (at (LoadFront First s v h) 7)
    front v h w = either 5 7 (LoadFront First s v h) (eqb w s) (Goes (SwapSlot First s v)) (EndsPosted s) (swap v) refl

    head : (v : ℕ) → EndsWithin 7 6 (at (LoadHead First s v) 6)
    head v w = either 6 6 (LoadHead First s v) (eqb (w % k) t) (EndsPosted s) (Goes (LoadFront First s v (w % k))) refl (front v (w % k))

    look : EndsWithin 8 5 (at (Look First s) 5)
    look w = head w

module _ (k t : ℕ) where
  fill : (s : ℕ) → EndsWithin 11 2 (at k t (FillCell s) 2)
  fill s _ _ _ = look k ((t + 1) % k) s

  stamp : EndsWithin 12 1 (at k t TakeStamp 1)
  stamp w = either k t 11 1 TakeStamp (eqb w stamp_limit) EndsUsedUp (Goes (FillCell w)) (refl, refl) (fill w)

  space : EndsWithin 13 0 (at k t TestSpace 0)
  space w = either k t 12 0 TestSpace (eqb (w % k) ((t + 1) % k)) EndsFull (Goes TakeStamp) (refl, refl) stamp

pub each_post_ends_by_its_thirteenth_grant : EachPostEndsByItsThirteenthGrant
each_post_ends_by_its_thirteenth_grant row = space row.cells row.tail
