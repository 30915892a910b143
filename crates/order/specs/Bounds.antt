-- Bounds on grants: every operation ends within a number of grants that is fixed beforehand.
--   most     the bound
--   within   an ended operation had at most so many grants
--   below    the operation under way, if there is one, had fewer, so that one more grant may end it
use Rattle.std.specs.Prelude.{ℕ, ◌<◌, ◌≤◌}
use Rattle.std.proofs.Math.Option.{Option, none, some}
use Rattle.std.specs.List.{AllByRecursion}
use Rattle.order.specs.Logs.{Collecting, Ended, Log, Operation, Posting}
use Rattle.order.specs.Logs.Operation.{collect, post}

-- n grants, of an operation that is a post, or a collect
abbrev pub PostWithin : {P : Type 0} → ℕ → ℕ → Operation P → Type 0
PostWithin most n (post r x s how) = n ≤ most
PostWithin most n (collect f how) = Unit {0}

abbrev pub CollectWithin : {P : Type 0} → ℕ → ℕ → Operation P → Type 0
CollectWithin most n (post r x s how) = Unit {0}
CollectWithin most n (collect f how) = n ≤ most

abbrev pub PostBelow : {P : Type 0} → ℕ → Option (Posting P) → Type 0
PostBelow most none = Unit {0}
PostBelow most (some p) = p.grants < most

abbrev pub CollectBelow : {P : Type 0} → ℕ → Option (Collecting P) → Type 0
CollectBelow most none = Unit {0}
CollectBelow most (some c) = c.grants < most

-- every ended post had at most so many grants, and every post under way fewer; and so for collects
pub record PostsEndBy {P : Type 0} (most : ℕ) (g : Log P) : Type 0 where
  pub ended : AllByRecursion (λ (d : Ended P). PostWithin most d.grants d.operation) g.ended
  pub under_way : (r : ℕ) → PostBelow most (g.posts r)

pub record CollectsEndBy {P : Type 0} (most : ℕ) (g : Log P) : Type 0 where
  pub ended : AllByRecursion (λ (d : Ended P). CollectWithin most d.grants d.operation) g.ended
  pub under_way : CollectBelow most g.collecting
