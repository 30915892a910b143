-- The account: when all is delivered, what went in and what came out is the same, frame by frame, and a report counts it.
--   frames posted      of the posts that answered posted: lane, stamp taken, payload
--   frames delivered   of the collects that answered delivered: the frames that they fetched
-- That the stamps and lanes answered are those of the frames is a part of the single-file order.
use Rattle.std.specs.Prelude.{◌≡◌, ℕ, suc, List, [], ◌∷◌, length}
use Rattle.std.proofs.Math.Option.{none, some}
use Rattle.std.specs.List.{AllByRecursion}
use Rattle.order.specs.Tables.{Once, gather}
use Rattle.order.specs.SingleFile.{Frame, frame_of}
use Rattle.order.specs.Events.PostEnd.{as_full, as_posted, as_used_up}
use Rattle.order.specs.Events.CollectEnd.{as_delivered, as_empty}
use Rattle.order.specs.Logs.{Ended, Log, Operation}
use Rattle.order.specs.Logs.Operation.{collect, post}

module _ {P : Type 0} where
  abbrev pub frame_posted : Operation P → List (Frame P)
  frame_posted (post r x (some s) (as_posted k)) = frame_of r s x ∷ []
  frame_posted (post r x none (as_posted k)) = []
  frame_posted (post r x s as_full) = []
  frame_posted (post r x s as_used_up) = []
  frame_posted (collect f how) = []

  abbrev pub frame_delivered : Operation P → List (Frame P)
  frame_delivered (post r x s how) = []
  frame_delivered (collect f as_empty) = []
  frame_delivered (collect (some f) (as_delivered l k)) = f ∷ []
  frame_delivered (collect none (as_delivered l k)) = []

  abbrev pub frames_posted : List (Ended P) → List (Frame P)
  frames_posted ds = gather (λ d. frame_posted d.operation) ds

  abbrev pub frames_delivered : List (Ended P) → List (Frame P)
  frames_delivered ds = gather (λ d. frame_delivered d.operation) ds

  -- one more if the operation answered posted, or delivered
  abbrev pub and_posted : Operation P → ℕ → ℕ
  and_posted (post r x s (as_posted k)) n = suc n
  and_posted (post r x s as_full) n = n
  and_posted (post r x s as_used_up) n = n
  and_posted (collect f how) n = n

  abbrev pub and_delivered : Operation P → ℕ → ℕ
  and_delivered (post r x s how) n = n
  and_delivered (collect f as_empty) n = n
  and_delivered (collect f (as_delivered l k)) n = suc n

  -- how many posts answered posted, and how many collects delivered
  abbrev pub number_posted : List (Ended P) → ℕ
  number_posted [] = 0
  number_posted (d ∷ ds) = and_posted d.operation (number_posted ds)

  abbrev pub number_delivered : List (Ended P) → ℕ
  number_delivered [] = 0
  number_delivered (d ∷ ds) = and_delivered d.operation (number_delivered ds)

-- Every operation that answered posted or delivered has its frame; every frame posted was delivered once, and every frame
-- delivered was posted once.
pub record Balanced {P : Type 0} (g : Log P) : Type 0 where
  pub all_posted : length (frames_posted g.ended) ≡ number_posted g.ended
  pub all_delivered : length (frames_delivered g.ended) ≡ number_delivered g.ended
  pub each_delivered : AllByRecursion (λ (f : Frame P). Once f (frames_delivered g.ended)) (frames_posted g.ended)
  pub each_posted : AllByRecursion (λ (f : Frame P). Once f (frames_posted g.ended)) (frames_delivered g.ended)

-- if the last call was an accepted report, the frames balance, and its totals are the numbers of posts and collects
abbrev pub Account : {P : Type 0} → Log P → Type 0
Account g = (p d : ℕ) → g.report ≡ some (p, d) → Balanced g × (p ≡ number_posted g.ended) × (d ≡ number_delivered g.ended)
