-- The single-file order of a log: the operations, put into one order in which each takes effect at one moment between its
-- beginning and its end, as if one after another they had worked on the single file.
--   agrees    what the log knows of an ended operation and of its answer is what the act did
--   belongs   the operation has taken effect, so the order holds it, and with this act
use Rattle.std.specs.Prelude.{◌≡◌, ℕ, ◌≤◌, ◌≢◌, ◌⊎◌, List, []}
use Rattle.std.proofs.Math.Option.{none, some}
use Rattle.std.specs.List.{AllByRecursion}
use Rattle.order.specs.Tables.{In, Pairs}
use Rattle.order.specs.SingleFile.{Act, Did, Frame, Replays, act_of, frame_of}
use Rattle.order.specs.SingleFile.Did.{delivered, empty, full, posted}
use Rattle.order.specs.Events.PostEnd.{as_full, as_posted, as_used_up}
use Rattle.order.specs.Events.CollectEnd.{as_delivered, as_empty}
use Rattle.order.specs.Logs.{Collecting, Ended, Log, Operation, Posting}
use Rattle.order.specs.Logs.Operation.{collect, post}

-- A post that answered posted put in the frame of its lane, of the stamp that it took, which is the stamp it answered, and of
-- its payload. One that answered full took no stamp. One that answered used up did nothing. A collect that answered
-- delivered took out the frame that it fetched, whose lane and stamp it answered. One that answered empty fetched nothing.
abbrev pub Agrees : {P : Type 0} → Operation P → Did P → Type 0
Agrees (post r x (some s) (as_posted k)) did = (posted (frame_of r s x) ≡ did) × (k ≡ s)
Agrees (post r x none (as_posted k)) did = ⊥
Agrees (post r x (some s) as_full) did = ⊥
Agrees (post r x none as_full) did = full r ≡ did
Agrees (post r x s as_used_up) did = ⊥
Agrees (collect (some f) (as_delivered l k)) did = (delivered f ≡ did) × (l ≡ f.lane) × (k ≡ f.stamp)
Agrees (collect none (as_delivered l k)) did = ⊥
Agrees (collect (some f) as_empty) did = ⊥
Agrees (collect none as_empty) did = empty ≡ did

abbrev pub UsedUp : {P : Type 0} → Operation P → Type 0
UsedUp (post r x s (as_posted k)) = ⊥
UsedUp (post r x s as_full) = ⊥
UsedUp (post r x s as_used_up) = Unit {0}
UsedUp (collect f how) = ⊥

module _ {P : Type 0} (ended : List (Ended P)) where
  -- an operation that ended, with an act that agrees
  abbrev pub HasEnded : Act P → Type 0
  HasEnded a = (d : Ended P) × In d ended × (d.began ≡ a.began) × Agrees d.operation a.did

  -- x may stand before y: the operation y has not ended before x began
  abbrev pub MayPrecede : Act P → Act P → Type 0
  MayPrecede x y = AllByRecursion (λ (d : Ended P). d.began ≡ y.began → x.began ≤ d.ended) ended

module _ {P : Type 0} (g : Log P) where
  -- the collect under way, once it has fetched a frame and freed its cell
  abbrev pub HasFetched : Act P → Type 0
  HasFetched a =
      (c : Collecting P) × (f : Frame P) × (g.collecting ≡ some c) × (c.fetched ≡ some f) × (a ≡ act_of c.began (delivered f))

  -- a post under way with a stamp, if a collect of the order delivers its frame
  abbrev pub IsDelivered : List (Act P) → Act P → Type 0
  IsDelivered order a =
      (r : ℕ) × (p : Posting P) × (s : ℕ) × (g.posts r ≡ some p) × (p.stamp ≡ some s)
      × (a ≡ act_of p.began (posted (frame_of r s p.payload)))
      × (c : Act P) × In c order × (c.did ≡ delivered (frame_of r s p.payload))

  abbrev pub Belongs : List (Act P) → Act P → Type 0
  Belongs order a = HasEnded g.ended a ⊎ (HasFetched a ⊎ IsDelivered order a)

-- an ended operation stands in the order with an act that agrees, unless it ended used up
abbrev pub Stands : {P : Type 0} → List (Act P) → Ended P → Type 0
Stands {P} order d = UsedUp d.operation ⊎ ((a : Act P) × In a order × (d.began ≡ a.began) × Agrees d.operation a.did)

-- `left` are the frames that the order posts and does not deliver: what is still to be taken out.
pub record IsOrder {P : Type 0} (cap : ℕ) (g : Log P) (order : List (Act P)) : Type 0 where
  pub left : List (Frame P)
  pub replays : Replays cap [] order left
  pub apart : Pairs (λ (x y : Act P). x.began ≢ y.began) order
  pub real_time : Pairs (MayPrecede g.ended) order
  pub belong : AllByRecursion (Belongs g order) order
  pub whole : (a : Act P) → Belongs g order a → In a order
  pub stand : AllByRecursion (Stands order) g.ended

pub record SingleFileOrder {P : Type 0} (cap : ℕ) (g : Log P) : Type 0 where
  pub order : List (Act P)
  pub is_order : IsOrder cap g order
