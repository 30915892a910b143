-- The invariant of the order: a front that is settled for good, and a back whose items lie in the order of their times.
-- It speaks of the operations that ended, of the book, and of an order that is kept beside them.
--   settled      ended; or a collect that holds a frame; or a post whose frame is gone: these stand in the order
--   owner        begin time ↦ who began then: 0 the collector, suc r lane r; it keeps begin times apart
use Rattle.std.proofs.Common.{◌≡◌, ℕ, suc, ◌+◌, ◌<◌, ◌≤◌, ◌≢◌, ◌⊎◌, List, [], ◌∷◌, ◌++◌, length}
use Rattle.std.specs.List.{AllByRecursion}
use Rattle.order.specs.Tables.{In, Pairs}
use Rattle.order.specs.SingleFile.{Act, Frame, Replays, act_of, frame_of}
use Rattle.order.specs.SingleFile.Did.{delivered, posted}
use Rattle.order.specs.Logs.{Ended}
use Rattle.order.specs.Orders.{HasEnded, MayPrecede}
use Rattle.order.specs.Books.{Book, Collect, Post, Waiting}
use Rattle.order.specs.Books.Post.{begun, gone, idle, stamped}
use Rattle.order.specs.Books.Collect.{at_rest, holding, looking}
use Rattle.order.proofs.Backs.{Item, act_at, acts, deliveries, fetched_after, since, standing_of}
use Rattle.order.proofs.Backs.Item.{fetch, refused, standing}
use Rattle.order.proofs.Levels.{Levels}

-- of an item: it has its place after t. Of an act and of an ended operation: it began before t; it did not begin at b
abbrev pub After : {P : Type 0} → ℕ → Item P → Type 0
After t j = t < since j

abbrev pub BegunBefore : {P : Type 0} → ℕ → Act P → Type 0
BegunBefore t a = a.began < t

abbrev pub EarlierThan : {P : Type 0} → ℕ → Ended P → Type 0
EarlierThan t d = d.began < t

abbrev pub NotBegunAt : {P : Type 0} → ℕ → Act P → Type 0
NotBegunAt b a = a.began ≢ b

abbrev pub EndedOther : {P : Type 0} → ℕ → Ended P → Type 0
EndedOther b d = d.began ≢ b

-- x may stand before y, and they are not the same operation
abbrev pub Before : {P : Type 0} → List (Ended P) → Act P → Act P → Type 0
Before ds x y = (x.began ≢ y.began) × MayPrecede ds x y

-- the operations under way that stand in the order, as the book knows them
abbrev pub IsHeld : {P : Type 0} → Collect P → Act P → Type 0
IsHeld {P} c a = (b : ℕ) × (f : Frame P) × (c ≡ holding b f) × (a ≡ act_of b (delivered f))

abbrev pub IsGone : {P : Type 0} → (ℕ → Post P) → Act P → Type 0
IsGone {P} posts a = (r : ℕ) × (b : ℕ) × (x : P) × (s : ℕ) × (posts r ≡ gone b x s) × (a ≡ act_of b (posted (frame_of r s x)))

abbrev pub Settled : {P : Type 0} → List (Ended P) → Book P → Act P → Type 0
Settled ds book a = HasEnded ds a ⊎ (IsHeld book.collect a ⊎ IsGone book.posts a)

-- the first item of the back waits
abbrev pub FirstStands : {P : Type 0} → List (Item P) → Type 0
FirstStands [] = Unit {0}
FirstStands (standing w ∷ is) = Unit {0}
FirstStands (refused b r u ∷ is) = ⊥
FirstStands (fetch b f u ∷ is) = ⊥

-- a full post that stands before a waiting one of the same lane ended before that one began
abbrev pub RefusedApart : {P : Type 0} → Item P → Item P → Type 0
RefusedApart (standing v) j = Unit {0}
RefusedApart (refused b r u) (standing w) = w.frame.lane ≡ r → u < w.began
RefusedApart (refused b r u) (refused c l v) = Unit {0}
RefusedApart (refused b r u) (fetch c f v) = Unit {0}
RefusedApart (fetch b f u) j = Unit {0}

abbrev pub Sorted : {P : Type 0} → Item P → Item P → Type 0
Sorted i j = (since i < since j) × RefusedApart i j

-- the times of an item lie in their order, before now
abbrev pub Timed : {P : Type 0} → ℕ → Item P → Type 0
Timed now (standing w) = (w.began < w.take) × (w.take < w.end) × (w.end < now)
Timed now (refused b r u) = (b < u) × (u < now)
Timed now (fetch b f u) = (b < u) × (u < now)

-- if the item's operation has ended, then not before the time that gives it its place
abbrev pub EndsLate : {P : Type 0} → List (Ended P) → Item P → Type 0
EndsLate {P} ds i = AllByRecursion (λ (d : Ended P). d.began ≡ (act_at i).began → since i ≤ d.ended) ds

-- the waiting frames of lane r, from the i-th on: those older than w and those freed since w took its stamp leave w room
abbrev pub Room : {P : Type 0} → ℕ → ℕ → List (Item P) → ℕ → List (Waiting P) → Type 0
Room cap r back i [] = Unit {0}
Room cap r back i (w ∷ ws) = (fetched_after r w.take back + i < cap) × Room cap r back (suc i) ws

-- full posts of lane r, and collects, have their place before the time b
abbrev pub RefusedBefore : {P : Type 0} → ℕ → ℕ → Item P → Type 0
RefusedBefore r b (standing w) = Unit {0}
RefusedBefore r b (refused c l u) = l ≡ r → u < b
RefusedBefore r b (fetch c f u) = Unit {0}

abbrev pub FetchedBefore : {P : Type 0} → ℕ → Item P → Type 0
FetchedBefore b (standing w) = Unit {0}
FetchedBefore b (refused c l u) = Unit {0}
FetchedBefore b (fetch c f u) = u < b

-- what the operations under way need to know of the rest
pub record View (P : Type 0) : Type 0 where
  pub now : ℕ
  pub owner : ℕ → ℕ
  pub ended : List (Ended P)
  pub order : List (Act P)
  pub back : List (Item P)

abbrev pub view : {P : Type 0} → List (Ended P) → Book P → (ℕ → ℕ) → List (Act P) → List (Item P) → View P
view ds book owner order back = record { now = book.now; owner = owner; ended = ds; order = order; back = back }

-- the operation that this party began at b is under way, and it has no place yet
abbrev pub Open : {P : Type 0} → View P → ℕ → ℕ → Type 0
Open {P} v who b = (b < v.now) × (v.owner b ≡ who) × AllByRecursion (EndedOther b) v.ended

abbrev pub Unplaced : {P : Type 0} → List (Act P) → ℕ → Type 0
Unplaced {P} order b = AllByRecursion (NotBegunAt b) order

-- lane r, of which n frames wait
abbrev pub LaneOk : {P : Type 0} → ℕ → View P → ℕ → ℕ → Post P → Type 0
LaneOk cap v r n idle = Unit {0}
LaneOk cap v r n (begun b x) = Open v (suc r) b × Unplaced v.order b × AllByRecursion (RefusedBefore r b) v.back
LaneOk cap v r n (stamped b x s t) = Open v (suc r) b × Unplaced v.order b × AllByRecursion (RefusedBefore r b) v.back × (b < t) × (t < v.now) × (fetched_after r t v.back + n < cap)
LaneOk cap v r n (gone b x s) = Open v (suc r) b

abbrev pub CollectOk : {P : Type 0} → View P → Collect P → Type 0
CollectOk v at_rest = Unit {0}
CollectOk v (looking b) = Open v 0 b × Unplaced v.order b × AllByRecursion (FetchedBefore b) v.back
CollectOk v (holding b f) = Open v 0 b

pub record Core {P : Type 0} (cap : ℕ) (ds : List (Ended P)) (book : Book P) (owner : ℕ → ℕ) (order : List (Act P)) (back : List (Item P)) : Type 0 where
  pub levels : (l : ℕ) → Levels cap l 0 back
  pub waiting : (l : ℕ) → standing_of l back ≡ book.waiting l
  pub sorted : Pairs Sorted back
  pub timed : AllByRecursion (Timed book.now) back
  pub ends_late : AllByRecursion (EndsLate ds) back
  pub room : (l : ℕ) → Room cap l back 0 (book.waiting l)
  pub lanes : (l : ℕ) → LaneOk cap (view ds book owner order back) l (length (book.waiting l)) (book.posts l)
  pub collector : CollectOk (view ds book owner order back) book.collect
  pub precede : Pairs (Before ds) order
  pub past : AllByRecursion (BegunBefore book.now) order
  pub past_ended : AllByRecursion (EarlierThan book.now) ds
  pub ended_apart : Pairs (λ (d e : Ended P). d.began ≢ e.began) ds
  pub settled : AllByRecursion (Settled ds book) order
  pub whole : (a : Act P) → Settled ds book a → In a order

pub record Split {P : Type 0} (cap : ℕ) (order front : List (Act P)) (back : List (Item P)) : Type 0 where
  pub parts : order ≡ front ++ acts back
  pub replays : Replays cap [] front (deliveries back)

pub record Placed {P : Type 0} (cap : ℕ) (ds : List (Ended P)) (book : Book P) : Type 0 where
  pub owner : ℕ → ℕ
  pub order : List (Act P)
  pub front : List (Act P)
  pub back : List (Item P)
  pub first_stands : FirstStands back
  pub split : Split cap order front back
  pub core : Core cap ds book owner order back
