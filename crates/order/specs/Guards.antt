-- The guards: what has to hold at an event, of the book as it stands before it, for the histories to keep a single-file order.
-- They speak of each event alone; a line that meets them, by whatever means, keeps the order.
--   late       every frame that waits, on any lane, ended after this time
--   oldest     the frame that waits longest on its lane; if none waits there, the stamped frame of the lane's post under way
use Rattle.std.specs.Prelude.{◌≡◌, ℕ, ◌<◌, ◌≤◌, List, [], ◌∷◌, length}
use Rattle.std.specs.List.{AllByRecursion}
use Rattle.order.specs.SingleFile.{Frame, frame_of}
use Rattle.order.specs.Events.{Event}
use Rattle.order.specs.Events.PostEnd.{as_full, as_posted, as_used_up}
use Rattle.order.specs.Events.CollectEnd.{as_delivered, as_empty}
use Rattle.order.specs.Events.Event.{began_collect, began_post, ended_collect, ended_post, freed, quiet, reported, stepped_collector, stepped_lane, took}
use Rattle.order.specs.Books.{Book, Collect, Post, Waiting, blank, book_step}
use Rattle.order.specs.Books.Post.{begun, gone, idle, stamped}
use Rattle.order.specs.Books.Collect.{at_rest, holding, looking}

-- the post is under way and has no stamp
abbrev pub Unstamped : {P : Type 0} → Post P → Type 0
Unstamped idle = ⊥
Unstamped (begun b x) = Unit {0}
Unstamped (stamped b x s t) = ⊥
Unstamped (gone b x s) = ⊥

-- the post is under way and took the stamp that it answers
abbrev pub Answers : {P : Type 0} → ℕ → Post P → Type 0
Answers a idle = ⊥
Answers a (begun b x) = ⊥
Answers a (stamped b x s t) = a ≡ s
Answers a (gone b x s) = a ≡ s

abbrev pub Late : {P : Type 0} → Book P → ℕ → Type 0
Late {P} k t = (r : ℕ) → AllByRecursion (λ (w : Waiting P). t < w.end) (k.waiting r)

-- f is the frame of the post under way, and every frame that waits ended after that post took its stamp
abbrev pub OwnFrame : {P : Type 0} → Book P → Frame P → Post P → Type 0
OwnFrame k f idle = ⊥
OwnFrame k f (begun b x) = ⊥
OwnFrame k f (stamped b x s t) = (f.stamp ≡ s) × (f.payload ≡ x) × Late k t
OwnFrame k f (gone b x s) = ⊥

-- f is the oldest frame of its lane, and every frame that waits ended after f took its stamp
abbrev pub Oldest : {P : Type 0} → Book P → Frame P → List (Waiting P) → Type 0
Oldest k f [] = OwnFrame k f (k.posts f.lane)
Oldest k f (w ∷ ws) = (w.frame ≡ f) × Late k w.take

-- the collect under way has freed nothing yet, and may free f
abbrev pub Frees : {P : Type 0} → Book P → Frame P → Collect P → Type 0
Frees k f at_rest = ⊥
Frees k f (looking b) = Oldest k f (k.waiting f.lane)
Frees k f (holding b f') = ⊥

-- the collect under way has freed nothing, and every frame that waits ended after it began
abbrev pub FindsNone : {P : Type 0} → Book P → Collect P → Type 0
FindsNone k at_rest = ⊥
FindsNone k (looking b) = Late k b
FindsNone k (holding b f) = ⊥

-- the collect under way holds a frame of the lane and stamp that it answers
abbrev pub Holds : {P : Type 0} → ℕ → ℕ → Collect P → Type 0
Holds l s at_rest = ⊥
Holds l s (looking b) = ⊥
Holds l s (holding b f) = (l ≡ f.lane) × (s ≡ f.stamp)

-- A post, or a collect, begins where none is under way. A post takes one stamp, while less than cap frames of its lane wait, and above all
-- stamps taken before. It answers posted with the stamp it took; full, if it took none and cap frames of its lane wait; used up, if it took none.
-- A collect frees one frame, the oldest of a lane, and none that came too late for one that waits. It answers empty if it freed none, and all that
-- waits came after it began; delivered, with the lane and the stamp of the frame it freed. The other calls may come at any time.
abbrev pub Admits : {P : Type 0} → ℕ → Book P → Event P → Type 0
Admits cap k (began_post r x) = k.posts r ≡ idle
Admits cap k (took r s) = Unstamped (k.posts r) × (length (k.waiting r) < cap) × (k.top ≤ s)
Admits cap k (ended_post r (as_posted a)) = Answers a (k.posts r)
Admits cap k (ended_post r as_full) = Unstamped (k.posts r) × (length (k.waiting r) ≡ cap)
Admits cap k (ended_post r as_used_up) = Unstamped (k.posts r)
Admits cap k began_collect = k.collect ≡ at_rest
Admits cap k (freed r s x) = Frees k (frame_of r s x) k.collect
Admits cap k (ended_collect as_empty) = FindsNone k k.collect
Admits cap k (ended_collect (as_delivered l s)) = Holds l s k.collect
Admits cap k (stepped_lane r) = Unit {0}
Admits cap k stepped_collector = Unit {0}
Admits cap k (reported p d) = Unit {0}
Admits cap k quiet = Unit {0}

abbrev pub AdmittedFrom : {P : Type 0} → ℕ → Book P → List (Event P) → Type 0
AdmittedFrom cap k [] = Unit {0}
AdmittedFrom cap k (e ∷ es) = Admits cap k e × AdmittedFrom cap (book_step k e) es

-- every event of the history met its guard
abbrev pub Admitted : {P : Type 0} → ℕ → List (Event P) → Type 0
Admitted cap es = AdmittedFrom cap blank es
