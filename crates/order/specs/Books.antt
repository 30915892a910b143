-- The book: what the guards look at. It is kept beside the log, from the same events, and no promise speaks of it but through the
-- guards.
--   waiting    the frames of a lane whose posts ended posted and that no collect has freed, oldest first
--   stamped    the post under way has a stamp, taken at this time, and no collect has freed its frame
--   gone       a collect freed the frame of the post under way before that post ended
--   top        one more than the highest stamp taken so far
use Rattle.std.specs.Prelude.{ℕ, suc, List, [], ◌∷◌, ◌++◌}
use Rattle.order.specs.Tables.{upd}
use Rattle.order.specs.SingleFile.{Frame, frame_of}
use Rattle.order.specs.Events.{Event}
use Rattle.order.specs.Events.PostEnd.{as_full, as_posted, as_used_up}
use Rattle.order.specs.Events.Event.{began_collect, began_post, ended_collect, ended_post, freed, quiet, reported, stepped_collector, stepped_lane, took}

-- a frame that waits, with the times at which its post began, took its stamp and ended
pub record Waiting (P : Type 0) : Type 0 where
  pub began : ℕ
  pub take : ℕ
  pub end : ℕ
  pub frame : Frame P

-- the post of a lane: none; begun (when, payload); stamped (when begun, payload, stamp, when taken); gone (when begun, payload, stamp)
pub data Post (P : Type 0) : Type 0 where
  idle : Post P
  begun : ℕ → P → Post P
  stamped : ℕ → P → ℕ → ℕ → Post P
  gone : ℕ → P → ℕ → Post P

-- the collect: none; begun, and no frame freed yet; begun, and holding the frame that it freed
pub data Collect (P : Type 0) : Type 0 where
  at_rest : Collect P
  looking : ℕ → Collect P
  holding : ℕ → Frame P → Collect P

pub record Book (P : Type 0) : Type 0 where
  pub now : ℕ
  pub posts : ℕ → Post P
  pub waiting : ℕ → List (Waiting P)
  pub collect : Collect P
  pub top : ℕ

abbrev pub blank : {P : Type 0} → Book P
blank = record { now = 0; posts = λ _. idle; waiting = λ _. []; collect = at_rest; top = 0 }

-- the post under way, once a collect has freed its frame
abbrev pub goes : {P : Type 0} → Post P → Post P
goes idle = idle
goes (begun b x) = begun b x
goes (stamped b x s t) = gone b x s
goes (gone b x s) = gone b x s

-- One call later, with what the event changes. After an event that did not meet its guard the book means nothing.
module _ {P : Type 0} (k : Book P) where
  abbrev pub book_tick : Book P
  book_tick = record { now = suc k.now; posts = k.posts; waiting = k.waiting; collect = k.collect; top = k.top }

  abbrev pub book_post : ℕ → Post P → Book P
  book_post r p = record { now = suc k.now; posts = upd k.posts r p; waiting = k.waiting; collect = k.collect; top = k.top }

  abbrev pub book_collect : Collect P → Book P
  book_collect c = record { now = suc k.now; posts = k.posts; waiting = k.waiting; collect = c; top = k.top }

  abbrev pub book_take : ℕ → ℕ → Post P → Book P
  book_take r s idle = book_tick
  book_take r s (begun b x) =
      record { now = suc k.now; posts = upd k.posts r (stamped b x s k.now); waiting = k.waiting; collect = k.collect; top = suc s }
  book_take r s (stamped b x s' t) = book_tick
  book_take r s (gone b x s') = book_tick

  -- the frame of a stamped post of lane r that ends posted now begins to wait
  abbrev pub waits_now : ℕ → ℕ → P → ℕ → ℕ → Waiting P
  waits_now r b x s t = record { began = b; take = t; end = k.now; frame = frame_of r s x }

  abbrev pub book_posted : ℕ → Post P → Book P
  book_posted r idle = book_tick
  book_posted r (begun b x) = book_tick
  book_posted r (stamped b x s t) =
      record {
        now = suc k.now;
        posts = upd k.posts r idle;
        waiting = upd k.waiting r (k.waiting r ++ waits_now r b x s t ∷ []);
        collect = k.collect;
        top = k.top;
      }
  book_posted r (gone b x s) = book_post r idle

  -- the frame f of lane r is freed by the collect that began at b: the oldest that waits, or else that of the post under way
  abbrev pub book_free_from : ℕ → ℕ → Frame P → List (Waiting P) → Book P
  book_free_from b r f [] =
      record { now = suc k.now; posts = upd k.posts r (goes (k.posts r)); waiting = k.waiting; collect = holding b f; top = k.top }
  book_free_from b r f (w ∷ ws) =
      record { now = suc k.now; posts = k.posts; waiting = upd k.waiting r ws; collect = holding b f; top = k.top }

  abbrev pub book_free : Frame P → Collect P → Book P
  book_free f at_rest = book_tick
  book_free f (looking b) = book_free_from b f.lane f (k.waiting f.lane)
  book_free f (holding b f') = book_tick

-- the book after one more event, and after a history
abbrev pub book_step : {P : Type 0} → Book P → Event P → Book P
book_step k (began_post r x) = book_post k r (begun k.now x)
book_step k (took r s) = book_take k r s (k.posts r)
book_step k (ended_post r (as_posted a)) = book_posted k r (k.posts r)
book_step k (ended_post r as_full) = book_post k r idle
book_step k (ended_post r as_used_up) = book_post k r idle
book_step k began_collect = book_collect k (looking k.now)
book_step k (freed r s x) = book_free k (frame_of r s x) k.collect
book_step k (ended_collect how) = book_collect k at_rest
book_step k (stepped_lane r) = book_tick k
book_step k stepped_collector = book_tick k
book_step k (reported p d) = book_tick k
book_step k quiet = book_tick k

abbrev pub book_from : {P : Type 0} → Book P → List (Event P) → Book P
book_from k [] = k
book_from k (e ∷ es) = book_from (book_step k e) es

abbrev pub book_of : {P : Type 0} → List (Event P) → Book P
book_of es = book_from blank es
