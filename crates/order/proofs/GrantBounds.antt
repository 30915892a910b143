-- Bounds on grants are kept by events that leave an operation that goes on at least one grant to go.
use Rattle.std.proofs.Common.{ℕ, suc, ◌<◌, arith}
use mathlib.Core.Option.{Option, none, some}
use Rattle.order.specs.SingleFile.{Frame, frame_of}
use Rattle.order.specs.Events.{CollectEnd, Event, PostEnd}
use Rattle.order.specs.Events.Event.{began_collect, began_post, ended_collect, ended_post, freed, quiet, reported, stepped_collector, stepped_lane, took}
use Rattle.order.specs.Logs.{Collecting, Log, Posting, collect_fetch, collect_step, log_collect_end, log_post, log_post_end, log_step, post_step, post_take, start}
use Rattle.order.specs.Bounds.{CollectBelow, CollectsEndBy, PostBelow, PostsEndBy}
use Rattle.order.proofs.Lists.{upd_all}
use Rattle.order.proofs.Agreement.{posting}

-- what an event has to meet for a bound to be kept: a grant that does not end its operation leaves it one to go
abbrev pub PostGoesOn : {P : Type 0} → ℕ → Option (Posting P) → Type 0
PostGoesOn most none = Unit {0}
PostGoesOn most (some p) = suc p.grants < most

abbrev pub CollectGoesOn : {P : Type 0} → ℕ → Option (Collecting P) → Type 0
CollectGoesOn most none = Unit {0}
CollectGoesOn most (some c) = suc c.grants < most

abbrev pub PostStaysBelow : {P : Type 0} → ℕ → Log P → Event P → Type 0
PostStaysBelow most g (began_post r x) = 0 < most
PostStaysBelow most g (took r s) = PostGoesOn most (g.posts r)
PostStaysBelow most g (ended_post r how) = Unit {0}
PostStaysBelow most g began_collect = Unit {0}
PostStaysBelow most g (freed r s x) = Unit {0}
PostStaysBelow most g (ended_collect how) = Unit {0}
PostStaysBelow most g (stepped_lane r) = PostGoesOn most (g.posts r)
PostStaysBelow most g stepped_collector = Unit {0}
PostStaysBelow most g (reported p d) = Unit {0}
PostStaysBelow most g quiet = Unit {0}

abbrev pub CollectStaysBelow : {P : Type 0} → ℕ → Log P → Event P → Type 0
CollectStaysBelow most g (began_post r x) = Unit {0}
CollectStaysBelow most g (took r s) = Unit {0}
CollectStaysBelow most g (ended_post r how) = Unit {0}
CollectStaysBelow most g began_collect = 0 < most
CollectStaysBelow most g (freed r s x) = CollectGoesOn most g.collecting
CollectStaysBelow most g (ended_collect how) = Unit {0}
CollectStaysBelow most g (stepped_lane r) = Unit {0}
CollectStaysBelow most g stepped_collector = CollectGoesOn most g.collecting
CollectStaysBelow most g (reported p d) = Unit {0}
CollectStaysBelow most g quiet = Unit {0}

module _ {P : Type 0} (most : ℕ) where
  pub posts_end_start : PostsEndBy most (start {P = P})
  posts_end_start = record { ended = tt; under_way = λ r. tt }

  pub collects_end_start : CollectsEndBy most (start {P = P})
  collects_end_start = record { ended = tt; under_way = tt }

  post_goes_on : (q : Option (Posting P)) → PostGoesOn most q → PostBelow most (post_step q)
  post_goes_on none h = tt
  post_goes_on (some p) h = h

  post_takes : (s : ℕ) (q : Option (Posting P)) → PostGoesOn most q → PostBelow most (post_take s q)
  post_takes s none h = tt
  post_takes s (some p) h = h

  collect_goes_on : (q : Option (Collecting P)) → CollectGoesOn most q → CollectBelow most (collect_step q)
  collect_goes_on none h = tt
  collect_goes_on (some c) h = h

  collect_fetches : (f : Frame P) (q : Option (Collecting P)) → CollectGoesOn most q → CollectBelow most (collect_fetch f q)
  collect_fetches f none h = tt
  collect_fetches f (some c) h = h

module _ {P : Type 0} (most : ℕ) (g : Log P) where
  -- one post changes
  post_changes : (r : ℕ) (q : Option (Posting P)) → PostsEndBy most g → PostBelow most q → PostsEndBy most (log_post g r q)
  post_changes r q v h = record { ended = v.ended; under_way = upd_all (λ l q. PostBelow most q) g.posts r q h (λ l _. v.under_way l) }

  post_ends : (r : ℕ) (how : PostEnd) (q : Option (Posting P)) → PostsEndBy most g → PostBelow most q → PostsEndBy most (log_post_end g r how q)
  post_ends r how none v h = record { ended = v.ended; under_way = v.under_way }
  post_ends r how (some p) v h =
      record { ended = (omega arith, v.ended); under_way = upd_all (λ l q. PostBelow most q) g.posts r none tt (λ l _. v.under_way l) }

  posts_collect_ends : (how : CollectEnd) (q : Option (Collecting P)) → PostsEndBy most g → PostsEndBy most (log_collect_end g how q)
  posts_collect_ends how none v = record { ended = v.ended; under_way = v.under_way }
  posts_collect_ends how (some c) v = record { ended = (tt, v.ended); under_way = v.under_way }

  pub posts_end_step : (e : Event P) → PostsEndBy most g → PostStaysBelow most g e → PostsEndBy most (log_step g e)
  posts_end_step (began_post r x) v h = post_changes r (some (posting g.now x none 0)) v h
  posts_end_step (took r s) v h = post_changes r (post_take s (g.posts r)) v (post_takes most s (g.posts r) h)
  posts_end_step (ended_post r how) v h = post_ends r how (g.posts r) v (v.under_way r)
  posts_end_step began_collect v h = record { ended = v.ended; under_way = v.under_way }
  posts_end_step (freed r s x) v h = record { ended = v.ended; under_way = v.under_way }
  posts_end_step (ended_collect how) v h = posts_collect_ends how g.collecting v
  posts_end_step (stepped_lane r) v h = post_changes r (post_step (g.posts r)) v (post_goes_on most (g.posts r) h)
  posts_end_step stepped_collector v h = record { ended = v.ended; under_way = v.under_way }
  posts_end_step (reported p d) v h = record { ended = v.ended; under_way = v.under_way }
  posts_end_step quiet v h = record { ended = v.ended; under_way = v.under_way }

  collects_post_ends : (r : ℕ) (how : PostEnd) (q : Option (Posting P)) → CollectsEndBy most g → CollectsEndBy most (log_post_end g r how q)
  collects_post_ends r how none v = record { ended = v.ended; under_way = v.under_way }
  collects_post_ends r how (some p) v = record { ended = (tt, v.ended); under_way = v.under_way }

  collect_ends : (how : CollectEnd) (q : Option (Collecting P)) → CollectsEndBy most g → CollectBelow most q → CollectsEndBy most (log_collect_end g how q)
  collect_ends how none v h = record { ended = v.ended; under_way = v.under_way }
  collect_ends how (some c) v h = record { ended = (omega arith, v.ended); under_way = tt }

  pub collects_end_step : (e : Event P) → CollectsEndBy most g → CollectStaysBelow most g e → CollectsEndBy most (log_step g e)
  collects_end_step (began_post r x) v h = record { ended = v.ended; under_way = v.under_way }
  collects_end_step (took r s) v h = record { ended = v.ended; under_way = v.under_way }
  collects_end_step (ended_post r how) v h = collects_post_ends r how (g.posts r) v
  collects_end_step began_collect v h = record { ended = v.ended; under_way = h }
  collects_end_step (freed r s x) v h = record { ended = v.ended; under_way = collect_fetches most (frame_of r s x) g.collecting h }
  collects_end_step (ended_collect how) v h = collect_ends how g.collecting v v.under_way
  collects_end_step (stepped_lane r) v h = record { ended = v.ended; under_way = v.under_way }
  collects_end_step stepped_collector v h = record { ended = v.ended; under_way = collect_goes_on most g.collecting h }
  collects_end_step (reported p d) v h = record { ended = v.ended; under_way = v.under_way }
  collects_end_step quiet v h = record { ended = v.ended; under_way = v.under_way }
