-- Events: what a history is made of. A history is a list of events, oldest first; each event is one call on the line,
-- and its time is its place in the list, from 0.
--   post      an operation of a lane, which brings one frame       collect   an operation of the collector, which takes one
--   grant     one step of an operation that has begun
use Rattle.std.specs.Prelude.{ℕ}

-- what a post answers at its end: posted, with a stamp; its lane is full; the stamps are used up
pub data PostEnd : Type 0 where
  as_posted : ℕ → PostEnd
  as_full : PostEnd
  as_used_up : PostEnd

-- what a collect answers at its end: there was no frame; delivered, with a lane and a stamp
pub data CollectEnd : Type 0 where
  as_empty : CollectEnd
  as_delivered : ℕ → ℕ → CollectEnd

pub data Event (P : Type 0) : Type 0 where
  -- lane r began a post with this payload
  began_post : ℕ → P → Event P
  -- a grant of lane r took the stamp
  took : ℕ → ℕ → Event P
  -- a grant of lane r ended its post
  ended_post : ℕ → PostEnd → Event P
  -- the collector began a collect
  began_collect : Event P
  -- a grant of the collector gave a cell of the lane free, having fetched the frame (lane, stamp, payload) from it
  freed : ℕ → ℕ → P → Event P
  -- a grant of the collector ended its collect
  ended_collect : CollectEnd → Event P
  -- any other grant of lane r, and of the collector
  stepped_lane : ℕ → Event P
  stepped_collector : Event P
  -- a report was given, with the totals of frames posted and frames delivered
  reported : ℕ → ℕ → Event P
  -- a call that did none of these
  quiet : Event P
