-- The log: what is known from outside after a history, for anyone who only looks at the calls and their answers.
--   under way   an operation that has begun and not ended; a lane has at most one, and so has the collector
--   grants      how many grants an operation has had; its beginning is none, the grant that ends it is one
--   now         how many calls there were, so the time of the next one
use Rattle.std.specs.Prelude.{ℕ, suc, List, [], ◌∷◌}
use Rattle.std.proofs.Math.Option.{Option, none, some}
use Rattle.order.specs.Tables.{upd}
use Rattle.order.specs.SingleFile.{Frame, frame_of}
use Rattle.order.specs.Events.{CollectEnd, Event, PostEnd}
use Rattle.order.specs.Events.Event.{began_collect, began_post, ended_collect, ended_post, freed, quiet, reported, stepped_collector, stepped_lane, took}

-- a post under way: when it began and with what; the stamp, once it took one
pub record Posting (P : Type 0) : Type 0 where
  pub began : ℕ
  pub payload : P
  pub stamp : Option ℕ
  pub grants : ℕ

-- a collect under way: when it began; the frame that it fetched, once it freed a cell
pub record Collecting (P : Type 0) : Type 0 where
  pub began : ℕ
  pub fetched : Option (Frame P)
  pub grants : ℕ

-- an operation that ended: a post of a lane, with its payload, the stamp it took and its answer; or a collect, with the
-- frame it fetched and its answer
pub data Operation (P : Type 0) : Type 0 where
  post : ℕ → P → Option ℕ → PostEnd → Operation P
  collect : Option (Frame P) → CollectEnd → Operation P

pub record Ended (P : Type 0) : Type 0 where
  pub began : ℕ
  pub ended : ℕ
  pub grants : ℕ
  pub operation : Operation P

-- `ended` has the last operation first; `report` has the two totals if the last call was an accepted report
pub record Log (P : Type 0) : Type 0 where
  pub now : ℕ
  pub posts : ℕ → Option (Posting P)
  pub collecting : Option (Collecting P)
  pub ended : List (Ended P)
  pub report : Option (ℕ × ℕ)

abbrev pub start : {P : Type 0} → Log P
start = record { now = 0; posts = λ _. none; collecting = none; ended = []; report = none }

-- One call later, with one thing changed.
module _ {P : Type 0} (g : Log P) where
  abbrev pub log_report : Option (ℕ × ℕ) → Log P
  log_report t = record { now = suc g.now; posts = g.posts; collecting = g.collecting; ended = g.ended; report = t }

  abbrev pub log_post : ℕ → Option (Posting P) → Log P
  log_post r p = record { now = suc g.now; posts = upd g.posts r p; collecting = g.collecting; ended = g.ended; report = none }

  abbrev pub log_collect : Option (Collecting P) → Log P
  log_collect c = record { now = suc g.now; posts = g.posts; collecting = c; ended = g.ended; report = none }

  -- the post of lane r, or the collect, ends with this answer; without one under way nothing ends
  abbrev pub log_post_end : ℕ → PostEnd → Option (Posting P) → Log P
  log_post_end r how none = log_report none
  log_post_end r how (some p) =
      record {
        now = suc g.now;
        posts = upd g.posts r none;
        collecting = g.collecting;
        ended = record { began = p.began; ended = g.now; grants = suc p.grants; operation = post r p.payload p.stamp how } ∷ g.ended;
        report = none;
      }

  abbrev pub log_collect_end : CollectEnd → Option (Collecting P) → Log P
  log_collect_end how none = log_report none
  log_collect_end how (some c) =
      record {
        now = suc g.now;
        posts = g.posts;
        collecting = none;
        ended = record { began = c.began; ended = g.now; grants = suc c.grants; operation = collect c.fetched how } ∷ g.ended;
        report = none;
      }

-- One grant more for the operation under way; with a stamp, and with a frame fetched.
module _ {P : Type 0} where
  abbrev pub post_step : Option (Posting P) → Option (Posting P)
  post_step none = none
  post_step (some p) = some (record { began = p.began; payload = p.payload; stamp = p.stamp; grants = suc p.grants })

  abbrev pub post_take : ℕ → Option (Posting P) → Option (Posting P)
  post_take s none = none
  post_take s (some p) = some (record { began = p.began; payload = p.payload; stamp = some s; grants = suc p.grants })

  abbrev pub collect_step : Option (Collecting P) → Option (Collecting P)
  collect_step none = none
  collect_step (some c) = some (record { began = c.began; fetched = c.fetched; grants = suc c.grants })

  abbrev pub collect_fetch : Frame P → Option (Collecting P) → Option (Collecting P)
  collect_fetch f none = none
  collect_fetch f (some c) = some (record { began = c.began; fetched = some f; grants = suc c.grants })

-- the log after one more event, and after a history
abbrev pub log_step : {P : Type 0} → Log P → Event P → Log P
log_step g (began_post r x) = log_post g r (some (record { began = g.now; payload = x; stamp = none; grants = 0 }))
log_step g (took r s) = log_post g r (post_take s (g.posts r))
log_step g (ended_post r how) = log_post_end g r how (g.posts r)
log_step g began_collect = log_collect g (some (record { began = g.now; fetched = none; grants = 0 }))
log_step g (freed r s x) = log_collect g (collect_fetch (frame_of r s x) g.collecting)
log_step g (ended_collect how) = log_collect_end g how g.collecting
log_step g (stepped_lane r) = log_post g r (post_step (g.posts r))
log_step g stepped_collector = log_collect g (collect_step g.collecting)
log_step g (reported p d) = log_report g (some (p, d))
log_step g quiet = log_report g none

abbrev pub log_from : {P : Type 0} → Log P → List (Event P) → Log P
log_from g [] = g
log_from g (e ∷ es) = log_from (log_step g e) es

abbrev pub log_of : {P : Type 0} → List (Event P) → Log P
log_of es = log_from start es
