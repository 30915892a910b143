-- Small histories, each judged: a table that holds the definition of a single-file order against what one would say by hand. To each right
-- history its order is written out, and it meets the guards; for each wrong one it is stated that there is no order, and that it does not meet
-- the guards. Payloads are numbers.
-- Times in the comments are places in the list of events, from 0; an act is named by the time at which its operation began.
use Rattle.std.specs.Prelude.{ℕ, List, [], ◌∷◌, ◌++◌}
use Rattle.std.specs.List.{AllByRecursion}
use Rattle.order.specs.SingleFile.{Act, act_of, frame_of}
use Rattle.order.specs.SingleFile.Did.{delivered, empty, full, posted}
use Rattle.order.specs.Events.{Event}
use Rattle.order.specs.Events.PostEnd.{as_full, as_posted, as_used_up}
use Rattle.order.specs.Events.CollectEnd.{as_delivered, as_empty}
use Rattle.order.specs.Events.Event.{began_collect, began_post, ended_collect, ended_post, freed, quiet, reported, stepped_collector, stepped_lane, took}
use Rattle.order.specs.Logs.{log_of}
use Rattle.order.specs.Orders.{IsOrder, SingleFileOrder}
use Rattle.order.specs.Guards.{Admitted}

pub record Right : Type 0 where
  pub cap : ℕ
  pub events : List (Event ℕ)
  pub order : List (Act ℕ)

pub record Wrong : Type 0 where
  pub cap : ℕ
  pub events : List (Event ℕ)

-- a post of lane r with stamp s and payload x, and a collect of it, from begin to end with nothing between
abbrev pub post_all : ℕ → ℕ → ℕ → List (Event ℕ)
post_all r s x = began_post r x ∷ took r s ∷ ended_post r (as_posted s) ∷ []

abbrev pub collect_all : ℕ → ℕ → ℕ → List (Event ℕ)
collect_all r s x = began_collect ∷ freed r s x ∷ ended_collect (as_delivered r s) ∷ []

-- the operation begun at b, as a post, and as a collect, of this frame
abbrev pub puts : ℕ → ℕ → ℕ → ℕ → Act ℕ
puts b r s x = act_of b (posted (frame_of r s x))

abbrev pub gets : ℕ → ℕ → ℕ → ℕ → Act ℕ
gets b r s x = act_of b (delivered (frame_of r s x))

abbrev pub right_histories : List Right
right_histories =
    -- nothing happened
    record { cap = 1; events = []; order = [] }
    -- one post, and then one collect
    ∷ record { cap = 1; events = post_all 0 0 70 ++ collect_all 0 0 70; order = puts 0 0 0 70 ∷ gets 3 0 0 70 ∷ [] }
    -- two posts overlap, and the one with the higher stamp is delivered first: it stands first
    ∷ record {
      cap = 1;
      events = began_post 0 70 ∷ took 0 0 ∷ (post_all 1 1 80 ++ ended_post 0 (as_posted 0) ∷ (collect_all 1 1 80 ++ collect_all 0 0 70));
      order = puts 2 1 1 80 ∷ puts 0 0 0 70 ∷ gets 6 1 1 80 ∷ gets 9 0 0 70 ∷ [];
    }
    -- a collect looks while a post runs whole, and finds none: it stands before the post
    ∷ record { cap = 1; events = began_collect ∷ (post_all 0 0 70 ++ ended_collect as_empty ∷ []); order = act_of 0 empty ∷ puts 1 0 0 70 ∷ [] }
    -- a post finds its lane full while a collect is under way: it stands before the collect, though it began later
    ∷ record {
      cap = 1;
      events = post_all 0 0 70 ++ began_collect ∷ began_post 0 71 ∷ ended_post 0 as_full ∷ freed 0 0 70 ∷ ended_collect (as_delivered 0 0) ∷ [];
      order = puts 0 0 0 70 ∷ act_of 4 (full 0) ∷ gets 3 0 0 70 ∷ [];
    }
    -- a post is under way and its frame is delivered: it has a place
    ∷ record { cap = 1; events = began_post 0 70 ∷ took 0 0 ∷ stepped_lane 0 ∷ collect_all 0 0 70; order = puts 0 0 0 70 ∷ gets 3 0 0 70 ∷ [] }
    -- a post is under way and its frame is not delivered: it has none, and a collect finds none
    ∷ record { cap = 1; events = began_post 0 70 ∷ took 0 0 ∷ began_collect ∷ ended_collect as_empty ∷ []; order = act_of 2 empty ∷ [] }
    -- a collect is under way and has freed its frame: it has a place
    ∷ record { cap = 1; events = post_all 0 0 70 ++ began_collect ∷ freed 0 0 70 ∷ []; order = puts 0 0 0 70 ∷ gets 3 0 0 70 ∷ [] }
    -- a post that ended used up stands nowhere
    ∷ record { cap = 1; events = began_post 0 70 ∷ ended_post 0 as_used_up ∷ post_all 1 0 80; order = puts 2 1 0 80 ∷ [] }
    -- two posts of one lane with room for two, one collect, a report; one frame is left
    ∷ record {
      cap = 2;
      events =
          post_all 0 3 70 ++ quiet
          ∷ (post_all 0 4 71 ++ began_collect ∷ stepped_collector ∷ freed 0 3 70 ∷ ended_collect (as_delivered 0 3) ∷ reported 2 1 ∷ []);
      order = puts 0 0 3 70 ∷ puts 4 0 4 71 ∷ gets 7 0 3 70 ∷ [];
    }
    ∷ []

abbrev pub wrong_histories : List Wrong
wrong_histories =
    -- out of turn: the second post began after the first had ended, and its frame is delivered first
    record { cap = 1; events = post_all 0 0 70 ++ (post_all 1 1 80 ++ (collect_all 1 1 80 ++ collect_all 0 0 70)) }
    -- the same, while the second post is still under way
    ∷ record { cap = 1; events = post_all 0 0 70 ++ began_post 1 80 ∷ took 1 1 ∷ collect_all 1 1 80 }
    -- a frame is delivered twice
    ∷ record { cap = 1; events = post_all 0 0 70 ++ (collect_all 0 0 70 ++ collect_all 0 0 70) }
    -- a collect that begins after a post has ended finds none
    ∷ record { cap = 1; events = post_all 0 0 70 ++ began_collect ∷ ended_collect as_empty ∷ [] }
    -- a post finds its lane full, and nothing is there
    ∷ record { cap = 1; events = began_post 0 70 ∷ ended_post 0 as_full ∷ [] }
    -- a post answers a stamp that it did not take
    ∷ record { cap = 1; events = began_post 0 70 ∷ took 0 0 ∷ ended_post 0 (as_posted 5) ∷ [] }
    -- a collect answers another lane than it fetched from
    ∷ record { cap = 1; events = post_all 0 0 70 ++ began_collect ∷ freed 0 0 70 ∷ ended_collect (as_delivered 1 0) ∷ [] }
    -- a collect delivers a frame that no post brought; and one with another payload
    ∷ record { cap = 1; events = collect_all 0 0 70 }
    ∷ record { cap = 1; events = post_all 0 0 70 ++ collect_all 0 0 71 }
    -- a post ends used up though its frame was delivered
    ∷ record { cap = 1; events = began_post 0 70 ∷ took 0 0 ∷ (collect_all 0 0 70 ++ ended_post 0 as_used_up ∷ []) }
    -- a lane with room for one takes two
    ∷ record { cap = 1; events = post_all 0 0 70 ++ post_all 0 1 71 }
    ∷ []

-- the order written out is one, and every event met its guard
abbrev pub IsRight : Right → Type 0
IsRight h = IsOrder h.cap (log_of h.events) h.order × Admitted h.cap h.events

-- there is no order at all, and some event did not meet its guard
abbrev pub IsWrong : Wrong → Type 0
IsWrong h = (SingleFileOrder h.cap (log_of h.events) → ⊥) × (Admitted h.cap h.events → ⊥)

abbrev pub SmallHistoriesAreJudgedRightly : Type 0
SmallHistoriesAreJudgedRightly = AllByRecursion IsRight right_histories × AllByRecursion IsWrong wrong_histories
