-- Small lists of calls, each with the history that it leaves, written out by hand: a table that holds the definitions of calls and
-- events against what one would say. Payloads are numbers; the memory that is laid over is twenty words and twenty trays, all 9.
use Rattle.std.specs.Prelude.{◌≡◌, ℕ, ◌^◌, List, [], ◌∷◌, ◌++◌, replicate}
use Rattle.std.proofs.Math.Option.{none, some}
use Rattle.std.specs.List.{AllByRecursion}
use Rattle.line.specs.Calls.{lays}
use Rattle.line.specs.Crew.{never_laid}
use Rattle.order.specs.Events.{Event}
use Rattle.order.specs.Events.CollectEnd.{as_delivered, as_empty}
use Rattle.order.specs.Events.Event.{began_collect, began_post, ended_collect, ended_post, freed, quiet, reported, stepped_collector, stepped_lane, took}
use Rattle.order.specs.Events.PostEnd.{as_full, as_posted, as_used_up}
use Rattle.history.specs.Happening.{draining_events, open_events}
use Rattle.history.specs.Performing.{DrainingCall, OpenCall, State, drain, open_end}
use Rattle.history.specs.Performing.OpenCall.{begin_collect, begin_post, fill, grant_collector, grant_lane, lay, settle}
use Rattle.history.specs.Performing.DrainingCall.{report}
use Rattle.history.specs.Promise.{DrainingCallsAdmitted, OpenCallsAdmitted, laid_state}

pub record Story : Type 0 where
  pub lanes : ℕ
  pub cells : ℕ
  pub stamp : ℕ
  pub before : List (OpenCall ℕ)
  pub behind : List (DrainingCall ℕ)
  pub events : List (Event ℕ)

-- a post of lane r on an empty lane takes nine grants; a collect of the one frame of a line of one lane six
abbrev pub grants_of : ℕ → ℕ → List (OpenCall ℕ)
grants_of r times = replicate times (grant_lane none r)

abbrev pub whole_post : ℕ → ℕ → List (OpenCall ℕ)
whole_post r x = begin_post none r x ∷ grants_of r 9

abbrev pub post_story : ℕ → ℕ → ℕ → List (Event ℕ)
post_story r s x = began_post r x ∷ stepped_lane r ∷ took r s ∷ (replicate 6 (stepped_lane r) ++ ended_post r (as_posted s) ∷ [])

abbrev pub collect_of : ℕ → List (OpenCall ℕ)
collect_of times = begin_collect ∷ (replicate times (grant_collector none) ++ settle ∷ [])

-- so many grants before the free, so many after it, the grant that ends the collect, and the settling
abbrev pub collect_story : ℕ → ℕ → ℕ → ℕ → ℕ → List (Event ℕ)
collect_story soon late r s x =
    began_collect ∷ (replicate soon stepped_collector ++ freed r s x ∷ (replicate late stepped_collector ++ ended_collect (as_delivered r s) ∷ quiet ∷ []))

-- memory with room for nothing
abbrev pub nowhere : OpenCall ℕ
nowhere = grant_lane (some (record { words = []; trays = [] })) 0

abbrev pub stories : List Story
stories =
    -- one post, one collect, and the account
    record {
      lanes = 1;
      cells = 2;
      stamp = 5;
      before = whole_post 0 70 ++ collect_of 6;
      behind = report ∷ [];
      events = post_story 0 5 70 ++ (collect_story 2 2 0 5 70 ++ quiet ∷ reported 1 1 ∷ []);
    }
    -- a lane of two cells holds one frame; a report is refused while it is there
    ∷ record {
      lanes = 1;
      cells = 2;
      stamp = 0;
      before = whole_post 0 70 ++ begin_post none 0 71 ∷ grants_of 0 1;
      behind = report ∷ [];
      events = post_story 0 0 70 ++ began_post 0 71 ∷ ended_post 0 as_full ∷ quiet ∷ quiet ∷ [];
    }
    -- the stamps are used up
    ∷ record {
      lanes = 1;
      cells = 2;
      stamp = 2 ^ 62;
      before = begin_post none 0 70 ∷ grants_of 0 2;
      behind = [];
      events = began_post 0 70 ∷ stepped_lane 0 ∷ ended_post 0 as_used_up ∷ quiet ∷ [];
    }
    -- a collect finds nothing; calls that are refused, one of them for other memory
    ∷ record {
      lanes = 1;
      cells = 2;
      stamp = 0;
      before = begin_collect ∷ begin_collect ∷ lay none 0 0 0 ∷ nowhere ∷ grant_lane none 0 ∷ grant_collector none ∷ fill 0 ∷ settle ∷ settle ∷ [];
      behind = report ∷ [];
      events = began_collect ∷ quiet ∷ quiet ∷ quiet ∷ quiet ∷ ended_collect as_empty ∷ quiet ∷ quiet ∷ quiet ∷ quiet ∷ reported 0 0 ∷ [];
    }
    -- the collect of a first frame finds a second one published and tells the slot of it; so the next collect delivers it while its post is
    -- still under way, and the post then ends, its frame gone
    ∷ record {
      lanes = 1;
      cells = 3;
      stamp = 0;
      before = whole_post 0 70 ++ begin_post none 0 71 ∷ (grants_of 0 5 ++ (collect_of 7 ++ (collect_of 6 ++ grants_of 0 2)));
      behind = report ∷ [];
      events =
          post_story 0 0 70 ++ began_post 0 71 ∷ stepped_lane 0 ∷ took 0 1 ∷ stepped_lane 0 ∷ stepped_lane 0 ∷ stepped_lane 0
          ∷ (collect_story 2 3 0 0 70 ++ (collect_story 2 2 0 1 71 ++ stepped_lane 0 ∷ ended_post 0 (as_posted 1) ∷ quiet ∷ reported 2 2 ∷ []));
    }
    -- the first scan keeps lane 1, whose stamp is the lower one, and the second scan looks at lane 0 once more
    ∷ record {
      lanes = 2;
      cells = 2;
      stamp = 0;
      before = whole_post 1 80 ++ (whole_post 0 70 ++ collect_of 8);
      behind = [];
      events = post_story 1 0 80 ++ (post_story 0 1 70 ++ (collect_story 4 2 1 0 80 ++ quiet ∷ []));
    }
    ∷ []

module _ (s : Story) where
  abbrev pub laid : State ℕ
  laid = laid_state (replicate 20 9) (replicate 20 9) never_laid s.lanes s.cells s.stamp

  abbrev pub draining : State ℕ
  draining = drain (open_end laid s.before)

-- the laying is accepted, both lists are admitted, and they leave this history
pub record IsTold (s : Story) : Type 0 where
  pub accepted : (lays {P = ℕ} (replicate 20 9) (replicate 20 9) never_laid s.lanes s.cells s.stamp).answer.number ≡ 0
  pub before : OpenCallsAdmitted (laid s) s.before
  pub behind : DrainingCallsAdmitted (draining s) s.behind
  pub events : open_events (laid s) s.before ++ quiet ∷ draining_events (draining s) s.behind ≡ s.events

abbrev pub SmallListsTellTheirStory : Type 0
SmallListsTellTheirStory = AllByRecursion IsTold stories
