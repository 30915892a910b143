-- What a call looks like from outside: the one event of a history that it leaves. It is read off the answer, and off the state
-- before the call: which stage the granted party was at, which stamp the counter gave, and what lay in the collector's hand.
use Rattle.std.specs.Prelude.{ℕ, cond, List, [], ◌∷◌, drop, ◌==◌}
use Rattle.boards.specs.Words.{taken}
use Rattle.line.specs.declared.access.Address.TheVariants.{Counter}
use Rattle.line.specs.declared.access.Place.TheVariants.{CollectorsHand}
use Rattle.line.specs.declared.collector.CollectStage.{CollectStage}
use Rattle.line.specs.declared.collector.CollectStage.TheVariants.{Idle, ScanFirst, ScanSecond, Fetch, Free, SeeSlot, SeeTail, SeeFront, RefreshSlot, Ended}
use Rattle.line.specs.declared.collector.Kept.{Kept}
use Rattle.line.specs.declared.lane.Stage.{Stage}
use Rattle.line.specs.declared.lane.Stage.TheVariants.{AtRest, TestSpace, TakeStamp, FillCell, MarkCell, Publish, Look, LoadHead, LoadFront, SwapSlot}
use Rattle.line.specs.Answers.{Told}
use Rattle.line.specs.Crew.{row_of}
use Rattle.line.specs.Map.{tray_of, word_of}
use Rattle.order.specs.Events.{Event}
use Rattle.order.specs.Events.CollectEnd.{as_delivered, as_empty}
use Rattle.order.specs.Events.Event.{began_collect, began_post, ended_collect, ended_post, freed, quiet, reported, stepped_collector, stepped_lane, took}
use Rattle.order.specs.Events.PostEnd.{as_full, as_posted, as_used_up}
use Rattle.history.specs.Performing.{DrainingCall, OpenCall, State, draining_done, open_done}
use Rattle.history.specs.Performing.OpenCall.{begin_post, lay}
use Rattle.history.specs.Performing.DrainingCall.{report}

module _ {P : Type 0} where
  -- an accepted call leaves this event, a refused one none
  abbrev pub if_accepted : Told → Event P → Event P
  if_accepted answer e = cond (answer.number == 0) e quiet

  -- a lane's grant after which its post goes on: at the stage where it takes a stamp, it took the one that the counter gave
  abbrev pub lane_went_on : ℕ → Stage → ℕ → Event P
  lane_went_on lane AtRest given = stepped_lane lane
  lane_went_on lane TestSpace given = stepped_lane lane
  lane_went_on lane TakeStamp given = took lane given
  lane_went_on lane (FillCell stamp) given = stepped_lane lane
  lane_went_on lane (MarkCell stamp) given = stepped_lane lane
  lane_went_on lane (Publish stamp) given = stepped_lane lane
  lane_went_on lane (Look attempt stamp) given = stepped_lane lane
  lane_went_on lane (LoadHead attempt stamp seen) given = stepped_lane lane
  lane_went_on lane (LoadFront attempt stamp seen head) given = stepped_lane lane
  lane_went_on lane (SwapSlot attempt stamp seen) given = stepped_lane lane

  -- an accepted grant that answers values ended its post
  abbrev pub lane_went : ℕ → Stage → ℕ → List ℕ → Event P
  lane_went lane stage given [] = lane_went_on lane stage given
  lane_went lane stage given (stamp ∷ grants) = ended_post lane (as_posted stamp)

  abbrev pub lane_event : ℕ → Stage → ℕ → Told → Event P
  lane_event lane stage given answer =
      cond (answer.number == 0) (lane_went lane stage given answer.values)
      (cond (answer.number == 8) (ended_post lane as_full) (cond (answer.number == 9) (ended_post lane as_used_up) quiet))

  -- the free of the kept lane's cell, with the payload that lies in the collector's hand
  abbrev pub freed_with : Kept → List P → Event P
  freed_with best [] = stepped_collector
  freed_with best (x ∷ xs) = freed best.lane best.stamp x

  abbrev pub collector_went_on : List P → CollectStage → Event P
  collector_went_on hand Idle = stepped_collector
  collector_went_on hand (ScanFirst i best) = stepped_collector
  collector_went_on hand (ScanSecond i bound best) = stepped_collector
  collector_went_on hand (Fetch best) = stepped_collector
  collector_went_on hand (Free best) = freed_with best hand
  collector_went_on hand (SeeSlot attempt best) = stepped_collector
  collector_went_on hand (SeeTail attempt best seen) = stepped_collector
  collector_went_on hand (SeeFront attempt best seen) = stepped_collector
  collector_went_on hand (RefreshSlot attempt best seen fresh) = stepped_collector
  collector_went_on hand (Ended how) = stepped_collector

  abbrev pub collector_went : List P → CollectStage → List ℕ → Event P
  collector_went hand stage [] = collector_went_on hand stage
  collector_went hand stage (grants ∷ []) = ended_collect as_empty
  collector_went hand stage (lane ∷ (stamp ∷ grants)) = ended_collect (as_delivered lane stamp)

  abbrev pub collector_event : List P → CollectStage → Told → Event P
  collector_event hand stage answer = if_accepted answer (collector_went hand stage answer.values)

  abbrev pub totals_event : List ℕ → Event P
  totals_event [] = quiet
  totals_event (p ∷ []) = quiet
  totals_event (p ∷ (d ∷ more)) = reported p d

  -- what the counter gives, and what lies in the collector's hand
  abbrev pub given_stamp : State P → ℕ
  given_stamp s = taken s.words (word_of s.crew.shape Counter)

  abbrev pub in_hand : State P → List P
  in_hand s = drop (tray_of s.crew.shape CollectorsHand) s.trays

  abbrev pub grant_lane_event : State P → ℕ → Told → Event P
  grant_lane_event s lane answer = lane_event lane (row_of s.crew lane).stage (given_stamp s) answer

  abbrev pub grant_collector_event : State P → Told → Event P
  grant_collector_event s answer = collector_event (in_hand s) s.crew.collector.stage answer

  abbrev pub open_event : State P → OpenCall P → Event P
  open_event s (lay elsewhere n k start) = quiet
  open_event s (begin_post elsewhere lane x) = if_accepted (open_done s (begin_post elsewhere lane x)).answer (began_post lane x)
  open_event s (OpenCall.grant_lane elsewhere lane) = grant_lane_event s lane (open_done s (OpenCall.grant_lane elsewhere lane)).answer
  open_event s OpenCall.begin_collect = if_accepted (open_done s OpenCall.begin_collect).answer began_collect
  open_event s (OpenCall.grant_collector elsewhere) = grant_collector_event s (open_done s (OpenCall.grant_collector elsewhere)).answer
  open_event s OpenCall.settle = quiet
  open_event s (OpenCall.fill lane) = quiet

  abbrev pub draining_event : State P → DrainingCall P → Event P
  draining_event s (DrainingCall.grant_lane elsewhere lane) = grant_lane_event s lane (draining_done s (DrainingCall.grant_lane elsewhere lane)).answer
  draining_event s DrainingCall.begin_collect = if_accepted (draining_done s DrainingCall.begin_collect).answer began_collect
  draining_event s (DrainingCall.grant_collector elsewhere) = grant_collector_event s (draining_done s (DrainingCall.grant_collector elsewhere)).answer
  draining_event s DrainingCall.settle = quiet
  draining_event s (DrainingCall.fill lane) = quiet
  draining_event s report = if_accepted (draining_done s report).answer (totals_event (draining_done s report).answer.values)

  -- the history that a list of calls leaves
  abbrev pub open_events : State P → List (OpenCall P) → List (Event P)
  open_events s [] = []
  open_events s (call ∷ calls) = open_event s call ∷ open_events (open_done s call).state calls

  abbrev pub draining_events : State P → List (DrainingCall P) → List (Event P)
  draining_events s [] = []
  draining_events s (call ∷ calls) = draining_event s call ∷ draining_events (draining_done s call).state calls
