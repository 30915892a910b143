-- Every list of calls keeps the promise: call by call, from the laying on.
use Rattle.std.proofs.Common.{◌≡◌, ℕ, List, [], ◌∷◌, ◌++◌, subst, arith}
use Rattle.line.specs.declared.crew.Core.{Core}
use Rattle.line.specs.Calls.{lays, begins_collect}
use Rattle.line.specs.Crew.{row_of}
use Rattle.order.specs.Events.{Event}
use Rattle.order.specs.Events.Event.{began_collect, began_post, quiet}
use Rattle.order.specs.Logs.{Log, log_from, log_of, log_step, start}
use Rattle.order.specs.Books.{Book, blank, book_from, book_of, book_step}
use Rattle.order.specs.Guards.{AdmittedFrom}
use Rattle.order.specs.Bounds.{CollectsEndBy}
use Rattle.order.proofs.Ordered.{has_order}
use Rattle.order.proofs.Steps.{Kept}
use Rattle.history.specs.Limits.{capacity, most_collect_grants}
use Rattle.history.specs.Happening.{draining_event, draining_events, given_stamp, in_hand, open_event, open_events}
use Rattle.history.specs.Performing.{DrainingCall, OpenCall, State, drain, draining_done, open_done, open_end}
use Rattle.history.specs.Performing.OpenCall.{begin_post, lay}
use Rattle.history.specs.Performing.DrainingCall.{report}
use Rattle.history.specs.Promise.{Accounted, CallsMeetTheGuards, DrainingCallAdmitted, DrainingCallsAdmitted, EveryListOfCallsKeepsThePromise, KeepsPromise, OpenCallAdmitted, OpenCallsAdmitted, laid_state}
use Rattle.history.proofs.Called.{begin_collect_leaves, begin_post_leaves, drain_leaves, fill_leaves, grant_collector_leaves, grant_lane_leaves, lay_leaves, settle_leaves}
use Rattle.history.proofs.Reported.{accepted_unreported, collector_unreported, lane_unreported, report_called, unreported}
use Rattle.history.proofs.Laid.{laid_safe}
use Rattle.history.proofs.Safe.{Leaves, Safe}

module _ {P : Type 0} (n K : ℕ) where
  -- after one call: its event met its guard, the line is as it should be, and the account holds if the call was a report
  pub record GoesWell (g : Log P) (k : Book P) (e : Event P) (S : State P) : Type 0 where
    pub leaves : Leaves n K g k e S
    pub account : Accounted (log_step g e)

  -- after a list of calls
  pub record WentWell (g : Log P) (k : Book P) (es : List (Event P)) (S : State P) : Type 0 where
    pub admitted : AdmittedFrom (capacity K) k es
    pub safe : Safe n K S (log_from g es) (book_from k es)
    pub account : Accounted (log_from g es)

  open_call : (S : State P) (g : Log P) (k : Book P) → Safe n K S g k → (call : OpenCall P) → OpenCallAdmitted S call → GoesWell g k (open_event S call) (open_done S call).state
  open_call S g k v (lay elsewhere lanes cells stamp) (h, _) = record { leaves = lay_leaves n K S g k v elsewhere lanes cells stamp h; account = unreported g quiet tt }
  open_call S g k v (begin_post elsewhere lane x) h =
      record {
        leaves = begin_post_leaves n K S g k v elsewhere lane x h;
        account = unreported g _ (accepted_unreported (open_done S (begin_post elsewhere lane x)).answer (began_post lane x) tt);
      }
  open_call S g k v (OpenCall.grant_lane elsewhere lane) h =
      record {
        leaves = grant_lane_leaves n K S g k v elsewhere lane h;
        account = unreported g _ (lane_unreported P lane (row_of S.crew lane).stage (given_stamp S) (open_done S (OpenCall.grant_lane elsewhere lane)).answer);
      }
  open_call S g k v OpenCall.begin_collect h =
      record { leaves = begin_collect_leaves n K S g k v; account = unreported g _ (accepted_unreported (begins_collect S.crew).answer began_collect tt) }
  open_call S g k v (OpenCall.grant_collector elsewhere) h =
      record {
        leaves = grant_collector_leaves n K S g k v elsewhere h;
        account = unreported g _ (collector_unreported (in_hand S) S.crew.collector.stage (open_done S (OpenCall.grant_collector elsewhere)).answer);
      }
  open_call S g k v OpenCall.settle h = record { leaves = settle_leaves n K S g k v; account = unreported g quiet tt }
  open_call S g k v (OpenCall.fill lane) h = record { leaves = fill_leaves n K S g k v; account = unreported g quiet tt }

  draining_call : (S : State P) (g : Log P) (k : Book P) → Safe n K S g k → (call : DrainingCall P) → DrainingCallAdmitted S call → GoesWell g k (draining_event S call) (draining_done S call).state
  draining_call S g k v (DrainingCall.grant_lane elsewhere lane) h =
      record {
        leaves = grant_lane_leaves n K S g k v elsewhere lane h;
        account = unreported g _ (lane_unreported P lane (row_of S.crew lane).stage (given_stamp S) (draining_done S (DrainingCall.grant_lane elsewhere lane)).answer);
      }
  draining_call S g k v DrainingCall.begin_collect h =
      record { leaves = begin_collect_leaves n K S g k v; account = unreported g _ (accepted_unreported (begins_collect S.crew).answer began_collect tt) }
  draining_call S g k v (DrainingCall.grant_collector elsewhere) h =
      record {
        leaves = grant_collector_leaves n K S g k v elsewhere h;
        account = unreported g _ (collector_unreported (in_hand S) S.crew.collector.stage (draining_done S (DrainingCall.grant_collector elsewhere)).answer);
      }
  draining_call S g k v DrainingCall.settle h = record { leaves = settle_leaves n K S g k v; account = unreported g quiet tt }
  draining_call S g k v (DrainingCall.fill lane) h = record { leaves = fill_leaves n K S g k v; account = unreported g quiet tt }
  draining_call S g k v report h = let (a, b) = report_called n K S g k v in record { leaves = a; account = b }

  -- one call, and then the rest
  and_then : (g : Log P) (k : Book P) (e : Event P) (es : List (Event P)) (S S' : State P) → GoesWell g k e S → WentWell (log_step g e) (book_step k e) es S' → WentWell g k (e ∷ es) S'
  and_then g k e es S S' a b = record { admitted = (a.leaves.admits, b.admitted); safe = b.safe; account = b.account }

  open_calls : (S : State P) (g : Log P) (k : Book P) → Safe n K S g k → Accounted g → (calls : List (OpenCall P)) → OpenCallsAdmitted S calls → WentWell g k (open_events S calls) (open_end S calls)
  open_calls S g k v a [] h = record { admitted = tt; safe = v; account = a }
  open_calls S g k v a (call ∷ calls) (h, hs) =
      let one = open_call S g k v call h in
      and_then g k (open_event S call) (open_events (open_done S call).state calls) (open_done S call).state (open_end (open_done S call).state calls) one
      (open_calls (open_done S call).state (log_step g (open_event S call)) (book_step k (open_event S call)) one.leaves.safe one.account calls hs)

  draining_calls : (S : State P) (g : Log P) (k : Book P) → Safe n K S g k → Accounted g → (calls : List (DrainingCall P)) → DrainingCallsAdmitted S calls → (S' : State P) × WentWell g k (draining_events S calls) S'
  draining_calls S g k v a [] h = (S, record { admitted = tt; safe = v; account = a })
  draining_calls S g k v a (call ∷ calls) (h, hs) =
      let one = draining_call S g k v call h in
      let (S', more) = draining_calls (draining_done S call).state (log_step g (draining_event S call)) (book_step k (draining_event S call)) one.leaves.safe one.account calls hs in
      (S', and_then g k (draining_event S call) (draining_events (draining_done S call).state calls) (draining_done S call).state S' one more)

  -- two histories, one after the other
  joined : (es fs : List (Event P)) (g : Log P) (k : Book P) (S S' : State P) → WentWell g k es S → WentWell (log_from g es) (book_from k es) fs S' → WentWell g k (es ++ fs) S'
  joined [] fs g k S S' a b = b
  joined (e ∷ es) fs g k S S' a b =
      let rest = joined es fs (log_step g e) (book_step k e) S S' (record { admitted = a.admitted.1; safe = a.safe; account = a.account }) b in
      record { admitted = (a.admitted.0, rest.admitted); safe = rest.safe; account = rest.account }

  -- what the promise says of the log
  pub keeps : (es : List (Event P)) (S : State P) → WentWell start blank es S → KeepsPromise n K (log_of es)
  keeps es S w =
      let v = w.safe in
      record {
        order = has_order (capacity K) (log_of es) (book_of es) (subst (λ (x : ℕ). Kept (capacity x) (log_of es) (book_of es)) v.KIs v.ledger.kept);
        posts = v.ledger.posts;
        collects = subst (λ (x : ℕ). CollectsEndBy (most_collect_grants x) (log_of es)) v.n_is v.ledger.collects;
        account = w.account;
      }

-- every history that a line leaves, from its laying on
module _ {P : Type 0} (ws : List ℕ) (ps : List P) (c : Core) (n k stamp : ℕ) (accepted : (lays ws ps c n k stamp).answer.number ≡ 0) where
  abbrev laid : State P
  laid = laid_state ws ps c n k stamp

  open_well : (before : List (OpenCall P)) → OpenCallsAdmitted laid before → WentWell n k start blank (open_events laid before) (open_end laid before)
  open_well before h = open_calls n k laid start blank (laid_safe ws ps n k stamp c accepted) (λ p d e. let z : ◌≡◌ {A = ℕ} 0 1 = cc in absurd (omega arith)) before h

  drained_well : (before : List (OpenCall P)) → OpenCallsAdmitted laid before → (behind : List (DrainingCall P)) → DrainingCallsAdmitted (drain (open_end laid before)) behind
      → (S' : State P) × WentWell n k start blank (open_events laid before ++ quiet ∷ draining_events (drain (open_end laid before)) behind) S'
  drained_well before h behind i =
      let first = open_well before h in
      let g = log_from start (open_events laid before) in
      let b = book_from blank (open_events laid before) in
      let drains = drain_leaves n k (open_end laid before) g b first.safe in
      let (S', more) = draining_calls n k (drain (open_end laid before)) (log_step g quiet) (book_step b quiet) drains.safe (unreported g quiet tt) behind i in (
        S',
        joined n k (open_events laid before) (quiet ∷ draining_events (drain (open_end laid before)) behind) start blank (open_end laid before) S' first
            (record { admitted = (drains.admits, more.admitted); safe = more.safe; account = more.account }),
      )

pub calls_meet_the_guards : (P : Type 0) → CallsMeetTheGuards P
calls_meet_the_guards P ws ps c n k stamp accepted before h =
    ((open_well ws ps c n k stamp accepted before h).admitted, λ behind i. (drained_well ws ps c n k stamp accepted before h behind i).1.admitted)

pub every_list_of_calls_keeps_the_promise : (P : Type 0) → EveryListOfCallsKeepsThePromise P
every_list_of_calls_keeps_the_promise P ws ps c n k stamp accepted before h = (
  keeps n k (open_events (laid_state ws ps c n k stamp) before) _ (open_well ws ps c n k stamp accepted before h),
  λ behind i. let (S', w) = drained_well ws ps c n k stamp accepted before h behind i in keeps n k (open_events (laid_state ws ps c n k stamp) before ++ quiet ∷ draining_events (drain (open_end (laid_state ws ps c n k stamp) before)) behind) S' w,
)
