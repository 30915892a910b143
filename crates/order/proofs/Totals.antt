-- How the numbers of frames posted and delivered grow: by one at the event that answers so, and at no other.
use Rattle.std.proofs.Common.{◌≡◌, ℕ, ◌+◌, List, sym, subst, arith}
use mathlib.Core.Option.{Option, none, some}
use Rattle.order.specs.Events.{CollectEnd, Event, PostEnd}
use Rattle.order.specs.Events.PostEnd.{as_full, as_posted, as_used_up}
use Rattle.order.specs.Events.CollectEnd.{as_delivered, as_empty}
use Rattle.order.specs.Events.Event.{began_collect, began_post, ended_collect, ended_post, freed, quiet, reported, stepped_collector, stepped_lane, took}
use Rattle.order.specs.Logs.{Collecting, Ended, Log, Posting, log_collect_end, log_post_end, log_step}
use Rattle.order.specs.Books.{Book, Collect, Post}
use Rattle.order.specs.Books.Post.{begun, gone, idle, stamped}
use Rattle.order.specs.Books.Collect.{at_rest, holding, looking}
use Rattle.order.specs.Guards.{Admits, Answers, FindsNone, Holds, Unstamped}
use Rattle.order.specs.Accounts.{number_delivered, number_posted}
use Rattle.order.proofs.Agreement.{Agree, Shows, ShowsCollect, collecting_of, posting}

abbrev pub one_posted : {P : Type 0} → Event P → ℕ
one_posted (began_post r x) = 0
one_posted (took r s) = 0
one_posted (ended_post r (as_posted a)) = 1
one_posted (ended_post r as_full) = 0
one_posted (ended_post r as_used_up) = 0
one_posted began_collect = 0
one_posted (freed r s x) = 0
one_posted (ended_collect how) = 0
one_posted (stepped_lane r) = 0
one_posted stepped_collector = 0
one_posted (reported p d) = 0
one_posted quiet = 0

abbrev pub one_delivered : {P : Type 0} → Event P → ℕ
one_delivered (began_post r x) = 0
one_delivered (took r s) = 0
one_delivered (ended_post r how) = 0
one_delivered began_collect = 0
one_delivered (freed r s x) = 0
one_delivered (ended_collect as_empty) = 0
one_delivered (ended_collect (as_delivered l s)) = 1
one_delivered (stepped_lane r) = 0
one_delivered stepped_collector = 0
one_delivered (reported p d) = 0
one_delivered quiet = 0

pub record Grows {P : Type 0} (e : Event P) (ds ds' : List (Ended P)) : Type 0 where
  pub posted : number_posted ds' ≡ one_posted e + number_posted ds
  pub delivered : number_delivered ds' ≡ one_delivered e + number_delivered ds

module _ {P : Type 0} (cap : ℕ) (g : Log P) (k : Book P) (a : Agree g k) where
  -- a lane whose post may end has one in the log
  unstamped_under_way : (p : Post P) (q : Option (Posting P)) → Shows p q → Unstamped p → (w : Posting P) × (q ≡ some w)
  unstamped_under_way idle q s h = absurd h
  unstamped_under_way (begun b x) q (n, e) h = (posting b x none n, e)
  unstamped_under_way (stamped b x u t) q s h = absurd h
  unstamped_under_way (gone b x u) q s h = absurd h

  answering_under_way : (c : ℕ) (p : Post P) (q : Option (Posting P)) → Shows p q → Answers c p → (w : Posting P) × (q ≡ some w)
  answering_under_way c idle q s h = absurd h
  answering_under_way c (begun b x) q s h = absurd h
  answering_under_way c (stamped b x u t) q (n, e) h = (posting b x (some u) n, e)
  answering_under_way c (gone b x u) q (n, e) h = (posting b x (some u) n, e)

  looking_under_way : (c : Collect P) (q : Option (Collecting P)) → ShowsCollect c q → FindsNone k c → (w : Collecting P) × (q ≡ some w)
  looking_under_way at_rest q s h = absurd h
  looking_under_way (looking b) q (n, e) h = (collecting_of b none n, e)
  looking_under_way (holding b f) q s h = absurd h

  holding_under_way : (l u : ℕ) (c : Collect P) (q : Option (Collecting P)) → ShowsCollect c q → Holds l u c → (w : Collecting P) × (q ≡ some w)
  holding_under_way l u at_rest q s h = absurd h
  holding_under_way l u (looking b) q s h = absurd h
  holding_under_way l u (holding b f) q (n, e) h = (collecting_of b (some f) n, e)

  -- the post, or the collect, that is under way ends
  post_grows :
      (r : ℕ) (how : PostEnd) → (w : Posting P) × (g.posts r ≡ some w)
      → ((w : Posting P) → Grows (ended_post r how) g.ended (log_post_end g r how (some w)).ended) → Grows (ended_post r how) g.ended (log_post_end g r how (g.posts r)).ended
  post_grows r how (w, e) h = subst (λ (q : Option (Posting P)). Grows (ended_post r how) g.ended (log_post_end g r how q).ended) (sym e) (h w)

  collect_grows :
      (how : CollectEnd) → (w : Collecting P) × (g.collecting ≡ some w)
      → ((w : Collecting P) → Grows (ended_collect how) g.ended (log_collect_end g how (some w)).ended) → Grows (ended_collect how) g.ended (log_collect_end g how g.collecting).ended
  collect_grows how (w, e) h = subst (λ (q : Option (Collecting P)). Grows (ended_collect how) g.ended (log_collect_end g how q).ended) (sym e) (h w)

  pub totals_step : (e : Event P) → Admits cap k e → Grows e g.ended (log_step g e).ended
  totals_step (began_post r x) h = record { posted = omega arith; delivered = omega arith }
  totals_step (took r s) h = record { posted = omega arith; delivered = omega arith }
  totals_step (ended_post r (as_posted c)) h =
      post_grows r (as_posted c) (answering_under_way c (k.posts r) (g.posts r) (a.posts r) h) (λ w. record { posted = omega arith; delivered = omega arith })
  totals_step (ended_post r as_full) h =
      post_grows r as_full (unstamped_under_way (k.posts r) (g.posts r) (a.posts r) h.0) (λ w. record { posted = omega arith; delivered = omega arith })
  totals_step (ended_post r as_used_up) h =
      post_grows r as_used_up (unstamped_under_way (k.posts r) (g.posts r) (a.posts r) h) (λ w. record { posted = omega arith; delivered = omega arith })
  totals_step began_collect h = record { posted = omega arith; delivered = omega arith }
  totals_step (freed r s x) h = record { posted = omega arith; delivered = omega arith }
  totals_step (ended_collect as_empty) h =
      collect_grows as_empty (looking_under_way k.collect g.collecting a.collect h) (λ w. record { posted = omega arith; delivered = omega arith })
  totals_step (ended_collect (as_delivered l s)) h =
      collect_grows (as_delivered l s) (holding_under_way l s k.collect g.collecting a.collect h) (λ w. record { posted = omega arith; delivered = omega arith })
  totals_step (stepped_lane r) h = record { posted = omega arith; delivered = omega arith }
  totals_step stepped_collector h = record { posted = omega arith; delivered = omega arith }
  totals_step (reported p d) h = record { posted = omega arith; delivered = omega arith }
  totals_step quiet h = record { posted = omega arith; delivered = omega arith }
