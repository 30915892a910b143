-- What is counted along a history: the invariant of the order, the grants of what is under way, the bounds, and the totals.
--
-- rank      how many grants a post has had when it is at a stage
-- few       how many grants a collect of n lanes has had at most when it is that far
use Rattle.std.proofs.Common.{◌≡◌, ℕ, suc, ◌+◌, ◌*◌, ◌<◌, ◌≤◌, sym, refl, ap, ◌∙◌, arith}
use mathlib.Core.Option.{Option, none, some}
use Rattle.std.proofs.lemmas.Bool.{ne_eqb, eq-eqb}
use Rattle.line.specs.declared.lane.Attempt.{Attempt}
use Rattle.line.specs.declared.lane.Attempt.TheVariants.{First, Second}
use Rattle.line.specs.declared.lane.Stage.{Stage}
use Rattle.line.specs.declared.lane.Stage.TheVariants.{AtRest, TestSpace, TakeStamp, FillCell, MarkCell, Publish, Look, LoadHead, LoadFront, SwapSlot}
use Rattle.line.specs.Post.{one_more}
use Rattle.order.specs.SingleFile.{Frame, frame_of}
use Rattle.order.specs.Events.{CollectEnd, Event, PostEnd}
use Rattle.order.specs.Events.Event.{began_collect, began_post, ended_collect, ended_post, freed, quiet, reported, stepped_collector, stepped_lane, took}
use Rattle.order.specs.Logs.{Collecting, Log, Posting, collect_fetch, collect_step, log_collect_end, log_post_end, log_step, post_step, post_take}
use Rattle.order.specs.Books.{Book, book_step}
use Rattle.order.specs.Guards.{Admits}
use Rattle.order.specs.Bounds.{CollectsEndBy, PostsEndBy}
use Rattle.order.specs.Accounts.{number_delivered, number_posted}
use Rattle.order.specs.Tables.{upd}
use Rattle.order.proofs.Steps.{Kept, kept_step}
use Rattle.order.proofs.GrantBounds.{CollectGoesOn, CollectStaysBelow, PostGoesOn, PostStaysBelow, collects_end_step, posts_end_step}
use Rattle.order.proofs.Totals.{one_delivered, one_posted, totals_step}
use Rattle.order.proofs.Agreement.{posting}
use Rattle.history.specs.Limits.{as_total, capacity, most_collect_grants, most_post_grants}
use Rattle.history.proofs.Lanes.{LaneModel}
use Rattle.history.proofs.Model.{LineModel, Progress}
use Rattle.history.proofs.Model.Progress.{rest, scan, scan_kept, again, fetch, frees, looking, tailing, fronting, swapping}
use Rattle.history.proofs.LaneTies.{by_lane}

abbrev pub tries : Attempt → ℕ → ℕ
tries First n = n
tries Second n = n + 4

pub tries_more : (j : Attempt) (n : ℕ) → tries j (suc n) ≡ suc (tries j n)
tries_more First n = refl
tries_more Second n = omega arith

-- a post before its last swap has one more grant to go
pub tries_few : (j : Attempt) (n : ℕ) → n ≤ 7 → suc (tries j n) < most_post_grants
tries_few First n h = omega arith
tries_few Second n h = omega arith

-- a collect before its last swap likewise
pub few_tries : (n x : ℕ) (j : Attempt) (a b : ℕ) → a < b → b ≤ 4 → x ≤ 2 * n + tries j a → (suc x ≤ 2 * n + tries j b) × (suc x < most_collect_grants n)
few_tries n x First a b h l f = (omega arith, omega arith)
few_tries n x Second a b h l f = (omega arith, omega arith)

abbrev pub rank : Stage → ℕ
rank AtRest = 0
rank TestSpace = 0
rank TakeStamp = 1
rank (FillCell s) = 2
rank (MarkCell s) = 3
rank (Publish s) = 4
rank (Look j s) = tries j 5
rank (LoadHead j s v) = tries j 6
rank (LoadFront j s v h) = tries j 7
rank (SwapSlot j s v) = tries j 8

abbrev pub Few : ℕ → ℕ → Progress → Type 0
Few n x rest = Unit {0}
Few n x (scan i) = x ≤ i
Few n x (scan_kept i b m) = x ≤ i
Few n x (again i b r m) = x ≤ n + i
Few n x (fetch r m) = suc x ≤ 2 * n
Few n x (frees r m) = x ≤ 2 * n
Few n x (looking r j m) = x ≤ 2 * n + tries j 1
Few n x (tailing r j m v) = x ≤ 2 * n + tries j 2
Few n x (fronting r j m v) = x ≤ 2 * n + tries j 3
Few n x (swapping r j m v w) = x ≤ 2 * n + tries j 4

module _ {P : Type 0} where
  abbrev pub PostCount : Option (Posting P) → Stage → Type 0
  PostCount none g = Unit {0}
  PostCount (some p) g = p.grants ≡ rank g

  abbrev pub CollectCount : ℕ → Option (Collecting P) → Progress → Type 0
  CollectCount n none g = Unit {0}
  CollectCount n (some c) g = Few n c.grants g

pub record Ledger {P : Type 0} (s : LineModel) (posted delivered : ℕ) (g : Log P) (k : Book P) : Type 0 where
  pub kept : Kept (capacity s.K) g k
  pub posts : PostsEndBy most_post_grants g
  pub collects : CollectsEndBy (most_collect_grants s.n) g
  pub post_counts : (q : ℕ) → PostCount (g.posts q) (s.lanes q).stage
  pub collect_counts : CollectCount s.n g.collecting s.col
  pub posted_is : posted ≡ as_total (number_posted g.ended)
  pub delivered_is : delivered ≡ as_total (number_delivered g.ended)

-- a total and its count go up together
pub total_more : (n : ℕ) → one_more (as_total n) ≡ as_total (1 + n)
total_more n = omega arith

pub total_same : (n : ℕ) → as_total n ≡ as_total (0 + n)
total_same n = omega arith

module _ {P : Type 0} (s : LineModel) (p d : ℕ) (g : Log P) (k : Book P) (v : Ledger s p d g k) where
  ledger_step : (e : Event P) (s' : LineModel) (p' d' : ℕ) → Admits (capacity s.K) k e → s'.n ≡ s.n → s'.K ≡ s.K → PostStaysBelow most_post_grants g e → CollectStaysBelow (most_collect_grants s.n) g e
      → ((q : ℕ) → PostCount ((log_step g e).posts q) (s'.lanes q).stage) → CollectCount s.n (log_step g e).collecting s'.col
      → p' ≡ as_total (one_posted e + number_posted g.ended) → d' ≡ as_total (one_delivered e + number_delivered g.ended)
      → Ledger s' p' d' (log_step g e) (book_step k e)
  ledger_step e s' p' d' a n_is KIs pb cb pc cc' pt dt =
      let grows = totals_step (capacity s.K) g k v.kept.agree e a in
      record {
        kept = rw KIs (kept_step (capacity s.K) g k v.kept e a);
        posts = posts_end_step most_post_grants g e v.posts pb;
        collects = rw n_is (collects_end_step (most_collect_grants s.n) g e v.collects cb);
        post_counts = pc;
        collect_counts = rw n_is cc';
        posted_is = pt ∙ ap as_total (sym grows.posted);
        delivered_is = dt ∙ ap as_total (sym grows.delivered);
      }

  abbrev same_p : p ≡ as_total (0 + number_posted g.ended)
  same_p = v.posted_is ∙ total_same (number_posted g.ended)

  abbrev same_d : d ≡ as_total (0 + number_delivered g.ended)
  same_d = v.delivered_is ∙ total_same (number_delivered g.ended)

  pub ledger_quiet : (s' : LineModel) → s'.n ≡ s.n → s'.K ≡ s.K → s'.lanes ≡ s.lanes → s'.col ≡ s.col → Ledger s' p d (log_step g quiet) (book_step k quiet)
  ledger_quiet s' n_is KIs l c = ledger_step quiet s' p d tt n_is KIs tt tt (λ q. rw l (v.post_counts q)) (rw c v.collect_counts) same_p same_d

  pub ledger_reported : (s' : LineModel) (a b : ℕ) → s'.n ≡ s.n → s'.K ≡ s.K → s'.lanes ≡ s.lanes → s'.col ≡ s.col → Ledger s' p d (log_step g (reported a b)) (book_step k (reported a b))
  ledger_reported s' a b n_is KIs l c = ledger_step (reported a b) s' p d tt n_is KIs tt tt (λ q. rw l (v.post_counts q)) (rw c v.collect_counts) same_p same_d

  module _ (r : ℕ) (l : LaneModel) (s' : LineModel) (n_is : s'.n ≡ s.n) (KIs : s'.K ≡ s.K) (lanes-are : s'.lanes ≡ upd s.lanes r l) (col-is : s'.col ≡ s.col) where
    counts_upd : (o : Option (Posting P)) → PostCount o l.stage → (q : ℕ) → PostCount (upd g.posts r o q) (s'.lanes q).stage
    counts_upd o h =
        by_lane r (λ q. PostCount (upd g.posts r o q) (s'.lanes q).stage)
        (rw (lanes-are, eq-eqb r r refl) h) (λ q n. rw (lanes-are, ne_eqb q r n) (v.post_counts q))

    pub ledger_began_post : (x : P) → Admits (capacity s.K) k (began_post r x) → l.stage ≡ TestSpace → Ledger s' p d (log_step g (began_post r x)) (book_step k (began_post r x))
    ledger_began_post x a e =
        ledger_step (began_post r x) s' p d a n_is KIs (omega arith) tt (counts_upd (some (posting g.now x none 0)) (rw e refl)) (rw col-is v.collect_counts) same_p same_d

    below : (o : Option (Posting P)) (c : Stage) → PostCount o c → suc (rank c) < most_post_grants → PostGoesOn most_post_grants o
    below none c h b = tt
    below (some w) c h b = omega arith

    stepped_count : (o : Option (Posting P)) (c : Stage) → PostCount o c → rank l.stage ≡ suc (rank c) → PostCount (post_step o) l.stage
    stepped_count none c h b = tt
    stepped_count (some w) c h b = ap suc h ∙ sym b

    took_count : (x : ℕ) (o : Option (Posting P)) (c : Stage) → PostCount o c → rank l.stage ≡ suc (rank c) → PostCount (post_take x o) l.stage
    took_count x none c h b = tt
    took_count x (some w) c h b = ap suc h ∙ sym b

    pub ledger_stepped_lane : rank l.stage ≡ suc (rank (s.lanes r).stage) → suc (rank (s.lanes r).stage) < most_post_grants → Ledger s' p d (log_step g (stepped_lane r)) (book_step k (stepped_lane r))
    ledger_stepped_lane e b =
        ledger_step (stepped_lane r) s' p d tt n_is KIs (below (g.posts r) (s.lanes r).stage (v.post_counts r) b) tt
        (counts_upd (post_step (g.posts r)) (stepped_count (g.posts r) (s.lanes r).stage (v.post_counts r) e)) (rw col-is v.collect_counts) same_p same_d

    pub ledger_took : (x : ℕ) → Admits (capacity s.K) k (took r x) → rank l.stage ≡ suc (rank (s.lanes r).stage) → suc (rank (s.lanes r).stage) < most_post_grants → Ledger s' p d (log_step g (took r x)) (book_step k (took r x))
    ledger_took x a e b =
        ledger_step (took r x) s' p d a n_is KIs (below (g.posts r) (s.lanes r).stage (v.post_counts r) b) tt
        (counts_upd (post_take x (g.posts r)) (took_count x (g.posts r) (s.lanes r).stage (v.post_counts r) e)) (rw col-is v.collect_counts) same_p same_d

    ended_counts : (how : PostEnd) (o : Option (Posting P)) → g.posts r ≡ o → (q : ℕ) → PostCount ((log_post_end g r how o).posts q) (s'.lanes q).stage
    ended_counts how none e =
        by_lane r (λ q. PostCount (g.posts q) (s'.lanes q).stage) (rw e tt) (λ q n. rw (lanes-are, ne_eqb q r n) (v.post_counts q))
    ended_counts how (some w) e = counts_upd none tt

    ended_collecting : (how : PostEnd) (o : Option (Posting P)) → CollectCount s.n (log_post_end g r how o).collecting s'.col
    ended_collecting how none = rw col-is v.collect_counts
    ended_collecting how (some w) = rw col-is v.collect_counts

    pub ledger_ended_post : (how : PostEnd) (p' : ℕ) → Admits (capacity s.K) k (ended_post r how) → p' ≡ as_total (one_posted {P = P} (ended_post r how) + number_posted g.ended) → Ledger s' p' d (log_step g (ended_post r how)) (book_step k (ended_post r how))
    ledger_ended_post how p' a e =
        ledger_step (ended_post r how) s' p' d a n_is KIs tt tt (ended_counts how (g.posts r) refl) (ended_collecting how (g.posts r)) e same_d

  -- the collector; the stages of the lanes stay
  module _ (s' : LineModel) (n_is : s'.n ≡ s.n) (KIs : s'.K ≡ s.K) (stages : (q : ℕ) → (s'.lanes q).stage ≡ (s.lanes q).stage) where
    same_counts : (q : ℕ) → PostCount (g.posts q) (s'.lanes q).stage
    same_counts q = rw (stages q) (v.post_counts q)

    pub ledger_began_collect : Admits (capacity s.K) k began_collect → s'.col ≡ scan 0 → Ledger s' p d (log_step g began_collect) (book_step k began_collect)
    ledger_began_collect a e = ledger_step began_collect s' p d a n_is KIs tt (omega arith) same_counts (rw e (omega arith)) same_p same_d

    module _ (on : (x : ℕ) → Few s.n x s.col → Few s.n (suc x) s'.col × (suc x < most_collect_grants s.n)) where
      collect_below : (o : Option (Collecting P)) → CollectCount s.n o s.col → CollectGoesOn (most_collect_grants s.n) o
      collect_below none h = tt
      collect_below (some w) h = (on w.grants h).1

      stepped_few : (o : Option (Collecting P)) → CollectCount s.n o s.col → CollectCount s.n (collect_step o) s'.col
      stepped_few none h = tt
      stepped_few (some w) h = (on w.grants h).0

      fetched_few : (f : Frame P) (o : Option (Collecting P)) → CollectCount s.n o s.col → CollectCount s.n (collect_fetch f o) s'.col
      fetched_few f none h = tt
      fetched_few f (some w) h = (on w.grants h).0

      pub ledger_stepped_collector : Ledger s' p d (log_step g stepped_collector) (book_step k stepped_collector)
      ledger_stepped_collector =
          ledger_step stepped_collector s' p d tt n_is KIs tt (collect_below g.collecting v.collect_counts) same_counts (stepped_few g.collecting v.collect_counts) same_p same_d

      pub ledger_freed : (r m : ℕ) (x : P) → Admits (capacity s.K) k (freed r m x) → Ledger s' p d (log_step g (freed r m x)) (book_step k (freed r m x))
      ledger_freed r m x a =
          ledger_step (freed r m x) s' p d a n_is KIs tt (collect_below g.collecting v.collect_counts) same_counts (fetched_few (frame_of r m x) g.collecting v.collect_counts) same_p same_d

    ended_posts : (how : CollectEnd) (o : Option (Collecting P)) (q : ℕ) → PostCount ((log_collect_end g how o).posts q) (s'.lanes q).stage
    ended_posts how none q = same_counts q
    ended_posts how (some w) q = same_counts q

    ended_few : (how : CollectEnd) (o : Option (Collecting P)) → g.collecting ≡ o → CollectCount s.n (log_collect_end g how o).collecting s'.col
    ended_few how none e = rw e tt
    ended_few how (some w) e = tt

    pub ledger_ended_collect : (how : CollectEnd) (d' : ℕ) → Admits (capacity s.K) k (ended_collect how) → d' ≡ as_total (one_delivered {P = P} (ended_collect how) + number_delivered g.ended) → Ledger s' p d' (log_step g (ended_collect how)) (book_step k (ended_collect how))
    ledger_ended_collect how d' a e =
        ledger_step (ended_collect how) s' p d' a n_is KIs tt tt (ended_posts how g.collecting) (ended_few how g.collecting refl) same_p e
