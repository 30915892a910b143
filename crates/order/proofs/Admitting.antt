-- Whether a history over numbers meets the guards, by computing. Only lanes on which a post ended can have frames that wait.
use Rattle.std.proofs.Common.{◌≡◌, ℕ, ◌<◌, Bool, true, false, ◌&&◌, eqb, ltb, leb, ◌⊎◌, List, [], ◌∷◌, ◌++◌, length, sym, refl, ◌∙◌, subst, inl, inr, arith}
use Rattle.std.specs.List.{AllByRecursion}
use Rattle.std.proofs.ByRecursion.{All-weaker}
use Rattle.std.proofs.lemmas.Bool.{and_parts, eqb-true, false≢true, leb-true, ltb-true}
use Rattle.order.specs.Tables.{In}
use Rattle.order.specs.SingleFile.{Frame, frame_of}
use Rattle.order.specs.Events.{Event}
use Rattle.order.specs.Events.PostEnd.{as_full, as_posted, as_used_up}
use Rattle.order.specs.Events.CollectEnd.{as_delivered, as_empty}
use Rattle.order.specs.Events.Event.{began_collect, began_post, ended_collect, ended_post, freed, quiet, reported, stepped_collector, stepped_lane, took}
use Rattle.order.specs.Logs.{log_of}
use Rattle.order.specs.Orders.{SingleFileOrder}
use Rattle.order.specs.Books.{Book, Collect, Post, Waiting, book_free, book_free_from, book_posted, book_step, book_take, waits_now}
use Rattle.order.specs.Books.Post.{begun, gone, idle, stamped}
use Rattle.order.specs.Books.Collect.{at_rest, holding, looking}
use Rattle.order.specs.Guards.{Admits, Admitted, AdmittedFrom, Answers, FindsNone, Frees, Holds, Late, Oldest, OwnFrame, Unstamped}
use Rattle.order.proofs.Lists.{all_in, upd_all}
use Rattle.order.proofs.Ordered.{guarded_histories_have_order}
use Rattle.order.proofs.Deciding.{all, all_true, same_frame, same_frame_true}

abbrev ending_lane : Event ℕ → List ℕ
ending_lane (began_post r x) = []
ending_lane (took r s) = []
ending_lane (ended_post r how) = r ∷ []
ending_lane began_collect = []
ending_lane (freed r s x) = []
ending_lane (ended_collect how) = []
ending_lane (stepped_lane r) = []
ending_lane stepped_collector = []
ending_lane (reported p d) = []
ending_lane quiet = []

abbrev pub CoversWaiting : (ℕ → List (Waiting ℕ)) → List ℕ → Type 0
CoversWaiting waiting lanes = (r : ℕ) → (waiting r ≡ []) ⊎ In r lanes

module _ (k : Book ℕ) (lanes : List ℕ) (c : CoversWaiting k.waiting lanes) where
  covers_took : (r s : ℕ) (p : Post ℕ) → CoversWaiting (book_take k r s p).waiting lanes
  covers_took r s idle = c
  covers_took r s (begun b x) = c
  covers_took r s (stamped b x u t) = c
  covers_took r s (gone b x u) = c

  covers_one_more : (r l : ℕ) → (k.waiting l ≡ []) ⊎ In l (r ∷ lanes)
  covers_one_more r l = elim (c l) [ inl e ↦ inl e | inr i ↦ inr (inr i) ]

  covers_posted : (r : ℕ) (p : Post ℕ) → CoversWaiting (book_posted k r p).waiting (r ∷ lanes)
  covers_posted r idle = covers_one_more r
  covers_posted r (begun b x) = covers_one_more r
  covers_posted r (stamped b x s t) =
      upd_all (λ l ws. (ws ≡ []) ⊎ In l (r ∷ lanes)) k.waiting r (k.waiting r ++ waits_now k r b x s t ∷ []) (inr (inl refl)) (λ l _. covers_one_more r l)
  covers_posted r (gone b x s) = covers_one_more r

  covers_freed_from : (b r : ℕ) (f : Frame ℕ) (ws : List (Waiting ℕ)) → k.waiting r ≡ ws → CoversWaiting (book_free_from k b r f ws).waiting lanes
  covers_freed_from b r f [] e = c
  covers_freed_from b r f (w ∷ ws) e =
      upd_all (λ l us. (us ≡ []) ⊎ In l lanes) k.waiting r ws
      (elim (c r) [ inl n ↦ absurd (let z : w ∷ ws ≡ [] = sym e ∙ n in let y : ◌≡◌ {A = ℕ} 0 1 = cc in omega arith) | inr i ↦ inr i ]) (λ l _. c l)

  covers_freed : (f : Frame ℕ) (s : Collect ℕ) → CoversWaiting (book_free k f s).waiting lanes
  covers_freed f at_rest = c
  covers_freed f (looking b) = covers_freed_from b f.lane f (k.waiting f.lane) refl
  covers_freed f (holding b h) = c

  covers_next : (e : Event ℕ) → CoversWaiting (book_step k e).waiting (ending_lane e ++ lanes)
  covers_next (began_post r x) = c
  covers_next (took r s) = covers_took r s (k.posts r)
  covers_next (ended_post r (as_posted a)) = covers_posted r (k.posts r)
  covers_next (ended_post r as_full) = covers_one_more r
  covers_next (ended_post r as_used_up) = covers_one_more r
  covers_next began_collect = c
  covers_next (freed r s x) = covers_freed (frame_of r s x) k.collect
  covers_next (ended_collect how) = c
  covers_next (stepped_lane r) = c
  covers_next stepped_collector = c
  covers_next (reported p d) = c
  covers_next quiet = c

-- the guards as tests
abbrev is_idle : Post ℕ → Bool
is_idle idle = true
is_idle (begun b x) = false
is_idle (stamped b x s t) = false
is_idle (gone b x s) = false

abbrev unstamped : Post ℕ → Bool
unstamped idle = false
unstamped (begun b x) = true
unstamped (stamped b x s t) = false
unstamped (gone b x s) = false

abbrev answers : ℕ → Post ℕ → Bool
answers a idle = false
answers a (begun b x) = false
answers a (stamped b x s t) = eqb a s
answers a (gone b x s) = eqb a s

abbrev late : List ℕ → Book ℕ → ℕ → Bool
late lanes k t = all (λ r. all (λ w. ltb t w.end) (k.waiting r)) lanes

abbrev own_frame : List ℕ → Book ℕ → Frame ℕ → Post ℕ → Bool
own_frame lanes k f idle = false
own_frame lanes k f (begun b x) = false
own_frame lanes k f (stamped b x s t) = eqb f.stamp s && (eqb f.payload x && late lanes k t)
own_frame lanes k f (gone b x s) = false

abbrev oldest : List ℕ → Book ℕ → Frame ℕ → List (Waiting ℕ) → Bool
oldest lanes k f [] = own_frame lanes k f (k.posts f.lane)
oldest lanes k f (w ∷ ws) = same_frame w.frame f && late lanes k w.take

abbrev at_collect : Collect ℕ → Bool → (ℕ → Bool) → (Frame ℕ → Bool) → Bool
at_collect at_rest z l h = z
at_collect (looking b) z l h = l b
at_collect (holding b f) z l h = h f

abbrev admits : ℕ → List ℕ → Book ℕ → Event ℕ → Bool
admits cap lanes k (began_post r x) = is_idle (k.posts r)
admits cap lanes k (took r s) = unstamped (k.posts r) && (ltb (length (k.waiting r)) cap && leb k.top s)
admits cap lanes k (ended_post r (as_posted a)) = answers a (k.posts r)
admits cap lanes k (ended_post r as_full) = unstamped (k.posts r) && eqb (length (k.waiting r)) cap
admits cap lanes k (ended_post r as_used_up) = unstamped (k.posts r)
admits cap lanes k began_collect = at_collect k.collect true (λ b. false) (λ f. false)
admits cap lanes k (freed r s x) = at_collect k.collect false (λ b. oldest lanes k (frame_of r s x) (k.waiting r)) (λ f. false)
admits cap lanes k (ended_collect as_empty) = at_collect k.collect false (λ b. late lanes k b) (λ f. false)
admits cap lanes k (ended_collect (as_delivered l s)) = at_collect k.collect false (λ b. false) (λ f. eqb l f.lane && eqb s f.stamp)
admits cap lanes k (stepped_lane r) = true
admits cap lanes k stepped_collector = true
admits cap lanes k (reported p d) = true
admits cap lanes k quiet = true

abbrev pub admitted : ℕ → List ℕ → Book ℕ → List (Event ℕ) → Bool
admitted cap lanes k [] = true
admitted cap lanes k (e ∷ es) = admits cap lanes k e && admitted cap (ending_lane e ++ lanes) (book_step k e) es

is_idle_true : (p : Post ℕ) → is_idle p ≡ true → p ≡ idle
is_idle_true idle e = refl
is_idle_true (begun b x) e = absurd (false≢true e)
is_idle_true (stamped b x s t) e = absurd (false≢true e)
is_idle_true (gone b x s) e = absurd (false≢true e)

unstamped_true : (p : Post ℕ) → unstamped p ≡ true → Unstamped p
unstamped_true idle e = absurd (false≢true e)
unstamped_true (begun b x) e = tt
unstamped_true (stamped b x s t) e = absurd (false≢true e)
unstamped_true (gone b x s) e = absurd (false≢true e)

answers_true : (a : ℕ) (p : Post ℕ) → answers a p ≡ true → Answers a p
answers_true a idle e = absurd (false≢true e)
answers_true a (begun b x) e = absurd (false≢true e)
answers_true a (stamped b x s t) e = eqb-true a s e
answers_true a (gone b x s) e = eqb-true a s e

module _ (cap : ℕ) (lanes : List ℕ) (k : Book ℕ) (c : CoversWaiting k.waiting lanes) where
  late_true : (t : ℕ) → late lanes k t ≡ true → Late k t
  late_true t e r =
      elim (c r) [
        | inl n ↦ subst (AllByRecursion (λ (w : Waiting ℕ). t < w.end)) (sym n) tt
        | inr i ↦ All-weaker (λ (w : Waiting ℕ). ltb t w.end ≡ true) (λ (w : Waiting ℕ). t < w.end) (λ w h. ltb-true t w.end h) (k.waiting r) (all_true (λ (w : Waiting ℕ). ltb t w.end) (k.waiting r) (all_in (λ (r : ℕ). all (λ w. ltb t w.end) (k.waiting r) ≡ true) r lanes i (all_true (λ r. all (λ w. ltb t w.end) (k.waiting r)) lanes e)))
      ]

  own_frame_true : (f : Frame ℕ) (p : Post ℕ) → own_frame lanes k f p ≡ true → OwnFrame k f p
  own_frame_true f idle e = absurd (false≢true e)
  own_frame_true f (begun b x) e = absurd (false≢true e)
  own_frame_true f (stamped b x s t) e =
      let p = and_parts (eqb f.stamp s) (eqb f.payload x && late lanes k t) e in
      let q = and_parts (eqb f.payload x) (late lanes k t) p.1 in
      (eqb-true f.stamp s p.0, eqb-true f.payload x q.0, late_true t q.1)
  own_frame_true f (gone b x s) e = absurd (false≢true e)

  oldest_true : (f : Frame ℕ) (ws : List (Waiting ℕ)) → oldest lanes k f ws ≡ true → Oldest k f ws
  oldest_true f [] e = own_frame_true f (k.posts f.lane) e
  oldest_true f (w ∷ ws) e = let p = and_parts (same_frame w.frame f) (late lanes k w.take) e in (same_frame_true w.frame f p.0, late_true w.take p.1)

  at_rest_true : (s : Collect ℕ) → at_collect s true (λ b. false) (λ f. false) ≡ true → s ≡ at_rest
  at_rest_true at_rest e = refl
  at_rest_true (looking b) e = absurd (false≢true e)
  at_rest_true (holding b f) e = absurd (false≢true e)

  frees_true : (f : Frame ℕ) (s : Collect ℕ) → at_collect s false (λ b. oldest lanes k f (k.waiting f.lane)) (λ f. false) ≡ true → Frees k f s
  frees_true f at_rest e = absurd (false≢true e)
  frees_true f (looking b) e = oldest_true f (k.waiting f.lane) e
  frees_true f (holding b h) e = absurd (false≢true e)

  finds_none_true : (s : Collect ℕ) → at_collect s false (λ b. late lanes k b) (λ f. false) ≡ true → FindsNone k s
  finds_none_true at_rest e = absurd (false≢true e)
  finds_none_true (looking b) e = late_true b e
  finds_none_true (holding b f) e = absurd (false≢true e)

  holds_true : (l u : ℕ) (s : Collect ℕ) → at_collect s false (λ b. false) (λ f. eqb l f.lane && eqb u f.stamp) ≡ true → Holds l u s
  holds_true l u at_rest e = absurd (false≢true e)
  holds_true l u (looking b) e = absurd (false≢true e)
  holds_true l u (holding b f) e = let p = and_parts (eqb l f.lane) (eqb u f.stamp) e in (eqb-true l f.lane p.0, eqb-true u f.stamp p.1)

  admits_true : (e : Event ℕ) → admits cap lanes k e ≡ true → Admits cap k e
  admits_true (began_post r x) h = is_idle_true (k.posts r) h
  admits_true (took r s) h =
      let p = and_parts (unstamped (k.posts r)) (ltb (length (k.waiting r)) cap && leb k.top s) h in
      let q = and_parts (ltb (length (k.waiting r)) cap) (leb k.top s) p.1 in
      (unstamped_true (k.posts r) p.0, ltb-true (length (k.waiting r)) cap q.0, leb-true k.top s q.1)
  admits_true (ended_post r (as_posted a)) h = answers_true a (k.posts r) h
  admits_true (ended_post r as_full) h =
      let p = and_parts (unstamped (k.posts r)) (eqb (length (k.waiting r)) cap) h in
      (unstamped_true (k.posts r) p.0, eqb-true (length (k.waiting r)) cap p.1)
  admits_true (ended_post r as_used_up) h = unstamped_true (k.posts r) h
  admits_true began_collect h = at_rest_true k.collect h
  admits_true (freed r s x) h = frees_true (frame_of r s x) k.collect h
  admits_true (ended_collect as_empty) h = finds_none_true k.collect h
  admits_true (ended_collect (as_delivered l s)) h = holds_true l s k.collect h
  admits_true (stepped_lane r) h = tt
  admits_true stepped_collector h = tt
  admits_true (reported p d) h = tt
  admits_true quiet h = tt

pub admitted_true : (cap : ℕ) (es : List (Event ℕ)) (lanes : List ℕ) (k : Book ℕ) → CoversWaiting k.waiting lanes → admitted cap lanes k es ≡ true → AdmittedFrom cap k es
admitted_true cap [] lanes k c h = tt
admitted_true cap (e ∷ es) lanes k c h =
    let p = and_parts (admits cap lanes k e) (admitted cap (ending_lane e ++ lanes) (book_step k e) es) h in
    (admits_true cap lanes k c e p.0, admitted_true cap es (ending_lane e ++ lanes) (book_step k e) (covers_next k lanes c e) p.1)

-- a history without a single-file order does not meet the guards
pub unadmitted : (cap : ℕ) (es : List (Event ℕ)) → (SingleFileOrder cap (log_of es) → ⊥) → Admitted cap es → ⊥
unadmitted cap es n h = n (guarded_histories_have_order ℕ cap es h)
