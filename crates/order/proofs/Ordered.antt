-- From the invariant to the single-file order, and along a history.
use Rattle.std.proofs.Common.{◌≡◌, ℕ, ◌≢◌, List, [], ◌∷◌, sym, refl, ap, ◌∙◌, subst, inl, inr, append-nil, arith}
use mathlib.Core.Option.{Option, none, some}
use Rattle.std.specs.List.{AllByRecursion}
use Rattle.std.proofs.ByRecursion.{All-weaker}
use Rattle.order.specs.Tables.{In}
use Rattle.order.specs.SingleFile.{Act, Frame, Replays, act_of, frame_of}
use Rattle.order.specs.SingleFile.Did.{delivered, posted}
use Rattle.order.specs.Events.{Event}
use Rattle.order.specs.Logs.{Collecting, Ended, Log, Posting, log_from, log_of, log_step, start}
use Rattle.order.specs.Orders.{Agrees, Belongs, HasFetched, IsDelivered, IsOrder, MayPrecede, SingleFileOrder, Stands}
use Rattle.order.specs.Books.{Book, Collect, Post, blank, book_from, book_of, book_step}
use Rattle.order.specs.Books.Post.{begun, gone, idle, stamped}
use Rattle.order.specs.Books.Collect.{at_rest, holding, looking}
use Rattle.order.specs.Guards.{Admitted, AdmittedFrom}
use Rattle.order.specs.Promises.{GuardedHistoriesHaveASingleFileOrder}
use Rattle.order.proofs.Lists.{all_any, all_from_in, all_in, pairs_weaker}
use Rattle.order.proofs.Backs.{acts, deliveries, leftovers}
use Rattle.order.proofs.Levels.{back_replays}
use Rattle.order.proofs.Invariant.{Before, Core, IsGone, IsHeld, Placed, Settled}
use Rattle.order.proofs.Framing.{replays_join}
use Rattle.order.proofs.Stamps.{Freed, Honest, PostOk, stamps_blank}
use Rattle.order.proofs.TakenOnce.{once_blank}
use Rattle.order.proofs.Agreement.{Shows, ShowsCollect, agree_start, collecting_of, posting}
use Rattle.order.proofs.Steps.{Kept, kept_step}

module _ {P : Type 0} where
  none_settled : (a : Act P) → Settled [] (blank {P = P}) a → ⊥
  none_settled a (inl (d, i, p, q)) = i
  none_settled a (inr (inl (b, f, e, q))) = let z : ◌≡◌ {A = ℕ} 0 1 = cc in omega arith
  none_settled a (inr (inr (r, b, x, s, e, q))) = let z : ◌≡◌ {A = ℕ} 0 1 = cc in omega arith

  placed_blank : (cap : ℕ) → Placed cap [] (blank {P = P})
  placed_blank cap =
      record {
        owner = λ _. 0;
        order = [];
        front = [];
        back = [];
        first_stands = tt;
        split = record { parts = refl; replays = refl };
        core =
            record {
              levels = λ l. tt;
              waiting = λ l. refl;
              sorted = tt;
              timed = tt;
              ends_late = tt;
              room = λ l. tt;
              lanes = λ l. tt;
              collector = tt;
              precede = tt;
              past = tt;
              past_ended = tt;
              ended_apart = tt;
              settled = tt;
              whole = λ a h. absurd (none_settled a h);
            };
      }

  pub kept_start : (cap : ℕ) → Kept cap (start {P = P}) blank
  kept_start cap = record { agree = agree_start; placed = placed_blank cap; stamps = stamps_blank; once = once_blank }

  pub kept_from : (cap : ℕ) (es : List (Event P)) (g : Log P) (k : Book P) → AdmittedFrom cap k es → Kept cap g k → Kept cap (log_from g es) (book_from k es)
  kept_from cap [] g k h v = v
  kept_from cap (e ∷ es) g k (a, h) v = kept_from cap es (log_step g e) (book_step k e) h (kept_step cap g k v e a)

  pub kept_of : (cap : ℕ) (es : List (Event P)) → Admitted cap es → Kept cap (log_of es) (book_of es)
  kept_of cap es h = kept_from cap es start blank h (kept_start cap)

module _ {P : Type 0} (cap : ℕ) (g : Log P) (k : Book P) (v : Kept cap g k) where
  abbrev its_order : List (Act P)
  its_order = v.placed.order

  abbrev core : Core cap g.ended k v.placed.owner its_order v.placed.back
  core = v.placed.core

  -- a frame that is freed has its collect in the order, and a collect of the order has freed its frame
  delivers : (f : Frame P) → Freed g.ended k.collect f → (c : Act P) × In c its_order × (c.did ≡ delivered f)
  delivers f (inl (d, i, s)) = let c : Act P = act_of d.began (delivered f) in (c, core.whole c (inl (d, i, refl, s)), refl)
  delivers f (inr (b, z)) = let c : Act P = act_of b (delivered f) in (c, core.whole c (inr (inl (b, f, z, refl))), refl)

  freed_by : (c : Act P) (f : Frame P) → c.did ≡ delivered f → Settled g.ended k c → Freed g.ended k.collect f
  freed_by c f e (inl (d, i, _, s)) = inl (d, i, subst (Agrees d.operation) e s)
  freed_by c f e (inr (inl (b, h, z, q))) = inr (b, let y : delivered h ≡ delivered f = sym (ap (λ (a : Act P). a.did) q) ∙ e in cc)
  freed_by c f e (inr (inr (r, b, x, s, z, q))) =
      absurd (let y : posted (frame_of r s x) ≡ delivered f = sym (ap (λ (a : Act P). a.did) q) ∙ e in let n : ◌≡◌ {A = ℕ} 0 1 = cc in omega arith)

  -- the collect of the log that fetched a frame holds it in the book, and the other way round
  held_fetched : (a : Act P) → IsHeld k.collect a → HasFetched g a
  held_fetched a (b, f, e, q) =
      let held : ShowsCollect (holding b f) g.collecting = rw e at v.agree.collect in
      (collecting_of b (some f) held.0, f, held.1, refl, q)

  fetched_held : (a : Act P) → HasFetched g a → IsHeld k.collect a
  fetched_held a (c, f, e, i, q) = by_state k.collect refl v.agree.collect
    where
      by_state : (s : Collect P) → k.collect ≡ s → ShowsCollect s g.collecting → IsHeld k.collect a
      by_state at_rest z h = absurd (let y : none ≡ some c = sym h ∙ e in let n : ◌≡◌ {A = ℕ} 0 1 = cc in omega arith)
      by_state (looking b) z (m, h) =
          absurd (let y : collecting_of b none m ≡ c = (let y : some (collecting_of b none m) ≡ some c = sym h ∙ e in cc) in let u : none ≡ some f = ap (λ (c : Collecting P). c.fetched) y ∙ i in let n : ◌≡◌ {A = ℕ} 0 1 = cc in omega arith)
      by_state (holding b w) z (m, h) =
          let y : collecting_of b (some w) m ≡ c = (let y : some (collecting_of b (some w) m) ≡ some c = sym h ∙ e in cc) in
          let u : some w ≡ some f = ap (λ (c : Collecting P). c.fetched) y ∙ i in
          let wf : w ≡ f = cc in
          let bc : b ≡ c.began = ap (λ (c : Collecting P). c.began) y in
          (b, w, z, q ∙ sym (λ j. act_of (bc j) (delivered (wf j))))

  -- a post whose frame is gone has its stamp in the log, and a collect of the order delivers it
  gone_delivered : (a : Act P) → IsGone k.posts a → IsDelivered g its_order a
  gone_delivered a (r, b, x, s, e, q) =
      let shown : Shows (gone b x s) (g.posts r) = rw e at (v.agree.posts r) in
      let f : Freed g.ended k.collect (frame_of r s x) = subst (PostOk g.ended k.collect k.top r (k.waiting r)) e (v.stamps.posts_ok r) in
      let (c, i, z) = delivers (frame_of r s x) f in
      (r, posting b x (some s) shown.0, s, shown.1, refl, q, c, i, z)

  -- and a post under way whose frame a collect of the order delivers is gone
  delivered_gone : (a : Act P) → IsDelivered g its_order a → IsGone k.posts a
  delivered_gone a (r, p, s, e, i, q, c, j, z) =
      let f : Freed g.ended k.collect (frame_of r s p.payload) = freed_by c (frame_of r s p.payload) z (all_in (Settled g.ended k) c its_order j core.settled) in
      by_state (k.posts r) refl (v.agree.posts r) f
    where
      same : (b n : ℕ) (x : P) (u : Option ℕ) → g.posts r ≡ some (posting b x u n) → posting b x u n ≡ p
      same b n x u h = let y : some (posting b x u n) ≡ some p = sym h ∙ e in cc

      by_state : (st : Post P) → k.posts r ≡ st → Shows st (g.posts r) → Freed g.ended k.collect (frame_of r s p.payload) → IsGone k.posts a
      by_state idle w h f = absurd (let y : none ≡ some p = sym h ∙ e in let n : ◌≡◌ {A = ℕ} 0 1 = cc in omega arith)
      by_state (begun b x) w (m, h) f =
          absurd (let u : none ≡ some s = ap (λ (p : Posting P). p.stamp) (same b m x none h) ∙ i in let n : ◌≡◌ {A = ℕ} 0 1 = cc in omega arith)
      by_state (stamped b x t t') w (m, h) f =
          let ok : PostOk g.ended k.collect k.top r (k.waiting r) (stamped b x t t') = subst (PostOk g.ended k.collect k.top r (k.waiting r)) w (v.stamps.posts_ok r) in
          let u : some t ≡ some s = ap (λ (p : Posting P). p.stamp) (same b m x (some t) h) ∙ i in
          let ts : t ≡ s = cc in
          absurd (ok.2 (frame_of r s p.payload) f refl (sym ts))
      by_state (gone b x t) w (m, h) f =
          let is_p = same b m x (some t) h in
          let u : some t ≡ some s = ap (λ (p : Posting P). p.stamp) is_p ∙ i in
          let ts : t ≡ s = cc in
          let bp : b ≡ p.began = ap (λ (p : Posting P). p.began) is_p in
          let xp : x ≡ p.payload = ap (λ (p : Posting P). p.payload) is_p in
          (r, b, x, t, w, q ∙ sym (λ j. act_of (bp j) (posted (frame_of r (ts j) (xp j)))))

  belongs_from : (a : Act P) → Settled g.ended k a → Belongs g its_order a
  belongs_from a (inl h) = inl h
  belongs_from a (inr (inl h)) = inr (inl (held_fetched a h))
  belongs_from a (inr (inr h)) = inr (inr (gone_delivered a h))

  settled_from : (a : Act P) → Belongs g its_order a → Settled g.ended k a
  settled_from a (inl h) = inl h
  settled_from a (inr (inl h)) = inr (inl (fetched_held a h))
  settled_from a (inr (inr h)) = inr (inr (delivered_gone a h))

  stands : (d : Ended P) → In d g.ended → Stands its_order d
  stands d i =
      elim (all_in (λ (d : Ended P). Honest d.operation) d g.ended i v.stamps.honest) [
        | inl e ↦ inl e
        | inr (did, s) ↦ inr (act_of d.began did, core.whole (act_of d.began did) (inl (d, i, refl, s)), refl, s)
      ]

  true_for_all : AllByRecursion (λ (a : Act P). Unit {0}) its_order
  true_for_all = all_any (λ (a : Act P). Unit {0}) (λ a. tt) its_order

  -- the front, and then the back, replay; the frames that wait are left
  pub order_replays : Replays cap [] its_order (leftovers v.placed.back)
  order_replays =
      let placed = v.placed in
      let back = placed.back in
      rw placed.split.parts
      (replays_join cap placed.front (acts back) [] (deliveries back) (leftovers back) placed.split.replays
      (subst (λ (q : List (Frame P)). Replays cap q (acts back) (leftovers back)) (append-nil (deliveries back)) (back_replays cap back [] core.levels)))

  pub order_is_single_file : IsOrder cap g its_order
  order_is_single_file =
      record {
        left = leftovers v.placed.back;
        replays = order_replays;
        apart = pairs_weaker (λ (a : Act P). Unit {0}) (Before g.ended) (λ (x y : Act P). x.began ≢ y.began) (λ x y _ _ h. h.0) its_order true_for_all core.precede;
        real_time = pairs_weaker (λ (a : Act P). Unit {0}) (Before g.ended) (MayPrecede g.ended) (λ x y _ _ h. h.1) its_order true_for_all core.precede;
        belong = All-weaker (Settled g.ended k) (Belongs g its_order) belongs_from its_order core.settled;
        whole = λ a h. core.whole a (settled_from a h);
        stand = all_from_in (Stands its_order) g.ended stands;
      }

  pub has_order : SingleFileOrder cap g
  has_order = record { order = its_order; is_order = order_is_single_file }

pub guarded_histories_have_order : (P : Type 0) → GuardedHistoriesHaveASingleFileOrder P
guarded_histories_have_order P cap es h = has_order cap (log_of es) (book_of es) (kept_of cap es h)
