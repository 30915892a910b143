-- An operation ends that has its place in the order already, or gets none: the order stays.
use Rattle.std.proofs.Common.{◌≡◌, ℕ, suc, ◌≢◌, ◌⊎◌, List, ◌∷◌, length, sym, refl, ap, ◌∙◌, subst, inl, inr, arith}
use mathlib.Core.Option.{none, some}
use Rattle.std.proofs.ByRecursion.{All-weaker}
use Rattle.std.proofs.lemmas.Bool.{cases_eq}
use Rattle.order.specs.Tables.{In, upd}
use Rattle.order.specs.SingleFile.{Act, Did, Frame, act_of, frame_of}
use Rattle.order.specs.SingleFile.Did.{delivered, posted}
use Rattle.order.specs.Events.PostEnd.{as_posted, as_used_up}
use Rattle.order.specs.Events.CollectEnd.{as_delivered}
use Rattle.order.specs.Logs.{Ended, Operation}
use Rattle.order.specs.Logs.Operation.{collect, post}
use Rattle.order.specs.Orders.{Agrees, HasEnded}
use Rattle.order.specs.Books.{Book, Collect, Post, book_collect, book_post}
use Rattle.order.specs.Books.Post.{begun, gone, idle}
use Rattle.order.specs.Books.Collect.{at_rest, holding}
use Rattle.order.proofs.Lists.{upd_all, upd_other}
use Rattle.order.proofs.Backs.{Item}
use Rattle.order.proofs.Invariant.{CollectOk, IsGone, LaneOk, Open, Placed, Settled, Unplaced, View, view}
use Rattle.order.proofs.Facts.{acts_next, all_timed_next, apart_next, before_next, begun_not_gone, ended_next, ends_late_next, gone_after, gone_from, idle_not_gone}
use Rattle.order.proofs.Framing.{Keeps, collect_stays, lane_stays}

pub suc_apart : (a b : ℕ) → a ≢ b → suc b ≢ suc a
suc_apart a b n e = n (omega arith)

-- the operation that began at b ends at t, after n grants
abbrev pub ends_as : {P : Type 0} → ℕ → ℕ → ℕ → Operation P → Ended P
ends_as b t n o = record { began = b; ended = t; grants = n; operation = o }

module _ {P : Type 0} where
  -- the other parties' operations stay as they are when d ends, if the order got no more than a place for d
  pub keeps_closed :
      (ds : List (Ended P)) (book : Book P) (owner : ℕ → ℕ) (order order' : List (Act P)) (back back' : List (Item P)) (d : Ended P) (who : ℕ)
      → owner d.began ≢ who
      → ((b : ℕ) → d.began ≢ b → Unplaced order b → Unplaced order' b)
      → Keeps (view ds book owner order back) (record { now = suc book.now; owner = owner; ended = d ∷ ds; order = order'; back = back' }) who
  keeps_closed ds book owner order order' back back' d who n f =
      record {
        later = omega arith;
        owned = λ b h. refl;
        unended = λ b o h. ((λ e. n (ap owner e ∙ o)), h);
        unplaced = λ b o h. f b (λ e. n (ap owner e ∙ o)) h;
      }

  same_act : (a : Act P) (b : ℕ) (k : Did P) → b ≡ a.began → k ≡ a.did → act_of b k ≡ a
  same_act a b k p q = λ i. record { began = p i; did = q i }

  -- what is ended, once one more operation ended that can only have done k
  pub ended_cases :
      (ds : List (Ended P)) (d : Ended P) (k : Did P) (a : Act P) → ((m : Did P) → Agrees d.operation m → k ≡ m)
      → HasEnded (d ∷ ds) a → (act_of d.began k ≡ a) ⊎ HasEnded ds a
  ended_cases ds d k a n (e, inl q, p, s) =
      inl (same_act a d.began k (ap (λ (x : Ended P). x.began) q ∙ p) (n a.did (subst (λ (x : Ended P). Agrees x.operation a.did) (sym q) s)))
  ended_cases ds d k a n (e, inr i, p, s) = inr (e, i, p, s)

  pub ended_new : (ds : List (Ended P)) (d : Ended P) (k : Did P) (a : Act P) → Agrees d.operation k → act_of d.began k ≡ a → HasEnded (d ∷ ds) a
  ended_new ds d k a n e = (d, inl refl, ap (λ (a : Act P). a.began) e, subst (λ (a : Act P). Agrees d.operation a.did) e n)

  pub ended_old : (ds : List (Ended P)) (d : Ended P) (a : Act P) → HasEnded ds a → HasEnded (d ∷ ds) a
  ended_old ds d a (e, h, p, q) = (e, inr h, p, q)

  -- one more that did nothing
  ended_none : (ds : List (Ended P)) (d : Ended P) (a : Act P) → ((m : Did P) → Agrees d.operation m → ⊥) → HasEnded (d ∷ ds) a → HasEnded ds a
  ended_none ds d a n (e, inl q, p, s) = absurd (n a.did (subst (λ (x : Ended P). Agrees x.operation a.did) (sym q) s))
  ended_none ds d a n (e, inr i, p, s) = (e, i, p, s)

-- the operation d of this party ends, and the order stays
module _ {P : Type 0} (cap : ℕ) (ds : List (Ended P)) (book : Book P) (v : Placed cap ds book) (posts' : ℕ → Post P) (collect' : Collect P) (d : Ended P) where
  abbrev closed_book : Book P
  closed_book = record { now = suc book.now; posts = posts'; waiting = book.waiting; collect = collect'; top = book.top }

  abbrev was : View P
  was = view ds book v.owner v.order v.back

  abbrev closed_view : View P
  closed_view = view (d ∷ ds) closed_book v.owner v.order v.back

  keeps : (who : ℕ) → v.owner d.began ≢ who → Keeps was closed_view who
  keeps who n = keeps_closed ds book v.owner v.order v.order v.back v.back d who n (λ b _ h. h)

  lane_closed : (l : ℕ) → v.owner d.began ≢ suc l → LaneOk cap closed_view l (length (book.waiting l)) (book.posts l)
  lane_closed l n =
      let m = length (book.waiting l) in
      lane_stays was closed_view cap l m m (book.posts l) (keeps (suc l) n) (λ b h. h) (λ t h. omega arith) (v.core.lanes l)

  collect_closed : v.owner d.began ≢ 0 → CollectOk closed_view book.collect
  collect_closed n = collect_stays was closed_view book.collect (keeps 0 n) (λ b h. h) v.core.collector

  closes :
      d.ended ≡ book.now → (who : ℕ) → Open was who d.began
      → ((l : ℕ) → LaneOk cap closed_view l (length (book.waiting l)) (posts' l)) → CollectOk closed_view collect'
      → ((a : Act P) → Settled ds book a → Settled (d ∷ ds) closed_book a) → ((a : Act P) → Settled (d ∷ ds) closed_book a → In a v.order)
      → Placed cap (d ∷ ds) closed_book
  closes e who o ls cs into from =
      let c = v.core in
      let n = book.now in
      record {
        owner = v.owner;
        order = v.order;
        front = v.front;
        back = v.back;
        first_stands = v.first_stands;
        split = v.split;
        core =
            record {
              levels = c.levels;
              waiting = c.waiting;
              sorted = c.sorted;
              timed = all_timed_next n v.back c.timed;
              ends_late = ends_late_next n d ds v.back e c.timed c.ends_late;
              room = c.room;
              lanes = ls;
              collector = cs;
              precede = before_next n d ds v.order e c.past c.precede;
              past = acts_next n v.order c.past;
              past_ended = (omega (arith, o.0), ended_next n ds c.past_ended);
              ended_apart = (apart_next d ds o.2, c.ended_apart);
              settled = All-weaker (Settled ds book) (Settled (d ∷ ds) closed_book) into v.order c.settled;
              whole = from;
            };
      }

module _ {P : Type 0} (cap : ℕ) (ds : List (Ended P)) (book : Book P) (v : Placed cap ds book) where
  abbrev now_view : View P
  now_view = view ds book v.owner v.order v.back

  -- a post of lane r ends
  post_closes :
      (r : ℕ) (d : Ended P) → d.ended ≡ book.now → Open now_view (suc r) d.began
      → ((a : Act P) → Settled ds book a → Settled (d ∷ ds) (book_post book r idle) a) → ((a : Act P) → Settled (d ∷ ds) (book_post book r idle) a → In a v.order)
      → Placed cap (d ∷ ds) (book_post book r idle)
  post_closes r d e o into from =
      let ps : ℕ → Post P = upd book.posts r idle in
      let v' = view (d ∷ ds) (book_post book r idle) v.owner v.order v.back in
      closes cap ds book v ps book.collect d e (suc r) o
      (upd_all (λ l p. LaneOk cap v' l (length (book.waiting l)) p) book.posts r idle tt (λ l n. lane_closed cap ds book v ps book.collect d l (λ z. suc_apart l r n (sym o.1 ∙ z))))
      (collect_closed cap ds book v ps book.collect d (λ z. omega (arith, o.1)))
      into from

  pub used_up_keeps : (r b n : ℕ) (x : P) → book.posts r ≡ begun b x → Placed cap (ends_as b book.now n (post r x none as_used_up) ∷ ds) (book_post book r idle)
  used_up_keeps r b n x e =
      let d : Ended P = ends_as b book.now n (post r x none as_used_up) in
      let lane : LaneOk cap now_view r (length (book.waiting r)) (begun b x) = rw e at (v.core.lanes r) in
      post_closes r d refl lane.0
      (λ a h. elim h [ inl k ↦ inl (ended_old ds d a k) | inr (inl k) ↦ inr (inl k) | inr (inr k) ↦ inr (inr (gone_after book.posts r idle a (rw e (begun_not_gone b x)) k)) ])
      (λ a h.
      v.core.whole a
      (elim h [ inl k ↦ inl (ended_none ds d a (λ m z. z) k) | inr (inl k) ↦ inr (inl k) | inr (inr k) ↦ inr (inr (gone_from book.posts r idle a idle_not_gone k)) ]))

  -- what was gone is the post that ends, or another
  gone_ends :
      (r b s : ℕ) (x : P) (a : Act P) → book.posts r ≡ gone b x s → IsGone book.posts a
      → (act_of b (posted (frame_of r s x)) ≡ a) ⊎ IsGone (upd book.posts r idle) a
  gone_ends r b s x a e (l, c, y, u, z, q) =
      elim (cases_eq l r) [
        | inl t ↦ inl (let m : gone b x s ≡ gone c y u = sym e ∙ (ap book.posts (sym t) ∙ z) in let k : ◌≡◌ {A = Act P} (act_of b (posted (frame_of r s x))) (act_of c (posted (frame_of l u y))) = cc in k ∙ sym q)
        | inr n ↦ inr (l, c, y, u, upd_other book.posts r idle l n ∙ z, q)
      ]

  -- a post whose frame is gone ends posted
  pub gone_posted_keeps : (r b s n k : ℕ) (x : P) → k ≡ s → book.posts r ≡ gone b x s → Placed cap (ends_as b book.now n (post r x (some s) (as_posted k)) ∷ ds) (book_post book r idle)
  gone_posted_keeps r b s n k x ks e =
      let d : Ended P = ends_as b book.now n (post r x (some s) (as_posted k)) in
      let did : Did P = posted (frame_of r s x) in
      let lane : LaneOk cap now_view r (length (book.waiting r)) (gone b x s) = rw e at (v.core.lanes r) in
      let placed : In (act_of b did) v.order = v.core.whole (act_of b did) (inr (inr (r, b, x, s, e, refl))) in
      post_closes r d refl lane
      (λ a h. elim h [
        | inl j ↦ inl (ended_old ds d a j)
        | inr (inl j) ↦ inr (inl j)
        | inr (inr j) ↦ elim (gone_ends r b s x a e j) [ inl q ↦ inl (ended_new ds d did a (refl, ks) q) | inr q ↦ inr (inr q) ]
      ])
      (λ a h. elim h [
        | inl j ↦ elim (ended_cases ds d did a (λ m h. h.0) j) [ inl q ↦ subst (λ (a : Act P). In a v.order) q placed | inr q ↦ v.core.whole a (inl q) ]
        | inr (inl j) ↦ v.core.whole a (inr (inl j))
        | inr (inr j) ↦ v.core.whole a (inr (inr (gone_from book.posts r idle a idle_not_gone j)))
      ])

  -- a collect answers with the frame that it freed before
  pub delivered_keeps :
      (b n l s : ℕ) (f : Frame P) → l ≡ f.lane → s ≡ f.stamp → book.collect ≡ holding b f
      → Placed cap (ends_as b book.now n (collect (some f) (as_delivered l s)) ∷ ds) (book_collect book at_rest)
  delivered_keeps b n l s f ll ss e =
      let d : Ended P = ends_as b book.now n (collect (some f) (as_delivered l s)) in
      let did : Did P = delivered f in
      let was_open : CollectOk now_view (holding b f) = rw e at v.core.collector in
      let placed : In (act_of b did) v.order = v.core.whole (act_of b did) (inr (inl (b, f, e, refl))) in
      closes cap ds book v book.posts at_rest d refl 0 was_open
      (λ l. lane_closed cap ds book v book.posts at_rest d l (λ z. omega (arith, was_open.1)))
      tt
      (λ a h. elim h [
        | inl j ↦ inl (ended_old ds d a j)
        | inr (inl (c, w, z, q)) ↦ inl (ended_new ds d did a (refl, ll, ss) (let m : holding b f ≡ holding c w = sym e ∙ z in let k : ◌≡◌ {A = Act P} (act_of b did) (act_of c (delivered w)) = cc in k ∙ sym q))
        | inr (inr j) ↦ inr (inr j)
      ])
      (λ a h. elim h [
        | inl j ↦ elim (ended_cases ds d did a (λ m h. h.0) j) [ inl q ↦ subst (λ (a : Act P). In a v.order) q placed | inr q ↦ v.core.whole a (inl q) ]
        | inr (inl (c, w, z, q)) ↦ absurd (let y : ◌≡◌ {A = ℕ} 0 1 = cc in omega arith)
        | inr (inr j) ↦ v.core.whole a (inr (inr j))
      ])
