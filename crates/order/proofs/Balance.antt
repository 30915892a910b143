-- When nothing waits and nothing is under way, the frames posted and the frames delivered are the same, each once. The single file hands frames
-- out in the order in which they came in, so the order posts and delivers one and the same list of frames; what it posts is told apart by stamps.
use Rattle.std.proofs.Common.{◌≡◌, ℕ, suc, eqb, ◌≢◌, List, [], ◌∷◌, ◌++◌, length, sym, refl, ap, ◌∙◌, subst, inl, inr, append_assoc, append-nil, arith}
use mathlib.Core.Option.{none, some}
use Rattle.std.specs.List.{AllByRecursion}
use Rattle.std.proofs.lemmas.Bool.{cond-true, eq-eqb}
use Rattle.order.specs.Tables.{In, Once, gather}
use Rattle.order.specs.SingleFile.{Act, Did, Does, Frame, Replays, act_of}
use Rattle.order.specs.SingleFile.Did.{delivered, empty, full, posted}
use Rattle.order.specs.Events.PostEnd.{as_full, as_posted, as_used_up}
use Rattle.order.specs.Events.CollectEnd.{as_delivered, as_empty}
use Rattle.order.specs.Logs.{Ended, Log, Operation, log_of}
use Rattle.order.specs.Logs.Operation.{collect, post}
use Rattle.order.specs.Orders.{Agrees, Belongs, HasEnded, IsOrder}
use Rattle.order.specs.Books.{Book, book_of}
use Rattle.order.specs.Accounts.{Account, Balanced, and_delivered, and_posted, frame_delivered, frame_posted, frames_delivered, frames_posted, number_delivered, number_posted}
use Rattle.order.specs.Promises.{GuardedHistoriesBalance, NothingUnderWay, NothingWaits}
use Rattle.order.proofs.Lists.{all_from_in, all_in}
use Rattle.order.proofs.Backs.{Item, leftovers, standing_of}
use Rattle.order.proofs.Backs.Item.{fetch, refused, standing}
use Rattle.order.proofs.Invariant.{FirstStands}
use Rattle.order.proofs.Stamps.{Honest}
use Rattle.order.proofs.Steps.{Kept}
use Rattle.order.proofs.Ordered.{kept_of, order_is_single_file, order_replays}
use Rattle.order.proofs.Gathered.{Disjoint, Distinct, disjoint_from, distinct_from, gather_in, in_gather, once_in, pairs_in, two_in}

-- the frame that an act puts in, and the one that it takes out
abbrev pub put_in : {P : Type 0} → Did P → List (Frame P)
put_in (posted f) = f ∷ []
put_in (full r) = []
put_in (delivered f) = []
put_in empty = []

abbrev pub taken_out : {P : Type 0} → Did P → List (Frame P)
taken_out (posted f) = []
taken_out (full r) = []
taken_out (delivered f) = f ∷ []
taken_out empty = []

abbrev pub frames_in : {P : Type 0} → List (Act P) → List (Frame P)
frames_in order = gather (λ a. put_in a.did) order

abbrev pub frames_out : {P : Type 0} → List (Act P) → List (Frame P)
frames_out order = gather (λ a. taken_out a.did) order

module _ {P : Type 0} where
  -- first in, first out: what was there and what is put in is what is taken out and what is left
  fifo_one : (cap : ℕ) (did : Did P) (q m : List (Frame P)) → Does cap q did m → q ++ put_in did ≡ taken_out did ++ m
  fifo_one cap (posted f) q m (_, e) = sym e
  fifo_one cap (full r) q m (_, e) = append-nil q ∙ sym e
  fifo_one cap (delivered f) q m e = append-nil q ∙ e
  fifo_one cap empty q m (e, z) = append-nil q ∙ (e ∙ sym z)

  pub first_in_first_out : (cap : ℕ) (order : List (Act P)) (q left : List (Frame P)) → Replays cap q order left → q ++ frames_in order ≡ frames_out order ++ left
  first_in_first_out cap [] q left h = append-nil q ∙ h
  first_in_first_out cap (a ∷ order) q left (m, s, h) =
      let one = fifo_one cap a.did q m s in
      let rest = first_in_first_out cap order m left h in
      cc (append_assoc q (put_in a.did) (frames_in order), append_assoc (taken_out a.did) m (frames_in order), append_assoc (taken_out a.did) (frames_out order) left)

  in_put_in : (f : Frame P) (did : Did P) → In f (put_in did) → did ≡ posted f
  in_put_in f (posted h) (inl e) = ap posted e
  in_put_in f (posted h) (inr i) = absurd i
  in_put_in f (full r) i = absurd i
  in_put_in f (delivered h) i = absurd i
  in_put_in f empty i = absurd i

  in_taken_out : (f : Frame P) (did : Did P) → In f (taken_out did) → did ≡ delivered f
  in_taken_out f (posted h) i = absurd i
  in_taken_out f (full r) i = absurd i
  in_taken_out f (delivered h) (inl e) = ap delivered e
  in_taken_out f (delivered h) (inr i) = absurd i
  in_taken_out f empty i = absurd i

  one_put_in : (did : Did P) → Distinct (put_in did)
  one_put_in (posted f) = (tt, tt)
  one_put_in (full r) = tt
  one_put_in (delivered f) = tt
  one_put_in empty = tt

  -- the frame of an operation, and the act that agrees with it
  agrees_posted : (o : Operation P) (f : Frame P) → Agrees o (posted f) → In f (frame_posted o)
  agrees_posted (post r x (some s) (as_posted k)) f (e, _) = inl (cc)
  agrees_posted (post r x none (as_posted k)) f h = absurd h
  agrees_posted (post r x (some s) as_full) f h = absurd h
  agrees_posted (post r x none as_full) f h = absurd (let y : ◌≡◌ {A = ℕ} 0 1 = cc in omega arith)
  agrees_posted (post r x s as_used_up) f h = absurd h
  agrees_posted (collect (some h) (as_delivered l k)) f (e, _, _) = absurd (let y : ◌≡◌ {A = ℕ} 0 1 = cc in omega arith)
  agrees_posted (collect none (as_delivered l k)) f h = absurd h
  agrees_posted (collect (some c) as_empty) f h = absurd h
  agrees_posted (collect none as_empty) f h = absurd (let y : ◌≡◌ {A = ℕ} 0 1 = cc in omega arith)

  agrees_delivered : (o : Operation P) (f : Frame P) → Agrees o (delivered f) → In f (frame_delivered o)
  agrees_delivered (post r x (some s) (as_posted k)) f (e, _) = absurd (let y : ◌≡◌ {A = ℕ} 0 1 = cc in omega arith)
  agrees_delivered (post r x none (as_posted k)) f h = absurd h
  agrees_delivered (post r x (some s) as_full) f h = absurd h
  agrees_delivered (post r x none as_full) f h = absurd (let y : ◌≡◌ {A = ℕ} 0 1 = cc in omega arith)
  agrees_delivered (post r x s as_used_up) f h = absurd h
  agrees_delivered (collect (some h) (as_delivered l k)) f (e, _, _) = inl (cc)
  agrees_delivered (collect none (as_delivered l k)) f h = absurd h
  agrees_delivered (collect (some c) as_empty) f h = absurd h
  agrees_delivered (collect none as_empty) f h = absurd (let y : ◌≡◌ {A = ℕ} 0 1 = cc in omega arith)

  posted_agrees : (o : Operation P) (f : Frame P) → Honest o → In f (frame_posted o) → Agrees o (posted f)
  posted_agrees (post r x (some s) (as_posted k)) f (inl u) i = absurd u
  posted_agrees (post r x (some s) (as_posted k)) f (inr (did, a)) (inl e) = (ap posted e, a.1)
  posted_agrees (post r x (some s) (as_posted k)) f (inr (did, a)) (inr i) = absurd i
  posted_agrees (post r x none (as_posted k)) f h i = absurd i
  posted_agrees (post r x s as_full) f h i = absurd i
  posted_agrees (post r x s as_used_up) f h i = absurd i
  posted_agrees (collect c how) f h i = absurd i

  delivered_agrees : (o : Operation P) (f : Frame P) → Honest o → In f (frame_delivered o) → Agrees o (delivered f)
  delivered_agrees (post r x s how) f h i = absurd i
  delivered_agrees (collect c as_empty) f h i = absurd i
  delivered_agrees (collect (some c) (as_delivered l k)) f (inl u) i = absurd u
  delivered_agrees (collect (some c) (as_delivered l k)) f (inr (did, a)) (inl e) = (ap delivered e, a.1, a.2)
  delivered_agrees (collect (some c) (as_delivered l k)) f (inr (did, a)) (inr i) = absurd i
  delivered_agrees (collect none (as_delivered l k)) f h i = absurd i

  one_delivered : (o : Operation P) → Distinct (frame_delivered o)
  one_delivered (post r x s how) = tt
  one_delivered (collect c as_empty) = tt
  one_delivered (collect (some c) (as_delivered l k)) = (tt, tt)
  one_delivered (collect none (as_delivered l k)) = tt

  -- every answer of posted and of delivered has its frame
  counts_posted : (o : Operation P) (n : ℕ) (fs : List (Frame P)) → Honest o → length fs ≡ n → length (frame_posted o ++ fs) ≡ and_posted o n
  counts_posted (post r x (some s) (as_posted k)) n fs h e = ap suc e
  counts_posted (post r x none (as_posted k)) n fs (inl u) e = absurd u
  counts_posted (post r x none (as_posted k)) n fs (inr (did, a)) e = absurd a
  counts_posted (post r x s as_full) n fs h e = e
  counts_posted (post r x s as_used_up) n fs h e = e
  counts_posted (collect c how) n fs h e = e

  counts_delivered : (o : Operation P) (n : ℕ) (fs : List (Frame P)) → Honest o → length fs ≡ n → length (frame_delivered o ++ fs) ≡ and_delivered o n
  counts_delivered (post r x s how) n fs h e = e
  counts_delivered (collect c as_empty) n fs h e = e
  counts_delivered (collect (some c) (as_delivered l k)) n fs h e = ap suc e
  counts_delivered (collect none (as_delivered l k)) n fs (inl u) e = absurd u
  counts_delivered (collect none (as_delivered l k)) n fs (inr (did, a)) e = absurd a

  count_all_posted : (ds : List (Ended P)) → AllByRecursion (λ (d : Ended P). Honest d.operation) ds → length (frames_posted ds) ≡ number_posted ds
  count_all_posted [] h = refl
  count_all_posted (d ∷ ds) (h, hs) = counts_posted d.operation (number_posted ds) (frames_posted ds) h (count_all_posted ds hs)

  count_all_delivered : (ds : List (Ended P)) → AllByRecursion (λ (d : Ended P). Honest d.operation) ds → length (frames_delivered ds) ≡ number_delivered ds
  count_all_delivered [] h = refl
  count_all_delivered (d ∷ ds) (h, hs) = counts_delivered d.operation (number_delivered ds) (frames_delivered ds) h (count_all_delivered ds hs)

  -- a back whose first item waits is empty if nothing waits
  nothing_back : (back : List (Item P)) → FirstStands back → ((l : ℕ) → standing_of l back ≡ []) → leftovers back ≡ []
  nothing_back [] h w = refl
  nothing_back (standing v ∷ is) h w =
      let l = v.frame.lane in
      absurd (let e : v ∷ standing_of l is ≡ [] = sym (cond-true (eqb l l) (v ∷ standing_of l is) (standing_of l is) (eq-eqb l l refl)) ∙ w l in let y : ◌≡◌ {A = ℕ} 0 1 = cc in omega arith)
  nothing_back (refused b r u ∷ is) h w = absurd h
  nothing_back (fetch b f u ∷ is) h w = absurd h

module _ {P : Type 0} (cap : ℕ) (g : Log P) (k : Book P) (v : Kept cap g k) (waits : NothingWaits k) (idles : NothingUnderWay g) where
  abbrev order : List (Act P)
  order = v.placed.order

  abbrev ds : List (Ended P)
  ds = g.ended

  o : IsOrder cap g order
  o = order_is_single_file cap g k v

  -- the order puts in what it takes out
  same_frames : frames_in order ≡ frames_out order
  same_frames =
      let nil : leftovers v.placed.back ≡ [] = nothing_back v.placed.back v.placed.first_stands (λ l. v.placed.core.waiting l ∙ waits l) in
      first_in_first_out cap order [] (leftovers v.placed.back) (order_replays cap g k v) ∙ (ap (λ (q : List (Frame P)). frames_out order ++ q) nil ∙ append-nil (frames_out order))

  -- every act of the order is that of an ended operation
  all_ended : (a : Act P) → Belongs g order a → HasEnded g.ended a
  all_ended a (inl h) = h
  all_ended a (inr (inl (c, f, e, i, q))) = absurd (let z : none ≡ some c = sym idles.1 ∙ e in let y : ◌≡◌ {A = ℕ} 0 1 = cc in omega arith)
  all_ended a (inr (inr (r, p, s, e, i, q, c, j, z))) = absurd (let w : none ≡ some p = sym (idles.0 r) ∙ e in let y : ◌≡◌ {A = ℕ} 0 1 = cc in omega arith)

  ended_act : (a : Act P) → In a order → HasEnded g.ended a
  ended_act a i = all_ended a (all_in (Belongs g order) a order i o.belong)

  placed_act : (d : Ended P) (did : Did P) → In d ds → Agrees d.operation did → In (act_of d.began did) order
  placed_act d did i h = o.whole (act_of d.began did) (inl (d, i, refl, h))

  honest : (d : Ended P) → In d ds → Honest d.operation
  honest d i = all_in (λ (d : Ended P). Honest d.operation) d ds i v.stamps.honest

  posted_in : (f : Frame P) → In f (frames_posted ds) → In f (frames_in order)
  posted_in f i =
      let n = gather_in (λ (d : Ended P). frame_posted d.operation) f ds i in
      in_gather (λ (a : Act P). put_in a.did) f (act_of n.0.began (posted f)) order (placed_act n.0 (posted f) n.1 (posted_agrees n.0.operation f (honest n.0 n.1) n.2)) (inl refl)

  in_posted : (f : Frame P) → In f (frames_in order) → In f (frames_posted ds)
  in_posted f i =
      let n = gather_in (λ (a : Act P). put_in a.did) f order i in
      let (d, j, _, s) = ended_act n.0 n.1 in
      in_gather (λ (d : Ended P). frame_posted d.operation) f d ds j (agrees_posted d.operation f (subst (Agrees d.operation) (in_put_in f n.0.did n.2) s))

  delivered_out : (f : Frame P) → In f (frames_delivered ds) → In f (frames_out order)
  delivered_out f i =
      let n = gather_in (λ (d : Ended P). frame_delivered d.operation) f ds i in
      in_gather (λ (a : Act P). taken_out a.did) f (act_of n.0.began (delivered f)) order (placed_act n.0 (delivered f) n.1 (delivered_agrees n.0.operation f (honest n.0 n.1) n.2)) (inl refl)

  out_delivered : (f : Frame P) → In f (frames_out order) → In f (frames_delivered ds)
  out_delivered f i =
      let n = gather_in (λ (a : Act P). taken_out a.did) f order i in
      let (d, j, _, s) = ended_act n.0 n.1 in
      in_gather (λ (d : Ended P). frame_delivered d.operation) f d ds j (agrees_delivered d.operation f (subst (Agrees d.operation) (in_taken_out f n.0.did n.2) s))

  -- nothing is posted twice, so the order puts nothing in twice, so it takes nothing out twice, so nothing is delivered twice
  distinct_posted : Distinct (frames_posted ds)
  distinct_posted =
      pairs_in (λ (f h : Frame P). f.stamp ≢ h.stamp) (λ (f h : Frame P). f ≢ h) (frames_posted ds) (λ f h _ _ n e. n (ap (λ (f : Frame P). f.stamp) e)) v.once.posted_apart

  distinct_in : Distinct (frames_in order)
  distinct_in =
      distinct_from (λ (a : Act P). put_in a.did) (λ a. one_put_in a.did) order
      (pairs_in (λ (x y : Act P). x.began ≢ y.began) (Disjoint (λ (a : Act P). put_in a.did)) order
      (λ x y i j n f p q.
      let (d, di, db, da) = ended_act x i in
      let (e, ei, eb, ea) = ended_act y j in
      let d_f : In f (frame_posted d.operation) = agrees_posted d.operation f (subst (Agrees d.operation) (in_put_in f x.did p) da) in
      let e_f : In f (frame_posted e.operation) = agrees_posted e.operation f (subst (Agrees e.operation) (in_put_in f y.did q) ea) in
      elim (two_in (Disjoint (λ (d : Ended P). frame_posted d.operation)) d e ds (disjoint_from (λ (d : Ended P). frame_posted d.operation) ds distinct_posted) di ei) [
        | inl z ↦ n (sym db ∙ (ap (λ (d : Ended P). d.began) z ∙ eb))
        | inr (inl z) ↦ z f d_f e_f
        | inr (inr z) ↦ z f e_f d_f
      ])
      o.apart)

  distinct_delivered : Distinct (frames_delivered ds)
  distinct_delivered =
      let distinct_out : Distinct (frames_out order) = rw same_frames at distinct_in in
      distinct_from (λ (d : Ended P). frame_delivered d.operation) (λ d. one_delivered d.operation) ds
      (pairs_in (λ (d e : Ended P). d.began ≢ e.began) (Disjoint (λ (d : Ended P). frame_delivered d.operation)) ds
      (λ d e i j n f p q.
      let x : Act P = act_of d.began (delivered f) in
      let y : Act P = act_of e.began (delivered f) in
      let xi : In x order = placed_act d (delivered f) i (delivered_agrees d.operation f (honest d i) p) in
      let yi : In y order = placed_act e (delivered f) j (delivered_agrees e.operation f (honest e j) q) in
      elim (two_in (Disjoint (λ (a : Act P). taken_out a.did)) x y order (disjoint_from (λ (a : Act P). taken_out a.did) order distinct_out) xi yi) [
        | inl z ↦ n (ap (λ (a : Act P). a.began) z)
        | inr (inl z) ↦ z f (inl refl) (inl refl)
        | inr (inr z) ↦ z f (inl refl) (inl refl)
      ])
      v.placed.core.ended_apart)

  pub balanced : Balanced g
  balanced =
      record {
        all_posted = count_all_posted ds v.stamps.honest;
        all_delivered = count_all_delivered ds v.stamps.honest;
        each_delivered =
            all_from_in (λ (f : Frame P). Once f (frames_delivered ds)) (frames_posted ds)
            (λ f i. once_in f (frames_delivered ds) distinct_delivered (out_delivered f (subst (In f) same_frames (posted_in f i))));
        each_posted =
            all_from_in (λ (f : Frame P). Once f (frames_posted ds)) (frames_delivered ds)
            (λ f i. once_in f (frames_posted ds) distinct_posted (in_posted f (subst (In f) (sym same_frames) (delivered_out f i))));
      }

-- if at an accepted report nothing waits, nothing is under way, and the totals are the numbers of posts and collects, the account holds
pub account_kept :
    {P : Type 0} (cap : ℕ) (g : Log P) (k : Book P) → Kept cap g k
    → ((p d : ℕ) → g.report ≡ some (p, d) → NothingWaits k × NothingUnderWay g × (p ≡ number_posted g.ended) × (d ≡ number_delivered g.ended))
    → Account g
account_kept cap g k v h p d e = let (waits, idles, ps, ds) = h p d e in (balanced cap g k v waits idles, ps, ds)

pub guarded_histories_balance : (P : Type 0) → GuardedHistoriesBalance P
guarded_histories_balance P cap es h w i = balanced cap (log_of es) (book_of es) (kept_of cap es h) w i
