-- The acts that belong in an order can be listed from the log alone, so that every order is one of those acts in some arrangement.
-- Payloads are numbers here.
--   settled_acts    of ended operations, and of the collect under way once it has fetched a frame
--   members         these, and the posts under way whose frame one of them delivers
use Rattle.std.proofs.Common.{◌≡◌, ℕ, Bool, true, false, cond, ◌&&◌, eqb, ◌⊎◌, List, [], ◌∷◌, ◌++◌, sym, refl, ap, ◌∙◌, subst, inl, inr, append-nil, arith}
use mathlib.Core.Option.{Option, none, some}
use Rattle.std.proofs.lemmas.Bool.{and_from, and_parts, eq-eqb, eqb-true, false≢true}
use Rattle.order.specs.Tables.{In, gather, upd}
use Rattle.order.specs.SingleFile.{Act, Did, Frame, act_of, frame_of}
use Rattle.order.specs.SingleFile.Did.{delivered, empty, full, posted}
use Rattle.order.specs.Events.{CollectEnd, Event, PostEnd}
use Rattle.order.specs.Events.PostEnd.{as_full, as_posted, as_used_up}
use Rattle.order.specs.Events.CollectEnd.{as_delivered, as_empty}
use Rattle.order.specs.Events.Event.{began_collect, began_post, ended_collect, ended_post, freed, quiet, reported, stepped_collector, stepped_lane, took}
use Rattle.order.specs.Logs.{Collecting, Ended, Log, Operation, Posting, log_collect_end, log_from, log_of, log_post_end, log_step, post_step, post_take, start}
use Rattle.order.specs.Logs.Operation.{collect, post}
use Rattle.order.specs.Orders.{Agrees, Belongs, HasEnded, HasFetched, IsDelivered}
use Rattle.order.proofs.Lists.{in_first, in_second, in_split, upd_all}
use Rattle.order.proofs.Agreement.{posting}
use Rattle.order.proofs.Gathered.{gather_in, in_gather}
use Rattle.order.proofs.Deciding.{any, any_true, in_cond, same_frame, same_frame_true, true_any, true_same_frame}

module _ {P : Type 0} where
  -- what an ended operation did, if all that is known of it agrees
  abbrev pub dids : Operation P → List (Did P)
  dids (post r x (some s) (as_posted k)) = cond (eqb k s) (posted (frame_of r s x) ∷ []) []
  dids (post r x none (as_posted k)) = []
  dids (post r x (some s) as_full) = []
  dids (post r x none as_full) = full r ∷ []
  dids (post r x s as_used_up) = []
  dids (collect (some f) (as_delivered l k)) = cond (eqb l f.lane && eqb k f.stamp) (delivered f ∷ []) []
  dids (collect none (as_delivered l k)) = []
  dids (collect (some f) as_empty) = []
  dids (collect none as_empty) = empty ∷ []

  pub in_dids : (o : Operation P) (did : Did P) → Agrees o did → In did (dids o)
  in_dids (post r x (some s) (as_posted k)) did (e, q) = rw (eq-eqb k s q) (inl e)
  in_dids (post r x none (as_posted k)) did h = absurd h
  in_dids (post r x (some s) as_full) did h = absurd h
  in_dids (post r x none as_full) did h = inl h
  in_dids (post r x s as_used_up) did h = absurd h
  in_dids (collect (some f) (as_delivered l k)) did (e, p, q) = rw (and_from (eqb l f.lane) (eqb k f.stamp) (eq-eqb l f.lane p) (eq-eqb k f.stamp q)) (inl e)
  in_dids (collect none (as_delivered l k)) did h = absurd h
  in_dids (collect (some f) as_empty) did h = absurd h
  in_dids (collect none as_empty) did h = inl h

  pub dids_agree : (o : Operation P) (did : Did P) → In did (dids o) → Agrees o did
  dids_agree (post r x (some s) (as_posted k)) did i = let h = in_cond (eqb k s) (posted (frame_of r s x)) did i in (h.1, eqb-true k s h.0)
  dids_agree (post r x none (as_posted k)) did i = absurd i
  dids_agree (post r x (some s) as_full) did i = absurd i
  dids_agree (post r x none as_full) did (inl e) = e
  dids_agree (post r x none as_full) did (inr i) = absurd i
  dids_agree (post r x s as_used_up) did i = absurd i
  dids_agree (collect (some f) (as_delivered l k)) did i =
      let h = in_cond (eqb l f.lane && eqb k f.stamp) (delivered f) did i in
      let b = and_parts (eqb l f.lane) (eqb k f.stamp) h.0 in
      (h.1, eqb-true l f.lane b.0, eqb-true k f.stamp b.1)
  dids_agree (collect none (as_delivered l k)) did i = absurd i
  dids_agree (collect (some f) as_empty) did i = absurd i
  dids_agree (collect none as_empty) did (inl e) = e
  dids_agree (collect none as_empty) did (inr i) = absurd i

  abbrev pub acts_ended : Ended P → List (Act P)
  acts_ended d = gather (λ did. act_of d.began did ∷ []) (dids d.operation)

  abbrev acts_holding : ℕ → Option (Frame P) → List (Act P)
  acts_holding b none = []
  acts_holding b (some f) = act_of b (delivered f) ∷ []

  abbrev pub acts_fetched : Option (Collecting P) → List (Act P)
  acts_fetched none = []
  acts_fetched (some c) = acts_holding c.began c.fetched

  abbrev pub settled_acts : Log P → List (Act P)
  settled_acts g = gather acts_ended g.ended ++ acts_fetched g.collecting

  -- the lanes that began a post
  abbrev lane_of : Event P → List ℕ
  lane_of (began_post r x) = r ∷ []
  lane_of (took r s) = []
  lane_of (ended_post r how) = []
  lane_of began_collect = []
  lane_of (freed r s x) = []
  lane_of (ended_collect how) = []
  lane_of (stepped_lane r) = []
  lane_of stepped_collector = []
  lane_of (reported p d) = []
  lane_of quiet = []

  abbrev pub lanes_of : List (Event P) → List ℕ
  lanes_of es = gather lane_of es

  -- only they can have a post under way
  abbrev pub Covers : (ℕ → Option (Posting P)) → List ℕ → Type 0
  Covers posts lanes = (r : ℕ) → (posts r ≡ none) ⊎ In r lanes

  covers_more : (posts : ℕ → Option (Posting P)) (ls ms : List ℕ) → Covers posts ms → Covers posts (ls ++ ms)
  covers_more posts ls ms c r = elim (c r) [ inl e ↦ inl e | inr i ↦ inr (in_second r ls ms i) ]

  -- a post that was none stays none
  covers_same : (posts : ℕ → Option (Posting P)) (lanes : List ℕ) (r : ℕ) (q : Option (Posting P)) → (posts r ≡ none → q ≡ none) → Covers posts lanes → Covers (upd posts r q) lanes
  covers_same posts lanes r q h c =
      upd_all (λ l q. (q ≡ none) ⊎ In l lanes) posts r q (elim (c r) [ inl e ↦ inl (h e) | inr i ↦ inr i ]) (λ l _. c l)

  covers_ended : (g : Log P) (lanes : List ℕ) (r : ℕ) (how : PostEnd) (q : Option (Posting P)) → Covers g.posts lanes → Covers (log_post_end g r how q).posts lanes
  covers_ended g lanes r how none c = c
  covers_ended g lanes r how (some p) c = covers_same g.posts lanes r none (λ _. refl) c

  covers_collect_ended : (g : Log P) (lanes : List ℕ) (how : CollectEnd) (q : Option (Collecting P)) → Covers g.posts lanes → Covers (log_collect_end g how q).posts lanes
  covers_collect_ended g lanes how none c = c
  covers_collect_ended g lanes how (some p) c = c

  covers_step : (g : Log P) (e : Event P) (lanes : List ℕ) → Covers g.posts lanes → Covers (log_step g e).posts (lane_of e ++ lanes)
  covers_step g (began_post r x) lanes c =
      let q : Option (Posting P) = some (posting g.now x none 0) in
      upd_all (λ l q. (q ≡ none) ⊎ In l (r ∷ lanes)) g.posts r q (inr (inl refl)) (λ l _. covers_more g.posts (r ∷ []) lanes c l)
  covers_step g (took r s) lanes c = covers_same g.posts lanes r (post_take s (g.posts r)) (λ e. ap (post_take s) e) c
  covers_step g (ended_post r how) lanes c = covers_ended g lanes r how (g.posts r) c
  covers_step g began_collect lanes c = c
  covers_step g (freed r s x) lanes c = c
  covers_step g (ended_collect how) lanes c = covers_collect_ended g lanes how g.collecting c
  covers_step g (stepped_lane r) lanes c = covers_same g.posts lanes r (post_step (g.posts r)) (λ e. ap post_step e) c
  covers_step g stepped_collector lanes c = c
  covers_step g (reported p d) lanes c = c
  covers_step g quiet lanes c = c

  covers_from : (g : Log P) (es : List (Event P)) (lanes : List ℕ) → Covers g.posts lanes → Covers (log_from g es).posts (lanes_of es ++ lanes)
  covers_from g [] lanes c r = c r
  covers_from g (e ∷ es) lanes c r =
      elim (covers_from (log_step g e) es (lane_of e ++ lanes) (covers_step g e lanes c) r) [
        | inl n ↦ inl n
        | inr i ↦ inr (elim (in_split r (lanes_of es) (lane_of e ++ lanes) i) [
          | inl j ↦ in_first r (lane_of e ++ lanes_of es) lanes (in_second r (lane_of e) (lanes_of es) j)
          | inr j ↦ elim (in_split r (lane_of e) lanes j) [
            | inl k ↦ in_first r (lane_of e ++ lanes_of es) lanes (in_first r (lane_of e) (lanes_of es) k)
            | inr k ↦ in_second r (lane_of e ++ lanes_of es) lanes k
          ]
        ])
      ]

  pub covers_of : (es : List (Event P)) → Covers (log_of es).posts (lanes_of es)
  covers_of es r = elim (covers_from start es [] (λ r. inl refl) r) [ inl n ↦ inl n | inr i ↦ inr (rw append-nil at i) ]

-- the act delivers this frame
abbrev delivers : Frame ℕ → Did ℕ → Bool
delivers f (posted h) = false
delivers f (full r) = false
delivers f (delivered h) = same_frame h f
delivers f empty = false

delivers_true : (f : Frame ℕ) (did : Did ℕ) → delivers f did ≡ true → did ≡ delivered f
delivers_true f (posted h) e = absurd (false≢true e)
delivers_true f (full r) e = absurd (false≢true e)
delivers_true f (delivered h) e = ap delivered (same_frame_true h f e)
delivers_true f empty e = absurd (false≢true e)

-- the post under way with this stamp, on lane r, if one of the acts delivers its frame
abbrev acts_posting : List (Act ℕ) → ℕ → Posting ℕ → Option ℕ → List (Act ℕ)
acts_posting as' r p none = []
acts_posting as' r p (some s) = cond (any (λ a. delivers (frame_of r s p.payload) a.did) as') (act_of p.began (posted (frame_of r s p.payload)) ∷ []) []

abbrev pub acts_delivered : List (Act ℕ) → ℕ → Option (Posting ℕ) → List (Act ℕ)
acts_delivered as' r none = []
acts_delivered as' r (some p) = acts_posting as' r p p.stamp

abbrev pub members : List ℕ → Log ℕ → List (Act ℕ)
members lanes g = settled_acts g ++ gather (λ r. acts_delivered (settled_acts g) r (g.posts r)) lanes

module _ {P : Type 0} (g : Log P) where
  pub settled_in : (a : Act P) → HasEnded g.ended a ⊎ HasFetched g a → In a (settled_acts g)
  settled_in a (inl (d, i, e, h)) =
      let j : In a (acts_ended d) = in_gather (λ (did : Did P). act_of d.began did ∷ []) a a.did (dids d.operation) (in_dids d.operation a.did h) (inl (λ k. act_of (e k) a.did)) in
      in_first a (gather acts_ended g.ended) (acts_fetched g.collecting) (in_gather acts_ended a d g.ended i j)
  settled_in a (inr (c, f, e, i, q)) =
      let j : In a (acts_holding c.began (some f)) = inl (sym q) in
      in_second a (gather acts_ended g.ended) (acts_fetched g.collecting) (rw (e, i) j)

  pub in_settled : (a : Act P) → In a (settled_acts g) → HasEnded g.ended a ⊎ HasFetched g a
  in_settled a i =
      elim (in_split a (gather acts_ended g.ended) (acts_fetched g.collecting) i) [
        | inl j ↦ inl (ended (gather_in acts_ended a g.ended j))
        | inr j ↦ inr (fetched g.collecting refl j)
      ]
    where
      ended : (d : Ended P) × In d g.ended × In a (acts_ended d) → HasEnded g.ended a
      ended (d, i, j) =
          let n = gather_in (λ (did : Did P). act_of d.began did ∷ []) a (dids d.operation) j in
          elim n.2 [ inl e ↦ (d, i, ap (λ (a : Act P). a.began) e, subst (λ (a : Act P). Agrees d.operation a.did) e (dids_agree d.operation n.0 n.1)) | inr k ↦ absurd k ]

      holding_of : (c : Collecting P) (o : Option (Frame P)) → g.collecting ≡ some c → c.fetched ≡ o → In a (acts_holding c.began o) → HasFetched g a
      holding_of c none e i j = absurd j
      holding_of c (some f) e i (inl q) = (c, f, e, i, sym q)
      holding_of c (some f) e i (inr j) = absurd j

      fetched : (o : Option (Collecting P)) → g.collecting ≡ o → In a (acts_fetched o) → HasFetched g a
      fetched none e j = absurd j
      fetched (some c) e j = holding_of c c.fetched e refl j

-- every order holds the members, and nothing else, once its collects are among the settled acts and it holds these
module _ (g : Log ℕ) (lanes : List ℕ) (covers : Covers g.posts lanes) (order : List (Act ℕ)) where
  abbrev settled : List (Act ℕ)
  settled = settled_acts g

  abbrev rest : List (Act ℕ)
  rest = gather (λ r. acts_delivered settled r (g.posts r)) lanes

  pub belongs_member : ((c : Act ℕ) (f : Frame ℕ) → In c order → c.did ≡ delivered f → In c settled) → (a : Act ℕ) → Belongs g order a → In a (members lanes g)
  belongs_member h a (inl k) = in_first a settled rest (settled_in g a (inl k))
  belongs_member h a (inr (inl k)) = in_first a settled rest (settled_in g a (inr k))
  belongs_member h a (inr (inr (r, p, s, e, i, q, c, j, z))) =
      let f : Frame ℕ = frame_of r s p.payload in
      let found : any (λ b. delivers f b.did) settled ≡ true = true_any (λ b. delivers f b.did) settled c (h c f j z) (ap (delivers f) z ∙ true_same_frame f f refl) in
      let here : In a (acts_delivered settled r (g.posts r)) = rw (e, i, found) (inl (sym q)) in
      elim (covers r) [
        | inl n ↦ absurd (let y : none ≡ some p = sym n ∙ e in let m : ◌≡◌ {A = ℕ} 0 1 = cc in omega arith)
        | inr l ↦ in_second a settled rest (in_gather (λ r. acts_delivered settled r (g.posts r)) a r lanes l here)
      ]

  pub member_belongs : ((c : Act ℕ) → In c settled → In c order) → (a : Act ℕ) → In a (members lanes g) → Belongs g order a
  member_belongs h a i =
      elim (in_split a settled rest i) [
        | inl j ↦ elim (in_settled g a j) [ inl k ↦ inl k | inr k ↦ inr (inl k) ]
        | inr j ↦ (let n = gather_in (λ r. acts_delivered settled r (g.posts r)) a lanes j in inr (inr (posting_of n.0 (g.posts n.0) refl n.2)))
      ]
    where
      stamp_of : (r : ℕ) (p : Posting ℕ) (s : Option ℕ) → g.posts r ≡ some p → p.stamp ≡ s → In a (acts_posting settled r p s) → IsDelivered g order a
      stamp_of r p none e i j = absurd j
      stamp_of r p (some s) e i j =
          let f : Frame ℕ = frame_of r s p.payload in
          let n = in_cond (any (λ b. delivers f b.did) settled) (act_of p.began (posted f)) a j in
          let c = any_true (λ b. delivers f b.did) settled n.0 in
          (r, p, s, e, i, sym n.1, c.0, h c.0 c.1, delivers_true f c.0.did c.2)

      posting_of : (r : ℕ) (o : Option (Posting ℕ)) → g.posts r ≡ o → In a (acts_delivered settled r o) → IsDelivered g order a
      posting_of r none e j = absurd j
      posting_of r (some p) e j = stamp_of r p p.stamp e refl j

  -- a member that delivers a frame is settled
  pub delivering_settled : (c : Act ℕ) (f : Frame ℕ) → In c (members lanes g) → c.did ≡ delivered f → In c settled
  delivering_settled c f i z =
      elim (in_split c settled rest i) [
        | inl j ↦ j
        | inr j ↦ (let n = gather_in (λ r. acts_delivered settled r (g.posts r)) c lanes j in absurd (posting_of n.0 (g.posts n.0) n.2))
      ]
    where
      stamp_of : (r : ℕ) (p : Posting ℕ) (s : Option ℕ) → In c (acts_posting settled r p s) → ⊥
      stamp_of r p none j = j
      stamp_of r p (some s) j =
          let h : Frame ℕ = frame_of r s p.payload in
          let n = in_cond (any (λ b. delivers h b.did) settled) (act_of p.began (posted h)) c j in
          let y : posted h ≡ delivered f = ap (λ (a : Act ℕ). a.did) n.1 ∙ z in
          let m : ◌≡◌ {A = ℕ} 0 1 = cc in omega arith

      posting_of : (r : ℕ) (o : Option (Posting ℕ)) → In c (acts_delivered settled r o) → ⊥
      posting_of r none j = j
      posting_of r (some p) j = stamp_of r p p.stamp j
