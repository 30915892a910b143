-- Histories over numbers are judged by computing: an order that is written out is accepted, or all arrangements are refused.
use Rattle.std.proofs.Common.{◌≡◌, ℕ, Bool, true, false, not, ◌&&◌, ◌||◌, eqb, List, [], ◌∷◌, length, sym, refl, ap, ◌∙◌, subst, inl, inr, arith}
use mathlib.Core.Option.{Option, none, some}
use Rattle.std.specs.List.{AllByRecursion}
use Rattle.std.proofs.ByRecursion.{All-weaker}
use Rattle.std.proofs.lemmas.Bool.{and_parts, both_ways, eq-eqb, eqb-true, false≢true, not-true, or_cases, or_left, or_right}
use Rattle.order.specs.Tables.{In, Pairs, gather}
use Rattle.order.specs.SingleFile.{Act, Did, Frame, act_of, frame_of}
use Rattle.order.specs.SingleFile.Did.{delivered, empty, full, posted}
use Rattle.order.specs.Events.{Event}
use Rattle.order.specs.Events.PostEnd.{as_full, as_posted, as_used_up}
use Rattle.order.specs.Logs.{Ended, Log, Operation, log_of}
use Rattle.order.specs.Logs.Operation.{collect, post}
use Rattle.order.specs.Orders.{Belongs, IsOrder, MayPrecede, SingleFileOrder, Stands, UsedUp}
use Rattle.order.specs.Books.{blank}
use Rattle.order.specs.Histories.{IsRight, IsWrong, Right, SmallHistoriesAreJudgedRightly, Wrong, right_histories, wrong_histories}
use Rattle.order.proofs.Lists.{all_from_in, all_in, in_first}
use Rattle.order.proofs.Gathered.{pairs_in}
use Rattle.order.proofs.Deciding.{all, all_true, any, any_true, same_frame, same_frame_true, true_all, true_any}
use Rattle.order.proofs.Members.{Covers, acts_delivered, belongs_member, covers_of, delivering_settled, dids, dids_agree, in_dids, in_settled, lanes_of, member_belongs, members, settled_acts, settled_in}
use Rattle.order.proofs.Searching.{Apart, arranged, arranges, in_time, in_time_true, play, played}
use Rattle.order.proofs.Admitting.{admitted, admitted_true, unadmitted}

abbrev same_did : Did ℕ → Did ℕ → Bool
same_did (posted f) (posted h) = same_frame f h
same_did (posted f) (full r) = false
same_did (posted f) (delivered h) = false
same_did (posted f) empty = false
same_did (full r) (posted h) = false
same_did (full r) (full l) = eqb r l
same_did (full r) (delivered h) = false
same_did (full r) empty = false
same_did (delivered f) (posted h) = false
same_did (delivered f) (full r) = false
same_did (delivered f) (delivered h) = same_frame f h
same_did (delivered f) empty = false
same_did empty (posted h) = false
same_did empty (full r) = false
same_did empty (delivered h) = false
same_did empty empty = true

same_did_true : (x y : Did ℕ) → same_did x y ≡ true → x ≡ y
same_did_true (posted f) (posted h) e = ap posted (same_frame_true f h e)
same_did_true (posted f) (full r) e = absurd (false≢true e)
same_did_true (posted f) (delivered h) e = absurd (false≢true e)
same_did_true (posted f) empty e = absurd (false≢true e)
same_did_true (full r) (posted h) e = absurd (false≢true e)
same_did_true (full r) (full l) e = ap full (eqb-true r l e)
same_did_true (full r) (delivered h) e = absurd (false≢true e)
same_did_true (full r) empty e = absurd (false≢true e)
same_did_true (delivered f) (posted h) e = absurd (false≢true e)
same_did_true (delivered f) (full r) e = absurd (false≢true e)
same_did_true (delivered f) (delivered h) e = ap delivered (same_frame_true f h e)
same_did_true (delivered f) empty e = absurd (false≢true e)
same_did_true empty (posted h) e = absurd (false≢true e)
same_did_true empty (full r) e = absurd (false≢true e)
same_did_true empty (delivered h) e = absurd (false≢true e)
same_did_true empty empty e = refl

abbrev is_in : List (Act ℕ) → Act ℕ → Bool
is_in as' a = any (λ b. eqb b.began a.began && same_did b.did a.did) as'

is_in_true : (as' : List (Act ℕ)) (a : Act ℕ) → is_in as' a ≡ true → In a as'
is_in_true as' a e =
    let (b, i, t) = any_true (λ (b : Act ℕ). eqb b.began a.began && same_did b.did a.did) as' e in
    let p = and_parts (eqb b.began a.began) (same_did b.did a.did) t in
    let same : b ≡ a = λ k. act_of (eqb-true b.began a.began p.0 k) (same_did_true b.did a.did p.1 k) in
    subst (λ (a : Act ℕ). In a as') same i

-- a test of every two, the first of them the earlier
abbrev pairs : {X : Type 0} → (X → X → Bool) → List X → Bool
pairs t [] = true
pairs t (x ∷ xs) = all (t x) xs && pairs t xs

pairs_true : {X : Type 0} (t : X → X → Bool) (xs : List X) → pairs t xs ≡ true → Pairs (λ (x y : X). t x y ≡ true) xs
pairs_true t [] e = tt
pairs_true t (x ∷ xs) e = let p = and_parts (all (t x) xs) (pairs t xs) e in (all_true (t x) xs p.0, pairs_true t xs p.1)

abbrev apart : Act ℕ → Act ℕ → Bool
apart x y = not (eqb x.began y.began)

apart_true : (xs : List (Act ℕ)) → pairs apart xs ≡ true → Pairs Apart xs
apart_true xs e =
    pairs_in (λ (x y : Act ℕ). apart x y ≡ true) Apart xs (λ x y _ _ t q. both_ways (eqb x.began y.began) (not-true (eqb x.began y.began) t) (eq-eqb x.began y.began q)) (pairs_true apart xs e)

-- an ended operation agrees with some act, or ended used up
abbrev used_up : Operation ℕ → Bool
used_up (post r x s (as_posted k)) = false
used_up (post r x s as_full) = false
used_up (post r x s as_used_up) = true
used_up (collect f how) = false

used_up_true : (o : Operation ℕ) → used_up o ≡ true → UsedUp o
used_up_true (post r x s (as_posted k)) e = absurd (false≢true e)
used_up_true (post r x s as_full) e = absurd (false≢true e)
used_up_true (post r x s as_used_up) e = tt
used_up_true (collect f how) e = absurd (false≢true e)

true_used_up : (o : Operation ℕ) → UsedUp o → used_up o ≡ true
true_used_up (post r x s (as_posted k)) h = absurd h
true_used_up (post r x s as_full) h = absurd h
true_used_up (post r x s as_used_up) h = refl
true_used_up (collect f how) h = absurd h

abbrev honest : Ended ℕ → Bool
honest d = used_up d.operation || any (λ did. true) (dids d.operation)

abbrev is_some : {X : Type 0} → Option X → Bool
is_some none = false
is_some (some x) = true

is_some_true : {X : Type 0} (o : Option X) → is_some o ≡ true → (x : X) × (o ≡ some x)
is_some_true none e = absurd (false≢true e)
is_some_true (some x) e = (x, refl)

-- the tests of a history with an order written out; and of one that has none
abbrev accepted : ℕ → List (Event ℕ) → List (Act ℕ) → Bool
accepted cap es order =
    all (λ t. t)
    (is_some (play cap [] order) ∷ pairs apart order ∷ pairs (in_time (log_of es).ended) order
    ∷ all (is_in (members (lanes_of es) (log_of es))) order ∷ all (is_in order) (members (lanes_of es) (log_of es)) ∷ all honest (log_of es).ended ∷ [])

abbrev refuted : ℕ → List (Event ℕ) → Bool
refuted cap es =
    not (all honest (log_of es).ended)
    || (pairs apart (members (lanes_of es) (log_of es)) && not (arranges (length (members (lanes_of es) (log_of es))) cap (log_of es).ended [] (members (lanes_of es) (log_of es))))

module _ (cap : ℕ) (es : List (Event ℕ)) where
  abbrev g : Log ℕ
  g = log_of es

  abbrev ms : List (Act ℕ)
  ms = members (lanes_of es) g

  covers : Covers g.posts (lanes_of es)
  covers = covers_of es

  -- what the tests say of an order written out
  module _ (order : List (Act ℕ)) (e : accepted cap es order ≡ true) where
    tests : AllByRecursion (λ (t : Bool). t ≡ true)
        (is_some (play cap [] order) ∷ pairs apart order ∷ pairs (in_time g.ended) order ∷ all (is_in ms) order ∷ all (is_in order) ms ∷ all honest g.ended ∷ [])
    tests =
        all_true (λ t. t)
        (is_some (play cap [] order) ∷ pairs apart order ∷ pairs (in_time g.ended) order ∷ all (is_in ms) order ∷ all (is_in order) ms ∷ all honest g.ended ∷ []) e

    member : (a : Act ℕ) → In a order → In a ms
    member a i = is_in_true ms a (all_in (λ (a : Act ℕ). is_in ms a ≡ true) a order i (all_true (is_in ms) order tests.1.1.1.0))

    placed : (a : Act ℕ) → In a ms → In a order
    placed a i = is_in_true order a (all_in (λ (a : Act ℕ). is_in order a ≡ true) a ms i (all_true (is_in order) ms tests.1.1.1.1.0))

    settled_placed : (a : Act ℕ) → In a (settled_acts g) → In a order
    settled_placed a i = placed a (in_first a (settled_acts g) (gather (λ r. acts_delivered (settled_acts g) r (g.posts r)) (lanes_of es)) i)

    stands : (d : Ended ℕ) → In d g.ended → honest d ≡ true → Stands order d
    stands d i t =
        elim (or_cases (used_up d.operation) (any (λ did. true) (dids d.operation)) t) [
          | inl u ↦ inl (used_up_true d.operation u)
          | inr u ↦ (
              let (did, j, _) = any_true (λ (did : Did ℕ). true) (dids d.operation) u in
              let agrees = dids_agree d.operation did j in
              let a : Act ℕ = act_of d.began did in
              inr (a, settled_placed a (settled_in g a (inl (d, i, refl, agrees))), refl, agrees))
        ]

    accepts : IsOrder cap g order
    accepts =
        let (left, p) = is_some_true (play cap [] order) tests.0 in
        record {
          left = left;
          replays = played cap [] order left p;
          apart = apart_true order tests.1.0;
          real_time = pairs_in (λ (x y : Act ℕ). in_time g.ended x y ≡ true) (MayPrecede g.ended) order (λ x y _ _ t. in_time_true x y g.ended t) (pairs_true (in_time g.ended) order tests.1.1.0);
          belong = all_from_in (Belongs g order) order (λ a i. member_belongs g (lanes_of es) covers order settled_placed a (member a i));
          whole = λ a h. placed a (belongs_member g (lanes_of es) covers order (λ c f i z. delivering_settled g (lanes_of es) covers order c f (member c i) z) a h);
          stand = all_from_in (Stands order) g.ended (λ d i. stands d i (all_in (λ (d : Ended ℕ). honest d ≡ true) d g.ended i (all_true honest g.ended tests.1.1.1.1.1.0)));
        }

  -- what an order would have to be
  module _ (order : List (Act ℕ)) (o : IsOrder cap g order) where
    settled_in_order : (a : Act ℕ) → In a (settled_acts g) → In a order
    settled_in_order a i = o.whole a (elim (in_settled g a i) [ inl h ↦ inl h | inr h ↦ inr (inl h) ])

    collect_settled : (c : Act ℕ) (f : Frame ℕ) → In c order → c.did ≡ delivered f → In c (settled_acts g)
    collect_settled c f i z =
        elim (all_in (Belongs g order) c order i o.belong) [
          | inl h ↦ settled_in g c (inl h)
          | inr (inl h) ↦ settled_in g c (inr h)
          | inr (inr (r, p, s, e, j, q, k, l, w)) ↦ absurd (let y : posted (frame_of r s p.payload) ≡ delivered f = sym (ap (λ (a : Act ℕ). a.did) q) ∙ z in let m : ◌≡◌ {A = ℕ} 0 1 = cc in omega arith)
        ]

    all_honest : all honest g.ended ≡ true
    all_honest =
        true_all honest g.ended
        (All-weaker (Stands order) (λ (d : Ended ℕ). honest d ≡ true)
        (λ d h. elim h [
          | inl u ↦ or_left (used_up d.operation) (any (λ did. true) (dids d.operation)) (true_used_up d.operation u)
          | inr (a, i, e, s) ↦ or_right (used_up d.operation) (any (λ did. true) (dids d.operation)) (true_any (λ did. true) (dids d.operation) a.did (in_dids d.operation a.did s) refl)
        ])
        g.ended o.stand)

    is_arranged : pairs apart ms ≡ true → arranges (length ms) cap g.ended [] ms ≡ true
    is_arranged t =
        arranged cap g.ended o.left (length ms) order [] ms (omega arith)
        (λ a i. belongs_member g (lanes_of es) covers order collect_settled a (all_in (Belongs g order) a order i o.belong))
        (λ a i. o.whole a (member_belongs g (lanes_of es) covers order settled_in_order a i))
        o.apart (apart_true ms t) o.real_time o.replays

  refutes : refuted cap es ≡ true → SingleFileOrder cap g → ⊥
  refutes e s =
      let o = s.is_order in
      let can = arranges (length ms) cap g.ended [] ms in
      elim (or_cases (not (all honest g.ended)) (pairs apart ms && not can) e) [
        | inl n ↦ both_ways (all honest g.ended) (not-true (all honest g.ended) n) (all_honest s.order o)
        | inr n ↦ (let p = and_parts (pairs apart ms) (not can) n in both_ways can (not-true can p.1) (is_arranged s.order o p.0))
      ]

abbrev judged_right : Right → Bool
judged_right h = accepted h.cap h.events h.order && admitted h.cap [] blank h.events

abbrev judged_wrong : Wrong → Bool
judged_wrong h = refuted h.cap h.events

is_right : (h : Right) → judged_right h ≡ true → IsRight h
is_right h e =
    let p = and_parts (accepted h.cap h.events h.order) (admitted h.cap [] blank h.events) e in
    (accepts h.cap h.events h.order p.0, admitted_true h.cap h.events [] blank (λ r. inl refl) p.1)

is_wrong : (h : Wrong) → judged_wrong h ≡ true → IsWrong h
is_wrong h e = let n = refutes h.cap h.events e in (n, unadmitted h.cap h.events n)

pub small_histories_judged : SmallHistoriesAreJudgedRightly
small_histories_judged = (
  All-weaker (λ (h : Right). judged_right h ≡ true) IsRight is_right right_histories (all_true judged_right right_histories refl),
  All-weaker (λ (h : Wrong). judged_wrong h ≡ true) IsWrong is_wrong wrong_histories (all_true judged_wrong wrong_histories refl),
)
