-- Small facts on the parts of the invariant: times that lie in the past, what an end adds, and posts whose frame is not gone.
use Rattle.std.proofs.Common.{◌≡◌, ℕ, suc, ◌<◌, ◌≤◌, ◌≢◌, List, [], ◌∷◌, sym, refl, ap, ◌∙◌, inl, inr, arith}
use Rattle.std.specs.List.{AllByRecursion}
use Rattle.std.proofs.ByRecursion.{All-weaker}
use Rattle.std.proofs.lemmas.Bool.{cases_eq, le-ltb}
use Rattle.order.specs.Tables.{Pairs, upd}
use Rattle.order.specs.SingleFile.{Act}
use Rattle.order.specs.Logs.{Ended}
use Rattle.order.specs.Books.{Post}
use Rattle.order.specs.Books.Post.{begun, gone, idle, stamped}
use Rattle.order.proofs.Lists.{all_both, pairs_weaker, upd_other, upd_same}
use Rattle.order.proofs.Backs.{Item, fetched_after, since}
use Rattle.order.proofs.Backs.Item.{fetch, refused, standing}
use Rattle.order.proofs.Invariant.{Before, BegunBefore, EarlierThan, EndedOther, EndsLate, FetchedBefore, IsGone, RefusedBefore, Timed, Unplaced}

module _ {P : Type 0} where
  pub since_past : (now : ℕ) (i : Item P) → Timed now i → since i < now
  since_past now (standing w) h = omega arith
  since_past now (refused b r u) h = omega arith
  since_past now (fetch b f u) h = omega arith

  timed_next : (now : ℕ) (i : Item P) → Timed now i → Timed (suc now) i
  timed_next now (standing w) h = omega arith
  timed_next now (refused b r u) h = omega arith
  timed_next now (fetch b f u) h = omega arith

  pub all_timed_next : (now : ℕ) (is : List (Item P)) → AllByRecursion (Timed now) is → AllByRecursion (Timed (suc now)) is
  all_timed_next now is h = All-weaker (Timed now) (Timed (suc now)) (timed_next now) is h

  pub acts_next : (now : ℕ) (order : List (Act P)) → AllByRecursion (BegunBefore now) order → AllByRecursion (BegunBefore (suc now)) order
  acts_next now order h = All-weaker (BegunBefore now) (BegunBefore (suc now)) (λ a h. omega arith) order h

  pub ended_next : (now : ℕ) (ds : List (Ended P)) → AllByRecursion (EarlierThan now) ds → AllByRecursion (EarlierThan (suc now)) ds
  ended_next now ds h = All-weaker (EarlierThan now) (EarlierThan (suc now)) (λ d h. omega arith) ds h

  -- as of now nothing was freed later, and full posts and collects lie before
  pub none_fetched : (l now : ℕ) (is : List (Item P)) → AllByRecursion (Timed now) is → fetched_after l now is ≡ 0
  none_fetched l now [] h = refl
  none_fetched l now (standing w ∷ is) (k, h) = none_fetched l now is h
  none_fetched l now (refused b r u ∷ is) (k, h) = none_fetched l now is h
  none_fetched l now (fetch b f u ∷ is) (k, h) = let ih = none_fetched l now is h in let e = le-ltb now u (omega arith) in grind arith

  pub refused_before : (r now : ℕ) (i : Item P) → Timed now i → RefusedBefore r now i
  refused_before r now (standing w) h = tt
  refused_before r now (refused b l u) h = λ e. omega arith
  refused_before r now (fetch b f u) h = tt

  pub fetched_before : (now : ℕ) (i : Item P) → Timed now i → FetchedBefore now i
  fetched_before now (standing w) h = tt
  fetched_before now (refused b l u) h = tt
  fetched_before now (fetch b f u) h = omega arith

  -- an operation ends now
  pub ends_late_next : (now : ℕ) (d : Ended P) (ds : List (Ended P)) (is : List (Item P)) → d.ended ≡ now → AllByRecursion (Timed now) is → AllByRecursion (EndsLate ds) is → AllByRecursion (EndsLate (d ∷ ds)) is
  ends_late_next now d ds is e h k = all_both (Timed now) (EndsLate ds) (EndsLate (d ∷ ds)) (λ i o n. ((λ _. omega (arith, since_past now i o)), n)) is h k

  pub before_next : (now : ℕ) (d : Ended P) (ds : List (Ended P)) (order : List (Act P)) → d.ended ≡ now → AllByRecursion (BegunBefore now) order → Pairs (Before ds) order → Pairs (Before (d ∷ ds)) order
  before_next now d ds order e h k =
      pairs_weaker (BegunBefore now) (Before ds) (Before (d ∷ ds)) (λ x y l _ m. (m.0, ((λ _. omega arith), m.1))) order h k

  -- what has not ended may stand behind anything else
  pub before_last : (ds : List (Ended P)) (x a : Act P) → AllByRecursion (EndedOther a.began) ds → x.began ≢ a.began → Before ds x a
  before_last ds x a u n = (n, All-weaker (EndedOther a.began) (λ (d : Ended P). d.began ≡ a.began → x.began ≤ d.ended) (λ d m z. absurd (m z)) ds u)

  pub all_before_last : (ds : List (Ended P)) (a : Act P) (xs : List (Act P)) → AllByRecursion (EndedOther a.began) ds → Unplaced xs a.began → AllByRecursion (λ (x : Act P). Before ds x a) xs
  all_before_last ds a xs u h = All-weaker (λ (x : Act P). x.began ≢ a.began) (λ (x : Act P). Before ds x a) (λ x n. before_last ds x a u n) xs h

  -- the begin time of d is none of those in ds, said the other way round
  pub apart_next : (d : Ended P) (ds : List (Ended P)) → AllByRecursion (λ (e : Ended P). e.began ≢ d.began) ds → AllByRecursion (λ (e : Ended P). d.began ≢ e.began) ds
  apart_next d ds h = All-weaker (λ (e : Ended P). e.began ≢ d.began) (λ (e : Ended P). d.began ≢ e.began) (λ e n z. n (sym z)) ds h

  -- one post changes, and its frame is not gone
  abbrev pub NotGone : Post P → Type 0
  NotGone p = (b : ℕ) (x : P) (s : ℕ) → p ≢ gone b x s

  pub gone_after : (posts : ℕ → Post P) (r : ℕ) (p : Post P) (a : Act P) → NotGone (posts r) → IsGone posts a → IsGone (upd posts r p) a
  gone_after posts r p a n (l, b, x, s, e, q) =
      elim (cases_eq l r) [
        | inl z ↦ absurd (n b x s (ap posts (sym z) ∙ e))
        | inr m ↦ (l, b, x, s, upd_other posts r p l m ∙ e, q)
      ]

  pub gone_from : (posts : ℕ → Post P) (r : ℕ) (p : Post P) (a : Act P) → NotGone p → IsGone (upd posts r p) a → IsGone posts a
  gone_from posts r p a n (l, b, x, s, e, q) =
      elim (cases_eq l r) [
        | inl z ↦ absurd (n b x s (sym (upd_same posts r p) ∙ (ap (upd posts r p) (sym z) ∙ e)))
        | inr m ↦ (l, b, x, s, sym (upd_other posts r p l m) ∙ e, q)
      ]

  pub idle_not_gone : NotGone idle
  idle_not_gone b x s e = let z : ◌≡◌ {A = ℕ} 0 1 = cc in omega arith

  pub begun_not_gone : (c : ℕ) (y : P) → NotGone (begun c y)
  begun_not_gone c y b x s e = let z : ◌≡◌ {A = ℕ} 0 1 = cc in omega arith

  pub stamped_not_gone : (c : ℕ) (y : P) (k t : ℕ) → NotGone (stamped c y k t)
  stamped_not_gone c y k t b x s e = let z : ◌≡◌ {A = ℕ} 0 1 = cc in omega arith
