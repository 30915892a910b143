-- The log and the book are kept from the same events, and know the same of the operations under way.
use Rattle.std.proofs.Common.{◌≡◌, ℕ, suc, eqb, refl, ap, inl, inr}
use mathlib.Core.Option.{Option, none, some}
use Rattle.std.proofs.lemmas.Bool.{cases_eq, cond-true, eq-eqb}
use Rattle.order.specs.Tables.{upd}
use Rattle.order.specs.SingleFile.{Frame}
use Rattle.order.specs.Logs.{Collecting, Log, Posting, collect_step, post_step, start}
use Rattle.order.specs.Books.{Book, Collect, Post, blank}
use Rattle.order.specs.Books.Post.{begun, gone, idle, stamped}
use Rattle.order.specs.Books.Collect.{at_rest, holding, looking}
use Rattle.order.proofs.Lists.{upd_other}

abbrev pub posting : {P : Type 0} → ℕ → P → Option ℕ → ℕ → Posting P
posting b x s n = record { began = b; payload = x; stamp = s; grants = n }

abbrev pub collecting_of : {P : Type 0} → ℕ → Option (Frame P) → ℕ → Collecting P
collecting_of b f n = record { began = b; fetched = f; grants = n }

-- the post of the book is the post of the log, which has had some grants
abbrev pub Shows : {P : Type 0} → Post P → Option (Posting P) → Type 0
Shows idle q = q ≡ none
Shows (begun b x) q = (n : ℕ) × (q ≡ some (posting b x none n))
Shows (stamped b x s t) q = (n : ℕ) × (q ≡ some (posting b x (some s) n))
Shows (gone b x s) q = (n : ℕ) × (q ≡ some (posting b x (some s) n))

abbrev pub ShowsCollect : {P : Type 0} → Collect P → Option (Collecting P) → Type 0
ShowsCollect at_rest q = q ≡ none
ShowsCollect (looking b) q = (n : ℕ) × (q ≡ some (collecting_of b none n))
ShowsCollect (holding b f) q = (n : ℕ) × (q ≡ some (collecting_of b (some f) n))

pub record Agree {P : Type 0} (g : Log P) (k : Book P) : Type 0 where
  pub now : g.now ≡ k.now
  pub posts : (r : ℕ) → Shows (k.posts r) (g.posts r)
  pub collect : ShowsCollect k.collect g.collecting

module _ {P : Type 0} where
  pub shows_upd :
      (posts : ℕ → Post P) (logged : ℕ → Option (Posting P)) (r : ℕ) (p : Post P) (q : Option (Posting P))
      → Shows p q → ((l : ℕ) → Shows (posts l) (logged l)) → (l : ℕ) → Shows (upd posts r p l) (upd logged r q l)
  shows_upd posts logged r p q h hs l =
      elim (cases_eq l r) [
        | inl e ↦ rw (upd_at posts r p l e, upd_at logged r q l e) h
        | inr n ↦ rw (upd_other posts r p l n, upd_other logged r q l n) (hs l)
      ]
    where
      upd_at : {X : Type 0} (f : ℕ → X) (i : ℕ) (a : X) (j : ℕ) → j ≡ i → upd f i a j ≡ a
      upd_at f i a j e = cond-true (eqb j i) a (f j) (eq-eqb j i e)

  -- one more grant changes no more than the number of grants
  pub shows_step : (p : Post P) (q : Option (Posting P)) → Shows p q → Shows p (post_step q)
  shows_step idle q e = ap post_step e
  shows_step (begun b x) q (n, e) = (suc n, ap post_step e)
  shows_step (stamped b x s t) q (n, e) = (suc n, ap post_step e)
  shows_step (gone b x s) q (n, e) = (suc n, ap post_step e)

  pub shows_collect_step : (c : Collect P) (q : Option (Collecting P)) → ShowsCollect c q → ShowsCollect c (collect_step q)
  shows_collect_step at_rest q e = ap collect_step e
  shows_collect_step (looking b) q (n, e) = (suc n, ap collect_step e)
  shows_collect_step (holding b f) q (n, e) = (suc n, ap collect_step e)

  pub agree_start : Agree (start {P = P}) blank
  agree_start = record { now = refl; posts = λ r. refl; collect = refl }
