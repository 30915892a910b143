-- A stamp is taken once: the frames of posts that ended posted, and of those under way, have different stamps.
use Rattle.std.proofs.Common.{◌≡◌, ℕ, suc, ◌<◌, ◌≤◌, ◌≢◌, List, [], ◌∷◌, ◌++◌, sym, refl, ap, subst, arith}
use mathlib.Core.Option.{some}
use Rattle.std.specs.List.{AllByRecursion}
use Rattle.std.proofs.ByRecursion.{All-weaker}
use Rattle.order.specs.Tables.{Pairs, upd}
use Rattle.order.specs.SingleFile.{Frame}
use Rattle.order.specs.Events.PostEnd.{as_posted}
use Rattle.order.specs.Logs.{Ended}
use Rattle.order.specs.Logs.Operation.{post}
use Rattle.order.specs.Books.{Post}
use Rattle.order.specs.Books.Post.{begun, gone, idle, stamped}
use Rattle.order.specs.Accounts.{frame_posted, frames_posted}
use Rattle.order.proofs.Lists.{upd_all}
use Rattle.order.proofs.Closing.{ends_as}

abbrev pub HasStamp : {P : Type 0} → Post P → ℕ → Type 0
HasStamp idle s = ⊥
HasStamp (begun b x) s = ⊥
HasStamp (stamped b x k t) s = k ≡ s
HasStamp (gone b x k) s = k ≡ s

-- a stamp that no post took so far which ended posted
abbrev pub Unposted : {P : Type 0} → List (Ended P) → ℕ → Type 0
Unposted {P} ds s = AllByRecursion (λ (f : Frame P). f.stamp ≢ s) (frames_posted ds)

pub record TakenOnce {P : Type 0} (ds : List (Ended P)) (posts : ℕ → Post P) (top : ℕ) : Type 0 where
  pub posted_below : AllByRecursion (λ (f : Frame P). f.stamp < top) (frames_posted ds)
  pub posted_apart : Pairs (λ (f h : Frame P). f.stamp ≢ h.stamp) (frames_posted ds)
  pub own_below : (r s : ℕ) → HasStamp (posts r) s → s < top
  pub own_apart : (r s : ℕ) → HasStamp (posts r) s → Unposted ds s
  pub lanes_apart : (l r s : ℕ) → l ≢ r → HasStamp (posts l) s → HasStamp (posts r) s → ⊥

module _ {P : Type 0} (ds : List (Ended P)) (posts : ℕ → Post P) (top : ℕ) (v : TakenOnce ds posts top) where
  -- no post has a stamp that it had not
  pub once_fewer : (posts' : ℕ → Post P) → ((l s : ℕ) → HasStamp (posts' l) s → HasStamp (posts l) s) → TakenOnce ds posts' top
  once_fewer posts' f =
      record {
        posted_below = v.posted_below;
        posted_apart = v.posted_apart;
        own_below = λ r s h. v.own_below r s (f r s h);
        own_apart = λ r s h. v.own_apart r s (f r s h);
        lanes_apart = λ l r s n h k. v.lanes_apart l r s n (f l s h) (f r s k);
      }

  pub once_change : (r : ℕ) (p : Post P) → ((s : ℕ) → HasStamp p s → HasStamp (posts r) s) → TakenOnce ds (upd posts r p) top
  once_change r p f = once_fewer (upd posts r p) (upd_all (λ l q. (s : ℕ) → HasStamp q s → HasStamp (posts l) s) posts r p f (λ l _ s h. h))

  -- lane r takes a stamp above all
  pub once_took : (r b t s : ℕ) (x : P) → top ≤ s → TakenOnce ds (upd posts r (stamped b x s t)) (suc s)
  once_took r b t s x n =
      let p : Post P = stamped b x s t in
      let below : (l u : ℕ) → HasStamp (posts l) u → u < s = λ l u h. omega (arith, v.own_below l u h) in
      let fresh : Unposted ds s = All-weaker (λ (f : Frame P). f.stamp < top) (λ (f : Frame P). f.stamp ≢ s) (λ f h e. omega arith) (frames_posted ds) v.posted_below in
      record {
        posted_below = All-weaker (λ (f : Frame P). f.stamp < top) (λ (f : Frame P). f.stamp < suc s) (λ f h. omega arith) (frames_posted ds) v.posted_below;
        posted_apart = v.posted_apart;
        own_below = upd_all (λ l q. (u : ℕ) → HasStamp q u → u < suc s) posts r p (λ u h. omega arith) (λ l _ u h. omega (arith, below l u h));
        own_apart = upd_all (λ l q. (u : ℕ) → HasStamp q u → Unposted ds u) posts r p (λ u h. subst (Unposted ds) h fresh) (λ l _ u h. v.own_apart l u h);
        lanes_apart =
            λ l m u d h k.
            upd_all (λ l q. l ≢ m → HasStamp q u → ⊥) posts r p
            (λ d h. upd_all (λ m q. r ≢ m → HasStamp q u → ⊥) posts r p (λ d k. d refl) (λ m _ d k. omega (arith, below m u k)) m d k)
            (λ l _ d h. upd_all (λ m q. l ≢ m → HasStamp q u → ⊥) posts r p (λ d k. omega (arith, below l u h)) (λ m _ d k. v.lanes_apart l m u d h k) m d k)
            l d h;
      }

  -- the post of lane r, with the stamp s, ends posted
  pub once_posted :
      (r b t n s k : ℕ) (x : P) → HasStamp (posts r) s → TakenOnce (ends_as b t n (post r x (some s) (as_posted k)) ∷ ds) (upd posts r idle) top
  once_posted r b t n s k x h =
      record {
        posted_below = (v.own_below r s h, v.posted_below);
        posted_apart = (All-weaker (λ (f : Frame P). f.stamp ≢ s) (λ (f : Frame P). s ≢ f.stamp) (λ f m e. m (sym e)) (frames_posted ds) (v.own_apart r s h), v.posted_apart);
        own_below = upd_all (λ l q. (u : ℕ) → HasStamp q u → u < top) posts r idle (λ u k. absurd k) (λ l _ u k. v.own_below l u k);
        own_apart =
            upd_all (λ l q. (u : ℕ) → HasStamp q u → (s ≢ u) × Unposted ds u) posts r idle (λ u k. absurd k)
            (λ l m u k. ((λ e. v.lanes_apart l r u m k (subst (HasStamp (posts r)) e h)), v.own_apart l u k));
        lanes_apart =
            λ l m u d h k.
            v.lanes_apart l m u d
            (upd_all (λ l q. HasStamp q u → HasStamp (posts l) u) posts r idle (λ k. absurd k) (λ l _ k. k) l h)
            (upd_all (λ l q. HasStamp q u → HasStamp (posts l) u) posts r idle (λ k. absurd k) (λ l _ k. k) m k);
      }

  -- an operation ends that posts nothing
  pub once_ended : (d : Ended P) → frame_posted d.operation ≡ [] → TakenOnce (d ∷ ds) posts top
  once_ended d e =
      let same : frames_posted (d ∷ ds) ≡ frames_posted ds = ap (λ (fs : List (Frame P)). fs ++ frames_posted ds) e in
      record {
        posted_below = rw same v.posted_below;
        posted_apart = rw same v.posted_apart;
        own_below = v.own_below;
        own_apart = λ r s h. rw same (v.own_apart r s h);
        lanes_apart = v.lanes_apart;
      }

pub once_blank : {P : Type 0} → TakenOnce {P = P} [] (λ _. idle) 0
once_blank = record { posted_below = tt; posted_apart = tt; own_below = λ r s h. absurd h; own_apart = λ r s h. absurd h; lanes_apart = λ l r s n h k. h }
