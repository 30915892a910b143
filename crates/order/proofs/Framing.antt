-- What a step leaves alone stays; and the back is normalised: what stands before its first waiting post goes over to the front.
use Rattle.std.proofs.Common.{◌≡◌, ℕ, suc, ◌+◌, ◌<◌, ◌≤◌, List, [], ◌∷◌, ◌++◌, length, sym, refl, ◌∙◌, append_assoc, arith}
use Rattle.std.specs.List.{AllByRecursion}
use Rattle.order.specs.SingleFile.{Act, Does, Frame, Replays}
use Rattle.order.specs.Logs.{Ended}
use Rattle.order.specs.Books.{Book, Collect, Post, Waiting}
use Rattle.order.specs.Books.Post.{begun, gone, idle, stamped}
use Rattle.order.specs.Books.Collect.{at_rest, holding, looking}
use Rattle.order.proofs.Backs.{Item, act_at, acts, deliveries, fetched_after, standing_of}
use Rattle.order.proofs.Backs.Item.{fetch, refused, standing}
use Rattle.order.proofs.Levels.{Levels}
use Rattle.order.proofs.Invariant.{CollectOk, Core, EndedOther, FetchedBefore, LaneOk, Open, Placed, RefusedBefore, Room, Split, Unplaced, View, view}

-- a step from v to v' leaves the operations of this party alone
pub record Keeps {P : Type 0} (v v' : View P) (who : ℕ) : Type 0 where
  pub later : v.now ≤ v'.now
  pub owned : (b : ℕ) → b < v.now → v'.owner b ≡ v.owner b
  pub unended : (b : ℕ) → v.owner b ≡ who → AllByRecursion (EndedOther b) v.ended → AllByRecursion (EndedOther b) v'.ended
  pub unplaced : (b : ℕ) → v.owner b ≡ who → Unplaced v.order b → Unplaced v'.order b

module _ {P : Type 0} (v v' : View P) where
  pub open_stays : (who b : ℕ) → Keeps v v' who → Open v who b → Open v' who b
  open_stays who b k (n, o, d) = (omega (arith, k.later), k.owned b n ∙ o, k.unended b o d)

  -- a lane's part, if its full posts lie as they lay, and what is freed or waits on it becomes no more
  pub lane_stays :
      (cap r n n' : ℕ) (p : Post P) → Keeps v v' (suc r)
      → ((b : ℕ) → AllByRecursion (RefusedBefore r b) v.back → AllByRecursion (RefusedBefore r b) v'.back)
      → ((t : ℕ) → t < v.now → fetched_after r t v'.back + n' ≤ fetched_after r t v.back + n)
      → LaneOk cap v r n p → LaneOk cap v' r n' p
  lane_stays cap r n n' idle k s f h = tt
  lane_stays cap r n n' (begun b x) k s f (o, u, z) = (open_stays (suc r) b k o, k.unplaced b o.1 u, s b z)
  lane_stays cap r n n' (stamped b x e t) k s f (o, u, z, c, l, m) =
      (open_stays (suc r) b k o, k.unplaced b o.1 u, s b z, c, omega (arith, k.later), omega (arith, f t l))
  lane_stays cap r n n' (gone b x e) k s f o = open_stays (suc r) b k o

  pub collect_stays :
      (c : Collect P) → Keeps v v' 0 → ((b : ℕ) → AllByRecursion (FetchedBefore b) v.back → AllByRecursion (FetchedBefore b) v'.back) → CollectOk v c → CollectOk v' c
  collect_stays at_rest k s h = tt
  collect_stays (looking b) k s (o, u, z) = (open_stays 0 b k o, k.unplaced b o.1 u, s b z)
  collect_stays (holding b f) k s o = open_stays 0 b k o

module _ {P : Type 0} where
  pub room_stays : (cap r : ℕ) (a b : List (Item P)) (i j : ℕ) (ws : List (Waiting P)) → ((t : ℕ) → fetched_after r t b + j ≤ fetched_after r t a + i) → Room cap r a i ws → Room cap r b j ws
  room_stays cap r a b i j [] f h = tt
  room_stays cap r a b i j (w ∷ ws) f (p, h) = (omega (arith, f w.take), room_stays cap r a b (suc i) (suc j) ws (λ t. omega (arith, f t)) h)

  pub room_post : (cap r : ℕ) (a : List (Item P)) (i : ℕ) (ws : List (Waiting P)) (w : Waiting P) → fetched_after r w.take a + (i + length ws) < cap → Room cap r a i ws → Room cap r a i (ws ++ w ∷ [])
  room_post cap r a i [] w n h = (omega arith, tt)
  room_post cap r a i (v ∷ ws) w n (p, h) = (p, room_post cap r a (suc i) ws w (omega arith) h)

  pub replays_join : (cap : ℕ) (xs ys : List (Act P)) (q m r : List (Frame P)) → Replays cap q xs m → Replays cap m ys r → Replays cap q (xs ++ ys) r
  replays_join cap [] ys q m r h k = rw h k
  replays_join cap (x ∷ xs) ys q m r h k = (h.0, h.1, replays_join cap xs ys h.0 m r h.2 k)

  pub replays_push : (cap : ℕ) (xs : List (Act P)) (x : Act P) (q m r : List (Frame P)) → Replays cap q xs m → Does cap m x.did r → Replays cap q (xs ++ x ∷ []) r
  replays_push cap xs x q m r h s = replays_join cap xs (x ∷ []) q m r h (r, s, refl)

  -- the invariant without the first item of the back, which is no waiting post
  module _ (cap : ℕ) (ds : List (Ended P)) (book : Book P) (owner : ℕ → ℕ) (order : List (Act P)) (i : Item P) (is : List (Item P)) where
    drop_first :
        ((l : ℕ) → Levels cap l 0 is) → ((l : ℕ) → standing_of l is ≡ standing_of l (i ∷ is)) → ((l t : ℕ) → fetched_after l t is ≤ fetched_after l t (i ∷ is))
        → Core cap ds book owner order (i ∷ is) → Core cap ds book owner order is
    drop_first w ws f c =
        let v = view ds book owner order (i ∷ is) in
        let v' = view ds book owner order is in
        let n : ℕ → ℕ = λ l. length (book.waiting l) in
        let k : (who : ℕ) → Keeps v v' who = λ who. record { later = omega arith; owned = λ b h. refl; unended = λ b o h. h; unplaced = λ b o h. h } in
        record {
          levels = w;
          waiting = λ l. ws l ∙ c.waiting l;
          sorted = c.sorted.1;
          timed = c.timed.1;
          ends_late = c.ends_late.1;
          room = λ l. room_stays cap l (i ∷ is) is 0 0 (book.waiting l) (λ t. omega (arith, f l t)) (c.room l);
          lanes = λ l. lane_stays v v' cap l (n l) (n l) (book.posts l) (k (suc l)) (λ b h. h.1) (λ t h. omega (arith, f l t)) (c.lanes l);
          collector = collect_stays v v' book.collect (k 0) (λ b h. h.1) c.collector;
          precede = c.precede;
          past = c.past;
          past_ended = c.past_ended;
          ended_apart = c.ended_apart;
          settled = c.settled;
          whole = c.whole;
        }

  -- the front with the first item of the back
  over : (cap : ℕ) (order front : List (Act P)) (i : Item P) (is : List (Item P)) → Split cap order front (i ∷ is) → Does cap (deliveries (i ∷ is)) (act_at i).did (deliveries is) → Split cap order (front ++ act_at i ∷ []) is
  over cap order front i is s k =
      record {
        parts = s.parts ∙ sym (append_assoc front (act_at i ∷ []) (acts is));
        replays = replays_push cap front (act_at i) [] (deliveries (i ∷ is)) (deliveries is) s.replays k;
      }

  pub normalise :
      (cap : ℕ) (ds : List (Ended P)) (book : Book P) (owner : ℕ → ℕ) (order : List (Act P)) (back : List (Item P)) (front : List (Act P))
      → Split cap order front back → Core cap ds book owner order back → Placed cap ds book
  normalise cap ds book owner order [] front s c = record { owner = owner; order = order; front = front; back = []; first_stands = tt; split = s; core = c }
  normalise cap ds book owner order (standing w ∷ is) front s c =
      record { owner = owner; order = order; front = front; back = standing w ∷ is; first_stands = tt; split = s; core = c }
  normalise cap ds book owner order (refused b r u ∷ is) front s c =
      let i : Item P = refused b r u in
      normalise cap ds book owner order is (front ++ act_at i ∷ [])
      (over cap order front i is s (omega (arith, (c.levels r).0 refl), refl))
      (drop_first cap ds book owner order i is (λ l. (c.levels l).1) (λ l. refl) (λ l t. omega arith) c)
  normalise cap ds book owner order (fetch b f u ∷ is) front s c =
      let i : Item P = fetch b f u in
      normalise cap ds book owner order is (front ++ act_at i ∷ [])
      (over cap order front i is s refl)
      (drop_first cap ds book owner order i is c.levels (λ l. refl) (λ l t. omega arith) c)
