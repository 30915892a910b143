-- The back of an order: its later part, in which some posts still wait for a collect. The front, before it, is settled.
--   standing w       a post that waits           refused b r u   a full post of lane r, begun at b, ended at u
--   fetch b f u      a collect begun at b that freed the frame f at u
--   since            the time that gives an item its place: the end of a post, the free of a collect
--   deliveries       the frames that the collects of the back take out; the front has put them in
use Rattle.std.proofs.Common.{◌≡◌, ℕ, ◌+◌, Bool, true, false, cond, ◌&&◌, eqb, ltb, ◌≢◌, List, [], ◌∷◌, ◌++◌, refl, ap, arith}
use Rattle.std.specs.List.{AllByRecursion}
use Rattle.std.proofs.lemmas.Bool.{eqb-true}
use Rattle.order.specs.SingleFile.{Act, Frame, act_of, one}
use Rattle.order.specs.SingleFile.Did.{delivered, full, posted}
use Rattle.order.specs.Books.{Waiting}

pub data Item (P : Type 0) : Type 0 where
  standing : Waiting P → Item P
  refused : ℕ → ℕ → ℕ → Item P
  fetch : ℕ → Frame P → ℕ → Item P

abbrev pub act_at : {P : Type 0} → Item P → Act P
act_at (standing w) = act_of w.began (posted w.frame)
act_at (refused b r u) = act_of b (full r)
act_at (fetch b f u) = act_of b (delivered f)

abbrev pub since : {P : Type 0} → Item P → ℕ
since (standing w) = w.end
since (refused b r u) = u
since (fetch b f u) = u

abbrev pub acts : {P : Type 0} → List (Item P) → List (Act P)
acts [] = []
acts (i ∷ is) = act_at i ∷ acts is

abbrev pub deliveries : {P : Type 0} → List (Item P) → List (Frame P)
deliveries [] = []
deliveries (standing w ∷ is) = deliveries is
deliveries (refused b r u ∷ is) = deliveries is
deliveries (fetch b f u ∷ is) = f ∷ deliveries is

-- the frames of its posts: what the whole order leaves
abbrev pub leftovers : {P : Type 0} → List (Item P) → List (Frame P)
leftovers [] = []
leftovers (standing w ∷ is) = w.frame ∷ leftovers is
leftovers (refused b r u ∷ is) = leftovers is
leftovers (fetch b f u ∷ is) = leftovers is

-- its waiting posts of lane l
abbrev pub standing_of : {P : Type 0} → ℕ → List (Item P) → List (Waiting P)
standing_of l [] = []
standing_of l (standing w ∷ is) = cond (eqb w.frame.lane l) (w ∷ standing_of l is) (standing_of l is)
standing_of l (refused b r u ∷ is) = standing_of l is
standing_of l (fetch b f u ∷ is) = standing_of l is

-- how many of its collects freed a frame of lane l later than t
abbrev pub fetched_after : {P : Type 0} → ℕ → ℕ → List (Item P) → ℕ
fetched_after l t [] = 0
fetched_after l t (standing w ∷ is) = fetched_after l t is
fetched_after l t (refused b r u ∷ is) = fetched_after l t is
fetched_after l t (fetch b f u ∷ is) = one (eqb f.lane l && ltb t u) + fetched_after l t is

-- an item that is no post of lane r, waiting or full
abbrev pub ClearOf : {P : Type 0} → ℕ → Item P → Type 0
ClearOf r (standing w) = w.frame.lane ≢ r
ClearOf r (refused b l u) = l ≢ r
ClearOf r (fetch b f u) = Unit {0}

module _ {P : Type 0} where
  pub acts_append : (a b : List (Item P)) → acts (a ++ b) ≡ acts a ++ acts b
  acts_append [] b = refl
  acts_append (i ∷ a) b = ap (λ (xs : List (Act P)). act_at i ∷ xs) (acts_append a b)

  pub deliveries_append : (a b : List (Item P)) → deliveries (a ++ b) ≡ deliveries a ++ deliveries b
  deliveries_append [] b = refl
  deliveries_append (standing w ∷ a) b = deliveries_append a b
  deliveries_append (refused c r u ∷ a) b = deliveries_append a b
  deliveries_append (fetch c f u ∷ a) b = ap (λ (xs : List (Frame P)). f ∷ xs) (deliveries_append a b)

  pub standing_append : (l : ℕ) (a b : List (Item P)) → standing_of l (a ++ b) ≡ standing_of l a ++ standing_of l b
  standing_append l [] b = refl
  standing_append l (standing w ∷ a) b = let ih = standing_append l a b in grind arith
  standing_append l (refused c r u ∷ a) b = standing_append l a b
  standing_append l (fetch c f u ∷ a) b = standing_append l a b

  pub fetched_append : (l t : ℕ) (a b : List (Item P)) → fetched_after l t (a ++ b) ≡ fetched_after l t a + fetched_after l t b
  fetched_append l t [] b = omega arith
  fetched_append l t (standing w ∷ a) b = fetched_append l t a b
  fetched_append l t (refused c r u ∷ a) b = fetched_append l t a b
  fetched_append l t (fetch c f u ∷ a) b = omega (arith, fetched_append l t a b)

  -- a property of the acts of the back is one of its items
  pub all_acts : (Q : Act P → Type 0) (is : List (Item P)) → AllByRecursion (λ (j : Item P). Q (act_at j)) is → AllByRecursion Q (acts is)
  all_acts Q [] h = tt
  all_acts Q (j ∷ is) (a, h) = (a, all_acts Q is h)

  pub all_items : (Q : Act P → Type 0) (is : List (Item P)) → AllByRecursion Q (acts is) → AllByRecursion (λ (j : Item P). Q (act_at j)) is
  all_items Q [] h = tt
  all_items Q (j ∷ is) (a, h) = (a, all_items Q is h)

  -- the oldest waiting post of lane r: what stands before it and behind it in the back
  pub record Found (r : ℕ) (w : Waiting P) (ws : List (Waiting P)) (is : List (Item P)) : Type 0 where
    pub before : List (Item P)
    pub behind : List (Item P)
    pub parts : is ≡ before ++ standing w ∷ behind
    pub none_before : standing_of r before ≡ []
    pub others_behind : standing_of r behind ≡ ws
    pub its_lane : w.frame.lane ≡ r

  -- found one place further on
  further : (r : ℕ) (w : Waiting P) (ws : List (Waiting P)) (i : Item P) (is : List (Item P)) → (n : Found r w ws is) → standing_of r (i ∷ n.before) ≡ [] → Found r w ws (i ∷ is)
  further r w ws i is n e =
      record { before = i ∷ n.before; behind = n.behind; parts = ap (λ (js : List (Item P)). i ∷ js) n.parts; none_before = e; others_behind = n.others_behind; its_lane = n.its_lane }

  pub find : (r : ℕ) (w : Waiting P) (ws : List (Waiting P)) (is : List (Item P)) → standing_of r is ≡ w ∷ ws → Found r w ws is
  find r w ws [] e = absurd (let z : ◌≡◌ {A = ℕ} 0 1 = cc in omega arith)
  find r w ws (standing v ∷ is) e = by_lane (eqb v.frame.lane r) refl (λ e'. find r w ws is e')
    where
      by_lane : (t : Bool) → eqb v.frame.lane r ≡ t → (standing_of r is ≡ w ∷ ws → Found r w ws is) → Found r w ws (standing v ∷ is)
      by_lane true q ih =
          let e' : v ∷ standing_of r is ≡ w ∷ ws = rw q at e in
          let same : v ≡ w = cc in
          record { before = []; behind = is; parts = cc; none_before = refl; others_behind = cc; its_lane = rw same at (eqb-true v.frame.lane r q) }
      by_lane false q ih =
          let e' : standing_of r is ≡ w ∷ ws = rw q at e in
          let n = ih e' in
          further r w ws (standing v) is n (rw q n.none_before)
  find r w ws (refused b l u ∷ is) e = let n = find r w ws is e in further r w ws (refused b l u) is n n.none_before
  find r w ws (fetch b f u ∷ is) e = let n = find r w ws is e in further r w ws (fetch b f u) is n n.none_before
