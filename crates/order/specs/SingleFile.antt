-- The single file: one list of frames, to which posts append and from whose front collects take.
--   frame     what is carried: the lane it came by, the stamp its post took, its payload
--   act       an operation as the single file sees it: when it began (which names it), and what it did
--   posted f  the frame f went in at the end        full r   lane r had no room, nothing went in
--   delivered f  the frame f came out at the front  empty    there was no frame to take
--   cap       how many frames of one lane the file holds at most
use Rattle.std.specs.Prelude.{◌≡◌, ℕ, ◌+◌, Bool, true, false, ◌≢◌, List, [], ◌∷◌, ◌++◌, ◌==◌}

pub record Frame (P : Type 0) : Type 0 where
  pub lane : ℕ
  pub stamp : ℕ
  pub payload : P

abbrev pub frame_of : {P : Type 0} → ℕ → ℕ → P → Frame P
frame_of r s x = record { lane = r; stamp = s; payload = x }

pub data Did (P : Type 0) : Type 0 where
  posted : Frame P → Did P
  full : ℕ → Did P
  delivered : Frame P → Did P
  empty : Did P

pub record Act (P : Type 0) : Type 0 where
  pub began : ℕ
  pub did : Did P

abbrev pub act_of : {P : Type 0} → ℕ → Did P → Act P
act_of b k = record { began = b; did = k }

abbrev pub one : Bool → ℕ
one true = 1
one false = 0

-- how many of the frames are of lane r
abbrev pub count : {P : Type 0} → ℕ → List (Frame P) → ℕ
count r [] = 0
count r (f ∷ fs) = one (f.lane == r) + count r fs

-- Did on the file q, leaving the file q'. A post finds its lane full exactly if cap frames of its lane are there, and
-- then leaves the file as it is; otherwise its frame goes to the end. A collect takes the first frame, or finds none.
abbrev pub Does : {P : Type 0} → ℕ → List (Frame P) → Did P → List (Frame P) → Type 0
Does cap q (posted f) q' = (count f.lane q ≢ cap) × (q' ≡ q ++ f ∷ [])
Does cap q (full r) q' = (count r q ≡ cap) × (q' ≡ q)
Does cap q (delivered f) q' = q ≡ f ∷ q'
Does cap q empty q' = (q ≡ []) × (q' ≡ [])

-- these acts, one after another, lead from the file q to the file q'
abbrev pub Replays : {P : Type 0} → ℕ → List (Frame P) → List (Act P) → List (Frame P) → Type 0
Replays cap q [] q' = q ≡ q'
Replays {P} cap q (a ∷ later) q' = (m : List (Frame P)) × Does cap q a.did m × Replays cap m later q'
