-- The payloads of a line, and how lanes and collector stand to the book of the history.
--
-- goods     the payload that went with each stamp, and what lies in the hands and in the cells
-- fits      a frame that waits in the book is the one of this stamp; times of the model are one later than those of the book
-- tie       what the book says of a lane's post, of its waiting frames, and of the collect, is what the model says
use Rattle.std.proofs.Common.{◌≡◌, ℕ, suc, ◌%◌, ◌<◌, ◌≤◌, ◌≢◌, ◌⊎◌, List, [], ◌∷◌}
use mathlib.Core.Option.{Option, some}
use Rattle.line.specs.declared.lane.Stage.{Stage}
use Rattle.line.specs.declared.lane.Stage.TheVariants.{AtRest, TestSpace, TakeStamp, FillCell, MarkCell, Publish, Look, LoadHead, LoadFront, SwapSlot}
use Rattle.order.specs.SingleFile.{Frame}
use Rattle.order.specs.Books.{Book, Collect, Post, Waiting}
use Rattle.order.specs.Books.Post.{begun, gone, idle, stamped}
use Rattle.order.specs.Books.Collect.{at_rest, holding, looking as Looks-on}
use Rattle.history.proofs.Lanes.{LaneModel, waits}
use Rattle.history.proofs.Model.{LineModel, Progress}
use Rattle.history.proofs.Model.Progress.{rest, scan, scan_kept, again, fetch, frees, looking, tailing, fronting, swapping}

pub record Goods (P : Type 0) : Type 0 where
  pub load : ℕ → Option P
  pub hand : ℕ → Option P
  pub fetched : Option P
  pub tray : ℕ → ℕ → Option P

pub record Fits {P : Type 0} (r : ℕ) (load : ℕ → Option P) (took ended : ℕ → ℕ) (w : Waiting P) (x : ℕ) : Type 0 where
  pub lane : w.frame.lane ≡ r
  pub stamp : w.frame.stamp ≡ x
  pub payload : load x ≡ some w.frame.payload
  pub take : took x ≡ suc w.take
  pub end : ended x ≡ suc w.end

module _ {P : Type 0} where
  abbrev pub Match : ℕ → (ℕ → Option P) → (ℕ → ℕ) → (ℕ → ℕ) → List (Waiting P) → List ℕ → Type 0
  Match r load took ended [] [] = Unit {0}
  Match r load took ended [] (x ∷ xs) = ⊥
  Match r load took ended (w ∷ ws) [] = ⊥
  Match r load took ended (w ∷ ws) (x ∷ xs) = Fits r load took ended w x × Match r load took ended ws xs

  -- the trays from place i on hold the payloads of these stamps
  abbrev pub Carries : ℕ → (ℕ → Option P) → (ℕ → Option P) → ℕ → List ℕ → Type 0
  Carries K tray load i [] = Unit {0}
  Carries K tray load i (x ∷ xs) = (tray (i % K) ≡ load x) × Carries K tray load (suc i) xs

  -- the post of the book has the stamp s, and its payload is that of s; or its frame has been freed
  abbrev pub Stamped : (ℕ → ℕ) → (ℕ → Option P) → ℕ → Post P → Type 0
  Stamped took load s p = (b : ℕ) × (x : P) × (t : ℕ) × (p ≡ stamped b x s t) × (load s ≡ some x) × (took s ≡ suc t)

  abbrev pub Gone : ℕ → Post P → Type 0
  Gone s p = (b : ℕ) × (x : P) × (p ≡ gone b x s)

  abbrev pub Past : (ℕ → ℕ) → (ℕ → Option P) → List ℕ → ℕ → Post P → Type 0
  Past took load R s p = (Stamped took load s p × (R ≢ [])) ⊎ (Gone s p × (R ≡ []))

  abbrev pub Begun : Option P → Post P → Type 0
  Begun hand p = (b : ℕ) × (x : P) × (p ≡ begun b x) × (hand ≡ some x)

  abbrev pub PostTie : (ℕ → ℕ) → (ℕ → Option P) → Option P → (ℕ → Option P) → List ℕ → ℕ → Stage → Post P → Type 0
  PostTie took load hand tray R t AtRest p = p ≡ idle
  PostTie took load hand tray R t TestSpace p = Begun hand p
  PostTie took load hand tray R t TakeStamp p = Begun hand p
  PostTie took load hand tray R t (FillCell s) p = Stamped took load s p × (hand ≡ load s)
  PostTie took load hand tray R t (MarkCell s) p = Stamped took load s p × (tray t ≡ load s)
  PostTie took load hand tray R t (Publish s) p = Stamped took load s p × (tray t ≡ load s)
  PostTie took load hand tray R t (Look k s) p = Past took load R s p
  PostTie took load hand tray R t (LoadHead k s v) p = Past took load R s p
  PostTie took load hand tray R t (LoadFront k s v h) p = Past took load R s p
  PostTie took load hand tray R t (SwapSlot k s v) p = Past took load R s p

  -- the collect of the book: looking, since the model says; or holding a frame of the lane and stamp freed
  abbrev pub Looking : ℕ → Collect P → Type 0
  Looking began c = (b : ℕ) × (c ≡ Looks-on b) × (began ≡ suc b)

  abbrev pub Holding : ℕ → ℕ → Collect P → Type 0
  Holding r m c = (b : ℕ) × (f : Frame P) × (c ≡ holding b f) × (r ≡ f.lane) × (m ≡ f.stamp)

  abbrev pub CollectTie : ℕ → Option P → (ℕ → Option P) → Progress → Collect P → Type 0
  CollectTie began fetched load rest c = c ≡ at_rest
  CollectTie began fetched load (scan i) c = Looking began c
  CollectTie began fetched load (scan_kept i b m) c = Looking began c
  CollectTie began fetched load (again j b r m) c = Looking began c
  CollectTie began fetched load (fetch r m) c = Looking began c
  CollectTie began fetched load (frees r m) c = Looking began c × (fetched ≡ load m)
  CollectTie began fetched load (looking r j m) c = Holding r m c
  CollectTie began fetched load (tailing r j m v) c = Holding r m c
  CollectTie began fetched load (fronting r j m v) c = Holding r m c
  CollectTie began fetched load (swapping r j m v w) c = Holding r m c

pub record LaneTie {P : Type 0} (r K : ℕ) (took : ℕ → ℕ) (load : ℕ → Option P) (hand : Option P) (tray : ℕ → Option P) (l : LaneModel) (p : Post P) (waiting : List (Waiting P)) : Type 0 where
  pub waits : Match r load took l.ended waiting (waits l.ring l.stage)
  pub carries : Carries K tray load l.freed l.ring
  pub post : PostTie took load hand tray l.ring l.tails l.stage p

pub record Tied {P : Type 0} (s : LineModel) (G : Goods P) (k : Book P) : Type 0 where
  pub now : s.now ≡ suc k.now
  pub top : k.top ≤ s.counter
  pub lanes : (q : ℕ) → q < s.n → LaneTie q s.K s.took G.load (G.hand q) (G.tray q) (s.lanes q) (k.posts q) (k.waiting q)
  pub others : (q : ℕ) → s.n ≤ q → (k.posts q ≡ idle) × (k.waiting q ≡ [])
  pub collect : CollectTie s.began G.fetched G.load s.col k.collect
