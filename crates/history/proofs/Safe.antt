-- What holds of a line after every list of calls: its state mirrors a model that keeps the lanes' invariant, that the book is tied
-- to, and whose ledger is kept.
use Rattle.std.proofs.Common.{◌≡◌, ℕ, Bool, List, [], ◌∷◌, refl, ◌∙◌}
use Rattle.std.specs.List.{AllByRecursion}
use Rattle.std.proofs.lemmas.Bool.{cond_both}
use Rattle.line.specs.Calls.{tested}
use Rattle.line.proofs.Tested.{Pass}
use Rattle.order.specs.Events.{Event}
use Rattle.order.specs.Events.Event.{quiet}
use Rattle.order.specs.Logs.{Log, log_step}
use Rattle.order.specs.Books.{Book, book_step}
use Rattle.order.specs.Guards.{Admits}
use Rattle.history.specs.Limits.{capacity}
use Rattle.history.specs.Performing.{State}
use Rattle.history.proofs.Model.{LineModel, ModelOk, moved}
use Rattle.history.proofs.Goods.{Goods, Tied}
use Rattle.history.proofs.Mirror.{Mirror, same_memory}
use Rattle.history.proofs.Ledger.{Ledger, ledger_quiet}
use Rattle.history.proofs.LaneTies.{Step, quiet_step}
use Rattle.history.proofs.ModelSteps.{model_tick}

pub record Safe {P : Type 0} (n K : ℕ) (S : State P) (g : Log P) (k : Book P) : Type 0 where
  pub model : LineModel
  pub goods : Goods P
  pub n_is : model.n ≡ n
  pub KIs : model.K ≡ K
  pub mirror : Mirror S model goods
  pub ok : ModelOk model
  pub tied : Tied model goods k
  pub ledger : Ledger model S.crew.posted S.crew.delivered g k

-- the call left this event and this state: the event met its guard, and the line is as it should be
pub record Leaves {P : Type 0} (n K : ℕ) (g : Log P) (k : Book P) (e : Event P) (S : State P) : Type 0 where
  pub admits : Admits (capacity K) k e
  pub safe : Safe n K S (log_step g e) (book_step k e)

-- a call by its tests: each refusal, and what comes of it if all pass
pub tested_by : {O : Type 0} (refuse : ℕ → O) (tests : List (Bool × ℕ)) (go : O) (Q : O → Type 0) → AllByRecursion (λ (t : Bool × ℕ). Q (refuse t.1)) tests → (Pass tests → Q go) → Q (tested refuse tests go)
tested_by refuse [] go Q a p = p tt
tested_by refuse (t ∷ ts) go Q (a, b) p = cond_both t.0 (tested refuse ts go) (refuse t.1) Q (λ e. tested_by refuse ts go Q b (λ h. p (e, h))) (λ _. a)

module _ {P : Type 0} (n K : ℕ) (g : Log P) (k : Book P) where
  pub leaves : (S : State P) (e : Event P) (s : LineModel) (G : Goods P) → s.n ≡ n → s.K ≡ K → Mirror S s G → ModelOk s → Step s G k e → Ledger s S.crew.posted S.crew.delivered (log_step g e) (book_step k e) → Leaves n K g k e S
  leaves S e s G n_is KIs m o t v =
      record {
        admits = rw KIs at t.admits;
        safe = record { model = s; goods = G; n_is = n_is; KIs = KIs; mirror = m; ok = o; tied = t.tied; ledger = v };
      }

  -- a call that changes nothing, or only the mark that the crew drains
  pub leaves_quiet : (S S' : State P) → Safe n K S g k → ((s : LineModel) (G : Goods P) → Mirror S s G → Mirror S' (moved s s.lanes s.col) G) → S'.crew.posted ≡ S.crew.posted → S'.crew.delivered ≡ S.crew.delivered → Leaves n K g k quiet S'
  leaves_quiet S S' v m p d =
      let s = v.model in
      leaves S' quiet (moved s s.lanes s.col) v.goods v.n_is v.KIs (m s v.goods v.mirror) (model_tick s v.ok) (quiet_step s v.ok v.goods k v.tied)
      (rw (p, d) (ledger_quiet s S.crew.posted S.crew.delivered g k v.ledger (moved s s.lanes s.col) refl refl refl refl))

  pub same_mirror : (S : State P) (s : LineModel) (G : Goods P) → Mirror S s G → Mirror S (moved s s.lanes s.col) G
  same_mirror S s G m =
      record {
        lanes = m.lanes;
        cells = m.cells;
        few = m.few;
        some_lane = m.some_lane;
        some_cell = m.some_cell;
        board = m.board;
        room = m.room;
        words = λ a i. m.words a i ∙ same_memory s (moved s s.lanes s.col) refl refl a;
        goods = m.goods;
        rows_long = m.rows_long;
        heads_long = m.heads_long;
        rows = m.rows;
        heads = m.heads;
        col = m.col;
      }

  pub leaves_alone : (S : State P) → Safe n K S g k → Leaves n K g k quiet S
  leaves_alone S v = leaves_quiet S S v (same_mirror S) refl refl
