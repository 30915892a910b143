-- What is promised of every history whose events met their guards, for payloads of any type and any capacity.
--   under way   begun and not ended        waits   posted by a post that ended, and not freed by a collect
use Rattle.std.specs.Prelude.{◌≡◌, ℕ, List, []}
use Rattle.std.proofs.Math.Option.{none}
use Rattle.order.specs.Events.{Event}
use Rattle.order.specs.Logs.{Log, log_of}
use Rattle.order.specs.Orders.{SingleFileOrder}
use Rattle.order.specs.Books.{Book, book_of}
use Rattle.order.specs.Guards.{Admitted}
use Rattle.order.specs.Accounts.{Balanced}

abbrev pub NothingUnderWay : {P : Type 0} → Log P → Type 0
NothingUnderWay g = ((r : ℕ) → g.posts r ≡ none) × (g.collecting ≡ none)

abbrev pub NothingWaits : {P : Type 0} → Book P → Type 0
NothingWaits k = (r : ℕ) → k.waiting r ≡ []

-- it has a single-file order
abbrev pub GuardedHistoriesHaveASingleFileOrder : (P : Type 0) → Type 0
GuardedHistoriesHaveASingleFileOrder P = (cap : ℕ) (es : List (Event P)) → Admitted cap es → SingleFileOrder cap (log_of es)

-- once nothing waits and nothing is under way, every frame posted was delivered, once, and nothing else was
abbrev pub GuardedHistoriesBalance : (P : Type 0) → Type 0
GuardedHistoriesBalance P =
    (cap : ℕ) (es : List (Event P)) → Admitted cap es → NothingWaits (book_of es) → NothingUnderWay (log_of es) → Balanced (log_of es)
