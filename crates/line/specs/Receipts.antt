-- What a receipt says. No receipt is ever settled: it is made as its collect begins, and settling spends it.
use Rattle.std.specs.Prelude.{◌≡◌, true}
use Rattle.line.specs.declared.receipt.Receipt.{Receipt}

-- the receipt says that its collect is settled
abbrev pub IsSettled : Receipt → Type 0
IsSettled receipt = receipt.settled ≡ true
