-- The bits of a finite number are not those of a NaN.
use Rattle.std.proofs.Common.{◌≡◌, ℕ, ◌/◌, ◌%◌, false, not, T, eqb, arith}
use lib.Ieee.{binary32, nan_bits}
use Rattle.std.proofs.lemmas.Bool.{ne_eqb}

pub no_nan : (bits : ℕ) → (bits / 8388608 % 256 ≡ 255 → ⊥) → T (not (nan_bits binary32 bits))
unfolding nan_bits
no_nan bits finite =
    let e : eqb (bits % 2147483648 / 8388608) 255 ≡ false = ne_eqb _ _ (λ q. finite (omega arith)) in
    rw e tt
