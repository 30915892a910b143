-- The names that the modes of the program go by, and what its arguments ask for.
use Rattle.std.specs.Prelude.{◌≡◌, ℕ, cond, ◌||◌, List, [], ◌∷◌, Some, None, codes, Option, Result, IfErr}
use Rattle.std.specs.Result.{result_ok}
use Rattle.std.specs.Str.{bytes_eq}
use Rattle.linewalk.specs.declared.mode.BadArgument.{BadArgument}
use Rattle.linewalk.specs.declared.mode.BadArgument.TheVariants.{Unknown, OneTooMany}
use Rattle.linewalk.specs.declared.mode.Mode.{Mode}
use Rattle.linewalk.specs.declared.mode.Mode.TheVariants.{Walk, Explain, Batch, Help}

abbrev pub mode_named : List ℕ → Option Mode
mode_named name =
    cond (bytes_eq name (codes "--explain")) (Some Explain)
    (cond (bytes_eq name (codes "--batch")) (Some Batch)
    (cond (bytes_eq name (codes "--help") || bytes_eq name (codes "-h")) (Some Help) None))

-- this is the mode with this name, or the error that no mode has it
abbrev pub GoesBy : List ℕ → Result Mode BadArgument → Type 0
GoesBy name r = (result_ok r ≡ mode_named name) × IfErr r (λ bad. elim bad [ Unknown n ↦ n.now ≡ name | OneTooMany _ ↦ ⊥ ])

-- there may be one argument; None where one of them is not taken
abbrev pub mode_asked : List (List ℕ) → Option Mode
mode_asked [] = Some Walk
mode_asked (name ∷ []) = mode_named name
mode_asked (name ∷ extra ∷ more) = None
