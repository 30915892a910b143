-- The small stories, computed.
use Rattle.std.proofs.Common.{refl, arith}
use Rattle.history.specs.Stories.{SmallListsTellTheirStory}

pub small_lists_tell_their_story : SmallListsTellTheirStory
small_lists_tell_their_story = (
  record { accepted = refl; before = grind arith; behind = grind arith; events = refl },
  (
    record { accepted = refl; before = grind arith; behind = grind arith; events = refl },
    (
      record { accepted = refl; before = grind arith; behind = grind arith; events = refl },
      (
        record { accepted = refl; before = grind arith; behind = grind arith; events = refl },
        (
          record { accepted = refl; before = grind arith; behind = grind arith; events = refl },
          (record { accepted = refl; before = grind arith; behind = grind arith; events = refl }, tt),
        ),
      ),
    ),
  ),
)
