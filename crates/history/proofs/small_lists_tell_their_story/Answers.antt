use Rattle.history.proofs.Telling.{small_lists_tell_their_story}
use Rattle.history.proofs.small_lists_tell_their_story.Goals as goal

pub returns : goal.returns
returns c = small_lists_tell_their_story
