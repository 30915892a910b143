use Rattle.plain_crew.proofs.Undone.{numbers_mean_their_crew}
use Rattle.plain_crew.proofs.crew.numbers_mean_their_crew.Goals as goal

pub returns : goal.returns
returns c = numbers_mean_their_crew
