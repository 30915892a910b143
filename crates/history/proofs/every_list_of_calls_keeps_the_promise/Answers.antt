use Rattle.history.proofs.Promised.{every_list_of_calls_keeps_the_promise}
use Rattle.history.proofs.every_list_of_calls_keeps_the_promise.Goals as goal

pub returns : goal.returns
returns g c = every_list_of_calls_keeps_the_promise _
