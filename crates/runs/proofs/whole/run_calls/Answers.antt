use Rattle.std.specs.Option.{option_map}
use Rattle.history.proofs.Promised.{every_list_of_calls_keeps_the_promise}
use Rattle.runs.proofs.Ones.{these_calls_keep_the_promise}
use Rattle.runs.proofs.Reaching.{reach_the_same}
use Rattle.runs.proofs.whole.run_calls.Goals as goal

pub returns : goal.returns
returns g c =
    record {
      run = c.run_list.ensures;
      promise = every_list_of_calls_keeps_the_promise g.row.P.Denot;
      kept = these_calls_keep_the_promise (g.B.Board.words c.args.board.now) c.args.trays.now c.args.laying c.args.before.now (option_map (λ calls. calls.now) c.args.after);
      same = λ s later. reach_the_same s c.args.before.now later;
    }
