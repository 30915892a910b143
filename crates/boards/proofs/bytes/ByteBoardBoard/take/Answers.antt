use Rattle.std.proofs.Common.{arith}
use Rattle.std.proofs.lemmas.Grind.{common_steps}
use Rattle.std.proofs.lemmas.Option.{unwrap_or-slice_get}
use Rattle.boards.specs.Words.{stamp_limit}
use Rattle.boards.specs.Bytes.{words_of}
use Rattle.boards.proofs.bytes.ByteBoardBoard.take.Goals as goal

pub returns-in_default-2-clause-answer : goal.returns-in_default-2-clause-answer
returns-in_default-2-clause-answer c =
    let past = unwrap_or-slice_get (words_of c.args.self.now.bytes.now) c.args.k stamp_limit in
    grind (arith, common_steps, past)

pub returns-in_default-2-clause-after : goal.returns-in_default-2-clause-after
returns-in_default-2-clause-after c =
    let past = unwrap_or-slice_get (words_of c.args.self.now.bytes.now) c.args.k stamp_limit in
    grind (arith, common_steps, past)
