use Rattle.std.proofs.Common.{◌+◌, ◌-◌, ◌*◌, ap, refl, ◌∙◌, arith, rules}
use Rattle.boards.proofs.ByteWords.{length_words, put_word}
use Rattle.boards.proofs.bytes.ByteBoardBoard.store.Goals as goal

pub returns-then-k-len : goal.returns-then-k-len
returns-then-k-len c =
    let bs = c.args.self.now.bytes.now in
    let k = c.args.k in
    let laid = c.copy_from_slice.ensures.after ∙ c.to_le_bytes.ensures in
    let put = put_word bs c.copy_from_slice.new.self k c.args.v (8 * k + 8 - 8 * k) (omega (arith, length_words bs)) (omega arith) laid (omega arith) in
    record {
      after = put.0;
      size = search rules;
      loan = refl;
      rest = put.1;
      stays = ap (λ rest. (c.args.self.now.bytes.ghost_name, rest)) put.1;
    }
