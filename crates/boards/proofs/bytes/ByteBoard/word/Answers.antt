use Rattle.std.proofs.Common.{◌∙◌, get_or, ap, sym, arith}
use Rattle.std.proofs.lemmas.Option.{slice_get_past}
use Rattle.boards.specs.Bytes.{words_of}
use Rattle.boards.proofs.ByteWords.{length_words, word_read}
use Rattle.boards.proofs.bytes.ByteBoard.word.Goals as goal

pub returns : goal.returns
returns c =
    let bs = c.args.self.now.bytes.now in
    let group = c.in_ok-get.field-0.now in
    let lookup = c.in_ok-get.ensures.lookup in
    word_read bs group c.args.k (omega (arith, lookup.3.0, c.as_chunks.ensures.front_len)) (lookup.1 ∙ ap (λ groups. get_or groups c.args.k group) c.as_chunks.ensures.front) c.from_le_bytes.ensures

pub returns-in_err-get : goal.returns-in_err-get
returns-in_err-get c =
    let bs = c.args.self.now.bytes.now in
    c.from_residual.ensures ∙ sym (slice_get_past (words_of bs) c.args.k (omega (arith, length_words bs, c.in_err-get.ensures.lookup.3, c.as_chunks.ensures.front_len)))
