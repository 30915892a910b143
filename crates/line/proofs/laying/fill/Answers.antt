use Rattle.std.proofs.Common.{◌≡◌, ◌+◌, ◌-◌, set, replicate, ap, ◌∙◌, arith}
use Rattle.std.proofs.lemmas.List.Edits.{fill_from_more}
use lib.Seq.{paste}
use Rattle.line.proofs.laying.fill.Goals as goal

pub loop-word-preserved : goal.loop-word-preserved
loop-word-preserved g c =
    let ws = g.B.Board.words c.args.board.now in
    let at = c.args.at in
    let value = c.args.value in
    let made = c.loop-word.word - at in
    let there : c.loop-word.word ≡ at + made = omega arith in
    let more : made + 1 ≡ c.loop-word.word + 1 - at = omega arith in (
      c.store.ensures.after
          ∙ ap (λ xs. set xs c.loop-word.word value) c.loop-word.invariant.0
          ∙ ap (λ word. set (paste ws at (replicate made value) made) word value) there
          ∙ fill_from_more ws at made value (omega arith)
          ∙ ap (λ n. paste ws at (replicate n value) n) more,
      c.store.ensures.stays ∙ c.loop-word.invariant.1,
    )
