use Rattle.std.proofs.Common.{◌≡◌, [], ◌∷◌, ◌++◌, map, vec_items, refl, ap, ◌∙◌, arith}
use Rattle.std.proofs.lemmas.List.{map_push}
use Rattle.runs.specs.Runs.{said}
use Rattle.runs.proofs.Onward.{onward, run_more, run_ends}
use Rattle.runs.proofs.running.Running.perform_all.Goals as goal

pub loop-call-preserved : goal.loop-call-preserved
loop-call-preserved g c =
    let before = vec_items c.loop-call.answers in
    let answer = c.perform.result in
    let pushed : map said (vec_items c.push_reserved.new.self) ≡ map said before ++ said answer ∷ [] = ap (map said) c.push_reserved.ensures.items ∙ map_push said before answer in (
      run_more g.K.PartCall.performed g.K.PartCall.says c.args.calls.now c.loop-call.call-index (map said before) _ _ _ c.call-item.result (said answer) _ _ _ _
          c.loop-call-test.true c.call-item.is pushed c.perform.ensures.step
          ∙ c.loop-call.invariant.0,
      omega (arith, c.push_reserved.ensures.len, c.loop-call.invariant.1),
      omega (arith, c.push_reserved.ensures.capacity, c.loop-call.invariant.2),
      c.perform.ensures.same_board ∙ c.loop-call.invariant.3,
      c.perform.ensures.same_trays ∙ c.loop-call.invariant.4,
    )

pub returns-clause-left : goal.returns-clause-left
returns-clause-left g c =
    run_ends g.K.PartCall.performed g.K.PartCall.says c.args.calls.now c.loop-call.call-index _ _ _ _ _ (omega arith)
    (c.loop-call.invariant.0 ∙ onward g.K.PartCall.performed g.K.PartCall.says c.args.calls.now _ [] _ _ _ _ _ _ (ap (map said) c.requires.0) refl refl refl)
