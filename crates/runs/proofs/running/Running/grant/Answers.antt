use Rattle.std.proofs.Common.{◌+◌, ◌-◌, sym, ◌∙◌, arith}
use Rattle.runs.proofs.Repeats.{repeated_none, repeated_stops, repeated_more}
use Rattle.runs.proofs.running.Running.grant.Goals as goal

pub invariant_of-self : goal.invariant_of-self
invariant_of-self g c = record { ready = c.make-answer.ensures.ready c.loop-made.self.held c.loop-made.self.ready }

pub returns-then-not-is_on-clause-step : goal.returns-then-not-is_on-clause-step
returns-then-not-is_on-clause-step g c =
    repeated_stops (g.G.Grant.grants c.args.grant) (c.args.times - c.loop-made._made) (c.args.times - (c.loop-made._made + 1)) _ _ _ _ _ _ _
    (omega arith) c.make-answer.ensures.step _ (sym c.if-not-is_on.ensures) c.loop-made.invariant.0

pub loop-made-preserved : goal.loop-made-preserved
loop-made-preserved g c = (
  repeated_more (g.G.Grant.grants c.args.grant) (c.args.times - c.loop-made._made) (c.args.times - (c.loop-made._made + 1)) _ _ _ _ _ _ _
      (omega arith) c.make-answer.ensures.step (sym c.if-not-is_on.ensures) ∙ c.loop-made.invariant.0,
  c.loop-made.invariant.1,
  c.loop-made.invariant.2,
)

pub returns-clause-step : goal.returns-clause-step
returns-clause-step g c = repeated_none (g.G.Grant.grants c.args.grant) (c.args.times - c.loop-made._made) _ _ _ _ _ c.on.ensures (omega arith) c.loop-made.invariant.0
