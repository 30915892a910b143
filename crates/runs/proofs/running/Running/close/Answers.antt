use Rattle.std.proofs.Common.{◌≤◌, refl, sym, ap, ◌∙◌, arith}
use Rattle.line.specs.Calls.{settles}
use Rattle.line.specs.Collect.{begun}
use Rattle.runs.specs.Runs.{most_collect_grants}
use Rattle.runs.proofs.Endings.{nothing_to_close, open_collect_ends}
use Rattle.runs.proofs.Turns.{settle_turns}
use Rattle.runs.proofs.running.Running.close.Goals as goal

pub returns-then-is_some-clause-settled : goal.returns-then-is_some-clause-settled
unfolding most_collect_grants
returns-then-is_some-clause-settled g c =
    let now = c.args.self.now in
    let granted = g.C.AnyCrew.core c.grant.new.self.crew in
    let times = c.most_collect_grants.result in
    let enough : 41 ≤ times = omega (arith, c.most_collect_grants.ensures) in
    let accepted = open_collect_ends times now.held (g.B.Board.words now.board.now) now.trays.now (g.C.AnyCrew.core now.crew) enough now.ready (sym now.ready.receipt ∙ sym c.if-is_some.ensures) in
    c.settle.new.self.ready.receipt ∙ ap (λ k. begun k.collector.stage) c.settle.ensures.step.crew
    ∙ (settle_turns granted).is (ap (λ k. (settles k).answer.number) c.grant.ensures.step.crew ∙ accepted)

pub returns-else-is_some : goal.returns-else-is_some
returns-else-is_some g c =
    let now = c.args.self.now in
    let idle = sym now.ready.receipt ∙ sym c.if-is_some.ensures in
    let same = nothing_to_close (g.B.Board.words now.board.now) now.trays.now (g.C.AnyCrew.core now.crew) idle in
    record { board = same.0; trays = same.1; crew = same.2; settled = sym c.if-is_some.ensures; same_board = refl; same_trays = refl }
