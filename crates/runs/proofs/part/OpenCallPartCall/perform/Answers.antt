use Rattle.line.specs.Calls.{begins_post}
use Rattle.runs.proofs.Performing.{ready_left}
use Rattle.runs.proofs.Readiness.{begins_post_ready}
use Rattle.runs.proofs.part.OpenCallPartCall.perform.Goals as goal

pub invariant_of-running : goal.invariant_of-running
invariant_of-running g c =
    let now = c.args.running.now in
    let ws = g.B.Board.words now.board.now in
    let did = c.begin_post.ensures ws in
    record {
      ready = ready_left now.held (begins_post ws now.trays.now now.crew.core c.in-BeginPost.lane c.in-BeginPost.payload) _ _ _ did.board did.trays did.crew
          (begins_post_ready now.held ws now.trays.now now.crew.core c.in-BeginPost.lane c.in-BeginPost.payload now.ready);
    }
