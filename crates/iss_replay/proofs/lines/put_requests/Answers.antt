use Rattle.std.proofs.Common.{◌∙◌, ◌++◌, ap, ◌<◌, length, arith}
use Rattle.iss_replay.proofs.TextLemmas.{words-next}
use Rattle.iss_replay.specs.Text.{request_word}
use Rattle.iss_replay.proofs.lines.put_requests.Goals as goal

pub loop-request-preserved : goal.loop-request-preserved
loop-request-preserved c =
    let lt : c.loop-request.request-index < length c.args.batch.now = omega (arith, c.loop-request-test.true) in
    c.in_ok-put_request.ensures
    ∙ ap (λ t. t ++ request_word c.request-item.result) c.loop-request.invariant
    ∙ words-next c.args.out.now.items c.args.batch.now c.loop-request.request-index c.request-item.result lt c.request-item.is
