use Rattle.std.proofs.Common.{◌∙◌, ◌≤◌, ℕ, List, ap, arith, length}
use Rattle.iss_rules.specs.Concrete.{request_statement}
use Rattle.iss_segment.proofs.Signed.{signed-is}
use Rattle.iss_segment.proofs.signatures.is_signed.Goals as goal

pub returns : goal.returns
returns c =
    let few : length c.args.request.now.payload ≤ 256 = omega (arith, c.if-payload-gt-PAYLOAD_MOST.false, ap (λ (z : List ℕ). length z) c.as_slice-payload.ensures) in
    signed-is c.args.directory.now c.args.request.now c.front-statement.result.now c.as_slice.result.now c.verify_client.result (omega arith) few
    (c.front-statement.ensures ∙ c.put_statement.ensures ∙ ap (λ (z : List ℕ). request_statement c.args.request.now.id z) c.as_slice-payload.ensures)
    c.as_slice.ensures c.verify_client.ensures
