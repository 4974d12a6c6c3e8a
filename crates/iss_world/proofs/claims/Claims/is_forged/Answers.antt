use Rattle.std.proofs.Common.{◌∙◌, ap}
use Rattle.iss_request.specs.declared.setups.Setup.{Setup}
use Rattle.iss_sb.specs.Evidence.{is_correct}
use Rattle.iss_world.proofs.BookLemmas.{forged-is}
use Rattle.iss_world.proofs.claims.Claims.is_forged.Goals as goal

pub returns : goal.returns
returns c book h =
    forged-is c.args.members.now book c.args.claim.now c.directory-directory.result.now c.in_ok-has.field-0 c.is_correct.result c.verify_node.result c.as_slice.result.now c.as_slice-2.result.now
    c.directory-directory.ensures (c.in_ok-has.ensures ∙ h c.args.claim.now.by.0 c.args.claim.now.statement) c.if-branch.false (c.is_correct.ensures ∙ ap (λ (s : Setup). is_correct s c.args.claim.now.by.0) c.setup.ensures) c.if-not-is_correct.false c.as_slice.ensures c.as_slice-2.ensures c.verify_node.ensures
