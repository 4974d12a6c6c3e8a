use Rattle.iss_node.proofs.Wire.ClaimsAgree.{verified-is}
use Rattle.iss_node.proofs.claims.verifies.Goals as goal

pub returns : goal.returns
returns c = verified-is c.args.directory.now c.args.claim.now.by.0 c.as_slice-statement.result.now c.args.claim.now.statement c.as_slice.result.now c.args.claim.now.sig c.verify_node.result c.as_slice-statement.ensures c.as_slice.ensures c.verify_node.ensures
