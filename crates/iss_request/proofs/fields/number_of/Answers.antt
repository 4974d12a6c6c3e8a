use Rattle.std.proofs.Common.{arith}
use Rattle.std.proofs.lemmas.Nat.{be_bytes_8}
use Rattle.iss_request.proofs.fields.number_of.Goals as goal

pub returns : goal.returns
returns c = be_bytes_8 c.args.b.now _ c.requires (λ i. omega (arith, c.type_inv.b i)) c.from_be_bytes.ensures
