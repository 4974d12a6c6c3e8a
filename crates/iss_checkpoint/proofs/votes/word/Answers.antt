use Rattle.std.proofs.Common.{rules, refl}
use Rattle.std.specs.Int.{to_be_bytes, w64}
use Rattle.iss_checkpoint.proofs.SignedLemmas.{two-parts}
use Rattle.iss_checkpoint.proofs.votes.word.Goals as goal

pub returns : goal.returns
returns c = two-parts 32 8 c.copy_from_slice.new.self c.copy_from_slice-2.new.self c.args.chain.now (to_be_bytes w64 c.args.requests) _ c.told-chain refl (search rules) (search rules)
