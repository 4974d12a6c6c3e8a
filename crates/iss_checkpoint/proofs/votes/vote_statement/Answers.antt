use Rattle.std.proofs.Common.{◌^◌, ◌<◌, ◌∙◌, refl, arith}
use Rattle.iss_checkpoint.proofs.SignedLemmas.{statement-put}
use Rattle.iss_checkpoint.proofs.votes.vote_statement.Goals as goal

pub returns : goal.returns
returns c =
    let epoch : c.args.epoch < 2 ^ 64 = omega arith in
    let count : c.args.requests < 2 ^ 64 = omega arith in
    statement-put c.args.tag.now c.args.chain.now c.args.epoch c.args.requests _ _ _ c.told-tag epoch count refl
    (c.copy_from_slice.ensures.after ∙ c.head-head.ensures) (c.copy_from_slice-2.ensures.after ∙ c.word-word.ensures)
