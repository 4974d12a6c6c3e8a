use Rattle.std.proofs.Common.{rules, ◌∷◌, ◌++◌, [], ◌∙◌, sym, refl, append_assoc}
use Rattle.std.specs.Int.{to_be_bytes, w64}
use Rattle.iss_checkpoint.proofs.SignedLemmas.{two-parts}
use Rattle.iss_checkpoint.proofs.votes.head.Goals as goal

pub returns : goal.returns
returns c =
    two-parts 32 11 c.copy_from_slice.new.self c.copy_from_slice-2.new.self c.args.tag.now (to_be_bytes w64 c.args.epoch ++ 255 ∷ 0 ∷ 0 ∷ []) _ c.told-tag refl (search rules) (search rules)
    ∙ sym (append_assoc c.args.tag.now (to_be_bytes w64 c.args.epoch) (255 ∷ 0 ∷ 0 ∷ []))
