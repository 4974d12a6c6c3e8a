use Rattle.iss_audit.proofs.DigitLemmas.{no-bytes}
use Rattle.iss_audit.proofs.digits.bytes_in.Goals as goal

pub returns-then-not-are_pairs : goal.returns-then-not-are_pairs
returns-then-not-are_pairs c =
    no-bytes c.args.word.now (λ minus. let yes = c.is_minus.ensures.1 minus in cc) (λ pairs. let yes = c.are_pairs.ensures.1 pairs in cc)
