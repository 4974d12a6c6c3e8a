use Rattle.std.proofs.Common.{◌≡◌}
use Rattle.iss_words.specs.declared.orders.WordsError.TheVariants.{Refused}
use Rattle.iss_words.proofs.CommandLemmas.{named_of, taken_of, refused_of}
use Rattle.iss_words.proofs.reading.matches_of.Goals as goal

pub returns-in-Ok-try_get_matches_from-clause-taken :
    goal.returns-in-Ok-try_get_matches_from-clause-taken
returns-in-Ok-try_get_matches_from-clause-taken c =
    taken_of _ _ c.in-Ok.ensures c.in-Ok-try_get_matches_from.ensures.kinds

pub returns-in-Ok-try_get_matches_from-clause-named :
    goal.returns-in-Ok-try_get_matches_from-clause-named
returns-in-Ok-try_get_matches_from-clause-named c =
    named_of _ _ _ c.in-Ok.ensures (λ simple. (c.in-Ok-try_get_matches_from.ensures.matches simple).1)

pub returns-in-Err-clause-refused : goal.returns-in-Err-clause-refused
returns-in-Err-clause-refused c = λ is none.
    let refused : c.refusal.result ≡ Refused = cc in
    refused_of _ _ _ c.in-Ok.ensures c.in-Err.ensures.kinds (c.refusal.ensures refused) none
