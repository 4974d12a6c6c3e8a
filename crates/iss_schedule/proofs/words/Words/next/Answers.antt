use Rattle.std.proofs.Common.{rules, true, ◌≡◌, sym}
use Rattle.iss_schedule.proofs.Encoding.SplitsAreUnique.{words_next, words_last}
use Rattle.iss_schedule.proofs.words.Words.next.Goals as goal

pub returns-in-Some-clause-some : goal.returns-in-Some-clause-some
returns-in-Some-clause-some c =
    let more : c.self.inside.more ≡ true = search rules in
    words_next c.self.inside.more c.self.inside.rest.now c.in-Some.word.now c.in-Some.rest.now c.args.self.now more
    (sym c.self.view_is) c.in-Some.ensures.some c.in-Some.ensures.first

pub returns-in-None-clause-some : goal.returns-in-None-clause-some
returns-in-None-clause-some c =
    let more : c.self.inside.more ≡ true = search rules in
    words_last c.self.inside.more c.self.inside.rest.now c.args.self.now more
    (sym c.self.view_is) c.in-None.ensures.none
