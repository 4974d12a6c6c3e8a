use Rattle.std.proofs.Common.{◌≡◌, false, is_some, rules, true}
use Rattle.iss_ballots.proofs.BallotLemmas.{is-none, known-taken}
use Rattle.iss_ballots.specs.Ballots.{cert_at, is_true}
use Rattle.iss_ballots.proofs.ballots.Ballots.take.Goals as goal

pub count-requires : goal.count-requires
count-requires c =
    let none : is_some (cert_at c.args.self.now.certs c.args.vote.epoch.0) ≡ false = search rules in
    is-none (cert_at c.args.self.now.certs c.args.vote.epoch.0) none

pub returns-then-not-has_cert-clause-taken : goal.returns-then-not-has_cert-clause-taken
returns-then-not-has_cert-clause-taken c = c.count.ensures.taken

pub returns-then-is_true-clause-taken : goal.returns-then-is_true-clause-taken
returns-then-is_true-clause-taken c =
    let there : is_some (cert_at c.args.self.now.certs c.args.vote.epoch.0) ≡ true = search rules in
    let signed : is_true c.args.self.now.voters c.args.vote ≡ true = search rules in
    known-taken c.args.self.now c.args.vote there signed

pub returns-clause-taken : goal.returns-clause-taken
returns-clause-taken c =
    let unsigned : is_true c.args.self.now.voters c.args.vote ≡ false = search rules in
    λ votes certs kept. (unsigned, kept)
