use Rattle.std.proofs.Common.{◌≡◌, false, is_some, rules, true}
use Rattle.iss_ballots.proofs.BallotLemmas.{keeps-new, keeps-old, on-ok}
use Rattle.iss_ballots.specs.Ballots.{cert_at}
use Rattle.iss_ballots.proofs.ballots.Ballots.keep.Goals as goal

pub returns-then-has_cert-clause-kept : goal.returns-then-has_cert-clause-kept
returns-then-has_cert-clause-kept c =
    let there : is_some (cert_at c.args.self.now.certs c.args.cert.epoch.0) ≡ true = search rules in
    keeps-old c.args.self.now c.args.cert there

pub returns-clause-kept : goal.returns-clause-kept
returns-clause-kept c =
    let none : is_some (cert_at c.args.self.now.certs c.args.cert.epoch.0) ≡ false = search rules in
    on-ok c.put.result _ _ c.put.ensures.kept (keeps-new c.args.self.now c.put.new.self c.args.cert none)
