use Rattle.std.proofs.Common.{◌≡◌, ap, sym, subst, None, ◌∙◌, length, arith, rules}
use Rattle.iss_checkpoint.specs.Tallies.{AreVotes, TallyState, refusal}
use Rattle.iss_checkpoint.proofs.TallyLemmas.{cert-true}
use Rattle.iss_checkpoint.proofs.tallies.Tally.add.Goals as goal

pub returns-clause-checked : goal.returns-clause-checked
returns-clause-checked c =
    let held = c.self.inside in
    let none : refusal c.args.self.now c.args.vote ≡ None = search rules in
    let all : AreVotes c.args.self.now.voters c.args.self.now.epoch c.args.self.now.votes = subst (λ (s : TallyState). AreVotes s.voters s.epoch s.votes) c.self.view_is c.self.invariant.1 in
    let quorum : held.quorum ≡ c.args.self.now.voters.quorum = ap (λ (s : TallyState). s.voters.quorum) c.self.view_is in
    let many : length c.in_ok-cert.cert.signers ≡ held.quorum = ap (λ x. length x.signers) c.in_ok-cert.ensures ∙ sym c.count.ensures ∙ omega (arith, c.if-count-self.false) in
    cert-true c.args.self.now c.args.vote c.in_ok-cert.cert none all c.in_ok-cert.ensures (many ∙ quorum)
