use Rattle.std.proofs.Common.{◌∙◌, ◌==◌, Some, ap, cond, not, rules}
use Rattle.std.proofs.lemmas.Fn.{filter_same}
use Rattle.std.specs.List.{filter}
use Rattle.iss_ballots.proofs.BallotLemmas.{at-number}
use Rattle.iss_ballots.specs.Ballots.{BallotsState, cert_at}
use Rattle.iss_checkpoint.specs.declared.votes.Vote.{Vote}
use Rattle.iss_ballots.proofs.ballots.Ballots.certify.Goals as goal

pub returns-clause-certified : goal.returns-clause-certified
returns-clause-certified c =
    let cert = c.args.cert in
    let before = c.self.inside.certs.entries in
    let put : BallotsState → BallotsState = λ z. record z { certs = c.insert.new.self.entries; counted = c.retain.new.self.items } in
    record {
      certs = λ d.
          c.in_ok-insert.ensures.updates.0 d
          ∙ (at-number cert.epoch.0 d (Some cert) (cert_at before d)
          ∙ ap (λ (z : BallotsState). cond (cert.epoch.0 == d) (Some cert) (cert_at z.certs d)) c.self.view_is);
      counted =
          filter_same _ (λ (v : Vote). not (v.epoch.0 == cert.epoch.0)) _ (λ x b f k. search rules) _ _ c.retain.ensures.filtered
          ∙ ap (λ (z : BallotsState). filter (λ (v : Vote). not (v.epoch.0 == cert.epoch.0)) z.counted) c.self.view_is;
      rest = ap put c.self.view_is;
    }
