use Rattle.std.proofs.Common.{◌∙◌, ◌==◌, None, ap, cond}
use Rattle.iss_ballots.proofs.BallotLemmas.{at-number, untallied-tallies}
use Rattle.iss_ballots.specs.Ballots.{BallotsState, tally_at}
use Rattle.iss_checkpoint.specs.Votes.{voters_of}
use Rattle.iss_ballots.proofs.ballots.Ballots.take_tally.Goals as goal

pub invariant_of-self : goal.invariant_of-self
invariant_of-self c =
    let e = c.args.epoch.0 in
    let before = c.self.inside.tallies.entries in (
      c.self.invariant.0,
      untallied-tallies (voters_of c.self.inside.setup c.self.inside.directory) before c.remove.new.self.entries e c.self.invariant.1
          (λ d. c.remove.ensures.updates.0 d ∙ at-number e d None (tally_at before d)),
    )

pub returns-clause-rest : goal.returns-clause-rest
returns-clause-rest c =
    let e = c.args.epoch.0 in
    let before = c.self.inside.tallies.entries in
    let taken : BallotsState → BallotsState = λ z. record z { tallies = c.remove.new.self.entries } in
    record {
      tallies = λ d.
          c.remove.ensures.updates.0 d
          ∙ (at-number e d None (tally_at before d)
          ∙ ap (λ (z : BallotsState). cond (e == d) None (tally_at z.tallies d)) c.self.view_is);
      rest = ap taken c.self.view_is;
    }
