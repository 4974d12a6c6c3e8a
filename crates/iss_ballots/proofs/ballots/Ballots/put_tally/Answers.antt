use Rattle.std.proofs.Common.{◌∙◌, ℕ, ◌==◌, Some, ap, cond, sym}
use Rattle.iss_ballots.proofs.BallotLemmas.{at-number, tallied-tallies}
use Rattle.iss_ballots.specs.Ballots.{BallotsState, tally_at}
use Rattle.iss_checkpoint.specs.Votes.{voters_of}
use Rattle.iss_ballots.proofs.ballots.Ballots.put_tally.Goals as goal

pub invariant_of-self-2 : goal.invariant_of-self-2
invariant_of-self-2 c =
    let e = c.args.epoch.0 in
    let t = c.args.tally in
    let before = c.self.inside.tallies.entries in (
      c.self.invariant.0,
      tallied-tallies (voters_of c.self.inside.setup c.self.inside.directory) before c.insert.new.self.entries e t c.self.invariant.1
          (c.requires.0 ∙ sym (ap (λ (z : BallotsState). z.voters) c.self.view_is)) c.requires.1
          (λ d. c.in_ok-insert.ensures.updates.0 d ∙ at-number e d (Some t) (tally_at before d)),
    )

pub returns-clause-put : goal.returns-clause-put
returns-clause-put c =
    let e = c.args.epoch.0 in
    let t = c.args.tally in
    let before = c.self.inside.tallies.entries in
    let put : BallotsState → BallotsState = λ z. record z { tallies = c.insert.new.self.entries } in
    record {
      tallies = λ d.
          c.in_ok-insert.ensures.updates.0 d
          ∙ (at-number e d (Some t) (tally_at before d)
          ∙ (ap (λ (k : ℕ). cond (k == d) (Some t) (tally_at before d)) (sym c.requires.1)
          ∙ ap (λ (z : BallotsState). cond (t.epoch == d) (Some t) (tally_at z.tallies d)) c.self.view_is));
      rest = ap put c.self.view_is;
    }
