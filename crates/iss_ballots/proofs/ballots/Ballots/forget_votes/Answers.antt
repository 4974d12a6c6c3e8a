use Rattle.std.proofs.Common.{◌∙◌, ℕ, List, [], ap, subst, sym}
use Rattle.iss_base.proofs.Lists.{none-some}
use Rattle.iss_ballots.proofs.BallotLemmas.{forgets-kept}
use Rattle.iss_ballots.specs.Ballots.{AreTallies, BallotsState}
use Rattle.iss_checkpoint.specs.Tallies.{TallyState}
use Rattle.iss_checkpoint.specs.Votes.{Voters, voters_of}
use Rattle.iss_checkpoint.specs.declared.votes.Vote.{Vote}
use Rattle.iss_ballots.proofs.ballots.Ballots.forget_votes.Goals as goal

no-tallies : (w : Voters) → AreTallies w []
no-tallies w e t h = absurd (none-some t h)

pub invariant_of-self : goal.invariant_of-self
invariant_of-self c = (
  c.self.invariant.0,
  subst (λ (ts : List (ℕ × TallyState)). AreTallies (voters_of c.self.inside.setup c.self.inside.directory) ts) (sym c.clear.ensures.empty) (no-tallies (voters_of c.self.inside.setup c.self.inside.directory)),
)

pub returns-clause-kept : goal.returns-clause-kept
returns-clause-kept c = λ votes certs kept.
    let now : BallotsState = record { voters = voters_of c.self.inside.setup c.self.inside.directory; tallies = c.clear.new.self.entries; certs = c.self.inside.certs.entries; counted = c.clear-2.new.self.items } in
    let less : BallotsState → BallotsState = λ z. record z { tallies = []; counted = [] } in
    let first = ap (λ (ts : List (ℕ × TallyState)). let z : BallotsState = record now { tallies = ts } in z) c.clear.ensures.empty in
    let last = ap (λ (vs : List Vote). let z : BallotsState = record now { tallies = []; counted = vs } in z) c.clear-2.ensures.items in
    forgets-kept c.args.self.now now votes certs (first ∙ (last ∙ ap less c.self.view_is)) kept
