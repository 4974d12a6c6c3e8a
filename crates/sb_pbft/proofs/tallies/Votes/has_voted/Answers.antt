use Rattle.std.proofs.Common.{◌∙◌, Option, ap}
use Rattle.sb_pbft.specs.declared.tallies.Voted.{Voted}
use Rattle.sb_pbft.specs.Places.{ballot_of, has_voted}
use Rattle.sb_pbft.proofs.Refinement.LoopsOverTables.{voted-is}
use Rattle.sb_pbft.proofs.tallies.Votes.has_voted.Goals as goal

pub returns-in-Some : goal.returns-in-Some
returns-in-Some c =
    voted-is c.args.digest.now _ _ c.eq.ensures
    ∙ ap (λ (o : Option Voted). has_voted c.args.digest.now (ballot_of o)) c.in-Some.ensures.value
