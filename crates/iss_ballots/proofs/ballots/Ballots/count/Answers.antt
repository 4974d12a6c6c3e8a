use Rattle.std.proofs.Common.{◌≡◌, ◌≢◌, ◌∙◌, ◌∷◌, ◌++◌, [], Some, ap, length, subst, sym}
use Rattle.iss_ballots.proofs.BallotLemmas.{counted-taken, put-fits, refused-taken, stable-taken}
use Rattle.iss_ballots.specs.Ballots.{AreTallies, BallotsState, IsTaken}
use Rattle.iss_ballots.specs.declared.ballots.Taking.{Taking}
use Rattle.iss_checkpoint.specs.Tallies.{IsCounted, TallyState, certificate, refusal}
use Rattle.iss_checkpoint.specs.declared.votes.Vote.{Vote}
use Rattle.iss_ballots.proofs.ballots.Ballots.count.Goals as goal

pub put_tally-requires : goal.put_tally-requires
put_tally-requires c =
    let all = subst (λ (z : BallotsState). AreTallies z.voters z.tallies) c.self.view_is c.self.invariant.1 in
    let added = rw c.in-Counted.is at c.in_ok-add.ensures.added in
    put-fits c.args.self.now c.take_tally-tally.new.self c.args.vote.epoch.0 c.take_tally-tally.result c.add.new.self all c.take_tally-tally.ensures.rest c.take_tally-tally.ensures.tally
    (ap (λ (z : TallyState). z.voters) added.0.others) (ap (λ (z : TallyState). z.epoch) added.0.others)

pub put_tally-requires-in-Refused : goal.put_tally-requires-in-Refused
put_tally-requires-in-Refused c =
    let all = subst (λ (z : BallotsState). AreTallies z.voters z.tallies) c.self.view_is c.self.invariant.1 in
    let added = rw c.in-Refused.is at c.in_ok-add.ensures.added in
    put-fits c.args.self.now c.take_tally-tally.new.self c.args.vote.epoch.0 c.take_tally-tally.result c.add.new.self all c.take_tally-tally.ensures.rest c.take_tally-tally.ensures.tally
    (ap (λ (z : TallyState). z.voters) added.1) (ap (λ (z : TallyState). z.epoch) added.1)

pub returns-in_ok-note-in-Counted-clause-taken : goal.returns-in_ok-note-in-Counted-clause-taken
returns-in_ok-note-in-Counted-clause-taken c = λ votes certs kept.
    let v = c.args.vote in
    let u = c.add.new.self in
    let put = c.put_tally.new.self in
    let is = c.take_tally-tally.ensures.tally in
    let all = subst (λ (z : BallotsState). AreTallies z.voters z.tallies) c.self.view_is c.self.invariant.1 in
    let added = rw c.in-Counted.is at c.in_ok-add.ensures.added in
    counted-taken c.args.self.now c.take_tally-tally.new.self c.note.new.self v votes certs kept c.requires all c.take_tally-tally.ensures.rest u
    (subst (λ (z : TallyState). IsCounted z v u) is added.0) put c.in_ok-put_tally-in-Counted.ensures.put
    (subst (λ (z : TallyState). length (certificate u v).signers ≢ z.voters.quorum) is added.1)
    (c.in_ok-note-in-Counted.ensures.noted ∙ ap (λ (w : Vote). let z : BallotsState = record put { counted = put.counted ++ w ∷ [] } in z) c.in_ok-copy.ensures)

pub returns-in_ok-certify-in-Stable-clause-taken : goal.returns-in_ok-certify-in-Stable-clause-taken
returns-in_ok-certify-in-Stable-clause-taken c = λ votes certs kept.
    let v = c.args.vote in
    let u = c.add.new.self in
    let is = c.take_tally-tally.ensures.tally in
    let all = subst (λ (z : BallotsState). AreTallies z.voters z.tallies) c.self.view_is c.self.invariant.1 in
    let added = rw c.in-Stable.is at c.in_ok-add.ensures.added in
    stable-taken c.args.self.now c.take_tally-tally.new.self c.certify.new.self v votes certs kept c.requires all c.take_tally-tally.ensures.rest u
    (subst (λ (z : TallyState). IsCounted z v u) is added.0) c.in-Stable.cert added.2
    (subst (λ (z : TallyState). length (certificate u v).signers ≡ z.voters.quorum) is added.1) c.in_ok-certify-in-Stable.ensures.certified

pub returns-in_ok-put_tally-in-Refused-clause-taken : goal.returns-in_ok-put_tally-in-Refused-clause-taken
returns-in_ok-put_tally-in-Refused-clause-taken c = λ votes certs kept.
    let v = c.args.vote in
    let u = c.add.new.self in
    let new = c.put_tally-in-Refused.new.self in
    let is = c.take_tally-tally.ensures.tally in
    let all = subst (λ (z : BallotsState). AreTallies z.voters z.tallies) c.self.view_is c.self.invariant.1 in
    let added = rw c.in-Refused.is at c.in_ok-add.ensures.added in
    subst (λ (k : Taking). IsTaken votes certs v new k) (sym c.refused.ensures)
    (refused-taken c.args.self.now c.take_tally-tally.new.self new v votes certs kept c.requires all c.take_tally-tally.ensures.rest u c.in-Refused.cause
    (subst (λ (z : TallyState). refusal z v ≡ Some c.in-Refused.cause) is added.0) (added.1 ∙ is) c.in_ok-put_tally-in-Refused.ensures.put)
