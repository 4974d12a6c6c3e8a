use Rattle.std.proofs.Common.{◌≡◌, ap, sym, subst, None, ◌∙◌}
use Rattle.iss_checkpoint.specs.Tallies.{TallyState, refusal, vote_at}
use Rattle.iss_checkpoint.specs.Votes.{voters_in}
use Rattle.iss_checkpoint.proofs.TallyLemmas.{put-at, put-votes}
use Rattle.iss_checkpoint.proofs.tallies.Tally.put.Goals as goal

pub invariant_of-self : goal.invariant_of-self
invariant_of-self c = (c.self.invariant.0, λ k v h. c.self.invariant.1 k v (ap (λ es. vote_at es k) (sym c.in_err-insert.ensures.err) ∙ h))

pub invariant_of-self-2 : goal.invariant_of-self-2
invariant_of-self-2 c =
    let held = c.self.inside in
    let t : TallyState = record { voters = voters_in held.tag held.n held.quorum held.directory; epoch = held.epoch.0; votes = held.votes.entries } in
    let none : refusal t c.args.vote ≡ None = subst (λ (s : TallyState). refusal s c.args.vote ≡ None) (sym c.self.view_is) c.requires in
    (c.self.invariant.0, put-votes t c.insert.new.self.entries c.args.vote none c.self.invariant.1 (put-at held.votes.entries c.insert.new.self.entries c.args.vote (λ k. c.in_ok-insert.ensures.updates.0 k)))
