use Rattle.std.proofs.Common.{◌∙◌, cond, ap, sym, List, ℕ, Option, Some}
use Rattle.std.specs.Ordering.{is_eq}
use Rattle.hs_views.specs.declared.ballots.Ballot.{Ballot}
use Rattle.hs_views.specs.declared.ballots.Ballots.{Ballots}
use Rattle.hs_views.specs.Views.{Kept}
use Rattle.hs_views.specs.Counts.{ballot_order, vote_at}
use Rattle.hs_views.proofs.CountsAgree.{votes-more}
use Rattle.hs_views.proofs.ballots.Ballots.keep.Goals as goal

pub returns : goal.returns
returns c v vs is h =
    let key : Ballot = record { by = c.args.by; phase = c.args.poll.phase; view = c.args.poll.view; digest = c.args.poll.digest } in
    let new : Ballots = record { all = c.insert.new.self } in
    votes-more c.args.self.now new key v vs (ap (λ (z : Kept). z.by) (sym is)) (ap (λ (z : Kept). z.phase) (sym is)) (ap (λ (z : Kept). z.view) (sym is)) (ap (λ (z : Kept). z.digest) (sym is)) h
    (λ k phase view d. c.in_ok-insert.ensures.updates.0 (record { by = k; phase = phase; view = view; digest = d })
    ∙ ap (λ (z : Kept). let o : Option (List ℕ) = cond (is_eq (ballot_order key (record { by = k; phase = phase; view = view; digest = d }))) (Some z.sig) (vote_at c.args.self.now k phase view d) in o) (sym is))
