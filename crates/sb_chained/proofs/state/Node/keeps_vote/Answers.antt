use Rattle.std.proofs.Common.{◌&&◌, Bool, length, sym, ap, ◌∙◌}
use Rattle.std.specs.Prelude.{is_some, nat_lt, not}
use Rattle.hs_views.specs.Views.{vote_of, votes_of}
use Rattle.sb_chained.proofs.state.Node.keeps_vote.Goals as goal

pub returns-then-is_own : goal.returns-then-is_own
returns-then-is_own c s h = c.is_new.ensures s h ∙ ap (λ (b : Bool). b && (not (is_some (vote_of s.votes 1 c.args.poll.now.view c.args.poll.now.digest c.args.from.0)) && nat_lt (length (votes_of c.args.context.now.p.now.setup.n s.votes 1 c.args.poll.now.view c.args.poll.now.digest)) c.args.context.now.p.now.setup.quorum)) (sym c.if-is_own.true ∙ c.is_own.ensures c.args.context.now.p.now s h)

pub returns-else-is_own : goal.returns-else-is_own
returns-else-is_own c s h = c.if-is_own.false ∙ ap (λ (b : Bool). b && (not (is_some (vote_of s.votes 1 c.args.poll.now.view c.args.poll.now.digest c.args.from.0)) && nat_lt (length (votes_of c.args.context.now.p.now.setup.n s.votes 1 c.args.poll.now.view c.args.poll.now.digest)) c.args.context.now.p.now.setup.quorum)) (sym c.if-is_own.false ∙ c.is_own.ensures c.args.context.now.p.now s h)
