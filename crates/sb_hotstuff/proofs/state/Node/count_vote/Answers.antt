use Rattle.std.proofs.Common.{ℕ, ◌≡◌, ◌==◌, true, refl, sym, subst}
use Rattle.iss_base.proofs.Lists.{eqb-other}
use Rattle.sb_hotstuff.specs.Rules.{with_vote}
use Rattle.sb_hotstuff.proofs.Refinement.InputRefines.{vote-kept, vote-led, vote-shown, voted-for}
use Rattle.sb_hotstuff.proofs.state.Node.count_vote.Goals as goal

pub returns-then-not-is_reached : goal.returns-then-not-is_reached
returns-then-not-is_reached c s h =
    let p = c.args.context.now.p.now in
    let m = c.args.self.now in
    let keeps = c.keeps_vote.ensures s h in
    let f = voted-for p m s h c.args.from c.args.vote.poll.phase c.args.vote.poll.view c.args.vote.poll.digest c.args.vote.sig c.keeps_vote.result c.keep.new.self keeps c.if-not-keeps_vote.false c.in_ok-keep.ensures in
    vote-kept p m s h c.args.from c.args.vote.poll.phase c.args.vote.poll.view c.args.vote.poll.digest c.args.vote.sig c.keeps_vote.result c.keep.new.self keeps c.if-not-keeps_vote.false c.in_ok-keep.ensures
    c.is_reached.result (c.is_reached.ensures (with_vote s c.args.from.0 c.args.vote.poll.phase c.args.vote.poll.view c.args.vote.poll.digest c.args.vote.sig) f) c.nothing-then-not-is_reached.result c.if-not-is_reached.true c.nothing-then-not-is_reached.ensures

pub returns-then-phase-eq2 : goal.returns-then-phase-eq2
returns-then-phase-eq2 c s h =
    let p = c.args.context.now.p.now in
    let m = c.args.self.now in
    let keeps = c.keeps_vote.ensures s h in
    let k = with_vote s c.args.from.0 c.args.vote.poll.phase c.args.vote.poll.view c.args.vote.poll.digest c.args.vote.sig in
    let f = voted-for p m s h c.args.from c.args.vote.poll.phase c.args.vote.poll.view c.args.vote.poll.digest c.args.vote.sig c.keeps_vote.result c.keep.new.self keeps c.if-not-keeps_vote.false c.in_ok-keep.ensures in
    vote-shown p m s h c.args.from c.args.vote.poll.phase c.args.vote.poll.view c.args.vote.poll.digest c.args.vote.sig c.keeps_vote.result c.keep.new.self keeps c.if-not-keeps_vote.false c.in_ok-keep.ensures
    c.is_reached.result (c.is_reached.ensures k f) c.if-not-is_reached.false c.in_ok-draft.draft c.in_ok-shown.shown (c.in_ok-shown.ensures k.votes f.votes) c.in_ok-draft.ensures c.of.result
    (subst (λ (z : ℕ). (z == 2) ≡ true) (sym c.if-phase-eq2.true) refl) c.of.ensures

pub returns : goal.returns
returns c s h =
    let p = c.args.context.now.p.now in
    let m = c.args.self.now in
    let keeps = c.keeps_vote.ensures s h in
    let k = with_vote s c.args.from.0 c.args.vote.poll.phase c.args.vote.poll.view c.args.vote.poll.digest c.args.vote.sig in
    let f = voted-for p m s h c.args.from c.args.vote.poll.phase c.args.vote.poll.view c.args.vote.poll.digest c.args.vote.sig c.keeps_vote.result c.keep.new.self keeps c.if-not-keeps_vote.false c.in_ok-keep.ensures in
    vote-led p m s h c.args.from c.args.vote.poll.phase c.args.vote.poll.view c.args.vote.poll.digest c.args.vote.sig c.keeps_vote.result c.keep.new.self keeps c.if-not-keeps_vote.false c.in_ok-keep.ensures
    c.is_reached.result (c.is_reached.ensures k f) c.if-not-is_reached.false c.in_ok-draft.draft c.in_ok-shown.shown (c.in_ok-shown.ensures k.votes f.votes) c.in_ok-draft.ensures c.next.new.self c.in_ok-outcome.outcome
    (eqb-other c.args.vote.poll.phase 2 c.if-phase-eq2.false) (c.in_ok-outcome.ensures k f)
