use Rattle.std.proofs.Common.{ap, sym, ◌∙◌, subst}
use Rattle.sb_chained.specs.declared.state.Node.{Node}
use Rattle.sb_chained.specs.Rules.{committed_by}
use Rattle.std.proofs.Common.{Some}
use Rattle.sb_chained.specs.Refines.{RefinesState}
use Rattle.sb_chained.proofs.chained.Chained.show.Goals as goal

pub returns-clause-accepted : goal.returns-clause-accepted
returns-clause-accepted c = c.in_ok-delivers.ensures.delivers.accepted

pub returns-clause-shown : goal.returns-clause-shown
returns-clause-shown c k h =
    let d = c.in_ok-delivers.ensures.delivers in
    record {
      node = c.note.ensures.me ∙ ap (λ (z : Node). z.me) d.node;
      state = c.note.ensures.state k (subst (λ (z : Node). RefinesState c.args.context.now.p.now z k) (sym d.node) h);
      accepted = d.accepted;
      delivers = d.delivers k (committed_by k (Some c.args.shown)) h (sym (c.decided-decided.ensures k h));
    }
