use Rattle.std.proofs.Common.{◌∙◌, drop, refl, sym, inl, inr, arith}
use Rattle.iss_sb.specs.Paired.{paired}
use Rattle.sb_hotstuff.proofs.Refinement.StepEffectsAgree.{decided-takes, undecided-takes}
use Rattle.sb_hotstuff.proofs.hotstuff.HotStuff.deliver.Goals as goal

pub returns-then-not-may_deliver : goal.returns-then-not-may_deliver
returns-then-not-may_deliver c from sig =
    let t = c.of-taken.ensures in
    let m = c.args.self.now in
    undecided-takes c.args.context.now.p.now m m.delivered c.nothing.result c.of-taken.result c.nothing.ensures t.outcome t.accepted from c.args.view c.args.shown sig refl t.delivers
    (λ s h. sym (c.may_deliver.ensures s h) ∙ c.if-not-may_deliver.true)

pub returns-then-slots-self : goal.returns-then-slots-self
returns-then-slots-self c from sig =
    let t = c.of-taken.ensures in
    let m = c.args.self.now in
    decided-takes c.args.context.now.p.now m m.delivered c.nothing.result _ c.nothing.ensures t.outcome t.accepted from c.args.view c.args.shown sig
    c.digest-digest.result c.in_ok-values.values c.slots-slots.result (λ s h. sym (c.may_deliver.ensures s h) ∙ c.if-not-may_deliver.false) c.digest-digest.ensures
    (c.in_ok-taken.ensures ∙ (λ i. paired (drop m.delivered (c.as_slice.ensures i)) (c.into_vec.ensures i)))
    (λ ks h. c.in_ok-values.ensures ks h) (λ ks h. c.slots-slots.ensures ks h) (inl (c.if-slots-self.true, refl))

pub returns : goal.returns
returns c from sig =
    let t = c.of-taken.ensures in
    let m = c.args.self.now in
    let above = c.if-slots-self.false in
    decided-takes c.args.context.now.p.now m c.slots-slots.result c.nothing.result _ c.nothing.ensures t.outcome t.accepted from c.args.view c.args.shown sig
    c.digest-digest.result c.in_ok-values.values c.slots-slots.result (λ s h. sym (c.may_deliver.ensures s h) ∙ c.if-not-may_deliver.false) c.digest-digest.ensures
    (c.in_ok-taken.ensures ∙ (λ i. paired (drop m.delivered (c.as_slice.ensures i)) (c.into_vec.ensures i)))
    (λ ks h. c.in_ok-values.ensures ks h) (λ ks h. c.slots-slots.ensures ks h) (inr (omega (arith, above), refl))
