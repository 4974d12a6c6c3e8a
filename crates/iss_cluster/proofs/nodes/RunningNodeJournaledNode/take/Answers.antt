use Rattle.std.proofs.Common.{sym, subst, ◌∙◌, true≢false, List, Result, IfOk, IsErrOf}
use Rattle.iss_cluster.proofs.NodeLemmas.{by-address, by-cut, by-durable, by-step, has-fresh, running-on}
use Rattle.iss_cluster.specs.Nodes.{HasTaken, Leaves}
use Rattle.iss_keep.specs.State.{KeptState}
use Rattle.iss_loops.specs.NodeBehavior.{FailsAt, GoTo, IsOpen, IsStep, NamesNodes, NodeBehavior}
use Rattle.iss_loops.specs.declared.node.NodeStep.{NodeStep}
use Rattle.iss_loops.specs.declared.node.StepError.{StepError}
use Rattle.iss_loops.specs.declared.node.StepError.TheVariants.{DiskFault}
use Rattle.iss_rules.specs.declared.events.NodeEvent.{NodeEvent}
use Rattle.iss_cluster.proofs.nodes.RunningNodeJournaledNode.take.Goals as goal

pub as_step-requires : goal.as_step-requires
as_step-requires g c = λ is.
    let m = g.M.Sequenced.spec in
    let refines = g.M.Sequenced.refines in
    let opened = subst (λ (v : KeptState _ _ _). IsOpen (λ B es. HasTaken m refines v B es)) (sym c.self.view_is) c.requires.open in
    true≢false (sym (c.take.ensures.refused.0 is) ∙ has-fresh m refines g.D.Disk.state c.self.inside.kept opened.0 opened.1 opened.2)

pub invariant_of-self : goal.invariant_of-self
invariant_of-self g c =
    let m = g.M.Sequenced.spec in
    let refines = g.M.Sequenced.refines in
    let state = g.D.Disk.state in
    let old = c.self.inside.kept in
    let new = c.take.new.self in
    let opened = subst (λ (v : KeptState _ _ _). IsOpen (λ B es. HasTaken m refines v B es)) (sym c.self.view_is) c.requires.open in
    running-on m refines state c.self.inside.nodes c.self.inside.me old new c.self.invariant c.take.ensures.node.same
    (by-durable m refines state c.args.event old new c.take.ensures.node.same
    c.take.result c.take.ensures.written c.take.ensures.stale c.self.invariant.durable (has-fresh m refines state old opened.0 opened.1 opened.2))

pub returns-clause-step : goal.returns-clause-step
returns-clause-step g c =
    let m = g.M.Sequenced.spec in
    let refines = g.M.Sequenced.refines in
    let state = g.D.Disk.state in
    let old = c.self.inside.kept in
    let new = c.take.new.self in
    let names = subst (λ (v : KeptState _ _ _). NamesNodes v.setup.n c.args.event) (sym c.self.view_is) c.requires.nodes in
    subst (λ (v : KeptState _ _ _). IfOk c.as_step.result (λ step. (B : NodeBehavior) (events : List NodeEvent) → HasTaken m refines v B events → IsStep B events c.args.event (λ es. HasTaken m refines new B es) step)) c.self.view_is
    (subst (λ (r : Result NodeStep StepError). IfOk r (λ step. (B : NodeBehavior) (events : List NodeEvent) → HasTaken m refines old B events → IsStep B events c.args.event (λ es. HasTaken m refines new B es) step)) (sym c.as_step.ensures)
    (by-step m refines state c.args.event old new c.take.ensures.node.same names c.take.ensures.stored c.take.result c.take.ensures.answer))

pub returns-clause-addressed : goal.returns-clause-addressed
returns-clause-addressed g c =
    let m = g.M.Sequenced.spec in
    let refines = g.M.Sequenced.refines in
    let state = g.D.Disk.state in
    let old = c.self.inside.kept in
    let new = c.take.new.self in
    let names = subst (λ (v : KeptState _ _ _). NamesNodes v.setup.n c.args.event) (sym c.self.view_is) c.requires.nodes in
    let opened = subst (λ (v : KeptState _ _ _). IsOpen (λ B es. HasTaken m refines v B es)) (sym c.self.view_is) c.requires.open in
    subst (λ (v : KeptState _ _ _). IfOk c.as_step.result (GoTo v.setup.n)) c.self.view_is
    (subst (λ (r : Result NodeStep StepError). IfOk r (GoTo old.setup.n)) (sym c.as_step.ensures)
    (by-address m refines state c.args.event old new c.take.ensures.node.same names c.take.ensures.stored c.take.result c.take.ensures.answer opened))

pub returns-clause-cut : goal.returns-clause-cut
returns-clause-cut g c =
    let m = g.M.Sequenced.spec in
    let refines = g.M.Sequenced.refines in
    let state = g.D.Disk.state in
    let old = c.self.inside.kept in
    let new = c.take.new.self in
    let names = subst (λ (v : KeptState _ _ _). NamesNodes v.setup.n c.args.event) (sym c.self.view_is) c.requires.nodes in
    subst (λ (v : KeptState _ _ _). IsErrOf c.as_step.result DiskFault → (B : NodeBehavior) (events : List NodeEvent) → HasTaken m refines v B events
    → FailsAt B (λ (es : List NodeEvent) (e : NodeEvent). Leaves new.setup.n (state new.disk).history B es e) events c.args.event) c.self.view_is
    (subst (λ (r : Result NodeStep StepError). IsErrOf r DiskFault → (B : NodeBehavior) (events : List NodeEvent) → HasTaken m refines old B events
    → FailsAt B (λ (es : List NodeEvent) (e : NodeEvent). Leaves new.setup.n (state new.disk).history B es e) events c.args.event) (sym c.as_step.ensures)
    (by-cut m refines state c.args.event old new c.take.ensures.node.same names c.take.ensures.stored
    c.take.result c.take.ensures.answer c.take.ensures.written))
