use Rattle.std.proofs.Common.{◌≡◌, ◌∙◌, subst, sym, ◌+◌, arith}
use Rattle.iss_node.proofs.EpochEnd.InstancesStart.{AreBegun, begun-all, begun-next, carried-over, member-of}
use Rattle.iss_node.specs.Internal.Epochs.{params_by}
use Rattle.iss_segment.specs.Instance.{SegmentState}
use Rattle.iss_node.proofs.starting.start_segments.Goals as goal

pub loop-node-preserved : goal.loop-node-preserved
loop-node-preserved g c =
    subst (λ xs. AreBegun g.M.Sequenced.refines c.args.setup.now c.args.me c.args.epoch.0 c.args.layout.now (c.loop-node.node + 1) xs) (sym c.in_ok-push.ensures.items)
    (begun-next g.M.Sequenced.refines c.args.setup.now c.args.me c.args.epoch.0 c.args.layout.now c.loop-node.node c.loop-node.segments.items c.in_ok-segment.segment c.loop-node.invariant (c.in_ok-segment.ensures.started ∙ c.in_ok-params.ensures.leads) c.in_ok-segment.ensures.refines
    (carried-over (λ (x : SegmentState g.row.M.Denot). x.params) (λ p. p ≡ params_by c.args.setup.now c.args.epoch.0 c.args.layout.now c.loop-node.node) c.in_ok-segment.segment c.in_ok-params.params c.in_ok-segment.ensures.params c.in_ok-params.ensures.params) c.in_ok-segment.ensures.node)

pub start_with-requires : goal.start_with-requires
start_with-requires g c = member-of g.M.Sequenced.spec c.args.setup.now c.args.me c.args.epoch.0 c.args.layout.now c.loop-node.node c.in_ok-params.params c.in_ok-params.ensures.params c.in_ok-params.ensures.good c.requires.member.me

pub returns-clause-started : goal.returns-clause-started
returns-clause-started g c =
    let all : c.loop-node.node ≡ c.args.setup.now.n = omega (arith, c.loop-node-test.false, c.loop-node.auto.node-end) in
    begun-all g.M.Sequenced.refines c.args.setup.now c.args.me c.args.epoch.0 c.args.layout.now c.args.setup.now.n c.loop-node.segments.items
    (subst (λ k. AreBegun g.M.Sequenced.refines c.args.setup.now c.args.me c.args.epoch.0 c.args.layout.now k c.loop-node.segments.items) all c.loop-node.invariant) c.requires.plan.good c.requires.plan.nodes
