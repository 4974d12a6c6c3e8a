use Rattle.std.proofs.Common.{◌∙◌, sym, ap, length, List, subst}
use Rattle.iss_request.specs.declared.ids.NodeId.{NodeId}
use Rattle.iss_layout.specs.Layout.{IsGoodPlan, carried}
use Rattle.iss_layout.proofs.FairLemmas.{good_plan_by}
use Rattle.iss_layout.proofs.StandingLemmas.{plan_same}
use Rattle.iss_layout.proofs.layout.Layout.of.Goals as goal

pub invariant_of-result : goal.invariant_of-result
invariant_of-result c =
    let leaders = c.leaders-count.ensures.leaders in (
      ap length leaders ∙ sym c.leaders-count.ensures.count,
      subst (λ (ls : List NodeId). IsGoodPlan (record { epoch = c.args.epoch.0; start = c.args.start; nodes = c.args.setup.now.n; slots = c.args.setup.now.epoch; buckets = c.args.setup.now.buckets; leaders = ls })) (sym leaders)
          (good_plan_by c.args.setup.now c.args.epoch.0 c.args.start (carried c.args.standing.now) c.requires.good c.requires.fits),
    )

pub returns-clause-past : goal.returns-clause-past
returns-clause-past c = λ past standing.
    ap (λ (ls : List NodeId). record { epoch = c.args.epoch.0; start = c.args.start; nodes = c.args.setup.now.n; slots = c.args.setup.now.epoch; buckets = c.args.setup.now.buckets; leaders = ls }) c.leaders-count.ensures.leaders
    ∙ plan_same c.args.setup.now c.args.epoch.0 c.args.start past c.args.standing.now standing
