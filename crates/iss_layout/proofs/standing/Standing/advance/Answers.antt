use Rattle.std.proofs.Common.{◌∙◌, ap, map}
use Rattle.iss_layout.specs.Layout.{carried}
use Rattle.iss_layout.specs.Internal.Standings.{shown}
use Rattle.iss_layout.proofs.StandingLemmas.{changed_is}
use Rattle.iss_layout.proofs.standing.Standing.advance.Goals as goal

pub returns : goal.returns
returns c = λ past standing i lt.
    c.change_all.ensures.changed i lt
    ∙ changed_is (record { plan = c.args.layout.now; nils = c.args.nil_slots.now }) past i (carried (map shown c.self.inside.nodes) i)
    (ap (λ cs. carried cs i) c.self.view_is ∙ standing i lt)
