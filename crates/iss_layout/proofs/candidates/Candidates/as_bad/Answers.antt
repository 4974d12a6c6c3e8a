use Rattle.std.proofs.Common.{◌≡◌, ◌∙◌, suc, ap, arith, nat_le}
use Rattle.std.proofs.lemmas.List.Sums.{length-filter}
use Rattle.std.specs.List.{count_by}
use Rattle.iss_request.specs.declared.ids.NodeId.{NodeId}
use Rattle.iss_layout.specs.Layout.{carried, nodes_below}
use Rattle.iss_layout.proofs.candidates.Candidates.as_bad.Goals as goal

pub returns : goal.returns
returns c =
    let test = λ (j : NodeId). nat_le (suc c.args.worst.0) (carried c.args.self.now.standing.now j.0).worst in
    let whole : c.loop-i.i ≡ c.args.self.now.setup.now.n = omega (arith, c.loop-i.auto.i-end, c.loop-i-test.false) in
    c.loop-i.invariant.found ∙ length-filter test (nodes_below c.loop-i.i) ∙ ap (λ k. count_by test (nodes_below k)) whole
