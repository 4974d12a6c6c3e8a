use Rattle.std.proofs.lemmas.Result.{on_ok_weaker}
use Rattle.hs_views.proofs.DraftsAgree.{one-addressed}
use Rattle.hs_views.proofs.drafts.send.Goals as goal

pub returns-clause-addressed : goal.returns-clause-addressed
returns-clause-addressed c =
    on_ok_weaker c.push.result (λ e all. one-addressed c.args.p.now.setup.n c.args.sends.now c.push.new.self c.to_nodes-to.result _ e c.to_nodes-to.ensures.node all) c.push.ensures.ok
