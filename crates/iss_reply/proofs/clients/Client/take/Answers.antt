use Rattle.std.proofs.Common.{◌∙◌, sym, ap, subst, List}
use Rattle.iss_reply.specs.declared.clients.Stated.{Stated}
use Rattle.iss_reply.specs.declared.clients.Taken.{Taken}
use Rattle.iss_reply.specs.Clients.{Cluster, IsBelieved, judged, outcome}
use Rattle.iss_reply.proofs.ClientLemmas.{believed}
use Rattle.iss_reply.proofs.clients.Client.take.Goals as goal

pub returns-clause-believed : goal.returns-clause-believed
returns-clause-believed c = λ s correct log replies own taken honest.
    let r = c.args.reply.now in
    let is = c.in_ok-taken.ensures
    ∙ ap (λ (all : List Stated). judged c.args.self.now.cluster all r) (taken r.id)
    ∙ ap (λ (k : Cluster). outcome k replies r) own in
    subst (λ (t : Taken). IsBelieved log r t) (sym is) (believed s correct log replies r honest)
