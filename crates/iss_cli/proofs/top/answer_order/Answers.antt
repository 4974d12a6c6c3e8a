use Rattle.std.proofs.Common.{◌∙◌, ℕ, List, Err, subst, ap}
use Rattle.std.proofs.lemmas.Result.{err_from_is_err_and}
use Rattle.iss_cli.specs.Answers.{IsAnswer}
use Rattle.iss_cli.specs.Running.{IsStarted, UsesDisk, UsesLinks, devices}
use Rattle.iss_loops.specs.declared.errors.NodeError.{NodeError}
use Rattle.iss_cli.proofs.TopLemmas.{answer_read, answer_unread, drains_nothing, failed_read, not_true}
use Rattle.iss_cli.proofs.top.answer_order.Goals as goal

pub returns-then-not-reads-clause-ok : goal.returns-then-not-reads-clause-ok
returns-then-not-reads-clause-ok g c =
    answer_unread c.args.order (g.I.Source.left c.args.input.now) _ _ _ c.in_ok-respond.field-0
    (λ reads. not_true c.reads.result c.if-not-reads.true (c.reads.ensures.1 reads)) c.in_ok-respond.ensures.ok

pub returns-clause-ok : goal.returns-clause-ok
returns-clause-ok g c =
    let before = devices (g.L.Links.ends c.args.links.now) (g.D.Disk.state c.args.disk.now) in
    let now = devices (g.L.Links.ends c.respond-2.new.links) (g.D.Disk.state c.respond-2.new.disk) in
    let P : List ℕ → Type 0 = λ bytes. IsAnswer c.args.order before now bytes c.in_ok-respond-2.field-0 in
    answer_read c.args.order (g.I.Source.left c.args.input.now) (g.I.Source.left c.read_up_to.new.input) before now c.in_ok-bytes.bytes.items c.in_ok-respond-2.field-0
    c.in_ok-bytes.ensures.bytes c.in_ok-bytes.ensures.end (subst P c.deref.ensures.value c.in_ok-respond-2.ensures.ok)

pub returns-then-not-reads-clause-taken : goal.returns-then-not-reads-clause-taken
returns-then-not-reads-clause-taken g c = drains_nothing (g.I.Source.left c.args.input.now)

pub returns-in_err-respond-2-clause-err : goal.returns-in_err-respond-2-clause-err
returns-in_err-respond-2-clause-err g c =
    let p = err_from_is_err_and c.from_residual-in_err-respond-2.result c.from_residual-in_err-respond-2.ensures.1 in
    let order = c.args.order in
    rw (p.1, p.2)
    (failed_read order (g.I.Source.left c.args.input.now) (g.I.Source.left c.read_up_to.new.input) c.in_ok-bytes.bytes.items _ c.in_ok-bytes.ensures.bytes c.in_ok-bytes.ensures.end
    (λ q. subst (λ (bytes : List ℕ). UsesLinks order × IsStarted order bytes) c.deref.ensures.value (c.respond-2.ensures.links_fail (c.in_err-respond-2.was ∙ ap (λ (x : NodeError). Err x) q)))
    (λ q. subst (λ (bytes : List ℕ). UsesDisk order × IsStarted order bytes) c.deref.ensures.value (c.respond-2.ensures.disk_fails (c.in_err-respond-2.was ∙ ap (λ (x : NodeError). Err x) q))))
