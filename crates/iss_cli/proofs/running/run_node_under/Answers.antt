use Rattle.std.proofs.Common.{◌≡◌, ◌∙◌, ℕ, MutBor, IsErrOf, rules, sym, ap, subst}
use Rattle.iss_disk.specs.Calls.{HasCause as DiskCause}
use Rattle.iss_loops.specs.declared.errors.NodeError.TheVariants.{DiskFault}
use Rattle.iss_request.specs.declared.ids.NodeId.{NodeId}
use Rattle.iss_cli.proofs.RunningLemmas.{disk-failed, of-node-at, printed-disk, same-loan}
use Rattle.iss_cli.proofs.running.run_node_under.Goals as goal

pub returns-clause-ok : goal.returns-clause-ok
returns-clause-ok g c =
    let loan : c.into_disk-disk.result.ghost_name ≡ c.of-arg-1.given =
    ap (λ (r : MutBor g.row.D.Denot). r.ghost_name) c.into_disk-disk.ensures ∙ same-loan _ _ _ _ c.node-ran.ensures.place ∙ ap (λ (r : MutBor g.row.D.Denot). r.ghost_name) c.of-running.ensures.disk in
    let back : c.into_disk-disk.result.now ≡ c.disk-1.given.0 = search rules in
    rw (← c.config-config.ensures.same)
    (of-node-at g.M.Sequenced.spec c.config-config.result.now c.args.me.0 _ (g.L.Links.ends c.args.links.now) (g.L.Links.ends c.node-ran.new.links) (g.D.Disk.state c.args.disk.now).history _ (g.D.Disk.state c.disk-1.given.0).history _
    c.node-ran.result c.print_ran.result (ap (λ (i : NodeId). i.0) (c.of-running.ensures.same.1 ∙ c.in_ok-fresh.ensures.1)) (ap (λ (r : MutBor g.row.D.Denot). (g.D.Disk.state r.now).history) c.of-running.ensures.disk)
    (ap (λ (r : MutBor g.row.D.Denot). (g.D.Disk.state r.now).history) (sym c.into_disk-disk.ensures) ∙ ap (λ (d : g.row.D.Denot). (g.D.Disk.state d).history) back) c.print_ran.ensures.printed c.node-ran.ensures.run c.node-ran.ensures.damaged)

pub returns-clause-disk : goal.returns-clause-disk
returns-clause-disk g c =
    let loan : c.into_disk-disk.result.ghost_name ≡ c.of-arg-1.given =
    ap (λ (r : MutBor g.row.D.Denot). r.ghost_name) c.into_disk-disk.ensures ∙ same-loan _ _ _ _ c.node-ran.ensures.place ∙ ap (λ (r : MutBor g.row.D.Denot). r.ghost_name) c.of-running.ensures.disk in
    let back : c.into_disk-disk.result.now ≡ c.disk-1.given.0 = search rules in
    let F = IsErrOf c.print_ran.result DiskFault in
    subst (λ (n : ℕ). DiskCause n (g.D.Disk.state c.disk-1.given.0).faults F) (ap (λ (r : MutBor g.row.D.Denot). (g.D.Disk.state r.now).faults) c.of-running.ensures.disk)
    (subst (λ (n : ℕ). DiskCause (g.D.Disk.state c.of-running.result.disk.now).faults n F) (ap (λ (r : MutBor g.row.D.Denot). (g.D.Disk.state r.now).faults) (sym c.into_disk-disk.ensures) ∙ ap (λ (d : g.row.D.Denot). (g.D.Disk.state d).faults) back)
    (disk-failed F _ _ c.node-ran.result _ (printed-disk c.node-ran.result c.print_ran.result c.print_ran.ensures.printed) c.node-ran.ensures.disk))
