use Rattle.std.proofs.Common.{rules, ◌≡◌, ◌<◌, ◌∙◌, ap, refl, subst, ℕ, List, Option, [], IfSome, get_or, take}
use Rattle.iss_journal.specs.SharedViews.{shared_in}
use Rattle.iss_node.specs.Rebuilding.{RebuildingView}
use Rattle.iss_keep.proofs.ReplayLemmas.{finished, read-on, read-stops, still-reads}
use Rattle.iss_keep.proofs.WriteLemmas.{recovers-stopped}
use Rattle.iss_keep.specs.Internal.Replays.{IsRebuiltBy}
use Rattle.iss_keep.proofs.reopening.rebuild.Goals as goal

pub loop-k-init : goal.loop-k-init
loop-k-init g c = (
  (_, c.in-Ok.ensures.refines, refl),
  record { cluster = c.in-Ok.ensures.same.0; number = c.in-Ok.ensures.same.1 },
)

pub loop-k-preserved : goal.loop-k-preserved
loop-k-preserved g c =
    let m = g.M.Sequenced.spec in
    let refines = g.M.Sequenced.refines in
    let lt : c.loop-k.k < c.args.front = search rules in
    let read = get_or (shared_in c.entries-entries.result.now) c.loop-k.k [] in
    let entry : read ≡ get_or c.args.journal.now.entries c.loop-k.k [] =
    ap (λ (es : List (List ℕ)). get_or es c.loop-k.k []) c.entries-entries.ensures in
    let same = subst (λ (o : Option (RebuildingView g.row.M.Denot g.row.M-Msg.Denot)). IfSome o
    (λ v. (v.state.setup ≡ c.loop-k.rebuilding.state.setup) × (v.state.me ≡ c.loop-k.rebuilding.state.me))) c.in-Some.is c.in-Ok-read_at.ensures.same in (
      read-on c.args.setup.now m refines c.args.me c.args.journal.now.entries c.args.front c.requires.front c.loop-k.k lt c.loop-k.rebuilding c.in-Ok-read_at.next read entry
          c.loop-k.invariant.1 c.loop-k.invariant.0 c.in-Ok-read_at.ensures.read c.in-Some.next c.in-Some.is,
      still-reads c.args.setup.now m refines c.args.me c.args.journal.now.entries c.args.front c.requires.front c.loop-k.k lt c.loop-k.rebuilding c.in-Ok-read_at.next read entry
          c.loop-k.invariant.1 c.loop-k.invariant.0 c.in-Ok-read_at.ensures.read c.in-Some.next same,
    )

pub returns-in_default-next : goal.returns-in_default-next
returns-in_default-next g c =
    let lt : c.loop-k.k < c.args.front = search rules in
    let read = get_or (shared_in c.entries-entries.result.now) c.loop-k.k [] in
    let entry : read ≡ get_or c.args.journal.now.entries c.loop-k.k [] =
    ap (λ (es : List (List ℕ)). get_or es c.loop-k.k []) c.entries-entries.ensures in
    recovers-stopped c.args.setup.now g.M.Sequenced.spec c.args.me.0 c.args.journal.now c.damage_at.result _ c.damage_at.ensures
    (read-stops c.args.setup.now g.M.Sequenced.spec g.M.Sequenced.refines c.args.me c.args.journal.now.entries c.args.front c.requires.front c.loop-k.k lt
    c.loop-k.rebuilding c.in-Ok-read_at.next read entry c.loop-k.invariant.1 c.loop-k.invariant.0 c.in-Ok-read_at.ensures.read c.in_default-next.is
    c.args.journal.now.gates _ refl)

pub returns-in-Ok-finish : goal.returns-in-Ok-finish
returns-in-Ok-finish g c =
    let m = g.M.Sequenced.spec in
    let refines = g.M.Sequenced.refines in
    let all : c.loop-k.k ≡ c.args.front = search rules in
    let own = c.loop-k.invariant.1 in
    let core = finished c.args.setup.now m refines c.args.me c.args.journal.now.entries c.args.front c.requires.front c.loop-k.rebuilding c.in-Ok-finish.node c.loop-k.invariant.1
    (subst (λ (n : ℕ). IsRebuiltBy c.args.setup.now m refines c.args.me.0 (take n c.args.journal.now.entries) c.loop-k.rebuilding) all c.loop-k.invariant.0)
    c.in-Ok-finish.ensures.woken in
    record { core = core; same = record { cluster = c.in-Ok-finish.ensures.same.0 ∙ own.cluster; number = c.in-Ok-finish.ensures.same.1 ∙ own.number } }
