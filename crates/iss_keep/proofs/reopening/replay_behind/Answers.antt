use Rattle.std.proofs.Common.{rules, arith, ◌≡◌, ◌<◌, ◌≤◌, Bool, true, false, Ok, ap, refl, sym, length, ℕ, List, [], get_or}
use Rattle.iss_journal.specs.SharedViews.{shared_in}
use Rattle.iss_request.specs.declared.setups.Setup.{Setup}
use Rattle.iss_rebuilt.specs.Reading.{Rebuilt}
use Rattle.iss_keep.proofs.ReplayLemmas.{replay-end, replay-on, replay-stops, still-of, went}
use Rattle.iss_keep.proofs.WriteLemmas.{recovers-stopped}
use Rattle.iss_keep.specs.Internal.Replays.{GoesTo, IsFound}
use Rattle.iss_keep.proofs.reopening.replay_behind.Goals as goal

pub loop-k-init : goal.loop-k-init
loop-k-init g c = (c.requires.at.core, c.requires.at.same, omega arith)

pub replay_at-requires-clause-n : goal.replay_at-requires-clause-n
replay_at-requires-clause-n g c = sym (ap (λ (s : Setup). s.n) c.loop-k.invariant.1.cluster)

pub loop-k-preserved : goal.loop-k-preserved
loop-k-preserved g c =
    let lt : c.loop-k.k < length c.args.journal.now.entries = search rules in
    let read = get_or (shared_in c.entries-entries.result.now) c.loop-k.k [] in
    let entry : read ≡ get_or c.args.journal.now.entries c.loop-k.k [] =
    ap (λ (es : List (List ℕ)). get_or es c.loop-k.k []) c.entries-entries.ensures in
    let took : c.replay_at.result ≡ Ok true = search rules in
    let behind = c.loop-k.invariant.2 in
    let old = c.loop-k.node in (
      replay-on c.args.setup.now g.M.Sequenced.spec g.M.Sequenced.refines c.args.node.now.state.me c.args.journal.now.entries c.args.front c.requires.front c.requires.stay
          c.loop-k.k behind lt old c.replay_at.new.node read entry c.loop-k.invariant.1 c.loop-k.invariant.0
          (went c.replay_at.result true
          (λ (b : Bool). (found : Rebuilt g.row.M-Msg.Denot) → IsFound g.M.Sequenced.spec g.M.Sequenced.refines old found →
          GoesTo old.state.setup g.M.Sequenced.spec g.M.Sequenced.refines old.state.me.0 found read c.replay_at.new.node b)
          took c.replay_at.ensures.goes),
      still-of c.args.setup.now c.args.node.now.state.me old c.replay_at.new.node c.loop-k.invariant.1 c.replay_at.ensures.same,
      omega (arith, behind),
    )

pub returns-then-not-taken-clause-recovered : goal.returns-then-not-taken-clause-recovered
returns-then-not-taken-clause-recovered g c =
    let lt : c.loop-k.k < length c.args.journal.now.entries = search rules in
    let read = get_or (shared_in c.entries-entries.result.now) c.loop-k.k [] in
    let entry : read ≡ get_or c.args.journal.now.entries c.loop-k.k [] =
    ap (λ (es : List (List ℕ)). get_or es c.loop-k.k []) c.entries-entries.ensures in
    let took : c.replay_at.result ≡ Ok false = search rules in
    let old = c.loop-k.node in
    recovers-stopped c.args.setup.now g.M.Sequenced.spec c.args.node.now.state.me.0 c.args.journal.now c.damage_at.result _ c.damage_at.ensures
    (replay-stops c.args.setup.now g.M.Sequenced.spec g.M.Sequenced.refines c.args.node.now.state.me c.args.journal.now.entries c.args.front c.requires.front c.requires.stay
    c.loop-k.k c.loop-k.invariant.2 lt old c.replay_at.new.node read entry c.loop-k.invariant.1 c.loop-k.invariant.0
    (went c.replay_at.result false
    (λ (b : Bool). (found : Rebuilt g.row.M-Msg.Denot) → IsFound g.M.Sequenced.spec g.M.Sequenced.refines old found →
    GoesTo old.state.setup g.M.Sequenced.spec g.M.Sequenced.refines old.state.me.0 found read c.replay_at.new.node b)
    took c.replay_at.ensures.goes)
    c.args.journal.now.gates _ refl)

pub returns-clause-recovered : goal.returns-clause-recovered
returns-clause-recovered g c =
    let all : length c.args.journal.now.entries ≤ c.loop-k.k = search rules in
    record {
      core = replay-end c.args.setup.now g.M.Sequenced.spec g.M.Sequenced.refines c.args.node.now.state.me c.args.journal.now.entries c.loop-k.k _ all c.loop-k.invariant.0;
      same = c.loop-k.invariant.1;
    }

pub returns-clause-same : goal.returns-clause-same
returns-clause-same g c = c.loop-k.invariant.1
