-- The formats and rules of a set-up, with a lawful module, are as the proofs ask.
use Rattle.std.proofs.Common.{ℕ, ◌<◌, ◌≤◌, Bool, true, false, eqb, if◌then◌else◌, sym, subst, arith, lt_of_le_of_lt}
use Rattle.std.proofs.Math.Pow.{pow_mono}
use Rattle.iss_request.specs.Fields.{IsGrammar}
use Rattle.iss_request.specs.Setup.{quorum_of_kind}
use Rattle.iss_request.specs.declared.setups.Kind.{Kind}
use Rattle.iss_request.specs.declared.setups.Kind.TheVariants.{Byzantine, Stopping}
use Rattle.iss_request.specs.declared.setups.Setup.{Setup}
use Rattle.iss_sb.specs.Evidence.{Module}
use Rattle.iss_sb.specs.Laws.{DecidesReadable, IsLawful}
use Rattle.iss_rules.specs.Concrete.{rules_of}
use Rattle.iss_rules.specs.Formats.{formats_of}
use Rattle.iss_rules.specs.Setups.{IsSetupOf}
use Rattle.iss_rules.proofs.Layouts.{sound-rules}
use Rattle.iss_rules.proofs.Windows.{are-windows}
use Rattle.iss_rules.proofs.Written.{faithful}
use Rattle.iss_model.specs.Frames.{frame_of}
use Rattle.iss_theorems.proofs.NoLoss.OnePlaceInCluster.{segments}
use Rattle.iss_rebuilt.specs.Laws.{JournalsRecover, SnapshotsFit}
use Rattle.iss_rebuilt.proofs.Journals.{journals-recover, snapshots-fit}
use Rattle.iss_rebuilt.proofs.Packets.{message-comes, piece-comes, vote-comes}
use Rattle.iss_rebuilt.proofs.Regular.{IsGoodFrame}

-- a quorum is small
kind-few : (k : Kind) (f : ℕ) → f ≤ 3 → quorum_of_kind k f < 256
kind-few Byzantine f le = omega (arith, le)
kind-few Stopping f le = omega (arith, le)

count-few : (b : Bool) (k : Kind) (f : ℕ) → f ≤ 3 → (if b then 2 else quorum_of_kind k f) < 256
count-few true k f le = omega arith
count-few false k f le = kind-few k f le

module _ {Msg : Type 0} (s : Setup) (M : Module Msg) (h : IsSetupOf M s) (law : IsLawful M) (decides : DecidesReadable M)
    (grammar : (version : ℕ) → IsGrammar (M.spell version) (M.parse version)) where
  quorum-few : s.quorum < 256
  quorum-few = subst (λ (n : ℕ). n < 256) (sym h.good.majority) (count-few (eqb s.module 1) s.kind s.f h.good.faults)

  good-frame : IsGoodFrame s (formats_of s M) (rules_of s) M
  good-frame = record {
    sound = sound-rules M s h;
    segments = segments s M h;
    windows = are-windows s;
    law = law;
    decides = decides;
    faithful = faithful s M grammar;
    few = quorum-few;
    keys = lt_of_le_of_lt (pow_mono (h.good.keys_height.1)) (omega arith);
    again = message-comes s M grammar;
    voted = vote-comes s M;
    pieced = piece-comes s M;
  }

  pub recover : JournalsRecover s M
  recover me low spell event_in events have last = journals-recover (frame_of s M) good-frame me low spell event_in events have last

  pub fit : SnapshotsFit s M
  fit me low spell event_in events have = snapshots-fit (frame_of s M) good-frame me low spell event_in events have
