-- An outcome's messages, each signed with the next leaf.
use Rattle.std.proofs.Common.{◌≡◌, ℕ, ◌+◌, List, [], ◌++◌, refl, ap, ◌∙◌}
use Rattle.iss_keys.specs.Directories.{AreKeysOf}
use Rattle.iss_keys.specs.KeyStates.{KeyState}
use Rattle.iss_sb.specs.declared.effects.Params.{Params}
use Rattle.iss_sb.specs.declared.effects.To.{To}
use Rattle.iss_sb.specs.Calls.{AreToNodes}
use Rattle.hs_tree.specs.declared.messages.Message.{Message}
use Rattle.hs_tree.specs.declared.messages.Body.{Body}
use Rattle.sb_chained.specs.declared.outcomes.Taken.{Taken}
use Rattle.sb_chained.specs.Drafts.{AreDrafts}
use Rattle.hs_views.specs.Drafts.{count_of}
use Rattle.sb_chained.specs.Chained.{sign_all}
use Rattle.sb_chained.specs.Internal.Instances.{IsSigned}

pub one-signed : (p : Params) (t : Taken) (before later : KeyState) (empty first : List (To × Message)) → empty ≡ [] → ((me : ℕ) (xs : List (To × Body)) → AreKeysOf me p.setup.keys before → AreDrafts p t.outcome.draft xs → first ≡ empty ++ sign_all p me before.used xs) →
    later ≡ record before { used = before.used + count_of t.outcome.draft } → AreToNodes p.setup.n first → IsSigned p t before later (record { sends = first; accepted = t.accepted; delivers = t.delivers; hashed = t.outcome.hashed })
one-signed p t before later empty first e one used to = record {
  sends = λ me xs own d. one me xs own d ∙ ap (λ (z : List (To × Message)). z ++ sign_all p me before.used xs) e;
  addressed = to;
  accepts = refl;
  delivers = refl;
  hashed = refl;
  used = used;
}
