-- What the two worlds of PBFT share: nil's digest has an encoding, and the strings are separate.
use Rattle.std.proofs.Common.{◌≡◌, ◌⊎◌, ◌&&◌, ℕ, true, List, [], length, inl, inr}
use Rattle.std.specs.Prelude.{◌==◌}
use Rattle.std.proofs.lemmas.Bool.{eq-eqb}
use Rattle.iss_base.proofs.Lists.{both}
use Rattle.iss_request.specs.Formats.{is_signature}
use Rattle.iss_request.specs.declared.requests.Value.TheVariants.{Nil as Value_nil}
use Rattle.iss_sb.specs.Evidence.{World, IsHashed, IsString, Separate}
use Rattle.iss_sb.specs.Statements.{signature}
use Rattle.pbft_wire.specs.declared.messages.Message.{Message}
use Rattle.pbft_views.proofs.Statements.{digest-length}
use Rattle.sb_pbft.proofs.Examples.FourReplicas.{nil, p}
use Rattle.sb_pbft.proofs.Examples.ByzantineRun.{shape}
use Rattle.sb_pbft.proofs.Examples.PremisesAreMet.{OneOf, one-string}

pub nil-fit : (k leaf : ℕ) (st : List ℕ) → ((length nil == 32) && is_signature (signature p k leaf st)) ≡ true
nil-fit k leaf st = both _ _ (eq-eqb (length nil) 32 (digest-length p Value_nil)) (shape k leaf st)

-- strings of which each is one of the two are separate
pub two-are-separate : (w : World Message) → ((s : List ℕ) → IsHashed w s → OneOf s) → Separate (IsString w)
two-are-separate w of x y h k e = one-string x y (is-one x h) (is-one y k) e
  where
    is-one : (s : List ℕ) → IsString w s → (s ≡ []) ⊎ OneOf s
    is-one s (inl z) = inl z
    is-one s (inr z) = inr (of s z)
