-- A module that claims nothing and uses no leaf signs with no leaf twice.
use Rattle.std.proofs.Common.{◌≡◌, ℕ, List, [], sym}
use Rattle.iss_base.specs.Lists.{In}
use Rattle.iss_sb.specs.declared.effects.Claim.{Claim}
use Rattle.iss_sb.specs.declared.effects.Input.{Input}
use Rattle.iss_sb.specs.declared.effects.Params.{Params}
use Rattle.iss_sb.specs.Evidence.{Item, Module}
use Rattle.iss_sb.specs.Laws.{SignsOnce}

pub silent-once : {M : Type 0} (m : Module M) → ((p : Params) (from : ℕ) (msg : M) (c : Claim) → In c (m.claims p from msg) → ⊥) →
    ((p : Params) (me : ℕ) (xs : List (Item M)) (i : Input M) (leaf : ℕ) → (m.makes p me xs i leaf).used ≡ 0) → SignsOnce m
silent-once m none unused p me xs i leaf good made =
    record { statements = []; each = sym (unused p me xs i leaf); own = λ c by g. absurd (none p me g.msg c g.holds) }
