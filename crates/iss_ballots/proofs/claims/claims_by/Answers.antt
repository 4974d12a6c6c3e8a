use Rattle.std.proofs.Common.{◌∙◌, ◌<◌, ◌∷◌, ◌++◌, [], ℕ, List, ap, arith, length, take}
use Rattle.iss_ballots.proofs.PacketLemmas.{claims-next}
use Rattle.iss_rules.specs.Votes.{claims_by}
use Rattle.iss_sb.specs.declared.effects.Claim.{Claim}
use Rattle.iss_ballots.proofs.claims.claims_by.Goals as goal

pub loop-signed-preserved : goal.loop-signed-preserved
loop-signed-preserved c =
    let x = c.signed-item.result in
    let i = c.loop-signed.signed-index in
    let before = claims_by c.args.statement.now (take i c.args.signers.now) in
    let lt : i < length c.args.signers.now = omega (arith, c.loop-signed-test.true) in
    let one : List ℕ → List ℕ → Claim = λ statement sig. record { by = x.by; statement = statement; sig = sig } in
    c.in_ok-push.ensures.ok
    ∙ ap (λ (cs : List Claim). cs ++ one c.in_ok-statement.statement c.in_ok-sig.sig ∷ []) c.loop-signed.invariant
    ∙ ap (λ (st : List ℕ). before ++ one st c.in_ok-sig.sig ∷ []) c.in_ok-statement.ensures
    ∙ ap (λ (sig : List ℕ). before ++ one c.args.statement.now sig ∷ []) c.in_ok-sig.ensures
    ∙ claims-next c.args.statement.now c.args.signers.now i x lt c.signed-item.is
