use Rattle.std.proofs.Common.{ℕ, ◌∷◌, [], subst, refl}
use Rattle.sha2.specs.Hashers.{Holds256}
use Rattle.iss_request.specs.Formats.{version_byte, spell_batch}
use Rattle.iss_request.specs.declared.requests.Value.TheVariants.{Batch as Value_batch}
use Rattle.iss_request.proofs.FormatLemmas.{holds_spelled}
use Rattle.iss_request.proofs.values.batch_digest.Goals as goal

pub returns : goal.returns
returns c =
    let version = c.args.version in
    let batch = c.args.batch.now in
    let fed = c.hash_batch.ensures _ (c.update-2.ensures _ (c.update.ensures [] c.new-hasher.ensures)) in
    let said = subst (λ (n : ℕ). Holds256 c.hash_batch.new.hasher (0x40 ∷ n ∷ spell_batch version batch))
    c.version_byte.ensures fed in
    rw (holds_spelled version (Value_batch batch) batch refl)
    (c.finalize.ensures (0x40 ∷ version_byte version ∷ spell_batch version batch) said)
