-- The fields of a content, written one after another, and numbers that are no kind.
use Rattle.std.proofs.Common.{◌≡◌, ◌≢◌, ℕ, false, [], ◌∷◌, append_assoc, arith}
use Rattle.std.proofs.lemmas.Bool.{lt-leb}
use Rattle.iss_request.specs.Fields.{Written, and_bytes}
use Rattle.iss_request.specs.Formats.{spell_value}
use Rattle.iss_request.specs.declared.requests.Batch.{Batch}
use Rattle.iss_request.specs.declared.requests.Value.TheVariants.{Batch as Value_batch}
use Rattle.iss_sb.specs.Content.{is_kind, spell_content}
use Rattle.iss_sb.specs.declared.content.Content.TheVariants.{Holds}

pub holds-written : (batch : Batch) (a b c : Written) → b ≡ and_bytes a (1 ∷ []) → c ≡ and_bytes b (spell_value b.version (Value_batch batch)) → c ≡ and_bytes a (spell_content a.version (Holds batch))
holds-written batch a b c hb hc = rw (hc, hb) (simp append_assoc)

pub no-kind : (n : ℕ) → n ≢ 0 → n ≢ 1 → n ≢ 2 → is_kind n ≡ false
no-kind n a b c = lt-leb n 2 (omega (arith, a, b, c))
