-- Digests, strings and statements determine what they are of.
use Rattle.std.proofs.Common.{◌≡◌, ℕ, true, ◌==◌, List, [], ◌++◌, sym, ap, ◌∙◌, inl, inr}
use Rattle.std.proofs.lemmas.Bool.Decides.{Decides-eqb}
use Rattle.iss_request.specs.Fields.{Good}
use Rattle.iss_request.specs.Formats.{parse_value, spell_value}
use Rattle.iss_request.specs.declared.requests.Batch.{Batch}
use Rattle.iss_request.specs.declared.requests.Value.TheVariants.{Batch as Value_batch}
use Rattle.iss_request.proofs.OneSpelling.{value_grammar}
use Rattle.iss_sb.specs.declared.effects.Params.{Params}
use Rattle.iss_sb.specs.Evidence.{IsReadBatch}
use Rattle.iss_sb.proofs.Fields.{good-bad}
use Rattle.sb_echo.specs.Echo.{string_of}

pub is-same : (a b : ℕ) → (a == b) ≡ true → a ≡ b
is-same a b h = (Decides-eqb a b).0 h

pub same-is : (a b : ℕ) → a ≡ b → (a == b) ≡ true
same-is a b h = (Decides-eqb a b).1 h

-- ---- strings

good-holds : (b c : Batch) (x y : List ℕ) → Good (Value_batch b) x ≡ Good (Value_batch c) y → b ≡ c
good-holds b c x y h = cc

-- it is enough that one of the batches decodes from its encoding
pub one-batch : (p : Params) (b c : Batch) → IsReadBatch p b → string_of p b ≡ string_of p c → b ≡ c
one-batch p b c h e =
    let v : ℕ = p.setup.version in
    let same : spell_value v (Value_batch b) ≡ spell_value v (Value_batch c) = cc in
    let read : parse_value v (spell_value v (Value_batch c) ++ []) ≡ Good (Value_batch b) [] = ap (λ (s : List ℕ). parse_value v (s ++ [])) (sym same) ∙ h [] in
    elim ((value_grammar v).whole (Value_batch c)) [
      | inl good ↦ good-holds b c [] [] (sym read ∙ good [])
      | inr bad ↦ let k = bad [] in absurd (good-bad (Value_batch b) [] k.0 (sym read ∙ k.1))
    ]
