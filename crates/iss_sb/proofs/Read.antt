-- What was decoded decodes again from its encoding, and so does a small batch of encodable requests.
use Rattle.std.proofs.Common.{◌≡◌, ◌≤◌, ℕ, List, [], ◌∷◌, ◌++◌, length, refl, sym, ap, subst, ◌∙◌, inl, inr}
use Rattle.std.specs.List.{AllByRecursion, flat_map}
use Rattle.iss_base.specs.Lists.{In}
use Rattle.iss_request.specs.Fields.{Bad, Good, IsGrammar, IsRead, IsReadAgain, IsUnreadable, Parsed, Reading}
use Rattle.iss_request.specs.Parsing.{Parser}
use Rattle.iss_request.specs.Formats.{HasSpelling, parse_value, request_bytes, requests_most, spell_count, spell_value, version_byte}
use Rattle.iss_request.specs.declared.requests.Batch.{Batch}
use Rattle.iss_request.specs.declared.requests.Request.{Request}
use Rattle.iss_request.specs.declared.requests.Value.TheVariants.{Batch as Value_batch}
use Rattle.iss_request.proofs.OneSpelling.{value_grammar, value_related}

bad-good : {A : Type 0} (x : A) (rest : List ℕ) (at : ℕ) → Bad at ≡ Good x rest → ⊥
bad-good x rest at h = cc

pub read-again : {A : Type 0} (spell : A → List ℕ) (parse : List ℕ → Parsed A) → IsGrammar spell parse → (bytes rest : List ℕ) (x : A) → parse bytes ≡ Good x rest → IsReadAgain spell parse x
read-again spell parse grammar bytes rest x h = elim (grammar.whole x) [
  | inl y ↦ y
  | inr n ↦ let b = n rest in absurd (bad-good x rest b.0 (sym b.1 ∙ (ap parse (sym (grammar.only bytes rest x h)) ∙ h)))
]

each-spelled : (b : List Request) → ((q : Request) → In q b → HasSpelling q) → AllByRecursion HasSpelling b
each-spelled [] h = tt
each-spelled (q ∷ qs) h = (h q (inl refl), each-spelled qs (λ r i. h r (inr i)))

pub batch-read : (version : ℕ) (b : Batch) → length b ≤ requests_most version → ((q : Request) → In q b → HasSpelling q) → IsReadAgain (spell_value version) (parse_value version) (Value_batch b)
batch-read version b few h =
    let bytes = version_byte version ∷ spell_count version (length b) ++ flat_map request_bytes b in
    read-again (spell_value version) (parse_value version) (value_grammar version) bytes [] (Value_batch b) ((value_related version (Value_batch b) bytes).1 (few, each-spelled b h, refl))

-- readers of one version give the same result
pub read-by : {A : Type 0} (p : ℕ → Parser A) {v w : ℕ} {a b : Reading} {x : A} → v ≡ w → IsRead (p v) a b x → IsRead (p w) a b x
read-by p {v} {w} {a} {b} {x} e r = subst (λ (n : ℕ). IsRead (p n) a b x) e r

pub unread-by : {A : Type 0} (p : ℕ → Parser A) {v w : ℕ} {a : Reading} {at : ℕ} → v ≡ w → IsUnreadable (p v) a at → IsUnreadable (p w) a at
unread-by p {v} {w} {a} {at} e u = subst (λ (n : ℕ). IsUnreadable (p n) a at) e u
