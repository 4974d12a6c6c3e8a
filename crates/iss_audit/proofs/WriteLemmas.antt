-- The lines of an epoch are written one after another.
use Rattle.std.proofs.Common.{◌≡◌, ℕ, List, [], ◌∷◌, ◌++◌, map, append_assoc, sym, ap, ◌∙◌}
use Rattle.iss_checkpoint.specs.declared.votes.Cert.{Cert}
use Rattle.iss_request.specs.declared.requests.Value.{Value}
use Rattle.iss_schedule.specs.Words.{ended}
use Rattle.iss_schedule.proofs.BadLines.PrefixesAreRead.{ended-append}
use Rattle.iss_audit.specs.Exports.{cert_line, lines_of, value_line}
use Rattle.iss_audit.proofs.ReadLemmas.{map-push}

-- one more value
pub value-written : (version : ℕ) (vs next : List Value) (v : Value) (start old new : List ℕ) → next ≡ vs ++ v ∷ [] → old ≡ start ++ ended (map (value_line version) vs) → new ≡ (old ++ value_line version v) ++ 10 ∷ [] →
    new ≡ start ++ ended (map (value_line version) next)
value-written version vs next v start old new is so_far more =
    let line = value_line version v in
    let front = map (value_line version) vs in
    more ∙ append_assoc old line (10 ∷ []) ∙ ap (λ (t : List ℕ). t ++ (line ++ 10 ∷ [])) so_far ∙ append_assoc start (ended front) (line ++ 10 ∷ [])
    ∙ ap (λ (t : List ℕ). start ++ t) (sym (ended-append front (line ∷ []))) ∙ ap (λ (ls : List (List ℕ)). start ++ ended ls) (sym (map-push version vs v))
    ∙ ap (λ (us : List Value). start ++ ended (map (value_line version) us)) (sym is)

pub epoch-written : (version : ℕ) (vs : List Value) (c : Cert) (old mid new : List ℕ) → mid ≡ old ++ ended (map (value_line version) vs) → new ≡ (mid ++ cert_line c) ++ 10 ∷ [] → new ≡ old ++ ended (lines_of version vs c)
epoch-written version vs c old mid new values cert =
    cert ∙ append_assoc mid (cert_line c) (10 ∷ []) ∙ ap (λ (t : List ℕ). t ++ (cert_line c ++ 10 ∷ [])) values ∙ append_assoc old (ended (map (value_line version) vs)) (cert_line c ++ 10 ∷ [])
    ∙ ap (λ (t : List ℕ). old ++ t) (sym (ended-append (map (value_line version) vs) (cert_line c ∷ [])))
