-- Decoding the encoding of a request or value gives it back.
use Rattle.std.proofs.Common.{◌≡◌, ◌≢◌, ℕ, ◌^◌, ◌<◌, ◌≤◌, Bool, true, false, cond, eqb, ltb, ◌&&◌, ◌||◌, List, [], ◌∷◌, ◌++◌, length, refl, sym, ap, subst, ◌∙◌, append_assoc}
use Rattle.std.specs.Prelude.{Result, Ok, Err, OnOk}
use Rattle.std.specs.Int.{w16, to_be_bytes}
use Rattle.std.specs.List.{flat_map}
use Rattle.std.proofs.lemmas.Bool.{lt-ltb, le-leb, lt-leb, ne_eqb}
use Rattle.iss_request.specs.Fields.{Reading, Written, and_bytes, IsRead, IsUnreadable}
use Rattle.iss_request.specs.Parsing.{Parser, ◌>>=◌, done, byte, number}
use Rattle.iss_request.specs.Formats.{is_second, version_byte, requests_most, is_signature, has_spelling, request_bytes, no_request, no_batch}
use Rattle.iss_request.specs.Formats.{spell_request, spell_count, spell_batch, spell_value, count_field, parse_batch, is_first, parse_rest, parse_value}
use Rattle.iss_request.specs.declared.errors.NoMemory.{NoMemory}
use Rattle.iss_request.specs.declared.requests.Request.{Request}
use Rattle.iss_request.specs.declared.requests.Value.{Value}
use Rattle.iss_request.specs.declared.requests.Value.TheVariants.{Nil as Value_nil, Batch as Value_batch}
use Rattle.iss_request.proofs.Readings.{read_then, unread_first, unread_then, read_done, read_passed}

-- ---- the first byte of a value

first_of : (version : ℕ) (second : Bool) → (eqb (cond second 2 1) 0 || eqb (cond second 2 1) (cond second 2 1)) ≡ true
first_of version true = refl
first_of version false = refl

pub batch_first : (version : ℕ) → is_first version (version_byte version) ≡ true
batch_first version = first_of version (is_second version)

pub other_first : (version n : ℕ) → n ≢ 0 → n ≢ version_byte version → is_first version n ≡ false
other_first version n nil batch = rw (ne_eqb n 0 nil, ne_eqb n (version_byte version) batch) refl

rest_of : (version : ℕ) (second : Bool) →
    parse_rest version (cond second 2 1) ≡ (parse_batch version >>= λ b. done (Value_batch b))
unfolding parse_rest
rest_of version true = refl
rest_of version false = refl

-- what is read after the first byte of a batch
pub batch_rest : (version : ℕ) →
    parse_rest version (version_byte version) ≡ (parse_batch version >>= λ b. done (Value_batch b))
batch_rest version = rest_of version (is_second version)

-- ---- reading a value

pub nil_read : (a b : Reading) (first : ℕ) → first ≡ 0 → IsRead byte a b first → IsRead (parse_value a.version) a b Value_nil
unfolding parse_value parse_rest
nil_read a b first e r =
    let zero_read : IsRead byte a b 0 = subst (λ (n : ℕ). IsRead byte a b n) e r in
    read_then _ _ (read_passed _ _ zero_read refl) (read_done _ _)

pub batch_read : (a b c : Reading) (first : ℕ) (batch : List Request) → first ≡ version_byte a.version →
    IsRead byte a b first → IsRead (parse_batch b.version) b c batch →
    IsRead (parse_value a.version) a c (Value_batch batch)
unfolding parse_value
batch_read a b c first batch e r s =
    let byte_read : IsRead byte a b (version_byte a.version) = subst (λ (n : ℕ). IsRead byte a b n) e r in
    let requests_read : IsRead (parse_batch a.version) b c batch =
    subst (λ (v : ℕ). IsRead (parse_batch v) b c batch) r.version s in
    read_then _ _ (read_passed _ _ byte_read (batch_first a.version))
    (subst (λ (p : Parser Value). IsRead p b c (Value_batch batch)) (sym (batch_rest a.version))
    (read_then _ _ requests_read (read_done _ _)))

pub batch_unread : (a b : Reading) (first at : ℕ) → first ≡ version_byte a.version → IsRead byte a b first →
    IsUnreadable (parse_batch b.version) b at → IsUnreadable (parse_value a.version) a at
unfolding parse_value
batch_unread a b first at e r u =
    let byte_read : IsRead byte a b (version_byte a.version) = subst (λ (n : ℕ). IsRead byte a b n) e r in
    let requests_unread : IsUnreadable (parse_batch a.version) b at =
    subst (λ (v : ℕ). IsUnreadable (parse_batch v) b at) r.version u in
    unread_then _ _ (read_passed _ _ byte_read (batch_first a.version))
    (subst (λ (p : Parser Value). IsUnreadable p b at) (sym (batch_rest a.version)) (unread_first _ _ requests_unread))

-- ---- the count of a batch

pub second_field : (version : ℕ) → true ≡ is_second version → count_field version ≡ number w16
unfolding count_field
second_field version e = rw (sym e) refl

pub first_field : (version : ℕ) → false ≡ is_second version → count_field version ≡ byte
unfolding count_field
first_field version e = rw (sym e) refl

pub second_count : (version n : ℕ) → true ≡ is_second version → spell_count version n ≡ to_be_bytes w16 n
unfolding spell_count
second_count version n e = rw (sym e) refl

pub first_count : (version n : ℕ) → false ≡ is_second version → spell_count version n ≡ n ∷ []
unfolding spell_count
first_count version n e = rw (sym e) refl

-- ---- what has no encoding

pub request_test : (r : Request) (b : Bool) → r.id.number < 2 ^ 32 → length r.payload ≤ 256 → b ≡ is_signature r.sig →
    b ≡ has_spelling r
request_test r b lt le e = rw (lt-ltb r.id.number (2 ^ 32) lt, le-leb (length r.payload) 256 le) e

and_false : (b : Bool) → (b && false) ≡ false
and_false true = refl
and_false false = refl

pub long_payload : (r : Request) → 256 < length r.payload → false ≡ has_spelling r
long_payload r lt = rw (lt-leb (length r.payload) 256 lt) (sym (and_false (ltb r.id.number (2 ^ 32))))

pub request_spelled : (r : Request) → true ≡ has_spelling r → spell_request r ≡ request_bytes r
unfolding spell_request
request_spelled r e = rw (sym e) refl

pub request_unspelled : (r : Request) → false ≡ has_spelling r → spell_request r ≡ no_request
unfolding spell_request
request_unspelled r e = rw (sym e) refl

pub batch_unspelled : (version : ℕ) (b : List Request) → requests_most version < length b →
    spell_batch version b ≡ no_batch
unfolding spell_batch
batch_unspelled version b lt = rw (lt-leb (length b) (requests_most version) lt) refl

pub batch_spelled : (version : ℕ) (b : List Request) → length b ≤ requests_most version →
    spell_batch version b ≡ spell_count version (length b) ++ flat_map spell_request b
unfolding spell_batch
batch_spelled version b le = rw (le-leb (length b) (requests_most version) le) refl

pub nil_spelled : (version : ℕ) (v : Value) → v ≡ Value_nil → spell_value version v ≡ 0 ∷ []
unfolding spell_value
nil_spelled version v e = rw e refl

pub holds_spelled : (version : ℕ) (v : Value) (b : List Request) → v ≡ Value_batch b →
    spell_value version v ≡ version_byte version ∷ spell_batch version b
unfolding spell_value
holds_spelled version v b e = rw e refl

-- one piece written after another
pub both_written : (r : Result (Unit {0}) NoMemory) (old mid new : Written) (xs ys : List ℕ) → mid ≡ and_bytes old xs →
    OnOk r (new ≡ and_bytes mid ys) → OnOk r (new ≡ and_bytes old (xs ++ ys))
both_written (Ok u) old mid new xs ys e h = h ∙ ap (λ (m : Written). and_bytes m ys) e
    ∙ ap (λ (z : List ℕ). record old { bytes = z }) (append_assoc old.bytes xs ys)
both_written (Err d) old mid new xs ys e h = h

-- the same if the version decides the second piece
pub versioned_written : (r : Result (Unit {0}) NoMemory) (old mid new : Written) (xs : List ℕ) (spelled : ℕ → List ℕ) →
    mid ≡ and_bytes old xs → OnOk r (new ≡ and_bytes mid (spelled mid.version)) →
    OnOk r (new ≡ and_bytes old (xs ++ spelled old.version))
versioned_written r old mid new xs spelled e h =
    both_written r old mid new xs (spelled old.version) e
    (subst (λ (v : ℕ). OnOk r (new ≡ and_bytes mid (spelled v))) (ap (λ (w : Written). w.version) e) h)

-- a batch written after its first byte
pub holds_written : (r : Result (Unit {0}) NoMemory) (old mid new : Written) (v : Value) (b : List Request)
    (first : ℕ) → v ≡ Value_batch b → first ≡ version_byte old.version → mid ≡ and_bytes old (first ∷ []) →
    OnOk r (new ≡ and_bytes mid (spell_batch mid.version b)) → OnOk r (new ≡ and_bytes old (spell_value old.version v))
holds_written r old mid new v b first is e m h =
    rw (holds_spelled old.version v b is)
    (versioned_written r old mid new (version_byte old.version ∷ []) (λ version. spell_batch version b)
    (subst (λ (n : ℕ). mid ≡ and_bytes old (n ∷ [])) e m) h)

pub five_parts : (m : List ℕ) (x : ℕ) (a b c d : List ℕ) →
    ((((m ++ x ∷ []) ++ a) ++ b) ++ c) ++ d ≡ m ++ (x ∷ (a ++ b ++ c ++ d))
five_parts m x a b c d = simp append_assoc
