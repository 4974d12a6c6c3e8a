-- Requests and values have at most one encoding each.
use Rattle.std.proofs.Common.{◌≡◌, ℕ, zero, suc, ◌+◌, ◌*◌, ◌^◌, ◌<◌, ◌≤◌, Bool, true, false, cond, ltb, leb, eqb, ◌&&◌, ◌||◌, List, [], ◌∷◌, ◌++◌, length, take, drop, refl, sym, ap, subst, ◌∙◌, append_assoc, arith, inl, inr, ◌⊎◌, eqb-true, eq-eqb, append-nil}
use Rattle.std.specs.Prelude.{◌↔◌, slice_index}
use Rattle.std.specs.List.{AllByRecursion, flat_map}
use Rattle.std.specs.Int.{w16, w32, to_be_bytes}
use Rattle.std.proofs.lemmas.Bool.{cases_lt, ne_eqb, ltb-true, leb-true, lt-ltb, le-leb}
use Rattle.std.proofs.lemmas.List.{take-append-drop, length-append, length-take, length-drop}
use Rattle.iss_base.proofs.Lists.{and-true}
use Rattle.iss_request.specs.Fields.{Good, Bad, IsBad, IsGrammar}
use Rattle.iss_request.specs.Parsing.{Parser, done, such_that, byte, number, block, times}
use Rattle.iss_base.specs.Heights.{IsHeight, digests_of_height, is_height, signature_length}
use Rattle.iss_base.proofs.HeightLemmas.{height-tested}
use Rattle.iss_request.specs.Formats.{is_second, version_byte, requests_most, HasSpelling, IsSpelledRequest, IsSpelledValue, is_signature, has_spelling, request_bytes, no_request, no_batch}
use Rattle.iss_request.specs.Formats.{spell_request, spell_count, spell_batch, spell_value, parse_payload, parse_signature, parse_request, count_field, parse_count, parse_batch, is_first, parse_rest, parse_value}
use Rattle.iss_request.specs.declared.requests.Request.{Request}
use Rattle.iss_request.specs.declared.requests.Value.{Value}
use Rattle.iss_request.specs.declared.requests.Value.TheVariants.{Nil as Value_nil, Batch as Value_batch}
use Rattle.iss_request.proofs.ParserLemmas.{then_good, then_bad, first_bad, then_parts, done_parts, test_passed, test_failed, test_parts, byte_again, byte_parts, wide16, wide32, number_again, number_parts, block_again, block_parts, digests_again, digests_parts}
use Rattle.iss_request.proofs.FormatLemmas.{request_spelled, request_unspelled, batch_first, batch_rest, batch_spelled, batch_unspelled}

pub done_good : {A : Type 0} (x : A) (bytes : List ℕ) → done x bytes ≡ Good x bytes
unfolding done
done_good x bytes = refl

-- ---- payloads

abbrev short : ℕ → Bool
short n = leb n 256

payload_again : (payload rest : List ℕ) → length payload ≤ 256 →
    parse_payload (to_be_bytes w16 (length payload) ++ (payload ++ rest)) ≡ Good payload rest
unfolding parse_payload
payload_again payload rest le =
    let size = number_again w16 (2 ^ 16) wide16 (length payload) (payload ++ rest) (omega arith) in
    then_good _ _ _ (payload ++ rest) rest (length payload) payload
    (test_passed short (number w16) _ _ (length payload) size (le-leb (length payload) 256 le))
    (block_again payload rest (length payload) refl)

record IsPayload (bytes rest payload : List ℕ) : Type 0 where
  pub parts : bytes ≡ to_be_bytes w16 (length payload) ++ (payload ++ rest)
  pub short : length payload ≤ 256

payload_parts : (bytes rest payload : List ℕ) → parse_payload bytes ≡ Good payload rest → IsPayload bytes rest payload
unfolding parse_payload
payload_parts bytes rest payload e =
    let both = then_parts _ _ bytes rest payload e in
    let size = test_parts short (number w16) bytes both.mid both.thing both.first in
    let front = number_parts w16 (2 ^ 16) wide16 bytes both.mid both.thing size.0 in
    let back = block_parts both.thing both.mid rest payload both.second in
    record {
      parts = rw back.len (front.parts ∙ ap (λ (x : List ℕ). to_be_bytes w16 both.thing ++ x) back.parts);
      short = rw back.len (leb-true both.thing 256 size.1);
    }

-- ---- signatures

record IsShaped (height : ℕ) (rest : List ℕ) : Type 0 where
  pub tall : is_height height ≡ true
  pub long : length rest ≡ 4 + 32 * digests_of_height height

shaped : (h : ℕ) (rest : List ℕ) → is_signature (h ∷ rest) ≡ true → IsShaped h rest
shaped h rest e =
    let both = and-true (is_height h) (eqb (length rest) (4 + 32 * digests_of_height h)) e in
    record { tall = both.0; long = eqb-true _ _ both.1 }

-- bytes of a key's height and of the length that it fixes have the shape of a signature
pub signature_shaped : (h : ℕ) (sig : List ℕ) → IsHeight h → length sig ≡ signature_length h → slice_index sig 0 ≡ h →
    is_signature sig ≡ true
signature_shaped h [] high long first = absurd (omega (arith, long))
signature_shaped h (x ∷ rest) high long first =
    let is : x ≡ h = first in
    let size : length rest ≡ 4 + 32 * digests_of_height h = omega (arith, long) in
    rw (is, height-tested h high) (eq-eqb (length rest) (4 + 32 * digests_of_height h) size)

pub signature_again : (sig rest : List ℕ) → is_signature sig ≡ true → parse_signature (sig ++ rest) ≡ Good sig rest
unfolding parse_signature
signature_again [] rest e = absurd cc
signature_again (h ∷ tail) rest e =
    let shape = shaped h tail e in
    let leaf = take 4 tail in
    let nodes = drop 4 tail in
    let leaf_len : length leaf ≡ 4 = omega (arith, length-take 4 tail, shape.long) in
    let nodes_len : length nodes ≡ 32 * digests_of_height h = omega (arith, length-drop 4 tail, shape.long) in
    let split : tail ++ rest ≡ leaf ++ (nodes ++ rest) = ap (λ (x : List ℕ). x ++ rest) (sym (take-append-drop 4 tail))
    ∙ append_assoc leaf nodes rest in
    let whole : h ∷ leaf ++ nodes ≡ h ∷ tail = ap (λ (x : List ℕ). h ∷ x) (take-append-drop 4 tail) in
    let height_read = test_passed is_height byte (h ∷ (tail ++ rest)) (tail ++ rest) h
    (byte_again h (tail ++ rest)) shape.tall in
    let leaf_read : block 4 (tail ++ rest) ≡ Good leaf (nodes ++ rest) = ap (block 4) split
    ∙ block_again leaf (nodes ++ rest) 4 leaf_len in
    let nodes_read = digests_again nodes rest (digests_of_height h) nodes_len in
    let end_read : done (h ∷ leaf ++ nodes) rest ≡ Good (h ∷ tail) rest = ap (λ (x : List ℕ). done x rest) whole
    ∙ done_good (h ∷ tail) rest in
    then_good _ _ _ (tail ++ rest) rest h (h ∷ tail) height_read
    (then_good _ _ _ (nodes ++ rest) rest leaf (h ∷ tail) leaf_read
    (then_good _ _ _ rest rest nodes (h ∷ tail) nodes_read end_read))

pub record IsSigned (bytes rest sig : List ℕ) : Type 0 where
  pub parts : bytes ≡ sig ++ rest
  pub shape : is_signature sig ≡ true

pub signature_parts : (bytes rest sig : List ℕ) → parse_signature bytes ≡ Good sig rest → IsSigned bytes rest sig
unfolding parse_signature
signature_parts bytes rest sig e =
    let a = then_parts _ _ bytes rest sig e in
    let b = then_parts _ _ a.mid rest sig a.second in
    let c = then_parts _ _ b.mid rest sig b.second in
    let d = done_parts (a.thing ∷ b.thing ++ c.thing) sig c.mid rest c.second in
    let height = test_parts is_height byte bytes a.mid a.thing a.first in
    let front = byte_parts bytes a.mid a.thing height.0 in
    let leaf = block_parts 4 a.mid b.mid b.thing b.first in
    let nodes = digests_parts (digests_of_height a.thing) b.mid c.mid c.thing c.first in
    let tail : a.mid ≡ (b.thing ++ c.thing) ++ rest = leaf.parts
    ∙ ap (λ (x : List ℕ). b.thing ++ x) (nodes.parts ∙ ap (λ (x : List ℕ). c.thing ++ x) d.1)
    ∙ sym (append_assoc b.thing c.thing rest) in
    let long : length (b.thing ++ c.thing) ≡ 4 + 32 * digests_of_height a.thing =
    omega (arith, length-append b.thing c.thing, leaf.len, nodes.len) in
    record {
      parts = rw (← d.0) (front ∙ ap (λ (x : List ℕ). a.thing ∷ x) tail);
      shape = rw (← d.0) (rw (height.1, eq-eqb _ _ long) refl);
    }

-- ---- requests

request_bytes_again : (r : Request) (rest : List ℕ) → has_spelling r ≡ true →
    parse_request (request_bytes r ++ rest) ≡ Good r rest
unfolding parse_request
request_bytes_again r rest e =
    let fits = and-true (ltb r.id.number (2 ^ 32)) (short (length r.payload) && is_signature r.sig) e in
    let shape = and-true (short (length r.payload)) (is_signature r.sig) fits.1 in
    let tail = r.sig ++ rest in
    let size = to_be_bytes w16 (length r.payload) in
    let regrouped : request_bytes r
    ++ rest ≡ r.id.client ∷ (to_be_bytes w32 r.id.number ++ (size ++ (r.payload ++ tail))) = simp append_assoc in
    let number_read = number_again w32 (2 ^ 32) wide32 r.id.number (size ++ (r.payload ++ tail))
    (ltb-true _ _ fits.0) in
    let payload_read = payload_again r.payload tail (leb-true _ _ shape.0) in
    let sig_read = signature_again r.sig rest shape.1 in
    ap parse_request regrouped ∙
    then_good _ _ _ (to_be_bytes w32 r.id.number ++ (size ++ (r.payload ++ tail))) rest r.id.client r
    (byte_again r.id.client _)
    (then_good _ _ _ (size ++ (r.payload ++ tail)) rest r.id.number r number_read
    (then_good _ _ _ tail rest r.payload r payload_read
    (then_good _ _ _ rest rest r.sig r sig_read (done_good r rest))))

no_payload : (rest : List ℕ) → parse_payload (255 ∷ 255 ∷ rest) ≡ Bad 0
unfolding parse_payload
no_payload rest = first_bad _ _ _ 0
    (test_failed short (number w16) _ rest 65535 (number_again w16 (2 ^ 16) wide16 65535 rest (omega arith)) refl)

no_request_bad : (rest : List ℕ) → IsBad (parse_request (no_request ++ rest))
unfolding parse_request
no_request_bad rest =
    let number_read = number_again w32 (2 ^ 32) wide32 0 (255 ∷ 255 ∷ rest) (omega arith) in
    (_, then_bad _ _ _ _ 0 _ (byte_again 0 _) (then_bad _ _ _ _ 0 _ number_read (first_bad _ _ _ 0 (no_payload rest))))

record IsRequest (bytes rest : List ℕ) (r : Request) : Type 0 where
  pub parts : bytes ≡ request_bytes r ++ rest
  pub spelled : has_spelling r ≡ true

request_parts : (bytes rest : List ℕ) (r : Request) → parse_request bytes ≡ Good r rest → IsRequest bytes rest r
unfolding parse_request
request_parts bytes rest r e =
    let a = then_parts _ _ bytes rest r e in
    let b = then_parts _ _ a.mid rest r a.second in
    let c = then_parts _ _ b.mid rest r b.second in
    let d = then_parts _ _ c.mid rest r c.second in
    let made : Request = record {
      id = record { client = a.thing; number = b.thing };
      payload = c.thing;
      sig = d.thing;
    } in
    let ends = done_parts made r d.mid rest d.second in
    let number_is = number_parts w32 (2 ^ 32) wide32 a.mid b.mid b.thing b.first in
    let payload_is = payload_parts b.mid c.mid c.thing c.first in
    let sig_is = signature_parts c.mid d.mid d.thing d.first in
    let size = to_be_bytes w16 (length c.thing) in
    let tail : c.mid ≡ d.thing ++ rest = sig_is.parts ∙ ap (λ (x : List ℕ). d.thing ++ x) ends.1 in
    let behind : a.mid ≡ to_be_bytes w32 b.thing ++ (size ++ (c.thing ++ (d.thing ++ rest))) = number_is.parts
    ∙ ap (λ (x : List ℕ). to_be_bytes w32 b.thing ++ x) (payload_is.parts
    ∙ ap (λ (x : List ℕ). size ++ (c.thing ++ x)) tail) in
    let regrouped : request_bytes made
    ++ rest ≡ a.thing ∷ (to_be_bytes w32 b.thing ++ (size ++ (c.thing ++ (d.thing ++ rest)))) = simp append_assoc in
    subst (λ (x : Request). IsRequest bytes rest x) ends.0 record {
      parts = byte_parts bytes a.mid a.thing a.first ∙ ap (λ (x : List ℕ). a.thing ∷ x) behind ∙ sym regrouped;
      spelled = rw (
        lt-ltb b.thing (2 ^ 32) number_is.below,
        le-leb (length c.thing) 256 payload_is.short,
        sig_is.shape,
      ) refl;
    }

request_whole : (r : Request) (b : Bool) → has_spelling r ≡ b →
    ((rest : List ℕ) → parse_request (spell_request r ++ rest) ≡ Good r rest)
    ⊎ ((rest : List ℕ) → IsBad (parse_request (spell_request r ++ rest)))
request_whole r true e = inl (λ rest. rw (request_spelled r (sym e)) (request_bytes_again r rest e))
request_whole r false e = inr (λ rest. rw (request_unspelled r (sym e)) (no_request_bad rest))

pub request_grammar : IsGrammar spell_request parse_request
request_grammar = record {
  only = λ bytes rest r e. let is = request_parts bytes rest r e in rw (request_spelled r (sym is.spelled)) is.parts;
  whole = λ r. request_whole r (has_spelling r) refl;
}

-- ---- repeated elements

-- decoding the encoding succeeds whatever follows, or fails whatever follows
abbrev pub Whole : {A : Type 0} → List ℕ → Parser A → A → Type 0
Whole spelling p x = ((rest : List ℕ) → p (spelling ++ rest) ≡ Good x rest)
    ⊎ ((rest : List ℕ) → IsBad (p (spelling ++ rest)))

times_none : {A : Type 0} (p : Parser A) (rest : List ℕ) → times 0 p rest ≡ Good [] rest
unfolding times
times_none p rest = done_good [] rest

times_more : {A : Type 0} (p : Parser A) (count : ℕ) (bytes mid rest : List ℕ) (x : A) (xs : List A) →
    p bytes ≡ Good x mid → times count p mid ≡ Good xs rest → times (suc count) p bytes ≡ Good (x ∷ xs) rest
unfolding times
times_more p count bytes mid rest x xs e d =
    then_good _ _ bytes mid rest x (x ∷ xs) e (then_good _ _ mid rest rest xs (x ∷ xs) d (done_good (x ∷ xs) rest))

times_first_bad : {A : Type 0} (p : Parser A) (count : ℕ) (bytes : List ℕ) → IsBad (p bytes) →
    IsBad (times (suc count) p bytes)
unfolding times
times_first_bad p count bytes bad = (bad.0, first_bad _ _ bytes bad.0 bad.1)

times_rest_bad : {A : Type 0} (p : Parser A) (count : ℕ) (bytes mid : List ℕ) (x : A) → p bytes ≡ Good x mid →
    IsBad (times count p mid) → IsBad (times (suc count) p bytes)
unfolding times
times_rest_bad p count bytes mid x e bad = (_, then_bad _ _ bytes mid x bad.0 e (first_bad _ _ mid bad.0 bad.1))

pub record Times {A : Type 0} (spell : A → List ℕ) (count : ℕ) (bytes rest : List ℕ) (xs : List A) : Type 0 where
  pub parts : bytes ≡ flat_map spell xs ++ rest
  pub count_is : length xs ≡ count

pub times_parts : {A : Type 0} (spell : A → List ℕ) (p : Parser A) → IsGrammar spell p →
    (count : ℕ) (bytes rest : List ℕ) (xs : List A) → times count p bytes ≡ Good xs rest →
    Times spell count bytes rest xs
unfolding times
times_parts {A} spell p g zero bytes rest xs e =
    let ends = done_parts [] xs bytes rest e in
    subst (λ (x : List A). Times spell 0 bytes rest x) ends.0 record { parts = ends.1; count_is = refl }
times_parts {A} spell p g (suc count) bytes rest xs e =
    let a = then_parts _ _ bytes rest xs e in
    let b = then_parts _ _ a.mid rest xs a.second in
    let ends = done_parts (a.thing ∷ b.thing) xs b.mid rest b.second in
    let others = times_parts spell p g count a.mid b.mid b.thing b.first in
    let first = g.only bytes a.mid a.thing a.first in
    let whole : bytes ≡ flat_map spell (a.thing ∷ b.thing) ++ rest = first
    ∙ ap (λ (x : List ℕ). spell a.thing ++ x) (others.parts
    ∙ ap (λ (x : List ℕ). flat_map spell b.thing ++ x) ends.1)
    ∙ sym (append_assoc (spell a.thing) (flat_map spell b.thing) rest) in
    subst (λ (x : List A). Times spell (suc count) bytes rest x) ends.0 record {
      parts = whole;
      count_is = ap suc others.count_is;
    }

pub times_whole : {A : Type 0} (spell : A → List ℕ) (p : Parser A) → IsGrammar spell p → (xs : List A) →
    Whole (flat_map spell xs) (times (length xs) p) xs
times_whole spell p g [] = inl (λ rest. times_none p rest)
times_whole spell p g (x ∷ xs) =
    let split = λ (rest : List ℕ). append_assoc (spell x) (flat_map spell xs) rest in
    elim (g.whole x) [
      | inr bad ↦ inr (λ rest. rw (split rest) (times_first_bad p (length xs) _ (bad (flat_map spell xs ++ rest))))
      | inl good ↦ elim (times_whole spell p g xs) [
        | inl more ↦ inl (λ rest. rw (split rest)
            (times_more p (length xs) _ (flat_map spell xs ++ rest) rest x xs (good (flat_map spell xs ++ rest))
            (more rest)))
        | inr bad ↦ inr (λ rest. rw (split rest)
            (times_rest_bad p (length xs) _ (flat_map spell xs ++ rest) x (good (flat_map spell xs ++ rest))
            (bad rest)))
      ]
    ]

-- what holds for each element read holds for all
times_all : {A : Type 0} (P : A → Type 0) (p : Parser A) →
    ((bytes rest : List ℕ) (x : A) → p bytes ≡ Good x rest → P x) → (count : ℕ) (bytes rest : List ℕ) (xs : List A) →
    times count p bytes ≡ Good xs rest → AllByRecursion P xs
unfolding times
times_all {A} P p each zero bytes rest xs e =
    let ends = done_parts [] xs bytes rest e in
    subst (λ (x : List A). AllByRecursion P x) ends.0 tt
times_all {A} P p each (suc count) bytes rest xs e =
    let a = then_parts _ _ bytes rest xs e in
    let b = then_parts _ _ a.mid rest xs a.second in
    let ends = done_parts (a.thing ∷ b.thing) xs b.mid rest b.second in
    subst (λ (x : List A). AllByRecursion P x) ends.0 (
      each bytes a.mid a.thing a.first,
      times_all P p each count a.mid b.mid b.thing b.first,
    )

-- ---- counts

abbrev few : Bool → ℕ → Bool
few second n = leb n (cond second 256 32)

count_of : (second : Bool) (n : ℕ) (rest : List ℕ) → n ≤ cond second 256 32 →
    such_that (few second) (cond second (number w16) byte) (cond second (to_be_bytes w16 n) (n ∷ []) ++ rest)
    ≡ Good n rest
count_of true n rest le =
    test_passed (few true) (number w16) _ rest n (number_again w16 (2 ^ 16) wide16 n rest (omega (arith, le)))
    (le-leb n 256 le)
count_of false n rest le = test_passed (few false) byte _ rest n (byte_again n rest) (le-leb n 32 le)

count_again : (version n : ℕ) (rest : List ℕ) → n ≤ requests_most version →
    parse_count version (spell_count version n ++ rest) ≡ Good n rest
unfolding parse_count count_field spell_count
count_again version n rest le = count_of (is_second version) n rest le

no_count_of : (second : Bool) (rest : List ℕ) →
    such_that (few second) (cond second (number w16) byte) (no_batch ++ rest) ≡ Bad 0
no_count_of true rest = test_failed (few true) (number w16) _ rest 65535
    (number_again w16 (2 ^ 16) wide16 65535 rest (omega arith)) refl
no_count_of false rest = test_failed (few false) byte _ (255 ∷ rest) 255 (byte_again 255 (255 ∷ rest)) refl

no_count : (version : ℕ) (rest : List ℕ) → parse_count version (no_batch ++ rest) ≡ Bad 0
unfolding parse_count count_field
no_count version rest = no_count_of (is_second version) rest

record IsCount (spelled bytes rest : List ℕ) (most n : ℕ) : Type 0 where
  pub parts : bytes ≡ spelled ++ rest
  pub few : n ≤ most

parts_of : (second : Bool) (bytes rest : List ℕ) (n : ℕ) → such_that (few second) (cond second (number w16) byte) bytes
    ≡ Good n rest → IsCount (cond second (to_be_bytes w16 n) (n ∷ [])) bytes rest (cond second 256 32) n
parts_of true bytes rest n e =
    let found = test_parts (few true) (number w16) bytes rest n e in
    record { parts = (number_parts w16 (2 ^ 16) wide16 bytes rest n found.0).parts; few = leb-true n 256 found.1 }
parts_of false bytes rest n e =
    let found = test_parts (few false) byte bytes rest n e in
    record { parts = byte_parts bytes rest n found.0; few = leb-true n 32 found.1 }

count_parts : (version : ℕ) (bytes rest : List ℕ) (n : ℕ) → parse_count version bytes ≡ Good n rest →
    IsCount (spell_count version n) bytes rest (requests_most version) n
unfolding parse_count count_field spell_count
count_parts version bytes rest n e = parts_of (is_second version) bytes rest n e

-- ---- batches

-- the count of a batch, followed by its requests
regrouped : (version : ℕ) (b : List Request) (rest : List ℕ) → length b ≤ requests_most version →
    spell_batch version b ++ rest ≡ spell_count version (length b) ++ (flat_map spell_request b ++ rest)
regrouped version b rest le = ap (λ (x : List ℕ). x ++ rest) (batch_spelled version b le)
    ∙ append_assoc (spell_count version (length b)) (flat_map spell_request b) rest

batch_good : (version : ℕ) (b : List Request) → length b ≤ requests_most version →
    ((rest : List ℕ) → times (length b) parse_request (flat_map spell_request b ++ rest) ≡ Good b rest) →
    (rest : List ℕ) → parse_batch version (spell_batch version b ++ rest) ≡ Good b rest
unfolding parse_batch
batch_good version b le good rest =
    ap (parse_batch version) (regrouped version b rest le)
    ∙ then_good _ _ _ (flat_map spell_request b ++ rest) rest (length b) b
    (count_again version (length b) _ le) (good rest)

batch_bad : (version : ℕ) (b : List Request) → length b ≤ requests_most version →
    ((rest : List ℕ) → IsBad (times (length b) parse_request (flat_map spell_request b ++ rest))) → (rest : List ℕ) →
    IsBad (parse_batch version (spell_batch version b ++ rest))
unfolding parse_batch
batch_bad version b le bad rest = (
  _,
  ap (parse_batch version) (regrouped version b rest le)
      ∙ then_bad _ _ _ (flat_map spell_request b ++ rest) (length b) (bad rest).0 (count_again version (length b) _ le)
      (bad rest).1,
)

batch_long : (version : ℕ) (b : List Request) → requests_most version < length b → (rest : List ℕ) →
    IsBad (parse_batch version (spell_batch version b ++ rest))
unfolding parse_batch
batch_long version b lt rest = rw (batch_unspelled version b lt) (0, first_bad _ _ _ 0 (no_count version rest))

batch_whole : (version : ℕ) (b : List Request) → Whole (spell_batch version b) (parse_batch version) b
batch_whole version b =
    elim (cases_lt (requests_most version) (length b)) [
      | inl lt ↦ inr (batch_long version b lt)
      | inr le ↦ elim (times_whole spell_request parse_request request_grammar b) [
        | inl good ↦ inl (batch_good version b le good)
        | inr bad ↦ inr (batch_bad version b le bad)
      ]
    ]

record IsBatch (version : ℕ) (bytes rest : List ℕ) (b : List Request) : Type 0 where
  pub parts : bytes ≡ spell_batch version b ++ rest
  pub few : length b ≤ requests_most version
  pub spelled : AllByRecursion HasSpelling b

batch_parts : (version : ℕ) (bytes rest : List ℕ) (b : List Request) → parse_batch version bytes ≡ Good b rest →
    IsBatch version bytes rest b
unfolding parse_batch
batch_parts version bytes rest b e =
    let a = then_parts _ _ bytes rest b e in
    let count = count_parts version bytes a.mid a.thing a.first in
    let requests = times_parts spell_request parse_request request_grammar a.thing a.mid rest b a.second in
    let le : length b ≤ requests_most version = rw requests.count_is count.few in
    record {
      parts = count.parts ∙ ap (λ (n : ℕ). spell_count version n ++ a.mid) (sym requests.count_is)
          ∙ ap (λ (x : List ℕ). spell_count version (length b) ++ x) requests.parts ∙ sym (regrouped version b rest le);
      few = le;
      spelled = times_all HasSpelling parse_request
          (λ front back r d. (request_parts front back r d).spelled) a.thing a.mid rest b a.second;
    }

pub batch_grammar : (version : ℕ) → IsGrammar (spell_batch version) (parse_batch version)
batch_grammar version = record {
  only = λ bytes rest b e. (batch_parts version bytes rest b e).parts;
  whole = batch_whole version;
}

-- ---- values

nil_whole : (version : ℕ) (rest : List ℕ) → parse_value version (0 ∷ rest) ≡ Good Value_nil rest
unfolding parse_value parse_rest
nil_whole version rest = then_good _ _ _ rest rest 0 Value_nil
    (test_passed (is_first version) byte _ rest 0 (byte_again 0 rest) refl) (done_good Value_nil rest)

-- the first byte of a batch
holds_first : (version : ℕ) (rest : List ℕ) → such_that (is_first version) byte (version_byte version ∷ rest)
    ≡ Good (version_byte version) rest
holds_first version rest =
    test_passed (is_first version) byte _ rest (version_byte version) (byte_again (version_byte version) rest)
    (batch_first version)

holds_good : (version : ℕ) (b : List Request) (bytes rest : List ℕ) → parse_batch version bytes ≡ Good b rest →
    parse_value version (version_byte version ∷ bytes) ≡ Good (Value_batch b) rest
unfolding parse_value
holds_good version b bytes rest e =
    then_good _ _ _ bytes rest (version_byte version) (Value_batch b) (holds_first version bytes)
    (ap (λ (p : Parser Value). p bytes) (batch_rest version)
    ∙ then_good _ _ bytes rest rest b (Value_batch b) e (done_good (Value_batch b) rest))

holds_bad : (version : ℕ) (bytes : List ℕ) → IsBad (parse_batch version bytes) →
    IsBad (parse_value version (version_byte version ∷ bytes))
unfolding parse_value
holds_bad version bytes bad = (
  _,
  then_bad _ _ _ bytes (version_byte version) bad.0 (holds_first version bytes)
      (ap (λ (p : Parser Value). p bytes) (batch_rest version) ∙ first_bad _ _ bytes bad.0 bad.1),
)

value_whole : (version : ℕ) (v : Value) → Whole (spell_value version v) (parse_value version) v
unfolding spell_value
value_whole version Value_nil = inl (λ rest. nil_whole version rest)
value_whole version (Value_batch b) =
    elim (batch_whole version b) [
      | inl good ↦ inl (λ rest. holds_good version b (spell_batch version b ++ rest) rest (good rest))
      | inr bad ↦ inr (λ rest. holds_bad version (spell_batch version b ++ rest) (bad rest))
    ]

-- what is known of a value that was read
abbrev IsValue : ℕ → List ℕ → List ℕ → Value → Type 0
IsValue version bytes rest Value_nil = bytes ≡ 0 ∷ rest
IsValue version bytes rest (Value_batch b) = (mid : List ℕ) × (bytes ≡ version_byte version ∷ mid)
    × IsBatch version mid rest b

not_nil : (n m : ℕ) → (eqb (suc n) 0 || eqb (suc n) m) ≡ true → suc n ≡ m
not_nil n m t = eqb-true (suc n) m (rw (ne_eqb (suc n) 0 (omega arith)) at t)

rest_parts : (version n : ℕ) (bytes rest : List ℕ) (v : Value) → is_first version n ≡ true →
    parse_rest version n bytes ≡ Good v rest → IsValue version (n ∷ bytes) rest v
unfolding parse_rest
rest_parts version zero bytes rest v t e =
    let ends = done_parts Value_nil v bytes rest e in
    subst (λ (x : Value). IsValue version (0 ∷ bytes) rest x) ends.0 (ap (λ (x : List ℕ). 0 ∷ x) ends.1)
rest_parts version (suc n) bytes rest v t e =
    let a = then_parts _ _ bytes rest v e in
    let ends = done_parts (Value_batch a.thing) v a.mid rest a.second in
    let batch = subst (λ (x : List ℕ). IsBatch version bytes x a.thing) ends.1
    (batch_parts version bytes a.mid a.thing a.first) in
    let first : suc n ≡ version_byte version = not_nil n (version_byte version) t in
    subst (λ (x : Value). IsValue version (suc n ∷ bytes) rest x) ends.0 (bytes, ap (λ (m : ℕ). m ∷ bytes) first, batch)

value_parts : (version : ℕ) (bytes rest : List ℕ) (v : Value) → parse_value version bytes ≡ Good v rest →
    IsValue version bytes rest v
unfolding parse_value
value_parts version bytes rest v e =
    let a = then_parts _ _ bytes rest v e in
    let first = test_parts (is_first version) byte bytes a.mid a.thing a.first in
    subst (λ (x : List ℕ). IsValue version x rest v) (sym (byte_parts bytes a.mid a.thing first.0))
    (rest_parts version a.thing a.mid rest v first.1 a.second)

value_only : (version : ℕ) (v : Value) (bytes rest : List ℕ) → IsValue version bytes rest v →
    bytes ≡ spell_value version v ++ rest
unfolding spell_value
value_only version Value_nil bytes rest is = is
value_only version (Value_batch b) bytes rest is = is.1 ∙ ap (λ (x : List ℕ). version_byte version ∷ x) is.2.parts

pub value_grammar : (version : ℕ) → IsGrammar (spell_value version) (parse_value version)
value_grammar version = record {
  only = λ bytes rest v e. value_only version v bytes rest (value_parts version bytes rest v e);
  whole = value_whole version;
}

-- ---- the relation between elements and bytes

all_spelled : (b : List Request) → AllByRecursion HasSpelling b → flat_map spell_request b ≡ flat_map request_bytes b
all_spelled [] h = refl
all_spelled (r ∷ rs) h =
    ap (λ (x : List ℕ). x ++ flat_map spell_request rs) (request_spelled r (sym h.0))
    ∙ ap (λ (x : List ℕ). request_bytes r ++ x) (all_spelled rs h.1)

times_again : (b : List Request) → AllByRecursion HasSpelling b → (rest : List ℕ) →
    times (length b) parse_request (flat_map spell_request b ++ rest) ≡ Good b rest
times_again [] h rest = times_none parse_request rest
times_again (r ∷ rs) h rest =
    let first = request_bytes_again r (flat_map spell_request rs ++ rest) h.0 in
    rw (append_assoc (spell_request r) (flat_map spell_request rs) rest)
    (times_more parse_request (length rs) _ (flat_map spell_request rs ++ rest) rest r rs
    (rw (request_spelled r (sym h.0)) first) (times_again rs h.1 rest))

pub request_related : (r : Request) (bytes : List ℕ) → (parse_request bytes ≡ Good r []) ↔ IsSpelledRequest r bytes
request_related r bytes = (
  (λ e. let is = request_parts bytes [] r e in (is.spelled, is.parts ∙ append-nil (request_bytes r))),
  (λ h. ap parse_request (h.1 ∙ sym (append-nil (request_bytes r))) ∙ request_bytes_again r [] h.0),
)

-- a batch of encodable requests, in bytes
batch_table : (version : ℕ) (b : List Request) → length b ≤ requests_most version → AllByRecursion HasSpelling b →
    spell_batch version b ≡ spell_count version (length b) ++ flat_map request_bytes b
batch_table version b le h = batch_spelled version b le
    ∙ ap (λ (x : List ℕ). spell_count version (length b) ++ x) (all_spelled b h)

table_parts : (version : ℕ) (v : Value) (bytes : List ℕ) → IsValue version bytes [] v → IsSpelledValue version v bytes
table_parts version Value_nil bytes is = is
table_parts version (Value_batch b) bytes is =
    let batch = is.2 in
    let spelled : is.0 ≡ spell_count version (length b) ++ flat_map request_bytes b = batch.parts
    ∙ append-nil (spell_batch version b) ∙ batch_table version b batch.few batch.spelled in
    (batch.few, batch.spelled, is.1 ∙ ap (λ (x : List ℕ). version_byte version ∷ x) spelled)

table_again : (version : ℕ) (v : Value) (bytes : List ℕ) → IsSpelledValue version v bytes →
    parse_value version bytes ≡ Good v []
table_again version Value_nil bytes h = ap (parse_value version) h ∙ nil_whole version []
table_again version (Value_batch b) bytes h =
    let spelled : bytes ≡ version_byte version ∷ (spell_batch version b ++ []) = h.2
    ∙ ap (λ (x : List ℕ). version_byte version ∷ x)
    (sym (append-nil (spell_batch version b) ∙ batch_table version b h.0 h.1)) in
    ap (parse_value version) spelled
    ∙ holds_good version b (spell_batch version b ++ []) [] (batch_good version b h.0 (times_again b h.1) [])

pub value_related : (version : ℕ) (v : Value) (bytes : List ℕ) →
    (parse_value version bytes ≡ Good v []) ↔ IsSpelledValue version v bytes
value_related version v bytes =
    ((λ e. table_parts version v bytes (value_parts version bytes [] v e)), table_again version v bytes)
