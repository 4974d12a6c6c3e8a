-- The definitions of the formats, on small examples.
use Rattle.std.proofs.Common.{◌≡◌, [], ◌∷◌, refl}
use Rattle.iss_request.specs.Fields.{Good, Bad}
use Rattle.iss_request.specs.Parsing.{◌>>=◌, done, such_that, byte, number, block, digests, times, at_end, all_of}
use Rattle.iss_request.specs.Formats.{spell_count, spell_batch, spell_value, parse_payload, parse_signature, parse_request, count_field, parse_count, parse_batch, parse_rest, parse_value}
use Rattle.iss_request.specs.declared.requests.Value.TheVariants.{Nil as Value_nil, Batch as Value_batch}

-- nil is one byte, and the empty batch is two, by the second version three
nil_value : (spell_value 1 Value_nil ≡ 0 ∷ []) × (spell_value 2 Value_nil ≡ 0 ∷ [])
unfolding spell_value
nil_value = (refl, refl)

empty_value : (spell_value 1 (Value_batch []) ≡ 1 ∷ 0 ∷ []) × (spell_value 2 (Value_batch []) ≡ 2 ∷ 0 ∷ 0 ∷ [])
unfolding spell_value spell_batch spell_count
empty_value = (refl, refl)

-- an empty batch followed by a byte
empty_read : (parse_value 1 (1 ∷ 0 ∷ 9 ∷ []) ≡ Good (Value_batch []) (9 ∷ []))
    × (parse_value 2 (2 ∷ 0 ∷ 0 ∷ 9 ∷ []) ≡ Good (Value_batch []) (9 ∷ []))
unfolding parse_value parse_rest parse_batch parse_count count_field such_that byte number times done ◌>>=◌
empty_read = (refl, refl)

trailing : (all_of (parse_value 1) (1 ∷ 0 ∷ 9 ∷ []) ≡ Bad 2) × (all_of (parse_value 2) (2 ∷ 0 ∷ 0 ∷ 9 ∷ []) ≡ Bad 3)
unfolding all_of at_end parse_value parse_rest parse_batch parse_count count_field such_that byte number
    times done ◌>>=◌
trailing = (refl, refl)

-- the other version's batch is refused at its first byte
other_version : (parse_value 1 (2 ∷ 0 ∷ 0 ∷ []) ≡ Bad 0) × (parse_value 2 (1 ∷ 0 ∷ []) ≡ Bad 0)
unfolding parse_value such_that byte ◌>>=◌
other_version = (refl, refl)

-- a count above 32 (version 2: above 256) is itself the bad field
many : (parse_value 1 (1 ∷ 33 ∷ []) ≡ Bad 1) × (parse_value 2 (2 ∷ 1 ∷ 1 ∷ []) ≡ Bad 1)
unfolding parse_value parse_rest parse_batch parse_count count_field such_that byte number times done ◌>>=◌
many = (refl, refl)

-- request 7.1 with payload aa: one without a signature, and one with a signature of height 21
unsigned : parse_request (7 ∷ 0 ∷ 0 ∷ 0 ∷ 1 ∷ 0 ∷ 1 ∷ 0xaa ∷ []) ≡ Bad 8
unfolding parse_request parse_payload parse_signature such_that byte number block digests done ◌>>=◌
unsigned = refl

tall : parse_request (7 ∷ 0 ∷ 0 ∷ 0 ∷ 1 ∷ 0 ∷ 1 ∷ 0xaa ∷ 21 ∷ 0 ∷ []) ≡ Bad 8
unfolding parse_request parse_payload parse_signature such_that byte number block digests done ◌>>=◌
tall = refl

-- a payload of 257 bytes is refused at its length
long : parse_request (7 ∷ 0 ∷ 0 ∷ 0 ∷ 1 ∷ 1 ∷ 1 ∷ 0xaa ∷ []) ≡ Bad 5
unfolding parse_request parse_payload such_that byte number block done ◌>>=◌
long = refl
