-- The written fields, concatenated, are the strings, statements and messages.
use Rattle.std.proofs.Common.{◌≡◌, ◌<◌, ◌^◌, ℕ, true, List, [], ◌∷◌, ◌++◌, length, append_assoc, refl}
use Rattle.std.specs.Int.{to_be_bytes, w64}
use Rattle.std.proofs.lemmas.Bool.{lt-ltb}
use Rattle.iss_request.specs.Fields.{Written, and_bytes}
use Rattle.iss_request.specs.Formats.{is_signature, spell_value}
use Rattle.iss_request.specs.declared.ids.Slot.{Slot}
use Rattle.iss_request.specs.declared.requests.Batch.{Batch}
use Rattle.iss_request.specs.declared.requests.Value.TheVariants.{Batch as Value_batch}
use Rattle.iss_sb.specs.declared.effects.Params.{Params}
use Rattle.iss_sb.specs.Statements.{statement_head}
use Rattle.iss_sb.proofs.Statements.{eight-is}
use Rattle.sb_echo.specs.declared.word.Word.TheVariants.{Say, Echo as Echo_word}
use Rattle.sb_echo.specs.Echo.{spell, statement}

abbrev start : ℕ → Written
start version = record { version = version; bytes = [] }

pub statement-written : (p : Params) (kind s : ℕ) (digest : List ℕ) (version : ℕ) (a b c d : Written) → s < 2 ^ 64 →
    a ≡ and_bytes (start version) (statement_head p 6) → b ≡ and_bytes a (kind ∷ []) →
    c ≡ and_bytes b (to_be_bytes w64 s) → d ≡ and_bytes c digest → d.bytes ≡ statement p kind s digest
statement-written p kind s digest version a b c d lt ha hb hc hd = let same = eight-is s lt in rw (hd, hc, hb, ha, same) (simp append_assoc)

-- a message with an encoding
say-spelled : (version : ℕ) (slot : Slot) (batch : Batch) (sig : List ℕ) → slot.0 < 2 ^ 64 → is_signature sig ≡ true →
    1 ∷ to_be_bytes w64 slot.0 ++ spell_value version (Value_batch batch) ++ sig ≡ spell version (Say slot batch sig)
say-spelled version slot batch sig lt shape = let low = lt-ltb slot.0 (2 ^ 64) lt in rw (low, shape) refl

echo-spelled : (version : ℕ) (slot : Slot) (d sig : List ℕ) → slot.0 < 2 ^ 64 → length d ≡ 32 →
    is_signature sig ≡ true →
    2 ∷ to_be_bytes w64 slot.0 ++ d ++ sig ≡ spell version (Echo_word slot d sig)
echo-spelled version slot d sig lt long shape = let low = lt-ltb slot.0 (2 ^ 64) lt in rw (low, long, shape) refl

pub say-written : (slot : Slot) (batch : Batch) (sig sent : List ℕ) (a b c d e : Written) → slot.0 < 2 ^ 64 →
    is_signature sig ≡ true → sent ≡ sig → b ≡ and_bytes a (1 ∷ []) → c ≡ and_bytes b (to_be_bytes w64 slot.0) →
    d ≡ and_bytes c (spell_value c.version (Value_batch batch)) → e ≡ and_bytes d sent → e ≡ and_bytes a (spell a.version (Say slot batch sig))
say-written slot batch sig sent a b c d e lt shape hs hb hc hd he = let spelled = say-spelled a.version slot batch sig lt shape in rw (← spelled, he, hs, hd, hc, hb) (simp append_assoc)

pub echo-written : (slot : Slot) (digest sig sent : List ℕ) (a b c d e : Written) → slot.0 < 2 ^ 64 →
    length digest ≡ 32 → is_signature sig ≡ true → sent ≡ sig → b ≡ and_bytes a (2 ∷ []) →
    c ≡ and_bytes b (to_be_bytes w64 slot.0) →
    d ≡ and_bytes c digest → e ≡ and_bytes d sent → e ≡ and_bytes a (spell a.version (Echo_word slot digest sig))
echo-written slot digest sig sent a b c d e lt long shape hs hb hc hd he = let spelled = echo-spelled a.version slot digest sig lt long shape in rw (← spelled, he, hs, hd, hc, hb) (simp append_assoc)
