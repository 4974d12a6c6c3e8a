use Rattle.std.proofs.Common.{◌<◌, ◌≤◌, ◌≡◌, ◌∷◌, ◌∙◌, ap, arith, length, sym, List, [], ℕ, Option, Some, None}
use Rattle.hex.specs.Hex.{IsBytes}
use Rattle.iss_schedule.specs.Reads.{Reads}
use Rattle.iss_schedule.specs.Words.{word_of}
use Rattle.iss_schedule.proofs.Encoding.HexIsInjective.{word_injective}
use Rattle.iss_schedule.proofs.events.payload_in.Goals as goal

-- a word of too many bytes encodes no other bytes
long : (o : Option (List ℕ)) (xs ys : List ℕ) (ws : List (List ℕ)) → o ≡ Some xs →
    Reads (λ bytes. word_of bytes ∷ []) IsBytes ws o → 256 < length xs → IsBytes ys → length ys ≤ 256 →
    ws ≡ word_of ys ∷ [] → ⊥
long (Some zs) xs ys ws is h over fits short e =
    let both : word_of zs ∷ [] ≡ word_of ys ∷ [] = sym h.0 ∙ e in
    let same : word_of zs ≡ word_of ys = cc in
    let read : zs ≡ xs = cc in
    omega (arith, ap length (word_injective zs ys h.1 fits same), ap length read)
long None xs ys ws is h over fits short e = let two : None ≡ Some xs = is in cc

pub returns-else-len-le256 : goal.returns-else-len-le256
returns-else-len-le256 c =
    λ a ok e. long c.in_ok-payload.field-0 c.in-Some.payload a c.args.words.now c.in-Some.is c.in_ok-payload.ensures
    (omega arith) ok.0 ok.1 e
