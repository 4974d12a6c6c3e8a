-- The written fields, concatenated, are the strings and statements.
use Rattle.std.proofs.Common.{◌≡◌, ℕ, suc, ◌<◌, ◌^◌, List, [], ◌∷◌, ◌++◌, length, map, append_assoc, refl, ap, ◌∙◌}
use Rattle.std.specs.Int.{to_be_bytes, w16, w64}
use Rattle.std.specs.List.{flat_map}
use Rattle.iss_request.specs.Fields.{Written, and_bytes}
use Rattle.iss_sb.specs.declared.effects.Params.{Params}
use Rattle.iss_sb.specs.Statements.{statement_head}
use Rattle.iss_sb.proofs.Statements.{eight-is, two-is}
use Rattle.pbft_wire.specs.declared.messages.Certificate.{Certificate}
use Rattle.pbft_wire.specs.declared.signing.Mark.{Mark}
use Rattle.pbft_wire.specs.Marks.{mark_bytes, mark_of}
use Rattle.pbft_wire.specs.Statements.{marks, state_at, state_change, state_new}

abbrev start : ℕ → Written
start version = record { version = version; bytes = [] }

pub state_at-written : (p : Params) (kind v s version : ℕ) (digest : List ℕ) (a b c d e : Written) → v < 2 ^ 16 →
    s < 2 ^ 64 → a ≡ and_bytes (start version) (statement_head p 3) → b ≡ and_bytes a (kind ∷ []) →
    c ≡ and_bytes b (to_be_bytes w16 v) → d ≡ and_bytes c (to_be_bytes w64 s) → e ≡ and_bytes d digest → e.bytes ≡ state_at p kind v s digest
state_at-written p kind v s version digest a b c d e lv ls ha hb hc hd he = let views = two-is v lv in let slots = eight-is s ls in rw (he, hd, hc, hb, ha, views, slots) (simp append_assoc)

pub new-written : (p : Params) (v version : ℕ) (a b c : Written) → v < 2 ^ 16 →
    a ≡ and_bytes (start version) (statement_head p 3) → b ≡ and_bytes a (5 ∷ []) →
    c ≡ and_bytes b (to_be_bytes w16 v) → c.bytes ≡ state_new p v
new-written p v version a b c lv ha hb hc = let views = two-is v lv in rw (hc, hb, ha, views) (simp append_assoc)

-- ---- marks

pub mark-written : (m : Mark) (a b c d : Written) → m.slot.0 < 2 ^ 64 → m.view < 2 ^ 16 →
    b ≡ and_bytes a (to_be_bytes w64 m.slot.0) → c ≡ and_bytes b (to_be_bytes w16 m.view) → d ≡ and_bytes c m.digest →
    d ≡ and_bytes a (mark_bytes m)
mark-written m a b c d ls lv hb hc hd = let views = two-is m.view lv in let slots = eight-is m.slot.0 ls in rw (hd, hc, hb, views, slots) (simp append_assoc)

pub marks-are : (p : Params) (cs : List Certificate) → flat_map mark_bytes (map (mark_of p) cs) ≡ marks p cs
marks-are p [] = refl
marks-are p (c ∷ cs) = ap (λ (z : List ℕ). mark_bytes (mark_of p c) ++ z) (marks-are p cs) ∙ regroup
  where
    regroup : mark_bytes (mark_of p c) ++ marks p cs ≡ marks p (c ∷ cs)
    regroup = simp append_assoc

pub length-marks : (p : Params) (cs : List Certificate) → length (map (mark_of p) cs) ≡ length cs
length-marks p [] = refl
length-marks p (c ∷ cs) = ap suc (length-marks p cs)

-- the statement of a ViewChange, from the marks of its certificates
pub change-written : (p : Params) (v version : ℕ) (ms : List Mark) (cs : List Certificate) (a b c d e : Written) →
    v < 2 ^ 16 → ms ≡ map (mark_of p) cs → a ≡ and_bytes (start version) (statement_head p 3) →
    b ≡ and_bytes a (4 ∷ []) →
    c ≡ and_bytes b (to_be_bytes w16 v) → d ≡ and_bytes c (length ms ∷ []) → e ≡ and_bytes d (flat_map mark_bytes ms) → e.bytes ≡ state_change p v cs
change-written p v version ms cs a b c d e lv hm ha hb hc hd he =
    let views = two-is v lv in
    let count : length ms ≡ length cs = ap (λ (z : List Mark). length z) hm ∙ length-marks p cs in
    let all : flat_map mark_bytes ms ≡ marks p cs = ap (λ (z : List Mark). flat_map mark_bytes z) hm ∙ marks-are p cs in
    rw (he, hd, hc, hb, ha, views, count, all) (simp append_assoc)
