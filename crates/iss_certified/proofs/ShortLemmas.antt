-- A text that is short has few lines: each epoch's certificate holds a signature, which is long.
use Rattle.std.proofs.Common.{◌≡◌, ℕ, ◌+◌, ◌*◌, ◌==◌, ◌<◌, ◌≤◌, Bool, true, false, if◌then◌else◌, List, [], ◌∷◌, ◌++◌, codes, length, map, length-append, refl, sym, ap, ◌∙◌, arith}
use Rattle.std.specs.Int.{to_be_bytes, w64}
use Rattle.std.specs.List.{flat_map}
use Rattle.std.specs.Prelude.{nat_le}
use Rattle.hex.proofs.HexLemmas.{length-encode_with}
use Rattle.hex.specs.Hex.{lower_digits}
use Rattle.iss_base.specs.Heights.{digests_of_height, has_two_levels}
use Rattle.iss_base.proofs.Lists.{and-true, is-eq}
use Rattle.iss_audit.specs.Exports.{EachEpoch, IsCertified, IsWhole as IsWholeEpoch, body_lines, cert_line, epoch_lines, keys_of, last_line, text_of, value_line}
use Rattle.iss_audit.specs.declared.exports.CertifiedEpoch.{CertifiedEpoch}
use Rattle.iss_audit.proofs.OneExport.{length-lines}
use Rattle.iss_checkpoint.specs.Certificates.{cert_row, spell_cert}
use Rattle.iss_checkpoint.specs.Votes.{voters_of}
use Rattle.iss_checkpoint.proofs.CertGrammar.{cert-related}
use Rattle.iss_keys.proofs.DirectoryLemmas.{node-root, verified-by}
use Rattle.iss_request.specs.Setup.{IsGoodSetup, quorum_of_kind}
use Rattle.iss_request.specs.declared.setups.Kind.{Kind}
use Rattle.iss_request.specs.declared.setups.Kind.TheVariants.{Byzantine, Stopping}
use Rattle.iss_request.specs.declared.setups.Setup.{Setup}
use Rattle.iss_rules.specs.Concrete.{rules_of}
use Rattle.iss_rules.specs.Votes.{are_true, is_true_cert}
use Rattle.iss_rules.proofs.Checked.{cert-same}
use Rattle.iss_sb.specs.Signers.{spell_signed}
use Rattle.iss_sb.specs.declared.signers.Signed.{Signed}
use Rattle.iss_schedule.specs.Schedules.{header_lines, most_bytes, most_events}
use Rattle.iss_schedule.specs.Words.{ended, word_of}
use Rattle.iss_schedule.proofs.BadLines.PrefixesAreRead.{ended-append}

word-long : (bytes : List ℕ) → length bytes ≤ length (word_of bytes)
word-long [] = omega arith
word-long (b ∷ bs) = omega (arith, length-encode_with lower_digits (b ∷ bs))

-- ---- a certificate

some-quorum : (b : Bool) (k : Kind) (f : ℕ) → 0 < (if b then 2 else quorum_of_kind k f)
some-quorum true k f = omega arith
some-quorum false Byzantine f = omega arith
some-quorum false Stopping f = omega arith

some-digests : (h : ℕ) → 67 ≤ digests_of_height h
unfolding digests_of_height
some-digests h = go (has_two_levels h)
  where
    go : (b : Bool) → 67 ≤ (if b then 134 + h else 67 + h)
    go true = omega arith
    go false = omega arith

signers-long : (s : Setup) (statement : List ℕ) (from : ℕ) (xs : List Signed) → are_true (rules_of s) statement from xs ≡ true → 0 < length xs → 2149 ≤ length (flat_map spell_signed xs)
signers-long s statement from [] h lt = absurd (omega (arith, lt))
signers-long s statement from (x ∷ xs) h lt =
    let a = and-true (nat_le from x.by.0) _ h in
    let b = and-true ((rules_of s).verifies x.by.0 statement x.sig) _ a.1 in
    let v = node-root s.n s.clients s.keys x.by.0 statement x.sig ((verified-by (keys_of s).nodes x.by.0 statement x.sig).0 b.0) in
    omega (arith, v.exact, some-digests s.keys, length-append (spell_signed x) (flat_map spell_signed xs))

cert-long : (s : Setup) → IsGoodSetup s → (before : List CertifiedEpoch) (x : CertifiedEpoch) → IsWholeEpoch s before x → IsCertified s (voters_of s (keys_of s)) before x → 2149 ≤ length (cert_line x.cert)
cert-long s good before x whole has =
    let valid : is_true_cert (rules_of s) x.cert ≡ true = sym (cert-same s x.cert) ∙ has.valid in
    let a = and-true (length x.cert.signers == s.quorum) _ valid in
    let count = is-eq (length x.cert.signers) s.quorum a.0 in
    let some = some-quorum (s.module == 1) s.kind s.f in
    let long = signers-long s ((rules_of s).voted x.cert.epoch.0 x.cert.chain x.cert.requests) 0 x.cert.signers a.1 (omega (arith, count, good.majority, some)) in
    let row : spell_cert x.cert ≡ cert_row x.cert = (cert-related (length before) (spell_cert x.cert) [] x.cert whole.cert.1).row in
    let size = ap length row in
    let parts = length-append x.cert.chain (to_be_bytes w64 x.cert.requests ++ (length x.cert.signers ∷ flat_map spell_signed x.cert.signers)) in
    let tail = length-append (to_be_bytes w64 x.cert.requests) (length x.cert.signers ∷ flat_map spell_signed x.cert.signers) in
    let word = word-long (spell_cert x.cert) in
    omega (arith, size, parts, tail, word, long, length-append (codes "cert") (32 ∷ word_of (spell_cert x.cert)))

-- ---- lines

-- each line has a line feed
lines-long : (ls : List (List ℕ)) → length ls ≤ length (ended ls)
lines-long [] = omega arith
lines-long (l ∷ ls) = let rest = lines-long ls in omega (arith, rest, length-append l (10 ∷ ended ls))

epochs-long : (s : Setup) → IsGoodSetup s → (before xs : List CertifiedEpoch) → EachEpoch (IsWholeEpoch s) before xs → EachEpoch (IsCertified s (voters_of s (keys_of s))) before xs → 16 * length (epoch_lines s.version xs) ≤ length (ended (epoch_lines s.version xs))
epochs-long s good before [] whole has = omega arith
epochs-long s good before (x ∷ xs) whole has =
    let rest = epochs-long s good (before ++ x ∷ []) xs whole.1 has.1 in
    let values = map (value_line s.version) x.values in
    let tail = cert_line x.cert ∷ epoch_lines s.version xs in
    let lines = length-append values tail in
    let text = ap length (ended-append values tail) ∙ length-append (ended values) (ended tail) in
    let cert = length-append (cert_line x.cert) (10 ∷ ended (epoch_lines s.version xs)) in
    omega (arith, rest, lines, text, cert, length-lines s.version x.values, whole.0.slots, good.epoch_high, cert-long s good before x whole.0 has.0)

-- a certified text that is short has few lines
pub few-lines : (s : Setup) → IsGoodSetup s → (xs : List CertifiedEpoch) → EachEpoch (IsWholeEpoch s) [] xs → EachEpoch (IsCertified s (voters_of s (keys_of s))) [] xs → length (text_of (record { setup = s; epochs = xs })) ≤ most_bytes → length (body_lines s.version xs) ≤ most_events
few-lines s good xs whole has short =
    let long = epochs-long s good [] xs whole has in
    let header = lines-long (header_lines s) in
    let eleven : length (header_lines s) ≡ 11 = refl in
    let all = length-append (ended (header_lines s)) (ended (body_lines s.version xs)) in
    let body = ap length (ended-append (epoch_lines s.version xs) (last_line ∷ [])) ∙ length-append (ended (epoch_lines s.version xs)) (ended (last_line ∷ [])) in
    let lines = length-append (epoch_lines s.version xs) (last_line ∷ []) in
    omega (arith, long, header, eleven, all, body, lines, short)
