-- The cluster, move by move: node 0 casts; node 1 receives its batch, its echo, node 1's own echo, and that of the
-- faulty node.
use Rattle.std.proofs.Common.{◌≡◌, inl, inr, ℕ, ◌<◌, true, List, [], ◌∷◌, ◌++◌, None, append-nil, refl, sym, ap, ◌∙◌, subst, true≢false, arith}
use Rattle.sha2.specs.Sha256.{compress, digest_bytes, first_words, hash_after, rounds, schedule, sha256}
use Rattle.iss_base.specs.Heights.{digests_of_height}
use Rattle.iss_base.specs.Lists.{Extends, In, push_all, set_at}
use Rattle.iss_base.proofs.Lists.{in_append, in_right, set_at-other, set_at-same}
use Rattle.iss_request.specs.Formats.{parse_value, spell_batch, spell_count, spell_request, spell_value}
use Rattle.iss_request.specs.Setup.{IsGoodSetup}
use Rattle.iss_request.specs.declared.ids.Slot.{Slot}
use Rattle.iss_request.specs.declared.requests.Value.{Value}
use Rattle.iss_request.specs.declared.requests.Value.TheVariants.{Batch as Value_batch}
use Rattle.iss_sb.specs.declared.effects.Claim.{Claim}
use Rattle.iss_sb.specs.declared.effects.Input.{Input}
use Rattle.iss_sb.specs.declared.effects.Input.TheVariants.{Cast, Receive}
use Rattle.iss_sb.specs.Calls.{IsGoodParams}
use Rattle.iss_sb.specs.Evidence.{IsCredible, IsReadBatch, IsReadMessage, Separate, is_correct}
use Rattle.iss_sb.specs.Statements.{claim, signature}
use Rattle.iss_sb.proofs.Read.{batch-read}
use Rattle.iss_sb.proofs.Setups.{good-by}
use Rattle.iss_sb.proofs.Signatures.{signature-shape}
use Rattle.iss_composition.specs.Checkpoints.{is_good, scheme_of}
use Rattle.iss_rules.specs.Books.{Signed}
use Rattle.iss_composition.specs.Cluster.{AllSpelled, Cluster, IsBooked, IsHashedLog, IsVerified, MayTake, Reach, Scheme, begin, chain_strings, move}
use Rattle.iss_rules.specs.Concrete.{rules_of}
use Rattle.iss_rules.specs.Verdicts.{verdict_in}
use Rattle.iss_model.specs.Node.{own_claims}
use Rattle.iss_rules.specs.SoundRules.{IsSoundRules}
use Rattle.iss_composition.specs.Ordered.{Among, Ordered}
use Rattle.iss_rules.specs.Past.{initial_history, leads_in, log_of, made_in, params_of, takes}
use Rattle.iss_rules.specs.Rules.{Rules}
use Rattle.iss_rules.specs.Setups.{IsSetupOf}
use Rattle.iss_model.specs.Run.{as_signed, collision_in}
use Rattle.iss_composition.proofs.Chains.{hashed-older, spelled-older}
use Rattle.iss_rules.proofs.Layouts.{however-signed, own-verifies, sound-rules}
use Rattle.iss_theorems.proofs.Refinement.DeliveryChecks.{over-new, over-old, own-is, separate-more}
use Rattle.sb_echo.specs.declared.word.Word.{Word}
use Rattle.sb_echo.specs.declared.word.Word.TheVariants.{Say, Echo as Echo_word}
use Rattle.sb_echo.specs.Echo.{claims, digest_of, echo, statement, string_of}
use Rattle.sb_echo.proofs.Lawful.{digest-length}
use Rattle.sb_echo.proofs.Spelling.{echo-again, say-again}
use Rattle.witness_echo.specs.Shown.{IsWitness, batch, echoed, four, instance, rules, said}

setup-good : IsGoodSetup four
unfolding digests_of_height
setup-good = good-by four refl

setup-of : IsSetupOf echo four
unfolding digests_of_height
setup-of = record { good = setup-good; kind = refl; nodes = refl; majority = refl }

abbrev R : Rules
R = rules

abbrev S : Scheme
S = scheme_of four

pub rules-sound : IsSoundRules four echo R
unfolding digests_of_height
rules-sound = however-signed echo four (rules_of four) R.signed (sound-rules echo four setup-of)

good : IsGoodParams echo instance
unfolding digests_of_height
good = rules-sound.good [] 0 0 refl

abbrev slot : Slot
slot = record { 0 = 0 }

abbrev d : List ℕ
d = digest_of instance batch

-- a node's signature of its batch or echo, with a leaf
abbrev sig : ℕ → ℕ → ℕ → List ℕ
sig k kind leaf = signature instance k leaf (statement instance kind 0 d)

-- ---- what is hashed: for a log of this one batch, and the empty string

abbrev whole : List Value
whole = Value_batch batch ∷ []

abbrev strings : List (List ℕ)
strings = push_all (chain_strings S whole) ([] ∷ [])

batch-again : IsReadBatch instance batch
unfolding digests_of_height
batch-again = batch-read 1 batch (omega arith) (λ q i. elim i [ inl e ↦ rw e refl | inr none ↦ absurd none ])

batch-spelled : S.spells (Value_batch batch) ≡ true
unfolding digests_of_height
batch-spelled = ap (λ (t : List ℕ). is_good (parse_value 1 t)) (sym (append-nil (spell_value 1 (Value_batch batch)))) ∙ ap is_good (batch-again [])

-- the empty log, or the whole log
abbrev IsPart : List Value → Type 0
IsPart log = Extends log whole

whole-hashed : IsHashedLog S strings whole
unfolding digests_of_height
whole-hashed x h = over-new x (chain_strings S whole) ([] ∷ []) h

whole-spelled : AllSpelled S whole
unfolding digests_of_height
whole-spelled v (inl q) = rw q batch-spelled
whole-spelled v (inr none) = absurd none

-- ---- a move

abbrev Net : Type 0
Net = Cluster Word

-- node i processes an input in the instance of node 0, with this next leaf
abbrev after : Net → ℕ → Input Word → ℕ → Net
after w i input leaf = record {
  pasts = set_at w.pasts i (takes R echo i (w.pasts i) 0 input leaf);
  messages = [];
  book = as_signed (own_claims echo (params_of R echo i (w.pasts i) 0) i (made_in R echo i (w.pasts i) 0 input leaf).sends) ++ w.book;
  strings = strings;
}

record Reached (w : Net) : Type 0 where
  reach : Reach four S R echo w
  same : w.strings ≡ strings

-- the premises of a move
record Fits (w : Net) (i : ℕ) (input : Input Word) (leaf : ℕ) : Type 0 where
  correct : is_correct four i ≡ true
  leads : leads_in R echo i (w.pasts i) 0 ≡ true
  may : MayTake four R echo w i 0 input
  judged : verdict_in R echo i (w.pasts i) 0 input ≡ None
  fresh : (x : List ℕ) → In x (made_in R echo i (w.pasts i) 0 input leaf).strings → In x strings
  part : IsPart (log_of R echo i (takes R echo i (w.pasts i) 0 input leaf))

moves : (w : Net) (i : ℕ) (input : Input Word) (leaf : ℕ) → Reached w → Fits w i input leaf →
    Reached (after w i input leaf)
unfolding digests_of_height
moves w i input leaf r f =
    let next = takes R echo i (w.pasts i) 0 input leaf in
    let own = as_signed (own_claims echo (params_of R echo i (w.pasts i) 0) i (made_in R echo i (w.pasts i) 0 input leaf).sends) in
    let here : (after w i input leaf).pasts i ≡ next = set_at-same w.pasts i _ in
    record {
      reach = move i 0 input leaf r.reach (record {
        correct = f.correct;
        leads = f.leads;
        comes = f.may;
        judged = f.judged;
        here = here;
        other = λ j ne. set_at-other w.pasts i _ j ne;
        messages = λ st k h. absurd h;
        book = λ x h. elim (in_append x own w.book h) [
          | inl a ↦ inl (own-is echo (params_of R echo i (w.pasts i) 0) i (made_in R echo i (w.pasts i) 0 input leaf).sends x a)
          | inr b ↦ inr b
        ];
        old_book = λ x h. in_right x own w.book h;
        fresh_strings = f.fresh;
        strings = λ x h. rw r.same at h;
        hashed = rw here (hashed-older S strings (log_of R echo i next) whole f.part whole-hashed);
        spelled = rw here (spelled-older S (log_of R echo i next) whole f.part whole-spelled);
      });
      same = refl;
    }

-- ---- the run

abbrev casts : Input Word
casts = Cast slot batch

abbrev hears-word : Input Word
hears-word = Receive (record { 0 = 0 }) (Say slot batch (sig 0 1 0))

-- the echo of node k, signed with this leaf
abbrev hears : ℕ → ℕ → Input Word
hears k leaf = Receive (record { 0 = k }) (Echo_word slot d (sig k 2 leaf))

abbrev w0 : Net
w0 = record { pasts = λ j. initial_history; messages = []; book = []; strings = strings }

abbrev w1 : Net
w1 = after w0 0 casts 0

abbrev w2 : Net
w2 = after w1 1 hears-word 0

abbrev w3 : Net
w3 = after w2 1 (hears 0 1) 1

abbrev w4 : Net
w4 = after w3 1 (hears 1 0) 1

abbrev pub w5 : Net
w5 = after w4 1 (hears 3 0) 1

-- the string of the batch is that of the value in the log
batch-hashed : (x : List ℕ) → In x (string_of instance batch ∷ []) → In x strings
unfolding digests_of_height
batch-hashed x (inl q) = over-new x (chain_strings S whole) ([] ∷ []) (inl q)
batch-hashed x (inr none) = absurd none

-- a message with one claim, of node k, which verifies, and is in the book if k is correct
credible : (w : Net) (k kind leaf : ℕ) (msg : Word) → k < 4 → leaf < 16 →
    claims instance k msg ≡ claim k (statement instance kind 0 d) (sig k kind leaf) ∷ [] →
    IsReadMessage echo instance msg →
    (is_correct four k ≡ true → IsBooked w.book k (statement instance kind 0 d)) → IsCredible echo instance (IsVerified R) (IsBooked w.book) k msg
unfolding digests_of_height
credible w k kind leaf msg low few is read booked = record {
  named = low;
  read = read;
  verified = λ c h. verified c (rw is at h);
  signed = λ c h ok. signed c (rw is at h) ok;
}
  where
    st : List ℕ
    st = statement instance kind 0 d

    verified : (c : Claim) → In c (claim k (statement instance kind 0 d) (sig k kind leaf) ∷ []) → IsVerified R c
    verified c (inl q) = rw q (own-verifies four k leaf (statement instance kind 0 d) (omega arith) few low)
    verified c (inr none) = absurd none

    signed : (c : Claim) → In c (claim k (statement instance kind 0 d) (sig k kind leaf) ∷ []) →
        is_correct four c.by.0 ≡ true → IsBooked w.book c.by.0 c.statement
    signed c (inl q) ok = (subst (λ (z : Claim). is_correct four z.by.0 ≡ true → IsBooked w.book z.by.0 z.statement) (sym q) booked) ok
    signed c (inr none) ok = absurd none

word-again : IsReadMessage echo instance (Say slot batch (sig 0 1 0))
unfolding digests_of_height
word-again = say-again 1 slot batch (sig 0 1 0) (omega arith) (signature-shape echo instance good 0 0 said) batch-again

again : (k leaf : ℕ) → IsReadMessage echo instance (Echo_word slot d (sig k 2 leaf))
unfolding digests_of_height
again k leaf = echo-again 1 slot d (sig k 2 leaf) (omega arith) (digest-length instance batch) (signature-shape echo instance good k leaf echoed)

r0 : Reached w0
unfolding digests_of_height
r0 = record {
  reach = begin (record { pasts = λ j ok. refl; messages = λ k h. h; book = λ x h. h; root = over-old [] (chain_strings S whole) ([] ∷ []) (inl refl) });
  same = refl;
}

r1 : Reached w1
unfolding digests_of_height
r1 = moves w0 0 casts 0 r0 (record { correct = refl; leads = refl; may = (refl, batch-again); judged = refl; fresh = batch-hashed; part = (whole, refl) })

r2 : Reached w2
unfolding digests_of_height
r2 = moves w1 1 hears-word 0 r1 (record {
  correct = refl;
  leads = refl;
  may = credible w1 0 1 0 (Say slot batch (sig 0 1 0)) (omega arith) (omega arith) refl word-again (λ ok. inl refl);
  judged = refl;
  fresh = batch-hashed;
  part = (whole, refl);
})

r3 : Reached w3
unfolding spell_value spell_batch spell_count spell_request sha256 digest_bytes hash_after compress rounds schedule first_words digests_of_height
r3 = moves w2 1 (hears 0 1) 1 r2 (record {
  correct = refl;
  leads = refl;
  may = credible w2 0 2 1 (Echo_word slot d (sig 0 2 1)) (omega arith) (omega arith) refl (again 0 1) (λ ok. inr (inr (inl refl)));
  judged = refl;
  fresh = λ x h. absurd h;
  part = (whole, refl);
})

r4 : Reached w4
unfolding spell_value spell_batch spell_count spell_request sha256 digest_bytes hash_after compress rounds schedule first_words digests_of_height
r4 = moves w3 1 (hears 1 0) 1 r3 (record {
  correct = refl;
  leads = refl;
  may = credible w3 1 2 0 (Echo_word slot d (sig 1 2 0)) (omega arith) (omega arith) refl (again 1 0) (λ ok. inl refl);
  judged = refl;
  fresh = λ x h. absurd h;
  part = (whole, refl);
})

-- the claims of the faulty node need not be in the book
none-signed : is_correct four 3 ≡ true → IsBooked w4.book 3 echoed
unfolding digests_of_height
none-signed ok = absurd (true≢false (sym ok))

log-is : log_of R echo 1 (w5.pasts 1) ≡ whole
unfolding spell_value spell_batch spell_count spell_request sha256 digest_bytes hash_after compress rounds schedule first_words digests_of_height
log-is = refl

r5 : Reached w5
unfolding spell_value spell_batch spell_count spell_request sha256 digest_bytes hash_after compress rounds schedule first_words digests_of_height
r5 = moves w4 1 (hears 3 0) 1 r4 (record {
  correct = refl;
  leads = refl;
  may = credible w4 3 2 0 (Echo_word slot d (sig 3 2 0)) (omega arith) (omega arith) refl (again 3 0) none-signed;
  judged = refl;
  fresh = λ x h. absurd h;
  part = ([], refl);
})

-- the digests are computed, and are distinct
no-collision : collision_in (chain_strings S whole) ([] ∷ []) ≡ None
unfolding spell_value spell_batch spell_count spell_request sha256 digest_bytes hash_after compress rounds schedule first_words digests_of_height
no-collision = refl

root-separate : Separate (Among ([] ∷ []))
unfolding digests_of_height
root-separate a b (inl p) (inl q) h = p ∙ sym q
root-separate a b (inl p) (inr none) h = absurd none
root-separate a b (inr none) q h = absurd none

strings-separate : Separate (Among w5.strings)
unfolding digests_of_height
strings-separate = separate-more (chain_strings S whole) ([] ∷ []) no-collision root-separate

-- the book has no claim of node 3
by-few : (x : Signed) → In x w5.book → x.by ≡ 3 → ⊥
unfolding digests_of_height
by-few x (inl q) e = absurd (omega (arith, ap (λ (y : Signed). y.by) q, e))
by-few x (inr (inl q)) e = absurd (omega (arith, ap (λ (y : Signed). y.by) q, e))
by-few x (inr (inr (inl q))) e = absurd (omega (arith, ap (λ (y : Signed). y.by) q, e))
by-few x (inr (inr (inr none))) e = none

pub shown : ((w : Cluster Word) → Separate (Among w.strings) → Reach four S R echo w → Ordered four R echo w.pasts) →
    IsWitness
unfolding digests_of_height
shown composed = record {
  cluster = w5;
  reached = r5.reach;
  sound = rules-sound;
  separate = strings-separate;
  word = inr (inl refl);
  first_echo = inr (inr (inl refl));
  second_echo = inl refl;
  faulty = refl;
  unbooked = λ h. by-few _ h refl;
  log = log-is;
  ordered = composed w5 strings-separate r5.reach;
}
