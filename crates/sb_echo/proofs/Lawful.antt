-- The laws of single steps hold of echo.
use Rattle.std.proofs.Common.{◌≡◌, ◌≤◌, ◌<◌, ◌+◌, ◌^◌, ℕ, Bool, true, false, List, [], ◌∷◌, ◌++◌, length, Option, Some, None, refl, sym, ap, ◌∙◌, subst, inl, inr, arith}
use Rattle.sha2.proofs.Facts256.{length-sha256}
use Rattle.iss_base.specs.Lists.{In}
use Rattle.iss_base.proofs.Lists.{first-cases}
use Rattle.iss_sb.proofs.Inputs.{cast-is}
use Rattle.iss_request.specs.declared.ids.NodeId.{NodeId}
use Rattle.iss_request.specs.declared.ids.Slot.{Slot}
use Rattle.iss_request.specs.declared.requests.Batch.{Batch}
use Rattle.iss_request.specs.declared.requests.Value.{Value}
use Rattle.iss_request.specs.Fields.{IsReadAgain}
use Rattle.iss_request.specs.Formats.{parse_value, spell_value}
use Rattle.iss_sb.specs.declared.effects.Claim.{Claim}
use Rattle.iss_sb.specs.declared.effects.Input.{Input}
use Rattle.iss_sb.specs.declared.effects.Input.TheVariants.{Cast, Receive}
use Rattle.iss_sb.specs.declared.effects.Params.{Params}
use Rattle.iss_sb.specs.declared.effects.To.{To}
use Rattle.iss_sb.specs.declared.effects.To.TheVariants.{All as To_all, One as To_one}
use Rattle.iss_sb.specs.Calls.{IsGoodParams}
use Rattle.iss_sb.specs.Evidence.{Item, Made, IsReadBatch, IsReadMessage}
use Rattle.iss_sb.specs.Laws.{AreHeard, DecidesReadable, IsHeard, IsLawful}
use Rattle.iss_sb.specs.Statements.{eight_bytes, signature, statement_head}
use Rattle.iss_sb.proofs.Signatures.{signature-shape}
use Rattle.iss_sb.proofs.Slots.{below-In, has_slot-In}
use Rattle.sb_echo.specs.declared.word.Word.{Word}
use Rattle.sb_echo.specs.declared.word.Word.TheVariants.{Say, Echo as Echo_word}
use Rattle.sb_echo.specs.Echo.{asks, batch_for, claims, digest_of, echo, echo_of, is_cast, made_of, makes, say, statement, string_of, tag, taken, words}
use Rattle.sb_echo.proofs.Bytes.{same-is}
use Rattle.sb_echo.proofs.Facts.{IsOwn, Same, accepted-is, asked, batch_for-is, decided-is}
use Rattle.sb_echo.proofs.Spelling.{echo-again, say-again, say-read}

named : (p : Params) (from : ℕ) (msg : Word) (c : Claim) → In c (claims p from msg) →
    (rest : List ℕ) × (c.statement ≡ statement_head p tag ++ rest)
named p from (Say slot batch sig) c (inl e) = (1 ∷ (eight_bytes slot.0 ++ digest_of p batch), ap (λ (z : Claim). z.statement) e)
named p from (Say slot batch sig) c (inr h) = absurd h
named p from (Echo_word slot d sig) c (inl e) = (2 ∷ (eight_bytes slot.0 ++ d), ap (λ (z : Claim). z.statement) e)
named p from (Echo_word slot d sig) c (inr h) = absurd h

no-word : (s : Slot) (b : Batch) (from : NodeId) (msg : Word) → Same (Cast s b) (Receive from msg) → ⊥
no-word s b from msg h = cc

-- only the leader accepts a cast
own : (p : Params) (me : ℕ) (xs : List (Item Word)) (s : Slot) (b : Batch) (x : Slot × Batch) →
    asks p me xs (Cast s b) ≡ Some x → IsOwn p me (Cast s b) x
own p me xs s b x h = elim (asked p me xs (Cast s b) x h).cause [
  | inl o ↦ o
  | inr told ↦ absurd (no-word s b p.leader (Say x.0 x.1 told.sig) told.input)
]

castable : (p : Params) (me : ℕ) (xs : List (Item Word)) (s : Slot) (b c : Batch) →
    asks p me xs (Cast s b) ≡ Some (s, b) → asks p me xs (Cast s c) ≡ Some (s, c)
castable p me xs s b c h =
    let a = asked p me xs (Cast s b) (s, b) h in
    let leads : me ≡ p.leader.0 = (own p me xs s b (s, b) h).leads in
    let fresh : taken s.0 xs ≡ None = a.free.fresh in
    rw (same-is me p.leader.0 leads, a.free.within, fresh) refl

used-is : (p : Params) (me leaf : ℕ) (cast : Bool) (o : Option (Slot × Batch)) → (made_of p me leaf cast o).used ≤ 2
used-is p me leaf cast None = omega arith
used-is p me leaf true (Some a) = omega arith
used-is p me leaf false (Some a) = omega arith

one-all : (k : NodeId) → To_one k ≡ To_all → ⊥
one-all k h = cc

-- echo sends only to all
to-all : (p : Params) (me leaf : ℕ) (cast : Bool) (o : Option (Slot × Batch)) (k : NodeId) (msg : Word) →
    In {A = To × Word} (To_one k, msg) (made_of p me leaf cast o).sends → ⊥
to-all p me leaf cast None k msg h = h
to-all p me leaf true (Some a) k msg (inl e) = one-all k (ap (λ (z : To × Word). z.0) e)
to-all p me leaf true (Some a) k msg (inr (inl e)) = one-all k (ap (λ (z : To × Word). z.0) e)
to-all p me leaf true (Some a) k msg (inr (inr h)) = h
to-all p me leaf false (Some a) k msg (inl e) = one-all k (ap (λ (z : To × Word). z.0) e)
to-all p me leaf false (Some a) k msg (inr h) = h

-- ---- what is sent decodes

-- the batch of an input that decodes decodes
asked-read : (p : Params) (me : ℕ) (xs : List (Item Word)) (i : Input Word) (a : Slot × Batch) → IsHeard echo p i →
    asks p me xs i ≡ Some a → IsReadBatch p a.1
asked-read p me xs i a heard h = elim (asked p me xs i a h).cause [
  | inl own ↦ subst (λ (z : Input Word). IsHeard echo p z) own.input heard
  | inr told ↦ let k : IsHeard echo p (Receive p.leader (Say a.0 a.1 told.sig)) = subst (λ (z : Input Word). IsHeard echo p z) told.input heard in say-read p.setup.version a.0 a.1 told.sig k.1
]

pub digest-length : (p : Params) (b : Batch) → length (digest_of p b) ≡ 32
digest-length p b = length-sha256 (string_of p b)

module _ (p : Params) (me : ℕ) (good : IsGoodParams echo p) (a : Slot × Batch) (low : a.0.0 < 2 ^ 64) (read : IsReadBatch p a.1) where
  said-again : (leaf : ℕ) → IsReadMessage echo p (say p me leaf a)
  said-again leaf = say-again p.setup.version a.0 a.1 (signature p me leaf (statement p 1 a.0.0 (digest_of p a.1))) low (signature-shape echo p good me leaf (statement p 1 a.0.0 (digest_of p a.1))) read

  echoed-again : (leaf : ℕ) → IsReadMessage echo p (echo_of p me leaf a)
  echoed-again leaf = echo-again p.setup.version a.0 (digest_of p a.1) (signature p me leaf (statement p 2 a.0.0 (digest_of p a.1))) low (digest-length p a.1) (signature-shape echo p good me leaf (statement p 2 a.0.0 (digest_of p a.1)))

  words-again : (leaf : ℕ) (cast : Bool) (to : To) (msg : Word) →
      In {A = To × Word} (to, msg) (words p me leaf cast a) → IsReadMessage echo p msg
  words-again leaf true to msg (inl e) = subst (λ (z : To × Word). IsReadMessage echo p z.1) (sym e) (said-again leaf)
  words-again leaf true to msg (inr (inl e)) = subst (λ (z : To × Word). IsReadMessage echo p z.1) (sym e) (echoed-again (leaf + 1))
  words-again leaf true to msg (inr (inr h)) = absurd h
  words-again leaf false to msg (inl e) = subst (λ (z : To × Word). IsReadMessage echo p z.1) (sym e) (echoed-again leaf)
  words-again leaf false to msg (inr h) = absurd h

sent-again : (p : Params) (me : ℕ) (xs : List (Item Word)) (i : Input Word) (leaf : ℕ) (to : To) (msg : Word) →
    IsGoodParams echo p → IsHeard echo p i → In {A = To × Word} (to, msg) (makes p me xs i leaf).sends →
    IsReadMessage echo p msg
sent-again p me xs i leaf to msg good heard h = go (asks p me xs i) refl h
  where
    go : (o : Option (Slot × Batch)) → asks p me xs i ≡ o →
        In {A = To × Word} (to, msg) (made_of p me leaf (is_cast i) o).sends → IsReadMessage echo p msg
    go None q k = absurd k
    go (Some a) q k =
        let low = below-In (2 ^ 64) a.0 p.slots good.slots_low (has_slot-In a.0 p.slots (asked p me xs i a q).free.within) in
        words-again p me good a low (asked-read p me xs i a heard q) leaf (is_cast i) to msg k

pub echo-lawful : IsLawful echo
echo-lawful = record {
  names = named;
  accepted = λ p me xs i leaf. accepted-is p me leaf (is_cast i) (asks p me xs i);
  casts = λ p me xs s b x h. cast-is s b x (own p me xs s b x h).input;
  castable = castable;
  asked_within = λ p me xs i x h. has_slot-In x.0 p.slots (asked p me xs i x h).free.within;
  decided_within = λ p me xs s x h. has_slot-In s p.slots (decided-is p me xs s.0 x h).within;
  addressed = λ p me xs i leaf k msg good input h. absurd (to-all p me leaf (is_cast i) (asks p me xs i) k msg h);
  read_again = λ p me xs i leaf to msg good below heard hears h. sent-again p me xs i leaf to msg good hears h;
  few = λ p good. omega arith;
  uses = λ p me xs i leaf good input. used-is p me leaf (is_cast i) (asks p me xs i);
}

-- ---- what is decided decodes

-- the batch of a slot came with an input
taken-read : (p : Params) (me : ℕ) (xs : List (Item Word)) (s : ℕ) (b : Batch) → AreHeard echo p me xs →
    taken s xs ≡ Some b → IsReadBatch p b
taken-read p me [] s b heard h = absurd (cc)
taken-read p me (x ∷ xs) s b heard h = elim (first-cases (taken s xs) (batch_for s x.made.accepted) b h) [
  | inl old ↦ taken-read p me xs s b heard.2 old
  | inr new ↦
      let asked_for : asks p me xs x.input ≡ Some (record { 0 = s }, b) = sym (accepted-is p me x.leaf (is_cast x.input) (asks p me xs x.input)) ∙ sym (ap (λ (z : Made Word). z.accepted) heard.1) ∙ batch_for-is s x.made.accepted b new.1 in
      asked-read p me xs x.input (record { 0 = s }, b) heard.0 asked_for
]

pub echo-decides-readable : DecidesReadable echo
echo-decides-readable p me xs s x good below heard h =
    let d = decided-is p me xs s x h in
    subst (λ (z : Value). IsReadAgain (spell_value p.setup.version) (parse_value p.setup.version) z) (sym d.value) (taken-read p me xs s d.batch heard d.taken)
