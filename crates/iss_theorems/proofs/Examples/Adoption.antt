-- A cluster of four nodes, one of them faulty. Two nodes fill an epoch, one of them with a message that carries the
-- other's claim, and vote. The third adopts the epoch under a certificate that the faulty node signed too.
use Rattle.std.proofs.Common.{◌≡◌, inl, inr, ℕ, true, cond, List, [], ◌∷◌, ◌++◌, Option, Some, None, refl, sym, ap, ◌∙◌, subst, true≢false, arith}
use Rattle.sha2.specs.Sha256.{compress, digest_bytes, first_words, hash_after, rounds, schedule, sha256}
use Rattle.iss_base.specs.Lists.{Extends, In, push_all, set_at}
use Rattle.iss_base.proofs.Lists.{first-cases, in_append, in_right, set_at-other, set_at-same, some-injective}
use Rattle.iss_request.specs.Formats.{parse_rest, parse_value, spell_value}
use Rattle.iss_request.specs.Parsing.{◌>>=◌, byte, done, such_that}
use Rattle.iss_request.specs.Setup.{IsGoodSetup}
use Rattle.iss_request.specs.declared.ids.Slot.{Slot}
use Rattle.iss_request.specs.declared.requests.Batch.{Batch}
use Rattle.iss_request.specs.declared.requests.Value.{Value}
use Rattle.iss_request.specs.declared.requests.Value.TheVariants.{Nil as Value_nil, Batch as Value_batch}
use Rattle.iss_request.specs.declared.setups.Kind.TheVariants.{Byzantine}
use Rattle.iss_request.specs.declared.setups.Policy.TheVariants.{Simple}
use Rattle.iss_request.specs.declared.setups.Setup.{Setup}
use Rattle.iss_sb.specs.declared.effects.Input.{Input}
use Rattle.iss_sb.specs.declared.effects.Input.TheVariants.{Cast, Receive, Timeout}
use Rattle.iss_sb.specs.declared.effects.Params.{Params}
use Rattle.iss_sb.specs.Calls.{IsGoodParams}
use Rattle.iss_sb.specs.Evidence.{IsReadMessage, Item, Module, Separate, accepts, delivered, is_correct}
use Rattle.iss_sb.specs.Laws.{IsHeard, IsLawful, IsSafe}
use Rattle.iss_sb.proofs.Read.{batch-read}
use Rattle.iss_sb.proofs.Setups.{good-by}
use Rattle.iss_composition.specs.Checkpoints.{scheme_of}
use Rattle.iss_rules.specs.Books.{Signed}
use Rattle.iss_composition.specs.Cluster.{Adopted, AllSpelled, Cert, Cluster, IsHashedLog, MayTake, Reach, Scheme, adopt, begin, chain, chain_strings, ends, move, vote_of}
use Rattle.iss_rules.specs.Past.{adopts, advanced, is_complete, Past, Piece, asked_in, before, log_of, made_in, initial_history, params_of, takes}
use Rattle.iss_rules.specs.Concrete.{rules_of}
use Rattle.iss_rules.specs.Verdicts.{verdict}
use Rattle.iss_model.specs.Node.{own_claims}
use Rattle.iss_composition.specs.Ordered.{Among, Ordered}
use Rattle.iss_rules.specs.Rules.{Rules}
use Rattle.iss_rules.specs.Setups.{IsSetupOf}
use Rattle.iss_model.specs.Run.{as_signed, collision_in}
use Rattle.iss_composition.proofs.Chains.{hashed-older, spelled-older}
use Rattle.iss_composition.proofs.Checkpoints.{exact-of}
use Rattle.iss_rules.proofs.Layouts.{own-verifies, sound-rules}
use Rattle.iss_composition.proofs.Reached.{composition}
use Rattle.iss_composition.proofs.Signing.{Word, is_slot, lawful, made_of, passes, sent-again, signing, slot-in, word-again}
use Rattle.iss_theorems.proofs.Refinement.DeliveryChecks.{over-new, over-old, own-is, separate-more}

-- The module of the example: like the one that signs, but each node delivers nil in all slots as soon as it takes any
-- input.

abbrev nil_if : List (Item Word) → Option Value
nil_if [] = None
nil_if (x ∷ xs) = Some Value_nil

abbrev nodding : Module Word
nodding = record signing { decided = λ p me xs s. cond (is_slot s p.slots) (nil_if xs) None }

as-signing : (p : Params) → IsGoodParams nodding p → IsGoodParams signing p
as-signing p good = record {
  setup = good.setup;
  kind = good.kind;
  nodes = good.nodes;
  majority = good.majority;
  leader = good.leader;
  some =
      good.some;
  few = good.few;
  ascending = good.ascending;
  slots_low = good.slots_low;
  directory = good.directory;
}

as-heard : (p : Params) (i : Input Word) → IsHeard nodding p i → IsHeard signing p i
as-heard p (Cast slot batch) h = h
as-heard p (Receive from msg) h = h
as-heard p Timeout h = h

nodding-lawful : IsLawful nodding
nodding-lawful = record {
  names = lawful.names;
  accepted = lawful.accepted;
  casts = lawful.casts;
  castable = lawful.castable;
  asked_within = lawful.asked_within;
  decided_within = λ p me xs s x h. slot-in s p.slots (passes (is_slot s.0 p.slots) (nil_if xs) x h).0;
  addressed = λ p me xs i leaf k msg good. lawful.addressed p me xs i leaf k msg (as-signing p good);
  read_again = λ p me xs i leaf to msg good low heard came h. sent-again p me i to msg (as-heard p i came) h;
  few = λ p good. lawful.few p (as-signing p good);
  uses = λ p me xs i leaf good. lawful.uses p me xs i leaf (as-signing p good);
}

is-nil : (xs : List (Item Word)) (v : Value) → nil_if xs ≡ Some v → v ≡ Value_nil
is-nil [] v h = absurd (cc)
is-nil (x ∷ xs) v h = sym (some-injective Value_nil v h)

delivers-nil : (p : Params) (me : ℕ) (xs : List (Item Word)) (s : ℕ) (v : Value) → delivered nodding p me xs s ≡ Some v → v ≡ Value_nil
delivers-nil p me [] s v h = absurd (cc)
delivers-nil p me (x ∷ xs) s v h = elim (first-cases (delivered nodding p me xs s) (nodding.decided p me (x ∷ xs) s) v h) [
  | inl a ↦ delivers-nil p me xs s v a
  | inr a ↦ is-nil (x ∷ xs) v (passes (is_slot s p.slots) (nil_if (x ∷ xs)) v a.1).1
]

no-batch : (b : Batch) → Value_batch b ≡ Value_nil → ⊥
no-batch b h = cc

nodding-safe : IsSafe nodding
nodding-safe p w good reached sep = record {
  agreement = λ i j s x y oki okj hi hj. delivers-nil p i (w i) s x hi ∙ sym (delivers-nil p j (w j) s y hj);
  shared = λ i j s t b c oki okj hi hj. absurd (no-batch b (delivers-nil p i (w i) s.0 (Value_batch b) hi));
  integrity = λ i s b okl oki h. absurd (no-batch b (delivers-nil p i (w i) s.0 (Value_batch b) h));
}

abbrev four : Setup
four = record {
  version = 1;
  «module» = 9;
  f = 1;
  epoch = 4;
  buckets = 4;
  batch = 4;
  window = 8;
  policy = Simple;
  clients = 1;
  keys = 4;
  faulty =
      record { 0 = 3 } ∷ [];
  n = 4;
  quorum = 3;
  kind = Byzantine;
  tag = [];
}

setup-good : IsGoodSetup four
setup-good = good-by four refl

setup-of : IsSetupOf nodding four
setup-of = record { good = setup-good; kind = refl; nodes = refl; majority = refl }

abbrev R : Rules
R = rules_of four

abbrev S : Scheme
S = scheme_of four

abbrev nils : List Value
nils = Value_nil ∷ Value_nil ∷ Value_nil ∷ Value_nil ∷ []

-- the strings hashed for an epoch of nils, and the empty string, are all strings
abbrev strings : List (List ℕ)
strings = push_all (chain_strings S nils) ([] ∷ [])

-- a part of the log's strings
abbrev IsPart : List Value → Type 0
IsPart log = Extends log nils

nils-hashed : IsHashedLog S strings nils
nils-hashed x h = over-new x (chain_strings S nils) ([] ∷ []) h

nil-spelled : S.spells Value_nil ≡ true
unfolding parse_value parse_rest spell_value ◌>>=◌ such_that byte done
nil-spelled = refl

nils-spelled : AllSpelled S nils
nils-spelled v (inl q) = rw q nil-spelled
nils-spelled v (inr (inl q)) = rw q nil-spelled
nils-spelled v (inr (inr (inl q))) = rw q nil-spelled
nils-spelled v (inr (inr (inr (inl q)))) = rw q nil-spelled
nils-spelled v (inr (inr (inr (inr none)))) = absurd none

-- the cluster after a move, after an end with a vote, and after an adoption

abbrev Net : Type 0
Net = Cluster Word

abbrev after_move : Net → ℕ → ℕ → Input Word → Net
after_move w i l input = record {
  pasts = set_at w.pasts i (takes R nodding i (w.pasts i) l input 0);
  messages = [];
  book = as_signed (own_claims nodding (params_of R nodding i (w.pasts i) l) i (made_in R nodding i (w.pasts i) l input 0).sends) ++ w.book;
  strings = strings;
}

abbrev after_end : Net → ℕ → Net
after_end w i = record {
  pasts = set_at w.pasts i (advanced (w.pasts i));
  messages = [];
  book = record { by = i; statement = vote_of four S R nodding i (w.pasts i) } ∷ w.book;
  strings = strings;
}

record Reached (w : Net) : Type 0 where
  reach : Reach four S R nodding w
  same : w.strings ≡ strings

no-strings : (i l : ℕ) (c : Past Word) (input : Input Word) (x : List ℕ) → In x (made_in R nodding i c l input 0).strings → In x strings
no-strings i l c input x h = go (nodding.asks (params_of R nodding i c l) i (c.evidence c.epoch l) input) h
  where
    go : (o : Option Word) → In x (made_of o).strings → In x strings
    go None k = absurd k
    go (Some w) k = absurd k

moves : (w : Net) → Reached w → (i l : ℕ) (input : Input Word) → is_correct four i ≡ true →
    R.leads (before R nodding i (w.pasts i) (w.pasts i).epoch) (w.pasts i).epoch l ≡ true → MayTake four R nodding w i l input →
    verdict R (before R nodding i (w.pasts i) (w.pasts i).epoch) (w.pasts i).epoch l (accepts ((w.pasts i).evidence (w.pasts i).epoch l))
    (asked_in R nodding i (w.pasts i) l input) ≡ None →
    IsPart (log_of R nodding i (takes R nodding i (w.pasts i) l input 0)) → Reached (after_move w i l input)
moves w r i l input correct leads may judged part =
    let p : Params = params_of R nodding i (w.pasts i) l in
    let sends = (made_in R nodding i (w.pasts i) l input 0).sends in
    let here : (after_move w i l input).pasts i ≡ takes R nodding i (w.pasts i) l input 0 = set_at-same w.pasts i _ in
    record {
      reach = move i l input 0 r.reach (record {
        correct = correct;
        leads = leads;
        comes = may;
        judged = judged;
        here = here;
        other = λ j ne. set_at-other w.pasts i _ j ne;
        messages = λ st k h. absurd h;
        book = λ x h. elim (in_append x (as_signed (own_claims nodding p i sends)) w.book h) [ inl a ↦ inl (own-is nodding p i sends x a) | inr b ↦ inr b ];
        old_book = λ x h. in_right x (as_signed (own_claims nodding p i sends)) w.book h;
        fresh_strings = λ x h. no-strings i l (w.pasts i) input x h;
        strings = λ x h. rw r.same at h;
        hashed = rw here (hashed-older S strings (log_of R nodding i (takes R nodding i (w.pasts i) l input 0)) nils part nils-hashed);
        spelled = rw here (spelled-older S (log_of R nodding i (takes R nodding i (w.pasts i) l input 0)) nils part nils-spelled);
      });
      same = refl;
    }

votes : (w : Net) → Reached w → (i : ℕ) → is_correct four i ≡ true → is_complete R nodding i (w.pasts i) ≡ true →
    IsPart (log_of R nodding i (advanced (w.pasts i))) → Reached (after_end w i)
votes w r i correct complete part =
    let here : (after_end w i).pasts i ≡ advanced (w.pasts i) = set_at-same w.pasts i _ in
    record {
      reach = ends i r.reach (record {
        correct = correct;
        complete = complete;
        here = here;
        other = λ j ne. set_at-other w.pasts i _ j ne;
        quiet = record { messages = λ st k h. absurd h; old_book = λ x h. inr h; strings = λ x h. rw r.same at h };
        book = λ x h. elim h [ inl q ↦ inr (ap (λ (y : Signed). y.by) q, ap (λ (y : Signed). y.statement) q) | inr k ↦ inl k ];
        hashed = rw here (hashed-older S strings (log_of R nodding i (advanced (w.pasts i))) nils part nils-hashed);
        spelled = rw here (spelled-older S (log_of R nodding i (advanced (w.pasts i))) nils part nils-spelled);
      });
      same = refl;
    }

-- node 0 proposes, and its timers fire in all other instances; node 1 takes its message

abbrev slot : Slot
slot = record { 0 = 0 }

abbrev casts : Input Word
casts = Cast slot []

abbrev hears : Input Word
hears = Receive (record { 0 = 0 }) (slot, [])

abbrev w0 : Net
w0 = record { pasts = λ j. initial_history; messages = []; book = []; strings = strings }

abbrev w1 : Net
w1 = after_move w0 0 0 casts

abbrev w2 : Net
w2 = after_move w1 0 1 Timeout

abbrev w3 : Net
w3 = after_move w2 0 2 Timeout

abbrev w4 : Net
w4 = after_move w3 0 3 Timeout

abbrev w5 : Net
w5 = after_end w4 0

abbrev w6 : Net
w6 = after_move w5 1 0 hears

abbrev w7 : Net
w7 = after_move w6 1 1 Timeout

abbrev w8 : Net
w8 = after_move w7 1 2 Timeout

abbrev w9 : Net
w9 = after_move w8 1 3 Timeout

abbrev pub w10 : Net
w10 = after_end w9 1

r0 : Reached w0
r0 = record {
  reach =
      begin (record { pasts = λ j ok. refl; messages = λ k h. h; book = λ x h. h; root = over-old [] (chain_strings S nils) ([] ∷ []) (inl refl) });
  same = refl;
}

r1 : Reached w1
r1 = moves w0 r0 0 0 casts refl refl (refl, batch-read 1 [] (omega arith) (λ q i. absurd i)) refl (Value_nil ∷ Value_nil ∷ Value_nil ∷ [], refl)

r2 : Reached w2
r2 = moves w1 r1 0 1 Timeout refl refl tt refl (Value_nil ∷ Value_nil ∷ [], refl)

r3 : Reached w3
r3 = moves w2 r2 0 2 Timeout refl refl tt refl (Value_nil ∷ [], refl)

r4 : Reached w4
r4 = moves w3 r3 0 3 Timeout refl refl tt refl ([], refl)

r5 : Reached w5
r5 = votes w4 r4 0 refl refl ([], refl)

-- the message decodes, and its claim is node 0's and in the book
word-read : IsReadMessage nodding (params_of R nodding 1 (w5.pasts 1) 0) (slot, [])
word-read = word-again 1 slot [] (batch-read 1 [] (omega arith) (λ q i. absurd i))

heard : MayTake four R nodding w5 1 0 hears
heard = record {
  named = omega arith;
  read = word-read;
  verified = λ c h. elim h [ inl q ↦ rw q (own-verifies four 0 0 _ (omega arith) (omega arith) (omega arith)) | inr none ↦ absurd none ];
  signed = λ c h ok. elim h [ inl q ↦ rw q (inr (inl refl)) | inr none ↦ absurd none ];
}

r6 : Reached w6
r6 = moves w5 r5 1 0 hears refl refl heard refl (Value_nil ∷ Value_nil ∷ Value_nil ∷ [], refl)

r7 : Reached w7
r7 = moves w6 r6 1 1 Timeout refl refl tt refl (Value_nil ∷ Value_nil ∷ [], refl)

r8 : Reached w8
r8 = moves w7 r7 1 2 Timeout refl refl tt refl (Value_nil ∷ [], refl)

r9 : Reached w9
r9 = moves w8 r8 1 3 Timeout refl refl tt refl ([], refl)

r10 : Reached w10
r10 = votes w9 r9 1 refl refl ([], refl)

-- node 2 adopts the epoch under the votes of nodes 0 and 1 and of the faulty node, whose vote may be anything

abbrev piece : Piece
piece = record { epoch = 0; values = nils }

abbrev cert : Cert
cert = record { chain = chain S nils; number = 0; signed = record { by = 0; sig = [] } ∷ record { by = 1; sig = [] } ∷ record { by = 3; sig = [] } ∷ [] }

abbrev pub last_net : Net
last_net = record { pasts = set_at w10.pasts 2 (adopts (w10.pasts 2) piece); messages = []; book = w10.book; strings = strings }

third-votes : (k : ℕ) → k ≡ 3 → is_correct four k ≡ true → ⊥
third-votes k q ok = true≢false (sym (subst (λ (n : ℕ). is_correct four n ≡ true) q ok))

the-adoption : Adopted four S R nodding w10 last_net 2 piece cert
the-adoption = record {
  correct = refl;
  epoch = refl;
  whole = refl;
  quorum = refl;
  votes = λ k h ok. elim h [
    | inl q ↦ rw q (inr (inl refl))
    | inr m ↦ elim m [ inl q ↦ rw q (inl refl) | inr n ↦ elim n [ inl q ↦ absurd (third-votes k q ok) | inr none ↦ absurd none ] ]
  ];
  chained = refl;
  piece_hashed = nils-hashed;
  piece_spelled = nils-spelled;
  here = refl;
  other = λ j ne. set_at-other w10.pasts 2 (adopts (w10.pasts 2) piece) j ne;
  quiet = record { messages = λ st k h. absurd h; old_book = λ x h. h; strings = λ x h. h };
  book = λ x h. h;
  hashed = nils-hashed;
  spelled = nils-spelled;
}

pub reached : Reach four S R nodding last_net
reached = adopt 2 piece cert r10.reach the-adoption

-- the digests are computed, and are pairwise different
no-collision : collision_in (chain_strings S nils) ([] ∷ []) ≡ None
unfolding spell_value sha256 digest_bytes hash_after compress rounds schedule first_words
no-collision = refl

root-separate : Separate (Among ([] ∷ []))
root-separate a b (inl p) (inl q) h = p ∙ sym q
root-separate a b (inl p) (inr none) h = absurd none
root-separate a b (inr none) q h = absurd none

pub separate : Separate (Among last_net.strings)
separate = separate-more (chain_strings S nils) ([] ∷ []) no-collision root-separate

-- node 2 took no input, and its log equals the others'
pub log-adopted : log_of R nodding 2 (last_net.pasts 2) ≡ nils
log-adopted = refl

pub four-ordered : Ordered four R nodding last_net.pasts
four-ordered = composition four S R nodding nodding-safe nodding-lawful (sound-rules nodding four setup-of) last_net
    (exact-of four setup-good last_net) separate reached
