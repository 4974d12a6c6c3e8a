-- A witness: a cluster of one node that leads, proposes, and votes at the end of its epoch. Its claim and its vote are
-- in the book. Every premise of the composition theorem holds, so applying it gives what it states of this cluster.
use Rattle.std.proofs.Common.{◌≡◌, ◌≢◌, inl, inr, ℕ, suc, ◌==◌, ◌&&◌, ◌+◌, ◌*◌, ◌≤◌, ◌<◌, Bool, true, false, cond, eqb, List, [], ◌∷◌, ◌++◌, Option, Some, None, refl, sym, ap, ap₂, ◌∙◌, subst, arith, true≢false, replicate}
use Rattle.sha2.specs.Sha256.{compress, digest_bytes, first_words, hash_after, rounds, schedule, sha256}
use Rattle.iss_base.specs.Heights.{digests_of_height}
use Rattle.iss_base.specs.Lists.{In, set_at}
use Rattle.iss_base.proofs.Lists.{and-true, first-cases, in_left, in_right, is-eq, set_at-other, some-injective}
use Rattle.iss_request.specs.Digest.{digest}
use Rattle.iss_request.specs.Fields.{Bad, Good, IsReadAgain, Parsed}
use Rattle.iss_request.specs.Formats.{count_field, parse_batch, parse_count, parse_payload, parse_request, parse_rest, parse_signature, parse_value, spell_batch, spell_count, spell_request, spell_value}
use Rattle.iss_request.specs.Parsing.{◌>>=◌, block, byte, digests, done, number, such_that, times}
use Rattle.iss_request.specs.Setup.{IsGoodSetup}
use Rattle.iss_request.specs.declared.ids.NodeId.{NodeId}
use Rattle.iss_request.specs.declared.ids.Slot.{Slot}
use Rattle.iss_request.specs.declared.requests.Batch.{Batch}
use Rattle.iss_request.specs.declared.requests.Value.{Value}
use Rattle.iss_request.specs.declared.requests.Value.TheVariants.{Nil as Value_nil, Batch as Value_batch}
use Rattle.iss_request.specs.declared.setups.Kind.TheVariants.{Byzantine}
use Rattle.iss_request.specs.declared.setups.Policy.TheVariants.{Simple}
use Rattle.iss_request.specs.declared.setups.Setup.{Setup}
use Rattle.iss_sb.specs.declared.effects.Claim.{Claim}
use Rattle.iss_sb.specs.declared.effects.Input.{Input}
use Rattle.iss_sb.specs.declared.effects.Input.TheVariants.{Cast, Receive, Timeout}
use Rattle.iss_sb.specs.declared.effects.Params.{Params}
use Rattle.iss_sb.specs.declared.effects.To.{To}
use Rattle.iss_sb.specs.declared.effects.To.TheVariants.{All as To_all, One as To_one}
use Rattle.iss_sb.specs.Evidence.{IsReadMessage, Item, Made, Module, Separate, World, accepts, delivered, is_correct, one_or_none}
use Rattle.iss_sb.specs.Laws.{IsBroadcast, IsHeard, IsLawful, IsSafe}
use Rattle.iss_sb.specs.Statements.{eight_bytes, signature, statement_head}
use Rattle.iss_sb.proofs.Read.{batch-read}
use Rattle.iss_sb.proofs.Setups.{good-by}
use Rattle.iss_composition.specs.Checkpoints.{scheme_of}
use Rattle.iss_rules.specs.Books.{Signed}
use Rattle.iss_composition.specs.Cluster.{Cluster, Ended, Moved, Reach, Scheme, begin, chain_strings, ends, move, vote_of, vote_statement}
use Rattle.iss_composition.proofs.Heads.{Names}
use Rattle.iss_rules.specs.Past.{advanced, Past, log_of, initial_history, takes}
use Rattle.iss_rules.specs.Concrete.{rules_of}
use Rattle.iss_composition.specs.Ordered.{Among, Ordered}
use Rattle.iss_rules.specs.Rules.{Rules}
use Rattle.iss_rules.specs.Setups.{IsSetupOf}
use Rattle.iss_composition.proofs.Checkpoints.{exact-of}
use Rattle.iss_rules.proofs.Layouts.{however-signed, sound-rules}
use Rattle.iss_composition.proofs.Reached.{composition}
use Rattle.iss_rules.proofs.Nodes.{correct-below}

abbrev pub Word : Type 0
Word = Slot × Batch

-- the module: the leader accepts what it proposes, sends it to all with its signature, and delivers it at once

abbrev pub is_slot : ℕ → List Slot → Bool
is_slot n [] = false
is_slot n (s ∷ ss) = cond (n == s.0) true (is_slot n ss)

abbrev pub asks : Params → ℕ → Input Word → Option Word
asks p me (Cast slot batch) = cond ((me == p.leader.0) && is_slot slot.0 p.slots) (Some (slot, batch)) None
asks p me (Receive from word) = None
asks p me Timeout = None

abbrev pub made_of : Option Word → Made Word
made_of None = record { sends = []; accepted = None; strings = []; used = 0 }
made_of (Some w) = record { sends = (To_all, w) ∷ []; accepted = Some w; strings = []; used = 1 }

abbrev pub statement_of : Params → Word → List ℕ
statement_of p w = statement_head p 9 ++ (1 ∷ (eight_bytes w.0.0 ++ spell_value p.setup.version (Value_batch w.1)))

-- the encoding has no signature, since all know here the one by a node's first leaf
abbrev pub claim_of : Params → ℕ → Word → Claim
claim_of p from w =
    let statement = statement_of p w in
    record { by = record { 0 = from }; statement = statement; sig = signature p from 0 statement }

abbrev pub found : ℕ → List Word → Option Value
found s [] = None
found s (x ∷ xs) = cond (x.0.0 == s) (Some (Value_batch x.1)) (found s xs)

-- a message's encoding: the slot's number, and the value that holds the batch
abbrev pub word_in : ℕ → Parsed Value → Parsed Word
word_in n (Good Value_nil rest) = Bad 1
word_in n (Good (Value_batch batch) rest) = Good (record { 0 = n }, batch) rest
word_in n (Bad at) = Bad (suc at)

abbrev pub read_word : ℕ → List ℕ → Parsed Word
read_word version [] = Bad 0
read_word version (n ∷ bytes) = word_in n (parse_value version bytes)

abbrev pub signing : Module Word
signing = record {
  nodes = λ f. 3 * f + 1;
  quorum = λ f. 2 * f + 1;
  stopping = false;
  tag = 9;
  signs = λ p. 1;
  spell = λ version w. w.0.0 ∷ spell_value version (Value_batch w.1);
  parse = read_word;
  claims = λ p from w. claim_of p from w ∷ [];
  asks = λ p me xs input. asks p me input;
  makes = λ p me xs input leaf. made_of (asks p me input);
  decided = λ p me xs s. cond ((me == p.leader.0) && is_slot s p.slots) (found s (accepts xs)) None;
}

-- its laws

pub slot-in : (s : Slot) (ss : List Slot) → is_slot s.0 ss ≡ true → In s ss
slot-in s [] h = absurd (true≢false (sym h))
slot-in s (t ∷ ts) h = go (eqb s.0 t.0) refl h (slot-in s ts)
  where
    go : (b : Bool) → eqb s.0 t.0 ≡ b → cond b true (is_slot s.0 ts) ≡ true → (is_slot s.0 ts ≡ true → In s ts) → In s (t ∷ ts)
    go true q k ih = inl (ap (λ (n : ℕ). record { 0 = n }) (is-eq s.0 t.0 q))
    go false q k ih = inr (ih k)

pub passes : {A : Type 0} (b : Bool) (o : Option A) (x : A) → cond b o None ≡ Some x → (b ≡ true) × (o ≡ Some x)
passes true o x h = (refl, h)
passes false o x h = absurd (cc)

asked : (p : Params) (me : ℕ) (input : Input Word) (x : Word) → asks p me input ≡ Some x → In x.0 p.slots
asked p me (Cast slot batch) x h =
    let k = passes ((me == p.leader.0) && is_slot slot.0 p.slots) (Some (slot, batch)) x h in
    subst (λ (y : Word). In y.0 p.slots) (some-injective (slot, batch) x k.1)
    (slot-in slot p.slots (and-true (me == p.leader.0) (is_slot slot.0 p.slots) k.0).1)
asked p me (Receive from word) x h = absurd (cc)
asked p me Timeout x h = absurd (cc)

made-accepted : (o : Option Word) → (made_of o).accepted ≡ o
made-accepted None = refl
made-accepted (Some w) = refl

made-used : (o : Option Word) → (made_of o).used ≤ 1
made-used None = omega arith
made-used (Some w) = omega arith

abbrev some_word : Slot → Batch → Option Word
some_word s b = Some (s, b)

open_to_any : (b : Bool) (s : Slot) (x y : Batch) → cond b (some_word s x) None ≡ some_word s x → cond b (some_word s y) None ≡ some_word s y
open_to_any true s x y h = refl
open_to_any false s x y h = absurd (cc)

to_all : (o : Option Word) (k : NodeId) (msg : Word) (n : ℕ) → In {A = To × Word} (To_one k, msg) (made_of o).sends → k.0 < n
to_all None k msg n h = absurd h
to_all (Some w) k msg n (inl q) = absurd (to_one (ap (λ (x : To × Word). x.0) q))
  where
    to_one : To_one k ≡ To_all → ⊥
    to_one e = cc
to_all (Some w) k msg n (inr h) = absurd h

-- a message whose batch has an encoding has one
pub word-again : (version : ℕ) (s : Slot) (b : Batch) → IsReadAgain (spell_value version) (parse_value version) (Value_batch b) →
    IsReadAgain (signing.spell version) (signing.parse version) (s, b)
word-again version s b h rest = ap (word_in s.0) (h rest)

cast-sent : (t : Bool) (w : Word) (to : To) (msg : Word) → In {A = To × Word} (to, msg) (made_of (cond t (Some w) None)).sends → msg ≡ w
cast-sent true w to msg (inl q) = ap (λ (x : To × Word). x.1) q
cast-sent true w to msg (inr none) = absurd none
cast-sent false w to msg h = absurd h

pub sent-again : (p : Params) (me : ℕ) (i : Input Word) (to : To) (msg : Word) → IsHeard signing p i →
    In {A = To × Word} (to, msg) (made_of (asks p me i)).sends → IsReadMessage signing p msg
sent-again p me (Cast slot batch) to msg heard h =
    let is = cast-sent ((me == p.leader.0) && is_slot slot.0 p.slots) (slot, batch) to msg h in
    subst (λ (w : Word). IsReadMessage signing p w) (sym is) (word-again p.setup.version slot batch heard)
sent-again p me (Receive from word) to msg heard h = absurd h
sent-again p me Timeout to msg heard h = absurd h

pub lawful : IsLawful signing
lawful = record {
  names = λ p from msg c inside. elim inside [
    | inl q ↦ (1 ∷ (eight_bytes msg.0.0 ++ spell_value p.setup.version (Value_batch msg.1)), ap (λ (d : Claim). d.statement) q)
    | inr none ↦ absurd none
  ];
  accepted = λ p me xs i leaf. made-accepted (asks p me i);
  casts = λ p me xs s b x h. sym (some-injective (s, b) x (passes ((me == p.leader.0) && is_slot s.0 p.slots) (Some (s, b)) x h).1);
  castable = λ p me xs s b c h. open_to_any ((me == p.leader.0) && is_slot s.0 p.slots) s b c h;
  asked_within = λ p me xs i x h. asked p me i x h;
  decided_within = λ p me xs s x h. slot-in s p.slots
      (and-true (me == p.leader.0) (is_slot s.0 p.slots) (passes ((me == p.leader.0) && is_slot s.0 p.slots) (found s.0 (accepts xs)) x h).0).1;
  addressed = λ p me xs i leaf k msg good fits h. to_all (asks p me i) k msg p.setup.n h;
  read_again = λ p me xs i leaf to msg good low heard came h. sent-again p me i to msg came h;
  few = λ p good. omega arith;
  uses = λ p me xs i leaf good fits. made-used (asks p me i);
}

found-in : (s : Slot) (xs : List Word) (b : Batch) → found s.0 xs ≡ Some (Value_batch b) → In {A = Word} (s, b) xs
found-in s [] b h = absurd (cc)
found-in s (x ∷ xs) b h = go (eqb x.0.0 s.0) refl h (found-in s xs b)
  where
    same : (c : Batch) → Some (Value_batch c) ≡ Some (Value_batch b) → c ≡ b
    same c e = cc

    go : (t : Bool) → eqb x.0.0 s.0 ≡ t → cond t (Some (Value_batch x.1)) (found s.0 xs) ≡ Some (Value_batch b) →
        (found s.0 xs ≡ Some (Value_batch b) → In {A = Word} (s, b) xs) → In {A = Word} (s, b) (x ∷ xs)
    go true q k ih = inl (ap₂ (λ (n : ℕ) (c : Batch). (record { 0 = n }, c)) (sym (is-eq x.0.0 s.0 q)) (sym (same x.1 k)))
    go false q k ih = inr (ih k)

-- only the leader delivers, and it accepted the batch
delivers-leader : (p : Params) (me : ℕ) (xs : List (Item Word)) (s : ℕ) (v : Value) → delivered signing p me xs s ≡ Some v → me ≡ p.leader.0
delivers-leader p me [] s v h = absurd (cc)
delivers-leader p me (x ∷ xs) s v h = elim (first-cases (delivered signing p me xs s) (signing.decided p me (x ∷ xs) s) v h) [
  | inl a ↦ delivers-leader p me xs s v a
  | inr a ↦ is-eq me p.leader.0
      (and-true (eqb me p.leader.0) (is_slot s p.slots) (passes (eqb me p.leader.0 && is_slot s p.slots) (found s (accepts (x ∷ xs))) v a.1).0).0
]

delivers-accepted : (p : Params) (me : ℕ) (xs : List (Item Word)) (s : Slot) (b : Batch) → delivered signing p me xs s.0 ≡ Some (Value_batch b) →
    In {A = Word} (s, b) (accepts xs)
delivers-accepted p me [] s b h = absurd (cc)
delivers-accepted p me (x ∷ xs) s b h = elim (first-cases (delivered signing p me xs s.0) (signing.decided p me (x ∷ xs) s.0) (Value_batch b) h) [
  | inl a ↦ in_right (s, b) (one_or_none x.made.accepted) (accepts xs) (delivers-accepted p me xs s b a)
  | inr a ↦ found-in s (accepts (x ∷ xs)) b (passes (eqb me p.leader.0 && is_slot s.0 p.slots) (found s.0 (accepts (x ∷ xs))) (Value_batch b) a.1).1
]

gives : (p : Params) (w : World Word) → IsBroadcast signing p w
gives p w = record {
  agreement = λ i j s x y oki okj hi hj.
      let q : j ≡ i = delivers-leader p j (w j) s y hj ∙ sym (delivers-leader p i (w i) s x hi) in
      let hj2 : delivered signing p i (w i) s ≡ Some y = subst (λ (n : ℕ). delivered signing p n (w n) s ≡ Some y) q hj in
      some-injective x y (sym hi ∙ hj2);
  shared = λ i j s t b c oki okj hi hj.
      let q : j ≡ i = delivers-leader p j (w j) t.0 (Value_batch c) hj ∙ sym (delivers-leader p i (w i) s.0 (Value_batch b) hi) in
      record {
        node = i;
        correct = oki;
        first = delivers-accepted p i (w i) s b hi;
        second = subst (λ (n : ℕ). In {A = Word} (t, c) (accepts (w n))) q (delivers-accepted p j (w j) t c hj);
      };
  integrity = λ i s b okl oki h. subst (λ (n : ℕ). In {A = Word} (s, b) (accepts (w n))) (delivers-leader p i (w i) s.0 (Value_batch b) h)
      (delivers-accepted p i (w i) s b h);
}

pub safe : IsSafe signing
safe p w good reached sep = gives p w

-- a cluster of one node, whose epochs have one slot

abbrev pub alone : Setup
alone = record {
  version = 1;
  «module» = 9;
  f = 0;
  epoch = 1;
  buckets = 1;
  batch = 4;
  window = 8;
  policy = Simple;
  clients = 1;
  keys = 4;
  faulty = [];
  n =
      1;
  quorum = 1;
  kind = Byzantine;
  tag = replicate 32 67;
}

pub setup-good : IsGoodSetup alone
setup-good = good-by alone refl

setup-of : IsSetupOf signing alone
setup-of = record { good = setup-good; kind = refl; nodes = refl; majority = refl }

-- every request counts as signed, since nothing computes with keys
abbrev R : Rules
R = record (rules_of alone) { signed = λ q. true }

abbrev S : Scheme
S = scheme_of alone

abbrev slot : Slot
slot = record { 0 = 0 }

abbrev batch : Batch
batch = record { id = record { client = 0; number = 0 }; payload = 170 ∷ []; sig = 4 ∷ replicate 2276 0 } ∷ []

abbrev casts : Input Word
casts = Cast slot batch

-- the node's history: at first, after its proposal, and at the end of its epoch
abbrev after_cast : Past Word
after_cast = takes R signing 0 initial_history 0 casts 0

abbrev claimed : Signed
claimed = record { by = 0; statement = (claim_of (R.params [] 0 0) 0 (slot, batch)).statement }

abbrev voted : Signed
voted = record { by = 0; statement = vote_of alone S R signing 0 after_cast }

abbrev strings : List (List ℕ)
strings = chain_strings S (Value_batch batch ∷ []) ++ [] ∷ []

abbrev first_net : Cluster Word
first_net = record { pasts = λ j. initial_history; messages = []; book = []; strings = [] ∷ [] }

abbrev second_net : Cluster Word
second_net = record { pasts = set_at first_net.pasts 0 after_cast; messages = []; book = claimed ∷ []; strings = strings }

abbrev pub third_net : Cluster Word
third_net = record { pasts = set_at second_net.pasts 0 (advanced after_cast); messages = []; book = voted ∷ claimed ∷ []; strings = strings }

log-cast : log_of R signing 0 after_cast ≡ Value_batch batch ∷ []
log-cast = refl

log-end : log_of R signing 0 (advanced after_cast) ≡ Value_batch batch ∷ []
log-end = refl

no-one : (j : ℕ) → is_correct alone j ≡ true → j ≢ 0 → ⊥
no-one j ok ne = ne (omega (arith, correct-below alone j ok))

begun : Reach alone S R signing first_net
begun = begin (record { pasts = λ j ok. refl; messages = λ k h. h; book = λ x h. h; root = inl refl })

cast-spelled : S.spells (Value_batch batch) ≡ true
unfolding parse_value parse_rest parse_batch parse_count count_field spell_count parse_request parse_payload parse_signature spell_value spell_batch
    spell_request ◌>>=◌ such_that byte number block digests times done digests_of_height
cast-spelled = refl

the-cast : Moved alone S R signing first_net second_net 0 0 casts 0
unfolding digests_of_height
the-cast = record {
  correct = refl;
  leads = refl;
  comes = (refl, batch-read 1 batch (omega arith) (λ q i. elim i [ inl e ↦ rw e refl | inr none ↦ absurd none ]));
  judged = refl;
  here = refl;
  other = λ j ne. set_at-other first_net.pasts 0 after_cast j ne;
  messages = λ st k h. absurd h;
  book = λ x h. elim h [
    | inl q ↦ inl (record {
      to = To_all;
      msg = (slot, batch);
      sent = inl refl;
      claim = claim_of (R.params [] 0 0) 0 (slot, batch);
      made = inl refl;
      by =
          refl;
      is = q;
    })
    | inr none ↦ absurd none
  ];
  old_book = λ x h. absurd h;
  fresh_strings = λ x h. absurd h;
  strings = λ x h. in_right x (chain_strings S (Value_batch batch ∷ [])) ([] ∷ []) h;
  hashed = λ x h. in_left x (chain_strings S (Value_batch batch ∷ [])) ([] ∷ []) h;
  spelled = λ v h. elim h [ inl q ↦ rw q cast-spelled | inr none ↦ absurd none ];
}

the-end : Ended alone S R signing second_net third_net 0
the-end = record {
  correct = refl;
  complete = refl;
  here = refl;
  other = λ j ne. set_at-other second_net.pasts 0 (advanced after_cast) j ne;
  quiet = record { messages = λ st k h. absurd h; old_book = λ x h. inr h; strings = λ x h. h };
  book = λ x h. elim h [ inl q ↦ inr (ap (λ (y : Signed). y.by) q, ap (λ (y : Signed). y.statement) q) | inr k ↦ inl k ];
  hashed = λ x h. in_left x (chain_strings S (Value_batch batch ∷ [])) ([] ∷ []) h;
  spelled = λ v h. elim h [ inl q ↦ rw q cast-spelled | inr none ↦ absurd none ];
}

pub reached : Reach alone S R signing third_net
reached = ends 0 (move 0 0 casts 0 begun the-cast) the-end

-- the three strings have three different digests

abbrev value_string : List ℕ
value_string = S.spelled (Value_batch batch)

abbrev link_string : List ℕ
link_string = S.link (digest []) (digest value_string)

abbrev first : List ℕ → ℕ
first [] = 0
first (b ∷ bs) = b

value-first : first (digest value_string) ≡ 111
unfolding spell_value spell_batch spell_count spell_request sha256 digest_bytes hash_after compress rounds schedule first_words digests_of_height
value-first = refl

link-first : first (digest link_string) ≡ 164
unfolding spell_value spell_batch spell_count spell_request sha256 digest_bytes hash_after compress rounds schedule first_words digests_of_height
link-first = refl

root-first : first (digest []) ≡ 0
root-first = refl

differ : (x y : List ℕ) (m n : ℕ) → first (digest x) ≡ m → first (digest y) ≡ n → m ≢ n → digest x ≡ digest y → ⊥
differ x y m n hx hy ne h = ne (sym hx ∙ ap first h ∙ hy)

apart-by : (x y : List ℕ) (m n : ℕ) → first (digest x) ≡ m → first (digest y) ≡ n → m ≢ n → digest x ≡ digest y → x ≡ y
apart-by x y m n hx hy ne h = absurd (differ x y m n hx hy ne h)

pub separate : Separate (Among (third_net.strings))
separate a b (inl p) (inl q) h = p ∙ sym q
separate a b (inl p) (inr (inl q)) h = apart-by a b 111 164 (rw p value-first) (rw q link-first) (λ e. absurd (omega (arith, e))) h
separate a b (inl p) (inr (inr (inl q))) h = apart-by a b 111 0 (rw p value-first) (rw q root-first) (λ e. absurd (omega (arith, e))) h
separate a b (inr (inl p)) (inl q) h = apart-by a b 164 111 (rw p link-first) (rw q value-first) (λ e. absurd (omega (arith, e))) h
separate a b (inr (inl p)) (inr (inl q)) h = p ∙ sym q
separate a b (inr (inl p)) (inr (inr (inl q))) h = apart-by a b 164 0 (rw p link-first) (rw q root-first) (λ e. absurd (omega (arith, e))) h
separate a b (inr (inr (inl p))) (inl q) h = apart-by a b 0 111 (rw p root-first) (rw q value-first) (λ e. absurd (omega (arith, e))) h
separate a b (inr (inr (inl p))) (inr (inl q)) h = apart-by a b 0 164 (rw p root-first) (rw q link-first) (λ e. absurd (omega (arith, e))) h
separate a b (inr (inr (inl p))) (inr (inr (inl q))) h = p ∙ sym q
separate a b (inl p) (inr (inr (inr none))) h = absurd none
separate a b (inr (inl p)) (inr (inr (inr none))) h = absurd none
separate a b (inr (inr (inl p))) (inr (inr (inr none))) h = absurd none
separate a b (inr (inr (inr none))) q h = absurd none

-- the book has the claim of the instance of leader 0 in epoch 0, and the vote at the end of that epoch
pub claim-booked : In claimed third_net.book × Names alone signing 0 0 claimed.statement
claim-booked = (inr (inl refl), (1 ∷ (eight_bytes 0 ++ spell_value 1 (Value_batch batch)), refl))

pub vote-booked : In voted third_net.book × (voted.statement ≡ vote_statement alone 0 (digest link_string) 1)
vote-booked = (inl refl, refl)

-- what holds of every reached cluster holds of this one, whose log is one batch
pub alone-ordered : Ordered alone R signing third_net.pasts × (log_of R signing 0 (third_net.pasts 0) ≡ Value_batch batch ∷ [])
alone-ordered = (
  composition alone S R signing safe lawful
      (however-signed signing alone (rules_of alone) R.signed (sound-rules signing alone setup-of)) third_net
      (exact-of alone setup-good third_net) separate reached,
  log-end,
)
