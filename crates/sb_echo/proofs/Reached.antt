-- The premises can be met: a reachable world with a Byzantine node, in which claims were signed and a slot was
-- delivered.
use Rattle.std.proofs.Common.{◌≡◌, ◌<◌, ◌^◌, ℕ, Bool, true, false, cond, eqb, List, [], ◌∷◌, Some, refl, sym, ap, ◌∙◌, subst, inl, inr, arith, true≢false}
use Rattle.sha2.specs.Sha256.{sha256, digest_bytes, hash_after, compress, rounds, schedule, first_words}
use Rattle.iss_base.specs.Lists.{In, same_bytes}
use Rattle.iss_base.proofs.Lists.{eqb-other, same_bytes-refl}
use Rattle.iss_request.specs.Digest.{digest}
use Rattle.iss_request.specs.Formats.{spell_batch, spell_count, spell_value}
use Rattle.iss_request.specs.Setup.{IsGoodSetup}
use Rattle.iss_request.specs.declared.requests.Value.TheVariants.{Batch as Value_batch}
use Rattle.iss_sb.specs.declared.effects.Claim.{Claim}
use Rattle.iss_sb.specs.declared.effects.Input.{Input}
use Rattle.iss_sb.specs.declared.effects.Input.TheVariants.{Cast, Receive}
use Rattle.iss_sb.specs.declared.effects.Params.{Params}
use Rattle.iss_sb.specs.declared.effects.To.{To}
use Rattle.iss_sb.specs.declared.effects.To.TheVariants.{All as To_all}
use Rattle.iss_sb.specs.Calls.{IsGoodParams}
use Rattle.iss_sb.specs.Evidence.{Item, World, IsCredible, IsHashed, IsReached, IsReadBatch, IsReadMessage, at_start, after, IsSigned, IsString, MayCome, Move, Separate, Verifies, and_then, delivered, empty_world, is_correct}
use Rattle.iss_sb.specs.Laws.{IsBroadcast}
use Rattle.iss_sb.proofs.Read.{batch-read}
use Rattle.iss_sb.proofs.Setups.{good-by}
use Rattle.iss_sb.proofs.Signatures.{signature-shape, signature-verifies}
use Rattle.sb_echo.specs.declared.word.Word.{Word}
use Rattle.sb_echo.specs.declared.word.Word.TheVariants.{Say, Echo as Echo_word}
use Rattle.iss_sb.specs.Statements.{claim}
use Rattle.sb_echo.specs.Echo.{claims, echo, statement, string_of}
use Rattle.sb_echo.proofs.Example.{b, cast, d, echo_from, node, p, setup, sig, slot, word}
use Rattle.sb_echo.proofs.Safe.{echo-safe}
use Rattle.sb_echo.proofs.Lawful.{digest-length}
use Rattle.sb_echo.proofs.Spelling.{echo-again, say-again}

good-setup : IsGoodSetup setup
good-setup = good-by setup refl

good : IsGoodParams echo p
good = record {
  setup = good-setup;
  kind = refl;
  nodes = refl;
  majority = refl;
  leader = omega arith;
  some = omega arith;
  few = omega arith;
  ascending = (omega arith, (omega arith, tt));
  slots_low = (omega arith, (omega arith, tt));
  directory = refl;
}

-- ---- worlds in which the nodes 0 and 1 have a history

abbrev world : List (Item Word) → List (Item Word) → World Word
world xs ys i = cond (eqb i 0) xs (cond (eqb i 1) ys [])

first-move : (input : Input Word) (leaf : ℕ) → MayCome echo p empty_world 0 input →
    Move echo p empty_world (world (and_then echo p 0 [] input leaf) [])
first-move input leaf may = record { node = 0; correct = refl; input = input; may = may; leaf = leaf; takes = refl; others = λ i ne. rw (eqb-other i 0 ne) (none (eqb i 1)) }
  where
    none : (t : Bool) → ◌≡◌ {A = List (Item Word)} (cond t [] []) []
    none true = refl
    none false = refl

move-one : (xs ys : List (Item Word)) (input : Input Word) (leaf : ℕ) → MayCome echo p (world xs ys) 1 input →
    Move echo p (world xs ys) (world xs (and_then echo p 1 ys input leaf))
move-one xs ys input leaf may = record { node = 1; correct = refl; input = input; may = may; leaf = leaf; takes = refl; others = λ i ne. rw (eqb-other i 1 ne) refl }

-- ---- deliveries

abbrev IsRead : Word → Type 0
IsRead msg = IsReadMessage echo p msg

b-read : IsReadBatch p b
b-read = batch-read 1 b (omega arith) (λ q h. absurd h)

said-read : IsRead (Say (slot 0) b (sig 0 1 5))
said-read = say-again 1 (slot 0) b (sig 0 1 5) (omega arith) (signature-shape echo p good 0 5 (statement p 1 0 d)) b-read

echo-read : (k : ℕ) → IsRead (Echo_word (slot 0) d (sig k 2 0))
echo-read k = echo-again 1 (slot 0) d (sig k 2 0) (omega arith) (digest-length p b) (signature-shape echo p good k 0 (statement p 2 0 d))

-- a signature by the key verifies
verified-by : (k kind leaf : ℕ) → k < 4 → leaf < 2 ^ 4 → Verifies p (claim k (statement p kind 0 d) (sig k kind leaf))
verified-by k kind leaf below few = signature-verifies echo p good k leaf (statement p kind 0 d) below few

signed-by : (w : World Word) (k : ℕ) (x : Item Word) (msg : Word) (st sig : List ℕ) → In x (w k) →
    In {A = To × Word} (To_all, msg) x.made.sends → claims p k msg ≡ claim k st sig ∷ [] → IsSigned echo p w k st
signed-by w k x msg st sig h s e = record { item = x; taken = h; to = To_all; msg = msg; sent = s; claim = claim k st sig; made = rw e (inl refl); by = refl; is = refl }

claimed : (w : World Word) (k : ℕ) (msg : Word) (st sig : List ℕ) → k < 4 → claims p k msg ≡ claim k st sig ∷ [] →
    IsRead msg → Verifies p (claim k st sig) → (is_correct setup k ≡ true → IsSigned echo p w k st) →
    IsCredible echo p (Verifies p) (IsSigned echo p w) k msg
claimed w k msg st sig l e r v s = record { named = l; read = r; verified = λ c h. check c (rw e at h); signed = λ c h q. shown c (rw e at h) q }
  where
    check : (c : Claim) → In c (claim k st sig ∷ []) → Verifies p c
    check c (inl q) = subst (λ (z : Claim). Verifies p z) (sym q) v
    check c (inr h) = absurd h

    shown : (c : Claim) → In c (claim k st sig ∷ []) → is_correct setup c.by.0 ≡ true →
        IsSigned echo p w c.by.0 c.statement
    shown c (inl q) r = subst (λ (z : Claim). is_correct setup z.by.0 ≡ true → IsSigned echo p w z.by.0 z.statement) (sym q) s r
    shown c (inr h) r = absurd h

-- ---- the run: node 0 casts, node 1 receives its batch and the echoes of nodes 0, 1 and 3

abbrev w1 : World Word
w1 = world cast []

abbrev w2 : World Word
w2 = world cast word

abbrev w3 : World Word
w3 = world cast (echo_from 0 word)

abbrev w4 : World Word
w4 = world cast (echo_from 1 (echo_from 0 word))

abbrev w5 : World Word
w5 = world cast (echo_from 3 (echo_from 1 (echo_from 0 word)))

abbrev said : Word
said = Say (slot 0) b (sig 0 1 5)

said-signed : IsSigned echo p w1 0 (statement p 1 0 d)
said-signed = signed-by w1 0 _ said (statement p 1 0 d) (sig 0 1 5) (inl refl) (inl refl) refl

echo-signed : (ys : List (Item Word)) → IsSigned echo p (world cast ys) 0 (statement p 2 0 d)
echo-signed ys = signed-by (world cast ys) 0 _ (Echo_word (slot 0) d (sig 0 2 6)) (statement p 2 0 d) (sig 0 2 6) (inl refl) (inr (inl refl)) refl

own-signed : IsSigned echo p w3 1 (statement p 2 0 d)
own-signed = signed-by w3 1 _ (Echo_word (slot 0) d (sig 1 2 9)) (statement p 2 0 d) (sig 1 2 9) (inr (inl refl)) (inl refl) refl

-- a Byzantine node's claim need not be signed in the history
none-signed : is_correct setup 3 ≡ true → IsSigned echo p w4 3 (statement p 2 0 d)
none-signed h = absurd (true≢false (sym h))

abbrev echo-of : ℕ → Input Word
echo-of k = Receive (node k) (Echo_word (slot 0) d (sig k 2 0))

reached : IsReached echo p w5
reached =
    let r1 : IsReached echo p w1 = after at_start (first-move (Cast (slot 0) b) 5 (refl, b-read)) in
    let r2 : IsReached echo p w2 = after r1 (move-one cast [] (Receive (node 0) said) 9 (claimed w1 0 said (statement p 1 0 d) (sig 0 1 5) (omega arith) refl said-read (verified-by 0 1 5 (omega arith) (omega arith)) (λ q. said-signed))) in
    let r3 : IsReached echo p w3 = after r2 (move-one cast word (echo-of 0) 0 (claimed w2 0 (Echo_word (slot 0) d (sig 0 2 0)) (statement p 2 0 d) (sig 0 2 0) (omega arith) refl (echo-read 0) (verified-by 0 2 0 (omega arith) (omega arith)) (λ q. echo-signed word))) in
    let r4 : IsReached echo p w4 = after r3 (move-one cast (echo_from 0 word) (echo-of 1) 0 (claimed w3 1 (Echo_word (slot 0) d (sig 1 2 0)) (statement p 2 0 d) (sig 1 2 0) (omega arith) refl (echo-read 1) (verified-by 1 2 0 (omega arith) (omega arith)) (λ q. own-signed))) in
    after r4 (move-one cast (echo_from 1 (echo_from 0 word)) (echo-of 3) 0 (claimed w4 3 (Echo_word (slot 0) d (sig 3 2 0)) (statement p 2 0 d) (sig 3 2 0) (omega arith) refl (echo-read 3) (verified-by 3 2 0 (omega arith) (omega arith)) none-signed))

delivers : delivered echo p 1 (w5 1) 0 ≡ Some (Value_batch b)
unfolding sha256 digest_bytes hash_after compress rounds schedule first_words spell_batch spell_count spell_value
delivers = refl

-- ---- no two of its strings have one digest: it hashed one

abbrev OnlyIn : List (List ℕ) → Type 0
OnlyIn [] = Unit {0}
OnlyIn (s ∷ ss) = (s ≡ string_of p b) × OnlyIn ss

abbrev Only : List (Item Word) → Type 0
Only [] = Unit {0}
Only (x ∷ xs) = OnlyIn x.made.strings × Only xs

only-in : (ss : List (List ℕ)) (s : List ℕ) → OnlyIn ss → In s ss → s ≡ string_of p b
only-in [] s o h = absurd h
only-in (t ∷ ss) s o (inl e) = e ∙ o.0
only-in (t ∷ ss) s o (inr h) = only-in ss s o.1 h

only : (xs : List (Item Word)) (x : Item Word) (s : List ℕ) → Only xs → In x xs → In s x.made.strings →
    s ≡ string_of p b
only [] x s o h k = absurd h
only (y ∷ xs) x s o (inl e) k = only-in y.made.strings s o.0 (subst (λ (z : Item Word). In s z.made.strings) e k)
only (y ∷ xs) x s o (inr h) k = only xs x s o.1 h k

one-string : (s : List ℕ) → IsHashed w5 s → s ≡ string_of p b
one-string s h = go (eqb h.node 0) (eqb h.node 1) h.taken
  where
    go : (t u : Bool) → In h.item (cond t cast (cond u (echo_from 3 (echo_from 1 (echo_from 0 word))) [])) →
        s ≡ string_of p b
    go true u k = only cast h.item s ((refl, tt), tt) k h.hashed
    go false true k = only (echo_from 3 (echo_from 1 (echo_from 0 word))) h.item s (tt, (tt, (tt, ((refl, tt), tt)))) k h.hashed
    go false false k = absurd k

no-empty : same_bytes (digest []) d ≡ false
unfolding sha256 digest_bytes hash_after compress rounds schedule first_words spell_batch spell_count spell_value
no-empty = refl

not-empty : digest [] ≡ d → ⊥
not-empty e = true≢false (sym (subst (λ (z : List ℕ). same_bytes (digest []) z ≡ true) e (same_bytes-refl (digest []))) ∙ no-empty)

separate : Separate (IsString w5)
separate x y (inl e) (inl q) h = e ∙ sym q
separate x y (inl e) (inr k) h = absurd (not-empty (ap digest (sym e) ∙ h ∙ ap digest (one-string y k)))
separate x y (inr g) (inl q) h = absurd (not-empty (ap digest (sym q) ∙ sym h ∙ ap digest (one-string x g)))
separate x y (inr g) (inr k) h = one-string x g ∙ sym (one-string y k)

-- ---- what the example shows

record ArePremisesMet : Type 0 where
  params : Params
  world_of : World Word
  are_good : IsGoodParams echo params
  is_reached : IsReached echo params world_of
  are_separate : Separate (IsString world_of)
  was_signed : IsSigned echo params world_of 0 (statement params 2 0 d)
  was_delivered : delivered echo params 1 (world_of 1) 0 ≡ Some (Value_batch b)

premises-met : ArePremisesMet
premises-met = record { params = p; world_of = w5; are_good = good; is_reached = reached; are_separate = separate; was_signed = echo-signed (echo_from 3 (echo_from 1 (echo_from 0 word))); was_delivered = delivers }

-- what the laws say of it
its-broadcast : IsBroadcast echo p w5
its-broadcast = echo-safe p w5 good reached separate
