-- A run with a Byzantine replica: a slot is delivered, and then a view change takes place with the certificate of the
-- committed value.
use Rattle.std.proofs.Common.{◌≡◌, ◌<◌, ◌^◌, ◌&&◌, ℕ, Bool, true, false, cond, eqb, List, [], ◌∷◌, ◌++◌, length, Some, refl, sym, ◌∙◌, subst, inl, inr, arith, true≢false}
use Rattle.std.specs.Prelude.{◌==◌}
use Rattle.std.proofs.lemmas.Bool.{eq-eqb}
use Rattle.sha2.specs.Sha256.{sha256, digest_bytes, hash_after, compress, rounds, schedule, first_words}
use Rattle.iss_base.specs.Lists.{In}
use Rattle.iss_base.proofs.Lists.{both, eqb-other}
use Rattle.iss_request.specs.Formats.{is_signature, spell_batch, spell_count, spell_value}
use Rattle.iss_request.specs.Setup.{IsGoodSetup}
use Rattle.iss_request.specs.declared.requests.Value.TheVariants.{Nil as Value_nil, Batch as Value_batch}
use Rattle.iss_sb.specs.declared.effects.Claim.{Claim}
use Rattle.iss_sb.specs.declared.effects.Input.{Input}
use Rattle.iss_sb.specs.declared.effects.Input.TheVariants.{Cast, Timeout}
use Rattle.iss_sb.specs.declared.effects.To.{To}
use Rattle.iss_sb.specs.declared.effects.To.TheVariants.{All as To_all}
use Rattle.iss_sb.specs.Calls.{IsGoodParams}
use Rattle.iss_sb.specs.Evidence.{Item, Made, World, IsCredible, IsReached, IsReadBatch, at_start, after, IsSigned, MayCome, Move, Verifies, delivered, empty_world, is_correct}
use Rattle.iss_sb.specs.Statements.{claim, signature}
use Rattle.iss_sb.proofs.Read.{batch-read}
use Rattle.iss_sb.proofs.Setups.{good-by}
use Rattle.iss_sb.proofs.Signatures.{signature-shape, signature-verifies}
use Rattle.pbft_wire.specs.declared.messages.Message.{Message}
use Rattle.pbft_wire.specs.Signed.{Prepare, Commit}
use Rattle.pbft_wire.specs.Certificates.{fits_certificate}
use Rattle.pbft_wire.specs.Messages.{fits}
use Rattle.pbft_wire.specs.Statements.{state_at, state_change, state_new, string_of}
use Rattle.pbft_wire.proofs.MessageGrammar.{fits-again}
use Rattle.pbft_views.specs.Claims.{certificate_claims, claims}
use Rattle.pbft_views.proofs.Statements.{digest-length}
use Rattle.sb_pbft.specs.Makes.{makes}
use Rattle.sb_pbft.specs.Pbft.{pbft}
use Rattle.sb_pbft.proofs.Examples.FourReplicas.{b, certificate, commit, d, from, give_up, next, nil, p, prepare, proposal, renewal, said, setup, sig, slot}

pub good-setup : IsGoodSetup setup
good-setup = good-by setup refl

pub good : IsGoodParams pbft p
good = record {
  setup = good-setup;
  kind = refl;
  nodes = refl;
  majority = refl;
  leader = omega arith;
  some = omega arith;
  few = omega arith;
  ascending = (omega arith, (omega arith, tt));
  slots_low = (omega arith, (omega arith, tt));
  directory = refl;
}

-- ---- worlds in which the replicas 0, 1 and 2 have a history

abbrev pub Items : Type 0
Items = List (Item Message)

abbrev pub world : Items → Items → Items → World Message
world xs ys zs i = cond (eqb i 0) xs (cond (eqb i 1) ys (cond (eqb i 2) zs []))

pub first-move : (input : Input Message) (leaf : ℕ) → MayCome pbft p empty_world 0 input →
    Move pbft p empty_world (world (next 0 leaf input []) [] [])
first-move input leaf may = record { node = 0; correct = refl; input = input; may = may; leaf = leaf; takes = refl; others = λ i ne. rw (eqb-other i 0 ne) (none (eqb i 1) (eqb i 2)) }
  where
    none : (t u : Bool) → ◌≡◌ {A = Items} (cond t [] (cond u [] [])) []
    none true u = refl
    none false true = refl
    none false false = refl

pub move-zero : (xs ys zs : Items) (input : Input Message) (leaf : ℕ) → MayCome pbft p (world xs ys zs) 0 input →
    Move pbft p (world xs ys zs) (world (next 0 leaf input xs) ys zs)
move-zero xs ys zs input leaf may = record { node = 0; correct = refl; input = input; may = may; leaf = leaf; takes = refl; others = λ i ne. rw (eqb-other i 0 ne) refl }

pub move-one : (xs ys zs : Items) (input : Input Message) (leaf : ℕ) → MayCome pbft p (world xs ys zs) 1 input →
    Move pbft p (world xs ys zs) (world xs (next 1 leaf input ys) zs)
move-one xs ys zs input leaf may = record { node = 1; correct = refl; input = input; may = may; leaf = leaf; takes = refl; others = λ i ne. rw (eqb-other i 1 ne) refl }

pub move-two : (xs ys zs : Items) (input : Input Message) (leaf : ℕ) → MayCome pbft p (world xs ys zs) 2 input →
    Move pbft p (world xs ys zs) (world xs ys (next 2 leaf input zs))
move-two xs ys zs input leaf may = record { node = 2; correct = refl; input = input; may = may; leaf = leaf; takes = refl; others = λ i ne. rw (eqb-other i 2 ne) refl }

-- ---- messages that decode

pub shape : (k leaf : ℕ) (st : List ℕ) → is_signature (signature p k leaf st) ≡ true
shape k leaf st = signature-shape pbft p good k leaf st

pub d-fit : (k leaf : ℕ) (st : List ℕ) → ((length d == 32) && is_signature (signature p k leaf st)) ≡ true
d-fit k leaf st = both _ _ (eq-eqb (length d) 32 (digest-length p (Value_batch b))) (shape k leaf st)

pub prepare-fit : (k leaf : ℕ) → fits 1 (prepare k leaf) ≡ true
prepare-fit k leaf = both _ _ refl (both _ _ refl (d-fit k leaf (state_at p 2 0 0 d)))

pub commit-fit : (k leaf : ℕ) → fits 1 (commit k leaf) ≡ true
commit-fit k leaf = both _ _ refl (both _ _ refl (d-fit k leaf (state_at p 3 0 0 d)))

-- a Prepare of view 1
abbrev pub again : ℕ → ℕ → Message
again k leaf = Prepare 1 (slot 0) d (sig k leaf 2 1 0 d)

pub again-fit : (k leaf : ℕ) → fits 1 (again k leaf) ≡ true
again-fit k leaf = both _ _ refl (both _ _ refl (d-fit k leaf (state_at p 2 1 0 d)))

pub proposal-fit : fits 1 proposal ≡ true
proposal-fit = both _ _ refl (both _ _ refl (both _ _ refl (shape 0 5 (state_at p 1 0 0 d))))

pub certificate-fit : fits_certificate 1 certificate ≡ true
certificate-fit =
    both _ _ refl (both _ _ refl (both _ _ refl (both _ _ (shape 0 5 (state_at p 1 0 0 d)) (both _ _ refl (both _ _ (both _ _ refl (shape 1 9 (state_at p 2 0 0 d))) (both _ _ (both _ _ refl (shape 3 7 (state_at p 2 0 0 d))) refl))))))

pub shown-fit : (k leaf : ℕ) → fits 1 (give_up k leaf 1 (certificate ∷ [])) ≡ true
shown-fit k leaf = both _ _ refl (both _ _ (both _ _ refl (both _ _ (both _ _ refl certificate-fit) refl)) (shape k leaf (state_change p 1 (certificate ∷ []))))

pub empty-fit : (k leaf : ℕ) → fits 1 (give_up k leaf 1 []) ≡ true
empty-fit k leaf = both _ _ refl (both _ _ (both _ _ refl refl) (shape k leaf (state_change p 1 [])))

pub renewal-fit : fits 1 renewal ≡ true
renewal-fit =
    both _ _ refl
    (both _ _ (both _ _ refl (both _ _ (both _ _ refl (shown-fit 1 11)) (both _ _ (both _ _ refl (empty-fit 2 3)) (both _ _ (both _ _ refl (empty-fit 3 4)) refl))))
    (both _ _ (both _ _ refl (both _ _ (shape 1 12 (state_at p 1 1 0 d)) (both _ _ (shape 1 13 (state_at p 1 1 4 nil)) refl))) (shape 1 14 (state_new p 1))))

-- ---- deliveries: claims that verify, of which those of correct replicas were signed

abbrev pub by_key : ℕ → ℕ → List ℕ → Claim
by_key k leaf st = claim k st (signature p k leaf st)

-- each claim is signed by a leaf of its replica's key; a correct replica did sign it
abbrev pub AreSigned : World Message → List Claim → Type 0
AreSigned w [] = Unit {0}
AreSigned w (c ∷ cs) = ((leaf : ℕ) × (leaf < 2 ^ 4) × (c.by.0 < 4) × (c ≡ by_key c.by.0 leaf c.statement)) × (is_correct setup c.by.0 ≡ true → IsSigned pbft p w c.by.0 c.statement) × AreSigned w cs

pub verified-all : (w : World Message) (cs : List Claim) → AreSigned w cs → (c : Claim) → In c cs → Verifies p c
verified-all w [] h c i = absurd i
verified-all w (x ∷ cs) h c (inl e) =
    let k = h.0 in
    subst (λ (z : Claim). Verifies p z) (sym (e ∙ k.3)) (signature-verifies pbft p good x.by.0 k.0 x.statement k.2 k.1)
verified-all w (x ∷ cs) h c (inr i) = verified-all w cs h.2 c i

pub signed-all : (w : World Message) (cs : List Claim) → AreSigned w cs → (c : Claim) → In c cs →
    is_correct setup c.by.0 ≡ true → IsSigned pbft p w c.by.0 c.statement
signed-all w [] h c i = absurd i
signed-all w (x ∷ cs) h c (inl e) = subst (λ (z : Claim). is_correct setup z.by.0 ≡ true → IsSigned pbft p w z.by.0 z.statement) (sym e) h.1
signed-all w (x ∷ cs) h c (inr i) = signed-all w cs h.2 c i

pub credible : (w : World Message) (k : ℕ) (msg : Message) → k < 4 → fits 1 msg ≡ true → AreSigned w (claims p k msg) →
    IsCredible pbft p (Verifies p) (IsSigned pbft p w) k msg
credible w k msg l f h = record { named = l; read = fits-again 1 msg f; verified = λ c i. verified-all w (claims p k msg) h c i; signed = λ c i. signed-all w (claims p k msg) h c i }

-- a claim in what a replica sent at a step
pub sent-claim : (w : World Message) (k : ℕ) (item : Item Message) (made : Made Message) (msg : Message) (c : Claim) →
    item.made ≡ made → In item (w k) → In {A = To × Message} (To_all, msg) made.sends → In c (claims p k msg) →
    c.by.0 ≡ k → IsSigned pbft p w k c.statement
sent-claim w k item made msg c e i h s q =
    record { item = item; taken = i; to = To_all; msg = msg; sent = subst (λ (z : Made Message). In {A = To × Message} (To_all, msg) z.sends) (sym e) h; claim = c; made = s; by = q; is = refl }

-- a Byzantine replica's claim need not be signed in the history
pub of-three : (w : World Message) (st : List ℕ) → is_correct setup 3 ≡ true → IsSigned pbft p w 3 st
of-three w st h = absurd (true≢false (sym h))

pub by-leaf : (k leaf : ℕ) (st : List ℕ) → leaf < 2 ^ 4 → k < 4 →
    (n : ℕ) × (n < 2 ^ 4) × (k < 4) × (by_key k leaf st ≡ by_key k n st)
by-leaf k leaf st l m = (leaf, l, m, refl)

-- ---- the run. Replica 0 casts, replica 1 prepares, and both commit with the Prepare of replica 3

abbrev pub cast : Item Message
cast = record { input = Cast (slot 0) b; leaf = 5; made = makes p 0 [] (Cast (slot 0) b) 5 }

abbrev pub z1 : Items
z1 = next 0 5 (Cast (slot 0) b) []

abbrev pub z2 : Items
z2 = next 0 6 (from 1 (prepare 1 9)) z1

abbrev pub z3 : Items
z3 = next 0 6 (from 3 (prepare 3 7)) z2

abbrev pub o1 : Items
o1 = next 1 9 (from 0 proposal) []

abbrev pub o2 : Items
o2 = next 1 10 (from 1 (prepare 1 9)) o1

abbrev pub o3 : Items
o3 = next 1 10 (from 3 (prepare 3 7)) o2

-- replica 1 receives three Commits, delivers, and times out of view 0
abbrev pub o4 : Items
o4 = next 1 11 (from 0 (commit 0 6)) o3

abbrev pub o5 : Items
o5 = next 1 11 (from 1 (commit 1 10)) o4

abbrev pub o6 : Items
o6 = next 1 11 (from 3 (commit 3 8)) o5

abbrev pub o7 : Items
o7 = next 1 11 Timeout o6

-- with the ViewChanges of replicas 1, 2 and 3 it starts view 1, which replica 2 enters
abbrev pub t1 : Items
t1 = next 2 3 Timeout []

abbrev pub o8 : Items
o8 = next 1 12 (from 1 (give_up 1 11 1 (certificate ∷ []))) o7

abbrev pub o9 : Items
o9 = next 1 12 (from 2 (give_up 2 3 1 [])) o8

abbrev pub o10 : Items
o10 = next 1 12 (from 3 (give_up 3 4 1 [])) o9

abbrev pub t2 : Items
t2 = next 2 5 (from 1 renewal) t1

-- and replica 2 commits there with the Prepares of itself and of replica 3
abbrev pub t3 : Items
t3 = next 2 7 (from 2 (again 2 5)) t2

abbrev pub t4 : Items
t4 = next 2 7 (from 3 (again 3 5)) t3

-- the effects of each step

pub zero-commits : makes p 0 z2 (from 3 (prepare 3 7)) 6 ≡ said (commit 0 6 ∷ []) [] 1
unfolding sha256 digest_bytes hash_after compress rounds schedule first_words spell_batch spell_count spell_value
zero-commits = refl

pub one-commits : makes p 1 o2 (from 3 (prepare 3 7)) 10 ≡ said (commit 1 10 ∷ []) [] 1
unfolding sha256 digest_bytes hash_after compress rounds schedule first_words spell_batch spell_count spell_value
one-commits = refl

pub one-gives-up : makes p 1 o6 Timeout 11 ≡ said (give_up 1 11 1 (certificate ∷ []) ∷ []) [] 1
unfolding sha256 digest_bytes hash_after compress rounds schedule first_words spell_batch spell_count spell_value
one-gives-up = refl

pub two-gives-up : makes p 2 [] Timeout 3 ≡ said (give_up 2 3 1 [] ∷ []) [] 1
two-gives-up = refl

pub one-renews : makes p 1 o9 (from 3 (give_up 3 4 1 [])) 12 ≡ said (renewal ∷ []) (string_of p (Value_batch b) ∷ string_of p Value_nil ∷ []) 3
unfolding sha256 digest_bytes hash_after compress rounds schedule first_words spell_batch spell_count spell_value
one-renews = refl

pub two-prepares : makes p 2 t1 (from 1 renewal) 5 ≡ said (Prepare 1 (slot 0) d (sig 2 5 2 1 0 d) ∷ Prepare 1 (slot 4) nil (sig 2 6 2 1 4 nil) ∷ []) (string_of p (Value_batch b) ∷ string_of p (Value_batch b) ∷ string_of p Value_nil ∷ []) 2
unfolding sha256 digest_bytes hash_after compress rounds schedule first_words spell_batch spell_count spell_value
two-prepares = refl

pub two-commits : makes p 2 t3 (from 3 (again 3 5)) 7 ≡ said (Commit 1 (slot 0) d (sig 2 7 3 1 0 d) ∷ []) [] 1
unfolding sha256 digest_bytes hash_after compress rounds schedule first_words spell_batch spell_count spell_value
two-commits = refl

-- who signed what

abbrev pub took_proposal : Item Message
took_proposal = record { input = from 0 proposal; leaf = 9; made = makes p 1 [] (from 0 proposal) 9 }

abbrev pub zero_prepared : Item Message
zero_prepared = record { input = from 3 (prepare 3 7); leaf = 6; made = makes p 0 z2 (from 3 (prepare 3 7)) 6 }

abbrev pub one_prepared : Item Message
one_prepared = record { input = from 3 (prepare 3 7); leaf = 10; made = makes p 1 o2 (from 3 (prepare 3 7)) 10 }

abbrev pub one_gave_up : Item Message
one_gave_up = record { input = Timeout; leaf = 11; made = makes p 1 o6 Timeout 11 }

abbrev pub two_gave_up : Item Message
two_gave_up = record { input = Timeout; leaf = 3; made = makes p 2 [] Timeout 3 }

abbrev pub one_renewed : Item Message
one_renewed = record { input = from 3 (give_up 3 4 1 []); leaf = 12; made = makes p 1 o9 (from 3 (give_up 3 4 1 [])) 12 }

abbrev pub two_entered : Item Message
two_entered = record { input = from 1 renewal; leaf = 5; made = makes p 2 t1 (from 1 renewal) 5 }

module _ (w : World Message) where
  pub signed-proposal : In cast (w 0) → IsSigned pbft p w 0 (state_at p 1 0 0 d)
  signed-proposal i = sent-claim w 0 cast _ proposal (by_key 0 5 (state_at p 1 0 0 d)) refl i (inl refl) (inl refl) refl

  pub signed-prepare : In took_proposal (w 1) → IsSigned pbft p w 1 (state_at p 2 0 0 d)
  signed-prepare i = sent-claim w 1 took_proposal _ (prepare 1 9) (by_key 1 9 (state_at p 2 0 0 d)) refl i (inl refl) (inl refl) refl

  pub signed-zero : In zero_prepared (w 0) → IsSigned pbft p w 0 (state_at p 3 0 0 d)
  signed-zero i = sent-claim w 0 zero_prepared _ (commit 0 6) (by_key 0 6 (state_at p 3 0 0 d)) zero-commits i (inl refl) (inl refl) refl

  pub signed-one : In one_prepared (w 1) → IsSigned pbft p w 1 (state_at p 3 0 0 d)
  signed-one i = sent-claim w 1 one_prepared _ (commit 1 10) (by_key 1 10 (state_at p 3 0 0 d)) one-commits i (inl refl) (inl refl) refl

  pub signed-shown : In one_gave_up (w 1) → IsSigned pbft p w 1 (state_change p 1 (certificate ∷ []))
  signed-shown i = sent-claim w 1 one_gave_up _ (give_up 1 11 1 (certificate ∷ [])) (by_key 1 11 (state_change p 1 (certificate ∷ []))) one-gives-up i (inl refl) (inr (inr (inr (inl refl)))) refl

  pub signed-empty : In two_gave_up (w 2) → IsSigned pbft p w 2 (state_change p 1 [])
  signed-empty i = sent-claim w 2 two_gave_up _ (give_up 2 3 1 []) (by_key 2 3 (state_change p 1 [])) two-gives-up i (inl refl) (inl refl) refl

  -- the claims of the certificate
  pub certificate-signed : In cast (w 0) → In took_proposal (w 1) → AreSigned w (certificate_claims p certificate)
  certificate-signed i j = (
    by-leaf 0 5 (state_at p 1 0 0 d) (omega arith) (omega arith),
    (λ q. signed-proposal i),
    (by-leaf 1 9 (state_at p 2 0 0 d) (omega arith) (omega arith), (λ q. signed-prepare j), (by-leaf 3 7 (state_at p 2 0 0 d) (omega arith) (omega arith), of-three w (state_at p 2 0 0 d), tt)),
  )

  pub signed-again : In one_renewed (w 1) → IsSigned pbft p w 1 (state_at p 1 1 0 d)
  signed-again i = sent-claim w 1 one_renewed _ renewal (by_key 1 12 (state_at p 1 1 0 d)) one-renews i (inl refl) (inr (inr (inr (inr (inr (inr (inl refl))))))) refl

  pub signed-nil : In one_renewed (w 1) → IsSigned pbft p w 1 (state_at p 1 1 4 nil)
  signed-nil i = sent-claim w 1 one_renewed _ renewal (by_key 1 13 (state_at p 1 1 4 nil)) one-renews i (inl refl) (inr (inr (inr (inr (inr (inr (inr (inl refl)))))))) refl

  pub signed-new : In one_renewed (w 1) → IsSigned pbft p w 1 (state_new p 1)
  signed-new i = sent-claim w 1 one_renewed _ renewal (by_key 1 14 (state_new p 1)) one-renews i (inl refl) (inr (inr (inr (inr (inr (inr (inr (inr (inl refl))))))))) refl

  pub signed-two : In two_entered (w 2) → IsSigned pbft p w 2 (state_at p 2 1 0 d)
  signed-two i = sent-claim w 2 two_entered _ (again 2 5) (by_key 2 5 (state_at p 2 1 0 d)) two-prepares i (inl refl) (inl refl) refl

-- ---- each step

pub one-claim : (w : World Message) (k leaf : ℕ) (st : List ℕ) → leaf < 2 ^ 4 → k < 4 →
    (is_correct setup k ≡ true → IsSigned pbft p w k st) → AreSigned w (by_key k leaf st ∷ [])
one-claim w k leaf st l m h = (by-leaf k leaf st l m, h, tt)

pub b-read : IsReadBatch p b
b-read = batch-read 1 b (omega arith) (λ q h. absurd h)

pub r1 : IsReached pbft p (world z1 [] [])
r1 = after at_start (first-move (Cast (slot 0) b) 5 (refl, b-read))

pub r2 : IsReached pbft p (world z1 o1 [])
r2 = let w = world z1 [] [] in after r1 (move-one z1 [] [] (from 0 proposal) 9 (credible w 0 proposal (omega arith) proposal-fit (one-claim w 0 5 (state_at p 1 0 0 d) (omega arith) (omega arith) (λ q. signed-proposal w (inl refl)))))

pub r3 : IsReached pbft p (world z2 o1 [])
r3 = let w = world z1 o1 [] in after r2 (move-zero z1 o1 [] (from 1 (prepare 1 9)) 6 (credible w 1 (prepare 1 9) (omega arith) (prepare-fit 1 9) (one-claim w 1 9 (state_at p 2 0 0 d) (omega arith) (omega arith) (λ q. signed-prepare w (inl refl)))))

pub r4 : IsReached pbft p (world z3 o1 [])
r4 = let w = world z2 o1 [] in after r3 (move-zero z2 o1 [] (from 3 (prepare 3 7)) 6 (credible w 3 (prepare 3 7) (omega arith) (prepare-fit 3 7) (one-claim w 3 7 (state_at p 2 0 0 d) (omega arith) (omega arith) (of-three w (state_at p 2 0 0 d)))))

pub r5 : IsReached pbft p (world z3 o2 [])
r5 = let w = world z3 o1 [] in after r4 (move-one z3 o1 [] (from 1 (prepare 1 9)) 10 (credible w 1 (prepare 1 9) (omega arith) (prepare-fit 1 9) (one-claim w 1 9 (state_at p 2 0 0 d) (omega arith) (omega arith) (λ q. signed-prepare w (inl refl)))))

pub r6 : IsReached pbft p (world z3 o3 [])
r6 = let w = world z3 o2 [] in after r5 (move-one z3 o2 [] (from 3 (prepare 3 7)) 10 (credible w 3 (prepare 3 7) (omega arith) (prepare-fit 3 7) (one-claim w 3 7 (state_at p 2 0 0 d) (omega arith) (omega arith) (of-three w (state_at p 2 0 0 d)))))

pub r7 : IsReached pbft p (world z3 o4 [])
r7 = let w = world z3 o3 [] in after r6 (move-one z3 o3 [] (from 0 (commit 0 6)) 11 (credible w 0 (commit 0 6) (omega arith) (commit-fit 0 6) (one-claim w 0 6 (state_at p 3 0 0 d) (omega arith) (omega arith) (λ q. signed-zero w (inl refl)))))

pub r8 : IsReached pbft p (world z3 o5 [])
r8 = let w = world z3 o4 [] in after r7 (move-one z3 o4 [] (from 1 (commit 1 10)) 11 (credible w 1 (commit 1 10) (omega arith) (commit-fit 1 10) (one-claim w 1 10 (state_at p 3 0 0 d) (omega arith) (omega arith) (λ q. signed-one w (inr (inl refl))))))

pub r9 : IsReached pbft p (world z3 o6 [])
r9 = let w = world z3 o5 [] in after r8 (move-one z3 o5 [] (from 3 (commit 3 8)) 11 (credible w 3 (commit 3 8) (omega arith) (commit-fit 3 8) (one-claim w 3 8 (state_at p 3 0 0 d) (omega arith) (omega arith) (of-three w (state_at p 3 0 0 d)))))

pub r10 : IsReached pbft p (world z3 o7 [])
r10 = after r9 (move-one z3 o6 [] Timeout 11 tt)

pub r11 : IsReached pbft p (world z3 o7 t1)
r11 = after r10 (move-two z3 o7 [] Timeout 3 tt)

pub signed-append : (w : World Message) (cs ds : List Claim) → AreSigned w cs → AreSigned w ds → AreSigned w (cs ++ ds)
signed-append w [] ds h k = k
signed-append w (c ∷ cs) ds h k = (h.0, h.1, signed-append w cs ds h.2 k)

-- the claims of replica 1's ViewChange, given these steps
pub shown-signed : (w : World Message) → In cast (w 0) → In took_proposal (w 1) → In one_gave_up (w 1) →
    AreSigned w (certificate_claims p certificate ++ by_key 1 11 (state_change p 1 (certificate ∷ [])) ∷ [])
shown-signed w i j k = signed-append w (certificate_claims p certificate) (by_key 1 11 (state_change p 1 (certificate ∷ [])) ∷ []) (certificate-signed w i j) (one-claim w 1 11 (state_change p 1 (certificate ∷ [])) (omega arith) (omega arith) (λ q. signed-shown w k))

pub r12 : IsReached pbft p (world z3 o8 t1)
r12 = let w = world z3 o7 t1 in after r11 (move-one z3 o7 t1 (from 1 (give_up 1 11 1 (certificate ∷ []))) 12 (credible w 1 (give_up 1 11 1 (certificate ∷ [])) (omega arith) (shown-fit 1 11) (shown-signed w (inr (inr (inl refl))) (inr (inr (inr (inr (inr (inr (inl refl))))))) (inl refl))))

pub r13 : IsReached pbft p (world z3 o9 t1)
r13 = let w = world z3 o8 t1 in after r12 (move-one z3 o8 t1 (from 2 (give_up 2 3 1 [])) 12 (credible w 2 (give_up 2 3 1 []) (omega arith) (empty-fit 2 3) (one-claim w 2 3 (state_change p 1 []) (omega arith) (omega arith) (λ q. signed-empty w (inl refl)))))

pub r14 : IsReached pbft p (world z3 o10 t1)
r14 = let w = world z3 o9 t1 in after r13 (move-one z3 o9 t1 (from 3 (give_up 3 4 1 [])) 12 (credible w 3 (give_up 3 4 1 []) (omega arith) (empty-fit 3 4) (one-claim w 3 4 (state_change p 1 []) (omega arith) (omega arith) (of-three w (state_change p 1 [])))))

-- the claims that follow them in the NewView
abbrev pub others : List Claim
others =
    by_key 2 3 (state_change p 1 []) ∷ by_key 3 4 (state_change p 1 []) ∷ by_key 1 12 (state_at p 1 1 0 d) ∷ by_key 1 13 (state_at p 1 1 4 nil) ∷
    by_key 1 14 (state_new p 1) ∷ []

pub renewal-signed : AreSigned (world z3 o10 t1) (claims p 1 renewal)
renewal-signed =
    let w = world z3 o10 t1 in
    signed-append w (certificate_claims p certificate ++ by_key 1 11 (state_change p 1 (certificate ∷ [])) ∷ []) others
    (shown-signed w (inr (inr (inl refl))) (inr (inr (inr (inr (inr (inr (inr (inr (inr (inl refl)))))))))) (inr (inr (inr (inl refl))))) (
      by-leaf 2 3 (state_change p 1 []) (omega arith) (omega arith),
      (λ q. signed-empty w (inl refl)),
      (
        by-leaf 3 4 (state_change p 1 []) (omega arith) (omega arith),
        of-three w (state_change p 1 []),
        (
          by-leaf 1 12 (state_at p 1 1 0 d) (omega arith) (omega arith),
          (λ q. signed-again w (inl refl)),
          (
            by-leaf 1 13 (state_at p 1 1 4 nil) (omega arith) (omega arith),
            (λ q. signed-nil w (inl refl)),
            one-claim w 1 14 (state_new p 1) (omega arith) (omega arith) (λ q. signed-new w (inl refl)),
          ),
        ),
      ),
    )

pub r15 : IsReached pbft p (world z3 o10 t2)
r15 = let w = world z3 o10 t1 in after r14 (move-two z3 o10 t1 (from 1 renewal) 5 (credible w 1 renewal (omega arith) renewal-fit renewal-signed))

pub r16 : IsReached pbft p (world z3 o10 t3)
r16 = let w = world z3 o10 t2 in after r15 (move-two z3 o10 t2 (from 2 (again 2 5)) 7 (credible w 2 (again 2 5) (omega arith) (again-fit 2 5) (one-claim w 2 5 (state_at p 2 1 0 d) (omega arith) (omega arith) (λ q. signed-two w (inl refl)))))

abbrev pub last : World Message
last = world z3 o10 t4

pub r17 : IsReached pbft p last
r17 = let w = world z3 o10 t3 in after r16 (move-two z3 o10 t3 (from 3 (again 3 5)) 7 (credible w 3 (again 3 5) (omega arith) (again-fit 3 5) (one-claim w 3 5 (state_at p 2 1 0 d) (omega arith) (omega arith) (of-three w (state_at p 2 1 0 d)))))

pub delivers : delivered pbft p 1 (last 1) 0 ≡ Some (Value_batch b)
unfolding sha256 digest_bytes hash_after compress rounds schedule first_words spell_batch spell_count spell_value
delivers = refl
