-- Four replicas under PBFT, of which replica 3 is Byzantine, if a new view proposes the value of the lowest certificate.
-- In view 0 replica 1 prepares the batch of replica 0, so replica 3 can make a certificate of it. View 1 begins with nil,
-- which replica 2 delivers; replicas 1 and 2 have certificates of it. Replica 3 starts view 3 with these and its own, which
-- is lower. So replicas 0 and 1 commit the batch there, and replica 0 delivers it.
use Rattle.std.proofs.Common.{◌≡◌, ◌<◌, ◌^◌, ℕ, Bool, true, false, cond, eqb, List, [], ◌∷◌, Option, Some, refl, sym, ap, subst, inl, inr, arith, true≢false}
use Rattle.sha2.specs.Sha256.{sha256, digest_bytes, hash_after, compress, rounds, schedule, first_words}
use Rattle.iss_base.specs.Lists.{In}
use Rattle.iss_base.proofs.Lists.{both, eqb-other}
use Rattle.iss_request.specs.Formats.{spell_batch, spell_count, spell_value}
use Rattle.iss_request.specs.declared.requests.Value.{Value}
use Rattle.iss_request.specs.declared.requests.Value.TheVariants.{Nil as Value_nil, Batch as Value_batch}
use Rattle.iss_sb.specs.declared.effects.Claim.{Claim}
use Rattle.iss_sb.specs.declared.effects.Input.{Input}
use Rattle.iss_sb.specs.declared.effects.Input.TheVariants.{Cast, Timeout}
use Rattle.iss_sb.specs.declared.effects.To.{To}
use Rattle.iss_sb.specs.declared.effects.To.TheVariants.{All as To_all}
use Rattle.iss_sb.specs.Calls.{IsGoodParams}
use Rattle.iss_sb.specs.Evidence.{Item, World, IsCredible, IsHashed, IsReached, IsSigned, IsString, MayCome, Move, Separate, Verifies, and_then, at_start, after, delivered, empty_world, is_correct}
use Rattle.iss_sb.specs.Laws.{IsSafe}
use Rattle.iss_sb.specs.Statements.{signature}
use Rattle.iss_sb.proofs.Signatures.{signature-verifies}
use Rattle.pbft_wire.specs.declared.messages.Certificate.{Certificate}
use Rattle.pbft_wire.specs.declared.messages.Message.{Message}
use Rattle.pbft_wire.specs.Signed.{PrePrepare, Prepare, Commit, NewView}
use Rattle.pbft_wire.specs.Certificates.{fits_certificate}
use Rattle.pbft_wire.specs.Messages.{fits}
use Rattle.pbft_wire.specs.Statements.{state_at, state_change, state_new}
use Rattle.pbft_wire.proofs.MessageGrammar.{fits-again}
use Rattle.sb_pbft.proofs.Examples.FourReplicas.{b, change, d, from, give_up, nil, node, p, setup, sig, slot}
use Rattle.sb_pbft.proofs.Examples.ByzantineRun.{Items, by_key, b-read, d-fit, empty-fit, good-setup, shape, world}
use Rattle.sb_pbft.proofs.Examples.PremisesAreMet.{EachOf, OneOf, each-of}
use Rattle.counterexamples.proofs.PbftStrings.{nil-fit, two-are-separate}
use Rattle.counterexamples.specs.Pbft.{by_the_lowest, claims_seen, makes_seen}

good : IsGoodParams by_the_lowest p
good = record {
  setup = good-setup;
  kind = refl;
  nodes = refl;
  majority = refl;
  leader = omega arith;
  some = omega arith;
  few = omega arith;
  ascending = (omega arith, (omega arith, tt));
  slots_low = (omega arith, (omega arith, tt));
  directory = refl;
}

-- ---- moves. Each step takes leaf 1

abbrev next : ℕ → Input Message → Items → Items
next me i xs = and_then by_the_lowest p me xs i 1

abbrev item : ℕ → Input Message → Items → Item Message
item me i xs = record { input = i; leaf = 1; made = makes_seen p me xs i 1 }

first-move : (input : Input Message) → MayCome by_the_lowest p empty_world 0 input →
    Move by_the_lowest p empty_world (world (next 0 input []) [] [])
first-move input may = record { node = 0; correct = refl; input = input; may = may; leaf = 1; takes = refl; others = λ i ne. rw (eqb-other i 0 ne) (none (eqb i 1) (eqb i 2)) }
  where
    none : (t u : Bool) → ◌≡◌ {A = Items} (cond t [] (cond u [] [])) []
    none true u = refl
    none false true = refl
    none false false = refl

module _ (xs ys zs : Items) (input : Input Message) where
  move-zero : MayCome by_the_lowest p (world xs ys zs) 0 input → Move by_the_lowest p (world xs ys zs) (world (next 0 input xs) ys zs)
  move-zero may = record { node = 0; correct = refl; input = input; may = may; leaf = 1; takes = refl; others = λ i ne. rw (eqb-other i 0 ne) refl }

  move-one : MayCome by_the_lowest p (world xs ys zs) 1 input → Move by_the_lowest p (world xs ys zs) (world xs (next 1 input ys) zs)
  move-one may = record { node = 1; correct = refl; input = input; may = may; leaf = 1; takes = refl; others = λ i ne. rw (eqb-other i 1 ne) refl }

  move-two : MayCome by_the_lowest p (world xs ys zs) 2 input → Move by_the_lowest p (world xs ys zs) (world xs ys (next 2 input zs))
  move-two may = record { node = 2; correct = refl; input = input; may = may; leaf = 1; takes = refl; others = λ i ne. rw (eqb-other i 2 ne) refl }

-- ---- messages whose claims verify, and whose claims of correct replicas were signed

abbrev IsSaid : World Message → ℕ → List ℕ → Type 0
IsSaid w k st = is_correct setup k ≡ true → IsSigned by_the_lowest p w k st

data AreSaid (w : World Message) : List Claim → Type 0 where
  none : AreSaid w []
  more : {cs : List Claim} (k leaf : ℕ) (st : List ℕ) → leaf < 2 ^ 4 → k < 4 → IsSaid w k st → AreSaid w cs →
      AreSaid w (by_key k leaf st ∷ cs)

verified-all : (w : World Message) (cs : List Claim) → AreSaid w cs → (c : Claim) → In c cs → Verifies p c
verified-all w [] h c i = absurd i
verified-all w (x ∷ cs) (more k leaf st l m said h) c (inl e) =
    subst (λ (z : Claim). Verifies p z) (sym e) (signature-verifies by_the_lowest p good k leaf st m l)
verified-all w (x ∷ cs) (more k leaf st l m said h) c (inr i) = verified-all w cs h c i

said-all : (w : World Message) (cs : List Claim) → AreSaid w cs → (c : Claim) → In c cs → IsSaid w c.by.0 c.statement
said-all w [] h c i = absurd i
said-all w (x ∷ cs) (more k leaf st l m said h) c (inl e) = subst (λ (z : Claim). IsSaid w z.by.0 z.statement) (sym e) said
said-all w (x ∷ cs) (more k leaf st l m said h) c (inr i) = said-all w cs h c i

credible : (w : World Message) (k : ℕ) (msg : Message) → k < 4 → fits 1 msg ≡ true → AreSaid w (claims_seen p k msg) →
    IsCredible by_the_lowest p (Verifies p) (IsSigned by_the_lowest p w) k msg
credible w k msg l f h = record {
  named = l;
  read = fits-again 1 msg f;
  verified = λ c i. verified-all w (claims_seen p k msg) h c i;
  signed = λ c i q. said-all w (claims_seen p k msg) h c i q;
}

-- a Byzantine replica's claim need not be in its history
of-three : (w : World Message) (st : List ℕ) → IsSaid w 3 st
of-three w st h = absurd (true≢false (sym h))

-- the first signature of replica k in a message that it sent at a step
sent : (w : World Message) (k leaf : ℕ) (st : List ℕ) (i : Input Message) (xs : Items) (msg : Message) → In (item k i xs) (w k) →
    In {A = To × Message} (To_all, msg) (makes_seen p k xs i 1).sends → In (by_key k leaf st) (claims_seen p k msg) → IsSaid w k st
sent w k leaf st i xs msg h s c q = record {
  item = item k i xs;
  taken = h;
  to = To_all;
  msg = msg;
  sent = s;
  claim = by_key k leaf st;
  made = c;
  by = refl;
  is = refl;
}

-- ---- a replica takes a message

module _ (xs ys zs : Items) (k : ℕ) (msg : Message) (l : k < 4) (f : fits 1 msg ≡ true)
    (h : AreSaid (world xs ys zs) (claims_seen p k msg)) (r : IsReached by_the_lowest p (world xs ys zs)) where
  zero-takes : IsReached by_the_lowest p (world (next 0 (from k msg) xs) ys zs)
  zero-takes = after r (move-zero xs ys zs (from k msg) (credible (world xs ys zs) k msg l f h))

  one-takes : IsReached by_the_lowest p (world xs (next 1 (from k msg) ys) zs)
  one-takes = after r (move-one xs ys zs (from k msg) (credible (world xs ys zs) k msg l f h))

  two-takes : IsReached by_the_lowest p (world xs ys (next 2 (from k msg) zs))
  two-takes = after r (move-two xs ys zs (from k msg) (credible (world xs ys zs) k msg l f h))

-- ---- messages

abbrev proposal : Message
proposal = PrePrepare 0 (slot 0) (Value_batch b) (sig 0 1 1 0 0 d)

abbrev prepare : ℕ → ℕ → List ℕ → Message
prepare k v e = Prepare v (slot 0) e (sig k 1 2 v 0 e)

abbrev commit : ℕ → ℕ → List ℕ → Message
commit k v e = Commit v (slot 0) e (sig k 1 3 v 0 e)

abbrev batch_certificate : Certificate
batch_certificate = record {
  slot = slot 0;
  view = 0;
  value = Value_batch b;
  sig = sig 0 1 1 0 0 d;
  prepares = record { by = node 1; sig = sig 1 1 2 0 0 d } ∷ record { by = node 3; sig = sig 3 1 2 0 0 d } ∷ [];
}

abbrev nil_certificate : Certificate
nil_certificate = record {
  slot = slot 0;
  view = 1;
  value = Value_nil;
  sig = sig 1 1 1 1 0 nil;
  prepares = record { by = node 2; sig = sig 2 1 2 1 0 nil } ∷ record { by = node 3; sig = sig 3 1 2 1 0 nil } ∷ [];
}

abbrev first_view : Message
first_view =
    NewView 1 (change 1 1 1 [] ∷ change 2 1 1 [] ∷ change 3 1 1 [] ∷ [])
    (sig 1 1 1 1 0 nil ∷ sig 1 2 1 1 4 nil ∷ []) (signature p 1 3 (state_new p 1))

abbrev third_view : Message
third_view =
    NewView 3 (change 1 1 3 (nil_certificate ∷ []) ∷ change 2 1 3 (nil_certificate ∷ []) ∷ change 3 1 3 (batch_certificate ∷ []) ∷ [])
    (sig 3 1 1 3 0 d ∷ sig 3 1 1 3 4 nil ∷ []) (signature p 3 1 (state_new p 3))

-- ---- histories

abbrev z1 : Items
z1 = next 0 (Cast (slot 0) b) []

abbrev o1 : Items
o1 = next 1 (from 0 proposal) []

-- all leave view 0, with no certificate
abbrev o2 : Items
o2 = next 1 Timeout o1

abbrev t1 : Items
t1 = next 2 Timeout []

abbrev o3 : Items
o3 = next 1 (from 1 (give_up 1 1 1 [])) o2

abbrev o4 : Items
o4 = next 1 (from 2 (give_up 2 1 1 [])) o3

abbrev o5 : Items
o5 = next 1 (from 3 (give_up 3 1 1 [])) o4

-- view 1 decides nil at replica 2
abbrev t2 : Items
t2 = next 2 (from 1 first_view) t1

abbrev o6 : Items
o6 = next 1 (from 1 first_view) o5

abbrev o7 : Items
o7 = next 1 (from 2 (prepare 2 1 nil)) o6

abbrev o8 : Items
o8 = next 1 (from 3 (prepare 3 1 nil)) o7

abbrev t3 : Items
t3 = next 2 (from 2 (prepare 2 1 nil)) t2

abbrev t4 : Items
t4 = next 2 (from 3 (prepare 3 1 nil)) t3

abbrev t5 : Items
t5 = next 2 (from 1 (commit 1 1 nil)) t4

abbrev t6 : Items
t6 = next 2 (from 2 (commit 2 1 nil)) t5

abbrev t7 : Items
t7 = next 2 (from 3 (commit 3 1 nil)) t6

-- all leave views 1 and 2, and show the certificates of nil
abbrev o9 : Items
o9 = next 1 Timeout o8

abbrev o10 : Items
o10 = next 1 Timeout o9

abbrev t8 : Items
t8 = next 2 Timeout t7

abbrev t9 : Items
t9 = next 2 Timeout t8

-- view 3 decides the batch at replica 0
abbrev z2 : Items
z2 = next 0 (from 3 third_view) z1

abbrev o11 : Items
o11 = next 1 (from 3 third_view) o10

abbrev z3 : Items
z3 = next 0 (from 0 (prepare 0 3 d)) z2

abbrev z4 : Items
z4 = next 0 (from 1 (prepare 1 3 d)) z3

abbrev o12 : Items
o12 = next 1 (from 0 (prepare 0 3 d)) o11

abbrev o13 : Items
o13 = next 1 (from 1 (prepare 1 3 d)) o12

abbrev z5 : Items
z5 = next 0 (from 0 (commit 0 3 d)) z4

abbrev z6 : Items
z6 = next 0 (from 1 (commit 1 3 d)) z5

abbrev z7 : Items
z7 = next 0 (from 3 (commit 3 3 d)) z6

abbrev last : World Message
last = world z7 o13 t9

batch-delivered : delivered by_the_lowest p 0 (last 0) 0 ≡ Some (Value_batch b)
unfolding sha256 digest_bytes hash_after compress rounds schedule first_words spell_batch spell_count spell_value
batch-delivered = refl

nil-delivered : delivered by_the_lowest p 2 (last 2) 0 ≡ Some Value_nil
unfolding sha256 digest_bytes hash_after compress rounds schedule first_words spell_batch spell_count spell_value
nil-delivered = refl

-- ---- messages that decode

proposal-fit : fits 1 proposal ≡ true
proposal-fit = both _ _ refl (both _ _ refl (both _ _ refl (shape 0 1 (state_at p 1 0 0 d))))

prepare-nil-fit : (k : ℕ) → fits 1 (prepare k 1 nil) ≡ true
prepare-nil-fit k = both _ _ refl (both _ _ refl (nil-fit k 1 (state_at p 2 1 0 nil)))

commit-nil-fit : (k : ℕ) → fits 1 (commit k 1 nil) ≡ true
commit-nil-fit k = both _ _ refl (both _ _ refl (nil-fit k 1 (state_at p 3 1 0 nil)))

prepare-fit : (k : ℕ) → fits 1 (prepare k 3 d) ≡ true
prepare-fit k = both _ _ refl (both _ _ refl (d-fit k 1 (state_at p 2 3 0 d)))

commit-fit : (k : ℕ) → fits 1 (commit k 3 d) ≡ true
commit-fit k = both _ _ refl (both _ _ refl (d-fit k 1 (state_at p 3 3 0 d)))

first-view-fit : fits 1 first_view ≡ true
first-view-fit =
    both _ _ refl
    (both _ _ (both _ _ refl (both _ _ (both _ _ refl (empty-fit 1 1)) (both _ _ (both _ _ refl (empty-fit 2 1)) (both _ _ (both _ _ refl (empty-fit 3 1)) refl))))
    (both _ _ (both _ _ refl (both _ _ (shape 1 1 (state_at p 1 1 0 nil)) (both _ _ (shape 1 2 (state_at p 1 1 4 nil)) refl))) (shape 1 3 (state_new p 1))))

batch-certificate-fit : fits_certificate 1 batch_certificate ≡ true
batch-certificate-fit =
    both _ _ refl (both _ _ refl (both _ _ refl (both _ _ (shape 0 1 (state_at p 1 0 0 d)) (both _ _ refl (both _ _ (both _ _ refl (shape 1 1 (state_at p 2 0 0 d))) (both _ _ (both _ _ refl (shape 3 1 (state_at p 2 0 0 d))) refl))))))

nil-certificate-fit : fits_certificate 1 nil_certificate ≡ true
nil-certificate-fit =
    both _ _ refl (both _ _ refl (both _ _ refl (both _ _ (shape 1 1 (state_at p 1 1 0 nil)) (both _ _ refl (both _ _ (both _ _ refl (shape 2 1 (state_at p 2 1 0 nil))) (both _ _ (both _ _ refl (shape 3 1 (state_at p 2 1 0 nil))) refl))))))

nil-shown-fit : (k : ℕ) → fits 1 (give_up k 1 3 (nil_certificate ∷ [])) ≡ true
nil-shown-fit k = both _ _ refl (both _ _ (both _ _ refl (both _ _ (both _ _ refl nil-certificate-fit) refl)) (shape k 1 (state_change p 3 (nil_certificate ∷ []))))

batch-shown-fit : fits 1 (give_up 3 1 3 (batch_certificate ∷ [])) ≡ true
batch-shown-fit = both _ _ refl (both _ _ (both _ _ refl (both _ _ (both _ _ refl batch-certificate-fit) refl)) (shape 3 1 (state_change p 3 (batch_certificate ∷ []))))

third-view-fit : fits 1 third_view ≡ true
third-view-fit =
    both _ _ refl
    (both _ _ (both _ _ refl (both _ _ (both _ _ refl (nil-shown-fit 1)) (both _ _ (both _ _ refl (nil-shown-fit 2)) (both _ _ (both _ _ refl batch-shown-fit) refl))))
    (both _ _ (both _ _ refl (both _ _ (shape 3 1 (state_at p 1 3 0 d)) (both _ _ (shape 3 1 (state_at p 1 3 4 nil)) refl))) (shape 3 1 (state_new p 3))))

-- ---- what correct replicas send

abbrev Sends : ℕ → Items → Input Message → Message → Type 0
Sends k xs i msg = In {A = To × Message} (To_all, msg) (makes_seen p k xs i 1).sends

renews : Sends 1 o4 (from 3 (give_up 3 1 1 [])) first_view
unfolding sha256 digest_bytes hash_after compress rounds schedule first_words spell_batch spell_count spell_value
renews = inl refl

one-gives-up : Sends 1 o1 Timeout (give_up 1 1 1 [])
unfolding sha256 digest_bytes hash_after compress rounds schedule first_words spell_batch spell_count spell_value
one-gives-up = inl refl

two-prepares : Sends 2 t1 (from 1 first_view) (prepare 2 1 nil)
unfolding sha256 digest_bytes hash_after compress rounds schedule first_words spell_batch spell_count spell_value
two-prepares = inl refl

one-commits : Sends 1 o7 (from 3 (prepare 3 1 nil)) (commit 1 1 nil)
unfolding sha256 digest_bytes hash_after compress rounds schedule first_words spell_batch spell_count spell_value
one-commits = inl refl

two-commits : Sends 2 t3 (from 3 (prepare 3 1 nil)) (commit 2 1 nil)
unfolding sha256 digest_bytes hash_after compress rounds schedule first_words spell_batch spell_count spell_value
two-commits = inl refl

one-shows : Sends 1 o9 Timeout (give_up 1 1 3 (nil_certificate ∷ []))
unfolding sha256 digest_bytes hash_after compress rounds schedule first_words spell_batch spell_count spell_value
one-shows = inl refl

two-shows : Sends 2 t8 Timeout (give_up 2 1 3 (nil_certificate ∷ []))
unfolding sha256 digest_bytes hash_after compress rounds schedule first_words spell_batch spell_count spell_value
two-shows = inl refl

zero-prepares-again : Sends 0 z1 (from 3 third_view) (prepare 0 3 d)
unfolding sha256 digest_bytes hash_after compress rounds schedule first_words spell_batch spell_count spell_value
zero-prepares-again = inl refl

one-prepares-again : Sends 1 o10 (from 3 third_view) (prepare 1 3 d)
unfolding sha256 digest_bytes hash_after compress rounds schedule first_words spell_batch spell_count spell_value
one-prepares-again = inl refl

zero-commits-again : Sends 0 z3 (from 1 (prepare 1 3 d)) (commit 0 3 d)
unfolding sha256 digest_bytes hash_after compress rounds schedule first_words spell_batch spell_count spell_value
zero-commits-again = inl refl

one-commits-again : Sends 1 o12 (from 1 (prepare 1 3 d)) (commit 1 3 d)
unfolding sha256 digest_bytes hash_after compress rounds schedule first_words spell_batch spell_count spell_value
one-commits-again = inl refl

-- ---- so these statements are signed

module _ (w : World Message) where
  proposed : In (item 0 (Cast (slot 0) b) []) (w 0) → IsSaid w 0 (state_at p 1 0 0 d)
  proposed h = sent w 0 1 (state_at p 1 0 0 d) (Cast (slot 0) b) [] proposal h (inl refl) (inl refl)

  prepared : In (item 1 (from 0 proposal) []) (w 1) → IsSaid w 1 (state_at p 2 0 0 d)
  prepared h = sent w 1 1 (state_at p 2 0 0 d) (from 0 proposal) [] (prepare 1 0 d) h (inl refl) (inl refl)

  one-left : In (item 1 Timeout o1) (w 1) → IsSaid w 1 (state_change p 1 [])
  one-left h = sent w 1 1 (state_change p 1 []) Timeout o1 (give_up 1 1 1 []) h one-gives-up (inl refl)

  two-left : In (item 2 Timeout []) (w 2) → IsSaid w 2 (state_change p 1 [])
  two-left h = sent w 2 1 (state_change p 1 []) Timeout [] (give_up 2 1 1 []) h (inl refl) (inl refl)

  module _ (h : In (item 1 (from 3 (give_up 3 1 1 [])) o4) (w 1)) where
    nil-proposed : IsSaid w 1 (state_at p 1 1 0 nil)
    nil-proposed = sent w 1 1 (state_at p 1 1 0 nil) (from 3 (give_up 3 1 1 [])) o4 first_view h renews (inr (inr (inr (inl refl))))

    other-proposed : IsSaid w 1 (state_at p 1 1 4 nil)
    other-proposed = sent w 1 2 (state_at p 1 1 4 nil) (from 3 (give_up 3 1 1 [])) o4 first_view h renews (inr (inr (inr (inr (inl refl)))))

    view-started : IsSaid w 1 (state_new p 1)
    view-started = sent w 1 3 (state_new p 1) (from 3 (give_up 3 1 1 [])) o4 first_view h renews (inr (inr (inr (inr (inr (inl refl))))))

  nil-prepared : In (item 2 (from 1 first_view) t1) (w 2) → IsSaid w 2 (state_at p 2 1 0 nil)
  nil-prepared h = sent w 2 1 (state_at p 2 1 0 nil) (from 1 first_view) t1 (prepare 2 1 nil) h two-prepares (inl refl)

  one-committed : In (item 1 (from 3 (prepare 3 1 nil)) o7) (w 1) → IsSaid w 1 (state_at p 3 1 0 nil)
  one-committed h = sent w 1 1 (state_at p 3 1 0 nil) (from 3 (prepare 3 1 nil)) o7 (commit 1 1 nil) h one-commits (inl refl)

  two-committed : In (item 2 (from 3 (prepare 3 1 nil)) t3) (w 2) → IsSaid w 2 (state_at p 3 1 0 nil)
  two-committed h = sent w 2 1 (state_at p 3 1 0 nil) (from 3 (prepare 3 1 nil)) t3 (commit 2 1 nil) h two-commits (inl refl)

  one-showed : In (item 1 Timeout o9) (w 1) → IsSaid w 1 (state_change p 3 (nil_certificate ∷ []))
  one-showed h = sent w 1 1 (state_change p 3 (nil_certificate ∷ [])) Timeout o9 (give_up 1 1 3 (nil_certificate ∷ [])) h one-shows (inr (inr (inr (inl refl))))

  two-showed : In (item 2 Timeout t8) (w 2) → IsSaid w 2 (state_change p 3 (nil_certificate ∷ []))
  two-showed h = sent w 2 1 (state_change p 3 (nil_certificate ∷ [])) Timeout t8 (give_up 2 1 3 (nil_certificate ∷ [])) h two-shows (inr (inr (inr (inl refl))))

  zero-prepared-again : In (item 0 (from 3 third_view) z1) (w 0) → IsSaid w 0 (state_at p 2 3 0 d)
  zero-prepared-again h = sent w 0 1 (state_at p 2 3 0 d) (from 3 third_view) z1 (prepare 0 3 d) h zero-prepares-again (inl refl)

  one-prepared-again : In (item 1 (from 3 third_view) o10) (w 1) → IsSaid w 1 (state_at p 2 3 0 d)
  one-prepared-again h = sent w 1 1 (state_at p 2 3 0 d) (from 3 third_view) o10 (prepare 1 3 d) h one-prepares-again (inl refl)

  zero-committed-again : In (item 0 (from 1 (prepare 1 3 d)) z3) (w 0) → IsSaid w 0 (state_at p 3 3 0 d)
  zero-committed-again h = sent w 0 1 (state_at p 3 3 0 d) (from 1 (prepare 1 3 d)) z3 (commit 0 3 d) h zero-commits-again (inl refl)

  one-committed-again : In (item 1 (from 1 (prepare 1 3 d)) o12) (w 1) → IsSaid w 1 (state_at p 3 3 0 d)
  one-committed-again h = sent w 1 1 (state_at p 3 3 0 d) (from 1 (prepare 1 3 d)) o12 (commit 1 3 d) h one-commits-again (inl refl)

  -- a message with one claim
  single : (k : ℕ) (st : List ℕ) → k < 4 → IsSaid w k st → AreSaid w (by_key k 1 st ∷ [])
  single k st l h = more k 1 st (omega arith) l h none

  by-three : (st : List ℕ) → AreSaid w (by_key 3 1 st ∷ [])
  by-three st = single 3 st (omega arith) (of-three w st)

  first-view-said : In (item 1 Timeout o1) (w 1) → In (item 2 Timeout []) (w 2) → In (item 1 (from 3 (give_up 3 1 1 [])) o4) (w 1) →
      AreSaid w (claims_seen p 1 first_view)
  first-view-said h k n =
      more 1 1 (state_change p 1 []) (omega arith) (omega arith) (one-left h)
      (more 2 1 (state_change p 1 []) (omega arith) (omega arith) (two-left k)
      (more 3 1 (state_change p 1 []) (omega arith) (omega arith) (of-three w (state_change p 1 []))
      (more 1 1 (state_at p 1 1 0 nil) (omega arith) (omega arith) (nil-proposed n)
      (more 1 2 (state_at p 1 1 4 nil) (omega arith) (omega arith) (other-proposed n)
      (more 1 3 (state_new p 1) (omega arith) (omega arith) (view-started n) none)))))

  third-view-said : In (item 0 (Cast (slot 0) b) []) (w 0) → In (item 1 (from 0 proposal) []) (w 1) →
      In (item 1 (from 3 (give_up 3 1 1 [])) o4) (w 1) → In (item 2 (from 1 first_view) t1) (w 2) →
      In (item 1 Timeout o9) (w 1) → In (item 2 Timeout t8) (w 2) → AreSaid w (claims_seen p 3 third_view)
  third-view-said c q n h i j =
      more 1 1 (state_at p 1 1 0 nil) (omega arith) (omega arith) (nil-proposed n)
      (more 2 1 (state_at p 2 1 0 nil) (omega arith) (omega arith) (nil-prepared h)
      (more 3 1 (state_at p 2 1 0 nil) (omega arith) (omega arith) (of-three w (state_at p 2 1 0 nil))
      (more 1 1 (state_change p 3 (nil_certificate ∷ [])) (omega arith) (omega arith) (one-showed i)
      (more 1 1 (state_at p 1 1 0 nil) (omega arith) (omega arith) (nil-proposed n)
      (more 2 1 (state_at p 2 1 0 nil) (omega arith) (omega arith) (nil-prepared h)
      (more 3 1 (state_at p 2 1 0 nil) (omega arith) (omega arith) (of-three w (state_at p 2 1 0 nil))
      (more 2 1 (state_change p 3 (nil_certificate ∷ [])) (omega arith) (omega arith) (two-showed j)
      (more 0 1 (state_at p 1 0 0 d) (omega arith) (omega arith) (proposed c)
      (more 1 1 (state_at p 2 0 0 d) (omega arith) (omega arith) (prepared q)
      (more 3 1 (state_at p 2 0 0 d) (omega arith) (omega arith) (of-three w (state_at p 2 0 0 d))
      (more 3 1 (state_change p 3 (batch_certificate ∷ [])) (omega arith) (omega arith) (of-three w (state_change p 3 (batch_certificate ∷ [])))
      (more 3 1 (state_at p 1 3 0 d) (omega arith) (omega arith) (of-three w (state_at p 1 3 0 d))
      (more 3 1 (state_at p 1 3 4 nil) (omega arith) (omega arith) (of-three w (state_at p 1 3 4 nil))
      (by-three (state_new p 3)))))))))))))))

-- ---- each step

r1 : IsReached by_the_lowest p (world z1 [] [])
r1 = after at_start (first-move (Cast (slot 0) b) (refl, b-read))

r2 : IsReached by_the_lowest p (world z1 o1 [])
r2 = let w = world z1 [] [] in one-takes z1 [] [] 0 proposal (omega arith) proposal-fit (single w 0 (state_at p 1 0 0 d) (omega arith) (proposed w (inl refl))) r1

r4 : IsReached by_the_lowest p (world z1 o2 t1)
r4 = after (after r2 (move-one z1 o1 [] Timeout tt)) (move-two z1 o2 [] Timeout tt)

r5 : IsReached by_the_lowest p (world z1 o3 t1)
r5 = let w = world z1 o2 t1 in one-takes z1 o2 t1 1 (give_up 1 1 1 []) (omega arith) (empty-fit 1 1) (single w 1 (state_change p 1 []) (omega arith) (one-left w (inl refl))) r4

r6 : IsReached by_the_lowest p (world z1 o4 t1)
r6 = let w = world z1 o3 t1 in one-takes z1 o3 t1 2 (give_up 2 1 1 []) (omega arith) (empty-fit 2 1) (single w 2 (state_change p 1 []) (omega arith) (two-left w (inl refl))) r5

r7 : IsReached by_the_lowest p (world z1 o5 t1)
r7 = let w = world z1 o4 t1 in one-takes z1 o4 t1 3 (give_up 3 1 1 []) (omega arith) (empty-fit 3 1) (by-three w (state_change p 1 [])) r6

r8 : IsReached by_the_lowest p (world z1 o5 t2)
r8 = let w = world z1 o5 t1 in two-takes z1 o5 t1 1 first_view (omega arith) first-view-fit (first-view-said w (inr (inr (inr (inl refl)))) (inl refl) (inl refl)) r7

r9 : IsReached by_the_lowest p (world z1 o6 t2)
r9 = let w = world z1 o5 t2 in one-takes z1 o5 t2 1 first_view (omega arith) first-view-fit (first-view-said w (inr (inr (inr (inl refl)))) (inr (inl refl)) (inl refl)) r8

r10 : IsReached by_the_lowest p (world z1 o7 t2)
r10 = let w = world z1 o6 t2 in one-takes z1 o6 t2 2 (prepare 2 1 nil) (omega arith) (prepare-nil-fit 2) (single w 2 (state_at p 2 1 0 nil) (omega arith) (nil-prepared w (inl refl))) r9

r11 : IsReached by_the_lowest p (world z1 o8 t2)
r11 = let w = world z1 o7 t2 in one-takes z1 o7 t2 3 (prepare 3 1 nil) (omega arith) (prepare-nil-fit 3) (by-three w (state_at p 2 1 0 nil)) r10

r12 : IsReached by_the_lowest p (world z1 o8 t3)
r12 = let w = world z1 o8 t2 in two-takes z1 o8 t2 2 (prepare 2 1 nil) (omega arith) (prepare-nil-fit 2) (single w 2 (state_at p 2 1 0 nil) (omega arith) (nil-prepared w (inl refl))) r11

r13 : IsReached by_the_lowest p (world z1 o8 t4)
r13 = let w = world z1 o8 t3 in two-takes z1 o8 t3 3 (prepare 3 1 nil) (omega arith) (prepare-nil-fit 3) (by-three w (state_at p 2 1 0 nil)) r12

r14 : IsReached by_the_lowest p (world z1 o8 t5)
r14 = let w = world z1 o8 t4 in two-takes z1 o8 t4 1 (commit 1 1 nil) (omega arith) (commit-nil-fit 1) (single w 1 (state_at p 3 1 0 nil) (omega arith) (one-committed w (inl refl))) r13

r15 : IsReached by_the_lowest p (world z1 o8 t6)
r15 = let w = world z1 o8 t5 in two-takes z1 o8 t5 2 (commit 2 1 nil) (omega arith) (commit-nil-fit 2) (single w 2 (state_at p 3 1 0 nil) (omega arith) (two-committed w (inr (inl refl)))) r14

r16 : IsReached by_the_lowest p (world z1 o8 t7)
r16 = let w = world z1 o8 t6 in two-takes z1 o8 t6 3 (commit 3 1 nil) (omega arith) (commit-nil-fit 3) (by-three w (state_at p 3 1 0 nil)) r15

r18 : IsReached by_the_lowest p (world z1 o10 t7)
r18 = after (after r16 (move-one z1 o8 t7 Timeout tt)) (move-one z1 o9 t7 Timeout tt)

r20 : IsReached by_the_lowest p (world z1 o10 t9)
r20 = after (after r18 (move-two z1 o10 t7 Timeout tt)) (move-two z1 o10 t8 Timeout tt)

-- the steps that third_view shows
third-said : (xs : Items) → In (item 0 (Cast (slot 0) b) []) xs → AreSaid (world xs o10 t9) (claims_seen p 3 third_view)
third-said xs c =
    third-view-said (world xs o10 t9) c (inr (inr (inr (inr (inr (inr (inr (inr (inr (inl refl)))))))))) (inr (inr (inr (inr (inr (inl refl))))))
    (inr (inr (inr (inr (inr (inr (inr (inl refl)))))))) (inl refl) (inl refl)

r21 : IsReached by_the_lowest p (world z2 o10 t9)
r21 = zero-takes z1 o10 t9 3 third_view (omega arith) third-view-fit (third-said z1 (inl refl)) r20

r22 : IsReached by_the_lowest p (world z2 o11 t9)
r22 = one-takes z2 o10 t9 3 third_view (omega arith) third-view-fit (third-said z2 (inr (inl refl))) r21

r23 : IsReached by_the_lowest p (world z3 o11 t9)
r23 = let w = world z2 o11 t9 in zero-takes z2 o11 t9 0 (prepare 0 3 d) (omega arith) (prepare-fit 0) (single w 0 (state_at p 2 3 0 d) (omega arith) (zero-prepared-again w (inl refl))) r22

r24 : IsReached by_the_lowest p (world z4 o11 t9)
r24 = let w = world z3 o11 t9 in zero-takes z3 o11 t9 1 (prepare 1 3 d) (omega arith) (prepare-fit 1) (single w 1 (state_at p 2 3 0 d) (omega arith) (one-prepared-again w (inl refl))) r23

r25 : IsReached by_the_lowest p (world z4 o12 t9)
r25 = let w = world z4 o11 t9 in one-takes z4 o11 t9 0 (prepare 0 3 d) (omega arith) (prepare-fit 0) (single w 0 (state_at p 2 3 0 d) (omega arith) (zero-prepared-again w (inr (inr (inl refl))))) r24

r26 : IsReached by_the_lowest p (world z4 o13 t9)
r26 = let w = world z4 o12 t9 in one-takes z4 o12 t9 1 (prepare 1 3 d) (omega arith) (prepare-fit 1) (single w 1 (state_at p 2 3 0 d) (omega arith) (one-prepared-again w (inr (inl refl)))) r25

r27 : IsReached by_the_lowest p (world z5 o13 t9)
r27 = let w = world z4 o13 t9 in zero-takes z4 o13 t9 0 (commit 0 3 d) (omega arith) (commit-fit 0) (single w 0 (state_at p 3 3 0 d) (omega arith) (zero-committed-again w (inl refl))) r26

r28 : IsReached by_the_lowest p (world z6 o13 t9)
r28 = let w = world z5 o13 t9 in zero-takes z5 o13 t9 1 (commit 1 3 d) (omega arith) (commit-fit 1) (single w 1 (state_at p 3 3 0 d) (omega arith) (one-committed-again w (inl refl))) r27

r29 : IsReached by_the_lowest p last
r29 = let w = world z6 o13 t9 in zero-takes z6 o13 t9 3 (commit 3 3 d) (omega arith) (commit-fit 3) (by-three w (state_at p 3 3 0 d)) r28

-- ---- its strings have distinct digests

of-zero : EachOf z7
of-zero = (tt, (tt, (tt, (tt, (tt, ((inl refl, (inl refl, (inr refl, tt))), ((inl refl, tt), tt)))))))

of-one : EachOf o13
of-one = (tt, (tt, ((inl refl, (inl refl, (inr refl, tt))), (tt, (tt, (tt, (tt, ((inr refl, (inr refl, tt)), ((inr refl, (inr refl, tt)), (tt, (tt, (tt, ((inl refl, tt), tt)))))))))))))

of-two : EachOf t9
of-two = (tt, (tt, (tt, (tt, (tt, (tt, (tt, ((inr refl, (inr refl, tt)), (tt, tt)))))))))

hashed-of : (s : List ℕ) → IsHashed last s → OneOf s
hashed-of s h = go (eqb h.node 0) (eqb h.node 1) (eqb h.node 2) h.taken
  where
    go : (t u v : Bool) → In h.item (cond t z7 (cond u o13 (cond v t9 []))) → OneOf s
    go true u v k = each-of z7 h.item s of-zero k h.hashed
    go false true v k = each-of o13 h.item s of-one k h.hashed
    go false false true k = each-of t9 h.item s of-two k h.hashed
    go false false false k = absurd k

separate : Separate (IsString last)
separate = two-are-separate last hashed-of

-- ---- two correct replicas disagree

abbrev is-batch : Option Value → Bool
is-batch (Some (Value_batch c)) = true
is-batch x = false

pub not-safe : IsSafe by_the_lowest → ⊥
not-safe safe =
    let broadcast = safe p last good r29 separate in
    let same = broadcast.agreement 0 2 0 (Value_batch b) Value_nil refl refl batch-delivered nil-delivered in
    true≢false (ap (λ x. is-batch (Some x)) same)
