-- HotStuff needs its safe test. Without it a Byzantine leader makes two correct replicas deliver different values, in the
-- reached world below.
--
-- Both nodes stand on the root, so they are for the same slot. Replica 3 leads the rounds 0 and 4.
--
--     root -- batch (round 0)     votes of 0, 1 and 3 in three phases; 0 and 1 are locked, and 0 delivers the batch
--     root -- nil (round 4)       votes of 1, 2 and 3 in three phases; 2 delivers nil
--
-- Replica 1 is in both quorums. HotStuff's own test refuses the second proposal there (`refused`): it neither extends the
-- lock nor stands on a certificate above it.
use Rattle.std.proofs.Common.{◌≡◌, ℕ, Bool, true, false, cond, eqb, List, [], ◌∷◌, Some, refl, sym, subst, inl, inr, arith}
use Rattle.sha2.specs.Sha256.{sha256, digest_bytes, hash_after, compress, rounds, schedule, first_words}
use Rattle.sha2.proofs.Facts256.{length-sha256}
use Rattle.iss_base.specs.Lists.{In}
use Rattle.iss_request.specs.Digest.{digest}
use Rattle.iss_request.specs.Formats.{spell_batch, spell_count, spell_value, value_string}
use Rattle.iss_request.specs.declared.requests.Value.TheVariants.{Nil as Value_nil, Batch as Value_batch}
use Rattle.iss_sb.specs.declared.content.Content.TheVariants.{Nil, Holds}
use Rattle.iss_sb.specs.Evidence.{Item, World, IsReached, IsReadMessage, IsString, Separate, and_then, delivered, empty_world}
use Rattle.iss_sb.specs.Laws.{IsBroadcast}
use Rattle.hs_tree.specs.declared.certificates.Certificate.TheVariants.{Root}
use Rattle.hs_tree.specs.declared.messages.Message.{Message}
use Rattle.hs_tree.specs.declared.messages.Body.TheVariants.{Prepare}
use Rattle.hs_tree.specs.Tree.{plain_string, root}
use Rattle.hs_views.proofs.SmallWorlds.{IsOneOf, all_differ, each-of, one-takes, separate-by, starts, two-takes, world, zero-takes}
use Rattle.hs_views.proofs.Tests.{AreStrings, each-string}
use Rattle.sb_chained.specs.Variants.{IsNotSafe}
use Rattle.sb_chained.proofs.Examples.LooseCommits.{batch-no-nil}
use Rattle.sb_chained.proofs.Examples.ByzantineLeader.{batch_held}
use Rattle.sb_chained.proofs.Examples.Runs.{b}
use Rattle.sb_hotstuff.specs.Rules.{node_digest}
use Rattle.sb_hotstuff.specs.Rules as Rules
use Rattle.counterexamples.specs.Hotstuff.{state, without_safe_test as loose}
use Rattle.counterexamples.proofs.HotstuffMessages.{AreCast, Arrives, IsPoll, Poll, alone, by, commit, commit-comes, decide, decide-comes, good, pre-commit-comes, pre_commit, prepare-read, q, sent, told, voted}

-- ---- The first proposal, and the votes for it

abbrev d : List ℕ
d = node_digest q 1 (Holds b) Root

abbrev first : Poll
first = record { view = 1; digest = d; one = 0; one_behind = 0; other = 1; other_behind = 0 }

first-is : IsPoll first
first-is = record { low = omega arith; high = omega arith; long = length-sha256 _; ascending = omega arith; few = omega arith; one_left = omega arith; other_left = omega arith }

abbrev proposal : Message
proposal = by (Prepare 1 (Holds b) Root)

proposal-read : IsReadMessage loose q proposal
proposal-read = prepare-read 1 (Holds b) batch_held.0 (omega arith) batch_held.1

-- ---- The second proposal, and the votes for it

abbrev z : List ℕ
z = node_digest q 262145 Nil Root

abbrev second : Poll
second = record { view = 262145; digest = z; one = 1; one_behind = 3; other = 2; other_behind = 0 }

second-is : IsPoll second
second-is = record { low = omega arith; high = omega arith; long = length-sha256 _; ascending = omega arith; few = omega arith; one_left = omega arith; other_left = omega arith }

abbrev against : Message
against = by (Prepare 262145 Nil Root)

against-read : IsReadMessage loose q against
against-read = prepare-read 262145 Nil _ (omega arith) refl

-- ---- What the replicas take: 0 and 1 in round 0, replica 1 after it, and replica 2

abbrev took : ℕ → List (Item Message) → Message → ℕ → List (Item Message)
took me xs msg leaf = and_then loose q me xs (told msg) leaf

abbrev early1 : ℕ → List (Item Message)
early1 me = took me [] proposal 1

abbrev early2 : ℕ → List (Item Message)
early2 me = took me (early1 me) (pre_commit first) 2

abbrev early3 : ℕ → List (Item Message)
early3 me = took me (early2 me) (commit first) 3

abbrev done : List (Item Message)
done = took 0 (early3 0) (decide first) 4

abbrev later1 : List (Item Message)
later1 = took 1 (early3 1) against 4

abbrev later2 : List (Item Message)
later2 = took 1 later1 (pre_commit second) 5

abbrev later3 : List (Item Message)
later3 = took 1 later2 (commit second) 6

abbrev fresh1 : List (Item Message)
fresh1 = took 2 [] against 1

abbrev fresh2 : List (Item Message)
fresh2 = took 2 fresh1 (pre_commit second) 2

abbrev fresh3 : List (Item Message)
fresh3 = took 2 fresh2 (commit second) 3

abbrev fresh4 : List (Item Message)
fresh4 = took 2 fresh3 (decide second) 4

early-vote-1 : (me : ℕ) → (loose.makes q me [] (told proposal) 1).sends ≡ sent first 1 1 me
unfolding sha256 digest_bytes hash_after compress rounds schedule first_words spell_batch spell_count spell_value
early-vote-1 me = refl

early-vote-2 : (me : ℕ) → (loose.makes q me (early1 me) (told (pre_commit first)) 2).sends ≡ sent first 2 2 me
unfolding sha256 digest_bytes hash_after compress rounds schedule first_words spell_batch spell_count spell_value
early-vote-2 me = refl

early-vote-3 : (me : ℕ) → (loose.makes q me (early2 me) (told (commit first)) 3).sends ≡ sent first 3 3 me
unfolding sha256 digest_bytes hash_after compress rounds schedule first_words spell_batch spell_count spell_value
early-vote-3 me = refl

later-vote-1 : (loose.makes q 1 (early3 1) (told against) 4).sends ≡ sent second 1 4 1
unfolding sha256 digest_bytes hash_after compress rounds schedule first_words spell_batch spell_count spell_value
later-vote-1 = refl

later-vote-2 : (loose.makes q 1 later1 (told (pre_commit second)) 5).sends ≡ sent second 2 5 1
unfolding sha256 digest_bytes hash_after compress rounds schedule first_words spell_batch spell_count spell_value
later-vote-2 = refl

later-vote-3 : (loose.makes q 1 later2 (told (commit second)) 6).sends ≡ sent second 3 6 1
unfolding sha256 digest_bytes hash_after compress rounds schedule first_words spell_batch spell_count spell_value
later-vote-3 = refl

fresh-vote-1 : (loose.makes q 2 [] (told against) 1).sends ≡ sent second 1 1 2
unfolding sha256 digest_bytes hash_after compress rounds schedule first_words spell_batch spell_count spell_value
fresh-vote-1 = refl

fresh-vote-2 : (loose.makes q 2 fresh1 (told (pre_commit second)) 2).sends ≡ sent second 2 2 2
unfolding sha256 digest_bytes hash_after compress rounds schedule first_words spell_batch spell_count spell_value
fresh-vote-2 = refl

fresh-vote-3 : (loose.makes q 2 fresh2 (told (commit second)) 3).sends ≡ sent second 3 3 2
unfolding sha256 digest_bytes hash_after compress rounds schedule first_words spell_batch spell_count spell_value
fresh-vote-3 = refl

delivers-batch : delivered loose q 0 done 0 ≡ Some (Value_batch b)
unfolding sha256 digest_bytes hash_after compress rounds schedule first_words spell_batch spell_count spell_value
delivers-batch = refl

delivers-nil : delivered loose q 2 fresh4 0 ≡ Some Value_nil
unfolding sha256 digest_bytes hash_after compress rounds schedule first_words spell_batch spell_count spell_value
delivers-nil = refl

-- under HotStuff's rule replica 1 does not take the second proposal
refused : Rules.may_prepare q (state q 1 (early3 1)) 3 262145 Nil Root ≡ false
unfolding sha256 digest_bytes hash_after compress rounds schedule first_words spell_batch spell_count spell_value
refused = refl

-- ---- The run

module _ (w : World Message) where
  proposal-comes : Arrives w proposal
  proposal-comes = alone w proposal proposal-read refl

  against-comes : Arrives w against
  against-comes = alone w against against-read refl

  shows-1 : AreCast w first 1 → Arrives w (pre_commit first)
  shows-1 h = pre-commit-comes w first first-is h

  shows-2 : AreCast w first 2 → Arrives w (commit first)
  shows-2 h = commit-comes w first first-is h

  shows-3 : AreCast w first 3 → Arrives w (decide first)
  shows-3 h = decide-comes w first first-is h

  again-1 : AreCast w second 1 → Arrives w (pre_commit second)
  again-1 h = pre-commit-comes w second second-is h

  again-2 : AreCast w second 2 → Arrives w (commit second)
  again-2 h = commit-comes w second second-is h

  again-3 : AreCast w second 3 → Arrives w (decide second)
  again-3 h = decide-comes w second second-is h

abbrev Reaches : List (Item Message) → List (Item Message) → List (Item Message) → Type 0
Reaches xs ys zs = IsReached loose q (world xs ys zs)

r1 : Reaches (early1 0) [] []
r1 = starts loose q refl (told proposal) 1 (proposal-comes empty_world)

r2 : Reaches (early1 0) (early1 1) []
r2 = one-takes loose q (early1 0) [] [] r1 (told proposal) 1 refl (proposal-comes (world (early1 0) [] []))

r3 : Reaches (early2 0) (early1 1) []
r3 =
    let w : World Message = world (early1 0) (early1 1) [] in
    zero-takes loose q (early1 0) (early1 1) [] r2 (told (pre_commit first)) 2 refl (shows-1 w (record {
      one_did = voted w first 1 1 0 _ (inl refl) (early-vote-1 0);
      other_did = voted w first 1 1 1 _ (inl refl) (early-vote-1 1);
    }))

r4 : Reaches (early2 0) (early2 1) []
r4 =
    let w : World Message = world (early2 0) (early1 1) [] in
    one-takes loose q (early2 0) (early1 1) [] r3 (told (pre_commit first)) 2 refl (shows-1 w (record {
      one_did = voted w first 1 1 0 _ (inr (inl refl)) (early-vote-1 0);
      other_did = voted w first 1 1 1 _ (inl refl) (early-vote-1 1);
    }))

r5 : Reaches (early3 0) (early2 1) []
r5 =
    let w : World Message = world (early2 0) (early2 1) [] in
    zero-takes loose q (early2 0) (early2 1) [] r4 (told (commit first)) 3 refl (shows-2 w (record {
      one_did = voted w first 2 2 0 _ (inl refl) (early-vote-2 0);
      other_did = voted w first 2 2 1 _ (inl refl) (early-vote-2 1);
    }))

r6 : Reaches (early3 0) (early3 1) []
r6 =
    let w : World Message = world (early3 0) (early2 1) [] in
    one-takes loose q (early3 0) (early2 1) [] r5 (told (commit first)) 3 refl (shows-2 w (record {
      one_did = voted w first 2 2 0 _ (inr (inl refl)) (early-vote-2 0);
      other_did = voted w first 2 2 1 _ (inl refl) (early-vote-2 1);
    }))

r7 : Reaches done (early3 1) []
r7 =
    let w : World Message = world (early3 0) (early3 1) [] in
    zero-takes loose q (early3 0) (early3 1) [] r6 (told (decide first)) 4 refl (shows-3 w (record {
      one_did = voted w first 3 3 0 _ (inl refl) (early-vote-3 0);
      other_did = voted w first 3 3 1 _ (inl refl) (early-vote-3 1);
    }))

r8 : Reaches done later1 []
r8 = one-takes loose q done (early3 1) [] r7 (told against) 4 refl (against-comes (world done (early3 1) []))

r9 : Reaches done later1 fresh1
r9 = two-takes loose q done later1 [] r8 (told against) 1 refl (against-comes (world done later1 []))

r10 : Reaches done later2 fresh1
r10 =
    let w : World Message = world done later1 fresh1 in
    one-takes loose q done later1 fresh1 r9 (told (pre_commit second)) 5 refl (again-1 w (record {
      one_did = voted w second 1 4 1 _ (inl refl) later-vote-1;
      other_did = voted w second 1 1 2 _ (inl refl) fresh-vote-1;
    }))

r11 : Reaches done later2 fresh2
r11 =
    let w : World Message = world done later2 fresh1 in
    two-takes loose q done later2 fresh1 r10 (told (pre_commit second)) 2 refl (again-1 w (record {
      one_did = voted w second 1 4 1 _ (inr (inl refl)) later-vote-1;
      other_did = voted w second 1 1 2 _ (inl refl) fresh-vote-1;
    }))

r12 : Reaches done later3 fresh2
r12 =
    let w : World Message = world done later2 fresh2 in
    one-takes loose q done later2 fresh2 r11 (told (commit second)) 6 refl (again-2 w (record {
      one_did = voted w second 2 5 1 _ (inl refl) later-vote-2;
      other_did = voted w second 2 2 2 _ (inl refl) fresh-vote-2;
    }))

r13 : Reaches done later3 fresh3
r13 =
    let w : World Message = world done later3 fresh2 in
    two-takes loose q done later3 fresh2 r12 (told (commit second)) 3 refl (again-2 w (record {
      one_did = voted w second 2 5 1 _ (inr (inl refl)) later-vote-2;
      other_did = voted w second 2 2 2 _ (inl refl) fresh-vote-2;
    }))

abbrev last : World Message
last = world done later3 fresh4

reached : IsReached loose q last
reached =
    let w : World Message = world done later3 fresh3 in
    two-takes loose q done later3 fresh3 r13 (told (decide second)) 4 refl (again-3 w (record {
      one_did = voted w second 3 6 1 _ (inl refl) later-vote-3;
      other_did = voted w second 3 3 2 _ (inl refl) fresh-vote-3;
    }))

-- ---- SHA-256 does not collide on its strings: two values' and two nodes'

abbrev batch : List ℕ
batch = value_string 1 (Value_batch b)

abbrev nil : List ℕ
nil = value_string 1 Value_nil

abbrev node_a : List ℕ
node_a = plain_string 1 1 root (Holds b)

abbrev node_z : List ℕ
node_z = plain_string 1 262145 root Nil

abbrev pairs : List (List ℕ × List ℕ)
pairs = ([], digest []) ∷ (batch, digest batch) ∷ (nil, digest nil) ∷ (node_a, d) ∷ (node_z, z) ∷ []

abbrev IsOne : List ℕ → Type 0
IsOne s = IsOneOf pairs s

these-differ : all_differ pairs ≡ true
unfolding sha256 digest_bytes hash_after compress rounds schedule first_words spell_batch spell_count spell_value
these-differ = refl

one-empty : IsOne []
one-empty = record { digest_of = _; one = inl refl; is = refl }

one-batch : IsOne batch
one-batch = record { digest_of = _; one = inr (inl refl); is = refl }

one-nil : IsOne nil
one-nil = record { digest_of = _; one = inr (inr (inl refl)); is = refl }

one-a : IsOne node_a
one-a = record { digest_of = _; one = inr (inr (inr (inl refl))); is = refl }

one-z : IsOne node_z
one-z = record { digest_of = _; one = inr (inr (inr (inr (inl refl)))); is = refl }

early-strings : (me : ℕ) → (loose.makes q me [] (told proposal) 1).strings ≡ batch ∷ node_a ∷ []
unfolding sha256 digest_bytes hash_after compress rounds schedule first_words spell_batch spell_count spell_value
early-strings me = refl

later-strings : (loose.makes q 1 (early3 1) (told against) 4).strings ≡ nil ∷ node_z ∷ []
unfolding sha256 digest_bytes hash_after compress rounds schedule first_words spell_batch spell_count spell_value
later-strings = refl

fresh-strings : (loose.makes q 2 [] (told against) 1).strings ≡ nil ∷ node_z ∷ []
unfolding sha256 digest_bytes hash_after compress rounds schedule first_words spell_batch spell_count spell_value
fresh-strings = refl

each-early : (me : ℕ) → AreStrings IsOne (early3 me)
each-early me = (each-of IsOne _ [] refl tt, (each-of IsOne _ [] refl tt, (each-of IsOne _ _ (early-strings me) (one-batch, (one-a, tt)), tt)))

each-done : AreStrings IsOne done
each-done = (each-of IsOne _ [] refl tt, each-early 0)

each-later : AreStrings IsOne later3
each-later = (each-of IsOne _ [] refl tt, (each-of IsOne _ [] refl tt, (each-of IsOne _ _ later-strings (one-nil, (one-z, tt)), each-early 1)))

each-fresh : AreStrings IsOne fresh4
each-fresh = (each-of IsOne _ [] refl tt, (each-of IsOne _ [] refl tt, (each-of IsOne _ [] refl tt, (each-of IsOne _ _ fresh-strings (one-nil, (one-z, tt)), tt))))

of-world : (s : List ℕ) → IsString last s → IsOne s
of-world s (inl e) = subst IsOne (sym e) one-empty
of-world s (inr h) = go (eqb h.node 0) (eqb h.node 1) (eqb h.node 2) h.taken
  where
    go : (t u v : Bool) → In h.item (cond t done (cond u later3 (cond v fresh4 []))) → IsOne s
    go true u v k = each-string IsOne done h.item s each-done k h.hashed
    go false true v k = each-string IsOne later3 h.item s each-later k h.hashed
    go false false true k = each-string IsOne fresh4 h.item s each-fresh k h.hashed
    go false false false k = absurd k

separate : Separate (IsString last)
separate = separate-by pairs these-differ last of-world

-- ---- Two correct replicas differ

no-broadcast : IsBroadcast loose q last → ⊥
no-broadcast h = batch-no-nil (h.agreement 0 2 0 (Value_batch b) Value_nil refl refl delivers-batch delivers-nil)

pub no-safe-test-is-not-safe : IsNotSafe loose
no-safe-test-is-not-safe = record {
  params = q;
  world = last;
  good = good;
  reached = reached;
  separate = separate;
  broken = no-broadcast;
}
