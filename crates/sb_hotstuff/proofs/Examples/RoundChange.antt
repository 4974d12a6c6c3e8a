-- A change of round in which a lock matters: what the replicas take and send. The leader, replica 0, is correct; replica 3 is
-- Byzantine.
--
-- Round 0: replica 0 casts a batch, and its node a gets the votes of 0, 1 and 3 in all three phases. So 0 and 1 are locked
-- on a. Then replica 3 proposes nil on the root in round 3, which replica 0 refuses.
--
-- Round 1: replica 1 leads by the NewViews of 1, 2 and 3. Two of these have the root's certificate, but that of a is
-- the highest. So replica 1 proposes nil on a (node e), which gets the votes of 0, 1 and 3 in all three phases.
--
-- Replica 0 delivers the batch by the certificate of a in round 0, and replica 1 by that of e in round 1.
use Rattle.std.proofs.Common.{◌≡◌, ℕ, List, [], ◌∷◌, refl, inl, inr, arith}
use Rattle.sha2.specs.Sha256.{sha256, digest_bytes, hash_after, compress, rounds, schedule, first_words}
use Rattle.sha2.proofs.Facts256.{length-sha256}
use Rattle.iss_base.specs.Lists.{In}
use Rattle.iss_request.specs.Formats.{spell_batch, spell_count, spell_value}
use Rattle.iss_sb.specs.declared.content.Content.TheVariants.{Nil, Holds}
use Rattle.iss_sb.specs.declared.effects.Input.TheVariants.{Cast, Timeout}
use Rattle.iss_sb.specs.declared.effects.Params.{Params}
use Rattle.iss_sb.specs.declared.effects.To.TheVariants.{All as To_all, One as To_one}
use Rattle.iss_sb.specs.Evidence.{Item, World, IsCredible, IsReadMessage, IsSigned, Verifies, and_then}
use Rattle.hs_tree.specs.declared.certificates.Certificate.TheVariants.{Root}
use Rattle.hs_tree.specs.declared.messages.Message.{Message}
use Rattle.hs_tree.specs.declared.messages.Body.TheVariants.{NewView, Prepare}
use Rattle.hs_tree.specs.Messages.{signed}
use Rattle.hs_tree.specs.Certificates.{root_row}
use Rattle.hs_tree.specs.Statements.{stated}
use Rattle.hs_tree.specs.Tree.{basic}
use Rattle.hs_views.proofs.SmallWorlds.{sent-alone}
use Rattle.sb_hotstuff.specs.HotStuff.{hotstuff, makes}
use Rattle.sb_hotstuff.specs.Rules.{node_digest}
use Rattle.sb_hotstuff.proofs.Examples.FourReplicas.{AreCast, IsPoll, Poll, arrives, batch_held, by, cites, commit, commit-comes, decide, decide-comes, honest, led_by, liar, new-view-read, pre-commit-comes, pre_commit, prepare-read, sent, shown, shown-spelled, signs, states, told, voted}
use Rattle.sb_hotstuff.proofs.Examples.ReachableWorld.{like}
use Rattle.sb_hotstuff.proofs.Examples.Runs.{b, node, slot}

abbrev pub q : Params
q = led_by 0

-- ---- Nodes, votes and messages

abbrev pub a : List ℕ
a = node_digest q 1 (Holds b) Root

abbrev pub first : Poll
first = record { view = 1; digest = a; one = 0; one_behind = 0; other = 1; other_behind = 0 }

pub first-is : IsPoll first
first-is = record { low = omega arith; high = omega arith; long = length-sha256 _; ascending = omega arith; few = omega arith; one_left = omega arith; other_left = omega arith }

abbrev pub e : List ℕ
e = node_digest q 65537 Nil (shown q first 1)

abbrev pub second : Poll
second = record { view = 65537; digest = e; one = 0; one_behind = 3; other = 1; other_behind = 5 }

pub second-is : IsPoll second
second-is = record { low = omega arith; high = omega arith; long = length-sha256 _; ascending = omega arith; few = omega arith; one_left = omega arith; other_left = omega arith }

abbrev pub proposal : Message
proposal = by q 0 0 (Prepare 1 (Holds b) Root)

abbrev pub against : Message
against = by q 3 0 (Prepare 196609 Nil Root)

abbrev pub ended : Message
ended = by q 1 4 (NewView 1 (shown q first 1))

abbrev pub blank : ℕ → Message
blank k = by q k 0 (NewView 1 Root)

abbrev pub again : Message
again = by q 1 5 (Prepare 65537 Nil (shown q first 1))

proposal-read : IsReadMessage hotstuff q proposal
proposal-read = prepare-read 0 (omega arith) 0 0 1 (Holds b) Root batch_held.0 root_row (omega arith) batch_held.1 refl

against-read : IsReadMessage hotstuff q against
against-read = prepare-read 0 (omega arith) 3 0 196609 Nil Root _ root_row (omega arith) refl refl

ended-read : IsReadMessage hotstuff q ended
ended-read = new-view-read 0 (omega arith) 1 4 1 (shown q first 1) _ (omega arith) (shown-spelled 0 (omega arith) first 1 first-is (omega arith) (omega arith))

blank-read : (k : ℕ) → IsReadMessage hotstuff q (blank k)
blank-read k = new-view-read 0 (omega arith) k 0 1 Root root_row (omega arith) refl

again-read : IsReadMessage hotstuff q again
again-read = prepare-read 0 (omega arith) 1 5 65537 Nil (shown q first 1) _ _ (omega arith) refl (shown-spelled 0 (omega arith) first 1 first-is (omega arith) (omega arith))

-- ---- What the replicas take

abbrev pub Items : Type 0
Items = List (Item Message)

abbrev pub took : ℕ → Items → ℕ → Message → ℕ → Items
took me xs from msg leaf = and_then hotstuff q me xs (told from msg) leaf

abbrev pub zero1 : Items
zero1 = and_then hotstuff q 0 [] (Cast (slot 0) b) 0

abbrev pub zero2 : Items
zero2 = took 0 zero1 0 proposal 1

abbrev pub zero3 : Items
zero3 = took 0 zero2 3 (pre_commit q first) 2

abbrev pub zero4 : Items
zero4 = took 0 zero3 3 (commit q first) 3

abbrev pub zero5 : Items
zero5 = took 0 zero4 3 against 4

abbrev pub zero6 : Items
zero6 = took 0 zero5 1 again 4

abbrev pub zero7 : Items
zero7 = took 0 zero6 3 (pre_commit q second) 5

abbrev pub zero8 : Items
zero8 = took 0 zero7 3 (commit q second) 6

abbrev pub zero9 : Items
zero9 = took 0 zero8 3 (decide q first) 7

abbrev pub one1 : Items
one1 = took 1 [] 0 proposal 1

abbrev pub one2 : Items
one2 = took 1 one1 3 (pre_commit q first) 2

abbrev pub one3 : Items
one3 = took 1 one2 3 (commit q first) 3

abbrev pub one4 : Items
one4 = and_then hotstuff q 1 one3 Timeout 4

abbrev pub one5 : Items
one5 = took 1 one4 1 ended 5

abbrev pub one6 : Items
one6 = took 1 one5 2 (blank 2) 5

abbrev pub one7 : Items
one7 = took 1 one6 3 (blank 3) 5

abbrev pub one8 : Items
one8 = took 1 one7 1 again 6

abbrev pub one9 : Items
one9 = took 1 one8 3 (pre_commit q second) 7

abbrev pub one10 : Items
one10 = took 1 one9 3 (commit q second) 8

abbrev pub one11 : Items
one11 = took 1 one10 3 (decide q second) 9

abbrev pub two1 : Items
two1 = and_then hotstuff q 2 [] Timeout 0

-- ---- What they send

pub zero-1 : (makes q 0 [] (Cast (slot 0) b) 0).sends ≡ (To_all, proposal) ∷ []
zero-1 = refl

pub zero-2 : (makes q 0 zero1 (told 0 proposal) 1).sends ≡ sent q first 1 1 0 0
unfolding sha256 digest_bytes hash_after compress rounds schedule first_words spell_batch spell_count spell_value
zero-2 = refl

pub zero-3 : (makes q 0 zero2 (told 3 (pre_commit q first)) 2).sends ≡ sent q first 2 2 0 0
unfolding sha256 digest_bytes hash_after compress rounds schedule first_words spell_batch spell_count spell_value
zero-3 = refl

pub zero-4 : (makes q 0 zero3 (told 3 (commit q first)) 3).sends ≡ sent q first 3 3 0 0
unfolding sha256 digest_bytes hash_after compress rounds schedule first_words spell_batch spell_count spell_value
zero-4 = refl

-- the lock makes replica 0 refuse the proposal of round 3
pub zero-5 : (makes q 0 zero4 (told 3 against) 4).sends ≡ []
unfolding sha256 digest_bytes hash_after compress rounds schedule first_words spell_batch spell_count spell_value
zero-5 = refl

pub zero-6 : (makes q 0 zero5 (told 1 again) 4).sends ≡ sent q second 1 4 0 1
unfolding sha256 digest_bytes hash_after compress rounds schedule first_words spell_batch spell_count spell_value
zero-6 = refl

pub zero-7 : (makes q 0 zero6 (told 3 (pre_commit q second)) 5).sends ≡ sent q second 2 5 0 1
unfolding sha256 digest_bytes hash_after compress rounds schedule first_words spell_batch spell_count spell_value
zero-7 = refl

pub zero-8 : (makes q 0 zero7 (told 3 (commit q second)) 6).sends ≡ sent q second 3 6 0 1
unfolding sha256 digest_bytes hash_after compress rounds schedule first_words spell_batch spell_count spell_value
zero-8 = refl

pub one-1 : (makes q 1 [] (told 0 proposal) 1).sends ≡ sent q first 1 1 1 0
unfolding sha256 digest_bytes hash_after compress rounds schedule first_words spell_batch spell_count spell_value
one-1 = refl

pub one-2 : (makes q 1 one1 (told 3 (pre_commit q first)) 2).sends ≡ sent q first 2 2 1 0
unfolding sha256 digest_bytes hash_after compress rounds schedule first_words spell_batch spell_count spell_value
one-2 = refl

pub one-3 : (makes q 1 one2 (told 3 (commit q first)) 3).sends ≡ sent q first 3 3 1 0
unfolding sha256 digest_bytes hash_after compress rounds schedule first_words spell_batch spell_count spell_value
one-3 = refl

pub one-4 : (makes q 1 one3 Timeout 4).sends ≡ (To_one (node 1), ended) ∷ []
unfolding sha256 digest_bytes hash_after compress rounds schedule first_words spell_batch spell_count spell_value
one-4 = refl

pub one-7 : (makes q 1 one6 (told 3 (blank 3)) 5).sends ≡ (To_all, again) ∷ []
unfolding sha256 digest_bytes hash_after compress rounds schedule first_words spell_batch spell_count spell_value
one-7 = refl

pub one-8 : (makes q 1 one7 (told 1 again) 6).sends ≡ sent q second 1 6 1 1
unfolding sha256 digest_bytes hash_after compress rounds schedule first_words spell_batch spell_count spell_value
one-8 = refl

pub one-9 : (makes q 1 one8 (told 3 (pre_commit q second)) 7).sends ≡ sent q second 2 7 1 1
unfolding sha256 digest_bytes hash_after compress rounds schedule first_words spell_batch spell_count spell_value
one-9 = refl

pub one-10 : (makes q 1 one9 (told 3 (commit q second)) 8).sends ≡ sent q second 3 8 1 1
unfolding sha256 digest_bytes hash_after compress rounds schedule first_words spell_batch spell_count spell_value
one-10 = refl

pub two-1 : (makes q 2 [] Timeout 0).sends ≡ (To_one (node 1), blank 2) ∷ []
two-1 = refl

-- ---- Messages that may arrive

module _ (w : World Message) where
  abbrev pub Arrives : ℕ → Message → Type 0
  Arrives from msg = IsCredible hotstuff q (Verifies q) (IsSigned hotstuff q w) from msg

  abbrev pub First : ℕ → Type 0
  First phase = AreCast hotstuff q w first phase

  abbrev pub Second : ℕ → Type 0
  Second phase = AreCast hotstuff q w second phase

  pub first-vote : (k phase : ℕ) (x : Item Message) → In x (w k) → x.made.sends ≡ sent q first phase phase k 0 → IsSigned hotstuff q w k (states q 1 a phase)
  first-vote k phase x h is = voted hotstuff like 0 (omega arith) w first phase phase k 0 x h is

  pub second-vote : (k phase leaf : ℕ) (x : Item Message) → In x (w k) → x.made.sends ≡ sent q second phase leaf k 1 → IsSigned hotstuff q w k (states q 65537 e phase)
  second-vote k phase leaf x h is = voted hotstuff like 0 (omega arith) w second phase leaf k 1 x h is

  pub proposal-comes : (x : Item Message) → In x (w 0) → x.made.sends ≡ (To_all, proposal) ∷ [] → Arrives 0 proposal
  proposal-comes x h is =
      let st = stated basic q proposal.body in
      let signed = sent-alone hotstuff q w 0 x To_all proposal (signs q 0 0 st) h is (inl refl) refl in
      arrives hotstuff like 0 (omega arith) w 0 proposal (signs q 0 0 st ∷ []) (omega arith) proposal-read refl (honest hotstuff like 0 (omega arith) w 0 0 st (omega arith) (omega arith) signed, tt)

  pub against-comes : Arrives 3 against
  against-comes =
      let st = stated basic q against.body in
      arrives hotstuff like 0 (omega arith) w 3 against (signs q 3 0 st ∷ []) (omega arith) against-read refl (liar hotstuff like 0 (omega arith) w st, tt)

  pub ended-comes : First 1 → (x : Item Message) → In x (w 1) → x.made.sends ≡ (To_one (node 1), ended) ∷ [] → Arrives 1 ended
  ended-comes cast x h is =
      let st = stated basic q ended.body in
      let signed = sent-alone hotstuff q w 1 x (To_one (node 1)) ended (signs q 1 4 st) h is (inr (inr (inr (inl refl)))) refl in
      cites hotstuff like 0 (omega arith) w 1 4 ended first 1 first-is (omega arith) (omega arith) ended-read refl cast (honest hotstuff like 0 (omega arith) w 1 4 st (omega arith) (omega arith) signed)

  pub blank-comes : (x : Item Message) → In x (w 2) → x.made.sends ≡ (To_one (node 1), blank 2) ∷ [] → Arrives 2 (blank 2)
  blank-comes x h is =
      let st = stated basic q (blank 2).body in
      let signed = sent-alone hotstuff q w 2 x (To_one (node 1)) (blank 2) (signs q 2 0 st) h is (inl refl) refl in
      arrives hotstuff like 0 (omega arith) w 2 (blank 2) (signs q 2 0 st ∷ []) (omega arith) (blank-read 2) refl (honest hotstuff like 0 (omega arith) w 2 0 st (omega arith) (omega arith) signed, tt)

  pub lie-comes : Arrives 3 (blank 3)
  lie-comes =
      let st = stated basic q (blank 3).body in
      arrives hotstuff like 0 (omega arith) w 3 (blank 3) (signs q 3 0 st ∷ []) (omega arith) (blank-read 3) refl (liar hotstuff like 0 (omega arith) w st, tt)

  pub again-comes : First 1 → (x : Item Message) → In x (w 1) → x.made.sends ≡ (To_all, again) ∷ [] → Arrives 1 again
  again-comes cast x h is =
      let st = stated basic q again.body in
      let signed = sent-alone hotstuff q w 1 x To_all again (signs q 1 5 st) h is (inr (inr (inr (inl refl)))) refl in
      cites hotstuff like 0 (omega arith) w 1 5 again first 1 first-is (omega arith) (omega arith) again-read refl cast (honest hotstuff like 0 (omega arith) w 1 5 st (omega arith) (omega arith) signed)

  pub first-shown : First 1 → Arrives 3 (pre_commit q first)
  first-shown h = pre-commit-comes hotstuff like 0 (omega arith) w first first-is h

  pub first-locks : First 2 → Arrives 3 (commit q first)
  first-locks h = commit-comes hotstuff like 0 (omega arith) w first first-is h

  pub first-decides : First 3 → Arrives 3 (decide q first)
  first-decides h = decide-comes hotstuff like 0 (omega arith) w first first-is h

  pub second-shown : Second 1 → Arrives 3 (pre_commit q second)
  second-shown h = pre-commit-comes hotstuff like 0 (omega arith) w second second-is h

  pub second-locks : Second 2 → Arrives 3 (commit q second)
  second-locks h = commit-comes hotstuff like 0 (omega arith) w second second-is h

  pub second-decides : Second 3 → Arrives 3 (decide q second)
  second-decides h = decide-comes hotstuff like 0 (omega arith) w second second-is h
