-- The premises of the laws and facts are met across a change of round. In `ReachableWorld` three nodes of consecutive
-- views were certified, so the lowest is committed, and replica 0 delivered its batch.
--
-- Then replica 3 proposes nil on the root in round 4, which the lock makes replica 1 refuse. The replicas 0 and 1 time out.
-- Replica 0 leads round 1 by the NewViews of 0, 1 and 3, of which its own has the highest certificate, that of the third
-- node. It proposes a mark on this node, which gets the votes of 0, 1 and 3. Replica 1 delivers the batch by its
-- justification.
use Rattle.std.proofs.Common.{◌≡◌, ℕ, zero, suc, Bool, true, false, cond, eqb, List, [], ◌∷◌, Some, None, refl, sym, subst, inl, inr, arith, true≢false}
use Rattle.sha2.specs.Sha256.{sha256, digest_bytes, hash_after, compress, rounds, schedule, first_words}
use Rattle.sha2.proofs.Facts256.{length-sha256}
use Rattle.iss_base.specs.Lists.{In}
use Rattle.iss_request.specs.Formats.{spell_batch, spell_count, spell_value}
use Rattle.iss_request.specs.declared.requests.Value.{Value}
use Rattle.iss_request.specs.declared.requests.Value.TheVariants.{Batch as Value_batch}
use Rattle.iss_sb.specs.declared.content.Content.TheVariants.{Nil, Holds, Mark}
use Rattle.iss_sb.specs.declared.effects.Input.TheVariants.{Receive, Timeout}
use Rattle.iss_sb.specs.declared.effects.To.{To}
use Rattle.iss_sb.specs.declared.effects.To.TheVariants.{All as To_all, One as To_one}
use Rattle.iss_sb.specs.Calls.{IsGoodParams}
use Rattle.iss_sb.specs.Evidence.{Item, World, IsReached, IsReadMessage, IsSigned, IsString, Separate, and_then, delivered, is_correct}
use Rattle.iss_sb.specs.Laws.{IsBroadcast}
use Rattle.iss_sb.specs.Statements.{signature, wide_bytes}
use Rattle.iss_sb.proofs.Contents.{content-table}
use Rattle.iss_sb.proofs.Signatures.{signature-shape}
use Rattle.hs_tree.specs.declared.certificates.Certificate.TheVariants.{Root}
use Rattle.hs_tree.specs.declared.messages.Message.{Message}
use Rattle.hs_tree.specs.declared.messages.Body.TheVariants.{NewView, Prepare, Vote}
use Rattle.hs_tree.specs.Messages.{signed}
use Rattle.hs_tree.specs.Certificates.{root_row}
use Rattle.hs_tree.specs.Statements.{stated}
use Rattle.hs_tree.specs.Tree.{chained as form, root}
use Rattle.hs_tree.proofs.MessageGrammar.{spelled-read}
use Rattle.hs_views.proofs.SmallWorlds.{AreAll, each-of, one-takes, sent-alone, separate-by, world, zero-takes}
use Rattle.hs_views.proofs.Tests.{AreStrings, each-string}
use Rattle.sb_chained.specs.Chained.{chained, makes}
use Rattle.sb_chained.specs.Facts.{IsAt, IsCertified, IsCommitted, IsVoted}
use Rattle.sb_chained.specs.Rules.{node_digest}
use Rattle.sb_chained.proofs.Examples.ByzantineLeader.{Arrives, alone, batch_held, by, cites, good-q, honest, liar, q, sent, shown-spelled, signs, states, told, voted}
use Rattle.sb_chained.proofs.Examples.ReachableWorld.{IsOne, c2, c3, d1, d2, d3, each-list, list3, list4, node1, node2, node3, node5, one-empty, pairs, reached as reached-before, second-vote, strings1, strings2, strings3, these-differ, third-vote, value}
use Rattle.sb_chained.proofs.Examples.Runs.{b, node}
use Rattle.sb_chained.proofs.Safety.WorldsAreBroadcasts.{chained-safe}

-- ---- The messages

abbrev d5 : List ℕ
d5 = node_digest q 65537 Mark c3

abbrev against : Message
against = by 3 0 (Prepare 262145 Nil Root)

abbrev ended0 : Message
ended0 = by 0 5 (NewView 1 c3)

abbrev ended1 : Message
ended1 = by 1 4 (NewView 1 c2)

abbrev blank : Message
blank = by 3 0 (NewView 1 Root)

abbrev again : Message
again = by 0 6 (Prepare 65537 Mark c3)

abbrev IsRead : Message → Type 0
IsRead msg = IsReadMessage chained q msg

against-read : IsRead against
against-read = spelled-read 1 1 against _ (record { view_fits = omega arith; behind = _; what_is = refl; certificate = root_row; spelled = refl; row = refl }) (signature-shape chained q good-q 3 0 _)

ended0-read : IsRead ended0
ended0-read = spelled-read 1 1 ended0 _ (record { round_fits = omega arith; certificate = _; spelled = shown-spelled 3 d3 0 3 1 3 (omega arith) (omega arith) (length-sha256 _) (omega arith) (omega arith); row = refl }) (signature-shape chained q good-q 0 5 _)

ended1-read : IsRead ended1
ended1-read = spelled-read 1 1 ended1 _ (record { round_fits = omega arith; certificate = _; spelled = shown-spelled 2 d2 0 2 1 2 (omega arith) (omega arith) (length-sha256 _) (omega arith) (omega arith); row = refl }) (signature-shape chained q good-q 1 4 _)

blank-read : IsRead blank
blank-read = spelled-read 1 1 blank _ (record { round_fits = omega arith; certificate = root_row; spelled = refl; row = refl }) (signature-shape chained q good-q 3 0 _)

again-read : IsRead again
again-read = spelled-read 1 1 again _ (record { view_fits = omega arith; behind = _; what_is = refl; certificate = _; spelled = shown-spelled 3 d3 0 3 1 3 (omega arith) (omega arith) (length-sha256 _) (omega arith) (omega arith); row = refl }) (signature-shape chained q good-q 0 6 _)

-- ---- What the replicas take and send

abbrev Items : Type 0
Items = List (Item Message)

abbrev took : ℕ → Items → ℕ → Message → ℕ → Items
took me xs from msg leaf = and_then chained q me xs (Receive (node from) msg) leaf

abbrev zero5 : Items
zero5 = and_then chained q 0 (list4 0) Timeout 5

abbrev zero6 : Items
zero6 = took 0 zero5 0 ended0 6

abbrev zero7 : Items
zero7 = took 0 zero6 1 ended1 6

abbrev zero8 : Items
zero8 = took 0 zero7 3 blank 6

abbrev zero9 : Items
zero9 = took 0 zero8 0 again 7

abbrev one4 : Items
one4 = took 1 (list3 1) 3 against 4

abbrev one5 : Items
one5 = and_then chained q 1 one4 Timeout 4

abbrev one6 : Items
one6 = took 1 one5 0 again 5

-- the vote for the mark, to replica 0
abbrev late : ℕ → ℕ → List (To × Message)
late me leaf = (To_one (node 0), signed (Vote 1 65537 d5) (signature q me leaf (states 65537 d5))) ∷ []

zero-5 : (makes q 0 (list4 0) Timeout 5).sends ≡ (To_one (node 0), ended0) ∷ []
unfolding sha256 digest_bytes hash_after compress rounds schedule first_words spell_batch spell_count spell_value wide_bytes
zero-5 = refl

zero-8 : (makes q 0 zero7 (told blank) 6).sends ≡ (To_all, again) ∷ []
unfolding sha256 digest_bytes hash_after compress rounds schedule first_words spell_batch spell_count spell_value wide_bytes
zero-8 = refl

zero-9 : (makes q 0 zero8 (Receive (node 0) again) 7).sends ≡ late 0 7
unfolding sha256 digest_bytes hash_after compress rounds schedule first_words spell_batch spell_count spell_value wide_bytes
zero-9 = refl

-- the lock makes replica 1 refuse the proposal of round 4
one-4 : (makes q 1 (list3 1) (told against) 4).sends ≡ []
unfolding sha256 digest_bytes hash_after compress rounds schedule first_words spell_batch spell_count spell_value wide_bytes
one-4 = refl

one-5 : (makes q 1 one4 Timeout 4).sends ≡ (To_one (node 0), ended1) ∷ []
unfolding sha256 digest_bytes hash_after compress rounds schedule first_words spell_batch spell_count spell_value wide_bytes
one-5 = refl

one-6 : (makes q 1 one5 (Receive (node 0) again) 5).sends ≡ late 1 5
unfolding sha256 digest_bytes hash_after compress rounds schedule first_words spell_batch spell_count spell_value wide_bytes
one-6 = refl

-- ---- The run

module _ (w : World Message) where
  vote-of : (k view : ℕ) (d : List ℕ) (x : Item Message) → In x (w k) → x.made.sends ≡ sent k view d view → IsSigned chained q w k (states view d)
  vote-of k view d x h is = voted chained w k view d view x h is (inl refl)

  against-comes : Arrives chained w 3 against
  against-comes = alone chained w 3 against (signs 3 0 (stated form q against.body)) (omega arith) against-read refl (liar chained w _)

  blank-comes : Arrives chained w 3 blank
  blank-comes = alone chained w 3 blank (signs 3 0 (stated form q blank.body)) (omega arith) blank-read refl (liar chained w _)

  -- a message of replica k with its own signature as the last claim
  sole-signed : (k leaf : ℕ) (to : To) (msg : Message) (x : Item Message) → In x (w k) → x.made.sends ≡ (to, msg) ∷ [] → In (signs k leaf (stated form q msg.body)) (chained.claims q k msg) → IsSigned chained q w k (stated form q msg.body)
  sole-signed k leaf to msg x h is c = sent-alone chained q w k x to msg (signs k leaf (stated form q msg.body)) h is c refl

  ended0-comes : IsSigned chained q w 0 (states 3 d3) → IsSigned chained q w 1 (states 3 d3) → IsSigned chained q w 0 (stated form q ended0.body) → Arrives chained w 0 ended0
  ended0-comes i j h = cites chained w 3 d3 0 3 1 3 (omega arith) (omega arith) (omega arith) (omega arith) i j 0 ended0 (signs 0 5 (stated form q ended0.body)) (omega arith) ended0-read refl (honest chained w 0 5 _ (omega arith) (omega arith) h)

  ended1-comes : IsSigned chained q w 0 (states 2 d2) → IsSigned chained q w 1 (states 2 d2) → IsSigned chained q w 1 (stated form q ended1.body) → Arrives chained w 1 ended1
  ended1-comes i j h = cites chained w 2 d2 0 2 1 2 (omega arith) (omega arith) (omega arith) (omega arith) i j 1 ended1 (signs 1 4 (stated form q ended1.body)) (omega arith) ended1-read refl (honest chained w 1 4 _ (omega arith) (omega arith) h)

  again-comes : IsSigned chained q w 0 (states 3 d3) → IsSigned chained q w 1 (states 3 d3) → IsSigned chained q w 0 (stated form q again.body) → Arrives chained w 0 again
  again-comes i j h = cites chained w 3 d3 0 3 1 3 (omega arith) (omega arith) (omega arith) (omega arith) i j 0 again (signs 0 6 (stated form q again.body)) (omega arith) again-read refl (honest chained w 0 6 _ (omega arith) (omega arith) h)

abbrev Reaches : Items → Items → Type 0
Reaches xs ys = IsReached chained q (world xs ys [])

r8 : Reaches (list4 0) one4
r8 = one-takes chained q (list4 0) (list3 1) [] reached-before (told against) 4 refl (against-comes (world (list4 0) (list3 1) []))

r9 : Reaches (list4 0) one5
r9 = one-takes chained q (list4 0) one4 [] r8 Timeout 4 refl tt

r10 : Reaches zero5 one5
r10 = zero-takes chained q (list4 0) one5 [] r9 Timeout 5 refl tt

r11 : Reaches zero6 one5
r11 =
    let w : World Message = world zero5 one5 [] in
    let zero_did = vote-of w 0 3 d3 _ (inr (inr (inl refl))) (third-vote 0) in
    let one_did = vote-of w 1 3 d3 _ (inr (inr (inl refl))) (third-vote 1) in
    let own = sole-signed w 0 5 (To_one (node 0)) ended0 _ (inl refl) zero-5 (inr (inr (inr (inl refl)))) in
    zero-takes chained q zero5 one5 [] r10 (Receive (node 0) ended0) 6 refl (ended0-comes w zero_did one_did own)

r12 : Reaches zero7 one5
r12 =
    let w : World Message = world zero6 one5 [] in
    let zero_did = vote-of w 0 2 d2 _ (inr (inr (inr (inr (inl refl))))) (second-vote 0) in
    let one_did = vote-of w 1 2 d2 _ (inr (inr (inr (inl refl)))) (second-vote 1) in
    let own = sole-signed w 1 4 (To_one (node 0)) ended1 _ (inl refl) one-5 (inr (inr (inr (inl refl)))) in
    zero-takes chained q zero6 one5 [] r11 (Receive (node 1) ended1) 6 refl (ended1-comes w zero_did one_did own)

r13 : Reaches zero8 one5
r13 = zero-takes chained q zero7 one5 [] r12 (told blank) 6 refl (blank-comes (world zero7 one5 []))

r14 : Reaches zero9 one5
r14 =
    let w : World Message = world zero8 one5 [] in
    let zero_did = vote-of w 0 3 d3 _ (inr (inr (inr (inr (inr (inl refl)))))) (third-vote 0) in
    let one_did = vote-of w 1 3 d3 _ (inr (inr (inl refl))) (third-vote 1) in
    let own = sole-signed w 0 6 To_all again _ (inl refl) zero-8 (inr (inr (inr (inl refl)))) in
    zero-takes chained q zero8 one5 [] r13 (Receive (node 0) again) 7 refl (again-comes w zero_did one_did own)

abbrev last : World Message
last = world zero9 one6 []

reached : IsReached chained q last
reached =
    let w : World Message = world zero9 one5 [] in
    let zero_did = vote-of w 0 3 d3 _ (inr (inr (inr (inr (inr (inr (inl refl))))))) (third-vote 0) in
    let one_did = vote-of w 1 3 d3 _ (inr (inr (inl refl))) (third-vote 1) in
    let own = sole-signed w 0 6 To_all again _ (inr (inl refl)) zero-8 (inr (inr (inr (inl refl)))) in
    one-takes chained q zero9 one5 [] r14 (Receive (node 0) again) 5 refl (again-comes w zero_did one_did own)

-- ---- SHA-256 does not collide on its strings

is5 : AreAll IsOne (node5 ∷ [])
is5 = (record { digest_of = _; one = inr (inr (inr (inr (inr (inr (inl refl)))))); is = refl }, tt)

zero-strings-8 : (makes q 0 zero7 (told blank) 6).strings ≡ node5 ∷ []
unfolding sha256 digest_bytes hash_after compress rounds schedule first_words spell_batch spell_count spell_value wide_bytes
zero-strings-8 = refl

zero-strings-7 : (makes q 0 zero6 (Receive (node 1) ended1) 6).strings ≡ []
unfolding sha256 digest_bytes hash_after compress rounds schedule first_words spell_batch spell_count spell_value wide_bytes
zero-strings-7 = refl

zero-strings-6 : (makes q 0 zero5 (Receive (node 0) ended0) 6).strings ≡ []
unfolding sha256 digest_bytes hash_after compress rounds schedule first_words spell_batch spell_count spell_value wide_bytes
zero-strings-6 = refl

zero-strings-9 : (makes q 0 zero8 (Receive (node 0) again) 7).strings ≡ node5 ∷ []
unfolding sha256 digest_bytes hash_after compress rounds schedule first_words spell_batch spell_count spell_value wide_bytes
zero-strings-9 = refl

one-strings-4 : (makes q 1 (list3 1) (told against) 4).strings ≡ []
unfolding sha256 digest_bytes hash_after compress rounds schedule first_words spell_batch spell_count spell_value wide_bytes
one-strings-4 = refl

one-strings-6 : (makes q 1 one5 (Receive (node 0) again) 5).strings ≡ node5 ∷ []
unfolding sha256 digest_bytes hash_after compress rounds schedule first_words spell_batch spell_count spell_value wide_bytes
one-strings-6 = refl

each-zero : AreStrings IsOne zero9
each-zero = (each-of IsOne _ _ zero-strings-9 is5, (each-of IsOne _ _ zero-strings-8 is5, (each-of IsOne _ _ zero-strings-7 tt, (each-of IsOne _ _ zero-strings-6 tt, (each-of IsOne _ [] refl tt, each-list 0)))))

each-one : AreStrings IsOne one6
each-one = (each-of IsOne _ _ one-strings-6 is5, (each-of IsOne _ [] refl tt, (each-of IsOne _ _ one-strings-4 tt, (each-list 1).1)))

of-world : (s : List ℕ) → IsString last s → IsOne s
of-world s (inl is) = subst IsOne (sym is) one-empty
of-world s (inr h) = go (eqb h.node 0) (eqb h.node 1) (eqb h.node 2) h.taken
  where
    go : (t u v : Bool) → In h.item (cond t zero9 (cond u one6 (cond v [] []))) → IsOne s
    go true u v k = each-string IsOne zero9 h.item s each-zero k h.hashed
    go false true v k = each-string IsOne one6 h.item s each-one k h.hashed
    go false false true k = absurd k
    go false false false k = absurd k

separate : Separate (IsString last)
separate = separate-by pairs these-differ last of-world

-- ---- The lowest of three nodes is committed, and a node of a later round certified

-- votes of 0, 1 and 3 are a certificate
abbrev voters : ℕ → Bool
voters zero = true
voters (suc zero) = true
voters (suc (suc zero)) = false
voters (suc (suc (suc zero))) = true
voters (suc (suc (suc (suc k)))) = false

certified-by : (view : ℕ) (d : List ℕ) → IsVoted last 0 view d → IsVoted last 1 view d → IsCertified q last view d
certified-by view d h g = record { test = voters; many = omega arith; each = each }
  where
    each : (k : ℕ) → voters k ≡ true → is_correct q.setup k ≡ true → IsVoted last k view d
    each zero t c = h
    each (suc zero) t c = g
    each (suc (suc zero)) t c = absurd (true≢false (sym t))
    each (suc (suc (suc zero))) t c = absurd (true≢false (sym c))
    each (suc (suc (suc (suc k)))) t c = absurd (true≢false (sym t))

vote-in : (k view leaf leader : ℕ) (d : List ℕ) (x : Item Message) → In x (last k) → x.made.sends ≡ (To_one (node leader), signed (Vote 1 view d) (signature q k leaf (states view d))) ∷ [] → IsVoted last k view d
vote-in k view leaf leader d x h is = record { item = x; taken = h; vote = record { to = To_one (node leader); sig = signature q k leaf (states view d); sent = rw is (inl refl) } }

third-of-zero : IsVoted last 0 3 d3
third-of-zero = vote-in 0 3 3 3 d3 _ (inr (inr (inr (inr (inr (inr (inl refl))))))) (third-vote 0)

third-of-one : IsVoted last 1 3 d3
third-of-one = vote-in 1 3 3 3 d3 _ (inr (inr (inr (inl refl)))) (third-vote 1)

late-of-zero : IsVoted last 0 65537 d5
late-of-zero = vote-in 0 65537 7 0 d5 _ (inl refl) zero-9

late-of-one : IsVoted last 1 65537 d5
late-of-one = vote-in 1 65537 5 0 d5 _ (inl refl) one-6

-- replica 0 hashed the string of an item
hashed : (x : Item Message) (ss : List (List ℕ)) (s : List ℕ) → In x zero9 → x.made.strings ≡ ss → In s ss → IsString last s
hashed x ss s h is k = inr (record { node = 0; item = x; taken = h; hashed = rw is k })

value-hashed : IsString last value
value-hashed = hashed _ _ value (inr (inr (inr (inr (inr (inr (inr (inr (inl refl))))))))) (strings1 0) (inl refl)

same-value : (v : Value) → Some (Value_batch b) ≡ Some v → v ≡ Value_batch b
same-value v h = cc

at1 : IsAt q last d1 1 root (Holds b)
at1 = record { has = record { long = refl; read = (content-table 1 (Holds b) _ batch_held.1).1; node = hashed _ _ node1 (inr (inr (inr (inr (inr (inr (inr (inr (inl refl))))))))) (strings1 0) (inr (inl refl)); value = λ v h. rw (same-value v h) value-hashed }; is = refl }

at2 : IsAt q last d2 2 d1 (Holds b)
at2 = record { has = record { long = length-sha256 _; read = (content-table 1 (Holds b) _ batch_held.1).1; node = hashed _ _ node2 (inr (inr (inr (inr (inr (inr (inr (inl refl)))))))) (strings2 0) (inr (inl refl)); value = λ v h. rw (same-value v h) value-hashed }; is = refl }

at3 : IsAt q last d3 3 d2 Mark
at3 = record { has = record { long = length-sha256 _; read = (content-table 1 Mark _ refl).1; node = hashed _ _ node3 (inr (inr (inr (inr (inr (inr (inl refl))))))) (strings3 0) (inl refl); value = λ v h. absurd cc }; is = refl }

committed : IsCommitted q last 1 d1
committed = record { top = d3; middle = d2; parent = root; first = Mark; second = Holds b; third = Holds b; top_is = at3; middle_is = at2; node_is = at1; certified = certified-by 3 d3 third-of-zero third-of-one }

-- ---- What the example shows

delivers-first : delivered chained q 0 zero9 0 ≡ Some (Value_batch b)
unfolding sha256 digest_bytes hash_after compress rounds schedule first_words spell_batch spell_count spell_value wide_bytes
delivers-first = refl

not-before : delivered chained q 1 one5 0 ≡ None
unfolding sha256 digest_bytes hash_after compress rounds schedule first_words spell_batch spell_count spell_value wide_bytes
not-before = refl

delivers-second : delivered chained q 1 one6 0 ≡ Some (Value_batch b)
unfolding sha256 digest_bytes hash_after compress rounds schedule first_words spell_batch spell_count spell_value wide_bytes
delivers-second = refl

-- the premises of the laws and of the facts that speak of a lock or of a later view
record ArePremisesMet : Type 0 where
  are_good : IsGoodParams chained q
  is_reached : IsReached chained q last
  are_separate : Separate (IsString last)
  -- replica 1 cast votes for the third node, which locks it on the first, and for a node of round 1
  voted : IsVoted last 1 3 d3
  voted_again : IsVoted last 1 65537 d5
  was_committed : IsCommitted q last 1 d1
  certified_later : IsCertified q last 65537 d5
  -- in different rounds
  one_delivers : delivered chained q 0 (last 0) 0 ≡ Some (Value_batch b)
  not_yet : delivered chained q 1 one5 0 ≡ None
  other_delivers : delivered chained q 1 (last 1) 0 ≡ Some (Value_batch b)

premises-met : ArePremisesMet
premises-met = record {
  are_good = good-q;
  is_reached = reached;
  are_separate = separate;
  voted = third-of-one;
  voted_again = late-of-one;
  was_committed = committed;
  certified_later = certified-by 65537 d5 late-of-zero late-of-one;
  one_delivers = delivers-first;
  not_yet = not-before;
  other_delivers = delivers-second;
}

-- hence this world is a broadcast
its-broadcast : IsBroadcast chained q last
its-broadcast = chained-safe q last good-q reached separate
