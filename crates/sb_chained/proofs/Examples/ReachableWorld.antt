-- The premises can be met: a reachable world in which a Byzantine replica leads, three nodes of consecutive views were
-- certified, and the slot of the lowest was delivered.
use Rattle.std.proofs.Common.{◌≡◌, ℕ, Bool, true, false, cond, eqb, List, [], ◌∷◌, Some, refl, sym, subst, inl, inr, arith}
use Rattle.sha2.specs.Sha256.{sha256, digest_bytes, hash_after, compress, rounds, schedule, first_words}
use Rattle.sha2.proofs.Facts256.{length-sha256}
use Rattle.iss_base.specs.Lists.{In}
use Rattle.iss_request.specs.Digest.{digest}
use Rattle.iss_request.specs.Formats.{spell_batch, spell_count, spell_value, value_string}
use Rattle.iss_request.specs.declared.requests.Value.TheVariants.{Batch as Value_batch}
use Rattle.iss_sb.specs.declared.content.Content.TheVariants.{Holds, Mark}
use Rattle.iss_sb.specs.declared.effects.Params.{Params}
use Rattle.iss_sb.specs.Calls.{IsGoodParams}
use Rattle.iss_sb.specs.Evidence.{Item, World, IsReached, IsReadMessage, IsSigned, IsString, Separate, and_then, delivered, empty_world}
use Rattle.iss_sb.specs.Laws.{IsBroadcast}
use Rattle.iss_sb.specs.Statements.{wide_bytes}
use Rattle.iss_sb.proofs.Signatures.{signature-shape}
use Rattle.hs_tree.specs.declared.certificates.Certificate.{Certificate}
use Rattle.hs_tree.specs.declared.certificates.Certificate.TheVariants.{Root}
use Rattle.hs_tree.specs.declared.messages.Message.{Message}
use Rattle.hs_tree.specs.declared.messages.Body.TheVariants.{Prepare}
use Rattle.hs_tree.specs.Certificates.{root_row}
use Rattle.hs_tree.specs.Statements.{stated}
use Rattle.hs_tree.specs.Tree.{chained as form, root, viewed_string}
use Rattle.hs_tree.proofs.MessageGrammar.{spelled-read}
use Rattle.hs_views.proofs.SmallWorlds.{AreAll, IsOneOf, all_differ, each-of, one-takes, separate-by, starts, world, zero-takes}
use Rattle.hs_views.proofs.Tests.{AreStrings, each-string}
use Rattle.sb_chained.specs.Chained.{chained, makes}
use Rattle.sb_chained.specs.Rules.{node_digest}
use Rattle.sb_chained.proofs.Examples.ByzantineLeader.{Arrives, alone, batch_held, by, cites, good-q, liar, q, sent, shown, shown-spelled, signs, states, told, voted}
use Rattle.sb_chained.proofs.Examples.Runs.{b}
use Rattle.sb_chained.proofs.Safety.WorldsAreBroadcasts.{chained-safe}

-- ---- The messages: two nodes with empty batches and two marks, each on the certificate of the one before, with votes of
-- the replicas 0, 1 and 3. Each replica votes in view k with leaf k

abbrev pub joint : ℕ → List ℕ → Certificate
joint view d = shown view d 0 view 1 view

abbrev pub d1 : List ℕ
d1 = node_digest q 1 (Holds b) Root

abbrev pub c1 : Certificate
c1 = joint 1 d1

abbrev pub d2 : List ℕ
d2 = node_digest q 2 (Holds b) c1

abbrev pub c2 : Certificate
c2 = joint 2 d2

abbrev pub d3 : List ℕ
d3 = node_digest q 3 Mark c2

abbrev pub c3 : Certificate
c3 = joint 3 d3

abbrev m1 : Message
m1 = by 3 0 (Prepare 1 (Holds b) Root)

abbrev m2 : Message
m2 = by 3 0 (Prepare 2 (Holds b) c1)

abbrev m3 : Message
m3 = by 3 0 (Prepare 3 Mark c2)

abbrev m4 : Message
m4 = by 3 0 (Prepare 4 Mark c3)

-- ---- What a replica takes, and its votes

abbrev pub list1 : ℕ → List (Item Message)
list1 me = and_then chained q me [] (told m1) 1

abbrev pub list2 : ℕ → List (Item Message)
list2 me = and_then chained q me (list1 me) (told m2) 2

abbrev pub list3 : ℕ → List (Item Message)
list3 me = and_then chained q me (list2 me) (told m3) 3

abbrev pub list4 : ℕ → List (Item Message)
list4 me = and_then chained q me (list3 me) (told m4) 4

first-vote : (me : ℕ) → (makes q me [] (told m1) 1).sends ≡ sent me 1 d1 1
unfolding sha256 digest_bytes hash_after compress rounds schedule first_words spell_batch spell_count spell_value wide_bytes
first-vote me = refl

pub second-vote : (me : ℕ) → (makes q me (list1 me) (told m2) 2).sends ≡ sent me 2 d2 2
unfolding sha256 digest_bytes hash_after compress rounds schedule first_words spell_batch spell_count spell_value wide_bytes
second-vote me = refl

pub third-vote : (me : ℕ) → (makes q me (list2 me) (told m3) 3).sends ≡ sent me 3 d3 3
unfolding sha256 digest_bytes hash_after compress rounds schedule first_words spell_batch spell_count spell_value wide_bytes
third-vote me = refl

pub delivers : delivered chained q 0 (list4 0) 0 ≡ Some (Value_batch b)
unfolding sha256 digest_bytes hash_after compress rounds schedule first_words spell_batch spell_count spell_value wide_bytes
delivers = refl

-- ---- The messages can be decoded

abbrev IsRead : Message → Type 0
IsRead msg = IsReadMessage chained q msg

read1 : IsRead m1
read1 = spelled-read 1 1 m1 _ (record { view_fits = omega arith; behind = batch_held.0; what_is = batch_held.1; certificate = root_row; spelled = refl; row = refl }) (signature-shape chained q good-q 3 0 _)

read2 : IsRead m2
read2 = spelled-read 1 1 m2 _ (record { view_fits = omega arith; behind = batch_held.0; what_is = batch_held.1; certificate = _; spelled = shown-spelled 1 d1 0 1 1 1 (omega arith) (omega arith) (length-sha256 _) (omega arith) (omega arith); row = refl }) (signature-shape chained q good-q 3 0 _)

read3 : IsRead m3
read3 = spelled-read 1 1 m3 _ (record { view_fits = omega arith; behind = _; what_is = refl; certificate = _; spelled = shown-spelled 2 d2 0 2 1 2 (omega arith) (omega arith) (length-sha256 _) (omega arith) (omega arith); row = refl }) (signature-shape chained q good-q 3 0 _)

read4 : IsRead m4
read4 = spelled-read 1 1 m4 _ (record { view_fits = omega arith; behind = _; what_is = refl; certificate = _; spelled = shown-spelled 3 d3 0 3 1 3 (omega arith) (omega arith) (length-sha256 _) (omega arith) (omega arith); row = refl }) (signature-shape chained q good-q 3 0 _)

-- ---- The run

-- the replicas 0 and 1 cast the vote
pub record AreCast (w : World Message) (view : ℕ) (d : List ℕ) : Type 0 where
  pub zero_did : IsSigned chained q w 0 (states view d)
  pub one_did : IsSigned chained q w 1 (states view d)

module _ (w : World Message) where
  vote-of : (k view : ℕ) (d : List ℕ) (x : Item Message) → In x (w k) → x.made.sends ≡ sent k view d view → IsSigned chained q w k (states view d)
  vote-of k view d x h e = voted chained w k view d view x h e (inl refl)

  m1-comes : Arrives chained w 3 m1
  m1-comes = alone chained w 3 m1 (signs 3 0 (stated form q m1.body)) (omega arith) read1 refl (liar chained w _)

  m2-comes : AreCast w 1 d1 → Arrives chained w 3 m2
  m2-comes h = cites chained w 1 d1 0 1 1 1 (omega arith) (omega arith) (omega arith) (omega arith) h.zero_did h.one_did 3 m2 (signs 3 0 (stated form q m2.body)) (omega arith) read2 refl (liar chained w _)

  m3-comes : AreCast w 2 d2 → Arrives chained w 3 m3
  m3-comes h = cites chained w 2 d2 0 2 1 2 (omega arith) (omega arith) (omega arith) (omega arith) h.zero_did h.one_did 3 m3 (signs 3 0 (stated form q m3.body)) (omega arith) read3 refl (liar chained w _)

  m4-comes : AreCast w 3 d3 → Arrives chained w 3 m4
  m4-comes h = cites chained w 3 d3 0 3 1 3 (omega arith) (omega arith) (omega arith) (omega arith) h.zero_did h.one_did 3 m4 (signs 3 0 (stated form q m4.body)) (omega arith) read4 refl (liar chained w _)

abbrev w1 : World Message
w1 = world (list1 0) [] []

abbrev w2 : World Message
w2 = world (list1 0) (list1 1) []

abbrev w3 : World Message
w3 = world (list2 0) (list1 1) []

abbrev w4 : World Message
w4 = world (list2 0) (list2 1) []

abbrev w5 : World Message
w5 = world (list3 0) (list2 1) []

abbrev w6 : World Message
w6 = world (list3 0) (list3 1) []

abbrev w7 : World Message
w7 = world (list4 0) (list3 1) []

cast2 : AreCast w2 1 d1
cast2 = record { zero_did = vote-of w2 0 1 d1 _ (inl refl) (first-vote 0); one_did = vote-of w2 1 1 d1 _ (inl refl) (first-vote 1) }

cast3 : AreCast w3 1 d1
cast3 = record { zero_did = vote-of w3 0 1 d1 _ (inr (inl refl)) (first-vote 0); one_did = vote-of w3 1 1 d1 _ (inl refl) (first-vote 1) }

cast4 : AreCast w4 2 d2
cast4 = record { zero_did = vote-of w4 0 2 d2 _ (inl refl) (second-vote 0); one_did = vote-of w4 1 2 d2 _ (inl refl) (second-vote 1) }

cast5 : AreCast w5 2 d2
cast5 = record { zero_did = vote-of w5 0 2 d2 _ (inr (inl refl)) (second-vote 0); one_did = vote-of w5 1 2 d2 _ (inl refl) (second-vote 1) }

cast6 : AreCast w6 3 d3
cast6 = record { zero_did = vote-of w6 0 3 d3 _ (inl refl) (third-vote 0); one_did = vote-of w6 1 3 d3 _ (inl refl) (third-vote 1) }

cast7 : AreCast w7 3 d3
cast7 = record { zero_did = vote-of w7 0 3 d3 _ (inr (inl refl)) (third-vote 0); one_did = vote-of w7 1 3 d3 _ (inl refl) (third-vote 1) }

pub reached : IsReached chained q w7
reached =
    let r1 : IsReached chained q w1 = starts chained q refl (told m1) 1 (m1-comes empty_world) in
    let r2 : IsReached chained q w2 = one-takes chained q (list1 0) [] [] r1 (told m1) 1 refl (m1-comes w1) in
    let r3 : IsReached chained q w3 = zero-takes chained q (list1 0) (list1 1) [] r2 (told m2) 2 refl (m2-comes w2 cast2) in
    let r4 : IsReached chained q w4 = one-takes chained q (list2 0) (list1 1) [] r3 (told m2) 2 refl (m2-comes w3 cast3) in
    let r5 : IsReached chained q w5 = zero-takes chained q (list2 0) (list2 1) [] r4 (told m3) 3 refl (m3-comes w4 cast4) in
    let r6 : IsReached chained q w6 = one-takes chained q (list3 0) (list2 1) [] r5 (told m3) 3 refl (m3-comes w5 cast5) in
    zero-takes chained q (list3 0) (list3 1) [] r6 (told m4) 4 refl (m4-comes w6 cast6)

-- ---- SHA-256 does not collide on its strings: a value's and four nodes'

abbrev pub value : List ℕ
value = value_string 1 (Value_batch b)

abbrev pub node1 : List ℕ
node1 = viewed_string 1 1 root (Holds b)

abbrev pub node2 : List ℕ
node2 = viewed_string 1 2 d1 (Holds b)

abbrev pub node3 : List ℕ
node3 = viewed_string 1 3 d2 Mark

abbrev pub node4 : List ℕ
node4 = viewed_string 1 4 d3 Mark

-- with the node of a later round
abbrev pub node5 : List ℕ
node5 = viewed_string 1 65537 d3 Mark

abbrev pub pairs : List (List ℕ × List ℕ)
pairs = ([], digest []) ∷ (value, digest value) ∷ (node1, d1) ∷ (node2, d2) ∷ (node3, d3) ∷ (node4, digest node4) ∷ (node5, digest node5) ∷ []

abbrev pub IsOne : List ℕ → Type 0
IsOne s = IsOneOf pairs s

pub these-differ : all_differ pairs ≡ true
unfolding sha256 digest_bytes hash_after compress rounds schedule first_words spell_batch spell_count spell_value wide_bytes
these-differ = refl

pub one-empty : IsOne []
one-empty = record { digest_of = _; one = inl refl; is = refl }

are1 : AreAll IsOne (value ∷ node1 ∷ [])
are1 = (record { digest_of = _; one = inr (inl refl); is = refl }, (record { digest_of = _; one = inr (inr (inl refl)); is = refl }, tt))

are2 : AreAll IsOne (value ∷ node2 ∷ [])
are2 = (record { digest_of = _; one = inr (inl refl); is = refl }, (record { digest_of = _; one = inr (inr (inr (inl refl))); is = refl }, tt))

are3 : AreAll IsOne (node3 ∷ [])
are3 = (record { digest_of = _; one = inr (inr (inr (inr (inl refl)))); is = refl }, tt)

are4 : AreAll IsOne (node4 ∷ [])
are4 = (record { digest_of = _; one = inr (inr (inr (inr (inr (inl refl))))); is = refl }, tt)

pub strings1 : (me : ℕ) → (makes q me [] (told m1) 1).strings ≡ value ∷ node1 ∷ []
unfolding sha256 digest_bytes hash_after compress rounds schedule first_words spell_batch spell_count spell_value wide_bytes
strings1 me = refl

pub strings2 : (me : ℕ) → (makes q me (list1 me) (told m2) 2).strings ≡ value ∷ node2 ∷ []
unfolding sha256 digest_bytes hash_after compress rounds schedule first_words spell_batch spell_count spell_value wide_bytes
strings2 me = refl

pub strings3 : (me : ℕ) → (makes q me (list2 me) (told m3) 3).strings ≡ node3 ∷ []
unfolding sha256 digest_bytes hash_after compress rounds schedule first_words spell_batch spell_count spell_value wide_bytes
strings3 me = refl

strings4 : (me : ℕ) → (makes q me (list3 me) (told m4) 4).strings ≡ node4 ∷ []
unfolding sha256 digest_bytes hash_after compress rounds schedule first_words spell_batch spell_count spell_value wide_bytes
strings4 me = refl

pub each-list : (me : ℕ) → AreStrings IsOne (list4 me)
each-list me = (each-of IsOne _ _ (strings4 me) are4, (each-of IsOne _ _ (strings3 me) are3, (each-of IsOne _ _ (strings2 me) are2, (each-of IsOne _ _ (strings1 me) are1, tt))))

of-world : (s : List ℕ) → IsString w7 s → IsOne s
of-world s (inl e) = subst IsOne (sym e) one-empty
of-world s (inr h) = go (eqb h.node 0) (eqb h.node 1) (eqb h.node 2) h.taken
  where
    go : (t u v : Bool) → In h.item (cond t (list4 0) (cond u (list3 1) (cond v [] []))) → IsOne s
    go true u v k = each-string IsOne (list4 0) h.item s (each-list 0) k h.hashed
    go false true v k = each-string IsOne (list3 1) h.item s (each-list 1).1 k h.hashed
    go false false true k = absurd k
    go false false false k = absurd k

separate : Separate (IsString w7)
separate = separate-by pairs these-differ w7 of-world

-- ---- What the example shows

record ArePremisesMet : Type 0 where
  params : Params
  world_of : World Message
  are_good : IsGoodParams chained params
  is_reached : IsReached chained params world_of
  are_separate : Separate (IsString world_of)
  were_cast : AreCast world_of 3 d3
  was_delivered : delivered chained params 0 (world_of 0) 0 ≡ Some (Value_batch b)

premises-met : ArePremisesMet
premises-met = record {
  params = q;
  world_of = w7;
  are_good = good-q;
  is_reached = reached;
  are_separate = separate;
  were_cast = cast7;
  was_delivered = delivers;
}

-- hence this world is a broadcast
its-broadcast : IsBroadcast chained q w7
its-broadcast = chained-safe q w7 good-q reached separate
