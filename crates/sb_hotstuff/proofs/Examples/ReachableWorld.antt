-- The premises can be met: a reachable world in which a Byzantine replica leads, votes were signed, and a slot was
-- delivered.
use Rattle.std.proofs.Common.{◌≡◌, ℕ, Bool, true, false, cond, eqb, List, [], ◌∷◌, Some, refl, sym, subst, inl, inr, arith}
use Rattle.sha2.specs.Sha256.{sha256, digest_bytes, hash_after, compress, rounds, schedule, first_words}
use Rattle.sha2.proofs.Facts256.{length-sha256}
use Rattle.iss_base.specs.Lists.{In}
use Rattle.iss_request.specs.Digest.{digest}
use Rattle.iss_request.specs.Formats.{spell_batch, spell_count, spell_value, value_string}
use Rattle.iss_request.specs.declared.requests.Value.TheVariants.{Batch as Value_batch}
use Rattle.iss_sb.specs.declared.content.Content.TheVariants.{Holds}
use Rattle.iss_sb.specs.declared.effects.Params.{Params}
use Rattle.iss_sb.specs.Calls.{IsGoodParams}
use Rattle.iss_sb.specs.Evidence.{Item, World, IsCredible, IsReached, IsReadMessage, IsSigned, IsString, Separate, Verifies, and_then, delivered, empty_world}
use Rattle.iss_sb.specs.Laws.{IsBroadcast}
use Rattle.hs_tree.specs.declared.certificates.Certificate.TheVariants.{Root}
use Rattle.hs_tree.specs.declared.messages.Message.{Message}
use Rattle.hs_tree.specs.declared.messages.Body.TheVariants.{Prepare}
use Rattle.hs_tree.specs.Certificates.{root_row}
use Rattle.hs_tree.specs.Tree.{plain_string, root}
use Rattle.hs_views.proofs.SmallWorlds.{IsOneOf, all_differ, each-of, one-takes, separate-by, starts, world, zero-takes}
use Rattle.hs_views.proofs.Tests.{AreStrings, each-string}
use Rattle.sb_hotstuff.specs.HotStuff.{hotstuff, makes}
use Rattle.sb_hotstuff.specs.Rules.{node_digest}
use Rattle.sb_hotstuff.proofs.Examples.FourReplicas.{AreCast, IsLike, IsPoll, Poll, arrives, batch_held, by, commit, commit-comes, decide, decide-comes, good, led_by, liar, pre-commit-comes, pre_commit, prepare-read, sent, states, told, voted}
use Rattle.sb_hotstuff.proofs.Examples.Runs.{b}
use Rattle.sb_hotstuff.proofs.Safety.WorldsAreBroadcasts.{hotstuff-safe}

-- the Byzantine replica leads
abbrev pub q : Params
q = led_by 3

-- ---- The messages: a node with an empty batch on the root, and votes of the replicas 0, 1 and 3

abbrev pub d : List ℕ
d = node_digest q 1 (Holds b) Root

abbrev pub first : Poll
first = record { view = 1; digest = d; one = 0; one_behind = 0; other = 1; other_behind = 0 }

pub first-is : IsPoll first
first-is = record { low = omega arith; high = omega arith; long = length-sha256 _; ascending = omega arith; few = omega arith; one_left = omega arith; other_left = omega arith }

abbrev pub proposal : Message
proposal = by q 3 0 (Prepare 1 (Holds b) Root)

pub proposal-read : IsReadMessage hotstuff q proposal
proposal-read = prepare-read 3 (omega arith) 3 0 1 (Holds b) Root batch_held.0 root_row (omega arith) batch_held.1 refl

-- ---- What a replica takes, and its votes

abbrev list1 : ℕ → List (Item Message)
list1 me = and_then hotstuff q me [] (told 3 proposal) 1

abbrev list2 : ℕ → List (Item Message)
list2 me = and_then hotstuff q me (list1 me) (told 3 (pre_commit q first)) 2

abbrev list3 : ℕ → List (Item Message)
list3 me = and_then hotstuff q me (list2 me) (told 3 (commit q first)) 3

abbrev list4 : ℕ → List (Item Message)
list4 me = and_then hotstuff q me (list3 me) (told 3 (decide q first)) 4

first-vote : (me : ℕ) → (makes q me [] (told 3 proposal) 1).sends ≡ sent q first 1 1 me 3
unfolding sha256 digest_bytes hash_after compress rounds schedule first_words spell_batch spell_count spell_value
first-vote me = refl

second-vote : (me : ℕ) → (makes q me (list1 me) (told 3 (pre_commit q first)) 2).sends ≡ sent q first 2 2 me 3
unfolding sha256 digest_bytes hash_after compress rounds schedule first_words spell_batch spell_count spell_value
second-vote me = refl

third-vote : (me : ℕ) → (makes q me (list2 me) (told 3 (commit q first)) 3).sends ≡ sent q first 3 3 me 3
unfolding sha256 digest_bytes hash_after compress rounds schedule first_words spell_batch spell_count spell_value
third-vote me = refl

delivers : delivered hotstuff q 0 (list4 0) 0 ≡ Some (Value_batch b)
unfolding sha256 digest_bytes hash_after compress rounds schedule first_words spell_batch spell_count spell_value
delivers = refl

-- ---- The run

pub like : IsLike hotstuff
like = record { spell = refl; parse = refl; claims = refl }

abbrev Arrives : World Message → Message → Type 0
Arrives w msg = IsCredible hotstuff q (Verifies q) (IsSigned hotstuff q w) 3 msg

vote-of : (w : World Message) (k : ℕ) (x : Item Message) (phase : ℕ) → In x (w k) → x.made.sends ≡ sent q first phase phase k 3 → IsSigned hotstuff q w k (states q 1 d phase)
vote-of w k x phase h e = voted hotstuff like 3 (omega arith) w first phase phase k 3 x h e

proposal-comes : (w : World Message) → Arrives w proposal
proposal-comes w = arrives hotstuff like 3 (omega arith) w 3 proposal _ (omega arith) proposal-read refl (liar hotstuff like 3 (omega arith) w _, tt)

abbrev w1 : World Message
w1 = world (list1 0) [] []

abbrev w2 : World Message
w2 = world (list1 0) (list1 1) []

abbrev w3 : World Message
w3 = world (list2 0) (list1 1) []

abbrev w4 : World Message
w4 = world (list2 0) (list2 1) []

abbrev w5 : World Message
w5 = world (list3 0) (list2 1) []

abbrev w6 : World Message
w6 = world (list3 0) (list3 1) []

abbrev w7 : World Message
w7 = world (list4 0) (list3 1) []

cast2 : AreCast hotstuff q w2 first 1
cast2 = record { one_did = vote-of w2 0 _ 1 (inl refl) (first-vote 0); other_did = vote-of w2 1 _ 1 (inl refl) (first-vote 1) }

cast3 : AreCast hotstuff q w3 first 1
cast3 = record { one_did = vote-of w3 0 _ 1 (inr (inl refl)) (first-vote 0); other_did = vote-of w3 1 _ 1 (inl refl) (first-vote 1) }

cast4 : AreCast hotstuff q w4 first 2
cast4 = record { one_did = vote-of w4 0 _ 2 (inl refl) (second-vote 0); other_did = vote-of w4 1 _ 2 (inl refl) (second-vote 1) }

cast5 : AreCast hotstuff q w5 first 2
cast5 = record { one_did = vote-of w5 0 _ 2 (inr (inl refl)) (second-vote 0); other_did = vote-of w5 1 _ 2 (inl refl) (second-vote 1) }

cast6 : AreCast hotstuff q w6 first 3
cast6 = record { one_did = vote-of w6 0 _ 3 (inl refl) (third-vote 0); other_did = vote-of w6 1 _ 3 (inl refl) (third-vote 1) }

cast7 : AreCast hotstuff q w7 first 3
cast7 = record { one_did = vote-of w7 0 _ 3 (inr (inl refl)) (third-vote 0); other_did = vote-of w7 1 _ 3 (inl refl) (third-vote 1) }

second-comes : (w : World Message) → AreCast hotstuff q w first 1 → Arrives w (pre_commit q first)
second-comes w h = pre-commit-comes hotstuff like 3 (omega arith) w first first-is h

third-comes : (w : World Message) → AreCast hotstuff q w first 2 → Arrives w (commit q first)
third-comes w h = commit-comes hotstuff like 3 (omega arith) w first first-is h

last-comes : (w : World Message) → AreCast hotstuff q w first 3 → Arrives w (decide q first)
last-comes w h = decide-comes hotstuff like 3 (omega arith) w first first-is h

reached : IsReached hotstuff q w7
reached =
    let r1 : IsReached hotstuff q w1 = starts hotstuff q refl (told 3 proposal) 1 (proposal-comes empty_world) in
    let r2 : IsReached hotstuff q w2 = one-takes hotstuff q (list1 0) [] [] r1 (told 3 proposal) 1 refl (proposal-comes w1) in
    let r3 : IsReached hotstuff q w3 = zero-takes hotstuff q (list1 0) (list1 1) [] r2 (told 3 (pre_commit q first)) 2 refl (second-comes w2 cast2) in
    let r4 : IsReached hotstuff q w4 = one-takes hotstuff q (list2 0) (list1 1) [] r3 (told 3 (pre_commit q first)) 2 refl (second-comes w3 cast3) in
    let r5 : IsReached hotstuff q w5 = zero-takes hotstuff q (list2 0) (list2 1) [] r4 (told 3 (commit q first)) 3 refl (third-comes w4 cast4) in
    let r6 : IsReached hotstuff q w6 = one-takes hotstuff q (list3 0) (list2 1) [] r5 (told 3 (commit q first)) 3 refl (third-comes w5 cast5) in
    zero-takes hotstuff q (list3 0) (list3 1) [] r6 (told 3 (decide q first)) 4 refl (last-comes w6 cast6)

-- ---- SHA-256 does not collide on its strings: a value's and a node's

abbrev value : List ℕ
value = value_string 1 (Value_batch b)

abbrev tree_node : List ℕ
tree_node = plain_string 1 1 root (Holds b)

abbrev pairs : List (List ℕ × List ℕ)
pairs = ([], digest []) ∷ (value, digest value) ∷ (tree_node, digest tree_node) ∷ []

abbrev IsOne : List ℕ → Type 0
IsOne s = IsOneOf pairs s

one-empty : IsOne []
one-empty = record { digest_of = _; one = inl refl; is = refl }

one-value : IsOne value
one-value = record { digest_of = _; one = inr (inl refl); is = refl }

one-node : IsOne tree_node
one-node = record { digest_of = _; one = inr (inr (inl refl)); is = refl }

these-differ : all_differ pairs ≡ true
unfolding sha256 digest_bytes hash_after compress rounds schedule first_words spell_batch spell_count spell_value
these-differ = refl

strings1 : (me : ℕ) → (makes q me [] (told 3 proposal) 1).strings ≡ value ∷ tree_node ∷ []
unfolding sha256 digest_bytes hash_after compress rounds schedule first_words spell_batch spell_count spell_value
strings1 me = refl

each-list : (me : ℕ) → AreStrings IsOne (list4 me)
each-list me = (
  each-of IsOne _ [] refl tt,
  (each-of IsOne _ [] refl tt, (each-of IsOne _ [] refl tt, (each-of IsOne _ _ (strings1 me) (one-value, (one-node, tt)), tt))),
)

of-world : (s : List ℕ) → IsString w7 s → IsOne s
of-world s (inl e) = subst IsOne (sym e) one-empty
of-world s (inr h) = go (eqb h.node 0) (eqb h.node 1) (eqb h.node 2) h.taken
  where
    go : (t u v : Bool) → In h.item (cond t (list4 0) (cond u (list3 1) (cond v [] []))) → IsOne s
    go true u v k = each-string IsOne (list4 0) h.item s (each-list 0) k h.hashed
    go false true v k = each-string IsOne (list3 1) h.item s (each-list 1).1 k h.hashed
    go false false true k = absurd k
    go false false false k = absurd k

separate : Separate (IsString w7)
separate = separate-by pairs these-differ w7 of-world

-- ---- What the example shows

record ArePremisesMet : Type 0 where
  params : Params
  world_of : World Message
  are_good : IsGoodParams hotstuff params
  is_reached : IsReached hotstuff params world_of
  are_separate : Separate (IsString world_of)
  were_cast : AreCast hotstuff params world_of first 3
  was_delivered : delivered hotstuff params 0 (world_of 0) 0 ≡ Some (Value_batch b)

premises-met : ArePremisesMet
premises-met = record {
  params = q;
  world_of = w7;
  are_good = good 3 (omega arith);
  is_reached = reached;
  are_separate = separate;
  were_cast = cast7;
  was_delivered = delivers;
}

-- hence this world is a broadcast
its-broadcast : IsBroadcast hotstuff q w7
its-broadcast = hotstuff-safe q w7 (good 3 (omega arith)) reached separate
