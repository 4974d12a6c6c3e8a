-- The premises of the laws and facts are met across the change of round of `RoundChange`: it is reached, its strings are
-- separate, and two replicas deliver a slot by certificates of different views.
use Rattle.std.proofs.Common.{◌≡◌, ℕ, zero, suc, Bool, true, false, cond, eqb, List, [], ◌∷◌, Some, refl, sym, subst, inl, inr, arith, true≢false}
use Rattle.sha2.specs.Sha256.{sha256, digest_bytes, hash_after, compress, rounds, schedule, first_words}
use Rattle.iss_base.specs.Lists.{In}
use Rattle.iss_request.specs.Digest.{digest}
use Rattle.iss_request.specs.Formats.{spell_batch, spell_count, spell_value, value_string}
use Rattle.iss_request.specs.declared.requests.Value.TheVariants.{Nil as Value_nil, Batch as Value_batch}
use Rattle.iss_sb.specs.declared.content.Content.TheVariants.{Nil, Holds}
use Rattle.iss_sb.specs.declared.effects.Input.TheVariants.{Cast, Timeout}
use Rattle.iss_sb.specs.declared.effects.To.TheVariants.{One as To_one}
use Rattle.iss_sb.specs.Calls.{IsGoodParams}
use Rattle.iss_sb.specs.Evidence.{Item, World, IsReached, IsString, Separate, delivered, is_correct}
use Rattle.iss_sb.specs.Laws.{IsBroadcast}
use Rattle.iss_sb.specs.Statements.{signature}
use Rattle.iss_sb.proofs.Read.{batch-read}
use Rattle.hs_tree.specs.declared.messages.Message.{Message}
use Rattle.hs_tree.specs.Tree.{plain_string, root}
use Rattle.hs_views.proofs.SmallWorlds.{AreAll, IsOneOf, all_differ, each-of, one-takes, separate-by, starts, two-takes, world, zero-takes}
use Rattle.hs_views.proofs.Tests.{AreStrings, each-string}
use Rattle.sb_hotstuff.specs.Facts.{IsCertified, IsVoted}
use Rattle.sb_hotstuff.specs.HotStuff.{hotstuff, makes, state}
use Rattle.sb_hotstuff.proofs.Examples.FourReplicas.{Poll, commit, decide, good, pre_commit, sent, shown, states, told}
use Rattle.sb_hotstuff.proofs.Examples.Runs.{b, node, slot}
use Rattle.sb_hotstuff.proofs.Safety.WorldsAreBroadcasts.{hotstuff-safe}
use Rattle.sb_hotstuff.proofs.Examples.RoundChange.{Items, a, again, again-comes, against, against-comes, blank, blank-comes, e, ended, ended-comes, first, first-decides, first-locks, first-shown, first-vote, lie-comes, one-1, one-10, one-2, one-3, one-4, one-7, one-8, one-9, one1, one10, one11, one2, one3, one4, one5, one6, one7, one8, one9, proposal, proposal-comes, q, second, second-decides, second-locks, second-shown, second-vote, two-1, two1, zero-1, zero-2, zero-3, zero-4, zero-6, zero-7, zero-8, zero1, zero2, zero3, zero4, zero5, zero6, zero7, zero8, zero9}

-- ---- The run

abbrev Reaches : Items → Items → Items → Type 0
Reaches xs ys zs = IsReached hotstuff q (world xs ys zs)

r1 : Reaches zero1 [] []
r1 = starts hotstuff q refl (Cast (slot 0) b) 0 (refl, batch-read 1 b (omega arith) (λ r h. absurd h))

r2 : Reaches zero2 [] []
r2 =
    let w : World Message = world zero1 [] [] in
    zero-takes hotstuff q zero1 [] [] r1 (told 0 proposal) 1 refl (proposal-comes w _ (inl refl) zero-1)

r3 : Reaches zero2 one1 []
r3 =
    let w : World Message = world zero2 [] [] in
    one-takes hotstuff q zero2 [] [] r2 (told 0 proposal) 1 refl (proposal-comes w _ (inr (inl refl)) zero-1)

r4 : Reaches zero3 one1 []
r4 =
    let w : World Message = world zero2 one1 [] in
    zero-takes hotstuff q zero2 one1 [] r3 (told 3 (pre_commit q first)) 2 refl (first-shown w (record { one_did = first-vote w 0 1 _ (inl refl) zero-2; other_did = first-vote w 1 1 _ (inl refl) one-1 }))

r5 : Reaches zero3 one2 []
r5 =
    let w : World Message = world zero3 one1 [] in
    one-takes hotstuff q zero3 one1 [] r4 (told 3 (pre_commit q first)) 2 refl (first-shown w (record { one_did = first-vote w 0 1 _ (inr (inl refl)) zero-2; other_did = first-vote w 1 1 _ (inl refl) one-1 }))

r6 : Reaches zero4 one2 []
r6 =
    let w : World Message = world zero3 one2 [] in
    zero-takes hotstuff q zero3 one2 [] r5 (told 3 (commit q first)) 3 refl (first-locks w (record { one_did = first-vote w 0 2 _ (inl refl) zero-3; other_did = first-vote w 1 2 _ (inl refl) one-2 }))

r7 : Reaches zero4 one3 []
r7 =
    let w : World Message = world zero4 one2 [] in
    one-takes hotstuff q zero4 one2 [] r6 (told 3 (commit q first)) 3 refl (first-locks w (record { one_did = first-vote w 0 2 _ (inr (inl refl)) zero-3; other_did = first-vote w 1 2 _ (inl refl) one-2 }))

r8 : Reaches zero5 one3 []
r8 =
    let w : World Message = world zero4 one3 [] in
    zero-takes hotstuff q zero4 one3 [] r7 (told 3 against) 4 refl (against-comes w)

r9 : Reaches zero5 one4 []
r9 = one-takes hotstuff q zero5 one3 [] r8 Timeout 4 refl tt

r10 : Reaches zero5 one4 two1
r10 = two-takes hotstuff q zero5 one4 [] r9 Timeout 0 refl tt

r11 : Reaches zero5 one5 two1
r11 =
    let w : World Message = world zero5 one4 two1 in
    one-takes hotstuff q zero5 one4 two1 r10 (told 1 ended) 5 refl (ended-comes w (record { one_did = first-vote w 0 1 _ (inr (inr (inr (inl refl)))) zero-2; other_did = first-vote w 1 1 _ (inr (inr (inr (inl refl)))) one-1 }) _ (inl refl) one-4)

r12 : Reaches zero5 one6 two1
r12 =
    let w : World Message = world zero5 one5 two1 in
    one-takes hotstuff q zero5 one5 two1 r11 (told 2 (blank 2)) 5 refl (blank-comes w _ (inl refl) two-1)

r13 : Reaches zero5 one7 two1
r13 =
    let w : World Message = world zero5 one6 two1 in
    one-takes hotstuff q zero5 one6 two1 r12 (told 3 (blank 3)) 5 refl (lie-comes w)

r14 : Reaches zero5 one8 two1
r14 =
    let w : World Message = world zero5 one7 two1 in
    one-takes hotstuff q zero5 one7 two1 r13 (told 1 again) 6 refl (again-comes w (record { one_did = first-vote w 0 1 _ (inr (inr (inr (inl refl)))) zero-2; other_did = first-vote w 1 1 _ (inr (inr (inr (inr (inr (inr (inl refl))))))) one-1 }) _ (inl refl) one-7)

r15 : Reaches zero6 one8 two1
r15 =
    let w : World Message = world zero5 one8 two1 in
    zero-takes hotstuff q zero5 one8 two1 r14 (told 1 again) 4 refl (again-comes w (record { one_did = first-vote w 0 1 _ (inr (inr (inr (inl refl)))) zero-2; other_did = first-vote w 1 1 _ (inr (inr (inr (inr (inr (inr (inr (inl refl)))))))) one-1 }) _ (inr (inl refl)) one-7)

r16 : Reaches zero7 one8 two1
r16 =
    let w : World Message = world zero6 one8 two1 in
    zero-takes hotstuff q zero6 one8 two1 r15 (told 3 (pre_commit q second)) 5 refl (second-shown w (record { one_did = second-vote w 0 1 4 _ (inl refl) zero-6; other_did = second-vote w 1 1 6 _ (inl refl) one-8 }))

r17 : Reaches zero7 one9 two1
r17 =
    let w : World Message = world zero7 one8 two1 in
    one-takes hotstuff q zero7 one8 two1 r16 (told 3 (pre_commit q second)) 7 refl (second-shown w (record { one_did = second-vote w 0 1 4 _ (inr (inl refl)) zero-6; other_did = second-vote w 1 1 6 _ (inl refl) one-8 }))

r18 : Reaches zero8 one9 two1
r18 =
    let w : World Message = world zero7 one9 two1 in
    zero-takes hotstuff q zero7 one9 two1 r17 (told 3 (commit q second)) 6 refl (second-locks w (record { one_did = second-vote w 0 2 5 _ (inl refl) zero-7; other_did = second-vote w 1 2 7 _ (inl refl) one-9 }))

r19 : Reaches zero8 one10 two1
r19 =
    let w : World Message = world zero8 one9 two1 in
    one-takes hotstuff q zero8 one9 two1 r18 (told 3 (commit q second)) 8 refl (second-locks w (record { one_did = second-vote w 0 2 5 _ (inr (inl refl)) zero-7; other_did = second-vote w 1 2 7 _ (inl refl) one-9 }))

r20 : Reaches zero9 one10 two1
r20 =
    let w : World Message = world zero8 one10 two1 in
    zero-takes hotstuff q zero8 one10 two1 r19 (told 3 (decide q first)) 7 refl (first-decides w (record { one_did = first-vote w 0 3 _ (inr (inr (inr (inr (inl refl))))) zero-4; other_did = first-vote w 1 3 _ (inr (inr (inr (inr (inr (inr (inr (inl refl)))))))) one-3 }))

abbrev last : World Message
last = world zero9 one11 two1

reached : IsReached hotstuff q last
reached =
    let w : World Message = world zero9 one10 two1 in
    one-takes hotstuff q zero9 one10 two1 r20 (told 3 (decide q second)) 9 refl (second-decides w (record { one_did = second-vote w 0 3 6 _ (inr (inl refl)) zero-8; other_did = second-vote w 1 3 8 _ (inl refl) one-10 }))

-- ---- SHA-256 does not collide on its strings: two values' and two nodes'

abbrev batch : List ℕ
batch = value_string 1 (Value_batch b)

abbrev nil : List ℕ
nil = value_string 1 Value_nil

abbrev node_a : List ℕ
node_a = plain_string 1 1 root (Holds b)

abbrev node_e : List ℕ
node_e = plain_string 1 65537 a Nil

abbrev pairs : List (List ℕ × List ℕ)
pairs = ([], digest []) ∷ (batch, digest batch) ∷ (nil, digest nil) ∷ (node_a, a) ∷ (node_e, e) ∷ []

abbrev IsOne : List ℕ → Type 0
IsOne s = IsOneOf pairs s

these-differ : all_differ pairs ≡ true
unfolding sha256 digest_bytes hash_after compress rounds schedule first_words spell_batch spell_count spell_value
these-differ = refl

one-empty : IsOne []
one-empty = record { digest_of = _; one = inl refl; is = refl }

are-first : AreAll IsOne (batch ∷ node_a ∷ [])
are-first = (record { digest_of = _; one = inr (inl refl); is = refl }, (record { digest_of = _; one = inr (inr (inr (inl refl))); is = refl }, tt))

are-second : AreAll IsOne (nil ∷ node_e ∷ [])
are-second = (record { digest_of = _; one = inr (inr (inl refl)); is = refl }, (record { digest_of = _; one = inr (inr (inr (inr (inl refl)))); is = refl }, tt))

zero-strings-1 : (makes q 0 [] (Cast (slot 0) b) 0).strings ≡ batch ∷ node_a ∷ []
zero-strings-1 = refl

zero-strings-2 : (makes q 0 zero1 (told 0 proposal) 1).strings ≡ batch ∷ node_a ∷ []
unfolding sha256 digest_bytes hash_after compress rounds schedule first_words spell_batch spell_count spell_value
zero-strings-2 = refl

zero-strings-5 : (makes q 0 zero4 (told 3 against) 4).strings ≡ []
unfolding sha256 digest_bytes hash_after compress rounds schedule first_words spell_batch spell_count spell_value
zero-strings-5 = refl

zero-strings-6 : (makes q 0 zero5 (told 1 again) 4).strings ≡ nil ∷ node_e ∷ []
unfolding sha256 digest_bytes hash_after compress rounds schedule first_words spell_batch spell_count spell_value
zero-strings-6 = refl

one-strings-1 : (makes q 1 [] (told 0 proposal) 1).strings ≡ batch ∷ node_a ∷ []
unfolding sha256 digest_bytes hash_after compress rounds schedule first_words spell_batch spell_count spell_value
one-strings-1 = refl

one-strings-5 : (makes q 1 one4 (told 1 ended) 5).strings ≡ []
unfolding sha256 digest_bytes hash_after compress rounds schedule first_words spell_batch spell_count spell_value
one-strings-5 = refl

one-strings-6 : (makes q 1 one5 (told 2 (blank 2)) 5).strings ≡ []
unfolding sha256 digest_bytes hash_after compress rounds schedule first_words spell_batch spell_count spell_value
one-strings-6 = refl

one-strings-7 : (makes q 1 one6 (told 3 (blank 3)) 5).strings ≡ nil ∷ node_e ∷ []
unfolding sha256 digest_bytes hash_after compress rounds schedule first_words spell_batch spell_count spell_value
one-strings-7 = refl

one-strings-8 : (makes q 1 one7 (told 1 again) 6).strings ≡ nil ∷ node_e ∷ []
unfolding sha256 digest_bytes hash_after compress rounds schedule first_words spell_batch spell_count spell_value
one-strings-8 = refl

no-strings : (made : List (List ℕ)) → made ≡ [] → (s : List ℕ) → In s made → IsOne s
no-strings made is s h = each-of IsOne made [] is tt s h

each-zero4 : AreStrings IsOne zero4
each-zero4 = (no-strings _ refl, (no-strings _ refl, (each-of IsOne _ _ zero-strings-2 are-first, (each-of IsOne _ _ zero-strings-1 are-first, tt))))

each-zero : AreStrings IsOne zero9
each-zero = (no-strings _ refl, (no-strings _ refl, (no-strings _ refl, (each-of IsOne _ _ zero-strings-6 are-second, (no-strings _ zero-strings-5, each-zero4)))))

each-one4 : AreStrings IsOne one4
each-one4 = (no-strings _ refl, (no-strings _ refl, (no-strings _ refl, (each-of IsOne _ _ one-strings-1 are-first, tt))))

each-one8 : AreStrings IsOne one8
each-one8 = (each-of IsOne _ _ one-strings-8 are-second, (each-of IsOne _ _ one-strings-7 are-second, (no-strings _ one-strings-6, (no-strings _ one-strings-5, each-one4))))

each-one : AreStrings IsOne one11
each-one = (no-strings _ refl, (no-strings _ refl, (no-strings _ refl, each-one8)))

of-world : (s : List ℕ) → IsString last s → IsOne s
of-world s (inl is) = subst IsOne (sym is) one-empty
of-world s (inr h) = go (eqb h.node 0) (eqb h.node 1) (eqb h.node 2) h.taken
  where
    go : (t u v : Bool) → In h.item (cond t zero9 (cond u one11 (cond v two1 []))) → IsOne s
    go true u v k = each-string IsOne zero9 h.item s each-zero k h.hashed
    go false true v k = each-string IsOne one11 h.item s each-one k h.hashed
    go false false true k = each-string IsOne two1 h.item s (no-strings _ refl, tt) k h.hashed
    go false false false k = absurd k

separate : Separate (IsString last)
separate = separate-by pairs these-differ last of-world

-- ---- What the example shows

locks : (state q 0 zero4).lock ≡ shown q first 2
unfolding sha256 digest_bytes hash_after compress rounds schedule first_words spell_batch spell_count spell_value
locks = refl

delivers-first : delivered hotstuff q 0 zero9 0 ≡ Some (Value_batch b)
unfolding sha256 digest_bytes hash_after compress rounds schedule first_words spell_batch spell_count spell_value
delivers-first = refl

delivers-second : delivered hotstuff q 1 one11 0 ≡ Some (Value_batch b)
unfolding sha256 digest_bytes hash_after compress rounds schedule first_words spell_batch spell_count spell_value
delivers-second = refl

delivers-nil : delivered hotstuff q 1 one11 4 ≡ Some Value_nil
unfolding sha256 digest_bytes hash_after compress rounds schedule first_words spell_batch spell_count spell_value
delivers-nil = refl

vote-in : (k phase leaf leader : ℕ) (r : Poll) (x : Item Message) → In x (last k) → x.made.sends ≡ sent q r phase leaf k leader → IsVoted last k phase r.view r.digest
vote-in k phase leaf leader r x h is = record { item = x; taken = h; vote = record { to = To_one (node leader); sig = signature q k leaf (states q r.view r.digest phase); sent = rw is (inl refl) } }

-- votes of 0, 1 and 3 are a certificate
abbrev voters : ℕ → Bool
voters zero = true
voters (suc zero) = true
voters (suc (suc zero)) = false
voters (suc (suc (suc zero))) = true
voters (suc (suc (suc (suc k)))) = false

certified-by : (phase view : ℕ) (d : List ℕ) → IsVoted last 0 phase view d → IsVoted last 1 phase view d → IsCertified q last phase view d
certified-by phase view d h g = record { test = voters; many = omega arith; each = each }
  where
    each : (k : ℕ) → voters k ≡ true → is_correct q.setup k ≡ true → IsVoted last k phase view d
    each zero t c = h
    each (suc zero) t c = g
    each (suc (suc zero)) t c = absurd (true≢false (sym t))
    each (suc (suc (suc zero))) t c = absurd (true≢false (sym c))
    each (suc (suc (suc (suc k)))) t c = absurd (true≢false (sym t))

-- The premises of the laws and of the facts that speak of a lock or of a later view.
record ArePremisesMet : Type 0 where
  are_good : IsGoodParams hotstuff q
  leader_correct : is_correct q.setup q.leader.0 ≡ true
  is_reached : IsReached hotstuff q last
  are_separate : Separate (IsString last)
  -- replica 0 cast a commit vote in round 0, which locked it, and a prepare vote in round 1
  locked : (state q 0 zero4).lock ≡ shown q first 2
  committed : IsVoted last 0 3 1 a
  voted_again : IsVoted last 0 1 65537 e
  -- a has a certificate of the third phase, and e one of the first in a later view
  low : IsCertified q last 3 1 a
  high : IsCertified q last 1 65537 e
  -- by certificates of different views
  one_delivers : delivered hotstuff q 0 (last 0) 0 ≡ Some (Value_batch b)
  other_delivers : delivered hotstuff q 1 (last 1) 0 ≡ Some (Value_batch b)
  nil_delivered : delivered hotstuff q 1 (last 1) 4 ≡ Some Value_nil

premises-met : ArePremisesMet
premises-met =
    let low_zero = vote-in 0 3 3 0 first _ (inr (inr (inr (inr (inr (inl refl)))))) zero-4 in
    let low_one = vote-in 1 3 3 0 first _ (inr (inr (inr (inr (inr (inr (inr (inr (inl refl))))))))) one-3 in
    let high_zero = vote-in 0 1 4 1 second _ (inr (inr (inr (inl refl)))) zero-6 in
    let high_one = vote-in 1 1 6 1 second _ (inr (inr (inr (inl refl)))) one-8 in
    record {
      are_good = good 0 (omega arith);
      leader_correct = refl;
      is_reached = reached;
      are_separate = separate;
      locked = locks;
      committed = low_zero;
      voted_again = high_zero;
      low = certified-by 3 1 a low_zero low_one;
      high = certified-by 1 65537 e high_zero high_one;
      one_delivers = delivers-first;
      other_delivers = delivers-second;
      nil_delivered = delivers-nil;
    }

-- hence this world is a broadcast
its-broadcast : IsBroadcast hotstuff q last
its-broadcast = hotstuff-safe q last (good 0 (omega arith)) reached separate
