-- Raft needs entries of a leader's own term. A leader that commits older entries by counting, before it appends its own, lets
-- two nodes deliver different values, in the reached world below. It is figure 8 of Raft's paper with three nodes.
--
--     term 1   node 0 appends a batch, which reaches nobody
--     term 2   node 1 leads by node 2's vote, and appends nil, which reaches nobody
--     term 3   node 0 leads by node 2's vote, copies the batch to node 2, commits it by counting, and delivers it
--     term 4   node 1 leads by node 2's vote, since nil's term is higher, replaces the batch at node 2, and delivers nil
use Rattle.std.proofs.Common.{◌≡◌, Bool, true, false, cond, eqb, List, [], ◌∷◌, Some, ℕ, refl, sym, ap, ◌∙◌, subst, inl, inr, arith}
use Rattle.iss_base.specs.Lists.{In}
use Rattle.iss_keys.specs.Directories.{directory_of}
use Rattle.iss_request.specs.Formats.{count_field, parse_batch, parse_count, parse_rest, parse_value, spell_batch, spell_count, spell_value}
use Rattle.iss_request.specs.Parsing.{◌>>=◌, byte, done, such_that, times}
use Rattle.iss_request.specs.declared.requests.Value.TheVariants.{Batch as Value_batch, Nil as Value_nil}
use Rattle.iss_request.specs.declared.setups.Kind.TheVariants.{Stopping}
use Rattle.iss_request.specs.declared.setups.Setup.{Setup}
use Rattle.iss_sb.specs.declared.content.Content.TheVariants.{Holds, Mark, Nil}
use Rattle.iss_sb.specs.declared.effects.Input.{Input}
use Rattle.iss_sb.specs.declared.effects.Input.TheVariants.{Cast, Receive, Timeout}
use Rattle.iss_sb.specs.declared.effects.Params.{Params}
use Rattle.iss_sb.specs.declared.effects.To.TheVariants.{One as To_one}
use Rattle.iss_sb.specs.Calls.{IsGoodParams}
use Rattle.iss_sb.specs.Evidence.{Item, IsReadBatch, IsReached, IsString, Separate, World, and_then, delivered}
use Rattle.iss_sb.specs.Laws.{IsBroadcast}
use Rattle.iss_sb.proofs.Setups.{good-by}
use Rattle.raft_wire.specs.declared.entries.Entry.{Entry}
use Rattle.raft_wire.specs.declared.messages.Message.{Message}
use Rattle.raft_wire.specs.declared.messages.Message.TheVariants.{Append, AskVote, Reply, Vote}
use Rattle.hs_views.proofs.SmallWorlds.{one-takes, starts, two-takes, world, zero-takes}
use Rattle.sb_chained.specs.Variants.{IsNotSafe}
use Rattle.sb_chained.proofs.Examples.LooseCommits.{batch-no-nil}
use Rattle.sb_raft.specs.Logs.{entry}
use Rattle.sb_chained.proofs.Examples.Runs.{b, node, setup as chained_setup, slot}
use Rattle.counterexamples.specs.Raft.{counting_older_terms as loose}

-- three nodes, of which one may stop; node 0 leads slot 0
abbrev setup : Setup
setup = record chained_setup { «module» = 2; faulty = []; n = 3; quorum = 2; kind = Stopping }

abbrev p : Params
p = record { setup = setup; epoch = record { 0 = 2 }; leader = node 0; slots = slot 0 ∷ []; directory = directory_of 3 1 4 }

abbrev tell : ℕ → Message → Input Message
tell k msg = Receive (node k) msg

abbrev e1 : Entry
e1 = entry 1 (Holds b)

good : IsGoodParams loose p
good = record {
  setup = good-by setup refl;
  kind = refl;
  nodes = refl;
  majority = refl;
  leader = omega arith;
  some = omega arith;
  few = omega arith;
  ascending = (omega arith, tt);
  slots_low = (omega arith, tt);
  directory = refl;
}

-- ---- What the nodes take, by their numbers

abbrev Items : Type 0
Items = List (Item Message)

abbrev took : ℕ → Items → Input Message → Items
took me xs input = and_then loose p me xs input 0

-- what node 1 appends in term 2
abbrev mark : Entry
mark = entry 2 Mark

abbrev nil : Entry
nil = entry 2 Nil

abbrev zero1 : Items
zero1 = took 0 [] (Cast (slot 0) b)

abbrev zero2 : Items
zero2 = took 0 zero1 (tell 1 (AskVote 2 0 0))

abbrev zero3 : Items
zero3 = took 0 zero2 Timeout

abbrev zero4 : Items
zero4 = took 0 zero3 (tell 2 (Vote 3 true))

abbrev zero5 : Items
zero5 = took 0 zero4 (tell 2 (Reply 3 false 1))

abbrev zero6 : Items
zero6 = took 0 zero5 (tell 2 (Reply 3 true 1))

abbrev one1 : Items
one1 = took 1 [] Timeout

abbrev one2 : Items
one2 = took 1 one1 (tell 2 (Vote 2 true))

abbrev one3 : Items
one3 = took 1 one2 Timeout

abbrev one4 : Items
one4 = took 1 one3 (tell 0 (AskVote 3 1 1))

abbrev one5 : Items
one5 = took 1 one4 Timeout

abbrev one6 : Items
one6 = took 1 one5 (tell 2 (Vote 4 true))

abbrev one7 : Items
one7 = took 1 one6 (tell 2 (Reply 4 false 2))

abbrev one8 : Items
one8 = took 1 one7 (tell 2 (Reply 4 false 1))

abbrev one9 : Items
one9 = took 1 one8 (tell 2 (Reply 4 true 2))

abbrev two1 : Items
two1 = took 2 [] (tell 1 (AskVote 2 0 0))

abbrev two2 : Items
two2 = took 2 two1 (tell 0 (AskVote 3 1 1))

abbrev two3 : Items
two3 = took 2 two2 (tell 0 (Append 3 1 1 0 []))

abbrev two4 : Items
two4 = took 2 two3 (tell 0 (Append 3 0 0 0 (e1 ∷ [])))

abbrev two5 : Items
two5 = took 2 two4 (tell 1 (AskVote 4 2 2))

abbrev two6 : Items
two6 = took 2 two5 (tell 1 (Append 4 2 2 0 []))

abbrev two7 : Items
two7 = took 2 two6 (tell 1 (Append 4 1 2 0 (nil ∷ [])))

abbrev two8 : Items
two8 = took 2 two7 (tell 1 (Append 4 0 0 0 (mark ∷ nil ∷ [])))

delivers-batch : delivered loose p 0 zero6 0 ≡ Some (Value_batch b)
delivers-batch = refl

delivers-nil : delivered loose p 1 one9 0 ≡ Some Value_nil
delivers-nil = refl

-- ---- The run

batch-read : IsReadBatch p b
unfolding parse_value parse_rest parse_batch parse_count count_field spell_value spell_batch spell_count ◌>>=◌ such_that byte times done
batch-read rest = refl

abbrev Reaches : Items → Items → Items → Type 0
Reaches xs ys zs = IsReached loose p (world xs ys zs)

r1 : Reaches zero1 [] []
r1 = starts loose p refl (Cast (slot 0) b) 0 (refl, batch-read)

r2 : Reaches zero1 one1 []
r2 = one-takes loose p zero1 [] [] r1 Timeout 0 refl tt

r3 : Reaches zero1 one1 two1
r3 = two-takes loose p zero1 one1 [] r2 (tell 1 (AskVote 2 0 0)) 0 refl (record { item = _; taken = inl refl; to = To_one (node 2); reaches = refl; sent = inr (inl refl) })

r4 : Reaches zero1 one2 two1
r4 = one-takes loose p zero1 one1 two1 r3 (tell 2 (Vote 2 true)) 0 refl (record { item = _; taken = inl refl; to = To_one (node 1); reaches = refl; sent = inl refl })

r5 : Reaches zero1 one3 two1
r5 = one-takes loose p zero1 one2 two1 r4 Timeout 0 refl tt

r6 : Reaches zero2 one3 two1
r6 = zero-takes loose p zero1 one3 two1 r5 (tell 1 (AskVote 2 0 0)) 0 refl (record { item = _; taken = inr (inr (inl refl)); to = To_one (node 0); reaches = refl; sent = inl refl })

r7 : Reaches zero3 one3 two1
r7 = zero-takes loose p zero2 one3 two1 r6 Timeout 0 refl tt

r8 : Reaches zero3 one3 two2
r8 = two-takes loose p zero3 one3 two1 r7 (tell 0 (AskVote 3 1 1)) 0 refl (record { item = _; taken = inl refl; to = To_one (node 2); reaches = refl; sent = inr (inl refl) })

r9 : Reaches zero4 one3 two2
r9 = zero-takes loose p zero3 one3 two2 r8 (tell 2 (Vote 3 true)) 0 refl (record { item = _; taken = inl refl; to = To_one (node 0); reaches = refl; sent = inl refl })

r10 : Reaches zero4 one3 two3
r10 = two-takes loose p zero4 one3 two2 r9 (tell 0 (Append 3 1 1 0 [])) 0 refl (record { item = _; taken = inl refl; to = To_one (node 2); reaches = refl; sent = inr (inl refl) })

r11 : Reaches zero5 one3 two3
r11 = zero-takes loose p zero4 one3 two3 r10 (tell 2 (Reply 3 false 1)) 0 refl (record { item = _; taken = inl refl; to = To_one (node 0); reaches = refl; sent = inl refl })

r12 : Reaches zero5 one3 two4
r12 = two-takes loose p zero5 one3 two3 r11 (tell 0 (Append 3 0 0 0 (e1 ∷ []))) 0 refl (record { item = _; taken = inl refl; to = To_one (node 2); reaches = refl; sent = inl refl })

r13 : Reaches zero6 one3 two4
r13 = zero-takes loose p zero5 one3 two4 r12 (tell 2 (Reply 3 true 1)) 0 refl (record { item = _; taken = inl refl; to = To_one (node 0); reaches = refl; sent = inl refl })

r14 : Reaches zero6 one4 two4
r14 = one-takes loose p zero6 one3 two4 r13 (tell 0 (AskVote 3 1 1)) 0 refl (record { item = _; taken = inr (inr (inr (inl refl))); to = To_one (node 1); reaches = refl; sent = inl refl })

r15 : Reaches zero6 one5 two4
r15 = one-takes loose p zero6 one4 two4 r14 Timeout 0 refl tt

r16 : Reaches zero6 one5 two5
r16 = two-takes loose p zero6 one5 two4 r15 (tell 1 (AskVote 4 2 2)) 0 refl (record { item = _; taken = inl refl; to = To_one (node 2); reaches = refl; sent = inr (inl refl) })

r17 : Reaches zero6 one6 two5
r17 = one-takes loose p zero6 one5 two5 r16 (tell 2 (Vote 4 true)) 0 refl (record { item = _; taken = inl refl; to = To_one (node 1); reaches = refl; sent = inl refl })

r18 : Reaches zero6 one6 two6
r18 = two-takes loose p zero6 one6 two5 r17 (tell 1 (Append 4 2 2 0 [])) 0 refl (record { item = _; taken = inl refl; to = To_one (node 2); reaches = refl; sent = inr (inl refl) })

r19 : Reaches zero6 one7 two6
r19 = one-takes loose p zero6 one6 two6 r18 (tell 2 (Reply 4 false 2)) 0 refl (record { item = _; taken = inl refl; to = To_one (node 1); reaches = refl; sent = inl refl })

r20 : Reaches zero6 one7 two7
r20 = two-takes loose p zero6 one7 two6 r19 (tell 1 (Append 4 1 2 0 (nil ∷ []))) 0 refl (record { item = _; taken = inl refl; to = To_one (node 2); reaches = refl; sent = inl refl })

r21 : Reaches zero6 one8 two7
r21 = one-takes loose p zero6 one7 two7 r20 (tell 2 (Reply 4 false 1)) 0 refl (record { item = _; taken = inl refl; to = To_one (node 1); reaches = refl; sent = inl refl })

r22 : Reaches zero6 one8 two8
r22 = two-takes loose p zero6 one8 two7 r21 (tell 1 (Append 4 0 0 0 (mark ∷ nil ∷ []))) 0 refl (record { item = _; taken = inl refl; to = To_one (node 2); reaches = refl; sent = inl refl })

abbrev last : World Message
last = world zero6 one9 two8

reached : IsReached loose p last
reached = one-takes loose p zero6 one8 two8 r22 (tell 2 (Reply 4 true 2)) 0 refl (record { item = _; taken = inl refl; to = To_one (node 1); reaches = refl; sent = inl refl })

-- ---- Nothing is hashed, so the empty string is the only one

abbrev AreBare : Items → Type 0
AreBare [] = Unit {0}
AreBare (x ∷ xs) = (x.made.strings ≡ []) × AreBare xs

bare-of : (xs : Items) (x : Item Message) (s : List ℕ) → AreBare xs → In x xs → In s x.made.strings → s ≡ []
bare-of [] x s bare i k = absurd i
bare-of (y ∷ xs) x s bare (inl q) k = absurd (subst (λ (z : List (List ℕ)). In s z) (ap (λ (z : Item Message). z.made.strings) q ∙ bare.0) k)
bare-of (y ∷ xs) x s bare (inr i) k = bare-of xs x s bare.1 i k

empty : (s : List ℕ) → IsString last s → s ≡ []
empty s (inl q) = q
empty s (inr h) = go (eqb h.node 0) (eqb h.node 1) (eqb h.node 2) h.taken
  where
    go : (t u v : Bool) → In h.item (cond t zero6 (cond u one9 (cond v two8 []))) → s ≡ []
    go true u v k = bare-of zero6 h.item s (refl, (refl, (refl, (refl, (refl, (refl, tt)))))) k h.hashed
    go false true v k = bare-of one9 h.item s (refl, (refl, (refl, (refl, (refl, (refl, (refl, (refl, (refl, tt))))))))) k h.hashed
    go false false true k = bare-of two8 h.item s (refl, (refl, (refl, (refl, (refl, (refl, (refl, (refl, tt)))))))) k h.hashed
    go false false false k = absurd k

separate : Separate (IsString last)
separate x y h k e = empty x h ∙ sym (empty y k)

-- ---- Two correct nodes differ

no-broadcast : IsBroadcast loose p last → ⊥
no-broadcast h = batch-no-nil (h.agreement 0 1 0 (Value_batch b) Value_nil refl refl delivers-batch delivers-nil)

pub not-safe : IsNotSafe loose
not-safe = record { params = p; world = last; good = good; reached = reached; separate = separate; broken = no-broadcast }
