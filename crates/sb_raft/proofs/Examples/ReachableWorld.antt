-- The premises of the laws and facts can be met, also behind a later term: a reachable world in which node 0 commits and
-- delivers in term 1, and then node 1 is elected in term 2, repairs the log of node 2, and commits the rest.
use Rattle.std.proofs.Common.{◌≡◌, ℕ, sym, ap, subst, ◌∙◌, inr, Bool, true, false, cond, eqb, List, [], ◌∷◌, take, Some, refl, inl, arith}
use Rattle.iss_base.specs.Lists.{In}
use Rattle.iss_base.proofs.Lists.{eqb-other}
use Rattle.iss_request.specs.Formats.{count_field, parse_batch, parse_count, parse_rest, parse_value, spell_batch, spell_count, spell_value}
use Rattle.iss_request.specs.Parsing.{◌>>=◌, byte, done, such_that, times}
use Rattle.iss_sb.specs.declared.effects.Params.{Params}
use Rattle.iss_request.specs.Setup.{IsGoodSetup}
use Rattle.iss_request.specs.declared.requests.Value.TheVariants.{Batch as Value_batch, Nil as Value_nil}
use Rattle.iss_sb.specs.declared.effects.Input.{Input}
use Rattle.iss_sb.specs.declared.effects.Input.TheVariants.{Cast, Receive, Timeout}
use Rattle.iss_sb.specs.declared.effects.To.TheVariants.{One as To_one}
use Rattle.iss_sb.specs.Calls.{IsGoodParams}
use Rattle.iss_sb.specs.Evidence.{Item, World, IsReadBatch, IsReached, IsString, MayCome, Move, Separate, after, and_then, at_start, delivered, empty_world}
use Rattle.iss_sb.specs.Laws.{IsBroadcast}
use Rattle.iss_sb.proofs.Setups.{good-by}
use Rattle.raft_wire.specs.declared.messages.Message.{Message}
use Rattle.raft_wire.specs.declared.messages.Message.TheVariants.{Append, AskVote, Reply, Vote}
use Rattle.iss_sb.specs.declared.content.Content.TheVariants.{Nil, Mark}
use Rattle.raft_wire.specs.declared.entries.Entry.{Entry}
use Rattle.sb_raft.specs.Facts.{Leads}
use Rattle.sb_raft.specs.Logs.{entry}
use Rattle.sb_raft.specs.Raft.{commit, raft, raft_log, state}
use Rattle.sb_raft.proofs.Examples.Runs.{b, cast, committed, copied, e1, led, log2, node, p, refused, setup, slot, stood, take_in, tell}
use Rattle.sb_raft.proofs.Safety.FactsOfWorlds.{commits-kept}
use Rattle.sb_raft.proofs.Safety.WorldsAreBroadcasts.{raft-safe}

good-setup : IsGoodSetup setup
good-setup = good-by setup refl

good : IsGoodParams raft p
good = record {
  setup = good-setup;
  kind = refl;
  nodes = refl;
  majority = refl;
  leader = omega arith;
  some = omega arith;
  few = omega arith;
  ascending = (omega arith, (omega arith, tt));
  slots_low = (omega arith, (omega arith, tt));
  directory = refl;
}

-- ---- Worlds of three nodes

abbrev Items : Type 0
Items = List (Item Message)

abbrev world : Items → Items → Items → World Message
world xs ys zs i = cond (eqb i 0) xs (cond (eqb i 1) ys (cond (eqb i 2) zs []))

move-zero : (xs ys zs : Items) (input : Input Message) → MayCome raft p (world xs ys zs) 0 input → Move raft p (world xs ys zs) (world (and_then raft p 0 xs input 0) ys zs)
move-zero xs ys zs input may = record { node = 0; correct = refl; input = input; may = may; leaf = 0; takes = refl; others = λ i ne. rw (eqb-other i 0 ne) refl }

move-one : (xs ys zs : Items) (input : Input Message) → MayCome raft p (world xs ys zs) 1 input → Move raft p (world xs ys zs) (world xs (and_then raft p 1 ys input 0) zs)
move-one xs ys zs input may = record { node = 1; correct = refl; input = input; may = may; leaf = 0; takes = refl; others = λ i ne. rw (eqb-other i 1 ne) refl }

move-two : (xs ys zs : Items) (input : Input Message) → MayCome raft p (world xs ys zs) 2 input → Move raft p (world xs ys zs) (world xs ys (and_then raft p 2 zs input 0))
move-two xs ys zs input may = record { node = 2; correct = refl; input = input; may = may; leaf = 0; takes = refl; others = λ i ne. rw (eqb-other i 2 ne) refl }

first-move : (input : Input Message) → MayCome raft p empty_world 0 input → Move raft p empty_world (world (and_then raft p 0 [] input 0) [] [])
first-move input may = record { node = 0; correct = refl; input = input; may = may; leaf = 0; takes = refl; others = λ i ne. rw (eqb-other i 0 ne) (none (eqb i 1) (eqb i 2)) }
  where
    none : (t u : Bool) → ◌≡◌ {A = Items} (cond t [] (cond u [] [])) []
    none true u = refl
    none false true = refl
    none false false = refl

-- ---- Term 1: node 0 takes a cast, node 1 its Append, and node 0 the reply

batch-read : IsReadBatch p b
unfolding parse_value parse_rest parse_batch parse_count count_field spell_value spell_batch spell_count ◌>>=◌ such_that byte times done
batch-read rest = refl

in-term-one : IsReached raft p (world committed copied [])
in-term-one =
    let r1 : IsReached raft p (world cast [] []) = after at_start (first-move (Cast (slot 0) b) (refl, batch-read)) in
    let r2 : IsReached raft p (world cast copied []) = after r1 (move-one cast [] [] (Receive (node 0) (Append 1 0 0 0 (e1 ∷ []))) (record { item = _; taken = inl refl; to = To_one (node 1); reaches = refl; sent = inl refl })) in
    after r2 (move-zero cast copied [] (Receive (node 1) (Reply 1 true 1)) (record { item = _; taken = inl refl; to = To_one (node 0); reaches = refl; sent = inl refl }))

-- ---- Term 2: node 1 times out and leads by the vote of node 2, which lacks the entry, refuses, and gets the whole log

abbrev rest : List Entry
rest = entry 2 Mark ∷ entry 2 Nil ∷ []

abbrev voted : Items
voted = take_in 2 [] (tell 1 (AskVote 2 1 1))

abbrev lacks : Items
lacks = take_in 2 voted (tell 1 (Append 2 1 1 0 rest))

abbrev repaired : Items
repaired = take_in 2 lacks (tell 1 (Append 2 0 0 0 log2))

abbrev finished : Items
finished = take_in 1 refused (tell 2 (Reply 2 true 3))

abbrev last : World Message
last = world committed finished repaired

reached : IsReached raft p last
reached =
    let r1 : IsReached raft p (world committed stood []) = after in-term-one (move-one committed copied [] Timeout tt) in
    let r2 : IsReached raft p (world committed stood voted) = after r1 (move-two committed stood [] (Receive (node 1) (AskVote 2 1 1)) (record { item = _; taken = inl refl; to = To_one (node 2); reaches = refl; sent = inr (inl refl) })) in
    let r3 : IsReached raft p (world committed led voted) = after r2 (move-one committed stood voted (Receive (node 2) (Vote 2 true)) (record { item = _; taken = inl refl; to = To_one (node 1); reaches = refl; sent = inl refl })) in
    let r4 : IsReached raft p (world committed led lacks) = after r3 (move-two committed led voted (Receive (node 1) (Append 2 1 1 0 rest)) (record { item = _; taken = inl refl; to = To_one (node 2); reaches = refl; sent = inr (inl refl) })) in
    let r5 : IsReached raft p (world committed refused lacks) = after r4 (move-one committed led lacks (Receive (node 2) (Reply 2 false 1)) (record { item = _; taken = inl refl; to = To_one (node 1); reaches = refl; sent = inl refl })) in
    let r6 : IsReached raft p (world committed refused repaired) = after r5 (move-two committed refused lacks (Receive (node 1) (Append 2 0 0 0 log2)) (record { item = _; taken = inl refl; to = To_one (node 2); reaches = refl; sent = inl refl })) in
    after r6 (move-one committed refused repaired (Receive (node 2) (Reply 2 true 3)) (record { item = _; taken = inl refl; to = To_one (node 1); reaches = refl; sent = inl refl }))

-- ---- Nothing is hashed, so the empty string is the only one

abbrev AreBare : Items → Type 0
AreBare [] = Unit {0}
AreBare (x ∷ xs) = (x.made.strings ≡ []) × AreBare xs

separate : Separate (IsString last)
separate a b h k e = empty a h ∙ sym (empty b k)
  where
    none : (xs : Items) (x : Item Message) (s : List ℕ) → AreBare xs → In x xs → In s x.made.strings → s ≡ []
    none [] x s bare i k = absurd i
    none (y ∷ xs) x s bare (inl q) k = absurd (subst (λ (z : List (List ℕ)). In s z) (ap (λ (z : Item Message). z.made.strings) q ∙ bare.0) k)
    none (y ∷ xs) x s bare (inr i) k = none xs x s bare.1 i k

    hashed : (x : Item Message) (s : List ℕ) → (t u v : Bool) → In x (cond t committed (cond u finished (cond v repaired []))) → In s x.made.strings → s ≡ []
    hashed x s true u v h k = none committed x s (refl, (refl, tt)) h k
    hashed x s false true v h k = none finished x s (refl, (refl, (refl, (refl, (refl, tt))))) h k
    hashed x s false false true h k = none repaired x s (refl, (refl, (refl, tt))) h k
    hashed x s false false false h k = absurd h

    empty : (s : List ℕ) → IsString last s → s ≡ []
    empty s (inl q) = q
    empty s (inr h) = hashed h.item s (eqb h.node 0) (eqb h.node 1) (eqb h.node 2) h.taken h.hashed

-- ---- What the example shows

-- the premises of the laws and of leader completeness are met, behind an entry that was committed in an earlier term
record ArePremisesMet : Type 0 where
  params : Params
  world_of : World Message
  are_good : IsGoodParams raft params
  is_reached : IsReached raft params world_of
  are_separate : Separate (IsString world_of)
  committed_it : commit params 0 (world_of 0) ≡ 1
  in_term : (state params 0 (world_of 0)).term ≡ 1
  was_delivered : delivered raft params 0 (world_of 0) 0 ≡ Some (Value_batch b)
  leads_later : Leads params world_of 1 led 2
  delivered_later : delivered raft params 1 (world_of 1) 0 ≡ Some (Value_batch b)
  filled_later : delivered raft params 1 (world_of 1) 3 ≡ Some Value_nil

leads : Leads p last 1 led 2
leads = record { moment = inr (inr (inl refl)); leads = refl; term = refl }

premises-met : ArePremisesMet
premises-met = record {
  params = p;
  world_of = last;
  are_good = good;
  is_reached = reached;
  are_separate = separate;
  committed_it = refl;
  in_term = refl;
  was_delivered = refl;
  leads_later = leads;
  delivered_later = refl;
  filled_later = refl;
}

-- hence the leader of term 2 has the entry that was committed in term 1, and this world is a broadcast
its-entry : take 1 (raft_log p 0 committed) ≡ take 1 (raft_log p 1 led)
its-entry = commits-kept p last good reached 0 1 2 committed led (inl refl) leads (omega arith)

its-broadcast : IsBroadcast raft p last
its-broadcast = raft-safe p last good reached separate
