-- Worked examples of HotStuff: four replicas; replica 0 leads the slots 0 and 4.
use Rattle.std.proofs.Common.{◌≡◌, ℕ, List, [], ◌∷◌, Some, None, refl}
use Rattle.std.specs.Prelude.{replicate}
use Rattle.sha2.specs.Sha256.{sha256, digest_bytes, hash_after, compress, rounds, schedule, first_words}
use Rattle.iss_keys.specs.Directories.{directory_of}
use Rattle.iss_request.specs.Formats.{spell_batch, spell_count, spell_value, value_string}
use Rattle.iss_request.specs.declared.ids.NodeId.{NodeId}
use Rattle.iss_request.specs.declared.ids.Slot.{Slot}
use Rattle.iss_request.specs.declared.requests.Batch.{Batch}
use Rattle.iss_request.specs.declared.requests.Value.TheVariants.{Nil as Value_nil, Batch as Value_batch}
use Rattle.iss_request.specs.declared.setups.Kind.TheVariants.{Byzantine}
use Rattle.iss_request.specs.declared.setups.Policy.TheVariants.{Simple}
use Rattle.iss_request.specs.declared.setups.Setup.{Setup}
use Rattle.iss_sb.specs.declared.effects.Input.{Input}
use Rattle.iss_sb.specs.declared.effects.Input.TheVariants.{Cast, Receive, Timeout}
use Rattle.iss_sb.specs.declared.effects.Params.{Params}
use Rattle.iss_sb.specs.declared.effects.To.{To}
use Rattle.iss_sb.specs.declared.effects.To.TheVariants.{All as To_all, One as To_one}
use Rattle.iss_sb.specs.Evidence.{Item, and_then, delivered}
use Rattle.iss_sb.specs.Statements.{signature}
use Rattle.iss_sb.specs.declared.content.Content.TheVariants.{Nil, Holds, Mark}
use Rattle.hs_tree.specs.declared.certificates.Certificate.{Certificate}
use Rattle.hs_tree.specs.declared.certificates.Certificate.TheVariants.{Root, Votes}
use Rattle.iss_sb.specs.declared.signers.Signed.{Signed}
use Rattle.hs_tree.specs.declared.messages.Message.{Message}
use Rattle.hs_tree.specs.declared.messages.Body.{Body}
use Rattle.hs_tree.specs.declared.messages.Body.TheVariants.{NewView, Prepare, PreCommit, Commit, Decide, Vote}
use Rattle.hs_tree.specs.Messages.{signed}
use Rattle.hs_tree.specs.Statements.{stated}
use Rattle.hs_tree.specs.Tree.{basic, plain_string, root}
use Rattle.sb_hotstuff.specs.HotStuff.{asks, hotstuff, makes, state}
use Rattle.sb_hotstuff.specs.Rules.{node_digest}

abbrev pub slot : ℕ → Slot
slot n = record { 0 = n }

abbrev pub node : ℕ → NodeId
node n = record { 0 = n }

-- replica 3 is Byzantine
abbrev pub setup : Setup
setup = record {
  version = 1;
  «module» = 4;
  f = 1;
  epoch = 8;
  buckets = 4;
  batch = 4;
  window = 4;
  policy = Simple;
  clients = 1;
  keys = 4;
  faulty = node 3 ∷ [];
  n = 4;
  quorum = 3;
  kind = Byzantine;
  tag = replicate 32 7;
}

abbrev p : Params
p = record { setup = setup; epoch = record { 0 = 2 }; leader = node 0; slots = slot 0 ∷ slot 4 ∷ []; directory = directory_of 4 1 4 }

-- the empty batch, at slot 0
abbrev pub b : Batch
b = []

abbrev d : List ℕ
d = node_digest p 1 (Holds b) Root

-- a message signed by replica k with this leaf
abbrev by : ℕ → ℕ → Body → Message
by k leaf body = signed body (signature p k leaf (stated basic p body))

abbrev vote : ℕ → Signed
vote k = record { by = node k; sig = k ∷ [] }

-- three votes for it in a phase of turn 1
abbrev shown : ℕ → Certificate
shown phase = Votes 1 phase d (vote 0 ∷ vote 1 ∷ vote 2 ∷ [])

abbrev take_in : ℕ → List (Item Message) → Input Message → ℕ → List (Item Message)
take_in me xs input leaf = and_then hotstuff p me xs input leaf

abbrev hears : ℕ → ℕ → Message → List (Item Message) → List (Item Message)
hears me from msg xs = take_in me xs (Receive (node from) msg) 9

abbrev sends : ℕ → List (Item Message) → Input Message → List (To × Message)
sends me xs input = (makes p me xs input 9).sends

abbrev told : ℕ → Message → Input Message
told from msg = Receive (node from) msg

-- ---- The leader proposes its cast in turn 1; its next leaf is 5

abbrev cast : List (Item Message)
cast = take_in 0 [] (Cast (slot 0) b) 5

casts : makes p 0 [] (Cast (slot 0) b) 5 ≡ record { sends = (To_all, by 0 5 (Prepare 1 (Holds b) Root)) ∷ []; accepted = Some (slot 0, b); strings = value_string 1 (Value_batch b) ∷ plain_string 1 1 root (Holds b) ∷ []; used = 1 }
casts = refl

casts_in_order : asks p 0 cast (Cast (slot 0) b) ≡ None
casts_in_order = refl

casts_none : asks p 1 [] (Cast (slot 0) b) ≡ None
casts_none = refl

-- a second cast waits until the first turn is complete
waits : makes p 0 cast (Cast (slot 4) b) 6 ≡ record { sends = []; accepted = Some (slot 4, b); strings = []; used = 0 }
unfolding sha256 digest_bytes hash_after compress rounds schedule first_words spell_batch spell_count spell_value
waits = refl

-- the leader takes its own proposal, whose batch it accepted already, and votes; the third vote completes the prepareQC
abbrev proposed : List (Item Message)
proposed = hears 0 0 (signed (Prepare 1 (Holds b) Root) []) cast

no_more : asks p 0 cast (told 0 (signed (Prepare 1 (Holds b) Root) [])) ≡ None
unfolding sha256 digest_bytes hash_after compress rounds schedule first_words spell_batch spell_count spell_value
no_more = refl

abbrev two_of : ℕ → List (Item Message) → List (Item Message)
two_of phase xs = hears 0 1 (signed (Vote phase 1 d) (1 ∷ [])) (hears 0 0 (signed (Vote phase 1 d) (0 ∷ [])) xs)

abbrev three_of : ℕ → List (Item Message) → List (Item Message)
three_of phase xs = hears 0 2 (signed (Vote phase 1 d) (2 ∷ [])) (two_of phase xs)

shows_first : sends 0 (two_of 1 proposed) (told 2 (signed (Vote 1 1 d) (2 ∷ []))) ≡ (To_all, by 0 9 (PreCommit 1 (shown 1))) ∷ []
unfolding sha256 digest_bytes hash_after compress rounds schedule first_words spell_batch spell_count spell_value
shows_first = refl

-- a repeated vote and a fourth vote have no effect
not_twice : sends 0 (two_of 1 proposed) (told 1 (signed (Vote 1 1 d) (7 ∷ []))) ≡ []
unfolding sha256 digest_bytes hash_after compress rounds schedule first_words spell_batch spell_count spell_value
not_twice = refl

no_fourth : sends 0 (three_of 1 proposed) (told 3 (signed (Vote 1 1 d) (3 ∷ []))) ≡ []
unfolding sha256 digest_bytes hash_after compress rounds schedule first_words spell_batch spell_count spell_value
no_fourth = refl

shows_second : sends 0 (two_of 2 (three_of 1 proposed)) (told 2 (signed (Vote 2 1 d) (2 ∷ []))) ≡ (To_all, by 0 9 (Commit 1 (shown 2))) ∷ []
unfolding sha256 digest_bytes hash_after compress rounds schedule first_words spell_batch spell_count spell_value
shows_second = refl

-- commit votes may be counted before the prepareQC is complete; the next turn needs both
shows_third_first : sends 0 (two_of 3 proposed) (told 2 (signed (Vote 3 1 d) (2 ∷ []))) ≡ (To_all, by 0 9 (Decide 1 (shown 3))) ∷ []
unfolding sha256 digest_bytes hash_after compress rounds schedule first_words spell_batch spell_count spell_value
shows_third_first = refl

-- if a cast waits, the Decide is sent before the next proposal, whose justification is the prepareQC
abbrev waiting : List (Item Message)
waiting = take_in 0 proposed (Cast (slot 4) b) 6

shows_third : makes p 0 (two_of 3 (three_of 2 (three_of 1 waiting))) (told 2 (signed (Vote 3 1 d) (2 ∷ []))) 9 ≡
    record { sends = (To_all, by 0 9 (Decide 1 (shown 3))) ∷ (To_all, by 0 10 (Prepare 2 (Holds b) (shown 1))) ∷ []; accepted = None; strings = value_string 1 (Value_batch b) ∷ plain_string 1 2 d (Holds b) ∷ []; used = 2 }
unfolding sha256 digest_bytes hash_after compress rounds schedule first_words spell_batch spell_count spell_value
shows_third = refl

-- ---- Another replica takes four messages, casts three votes, and delivers slot 0

abbrev first : List (Item Message)
first = hears 1 0 (signed (Prepare 1 (Holds b) Root) []) []

votes_first : makes p 1 [] (told 0 (signed (Prepare 1 (Holds b) Root) [])) 9 ≡
    record { sends = (To_one (node 0), by 1 9 (Vote 1 1 d)) ∷ []; accepted = Some (slot 0, b); strings = value_string 1 (Value_batch b) ∷ plain_string 1 1 root (Holds b) ∷ []; used = 1 }
unfolding sha256 digest_bytes hash_after compress rounds schedule first_words spell_batch spell_count spell_value
votes_first = refl

-- a second proposal of one view is refused, also for another node
no_second_proposal : sends 1 first (told 0 (signed (Prepare 1 (Holds b) Root) [])) ≡ []
unfolding sha256 digest_bytes hash_after compress rounds schedule first_words spell_batch spell_count spell_value
no_second_proposal = refl

no_leader : sends 1 [] (told 2 (signed (Prepare 1 (Holds b) Root) [])) ≡ []
no_leader = refl

-- nil in round 0 and a proposal in turn 0 are refused
no_nil : sends 1 [] (told 0 (signed (Prepare 1 Nil Root) [])) ≡ []
unfolding sha256 digest_bytes hash_after compress rounds schedule first_words spell_batch spell_count spell_value
no_nil = refl

no_turn : sends 1 [] (told 1 (signed (Prepare 65536 Nil Root) [])) ≡ []
no_turn = refl

abbrev second : List (Item Message)
second = hears 1 0 (signed (PreCommit 1 (shown 1)) []) first

votes_second : sends 1 first (told 0 (signed (PreCommit 1 (shown 1)) [])) ≡ (To_one (node 0), by 1 9 (Vote 2 1 d)) ∷ []
unfolding sha256 digest_bytes hash_after compress rounds schedule first_words spell_batch spell_count spell_value
votes_second = refl

votes_once : sends 1 second (told 0 (signed (PreCommit 1 (shown 1)) [])) ≡ []
unfolding sha256 digest_bytes hash_after compress rounds schedule first_words spell_batch spell_count spell_value
votes_once = refl

-- a certificate with one vote less or more than a quorum is refused
no_quorum : sends 1 first (told 0 (signed (PreCommit 1 (Votes 1 1 d (vote 0 ∷ vote 1 ∷ []))) [])) ≡ []
unfolding sha256 digest_bytes hash_after compress rounds schedule first_words spell_batch spell_count spell_value
no_quorum = refl

no_more_than_a_quorum : sends 1 first (told 0 (signed (PreCommit 1 (Votes 1 1 d (vote 0 ∷ vote 1 ∷ vote 2 ∷ vote 3 ∷ []))) [])) ≡ []
unfolding sha256 digest_bytes hash_after compress rounds schedule first_words spell_batch spell_count spell_value
no_more_than_a_quorum = refl

votes_third : sends 1 second (told 0 (signed (Commit 1 (shown 2)) [])) ≡ (To_one (node 0), by 1 9 (Vote 3 1 d)) ∷ []
unfolding sha256 digest_bytes hash_after compress rounds schedule first_words spell_batch spell_count spell_value
votes_third = refl

abbrev third : List (Item Message)
third = hears 1 0 (signed (Commit 1 (shown 2)) []) second

locks : (state p 1 third).lock ≡ shown 2
unfolding sha256 digest_bytes hash_after compress rounds schedule first_words spell_batch spell_count spell_value
locks = refl

nothing_yet : delivered hotstuff p 1 third 0 ≡ None
unfolding sha256 digest_bytes hash_after compress rounds schedule first_words spell_batch spell_count spell_value
nothing_yet = refl

delivers : delivered hotstuff p 1 (hears 1 0 (signed (Decide 1 (shown 3)) []) third) 0 ≡ Some (Value_batch b)
unfolding sha256 digest_bytes hash_after compress rounds schedule first_words spell_batch spell_count spell_value
delivers = refl

delivers_no_more : delivered hotstuff p 1 (hears 1 0 (signed (Decide 1 (shown 3)) []) third) 4 ≡ None
unfolding sha256 digest_bytes hash_after compress rounds schedule first_words spell_batch spell_count spell_value
delivers_no_more = refl

-- a Decide delivers the whole branch: turn 2 extends turn 1
abbrev d2 : List ℕ
d2 = node_digest p 2 (Holds b) (shown 1)

abbrev shown2 : ℕ → Certificate
shown2 phase = Votes 2 phase d2 (vote 0 ∷ vote 1 ∷ vote 2 ∷ [])

abbrev both : List (Item Message)
both = hears 1 0 (signed (Decide 2 (shown2 3)) []) (hears 1 0 (signed (Prepare 2 (Holds b) (shown 1)) []) first)

delivers_the_branch : (delivered hotstuff p 1 both 0 ≡ Some (Value_batch b)) × (delivered hotstuff p 1 both 4 ≡ Some (Value_batch b))
unfolding sha256 digest_bytes hash_after compress rounds schedule first_words spell_batch spell_count spell_value
delivers_the_branch = (refl, refl)

-- ---- A timeout: replica 1 leads round 1, and proposes nil on the highest certificate of three NewView messages

abbrev ended : List (Item Message)
ended = take_in 1 second Timeout 9

ends : sends 1 second Timeout ≡ (To_one (node 1), by 1 9 (NewView 1 (shown 1))) ∷ []
unfolding sha256 digest_bytes hash_after compress rounds schedule first_words spell_batch spell_count spell_value
ends = refl

abbrev two_news : List (Item Message)
two_news = hears 1 1 (signed (NewView 1 (shown 1)) []) (hears 1 0 (signed (NewView 1 Root) []) ended)

proposes_nil : makes p 1 two_news (told 2 (signed (NewView 1 Root) [])) 9 ≡
    record { sends = (To_all, by 1 9 (Prepare 65537 Nil (shown 1))) ∷ []; accepted = None; strings = value_string 1 Value_nil ∷ plain_string 1 65537 d Nil ∷ []; used = 1 }
unfolding sha256 digest_bytes hash_after compress rounds schedule first_words spell_batch spell_count spell_value
proposes_nil = refl

-- a repeated NewView and one whose certificate is of no lower round are refused
no_word_twice : sends 1 two_news (told 1 (signed (NewView 1 Root) [])) ≡ []
unfolding sha256 digest_bytes hash_after compress rounds schedule first_words spell_batch spell_count spell_value
no_word_twice = refl

no_later_round : sends 1 two_news (told 2 (signed (NewView 1 (Votes 65537 1 d (vote 0 ∷ vote 1 ∷ vote 2 ∷ []))) [])) ≡ []
unfolding sha256 digest_bytes hash_after compress rounds schedule first_words spell_batch spell_count spell_value
no_later_round = refl

-- in round 1 a batch is refused; a locked replica takes a proposal that extends its lock, and no other
no_batch : asks p 1 ended (told 1 (signed (Prepare 65537 (Holds b) (shown 1)) [])) ≡ None
unfolding sha256 digest_bytes hash_after compress rounds schedule first_words spell_batch spell_count spell_value
no_batch = refl

abbrev locked : List (Item Message)
locked = take_in 1 third Timeout 9

not_safe : sends 1 locked (told 1 (signed (Prepare 65537 Nil Root) [])) ≡ []
unfolding sha256 digest_bytes hash_after compress rounds schedule first_words spell_batch spell_count spell_value
not_safe = refl

safe : sends 1 locked (told 1 (signed (Prepare 65537 Nil (shown 1)) [])) ≡ (To_one (node 1), by 1 9 (Vote 1 65537 (node_digest p 65537 Nil (shown 1)))) ∷ []
unfolding sha256 digest_bytes hash_after compress rounds schedule first_words spell_batch spell_count spell_value
safe = refl

-- ---- Marks: where both slots of the branch are filled, a new round's leader proposes a mark, and nothing follows on
-- it

abbrev full : List (Item Message)
full = take_in 1 (hears 1 0 (signed (PreCommit 2 (shown2 1)) []) (hears 1 0 (signed (Prepare 2 (Holds b) (shown 1)) []) first)) Timeout 9

abbrev full_news : List (Item Message)
full_news = hears 1 1 (signed (NewView 1 (shown2 1)) []) (hears 1 0 (signed (NewView 1 (shown2 1)) []) full)

proposes_a_mark : makes p 1 full_news (told 2 (signed (NewView 1 Root) [])) 9 ≡
    record { sends = (To_all, by 1 9 (Prepare 65537 Mark (shown2 1))) ∷ []; accepted = None; strings = plain_string 1 65537 d2 Mark ∷ []; used = 1 }
unfolding sha256 digest_bytes hash_after compress rounds schedule first_words spell_batch spell_count spell_value
proposes_a_mark = refl

-- nil on a full branch is refused, and so is a mark on one that is not full
no_nil_on_full : sends 1 full (told 1 (signed (Prepare 65537 Nil (shown2 1)) [])) ≡ []
unfolding sha256 digest_bytes hash_after compress rounds schedule first_words spell_batch spell_count spell_value
no_nil_on_full = refl

no_early_mark : sends 1 ended (told 1 (signed (Prepare 65537 Mark (shown 1)) [])) ≡ []
unfolding sha256 digest_bytes hash_after compress rounds schedule first_words spell_batch spell_count spell_value
no_early_mark = refl

takes_a_mark : sends 1 full (told 1 (signed (Prepare 65537 Mark (shown2 1)) [])) ≡ (To_one (node 1), by 1 9 (Vote 1 65537 (node_digest p 65537 Mark (shown2 1)))) ∷ []
unfolding sha256 digest_bytes hash_after compress rounds schedule first_words spell_batch spell_count spell_value
takes_a_mark = refl

-- the mark's Decide delivers the branch below it
abbrev d3 : List ℕ
d3 = node_digest p 65537 Mark (shown2 1)

abbrev marked : List (Item Message)
marked = hears 1 1 (signed (Decide 65537 (Votes 65537 3 d3 (vote 0 ∷ vote 1 ∷ vote 2 ∷ []))) []) (hears 1 1 (signed (Prepare 65537 Mark (shown2 1)) []) full)

delivers_below_a_mark : delivered hotstuff p 1 marked 4 ≡ Some (Value_batch b)
unfolding sha256 digest_bytes hash_after compress rounds schedule first_words spell_batch spell_count spell_value
delivers_below_a_mark = refl
