-- Chained HotStuff on worked examples: four nodes, of which node 0 leads the slots 0 and 4.
use Rattle.std.proofs.Common.{◌≡◌, ℕ, List, [], ◌∷◌, Some, None, refl}
use Rattle.std.specs.Prelude.{replicate}
use Rattle.sha2.specs.Sha256.{sha256, digest_bytes, hash_after, compress, rounds, schedule, first_words}
use Rattle.iss_keys.specs.Directories.{directory_of}
use Rattle.iss_request.specs.Formats.{spell_batch, spell_count, spell_value, value_string}
use Rattle.iss_request.specs.declared.ids.NodeId.{NodeId}
use Rattle.iss_request.specs.declared.ids.Slot.{Slot}
use Rattle.iss_request.specs.declared.requests.Batch.{Batch}
use Rattle.iss_request.specs.declared.requests.Value.TheVariants.{Batch as Value_batch}
use Rattle.iss_request.specs.declared.setups.Kind.TheVariants.{Byzantine}
use Rattle.iss_request.specs.declared.setups.Policy.TheVariants.{Simple}
use Rattle.iss_request.specs.declared.setups.Setup.{Setup}
use Rattle.iss_sb.specs.declared.effects.Input.{Input}
use Rattle.iss_sb.specs.declared.effects.Input.TheVariants.{Cast, Receive, Timeout}
use Rattle.iss_sb.specs.declared.effects.Params.{Params}
use Rattle.iss_sb.specs.declared.effects.To.{To}
use Rattle.iss_sb.specs.declared.effects.To.TheVariants.{All as To_all, One as To_one}
use Rattle.iss_sb.specs.Evidence.{Item, and_then, delivered}
use Rattle.iss_sb.specs.Statements.{signature, wide_bytes}
use Rattle.iss_sb.specs.declared.content.Content.TheVariants.{Nil, Holds, Mark}
use Rattle.hs_tree.specs.declared.certificates.Certificate.{Certificate}
use Rattle.hs_tree.specs.declared.certificates.Certificate.TheVariants.{Root, Votes}
use Rattle.iss_sb.specs.declared.signers.Signed.{Signed}
use Rattle.hs_tree.specs.declared.messages.Message.{Message}
use Rattle.hs_tree.specs.declared.messages.Body.{Body}
use Rattle.hs_tree.specs.declared.messages.Body.TheVariants.{NewView, Prepare, Vote}
use Rattle.hs_tree.specs.Messages.{signed}
use Rattle.hs_tree.specs.Statements.{stated}
use Rattle.hs_tree.specs.Tree.{chained as form, root, viewed_string}
use Rattle.sb_chained.specs.Chained.{asks, chained, makes, state}
use Rattle.sb_chained.specs.Rules.{node_digest}

abbrev pub slot : ℕ → Slot
slot n = record { 0 = n }

abbrev pub node : ℕ → NodeId
node n = record { 0 = n }

-- replica 3 is Byzantine
abbrev pub setup : Setup
setup = record {
  version = 1;
  «module» = 5;
  f = 1;
  epoch = 8;
  buckets = 4;
  batch = 4;
  window = 4;
  policy = Simple;
  clients = 1;
  keys = 4;
  faulty = node 3 ∷ [];
  n = 4;
  quorum = 3;
  kind = Byzantine;
  tag = replicate 32 7;
}

abbrev p : Params
p = record { setup = setup; epoch = record { 0 = 2 }; leader = node 0; slots = slot 0 ∷ slot 4 ∷ []; directory = directory_of 4 1 4 }

-- the empty batch, at slot 0
abbrev pub b : Batch
b = []

-- a message with the signature of node k by a leaf
abbrev by : ℕ → ℕ → Body → Message
by k leaf body = signed body (signature p k leaf (stated form p body))

abbrev vote : ℕ → Signed
vote k = record { by = node k; sig = k ∷ [] }

-- the nodes of the first turns, each on the certificate of the one before: both slots' batches, then marks
abbrev three : ℕ → List ℕ → Certificate
three view d = Votes view 1 d (vote 0 ∷ vote 1 ∷ vote 2 ∷ [])

abbrev d1 : List ℕ
d1 = node_digest p 1 (Holds b) Root

abbrev c1 : Certificate
c1 = three 1 d1

abbrev d2 : List ℕ
d2 = node_digest p 2 (Holds b) c1

abbrev c2 : Certificate
c2 = three 2 d2

abbrev d3 : List ℕ
d3 = node_digest p 3 Mark c2

abbrev c3 : Certificate
c3 = three 3 d3

abbrev d4 : List ℕ
d4 = node_digest p 4 Mark c3

abbrev c4 : Certificate
c4 = three 4 d4

abbrev take_in : ℕ → List (Item Message) → Input Message → ℕ → List (Item Message)
take_in me xs input leaf = and_then chained p me xs input leaf

abbrev hears : ℕ → ℕ → Message → List (Item Message) → List (Item Message)
hears me from msg xs = take_in me xs (Receive (node from) msg) 9

abbrev sends : ℕ → List (Item Message) → Input Message → List (To × Message)
sends me xs input = (makes p me xs input 9).sends

abbrev told : ℕ → Message → Input Message
told from msg = Receive (node from) msg

-- ---- the leader: its cast is proposed in turn 1, with leaf 5 as its next; the second waits for the first turn's certificate

abbrev cast : List (Item Message)
cast = take_in 0 (take_in 0 [] (Cast (slot 0) b) 5) (Cast (slot 4) b) 6

casts : makes p 0 [] (Cast (slot 0) b) 5 ≡ record { sends = (To_all, by 0 5 (Prepare 1 (Holds b) Root)) ∷ []; accepted = Some (slot 0, b); strings = value_string 1 (Value_batch b) ∷ viewed_string 1 1 root (Holds b) ∷ []; used = 1 }
casts = refl

casts_in_order : asks p 0 (take_in 0 [] (Cast (slot 0) b) 5) (Cast (slot 0) b) ≡ None
casts_in_order = refl

-- it votes for its own proposal
votes_for_itself : makes p 0 cast (told 0 (signed (Prepare 1 (Holds b) Root) [])) 9 ≡ record { sends = (To_one (node 0), by 0 9 (Vote 1 1 d1)) ∷ []; accepted = None; strings = value_string 1 (Value_batch b) ∷ viewed_string 1 1 root (Holds b) ∷ []; used = 1 }
unfolding sha256 digest_bytes hash_after compress rounds schedule first_words spell_batch spell_count spell_value wide_bytes
votes_for_itself = refl

abbrev votes_of : ℕ → List ℕ → List (Item Message) → List (Item Message)
votes_of view d xs = hears 0 1 (signed (Vote 1 view d) (1 ∷ [])) (hears 0 0 (signed (Vote 1 view d) (0 ∷ [])) xs)

proposes_next : makes p 0 (votes_of 1 d1 cast) (told 2 (signed (Vote 1 1 d1) (2 ∷ []))) 9 ≡
    record { sends = (To_all, by 0 9 (Prepare 2 (Holds b) c1)) ∷ []; accepted = None; strings = value_string 1 (Value_batch b) ∷ viewed_string 1 2 d1 (Holds b) ∷ []; used = 1 }
unfolding sha256 digest_bytes hash_after compress rounds schedule first_words spell_batch spell_count spell_value wide_bytes
proposes_next = refl

-- the same node's vote once more makes no quorum
not_twice : sends 0 (votes_of 1 d1 cast) (told 1 (signed (Vote 1 1 d1) (7 ∷ []))) ≡ []
unfolding sha256 digest_bytes hash_after compress rounds schedule first_words spell_batch spell_count spell_value wide_bytes
not_twice = refl

abbrev second : List (Item Message)
second = hears 0 2 (signed (Vote 1 1 d1) (2 ∷ [])) (votes_of 1 d1 cast)

-- both slots are filled: marks follow
proposes_a_mark : makes p 0 (votes_of 2 d2 second) (told 2 (signed (Vote 1 2 d2) (2 ∷ []))) 9 ≡
    record { sends = (To_all, by 0 9 (Prepare 3 Mark c2)) ∷ []; accepted = None; strings = viewed_string 1 3 d2 Mark ∷ []; used = 1 }
unfolding sha256 digest_bytes hash_after compress rounds schedule first_words spell_batch spell_count spell_value wide_bytes
proposes_a_mark = refl

-- ---- another node: four proposals, four votes, and slot 0 is delivered with the third certificate

abbrev first : List (Item Message)
first = hears 1 0 (signed (Prepare 1 (Holds b) Root) []) []

abbrev two : List (Item Message)
two = hears 1 0 (signed (Prepare 2 (Holds b) c1) []) first

abbrev full : List (Item Message)
full = hears 1 0 (signed (Prepare 3 Mark c2) []) two

abbrev last : List (Item Message)
last = hears 1 0 (signed (Prepare 4 Mark c3) []) full

votes_first : makes p 1 [] (told 0 (signed (Prepare 1 (Holds b) Root) [])) 9 ≡
    record { sends = (To_one (node 0), by 1 9 (Vote 1 1 d1)) ∷ []; accepted = Some (slot 0, b); strings = value_string 1 (Value_batch b) ∷ viewed_string 1 1 root (Holds b) ∷ []; used = 1 }
unfolding sha256 digest_bytes hash_after compress rounds schedule first_words spell_batch spell_count spell_value wide_bytes
votes_first = refl

-- neither a second proposal of the view nor one that is not its leader's gets a vote
no_vote : (sends 1 first (told 0 (signed (Prepare 1 (Holds b) Root) [])) ≡ []) × (sends 1 [] (told 2 (signed (Prepare 1 (Holds b) Root) [])) ≡ [])
unfolding sha256 digest_bytes hash_after compress rounds schedule first_words spell_batch spell_count spell_value wide_bytes
no_vote = (refl, refl)

-- one vote short is no certificate
no_quorum : sends 1 first (told 0 (signed (Prepare 2 (Holds b) (Votes 1 1 d1 (vote 0 ∷ vote 1 ∷ []))) [])) ≡ []
unfolding sha256 digest_bytes hash_after compress rounds schedule first_words spell_batch spell_count spell_value wide_bytes
no_quorum = refl

keeps : ((state p 1 two).high ≡ c1) × ((state p 1 two).lock ≡ record { view = 0; node = root })
unfolding sha256 digest_bytes hash_after compress rounds schedule first_words spell_batch spell_count spell_value wide_bytes
keeps = (refl, refl)

-- with the second certificate the node below is locked
locks : ((state p 1 full).high ≡ c2) × ((state p 1 full).lock ≡ record { view = 1; node = d1 })
unfolding sha256 digest_bytes hash_after compress rounds schedule first_words spell_batch spell_count spell_value wide_bytes
locks = (refl, refl)

nothing_yet : delivered chained p 1 full 0 ≡ None
unfolding sha256 digest_bytes hash_after compress rounds schedule first_words spell_batch spell_count spell_value wide_bytes
nothing_yet = refl

delivers : (delivered chained p 1 last 0 ≡ Some (Value_batch b)) × (delivered chained p 1 last 4 ≡ None)
unfolding sha256 digest_bytes hash_after compress rounds schedule first_words spell_batch spell_count spell_value wide_bytes
delivers = (refl, refl)

-- the next certificate delivers the whole branch
delivers_the_branch : delivered chained p 1 (hears 1 0 (signed (Prepare 5 Mark c4) []) last) 4 ≡ Some (Value_batch b)
unfolding sha256 digest_bytes hash_after compress rounds schedule first_words spell_batch spell_count spell_value wide_bytes
delivers_the_branch = refl

-- ---- a round ends: node 1 leads round 1. A proposal of the round before is not taken, but its certificate counts

abbrev ended : List (Item Message)
ended = take_in 1 full Timeout 9

ends : sends 1 full Timeout ≡ (To_one (node 1), by 1 9 (NewView 1 c2)) ∷ []
unfolding sha256 digest_bytes hash_after compress rounds schedule first_words spell_batch spell_count spell_value wide_bytes
ends = refl

late : sends 1 ended (told 0 (signed (Prepare 4 Mark c3) [])) ≡ []
unfolding sha256 digest_bytes hash_after compress rounds schedule first_words spell_batch spell_count spell_value wide_bytes
late = refl

delivers_late : delivered chained p 1 (hears 1 0 (signed (Prepare 4 Mark c3) []) ended) 0 ≡ Some (Value_batch b)
unfolding sha256 digest_bytes hash_after compress rounds schedule first_words spell_batch spell_count spell_value wide_bytes
delivers_late = refl

-- views that are not consecutive decide nothing: turn 1 of round 1 stands on turn 2

abbrev n1 : List ℕ
n1 = node_digest p 65537 Mark c2

abbrev m1 : Certificate
m1 = three 65537 n1

abbrev n2 : List ℕ
n2 = node_digest p 65538 Mark m1

abbrev m2 : Certificate
m2 = three 65538 n2

abbrev gap : List (Item Message)
gap = hears 1 1 (signed (Prepare 65538 Mark m1) []) (hears 1 1 (signed (Prepare 65537 Mark c2) []) ended)

takes_a_mark : sends 1 ended (told 1 (signed (Prepare 65537 Mark c2) [])) ≡ (To_one (node 1), by 1 9 (Vote 1 65537 n1)) ∷ []
unfolding sha256 digest_bytes hash_after compress rounds schedule first_words spell_batch spell_count spell_value wide_bytes
takes_a_mark = refl

decides_nothing : delivered chained p 1 (hears 1 1 (signed (Prepare 65539 Mark m2) []) gap) 0 ≡ None
unfolding sha256 digest_bytes hash_after compress rounds schedule first_words spell_batch spell_count spell_value wide_bytes
decides_nothing = refl

-- nor does a node vote below its lock for another branch
not_safe : sends 1 ended (told 1 (signed (Prepare 65537 Nil Root) [])) ≡ []
unfolding sha256 digest_bytes hash_after compress rounds schedule first_words spell_batch spell_count spell_value wide_bytes
not_safe = refl

safe_on_the_lock : sends 1 ended (told 1 (signed (Prepare 65537 Nil c1) [])) ≡ (To_one (node 1), by 1 9 (Vote 1 65537 (node_digest p 65537 Nil c1))) ∷ []
unfolding sha256 digest_bytes hash_after compress rounds schedule first_words spell_batch spell_count spell_value wide_bytes
safe_on_the_lock = refl

-- the best of a quorum's words is taken before the round's first turn

abbrev two_news : List (Item Message)
two_news = hears 1 1 (signed (NewView 1 c2) []) (hears 1 0 (signed (NewView 1 Root) []) (take_in 1 full Timeout 9))

proposes_on_the_best : makes p 1 two_news (told 2 (signed (NewView 1 c1) [])) 9 ≡
    record { sends = (To_all, by 1 9 (Prepare 65537 Mark c2)) ∷ []; accepted = None; strings = viewed_string 1 65537 d2 Mark ∷ []; used = 1 }
unfolding sha256 digest_bytes hash_after compress rounds schedule first_words spell_batch spell_count spell_value wide_bytes
proposes_on_the_best = refl
