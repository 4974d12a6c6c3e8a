-- PBFT on worked examples: four replicas. Replica 0 leads the slots 0 and 4, and replica 3 is Byzantine.
use Rattle.std.proofs.Common.{◌≡◌, ℕ, List, [], ◌∷◌, ◌++◌, Some, None, true, false, refl}
use Rattle.std.specs.Prelude.{replicate}
use Rattle.sha2.specs.Sha256.{sha256, digest_bytes, hash_after, compress, rounds, schedule, first_words}
use Rattle.iss_keys.specs.Directories.{directory_of}
use Rattle.iss_request.specs.Formats.{spell_batch, spell_count, spell_value}
use Rattle.iss_request.specs.declared.ids.NodeId.{NodeId}
use Rattle.iss_request.specs.declared.ids.Slot.{Slot}
use Rattle.iss_request.specs.declared.requests.Batch.{Batch}
use Rattle.iss_request.specs.declared.requests.Value.{Value}
use Rattle.iss_request.specs.declared.requests.Value.TheVariants.{Nil as Value_nil, Batch as Value_batch}
use Rattle.iss_request.specs.declared.setups.Kind.TheVariants.{Byzantine}
use Rattle.iss_request.specs.declared.setups.Policy.TheVariants.{Simple}
use Rattle.iss_request.specs.declared.setups.Setup.{Setup}
use Rattle.iss_sb.specs.declared.effects.Input.{Input}
use Rattle.iss_sb.specs.declared.effects.Input.TheVariants.{Cast, Receive, Timeout}
use Rattle.iss_sb.specs.declared.effects.Params.{Params}
use Rattle.iss_sb.specs.declared.effects.To.{To}
use Rattle.iss_sb.specs.declared.effects.To.TheVariants.{All as To_all}
use Rattle.iss_sb.specs.Evidence.{Item, Made, and_then, delivered}
use Rattle.iss_sb.specs.Statements.{claim, signature, wide_bytes}
use Rattle.pbft_wire.specs.declared.messages.Certificate.{Certificate}
use Rattle.pbft_wire.specs.declared.messages.Change.{Change}
use Rattle.iss_sb.specs.declared.signers.Signed.{Signed}
use Rattle.pbft_wire.specs.declared.messages.Message.{Message}
use Rattle.pbft_wire.specs.Signed.{PrePrepare, Prepare, Commit, ViewChange, NewView}
use Rattle.pbft_wire.specs.Statements.{digest_of, state_at, state_change, state_new, string_of}
use Rattle.pbft_views.specs.Choice.{choice}
use Rattle.pbft_views.specs.Claims.{claims}
use Rattle.pbft_views.specs.Good.{is_good}
use Rattle.sb_pbft.specs.Makes.{kept, makes}
use Rattle.sb_pbft.specs.Pbft.{asks, pbft}

abbrev pub slot : ℕ → Slot
slot n = record { 0 = n }

abbrev pub node : ℕ → NodeId
node n = record { 0 = n }

abbrev pub setup : Setup
setup = record {
  version = 1;
  «module» = 3;
  f = 1;
  epoch = 8;
  buckets = 4;
  batch = 4;
  window = 4;
  policy = Simple;
  clients = 1;
  keys = 4;
  faulty = node 3 ∷ [];
  n = 4;
  quorum = 3;
  kind = Byzantine;
  tag = replicate 32 7;
}

abbrev pub p : Params
p = record { setup = setup; epoch = record { 0 = 2 }; leader = node 0; slots = slot 0 ∷ slot 4 ∷ []; directory = directory_of 4 1 4 }

-- the empty batch
abbrev pub b : Batch
b = []

abbrev pub d : List ℕ
d = digest_of p (Value_batch b)

abbrev pub nil : List ℕ
nil = digest_of p Value_nil

-- the signature of replica k with a leaf, on a PrePrepare (1), Prepare (2) or Commit (3) of the view at the slot
abbrev pub sig : ℕ → ℕ → ℕ → ℕ → ℕ → List ℕ → List ℕ
sig k leaf kind v s e = signature p k leaf (state_at p kind v s e)

abbrev pub sends : List Message → List (To × Message)
sends [] = []
sends (m ∷ ms) = (To_all, m) ∷ sends ms

abbrev pub said : List Message → List (List ℕ) → ℕ → Made Message
said ms strings used = record { sends = sends ms; accepted = None; strings = strings; used = used }

abbrev pub next : ℕ → ℕ → Input Message → List (Item Message) → List (Item Message)
next me leaf i xs = and_then pbft p me xs i leaf

abbrev pub from : ℕ → Message → Input Message
from k msg = Receive (node k) msg

-- ---- the normal case. The leader casts the batch at slot 0; its next leaf is 5

abbrev pub proposal : Message
proposal = PrePrepare 0 (slot 0) (Value_batch b) (sig 0 5 1 0 0 d)

casts : makes p 0 [] (Cast (slot 0) b) 5 ≡ record { sends = (To_all, proposal) ∷ []; accepted = Some (slot 0, b); strings = string_of p (Value_batch b) ∷ []; used = 1 }
casts = refl

casts_once : makes p 0 (next 0 5 (Cast (slot 0) b) []) (Cast (slot 0) b) 6 ≡ said [] [] 0
casts_once = refl

casts_its_own : makes p 0 [] (Cast (slot 1) b) 5 ≡ said [] [] 0
casts_its_own = refl

-- replica 1 accepts the PrePrepare and sends a Prepare. It ignores one of another replica, of another view, or for
-- nil

abbrev pub prepare : ℕ → ℕ → Message
prepare k leaf = Prepare 0 (slot 0) d (sig k leaf 2 0 0 d)

prepares : makes p 1 [] (from 0 proposal) 9 ≡ record { sends = (To_all, prepare 1 9) ∷ []; accepted = Some (slot 0, b); strings = string_of p (Value_batch b) ∷ []; used = 1 }
prepares = refl

not_of_another : asks p 1 [] (from 2 proposal) ≡ None
not_of_another = refl

not_in_another_view : asks p 1 [] (from 0 (PrePrepare 1 (slot 0) (Value_batch b) [])) ≡ None
not_in_another_view = refl

not_nil : asks p 1 [] (from 0 (PrePrepare 0 (slot 0) Value_nil [])) ≡ None
not_nil = refl

-- its own Prepare is the first. A second one of replica 1 and one of the primary do not count; that of replica 3 is
-- the second
abbrev pub once : List (Item Message)
once = next 1 10 (from 0 (prepare 0 8)) (next 1 10 (from 1 (prepare 1 9)) (next 1 10 (from 1 (prepare 1 9)) (next 1 9 (from 0 proposal) [])))

abbrev pub commit : ℕ → ℕ → Message
commit k leaf = Commit 0 (slot 0) d (sig k leaf 3 0 0 d)

commits : makes p 1 once (from 3 (prepare 3 7)) 10 ≡ said (commit 1 10 ∷ []) [] 1
unfolding sha256 digest_bytes hash_after compress rounds schedule first_words spell_batch spell_count spell_value
commits = refl

abbrev pub prepared : List (Item Message)
prepared = next 1 10 (from 3 (prepare 3 7)) once

abbrev pub certificate : Certificate
certificate = record {
  slot = slot 0;
  view = 0;
  value = Value_batch b;
  sig = sig 0 5 1 0 0 d;
  prepares = record { by = node 1; sig = sig 1 9 2 0 0 d } ∷ record { by = node 3; sig = sig 3 7 2 0 0 d } ∷ [];
}

keeps : kept p 1 prepared ≡ certificate ∷ []
unfolding sha256 digest_bytes hash_after compress rounds schedule first_words spell_batch spell_count spell_value
keeps = refl

good_certificate : is_good p certificate ≡ true
good_certificate = refl

abbrev pub and_commit : ℕ → List (Item Message) → List (Item Message)
and_commit k xs = next 1 11 (from k (commit k 10)) xs

-- two Commits, one of them received twice, decide nothing; the third one decides
two : delivered pbft p 1 (and_commit 1 (and_commit 0 (and_commit 0 prepared))) 0 ≡ None
unfolding sha256 digest_bytes hash_after compress rounds schedule first_words spell_batch spell_count spell_value
two = refl

three : delivered pbft p 1 (and_commit 3 (and_commit 1 (and_commit 0 (and_commit 0 prepared)))) 0 ≡ Some (Value_batch b)
unfolding sha256 digest_bytes hash_after compress rounds schedule first_words spell_batch spell_count spell_value
three = refl

-- ---- a view change with one certificate. Replica 1 is the primary of view 1

abbrev pub give_up : ℕ → ℕ → ℕ → List Certificate → Message
give_up k leaf v cs = ViewChange v cs (signature p k leaf (state_change p v cs))

abbrev pub change : ℕ → ℕ → ℕ → List Certificate → Change
change k leaf v cs = record { node = node k; view = v; certificates = cs; sig = signature p k leaf (state_change p v cs) }

times_out : makes p 1 prepared Timeout 11 ≡ said (give_up 1 11 1 (certificate ∷ []) ∷ []) [] 1
unfolding sha256 digest_bytes hash_after compress rounds schedule first_words spell_batch spell_count spell_value
times_out = refl

abbrev pub waiting : List (Item Message)
waiting = next 1 12 (from 2 (give_up 2 3 1 [])) (next 1 12 (from 1 (give_up 1 11 1 (certificate ∷ []))) (next 1 11 Timeout prepared))

abbrev pub changes : List Change
changes = change 1 11 1 (certificate ∷ []) ∷ change 2 3 1 [] ∷ change 3 4 1 [] ∷ []

-- the third ViewChange makes the NewView due: the leaves 12 and 13 sign the PrePrepares, 14 the NewView
abbrev pub renewal : Message
renewal = NewView 1 changes (sig 1 12 1 1 0 d ∷ sig 1 13 1 1 4 nil ∷ []) (signature p 1 14 (state_new p 1))

renews : makes p 1 waiting (from 3 (give_up 3 4 1 [])) 12 ≡ said (renewal ∷ []) (string_of p (Value_batch b) ∷ string_of p Value_nil ∷ []) 3
unfolding sha256 digest_bytes hash_after compress rounds schedule first_words spell_batch spell_count spell_value
renews = refl

-- replica 2, which accepted nothing before, enters the view: it sends Prepares for the batch and for nil
abbrev pub strings_of_it : List (List ℕ)
strings_of_it = string_of p (Value_batch b) ∷ string_of p (Value_batch b) ∷ string_of p Value_nil ∷ []

enters : makes p 2 [] (from 1 renewal) 5 ≡ said (Prepare 1 (slot 0) d (sig 2 5 2 1 0 d) ∷ Prepare 1 (slot 4) nil (sig 2 6 2 1 4 nil) ∷ []) strings_of_it 2
unfolding sha256 digest_bytes hash_after compress rounds schedule first_words spell_batch spell_count spell_value
enters = refl

-- it enters once, and only by a NewView of the primary
enters_once : makes p 2 (next 2 5 (from 1 renewal) []) (from 1 renewal) 7 ≡ said [] [] 0
enters_once = refl

enters_of_the_primary : makes p 2 [] (from 3 renewal) 5 ≡ said [] [] 0
enters_of_the_primary = refl

-- if Prepares came before the NewView, each slot's Commit follows its Prepare
abbrev pub early : List (Item Message)
early = next 2 5 (from 3 (Prepare 1 (slot 0) d (sig 3 5 2 1 0 d))) (next 2 5 (from 0 (Prepare 1 (slot 0) d (sig 0 6 2 1 0 d))) [])

in_order : makes p 2 early (from 1 renewal) 5 ≡ said (Prepare 1 (slot 0) d (sig 2 5 2 1 0 d) ∷ Commit 1 (slot 0) d (sig 2 6 3 1 0 d) ∷ Prepare 1 (slot 4) nil (sig 2 7 2 1 4 nil) ∷ []) strings_of_it 3
unfolding sha256 digest_bytes hash_after compress rounds schedule first_words spell_batch spell_count spell_value
in_order = refl

abbrev pub entered : List (Item Message)
entered = next 2 5 (from 1 renewal) early

-- its certificate of view 1 has the signature of the PrePrepare in the NewView
keeps_again : kept p 2 entered ≡ record { slot = slot 0; view = 1; value = Value_batch b; sig = sig 1 12 1 1 0 d; prepares = record { by = node 0; sig = sig 0 6 2 1 0 d } ∷ record { by = node 3; sig = sig 3 5 2 1 0 d } ∷ [] } ∷ []
unfolding sha256 digest_bytes hash_after compress rounds schedule first_words spell_batch spell_count spell_value
keeps_again = refl

abbrev pub commit_again : ℕ → List (Item Message) → List (Item Message)
commit_again k xs = next 2 8 (from k (Commit 1 (slot 0) d (sig k 9 3 1 0 d))) xs

delivers : delivered pbft p 2 (commit_again 3 (commit_again 1 (commit_again 0 entered))) 0 ≡ Some (Value_batch b)
unfolding sha256 digest_bytes hash_after compress rounds schedule first_words spell_batch spell_count spell_value
delivers = refl

-- ---- with no certificate, the choice is nil at each slot

abbrev pub empty_waiting : List (Item Message)
empty_waiting = next 1 12 (from 2 (give_up 2 3 1 [])) (next 1 12 (from 1 (give_up 1 11 1 [])) [])

empty_view : makes p 1 empty_waiting (from 3 (give_up 3 4 1 [])) 12 ≡ said (NewView 1 (change 1 11 1 [] ∷ change 2 3 1 [] ∷ change 3 4 1 [] ∷ []) (sig 1 12 1 1 0 nil ∷ sig 1 13 1 1 4 nil ∷ []) (signature p 1 14 (state_new p 1)) ∷ []) (string_of p Value_nil ∷ string_of p Value_nil ∷ []) 3
empty_view = refl

-- ---- of two certificates the one of the higher view is chosen, in a tie that of the lowest replica. Replica 2 is
-- primary of view 2

abbrev pub votes : ℕ → ℕ → List Signed
votes j k = record { by = node j; sig = [] } ∷ record { by = node k; sig = [] } ∷ []

abbrev pub of_view : ℕ → Value → List Signed → Certificate
of_view v x voters = record { slot = slot 0; view = v; value = x; sig = []; prepares = voters }

abbrev pub both_views : List (Item Message)
both_views = next 2 1 (from 1 (give_up 1 3 2 (of_view 0 (Value_batch b) (votes 1 3) ∷ []))) (next 2 1 (from 0 (give_up 0 2 2 [])) [])

higher_view : makes p 2 both_views (from 3 (give_up 3 4 2 (of_view 1 Value_nil (votes 0 2) ∷ []))) 1 ≡ said (
    NewView 2 (change 0 2 2 [] ∷ change 1 3 2 (of_view 0 (Value_batch b) (votes 1 3) ∷ []) ∷ change 3 4 2 (of_view 1 Value_nil (votes 0 2) ∷ []) ∷ []) (sig 2 1 1 2 0 nil ∷ sig 2 2 1 2 4 nil ∷ []) (signature p 2 3 (state_new p 2)) ∷ [])
    (string_of p Value_nil ∷ string_of p Value_nil ∷ string_of p Value_nil ∷ []) 3
higher_view = refl

least_node : choice (change 0 2 2 (of_view 1 (Value_batch b) (votes 0 2) ∷ []) ∷ change 1 3 2 (of_view 1 Value_nil (votes 0 2) ∷ []) ∷ []) 0 ≡ Value_batch b
least_node = refl

-- a certificate is not good with a Prepare of the primary, with two of one replica, or in view 0 with nil. A
-- ViewChange with one is not stored
not_good : (is_good p (of_view 0 (Value_batch b) (votes 0 1)) ≡ false) × (is_good p (of_view 0 (Value_batch b) (votes 1 1)) ≡ false) × (is_good p (of_view 0 Value_nil (votes 1 3)) ≡ false)
not_good = (refl, refl, refl)

not_kept : makes p 2 both_views (from 3 (give_up 3 4 2 (of_view 1 Value_nil (votes 1 2) ∷ []))) 1 ≡ said [] [] 0
not_kept = refl

-- ---- one replica alone: a proposal is prepared at once, and delivered with its own Commit

abbrev pub alone : Params
alone = record p { setup = record setup { f = 0; n = 1; quorum = 1; faulty = [] } }

at_once : makes alone 0 [] (Cast (slot 4) b) 5 ≡ record {
  sends = (To_all, PrePrepare 0 (slot 4) (Value_batch b) (sig 0 5 1 0 4 d)) ∷ (To_all, Commit 0 (slot 4) d (sig 0 6 3 0 4 d)) ∷ [];
  accepted = Some (slot 4, b);
  strings = string_of p (Value_batch b) ∷ [];
  used = 2;
}
at_once = refl

abbrev pub one_cast : List (Item Message)
one_cast = and_then pbft alone 0 [] (Cast (slot 4) b) 5

-- the certificate has the signature of its own PrePrepare
keeps_own : kept alone 0 one_cast ≡ record { slot = slot 4; view = 0; value = Value_batch b; sig = sig 0 5 1 0 4 d; prepares = [] } ∷ []
keeps_own = refl

its_own : delivered pbft alone 0 (and_then pbft alone 0 one_cast (from 0 (Commit 0 (slot 4) d (sig 0 6 3 0 4 d))) 7) 4 ≡ Some (Value_batch b)
unfolding sha256 digest_bytes hash_after compress rounds schedule first_words spell_batch spell_count spell_value
its_own = refl

-- ---- what is signed: the cluster, epoch 2, leader 0, the module, the kind, the view, the slot, the digest

prepare_bytes : state_at p 2 258 4 (9 ∷ []) ≡ replicate 32 7 ++ (0 ∷ 0 ∷ 0 ∷ 0 ∷ 0 ∷ 0 ∷ 0 ∷ 2 ∷ 0 ∷ 3 ∷ 2 ∷ 1 ∷ 2 ∷ 0 ∷ 0 ∷ 0 ∷ 0 ∷ 0 ∷ 0 ∷ 0 ∷ 4 ∷ 9 ∷ [])
unfolding wide_bytes
prepare_bytes = refl

new_bytes : state_new p 1 ≡ replicate 32 7 ++ (0 ∷ 0 ∷ 0 ∷ 0 ∷ 0 ∷ 0 ∷ 0 ∷ 2 ∷ 0 ∷ 3 ∷ 5 ∷ 0 ∷ 1 ∷ [])
unfolding wide_bytes
new_bytes = refl

-- claims in the order of the bytes: of the certificates, the ViewChange itself, the PrePrepares, the message itself
its_claims : claims p 2 (NewView 2 (change 1 3 2 (of_view 0 (Value_batch b) (votes 1 3) ∷ []) ∷ []) ((1 ∷ []) ∷ (2 ∷ []) ∷ (3 ∷ []) ∷ []) (4 ∷ [])) ≡
    claim 0 (state_at p 1 0 0 d) [] ∷ claim 1 (state_at p 2 0 0 d) [] ∷ claim 3 (state_at p 2 0 0 d) [] ∷
    claim 1 (state_change p 2 (of_view 0 (Value_batch b) (votes 1 3) ∷ [])) (signature p 1 3 (state_change p 2 (of_view 0 (Value_batch b) (votes 1 3) ∷ []))) ∷
    claim 2 (state_at p 1 2 0 d) (1 ∷ []) ∷ claim 2 (state_at p 1 2 4 nil) (2 ∷ []) ∷ claim 2 (state_new p 2) (4 ∷ []) ∷ []
its_claims = refl
