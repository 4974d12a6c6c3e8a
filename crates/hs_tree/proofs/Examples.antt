-- Worked examples of the encodings and of a small tree.
use Rattle.std.proofs.Common.{◌≡◌, ◌+◌, ◌*◌, ℕ, true, false, List, [], ◌∷◌, ◌++◌, Some, None, refl}
use Rattle.std.specs.Prelude.{replicate}
use Rattle.iss_base.specs.Heights.{digests_of_height}
use Rattle.iss_keys.specs.Directories.{directory_of}
use Rattle.iss_request.specs.Fields.{Good, Bad}
use Rattle.iss_request.specs.Formats.{parse_signature, spell_batch, spell_count, spell_value}
use Rattle.iss_request.specs.Parsing.{◌>>=◌, block, byte, digests, done, number, such_that}
use Rattle.iss_request.specs.declared.ids.NodeId.{NodeId}
use Rattle.iss_request.specs.declared.ids.Slot.{Slot}
use Rattle.iss_request.specs.declared.requests.Value.TheVariants.{Nil as Value_nil, Batch as Value_batch}
use Rattle.iss_request.specs.declared.setups.Kind.TheVariants.{Byzantine}
use Rattle.iss_request.specs.declared.setups.Policy.TheVariants.{Simple}
use Rattle.iss_request.specs.declared.setups.Setup.{Setup}
use Rattle.iss_sb.specs.declared.effects.Params.{Params}
use Rattle.iss_sb.specs.Statements.{wide_bytes}
use Rattle.iss_sb.specs.declared.content.Content.TheVariants.{Nil, Holds, Mark}
use Rattle.iss_sb.specs.Content.{parse_content}
use Rattle.hs_tree.specs.declared.certificates.Certificate.{Certificate}
use Rattle.hs_tree.specs.declared.certificates.Certificate.TheVariants.{Root, Votes}
use Rattle.iss_sb.specs.declared.signers.Signed.{Signed}
use Rattle.iss_sb.specs.Ascending.{ascending}
use Rattle.iss_sb.specs.Signers.{parse_signed}
use Rattle.hs_tree.specs.declared.messages.Body.TheVariants.{NewView, Prepare, PreCommit, Commit, Decide, Vote}
use Rattle.hs_tree.specs.Certificates.{is_quorum, parse_certificate, parse_votes, spell_certificate}
use Rattle.hs_tree.specs.Messages.{parse, parse_body, parse_prepare, parse_vote, signed, spell}
use Rattle.hs_tree.specs.Statements.{claims, stated}
use Rattle.hs_tree.specs.Tree.{Node, basic, branch, chained, extends, filled, is_known, plain_string, root, value_at, value_at_slot, viewed_string}

abbrev node : ℕ → NodeId
node n = record { 0 = n }

abbrev slot : ℕ → Slot
slot n = record { 0 = n }

-- a signature of zeros, of the right length
abbrev blank : List ℕ
blank = 2 ∷ replicate (4 + 32 * 69) 0

abbrev d : List ℕ
d = replicate 32 9

abbrev by : ℕ → Signed
by k = record { by = node k; sig = blank }

-- two prepare votes, in turn 1 of round 1
abbrev shown : Certificate
shown = Votes 65537 1 d (by 0 ∷ by 3 ∷ [])

-- ---- Certificates

root_spelled : spell_certificate 3 Root ≡ 0 ∷ 0 ∷ 0 ∷ 0 ∷ []
root_spelled = refl

shown_spelled : spell_certificate 3 shown ≡ 0 ∷ 1 ∷ 0 ∷ 1 ∷ 1 ∷ (d ++ (2 ∷ 0 ∷ (blank ++ (3 ∷ blank))))
unfolding digests_of_height
shown_spelled = refl

-- a second phase, a repeated signer, descending signers, or view 0 have no encoding there
no_second_phase : spell_certificate 1 (Votes 65537 2 d []) ≡ 0 ∷ 0 ∷ 0 ∷ 1 ∷ 0 ∷ []
no_second_phase = refl

no_node_twice : spell_certificate 3 (Votes 65537 1 d (by 3 ∷ by 3 ∷ [])) ≡ 0 ∷ 0 ∷ 0 ∷ 1 ∷ 0 ∷ []
unfolding digests_of_height
no_node_twice = refl

no_view : spell_certificate 3 (Votes 0 1 d []) ≡ 0 ∷ 0 ∷ 0 ∷ 1 ∷ 0 ∷ []
no_view = refl

-- the second of two descending signers is the bad field, after the view, phase, digest, count and first vote
falling : parse_certificate 3 (0 ∷ 1 ∷ 0 ∷ 1 ∷ 1 ∷ (d ++ (2 ∷ 3 ∷ (blank ++ (3 ∷ blank))))) ≡ Bad (38 + (1 + 2213))
unfolding parse_certificate parse_votes ascending parse_signed parse_signature such_that byte number block digests done ◌>>=◌ digests_of_height
falling = refl

no_phase : parse_certificate 3 (0 ∷ 1 ∷ 0 ∷ 1 ∷ 4 ∷ d) ≡ Bad 4
unfolding parse_certificate parse_votes such_that byte number ◌>>=◌
no_phase = refl

-- exactly a quorum's votes, of the given phase and view
two_are_two : is_quorum 2 1 65537 shown ≡ true
unfolding digests_of_height
two_are_two = refl

two_are_not_three : is_quorum 3 1 65537 shown ≡ false
unfolding digests_of_height
two_are_not_three = refl

not_of_the_second : is_quorum 2 2 65537 shown ≡ false
unfolding digests_of_height
not_of_the_second = refl

-- ---- Messages

vote_spelled : spell 3 1 (signed (Vote 2 258 d) blank) ≡ 6 ∷ 2 ∷ 0 ∷ 0 ∷ 1 ∷ 2 ∷ (d ++ blank)
unfolding digests_of_height
vote_spelled = refl

vote_read : parse 3 1 (6 ∷ 2 ∷ 0 ∷ 0 ∷ 1 ∷ 2 ∷ (d ++ (blank ++ (7 ∷ [])))) ≡ Good (signed (Vote 2 258 d) blank) (7 ∷ [])
unfolding parse parse_body parse_vote parse_signature such_that byte number block digests done ◌>>=◌ digests_of_height
vote_read = refl

new_view_spelled : spell 3 1 (signed (NewView 259 Root) blank) ≡ 1 ∷ 1 ∷ 3 ∷ 0 ∷ 0 ∷ 0 ∷ 0 ∷ blank
unfolding digests_of_height
new_view_spelled = refl

-- the empty batch in either version, and a mark
prepare_spelled : spell 3 1 (signed (Prepare 1 (Holds []) Root) blank) ≡ 2 ∷ 0 ∷ 0 ∷ 0 ∷ 1 ∷ 1 ∷ 1 ∷ 0 ∷ 0 ∷ 0 ∷ 0 ∷ 0 ∷ blank
unfolding spell_value spell_batch spell_count digests_of_height
prepare_spelled = refl

second_spelled : spell 3 2 (signed (Prepare 1 (Holds []) Root) blank) ≡ 2 ∷ 0 ∷ 0 ∷ 0 ∷ 1 ∷ 1 ∷ 2 ∷ 0 ∷ 0 ∷ 0 ∷ 0 ∷ 0 ∷ 0 ∷ blank
unfolding spell_value spell_batch spell_count digests_of_height
second_spelled = refl

mark_read : parse 3 1 (2 ∷ 0 ∷ 0 ∷ 0 ∷ 1 ∷ 2 ∷ 0 ∷ 0 ∷ 0 ∷ 0 ∷ blank) ≡ Good (signed (Prepare 1 Mark Root) blank) []
unfolding parse parse_body parse_prepare parse_content parse_certificate parse_votes parse_signature such_that byte number block digests done ◌>>=◌ digests_of_height
mark_read = refl

shows_spelled : (spell 3 1 (signed (PreCommit 1 Root) blank) ≡ 3 ∷ 0 ∷ 0 ∷ 0 ∷ 1 ∷ 0 ∷ 0 ∷ 0 ∷ 0 ∷ blank) × (spell 3 1 (signed (Commit 1 Root) blank) ≡ 4 ∷ 0 ∷ 0 ∷ 0 ∷ 1 ∷ 0 ∷ 0 ∷ 0 ∷ 0 ∷ blank) × (spell 3 1 (signed (Decide 1 Root) blank) ≡ 5 ∷ 0 ∷ 0 ∷ 0 ∷ 1 ∷ 0 ∷ 0 ∷ 0 ∷ 0 ∷ blank)
unfolding digests_of_height
shows_spelled = (refl, refl, refl)

-- with one phase there are no Decide and no pre-commit votes
no_decide : (spell 1 1 (signed (Decide 1 Root) blank) ≡ 0 ∷ blank) × (parse 1 1 (5 ∷ 0 ∷ 0 ∷ 0 ∷ 1 ∷ 0 ∷ 0 ∷ 0 ∷ 0 ∷ blank) ≡ Bad 0)
unfolding parse parse_body such_that byte ◌>>=◌ digests_of_height
no_decide = (refl, refl)

no_second_vote : (spell 1 1 (signed (Vote 2 258 d) blank) ≡ 0 ∷ blank) × (parse 1 1 (6 ∷ 2 ∷ []) ≡ Bad 1)
unfolding parse parse_body parse_vote such_that byte ◌>>=◌ digests_of_height
no_second_vote = (refl, refl)

no_number : (parse 3 1 (0 ∷ blank) ≡ Bad 0) × (parse 3 1 (7 ∷ blank) ≡ Bad 0)
unfolding parse parse_body such_that byte ◌>>=◌ digests_of_height
no_number = (refl, refl)

-- ---- Statements and claims

abbrev setup : Setup
setup = record {
  version = 1;
  «module» = 4;
  f = 1;
  epoch = 8;
  buckets = 4;
  batch = 4;
  window = 4;
  policy = Simple;
  clients = 1;
  keys = 4;
  faulty = [];
  n = 4;
  quorum = 3;
  kind = Byzantine;
  tag = replicate 32 7;
}

abbrev p : Params
p = record { setup = setup; epoch = record { 0 = 2 }; leader = node 0; slots = slot 0 ∷ slot 4 ∷ []; directory = directory_of 4 1 4 }

-- the cluster, epoch 2, leader 0
abbrev head : List ℕ
head = replicate 32 7 ++ (0 ∷ 0 ∷ 0 ∷ 0 ∷ 0 ∷ 0 ∷ 0 ∷ 2 ∷ 0 ∷ [])

states_a_vote : stated basic p (Vote 2 258 d) ≡ head ++ (4 ∷ 6 ∷ 2 ∷ 0 ∷ 0 ∷ 1 ∷ 2 ∷ d)
unfolding wide_bytes digests_of_height
states_a_vote = refl

-- chained HotStuff has its own tag
states_chained : stated chained p (Vote 1 258 d) ≡ head ++ (5 ∷ 6 ∷ 1 ∷ 0 ∷ 0 ∷ 1 ∷ 2 ∷ d)
unfolding wide_bytes digests_of_height
states_chained = refl

states_a_round : stated basic p (NewView 259 shown) ≡ head ++ (4 ∷ 1 ∷ 1 ∷ 3 ∷ 0 ∷ 1 ∷ 0 ∷ 1 ∷ [])
unfolding wide_bytes digests_of_height
states_a_round = refl

-- first the votes of the certificate, each with a vote's statement; then the sender's own signature
claims_in_order : claims basic p 2 (signed (Commit 65537 shown) blank) ≡
    record { by = node 0; statement = stated basic p (Vote 1 65537 d); sig = blank } ∷
    record { by = node 3; statement = stated basic p (Vote 1 65537 d); sig = blank } ∷
    record { by = node 2; statement = stated basic p (Commit 65537 shown); sig = blank } ∷ []
unfolding digests_of_height
claims_in_order = refl

-- ---- Nodes and branches

-- the same node in another view has the same string, except in the chained form
one_string : plain_string 1 5 d Mark ≡ plain_string 1 6 d Mark
one_string = refl

mark_string : plain_string 1 5 d Mark ≡ 0x41 ∷ (d ++ (2 ∷ replicate 32 0))
mark_string = refl

viewed : viewed_string 1 258 d Mark ≡ 0x44 ∷ 0 ∷ 0 ∷ 1 ∷ 2 ∷ (d ++ (2 ∷ replicate 32 0))
unfolding wide_bytes
viewed = refl

-- a batch on the root, nil on it, a mark on the nil; and another nil on the batch
abbrev known : List Node
known =
    record { view = 4; digest = 4 ∷ []; from = 1; parent = 1 ∷ []; what = Nil } ∷
    record { view = 3; digest = 3 ∷ []; from = 2; parent = 2 ∷ []; what = Mark } ∷
    record { view = 2; digest = 2 ∷ []; from = 1; parent = 1 ∷ []; what = Nil } ∷
    record { view = 1; digest = 1 ∷ []; from = 0; parent = root; what = Holds [] } ∷ []

knows : (is_known known root ≡ true) × (is_known known (4 ∷ []) ≡ true) × (is_known known (5 ∷ []) ≡ false)
knows = (refl, refl, refl)

of_the_mark : branch known (3 ∷ []) ≡ Mark ∷ Nil ∷ Holds [] ∷ []
of_the_mark = refl

extends_itself : (extends known (3 ∷ []) (3 ∷ []) ≡ true) × (extends known (3 ∷ []) (1 ∷ []) ≡ true) × (extends known (3 ∷ []) root ≡ true) × (extends known (3 ∷ []) (4 ∷ []) ≡ false)
extends_itself = (refl, refl, refl, refl)

-- a mark fills no slot
fills_two : filled (branch known (3 ∷ [])) ≡ 2
fills_two = refl

holds_in_order : (value_at (branch known (3 ∷ [])) 0 ≡ Some (Value_batch [])) × (value_at (branch known (3 ∷ [])) 1 ≡ Some Value_nil) × (value_at (branch known (3 ∷ [])) 2 ≡ None)
holds_in_order = (refl, refl, refl)

at_slots : (value_at_slot (branch known (3 ∷ [])) 0 p.slots 4 ≡ Some Value_nil) × (value_at_slot (branch known (3 ∷ [])) 0 p.slots 1 ≡ None)
at_slots = (refl, refl)
