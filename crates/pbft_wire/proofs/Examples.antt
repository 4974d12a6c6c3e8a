-- The encodings of messages on examples. Zeros of the right length are the signatures.
use Rattle.std.proofs.Common.{◌≡◌, ℕ, ◌+◌, ◌*◌, List, [], ◌∷◌, ◌++◌, refl}
use Rattle.std.specs.Prelude.{replicate}
use Rattle.iss_base.specs.Heights.{digests_of_height}
use Rattle.iss_request.specs.Fields.{Bad}
use Rattle.iss_request.specs.Formats.{spell_batch, spell_count, spell_value}
use Rattle.iss_request.specs.Parsing.{◌>>=◌, byte, done, number, such_that}
use Rattle.iss_request.specs.declared.ids.NodeId.{NodeId}
use Rattle.iss_request.specs.declared.ids.Slot.{Slot}
use Rattle.iss_request.specs.declared.requests.Value.TheVariants.{Nil as Value_nil, Batch as Value_batch}
use Rattle.iss_sb.specs.declared.signers.Signed.{Signed}
use Rattle.pbft_wire.specs.declared.messages.Certificate.{Certificate}
use Rattle.pbft_wire.specs.declared.messages.Change.{Change}
use Rattle.pbft_wire.specs.Signed.{PrePrepare, Prepare, Commit, ViewChange, NewView}
use Rattle.pbft_wire.specs.Certificates.{count, parse_change}
use Rattle.pbft_wire.specs.Messages.{parse, parse_at, parse_new_view, parse_view_change, spell}

abbrev slot : ℕ → Slot
slot n = record { 0 = n }

abbrev node : ℕ → NodeId
node k = record { 0 = k }

abbrev blank : List ℕ
blank = 2 ∷ replicate (4 + 32 * 69) 0

abbrev vote : ℕ → Signed
vote k = record { by = node k; sig = blank }

-- slot 259 holds the empty batch in view 1
abbrev certificate : List Signed → Certificate
certificate prepares = record { slot = slot 259; view = 1; value = Value_batch []; sig = blank; prepares = prepares }

pre_prepare_spelled : spell 1 (PrePrepare 0 (slot 259) (Value_batch []) blank) ≡ 1 ∷ 0 ∷ 0 ∷ 0 ∷ 0 ∷ 0 ∷ 0 ∷ 0 ∷ 0 ∷ 1 ∷ 3 ∷ 1 ∷ 0 ∷ blank
unfolding spell_value spell_batch spell_count digests_of_height
pre_prepare_spelled = refl

-- in the second version the batch inside is encoded otherwise; nil has an encoding too
second_spelled : spell 2 (PrePrepare 0 (slot 259) (Value_batch []) blank) ≡ 1 ∷ 0 ∷ 0 ∷ 0 ∷ 0 ∷ 0 ∷ 0 ∷ 0 ∷ 0 ∷ 1 ∷ 3 ∷ 2 ∷ 0 ∷ 0 ∷ blank
unfolding spell_value spell_batch spell_count digests_of_height
second_spelled = refl

nil_spelled : spell 1 (PrePrepare 65535 (slot 4) Value_nil blank) ≡ 1 ∷ 255 ∷ 255 ∷ 0 ∷ 0 ∷ 0 ∷ 0 ∷ 0 ∷ 0 ∷ 0 ∷ 4 ∷ 0 ∷ blank
unfolding spell_value digests_of_height
nil_spelled = refl

prepare_spelled : spell 1 (Prepare 1 (slot 4) (replicate 32 9) blank) ≡ 2 ∷ 0 ∷ 1 ∷ 0 ∷ 0 ∷ 0 ∷ 0 ∷ 0 ∷ 0 ∷ 0 ∷ 4 ∷ replicate 32 9 ++ blank
unfolding digests_of_height
prepare_spelled = refl

commit_spelled : spell 1 (Commit 1 (slot 4) (replicate 32 9) blank) ≡ 3 ∷ 0 ∷ 1 ∷ 0 ∷ 0 ∷ 0 ∷ 0 ∷ 0 ∷ 0 ∷ 0 ∷ 4 ∷ replicate 32 9 ++ blank
unfolding digests_of_height
commit_spelled = refl

-- a certificate with the Prepares of replicas 1 and 3
abbrev row : List ℕ
row = 0 ∷ 0 ∷ 0 ∷ 0 ∷ 0 ∷ 0 ∷ 1 ∷ 3 ∷ 0 ∷ 1 ∷ 1 ∷ 0 ∷ (blank ++ (2 ∷ 1 ∷ (blank ++ (3 ∷ blank))))

change_spelled : spell 1 (ViewChange 2 (certificate (vote 1 ∷ vote 3 ∷ []) ∷ []) blank) ≡ 4 ∷ 0 ∷ 2 ∷ 1 ∷ (row ++ blank)
unfolding spell_value spell_batch spell_count digests_of_height
change_spelled = refl

-- a NewView with that ViewChange of replica 1, an empty one of replica 2, and one signature of a PrePrepare
abbrev changes : List Change
changes = record { node = node 1; view = 2; certificates = certificate (vote 1 ∷ vote 3 ∷ []) ∷ []; sig = blank } ∷ record { node = node 2; view = 2; certificates = []; sig = blank } ∷ []

new_spelled : spell 1 (NewView 2 changes (blank ∷ []) blank) ≡ 5 ∷ 0 ∷ 2 ∷ 2 ∷ 1 ∷ 0 ∷ 2 ∷ 1 ∷ (row ++ (blank ++ (2 ∷ 0 ∷ 2 ∷ 0 ∷ (blank ++ (1 ∷ (blank ++ blank))))))
unfolding spell_value spell_batch spell_count digests_of_height
new_spelled = refl

-- no encoding: a view above 65,535, a short digest, two votes of one replica
no_view : spell 1 (Commit 65536 (slot 4) (replicate 32 9) blank) ≡ 0 ∷ []
unfolding digests_of_height
no_view = refl

no_digest : spell 1 (Prepare 1 (slot 4) (replicate 31 9) blank) ≡ 0 ∷ []
unfolding digests_of_height
no_digest = refl

no_twice : spell 1 (ViewChange 2 (certificate (vote 3 ∷ vote 3 ∷ []) ∷ []) blank) ≡ 0 ∷ []
unfolding digests_of_height
no_twice = refl

-- the numbers 0 and 6 are of no message
no_number : (parse 1 (0 ∷ 0 ∷ 2 ∷ []) ≡ Bad 0) × (parse 1 (6 ∷ 0 ∷ 2 ∷ []) ≡ Bad 0)
unfolding parse such_that byte ◌>>=◌
no_number = (refl, refl)

-- a view, slot or count that is cut short is the bad field
cut_view : (parse 1 (4 ∷ 0 ∷ []) ≡ Bad 1) × (parse 1 (3 ∷ 0 ∷ 1 ∷ 0 ∷ []) ≡ Bad 3) × (parse 1 (5 ∷ 0 ∷ 1 ∷ []) ≡ Bad 3)
unfolding parse parse_at parse_view_change parse_new_view parse_change count such_that byte number done ◌>>=◌
cut_view = (refl, refl, refl)
