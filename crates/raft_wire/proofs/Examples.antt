-- Worked examples of the encodings.
use Rattle.std.proofs.Common.{◌≡◌, ℕ, true, false, List, [], ◌∷◌, refl}
use Rattle.iss_request.specs.Fields.{Good, Bad}
use Rattle.iss_request.specs.Formats.{count_field, parse_batch, parse_count, parse_rest, parse_value, spell_batch, spell_count, spell_value}
use Rattle.iss_request.specs.Parsing.{◌>>=◌, byte, done, number, such_that, times}
use Rattle.raft_wire.specs.declared.entries.Entry.{Entry}
use Rattle.iss_sb.specs.declared.content.Content.{Content}
use Rattle.iss_sb.specs.declared.content.Content.TheVariants.{Holds, Mark}
use Rattle.raft_wire.specs.declared.messages.Message.{Message}
use Rattle.raft_wire.specs.declared.messages.Message.TheVariants.{Append, Reply, AskVote, Vote}
use Rattle.iss_sb.specs.Content.{parse_batch_content, parse_content}
use Rattle.raft_wire.specs.Entries.{parse_entry}
use Rattle.raft_wire.specs.Messages.{parse, parse_append, parse_flag, parse_vote, spell}

abbrev entry : ℕ → Content → Entry
entry term what = record { term = term; what = what }

-- after index 258 of term 1: a mark and an empty batch of term 3, with commit index 5
abbrev sent : Message
sent = Append 3 258 1 5 (entry 3 Mark ∷ entry 3 (Holds []) ∷ [])

abbrev row : List ℕ
row = 1 ∷ 0 ∷ 3 ∷ 0 ∷ 0 ∷ 1 ∷ 2 ∷ 0 ∷ 1 ∷ 0 ∷ 0 ∷ 0 ∷ 5 ∷ 0 ∷ 0 ∷ 0 ∷ 2 ∷ 0 ∷ 3 ∷ 2 ∷ 0 ∷ 3 ∷ 1 ∷ 1 ∷ 0 ∷ []

append_spelled : spell 1 sent ≡ row
unfolding spell_value spell_batch spell_count
append_spelled = refl

append_read : parse 1 row ≡ Good sent []
unfolding parse parse_append parse_entry parse_content parse_batch_content parse_value parse_rest parse_batch parse_count count_field such_that byte number times done ◌>>=◌
append_read = refl

-- version 2 encodes the empty batch differently
second_spelled : spell 2 (Append 3 0 0 0 (entry 3 (Holds []) ∷ [])) ≡ 1 ∷ 0 ∷ 3 ∷ 0 ∷ 0 ∷ 0 ∷ 0 ∷ 0 ∷ 0 ∷ 0 ∷ 0 ∷ 0 ∷ 0 ∷ 0 ∷ 0 ∷ 0 ∷ 1 ∷ 0 ∷ 3 ∷ 1 ∷ 2 ∷ 0 ∷ 0 ∷ []
unfolding spell_value spell_batch spell_count
second_spelled = refl

reply_spelled : (spell 1 (Reply 65535 true 7) ≡ 2 ∷ 255 ∷ 255 ∷ 1 ∷ 0 ∷ 0 ∷ 0 ∷ 7 ∷ []) × (spell 1 (Reply 1 false 0) ≡ 2 ∷ 0 ∷ 1 ∷ 0 ∷ 0 ∷ 0 ∷ 0 ∷ 0 ∷ [])
reply_spelled = (refl, refl)

ask_spelled : spell 1 (AskVote 2 65600 1) ≡ 3 ∷ 0 ∷ 2 ∷ 0 ∷ 1 ∷ 0 ∷ 64 ∷ 0 ∷ 1 ∷ []
ask_spelled = refl

vote_spelled : spell 1 (Vote 2 true) ≡ 4 ∷ 0 ∷ 2 ∷ 1 ∷ []
vote_spelled = refl

vote_read : parse 1 (4 ∷ 0 ∷ 2 ∷ 1 ∷ 9 ∷ []) ≡ Good (Vote 2 true) (9 ∷ [])
unfolding parse parse_vote parse_flag such_that byte number done ◌>>=◌
vote_read = refl

-- message numbers 0 and 5, the flag 2, a fourth kind of content, and the value nil in place of a batch are refused
no_number : (parse 1 (0 ∷ 0 ∷ 2 ∷ 1 ∷ []) ≡ Bad 0) × (parse 1 (5 ∷ 0 ∷ 2 ∷ 1 ∷ []) ≡ Bad 0)
unfolding parse such_that byte ◌>>=◌
no_number = (refl, refl)

no_flag : parse 1 (4 ∷ 0 ∷ 2 ∷ 2 ∷ []) ≡ Bad 3
unfolding parse parse_vote parse_flag such_that byte number done ◌>>=◌
no_flag = refl

no_kind : (parse_entry 1 (0 ∷ 1 ∷ 3 ∷ []) ≡ Bad 2) × (parse_entry 1 (0 ∷ 1 ∷ 1 ∷ 0 ∷ []) ≡ Bad 3)
unfolding parse_entry parse_content parse_batch_content parse_value parse_rest such_that byte number done ◌>>=◌
no_kind = (refl, refl)

-- a term above 65,535 has no encoding
no_spelling : (spell 1 (Vote 65536 true) ≡ 0 ∷ []) × (parse_entry 1 (0 ∷ 0 ∷ 255 ∷ []) ≡ Bad 2)
unfolding parse_entry parse_content such_that byte number ◌>>=◌
no_spelling = (refl, refl)
