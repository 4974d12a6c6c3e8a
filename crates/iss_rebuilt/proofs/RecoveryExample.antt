-- A computed journal: three nodes, epochs of three slots. Node 0 proposes, hears of three empty batches, which ends
-- epoch 0, and counts two votes. The event that ended the epoch is stored as a snapshot.
use Rattle.std.proofs.Common.{◌≡◌, ℕ, ◌==◌, cond, List, [], ◌∷◌, Option, Some, None, reverse, refl}
use Rattle.iss_checkpoint.specs.declared.votes.Cert.{Cert}
use Rattle.iss_checkpoint.specs.declared.votes.Vote.{Vote}
use Rattle.iss_journal.specs.Retained.{retained}
use Rattle.iss_request.specs.Formats.{count_field, parse_batch, parse_count, parse_rest, parse_value, spell_batch, spell_count, spell_value}
use Rattle.iss_request.specs.Parsing.{◌>>=◌, block, byte, done, number, such_that, times}
use Rattle.iss_request.specs.declared.requests.Value.{Value}
use Rattle.iss_rules.specs.declared.events.NodeEvent.{NodeEvent}
use Rattle.iss_rules.specs.declared.events.NodeEvent.TheVariants.{Packet as On_packet, Propose as On_propose, Timeout as On_timeout, AskFrom as On_ask}
use Rattle.iss_rules.specs.Parcels.{OfModule, OfVote}
use Rattle.iss_rules.specs.Past.{log_of}
use Rattle.iss_sb.specs.Evidence.{Item}
use Rattle.iss_model.specs.Frames.{Frame}
use Rattle.iss_model.specs.Node.{Core}
use Rattle.iss_model.proofs.Example.{Word, easy, plain, short, spell, telling}
use Rattle.iss_snapshot.specs.Snapshots.{parse_body, parse_cert_entry, parse_counted, parse_epochs, parse_kind, parse_packet_entry, parse_snapshot, parse_span, parse_to, parse_vote_entry, spell_snapshot}
use Rattle.iss_rebuilt.specs.Reading.{Rebuilt, recovered}
use Rattle.iss_rebuilt.specs.Stored.{Stored, stored}

abbrev W : Frame Word
W = record { setup = plain; formats = short; rules = easy; spec = telling }

-- events as entries: a packet, or a proposal; no other events are here
abbrev entry : NodeEvent → List ℕ
entry (On_packet bytes) = 1 ∷ bytes
entry On_propose = 2 ∷ []
entry (On_timeout l) = 0 ∷ []
entry (On_ask peer) = 0 ∷ []

abbrev event_in : List ℕ → Option NodeEvent
event_in (b ∷ bytes) = cond (b == 1) (Some (On_packet bytes)) (cond (b == 2) (Some On_propose) None)
event_in [] = None

-- leader k sends its empty batch, and its vote
abbrev word : ℕ → NodeEvent
word k = On_packet (spell k 0 (OfModule k (record { 0 = k }, [])))

abbrev vote : ℕ → NodeEvent
vote k =
    let v : Vote = record { epoch = record { 0 = 0 }; chain = 1 ∷ 1 ∷ 1 ∷ []; requests = 0; by = record { 0 = k }; sig = k ∷ 0 ∷ [] } in
    On_packet (spell k 0 (OfVote v))

-- newest first
abbrev events : List NodeEvent
events = vote 1 ∷ vote 0 ∷ word 2 ∷ word 1 ∷ word 0 ∷ On_propose ∷ []

abbrev journal : Stored Word
journal = stored W entry 0 events

-- kind, from, to, three values, leaf, and four counts
abbrev snapshot : List ℕ
snapshot =
    5 ∷ 0 ∷ 0 ∷ 0 ∷ 0 ∷ 0 ∷ 0 ∷ 0 ∷ 0 ∷ 0 ∷ 0 ∷ 0 ∷ 0 ∷ 0 ∷ 0 ∷ 0 ∷ 1 ∷ 1 ∷ 0 ∷ 1 ∷ 0 ∷ 1 ∷ 0 ∷ 0 ∷ 0 ∷ 0 ∷ 1 ∷ 0 ∷ 0 ∷ 0 ∷ 0
    ∷ 0 ∷ 0 ∷ 0 ∷ 0 ∷ 0 ∷ 0 ∷ 0 ∷ 0 ∷ 0 ∷ 0 ∷ []

stays : reverse (retained (reverse journal.entries)) ≡ entry (vote 1) ∷ entry (vote 0) ∷ snapshot ∷ []
unfolding spell_snapshot spell_value spell_batch spell_count
stays = refl

-- what a core shows: epoch, log, next leaf, votes and certificates, and what it took from leader 1 in epoch 1
abbrev Shown : Type 0
Shown = ℕ × List Value × ℕ × List Vote × List Cert × List (Item Word)

abbrev shown : Core Word → Shown
shown c = (c.past.epoch, log_of easy telling 0 c.past, c.leaf, c.votes, c.certs, c.past.evidence 1 1)

abbrev shown_of : Option (Rebuilt Word) → Option (Shown)
shown_of None = None
shown_of (Some r) = Some (shown r.core)

abbrev recovers : List (List ℕ) → Option (Shown)
recovers entries = shown_of (recovered W event_in 0 entries)

leads_back : recovers (entry (vote 1) ∷ entry (vote 0) ∷ snapshot ∷ []) ≡ Some (shown journal.core)
unfolding parse_snapshot parse_span parse_kind parse_to parse_epochs parse_body parse_counted parse_cert_entry parse_vote_entry parse_packet_entry parse_value parse_batch parse_count parse_rest count_field ◌>>=◌ block byte done number such_that times
leads_back = refl

-- a snapshot that does not go on where the one before it ended
twice : recovers (snapshot ∷ snapshot ∷ []) ≡ None
unfolding parse_snapshot parse_span parse_kind parse_to parse_epochs parse_body parse_counted parse_cert_entry parse_vote_entry parse_packet_entry parse_value parse_batch parse_count parse_rest count_field ◌>>=◌ block byte done number such_that times
twice = refl

-- a message that came early for epoch 1 is taken from the snapshot
abbrev early : NodeEvent
early = On_packet (spell 1 1 (OfModule 1 (record { 0 = 4 }, [])))

abbrev ahead : Stored Word
ahead = stored W entry 0 (word 2 ∷ early ∷ word 1 ∷ word 0 ∷ On_propose ∷ [])

ahead_again : recovers (reverse (retained (reverse ahead.entries))) ≡ Some (shown ahead.core)
unfolding spell_snapshot spell_value spell_batch spell_count parse_snapshot parse_span parse_kind parse_to parse_epochs parse_body parse_counted parse_cert_entry parse_vote_entry parse_packet_entry parse_value parse_batch parse_count parse_rest count_field ◌>>=◌ block byte done number such_that times
ahead_again = refl
