-- Computed runs of four nodes, of which node 3 is faulty. It has two cores, 3 and its twin 4, which act independently
-- with the same keys.
use Rattle.std.proofs.Common.{◌≡◌, ℕ, List, [], ◌∷◌, ◌++◌, length, None, refl}
use Rattle.iss_base.specs.Heights.{digests_of_height}
use Rattle.iss_request.specs.Formats.{spell_batch, spell_count, spell_request, spell_value}
use Rattle.iss_request.specs.declared.requests.Batch.{Batch}
use Rattle.iss_schedule.specs.declared.schedules.Event.{Event}
use Rattle.iss_schedule.specs.declared.schedules.Event.TheVariants.{Request as Event_request, Propose, Deliver, Calm, Hold, Bytes}
use Rattle.iss_sb.specs.declared.effects.To.TheVariants.{All as To_all, One as To_one}
use Rattle.iss_sb.specs.Statements.{wide_bytes}
use Rattle.iss_rules.specs.declared.events.Why.TheVariants.{BadClaim, NotLeader}
use Rattle.iss_model.specs.Node.{Core}
use Rattle.iss_model.specs.Run.{addressees, node_of}
use Rattle.iss_model.proofs.Example.{plain_request}
use Rattle.iss_theorems.proofs.Examples.ForgedClaims.{after, four, heard}
use Rattle.iss_composition.proofs.Signing.{Word}

-- both cores run node 3, and what is sent to node 3 goes to both
same_node : node_of four 4 ≡ 3
same_node = refl

to_all : addressees four To_all ≡ 0 ∷ 1 ∷ 2 ∷ 3 ∷ 4 ∷ []
to_all = refl

to_one : addressees four (To_one (record { 0 = 3 })) ≡ 3 ∷ 4 ∷ []
to_one = refl

to_correct : addressees four (To_one (record { 0 = 2 })) ≡ 2 ∷ []
to_correct = refl

-- core 3 proposes a request, and its twin, which has none, proposes an empty batch at the same slot
abbrev asked : Batch
asked = plain_request 0 3 (170 ∷ []) ∷ []

abbrev both_cast : List Event
both_cast = Event_request 3 0 3 (170 ∷ []) ∷ Propose 3 ∷ Propose 4 ∷ []

core : List Event → ℕ → Core Word
core events c = (heard events).state.net.cores c

one : (core both_cast 3).flight ≡ (record { 0 = 3 }, asked) ∷ []
unfolding core wide_bytes spell_value spell_batch spell_count spell_request digests_of_height
one = refl

other : (core both_cast 4).flight ≡ (record { 0 = 3 }, []) ∷ []
unfolding core wide_bytes spell_value spell_batch spell_count spell_request digests_of_height
other = refl

-- nothing of it enters the book, and a core that receives either continues
unbooked : (heard (both_cast ++ Calm 1 ∷ [])).state.signed ≡ []
unfolding wide_bytes spell_value spell_batch spell_count spell_request digests_of_height
unbooked = refl

goes_on : (heard (both_cast ++ Calm 1 ∷ [])).ended ≡ None
unfolding wide_bytes spell_value spell_batch spell_count spell_request digests_of_height
goes_on = refl

-- core 3 is held; its twin ends the epoch and proposes in the next one as node 3
abbrev ahead : List Event
ahead =
    Hold 3 ∷ Propose 0 ∷ Propose 1 ∷ Propose 2 ∷ Propose 3 ∷ Calm 1 ∷ Propose 0 ∷ Propose 1 ∷ Propose 2 ∷ Propose 4 ∷
    Deliver 43 ∷ Deliver 48 ∷ Deliver 53 ∷ Deliver 58 ∷ []

abbrev caught_up : List Event
caught_up = ahead ++ Deliver 3 ∷ Deliver 8 ∷ Deliver 13 ∷ Deliver 18 ∷ []

twin_next : (core ahead 4).past.epoch ≡ 1
unfolding core wide_bytes spell_value spell_batch spell_count spell_request digests_of_height
twin_next = refl

still_first : (core ahead 3).past.epoch ≡ 0
unfolding core wide_bytes spell_value spell_batch spell_count spell_request digests_of_height
still_first = refl

-- the message of the next epoch comes early to core 3
kept : length (core ahead 3).early ≡ 4
unfolding core wide_bytes spell_value spell_batch spell_count spell_request digests_of_height
kept = refl

-- and is taken, and ends that epoch too, when core 3 ends its own
two_ended : (core caught_up 3).past.epoch ≡ 2
unfolding core wide_bytes spell_value spell_batch spell_count spell_request digests_of_height
two_ended = refl

all_booked : (heard caught_up).ended ≡ None
unfolding wide_bytes spell_value spell_batch spell_count spell_request digests_of_height
all_booked = refl

-- a message with an invalid claim is dropped for that, if its leader leads
unverified : (after (Bytes 1 (0 ∷ 5 ∷ 0 ∷ 3 ∷ 3 ∷ 0 ∷ 0 ∷ 170 ∷ []) ∷ [])).drops ≡ (0, BadClaim) ∷ []
unfolding wide_bytes spell_value spell_batch spell_count spell_request digests_of_height
unverified = refl

leaderless : (after (Bytes 1 (0 ∷ 5 ∷ 0 ∷ 4 ∷ 3 ∷ 0 ∷ 0 ∷ 170 ∷ []) ∷ [])).drops ≡ (0, NotLeader) ∷ []
unfolding wide_bytes spell_value spell_batch spell_count spell_request digests_of_height
leaderless = refl
