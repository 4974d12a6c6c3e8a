-- Votes, certificates, asks and pieces in computed runs and steps: three nodes, epochs of three slots.
use Rattle.std.proofs.Common.{◌≡◌, ℕ, suc, ◌==◌, cond, List, [], ◌∷◌, length, Option, Some, None, reverse, refl}
use Rattle.iss_base.specs.Heights.{digests_of_height}
use Rattle.iss_base.specs.Lists.{first_of}
use Rattle.iss_checkpoint.specs.declared.votes.Cert.{Cert}
use Rattle.iss_sb.specs.declared.signers.Signed.{Signed}
use Rattle.iss_checkpoint.specs.declared.votes.Vote.{Vote}
use Rattle.iss_network.specs.declared.packets.Sent.{Sent}
use Rattle.iss_request.specs.Formats.{spell_batch, spell_count, spell_request, spell_value}
use Rattle.iss_request.specs.Log.{size_of}
use Rattle.iss_request.specs.declared.requests.Value.{Value}
use Rattle.iss_request.specs.declared.requests.Value.TheVariants.{Batch as Value_batch, Nil as Value_nil}
use Rattle.iss_request.specs.declared.setups.Setup.{Setup}
use Rattle.iss_schedule.specs.declared.schedules.Event.{Event}
use Rattle.iss_schedule.specs.declared.schedules.Event.TheVariants.{Propose, Ask, Deliver, Calm, Hold, Free, Drop as Event_drop, Bytes}
use Rattle.iss_sb.specs.declared.effects.Claim.{Claim}
use Rattle.iss_sb.specs.declared.effects.Input.{Input}
use Rattle.iss_sb.specs.declared.effects.Input.TheVariants.{Cast, Receive, Timeout}
use Rattle.iss_sb.specs.declared.effects.To.{To}
use Rattle.iss_sb.specs.declared.effects.To.TheVariants.{All as To_all}
use Rattle.iss_sb.specs.Evidence.{Item, Module}
use Rattle.iss_transfer.specs.declared.pieces.Piece.{Piece}
use Rattle.sha2.specs.Sha256.{compress, digest_bytes, first_words, hash_after, rounds, schedule, sha256}
use Rattle.iss_rules.specs.declared.events.NodeEvent.TheVariants.{Packet as On_packet, Propose as On_propose, Timeout as On_timeout}
use Rattle.iss_rules.specs.declared.events.Why.{Why}
use Rattle.iss_rules.specs.declared.events.Why.TheVariants.{BadClaim, Known, NoCert, NoKeys, NotNeeded, OtherEpoch, WrongChain as Why_wrong_chain}
use Rattle.iss_rules.specs.Concrete.{rules_of}
use Rattle.iss_rules.specs.Parcels.{OfPiece, OfVote}
use Rattle.iss_model.specs.Node.{Core, Dropped, Stepped, Taken, initial_core, step}
use Rattle.iss_rules.specs.Past.{log_of}
use Rattle.iss_rules.specs.Rules.{Rules}
use Rattle.iss_rules.specs.Ends.{Forged}
use Rattle.iss_model.specs.Run.{begin_run, Held, failure_free}
use Rattle.iss_model.specs.Views.{claims_of_bytes}
use Rattle.iss_model.specs.Driver.{Progress, run}
use Rattle.iss_model.proofs.Example.{Word, easy, light, plain, short, spell, telling}
use Rattle.iss_theorems.proofs.Examples.ForgedClaims.{after as forging}

abbrev run_of : List Event → Progress (Held Word)
run_of events = run (failure_free plain short easy telling) (begin_run plain) events

core : List Event → ℕ → Core Word
core events i = (run_of events).state.net.cores i

after : List Event → ℕ → List Value
after events i = reverse (log_of easy telling i ((run_of events).state.net.cores i).past)

-- node 2 lags, and asks node 0
abbrev behind : List Event
behind = Hold 2 ∷ Propose 0 ∷ Propose 1 ∷ Propose 2 ∷ Calm 20 ∷ Event_drop 2 ∷ Free 2 ∷ Ask 2 (record { 0 = 0 }) ∷ Calm 20 ∷ []

abbrev empties : List Value
empties = Value_batch [] ∷ Value_batch [] ∷ Value_batch [] ∷ []

-- the certificate that nodes 0 and 1 make, each signing with its first leaf
abbrev signed : ℕ → Signed
signed k = record { by = record { 0 = k }; sig = k ∷ 0 ∷ [] }

abbrev made : Cert
made = record { epoch = record { 0 = 0 }; chain = 1 ∷ 1 ∷ 1 ∷ []; requests = 0; signers = signed 0 ∷ signed 1 ∷ [] }

-- the sender, the recipient and the kind of each packet: 0 a message, 2 a vote, 3 an ask, 4 a piece
abbrev routes : List Sent → List (ℕ × ℕ × List ℕ)
routes [] = []
routes (p ∷ ps) = (p.from, p.to, first p.bytes) ∷ routes ps
  where
    first : List ℕ → List ℕ
    first [] = []
    first (b ∷ bs) = b ∷ []

all_have : after behind 0 ≡ empties
unfolding after
all_have = refl

caught_up : after behind 2 ≡ empties
unfolding after
caught_up = refl

all_taken : (run_of behind).drops ≡ []
all_taken = refl

sent : routes (run_of behind).state.net.network.packets ≡
    (0, 0, 0 ∷ []) ∷ (0, 1, 0 ∷ []) ∷ (0, 2, 0 ∷ []) ∷ (1, 0, 0 ∷ []) ∷ (1, 1, 0 ∷ []) ∷ (1, 2, 0 ∷ []) ∷
    (2, 0, 0 ∷ []) ∷ (2, 1, 0 ∷ []) ∷ (2, 2, 0 ∷ []) ∷ (0, 0, 2 ∷ []) ∷ (0, 1, 2 ∷ []) ∷ (0, 2, 2 ∷ []) ∷
    (1, 0, 2 ∷ []) ∷ (1, 1, 2 ∷ []) ∷ (1, 2, 2 ∷ []) ∷ (2, 0, 3 ∷ []) ∷ (0, 2, 4 ∷ []) ∷ []
sent = refl

certified : (core behind 1).certs ≡ made ∷ []
unfolding core
certified = refl

-- node 2 keeps the certificate of the piece, counted no vote, and signed none
kept : (core behind 2).certs ≡ made ∷ []
unfolding core
kept = refl

uncounted : (core behind 2).votes ≡ []
unfolding core
uncounted = refl

unsigned : (core behind 2).leaf ≡ 0
unfolding core
unsigned = refl

next : (core behind 2).past.epoch ≡ 1
unfolding core
next = refl

once_signed : (core behind 0).leaf ≡ 1
unfolding core
once_signed = refl

-- an ask without a certificate yet, a message of a past epoch, votes that come again or after the certificate
abbrev refused : List Event
refused =
    Ask 0 (record { 0 = 1 }) ∷ Deliver 0 ∷ Propose 0 ∷ Propose 1 ∷ Propose 2 ∷ Calm 2 ∷ Deliver 9 ∷ Deliver 10 ∷ Deliver 12 ∷ Deliver 15 ∷
    Ask 2 (record { 0 = 0 }) ∷ Deliver 18 ∷ Ask 1 (record { 0 = 1 }) ∷ Calm 3 ∷ []

lost : (run_of refused).drops ≡ (11, Known) ∷ (9, Known) ∷ (8, Known) ∷ (7, Known) ∷ (6, OtherEpoch) ∷ (1, NoCert) ∷ []
lost = refl

-- ---- single steps

abbrev why_of : Stepped Word → Option Why
why_of (Dropped why) = Some why
why_of (Taken t) = None

abbrev core_of : Core Word → Stepped Word → Core Word
core_of c (Dropped why) = c
core_of c (Taken t) = t.core

abbrev strings_of : Stepped Word → List (List ℕ)
strings_of (Dropped why) = []
strings_of (Taken t) = t.strings

abbrev vote : ℕ → ℕ → List ℕ → List ℕ
vote k e chain =
    let v : Vote = record { epoch = record { 0 = e }; chain = chain; requests = 0; by = record { 0 = k }; sig = k ∷ 0 ∷ [] } in
    spell k e (OfVote v)

abbrev hears : Core Word → List ℕ → Stepped Word
hears c bytes = step short easy telling 2 c (On_packet bytes)

-- a vote may be of any epoch up to the next
far_vote : why_of (hears initial_core (vote 0 2 [])) ≡ Some OtherEpoch
far_vote = refl

next_vote : why_of (hears initial_core (vote 0 1 [])) ≡ None
next_vote = refl

-- an invalid signature is found before a vote is known
bad_vote : why_of (hears (core_of initial_core (hears initial_core (vote 0 0 []))) (vote 7 0 [])) ≡ Some BadClaim
bad_vote = refl

known_vote : why_of (hears (core_of initial_core (hears initial_core (vote 0 0 []))) (vote 0 0 (1 ∷ []))) ≡ Some Known
known_vote = refl

-- the vote that completes a quorum of equal votes gives the certificate; a different vote does not
abbrev counts : List (List ℕ) → Core Word → Core Word
counts [] c = c
counts (bytes ∷ more) c = counts more (core_of c (hears c bytes))

two_minds : (counts (vote 0 0 (1 ∷ []) ∷ vote 1 0 (2 ∷ []) ∷ []) initial_core).certs ≡ []
two_minds = refl

third : (counts (vote 0 0 (1 ∷ []) ∷ vote 1 0 (2 ∷ []) ∷ vote 2 0 (1 ∷ []) ∷ []) initial_core).certs ≡
    record { epoch = record { 0 = 0 }; chain = 1 ∷ []; requests = 0; signers = signed 0 ∷ signed 2 ∷ [] } ∷ []
third = refl

first_kept : (counts (vote 2 0 (1 ∷ []) ∷ vote 1 0 (1 ∷ []) ∷ vote 0 0 (1 ∷ []) ∷ []) initial_core).certs ≡
    record { epoch = record { 0 = 0 }; chain = 1 ∷ []; requests = 0; signers = signed 1 ∷ signed 2 ∷ [] } ∷ []
first_kept = refl

-- a piece under a certificate
abbrev piece : ℕ → List Value → Cert → List ℕ
piece e values cert =
    let p : Piece = record { epoch = record { 0 = e }; values = values; cert = cert } in
    spell 0 e (OfPiece p)

abbrev with_signers : List Signed → Cert
with_signers xs = record made { signers = xs }

right_piece : why_of (hears initial_core (piece 0 empties made)) ≡ None
right_piece = refl

past_piece : why_of (hears (core_of initial_core (hears initial_core (piece 0 empties made))) (piece 0 empties made)) ≡ Some NotNeeded
past_piece = refl

next_piece : why_of (hears initial_core (piece 1 empties made)) ≡ Some OtherEpoch
next_piece = refl

-- the shape is tested first, then the certificate, then the chain
short_piece : why_of (hears initial_core (piece 0 (Value_batch [] ∷ Value_nil ∷ []) (with_signers []))) ≡ Some OtherEpoch
short_piece = refl

few_signers : why_of (hears initial_core (piece 0 (Value_batch [] ∷ Value_batch [] ∷ Value_nil ∷ []) (with_signers (signed 0 ∷ [])))) ≡ Some BadClaim
few_signers = refl

many_signers : why_of (hears initial_core (piece 0 empties (with_signers (signed 0 ∷ signed 1 ∷ signed 2 ∷ [])))) ≡ Some BadClaim
many_signers = refl

twice_signed : why_of (hears initial_core (piece 0 empties (with_signers (signed 1 ∷ signed 1 ∷ [])))) ≡ Some BadClaim
twice_signed = refl

no_node : why_of (hears initial_core (piece 0 empties (with_signers (signed 1 ∷ signed 7 ∷ [])))) ≡ Some BadClaim
no_node = refl

nil_for_batch : why_of (hears initial_core (piece 0 (Value_batch [] ∷ Value_nil ∷ Value_batch [] ∷ []) made)) ≡ Some Why_wrong_chain
nil_for_batch = refl

wrong_count : why_of (hears initial_core (piece 0 empties (record made { requests = 1 }))) ≡ Some Why_wrong_chain
wrong_count = refl

-- what is hashed: the values of the piece, then those that join the log, each named here by its slot and its size
abbrev named : ℕ → List Value → List (List ℕ)
named n [] = []
named n (v ∷ vs) = (n ∷ size_of v ∷ []) ∷ named (suc n) vs

abbrev naming : Rules
naming = record easy { hashes = λ log values. named (length log) values }

hashed : strings_of (step short naming telling 2 (core (Propose 0 ∷ Propose 1 ∷ Deliver 2 ∷ []) 2) (On_packet (piece 0 empties made))) ≡
    (0 ∷ 0 ∷ []) ∷ (1 ∷ 0 ∷ []) ∷ (2 ∷ 0 ∷ []) ∷ (1 ∷ 0 ∷ []) ∷ (2 ∷ 0 ∷ []) ∷ []
unfolding core
hashed = refl

-- one leaf is kept back for the vote
abbrev with_leaf : ℕ → Core Word
with_leaf n = record initial_core { leaf = n }

no_leaf : why_of (step short easy telling 0 (with_leaf 16) (On_timeout (record { 0 = 0 }))) ≡ Some NoKeys
no_leaf = refl

last_leaf : why_of (step short easy telling 0 (with_leaf 15) (On_timeout (record { 0 = 0 }))) ≡ None
last_leaf = refl

-- under the set-up's rules three empty batches lead to this chain, which each node's vote states
chained : ((rules_of plain).end empties).chain ≡
    181 ∷ 191 ∷ 129 ∷ 2 ∷ 154 ∷ 140 ∷ 156 ∷ 142 ∷ 220 ∷ 220 ∷ 193 ∷ 197 ∷ 184 ∷ 124 ∷ 20 ∷ 15 ∷
    246 ∷ 188 ∷ 175 ∷ 62 ∷ 215 ∷ 219 ∷ 1 ∷ 67 ∷ 202 ∷ 57 ∷ 113 ∷ 19 ∷ 171 ∷ 42 ∷ 189 ∷ 203 ∷ []
unfolding spell_value spell_batch spell_count spell_request sha256 digest_bytes hash_after compress rounds schedule first_words digests_of_height
chained = refl

-- for a module that delivers its proposal at once, the vote follows the step's sends, and claims are in their order
abbrev casts_now : ℕ → List (Item Word) → Option Value
casts_now s [] = None
casts_now s (x ∷ xs) = first_of (casts_now s xs) (cast_now s x.input)
  where
    cast_now : ℕ → Input Word → Option Value
    cast_now s (Cast slot batch) = cond (slot.0 == s) (Some (Value_batch batch)) None
    cast_now s (Receive from word) = cond (word.0.0 == s) (Some (Value_batch word.1)) None
    cast_now s Timeout = None

abbrev prompt : Module Word
prompt = record telling { decided = λ p me xs s. casts_now s xs }

abbrev last : Stepped Word
last = step short easy prompt 0 ((run (failure_free plain short easy prompt) (begin_run plain) (Propose 1 ∷ Propose 2 ∷ Deliver 0 ∷ Deliver 3 ∷ [])).state.net.cores 0) On_propose

abbrev sends_of : Stepped Word → List (To × List ℕ)
sends_of (Dropped why) = []
sends_of (Taken t) = t.sends

abbrev own_of : Stepped Word → List Claim
own_of (Dropped why) = []
own_of (Taken t) = t.own

vote_behind : sends_of last ≡ (To_all, 0 ∷ 0 ∷ 0 ∷ 0 ∷ 0 ∷ []) ∷ (To_all, 2 ∷ 0 ∷ 0 ∷ 0 ∷ 3 ∷ 1 ∷ 1 ∷ 1 ∷ 0 ∷ 0 ∷ []) ∷ []
vote_behind = refl

vote_claimed : own_of last ≡ record { by = record { 0 = 0 }; statement = 0 ∷ 0 ∷ 1 ∷ 1 ∷ 1 ∷ []; sig = 0 ∷ 0 ∷ [] } ∷ []
vote_claimed = refl

-- the claims of bytes: a vote's own, and a piece's certificate's, for any epoch
vote_claims : claims_of_bytes short easy telling 0 (initial_core {Msg = Word}) (vote 1 5 []) ≡
    record { by = record { 0 = 1 }; statement = 5 ∷ 0 ∷ []; sig = 1 ∷ 0 ∷ [] } ∷ []
vote_claims = refl

piece_claims : claims_of_bytes short easy telling 0 (initial_core {Msg = Word}) (piece 0 empties made) ≡
    record { by = record { 0 = 0 }; statement = 0 ∷ 0 ∷ 1 ∷ 1 ∷ 1 ∷ []; sig = 0 ∷ 0 ∷ [] } ∷
    record { by = record { 0 = 1 }; statement = 0 ∷ 0 ∷ 1 ∷ 1 ∷ 1 ∷ []; sig = 1 ∷ 0 ∷ [] } ∷ []
piece_claims = refl

-- a piece that is sent to a peer claims the node's own vote
handed : own_of (step short easy telling 0 (core behind 0) (On_packet (3 ∷ 2 ∷ 0 ∷ []))) ≡
    record { by = record { 0 = 0 }; statement = 0 ∷ 0 ∷ 1 ∷ 1 ∷ 1 ∷ []; sig = 0 ∷ 0 ∷ [] } ∷ []
unfolding core
handed = refl

-- a vote that its node never signed stops the run, unless the node is faulty
forged_vote : (forging (Bytes 1 (vote 0 0 []) ∷ [])).ended ≡
    Some (0, Forged (record { by = record { 0 = 0 }; statement = 0 ∷ 0 ∷ []; sig = 0 ∷ 0 ∷ [] }))
forged_vote = refl

faulty_vote : (forging (Bytes 1 (vote 3 0 []) ∷ [])).ended ≡ None
faulty_vote = refl

-- with digests and epochs of one slot: node 2 recovers its lag, and no hashed strings collide, values and links
-- included
abbrev tiny : Setup
tiny = record plain { epoch = 1 }

abbrev digesting : Rules
digesting = record (light (rules_of tiny) 3) { end = (rules_of tiny).end; hashes = (rules_of tiny).hashes }

abbrev digested : Progress (Held Word)
digested = run (failure_free tiny short digesting telling) (begin_run tiny)
    (Hold 2 ∷ Propose 0 ∷ Calm 3 ∷ Event_drop 2 ∷ Free 2 ∷ Ask 2 (record { 0 = 0 }) ∷ Calm 3 ∷ [])

abbrev outcome : Progress (Held Word) → ℕ × ℕ × ℕ
outcome p = (length p.state.hashed, (p.state.net.cores 2).past.epoch, length p.drops)

collision_free : outcome digested ≡ (9, 1, 0)
unfolding spell_value spell_batch spell_count spell_request sha256 digest_bytes hash_after compress rounds schedule first_words digests_of_height
collision_free = refl
