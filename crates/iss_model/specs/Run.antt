-- A run: all cores and the network over a schedule. Cores below n are the nodes; behind them each faulty node has a
-- second core, its twin, with the same keys. Two books record what correct nodes signed and what any core hashed. An
-- event first tests the claims that it reads against the book, and then its strings. A forged claim of a correct node
-- ends the run, and so do two strings of one digest. What is held then is what stood before that delivery. A lost
-- event is noted with its number and cause.
use Rattle.std.specs.Prelude.{ℕ, ◌-◌, ◌==◌, ◌&&◌, nat_lt, not, cond, Bool, true, false, List, [], ◌∷◌, ◌++◌, Option, Some, None}
use Rattle.std.specs.List.{filter}
use Rattle.iss_base.specs.Lists.{below, first_of, nth, push_all, same_bytes, set_at}
use Rattle.iss_network.specs.Network.{Network, empty_network, posted}
use Rattle.iss_request.specs.Digest.{digest}
use Rattle.iss_request.specs.declared.ids.NodeId.{NodeId}
use Rattle.iss_request.specs.declared.setups.Setup.{Setup}
pub use Rattle.iss_schedule.specs.Cores.{cores_of}
use Rattle.iss_sb.specs.declared.effects.Claim.{Claim}
use Rattle.iss_sb.specs.declared.effects.To.{To}
use Rattle.iss_sb.specs.declared.effects.To.TheVariants.{All as To_all, One as To_one}
use Rattle.iss_sb.specs.Evidence.{Module, is_correct}
use Rattle.iss_rules.specs.declared.events.NodeEvent.{NodeEvent}
use Rattle.iss_rules.specs.declared.events.NodeEvent.TheVariants.{Packet as On_packet, Propose as On_propose, Timeout as On_timeout, AskFrom as On_ask}
use Rattle.iss_rules.specs.Books.{Signed}
use Rattle.iss_rules.specs.Parcels.{Formats, OfRequest}
use Rattle.iss_model.specs.Driver.{Driver, Progress, Upshot, begin_at, done, ended_by, lost_by}
use Rattle.iss_model.specs.Node.{Core, Stepped, Dropped, Taken, Turn, initial_core, step}
use Rattle.iss_rules.specs.Rules.{Rules}
use Rattle.iss_model.specs.Views.{claims_of_bytes}
use Rattle.iss_rules.specs.Ends.{Collision, End, Forged}
use Rattle.iss_rules.specs.Concrete.{request_of}

-- Core i < n runs node i. Core n + k is the twin of the k-th faulty node: a second core with the same keys.
abbrev pub number_at : Option NodeId → ℕ
number_at None = 0
number_at (Some k) = k.0

-- rule: Runs: A faulty node runs as two cores with the same keys
abbrev pub node_of : Setup → ℕ → ℕ
node_of s c = cond (nat_lt c s.n) c (number_at (nth s.faulty (c - s.n)))

-- all cores, and the network between them
pub record Net (Msg : Type 0) : Type 0 where
  pub cores : ℕ → Core Msg
  pub network : Network

-- The state of a run: cores and network, the book of statements that correct nodes signed and sent, and the book of
-- hashed strings, newest first.
pub record Held (Msg : Type 0) : Type 0 where
  pub net : Net Msg
  pub signed : List Signed
  pub hashed : List (List ℕ)

-- only the network changes
abbrev pub with_network : {Msg : Type 0} → Held Msg → Network → Held Msg
with_network h network = record {
  net = record { cores = h.net.cores; network = network };
  signed = h.signed;
  hashed = h.hashed;
}

-- A send to all posts one packet to each core, ascending. A send to one node posts one to each of its cores.
-- rule: Network: A send to all is a packet for each core, a send to a node one for each of its cores
abbrev pub addressees : Setup → To → List ℕ
addressees s To_all = below (cores_of s)
addressees s (To_one k) = filter (λ c. node_of s c == k.0) (below (cores_of s))

-- posts the packet to each of these cores
abbrev pub posted_to : Network → ℕ → List ℕ → List ℕ → Network
posted_to w from bytes [] = w
posted_to w from bytes (c ∷ cs) = posted_to (posted w (record { from = from; to = c; bytes = bytes })) from bytes cs

-- posts the packets of a step, in order
abbrev pub posted_all : Setup → Network → ℕ → List (To × List ℕ) → Network
posted_all s w from [] = w
posted_all s w from (x ∷ xs) = posted_all s (posted_to w from x.1 (addressees s x.0)) from xs

-- the claims that a node reads in an event before its step
abbrev pub claims_at : {Msg : Type 0} → Formats Msg → Rules → Module Msg → ℕ → Core Msg → NodeEvent → List Claim
claims_at F R M me c (On_packet bytes) = claims_of_bytes F R M me c bytes
claims_at F R M me c On_propose = []
claims_at F R M me c (On_timeout l) = []
claims_at F R M me c (On_ask peer) = []

-- the claims that the step read in early messages
abbrev pub early_of : {Msg : Type 0} → Stepped Msg → List Claim
early_of (Dropped why) = []
early_of (Taken t) = t.early

-- whether the book has this statement of node i
abbrev pub has_signed : ℕ → List ℕ → List Signed → Bool
has_signed i statement [] = false
has_signed i statement (x ∷ xs) = cond ((x.by == i) && same_bytes x.statement statement) true
    (has_signed i statement xs)

-- the signature is valid, its signer is correct, and the statement is not in the book
abbrev pub is_forged : Setup → Rules → List Signed → Claim → Bool
is_forged s R book c = R.verifies c.by.0 c.statement c.sig &&
    (is_correct s c.by.0 && not (has_signed c.by.0 c.statement book))

-- the first forged claim of a list
abbrev pub first_forged : Setup → Rules → List Signed → List Claim → Option Claim
first_forged s R book [] = None
first_forged s R book (c ∷ cs) = cond (is_forged s R book c) (Some c) (first_forged s R book cs)

-- different strings with one digest
abbrev pub is_collision : List ℕ → List ℕ → Bool
is_collision a b = same_bytes (digest a) (digest b) && not (same_bytes a b)

-- The string collides with one hashed before it. The evidence names the earlier string first.
abbrev pub collision_with : List ℕ → List (List ℕ) → Option End
collision_with x [] = None
collision_with x (b ∷ book) = cond (is_collision b x) (Some (Collision b x)) (collision_with x book)

-- the first collision of a step, whose strings enter the book in order
abbrev pub collision_in : List (List ℕ) → List (List ℕ) → Option End
collision_in [] book = None
collision_in (x ∷ xs) book = first_of (collision_with x book) (collision_in xs (x ∷ book))

abbrev pub as_signed : List Claim → List Signed
as_signed [] = []
as_signed (c ∷ cs) = record { by = c.by.0; statement = c.statement } ∷ as_signed cs

-- the statements of a step that enter the book: none if the core's node is faulty
-- rule: Evidence: The claims that correct nodes send are booked, and none of a faulty node
abbrev pub booked : Setup → ℕ → List Claim → List Signed
booked s c own = cond (is_correct s c) (as_signed own) []

-- The core takes the outcome. Its packets are posted, and its statements and strings enter the books.
abbrev pub turned_to : {Msg : Type 0} → Setup → Held Msg → ℕ → Turn Msg → Held Msg
turned_to s h c t =
    record {
      net = record { cores = set_at h.net.cores c t.core; network = posted_all s h.net.network c t.sends };
      signed = booked s c t.own ++ h.signed;
      hashed = push_all t.strings h.hashed;
    }

-- a collision stops the run
abbrev pub by_collision : {Msg : Type 0} → Option End → Held Msg → Held Msg → Upshot (Held Msg)
by_collision None h next = done next
by_collision (Some end) h next = ended_by h end

abbrev pub after_step : {Msg : Type 0} → Setup → Held Msg → ℕ → Stepped Msg → Upshot (Held Msg)
after_step s h c (Dropped why) = lost_by h why
after_step s h c (Taken t) = by_collision (collision_in t.strings h.hashed) h (turned_to s h c t)

-- a forged claim stops the run
abbrev pub by_forged : {Msg : Type 0} → Option Claim → Held Msg → Upshot (Held Msg) → Upshot (Held Msg)
by_forged None h next = next
by_forged (Some claim) h next = ended_by h (Forged claim)

-- Core c takes an event. Each claim that it read is tested against the book as it was before the step; a forged one
-- stops the run. So does a hash collision in the step.
-- rule: Evidence: A verified claim that its correct signer never sent ends the run before the step
abbrev pub at_core : {Msg : Type 0} → Setup → Formats Msg → Rules → Module Msg → Held Msg → ℕ → NodeEvent →
    Upshot (Held Msg)
at_core s F R M h c event =
    let core = h.net.cores c in
    let stepped = step F R M (node_of s c) core event in
    by_forged (first_forged s R h.signed (claims_at F R M (node_of s c) core event ++ early_of stepped)) h
    (after_step s h c stepped)

-- a client's request arrives as a packet of sender 255, which is no node
abbrev pub arrival_of : {Msg : Type 0} → Setup → Formats Msg → ℕ → ℕ → List ℕ → List ℕ
arrival_of s F client number payload =
    F.wrap (record { from = 255; epoch = 0; body = OfRequest (request_of s client number payload) })

-- A run in which no disk fails, so that a crash and a restart do nothing
abbrev pub failure_free : {Msg : Type 0} → Setup → Formats Msg → Rules → Module Msg → Driver (Held Msg)
failure_free s F R M = record {
  takes = at_core s F R M;
  network = λ h. h.net.network;
  rewired = with_network;
  restart = λ h c. done h;
  crash = λ h c calls. h;
  arrival = arrival_of s F;
  stopping = M.stopping;
}

-- the start: no core took an event
abbrev pub begin_net : {Msg : Type 0} → Setup → Net Msg
begin_net s = record { cores = λ i. initial_core; network = empty_network (cores_of s) }

-- nothing was signed; the empty string counts as hashed
abbrev pub begin_held : {Msg : Type 0} → Setup → Held Msg
begin_held s = record { net = begin_net s; signed = []; hashed = [] ∷ [] }

-- a run of no events
abbrev pub begin_run : {Msg : Type 0} → Setup → Progress (Held Msg)
begin_run s = begin_at (begin_held s)
