-- One replica over all epochs: what a core holds, and one step of it. A core has its past, waiting requests, batches
-- in flight, early messages, votes, certificates, and the next leaf. Bytes decode to a request, a module's message, a
-- vote, an ask or a piece; each is taken or dropped for the first cause that holds. A proposal casts a batch of own
-- waiting requests at the first free slot. When the log holds the whole epoch, the replica votes, enters the next one,
-- and takes what came early. A turn is what a step leads to: the core, the sends, the claims and the hashed strings.
use Rattle.std.specs.Prelude.{ℕ, suc, ◌+◌, ◌-◌, ◌==◌, nat_lt, cond, Bool, false, not, ◌&&◌, ◌||◌}
use Rattle.std.specs.Prelude.{List, [], ◌∷◌, ◌++◌, Option, Some, None, length, is_some, reverse, take}
use Rattle.iss_buckets.specs.Waiting.{absent, cut, uncut}
use Rattle.iss_base.specs.Lists.{first_of, push_all}
use Rattle.iss_checkpoint.specs.declared.votes.Cert.{Cert}
use Rattle.iss_checkpoint.specs.declared.votes.Vote.{Vote}
use Rattle.iss_keys.specs.KeyStates.{left_of}
pub use Rattle.iss_layout.specs.Layout.{is_nil_at}
use Rattle.iss_request.specs.Log.{has_id, ids, log_ids}
use Rattle.iss_request.specs.declared.ids.NodeId.{NodeId}
use Rattle.iss_request.specs.declared.ids.ReqId.{ReqId}
use Rattle.iss_request.specs.declared.ids.Slot.{Slot}
use Rattle.iss_request.specs.declared.requests.Batch.{Batch}
use Rattle.iss_request.specs.declared.requests.Request.{Request}
use Rattle.iss_request.specs.declared.requests.Value.{Value}
use Rattle.iss_sb.specs.declared.effects.Claim.{Claim}
use Rattle.iss_sb.specs.declared.effects.Input.{Input}
use Rattle.iss_sb.specs.declared.effects.Input.TheVariants.{Cast, Receive, Timeout}
use Rattle.iss_sb.specs.declared.effects.Params.{Params}
use Rattle.iss_sb.specs.declared.effects.To.{To}
use Rattle.iss_sb.specs.declared.effects.To.TheVariants.{All as To_all, One as To_one}
use Rattle.iss_transfer.specs.Adoption.{said_in, same_end}
use Rattle.iss_transfer.specs.declared.pieces.Piece.{Piece as Sent_piece}
use Rattle.iss_sb.specs.Evidence.{Item, Module, accepts, delivered}
use Rattle.iss_rules.specs.declared.events.NodeEvent.{NodeEvent}
use Rattle.iss_rules.specs.declared.events.NodeEvent.TheVariants.{Packet as On_packet, Propose as On_propose, Timeout as On_timeout, AskFrom as On_ask}
use Rattle.iss_rules.specs.declared.events.Refusal.{Refusal}
use Rattle.iss_rules.specs.declared.events.Why.{Why}
use Rattle.iss_rules.specs.declared.events.Why.TheVariants.{NotPacket, BadRequest, Known, OutOfWindow as Why_out_of_window, OtherEpoch, EarlyFull, NotLeader, BadClaim, NothingToCast, NoKeys, Refused, NoCert, NotNeeded, WrongChain as Why_wrong_chain}
use Rattle.iss_rules.specs.Judge.{marks}
use Rattle.iss_rules.specs.Past.{Past, adopts, advanced, before_own, cut_at, ended_log, initial_history, is_complete, leads_in, log_of, made_in, params_of, start_of, taken_in, takes}
use Rattle.iss_rules.specs.Rules.{Rules}
use Rattle.iss_rules.specs.Parcels.{Body, Formats, OfAsk, OfModule, OfPiece, OfRequest, OfVote, Parcel}
use Rattle.iss_rules.specs.Votes.{all_verify, cert_on, claim_of_vote, claims_of_cert, is_true_cert, keeping, stable, vote_by}
use Rattle.iss_rules.specs.Verdicts.{verdict_in}

-- a module's message of the next epoch
pub record Early (Msg : Type 0) : Type 0 where
  pub from : ℕ
  pub leader : ℕ
  pub msg : Msg

-- the state of a node
pub record Core (Msg : Type 0) : Type 0 where
  pub past : Past Msg
  -- The waiting requests in order of arrival, and the batches in flight: proposed at a slot that is not yet in the log.
  pub waiting : List Request
  pub flight : List (Slot × Batch)
  -- the messages of the next epoch, in order of arrival
  pub early : List (Early Msg)
  -- the checkpoint votes that were counted, and the stable certificates, newest first
  pub votes : List Vote
  pub certs : List Cert
  -- the next unused leaf of the node's key
  pub leaf : ℕ

-- the state of a node that took no event
abbrev pub initial_core : {Msg : Type 0} → Core Msg
initial_core = record {
  past = initial_history;
  waiting = [];
  flight = [];
  early = [];
  votes = [];
  certs = [];
  leaf = 0;
}

-- The outcome of a step: the new core, the packets to send (in order), the own claims in them, the claims in early
-- messages that were taken, and the strings hashed. If the step entered an epoch, also the core as it entered the
-- newest one, with the early messages that it took next.
pub record Turn (Msg : Type 0) : Type 0 where
  pub core : Core Msg
  pub entered : Option (Core Msg)
  pub sends : List (To × List ℕ)
  pub own : List Claim
  pub early : List Claim
  pub strings : List (List ℕ)

-- an event is dropped for a reason, and changes nothing, or it is accepted
pub data Stepped (Msg : Type 0) : Type 0 where
  Dropped : (why : Why) → Stepped Msg
  Taken : (turn : Turn Msg) → Stepped Msg

-- the batches in flight at slot n or later
abbrev pub flying : ℕ → List (Slot × Batch) → List (Slot × Batch)
flying n [] = []
flying n (x ∷ xs) = cond (nat_lt x.0.0 n) (flying n xs) (x ∷ flying n xs)

-- the values that a log has beyond its oldest n
abbrev pub joined : ℕ → List Value → List Value
joined n log = take (length log - n) log

-- the own requests at slots that became nil, in the order of their proposals
-- rule: Epochs: Requests proposed in a slot that became nil wait again, unless they are ordered
abbrev pub returned : List Value → List (Slot × Batch) → List Request
returned log [] = []
returned log (x ∷ xs) = cond (is_nil_at log x.0.0) (x.1 ++ returned log xs) (returned log xs)

-- The core after its log grew. Ordered requests leave the waiting list, and filled slots leave the flight. Own requests
-- at slots that became nil are queued again, last, unless the log holds them.
abbrev pub after_growth : {Msg : Type 0} → Rules → Module Msg → ℕ → Core Msg → Past Msg → ℕ → Core Msg
after_growth R M me c past leaf =
    let old = log_of R M me c.past in
    let log = log_of R M me past in
    record {
      past = past;
      waiting = absent (log_ids (joined (length old) log)) c.waiting ++ absent (log_ids log) (returned log c.flight);
      flight = flying (length log) c.flight;
      early = c.early;
      votes = c.votes;
      certs = c.certs;
      leaf = leaf;
    }

-- the strings hashed as a log grows: for each slot the value's, then the chain link's
abbrev pub grown_strings : Rules → List Value → List Value → List (List ℕ)
grown_strings R old log = R.hashes old (reverse (joined (length old) log))

-- the messages of the instance of leader l, as packets
abbrev pub packed : {Msg : Type 0} → Formats Msg → ℕ → ℕ → ℕ → List (To × Msg) → List (To × List ℕ)
packed F me e l [] = []
packed F me e l (x ∷ xs) = (x.0, F.wrap (record { from = me; epoch = e; body = OfModule l x.1 })) ∷ packed F me e l xs

-- the claims of node i
abbrev pub only_by : ℕ → List Claim → List Claim
only_by i [] = []
only_by i (c ∷ cs) = cond (c.by.0 == i) (c ∷ only_by i cs) (only_by i cs)

-- the own claims of node i in the messages that it sends
-- rule: Evidence: An outcome lists the node's own claims in all that it sends
abbrev pub own_claims : {Msg : Type 0} → Module Msg → Params → ℕ → List (To × Msg) → List Claim
own_claims M p i [] = []
own_claims M p i (x ∷ xs) = only_by i (M.claims p i x.1) ++ own_claims M p i xs

-- the node gives an input to the instance of leader l in its epoch, without a verdict of the judge
abbrev pub step_unjudged : {Msg : Type 0} → Formats Msg → Rules → Module Msg → ℕ → Core Msg → ℕ → Input Msg → Turn Msg
step_unjudged F R M me c l input =
    let made = made_in R M me c.past l input c.leaf in
    record {
      entered = None;
      core = after_growth R M me c (takes R M me c.past l input c.leaf) (c.leaf + made.used);
      sends = packed F me c.past.epoch l made.sends;
      own = own_claims M (params_of R M me c.past l) me made.sends;
      early = [];
      strings = made.strings ++ grown_strings R (log_of R M me c.past)
          (log_of R M me (takes R M me c.past l input c.leaf));
    }

-- a batch that the judge refuses drops the event
abbrev pub by_verdict : {Msg : Type 0} → Option Refusal → Turn Msg → Stepped Msg
by_verdict None turn = Taken turn
by_verdict (Some x) turn = Dropped (Refused x)

-- the step may sign and still leave one leaf for the checkpoint vote
-- rule: Acceptance: A node keeps one leaf back for its vote at the end of the epoch
abbrev pub has_leaves : {Msg : Type 0} → Module Msg → Params → ℕ → Bool
has_leaves M p leaf = not (nat_lt (left_of (record { secret = []; height = p.setup.keys; used = leaf }))
    (suc (M.signs p)))

-- what an input claims that nodes signed
abbrev pub claims_of_input : {Msg : Type 0} → Module Msg → Params → Input Msg → List Claim
claims_of_input M p (Cast slot batch) = []
claims_of_input M p (Receive from msg) = M.claims p from.0 msg
claims_of_input M p Timeout = []

-- Steps the instance of leader l. The input is dropped, in this order, if l does not lead this epoch, a claimed
-- signature is invalid, too few leaves are left, or the judge refuses the batch.
-- rule: Acceptance: An instance takes an input if it leads, its claims verify, leaves are left, no refusal
abbrev pub try_step : {Msg : Type 0} → Formats Msg → Rules → Module Msg → ℕ → Core Msg → ℕ → Input Msg → Stepped Msg
try_step F R M me c l input =
    cond (not (leads_in R M me c.past l)) (Dropped NotLeader)
    (cond (not (all_verify R (claims_of_input M (params_of R M me c.past l) input))) (Dropped BadClaim)
    (cond (not (has_leaves M (params_of R M me c.past l) c.leaf)) (Dropped NoKeys)
    (by_verdict (verdict_in R M me c.past l input) (step_unjudged F R M me c l input))))

-- the claims in a message to the instance of leader l, if l leads the node's epoch
abbrev pub claims_in : {Msg : Type 0} → Rules → Module Msg → ℕ → Past Msg → ℕ → ℕ → Msg → List Claim
claims_in R M me c from l msg = cond (leads_in R M me c l) (M.claims (params_of R M me c l) from msg) []

-- the outcome that changes nothing
abbrev pub unchanged : {Msg : Type 0} → Core Msg → Turn Msg
unchanged c = record { core = c; entered = None; sends = []; own = []; early = []; strings = [] }

-- one outcome, then what follows from the core it leaves; effects in order
abbrev pub then_turn : {Msg : Type 0} → Turn Msg → (Core Msg → Turn Msg) → Turn Msg
then_turn t more =
    let u = more t.core in
    record {
      core = u.core;
      entered = first_of u.entered t.entered;
      sends = t.sends ++ u.sends;
      own = t.own ++ u.own;
      early = t.early ++ u.early;
      strings = t.strings ++ u.strings;
    }

-- the next epoch begins, with no early messages
abbrev pub in_next_epoch : {Msg : Type 0} → Core Msg → Core Msg
in_next_epoch c = record c { past = advanced c.past; early = [] }

-- the node's checkpoint vote for the epoch that it ends, signed with its next leaf
abbrev pub vote_on : {Msg : Type 0} → Rules → Module Msg → ℕ → Core Msg → Vote
vote_on R M me c =
    let end = R.end (ended_log R M me c.past) in
    record {
      epoch = record { 0 = c.past.epoch };
      chain = end.chain;
      requests = end.requests;
      by = record { 0 = me };
      sig = R.signature me c.leaf (R.voted c.past.epoch end.chain end.requests);
    }

-- a node that ends its epoch sends its checkpoint vote to all, and begins the next epoch
-- rule: Checkpoints: A node whose log ends an epoch votes to all on the log's chain and request count
abbrev pub ends : {Msg : Type 0} → Formats Msg → Rules → Module Msg → ℕ → Core Msg → Turn Msg
ends F R M me c =
    let v = vote_on R M me c in
    let next = record (in_next_epoch c) { leaf = suc c.leaf } in
    record {
      core = next;
      entered = Some (record next { early = c.early });
      sends = (To_all, F.wrap (record { from = me; epoch = c.past.epoch; body = OfVote v })) ∷ [];
      own = claim_of_vote R v ∷ [];
      early = [];
      strings = [];
    }

-- the node ends its epoch if the log holds all of it
abbrev pub ended : {Msg : Type 0} → Formats Msg → Rules → Module Msg → ℕ → Turn Msg → Turn Msg
ended F R M me t = cond (is_complete R M me t.core.past) (then_turn t (ends F R M me)) t

-- the outcome of a step, or no change if the event was dropped
abbrev pub or_unchanged : {Msg : Type 0} → Core Msg → Stepped Msg → Turn Msg
or_unchanged c (Dropped why) = unchanged c
or_unchanged c (Taken turn) = turn

-- Takes an early message as if it arrived now. If it is dropped it is gone, but its claims were read.
-- rule: Evidence: The claims of an early message are read even where the message is then refused
abbrev pub takes_early : {Msg : Type 0} → Formats Msg → Rules → Module Msg → ℕ → Core Msg → Early Msg → Turn Msg
takes_early F R M me c x =
    let t = ended F R M me (or_unchanged c (try_step F R M me c x.leader (Receive (record { 0 = x.from }) x.msg))) in
    record t { early = claims_in R M me c.past x.from x.leader x.msg }

-- takes early messages in order while the node is in epoch e
-- rule: Epochs: Early messages are taken once each, in order of arrival, while their epoch lasts
abbrev pub takes_each : {Msg : Type 0} → Formats Msg → Rules → Module Msg → ℕ → ℕ → List (Early Msg) →
    Core Msg → Turn Msg
takes_each F R M me e [] c = unchanged c
takes_each F R M me e (x ∷ xs) c =
    cond (c.past.epoch == e) (then_turn (takes_early F R M me c x) (takes_each F R M me e xs)) (unchanged c)

-- If the step filled the epoch, the node votes, begins the next epoch, and takes the messages that came early for it.
-- rule: Epochs: An epoch ends when the log holds all of it, and the next begins with fresh instances
abbrev pub advance_epochs : {Msg : Type 0} → Formats Msg → Rules → Module Msg → ℕ → Turn Msg → Turn Msg
advance_epochs F R M me t =
    cond (is_complete R M me t.core.past)
    (then_turn (then_turn t (ends F R M me)) (takes_each F R M me (suc t.core.past.epoch) t.core.early))
    t

-- an accepted step may end the epoch
abbrev pub finish_step : {Msg : Type 0} → Formats Msg → Rules → Module Msg → ℕ → Stepped Msg → Stepped Msg
finish_step F R M me (Dropped why) = Dropped why
finish_step F R M me (Taken turn) = Taken (advance_epochs F R M me turn)

-- the identities of the requests in flight
abbrev pub flown : List (Slot × Batch) → List ReqId
flown [] = []
flown (x ∷ xs) = ids x.1 ++ flown xs

-- whether a request waits, is in flight, or is in the log
abbrev pub is_known : {Msg : Type 0} → Rules → Module Msg → ℕ → Core Msg → ReqId → Bool
is_known R M me c x = has_id x (ids c.waiting) ||
    (has_id x (flown c.flight) || has_id x (log_ids (log_of R M me c.past)))

-- A client's request is queued, unless (in this order) it is unsigned or of no client, already known, or outside the
-- client's window.
-- rule: Acceptance: A request that its client did not sign is dropped before any other test
-- rule: Acceptance: A request is taken inside its window, if not waiting, in flight or ordered
abbrev pub takes_request : {Msg : Type 0} → Rules → Module Msg → ℕ → Core Msg → Request → Stepped Msg
takes_request R M me c q =
    cond (not (R.signed q)) (Dropped BadRequest)
    (cond (is_known R M me c q.id) (Dropped Known)
    (cond (not (R.inside (before_own R M me c.past) c.past.epoch q.id)) (Dropped Why_out_of_window)
    (Taken (unchanged (record c { waiting = c.waiting ++ q ∷ [] })))))

-- the most early messages that a node keeps
abbrev pub early_most : ℕ
early_most = 256

-- a message of the next epoch is kept, if there is room
-- rule: Epochs: A message of the next epoch is kept for it, up to a fixed number of them
abbrev pub keeps_early : {Msg : Type 0} → Core Msg → Early Msg → Stepped Msg
keeps_early c x = cond (nat_lt (length c.early) early_most) (Taken (unchanged (record c { early = c.early ++ x ∷ [] })))
    (Dropped EarlyFull)

-- a message of the node's epoch is taken, one of the next epoch is kept, and all others are dropped
abbrev pub takes_message : {Msg : Type 0} → Formats Msg → Rules → Module Msg → ℕ → Core Msg → ℕ → ℕ → ℕ →
    Msg → Stepped Msg
takes_message F R M me c from e l msg =
    cond (e == c.past.epoch) (finish_step F R M me (try_step F R M me c l (Receive (record { 0 = from }) msg)))
    (cond (e == suc c.past.epoch) (keeps_early c (record { from = from; leader = l; msg = msg }))
    (Dropped OtherEpoch))

-- ---- votes

-- Counts a checkpoint vote. If equal votes now form a quorum, the epoch's certificate becomes stable.
abbrev pub counted : {Msg : Type 0} → Rules → Core Msg → Vote → Core Msg
counted R c v = record c { votes = v ∷ c.votes; certs = stable R (v ∷ c.votes) v ++ c.certs }

-- the epoch has a stable certificate, or this node's vote was counted before
abbrev pub is_counted : {Msg : Type 0} → Core Msg → Vote → Bool
is_counted c v = is_some (cert_on c.certs v.epoch.0) || is_some (vote_by c.votes v.epoch.0 v.by.0)

-- A checkpoint vote is counted, unless its epoch is more than one ahead, its signature is invalid, or it is known.
-- rule: Checkpoints: A node drops a vote that is far ahead, unverified or known, and counts any other
abbrev pub takes_vote : {Msg : Type 0} → Rules → Core Msg → Vote → Stepped Msg
takes_vote R c v =
    cond (nat_lt (suc c.past.epoch) v.epoch.0) (Dropped OtherEpoch)
    (cond (not (all_verify R (claim_of_vote R v ∷ []))) (Dropped BadClaim)
    (cond (is_counted c v) (Dropped Known)
    (Taken (unchanged (counted R c v)))))

-- ---- asks

-- the values of an epoch in a log, in the order of their slots
abbrev pub values_of : Rules → List Value → ℕ → List Value
values_of R log e = reverse (joined (length (cut_at R log e)) (cut_at R log (suc e)))

-- The reply to a lagging node: the epoch's values with its certificate, which may hold the node's own vote.
abbrev pub handing : {Msg : Type 0} → Formats Msg → Rules → Module Msg → ℕ → Core Msg → ℕ → ℕ → Cert → Turn Msg
handing F R M me c to e cert =
    let piece : Sent_piece = record {
      epoch = record { 0 = e };
      values = values_of R (log_of R M me c.past) e;
      cert = cert;
    } in
    record {
      core = c;
      entered = None;
      sends = (To_one (record { 0 = to }), F.wrap (record { from = me; epoch = e; body = OfPiece piece })) ∷ [];
      own = only_by me (claims_of_cert R cert);
      early = [];
      strings = [];
    }

-- the node sends an epoch to a lagging node, if it has the epoch's certificate and all of its values
-- rule: Transfer: An ask is answered to the asker alone, if the node has the epoch and its certificate
abbrev pub hands_out : {Msg : Type 0} → Formats Msg → Rules → Module Msg → ℕ → Core Msg → ℕ → ℕ →
    Option Cert → Stepped Msg
hands_out F R M me c to e None = Dropped NoCert
hands_out F R M me c to e (Some cert) =
    let log = log_of R M me c.past in
    cond (nat_lt (length log) (start_of R log (suc e))) (Dropped NoCert)
    (Taken (handing F R M me c to e cert))

-- the node asks a peer for the epoch that it is in
-- rule: Network: An ask goes to each core of the node that is asked, for the asker's own epoch
abbrev pub asking : {Msg : Type 0} → Formats Msg → ℕ → Core Msg → NodeId → Turn Msg
asking F me c peer =
    record {
      core = c;
      entered = None;
      sends = (To_one peer, F.wrap (record { from = me; epoch = c.past.epoch; body = OfAsk })) ∷ [];
      own = [];
      early = [];
      strings = [];
    }

-- ---- pieces

-- the piece and its certificate are of epoch e, with one value for each slot
abbrev pub has_shape : Rules → List Value → ℕ → Sent_piece → Bool
has_shape R before e p = (p.cert.epoch.0 == e) && (length p.values == R.slots before e)

-- the log with these values has the chain and request count that the certificate states
abbrev pub leads_to : Rules → List Value → Sent_piece → Bool
leads_to R before p = same_end (R.end (push_all p.values before)) (said_in p.cert)

-- the node adopts the values of its epoch, and ends the epoch without a vote
abbrev pub adopts_piece : {Msg : Type 0} → Rules → Module Msg → ℕ → Core Msg → Sent_piece → Turn Msg
adopts_piece R M me c p =
    let past = adopts c.past (record { epoch = c.past.epoch; values = p.values }) in
    let before = before_own R M me c.past in
    let certs = keeping c.certs p.cert (cert_on c.certs c.past.epoch) in
    let next = record (after_growth R M me c past c.leaf) { early = []; certs = certs } in
    record {
      core = next;
      entered = Some (record next { early = c.early });
      sends = [];
      own = [];
      early = [];
      strings = R.hashes before p.values ++ grown_strings R (log_of R M me c.past) (log_of R M me past);
    }

-- State transfer: a piece is adopted. It is dropped, in this order, if its epoch is past, its epoch is ahead, its
-- shape is wrong, its certificate is invalid, or its values do not lead to the certified log.
-- rule: Transfer: An adopted piece of the own epoch fills the empty slots and ends the epoch without a vote
abbrev pub takes_piece : {Msg : Type 0} → Formats Msg → Rules → Module Msg → ℕ → Core Msg → Sent_piece → Stepped Msg
takes_piece F R M me c p =
    let e = c.past.epoch in
    let before = before_own R M me c.past in
    cond (nat_lt p.epoch.0 e) (Dropped NotNeeded)
    (cond (nat_lt e p.epoch.0) (Dropped OtherEpoch)
    (cond (not (has_shape R before e p)) (Dropped OtherEpoch)
    (cond (not (is_true_cert R p.cert)) (Dropped BadClaim)
    (cond (not (leads_to R before p)) (Dropped Why_wrong_chain)
    (Taken (then_turn (adopts_piece R M me c p) (takes_each F R M me (suc e) c.early)))))))

-- ---- packets

-- a packet's content goes to its handler by its kind
abbrev pub takes_parcel : {Msg : Type 0} → Formats Msg → Rules → Module Msg → ℕ → Core Msg → ℕ → ℕ →
    Body Msg → Stepped Msg
takes_parcel F R M me c from e (OfRequest q) = takes_request R M me c q
takes_parcel F R M me c from e (OfModule l msg) = takes_message F R M me c from e l msg
takes_parcel F R M me c from e (OfVote v) = takes_vote R c v
takes_parcel F R M me c from e OfAsk = hands_out F R M me c from e (cert_on c.certs e)
takes_parcel F R M me c from e (OfPiece p) = takes_piece F R M me c p

-- bytes that are no packet are dropped
abbrev pub takes_bytes : {Msg : Type 0} → Formats Msg → Rules → Module Msg → ℕ → Core Msg →
    Option (Parcel Msg) → Stepped Msg
takes_bytes F R M me c None = Dropped NotPacket
takes_bytes F R M me c (Some k) = takes_parcel F R M me c k.from k.epoch k.body

-- whether the node may propose the request: it owns the bucket, and has not accepted the request in its own instance
abbrev pub is_mine : {Msg : Type 0} → Rules → Module Msg → ℕ → Core Msg → Request → Bool
is_mine R M me c q =
    (R.owner (before_own R M me c.past) c.past.epoch q.id == me) &&
    not (has_id q.id (marks (accepts (taken_in c.past me))))

-- whether something is in flight at the slot
abbrev pub has_slot : ℕ → List (Slot × Batch) → Bool
has_slot s [] = false
has_slot s (x ∷ xs) = (x.0.0 == s) || has_slot s xs

-- Whether the node may propose at a slot of its segment: nothing is in flight there, nothing is delivered there, and
-- the module accepts a proposal there.
abbrev pub is_castable : {Msg : Type 0} → Module Msg → Params → ℕ → List (Item Msg) → List (Slot × Batch) → Slot → Bool
is_castable M p me xs flight s = not (has_slot s.0 flight) &&
    (not (is_some (delivered M p me xs s.0)) && is_some (M.asks p me xs (Cast s [])))

-- the first slot that passes the test
abbrev pub first_slot : (Slot → Bool) → List Slot → Option Slot
first_slot p [] = None
first_slot p (s ∷ ss) = cond (p s) (Some s) (first_slot p ss)

-- the node's first free slot that the log does not hold
-- rule: Buckets: A leader proposes at its least slot that is neither proposed nor filled
abbrev pub next_slot : {Msg : Type 0} → Rules → Module Msg → ℕ → Core Msg → Option Slot
next_slot R M me c =
    let p = params_of R M me c.past me in
    let size = length (log_of R M me c.past) in
    first_slot (λ s. not (nat_lt s.0 size) && is_castable M p me (taken_in c.past me) c.flight s) p.slots

-- the node proposes a batch of waiting requests at the slot
abbrev pub casts_at : {Msg : Type 0} → Formats Msg → Rules → Module Msg → ℕ → Core Msg → Option Slot → Stepped Msg
casts_at F R M me c None = Dropped NothingToCast
casts_at F R M me c (Some s) =
    let mine = is_mine R M me c in
    let batch = cut R.batch mine c.waiting in
    let d = record c { waiting = uncut R.batch mine c.waiting; flight = c.flight ++ (s, batch) ∷ [] } in
    cond (not (has_leaves M (params_of R M me c.past me) c.leaf)) (Dropped NoKeys)
    (Taken (advance_epochs F R M me (step_unjudged F R M me d me (Cast s batch))))

-- one step of a node
abbrev pub step : {Msg : Type 0} → Formats Msg → Rules → Module Msg → ℕ → Core Msg → NodeEvent → Stepped Msg
step F R M me c (On_packet bytes) = takes_bytes F R M me c (F.unwrap bytes)
step F R M me c On_propose =
    cond (not (leads_in R M me c.past me)) (Dropped NotLeader)
    (casts_at F R M me c (next_slot R M me c))
step F R M me c (On_timeout l) = finish_step F R M me (try_step F R M me c l.0 Timeout)
step F R M me c (On_ask peer) = Taken (asking F me c peer)
