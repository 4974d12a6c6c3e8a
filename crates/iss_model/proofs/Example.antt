-- Computed runs: three nodes, epochs of three slots, and a module by which the leader sends all what it proposes. A
-- leader's slots become nil when its timer fires. Packet encodings are as short as these runs allow.
use Rattle.std.proofs.Common.{◌≡◌, ℕ, zero, suc, ◌==◌, ◌&&◌, cond, true, false, List, [], ◌∷◌, ◌++◌, length, Option, Some, None, reverse, refl}
use Rattle.std.specs.Prelude.{drop, nat_lt, take}
use Rattle.iss_checkpoint.specs.declared.votes.Cert.{Cert}
use Rattle.iss_sb.specs.declared.signers.Signed.{Signed}
use Rattle.iss_checkpoint.specs.declared.votes.Vote.{Vote}
use Rattle.iss_request.specs.Log.{requests}
use Rattle.iss_request.specs.declared.ids.Slot.{Slot}
use Rattle.iss_request.specs.declared.requests.Batch.{Batch}
use Rattle.iss_request.specs.declared.requests.Request.{Request}
use Rattle.iss_request.specs.declared.requests.Value.{Value}
use Rattle.iss_request.specs.declared.requests.Value.TheVariants.{Batch as Value_batch, Nil as Value_nil}
use Rattle.iss_request.specs.declared.setups.Kind.TheVariants.{Stopping}
use Rattle.iss_request.specs.declared.setups.Policy.TheVariants.{Backoff, Simple}
use Rattle.iss_request.specs.declared.setups.Setup.{Setup}
use Rattle.iss_request.specs.Fields.{Bad}
use Rattle.iss_schedule.specs.declared.schedules.Event.{Event}
use Rattle.iss_schedule.specs.declared.schedules.Event.TheVariants.{Request as Event_request, Propose, Timeout as Event_timeout, Deliver, Calm, Pump}
use Rattle.iss_sb.specs.declared.effects.Input.{Input}
use Rattle.iss_sb.specs.declared.effects.Input.TheVariants.{Cast, Receive, Timeout}
use Rattle.iss_sb.specs.declared.effects.Params.{Params}
use Rattle.iss_sb.specs.declared.effects.To.TheVariants.{All as To_all}
use Rattle.iss_sb.specs.Evidence.{Item, Made, Module}
use Rattle.iss_base.specs.Lists.{first_of}
use Rattle.iss_rules.specs.Concrete.{rules_of}
use Rattle.iss_rules.specs.Parcels.{Body, Formats, OfAsk, OfModule, OfPiece, OfRequest, OfVote, Parcel}
use Rattle.iss_model.specs.Node.{Core, Early, Stepped, Dropped, Taken, step}
use Rattle.iss_transfer.specs.declared.pieces.Piece.{Piece}
use Rattle.iss_rules.specs.Rules.{Rules}
use Rattle.iss_rules.specs.Past.{leads_in, log_of}
use Rattle.iss_model.specs.Run.{begin_run, Held, failure_free}
use Rattle.iss_model.specs.Views.{accepted_by, is_castable_now, unfilled}
use Rattle.iss_model.specs.Driver.{Progress, run}
use Rattle.iss_rules.specs.declared.events.NodeEvent.TheVariants.{Packet as On_packet}

abbrev pub Word : Type 0
Word = Slot × Batch

abbrev pub plain : Setup
plain = record {
  version = 1;
  «module» = 1;
  f = 0;
  epoch = 3;
  buckets = 3;
  batch = 4;
  window = 8;
  policy = Simple;
  clients = 1;
  keys = 4;
  faulty = [];
  n =
      3;
  quorum = 2;
  kind = Stopping;
  tag = [];
}

abbrev asks : Params → ℕ → Input Word → Option Word
asks p me (Cast slot batch) = cond (me == p.leader.0) (Some (slot, batch)) None
asks p me (Receive from word) = None
asks p me Timeout = None

abbrev made_of : Option Word → Made Word
made_of None = record { sends = []; accepted = None; strings = []; used = 0 }
made_of (Some w) = record { sends = (To_all, w) ∷ []; accepted = Some w; strings = []; used = 0 }

abbrev pub told : ℕ → ℕ → Input Word → Option Value
told leader s (Cast slot batch) = None
told leader s (Receive from word) = cond ((from.0 == leader) && (word.0.0 == s)) (Some (Value_batch word.1)) None
told leader s Timeout = Some Value_nil

abbrev pub first_told : ℕ → ℕ → List (Item Word) → Option Value
first_told leader s [] = None
first_told leader s (x ∷ xs) = first_of (first_told leader s xs) (told leader s x.input)

abbrev pub telling : Module Word
telling = record {
  nodes = λ f. 3;
  quorum = λ f. 2;
  stopping = true;
  tag = 1;
  signs = λ p. 0;
  spell = λ version w. [];
  parse = λ version bytes. Bad 0;
  claims = λ p from w. [];
  asks = λ p me xs input. asks p me input;
  makes = λ p me xs input leaf. made_of (asks p me input);
  decided = λ p me xs s. first_told p.leader.0 s xs;
}

-- at most one request in a batch, and no signatures
abbrev pub plain_request : ℕ → ℕ → List ℕ → Request
plain_request client number payload = record { id = record { client = client; number = number }; payload = payload; sig = [] }

abbrev pub spell_batch : Batch → List ℕ
spell_batch [] = []
spell_batch (q ∷ qs) = q.id.client ∷ q.id.number ∷ q.payload

abbrev pub read_batch : List ℕ → Batch
read_batch (client ∷ number ∷ payload) = plain_request client number payload ∷ []
read_batch _ = []

-- values: nil, no request, or one
abbrev spell_values : List Value → List ℕ
spell_values [] = []
spell_values (Value_nil ∷ vs) = 0 ∷ spell_values vs
spell_values (Value_batch [] ∷ vs) = 1 ∷ spell_values vs
spell_values (Value_batch (q ∷ qs) ∷ vs) = 2 ∷ q.id.client ∷ q.id.number ∷ spell_byte q.payload ∷ spell_values vs
  where
    spell_byte : List ℕ → ℕ
    spell_byte [] = 0
    spell_byte (b ∷ bs) = b

abbrev read_values : ℕ → List ℕ → List Value × List ℕ
read_values zero bytes = ([], bytes)
read_values (suc n) (zero ∷ bytes) = let r = read_values n bytes in (Value_nil ∷ r.0, r.1)
read_values (suc n) (suc zero ∷ bytes) = let r = read_values n bytes in (Value_batch [] ∷ r.0, r.1)
read_values (suc n) (suc (suc kind) ∷ client ∷ number ∷ byte ∷ bytes) =
    let r = read_values n bytes in (Value_batch (plain_request client number (byte ∷ []) ∷ []) ∷ r.0, r.1)
read_values (suc n) _ = ([], [])

-- signatures of two bytes each
abbrev spell_signers : List Signed → List ℕ
spell_signers [] = []
spell_signers (x ∷ xs) = x.by.0 ∷ x.sig ++ spell_signers xs

abbrev read_signers : List ℕ → List Signed
read_signers (by ∷ node ∷ leaf ∷ bytes) = record { by = record { 0 = by }; sig = node ∷ leaf ∷ [] } ∷ read_signers bytes
read_signers _ = []

-- a certificate: its chain is as long as the byte before it states
abbrev read_cert : ℕ → List ℕ → Cert
read_cert e (requests ∷ size ∷ bytes) =
    record { epoch = record { 0 = e }; chain = take size bytes; requests = requests; signers = read_signers (drop size bytes) }
read_cert e _ = record { epoch = record { 0 = e }; chain = []; requests = 0; signers = [] }

abbrev pub spell : ℕ → ℕ → Body Word → List ℕ
spell from epoch (OfModule leader w) = 0 ∷ from ∷ epoch ∷ leader ∷ w.0.0 ∷ spell_batch w.1
spell from epoch (OfRequest q) = 1 ∷ q.id.client ∷ q.id.number ∷ q.payload
spell from epoch (OfVote v) = 2 ∷ from ∷ epoch ∷ v.requests ∷ length v.chain ∷ v.chain ++ v.sig
spell from epoch OfAsk = 3 ∷ from ∷ epoch ∷ []
spell from epoch (OfPiece p) =
    4 ∷ from ∷ epoch ∷ length p.values ∷ spell_values p.values ++ p.cert.requests ∷ length p.cert.chain ∷ p.cert.chain ++ spell_signers p.cert.signers

abbrev pub read : List ℕ → Option (Parcel Word)
read (zero ∷ from ∷ epoch ∷ leader ∷ slot ∷ batch) =
    Some (record { from = from; epoch = epoch; body = OfModule leader (record { 0 = slot }, read_batch batch) })
read (suc zero ∷ client ∷ number ∷ payload) = Some (record { from = 255; epoch = 0; body = OfRequest (plain_request client number payload) })
read (suc (suc zero) ∷ from ∷ epoch ∷ requests ∷ size ∷ bytes) =
    let vote : Vote = record {
      epoch = record { 0 = epoch };
      chain = take size bytes;
      requests = requests;
      by = record { 0 = from };
      sig = drop size bytes;
    } in
    Some (record { from = from; epoch = epoch; body = OfVote vote })
read (suc (suc (suc zero)) ∷ from ∷ epoch ∷ []) = Some (record { from = from; epoch = epoch; body = OfAsk })
read (suc (suc (suc (suc kind))) ∷ from ∷ epoch ∷ count ∷ bytes) =
    let r = read_values count bytes in
    let piece : Piece = record { epoch = record { 0 = epoch }; values = r.0; cert = read_cert epoch r.1 } in
    Some (record { from = from; epoch = epoch; body = OfPiece piece })
read _ = None

abbrev pub short : Formats Word
short = record { wrap = λ k. spell k.from k.epoch k.body; unwrap = read }

-- what identifies a log here (newest value first), in place of a digest
abbrev sketch : List Value → List ℕ
sketch [] = []
sketch (Value_nil ∷ older) = 0 ∷ sketch older
sketch (Value_batch b ∷ older) = suc (length b) ∷ sketch older

-- Rules that compute: every request counts as signed, a signature is a node and a leaf and is valid for the first n
-- nodes, and nothing is hashed for logs.
abbrev pub light : Rules → ℕ → Rules
light R n =
    record R {
      signed = λ q. true;
      verifies = λ k statement sig. nat_lt k n;
      end = λ log. record { chain = sketch log; requests = requests log };
      hashes = λ log values. [];
      voted = λ e chain number. e ∷ number ∷ chain;
      signature = λ me leaf statement. me ∷ leaf ∷ [];
    }

abbrev pub easy : Rules
easy = light (rules_of plain) 3

abbrev run_of : List Event → Progress (Held Word)
run_of events = run (failure_free plain short easy telling) (begin_run plain) events

after : List Event → ℕ → List Value
after events i = reverse (log_of easy telling i ((run_of events).state.net.cores i).past)

abbrev q : Request
q = plain_request 0 0 (170 ∷ [])

-- one request, which node 0 proposes, and everything delivered
abbrev first_run : List Event
first_run = Event_request 0 0 0 (170 ∷ []) ∷ Propose 0 ∷ Calm 10 ∷ []

one : after first_run 0 ≡ Value_batch (q ∷ []) ∷ []
unfolding after
one = refl

two : after first_run 1 ≡ Value_batch (q ∷ []) ∷ []
unfolding after
two = refl

three : after first_run 2 ≡ Value_batch (q ∷ []) ∷ []
unfolding after
three = refl

-- delivered to node 1 alone, and twice
late : after (Event_request 0 0 0 (170 ∷ []) ∷ Propose 0 ∷ Deliver 1 ∷ Deliver 1 ∷ []) 2 ≡ []
unfolding after
late = refl

early : after (Event_request 0 0 0 (170 ∷ []) ∷ Propose 0 ∷ Deliver 1 ∷ Deliver 1 ∷ []) 1 ≡ Value_batch (q ∷ []) ∷ []
unfolding after
early = refl

-- the core of a node after events
core_after : List Event → ℕ → Core Word
core_after events i = (run_of events).state.net.cores i

-- each leader proposes an empty batch, and epoch 0 ends in the middle of a pump
abbrev whole_epoch : List Event
whole_epoch = Propose 0 ∷ Propose 1 ∷ Propose 2 ∷ Pump ∷ []

ends : (core_after whole_epoch 1).past.epoch ≡ 1
unfolding core_after
ends = refl

filled : after whole_epoch 1 ≡ Value_batch [] ∷ Value_batch [] ∷ Value_batch [] ∷ []
unfolding after
filled = refl

-- Node 0 ends the epoch and proposes in the next. For node 1, which is not there yet, that is early.
abbrev ahead : List Event
ahead = Propose 0 ∷ Propose 1 ∷ Propose 2 ∷ Deliver 0 ∷ Deliver 3 ∷ Deliver 6 ∷ Propose 0 ∷ Deliver 13 ∷ []

kept : (core_after ahead 1).early ≡ record { from = 0; leader = 0; msg = (record { 0 = 3 }, []) } ∷ []
unfolding core_after
kept = refl

-- node 1 takes it when it ends the epoch itself
caught_up : after (ahead ++ Deliver 1 ∷ Deliver 4 ∷ Deliver 7 ∷ []) 1 ≡ Value_batch [] ∷ Value_batch [] ∷ Value_batch [] ∷ Value_batch [] ∷ []
unfolding after
caught_up = refl

gone : (core_after (ahead ++ Deliver 1 ∷ Deliver 4 ∷ Deliver 7 ∷ []) 1).early ≡ []
unfolding core_after
gone = refl

-- early messages fill the next epoch: it ends too, and the other early messages are dropped
abbrev early_word : ℕ → ℕ → Early Word
early_word leader slot = record { from = leader; leader = leader; msg = (record { 0 = slot }, []) }

abbrev prepared : Core Word
prepared = record (core_after (Propose 0 ∷ Propose 1 ∷ Propose 2 ∷ Deliver 2 ∷ Deliver 5 ∷ []) 2)
    { early = early_word 2 5 ∷ early_word 1 4 ∷ early_word 0 3 ∷ early_word 0 3 ∷ [] }

abbrev epoch_of : Stepped Word → Option ℕ
epoch_of (Dropped why) = None
epoch_of (Taken t) = Some t.core.past.epoch

abbrev early_of : Stepped Word → List (Early Word)
early_of (Dropped why) = []
early_of (Taken t) = t.core.early

abbrev last_told : Stepped Word
last_told = step short easy telling 2 prepared (On_packet (spell 2 0 (OfModule 2 (record { 0 = 2 }, []))))

two_ended : epoch_of last_told ≡ Some 2
unfolding core_after
two_ended = refl

none_left : early_of last_told ≡ []
unfolding core_after
none_left = refl

-- a request that was proposed at a slot that became nil waits again
abbrev timed_out : List Event
timed_out = Event_request 0 0 0 (170 ∷ []) ∷ Propose 0 ∷ Event_timeout 0 (record { 0 = 0 }) ∷ []

nil : after timed_out 0 ≡ Value_nil ∷ []
unfolding after
nil = refl

back : (core_after timed_out 0).waiting ≡ q ∷ []
unfolding core_after
back = refl

landed : (core_after timed_out 0).flight ≡ []
unfolding core_after
landed = refl

-- A client's window in an epoch is a function of the log before it: number 8 is inside once the log holds number 0 and
-- the epoch is over.
outside : (core_after (Event_request 0 0 8 (170 ∷ []) ∷ []) 0).waiting ≡ []
unfolding core_after
outside = refl

still_outside : (core_after (first_run ++ Event_request 0 0 8 (170 ∷ []) ∷ []) 0).waiting ≡ []
unfolding core_after
still_outside = refl

inside : (core_after (Event_request 0 0 0 (170 ∷ []) ∷ whole_epoch ++ Event_request 0 0 8 (170 ∷ []) ∷ []) 0).waiting ≡ plain_request 0 8 (170 ∷ []) ∷ []
unfolding core_after
inside = refl

-- what a node shows: whose slots are missing, whether it may propose, and what it accepted
waits_for_all : unfilled easy telling 3 0 (core_after [] 0).past ≡ 0 ∷ 1 ∷ 2 ∷ []
unfolding core_after
waits_for_all = refl

waits_for_two : unfilled easy telling 3 0 (core_after (Propose 0 ∷ Deliver 0 ∷ []) 0).past ≡ 1 ∷ 2 ∷ []
unfolding core_after
waits_for_two = refl

may_cast : is_castable_now easy telling 0 (core_after [] 0) ≡ true
unfolding core_after
may_cast = refl

has_cast : is_castable_now easy telling 0 (core_after (Propose 0 ∷ []) 0) ≡ false
unfolding core_after
has_cast = refl

accepted : accepted_by (core_after (Event_request 0 0 0 (170 ∷ []) ∷ Propose 0 ∷ []) 0) 0 ≡ (record { 0 = 0 }, q ∷ []) ∷ []
unfolding core_after
accepted = refl

-- under backoff a leader with a nil slot does not lead the next epoch; the log before it shows this
abbrev backing : Setup
backing = record plain { policy = Backoff }

abbrev core_backing : List Event → ℕ → Core Word
core_backing events i = (run (failure_free backing short (light (rules_of backing) 3) telling) (begin_run backing) events).state.net.cores i

abbrev one_failed : List Event
one_failed = Event_timeout 0 (record { 0 = 1 }) ∷ Propose 0 ∷ Propose 2 ∷ Pump ∷ []

left_out : leads_in (light (rules_of backing) 3) telling 0 (core_backing one_failed 0).past 1 ≡ false
left_out = refl

leads_on : leads_in (light (rules_of backing) 3) telling 0 (core_backing one_failed 0).past 2 ≡ true
leads_on = refl

next_epoch : (core_backing one_failed 0).past.epoch ≡ 1
next_epoch = refl
