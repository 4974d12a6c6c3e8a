-- The rules of a cluster, taken from its set-up: the layout gives leaders and buckets, the windows the admitted
-- numbers, and keys that follow from the numbers of nodes and clients give signatures. An epoch starts at the sum of
-- the lengths before it, and never so late that a slot would pass 2^64. A request is signed by its client over
-- identity and payload; a client that does not exist has no key.
use Rattle.std.specs.Prelude.{ℕ, zero, suc, ◌-◌, ◌^◌, ◌&&◌, Bool, List, ◌∷◌, ◌++◌, length, reverse, cond, nat_le, nat_lt, Option, Some, None}
use Rattle.std.specs.Int.{to_be_bytes, w16, w32}
use Rattle.iss_checkpoint.specs.Votes.{vote_statement}
use Rattle.iss_keys.specs.Directories.{DirectoryView, directory_of, node_secret, client_secret}
use Rattle.iss_keys.specs.Signatures.{signature_of}
use Rattle.iss_keys.specs.VerifiedBy.{is_verified_by}
use Rattle.iss_layout.specs.Layout.{Plan, bucket_of, bucket_owner, leads, plan_of, segment, slot_leader}
use Rattle.iss_log.specs.Chains.{chain_of, end_of, strings_from}
use Rattle.iss_request.specs.Log.{log_ids}
use Rattle.iss_request.specs.declared.ids.NodeId.{NodeId}
use Rattle.iss_request.specs.declared.ids.ReqId.{ReqId}
use Rattle.iss_request.specs.declared.requests.Request.{Request}
use Rattle.iss_request.specs.declared.requests.Value.{Value}
use Rattle.iss_request.specs.declared.setups.Setup.{Setup}
use Rattle.iss_window.specs.Window.{is_inside, place_of}
use Rattle.iss_rules.specs.Past.{start_by}
use Rattle.iss_rules.specs.Rules.{Rules}

-- a node's number, 0 if there is none
abbrev pub number_of : Option NodeId → ℕ
number_of None = 0
number_of (Some l) = l.0

-- every epoch has the set-up's number of slots
abbrev pub slots_at : Setup → List Value → ℕ → ℕ
slots_at s log e = s.epoch

-- the smaller number
abbrev pub least : ℕ → ℕ → ℕ
least a b = cond (nat_le a b) a b

-- Where an epoch starts: the sum of the lengths of the epochs before it. Slots are below 2^64, so a start is capped
-- such that its epoch stays below that.
-- rule: Layout: An epoch begins where the one before it ends
abbrev pub start_at : Setup → List Value → ℕ → ℕ
start_at s log zero = 0
start_at s log (suc e) = least (start_by (slots_at s) log (suc e)) (2 ^ 64 - slots_at s log (suc e))

-- how the layout divides the epoch among its leaders
abbrev pub plan_at : Setup → List Value → ℕ → Plan
plan_at s log e = plan_of s e (start_at s log e) log

-- the public keys of all nodes and clients
abbrev pub keys_of : Setup → DirectoryView
keys_of s = directory_of s.n s.clients s.keys

-- What a client signs: a first byte that no other statement has, the client, the request's number, and the payload
-- after its length.
-- rule: Signatures: A client signs its number, the request's number, and the payload after its length
abbrev pub request_statement : ReqId → List ℕ → List ℕ
request_statement id payload = 0x30 ∷ id.client ∷ to_be_bytes w32 id.number ++ to_be_bytes w16 (length payload)
    ++ payload

-- Whether the client signed the request. Its number must fit four bytes, and its payload is at most 256 bytes.
-- rule: Signatures: A request is signed if its signature verifies under its client's key
abbrev pub is_signed_by : DirectoryView → Request → Bool
is_signed_by d q =
    nat_lt q.id.number (2 ^ 32) && (nat_le (length q.payload) 256 &&
    is_verified_by d.clients q.id.client (request_statement q.id q.payload) q.sig)

-- the rules of a set-up: the layout divides epochs, and signatures are of the nodes' and clients' keys
abbrev pub rules_of : Setup → Rules
rules_of s =
    record {
      slots = slots_at s;
      most = s.epoch;
      leader = λ log e slot. number_of (slot_leader (plan_at s log e) slot);
      leads = λ log e l. leads (plan_at s log e) l;
      owner = λ log e id. number_of (bucket_owner (plan_at s log e) (bucket_of (plan_at s log e) id));
      signed = λ q. is_signed_by (keys_of s) q;
      inside = λ log e id. is_inside (place_of s.window (log_ids log) id);
      batch = s.batch;
      verifies = λ k statement sig. is_verified_by (keys_of s).nodes k statement sig;
      params = λ log e l. record {
        setup = s;
        epoch = record { 0 = e };
        leader = record { 0 = l };
        slots = segment (plan_at s log e) l;
        directory = keys_of s;
      };
      end = λ log. end_of s.version (reverse log);
      hashes = λ log values. strings_from s.version (chain_of s.version (reverse log)) values;
      nodes = s.n;
      quorum = s.quorum;
      voted = λ e chain number. vote_statement s.tag e chain number;
      signature = λ me leaf statement. signature_of (node_secret me) s.keys leaf statement;
    }

-- a request signed by its client, with the leaf of the request's number
-- rule: Signatures: A request of a schedule is signed by its client, with the leaf of its number
abbrev pub request_of : Setup → ℕ → ℕ → List ℕ → Request
request_of s client number payload =
    let id : ReqId = record { client = client; number = number } in
    record {
      id = id;
      payload = payload;
      sig = signature_of (client_secret client) s.keys number (request_statement id payload);
    }
