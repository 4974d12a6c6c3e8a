-- Computed runs of four nodes, the last of them faulty: a forged claim stops a run; a signed one, or one of the faulty
-- node, does not.
use Rattle.std.proofs.Common.{◌≡◌, ℕ, ◌+◌, List, [], ◌∷◌, length, Some, None, refl}
use Rattle.iss_base.specs.Heights.{digests_of_height}
use Rattle.iss_request.specs.Formats.{spell_batch, spell_count, spell_request, spell_value}
use Rattle.iss_request.specs.declared.requests.Batch.{Batch}
use Rattle.iss_request.specs.declared.setups.Kind.TheVariants.{Byzantine}
use Rattle.iss_request.specs.declared.setups.Policy.TheVariants.{Simple}
use Rattle.iss_request.specs.declared.setups.Setup.{Setup}
use Rattle.iss_schedule.specs.declared.schedules.Event.{Event}
use Rattle.iss_schedule.specs.declared.schedules.Event.TheVariants.{Request as Event_request, Propose, Calm, Bytes}
use Rattle.iss_sb.specs.Evidence.{Module}
use Rattle.iss_sb.specs.Statements.{wide_bytes}
use Rattle.iss_rules.specs.Books.{Signed}
use Rattle.iss_rules.specs.Concrete.{rules_of}
use Rattle.iss_rules.specs.Rules.{Rules}
use Rattle.iss_rules.specs.Ends.{Forged}
use Rattle.iss_model.specs.Run.{begin_run, Held, failure_free}
use Rattle.iss_model.specs.Driver.{Progress, run}
use Rattle.iss_model.proofs.Example.{first_told, light, plain_request, short}
use Rattle.iss_composition.proofs.Signing.{Word, claim_of, signing}

abbrev pub four : Setup
four = record {
  version = 1;
  «module» = 9;
  f = 1;
  epoch = 4;
  buckets = 4;
  batch = 4;
  window = 8;
  policy = Simple;
  clients = 1;
  keys = 4;
  faulty =
      record { 0 = 3 } ∷ [];
  n = 4;
  quorum = 3;
  kind = Byzantine;
  tag = [];
}

-- claims count as verified here, so that runs compute
abbrev easy : Rules
easy = light (rules_of four) 4

abbrev batch : Batch
batch = plain_request 0 0 (170 ∷ []) ∷ []

abbrev pub after : List Event → Progress (Held Word)
after events = run (failure_free four short easy signing) (begin_run four) events

-- a message in the instance of a leader, from the leader: slot and batch
abbrev told : ℕ → List ℕ
told leader = 0 ∷ leader ∷ 0 ∷ leader ∷ leader ∷ 0 ∷ 0 ∷ 170 ∷ []

abbrev pub claim : ℕ → Signed
claim leader = record { by = leader; statement = (claim_of ((rules_of four).params [] 0 leader) leader (record { 0 = leader }, batch)).statement }

-- node 0 proposes, and all take its message
honest : (after (Event_request 0 0 0 (170 ∷ []) ∷ Propose 0 ∷ Calm 5 ∷ [])).ended ≡ None
unfolding wide_bytes spell_value spell_batch spell_count spell_request digests_of_height
honest = refl

booked : (after (Event_request 0 0 0 (170 ∷ []) ∷ Propose 0 ∷ Calm 5 ∷ [])).state.signed ≡ claim 0 ∷ []
unfolding wide_bytes spell_value spell_batch spell_count spell_request digests_of_height
booked = refl

-- the message again, injected
repeated : (after (Event_request 0 0 0 (170 ∷ []) ∷ Propose 0 ∷ Bytes 1 (told 0) ∷ [])).ended ≡ None
unfolding wide_bytes spell_value spell_batch spell_count spell_request digests_of_height
repeated = refl

-- before node 0 has signed it, it is forged, and the run stops: later events do nothing
forged : (after (Bytes 1 (told 0) ∷ Event_request 0 0 0 (170 ∷ []) ∷ Propose 0 ∷ [])).ended ≡ Some
    (0, Forged (claim_of ((rules_of four).params [] 0 0) 0 (record { 0 = 0 }, batch)))
unfolding wide_bytes spell_value spell_batch spell_count spell_request digests_of_height
forged = refl

ended : (after (Bytes 1 (told 0) ∷ Event_request 0 0 0 (170 ∷ []) ∷ Propose 0 ∷ [])).event ≡ 1
unfolding wide_bytes spell_value spell_batch spell_count spell_request digests_of_height
ended = refl

-- the faulty node signs what it likes
faulty : (after (Bytes 1 (told 3) ∷ [])).ended ≡ None
unfolding wide_bytes spell_value spell_batch spell_count spell_request digests_of_height
faulty = refl

-- Early messages are read as their epoch begins. Here each node delivers what a leader sends, so that epochs end.
abbrev hearing : Module Word
hearing = record signing { decided = λ p me xs s. first_told p.leader.0 s xs }

abbrev pub heard : List Event → Progress (Held Word)
heard events = run (failure_free four short easy hearing) (begin_run four) events

-- a message for the next epoch, from a node, in the instance of a leader at its slot
abbrev early : ℕ → ℕ → List ℕ
early from leader = 0 ∷ from ∷ 1 ∷ leader ∷ (4 + leader) ∷ 0 ∷ 0 ∷ 170 ∷ []

abbrev whole_epoch : List Event
whole_epoch = Propose 0 ∷ Propose 1 ∷ Propose 2 ∷ Propose 3 ∷ Calm 1 ∷ []

-- a forged one stops the run when it is taken, not when it arrives
waits : (heard (Bytes 1 (early 0 0) ∷ [])).ended ≡ None
unfolding wide_bytes spell_value spell_batch spell_count spell_request digests_of_height
waits = refl

early_forged : (heard (Bytes 1 (early 0 0) ∷ whole_epoch)).ended ≡ Some (5, Forged (claim_of ((rules_of four).params [] 1 0) 0 (record { 0 = 4 }, batch)))
unfolding wide_bytes spell_value spell_batch spell_count spell_request digests_of_height
early_forged = refl

-- the faulty node's is taken
early_taken : length (((heard (Bytes 1 (early 3 3) ∷ whole_epoch)).state.net.cores 1).past.evidence 1 3) ≡ 1
unfolding wide_bytes spell_value spell_batch spell_count spell_request digests_of_height
early_taken = refl

-- one with an invalid claim is dropped
early_gone : length (((heard (Bytes 1 (early 5 3) ∷ whole_epoch)).state.net.cores 1).past.evidence 1 3) ≡ 0
unfolding wide_bytes spell_value spell_batch spell_count spell_request digests_of_height
early_gone = refl

early_next : (((heard (Bytes 1 (early 5 3) ∷ whole_epoch)).state.net.cores 1).past.epoch) ≡ 1
unfolding wide_bytes spell_value spell_batch spell_count spell_request digests_of_height
early_next = refl
