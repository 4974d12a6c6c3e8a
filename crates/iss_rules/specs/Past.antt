-- A replica's past, and the log that follows from it. The past is its epoch, what it took in each instance, and the
-- pieces that it adopted. A slot's value is what its instance delivered there, else what was adopted. The log is the
-- longest run of such values from slot 0, so it is never stored. From it follow the epoch, the leader and the log
-- before the epoch of each slot.
use Rattle.std.specs.Prelude.{ℕ, zero, suc, ◌+◌, ◌-◌, ◌*◌, ◌==◌, nat_le, Bool, cond}
use Rattle.std.specs.Prelude.{List, [], ◌∷◌, Option, Some, None, length}
use Rattle.iss_base.specs.Lists.{first_of, nth, oldest, push_all, set_at2}
use Rattle.iss_request.specs.declared.ids.Slot.{Slot}
use Rattle.iss_request.specs.declared.requests.Batch.{Batch}
use Rattle.iss_request.specs.declared.requests.Value.{Value}
use Rattle.iss_sb.specs.declared.effects.Input.{Input}
use Rattle.iss_sb.specs.declared.effects.Params.{Params}
use Rattle.iss_sb.specs.Evidence.{Item, Made, Module, and_then, delivered}
use Rattle.iss_rules.specs.Rules.{Rules}

-- the values of an epoch, in the order of their slots, adopted from another node under a certificate
pub record Piece : Type 0 where
  pub epoch : ℕ
  pub values : List Value

-- the adopted value at an index of an epoch, if any
abbrev pub adopted_at : List Piece → ℕ → ℕ → Option Value
adopted_at [] e k = None
adopted_at (p ∷ ps) e k = first_of (adopted_at ps e k) (cond (p.epoch == e) (nth p.values k) None)

-- What a node took: its epoch, the histories of its instances (by epoch and leader), and the pieces that it adopted.
pub record Past (Msg : Type 0) : Type 0 where
  pub epoch : ℕ
  pub evidence : ℕ → ℕ → List (Item Msg)
  pub adopted : List Piece

-- Where an epoch starts, given a log that holds all earlier epochs: the sum of their lengths. The length of an epoch
-- may be a function of the log before it.
abbrev pub start_by : (List Value → ℕ → ℕ) → List Value → ℕ → ℕ
start_by slots log zero = 0
start_by slots log (suc e) = start_by slots log e + slots (oldest (start_by slots log e) log) e

-- the same, by the rules
abbrev pub start_of : Rules → List Value → ℕ → ℕ
start_of R log e = start_by R.slots log e

-- the log before an epoch
abbrev pub cut_at : Rules → List Value → ℕ → List Value
cut_at R log e = oldest (start_of R log e) log

-- the greatest epoch from e on that starts within the log, at most n further
abbrev pub climb : Rules → List Value → ℕ → ℕ → ℕ
climb R log zero e = e
climb R log (suc n) e = cond (nat_le (start_of R log (suc e)) (length log)) (climb R log n (suc e)) e

-- The instance of the slot after these values: its epoch, the log before the epoch, its leader, and its parameters.
abbrev pub epoch_at : Rules → List Value → ℕ
epoch_at R older = climb R older (length older) 0

abbrev pub before_at : Rules → List Value → List Value
before_at R older = cut_at R older (epoch_at R older)

abbrev pub leader_at : Rules → List Value → ℕ
leader_at R older = R.leader (before_at R older) (epoch_at R older) (length older)

abbrev pub params_at : Rules → List Value → Params
params_at R older = R.params (before_at R older) (epoch_at R older) (leader_at R older)

-- the value of that slot: what the node's instance delivered, else what the node adopted
abbrev pub cell : {Msg : Type 0} → Rules → Module Msg → ℕ → Past Msg → List Value → Option Value
cell R M me c older =
    let taken = c.evidence (epoch_at R older) (leader_at R older) in
    let index = length older - length (before_at R older) in
    first_of (delivered M (params_at R older) me taken (length older)) (adopted_at c.adopted (epoch_at R older) index)

abbrev pub grown : Option Value → List Value → (List Value → List Value) → List Value
grown None log more = log
grown (Some v) log more = more (v ∷ log)

-- the log continues while the next slot has a value
abbrev pub grow : {Msg : Type 0} → Rules → Module Msg → ℕ → Past Msg → ℕ → List Value → List Value
grow R M me c zero log = log
grow R M me c (suc n) log = grown (cell R M me c log) log (grow R M me c n)

-- A node's log: the longest sequence of values from slot 0 without a gap. Epochs after the node's own have no values.
-- rule: Log: The log is the longest run of filled slots from slot 0
abbrev pub log_of : {Msg : Type 0} → Rules → Module Msg → ℕ → Past Msg → List Value
log_of R M me c = grow R M me c (suc c.epoch * R.most) []

-- the node's log before an epoch
abbrev pub before : {Msg : Type 0} → Rules → Module Msg → ℕ → Past Msg → ℕ → List Value
before R M me c e = cut_at R (log_of R M me c) e

-- the log before the node's own epoch, and whether l leads that epoch
abbrev pub before_own : {Msg : Type 0} → Rules → Module Msg → ℕ → Past Msg → List Value
before_own R M me c = before R M me c c.epoch

abbrev pub leads_in : {Msg : Type 0} → Rules → Module Msg → ℕ → Past Msg → ℕ → Bool
leads_in R M me c l = R.leads (before_own R M me c) c.epoch l

-- the node's history in the instance of a leader in its epoch, and the parameters of the instance
abbrev pub taken_in : {Msg : Type 0} → Past Msg → ℕ → List (Item Msg)
taken_in c l = c.evidence c.epoch l

abbrev pub params_of : {Msg : Type 0} → Rules → Module Msg → ℕ → Past Msg → ℕ → Params
params_of R M me c l = R.params (before_own R M me c) c.epoch l

-- what an input makes there, which batch it asks to accept, and what the node took with it added
abbrev pub made_in : {Msg : Type 0} → Rules → Module Msg → ℕ → Past Msg → ℕ → Input Msg → ℕ → Made Msg
made_in R M me c l input leaf = M.makes (params_of R M me c l) me (taken_in c l) input leaf

abbrev pub asked_in : {Msg : Type 0} → Rules → Module Msg → ℕ → Past Msg → ℕ → Input Msg → Option (Slot × Batch)
asked_in R M me c l input = M.asks (params_of R M me c l) me (taken_in c l) input

abbrev pub takes : {Msg : Type 0} → Rules → Module Msg → ℕ → Past Msg → ℕ → Input Msg → ℕ → Past Msg
takes R M me c l input leaf =
    record {
      epoch = c.epoch;
      evidence = set_at2 c.evidence c.epoch l (and_then M (params_of R M me c l) me (taken_in c l) input leaf);
      adopted = c.adopted;
    }

-- nothing was taken
abbrev pub initial_history : {Msg : Type 0} → Past Msg
initial_history = record { epoch = 0; evidence = λ e l. []; adopted = [] }

-- Whether the log holds all of the node's epoch; the node in the next epoch; the log at the end of the epoch.
abbrev pub is_complete : {Msg : Type 0} → Rules → Module Msg → ℕ → Past Msg → Bool
is_complete R M me c = nat_le (start_of R (log_of R M me c) (suc c.epoch)) (length (log_of R M me c))

abbrev pub advanced : {Msg : Type 0} → Past Msg → Past Msg
advanced c = record { epoch = suc c.epoch; evidence = c.evidence; adopted = c.adopted }

abbrev pub ended_log : {Msg : Type 0} → Rules → Module Msg → ℕ → Past Msg → List Value
ended_log R M i c = cut_at R (log_of R M i c) (suc c.epoch)

-- the node adopts a piece, which ends its epoch
abbrev pub adopts : {Msg : Type 0} → Past Msg → Piece → Past Msg
adopts c p = record { epoch = suc c.epoch; evidence = c.evidence; adopted = p ∷ c.adopted }

-- the log with the values of a piece
abbrev pub adopted_log : {Msg : Type 0} → Rules → Module Msg → ℕ → Past Msg → Piece → List Value
adopted_log R M i c piece = push_all piece.values (before R M i c piece.epoch)
