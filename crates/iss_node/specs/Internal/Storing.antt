-- The parts of a snapshot, as the node's state has them.
use Rattle.std.specs.Prelude.{◌≡◌, ℕ, zero, suc, ◌*◌, ◌==◌, ◌&&◌, nat_le, cond, Bool, false, ◌++◌, List, [], ◌∷◌, Option, Some, None, drop, length, take, refl}
use Rattle.iss_base.specs.Lists.{below}
use Rattle.iss_ballots.specs.Ballots.{AreKept, cert_at}
use Rattle.iss_checkpoint.specs.declared.votes.Cert.{Cert}
use Rattle.iss_checkpoint.specs.declared.votes.Vote.{Vote}
use Rattle.iss_journal.specs.Frames.{max_entry}
use Rattle.iss_node.specs.Saved.{HasSaved, holds}
use Rattle.iss_node.specs.State.{StateView}
use Rattle.iss_rebuilt.specs.Stored.{new_cert, new_certs}
use Rattle.iss_request.specs.declared.requests.Value.{Value}
use Rattle.iss_request.specs.declared.requests.Value.TheVariants.{Batch as Value_batch, Nil as Value_nil}

-- the values of n epochs of this length from epoch e on, of a log that has the oldest first
abbrev pub epochs_to : ℕ → List Value → ℕ → ℕ → List (List Value)
epochs_to length log e zero = []
epochs_to length log e (suc n) =
    drop (e * length) (take (suc e * length) log) ∷ epochs_to length log (suc e) n

-- the certificates with that of an epoch, if no snapshot holds it
abbrev pub and_new_cert : {M Msg : Type 0} → StateView M Msg → ℕ → List Cert → List Cert
and_new_cert v e certs = certs ++ new_cert (holds v.saved) e (cert_at v.ballots.certs e)

-- whether the bytes are a snapshot that an entry of a journal can hold
abbrev pub is_entry : List ℕ → Bool
is_entry [] = false
is_entry (b ∷ bytes) = nat_le (suc (length bytes)) max_entry && (b == 5)

abbrev pub storable : Option (List ℕ) → Option (List ℕ)
storable None = None
storable (Some bytes) = cond (is_entry bytes) (Some bytes) None

-- What is handed out is noted, with the certificates that no snapshot held.
abbrev pub HasNoted : {M Msg : Type 0} → StateView M Msg → Option (List ℕ) → StateView M Msg → Type 0
HasNoted old None new = new.saved ≡ old.saved
HasNoted old (Some bytes) new = (votes : List Vote) (certs : List Cert) → AreKept old.ballots votes certs →
    HasSaved old.saved old.epoch (new_certs (holds old.saved) certs (below (suc (suc old.epoch)))) new.saved

-- The bytes of a snapshot are an entry. A snapshot without an encoding is one byte of another kind.
example : storable (Some (5 ∷ 0 ∷ [])) ≡ Some (5 ∷ 0 ∷ [])
example = refl

example_none : storable (Some (0 ∷ [])) ≡ None
example_none = refl

-- Two epochs of two slots, from epoch 1 on.
example_epochs : epochs_to 2 (Value_nil ∷ Value_nil ∷ Value_nil ∷ Value_nil ∷ Value_batch [] ∷ Value_nil ∷ []) 1 2
    ≡ (Value_nil ∷ Value_nil ∷ []) ∷ (Value_batch [] ∷ Value_nil ∷ []) ∷ []
example_epochs = refl
