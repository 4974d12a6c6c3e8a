-- What the snapshots of a node hold: where the last one ended, and the epochs whose certificates they have. These are
-- all below `low`, and the strays.
use Rattle.std.specs.Prelude.{◌≡◌, ℕ, suc, ◌||◌, nat_le, Bool, List, is_some}
use Rattle.std.specs.List.{list_any}
use Rattle.std.specs.Ordering.{is_eq, nat_cmp}
use Rattle.iss_checkpoint.specs.declared.votes.Cert.{Cert}
use Rattle.iss_rebuilt.specs.Stored.{Saved}
use Rattle.iss_rules.specs.Votes.{cert_on}

pub record SavedState : Type 0 where
  pub from : ℕ
  pub low : ℕ
  pub strays : List ℕ

abbrev pub stray : SavedState → ℕ → Bool
stray s e = list_any (λ k. is_eq (nat_cmp e k)) s.strays

-- whether a snapshot has the certificate of epoch e
abbrev pub holds : SavedState → ℕ → Bool
holds s e = nat_le (suc e) s.low || stray s e

abbrev pub saved_of : SavedState → Saved
saved_of s = record { from = s.from; held = holds s }

-- A further snapshot ends at `to` and has these certificates.
-- rule: Persistence: A snapshot that is handed out is noted by its end and its certificates
pub record HasSaved (old : SavedState) (to : ℕ) (certs : List Cert) (new : SavedState) : Type 0 where
  pub from : new.from ≡ to
  pub held : (e : ℕ) → holds new e ≡ (holds old e || is_some (cert_on certs e))
