-- Where all epochs have the same number of slots, their values are rows of equal length.
use Rattle.std.proofs.Common.{◌≡◌, ℕ, zero, suc, List, ◌∷◌, refl, sym, ap, subst}
use mathlib.Core.Path.{fun_ext}
use Rattle.iss_base.specs.Lists.{push_all}
use Rattle.iss_request.specs.Fields.{IsRead, IsUnreadable, Reading}
use Rattle.iss_request.specs.Formats.{parse_value}
use Rattle.iss_request.specs.Parsing.{Parser, ◌>>=◌, done, times}
use Rattle.iss_request.specs.declared.requests.Value.{Value}
use Rattle.iss_snapshot.specs.Snapshots.{equal_epochs, parse_epochs}

module _ (version k : ℕ) where
  epochs-times : (n e : ℕ) (log : List Value) → parse_epochs version (equal_epochs k) n e log ≡ times n (times k (parse_value version))
  unfolding parse_epochs times
  epochs-times zero e log = refl
  epochs-times (suc n) e log =
      ap (λ (q : List Value → Parser (List (List Value))). times k (parse_value version) >>= q)
      (fun_ext (λ values. ap (λ (p : Parser (List (List Value))). p >>= λ others. done (values ∷ others)) (epochs-times n (suc e) (push_all values log))))

-- readers of rows read epochs
pub read-equal : {v w n m : ℕ} {a b : Reading} {xs : List (List Value)} → v ≡ w → m ≡ n → (k e : ℕ) (log : List Value) →
    IsRead (times m (times k (parse_value v))) a b xs → IsRead (parse_epochs w (equal_epochs k) n e log) a b xs
read-equal {v} {w} {n} {m} {a} {b} {xs} q r k e log h =
    subst (λ (p : Parser (List (List Value))). IsRead p a b xs) (sym (epochs-times w k n e log))
    (subst (λ (x : ℕ). IsRead (times x (times k (parse_value w))) a b xs) r
    (subst (λ (x : ℕ). IsRead (times m (times k (parse_value x))) a b xs) q h))

pub unread-equal : {v w n m : ℕ} {a : Reading} {at : ℕ} → v ≡ w → m ≡ n → (k e : ℕ) (log : List Value) →
    IsUnreadable (times m (times k (parse_value v))) a at → IsUnreadable (parse_epochs w (equal_epochs k) n e log) a at
unread-equal {v} {w} {n} {m} {a} {at} q r k e log h =
    subst (λ (p : Parser (List (List Value))). IsUnreadable p a at) (sym (epochs-times w k n e log))
    (subst (λ (x : ℕ). IsUnreadable (times x (times k (parse_value w))) a at) r
    (subst (λ (x : ℕ). IsUnreadable (times m (times k (parse_value x))) a at) q h))
