-- The cause of an error that is passed on.
use Rattle.std.proofs.Common.{◌≡◌, ◌∙◌, ℕ, Result, Ok, Err, IsErrOf, refl, sym, ap}
use Rattle.iss_cluster.specs.Failures.{of_loop}
use Rattle.iss_cluster.specs.declared.errors.NodeFailure.{NodeFailure}
use Rattle.iss_links.specs.Calls.{HasCause}
use Rattle.iss_loops.specs.declared.errors.NodeError.{NodeError}
use Rattle.iss_loops.specs.declared.errors.NodeError.TheVariants.{LinksFault, DiskFault, NoMemory}

abbrev err-or : {T E : Type 0} → Result T E → E → E
err-or (Ok x) e = e
err-or (Err x) e = x

pub cause-of-ok : {T U E : Type 0} (before now : ℕ) (e : E) (r : Result T E) (x : T) (y : U) → r ≡ Ok x → HasCause before now (IsErrOf r e) → HasCause before now (IsErrOf {T = U} (Ok y) e)
cause-of-ok before now e r x y is h = record {
  never_falls = h.never_falls;
  rose = λ q. absurd (cc);
  still = λ none. h.still (λ q. absurd (cc));
}

pub cause-of-err : {T U E : Type 0} (before now : ℕ) (e : E) (r : Result T E) (x : E) → r ≡ Err x → HasCause before now (IsErrOf r e) → HasCause before now (IsErrOf {T = U} (Err x) e)
cause-of-err before now e r x is h = record {
  never_falls = h.never_falls;
  rose = λ q. h.rose (is ∙ ap (λ z. Err z) (ap (λ z. err-or z x) q));
  still = λ none. h.still (λ q. none (ap (λ z. Err z) (ap (λ z. err-or z x) (sym is ∙ q))));
}

-- a node's loop gives up for its disk only if the loop does

disk-failed : (e : NodeError) (f : NodeFailure) → f ≡ of_loop e → f ≡ NodeFailure.DiskFault → e ≡ NodeError.DiskFault
disk-failed LinksFault f is q = absurd (cc)
disk-failed DiskFault f is q = refl
disk-failed NoMemory f is q = absurd (cc)

pub loop-failed : {T U : Type 0} (r : Result T NodeError) (e : NodeError) (s : Result U NodeFailure) (f : NodeFailure) → r ≡ Err e → s ≡ Err f → f ≡ of_loop e
    → IsErrOf s NodeFailure.DiskFault → IsErrOf r NodeError.DiskFault
loop-failed r e s f was is gives q = was ∙ ap (λ z. Err z) (disk-failed e f gives (ap (λ z. err-or z f) (sym is ∙ q)))
