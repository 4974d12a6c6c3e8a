-- A kind of module whose test for stopping holds is Stopping.
use Rattle.std.proofs.Common.{◌≡◌, Bool, true, false, refl}
use Rattle.std.proofs.lemmas.Bool.{false≢true}
use Rattle.iss_request.specs.declared.setups.Kind.{Kind}
use Rattle.iss_request.specs.declared.setups.Kind.TheVariants.{Byzantine, Stopping}

abbrev pub stops : Kind → Bool
stops Byzantine = false
stops Stopping = true

pub is_stopping : (k : Kind) → stops k ≡ true → k ≡ Stopping
is_stopping Byzantine t = absurd (false≢true t)
is_stopping Stopping t = refl
