-- What is known about the calls to come: which of them pass.
use Rattle.std.specs.Prelude.{[], drop}
use Rattle.iss_disk.specs.Calls.{Passes, up_to, script}
use Rattle.iss_disk.specs.declared.fate.Fate.{Fate}
use Rattle.iss_disk.specs.declared.fate.Fate.TheVariants.{Sound, Fused, Scripted}

abbrev pub passes_of : Fate → Passes
passes_of Sound = script []
passes_of (Fused calls) = up_to calls
passes_of (Scripted made outcomes) = script (drop made outcomes.items)
