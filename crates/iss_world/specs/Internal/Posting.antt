-- For which cores a send is: a step's packets are posted core by core.
use Rattle.std.specs.Prelude.{ℕ, ◌==◌, Bool, true}
use Rattle.iss_model.specs.Run.{node_of}
use Rattle.iss_request.specs.declared.setups.Setup.{Setup}
use Rattle.iss_sb.specs.declared.effects.To.{To}
use Rattle.iss_sb.specs.declared.effects.To.TheVariants.{All as To_all, One as To_one}

-- A send to all is for each core, one to a node for the cores that run it.
abbrev pub is_for : Setup → To → ℕ → Bool
is_for s To_all core = true
is_for s (To_one node) core = node_of s core == node.0
