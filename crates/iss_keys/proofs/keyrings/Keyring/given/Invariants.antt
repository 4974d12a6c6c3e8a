use Rattle.std.proofs.Common.{◌≡◌, map, take}
use Rattle.iss_keys.specs.KeyStates.{public_of}
use Rattle.iss_keys.proofs.keyrings.Keyring.given.Given as goal

abbrev pub invariant-keys : goal.invariant-keys
invariant-keys l = l.publics.items ≡ map public_of (take l.key-index l.keys)
