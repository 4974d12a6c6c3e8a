-- The public keys of a keyring, wherever they come from.
use Rattle.std.specs.Prelude.{List}
use Rattle.iss_keys.specs.KeyStates.{PublicKeyView}
use Rattle.iss_keys.specs.Internal.Rings.{keys_of_ring}
use Rattle.iss_keys.specs.declared.keyrings.Source.{Source}
use Rattle.iss_keys.specs.declared.keyrings.Source.TheVariants.{Given, Own}

abbrev pub keys_of : Source → List PublicKeyView
keys_of (Given keys) = keys.items
keys_of (Own keys) = keys_of_ring keys
