-- What a ViewChange signs of one certificate, as a thing of its own: slot, view and digest. So the value is hashed
-- once.
use Rattle.std.specs.Prelude.{ℕ, List, ◌++◌}
use Rattle.iss_sb.specs.declared.effects.Params.{Params}
use Rattle.iss_sb.specs.Statements.{eight_bytes, two_bytes}
use Rattle.pbft_wire.specs.declared.messages.Certificate.{Certificate}
use Rattle.pbft_wire.specs.declared.signing.Mark.{Mark}
use Rattle.pbft_wire.specs.Statements.{digest_of}

abbrev pub mark_of : Params → Certificate → Mark
mark_of p c = record { slot = c.slot; view = c.view; digest = digest_of p c.value }

abbrev pub mark_bytes : Mark → List ℕ
mark_bytes m = eight_bytes m.slot.0 ++ (two_bytes m.view ++ m.digest)
