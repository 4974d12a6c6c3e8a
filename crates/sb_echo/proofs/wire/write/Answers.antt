use Rattle.std.proofs.Common.{sym}
use Rattle.sb_echo.proofs.wire.write.Goals as goal

pub write_say-requires : goal.write_say-requires
write_say-requires c = let shape = sym c.if-not-has_shape.ensures in rw c.as_slice.ensures at shape

pub returns-else-not-has_shape : goal.returns-else-not-has_shape
returns-else-not-has_shape c = rw c.in-Say.is c.write_say.ensures

pub write_echo-requires : goal.write_echo-requires
write_echo-requires c = let shape = sym c.if-not-has_shape-2.ensures in rw c.as_slice-in-Echo.ensures at shape

pub returns-else-not-has_shape-2 : goal.returns-else-not-has_shape-2
returns-else-not-has_shape-2 c = rw c.in-Echo.is c.write_echo.ensures
