use Rattle.std.proofs.Common.{◌≡◌, take}
use Rattle.pbft_wire.proofs.copies.copy_certificates.Given as goal

abbrev pub invariant-loop-c : goal.invariant-loop-c
invariant-loop-c l = l.all ≡ take l.c-index l.certificates
