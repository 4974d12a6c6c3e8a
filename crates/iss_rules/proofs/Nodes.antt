-- A correct node is one of the nodes.
use Rattle.std.proofs.Common.{◌≡◌, inl, inr, ℕ, suc, ◌<◌, true, not, arith, nat_lt}
use Rattle.std.proofs.lemmas.Bool.Decides.{leb_tells}
use Rattle.std.proofs.lemmas.Bool.{ltb-true}
use Rattle.iss_base.proofs.Lists.{and-true}
use Rattle.iss_request.specs.declared.setups.Setup.{Setup}
use Rattle.iss_sb.specs.Evidence.{has_node, is_correct}

pub below-n : (i n : ℕ) → i < n → nat_lt i n ≡ true
below-n i n lt = elim (leb_tells (suc i) n) [ inl t ↦ t.0 | inr t ↦ absurd (omega (arith, t.1, lt)) ]

pub correct-below : (s : Setup) (c : ℕ) → is_correct s c ≡ true → c < s.n
correct-below s c h = ltb-true c s.n (and-true (nat_lt c s.n) (not (has_node c s.faulty)) h).0
