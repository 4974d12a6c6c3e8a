use Rattle.counterexamples.proofs.NoSafeTest.{no-safe-test-is-not-safe}
use Rattle.counterexamples.proofs.hotstuff.hotstuff_needs_the_safe_test.Goals as goal

pub returns : goal.returns
returns c = no-safe-test-is-not-safe
