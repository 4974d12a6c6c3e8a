-- The keys of a node with its next leaf.
use Rattle.std.proofs.Common.{◌≡◌, ℕ, ◌<◌, ◌≤◌, ◌^◌, length, sym, subst}
use Rattle.std.specs.Prelude.{IfSome, slice_get}
use Rattle.iss_keys.proofs.DirectoryLemmas.{length-nodes, node-leaves}
use Rattle.iss_keys.specs.Directories.{DirectoryView}
use Rattle.iss_request.specs.declared.setups.Setup.{Setup}
use Rattle.iss_rules.specs.Concrete.{keys_of}

pub own-number : (s : Setup) (i : ℕ) (d : DirectoryView) → d ≡ keys_of s → i < s.n → i < length d.nodes
own-number s i d is lt = subst (λ (z : DirectoryView). i < length z.nodes) (sym is) (subst (λ (k : ℕ). i < k) (sym (length-nodes s.n s.clients s.keys)) lt)

pub own-leaf : (s : Setup) (i next : ℕ) (d : DirectoryView) → d ≡ keys_of s → i < s.n → next ≤ 2 ^ s.keys → IfSome (slice_get d.nodes i) (λ key. next ≤ 2 ^ key.height)
own-leaf s i next d is lt le = subst (λ (z : DirectoryView). IfSome (slice_get z.nodes i) (λ key. next ≤ 2 ^ key.height)) (sym is) (node-leaves s.n s.clients s.keys i next lt le)
