use Rattle.std.proofs.Common.{length, ap, arith}
use Rattle.iss_keys.proofs.DirectoryLemmas.{length-clients}
use Rattle.tests_node.proofs.snapshots.client_keys.Goals as goal

-- the directory has a client 0
pub keys_of_client-keys-requires : goal.keys_of_client-keys-requires
keys_of_client-keys-requires c =
    let held = ap (λ v. length v.clients) c.in_ok-directory.ensures in
    let size = length-clients 3 c.args.clients c.args.height in
    omega (arith, held, size, c.requires.some)
