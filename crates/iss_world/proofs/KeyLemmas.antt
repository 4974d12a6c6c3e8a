-- The keys of nodes and clients in the cluster's directory.
use Rattle.std.proofs.Common.{◌≡◌, ℕ, ◌<◌, List, length, ap, ap₂, ◌∙◌, arith}
use Rattle.iss_rules.specs.Concrete.{keys_of, request_statement, request_of}
use Rattle.iss_request.specs.declared.ids.ReqId.{ReqId}
use Rattle.iss_request.specs.declared.requests.Request.{Request}
use Rattle.iss_request.specs.declared.setups.Setup.{Setup}
use Rattle.iss_keys.specs.Directories.{DirectoryView, client_secret, directory_of}
use Rattle.iss_keys.specs.KeyStates.{KeyState}
use Rattle.iss_keys.specs.Signatures.{signature_of}
use Rattle.iss_keys.proofs.DirectoryLemmas.{length-clients}

pub client-number : (s : Setup) (i : ℕ) (d : DirectoryView) → d ≡ keys_of s → i < s.clients → i < length d.clients
client-number s i d is lt =
    let count = length-clients s.n s.clients s.keys in
    let same : length d.clients ≡ length (keys_of s).clients = ap (λ (z : DirectoryView). length z.clients) is in
    omega (arith, count, same, lt)

-- A client's key in the directory.
pub client-keys : (s : Setup) (i : ℕ) (d : DirectoryView) (k : KeyState) → d ≡ keys_of s →
    ((n clients height : ℕ) → d ≡ directory_of n clients height → k ≡ record { secret = client_secret i; height = height; used = 0 }) →
    k ≡ record { secret = client_secret i; height = s.keys; used = 0 }
client-keys s i d k is made = made s.n s.clients s.keys is

-- The request equals the one that its client signed.
pub signed-request : (s : Setup) (id : ReqId) (payload copy lent sig : List ℕ) (k : KeyState) →
    k ≡ record { secret = client_secret id.client; height = s.keys; used = 0 } → copy ≡ payload → lent ≡ payload →
    sig ≡ signature_of k.secret k.height id.number (request_statement id lent) →
    record { id = id; payload = copy; sig = sig } ≡ request_of s id.client id.number payload
signed-request s id payload copy lent sig k mine copied same is =
    let signed : sig ≡ signature_of (client_secret id.client) s.keys id.number (request_statement id payload) =
    is ∙ ap (λ (z : KeyState). signature_of z.secret z.height id.number (request_statement id lent)) mine
    ∙ ap (λ (z : List ℕ). signature_of (client_secret id.client) s.keys id.number (request_statement id z)) same in
    ap₂ (λ (p x : List ℕ). let q : Request = record { id = id; payload = p; sig = x } in q) copied signed
