use Rattle.std.proofs.Common.{◌≡◌, ◌<◌, ◌≤◌, ◌↔◌, IsTrue, sym, subst, length, get_or, rules}
use Rattle.std.proofs.lemmas.Option.{slice_get_past}
use Rattle.iss_keys.specs.KeyStates.{PublicKeyView}
use Rattle.iss_keys.specs.Signatures.{Verifies}
use Rattle.iss_reply.proofs.ClientLemmas.{verified-is, verified-none}
use Rattle.iss_reply.proofs.RequestLemmas.{get-read}
use Rattle.iss_reply.proofs.clients.is_verified_by.Goals as goal

pub returns-in-Some : goal.returns-in-Some
returns-in-Some c =
    let below : c.args.number < length c.args.keys.now = search rules in
    let at : c.in-Some.key.now ≡ get_or c.args.keys.now c.args.number c.in-Some.key.now = search rules in
    verified-is c.args.keys.now c.args.number c.args.statement.now c.args.signature.now c.in-Some.key.now c.verify.result
    (get-read c.args.keys.now c.args.number c.in-Some.key.now below (sym at))
    (subst (λ (k : PublicKeyView). IsTrue c.verify.result ↔ Verifies k.root k.height c.args.statement.now c.args.signature.now) c.public.ensures c.verify.ensures)

pub returns-in-None : goal.returns-in-None
returns-in-None c =
    let past : length c.args.keys.now ≤ c.args.number = search rules in
    verified-none c.args.keys.now c.args.number c.args.statement.now c.args.signature.now (slice_get_past c.args.keys.now c.args.number past)
