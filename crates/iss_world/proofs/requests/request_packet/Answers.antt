use Rattle.std.proofs.Common.{◌<◌, ◌^◌, ◌∙◌, List, ℕ, ap, subst, sym}
use Rattle.iss_keys.specs.KeyStates.{KeyState}
use Rattle.iss_rules.specs.Formats.{formats_of}
use Rattle.iss_rules.specs.Parcels.{OfRequest}
use Rattle.iss_request.specs.declared.requests.Request.{Request}
use Rattle.iss_request.specs.declared.setups.Setup.{Setup}
use Rattle.iss_world.proofs.KeyLemmas.{client-keys, client-number, signed-request}
use Rattle.iss_world.proofs.requests.request_packet.Goals as goal

pub keys_of_client-keys-requires : goal.keys_of_client-keys-requires
keys_of_client-keys-requires g c = client-number c.args.members.now c.args.client c.directory.result.now c.directory.ensures c.requires.client

pub sign_request-requires-clause-leaf : goal.sign_request-requires-clause-leaf
sign_request-requires-clause-leaf g c =
    let mine = client-keys c.args.members.now c.args.client c.directory.result.now c.keys_of_client-keys.result c.directory.ensures c.keys_of_client-keys.ensures.made in
    subst (λ (z : KeyState). c.args.number < 2 ^ z.height) (sym mine) c.requires.leaf

pub returns : goal.returns
returns g c =
    let wrapped : Request → List ℕ = λ q. (formats_of c.args.members.now g.M.Sequenced.spec).wrap (record { from = 255; epoch = 0; body = OfRequest q }) in
    let mine = client-keys c.args.members.now c.args.client c.directory.result.now c.keys_of_client-keys.result c.directory.ensures c.keys_of_client-keys.ensures.made in
    c.in_ok-wrapped.ensures c.args.members.now (ap (λ (s : Setup). s.version) (sym c.setup.ensures))
    ∙ ap wrapped (signed-request c.args.members.now (record { client = c.args.client; number = c.args.number }) c.args.payload.now c.in_ok-copy.field-0 c.as_slice.result.now c.in_ok-sign_request.field-0 c.keys_of_client-keys.result mine c.in_ok-copy.ensures c.as_slice.ensures c.in_ok-sign_request.ensures.signed)
