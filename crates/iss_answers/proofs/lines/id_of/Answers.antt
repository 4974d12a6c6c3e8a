use Rattle.std.proofs.Common.{◌<◌, ◌^◌, rules}
use Rattle.iss_answers.proofs.LineLemmas.{id-made, id-no-client, id-no-number, id-uncut}
use Rattle.iss_answers.proofs.lines.id_of.Goals as goal

pub returns-in_err-client : goal.returns-in_err-client
returns-in_err-client c = rw c.from_residual.ensures (id-uncut c.args.word.now c.in_err-client.ensures.none)

pub returns-in_err-client-2 : goal.returns-in_err-client-2
returns-in_err-client-2 c = rw c.from_residual-in_err-client-2.ensures
    (id-no-client c.args.word.now c.in_ok-client.client.now c.in_ok-client.number.now c.in_ok-client.ensures.some c.in_ok-client.ensures.first c.in_err-client-2.ensures.none)

pub returns-in_err-number : goal.returns-in_err-number
returns-in_err-number c = rw c.from_residual-in_err-number.ensures
    (id-no-number c.args.word.now c.in_ok-client.client.now c.in_ok-client.number.now c.in_ok-client.ensures.some c.in_ok-client.ensures.first c.in_err-number.ensures.none)

pub returns : goal.returns
returns c =
    let m : c.in_ok-client-2.client < 2 ^ 64 = search rules in
    let n : c.in_ok-number.number < 2 ^ 64 = search rules in
    id-made c.args.word.now c.in_ok-client.client.now c.in_ok-client.number.now c.in_ok-client-2.client c.in_ok-number.number c.id_from.result c.in_ok-client.ensures.some c.in_ok-client.ensures.first c.in_ok-client-2.ensures.some c.in_ok-number.ensures.some m n c.id_from.ensures.same c.id_from.ensures.range c.id_from.ensures.none
