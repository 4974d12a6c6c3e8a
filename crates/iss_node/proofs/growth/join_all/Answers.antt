use Rattle.std.proofs.Common.{◌∙◌, arith, refl}
use Rattle.iss_node.proofs.Log.ChainExtends.{join-all, join-none, join-one}
use Rattle.iss_node.proofs.growth.join_all.Goals as goal

pub loop-value-init : goal.loop-value-init
loop-value-init c = record { joined = λ log k. join-none c.args.chains.now log c.args.hashed.now k; version = refl }

pub loop-value-preserved : goal.loop-value-preserved
loop-value-preserved c =
    let h = c.loop-value.invariant in
    record {
      joined = λ log k.
          join-one c.args.chains.now c.loop-value.chains c.join.new.self log c.args.values.now c.loop-value.value-index c.value-item.result _ _ _ (omega (arith, c.loop-value-test.true)) c.value-item.is h.version (h.joined log k)
          c.in_ok-join.ensures.joined c.in_ok-join.ensures.hashed;
      version = c.join.ensures.version ∙ h.version;
    }

pub returns-in_err-join-clause-version : goal.returns-in_err-join-clause-version
returns-in_err-join-clause-version c = c.join.ensures.version ∙ c.loop-value.invariant.version

pub returns-clause-joined : goal.returns-clause-joined
returns-clause-joined c = λ log k.
    join-all c.args.chains.now c.loop-value.chains log c.args.values.now c.loop-value.value-index _ _ (omega (arith, c.loop-value-test.false)) (c.loop-value.invariant.joined log k)

pub returns-clause-version : goal.returns-clause-version
returns-clause-version c = c.loop-value.invariant.version
