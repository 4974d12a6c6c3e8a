use Rattle.std.proofs.Common.{◌∙◌, ℕ, refl, suc, ◌+◌, ◌-◌, arith}
use Rattle.iss_request.specs.Formats.{parse_value}
use Rattle.iss_request.specs.Parsing.{times}
use Rattle.iss_request.proofs.Readings.{continues_bad, continues_end, continues_next, continues_start, exit}
use Rattle.iss_sb.proofs.Read.{read-by, unread-by}
use Rattle.iss_snapshot.proofs.reading.read_epochs.Goals as goal

pub returns-in_err-values-clause-bad : goal.returns-in_err-values-clause-bad
returns-in_err-values-clause-bad c =
    exit c.from_residual.result _ _ c.from_residual.ensures.1 (λ at e.
    continues_bad (times c.args.slots (parse_value c.args.f.now.version)) c.args.count _ (c.args.count - suc c.loop.counter) _ _ _ at (omega arith) c.loop.invariant.1 (unread-by (λ (n : ℕ). times c.args.slots (parse_value n)) c.loop.invariant.0 (c.in_err-values.ensures.bad at e)))

pub loop-init : goal.loop-init
loop-init c = (refl, continues_start (times c.args.slots (parse_value c.args.f.now.version)) c.args.count _ (c.args.count - 0) _ (omega arith) c.new-epochs.ensures)

pub loop-preserved : goal.loop-preserved
loop-preserved c =
    let got = read-by (λ (n : ℕ). times c.args.slots (parse_value n)) c.loop.invariant.0 c.in_ok-values.ensures.ok in (
      got.version ∙ c.loop.invariant.0,
      rw c.in_ok-push.ensures.ok
          (continues_next (times c.args.slots (parse_value c.args.f.now.version)) c.args.count _ (c.args.count - (c.loop.counter + 1)) (c.args.count - c.loop.counter) _ _ _ _ (omega arith) c.loop.invariant.1 got),
    )

pub returns-clause-ok : goal.returns-clause-ok
returns-clause-ok c = continues_end (times c.args.slots (parse_value c.args.f.now.version)) c.args.count _ (c.args.count - c.loop.counter) _ _ (omega arith) c.loop.invariant.1
