use Rattle.std.proofs.Common.{◌+◌, ◌++◌, ◌∷◌, [], ◌∙◌, ap, arith, sym, take}
use Rattle.std.proofs.lemmas.List.{take_more}
use Rattle.std.proofs.lemmas.Result.{err_from_is_err_and}
use Rattle.iss_checkpoint.specs.Votes.{voters_of}
use Rattle.iss_audit.specs.declared.exports.CertifiedEpoch.{CertifiedEpoch}
use Rattle.iss_audit.proofs.EpochLemmas.{first-refused, length-take, next-certified, next-end-is}
use Rattle.iss_audit.proofs.checking.check_epochs.Goals as goal

pub returns-in_err-end-clause-bad : goal.returns-in_err-end-clause-bad
returns-in_err-end-clause-bad c =
    let s = c.args.setup.now in
    let xs = c.args.epochs.now in
    let i = c.loop-number.number in
    let x = c.index-epochs-number.result in
    let p = err_from_is_err_and c.from_residual.result c.from_residual.ensures.1 in
    rw (p.1, p.2)
    (first-refused s (voters_of s c.args.directory.now) xs i x x c.in_err-end.field-0.0 (omega (arith, c.loop-number-test.true)) c.index-epochs-number.is c.loop-number.invariant.certified
    (c.in_err-end.ensures.bad (take i xs) c.loop-number.invariant.end (sym (length-take xs i (omega (arith, c.loop-number-test.true))))))

pub loop-number-preserved : goal.loop-number-preserved
loop-number-preserved c =
    let s = c.args.setup.now in
    let xs = c.args.epochs.now in
    let i = c.loop-number.number in
    let x = c.index-epochs-number.result in
    let more = take_more xs i x (omega (arith, c.loop-number-test.true)) ∙ ap (λ (y : CertifiedEpoch). take i xs ++ y ∷ []) (sym c.index-epochs-number.is) in
    let same = c.in_ok-end.ensures.end (take i xs) c.loop-number.invariant.end in
    record {
      end = next-end-is s.version xs (take (i + 1) xs) i x c.in_ok-end.end more same;
      certified = next-certified s (voters_of s c.args.directory.now) xs (take (i + 1) xs) i x x c.in_ok-end.end (omega (arith, c.loop-number-test.true)) c.index-epochs-number.is more c.requires c.loop-number.invariant.certified c.in_ok-end.ensures.valid c.in_ok-end.ensures.stated same;
    }
