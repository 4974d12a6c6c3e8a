use Rattle.std.proofs.Common.{◌∙◌, ◌+◌, ◌++◌, ◌∷◌, [], List, append-nil, arith, ap, refl, sym, take}
use Rattle.std.proofs.lemmas.List.{take_more}
use Rattle.iss_audit.specs.Exports.{log_of}
use Rattle.iss_request.specs.declared.requests.Value.{Value}
use Rattle.iss_audit.specs.declared.exports.CertifiedEpoch.{CertifiedEpoch}
use Rattle.iss_export.proofs.CertifiedLemmas.{epoch-more, printed-same}
use Rattle.iss_export.proofs.printing.put_epochs.Goals as goal

pub loop-epoch-init : goal.loop-epoch-init
loop-epoch-init c = record { lines = sym (append-nil c.args.out.now.items); place = refl }

pub loop-epoch-preserved : goal.loop-epoch-preserved
loop-epoch-preserved c =
    let xs = c.args.epochs.now in
    let i = c.loop-epoch.epoch-index in
    let x = c.epoch-item.result in
    let before = c.loop-epoch.invariant in
    let more = take_more xs i x (omega (arith, c.loop-epoch-test.true)) ∙ ap (λ (y : CertifiedEpoch). take i xs ++ y ∷ []) (sym c.epoch-item.is) in
    let log = log_of (take i xs) in
    let values = ap (λ (vs : List Value). log ++ vs) c.as_slice.ensures ∙ epoch-more (take i xs) (take (i + 1) xs) x more in
    printed-same _ _ c.args.out.now.items _ _ values (c.in_ok-place.ensures log c.args.out.now.items before.place before.lines)
