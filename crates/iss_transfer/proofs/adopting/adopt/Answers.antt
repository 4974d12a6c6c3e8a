use Rattle.std.proofs.Common.{◌<◌, ◌*◌, ◌^◌, ◌++◌, ◌∙◌, ap, sym, arith, w64}
use Rattle.std.proofs.Math.Facts.{Fits-of_lt}
use Rattle.iss_log.specs.Chains.{end_from, strings_from}
use Rattle.iss_transfer.proofs.AdoptionLemmas.{end-there, is-adopted, is-apart, ours-is, start-is}
use Rattle.iss_transfer.proofs.adopting.adopt.Goals as goal

pub overflow_mul-epoch : goal.overflow_mul-epoch
overflow_mul-epoch c =
    let whole : c.args.epoch.0 * c.args.setup.now.epoch < 2 ^ 64 = omega (arith, c.requires.whole, c.slots-slots.ensures) in
    Fits-of_lt {w = w64} whole

pub unreachable-requires : goal.unreachable-requires
unreachable-requires c = end-there c.args.chains.now.ends (c.args.epoch.0 * c.args.setup.now.epoch) c.requires.whole (sym c.end_at.ensures ∙ c.in_default.is)

pub returns-then-not-same_end : goal.returns-then-not-same_end
returns-then-not-same_end c = λ log kept.
    let s = c.args.setup.now in
    let start = start-is s log c.args.epoch.0 c.args.chains.now c.in-Some.start kept c.requires.version c.requires.whole (sym c.end_at.ensures ∙ c.in-Some.is) in
    let end = c.in_ok-ours.ensures.end ∙ ap (λ xs. end_from s.version c.in-Some.start xs) c.as_slice.ensures in
    is-apart s _ log c.args.epoch.0 c.args.piece.now c.in_ok-ours.ours c.said_in-theirs.result (sym c.if-not-has_shape.ensures) (sym c.if-not-is_certified.ensures)
    (ours-is s log c.args.epoch.0 c.args.piece.now c.in-Some.start c.in_ok-ours.ours start end) c.said_in-theirs.ensures (sym c.if-not-same_end.ensures)

pub returns : goal.returns
returns c = λ log kept.
    let s = c.args.setup.now in
    let start = start-is s log c.args.epoch.0 c.args.chains.now c.in-Some.start kept c.requires.version c.requires.whole (sym c.end_at.ensures ∙ c.in-Some.is) in
    let end = c.in_ok-ours.ensures.end ∙ ap (λ xs. end_from s.version c.in-Some.start xs) c.as_slice.ensures in
    let strings = c.in_ok-ours.ensures.hashed ∙ ap (λ xs. xs ++ strings_from s.version c.in-Some.start.chain c.as_slice.result.now) c.new-hashed.ensures
    ∙ ap (λ xs. strings_from s.version c.in-Some.start.chain xs) c.as_slice.ensures in
    is-adopted s _ log c.args.epoch.0 c.args.piece.now c.in-Some.start c.in_ok-ours.ours c.said_in-theirs.result c.end_from.new.hashed (sym c.if-not-has_shape.ensures) (sym c.if-not-is_certified.ensures) start
    (ours-is s log c.args.epoch.0 c.args.piece.now c.in-Some.start c.in_ok-ours.ours start end) c.said_in-theirs.ensures (sym c.if-not-same_end.ensures) strings
