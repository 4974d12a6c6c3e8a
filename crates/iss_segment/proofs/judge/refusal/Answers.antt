use Rattle.std.proofs.Common.{◌∙◌, ◌≤◌, true, false, length, refl, sym, arith}
use Rattle.iss_rules.specs.Judge.{any_marked}
use Rattle.iss_request.specs.Log.{ids}
use Rattle.iss_segment.proofs.MarksLemmas.{judged, judged-outside, judged-unsigned, not-large}
use Rattle.iss_segment.proofs.Signed.{under-setup}
use Rattle.iss_segment.proofs.judge.refusal.Goals as goal

pub returns-then-is_any_ordered : goal.returns-then-is_any_ordered
returns-then-is_any_ordered c =
    let small : length c.args.batch.now ≤ c.args.params.now.setup.batch = omega (arith, c.if-batch-params.false) in
    judged c.args.params.now.setup c.args.layout.now c.args.windows.now c.args.params.now.leader.0 c.args.marked.now c.args.batch.now false false false false true (any_marked c.args.marked.now (ids c.args.batch.now)) (record {
      large = not-large c.args.params.now.setup.batch (length c.args.batch.now) small;
      foreign = sym c.is_any_foreign.ensures ∙ c.if-is_any_foreign.false;
      unsigned = under-setup c.args.params.now.setup c.directory.result.now c.args.batch.now (c.directory.ensures ∙ c.requires) (sym c.is_any_unsigned.ensures ∙ c.if-is_any_unsigned.false);
      outside = λ before h. sym (c.is_any_outside.ensures before h) ∙ c.if-is_any_outside.false;
      ordered = λ before h. sym (c.is_any_ordered.ensures before h) ∙ c.if-is_any_ordered.true;
      doubled = refl;
    })

pub returns-then-is_any_marked : goal.returns-then-is_any_marked
returns-then-is_any_marked c =
    let small : length c.args.batch.now ≤ c.args.params.now.setup.batch = omega (arith, c.if-batch-params.false) in
    judged c.args.params.now.setup c.args.layout.now c.args.windows.now c.args.params.now.leader.0 c.args.marked.now c.args.batch.now false false false false false true (record {
      large = not-large c.args.params.now.setup.batch (length c.args.batch.now) small;
      foreign = sym c.is_any_foreign.ensures ∙ c.if-is_any_foreign.false;
      unsigned = under-setup c.args.params.now.setup c.directory.result.now c.args.batch.now (c.directory.ensures ∙ c.requires) (sym c.is_any_unsigned.ensures ∙ c.if-is_any_unsigned.false);
      outside = λ before h. sym (c.is_any_outside.ensures before h) ∙ c.if-is_any_outside.false;
      ordered = λ before h. sym (c.is_any_ordered.ensures before h) ∙ c.if-is_any_ordered.false;
      doubled = sym c.is_any_marked.ensures ∙ c.if-is_any_marked.true;
    })

pub returns-else-is_any_marked : goal.returns-else-is_any_marked
returns-else-is_any_marked c =
    let small : length c.args.batch.now ≤ c.args.params.now.setup.batch = omega (arith, c.if-batch-params.false) in
    judged c.args.params.now.setup c.args.layout.now c.args.windows.now c.args.params.now.leader.0 c.args.marked.now c.args.batch.now false false false false false false (record {
      large = not-large c.args.params.now.setup.batch (length c.args.batch.now) small;
      foreign = sym c.is_any_foreign.ensures ∙ c.if-is_any_foreign.false;
      unsigned = under-setup c.args.params.now.setup c.directory.result.now c.args.batch.now (c.directory.ensures ∙ c.requires) (sym c.is_any_unsigned.ensures ∙ c.if-is_any_unsigned.false);
      outside = λ before h. sym (c.is_any_outside.ensures before h) ∙ c.if-is_any_outside.false;
      ordered = λ before h. sym (c.is_any_ordered.ensures before h) ∙ c.if-is_any_ordered.false;
      doubled = sym c.is_any_marked.ensures ∙ c.if-is_any_marked.false;
    })

pub returns-then-is_any_unsigned : goal.returns-then-is_any_unsigned
returns-then-is_any_unsigned c =
    let small : length c.args.batch.now ≤ c.args.params.now.setup.batch = omega (arith, c.if-batch-params.false) in
    judged-unsigned c.args.params.now.setup c.args.layout.now c.args.windows.now c.args.params.now.leader.0 c.args.marked.now c.args.batch.now
    (not-large c.args.params.now.setup.batch (length c.args.batch.now) small)
    (sym c.is_any_foreign.ensures ∙ c.if-is_any_foreign.false)
    (under-setup c.args.params.now.setup c.directory.result.now c.args.batch.now (c.directory.ensures ∙ c.requires) (sym c.is_any_unsigned.ensures ∙ c.if-is_any_unsigned.true))

pub returns-then-is_any_outside : goal.returns-then-is_any_outside
returns-then-is_any_outside c =
    let small : length c.args.batch.now ≤ c.args.params.now.setup.batch = omega (arith, c.if-batch-params.false) in
    judged-outside c.args.params.now.setup c.args.layout.now c.args.windows.now c.args.params.now.leader.0 c.args.marked.now c.args.batch.now
    (not-large c.args.params.now.setup.batch (length c.args.batch.now) small)
    (sym c.is_any_foreign.ensures ∙ c.if-is_any_foreign.false)
    (under-setup c.args.params.now.setup c.directory.result.now c.args.batch.now (c.directory.ensures ∙ c.requires) (sym c.is_any_unsigned.ensures ∙ c.if-is_any_unsigned.false))
    (λ before h. sym (c.is_any_outside.ensures before h) ∙ c.if-is_any_outside.true)
