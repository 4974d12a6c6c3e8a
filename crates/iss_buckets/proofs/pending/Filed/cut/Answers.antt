use Rattle.std.proofs.Common.{◌≡◌, ◌<◌, ◌++◌, ◌∷◌, [], ◌∙◌, rules, length, sym, subst, true, Some, List, ℕ}
use Rattle.std.specs.Result.{is_ok}
use Rattle.std.specs.Map.{values_of}
use Rattle.iss_request.specs.declared.requests.Request.{Request}
use Rattle.iss_buckets.specs.Internal.Filed.{kept_at}
use Rattle.iss_buckets.specs.Internal.Turns.{may_cast_at}
use Rattle.iss_buckets.proofs.NextLemmas.{Cutting, cutting_none, cutting_more, cutting_full, cutting_end}
use Rattle.iss_buckets.proofs.pending.Filed.cut.Goals as goal

pub scan-init : goal.scan-init
scan-init c =
    let p = may_cast_at c.args.turn.now in
    let empty : c.in_ok-out.out.items ≡ [] = search rules in
    let none = subst (λ (out : List Request). Cutting p c.args.max (values_of c.args.self.now.shelf) out c.args.self.now.shelf 0) (sym empty) (cutting_none p c.args.max c.args.self.now.shelf) in
    record {
      cuts = subst (λ (es : List (ℕ × Request)). Cutting p c.args.max (values_of c.args.self.now.shelf) c.in_ok-out.out.items es 0) (sym c.prepare.ensures.kept) none;
      room = search rules;
      count = c.in_ok-prepare.ensures.count ∙ c.buckets.ensures.value;
    }

pub scan-preserved-else-is_err : goal.scan-preserved-else-is_err
scan-preserved-else-is_err c =
    let p = may_cast_at c.args.turn.now in
    let room : length c.scan.out.items < c.args.max = search rules in
    let ok : is_ok c.push.result ≡ true = search rules in
    let pushed : c.push.new.self.items ≡ c.scan.out.items ++ c.in-Some-take_out.request ∷ [] = rw ok at c.push.ensures.items in
    let kept : kept_at c.scan.self.shelf c.in-Some.number ≡ Some c.in-Some-take_out.request = sym c.take_out.ensures.value ∙ c.in-Some-take_out.is in
    let more = cutting_more p c.args.max (values_of c.args.self.now.shelf) c.scan.out.items c.scan.self.shelf c.scan.from c.in-Some.number c.in-Some-take_out.request c.scan.self.filed c.scan.invariant.cuts room c.in-Some.ensures kept in
    record {
      cuts = subst (λ (out : List Request). Cutting p c.args.max (values_of c.args.self.now.shelf) out c.take_out.new.self.shelf c.in-Some.number) (sym pushed)
          (subst (λ (es : List (ℕ × Request)). Cutting p c.args.max (values_of c.args.self.now.shelf) (c.scan.out.items ++ c.in-Some-take_out.request ∷ []) es c.in-Some.number) (sym c.take_out.ensures.left) more);
      room = search rules;
      count = c.take_out.ensures.count ∙ c.scan.invariant.count;
    }

pub returns-clause-taken : goal.returns-clause-taken
returns-clause-taken c =
    (cutting_full (may_cast_at c.args.turn.now) c.args.max (values_of c.args.self.now.shelf) c.scan.out.items c.scan.self.shelf c.scan.from c.scan.invariant.cuts (search rules)).0

pub returns-clause-left : goal.returns-clause-left
returns-clause-left c =
    (cutting_full (may_cast_at c.args.turn.now) c.args.max (values_of c.args.self.now.shelf) c.scan.out.items c.scan.self.shelf c.scan.from c.scan.invariant.cuts (search rules)).1

pub returns-in_default-clause-taken : goal.returns-in_default-clause-taken
returns-in_default-clause-taken c =
    (cutting_end (may_cast_at c.args.turn.now) c.args.max (values_of c.args.self.now.shelf) c.scan.out.items c.scan.self.shelf c.scan.from c.scan.self.filed c.scan.invariant.cuts c.in_default.ensures).0

pub returns-in_default-clause-left : goal.returns-in_default-clause-left
returns-in_default-clause-left c =
    (cutting_end (may_cast_at c.args.turn.now) c.args.max (values_of c.args.self.now.shelf) c.scan.out.items c.scan.self.shelf c.scan.from c.scan.self.filed c.scan.invariant.cuts c.in_default.ensures).1
