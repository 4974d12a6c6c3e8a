use Rattle.std.proofs.Common.{List, drop, sym, subst}
use Rattle.iss_request.specs.declared.ids.Slot.{Slot}
use Rattle.iss_request.specs.declared.requests.Value.{Value}
use Rattle.iss_sb.specs.Calls.{AllIn, slots_of}
use Rattle.iss_sb.specs.Paired.{paired}
use Rattle.iss_sb.proofs.Paired.{fresh-within}
use Rattle.sb_chained.proofs.chained.Chained.deliver.Goals as goal

pub returns-then-slots-self-clause-inside : goal.returns-then-slots-self-clause-inside
returns-then-slots-self-clause-inside c =
    subst (λ (z : List (Slot × Value)). AllIn (slots_of z) c.args.context.now.p.now.slots) (sym c.in_ok-delivers.ensures)
    (subst (λ (z : List Slot). AllIn (slots_of (paired (drop c.args.self.now.delivered z) c.into_vec.result.items)) c.args.context.now.p.now.slots) (sym c.as_slice.ensures) (fresh-within c.args.self.now.delivered c.args.context.now.p.now.slots c.into_vec.result.items))

pub returns-clause-inside : goal.returns-clause-inside
returns-clause-inside c =
    subst (λ (z : List (Slot × Value)). AllIn (slots_of z) c.args.context.now.p.now.slots) (sym c.in_ok-delivers.ensures)
    (subst (λ (z : List Slot). AllIn (slots_of (paired (drop c.args.self.now.delivered z) c.into_vec.result.items)) c.args.context.now.p.now.slots) (sym c.as_slice.ensures) (fresh-within c.args.self.now.delivered c.args.context.now.p.now.slots c.into_vec.result.items))
