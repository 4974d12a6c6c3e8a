use Rattle.std.proofs.Common.{◌∙◌, ℕ, Vec, Global, ap, sym, drop, take, ◌+◌}
use Rattle.iss_request.specs.Internal.Bytes.{held_bytes}
use Rattle.iss_request.proofs.Parts.{part_again}
use Rattle.iss_request.proofs.bytes.Bytes.part.Goals as goal

pub returns-in_ok-clone-in-Part : goal.returns-in_ok-clone-in-Part
returns-in_ok-clone-in-Part c =
    ap (λ (v : Vec ℕ Global). drop (c.in-Part.first + c.args.from) (take (c.in-Part.first + c.args.to) v.items))
    c.in_ok-clone-in-Part.ensures.cases
    ∙ part_again c.in-Part.all.value.items c.args.self.now c.in-Part.first _ c.args.from c.args.to (sym c.self.view_is
    ∙ ap held_bytes c.in-Part.is) c.requires.within c.requires.order
