use Rattle.std.proofs.Common.{◌∙◌, ap, cond, List, ℕ, None}
use Rattle.std.specs.Str.{bytes_eq}
use Rattle.iss_reply.specs.Internal.Held.{held_in}
use Rattle.iss_reply.proofs.StoreLemmas.{held-changed}
use Rattle.iss_reply.proofs.stores.Store.delete.Goals as goal

pub returns : goal.returns
returns c = λ k.
    held-changed c.args.key.now c.self.inside.values.entries c.remove-before.new.self.entries None c.remove-before.ensures.updates.1 c.remove-before.ensures.updates.3 k
    ∙ ap (λ (s : List (List ℕ × List ℕ)). cond (bytes_eq c.args.key.now k) None (held_in s k)) c.self.view_is
