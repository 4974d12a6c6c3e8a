use Rattle.iss_window.proofs.Members.{has_id-removed}
use Rattle.iss_window.proofs.ids.Ids.remove.Goals as goal

pub returns : goal.returns
returns c = rw (← c.self.view_is) (λ x. has_id-removed x c.args.id c.self.inside.all.keys c.swap_remove-gone.new.self.keys (c.swap_remove-gone.ensures.updates.0 x))
