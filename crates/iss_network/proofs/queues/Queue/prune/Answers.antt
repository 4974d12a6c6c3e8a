use Rattle.std.proofs.Common.{rules, ◌∙◌, ap, filter}
use Rattle.std.proofs.lemmas.Fn.{filter_same}
use Rattle.iss_network.specs.Kept.{is_set}
use Rattle.iss_network.proofs.queues.Queue.prune.Goals as goal

pub returns : goal.returns
returns c =
    filter_same _ (is_set c.args.waiting.now) _ (λ x b f' k. search rules) _ _ c.retain.ensures.filtered
    ∙ ap (filter (is_set c.args.waiting.now)) c.self.view_is
