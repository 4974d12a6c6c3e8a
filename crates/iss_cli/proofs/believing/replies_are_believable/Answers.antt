use Rattle.iss_cli.proofs.BelievingLemmas.{all_replied}
use Rattle.iss_cli.proofs.believing.replies_are_believable.Goals as goal

pub returns : goal.returns
returns c = λ s fine.
    all_replied s fine (λ h. c.replies_are_of_one_log.ensures s.setup h s.events fine.events) (λ h. c.replies_are_of_one_log-2.ensures s.setup h s.events fine.events)
    (λ h. c.replies_are_of_one_log-3.ensures s.setup h s.events fine.events) (λ h. c.replies_are_of_one_log-4.ensures s.setup h s.events fine.events)
    (λ h. c.replies_are_of_one_log-5.ensures s.setup h s.events fine.events)
