use Rattle.iss_cli.specs.Views.{IsShown}
use Rattle.iss_cli.specs.declared.views.View.TheVariants.{Replied}
use Rattle.iss_cli.proofs.BelievingLemmas.{and_replied}
use Rattle.iss_cli.proofs.believing.reply.Goals as goal

pub returns : goal.returns
returns c = and_replied (IsShown Replied) c.args.input.now c.show_input.result c.replies_are_believable.ensures c.show_input.ensures
