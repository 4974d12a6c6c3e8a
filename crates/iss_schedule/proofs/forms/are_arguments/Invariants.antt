use Rattle.std.proofs.Common.{◌-◌}
use Rattle.std.specs.Prelude.{◌↔◌}
use Rattle.iss_schedule.specs.Forms.{AreArguments}
use Rattle.iss_schedule.proofs.forms.are_arguments.Given as goal

abbrev pub invariant-loop : goal.invariant-loop
invariant-loop l = AreArguments l.numbers l.bytes l.initial.words ↔ AreArguments (l.numbers - l.counter) l.bytes l.words
