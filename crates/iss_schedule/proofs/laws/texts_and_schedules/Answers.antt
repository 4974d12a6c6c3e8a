use Rattle.std.proofs.Common.{◌∙◌, sym}
use Rattle.iss_schedule.proofs.BadLines.OneFirstBadLine.{refused_none, one_bad_line}
use Rattle.iss_schedule.proofs.OneScheduleAText.{one_schedule}
use Rattle.iss_schedule.proofs.laws.texts_and_schedules.Goals as goal

pub returns-clause-one_text : goal.returns-clause-one_text
returns-clause-one_text c = λ b d s h k. h.text ∙ sym k.text

pub returns-clause-refused : goal.returns-clause-refused
returns-clause-refused c = refused_none

pub returns-clause-one_refusal : goal.returns-clause-one_refusal
returns-clause-one_refusal c = one_bad_line

pub returns-clause-one_schedule : goal.returns-clause-one_schedule
returns-clause-one_schedule c = one_schedule
