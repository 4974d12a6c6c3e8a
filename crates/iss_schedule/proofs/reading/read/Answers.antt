use Rattle.std.specs.Prelude.{IfOk, IfErr, Result}
use Rattle.std.proofs.Common.{List, ℕ, Ok, Err}
use Rattle.iss_request.specs.Setup.{IsGoodSetup}
use Rattle.iss_schedule.specs.declared.errors.ReadError.{ReadError}
use Rattle.iss_schedule.specs.declared.errors.ReadError.TheVariants.{BadLine, NoMemory}
use Rattle.iss_schedule.specs.declared.schedules.Schedule.{Schedule}
use Rattle.iss_schedule.specs.BadLines.{IsRefused, IsNoText}
use Rattle.iss_schedule.specs.Events.{AreInRange}
use Rattle.iss_schedule.specs.Schedules.{IsSchedule}
use Rattle.iss_schedule.proofs.BadLines.OneFirstBadLine.{refused_none}
use Rattle.iss_schedule.proofs.reading.read.Goals as goal

good_setup : (bytes : List ℕ) (r : Result Schedule ReadError) → IfOk r (IsSchedule bytes) →
    IfOk r (λ s. IsGoodSetup s.setup)
good_setup bytes (Ok s) h = h.fine.setup.good
good_setup bytes (Err e) h = tt

in_range : (bytes : List ℕ) (r : Result Schedule ReadError) → IfOk r (IsSchedule bytes) →
    IfOk r (λ s. AreInRange s.setup s.events)
in_range bytes (Ok s) h = h.fine.events
in_range bytes (Err e) h = tt

no_text : (bytes : List ℕ) (r : Result Schedule ReadError) → IfErr r (IsRefused bytes) → IfErr r (IsNoText bytes)
no_text bytes (Ok s) h = tt
no_text bytes (Err (BadLine line why)) h = λ s is. refused_none bytes line why s h is
no_text bytes (Err NoMemory) h = tt

pub returns-clause-good : goal.returns-clause-good
returns-clause-good c = good_setup c.args.bytes.now c.read_text.result c.read_text.ensures.ok

pub returns-clause-range : goal.returns-clause-range
returns-clause-range c = in_range c.args.bytes.now c.read_text.result c.read_text.ensures.ok

pub returns-clause-none : goal.returns-clause-none
returns-clause-none c = no_text c.args.bytes.now c.read_text.result c.read_text.ensures.bad
