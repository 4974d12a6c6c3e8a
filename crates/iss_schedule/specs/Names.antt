-- The words with which the lines of events begin.
use Rattle.std.specs.Prelude.{ℕ, List, codes}
use Rattle.iss_schedule.specs.declared.names.Name.{Name}
use Rattle.iss_schedule.specs.declared.names.Name.TheVariants.{Request, Propose, Timeout, Ask, Deliver, Lose, Pump, Calm, Hold, Free, Drop, Restart, Crash, Bytes}

-- the text of a name
abbrev pub text_of_name : Name → List ℕ
text_of_name Request = codes "request"
text_of_name Propose = codes "propose"
text_of_name Timeout = codes "timeout"
text_of_name Ask = codes "ask"
text_of_name Deliver = codes "deliver"
text_of_name Lose = codes "lose"
text_of_name Pump = codes "pump"
text_of_name Calm = codes "calm"
text_of_name Hold = codes "hold"
text_of_name Free = codes "free"
text_of_name Drop = codes "drop"
text_of_name Restart = codes "restart"
text_of_name Crash = codes "crash"
text_of_name Bytes = codes "bytes"
