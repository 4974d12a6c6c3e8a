use Rattle.std.proofs.Common.{◌≡◌, ◌++◌, ◌∷◌, []}
use Rattle.std.proofs.lemmas.Result.{on_ok_weaker}
use Rattle.iss_schedule.specs.Headers.{faulty_line}
use Rattle.iss_schedule.proofs.Encoding.TextIsWritten.{header_written}
use Rattle.iss_schedule.proofs.writing.put_header.Goals as goal

pub returns : goal.returns
returns c =
    on_ok_weaker c.put_faulty.result
    (λ (e : c.put_faulty.new.out.items ≡ c.put_middle.new.out.items ++ faulty_line c.as_slice.result.now ++ 10 ∷ []).
    header_written c.args.setup.now c.as_slice.result.now c.args.out.now.items c.put_front.new.out.items
    c.put_middle.new.out.items c.put_faulty.new.out.items c.in_ok-put_front.ensures c.in_ok-put_middle.ensures e
    c.as_slice.ensures)
    c.put_faulty.ensures
