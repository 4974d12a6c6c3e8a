use Rattle.std.proofs.lemmas.Result.{on_ok_weaker}
use Rattle.iss_export.proofs.CertifiedLemmas.{words-written}
use Rattle.iss_export.proofs.printing.put_size.Goals as goal

pub returns : goal.returns
returns c =
    on_ok_weaker c.put_text.result (λ h.
    words-written c.args.out.now.items _ _ _ _ _ _ _ c.put_count.new.out.items c.put_count-2.new.out.items c.put_count-3.new.out.items c.put_text.new.out.items
    c.in_ok-put_count.ensures c.in_ok-put_count-2.ensures c.in_ok-put_count-3.ensures h)
    c.put_text.ensures
