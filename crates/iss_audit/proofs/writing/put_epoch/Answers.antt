use Rattle.iss_audit.proofs.WriteLemmas.{epoch-written}
use Rattle.iss_audit.proofs.writing.put_epoch.Goals as goal

pub returns-clause-lines : goal.returns-clause-lines
returns-clause-lines c =
    epoch-written c.args.version c.args.values.now c.args.cert.now c.args.out.now.items c.put_values.new.out.items c.put_cert.new.out.items c.in_ok-put_values.ensures.lines c.in_ok-put_cert.ensures.line
