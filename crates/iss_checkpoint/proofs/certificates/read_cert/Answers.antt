use Rattle.std.proofs.Common.{arith}
use Rattle.iss_request.proofs.Readings.{exit, read_done, read_then, unread_first, unread_then}
use Rattle.iss_checkpoint.specs.Certificates.{parse_cert}
use Rattle.iss_sb.proofs.Fields.{count-read, count-unread}
use Rattle.iss_checkpoint.proofs.certificates.read_cert.Goals as goal

pub returns-in_err-chain-clause-bad : goal.returns-in_err-chain-clause-bad
unfolding parse_cert
returns-in_err-chain-clause-bad c = exit c.from_residual.result _ _ c.from_residual.ensures.1 (λ at e. unread_first _ _ (c.in_err-chain.ensures.bad at e))

pub returns-in_err-requests-clause-bad : goal.returns-in_err-requests-clause-bad
unfolding parse_cert
returns-in_err-requests-clause-bad c =
    exit c.from_residual-in_err-requests.result _ _ c.from_residual-in_err-requests.ensures.1 (λ at e.
    unread_then _ _ c.in_ok-chain.ensures.ok
    (unread_first _ _ (c.in_err-requests.ensures.bad at e)))

pub returns-in_err-count-clause-bad : goal.returns-in_err-count-clause-bad
unfolding parse_cert
returns-in_err-count-clause-bad c =
    exit c.from_residual-in_err-count.result _ _ c.from_residual-in_err-count.ensures.1 (λ at e.
    unread_then _ _ c.in_ok-chain.ensures.ok
    (unread_then _ _ c.in_ok-requests.ensures.ok
    (unread_first _ _ (count-unread (c.in_err-count.ensures.bad at e)))))

pub returns-in_err-signers-clause-bad : goal.returns-in_err-signers-clause-bad
unfolding parse_cert
returns-in_err-signers-clause-bad c =
    exit c.from_residual-in_err-signers.result _ _ c.from_residual-in_err-signers.ensures.1 (λ at e.
    unread_then _ _ c.in_ok-chain.ensures.ok
    (unread_then _ _ c.in_ok-requests.ensures.ok
    (unread_then _ _ (count-read _ (omega arith) c.in_ok-count.ensures.ok)
    (unread_first _ _ (c.in_err-signers.ensures.bad at e)))))

pub returns-clause-ok : goal.returns-clause-ok
unfolding parse_cert
returns-clause-ok c =
    read_then _ _ c.in_ok-chain.ensures.ok
    (read_then _ _ c.in_ok-requests.ensures.ok
    (read_then _ _ (count-read _ (omega arith) c.in_ok-count.ensures.ok)
    (read_then _ _ c.in_ok-signers.ensures.ok (read_done _ _))))
