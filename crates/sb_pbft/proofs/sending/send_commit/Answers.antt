use Rattle.std.proofs.Common.{ℕ, List, refl, ap}
use Rattle.pbft_wire.specs.Signed.{Commit}
use Rattle.sb_pbft.specs.Makes.{DraftCommit}
use Rattle.sb_pbft.proofs.Refinement.SettleRefines.{sent-one}
use Rattle.sb_pbft.proofs.sending.send_commit.Goals as goal

pub returns-clause-sent : goal.returns-clause-sent
returns-clause-sent c = sent-one c.args.context.now.p.now (DraftCommit c.args.mark.now.view c.args.mark.now.slot c.args.mark.now.digest) _ c.args.keys.now _ _ _ c.in_ok-sig.ensures.used
    (λ me own. ap (λ (s : List ℕ). Commit c.args.mark.now.view c.args.mark.now.slot c.args.mark.now.digest s) (c.in_ok-sig.ensures.sig me own)) refl c.in_ok-push.ensures.ok
