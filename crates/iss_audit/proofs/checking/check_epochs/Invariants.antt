use Rattle.std.proofs.Common.{◌≡◌, [], take}
use Rattle.iss_checkpoint.specs.Votes.{voters_of}
use Rattle.iss_log.specs.Chains.{end_of}
use Rattle.iss_audit.specs.Exports.{EachEpoch, IsCertified, log_of}
use Rattle.iss_audit.proofs.checking.check_epochs.Given as goal

abbrev pub invariant-loop-number : goal.invariant-loop-number
invariant-loop-number l = record {
  end : l.end ≡ end_of l.setup.version (log_of (take l.number l.epochs));
  certified : EachEpoch (IsCertified l.setup (voters_of l.setup l.directory)) [] (take l.number l.epochs);
}
