-- What errors of the source and of running nodes are to an answer, and what the lack of an answer is to a call.
use Rattle.iss_loops.specs.declared.errors.NodeError.{NodeError}
use Rattle.iss_loops.specs.declared.errors.NodeError.TheVariants.{LinksFault, DiskFault, NoMemory as Node_no_memory}
use Rattle.iss_cli.specs.declared.errors.AnswerError.{AnswerError}
use Rattle.iss_cli.specs.declared.errors.AnswerError.TheVariants.{SourceFailed, LinksFailed, DiskFailed, NoMemory}
use Rattle.iss_cli.specs.declared.errors.EndError.{EndError}
use Rattle.iss_cli.specs.declared.errors.EndError.TheVariants.{Failed, NoMemory as End_no_memory}
use Rattle.iss_cli.specs.declared.status.Status.{Status}
use Rattle.iss_cli.specs.declared.status.Status.TheVariants.{SourceFailed as Status_source, LinksFailed as Status_links, DiskFailed as Status_disk, NoMemory as Status_no_memory}

abbrev pub of_source : EndError → AnswerError
of_source Failed = SourceFailed
of_source End_no_memory = NoMemory

abbrev pub of_node : NodeError → AnswerError
of_node LinksFault = LinksFailed
of_node DiskFault = DiskFailed
of_node Node_no_memory = NoMemory

abbrev pub status_without : AnswerError → Status
status_without SourceFailed = Status_source
status_without LinksFailed = Status_links
status_without DiskFailed = Status_disk
status_without NoMemory = Status_no_memory
