-- What errors of a journal and of a node's loop are to a node.
use Rattle.iss_cluster.specs.declared.errors.NodeFailure.{NodeFailure}
use Rattle.iss_cluster.specs.declared.errors.NodeFailure.TheVariants.{LinksFault, DiskFault, Damaged, NoMemory}
use Rattle.iss_journal.specs.declared.errors.AttachError.{AttachError}
use Rattle.iss_journal.specs.declared.errors.AttachError.TheVariants.{Failed, Damaged as Damaged_journal, NoMemory as Journal_no_memory}
use Rattle.iss_loops.specs.declared.errors.NodeError.{NodeError}
use Rattle.iss_loops.specs.declared.errors.NodeError.TheVariants.{LinksFault as Loop_links_fault, DiskFault as Loop_disk_fault, NoMemory as Loop_no_memory}

abbrev pub of_journal : AttachError → NodeFailure
of_journal Failed = DiskFault
of_journal (Damaged_journal at) = Damaged at
of_journal Journal_no_memory = NoMemory

abbrev pub of_loop : NodeError → NodeFailure
of_loop Loop_links_fault = LinksFault
of_loop Loop_disk_fault = DiskFault
of_loop Loop_no_memory = NoMemory
