-- What errors of the links, of a loop and of a node are to a loop.
use Rattle.iss_links.specs.declared.errors.EndError.{EndError}
use Rattle.iss_links.specs.declared.errors.EndError.TheVariants.{Failed, NoMemory as Links_no_memory}
use Rattle.iss_loops.specs.declared.errors.LoopError.{LoopError}
use Rattle.iss_loops.specs.declared.errors.LoopError.TheVariants.{LinksFault, NoMemory}
use Rattle.iss_loops.specs.declared.errors.NodeError.{NodeError}
use Rattle.iss_loops.specs.declared.errors.NodeError.TheVariants.{LinksFault as Node_links_fault, DiskFault, NoMemory as Node_no_memory}
use Rattle.iss_loops.specs.declared.node.StepError.{StepError}
use Rattle.iss_loops.specs.declared.node.StepError.TheVariants.{DiskFault as Step_disk_fault, NoMemory as Step_no_memory}

abbrev pub as_loop_error : EndError → LoopError
as_loop_error Failed = LinksFault
as_loop_error Links_no_memory = NoMemory

abbrev pub of_loop : LoopError → NodeError
of_loop LinksFault = Node_links_fault
of_loop NoMemory = Node_no_memory

abbrev pub of_links : EndError → NodeError
of_links Failed = Node_links_fault
of_links Links_no_memory = Node_no_memory

abbrev pub of_step : StepError → NodeError
of_step Step_disk_fault = DiskFault
of_step Step_no_memory = Node_no_memory
