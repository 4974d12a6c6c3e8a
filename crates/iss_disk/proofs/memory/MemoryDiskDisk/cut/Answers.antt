use Rattle.iss_disk.proofs.MemoryLemmas.{within_content}
use Rattle.iss_disk.proofs.memory.MemoryDiskDisk.cut.Goals as goal

pub cut-requires : goal.cut-requires
cut-requires c = record {
  call = c.requires.call;
  bytes = c.requires.bytes;
  within = within_content c.args.self.now.file c.args.len c.requires.within;
}
