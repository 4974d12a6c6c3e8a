use Rattle.iss_disk.proofs.MemoryLemmas.{within_content}
use Rattle.iss_disk.proofs.memory.MemoryDiskDisk.write_at.Goals as goal

pub write-requires : goal.write-requires
write-requires c = record {
  call = c.requires.call;
  bytes = c.requires.bytes;
  within = within_content c.args.self.now.file c.args.at c.requires.within;
}
