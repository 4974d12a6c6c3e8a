use Rattle.std.proofs.Common.{◌≡◌, take}
use Rattle.std.specs.List.{flat_map}
use Rattle.iss_request.specs.Fields.{and_bytes}
use Rattle.raft_wire.specs.Entries.{spell_entry}
use Rattle.raft_wire.proofs.entries.write_entries.Given as goal

abbrev pub invariant-loop-entry : goal.invariant-loop-entry
invariant-loop-entry l = l.out ≡ and_bytes l.fn.out (flat_map (spell_entry l.fn.out.version) (take l.entry-index l.entries))
