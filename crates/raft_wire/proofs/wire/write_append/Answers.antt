use Rattle.std.proofs.Common.{length}
use Rattle.std.specs.List.{flat_map}
use Rattle.std.proofs.lemmas.Result.{on_ok_weaker}
use Rattle.raft_wire.specs.Entries.{spell_entry}
use Rattle.raft_wire.proofs.Written.{append-written}
use Rattle.raft_wire.proofs.wire.write_append.Goals as goal

pub returns : goal.returns
returns c =
    let es = c.args.entries.now in
    on_ok_weaker c.write_entries.result (λ q. append-written c.args.term c.args.previous.index c.args.previous.term c.args.commit (length es) (λ v. flat_map (spell_entry v) es) c.args.out.now _ _ _ _ _ _ _
    c.in_ok-put_u8.ensures.ok c.in_ok-put_u16.ensures.ok c.in_ok-put_u32.ensures.ok c.in_ok-put_u16-2.ensures.ok c.in_ok-put_u32-2.ensures.ok c.in_ok-put_u32-3.ensures.ok q) c.write_entries.ensures
