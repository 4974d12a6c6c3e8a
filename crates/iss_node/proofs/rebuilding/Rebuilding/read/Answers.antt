use Rattle.std.proofs.Common.{◌≡◌, None, Some}
use Rattle.std.specs.Prelude.{option_map}
use Rattle.iss_node.proofs.Snapshots.NodeIsWoken.{read-holds, read-next, read-refused}
use Rattle.iss_node.proofs.rebuilding.Rebuilding.read.Goals as goal

pub invariant_of-result : goal.invariant_of-result
invariant_of-result g c =
    let found : option_map (λ a. a.items) c.in-Ok-Some.field-0 ≡ Some c.in-Ok-Some.early.items = rw c.in-Ok-Some.field-0-is in
    read-holds g.M.Sequenced.spec g.M.Sequenced.refines c.self.inside.state c.read_entry.new.self c.self.inside.early.items c.args.bytes.now
    (option_map (λ a. a.items) c.in-Ok-Some.field-0) c.in-Ok-Some.ensures.read c.in-Ok-Some.early.items found c.self.invariant

pub returns-in-Ok-Some-clause-read : goal.returns-in-Ok-Some-clause-read
returns-in-Ok-Some-clause-read g c =
    let found : option_map (λ a. a.items) c.in-Ok-Some.field-0 ≡ Some c.in-Ok-Some.early.items = rw c.in-Ok-Some.field-0-is in
    read-next g.M.Sequenced.spec g.M.Sequenced.refines c.self.inside.state c.read_entry.new.self c.self.inside.early.items c.args.bytes.now
    (option_map (λ a. a.items) c.in-Ok-Some.field-0) c.in-Ok-Some.ensures.read c.args.self c.self.view_is c.in-Ok-Some.early.items found

pub returns-in-Ok-None-clause-read : goal.returns-in-Ok-None-clause-read
returns-in-Ok-None-clause-read g c =
    let found : option_map (λ a. a.items) c.in-Ok-None.field-0 ≡ None = rw c.in-Ok-None.field-0-is in
    read-refused g.M.Sequenced.spec g.M.Sequenced.refines c.self.inside.state c.read_entry.new.self c.self.inside.early.items c.args.bytes.now
    (option_map (λ a. a.items) c.in-Ok-None.field-0) c.in-Ok-None.ensures.read c.args.self c.self.view_is found
