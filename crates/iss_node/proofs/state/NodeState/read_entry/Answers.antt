use Rattle.std.proofs.Common.{◌≡◌, List, [], Option, None, Some, Result, Err, ap, subst, sym}
use Rattle.std.specs.Prelude.{option_map}
use Rattle.std.proofs.lemmas.Result.{IfOk-weaker}
use Rattle.iss_model.specs.Frames.{frame_of}
use Rattle.iss_node.proofs.Snapshots.BytesAreRead.{entry-damaged, entry-parsed, parsed-whole}
use Rattle.iss_node.specs.Internal.Rebuilding.{IsReadAs, IsWhole}
use Rattle.iss_node.specs.Rebuilding.{HasRead}
use Rattle.iss_node.specs.State.{StateView}
use Rattle.iss_rebuilt.specs.Reading.{Rebuilt, reads_entry, reads_snapshot}
use Rattle.iss_request.specs.declared.requests.Value.{Value}
use Rattle.iss_request.specs.Fields.{Bad, Good}
use Rattle.iss_request.specs.Parsing.{all_of}
use Rattle.iss_request.specs.declared.errors.DecodeError.{DecodeError}
use Rattle.iss_snapshot.specs.Snapshots.{equal_epochs, parse_snapshot}
use Rattle.iss_snapshot.specs.declared.snapshots.Snapshot.{Snapshot}
use Rattle.iss_node.proofs.state.NodeState.read_entry.Goals as goal

pub continue_with-requires : goal.continue_with-requires
continue_with-requires g c =
    subst (λ (z : StateView g.row.M.Denot g.row.M-Msg.Denot). IsWhole z.setup.epoch c.in-Ok.snapshot) c.self.view_is
    (parsed-whole c.self.inside.setup.version c.self.inside.setup.epoch c.args.bytes.now c.in-Ok.snapshot c.in-Ok.ensures.ok)

pub returns-in-Ok-clause-read : goal.returns-in-Ok-clause-read
returns-in-Ok-clause-read g c =
    let m = g.M.Sequenced.spec in
    let v = c.args.self.now in
    let w = c.continue_with.new.self in
    let s = c.in-Ok.snapshot in
    let ok : (log : List Value) → parse_snapshot v.setup.version (equal_epochs v.setup.epoch) log c.args.bytes.now ≡ Good s [] =
    subst (λ (z : StateView g.row.M.Denot g.row.M-Msg.Denot). (log : List Value) → parse_snapshot z.setup.version (equal_epochs z.setup.epoch) log c.args.bytes.now ≡ Good s []) c.self.view_is c.in-Ok.ensures.ok in
    IfOk-weaker c.continue_with.result
    (λ early. (r : Rebuilt g.row.M-Msg.Denot) → HasRead m g.M.Sequenced.refines v r → IsReadAs m g.M.Sequenced.refines (reads_snapshot (frame_of v.setup m) v.me.0 r s) w (option_map (λ a. a.items) early))
    (λ early. (r : Rebuilt g.row.M-Msg.Denot) → HasRead m g.M.Sequenced.refines v r → IsReadAs m g.M.Sequenced.refines (reads_entry (frame_of v.setup m) v.me.0 (Some r) c.args.bytes.now) w (option_map (λ a. a.items) early))
    (λ early all r h. subst (λ (o : Option (Rebuilt g.row.M-Msg.Denot)). IsReadAs m g.M.Sequenced.refines o w (option_map (λ a. a.items) early)) (sym (entry-parsed v.setup m v.me.0 r c.args.bytes.now s ok)) (all r h))
    c.continue_with.ensures.read

pub returns-in-Err-BadField-clause-read : goal.returns-in-Err-BadField-clause-read
returns-in-Err-BadField-clause-read g c = λ r h.
    let m = g.M.Sequenced.spec in
    let v = c.args.self.now in
    let at = c.in-Err-BadField.field-0-0 in
    let is = ap (λ (e : DecodeError). let x : Result Snapshot DecodeError = Err e in x) c.in-Err-BadField.field-0-is in
    let bad : (log : List Value) → all_of (parse_snapshot v.setup.version (equal_epochs v.setup.epoch) log) c.args.bytes.now ≡ Bad at =
    subst (λ (z : StateView g.row.M.Denot g.row.M-Msg.Denot). (log : List Value) → all_of (parse_snapshot z.setup.version (equal_epochs z.setup.epoch) log) c.args.bytes.now ≡ Bad at) c.self.view_is
    (λ log. c.in-Err-BadField.ensures.bad log at is) in
    subst (λ (o : Option (Rebuilt g.row.M-Msg.Denot)). IsReadAs m g.M.Sequenced.refines o v None) (sym (entry-damaged v.setup m v.me.0 r c.args.bytes.now at bad)) tt
