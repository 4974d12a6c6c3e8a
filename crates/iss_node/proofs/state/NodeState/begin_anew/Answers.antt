use Rattle.std.proofs.Common.{◌∙◌, ◌≤◌, ◌^◌, [], ap, subst, sym}
use Rattle.iss_ballots.specs.Ballots.{AreKept}
use Rattle.iss_keys.specs.Directories.{node_secret}
use Rattle.iss_keys.specs.KeyStates.{KeyState}
use Rattle.iss_node.proofs.Snapshots.KeysAreOwn.{own-leaf, own-number}
use Rattle.iss_node.specs.State.{StateView}
use Rattle.iss_node.proofs.state.NodeState.begin_anew.Goals as goal

pub keys_of_node_at-requires-clause-node : goal.keys_of_node_at-requires-clause-node
keys_of_node_at-requires-clause-node g c =
    let h = c.self.invariant in
    own-number c.self.inside.setup c.self.inside.me.0 c.directory-directory.result.now (c.directory-directory.ensures ∙ h.directory) h.me

pub keys_of_node_at-requires-clause-next : goal.keys_of_node_at-requires-clause-next
keys_of_node_at-requires-clause-next g c =
    let h = c.self.invariant in
    own-leaf c.self.inside.setup c.self.inside.me.0 c.args.leaf c.directory-directory.result.now (c.directory-directory.ensures ∙ h.directory) h.me
    (subst (λ (z : StateView g.row.M.Denot g.row.M-Msg.Denot). c.args.leaf ≤ 2 ^ z.setup.keys) (sym c.self.view_is) c.requires)

pub returns-clause-begun : goal.returns-clause-begun
returns-clause-begun g c = record {
  kept = λ votes older k.
      c.in_ok-put_all.ensures.kept [] older
      (c.forget_votes.ensures.kept votes older (subst (λ (z : StateView g.row.M.Denot g.row.M-Msg.Denot). AreKept z.ballots votes older) (sym c.self.view_is) k));
  keys =
      c.keys_of_node_at.ensures.made c.self.inside.setup.n c.self.inside.setup.clients c.self.inside.setup.keys (c.directory-directory.ensures ∙ c.self.invariant.directory)
      ∙ ap (λ (z : StateView g.row.M.Denot g.row.M-Msg.Denot). let k : KeyState = record { secret = node_secret z.me.0; height = z.setup.keys; used = c.args.leaf } in k) c.self.view_is;
  rest = λ i. record (c.self.view_is i) { waiting = c.new.ensures i; ballots = c.put_all.new.ballots; keys = c.keys_of_node_at.result };
}
