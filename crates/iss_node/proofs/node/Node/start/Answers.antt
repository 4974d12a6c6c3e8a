use Rattle.std.proofs.Common.{◌∙◌, [], ap, inr}
use Rattle.iss_ballots.specs.Ballots.{BallotsState}
use Rattle.iss_checkpoint.specs.Votes.{voters_of}
use Rattle.iss_keys.specs.Directories.{DirectoryView}
use Rattle.iss_model.specs.Node.{initial_core}
use Rattle.iss_node.proofs.EpochEnd.InstancesStart.{begun-refines, begun-shape}
use Rattle.iss_node.proofs.node.Node.start.Goals as goal

pub invariant_of-state : goal.invariant_of-state
invariant_of-state g c = rw (c.new-4.ensures.items, c.new-5.ensures, c.new-6.ensures, c.new-7.ensures, c.new-8.ensures.items, c.new-9.ensures, c.nothing.ensures)
    (begun-shape g.M.Sequenced.spec g.M.Sequenced.refines c.args.setup.now c.in_ok-own_setup.own_setup c.args.me c.share.result c.of-layout.result c.in_ok-windows.windows c.new-standing.result c.in_ok-segments.segments.items c.in_ok-chains.chains c.in_ok-ballots.ballots c.args.keys c.requires.member.good c.in_ok-own_setup.ensures (c.share.ensures ∙ c.requires.member.directory) c.requires.member.me c.of-layout.ensures.past (c.new-standing.ensures c.args.setup.now) c.in_ok-windows.ensures.none c.in_ok-windows.ensures.width c.in_ok-segments.ensures.started c.in_ok-segments.ensures.count c.in_ok-chains.ensures.version c.in_ok-chains.ensures.none (c.in_ok-ballots.ensures ∙ ap (λ (d : DirectoryView). let b : BallotsState = record { voters = voters_of c.args.setup.now d; tallies = []; certs = []; counted = [] } in b) c.requires.member.directory))

pub invariant_of-result : goal.invariant_of-result
invariant_of-result g c = rw (c.new-4.ensures.items, c.new-5.ensures, c.new-6.ensures, c.new-7.ensures, c.new-8.ensures.items, c.new-9.ensures, c.nothing.ensures)
    (inr (record initial_core { leaf = c.args.keys.used }, begun-refines g.M.Sequenced.spec g.M.Sequenced.refines c.args.setup.now c.in_ok-own_setup.own_setup c.args.me c.share.result c.of-layout.result c.in_ok-windows.windows c.new-standing.result c.in_ok-segments.segments.items c.in_ok-chains.chains c.in_ok-ballots.ballots c.args.keys c.requires.member.good c.in_ok-own_setup.ensures (c.share.ensures ∙ c.requires.member.directory) c.requires.member.me c.of-layout.ensures.past (c.new-standing.ensures c.args.setup.now) c.in_ok-windows.ensures.none c.in_ok-windows.ensures.width c.in_ok-segments.ensures.started c.in_ok-segments.ensures.count c.in_ok-chains.ensures.version c.in_ok-chains.ensures.none (c.in_ok-ballots.ensures ∙ ap (λ (d : DirectoryView). let b : BallotsState = record { voters = voters_of c.args.setup.now d; tallies = []; certs = []; counted = [] } in b) c.requires.member.directory) c.requires.own))

pub returns-clause-refines : goal.returns-clause-refines
returns-clause-refines g c = rw (c.new-4.ensures.items, c.new-5.ensures, c.new-6.ensures, c.new-7.ensures, c.new-8.ensures.items, c.new-9.ensures, c.nothing.ensures)
    (begun-refines g.M.Sequenced.spec g.M.Sequenced.refines c.args.setup.now c.in_ok-own_setup.own_setup c.args.me c.share.result c.of-layout.result c.in_ok-windows.windows c.new-standing.result c.in_ok-segments.segments.items c.in_ok-chains.chains c.in_ok-ballots.ballots c.args.keys c.requires.member.good c.in_ok-own_setup.ensures (c.share.ensures ∙ c.requires.member.directory) c.requires.member.me c.of-layout.ensures.past (c.new-standing.ensures c.args.setup.now) c.in_ok-windows.ensures.none c.in_ok-windows.ensures.width c.in_ok-segments.ensures.started c.in_ok-segments.ensures.count c.in_ok-chains.ensures.version c.in_ok-chains.ensures.none (c.in_ok-ballots.ensures ∙ ap (λ (d : DirectoryView). let b : BallotsState = record { voters = voters_of c.args.setup.now d; tallies = []; certs = []; counted = [] } in b) c.requires.member.directory) c.requires.own)
