use Rattle.std.proofs.Common.{rules, ◌≡◌, ◌<◌, ◌≤◌, length, get_or}
use Rattle.std.proofs.lemmas.List.{get_or_default}
use Rattle.iss_disk.proofs.MemoryLemmas.{each_next, each_done, each_restarts}
use Rattle.iss_disk.proofs.memory.restart_all.Goals as goal

pub loop-i-preserved : goal.loop-i-preserved
loop-i-preserved c =
    let within : c.loop-i.i < length c.args.files.now = search rules in
    let long : length c.loop-i.files ≡ length c.args.files.now = search rules in
    let in_files : c.loop-i.i < length c.loop-i.files = search rules in
    let old = get_or c.loop-i.files c.loop-i.i c.index-files-i.result in
    let both = each_next c.args.files.now c.loop-i.files c.loop-i.i old c.restart.new.self within long
    c.loop-i.invariant.done c.loop-i.invariant.left
    (get_or_default c.loop-i.files c.loop-i.i c.index-files-i.result old in_files) c.restart.ensures.name
    c.restart.ensures.states in
    record { done = both.0; left = both.1 }

pub returns : goal.returns
returns c = λ name.
    let past : length c.args.files.now ≤ c.loop-i.i = search rules in
    let long : length c.loop-i.files ≡ length c.args.files.now = search rules in
    each_restarts c.args.files.now c.loop-i.files name
    (each_done c.args.files.now c.loop-i.files c.loop-i.i past long c.loop-i.invariant.done)
