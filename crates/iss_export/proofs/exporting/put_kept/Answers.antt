use Rattle.std.proofs.Common.{◌∙◌, ◌+◌, ◌++◌, List, ap, arith, false, length, sym, subst}
use Rattle.std.proofs.lemmas.List.{length-drop}
use Rattle.iss_audit.specs.Exports.{AreBytes, lines_of}
use Rattle.iss_certified.specs.Exported.{certs_shown}
use Rattle.iss_request.specs.declared.requests.Value.{Value}
use Rattle.iss_schedule.specs.Words.{ended}
use Rattle.iss_export.proofs.ExportLemmas.{Puts, puts-more, puts-none, puts-short, puts-uncertified}
use Rattle.iss_export.proofs.exporting.put_kept.Goals as goal

pub epochs-init : goal.epochs-init
epochs-init g c = record {
  room = omega arith;
  puts = λ k h. puts-none c.args.setup.now (certs_shown k false) c.args.log.now c.args.out.now.items;
}

pub epochs-preserved : goal.epochs-preserved
epochs-preserved g c =
    let s = c.args.setup.now in
    let log = c.args.log.now in
    let out = c.args.out.now.items in
    let rest = c.epochs.rest.now in
    let number = c.epochs.number in
    let now = c.epochs.out.items in
    let new = c.put_epoch.new.out.items in
    let cert = c.in-Some.cert.now in
    let front = c.before-in-epochs.ensures in
    let tail = c.behind-rest.ensures in
    record {
      room = omega (arith, c.epochs.invariant.room, ap length tail, length-drop s.epoch rest, c.epochs-test.true, c.requires);
      puts = λ k h.
          subst (λ (xs : List Value). Puts s (certs_shown k false) log out xs (number + 1) new) (sym tail)
          (puts-more s (certs_shown k false) log out rest number now new cert (c.epochs.invariant.puts k h) (sym (c.in-Some.ensures.is k h)) c.epochs-test.true
          (c.in_ok-put_epoch.ensures.lines ∙ ap (λ (vs : List Value). now ++ ended (lines_of s.version vs cert)) front)
          (subst (AreBytes s.version) front c.in_ok-put_epoch.ensures.bytes) c.in_ok-put_epoch.ensures.range);
    }

pub returns-in_default : goal.returns-in_default
returns-in_default g c = λ k h.
    puts-uncertified c.args.setup.now (certs_shown k false) c.args.log.now c.args.out.now.items c.epochs.rest.now c.epochs.number c.epochs.out.items (c.epochs.invariant.puts k h) (sym (c.in_default.ensures.is k h))

pub returns : goal.returns
returns g c = λ k h.
    puts-short c.args.setup.now (certs_shown k false) c.args.log.now c.args.out.now.items c.epochs.rest.now c.epochs.number c.epochs.out.items (c.epochs.invariant.puts k h) c.epochs-test.false
