use Rattle.std.proofs.Common.{rules, arith, ◌≡◌, ◌++◌, ◌∷◌, [], true, List, ℕ, length, length-append, refl, sym, ap, ◌∙◌, subst}
use Rattle.iss_disk.specs.File.{File}
use Rattle.iss_journal.specs.Frames.{version_1}
use Rattle.iss_journal.specs.Promises.{LeavesWithOrWithout}
use Rattle.iss_journal.specs.Retained.{retained}
use Rattle.iss_journal.specs.RetainedViews.{shown_in}
use Rattle.iss_journal.proofs.Over.{over_added, over_closed, over_durable, over_start}
use Rattle.iss_journal.proofs.Reading.{room_after}
use Rattle.iss_journal.proofs.RetainedLemmas.{shared_same}
use Rattle.iss_journal.proofs.journal.Journal.append.Goals as goal

pub returns-in_err-reserve-clause-appends : goal.returns-in_err-reserve-clause-appends
returns-in_err-reserve-clause-appends g c =
    let old = c.args.self.now in
    let entry = c.args.head.now ++ c.args.body in
    let h = (g.D.Disk.state old.disk).history in
    let attached : c.self.inside.attached ≡ true = ap (λ v. v.attached) c.self.view_is ∙ c.requires.attached in
    let start : LeavesWithOrWithout version_1 old.entries entry h h =
    rw (← c.self.view_is) (over_start (g.D.Disk.state c.self.inside.disk).history c.self.inside.kept entry
    (c.self.invariant.rests attached)) in
    record {
      any_moment = subst (λ (new : List File). LeavesWithOrWithout version_1 old.entries entry h new)
          (sym c.reserve.ensures.only.history) start;
      device = search rules;
      others = search rules;
      cause = search rules;
    }

pub invariant_of-self-2 : goal.invariant_of-self-2
invariant_of-self-2 g c =
    let entry = c.args.head.now ++ c.args.body in
    let now = c.self-2.inside in
    let device = g.D.Disk.state c.keep_entry.new.disk in
    record {
      rests = λ on. over_added c.stage.new.self c.add.new.self entry c.add.ensures.retains device.history
          c.in_ok-keep_entry.ensures.rests;
      room_kept = λ some.
          let left = c.left_behind-left.ensures some in
          room_after now.reserved c.left_behind-left.result now.kept c.stage.new.self c.add.new.self
          (g.D.Disk.state now.disk).room device.room (length entry)
          (c.self-2.invariant.room_kept (omega (arith, left.2)))
          c.stage.ensures.same c.add.ensures.grown c.in_ok-keep_entry.ensures.room left.0 left.1
          (omega (arith, left.2, length-append c.args.head.now c.args.body, c.len.ensures));
    }

pub returns-clause-ok : goal.returns-clause-ok
returns-clause-ok g c =
    let entry = c.args.head.now ++ c.args.body in
    let h = (g.D.Disk.state c.keep_entry.new.disk).history in
    let staged = c.stage.new.self in
    let before : shown_in staged ≡ c.args.self.now.entries =
    shared_same c.self-2.inside.kept.entries staged.entries c.stage.ensures.same.entries.own
    c.stage.ensures.same.entries.tails
    ∙ ap (λ v. v.entries) c.self-2.view_is ∙ c.reserve.ensures.only.entries in
    record {
      entries = c.add.ensures.entries ∙ ap (λ (es : List (List ℕ)). retained (es ++ entry ∷ [])) before;
      event = λ is. c.add.ensures.event is ∙ ap (λ (es : List (List ℕ)). es ++ entry ∷ []) before;
      file = over_closed staged c.add.new.self entry c.add.ensures.retains h c.in_ok-keep_entry.ensures.rests;
      attached = refl;
      durable = over_durable h c.add.new.self
          (over_added staged c.add.new.self entry c.add.ensures.retains h c.in_ok-keep_entry.ensures.rests);
    }
