use Rattle.std.proofs.Common.{rules, sym, ◌≡◌, ◌∙◌, ap, ℕ, ◌-◌, List, ◌∷◌, ◌++◌, length, take, drop, refl}
use Rattle.iss_disk.specs.File.{shortened}
use Rattle.iss_disk.specs.NoteViews.{calls_in}
use Rattle.iss_disk.specs.States.{states, after, is_pending, calls_of}
use Rattle.iss_disk.specs.declared.call.Call.{Call}
use Rattle.iss_disk.specs.declared.call.Call.TheVariants.{Cut}
use Rattle.iss_disk.specs.EachState.{states_some}
use Rattle.iss_disk.proofs.StoredLemmas.{cut_keeps, undone_cut}
use Rattle.iss_disk.proofs.stored.StoredFile.cut.Goals as goal

pub invariant_of-self-clause-stored : goal.invariant_of-self-clause-stored
invariant_of-self-clause-stored c =
    let content = c.args.self.now.content.items in
    let calls = calls_in c.note_all.new.calls in
    let before = calls_of c.args.self.now.recent ++ calls_in c.args.self.now.calls in
    let lost = c.args.self.now.lost.items in
    let n = c.args.len in
    let by = length content - n in
    let taken = c.take_tail.new.lost.items in
    let short = c.truncate.new.self.items in
    let parted :
    take c.part-self.result content ++ c.part-self.new.behind.items ≡ take c.args.self.now.same content
    ++ (c.args.self.now.behind.items ++ drop c.args.self.now.resumes content) =
    search rules in
    let all = calls_in c.push.new.self in
    let pushed : all ≡ Cut by ∷ calls = search rules in
    let loses : taken ≡ lost ++ drop n content = search rules in
    let one_more : states all taken short ≡ after (shortened n) (states before lost content) =
    ap (λ (cs : List Call). states cs taken short) pushed
    ∙ ap (λ (l : List ℕ). states (Cut by ∷ calls) l short) loses
    ∙ ap (states (Cut by ∷ calls) (lost ++ drop n content)) c.truncate.ensures.items
    ∙ undone_cut calls n by content lost c.requires.within refl
    ∙ ap (λ (cs : List Call). after (shortened n) (states cs lost content)) c.note_all.ensures.calls in
    cut_keeps (states before lost content)
    (states all taken short) n content short c.args.self.now.behind.items c.part-self.new.behind.items
    c.args.self.now.same c.args.self.now.resumes c.part-self.result
    (states_some before lost content) c.args.self.now.stored c.requires.within c.part-self.ensures.no_more
    c.part-self.ensures.before parted one_more c.truncate.ensures.items

pub invariant_of-self-clause-waits : goal.invariant_of-self-clause-waits
invariant_of-self-clause-waits c =
    let by = length c.args.self.now.content.items - c.args.len in
    let pushed : calls_in c.push.new.self ≡ Cut by ∷ calls_in c.note_all.new.calls = search rules in
    sym (ap is_pending pushed)
