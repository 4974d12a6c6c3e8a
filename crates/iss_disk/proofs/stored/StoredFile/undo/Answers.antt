use Rattle.std.proofs.Common.{rules, sym, subst, ◌≡◌, ◌∙◌, ap, ℕ, ◌-◌, ◌≤◌, List, [], ◌∷◌, ◌++◌, length, take, drop, refl, length-take-le}
use Rattle.std.proofs.lemmas.List.{take_at}
use Rattle.iss_disk.specs.File.{restarted}
use Rattle.iss_disk.specs.NoteViews.{calls_in}
use Rattle.iss_disk.specs.States.{states, after, is_pending, calls_of, IsStored}
use Rattle.iss_disk.specs.declared.call.Call.{Call}
use Rattle.iss_disk.specs.declared.call.Call.TheVariants.{Restarted}
use Rattle.iss_disk.specs.EachState.{states_some}
use Rattle.iss_disk.proofs.StoredLemmas.{restart_keeps, undone_restart}
use Rattle.iss_disk.proofs.stored.StoredFile.undo.Goals as goal

pub invariant_of-self-clause-stored : goal.invariant_of-self-clause-stored
invariant_of-self-clause-stored c =
    let content = c.args.self.now.content.items in
    let calls = calls_in c.note_all.new.calls in
    let before = calls_of c.args.self.now.recent ++ calls_in c.args.self.now.calls in
    let lost = c.args.self.now.lost.items in
    let behind = c.args.self.now.behind.items in
    let at = c.args.self.now.same in
    let resumes = c.args.self.now.resumes in
    let over = length content - at in
    let end = c.len-self.result in
    let taken = c.take_tail.new.lost.items in
    let now = c.put_back.new.content.items in
    let within : at ≤ length content = c.args.self.now.stored.in_content in
    let whole : now ≡ take at content ++ (behind ++ drop resumes content) = search rules in
    let all = calls_in c.push.new.self in
    let pushed : all ≡ Restarted at over ∷ calls = search rules in
    let loses : taken ≡ lost ++ drop at content = search rules in
    let ends : end ≡ length now = search rules in
    let empty : c.clear.new.self.items ≡ [] = search rules in
    let front : take at now ≡ take at content = ap (take at) whole
    ∙ take_at (take at content) (behind ++ drop resumes content) at (length-take-le at content within) in
    let one_more : states all taken now ≡ after restarted (states before lost content) =
    ap (λ (cs : List Call). states cs taken now) pushed
    ∙ ap (λ (l : List ℕ). states (Restarted at over ∷ calls) l now) loses
    ∙ undone_restart calls at over content lost now within refl front
    ∙ ap (λ (cs : List Call). after restarted (states cs lost content)) c.note_all.ensures.calls in
    let some = states_some before lost content in
    subst (λ (l : List ℕ). IsStored (states all taken now) now l end end) (sym empty)
    (restart_keeps (states before lost content)
    (states all taken now) content behind now at resumes end some c.args.self.now.stored one_more whole ends)

pub invariant_of-self-clause-waits : goal.invariant_of-self-clause-waits
invariant_of-self-clause-waits c =
    let over = length c.args.self.now.content.items - c.args.self.now.same in
    let pushed : calls_in c.push.new.self ≡ Restarted c.args.self.now.same over ∷ calls_in c.note_all.new.calls =
    search rules in
    sym (ap is_pending pushed)
