use Rattle.std.proofs.Common.{rules, sym, subst, ◌≡◌, ◌∙◌, ap, ℕ, ◌≤◌, List, ◌∷◌, ◌++◌, length, take, drop, refl}
use Rattle.iss_disk.specs.File.{overwritten, wrote}
use Rattle.iss_disk.specs.NoteViews.{calls_in}
use Rattle.iss_disk.specs.States.{states, after, is_pending, calls_of}
use Rattle.iss_disk.specs.declared.call.Call.{Call}
use Rattle.iss_disk.specs.EachState.{states_some}
use Rattle.iss_disk.proofs.StoredLemmas.{write_keeps}
use Rattle.iss_disk.proofs.stored.StoredFile.write_all.Goals as goal

pub invariant_of-self-clause-stored : goal.invariant_of-self-clause-stored
invariant_of-self-clause-stored c =
    let content = c.args.self.now.content.items in
    let calls = calls_in c.note_all.new.calls in
    let before = calls_of c.args.self.now.recent ++ calls_in c.args.self.now.calls in
    let lost = c.args.self.now.lost.items in
    let behind = c.args.self.now.behind.items in
    let same = c.args.self.now.same in
    let resumes = c.args.self.now.resumes in
    let bytes = c.args.bytes.now in
    let over = c.overwrite.new.content.items in
    let taken = c.take_away-call.new.lost.items in
    let call = c.take_away-call.result in
    let parted : take c.part-self.result content ++ c.part-self.new.behind.items ≡ take same content
    ++ (behind ++ drop resumes content) = search rules in
    let all = calls_in c.push.new.self in
    let pushed : all ≡ call ∷ calls = search rules in
    let longer : length content ≤ length over = search rules in
    let ends : c.len-self.result ≡ length over = search rules in
    let one_more : states all taken over ≡ after (wrote c.args.at bytes) (states before lost content) =
    ap (λ (cs : List Call). states cs taken over) pushed
    ∙ ap (states (call ∷ calls) taken) c.overwrite.ensures.now.items
    ∙ subst (λ (l : List ℕ). states (call ∷ calls) taken (overwritten c.args.at bytes l)
    ≡ after (wrote c.args.at bytes) (states calls lost l)) c.deref-2.ensures.value
    (c.take_away-call.ensures.undoes calls bytes refl)
    ∙ ap (λ (cs : List Call). after (wrote c.args.at bytes) (states cs lost content)) c.note_all.ensures.calls in
    write_keeps (states before lost content)
    (states all taken over) c.args.at bytes content over behind c.part-self.new.behind.items same resumes
    c.part-self.result c.len-self.result
    (states_some before lost content) c.args.self.now.stored c.requires.within c.part-self.ensures.no_more
    c.part-self.ensures.before parted one_more c.overwrite.ensures.now.items longer ends

pub invariant_of-self-clause-waits : goal.invariant_of-self-clause-waits
invariant_of-self-clause-waits c =
    let calls = calls_in c.note_all.new.calls in
    let pushed : calls_in c.push.new.self ≡ c.take_away-call.result ∷ calls = search rules in
    sym (ap is_pending pushed ∙ c.take_away-call.ensures.waits calls)
