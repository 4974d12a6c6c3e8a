use Rattle.std.proofs.Common.{rules, sym, subst, ◌≡◌, List, ℕ, ◌++◌, length}
use Rattle.iss_disk.specs.File.{synced}
use Rattle.iss_disk.specs.NoteViews.{calls_in}
use Rattle.iss_disk.specs.States.{states, after, calls_of, IsStored}
use Rattle.iss_disk.specs.EachState.{states_some}
use Rattle.iss_disk.proofs.StoredLemmas.{sync_keeps}
use Rattle.iss_disk.proofs.stored.StoredFile.sync.Goals as goal

pub invariant_of-self-clause-stored : goal.invariant_of-self-clause-stored
invariant_of-self-clause-stored c =
    let content = c.args.self.now.content.items in
    let lost = c.args.self.now.lost.items in
    let end = c.len-self.result in
    let before = states (calls_of c.args.self.now.recent ++ calls_in c.args.self.now.calls) lost content in
    let now = states (calls_of c.note_sync-self.result ++ calls_in c.note_sync-self.new.calls) lost content in
    let some = states_some (calls_of c.args.self.now.recent ++ calls_in c.args.self.now.calls) lost content in
    let ends : end ≡ length content = search rules in
    let one_more : now ≡ after synced before = c.note_sync-self.ensures.states lost content (sym ends) in
    subst (λ (l : List ℕ). IsStored now content l end end) (sym c.clear.ensures.items)
    (sync_keeps before now content c.args.self.now.behind.items c.args.self.now.same c.args.self.now.resumes end some
    c.args.self.now.stored one_more ends)
