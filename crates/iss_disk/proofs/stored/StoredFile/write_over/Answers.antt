use Rattle.std.proofs.Common.{rules, sym, subst, ◌≡◌, ◌∙◌, ap, ◌+◌, ℕ, List, [], ◌∷◌, ◌++◌, get_or, set}
use Rattle.iss_disk.specs.File.{overwritten, wrote}
use Rattle.iss_disk.specs.NoteViews.{calls_in}
use Rattle.iss_disk.specs.States.{states, after, calls_of, IsStored}
use Rattle.iss_disk.specs.declared.call.Recent.TheVariants.{Opening}
use Rattle.iss_disk.specs.EachState.{states_some}
use Rattle.iss_disk.proofs.StoredLemmas.{over_keeps, set-overwritten, undone_byte}
use Rattle.iss_disk.proofs.stored.StoredFile.write_over.Goals as goal

pub invariant_of-self-clause-stored : goal.invariant_of-self-clause-stored
invariant_of-self-clause-stored c =
    let content = c.args.self.now.content.items in
    let calls = calls_of c.args.self.now.recent ++ calls_in c.args.self.now.calls in
    let lost = c.args.self.now.lost.items in
    let at = c.args.at in
    let byte = c.args.byte in
    let former = c.index-former.result.now in
    let before = states calls lost content in
    let over = set content at byte in
    let now = states (calls_of (Opening (at + 1))
    ++ calls_in c.args.self.now.calls) c.push_reserved-2.new.self.items over in
    let stored : IsStored before content [] c.args.self.now.same c.args.self.now.resumes =
    subst (λ (l : List ℕ). IsStored before content l c.args.self.now.same c.args.self.now.resumes)
    c.requires.gate.nothing_apart c.args.self.now.stored in
    let was : former ≡ get_or content at former = search rules in
    let apart : c.push_reserved.new.self.items ≡ former ∷ [] = c.push_reserved.ensures.items
    ∙ ap (λ (l : List ℕ). l ++ former ∷ []) c.requires.gate.nothing_apart in
    let is_over : over ≡ overwritten at (byte ∷ []) content = set-overwritten at byte content c.requires.gate.within in
    let one_more : now ≡ after (wrote at (byte ∷ [])) before =
    undone_byte c.args.self.now.recent
    (calls_in c.args.self.now.calls) at byte former content lost c.push_reserved-2.new.self.items over
    c.requires.gate.within was c.requires.gate.just_kept c.push_reserved-2.ensures.items is_over in
    subst (λ (l : List ℕ). IsStored now over l at (at + 1)) (sym apart)
    (over_keeps before now at byte former content over c.args.self.now.same c.args.self.now.resumes
    (states_some calls lost content) stored c.requires.gate.all_synced c.requires.gate.within was one_more is_over)

pub returns : goal.returns
returns c =
    let content = c.args.self.now.content.items in
    let former = c.index-former.result.now in
    let was : former ≡ get_or content c.args.at former = search rules in
    record {
      states = undone_byte c.args.self.now.recent
          (calls_in c.args.self.now.calls) c.args.at c.args.byte former content c.args.self.now.lost.items
          c.push_reserved-2.new.self.items (set content c.args.at c.args.byte) c.requires.gate.within was
          c.requires.gate.just_kept c.push_reserved-2.ensures.items
          (set-overwritten c.args.at c.args.byte content c.requires.gate.within);
      room = search rules;
      name = search rules;
    }
