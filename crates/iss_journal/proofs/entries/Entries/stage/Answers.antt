use Rattle.std.proofs.Common.{rules, ◌≡◌, ◌++◌, [], ◌∷◌, ◌∙◌, ap, sym, subst, List, ℕ}
use Rattle.iss_journal.specs.Frames.{frame, frames}
use Rattle.iss_journal.specs.Views.{AreMarks}
use Rattle.iss_journal.specs.EntryViews.{entries_in}
use Rattle.iss_journal.proofs.Book.{with_tail}
use Rattle.iss_journal.proofs.entries.Entries.stage.Goals as goal

pub invariant_of-self : goal.invariant_of-self
invariant_of-self c =
    let now = c.args.self.now in
    let front : c.truncate.new.self.items ≡ frames (entries_in c.args.self.now) = search rules in
    let whole = c.put_frame.ensures.items
    ∙ ap (λ (l : List ℕ). l ++ (frame (c.args.head.now ++ c.args.body.now) ++ 0 ∷ [])) front in
    let again = with_tail now.bytes.items now.count now.last c.put_frame.new.bytes.items
    (frame (c.args.head.now ++ c.args.body.now) ++ 0 ∷ []) now.book whole in
    record {
      book = again.book;
      marked = subst (λ (es : List (List ℕ)). AreMarks now.marks.items es) (sym again.found) now.marked;
    }

pub returns : goal.returns
returns c =
    let now = c.args.self.now in
    let front : c.truncate.new.self.items ≡ frames (entries_in c.args.self.now) = search rules in
    let whole = c.put_frame.ensures.items
    ∙ ap (λ (l : List ℕ). l ++ (frame (c.args.head.now ++ c.args.body.now) ++ 0 ∷ [])) front in
    record {
      entries = (with_tail now.bytes.items now.count now.last c.put_frame.new.bytes.items
          (frame (c.args.head.now ++ c.args.body.now) ++ 0 ∷ []) now.book whole).found;
      bytes = search rules;
      no_less = search rules;
      marks = search rules;
    }
