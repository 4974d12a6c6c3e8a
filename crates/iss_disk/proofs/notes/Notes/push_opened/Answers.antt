use Rattle.std.proofs.Common.{rules, ◌≡◌, ◌≤◌, ◌∙◌, ap, [], ◌∷◌, ◌++◌, length, reverse}
use Rattle.iss_disk.specs.Notes.{merged, newest_behind}
use Rattle.iss_disk.proofs.NoteLemmas.{opened_more}
use Rattle.iss_disk.proofs.notes.Notes.push_opened.Goals as goal

pub returns-clause-calls : goal.returns-clause-calls
returns-clause-calls c =
    let others = reverse c.args.self.now.others.items in
    let pushed : c.push_reserved.new.self.items ≡ c.args.self.now.opened.items ++ c.args.len ∷ [] = search rules in
    let placed : newest_behind others ≤ length c.args.self.now.opened.items = search rules in
    ap (merged others) pushed ∙ opened_more others c.args.self.now.opened.items c.args.len placed
