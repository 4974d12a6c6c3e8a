use Rattle.std.proofs.Common.{rules, ◌≡◌, ◌∙◌, ap, List, [], ◌∷◌, ◌++◌, length, reverse, refl}
use Rattle.std.proofs.lemmas.List.{reverse-append}
use Rattle.iss_disk.specs.Notes.{merged}
use Rattle.iss_disk.specs.declared.notes.Placed.{Placed}
use Rattle.iss_disk.proofs.NoteLemmas.{placed_more}
use Rattle.iss_disk.proofs.notes.Notes.push.Goals as goal

pub returns-clause-calls : goal.returns-clause-calls
returns-clause-calls c =
    let others = c.args.self.now.others.items in
    let opened = c.args.self.now.opened.items in
    let placed : Placed = record { call = c.args.call; behind = length opened } in
    let pushed : c.push_reserved.new.self.items ≡ others ++ placed ∷ [] = search rules in
    ap (λ (ps : List Placed). merged (reverse ps) opened) pushed
    ∙ ap (λ (ps : List Placed). merged ps opened) (reverse-append others (placed ∷ []))
    ∙ placed_more c.args.call (reverse others) opened (length opened) refl
