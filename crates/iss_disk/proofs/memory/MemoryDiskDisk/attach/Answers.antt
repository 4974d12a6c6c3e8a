use Rattle.std.proofs.Common.{rules, ◌≡◌, ◌≢◌, ◌∙◌, ◌∷◌, List, ap}
use Rattle.iss_disk.specs.MemoryViews.{history_among}
use Rattle.iss_disk.specs.StoredViews.{history_of}
use Rattle.iss_disk.specs.declared.stored.StoredFile.{StoredFile}
use Rattle.iss_disk.proofs.MemoryLemmas.{attached_files}
use Rattle.iss_disk.proofs.memory.MemoryDiskDisk.attach.Goals as goal

pub returns-then-ne : goal.returns-then-ne
returns-then-ne c =
    let apart : c.args.self.now.file.name.items ≢ c.in_ok-fresh.fresh.name.items = search rules in
    let inserted : c.insert.new.self.items ≡ c.args.self.now.file ∷ c.take_named-next.new.others.items = search rules in
    let is_next : c.replace-former.new.dest ≡ c.take_named-next.result = search rules in
    let kept : c.reserve.new.self.items ≡ c.args.self.now.others.items = search rules in
    let found : history_of c.take_named-next.result
    ≡ history_among c.args.self.now.others.items c.in_ok-fresh.fresh.name.items = c.take_named-next.ensures.history
    ∙ ap (λ (fs : List StoredFile). history_among fs c.in_ok-fresh.fresh.name.items) kept in
    record {
      current = search rules;
      err = search rules;
      files = λ n.
          ap (λ (fs : List StoredFile). history_among (c.replace-former.new.dest ∷ fs) n) inserted
          ∙ ap (λ (f : StoredFile). history_among (f ∷ c.args.self.now.file ∷ c.take_named-next.new.others.items) n)
          is_next
          ∙ attached_files c.args.self.now.file c.take_named-next.result c.args.self.now.others.items
          c.take_named-next.new.others.items c.in_ok-fresh.fresh.name.items apart c.take_named-next.ensures.name found
          (λ name other. c.take_named-next.ensures.others name other
          ∙ ap (λ (fs : List StoredFile). history_among fs name) kept) n;
      cause = search rules;
      device = search rules;
      no_memory = search rules;
    }
