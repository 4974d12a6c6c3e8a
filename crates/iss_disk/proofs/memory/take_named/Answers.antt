use Rattle.std.proofs.Common.{rules, refl, ◌≡◌, ◌∙◌, sym, ap, ◌<◌, ◌≤◌, ◌++◌, length, take, drop, suc, List}
use Rattle.iss_disk.specs.MemoryViews.{history_among}
use Rattle.iss_disk.specs.declared.stored.StoredFile.{StoredFile}
use Rattle.iss_disk.proofs.MemoryLemmas.{among_found, among_removed, among_none, same_read}
use Rattle.iss_disk.proofs.memory.take_named.Goals as goal

pub returns-then-eq : goal.returns-then-eq
returns-then-eq c =
    let within : c.loop-i.i < length c.loop-i.others.items = search rules in
    let wanted = c.args.fresh.name.items in
    let is : c.index.result.now.name.items ≡ wanted = search rules in
    let same = same_read c.loop-i.others.items c.loop-i.i c.index.result.now c.remove.result within c.index.ensures
    c.remove.ensures.value in
    let named : c.remove.result.name.items ≡ wanted = ap (λ (f : StoredFile). f.name.items) (sym same) ∙ is in
    let removed : c.remove.new.self.items ≡ take c.loop-i.i c.loop-i.others.items
    ++ drop (suc c.loop-i.i) c.loop-i.others.items = search rules in
    record {
      name = named;
      history =
          sym (among_found c.loop-i.others.items c.loop-i.i c.remove.result wanted within c.remove.ensures.value named)
          ∙ sym c.loop-i.invariant.passed
          ∙ ap (λ (fs : List StoredFile). history_among fs wanted) c.loop-i.invariant.same;
      others = λ name other.
          ap (λ (fs : List StoredFile). history_among fs name) removed
          ∙ among_removed c.loop-i.others.items c.loop-i.i c.remove.result name within c.remove.ensures.value
          (λ e. other (sym e ∙ named))
          ∙ ap (λ (fs : List StoredFile). history_among fs name) c.loop-i.invariant.same;
      len = search rules;
      capacity = search rules;
    }

pub returns : goal.returns
returns c =
    let at_end : length c.loop-i.others.items ≤ c.loop-i.i = search rules in
    record {
      name = refl;
      history =
          c.requires ∙ sym (among_none c.loop-i.others.items c.loop-i.i c.args.fresh.name.items at_end)
          ∙ sym c.loop-i.invariant.passed
          ∙ ap (λ (fs : List StoredFile). history_among fs c.args.fresh.name.items) c.loop-i.invariant.same;
      others = λ name other. ap (λ (fs : List StoredFile). history_among fs name) c.loop-i.invariant.same;
      len = search rules;
      capacity = search rules;
    }
