use Rattle.std.proofs.Common.{◌∙◌, ap, Result, Err}
use Rattle.iss_disk.specs.declared.errors.EndError.{EndError}
use Rattle.iss_keep.proofs.WriteLemmas.{appended-as}
use Rattle.iss_keep.proofs.keeping.append_or_retreat.Goals as goal

pub returns-in-Ok-clause-appended : goal.returns-in-Ok-clause-appended
returns-in-Ok-clause-appended g c = appended-as _ _ _ _ _ _ _ _ c.in-Ok.is c.append_entry.ensures

pub returns-in-Err-Failed-clause-appended : goal.returns-in-Err-Failed-clause-appended
returns-in-Err-Failed-clause-appended g c =
    appended-as _ _ _ _ _ _ _ _ (c.in-Err-Failed.is ∙ ap (λ (e : EndError). let r : Result (Unit {0}) EndError = Err e in r) c.in-Err-Failed.field-0-is) c.append_entry.ensures

pub returns-in-Err-NoMemory-clause-appended : goal.returns-in-Err-NoMemory-clause-appended
returns-in-Err-NoMemory-clause-appended g c =
    appended-as _ _ _ _ _ _ _ _ (c.in-Err-NoMemory.is ∙ ap (λ (e : EndError). let r : Result (Unit {0}) EndError = Err e in r) c.in-Err-NoMemory.field-0-is) c.append_entry.ensures
