-- What a file shows, before and after an append.
use Rattle.std.proofs.Common.{◌≡◌, ℕ, inl, inr, List, [], ◌∷◌, ◌++◌, sym, ap, ◌∙◌}
use Rattle.iss_journal.specs.Frames.{holds, version_1}
use Rattle.iss_journal.specs.Promises.{HoldsWithOrWithout, Shows, ShowsWithOrWithout}
use Rattle.iss_journal.specs.Retained.{retained}
use Rattle.iss_journal.proofs.Grammar.{one_reading}
use Rattle.iss_journal.proofs.Retaining.{retained-again}

same_held : (es fs : List (List ℕ)) → holds es ≡ holds fs → es ≡ fs
same_held es fs h = cc

pub shown_once : (es fs : List (List ℕ)) (file : List ℕ) → Shows version_1 es file → Shows version_1 fs file → es ≡ fs
shown_once es fs file a b =
    a.stay ∙ ap retained (same_held a.all b.all (one_reading file (holds a.all) (holds b.all) a.read b.read))
    ∙ sym b.stay

-- a file that holds all entries, with or without one more, shows what stays of them
pub shows_either : (entries all : List (List ℕ)) (entry bytes : List ℕ) → entries ≡ retained all →
    HoldsWithOrWithout version_1 all entry bytes → ShowsWithOrWithout version_1 entries entry bytes
shows_either entries all entry bytes stay (inl read) = inl (record { all = all; read = read; stay = stay })
shows_either entries all entry bytes stay (inr read) =
    inr (record {
      all = all ++ entry ∷ [];
      read = read;
      stay = ap (λ (l : List (List ℕ)). retained (l ++ entry ∷ [])) stay ∙ retained-again all (entry ∷ []);
    })
