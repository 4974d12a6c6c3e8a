-- Logs, the first entry first. The first index is 1, and the term at index 0 is 0. A log's contents are the values
-- that it gives to the slots; a mark gives none. Merging puts sent entries behind a previous index.
use Rattle.std.specs.Prelude.{ℕ, zero, suc, ◌==◌, ◌&&◌, ◌||◌, Bool, cond, nat_lt, nat_le, List, [], ◌∷◌, ◌++◌, length, take, drop}
use Rattle.iss_request.specs.declared.requests.Value.{Value}
use Rattle.iss_request.specs.declared.requests.Value.TheVariants.{Nil as Value_nil, Batch as Value_batch}
use Rattle.raft_wire.specs.declared.entries.Entry.{Entry}
use Rattle.iss_sb.specs.declared.content.Content.{Content}
use Rattle.iss_sb.specs.declared.content.Content.TheVariants.{Nil, Holds, Mark}

abbrev pub entry : ℕ → Content → Entry
entry term what = record { term = term; what = what }

-- the term of the last entry, 0 for the empty log
abbrev pub last_term : List Entry → ℕ
last_term [] = 0
last_term (e ∷ []) = e.term
last_term (e ∷ (d ∷ es)) = last_term (d ∷ es)

-- the term of the entry at index i
abbrev pub term_at : List Entry → ℕ → ℕ
term_at log i = last_term (take i log)

-- ---- The values of a log, by ascending slot. A mark fills no slot

abbrev pub content : Content → List Value
content Nil = Value_nil ∷ []
content (Holds batch) = Value_batch batch ∷ []
content Mark = []

abbrev pub contents : List Entry → List Value
contents [] = []
contents (e ∷ es) = content e.what ++ contents es

-- how many slots the log fills
abbrev pub filled : List Entry → ℕ
filled log = length (contents log)

-- k entries of nil
abbrev pub nils : ℕ → ℕ → List Entry
nils term zero = []
nils term (suc k) = entry term Nil ∷ nils term k

-- ---- AppendEntries: merging sent entries after a previous index

-- AppendEntries' consistency check: the log has an entry of this term at the previous index
abbrev pub fits_behind : List Entry → ℕ → ℕ → Bool
fits_behind log previous term = nat_le previous (length log) && (term_at log previous == term)

-- The first list with the second merged into it: its entries are removed from the first one on that differs in term.
abbrev pub merge : List Entry → List Entry → List Entry
merge xs [] = xs
merge [] (e ∷ es) = e ∷ es
merge (x ∷ xs) (e ∷ es) = cond (x.term == e.term) (x ∷ merge xs es) (e ∷ es)

-- how many entries of the first list stay
abbrev pub stay : List Entry → List Entry → ℕ
stay xs [] = length xs
stay [] (e ∷ es) = 0
stay (x ∷ xs) (e ∷ es) = cond (x.term == e.term) (suc (stay xs es)) 0

abbrev pub merged : List Entry → ℕ → List Entry → List Entry
merged log previous es = take previous log ++ merge (drop previous log) es

-- RequestVote's check: the candidate's log is at least as up to date, by last term and then by length
abbrev pub up_to_date : List Entry → ℕ → ℕ → Bool
up_to_date log last term = nat_lt (last_term log) term || ((last_term log == term) && nat_le (length log) last)
