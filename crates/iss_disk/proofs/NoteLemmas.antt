-- What one more call adds to the notes.
use Rattle.std.proofs.Common.{◌≡◌, ℕ, ◌≤◌, List, [], ◌∷◌, ◌++◌, length, take, drop, map, reverse, ◌∙◌, ap, arith}
use Rattle.std.proofs.lemmas.List.{drop_all, drop-append-le, reverse-append, take-append-le, take_all}
use Rattle.iss_disk.specs.Notes.{merged, newest_behind}
use Rattle.iss_disk.specs.declared.call.Call.{Call}
use Rattle.iss_disk.specs.declared.call.Call.TheVariants.{Opened}
use Rattle.iss_disk.specs.declared.notes.Placed.{Placed}

-- one more append is the newest call
pub opened_more : (others : List Placed) (opened : List ℕ) (at : ℕ) → newest_behind others ≤ length opened →
    merged others (opened ++ at ∷ []) ≡ Opened at ∷ merged others opened
opened_more [] opened at behind = ap (map Opened) (reverse-append opened (at ∷ []))
opened_more (other ∷ others) opened at behind =
    let n = other.behind in
    let newer = opened ++ at ∷ [] in
    let later : reverse (drop n newer) ≡ at ∷ reverse (drop n opened) =
    ap (λ (l : List ℕ). reverse l) (drop-append-le n opened (at ∷ []) behind)
    ∙ reverse-append (drop n opened) (at ∷ []) in
    ap (λ (l : List ℕ). map Opened l ++ other.call ∷ merged others (take n newer)) later
    ∙ ap (λ (l : List ℕ). Opened at ∷ (map Opened (reverse (drop n opened)) ++ other.call ∷ merged others l))
    (take-append-le n opened (at ∷ []) behind)

-- another call after all appends is the newest call
pub placed_more : (call : Call) (others : List Placed) (opened : List ℕ) (n : ℕ) → n ≡ length opened →
    merged (record { call = call; behind = n } ∷ others) opened ≡ call ∷ merged others opened
placed_more call others opened n all =
    ap (λ (l : List ℕ). map Opened (reverse l) ++ call ∷ merged others (take n opened))
    (drop_all n opened (omega (arith, all)))
    ∙ ap (λ (l : List ℕ). call ∷ merged others l) (take_all n opened (omega (arith, all)))
