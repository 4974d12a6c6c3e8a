-- Partial packets, and the maps that hold their parts.
use Rattle.std.proofs.Common.{◌≡◌, ℕ, suc, ◌+◌, ◌<◌, true, false, List, [], ◌∷◌, ◌++◌, length, get_or, drop, map, append_assoc, is_some, nat_cmp, Vec, Global, refl, ap, sym, ◌∙◌, arith}
use Rattle.std.proofs.lemmas.List.{drop_more}
use Rattle.std.specs.BTreeMap.{insert_entry, is_at}
use Rattle.std.specs.List.{concat}
use Rattle.std.specs.Map.{lookup, values_of}
use Rattle.iss_links.specs.Frames.{Fragment}
use Rattle.iss_links.specs.Reassembly.{Partial, has_part, add_fragment, insert_part, belongs, index_of}

-- a packet's index_of, one step on
pub index-here : (f : Fragment) (gs : List Partial) (i : ℕ) (d : Partial) → i < length gs → belongs f (get_or gs i d) ≡ true → index_of f (drop i gs) ≡ 0
index-here f gs i d within is = rw (drop_more gs i d within) (rw is refl)

pub index-next : (f : Fragment) (gs : List Partial) (i : ℕ) (d : Partial) → i < length gs → belongs f (get_or gs i d) ≡ false → index_of f (drop i gs) ≡ suc (index_of f (drop (i + 1) gs))
index-next f gs i d within is = rw (drop_more gs i d within) (rw is refl)

-- the parts that a map's entries represent
abbrev pub parts_in : List (ℕ × Vec ℕ Global) → List (ℕ × List ℕ)
parts_in es = map (λ e. (e.0, e.1.items)) es

pub has-part : (k : ℕ) (es : List (ℕ × Vec ℕ Global)) → is_some (lookup (is_at (nat_cmp k)) es) ≡ has_part k (parts_in es)
has-part k [] = refl
has-part k (e ∷ es) = grind (arith, has-part k es)

pub insert-part : (k : ℕ) (v : Vec ℕ Global) (es : List (ℕ × Vec ℕ Global)) → has_part k (parts_in es) ≡ false → parts_in (insert_entry nat_cmp es k v) ≡ insert_part k v.items (parts_in es)
insert-part k v [] absent = refl
insert-part k v (e ∷ es) absent = grind (arith, insert-part k v es)

-- the values of a map, payload
pub joined-values : (es : List (ℕ × Vec ℕ Global)) → concat (map (λ (v : Vec ℕ Global). v.items) (values_of es)) ≡ concat (map (λ (p : ℕ × List ℕ). p.1) (parts_in es))
joined-values [] = refl
joined-values (e ∷ es) = ap (λ (xs : List ℕ). e.1.items ++ xs) (joined-values es)

pub joined-more : (packet bytes more whole : List ℕ) (before after : List (Vec ℕ Global)) (v : Vec ℕ Global) → packet ++ concat (map (λ (x : Vec ℕ Global). x.items) before) ≡ whole → before ≡ v ∷ after → more ≡ packet ++ v.items → more ++ concat (map (λ (x : Vec ℕ Global). x.items) after) ≡ whole
joined-more packet bytes more whole before after v h step pushed =
    rw pushed (append_assoc packet v.items (concat (map (λ (x : Vec ℕ Global). x.items) after)) ∙ ap (λ (xs : List (Vec ℕ Global)). packet ++ concat (map (λ (x : Vec ℕ Global). x.items) xs)) (sym step) ∙ h)

-- a part that was received before, and a new one
pub fragment-again : (f : Fragment) (g : Partial) (es : List (ℕ × Vec ℕ Global)) → g.received ≡ parts_in es → is_some (lookup (is_at (nat_cmp f.part)) es) ≡ true → g ≡ add_fragment f g
fragment-again f g es is there =
    let h : has_part f.part g.received ≡ true = ap (has_part f.part) is ∙ sym (has-part f.part es) ∙ there in
    rw h refl

pub fragment-new : (f : Fragment) (g new : Partial) (v : Vec ℕ Global) (es after : List (ℕ × Vec ℕ Global)) → g.received ≡ parts_in es → f.bytes ≡ v.items → is_some (lookup (is_at (nat_cmp f.part)) es) ≡ false
    → after ≡ insert_entry nat_cmp es f.part v → new ≡ record g { received = parts_in after } → new ≡ add_fragment f g
fragment-new f g new v es after is bytes none e made =
    let h : has_part f.part g.received ≡ false = ap (has_part f.part) is ∙ sym (has-part f.part es) ∙ none in
    let p : parts_in after ≡ insert_part f.part f.bytes g.received = ap parts_in e ∙ insert-part f.part v es (sym (has-part f.part es) ∙ none) ∙ rw (bytes, is) refl in
    made ∙ ap (λ (ps : List (ℕ × List ℕ)). record g { received = ps }) p ∙ rw h refl
