-- A table whose keys ascend is known by what it holds at as many keys as it has.
use Rattle.std.proofs.Common.{◌≡◌, ◌∙◌, ℕ, suc, ◌≤◌, ◌&&◌, Bool, true, List, [], ◌∷◌, length, Option, Some, None, String, Global, Ordering, Less, Equal, Greater, string_bytes, nat_cmp, is_lt, is_eq, refl, sym, ap, arith}
use Rattle.std.proofs.lemmas.Bool.{and_parts, false≢true}
use Rattle.std.proofs.lemmas.Cmp.{nat_list_cmp_total}
use Rattle.std.proofs.lemmas.Option.{same_Some}
use Rattle.std.specs.Cmp.Lexicographic.{slice_cmp, bytes_decides, texts_ties}
use Rattle.std.specs.List.{AllByRecursion}
use Rattle.std.specs.List.Sorted.{IsStrictlySortedBy}
use Rattle.std.specs.Map.{keys_of}
use Rattle.std.specs.Ordering.{match_ordering, ordering_reverse}
use Rattle.std.specs.String.{string_cmp}
use Rattle.toml.specs.Data.{Data, Members, member, no_members, get_member}
use Rattle.toml.specs.View.{members_view}
use Rattle.toml.specs.declared.value.Value.{Value}
use Rattle.iss_config.specs.Configs.{members_of}
use Rattle.iss_config.specs.Internal.{count_of}

abbrev Text : Type 0
Text = List ℕ

abbrev cmp : Text → Text → Ordering
cmp a b = slice_cmp nat_cmp a b

-- ---- what is meant

-- the key is below all keys
abbrev IsBelow : Text → Members → Type 0
IsBelow k no_members = Unit {0}
IsBelow k (member l d ms) = (cmp k l ≡ Less) × IsBelow k ms

abbrev Ascend : Members → Type 0
Ascend no_members = Unit {0}
Ascend (member k d ms) = IsBelow k ms × Ascend ms

-- the same of entries, as a test that computes
abbrev is_below : Text → List (Text × Data) → Bool
is_below k [] = true
is_below k (e ∷ es) = is_lt (cmp k e.0) && is_below k es

abbrev pub ascends : List (Text × Data) → Bool
ascends [] = true
ascends (e ∷ es) = is_below e.0 es && ascends es

-- the members have these values at these keys
abbrev pub AreAt : List (Text × Data) → Members → Type 0
AreAt [] ms = Unit {0}
AreAt (e ∷ es) ms = (get_member e.0 ms ≡ Some e.1) × AreAt es ms

-- ---- the order

is_less : (o : Ordering) → is_lt o ≡ true → o ≡ Less
is_less Less h = refl
is_less Equal h = absurd (false≢true h)
is_less Greater h = absurd (false≢true h)

turned : (k l : Text) → cmp k l ≡ Less → cmp l k ≡ Greater
turned k l h = nat_list_cmp_total.antisymm l k ∙ ap ordering_reverse h

turned_back : (k l : Text) → cmp k l ≡ Greater → cmp l k ≡ Less
turned_back k l h = nat_list_cmp_total.antisymm l k ∙ ap ordering_reverse h

-- a key above one that is not below l is above l
above_more : (j k l : Text) → cmp k j ≡ Less → (cmp k l ≡ Equal) → cmp j l ≡ Greater
above_more j k l h e =
    let lj : cmp l j ≡ Less = sym (nat_list_cmp_total.congr k l j e) ∙ h in turned l j lj

above_greater : (j k l : Text) → cmp k j ≡ Less → cmp k l ≡ Greater → cmp j l ≡ Greater
above_greater j k l h g = turned l j (nat_list_cmp_total.trans l k j (turned_back k l g) h)

same_key : (k l : Text) → cmp k l ≡ Equal → k ≡ l
same_key k l e = (bytes_decides k l).0 (texts_ties k l ∙ ap is_eq e)

-- ---- look-ups

not_there : (k : Text) (ms : Members) → IsBelow k ms → get_member k ms ≡ None
not_there k no_members h = refl
not_there k (member l d ms) h = rw h.0 (not_there k ms h.1)

below_all : (k l : Text) (ms : Members) → cmp k l ≡ Less → IsBelow l ms → IsBelow k ms
below_all k l no_members h b = tt
below_all k l (member j d ms) h b = (nat_list_cmp_total.trans k l j h b.0, below_all k l ms h b.1)

-- keys above the first one are looked up behind it
behind : (es : List (Text × Data)) (k l : Text) (d : Data) (ms : Members) → ((j : Text) → cmp k j ≡ Less → cmp j l ≡ Greater)
    → is_below k es ≡ true → AreAt es (member l d ms) → AreAt es ms
behind [] k l d ms over b at = tt
behind (e ∷ es) k l d ms over b at =
    let (here, more) = and_parts (is_lt (cmp k e.0)) (is_below k es) b in
    let g : cmp e.0 l ≡ Greater = over e.0 (is_less (cmp k e.0) here) in
    let found : match_ordering (cmp e.0 l) (get_member e.0 ms) (Some d) (get_member e.0 ms) ≡ Some e.1 = at.0 in
    (rw g at found, behind es k l d ms over more at.1)

none_is_not_some : {A : Type 0} (o : Option A) (x : A) → o ≡ None → o ≡ Some x → ⊥
none_is_not_some {A} o x e f = absurd cc

absent : (k : Text) (d : Data) (ms : Members) → IsBelow k ms → get_member k ms ≡ Some d → ⊥
absent k d ms b at = none_is_not_some (get_member k ms) d (not_there k ms b) at

-- keys that are found are not more than the members
few_by : (e : Text × Data) (es : List (Text × Data)) (l : Text) (d : Data) (ms : Members) (o : Ordering) → cmp e.0 l ≡ o → ascends (e ∷ es) ≡ true
    → IsBelow l ms → AreAt (e ∷ es) (member l d ms) → ((xs : List (Text × Data)) → ascends xs ≡ true → AreAt xs ms → length xs ≤ count_of ms)
    → length (e ∷ es) ≤ suc (count_of ms)
few_by e es l d ms Less q up down at short = absurd (absent e.0 e.1 (member l d ms) (q, below_all e.0 l ms q down) at.0)
few_by e es l d ms Equal q up down at short =
    let (below, more) = and_parts (is_below e.0 es) (ascends es) up in
    let rest : AreAt es ms = behind es e.0 l d ms (λ j h. above_more j e.0 l h q) below at.1 in
    let fits = short es more rest in
    omega (arith, fits)
few_by e es l d ms Greater q up down at short =
    let (below, more) = and_parts (is_below e.0 es) (ascends es) up in
    let rest : AreAt es ms = behind es e.0 l d ms (λ j h. above_greater j e.0 l h q) below at.1 in
    let found : match_ordering (cmp e.0 l) (get_member e.0 ms) (Some d) (get_member e.0 ms) ≡ Some e.1 = at.0 in
    let first : get_member e.0 ms ≡ Some e.1 = rw q at found in
    let fits = short (e ∷ es) up (first, rest) in
    omega (arith, fits)

few : (ms : Members) (es : List (Text × Data)) → Ascend ms → ascends es ≡ true → AreAt es ms → length es ≤ count_of ms
few ms [] down up at = omega arith
few no_members (e ∷ es) down up at = absurd (absent e.0 e.1 no_members tt at.0)
few (member l d ms) (e ∷ es) down up at = few_by e es l d ms (cmp e.0 l) refl up down.0 at (λ xs. few ms xs down.1)

one_more : (k l : Text) (c d : Data) (ms ns : Members) → k ≡ l → d ≡ c → ms ≡ ns → member l d ms ≡ member k c ns
one_more k l c d ms ns a b t = rw (a, b, t) refl

-- members that have these values at as many keys are these
all_by : (e : Text × Data) (es : List (Text × Data)) (l : Text) (d : Data) (ms : Members) (o : Ordering) → cmp e.0 l ≡ o → ascends (e ∷ es) ≡ true
    → Ascend (member l d ms) → AreAt (e ∷ es) (member l d ms) → suc (count_of ms) ≡ length (e ∷ es)
    → (ascends es ≡ true → AreAt es ms → count_of ms ≡ length es → ms ≡ members_of es) → member l d ms ≡ members_of (e ∷ es)
all_by e es l d ms Less q up down at n same = absurd (absent e.0 e.1 (member l d ms) (q, below_all e.0 l ms q down.0) at.0)
all_by e es l d ms Equal q up down at n same =
    let (below, more) = and_parts (is_below e.0 es) (ascends es) up in
    let rest : AreAt es ms = behind es e.0 l d ms (λ j h. above_more j e.0 l h q) below at.1 in
    let found : match_ordering (cmp e.0 l) (get_member e.0 ms) (Some d) (get_member e.0 ms) ≡ Some e.1 = at.0 in
    let here : Some d ≡ Some e.1 = rw q at found in
    one_more e.0 l e.1 d ms (members_of es) (same_key e.0 l q) (same_Some d e.1 here) (same more rest (omega (arith, n)))
all_by e es l d ms Greater q up down at n same =
    let (below, more) = and_parts (is_below e.0 es) (ascends es) up in
    let rest : AreAt es ms = behind es e.0 l d ms (λ j h. above_greater j e.0 l h q) below at.1 in
    let found : match_ordering (cmp e.0 l) (get_member e.0 ms) (Some d) (get_member e.0 ms) ≡ Some e.1 = at.0 in
    let first : get_member e.0 ms ≡ Some e.1 = rw q at found in
    let fits = few ms (e ∷ es) down.1 up (first, rest) in
    absurd (omega (arith, fits, n))

all_of : (ms : Members) (es : List (Text × Data)) → Ascend ms → ascends es ≡ true → AreAt es ms → count_of ms ≡ length es → ms ≡ members_of es
all_of no_members [] down up at n = refl
all_of (member l d ms) [] down up at n = absurd (omega (arith, n))
all_of no_members (e ∷ es) down up at n = absurd (absent e.0 e.1 no_members tt at.0)
all_of (member l d ms) (e ∷ es) down up at n = all_by e es l d ms (cmp e.0 l) refl up down at n (all_of ms es down.1)

-- ---- a `BTreeMap`

below_keys : (k : String Global) (es : List (String Global × Value)) → AllByRecursion (λ y. string_cmp k y ≡ Less) (keys_of es) → IsBelow (string_bytes k) (members_view es)
below_keys k [] h = tt
below_keys k (e ∷ es) h = (h.0, below_keys k es h.1)

pub keys_ascend : (es : List (String Global × Value)) → IsStrictlySortedBy string_cmp (keys_of es) → Ascend (members_view es)
unfolding IsStrictlySortedBy
keys_ascend [] h = tt
keys_ascend (e ∷ es) h = (below_keys e.0 es h.0, keys_ascend es h.1)

-- a table with as many keys, and these values at them, is the table of these
pub is_table : (want : List (Text × Data)) (es : List (String Global × Value)) → ascends want ≡ true → IsStrictlySortedBy string_cmp (keys_of es)
    → AreAt want (members_view es) → count_of (members_view es) ≡ length want → members_view es ≡ members_of want
is_table want es up sorted at n = all_of (members_view es) want (keys_ascend es sorted) up at n
