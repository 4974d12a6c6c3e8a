-- The line of the faulty nodes determines its list of nodes.
use Rattle.std.proofs.Common.{◌≡◌, ◌≢◌, ◌∙◌, inl, inr, ℕ, suc, ◌+◌, ◌^◌, ◌<◌, ◌≤◌, List, [], ◌∷◌, ◌++◌, length, get_or, codes, decimal, Option, Some, None, Result, Ok, Err, refl, sym, ap, subst, arith, length-append}
use Rattle.std.specs.Prelude.{IfOk}
use Rattle.std.proofs.lemmas.Fmt.{decimal_injective}
use Rattle.std.proofs.lemmas.List.Splits.{join_with_byte-slice_split}
use Rattle.iss_request.specs.Setup.{AreAscendingBelow, IsFewFaulty}
use Rattle.iss_request.specs.declared.ids.NodeId.{NodeId}
use Rattle.iss_request.specs.declared.setups.Kind.{Kind}
use Rattle.iss_request.specs.declared.setups.Kind.TheVariants.{Byzantine, Stopping}
use Rattle.iss_schedule.specs.Forms.{AreNumbers, IsFaultyFormed}
use Rattle.iss_schedule.specs.Headers.{faulty_line, node_words}
use Rattle.iss_schedule.specs.Places.{AreFew, most_faulty}
use Rattle.iss_schedule.specs.Reads.{IsWithin, Reads}
use Rattle.iss_schedule.specs.Words.{Lacks, line_of, words_of}
use Rattle.iss_schedule.proofs.Encoding.NoSeparatorInWords.{AllLack, lacks_by_test, lacks_decimal, lacks_line, words_of-line_of}
use Rattle.iss_schedule.proofs.Encoding.DecimalIsInjective.{decimal_is_number}

abbrev pub AreSmall : List NodeId → Type 0
AreSmall [] = Unit {0}
AreSmall (i ∷ is) = (i.0 < 2 ^ 64) × AreSmall is

pub rising_small : (from n : ℕ) (is : List NodeId) → n ≤ 2 ^ 64 → AreAscendingBelow from n is → AreSmall is
rising_small from n [] le h = tt
rising_small from n (i ∷ is) le h = (omega (arith, le, h.1), rising_small (suc i.0) n is le h.2)

-- ---- the line and its words

nodes_lack : (c : ℕ) (i : NodeId) (is : List NodeId) → c < 48 → AreSmall (i ∷ is) → AllLack c (node_words (i ∷ is))
nodes_lack c i [] low h = lacks_decimal c i.0 low h.0
nodes_lack c i (j ∷ js) low h = (lacks_decimal c i.0 low h.0, nodes_lack c j js low h.1)

pub faulty_whole : (is : List NodeId) → AreSmall is → Lacks 10 (faulty_line is)
faulty_whole [] h = lacks_by_test 10 (codes "faulty none") refl
faulty_whole (i ∷ is) h = lacks_line (codes "faulty" ∷ node_words (i ∷ is)) (
  lacks_by_test 10 (codes "faulty") refl,
  nodes_lack 10 i is (omega arith) h,
)

words_of_nodes : (i : NodeId) (is : List NodeId) → AreSmall (i ∷ is) →
    words_of (faulty_line (i ∷ is)) ≡ codes "faulty" ∷ node_words (i ∷ is)
words_of_nodes i is h = words_of-line_of (codes "faulty" ∷ node_words (i ∷ is)) (
  lacks_by_test 32 (codes "faulty") refl,
  nodes_lack 32 i is (omega arith) h,
)

nodes_are_numbers : (is : List NodeId) → AreSmall is → AreNumbers (node_words is)
nodes_are_numbers [] h = tt
nodes_are_numbers (i ∷ is) h = (decimal_is_number i.0 h.0, nodes_are_numbers is h.1)

pub faulty_formed : (is : List NodeId) → AreSmall is → IsFaultyFormed (faulty_line is)
faulty_formed [] h = inl refl
faulty_formed (i ∷ is) h =
    inr (record {
      first = decimal i.0;
      others = node_words is;
      words = words_of_nodes i is h;
      numbers = nodes_are_numbers (i ∷ is) h;
    })

-- ---- one list

named : (m n : NodeId) → m.0 ≡ n.0 → m ≡ n
named m n e = ap (λ (k : ℕ). (let i : NodeId = record { 0 = k } in i)) e

same_words : (is js : List NodeId) → AreSmall is → AreSmall js → node_words is ≡ node_words js → is ≡ js
same_words [] [] h k e = refl
same_words [] (j ∷ js) h k e = let two : [] ≡ decimal j.0 ∷ node_words js = e in absurd cc
same_words (i ∷ is) [] h k e = let two : decimal i.0 ∷ node_words is ≡ [] = e in absurd cc
same_words (i ∷ is) (j ∷ js) h k e =
    let both : decimal i.0 ∷ node_words is ≡ decimal j.0 ∷ node_words js = e in
    let heads : decimal i.0 ≡ decimal j.0 = cc in
    let tails : node_words is ≡ node_words js = cc in
    ap (λ (z : NodeId). z ∷ is) (named i j (decimal_injective i.0 j.0 h.0 k.0 heads))
    ∙ ap (λ (zs : List NodeId). j ∷ zs) (same_words is js h.1 k.1 tails)

second : List (List ℕ) → ℕ
second [] = 0
second (v ∷ []) = 0
second (v ∷ w ∷ ws) = get_or w 0 0

-- `none` is no number
no_none : (i : NodeId) (is : List NodeId) → AreSmall (i ∷ is) → codes "faulty none" ≡ faulty_line (i ∷ is) → ⊥
unfolding second
no_none i is h e =
    let number = decimal_is_number i.0 h.0 in
    let digit = number.0 0 number.1 in
    let letter : 110 ≡ get_or (decimal i.0) 0 0 = ap (λ (line : List ℕ). second (words_of line)) e
    ∙ ap second (words_of_nodes i is h) in
    omega (arith, digit.1, letter)

behind_first : (v : List ℕ) (xs ys : List (List ℕ)) → v ∷ xs ≡ v ∷ ys → xs ≡ ys
behind_first v xs ys e = cc

pub same_faulty : (is js : List NodeId) → AreSmall is → AreSmall js → faulty_line is ≡ faulty_line js → is ≡ js
same_faulty [] [] h k e = refl
same_faulty [] (j ∷ js) h k e = absurd (no_none j js k e)
same_faulty (i ∷ is) [] h k e = absurd (no_none i is h (sym e))
same_faulty (i ∷ is) (j ∷ js) h k e =
    same_words (i ∷ is) (j ∷ js) h k
    (behind_first (codes "faulty") (node_words (i ∷ is)) (node_words (j ∷ js)) (sym (words_of_nodes i is h)
    ∙ ap words_of e ∙ words_of_nodes j js k))

-- ---- how many may be faulty

none_at_most : (is : List NodeId) → length is ≤ 0 → is ≡ []
none_at_most [] h = refl
none_at_most (i ∷ is) h = absurd (omega (arith, h))

pub few_faulty : (k : Kind) (f : ℕ) (is : List NodeId) → length is ≤ most_faulty k f → IsFewFaulty k f is
few_faulty Byzantine f is h = h
few_faulty Stopping f is h = none_at_most is h

pub faulty_few : (k : Kind) (f : ℕ) (is : List NodeId) → IsFewFaulty k f is → length is ≤ most_faulty k f
faulty_few Byzantine f is h = h
faulty_few Stopping f is h = let none = ap length h in omega (arith, none)

pub most_is_few : (k : Kind) (f : ℕ) → most_faulty k f ≤ f
most_is_few Byzantine f = omega arith
most_is_few Stopping f = omega arith

-- ---- words that are read as nodes

-- the least number that the next node may have
abbrev pub after : ℕ → List NodeId → ℕ
after from [] = from
after from (i ∷ is) = after (suc i.0) is

pub after_push : (from : ℕ) (is : List NodeId) (x : NodeId) → after from (is ++ x ∷ []) ≡ suc x.0
after_push from [] x = refl
after_push from (i ∷ is) x = after_push (suc i.0) is x

pub rising_push : (from n : ℕ) (is : List NodeId) (x : NodeId) → AreAscendingBelow from n is → after from is ≤ x.0 → x.0 < n →
    AreAscendingBelow from n (is ++ x ∷ [])
rising_push from n [] x h le lt = (le, lt, tt)
rising_push from n (i ∷ is) x h le lt = (h.0, h.1, rising_push (suc i.0) n is x h.2 le lt)

pub words_push : (is : List NodeId) (x : NodeId) (rest : List (List ℕ)) →
    node_words (is ++ x ∷ []) ++ rest ≡ node_words is ++ decimal x.0 ∷ rest
words_push [] x rest = refl
words_push (i ∷ is) x rest = ap (λ (ws : List (List ℕ)). decimal i.0 ∷ ws) (words_push is x rest)

-- what remains of a list of nodes after a prefix
record IsLeft (start n : ℕ) (is js : List NodeId) (words : List (List ℕ)) : Type 0 where
  pub left : List NodeId
  pub size : length js ≡ length is + length left
  pub same : node_words left ≡ words
  pub ascending : AreAscendingBelow (after start is) n left

left_of : (start n : ℕ) (is js : List NodeId) (words : List (List ℕ)) → n ≤ 2 ^ 64 → AreSmall is →
    AreAscendingBelow start n js → node_words is ++ words ≡ node_words js → IsLeft start n is js words
left_of start n [] js words le small ascending e = record { left = js; size = omega arith; same = sym e; ascending = ascending }
left_of start n (i ∷ is) [] words le small ascending e = let two : decimal i.0 ∷ (node_words is ++ words) ≡ [] =
    e in absurd cc
left_of start n (i ∷ is) (j ∷ js) words le small ascending e =
    let both : decimal i.0 ∷ (node_words is ++ words) ≡ decimal j.0 ∷ node_words js = e in
    let heads : decimal i.0 ≡ decimal j.0 = cc in
    let tails : node_words is ++ words ≡ node_words js = cc in
    let same : j.0 ≡ i.0 = sym (decimal_injective i.0 j.0 small.0 (omega (arith, le, ascending.1)) heads) in
    let rest = left_of (suc i.0) n is js words le small.1 (subst (λ k. AreAscendingBelow (suc k) n js) same ascending.2) tails in
    record { left = rest.left; size = omega (arith, rest.size); same = rest.same; ascending = rest.ascending }

-- no list of nodes in range continues with this word
pub goes_on_not : (most n : ℕ) (is : List NodeId) (all : List (List ℕ)) (word : List ℕ) (rest : List (List ℕ)) →
    n ≤ 2 ^ 64 → AreAscendingBelow 0 n is → all ≡ node_words is ++ word ∷ rest →
    ((k : ℕ) → length is < most → IsWithin (after 0 is) n k → word ≢ decimal k) → (js : List NodeId) →
    AreFew most n js → all ≢ node_words js
goes_on_not most n is all word rest le ascending text none js few e =
    let l = left_of 0 n is js (word ∷ rest) le (rising_small 0 n is le ascending) few.1 (sym text ∙ e) in
    go l.left l.size l.same l.ascending
  where
    go : (left : List NodeId) → length js ≡ length is + length left → node_words left ≡ word ∷ rest →
        AreAscendingBelow (after 0 is) n left → ⊥
    go [] size words more = let two : [] ≡ word ∷ rest = words in cc
    go (k ∷ ks) size words more =
        let both : decimal k.0 ∷ node_words ks ≡ word ∷ rest = words in
        let head : word ≡ decimal k.0 = cc in
        none k.0 (omega (arith, size, few.0)) (more.0, more.1) head

-- one more node
pub one_node : (n from x : ℕ) (is more : List NodeId) (all words rest : List (List ℕ)) (word : List ℕ) →
    more ≡ is ++ record { 0 = x } ∷ [] → words ≡ word ∷ rest → word ≡ decimal x → IsWithin from n x →
    all ≡ node_words is ++ words → AreAscendingBelow 0 n is → from ≡ after 0 is →
    (all ≡ node_words more ++ rest) × AreAscendingBelow 0 n more × (x + 1 ≡ after 0 more) × (length more ≡ length is + 1)
one_node n from x is more all words rest word pushed cut spelled within text ascending here =
    let i : NodeId = record { 0 = x } in
    subst (λ (js : List NodeId). (all ≡ node_words js ++ rest) × AreAscendingBelow 0 n js × (x + 1 ≡ after 0 js)
    × (length js ≡ length is + 1)) (sym pushed) (
      text ∙ ap (λ (ws : List (List ℕ)). node_words is ++ ws) (cut ∙ ap (λ (w : List ℕ). w ∷ rest) spelled)
          ∙ sym (words_push is i rest),
      rising_push 0 n is i ascending (omega (arith, here, within.0)) within.1,
      omega (arith, after_push 0 is i),
      length-append is (i ∷ []),
    )

pub no_words : (is : List NodeId) → node_words is ≡ [] → is ≡ []
no_words [] e = refl
no_words (i ∷ is) e = let two : decimal i.0 ∷ node_words is ≡ [] = e in absurd cc

-- ---- the line from its words

pub faulty_unread : (most n : ℕ) (line word : List ℕ) (rest : List (List ℕ)) → n ≤ 2 ^ 64 →
    words_of line ≡ word ∷ rest → line ≢ codes "faulty none" →
    (word ≡ codes "faulty" → (js : List NodeId) → AreFew most n js → (js ≡ [] → ⊥) → rest ≢ node_words js) →
    (js : List NodeId) → AreFew most n js → line ≢ faulty_line js
faulty_unread most n line word rest le cut other none [] few e = other e
faulty_unread most n line word rest le cut other none (j ∷ js) few e =
    let both : word ∷ rest ≡ codes "faulty" ∷ node_words (j ∷ js) = sym cut ∙ ap words_of e
    ∙ words_of_nodes j js (rising_small 0 n (j ∷ js) le few.1) in
    let head : word ≡ codes "faulty" = cc in
    let tail : rest ≡ node_words (j ∷ js) = cc in
    none head (j ∷ js) few (λ f. cc) tail

pub faulty_reads : {E : Type 0} (most n : ℕ) (line word : List ℕ) (rest : List (List ℕ))
    (r : Result (Option (List NodeId)) E) → n ≤ 2 ^ 64 → words_of line ≡ word ∷ rest → line ≢ codes "faulty none" →
    word ≡ codes "faulty" → (rest ≡ [] → ⊥) →
    IfOk r (Reads node_words (AreFew most n) rest) → IfOk r (Reads faulty_line (AreFew most n) line)
faulty_reads most n line word rest (Ok (Some [])) le cut other is some h = absurd (some h.0)
faulty_reads most n line word rest (Ok (Some (i ∷ is))) le cut other named some h = (
  sym (join_with_byte-slice_split 32 line)
      ∙ ap line_of (cut ∙ ap (λ (w : List ℕ). w ∷ rest) named ∙ ap (λ (ws : List (List ℕ)). codes "faulty" ∷ ws) h.0),
  h.1,
)
faulty_reads most n line word rest (Ok None) le cut other named some h =
    faulty_unread most n line word rest le cut other (λ a js few ne. h js few)
faulty_reads most n line word rest (Err x) le cut other named some h = tt
