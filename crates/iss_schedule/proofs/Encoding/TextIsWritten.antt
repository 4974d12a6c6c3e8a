-- Texts that are written piece by piece.
use Rattle.std.proofs.Common.{◌≡◌, ℕ, ◌+◌, ◌<◌, ◌≤◌, List, [], ◌∷◌, ◌++◌, length, decimal, drop, get_or, take, map, refl, sym, ap, ◌∙◌, append_assoc}
use Rattle.std.proofs.lemmas.List.{take_more, take_all}
use Rattle.iss_request.specs.declared.ids.NodeId.{NodeId}
use Rattle.iss_request.specs.declared.setups.Setup.{Setup}
use Rattle.iss_schedule.specs.declared.schedules.Event.{Event}
use Rattle.iss_schedule.specs.Events.{spell_event}
use Rattle.iss_schedule.specs.Headers.{faulty_line, field, node_words}
use Rattle.iss_schedule.specs.Schedules.{header_lines}
use Rattle.iss_schedule.specs.Words.{ended, line_of}
use Rattle.iss_schedule.proofs.BadLines.PrefixesAreRead.{ended-append, map_push}

-- what follows a text, and what follows a line
pub text_before : (a b c text tail : List ℕ) → b ≡ a ++ text → c ≡ b ++ tail → c ≡ a ++ (text ++ tail)
text_before a b c text tail e f = f ∙ ap (λ (t : List ℕ). t ++ tail) e ∙ append_assoc a text tail

pub line_before : (a b c line tail : List ℕ) → b ≡ a ++ line ++ 10 ∷ [] → c ≡ b ++ tail → c ≡ a ++ (line ++ 10 ∷ tail)
line_before a b c line tail e f =
    f ∙ ap (λ (t : List ℕ). t ++ tail) e ∙ append_assoc (a ++ line) (10 ∷ []) tail ∙ append_assoc a line (10 ∷ tail)

-- one more event after the lines so far
pub event_after : (lines : List (List ℕ)) (es : List Event) (i : ℕ) (e : Event) (a b c : List ℕ) → i < length es →
    e ≡ get_or es i e → a ≡ ended (lines ++ map spell_event (take i es)) → b ≡ a ++ spell_event e → c ≡ b ++ 10 ∷ [] →
    c ≡ ended (lines ++ map spell_event (take (i + 1) es))
event_after lines es i e a b c lt is so_far one two =
    let front = map spell_event (take i es) in
    let next = take_more es i e lt ∙ ap (λ (x : Event). take i es ++ x ∷ []) (sym is) in
    let all = ap (λ (xs : List Event). lines ++ map spell_event xs) next
    ∙ ap (λ (ls : List (List ℕ)). lines ++ ls) (map_push (take i es) e)
    ∙ sym (append_assoc lines front (spell_event e ∷ [])) in
    line_before a c c (spell_event e) [] (two ∙ ap (λ (t : List ℕ). t ++ 10 ∷ []) one) (sym (nothing c))
    ∙ ap (λ (t : List ℕ). t ++ (spell_event e ++ 10 ∷ [])) so_far
    ∙ sym (ended-append (lines ++ front) (spell_event e ∷ [])) ∙ ap ended (sym all)
  where
    nothing : (xs : List ℕ) → xs ++ [] ≡ xs
    nothing [] = refl
    nothing (x ∷ xs) = ap (λ (t : List ℕ). x ∷ t) (nothing xs)

pub events_all : (lines : List (List ℕ)) (es : List Event) (i : ℕ) (a b : List ℕ) → length es ≤ i →
    a ≡ ended (lines ++ map spell_event (take i es)) → b ≡ a → b ≡ ended (lines ++ map spell_event es)
events_all lines es i a b le e f = f ∙ e
    ∙ ap (λ (xs : List Event). ended (lines ++ map spell_event xs)) (take_all i es le)

pub field_before : (a b c name : List ℕ) (m n : ℕ) (tail : List ℕ) → m ≡ n → b ≡ a ++ field name m ++ 10 ∷ [] →
    c ≡ b ++ tail → c ≡ a ++ (field name n ++ 10 ∷ tail)
field_before a b c name m n tail same e f =
    line_before a b c (field name n) tail (e ∙ ap (λ k. a ++ field name k ++ 10 ∷ []) same) f

-- the three parts of a header
pub header_written : (s : Setup) (is : List NodeId) (a b c d : List ℕ) → b ≡ a ++ ended (take 5 (header_lines s)) →
    c ≡ b ++ ended (take 5 (drop 5 (header_lines s))) → d ≡ c ++ faulty_line is ++ 10 ∷ [] → is ≡ s.faulty →
    d ≡ a ++ ended (header_lines s)
header_written s is a b c d one two three same =
    let front = take 5 (header_lines s) in
    let middle = take 5 (drop 5 (header_lines s)) in
    let last : List (List ℕ) = faulty_line s.faulty ∷ [] in
    let e : d ≡ c ++ ended last = three ∙ ap (λ (js : List NodeId). c ++ faulty_line js ++ 10 ∷ []) same
    ∙ append_assoc c (faulty_line s.faulty) (10 ∷ []) in
    let f : d ≡ b ++ (ended middle ++ ended last) = text_before b c d (ended middle) (ended last) two e in
    let g : d ≡ a ++ (ended front ++ (ended middle ++ ended last)) =
    text_before a b d (ended front) (ended middle ++ ended last) one f in
    g ∙ ap (λ (t : List ℕ). a ++ t) (ap (λ (t : List ℕ). ended front ++ t) (sym (ended-append middle last))
    ∙ sym (ended-append front (middle ++ last)))

-- ---- one more faulty node

line_push : (w : List ℕ) (ws : List (List ℕ)) (v : List ℕ) → line_of (w ∷ ws ++ v ∷ []) ≡ line_of (w ∷ ws) ++ 32 ∷ v
line_push w [] v = refl
line_push w (x ∷ xs) v = ap (λ (t : List ℕ). w ++ 32 ∷ t) (line_push x xs v)
    ∙ sym (append_assoc w (32 ∷ line_of (x ∷ xs)) (32 ∷ v))

words_end : (is : List NodeId) (x : NodeId) → node_words (is ++ x ∷ []) ≡ node_words is ++ decimal x.0 ∷ []
words_end [] x = refl
words_end (i ∷ is) x = ap (λ (ws : List (List ℕ)). decimal i.0 ∷ ws) (words_end is x)

pub node_after : (w : List ℕ) (is : List NodeId) (k n : ℕ) (d : NodeId) (a b c : List ℕ) → k < length is →
    n ≡ (get_or is k d).0 → b ≡ a ++ line_of (w ∷ node_words (take k is)) → c ≡ b ++ 32 ∷ decimal n →
    c ≡ a ++ line_of (w ∷ node_words (take (k + 1) is))
node_after w is k n d a b c lt same so_far next =
    let front = take k is in
    let i = get_or is k d in
    let line : line_of (w ∷ node_words (take (k + 1) is)) ≡ line_of (w ∷ node_words front) ++ 32 ∷ decimal i.0 =
    ap (λ (js : List NodeId). line_of (w ∷ node_words js)) (take_more is k d lt)
    ∙ ap (λ (ws : List (List ℕ)). line_of (w ∷ ws)) (words_end front i)
    ∙ line_push w (node_words front) (decimal i.0) in
    text_before a b c (line_of (w ∷ node_words front)) (32 ∷ decimal i.0) so_far (next
    ∙ ap (λ m. b ++ 32 ∷ decimal m) same) ∙ ap (λ (t : List ℕ). a ++ t) (sym line)

pub nodes_all : (w : List ℕ) (is : List NodeId) (k : ℕ) (a b : List ℕ) → length is ≤ k →
    b ≡ a ++ line_of (w ∷ node_words (take k is)) → b ≡ a ++ line_of (w ∷ node_words is)
nodes_all w is k a b le e = e ∙ ap (λ (js : List NodeId). a ++ line_of (w ∷ node_words js)) (take_all k is le)
