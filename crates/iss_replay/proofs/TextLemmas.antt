use Rattle.std.proofs.Common.{◌≡◌, ℕ, ◌+◌, ◌<◌, ◌≤◌, List, [], ◌∷◌, ◌++◌, length, take, reverse, get_or, Result, Ok, Err, refl, sym, ap, ◌∙◌, append_assoc, arith}
use Rattle.std.specs.Prelude.{OnOk}
use Rattle.std.proofs.lemmas.List.{append-nil, length-reverse, length-take-le, reverse-append, take_more}
use Rattle.iss_request.specs.Log.{requests}
use Rattle.iss_request.specs.declared.requests.Request.{Request}
use Rattle.iss_request.specs.declared.requests.Value.{Value}
use Rattle.iss_request.specs.declared.errors.NoMemory.{NoMemory}
use Rattle.iss_replay.specs.Text.{first_line, node_block, node_line, request_word, request_words, slot_line, slot_lines}
use Rattle.iss_log.proofs.LogLemmas.{requests-turned}

pub request_words-append : (xs ys : List Request) → request_words (xs ++ ys) ≡ request_words xs ++ request_words ys
request_words-append [] ys = refl
request_words-append (x ∷ xs) ys = ap (λ t. request_word x ++ t) (request_words-append xs ys) ∙ sym (append_assoc (request_word x) (request_words xs) (request_words ys))

-- The words so far, and one more request.
pub words-next : (out : List ℕ) (qs : List Request) (i : ℕ) (q : Request) → i < length qs → q ≡ get_or qs i q → (out ++ request_words (take i qs)) ++ request_word q ≡ out ++ request_words (take (i + 1) qs)
words-next out qs i q lt is =
    let next : take (i + 1) qs ≡ take i qs ++ q ∷ [] = take_more qs i q lt ∙ ap (λ (y : Request). take i qs ++ y ∷ []) (sym is) in
    append_assoc out (request_words (take i qs)) (request_word q)
    ∙ ap (λ t. out ++ t) (sym (ap request_words next ∙ request_words-append (take i qs) (q ∷ []) ∙ ap (λ t. request_words (take i qs) ++ t) (append-nil (request_word q))))

-- ---- slots

-- The lines of all slots below i, and the line of slot i.
pub slots-next : (out : List ℕ) (vs : List Value) (i : ℕ) (v : Value) → i < length vs → v ≡ get_or vs i v
    → (out ++ slot_lines (reverse (take i vs))) ++ slot_line i (requests (take i vs)) v ≡ out ++ slot_lines (reverse (take (i + 1) vs))
slots-next out vs i v lt is =
    let front = take i vs in
    let next : take (i + 1) vs ≡ front ++ v ∷ [] = take_more vs i v lt ∙ ap (λ (y : Value). front ++ y ∷ []) (sym is) in
    let turned : reverse (take (i + 1) vs) ≡ v ∷ reverse front = ap (λ (xs : List Value). reverse xs) next ∙ reverse-append front (v ∷ []) in
    let within : i ≤ length vs = omega (arith, lt) in
    let count : length (reverse front) ≡ i = length-reverse front ∙ length-take-le i vs within in
    append_assoc out (slot_lines (reverse front)) (slot_line i (requests front) v)
    ∙ ap (λ k. out ++ (slot_lines (reverse front) ++ slot_line k (requests front) v)) (sym count)
    ∙ ap (λ k. out ++ (slot_lines (reverse front) ++ slot_line (length (reverse front)) k v)) (sym (requests-turned front))
    ∙ ap (λ (xs : List Value). out ++ slot_lines xs) (sym turned)

-- The line of a node.
pub first-line-is : (out now : List ℕ) (n e slots count : ℕ) (vs : List Value) → slots ≡ length vs → count ≡ requests vs
    → (r : Result (Unit {0}) NoMemory) → OnOk r (now ≡ out ++ node_line n e slots count) → OnOk r (now ≡ out ++ first_line n e (reverse vs))
first-line-is out now n e slots count vs many all (Ok u) h =
    h ∙ ap (λ k. out ++ node_line n e k count) (many ∙ sym (length-reverse vs)) ∙ ap (λ k. out ++ node_line n e (length (reverse vs)) k) (all ∙ sym (requests-turned vs))
first-line-is out now n e slots count vs many all (Err x) h = tt

-- The line of a node, then the lines of its slots.
pub block-is : (out mid now : List ℕ) (n e slots count : ℕ) (vs : List Value) → slots ≡ length vs → count ≡ requests vs → mid ≡ out ++ node_line n e slots count
    → (r : Result (Unit {0}) NoMemory) → OnOk r (now ≡ mid ++ slot_lines (reverse vs)) → OnOk r (now ≡ out ++ node_block n e (reverse vs))
block-is out mid now n e slots count vs many all is (Ok u) h =
    let lines = slot_lines (reverse vs) in
    h ∙ ap (λ t. t ++ lines) (is ∙ ap (λ k. out ++ node_line n e k count) (many ∙ sym (length-reverse vs)) ∙ ap (λ k. out ++ node_line n e (length (reverse vs)) k) (all ∙ sym (requests-turned vs)))
    ∙ append_assoc out (node_line n e (length (reverse vs)) (requests (reverse vs))) lines
block-is out mid now n e slots count vs many all is (Err x) h = tt
