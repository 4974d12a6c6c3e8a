-- Splitting a list at the first occurrence of a byte.
use Rattle.std.proofs.Common.{◌≡◌, ◌≢◌, ℕ, zero, suc, ◌<◌, ◌≤◌, List, [], ◌∷◌, ◌++◌, length, get_or, take, eqb, Bool, true, false, cond, not, Option, Some, None, refl, sym, ap, subst, ◌∙◌, arith}
use Rattle.memchr.specs.Find.{IsFirstByte, is_byte}
use Rattle.std.specs.List.{onto_first}
use Rattle.std.proofs.lemmas.Bool.{false≢true}
use Rattle.iss_schedule.specs.Words.{Lacks, words_of}

-- a byte not found below n does not occur in the first n bytes
pub lacks_take : (c : ℕ) (xs : List ℕ) (n : ℕ) → n ≤ length xs → ((k : ℕ) → k < n → get_or xs k 0 ≡ c → ⊥) →
    Lacks c (take n xs)
lacks_take c [] zero le none = tt
lacks_take c [] (suc n) le none = absurd (omega arith)
lacks_take c (x ∷ xs) zero le none = tt
lacks_take c (x ∷ xs) (suc n) le none =
    (none 0 (omega arith), lacks_take c xs n (omega arith) (λ k lt e. none (suc k) (omega arith) e))

pub lacks_all : (c : ℕ) (xs : List ℕ) (n : ℕ) → length xs ≤ n → ((k : ℕ) → k < n → get_or xs k 0 ≡ c → ⊥) → Lacks c xs
lacks_all c [] n le none = tt
lacks_all c (x ∷ xs) zero le none = absurd (omega arith)
lacks_all c (x ∷ xs) (suc n) le none =
    (none 0 (omega arith), lacks_all c xs n (omega arith) (λ k lt e. none (suc k) (omega arith) e))

-- the same where a search gives the first byte, or none
equal : (a b : ℕ) → a ≡ b → eqb a b ≡ true
equal a b e = grind (arith, e)

pub lacks_before : (c : ℕ) (xs : List ℕ) (r : Option ℕ) (k : ℕ) → IsFirstByte (is_byte c) xs r → r ≡ Some k → Lacks c (take k xs)
lacks_before c xs None k h e = absurd (cc)
lacks_before c xs (Some j) k h e =
    let same : j ≡ k = cc in
    let lt : j < length xs = h.0.high in
    subst (λ (n : ℕ). Lacks c (take n xs)) same
    (lacks_take c xs j (omega (arith, lt)) (λ i below q. h.0.before i (omega arith) below (equal (get_or xs i 0) c q)))

pub lacks_where : (c : ℕ) (xs : List ℕ) (r : Option ℕ) → IsFirstByte (is_byte c) xs r → r ≡ None → Lacks c xs
lacks_where c xs None h e =
    lacks_all c xs (length xs) (omega arith) (λ i below q. h i (omega arith) below (equal (get_or xs i 0) c q))
lacks_where c xs (Some j) h e = absurd (cc)

not_equal : (a b : ℕ) → a ≢ b → eqb a b ≡ false
not_equal a b ne = grind (arith)

-- the first word ends at the first space
pub words_at : (word rest : List ℕ) → Lacks 32 word → words_of (word ++ 32 ∷ rest) ≡ word ∷ words_of rest
words_at [] rest h = refl
words_at (b ∷ bs) rest h = rw (not_equal b 32 h.0, words_at bs rest h.1) refl

pub words_none : (word : List ℕ) → Lacks 32 word → words_of word ≡ word ∷ []
words_none [] h = refl
words_none (b ∷ bs) h = rw (not_equal b 32 h.0, words_none bs h.1) refl

some_first : (t : Bool) (b : ℕ) (ws : List (List ℕ)) → cond t ([] ∷ ws) (onto_first b ws) ≢ []
some_first true b ws e = cc
some_first false b [] e = cc
some_first false b (w ∷ ws) e = cc

-- every line has a word
pub words_some : (line : List ℕ) → words_of line ≢ []
words_some [] e = cc
words_some (b ∷ bs) e = some_first (eqb b 32) b (words_of bs) e

-- no word is left exactly if the reader says so
pub words_done : (more : Bool) (rest : List ℕ) (ws : List (List ℕ)) → ws ≡ cond more (words_of rest) [] →
    (not more ≡ true → ws ≡ []) × (ws ≡ [] → not more ≡ true)
words_done true rest ws e = ((λ t. absurd (false≢true t)), (λ none. absurd (words_some rest (sym e ∙ none))))
words_done false rest ws e = ((λ t. e), (λ none. refl))

pub words_next : (more : Bool) (text word rest : List ℕ) (ws : List (List ℕ)) → more ≡ true →
    ws ≡ cond more (words_of text) [] → text ≡ word ++ 32 ∷ rest → Lacks 32 word →
    ws ≡ word ∷ cond more (words_of rest) []
words_next true text word rest ws t e cut first = e ∙ ap words_of cut ∙ words_at word rest first
words_next false text word rest ws t e cut first = absurd (false≢true t)

pub words_last : (more : Bool) (text : List ℕ) (ws : List (List ℕ)) → more ≡ true → ws ≡ cond more (words_of text) [] →
    Lacks 32 text → ws ≡ text ∷ []
words_last true text ws t e none = e ∙ words_none text none
words_last false text ws t e none = absurd (false≢true t)

-- the first occurrence in a text is unique
pub cut_same : (c : ℕ) (a b x y : List ℕ) → Lacks c a → Lacks c b → a ++ c ∷ x ≡ b ++ c ∷ y → (a ≡ b) × (x ≡ y)
cut_same c [] [] x y p q e = (refl, cc)
cut_same c [] (b ∷ bs) x y p q e = let same : b ≡ c = cc in absurd (q.0 same)
cut_same c (a ∷ an) [] x y p q e = let same : a ≡ c = cc in absurd (p.0 same)
cut_same c (a ∷ an) (b ∷ bs) x y p q e =
    let heads : a ≡ b = cc in
    let tails : an ++ c ∷ x ≡ bs ++ c ∷ y = cc in
    let rec = cut_same c an bs x y p.1 q.1 tails in
    let fronts : an ≡ bs = rec.0 in
    (cc, rec.1)

pub no_cut : (c : ℕ) (a x : List ℕ) → Lacks c (a ++ c ∷ x) → ⊥
no_cut c [] x h = h.0 refl
no_cut c (a ∷ an) x h = no_cut c an x h.1

-- a text without the byte is not split
pub uncut : (c : ℕ) (text a x : List ℕ) → Lacks c text → text ≢ a ++ c ∷ x
uncut c text a x h e = no_cut c a x (subst (Lacks c) e h)

pub behind_same : (c : ℕ) (text a b x y : List ℕ) → Lacks c a → Lacks c b → text ≡ a ++ c ∷ x → text ≡ b ++ c ∷ y →
    (a ≡ b) × (x ≡ y)
behind_same c text a b x y p q e f = cut_same c a b x y p q (sym e ∙ f)
