-- Reading the arguments of an event, one by one.
use Rattle.std.proofs.Common.{◌≡◌, ℕ, suc, ◌+◌, ◌-◌, ◌<◌, Bool, List, [], ◌∷◌, arith, ap, codes, refl, subst, sym, ◌∙◌}
use Rattle.std.specs.Prelude.{◌↔◌, IsTrue}
use Rattle.iss_schedule.specs.Forms.{AreArguments, AreNumbers, NamesFaulty}
use Rattle.iss_schedule.specs.Words.{IsNumber, words_of}

one_less : (n i : ℕ) → i < n → n - i ≡ suc (n - (i + 1))
one_less n i lt = omega arith

-- arguments remain, but no word does
pub too_few : (n i : ℕ) (last : Bool) (words : List (List ℕ)) → i < n → words ≡ [] → AreArguments (n - i) last words → ⊥
too_few n i last words lt none h =
    let at : AreArguments (suc (n - (i + 1))) last [] =
    subst (λ (w : List (List ℕ)). AreArguments (suc (n - (i + 1))) last w) none
    (subst (λ k. AreArguments k last words) (one_less n i lt) h) in at

-- the next argument is a number exactly if its word is one
pub next_argument : (n i : ℕ) (last : Bool) (words rest : List (List ℕ)) (word : List ℕ) → i < n → words ≡ word ∷ rest →
    AreArguments (n - i) last words ↔ (IsNumber word × AreArguments (n - (i + 1)) last rest)
next_argument n i last words rest word lt cut = (
  (λ h. subst (λ (w : List (List ℕ)). AreArguments (suc (n - (i + 1))) last w) cut
      (subst (λ k. AreArguments k last words) (one_less n i lt) h)),
  (λ h. subst (λ k. AreArguments k last words) (sym (one_less n i lt))
      (subst (λ (w : List (List ℕ)). AreArguments (suc (n - (i + 1))) last w) (sym cut) h)),
)

-- the words after the first are the nodes
pub faulty_words : (line word : List ℕ) (rest : List (List ℕ)) (b : Bool) → words_of line ≡ word ∷ rest →
    word ≡ codes "faulty" → (rest ≡ [] → ⊥) → IsTrue b ↔ AreNumbers rest → IsTrue b ↔ NamesFaulty line
faulty_words line word [] b cut named some numbers = absurd (some refl)
faulty_words line word (w ∷ ws) b cut named some numbers = (
  (λ t. record { first = w; others = ws; words = cut ∙ ap (λ (x : List ℕ). x ∷ w ∷ ws) named; numbers = numbers.0 t }),
  (λ h.
      let both : word ∷ w ∷ ws ≡ codes "faulty" ∷ h.first ∷ h.others = sym cut ∙ h.words in
      let same : h.first ∷ h.others ≡ w ∷ ws = cc in
      numbers.1 (subst AreNumbers same h.numbers)),
)
