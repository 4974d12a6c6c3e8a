-- The chain of a log with one more value, and what is kept of it.
use Rattle.std.proofs.Common.{◌≡◌, ℕ, zero, suc, ◌<◌, ◌≤◌, List, [], ◌∷◌, ◌++◌, length, take, refl, sym, ap, ◌∙◌, subst, arith, append_assoc, length-append, Some, slice_get, ⊎_elim}
use Rattle.std.proofs.lemmas.List.{append-nil}
use Rattle.std.proofs.lemmas.Bool.{cases_lt}
use Rattle.iss_request.specs.Digest.{digest}
use Rattle.iss_request.specs.declared.requests.Value.{Value}
use Rattle.iss_log.specs.declared.chains.End.{End}
use Rattle.iss_log.specs.Chains.{ChainsState, IsChainOf, chain_from, end_from, end_of, linked, next_end, strings_from, strings_of}
use Rattle.iss_log.proofs.LogLemmas.{requests_more, take_front, take_whole}

pub chain-append : (version : ℕ) (before : List ℕ) (a b : List Value) → chain_from version before (a ++ b) ≡ chain_from version (chain_from version before a) b
chain-append version before [] b = refl
chain-append version before (v ∷ a) b = chain-append version (linked version before v) a b

pub end-more : (version : ℕ) (log : List Value) (v : Value) → end_of version (log ++ v ∷ []) ≡ next_end version (end_of version log) v
end-more version log v =
    let chain = chain-append version (digest []) log (v ∷ []) in
    let count = requests_more log v in
    rw (chain, count) refl

pub end-from : (version : ℕ) (log values : List Value) → end_from version (end_of version log) values ≡ end_of version (log ++ values)
end-from version log [] = ap (λ (xs : List Value). end_of version xs) (sym (append-nil log))
end-from version log (v ∷ vs) =
    ap (λ (e : End). end_from version e vs) (sym (end-more version log v)) ∙ end-from version (log ++ v ∷ []) vs
    ∙ ap (λ (xs : List Value). end_of version xs) (append_assoc log (v ∷ []) vs)

pub end-append : (version : ℕ) (before : End) (a : List Value) (v : Value) → end_from version before (a ++ v ∷ []) ≡ next_end version (end_from version before a) v
end-append version before [] v = refl
end-append version before (u ∷ a) v = end-append version (next_end version before u) a v

-- one more value
pub end-next : (version : ℕ) (start end next : End) (a b : List Value) (v : Value) → end ≡ end_from version start a → next ≡ next_end version end v → b ≡ a ++ v ∷ [] → next ≡ end_from version start b
end-next version start end next a b v he hn hb = hn ∙ ap (λ (x : End). next_end version x v) he ∙ sym (end-append version start a v) ∙ ap (λ (xs : List Value). end_from version start xs) (sym hb)

-- the chain digest after these values
pub end-chain : (version : ℕ) (before : End) (a : List Value) → (end_from version before a).chain ≡ chain_from version before.chain a
end-chain version before [] = refl
end-chain version before (u ∷ a) = end-chain version (next_end version before u) a

pub strings-more : (version : ℕ) (before : List ℕ) (a : List Value) (v : Value) → strings_from version before (a ++ v ∷ []) ≡ strings_from version before a ++ strings_of version (chain_from version before a) v
strings-more version before [] v = refl
strings-more version before (u ∷ a) v =
    ap (λ (xs : List (List ℕ)). strings_of version before u ++ xs) (strings-more version (linked version before u) a v)

-- ---- what is kept

get-front : (xs : List End) (x : End) (k : ℕ) → k < length xs → slice_get (xs ++ x ∷ []) k ≡ slice_get xs k
get-front [] x k h = absurd (omega (arith, h))
get-front (y ∷ xs) x zero h = refl
get-front (y ∷ xs) x (suc k) h = let lt : k < length xs = omega (arith, h) in get-front xs x k lt

get-last : (xs : List End) (x : End) (k : ℕ) → k ≡ length xs → slice_get (xs ++ x ∷ []) k ≡ Some x
get-last [] x zero h = refl
get-last [] x (suc k) h = absurd (omega (arith, h))
get-last (y ∷ xs) x zero h = absurd (omega (arith, h))
get-last (y ∷ xs) x (suc k) h = let e : k ≡ length xs = omega (arith, h) in get-last xs x k e

pub none-kept : (c : ChainsState) → c.ends ≡ record { chain = digest []; requests = 0 } ∷ [] → IsChainOf c []
none-kept c h = record { size = ap length h; ends = λ k le. first k le }
  where
    first : (k : ℕ) → k ≤ 0 → slice_get c.ends k ≡ Some (end_of c.version (take k []))
    first zero le = ap (λ (xs : List End). slice_get xs 0) h
    first (suc k) le = absurd (omega (arith, le))

pub last-kept : (c : ChainsState) (log : List Value) → IsChainOf c log → (k : ℕ) → suc k ≡ length c.ends → slice_get c.ends k ≡ Some (end_of c.version log)
last-kept c log kept k h =
    let size = kept.size in
    let le : k ≤ length log = omega (arith, h, size) in
    let same : k ≡ length log = omega (arith, h, size) in
    kept.ends k le ∙ ap (λ (xs : List Value). Some (end_of c.version xs)) (take_whole log k same)

pub more-kept : (c d : ChainsState) (log : List Value) (v : Value) (e : End) → IsChainOf c log → d ≡ record { version = c.version; ends = c.ends ++ e ∷ [] } → e ≡ next_end c.version (end_of c.version log) v → IsChainOf d (log ++ v ∷ [])
more-kept c d log v e kept is end =
    let size = kept.size in
    let long = length-append c.ends (e ∷ []) in
    let longer = length-append log (v ∷ []) in
    subst (λ (x : ChainsState). IsChainOf x (log ++ v ∷ [])) (sym is) (record {
      size = omega (arith, size, long, longer);
      ends = λ k le. ⊎_elim
          (λ (below : k < length c.ends).
          let within : k ≤ length log = omega (arith, below, size) in
          get-front c.ends e k below ∙ kept.ends k within ∙ ap (λ (xs : List Value). Some (end_of c.version xs)) (sym (take_front log v k within)))
          (λ (past : length c.ends ≤ k).
          let at : k ≡ length c.ends = omega (arith, past, le, size, longer) in
          let whole : k ≡ length (log ++ v ∷ []) = omega (arith, past, le, size, longer) in
          get-last c.ends e k at ∙ ap (λ (x : End). Some x) (end ∙ sym (end-more c.version log v))
          ∙ ap (λ (xs : List Value). Some (end_of c.version xs)) (sym (take_whole (log ++ v ∷ []) k whole)))
          (cases_lt k (length c.ends));
    })
