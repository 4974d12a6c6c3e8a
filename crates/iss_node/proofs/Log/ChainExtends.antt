-- A chain is extended by values, one at a time.
use Rattle.std.proofs.Common.{◌≡◌, ℕ, ◌+◌, ◌<◌, ◌≤◌, List, [], ◌∷◌, ◌++◌, length, take, get_or, append_assoc, append-nil, sym, ap, ◌∙◌, subst}
use Rattle.std.proofs.lemmas.List.{take_all}
use Rattle.iss_log.proofs.ChainLemmas.{chain-append, strings-more}
use Rattle.iss_log.specs.Chains.{ChainsState, IsChainOf, chain_of, strings_from, strings_of}
use Rattle.iss_node.specs.Internal.Growth.{AreJoined}
use Rattle.iss_transfer.proofs.AdoptionLemmas.{take-next}
use Rattle.iss_request.specs.Digest.{digest}
use Rattle.iss_request.specs.declared.requests.Value.{Value}

pub join-none : (c : ChainsState) (log : List Value) (hashed : List (List ℕ)) → IsChainOf c log → AreJoined c log [] c hashed hashed
join-none c log hashed h = record {
  chained = subst (λ (xs : List Value). IsChainOf c xs) (sym (append-nil log)) h;
  strings = sym (append-nil hashed);
}

pub join-one : (old mid new : ChainsState) (log values : List Value) (i : ℕ) (v : Value) (first before after : List (List ℕ)) → i < length values → v ≡ get_or values i v →
    mid.version ≡ old.version → AreJoined old log (take i values) mid first before →
    ((xs : List Value) → IsChainOf mid xs → IsChainOf new (xs ++ v ∷ [])) →
    ((xs : List Value) → IsChainOf mid xs → after ≡ before ++ strings_of mid.version (chain_of mid.version xs) v) →
    AreJoined old log (take (i + 1) values) new first after
join-one old mid new log values i v first before after lt is same h chain strings =
    let done = take i values in
    let more : take (i + 1) values ≡ done ++ v ∷ [] = take-next values i v lt is in
    let own : after ≡ (first ++ strings_from old.version (chain_of old.version log) done) ++ strings_of old.version (chain_of old.version (log ++ done)) v =
    strings (log ++ done) h.chained ∙ ap (λ (xs : List (List ℕ)). xs ++ strings_of mid.version (chain_of mid.version (log ++ done)) v) h.strings
    ∙ ap (λ (k : ℕ). (first ++ strings_from old.version (chain_of old.version log) done) ++ strings_of k (chain_of k (log ++ done)) v) same in
    subst (λ (xs : List Value). AreJoined old log xs new first after) (sym more) (record {
      chained = subst (λ (xs : List Value). IsChainOf new xs) (append_assoc log done (v ∷ [])) (chain (log ++ done) h.chained);
      strings = own
          ∙ append_assoc first (strings_from old.version (chain_of old.version log) done) (strings_of old.version (chain_of old.version (log ++ done)) v)
          ∙ ap (λ (c : List ℕ). first ++ (strings_from old.version (chain_of old.version log) done ++ strings_of old.version c v)) (chain-append old.version (digest []) log done)
          ∙ ap (λ (xs : List (List ℕ)). first ++ xs) (sym (strings-more old.version (chain_of old.version log) done v));
    })

pub join-all : (old new : ChainsState) (log values : List Value) (i : ℕ) (first after : List (List ℕ)) → length values ≤ i → AreJoined old log (take i values) new first after → AreJoined old log values new first after
join-all old new log values i first after le h = subst (λ (xs : List Value). AreJoined old log xs new first after) (take_all i values le) h
