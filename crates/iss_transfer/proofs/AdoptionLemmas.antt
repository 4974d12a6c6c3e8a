-- What an adoption implies, and why equal chain digests are of equal logs.
use Rattle.std.proofs.Common.{◌≡◌, inl, inr, ℕ, zero, suc, ◌+◌, ◌*◌, ◌<◌, ◌≤◌, Bool, true, false, ◌==◌, ◌&&◌, List, [], ◌∷◌, ◌++◌, length, take, append_assoc, refl, sym, ap, ap₂, ◌∙◌, subst, arith, Some, None, slice_get, get_or}
use Rattle.sha2.proofs.Facts256.{length-sha256}
use Rattle.iss_base.specs.Lists.{In, same_bytes}
use Rattle.iss_base.proofs.Lists.{and-true, ends-same, is-eq, same_bytes-is, some-injective}
use Rattle.iss_keys.specs.Directories.{DirectoryView, VerifiesBy}
use Rattle.iss_log.specs.Chains.{ChainsState, IsChainOf, chain_from, chain_of, end_from, end_of, linked, strings_from, strings_of, value_link}
use Rattle.iss_log.specs.declared.chains.End.{End}
use Rattle.iss_log.proofs.ChainLemmas.{end-chain, end-from, strings-more}
use Rattle.iss_request.specs.Digest.{digest}
use Rattle.iss_request.specs.Fields.{Good, IsReadAgain}
use Rattle.iss_request.specs.Formats.{parse_value, spell_value, value_string}
use Rattle.iss_request.specs.Setup.{IsGoodSetup}
use Rattle.iss_request.specs.declared.requests.Value.{Value}
use Rattle.iss_request.specs.declared.setups.Setup.{Setup}
use Rattle.iss_sb.specs.Evidence.{Separate}
use Rattle.iss_checkpoint.specs.Votes.{Voters, is_cert, vote_statement, voters_of}
use Rattle.iss_checkpoint.proofs.SignedLemmas.{correct-signer}
use Rattle.iss_transfer.specs.declared.adopting.Adoption.TheVariants.{Adopt, WrongEpoch, BadCert, WrongChain}
use Rattle.iss_transfer.specs.declared.pieces.Piece.{Piece}
use Rattle.iss_transfer.specs.Adoption.{IsHashed, IsSaidByCorrect, adopted_log, adoption, has_shape, log_before, said_in, same_end}

pub same-end : (a b : End) → same_end a b ≡ true → a ≡ b
same-end a b h =
    let p = and-true (a.requests == b.requests) (same_bytes a.chain b.chain) h in
    ap₂ (λ (chain : List ℕ) (number : ℕ). record { chain = chain; requests = number }) (same_bytes-is a.chain b.chain p.1) (is-eq a.requests b.requests p.0)

-- what was adopted passed all three tests
record IsSound (s : Setup) (w : Voters) (log : List Value) (e : ℕ) (p : Piece) : Type 0 where
  pub shape : has_shape s e p ≡ true
  pub cert : is_cert w p.cert ≡ true
  pub ends : end_of s.version (adopted_log s log e p) ≡ said_in p.cert

adopted-sound : (s : Setup) (w : Voters) (log : List Value) (e : ℕ) (p : Piece) (hashed : List (List ℕ)) → adoption s w log e p ≡ Adopt hashed → IsSound s w log e p
adopted-sound s w log e p hashed h = go (has_shape s e p) refl (is_cert w p.cert) refl (same_end (end_of s.version (adopted_log s log e p)) (said_in p.cert)) refl h
  where
    wrong : WrongEpoch ≡ Adopt hashed → ⊥
    wrong q = cc

    bad : BadCert ≡ Adopt hashed → ⊥
    bad q = cc

    apart : {a b : End} → WrongChain a b ≡ Adopt hashed → ⊥
    apart q = cc

    go : (a : Bool) → has_shape s e p ≡ a → (b : Bool) → is_cert w p.cert ≡ b → (d : Bool) → same_end (end_of s.version (adopted_log s log e p)) (said_in p.cert) ≡ d
        → adoption s w log e p ≡ Adopt hashed → IsSound s w log e p
    go true qa true qb true qd r = record { shape = qa; cert = qb; ends = same-end (end_of s.version (adopted_log s log e p)) (said_in p.cert) qd }
    go true qa true qb false qd r = absurd (apart (rw (qa, qb, qd) at r))
    go true qa false qb d qd r = absurd (bad (rw (qa, qb) at r))
    go false qa b qb d qd r = absurd (wrong (rw qa at r))

pub said-by-correct : (s : Setup) (d : DirectoryView) (log : List Value) (e : ℕ) (p : Piece) (hashed : List (List ℕ)) → IsGoodSetup s → adoption s (voters_of s d) log e p ≡ Adopt hashed → IsSaidByCorrect s d e (adopted_log s log e p)
said-by-correct s d log e p hashed good h =
    let is = adopted-sound s (voters_of s d) log e p hashed h in
    let one = correct-signer s d p.cert good is.cert in
    let parts = and-true (p.epoch.0 == e) ((p.cert.epoch.0 == e) && (length p.values == s.epoch)) is.shape in
    let epoch = is-eq p.cert.epoch.0 e (and-true (p.cert.epoch.0 == e) (length p.values == s.epoch) parts.1).0 in
    let at : VerifiesBy d.nodes one.signer.by.0 (vote_statement s.tag e p.cert.chain p.cert.requests) one.signer.sig =
    subst (λ (n : ℕ). VerifiesBy d.nodes one.signer.by.0 (vote_statement s.tag n p.cert.chain p.cert.requests) one.signer.sig) epoch one.signed in
    record {
      node = one.signer.by.0;
      sig = one.signer.sig;
      correct = one.correct;
      signed = subst (λ (x : End). VerifiesBy d.nodes one.signer.by.0 (vote_statement s.tag e x.chain x.requests) one.signer.sig) (sym is.ends) at;
    }

-- ---- chains

pub digest-length : (x : List ℕ) → length (digest x) ≡ 32
digest-length [] = refl
digest-length (b ∷ bs) = length-sha256 (b ∷ bs)

pub tail-same : (a : ℕ) (x y : List ℕ) → a ∷ x ≡ a ∷ y → x ≡ y
tail-same a x y h = cc

pub good-same : (v u : Value) (x y : List ℕ) → Good v x ≡ Good u y → v ≡ u
good-same v u x y h = cc

value-same : (version : ℕ) (v u : Value) → IsReadAgain (spell_value version) (parse_value version) v → IsReadAgain (spell_value version) (parse_value version) u → value_string version v ≡ value_string version u → v ≡ u
value-same version v u rv ru h =
    let bytes : spell_value version v ≡ spell_value version u = tail-same 64 (spell_value version v) (spell_value version u) h in
    good-same v u [] [] (sym (rv []) ∙ ap (λ (t : List ℕ). parse_value version (t ++ [])) bytes ∙ ru [])

-- chains of equally many values from two starts
pub record AreSame (x y : List ℕ) (a b : List Value) : Type 0 where
  pub starts : x ≡ y
  pub values : a ≡ b

pub chains-same : (version : ℕ) (all : List (List ℕ)) → Separate (λ x. In x all) → (x y : List ℕ) → length x ≡ 32 → length y ≡ 32 → (a b : List Value) → length a ≡ length b
    → ((v : Value) → In v a → IsReadAgain (spell_value version) (parse_value version) v) → ((v : Value) → In v b → IsReadAgain (spell_value version) (parse_value version) v)
    → ((t : List ℕ) → In t (strings_from version x a) → In t all) → ((t : List ℕ) → In t (strings_from version y b) → In t all)
    → chain_from version x a ≡ chain_from version y b → AreSame x y a b
chains-same version all sep x y lx ly [] [] n sa sb ha hb h = record { starts = h; values = refl }
chains-same version all sep x y lx ly [] (u ∷ b) n sa sb ha hb h = absurd (omega (arith, n))
chains-same version all sep x y lx ly (v ∷ a) [] n sa sb ha hb h = absurd (omega (arith, n))
chains-same version all sep x y lx ly (v ∷ a) (u ∷ b) n sa sb ha hb h =
    let shorter : length a ≡ length b = omega (arith, n) in
    let others = chains-same version all sep (linked version x v) (linked version y u) (digest-length (value_link version x v)) (digest-length (value_link version y u)) a b shorter
    (λ z i. sa z (inr i)) (λ z i. sb z (inr i)) (λ t i. ha t (inr (inr i))) (λ t i. hb t (inr (inr i))) h in
    let links : value_link version x v ≡ value_link version y u = sep (value_link version x v) (value_link version y u) (ha _ (inr (inl refl))) (hb _ (inr (inl refl))) others.starts in
    let parts = ends-same x y (digest (value_string version v)) (digest (value_string version u)) (lx ∙ sym ly) (tail-same 66 (x ++ digest (value_string version v)) (y ++ digest (value_string version u)) links) in
    let strings : value_string version v ≡ value_string version u = sep (value_string version v) (value_string version u) (ha _ (inl refl)) (hb _ (inl refl)) parts.1 in
    record { starts = parts.0; values = ap₂ (λ z zs. z ∷ zs) (value-same version v u (sa v (inl refl)) (sb u (inl refl)) strings) others.values }

pub one-log : (s : Setup) (w : Voters) (log theirs : List Value) (e : ℕ) (p : Piece) (hashed all : List (List ℕ)) → adoption s w log e p ≡ Adopt hashed → end_of s.version theirs ≡ said_in p.cert → length theirs ≡ length (adopted_log s log e p)
    → Separate (λ x. In x all) → IsHashed s.version all (adopted_log s log e p) → IsHashed s.version all theirs → theirs ≡ adopted_log s log e p
one-log s w log theirs e p hashed all h said long sep ours others =
    let is = adopted-sound s w log e p hashed h in
    let chains : chain_of s.version theirs ≡ chain_of s.version (adopted_log s log e p) = ap (λ (x : End). x.chain) (said ∙ sym is.ends) in
    (chains-same s.version all sep (digest []) (digest []) refl refl theirs (adopted_log s log e p) long others.spelled ours.spelled others.strings ours.strings chains).values

-- ---- one value after another

take-suc : (xs : List Value) (i : ℕ) (v : Value) → i < length xs → v ≡ get_or xs i v → take (suc i) xs ≡ take i xs ++ v ∷ []
take-suc [] i v lt h = absurd (omega (arith, lt))
take-suc (x ∷ xs) zero v lt h = ap (λ (z : Value). z ∷ []) (sym h)
take-suc (x ∷ xs) (suc i) v lt h = let within : i < length xs = omega (arith, lt) in ap (λ (zs : List Value). x ∷ zs) (take-suc xs i v within h)

pub take-next : (xs : List Value) (i : ℕ) (v : Value) → i < length xs → v ≡ get_or xs i v → take (i + 1) xs ≡ take i xs ++ v ∷ []
take-next xs i v lt h = let e : i + 1 ≡ suc i = omega arith in rw e (take-suc xs i v lt h)

pub strings-next : (version : ℕ) (start end : End) (a b : List Value) (v : Value) (first before later : List (List ℕ)) → end ≡ end_from version start a → before ≡ first ++ strings_from version start.chain a
    → later ≡ before ++ strings_of version end.chain v → b ≡ a ++ v ∷ [] → later ≡ first ++ strings_from version start.chain b
strings-next version start end a b v first before later he hb hl hx =
    let chain : end.chain ≡ chain_from version start.chain a = ap (λ (x : End). x.chain) he ∙ end-chain version start a in
    let more = strings-more version start.chain a v in
    rw (hx, hl, hb, chain, more) (append_assoc first (strings_from version start.chain a) (strings_of version (chain_from version start.chain a) v))

-- ---- the results of an adoption

pub end-there : (ends : List End) (k : ℕ) → k < length ends → slice_get ends k ≡ None → ⊥
end-there [] k lt h = omega (arith, lt)
end-there (x ∷ ends) zero lt h = cc
end-there (x ∷ ends) (suc k) lt h = let within : k < length ends = omega (arith, lt) in end-there ends k within h

-- the chain before the epoch
pub start-is : (s : Setup) (log : List Value) (e : ℕ) (c : ChainsState) (start : End) → IsChainOf c log → c.version ≡ s.version → e * s.epoch < length c.ends → slice_get c.ends (e * s.epoch) ≡ Some start
    → start ≡ end_of s.version (log_before s log e)
start-is s log e c start kept version whole at =
    let size = kept.size in
    let le : e * s.epoch ≤ length log = omega (arith, whole, size) in
    some-injective start (end_of s.version (log_before s log e)) (sym at ∙ kept.ends (e * s.epoch) le ∙ ap (λ (n : ℕ). Some (end_of n (log_before s log e))) version)

pub ours-is : (s : Setup) (log : List Value) (e : ℕ) (p : Piece) (start ours : End) → start ≡ end_of s.version (log_before s log e) → ours ≡ end_from s.version start p.values → ours ≡ end_of s.version (adopted_log s log e p)
ours-is s log e p start ours hs ho = ho ∙ ap (λ (x : End). end_from s.version x p.values) hs ∙ end-from s.version (log_before s log e) p.values

pub is-adopted : (s : Setup) (w : Voters) (log : List Value) (e : ℕ) (p : Piece) (start ours theirs : End) (hashed : List (List ℕ)) → has_shape s e p ≡ true → is_cert w p.cert ≡ true → start ≡ end_of s.version (log_before s log e)
    → ours ≡ end_of s.version (adopted_log s log e p) → theirs ≡ said_in p.cert → same_end ours theirs ≡ true → hashed ≡ strings_from s.version start.chain p.values → Adopt hashed ≡ adoption s w log e p
is-adopted s w log e p start ours theirs hashed shape cert hs ho ht same hh =
    let ends : same_end (end_of s.version (adopted_log s log e p)) (said_in p.cert) ≡ true =
    subst (λ (x : End). same_end x (said_in p.cert) ≡ true) ho (subst (λ (x : End). same_end ours x ≡ true) ht same) in
    let strings : hashed ≡ strings_from s.version (chain_of s.version (log_before s log e)) p.values = hh ∙ ap (λ (x : End). strings_from s.version x.chain p.values) hs in
    rw (shape, cert, ends, strings) refl

pub is-apart : (s : Setup) (w : Voters) (log : List Value) (e : ℕ) (p : Piece) (ours theirs : End) → has_shape s e p ≡ true → is_cert w p.cert ≡ true
    → ours ≡ end_of s.version (adopted_log s log e p) → theirs ≡ said_in p.cert → same_end ours theirs ≡ false → WrongChain ours theirs ≡ adoption s w log e p
is-apart s w log e p ours theirs shape cert ho ht same =
    let ends : same_end (end_of s.version (adopted_log s log e p)) (said_in p.cert) ≡ false =
    subst (λ (x : End). same_end x (said_in p.cert) ≡ false) ho (subst (λ (x : End). same_end ours x ≡ false) ht same) in
    rw (shape, cert, ends) (ap₂ (λ (a : End) (b : End). WrongChain a b) ho ht)
