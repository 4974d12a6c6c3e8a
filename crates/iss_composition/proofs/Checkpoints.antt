-- The scheme of a set-up is exact: values and links are encoded injectively, and each quorum has a correct node.
use Rattle.std.proofs.Common.{◌≡◌, inl, inr, ℕ, suc, ◌≤◌, Bool, true, false, ◌&&◌, ◌||◌, not, eqb, leb, List, [], ◌∷◌, ◌++◌, length, append-nil, refl, sym, ap, ◌∙◌, subst, arith, true≢false}
use Rattle.std.specs.Prelude.{nat_lt}
use Rattle.std.proofs.lemmas.Bool.Decides.{leb_tells}
use Rattle.sha2.proofs.Facts256.{length-sha256}
use Rattle.iss_base.specs.Lists.{In}
use Rattle.iss_base.specs.Quorum.{all_below, distinct, mem}
use Rattle.iss_base.proofs.Lists.{and-true, both, ends-same, is-eq, not-true}
use Rattle.iss_base.proofs.Quorum.{count-distinct, count-length, count-less, count-some}
use Rattle.iss_request.specs.Digest.{digest}
use Rattle.iss_request.specs.Fields.{Good, IsBad, Parsed}
use Rattle.iss_request.specs.Formats.{parse_value, spell_value}
use Rattle.iss_request.specs.Setup.{IsGoodSetup}
use Rattle.iss_request.specs.declared.ids.NodeId.{NodeId}
use Rattle.iss_request.specs.declared.requests.Value.{Value}
use Rattle.iss_request.specs.declared.setups.Setup.{Setup}
use Rattle.iss_request.proofs.OneSpelling.{value_grammar}
use Rattle.iss_sb.specs.Evidence.{Module, Separate, has_node, is_correct}
use Rattle.iss_sb.specs.Laws.{IsLawful, IsSafe}
use Rattle.iss_composition.specs.Checkpoints.{is_good, scheme_of}
use Rattle.iss_composition.specs.Cluster.{Cluster, Reach}
use Rattle.iss_composition.specs.Ordered.{Among, AreChained, IsExact, Ordered}
use Rattle.iss_rules.specs.SoundRules.{IsSoundRules}
use Rattle.iss_rules.specs.Past.{before_at, epoch_at, leader_at}
use Rattle.iss_rules.specs.Rules.{Rules}
use Rattle.iss_composition.proofs.Reached.{composition}
use Rattle.iss_checkpoint.proofs.SignedLemmas.{fewer}
use Rattle.iss_transfer.proofs.AdoptionLemmas.{good-same, tail-same}

bad-good : (r : Parsed Value) → IsBad r → is_good r ≡ true → ⊥
bad-good r b h = absurd (true≢false (sym h ∙ ap (λ (t : Parsed Value). is_good t) b.1))

-- a value that is encoded decodes again
read-back : (version : ℕ) (v : Value) → is_good (parse_value version (spell_value version v)) ≡ true → parse_value version (spell_value version v) ≡ Good v []
read-back version v h =
    let bytes = spell_value version v in
    let flat : bytes ++ [] ≡ bytes = append-nil bytes in
    elim ((value_grammar version).whole v) [
      | inl k ↦ ap (λ (t : List ℕ). parse_value version t) (sym flat) ∙ k []
      | inr k ↦ absurd (bad-good (parse_value version bytes) (subst (λ (t : List ℕ). IsBad (parse_value version t)) flat (k [])) h)
    ]

digest-length : (x : List ℕ) → length (digest x) ≡ 32
digest-length [] = refl
digest-length (b ∷ bs) = length-sha256 (b ∷ bs)

pub are-chained : (s : Setup) → AreChained (scheme_of s)
are-chained s = record {
  values = λ v u sv su h.
      let same : spell_value s.version v ≡ spell_value s.version u = tail-same 64 (spell_value s.version v) (spell_value s.version u) h in
      good-same v u [] [] (sym (read-back s.version v sv) ∙ ap (λ (t : List ℕ). parse_value s.version t) same ∙ read-back s.version u su);
  links = λ a b c d h. ends-same (digest a) (digest c) (digest b) (digest d) (digest-length a ∙ sym (digest-length c))
      (tail-same 66 (digest a ++ digest b) (digest c ++ digest d) h);
  some_link = λ a b h. cc;
}

numbers : List NodeId → List ℕ
numbers [] = []
numbers (k ∷ ks) = k.0 ∷ numbers ks

numbers-length : (ks : List NodeId) → length (numbers ks) ≡ length ks
unfolding numbers
numbers-length [] = refl
numbers-length (k ∷ ks) = ap (λ (n : ℕ). suc n) (numbers-length ks)

has-mem : (i : ℕ) (ks : List NodeId) → has_node i ks ≡ mem i (numbers ks)
unfolding numbers
has-mem i [] = refl
has-mem i (k ∷ ks) = ap (λ (b : Bool). eqb i k.0 || b) (has-mem i ks)

mem-in : (k : ℕ) (xs : List ℕ) → mem k xs ≡ true → In k xs
mem-in k [] h = absurd (true≢false (sym h))
mem-in k (x ∷ xs) h = go (eqb k x) refl h (mem-in k xs)
  where
    go : (b : Bool) → eqb k x ≡ b → (b || mem k xs) ≡ true → (mem k xs ≡ true → In k xs) → In k (x ∷ xs)
    go true q r ih = inl (is-eq k x q)
    go false q r ih = inr (ih r)

pub quorums : (s : Setup) → IsGoodSetup s → (ks : List ℕ) → (scheme_of s).is_quorum ks ≡ true → (k : ℕ) × In k ks × (is_correct s k ≡ true)
quorums s good ks h =
    let a = and-true (all_below s.n ks) (distinct ks && leb s.quorum (length ks)) h in
    let b = and-true (distinct ks) (leb s.quorum (length ks)) a.1 in
    let long : s.quorum ≤ length ks = elim (leb_tells s.quorum (length ks)) [ inl t ↦ t.1 | inr t ↦ absurd (true≢false (sym b.1 ∙ t.0)) ] in
    let bad = numbers s.faulty in
    let all = count-distinct s.n ks a.0 b.0 in
    let less = count-less (λ k. mem k ks) (λ k. mem k bad) s.n in
    let some = count-length s.n bad in
    let r = count-some (λ k. mem k ks && not (mem k bad)) s.n (omega (arith, long, all, less, some, numbers-length s.faulty, fewer s good)) in
    let t = and-true (mem r.0 ks) (not (mem r.0 bad)) r.2 in
    let low : nat_lt r.0 s.n ≡ true = elim (leb_tells (suc r.0) s.n) [ inl y ↦ y.0 | inr y ↦ absurd (omega (arith, y.1, r.1)) ] in
    let not_bad : has_node r.0 s.faulty ≡ false = has-mem r.0 s.faulty ∙ not-true (mem r.0 bad) t.1 in
    (r.0, mem-in r.0 ks t.0, both (nat_lt r.0 s.n) (not (has_node r.0 s.faulty)) low (rw not_bad refl))

-- for every book
pub exact-of : {Msg : Type 0} (s : Setup) → IsGoodSetup s → (w : Cluster Msg) → IsExact s (scheme_of s) w
exact-of s good w = record { chained = λ x e a q h is. are-chained s; quorums = quorums s good }

-- so of a cluster with this chaining and these votes nothing is assumed but that its strings do not collide
pub composition-whole : {Msg : Type 0} (s : Setup) (R : Rules) (M : Module Msg) → IsSafe M → IsLawful M → IsSoundRules s M R → (w : Cluster Msg) →
    Separate (Among w.strings) → Reach s (scheme_of s) R M w → Ordered s R M w.pasts
composition-whole s R M safe law sound w sep r =
    let good : IsGoodSetup s =
    subst (λ (t : Setup). IsGoodSetup t) (sound.setup (before_at R []) (epoch_at R []) (leader_at R []))
    (sound.good (before_at R []) (epoch_at R []) (leader_at R []) (sound.leads [])).setup in
    composition s (scheme_of s) R M safe law sound w (exact-of s good w) sep r
