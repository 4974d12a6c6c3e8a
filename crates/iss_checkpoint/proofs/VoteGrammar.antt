-- A vote has at most one encoding, and bytes decode to a vote exactly if the table relates them.
use Rattle.std.proofs.Common.{◌≡◌, ◌↔◌, inl, inr, ℕ, ◌<◌, ◌^◌, ◌==◌, ◌&&◌, Bool, true, false, List, [], ◌∷◌, ◌++◌, length, replicate, append_assoc, append-nil, refl, sym, ap, ◌∙◌, subst, ◌⊎◌, arith}
use Rattle.std.specs.Prelude.{nat_lt}
use Rattle.std.specs.Int.{to_be_bytes, w64}
use Rattle.std.proofs.lemmas.Bool.{lt-ltb, ltb-true}
use Rattle.std.proofs.lemmas.Bool.Decides.{Decides-eqb}
use Rattle.iss_base.proofs.Lists.{and-true, both}
use Rattle.iss_request.specs.Fields.{Good, IsBad, IsReadAgain}
use Rattle.iss_base.specs.Heights.{is_height}
use Rattle.iss_request.specs.Formats.{is_signature, parse_signature}
use Rattle.iss_request.specs.Parsing.{Parser, ◌>>=◌, block, byte, done, number, such_that}
use Rattle.iss_request.proofs.OneSpelling.{done_good, signature_again, signature_parts}
use Rattle.iss_request.proofs.ParserLemmas.{block_again, block_parts, byte_again, done_parts, first_bad, number_again, number_parts, test_failed, then_bad, then_good, then_parts, wide64}
use Rattle.iss_checkpoint.specs.declared.votes.Vote.{Vote}
use Rattle.iss_checkpoint.specs.Bodies.{IsSpelledVote, fits, no_vote, parse_vote, spell_vote, vote_row}

abbrev pub make : ℕ → ℕ → List ℕ → ℕ → List ℕ → Vote
make by e chain requests sig = record { epoch = record { 0 = e }; chain = chain; requests = requests; by = record { 0 = by }; sig = sig }

abbrev pub after_count : ℕ → ℕ → List ℕ → ℕ → Parser Vote
after_count by e chain requests = parse_signature >>= λ sig. done (make by e chain requests sig)

abbrev pub after_chain : ℕ → ℕ → List ℕ → Parser Vote
after_chain by e chain = number w64 >>= after_count by e chain

parse_vote-is : (by e : ℕ) → parse_vote by e ≡ (block 32 >>= after_chain by e)
unfolding parse_vote
parse_vote-is by e = refl

-- ---- what fits decodes again, whatever follows

row-again : (v : Vote) (rest : List ℕ) → length v.chain ≡ 32 → v.requests < 2 ^ 64 → is_signature v.sig ≡ true → parse_vote v.by.0 v.epoch.0 (vote_row v ++ rest) ≡ Good v rest
row-again v rest long low shape =
    let by = v.by.0 in
    let e = v.epoch.0 in
    let count = to_be_bytes w64 v.requests in
    let last = then_good parse_signature (λ sig. done (make by e v.chain v.requests sig)) (v.sig ++ rest) rest rest v.sig v (signature_again v.sig rest shape) (done_good v rest) in
    let second = then_good (number w64) (after_count by e v.chain) (count ++ (v.sig ++ rest)) (v.sig ++ rest) rest v.requests v (number_again w64 (2 ^ 64) wide64 v.requests (v.sig ++ rest) low) last in
    let first = then_good (block 32) (after_chain by e) (v.chain ++ (count ++ (v.sig ++ rest))) (count ++ (v.sig ++ rest)) rest v.chain v (block_again v.chain (count ++ (v.sig ++ rest)) 32 long) second in
    let flat : vote_row v ++ rest ≡ v.chain ++ (count ++ (v.sig ++ rest)) = append_assoc v.chain (count ++ v.sig) rest ∙ ap (λ (x : List ℕ). v.chain ++ x) (append_assoc count v.sig rest) in
    ap (λ (x : List ℕ). parse_vote by e x) flat ∙ ap (λ (p : Parser Vote). p (v.chain ++ (count ++ (v.sig ++ rest)))) (parse_vote-is by e) ∙ first

-- ---- no signature begins with a byte that is not a height

pub low-never : (h : ℕ) → is_height h ≡ false → (rest : List ℕ) → IsBad (parse_signature (h ∷ rest))
unfolding parse_signature
low-never h low rest = (0, first_bad (such_that is_height byte) _ (h ∷ rest) 0 (test_failed is_height byte (h ∷ rest) rest h (byte_again h rest) low))

never : (by e : ℕ) (rest : List ℕ) → IsBad (parse_vote by e (no_vote ++ rest))
never by e rest =
    let chain : List ℕ = replicate 32 0 in
    let count : List ℕ = to_be_bytes w64 0 in
    let k = low-never 0 refl rest in
    let last = first_bad parse_signature (λ sig. done (make by e chain 0 sig)) (0 ∷ rest) k.0 k.1 in
    let second = then_bad (number w64) (after_count by e chain) (count ++ (0 ∷ rest)) (0 ∷ rest) 0 k.0 (number_again w64 (2 ^ 64) wide64 0 (0 ∷ rest) (omega arith)) last in
    let first = then_bad (block 32) (after_chain by e) (chain ++ (count ++ (0 ∷ rest))) (count ++ (0 ∷ rest)) chain _ (block_again chain (count ++ (0 ∷ rest)) 32 refl) second in
    (_, ap (λ (p : Parser Vote). p (no_vote ++ rest)) (parse_vote-is by e) ∙ first)

-- ---- what decodes

record WasRead (by e : ℕ) (bytes rest : List ℕ) (v : Vote) : Type 0 where
  own : v.by.0 ≡ by
  epoch : v.epoch.0 ≡ e
  long : length v.chain ≡ 32
  low : v.requests < 2 ^ 64
  shape : is_signature v.sig ≡ true
  parts : bytes ≡ vote_row v ++ rest

was-read : (by e : ℕ) (bytes rest : List ℕ) (v : Vote) → parse_vote by e bytes ≡ Good v rest → WasRead by e bytes rest v
was-read by e bytes rest v h =
    let a = then_parts (block 32) (after_chain by e) bytes rest v (rw (parse_vote-is by e) at h) in
    let n = then_parts (number w64) (after_count by e a.thing) a.mid rest v a.second in
    let s = then_parts parse_signature (λ sig. done (make by e a.thing n.thing sig)) n.mid rest v n.second in
    let d = done_parts (make by e a.thing n.thing s.thing) v s.mid rest s.second in
    let chain = block_parts 32 bytes a.mid a.thing a.first in
    let count = number_parts w64 (2 ^ 64) wide64 a.mid n.mid n.thing n.first in
    let sig = signature_parts n.mid s.mid s.thing s.first in
    let behind : n.mid ≡ s.thing ++ rest = sig.parts ∙ ap (λ (x : List ℕ). s.thing ++ x) d.1 in
    let flat : bytes ≡ (a.thing ++ (to_be_bytes w64 n.thing ++ s.thing)) ++ rest = chain.parts ∙ ap (λ (x : List ℕ). a.thing ++ x) (count.parts ∙ ap (λ (x : List ℕ). to_be_bytes w64 n.thing ++ x) behind)
    ∙ sym (append_assoc a.thing (to_be_bytes w64 n.thing ++ s.thing) rest ∙ ap (λ (x : List ℕ). a.thing ++ x) (append_assoc (to_be_bytes w64 n.thing) s.thing rest)) in
    subst (λ (z : Vote). WasRead by e bytes rest z) d.0 (record { own = refl; epoch = refl; long = chain.len; low = count.below; shape = sig.shape; parts = flat })

fits-true : (v : Vote) → length v.chain ≡ 32 → v.requests < 2 ^ 64 → is_signature v.sig ≡ true → fits v ≡ true
fits-true v long low shape = both (length v.chain == 32) (nat_lt v.requests (2 ^ 64) && is_signature v.sig) ((Decides-eqb (length v.chain) 32).1 long) (both (nat_lt v.requests (2 ^ 64)) (is_signature v.sig) (lt-ltb v.requests (2 ^ 64) low) shape)

-- ---- the grammar, and the table

pub vote-only : (by e : ℕ) (bytes rest : List ℕ) (v : Vote) → parse_vote by e bytes ≡ Good v rest → bytes ≡ spell_vote v ++ rest
vote-only by e bytes rest v h =
    let r = was-read by e bytes rest v h in
    let t = fits-true v r.long r.low r.shape in
    rw t r.parts

pub vote-whole : (v : Vote) → IsReadAgain spell_vote (parse_vote v.by.0 v.epoch.0) v ⊎ ((rest : List ℕ) → IsBad (parse_vote v.by.0 v.epoch.0 (spell_vote v ++ rest)))
vote-whole v = go (fits v) refl
  where
    go : (b : Bool) → fits v ≡ b → IsReadAgain spell_vote (parse_vote v.by.0 v.epoch.0) v ⊎ ((rest : List ℕ) → IsBad (parse_vote v.by.0 v.epoch.0 (spell_vote v ++ rest)))
    go true q =
        let a = and-true (length v.chain == 32) (nat_lt v.requests (2 ^ 64) && is_signature v.sig) q in
        let b = and-true (nat_lt v.requests (2 ^ 64)) (is_signature v.sig) a.1 in
        inl (λ rest. rw q (row-again v rest ((Decides-eqb (length v.chain) 32).0 a.0) (ltb-true v.requests (2 ^ 64) b.0) b.1))
    go false q = inr (λ rest. rw q (never v.by.0 v.epoch.0 rest))

pub vote-table : (by e : ℕ) (v : Vote) (bytes : List ℕ) → (parse_vote by e bytes ≡ Good v []) ↔ IsSpelledVote by e v bytes
vote-table by e v bytes = (
  λ h. let r = was-read by e bytes [] v h in
      record { own = r.own; epoch = r.epoch; chain_fits = r.long; count_fits = r.low; signed = r.shape; row = r.parts ∙ append-nil (vote_row v) },
  λ s. let again = row-again v [] s.chain_fits s.count_fits s.signed in
      ap (λ (x : List ℕ). parse_vote by e x) (s.row ∙ sym (append-nil (vote_row v))) ∙ subst (λ (k : ℕ). parse_vote k e (vote_row v ++ []) ≡ Good v []) s.own (subst (λ (k : ℕ). parse_vote v.by.0 k (vote_row v ++ []) ≡ Good v []) s.epoch again),
)
