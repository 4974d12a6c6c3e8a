-- A snapshot that is not too long has few elements: each takes a byte at least.
use Rattle.std.proofs.Common.{◌≡◌, inl, inr, ℕ, ◌-◌, ◌≤◌, ◌<◌, ◌^◌, true, List, [], ◌∷◌, ◌++◌, length, length-append, refl, sym, subst, arith, le_trans}
use Rattle.std.specs.Int.{to_be_bytes, w16, w32, w64}
use Rattle.std.specs.List.{flat_map, list_all}
use Rattle.std.proofs.lemmas.Bool.{lt-ltb}
use Rattle.iss_base.specs.Lists.{In}
use Rattle.iss_base.proofs.Lists.{both}
use Rattle.iss_checkpoint.specs.Bodies.{spell_vote}
use Rattle.iss_checkpoint.specs.Certificates.{spell_cert}
use Rattle.iss_checkpoint.specs.declared.votes.Cert.{Cert}
use Rattle.iss_checkpoint.specs.declared.votes.Vote.{Vote}
use Rattle.iss_journal.specs.Frames.{max_entry}
use Rattle.iss_request.specs.Formats.{HasSpelling, spell_request}
use Rattle.iss_request.specs.declared.requests.Request.{Request}
use Rattle.iss_request.proofs.ParserLemmas.{wide64}
use Rattle.iss_snapshot.specs.declared.snapshots.Snapshot.{Snapshot}
use Rattle.iss_snapshot.specs.Snapshots.{body_bytes, cert_entry, counted, fits, head_bytes, is_short, packet_entry, snapshot_row, spell_values, vote_entry}
use Rattle.iss_snapshot.proofs.SnapshotGrammar.{is-fitting}

-- ---- parts of a list of bytes

left-shorter : (a b : List ℕ) → length a ≤ length (a ++ b)
left-shorter a b = let n = length-append a b in omega (arith, n)

right-shorter : (a b : List ℕ) → length b ≤ length (a ++ b)
right-shorter a b = let n = length-append a b in omega (arith, n)

-- elements that take a byte each
flat-long : {A : Type 0} (spell : A → List ℕ) (xs : List A) → ((x : A) → In x xs → 1 ≤ length (spell x)) → length xs ≤ length (flat_map spell xs)
flat-long spell [] h = omega arith
flat-long spell (x ∷ xs) h =
    let n = length-append (spell x) (flat_map spell xs) in
    let first = h x (inl refl) in
    let others = flat-long spell xs (λ y i. h y (inr i)) in
    omega (arith, n, first, others)

-- each element's bytes are among them
module _ {A : Type 0} (spell : A → List ℕ) where
  flat-holds : (xs : List A) (x : A) → In x xs → length (spell x) ≤ length (flat_map spell xs)
  flat-holds [] x i = absurd i
  flat-holds (y ∷ ys) x (inl q) =
      subst (λ (z : A). length (spell z) ≤ length (flat_map spell (y ∷ ys))) (sym q) (left-shorter (spell y) (flat_map spell ys))
  flat-holds (y ∷ ys) x (inr i) = le_trans (flat-holds ys x i) (right-shorter (spell y) (flat_map spell ys))

-- ---- elements

request-long : (q : Request) → HasSpelling q → 1 ≤ length (spell_request q)
unfolding spell_request
request-long q h = rw h (omega arith)

cert-long : (c : Cert) → 1 ≤ length (cert_entry c)
cert-long c = let n = length-append (to_be_bytes w64 c.epoch.0) (spell_cert c) in let k = wide64.len c.epoch.0 in omega (arith, n, k)

vote-long : (v : Vote) → 1 ≤ length (vote_entry v)
vote-long v = let n = length-append (to_be_bytes w64 v.epoch.0) (v.by.0 ∷ spell_vote v) in let k = wide64.len v.epoch.0 in omega (arith, n, k)

packet-long : (x : List ℕ) → length x ≤ length (packet_entry x)
packet-long x = right-shorter (to_be_bytes w32 (length x)) x

-- ---- a snapshot

module _ (version : ℕ) (s : Snapshot) (short : length (snapshot_row version s) ≤ max_entry) where
  abbrev requests : List ℕ
  requests = counted w32 spell_request s.waiting

  abbrev certs : List ℕ
  certs = counted w32 cert_entry s.certs

  abbrev votes : List ℕ
  votes = counted w32 vote_entry s.votes

  abbrev packets : List ℕ
  packets = counted w16 packet_entry s.early

  body-short : length (body_bytes s) ≤ max_entry
  body-short =
      le_trans (right-shorter (flat_map (spell_values version) s.epochs) (body_bytes s))
      (le_trans (right-shorter (head_bytes s) (flat_map (spell_values version) s.epochs ++ body_bytes s)) short)

  rest-short : length (requests ++ (certs ++ (votes ++ packets))) ≤ max_entry
  rest-short = le_trans (right-shorter (to_be_bytes w32 s.leaf) (requests ++ (certs ++ (votes ++ packets)))) body-short

  requests-short : length (flat_map spell_request s.waiting) ≤ max_entry
  requests-short =
      le_trans (right-shorter (to_be_bytes w32 (length s.waiting)) (flat_map spell_request s.waiting)) (le_trans (left-shorter requests (certs ++ (votes ++ packets))) rest-short)

  behind-requests : length (certs ++ (votes ++ packets)) ≤ max_entry
  behind-requests = le_trans (right-shorter requests (certs ++ (votes ++ packets))) rest-short

  certs-short : length (flat_map cert_entry s.certs) ≤ max_entry
  certs-short = le_trans (right-shorter (to_be_bytes w32 (length s.certs)) (flat_map cert_entry s.certs)) (le_trans (left-shorter certs (votes ++ packets)) behind-requests)

  behind-certs : length (votes ++ packets) ≤ max_entry
  behind-certs = le_trans (right-shorter certs (votes ++ packets)) behind-requests

  votes-short : length (flat_map vote_entry s.votes) ≤ max_entry
  votes-short = le_trans (right-shorter (to_be_bytes w32 (length s.votes)) (flat_map vote_entry s.votes)) (le_trans (left-shorter votes packets) behind-certs)

  packets-short : length (flat_map packet_entry s.early) ≤ max_entry
  packets-short =
      le_trans (right-shorter (to_be_bytes w16 (length s.early)) (flat_map packet_entry s.early)) (le_trans (right-shorter votes packets) behind-certs)

  all-short : (xs : List (List ℕ)) → ((x : List ℕ) → In x xs → length x ≤ max_entry) → list_all is_short xs ≡ true
  all-short [] h = refl
  all-short (x ∷ xs) h =
      let n = h x (inl refl) in
      both (is_short x) (list_all is_short xs) (lt-ltb (length x) (2 ^ 32) (omega (arith, n))) (all-short xs (λ y i. h y (inr i)))

  -- what is left to ask: that it goes on by its epochs, that its requests can be encoded, and that few packets are there
  pub short-fits : s.from.0 < s.to.0 → length s.epochs ≡ s.to.0 - s.from.0 → ((q : Request) → In q s.waiting → HasSpelling q) → length s.early ≤ 256 → fits s ≡ true
  short-fits above count spelled few =
      let a = flat-long spell_request s.waiting (λ q i. request-long q (spelled q i)) in
      let b = flat-long cert_entry s.certs (λ c i. cert-long c) in
      let c = flat-long vote_entry s.votes (λ v i. vote-long v) in
      is-fitting s (record {
        above = above;
        count = count;
        waiting = let n = requests-short in omega (arith, a, n);
        certs = let n = certs-short in omega (arith, b, n);
        votes = let n = votes-short in omega (arith, c, n);
        early = omega (arith, few);
        short = all-short s.early (λ x i. le_trans (packet-long x) (le_trans (flat-holds packet_entry s.early x i) packets-short));
      })
