-- The snapshot of a storable core has an encoding, if what the core holds has one and the snapshot is not too long.
use Rattle.std.proofs.Common.{◌≡◌, inl, inr, ℕ, zero, suc, ◌+◌, ◌-◌, ◌≤◌, ◌<◌, ◌^◌, Bool, true, false, cond, eqb, List, [], ◌∷◌, length, reverse, Option, Some, None, refl, sym, ap, ◌∙◌, subst, arith, le_trans}
use Rattle.std.specs.Prelude.{take}
use Rattle.std.specs.List.{AllByRecursion, filter}
use Rattle.std.proofs.lemmas.List.{reverse-append}
use Rattle.iss_base.specs.Lists.{Extends, In}
use Rattle.iss_base.proofs.Lists.{in_append, in_right, length-over, none-some, oldest-part, some-injective}
use Rattle.iss_checkpoint.specs.declared.votes.Cert.{Cert}
use Rattle.iss_checkpoint.specs.declared.votes.Vote.{Vote}
use Rattle.iss_journal.specs.Frames.{max_entry}
use Rattle.iss_request.specs.Fields.{IsReadAgain}
use Rattle.iss_request.specs.Formats.{HasSpelling, parse_request, parse_value, request_bytes, spell_request, spell_value}
use Rattle.iss_request.specs.declared.requests.Request.{Request}
use Rattle.iss_request.specs.declared.requests.Value.{Value}
use Rattle.iss_request.proofs.OneSpelling.{request_grammar, request_related}
use Rattle.iss_sb.proofs.Read.{read-again}
use Rattle.iss_rules.specs.Past.{Past, cut_at, log_of, start_of}
use Rattle.iss_rules.specs.Votes.{cert_on, is_open}
use Rattle.iss_rules.proofs.Ending.{HasSlots}
use Rattle.iss_rules.proofs.Epochs.{length-cut, start-mono}
use Rattle.iss_model.specs.Frames.{Frame}
use Rattle.iss_model.specs.Node.{Core, Early, joined, values_of}
use Rattle.iss_snapshot.specs.declared.snapshots.Snapshot.{Snapshot}
use Rattle.iss_snapshot.specs.Snapshots.{AreEpochs, IsCertEntry, IsEncodable, IsVoteEntry, snapshot_row}
use Rattle.iss_rebuilt.specs.Reading.{Rebuilt}
use Rattle.iss_rebuilt.specs.Storable.{IsBehind, IsStorable}
use Rattle.iss_rebuilt.specs.Stored.{epochs_of, new_cert, new_certs, packets_of, snapshot_of}
use Rattle.iss_rebuilt.proofs.Pieced.{epoch-over, log-is}
use Rattle.iss_rebuilt.proofs.Sizes.{short-fits}

all-in : {A : Type 0} (Q : A → Type 0) (xs : List A) → ((x : A) → In x xs → Q x) → AllByRecursion Q xs
all-in Q [] h = tt
all-in Q (x ∷ xs) h = (h x (inl refl), all-in Q xs (λ y i. h y (inr i)))

in-turned : {A : Type 0} (x : A) (xs : List A) → In x (reverse xs) → In x xs
in-turned x [] h = h
in-turned x (y ∷ ys) h = elim (in_append x (reverse ys) (y ∷ []) (subst (λ (t : List _). In x t) (reverse-append (y ∷ []) ys) h)) [
  | inl a ↦ inr (in-turned x ys a)
  | inr b ↦ elim b [ inl e ↦ inl e | inr n ↦ absurd n ]
]

take-in : {A : Type 0} (n : ℕ) (x : A) (xs : List A) → In x (take n xs) → In x xs
take-in zero x xs h = absurd h
take-in (suc n) x [] h = absurd h
take-in (suc n) x (y ∷ xs) (inl e) = inl e
take-in (suc n) x (y ∷ xs) (inr h) = inr (take-in n x xs h)

part-in : {A : Type 0} (x : A) (a b : List A) → Extends a b → In x a → In x b
part-in x a b e h = subst (λ (t : List _). In x t) (sym e.1) (in_right x e.0 a h)

filter-in : (p : Vote → Bool) (vs : List Vote) (v : Vote) → In v (filter p vs) → In v vs
filter-in p [] v h = absurd h
filter-in p (w ∷ ws) v h = go (p w) h (λ i. filter-in p ws v i)
  where
    go : (b : Bool) → In v (cond b (w ∷ filter p ws) (filter p ws)) → (In v (filter p ws) → In v ws) → In v (w ∷ ws)
    go true (inl e) ih = inl e
    go true (inr i) ih = inr (ih i)
    go false i ih = inr (ih i)

cert-in : (certs : List Cert) (e : ℕ) (c : Cert) → cert_on certs e ≡ Some c → In c certs
cert-in [] e c h = absurd (none-some c h)
cert-in (x ∷ xs) e c h = go (eqb x.epoch.0 e) h (λ k. cert-in xs e c k)
  where
    go : (b : Bool) → cond b (Some x) (cert_on xs e) ≡ Some c → (cert_on xs e ≡ Some c → In c xs) → In c (x ∷ xs)
    go true k ih = inl (sym (some-injective x c k))
    go false k ih = inr (ih k)

new-in : (held : ℕ → Bool) (certs : List Cert) (es : List ℕ) (c : Cert) → In c (new_certs held certs es) → In c certs
new-in held certs [] c h = absurd h
new-in held certs (e ∷ es) c h = elim (in_append c (new_cert held e (cert_on certs e)) (new_certs held certs es) h) [
  | inl a ↦ found (cert_on certs e) refl a
  | inr b ↦ new-in held certs es c b
]
  where
    found : (o : Option Cert) → cert_on certs e ≡ o → In c (new_cert held e o) → In c certs
    found None q i = absurd i
    found (Some x) q i = go (held e) i
      where
        go : (b : Bool) → In c (cond b [] (x ∷ [])) → In c certs
        go true j = absurd j
        go false (inl j) = subst (λ (z : Cert). In z certs) (sym j) (cert-in certs e x q)
        go false (inr j) = absurd j

request-read : (q : Request) → HasSpelling q → IsReadAgain spell_request parse_request q
request-read q h = read-again spell_request parse_request request_grammar (request_bytes q) [] q ((request_related q (request_bytes q)).1 (h, refl))

packets-count : {Msg : Type 0} (W : Frame Msg) (e : ℕ) (xs : List (Early Msg)) → length (packets_of W e xs) ≡ length xs
packets-count W e [] = refl
packets-count W e (x ∷ xs) = ap (λ (n : ℕ). suc n) (packets-count W e xs)

epochs-count : {Msg : Type 0} (W : Frame Msg) (log : List Value) (e k : ℕ) → length (epochs_of W log e k) ≡ k
epochs-count W log e zero = refl
epochs-count W log e (suc k) = ap (λ (n : ℕ). suc n) (epochs-count W log (suc e) k)

-- ---- the epochs of a log

module _ {Msg : Type 0} (W : Frame Msg) (slots : HasSlots W.rules) (me : ℕ) (log : List Value) (n : ℕ) (far : start_of W.rules log n ≤ length log)
    (read : (v : Value) → In v log → IsReadAgain (spell_value W.setup.version) (parse_value W.setup.version) v) where
  value-in : (e : ℕ) (v : Value) → In v (values_of W.rules log e) → In v log
  value-in e v h =
      let top = cut_at W.rules log (suc e) in
      let k = in-turned v (joined (length (cut_at W.rules log e)) top) h in
      part-in v top log (oldest-part (start_of W.rules log (suc e)) log) (take-in (length top - length (cut_at W.rules log e)) v top k)

  epochs-are : (k e : ℕ) → e + k ≤ n → AreEpochs W.setup.version W.rules.slots e (cut_at W.rules log e) (epochs_of W log e k)
  epochs-are zero e le = tt
  epochs-are (suc k) e le =
      let lt : e < n = omega (arith, le) in
      let whole = epoch-over W slots me log n far e lt in
      let low = length-cut W.rules log e (le_trans (start-mono W.rules log e n (omega (arith, lt))) far) in
      let high = length-cut W.rules log (suc e) (le_trans (start-mono W.rules log (suc e) n (omega (arith, lt))) far) in
      let sum : length (cut_at W.rules log (suc e)) ≡ length (values_of W.rules log e) + length (cut_at W.rules log e) =
      ap (λ (t : List Value). length t) (sym whole) ∙ length-over (values_of W.rules log e) (cut_at W.rules log e) in
      let next : start_of W.rules log (suc e) ≡ start_of W.rules log e + W.rules.slots (cut_at W.rules log e) e = refl in (
        omega (arith, low, high, sum, next),
        all-in (λ v. IsReadAgain (spell_value W.setup.version) (parse_value W.setup.version) v) (values_of W.rules log e) (λ v i. read v (value-in e v i)),
        subst (λ (t : List Value). AreEpochs W.setup.version W.rules.slots (suc e) t (epochs_of W log (suc e) k)) (sym whole) (epochs-are k (suc e) (omega (arith, le))),
      )

-- ---- the snapshot

module _ {Msg : Type 0} (W : Frame Msg) (slots : HasSlots W.rules) (me : ℕ) (r : Rebuilt Msg) (d : Core Msg) (h : IsStorable W me d) (b : IsBehind W me r d) where
  abbrev log : List Value
  log = log_of W.rules W.spec me d.past

  abbrev from : ℕ
  from = r.saved.from

  abbrev snap : Snapshot
  snap = snapshot_of W me r.saved d

  -- what the core holds can be encoded, and its snapshot is not too long
  pub record IsWritable : Type 0 where
    pub onward : r.saved.from < d.past.epoch
    pub epoch : d.past.epoch < 2 ^ 64
    pub values : (v : Value) → In v log → IsReadAgain (spell_value W.setup.version) (parse_value W.setup.version) v
    pub leaf : d.leaf < 2 ^ 32
    pub requests : (q : Request) → In q d.waiting → HasSpelling q
    pub certs : (x : Cert) → In x d.certs → IsCertEntry x
    pub votes : (v : Vote) → In v d.votes → IsVoteEntry v
    pub short : length (snapshot_row W.setup.version snap) ≤ max_entry

  before-is : log_of W.rules W.spec me r.core.past ≡ cut_at W.rules log from
  before-is =
      ap (λ (x : Past Msg). log_of W.rules W.spec me x) b.past
      ∙ log-is W slots me log from (le_trans (start-mono W.rules log from d.past.epoch b.low) h.placed.reached)

  module _ (p : IsWritable) where
    pub snapshot-fits : IsEncodable W.setup.version W.rules.slots (log_of W.rules W.spec me r.core.past) snap
    snapshot-fits = record {
      from_fits = let l = p.onward in let m = p.epoch in omega (arith, l, m);
      to_fits = p.epoch;
      leaf_fits = p.leaf;
      fitting = short-fits W.setup.version snap p.short p.onward (epochs-count W log from (d.past.epoch - from)) p.requests
          (let n = packets-count W d.past.epoch d.early in let few = h.few in omega (arith, n, few));
      epochs = subst (λ (t : List Value). AreEpochs W.setup.version W.rules.slots from t snap.epochs) (sym before-is)
          (epochs-are W slots me log d.past.epoch h.placed.reached p.values (d.past.epoch - from) from (let l = b.low in omega (arith, l)));
      waiting = all-in (λ q. IsReadAgain spell_request parse_request q) d.waiting (λ q i. request-read q (p.requests q i));
      certs = all-in IsCertEntry snap.certs (λ x i. p.certs x (new-in r.saved.held d.certs _ x i));
      votes = all-in IsVoteEntry snap.votes (λ v i. p.votes v (filter-in (is_open d.certs) d.votes v (in-turned v (filter (is_open d.certs) d.votes) i)));
    }
