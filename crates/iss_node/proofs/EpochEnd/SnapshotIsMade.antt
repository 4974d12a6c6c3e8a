-- The snapshot of a node is that of each core that its state refines.
use Rattle.std.proofs.Common.{arith, inl, inr, ◌≡◌, ℕ, zero, suc, ◌+◌, ◌-◌, ◌*◌, ◌<◌, ◌≤◌, ◌||◌, Bool, true, cond, List, [], ◌∷◌, ◌++◌, Option, None, Some, drop, get_or, length, reverse, take, refl, sym, ap, ◌∙◌, subst, add-one}
use Rattle.std.proofs.Math.Nat.{mul-le-mul_left, mul_comm}
use Rattle.std.proofs.Math.Seq.{take-suc}
use Rattle.std.proofs.lemmas.Bool.{le-leb}
use Rattle.std.proofs.lemmas.Bool.Decides.{leb_tells}
use Rattle.std.proofs.lemmas.List.{append-nil}
use Rattle.iss_base.specs.Lists.{below}
use Rattle.iss_ballots.specs.Ballots.{AreKept}
use Rattle.iss_checkpoint.specs.declared.votes.Cert.{Cert}
use Rattle.iss_checkpoint.specs.declared.votes.Vote.{Vote}
use Rattle.iss_model.specs.Frames.{Frame, frame_of}
use Rattle.iss_model.specs.Node.{values_of}
use Rattle.iss_node.proofs.StateTransfer.HandOutRefines.{some-held, values-are}
use Rattle.iss_node.specs.Internal.Storing.{and_new_cert, epochs_to}
use Rattle.iss_node.specs.Internal.Transfers.{held_values}
use Rattle.iss_node.specs.Saved.{SavedState, holds, stray}
use Rattle.iss_node.specs.Entered.{saved_by}
use Rattle.iss_node.specs.State.{RefinesPast, StateView, core_of, holding, seen_early, seen_one}
use Rattle.iss_node.specs.declared.answers.Early.{Early}
use Rattle.iss_rebuilt.specs.Stored.{early_parcel, epochs_of, new_cert, new_certs, packets_of}
use Rattle.iss_request.specs.declared.requests.Value.{Value}
use Rattle.iss_request.specs.declared.setups.Setup.{Setup}
use Rattle.iss_rules.specs.Concrete.{rules_of}
use Rattle.iss_rules.specs.Past.{Past, log_of}
use Rattle.iss_snapshot.specs.declared.snapshots.Snapshot.{Snapshot}
use Rattle.iss_rules.specs.Votes.{cert_on}
use Rattle.iss_sb.specs.Evidence.{Item, Module}
use Rattle.iss_sb.specs.declared.effects.Params.{Params}

-- ---- the values

abbrev part : ℕ → List Value → ℕ → List Value
part size log e = drop (e * size) (take (suc e * size) log)

pub epochs-more : (size : ℕ) (log : List Value) (e n k : ℕ) → k ≡ e + n → epochs_to size log e (suc n) ≡ epochs_to size log e n ++ part size log k ∷ []
epochs-more size log e zero k q =
    let same : e ≡ k = omega (arith, q) in
    ap (λ (j : ℕ). part size log j ∷ []) same
epochs-more size log e (suc n) k q = ap (λ (xs : List (List Value)). part size log e ∷ xs) (epochs-more size log (suc e) n k (omega (arith, q)))

-- The model has the log newest first.
pub epochs-are : {Msg : Type 0} (s : Setup) (m : Module Msg) (entries : List Value) (e n : ℕ) → (e + n) * s.epoch ≤ length entries → epochs_to s.epoch entries e n ≡ epochs_of (frame_of s m) (reverse entries) e n
epochs-are s m entries e zero le = refl
epochs-are s m entries e (suc n) le =
    let first : suc e * s.epoch ≤ (e + suc n) * s.epoch = up (suc e) (e + suc n) (omega arith) in
    let there : suc e * s.epoch ≤ length entries = omega (arith, first, le) in
    let same : suc e + n ≡ e + suc n = omega arith in
    ap (λ (xs : List Value). xs ∷ epochs_to s.epoch entries (suc e) n) (sym (values-are s entries e there))
    ∙ ap (λ (xs : List (List Value)). values_of (frame_of s m).rules (reverse entries) e ∷ xs)
    (epochs-are s m entries (suc e) n (subst (λ (k : ℕ). k * s.epoch ≤ length entries) (sym same) le))
  where
    up : (a b : ℕ) → a ≤ b → a * s.epoch ≤ b * s.epoch
    up a b h = let l = mul-le-mul_left s.epoch h in let p = mul_comm s.epoch a in let q = mul_comm s.epoch b in omega (arith, l, p, q)

-- The values of one epoch more.
pub epochs-next : {M Msg : Type 0} (v : StateView M Msg) (from e : ℕ) (found next : List (List Value)) (values : List Value) → from ≤ e → found ≡ epochs_to v.setup.epoch v.log.entries from (e - from) →
    Some values ≡ held_values v e → next ≡ found ++ values ∷ [] → next ≡ epochs_to v.setup.epoch v.log.entries from (e + 1 - from)
epochs-next v from e found next values low is held more =
    let one : values ≡ part v.setup.epoch v.log.entries e = (some-held _ _ _ held).1 in
    let last : e ≡ from + (e - from) = omega (arith, low) in
    let count : suc (e - from) ≡ e + 1 - from = omega (arith, low) in
    more
    ∙ (ap (λ (xs : List Value). found ++ xs ∷ []) one
    ∙ (ap (λ (xs : List (List Value)). xs ++ part v.setup.epoch v.log.entries e ∷ []) is
    ∙ (sym (epochs-more v.setup.epoch v.log.entries from (e - from) e last)
    ∙ ap (λ (n : ℕ). epochs_to v.setup.epoch v.log.entries from n) count)))

-- ---- the certificates

certs-append : (held : ℕ → Bool) (certs : List Cert) (es fs : List ℕ) → new_certs held certs (es ++ fs) ≡ new_certs held certs es ++ new_certs held certs fs
certs-append held certs [] fs = refl
certs-append held certs (e ∷ es) fs =
    ap (λ (xs : List Cert). new_cert held e (cert_on certs e) ++ xs) (certs-append held certs es fs)
    ∙ sym (assoc (new_cert held e (cert_on certs e)) (new_certs held certs es) (new_certs held certs fs))
  where
    assoc : (xs ys zs : List Cert) → (xs ++ ys) ++ zs ≡ xs ++ (ys ++ zs)
    assoc [] ys zs = refl
    assoc (x ∷ xs) ys zs = ap (λ (us : List Cert). x ∷ us) (assoc xs ys zs)

-- What an earlier snapshot has is passed over.
none-new : (held : ℕ → Bool) (e : ℕ) (o : Option Cert) → held e ≡ true → new_cert held e o ≡ []
none-new held e None h = refl
none-new held e (Some c) h = ap (λ (b : Bool). cond b [] (c ∷ [])) h

none-below : (held : ℕ → Bool) (certs : List Cert) (n : ℕ) → ((e : ℕ) → e < n → held e ≡ true) → new_certs held certs (below n) ≡ []
none-below held certs zero h = refl
none-below held certs (suc n) h =
    certs-append held certs (below n) (n ∷ [])
    ∙ (ap (λ (xs : List Cert). xs ++ new_certs held certs (n ∷ [])) (none-below held certs n (λ e lt. h e (omega (arith, lt))))
    ∙ ap (λ (xs : List Cert). xs ++ []) (none-new held n (cert_on certs n) (h n (omega arith))))

pub certs-from : (saved : SavedState) (certs : List Cert) (n : ℕ) → n ≤ saved.low → [] ≡ new_certs (holds saved) certs (below n)
certs-from saved certs n le = sym (none-below (holds saved) certs n (λ e lt. ap (λ (b : Bool). b || stray saved e) (le-leb (suc e) saved.low (omega (arith, lt, le)))))

pub certs-next : {M Msg : Type 0} (v : StateView M Msg) (votes : List Vote) (certs : List Cert) → AreKept v.ballots votes certs → (e : ℕ) (found : List Cert) → found ≡ new_certs (holds v.saved) certs (below e) →
    and_new_cert v e found ≡ new_certs (holds v.saved) certs (below (suc e))
certs-next v votes certs kept e found is =
    ap (λ (o : Option Cert). found ++ new_cert (holds v.saved) e o) (kept.certs_are e)
    ∙ (ap (λ (xs : List Cert). xs ++ new_cert (holds v.saved) e (cert_on certs e)) is
    ∙ (ap (λ (xs : List Cert). new_certs (holds v.saved) certs (below e) ++ xs) (sym (append-nil (new_cert (holds v.saved) e (cert_on certs e))))
    ∙ sym (certs-append (holds v.saved) certs (below e) (e ∷ []))))

-- ---- the early messages

packets-append : {Msg : Type 0} (W : Frame Msg) (e : ℕ) (xs ys : List (Early Msg)) → packets_of W e (seen_early (xs ++ ys)) ≡ packets_of W e (seen_early xs) ++ packets_of W e (seen_early ys)
packets-append W e [] ys = refl
packets-append W e (x ∷ xs) ys = ap (λ (zs : List (List ℕ)). W.formats.wrap (early_parcel e (seen_one x)) ∷ zs) (packets-append W e xs ys)

pub packets-next : {Msg : Type 0} (W : Frame Msg) (e : ℕ) (xs : List (Early Msg)) (i : ℕ) (x : Early Msg) → i < length xs → x ≡ get_or xs i x →
    packets_of W e (seen_early (take i xs)) ++ W.formats.wrap (early_parcel e (seen_one x)) ∷ [] ≡ packets_of W e (seen_early (take (i + 1) xs))
packets-next W e xs i x lt is =
    let q : take (i + 1) xs ≡ take i xs ++ x ∷ [] = rw add-one (take-suc xs i x lt ∙ ap (λ (y : Early _). take i xs ++ y ∷ []) (sym is)) in
    sym (ap (λ (ys : List (Early _)). packets_of W e (seen_early ys)) q ∙ packets-append W e (take i xs) (x ∷ []))

-- ---- the whole snapshot

module _ {M Msg : Type 0} (m : Module Msg) (refines : M → Params → ℕ → List (Item Msg) → Type 0) (v : StateView M Msg) (past : Past Msg) (tied : RefinesPast m refines v past) where
  abbrev log : List Value
  log = log_of (rules_of v.setup) m v.me.0 past

  -- The model has the values of the epochs since the last snapshot.
  values-since : (from : ℕ) → epochs_to v.setup.epoch v.log.entries from (v.epoch - from) ≡ epochs_of (frame_of v.setup m) log from (past.epoch - from)
  values-since from = elim (leb_tells from v.epoch) [
    | inl t ↦
        let le = t.1 in
        let all : from + (v.epoch - from) ≡ v.epoch = omega (arith, le) in
        let start : v.plan.start ≡ v.epoch * v.setup.epoch = tied.start ∙ ap (λ (k : ℕ). k * v.setup.epoch) (sym tied.epoch) in
        let begun = tied.begun in
        let high : v.epoch * v.setup.epoch ≤ length v.log.entries = omega (arith, start, begun) in
        let room : (from + (v.epoch - from)) * v.setup.epoch ≤ length v.log.entries = subst (λ (k : ℕ). k * v.setup.epoch ≤ length v.log.entries) (sym all) high in
        epochs-are v.setup m v.log.entries from (v.epoch - from) room
        ∙ (ap (λ (ys : List Value). epochs_of (frame_of v.setup m) ys from (v.epoch - from)) (sym tied.log)
        ∙ ap (λ (k : ℕ). epochs_of (frame_of v.setup m) log from (k - from)) tied.epoch)
    | inr t ↦
        let lt = t.1 in
        let none : v.epoch - from ≡ 0 = omega (arith, lt) in
        let there : past.epoch - from ≡ 0 = ap (λ (k : ℕ). k - from) (sym tied.epoch) ∙ none in
        ap (λ (k : ℕ). epochs_to v.setup.epoch v.log.entries from k) none ∙ sym (ap (λ (k : ℕ). epochs_of (frame_of v.setup m) log from k) there)
  ]

  pub snapshot-is : (votes : List Vote) (certs : List Cert) → AreKept v.ballots votes certs → (early : List (Early Msg)) (s : Snapshot) →
      s.from.0 ≡ v.saved.from → s.to.0 ≡ v.epoch → s.epochs ≡ epochs_to v.setup.epoch v.log.entries s.from.0 (v.epoch - s.from.0) → s.leaf ≡ v.keys.used → s.waiting ≡ v.waiting →
      s.certs ≡ new_certs (holds v.saved) certs (below (suc (suc v.epoch))) → s.votes ≡ v.ballots.counted → s.early ≡ packets_of (frame_of v.setup m) v.epoch (seen_early early) →
      s ≡ saved_by m v (holding votes certs (record (core_of v past) { early = seen_early early }))
  snapshot-is votes certs kept early s from to epochs leaf waiting new counted packets = λ i. record {
    from = record { 0 = from i };
    to = record { 0 = (to ∙ tied.epoch) i };
    epochs =
        (epochs
        ∙ (values-since s.from.0
        ∙ ap (λ (k : ℕ). epochs_of (frame_of v.setup m) log k (past.epoch - k)) from)) i;
    leaf = leaf i;
    waiting = waiting i;
    certs = (new ∙ ap (λ (k : ℕ). new_certs (holds v.saved) certs (below (suc (suc k)))) tied.epoch) i;
    votes = (counted ∙ kept.counted_are) i;
    early = (packets ∙ ap (λ (k : ℕ). packets_of (frame_of v.setup m) k (seen_early early)) tied.epoch) i;
  }
