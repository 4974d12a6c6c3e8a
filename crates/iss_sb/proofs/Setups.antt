-- A set-up is good if a test that computes accepts it: for an example the proof is `good-by s refl`.
use Rattle.std.proofs.Common.{◌≡◌, ◌≤◌, ◌&&◌, ◌||◌, ◌==◌, not, ℕ, suc, Bool, true, false, List, [], ◌∷◌, length, refl, sym, true≢false}
use Rattle.std.specs.Prelude.{nat_le, nat_lt}
use Rattle.std.proofs.lemmas.Bool.{eq-eqb, eqb-true, leb-true, ltb-true}
use Rattle.iss_base.specs.Heights.{is_height}
use Rattle.iss_base.proofs.HeightLemmas.{tested-height}
use Rattle.iss_base.proofs.Lists.{and-true}
use Rattle.iss_request.proofs.StoppingKinds.{is_stopping, stops}
use Rattle.iss_request.specs.Setup.{AreAscendingBelow, IsFewFaulty, IsGoodSetup, node_count, quorum_count}
use Rattle.iss_request.specs.declared.ids.NodeId.{NodeId}
use Rattle.iss_request.specs.declared.setups.Kind.{Kind}
use Rattle.iss_request.specs.declared.setups.Kind.TheVariants.{Byzantine, Stopping}
use Rattle.iss_request.specs.declared.setups.Setup.{Setup}

abbrev few_faulty : Kind → ℕ → List NodeId → Bool
few_faulty Byzantine f faulty = nat_le (length faulty) f
few_faulty Stopping f [] = true
few_faulty Stopping f (i ∷ is) = false

abbrev are_ascending : ℕ → ℕ → List NodeId → Bool
are_ascending from n [] = true
are_ascending from n (i ∷ is) = nat_le from i.0 && (nat_lt i.0 n && are_ascending (suc i.0) n is)

-- the relay tolerates no faults, and is crash-stop
abbrev is_relay_good : Setup → Bool
is_relay_good s = not (s.module == 1) || ((s.f == 0) && stops s.kind)

abbrev has_counts : Setup → Bool
has_counts s = (s.version == 1) && (nat_le s.f 3 && (is_relay_good s && ((s.n == node_count s) && (s.quorum == quorum_count s))))

abbrev is_between : ℕ → ℕ → ℕ → Bool
is_between low high x = nat_le low x && nat_le x high

abbrev has_ranges : Setup → Bool
has_ranges s =
    is_between s.n 64 s.epoch && (is_between 1 256 s.buckets && (is_between 1 32 s.batch &&
    (is_between 1 64 s.window && (is_between 1 256 s.clients && is_height s.keys))))

abbrev pub is_good : Setup → Bool
is_good s = has_counts s && (has_ranges s && (few_faulty s.kind s.f s.faulty && are_ascending 0 s.n s.faulty))

faulty-few : (k : Kind) (f : ℕ) (is : List NodeId) → few_faulty k f is ≡ true → IsFewFaulty k f is
faulty-few Byzantine f is h = leb-true (length is) f h
faulty-few Stopping f [] h = refl
faulty-few Stopping f (i ∷ is) h = absurd (true≢false (sym h))

faulty-ascend : (from n : ℕ) (is : List NodeId) → are_ascending from n is ≡ true → AreAscendingBelow from n is
faulty-ascend from n [] h = tt
faulty-ascend from n (i ∷ is) h =
    let a = and-true (nat_le from i.0) (nat_lt i.0 n && are_ascending (suc i.0) n is) h in
    let b = and-true (nat_lt i.0 n) (are_ascending (suc i.0) n is) a.1 in
    (leb-true from i.0 a.0, ltb-true i.0 n b.0, faulty-ascend (suc i.0) n is b.1)

between : (low high x : ℕ) → is_between low high x ≡ true → (low ≤ x) × (x ≤ high)
between low high x h = let a = and-true (nat_le low x) (nat_le x high) h in (leb-true low x a.0, leb-true x high a.1)

implied : (a b : Bool) → (not a || b) ≡ true → a ≡ true → b ≡ true
implied true b h e = h
implied false b h e = absurd (true≢false (sym e))

relay : (s : Setup) → is_relay_good s ≡ true → s.module ≡ 1 → (s.f ≡ 0) × (s.kind ≡ Stopping)
relay s h e =
    let a = and-true (s.f == 0) (stops s.kind) (implied (s.module == 1) ((s.f == 0) && stops s.kind) h (eq-eqb s.module 1 e)) in
    (eqb-true s.f 0 a.0, is_stopping s.kind a.1)

pub good-by : (s : Setup) → is_good s ≡ true → IsGoodSetup s
good-by s h =
    let parts = and-true (has_counts s) (has_ranges s && (few_faulty s.kind s.f s.faulty && are_ascending 0 s.n s.faulty)) h in
    let others = and-true (has_ranges s) (few_faulty s.kind s.f s.faulty && are_ascending 0 s.n s.faulty) parts.1 in
    let faulty = and-true (few_faulty s.kind s.f s.faulty) (are_ascending 0 s.n s.faulty) others.1 in
    let version = and-true (s.version == 1) (nat_le s.f 3 && (is_relay_good s && ((s.n == node_count s) && (s.quorum == quorum_count s)))) parts.0 in
    let faults = and-true (nat_le s.f 3) (is_relay_good s && ((s.n == node_count s) && (s.quorum == quorum_count s))) version.1 in
    let of_relay = and-true (is_relay_good s) ((s.n == node_count s) && (s.quorum == quorum_count s)) faults.1 in
    let counts = and-true (s.n == node_count s) (s.quorum == quorum_count s) of_relay.1 in
    let r1 = and-true (is_between s.n 64 s.epoch) _ others.0 in
    let r2 = and-true (is_between 1 256 s.buckets) _ r1.1 in
    let r3 = and-true (is_between 1 32 s.batch) _ r2.1 in
    let r4 = and-true (is_between 1 64 s.window) (is_between 1 256 s.clients && is_height s.keys) r3.1 in
    let r5 = and-true (is_between 1 256 s.clients) (is_height s.keys) r4.1 in
    let epoch = between s.n 64 s.epoch r1.0 in
    let buckets = between 1 256 s.buckets r2.0 in
    let batch = between 1 32 s.batch r3.0 in
    let window = between 1 64 s.window r4.0 in
    let clients = between 1 256 s.clients r5.0 in
    let keys = tested-height s.keys r5.1 in
    record {
      version = eqb-true s.version 1 version.0;
      faults = leb-true s.f 3 faults.0;
      relay_faults = λ e. (relay s of_relay.0 e).0;
      relay_kind = λ e. (relay s of_relay.0 e).1;
      nodes = eqb-true s.n (node_count s) counts.0;
      majority = eqb-true s.quorum (quorum_count s) counts.1;
      epoch_low = epoch.0;
      epoch_high = epoch.1;
      buckets_low = buckets.0;
      buckets_high = buckets.1;
      batch_low = batch.0;
      batch_high = batch.1;
      window_low = window.0;
      window_high = window.1;
      clients_low = clients.0;
      clients_high = clients.1;
      keys_height = keys;
      few_faulty = faulty-few s.kind s.f s.faulty faulty.0;
      ascending_faulty = faulty-ascend 0 s.n s.faulty faulty.1;
    }
