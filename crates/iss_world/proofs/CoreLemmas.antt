-- Lists of cores, which node a core runs, and cores at the start.
use Rattle.std.proofs.Common.{inl, inr, ◌≡◌, ◌≢◌, ◌⊎◌, ℕ, zero, suc, ◌+◌, ◌-◌, ◌<◌, ◌≤◌, true, false, List, [], ◌∷◌, ◌++◌, length, length-append, set, slice_get, Some, refl, sym, ap, ◌∙◌, subst, arith, slice_index_or}
use Rattle.std.specs.Prelude.{eqb}
use Rattle.std.proofs.lemmas.Bool.Decides.{eqb_tells}
use Rattle.std.proofs.lemmas.List.{length-replicate}
use Rattle.iss_disk.specs.declared.memory.MemoryDisk.{MemoryDisk}
use Rattle.iss_keep.specs.State.{KeptState}
use Rattle.iss_model.specs.Run.{cores_of}
use Rattle.iss_rules.specs.Setups.{IsSetupOf}
use Rattle.iss_network.specs.Network.{Network, empty_network}
use Rattle.iss_request.specs.Setup.{AreAscendingBelow, IsGoodSetup}
use Rattle.iss_request.specs.declared.ids.NodeId.{NodeId}
use Rattle.iss_request.specs.declared.setups.Setup.{Setup}
use Rattle.iss_model.specs.Courses.{begin_machines}
use Rattle.iss_sb.specs.Calls.{Relation}
use Rattle.iss_sb.specs.Evidence.{Module}
use Rattle.iss_world.specs.Books.{AreHashed, AreSigned}
use Rattle.iss_world.specs.Internal.Shape.{IsSimulation}
use Rattle.iss_world.specs.State.{AreBetweenCores}
use Rattle.iss_world.specs.Refines.{AreFresh, IsFresh, RefinesMachines}

-- ---- lists of cores

pub get-set_same : {A : Type 0} (xs : List A) (i : ℕ) (a : A) → i < length xs → slice_get (set xs i a) i ≡ Some a
get-set_same [] i a lt = absurd (omega (arith, lt))
get-set_same (x ∷ xs) zero a lt = refl
get-set_same (x ∷ xs) (suc i) a lt = get-set_same xs i a (omega (arith, lt))

get-set_other : {A : Type 0} (xs : List A) (i j : ℕ) (a : A) → j ≢ i → slice_get (set xs i a) j ≡ slice_get xs j
get-set_other [] i j a ne = refl
get-set_other (x ∷ xs) zero zero a ne = absurd (ne refl)
get-set_other (x ∷ xs) zero (suc j) a ne = refl
get-set_other (x ∷ xs) (suc i) zero a ne = refl
get-set_other (x ∷ xs) (suc i) (suc j) a ne = get-set_other xs i j a (λ e. ne (ap suc e))

pub length-set_at : {A : Type 0} (xs : List A) (i : ℕ) (a : A) → length (set xs i a) ≡ length xs
length-set_at [] i a = refl
length-set_at (x ∷ xs) zero a = refl
length-set_at (x ∷ xs) (suc i) a = ap suc (length-set_at xs i a)

-- The element at index j after a write at index i.
pub written : {A : Type 0} (xs : List A) (i j : ℕ) (a g : A) → i < length xs → slice_get (set xs i a) j ≡ Some g →
    ((eqb j i ≡ true) × (j ≡ i) × (g ≡ a)) ⊎ ((eqb j i ≡ false) × (slice_get xs j ≡ Some g))
written {A} xs i j a g lt h =
    elim (eqb_tells j i) [
      | inl t ↦ inl (
        t.0,
        t.1,
        let k : slice_get (set xs i a) i ≡ Some g = subst (λ (k : ℕ). slice_get (set xs i a) k ≡ Some g) t.1 h in
            let s : slice_get (set xs i a) i ≡ Some a = get-set_same xs i a lt in cc,
      )
      | inr t ↦ inr (t.0, sym (get-set_other xs i j a t.1) ∙ h)
    ]

-- ---- which node a core runs

ascending-at : (from n : ℕ) (xs : List NodeId) (j : ℕ) (d : NodeId) → AreAscendingBelow from n xs → j < length xs → (slice_index_or xs j d).0 < n
ascending-at from n [] j d h lt = absurd (omega (arith, lt))
ascending-at from n (x ∷ xs) zero d h lt = h.1
ascending-at from n (x ∷ xs) (suc j) d h lt = ascending-at (suc x.0) n xs j d h.2 (omega (arith, lt))

-- A faulty node is a member of the cluster.
pub twin-below : (s : Setup) (good : IsGoodSetup s) (faulty : List NodeId) (core j : ℕ) (d : NodeId) → faulty ≡ s.faulty → core < cores_of s → s.n ≤ core → j ≡ core - s.n →
    (slice_index_or faulty j d).0 < s.n
twin-below s good faulty core j d e lt le is =
    let far : j < length s.faulty = omega (arith, lt, le, is) in
    subst (λ (xs : List NodeId). (slice_index_or xs j d).0 < s.n) (sym e) (ascending-at 0 s.n s.faulty j d good.ascending_faulty far)

at-end : {A : Type 0} (xs : List A) (x g : A) (i : ℕ) → slice_get (xs ++ x ∷ []) i ≡ Some g → (slice_get xs i ≡ Some g) ⊎ ((i ≡ length xs) × (g ≡ x))
at-end [] x g zero e = inr (refl, cc)
at-end [] x g (suc i) e = absurd cc
at-end (y ∷ ys) x g zero e = inl e
at-end (y ∷ ys) x g (suc i) e = elim (at-end ys x g i e) [
  | inl h ↦ inl h
  | inr h ↦ inr (ap suc h.0, h.1)
]

module _ {M Msg : Type 0} (m : Module Msg) (refines : Relation M Msg) where
  pub fresh-more : (s : Setup) (n : ℕ) (xs : List (KeptState M Msg MemoryDisk)) (x : KeptState M Msg MemoryDisk) → AreFresh m refines s n xs → IsFresh m refines s n x → AreFresh m refines s (n + 1) (xs ++ x ∷ [])
  fresh-more s n xs x h f = record {
    count = length-append xs (x ∷ []) ∙ ap (λ k. k + 1) h.count;
    each = λ i g e. elim (at-end xs x g i e) [
      | inl t ↦ h.each i g t
      | inr t ↦ subst (λ (k : ℕ). IsFresh m refines s k g) (sym (t.0 ∙ h.count)) (subst (λ (z : KeptState M Msg MemoryDisk). IsFresh m refines s n z) (sym t.1) f)
    ];
  }

  pub fresh-running : (s t : Setup) (nodes : List (KeptState M Msg MemoryDisk)) (net : Network) (signed : List (List ℕ)) (hashed : List (List ℕ × List ℕ)) (cores : ℕ) → IsSetupOf m s → t ≡ s →
      cores ≡ cores_of s → AreFresh m refines s (cores_of s) nodes → net ≡ empty_network cores →
      IsSimulation m (record { setup = t; nodes = nodes; network = net; signed = signed; hashed = hashed })
  fresh-running s t nodes net signed hashed cores good e ec h en =
      let here : net ≡ empty_network (cores_of s) = en ∙ ap (λ (k : ℕ). empty_network k) ec in
      let P : Setup → Type 0 = λ u. IsSimulation m (record { setup = u; nodes = nodes; network = net; signed = signed; hashed = hashed }) in
      subst P (sym e) (record {
        good = good;
        count = h.count;
        network = record {
          held = ap (λ (u : Network). length u.held) here ∙ length-replicate (cores_of s) false;
          packets = subst (λ (u : Network). AreBetweenCores (cores_of s) u.packets) (sym here) tt;
        };
        setups = λ i g at. (h.each i g at).setup;
        places = λ i g at. (h.each i g at).place;
      })

  -- Fresh cores without packets, signatures or hashed strings refine the start of a run.
  pub fresh-runs : (s t : Setup) (nodes : List (KeptState M Msg MemoryDisk)) (net : Network) (signed : List (List ℕ)) (hashed : List (List ℕ × List ℕ)) (cores : ℕ) → cores ≡ cores_of s →
      AreFresh m refines s (cores_of s) nodes → net ≡ empty_network cores → AreSigned signed [] → AreHashed hashed ([] ∷ []) →
      RefinesMachines m refines (record { setup = t; nodes = nodes; network = net; signed = signed; hashed = hashed }) (begin_machines s)
  fresh-runs s t nodes net signed hashed cores ec h e es eh = record {
    cores = λ i g at. (h.each i g at).refined;
    network = e ∙ ap (λ (k : ℕ). empty_network k) ec;
    signed = es;
    hashed = eh;
  }
