-- The table of a header. It is sound, values can be extended, and set-ups and values determine each other.
use Rattle.std.proofs.Common.{◌≡◌, ◌∙◌, ℕ, zero, suc, ◌<◌, ◌≤◌, Bool, true, false, cond, eqb, List, [], ◌∷◌, ◌++◌, length, refl, sym, ap, subst, arith}
use Rattle.sha2.specs.Sha256.{sha256}
use Rattle.iss_request.specs.Setup.{AreAscendingBelow, IsGoodSetup, nodes_of_kind, quorum_of_kind}
use Rattle.iss_request.specs.declared.ids.NodeId.{NodeId}
use Rattle.iss_request.specs.declared.setups.Kind.{Kind}
use Rattle.iss_request.specs.declared.setups.Kind.TheVariants.{Byzantine, Stopping}
use Rattle.iss_request.specs.declared.setups.Policy.{Policy}
use Rattle.iss_request.specs.declared.setups.Policy.TheVariants.{Simple, Backoff, Blacklist}
use Rattle.iss_request.specs.declared.setups.Setup.{Setup}
use Rattle.iss_schedule.specs.Headers.{HeaderField, AreValues, faulty_line, header_fields, lines_of, module_rows, place_among, place_of_policy, policy_at, relay_row, row_at, row_of, setup_with, value, values_of}
use Rattle.iss_schedule.specs.Places.{AreFew, most_faulty}
use Rattle.iss_schedule.specs.Reads.{IsWithin}
use Rattle.iss_schedule.specs.Schedules.{IsKnown, cluster_tag, header_lines}
use Rattle.iss_schedule.specs.Words.{ended}
use Rattle.iss_schedule.proofs.HeaderTable.LineDeterminesFaultyNodes.{AreSmall, faulty_few, few_faulty, rising_small, same_faulty}
use Rattle.iss_schedule.proofs.HeaderTable.FieldsDetermineValues.{AreSome, AreSound, Fills, one_list}
use Rattle.iss_schedule.proofs.HeaderTable.ModuleRows.{number_of_row, one_at, place_back, place_low, rows_sound}

-- ---- bounds that depend on the module

-- the number of nodes for the module at a place
abbrev pub nodes_at : ℕ → ℕ → ℕ
nodes_at place f = (setup_with (0 ∷ place ∷ f ∷ []) [] []).n

pub count_fits : (relay : Bool) (k : Kind) (f : ℕ) → f ≤ 3 → cond relay 3 (nodes_of_kind k f) ≤ 10
count_fits true k f le = omega arith
count_fits false Byzantine f le = omega (arith, le)
count_fits false Stopping f le = omega (arith, le)

nodes_fit : (place f : ℕ) → f < suc (row_at place).most_faults → nodes_at place f ≤ 10
nodes_fit place f lt = count_fits (eqb (row_at place).number 1) (row_at place).kind f
    (omega (arith, lt, (rows_sound place).few))

pub fields_sound : AreSound header_fields
fields_sound = (
  (refl, refl),
  (
    (refl, refl),
    (
      (refl, λ above. omega (arith, (rows_sound (value above 1)).few)),
      (
        (refl, λ above. omega arith),
        (
          (refl, λ above. omega arith),
          (
            (refl, λ above. omega arith),
            (
              (refl, λ above. omega arith),
              ((refl, refl), ((refl, λ above. omega arith), ((refl, λ above. omega arith), tt))),
            ),
          ),
        ),
      ),
    ),
  ),
)

pub fields_fill : Fills header_fields []
fields_fill = (
  (0, omega arith),
  λ a _. (
    (0, omega arith),
    λ b _. (
      (0, (omega arith, omega arith)),
      λ c few. (
        (64, (omega (arith, nodes_fit b c few.1), omega arith)),
        λ d _. (
          (1, (omega arith, omega arith)),
          λ e _. (
            (1, (omega arith, omega arith)),
            λ g _. (
              (1, (omega arith, omega arith)),
              λ h _. (
                (0, omega arith),
                λ i _. ((1, (omega arith, omega arith)), λ j _. ((2, (omega arith, omega arith)), λ k _. tt)),
              ),
            ),
          ),
        ),
      ),
    ),
  ),
)

-- ---- the values of a set-up

parts : (v m f e b ba w : ℕ) → Policy → (c k : ℕ) → List NodeId → (n q : ℕ) → Kind → List ℕ → Setup
parts v m f e b ba w p c k faulty n q kind tag = record {
  version = v;
  «module» = m;
  f = f;
  epoch = e;
  buckets = b;
  batch = ba;
  window = w;
  policy = p;
  clients = c;
  keys = k;
  faulty = faulty;
  n = n;
  quorum = q;
  kind = kind;
  tag = tag;
}

policy_again : (p : Policy) → p ≡ policy_at (place_of_policy p)
policy_again Simple = refl
policy_again Backoff = refl
policy_again Blacklist = refl

known_number : (s : Setup) → IsKnown s → s.module ≡ (row_of s.module).number
known_number s h = sym (number_of_row s.module module_rows relay_row h.known)

known_nodes : (s : Setup) → IsKnown s → s.n ≡ nodes_at (place_among s.module module_rows) s.f
known_nodes s h =
    h.good.nodes ∙ ap (λ m. cond (eqb m 1) 3 (nodes_of_kind s.kind s.f)) (known_number s h)
    ∙ ap (λ (k : Kind). cond (eqb (row_of s.module).number 1) 3 (nodes_of_kind k s.f)) h.kind

known_quorum : (s : Setup) → IsKnown s →
    s.quorum ≡ cond (eqb (row_of s.module).number 1) 2 (quorum_of_kind (row_of s.module).kind s.f)
known_quorum s h =
    h.good.majority ∙ ap (λ m. cond (eqb m 1) 2 (quorum_of_kind s.kind s.f)) (known_number s h)
    ∙ ap (λ (k : Kind). cond (eqb (row_of s.module).number 1) 2 (quorum_of_kind k s.f)) h.kind

-- the values of a set-up and its faulty nodes determine it
pub rebuilt : (s : Setup) → IsKnown s → s ≡ setup_with (values_of s) s.faulty s.tag
unfolding parts
rebuilt s h =
    let r = row_of s.module in
    let p = policy_at (place_of_policy s.policy) in
    let n = nodes_at (place_among s.module module_rows) s.f in
    let q = cond (eqb r.number 1) 2 (quorum_of_kind r.kind s.f) in
    ap (λ v. parts v s.module s.f s.epoch s.buckets s.batch s.window s.policy s.clients s.keys s.faulty s.n s.quorum
    s.kind s.tag) h.good.version
    ∙ ap (λ m. parts 1 m s.f s.epoch s.buckets s.batch s.window s.policy s.clients s.keys s.faulty s.n s.quorum s.kind
    s.tag) (known_number s h)
    ∙ ap (λ (x : Policy). parts 1 r.number s.f s.epoch s.buckets s.batch s.window x s.clients s.keys s.faulty s.n
    s.quorum s.kind s.tag) (policy_again s.policy)
    ∙ ap (λ x. parts 1 r.number s.f s.epoch s.buckets s.batch s.window p s.clients s.keys s.faulty x s.quorum s.kind
    s.tag) (known_nodes s h)
    ∙ ap (λ x. parts 1 r.number s.f s.epoch s.buckets s.batch s.window p s.clients s.keys s.faulty n x s.kind s.tag)
    (known_quorum s h)
    ∙ ap (λ (x : Kind). parts 1 r.number s.f s.epoch s.buckets s.batch s.window p s.clients s.keys s.faulty n q x s.tag)
    h.kind

policy_low : (p : Policy) → place_of_policy p < 3
policy_low Simple = omega arith
policy_low Backoff = omega arith
policy_low Blacklist = omega arith

in_range : (m f e b ba w : ℕ) (p : Policy) (c k : ℕ) → m < length module_rows → f < suc (row_at m).most_faults →
    IsWithin (nodes_at m f) 65 e → IsWithin 1 257 b → IsWithin 1 33 ba → IsWithin 1 65 w → IsWithin 1 257 c →
    IsWithin 2 21 k → AreValues header_fields [] (0 ∷ m ∷ f ∷ e ∷ b ∷ ba ∷ w ∷ place_of_policy p ∷ c ∷ k ∷ [])
in_range m f e b ba w p c k low_place faults epoch buckets batch window clients keys = (
  omega arith,
  (
    low_place,
    (
      (omega arith, faults),
      (
        (epoch.0, epoch.1),
        (buckets, (batch, (window, (policy_low p, (clients, (keys, refl)))))),
      ),
    ),
  ),
)

pub values_in_range : (s : Setup) → IsKnown s → AreValues header_fields [] (values_of s)
values_in_range s h =
    let g = h.good in
    let place = place_among s.module module_rows in
    let low : nodes_at place s.f ≤ s.epoch = subst (λ n. n ≤ s.epoch) (known_nodes s h) g.epoch_low in
    in_range place s.f s.epoch s.buckets s.batch s.window s.policy s.clients s.keys
    (place_low s.module module_rows h.known) (omega (arith, h.faults))
    (low, omega (arith, g.epoch_high)) (g.buckets_low, omega (arith, g.buckets_high)) (
      g.batch_low,
      omega (arith, g.batch_high),
    ) (g.window_low, omega (arith, g.window_high))
    (g.clients_low, omega (arith, g.clients_high)) (g.keys_height.0, omega (arith, g.keys_height.1))

-- ---- the set-up of values in range

pub record AreRead (vs : List ℕ) : Type 0 where
  pub place : ℕ
  pub faults : ℕ
  pub epoch : ℕ
  pub buckets : ℕ
  pub batch : ℕ
  pub window : ℕ
  pub policy : ℕ
  pub clients : ℕ
  pub keys : ℕ
  pub is : vs ≡ 0 ∷ place ∷ faults ∷ epoch ∷ buckets ∷ batch ∷ window ∷ policy ∷ clients ∷ keys ∷ []
  pub place_in : place < length module_rows
  pub faults_in : faults < suc (row_at place).most_faults
  pub epoch_in : IsWithin (nodes_at place faults) 65 epoch
  pub buckets_in : IsWithin 1 257 buckets
  pub batch_in : IsWithin 1 33 batch
  pub window_in : IsWithin 1 65 window
  pub policy_in : policy < 3
  pub clients_in : IsWithin 1 257 clients
  pub keys_in : IsWithin 2 21 keys

-- each value is at the index that the table uses
pub are_read : (vs : List ℕ) → AreValues header_fields [] vs → AreRead vs
are_read [] h = absurd h
are_read (a ∷ []) h = absurd h.1
are_read (a ∷ b ∷ []) h = absurd h.1.1
are_read (a ∷ b ∷ f ∷ []) h = absurd h.1.1.1
are_read (a ∷ b ∷ f ∷ e ∷ []) h = absurd h.1.1.1.1
are_read (a ∷ b ∷ f ∷ e ∷ bu ∷ []) h = absurd h.1.1.1.1.1
are_read (a ∷ b ∷ f ∷ e ∷ bu ∷ ba ∷ []) h = absurd h.1.1.1.1.1.1
are_read (a ∷ b ∷ f ∷ e ∷ bu ∷ ba ∷ w ∷ []) h = absurd h.1.1.1.1.1.1.1
are_read (a ∷ b ∷ f ∷ e ∷ bu ∷ ba ∷ w ∷ p ∷ []) h = absurd h.1.1.1.1.1.1.1.1
are_read (a ∷ b ∷ f ∷ e ∷ bu ∷ ba ∷ w ∷ p ∷ c ∷ []) h = absurd h.1.1.1.1.1.1.1.1.1
are_read (a ∷ b ∷ f ∷ e ∷ bu ∷ ba ∷ w ∷ p ∷ c ∷ k ∷ more) h =
    let version : a ≡ 0 = omega (arith, h.0) in
    let end : more ≡ [] = h.1.1.1.1.1.1.1.1.1.1 in
    record {
      place = b;
      faults = f;
      epoch = e;
      buckets = bu;
      batch = ba;
      window = w;
      policy = p;
      clients = c;
      keys = k;
      is = cc;
      place_in = h.1.0;
      faults_in = h.1.1.0.1;
      epoch_in = h.1.1.1.0;
      buckets_in = h.1.1.1.1.0;
      batch_in = h.1.1.1.1.1.0;
      window_in = h.1.1.1.1.1.1.0;
      policy_in = h.1.1.1.1.1.1.1.0;
      clients_in = h.1.1.1.1.1.1.1.1.0;
      keys_in = h.1.1.1.1.1.1.1.1.1.0;
    }

-- the faulty nodes of a set-up with these values
abbrev pub MayFail : List ℕ → List NodeId → Type 0
MayFail vs is = AreFew (most_faulty (row_at (value vs 1)).kind (value vs 2)) (setup_with vs [] []).n is

-- the faulty nodes of a set-up that has a text
pub known_faulty : (s : Setup) → IsKnown s → MayFail (values_of s) s.faulty
known_faulty s h = (
  subst (λ (k : Kind). length s.faulty ≤ most_faulty k s.f) h.kind (faulty_few s.kind s.f s.faulty h.good.few_faulty),
  subst (λ n. AreAscendingBelow 0 n s.faulty) (known_nodes s h) h.good.ascending_faulty,
)

pub small_faulty : (s : Setup) → IsGoodSetup s → AreSmall s.faulty
small_faulty s g = rising_small 0 s.n s.faulty (omega (arith, g.epoch_low, g.epoch_high)) g.ascending_faulty

good_at : (m f : ℕ) (e b ba w p c k : ℕ) (is : List NodeId) (tag : List ℕ) → f < suc (row_at m).most_faults →
    IsWithin (nodes_at m f) 65 e → IsWithin 1 257 b → IsWithin 1 33 ba → IsWithin 1 65 w → IsWithin 1 257 c →
    IsWithin 2 21 k →
    MayFail (0 ∷ m ∷ f ∷ []) is → IsGoodSetup (setup_with (0 ∷ m ∷ f ∷ e ∷ b ∷ ba ∷ w ∷ p ∷ c ∷ k ∷ []) is tag)
good_at m f e b ba w p c k is tag faults epoch buckets batch window clients keys few =
    let sound = rows_sound m in
    record {
      version = refl;
      faults = omega (arith, faults, sound.few);
      relay_faults = λ one. omega (arith, faults, sound.relay_faults one);
      relay_kind = λ one. sound.relay_kind one;
      nodes = refl;
      majority = refl;
      epoch_low = epoch.0;
      epoch_high = omega (arith, epoch.1);
      buckets_low = buckets.0;
      buckets_high = omega (arith, buckets.1);
      batch_low = batch.0;
      batch_high = omega (arith, batch.1);
      window_low = window.0;
      window_high = omega (arith, window.1);
      clients_low = clients.0;
      clients_high = omega (arith, clients.1);
      keys_height = (keys.0, omega (arith, keys.1));
      few_faulty = few_faulty (row_at m).kind f is few.0;
      ascending_faulty = few.1;
    }

-- the set-up with these values and faulty nodes, and the tag of its own header
abbrev pub setup_made : List ℕ → List NodeId → Setup
setup_made vs is = setup_with vs is (cluster_tag (setup_with vs is []))

pub known_read : (vs : List ℕ) (is : List NodeId) → AreRead vs → MayFail vs is → IsKnown (setup_made vs is)
known_read vs is r few =
    subst (λ (z : List ℕ). IsKnown (setup_made z is)) (sym r.is)
    (let all : List ℕ = 0 ∷ r.place ∷ r.faults ∷ r.epoch ∷ r.buckets ∷ r.batch ∷ r.window ∷ r.policy ∷ r.clients ∷
    r.keys ∷ [] in
    let tag = cluster_tag (setup_with all is []) in
    let here = sym (place_back r.place r.place_in) in
    record {
      good = good_at r.place r.faults r.epoch r.buckets r.batch r.window r.policy r.clients r.keys is tag r.faults_in
          r.epoch_in r.buckets_in r.batch_in r.window_in r.clients_in r.keys_in
          (subst (λ (z : List ℕ). MayFail z is) r.is few);
      known = one_at module_rows r.place relay_row r.place_in;
      kind = ap (λ k. (row_at k).kind) here;
      faults = subst (λ k. r.faults ≤ (row_at k).most_faults) here (omega (arith, r.faults_in));
      tag = refl;
    })

policy_back : (p : ℕ) → p < 3 → place_of_policy (policy_at p) ≡ p
policy_back zero lt = refl
policy_back (suc zero) lt = refl
policy_back (suc (suc zero)) lt = refl
policy_back (suc (suc (suc p))) lt = absurd (omega (arith, lt))

pub values_back : (vs : List ℕ) (is : List NodeId) (tag : List ℕ) → AreRead vs → values_of (setup_with vs is tag) ≡ vs
values_back vs is tag r =
    subst (λ (z : List ℕ). values_of (setup_with z is tag) ≡ z) (sym r.is)
    (ap (λ (m : ℕ). (let z : List ℕ = 0 ∷ m ∷ r.faults ∷ r.epoch ∷ r.buckets ∷ r.batch ∷ r.window ∷ place_of_policy
    (policy_at r.policy) ∷ r.clients ∷ r.keys ∷ [] in z)) (place_back r.place r.place_in)
    ∙ ap (λ (p : ℕ). (let z : List
    ℕ = 0 ∷ r.place ∷ r.faults ∷ r.epoch ∷ r.buckets ∷ r.batch ∷ r.window ∷ p ∷ r.clients ∷ r.keys ∷ [] in z))
    (policy_back r.policy r.policy_in))

-- the number of faults is small once it is read, and 0 before
pub few_so_far : (vs : List ℕ) (left : List HeaderField) → AreSome header_fields [] vs left → value vs 2 < 4
few_so_far [] left h = omega arith
few_so_far (a ∷ []) left h = omega arith
few_so_far (a ∷ b ∷ []) left h = omega arith
few_so_far (a ∷ b ∷ f ∷ vs) left h = omega (arith, h.1.1.0.1, (rows_sound b).few)

pub few_read : (vs : List ℕ) → AreRead vs → value vs 2 < 4
few_read vs r = subst (λ (z : List ℕ). value z 2 < 4) (sym r.is) (omega (arith, r.faults_in, (rows_sound r.place).few))

-- ---- set-ups with the same lines are equal

-- headers with the same lines have the same values and faulty nodes
pub same_header_lines : (vs ws : List ℕ) (line line' : List ℕ) → AreValues header_fields [] vs →
    AreValues header_fields [] ws → lines_of header_fields vs ++ line ∷ [] ≡ lines_of header_fields ws ++ line' ∷ [] →
    (vs ≡ ws) × (line ≡ line')
same_header_lines vs ws line line' ok ok' e =
    let ends = last_same (lines_of header_fields vs) (lines_of header_fields ws) line line' e in
    (one_list header_fields fields_sound [] vs ws ok ok' ends.0, ends.1)
  where
    last_same : (xs ys : List (List ℕ)) (x y : List ℕ) → xs ++ x ∷ [] ≡ ys ++ y ∷ [] → (xs ≡ ys) × (x ≡ y)
    last_same [] [] x y e = (refl, cc)
    last_same [] (z ∷ []) x y e = absurd (let two : x ∷ [] ≡ z ∷ y ∷ [] = e in cc)
    last_same [] (z ∷ w ∷ ys) x y e = absurd (let two : x ∷ [] ≡ z ∷ w ∷ (ys ++ y ∷ []) = e in cc)
    last_same (z ∷ []) [] x y e = absurd (let two : z ∷ x ∷ [] ≡ y ∷ [] = e in cc)
    last_same (z ∷ w ∷ xs) [] x y e = absurd (let two : z ∷ w ∷ (xs ++ x ∷ []) ≡ y ∷ [] = e in cc)
    last_same (z ∷ xs) (w ∷ ys) x y e =
        let both : z ∷ (xs ++ x ∷ []) ≡ w ∷ (ys ++ y ∷ []) = e in
        let heads : z ≡ w = cc in
        let tails : xs ++ x ∷ [] ≡ ys ++ y ∷ [] = cc in
        let rest = last_same xs ys x y tails in
        (ap (λ (h : List ℕ). h ∷ xs) heads ∙ ap (λ (t : List (List ℕ)). w ∷ t) rest.0, rest.1)

pub same_setup : (s t : Setup) → IsKnown s → IsKnown t → header_lines s ≡ header_lines t → s ≡ t
same_setup s t r q e =
    let same = same_header_lines (values_of s) (values_of t) (faulty_line s.faulty) (faulty_line t.faulty)
    (values_in_range s r) (values_in_range t q) e in
    let nodes = same_faulty s.faulty t.faulty (small_faulty s r.good) (small_faulty t q.good) same.1 in
    let tags : s.tag ≡ t.tag = r.tag ∙ ap (λ (ls : List (List ℕ)). sha256 (67 ∷ ended ls)) e ∙ sym q.tag in
    rebuilt s r ∙ ap (λ (vs : List ℕ). setup_with vs s.faulty s.tag) same.0
    ∙ ap (λ (is : List NodeId). setup_with (values_of t) is s.tag) nodes
    ∙ ap (λ (z : List ℕ). setup_with (values_of t) t.faulty z) tags ∙ sym (rebuilt t q)
