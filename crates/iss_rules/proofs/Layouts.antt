-- The rules of a good set-up are sound.
use Rattle.std.proofs.Common.{◌≡◌, inl, inr, ℕ, zero, suc, ◌-◌, ◌*◌, ◌+◌, ◌^◌, ◌<◌, ◌≤◌, Bool, nat_le, true, false, eqb, ◌||◌, List, [], ◌∷◌, length, Some, refl, sym, subst, ◌∙◌, arith, lt_of_lt_of_le}
use Rattle.std.proofs.lemmas.Bool.{le-leb}
use Rattle.std.proofs.lemmas.Bool.Decides.{leb_tells}
use Rattle.std.proofs.Math.Pow.{pow_mono}
use Rattle.std.specs.List.{list_any}
use Rattle.std.specs.Prelude.{nat_lt}
use Rattle.iss_base.specs.Heights.{IsHeight}
use Rattle.iss_base.specs.Lists.{In}
use Rattle.iss_base.proofs.Lists.{and-true, both, eqb-same}
use Rattle.iss_keys.specs.Directories.{client_secret, node_secret}
use Rattle.iss_keys.specs.Signatures.{signature_of}
use Rattle.iss_keys.specs.VerifiedBy.{is_verified_by}
use Rattle.iss_keys.proofs.DirectoryLemmas.{client-root, client-verifies, node-verifies, verified-by}
use Rattle.iss_request.specs.Formats.{HasSpelling, requests_most}
use Rattle.iss_request.proofs.OneSpelling.{signature_shaped}
use Rattle.iss_request.specs.Setup.{AreAscendingBelow}
use Rattle.iss_request.specs.declared.ids.NodeId.{NodeId}
use Rattle.iss_request.specs.declared.ids.ReqId.{ReqId}
use Rattle.iss_request.specs.declared.ids.Slot.{Slot}
use Rattle.iss_request.specs.declared.requests.Request.{Request}
use Rattle.iss_request.specs.declared.requests.Value.{Value}
use Rattle.iss_request.specs.declared.setups.Setup.{Setup}
use Rattle.iss_layout.specs.Layout.{IsGoodPlan, Plan, first_slot, leads, node, segment, slot_leader}
use Rattle.iss_layout.proofs.FairLemmas.{few_nodes, good_plan, leads_means, segment_ascending, segment_few, segment_slots, some_slot, turn_in}
use Rattle.iss_sb.specs.Calls.{AreBelow, IsGoodParams}
use Rattle.iss_sb.specs.Evidence.{Module}
use Rattle.iss_rules.specs.Concrete.{keys_of, least, number_of, plan_at, request_statement, rules_of, slots_at, start_at, request_of}
use Rattle.iss_rules.specs.SoundRules.{IsSoundRules}
use Rattle.iss_rules.specs.Past.{before_at, epoch_at, start_by}
use Rattle.iss_rules.specs.Rules.{Rules}
use Rattle.iss_rules.specs.Setups.{IsSetupOf}

ascending-low : (from n : ℕ) (ls : List NodeId) → AreAscendingBelow from n ls → (l : NodeId) → In l ls → l.0 < n
ascending-low from n [] h l i = absurd i
ascending-low from n (x ∷ ls) h l (inl e) = rw e h.1
ascending-low from n (x ∷ ls) h l (inr i) = ascending-low (suc x.0) n ls h.2 l i

leads-of : (ls : List NodeId) (l : NodeId) → In l ls → list_any (λ (x : NodeId). eqb x.0 l.0) ls ≡ true
leads-of [] l i = absurd i
leads-of (x ∷ ls) l (inl e) = rw (← e, eqb-same l.0) refl
leads-of (x ∷ ls) l (inr i) = let k : list_any (λ (x : NodeId). eqb x.0 l.0) ls ≡ true = leads-of ls l i in
    elim (eqb x.0 l.0) as (λ b. (b || list_any (λ (x : NodeId). eqb x.0 l.0) ls) ≡ true) [ true ↦ refl | false ↦ k ]

least-is : (a b : ℕ) → a ≤ b → least a b ≡ a
least-is a b h = elim (leb_tells a b) [ inl t ↦ rw t.0 refl | inr t ↦ absurd (omega (arith, t.1, h)) ]

least-low : (a b : ℕ) → least a b ≤ b
least-low a b = elim (leb_tells a b) [ inl t ↦ rw t.0 t.1 | inr t ↦ rw t.0 (omega arith) ]

-- all epochs have the same length
pub sums : (s : Setup) (log : List Value) (e : ℕ) → start_by (slots_at s) log e ≡ e * s.epoch
sums s log zero = omega arith
sums s log (suc e) = let before = sums s log e in omega (arith, before)

-- so an epoch whose slots are below 2^64 starts at a multiple of that length
pub start-times : (s : Setup) (log : List Value) (e : ℕ) → e * s.epoch + s.epoch ≤ 2 ^ 64 → start_at s log e ≡ e * s.epoch
start-times s log zero fits = omega arith
start-times s log (suc e) fits =
    let sum = sums s log (suc e) in
    least-is (start_by (slots_at s) log (suc e)) (2 ^ 64 - s.epoch) (omega (arith, sum, fits)) ∙ sum

-- the slots of each epoch are below 2^64
start-low : (s : Setup) → s.epoch ≤ 64 → (log : List Value) (e : ℕ) → start_at s log e + s.epoch ≤ 2 ^ 64
start-low s few log zero = omega (arith, few)
start-low s few log (suc e) =
    let low = least-low (start_by (slots_at s) log (suc e)) (2 ^ 64 - s.epoch) in
    omega (arith, few, low)

below-all : (bound : ℕ) (ss : List Slot) → ((x : Slot) → In x ss → x.0 < bound) → AreBelow bound ss
below-all bound [] h = tt
below-all bound (x ∷ ss) h = (h x (inl refl), below-all bound ss (λ y i. h y (inr i)))

segment-low : (p : Plan) (l bound : ℕ) → first_slot p + p.slots ≤ bound → AreBelow bound (segment p l)
segment-low p l bound fits = below-all bound (segment p l)
    (λ x i. let within = ((segment_slots p l x).0 i).0 in let high = within.1 in omega (arith, high, fits))

-- a node's own signature is valid by the rules
pub own-verifies : (s : Setup) (k q : ℕ) (statement : List ℕ) → IsHeight s.keys → q < 2 ^ s.keys → k < s.n →
    (rules_of s).verifies k statement (signature_of (node_secret k) s.keys q statement) ≡ true
own-verifies s k q statement high leaf number =
    (verified-by (keys_of s).nodes k statement (signature_of (node_secret k) s.keys q statement)).1
    (node-verifies s.n s.clients s.keys k q statement high leaf number)

module _ {Msg : Type 0} (M : Module Msg) (s : Setup) (h : IsSetupOf M s) where
  -- each epoch is well divided, whoever leads it
  well-divided : (log : List Value) (e : ℕ) → IsGoodPlan (plan_at s log e)
  well-divided log e = good_plan s e (start_at s log e) log h.good (start-low s h.good.epoch_high log e)

  -- the leader of a slot leads its epoch
  leader-leads : (e : ℕ) (log : List Value) (slot : ℕ) → leads (plan_at s log e) (number_of (slot_leader (plan_at s log e) slot)) ≡ true
  leader-leads e log slot =
      let p = plan_at s log e in
      let r = turn_in p.leaders (slot - first_slot p) (well-divided log e).some in
      let q : slot_leader p slot ≡ Some r.0 = r.1.1 in
      rw q (leads-of p.leaders r.0 r.1.0)

  good-params : (log : List Value) (e l : ℕ) → (rules_of s).leads log e l ≡ true → IsGoodParams M ((rules_of s).params log e l)
  good-params log e l lead =
      let p = plan_at s log e in
      let plan = well-divided log e in
      let inside : In (node l) p.leaders = leads_means l p.leaders lead in
      record {
        setup = h.good;
        kind = h.kind;
        nodes = h.nodes;
        majority = h.majority;
        leader = ascending-low 0 s.n p.leaders plan.ascending (node l) inside;
        some = some_slot p (omega (arith, plan.no_more, plan.enough)) l inside;
        few = omega (arith, segment_few p l, h.good.epoch_high);
        ascending = segment_ascending p l;
        slots_low = segment-low p l (2 ^ 64) (start-low s h.good.epoch_high log e);
        directory = refl;
      }

  pub sound-rules : IsSoundRules s M (rules_of s)
  sound-rules = record {
    some_slots = λ log e. omega (arith, (few_nodes s h.good).0, h.good.epoch_low);
    most = λ log e. omega arith;
    leads = λ log. leader-leads (epoch_at (rules_of s) log) (before_at (rules_of s) log) (length log);
    good = good-params;
    setup = λ log e l. refl;
    epoch = λ log e l. refl;
    leader = λ log e l. refl;
    batch = subst (λ (v : ℕ). s.batch ≤ requests_most v) (sym h.good.version) h.good.batch_high;
    signers = λ k statement sig v. (verified-by (keys_of s).nodes k statement sig).0 v;
  }

-- rules stay sound with another check of requests' signatures
pub however-signed : {Msg : Type 0} (M : Module Msg) (s : Setup) (R : Rules) (signed : Request → Bool) → IsSoundRules s M R →
    IsSoundRules s M (record R { signed = signed })
however-signed M s R signed h = record {
  some_slots = h.some_slots;
  most = h.most;
  leads = h.leads;
  good = h.good;
  setup = h.setup;
  epoch = h.epoch;
  leader = h.leader;
  batch = h.batch;
  signers = h.signers;
}

-- a request that a client signs with the leaf of its number is validly signed
pub request-signed : (s : Setup) (client number : ℕ) (payload : List ℕ) → IsHeight s.keys → client < s.clients → number < 2 ^ s.keys → length payload ≤ 256 →
    (rules_of s).signed (request_of s client number payload) ≡ true
request-signed s client number payload high below leaf few =
    let id : ReqId = record { client = client; number = number } in
    let statement : List ℕ = request_statement id payload in
    let sig : List ℕ = signature_of (client_secret client) s.keys number statement in
    let verified : is_verified_by (keys_of s).clients client statement sig ≡ true =
    (verified-by (keys_of s).clients client statement sig).1 (client-verifies s.n s.clients s.keys client number statement high leaf below) in
    let short : nat_le (length payload) 256 ≡ true = le-leb (length payload) 256 few in
    let low : nat_lt number (2 ^ 32) ≡ true = le-leb (suc number) (2 ^ 32) (lt_of_lt_of_le leaf (pow_mono (let le : s.keys ≤ 32 = omega (arith, high.1) in le))) in
    both (nat_lt number (2 ^ 32)) _ low (both (nat_le (length payload) 256) _ short verified)

-- a signed request has an encoding
pub signed-spelled : (s : Setup) → IsHeight s.keys → (q : Request) → (rules_of s).signed q ≡ true → HasSpelling q
signed-spelled s high q h =
    let statement : List ℕ = request_statement q.id q.payload in
    let a = and-true (nat_lt q.id.number (2 ^ 32)) _ h in
    let b = and-true (nat_le (length q.payload) 256) _ a.1 in
    let v = client-root s.n s.clients s.keys q.id.client statement q.sig ((verified-by (keys_of s).clients q.id.client statement q.sig).0 b.1) in
    both (nat_lt q.id.number (2 ^ 32)) _ a.0 (both (nat_le (length q.payload) 256) _ b.0 (signature_shaped s.keys q.sig high v.exact v.height))
