-- Packets that are posted one by one.
use Rattle.std.proofs.Common.{◌≡◌, ℕ, zero, suc, ◌+◌, ◌<◌, Bool, true, false, List, [], ◌∷◌, ◌++◌, length, take, get_or, refl, sym, ap, ◌∙◌, subst, add-one, if◌then◌else◌, Some}
use Rattle.std.specs.Prelude.{cond}
use Rattle.std.specs.List.{filter}
use Rattle.std.proofs.Math.Seq.{take-suc}
use Rattle.iss_request.specs.declared.setups.Setup.{Setup}
use Rattle.iss_base.specs.Lists.{below, nth}
use Rattle.iss_model.specs.Run.{addressees, cores_of, posted_all, posted_to}
use Rattle.iss_theorems.proofs.Refinement.PacketsHoldSends.{posted-append}
use Rattle.iss_network.specs.Network.{Network, posted}
use Rattle.iss_network.specs.declared.packets.Sent.{Sent}
use Rattle.iss_sb.specs.declared.effects.To.{To}
use Rattle.iss_sb.specs.declared.effects.To.TheVariants.{All as To_all, One as To_one}
use Rattle.iss_world.specs.Internal.Shape.{IsNetworkOf}
use Rattle.iss_world.specs.Internal.Posting.{is_for}
use Rattle.iss_world.specs.State.{AreBetweenCores, SimulationState, with_network}

between-more : (n : ℕ) (ps : List Sent) (p : Sent) → AreBetweenCores n ps → p.from < n → p.to < n → AreBetweenCores n (ps ++ p ∷ [])
between-more n [] p h from to = (from, to, tt)
between-more n (q ∷ qs) p h from to = (h.0, h.1, between-more n qs p h.2 from to)

pub for-at : (n : ℕ) (ps : List Sent) (k : ℕ) (p : Sent) → AreBetweenCores n ps → nth ps k ≡ Some p → p.to < n
for-at n [] k p h e = absurd cc
for-at n (q ∷ qs) zero p h e = let is : q ≡ p = cc in subst (λ (x : Sent). x.to < n) is h.1
for-at n (q ∷ qs) (suc k) p h e = for-at n qs k p h.2 e

-- Posting a packet between two of n cores keeps the network well formed.
pub between-posted : (b : Bool) (n : ℕ) (w : Network) (p : Sent) → IsNetworkOf n w → p.from < n → p.to < n → IsNetworkOf n (if b then posted w p else w)
between-posted true n w p h from to = record { held = h.held; packets = between-more n w.packets p h.packets from to }
between-posted false n w p h from to = h

posted_to-append : (w : Network) (from : ℕ) (b : List ℕ) (xs ys : List ℕ) → posted_to w from b (xs ++ ys) ≡ posted_to (posted_to w from b xs) from b ys
posted_to-append w from b [] ys = refl
posted_to-append w from b (x ∷ xs) ys = posted_to-append (posted w (record { from = from; to = x; bytes = b })) from b xs ys

-- The first i elements and the next one.
pub take-next : {A : Type 0} (xs : List A) (i : ℕ) (x : A) → i < length xs → x ≡ get_or xs i x → take (i + 1) xs ≡ take i xs ++ x ∷ []
take-next {A} xs i x lt is = rw add-one (take-suc xs i x lt ∙ ap (λ (y : A). take i xs ++ y ∷ []) (sym is))

-- The first i sends and the next one.
pub all-next : (n : Setup) (w now later : Network) (from : ℕ) (xs : List (To × List ℕ)) (i : ℕ) (x : To × List ℕ) → i < length xs → x ≡ get_or xs i x → now ≡ posted_all n w from (take i xs) → later ≡ posted_to now from x.1 (addressees n x.0) → later ≡ posted_all n w from (take (i + 1) xs)
all-next n w now later from xs i x lt is e l =
    l ∙ ap (λ (u : Network). posted_to u from x.1 (addressees n x.0)) e
    ∙ sym (posted-append n w from (take i xs) (x ∷ []))
    ∙ ap (λ (ys : List (To × List ℕ)). posted_all n w from ys) (sym (take-next xs i x lt is))

-- ---- the cores of a node

filter-append : (P : ℕ → Bool) (xs ys : List ℕ) → filter P (xs ++ ys) ≡ filter P xs ++ filter P ys
filter-append P [] ys = refl
filter-append P (x ∷ xs) ys = put (P x) x (filter P (xs ++ ys)) (filter P xs) (filter P ys) (filter-append P xs ys)
  where
    put : (b : Bool) (x : ℕ) (all front back : List ℕ) → all ≡ front ++ back → cond b (x ∷ all) all ≡ cond b (x ∷ front) front ++ back
    put true x all front back e = ap (λ (zs : List ℕ). x ∷ zs) e
    put false x all front back e = e

keep-one : (b : Bool) (P : ℕ → Bool) (c : ℕ) → P c ≡ b → filter P (c ∷ []) ≡ cond b (c ∷ []) []
keep-one b P c e = ap (λ (t : Bool). cond t (c ∷ []) []) e

-- The packets for the cores below c + 1 that P chooses: those for the cores below c, and one for c if P chooses it.
pub core-next : (w : Network) (from : ℕ) (b : List ℕ) (P : ℕ → Bool) (c : ℕ) (chosen : Bool) → P c ≡ chosen →
    posted_to w from b (filter P (below (c + 1)))
    ≡ (let now : Network = posted_to w from b (filter P (below c)) in
    cond chosen (posted now (record { from = from; to = c; bytes = b })) now)
core-next w from b P c chosen is =
    ap (λ (m : ℕ). posted_to w from b (filter P (below m))) (add-one c)
    ∙ ap (λ (zs : List ℕ). posted_to w from b zs) (filter-append P (below c) (c ∷ []))
    ∙ posted_to-append w from b (filter P (below c)) (filter P (c ∷ []))
    ∙ ap (λ (zs : List ℕ). posted_to (posted_to w from b (filter P (below c))) from b zs) (keep-one chosen P c is)
    ∙ one chosen (posted_to w from b (filter P (below c)))
  where
    one : (x : Bool) (now : Network) → posted_to now from b (cond x (c ∷ []) []) ≡ cond x (posted now (record { from = from; to = c; bytes = b })) now
    one true now = refl
    one false now = refl

all-kept : (xs : List ℕ) → filter (λ c. true) xs ≡ xs
all-kept [] = refl
all-kept (x ∷ xs) = ap (λ (zs : List ℕ). x ∷ zs) (all-kept xs)

-- A send is for its addressees.
pub addressees-are : (s : Setup) (to : To) → filter (is_for s to) (below (cores_of s)) ≡ addressees s to
addressees-are s To_all = all-kept (below (cores_of s))
addressees-are s (To_one node) = refl

-- ---- a simulation that posts

-- One more send.
pub send-next : {M Msg : Type 0} (v now later : SimulationState M Msg) (from : ℕ) (xs : List (To × List ℕ)) (i : ℕ) (x : To × List ℕ) → i < length xs → x ≡ get_or xs i x →
    now ≡ with_network v (posted_all v.setup v.network from (take i xs)) → later ≡ with_network now (posted_to now.network from x.1 (addressees now.setup x.0)) →
    later ≡ with_network v (posted_all v.setup v.network from (take (i + 1) xs))
send-next {M} {Msg} v now later from xs i x lt is e l =
    l ∙ ap (λ (u : SimulationState M Msg). with_network u (posted_to u.network from x.1 (addressees u.setup x.0))) e
    ∙ ap (λ (n : Network). with_network v n) (all-next v.setup v.network (posted_all v.setup v.network from (take i xs)) _ from xs i x lt is refl refl)

-- One more core, which the send is for or not.
pub core-posted : {M Msg : Type 0} (v now later : SimulationState M Msg) (from : ℕ) (x : To × List ℕ) (c : ℕ) → is_for v.setup x.0 c ≡ true →
    now ≡ with_network v (posted_to v.network from x.1 (filter (is_for v.setup x.0) (below c))) →
    later ≡ with_network now (posted now.network (record { from = from; to = c; bytes = x.1 })) →
    later ≡ with_network v (posted_to v.network from x.1 (filter (is_for v.setup x.0) (below (c + 1))))
core-posted {M} {Msg} v now later from x c is e l =
    l ∙ ap (λ (u : SimulationState M Msg). with_network u (posted u.network (record { from = from; to = c; bytes = x.1 }))) e
    ∙ ap (λ (n : Network). with_network v n) (sym (core-next v.network from x.1 (is_for v.setup x.0) c true is))

pub core-passed : {M Msg : Type 0} (v now : SimulationState M Msg) (from : ℕ) (x : To × List ℕ) (c : ℕ) → is_for v.setup x.0 c ≡ false →
    now ≡ with_network v (posted_to v.network from x.1 (filter (is_for v.setup x.0) (below c))) →
    now ≡ with_network v (posted_to v.network from x.1 (filter (is_for v.setup x.0) (below (c + 1))))
core-passed v now from x c is e =
    e ∙ ap (λ (n : Network). with_network v n) (sym (core-next v.network from x.1 (is_for v.setup x.0) c false is))
