-- The node reads the same claims as the model.
use Rattle.std.proofs.Common.{◌≡◌, ◌≢◌, ◌∙◌, ◌↔◌, ℕ, ◌+◌, ◌<◌, Bool, true, false, eqb, cond, List, [], ◌∷◌, ◌++◌, append_assoc, Option, Some, None, length, take, get_or, refl, sym, ap, subst, add-one, arith}
use Rattle.std.proofs.lemmas.List.{append-nil}
use Rattle.std.proofs.Math.Seq.{take-suc}
use Rattle.std.proofs.lemmas.Bool.Decides.{nat_tests}
use Rattle.std.specs.Prelude.{is_some}
use Rattle.iss_base.proofs.Lists.{eqb-other, same-test}
use Rattle.iss_keys.proofs.DirectoryLemmas.{verified-by}
use Rattle.iss_keys.specs.Directories.{DirectoryView, VerifiesBy}
use Rattle.iss_keys.specs.VerifiedBy.{is_verified_by}
use Rattle.iss_rules.specs.Concrete.{rules_of}
use Rattle.iss_rules.specs.Formats.{formats_of}
use Rattle.iss_rules.specs.Parcels.{OfModule}
use Rattle.iss_model.specs.Node.{claims_in, only_by, own_claims, packed}
use Rattle.iss_rules.specs.Past.{Past, leads_in, params_of}
use Rattle.iss_model.specs.Views.{claims_of_body}
use Rattle.iss_node.proofs.Instances.ChecksRefine.{leads-is}
use Rattle.iss_node.specs.Internal.Inputs.{IsHandedOut}
use Rattle.iss_node.specs.Internal.Ready.{IsReadInput}
use Rattle.iss_node.specs.Internal.Shape.{IsNodeState}
use Rattle.iss_node.specs.State.{RefinesPast, StateView, core_of, led}
use Rattle.iss_node.specs.declared.answers.Outcome.{Outcome}
use Rattle.iss_request.specs.declared.ids.NodeId.{NodeId}
use Rattle.iss_request.specs.declared.setups.Setup.{Setup}
use Rattle.iss_sb.specs.Evidence.{Item, Module}
use Rattle.iss_sb.specs.declared.effects.Claim.{Claim}
use Rattle.iss_sb.specs.declared.effects.Input.TheVariants.{Receive}
use Rattle.iss_sb.specs.declared.effects.Params.{Params}
use Rattle.iss_sb.specs.declared.effects.To.{To}
use Rattle.iss_segment.specs.Instance.{SegmentState}

-- A node of the cluster is a node of the instance's set-up.
pub below : {M Msg : Type 0} (m : Module Msg) (v : StateView M Msg) → IsNodeState m v → (l k : ℕ) (g : SegmentState M) → Some g ≡ led v.segments l → k < v.setup.n → k < g.params.setup.n
below m v shape l k g at lt = subst (λ (s : Setup). k < s.n) (sym (shape.segments l g (sym at)).setup) lt

module _ {M Msg : Type 0} (m : Module Msg) (refines : M → Params → ℕ → List (Item Msg) → Type 0)
    (v : StateView M Msg) (past : Past Msg) (tied : RefinesPast m refines v past) (from l : ℕ) (msg : Msg) where
  -- The claims of a message, by whether its leader leads the epoch.
  pub claims-led : (g : SegmentState M) → Some g ≡ led v.segments l → (claims : List Claim) → claims ≡ m.claims g.params from msg → claims ≡ claims_in (rules_of v.setup) m v.me.0 past from l msg
  claims-led g at claims is =
      let lead : leads_in (rules_of v.setup) m v.me.0 past l ≡ true = leads-is m refines v past tied l true (ap (λ (o : Option (SegmentState M)). is_some o) at) in
      let same : claims ≡ m.claims (params_of (rules_of v.setup) m v.me.0 past l) from msg = is ∙ ap (λ (p : Params). m.claims p from msg) (tied.instances l g (sym at)).params in
      same ∙ sym (ap (λ (b : Bool). cond b (m.claims (params_of (rules_of v.setup) m v.me.0 past l) from msg) []) lead)

  pub claims-none : None ≡ led v.segments l → (claims : List Claim) → claims ≡ [] → claims ≡ claims_in (rules_of v.setup) m v.me.0 past from l msg
  claims-none at claims is =
      let lead : leads_in (rules_of v.setup) m v.me.0 past l ≡ false = leads-is m refines v past tied l false (ap (λ (o : Option (SegmentState M)). is_some o) at) in
      is ∙ sym (ap (λ (b : Bool). cond b (m.claims (params_of (rules_of v.setup) m v.me.0 past l) from msg) []) lead)

  -- If the leader leads the epoch, they are the claims that the instance reads.
  pub claims-there : leads_in (rules_of v.setup) m v.me.0 past l ≡ true → claims_in (rules_of v.setup) m v.me.0 past from l msg ≡ m.claims (params_of (rules_of v.setup) m v.me.0 past l) from msg
  claims-there lead = ap (λ (b : Bool). cond b (m.claims (params_of (rules_of v.setup) m v.me.0 past l) from msg) []) lead

-- The claims of a message in a packet, by whether it belongs to the current epoch.
pub message-now : {M Msg : Type 0} (m : Module Msg) (refines : M → Params → ℕ → List (Item Msg) → Type 0) (v : StateView M Msg) (past : Past Msg) (tied : RefinesPast m refines v past) (from e l : ℕ) (msg : Msg) → e ≡ v.epoch →
    (claims : List Claim) → claims ≡ claims_in (rules_of v.setup) m v.me.0 past from l msg → claims ≡ claims_of_body (rules_of v.setup) m v.me.0 (core_of v past) from e (OfModule l msg)
message-now m refines v past tied from e l msg is claims same =
    let q = tied.epoch in
    let now : eqb e past.epoch ≡ true = grind (arith, nat_tests, q, is) in
    same ∙ sym (ap (λ (b : Bool). cond b (claims_in (rules_of v.setup) m v.me.0 past from l msg) []) now)

pub message-other : {M Msg : Type 0} (m : Module Msg) (refines : M → Params → ℕ → List (Item Msg) → Type 0) (v : StateView M Msg) (past : Past Msg) (tied : RefinesPast m refines v past) (from e l : ℕ) (msg : Msg) → eqb e v.epoch ≡ false →
    (claims : List Claim) → claims ≡ [] → claims ≡ claims_of_body (rules_of v.setup) m v.me.0 (core_of v past) from e (OfModule l msg)
message-other m refines v past tied from e l msg other claims none =
    let over : eqb e past.epoch ≡ false = ap (λ (k : ℕ). eqb e k) (sym tied.epoch) ∙ other in
    none ∙ sym (ap (λ (b : Bool). cond b (claims_in (rules_of v.setup) m v.me.0 past from l msg) []) over)

-- A message was read: these are the claims of its input.
pub read-message : {M Msg : Type 0} (m : Module Msg) (refines : M → Params → ℕ → List (Item Msg) → Type 0) (v : StateView M Msg) (from l : NodeId) (msg : Msg) (claims : List Claim) → from.0 < v.setup.n →
    ((past : Past Msg) → RefinesPast m refines v past → claims ≡ claims_in (rules_of v.setup) m v.me.0 past from.0 l.0 msg) → IsReadInput m refines v l.0 (Receive from msg) claims
read-message m refines v from l msg claims sender read = record {
  sender = sender;
  read = λ past tied lead. read past tied ∙ claims-there m refines v past tied from.0 l.0 msg lead;
}

-- ---- own claims

pick : (b : Bool) (y : Claim) (xs ys zs : List Claim) → xs ≡ ys ++ zs → cond b (y ∷ xs) xs ≡ cond b (y ∷ ys) ys ++ zs
pick true y xs ys zs h = ap (λ (ws : List Claim). y ∷ ws) h
pick false y xs ys zs h = h

only-more : (me : ℕ) (xs : List Claim) (x : Claim) → only_by me (xs ++ x ∷ []) ≡ only_by me xs ++ cond (eqb x.by.0 me) (x ∷ []) []
only-more me [] x = refl
only-more me (y ∷ xs) x = pick (eqb y.by.0 me) y (only_by me (xs ++ x ∷ [])) (only_by me xs) (cond (eqb x.by.0 me) (x ∷ []) []) (only-more me xs x)

own-append : {Msg : Type 0} (m : Module Msg) (p : Params) (me : ℕ) (xs : List (To × Msg)) (x : To × Msg) → own_claims m p me (xs ++ x ∷ []) ≡ own_claims m p me xs ++ only_by me (m.claims p me x.1)
own-append m p me [] x = append-none (only_by me (m.claims p me x.1))
  where
    append-none : (ys : List Claim) → ys ++ [] ≡ ys
    append-none [] = refl
    append-none (y ∷ ys) = ap (λ (zs : List Claim). y ∷ zs) (append-none ys)
own-append m p me (y ∷ xs) x =
    ap (λ (zs : List Claim). only_by me (m.claims p me y.1) ++ zs) (own-append m p me xs x)
    ∙ sym (append_assoc (only_by me (m.claims p me y.1)) (own_claims m p me xs) (only_by me (m.claims p me x.1)))

pub own-next : {Msg : Type 0} (m : Module Msg) (p : Params) (me : ℕ) (xs : List (To × Msg)) (i : ℕ) (x : To × Msg) → i < length xs → x ≡ get_or xs i x →
    own_claims m p me (take i xs) ++ only_by me (m.claims p me x.1) ≡ own_claims m p me (take (i + 1) xs)
own-next {Msg} m p me xs i x lt is =
    let q : take (i + 1) xs ≡ take i xs ++ x ∷ [] = rw add-one (take-suc xs i x lt ∙ ap (λ (y : To × Msg). take i xs ++ y ∷ []) (sym is)) in
    sym (ap (λ (ys : List (To × Msg)). own_claims m p me ys) q ∙ own-append m p me (take i xs) x)

-- The outcome depends only on what an input leaves unchanged.
pub handed-same : {M Msg : Type 0} (m : Module Msg) (v w : StateView M Msg) (l : ℕ) (sends : List (To × Msg)) (hashed : List (List ℕ)) (o : Outcome) →
    w.setup ≡ v.setup → w.me ≡ v.me → w.epoch ≡ v.epoch → w.segments ≡ v.segments → IsHandedOut m w l sends hashed o → IsHandedOut m v l sends hashed o
handed-same m v w l sends hashed o s i e g h = record {
  sent = h.sent ∙ ap (λ (z : Setup). packed (formats_of z m) w.me.0 w.epoch l sends) s ∙ ap (λ (z : NodeId). packed (formats_of v.setup m) z.0 w.epoch l sends) i ∙ ap (λ (z : ℕ). packed (formats_of v.setup m) v.me.0 z l sends) e;
  own = λ x at. h.own x (ap (λ (gs : List (Option (SegmentState _))). led gs l) g ∙ at) ∙ ap (λ (z : NodeId). own_claims m x.params z.0 sends) i;
  early = h.early;
  hashed_is = h.hashed_is;
  entered = h.entered;
}

-- One more claim, by whether it names this node.
pub own-put : (me : ℕ) (before own xs : List Claim) (x : Claim) → own ≡ before ++ only_by me xs → x.by.0 ≡ me → own ++ x ∷ [] ≡ before ++ only_by me (xs ++ x ∷ [])
own-put me before own xs x is mine =
    let here : eqb x.by.0 me ≡ true = grind (arith, nat_tests, mine) in
    ap (λ (ys : List Claim). ys ++ x ∷ []) is ∙ append_assoc before (only_by me xs) (x ∷ [])
    ∙ sym (ap (λ (ys : List Claim). before ++ ys) (only-more me xs x ∙ ap (λ (b : Bool). only_by me xs ++ cond b (x ∷ []) []) here))

pub own-left : (me : ℕ) (before own xs : List Claim) (x : Claim) → own ≡ before ++ only_by me xs → x.by.0 ≢ me → own ≡ before ++ only_by me (xs ++ x ∷ [])
own-left me before own xs x is other =
    is ∙ sym (ap (λ (ys : List Claim). before ++ ys) (only-more me xs x ∙ ap (λ (b : Bool). only_by me xs ++ cond b (x ∷ []) []) (eqb-other x.by.0 me other) ∙ append-nil (only_by me xs)))

-- The directory verifies a signature if and only if it is valid.
pub verified-is : (d : DirectoryView) (k : ℕ) (statement other sig another : List ℕ) (b : Bool) → statement ≡ other → sig ≡ another → ((b ≡ true) ↔ VerifiesBy d.nodes k statement sig) → b ≡ is_verified_by d.nodes k other another
verified-is d k statement other sig another b is same h =
    same-test b (is_verified_by d.nodes k other another)
    (subst (λ (z : List ℕ). (b ≡ true) ↔ VerifiesBy d.nodes k other z) same (subst (λ (z : List ℕ). (b ≡ true) ↔ VerifiesBy d.nodes k z sig) is h))
    (verified-by d.nodes k other another)
