-- The instances of an epoch at its start, and a node that has taken no event.
use Rattle.std.proofs.Common.{inl, inr, arith, ◌≡◌, ℕ, zero, suc, ◌+◌, ◌*◌, ◌^◌, ◌<◌, ◌≤◌, Bool, true, false, List, [], ◌∷◌, ◌++◌, ◌==◌, ◌||◌, Option, Some, None, IfSome, length, refl, sym, ap, ◌∙◌, subst, length-append, true≢false}
use Rattle.std.specs.Prelude.{is_some, option_map}
use Rattle.std.specs.List.{list_any}
use Rattle.std.proofs.lemmas.Bool.Decides.{leb_tells, nat_tests}
use Rattle.iss_base.proofs.Lists.{same_or_not}
use Rattle.iss_base.specs.Lists.{In, oldest}
use Rattle.iss_layout.proofs.FairLemmas.{fair, leads_means}
use Rattle.iss_layout.specs.Layout.{Conduct, Ended, IsGoodPlan, IsStanding, Plan, conduct_of, leads, plan_by, segment}
use Rattle.iss_ballots.specs.Ballots.{AreKept, BallotsState}
use Rattle.iss_checkpoint.specs.Votes.{voters_of}
use Rattle.iss_log.specs.Chains.{ChainsState, IsChainOf}
use Rattle.iss_log.specs.LogState.{empty_log}
use Rattle.iss_rules.proofs.Logs.{newborn-log}
use Rattle.iss_model.proofs.Casts.{idle-sound}
use Rattle.iss_rules.specs.Concrete.{keys_of, plan_at, rules_of}
use Rattle.iss_model.specs.Node.{initial_core, joined}
use Rattle.iss_rules.specs.Past.{before_own, initial_history, log_of}
use Rattle.iss_rules.specs.Setups.{IsSetupOf}
use Rattle.iss_model.specs.Sound.{IsSoundCore}
use Rattle.iss_node.specs.Internal.Epochs.{AreParamsAt, AreStarted, params_by}
use Rattle.iss_node.specs.Internal.Shape.{IsNodeState}
use Rattle.iss_node.specs.State.{RefinesCore, RefinesPastOver, StateView, led}
use Rattle.iss_request.specs.Log.{has_id, log_ids}
use Rattle.iss_request.specs.Setup.{AreAscendingBelow}
use Rattle.iss_request.specs.declared.ids.NodeId.{NodeId}
use Rattle.iss_request.specs.declared.ids.Slot.{Slot}
use Rattle.iss_request.specs.declared.requests.Value.{Value}
use Rattle.iss_request.specs.declared.setups.Setup.{Setup}
use Rattle.iss_keys.specs.Directories.{AreKeysOf, DirectoryView}
use Rattle.iss_keys.specs.KeyStates.{KeyState}
use Rattle.iss_sb.specs.declared.effects.Params.{Params}
use Rattle.iss_sb.specs.Calls.{AreBelow, IsGoodParams}
use Rattle.iss_sb.specs.Evidence.{Item, Module}
use Rattle.iss_segment.specs.Instance.{RefinesItems, SegmentState}
use Rattle.iss_window.specs.Kept.{Kept, RefinesNoted}
use Rattle.iss_window.specs.Window.{none_noted}

-- ---- the parameters of an instance

below-all : (bound : ℕ) (ss : List Slot) → ((x : Slot) → In x ss → x.0 < bound) → AreBelow bound ss
below-all bound [] h = tt
below-all bound (x ∷ ss) h = (h x (inl refl), below-all bound ss (λ y i. h y (inr i)))

pub good-params : {Msg : Type 0} (m : Module Msg) (s : Setup) (e : ℕ) (plan : Plan) (l : ℕ) → IsSetupOf m s → l < s.n → IsGoodPlan plan → leads plan l ≡ true → IsGoodParams m (params_by s e plan l)
good-params m s e plan l h lt good leading =
    let f = fair plan good in
    record {
      setup = h.good;
      kind = h.kind;
      nodes = h.nodes;
      majority = h.majority;
      leader = lt;
      some = (f.segments l).some (leads_means l plan.leaders leading);
      few = (f.segments l).few;
      ascending = (f.segments l).ascending;
      slots_low = below-all (2 ^ 64) (segment plan l) (λ x i.
          let of_epoch = (((f.segments l).slots x).0 i).0.1 in
          let fits = good.fits in
          omega (arith, of_epoch, fits));
      directory = refl;
    }

pub good-copy : {Msg : Type 0} (m : Module Msg) (s t : Setup) (e : ℕ) (l : NodeId) (slots : List Slot) (directory : DirectoryView) (plan : Plan) → IsSetupOf m s → l.0 < s.n → IsGoodPlan plan → leads plan l.0 ≡ true → t ≡ s → slots ≡ segment plan l.0 →
    directory ≡ keys_of s → IsGoodParams m (record { setup = t; epoch = record { 0 = e }; leader = l; slots = slots; directory = directory })
good-copy m s t e l slots directory plan h lt good leading t_is slots_are keys_are =
    let made : Setup → List Slot → DirectoryView → Params = λ z zs d. record { setup = z; epoch = record { 0 = e }; leader = l; slots = zs; directory = d } in
    subst (λ (z : Setup). IsGoodParams m (made z slots directory)) (sym t_is)
    (subst (λ (zs : List Slot). IsGoodParams m (made s zs directory)) (sym slots_are)
    (subst (λ (d : DirectoryView). IsGoodParams m (made s (segment plan l.0) d)) (sym keys_are) (good-params m s e plan l.0 h lt good leading)))

pub copy-is : (s t : Setup) (e : ℕ) (l : NodeId) (slots : List Slot) (directory : DirectoryView) (plan : Plan) → t ≡ s → slots ≡ segment plan l.0 → directory ≡ keys_of s →
    record { setup = t; epoch = record { 0 = e }; leader = l; slots = slots; directory = directory } ≡ params_by s e plan l.0
copy-is s t e l slots directory plan t_is slots_are keys_are = λ i. record { setup = t_is i; epoch = record { 0 = e }; leader = l; slots = slots_are i; directory = (keys_are) i }

-- What holds of the parameters holds of an instance that was started with them.
pub carried-over : {A B : Type 0} (f : A → B) (Q : B → Type 0) (o : Option A) (p : Option B) → option_map f o ≡ p → IfSome p Q → IfSome o (λ x. Q (f x))
carried-over f Q None p is h = tt
carried-over f Q (Some x) p is h = subst (λ (z : Option _). IfSome z Q) (sym is) h

pub member-of : {Msg : Type 0} (m : Module Msg) (s : Setup) (me : NodeId) (e : ℕ) (plan : Plan) (l : ℕ) (o : Option Params) → IfSome o (λ p. p ≡ params_by s e plan l) → IfSome o (λ p. IsGoodParams m p) → me.0 < s.n →
    IfSome o (λ p. AreParamsAt m p me.0)
member-of m s me e plan l None is good lt = tt
member-of m s me e plan l (Some p) is good lt = record { good = good; me = subst (λ (z : Params). me.0 < z.setup.n) (sym is) lt }

-- ---- lists of instances

led-front : {M : Type 0} (gs hs : List (Option (SegmentState M))) (l : ℕ) → l < length gs → led (gs ++ hs) l ≡ led gs l
led-front [] hs l lt = absurd (omega (arith, lt))
led-front (g ∷ gs) hs zero lt = refl
led-front (g ∷ gs) hs (suc l) lt = led-front gs hs l (omega (arith, lt))

led-end : {M : Type 0} (gs : List (Option (SegmentState M))) (o : Option (SegmentState M)) → led (gs ++ o ∷ []) (length gs) ≡ o
led-end [] o = refl
led-end (g ∷ gs) o = led-end gs o

pub led-past : {M : Type 0} (gs : List (Option (SegmentState M))) (l : ℕ) → length gs ≤ l → led gs l ≡ None
led-past [] l le = refl
led-past (g ∷ gs) zero le = absurd (omega (arith, le))
led-past (g ∷ gs) (suc l) le = led-past gs l (omega (arith, le))

pub led-below : {M : Type 0} (gs : List (Option (SegmentState M))) (l : ℕ) (g : SegmentState M) → led gs l ≡ Some g → l < length gs
led-below gs l g h = elim (leb_tells (length gs) l) [
  | inl t ↦ let none = led-past gs l t.1 in let bad : None ≡ Some g = sym none ∙ h in absurd (cc)
  | inr t ↦ t.1
]

-- The instances of the first k nodes.
pub record AreBegun {M Msg : Type 0} (refines : M → Params → ℕ → List (Item Msg) → Type 0) (s : Setup) (me : NodeId) (e : ℕ) (plan : Plan) (k : ℕ)
    (segments : List (Option (SegmentState M))) : Type 0 where
  pub count : length segments ≡ k
  pub leading : (l : ℕ) → l < k → is_some (led segments l) ≡ leads plan l
  pub params : (l : ℕ) (g : SegmentState M) → led segments l ≡ Some g → g.params ≡ params_by s e plan l
  pub node : (l : ℕ) (g : SegmentState M) → led segments l ≡ Some g → g.me ≡ me
  pub instances : (l : ℕ) (g : SegmentState M) → led segments l ≡ Some g → RefinesItems refines g []

module _ {M Msg : Type 0} (refines : M → Params → ℕ → List (Item Msg) → Type 0) (s : Setup) (me : NodeId) (e : ℕ) (plan : Plan) where
  pub begun-none : AreBegun {M = M} refines s me e plan 0 []
  begun-none = record {
    count = refl;
    leading = λ l lt. absurd (omega (arith, lt));
    params = λ l g h. cc;
    node = λ l g h. cc;
    instances = λ l g h. absurd (let z : None ≡ Some g = h in cc);
  }

  pub begun-next : (k : ℕ) (gs : List (Option (SegmentState M))) (o : Option (SegmentState M)) → AreBegun refines s me e plan k gs → is_some o ≡ leads plan k → IfSome o (λ g. RefinesItems refines g []) →
      IfSome o (λ g. g.params ≡ params_by s e plan k) → IfSome o (λ g. g.me ≡ me) → AreBegun refines s me e plan (k + 1) (gs ++ o ∷ [])
  begun-next k gs o h leading instance params node = record {
    count = let n = h.count in let q = length-append gs (o ∷ []) in omega (arith, n, q);
    leading = λ l lt. elim (same_or_not l k) [
      | inl q ↦ at-end (λ i p. is_some p ≡ leads plan i) l q leading
      | inr ne ↦ let n = h.count in let less : l < k = omega (arith, lt, ne) in let within : l < length gs = omega (arith, n, less) in ap (λ (p : Option (SegmentState M)). is_some p) (led-front gs (o ∷ []) l within) ∙ h.leading l less
    ];
    params = λ l g is. each (λ i x. x.params ≡ params_by s e plan i) params h.params l g is;
    node = λ l g is. each (λ i x. x.me ≡ me) node h.node l g is;
    instances = λ l g is. each (λ i x. RefinesItems refines x []) instance h.instances l g is;
  }
    where
      at-end : (Q : ℕ → Option (SegmentState M) → Type 0) (l : ℕ) → l ≡ k → Q k o → Q l (led (gs ++ o ∷ []) l)
      at-end Q l q here =
          let n = h.count in
          subst (λ (i : ℕ). Q i (led (gs ++ o ∷ []) i)) (sym (q ∙ sym n))
          (subst (λ (p : Option (SegmentState M)). Q (length gs) p) (sym (led-end gs o)) (subst (λ (i : ℕ). Q i o) (sym n) here))

      some-of : (Q : SegmentState M → Type 0) (p : Option (SegmentState M)) (g : SegmentState M) → p ≡ Some g → IfSome p Q → Q g
      some-of Q None g q k = absurd (let z : None ≡ Some g = q in cc)
      some-of Q (Some x) g q k = let is : x ≡ g = cc in subst (λ (y : SegmentState M). Q y) is k

      each : (Q : ℕ → SegmentState M → Type 0) → IfSome o (λ g. Q k g) → ((l : ℕ) (g : SegmentState M) → led gs l ≡ Some g → Q l g) → (l : ℕ) (g : SegmentState M) → led (gs ++ o ∷ []) l ≡ Some g → Q l g
      each Q here old l g is =
          let n = h.count in
          let long = length-append gs (o ∷ []) in
          let lt = led-below (gs ++ o ∷ []) l g is in
          elim (same_or_not l (length gs)) [
            | inl q ↦
                let end : o ≡ Some g = sym (led-end gs o) ∙ ap (λ (i : ℕ). led (gs ++ o ∷ []) i) (sym q) ∙ is in
                let there : Q k g = some-of (λ x. Q k x) o g end here in
                subst (λ (i : ℕ). Q i g) (sym (q ∙ n)) there
            | inr ne ↦ let less : l < length gs = omega (arith, lt, ne, long) in old l g (sym (led-front gs (o ∷ []) l less) ∙ is)
          ]

  ascending-less : (from n : ℕ) (ls : List NodeId) (l : ℕ) → AreAscendingBelow from n ls → list_any (λ (k : NodeId). k.0 == l) ls ≡ true → l < n
  ascending-less from n [] l h some = absurd (true≢false (sym some))
  ascending-less from n (k ∷ ls) l h some = go (ascending-less (suc k.0) n ls l h.2) (k.0 == l) refl some
    where
      go : (list_any (λ (k : NodeId). k.0 == l) ls ≡ true → l < n) → (b : Bool) → (k.0 == l) ≡ b → (b || list_any (λ (k : NodeId). k.0 == l) ls) ≡ true → l < n
      go more true q x = let same : k.0 ≡ l = grind (arith, nat_tests) in omega (arith, same, h.1)
      go more false q x = more x

  pub begun-all : (n : ℕ) (gs : List (Option (SegmentState M))) → AreBegun refines s me e plan n gs → IsGoodPlan plan → plan.nodes ≡ n → AreStarted refines s me e plan gs
  begun-all n gs h good nodes = record {
    leading = λ l. elim (leb_tells n l) [
      | inl t ↦
          let m = h.count in
          let le : length gs ≤ l = omega (arith, m, t.1) in
          ap (λ (p : Option (SegmentState M)). is_some p) (led-past gs l le) ∙ sym (none l t.1 (leads plan l) refl)
      | inr t ↦ h.leading l t.1
    ];
    params = h.params;
    node = h.node;
    instances = h.instances;
  }
    where
      none : (l : ℕ) → n ≤ l → (b : Bool) → leads plan l ≡ b → leads plan l ≡ false
      none l le true q = let lt = ascending-less 0 plan.nodes plan.leaders l good.ascending q in absurd (omega (arith, lt, nodes, le))
      none l le false q = q

-- ---- a node that has taken no event

module _ {M Msg : Type 0} (m : Module Msg) (refines : M → Params → ℕ → List (Item Msg) → Type 0) (s t : Setup) (me : NodeId) (directory : DirectoryView) (plan : Plan) (windows : Kept) (standing : List Conduct)
    (gs : List (Option (SegmentState M))) (chains : ChainsState) (ballots : BallotsState) (keys : KeyState) (h : IsSetupOf m s) (t_is : t ≡ s) (directory_is : directory ≡ keys_of s) (low : me.0 < s.n)
    (divided : (p : List Ended) → IsStanding s p standing → plan ≡ plan_by s 0 0 (conduct_of p)) (stood : IsStanding s [] standing)
    (noted : RefinesNoted windows none_noted) (width : windows.width ≡ s.window)
    (started : AreStarted refines s me 0 plan gs) (count : length gs ≡ s.n)
    (version : chains.version ≡ s.version) (chained : IsChainOf chains []) (ballots_is : ballots ≡ record { voters = voters_of s (keys_of s); tallies = []; certs = []; counted = [] }) where
  abbrev pub begun : StateView M Msg
  begun = record {
    setup = t;
    me = me;
    directory = directory;
    epoch = 0;
    plan = plan;
    windows = windows;
    standing = standing;
    segments = gs;
    accepted = [];
    log = empty_log;
    chains = chains;
    waiting = [];
    flight = record { casts = []; ids = [] };
    early = [];
    logged = [];
    ballots = ballots;
    saved = record { from = 0; low = 0; strays = [] };
    keys = keys;
  }

  plan-is : plan ≡ plan_by s 0 0 (conduct_of [])
  plan-is = divided [] stood

  pub begun-shape : IsNodeState m begun
  begun-shape =
      let high = h.good.epoch_high in
      let start : plan.start ≡ 0 = ap (λ (p : Plan). p.start) plan-is in
      record {
        good = subst (λ (z : Setup). IsSetupOf m z) (sym t_is) h;
        me = subst (λ (z : Setup). me.0 < z.n) (sym t_is) low;
        directory = directory_is ∙ ap (λ (z : Setup). keys_of z) (sym t_is);
        count = count ∙ ap (λ (z : Setup). z.n) (sym t_is);
        slots = ap (λ (p : Plan). p.slots) plan-is ∙ ap (λ (z : Setup). z.epoch) (sym t_is);
        nodes = ap (λ (p : Plan). p.nodes) plan-is ∙ ap (λ (z : Setup). z.n) (sym t_is);
        fits = subst (λ (z : Setup). plan.start + z.epoch < 2 ^ 64) (sym t_is) (omega (arith, start, high));
        segments = λ l g is. record {
          setup = ap (λ (p : Params). p.setup) (started.params l g is) ∙ sym t_is;
          leader = ap (λ (p : Params). p.leader.0) (started.params l g is);
          node = started.node l g is;
        };
        early = tt;
        version = version ∙ ap (λ (z : Setup). z.version) (sym t_is);
        voters = ap (λ (b : BallotsState). b.voters) ballots_is ∙ ap (λ (d : DirectoryView). voters_of s d) (sym directory_is) ∙ ap (λ (z : Setup). voters_of z directory) (sym t_is);
      }

  no-log : log_of (rules_of t) m me.0 initial_history ≡ []
  no-log = newborn-log (rules_of t) m me.0

  before-none : before_own (rules_of t) m me.0 initial_history ≡ []
  before-none = ap (λ (xs : List Value). oldest 0 xs) no-log

  tied-first : (u : Setup) → u ≡ s → AreKeysOf me.0 s.keys keys → RefinesPastOver m refines (record begun { setup = u }) initial_history []
  tied-first u u_is own =
      let start : plan.start ≡ 0 = ap (λ (p : Plan). p.start) plan-is in
      record {
        epoch = refl;
        log = newborn-log (rules_of u) m me.0;
        chained = chained;
        rests = record { divided = plan-is ∙ ap (λ (z : Setup). plan_at z [] 0) (sym u_is); width = width ∙ ap (λ (z : Setup). z.window) (sym u_is); noted = noted };
        standing = subst (λ (z : Setup). IsStanding z [] standing) (sym u_is) stood;
        start = start ∙ (let q : 0 ≡ 0 * u.epoch = omega arith in q);
        begun = omega (arith, start);
        cells = λ k lo hi. refl;
        outside = λ k le. refl;
        hole = refl;
        leading = started.leading;
        instances = λ l g is. record { params = started.params l g is ∙ ap (λ (z : Setup). params_by z 0 plan l) (sym u_is) ∙ ap (λ (p : Plan). params_by u 0 p l) (plan-is ∙ ap (λ (z : Setup). plan_at z [] 0) (sym u_is)); node = started.node l g is; instance = started.instances l g is };
        accepted = λ l. refl;
        logged = λ x. sym (ap (λ (xs : List Value). has_id x (log_ids (joined plan.start xs))) (newborn-log (rules_of u) m me.0) ∙ ap (λ (k : ℕ). has_id x (log_ids (joined k []))) start);
        flown = λ x. refl;
        sound = early-leaf (idle-sound (rules_of u) m me.0);
        keys = subst (λ (z : Setup). AreKeysOf me.0 z.keys keys) (sym u_is) own;
      }
    where
      early-leaf : IsSoundCore (rules_of u) m me.0 initial_core → IsSoundCore (rules_of u) m me.0 (record initial_core { leaf = keys.used })
      early-leaf k = record { different = k.different; signed = k.signed; inside = k.inside; unordered = k.unordered; reached = k.reached; settled = k.settled; unborn = k.unborn }

  pub begun-refines : AreKeysOf me.0 s.keys keys → RefinesCore m refines (record { state = begun; stale = false }) (record initial_core { leaf = keys.used })
  begun-refines own = record {
    fresh = refl;
    held = record {
      state = record { core = refl; tied = subst (λ (xs : List Value). RefinesPastOver m refines begun initial_history xs) (sym before-none) (tied-first t t_is own) };
      kept = subst (λ (b : BallotsState). AreKept b [] []) (sym ballots_is) (record { certs_are = λ e. refl; votes_are = λ e k h. refl; counted_are = refl });
    };
  }
