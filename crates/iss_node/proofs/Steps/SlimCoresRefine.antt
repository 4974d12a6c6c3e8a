-- A node that refines a core refines each placed core with the same slim part.
use Rattle.std.proofs.Common.{◌≡◌, ℕ, ◌+◌, ◌*◌, ◌<◌, ◌≤◌, List, [], Some, None, length, reverse, sym, ap, ap₂, ◌∙◌, subst, arith}
use Rattle.iss_base.specs.Lists.{In}
use Rattle.iss_layout.specs.Layout.{IsStanding, epochs}
use Rattle.iss_request.specs.Log.{log_ids}
use Rattle.iss_request.specs.declared.ids.Slot.{Slot}
use Rattle.iss_request.specs.declared.requests.Batch.{Batch}
use Rattle.iss_request.specs.declared.requests.Request.{Request}
use Rattle.iss_request.specs.declared.requests.Value.{Value}
use Rattle.iss_rules.specs.Concrete.{rules_of}
use Rattle.iss_rules.specs.Past.{Past, adopted_at, before_own, cut_at, log_of, start_of, taken_in}
use Rattle.iss_rules.specs.Votes.{cert_on}
use Rattle.iss_model.specs.Node.{Core, Early as Early_message, joined}
use Rattle.iss_model.specs.Slims.{IsPlaced, SlimCore, slim}
use Rattle.iss_model.specs.Sound.{IsSoundCore}
use Rattle.iss_model.proofs.AlikeVotes.{vote-same}
use Rattle.iss_node.specs.State.{StateRefinesCore, RefinesBareCore, RefinesTaken, RefinesPastOver, NodeView, StateView, RefinesCore, bare, core_of, slot_value}
use Rattle.iss_sb.specs.Calls.{Relation}
use Rattle.iss_sb.specs.Evidence.{Item, Module, accepts, delivered}
use Rattle.iss_sb.specs.declared.effects.Params.{Params}
use Rattle.iss_segment.specs.Ground.{RestsOn}
use Rattle.iss_segment.specs.Instance.{SameIds}

-- a core of these parts
abbrev core_with : {Msg : Type 0} → Past Msg → List Request → List (Slot × Batch) → List (Early_message Msg) → ℕ → Core Msg
core_with past waiting flight early leaf = record { past = past; waiting = waiting; flight = flight; early = early; votes = []; certs = []; leaf = leaf }

module _ {S Msg : Type 0} (m : Module Msg) (refines : Relation S Msg) (v : StateView S Msg) where
  -- pasts that differ in what was before their epoch alone
  module _ (p q : Past Msg) (epoch : p.epoch ≡ q.epoch) (log : log_of (rules_of v.setup) m v.me.0 p ≡ log_of (rules_of v.setup) m v.me.0 q)
      (taken : (l : ℕ) → taken_in p l ≡ taken_in q l)
      (unborn : (e l : ℕ) → q.epoch < e → q.evidence e l ≡ [])
      (settled : (e k : ℕ) (x : Value) → adopted_at q.adopted e k ≡ Some x → e < q.epoch)
      (reached : start_of (rules_of v.setup) (log_of (rules_of v.setup) m v.me.0 q) q.epoch ≤ length (log_of (rules_of v.setup) m v.me.0 q)) where
    before-same : before_own (rules_of v.setup) m v.me.0 p ≡ before_own (rules_of v.setup) m v.me.0 q
    before-same = ap₂ (λ (xs : List Value) (e : ℕ). cut_at (rules_of v.setup) xs e) log epoch

    sound-same : IsSoundCore (rules_of v.setup) m v.me.0 (core_of v p) → IsSoundCore (rules_of v.setup) m v.me.0 (core_of v q)
    sound-same h = record {
      different = h.different;
      signed = h.signed;
      inside = λ x k out.
          sym (ap₂ (λ (b : List Value) (e : ℕ). (rules_of v.setup).inside b e x) before-same epoch)
          ∙ h.inside x k (λ z. out (subst (λ (xs : List Value). In x (log_ids xs)) log z));
      unordered = λ x k z. h.unordered x k (subst (λ (xs : List Value). In x (log_ids xs)) (sym log) z);
      reached = reached;
      settled = settled;
      unborn = unborn;
    }

    value-same : (before : List Value) (s : ℕ) → slot_value (rules_of v.setup) m v.me.0 before p s ≡ slot_value (rules_of v.setup) m v.me.0 before q s
    value-same before s =
        ap (λ (xs : List (Item Msg)). delivered m ((rules_of v.setup).params before p.epoch ((rules_of v.setup).leader before p.epoch s)) v.me.0 xs s)
        (taken ((rules_of v.setup).leader before p.epoch s))
        ∙ ap (λ (n : ℕ). delivered m ((rules_of v.setup).params before n ((rules_of v.setup).leader before n s)) v.me.0
        (taken_in q ((rules_of v.setup).leader before n s)) s) epoch

    past-same : (before : List Value) → RefinesPastOver m refines v p before → RefinesPastOver m refines v q before
    past-same before h = record {
      epoch = h.epoch ∙ epoch;
      log = sym log ∙ h.log;
      chained = h.chained;
      rests = subst (λ (n : ℕ). RestsOn v.setup before n v.plan v.windows) epoch h.rests;
      standing = subst (λ (n : ℕ). IsStanding v.setup (epochs v.setup n before) v.standing) epoch h.standing;
      start = h.start ∙ ap (λ (n : ℕ). n * v.setup.epoch) epoch;
      begun = h.begun;
      cells = λ s lo hi. h.cells s lo hi ∙ value-same before s;
      outside = h.outside;
      hole = h.hole;
      leading = h.leading;
      instances = λ l g is.
          subst (λ (x : Params). RefinesTaken refines x v.me (taken_in q l) g) (ap (λ (n : ℕ). (rules_of v.setup).params before n l) epoch)
          (subst (λ (xs : List (Item Msg)). RefinesTaken refines ((rules_of v.setup).params before p.epoch l) v.me xs g) (taken l) (h.instances l g is));
      accepted = λ l. h.accepted l ∙ ap (λ (xs : List (Item Msg)). accepts xs) (taken l);
      logged = subst (λ (xs : List Value). SameIds v.logged (log_ids (joined v.plan.start xs))) log h.logged;
      flown = h.flown;
      sound = sound-same h.sound;
      keys = h.keys;
    }

  module _ (c d : Core Msg) (placed : IsPlaced (rules_of v.setup) m v.me.0 d)
      (same : slim (rules_of v.setup) m v.me.0 c ≡ slim (rules_of v.setup) m v.me.0 d) where
    epoch-same : c.past.epoch ≡ d.past.epoch
    epoch-same = ap (λ (s : SlimCore Msg). s.epoch) same

    log-same : log_of (rules_of v.setup) m v.me.0 c.past ≡ log_of (rules_of v.setup) m v.me.0 d.past
    log-same = ap (λ (s : SlimCore Msg). s.log) same

    taken-same : (l : ℕ) → taken_in c.past l ≡ taken_in d.past l
    taken-same l =
        let x : c.past.epoch + 0 ≡ c.past.epoch = omega arith in
        let y : d.past.epoch + 0 ≡ d.past.epoch = omega arith in
        ap (λ (n : ℕ). c.past.evidence n l) (sym x) ∙ (ap (λ (s : SlimCore Msg). s.taken 0 l) same ∙ ap (λ (n : ℕ). d.past.evidence n l) y)

    bare-same : RefinesBareCore m refines v (bare c) → RefinesBareCore m refines v (bare d)
    bare-same h = record {
      core =
          let w : v.waiting ≡ d.waiting = sym (ap (λ (x : Core Msg). x.waiting) h.core) ∙ ap (λ (s : SlimCore Msg). s.waiting) same in
          let f : v.flight.casts ≡ d.flight = sym (ap (λ (x : Core Msg). x.flight) h.core) ∙ ap (λ (s : SlimCore Msg). s.flight) same in
          let e = sym (ap (λ (x : Core Msg). x.early) h.core) ∙ ap (λ (s : SlimCore Msg). s.early) same in
          let n : v.keys.used ≡ d.leaf = sym (ap (λ (x : Core Msg). x.leaf) h.core) ∙ ap (λ (s : SlimCore Msg). s.leaf) same in
          ap₂ (λ (x : List Request) (y : List (Slot × Batch)). core_with d.past x y d.early d.leaf) (sym w) (sym f)
          ∙ ap₂ (λ (x : List (Early_message Msg)) (y : ℕ). core_with d.past v.waiting v.flight.casts x y) (sym e) (sym n);
      tied =
          subst (λ (b : List Value). RefinesPastOver m refines v d.past b)
          (before-same c.past d.past epoch-same log-same taken-same placed.unborn placed.settled placed.reached)
          (past-same c.past d.past epoch-same log-same taken-same placed.unborn placed.settled placed.reached
          (before_own (rules_of v.setup) m v.me.0 c.past) h.tied);
    }

    pub held-same : StateRefinesCore m refines v c → StateRefinesCore m refines v d
    held-same h = record {
      state = bare-same h.state;
      kept = record {
        certs_are = λ e. h.kept.certs_are e ∙ ap (λ (s : SlimCore Msg). s.certs e) same;
        votes_are = λ e k none.
            let here : cert_on c.certs e ≡ None = ap (λ (s : SlimCore Msg). s.certs e) same ∙ none in
            h.kept.votes_are e k here
            ∙ vote-same c.certs d.certs c.votes d.votes
            (record { certs_are = λ n. ap (λ (s : SlimCore Msg). s.certs n) same; votes_are = ap (λ (s : SlimCore Msg). s.votes) same }) e here k;
        counted_are = h.kept.counted_are ∙ ap (λ (s : SlimCore Msg). reverse s.votes) same;
      };
    }

pub refines-same : {S Msg : Type 0} (m : Module Msg) (refines : Relation S Msg) (v : NodeView S Msg) (c d : Core Msg) → RefinesCore m refines v c →
    IsPlaced (rules_of v.state.setup) m v.state.me.0 d →
    slim (rules_of v.state.setup) m v.state.me.0 c ≡ slim (rules_of v.state.setup) m v.state.me.0 d → RefinesCore m refines v d
refines-same m refines v c d h placed same = record { fresh = h.fresh; held = held-same m refines v.state c d placed same h.held }
