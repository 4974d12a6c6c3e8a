-- A step that reads no votes does the same at a core with votes and certificates, and keeps them.
use Rattle.std.proofs.Common.{◌≡◌, ℕ, suc, ◌==◌, Bool, true, false, cond, not, List, [], ◌∷◌, ◌++◌, Option, Some, None, refl, sym, ap, ◌∙◌, subst, Result, Ok, Err}
use Rattle.std.specs.Prelude.{nat_lt, length, Err, Ok, Result}
use Rattle.iss_base.specs.Lists.{first_of}
use Rattle.iss_ballots.specs.Ballots.{AreKept, BallotsState}
use Rattle.iss_checkpoint.specs.declared.votes.Cert.{Cert}
use Rattle.iss_checkpoint.specs.declared.votes.Vote.{Vote}
use Rattle.iss_rules.specs.Concrete.{rules_of}
use Rattle.iss_rules.specs.Formats.{formats_of}
use Rattle.iss_rules.specs.Parcels.{Formats}
use Rattle.iss_rules.specs.Verdicts.{verdict_in}
use Rattle.iss_rules.specs.Votes.{all_verify}
use Rattle.iss_model.specs.Node.{Core, Dropped, Early, Stepped, Taken, Turn, advance_epochs, by_verdict, casts_at, claims_in, claims_of_input, early_most, ended, ends, finish_step, has_leaves, is_known, keeps_early, next_slot, or_unchanged, step, step_unjudged, takes_each, takes_early, takes_message, takes_request, then_turn, try_step, unchanged}
use Rattle.iss_rules.specs.Past.{before_own, is_complete, leads_in, params_of}
use Rattle.iss_rules.specs.Rules.{Rules}
use Rattle.iss_rules.specs.declared.events.NodeEvent.TheVariants.{Propose as On_propose}
use Rattle.iss_rules.specs.declared.events.Refusal.{Refusal}
use Rattle.iss_rules.specs.declared.events.Why.{Why}
use Rattle.iss_rules.specs.declared.events.Why.TheVariants.{BadClaim, BadRequest, EarlyFull, Known, NoKeys, NotLeader, OtherEpoch, OutOfWindow as Why_out_of_window}
use Rattle.iss_node.proofs.EpochEnd.StepCompletes.{at-core}
use Rattle.iss_node.specs.Internal.Casts.{casting}
use Rattle.iss_node.specs.State.{RefinesBareCore, StateRefinesCore, StateView, bare, holding}
use Rattle.iss_node.specs.Entered.{IsEntered, IsHeldEntered}
use Rattle.iss_node.specs.Steps.{IsHeldStep, IsHeldStepOf, IsLater, IsStep, IsStepOf}
use Rattle.iss_node.specs.declared.answers.Outcome.{Outcome}
use Rattle.iss_request.specs.declared.ids.Slot.{Slot}
use Rattle.iss_request.specs.declared.requests.Request.{Request}
use Rattle.iss_sb.specs.Evidence.{Item, Module}
use Rattle.iss_sb.specs.declared.effects.Input.{Input}
use Rattle.iss_sb.specs.declared.effects.Input.TheVariants.{Receive, Timeout}
use Rattle.iss_sb.specs.declared.effects.Params.{Params}

-- The core that was entered, with votes and certificates.
abbrev pub with_entered : {Msg : Type 0} → List Vote → List Cert → Option (Core Msg) → Option (Core Msg)
with_entered votes certs None = None
with_entered votes certs (Some d) = Some (holding votes certs d)

first-held : {Msg : Type 0} (votes : List Vote) (certs : List Cert) (a b : Option (Core Msg)) → first_of (with_entered votes certs a) (with_entered votes certs b) ≡ with_entered votes certs (first_of a b)
first-held votes certs None b = refl
first-held votes certs (Some d) b = refl

module _ {Msg : Type 0} (F : Formats Msg) (R : Rules) (m : Module Msg) (me : ℕ) (votes : List Vote) (certs : List Cert) where
  abbrev pub with_turn : Turn Msg → Turn Msg
  with_turn t = record t { core = holding votes certs t.core; entered = with_entered votes certs t.entered }

  abbrev pub with_step : Stepped Msg → Stepped Msg
  with_step (Dropped why) = Dropped why
  with_step (Taken t) = Taken (with_turn t)

  if-held : (b : Bool) (t u : Turn Msg) → cond b (with_turn t) (with_turn u) ≡ with_turn (cond b t u)
  if-held true t u = refl
  if-held false t u = refl

  step-held : (b : Bool) (s u : Stepped Msg) → cond b (with_step s) (with_step u) ≡ with_step (cond b s u)
  step-held true s u = refl
  step-held false s u = refl

  drop-held : (b : Bool) (why : Why) (s u : Stepped Msg) → u ≡ with_step s → cond b (Dropped why) u ≡ with_step (cond b (Dropped why) s)
  drop-held true why s u h = refl
  drop-held false why s u h = h

  verdict-held : (w : Option Refusal) (t : Turn Msg) → by_verdict w (with_turn t) ≡ with_step (by_verdict w t)
  verdict-held None t = refl
  verdict-held (Some x) t = refl

  pub instance-held : (c : Core Msg) (l : ℕ) (input : Input Msg) → try_step F R m me (holding votes certs c) l input ≡ with_step (try_step F R m me c l input)
  instance-held c l input =
      drop-held (not (leads_in R m me c.past l)) NotLeader _ _
      (drop-held (not (all_verify R (claims_of_input m (params_of R m me c.past l) input))) BadClaim _ _
      (drop-held (not (has_leaves m (params_of R m me c.past l) c.leaf)) NoKeys _ _
      (verdict-held (verdict_in R m me c.past l input) (step_unjudged F R m me c l input))))

  pub onward-held : (t : Turn Msg) (more : Core Msg → Turn Msg) → ((c : Core Msg) → more (holding votes certs c) ≡ with_turn (more c)) → then_turn (with_turn t) more ≡ with_turn (then_turn t more)
  onward-held t more h =
      let u : Turn Msg = more t.core in
      ap (λ (u : Turn Msg). let z : Turn Msg = record { core = u.core; entered = first_of u.entered (with_entered votes certs t.entered); sends = t.sends ++ u.sends; own = t.own ++ u.own; early = t.early ++ u.early; strings = t.strings ++ u.strings } in z) (h t.core)
      ∙ ap (λ (k : Option (Core Msg)). let z : Turn Msg = record { core = holding votes certs u.core; entered = k; sends = t.sends ++ u.sends; own = t.own ++ u.own; early = t.early ++ u.early; strings = t.strings ++ u.strings } in z)
      (first-held votes certs u.entered t.entered)

  ended-held : (t : Turn Msg) → ended F R m me (with_turn t) ≡ with_turn (ended F R m me t)
  ended-held t = if-held (is_complete R m me t.core.past) (then_turn t (ends F R m me)) t

  tried-held : (c : Core Msg) (s : Stepped Msg) → or_unchanged (holding votes certs c) (with_step s) ≡ with_turn (or_unchanged c s)
  tried-held c (Dropped why) = refl
  tried-held c (Taken t) = refl

  early-held : (x : Early Msg) (c : Core Msg) → takes_early F R m me (holding votes certs c) x ≡ with_turn (takes_early F R m me c x)
  early-held x c =
      let s = try_step F R m me c x.leader (Receive (record { 0 = x.from }) x.msg) in
      let read = claims_in R m me c.past x.from x.leader x.msg in
      ap (λ (z : Stepped Msg). let t : Turn Msg = record (ended F R m me (or_unchanged (holding votes certs c) z)) { early = read } in t) (instance-held c x.leader (Receive (record { 0 = x.from }) x.msg))
      ∙ ap (λ (z : Turn Msg). let t : Turn Msg = record (ended F R m me z) { early = read } in t) (tried-held c s)
      ∙ ap (λ (z : Turn Msg). let t : Turn Msg = record z { early = read } in t) (ended-held (or_unchanged c s))

  pub each-held : (e : ℕ) (xs : List (Early Msg)) (c : Core Msg) → takes_each F R m me e xs (holding votes certs c) ≡ with_turn (takes_each F R m me e xs c)
  each-held e [] c = refl
  each-held e (x ∷ xs) c =
      ap (λ (t : Turn Msg). cond (c.past.epoch == e) (then_turn t (takes_each F R m me e xs)) (unchanged (holding votes certs c))) (early-held x c)
      ∙ ap (λ (t : Turn Msg). cond (c.past.epoch == e) t (unchanged (holding votes certs c))) (onward-held (takes_early F R m me c x) (takes_each F R m me e xs) (each-held e xs))
      ∙ if-held (c.past.epoch == e) (then_turn (takes_early F R m me c x) (takes_each F R m me e xs)) (unchanged c)

  pub settles-held : (t : Turn Msg) → advance_epochs F R m me (with_turn t) ≡ with_turn (advance_epochs F R m me t)
  settles-held t =
      let voted = then_turn t (ends F R m me) in
      let each = takes_each F R m me (suc t.core.past.epoch) t.core.early in
      ap (λ (z : Turn Msg). cond (is_complete R m me t.core.past) z (with_turn t)) (onward-held voted each (each-held (suc t.core.past.epoch) t.core.early))
      ∙ if-held (is_complete R m me t.core.past) (then_turn voted each) t

  pub settled-held : (s : Stepped Msg) → finish_step F R m me (with_step s) ≡ with_step (finish_step F R m me s)
  settled-held (Dropped why) = refl
  settled-held (Taken t) = ap (λ (z : Turn Msg). Taken z) (settles-held t)

  pub fired-held : (l : ℕ) (c : Core Msg) → finish_step F R m me (try_step F R m me (holding votes certs c) l Timeout) ≡ with_step (finish_step F R m me (try_step F R m me c l Timeout))
  fired-held l c = ap (λ (z : Stepped Msg). finish_step F R m me z) (instance-held c l Timeout) ∙ settled-held (try_step F R m me c l Timeout)

  pub message-held : (from e l : ℕ) (msg : Msg) (c : Core Msg) → takes_message F R m me (holding votes certs c) from e l msg ≡ with_step (takes_message F R m me c from e l msg)
  message-held from e l msg c =
      let input : Input Msg = Receive (record { 0 = from }) msg in
      let x : Early Msg = record { from = from; leader = l; msg = msg } in
      let now = finish_step F R m me (try_step F R m me c l input) in
      let next = cond (e == suc c.past.epoch) (keeps_early c x) (Dropped OtherEpoch) in
      ap (λ (z : Stepped Msg). cond (e == c.past.epoch) z (cond (e == suc c.past.epoch) (keeps_early (holding votes certs c) x) (Dropped OtherEpoch)))
      (ap (λ (z : Stepped Msg). finish_step F R m me z) (instance-held c l input) ∙ settled-held (try_step F R m me c l input))
      ∙ ap (λ (z : Stepped Msg). cond (e == c.past.epoch) (with_step now) z)
      (ap (λ (z : Stepped Msg). cond (e == suc c.past.epoch) z (Dropped OtherEpoch)) (step-held (nat_lt (length c.early) early_most) (Taken (unchanged (record c { early = c.early ++ x ∷ [] }))) (Dropped EarlyFull))
      ∙ step-held (e == suc c.past.epoch) (keeps_early c x) (Dropped OtherEpoch))
      ∙ step-held (e == c.past.epoch) now next

  pub request-held : (q : Request) (c : Core Msg) → takes_request R m me (holding votes certs c) q ≡ with_step (takes_request R m me c q)
  request-held q c =
      drop-held (not (R.signed q)) BadRequest _ _
      (drop-held (is_known R m me c q.id) Known _ _
      (drop-held (not (R.inside (before_own R m me c.past) c.past.epoch q.id)) Why_out_of_window _ _ refl))

  casts-held : (c : Core Msg) (o : Option Slot) → casts_at F R m me (holding votes certs c) o ≡ with_step (casts_at F R m me c o)
  casts-held c None = refl
  casts-held c (Some s) = drop-held (not (has_leaves m (params_of R m me c.past me) c.leaf)) NoKeys _ _ (ap (λ (z : Turn Msg). Taken z) (settles-held (casting F R m me c s)))

  pub proposed-held : (c : Core Msg) → step F R m me (holding votes certs c) On_propose ≡ with_step (step F R m me c On_propose)
  proposed-held c = drop-held (not (leads_in R m me c.past me)) NotLeader _ _ (casts-held c (next_slot R m me c))

-- The snapshot has the votes and certificates of the core.
pub held-entered : {M Msg : Type 0} (m : Module Msg) (w : StateView M Msg) (votes : List Vote) (certs : List Cert) → AreKept w.ballots votes certs → (d : Option (Core Msg)) (bytes : Option (List ℕ)) →
    IsEntered m w d bytes → IsHeldEntered m w (with_entered votes certs d) bytes
held-entered m w votes certs kept None bytes h = h
held-entered m w votes certs kept (Some d) bytes h = h votes certs kept

-- ---- so a proof for cores without votes holds for every core

module _ {M Msg : Type 0} (m : Module Msg) (refines : M → Params → ℕ → List (Item Msg) → Type 0) (v w : StateView M Msg) (later : IsLater v w) where
  -- If the ballots do not change, the state refines a core with the same votes and certificates.
  pub held-parts : (c d : Core Msg) → StateRefinesCore m refines v c → RefinesBareCore m refines w d → StateRefinesCore m refines w (holding c.votes c.certs d)
  held-parts c d h k = record {
    state = record { core = ap (λ (z : Core Msg). bare z) k.core; tied = k.tied };
    kept = subst (λ (b : BallotsState). AreKept b c.votes c.certs) (sym later.ballots) h.kept;
  }

  pub held-step : (step : Formats Msg → Rules → ℕ → Core Msg → Stepped Msg) (asked : Type 0) (a : Result Outcome Why) →
      ((F : Formats Msg) (R : Rules) (me : ℕ) (votes : List Vote) (certs : List Cert) (c : Core Msg) → step F R me (holding votes certs c) ≡ with_step F R m me votes certs (step F R me c)) →
      IsStepOf m refines v step w a → IsHeldStepOf m refines asked v step w a
  held-step step asked a frame all c h = go a (at-core m refines v (bare c) h.state (λ d. IsStep m refines d (step (formats_of v.setup m) (rules_of v.setup) v.me.0 d) w a) all)
    where
      by-frame : step (formats_of v.setup m) (rules_of v.setup) v.me.0 c ≡ with_step (formats_of v.setup m) (rules_of v.setup) m v.me.0 c.votes c.certs (step (formats_of v.setup m) (rules_of v.setup) v.me.0 (bare c))
      by-frame = frame (formats_of v.setup m) (rules_of v.setup) v.me.0 c.votes c.certs (bare c)

      go : (a : Result Outcome Why) → IsStep m refines (bare c) (step (formats_of v.setup m) (rules_of v.setup) v.me.0 (bare c)) w a → IsHeldStep m refines asked c (step (formats_of v.setup m) (rules_of v.setup) v.me.0 c) w a
      go (Ok o) s = record {
        turn = with_turn (formats_of v.setup m) (rules_of v.setup) m v.me.0 c.votes c.certs s.turn;
        step_is = by-frame ∙ ap (λ (z : Stepped Msg). with_step (formats_of v.setup m) (rules_of v.setup) m v.me.0 c.votes c.certs z) s.step_is;
        turned = record {
          refined = held-parts c s.turn.core h s.turned.refined;
          made = record { sends = s.turned.made.sends; own = s.turned.made.own; early = s.turned.made.early; hashed = s.turned.made.hashed };
          entered = held-entered m w c.votes c.certs (subst (λ (b : BallotsState). AreKept b c.votes c.certs) (sym later.ballots) h.kept) s.turn.entered o.entered s.turned.entered;
          addressed = λ k. s.turned.addressed;
        };
      }
      go (Err why) s = record {
        step_is = by-frame ∙ ap (λ (z : Stepped Msg). with_step (formats_of v.setup m) (rules_of v.setup) m v.me.0 c.votes c.certs z) s.step_is;
        refined = held-parts c (bare c) h s.refined;
      }
