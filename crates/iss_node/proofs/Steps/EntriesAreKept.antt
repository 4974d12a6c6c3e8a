-- A snapshot that fits an entry takes the event's place, and is noted.
use Rattle.std.proofs.Common.{◌≡◌, ℕ, suc, ◌&&◌, Bool, true, false, cond, nat_le, List, [], ◌∷◌, Option, Some, None, length, refl, sym, ap, ◌∙◌, subst, Ok, Err}
use Rattle.iss_base.specs.Lists.{below}
use Rattle.iss_ballots.specs.Ballots.{AreKept}
use Rattle.iss_checkpoint.specs.declared.votes.Cert.{Cert}
use Rattle.iss_checkpoint.specs.declared.votes.Vote.{Vote}
use Rattle.iss_journal.specs.Frames.{max_entry}
use Rattle.iss_log.specs.LogState.{GoesOn}
use Rattle.iss_model.specs.Frames.{frame_of}
use Rattle.iss_model.specs.Node.{Core, step}
use Rattle.iss_node.proofs.Steps.EnteredLast.{IsLast, step-last}
use Rattle.iss_node.proofs.Steps.SavedAfter.{saved-after}
use Rattle.iss_node.specs.Entered.{IsHeldEntered, IsKeptEntry, encoded_by, saved_by, saved_with}
use Rattle.iss_node.specs.Internal.Storing.{HasNoted, is_entry, storable}
use Rattle.iss_node.specs.Saved.{HasSaved, SavedState, holds, saved_of}
use Rattle.iss_node.specs.State.{RefinesPast, StateRefinesCore, StateView, bare}
use Rattle.iss_node.specs.Steps.{IsHeldStepOf, IsKeptStepOf, IsOfNodes, IsSameLog, IsSameNode}
use Rattle.iss_node.specs.declared.answers.Outcome.{Outcome}
use Rattle.iss_rebuilt.specs.Stored.{is_storable, new_certs, snapshot_of}
use Rattle.iss_request.specs.declared.ids.NodeId.{NodeId}
use Rattle.iss_request.specs.declared.requests.Value.{Value}
use Rattle.iss_request.specs.declared.setups.Setup.{Setup}
use Rattle.iss_rules.specs.Concrete.{rules_of}
use Rattle.iss_rules.specs.Formats.{formats_of}
use Rattle.iss_rules.specs.Past.{Past}
use Rattle.iss_rules.specs.declared.events.NodeEvent.{NodeEvent}
use Rattle.iss_rules.specs.declared.events.Why.{Why}
use Rattle.iss_sb.specs.Calls.{AreToNodes}
use Rattle.iss_sb.specs.Evidence.{Item, Module}
use Rattle.iss_sb.specs.declared.effects.Params.{Params}
use Rattle.iss_sb.specs.declared.effects.To.{To}
use Rattle.iss_snapshot.specs.Snapshots.{fits, snapshot_row, spell_snapshot}
use Rattle.iss_snapshot.specs.declared.snapshots.Snapshot.{Snapshot}

-- ---- the bytes

alone : (b : Bool) → (b && true) ≡ b
alone true = refl
alone false = refl

-- The test of the bytes is that of the snapshot.
pub entry-is : (version : ℕ) (s : Snapshot) → is_entry (spell_snapshot version s) ≡ is_storable version s
unfolding spell_snapshot
entry-is version s = go (fits s) refl
  where
    go : (b : Bool) → fits s ≡ b → is_entry (cond b (snapshot_row version s) (0 ∷ [])) ≡ (b && nat_le (length (snapshot_row version s)) max_entry)
    go true q = alone (nat_le (length (snapshot_row version s)) max_entry)
    go false q = refl

-- ---- only what snapshots hold changes

module _ {M Msg : Type 0} (m : Module Msg) (refines : M → Params → ℕ → List (Item Msg) → Type 0) (v : StateView M Msg) where
  pub saved-tied : (saved : SavedState) (past : Past Msg) → RefinesPast m refines v past → RefinesPast m refines (record v { saved = saved }) past
  saved-tied saved past tied = record {
    epoch = tied.epoch;
    log = tied.log;
    chained = tied.chained;
    rests = tied.rests;
    standing = tied.standing;
    start = tied.start;
    begun = tied.begun;
    cells = tied.cells;
    outside = tied.outside;
    hole = tied.hole;
    leading = tied.leading;
    instances = tied.instances;
    accepted = tied.accepted;
    logged = tied.logged;
    flown = tied.flown;
    sound = tied.sound;
    keys = tied.keys;
  }

  pub saved-held : (w : StateView M Msg) (c : Core Msg) → w ≡ record v { saved = w.saved } → StateRefinesCore m refines v c → StateRefinesCore m refines w c
  saved-held w c is h =
      subst (λ (z : StateView M Msg). StateRefinesCore m refines z c) (sym is)
      (record { state = record { core = h.state.core; tied = saved-tied w.saved (bare c).past h.state.tied }; kept = h.kept })

-- ---- what a step hands out

module _ {M Msg : Type 0} (m : Module Msg) (refines : M → Params → ℕ → List (Item Msg) → Type 0) (v w new : StateView M Msg) (same : IsSameNode v w) (is : new ≡ record w { saved = new.saved }) where
  saved-same : (d : Core Msg) → saved_by m w d ≡ saved_by m v d
  saved-same d =
      ap (λ (s : Setup). snapshot_of (frame_of s m) w.me.0 (saved_of w.saved) d) same.setup
      ∙ (ap (λ (i : NodeId). snapshot_of (frame_of v.setup m) i.0 (saved_of w.saved) d) same.me
      ∙ ap (λ (x : SavedState). snapshot_of (frame_of v.setup m) v.me.0 (saved_of x) d) same.saved)

  noted : (c d : Core Msg) → StateRefinesCore m refines w c → (d.past.epoch ≡ c.past.epoch) × (d.certs ≡ c.certs) →
      ((votes : List Vote) (certs : List Cert) → AreKept w.ballots votes certs → HasSaved w.saved w.epoch (new_certs (holds w.saved) certs (below (suc (suc w.epoch)))) new.saved) →
      HasSaved v.saved (saved_by m v d).to.0 (saved_by m v d).certs new.saved
  noted c d h last has =
      let epoch : w.epoch ≡ d.past.epoch = h.state.tied.epoch ∙ sym last.0 in
      subst (λ (x : SavedState). HasSaved x d.past.epoch (new_certs (holds x) d.certs (below (suc (suc d.past.epoch)))) new.saved) same.saved
      (subst (λ (k : ℕ). HasSaved w.saved k (new_certs (holds w.saved) d.certs (below (suc (suc k)))) new.saved) epoch
      (subst (λ (certs : List Cert). HasSaved w.saved w.epoch (new_certs (holds w.saved) certs (below (suc (suc w.epoch)))) new.saved) (sym last.1) (has c.votes c.certs h.kept)))

  -- A snapshot is handed out and noted exactly if it fits an entry.
  entry-so : (c d : Core Msg) → StateRefinesCore m refines w c → (d.past.epoch ≡ c.past.epoch) × (d.certs ≡ c.certs) → (enc : List ℕ) → is_entry enc ≡ is_storable v.setup.version (saved_by m v d) →
      (b : Bool) → is_storable v.setup.version (saved_by m v d) ≡ b → HasNoted w (cond (is_entry enc) (Some enc) None) new →
      (cond (is_entry enc) (Some enc) None ≡ cond (is_storable v.setup.version (saved_by m v d)) (Some enc) None)
      × (saved_of new.saved ≡ saved_with (is_storable v.setup.version (saved_by m v d)) (saved_of v.saved) (saved_by m v d))
  entry-so c d h last enc is_same true q k = (
    ap (λ (b : Bool). cond b (Some enc) None) is_same,
    saved-after v.saved new.saved (saved_by m v d) (noted c d h last (subst (λ (b : Bool). HasNoted w (cond b (Some enc) None) new) (is_same ∙ q) k))
        ∙ ap (λ (b : Bool). saved_with b (saved_of v.saved) (saved_by m v d)) (sym q),
  )
  entry-so c d h last enc is_same false q k = (
    ap (λ (b : Bool). cond b (Some enc) None) is_same,
    ap (λ (x : SavedState). saved_of x) (subst (λ (b : Bool). HasNoted w (cond b (Some enc) None) new) (is_same ∙ q) k ∙ same.saved)
        ∙ ap (λ (b : Bool). saved_with b (saved_of v.saved) (saved_by m v d)) (sym q),
  )

  pub entry-kept : (c : Core Msg) (o : Option (Core Msg)) (bytes : Option (List ℕ)) → StateRefinesCore m refines w c → IsLast c o → IsHeldEntered m w o bytes → HasNoted w (storable bytes) new →
      IsKeptEntry m v o new.saved (storable bytes)
  entry-kept c None bytes h last is_none has =
      (ap (λ (x : Option (List ℕ)). storable x) is_none, subst (λ (x : Option (List ℕ)). HasNoted w (storable x) new) is_none has ∙ same.saved)
  entry-kept c (Some d) bytes h last is_some has =
      let enc : List ℕ = spell_snapshot v.setup.version (saved_by m v d) in
      let spelled : encoded_by m w d ≡ enc =
      ap (λ (s : Setup). spell_snapshot s.version (saved_by m w d)) same.setup ∙ ap (λ (s : Snapshot). spell_snapshot v.setup.version s) (saved-same d) in
      let whole : bytes ≡ Some enc = is_some ∙ ap (λ (x : List ℕ). Some x) spelled in
      subst (λ (x : Option (List ℕ)). IsKeptEntry m v (Some d) new.saved (storable x)) (sym whole)
      (entry-so c d h last enc (entry-is v.setup.version (saved_by m v d)) (is_storable v.setup.version (saved_by m v d)) refl
      (subst (λ (x : Option (List ℕ)). HasNoted w (storable x) new) whole has))

  -- The whole step.
  pub kept-taken : (event : NodeEvent) (o p : Outcome) → p ≡ record o { entered = storable o.entered } → HasNoted w (storable o.entered) new →
      IsHeldStepOf m refines (IsOfNodes v.setup.n event) v (λ F R me c. step F R m me c event) w (Ok o) →
      IsKeptStepOf m refines (IsOfNodes v.setup.n event) v (λ F R me c. step F R m me c event) new (Ok p)
  kept-taken event o p out has all c h =
      let k = all c h in
      let setup : new.setup ≡ w.setup = ap (λ (z : StateView M Msg). z.setup) is in
      record {
        turn = k.turn;
        step_is = k.step_is;
        turned = record {
          refined = saved-held m refines w new k.turn.core is k.turned.refined;
          made = record {
            sends = ap (λ (z : Outcome). z.sends) out ∙ k.turned.made.sends;
            own = ap (λ (z : Outcome). z.own) out ∙ k.turned.made.own;
            early = ap (λ (z : Outcome). z.early) out ∙ k.turned.made.early;
            hashed = ap (λ (z : Outcome). z.hashed) out ∙ k.turned.made.hashed;
          };
          entered = subst (λ (x : Option (List ℕ)). IsKeptEntry m v k.turn.entered new.saved x) (sym (ap (λ (z : Outcome). z.entered) out))
              (entry-kept k.turn.core k.turn.entered o.entered k.turned.refined (step-last (formats_of v.setup m) (rules_of v.setup) m v.me.0 c event k.turn k.step_is) k.turned.entered has);
          addressed = λ asked.
              subst (λ (s : Setup). AreToNodes s.n p.sends) (sym setup)
              (subst (λ (xs : List (To × List ℕ)). AreToNodes w.setup.n xs) (sym (ap (λ (z : Outcome). z.sends) out)) (k.turned.addressed asked));
        };
      }

  -- A step that was dropped notes nothing.
  pub kept-dropped : (event : NodeEvent) (why : Why) → IsHeldStepOf m refines (IsOfNodes v.setup.n event) v (λ F R me c. step F R m me c event) w (Err why) →
      IsKeptStepOf m refines (IsOfNodes v.setup.n event) v (λ F R me c. step F R m me c event) w (Err why)
  kept-dropped event why all c h = let k = all c h in record { step_is = k.step_is; refined = (k.refined, same.saved) }

  -- The log was at most extended.
  pub kept-log : IsSameLog v new
  kept-log =
      record {
        setup = ap (λ (z : StateView M Msg). z.setup) is ∙ same.setup;
        me = ap (λ (z : StateView M Msg). z.me) is ∙ same.me;
        log = subst (λ (xs : List Value). GoesOn v.log.entries xs) (sym (ap (λ (z : StateView M Msg). z.log.entries) is)) same.log;
      }

-- Set-up, identity and log are the same.
pub log-same : {M Msg : Type 0} (v w : StateView M Msg) → IsSameNode v w → IsSameLog v w
log-same v w h = record { setup = h.setup; me = h.me; log = h.log }
