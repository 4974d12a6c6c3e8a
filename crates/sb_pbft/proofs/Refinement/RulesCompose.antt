-- The parts of a step compose to the contract of the step.
use Rattle.std.proofs.Common.{◌≡◌, ◌≤◌, ◌+◌, ◌*◌, ℕ, Bool, false, List, [], ◌∷◌, ◌++◌, length, Option, Some, None, IfSome, refl, sym, ap, ◌∙◌, arith, subst, append-nil}
use Rattle.iss_base.specs.Lists.{In}
use Rattle.iss_keys.specs.Directories.{AreKeysOf}
use Rattle.iss_keys.specs.KeyStates.{KeyState}
use Rattle.iss_request.specs.declared.ids.Slot.{Slot}
use Rattle.iss_request.specs.declared.requests.Batch.{Batch}
use Rattle.iss_request.specs.declared.requests.Value.{Value}
use Rattle.iss_sb.specs.declared.effects.Effects.{Effects}
use Rattle.iss_sb.specs.declared.effects.Input.{Input}
use Rattle.iss_sb.specs.declared.effects.Params.{Params}
use Rattle.iss_sb.specs.Calls.{AllIn, IsNothing, IsWithin, slots_of}
use Rattle.pbft_wire.specs.declared.messages.Message.{Message}
use Rattle.sb_pbft.specs.declared.pbft.Pbft.{Pbft}
use Rattle.sb_pbft.specs.declared.proposals.Proposal.{Proposal}
use Rattle.sb_pbft.specs.Makes.{Draft, uses_all}
use Rattle.sb_pbft.specs.Pbft.{pbft}
use Rattle.sb_pbft.specs.Internal.Refines.{Does, IsTurn, Sent, Settles, held}
use Rattle.sb_pbft.specs.Internal.Turns.{Held, Turn, deliveries, delivery, drafts_all, drafts_at, idle, newly_at, settled, settled_all, turn}
use Rattle.sb_pbft.proofs.Refinement.SettleRefines.{sent-both, settles-none, slot-few, uses-both}

-- ---- nothing

pub nothing-within : (p : Params) (k : KeyState) (e : Effects Message) → IsNothing e → IsWithin pbft p k k e
nothing-within p k e nothing = record {
  delivered = let none = nothing.delivers in rw none tt;
  accepted = let none = nothing.accepted in rw none tt;
  addressed = let none = nothing.sends in rw none tt;
  same_secret = refl;
  same_height = refl;
  leaves = omega arith;
  few = omega arith;
}

pub does-nothing : (p : Params) (i : Input Message) (m : Pbft) (k : KeyState) (e : Effects Message) →
    turn p m.me.0 k.used (held m) i ≡ idle (held m) →
    IsNothing e → Does p m m i k k e
does-nothing p i m k e stays nothing = record {
  node = refl;
  turns = λ own. subst (λ (t : Turn). IsTurn p m m.me.0 k.used t e k k) (sym stays) (record {
    holds = refl;
    sends = nothing.sends;
    used = omega arith;
    accepted = nothing.accepted;
    hashed = nothing.hashed;
    delivers = nothing.delivers;
  });
  within = nothing-within p k e nothing;
}

-- ---- deliveries are within the segment, and few leaves are used

slots-both : (ds es : List (Slot × Value)) → slots_of (ds ++ es) ≡ slots_of ds ++ slots_of es
slots-both [] es = refl
slots-both (d ∷ ds) es = ap (λ (l : List Slot). d.0 ∷ l) (slots-both ds es)

in-both : (a b slots : List Slot) → AllIn a slots → AllIn b slots → AllIn (a ++ b) slots
in-both [] b slots h k = k
in-both (x ∷ xs) b slots h k = (h.0, in-both xs b slots h.1 k)

one-in : (s : Slot) (o : Option Proposal) (slots : List Slot) → In s slots → AllIn (slots_of (delivery s o)) slots
one-in s None slots h = tt
one-in s (Some q) slots h = (h, tt)

deliveries-in : (p : Params) (h : Held) (v : ℕ) (ss slots : List Slot) → AllIn ss slots →
    AllIn (slots_of (deliveries p h v ss)) slots
deliveries-in p h v [] slots all = tt
deliveries-in p h v (s ∷ ss) slots all =
    subst (λ (l : List Slot). AllIn l slots) (sym (slots-both (delivery s (newly_at p h v s.0)) (deliveries p (settled p h v s) v ss)))
    (in-both (slots_of (delivery s (newly_at p h v s.0))) (slots_of (deliveries p (settled p h v s) v ss)) slots (one-in s (newly_at p h v s.0) slots all.0)
    (deliveries-in p (settled p h v s) v ss slots all.1))

drafts-few : (p : Params) (h : Held) (answers : Bool) (v : ℕ) (ss : List Slot) →
    uses_all p (drafts_all p h answers v ss) ≤ 2 * length ss
drafts-few p h answers v [] = omega arith
drafts-few p h answers v (s ∷ ss) =
    let one = slot-few p h answers v s in
    let e : uses_all p (drafts_all p h answers v (s ∷ [])) ≡ uses_all p (drafts_at p h answers v s) = ap (λ (l : List Draft). uses_all p l)
    (append-nil (drafts_at p h answers v s)) in
    let rest = drafts-few p (settled p h v s) answers v ss in
    let both = uses-both p (drafts_at p h answers v s) (drafts_all p (settled p h v s) answers v ss) in
    omega (arith, one, e, rest, both)

-- ---- a message that is sent first, and then settled slots

abbrev pub turned : Params → List Draft → Held → Bool → ℕ → List Slot → List (List ℕ) → Option (Slot × Batch) → Turn
turned p ds h answers v slots strings accepted = record {
  held = settled_all p h v slots;
  drafts = ds ++ drafts_all p h answers v slots;
  strings = strings;
  accepted = accepted;
  delivers = deliveries p h v slots;
}

module _ (p : Params) (i : Input Message) (old mid new : Pbft) (b k l : KeyState) (e f : Effects Message) (ds : List Draft) (answers : Bool) (v : ℕ)
    (slots : List Slot) (h : Held)
    (strings : List (List ℕ)) (accepted : Option (Slot × Batch)) where
  settled-within : Sent p ds b k [] e.sends → e.delivers ≡ [] → e.accepted ≡ accepted →
      IfSome accepted (λ a. In a.0 p.slots) →
      Settles p answers v slots mid new k l e f →
      AllIn slots p.slots → uses_all p ds + 2 * length slots ≤ 2 * length p.slots + 1 → IsWithin pbft p b l f
  settled-within first none takes taken done inside few =
      let sent = sent-both p ds (drafts_all p (held mid) answers v slots) b k l [] e.sends f.sends first done.sent in
      let all = uses-both p ds (drafts_all p (held mid) answers v slots) in
      let rest = drafts-few p (held mid) answers v slots in
      let used : l.used ≡ b.used + uses_all p (ds ++ drafts_all p (held mid) answers v slots) = ap (λ (z : KeyState). z.used) sent.used in
      let delivers : f.delivers ≡ deliveries p (held mid) v slots = done.delivers ∙ ap (λ (x : List (Slot × Value)). x ++ deliveries p
      (held mid) v slots) none in
      record {
        delivered = subst (λ (x : List (Slot × Value)). AllIn (slots_of x) p.slots) (sym delivers) (deliveries-in p (held mid) v slots p.slots inside);
        accepted = subst (λ (o : Option (Slot × Batch)). IfSome o (λ a. In a.0 p.slots)) (sym (done.accepted ∙ takes)) taken;
        addressed = sent.addressed p.setup.n tt;
        same_secret = ap (λ (z : KeyState). z.secret) sent.used;
        same_height = ap (λ (z : KeyState). z.height) sent.used;
        leaves = omega (arith, used);
        few = omega (arith, used, all, rest, few);
      }

  pub does-settled : mid.me ≡ old.me → (AreKeysOf old.me.0 p.setup.keys b → held mid ≡ h) → Sent p ds b k [] e.sends →
      e.delivers ≡ [] →
      e.accepted ≡ accepted → e.hashed ≡ strings →
      IfSome accepted (λ a. In a.0 p.slots) → turn p old.me.0 b.used (held old) i ≡ turned p ds h answers v slots strings accepted →
      Settles p answers v slots mid new k l e f →
      AllIn slots p.slots → uses_all p ds + 2 * length slots ≤ 2 * length p.slots + 1 → Does p old new i b l f
  does-settled node is first none takes hashes taken turns done inside few = record {
    node = done.node ∙ node;
    turns = λ own.
        let same = is own in
        let sent = sent-both p ds (drafts_all p (held mid) answers v slots) b k l [] e.sends f.sends first done.sent in
        subst (λ (t : Turn). IsTurn p new old.me.0 b.used t f b l) (sym turns) (subst (λ (z : Held). IsTurn p new old.me.0 b.used
        (turned p ds z answers v slots strings accepted) f b l) same (record {
          holds = done.holds;
          sends = sent.sends old.me.0 own;
          used = ap (λ (z : KeyState). z.used) sent.used;
          accepted = done.accepted ∙ takes;
          hashed = done.hashed ∙ hashes;
          delivers = done.delivers ∙ ap (λ (x : List (Slot × Value)). x ++ deliveries p (held mid) v slots) none;
        }));
    within = settled-within first none takes taken done inside few;
  }

-- a message alone, with no slot to settle
pub does-sent : (p : Params) (i : Input Message) (old new : Pbft) (b l : KeyState) (f : Effects Message) (ds : List Draft) (strings : List (List ℕ)) →
    new.me ≡ old.me →
    Sent p ds b l [] f.sends → f.delivers ≡ [] → f.accepted ≡ None → f.hashed ≡ strings →
    turn p old.me.0 b.used (held old) i ≡ record (idle (held new)) { drafts = ds; strings = strings } → uses_all p ds ≤ 2 * length p.slots + 1 →
    Does p old new i b l f
does-sent p i old new b l f ds strings node sent none takes hashes turns few =
    let same : turned p ds (held new) false 0 [] strings None ≡ record (idle (held new)) { drafts = ds; strings = strings } =
    ap (λ (x : List Draft). record (idle (held new)) { drafts = x; strings = strings }) (append-nil ds) in
    does-settled p i old new new b l l f f ds false 0 [] (held new) strings None node (λ own. refl) sent none takes hashes tt (turns ∙ sym same)
    (settles-none p false 0 new l f) tt
    (let low = few in omega (arith, low))
