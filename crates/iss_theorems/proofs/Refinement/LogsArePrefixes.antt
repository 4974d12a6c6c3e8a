-- Every run refines moves of a cluster, and the logs of its correct nodes are prefixes of one log.
use Rattle.std.proofs.Common.{◌≡◌, ◌⊎◌, inl, inr, ℕ, true, List, ◌++◌, reverse, refl, sym, subst}
use Rattle.iss_request.specs.declared.requests.Value.TheVariants.{Batch as Value_batch}
use Rattle.iss_request.specs.declared.setups.Setup.{Setup}
use Rattle.iss_schedule.specs.declared.schedules.Event.{Event}
use Rattle.iss_sb.specs.Evidence.{Module, Separate, is_correct}
use Rattle.iss_sb.specs.Laws.{IsLawful, IsSafe}
use Rattle.iss_rules.specs.Concrete.{rules_of}
use Rattle.iss_rules.specs.Formats.{formats_of}
use Rattle.iss_theorems.specs.Casts.{AreCastsAccepted, batch_of}
use Rattle.iss_theorems.specs.OneLog.{AreOfCluster, AreOneLog, free_after, shown}
use Rattle.iss_composition.specs.Checkpoints.{scheme_of}
use Rattle.iss_composition.specs.Cluster.{Cluster, Reach}
use Rattle.iss_composition.specs.Ordered.{Among, Ordered}
use Rattle.iss_rules.specs.Past.{Past, log_of}
use Rattle.iss_rules.specs.Rules.{Rules}
use Rattle.iss_rules.specs.SoundRules.{IsSoundRules}
use Rattle.iss_rules.specs.Setups.{IsSetupOf}
use Rattle.iss_rules.proofs.Faithful.{IsFaithful}
use Rattle.iss_model.specs.Run.{Held, node_of}
use Rattle.iss_model.specs.Runs.{AreAtCores, IsPrefix, pasts_of}
use Rattle.iss_model.proofs.Casts.{cast-asked, cast-judged}
use Rattle.iss_rules.proofs.Layouts.{sound-rules}
use Rattle.iss_model.proofs.Printed.{once-turned, turned, turned-cut}
use Rattle.iss_composition.proofs.Checkpoints.{exact-of}
use Rattle.iss_theorems.proofs.Refinement.Invariant.{Premises}
use Rattle.iss_theorems.proofs.Refinement.RunKeepsInvariant.{run-fits, run-grows}
use Rattle.iss_theorems.proofs.Refinement.SlotsHaveOneNumber.{same-numbers}
use Rattle.iss_theorems.proofs.Checkpoints.VotesAreForChains.{rules-voting}
use Rattle.iss_rules.proofs.Windows.{are-windows}

-- the premises of the run's invariant, for a good set-up
pub premises : {Msg : Type 0} (s : Setup) (M : Module Msg) → IsSetupOf M s → IsFaithful s (formats_of s M) M → IsLawful M → IsSafe M →
    Premises s (formats_of s M) (rules_of s) M
premises s M h faithful law safe = record {
  sound = sound-rules M s h;
  faithful = faithful;
  law = law;
  safe = safe;
  good = h.good;
  voting = rules-voting M s h;
  windows = are-windows s;
}

-- the composition theorem, of a state that moves of a cluster reach
pub composed : {Msg : Type 0} (s : Setup) (M : Module Msg) (h : Held Msg) →
    ((R : Rules) → IsSoundRules s M R → (w : Cluster Msg) → Separate (Among w.strings) → Reach s (scheme_of s) R M w → Ordered s R M w.pasts) →
    AreOfCluster s M h → Ordered s (rules_of s) M (pasts_of h.net)
composed {Msg} s M h whole c =
    let P : (ℕ → Past Msg) → Type 0 = λ pasts. Ordered s (rules_of s) M pasts in
    subst P c.pasts (whole (rules_of s) c.sound c.cluster c.separate c.reached)

-- the same in words of the printed logs
pub one-log : {Msg : Type 0} (s : Setup) (M : Module Msg) (h : Held Msg) → Ordered s (rules_of s) M (pasts_of h.net) → AreOneLog s M h
one-log s M h o =
    let prefix : (i j : ℕ) → is_correct s i ≡ true → is_correct s j ≡ true →
    IsPrefix (shown s M h i) (shown s M h j) ⊎ IsPrefix (shown s M h j) (shown s M h i) =
    λ i j oki okj. elim (o.one i j oki okj) [ inl x ↦ inl (turned _ _ x) | inr x ↦ inr (turned _ _ x) ] in
    record {
      prefix = prefix;
      once = λ i ok. once-turned (log_of (rules_of s) M i (pasts_of h.net i)) (o.once i ok);
      valid = λ i ok front back b is. o.valid i ok (reverse front) b
          (turned-cut (log_of (rules_of s) M i (pasts_of h.net i)) front back (Value_batch b) is);
      numbers = λ i j slot k l oki okj ki lj. elim (prefix i j oki okj) [
        | inl a ↦ same-numbers (shown s M h i) (shown s M h j) slot k l a ki lj
        | inr b ↦ sym (same-numbers (shown s M h j) (shown s M h i) slot l k b lj ki)
      ];
    }

module _ {Msg : Type 0} (s : Setup) (M : Module Msg) (h : IsSetupOf M s) (faithful : IsFaithful s (formats_of s M) M) (law : IsLawful M) (safe : IsSafe M) where
  abbrev given : Premises s (formats_of s M) (rules_of s) M
  given = premises s M h faithful law safe

  pub cluster-run : (events : List Event) → AreAtCores s events → AreOfCluster s M (free_after s M events)
  cluster-run events low =
      let g = free_after s M events in
      let ok = run-fits s (formats_of s M) (rules_of s) M given events low in
      record {
        cluster = record { pasts = pasts_of g.net; messages = ok.messages; book = g.signed; strings = g.hashed };
        pasts = refl;
        book = refl;
        strings = refl;
        reached = ok.reach;
        sound = sound-rules M s h;
        exact = exact-of s h.good _;
        separate = ok.separate;
      }

  pub logs-grow : (events more : List Event) → AreAtCores s events → AreAtCores s more → (i : ℕ) → is_correct s i ≡ true →
      IsPrefix (shown s M (free_after s M events) i) (shown s M (free_after s M (events ++ more)) i)
  logs-grow events more low low_more i ok = turned _ _ ((run-grows s (formats_of s M) (rules_of s) M given events more low low_more).logs i ok)

  -- what each core proposes is accepted
  pub casts-accepted : (events : List Event) → AreAtCores s events → AreCastsAccepted s M (free_after s M events)
  casts-accepted events low c slot free =
      let F = formats_of s M in
      let R = rules_of s in
      let core = (free_after s M events).net.cores c in
      let sound = ((run-fits s F R M given events low).cores c).sound in
      record {
        asked = cast-asked R M (node_of s c) core law slot free (batch_of R M (node_of s c) core);
        judged = cast-judged R M (node_of s c) core sound F law slot free;
      }
