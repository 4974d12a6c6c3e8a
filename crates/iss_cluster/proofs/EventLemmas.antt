-- What a node has stored, one event more, and that each of its events was accepted.
use Rattle.std.proofs.Common.{◌≡◌, ◌∙◌, inl, inr, ℕ, true, List, [], ◌∷◌, ◌++◌, refl, sym, ap, subst, append_assoc}
use Rattle.std.specs.Prelude.{reverse}
use Rattle.std.proofs.lemmas.List.{append-nil, reverse-append}
use Rattle.iss_base.proofs.Lists.{in_append}
use Rattle.iss_base.specs.Lists.{In}
use Rattle.iss_cluster.specs.Nodes.{AreAccepted, stored_since}
use Rattle.iss_keep.specs.Cores.{stored_after, stored_of}
use Rattle.iss_keep.specs.Entries.{NamesNode, spell_event}
use Rattle.iss_keep.specs.Recovery.{AreNamed}
use Rattle.iss_loops.specs.NodeBehavior.{NodeBehavior}
use Rattle.iss_model.specs.Frames.{frame_of, step_in}
use Rattle.iss_rebuilt.specs.Stored.{Stored, nothing_stored, stored_by, stored_on}
use Rattle.iss_request.specs.declared.setups.Setup.{Setup}
use Rattle.iss_rules.specs.declared.events.NodeEvent.{NodeEvent}
use Rattle.iss_sb.specs.Evidence.{Module}

-- what a node has stored after one event more
pub since-more : {Msg : Type 0} (s : Setup) (m : Module Msg) (me : ℕ) (base : Stored Msg) (events : List NodeEvent) (event : NodeEvent)
    → stored_since s m me base (events ++ event ∷ []) ≡ stored_after s m me (stored_since s m me base events) event
since-more s m me base events event = ap (λ (es : List NodeEvent). stored_on (frame_of s m) spell_event me base es) (reverse-append events (event ∷ []))

-- one event after the other: first those behind, and then those before them
stored-append : {Msg : Type 0} (s : Setup) (m : Module Msg) (me : ℕ) (base : Stored Msg) (xs ys : List NodeEvent)
    → stored_on (frame_of s m) spell_event me base (xs ++ ys) ≡ stored_on (frame_of s m) spell_event me (stored_on (frame_of s m) spell_event me base ys) xs
stored-append {Msg} s m me base [] ys = refl
stored-append {Msg} s m me base (x ∷ xs) ys = ap (λ (st : Stored Msg). stored_by (frame_of s m) spell_event me st x (step_in (frame_of s m) me st.core x)) (stored-append s m me base xs ys)

-- all that a node ever took
pub joined : {Msg : Type 0} (s : Setup) (m : Module Msg) (me : ℕ) (events taken : List NodeEvent) → stored_since s m me (stored_of s m me events) taken ≡ stored_of s m me (reverse taken ++ events)
joined s m me events taken = sym (stored-append s m me nothing_stored (reverse taken) events)

-- one accepted event more
pub accepted-more : (B : NodeBehavior) (before events : List NodeEvent) (event : NodeEvent) → AreAccepted B before events → B.accepts (before ++ events) event ≡ true
    → AreAccepted B before (events ++ event ∷ [])
accepted-more B before [] event h last = (ap (λ (es : List NodeEvent). B.accepts es event) (sym (append-nil before)) ∙ last, tt)
accepted-more B before (x ∷ xs) event h last =
    (h.0, accepted-more B (before ++ x ∷ []) xs event h.1 (ap (λ (es : List NodeEvent). B.accepts es event) (append_assoc before (x ∷ []) xs) ∙ last))

-- one event more that names nodes
pub named-more : (n : ℕ) (events : List NodeEvent) (event : NodeEvent) → AreNamed n events → NamesNode n event → AreNamed n (events ++ event ∷ [])
named-more n events event h last = λ e i. elim (in_append e events (event ∷ []) i) [
  | inl k ↦ h e k
  | inr k ↦ newest e k
]
  where
    newest : (e : NodeEvent) → In e (event ∷ []) → NamesNode n e
    newest e (inl q) = subst (λ (x : NodeEvent). NamesNode n x) (sym q) last
    newest e (inr k) = absurd k
