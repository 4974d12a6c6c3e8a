-- What a replica stored leads back to it, and so does what a crash leaves while an event is journaled.
use Rattle.std.proofs.Common.{◌≡◌, ◌⊎◌, inl, inr, ℕ, ◌<◌, ◌^◌, List, [], ◌∷◌, sym, subst, ◌∙◌, arith, refl}
use Rattle.iss_base.specs.Lists.{In}
use Rattle.iss_journal.specs.Frames.{version_1}
use Rattle.iss_journal.proofs.Showing.{shown_once}
use Rattle.iss_journal.specs.Promises.{Shows, ShowsWithOrWithout}
use Rattle.iss_request.specs.declared.setups.Setup.{Setup}
use Rattle.iss_rules.specs.declared.events.NodeEvent.{NodeEvent}
use Rattle.iss_sb.specs.Evidence.{Module}
use Rattle.iss_rebuilt.specs.Laws.{HasEntry, JournalsRecover}
use Rattle.iss_rebuilt.specs.Stored.{Stored}
use Rattle.iss_keep.specs.Cores.{shown_of, stored_of}
use Rattle.iss_keep.specs.Entries.{event_in, spell_event}
use Rattle.iss_keep.specs.Recovery.{AreNamed, Recovers, RecoversOneOfTwo}
use Rattle.iss_keep.proofs.EntryLemmas.{spelled-read}
use Rattle.iss_keep.proofs.LifeLemmas.{stored-rises}
use Rattle.iss_keep.proofs.RetainLemmas.{no-snapshot, shows-more}

pub have-entries : (n : ℕ) (events : List NodeEvent) → AreNamed n events →
    (event : NodeEvent) → In event events → HasEntry spell_event (event_in n) event
have-entries n events named event i = (spelled-read n event (named event i), no-snapshot event)

module _ {Msg : Type 0} (s : Setup) (m : Module Msg) (recover : JournalsRecover s m) (me : ℕ) (low : me < s.n) where
  pub stored-recovers : (events : List NodeEvent) → AreNamed s.n events → (stored_of s m me events).core.past.epoch < 2 ^ 64 →
      Recovers s m me (shown_of (stored_of s m me events)) (stored_of s m me events)
  stored-recovers events named last = recover me low spell_event (event_in s.n) events (have-entries s.n events named) last

  module _ (events : List NodeEvent) (event : NodeEvent) (named : AreNamed s.n (event ∷ events))
      (last : (stored_of s m me (event ∷ events)).core.past.epoch < 2 ^ 64) (entry bytes : List ℕ) (found : List (List ℕ)) where
    abbrev st : Stored Msg
    st = stored_of s m me events

    abbrev next : Stored Msg
    next = stored_of s m me (event ∷ events)

    before : Recovers s m me (shown_of st) st
    before = stored-recovers events (λ e i. named e (inr i)) (let r = stored-rises s m me event events in omega (arith, r, last))

    pub before-or-after : next.entries ≡ entry ∷ st.entries → ShowsWithOrWithout version_1 (shown_of st) entry bytes → Shows version_1 found bytes →
        Recovers s m me found st ⊎ Recovers s m me found next
    before-or-after more (inl h) reads =
        inl (subst (λ (es : List (List ℕ)). Recovers s m me es st) (shown_once (shown_of st) found bytes h reads) before)
    before-or-after more (inr h) reads =
        inr (subst (λ (es : List (List ℕ)). Recovers s m me es next)
        (sym (shows-more st next (shown_of st) entry refl more) ∙ shown_once _ found bytes h reads) (stored-recovers (event ∷ events) named last))

  -- The law: of a history with no event nothing is asked.
  pub one-of-two : (events : List NodeEvent) → AreNamed s.n events → (stored_of s m me events).core.past.epoch < 2 ^ 64 → RecoversOneOfTwo m s me events
  one-of-two [] named last = tt
  one-of-two (event ∷ events) named last = λ entry bytes found more held reads. before-or-after events event named last entry bytes found more held reads
