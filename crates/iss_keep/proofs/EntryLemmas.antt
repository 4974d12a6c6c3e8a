-- Decoding an event's entry gives the event, and nothing else decodes.
use Rattle.std.proofs.Common.{◌≡◌, ℕ, Bool, true, false, cond, eqb, leb, suc, List, [], ◌∷◌, ◌<◌, Option, Some, None, refl, sym, ap, ◌∙◌, subst}
use Rattle.std.proofs.lemmas.Bool.{le-leb, leb-true}
use Rattle.iss_base.proofs.Lists.{is-eq}
use Rattle.iss_rules.specs.declared.events.NodeEvent.{NodeEvent}
use Rattle.iss_rules.specs.declared.events.NodeEvent.TheVariants.{AskFrom as On_ask, Packet as On_packet, Propose as On_propose, Timeout as On_timeout}
use Rattle.iss_request.specs.declared.ids.NodeId.{NodeId}
use Rattle.iss_keep.specs.Entries.{IsEntryOf, NamesNode, ask_in, event_in, node_in, propose_in, spell_event, timeout_in}

node-read : (n : ℕ) (i : NodeId) → i.0 < n → node_in n (i.0 ∷ []) ≡ Some i
node-read n i h = ap (λ (b : Bool). cond b (Some i) None) (le-leb (suc i.0) n h)

pub spelled-read : (n : ℕ) (event : NodeEvent) → NamesNode n event → event_in n (spell_event event) ≡ Some event
spelled-read n (On_packet bytes) h = refl
spelled-read n On_propose h = refl
spelled-read n (On_timeout leader) h = ap timeout_in (node-read n leader h)
spelled-read n (On_ask peer) h = ap ask_in (node-read n peer h)

from-none : (event : NodeEvent) (P : Type 0) → None ≡ Some event → P
from-none event P h = absurd (cc)

same-some : (a b : NodeEvent) → Some a ≡ Some b → b ≡ a
same-some a b h = cc

read-propose : (n : ℕ) (rest : List ℕ) (event : NodeEvent) → propose_in rest ≡ Some event → IsEntryOf n (2 ∷ rest) event
read-propose n [] event h = rw (same-some On_propose event h) (refl, tt)
read-propose n (b ∷ rest) event h = from-none event _ h

-- A decoded identity is unique.
same-node : (a b : NodeId) → Some a ≡ Some b → a ≡ b
same-node a b h = cc

no-node : (i : NodeId) (P : Type 0) → None ≡ Some i → P
no-node i P h = absurd (cc)

below : (n node : ℕ) (i : NodeId) (b : Bool) → leb (suc node) n ≡ b → cond b (Some (record { 0 = node })) None ≡ Some i → (node ∷ [] ≡ i.0 ∷ []) × (i.0 < n)
below n node i true q h = rw (← same-node (record { 0 = node }) i h) (refl, leb-true (suc node) n q)
below n node i false q h = no-node i _ h

read-node : (n : ℕ) (rest : List ℕ) (i : NodeId) → node_in n rest ≡ Some i → (rest ≡ i.0 ∷ []) × (i.0 < n)
read-node n [] i h = no-node i _ h
read-node n (node ∷ []) i h = below n node i (leb (suc node) n) refl h
read-node n (node ∷ b ∷ rest) i h = no-node i _ h

module _ (n : ℕ) (rest : List ℕ) (event : NodeEvent) where
  read-timeout : (o : Option NodeId) → node_in n rest ≡ o → timeout_in o ≡ Some event → IsEntryOf n (3 ∷ rest) event
  read-timeout None q h = from-none event _ h
  read-timeout (Some leader) q h =
      let r = read-node n rest leader q in rw (same-some (On_timeout leader) event h) (ap (λ (bytes : List ℕ). 3 ∷ bytes) r.0, r.1)

  read-ask : (o : Option NodeId) → node_in n rest ≡ o → ask_in o ≡ Some event → IsEntryOf n (4 ∷ rest) event
  read-ask None q h = from-none event _ h
  read-ask (Some peer) q h =
      let r = read-node n rest peer q in rw (same-some (On_ask peer) event h) (ap (λ (bytes : List ℕ). 4 ∷ bytes) r.0, r.1)

module _ (n kind : ℕ) (rest : List ℕ) (event : NodeEvent) where
  as_kind : (k : ℕ) → eqb kind k ≡ true → IsEntryOf n (k ∷ rest) event → IsEntryOf n (kind ∷ rest) event
  as_kind k q h = subst (λ (z : ℕ). IsEntryOf n (z ∷ rest) event) (sym (is-eq kind k q)) h

  abbrev behind_timeout : Option NodeEvent
  behind_timeout = cond (eqb kind 4) (ask_in (node_in n rest)) None

  abbrev behind_propose : Option NodeEvent
  behind_propose = cond (eqb kind 3) (timeout_in (node_in n rest)) behind_timeout

  abbrev behind_packet : Option NodeEvent
  behind_packet = cond (eqb kind 2) (propose_in rest) behind_propose

  fourth : (b : Bool) → eqb kind 4 ≡ b → cond b (ask_in (node_in n rest)) None ≡ Some event → IsEntryOf n (kind ∷ rest) event
  fourth true q h = as_kind 4 q (read-ask n rest event (node_in n rest) refl h)
  fourth false q h = from-none event _ h

  third : (b : Bool) → eqb kind 3 ≡ b → cond b (timeout_in (node_in n rest)) behind_timeout ≡ Some event → IsEntryOf n (kind ∷ rest) event
  third true q h = as_kind 3 q (read-timeout n rest event (node_in n rest) refl h)
  third false q h = fourth (eqb kind 4) refl h

  second : (b : Bool) → eqb kind 2 ≡ b → cond b (propose_in rest) behind_propose ≡ Some event → IsEntryOf n (kind ∷ rest) event
  second true q h = as_kind 2 q (read-propose n rest event h)
  second false q h = third (eqb kind 3) refl h

  first : (b : Bool) → eqb kind 1 ≡ b → cond b (Some (On_packet rest)) behind_packet ≡ Some event → IsEntryOf n (kind ∷ rest) event
  first true q h = as_kind 1 q (rw (same-some (On_packet rest) event h) (refl, tt))
  first false q h = second (eqb kind 2) refl h

pub read-spelled : (n : ℕ) (entry : List ℕ) (event : NodeEvent) → event_in n entry ≡ Some event → IsEntryOf n entry event
read-spelled n [] event h = from-none event _ h
read-spelled n (kind ∷ rest) event h = first n kind rest event (eqb kind 1) refl h

pub entry-read : (n : ℕ) (entry : List ℕ) (event : NodeEvent) → IsEntryOf n entry event → event_in n entry ≡ Some event
entry-read n entry event h = ap (event_in n) h.0 ∙ spelled-read n event h.1
