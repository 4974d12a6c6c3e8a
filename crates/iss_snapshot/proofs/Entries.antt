-- Certificates, votes, packets and epochs of a snapshot are exact.
use Rattle.std.proofs.Common.{◌≡◌, ℕ, zero, suc, ◌<◌, ◌^◌, List, [], ◌∷◌, ◌++◌, length, append_assoc, refl, sym, ap, ◌∙◌, subst, inl, inr}
use Rattle.std.specs.Int.{to_be_bytes, w32, w64}
use Rattle.std.specs.List.{AllByRecursion, flat_map}
use Rattle.iss_base.specs.Lists.{push_all}
use Rattle.iss_checkpoint.specs.Bodies.{parse_vote, spell_vote}
use Rattle.iss_checkpoint.specs.Certificates.{parse_cert, spell_cert}
use Rattle.iss_checkpoint.specs.declared.votes.Cert.{Cert}
use Rattle.iss_checkpoint.specs.declared.votes.Vote.{Vote}
use Rattle.iss_checkpoint.proofs.CertGrammar.{cert-again, cert-only, cert-related}
use Rattle.iss_checkpoint.proofs.VoteGrammar.{vote-only, vote-whole}
use Rattle.iss_request.specs.Fields.{Good, IsReadAgain}
use Rattle.iss_request.specs.Formats.{parse_value, spell_value}
use Rattle.iss_request.specs.Parsing.{Parser, ◌>>=◌, block, byte, done, number, times}
use Rattle.iss_request.specs.declared.requests.Value.{Value}
use Rattle.iss_request.proofs.OneSpelling.{done_good, value_grammar}
use Rattle.iss_request.proofs.ParserLemmas.{block_again, block_parts, byte_again, byte_parts, done_parts, number_again, number_parts, then_parts, wide32, wide64}
use Rattle.iss_sb.proofs.Fields.{good-bad}
use Rattle.iss_snapshot.specs.Snapshots.{AreEpochs, IsCertEntry, IsVoteEntry, cert_entry, packet_entry, parse_cert_entry, parse_epochs, parse_packet_entry, parse_vote_entry, spell_values, vote_entry}
use Rattle.iss_snapshot.proofs.Elements.{Again, IsExact, exact-times, last-again, of-grammar, then-again}

-- ---- certificates

cert-read : (e : ℕ) (bytes rest : List ℕ) (c : Cert) → parse_cert e bytes ≡ Good c rest → (c.epoch.0 ≡ e) × IsReadAgain spell_cert (parse_cert c.epoch.0) c
cert-read e bytes rest c h =
    let is = cert-related e bytes rest c h in (
      is.epoch,
      λ more. subst (λ (k : ℕ). parse_cert k (spell_cert c ++ more) ≡ Good c more) (sym is.epoch) (cert-again e c (spell_cert c) more is),
    )

cert-entry-again : (c : Cert) → IsCertEntry c → Again (cert_entry c) parse_cert_entry c
unfolding parse_cert_entry
cert-entry-again c h =
    then-again (number w64) (λ (e : ℕ). parse_cert e) (to_be_bytes w64 c.epoch.0) (spell_cert c) c.epoch.0 c
    (λ rest. number_again w64 (2 ^ 64) wide64 c.epoch.0 rest h.0) h.1

record WasCert (bytes rest : List ℕ) (c : Cert) : Type 0 where
  fit : IsCertEntry c
  parts : bytes ≡ cert_entry c ++ rest

cert-entry-read : (bytes rest : List ℕ) (c : Cert) → parse_cert_entry bytes ≡ Good c rest → WasCert bytes rest c
unfolding parse_cert_entry
cert-entry-read bytes rest c h =
    let a = then_parts (number w64) (λ (e : ℕ). parse_cert e) bytes rest c h in
    let n = number_parts w64 (2 ^ 64) wide64 bytes a.mid a.thing a.first in
    let k = cert-read a.thing a.mid rest c a.second in
    record {
      fit = (subst (λ (e : ℕ). e < 2 ^ 64) (sym k.0) n.below, k.1);
      parts =
          n.parts
          ∙ (ap (λ (z : List ℕ). to_be_bytes w64 a.thing ++ z) (cert-only a.thing a.mid rest c a.second)
          ∙ (ap (λ (e : ℕ). to_be_bytes w64 e ++ (spell_cert c ++ rest)) (sym k.0)
          ∙ sym (append_assoc (to_be_bytes w64 c.epoch.0) (spell_cert c) rest)));
    }

pub exact-cert : IsExact IsCertEntry cert_entry parse_cert_entry
exact-cert = record {
  again = cert-entry-again;
  fit = λ bytes rest c h. (cert-entry-read bytes rest c h).fit;
  parts = λ bytes rest c h. (cert-entry-read bytes rest c h).parts;
}

-- ---- votes

pub vote-own : (by e : ℕ) (bytes rest : List ℕ) (v : Vote) → parse_vote by e bytes ≡ Good v rest → (v.by.0 ≡ by) × (v.epoch.0 ≡ e)
unfolding parse_vote
vote-own by e bytes rest v h =
    let a = then_parts _ _ bytes rest v h in
    let b = then_parts _ _ a.mid rest v a.second in
    let c = then_parts _ _ b.mid rest v b.second in
    let d = done_parts _ v c.mid rest c.second in
    (sym (ap (λ (z : Vote). z.by.0) d.0), sym (ap (λ (z : Vote). z.epoch.0) d.0))

pub vote-again : (by e : ℕ) (bytes rest : List ℕ) (v : Vote) → parse_vote by e bytes ≡ Good v rest → IsReadAgain spell_vote (parse_vote v.by.0 v.epoch.0) v
vote-again by e bytes rest v h = elim (vote-whole v) [
  | inl good ↦ good
  | inr bad ↦
      let own = vote-own by e bytes rest v h in
      let here : parse_vote by e (spell_vote v ++ rest) ≡ Good v rest = ap (parse_vote by e) (sym (vote-only by e bytes rest v h)) ∙ h in
      let there : parse_vote v.by.0 v.epoch.0 (spell_vote v ++ rest) ≡ Good v rest =
      subst (λ (k : ℕ). parse_vote k v.epoch.0 (spell_vote v ++ rest) ≡ Good v rest) (sym own.0)
      (subst (λ (k : ℕ). parse_vote by k (spell_vote v ++ rest) ≡ Good v rest) (sym own.1) here) in
      let k = bad rest in
      absurd (good-bad v rest k.0 (sym there ∙ k.1))
]

vote-entry-again : (v : Vote) → IsVoteEntry v → Again (vote_entry v) parse_vote_entry v
unfolding parse_vote_entry
vote-entry-again v h =
    then-again (number w64) (λ (e : ℕ). byte >>= λ by. parse_vote by e) (to_be_bytes w64 v.epoch.0) (v.by.0 ∷ spell_vote v) v.epoch.0 v
    (λ rest. number_again w64 (2 ^ 64) wide64 v.epoch.0 rest h.0)
    (then-again byte (λ (by : ℕ). parse_vote by v.epoch.0) (v.by.0 ∷ []) (spell_vote v) v.by.0 v (λ rest. byte_again v.by.0 rest) h.1)

record WasVote (bytes rest : List ℕ) (v : Vote) : Type 0 where
  fit : IsVoteEntry v
  parts : bytes ≡ vote_entry v ++ rest

vote-entry-read : (bytes rest : List ℕ) (v : Vote) → parse_vote_entry bytes ≡ Good v rest → WasVote bytes rest v
unfolding parse_vote_entry
vote-entry-read bytes rest v h =
    let a = then_parts (number w64) (λ (e : ℕ). byte >>= λ by. parse_vote by e) bytes rest v h in
    let b = then_parts byte (λ (by : ℕ). parse_vote by a.thing) a.mid rest v a.second in
    let n = number_parts w64 (2 ^ 64) wide64 bytes a.mid a.thing a.first in
    let own = vote-own b.thing a.thing b.mid rest v b.second in
    record {
      fit = (subst (λ (e : ℕ). e < 2 ^ 64) (sym own.1) n.below, vote-again b.thing a.thing b.mid rest v b.second);
      parts =
          n.parts
          ∙ (ap (λ (z : List ℕ). to_be_bytes w64 a.thing ++ z)
          (byte_parts a.mid b.mid b.thing b.first ∙ ap (λ (z : List ℕ). b.thing ∷ z) (vote-only b.thing a.thing b.mid rest v b.second))
          ∙ (ap (λ (e : ℕ). to_be_bytes w64 e ++ (b.thing ∷ (spell_vote v ++ rest))) (sym own.1)
          ∙ (ap (λ (k : ℕ). to_be_bytes w64 v.epoch.0 ++ (k ∷ (spell_vote v ++ rest))) (sym own.0)
          ∙ sym (append_assoc (to_be_bytes w64 v.epoch.0) (v.by.0 ∷ spell_vote v) rest))));
    }

pub exact-vote : IsExact IsVoteEntry vote_entry parse_vote_entry
exact-vote = record {
  again = vote-entry-again;
  fit = λ bytes rest v h. (vote-entry-read bytes rest v h).fit;
  parts = λ bytes rest v h. (vote-entry-read bytes rest v h).parts;
}

-- ---- early packets

abbrev pub IsShort : List ℕ → Type 0
IsShort bytes = length bytes < 2 ^ 32

packet-again : (packet : List ℕ) → IsShort packet → Again (packet_entry packet) parse_packet_entry packet
unfolding parse_packet_entry
packet-again packet lt =
    then-again (number w32) (λ (n : ℕ). block n) (to_be_bytes w32 (length packet)) packet (length packet) packet
    (λ rest. number_again w32 (2 ^ 32) wide32 (length packet) rest lt) (λ rest. block_again packet rest (length packet) refl)

record WasPacket (bytes rest packet : List ℕ) : Type 0 where
  fit : IsShort packet
  parts : bytes ≡ packet_entry packet ++ rest

packet-read : (bytes rest packet : List ℕ) → parse_packet_entry bytes ≡ Good packet rest → WasPacket bytes rest packet
unfolding parse_packet_entry
packet-read bytes rest packet h =
    let a = then_parts (number w32) (λ (n : ℕ). block n) bytes rest packet h in
    let n = number_parts w32 (2 ^ 32) wide32 bytes a.mid a.thing a.first in
    let b = block_parts a.thing a.mid rest packet a.second in
    record {
      fit = subst (λ (k : ℕ). k < 2 ^ 32) (sym b.len) n.below;
      parts =
          n.parts
          ∙ (ap (λ (z : List ℕ). to_be_bytes w32 a.thing ++ z) b.parts
          ∙ (ap (λ (k : ℕ). to_be_bytes w32 k ++ (packet ++ rest)) (sym b.len)
          ∙ sym (append_assoc (to_be_bytes w32 (length packet)) packet rest)));
    }

pub exact-packet : IsExact IsShort packet_entry parse_packet_entry
exact-packet = record {
  again = packet-again;
  fit = λ bytes rest x h. (packet-read bytes rest x h).fit;
  parts = λ bytes rest x h. (packet-read bytes rest x h).parts;
}

-- ---- the values of epochs

module _ (version : ℕ) (slots : List Value → ℕ → ℕ) where
  abbrev Values : ℕ → List Value → Type 0
  Values n values = (length values ≡ n) × AllByRecursion (λ v. IsReadAgain (spell_value version) (parse_value version) v) values

  exact-values : (n : ℕ) → IsExact (Values n) (spell_values version) (times n (parse_value version))
  exact-values n =
      exact-times (λ v. IsReadAgain (spell_value version) (parse_value version) v) (spell_value version) (parse_value version)
      (of-grammar (spell_value version) (parse_value version) (value_grammar version)) n

  abbrev others_of : ℕ → ℕ → List Value → List Value → Parser (List (List Value))
  others_of n e log values = parse_epochs version slots n (suc e) (push_all values log) >>= λ others. done (values ∷ others)

  pub epochs-again : (epochs : List (List Value)) (e : ℕ) (log : List Value) → AreEpochs version slots e log epochs →
      Again (flat_map (spell_values version) epochs) (parse_epochs version slots (length epochs) e log) epochs
  unfolding parse_epochs
  epochs-again [] e log h = λ rest. done_good [] rest
  epochs-again (values ∷ more) e log h =
      then-again (times (slots log e) (parse_value version)) (others_of (length more) e log) (spell_values version values) (flat_map (spell_values version) more) values (values ∷ more)
      ((exact-values (slots log e)).again values (h.0, h.1))
      (last-again (parse_epochs version slots (length more) (suc e) (push_all values log)) (λ (others : List (List Value)). values ∷ others)
      (flat_map (spell_values version) more) more (epochs-again more (suc e) (push_all values log) h.2))

  pub record WereEpochs (n e : ℕ) (log : List Value) (bytes rest : List ℕ) (epochs : List (List Value)) : Type 0 where
    pub count : length epochs ≡ n
    pub fit : AreEpochs version slots e log epochs
    pub parts : bytes ≡ flat_map (spell_values version) epochs ++ rest

  pub epochs-read : (n e : ℕ) (log : List Value) (bytes rest : List ℕ) (epochs : List (List Value)) →
      parse_epochs version slots n e log bytes ≡ Good epochs rest → WereEpochs n e log bytes rest epochs
  unfolding parse_epochs
  epochs-read zero e log bytes rest epochs h =
      let d = done_parts [] epochs bytes rest h in
      subst (λ (z : List (List Value)). WereEpochs 0 e log bytes rest z) d.0 (record { count = refl; fit = tt; parts = d.1 })
  epochs-read (suc n) e log bytes rest epochs h =
      let a = then_parts (times (slots log e) (parse_value version)) (others_of n e log) bytes rest epochs h in
      let b = then_parts (parse_epochs version slots n (suc e) (push_all a.thing log)) (λ (others : List (List Value)). done (a.thing ∷ others)) a.mid rest epochs a.second in
      let d = done_parts (a.thing ∷ b.thing) epochs b.mid rest b.second in
      let others = epochs-read n (suc e) (push_all a.thing log) a.mid b.mid b.thing b.first in
      let values = exact-values (slots log e) in
      let fit = values.fit bytes a.mid a.thing a.first in
      let text = flat_map (spell_values version) b.thing in
      subst (λ (z : List (List Value)). WereEpochs (suc n) e log bytes rest z) d.0 (record {
        count = ap suc others.count;
        fit = (fit.0, fit.1, others.fit);
        parts =
            values.parts bytes a.mid a.thing a.first
            ∙ (ap (λ (z : List ℕ). spell_values version a.thing ++ z) (others.parts ∙ ap (λ (z : List ℕ). text ++ z) d.1)
            ∙ sym (append_assoc (spell_values version a.thing) text rest));
      })
