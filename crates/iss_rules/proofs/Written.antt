-- What is encoded as a packet decodes to itself, or to nothing.
use Rattle.std.proofs.Common.{◌≡◌, ◌⊎◌, inl, inr, ℕ, false, List, [], Some, None, refl, sym, ap, ◌∙◌, append-nil, subst, true≢false}
use Rattle.iss_base.proofs.Lists.{none-some}
use Rattle.iss_packet.specs.Packets.{parse_packet, spell_packet}
use Rattle.iss_packet.specs.declared.packets.Packet.{Packet}
use Rattle.iss_packet.proofs.OneSpelling.{packet_grammar}
use Rattle.iss_request.specs.Fields.{IsGrammar, Parsed}
use Rattle.iss_request.specs.Formats.{parse_request, spell_request}
use Rattle.iss_request.specs.declared.requests.Request.{Request}
use Rattle.iss_request.specs.declared.setups.Setup.{Setup}
use Rattle.iss_request.proofs.OneSpelling.{request_grammar}
use Rattle.iss_sb.specs.Evidence.{Module}
use Rattle.iss_rules.specs.Formats.{formats_of, message_in, packet_as, parcel_in, parcel_of_kind, request_in, whole}
use Rattle.iss_rules.specs.Parcels.{Body, OfAsk, OfModule, OfPiece, OfRequest, OfVote, Parcel}
use Rattle.iss_rules.proofs.Faithful.{IsFaithful, IsReadBack, is_message}
use Rattle.iss_rules.proofs.FromNodes.{are-read, ask-sort, no-message, piece-sort, pieces-read, request-sort, requests-spelled, vote-sort}

-- an encoding decodes to its own value, or to nothing
whole-spelled : {A : Type 0} (spell : A → List ℕ) (parse : List ℕ → Parsed A) → IsGrammar spell parse → (x : A) →
    (whole (parse (spell x)) ≡ Some x) ⊎ (whole (parse (spell x)) ≡ None)
whole-spelled spell parse grammar x = elim (grammar.whole x) [
  | inl good ↦ inl (ap whole (ap parse (sym (append-nil (spell x))) ∙ good []))
  | inr bad ↦ let b = bad [] in inr (ap whole (ap parse (sym (append-nil (spell x))) ∙ b.1))
]

module _ {Msg : Type 0} (s : Setup) (M : Module Msg) (grammar : (version : ℕ) → IsGrammar (M.spell version) (M.parse version)) where
  read-again : (p : Packet) →
      (whole (parse_packet s.version s.n (spell_packet s.version p)) ≡ Some p) ⊎ (whole (parse_packet s.version s.n (spell_packet s.version p)) ≡ None)
  read-again p = whole-spelled (spell_packet s.version) (parse_packet s.version s.n) (packet_grammar s.version s.n) p

  message-back : (from e l : ℕ) (msg : Msg) → IsReadBack (formats_of s M) (record { from = from; epoch = e; body = OfModule l msg })
  message-back from e l msg = elim (read-again (packet_as M s.version from e (OfModule l msg))) [
    | inr none ↦ inr (ap (parcel_in M s.version) none)
    | inl some ↦ elim (whole-spelled (M.spell s.version) (M.parse s.version) (grammar s.version) msg) [
      | inl y ↦ inl (ap (parcel_in M s.version) some ∙ ap (message_in (packet_as M s.version from e (OfModule l msg))) y)
      | inr n ↦ inr (ap (parcel_in M s.version) some ∙ ap (message_in (packet_as M s.version from e (OfModule l msg))) n)
    ]
  ]

  request-back : (from e : ℕ) (q : Request) → IsReadBack (formats_of s M) (record { from = from; epoch = e; body = OfRequest q })
  request-back from e q = elim (read-again (packet_as M s.version from e (OfRequest q))) [
    | inr none ↦ inr (ap (parcel_in M s.version) none)
    | inl some ↦ elim (whole-spelled spell_request parse_request request_grammar q) [
      | inl y ↦ inl (ap (parcel_in M s.version) some ∙ ap (request_in (packet_as M s.version from e (OfRequest q))) y)
      | inr n ↦ inr (ap (parcel_in M s.version) some ∙ ap (request_in (packet_as M s.version from e (OfRequest q))) n)
    ]
  ]

  -- a packet of another kind decodes to no message
  of-kind : (p : Packet) (j : Parcel Msg) → parcel_in M s.version (whole (parse_packet s.version s.n (spell_packet s.version p))) ≡ Some j →
      parcel_of_kind M s.version p p.kind ≡ Some j
  of-kind p j h = elim (read-again p) [
    | inl some ↦ sym (ap (parcel_in M s.version) some) ∙ h
    | inr none ↦ absurd (none-some j (sym (ap (parcel_in M s.version) none) ∙ h))
  ]

  others : (k j : Parcel Msg) → is_message k.body ≡ false → (formats_of s M).unwrap ((formats_of s M).wrap k) ≡ Some j → is_message j.body ≡ false
  others k j h u = go k.body refl
    where
      read : (b : Body Msg) → k.body ≡ b → parcel_of_kind M s.version (packet_as M s.version k.from k.epoch b) (packet_as M s.version k.from k.epoch b).kind ≡ Some j
      read b q = subst (λ (x : Body Msg). parcel_of_kind M s.version (packet_as M s.version k.from k.epoch x)
          (packet_as M s.version k.from k.epoch x).kind ≡ Some j) q (of-kind (packet_as M s.version k.from k.epoch k.body) j u)

      go : (b : Body Msg) → k.body ≡ b → is_message j.body ≡ false
      go (OfModule l msg) q = absurd (true≢false (sym (ap (λ (x : Body Msg). is_message x) q) ∙ h))
      go (OfVote v) q = no-message j.body 0 (vote-sort j (packet_as M s.version k.from k.epoch (OfVote v)) _ (read (OfVote v) q))
      go OfAsk q = no-message j.body 1 (ask-sort j (packet_as M s.version k.from k.epoch OfAsk) _ (read OfAsk q))
      go (OfPiece p) q = no-message j.body 2 (piece-sort j (packet_as M s.version k.from k.epoch (OfPiece p)) _ (read (OfPiece p) q))
      go (OfRequest r) q = no-message j.body 3 (request-sort j (packet_as M s.version k.from k.epoch (OfRequest r)) _ (read (OfRequest r) q))

  pub faithful : IsFaithful s (formats_of s M) M
  faithful = record {
    messages = λ from e l msg lowf lowl. message-back from e l msg;
    asked = requests-spelled s M;
    told = are-read s M grammar;
    requests = λ q. request-back 255 0 q;
    others = others;
    pieced = pieces-read s M;
  }
