-- What is decoded from packets: a module's message has an existing sender and decodes from its own encoding, as do the
-- values of a piece; a request has an encoding.
use Rattle.std.proofs.Common.{◌≡◌, inl, inr, ℕ, suc, ◌<◌, true, false, ◌&&◌, List, [], ◌∷◌, Option, Some, None, refl, sym, ap, ◌∙◌, subst, arith, true≢false}
use Rattle.std.specs.Prelude.{nat_lt}
use Rattle.std.proofs.lemmas.Bool.Decides.{leb_tells}
use Rattle.iss_base.specs.Lists.{In}
use Rattle.iss_base.proofs.Lists.{and-true, none-some, some-injective}
use Rattle.iss_checkpoint.specs.Bodies.{parse_vote}
use Rattle.iss_checkpoint.specs.declared.votes.Vote.{Vote as Voted}
use Rattle.iss_packet.specs.Packets.{is_routed, is_routed_as, parse_packet, parse_parts}
use Rattle.iss_packet.specs.declared.packets.Packet.{Packet}
use Rattle.iss_packet.specs.declared.packets.PacketKind.{PacketKind}
use Rattle.iss_packet.specs.declared.packets.PacketKind.TheVariants.{Message, Vote as Kind_vote, Ask, Piece as Kind_piece, Request as Kind_request}
use Rattle.iss_request.specs.Fields.{Bad, Good, IsGrammar, IsReadAgain, Parsed}
use Rattle.iss_request.specs.Formats.{HasSpelling, parse_request, parse_value, spell_value}
use Rattle.iss_request.specs.declared.requests.Request.{Request}
use Rattle.iss_request.specs.declared.requests.Value.{Value}
use Rattle.iss_request.specs.declared.setups.Setup.{Setup}
use Rattle.iss_request.proofs.OneSpelling.{request_related, value_grammar, value_related}
use Rattle.iss_request.proofs.ParserLemmas.{test_parts}
use Rattle.iss_sb.specs.Evidence.{Module}
use Rattle.iss_sb.proofs.Read.{read-again}
use Rattle.iss_transfer.specs.Bodies.{AreSpelledValues, parse_ask, parse_piece}
use Rattle.iss_transfer.specs.declared.pieces.Ask.{Ask as Asked_for}
use Rattle.iss_transfer.specs.declared.pieces.Piece.{Piece as Sent_piece}
use Rattle.iss_transfer.proofs.PieceGrammar.{piece-table}
use Rattle.iss_rules.specs.Formats.{ask_in, formats_of, message_in, parcel_in, parcel_of_kind, piece_in, request_in, vote_in, whole}
use Rattle.iss_rules.specs.Parcels.{Body, OfAsk, OfModule, OfPiece, OfRequest, OfVote, Parcel}
use Rattle.iss_rules.proofs.Faithful.{IsReadValue, is_message}

routed : (version n : ℕ) (bytes : List ℕ) (p : Packet) → whole (parse_packet version n bytes) ≡ Some p → is_routed n p ≡ true
unfolding parse_packet
routed version n bytes p = go (parse_packet version n bytes) refl
  where
    go : (r : Parsed Packet) → parse_packet version n bytes ≡ r → whole r ≡ Some p → is_routed n p ≡ true
    go (Good q []) e h = subst (λ (z : Packet). is_routed n z ≡ true) (some-injective q p h) (test_parts (is_routed n) (parse_parts version) bytes [] q e).1
    go (Good q (b ∷ rest)) e h = absurd (none-some p h)
    go (Bad at) e h = absurd (none-some p h)

-- a module's message has an existing sender
pub sender : (n : ℕ) (p : Packet) → p.kind ≡ Message → is_routed n p ≡ true → p.from < n
unfolding is_routed
sender n p q h =
    let k : (nat_lt p.from n && nat_lt p.leader n) ≡ true = subst (λ (z : PacketKind). is_routed_as n z p.from p.epoch.0 p.leader ≡ true) q h in
    elim (leb_tells (suc p.from) n) [ inl t ↦ t.1 | inr t ↦ absurd (true≢false (sym (and-true (nat_lt p.from n) (nat_lt p.leader n) k).0 ∙ t.0)) ]

-- what was decoded decodes again, whatever follows it
again : {A : Type 0} (spell : A → List ℕ) (parse : List ℕ → Parsed A) → IsGrammar spell parse → (bytes : List ℕ) (x : A) → whole (parse bytes) ≡ Some x →
    IsReadAgain spell parse x
again {A} spell parse grammar bytes x h = go (parse bytes) refl h
  where
    go : (r : Parsed A) → parse bytes ≡ r → whole r ≡ Some x → IsReadAgain spell parse x
    go (Good y []) e k = read-again spell parse grammar bytes [] x (subst (λ (z : A). parse bytes ≡ Good z []) (some-injective y x k) e)
    go (Good y (b ∷ more)) e k = absurd (none-some x k)
    go (Bad at) e k = absurd (none-some x k)

-- the kind of a content
abbrev pub sort_of : {Msg : Type 0} → Body Msg → ℕ
sort_of (OfModule l msg) = 0
sort_of (OfVote v) = 1
sort_of OfAsk = 2
sort_of (OfPiece x) = 3
sort_of (OfRequest q) = 4

pub no-message : {Msg : Type 0} (b : Body Msg) (n : ℕ) → sort_of b ≡ suc n → is_message b ≡ false
no-message (OfModule l msg) n h = absurd (omega (arith, h))
no-message (OfVote v) n h = refl
no-message OfAsk n h = refl
no-message (OfPiece x) n h = refl
no-message (OfRequest q) n h = refl

module _ {Msg : Type 0} (k : Parcel Msg) where
  sorted : (j : Parcel Msg) (n : ℕ) → Some j ≡ Some k → sort_of j.body ≡ n → sort_of k.body ≡ n
  sorted j n h q = subst (λ (z : Parcel Msg). sort_of z.body ≡ n) (some-injective j k h) q

  message-sort : (p : Packet) (o : Option Msg) → message_in p o ≡ Some k → sort_of k.body ≡ 0
  message-sort p None h = absurd (none-some k h)
  message-sort p (Some msg) h = sorted _ 0 h refl

  pub vote-sort : (p : Packet) (o : Option Voted) → vote_in p o ≡ Some k → sort_of k.body ≡ 1
  vote-sort p None h = absurd (none-some k h)
  vote-sort p (Some v) h = sorted _ 1 h refl

  pub ask-sort : (p : Packet) (o : Option Asked_for) → ask_in p o ≡ Some k → sort_of k.body ≡ 2
  ask-sort p None h = absurd (none-some k h)
  ask-sort p (Some a) h = sorted _ 2 h refl

  pub piece-sort : (p : Packet) (o : Option Sent_piece) → piece_in p o ≡ Some k → sort_of k.body ≡ 3
  piece-sort p None h = absurd (none-some k h)
  piece-sort p (Some x) h = sorted _ 3 h refl

  pub request-sort : (p : Packet) (o : Option Request) → request_in p o ≡ Some k → sort_of k.body ≡ 4
  request-sort p None h = absurd (none-some k h)
  request-sort p (Some q) h = sorted _ 4 h refl

  other-sort : (b : Body Msg) (n m : ℕ) → k.body ≡ b → sort_of b ≡ m → sort_of k.body ≡ n → (n ≡ m → ⊥) → ⊥
  other-sort b n m q is has apart = apart (sym has ∙ (ap (λ (x : Body Msg). sort_of x) q ∙ is))

-- values in sequence decode again
values-read : (version : ℕ) (vs : List Value) (bytes : List ℕ) → AreSpelledValues version vs bytes → (v : Value) → In v vs →
    IsReadAgain (spell_value version) (parse_value version) v
values-read version [] bytes h v i = absurd i
values-read version (u ∷ vs) bytes h v (inl q) = subst (λ (z : Value). IsReadAgain (spell_value version) (parse_value version) z) (sym q)
    (read-again (spell_value version) (parse_value version) (value_grammar version) h.0 [] u ((value_related version u h.0).1 h.2))
values-read version (u ∷ vs) bytes h v (inr i) = values-read version vs h.1 h.3 v i

-- so do those of a piece
pub pieces-read : {Msg : Type 0} (s : Setup) (M : Module Msg) (bytes : List ℕ) (k : Parcel Msg) (x : Sent_piece) → (formats_of s M).unwrap bytes ≡ Some k →
    k.body ≡ OfPiece x → (v : Value) → In v x.values → IsReadValue s v
pieces-read {Msg} s M bytes k x u b v i = packet (whole (parse_packet s.version s.n bytes)) u
  where
    same-piece : (y : Sent_piece) → ◌≡◌ {A = Body Msg} (OfPiece y) (OfPiece x) → y ≡ x
    same-piece y e = cc

    read : (e : ℕ) (body : List ℕ) (y : Sent_piece) (o : Parsed Sent_piece) → parse_piece s.version e body ≡ o → whole o ≡ Some y → In v y.values → IsReadValue s v
    read e body y (Good z []) q h m =
        let r = (piece-table s.version e y body).0 (subst (λ (w : Sent_piece). parse_piece s.version e body ≡ Good w []) (some-injective z y h) q) in
        values-read s.version y.values r.front r.values_spelled v m
    read e body y (Good z (a ∷ more)) q h m = absurd (none-some y h)
    read e body y (Bad at) q h m = absurd (none-some y h)

    piece : (p : Packet) (o : Option Sent_piece) → whole (parse_piece s.version p.epoch.0 p.body) ≡ o → piece_in {Msg = Msg} p o ≡ Some k → IsReadValue s v
    piece p None e h = absurd (none-some k h)
    piece p (Some y) e h =
        let same : y ≡ x = same-piece y (ap (λ (z : Parcel Msg). z.body) (some-injective _ k h) ∙ b) in
        read p.epoch.0 p.body y (parse_piece s.version p.epoch.0 p.body) refl e (subst (λ (z : Sent_piece). In v z.values) (sym same) i)

    kind : (p : Packet) (kd : PacketKind) → parcel_of_kind M s.version p kd ≡ Some k → IsReadValue s v
    kind p Message h = absurd (other-sort k (OfPiece x) 0 3 b refl (message-sort k p (whole (M.parse s.version p.body)) h) (λ q. omega (arith, q)))
    kind p Kind_vote h = absurd (other-sort k (OfPiece x) 1 3 b refl (vote-sort k p (whole (parse_vote p.from p.epoch.0 p.body)) h) (λ q. omega (arith, q)))
    kind p Ask h = absurd (other-sort k (OfPiece x) 2 3 b refl (ask-sort k p (whole (parse_ask p.epoch.0 p.body)) h) (λ q. omega (arith, q)))
    kind p Kind_piece h = piece p (whole (parse_piece s.version p.epoch.0 p.body)) refl h
    kind p Kind_request h = absurd (other-sort k (OfPiece x) 4 3 b refl (request-sort k p (whole (parse_request p.body)) h) (λ q. omega (arith, q)))

    packet : (o : Option Packet) → parcel_in M s.version o ≡ Some k → IsReadValue s v
    packet None h = absurd (none-some k h)
    packet (Some p) h = kind p p.kind h

-- a decoded request has an encoding
pub requests-spelled : {Msg : Type 0} (s : Setup) (M : Module Msg) (bytes : List ℕ) (k : Parcel Msg) (q : Request) → (formats_of s M).unwrap bytes ≡ Some k →
    k.body ≡ OfRequest q → HasSpelling q
requests-spelled {Msg} s M bytes k q u b = packet (whole (parse_packet s.version s.n bytes)) u
  where
    no-message : (l : ℕ) (msg : Msg) → OfModule l msg ≡ OfRequest q → ⊥
    no-message l msg e = cc

    same-request : (r : Request) → ◌≡◌ {A = Body Msg} (OfRequest r) (OfRequest q) → r ≡ q
    same-request r e = cc

    spelled : (body : List ℕ) (r : Request) (o : Parsed Request) → parse_request body ≡ o → whole o ≡ Some r → HasSpelling r
    spelled body r (Good x []) e h = ((request_related r body).0 (subst (λ (z : Request). parse_request body ≡ Good z []) (some-injective x r h) e)).0
    spelled body r (Good x (y ∷ more)) e h = absurd (none-some r h)
    spelled body r (Bad at) e h = absurd (none-some r h)

    message : (p : Packet) (o : Option Msg) → message_in p o ≡ Some k → HasSpelling q
    message p None h = absurd (none-some k h)
    message p (Some msg) h = absurd (no-message p.leader msg (ap (λ (z : Parcel Msg). z.body) (some-injective _ k h) ∙ b))

    request : (p : Packet) (o : Option Request) → whole (parse_request p.body) ≡ o → request_in {Msg = Msg} p o ≡ Some k → HasSpelling q
    request p None e h = absurd (none-some k h)
    request p (Some r) e h =
        let same : r ≡ q = same-request r (ap (λ (z : Parcel Msg). z.body) (some-injective _ k h) ∙ b) in
        subst (λ (z : Request). HasSpelling z) same (spelled p.body r (parse_request p.body) refl e)

    kind : (p : Packet) (kd : PacketKind) → parcel_of_kind M s.version p kd ≡ Some k → HasSpelling q
    kind p Message h = message p (whole (M.parse s.version p.body)) h
    kind p Kind_vote h = absurd (other-sort k (OfRequest q) 1 4 b refl (vote-sort k p (whole (parse_vote p.from p.epoch.0 p.body)) h) (λ e. omega (arith, e)))
    kind p Ask h = absurd (other-sort k (OfRequest q) 2 4 b refl (ask-sort k p (whole (parse_ask p.epoch.0 p.body)) h) (λ e. omega (arith, e)))
    kind p Kind_piece h =
        absurd (other-sort k (OfRequest q) 3 4 b refl (piece-sort k p (whole (parse_piece s.version p.epoch.0 p.body)) h) (λ e. omega (arith, e)))
    kind p Kind_request h = request p (whole (parse_request p.body)) refl h

    packet : (o : Option Packet) → parcel_in M s.version o ≡ Some k → HasSpelling q
    packet None h = absurd (none-some k h)
    packet (Some p) h = kind p p.kind h

module _ {Msg : Type 0} (s : Setup) (M : Module Msg) (grammar : (version : ℕ) → IsGrammar (M.spell version) (M.parse version)) where
  abbrev Told : Parcel Msg → Msg → Type 0
  Told k msg = (k.from < s.n) × IsReadAgain (M.spell s.version) (M.parse s.version) msg

  pub are-read : (bytes : List ℕ) (k : Parcel Msg) (l : ℕ) (msg : Msg) → (formats_of s M).unwrap bytes ≡ Some k → k.body ≡ OfModule l msg → Told k msg
  are-read bytes k l msg u b = packet (whole (parse_packet s.version s.n bytes)) refl u
    where
      no-request : (q : Request) → OfRequest q ≡ OfModule l msg → ⊥
      no-request q e = cc

      same-message : (j : ℕ) (m : Msg) → OfModule j m ≡ OfModule l msg → m ≡ msg
      same-message j m e = cc

      message : (p : Packet) (o : Option Msg) → whole (M.parse s.version p.body) ≡ o → is_routed s.n p ≡ true → p.kind ≡ Message → message_in p o ≡ Some k →
          Told k msg
      message p None e r q h = absurd (none-some k h)
      message p (Some m) e r q h = (
        subst (λ (f : ℕ). f < s.n) (ap (λ (z : Parcel Msg). z.from) (some-injective _ k h)) (sender s.n p q r),
        again (M.spell s.version) (M.parse s.version) (grammar s.version) p.body msg
            (e ∙ ap (λ (z : Msg). Some z) (same-message p.leader m (ap (λ (z : Parcel Msg). z.body) (some-injective _ k h) ∙ b))),
      )

      request : (p : Packet) (o : Option Request) → request_in {Msg = Msg} p o ≡ Some k → Told k msg
      request p None h = absurd (none-some k h)
      request p (Some q) h = absurd (no-request q (ap (λ (z : Parcel Msg). z.body) (some-injective _ k h) ∙ b))

      kind : (p : Packet) (kd : PacketKind) → is_routed s.n p ≡ true → p.kind ≡ kd → parcel_of_kind M s.version p kd ≡ Some k → Told k msg
      kind p Message r q h = message p (whole (M.parse s.version p.body)) refl r q h
      kind p Kind_vote r q h =
          absurd (other-sort k (OfModule l msg) 1 0 b refl (vote-sort k p (whole (parse_vote p.from p.epoch.0 p.body)) h) (λ e. omega (arith, e)))
      kind p Ask r q h = absurd (other-sort k (OfModule l msg) 2 0 b refl (ask-sort k p (whole (parse_ask p.epoch.0 p.body)) h) (λ e. omega (arith, e)))
      kind p Kind_piece r q h =
          absurd (other-sort k (OfModule l msg) 3 0 b refl (piece-sort k p (whole (parse_piece s.version p.epoch.0 p.body)) h) (λ e. omega (arith, e)))
      kind p Kind_request r q h = request p (whole (parse_request p.body)) h

      packet : (o : Option Packet) → whole (parse_packet s.version s.n bytes) ≡ o → parcel_in M s.version o ≡ Some k → Told k msg
      packet None e h = absurd (none-some k h)
      packet (Some p) e h = kind p p.kind (routed s.version s.n bytes p e) refl h
