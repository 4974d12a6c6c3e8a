-- What packets bring can be encoded again: a module's message in its own packet, a vote and a certificate in a snapshot.
use Rattle.std.proofs.Common.{◌≡◌, ℕ, ◌<◌, ◌^◌, List, [], ◌∷◌, ◌++◌, Option, Some, None, refl, sym, ap, ap₂, ◌∙◌, subst, arith, append-nil}
use Rattle.iss_base.proofs.Lists.{none-some, some-injective}
use Rattle.iss_checkpoint.specs.Bodies.{parse_vote}
use Rattle.iss_checkpoint.specs.Certificates.{IsSpelledCert, parse_cert, spell_cert}
use Rattle.iss_checkpoint.specs.declared.votes.Cert.{Cert}
use Rattle.iss_checkpoint.specs.declared.votes.Vote.{Vote as Voted}
use Rattle.iss_checkpoint.proofs.CertGrammar.{cert-again, cert-spelled}
use Rattle.iss_packet.specs.Packets.{parse_packet, spell_packet}
use Rattle.iss_packet.specs.declared.packets.Packet.{Packet}
use Rattle.iss_packet.specs.declared.packets.PacketKind.{PacketKind}
use Rattle.iss_packet.specs.declared.packets.PacketKind.TheVariants.{Message, Vote as Kind_vote, Ask, Piece as Kind_piece, Request as Kind_request}
use Rattle.iss_packet.proofs.OneSpelling.{packet_grammar, packet_table}
use Rattle.iss_request.specs.Fields.{Bad, Good, IsGrammar, Parsed}
use Rattle.iss_request.specs.Formats.{parse_request}
use Rattle.iss_request.specs.declared.setups.Setup.{Setup}
use Rattle.iss_sb.specs.Evidence.{Module}
use Rattle.iss_transfer.specs.Bodies.{parse_ask, parse_piece}
use Rattle.iss_transfer.specs.declared.pieces.Piece.{Piece as Sent_piece}
use Rattle.iss_transfer.proofs.PieceGrammar.{piece-table}
use Rattle.iss_rules.specs.Formats.{formats_of, message_in, parcel_in, parcel_of_kind, piece_in, vote_in, whole}
use Rattle.iss_rules.specs.Parcels.{Body, OfModule, OfPiece, OfVote, Parcel}
use Rattle.iss_rules.proofs.FromNodes.{ask-sort, piece-sort, request-sort, sort_of, vote-sort}
use Rattle.iss_snapshot.specs.Snapshots.{IsCertEntry, IsVoteEntry}
use Rattle.iss_snapshot.proofs.Entries.{vote-again, vote-own}

whole-is : {A : Type 0} (r : Parsed A) (x : A) → whole r ≡ Some x → r ≡ Good x []
whole-is (Good y []) x h = ap (λ z. Good z []) (some-injective y x h)
whole-is (Good y (b ∷ rest)) x h = absurd (none-some x h)
whole-is (Bad at) x h = absurd (none-some x h)

-- a certificate that has an encoding can stand in a snapshot
pub cert-entry-of : (e : ℕ) (c : Cert) (bytes : List ℕ) → e < 2 ^ 64 → IsSpelledCert e c bytes → IsCertEntry c
cert-entry-of e c bytes lt h = (
  subst (λ (n : ℕ). n < 2 ^ 64) (sym h.epoch) lt,
  λ rest. subst (λ (n : ℕ). parse_cert n (spell_cert c ++ rest) ≡ Good c rest) (sym h.epoch)
      (ap (λ (z : List ℕ). parse_cert e (z ++ rest)) (sym (cert-spelled e c bytes h)) ∙ cert-again e c bytes rest h),
)

module _ {Msg : Type 0} (s : Setup) (M : Module Msg) where
  -- the packet that bytes were decoded as, and its content
  record IsUnwrapped (bytes : List ℕ) (k : Parcel Msg) : Type 0 where
    packet : Packet
    parsed : parse_packet s.version s.n bytes ≡ Good packet []
    content : parcel_of_kind M s.version packet packet.kind ≡ Some k

  unwrapped : (bytes : List ℕ) (k : Parcel Msg) → (formats_of s M).unwrap bytes ≡ Some k → IsUnwrapped bytes k
  unwrapped bytes k u = go (parse_packet s.version s.n bytes) refl u
    where
      go : (r : Parsed Packet) → parse_packet s.version s.n bytes ≡ r → parcel_in M s.version (whole r) ≡ Some k → IsUnwrapped bytes k
      go (Good p []) e h = record { packet = p; parsed = e; content = h }
      go (Good p (b ∷ rest)) e h = absurd (none-some k h)
      go (Bad at) e h = absurd (none-some k h)

  epoch-fits : (bytes : List ℕ) (p : Packet) → parse_packet s.version s.n bytes ≡ Good p [] → p.epoch.0 < 2 ^ 64
  epoch-fits bytes p h = ((packet_table s.version s.n p bytes).0 h).1

  -- two contents of one parcel are of one kind
  sorts-meet : (k : Parcel Msg) (b : Body Msg) (n : ℕ) → k.body ≡ b → sort_of k.body ≡ n → sort_of b ≡ n
  sorts-meet k b n q has = sym (ap (λ (x : Body Msg). sort_of x) q) ∙ has

  message-sort : (k : Parcel Msg) (p : Packet) (o : Option Msg) → message_in p o ≡ Some k → sort_of k.body ≡ 0
  message-sort k p None h = absurd (none-some k h)
  message-sort k p (Some msg) h = subst (λ (z : Parcel Msg). sort_of z.body ≡ 0) (some-injective _ k h) refl

  -- ---- votes

  pub vote-comes : (bytes : List ℕ) (k : Parcel Msg) (v : Voted) → (formats_of s M).unwrap bytes ≡ Some k → k.body ≡ OfVote v → IsVoteEntry v
  vote-comes bytes k v u b = let c = unwrapped bytes k u in kind c.packet c.parsed c.packet.kind c.content
    where
      same-vote : (w : Voted) → ◌≡◌ {A = Body Msg} (OfVote w) (OfVote v) → w ≡ v
      same-vote w e = cc

      vote : (p : Packet) → parse_packet s.version s.n bytes ≡ Good p [] → (o : Option Voted) → whole (parse_vote p.from p.epoch.0 p.body) ≡ o →
          vote_in {Msg = Msg} p o ≡ Some k → IsVoteEntry v
      vote p e None q h = absurd (none-some k h)
      vote p e (Some w) q h =
          let same : w ≡ v = same-vote w (ap (λ (z : Parcel Msg). z.body) (some-injective _ k h) ∙ b) in
          let parsed = whole-is (parse_vote p.from p.epoch.0 p.body) w q in
          let own = (vote-own p.from p.epoch.0 p.body [] w parsed).1 in
          subst (λ (z : Voted). IsVoteEntry z) same
          (subst (λ (n : ℕ). n < 2 ^ 64) (sym own) (epoch-fits bytes p e), vote-again p.from p.epoch.0 p.body [] w parsed)

      kind : (p : Packet) → parse_packet s.version s.n bytes ≡ Good p [] → (kd : PacketKind) → parcel_of_kind M s.version p kd ≡ Some k → IsVoteEntry v
      kind p e Message h = absurd (let q : 1 ≡ 0 = sorts-meet k (OfVote v) 0 b (message-sort k p (whole (M.parse s.version p.body)) h) in omega (arith, q))
      kind p e Kind_vote h = vote p e (whole (parse_vote p.from p.epoch.0 p.body)) refl h
      kind p e Ask h = absurd (let q : 1 ≡ 2 = sorts-meet k (OfVote v) 2 b (ask-sort k p (whole (parse_ask p.epoch.0 p.body)) h) in omega (arith, q))
      kind p e Kind_piece h =
          absurd (let q : 1 ≡ 3 = sorts-meet k (OfVote v) 3 b (piece-sort k p (whole (parse_piece s.version p.epoch.0 p.body)) h) in omega (arith, q))
      kind p e Kind_request h = absurd (let q : 1 ≡ 4 = sorts-meet k (OfVote v) 4 b (request-sort k p (whole (parse_request p.body)) h) in omega (arith, q))

  -- ---- certificates

  pub piece-comes : (bytes : List ℕ) (k : Parcel Msg) (x : Sent_piece) → (formats_of s M).unwrap bytes ≡ Some k → k.body ≡ OfPiece x → IsCertEntry x.cert
  piece-comes bytes k x u b = let c = unwrapped bytes k u in kind c.packet c.parsed c.packet.kind c.content
    where
      same-piece : (y : Sent_piece) → ◌≡◌ {A = Body Msg} (OfPiece y) (OfPiece x) → y ≡ x
      same-piece y e = cc

      piece : (p : Packet) → parse_packet s.version s.n bytes ≡ Good p [] → (o : Option Sent_piece) → whole (parse_piece s.version p.epoch.0 p.body) ≡ o →
          piece_in {Msg = Msg} p o ≡ Some k → IsCertEntry x.cert
      piece p e None q h = absurd (none-some k h)
      piece p e (Some y) q h =
          let same : y ≡ x = same-piece y (ap (λ (z : Parcel Msg). z.body) (some-injective _ k h) ∙ b) in
          let is = (piece-table s.version p.epoch.0 y p.body).0 (whole-is (parse_piece s.version p.epoch.0 p.body) y q) in
          subst (λ (z : Sent_piece). IsCertEntry z.cert) same (cert-entry-of p.epoch.0 y.cert is.behind (epoch-fits bytes p e) is.cert_spelled)

      kind : (p : Packet) → parse_packet s.version s.n bytes ≡ Good p [] → (kd : PacketKind) → parcel_of_kind M s.version p kd ≡ Some k → IsCertEntry x.cert
      kind p e Message h = absurd (let q : 3 ≡ 0 = sorts-meet k (OfPiece x) 0 b (message-sort k p (whole (M.parse s.version p.body)) h) in omega (arith, q))
      kind p e Kind_vote h = absurd (let q : 3 ≡ 1 = sorts-meet k (OfPiece x) 1 b (vote-sort k p (whole (parse_vote p.from p.epoch.0 p.body)) h) in omega (arith, q))
      kind p e Ask h = absurd (let q : 3 ≡ 2 = sorts-meet k (OfPiece x) 2 b (ask-sort k p (whole (parse_ask p.epoch.0 p.body)) h) in omega (arith, q))
      kind p e Kind_piece h = piece p e (whole (parse_piece s.version p.epoch.0 p.body)) refl h
      kind p e Kind_request h = absurd (let q : 3 ≡ 4 = sorts-meet k (OfPiece x) 4 b (request-sort k p (whole (parse_request p.body)) h) in omega (arith, q))

  -- ---- messages

  module _ (grammar : (version : ℕ) → IsGrammar (M.spell version) (M.parse version)) where
    -- the packet of a module's message is the one that it came in
    pub message-comes : (bytes : List ℕ) (k : Parcel Msg) (l : ℕ) (msg : Msg) → (formats_of s M).unwrap bytes ≡ Some k → k.body ≡ OfModule l msg →
        (formats_of s M).unwrap ((formats_of s M).wrap k) ≡ Some k
    message-comes bytes k l msg u b =
        let c = unwrapped bytes k u in
        ap (λ (z : List ℕ). (formats_of s M).unwrap z) (kind c.packet c.parsed c.packet.kind refl c.content) ∙ u
      where
        packet_on : PacketKind → ℕ → ℕ → ℕ → List ℕ → Packet
        packet_on kd from e leader body = record { kind = kd; from = from; epoch = record { 0 = e }; leader = leader; body = body }

        spelled : (p : Packet) → parse_packet s.version s.n bytes ≡ Good p [] → spell_packet s.version p ≡ bytes
        spelled p e = sym ((packet_grammar s.version s.n).only bytes [] p e ∙ append-nil (spell_packet s.version p))

        message : (p : Packet) → parse_packet s.version s.n bytes ≡ Good p [] → p.kind ≡ Message → (o : Option Msg) → whole (M.parse s.version p.body) ≡ o →
            message_in p o ≡ Some k → (formats_of s M).wrap k ≡ bytes
        message p e kd None q h = absurd (none-some k h)
        message p e kd (Some m) q h =
            let body : p.body ≡ M.spell s.version m =
            (grammar s.version).only p.body [] m (whole-is (M.parse s.version p.body) m q) ∙ append-nil (M.spell s.version m) in
            let back : packet_on Message p.from p.epoch.0 p.leader (M.spell s.version m) ≡ p =
            ap₂ (λ (z : PacketKind) (y : List ℕ). packet_on z p.from p.epoch.0 p.leader y) (sym kd) (sym body) in
            subst (λ (z : Parcel Msg). (formats_of s M).wrap z ≡ bytes) (some-injective _ k h) (ap (spell_packet s.version) back ∙ spelled p e)

        kind : (p : Packet) → parse_packet s.version s.n bytes ≡ Good p [] → (kd : PacketKind) → p.kind ≡ kd → parcel_of_kind M s.version p kd ≡ Some k →
            (formats_of s M).wrap k ≡ bytes
        kind p e Message q h = message p e q (whole (M.parse s.version p.body)) refl h
        kind p e Kind_vote q h =
            absurd (let z : 0 ≡ 1 = sorts-meet k (OfModule l msg) 1 b (vote-sort k p (whole (parse_vote p.from p.epoch.0 p.body)) h) in omega (arith, z))
        kind p e Ask q h = absurd (let z : 0 ≡ 2 = sorts-meet k (OfModule l msg) 2 b (ask-sort k p (whole (parse_ask p.epoch.0 p.body)) h) in omega (arith, z))
        kind p e Kind_piece q h =
            absurd (let z : 0 ≡ 3 = sorts-meet k (OfModule l msg) 3 b (piece-sort k p (whole (parse_piece s.version p.epoch.0 p.body)) h) in omega (arith, z))
        kind p e Kind_request q h =
            absurd (let z : 0 ≡ 4 = sorts-meet k (OfModule l msg) 4 b (request-sort k p (whole (parse_request p.body)) h) in omega (arith, z))
