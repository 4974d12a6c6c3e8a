-- The adoption of a piece by a correct core is a move of the cluster.
use Rattle.std.proofs.Common.{◌≡◌, ◌≢◌, ◌⊎◌, inl, inr, ℕ, true, List, [], ◌∷◌, ◌++◌, length, refl, sym, ap, ◌∙◌, subst, arith}
use Rattle.iss_base.specs.Lists.{In, push_all}
use Rattle.iss_base.proofs.Lists.{in_left, in_right, oldest-part, same_or_not}
use Rattle.iss_request.specs.declared.requests.Value.{Value}
use Rattle.iss_request.specs.declared.setups.Setup.{Setup}
use Rattle.iss_sb.specs.Evidence.{Module, is_correct}
use Rattle.iss_transfer.specs.declared.pieces.Piece.{Piece as Sent_piece}
use Rattle.iss_composition.specs.Checkpoints.{scheme_of}
use Rattle.iss_composition.specs.Cluster.{AllSpelled, Cluster, IsBooked, IsHashedLog, Message, Scheme, adopt, chain, signers, vote_statement, Cert as Cluster_cert}
use Rattle.iss_rules.specs.Parcels.{Formats}
use Rattle.iss_rules.specs.Votes.{cert_on}
use Rattle.iss_model.specs.Node.{Core, Turn, adopts_piece, grown_strings, unchanged}
use Rattle.iss_rules.specs.Past.{Past, Piece, adopted_log, adopts, before, before_own, log_of, start_of}
use Rattle.iss_rules.specs.Rules.{Rules}
use Rattle.iss_model.specs.Run.{Held, booked, turned_to}
use Rattle.iss_composition.specs.Ordered.{Among}
use Rattle.iss_rules.proofs.Faithful.{IsReadValue}
use Rattle.iss_model.specs.Runs.{pasts_of}
use Rattle.iss_composition.proofs.Agree.{separate-part}
use Rattle.iss_theorems.proofs.StoppedRuns.BookIsComplete.{adopts-booked}
use Rattle.iss_model.proofs.Casts.{adopts-ready}
use Rattle.iss_theorems.proofs.Checkpoints.KeptVotesAreValid.{IsKeptCert, in-signers, keeping-certified, quorum-is, signs_of}
use Rattle.iss_composition.proofs.Chains.{strings-oldest}
use Rattle.iss_theorems.proofs.Refinement.Invariant.{Fits, Premises, view}
use Rattle.iss_composition.proofs.Good.{Good}
use Rattle.iss_theorems.proofs.Refinement.StepsHashChains.{over-hashed}
use Rattle.iss_rules.proofs.Logs.{Later, log-chain, log-later}
use Rattle.iss_rules.proofs.Pieces.{adopts-later}
use Rattle.iss_theorems.proofs.Refinement.LoggedValuesAreEncodable.{AreReadPieces, log-read, read-spelled}
use Rattle.iss_theorems.proofs.Checkpoints.VotesDescribeLogs.{log-at-later, voted-later}
use Rattle.iss_model.proofs.Steps.{IsAdopted}
use Rattle.iss_theorems.proofs.Refinement.DeliveryChecks.{over-new, over-old}
use Rattle.iss_theorems.proofs.Refinement.ClusterDuringStep as turned
use Rattle.iss_theorems.proofs.Checkpoints.VotesAreForChains.{leads-chained}
use Rattle.iss_theorems.proofs.Refinement.StepIsMove as onward

-- what values add to a log
in-over : (v : Value) (vs log : List Value) → In v (push_all vs log) → In v vs ⊎ In v log
in-over v [] log h = inr h
in-over v (u ∷ vs) log h = elim (in-over v vs (u ∷ log) h) [
  | inl a ↦ inl (inr a)
  | inr b ↦ elim b [ inl q ↦ inl (inl q) | inr d ↦ inr d ]
]

module _ {Msg : Type 0} (s : Setup) (F : Formats Msg) (R : Rules) (M : Module Msg) (o : Premises s F R M) (h : Held Msg) (ok : Fits s F R M h)
    (i : ℕ) (correct : is_correct s i ≡ true) where
  abbrev S : Scheme
  S = scheme_of s

  abbrev Turned : Turn Msg → Type 0
  Turned t = turned.Turned s F R M o h ok i correct t

  abbrev Apart : Turn Msg → Type 0
  Apart t = turned.Apart s F R M o h ok i correct t

  abbrev seen : Turn Msg → List (Message Msg) → Cluster Msg
  seen t messages = view s F R M (turned_to s h i t) messages

  here : (t : Turn Msg) → pasts_of (turned_to s h i t).net i ≡ t.core.past
  here t = onward.here s F R M o h ok i correct t

  other : (t : Turn Msg) (j : ℕ) → j ≢ i → pasts_of (turned_to s h i t).net j ≡ pasts_of h.net j
  other t j ne = onward.other s F R M o h ok i correct t j ne

  there : (t : Turn Msg) (P : Past Msg → Type 0) → P t.core.past → P (pasts_of (turned_to s h i t).net i)
  there t P k = onward.there s F R M o h ok i correct t P k

  -- the node adopts a piece
  module _ (base : Turned (unchanged (h.net.cores i))) (p : Sent_piece) (t : Turn Msg) (a : IsAdopted F R M i (h.net.cores i) p t)
      (read : (v : Value) → In v p.values → IsReadValue s v) (kept : IsKeptCert s R h.signed p.cert)
      (sep : Apart (adopts_piece R M i (h.net.cores i) p)) where
    abbrev core : Core Msg
    core = h.net.cores i

    abbrev owned : Past Msg
    owned = core.past

    abbrev adopting : Turn Msg
    adopting = adopts_piece R M i core p

    abbrev piece : Piece
    piece = record { epoch = owned.epoch; values = p.values }

    abbrev cert : Cluster_cert
    cert = record { chain = p.cert.chain; number = p.cert.requests; signed = signs_of p.cert.signers }

    abbrev joined_past : Past Msg
    joined_past = adopts owned piece

    abbrev bf : List Value
    bf = before_own R M i owned

    abbrev piece_strings : List (List ℕ)
    piece_strings = R.hashes bf p.values

    ahead : Later R owned joined_past
    ahead = adopts-later R owned piece (record { all = base.ready.sound.settled })

    was : IsHashedLog S (push_all adopting.strings h.hashed) (log_of R M i owned)
    was x m = over-old x adopting.strings h.hashed (base.hashed x m)

    piece_hashed : IsHashedLog S (push_all adopting.strings h.hashed) (push_all p.values bf)
    piece_hashed x m = elim (over-hashed s p.values bf x m) [
      | inl y ↦ was x (strings-oldest S (start_of R (log_of R M i owned) owned.epoch) (log_of R M i owned) x y)
      | inr y ↦ over-new x adopting.strings h.hashed (in_left x piece_strings (grown_strings R (log_of R M i owned) (log_of R M i joined_past))
          (subst (λ (xs : List (List ℕ)). In x xs) (sym (o.voting.hashes bf p.values)) y))
    ]

    adopted_hashed : IsHashedLog S (push_all adopting.strings h.hashed) (log_of R M i joined_past)
    adopted_hashed = onward.grown-all s F R M o h ok i correct (log_of R M i owned) (log_of R M i joined_past) (log-later R M i owned joined_past ahead) (push_all adopting.strings h.hashed) was
        (λ x m. over-new x adopting.strings h.hashed (in_right x piece_strings (grown_strings R (log_of R M i owned) (log_of R M i joined_past)) m))

    sep_base : Apart (unchanged core)
    sep_base = separate-part (Among (push_all adopting.strings h.hashed)) (Among h.hashed) (λ x m. over-old x adopting.strings h.hashed m) sep

    adopted_good : Good s R M (seen (unchanged core) base.messages) S
    adopted_good = turned.good-at s F R M o (seen (unchanged core) base.messages) sep_base base.reach

    log_spelled : AllSpelled S (log_of R M i owned)
    log_spelled = subst (λ (y : Past Msg). AllSpelled S (log_of R M i y)) (here (unchanged core)) (adopted_good.spelled i correct)

    piece_spelled : AllSpelled S (push_all p.values bf)
    piece_spelled v m = elim (in-over v p.values bf m) [
      | inl y ↦ read-spelled s v (read v y)
      | inr y ↦
          let part = oldest-part (start_of R (log_of R M i owned) owned.epoch) (log_of R M i owned) in
          log_spelled v (subst (λ (xs : List Value). In v xs) (sym part.1) (in_right v part.0 bf y))
    ]

    adopted_pieces : AreReadPieces s joined_past.adopted
    adopted_pieces q (inl e) v m = read v (subst (λ (y : Piece). In v y.values) e m)
    adopted_pieces q (inr m) v n = base.pieces q m v n

    adopted_spelled : AllSpelled S (log_of R M i joined_past)
    adopted_spelled v m = read-spelled s v (log-read s S R M o.safe o.sound o.voting (seen (unchanged core) base.messages) sep_base adopted_good i correct joined_past
        (there (unchanged core) (λ (y : Past Msg). Later R y joined_past) ahead)
        (there (unchanged core) (λ (y : Past Msg). (e l : ℕ) → joined_past.evidence e l ≡ y.evidence e l) (λ e l. refl)) adopted_pieces
        (log_of R M i joined_past) (log-chain R M i joined_past) v m)

    votes : (j : ℕ) → In j (signers cert.signed) → is_correct s j ≡ true → IsBooked (booked s i [] ++ h.signed) j (vote_statement s owned.epoch cert.chain cert.number)
    votes j m good_j =
        let r = in-signers p.cert.signers j m in
        let right : is_correct s r.0.by.0 ≡ true = subst (λ (n : ℕ). is_correct s n ≡ true) (sym r.2) good_j in
        let statement : R.voted p.cert.epoch.0 p.cert.chain p.cert.requests ≡ vote_statement s owned.epoch p.cert.chain p.cert.requests =
        ap (λ (n : ℕ). R.voted n p.cert.chain p.cert.requests) a.of_epoch ∙ o.voting.voted owned.epoch p.cert.chain p.cert.requests in
        in_right _ (booked s i []) h.signed (subst (λ (n : ℕ). IsBooked h.signed n (vote_statement s owned.epoch p.cert.chain p.cert.requests)) r.2
        (subst (λ (y : List ℕ). IsBooked h.signed r.0.by.0 y) statement ((kept.signs r.0 r.1).booked right)))

    pub adopts-turned : Turned adopting
    adopts-turned = record {
      messages = base.messages;
      reach = adopt i piece cert base.reach (record {
        correct = correct;
        epoch = there (unchanged core) (λ (y : Past Msg). owned.epoch ≡ y.epoch) refl;
        whole = there (unchanged core) (λ (y : Past Msg). length p.values ≡ R.slots (before R M i y owned.epoch) owned.epoch) a.whole;
        quorum = quorum-is s M R o.sound o.voting p.cert a.certified;
        votes = votes;
        chained = there (unchanged core) (λ (y : Past Msg). p.cert.chain ≡ chain S (adopted_log R M i y piece)) (leads-chained s R o.voting bf p a.leads);
        piece_hashed = there (unchanged core) (λ (y : Past Msg). IsHashedLog S (push_all adopting.strings h.hashed) (adopted_log R M i y piece)) piece_hashed;
        piece_spelled = there (unchanged core) (λ (y : Past Msg). AllSpelled S (adopted_log R M i y piece)) piece_spelled;
        here = here adopting ∙ ap (λ (y : Past Msg). adopts y piece) (sym (here (unchanged core)));
        other = λ j ne. other adopting j ne ∙ sym (other (unchanged core) j ne);
        quiet = record { messages = λ st m z. z; old_book = λ x m. m; strings = λ x m. over-old x adopting.strings h.hashed m };
        book = λ x m. m;
        hashed = there adopting (λ (y : Past Msg). IsHashedLog S (push_all adopting.strings h.hashed) (log_of R M i y)) adopted_hashed;
        spelled = there adopting (λ (y : Past Msg). AllSpelled S (log_of R M i y)) adopted_spelled;
      });
      posted = base.posted;
      ready = adopts-ready F R M i (turned.slots s F R M o) o.windows core p t base.ready a;
      booked = adopts-booked R M i core base.ready.sound piece (booked s i [] ++ h.signed) base.booked;
      early = λ st x m. absurd m;
      old = base.old;
      hashed = adopted_hashed;
      pieces = adopted_pieces;
      certified = record {
        votes = base.certified.votes;
        certs = keeping-certified s R h.signed core.certs p.cert (cert_on core.certs owned.epoch) base.certified.certs kept;
      };
      mine = base.mine;
      standing = λ n a q m. log-at-later R M i owned joined_past ahead base.ready.sound.reached n a q (base.standing n a q m);
      voted = λ n lt. elim (same_or_not n owned.epoch) [
        | inl q ↦ inl (piece, inl refl, sym q)
        | inr ne ↦ voted-later R M i owned joined_past ahead base.ready.sound.reached (booked s i [] ++ h.signed) (booked s i [] ++ h.signed) (λ x m. m)
            base.voted n (omega (arith, lt, ne))
      ];
    }
