-- An event at one core keeps the run's invariant: its state is reached by moves of a cluster.
use Rattle.std.proofs.Common.{◌≡◌, inl, inr, ℕ, suc, Bool, true, false, cond, eqb, List, [], ◌∷◌, ◌++◌, length, Option, Some, None, refl, sym, ap, ◌∙◌, subst}
use Rattle.iss_base.specs.Lists.{In, push_all}
use Rattle.iss_base.proofs.Lists.{and-true, eqb-same, in_append, in_left, in_right}
use Rattle.iss_checkpoint.specs.declared.votes.Cert.{Cert}
use Rattle.iss_request.specs.declared.requests.Batch.{Batch}
use Rattle.iss_request.specs.declared.setups.Setup.{Setup}
use Rattle.iss_sb.specs.declared.effects.Claim.{Claim}
use Rattle.iss_sb.specs.declared.effects.Input.{Input}
use Rattle.iss_sb.specs.declared.effects.Input.TheVariants.{Cast, Receive, Timeout}
use Rattle.iss_sb.specs.declared.effects.Params.{Params}
use Rattle.iss_sb.specs.declared.effects.To.{To}
use Rattle.iss_sb.specs.declared.effects.To.TheVariants.{One as To_one}
use Rattle.iss_sb.specs.Evidence.{Module, Separate, is_correct}
use Rattle.iss_transfer.specs.declared.pieces.Piece.{Piece as Sent_piece}
use Rattle.iss_rules.specs.declared.events.NodeEvent.{NodeEvent}
use Rattle.iss_rules.specs.declared.events.NodeEvent.TheVariants.{Packet as On_packet}
use Rattle.iss_rules.specs.Books.{Signed}
use Rattle.iss_rules.specs.Parcels.{Body, Formats, OfAsk, OfModule, OfPiece, OfVote, Parcel}
use Rattle.iss_rules.specs.Votes.{all_verify, claim_of_vote, claims_of_cert, is_true_cert}
use Rattle.iss_model.specs.Node.{Core, Dropped, Early, Stepped, Taken, Turn, adopts_piece, advance_epochs, asking, counted, handing, only_by, step, step_unjudged, unchanged, values_of}
use Rattle.iss_composition.specs.Ordered.{Among}
use Rattle.iss_rules.specs.Past.{leads_in, log_of, params_of}
use Rattle.iss_rules.specs.Rules.{Rules}
use Rattle.iss_rules.specs.Ends.{End}
use Rattle.iss_model.specs.Run.{Held, after_step, as_signed, at_core, booked, by_collision, by_forged, claims_at, collision_in, early_of, first_forged, node_of, turned_to}
use Rattle.iss_rules.proofs.Faithful.{is_message}
use Rattle.iss_model.specs.Sound.{carried}
use Rattle.iss_model.proofs.Ready.{IsReadyCore}
use Rattle.iss_model.specs.Views.{claims_of_body, claims_of_parcel}
use Rattle.iss_model.proofs.Casts.{cast-fit, cast-read, casting-ready, step-ready}
use Rattle.iss_theorems.proofs.Checkpoints.KeptVotesAreValid.{AreCertified, IsKeptCert, IsTrueSign, cert-there, claims-in, counted-certified, in-claims, true-each}
use Rattle.iss_theorems.proofs.Refinement.Invariant.{AreSent as AreSentBy, Fits as FitsBy, Premises}
use Rattle.iss_theorems.proofs.Refinement.StepIsMove.{ends-fits, reads-fits, takes-fits}
use Rattle.iss_model.proofs.Rows.{IsFit, claims_early, each-holds, settles-holds}
use Rattle.iss_model.proofs.Steps.{IsAdopted, Took, adopted, asked, cast, casting, fired, handed, kept, next_batch, received, sought, took, voted}
use Rattle.iss_theorems.proofs.Refinement.DeliveryChecks.{each-verifies, in-signed, only-by, separate-more, unforged}
use Rattle.iss_theorems.proofs.Refinement.AdoptionIsMove.{adopts-turned}
use Rattle.iss_model.proofs.Told.{AreTold, took-told}
use Rattle.iss_theorems.proofs.Refinement.ClusterDuringStep as turned
use Rattle.iss_theorems.proofs.Refinement.ClusterDuringStep.{Comes-in}
use Rattle.iss_model.proofs.Twins.{correct-is}

module _ {Msg : Type 0} (s : Setup) (F : Formats Msg) (R : Rules) (M : Module Msg) (o : Premises s F R M) (h : Held Msg) (ok : FitsBy s F R M h) (i : ℕ) where
  abbrev Fits : Held Msg → Type 0
  Fits g = FitsBy s F R M g

  abbrev c : Core Msg
  c = h.net.cores i

  abbrev Comes-here : NodeEvent → Type 0
  Comes-here event = Comes-in s F R M o h ok i event

  module _ (correct : is_correct s i ≡ true) where
    abbrev AreSent : Core Msg → Type 0
    AreSent d = AreSentBy s F R M ok.messages i d

    abbrev Turned : Turn Msg → Type 0
    Turned t = turned.Turned s F R M o h ok i correct t

    abbrev Holds : Turn Msg → Type 0
    Holds t = turned.Holds s F R M o h ok i correct t

    abbrev Comes : Turn Msg → ℕ → Input Msg → Type 0
    Comes t l input = turned.Comes s F R M o h ok i correct t l input

    -- nothing that a step reads is forged
    module _ (reads : List Claim) (unf : first_forged s R h.signed reads ≡ None) where
      abbrev AreRead : Turn Msg → Type 0
      AreRead t = (y : Claim) → In y t.early → In y reads

      -- a claim that was read and has a valid signature was signed
      true-sign : (y : Claim) → In y reads → R.verifies y.by.0 y.statement y.sig ≡ true → IsTrueSign s R h.signed y.by.0 y.statement y.sig
      true-sign y m v = record { verifies = v; booked = λ good. unforged s R h.signed reads unf y m v good }

      -- an early message may be received by a core of the next epoch
      early-comes : (v : Turn Msg) (x : Early Msg) → In x c.early → v.core.past.epoch ≡ suc c.past.epoch →
          ((y : Claim) → In y (claims_early F R M i v.core x) → In y reads) → Comes v x.leader (Receive (record { 0 = x.from }) x.msg)
      early-comes v x was next read =
          let told = ok.told i x was in (
            λ st. subst (λ (n : ℕ). In (record { from = x.from; to = i; epoch = n; leader = x.leader; msg = x.msg }) ok.messages) (sym next)
                (ok.sent st i x was),
            λ leads ver.
                let p : Params = params_of R M i v.core.past x.leader in
                let are : claims_early F R M i v.core x ≡ M.claims p x.from x.msg = ap (λ (b : Bool). cond b (M.claims p x.from x.msg) []) leads in
                turned.credible s F R M o h ok i correct v.core.past x.leader x.from x.msg told.0 told.1
                (λ y n v2 good. unforged s R h.signed reads unf y (read y (subst (λ (ys : List Claim). In y ys) (sym are) n)) v2 good) ver,
          )

      -- an accepted step of a core of this epoch, with all that follows
      settled-fits : (u : Turn Msg) → Holds u → u.core.early ≡ c.early → u.core.past.epoch ≡ c.past.epoch → AreRead (advance_epochs F R M i u) → Holds (advance_epochs F R M i u)
      settled-fits u k early epoch read =
          settles-holds F R M i Holds Comes (λ t l input z fit come. takes-fits s F R M o h ok i correct t l input z fit come)
          (λ t z complete. ends-fits s F R M o h ok i correct t z complete) (λ t claims z. reads-fits s F R M o h ok i correct t claims z) u k
          (λ complete v x m z q r. early-comes v x (subst (λ (xs : List (Early Msg)). In x xs) early m) (q ∙ ap (λ (n : ℕ). suc n) epoch)
          (λ y n. read y (r y n)))

      -- an input of this epoch, with all that follows
      input-fits : (b : Core Msg) (l : ℕ) (input : Input Msg) (u : Turn Msg) → b.early ≡ c.early → b.past.epoch ≡ c.past.epoch → Turned (unchanged b) →
          IsFit F R M i b l input → Comes (unchanged b) l input → u ≡ step_unjudged F R M i b l input → AreRead (advance_epochs F R M i u) → Holds (advance_epochs F R M i u)
      input-fits b l input u early epoch base fit come is read =
          settled-fits u (subst Holds (sym is) (takes-fits s F R M o h ok i correct (unchanged b) l input (λ sep. base) fit come))
          (ap (λ (z : Turn Msg). z.core.early) is ∙ early) (ap (λ (z : Turn Msg). z.core.past.epoch) is ∙ epoch) read

      resting : (d : Core Msg) → d.past ≡ c.past → IsReadyCore R M i d → (M.stopping ≡ true → AreSent d) → AreCertified s R h.signed d → Turned (unchanged d)
      resting d q ready sent certified = turned.rests-fits s F R M o h ok i correct d q ready sent certified

      certified : AreCertified s R h.signed c
      certified = ok.certified i correct

      base : IsReadyCore R M i c → Turned (unchanged c)
      base ready = resting c refl ready (λ st. ok.sent st i) certified

      -- the claims of bytes, by the kind of their content
      read-of : (bytes : List ℕ) (k : Parcel Msg) (b : Body Msg) → F.unwrap bytes ≡ Some k → k.body ≡ b → claims_at F R M i c (On_packet bytes) ≡ claims_of_body R M i c k.from k.epoch b
      read-of bytes k b un q = ap (λ (x : Option (Parcel Msg)). claims_of_parcel R M i c x) un ∙ ap (λ (y : Body Msg). claims_of_body R M i c k.from k.epoch y) q

      -- a message of this epoch is received
      message-fits : (bytes : List ℕ) (k : Parcel Msg) (l : ℕ) (msg : Msg) (t u : Turn Msg) → Comes-here (On_packet bytes) →
          ((y : Claim) → In y (claims_at F R M i c (On_packet bytes)) → In y reads) → AreRead t → IsReadyCore R M i c → F.unwrap bytes ≡ Some k → k.body ≡ OfModule l msg →
          k.epoch ≡ c.past.epoch → IsFit F R M i c l (Receive (record { 0 = k.from }) msg) → u ≡ step_unjudged F R M i c l (Receive (record { 0 = k.from }) msg) →
          t ≡ advance_epochs F R M i u → Holds t
      message-fits bytes k l msg t u comes first read was un b e fit is q =
          let told = o.faithful.told bytes k l msg un b in
          let p : Params = params_of R M i c.past l in
          let are : claims_at F R M i c (On_packet bytes) ≡ M.claims p k.from msg =
          read-of bytes k (OfModule l msg) un b ∙ (ap (λ (n : ℕ). claims_of_body R M i c k.from n (OfModule l msg)) e ∙ here l msg k.from fit.leads) in
          let sent : M.stopping ≡ true → In (record { from = k.from; to = i; epoch = c.past.epoch; leader = l; msg = msg }) ok.messages =
          λ st. subst (λ (n : ℕ). In (record { from = k.from; to = i; epoch = n; leader = l; msg = msg }) ok.messages) e (comes.legit st k l msg un b) in
          let cred = λ (leads : leads_in R M i c.past l ≡ true) (ver : all_verify R (M.claims p k.from msg) ≡ true).
          turned.credible s F R M o h ok i correct c.past l k.from msg told.0 told.1
          (λ y n v good. unforged s R h.signed reads unf y (first y (subst (λ (ys : List Claim). In y ys) (sym are) n)) v good) ver in
          subst Holds (sym q) (input-fits c l (Receive (record { 0 = k.from }) msg) u refl refl (base was) fit (sent, cred) is (subst AreRead q read))
        where
          here : (l : ℕ) (msg : Msg) (from : ℕ) → leads_in R M i c.past l ≡ true →
              claims_of_body R M i c from c.past.epoch (OfModule l msg) ≡ M.claims (params_of R M i c.past l) from msg
          here l msg from leads =
              let cs : List Claim = M.claims (params_of R M i c.past l) from msg in
              ap (λ (b : Bool). cond b (cond (leads_in R M i c.past l) cs []) []) (eqb-same c.past.epoch) ∙ ap (λ (b : Bool). cond b cs []) leads

      -- a received certificate that is valid has signers who signed it
      read-cert : (x : Cert) → is_true_cert R x ≡ true → ((y : Claim) → In y (claims_of_cert R x) → In y reads) → IsKeptCert s R h.signed x
      read-cert x true_cert first = record {
        certified = true_cert;
        signs = λ y m.
            let statement : List ℕ = R.voted x.epoch.0 x.chain x.requests in
            let v = (true-each R statement 0 x.signers (and-true (eqb (length x.signers) R.quorum) _ true_cert).1 y m).1 in
            true-sign (record { by = y.by; statement = statement; sig = y.sig }) (first _ (claims-in statement x.signers y m)) v;
      }

      -- a piece is adopted
      piece-fits : (bytes : List ℕ) (k : Parcel Msg) (p : Sent_piece) (t : Turn Msg) → ((y : Claim) → In y (claims_at F R M i c (On_packet bytes)) → In y reads) →
          AreRead t → IsReadyCore R M i c → F.unwrap bytes ≡ Some k → k.body ≡ OfPiece p → IsAdopted F R M i c p t → Holds t
      piece-fits bytes k p t first read was un b a =
          let u : Turn Msg = adopts_piece R M i c p in
          let are = read-of bytes k (OfPiece p) un b in
          let kept = read-cert p.cert a.certified (λ y n. first y (subst (λ (ys : List Claim). In y ys) (sym are) n)) in
          let done : Holds u = λ sep. adopts-turned s F R M o h ok i correct (base was) p t a (o.faithful.pieced bytes k p un b) kept sep in
          subst Holds (sym a.is)
          (each-holds F R M i Holds Comes (λ t l input z fit come. takes-fits s F R M o h ok i correct t l input z fit come)
          (λ t z complete. ends-fits s F R M o h ok i correct t z complete) (λ t claims z. reads-fits s F R M o h ok i correct t claims z)
          (suc c.past.epoch) c.early u done
          (λ v x m z q r. early-comes v x m q (λ y n. subst AreRead a.is read y (r y n))))

      -- a certificate that is sent to a peer claims nothing new
      handed-own : (x : Cert) → In x c.certs → (y : Signed) → In y (booked s i (only_by i (claims_of_cert R x))) → In y h.signed
      handed-own x m y n =
          let statement : List ℕ = R.voted x.epoch.0 x.chain x.requests in
          let r = in-signed (only_by i (claims_of_cert R x)) y (subst (λ (b : Bool). In y (cond b (as_signed (only_by i (claims_of_cert R x))) [])) correct n) in
          let w = only-by i (claims_of_cert R x) r.0 r.1 in
          let z = in-claims statement x.signers r.0 w.0 in
          let by : z.0.by.0 ≡ i = sym (ap (λ (q : Claim). q.by.0) z.2) ∙ w.1 in
          let right : is_correct s z.0.by.0 ≡ true = subst (λ (n : ℕ). is_correct s n ≡ true) (sym by) correct in
          subst (λ (q : Signed). In q h.signed) (sym (r.2 ∙ ap (λ (q : Claim). record { by = q.by.0; statement = q.statement }) z.2))
          (((certified.certs x m).signs z.0 z.1).booked right)

      still : (t : Turn Msg) → t.core ≡ c → IsReadyCore R M i c → ((x : Signed) → In x (booked s i t.own) → In x h.signed) →
          ((x : Signed) → In x (booked s i t.own) → x.by ≡ i) → turned.Silent s F R M o t.sends → Turned t
      still t q was own mine silent = turned.still-fits s F R M o h ok i correct t (ap (λ (d : Core Msg). d.past) q) (subst (λ (d : Core Msg). IsReadyCore R M i d) (sym q) was)
          (λ st. subst (λ (d : Core Msg). AreSent d) (sym q) (ok.sent st i)) (subst (λ (d : Core Msg). AreCertified s R h.signed d) (sym q) certified) own mine silent

      alone : (to : To) (k : Parcel Msg) → is_message k.body ≡ false → turned.Silent s F R M o ((to, F.wrap k) ∷ [])
      alone to k q x (inl e) = (k, q, ap (λ (y : To × List ℕ). y.1) e)
      alone to k q x (inr none) = absurd none

      handed-mine : (x : Cert) (y : Signed) → In y (booked s i (only_by i (claims_of_cert R x))) → y.by ≡ i
      handed-mine x y n =
          let r = in-signed (only_by i (claims_of_cert R x)) y (subst (λ (b : Bool). In y (cond b (as_signed (only_by i (claims_of_cert R x))) [])) correct n) in
          ap (λ (z : Signed). z.by) r.2 ∙ (only-by i (claims_of_cert R x) r.0 r.1).1

      none-booked-at : (x : Signed) → In x (booked s i []) → ⊥
      none-booked-at x m = subst (λ (b : Bool). In x (cond b (as_signed []) [])) correct m

      none-booked : (x : Signed) → In x (booked s i []) → In x h.signed
      none-booked x m = absurd (none-booked-at x m)

      -- an event that the core accepts
      took-fits : (event : NodeEvent) (t : Turn Msg) → Comes-here event → ((y : Claim) → In y (claims_at F R M i c event) → In y reads) → AreRead t →
          IsReadyCore R M i c → IsReadyCore R M i t.core → Took F R M i c event t → Holds t
      took-fits event t comes first read was core (received {bytes} k l msg u un b e inp q) =
          message-fits bytes k l msg t u comes first read was un b e
          (record { leads = inp.leads; claims = inp.claims; leaves = inp.leaves; judged = inp.judged }) inp.is q
      took-fits event t comes first read was core (kept k l msg un b e r) = λ sep.
          let x : Early Msg = record { from = k.from; leader = l; msg = msg } in
          let early : M.stopping ≡ true → AreSent (record c { early = c.early ++ x ∷ [] }) = λ st y m. elim (in_append y c.early (x ∷ []) m) [
            | inl a ↦ ok.sent st i y a
            | inr a ↦ elim a [
              | inl z ↦ rw z (subst (λ (n : ℕ). In (record { from = k.from; to = i; epoch = n; leader = l; msg = msg }) ok.messages) e
                  (comes.legit st k l msg un b))
              | inr none ↦ absurd none
            ]
          ] in
          subst Turned (sym r.is)
          (resting (record c { early = c.early ++ x ∷ [] }) refl (subst (λ (z : Turn Msg). IsReadyCore R M i z.core) r.is core) early
          (record { votes = certified.votes; certs = certified.certs }))
      took-fits event t comes first read was core (asked k q un b r) = λ sep.
          subst Turned (sym r.is)
          (resting (record c { waiting = c.waiting ++ q ∷ [] }) refl (subst (λ (z : Turn Msg). IsReadyCore R M i z.core) r.is core)
          (λ st. ok.sent st i) (record { votes = certified.votes; certs = certified.certs }))
      took-fits event t comes first read was core (cast n u r q) =
          let d : Core Msg = casting F R M i c n in
          let batch : Batch = next_batch F R M i c in
          let read_batch = cast-read R M i c F s (params_of R M i c.past i) (o.sound.setup _ _ _) o.sound.batch
          (λ y m. was.spelled y (in_left y c.waiting (carried c.flight) m)) in
          let base2 : Turned (unchanged d) =
          resting d refl (casting-ready F R M i c n was) (λ st. ok.sent st i) (record { votes = certified.votes; certs = certified.certs }) in
          subst Holds (sym q)
          (input-fits d i (Cast n batch) u refl refl base2 (cast-fit R M i c was.sound F o.law n u r) (refl, read_batch) r.is (subst AreRead q read))
      took-fits event t comes first read was core (fired l u inp q) =
          subst Holds (sym q) (input-fits c l.0 Timeout u refl refl (base was)
          (record { leads = inp.leads; claims = inp.claims; leaves = inp.leaves; judged = inp.judged }) tt inp.is (subst AreRead q read))
      took-fits event t comes first read was core (voted {bytes} k v un b r) = λ sep.
          let d : Core Msg = counted R c v in
          let are = read-of bytes k (OfVote v) un b in
          let claim : Claim = claim_of_vote R v in
          let sign = true-sign claim (first claim (subst (λ (ys : List Claim). In claim ys) (sym are) (inl refl)))
          (each-verifies R (claim ∷ []) r.signed claim (inl refl)) in
          subst Turned (sym r.is)
          (resting d refl (subst (λ (z : Turn Msg). IsReadyCore R M i z.core) r.is core) (λ st. ok.sent st i)
          (counted-certified s R h.signed c v certified sign))
      took-fits event t comes first read was core (handed k x un b r) = λ sep.
          let there = cert-there s R c.certs k.epoch x r.kept in
          subst Turned (sym r.is)
          (still (handing F R M i c k.from k.epoch x) refl was (handed-own x there.0) (handed-mine x)
          (alone (To_one (record { 0 = k.from }))
          (record { from = i; epoch = k.epoch; body = OfPiece (record { epoch = record { 0 = k.epoch }; values = values_of R (log_of R M i c.past) k.epoch; cert = x }) }) refl))
      took-fits event t comes first read was core (adopted {bytes} k p un b a) = piece-fits bytes k p t first read was un b a
      took-fits event t comes first read was core (sought peer q) = λ sep.
          subst Turned (sym q)
          (still (asking F i c peer) refl was none-booked (λ x m. absurd (none-booked-at x m)) (alone (To_one peer) (record { from = i; epoch = c.past.epoch; body = OfAsk }) refl))

  turn-fits : (event : NodeEvent) (t : Turn Msg) → Comes-here event → first_forged s R h.signed (claims_at F R M (node_of s i) c event ++ t.early) ≡ None →
      step F R M (node_of s i) c event ≡ Taken t → Separate (Among (push_all t.strings h.hashed)) → Fits (turned_to s h i t)
  turn-fits event t comes unf q sep = go (is_correct s i) refl
    where
      did : Took F R M (node_of s i) c event t
      did = took F R M (node_of s i) c event t q

      core : IsReadyCore R M (node_of s i) t.core
      core = step-ready F R M (node_of s i) (turned.slots s F R M o) o.windows o.faithful.asked c event t (ok.cores i) q

      told : AreTold s M t.core
      told = took-told s F R M o.faithful (node_of s i) c event t (ok.told i) did

      -- a correct core is a node
      as_node : (correct : is_correct s i ≡ true) (k : ℕ) → k ≡ i → IsReadyCore R M k c → IsReadyCore R M k t.core → Took F R M k c event t →
          first_forged s R h.signed (claims_at F R M k c event ++ t.early) ≡ None → turned.Turned s F R M o h ok i correct t
      as_node correct k e was core did unf =
          let first = claims_at F R M i c event in
          took-fits correct (first ++ t.early) (subst (λ (n : ℕ). first_forged s R h.signed (claims_at F R M n c event ++ t.early) ≡ None) e unf)
          event t comes (λ y m. in_left y first t.early m) (λ y m. in_right y first t.early m)
          (subst (λ (n : ℕ). IsReadyCore R M n c) e was) (subst (λ (n : ℕ). IsReadyCore R M n t.core) e core)
          (subst (λ (n : ℕ). Took F R M n c event t) e did) sep

      go : (b : Bool) → is_correct s i ≡ b → Fits (turned_to s h i t)
      go true good =
          turned.turned-fits s F R M o h ok i good t (as_node good (node_of s i) (correct-is s i good) (ok.cores i) core did unf) told sep
      go false bad = turned.faulty-fits s F R M o h ok i t comes.low bad core told sep

  pub at-fits : (event : NodeEvent) → Comes-here event → Fits (at_core s F R M h i event).state
  at-fits event comes = stepped (step F R M (node_of s i) c event) refl
    where
      reads : Stepped Msg → List Claim
      reads o = claims_at F R M (node_of s i) c event ++ early_of o

      collided : (e : Option End) (t : Turn Msg) → collision_in t.strings h.hashed ≡ e → first_forged s R h.signed (reads (Taken t)) ≡ None →
          step F R M (node_of s i) c event ≡ Taken t → Fits (by_collision e h (turned_to s h i t)).state
      collided (Some end) t q unf st = ok
      collided None t q unf st = turn-fits event t comes unf st (separate-more t.strings h.hashed q ok.separate)

      after : (x : Stepped Msg) → step F R M (node_of s i) c event ≡ x → first_forged s R h.signed (reads x) ≡ None → Fits (after_step s h i x).state
      after (Dropped why) q unf = ok
      after (Taken t) q unf = collided (collision_in t.strings h.hashed) t refl unf q

      forged : (f : Option Claim) (x : Stepped Msg) → step F R M (node_of s i) c event ≡ x → first_forged s R h.signed (reads x) ≡ f →
          Fits (by_forged f h (after_step s h i x)).state
      forged (Some claim) x st q = ok
      forged None x st q = after x st q

      stepped : (x : Stepped Msg) → step F R M (node_of s i) c event ≡ x → Fits (by_forged (first_forged s R h.signed (reads x)) h (after_step s h i x)).state
      stepped x st = forged (first_forged s R h.signed (reads x)) x st refl
