-- Each leaf that a node uses signs one statement: a module's, by the module's law, or a vote's. Every other own claim
-- that a node sends, it had received.
use Rattle.std.proofs.Common.{◌≡◌, ◌⊎◌, ◌∙◌, ◌+◌, ◌++◌, ◌∷◌, ℕ, suc, Bool, true, false, cond, eqb, List, [], length, length-append, Option, Some, None, refl, sym, ap, subst, inl, inr, arith, add-zero, eq-eqb}
use Rattle.std.specs.Prelude.{slice_get}
use Rattle.iss_sb.proofs.Leaves.{row-left, row-right}
use Rattle.iss_base.specs.Lists.{In}
use Rattle.iss_base.proofs.Lists.{and-true, in_append, in_left, in_right, is-eq, same_bytes-is, same_or_not, set_at2-other, set_at2-same}
use Rattle.iss_checkpoint.specs.Tallies.{certificate_by}
use Rattle.iss_checkpoint.specs.declared.votes.Cert.{Cert}
use Rattle.iss_sb.specs.declared.signers.Signed.{Signed as Signature}
use Rattle.iss_checkpoint.specs.declared.votes.Vote.{Vote}
use Rattle.iss_keys.specs.Directories.{node_secret}
use Rattle.iss_layout.proofs.FairLemmas.{in_filter, of_filter}
use Rattle.iss_keys.specs.Signatures.{signature_of}
use Rattle.iss_keys.proofs.LevelLemmas.{each_signs_once}
use Rattle.iss_request.specs.declared.requests.Value.{Value}
use Rattle.iss_request.specs.declared.setups.Setup.{Setup}
use Rattle.iss_sb.specs.declared.effects.Claim.{Claim}
use Rattle.iss_sb.specs.declared.effects.Input.{Input}
use Rattle.iss_sb.specs.declared.effects.Input.TheVariants.{Cast, Receive, Timeout}
use Rattle.iss_sb.specs.declared.effects.Params.{Params}
use Rattle.iss_sb.specs.Evidence.{Item, Module}
use Rattle.iss_sb.specs.Laws.{ComesWith, GoesWith, IsSignedBy, SignsEach, SignsOnce, WasSeen}
use Rattle.iss_sb.specs.Legal.{AreMade}
use Rattle.iss_rules.specs.declared.events.NodeEvent.{NodeEvent}
use Rattle.iss_rules.specs.declared.events.NodeEvent.TheVariants.{Packet as On_packet}
use Rattle.iss_rules.specs.Concrete.{rules_of}
use Rattle.iss_rules.specs.Formats.{formats_of}
use Rattle.iss_rules.specs.Parcels.{Body, Formats, OfModule, OfPiece, OfVote, Parcel}
use Rattle.iss_rules.specs.Past.{Past, adopts, advanced, before_own, is_complete, leads_in, made_in, params_of, taken_in, takes}
use Rattle.iss_rules.specs.Rules.{Rules}
use Rattle.iss_rules.specs.Setups.{IsSetupOf}
use Rattle.iss_rules.specs.SoundRules.{IsSoundRules}
use Rattle.iss_composition.specs.Cluster.{IsVerified}
use Rattle.iss_rules.specs.Votes.{all_verify, is_true_cert, cert_on, claim_of_vote, claims_of_cert, keeping, stable, vote_by}
use Rattle.iss_rules.proofs.Ending.{HasSlots}
use Rattle.iss_rules.proofs.Layouts.{sound-rules}
use Rattle.iss_rules.proofs.Logs.{before-later, takes-later}
use Rattle.iss_rules.proofs.Windows.{AreWindows, are-windows}
use Rattle.iss_model.specs.Frames.{Frame, frame_of}
use Rattle.iss_model.specs.Node.{Core, Early, Turn, adopts_piece, advance_epochs, claims_in, claims_of_input, counted, in_next_epoch, own_claims, step_unjudged, takes_each, then_turn, unchanged, vote_on}
use Rattle.iss_model.specs.Run.{claims_at}
use Rattle.iss_model.specs.Sound.{IsSoundCore}
use Rattle.iss_model.specs.Views.{claims_of_body, claims_of_parcel}
use Rattle.iss_model.proofs.Casts.{adopts-sound, casting-sound, early-sound, ends-sound, idle-sound, inputs-sound, kept-sound, requested-sound, settled-core}
use Rattle.iss_model.proofs.Rows.{each-holds, early_input, settles-holds, then_ends, then_reads, then_takes}
use Rattle.iss_model.proofs.Steps.{IsAdopted, Took, adopted, asked, cast, casting, fired, handed, kept, received, sought, took, voted}
use Rattle.iss_transfer.specs.declared.pieces.Piece.{Piece as Sent_piece}
use Rattle.iss_theorems.specs.Leaves.{AreOfRow, Deed, IsLife, IsOfRow, SignsOnceEach, core_behind, told, verified}
use Rattle.iss_theorems.proofs.Checkpoints.KeptVotesAreValid.{IsVoteOf, cert-there, in-below, in-claims, true-each, vote-there}
use Rattle.iss_theorems.proofs.Refinement.DeliveryChecks.{each-verifies, only-by, own-claim}

-- ---- claims with valid signatures

pub in_verified : (R : Rules) (claims : List Claim) (y : Claim) → In y claims → IsVerified R y → In y (verified R claims)
in_verified R claims y i v = in_filter (λ (c : Claim). R.verifies c.by.0 c.statement c.sig) claims y i v

pub of_verified : (R : Rules) (claims : List Claim) (y : Claim) → In y (verified R claims) → In y claims × IsVerified R y
of_verified R claims y i = of_filter (λ (c : Claim). R.verifies c.by.0 c.statement c.sig) claims y i

-- ---- places in a list

module _ (R : Rules) (me : ℕ) where
  row-more : (row more : List (List ℕ)) (c : Claim) → IsOfRow R me row c → IsOfRow R me (row ++ more) c
  row-more row more c h = record {
    leaf = h.leaf;
    statement = row-left row more h.leaf c.statement h.statement;
    signature = h.signature;
  }

  row-next : (row more : List (List ℕ)) (place : ℕ) (c : Claim) → slice_get more place ≡ Some c.statement →
      c.sig ≡ R.signature me (length row + place) c.statement → IsOfRow R me (row ++ more) c
  row-next row more place c there sig = record { leaf = length row + place; statement = row-right row more place ∙ there; signature = sig }

  -- an own claim that a node may send: it is of the row, or was received
  abbrev Known : List (List ℕ) → List Claim → Claim → Type 0
  Known row heard c = IsOfRow R me row c ⊎ In c heard

  known-more : (row more : List (List ℕ)) (heard : List Claim) (c : Claim) → Known row heard c → Known (row ++ more) heard c
  known-more row more heard c (inl h) = inl (row-more row more c h)
  known-more row more heard c (inr h) = inr h

module _ {Msg : Type 0} (s : Setup) (F : Formats Msg) (R : Rules) (M : Module Msg) (me : ℕ) (sound : IsSoundRules s M R) (windows : AreWindows R)
    (once : SignsOnce M) (signs : (leaf : ℕ) (statement : List ℕ) → R.signature me leaf statement ≡ signature_of (node_secret me) s.keys leaf statement) where
  abbrev W : Frame Msg
  W = record { setup = s; formats = F; rules = R; spec = M }

  slots : HasSlots R
  slots = record { some = sound.some_slots; most = sound.most }

  -- all entries of the instance are the module's, and all own claims in it are known
  record IsKnownIn (row : List (List ℕ)) (heard : List Claim) (p : Params) (xs : List (Item Msg)) : Type 0 where
    made : AreMade M p me xs
    seen : (y : Claim) → y.by.0 ≡ me → WasSeen M p me xs y → Known R me row heard y

  none-known : (row : List (List ℕ)) (heard : List Claim) (p : Params) (xs : List (Item Msg)) → xs ≡ [] → IsKnownIn row heard p xs
  none-known row heard p xs e = subst (λ (z : List (Item Msg)). IsKnownIn row heard p z) (sym e) (record { made = tt; seen = λ y by w. absurd w.taken })

  more-known : (row more : List (List ℕ)) (heard : List Claim) (p : Params) (xs : List (Item Msg)) → IsKnownIn row heard p xs → IsKnownIn (row ++ more) heard p xs
  more-known row more heard p xs h = record { made = h.made; seen = λ y by w. known-more R me row more heard y (h.seen y by w) }

  -- a vote that was received
  record IsHeardVote (heard : List Claim) (v : Vote) : Type 0 where
    verified : R.verifies v.by.0 (R.voted v.epoch.0 v.chain v.requests) v.sig ≡ true
    told : In (claim_of_vote R v) heard

  -- The row of a core is as long as its next leaf. Its epoch's instances are known, and its votes and certificates were
  -- received.
  record Accounts (row : List (List ℕ)) (heard : List Claim) (c : Core Msg) : Type 0 where
    core : IsSoundCore R M me c
    each : length row ≡ c.leaf
    instances : (l : ℕ) → IsKnownIn row heard (params_of R M me c.past l) (taken_in c.past l)
    votes : (v : Vote) → In v c.votes → IsHeardVote heard v
    certs : (x : Cert) → In x c.certs → (y : Claim) → In y (claims_of_cert R x) → In y heard

  accounts-heard : (row : List (List ℕ)) (old heard : List Claim) (c : Core Msg) → ((y : Claim) → In y old → In y heard) → Accounts row old c → Accounts row heard c
  accounts-heard row old heard c sub k = record {
    core = k.core;
    each = k.each;
    instances = λ l. record {
      made = (k.instances l).made;
      seen = λ y by w. elim ((k.instances l).seen y by w) [ inl a ↦ inl a | inr a ↦ inr (sub y a) ];
    };
    votes = λ v i. record { verified = (k.votes v i).verified; told = sub (claim_of_vote R v) (k.votes v i).told };
    certs = λ x i y m. sub y (k.certs x i y m);
  }

  -- ---- an input

  module _ (row : List (List ℕ)) (heard : List Claim) (c : Core Msg) (k : Accounts row heard c) (l : ℕ) (input : Input Msg) (leads : leads_in R M me c.past l ≡ true)
      (comes : (y : Claim) → ComesWith M (params_of R M me c.past l) y input → In y heard) where
    abbrev bf : List Value
    bf = before_own R M me c.past

    abbrev p : Params
    p = params_of R M me c.past l

    abbrev xs : List (Item Msg)
    xs = taken_in c.past l

    abbrev past : Past Msg
    past = takes R M me c.past l input c.leaf

    abbrev item : Item Msg
    item = record { input = input; leaf = c.leaf; made = made_in R M me c.past l input c.leaf }

    signed : SignsEach M p me xs input c.leaf
    signed = once p me xs input c.leaf (sound.good bf c.past.epoch l leads) (k.instances l).made

    abbrev behind : List (List ℕ)
    behind = row ++ signed.statements

    from-leaf : (y : Claim) → IsSignedBy p me c.leaf signed.statements y → IsOfRow R me behind y
    from-leaf y h =
        let setup : p.setup ≡ s = sound.setup bf c.past.epoch l in
        row-next R me row signed.statements h.place y h.statement
        (h.signature
        ∙ ap (λ (z : Setup). signature_of (node_secret me) z.keys (c.leaf + h.place) y.statement) setup
        ∙ ap (λ (n : ℕ). signature_of (node_secret me) s.keys (n + h.place) y.statement) (sym k.each)
        ∙ sym (signs (length row + h.place) y.statement))

    goes-known : (y : Claim) → y.by.0 ≡ me → GoesWith M p me y item.made.sends → Known R me behind heard y
    goes-known y by g = go (signed.own y by g)
      where
        go : IsSignedBy p me c.leaf signed.statements y ⊎ (ComesWith M p y input ⊎ WasSeen M p me xs y) → Known R me behind heard y
        go (inl a) = inl (from-leaf y a)
        go (inr (inl a)) = inr (comes y a)
        go (inr (inr a)) = known-more R me row signed.statements heard y ((k.instances l).seen y by a)

    here-known : IsKnownIn behind heard p (item ∷ xs)
    here-known = record {
      made = (refl, (k.instances l).made);
      seen = λ y by w. elim w.taken [
        | inl e ↦ fresh y by w.item e w.holds
        | inr m ↦ known-more R me row signed.statements heard y ((k.instances l).seen y by (record { item = w.item; taken = m; holds = w.holds }))
      ];
    }
      where
        fresh : (y : Claim) → y.by.0 ≡ me → (x : Item Msg) → x ≡ item → ComesWith M p y x.input ⊎ GoesWith M p me y x.made.sends → Known R me behind heard y
        fresh y by x e (inl h) = inr (comes y (subst (λ (z : Item Msg). ComesWith M p y z.input) e h))
        fresh y by x e (inr g) = goes-known y by (subst (λ (z : Item Msg). GoesWith M p me y z.made.sends) e g)

    same : before_own R M me past ≡ bf
    same = before-later R M me c.past past c.past.epoch (takes-later R M me c.past l input c.leaf (settled-core F R M me c k.core)) k.core.reached

    there-known : (j : ℕ) → IsKnownIn behind heard (params_of R M me past j) (taken_in past j)
    there-known j = subst (λ (z : List Value). IsKnownIn behind heard (R.params z c.past.epoch j) (taken_in past j)) (sym same) (elim (same_or_not j l) [
      | inl e ↦ subst (λ (n : ℕ). IsKnownIn behind heard (R.params bf c.past.epoch n) (taken_in past n)) (sym e)
          (subst (λ (z : List (Item Msg)). IsKnownIn behind heard p z) (sym (set_at2-same c.past.evidence c.past.epoch l (item ∷ xs))) here-known)
      | inr ne ↦ subst (λ (z : List (Item Msg)). IsKnownIn behind heard (R.params bf c.past.epoch j) z)
          (sym (set_at2-other c.past.evidence c.past.epoch l (item ∷ xs) c.past.epoch j (inr ne)))
          (more-known row signed.statements heard (R.params bf c.past.epoch j) (taken_in c.past j) (k.instances j))
    ])

    inputs-account : Accounts behind heard (step_unjudged F R M me c l input).core
    inputs-account = record {
      core = inputs-sound F R M me c l input k.core;
      each =
          let a = length-append row signed.statements in
          let b = signed.each in
          let d = k.each in
          omega (arith, a, b, d);
      instances = there-known;
      votes = k.votes;
      certs = k.certs;
    }

    inputs-own : (y : Claim) → In y (own_claims M p me item.made.sends) → Known R me behind heard y
    inputs-own y i =
        let o = own-claim M p me item.made.sends y i in
        goes-known y o.by (record { to = o.to; msg = o.msg; sent = o.sent; holds = o.made })

  -- ---- a step, given the statements so far

  record Accounted (first : List (List ℕ)) (heard : List Claim) (t : Turn Msg) : Type 0 where
    row : List (List ℕ)
    kept : (y : Claim) → IsOfRow R me first y → IsOfRow R me row y
    account : Accounts row heard t.core
    own : (y : Claim) → In y t.own → Known R me row heard y

  module _ (first : List (List ℕ)) (heard : List Claim) where
    rests-fair : (c : Core Msg) → Accounts first heard c → Accounted first heard (unchanged c)
    rests-fair c k = record { row = first; kept = λ y h. h; account = k; own = λ y i. absurd i }

    -- all that is read with a valid signature is heard
    abbrev Hears : List Claim → Type 0
    Hears claims = (y : Claim) → In y claims → IsVerified R y → In y heard

    abbrev Comes : Turn Msg → ℕ → Input Msg → Type 0
    Comes t l input = leads_in R M me t.core.past l ≡ true → Hears (claims_of_input M (params_of R M me t.core.past l) input)

    -- so are the claims of an input that was taken
    input-heard : (p : Params) (input : Input Msg) → Hears (claims_of_input M p input) → all_verify R (claims_of_input M p input) ≡ true →
        (y : Claim) → ComesWith M p y input → In y heard
    input-heard p (Cast slot batch) sub valid y h = absurd h
    input-heard p (Receive from msg) sub valid y h = sub y h (each-verifies R (M.claims p from.0 msg) valid y h)
    input-heard p Timeout sub valid y h = absurd h

    takes-fair : (t : Turn Msg) (l : ℕ) (input : Input Msg) → Accounted first heard t → leads_in R M me t.core.past l ≡ true →
        all_verify R (claims_of_input M (params_of R M me t.core.past l) input) ≡ true → Comes t l input →
        Accounted first heard (then_takes F R M me t l input)
    takes-fair t l input k leads valid come =
        let p = params_of R M me t.core.past l in
        let sends = (made_in R M me t.core.past l input t.core.leaf).sends in
        let comes = input-heard p input (come leads) valid in
        let signed = signed k.row heard t.core k.account l input leads comes in
        record {
          row = k.row ++ signed.statements;
          kept = λ y h. row-more R me k.row signed.statements y (k.kept y h);
          account = inputs-account k.row heard t.core k.account l input leads comes;
          own = λ y i. elim (in_append y t.own (own_claims M p me sends) i) [
            | inl a ↦ known-more R me k.row signed.statements heard y (k.own y a)
            | inr b ↦ inputs-own k.row heard t.core k.account l input leads comes y b
          ];
        }

    ends-fair : (t : Turn Msg) → Accounted first heard t → is_complete R M me t.core.past ≡ true → Accounted first heard (then_ends F R M me t)
    ends-fair t k complete =
        let c = t.core in
        let cl : Claim = claim_of_vote R (vote_on R M me c) in
        let more : List (List ℕ) = cl.statement ∷ [] in
        let leaf : c.leaf ≡ length k.row + 0 = sym k.account.each ∙ sym (add-zero (length k.row)) in
        let mine : IsOfRow R me (k.row ++ more) cl = row-next R me k.row more 0 cl refl (ap (λ (n : ℕ). R.signature me n cl.statement) leaf) in
        record {
          row = k.row ++ more;
          kept = λ y h. row-more R me k.row more y (k.kept y h);
          account = record {
            core = kept-sound F R M me (in_next_epoch c) [] c.votes c.certs (suc c.leaf) (ends-sound F R M me slots windows c k.account.core complete);
            each =
                let a = length-append k.row more in
                let b = k.account.each in
                omega (arith, a, b);
            instances = λ l. none-known (k.row ++ more) heard (params_of R M me (advanced c.past) l) (taken_in (advanced c.past) l)
                (k.account.core.unborn (suc c.past.epoch) l (omega arith));
            votes = k.account.votes;
            certs = k.account.certs;
          };
          own = λ y i. elim (in_append y t.own (cl ∷ []) i) [
            | inl a ↦ known-more R me k.row more heard y (k.own y a)
            | inr b ↦ elim b [ inl e ↦ subst (λ (z : Claim). Known R me (k.row ++ more) heard z) (sym e) (inl mine) | inr none ↦ absurd none ]
          ];
        }

    reads-fair : (t : Turn Msg) (claims : List Claim) → Accounted first heard t → Accounted first heard (then_reads F R M me t claims)
    reads-fair t claims k = record { row = k.row; kept = k.kept; account = k.account; own = k.own }

    -- an early message, read as it was taken
    early-comes : (t : Turn Msg) (x : Early Msg) → Hears (claims_in R M me t.core.past x.from x.leader x.msg) →
        Comes t x.leader (early_input F R M me x)
    early-comes t x sub leads y h =
        sub y (subst (λ (b : Bool). In y (cond b (M.claims (params_of R M me t.core.past x.leader) x.from x.msg) [])) (sym leads) h)

    settles-fair : (t : Turn Msg) → Accounted first heard t → Hears (advance_epochs F R M me t).early →
        Accounted first heard (advance_epochs F R M me t)
    settles-fair t k sub = settles-holds F R M me (Accounted first heard) Comes
        (λ u l input h fit come. takes-fair u l input h fit.leads fit.claims come) ends-fair reads-fair t k
        (λ done u x i h q r. early-comes u x (λ y m. sub y (r y m)))

    each-fair : (e : ℕ) (xs : List (Early Msg)) (t : Turn Msg) → Accounted first heard t → Hears (takes_each F R M me e xs t.core).early →
        Accounted first heard (then_turn t (takes_each F R M me e xs))
    each-fair e xs t k sub = each-holds F R M me (Accounted first heard) Comes
        (λ u l input h fit come. takes-fair u l input h fit.leads fit.claims come) ends-fair reads-fair e xs t k
        (λ u x i h q r. early-comes u x (λ y m. sub y (r y m)))

  -- ---- votes and certificates

  module _ (heard : List Claim) (votes : List Vote) (v : Vote) (are : (w : Vote) → In w votes → IsHeardVote heard w) where
    found : (k : ℕ) (w : Vote) → vote_by votes v.epoch.0 k ≡ Some w → IsVoteOf R v.epoch.0 k w
    found k w h = let r = vote-there s R votes v.epoch.0 k w h in record { own = r.2; epoch = r.1; signed = (are w r.0).verified }

    -- the claims of a certificate that a vote completes are those of votes
    signer-heard : (y : Signature) → In y (certificate_by (vote_by votes v.epoch.0) v R.nodes).signers →
        In (record { by = y.by; statement = R.voted v.epoch.0 v.chain v.requests; sig = y.sig }) heard
    signer-heard y i =
        let r = in-below R v (vote_by votes v.epoch.0) found R.nodes y i in
        let t = vote-there s R votes v.epoch.0 r.node r.vote r.given in
        let a = and-true (eqb r.vote.requests v.requests) _ r.same in
        let number = is-eq r.vote.requests v.requests a.0 in
        let chain = same_bytes-is r.vote.chain v.chain a.1 in
        let same : R.voted r.vote.epoch.0 r.vote.chain r.vote.requests ≡ R.voted v.epoch.0 v.chain v.requests = rw (t.1, number, chain) refl in
        subst (λ (z : Signature). In (record { by = z.by; statement = R.voted v.epoch.0 v.chain v.requests; sig = z.sig }) heard) (sym r.is)
        (subst (λ (st : List ℕ). In (record { by = r.vote.by; statement = st; sig = r.vote.sig }) heard) same (are r.vote t.0).told)

    stable-heard : (x : Cert) → In x (stable R votes v) → (y : Claim) → In y (claims_of_cert R x) → In y heard
    stable-heard x h y m = go (eqb (length made.signers) R.quorum) refl h
      where
        made : Cert
        made = certificate_by (vote_by votes v.epoch.0) v R.nodes

        go : (b : Bool) → eqb (length made.signers) R.quorum ≡ b → In x (cond b (made ∷ []) []) → In y heard
        go true q (inl e) =
            let r = in-claims (R.voted v.epoch.0 v.chain v.requests) made.signers y (subst (λ (z : Cert). In y (claims_of_cert R z)) e m) in
            subst (λ (z : Claim). In z heard) (sym r.2) (signer-heard r.0 r.1)
        go true q (inr e) = absurd e
        go false q e = absurd e

  counted-account : (row : List (List ℕ)) (heard : List Claim) (c : Core Msg) (v : Vote) → Accounts row heard c → IsHeardVote heard v → Accounts row heard (counted R c v)
  counted-account row heard c v k new = record {
    core = kept-sound F R M me c c.early (v ∷ c.votes) (stable R (v ∷ c.votes) v ++ c.certs) c.leaf k.core;
    each = k.each;
    instances = k.instances;
    votes = more;
    certs = λ x i y m. elim (in_append x (stable R (v ∷ c.votes) v) c.certs i) [
      | inl a ↦ stable-heard heard (v ∷ c.votes) v more x a y m
      | inr b ↦ k.certs x b y m
    ];
  }
    where
      more : (w : Vote) → In w (v ∷ c.votes) → IsHeardVote heard w
      more w (inl e) = subst (λ (z : Vote). IsHeardVote heard z) (sym e) new
      more w (inr i) = k.votes w i

  keeping-heard : (heard : List Claim) (certs : List Cert) (x : Cert) (o : Option Cert) → ((z : Cert) → In z certs → (y : Claim) → In y (claims_of_cert R z) → In y heard) →
      ((y : Claim) → In y (claims_of_cert R x) → In y heard) → (z : Cert) → In z (keeping certs x o) → (y : Claim) → In y (claims_of_cert R z) → In y heard
  keeping-heard heard certs x None old new z (inl e) y m = new y (subst (λ (w : Cert). In y (claims_of_cert R w)) e m)
  keeping-heard heard certs x None old new z (inr i) y m = old z i y m
  keeping-heard heard certs x (Some other) old new z i y m = old z i y m

  adopts-account : (row : List (List ℕ)) (heard : List Claim) (c : Core Msg) (p : Sent_piece) (t : Turn Msg) → Accounts row heard c → IsAdopted F R M me c p t →
      ((y : Claim) → In y (claims_of_cert R p.cert) → In y heard) → Accounts row heard (adopts_piece R M me c p).core
  adopts-account row heard c p t k a new =
      let past : Past Msg = adopts c.past (record { epoch = c.past.epoch; values = p.values }) in
      record {
        core = adopts-sound F R M me slots windows c p t k.core a;
        each = k.each;
        instances = λ l. none-known row heard (params_of R M me past l) (taken_in past l) (k.core.unborn (suc c.past.epoch) l (omega arith));
        votes = k.votes;
        certs = keeping-heard heard c.certs p.cert (cert_on c.certs c.past.epoch) k.certs new;
      }

  -- ---- a step

  module _ (first : List (List ℕ)) (heard : List Claim) (c : Core Msg) (k : Accounts first heard c) where
    -- what is read of bytes
    read-of : (bytes : List ℕ) (q : Parcel Msg) (b : Body Msg) → F.unwrap bytes ≡ Some q → q.body ≡ b → (y : Claim) →
        In y (claims_of_body R M me c q.from q.epoch b) → In y (claims_at F R M me c (On_packet bytes))
    read-of bytes q b un is y h =
        subst (λ (o : Option (Parcel Msg)). In y (claims_of_parcel R M me c o)) (sym un)
        (subst (λ (z : Body Msg). In y (claims_of_body R M me c q.from q.epoch z)) (sym is) h)

    message-read : (bytes : List ℕ) (q : Parcel Msg) (l : ℕ) (msg : Msg) → F.unwrap bytes ≡ Some q → q.body ≡ OfModule l msg → q.epoch ≡ c.past.epoch →
        leads_in R M me c.past l ≡ true → (y : Claim) → In y (M.claims (params_of R M me c.past l) q.from msg) → In y (claims_at F R M me c (On_packet bytes))
    message-read bytes q l msg un is e leads y h =
        read-of bytes q (OfModule l msg) un is y
        (subst (λ (b : Bool). In y (cond b (claims_in R M me c.past q.from l msg) [])) (sym (eq-eqb q.epoch c.past.epoch e))
        (subst (λ (b : Bool). In y (cond b (M.claims (params_of R M me c.past l) q.from msg) [])) (sym leads) h))

    same-core : (d : Core Msg) → IsSoundCore R M me d → d.past ≡ c.past → d.votes ≡ c.votes → d.certs ≡ c.certs → d.leaf ≡ c.leaf → Accounts first heard d
    same-core d core past votes certs leaf = record {
      core = core;
      each = k.each ∙ sym leaf;
      instances = λ l. subst (λ (z : Past Msg). IsKnownIn first heard (params_of R M me z l) (taken_in z l)) (sym past) (k.instances l);
      votes = λ v i. k.votes v (subst (λ (z : List Vote). In v z) votes i);
      certs = λ x i. k.certs x (subst (λ (z : List Cert). In x z) certs i);
    }

    is-turn : (t u : Turn Msg) → t ≡ u → Accounted first heard u → Accounted first heard t
    is-turn t u e h = subst (λ (z : Turn Msg). Accounted first heard z) (sym e) h

    -- the claims of a valid certificate have valid signatures
    cert-verifies : (x : Cert) → is_true_cert R x ≡ true → (y : Claim) → In y (claims_of_cert R x) → IsVerified R y
    cert-verifies x valid y m =
        let statement : List ℕ = R.voted x.epoch.0 x.chain x.requests in
        let r = in-claims statement x.signers y m in
        let a = and-true (eqb (length x.signers) R.quorum) _ valid in
        subst (λ (z : Claim). IsVerified R z) (sym r.2) (true-each R statement 0 x.signers a.1 r.0 r.1).1

    took-fair : (event : NodeEvent) (t : Turn Msg) → Took F R M me c event t → Hears first heard (claims_at F R M me c event) →
        Hears first heard t.early → Accounted first heard t
    took-fair event t (received {bytes} q l msg u un b e i is) now early =
        let input : Input Msg = Receive (record { 0 = q.from }) msg in
        let first_move : Accounted first heard (step_unjudged F R M me c l input) =
        takes-fair first heard (unchanged c) l input (rests-fair first heard c k) i.leads i.claims
        (λ leads y h v. now y (message-read bytes q l msg un b e leads y h) v) in
        is-turn t (advance_epochs F R M me u) is
        (settles-fair first heard u (is-turn u (step_unjudged F R M me c l input) i.is first_move)
        (λ y m. early y (subst (λ (z : Turn Msg). In y z.early) (sym is) m)))
    took-fair event t (kept q l msg u b e i) now early =
        is-turn t _ i.is (rests-fair first heard _ (same-core _ (early-sound F R M me c _ k.core) refl refl refl refl))
    took-fair event t (asked q r u b i) now early =
        let d : Core Msg = record c { waiting = c.waiting ++ r ∷ [] } in
        let core : IsSoundCore R M me d = subst (λ (z : Turn Msg). IsSoundCore R M me z.core) i.is (requested-sound F R M me c r t k.core i) in
        is-turn t (unchanged d) i.is (rests-fair first heard d (same-core d core refl refl refl refl))
    took-fair event t (cast slot u i is) now early =
        let d : Core Msg = casting F R M me c slot in
        let first_move = takes-fair first heard (unchanged d) me _ (rests-fair first heard d (same-core d (casting-sound F R M me c slot k.core) refl refl refl refl)) i.leads refl
        (λ leads y h v. absurd h) in
        is-turn t (advance_epochs F R M me u) is
        (settles-fair first heard u (is-turn u _ i.is first_move) (λ y m. early y (subst (λ (z : Turn Msg). In y z.early) (sym is) m)))
    took-fair event t (voted {bytes} q v u b i) now early =
        let a = and-true (R.verifies v.by.0 (R.voted v.epoch.0 v.chain v.requests) v.sig) true i.signed in
        let new : IsHeardVote heard v = record { verified = a.0; told = now (claim_of_vote R v) (read-of bytes q (OfVote v) u b (claim_of_vote R v) (inl refl)) a.0 } in
        is-turn t (unchanged (counted R c v)) i.is (rests-fair first heard (counted R c v) (counted-account first heard c v k new))
    took-fair event t (handed q cert u b i) now early =
        is-turn t _ i.is (record {
          row = first;
          kept = λ y h. h;
          account = k;
          own = λ y m. inr (k.certs cert (cert-there s R c.certs q.epoch cert i.kept).0 y (only-by me (claims_of_cert R cert) y m).0);
        })
    took-fair event t (adopted {bytes} q p u b a) now early =
        let start : Accounted first heard (adopts_piece R M me c p) =
        record {
          row = first;
          kept = λ y h. h;
          account = adopts-account first heard c p t k a (λ y m. now y (read-of bytes q (OfPiece p) u b y m) (cert-verifies p.cert a.certified y m));
          own = λ y m. absurd m;
        } in
        is-turn t _ a.is (each-fair first heard (suc c.past.epoch) c.early (adopts_piece R M me c p) start
        (λ y m. early y (subst (λ (z : Turn Msg). In y z.early) (sym a.is) m)))
    took-fair event t (sought peer is) now early =
        is-turn t _ is (record { row = first; kept = λ y h. h; account = k; own = λ y m. absurd m })
    took-fair event t (fired l u i is) now early =
        let first_move = takes-fair first heard (unchanged c) l.0 _ (rests-fair first heard c k) i.leads i.claims (λ leads y h v. absurd h) in
        is-turn t (advance_epochs F R M me u) is
        (settles-fair first heard u (is-turn u _ i.is first_move) (λ y m. early y (subst (λ (z : Turn Msg). In y z.early) (sym is) m)))

  -- ---- a history

  record Lived (deeds : List (Deed Msg)) : Type 0 where
    row : List (List ℕ)
    account : Accounts row (told W me deeds) (core_behind deeds)
    own : AreOfRow W me row deeds

  rows-kept : (a b : List (List ℕ)) → ((y : Claim) → IsOfRow R me a y → IsOfRow R me b y) → (deeds : List (Deed Msg)) → AreOfRow W me a deeds → AreOfRow W me b deeds
  rows-kept a b sub [] h = tt
  rows-kept a b sub (x ∷ xs) h = (λ y i. elim (h.0 y i) [ inl z ↦ inl (sub y z) | inr z ↦ inr z ], rows-kept a b sub xs h.1)

  lived : (deeds : List (Deed Msg)) → IsLife W me deeds → Lived deeds
  lived [] life =
      let c : Core Msg = core_behind [] in
      record {
        row = [];
        account = record {
          core = idle-sound R M me;
          each = refl;
          instances = λ l. none-known [] [] (params_of R M me c.past l) [] refl;
          votes = λ v i. absurd i;
          certs = λ x i. absurd i;
        };
        own = tt;
      }
  lived (x ∷ xs) life =
      let old = lived xs life.1 in
      let c = core_behind xs in
      let read = claims_at F R M me c x.event in
      let now = verified R (read ++ x.turn.early) in
      let heard = told W me (x ∷ xs) in
      let k : Accounts old.row heard c = accounts-heard old.row (told W me xs) heard c (λ y i. in_right y now (told W me xs) i) old.account in
      let done : Accounted old.row heard x.turn =
      took-fair old.row heard c k x.event x.turn (took F R M me c x.event x.turn life.0)
      (λ y i v. in_left y now (told W me xs) (in_verified R (read ++ x.turn.early) y (in_left y read x.turn.early i) v))
      (λ y i v. in_left y now (told W me xs) (in_verified R (read ++ x.turn.early) y (in_right y read x.turn.early i) v)) in
      record { row = done.row; account = done.account; own = (done.own, rows-kept old.row done.row done.kept xs old.own) }

  pub signs-each : (deeds : List (Deed Msg)) → IsLife W me deeds → SignsOnceEach W me deeds
  signs-each deeds life = let h = lived deeds life in record {
    row = h.row;
    each = h.account.each;
    trees = each_signs_once (node_secret me) W.setup.keys h.row;
    own = h.own;
  }

-- so in a cluster of a good set-up
pub signs-once-each : {Msg : Type 0} (s : Setup) (M : Module Msg) → IsSetupOf M s → SignsOnce M → (me : ℕ) (deeds : List (Deed Msg)) →
    IsLife (frame_of s M) me deeds → SignsOnceEach (frame_of s M) me deeds
signs-once-each s M h once me deeds life =
    signs-each s (formats_of s M) (rules_of s) M me (sound-rules M s h) (are-windows s) once (λ leaf statement. refl) deeds life
