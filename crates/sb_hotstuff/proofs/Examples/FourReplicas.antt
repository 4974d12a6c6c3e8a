-- What the examples share in which replica 3 is Byzantine: parameters, votes and certificates, messages that have an
-- encoding, and valid claims. A certificate has the votes of two correct replicas and of replica 3.
use Rattle.std.proofs.Common.{◌≡◌, ◌<◌, ◌≤◌, ◌^◌, ℕ, ◌+◌, List, [], ◌∷◌, length, refl, sym, ap, ◌∙◌, subst, inl, arith, true≢false}
use Rattle.iss_base.specs.Lists.{In}
use Rattle.iss_keys.specs.Directories.{directory_of}
use Rattle.iss_request.specs.Fields.{IsReadAgain, Parsed}
use Rattle.iss_request.specs.Setup.{IsGoodSetup}
use Rattle.iss_sb.specs.declared.content.Content.{Content}
use Rattle.iss_sb.specs.declared.content.Content.TheVariants.{Holds}
use Rattle.iss_sb.specs.declared.effects.Claim.{Claim}
use Rattle.iss_sb.specs.declared.effects.Input.{Input}
use Rattle.iss_sb.specs.declared.effects.Input.TheVariants.{Receive}
use Rattle.iss_sb.specs.declared.effects.Params.{Params}
use Rattle.iss_sb.specs.declared.effects.To.{To}
use Rattle.iss_sb.specs.declared.effects.To.TheVariants.{One as To_one}
use Rattle.iss_sb.specs.declared.signers.Signed.{Signed}
use Rattle.iss_sb.specs.Calls.{IsGoodParams}
use Rattle.iss_sb.specs.Content.{IsSpelledContent}
use Rattle.iss_sb.specs.Evidence.{Item, Module, World, IsCredible, IsReadMessage, IsSigned, Verifies}
use Rattle.iss_sb.specs.Statements.{claim, signature}
use Rattle.iss_sb.proofs.Contents.{batch-table}
use Rattle.iss_sb.proofs.Read.{batch-read}
use Rattle.iss_sb.proofs.Setups.{good-by}
use Rattle.iss_sb.proofs.Signatures.{signature-shape, signature-verifies}
use Rattle.hs_tree.specs.declared.certificates.Certificate.{Certificate}
use Rattle.hs_tree.specs.declared.certificates.Certificate.TheVariants.{Votes}
use Rattle.hs_tree.specs.declared.messages.Message.{Message}
use Rattle.hs_tree.specs.declared.messages.Body.{Body}
use Rattle.hs_tree.specs.declared.messages.Body.TheVariants.{NewView, Prepare, PreCommit, Commit, Decide, Vote}
use Rattle.hs_tree.specs.Messages.{signed}
use Rattle.hs_tree.specs.Certificates.{IsSpelledCertificate, votes_row}
use Rattle.hs_tree.specs.Statements.{claims, stated, vote_statement}
use Rattle.hs_tree.specs.Tree.{basic}
use Rattle.hs_tree.proofs.MessageGrammar.{spelled-read}
use Rattle.hs_views.proofs.SmallWorlds.{AreFair, IsFair, comes, sent-alone}
use Rattle.sb_hotstuff.specs.HotStuff.{hotstuff}
use Rattle.sb_hotstuff.proofs.Examples.Runs.{b, node, setup, slot}

pub good-setup : IsGoodSetup setup
good-setup = good-by setup refl

-- the slots 0 and 4, led by this replica
abbrev pub led_by : ℕ → Params
led_by l = record { setup = setup; epoch = record { 0 = 2 }; leader = node l; slots = slot 0 ∷ slot 4 ∷ []; directory = directory_of 4 1 4 }

abbrev pub told : ℕ → Message → Input Message
told from msg = Receive (node from) msg

-- ---- Signatures, votes and certificates

abbrev pub signs : Params → ℕ → ℕ → List ℕ → Claim
signs p k leaf statement = claim k statement (signature p k leaf statement)

-- the message, signed by replica k with this leaf
abbrev pub by : Params → ℕ → ℕ → Body → Message
by p k leaf body = signed body (signature p k leaf (stated basic p body))

-- what votes for a node in a view sign, by phase
abbrev pub states : Params → ℕ → List ℕ → ℕ → List ℕ
states p view d phase = vote_statement basic p phase view d

-- The votes for a node in a view: by replica 3, with leaf 0, and by two correct replicas. In phase k each of these uses
-- the k-th leaf behind a given one.
pub record Poll : Type 0 where
  pub view : ℕ
  pub digest : List ℕ
  pub one : ℕ
  pub one_behind : ℕ
  pub other : ℕ
  pub other_behind : ℕ

abbrev pub vote : Params → Poll → ℕ → ℕ → ℕ → Signed
vote p r phase leaf k = record { by = node k; sig = signature p k leaf (states p r.view r.digest phase) }

abbrev pub votes : Params → Poll → ℕ → List Signed
votes p r phase =
    vote p r phase (r.one_behind + phase) r.one ∷ vote p r phase (r.other_behind + phase) r.other ∷ vote p r phase 0 3 ∷ []

-- the certificate of a phase
abbrev pub shown : Params → Poll → ℕ → Certificate
shown p r phase = Votes r.view phase r.digest (votes p r phase)

-- replica 3 shows the certificates of the three phases
abbrev pub pre_commit : Params → Poll → Message
pre_commit p r = by p 3 0 (PreCommit r.view (shown p r 1))

abbrev pub commit : Params → Poll → Message
commit p r = by p 3 0 (Commit r.view (shown p r 2))

abbrev pub decide : Params → Poll → Message
decide p r = by p 3 0 (Decide r.view (shown p r 3))

-- replica k sends its vote to a leader
abbrev pub sent : Params → Poll → ℕ → ℕ → ℕ → ℕ → List (To × Message)
sent p r phase leaf k leader =
    (To_one (node leader), signed (Vote phase r.view r.digest) (signature p k leaf (states p r.view r.digest phase))) ∷ []

pub record IsPoll (r : Poll) : Type 0 where
  pub low : 1 ≤ r.view
  pub high : r.view < 2 ^ 32
  pub long : length r.digest ≡ 32
  pub ascending : r.one < r.other
  pub few : r.other < 3
  pub one_left : r.one_behind + 3 < 2 ^ 4
  pub other_left : r.other_behind + 3 < 2 ^ 4

-- ---- What has an encoding

pub batch_held : (behind : List ℕ) × IsSpelledContent 1 (Holds b) behind
batch_held = batch-table 1 b (batch-read 1 b (omega arith) (λ r h. absurd h))

module _ (l : ℕ) (below : l < 4) where
  abbrev p : Params
  p = led_by l

  pub good : IsGoodParams hotstuff p
  good = record {
    setup = good-setup;
    kind = refl;
    nodes = refl;
    majority = refl;
    leader = below;
    some = omega arith;
    few = omega arith;
    ascending = (omega arith, (omega arith, tt));
    slots_low = (omega arith, (omega arith, tt));
    directory = refl;
  }

  pub shown-spelled : (r : Poll) (phase : ℕ) → IsPoll r → 1 ≤ phase → phase ≤ 3 → IsSpelledCertificate 3 (shown p r phase) (votes_row r.view phase r.digest (votes p r phase))
  shown-spelled r phase is low high =
      let is_one = signature-shape hotstuff p good r.one (r.one_behind + phase) (states p r.view r.digest phase) in
      let is_other = signature-shape hotstuff p good r.other (r.other_behind + phase) (states p r.view r.digest phase) in
      let is_third = signature-shape hotstuff p good 3 0 (states p r.view r.digest phase) in
      record {
        view_low = is.low;
        view_fits = is.high;
        phase_low = low;
        phase_fits = high;
        digest_fits = is.long;
        count_fits = omega arith;
        signers = (omega arith, is_one, (omega (arith, is.ascending), is_other, (omega (arith, is.few), is_third, tt)));
        row = refl;
      }

  pub pre-commit-read : (r : Poll) → IsPoll r → IsReadMessage hotstuff p (pre_commit p r)
  pre-commit-read r is = spelled-read 3 1 (pre_commit p r) _ (record { three = refl; view_fits = is.high; certificate = _; spelled = shown-spelled r 1 is (omega arith) (omega arith); row = refl }) (signature-shape hotstuff p good 3 0 _)

  pub commit-read : (r : Poll) → IsPoll r → IsReadMessage hotstuff p (commit p r)
  commit-read r is = spelled-read 3 1 (commit p r) _ (record { three = refl; view_fits = is.high; certificate = _; spelled = shown-spelled r 2 is (omega arith) (omega arith); row = refl }) (signature-shape hotstuff p good 3 0 _)

  pub decide-read : (r : Poll) → IsPoll r → IsReadMessage hotstuff p (decide p r)
  decide-read r is = spelled-read 3 1 (decide p r) _ (record { three = refl; view_fits = is.high; certificate = _; spelled = shown-spelled r 3 is (omega arith) (omega arith); row = refl }) (signature-shape hotstuff p good 3 0 _)

  pub prepare-read : (k leaf view : ℕ) (what : Content) (just : Certificate) (held cited : List ℕ) → view < 2 ^ 32 → IsSpelledContent 1 what held → IsSpelledCertificate 3 just cited → IsReadMessage hotstuff p (by p k leaf (Prepare view what just))
  prepare-read k leaf view what just held cited fits h c = spelled-read 3 1 (by p k leaf (Prepare view what just)) _ (record { view_fits = fits; behind = held; what_is = h; certificate = cited; spelled = c; row = refl }) (signature-shape hotstuff p good k leaf _)

  pub new-view-read : (k leaf round : ℕ) (high : Certificate) (cited : List ℕ) → round < 2 ^ 16 → IsSpelledCertificate 3 high cited → IsReadMessage hotstuff p (by p k leaf (NewView round high))
  new-view-read k leaf round high cited fits c = spelled-read 3 1 (by p k leaf (NewView round high)) _ (record { round_fits = fits; certificate = cited; spelled = c; row = refl }) (signature-shape hotstuff p good k leaf _)

-- ---- Messages that may arrive at replicas of a module with these messages

pub record IsLike (m : Module Message) : Type 0 where
  pub spell : m.spell ≡ hotstuff.spell
  pub parse : m.parse ≡ hotstuff.parse
  pub claims : m.claims ≡ hotstuff.claims

-- both correct replicas of the poll cast the vote of the phase
pub record AreCast (m : Module Message) (p : Params) (w : World Message) (r : Poll) (phase : ℕ) : Type 0 where
  pub one_did : IsSigned m p w r.one (states p r.view r.digest phase)
  pub other_did : IsSigned m p w r.other (states p r.view r.digest phase)

-- a certificate's claims, before the sender's own
abbrev pub and_own : Params → Poll → ℕ → Claim → List Claim
and_own p r phase own =
    signs p r.one (r.one_behind + phase) (states p r.view r.digest phase) ∷
    signs p r.other (r.other_behind + phase) (states p r.view r.digest phase) ∷
    signs p 3 0 (states p r.view r.digest phase) ∷ own ∷ []

module _ (m : Module Message) (like : IsLike m) (l : ℕ) (below : l < 4) (w : World Message) where
  abbrev q : Params
  q = led_by l

  verifies : (k leaf : ℕ) (st : List ℕ) → k < 4 → leaf < 2 ^ 4 → Verifies q (signs q k leaf st)
  verifies k leaf st is few = signature-verifies hotstuff q (good l below) k leaf st is few

  -- replica 3 may claim what it likes
  pub liar : (st : List ℕ) → IsFair m q w (signs q 3 0 st)
  liar st = record { valid = verifies 3 0 st (omega arith) (omega arith); signed = λ h. absurd (true≢false (sym h)) }

  pub honest : (k leaf : ℕ) (st : List ℕ) → k < 4 → leaf < 2 ^ 4 → IsSigned m q w k st → IsFair m q w (signs q k leaf st)
  honest k leaf st is few h = record { valid = verifies k leaf st is few; signed = λ c. h }

  read-too : (msg : Message) → IsReadMessage hotstuff q msg → IsReadMessage m q msg
  read-too msg h =
      subst (λ (z : ℕ → List ℕ → Parsed Message). IsReadAgain (m.spell 1) (z 1) msg) (sym like.parse)
      (subst (λ (z : ℕ → Message → List ℕ). IsReadAgain (z 1) (hotstuff.parse 1) msg) (sym like.spell) h)

  pub arrives : (from : ℕ) (msg : Message) (cs : List Claim) → from < 4 → IsReadMessage hotstuff q msg → claims basic q from msg ≡ cs → AreFair m q w cs → IsCredible m q (Verifies q) (IsSigned m q w) from msg
  arrives from msg cs is read e h = comes m q w from msg cs is (read-too msg read) (ap (λ (z : Params → ℕ → Message → List Claim). z q from msg) like.claims ∙ e) h

  -- a message with a certificate
  pub cites : (from leaf : ℕ) (msg : Message) (r : Poll) (phase : ℕ) → IsPoll r → phase ≤ 3 → from < 4 → IsReadMessage hotstuff q msg → claims basic q from msg ≡ and_own q r phase (signs q from leaf (stated basic q msg.body)) → AreCast m q w r phase → IsFair m q w (signs q from leaf (stated basic q msg.body)) → IsCredible m q (Verifies q) (IsSigned m q w) from msg
  cites from leaf msg r phase is high named read e h own =
      let st = states q r.view r.digest phase in
      let one = honest r.one (r.one_behind + phase) st (omega (arith, is.ascending, is.few)) (omega (arith, is.one_left, high)) h.one_did in
      let other = honest r.other (r.other_behind + phase) st (omega (arith, is.few)) (omega (arith, is.other_left, high)) h.other_did in
      arrives from msg _ named read e (one, (other, (liar st, (own, tt))))

  pub pre-commit-comes : (r : Poll) → IsPoll r → AreCast m q w r 1 → IsCredible m q (Verifies q) (IsSigned m q w) 3 (pre_commit q r)
  pre-commit-comes r is h = cites 3 0 (pre_commit q r) r 1 is (omega arith) (omega arith) (pre-commit-read l below r is) refl h (liar _)

  pub commit-comes : (r : Poll) → IsPoll r → AreCast m q w r 2 → IsCredible m q (Verifies q) (IsSigned m q w) 3 (commit q r)
  commit-comes r is h = cites 3 0 (commit q r) r 2 is (omega arith) (omega arith) (commit-read l below r is) refl h (liar _)

  pub decide-comes : (r : Poll) → IsPoll r → AreCast m q w r 3 → IsCredible m q (Verifies q) (IsSigned m q w) 3 (decide q r)
  decide-comes r is h = cites 3 0 (decide q r) r 3 is (omega arith) (omega arith) (decide-read l below r is) refl h (liar _)

  -- replica k cast a vote in a step that sent nothing else
  pub voted : (r : Poll) (phase leaf k leader : ℕ) (x : Item Message) → In x (w k) → x.made.sends ≡ sent q r phase leaf k leader → IsSigned m q w k (states q r.view r.digest phase)
  voted r phase leaf k leader x h e =
      let msg = signed (Vote phase r.view r.digest) (signature q k leaf (states q r.view r.digest phase)) in
      let c = signs q k leaf (states q r.view r.digest phase) in
      sent-alone m q w k x (To_one (node leader)) msg c h e (subst (λ (z : Params → ℕ → Message → List Claim). In c (z q k msg)) (sym like.claims) (inl refl)) refl
