-- Messages of HotStuff without the safe test, where the Byzantine replica 3 leads the slots 0 and 4: votes and
-- certificates, what has an encoding, and what may arrive. A certificate has the votes of two correct replicas and of
-- replica 3.
use Rattle.std.proofs.Common.{◌≡◌, ◌<◌, ◌≤◌, ◌^◌, ℕ, ◌+◌, List, [], ◌∷◌, length, refl, sym, inl, arith, true≢false}
use Rattle.iss_base.specs.Lists.{In}
use Rattle.iss_keys.specs.Directories.{directory_of}
use Rattle.iss_request.specs.declared.setups.Setup.{Setup}
use Rattle.iss_sb.specs.declared.content.Content.{Content}
use Rattle.iss_sb.specs.declared.effects.Claim.{Claim}
use Rattle.iss_sb.specs.declared.effects.Input.{Input}
use Rattle.iss_sb.specs.declared.effects.Input.TheVariants.{Receive}
use Rattle.iss_sb.specs.declared.effects.Params.{Params}
use Rattle.iss_sb.specs.declared.effects.To.{To}
use Rattle.iss_sb.specs.declared.effects.To.TheVariants.{One as To_one}
use Rattle.iss_sb.specs.declared.signers.Signed.{Signed}
use Rattle.iss_sb.specs.Calls.{IsGoodParams}
use Rattle.iss_sb.specs.Content.{IsSpelledContent}
use Rattle.iss_sb.specs.Evidence.{Item, World, IsCredible, IsReadMessage, IsSigned, Verifies}
use Rattle.iss_sb.specs.Statements.{claim, signature}
use Rattle.iss_sb.proofs.Setups.{good-by}
use Rattle.iss_sb.proofs.Signatures.{signature-shape, signature-verifies}
use Rattle.hs_tree.specs.declared.certificates.Certificate.{Certificate}
use Rattle.hs_tree.specs.declared.certificates.Certificate.TheVariants.{Root, Votes}
use Rattle.hs_tree.specs.declared.messages.Message.{Message}
use Rattle.hs_tree.specs.declared.messages.Body.{Body}
use Rattle.hs_tree.specs.declared.messages.Body.TheVariants.{Prepare, PreCommit, Commit, Decide, Vote}
use Rattle.hs_tree.specs.Messages.{signed}
use Rattle.hs_tree.specs.Certificates.{IsSpelledCertificate, root_row, votes_row}
use Rattle.hs_tree.specs.Statements.{claims, stated, vote_statement}
use Rattle.hs_tree.specs.Tree.{basic}
use Rattle.hs_tree.proofs.MessageGrammar.{spelled-read}
use Rattle.hs_views.proofs.SmallWorlds.{IsFair, comes, sent-alone}
use Rattle.sb_chained.proofs.Examples.Runs.{node, setup as chained_setup, slot}
use Rattle.counterexamples.specs.Hotstuff.{without_safe_test as loose}

abbrev setup : Setup
setup = record chained_setup { «module» = 4 }

abbrev pub q : Params
q = record { setup = setup; epoch = record { 0 = 2 }; leader = node 3; slots = slot 0 ∷ slot 4 ∷ []; directory = directory_of 4 1 4 }

pub good : IsGoodParams loose q
good = record {
  setup = good-by setup refl;
  kind = refl;
  nodes = refl;
  majority = refl;
  leader = omega arith;
  some = omega arith;
  few = omega arith;
  ascending = (omega arith, (omega arith, tt));
  slots_low = (omega arith, (omega arith, tt));
  directory = refl;
}

abbrev pub told : Message → Input Message
told msg = Receive (node 3) msg

-- ---- Signatures, votes and certificates

abbrev signs : ℕ → ℕ → List ℕ → Claim
signs k leaf statement = claim k statement (signature q k leaf statement)

-- the message, signed by replica 3
abbrev pub by : Body → Message
by body = signed body (signature q 3 0 (stated basic q body))

-- The votes for a node in a view: by replica 3, with leaf 0, and by two correct replicas. In phase k each of these uses
-- the k-th leaf behind a given one.
pub record Poll : Type 0 where
  pub view : ℕ
  pub digest : List ℕ
  pub one : ℕ
  pub one_behind : ℕ
  pub other : ℕ
  pub other_behind : ℕ

abbrev pub states : Poll → ℕ → List ℕ
states r phase = vote_statement basic q phase r.view r.digest

abbrev vote : Poll → ℕ → ℕ → ℕ → Signed
vote r phase leaf k = record { by = node k; sig = signature q k leaf (states r phase) }

abbrev votes : Poll → ℕ → List Signed
votes r phase =
    vote r phase (r.one_behind + phase) r.one ∷ vote r phase (r.other_behind + phase) r.other ∷ vote r phase 0 3 ∷ []

-- the certificate of a phase
abbrev shown : Poll → ℕ → Certificate
shown r phase = Votes r.view phase r.digest (votes r phase)

abbrev pub pre_commit : Poll → Message
pre_commit r = by (PreCommit r.view (shown r 1))

abbrev pub commit : Poll → Message
commit r = by (Commit r.view (shown r 2))

abbrev pub decide : Poll → Message
decide r = by (Decide r.view (shown r 3))

-- replica k sends its vote
abbrev pub sent : Poll → ℕ → ℕ → ℕ → List (To × Message)
sent r phase leaf k = (To_one (node 3), signed (Vote phase r.view r.digest) (signature q k leaf (states r phase))) ∷ []

pub record IsPoll (r : Poll) : Type 0 where
  pub low : 1 ≤ r.view
  pub high : r.view < 2 ^ 32
  pub long : length r.digest ≡ 32
  pub ascending : r.one < r.other
  pub few : r.other < 3
  pub one_left : r.one_behind + 3 < 2 ^ 4
  pub other_left : r.other_behind + 3 < 2 ^ 4

-- ---- What has an encoding

shown-spelled : (r : Poll) (phase : ℕ) → IsPoll r → 1 ≤ phase → phase ≤ 3 → IsSpelledCertificate 3 (shown r phase) (votes_row r.view phase r.digest (votes r phase))
shown-spelled r phase is low high =
    let is_one = signature-shape loose q good r.one (r.one_behind + phase) (states r phase) in
    let is_other = signature-shape loose q good r.other (r.other_behind + phase) (states r phase) in
    let is_third = signature-shape loose q good 3 0 (states r phase) in
    record {
      view_low = is.low;
      view_fits = is.high;
      phase_low = low;
      phase_fits = high;
      digest_fits = is.long;
      count_fits = omega arith;
      signers = (omega arith, is_one, (omega (arith, is.ascending), is_other, (omega (arith, is.few), is_third, tt)));
      row = refl;
    }

-- on the root
pub prepare-read : (view : ℕ) (what : Content) (held : List ℕ) → view < 2 ^ 32 → IsSpelledContent 1 what held → IsReadMessage loose q (by (Prepare view what Root))
prepare-read view what held fits h = spelled-read 3 1 (by (Prepare view what Root)) _ (record { view_fits = fits; behind = held; what_is = h; certificate = root_row; spelled = refl; row = refl }) (signature-shape loose q good 3 0 _)

module _ (r : Poll) (is : IsPoll r) where
  pre-commit-read : IsReadMessage loose q (pre_commit r)
  pre-commit-read = spelled-read 3 1 (pre_commit r) _ (record { three = refl; view_fits = is.high; certificate = _; spelled = shown-spelled r 1 is (omega arith) (omega arith); row = refl }) (signature-shape loose q good 3 0 _)

  commit-read : IsReadMessage loose q (commit r)
  commit-read = spelled-read 3 1 (commit r) _ (record { three = refl; view_fits = is.high; certificate = _; spelled = shown-spelled r 2 is (omega arith) (omega arith); row = refl }) (signature-shape loose q good 3 0 _)

  decide-read : IsReadMessage loose q (decide r)
  decide-read = spelled-read 3 1 (decide r) _ (record { three = refl; view_fits = is.high; certificate = _; spelled = shown-spelled r 3 is (omega arith) (omega arith); row = refl }) (signature-shape loose q good 3 0 _)

-- ---- Messages that may arrive

-- both correct replicas of the poll cast the vote of the phase
pub record AreCast (w : World Message) (r : Poll) (phase : ℕ) : Type 0 where
  pub one_did : IsSigned loose q w r.one (states r phase)
  pub other_did : IsSigned loose q w r.other (states r phase)

-- a certificate's claims, before the sender's own
abbrev and_own : Poll → ℕ → Claim → List Claim
and_own r phase own =
    signs r.one (r.one_behind + phase) (states r phase) ∷ signs r.other (r.other_behind + phase) (states r phase) ∷
    signs 3 0 (states r phase) ∷ own ∷ []

module _ (w : World Message) where
  abbrev pub Arrives : Message → Type 0
  Arrives msg = IsCredible loose q (Verifies q) (IsSigned loose q w) 3 msg

  -- replica 3 may claim what it likes
  liar : (st : List ℕ) → IsFair loose q w (signs 3 0 st)
  liar st = record { valid = signature-verifies loose q good 3 0 st (omega arith) (omega arith); signed = λ h. absurd (true≢false (sym h)) }

  honest : (k leaf : ℕ) (st : List ℕ) → k < 4 → leaf < 2 ^ 4 → IsSigned loose q w k st → IsFair loose q w (signs k leaf st)
  honest k leaf st is few h = record { valid = signature-verifies loose q good k leaf st is few; signed = λ c. h }

  -- a message without votes
  pub alone : (msg : Message) → IsReadMessage loose q msg → claims basic q 3 msg ≡ signs 3 0 (stated basic q msg.body) ∷ [] → Arrives msg
  alone msg read e = comes loose q w 3 msg (signs 3 0 (stated basic q msg.body) ∷ []) (omega arith) read e (liar (stated basic q msg.body), tt)

  -- a message with a certificate
  cites : (msg : Message) (r : Poll) (phase : ℕ) → IsPoll r → phase ≤ 3 → IsReadMessage loose q msg → claims basic q 3 msg ≡ and_own r phase (signs 3 0 (stated basic q msg.body)) → AreCast w r phase → Arrives msg
  cites msg r phase is high read e h =
      let st = states r phase in
      let one = honest r.one (r.one_behind + phase) st (omega (arith, is.ascending, is.few)) (omega (arith, is.one_left, high)) h.one_did in
      let other = honest r.other (r.other_behind + phase) st (omega (arith, is.few)) (omega (arith, is.other_left, high)) h.other_did in
      comes loose q w 3 msg _ (omega arith) read e (one, (other, (liar st, (liar (stated basic q msg.body), tt))))

  pub pre-commit-comes : (r : Poll) → IsPoll r → AreCast w r 1 → Arrives (pre_commit r)
  pre-commit-comes r is h = cites (pre_commit r) r 1 is (omega arith) (pre-commit-read r is) refl h

  pub commit-comes : (r : Poll) → IsPoll r → AreCast w r 2 → Arrives (commit r)
  commit-comes r is h = cites (commit r) r 2 is (omega arith) (commit-read r is) refl h

  pub decide-comes : (r : Poll) → IsPoll r → AreCast w r 3 → Arrives (decide r)
  decide-comes r is h = cites (decide r) r 3 is (omega arith) (decide-read r is) refl h

  -- replica k cast a vote in a step that sent nothing else
  pub voted : (r : Poll) (phase leaf k : ℕ) (x : Item Message) → In x (w k) → x.made.sends ≡ sent r phase leaf k → IsSigned loose q w k (states r phase)
  voted r phase leaf k x h e =
      sent-alone loose q w k x (To_one (node 3)) (signed (Vote phase r.view r.digest) (signature q k leaf (states r phase))) (signs k leaf (states r phase)) h e (inl refl) refl
