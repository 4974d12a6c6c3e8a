-- What the examples share in which the Byzantine replica 3 leads the rounds 0 and 4: votes, certificates, and messages
-- that may arrive.
use Rattle.std.proofs.Common.{◌≡◌, ◌<◌, ◌≤◌, ◌^◌, ℕ, List, [], ◌∷◌, length, refl, sym, arith, true≢false}
use Rattle.iss_base.specs.Lists.{In}
use Rattle.iss_keys.specs.Directories.{directory_of}
use Rattle.iss_request.specs.Setup.{IsGoodSetup}
use Rattle.iss_sb.specs.declared.content.Content.TheVariants.{Holds}
use Rattle.iss_sb.specs.declared.effects.Claim.{Claim}
use Rattle.iss_sb.specs.declared.effects.Input.{Input}
use Rattle.iss_sb.specs.declared.effects.Input.TheVariants.{Receive}
use Rattle.iss_sb.specs.declared.effects.Params.{Params}
use Rattle.iss_sb.specs.declared.effects.To.{To}
use Rattle.iss_sb.specs.declared.effects.To.TheVariants.{One as To_one}
use Rattle.iss_sb.specs.declared.signers.Signed.{Signed}
use Rattle.iss_sb.specs.Calls.{IsGoodParams}
use Rattle.iss_sb.specs.Content.{IsSpelledContent}
use Rattle.iss_sb.specs.Evidence.{Item, Module, World, IsCredible, IsReadMessage, IsSigned, Verifies}
use Rattle.iss_sb.specs.Statements.{claim, signature}
use Rattle.iss_sb.proofs.Contents.{batch-table}
use Rattle.iss_sb.proofs.Read.{batch-read}
use Rattle.iss_sb.proofs.Setups.{good-by}
use Rattle.iss_sb.proofs.Signatures.{signature-shape, signature-verifies}
use Rattle.hs_tree.specs.declared.certificates.Certificate.{Certificate}
use Rattle.hs_tree.specs.declared.certificates.Certificate.TheVariants.{Votes}
use Rattle.hs_tree.specs.declared.messages.Message.{Message}
use Rattle.hs_tree.specs.declared.messages.Body.{Body}
use Rattle.hs_tree.specs.declared.messages.Body.TheVariants.{Vote}
use Rattle.hs_tree.specs.Messages.{signed}
use Rattle.hs_tree.specs.Certificates.{IsSpelledCertificate, votes_row}
use Rattle.hs_tree.specs.Statements.{stated, vote_statement}
use Rattle.hs_tree.specs.Tree.{chained as form}
use Rattle.hs_views.proofs.SmallWorlds.{IsFair, comes, sent-alone}
use Rattle.sb_chained.specs.Chained.{chained}
use Rattle.sb_chained.proofs.Examples.Runs.{b, node, setup, slot}

pub good-setup : IsGoodSetup setup
good-setup = good-by setup refl

abbrev pub q : Params
q = record { setup = setup; epoch = record { 0 = 2 }; leader = node 3; slots = slot 0 ∷ slot 4 ∷ []; directory = directory_of 4 1 4 }

pub good-q : IsGoodParams chained q
good-q = record {
  setup = good-setup;
  kind = refl;
  nodes = refl;
  majority = refl;
  leader = omega arith;
  some = omega arith;
  few = omega arith;
  ascending = (omega arith, (omega arith, tt));
  slots_low = (omega arith, (omega arith, tt));
  directory = refl;
}

-- ---- Votes and certificates

abbrev pub states : ℕ → List ℕ → List ℕ
states view d = vote_statement form q 1 view d

-- replica k's vote, signed with this leaf
abbrev pub vote : ℕ → List ℕ → ℕ → ℕ → Signed
vote view d leaf k = record { by = node k; sig = signature q k leaf (states view d) }

-- a certificate by the replicas i, j and 3
abbrev pub shown : ℕ → List ℕ → ℕ → ℕ → ℕ → ℕ → Certificate
shown view d i at j other = Votes view 1 d (vote view d at i ∷ vote view d other j ∷ vote view d 0 3 ∷ [])

abbrev pub told : Message → Input Message
told msg = Receive (node 3) msg

-- the message of a vote
abbrev pub sent : ℕ → ℕ → List ℕ → ℕ → List (To × Message)
sent me view d leaf = (To_one (node 3), signed (Vote 1 view d) (signature q me leaf (states view d))) ∷ []

pub shown-spelled : (view : ℕ) (d : List ℕ) (i at j other : ℕ) → 1 ≤ view → view < 2 ^ 32 → length d ≡ 32 → i < j → j < 3 →
    IsSpelledCertificate 1 (shown view d i at j other) (votes_row view 1 d (vote view d at i ∷ vote view d other j ∷ vote view d 0 3 ∷ []))
shown-spelled view d i at j other low high long less few = record {
  view_low = low;
  view_fits = high;
  phase_low = omega arith;
  phase_fits = omega arith;
  digest_fits = long;
  count_fits = omega arith;
  signers = (omega arith, signature-shape chained q good-q i at (states view d), (omega (arith, less), signature-shape chained q good-q j other (states view d), (omega (arith, few), signature-shape chained q good-q 3 0 (states view d), tt)));
  row = refl;
}

pub batch_held : (behind : List ℕ) × IsSpelledContent 1 (Holds b) behind
batch_held = batch-table 1 b (batch-read 1 b (omega arith) (λ r h. absurd h))

-- ---- Messages that may arrive

-- the message, signed by replica k with this leaf
abbrev pub by : ℕ → ℕ → Body → Message
by k leaf body = signed body (signature q k leaf (stated form q body))

abbrev pub signs : ℕ → ℕ → List ℕ → Claim
signs k leaf statement = claim k statement (signature q k leaf statement)

-- the claims of a certificate by the replicas i, j and 3, and the sender's own
abbrev pub and_own : ℕ → List ℕ → ℕ → ℕ → ℕ → ℕ → Claim → List Claim
and_own view d i at j other own =
    signs i at (states view d) ∷ signs j other (states view d) ∷ signs 3 0 (states view d) ∷ own ∷ []

module _ (m : Module Message) (w : World Message) where
  abbrev pub Arrives : ℕ → Message → Type 0
  Arrives from msg = IsCredible m q (Verifies q) (IsSigned m q w) from msg

  -- replica 3 may claim what it likes
  pub liar : (statement : List ℕ) → IsFair m q w (signs 3 0 statement)
  liar statement = record { valid = signature-verifies chained q good-q 3 0 statement (omega arith) (omega arith); signed = λ h. absurd (true≢false (sym h)) }

  pub honest : (k leaf : ℕ) (statement : List ℕ) → k < 4 → leaf < 2 ^ 4 → IsSigned m q w k statement → IsFair m q w (signs k leaf statement)
  honest k leaf statement is few h = record { valid = signature-verifies chained q good-q k leaf statement is few; signed = λ c. h }

  -- a message without votes
  pub alone : (k : ℕ) (msg : Message) (own : Claim) → k < 4 → IsReadMessage m q msg → m.claims q k msg ≡ own ∷ [] → IsFair m q w own → Arrives k msg
  alone k msg own few read e fair = comes m q w k msg (own ∷ []) few read e (fair, tt)

  -- a message with a certificate by the replicas i, j and 3
  pub cites : (view : ℕ) (d : List ℕ) (i at j other : ℕ) → i < 4 → at < 2 ^ 4 → j < 4 → other < 2 ^ 4 → IsSigned m q w i (states view d) → IsSigned m q w j (states view d) → (k : ℕ) (msg : Message) (own : Claim) → k < 4 → IsReadMessage m q msg →
      m.claims q k msg ≡ and_own view d i at j other own → IsFair m q w own → Arrives k msg
  cites view d i at j other li la lj lo si sj k msg own few read e fair =
      comes m q w k msg (and_own view d i at j other own) few read e (honest i at (states view d) li la si, (honest j other (states view d) lj lo sj, (liar (states view d), (fair, tt))))

  -- replica k cast a vote in a step that sent nothing else
  pub voted : (k view : ℕ) (d : List ℕ) (leaf : ℕ) (x : Item Message) → In x (w k) → x.made.sends ≡ sent k view d leaf → In (signs k leaf (states view d)) (m.claims q k (signed (Vote 1 view d) (signature q k leaf (states view d)))) → IsSigned m q w k (states view d)
  voted k view d leaf x h e c = sent-alone m q w k x (To_one (node 3)) (signed (Vote 1 view d) (signature q k leaf (states view d))) (signs k leaf (states view d)) h e c refl
