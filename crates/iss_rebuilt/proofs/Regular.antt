-- What holds of each core that events lead to, at each moment of a step: what it holds can be encoded, its votes could
-- be counted again, and it has a leaf for the vote at the end of its epoch.
use Rattle.std.proofs.Common.{◌≡◌, inl, inr, ℕ, suc, ◌+◌, ◌-◌, ◌≤◌, ◌<◌, ◌^◌, true, false, nat_lt, List, [], ◌∷◌, length, Some, refl, sym, ap, ◌∙◌, subst, arith, true≢false, le_trans}
use Rattle.std.proofs.lemmas.Bool.Decides.{leb_tells}
use Rattle.iss_base.specs.Lists.{Extends, In}
use Rattle.iss_base.proofs.Lists.{extends-refl, extends-trans, first-cases, none-some, not-true, oldest-all}
use Rattle.iss_checkpoint.specs.declared.votes.Cert.{Cert}
use Rattle.iss_checkpoint.specs.declared.votes.Vote.{Vote}
use Rattle.iss_keys.specs.KeyStates.{left_of}
use Rattle.iss_request.specs.declared.requests.Value.{Value}
use Rattle.iss_request.specs.declared.setups.Setup.{Setup}
use Rattle.iss_sb.specs.declared.effects.Input.{Input}
use Rattle.iss_sb.specs.declared.effects.Params.{Params}
use Rattle.iss_sb.specs.Calls.{IsGoodInput, IsGoodParams}
use Rattle.iss_sb.specs.Evidence.{Module, delivered}
use Rattle.iss_sb.specs.Laws.{DecidesReadable, IsHeard, IsLawful}
use Rattle.iss_transfer.specs.declared.pieces.Piece.{Piece as Sent_piece}
use Rattle.iss_rules.specs.Parcels.{Formats, OfModule, OfPiece, OfVote, Parcel}
use Rattle.iss_rules.specs.Past.{Past, Piece, adopted_at, adopts, advanced, before_at, before_own, cell, cut_at, epoch_at, is_complete, leader_at, log_of, made_in, params_at, params_of, start_of, takes}
use Rattle.iss_rules.specs.Rules.{Rules}
use Rattle.iss_rules.specs.SoundRules.{IsSoundRules}
use Rattle.iss_rules.specs.Votes.{cert_on}
use Rattle.iss_rules.proofs.Ending.{HasSlots, advanced-later}
use Rattle.iss_rules.proofs.Epochs.{epoch-high, start-mono, start-within}
use Rattle.iss_rules.proofs.Faithful.{IsFaithful, IsReadValue}
use Rattle.iss_rules.proofs.Logs.{IsLog, log-chain, log-later, takes-later}
use Rattle.iss_rules.proofs.Pieces.{adopts-later}
use Rattle.iss_rules.proofs.Windows.{AreWindows}
use Rattle.iss_model.specs.Node.{Core, Turn, adopts_piece, ends, has_leaves, step_unjudged}
use Rattle.iss_model.proofs.Casts.{adopts-ready, ends-ready, inputs-ready, settled-core}
use Rattle.iss_model.proofs.Places.{HasSegments}
use Rattle.iss_model.proofs.Ready.{IsReadyCore}
use Rattle.iss_model.proofs.Rows.{IsFit}
use Rattle.iss_model.proofs.Steps.{IsAdopted}
use Rattle.iss_snapshot.specs.Snapshots.{IsCertEntry, IsVoteEntry}
use Rattle.iss_rebuilt.proofs.Ballots.{AreBallots, ballots-keeping, ballots-later, keeping-keeps}
use Rattle.iss_rebuilt.proofs.Heard.{IsHeardPast, adopts-heard, advanced-heard, takes-heard}

-- what is asked of formats, rules and module
pub record IsGoodFrame {Msg : Type 0} (s : Setup) (F : Formats Msg) (R : Rules) (M : Module Msg) : Type 0 where
  pub sound : IsSoundRules s M R
  pub segments : HasSegments R
  pub windows : AreWindows R
  pub law : IsLawful M
  pub decides : DecidesReadable M
  pub faithful : IsFaithful s F M
  pub few : R.quorum < 256
  pub keys : 2 ^ s.keys < 2 ^ 32
  pub again : (bytes : List ℕ) (k : Parcel Msg) (l : ℕ) (msg : Msg) → F.unwrap bytes ≡ Some k → k.body ≡ OfModule l msg → F.unwrap (F.wrap k) ≡ Some k
  pub voted : (bytes : List ℕ) (k : Parcel Msg) (v : Vote) → F.unwrap bytes ≡ Some k → k.body ≡ OfVote v → IsVoteEntry v
  pub pieced : (bytes : List ℕ) (k : Parcel Msg) (x : Sent_piece) → F.unwrap bytes ≡ Some k → k.body ≡ OfPiece x → IsCertEntry x.cert

-- an input that a core may take
abbrev pub MayTake : {Msg : Type 0} → Setup → Module Msg → Input Msg → Type 0
MayTake s M input = (p : Params) → p.setup ≡ s → IsHeard M p input × IsGoodInput p input

-- a step may sign, and one leaf is left
spare-leaves : {Msg : Type 0} (M : Module Msg) (p : Params) (leaf : ℕ) → has_leaves M p leaf ≡ true → leaf + M.signs p < 2 ^ p.setup.keys
spare-leaves M p leaf h = elim (leb_tells (suc (left_of (record { secret = []; height = p.setup.keys; used = leaf }))) (suc (M.signs p))) [
  | inl t ↦ absurd (true≢false (sym t.0 ∙ not-true (nat_lt (left_of (record { secret = []; height = p.setup.keys; used = leaf })) (suc (M.signs p))) h))
  | inr t ↦ let lt = t.1 in omega (arith, lt)
]

module _ {Msg : Type 0} (R : Rules) (slots : HasSlots R) (M : Module Msg) (me : ℕ) where
  -- nothing was taken in the past's own epoch
  abbrev pub IsFresh : Past Msg → Type 0
  IsFresh c = (k l : ℕ) → c.epoch ≤ k → c.evidence k l ≡ []

  abbrev AreSettled : Past Msg → Type 0
  AreSettled c = (e k : ℕ) (v : Value) → adopted_at c.adopted e k ≡ Some v → e < c.epoch

  module _ (c : Past Msg) (fresh : IsFresh c) (settled : AreSettled c) where
    -- no cell of its epoch is filled
    fresh-epoch : (older : List Value) (v : Value) → cell R M me c older ≡ Some v → epoch_at R older < c.epoch
    fresh-epoch older v h = elim (leb_tells (suc (epoch_at R older)) c.epoch) [
      | inl t ↦ t.1
      | inr t ↦
          let le = t.1 in
          let none : c.evidence (epoch_at R older) (leader_at R older) ≡ [] = fresh (epoch_at R older) (leader_at R older) (omega (arith, le)) in
          elim (first-cases (delivered M (params_at R older) me (c.evidence (epoch_at R older) (leader_at R older)) (length older))
          (adopted_at c.adopted (epoch_at R older) (length older - length (before_at R older))) v h) [
            | inl a ↦ let k : delivered M (params_at R older) me [] (length older) ≡ Some v = rw none at a in absurd (none-some v k)
            | inr a ↦ settled (epoch_at R older) (length older - length (before_at R older)) v a.1
          ]
    ]

    -- so the log ends where the epoch begins
    pub fresh-within : length (log_of R M me c) ≤ start_of R (log_of R M me c) c.epoch
    fresh-within = go (log_of R M me c) (log-chain R M me c)
      where
        go : (log : List Value) → IsLog R M me c log → length log ≤ start_of R log c.epoch
        go [] k = omega arith
        go (v ∷ older) k =
            let e = fresh-epoch older v k.1 in
            let high = epoch-high R slots.some older in
            let mono = start-mono R older (suc (epoch_at R older)) c.epoch (omega (arith, e)) in
            elim (leb_tells (start_of R (v ∷ older) c.epoch) (length older)) [
              | inr t ↦ omega (arith, t.1)
              | inl t ↦
                  let same : start_of R (v ∷ older) c.epoch ≡ start_of R older c.epoch =
                  start-within R older (v ∷ older) c.epoch (v ∷ [], refl) t.1 in
                  absurd (omega (arith, t.1, same, high, mono))
            ]

    pub fresh-exact : cut_at R (log_of R M me c) c.epoch ≡ log_of R M me c
    fresh-exact = oldest-all (start_of R (log_of R M me c) c.epoch) (log_of R M me c) fresh-within

    -- and the epoch is not over
    pub fresh-open : is_complete R M me c ≡ false
    fresh-open = elim (leb_tells (start_of R (log_of R M me c) (suc c.epoch)) (length (log_of R M me c))) [
      | inl t ↦
          let some = slots.some (cut_at R (log_of R M me c) c.epoch) c.epoch in
          let next : start_of R (log_of R M me c) (suc c.epoch) ≡ start_of R (log_of R M me c) c.epoch + R.slots (cut_at R (log_of R M me c) c.epoch) c.epoch = refl in
          let far = t.1 in
          absurd (omega (arith, some, next, far, fresh-within))
      | inr t ↦ t.0
    ]

  -- ---- what goes on

  -- a later core: its log and certificates go on from those of the first
  pub record Goes (c d : Core Msg) : Type 0 where
    pub epoch : c.past.epoch ≤ d.past.epoch
    pub logs : Extends (log_of R M me c.past) (log_of R M me d.past)
    pub certs : (e : ℕ) (x : Cert) → cert_on c.certs e ≡ Some x → cert_on d.certs e ≡ Some x

  pub goes-refl : (c : Core Msg) → Goes c c
  goes-refl c = record { epoch = omega arith; logs = extends-refl (log_of R M me c.past); certs = λ e x h. h }

  pub goes-trans : (a b c : Core Msg) → Goes a b → Goes b c → Goes a c
  goes-trans a b c x y = record {
    epoch = le_trans x.epoch y.epoch;
    logs = extends-trans (log_of R M me a.past) (log_of R M me b.past) (log_of R M me c.past) x.logs y.logs;
    certs = λ e k h. y.certs e k (x.certs e k h);
  }

module _ {Msg : Type 0} (s : Setup) (F : Formats Msg) (R : Rules) (M : Module Msg) (P : IsGoodFrame s F R M) (me : ℕ) where
  pub slots-in : HasSlots R
  slots-in = P.segments.slots

  pub record IsRegular (c : Core Msg) : Type 0 where
    pub ready : IsReadyCore R M me c
    pub heard : IsHeardPast s R M P.sound me c.past
    pub ballots : AreBallots s R P.few c.past.epoch c.votes c.certs
    pub leaves : c.leaf ≤ 2 ^ s.keys

  -- ---- an input

  module _ (c : Core Msg) (l : ℕ) (input : Input Msg) (h : IsRegular c) (fit : IsFit F R M me c l input) (may : MayTake s M input) where
    abbrev p : Params
    p = params_of R M me c.past l

    abbrev later : Core Msg
    later = (step_unjudged F R M me c l input).core

    setup_is : p.setup ≡ s
    setup_is = P.sound.setup (before_own R M me c.past) c.past.epoch l

    good : IsGoodParams M p
    good = P.sound.good (before_own R M me c.past) c.past.epoch l fit.leads

    pub input-spare : later.leaf < 2 ^ s.keys
    input-spare =
        let spare : c.leaf + M.signs p < 2 ^ s.keys =
        subst (λ (t : Setup). c.leaf + M.signs p < 2 ^ t.keys) setup_is (spare-leaves M p c.leaf fit.leaves) in
        let used : (made_in R M me c.past l input c.leaf).used ≤ M.signs p =
        P.law.uses p me (c.past.evidence c.past.epoch l) input c.leaf good (may p setup_is).1 in
        omega (arith, spare, used)

    pub input-regular : IsRegular later
    input-regular = record {
      ready = inputs-ready F R M me c l input h.ready;
      heard = takes-heard s R M P.sound me c.past l input c.leaf (settled-core F R M me c h.ready.sound) h.ready.sound.reached h.ready.sound.unborn
          (may p setup_is).0 h.heard;
      ballots = h.ballots;
      leaves = omega (arith, input-spare);
    }

    pub input-goes : Goes R slots-in M me c later
    input-goes = record {
      epoch = omega arith;
      logs = log-later R M me c.past (takes R M me c.past l input c.leaf)
          (takes-later R M me c.past l input c.leaf (settled-core F R M me c h.ready.sound));
      certs = λ e x q. q;
    }

  -- ---- the end of an epoch

  module _ (c : Core Msg) (h : IsRegular c) (complete : is_complete R M me c.past ≡ true) where
    abbrev next : Core Msg
    next = (ends F R M me c).core

    pub ends-regular : c.leaf < 2 ^ s.keys → IsRegular next
    ends-regular spare = record {
      ready = ends-ready F R M me slots-in P.windows c h.ready complete;
      heard = advanced-heard s R M P.sound me c.past (settled-core F R M me c h.ready.sound) h.ready.sound.reached h.ready.sound.unborn h.heard;
      ballots = ballots-later s R P.few c.past.epoch (suc c.past.epoch) c.votes c.certs (omega arith) h.ballots;
      leaves = omega (arith, spare);
    }

    pub ends-fresh : IsFresh R slots-in M me next.past
    ends-fresh k l le = h.ready.sound.unborn k l (omega (arith, le))

    pub ends-goes : Goes R slots-in M me c next
    ends-goes = record {
      epoch = omega arith;
      logs = log-later R M me c.past (advanced c.past) (advanced-later R c.past (settled-core F R M me c h.ready.sound));
      certs = λ e x q. q;
    }

  -- ---- a piece

  module _ (c : Core Msg) (x : Sent_piece) (h : IsRegular c) (a : (t : Turn Msg) × IsAdopted F R M me c x t) (read : (v : Value) → In v x.values → IsReadValue s v)
      (entry : IsCertEntry x.cert) where
    abbrev adopter : Core Msg
    adopter = (adopts_piece R M me c x).core

    abbrev piece : Piece
    piece = record { epoch = c.past.epoch; values = x.values }

    pub adopts-regular : IsRegular adopter
    adopts-regular =
        let certs = ballots-keeping s R P.few c.past.epoch c.votes c.certs x.cert (cert_on c.certs c.past.epoch) h.ballots
        (record { certified = a.1.certified; entry = entry; near = let q = a.1.of_epoch in omega (arith, q) }) in
        record {
          ready = adopts-ready F R M me slots-in P.windows c x a.0 h.ready a.1;
          heard = adopts-heard s R M P.sound me c.past piece (settled-core F R M me c h.ready.sound) h.ready.sound.reached h.ready.sound.unborn read h.heard;
          ballots = ballots-later s R P.few c.past.epoch (suc c.past.epoch) c.votes adopter.certs (omega arith) certs;
          leaves = h.leaves;
        }

    pub adopts-fresh : IsFresh R slots-in M me adopter.past
    adopts-fresh k l le = h.ready.sound.unborn k l (omega (arith, le))

    pub adopts-goes : Goes R slots-in M me c adopter
    adopts-goes = record {
      epoch = omega arith;
      logs = log-later R M me c.past (adopts c.past piece) (adopts-later R c.past piece (settled-core F R M me c h.ready.sound));
      certs = λ e y q. keeping-keeps s R P.few c.certs x.cert (cert_on c.certs c.past.epoch)
          (ap (λ (n : ℕ). cert_on c.certs n) a.1.of_epoch) e y q;
    }

  -- where nothing was taken, the epoch is not over
  pub regular-open : (c : Core Msg) → IsRegular c → IsFresh R slots-in M me c.past → is_complete R M me c.past ≡ false
  regular-open c h fresh = fresh-open R slots-in M me c.past fresh h.ready.sound.settled
