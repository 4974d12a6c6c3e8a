-- All that a core took can be encoded, and so can each value of its log.
use Rattle.std.proofs.Common.{◌≡◌, inl, inr, ℕ, ◌≤◌, ◌<◌, ◌-◌, List, [], ◌∷◌, length, Some, refl, sym, ◌∙◌, subst, arith, le_trans}
use Rattle.std.proofs.lemmas.Bool.Decides.{leb_tells}
use Rattle.iss_base.specs.Lists.{Extends, In}
use Rattle.iss_base.proofs.Lists.{extends-refl, extends-tail, first-cases, none-some, same_pair, set_at2-other, set_at2-same}
use Rattle.iss_request.specs.declared.requests.Value.{Value}
use Rattle.iss_request.specs.declared.setups.Setup.{Setup}
use Rattle.iss_sb.specs.declared.effects.Input.{Input}
use Rattle.iss_sb.specs.declared.effects.Params.{Params}
use Rattle.iss_sb.specs.Calls.{IsGoodParams}
use Rattle.iss_sb.specs.Evidence.{Item, Module, and_then, delivered}
use Rattle.iss_sb.specs.Laws.{AreHeard, DecidesReadable, IsHeard}
use Rattle.iss_rules.specs.Past.{Past, Piece, adopted_at, adopts, advanced, before, before_at, epoch_at, leader_at, log_of, params_at, params_of, start_of, takes}
use Rattle.iss_rules.specs.Rules.{Rules}
use Rattle.iss_rules.specs.SoundRules.{IsSoundRules}
use Rattle.iss_rules.proofs.Ending.{advanced-later}
use Rattle.iss_rules.proofs.Epochs.{cut-extends, epoch-low, start-mono}
use Rattle.iss_rules.proofs.Faithful.{IsReadValue}
use Rattle.iss_rules.proofs.Logs.{IsLog, Later, Settled, before-later, log-chain, takes-later}
use Rattle.iss_rules.proofs.Pieces.{adopts-later}
use Rattle.iss_theorems.proofs.Refinement.LoggedValuesAreEncodable.{AreReadPieces, adopted-read}

module _ {Msg : Type 0} (s : Setup) (R : Rules) (M : Module Msg) (sound : IsSoundRules s M R) (me : ℕ) where
  -- each history that a past has
  abbrev pub Heard : Past Msg → Type 0
  Heard c = (e l : ℕ) → AreHeard M (R.params (before R M me c e) e l) me (c.evidence e l)

  pub record IsHeardPast (c : Past Msg) : Type 0 where
    pub heard : Heard c
    pub pieces : AreReadPieces s c.adopted

  -- a part of a history
  heard-tail : (p : Params) (xs : List (Item Msg)) (x : Item Msg) → AreHeard M p me (x ∷ xs) → AreHeard M p me xs
  heard-tail p xs x h = h.2

  none-heard : (p : Params) (xs : List (Item Msg)) → xs ≡ [] → AreHeard M p me xs
  none-heard p xs q = subst (λ (ys : List (Item Msg)). AreHeard M p me ys) (sym q) tt

  -- a history that stays the same is heard in a later past
  module _ (c d : Past Msg) (later : Later R c d) (reached : start_of R (log_of R M me c) c.epoch ≤ length (log_of R M me c))
      (unborn : (e l : ℕ) → c.epoch < e → c.evidence e l ≡ []) (h : Heard c) where
    reached-at : (e : ℕ) → e ≤ c.epoch → start_of R (log_of R M me c) e ≤ length (log_of R M me c)
    reached-at e le = le_trans (start-mono R (log_of R M me c) e c.epoch le) reached

    same-before : (e : ℕ) → e ≤ c.epoch → before R M me d e ≡ before R M me c e
    same-before e le = before-later R M me c d e later (reached-at e le)

    kept-heard : (e l : ℕ) → d.evidence e l ≡ c.evidence e l → AreHeard M (R.params (before R M me d e) e l) me (d.evidence e l)
    kept-heard e l same = elim (leb_tells e c.epoch) [
      | inl t ↦
          subst (λ (bf : List Value). AreHeard M (R.params bf e l) me (d.evidence e l)) (sym (same-before e t.1))
          (subst (λ (xs : List (Item Msg)). AreHeard M (R.params (before R M me c e) e l) me xs) (sym same) (h e l))
      | inr t ↦ none-heard (R.params (before R M me d e) e l) (d.evidence e l) (same ∙ unborn e l t.1)
    ]

  -- an input that can be encoded
  pub takes-heard : (c : Past Msg) (l : ℕ) (input : Input Msg) (leaf : ℕ) → Settled R c → start_of R (log_of R M me c) c.epoch ≤ length (log_of R M me c) →
      ((e k : ℕ) → c.epoch < e → c.evidence e k ≡ []) → IsHeard M (params_of R M me c l) input → IsHeardPast c → IsHeardPast (takes R M me c l input leaf)
  takes-heard c l input leaf settled reached unborn fit h = record { heard = heard; pieces = h.pieces }
    where
      d : Past Msg
      d = takes R M me c l input leaf

      later : Later R c d
      later = takes-later R M me c l input leaf settled

      here : AreHeard M (R.params (before R M me d c.epoch) c.epoch l) me (d.evidence c.epoch l)
      here =
          subst (λ (xs : List (Item Msg)). AreHeard M (R.params (before R M me d c.epoch) c.epoch l) me xs)
          (sym (set_at2-same c.evidence c.epoch l (and_then M (params_of R M me c l) me (c.evidence c.epoch l) input leaf)))
          (subst (λ (bf : List Value). AreHeard M (R.params bf c.epoch l) me (and_then M (params_of R M me c l) me (c.evidence c.epoch l) input leaf))
          (sym (same-before c d later reached unborn h.heard c.epoch (omega arith)))
          (fit, refl, h.heard c.epoch l))

      heard : Heard d
      heard e k = elim (same_pair e k c.epoch l) [
        | inl q ↦
            subst (λ (n : ℕ). AreHeard M (R.params (before R M me d n) n k) me (d.evidence n k)) (sym q.0)
            (subst (λ (n : ℕ). AreHeard M (R.params (before R M me d c.epoch) c.epoch n) me (d.evidence c.epoch n)) (sym q.1) here)
        | inr ne ↦ kept-heard c d later reached unborn h.heard e k (set_at2-other c.evidence c.epoch l _ e k ne)
      ]

  -- the end of an epoch
  pub advanced-heard : (c : Past Msg) → Settled R c → start_of R (log_of R M me c) c.epoch ≤ length (log_of R M me c) →
      ((e k : ℕ) → c.epoch < e → c.evidence e k ≡ []) → IsHeardPast c → IsHeardPast (advanced c)
  advanced-heard c settled reached unborn h = record {
    heard = λ e l. kept-heard c (advanced c) (advanced-later R c settled) reached unborn h.heard e l refl;
    pieces = h.pieces;
  }

  -- a piece whose values can be encoded
  pub adopts-heard : (c : Past Msg) (piece : Piece) → Settled R c → start_of R (log_of R M me c) c.epoch ≤ length (log_of R M me c) →
      ((e k : ℕ) → c.epoch < e → c.evidence e k ≡ []) → ((v : Value) → In v piece.values → IsReadValue s v) → IsHeardPast c → IsHeardPast (adopts c piece)
  adopts-heard c piece settled reached unborn read h = record {
    heard = λ e l. kept-heard c (adopts c piece) (adopts-later R c piece settled) reached unborn h.heard e l refl;
    pieces = λ p i. elim i [ inl q ↦ subst (λ (z : Piece). (v : Value) → In v z.values → IsReadValue s v) (sym q) read | inr m ↦ h.pieces p m ];
  }

  -- ---- the log

  -- what is delivered was decided by a part of the history
  record IsDecided (p : Params) (xs : List (Item Msg)) (slot : ℕ) (v : Value) : Type 0 where
    part : List (Item Msg)
    heard : AreHeard M p me part
    is : M.decided p me part slot ≡ Some v

  decided-in : (p : Params) (xs : List (Item Msg)) (slot : ℕ) (v : Value) → AreHeard M p me xs → delivered M p me xs slot ≡ Some v → IsDecided p xs slot v
  decided-in p [] slot v h q = absurd (none-some v q)
  decided-in p (x ∷ xs) slot v h q = elim (first-cases (delivered M p me xs slot) (M.decided p me (x ∷ xs) slot) v q) [
    | inl a ↦ let r = decided-in p xs slot v (heard-tail p xs x h) a in record { part = r.part; heard = r.heard; is = r.is }
    | inr a ↦ record { part = x ∷ xs; heard = h; is = a.1 }
  ]

  module _ (decides : DecidesReadable M) (low : me < s.n) (c : Past Msg) (h : IsHeardPast c) where
    delivered-read : (older : List Value) (v : Value) → Extends older (log_of R M me c) →
        delivered M (params_at R older) me (c.evidence (epoch_at R older) (leader_at R older)) (length older) ≡ Some v → IsReadValue s v
    delivered-read older v part q =
        let e : ℕ = epoch_at R older in
        let l : ℕ = leader_at R older in
        let p : Params = params_at R older in
        let same : before R M me c e ≡ before_at R older = cut-extends R older (log_of R M me c) e part (epoch-low R older) in
        let heard : AreHeard M p me (c.evidence e l) =
        subst (λ (bf : List Value). AreHeard M (R.params bf e l) me (c.evidence e l)) same (h.heard e l) in
        let d = decided-in p (c.evidence e l) (length older) v heard q in
        let good : IsGoodParams M p = sound.good (before_at R older) e l (sound.leads older) in
        let setup : p.setup ≡ s = sound.setup (before_at R older) e l in
        subst (λ (t : Setup). IsReadValue t v) setup
        (decides p me d.part (length older) v good (subst (λ (t : Setup). me < t.n) (sym setup) low) d.heard d.is)

    parts-read : (xs : List Value) → Extends xs (log_of R M me c) → IsLog R M me c xs → (v : Value) → In v xs → IsReadValue s v
    parts-read [] part k v i = absurd i
    parts-read (u ∷ older) part k v (inr i) = parts-read older (extends-tail u older (log_of R M me c) part) k.0 v i
    parts-read (u ∷ older) part k v (inl q) = subst (λ (z : Value). IsReadValue s z) (sym q)
        (elim (first-cases (delivered M (params_at R older) me (c.evidence (epoch_at R older) (leader_at R older)) (length older))
        (adopted_at c.adopted (epoch_at R older) (length older - length (before_at R older))) u k.1) [
          | inl a ↦ delivered-read older u (extends-tail u older (log_of R M me c) part) a
          | inr a ↦ adopted-read s c.adopted h.pieces (epoch_at R older) (length older - length (before_at R older)) u a.1
        ])

    pub log-read : (v : Value) → In v (log_of R M me c) → IsReadValue s v
    log-read v i = parts-read (log_of R M me c) (extends-refl (log_of R M me c)) (log-chain R M me c) v i
