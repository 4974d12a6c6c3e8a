-- All values in logs have encodings: what the judge accepts has, and so has what is read of a piece.
use Rattle.std.proofs.Common.{◌≡◌, inl, inr, ℕ, ◌≤◌, ◌-◌, Bool, true, false, cond, eqb, List, [], ◌∷◌, length, Some, None, refl, sym, ap, ap₂, ◌∙◌, subst, arith}
use Rattle.std.proofs.lemmas.Bool.Decides.{leb_tells}
use Rattle.std.proofs.lemmas.List.{append-nil}
use Rattle.iss_base.specs.Lists.{In, nth}
use Rattle.iss_base.proofs.Lists.{first-cases, none-some, nth-in}
use Rattle.iss_request.specs.Digest.{digest}
use Rattle.iss_request.specs.Fields.{Parsed}
use Rattle.iss_request.specs.Formats.{parse_value, spell_value}
use Rattle.iss_request.specs.declared.ids.Slot.{Slot}
use Rattle.iss_request.specs.declared.requests.Batch.{Batch}
use Rattle.iss_request.specs.declared.requests.Value.{Value}
use Rattle.iss_request.specs.declared.requests.Value.TheVariants.{Batch as Value_batch, Nil as Value_nil}
use Rattle.iss_request.specs.declared.setups.Setup.{Setup}
use Rattle.iss_request.proofs.OneSpelling.{value_grammar, value_related}
use Rattle.iss_sb.specs.Evidence.{Module, Separate, accepts, delivered, is_correct}
use Rattle.iss_sb.specs.Laws.{IsSafe}
use Rattle.iss_sb.proofs.Read.{batch-read, read-again}
use Rattle.iss_composition.specs.Checkpoints.{is_good, scheme_of}
use Rattle.iss_composition.specs.Cluster.{Backed, Cluster, Scheme, chain, chain_strings}
use Rattle.iss_rules.specs.Judge.{marks}
use Rattle.iss_rules.specs.SoundRules.{IsSoundRules}
use Rattle.iss_composition.specs.Ordered.{Among}
use Rattle.iss_rules.specs.Past.{Past, Piece, adopted_at, before, before_at, epoch_at, leader_at, params_at}
use Rattle.iss_rules.proofs.Logs.{IsLog, Later}
use Rattle.iss_rules.specs.Rules.{Rules}
use Rattle.iss_rules.proofs.Faithful.{IsReadValue}
use Rattle.iss_composition.proofs.Agree.{before-is, begun, in-world, placed, right, world-at}
use Rattle.iss_rules.proofs.Epochs.{epoch-low}
use Rattle.iss_composition.proofs.Good.{Good}
use Rattle.iss_rules.proofs.Judged.{accepted, entry-judged}
use Rattle.iss_theorems.proofs.Checkpoints.VotesAreForChains.{IsVoting}

-- a value that decodes from its encoding counts as encodable
pub read-spelled : (s : Setup) (v : Value) → IsReadValue s v → (scheme_of s).spells v ≡ true
read-spelled s v h =
    let flat = append-nil (spell_value s.version v) in
    ap (λ (r : Parsed Value). is_good r) (ap (λ (t : List ℕ). parse_value s.version t) (sym flat) ∙ h [])

nil-read : (s : Setup) → IsReadValue s Value_nil
nil-read s = read-again (spell_value s.version) (parse_value s.version) (value_grammar s.version) (0 ∷ []) [] Value_nil ((value_related s.version Value_nil (0 ∷ [])).1 refl)

-- the same chains, without regard to encodings
abbrev pub loose : Scheme → Scheme
loose S = record S { spells = λ v. true }

loose-chain : (S : Scheme) (log : List Value) → chain (loose S) log ≡ chain S log
loose-chain S [] = refl
loose-chain S (v ∷ older) = ap (λ (t : List ℕ). digest (S.link t (digest (S.spelled v)))) (loose-chain S older)

pub loose-strings : (S : Scheme) (log : List Value) → chain_strings (loose S) log ≡ chain_strings S log
loose-strings S [] = refl
loose-strings S (v ∷ older) = ap₂ (λ (t : List ℕ) (xs : List (List ℕ)). S.spelled v ∷ S.link t (digest (S.spelled v)) ∷ xs) (loose-chain S older) (loose-strings S older)

pub loosen : {Msg : Type 0} (s : Setup) (R : Rules) (M : Module Msg) (w : Cluster Msg) (S : Scheme) → Good s R M w S → Good s R M w (loose S)
loosen s R M w S g = record {
  reached = g.reached;
  inv = g.inv;
  unborn = g.unborn;
  judged = g.judged;
  sent = g.sent;
  signed = g.signed;
  strings = g.strings;
  adopted = g.adopted;
  voted = λ x e d q h ok is. let v = g.voted x e d q h ok is in record {
    log = v.log;
    whole = v.whole;
    is = v.is;
    chained = v.chained ∙ sym (loose-chain S v.log);
    number = v.number;
    hashed = λ y i. v.hashed y (subst (λ (ys : List (List ℕ)). In y ys) (loose-strings S v.log) i);
    spelled = λ y i. refl;
  };
  hashed = λ i ok x h. g.hashed i ok x (subst (λ (ys : List (List ℕ)). In x ys) (loose-strings S _) h);
  spelled = λ i ok v h. refl;
  root = g.root;
}

-- the values of pieces have encodings
abbrev pub AreReadPieces : Setup → List Piece → Type 0
AreReadPieces s ps = (p : Piece) → In p ps → (v : Value) → In v p.values → IsReadValue s v

pub adopted-read : (s : Setup) (ps : List Piece) → AreReadPieces s ps → (e k : ℕ) (v : Value) → adopted_at ps e k ≡ Some v → IsReadValue s v
adopted-read s [] are e k v h = absurd (none-some v h)
adopted-read s (p ∷ ps) are e k v h = elim (first-cases (adopted_at ps e k) (cond (eqb p.epoch e) (nth p.values k) None) v h) [
  | inl a ↦ adopted-read s ps (λ q i. are q (inr i)) e k v a
  | inr a ↦ go (eqb p.epoch e) a.1
]
  where
    go : (b : Bool) → cond b (nth p.values k) None ≡ Some v → IsReadValue s v
    go true q = are p (inl refl) v (nth-in p.values k v q)
    go false q = absurd (none-some v q)

module _ {Msg : Type 0} (s : Setup) (S : Scheme) (R : Rules) (M : Module Msg) (safe : IsSafe M) (sound : IsSoundRules s M R) (voting : IsVoting s R)
    (w : Cluster Msg) (sep : Separate (Among w.strings)) (g : Good s R M w S) where
  -- what a correct node accepted has an encoding
  accepted-read : (j e l : ℕ) → is_correct s j ≡ true → (x : Slot × Batch) → In x (accepts ((w.pasts j).evidence e l)) → IsReadValue s (Value_batch x.1)
  accepted-read j e l ok x i = elim (leb_tells e (w.pasts j).epoch) [
    | inl t ↦
        let bf : List Value = before R M j (w.pasts j) e in
        let r = entry-judged R bf e l (accepts ((w.pasts j).evidence e l)) (g.judged j e l ok t.1) x i in
        let a = accepted R bf e l (marks r.1) x.1 r.3 in
        let few = a.few in
        let low = sound.batch in
        batch-read s.version x.1 (omega (arith, few, low)) (λ q m. voting.spelled q (a.signed q m))
    | inr t ↦ absurd (subst (λ (xs : List _). In x (accepts xs)) (g.unborn j e l ok t.1) i)
  ]

  -- so has what one delivered
  backed-read : (older : List Value) (v : Value) → Backed s R M w.pasts older v → IsReadValue s v
  backed-read older Value_nil b = nil-read s
  backed-read older (Value_batch x) b =
      let slot : Slot = record { 0 = length older } in
      let ok = right s S R M safe sound w sep g older b.node b.correct in
      let is = in-world s S R M safe sound w sep g older b.node b.correct (length older) (Value_batch x) b.is in
      let r = (placed s S R M safe sound w sep g older (Value_batch x) b).shared b.node b.node slot slot x x ok ok is is in
      let there : is_correct s r.node ≡ true = subst (λ (t : Setup). is_correct t r.node ≡ true) (sound.setup (before_at R older) (epoch_at R older) (leader_at R older)) r.correct in
      accepted-read r.node (epoch_at R older) (leader_at R older) there (slot, x)
      (subst (λ (xs : List _). In {A = Slot × Batch} (slot, x) (accepts xs)) (world-at s w (epoch_at R older) (leader_at R older) r.node there) r.first)

  -- and every value of a node's log, if adopted values have
  pub log-read : (i : ℕ) → is_correct s i ≡ true → (d : Past Msg) → Later R (w.pasts i) d → ((e l : ℕ) → d.evidence e l ≡ (w.pasts i).evidence e l) →
      AreReadPieces s d.adopted → (xs : List Value) → IsLog R M i d xs → (v : Value) → In v xs → IsReadValue s v
  log-read i ok d later same are [] h v m = absurd m
  log-read i ok d later same are (u ∷ older) h v (inr m) = log-read i ok d later same are older h.0 v m
  log-read i ok d later same are (u ∷ older) h v (inl q) = subst (λ (z : Value). IsReadValue s z) (sym q)
      (elim (first-cases (delivered M (params_at R older) i (d.evidence (epoch_at R older) (leader_at R older)) (length older))
      (adopted_at d.adopted (epoch_at R older) (length older - length (before_at R older))) u h.1) [
        | inl a ↦
            let a2 : delivered M (params_at R older) i ((w.pasts i).evidence (epoch_at R older) (leader_at R older)) (length older) ≡ Some u =
            rw (same (epoch_at R older) (leader_at R older)) at a in
            let b : epoch_at R older ≤ (w.pasts i).epoch = begun s S R M safe sound w sep g i ok older u a2 in
            backed-read older u (record {
              node = i;
              correct = ok;
              begun = b;
              start = before-is s S R M safe sound w sep g i ok d later older h.0 (epoch_at R older) b (epoch-low R older);
              is = a2;
            })
        | inr a ↦ adopted-read s d.adopted are (epoch_at R older) (length older - length (before_at R older)) u a.1
      ])
