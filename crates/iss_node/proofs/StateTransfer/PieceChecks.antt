-- Taking a piece refines the model's step.
use Rattle.std.proofs.Common.{arith, ◌≡◌, ℕ, suc, ◌≤◌, Bool, true, false, ◌&&◌, cond, eqb, if◌then◌else◌, not, List, length, reverse, nat_lt, refl, sym, ap, ap₂, ◌∙◌, subst, Ok, Err}
use Rattle.std.proofs.lemmas.Bool.Decides.{nat_tests}
use Rattle.std.proofs.lemmas.List.{length-reverse, reverse-reverse}
use Rattle.iss_checkpoint.specs.Votes.{Voters, voters_of}
use Rattle.iss_keys.specs.Directories.{DirectoryView}
use Rattle.iss_log.specs.Chains.{IsChainOf, chain_of, end_of, strings_from}
use Rattle.iss_log.specs.declared.chains.End.{End}
use Rattle.iss_rules.proofs.Checked.{cert-same, end-same}
use Rattle.iss_rules.specs.Concrete.{keys_of, rules_of}
use Rattle.iss_rules.specs.Formats.{formats_of}
use Rattle.iss_rules.specs.Parcels.{Formats}
use Rattle.iss_rules.specs.Votes.{is_true_cert}
use Rattle.iss_model.specs.Node.{Core, Dropped, Stepped, Taken, Turn, adopts_piece, has_shape, leads_to, takes_each, takes_piece, then_turn}
use Rattle.iss_rules.specs.Past.{before_own, log_of, start_of}
use Rattle.iss_rules.specs.Rules.{Rules}
use Rattle.iss_rules.specs.declared.events.Why.{Why}
use Rattle.iss_rules.specs.declared.events.Why.TheVariants.{BadClaim, NotNeeded, OtherEpoch, WrongChain as Why_wrong_chain}
use Rattle.iss_node.proofs.Log.LogIsDelivered.{start-is}
use Rattle.iss_node.specs.Internal.Shape.{IsNodeState}
use Rattle.iss_node.specs.State.{StateRefinesCore, StateView}
use Rattle.iss_node.specs.Steps.{IsHeldStep}
use Rattle.iss_node.specs.Internal.Transfers.{IsAdoptedBy}
use Rattle.iss_node.specs.declared.answers.Outcome.{Outcome}
use Rattle.iss_request.specs.declared.requests.Value.{Value}
use Rattle.iss_sb.specs.Evidence.{Item, Module}
use Rattle.iss_sb.specs.declared.effects.Params.{Params}
use Rattle.iss_transfer.specs.Adoption.{adopted_log, adoption, log_before, said_in, same_end}
use Rattle.iss_transfer.specs.declared.adopting.Adoption.{Adoption}
use Rattle.iss_transfer.specs.declared.adopting.Adoption.TheVariants.{Adopt, BadCert, WrongChain, WrongEpoch}
use Rattle.iss_transfer.specs.declared.pieces.Piece.{Piece}
use Rattle.iss_segment.proofs.MarksLemmas.{not-large}

-- The results of three checks, and the step that they imply.
abbrev found_by : Bool → Bool → Bool → End → End → List (List ℕ) → Adoption
found_by shape cert chain ours theirs hashed =
    if not shape then WrongEpoch else if not cert then BadCert else if not chain then WrongChain ours theirs else Adopt hashed

abbrev pub step_by : {Msg : Type 0} → Stepped Msg → Adoption → Stepped Msg
step_by t (Adopt hashed) = t
step_by t WrongEpoch = Dropped OtherEpoch
step_by t BadCert = Dropped BadClaim
step_by t (WrongChain ours theirs) = Dropped Why_wrong_chain

tests-meet : {Msg : Type 0} (late far same shape cert chain : Bool) (t : Stepped Msg) (ours theirs : End) (hashed : List (List ℕ)) → late ≡ false → far ≡ not same →
    cond late (Dropped NotNeeded) (cond far (Dropped OtherEpoch) (cond (not shape) (Dropped OtherEpoch) (cond (not cert) (Dropped BadClaim) (cond (not chain) (Dropped Why_wrong_chain) t)))) ≡
    step_by t (found_by (same && shape) cert chain ours theirs hashed)
tests-meet {Msg} late far same shape cert chain t ours theirs hashed h k = rw (h, k) (go same shape cert chain)
  where
    go : (same shape cert chain : Bool) →
        cond (not same) (Dropped OtherEpoch) (cond (not shape) (Dropped OtherEpoch) (cond (not cert) (Dropped BadClaim) (cond (not chain) (Dropped Why_wrong_chain) t))) ≡
        step_by t (found_by (same && shape) cert chain ours theirs hashed)
    go false shape cert chain = refl
    go true false cert chain = refl
    go true true false chain = refl
    go true true true false = refl
    go true true true true = refl

ahead-is : (a b : ℕ) → nat_lt a b ≡ false → nat_lt b a ≡ not (eqb a b)
ahead-is a b h = grind (arith, nat_tests)

module _ {M Msg : Type 0} (m : Module Msg) (refines : M → Params → ℕ → List (Item Msg) → Type 0) (v : StateView M Msg) (p : Piece) (c : Core Msg) (h : StateRefinesCore m refines v c) where
  abbrev F : Formats Msg
  F = formats_of v.setup m

  abbrev R : Rules
  R = rules_of v.setup

  abbrev log : List Value
  log = log_of R m v.me.0 c.past

  abbrev turn : Turn Msg
  turn = then_turn (adopts_piece R m v.me.0 c p) (takes_each F R m v.me.0 (suc c.past.epoch) c.early)

  module _ (shape : IsNodeState m v) (timely : v.epoch ≤ p.epoch.0) where
    entries-are : v.log.entries ≡ reverse log
    entries-are = sym (reverse-reverse v.log.entries) ∙ ap (λ (xs : List Value). reverse xs) (sym h.state.tied.log)

    -- The log has all slots before the epoch.
    far : start_of R log c.past.epoch ≤ length log
    far =
        let starts = start-is v.setup log c.past.epoch in
        let first = h.state.tied.start in
        let begun = h.state.tied.begun in
        let long = ap (λ (xs : List Value). length xs) h.state.tied.log ∙ length-reverse v.log.entries in
        omega (arith, starts, first, begun, long)

    abbrev own : Voters
    own = voters_of v.setup (keys_of v.setup)

    abbrev ours : End
    ours = end_of v.setup.version (adopted_log v.setup (reverse log) c.past.epoch p)

    abbrev hashed : List (List ℕ)
    hashed = strings_from v.setup.version (chain_of v.setup.version (log_before v.setup (reverse log) c.past.epoch)) p.values

    -- The model's step agrees with the check of iss_transfer.
    step-found : takes_piece F R m v.me.0 c p ≡ step_by (Taken turn) (adoption v.setup own (reverse log) c.past.epoch p)
    step-found =
        let e = c.past.epoch in
        let late : nat_lt p.epoch.0 e ≡ false = not-large p.epoch.0 e (subst (λ (k : ℕ). k ≤ p.epoch.0) h.state.tied.epoch timely) in
        let mine = has_shape R (before_own R m v.me.0 c.past) e p in
        let chain : same_end ours (said_in p.cert) ≡ leads_to R (before_own R m v.me.0 c.past) p = ap (λ (z : End). same_end z (said_in p.cert)) (end-same v.setup log e p far) in
        tests-meet (nat_lt p.epoch.0 e) (nat_lt e p.epoch.0) (eqb p.epoch.0 e) mine (is_true_cert R p.cert) (leads_to R (before_own R m v.me.0 c.past) p) (Taken turn) ours (said_in p.cert) hashed late
        (ahead-is p.epoch.0 e late)
        ∙ ap₂ (λ (a b : Bool). step_by (Taken turn) (found_by (eqb p.epoch.0 e && mine) a b ours (said_in p.cert) hashed)) (sym (cert-same v.setup p.cert)) (sym chain)

    found-is : (found : Adoption) → ((xs : List Value) → IsChainOf v.chains xs → found ≡ adoption v.setup (voters_of v.setup v.directory) xs v.epoch p) →
        adoption v.setup own (reverse log) c.past.epoch p ≡ found
    found-is found is = sym
        (is v.log.entries h.state.tied.chained
        ∙ ap (λ (d : DirectoryView). adoption v.setup (voters_of v.setup d) v.log.entries v.epoch p) shape.directory
        ∙ ap (λ (xs : List Value). adoption v.setup own xs v.epoch p) entries-are
        ∙ ap (λ (e : ℕ). adoption v.setup own (reverse log) e p) h.state.tied.epoch)

    step-is : (found : Adoption) → ((xs : List Value) → IsChainOf v.chains xs → found ≡ adoption v.setup (voters_of v.setup v.directory) xs v.epoch p) →
        takes_piece F R m v.me.0 c p ≡ step_by (Taken turn) found
    step-is found is = step-found ∙ ap (λ (z : Adoption). step_by (Taken turn) z) (found-is found is)

    -- A piece that is refused.
    pub piece-refused : (found : Adoption) → ((xs : List Value) → IsChainOf v.chains xs → found ≡ adoption v.setup (voters_of v.setup v.directory) xs v.epoch p) →
        (why : Why) → ((t : Stepped Msg) → step_by t found ≡ Dropped why) → IsHeldStep m refines (Unit {0}) c (takes_piece F R m v.me.0 c p) v (Err why)
    piece-refused found is why means = record { step_is = step-is found is ∙ means (Taken turn); refined = h }

    -- A piece that is adopted.
    pub piece-taken : (found : Adoption) → ((xs : List Value) → IsChainOf v.chains xs → found ≡ adoption v.setup (voters_of v.setup v.directory) xs v.epoch p) →
        (strings : List (List ℕ)) → found ≡ Adopt strings → (w : StateView M Msg) (o : Outcome) → IsAdoptedBy m refines v p strings w o →
        IsHeldStep m refines (Unit {0}) c (takes_piece F R m v.me.0 c p) w (Ok o)
    piece-taken found is strings good w o adopted = record {
      turn = turn;
      step_is = step-is found is ∙ ap (λ (z : Adoption). step_by (Taken turn) z) good;
      turned = adopted c h (sym (is v.log.entries h.state.tied.chained) ∙ good);
    }
