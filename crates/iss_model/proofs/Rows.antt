-- A step is a sequence of small moves: inputs that are taken, and ends of epochs. What each of them keeps holds of the
-- outcome.
use Rattle.std.proofs.Common.{◌≡◌, inl, inr, ℕ, suc, Bool, true, false, cond, eqb, List, [], ◌∷◌, ◌++◌, Option, Some, None, refl, sym, ap, ◌∙◌, subst, append_assoc}
use Rattle.std.proofs.lemmas.List.{append-nil}
use Rattle.iss_base.specs.Lists.{In, first_of}
use Rattle.iss_base.proofs.Lists.{in_left, in_right, is-eq}
use Rattle.iss_sb.specs.declared.effects.Claim.{Claim}
use Rattle.iss_sb.specs.declared.effects.Input.{Input}
use Rattle.iss_sb.specs.declared.effects.Input.TheVariants.{Receive}
use Rattle.iss_sb.specs.declared.effects.To.{To}
use Rattle.iss_sb.specs.Evidence.{Module}
use Rattle.iss_rules.specs.Parcels.{Formats}
use Rattle.iss_rules.specs.Verdicts.{verdict_in}
use Rattle.iss_rules.specs.Votes.{all_verify}
use Rattle.iss_model.specs.Node.{Core, Dropped, Early, Stepped, Taken, Turn, try_step, ended, ends, has_leaves, step_unjudged, then_turn, unchanged, advance_epochs, takes_each, takes_early, or_unchanged, claims_in, claims_of_input}
use Rattle.iss_rules.specs.Past.{is_complete, leads_in, params_of}
use Rattle.iss_rules.specs.Rules.{Rules}
use Rattle.iss_model.proofs.Steps.{IsInput, input-taken}

turn-same : {Msg : Type 0} (c : Core Msg) (k l : Option (Core Msg)) (a b : List (To × List ℕ)) (d e x y : List Claim) (f g : List (List ℕ)) →
    k ≡ l → a ≡ b → d ≡ e → x ≡ y → f ≡ g →
    ◌≡◌ {A = Turn Msg} (record { core = c; entered = k; sends = a; own = d; early = x; strings = f })
    (record { core = c; entered = l; sends = b; own = e; early = y; strings = g })
turn-same c k l a b d e x y f g h p q o r =
    ap (λ (z : Option (Core _)). record { core = c; entered = z; sends = a; own = d; early = x; strings = f }) h
    ∙ (ap (λ (z : List (To × List ℕ)). record { core = c; entered = l; sends = z; own = d; early = x; strings = f }) p
    ∙ (ap (λ (z : List Claim). record { core = c; entered = l; sends = b; own = z; early = x; strings = f }) q
    ∙ (ap (λ (z : List Claim). record { core = c; entered = l; sends = b; own = e; early = z; strings = f }) o
    ∙ ap (λ (z : List (List ℕ)). record { core = c; entered = l; sends = b; own = e; early = y; strings = z }) r)))

pub first-assoc : {A : Type 0} (a b c : Option A) → first_of (first_of a b) c ≡ first_of a (first_of b c)
first-assoc None b c = refl
first-assoc (Some x) b c = refl

-- a sequence may be cut anywhere
pub onward-rests : {Msg : Type 0} (t : Turn Msg) → then_turn t unchanged ≡ t
onward-rests t =
    turn-same t.core t.entered t.entered (t.sends ++ []) t.sends (t.own ++ []) t.own (t.early ++ []) t.early (t.strings ++ []) t.strings
    refl (append-nil t.sends) (append-nil t.own) (append-nil t.early) (append-nil t.strings)

pub onward-onward : {Msg : Type 0} (t : Turn Msg) (f g : Core Msg → Turn Msg) → then_turn t (λ c. then_turn (f c) g) ≡ then_turn (then_turn t f) g
onward-onward t f g =
    let u = f t.core in
    let v = g u.core in
    turn-same v.core (first_of (first_of v.entered u.entered) t.entered) (first_of v.entered (first_of u.entered t.entered))
    (t.sends ++ (u.sends ++ v.sends)) ((t.sends ++ u.sends) ++ v.sends) (t.own ++ (u.own ++ v.own)) ((t.own ++ u.own) ++ v.own)
    (t.early ++ (u.early ++ v.early)) ((t.early ++ u.early) ++ v.early) (t.strings ++ (u.strings ++ v.strings)) ((t.strings ++ u.strings) ++ v.strings)
    (first-assoc v.entered u.entered t.entered)
    (sym (append_assoc t.sends u.sends v.sends)) (sym (append_assoc t.own u.own v.own))
    (sym (append_assoc t.early u.early v.early)) (sym (append_assoc t.strings u.strings v.strings))

module _ {Msg : Type 0} (F : Formats Msg) (R : Rules) (M : Module Msg) (me : ℕ) where
  -- an input that the core takes in the instance of l
  pub record IsFit (c : Core Msg) (l : ℕ) (input : Input Msg) : Type 0 where
    pub leads : leads_in R M me c.past l ≡ true
    pub claims : all_verify R (claims_of_input M (params_of R M me c.past l) input) ≡ true
    pub leaves : has_leaves M (params_of R M me c.past l) c.leaf ≡ true
    pub judged : verdict_in R M me c.past l input ≡ None

  -- a step continues with an input, or with the end of its epoch
  abbrev pub then_takes : Turn Msg → ℕ → Input Msg → Turn Msg
  then_takes t l input = then_turn t (λ c. step_unjudged F R M me c l input)

  abbrev pub then_ends : Turn Msg → Turn Msg
  then_ends t = then_turn t (λ c. ends F R M me c)

  -- an early message, as it is taken
  abbrev pub early_input : Early Msg → Input Msg
  early_input x = Receive (record { 0 = x.from }) x.msg

  -- or claims were read in it
  abbrev pub then_reads : Turn Msg → List Claim → Turn Msg
  then_reads t claims = record t { early = claims }

  -- what is read of an early message
  abbrev pub claims_early : Core Msg → Early Msg → List Claim
  claims_early c x = claims_in R M me c.past x.from x.leader x.msg

  -- An early message that was tried may be received, and the step read all of its claims.
  module _ (P : Turn Msg → Type 0) (Comes : Turn Msg → ℕ → Input Msg → Type 0)
      (takes : (t : Turn Msg) (l : ℕ) (input : Input Msg) → P t → IsFit t.core l input → Comes t l input → P (then_takes t l input))
      (over : (t : Turn Msg) → P t → is_complete R M me t.core.past ≡ true → P (then_ends t))
      (reads : (t : Turn Msg) (claims : List Claim) → P t → P (then_reads t claims)) where
    input-holds : (t : Turn Msg) (l : ℕ) (input : Input Msg) (v : Turn Msg) → P t → Comes t l input → IsInput F R M me t.core l input v → P (then_turn t (λ c. v))
    input-holds t l input v h come i =
        let fit : IsFit t.core l input = record { leads = i.leads; claims = i.claims; leaves = i.leaves; judged = i.judged } in
        subst (λ (z : Turn Msg). P (then_turn t (λ c. z))) (sym i.is) (takes t l input h fit come)

    tried-holds : (t : Turn Msg) (l : ℕ) (input : Input Msg) → P t → Comes t l input → (o : Stepped Msg) → try_step F R M me t.core l input ≡ o →
        P (then_turn t (λ c. or_unchanged c o))
    tried-holds t l input h come (Dropped why) q = subst P (sym (onward-rests t)) h
    tried-holds t l input h come (Taken v) q = input-holds t l input v h come (input-taken F R M me t.core l input v q)

    ended-holds : (t u : Turn Msg) → P (then_turn t (λ c. u)) → P (then_turn t (λ c. ended F R M me u))
    ended-holds t u h = go (is_complete R M me u.core.past) refl
      where
        go : (b : Bool) → is_complete R M me u.core.past ≡ b → P (then_turn t (λ c. cond b (then_turn u (λ d. ends F R M me d)) u))
        go true q = subst P (sym (onward-onward t (λ c. u) (λ d. ends F R M me d))) (over (then_turn t (λ c. u)) h q)
        go false q = h

    pub early-holds : (t : Turn Msg) (x : Early Msg) → P t → Comes t x.leader (early_input x) → P (then_turn t (λ c. takes_early F R M me c x))
    early-holds t x h come =
        let o = try_step F R M me t.core x.leader (early_input x) in
        let u : Turn Msg = ended F R M me (or_unchanged t.core o) in
        let done : P (then_turn t (λ c. u)) = ended-holds t (or_unchanged t.core o) (tried-holds t x.leader (early_input x) h come o refl) in
        reads (then_turn t (λ c. u)) (t.early ++ claims_early t.core x) done

    -- the early messages, while their epoch lasts
    pub each-holds : (e : ℕ) (xs : List (Early Msg)) (t : Turn Msg) → P t →
        ((u : Turn Msg) (x : Early Msg) → In x xs → P u → u.core.past.epoch ≡ e →
        ((y : Claim) → In y (claims_early u.core x) → In y (takes_each F R M me e xs t.core).early) → Comes u x.leader (early_input x)) →
        P (then_turn t (takes_each F R M me e xs))
    each-holds e [] t h come = subst P (sym (onward-rests t)) h
    each-holds e (x ∷ xs) t h come = go (eqb t.core.past.epoch e) refl (λ u. each-holds e xs u) come
      where
        row : Bool → Core Msg → Turn Msg
        row b c = cond b (then_turn (takes_early F R M me c x) (takes_each F R M me e xs)) (unchanged c)

        go : (b : Bool) → eqb t.core.past.epoch e ≡ b →
            ((u : Turn Msg) → P u → ((v : Turn Msg) (y : Early Msg) → In y xs → P v → v.core.past.epoch ≡ e →
            ((z : Claim) → In z (claims_early v.core y) → In z (takes_each F R M me e xs u.core).early) → Comes v y.leader (early_input y)) →
            P (then_turn u (takes_each F R M me e xs))) →
            ((u : Turn Msg) (y : Early Msg) → In y (x ∷ xs) → P u → u.core.past.epoch ≡ e →
            ((z : Claim) → In z (claims_early u.core y) → In z (row b t.core).early) → Comes u y.leader (early_input y)) →
            P (then_turn t (row b))
        go true q ih come =
            let first : Turn Msg = takes_early F R M me t.core x in
            let later : Turn Msg = takes_each F R M me e xs first.core in
            let here : Comes t x.leader (early_input x) = come t x (inl refl) h (is-eq t.core.past.epoch e q) (λ z m. in_left z first.early later.early m) in
            let done : P (then_turn t (λ c. first)) = early-holds t x h here in
            let rest : P (then_turn (then_turn t (λ c. first)) (takes_each F R M me e xs)) =
            ih (then_turn t (λ c. first)) done (λ v y m k w r. come v y (inr m) k w (λ z i. in_right z first.early later.early (r z i))) in
            subst P (sym (onward-onward t (λ c. takes_early F R M me c x) (takes_each F R M me e xs))) rest
        go false q ih come = subst P (sym (onward-rests t)) h

    -- the end of an epoch, with all that follows
    pub settles-holds : (t : Turn Msg) → P t →
        (is_complete R M me t.core.past ≡ true → (u : Turn Msg) (x : Early Msg) → In x t.core.early → P u → u.core.past.epoch ≡ suc t.core.past.epoch →
        ((y : Claim) → In y (claims_early u.core x) → In y (advance_epochs F R M me t).early) → Comes u x.leader (early_input x)) →
        P (advance_epochs F R M me t)
    settles-holds t h come = go (is_complete R M me t.core.past) refl come
      where
        each : Core Msg → Turn Msg
        each c = takes_each F R M me (suc t.core.past.epoch) t.core.early c

        row : Bool → Turn Msg
        row b = cond b (then_turn (then_ends t) (takes_each F R M me (suc t.core.past.epoch) t.core.early)) t

        go : (b : Bool) → is_complete R M me t.core.past ≡ b →
            (b ≡ true → (u : Turn Msg) (x : Early Msg) → In x t.core.early → P u → u.core.past.epoch ≡ suc t.core.past.epoch →
            ((y : Claim) → In y (claims_early u.core x) → In y (row b).early) → Comes u x.leader (early_input x)) →
            P (row b)
        go true q come =
            each-holds (suc t.core.past.epoch) t.core.early (then_ends t) (over t h q)
            (λ u x m k w r. come refl u x m k w (λ y i. in_right y (then_ends t).early (each (then_ends t).core).early (r y i)))
        go false q come = h
