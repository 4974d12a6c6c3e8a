-- Two pasts that agree from their epoch on, and in their logs, go on alike.
use Rattle.std.proofs.Common.{◌≡◌, inl, inr, ℕ, suc, zero, ◌+◌, ◌-◌, ◌*◌, ◌≤◌, true, cond, eqb, ◌&&◌, List, [], ◌∷◌, length, Option, Some, None, refl, sym, ap, ap₂, ◌∙◌, subst, arith, le_trans, mul-le-mul_right, nat_le}
use Rattle.std.proofs.lemmas.Bool.Decides.{leb_tells}
use Rattle.iss_base.specs.Lists.{Extends, first_of, nth}
use Rattle.iss_base.proofs.Lists.{extends-cons, extends-length, extends-refl, set_at2-other}
use Rattle.iss_request.specs.declared.requests.Value.{Value}
use Rattle.iss_request.specs.declared.ids.Slot.{Slot}
use Rattle.iss_request.specs.declared.requests.Batch.{Batch}
use Rattle.iss_sb.specs.declared.effects.Input.{Input}
use Rattle.iss_sb.specs.declared.effects.Params.{Params}
use Rattle.iss_sb.specs.Evidence.{Item, Made, Module, accepts, and_then, delivered}
use Rattle.iss_rules.specs.Past.{Past, Piece, adopted_at, adopts, advanced, asked_in, before, before_at, before_own, cell, cut_at, ended_log, epoch_at, grow, grown, is_complete, leader_at, leads_in, log_of, made_in, params_at, params_of, start_of, taken_in, takes}
use Rattle.iss_rules.specs.Rules.{Rules}
use Rattle.iss_rules.specs.Verdicts.{verdict, verdict_in}
use Rattle.iss_rules.proofs.Ending.{HasSlots, advanced-later, reached-advanced}
use Rattle.iss_rules.proofs.Epochs.{epoch-high, epoch-mono, start-extends, start-mono}
use Rattle.iss_rules.proofs.Logs.{IsLog, Later, Settled, log-chain, log-kept, log-later, takes-later}
use Rattle.iss_rules.proofs.Longest.{Bounded, grow-resume}
use Rattle.iss_rules.proofs.Pieces.{adopted-far, adopts-later, adopts-settled}

pub ap₃ : {A B C D : Type 0} (f : A → B → C → D) {a b : A} {x y : B} {u v : C} → a ≡ b → x ≡ y → u ≡ v → f a x u ≡ f b y v
ap₃ f {a} {b} {x} {y} {u} {v} p q r = ap₂ (λ i j. f i j u) p q ∙ ap (λ k. f b y k) r

abbrev item_on : {Msg : Type 0} → Made Msg → Input Msg → ℕ → List (Item Msg) → List (Item Msg)
item_on m z n xs = record { input = z; leaf = n; made = m } ∷ xs

module _ (R : Rules) {Msg : Type 0} (M : Module Msg) (me : ℕ) where
  -- where cells agree beyond a log, it grows alike
  grow-same : (c d : Past Msg) (low : List Value) → ((xs : List Value) → Extends low xs → cell R M me c xs ≡ cell R M me d xs) → (n : ℕ) (xs : List Value) →
      Extends low xs → grow R M me c n xs ≡ grow R M me d n xs
  grow-same c d low same zero xs x = refl
  grow-same c d low same (suc n) xs x =
      go (λ v. grow-same c d low same n (v ∷ xs) (extends-cons low xs v x)) (cell R M me c xs)
      ∙ ap (λ (o : Option Value). grown o xs (grow R M me d n)) (same xs x)
    where
      go : ((v : Value) → grow R M me c n (v ∷ xs) ≡ grow R M me d n (v ∷ xs)) → (o : Option Value) →
          grown o xs (grow R M me c n) ≡ grown o xs (grow R M me d n)
      go ih None = refl
      go ih (Some v) = ih v

  grow-length : (c : Past Msg) (n : ℕ) (xs : List Value) → length (grow R M me c n xs) ≤ length xs + n
  grow-length c zero xs = omega arith
  grow-length c (suc n) xs = go (λ v. grow-length c n (v ∷ xs)) (cell R M me c xs)
    where
      go : ((v : Value) → length (grow R M me c n (v ∷ xs)) ≤ suc (length xs) + n) → (o : Option Value) →
          length (grown o xs (grow R M me c n)) ≤ length xs + suc n
      go ih None = omega arith
      go ih (Some v) = let h = ih v in omega (arith, h)

  grow-few : (c : Past Msg) (n : ℕ) → length (grow R M me c n []) ≤ n
  grow-few c n = let h = grow-length c n [] in omega (arith, h)

  grow-alike : (c d : Past Msg) (low : List Value) → IsLog R M me c low → IsLog R M me d low →
      ((xs : List Value) → Extends low xs → cell R M me c xs ≡ cell R M me d xs) → (n : ℕ) → length low ≤ n → grow R M me c n [] ≡ grow R M me d n []
  grow-alike c d low hc hd same n le =
      let m : ℕ = n - length low in
      let q : length low + m ≡ n = omega (arith, le) in
      ap (λ (k : ℕ). grow R M me c k []) (sym q)
      ∙ (grow-resume R M me c low hc m
      ∙ (grow-same c d low same m low (extends-refl low)
      ∙ (sym (grow-resume R M me d low hd m)
      ∙ ap (λ (k : ℕ). grow R M me d k []) q)))

  -- what was adopted is of earlier epochs, nothing was taken in later ones, and the log holds all before the own
  pub record Placed (c : Past Msg) : Type 0 where
    pub bounded : Bounded c
    pub reached : start_of R (log_of R M me c) c.epoch ≤ length (log_of R M me c)

  pub record Alike (c d : Past Msg) : Type 0 where
    pub placed : Placed c
    pub other : Placed d
    pub epoch : c.epoch ≡ d.epoch
    pub log : log_of R M me c ≡ log_of R M me d
    pub taken : (k l : ℕ) → c.epoch ≤ k → c.evidence k l ≡ d.evidence k l

  pub settled-of : (c : Past Msg) → Placed c → Settled R c
  settled-of c h = record { all = h.bounded.adopted }

  adopted-none : (c : Past Msg) → Placed c → (k i : ℕ) → c.epoch ≤ k → adopted_at c.adopted k i ≡ None
  adopted-none c h k i le = go (adopted_at c.adopted k i) refl
    where
      go : (o : Option Value) → adopted_at c.adopted k i ≡ o → o ≡ None
      go None q = refl
      go (Some v) q = let lt = h.bounded.adopted k i v q in absurd (omega (arith, lt, le))

  module _ (c d : Past Msg) (a : Alike c d) where
    pub before-alike : before_own R M me c ≡ before_own R M me d
    before-alike = ap₂ (λ (log : List Value) (e : ℕ). cut_at R log e) a.log a.epoch

    pub leads-alike : (l : ℕ) → leads_in R M me c l ≡ leads_in R M me d l
    leads-alike l = ap₂ (λ (b : List Value) (e : ℕ). R.leads b e l) before-alike a.epoch

    pub params-alike : (l : ℕ) → params_of R M me c l ≡ params_of R M me d l
    params-alike l = ap₂ (λ (b : List Value) (e : ℕ). R.params b e l) before-alike a.epoch

    pub taken-alike : (l : ℕ) → taken_in c l ≡ taken_in d l
    taken-alike l = a.taken c.epoch l (omega arith) ∙ ap (λ (e : ℕ). d.evidence e l) a.epoch

    pub complete-alike : is_complete R M me c ≡ is_complete R M me d
    complete-alike = ap₂ (λ (log : List Value) (e : ℕ). nat_le (start_of R log (suc e)) (length log)) a.log a.epoch

    pub ended-alike : ended_log R M me c ≡ ended_log R M me d
    ended-alike = ap₂ (λ (log : List Value) (e : ℕ). cut_at R log (suc e)) a.log a.epoch

    module _ (l : ℕ) (i j : Input Msg) (same : i ≡ j) where
      pub asked-alike : asked_in R M me c l i ≡ asked_in R M me d l j
      asked-alike = ap₃ (λ (p : Params) (xs : List (Item Msg)) (z : Input Msg). M.asks p me xs z) (params-alike l) (taken-alike l) same

      pub verdict-alike : verdict_in R M me c l i ≡ verdict_in R M me d l j
      verdict-alike =
          ap₂ (λ (b : List Value) (e : ℕ). verdict R b e l (accepts (taken_in c l)) (asked_in R M me c l i)) before-alike a.epoch
          ∙ ap₂ (λ (xs : List (Item Msg)) (o : Option (Slot × Batch)). verdict R (before_own R M me d) d.epoch l (accepts xs) o) (taken-alike l) asked-alike

      module _ (leaf next : ℕ) (leaves : leaf ≡ next) where
        pub made-alike : made_in R M me c l i leaf ≡ made_in R M me d l j next
        made-alike =
            ap₃ (λ (p : Params) (xs : List (Item Msg)) (z : Input Msg). M.makes p me xs z leaf) (params-alike l) (taken-alike l) same
            ∙ ap (λ (n : ℕ). made_in R M me d l j n) leaves

        item-alike : and_then M (params_of R M me c l) me (taken_in c l) i leaf ≡ and_then M (params_of R M me d l) me (taken_in d l) j next
        item-alike =
            ap₃ (λ (m : Made Msg) (z : Input Msg) (n : ℕ). item_on m z n (taken_in c l)) made-alike same leaves
            ∙ ap (λ (xs : List (Item Msg)). item_on (made_in R M me d l j next) j next xs) (taken-alike l)

        pub evidence-alike : (k x : ℕ) → c.epoch ≤ k → (takes R M me c l i leaf).evidence k x ≡ (takes R M me d l j next).evidence k x
        evidence-alike k x le =
            ap₃ (λ (e : ℕ) (xs ys : List (Item Msg)). cond (eqb k e && eqb x l) xs ys) a.epoch item-alike (a.taken k x le)

  module _ (slots : HasSlots R) where
    epoch-far : (c : Past Msg) → Placed c → (xs : List Value) → Extends (log_of R M me c) xs → c.epoch ≤ epoch_at R xs
    epoch-far c h xs x =
        let log = log_of R M me c in
        le_trans
        (elim (leb_tells c.epoch (epoch_at R log)) [
          | inl t ↦ t.1
          | inr t ↦ absurd (omega (arith, h.reached, start-mono R log (suc (epoch_at R log)) c.epoch t.1, epoch-high R slots.some log))
        ])
        (epoch-mono R slots.some log xs x)

    -- pasts that come after alike ones, and agree from there on in what they took and adopted
    later-alike : (c d v w : Past Msg) → Alike c d → Later R c v → Later R d w → v.epoch ≡ w.epoch →
        ((k l : ℕ) → c.epoch ≤ k → v.evidence k l ≡ w.evidence k l) → ((k i : ℕ) → c.epoch ≤ k → adopted_at v.adopted k i ≡ adopted_at w.adopted k i) →
        log_of R M me v ≡ log_of R M me w
    later-alike c d v w a hv hw epochs taken adopted =
        let low = log_of R M me c in
        let at_v : IsLog R M me v low = log-kept R M me c v hv low (log-chain R M me c) in
        let there : IsLog R M me d low = subst (λ (xs : List Value). IsLog R M me d xs) (sym a.log) (log-chain R M me d) in
        let at_w : IsLog R M me w low = log-kept R M me d w hw low there in
        let few : length low ≤ suc c.epoch * R.most = grow-few c (suc c.epoch * R.most) in
        let later : suc c.epoch ≤ suc v.epoch = let le = hv.epoch in omega (arith, le) in
        grow-alike v w low at_v at_w
        (λ xs x.
        let far = epoch-far c a.placed xs x in
        ap₂ (λ (o : Option Value) (u : Option Value). first_of o u)
        (ap (λ (ys : List (Item Msg)). delivered M (params_at R xs) me ys (length xs)) (taken (epoch_at R xs) (leader_at R xs) far))
        (adopted (epoch_at R xs) (length xs - length (before_at R xs)) far))
        (suc v.epoch * R.most) (le_trans few (mul-le-mul_right R.most later))
        ∙ ap (λ (e : ℕ). grow R M me w (suc e * R.most) []) epochs

    -- an input is taken
    pub takes-placed : (c : Past Msg) → Placed c → (l : ℕ) (i : Input Msg) (leaf : ℕ) → Placed (takes R M me c l i leaf)
    takes-placed c h l i leaf =
        let v = takes R M me c l i leaf in
        let grown : Extends (log_of R M me c) (log_of R M me v) = log-later R M me c v (takes-later R M me c l i leaf (settled-of c h)) in
        let same = start-extends R (log_of R M me c) (log_of R M me v) c.epoch grown h.reached in
        record {
          bounded = record {
            evidence = λ e k lt. set_at2-other c.evidence c.epoch l _ e k (inl (λ q. absurd (omega (arith, lt, q)))) ∙ h.bounded.evidence e k lt;
            adopted = h.bounded.adopted;
          };
          reached = let long = extends-length (log_of R M me c) (log_of R M me v) grown in omega (arith, same, long, h.reached);
        }

    pub takes-alike : (c d : Past Msg) → Alike c d → (l : ℕ) (i j : Input Msg) → i ≡ j → (leaf next : ℕ) → leaf ≡ next →
        Alike (takes R M me c l i leaf) (takes R M me d l j next)
    takes-alike c d a l i j same leaf next leaves =
        let v = takes R M me c l i leaf in
        let w = takes R M me d l j next in
        record {
          placed = takes-placed c a.placed l i leaf;
          other = takes-placed d a.other l j next;
          epoch = a.epoch;
          log = later-alike c d v w a (takes-later R M me c l i leaf (settled-of c a.placed)) (takes-later R M me d l j next (settled-of d a.other)) a.epoch
              (evidence-alike c d a l i j same leaf next leaves)
              (λ k x le. adopted-none c a.placed k x le ∙ sym (adopted-none d a.other k x (omega (arith, le, a.epoch))));
          taken = evidence-alike c d a l i j same leaf next leaves;
        }

    -- the epoch ends
    advanced-placed : (c : Past Msg) → Placed c → is_complete R M me c ≡ true → Placed (advanced c)
    advanced-placed c h done = record {
      bounded = record {
        evidence = λ e l lt. h.bounded.evidence e l (omega (arith, lt));
        adopted = λ e k v q. let lt = h.bounded.adopted e k v q in omega (arith, lt);
      };
      reached = reached-advanced R slots M me c h.bounded done;
    }

    pub advanced-alike : (c d : Past Msg) → Alike c d → is_complete R M me c ≡ true → Alike (advanced c) (advanced d)
    advanced-alike c d a done = record {
      placed = advanced-placed c a.placed done;
      other = advanced-placed d a.other (sym (complete-alike c d a) ∙ done);
      epoch = ap (λ (e : ℕ). suc e) a.epoch;
      log = later-alike c d (advanced c) (advanced d) a (advanced-later R c (settled-of c a.placed)) (advanced-later R d (settled-of d a.other))
          (ap (λ (e : ℕ). suc e) a.epoch) a.taken
          (λ k x le. adopted-none c a.placed k x le ∙ sym (adopted-none d a.other k x (omega (arith, le, a.epoch))));
      taken = λ k l le. a.taken k l (omega (arith, le));
    }

    -- an epoch is adopted
    adopts-placed : (c : Past Msg) → Placed c → (p : Piece) → p.epoch ≡ c.epoch → length p.values ≡ R.slots (before R M me c p.epoch) p.epoch →
        Placed (adopts c p)
    adopts-placed c h p at whole = record {
      bounded = record {
        evidence = λ e l lt. h.bounded.evidence e l (omega (arith, lt));
        adopted = (adopts-settled R c p at (settled-of c h)).all;
      };
      reached = adopted-far R slots M me c (settled-of c h) h.reached p at whole;
    }

    pub adopts-alike : (c d : Past Msg) → Alike c d → (values : List Value) → length values ≡ R.slots (before_own R M me c) c.epoch →
        Alike (adopts c (record { epoch = c.epoch; values = values })) (adopts d (record { epoch = d.epoch; values = values }))
    adopts-alike c d a values whole =
        let p : Piece = record { epoch = c.epoch; values = values } in
        let q : Piece = record { epoch = d.epoch; values = values } in
        let there : length values ≡ R.slots (before_own R M me d) d.epoch =
        whole ∙ ap₂ (λ (b : List Value) (e : ℕ). R.slots b e) (before-alike c d a) a.epoch in
        record {
          placed = adopts-placed c a.placed p refl whole;
          other = adopts-placed d a.other q refl there;
          epoch = ap (λ (e : ℕ). suc e) a.epoch;
          log = later-alike c d (adopts c p) (adopts d q) a (adopts-later R c p (settled-of c a.placed)) (adopts-later R d q (settled-of d a.other))
              (ap (λ (e : ℕ). suc e) a.epoch) a.taken
              (λ k x le. ap₂ (λ (o : Option Value) (e : ℕ). first_of o (cond (eqb e k) (nth values x) None))
              (adopted-none c a.placed k x le ∙ sym (adopted-none d a.other k x (omega (arith, le, a.epoch)))) a.epoch);
          taken = λ k l le. a.taken k l (omega (arith, le));
        }
