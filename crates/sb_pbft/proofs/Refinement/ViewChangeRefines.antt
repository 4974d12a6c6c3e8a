-- The code of a view change refines the model: ViewChange, NewView, timeout.
use Rattle.std.proofs.Common.{◌≡◌, ◌≤◌, ◌<◌, ◌+◌, ◌-◌, ◌*◌, ◌==◌, ◌&&◌, ℕ, suc, Bool, true, false, not, cond, nat_le, nat_lt, List}
use Rattle.std.proofs.Common.{[], ◌∷◌, ◌++◌, length, take, drop, get_or, Option, Some, None, is_some, inl, inr, refl, sym, ap, ◌∙◌, arith, subst}
use Rattle.std.proofs.Math.Seq.{take-length}
use Rattle.std.proofs.lemmas.Bool.{eqb-true, ltb-true}
use Rattle.iss_base.specs.Lists.{In, first_of}
use Rattle.iss_base.proofs.Lists.{and-true}
use Rattle.iss_keys.specs.KeyStates.{KeyState}
use Rattle.iss_request.specs.declared.ids.NodeId.{NodeId}
use Rattle.iss_request.specs.declared.ids.Slot.{Slot}
use Rattle.iss_sb.specs.Calls.{AllIn, IsNothing}
use Rattle.iss_sb.specs.declared.effects.Effects.{Effects}
use Rattle.iss_sb.specs.declared.effects.Input.TheVariants.{Receive, Timeout}
use Rattle.iss_sb.specs.declared.effects.Params.{Params}
use Rattle.iss_sb.specs.declared.effects.To.{To}
use Rattle.pbft_wire.specs.declared.messages.Certificate.{Certificate}
use Rattle.pbft_wire.specs.declared.messages.Change.{Change}
use Rattle.pbft_wire.specs.declared.messages.Message.{Message}
use Rattle.pbft_wire.specs.Signed.{ViewChange, NewView}
use Rattle.pbft_wire.specs.Statements.{string_of}
use Rattle.pbft_views.specs.Choice.{certificates_of}
use Rattle.pbft_views.specs.Good.{all_good, primary}
use Rattle.sb_pbft.specs.declared.view_changes.ViewChanges.{ViewChanges}
use Rattle.sb_pbft.specs.declared.pbft.Pbft.{Pbft}
use Rattle.sb_pbft.specs.declared.proposals.Proposals.{Proposals}
use Rattle.sb_pbft.specs.Makes.{Draft, DraftNewView, DraftViewChange, choice_strings, uses_all, value_strings}
use Rattle.sb_pbft.specs.Places.{change_at, proposal_at}
use Rattle.sb_pbft.specs.Rules.{cons_some, enters, passes, when}
use Rattle.sb_pbft.specs.Internal.Refines.{Does, HasHashed, Renews, Sent, Settles, chosen_among, held, is_due}
use Rattle.sb_pbft.specs.Internal.Turns.{Held, Turn, and_change, changed, changes_at, completes_at, entered, gives_up, idle, tops_of, turn}
use Rattle.sb_pbft.proofs.Refinement.RulesCompose.{does-nothing, does-sent, does-settled, turned}
use Rattle.sb_pbft.proofs.Refinement.SettleRefines.{grouped, sent-none}

-- ---- concatenated strings

values-both : (p : Params) (cs ds : List Certificate) →
    value_strings p (cs ++ ds) ≡ value_strings p cs ++ value_strings p ds
values-both p [] ds = refl
values-both p (c ∷ cs) ds = ap (λ (l : List (List ℕ)). string_of p c.value ∷ l) (values-both p cs ds)

hashed_both : (p : Params) (cs ds : List Certificate) (e f g : Effects Message) → HasHashed (value_strings p cs) e f →
    HasHashed (value_strings p ds) f g →
    HasHashed (value_strings p (cs ++ ds)) e g
hashed_both p cs ds e f g x y = record {
  hashed = y.hashed ∙ ap (λ (l : List (List ℕ)). l ++ value_strings p ds) x.hashed ∙ grouped e.hashed (value_strings p cs) (value_strings p ds)
      ∙ ap (λ (l : List (List ℕ)). e.hashed ++ l) (sym (values-both p cs ds));
  sends = y.sends ∙ x.sends;
  accepted = y.accepted ∙ x.accepted;
  delivers = y.delivers ∙ x.delivers;
}

-- a list split into its first item and the rest, as the code matches it
cut : (l : List Change) (x : Change) → x ≡ get_or l 0 x → 1 ≤ length l → x ∷ take (length l - 1) (drop 1 l) ≡ l
cut [] x is long = absurd (never long)
  where
    never : 1 ≤ 0 → ⊥
    never h = omega (arith, h)
cut (y ∷ ys) x is long =
    let n : suc (length ys) - 1 ≡ length ys = omega arith in
    ap (λ (k : ℕ). x ∷ take k ys) n ∙ ap (λ (l : List Change). x ∷ l) (take-length ys) ∙ ap (λ (z : Change). z ∷ ys) is

pub hashed-changes : (p : Params) (l : List Change) (x : Change) (cs : List Certificate) (e f g : Effects Message) →
    x ≡ get_or l 0 x → 1 ≤ length l →
    cs ≡ x.certificates →
    HasHashed (value_strings p cs) e f → HasHashed (value_strings p (certificates_of (take (length l - 1) (drop 1 l)))) f g →
    HasHashed (value_strings p (certificates_of l)) e g
hashed-changes p l x cs e f g is long same first rest =
    subst (λ (z : List Change). HasHashed (value_strings p (certificates_of z)) e g) (cut l x is long)
    (hashed_both p x.certificates (certificates_of (take (length l - 1) (drop 1 l))) e f g (subst
    (λ (z : List Certificate). HasHashed (value_strings p z) e f) same first) rest)

-- ---- a ViewChange

right-true : (t : Bool) → (t && true) ≡ t
right-true true = refl
right-true false = refl

right-false : (t : Bool) → (t && false) ≡ false
right-false true = refl
right-false false = refl

-- a number is not both below another and equal to it
never-both : (n m : ℕ) → (nat_lt n m && (n == m)) ≡ false
never-both n m = go (nat_lt n m) (n == m) (λ h. ltb-true n m h) (λ h. eqb-true n m h)
  where
    go : (a b : Bool) → (a ≡ true → n < m) → (b ≡ true → n ≡ m) → (a && b) ≡ false
    go false b below same = refl
    go true false below same = refl
    go true true below same = absurd (let l = below refl in let e = same refl in omega (arith, l, e))

module _ (p : Params) (m : Pbft) (x : Change) where
  abbrev keeps : Bool
  keeps = all_good p x.view x.certificates && not (is_some (change_at m.changes x.view x.node.0))

  abbrev then : Held
  then = and_change p (held m) (Receive x.node (ViewChange x.view x.certificates x.sig))

  -- an option that has a value keeps it
  stays-at : (t : Bool) → (t && not (is_some (change_at m.changes x.view x.node.0))) ≡ false → (v k : ℕ) (a b : Bool) →
      (x.node.0 == k) ≡ a →
      (v == x.view) ≡ b →
      first_of (change_at m.changes v k) (when ((a && b) && t) x) ≡ change_at m.changes v k
  stays-at t out v k false b ka vb = none-behind (change_at m.changes v k)
    where
      none-behind : (o : Option Change) → first_of o None ≡ o
      none-behind None = refl
      none-behind (Some y) = refl
  stays-at t out v k true false ka vb = none-behind (change_at m.changes v k)
    where
      none-behind : (o : Option Change) → first_of o None ≡ o
      none-behind None = refl
      none-behind (Some y) = refl
  stays-at false out v k true true ka vb = none-behind (change_at m.changes v k)
    where
      none-behind : (o : Option Change) → first_of o None ≡ o
      none-behind None = refl
      none-behind (Some y) = refl
  stays-at true out v k true true ka vb = some-first (change_at m.changes v k) (same out)
    where
      same : not (is_some (change_at m.changes x.view x.node.0)) ≡ false →
          not (is_some (change_at m.changes v k)) ≡ false
      same h = subst (λ (j : ℕ). not (is_some (change_at m.changes v j)) ≡ false) (eqb-true x.node.0 k ka)
          (subst (λ (w : ℕ). not (is_some (change_at m.changes w x.node.0)) ≡ false) (sym (eqb-true v x.view vb)) h)

      some-first : (o : Option Change) → not (is_some o) ≡ false → first_of o (Some x) ≡ o
      some-first None h = absurd cc
      some-first (Some y) h = refl

  stays : keeps ≡ false → then ≡ held m
  stays out = λ j. record (held m) { change = λ v k. stays-at (all_good p x.view x.certificates) out v k (x.node.0 == k) (v == x.view) refl refl j }

  abbrev changed-by : ℕ → Held → Bool → Bool → Turn
  changed-by me u a b = record (idle u) {
    drafts = cond b (DraftNewView x.view (changes_at p u x.view) ∷ []) [];
    strings = cond a (value_strings p x.certificates) [] ++ cond b (choice_strings p (changes_at p u x.view) p.slots) [];
  }

  pub change-idle : (me leaf : ℕ) → keeps ≡ false →
      turn p me leaf (held m) (Receive x.node (ViewChange x.view x.certificates x.sig)) ≡ idle (held m)
  change-idle me leaf out =
      let same : completes_at p me (held m) (held m) x.view ≡ false =
      ap (λ (t : Bool). ((me == primary p x.view) && nat_le m.view x.view) && t) (never-both (length (changes_at p (held m) x.view)) (2 * p.setup.f + 1))
      ∙ right-false ((me == primary p x.view) && nat_le m.view x.view) in
      ap (λ (u : Held). changed p me (held m) u x.node x.view x.certificates) (stays out)
      ∙ ap (λ (a : Bool). changed-by me (held m) a (completes_at p me (held m) (held m) x.view)) out
      ∙ ap (λ (b : Bool). changed-by me (held m) false b) same

  module _ (all : ViewChanges) (before : ℕ) where
    abbrev kept : Pbft
    kept = record m { changes = all }

    change-held : all_good p x.view x.certificates ≡ true →
        ((v k : ℕ) → change_at all v k ≡ first_of (change_at m.changes v k) (when ((x.node.0 == k) && (v == x.view)) x)) → held kept ≡ then
    change-held good new = λ j. record (held m) { change = λ v k. (new v k ∙ tested v k) j }
      where
        tested : (v k : ℕ) → first_of (change_at m.changes v k) (when ((x.node.0 == k) && (v == x.view)) x) ≡
            first_of (change_at m.changes v k) (when (((x.node.0 == k) && (v == x.view)) && all_good p x.view x.certificates) x)
        tested v k = ap (λ (t : Bool). first_of (change_at m.changes v k) (when t x))
            (sym (ap (λ (t : Bool). ((x.node.0 == k) && (v == x.view)) && t) good ∙ right-true ((x.node.0 == k) && (v == x.view))))

    -- the NewView that is due, and its hashed strings
    abbrev due-drafts : List Draft
    due-drafts = cond (is_due p kept x.view before) (DraftNewView x.view (changes_at p (held kept) x.view) ∷ []) []

    abbrev due-strings : List (List ℕ)
    due-strings = value_strings p x.certificates ++ cond (is_due p kept x.view before) (choice_strings p (changes_at p (held kept) x.view) p.slots) []

    change-turn : (leaf : ℕ) → keeps ≡ true → before ≡ length (changes_at p (held m) x.view) → held kept ≡ then →
        turn p m.me.0 leaf (held m) (Receive x.node (ViewChange x.view x.certificates x.sig)) ≡ record
        (idle (held kept)) { drafts = due-drafts; strings = due-strings }
    change-turn leaf first count is =
        ap (λ (u : Held). changed p m.me.0 (held m) u x.node x.view x.certificates) (sym is)
        ∙ ap (λ (a : Bool). changed-by m.me.0 (held kept) a (completes_at p m.me.0 (held m) (held kept) x.view)) first
        ∙ ap (λ (n : ℕ). changed-by m.me.0 (held kept) true (((m.me.0 == primary p x.view) && nat_le m.view x.view) &&
        (nat_lt n (2 * p.setup.f + 1) && (length (changes_at p (held kept) x.view) == 2 * p.setup.f + 1)))) (sym count)

    due-few : uses_all p due-drafts ≤ 2 * length p.slots + 1
    due-few = go (is_due p kept x.view before)
      where
        go : (t : Bool) →
            uses_all p (cond t (DraftNewView x.view (changes_at p (held kept) x.view) ∷ []) []) ≤ 2 * length p.slots + 1
        go true = omega arith
        go false = omega arith

-- ---- a NewView

module _ (p : Params) (m : Pbft) (v : ℕ) (xs : List Change) (sigs : List (List ℕ)) where
  begun-held : (all : Proposals) → ((w s : ℕ) → proposal_at all w s ≡ first_of (chosen_among p v xs p.slots sigs w s) (proposal_at m.proposals w s)) →
      held (record m { view = v; active = true; proposals = all }) ≡ entered p (held m) v xs sigs
  begun-held all new = λ j. record (held m) { mode = record { view = v; active = true }; proposal = λ w s. new w s j }

all-inside : (slots : List Slot) → AllIn slots slots
all-inside slots = go slots (λ s i. i)
  where
    go : (ss : List Slot) → ((s : Slot) → In s ss → In s slots) → AllIn ss slots
    go [] in_all = tt
    go (s ∷ ss) in_all = (in_all s (inl refl), go ss (λ t i. in_all t (inr i)))

-- ---- a timeout

pub tops-few : (top : ℕ → Option Certificate) (ss : List Slot) → length (tops_of top ss) ≤ length ss
tops-few top [] = omega arith
tops-few top (s ∷ ss) = one-more (top s.0) (tops_of top ss) (length ss) (tops-few top ss)
  where
    one-more : (o : Option Certificate) (cs : List Certificate) (n : ℕ) → length cs ≤ n →
        length (cons_some o cs) ≤ suc n
    one-more None cs n h = omega (arith, h)
    one-more (Some c) cs n h = omega (arith, h)

pub passed : (p : Params) (m : Pbft) (leaf : ℕ) → passes (held m).mode ≡ true →
    turn p m.me.0 leaf (held m) Timeout ≡ gives_up p (held m)
passed p m leaf may = rw may refl

pub timed-sent : (p : Params) (v : ℕ) (cs ds : List Certificate) (k l : KeyState) (s t : List (To × Message)) →
    cs ≡ ds → s ≡ [] →
    Sent p (DraftViewChange v cs ∷ []) k l s t →
    Sent p (DraftViewChange v ds ∷ []) k l [] t
timed-sent p v cs ds k l s t is none sent = subst (λ (z : List Certificate). Sent p (DraftViewChange v z ∷ []) k l [] t) is
    (subst (λ (z : List (To × Message)). Sent p (DraftViewChange v cs ∷ []) k l z t) none sent)

entered-turn : (p : Params) (m : Pbft) (leaf : ℕ) (node : NodeId) (v : ℕ) (xs : List Change) (sigs : List (List ℕ)) (sig : List ℕ) →
    enters p (held m).mode node.0 v xs sigs ≡ true →
    turn p m.me.0 leaf (held m) (Receive node (NewView v xs sigs sig)) ≡
    turned p [] (entered p (held m) v xs sigs) (not (m.me.0 == primary p v)) v p.slots (value_strings p
    (certificates_of xs) ++ choice_strings p xs p.slots) None
entered-turn p m leaf node v xs sigs sig may = rw may refl

entered-idle : (p : Params) (m : Pbft) (leaf : ℕ) (node : NodeId) (v : ℕ) (xs : List Change) (sigs : List (List ℕ)) (sig : List ℕ) →
    enters p (held m).mode node.0 v xs sigs ≡ false →
    turn p m.me.0 leaf (held m) (Receive node (NewView v xs sigs sig)) ≡ idle (held m)
entered-idle p m leaf node v xs sigs sig out = rw out refl

-- what the code does for a NewView that starts its view: it hashes, stores the proposals, enters the view, and
-- settles each slot
pub record Began (p : Params) (m new : Pbft) (from : NodeId) (v : ℕ) (xs : List Change) (sigs : List (List ℕ)) (slots : List Slot) (all : Proposals)
    (answers : Bool) (k l : KeyState)
    (none e f g : Effects Message) : Type 0 where
  pub entering : enters p (held m).mode from.0 v xs sigs ≡ true
  pub nothing : IsNothing none
  pub values : HasHashed (value_strings p (certificates_of xs)) none e
  pub choices : HasHashed (choice_strings p xs slots) e f
  pub proposed : (w s : ℕ) →
      proposal_at all w s ≡ first_of (chosen_among p v xs slots sigs w s) (proposal_at m.proposals w s)
  pub follows : answers ≡ not (m.me.0 == primary p v)
  pub settles : Settles p answers v slots (record m { view = v; active = true; proposals = all }) new k l f g

module _ (p : Params) (m new : Pbft) (from : NodeId) (v : ℕ) (xs : List Change) (sigs : List (List ℕ)) (all : Proposals) (answers : Bool) (k l : KeyState)
    (none e f g : Effects Message) where
  begun-own : (sig : List ℕ) → 1 ≤ length p.slots → Began p m new from v xs sigs p.slots all answers k l none e f g →
      Does p m new (Receive from (NewView v xs sigs sig)) k l g
  begun-own sig some b =
      let strings = value_strings p (certificates_of xs) ++ choice_strings p xs p.slots in
      does-settled p (Receive from (NewView v xs sigs sig)) m (record m { view = v; active = true; proposals = all }) new k k l f g []
      (not (m.me.0 == primary p v)) v p.slots
      (entered p (held m) v xs sigs) strings None refl (λ own. begun-held p m v xs sigs all b.proposed)
      (sent-none p k [] f.sends (b.choices.sends ∙ b.values.sends ∙ b.nothing.sends)) (b.choices.delivers ∙ b.values.delivers ∙ b.nothing.delivers)
      (b.choices.accepted ∙ b.values.accepted ∙ b.nothing.accepted)
      (b.choices.hashed ∙ ap (λ (z : List (List ℕ)). z ++ choice_strings p xs p.slots) (b.values.hashed
      ∙ ap (λ (z : List (List ℕ)). z ++ value_strings p (certificates_of xs)) b.nothing.hashed))
      tt (entered-turn p m k.used from v xs sigs sig b.entering)
      (subst (λ (z : Bool). Settles p z v p.slots (record m { view = v; active = true; proposals = all }) new k l f g) b.follows b.settles)
      (all-inside p.slots) (omega arith)

  pub begun-does : (ys : List Change) (ss : List (List ℕ)) (slots : List Slot) (sig : List ℕ) → 1 ≤ length p.slots →
      xs ≡ ys → sigs ≡ ss → slots ≡ p.slots →
      Began p m new from v xs sigs slots all answers k l none e f g → Does p m new (Receive from (NewView v ys ss sig)) k l g
  begun-does ys ss slots sig some shown signed whole b =
      subst (λ (z : List Change). Does p m new (Receive from (NewView v z ss sig)) k l g) shown
      (subst (λ (z : List (List ℕ)). Does p m new (Receive from (NewView v xs z sig)) k l g) signed
      (begun-own sig some (subst (λ (z : List Slot). Began p m new from v xs sigs z all answers k l none e f g) whole b)))

pub skipped-does : (p : Params) (m : Pbft) (from : NodeId) (v : ℕ) (xs ys : List Change) (sigs ss : List (List ℕ)) (sig : List ℕ) (k : KeyState)
    (e : Effects Message) → xs ≡ ys → sigs ≡ ss →
    enters p (held m).mode from.0 v xs sigs ≡ false → IsNothing e → Does p m m (Receive from (NewView v ys ss sig)) k k e
skipped-does p m from v xs ys sigs ss sig k e shown signed out nothing =
    subst (λ (z : List Change). Does p m m (Receive from (NewView v z ss sig)) k k e) shown
    (subst (λ (z : List (List ℕ)). Does p m m (Receive from (NewView v xs z sig)) k k e) signed
    (does-nothing p (Receive from (NewView v xs sigs sig)) m k e (entered-idle p m k.used from v xs sigs sig out) nothing))

-- ---- a ViewChange that is stored

-- what the code does: it hashes, stores the ViewChange, and sends the NewView if it is due
pub record Kept (p : Params) (m : Pbft) (x : Change) (cs : List Certificate) (all : ViewChanges) (before : ℕ) (k l : KeyState)
    (none e f : Effects Message) : Type 0 where
  pub keeps : (all_good p x.view x.certificates && not (is_some (change_at m.changes x.view x.node.0))) ≡ true
  pub nothing : IsNothing none
  pub count : before ≡ length (changes_at p (held m) x.view)
  pub shown : cs ≡ x.certificates
  pub values : HasHashed (value_strings p cs) none e
  pub kept : (v k : ℕ) →
      change_at all v k ≡ first_of (change_at m.changes v k) (when ((x.node.0 == k) && (v == x.view)) x)
  pub renews : Renews p (is_due p (record m { changes = all }) x.view before) (record m { changes = all }) x.view k l e f

pub change-does : (p : Params) (m : Pbft) (x : Change) (cs : List Certificate) (all : ViewChanges) (before : ℕ) (k l : KeyState) (none e f : Effects Message) →
    Kept p m x cs all before k l none e f → Does p m (record m { changes = all }) (Receive x.node (ViewChange x.view x.certificates x.sig)) k l f
change-does p m x cs all before k l none e f b =
    let good = (and-true (all_good p x.view x.certificates) (not (is_some (change_at m.changes x.view x.node.0))) b.keeps).0 in
    let held-then = change-held p m x all before good b.kept in
    let sends : e.sends ≡ [] = b.values.sends ∙ b.nothing.sends in
    let hashed : e.hashed ≡ value_strings p x.certificates = b.values.hashed ∙ ap (λ (z : List (List ℕ)). z ++ value_strings p cs) b.nothing.hashed
    ∙ ap (λ (z : List Certificate). value_strings p z) b.shown in
    does-sent p (Receive x.node (ViewChange x.view x.certificates x.sig)) m (record m { changes = all }) k l f (due-drafts p m x all before)
    (due-strings p m x all before) refl
    (subst (λ (z : List (To × Message)). Sent p (due-drafts p m x all before) k l z f.sends) sends b.renews.sent)
    (b.renews.delivers ∙ b.values.delivers ∙ b.nothing.delivers)
    (b.renews.accepted ∙ b.values.accepted ∙ b.nothing.accepted)
    (b.renews.hashed ∙ ap (λ (z : List (List ℕ)). z ++ cond (is_due p (record m { changes = all }) x.view before)
    (choice_strings p (changes_at p (held (record m { changes = all })) x.view) p.slots) []) hashed)
    (change-turn p m x all before k.used b.keeps b.count held-then) (due-few p m x all before)
