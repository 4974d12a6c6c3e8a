-- The completion of a step: the end of the epoch, and early messages in order.
use Rattle.std.proofs.Common.{arith, ◌≡◌, ℕ, suc, true, false, List, [], ◌∷◌, ◌++◌, eqb, Result, Ok, Err, IfOk, refl, sym, ap, ◌∙◌, subst, append_assoc}
use Rattle.std.proofs.lemmas.Bool.Decides.{nat_tests}
use Rattle.std.proofs.lemmas.List.{append-nil}
use Rattle.iss_base.specs.Lists.{first_of}
use Rattle.iss_model.proofs.Rows.{onward-onward, onward-rests}
use Rattle.iss_rules.specs.Concrete.{rules_of}
use Rattle.iss_rules.specs.Formats.{formats_of}
use Rattle.iss_rules.specs.Parcels.{Formats}
use Rattle.iss_model.specs.Node.{Core, Early as Kept_early, Stepped, Turn, advance_epochs, ended, ends, finish_step, or_unchanged, takes_each, takes_early, then_turn, unchanged}
use Rattle.iss_rules.specs.Past.{Past, is_complete}
use Rattle.iss_rules.specs.Rules.{Rules}
use Rattle.iss_rules.specs.declared.events.Why.{Why}
use Rattle.iss_node.proofs.Steps.EntriesCompose.{both-entered, later-entered, nothing-entered}
use Rattle.iss_node.specs.Entered.{IsEntered}
use Rattle.iss_node.proofs.Steps.OutcomesCompose.{both-made, nothing, nothing-made, nothing-sent}
use Rattle.iss_node.specs.Internal.Epochs.{appended, or_nothing}
use Rattle.iss_node.specs.State.{RefinesBareCore, RefinesPast, StateView, core_of, seen_early, seen_one}
use Rattle.iss_node.specs.Steps.{IsEnded, IsLater, IsMade, IsStep, IsStepOf, IsTurnBehind, IsTurnOf, IsTurned}
use Rattle.iss_node.specs.declared.answers.Early.{Early}
use Rattle.iss_node.specs.declared.answers.Outcome.{Outcome}
use Rattle.iss_request.specs.declared.setups.Setup.{Setup}
use Rattle.iss_request.specs.declared.ids.NodeId.{NodeId}
use Rattle.iss_sb.specs.Calls.{AreToNodes}
use Rattle.iss_sb.specs.Evidence.{Item, Module}
use Rattle.iss_sb.specs.declared.effects.Params.{Params}
use Rattle.iss_sb.specs.declared.effects.To.{To}

pub if-ok : {A E : Type 0} (r : Result A E) (P Q : A → Type 0) → IfOk r P → ((x : A) → P x → Q x) → IfOk r Q
if-ok (Ok x) P Q h f = f x h
if-ok (Err e) P Q h f = tt

module _ {M Msg : Type 0} (m : Module Msg) (refines : M → Params → ℕ → List (Item Msg) → Type 0) where
  -- What holds for the core of each history holds for each core that the state refines.
  pub at-core : (v : StateView M Msg) (c : Core Msg) → RefinesBareCore m refines v c → (Q : Core Msg → Type 0) → ((past : Past Msg) → RefinesPast m refines v past → Q (core_of v past)) → Q c
  at-core v c h Q all = subst (λ (d : Core Msg). Q d) (sym h.core) (all c.past h.tied)

  -- ---- a step that was tried

  pub tried-taken : (v w : StateView M Msg) (c : Core Msg) (step : Stepped Msg) (o : Outcome) → IsStep m refines c step w (Ok o) → IsTurned m refines (or_unchanged c step) w o
  tried-taken v w c step o h = subst (λ (z : Stepped Msg). IsTurned m refines (or_unchanged c z) w o) (sym h.step_is) h.turned

  pub tried-dropped : (v w : StateView M Msg) (c : Core Msg) (step : Stepped Msg) (why : _) (o : Outcome) → IsStep m refines c step w (Err why) → o ≡ nothing → IsTurned m refines (or_unchanged c step) w o
  tried-dropped v w c step why o h none = subst (λ (z : Stepped Msg). IsTurned m refines (or_unchanged c z) w o) (sym h.step_is) (record {
    refined = h.refined;
    made = nothing-made c o none;
    entered = nothing-entered o none;
    addressed = nothing-sent w.setup.n o none;
  })

  -- The outcome of an early message that was tried.
  pub tried-so : (v w : StateView M Msg) (stepped : Formats Msg → Rules → ℕ → Core Msg → Stepped Msg) (a : Result Outcome Why) (o : Outcome) → o ≡ or_nothing a → IsStepOf m refines v stepped w a →
      IsTurnOf m refines v (λ F R me c. or_unchanged c (stepped F R me c)) w o
  tried-so v w stepped (Ok p) o is h = λ past tied.
      subst (λ (z : Outcome). IsTurned m refines (or_unchanged (core_of v past) (stepped (formats_of v.setup m) (rules_of v.setup) v.me.0 (core_of v past))) w z) (sym is)
      (tried-taken v w (core_of v past) (stepped (formats_of v.setup m) (rules_of v.setup) v.me.0 (core_of v past)) p (h past tied))
  tried-so v w stepped (Err why) o is h = λ past tied.
      tried-dropped v w (core_of v past) (stepped (formats_of v.setup m) (rules_of v.setup) v.me.0 (core_of v past)) why o (h past tied) is

  -- ---- a turn that does not fill the epoch, and one that does

  unfilled-is : (F : Formats Msg) (R : Rules) (me : ℕ) (t : Turn Msg) → is_complete R m me t.core.past ≡ false → advance_epochs F R m me t ≡ t
  unfilled-is F R me t h = rw h refl

  filled-is : (F : Formats Msg) (R : Rules) (me : ℕ) (t : Turn Msg) → is_complete R m me t.core.past ≡ true →
      advance_epochs F R m me t ≡ then_turn (then_turn t (ends F R m me)) (takes_each F R m me (suc t.core.past.epoch) t.core.early)
  filled-is F R me t h = rw h refl

  to-nodes : (n : ℕ) (xs ys : List (To × List ℕ)) → AreToNodes n xs → AreToNodes n ys → AreToNodes n (xs ++ ys)
  to-nodes n [] ys h k = k
  to-nodes n (x ∷ xs) ys h k = (h.0, to-nodes n xs ys h.1 k)

  -- The vote at the end of an epoch, after the outcome of a turn.
  voted-behind : (v u : StateView M Msg) (t : Turn Msg) (first vote : Outcome) (early : List (Early Msg)) → is_complete (rules_of v.setup) m v.me.0 t.core.past ≡ true →
      IsEnded m refines v u vote early → IsLater v u → IsTurned m refines t v first →
      IsTurned m refines (then_turn t (ends (formats_of v.setup m) (rules_of v.setup) m v.me.0)) u (appended first vote)
  voted-behind v u t first vote early complete over later h =
      let F = formats_of v.setup m in
      let R = rules_of v.setup in
      let turned : IsTurned m refines (ends F R m v.me.0 t.core) u vote =
      subst (λ (d : Core Msg). IsTurned m refines (ends F R m v.me.0 d) u vote) (sym h.refined.core) (over.turned t.core.past h.refined.tied complete) in
      record {
        refined = turned.refined;
        made = both-made t (ends F R m v.me.0) first vote h.made turned.made;
        entered = both-entered m u t.entered (ends F R m v.me.0 t.core).entered first.entered vote.entered (later-entered m v u later t.entered first.entered h.entered) turned.entered;
        addressed = to-nodes u.setup.n first.sends vote.sends (subst (λ (s : Setup). AreToNodes s.n first.sends) (sym later.setup) h.addressed) turned.addressed;
      }

  pub settles-not : (v : StateView M Msg) (first : Outcome) → ((past : Past Msg) → RefinesPast m refines v past → is_complete (rules_of v.setup) m v.me.0 past ≡ false) →
      IsTurnBehind m refines v (λ F R me t. advance_epochs F R m me t) first v first
  settles-not v first lasting t h =
      subst (λ (u : Turn Msg). IsTurned m refines u v first) (sym (unfilled-is (formats_of v.setup m) (rules_of v.setup) v.me.0 t (lasting t.core.past h.refined.tied))) h

  pub settles-on : (v u w : StateView M Msg) (first vote last : Outcome) (early : List (Early Msg)) → ((past : Past Msg) → RefinesPast m refines v past → is_complete (rules_of v.setup) m v.me.0 past ≡ true) →
      IsEnded m refines v u vote early → IsLater v u →
      IsTurnBehind m refines u (λ F R me t. then_turn t (takes_each F R m me u.epoch (seen_early early))) (appended first vote) w last →
      IsTurnBehind m refines v (λ F R me t. advance_epochs F R m me t) first w last
  settles-on v u w first vote last early over next later each t h =
      let c = t.core in
      let complete = over c.past h.refined.tied in
      let begun : Turn Msg = then_turn t (ends (formats_of v.setup m) (rules_of v.setup) m v.me.0) in
      let turned : IsTurned m refines begun u (appended first vote) = voted-behind v u t first vote early complete next later h in
      let went = each begun turned in
      let epoch : u.epoch ≡ suc c.past.epoch = turned.refined.tied.epoch in
      let kept : seen_early early ≡ c.early = ap (λ (xs : List (Early Msg)). seen_early xs) next.kept ∙ sym (ap (λ (d : Core Msg). d.early) h.refined.core) in
      let there : IsTurned m refines (then_turn begun (takes_each (formats_of v.setup m) (rules_of v.setup) m v.me.0 (suc c.past.epoch) c.early)) w last =
      subst (λ (xs : List (Kept_early Msg)). IsTurned m refines (then_turn begun (takes_each (formats_of v.setup m) (rules_of v.setup) m v.me.0 (suc c.past.epoch) xs)) w last) kept
      (subst (λ (e : ℕ). IsTurned m refines (then_turn begun (takes_each (formats_of v.setup m) (rules_of v.setup) m v.me.0 e (seen_early early))) w last) epoch
      (subst (λ (s : Setup). IsTurned m refines (then_turn begun (takes_each (formats_of s m) (rules_of s) m v.me.0 u.epoch (seen_early early))) w last) later.setup
      (subst (λ (i : NodeId). IsTurned m refines (then_turn begun (takes_each (formats_of u.setup m) (rules_of u.setup) m i.0 u.epoch (seen_early early))) w last) later.me went))) in
      subst (λ (z : Turn Msg). IsTurned m refines z w last) (sym (filled-is (formats_of v.setup m) (rules_of v.setup) v.me.0 t complete)) there

  -- The completion of a step that was accepted.
  pub settled-taken : (v w : StateView M Msg) (first last : Outcome) → IsTurnBehind m refines v (λ F R me t. advance_epochs F R m me t) first w last → (c : Core Msg) (step : Stepped Msg) →
      IsStep m refines c step v (Ok first) → IsStep m refines c (finish_step (formats_of v.setup m) (rules_of v.setup) m v.me.0 step) w (Ok last)
  settled-taken v w first last h c step s = record {
    turn = advance_epochs (formats_of v.setup m) (rules_of v.setup) m v.me.0 s.turn;
    step_is = ap (λ (z : Stepped Msg). finish_step (formats_of v.setup m) (rules_of v.setup) m v.me.0 z) s.step_is;
    turned = h s.turn s.turned;
  }

  pub settled-dropped : (v : StateView M Msg) (why : _) (c : Core Msg) (step : Stepped Msg) →
      IsStep m refines c step v (Err why) → IsStep m refines c (finish_step (formats_of v.setup m) (rules_of v.setup) m v.me.0 step) v (Err why)
  settled-dropped v why c step s = record { step_is = ap (λ (z : Stepped Msg). finish_step (formats_of v.setup m) (rules_of v.setup) m v.me.0 z) s.step_is; refined = s.refined }

  -- ---- an early message

  ended-not : (F : Formats Msg) (R : Rules) (me : ℕ) (t : Turn Msg) → is_complete R m me t.core.past ≡ false → ended F R m me t ≡ t
  ended-not F R me t h = rw h refl

  ended-on : (F : Formats Msg) (R : Rules) (me : ℕ) (t : Turn Msg) → is_complete R m me t.core.past ≡ true → ended F R m me t ≡ then_turn t (ends F R m me)
  ended-on F R me t h = rw h refl

  pub early-not : (v : StateView M Msg) (t : Turn Msg) (o : Outcome) → ((past : Past Msg) → RefinesPast m refines v past → is_complete (rules_of v.setup) m v.me.0 past ≡ false) →
      IsTurned m refines t v o → IsTurned m refines (ended (formats_of v.setup m) (rules_of v.setup) m v.me.0 t) v o
  early-not v t o lasting h =
      subst (λ (z : Turn Msg). IsTurned m refines z v o) (sym (ended-not (formats_of v.setup m) (rules_of v.setup) v.me.0 t (lasting t.core.past h.refined.tied))) h

  pub early-on : (v u : StateView M Msg) (t : Turn Msg) (o vote : Outcome) (early : List (Early Msg)) → ((past : Past Msg) → RefinesPast m refines v past → is_complete (rules_of v.setup) m v.me.0 past ≡ true) →
      IsEnded m refines v u vote early → IsLater v u → IsTurned m refines t v o → IsTurned m refines (ended (formats_of v.setup m) (rules_of v.setup) m v.me.0 t) u (appended o vote)
  early-on v u t o vote early over next later h =
      let complete = over t.core.past h.refined.tied in
      subst (λ (z : Turn Msg). IsTurned m refines z u (appended o vote)) (sym (ended-on (formats_of v.setup m) (rules_of v.setup) v.me.0 t complete))
      (voted-behind v u t o vote early complete next later h)

  -- The set-up does not change.
  pub ended-by : (v u w : StateView M Msg) (t : Turn Msg) (o : Outcome) → IsLater v u → IsTurned m refines (ended (formats_of u.setup m) (rules_of u.setup) m u.me.0 t) w o →
      IsTurned m refines (ended (formats_of v.setup m) (rules_of v.setup) m v.me.0 t) w o
  ended-by v u w t o later h =
      subst (λ (s : Setup). IsTurned m refines (ended (formats_of s m) (rules_of s) m v.me.0 t) w o) later.setup
      (subst (λ (i : NodeId). IsTurned m refines (ended (formats_of u.setup m) (rules_of u.setup) m i.0 t) w o) later.me h)

  -- ---- early messages in order

  -- What the turn so far and the remaining messages make together is fixed.
  pub record Owes (start : StateView M Msg) (now : StateView M Msg) (all : Outcome) (done : List (Early Msg)) (t : Turn Msg) : Type 0 where
    pub so_far : Turn Msg
    pub refined : RefinesBareCore m refines now so_far.core
    pub made : IsMade so_far all
    pub entered : IsEntered m now so_far.entered all.entered
    pub addressed : AreToNodes now.setup.n all.sends
    pub rest : (more : List (Early Msg)) →
        then_turn t (takes_each (formats_of start.setup m) (rules_of start.setup) m start.me.0 start.epoch (seen_early (done ++ more)))
        ≡ then_turn so_far (takes_each (formats_of start.setup m) (rules_of start.setup) m start.me.0 start.epoch (seen_early more))

  pub owes-first : (v : StateView M Msg) (first : Outcome) (t : Turn Msg) → IsTurned m refines t v first → Owes v v first [] t
  owes-first v first t h = record { so_far = t; refined = h.refined; made = h.made; entered = h.entered; addressed = h.addressed; rest = λ more. refl }

  pub owes-last : (start now : StateView M Msg) (last : Outcome) (all done : List (Early Msg)) → done ≡ all → (t : Turn Msg) → Owes start now last done t →
      IsTurned m refines (then_turn t (takes_each (formats_of start.setup m) (rules_of start.setup) m start.me.0 start.epoch (seen_early all))) now last
  owes-last start now last all done is t o =
      let F = formats_of start.setup m in
      let R = rules_of start.setup in
      let e : then_turn t (takes_each F R m start.me.0 start.epoch (seen_early all)) ≡ o.so_far =
      ap (λ (xs : List (Early Msg)). then_turn t (takes_each F R m start.me.0 start.epoch (seen_early xs))) (sym is ∙ sym (append-nil done)) ∙ o.rest [] ∙ onward-rests o.so_far in
      subst (λ (z : Turn Msg). IsTurned m refines z now last) (sym e) (record { refined = o.refined; made = o.made; entered = o.entered; addressed = o.addressed })

  each-on : (F : Formats Msg) (R : Rules) (me e : ℕ) (x : Kept_early Msg) (xs : List (Kept_early Msg)) (c : Core Msg) → c.past.epoch ≡ e → takes_each F R m me e (x ∷ xs) c ≡ then_turn (takes_early F R m me c x) (takes_each F R m me e xs)
  each-on F R me e x xs c h = let same : eqb c.past.epoch e ≡ true = grind (arith, nat_tests) in rw same refl

  each-off : (F : Formats Msg) (R : Rules) (me e : ℕ) (xs : List (Kept_early Msg)) (c : Core Msg) → eqb c.past.epoch e ≡ false → takes_each F R m me e xs c ≡ unchanged c
  each-off F R me e [] c h = refl
  each-off F R me e (x ∷ xs) c h = rw h refl

  -- The next message, while the epoch lasts.
  pub owes-next : (start now new : StateView M Msg) (all more : Outcome) (done : List (Early Msg)) (x : Early Msg) (t : Turn Msg) (later : IsLater start now) (after : IsLater now new) → now.epoch ≡ start.epoch →
      IsTurnOf m refines now (λ F R me c. takes_early F R m me c (seen_one x)) new more → Owes start now all done t → Owes start new (appended all more) (done ++ x ∷ []) t
  owes-next start now new all more done x t later after lasts taken o =
      let c = o.so_far.core in
      let tied = o.refined.tied in
      let F = formats_of start.setup m in
      let R = rules_of start.setup in
      let me = start.me.0 in
      let turn : IsTurned m refines (takes_early F R m me c (seen_one x)) new more =
      subst (λ (s : Setup). IsTurned m refines (takes_early (formats_of s m) (rules_of s) m me c (seen_one x)) new more) later.setup
      (subst (λ (i : NodeId). IsTurned m refines (takes_early (formats_of now.setup m) (rules_of now.setup) m i.0 c (seen_one x)) new more) later.me
      (at-core now c o.refined (λ d. IsTurned m refines (takes_early (formats_of now.setup m) (rules_of now.setup) m now.me.0 d (seen_one x)) new more) (λ past h. taken past h))) in
      let epoch : c.past.epoch ≡ start.epoch = sym tied.epoch ∙ lasts in
      record {
        so_far = then_turn o.so_far (λ d. takes_early F R m me d (seen_one x));
        refined = turn.refined;
        made = both-made o.so_far (λ d. takes_early F R m me d (seen_one x)) all more o.made turn.made;
        entered = both-entered m new o.so_far.entered (takes_early F R m me c (seen_one x)).entered all.entered more.entered (later-entered m now new after o.so_far.entered all.entered o.entered) turn.entered;
        addressed = to-nodes new.setup.n all.sends more.sends (subst (λ (s : Setup). AreToNodes s.n all.sends) (sym after.setup) o.addressed) turn.addressed;
        rest = λ ys.
            let regroup : (done ++ x ∷ []) ++ ys ≡ done ++ x ∷ ys = append_assoc done (x ∷ []) ys in
            ap (λ (zs : List (Early Msg)). then_turn t (takes_each F R m me start.epoch (seen_early zs))) regroup
            ∙ o.rest (x ∷ ys)
            ∙ onward-at o.so_far (takes_each F R m me start.epoch (seen_early (x ∷ ys))) (λ d. then_turn (takes_early F R m me d (seen_one x)) (takes_each F R m me start.epoch (seen_early ys))) (each-on F R me start.epoch (seen_one x) (seen_early ys) c epoch)
            ∙ onward-onward o.so_far (λ d. takes_early F R m me d (seen_one x)) (takes_each F R m me start.epoch (seen_early ys));
      }
    where
      onward-at : (u : Turn Msg) (f g : Core Msg → Turn Msg) → f u.core ≡ g u.core → then_turn u f ≡ then_turn u g
      onward-at u f g h = ap (λ (z : Turn Msg). let y : Turn Msg = record { core = z.core; entered = first_of z.entered u.entered; sends = u.sends ++ z.sends; own = u.own ++ z.own; early = u.early ++ z.early; strings = u.strings ++ z.strings } in y) h

  -- No message is taken once the epoch is over.
  pub owes-none : (start now : StateView M Msg) (all : Outcome) (done : List (Early Msg)) (x : Early Msg) (t : Turn Msg) → eqb now.epoch start.epoch ≡ false →
      Owes start now all done t → Owes start now all (done ++ x ∷ []) t
  owes-none start now all done x t over o =
      let c = o.so_far.core in
      let F = formats_of start.setup m in
      let R = rules_of start.setup in
      let me = start.me.0 in
      let gone : eqb c.past.epoch start.epoch ≡ false = ap (λ (k : ℕ). eqb k start.epoch) (sym o.refined.tied.epoch) ∙ over in
      record {
        so_far = o.so_far;
        refined = o.refined;
        made = o.made;
        entered = o.entered;
        addressed = o.addressed;
        rest = λ ys.
            let regroup : (done ++ x ∷ []) ++ ys ≡ done ++ x ∷ ys = append_assoc done (x ∷ []) ys in
            ap (λ (zs : List (Early Msg)). then_turn t (takes_each F R m me start.epoch (seen_early zs))) regroup
            ∙ o.rest (x ∷ ys)
            ∙ onward-at o.so_far (takes_each F R m me start.epoch (seen_early (x ∷ ys))) (takes_each F R m me start.epoch (seen_early ys))
            (each-off F R me start.epoch (seen_early (x ∷ ys)) c gone ∙ sym (each-off F R me start.epoch (seen_early ys) c gone));
      }
    where
      onward-at : (u : Turn Msg) (f g : Core Msg → Turn Msg) → f u.core ≡ g u.core → then_turn u f ≡ then_turn u g
      onward-at u f g h = ap (λ (z : Turn Msg). let y : Turn Msg = record { core = z.core; entered = first_of z.entered u.entered; sends = u.sends ++ z.sends; own = u.own ++ z.own; early = u.early ++ z.early; strings = u.strings ++ z.strings } in y) h
