-- A report refines a run, event by event.
use Rattle.std.proofs.Common.{◌≡◌, ℕ, zero, suc, ◌+◌, ◌<◌, ◌≤◌, List, [], ◌∷◌, ◌++◌, length, take, get_or, refl, sym, ap, ◌∙◌, subst, arith, add-one, Option, Some, None, reverse, append_assoc, drop, Bool, true, false, cond}
use Rattle.std.proofs.lemmas.List.{append-nil, reverse-append, take-append-drop}
use Rattle.iss_rules.specs.Concrete.{rules_of}
use Rattle.iss_rules.specs.Parcels.{Formats}
use Rattle.iss_rules.specs.Past.{log_of}
use Rattle.iss_rules.specs.Rules.{Rules}
use Rattle.iss_rules.specs.Ends.{End}
use Rattle.iss_model.specs.Run.{Net, node_of}
use Rattle.iss_model.specs.Courses.{Course, Machines, driver_of, with_crashes}
use Rattle.iss_model.specs.Driver.{Upshot, apply_event, ended_at, run_event, run_event_if_open}
use Rattle.iss_base.specs.Lists.{nth}
use Rattle.iss_theorems.specs.Readers.{reader_after, reader_at, reader_of, reader_of_some, reader_until}
use Rattle.iss_theorems.specs.Headline.{course_after}
use Rattle.iss_theorems.proofs.CrashRecovery.LostEventsAreNumbered.{after-one, after-stays, end-notes-nothing, further-on}
use Rattle.iss_model.proofs.Twins.{node-is}
use Rattle.iss_rules.specs.declared.events.Why.{Why}
use Rattle.iss_replay.specs.Text.{first_line, drop_line, node_block}
use Rattle.iss_replay.specs.Summary.{line_of, node_lines}
use Rattle.iss_replay.specs.Report.{block_of, drop_lines, node_blocks}
use Rattle.iss_replay.specs.Refines.{ReportRefinesRun, end_at, end_kept, numbered}
use Rattle.iss_schedule.specs.declared.schedules.Event.{Event}
use Rattle.iss_schedule.specs.Events.{AreInRange, IsInRange}
use Rattle.iss_request.specs.Setup.{IsGoodSetup, node_count, nodes_of_kind}
use Rattle.iss_request.specs.declared.setups.Kind.{Kind}
use Rattle.iss_request.specs.declared.setups.Kind.TheVariants.{Byzantine, Stopping}
use Rattle.iss_request.specs.declared.setups.Setup.{Setup}
use Rattle.iss_sb.specs.Calls.{Relation}
use Rattle.iss_sb.specs.Evidence.{Module, is_correct}
use Rattle.iss_request.specs.declared.ids.NodeId.{NodeId}
use Rattle.iss_request.specs.declared.requests.Value.{Value}
use Rattle.iss_network.proofs.Keeping.{any_default}
use Rattle.iss_world.proofs.PostLemmas.{take-next}
use Rattle.iss_world.proofs.CourseLemmas.{take-past}
use Rattle.iss_world.proofs.WorldLemmas.{stale-goes}
use Rattle.iss_world.specs.Refines.{AreStale, AreStaleBehind, HasHappened, RefinesRun, RefinesRunUntil, end_of, why_ended}
use Rattle.iss_world.specs.State.{WorldState}
use Rattle.iss_world.specs.declared.ends.Evidence.{Evidence}
use Rattle.iss_world.specs.declared.ends.Evidence.TheVariants.{Forged as Evidence_forged, Collision as Evidence_collision}
use Rattle.iss_world.specs.declared.world.EventResult.{EventResult}
use Rattle.iss_world.specs.declared.world.EventResult.TheVariants.{Done as Result_done, Lost as Result_lost, Forged as Result_forged, Collision as Result_collision}

in-range-get : (s : Setup) (es : List Event) (i : ℕ) (d : Event) → AreInRange s es → i < length es → IsInRange s (get_or es i d)
in-range-get s [] i d h lt = absurd (omega arith)
in-range-get s (e ∷ es) zero d h lt = h.0
in-range-get s (e ∷ es) (suc i) d h lt = in-range-get s es i d h.1 (omega arith)

pub in-range-at : (s t : Setup) (es : List Event) (i : ℕ) (e : Event) → t ≡ s → AreInRange s es → i < length es → e ≡ get_or es i e → IsInRange t e
in-range-at s t es i e same h lt is =
    subst (λ (u : Setup). IsInRange u e) (sym same) (subst (λ (x : Event). IsInRange s x) (sym is) (in-range-get s es i e h lt))

-- A good set-up has at most ten nodes.
few-of : (k : Kind) (f : ℕ) → f ≤ 3 → nodes_of_kind k f ≤ 10
few-of Byzantine f h = omega arith
few-of Stopping f h = omega arith

pub few-nodes : (s : Setup) → IsGoodSetup s → s.n ≤ 10
few-nodes s h = let few : nodes_of_kind s.kind s.f ≤ 10 = few-of s.kind s.f h.faults in let is : s.n ≡ node_count s = h.nodes in grind (arith, few, is)

lines-append : (xs ys : List (ℕ × Why)) → drop_lines (xs ++ ys) ≡ drop_lines ys ++ drop_lines xs
lines-append [] ys = sym (append-nil (drop_lines ys))
lines-append (x ∷ xs) ys = ap (λ t. t ++ drop_line x.0 x.1) (lines-append xs ys) ∙ append_assoc (drop_lines ys) (drop_lines xs) (drop_line x.0 x.1)

-- The lines so far, and one more.
lines-next : (out : List ℕ) (ds : List (ℕ × Why)) (i : ℕ) (d : ℕ × Why) → i < length ds → d ≡ get_or ds i d → (out ++ drop_lines (reverse (take i ds))) ++ drop_line d.0 d.1 ≡ out ++ drop_lines (reverse (take (i + 1) ds))
lines-next out ds i d lt is =
    append_assoc out (drop_lines (reverse (take i ds))) (drop_line d.0 d.1)
    ∙ ap (λ t. out ++ t) (sym (ap (λ (xs : List (ℕ × Why)). drop_lines (reverse xs)) (take-next ds i d lt is) ∙ ap drop_lines (reverse-append (take i ds) (d ∷ []))))

pub one-line-more : (out now later : List ℕ) (ds : List (ℕ × Why)) (i : ℕ) (d : ℕ × Why) → i < length ds → now ≡ out ++ drop_lines (reverse (take i ds)) → later ≡ now ++ drop_line (get_or ds i d).0 (get_or ds i d).1 → later ≡ out ++ drop_lines (reverse (take (i + 1) ds))
one-line-more out now later ds i d lt a b =
    b ∙ ap (λ (t : List ℕ). t ++ drop_line (get_or ds i d).0 (get_or ds i d).1) a
    ∙ lines-next out ds i (get_or ds i d) lt (any_default ds i d (get_or ds i d) lt)

nth-get : (es : List Event) (i : ℕ) (d : Event) → i < length es → nth es i ≡ Some (get_or es i d)
nth-get [] i d lt = absurd (omega arith)
nth-get (e ∷ es) zero d lt = refl
nth-get (e ∷ es) (suc i) d lt = nth-get es i d (omega arith)

-- ---- runs, event by event

why-is : (k : ℕ) (o : Option End) (end : End) → why_ended (ended_at k o) ≡ Some end → o ≡ Some end
why-is k None end q = absurd (cc)
why-is k (Some other) end q = q

module _ {M Msg : Type 0} (m : Module Msg) (refines : Relation M Msg) where
  happened-on : (s : Setup) (F : Formats Msg) (R : Rules) (later : WorldState M Msg) (p : Course Msg) (e : Event) (r : EventResult) → end_kept None ≡ p.ended →
      HasHappened m refines later p (run_event_if_open p.ended (with_crashes s F R m) p e) r → HasHappened m refines later p (run_event (with_crashes s F R m) p e) r
  happened-on s F R later p e r going h = subst (λ (q : Course Msg). HasHappened m refines later p q r) (further-on s F R m p e (sym going)) h

  -- The three cases of an event: it is applied, it is lost, or it reveals evidence.
  pub went-on : (s : Setup) (F : Formats Msg) (R : Rules) (later : WorldState M Msg) (drops : List (ℕ × Why)) (p : Course Msg) (e : Event) →
      HasHappened m refines later p (run_event_if_open p.ended (with_crashes s F R m) p e) Result_done → end_kept None ≡ p.ended → reverse drops ≡ p.drops →
      ReportRefinesRun m refines later drops None (run_event (with_crashes s F R m) p e)
  went-on s F R later drops p e h going d =
      let r = happened-on s F R later p e Result_done going h in
      record { refined = r.0; drops_are = d ∙ sym r.2; end_is = sym r.1 }

  pub was-lost : (s : Setup) (F : Formats Msg) (R : Rules) (later : WorldState M Msg) (old drops : List (ℕ × Why)) (p : Course Msg) (e : Event) (k : ℕ) (why : Why) →
      HasHappened m refines later p (run_event_if_open p.ended (with_crashes s F R m) p e) (Result_lost why) → end_kept None ≡ p.ended → p.event ≡ k → reverse old ≡ p.drops → drops ≡ old ++ (k, why) ∷ [] →
      ReportRefinesRun m refines later drops None (run_event (with_crashes s F R m) p e)
  was-lost s F R later old drops p e k why h going n d is =
      let r = happened-on s F R later p e (Result_lost why) going h in
      record {
        refined = r.0;
        drops_are =
            ap (λ (xs : List (ℕ × Why)). reverse xs) is ∙ reverse-append old ((k, why) ∷ [])
            ∙ ap (λ (xs : List (ℕ × Why)). (k, why) ∷ xs) d
            ∙ ap (λ (j : ℕ). (j, why) ∷ p.drops) (sym n)
            ∙ sym r.2;
        end_is = sym r.1;
      }

  has-ended : (s : Setup) (F : Formats Msg) (R : Rules) (later : WorldState M Msg) (drops : List (ℕ × Why)) (p : Course Msg) (e : Event) (k : ℕ) (end : Evidence) →
      RefinesRun m refines later (run_event (with_crashes s F R m) p e) → why_ended (run_event (with_crashes s F R m) p e).ended ≡ Some (end_of end) → p.event ≡ k → reverse drops ≡ p.drops →
      ReportRefinesRun m refines later drops (numbered k (Some end)) (run_event (with_crashes s F R m) p e)
  has-ended s F R later drops p e k end st why n d =
      let is : (apply_event (with_crashes s F R m) p.state e).ended ≡ Some (end_of end) = why-is p.event (apply_event (with_crashes s F R m) p.state e).ended (end_of end) why in
      record {
        refined = st;
        drops_are = d ∙ sym (end-notes-nothing s F R m p e (end_of end) is);
        end_is = ap (λ (j : ℕ). ended_at j (Some (end_of end))) (sym n) ∙ ap (λ (o : Option End). ended_at p.event o) (sym is);
      }

  pub was-forged : (s : Setup) (F : Formats Msg) (R : Rules) (later : WorldState M Msg) (drops : List (ℕ × Why)) (p : Course Msg) (e : Event) (k : ℕ) (by : NodeId) (statement sig : List ℕ) →
      HasHappened m refines later p (run_event_if_open p.ended (with_crashes s F R m) p e) (Result_forged by statement sig) → end_kept None ≡ p.ended → p.event ≡ k → reverse drops ≡ p.drops →
      ReportRefinesRun m refines later drops (numbered k (Some (Evidence_forged (record { by = by; statement = statement; sig = sig })))) (run_event (with_crashes s F R m) p e)
  was-forged s F R later drops p e k by statement sig h going n d =
      let r = happened-on s F R later p e (Result_forged by statement sig) going h in
      has-ended s F R later drops p e k (Evidence_forged (record { by = by; statement = statement; sig = sig })) r.0 r.1 n d

  pub has-collided : (s : Setup) (F : Formats Msg) (R : Rules) (later : WorldState M Msg) (drops : List (ℕ × Why)) (p : Course Msg) (e : Event) (k : ℕ) (first second : List ℕ) →
      HasHappened m refines later p (run_event_if_open p.ended (with_crashes s F R m) p e) (Result_collision first second) → end_kept None ≡ p.ended → p.event ≡ k → reverse drops ≡ p.drops →
      ReportRefinesRun m refines later drops (numbered k (Some (Evidence_collision first second))) (run_event (with_crashes s F R m) p e)
  has-collided s F R later drops p e k first second h going n d =
      let r = happened-on s F R later p e (Result_collision first second) going h in
      has-ended s F R later drops p e k (Evidence_collision first second) r.0 r.1 n d

  -- One more event.
  next-run : (s : Setup) (es : List Event) (i : ℕ) (e : Event) → i < length es → e ≡ get_or es i e → end_kept None ≡ (course_after s m (take i es)).ended →
      course_after s m (take (i + 1) es) ≡ run_event (driver_of s m) (course_after s m (take i es)) e
  next-run s es i e lt is going =
      ap (λ (fs : List Event). course_after s m fs) (take-next es i e lt is)
      ∙ after-one s m (take i es) e (sym going)

  pub run-next : (s t : Setup) (later : WorldState M Msg) (drops : List (ℕ × Why)) (ended : Option (ℕ × Evidence)) (es : List Event) (i : ℕ) (e : Event) →
      t ≡ s → i < length es → e ≡ get_or es i e → end_kept None ≡ (course_after s m (take i es)).ended →
      ReportRefinesRun m refines later drops ended (run_event (driver_of t m) (course_after s m (take i es)) e) → ReportRefinesRun m refines later drops ended (course_after s m (take (i + 1) es))
  run-next s t later drops ended es i e same lt is going h =
      let there : ReportRefinesRun m refines later drops ended (run_event (driver_of s m) (course_after s m (take i es)) e) =
      subst (λ (u : Setup). ReportRefinesRun m refines later drops ended (run_event (driver_of u m) (course_after s m (take i es)) e)) same h in
      subst (λ (p : Course Msg). ReportRefinesRun m refines later drops ended p) (sym (next-run s es i e lt is going)) there

  pub number-next : (s : Setup) (es : List Event) (i : ℕ) (e : Event) → i < length es → e ≡ get_or es i e → end_kept None ≡ (course_after s m (take i es)).ended →
      (course_after s m (take i es)).event ≡ i → (course_after s m (take (i + 1) es)).event ≡ i + 1
  number-next s es i e lt is going n =
      let next : (course_after s m (take (i + 1) es)).event ≡ suc (course_after s m (take i es)).event = ap (λ (p : Course Msg). p.event) (next-run s es i e lt is going) in
      omega (arith, next, n)

  -- Events after the evidence change nothing.
  pub run-over : (s : Setup) (later : WorldState M Msg) (drops : List (ℕ × Why)) (end : ℕ × Evidence) (es : List Event) (i : ℕ) →
      ReportRefinesRun m refines later drops (Some end) (course_after s m (take i es)) → ReportRefinesRun m refines later drops (Some end) (course_after s m es)
  run-over s later drops end es i h =
      let p = course_after s m (take i es) in
      let whole : course_after s m es ≡ p =
      ap (λ (fs : List Event). course_after s m fs) (sym (take-append-drop i es))
      ∙ after-stays s m (take i es) (drop i es) (end_at end) (sym h.end_is) in
      subst (λ (q : Course Msg). ReportRefinesRun m refines later drops (Some end) q) (sym whole) h

  -- ---- which cores are stale

  -- The run has ended with evidence.
  pub stale-over : (s t : Setup) (later : WorldState M Msg) (end : Evidence) (es : List Event) (i : ℕ) (e : Event) → t ≡ s → i < length es → e ≡ get_or es i e → end_kept None ≡ (course_after s m (take i es)).ended →
      end_kept (Some (i, end)) ≡ (course_after s m (take (i + 1) es)).ended → AreStaleBehind (driver_of t m) (course_after s m (take i es)) e later → AreStale later (course_after s m es).state (reader_after s m es)
  stale-over s t later end es i e same lt is going over behind =
      let W = driver_of s m in
      let p = course_after s m (take i es) in
      let d : Upshot (Machines Msg) = apply_event W p.state e in
      let there : AreStaleBehind W p e later = subst (λ (u : Setup). AreStaleBehind (driver_of u m) p e later) same behind in
      let next = next-run s es i e lt is going in
      let whole : course_after s m es ≡ course_after s m (take (i + 1) es) =
      ap (λ (fs : List Event). course_after s m fs) (sym (take-append-drop (i + 1) es))
      ∙ after-stays s m (take (i + 1) es) (drop (i + 1) es) (end_at (i, end)) (sym over) in
      let all = whole ∙ next in
      let last : (course_after s m es).ended ≡ Some (i, end_of end) = ap (λ (q : Course Msg). q.ended) whole ∙ sym over in
      let at : ended_at p.event d.ended ≡ Some (i, end_of end) = sym (ap (λ (q : Course Msg). q.ended) next) ∙ sym over in
      let shown : d.ended ≡ Some (end_of end) = why-is p.event d.ended (end_of end) (ap why_ended at) in
      let here : AreStale later d.state (reader_of W p.state e) =
      subst (λ (o : Option End). AreStale later d.state (reader_at o (reader_of W p.state e) None)) shown there in
      let found : nth es i ≡ Some e = nth-get es i e lt ∙ ap (λ (x : Event). Some x) (sym is) in
      let reader : reader_after s m es ≡ reader_of W p.state e =
      ap (λ (o : Option (ℕ × End)). reader_until s m es o) last ∙ ap (λ (o : Option Event). reader_of_some W p.state o) found in
      subst (λ (o : Option ℕ). AreStale later (course_after s m es).state o) (sym reader)
      (subst (λ (q : Course Msg). AreStale later q.state (reader_of W p.state e)) (sym all) here)

  -- The run has not ended.
  pub stale-on : (s : Setup) (later : WorldState M Msg) (es : List Event) (i : ℕ) → length es ≤ i → RefinesRun m refines later (course_after s m (take i es)) → end_kept None ≡ (course_after s m (take i es)).ended →
      AreStale later (course_after s m es).state (reader_after s m es)
  stale-on s later es i le st going =
      let all : take i es ≡ es = take-past es i le in
      let open' : (course_after s m es).ended ≡ None = ap (λ (fs : List Event). (course_after s m fs).ended) (sym all) ∙ sym going in
      let there : RefinesRun m refines later (course_after s m es) = subst (λ (fs : List Event). RefinesRun m refines later (course_after s m fs)) all st in
      let k = subst (λ (o : Option (ℕ × End)). RefinesRunUntil m refines later (course_after s m es).state o) open' there in
      subst (λ (o : Option ℕ). AreStale later (course_after s m es).state o) (sym (ap (λ (o : Option (ℕ × End)). reader_until s m es o) open'))
      (stale-goes m refines later.simulation None (course_after s m es).state k.simulation)

  -- ---- blocks

  pub blocks-next : (s : Setup) (w : Net Msg) (out now later : List ℕ) (k : ℕ) → now ≡ out ++ node_blocks s m w k → later ≡ now ++ block_of s m w k → later ≡ out ++ node_blocks s m w (k + 1)
  blocks-next s w out now later k a b =
      b ∙ ap (λ (t : List ℕ). t ++ block_of s m w k) a
      ∙ append_assoc out (node_blocks s m w k) (block_of s m w k)
      ∙ ap (λ (j : ℕ). out ++ node_blocks s m w j) (sym (add-one k))

  -- The block of a correct node. A faulty node has none.
  pub block-told : (s : Setup) (w : Net Msg) (out now : List ℕ) (i e : ℕ) (log : List Value) → is_correct s i ≡ true → i < s.n → e ≡ (w.cores i).past.epoch →
      log_of (rules_of s) m (node_of s i) (w.cores i).past ≡ log → now ≡ out ++ node_block i e log → now ≡ out ++ block_of s m w i
  block-told s w out now i e log correct lt epoch is told =
      let own : log_of (rules_of s) m i (w.cores i).past ≡ log = ap (λ (k : ℕ). log_of (rules_of s) m k (w.cores i).past) (sym (node-is s i lt)) ∙ is in
      told
      ∙ ap (λ (k : ℕ). out ++ node_block i k log) epoch
      ∙ ap (λ (l : List Value). out ++ node_block i (w.cores i).past.epoch l) (sym own)
      ∙ ap (λ (b : Bool). out ++ cond b (node_block i (w.cores i).past.epoch (log_of (rules_of s) m i (w.cores i).past)) []) (sym correct)

  pub no-block : (s : Setup) (w : Net Msg) (out : List ℕ) (i : ℕ) → is_correct s i ≡ false → out ≡ out ++ block_of s m w i
  no-block s w out i faulty =
      sym (append-nil out) ∙ ap (λ (b : Bool). out ++ cond b (node_block i (w.cores i).past.epoch (log_of (rules_of s) m i (w.cores i).past)) []) (sym faulty)

  -- ---- summaries

  pub summary-next : (s : Setup) (w : Net Msg) (out now later : List ℕ) (k : ℕ) → now ≡ out ++ node_lines s m w k → later ≡ now ++ line_of s m w k → later ≡ out ++ node_lines s m w (k + 1)
  summary-next s w out now later k a b =
      b ∙ ap (λ (t : List ℕ). t ++ line_of s m w k) a
      ∙ append_assoc out (node_lines s m w k) (line_of s m w k)
      ∙ ap (λ (j : ℕ). out ++ node_lines s m w j) (sym (add-one k))

  -- The line of a correct node. A faulty node has none.
  pub line-told : (s : Setup) (w : Net Msg) (out now : List ℕ) (i e : ℕ) (log : List Value) → is_correct s i ≡ true → i < s.n → e ≡ (w.cores i).past.epoch →
      log_of (rules_of s) m (node_of s i) (w.cores i).past ≡ log → now ≡ out ++ first_line i e log → now ≡ out ++ line_of s m w i
  line-told s w out now i e log correct lt epoch is told =
      let own : log_of (rules_of s) m i (w.cores i).past ≡ log = ap (λ (k : ℕ). log_of (rules_of s) m k (w.cores i).past) (sym (node-is s i lt)) ∙ is in
      told
      ∙ ap (λ (k : ℕ). out ++ first_line i k log) epoch
      ∙ ap (λ (l : List Value). out ++ first_line i (w.cores i).past.epoch l) (sym own)
      ∙ ap (λ (b : Bool). out ++ cond b (first_line i (w.cores i).past.epoch (log_of (rules_of s) m i (w.cores i).past)) []) (sym correct)

  pub no-line : (s : Setup) (w : Net Msg) (out : List ℕ) (i : ℕ) → is_correct s i ≡ false → out ≡ out ++ line_of s m w i
  no-line s w out i faulty =
      sym (append-nil out) ∙ ap (λ (b : Bool). out ++ cond b (first_line i (w.cores i).past.epoch (log_of (rules_of s) m i (w.cores i).past)) []) (sym faulty)
