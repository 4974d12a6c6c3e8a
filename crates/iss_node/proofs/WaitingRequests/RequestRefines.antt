-- What a node knows about a request, and how requests wait.
use Rattle.std.proofs.Common.{◌≡◌, ℕ, Bool, true, false, List, [], ◌∷◌, ◌++◌, ◌||◌, cond, not, length, reverse, drop, Result, Ok, Err, refl, sym, ap, ◌∙◌, subst, append_assoc, true≢false}
use Rattle.std.specs.Prelude.{OnOk, fold}
use Rattle.std.proofs.lemmas.List.{append-nil, length-reverse}
use Rattle.iss_buckets.specs.Waiting.{AreNew, absent, waits}
use Rattle.iss_window.proofs.Members.{has_id-append}
use Rattle.iss_model.proofs.Casts.{requested-sound}
use Rattle.iss_rules.specs.Concrete.{rules_of}
use Rattle.iss_rules.specs.Formats.{formats_of}
use Rattle.iss_model.specs.Node.{Dropped, Taken, Turn, is_known, is_nil_at, joined, returned, takes_request, unchanged}
use Rattle.iss_rules.specs.Past.{Past, before_own, log_of}
use Rattle.iss_model.specs.Sound.{IsSoundCore}
use Rattle.iss_rules.specs.declared.events.Why.TheVariants.{BadRequest, Known, OutOfWindow as Why_out_of_window}
use Rattle.iss_node.proofs.WaitingRequests.OrderedLeaveWaiting.{log_ids-append}
use Rattle.iss_node.proofs.Log.LogIsExtended.{bf-long, bf-part, split-log}
use Rattle.iss_log.specs.Chains.{ChainsState, IsChainOf}
use Rattle.iss_log.specs.LogState.{LogState, value_at}
use Rattle.iss_node.proofs.WaitingRequests.ProposalsComplete.{returned-landed}
use Rattle.iss_node.specs.Flights.{FlightState, IsCompleted, completed}
use Rattle.iss_node.specs.Internal.Growth.{AreJoined, IsGrown, and_values, waits_on}
use Rattle.iss_node.specs.Internal.Inputs.{AreLogged, HasAppliedDeliveries, HasAppliedEffects, HasCompletedCasts, IsChained, IsHandedOut, and_accepted}
use Rattle.iss_node.specs.declared.answers.Accepted.{Accepted}
use Rattle.iss_node.specs.declared.answers.Outcome.{Outcome}
use Rattle.iss_request.specs.declared.errors.NoMemory.{NoMemory}
use Rattle.iss_request.specs.declared.ids.NodeId.{NodeId}
use Rattle.iss_sb.specs.declared.effects.Effects.{Effects}
use Rattle.iss_sb.specs.declared.effects.To.{To}
use Rattle.iss_segment.specs.Ground.{noted_before}
use Rattle.iss_window.specs.Kept.{Kept, RefinesNoted}
use Rattle.iss_node.specs.Internal.Shape.{IsNodeState}
use Rattle.iss_node.specs.State.{RefinesBareCore, RefinesPast, StateView, core_of}
use Rattle.iss_request.specs.Log.{has_id, ids, log_ids}
use Rattle.iss_request.specs.declared.ids.ReqId.{ReqId}
use Rattle.iss_request.specs.declared.ids.Slot.{Slot}
use Rattle.iss_request.specs.declared.requests.Batch.{Batch}
use Rattle.iss_request.specs.declared.requests.Request.{Request}
use Rattle.iss_request.specs.declared.requests.Value.{Value}
use Rattle.iss_sb.specs.Evidence.{Item, Module}
use Rattle.iss_sb.specs.declared.effects.Params.{Params}
use Rattle.iss_window.specs.Window.{Noted, is_inside, place_of}
use Rattle.iss_window.specs.declared.windows.Place.{Place}

pub known-waits : (a b : Bool) → (a || b) ≡ false → a ≡ false
known-waits true b h = absurd (true≢false h)
known-waits false b h = refl

-- ---- requests that wait again

-- A request in the log is left out. Any other waits.
pub absent-more : (all : List ReqId) (qs : List Request) (q : Request) → absent all (qs ++ q ∷ []) ≡ absent all qs ++ cond (has_id q.id all) [] (q ∷ [])
absent-more all [] q = refl
absent-more all (r ∷ qs) q = elim (has_id r.id all) as (λ b. cond b (absent all (qs ++ q ∷ [])) (r ∷ absent all (qs ++ q ∷ [])) ≡ cond b (absent all qs) (r ∷ absent all qs) ++ cond (has_id q.id all) [] (q ∷ [])) [
  | true ↦ absent-more all qs q
  | false ↦ ap (λ (xs : List Request). r ∷ xs) (absent-more all qs q)
]

pub absent-join : (all : List ReqId) (qs rs : List Request) → absent all (qs ++ rs) ≡ absent all qs ++ absent all rs
absent-join all [] rs = refl
absent-join all (q ∷ qs) rs = elim (has_id q.id all) as (λ b. cond b (absent all (qs ++ rs)) (q ∷ absent all (qs ++ rs)) ≡ cond b (absent all qs) (q ∷ absent all qs) ++ absent all rs) [
  | true ↦ absent-join all qs rs
  | false ↦ ap (λ (xs : List Request). q ∷ xs) (absent-join all qs rs)
]

pub new-front : (w qs rs : List Request) → AreNew w (qs ++ rs) → AreNew w qs
new-front w [] rs h = tt
new-front w (q ∷ qs) rs h = (h.0, new-front (w ++ q ∷ []) qs rs h.1)

pub new-back : (w qs rs : List Request) → AreNew w (qs ++ rs) → AreNew (w ++ qs) rs
new-back w [] rs h = subst (λ (xs : List Request). AreNew xs rs) (sym (append-nil w)) h
new-back w (q ∷ qs) rs h = subst (λ (xs : List Request). AreNew xs rs) (append_assoc w (q ∷ []) qs) (new-back (w ++ q ∷ []) qs rs h.1)

pub returned-more : (log : List Value) (fs : List (Slot × Batch)) (slot : Slot) (batch : Batch) → returned log (fs ++ (slot, batch) ∷ []) ≡ returned log fs ++ cond (is_nil_at log slot.0) batch []
returned-more log [] slot batch = elim (is_nil_at log slot.0) as (λ b. cond b (batch ++ []) [] ≡ cond b batch []) [ true ↦ append-nil batch | false ↦ refl ]
returned-more log (f ∷ fs) slot batch = elim (is_nil_at log f.0.0) as (λ b. cond b (f.1 ++ returned log (fs ++ (slot, batch) ∷ [])) (returned log (fs ++ (slot, batch) ∷ [])) ≡ cond b (f.1 ++ returned log fs) (returned log fs) ++ cond (is_nil_at log slot.0) batch []) [
  | true ↦ ap (λ (xs : List Request). f.1 ++ xs) (returned-more log fs slot batch) ∙ sym (append_assoc f.1 (returned log fs) (cond (is_nil_at log slot.0) batch []))
  | false ↦ returned-more log fs slot batch
]

pub whole-next : {A : Type 0} (all done : List A) (q : A) (old new : List A) → all ≡ done ++ old → old ≡ q ∷ new → all ≡ (done ++ q ∷ []) ++ new
whole-next all done q old new h k = h ∙ ap (λ (xs : List _). done ++ xs) k ∙ sym (append_assoc done (q ∷ []) new)

pub rest-more : {M Msg : Type 0} (v u w : StateView M Msg) → w ≡ record u { waiting = w.waiting } → u ≡ record v { waiting = u.waiting } → w ≡ record v { waiting = w.waiting }
rest-more v u w a b = let f : StateView _ _ → StateView _ _ = λ z. record z { waiting = w.waiting } in a ∙ ap f b

-- If only the waiting list changes, the identities of the log stay the same.
pub logged-still : {M Msg : Type 0} (v w : StateView M Msg) → w ≡ record v { waiting = w.waiting } → (all : List ReqId) → AreLogged v all → AreLogged w all
logged-still v w rest all h = subst (λ (z : StateView _ _). AreLogged z all) (sym rest) (record { before = h.before; noted = h.noted; members = h.members })

pub again-logged : (all : List ReqId) (now start : List Request) (done : List Request) (q : Request) → has_id q.id all ≡ true → now ≡ start ++ absent all done → now ≡ start ++ absent all (done ++ q ∷ [])
again-logged all now start done q there h =
    h ∙ ap (λ (xs : List Request). start ++ xs) (sym (absent-more all done q ∙ ap (λ b. absent all done ++ cond b [] (q ∷ [])) there ∙ append-nil (absent all done)))

pub again-waits : {M Msg : Type 0} (all : List ReqId) (now new : StateView M Msg) (start batch done : List Request) (q : Request) (rest : List Request) → has_id q.id all ≡ false → now.waiting ≡ start ++ absent all done →
    AreNew start (absent all batch) → batch ≡ done ++ q ∷ rest → (has_id q.id (ids now.waiting) ≡ false → new ≡ record now { waiting = now.waiting ++ q ∷ [] }) → new.waiting ≡ start ++ absent all (done ++ q ∷ [])
again-waits all now new start batch done q rest gone h n whole put =
    let split : absent all batch ≡ absent all done ++ q ∷ absent all rest = ap (λ (xs : List Request). absent all xs) whole ∙ absent-join all done (q ∷ rest) ∙ ap (λ b. absent all done ++ cond b (absent all rest) (q ∷ absent all rest)) gone in
    let behind = new-back start (absent all done) (q ∷ absent all rest) (subst (λ (xs : List Request). AreNew start xs) split n) in
    let free : has_id q.id (ids now.waiting) ≡ false = ap (λ (xs : List Request). has_id q.id (ids xs)) h ∙ behind.0 in
    ap (λ (z : StateView _ _). z.waiting) (put free) ∙ ap (λ (xs : List Request). xs ++ q ∷ []) h ∙ append_assoc start (absent all done) (q ∷ [])
    ∙ ap (λ (xs : List Request). start ++ xs) (sym (absent-more all done q ∙ ap (λ b. absent all done ++ cond b [] (q ∷ [])) gone))

returned-join : (log : List Value) (fs gs : List (Slot × Batch)) → returned log (fs ++ gs) ≡ returned log fs ++ returned log gs
returned-join log [] gs = refl
returned-join log (f ∷ fs) gs = elim (is_nil_at log f.0.0) as (λ b. cond b (f.1 ++ returned log (fs ++ gs)) (returned log (fs ++ gs)) ≡ cond b (f.1 ++ returned log fs) (returned log fs) ++ returned log gs) [
  | true ↦ ap (λ (xs : List Request). f.1 ++ xs) (returned-join log fs gs) ∙ sym (append_assoc f.1 (returned log fs) (returned log gs))
  | false ↦ returned-join log fs gs
]

-- The requests of a proposal whose slot is not nil do not wait again.
pub back-none : (all : List ReqId) (log : List Value) (now start : List Request) (done : List (Slot × Batch)) (slot : Slot) (batch : Batch) → is_nil_at log slot.0 ≡ false → now ≡ start ++ absent all (returned log done) → now ≡ start ++ absent all (returned log (done ++ (slot, batch) ∷ []))
back-none all log now start done slot batch nil h =
    h ∙ ap (λ (xs : List Request). start ++ absent all xs) (sym (returned-more log done slot batch ∙ ap (λ b. returned log done ++ cond b batch []) nil ∙ append-nil (returned log done)))

-- The requests of a proposal whose slot is nil wait again.
pub back-some : (all : List ReqId) (log : List Value) (now new start : List Request) (casts done : List (Slot × Batch)) (slot : Slot) (batch : Batch) (rest : List (Slot × Batch)) → is_nil_at log slot.0 ≡ true →
    now ≡ start ++ absent all (returned log done) → AreNew start (absent all (returned log casts)) → casts ≡ done ++ (slot, batch) ∷ rest → (AreNew now (absent all batch) → new ≡ now ++ absent all batch) →
    new ≡ start ++ absent all (returned log (done ++ (slot, batch) ∷ []))
back-some all log now new start casts done slot batch rest nil h n whole put =
    let split : absent all (returned log casts) ≡ absent all (returned log done) ++ (absent all batch ++ absent all (returned log rest)) =
    ap (λ (fs : List (Slot × Batch)). absent all (returned log fs)) whole
    ∙ ap (λ (xs : List Request). absent all xs) (returned-join log done ((slot, batch) ∷ rest) ∙ ap (λ b. returned log done ++ cond b (batch ++ returned log rest) (returned log rest)) nil)
    ∙ absent-join all (returned log done) (batch ++ returned log rest) ∙ ap (λ (xs : List Request). absent all (returned log done) ++ xs) (absent-join all batch (returned log rest)) in
    let behind = new-back start (absent all (returned log done)) (absent all batch ++ absent all (returned log rest)) (subst (λ (xs : List Request). AreNew start xs) split n) in
    let free : AreNew now (absent all batch) = subst (λ (xs : List Request). AreNew xs (absent all batch)) (sym h) (new-front (start ++ absent all (returned log done)) (absent all batch) (absent all (returned log rest)) behind) in
    put free ∙ ap (λ (xs : List Request). xs ++ absent all batch) h ∙ append_assoc start (absent all (returned log done)) (absent all batch)
    ∙ ap (λ (xs : List Request). start ++ xs) (sym (ap (λ (xs : List Request). absent all xs) (returned-more log done slot batch ∙ ap (λ b. returned log done ++ cond b batch []) nil) ∙ absent-join all (returned log done) batch))

-- ---- completed proposals, and the longer log

pub landed-all : {M Msg : Type 0} (v u w : StateView M Msg) (slots : ℕ) (gone : List (Slot × Batch)) (r : Result (Unit {0}) NoMemory) → u ≡ record v { flight = u.flight } → slots ≡ length v.log.entries → gone ≡ completed slots v.flight.casts → IsCompleted v.flight u.flight slots →
    OnOk r ((all : List ReqId) → AreLogged u all → AreNew u.waiting (absent all (returned (reverse u.log.entries) gone)) → w.waiting ≡ u.waiting ++ absent all (returned (reverse u.log.entries) gone)) →
    w ≡ record u { waiting = w.waiting } → OnOk r (HasCompletedCasts v w)
landed-all v u w slots gone (Err e) us n gone_is lands back rest = tt
landed-all {M} {Msg} v u w slots gone (Ok x) us n gone_is lands back rest =
    let flight : w.flight ≡ u.flight = ap (λ (z : StateView M Msg). z.flight) rest in
    let waiting : u.waiting ≡ v.waiting = ap (λ (z : StateView M Msg). z.waiting) us in
    let log : u.log ≡ v.log = ap (λ (z : StateView M Msg). z.log) us in
    let windows : u.windows ≡ v.windows = ap (λ (z : StateView M Msg). z.windows) us in
    let logged : u.logged ≡ v.logged = ap (λ (z : StateView M Msg). z.logged) us in
    let same : returned (reverse u.log.entries) gone ≡ returned (reverse v.log.entries) v.flight.casts =
    ap (λ (l : LogState). returned (reverse l.entries) gone) log
    ∙ ap (λ (fs : List (Slot × Batch)). returned (reverse v.log.entries) fs) (gone_is ∙ ap (λ (k : ℕ). completed k v.flight.casts) (n ∙ sym (length-reverse v.log.entries)))
    ∙ returned-landed (reverse v.log.entries) v.flight.casts in
    record {
      landed = subst (λ (k : ℕ). IsCompleted v.flight w.flight k) n (subst (λ (f : FlightState). IsCompleted v.flight f slots) (sym flight) lands);
      waiting = λ all h new.
          back all (record { before = h.before; noted = subst (λ (k : Kept). RefinesNoted k (noted_before h.before)) (sym windows) h.noted; members = λ y. h.members y ∙ ap (λ (xs : List ReqId). has_id y xs || has_id y (log_ids h.before)) (sym logged) })
          (subst (λ (ws : List Request). AreNew ws (absent all (returned (reverse u.log.entries) gone))) (sym waiting) (subst (λ (qs : List Request). AreNew v.waiting (absent all qs)) (sym same) new))
          ∙ ap (λ (ws : List Request). ws ++ absent all (returned (reverse u.log.entries) gone)) waiting ∙ ap (λ (qs : List Request). v.waiting ++ absent all qs) same;
    }

drop-front : {A : Type 0} (xs ys : List A) → drop (length xs) (xs ++ ys) ≡ ys
drop-front [] ys = refl
drop-front (x ∷ xs) ys = drop-front xs ys

pub grown-all : {M Msg : Type 0} (v u w : StateView M Msg) (delivers : List (Slot × Value)) (held : ℕ) (entries more : List Value) (r : Result (Unit {0}) NoMemory) → u ≡ record v { log = u.log; chains = u.chains; waiting = u.waiting; logged = u.logged } →
    IsGrown v.log delivers u.log held → entries ≡ u.log.entries → more ≡ drop held entries → u.waiting ≡ fold waits_on v.waiting more → u.logged ≡ fold and_values v.logged more →
    OnOk r (HasCompletedCasts u w) → w ≡ record u { waiting = w.waiting; flight = w.flight } → OnOk r (HasAppliedDeliveries v w delivers)
grown-all v u w delivers held entries more (Err e) us grown entries_are more_is waits joins lands rest = tt
grown-all {M} {Msg} v u w delivers held entries more (Ok x) us grown entries_are more_is waits joins lands rest =
    let joined_is : more ≡ grown.joined = more_is ∙ ap (λ (xs : List Value). drop held xs) (entries_are ∙ grown.entries) ∙ ap (λ (n : ℕ). drop n (v.log.entries ++ grown.joined)) grown.count ∙ drop-front v.log.entries grown.joined in
    let log : w.log ≡ u.log = ap (λ (z : StateView M Msg). z.log) rest in
    let logged : w.logged ≡ u.logged = ap (λ (z : StateView M Msg). z.logged) rest in
    let chains : w.chains ≡ u.chains = ap (λ (z : StateView M Msg). z.chains) rest in
    let waiting : u.waiting ≡ fold waits_on v.waiting grown.joined = waits ∙ ap (λ (xs : List Value). fold waits_on v.waiting xs) joined_is in
    let onto : LogState → ChainsState → List ReqId → List Request → StateView M Msg = λ l ch ids ws. record v { log = l; chains = ch; logged = ids; waiting = ws } in
    let as_now : u ≡ record v { log = w.log; chains = w.chains; logged = w.logged; waiting = fold waits_on v.waiting grown.joined } =
    us ∙ ap (λ (l : LogState). onto l u.chains u.logged u.waiting) (sym log) ∙ ap (λ (ch : ChainsState). onto w.log ch u.logged u.waiting) (sym chains)
    ∙ ap (λ (ids : List ReqId). onto w.log w.chains ids u.waiting) (sym logged) ∙ ap (λ (ws : List Request). onto w.log w.chains w.logged ws) waiting in
    record {
      held = held;
      grown = record { count = grown.count; joined = grown.joined; entries = ap (λ (l : LogState). l.entries) log ∙ grown.entries; values = λ s. ap (λ (l : LogState). value_at l s) log ∙ grown.values s; hole = ap (λ (l : LogState). value_at l (length l.entries)) log ∙ grown.hole };
      logged = logged ∙ joins ∙ ap (λ (xs : List Value). fold and_values v.logged xs) joined_is;
      landed = subst (λ (z : StateView M Msg). HasCompletedCasts z w) as_now lands;
      rest = let f : StateView M Msg → StateView M Msg = λ z. record z { waiting = w.waiting; flight = w.flight } in rest ∙ ap f as_now;
    }

pub absorbed-all : {M Msg : Type 0} (v u w : StateView M Msg) (leader : NodeId) (e : Effects Msg) (ds : List (Slot × Value)) → u ≡ record v { accepted = and_accepted leader v.accepted e.accepted } → HasAppliedDeliveries u w ds → ds ≡ e.delivers → HasAppliedEffects v w leader e
absorbed-all {M} {Msg} v u w leader e ds us grown is =
    let accepted : w.accepted ≡ and_accepted leader v.accepted e.accepted = ap (λ (z : StateView M Msg). z.accepted) grown.rest ∙ ap (λ (z : StateView M Msg). z.accepted) us in
    let with_it : List Accepted → StateView M Msg = λ xs. record v { accepted = xs } in
    let now : u ≡ record v { accepted = w.accepted } = us ∙ ap with_it (sym accepted) in
    record { accepted = accepted; grown = subst (λ (z : StateView M Msg). HasAppliedDeliveries z w e.delivers) now (subst (λ (xs : List (Slot × Value)). HasAppliedDeliveries u w xs) is grown) }

-- The chain was extended with the log.
pub chained-all : {M Msg : Type 0} (v w : StateView M Msg) (chains now : ChainsState) (held : ℕ) (entries more : List Value) (before after : List (List ℕ)) (r : Result (Unit {0}) NoMemory) →
    entries ≡ w.log.entries → more ≡ drop held entries → held ≡ length v.log.entries → chains ≡ v.chains → w.chains ≡ now →
    ((log : List Value) → IsChainOf chains log → AreJoined chains log more now before after) → now.version ≡ chains.version → OnOk r (IsChained v w before after)
chained-all v w chains now held entries more before after (Err e) entries_are more_is held_is chains_are now_is joins version = tt
chained-all v w chains now held entries more before after (Ok x) entries_are more_is held_is chains_are now_is joins version = record {
  joined = λ more2 is chain.
      let same : more ≡ more2 = more_is ∙ ap (λ (xs : List Value). drop held xs) (entries_are ∙ is) ∙ ap (λ (n : ℕ). drop n (v.log.entries ++ more2)) held_is ∙ drop-front v.log.entries more2 in
      subst (λ (z : ChainsState). AreJoined v.chains v.log.entries more2 z before after) (sym now_is)
      (subst (λ (z : List Value). AreJoined v.chains v.log.entries z now before after) same
      (subst (λ (z : ChainsState). IsChainOf z v.log.entries → AreJoined z v.log.entries more now before after) chains_are (joins v.log.entries) chain));
  version = ap (λ (z : ChainsState). z.version) now_is ∙ version ∙ ap (λ (z : ChainsState). z.version) chains_are;
}

-- An accepted batch does not matter for the chain.
pub chained-after : {M Msg : Type 0} (v u w : StateView M Msg) (accepted : List Accepted) (before after : List (List ℕ)) → u ≡ record v { accepted = accepted } → IsChained u w before after → IsChained v w before after
chained-after {M} {Msg} v u w accepted before after is h =
    let k : IsChained (record v { accepted = accepted }) w before after = subst (λ (z : StateView M Msg). IsChained z w before after) is h in
    record { joined = k.joined; version = k.version }

-- The outcome has exactly the strings that were hashed.
pub now-its-own : {M Msg : Type 0} (m : Module Msg) (v : StateView M Msg) (l : ℕ) (sends : List (To × Msg)) (strings : List (List ℕ)) (o : Outcome) → IsHandedOut m v l sends strings o → IsHandedOut m v l sends o.hashed o
now-its-own m v l sends strings o h = record { sent = h.sent; own = h.own; early = h.early; hashed_is = refl; entered = h.entered }

-- ---- the requests that a node knows

module _ {M Msg : Type 0} (m : Module Msg) (refines : M → Params → ℕ → List (Item Msg) → Type 0)
    (v : StateView M Msg) (shape : IsNodeState m v) (past : Past Msg) (tied : RefinesPast m refines v past) where
  pub logged-all : AreLogged v (log_ids (log_of (rules_of v.setup) m v.me.0 past))
  logged-all = record {
    before = before_own (rules_of v.setup) m v.me.0 past;
    noted = tied.rests.noted;
    members = λ x.
        let q = tied.start in
        let n = bf-long m refines v shape past tied in
        let bf = before_own (rules_of v.setup) m v.me.0 past in
        let part = bf-part m refines v shape past tied in
        let whole : reverse v.log.entries ≡ joined v.plan.start (reverse v.log.entries) ++ bf = split-log (reverse v.log.entries) bf v.plan.start (q ∙ sym n) part in
        ap (λ (ys : List Value). has_id x (log_ids ys)) (tied.log ∙ whole)
        ∙ ap (λ (ys : List ReqId). has_id x ys) (log_ids-append (joined v.plan.start (reverse v.log.entries)) bf)
        ∙ has_id-append x (log_ids (joined v.plan.start (reverse v.log.entries))) (log_ids bf)
        ∙ ap (λ b. b || has_id x (log_ids bf)) (sym (tied.logged x ∙ ap (λ (ys : List Value). has_id x (log_ids (joined v.plan.start ys))) tied.log));
  }

  pub known-is : (x : ReqId) (b : Bool) → b ≡ (has_id x (ids v.waiting) || (has_id x v.flight.ids || has_id x (log_ids (log_of (rules_of v.setup) m v.me.0 past)))) → is_known (rules_of v.setup) m v.me.0 (core_of v past) x ≡ b
  known-is x b e = sym (e ∙ ap (λ c. has_id x (ids v.waiting) || (c || has_id x (log_ids (log_of (rules_of v.setup) m v.me.0 past)))) (tied.flown x))

  pub inside-is : (x : ReqId) (p : Place) → p ≡ place_of v.windows.width (log_ids (before_own (rules_of v.setup) m v.me.0 past)) x → (rules_of v.setup).inside (before_own (rules_of v.setup) m v.me.0 past) past.epoch x ≡ is_inside p
  inside-is x p e = sym (ap (λ (o : Place). is_inside o) (e ∙ ap (λ (w : ℕ). place_of w (log_ids (before_own (rules_of v.setup) m v.me.0 past)) x) tied.rests.width))

  pub inside-found : (x : ReqId) (b : Bool) (k : Kept) → k ≡ v.windows → ((n : Noted) → RefinesNoted k n → b ≡ is_inside (place_of k.width n.closed x)) → (rules_of v.setup).inside (before_own (rules_of v.setup) m v.me.0 past) past.epoch x ≡ b
  inside-found x b k is h =
      let bf = before_own (rules_of v.setup) m v.me.0 past in
      let found = subst (λ (z : Kept). (n : Noted) → RefinesNoted z n → b ≡ is_inside (place_of z.width n.closed x)) is h in
      sym (found (noted_before bf) tied.rests.noted ∙ ap (λ (w : ℕ). is_inside (place_of w (log_ids bf) x)) tied.rests.width)

  -- The model's step for a request, by the results of the node's checks.
  pub request-is : (q : Request) (a b c : Bool) → (rules_of v.setup).signed q ≡ a → is_known (rules_of v.setup) m v.me.0 (core_of v past) q.id ≡ b → (rules_of v.setup).inside (before_own (rules_of v.setup) m v.me.0 past) past.epoch q.id ≡ c →
      takes_request (rules_of v.setup) m v.me.0 (core_of v past) q ≡ cond (not a) (Dropped BadRequest) (cond b (Dropped Known) (cond (not c) (Dropped Why_out_of_window) (Taken (unchanged (record (core_of v past) { waiting = v.waiting ++ q ∷ [] })))))
  request-is q a b c ha hb hc = tests _ a _ b _ c (unchanged (record (core_of v past) { waiting = v.waiting ++ q ∷ [] })) ha hb hc
    where
      tests : (a a' b b' c c' : Bool) (turn : Turn Msg) → a ≡ a' → b ≡ b' → c ≡ c' →
          cond (not a) (Dropped BadRequest) (cond b (Dropped Known) (cond (not c) (Dropped Why_out_of_window) (Taken turn))) ≡ cond (not a') (Dropped BadRequest) (cond b' (Dropped Known) (cond (not c') (Dropped Why_out_of_window) (Taken turn)))
      tests a a' b b' c c' turn ha hb hc = rw (ha, hb, hc) refl

  -- If only requests and early messages change, and stay sound, the state still refines its history.
  module _ (w : StateView M Msg) (rest : w ≡ record v { waiting = w.waiting; early = w.early }) where
    pub moved : IsSoundCore (rules_of v.setup) m v.me.0 (core_of w past) → RefinesPast m refines w past
    moved sound = subst (λ (z : StateView M Msg). RefinesPast m refines z past) (sym rest) (record {
      epoch = tied.epoch;
      log = tied.log;
      chained = tied.chained;
      rests = tied.rests;
      standing = tied.standing;
      start = tied.start;
      begun = tied.begun;
      cells = tied.cells;
      outside = tied.outside;
      hole = tied.hole;
      leading = tied.leading;
      instances = tied.instances;
      accepted = tied.accepted;
      logged = tied.logged;
      flown = tied.flown;
      sound = subst (λ (z : StateView M Msg). IsSoundCore (rules_of v.setup) m v.me.0 (core_of z past)) rest sound;
      keys = tied.keys;
    })

  -- A request that waits.
  pub waits-parts : (q : Request) (w : StateView M Msg) → w ≡ record v { waiting = v.waiting ++ q ∷ [] } → (rules_of v.setup).signed q ≡ true → is_known (rules_of v.setup) m v.me.0 (core_of v past) q.id ≡ false →
      (rules_of v.setup).inside (before_own (rules_of v.setup) m v.me.0 past) past.epoch q.id ≡ true → RefinesBareCore m refines w (record (core_of v past) { waiting = v.waiting ++ q ∷ [] })
  waits-parts q w is signed unknown inside =
      let sound : IsSoundCore (rules_of v.setup) m v.me.0 (record (core_of v past) { waiting = v.waiting ++ q ∷ [] }) =
      requested-sound (formats_of v.setup m) (rules_of v.setup) m v.me.0 (core_of v past) q (unchanged (record (core_of v past) { waiting = v.waiting ++ q ∷ [] })) tied.sound (record { signed = signed; unknown = unknown; inside = inside; is = refl }) in
      subst (λ (z : StateView M Msg). RefinesBareCore m refines z (record (core_of v past) { waiting = v.waiting ++ q ∷ [] })) (sym is)
      (record { core = refl; tied = moved (record v { waiting = v.waiting ++ q ∷ [] }) refl sound })
