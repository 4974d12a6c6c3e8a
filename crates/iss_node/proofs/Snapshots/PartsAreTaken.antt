-- The requests and votes of a snapshot are taken as the model takes them, up to the first that is dropped.
use Rattle.std.proofs.Common.{◌≡◌, ℕ, suc, Bool, true, false, cond, not, List, [], ◌∷◌, ◌++◌, Option, Some, None, refl, sym, ap, ◌∙◌, subst, Result, Ok, Err}
use Rattle.std.specs.Prelude.{nat_lt, Err, Ok, Result}
use Rattle.iss_checkpoint.specs.declared.votes.Vote.{Vote}
use Rattle.iss_model.specs.Frames.{Frame, frame_of}
use Rattle.iss_model.specs.Node.{Core, Dropped, Stepped, is_counted, is_known, takes_request, takes_vote}
use Rattle.iss_node.proofs.Instances.ChecksRefine.{goes-trans, later-refl}
use Rattle.iss_node.proofs.Steps.VotesDoNotMatter.{held-step, request-held}
use Rattle.iss_node.specs.Internal.Rebuilding.{AreTaken, was_taken}
use Rattle.iss_node.specs.State.{StateRefinesCore, StateView}
use Rattle.iss_node.specs.Steps.{IsHeldStep, IsHeldStepOf, IsLater, IsSameNode, IsStepOf}
use Rattle.iss_rebuilt.specs.Reading.{core_of_step, takes_requests, takes_votes}
use Rattle.iss_node.specs.declared.answers.Outcome.{Outcome}
use Rattle.iss_request.specs.declared.ids.NodeId.{NodeId}
use Rattle.iss_request.specs.declared.requests.Request.{Request}
use Rattle.iss_request.specs.declared.setups.Setup.{Setup}
use Rattle.iss_rules.specs.Concrete.{rules_of}
use Rattle.iss_rules.specs.Past.{before_own}
use Rattle.iss_rules.specs.Votes.{all_verify, claim_of_vote}
use Rattle.iss_rules.specs.declared.events.Why.{Why}
use Rattle.iss_sb.specs.Evidence.{Item, Module}
use Rattle.iss_sb.specs.declared.effects.Params.{Params}

-- ---- one after the other

-- one more step, if all before were taken
abbrev pub then_step : {Msg : Type 0} → Option (Core Msg) → (Core Msg → Stepped Msg) → Option (Core Msg)
then_step None step = None
then_step (Some c) step = core_of_step (step c)

no-request : {Msg : Type 0} (W : Frame Msg) (me : ℕ) (qs : List Request) → takes_requests W me qs None ≡ None
no-request W me [] = refl
no-request W me (q ∷ qs) = refl

pub no-vote : {Msg : Type 0} (W : Frame Msg) (vs : List Vote) → takes_votes W vs None ≡ None
no-vote W [] = refl
no-vote W (v ∷ vs) = refl

pub requests-more : {Msg : Type 0} (W : Frame Msg) (me : ℕ) (done : List Request) (q : Request) (rest : List Request) (o : Option (Core Msg)) →
    takes_requests W me (done ++ q ∷ rest) o ≡ takes_requests W me rest (then_step (takes_requests W me done o) (λ c. takes_request W.rules W.spec me c q))
requests-more W me done q rest None = no-request W me (done ++ q ∷ rest) ∙ (sym (no-request W me rest) ∙ ap (λ x. takes_requests W me rest (then_step x (λ c. takes_request W.rules W.spec me c q))) (sym (no-request W me done)))
requests-more W me [] q rest (Some c) = refl
requests-more W me (x ∷ done) q rest (Some c) = requests-more W me done q rest (core_of_step (takes_request W.rules W.spec me c x))

pub votes-more : {Msg : Type 0} (W : Frame Msg) (done : List Vote) (v : Vote) (rest : List Vote) (o : Option (Core Msg)) →
    takes_votes W (done ++ v ∷ rest) o ≡ takes_votes W rest (then_step (takes_votes W done o) (λ c. takes_vote W.rules c v))
votes-more W done v rest None = no-vote W (done ++ v ∷ rest) ∙ (sym (no-vote W rest) ∙ ap (λ x. takes_votes W rest (then_step x (λ c. takes_vote W.rules c v))) (sym (no-vote W done)))
votes-more W [] v rest (Some c) = refl
votes-more W (x ∷ done) v rest (Some c) = votes-more W done v rest (core_of_step (takes_vote W.rules c x))

-- ---- at a node

module _ {M Msg : Type 0} (m : Module Msg) (refines : M → Params → ℕ → List (Item Msg) → Type 0) where
  pub step-taken : (v w : StateView M Msg) (o : Option (Core Msg)) (step : Core Msg → Stepped Msg) (asked : Type 0) (a : Result Outcome Why) → AreTaken m refines o v true →
      ((c : Core Msg) → StateRefinesCore m refines v c → IsHeldStep m refines asked c (step c) w a) → AreTaken m refines (then_step o step) w (was_taken a)
  step-taken v w None step asked a h all = absurd h
  step-taken v w (Some c) step asked (Ok o) h all =
      let k = all c h in
      subst (λ (s : Stepped Msg). AreTaken m refines (core_of_step s) w true) (sym k.step_is) k.turned.refined
  step-taken v w (Some c) step asked (Err why) h all =
      let k = all c h in
      subst (λ (s : Stepped Msg). AreTaken m refines (core_of_step s) w false) (sym k.step_is) tt

  -- one that is refused leads to nothing
  refused-none : (o : Option (Core Msg)) (w : StateView M Msg) → AreTaken m refines o w false → o ≡ None
  refused-none None w h = refl
  refused-none (Some c) w h = absurd h

  module _ (v now w : StateView M Msg) (same : IsSameNode v now) where
    setup-same : now.setup ≡ v.setup
    setup-same = same.setup

    -- a request
    pub request-taken : (later : IsLater now w) (done : List Request) (q : Request) (c : Core Msg) (a : Result Outcome Why) →
        IsStepOf m refines now (λ F R me d. takes_request R m me d q) w a →
        AreTaken m refines (takes_requests (frame_of v.setup m) v.me.0 done (Some c)) now true →
        AreTaken m refines (then_step (takes_requests (frame_of v.setup m) v.me.0 done (Some c)) (λ d. takes_request (rules_of v.setup) m v.me.0 d q)) w (was_taken a)
    request-taken later done q c a answer h =
        let held = held-step m refines now w later (λ F R me d. takes_request R m me d q) (Unit {0}) a (λ F R me votes certs d. request-held F R m me votes certs q d) answer in
        step-taken now w (takes_requests (frame_of v.setup m) v.me.0 done (Some c)) (λ d. takes_request (rules_of v.setup) m v.me.0 d q) (Unit {0}) a h
        (λ d k. subst (λ (i : NodeId). IsHeldStep m refines (Unit {0}) d (takes_request (rules_of v.setup) m i.0 d q) w a) same.me
        (subst (λ (s : Setup). IsHeldStep m refines (Unit {0}) d (takes_request (rules_of s) m now.me.0 d q) w a) same.setup (held d k)))

    -- a vote
    pub vote-taken : (done : List Vote) (vote : Vote) (c : Core Msg) (a : Result Outcome Why) →
        IsHeldStepOf m refines (Unit {0}) now (λ F R me d. takes_vote R d vote) w a →
        AreTaken m refines (takes_votes (frame_of v.setup m) done (Some c)) now true →
        AreTaken m refines (then_step (takes_votes (frame_of v.setup m) done (Some c)) (λ d. takes_vote (rules_of v.setup) d vote)) w (was_taken a)
    vote-taken done vote c a answer h =
        step-taken now w (takes_votes (frame_of v.setup m) done (Some c)) (λ d. takes_vote (rules_of v.setup) d vote) (Unit {0}) a h
        (λ d k. subst (λ (s : Setup). IsHeldStep m refines (Unit {0}) d (takes_vote (rules_of s) d vote) w a) same.setup (answer d k))

  -- The first request that is dropped ends it.
  pub request-dropped : (W : Frame Msg) (me : ℕ) (all done : List Request) (q : Request) (rest : List Request) (c : Core Msg) (w : StateView M Msg) → all ≡ done ++ q ∷ rest →
      AreTaken m refines (then_step (takes_requests W me done (Some c)) (λ d. takes_request W.rules W.spec me d q)) w false → AreTaken m refines (takes_requests W me all (Some c)) w false
  request-dropped W me all done q rest c w is h =
      let o = then_step (takes_requests W me done (Some c)) (λ d. takes_request W.rules W.spec me d q) in
      let none : takes_requests W me all (Some c) ≡ None =
      ap (λ (qs : List Request). takes_requests W me qs (Some c)) is
      ∙ (requests-more W me done q rest (Some c) ∙ (ap (λ (x : Option (Core Msg)). takes_requests W me rest x) (refused-none o w h) ∙ no-request W me rest)) in
      subst (λ (x : Option (Core Msg)). AreTaken m refines x w false) (sym none) tt

  pub vote-dropped : (W : Frame Msg) (all done : List Vote) (v : Vote) (rest : List Vote) (c : Core Msg) (w : StateView M Msg) → all ≡ done ++ v ∷ rest →
      AreTaken m refines (then_step (takes_votes W done (Some c)) (λ d. takes_vote W.rules d v)) w false → AreTaken m refines (takes_votes W all (Some c)) w false
  vote-dropped W all done v rest c w is h =
      let o = then_step (takes_votes W done (Some c)) (λ d. takes_vote W.rules d v) in
      let none : takes_votes W all (Some c) ≡ None =
      ap (λ (vs : List Vote). takes_votes W vs (Some c)) is
      ∙ (votes-more W done v rest (Some c) ∙ (ap (λ (x : Option (Core Msg)). takes_votes W rest x) (refused-none o w h) ∙ no-vote W rest)) in
      subst (λ (x : Option (Core Msg)). AreTaken m refines x w false) (sym none) tt

  -- Else the next one is tried.
  no-more : (W : Frame Msg) (me : ℕ) (o : Option (Core Msg)) → takes_requests W me [] o ≡ o
  no-more W me None = refl
  no-more W me (Some c) = refl

  no-votes-more : (W : Frame Msg) (o : Option (Core Msg)) → takes_votes W [] o ≡ o
  no-votes-more W None = refl
  no-votes-more W (Some c) = refl

  pub request-next : (W : Frame Msg) (me : ℕ) (done : List Request) (q : Request) (c : Core Msg) (w : StateView M Msg) →
      AreTaken m refines (then_step (takes_requests W me done (Some c)) (λ d. takes_request W.rules W.spec me d q)) w true → AreTaken m refines (takes_requests W me (done ++ q ∷ []) (Some c)) w true
  request-next W me done q c w h =
      subst (λ (x : Option (Core Msg)). AreTaken m refines x w true)
      (sym (requests-more W me done q [] (Some c) ∙ no-more W me (then_step (takes_requests W me done (Some c)) (λ d. takes_request W.rules W.spec me d q)))) h

  pub vote-next : (W : Frame Msg) (done : List Vote) (v : Vote) (c : Core Msg) (w : StateView M Msg) →
      AreTaken m refines (then_step (takes_votes W done (Some c)) (λ d. takes_vote W.rules d v)) w true → AreTaken m refines (takes_votes W (done ++ v ∷ []) (Some c)) w true
  vote-next W done v c w h =
      subst (λ (x : Option (Core Msg)). AreTaken m refines x w true)
      (sym (votes-more W done v [] (Some c) ∙ no-votes-more W (then_step (takes_votes W done (Some c)) (λ d. takes_vote W.rules d v)))) h

  -- ---- both

  pub refill-refused : (W : Frame Msg) (o : Option (Core Msg)) (votes : List Vote) (w : StateView M Msg) → AreTaken m refines o w false → AreTaken m refines (takes_votes W votes o) w false
  refill-refused W o votes w h =
      subst (λ (x : Option (Core Msg)). AreTaken m refines x w false) (sym (ap (λ (x : Option (Core Msg)). takes_votes W votes x) (refused-none o w h) ∙ no-vote W votes)) tt

  pub refill-taken : (W : Frame Msg) (o : Option (Core Msg)) (votes : List Vote) (mid w : StateView M Msg) (b : Bool) → AreTaken m refines o mid true →
      ((c : Core Msg) → StateRefinesCore m refines mid c → AreTaken m refines (takes_votes W votes (Some c)) w b) → AreTaken m refines (takes_votes W votes o) w b
  refill-taken W None votes mid w b h all = absurd h
  refill-taken W (Some c) votes mid w b h all = all c h

-- ---- what a core keeps when it takes requests and votes

pub record IsSamePast {Msg : Type 0} (c d : Core Msg) : Type 0 where
  pub past : d.past ≡ c.past
  pub flight : d.flight ≡ c.flight
  pub early : d.early ≡ c.early

past-trans : {Msg : Type 0} (c d e : Core Msg) → IsSamePast c d → IsSamePast d e → IsSamePast c e
past-trans c d e h k = record { past = k.past ∙ h.past; flight = k.flight ∙ h.flight; early = k.early ∙ h.early }

abbrev Keeps : {Msg : Type 0} → Core Msg → Option (Core Msg) → Type 0
Keeps c None = Unit {0}
Keeps c (Some d) = IsSamePast c d

keeps-test : {Msg : Type 0} (c : Core Msg) (b : Bool) (why : Why) (s : Stepped Msg) → Keeps c (core_of_step s) → Keeps c (core_of_step (cond b (Dropped why) s))
keeps-test c true why s h = tt
keeps-test c false why s h = h

module _ {Msg : Type 0} (W : Frame Msg) (me : ℕ) where
  request-keeps : (c : Core Msg) (q : Request) → Keeps c (core_of_step (takes_request W.rules W.spec me c q))
  request-keeps c q =
      keeps-test c (not (W.rules.signed q)) _ _
      (keeps-test c (is_known W.rules W.spec me c q.id) _ _
      (keeps-test c (not (W.rules.inside (before_own W.rules W.spec me c.past) c.past.epoch q.id)) _ _ (record { past = refl; flight = refl; early = refl })))

  vote-keeps : (c : Core Msg) (v : Vote) → Keeps c (core_of_step (takes_vote W.rules c v))
  vote-keeps c v =
      keeps-test c (nat_lt (suc c.past.epoch) v.epoch.0) _ _
      (keeps-test c (not (all_verify W.rules (claim_of_vote W.rules v ∷ []))) _ _
      (keeps-test c (is_counted c v) _ _ (record { past = refl; flight = refl; early = refl })))

  keeps-on : (c d : Core Msg) (o : Option (Core Msg)) → IsSamePast c d → Keeps d o → Keeps c o
  keeps-on c d None h k = tt
  keeps-on c d (Some e) h k = past-trans c d e h k

  requests-keep : (qs : List Request) (c : Core Msg) (o : Option (Core Msg)) → Keeps c o → Keeps c (takes_requests W me qs o)
  requests-keep qs c None h = subst (λ (x : Option (Core Msg)). Keeps c x) (sym (no-request W me qs)) tt
  requests-keep [] c (Some d) h = h
  requests-keep (q ∷ qs) c (Some d) h = requests-keep qs c (core_of_step (takes_request W.rules W.spec me d q)) (keeps-on c d (core_of_step (takes_request W.rules W.spec me d q)) h (request-keeps d q))

  votes-keep : (vs : List Vote) (c : Core Msg) (o : Option (Core Msg)) → Keeps c o → Keeps c (takes_votes W vs o)
  votes-keep vs c None h = subst (λ (x : Option (Core Msg)). Keeps c x) (sym (no-vote W vs)) tt
  votes-keep [] c (Some d) h = h
  votes-keep (v ∷ vs) c (Some d) h = votes-keep vs c (core_of_step (takes_vote W.rules d v)) (keeps-on c d (core_of_step (takes_vote W.rules d v)) h (vote-keeps d v))

  pub refill-keeps : (qs : List Request) (vs : List Vote) (c d : Core Msg) → takes_votes W vs (takes_requests W me qs (Some c)) ≡ Some d → IsSamePast c d
  refill-keeps qs vs c d q =
      subst (λ (o : Option (Core Msg)). Keeps c o) q
      (votes-keep vs c (takes_requests W me qs (Some c)) (requests-keep qs c (Some c) (record { past = refl; flight = refl; early = refl })))

-- ---- set-up and identity

pub same-trans : {M Msg : Type 0} (v w x : StateView M Msg) → IsSameNode v w → IsSameNode w x → IsSameNode v x
same-trans v w x h g = record { setup = g.setup ∙ h.setup; me = g.me ∙ h.me; saved = g.saved ∙ h.saved; log = goes-trans v.log.entries w.log.entries x.log.entries h.log g.log }

pub same-refl : {M Msg : Type 0} (v : StateView M Msg) → IsSameNode v v
same-refl v = let l = later-refl v in record { setup = l.setup; me = l.me; saved = l.saved; log = l.log }
