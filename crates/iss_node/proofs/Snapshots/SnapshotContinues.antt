-- A node that continues with a snapshot refines what the model reads of it.
use Rattle.std.proofs.Common.{arith, ◌≡◌, ℕ, ◌+◌, ◌-◌, ◌==◌, Bool, true, false, cond, nat_le, List, [], ◌++◌, length, reverse, Option, Some, None, Result, Ok, Err, refl, sym, ap, ◌∙◌, subst}
use Rattle.std.specs.Prelude.{IfOk, IfSome, option_map}
use Rattle.iss_base.proofs.Lists.{and-true, is-eq, none-some, some-injective}
use Rattle.iss_checkpoint.specs.declared.votes.Cert.{Cert}
use Rattle.iss_model.specs.Frames.{Frame, frame_of}
use Rattle.iss_model.specs.Node.{Core, Early as Kept_early, early_most}
use Rattle.iss_node.proofs.Snapshots.EpochsAreAdopted.{adopts-count, begun-empty}
use Rattle.iss_node.proofs.Snapshots.PartsAreTaken.{refill-keeps}
use Rattle.iss_node.proofs.Steps.EntriesAreKept.{saved-held}
use Rattle.iss_node.proofs.Steps.SavedAfter.{saved-after}
use Rattle.iss_node.specs.Internal.Rebuilding.{AreTaken, HasBegun, IsEmptied, IsReadAs, IsWhole, continues, kept_early}
use Rattle.iss_node.specs.Internal.Shape.{AreFrom}
use Rattle.iss_node.specs.Rebuilding.{HasRead}
use Rattle.iss_node.specs.Saved.{HasSaved, SavedState, saved_of}
use Rattle.iss_node.specs.State.{StateRefinesCore, StateView, seen_early}
use Rattle.iss_node.specs.Steps.{IsLater, IsSameNode}
use Rattle.iss_node.specs.declared.answers.Early.{Early}
use Rattle.iss_rebuilt.specs.Reading.{Rebuilt, adopts_epochs, continued, early_each, keeps_packets, reads_snapshot, takes_requests, takes_votes}
use Rattle.iss_rebuilt.specs.Stored.{Saved, saved_after}
use Rattle.iss_request.specs.declared.ids.NodeId.{NodeId}
use Rattle.iss_request.specs.declared.setups.Setup.{Setup}
use Rattle.iss_rules.specs.Concrete.{rules_of}
use Rattle.iss_rules.specs.Past.{Past, is_complete}
use Rattle.iss_sb.specs.Evidence.{Item, Module}
use Rattle.iss_sb.specs.declared.effects.Params.{Params}
use Rattle.iss_snapshot.specs.declared.snapshots.Snapshot.{Snapshot}

-- ---- the tests

-- A snapshot that does not continue those before is refused.
pub not-continued : {M Msg : Type 0} (m : Module Msg) (refines : M → Params → ℕ → List (Item Msg) → Type 0) (W : Frame Msg) (me : ℕ) (r : Rebuilt Msg) (s : Snapshot) (w : StateView M Msg) →
    continues W r.saved s ≡ false → IsReadAs m refines (reads_snapshot W me r s) w None
not-continued m refines W me r s w q = subst (λ (b : Bool). IsReadAs m refines (cond b (rest W me r s) None) w None) (sym q) tt
  where
    rest : {Msg : Type 0} (W : Frame Msg) (me : ℕ) (r : Rebuilt Msg) (s : Snapshot) → Option (Rebuilt Msg)
    rest W me r s = keeps_packets (saved_after r.saved s) (early_each W s.to.0 s.early) (takes_votes W s.votes (takes_requests W me s.waiting (Some (continued r s))))

pub begins-there : {Msg : Type 0} (W : Frame Msg) (saved : Saved) (s : Snapshot) → continues W saved s ≡ true → s.from.0 ≡ saved.from
begins-there W saved s q = is-eq s.from.0 saved.from (and-true (s.from.0 == saved.from) _ q).0

-- ---- the parts

keeps-none : {Msg : Type 0} (saved : Saved) (xs : Option (List (Kept_early Msg))) → keeps_packets saved xs None ≡ None
keeps-none saved None = refl
keeps-none saved (Some xs) = refl

module _ {M Msg : Type 0} (m : Module Msg) (refines : M → Params → ℕ → List (Item Msg) → Type 0) (v : StateView M Msg) (r : Rebuilt Msg) (s : Snapshot) where
  abbrev W : Frame Msg
  W = frame_of v.setup m

  abbrev taken : Option (Core Msg)
  taken = takes_votes W s.votes (takes_requests W v.me.0 s.waiting (Some (continued r s)))

  abbrev rest : Option (Core Msg) → Option (Rebuilt Msg)
  rest o = keeps_packets (saved_after r.saved s) (early_each W s.to.0 s.early) o

  reads-on : continues W r.saved s ≡ true → reads_snapshot W v.me.0 r s ≡ rest taken
  reads-on q = ap (λ (b : Bool). cond b (rest taken) None) q

  -- A request or vote that is dropped.
  pub not-refilled : (w : StateView M Msg) → continues W r.saved s ≡ true → AreTaken m refines taken w false → IsReadAs m refines (reads_snapshot W v.me.0 r s) w None
  not-refilled w q h = go taken refl h
    where
      go : (o : Option (Core Msg)) → taken ≡ o → AreTaken m refines o w false → IsReadAs m refines (reads_snapshot W v.me.0 r s) w None
      go None is k =
          subst (λ (x : Option (Rebuilt Msg)). IsReadAs m refines x w None)
          (sym (reads-on q ∙ (ap (λ (o : Option (Core Msg)). rest o) is ∙ keeps-none (saved_after r.saved s) (early_each W s.to.0 s.early)))) tt
      go (Some c) is k = absurd k

  -- What is read after all were taken.
  module _ (h : HasRead m refines v r) (whole : IsWhole v.setup.epoch s) (q : continues W r.saved s ≡ true) (w : StateView M Msg) (setup : w.setup ≡ v.setup) (me : w.me ≡ v.me)
      (saved : saved_of w.saved ≡ saved_after r.saved s) (lasts : is_complete (rules_of v.setup) m v.me.0 (adopts_epochs r.core.past s.epochs) ≡ false) where
    -- The epoch is the one where the snapshot ends.
    ends-there : (adopts_epochs r.core.past s.epochs).epoch ≡ s.to.0
    ends-there =
        let n = adopts-count r.core.past s.epochs in
        let from = begins-there W r.saved s q in
        let at = h.epoch in
        let count = whole.count in
        let above = whole.above in
        omega (arith, n, from, at, count, above)

    has-read : (c : Core Msg) (xs : List (Kept_early Msg)) → taken ≡ Some c → StateRefinesCore m refines w c →
        HasRead m refines w (record { core = record c { early = xs }; saved = saved_after r.saved s })
    has-read c xs is k =
        let same = refill-keeps W v.me.0 s.waiting s.votes (continued r s) c is in
        record {
          core = subst (λ (ys : List (Kept_early Msg)). StateRefinesCore m refines w (record c { early = ys })) same.early k;
          saved = saved;
          epoch = ap (λ (p : _). p.epoch) same.past ∙ ends-there;
          unfinished =
              ap (λ (p : _). is_complete (rules_of w.setup) m w.me.0 p) same.past
              ∙ (ap (λ (x : Setup). is_complete (rules_of x) m w.me.0 (adopts_epochs r.core.past s.epochs)) setup
              ∙ (ap (λ (i : NodeId). is_complete (rules_of v.setup) m i.0 (adopts_epochs r.core.past s.epochs)) me ∙ lasts));
          landed = same.flight;
        }

    -- The packets are of that epoch.
    same-packets : (c : Core Msg) → taken ≡ Some c → StateRefinesCore m refines w c → kept_early (early_each (frame_of w.setup m) w.epoch s.early) ≡ kept_early (early_each W s.to.0 s.early)
    same-packets c is k =
        ap (λ (x : Setup). kept_early (early_each (frame_of x m) w.epoch s.early)) setup
        ∙ ap (λ (e : ℕ). kept_early (early_each W e s.early))
        (k.state.tied.epoch ∙ (ap (λ (p : _). p.epoch) (refill-keeps W v.me.0 s.waiting s.votes (continued r s) c is).past ∙ ends-there))

    pub refilled : (early : Option (List (Early Msg))) → AreTaken m refines taken w true →
        option_map (λ (xs : List (Early Msg)). seen_early xs) early ≡ kept_early (early_each (frame_of w.setup m) w.epoch s.early) → ((xs : List (Early Msg)) → early ≡ Some xs → AreFrom w.setup.n xs) →
        IsReadAs m refines (reads_snapshot W v.me.0 r s) w early
    refilled early t kept from =
        go taken refl t
      where
        done : (c : Core Msg) (early : Option (List (Early Msg))) (xs : List (Kept_early Msg)) (b : Bool) → taken ≡ Some c → StateRefinesCore m refines w c →
            ((ys : List (Early Msg)) → early ≡ Some ys → AreFrom w.setup.n ys) → option_map (λ (ys : List (Early Msg)). seen_early ys) early ≡ cond b (Some xs) None →
            IsReadAs m refines (cond b (Some (record { core = record c { early = xs }; saved = saved_after r.saved s })) None) w early
        done c None xs true is k from e = absurd (none-some xs e)
        done c None xs false is k from e = tt
        done c (Some ys) xs true is k from e = (has-read c xs is k, some-injective (seen_early ys) xs e, from ys refl)
        done c (Some ys) xs false is k from e = absurd (none-some (seen_early ys) (sym e))

        packets : (c : Core Msg) (o : Option (List (Kept_early Msg))) → taken ≡ Some c → StateRefinesCore m refines w c →
            option_map (λ (ys : List (Early Msg)). seen_early ys) early ≡ kept_early o → IsReadAs m refines (keeps_packets (saved_after r.saved s) o (Some c)) w early
        packets c None is k e = done c early [] false is k from e
        packets c (Some xs) is k e = done c early xs (nat_le (length xs) early_most) is k from e

        go : (o : Option (Core Msg)) → taken ≡ o → AreTaken m refines o w true → IsReadAs m refines (reads_snapshot W v.me.0 r s) w early
        go None is k = absurd k
        go (Some c) is k =
            subst (λ (x : Option (Rebuilt Msg)). IsReadAs m refines x w early) (sym (reads-on q ∙ ap (λ (o : Option (Core Msg)). rest o) is))
            (packets c (early_each W s.to.0 s.early) is k (kept ∙ same-packets c is k))

-- ---- the result

pub read-result : {A E Msg : Type 0} (items : A → List (Early Msg)) (x : Result (Option A) E) (kept : Option (List (Kept_early Msg))) (n : ℕ) (Q : Option (List (Early Msg)) → Type 0) →
    IfOk x (λ o. option_map (λ a. seen_early (items a)) o ≡ kept) → IfOk x (λ o. IfSome o (λ a. AreFrom n (items a))) →
    ((early : Option (List (Early Msg))) → option_map (λ (xs : List (Early Msg)). seen_early xs) early ≡ kept → ((xs : List (Early Msg)) → early ≡ Some xs → AreFrom n xs) → Q early) →
    IfOk x (λ o. Q (option_map items o))
read-result items (Err e) kept n Q h k f = tt
read-result items (Ok None) kept n Q h k f = f None h (λ xs q. absurd (none-some xs q))
read-result {Msg = Msg} items (Ok (Some a)) kept n Q h k f = f (Some (items a)) h (λ xs q. subst (λ (ys : List (Early Msg)). AreFrom n ys) (some-injective (items a) xs q) k)

-- ---- the whole snapshot

module _ {M Msg : Type 0} (m : Module Msg) (refines : M → Params → ℕ → List (Item Msg) → Type 0) (v b a w : StateView M Msg) (s : Snapshot) (whole : IsWhole v.setup.epoch s)
    (old : SavedState) (noted : HasSaved v.saved s.to.0 s.certs old) (begun : HasBegun s.leaf s.certs (record v { saved = old }) b) (same : IsSameNode (record v { saved = old }) b)
    (adopted : (past : Past Msg) (certs : List Cert) (leaf : ℕ) → IsEmptied m refines b past certs leaf → IsEmptied m refines a (adopts_epochs past s.epochs) certs leaf) (later : IsLater b a)
    (full : Bool) (answer : (c : Core Msg) → StateRefinesCore m refines a c → AreTaken m refines (takes_votes (frame_of a.setup m) s.votes (takes_requests (frame_of a.setup m) a.me.0 s.waiting (Some c))) w full)
    (last : IsSameNode a w) (goes : true ≡ continues (frame_of v.setup m) (saved_of v.saved) s) (r : Rebuilt Msg) (h : HasRead m refines v r) where
  a-setup : a.setup ≡ v.setup
  a-setup = later.setup ∙ same.setup

  a-me : a.me ≡ v.me
  a-me = later.me ∙ same.me

  goes-on : continues (frame_of v.setup m) r.saved s ≡ true
  goes-on = ap (λ (x : Saved). continues (frame_of v.setup m) x s) (sym h.saved) ∙ sym goes

  emptied-so : IsEmptied m refines a (adopts_epochs r.core.past s.epochs) (reverse s.certs ++ r.core.certs) s.leaf
  emptied-so =
      adopted r.core.past (reverse s.certs ++ r.core.certs) s.leaf
      (begun-empty m refines (record v { saved = old }) b (record r.core { early = [] }) (saved-held m refines v (record v { saved = old }) (record r.core { early = [] }) refl h.core)
      refl h.landed h.unfinished s.leaf s.certs begun)

  all-taken : AreTaken m refines (taken m refines v r s) w full
  all-taken =
      subst (λ (i : NodeId). AreTaken m refines (takes_votes (frame_of v.setup m) s.votes (takes_requests (frame_of v.setup m) i.0 s.waiting (Some (continued r s)))) w full) a-me
      (subst (λ (x : Setup). AreTaken m refines (takes_votes (frame_of x m) s.votes (takes_requests (frame_of x m) a.me.0 s.waiting (Some (continued r s)))) w full) a-setup
      (answer (continued r s) emptied-so.core))

  saved-so : saved_of w.saved ≡ saved_after r.saved s
  saved-so =
      ap (λ (x : SavedState). saved_of x) (last.saved ∙ (later.saved ∙ same.saved))
      ∙ (saved-after v.saved old s noted ∙ ap (λ (x : Saved). saved_after x s) h.saved)

  unfinished-so : is_complete (rules_of v.setup) m v.me.0 (adopts_epochs r.core.past s.epochs) ≡ false
  unfinished-so =
      sym (ap (λ (x : Setup). is_complete (rules_of x) m a.me.0 (adopts_epochs r.core.past s.epochs)) a-setup
      ∙ ap (λ (i : NodeId). is_complete (rules_of v.setup) m i.0 (adopts_epochs r.core.past s.epochs)) a-me)
      ∙ emptied-so.unfinished

  pub resumed-refused : full ≡ false → IsReadAs m refines (reads_snapshot (frame_of v.setup m) v.me.0 r s) w None
  resumed-refused none = not-refilled m refines v r s w goes-on (subst (λ (t : Bool). AreTaken m refines (taken m refines v r s) w t) none all-taken)

  pub resumed-on : full ≡ true → (early : Option (List (Early Msg))) → option_map (λ (xs : List (Early Msg)). seen_early xs) early ≡ kept_early (early_each (frame_of w.setup m) w.epoch s.early) →
      ((xs : List (Early Msg)) → early ≡ Some xs → AreFrom w.setup.n xs) → IsReadAs m refines (reads_snapshot (frame_of v.setup m) v.me.0 r s) w early
  resumed-on some early kept from =
      refilled m refines v r s h whole goes-on w (last.setup ∙ a-setup) (last.me ∙ a-me) saved-so unfinished-so early
      (subst (λ (t : Bool). AreTaken m refines (taken m refines v r s) w t) some all-taken) kept from
