-- The laws of single steps hold of PBFT.
use Rattle.std.proofs.Common.{◌≡◌, ◌<◌, ◌≤◌, ◌+◌, ◌*◌, ◌&&◌, ◌++◌, ◌∷◌, ℕ, Bool, true, false, not, cond, List, [], length, Option, Some, None, refl, sym, ap, inl, inr, arith}
use Rattle.std.specs.Prelude.{◌==◌}
use Rattle.iss_base.specs.Lists.{In}
use Rattle.iss_request.specs.declared.ids.NodeId.{NodeId}
use Rattle.iss_request.specs.declared.ids.Slot.{Slot}
use Rattle.iss_request.specs.declared.requests.Batch.{Batch}
use Rattle.iss_request.specs.declared.requests.Value.{Value}
use Rattle.iss_request.specs.declared.requests.Value.TheVariants.{Batch as Value_batch}
use Rattle.iss_sb.specs.Calls.{IsGoodParams}
use Rattle.iss_sb.specs.Evidence.{Item}
use Rattle.iss_sb.specs.Laws.{IsLawful}
use Rattle.iss_sb.specs.declared.effects.Input.{Input}
use Rattle.iss_sb.specs.declared.effects.Input.TheVariants.{Cast, Receive, Timeout}
use Rattle.iss_sb.specs.declared.effects.Params.{Params}
use Rattle.iss_sb.specs.declared.effects.To.{To}
use Rattle.iss_sb.specs.declared.effects.To.TheVariants.{All as To_all, One as To_one}
use Rattle.iss_sb.proofs.Slots.{has_slot-In}
use Rattle.pbft_wire.specs.Statements.{digest_of}
use Rattle.pbft_wire.specs.declared.messages.Message.{Message}
use Rattle.pbft_wire.specs.declared.messages.Body.{Body}
use Rattle.pbft_wire.specs.declared.messages.Body.TheVariants.{PrePrepare as Pre_prepare_body, Prepare as Prepare_body, Commit as Commit_body, ViewChange as View_change_body, NewView as New_view_body}
use Rattle.pbft_wire.specs.Signed.{PrePrepare, Prepare, Commit, ViewChange, NewView, signed}
use Rattle.pbft_views.specs.Choice.{choice}
use Rattle.pbft_views.specs.Good.{primary}
use Rattle.pbft_views.proofs.Claimed.{named}
use Rattle.sb_pbft.specs.Makes.{Draft, DraftNewView, DraftPrePrepare, DraftPrepare, DraftViewChange, answer, by_slot, commit_draft, drafts, first_draft, inputs, kept, lead, ready, sign_all, uses, uses_all}
use Rattle.sb_pbft.specs.Pbft.{pbft}
use Rattle.sb_pbft.specs.Rules.{Mode, asked, changes, completes, enters, mode, passes, proposal}
use Rattle.sb_pbft.proofs.History.AcceptedAndDecided.{asked-is, cast-when, cast_test, decided-is, offer-within, proposal-within}
use Rattle.sb_pbft.proofs.Messages.SentDecodes.{sent-again}
use Rattle.sb_pbft.proofs.Refinement.SettleRefines.{uses-both}

casts : (p : Params) (me : ℕ) (xs : List (Item Message)) (s : Slot) (b : Batch) (x : Slot × Batch) →
    ◌≡◌ {A = Option (Slot × Batch)} (asked p me (inputs xs) (Cast s b)) (Some x) → ◌≡◌ {A = Slot × Batch} x (s, b)
casts p me xs s b x h = sym (cast-when p me (mode p (inputs xs)) s b x (asked-is p me (inputs xs) (Cast s b) x h).offered).is

castable : (p : Params) (me : ℕ) (xs : List (Item Message)) (s : Slot) (b c : Batch) →
    ◌≡◌ {A = Option (Slot × Batch)} (asked p me (inputs xs) (Cast s b)) (Some (s, b)) →
    ◌≡◌ {A = Option (Slot × Batch)} (asked p me (inputs xs) (Cast s c)) (Some (s, c))
castable p me xs s b c h =
    let a = asked-is p me (inputs xs) (Cast s b) (s, b) h in
    let test : cast_test p me (mode p (inputs xs)) s ≡ true = (cast-when p me (mode p (inputs xs)) s b (s, b) a.offered).test in
    let fresh : proposal p me (inputs xs) 0 s.0 ≡ None = a.fresh in
    rw (test, fresh) refl

-- ---- sends and leaves

one-all : (k : NodeId) → To_one k ≡ To_all → ⊥
one-all k h = cc

to-all : (p : Params) (me leaf : ℕ) (ds : List Draft) (k : NodeId) (msg : Message) →
    In {A = To × Message} (To_one k, msg) (sign_all p me leaf ds) → ⊥
to-all p me leaf [] k msg h = h
to-all p me leaf (d ∷ ds) k msg (inl e) = one-all k (ap (λ (z : To × Message). z.0) e)
to-all p me leaf (d ∷ ds) k msg (inr h) = to-all p me (leaf + uses p d) ds k msg h

commit-uses : (p : Params) (v : ℕ) (s : Slot) (o : Option Value) → uses_all p (commit_draft p v s o) ≤ 1
commit-uses p v s None = omega arith
commit-uses p v s (Some x) = omega arith

abbrev answers : Params → ℕ → List (Item Message) → Input Message → Slot → List Draft
answers p me xs i s = answer p me (mode p (inputs xs)) i s

abbrev commit_at : Params → ℕ → List (Item Message) → Input Message → Slot → List Draft
commit_at p me xs i s = commit_draft p (mode p (i ∷ inputs xs)).view s (ready p me (i ∷ inputs xs) (kept p me xs) s.0)

slot-uses : (p : Params) (me : ℕ) (xs : List (Item Message)) (i : Input Message) (s : Slot) (ss : List Slot) →
    uses_all p (by_slot p me xs i (s ∷ ss)) ≤ uses_all p (answers p me xs i s) + 1 + uses_all p (by_slot p me xs i ss)
slot-uses p me xs i s ss =
    let a = uses-both p (answers p me xs i s) (commit_at p me xs i s ++ by_slot p me xs i ss) in
    let b = uses-both p (commit_at p me xs i s) (by_slot p me xs i ss) in
    let c = commit-uses p (mode p (i ∷ inputs xs)).view s (ready p me (i ∷ inputs xs) (kept p me xs) s.0) in
    omega (arith, a, b, c)

-- one signature for each slot, or two
one-a-slot : (p : Params) (me : ℕ) (xs : List (Item Message)) (i : Input Message) (ss : List Slot) →
    ((s : Slot) → answers p me xs i s ≡ []) → uses_all p (by_slot p me xs i ss) ≤ length ss
one-a-slot p me xs i [] none = omega arith
one-a-slot p me xs i (s ∷ ss) none =
    let a = slot-uses p me xs i s ss in
    let b : uses_all p (answers p me xs i s) ≡ 0 = ap (uses_all p) (none s) in
    let c = one-a-slot p me xs i ss none in
    omega (arith, a, b, c)

two-a-slot : (p : Params) (me : ℕ) (xs : List (Item Message)) (i : Input Message) (ss : List Slot) →
    ((s : Slot) → uses_all p (answers p me xs i s) ≤ 1) → uses_all p (by_slot p me xs i ss) ≤ 2 * length ss
two-a-slot p me xs i [] one = omega arith
two-a-slot p me xs i (s ∷ ss) one =
    let a = slot-uses p me xs i s ss in
    let b = one s in
    let c = two-a-slot p me xs i ss one in
    omega (arith, a, b, c)

first-uses : (p : Params) (me : ℕ) (o : Option (Slot × Batch)) → uses_all p (first_draft p me o) ≤ 1
first-uses p me None = omega arith
first-uses p me (Some a) = go (me == p.leader.0)
  where
    go : (t : Bool) → uses_all p (cond t (DraftPrePrepare a.0 (Value_batch a.1)) (DraftPrepare 0 a.0 (digest_of p (Value_batch a.1))) ∷ []) ≤ 1
    go true = omega arith
    go false = omega arith

when-uses : (p : Params) (t : Bool) (d : Draft) → uses_all p (cond t (d ∷ []) []) ≤ uses p d
when-uses p true d = omega arith
when-uses p false d = omega arith

both-uses : (p : Params) (me : ℕ) (xs : List (Item Message)) (i : Input Message) (a b : ℕ) →
    uses_all p (lead p me xs i) ≤ a → uses_all p (by_slot p me xs i p.slots) ≤ b → uses_all p (drafts p me xs i) ≤ a + b
both-uses p me xs i a b h k = let r = uses-both p (lead p me xs i) (by_slot p me xs i p.slots) in omega (arith, r, h, k)

up-to : (p : Params) (ds : List Draft) (a b : ℕ) → uses_all p ds ≤ a + b → a + b ≤ 2 * length p.slots + 1 →
    uses_all p ds ≤ 2 * length p.slots + 1
up-to p ds a b h k = omega (arith, h, k)

drafts-uses-heard : (p : Params) (me : ℕ) (xs : List (Item Message)) (from : NodeId) (body : Body) (sig : List ℕ) →
    uses_all p (drafts p me xs (Receive from (signed body sig))) ≤ 2 * length p.slots + 1
drafts-uses-heard p me xs from (Pre_prepare_body v s x) sig =
    let i : Input Message = Receive from (PrePrepare v s x sig) in
    let l = first-uses p me (asked p me (inputs xs) i) in
    let r = one-a-slot p me xs i p.slots (λ s. refl) in
    let u = both-uses p me xs i 1 (length p.slots) l r in omega (arith, u)
drafts-uses-heard p me xs from (Prepare_body v s d) sig =
    let i : Input Message = Receive from (Prepare v s d sig) in
    let r = one-a-slot p me xs i p.slots (λ s. refl) in
    let u = both-uses p me xs i 0 (length p.slots) (omega arith) r in omega (arith, u)
drafts-uses-heard p me xs from (Commit_body v s d) sig =
    let i : Input Message = Receive from (Commit v s d sig) in
    let r = one-a-slot p me xs i p.slots (λ s. refl) in
    let u = both-uses p me xs i 0 (length p.slots) (omega arith) r in omega (arith, u)
drafts-uses-heard p me xs from (View_change_body v cs) sig =
    let i : Input Message = Receive from (ViewChange v cs sig) in
    let l = when-uses p (completes p me (inputs xs) i v) (DraftNewView v (changes p (i ∷ inputs xs) v)) in
    let r = one-a-slot p me xs i p.slots (λ s. refl) in
    let u = both-uses p me xs i (length p.slots + 1) (length p.slots) l r in omega (arith, u)
drafts-uses-heard p me xs from (New_view_body v ys sigs) sig =
    let i : Input Message = Receive from (NewView v ys sigs sig) in
    let m : Mode = mode p (inputs xs) in
    let r = two-a-slot p me xs i p.slots (λ s. when-uses p (enters p m from.0 v ys sigs && not (me == primary p v)) (DraftPrepare v s (digest_of p (choice ys s.0)))) in
    let u = both-uses p me xs i 0 (2 * length p.slots) (omega arith) r in omega (arith, u)

drafts-uses : (p : Params) (me : ℕ) (xs : List (Item Message)) (i : Input Message) →
    uses_all p (drafts p me xs i) ≤ 2 * length p.slots + 1
drafts-uses p me xs (Cast s b) =
    let l = first-uses p me (asked p me (inputs xs) (Cast s b)) in
    let r = one-a-slot p me xs (Cast s b) p.slots (λ s. refl) in
    let u = both-uses p me xs (Cast s b) 1 (length p.slots) l r in omega (arith, u)
drafts-uses p me xs (Receive from msg) = drafts-uses-heard p me xs from msg.body msg.sig
drafts-uses p me xs Timeout =
    let l = when-uses p (passes (mode p (inputs xs))) (DraftViewChange _ _) in
    let r = one-a-slot p me xs Timeout p.slots (λ s. refl) in
    let u = both-uses p me xs Timeout 1 (length p.slots) l r in omega (arith, u)

few : (p : Params) → IsGoodParams pbft p → 2 * length p.slots + 1 < 65536
few p good = let few : length p.slots ≤ 64 = good.few in omega arith

pub pbft-lawful : IsLawful pbft
pbft-lawful = record {
  names = λ p from msg c h. named p from msg c h;
  accepted = λ p me xs i leaf. refl;
  casts = casts;
  castable = castable;
  asked_within = λ p me xs i x h. has_slot-In x.0 p.slots (offer-within p me (mode p (inputs xs)) i x (asked-is p me (inputs xs) i x h).offered);
  decided_within = λ p me xs s x h. let r = decided-is p me (inputs xs) s.0 x h in has_slot-In s p.slots (proposal-within p me (inputs xs) r.0 s.0 x r.1.prepared.proposed);
  addressed = λ p me xs i leaf k msg good input h. absurd (to-all p me leaf (drafts p me xs i) k msg h);
  read_again = λ p me xs i leaf to msg good below heard hears h. sent-again p good me xs i leaf to msg heard hears h;
  few = few;
  uses = λ p me xs i leaf good input. drafts-uses p me xs i;
}
