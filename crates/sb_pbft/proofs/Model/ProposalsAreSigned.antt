-- A proposal has a signature exactly if it has a value.
use Rattle.std.proofs.Common.{◌≡◌, ◌&&◌, ◌||◌, ◌∷◌, ◌∙◌, ℕ, Bool, true, false, cond, List, [], length, Option, Some, None, refl, sym, ap, arith}
use Rattle.std.proofs.lemmas.Bool.{false≢true}
use Rattle.std.specs.Prelude.{is_some, ◌==◌}
use Rattle.iss_base.specs.Lists.{first_of}
use Rattle.iss_base.proofs.Lists.{and-true}
use Rattle.iss_request.specs.declared.ids.NodeId.{NodeId}
use Rattle.iss_request.specs.declared.ids.Slot.{Slot}
use Rattle.iss_request.specs.declared.requests.Batch.{Batch}
use Rattle.iss_request.specs.declared.requests.Value.TheVariants.{Batch as Value_batch}
use Rattle.iss_sb.specs.Calls.{has_slot}
use Rattle.iss_sb.specs.Evidence.{Item}
use Rattle.iss_sb.specs.declared.effects.Input.TheVariants.{Cast, Receive, Timeout}
use Rattle.iss_sb.specs.declared.effects.Params.{Params}
use Rattle.pbft_wire.specs.declared.messages.Message.{Message}
use Rattle.pbft_wire.specs.declared.messages.Body.{Body}
use Rattle.pbft_wire.specs.declared.messages.Body.TheVariants.{PrePrepare as Pre_prepare_body, Prepare as Prepare_body, Commit as Commit_body, ViewChange as View_change_body, NewView as New_view_body}
use Rattle.pbft_wire.specs.Signed.{signed}
use Rattle.pbft_views.specs.Choice.{choice}
use Rattle.sb_pbft.specs.Makes.{chosen_sig, first_sig, inputs, offered_sig, proposal_sig, sig_for}
use Rattle.sb_pbft.specs.Rules.{Mode, chosen, enters, mode, offer, offered, proposal, when}
use Rattle.sb_pbft.proofs.History.ViewsGrow.{Said, entered}

some-first : {A B : Type 0} (a b : Option A) (c d : Option B) → is_some a ≡ is_some c → is_some b ≡ is_some d →
    is_some (first_of a b) ≡ is_some (first_of c d)
some-first None b None d h g = g
some-first None b (Some y) d h g = absurd (false≢true h)
some-first (Some x) b None d h g = absurd (false≢true (sym h))
some-first (Some x) b (Some y) d h g = refl

has-sig : (s : ℕ) (ss : List Slot) (sigs : List (List ℕ)) → has_slot s ss ≡ true → length sigs ≡ length ss →
    true ≡ is_some (sig_for s ss sigs)
has-sig s [] sigs h n = absurd (false≢true h)
has-sig s (t ∷ ss) [] h n = absurd (omega (arith, n))
has-sig s (t ∷ ss) (sig ∷ sigs) h n = go (t.0 == s) h (λ k. has-sig s ss sigs k (omega (arith, n)))
  where
    go : (b : Bool) → (b || has_slot s ss) ≡ true → (has_slot s ss ≡ true → true ≡ is_some (sig_for s ss sigs)) →
        true ≡ is_some (cond b (Some sig) (sig_for s ss sigs))
    go true k r = refl
    go false k r = r k

module _ (p : Params) (me : ℕ) where
  chosen-signed-heard : (m : Mode) (from : NodeId) (body : Body) (sig : List ℕ) (v s : ℕ) → is_some (chosen p m (Receive from (signed body sig)) v s) ≡ is_some (chosen_sig p m (Receive from (signed body sig)) v s)
  chosen-signed-heard m from (Pre_prepare_body w t x) sig v s = refl
  chosen-signed-heard m from (Prepare_body w t d) sig v s = refl
  chosen-signed-heard m from (Commit_body w t d) sig v s = refl
  chosen-signed-heard m from (View_change_body w cs) sig v s = refl
  chosen-signed-heard m from (New_view_body w xs sigs) sig v s = go ((v == w) && (has_slot s p.slots && enters p m from.0 w xs sigs)) refl
    where
      go : (b : Bool) → ((v == w) && (has_slot s p.slots && enters p m from.0 w xs sigs)) ≡ b →
          is_some (when b (choice xs s)) ≡ is_some (cond b (sig_for s p.slots sigs) None)
      go false q = refl
      go true q =
          let a = and-true (has_slot s p.slots) (enters p m from.0 w xs sigs) (and-true (v == w) _ q).1 in
          has-sig s p.slots sigs a.0 (entered p m from.0 w xs sigs a.1).signed

  pub chosen-signed : (m : Mode) (i : Said) (v s : ℕ) → is_some (chosen p m i v s) ≡ is_some (chosen_sig p m i v s)
  chosen-signed m (Cast t b) v s = refl
  chosen-signed m (Receive from msg) v s = chosen-signed-heard m from msg.body msg.sig v s
  chosen-signed m Timeout v s = refl

  offered-signed : (o : Option (Slot × Batch)) (v s : ℕ) (x : Item Message) →
      is_some (offered o v s) ≡ is_some (offered_sig p me o v s x)
  offered-signed None v s x = refl
  offered-signed (Some a) v s x = go ((v == 0) && (s == a.0.0))
    where
      go : (b : Bool) → is_some (when b (Value_batch a.1)) ≡ is_some (when b (first_sig p me x.leaf a x.input))
      go true = refl
      go false = refl

  pub proposal-signed : (xs : List (Item Message)) (v s : ℕ) →
      is_some (proposal p me (inputs xs) v s) ≡ is_some (proposal_sig p me xs v s)
  proposal-signed [] v s = refl
  proposal-signed (x ∷ xs) v s =
      let m = mode p (inputs xs) in
      let o = offer p me m x.input in
      some-first (chosen p m x.input v s) (first_of (proposal p me (inputs xs) v s) (offered o v s)) (chosen_sig p m x.input v s) (first_of (proposal_sig p me xs v s) (offered_sig p me o v s x))
      (chosen-signed m x.input v s)
      (some-first (proposal p me (inputs xs) v s) (offered o v s) (proposal_sig p me xs v s) (offered_sig p me o v s x) (proposal-signed xs v s) (offered-signed o v s x))

  pub unsigned : (xs : List (Item Message)) (v s : ℕ) → proposal p me (inputs xs) v s ≡ None →
      proposal_sig p me xs v s ≡ None
  unsigned xs v s h = nothing (proposal_sig p me xs v s) (sym (proposal-signed xs v s) ∙ ap is_some h)
    where
      nothing : (o : Option (List ℕ)) → is_some o ≡ false → o ≡ None
      nothing None q = refl
      nothing (Some y) q = absurd (false≢true (sym q))
