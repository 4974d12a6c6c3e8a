-- The code's messages are the model's, one after the other.
use Rattle.std.proofs.Common.{◌≡◌, ◌≢◌, ℕ, suc, ◌+◌, ◌<◌, ◌==◌, Bool, true, cond, List, [], ◌∷◌, ◌++◌, append_assoc, append-nil, refl, sym, subst, ap, ◌∙◌, arith}
use Rattle.iss_base.proofs.Lists.{eqb-other, eqb-same}
use Rattle.iss_request.specs.declared.ids.NodeId.{NodeId}
use Rattle.iss_sb.specs.declared.effects.To.{To}
use Rattle.iss_sb.specs.declared.effects.To.TheVariants.{One as To_one}
use Rattle.iss_sb.specs.Calls.{AreToNodes}
use Rattle.raft_wire.specs.declared.messages.Message.{Message}
use Rattle.sb_raft.specs.Rules.{others, to, to_each}
use Rattle.sb_raft.specs.Refines.{other}

pub other-self : (me k : ℕ) → k ≡ me → other me k ≡ []
other-self me k e = ap (λ (b : Bool). cond b [] (k ∷ [])) (subst (λ (z : ℕ). (k == z) ≡ true) e (eqb-same k))

pub other-else : (me k : ℕ) → k ≢ me → other me k ≡ k ∷ []
other-else me k ne = ap (λ (b : Bool). cond b [] (k ∷ [])) (eqb-other k me ne)

to_each-both : (f : ℕ → Message) (a b : List ℕ) → to_each f (a ++ b) ≡ to_each f a ++ to_each f b
to_each-both f [] b = refl
to_each-both f (k ∷ a) b = ap (λ (z : List (To × Message)). to k (f k) ∷ z) (to_each-both f a b)

module _ (f : ℕ → Message) (me k : ℕ) where
  -- nothing for the node itself
  pub sent-none : (sends : List (To × Message)) → k ≡ me → sends ≡ sends ++ to_each f (other me k)
  sent-none sends e = sym (append-nil sends) ∙ ap (λ (ks : List ℕ). sends ++ to_each f ks) (sym (other-self me k e))

  pub sent-one : (old new : List (To × Message)) (msg : Message) → k ≢ me → msg ≡ f k → new ≡ old ++ to k msg ∷ [] → new ≡ old ++ to_each f (other me k)
  sent-one old new msg ne m e = e ∙ ap (λ (z : Message). old ++ to k z ∷ []) m ∙ ap (λ (ks : List ℕ). old ++ to_each f ks) (sym (other-else me k ne))

  -- for the first nodes, and for the next one
  pub sent-next : (start old new : List (To × Message)) → old ≡ start ++ to_each f (others me k) → new ≡ old ++ to_each f (other me k) → new ≡ start ++ to_each f (others me (k + 1))
  sent-next start old new h e =
      e ∙ ap (λ (z : List (To × Message)). z ++ to_each f (other me k)) h ∙ append_assoc start (to_each f (others me k)) (to_each f (other me k))
      ∙ ap (λ (z : List (To × Message)). start ++ z) (sym (to_each-both f (others me k) (other me k))) ∙ ap (λ (n : ℕ). start ++ to_each f (others me n)) (one-more k)
    where
      one-more : (n : ℕ) → suc n ≡ n + 1
      one-more n = omega arith

pub addressed-more : (n : ℕ) (sends : List (To × Message)) (k : NodeId) (msg : Message) → k.0 < n → AreToNodes n sends → AreToNodes n (sends ++ (To_one k, msg) ∷ [])
addressed-more n [] k msg lt h = (lt, tt)
addressed-more n (x ∷ sends) k msg lt h = (h.0, addressed-more n sends k msg lt h.1)
