-- The outcome of a turn.
use Rattle.std.proofs.Common.{◌≡◌, ℕ, List, [], ◌++◌, Result, Ok, Err, None, ap, sym, ◌∙◌, subst}
use Rattle.std.specs.Prelude.{OnOk}
use Rattle.iss_model.specs.Node.{Core, Turn, then_turn, unchanged}
use Rattle.iss_node.specs.Internal.Epochs.{appended}
use Rattle.iss_node.specs.Steps.{IsMade}
use Rattle.iss_node.specs.declared.answers.Outcome.{Outcome}
use Rattle.iss_sb.specs.Calls.{AreToNodes}
use Rattle.iss_sb.specs.declared.effects.Claim.{Claim}
use Rattle.iss_sb.specs.declared.effects.To.{To}

-- What always holds also holds if the result is Ok.
pub on-ok : {A E : Type 0} (r : Result A E) (P : Type 0) → P → OnOk r P
on-ok (Ok x) P h = h
on-ok (Err e) P h = tt

abbrev pub nothing : Outcome
nothing = record { sends = []; own = []; early = []; hashed = []; entered = None }

-- A turn that changes nothing has an empty outcome.
pub nothing-made : {Msg : Type 0} (c : Core Msg) (o : Outcome) → o ≡ nothing → IsMade (unchanged c) o
nothing-made c o is = record {
  sends = ap (λ (z : Outcome). z.sends) is;
  own = ap (λ (z : Outcome). z.own) is;
  early = ap (λ (z : Outcome). z.early) is;
  hashed = ap (λ (z : Outcome). z.hashed) is;
}

pub nothing-sent : (n : ℕ) (o : Outcome) → o ≡ nothing → AreToNodes n o.sends
nothing-sent n o is = subst (λ (xs : List (To × List ℕ)). AreToNodes n xs) (sym (ap (λ (z : Outcome). z.sends) is)) tt

-- The core does not matter for the outcome.
pub still-made : {Msg : Type 0} (t : Turn Msg) (c : Core Msg) (o : Outcome) → IsMade t o → IsMade (record t { core = c }) o
still-made t c o h = record { sends = h.sends; own = h.own; early = h.early; hashed = h.hashed }

-- The outcome with the claims of an early message.
pub early-made : {Msg : Type 0} (t : Turn Msg) (o p : Outcome) (claims read : List Claim) → claims ≡ read → p ≡ record o { early = claims } → IsMade t o → IsMade (record t { early = read }) p
early-made t o p claims read same is h = record {
  sends = ap (λ (z : Outcome). z.sends) is ∙ h.sends;
  own = ap (λ (z : Outcome). z.own) is ∙ h.own;
  early = ap (λ (z : Outcome). z.early) is ∙ same;
  hashed = ap (λ (z : Outcome). z.hashed) is ∙ h.hashed;
}

-- The outcome of two turns in sequence.
pub both-made : {Msg : Type 0} (t : Turn Msg) (more : Core Msg → Turn Msg) (o p : Outcome) → IsMade t o → IsMade (more t.core) p → IsMade (then_turn t more) (appended o p)
both-made t more o p h k =
    record {
      sends = ap (λ (xs : List (To × List ℕ)). xs ++ p.sends) h.sends ∙ ap (λ (xs : List (To × List ℕ)). t.sends ++ xs) k.sends;
      own = ap (λ (xs : List Claim). xs ++ p.own) h.own ∙ ap (λ (xs : List Claim). t.own ++ xs) k.own;
      early = ap (λ (xs : List Claim). xs ++ p.early) h.early ∙ ap (λ (xs : List Claim). t.early ++ xs) k.early;
      hashed = ap (λ (xs : List (List ℕ)). xs ++ p.hashed) h.hashed ∙ ap (λ (xs : List (List ℕ)). t.strings ++ xs) k.hashed;
    }
