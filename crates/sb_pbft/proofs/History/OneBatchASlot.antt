-- A replica accepts one batch for a slot: only if it has no proposal of view 0 there, and then it has one.
use Rattle.std.proofs.Common.{◌≡◌, ◌&&◌, ◌∙◌, ℕ, Bool, List, [], ◌∷◌, refl, sym, subst, ap, inl, inr, Option, Some, None}
use Rattle.std.specs.Prelude.{◌==◌}
use Rattle.iss_base.specs.Lists.{In, first_of}
use Rattle.iss_base.proofs.Lists.{some-injective}
use Rattle.iss_request.specs.declared.ids.Slot.{Slot}
use Rattle.iss_request.specs.declared.requests.Batch.{Batch}
use Rattle.iss_request.specs.declared.requests.Value.{Value}
use Rattle.iss_request.specs.declared.requests.Value.TheVariants.{Batch as Value_batch}
use Rattle.iss_sb.specs.declared.effects.Params.{Params}
use Rattle.iss_sb.specs.Calls.{IsGoodParams}
use Rattle.iss_sb.specs.Evidence.{IsReached, Item, Made, World, accepts}
use Rattle.iss_sb.specs.Laws.{AcceptsOnce}
use Rattle.iss_sb.specs.Legal.{AreMade}
use Rattle.iss_sb.proofs.Legal.{legal-reached, once-made}
use Rattle.iss_sb.proofs.Worlds.{accepts-cases}
use Rattle.pbft_wire.specs.declared.messages.Message.{Message}
use Rattle.sb_pbft.specs.Facts.{AreOnce}
use Rattle.sb_pbft.specs.Makes.{inputs}
use Rattle.sb_pbft.specs.Pbft.{pbft}
use Rattle.sb_pbft.specs.Rules.{chosen, mode, offer, offered, proposal, when}
use Rattle.sb_pbft.proofs.History.AcceptedAndDecided.{IsAsked, asked-is}
use Rattle.sb_pbft.proofs.Basics.{is-same}

abbrev IsThere : Option Value → Type 0
IsThere o = (x : Value) × (o ≡ Some x)

first-there : (a b : Option Value) → IsThere b → IsThere (first_of a b)
first-there None b h = h
first-there (Some x) b h = (x, refl)

there-first : (a b : Option Value) → IsThere a → IsThere (first_of a b)
there-first a b h = (h.0, ap (λ (o : Option Value). first_of o b) h.1)

offered-there : (s : Slot) (b : Batch) → IsThere (offered (Some (s, b)) 0 s.0)
offered-there s b = (Value_batch b, ap (λ (t : Bool). when ((0 == 0) && t) (Value_batch b)) (is-same s.0 s.0 refl))

asked-by : (p : Params) (me : ℕ) (y : Item Message) (l : List (Item Message)) (s : Slot) (b : Batch) →
    AreMade pbft p me (y ∷ l) → y.made.accepted ≡ Some (s, b) → IsAsked p me (inputs l) y.input (s, b)
asked-by p me y l s b m e = asked-is p me (inputs l) y.input (s, b) (sym (ap (λ (z : Made Message). z.accepted) m.0) ∙ e)

-- an accepted batch is the proposal
proposed : (p : Params) (me : ℕ) (l : List (Item Message)) → AreMade pbft p me l → (s : Slot) (b : Batch) →
    In {A = Slot × Batch} (s, b) (accepts l) → IsThere (proposal p me (inputs l) 0 s.0)
proposed p me [] m s b i = absurd i
proposed p me (y ∷ l) m s b i =
    first-there (chosen p (mode p (inputs l)) y.input 0 s.0) (first_of (proposal p me (inputs l) 0 s.0) (offered (offer p me (mode p (inputs l)) y.input) 0 s.0))
    (elim (accepts-cases y l (s, b) i) [
      | inl now ↦
          first-there (proposal p me (inputs l) 0 s.0) (offered (offer p me (mode p (inputs l)) y.input) 0 s.0)
          (subst (λ (o : Option (Slot × Batch)). IsThere (offered o 0 s.0)) (sym (asked-by p me y l s b m now).offered) (offered-there s b))
      | inr old ↦
          there-first (proposal p me (inputs l) 0 s.0) (offered (offer p me (mode p (inputs l)) y.input) 0 s.0) (proposed p me l m.1 s b old)
    ])

-- if there is a proposal, nothing is accepted
fresh : (p : Params) (me : ℕ) (y : Item Message) (l : List (Item Message)) (s : Slot) (b c : Batch) →
    AreMade pbft p me (y ∷ l) → y.made.accepted ≡ Some (s, b) → In {A = Slot × Batch} (s, c) (accepts l) → ⊥
fresh p me y l s b c m e i = none-there (proposal p me (inputs l) 0 s.0) (asked-by p me y l s b m e).fresh (proposed p me l m.1 s c i)
  where
    none-there : (o : Option Value) → o ≡ None → IsThere o → ⊥
    none-there None h t = absurd (let wrong = t.1 in cc)
    none-there (Some x) h t = absurd (cc)

once : (p : Params) (me : ℕ) (l : List (Item Message)) → AreMade pbft p me l → (s : Slot) (b c : Batch) →
    In {A = Slot × Batch} (s, b) (accepts l) → In {A = Slot × Batch} (s, c) (accepts l) → b ≡ c
once p me [] m s b c h k = absurd h
once p me (y ∷ l) m s b c h k = elim (accepts-cases y l (s, b) h) [
  | inl q ↦ elim (accepts-cases y l (s, c) k) [
    | inl r ↦ ap (λ (z : Slot × Batch). z.1) (some-injective {A = Slot × Batch} (s, b) (s, c) (sym q ∙ r))
    | inr z ↦ absurd (fresh p me y l s b c m q z)
  ]
  | inr x ↦ elim (accepts-cases y l (s, c) k) [
    | inl r ↦ absurd (fresh p me y l s c b m r x)
    | inr z ↦ once p me l m.1 s b c x z
  ]
]

pub accepted-once : (p : Params) (w : World Message) → IsGoodParams pbft p → IsReached pbft p w → AreOnce p w
accepted-once p w good reached i s b c h k = once p i (w i) ((legal-reached pbft p w reached).made i) s b c h k

pub pbft-accepts-once : AcceptsOnce pbft
pbft-accepts-once = once-made pbft (λ p me xs good made. once p me xs made)
