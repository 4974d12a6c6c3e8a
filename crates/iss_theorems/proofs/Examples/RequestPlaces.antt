-- Computed runs: where a request is from the event that accepts it.
use Rattle.std.proofs.Common.{◌≡◌, ℕ, List, [], ◌∷◌, inl, inr, refl}
use Rattle.iss_request.specs.declared.ids.ReqId.{ReqId}
use Rattle.iss_schedule.specs.declared.schedules.Event.{Event}
use Rattle.iss_schedule.specs.declared.schedules.Event.TheVariants.{Request as Event_request, Propose, Timeout as Event_timeout, Calm}
use Rattle.iss_theorems.specs.Conserved.{IsInOnePlace, WasAsked, first, second, third}
use Rattle.iss_model.specs.Node.{Core}
use Rattle.iss_model.specs.Run.{begin_run, failure_free}
use Rattle.iss_model.specs.Driver.{run}
use Rattle.iss_model.proofs.Example.{Word, easy, plain, short, telling}

abbrev x : ReqId
x = record { client = 0; number = 0 }

core : List Event → ℕ → Core Word
core events i = (run (failure_free plain short easy telling) (begin_run plain) events).state.net.cores i

abbrev asks : Event
asks = Event_request 0 0 0 (170 ∷ [])

-- it was accepted, also if it is asked for again later
taken : WasAsked (failure_free plain short easy telling) (begin_run plain) (asks ∷ Propose 0 ∷ asks ∷ []) 0 x
taken = inl (inl refl)

-- by node 0 alone
not_taken : WasAsked (failure_free plain short easy telling) (begin_run plain) (asks ∷ Propose 0 ∷ asks ∷ []) 1 x → ⊥
not_taken (inl h) = h
not_taken (inr (inl h)) = h
not_taken (inr (inr (inl h))) = h
not_taken (inr (inr (inr h))) = h

-- it waits
waits : IsInOnePlace easy telling 0 (core (asks ∷ []) 0) x
unfolding core
waits = second (λ h. h) (inl refl) (λ h. h)

-- it is in flight
flies : IsInOnePlace easy telling 0 (core (asks ∷ Propose 0 ∷ asks ∷ []) 0) x
unfolding core
flies = third (λ h. h) (λ h. h) (inl refl)

-- it is in the log
ordered : IsInOnePlace easy telling 0 (core (asks ∷ Propose 0 ∷ Calm 10 ∷ []) 0) x
unfolding core
ordered = first (inl refl) (λ h. h) (λ h. h)

-- or its slot became nil, and it waits again
returned : IsInOnePlace easy telling 0 (core (asks ∷ Propose 0 ∷ Event_timeout 0 (record { 0 = 0 }) ∷ []) 0) x
unfolding core
returned = second (λ h. h) (inl refl) (λ h. h)

-- as it does in the next epoch, in which another node owns its bucket
abbrev next_epoch : List Event
next_epoch = asks ∷ Propose 0 ∷ Event_timeout 0 (record { 0 = 0 }) ∷ Propose 1 ∷ Propose 2 ∷ Calm 10 ∷ Propose 0 ∷ Calm 10 ∷ []

waits_on : IsInOnePlace easy telling 0 (core next_epoch 0) x
unfolding core
waits_on = second (λ h. h) (inl refl) (λ h. h)

is_next : (core next_epoch 0).past.epoch ≡ 1
unfolding core
is_next = refl
