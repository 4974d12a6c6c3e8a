-- PBFT without one of its rules (Castro and Liskov, 1999).
use Rattle.std.specs.Prelude.{ℕ, ◌+◌, ◌*◌, ◌==◌, ◌&&◌, Bool, true, not, cond, nat_le, nat_lt, List, [], ◌∷◌, ◌++◌, length, Option, Some, None}
use Rattle.iss_request.specs.declared.ids.Slot.{Slot}
use Rattle.iss_request.specs.declared.requests.Batch.{Batch}
use Rattle.iss_request.specs.declared.requests.Value.{Value}
use Rattle.iss_sb.specs.declared.effects.Claim.{Claim}
use Rattle.iss_sb.specs.declared.effects.Input.{Input}
use Rattle.iss_sb.specs.declared.effects.Input.TheVariants.{Cast, Receive, Timeout}
use Rattle.iss_sb.specs.declared.effects.To.{To}
use Rattle.iss_sb.specs.Statements.{claim}
use Rattle.iss_sb.specs.declared.effects.Params.{Params}
use Rattle.iss_sb.specs.Evidence.{Item, Made, Module}
use Rattle.pbft_wire.specs.declared.messages.Certificate.{Certificate}
use Rattle.pbft_wire.specs.declared.messages.Change.{Change}
use Rattle.pbft_wire.specs.declared.messages.Body.{Body}
use Rattle.pbft_wire.specs.declared.messages.Body.TheVariants.{NewView}
use Rattle.pbft_wire.specs.declared.messages.Message.{Message}
use Rattle.pbft_wire.specs.Statements.{digest_of, stated}
use Rattle.pbft_views.specs.Choice.{certificates_of}
use Rattle.pbft_views.specs.Claims.{changes_claims, chosen_claims, claimed_inside}
use Rattle.sb_pbft.specs.Makes.{choice_sigs, inputs, makes}
use Rattle.sb_pbft.specs.Pbft.{asks, decided, pbft}
use Rattle.sb_pbft.specs.Rules.{Ballot, commit_in, lowest, mode, prepare_in, proposal, voters, when}

-- ---- votes are counted, not voters

-- How many of these inputs bring a vote for the digest. `vote_in i k` is the vote of replica k that input i brings.
abbrev pub votes_heard : (Input Message → ℕ → Option Ballot) → List ℕ → ℕ → List (Input Message) → ℕ
votes_heard vote_in digest n [] = 0
votes_heard vote_in digest n (i ∷ l) = length (voters (vote_in i) digest 0 n) + votes_heard vote_in digest n l

-- prepared with 2f Prepares, repetitions included
abbrev pub prepared_by_votes : Params → List (Input Message) → ℕ → ℕ → Option Value → Option Value
prepared_by_votes p l v s None = None
prepared_by_votes p l v s (Some x) =
    when (nat_le (2 * p.setup.f) (votes_heard (λ i k. prepare_in p i v s k) (digest_of p x) p.setup.n l)) x

-- committed with 2f+1 Commits, repetitions included
abbrev pub committed_by_votes : Params → List (Input Message) → ℕ → ℕ → Option Value → Option Value
committed_by_votes p l v s None = None
committed_by_votes p l v s (Some x) =
    when (nat_le (2 * p.setup.f + 1) (votes_heard (λ i k. commit_in p i v s k) (digest_of p x) p.setup.n l)) x

abbrev pub decided_by_votes : Params → ℕ → List (Item Message) → ℕ → Option Value
decided_by_votes p me xs s =
    lowest (λ v. committed_by_votes p (inputs xs) v s
    (prepared_by_votes p (inputs xs) v s (proposal p me (inputs xs) v s))) (mode p (inputs xs)).view

-- PBFT, but a replica delivers once it has heard enough votes, whoever sent them
abbrev pub counting_votes : Module Message
counting_votes = record pbft { decided = decided_by_votes }

-- ---- a new view proposes the value of the lowest certificate

-- whether no certificate of these is for the same slot and of a lower view
abbrev pub is_lowest : List Certificate → Certificate → Bool
is_lowest [] c = true
is_lowest (e ∷ es) c = not ((e.slot.0 == c.slot.0) && nat_lt e.view c.view) && is_lowest es c

abbrev pub lowest_of : List Certificate → List Certificate → List Certificate
lowest_of all [] = []
lowest_of all (c ∷ cs) = cond (is_lowest all c) (c ∷ lowest_of all cs) (lowest_of all cs)

abbrev pub lowered_to : List Certificate → List Change → List Change
lowered_to all [] = []
lowered_to all (x ∷ xs) = record x { certificates = lowest_of all x.certificates } ∷ lowered_to all xs

-- the ViewChanges, each with those of its certificates that are the lowest for their slots
abbrev pub lowered : List Change → List Change
lowered xs = lowered_to (certificates_of xs) xs

-- an input as such a replica reads it
abbrev pub body_seen : Body → Body
body_seen (NewView v xs sigs) = NewView v (lowered xs) sigs
body_seen other = other

abbrev pub seen : Input Message → Input Message
seen (Cast slot batch) = Cast slot batch
seen (Receive from msg) = Receive from (record msg { body = body_seen msg.body })
seen Timeout = Timeout

abbrev pub all_seen : List (Item Message) → List (Item Message)
all_seen [] = []
all_seen (x ∷ xs) = record x { input = seen x.input } ∷ all_seen xs

-- a primary signs PrePrepares for the lowest certificates
abbrev pub body_resigned : Params → ℕ → ℕ → Body → Body
body_resigned p me leaf (NewView v xs sigs) = NewView v xs (choice_sigs p me leaf v (lowered xs) p.slots)
body_resigned p me leaf other = other

abbrev pub resigned : Params → ℕ → ℕ → Message → Message
resigned p me leaf msg = record msg { body = body_resigned p me leaf msg.body }

abbrev pub resign_all : Params → ℕ → ℕ → List (To × Message) → List (To × Message)
resign_all p me leaf [] = []
resign_all p me leaf (m ∷ ms) = (m.0, resigned p me leaf m.1) ∷ resign_all p me leaf ms

abbrev pub makes_seen : Params → ℕ → List (Item Message) → Input Message → ℕ → Made Message
makes_seen p me xs i leaf =
    let made = makes p me (all_seen xs) (seen i) leaf in
    record made { sends = resign_all p me leaf made.sends }

-- and a NewView claims these signatures
abbrev pub inside_seen : Params → ℕ → Body → List Claim → List Claim
inside_seen p by (NewView v xs sigs) others =
    changes_claims p xs ++ (chosen_claims p by v (lowered xs) p.slots sigs ++ others)
inside_seen p by other others = claimed_inside p by other others

abbrev pub claims_seen : Params → ℕ → Message → List Claim
claims_seen p by msg = inside_seen p by msg.body (claim by (stated p msg.body) msg.sig ∷ [])

abbrev pub asks_seen : Params → ℕ → List (Item Message) → Input Message → Option (Slot × Batch)
asks_seen p me xs i = asks p me (all_seen xs) (seen i)

abbrev pub decided_seen : Params → ℕ → List (Item Message) → ℕ → Option Value
decided_seen p me xs s = decided p me (all_seen xs) s

-- PBFT, but a new view begins with the value of the certificate of the lowest view
abbrev pub by_the_lowest : Module Message
by_the_lowest = record pbft { claims = claims_seen; asks = asks_seen; makes = makes_seen; decided = decided_seen }
