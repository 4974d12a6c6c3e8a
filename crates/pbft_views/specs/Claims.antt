-- What a message says that nodes have signed, in the order of its bytes: the signatures inside it, and then its own.
use Rattle.std.specs.Prelude.{ℕ, List, [], ◌∷◌, ◌++◌}
use Rattle.iss_request.specs.declared.ids.Slot.{Slot}
use Rattle.iss_sb.specs.declared.effects.Claim.{Claim}
use Rattle.iss_sb.specs.declared.effects.Params.{Params}
use Rattle.iss_sb.specs.Statements.{claim}
use Rattle.pbft_wire.specs.declared.messages.Certificate.{Certificate}
use Rattle.pbft_wire.specs.declared.messages.Change.{Change}
use Rattle.iss_sb.specs.declared.signers.Signed.{Signed}
use Rattle.pbft_wire.specs.declared.messages.Body.{Body}
use Rattle.pbft_wire.specs.declared.messages.Body.TheVariants.{PrePrepare, Prepare, Commit, ViewChange, NewView}
use Rattle.pbft_wire.specs.declared.messages.Message.{Message}
use Rattle.pbft_wire.specs.Statements.{digest_of, state_at, state_change, stated}
use Rattle.pbft_views.specs.Choice.{choice}
use Rattle.pbft_views.specs.Good.{primary}

abbrev pub vote_claims : Params → ℕ → ℕ → List ℕ → List Signed → List Claim
vote_claims p v s d [] = []
vote_claims p v s d (x ∷ xs) = claim x.by.0 (state_at p 2 v s d) x.sig ∷ vote_claims p v s d xs

-- the claims of a certificate: the primary's PrePrepare, and the Prepares
abbrev pub certificate_claims : Params → Certificate → List Claim
certificate_claims p c =
    claim (primary p c.view) (state_at p 1 c.view c.slot.0 (digest_of p c.value)) c.sig ∷
    vote_claims p c.view c.slot.0 (digest_of p c.value) c.prepares

abbrev pub certificates_claims : Params → List Certificate → List Claim
certificates_claims p [] = []
certificates_claims p (c ∷ cs) = certificate_claims p c ++ certificates_claims p cs

abbrev pub change_claims : Params → ℕ → ℕ → List Certificate → List ℕ → List Claim
change_claims p by v cs sig = certificates_claims p cs ++ claim by (state_change p v cs) sig ∷ []

abbrev pub changes_claims : Params → List Change → List Claim
changes_claims p [] = []
changes_claims p (x ∷ xs) = change_claims p x.node.0 x.view x.certificates x.sig ++ changes_claims p xs

-- the k-th signature is on the PrePrepare for the choice at the segment's k-th slot; signatures beyond the slots are
-- no claims
abbrev pub chosen_claims : Params → ℕ → ℕ → List Change → List Slot → List (List ℕ) → List Claim
chosen_claims p by v xs [] sigs = []
chosen_claims p by v xs (s ∷ ss) [] = []
chosen_claims p by v xs (s ∷ ss) (sig ∷ sigs) =
    claim by (state_at p 1 v s.0 (digest_of p (choice xs s.0))) sig ∷ chosen_claims p by v xs ss sigs

-- the claims of the signatures inside a body, before others
abbrev pub claimed_inside : Params → ℕ → Body → List Claim → List Claim
claimed_inside p by (PrePrepare v slot x) others = others
claimed_inside p by (Prepare v slot d) others = others
claimed_inside p by (Commit v slot d) others = others
claimed_inside p by (ViewChange v cs) others = certificates_claims p cs ++ others
claimed_inside p by (NewView v xs sigs) others = changes_claims p xs ++ (chosen_claims p by v xs p.slots sigs ++ others)

-- rule: PBFT: A message claims each signature in it, in the order of its bytes
abbrev pub claims : Params → ℕ → Message → List Claim
claims p by msg = claimed_inside p by msg.body (claim by (stated p msg.body) msg.sig ∷ [])
