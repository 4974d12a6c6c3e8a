-- Each claim of a message names its instance, and comes from a known part of the message.
use Rattle.std.proofs.Common.{◌≡◌, ℕ, List, [], ◌∷◌, ◌++◌, refl, ap, subst, inl, inr}
use Rattle.iss_base.specs.Lists.{In}
use Rattle.iss_base.proofs.Lists.{in_append, in_left, in_right}
use Rattle.iss_request.specs.declared.ids.Slot.{Slot}
use Rattle.iss_sb.specs.declared.effects.Claim.{Claim}
use Rattle.iss_sb.specs.declared.effects.Params.{Params}
use Rattle.iss_sb.specs.Statements.{claim, statement_head, two_bytes}
use Rattle.pbft_wire.specs.declared.messages.Certificate.{Certificate}
use Rattle.pbft_wire.specs.declared.messages.Change.{Change}
use Rattle.iss_sb.specs.declared.signers.Signed.{Signed}
use Rattle.pbft_wire.specs.declared.messages.Body.{Body}
use Rattle.pbft_wire.specs.declared.messages.Body.TheVariants.{PrePrepare, Prepare, Commit, ViewChange, NewView}
use Rattle.pbft_wire.specs.declared.messages.Message.{Message}
use Rattle.pbft_wire.specs.Statements.{digest_of, state_at, stated, statement, tag}
use Rattle.pbft_views.specs.Choice.{choice}
use Rattle.pbft_views.specs.Claims.{certificate_claims, certificates_claims, change_claims, changes_claims, chosen_claims, claimed_inside, claims, vote_claims}
use Rattle.pbft_views.specs.Good.{primary}

-- ---- each claim names its instance

abbrev Named : Params → Claim → Type 0
Named p c = (rest : List ℕ) × (c.statement ≡ statement_head p tag ++ rest)

abbrev AreNamed : Params → List Claim → Type 0
AreNamed p cs = (c : Claim) → In c cs → Named p c

named-none : (p : Params) → AreNamed p []
named-none p c h = absurd h

named-more : (p : Params) (by kind v : ℕ) (fields sig : List ℕ) (cs : List Claim) → AreNamed p cs →
    AreNamed p (claim by (statement p kind v fields) sig ∷ cs)
named-more p by kind v fields sig cs more c (inl e) = (kind ∷ (two_bytes v ++ fields), ap (λ (z : Claim). z.statement) e)
named-more p by kind v fields sig cs more c (inr h) = more c h

named-both : (p : Params) (cs ds : List Claim) → AreNamed p cs → AreNamed p ds → AreNamed p (cs ++ ds)
named-both p cs ds left right c h = elim (in_append c cs ds h) [ inl k ↦ left c k | inr k ↦ right c k ]

votes-named : (p : Params) (v s : ℕ) (d : List ℕ) (xs : List Signed) → AreNamed p (vote_claims p v s d xs)
votes-named p v s d [] = named-none p
votes-named p v s d (x ∷ xs) = named-more p x.by.0 2 v _ x.sig _ (votes-named p v s d xs)

certificates-named : (p : Params) (cs : List Certificate) → AreNamed p (certificates_claims p cs)
certificates-named p [] = named-none p
certificates-named p (c ∷ cs) =
    named-both p (certificate_claims p c) (certificates_claims p cs)
    (named-more p (primary p c.view) 1 c.view _ c.sig _ (votes-named p c.view c.slot.0 (digest_of p c.value) c.prepares))
    (certificates-named p cs)

change-named : (p : Params) (by v : ℕ) (cs : List Certificate) (sig : List ℕ) → AreNamed p (change_claims p by v cs sig)
change-named p by v cs sig = named-both p (certificates_claims p cs) _ (certificates-named p cs) (named-more p by 4 v _ sig [] (named-none p))

changes-named : (p : Params) (xs : List Change) → AreNamed p (changes_claims p xs)
changes-named p [] = named-none p
changes-named p (x ∷ xs) = named-both p (change_claims p x.node.0 x.view x.certificates x.sig) (changes_claims p xs) (change-named p x.node.0 x.view x.certificates x.sig) (changes-named p xs)

chosen-named : (p : Params) (by v : ℕ) (xs : List Change) (ss : List Slot) (sigs : List (List ℕ)) →
    AreNamed p (chosen_claims p by v xs ss sigs)
chosen-named p by v xs [] sigs = named-none p
chosen-named p by v xs (s ∷ ss) [] = named-none p
chosen-named p by v xs (s ∷ ss) (sig ∷ sigs) = named-more p by 1 v _ sig _ (chosen-named p by v xs ss sigs)

-- the sender's own claim
own-named : (p : Params) (by : ℕ) (body : Body) (sig : List ℕ) → AreNamed p (claim by (stated p body) sig ∷ [])
own-named p by (PrePrepare v slot x) sig = named-more p by 1 v _ sig [] (named-none p)
own-named p by (Prepare v slot d) sig = named-more p by 2 v _ sig [] (named-none p)
own-named p by (Commit v slot d) sig = named-more p by 3 v _ sig [] (named-none p)
own-named p by (ViewChange v cs) sig = named-more p by 4 v _ sig [] (named-none p)
own-named p by (NewView v xs sigs) sig = named-more p by 5 v [] sig [] (named-none p)

inside-named : (p : Params) (by : ℕ) (body : Body) (others : List Claim) → AreNamed p others → AreNamed p (claimed_inside p by body others)
inside-named p by (PrePrepare v slot x) others h = h
inside-named p by (Prepare v slot d) others h = h
inside-named p by (Commit v slot d) others h = h
inside-named p by (ViewChange v cs) others h = named-both p (certificates_claims p cs) others (certificates-named p cs) h
inside-named p by (NewView v xs sigs) others h =
    named-both p (changes_claims p xs) _ (changes-named p xs) (named-both p (chosen_claims p by v xs p.slots sigs) others (chosen-named p by v xs p.slots sigs) h)

pub named : (p : Params) (by : ℕ) (msg : Message) → AreNamed p (claims p by msg)
named p by msg = inside-named p by msg.body _ (own-named p by msg.body msg.sig)

-- ---- the origin of claims

-- a claim of certificates is one of a certificate among them
pub claim-certificate : (p : Params) (t : Claim) (cs : List Certificate) → In t (certificates_claims p cs) →
    (c : Certificate) × In c cs × In t (certificate_claims p c)
claim-certificate p t [] h = absurd h
claim-certificate p t (c ∷ cs) h = elim (in_append t (certificate_claims p c) (certificates_claims p cs) h) [
  | inl a ↦ (c, inl refl, a)
  | inr a ↦ let r = claim-certificate p t cs a in (r.0, inr r.1, r.2)
]

pub certificate-claim : (p : Params) (t : Claim) (c : Certificate) (cs : List Certificate) → In c cs →
    In t (certificate_claims p c) → In t (certificates_claims p cs)
certificate-claim p t c [] i h = absurd i
certificate-claim p t c (d ∷ ds) (inl e) h = in_left t (certificate_claims p d) (certificates_claims p ds) (subst (λ (z : Certificate). In t (certificate_claims p z)) e h)
certificate-claim p t c (d ∷ ds) (inr i) h = in_right t (certificate_claims p d) (certificates_claims p ds) (certificate-claim p t c ds i h)

-- a claim of ViewChanges is one of a ViewChange among them
pub claim-change : (p : Params) (t : Claim) (xs : List Change) → In t (changes_claims p xs) →
    (x : Change) × In x xs × In t (change_claims p x.node.0 x.view x.certificates x.sig)
claim-change p t [] h = absurd h
claim-change p t (x ∷ xs) h = elim (in_append t (change_claims p x.node.0 x.view x.certificates x.sig) (changes_claims p xs) h) [
  | inl a ↦ (x, inl refl, a)
  | inr a ↦ let r = claim-change p t xs a in (r.0, inr r.1, r.2)
]

pub change-claim : (p : Params) (t : Claim) (x : Change) (xs : List Change) → In x xs →
    In t (change_claims p x.node.0 x.view x.certificates x.sig) → In t (changes_claims p xs)
change-claim p t x [] i h = absurd i
change-claim p t x (y ∷ ys) (inl e) h = in_left t (change_claims p y.node.0 y.view y.certificates y.sig) (changes_claims p ys) (subst (λ (z : Change). In t (change_claims p z.node.0 z.view z.certificates z.sig)) e h)
change-claim p t x (y ∷ ys) (inr i) h = in_right t (change_claims p y.node.0 y.view y.certificates y.sig) (changes_claims p ys) (change-claim p t x ys i h)

-- a claim on a choice is made by the sender, on the choice at a slot
pub record IsChosenClaim (p : Params) (by v : ℕ) (xs : List Change) (ss : List Slot) (t : Claim) : Type 0 where
  pub slot : Slot
  pub within : In slot ss
  pub by_sender : t.by.0 ≡ by
  pub is : t.statement ≡ state_at p 1 v slot.0 (digest_of p (choice xs slot.0))

pub chosen-claim : (p : Params) (by v : ℕ) (xs : List Change) (ss : List Slot) (sigs : List (List ℕ)) (t : Claim) →
    In t (chosen_claims p by v xs ss sigs) → IsChosenClaim p by v xs ss t
chosen-claim p by v xs [] sigs t h = absurd h
chosen-claim p by v xs (s ∷ ss) [] t h = absurd h
chosen-claim p by v xs (s ∷ ss) (sig ∷ sigs) t (inl e) = record { slot = s; within = inl refl; by_sender = ap (λ (z : Claim). z.by.0) e; is = ap (λ (z : Claim). z.statement) e }
chosen-claim p by v xs (s ∷ ss) (sig ∷ sigs) t (inr h) = let r = chosen-claim p by v xs ss sigs t h in record { slot = r.slot; within = inr r.within; by_sender = r.by_sender; is = r.is }

-- the claim of a Prepare in a certificate
pub record IsVoteClaim (p : Params) (v s : ℕ) (d : List ℕ) (xs : List Signed) (t : Claim) : Type 0 where
  pub vote : Signed
  pub stands : In vote xs
  pub is : t ≡ claim vote.by.0 (state_at p 2 v s d) vote.sig

pub vote-claim : (p : Params) (v s : ℕ) (d : List ℕ) (xs : List Signed) (t : Claim) → In t (vote_claims p v s d xs) →
    IsVoteClaim p v s d xs t
vote-claim p v s d [] t h = absurd h
vote-claim p v s d (x ∷ xs) t (inl e) = record { vote = x; stands = inl refl; is = e }
vote-claim p v s d (x ∷ xs) t (inr h) = let r = vote-claim p v s d xs t h in record { vote = r.vote; stands = inr r.stands; is = r.is }
