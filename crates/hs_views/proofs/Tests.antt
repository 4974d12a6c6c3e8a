-- Tests as records, options by cases, and lists that grow.
use Rattle.std.proofs.Common.{◌≡◌, ℕ, zero, suc, ◌==◌, ◌&&◌, Bool, true, false, if◌then◌else◌, List, [], ◌∷◌, ◌++◌, length, Option, Some, None, refl, sym, ap, subst, inl, inr, true≢false}
use Rattle.iss_base.specs.Lists.{In, nth}
use Rattle.iss_base.proofs.Lists.{and-true}
use Rattle.std.proofs.lemmas.Bool.Decides.{Decides-eqb}
use Rattle.iss_request.specs.declared.ids.NodeId.{NodeId}
use Rattle.iss_request.specs.declared.ids.Slot.{Slot}
use Rattle.iss_request.specs.declared.requests.Batch.{Batch}
use Rattle.iss_request.specs.declared.requests.Value.{Value}
use Rattle.iss_sb.specs.declared.effects.Input.{Input}
use Rattle.iss_sb.specs.declared.effects.Input.TheVariants.{Cast, Receive, Timeout}
use Rattle.iss_sb.specs.Calls.{AllIn, slots_of}
use Rattle.iss_sb.specs.Evidence.{Item}
use Rattle.hs_tree.specs.declared.certificates.Certificate.{Certificate}
use Rattle.hs_tree.specs.declared.certificates.Certificate.TheVariants.{Root, Votes}
use Rattle.hs_tree.specs.Certificates.{is_quorum, view_of}
use Rattle.hs_tree.specs.declared.messages.Body.{Body}
use Rattle.hs_tree.specs.declared.messages.Message.{Message}

pub by-if : {A : Type 0} (P : A → Type 0) (t : Bool) (a b : A) → P a → P b → P (if t then a else b)
by-if P true a b h g = h
by-if P false a b h g = g

pub by-test : {A : Type 0} (P : A → Type 0) (t : Bool) (a b : A) → (t ≡ true → P a) → P b → P (if t then a else b)
by-test P true a b h g = h refl
by-test P false a b h g = g

pub record IsIf {A : Type 0} (t : Bool) (a x : A) : Type 0 where
  pub passed : t ≡ true
  pub is : a ≡ x

pub if-some : {A : Type 0} (t : Bool) (a x : A) → (if t then Some a else None) ≡ Some x → IsIf t a x
if-some true a x h = record { passed = refl; is = cc }
if-some false a x h = absurd cc

pub record IsIn {A : Type 0} (t : Bool) (o : Option A) (x : A) : Type 0 where
  pub passed : t ≡ true
  pub is : o ≡ Some x

pub if-in : {A : Type 0} (t : Bool) (o : Option A) (x : A) → (if t then o else None) ≡ Some x → IsIn t o x
if-in true o x h = record { passed = refl; is = h }
if-in false o x h = absurd cc

pub if-not : {A : Type 0} (t : Bool) (o : Option A) (x : A) → (if t then None else o) ≡ Some x → o ≡ Some x
if-not true o x h = absurd cc
if-not false o x h = h

pub is-same : (a b : ℕ) → (a == b) ≡ true → a ≡ b
is-same a b h = (Decides-eqb a b).0 h

pub same-is : (a b : ℕ) → a ≡ b → (a == b) ≡ true
same-is a b h = (Decides-eqb a b).1 h

pub quorum-view : (quorum phase view : ℕ) (c : Certificate) → is_quorum quorum phase view c ≡ true → view_of c ≡ view
quorum-view quorum phase view Root h = absurd (true≢false (sym h))
quorum-view quorum phase view (Votes w q d votes) h = let a = and-true ((w == view) && (q == phase)) _ h in is-same w view (and-true (w == view) (q == phase) a.0).0

pub nth-first : (cs : List Batch) (c b : Batch) (k : ℕ) → nth cs k ≡ Some b → nth (cs ++ c ∷ []) k ≡ Some b
nth-first [] c b k h = absurd cc
nth-first (a ∷ cs) c b zero h = h
nth-first (a ∷ cs) c b (suc k) h = nth-first cs c b k h

pub nth-end : (cs : List Batch) (c : Batch) → nth (cs ++ c ∷ []) (length cs) ≡ Some c
nth-end [] c = refl
nth-end (a ∷ cs) c = nth-end cs c

-- what holds without the thing and with each holds
pub each-option : {A B : Type 0} (f : Option B → A) (a : A) → f None ≡ a → ((b : B) → f (Some b) ≡ a) → (o : Option B) → f o ≡ a
each-option f a h g None = h
each-option f a h g (Some b) = g b

pub none-within : (ds : List (Slot × Value)) (ss : List Slot) → ds ≡ [] → AllIn (slots_of ds) ss
none-within ds ss h = subst (λ (z : List (Slot × Value)). AllIn (slots_of z) ss) (sym h) tt

-- ---- The strings of a list of items

abbrev pub AreStrings : {M : Type 0} → (List ℕ → Type 0) → List (Item M) → Type 0
AreStrings Is [] = Unit {0}
AreStrings Is (x ∷ xs) = ((s : List ℕ) → In s x.made.strings → Is s) × AreStrings Is xs

pub each-string : {M : Type 0} (Is : List ℕ → Type 0) (xs : List (Item M)) (x : Item M) (s : List ℕ) → AreStrings Is xs → In x xs → In s x.made.strings → Is s
each-string {M} Is [] x s all k h = absurd k
each-string {M} Is (y ∷ ys) x s all (inl e) h = all.0 s (subst (λ (z : Item M). In s z.made.strings) e h)
each-string {M} Is (y ∷ ys) x s all (inr k) h = each-string Is ys x s all.1 k h

-- ---- The body of a received message

abbrev body_in : Body → Input Message → Body
body_in other (Cast slot batch) = other
body_in other (Receive from msg) = msg.body
body_in other Timeout = other

pub same-body : (from who : NodeId) (m n : Message) → Receive from m ≡ Receive who n → m.body ≡ n.body
same-body from who m n h = ap (λ (i : Input Message). body_in m.body i) h
