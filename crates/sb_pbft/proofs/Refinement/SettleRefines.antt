-- The code that settles slots refines the model, slot by slot.
use Rattle.std.proofs.Common.{◌≡◌, ◌≤◌, ◌<◌, ◌+◌, ◌-◌, ◌*◌, ◌^◌, drop, get_or, ℕ, zero, suc, Bool, true, false, append-nil}
use Rattle.std.proofs.Common.{cond, List, [], ◌∷◌, ◌++◌, length, Option, Some, None, refl, sym, ap, ◌∙◌, arith, subst}
use Rattle.std.proofs.Math.Seq.{drop-cons}
use Rattle.iss_keys.specs.Directories.{AreKeysOf}
use Rattle.iss_keys.specs.KeyStates.{KeyState, left_of}
use Rattle.iss_request.specs.declared.ids.Slot.{Slot}
use Rattle.iss_request.specs.declared.requests.Value.{Value}
use Rattle.iss_sb.specs.declared.effects.Effects.{Effects}
use Rattle.iss_sb.specs.declared.effects.Params.{Params}
use Rattle.iss_sb.specs.declared.effects.To.{To}
use Rattle.iss_sb.specs.declared.effects.To.TheVariants.{All as To_all}
use Rattle.iss_sb.specs.Calls.{AreToNodes}
use Rattle.pbft_wire.specs.declared.messages.Message.{Message}
use Rattle.sb_pbft.specs.declared.pbft.Pbft.{Pbft}
use Rattle.sb_pbft.specs.declared.proposals.Proposal.{Proposal}
use Rattle.sb_pbft.specs.Makes.{Draft, sign, sign_all, uses, uses_all}
use Rattle.sb_pbft.specs.Internal.Refines.{Answers, Commits, HandsOver, Sent, Settles, held}
use Rattle.sb_pbft.specs.Internal.Turns.{Held, commits_to, delivery, deliveries, drafts_all, drafts_at, handed, newly_at, prepares_to, ready_at, settled, settled_all}

pub grouped : {A : Type 0} (xs ys zs : List A) → (xs ++ ys) ++ zs ≡ xs ++ (ys ++ zs)
grouped [] ys zs = refl
grouped (x ∷ xs) ys zs = ap (λ (l : List _). x ∷ l) (grouped xs ys zs)

-- ---- concatenated messages

pub uses-both : (p : Params) (ds es : List Draft) → uses_all p (ds ++ es) ≡ uses_all p ds + uses_all p es
uses-both p [] es = omega arith
uses-both p (d ∷ ds) es = let h = uses-both p ds es in omega (arith, h)

pub signed-both : (p : Params) (me leaf : ℕ) (ds es : List Draft) →
    sign_all p me leaf (ds ++ es) ≡ sign_all p me leaf ds ++ sign_all p me
    (leaf + uses_all p ds) es
signed-both p me leaf [] es = let e : leaf + 0 ≡ leaf = omega arith in rw e refl
signed-both p me leaf (d ∷ ds) es =
    let e : leaf + uses p d + uses_all p ds ≡ leaf + (uses p d + uses_all p ds) = omega arith in
    let h = signed-both p me (leaf + uses p d) ds es in
    ap (λ (l : List (To × Message)). ((To_all, sign p me leaf d) ∷ l)) (rw e at h)

pub sent-none : (p : Params) (k : KeyState) (s t : List (To × Message)) → t ≡ s → Sent p [] k k s t
sent-none p k s t e = record {
  used = let n : k.used + 0 ≡ k.used = omega arith in ap (λ (n : ℕ). record k { used = n }) (sym n);
  sends = λ me own. e ∙ sym (append-nil s);
  addressed = λ n h. subst (λ (l : List (To × Message)). AreToNodes n l) (sym e) h;
}

pub own-later : (p : Params) (me n : ℕ) (a b : KeyState) → b ≡ record a { used = a.used + n } →
    AreKeysOf me p.setup.keys a → AreKeysOf me p.setup.keys b
own-later p me n a b e own = record { own = ap (λ (z : KeyState). z.secret) e ∙ own.own; tall = ap (λ (z : KeyState). z.height) e ∙ own.tall }

pub sent-both : (p : Params) (ds es : List Draft) (a b c : KeyState) (s t u : List (To × Message)) → Sent p ds a b s t →
    Sent p es b c t u →
    Sent p (ds ++ es) a c s u
sent-both p ds es a b c s t u h k = record {
  used =
      let n : a.used + uses_all p ds + uses_all p es ≡ a.used + (uses_all p ds + uses_all p es) = omega arith in
      k.used ∙ ap (λ (z : KeyState). record z { used = z.used + uses_all p es }) h.used
      ∙ ap (λ (n : ℕ). record a { used = n }) (n ∙ ap (λ (z : ℕ). a.used + z) (sym (uses-both p ds es)));
  sends = λ me own.
      let later = own-later p me (uses_all p ds) a b h.used own in
      let leaf : b.used ≡ a.used + uses_all p ds = ap (λ (z : KeyState). z.used) h.used in
      k.sends me later ∙ ap (λ (l : List (To × Message)). l ++ sign_all p me b.used es) (h.sends me own)
      ∙ grouped s (sign_all p me a.used ds) (sign_all p me b.used es)
      ∙ ap (λ (n : ℕ). s ++ (sign_all p me a.used ds ++ sign_all p me n es)) leaf
      ∙ ap (λ (l : List (To × Message)). s ++ l) (sym (signed-both p me a.used ds es));
  addressed = λ n at. k.addressed n (h.addressed n at);
}

-- one message, signed with the next leaves
pub sent-by : (p : Params) (d : Draft) (msg : Message) (k l : KeyState) (s t : List (To × Message)) →
    l ≡ record k { used = k.used + uses p d } →
    ((me : ℕ) → AreKeysOf me p.setup.keys k → msg ≡ sign p me k.used d) → t ≡ s ++ (To_all, msg) ∷ [] → Sent p (d ∷ []) k l s t
sent-by p d msg k l s t used is e = record {
  used = let n : k.used + uses p d ≡ k.used + (uses p d + 0) = omega arith in used ∙ ap (λ (n : ℕ). record k { used = n }) n;
  sends = λ me own. e ∙ ap (λ (m : Message). s ++ (To_all, m) ∷ []) (is me own);
  addressed = λ n h. subst (λ (l : List (To × Message)). AreToNodes n l) (sym e) (and-one n s h);
}
  where
    and-one : (n : ℕ) (s : List (To × Message)) → AreToNodes n s → AreToNodes n (s ++ (To_all, msg) ∷ [])
    and-one n [] h = (tt, tt)
    and-one n (x ∷ xs) h = (h.0, and-one n xs h.1)

-- with the next leaf alone
pub sent-one : (p : Params) (d : Draft) (msg : Message) (k l : KeyState) (s t : List (To × Message)) →
    l ≡ record k { used = k.used + 1 } →
    ((me : ℕ) → AreKeysOf me p.setup.keys k → msg ≡ sign p me k.used d) → uses p d ≡ 1 → t ≡ s ++ (To_all, msg) ∷ [] → Sent p (d ∷ []) k l s t
sent-one p d msg k l s t used is one e = sent-by p d msg k l s t (used ∙ ap (λ (n : ℕ). record k { used = k.used + n }) (sym one)) is e

-- ---- one slot, and the rest

pub settles-none : (p : Params) (answers : Bool) (v : ℕ) (m : Pbft) (k : KeyState) (e : Effects Message) →
    Settles p answers v [] m m k k e e
settles-none p answers v m k e = record {
  node = refl;
  holds = refl;
  sent = sent-none p k e.sends e.sends refl;
  delivers = sym (append-nil e.delivers);
  accepted = refl;
  hashed = refl;
}

pub settles-more : (p : Params) (answers : Bool) (v : ℕ) (s : Slot) (ss : List Slot) (m n o : Pbft) (a b c : KeyState) (e f g : Effects Message) →
    Settles p answers v (s ∷ []) m n a b e f → Settles p answers v ss n o b c f g → Settles p answers v (s ∷ ss) m o a c e g
settles-more p answers v s ss m n o a b c e f g h k = record {
  node = k.node ∙ h.node;
  holds = k.holds ∙ ap (λ (z : Held). settled_all p z v ss) h.holds;
  sent =
      let first : Sent p (drafts_at p (held m) answers v s) a b e.sends f.sends =
      subst (λ (l : List Draft). Sent p l a b e.sends f.sends) (append-nil (drafts_at p (held m) answers v s)) h.sent in
      let second : Sent p (drafts_all p (settled p (held m) v s) answers v ss) b c f.sends g.sends =
      subst (λ (z : Held). Sent p (drafts_all p z answers v ss) b c f.sends g.sends) h.holds k.sent in
      sent-both p (drafts_at p (held m) answers v s) (drafts_all p (settled p (held m) v s) answers v ss) a b c e.sends f.sends g.sends first second;
  delivers =
      k.delivers ∙ ap (λ (z : Held). f.delivers ++ deliveries p z v ss) h.holds
      ∙ ap (λ (l : List (Slot × Value)). l ++ deliveries p (settled p (held m) v s) v ss) (h.delivers
      ∙ ap (λ (l : List (Slot × Value)). e.delivers ++ l) (append-nil (delivery s (newly_at p (held m) v s.0))))
      ∙ grouped e.delivers (delivery s (newly_at p (held m) v s.0)) (deliveries p (settled p (held m) v s) v ss);
  accepted = k.accepted ∙ h.accepted;
  hashed = k.hashed ∙ h.hashed;
}

-- what the code does at one slot: Prepare, Commit, delivery
pub settles-one : (p : Params) (answers : Bool) (v : ℕ) (s : Slot) (m n o : Pbft) (a b c : KeyState) (e f g i : Effects Message) →
    Answers p answers v s m a b e f → Commits p s m n b c f g → HandsOver p v s n o g i → Settles p answers v (s ∷ []) m o a c e i
settles-one p answers v s m n o a b c e f g i x y z = record {
  node = z.node ∙ y.node;
  holds = z.holds ∙ ap (λ (h : Held). handed p h v s.0) y.holds;
  sent =
      let both = sent-both p (cond answers (prepares_to v s ((held m).proposal v s.0)) []) (commits_to (held m).mode.view s
      (ready_at p (held m) s.0)) a b c e.sends f.sends g.sends x.sent y.sent in
      subst (λ (l : List Draft). Sent p l a c e.sends i.sends) (sym (append-nil (drafts_at p (held m) answers v s)))
      (subst (λ (l : List (To × Message)). Sent p (drafts_at p (held m) answers v s) a c e.sends l) (sym z.sends) both);
  delivers =
      z.delivers ∙ ap (λ (h : Held). g.delivers ++ delivery s (newly_at p h v s.0)) y.holds
      ∙ ap (λ (l : List (Slot × Value)). l ++ delivery s (newly_at p (held m) v s.0)) (y.delivers ∙ x.delivers)
      ∙ ap (λ (l : List (Slot × Value)). e.delivers ++ l) (sym (append-nil (delivery s (newly_at p (held m) v s.0))));
  accepted = z.accepted ∙ y.accepted ∙ x.accepted;
  hashed = z.hashed ∙ y.hashed ∙ x.hashed;
}

-- ---- all slots of a loop

prepares-few : (p : Params) (v : ℕ) (s : Slot) (answers : Bool) (o : Option Proposal) →
    uses_all p (cond answers (prepares_to v s o) []) ≤ 1
prepares-few p v s true None = omega arith
prepares-few p v s true (Some q) = omega arith
prepares-few p v s false None = omega arith
prepares-few p v s false (Some q) = omega arith

commits-few : (p : Params) (v : ℕ) (s : Slot) (o : Option Proposal) → uses_all p (commits_to v s o) ≤ 1
commits-few p v s None = omega arith
commits-few p v s (Some q) = omega arith

-- a slot takes two leaves at most
pub slot-few : (p : Params) (h : Held) (answers : Bool) (v : ℕ) (s : Slot) →
    uses_all p (drafts_all p h answers v (s ∷ [])) ≤ 2
slot-few p h answers v s =
    let a = prepares-few p v s answers (h.proposal v s.0) in
    let b = commits-few p h.mode.view s (ready_at p h s.0) in
    let both = uses-both p (cond answers (prepares_to v s (h.proposal v s.0)) []) (commits_to h.mode.view s (ready_at p h s.0)) in
    let all = uses-both p (drafts_at p h answers v s) [] in
    omega (arith, a, b, both, all)

low : (t u n a i : ℕ) → 2 * (a - i) ≤ t - u → n ≤ 2 → i < a → 2 * (a - (i + 1)) ≤ t - (u + n)
low t u n a i h few within = omega (arith, h, few, within)

pub left-more : (p : Params) (answers : Bool) (v : ℕ) (s : Slot) (m n : Pbft) (a b : KeyState) (e f : Effects Message) (all i : ℕ) →
    2 * (all - i) ≤ left_of a → i < all → Settles p answers v (s ∷ []) m n a b e f → 2 * (all - (i + 1)) ≤ left_of b
left-more p answers v s m n a b e f all i h within done =
    let ds = drafts_all p (held m) answers v (s ∷ []) in
    subst (λ (z : KeyState). 2 * (all - (i + 1)) ≤ left_of z) (sym done.sent.used)
    (low (2 ^ a.height) a.used (uses_all p ds) all i h (slot-few p (held m) answers v s) within)

-- the contract for the remaining slots
abbrev pub Owes : Params → Bool → ℕ → List Slot → List Slot → Pbft → KeyState → Effects Message → Pbft → KeyState →
    Effects Message → Type 0
Owes p answers v slots rest m a e now b f =
    (n : Pbft) (k : KeyState) (g : Effects Message) → Settles p answers v rest now n b k f g → Settles p answers v slots m n a k e g

pub owes-more : (p : Params) (answers : Bool) (v : ℕ) (slots : List Slot) (i : ℕ) (m now next : Pbft) (a b c : KeyState) (e f g : Effects Message) →
    i < length slots →
    Owes p answers v slots (drop i slots) m a e now b f → Settles p answers v (get_or slots i (record { 0 = 0 }) ∷ []) now next b c f g →
    Owes p answers v slots (drop (i + 1) slots) m a e next c g
owes-more p answers v slots i m now next a b c e f g within owes done n k x rest =
    let step : suc i ≡ i + 1 = omega arith in
    let cut : drop i slots ≡ get_or slots i (record { 0 = 0 }) ∷ drop (suc i) slots = drop-cons slots i (record { 0 = 0 }) within in
    let row : Settles p answers v (drop (suc i) slots) next n c k g x = subst (λ (j : ℕ). Settles p answers v (drop j slots) next n c k g x) (sym step) rest in
    owes n k x (subst (λ (l : List Slot). Settles p answers v l now n b k f x) (sym cut)
    (settles-more p answers v (get_or slots i (record { 0 = 0 })) (drop (suc i) slots) now next n b c k f g x done row))

pub owes-none : (p : Params) (answers : Bool) (v : ℕ) (slots : List Slot) (i : ℕ) (m now : Pbft) (a b : KeyState) (e f : Effects Message) → length slots ≤ i →
    Owes p answers v slots (drop i slots) m a e now b f → Settles p answers v slots m now a b e f
owes-none p answers v slots i m now a b e f past owes =
    owes now b f (subst (λ (l : List Slot). Settles p answers v l now now b b f f) (sym (drop-past slots i past)) (settles-none p answers v now b f))
  where
    never : (n : ℕ) → suc n ≤ 0 → ⊥
    never n h = omega (arith, h)

    drop-past : (l : List Slot) (i : ℕ) → length l ≤ i → drop i l ≡ []
    drop-past [] zero h = refl
    drop-past [] (suc i) h = refl
    drop-past (x ∷ xs) zero h = absurd (never (length xs) h)
    drop-past (x ∷ xs) (suc i) h = let k : length xs ≤ i = omega (arith, h) in drop-past xs i k
