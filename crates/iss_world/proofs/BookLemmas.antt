-- Testing and recording of claims and strings refines the model.
use Rattle.std.proofs.Common.{inl, inr, ◌≡◌, ◌⊎◌, ℕ, zero, suc, ◌+◌, ◌<◌, Bool, true, false, cond, not, IsTrue, ◌↔◌, ◌==◌, ◌&&◌, ◌||◌, List, [], ◌∷◌, ◌++◌, length, take, get_or, Option, Some, None, Result, Ok, Err, IfOk, refl, sym, ap, ◌∙◌, subst, arith, true≢false}
use Rattle.std.specs.Prelude.{is_some, nat_lt, option_map}
use Rattle.std.specs.List.{list_any}
use Rattle.std.specs.Cmp.Lexicographic.{slice_cmp}
use Rattle.std.specs.Ordering.{is_eq, nat_cmp}
use Rattle.std.proofs.lemmas.Bool.{lt-ltb}
use Rattle.iss_base.specs.Lists.{In, first_of, push_all, same_bytes}
use Rattle.iss_base.proofs.Lists.{none-some, same-test, same_bytes-is, same_bytes-refl, some-injective}
use Rattle.iss_keys.proofs.DirectoryLemmas.{verified-by}
use Rattle.iss_keys.specs.Directories.{DirectoryView, VerifiesBy}
use Rattle.iss_keys.specs.VerifiedBy.{is_verified_by}
use Rattle.iss_rules.specs.Books.{Signed}
use Rattle.iss_rules.specs.Concrete.{keys_of, rules_of}
use Rattle.iss_rules.specs.Rules.{Rules}
use Rattle.iss_rules.specs.Ends.{End, Collision}
use Rattle.iss_model.specs.Run.{as_signed, booked, collision_in, collision_with, first_forged, has_signed, is_collision, is_forged}
use Rattle.iss_theorems.proofs.Refinement.DeliveryChecks.{as_signed-append}
use Rattle.iss_request.specs.Digest.{digest}
use Rattle.iss_request.specs.declared.ids.NodeId.{NodeId}
use Rattle.iss_request.specs.declared.setups.Setup.{Setup}
use Rattle.iss_sb.specs.Evidence.{has_node, is_correct}
use Rattle.iss_sb.specs.declared.effects.Claim.{Claim}
use Rattle.iss_sb.proofs.Cases.{same_list}
use Rattle.iss_world.proofs.PostLemmas.{take-next}
use Rattle.iss_world.specs.Books.{AreHashed, AreSigned, difference, string_at}
use Rattle.iss_world.specs.Refines.{end_of}
use Rattle.iss_world.specs.declared.ends.Evidence.{Evidence}

-- ---- lists of bytes as keys

-- ---- correct nodes

any-node : (i : ℕ) (ks : List NodeId) → list_any (λ (k : NodeId). i == k.0) ks ≡ has_node i ks
any-node i [] = refl
any-node i (k ∷ ks) = ap (λ (b : Bool). (i == k.0) || b) (any-node i ks)

pub correct-is : (s : Setup) (i : ℕ) (b : Bool) (nodes : List NodeId) → nodes ≡ s.faulty → i < s.n → b ≡ list_any (λ (k : NodeId). i == k.0) nodes → not b ≡ is_correct s i
correct-is s i b nodes same lt is =
    let below : nat_lt i s.n ≡ true = lt-ltb i s.n lt in
    let faulty : b ≡ has_node i s.faulty = is ∙ any-node i nodes ∙ ap (λ (ks : List NodeId). has_node i ks) same in
    rw below (ap (λ (x : Bool). not x) faulty)

-- ---- recorded claims

-- The set with one more entry.
pub booked-more : (key : List ℕ) (by : ℕ) (lent statement : List ℕ) → key ≡ by ∷ lent → lent ≡ statement → (i : ℕ) (st : List ℕ) (w old was : Bool) →
    w ≡ cond (is_eq (slice_cmp nat_cmp key (i ∷ st))) true old → old ≡ was → w ≡ cond ((by == i) && same_bytes statement st) true was
booked-more key by lent statement is same i st w old was e h =
    e ∙ ap (λ (k : List ℕ). cond (is_eq (slice_cmp nat_cmp k (i ∷ st))) true old) (is ∙ ap (λ (z : List ℕ). by ∷ z) same)
    ∙ ap (λ (b : Bool). cond b true old) (same_list (by ∷ statement) (i ∷ st))
    ∙ ap (λ (b : Bool). cond ((by == i) && same_bytes statement st) true b) h

turned : (p q r : Bool) → cond p true (cond q true r) ≡ cond q true (cond p true r)
turned true true r = refl
turned true false r = refl
turned false true r = refl
turned false false r = refl

-- The position of an entry does not matter.
moved : (i : ℕ) (st : List ℕ) (xs : List Signed) (x : Signed) (book : List Signed) → has_signed i st ((xs ++ x ∷ []) ++ book) ≡ has_signed i st (x ∷ (xs ++ book))
moved i st [] x book = refl
moved i st (y ∷ xs) x book =
    ap (λ (b : Bool). cond ((y.by == i) && same_bytes y.statement st) true b) (moved i st xs x book)
    ∙ turned ((y.by == i) && same_bytes y.statement st) ((x.by == i) && same_bytes x.statement st) (has_signed i st (xs ++ book))

-- The first k claims and the next one.
pub signed-next : (v : List (List ℕ)) (own : List Claim) (k : ℕ) (c : Claim) (book : List Signed) → k < length own → c ≡ get_or own k c →
    AreSigned v (record { by = c.by.0; statement = c.statement } ∷ (as_signed (take k own) ++ book)) → AreSigned v (as_signed (take (k + 1) own) ++ book)
signed-next v own k c book lt is h = λ i st.
    h i st
    ∙ sym (moved i st (as_signed (take k own)) (record { by = c.by.0; statement = c.statement }) book)
    ∙ ap (λ (xs : List Signed). has_signed i st (xs ++ book)) (sym (as_signed-append (take k own) (c ∷ [])))
    ∙ ap (λ (xs : List Claim). has_signed i st (as_signed xs ++ book)) (sym (take-next own k c lt is))

-- ---- forged claims

last-and : (a b c : Bool) → b ≡ true → c ≡ false → a ≡ (a && (b && not c))
last-and true true false p q = refl
last-and false b c p q = refl
last-and true false c p q = absurd (true≢false (sym p))
last-and true true true p q = absurd (true≢false q)

no-last : (a b c : Bool) → (c ≡ true) ⊎ (b ≡ false) → false ≡ (a && (b && not c))
no-last false b c h = refl
no-last true false c h = refl
no-last true true false h = elim h [ inl e ↦ absurd (true≢false (sym e)) | inr e ↦ absurd (true≢false e) ]
no-last true true true h = refl

pub forged-is : (s : Setup) (book : List Signed) (c : Claim) (d : DirectoryView) (has correct verified : Bool) (st sig : List ℕ) → d ≡ keys_of s →
    has ≡ has_signed c.by.0 c.statement book → has ≡ false → correct ≡ is_correct s c.by.0 → correct ≡ true → st ≡ c.statement → sig ≡ c.sig →
    IsTrue verified ↔ VerifiesBy d.nodes c.by.0 st sig → verified ≡ is_forged s (rules_of s) book c
forged-is s book c d has correct verified st sig ed is none co was est esig h =
    let same : verified ≡ is_verified_by d.nodes c.by.0 st sig = same-test verified (is_verified_by d.nodes c.by.0 st sig) h (verified-by d.nodes c.by.0 st sig) in
    same
    ∙ ap (λ (z : DirectoryView). is_verified_by z.nodes c.by.0 st sig) ed
    ∙ ap (λ (z : List ℕ). is_verified_by (keys_of s).nodes c.by.0 z sig) est
    ∙ ap (λ (z : List ℕ). is_verified_by (keys_of s).nodes c.by.0 c.statement z) esig
    ∙ last-and (is_verified_by (keys_of s).nodes c.by.0 c.statement c.sig) (is_correct s c.by.0) (has_signed c.by.0 c.statement book) (sym co ∙ was) (sym is ∙ none)

pub not-forged : (s : Setup) (book : List Signed) (c : Claim) → (has_signed c.by.0 c.statement book ≡ true) ⊎ (is_correct s c.by.0 ≡ false) → false ≡ is_forged s (rules_of s) book c
not-forged s book c h = no-last (is_verified_by (keys_of s).nodes c.by.0 c.statement c.sig) (is_correct s c.by.0) (has_signed c.by.0 c.statement book) h

past-one : (b : Bool) (c x : Claim) (o p : Option Claim) → cond b (Some c) o ≡ None → (o ≡ None → p ≡ Some x) → cond b (Some c) p ≡ Some x
past-one true c x o p h k = absurd (none-some c (sym h))
past-one false c x o p h k = k h

past-none : (b : Bool) (c : Claim) (o p q : Option Claim) → cond b (Some c) o ≡ None → (o ≡ None → p ≡ q) → cond b (Some c) p ≡ q
past-none true c o p q h k = absurd (none-some c (sym h))
past-none false c o p q h k = k h

pub forged-append : (s : Setup) (R : Rules) (book : List Signed) (xs ys : List Claim) → first_forged s R book xs ≡ None → first_forged s R book (xs ++ ys) ≡ first_forged s R book ys
forged-append s R book [] ys h = refl
forged-append s R book (c ∷ xs) ys h =
    past-none (is_forged s R book c) c (first_forged s R book xs) (first_forged s R book (xs ++ ys)) (first_forged s R book ys) h (λ t. forged-append s R book xs ys t)

pub forged-at : (s : Setup) (R : Rules) (book : List Signed) (cs : List Claim) (k : ℕ) (d : Claim) → k < length cs → first_forged s R book (take k cs) ≡ None →
    is_forged s R book (get_or cs k d) ≡ true → first_forged s R book cs ≡ Some (get_or cs k d)
forged-at s R book [] k d lt h f = absurd (omega (arith, lt))
forged-at s R book (c ∷ cs) zero d lt h f = rw f refl
forged-at s R book (c ∷ cs) (suc k) d lt h f =
    past-one (is_forged s R book c) c (get_or cs k d) (first_forged s R book (take k cs)) (first_forged s R book cs) h (λ t. forged-at s R book cs k d (omega (arith, lt)) t f)

-- Claim k is the first that is forged.
pub forged-here : (s : Setup) (R : Rules) (book : List Signed) (cs : List Claim) (k : ℕ) (c copy : Claim) → k < length cs → c ≡ get_or cs k c → first_forged s R book (take k cs) ≡ None →
    is_forged s R book c ≡ true → copy ≡ c → Some copy ≡ first_forged s R book cs
forged-here s R book cs k c copy lt is h f e =
    let there : is_forged s R book (get_or cs k c) ≡ true = ap (λ (z : Claim). is_forged s R book z) (sym is) ∙ f in
    ap (λ (z : Claim). let o : Option Claim = Some z in o) (e ∙ is) ∙ sym (forged-at s R book cs k c lt h there)

pub forged-next : (s : Setup) (R : Rules) (book : List Signed) (cs : List Claim) (k : ℕ) (c : Claim) → k < length cs → c ≡ get_or cs k c → first_forged s R book (take k cs) ≡ None →
    is_forged s R book c ≡ false → first_forged s R book (take (k + 1) cs) ≡ None
forged-next s R book cs k c lt is h f =
    let alone : first_forged s R book (c ∷ []) ≡ None = rw f refl in
    ap (λ (xs : List Claim). first_forged s R book xs) (take-next cs k c lt is) ∙ forged-append s R book (take k cs) (c ∷ []) h ∙ alone

-- ---- recorded strings

no-collision : (x : List ℕ) (book : List (List ℕ)) → ((b : List ℕ) → In b book → is_collision b x ≡ false) → collision_with x book ≡ None
no-collision x [] h = refl
no-collision x (b ∷ book) h =
    let here : is_collision b x ≡ false = h b (inl refl) in
    rw here (no-collision x book (λ y k. h y (inr k)))

both-true : (p q : Bool) → (p && not q) ≡ true → (p ≡ true) × (q ≡ false)
both-true true false e = (refl, refl)
both-true true true e = absurd (true≢false (sym e))
both-true false q e = absurd (true≢false (sym e))

first-one : (t : Bool) (a b x : List ℕ) (o : Option End) → (t ≡ true → a ≡ b) → (t ≡ false → o ≡ Some (Collision b x)) → cond t (Some (Collision a x)) o ≡ Some (Collision b x)
first-one true a b x o h k = ap (λ (z : List ℕ). let e : Option End = Some (Collision z x) in e) (h refl)
first-one false a b x o h k = k refl

one-collision : (b x : List ℕ) (book : List (List ℕ)) → In b book → is_collision b x ≡ true → ((a : List ℕ) → In a book → is_collision a x ≡ true → a ≡ b) →
    collision_with x book ≡ Some (Collision b x)
one-collision b x [] i c h = absurd i
one-collision b x (a ∷ book) i c h =
    first-one (is_collision a x) a b x (collision_with x book) (λ t. h a (inl refl) t)
    (λ f. elim i [
      | inl e ↦ absurd (true≢false (sym c ∙ ap (λ (z : List ℕ). is_collision z x) e ∙ f))
      | inr j ↦ one-collision b x book j c (λ y k t. h y (inr k) t)
    ])

-- Every string with this digest equals the one that is found.
same-found : (v : List (List ℕ × List ℕ)) (book : List (List ℕ)) (a b x : List ℕ) → AreHashed v book → string_at v (digest x) ≡ Some b → In a book → digest a ≡ digest x → a ≡ b
same-found v book a b x h at i e =
    some-injective a b (sym (h.found a i) ∙ ap (λ (d : List ℕ). string_at v d) e ∙ at)

collides : (a x : List ℕ) → is_collision a x ≡ true → (digest a ≡ digest x) × (same_bytes a x ≡ false)
collides a x e = let p = both-true (same_bytes (digest a) (digest x)) (same_bytes a x) e in (same_bytes-is (digest a) (digest x) p.0, p.1)

false-or : (t : Bool) → (t ≡ true → ⊥) → t ≡ false
false-or true h = absurd (h refl)
false-or false h = refl

-- No string has this digest yet.
pub fresh-with : (v : List (List ℕ × List ℕ)) (book : List (List ℕ)) (x : List ℕ) → AreHashed v book → string_at v (digest x) ≡ None → collision_with x book ≡ None
fresh-with v book x h none = no-collision x book (λ a i. false-or (is_collision a x)
    (λ t. none-some a (sym none ∙ ap (λ (d : List ℕ). string_at v d) (sym (collides a x t).0) ∙ h.found a i)))

same-or-differs : (t : Bool) (a x : List ℕ) (o : Option End) → (t ≡ true → o ≡ None) → (t ≡ false → o ≡ Some (Collision a x)) → cond t None (Some (Collision a x)) ≡ o
same-or-differs true a x o h k = sym (h refl)
same-or-differs false a x o h k = sym (k refl)

-- A string with this digest is found.
pub found-with : (v : List (List ℕ × List ℕ)) (book : List (List ℕ)) (b x : List ℕ) → AreHashed v book → string_at v (digest x) ≡ Some b → difference b x ≡ collision_with x book
found-with v book b x h at =
    same-or-differs (same_bytes b x) b x (collision_with x book)
    (λ t. no-collision x book (λ a i. false-or (is_collision a x)
    (λ u. let p = collides a x u in
    let is : a ≡ x = same-found v book a b x h at i p.0 ∙ same_bytes-is b x t in
    true≢false (sym (same_bytes-refl x) ∙ ap (λ (z : List ℕ). same_bytes z x) (sym is) ∙ p.1))))
    (λ f. let o = h.only (digest x) b at in
    let under : same_bytes (digest b) (digest x) ≡ true = ap (λ (d : List ℕ). same_bytes d (digest x)) o.1 ∙ same_bytes-refl (digest x) in
    one-collision b x book o.0 (rw (under, f) refl) (λ a i t. same-found v book a b x h at i (collides a x t).0))

not-differs : (t : Bool) (a x : List ℕ) → cond t None (Some (Collision a x)) ≡ None → t ≡ true
not-differs true a x e = refl
not-differs false a x e = absurd cc

-- Adding a string that is already there.
pub hashed-again : (v : List (List ℕ × List ℕ)) (book : List (List ℕ)) (b x : List ℕ) → AreHashed v book → string_at v (digest x) ≡ Some b → difference b x ≡ None → AreHashed v (x ∷ book)
hashed-again v book b x h at none =
    let is : b ≡ x = same_bytes-is b x (not-differs (same_bytes b x) b x none) in
    record {
      found = λ y i. elim i [
        | inl e ↦ ap (λ (z : List ℕ). string_at v (digest z)) e ∙ at ∙ ap (λ (z : List ℕ). let o : Option (List ℕ) = Some z in o) (is ∙ sym e)
        | inr j ↦ h.found y j
      ];
      only = λ d y e. (inr (h.only d y e).0, (h.only d y e).1);
    }

at-key : (d q : List ℕ) (t : Bool) (w old now : Option (List ℕ)) → is_eq (slice_cmp nat_cmp d q) ≡ t → now ≡ cond (is_eq (slice_cmp nat_cmp d q)) w old → now ≡ cond t w old
at-key d q t w old now e h = h ∙ ap (λ (b : Bool). cond b w old) e

one-of : (t : Bool) (d q y x : List ℕ) (old : Option (List ℕ)) → same_bytes d q ≡ t → cond t (Some x) old ≡ Some y → ((d ≡ q) × (y ≡ x)) ⊎ (old ≡ Some y)
one-of true d q y x old e h = inl (same_bytes-is d q e, sym (some-injective x y h))
one-of false d q y x old e h = inr h

-- Adding a new string.
pub hashed-more : (v w : List (List ℕ × List ℕ)) (book : List (List ℕ)) (x : List ℕ) → AreHashed v book → string_at v (digest x) ≡ None →
    ((q : List ℕ) → string_at w q ≡ cond (is_eq (slice_cmp nat_cmp (digest x) q)) (Some x) (string_at v q)) → AreHashed w (x ∷ book)
hashed-more v w book x h none u =
    let by : (q : List ℕ) → string_at w q ≡ cond (same_bytes (digest x) q) (Some x) (string_at v q) =
    λ q. at-key (digest x) q (same_bytes (digest x) q) (Some x) (string_at v q) (string_at w q) (same_list (digest x) q) (u q) in
    record {
      found = λ y i. elim i [
        | inl e ↦
            let mine : string_at w (digest x) ≡ Some x = let r : same_bytes (digest x) (digest x) ≡ true = same_bytes-refl (digest x) in by (digest x) ∙ ap (λ (b : Bool). cond b (Some x) (string_at v (digest x))) r in
            ap (λ (z : List ℕ). string_at w (digest z)) e ∙ mine ∙ ap (λ (z : List ℕ). let o : Option (List ℕ) = Some z in o) (sym e)
        | inr j ↦
            let apart : same_bytes (digest x) (digest y) ≡ false = false-or (same_bytes (digest x) (digest y))
            (λ t. none-some y (sym none ∙ ap (λ (d : List ℕ). string_at v d) (same_bytes-is (digest x) (digest y) t) ∙ h.found y j)) in
            by (digest y) ∙ ap (λ (b : Bool). cond b (Some x) (string_at v (digest y))) apart ∙ h.found y j
      ];
      only = λ q y e. elim (one-of (same_bytes (digest x) q) (digest x) q y x (string_at v q) refl (sym (by q) ∙ e)) [
        | inl p ↦ (inl p.1, ap (λ (z : List ℕ). digest z) p.1 ∙ p.0)
        | inr old ↦ (inr (h.only q y old).0, (h.only q y old).1)
      ];
    }

kept-under : (v : List (List ℕ × List ℕ)) (d q x : List ℕ) (t : Bool) → same_bytes d q ≡ t → string_at v d ≡ Some x → cond t (Some x) (string_at v q) ≡ string_at v q
kept-under v d q x true e at = sym at ∙ ap (λ (z : List ℕ). string_at v z) (same_bytes-is d q e)
kept-under v d q x false e at = refl

-- A string that is there is put under its digest once more.
pub hashed-still : (v w : List (List ℕ × List ℕ)) (book : List (List ℕ)) (x : List ℕ) → AreHashed v book → string_at v (digest x) ≡ Some x →
    ((q : List ℕ) → string_at w q ≡ cond (is_eq (slice_cmp nat_cmp (digest x) q)) (Some x) (string_at v q)) → AreHashed w book
hashed-still v w book x h at u =
    let same : (q : List ℕ) → string_at w q ≡ string_at v q =
    λ q. at-key (digest x) q (same_bytes (digest x) q) (Some x) (string_at v q) (string_at w q) (same_list (digest x) q) (u q)
    ∙ kept-under v (digest x) q x (same_bytes (digest x) q) refl at in
    record {
      found = λ y i. same (digest y) ∙ h.found y i;
      only = λ d y e. h.only d y (sym (same d) ∙ e);
    }

-- Only the empty string is there.
pub hashed-first : (w : List (List ℕ × List ℕ)) (value : List ℕ) → value ≡ [] →
    ((q : List ℕ) → string_at w q ≡ cond (is_eq (slice_cmp nat_cmp (digest []) q)) (Some value) None) → AreHashed w ([] ∷ [])
hashed-first w value is u =
    hashed-more [] w [] [] (record { found = λ x i. absurd i; only = λ d x e. absurd (none-some x e) }) refl
    (λ q. u q ∙ ap (λ (z : List ℕ). let o : Option (List ℕ) = cond (is_eq (slice_cmp nat_cmp (digest []) q)) (Some z) None in o) is)

-- The string found under a digest.
pub at-digest : (v : List (List ℕ × List ℕ)) (d x lent : List ℕ) (o : Option (List ℕ)) → d ≡ digest lent → lent ≡ x → o ≡ string_at v d → string_at v (digest x) ≡ o
at-digest v d x lent o ed el h =
    ap (λ (z : List ℕ). string_at v (digest z)) (sym el) ∙ ap (λ (z : List ℕ). string_at v z) (sym ed) ∙ sym h

pub put-digest : (v w : List (List ℕ × List ℕ)) (d x lent value : List ℕ) → d ≡ digest lent → lent ≡ x → value ≡ x →
    ((q : List ℕ) → string_at w q ≡ cond (is_eq (slice_cmp nat_cmp d q)) (Some value) (string_at v q)) →
    (q : List ℕ) → string_at w q ≡ cond (is_eq (slice_cmp nat_cmp (digest x) q)) (Some x) (string_at v q)
put-digest v w d x lent value ed el ev u q =
    u q
    ∙ ap (λ (z : List ℕ). let o : Option (List ℕ) = cond (is_eq (slice_cmp nat_cmp z q)) (Some value) (string_at v q) in o) (ed ∙ ap (λ (z : List ℕ). digest z) el)
    ∙ ap (λ (z : List ℕ). let o : Option (List ℕ) = cond (is_eq (slice_cmp nat_cmp (digest x) q)) (Some z) (string_at v q) in o) ev

pub no-difference : (a b x y : List ℕ) (t : Bool) → x ≡ a → y ≡ b → t ≡ same_bytes x y → t ≡ true → None ≡ difference a b
no-difference a b x y t ex ey is yes' =
    let same : same_bytes a b ≡ true = ap (λ (z : List ℕ). same_bytes z b) (sym ex) ∙ ap (λ (z : List ℕ). same_bytes x z) (sym ey) ∙ sym is ∙ yes' in
    sym (ap (λ (q : Bool). let o : Option End = cond q None (Some (Collision a b)) in o) same)

pub a-difference : (a b x y p q : List ℕ) (t : Bool) → x ≡ a → y ≡ b → p ≡ a → q ≡ b → t ≡ same_bytes x y → t ≡ false →
    Some (Collision p q) ≡ difference a b
a-difference a b x y p q t ex ey ep eq is not' =
    let same : same_bytes a b ≡ false = ap (λ (z : List ℕ). same_bytes z b) (sym ex) ∙ ap (λ (z : List ℕ). same_bytes x z) (sym ey) ∙ sym is ∙ not' in
    ap (λ (z : List ℕ). let o : Option End = Some (Collision z q) in o) ep ∙ ap (λ (z : List ℕ). let o : Option End = Some (Collision a z) in o) eq
    ∙ sym (ap (λ (k : Bool). let o : Option End = cond k None (Some (Collision a b)) in o) same)

-- ---- the strings of a step, in order

past-first : (o p q : Option End) (e : End) → first_of o p ≡ None → (p ≡ None → q ≡ Some e) → first_of o q ≡ Some e
past-first None p q e h k = k h
past-first (Some x) p q e h k = absurd (none-some x (sym h))

pub collision-here : (xs : List (List ℕ)) (k : ℕ) (d : List ℕ) (book : List (List ℕ)) (e : End) → k < length xs → collision_in (take k xs) book ≡ None →
    collision_with (get_or xs k d) (push_all (take k xs) book) ≡ Some e → collision_in xs book ≡ Some e
collision-here [] k d book e lt h c = absurd (omega (arith, lt))
collision-here (x ∷ xs) zero d book e lt h c = ap (λ (o : Option End). first_of o (collision_in xs (x ∷ book))) c
collision-here (x ∷ xs) (suc k) d book e lt h c =
    past-first (collision_with x book) (collision_in (take k xs) (x ∷ book)) (collision_in xs (x ∷ book)) e h
    (λ t. collision-here xs k d (x ∷ book) e (omega (arith, lt)) t c)

first-assoc : (o p q : Option End) → first_of o (first_of p q) ≡ first_of (first_of o p) q
first-assoc None p q = refl
first-assoc (Some x) p q = refl

collision-append : (xs ys book : List (List ℕ)) → collision_in (xs ++ ys) book ≡ first_of (collision_in xs book) (collision_in ys (push_all xs book))
collision-append [] ys book = refl
collision-append (x ∷ xs) ys book =
    ap (λ (o : Option End). first_of (collision_with x book) o) (collision-append xs ys (x ∷ book))
    ∙ first-assoc (collision_with x book) (collision_in xs (x ∷ book)) (collision_in ys (push_all xs (x ∷ book)))

over-append : (xs ys book : List (List ℕ)) → push_all (xs ++ ys) book ≡ push_all ys (push_all xs book)
over-append [] ys book = refl
over-append (x ∷ xs) ys book = over-append xs ys (x ∷ book)

-- The first k strings, none of which collides, and the next one.
pub record AreApart (v : List (List ℕ × List ℕ)) (strings : List (List ℕ)) (book : List (List ℕ)) : Type 0 where
  pub none : collision_in strings book ≡ None
  pub booked : AreHashed v (push_all strings book)

pub apart-next : (v : List (List ℕ × List ℕ)) (xs : List (List ℕ)) (k : ℕ) (x : List ℕ) (book : List (List ℕ)) → k < length xs → x ≡ get_or xs k x → collision_in (take k xs) book ≡ None →
    collision_with x (push_all (take k xs) book) ≡ None → AreHashed v (x ∷ push_all (take k xs) book) → AreApart v (take (k + 1) xs) book
apart-next v xs k x book lt is h c b =
    let front : take (k + 1) xs ≡ take k xs ++ x ∷ [] = take-next xs k x lt is in
    record {
      none = ap (λ (ys : List (List ℕ)). collision_in ys book) front ∙ collision-append (take k xs) (x ∷ []) book
          ∙ ap (λ (o : Option End). first_of o (first_of (collision_with x (push_all (take k xs) book)) None)) h
          ∙ ap (λ (o : Option End). let p : Option End = first_of o None in p) c;
      booked = subst (λ (ys : List (List ℕ)). AreHashed v ys) (sym (ap (λ (ys : List (List ℕ)). push_all ys book) front ∙ over-append (take k xs) (x ∷ []) book)) b;
    }

pub if-ok : {A E : Type 0} (P Q : A → Type 0) (r : Result A E) → IfOk r P → ((x : A) → P x → Q x) → IfOk r Q
if-ok P Q (Ok x) h f = f x h
if-ok P Q (Err e) h f = tt

-- Signatures of a core whose node is faulty are not recorded.
pub none-booked : (s : Setup) (c : ℕ) (own : List Claim) (v : List (List ℕ)) (book : List Signed) → is_correct s c ≡ false → AreSigned v book → AreSigned v (booked s c own ++ book)
none-booked s c own v book no' h = subst (λ (b : Bool). AreSigned v (cond b (as_signed own) [] ++ book)) (sym no') h

pub all-booked : (s : Setup) (c : ℕ) (own : List Claim) (v : List (List ℕ)) (book : List Signed) → is_correct s c ≡ true → AreSigned v (as_signed own ++ book) → AreSigned v (booked s c own ++ book)
all-booked s c own v book yes' h = subst (λ (b : Bool). AreSigned v (cond b (as_signed own) [] ++ book)) (sym yes') h

some-end : (o : Option Evidence) (p : Option End) → is_some o ≡ true → option_map end_of o ≡ p → (e : End) × (p ≡ Some e)
some-end (Some x) p q h = (end_of x, sym h)
some-end None p q h = absurd (true≢false (sym q))

pub not-some : (o : Option Evidence) → is_some o ≡ false → o ≡ None
not-some None q = refl
not-some (Some x) q = absurd (true≢false q)

pub was-some : (o : Option Evidence) → is_some o ≡ true → o ≡ None → ⊥
was-some o q e = true≢false (sym q ∙ ap (λ (z : Option Evidence). is_some z) e)

-- String k is the first that collides.
pub collision-told : (xs : List (List ℕ)) (k : ℕ) (x : List ℕ) (book : List (List ℕ)) (o : Option Evidence) → k < length xs → x ≡ get_or xs k x → collision_in (take k xs) book ≡ None →
    is_some o ≡ true → option_map end_of o ≡ collision_with x (push_all (take k xs) book) → option_map end_of o ≡ collision_in xs book
collision-told xs k x book o lt is none some h =
    let e = some-end o (collision_with x (push_all (take k xs) book)) some h in
    let here : collision_with (get_or xs k x) (push_all (take k xs) book) ≡ Some e.0 = ap (λ (z : List ℕ). collision_with z (push_all (take k xs) book)) (sym is) ∙ e.1 in
    h ∙ e.1 ∙ sym (collision-here xs k x book e.0 lt none here)

pub no-collision-at : (x : List ℕ) (book : List (List ℕ)) (o : Option Evidence) → is_some o ≡ false → option_map end_of o ≡ collision_with x book → collision_with x book ≡ None
no-collision-at x book o no' h = sym h ∙ ap (λ (z : Option Evidence). option_map end_of z) (not-some o no')
