-- A reader that reads its fields in order reads what the parser of the whole reads.
use Rattle.std.proofs.Common.{◌≡◌, ℕ, suc, ◌+◌, ◌-◌, ◌*◌, ◌/◌, ◌<◌, ◌≤◌, Bool, true, false, List, [], ◌∷◌, ◌++◌, length, refl, sym, ap, subst, ◌∙◌, append_assoc, append-nil, arith, inl, inr}
use Rattle.std.specs.Int.{Width, byte_len, to_be_bytes}
use Rattle.std.proofs.lemmas.Bool.{cases_lt}
use Rattle.std.proofs.lemmas.List.{length-append, length-drop, nil_from_length}
use Rattle.std.specs.Prelude.{Result, Ok, Err, IsTrue, ◌↔◌}
use Rattle.std.specs.Result.{IsErrAnd}
use Rattle.iss_request.specs.declared.errors.DecodeError.{DecodeError}
use Rattle.iss_request.specs.declared.errors.DecodeError.TheVariants.{BadField}
use Rattle.iss_request.specs.Fields.{Reading, Good, Bad, left, IsRead, IsUnreadable}
use Rattle.iss_request.specs.Parsing.{Parser, ◌>>=◌, done, such_that, byte, number, block, digests, times, at_end, all_of}
use Rattle.iss_request.proofs.ParserLemmas

-- ---- sequences

pub read_then : {A B : Type 0} (p : Parser A) (q : A → Parser B) {a b c : Reading} {x : A} {y : B} → IsRead p a b x →
    IsRead (q x) b c y → IsRead (p >>= q) a c y
read_then {A} {B} p q {a} {b} {c} {x} {y} r s = record {
  found = ParserLemmas.then_good p q (left a) (left b) (left c) x y r.found s.found;
  version = s.version ∙ r.version;
  same = s.same ∙ r.same;
  forward = omega (arith, r.forward, s.forward);
  behind = s.behind ∙ r.behind;
}

pub unread_first : {A B : Type 0} (p : Parser A) (q : A → Parser B) {a : Reading} {at : ℕ} → IsUnreadable p a at →
    IsUnreadable (p >>= q) a at
unread_first {A} {B} p q {a} {at} u = record {
  after = u.after;
  found = ParserLemmas.first_bad p q (left a) u.after u.found;
  field = u.field;
}

pub unread_then : {A B : Type 0} (p : Parser A) (q : A → Parser B) {a b : Reading} {x : A} {at : ℕ} → IsRead p a b x →
    IsUnreadable (q x) b at → IsUnreadable (p >>= q) a at
unread_then {A} {B} p q {a} {b} {x} {at} r u = record {
  after = length (left a) - length (left b) + u.after;
  found = ParserLemmas.then_bad p q (left a) (left b) x u.after r.found u.found;
  field = omega (arith, r.forward, r.behind, u.field);
}

-- what an equal count of digests reads
pub read_counted : {n m : ℕ} {a b : Reading} {x : List ℕ} → n ≡ m → IsRead (digests n) a b x → IsRead (digests m) a b x
read_counted {n} {m} {a} {b} {x} e r = subst (λ (k : ℕ). IsRead (digests k) a b x) e r

pub unread_counted : {n m : ℕ} {a : Reading} {at : ℕ} → n ≡ m → IsUnreadable (digests n) a at →
    IsUnreadable (digests m) a at
unread_counted {n} {m} {a} {at} e u = subst (λ (k : ℕ). IsUnreadable (digests k) a at) e u

pub read_done : {A : Type 0} (x : A) (a : Reading) → IsRead (done x) a a x
unfolding done
read_done x a = record { found = refl; version = refl; same = refl; forward = omega arith; behind = refl }

pub read_passed : {A : Type 0} (test : A → Bool) (p : Parser A) {a b : Reading} {x : A} → IsRead p a b x →
    test x ≡ true → IsRead (such_that test p) a b x
read_passed {A} test p {a} {b} {x} r t = record {
  found = ParserLemmas.test_passed test p (left a) (left b) x r.found t;
  version = r.version;
  same = r.same;
  forward = r.forward;
  behind = r.behind;
}

pub unread_failed : {A : Type 0} (test : A → Bool) (p : Parser A) {a b : Reading} {x : A} → IsRead p a b x →
    test x ≡ false → IsUnreadable (such_that test p) a a.at
unread_failed {A} test p {a} {b} {x} r t = record {
  after = 0;
  found = ParserLemmas.test_failed test p (left a) (left b) x r.found t;
  field = omega arith;
}

pub unread_tested : {A : Type 0} (test : A → Bool) (p : Parser A) {a : Reading} {at : ℕ} → IsUnreadable p a at →
    IsUnreadable (such_that test p) a at
unread_tested {A} test p {a} {at} u = record {
  after = u.after;
  found = ParserLemmas.test_bad test p (left a) u.after u.found;
  field = u.field;
}

-- the offset in an error
pub named : {A T : Type 0} (p : Parser A) (a : Reading) (x : ℕ) (d : DecodeError) (at : ℕ) → IsUnreadable p a x →
    d ≡ BadField x → ◌≡◌ {A = Result T DecodeError} (Err d) (Err (BadField at)) → IsUnreadable p a at
named {A} {T} p a x d at u is e =
    let same : x ≡ at = cc in
    record { after = u.after; found = u.found; field = sym same ∙ u.field }

-- the exit of a `?`, which returns the error
pub exit : {T U : Type 0} (r : Result T DecodeError) (d : DecodeError) (P : ℕ → Type 0) → IsErrAnd r (λ y. y ≡ d) →
    ((at : ℕ) → ◌≡◌ {A = Result U DecodeError} (Err d) (Err (BadField at)) → P at) → (at : ℕ) →
    r ≡ Err (BadField at) → P at
exit (Ok x) d P h bad at e = absurd h
exit (Err y) d P h bad at e =
    let same : y ≡ BadField at = cc in
    bad at (ap Err (sym h ∙ same))

-- ---- fields

-- n bytes further
abbrev pub moved : ℕ → Reading → Reading
moved width a = record a { at = a.at + width }

read_front : {A : Type 0} (p : Parser A) (a b : Reading) (x : A) (front : List ℕ) (width : ℕ) →
    p (left a) ≡ Good x (left b) → left a ≡ front ++ left b → length front ≡ width → b ≡ moved width a → IsRead p a b x
read_front p a b x front width found parts len is = record {
  found = found;
  version = ap (λ (r : Reading). r.version) is;
  same = ap (λ (r : Reading). r.all) is;
  forward = omega (arith, ap (λ (r : Reading). r.at) is);
  behind = omega (arith, ap (λ (r : Reading). r.at) is, ap length parts, length-append front (left b));
}

pub byte_read : (a b : Reading) (x : ℕ) → left a ≡ x ∷ left b → b ≡ moved 1 a → IsRead byte a b x
byte_read a b x parts is =
    read_front byte a b x (x ∷ []) 1 (ap byte parts ∙ ParserLemmas.byte_again x (left b)) parts refl is

pub byte_unread : (a : Reading) → left a ≡ [] → IsUnreadable byte a a.at
byte_unread a e = record { after = 0; found = ap byte e ∙ ParserLemmas.byte_short; field = omega arith }

pub number_read : (w : Width) (limit : ℕ) (wide : ParserLemmas.IsWide w limit) (a b : Reading) (n : ℕ) → n < limit →
    left a ≡ to_be_bytes w n ++ left b → b ≡ moved (byte_len w) a → IsRead (number w) a b n
number_read w limit wide a b n lt parts is =
    read_front (number w) a b n (to_be_bytes w n) (byte_len w) (ap (number w) parts
    ∙ ParserLemmas.number_again w limit wide n (left b) lt) parts (wide.len n) is

pub number_unread : (w : Width) (a : Reading) → length (left a) < byte_len w → IsUnreadable (number w) a a.at
number_unread w a lt = record { after = 0; found = ParserLemmas.number_short w (left a) lt; field = omega arith }

pub block_read : (width : ℕ) (a b : Reading) (front : List ℕ) → left a ≡ front ++ left b → length front ≡ width →
    b ≡ moved width a → IsRead (block width) a b front
block_read width a b front parts len is =
    read_front (block width) a b front front width (ap (block width) parts
    ∙ ParserLemmas.block_again front (left b) width len) parts len is

pub block_unread : (width : ℕ) (a : Reading) → length (left a) < width → IsUnreadable (block width) a a.at
block_unread width a lt = record { after = 0; found = ParserLemmas.block_short width (left a) lt; field = omega arith }

pub digests_read : (count : ℕ) (a b : Reading) (front : List ℕ) → left a ≡ front ++ left b → length front ≡ 32 * count →
    b ≡ moved (32 * count) a → IsRead (digests count) a b front
digests_read count a b front parts len is =
    read_front (digests count) a b front front (32 * count) (ap (digests count) parts
    ∙ ParserLemmas.digests_again front (left b) count len) parts len is

pub digests_unread : (count : ℕ) (a : Reading) → length (left a) < 32 * count →
    IsUnreadable (digests count) a (a.at + 32 * (length (left a) / 32))
digests_unread count a lt =
    record { after = 32 * (length (left a) / 32); found = ParserLemmas.digests_short count (left a) lt; field = refl }

-- ---- repeated elements

pub read_more : {A : Type 0} (p : Parser A) (count : ℕ) {a b c : Reading} {x : A} {xs : List A} → IsRead p a b x →
    IsRead (times count p) b c xs → IsRead (times (suc count) p) a c (x ∷ xs)
unfolding times
read_more p count r s = read_then _ _ r (read_then _ _ s (read_done _ _))

pub unread_more : {A : Type 0} (p : Parser A) (count : ℕ) {a b : Reading} {x : A} {at : ℕ} → IsRead p a b x →
    IsUnreadable (times count p) b at → IsUnreadable (times (suc count) p) a at
unfolding times
unread_more p count r u = unread_then _ _ r (unread_first _ _ u)

pub unread_one : {A : Type 0} (p : Parser A) (count : ℕ) {a : Reading} {at : ℕ} → IsUnreadable p a at →
    IsUnreadable (times (suc count) p) a at
unfolding times
unread_one p count u = unread_first _ _ u

pub read_none : {A : Type 0} (p : Parser A) (a : Reading) → IsRead (times 0 p) a a []
unfolding times
read_none p a = read_done [] a

-- of `total` elements these are read, and `count` remain
pub record Continues {A : Type 0} (p : Parser A) (total : ℕ) (start : Reading) (count : ℕ) (here : Reading)
    (got : List A) : Type 0 where
  pub all : (later : Reading) (xs : List A) → IsRead (times count p) here later xs →
      IsRead (times total p) start later (got ++ xs)
  pub fails : (at : ℕ) → IsUnreadable (times count p) here at → IsUnreadable (times total p) start at

pub continues_start : {A : Type 0} (p : Parser A) (total : ℕ) (start : Reading) (count : ℕ) (got : List A) →
    count ≡ total → got ≡ [] → Continues p total start count start got
continues_start p total start count got e none =
    record { all = λ later xs r. rw none (rw e at r); fails = λ at u. rw e at u }

pub continues_next : {A : Type 0} (p : Parser A) (total : ℕ) (start : Reading) (count left : ℕ) (here there : Reading)
    (got : List A) (x : A) → left ≡ suc count → Continues p total start left here got → IsRead p here there x →
    Continues p total start count there (got ++ x ∷ [])
continues_next p total start count left here there got x e c r = record {
  all = λ later xs s. rw append_assoc (c.all later (x ∷ xs) (rw e (read_more p count r s)));
  fails = λ at u. c.fails at (rw e (unread_more p count r u));
}

pub continues_bad : {A : Type 0} (p : Parser A) (total : ℕ) (start : Reading) (count left : ℕ) (here : Reading)
    (got : List A) (at : ℕ) → left ≡ suc count → Continues p total start left here got → IsUnreadable p here at →
    IsUnreadable (times total p) start at
continues_bad p total start count left here got at e c u = c.fails at (rw e (unread_one p count u))

pub continues_end : {A : Type 0} (p : Parser A) (total : ℕ) (start : Reading) (count : ℕ) (here : Reading)
    (got : List A) → count ≡ 0 → Continues p total start count here got → IsRead (times total p) start here got
continues_end p total start count here got e c = rw append-nil at (c.all here [] (rw e (read_none p here)))

-- ---- all of the bytes

abbrev pub front : ℕ → List ℕ → Reading
front version bytes = record { version = version; all = bytes; at = 0 }

pub unread_whole : {A : Type 0} (p : ℕ → Parser A) (version : ℕ) (bytes : List ℕ) (start : Reading) (at : ℕ) →
    start ≡ front version bytes → IsUnreadable (p start.version) start at → all_of (p version) bytes ≡ Bad at
unfolding all_of
unread_whole p version bytes start at is u =
    let here = subst (λ (r : Reading). IsUnreadable (p r.version) r at) is u in
    let same : at ≡ here.after = omega (arith, here.field) in
    rw same (ParserLemmas.first_bad (p version) at_end bytes here.after here.found)

end_bad : {A : Type 0} (x : A) (rest : List ℕ) → 0 < length rest → at_end x rest ≡ Bad 0
unfolding at_end
end_bad x [] lt = absurd (omega (arith, lt))
end_bad x (b ∷ rest) lt = refl

contradiction : IsTrue false → ⊥
contradiction e = cc

-- b says whether the reader is at its end
abbrev pub Tells : Bool → Reading → Type 0
Tells b f = IsTrue b ↔ (length f.all ≤ f.at)

pub left_over : {A : Type 0} (p : ℕ → Parser A) (version : ℕ) (bytes : List ℕ) (start f : Reading) (x : A) →
    start ≡ front version bytes → IsRead (p start.version) start f x → Tells false f →
    all_of (p version) bytes ≡ Bad f.at
unfolding all_of
left_over p version bytes start f x is r tells =
    let here = subst (λ (s : Reading). IsRead (p s.version) s f x) is r in
    let lt : f.at < length f.all =
    elim (cases_lt f.at (length f.all)) [ inl lt ↦ lt | inr le ↦ absurd (contradiction (tells.1 le)) ] in
    let more : 0 < length (left f) = omega (arith, length-drop f.at f.all) in
    let same : f.at ≡ length bytes - length (left f) + 0 = omega (arith, here.behind) in
    rw same (ParserLemmas.then_bad (p version) at_end bytes (left f) x 0 here.found (end_bad x (left f) more))

pub unread_end : {A T : Type 0} (p : ℕ → Parser A) (version : ℕ) (bytes : List ℕ) (start f : Reading) (x : A)
    (d : DecodeError) (at : ℕ) → start ≡ front version bytes → IsRead (p start.version) start f x → Tells false f →
    d ≡ BadField f.at → ◌≡◌ {A = Result T DecodeError} (Err d) (Err (BadField at)) → all_of (p version) bytes ≡ Bad at
unread_end {A} {T} p version bytes start f x d at is r tells made e =
    let same_at : f.at ≡ at = cc in
    left_over p version bytes start f x is r tells ∙ ap Bad same_at

pub read_whole : {A : Type 0} (p : ℕ → Parser A) (version : ℕ) (bytes : List ℕ) (start f : Reading) (x : A) →
    start ≡ front version bytes → IsRead (p start.version) start f x → Tells true f → p version bytes ≡ Good x []
read_whole p version bytes start f x is r tells =
    let here = subst (λ (s : Reading). IsRead (p s.version) s f x) is r in
    let le : length f.all ≤ f.at = tells.0 refl in
    let none : left f ≡ [] = nil_from_length (left f) (omega (arith, length-drop f.at f.all)) in
    rw none at here.found
