-- Each call keeps the relation between what is kept and what was noted.
use Rattle.std.proofs.Common.{◌≡◌, ℕ, zero, suc, ◌+◌, ◌-◌, ◌<◌, ◌≤◌, Bool, true, false, ◌||◌, eqb, nat_lt, List, [], ◌∷◌, ◌++◌, slice_index, refl, sym, ap, ◌∙◌, subst, arith}
use Rattle.std.proofs.lemmas.Bool.Decides.{nat_tests}
use Rattle.std.proofs.lemmas.Nat.Bits.{bit_at-zero}
use Rattle.iss_request.specs.Log.{has_id, same_id}
use Rattle.iss_request.specs.declared.ids.ReqId.{ReqId}
use Rattle.iss_request.proofs.Identities.{same_id-tells}
use Rattle.iss_window.specs.declared.windows.Place.TheVariants.{Below, Inside, Above}
use Rattle.iss_window.specs.Window.{IsLow, Noted, and_closed, and_noted, id_of, none_noted, place_of}
use Rattle.iss_window.specs.Kept.{Kept, RefinesNoted, is_held, is_noted, is_set}
use Rattle.iss_window.proofs.LowLemmas.{low-is, low-same}
use Rattle.iss_window.proofs.SpanLemmas.{held-below, held-bit, held-first, held-stray, placed}

-- ---- a place relative to a window

pub is-below : (w : ℕ) (closed : List ReqId) (id : ReqId) (at : ℕ) → IsLow closed id.client at → id.number < at → Below ≡ place_of w closed id
is-below w closed id at h lt =
    let e = low-is closed id.client at h in
    let t : nat_lt id.number at ≡ true = grind (arith, nat_tests) in
    rw (e, t) refl

pub is-inside : (w : ℕ) (closed : List ReqId) (id : ReqId) (at : ℕ) → IsLow closed id.client at → at ≤ id.number → id.number < at + w → Inside ≡ place_of w closed id
is-inside w closed id at h le lt =
    let e = low-is closed id.client at h in
    let t : nat_lt id.number at ≡ false = grind (arith, nat_tests) in
    let u : nat_lt id.number (at + w) ≡ true = grind (arith, nat_tests) in
    rw (e, t, u) refl

pub is-above : (w : ℕ) (closed : List ReqId) (id : ReqId) (at : ℕ) → IsLow closed id.client at → at + w ≤ id.number → Above ≡ place_of w closed id
is-above w closed id at h le =
    let e = low-is closed id.client at h in
    let t : nat_lt id.number at ≡ false = grind (arith, nat_tests) in
    let u : nat_lt id.number (at + w) ≡ false = grind (arith, nat_tests) in
    rw (e, t, u) refl

-- ---- an identity is noted

pub noted-more : (k m : Kept) (n : Noted) (x : ReqId) → RefinesNoted k n → m.lows ≡ k.lows
    → ((id : ReqId) → is_noted m.lows m.bits m.strays id ≡ (same_id id x || is_noted k.lows k.bits k.strays id)) → RefinesNoted m (and_noted n x)
noted-more k m n x st lows is = record {
  noted = λ id. is id ∙ ap (λ t. same_id id x || t) (st.noted id);
  lows = λ client lt. subst (λ (ls : List ℕ). IsLow n.closed client (slice_index ls client)) (sym lows) (st.lows client lt);
}

pub noted-again : (k : Kept) (n : Noted) (x : ReqId) → RefinesNoted k n → has_id x n.all ≡ true → RefinesNoted k (and_noted n x)
noted-again k n x st there = record {
  noted = λ id. st.noted id ∙ go id (same_id id x) refl;
  lows = λ client lt. st.lows client lt;
}
  where
    go : (id : ReqId) (b : Bool) → same_id id x ≡ b → has_id id n.all ≡ (b || has_id id n.all)
    go id true same = ap (λ y. has_id y n.all) (same_id-tells id x same) ∙ there
    go id false same = refl

-- lists with the same identities are interchangeable
pub refines-same : (k : Kept) (n m : Noted) → RefinesNoted k n → ((id : ReqId) → has_id id n.all ≡ has_id id m.all) → ((id : ReqId) → has_id id n.closed ≡ has_id id m.closed) → RefinesNoted k m
refines-same k n m st all closed = record {
  noted = λ id. st.noted id ∙ all id;
  lows = λ client lt. low-same n.closed m.closed client (slice_index k.lows client) closed (st.lows client lt);
}

-- ---- an epoch ends

pub closed : (k m : Kept) (n : Noted) → RefinesNoted k n → ((id : ReqId) → is_noted m.lows m.bits m.strays id ≡ is_noted k.lows k.bits k.strays id)
    → ((client : ℕ) → client < 256 → is_set (slice_index m.bits client) 0 ≡ false) → RefinesNoted m (and_closed n)
closed k m n st same first = record {
  noted = λ id. same id ∙ st.noted id;
  lows = λ client lt. record {
    absent = let here = id_of client (slice_index m.lows client) in
        sym (st.noted here) ∙ sym (same here) ∙ held-first (slice_index m.lows client) (slice_index m.bits client) (has_id here m.strays) ∙ first client lt;
    below = λ t less. let here = id_of client t in
        sym (st.noted here) ∙ sym (same here) ∙ held-below (slice_index m.lows client) (slice_index m.bits client) t (has_id here m.strays) less;
  };
}

-- ---- at the start

pub zero-more : (xs : List ℕ) → ((j : ℕ) → slice_index xs j ≡ 0) → (j : ℕ) → slice_index (xs ++ 0 ∷ []) j ≡ 0
zero-more [] h zero = refl
zero-more [] h (suc j) = refl
zero-more (x ∷ xs) h zero = h zero
zero-more (x ∷ xs) h (suc j) = zero-more xs (λ i. h (suc i)) j

no-bit : (place : ℕ) → is_set 0 place ≡ false
no-bit place = ap (λ b. eqb b 1) (bit_at-zero place)

none-held : (y : ℕ) → is_held 0 0 y false ≡ false
none-held y = placed (is_held 0 0 y false ≡ false) 0 y
    (λ l. absurd (omega (arith, l)))
    (λ a b. held-bit 0 0 y false a b ∙ no-bit (y - 0))
    (λ g. held-stray 0 0 y false g)

pub refines-none : (k : Kept) → ((j : ℕ) → slice_index k.lows j ≡ 0) → ((j : ℕ) → slice_index k.bits j ≡ 0) → k.strays ≡ [] → RefinesNoted k none_noted
refines-none k lows bits none = record {
  noted = λ id.
      ap (λ (xs : List ReqId). is_held (slice_index k.lows id.client) (slice_index k.bits id.client) id.number (has_id id xs)) none
      ∙ ap (λ l. is_held l (slice_index k.bits id.client) id.number false) (lows id.client) ∙ ap (λ b. is_held 0 b id.number false) (bits id.client) ∙ none-held id.number;
  lows = λ client lt. record {
    absent = refl;
    below = λ t less. absurd (let z = lows client in omega (arith, z, less));
  };
}
