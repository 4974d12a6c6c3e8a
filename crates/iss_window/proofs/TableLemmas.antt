-- The spans of all clients: a number more, and a client's span that moved.
use Rattle.std.proofs.Common.{◌≡◌, ◌≢◌, ⊎_elim, ℕ, ◌+◌, ◌-◌, ◌^◌, ◌<◌, ◌≤◌, Bool, true, false, cond, ◌&&◌, ◌||◌, eqb, List, [], ◌∷◌, length, slice_index, slice_set, refl, sym, ap, ◌∙◌, subst, arith}
use Rattle.std.proofs.lemmas.List.{get_or-set_same, get_or-set_other, length-set}
use Rattle.std.specs.List.{list_any}
use Rattle.std.specs.BTreeMap.{is_at}
use Rattle.std.specs.Ordering.{is_eq, nat_cmp, ordering_then}
use Rattle.std.specs.declared.cmp.Ordering.{Ordering}
use Rattle.std.specs.declared.cmp.Ordering.TheVariants.{Less, Equal, Greater}
use Rattle.iss_base.proofs.Lists.{eqb-same, eqb-other, is-eq, same_number, same_or_not}
use Rattle.iss_request.specs.Log.{has_id, same_id}
use Rattle.iss_request.specs.declared.ids.ReqId.{ReqId}
use Rattle.iss_request.specs.contracts.ids.ReqIdOrd.TheImpl as id_ord
use Rattle.iss_request.proofs.Identities.{same_id-flip, same_id-tells}
use Rattle.iss_window.specs.declared.spans.Span.{Span}
use Rattle.iss_window.specs.Kept.{IsMoved, IsSpan, IsTable, is_held, is_noted, is_set}
use Rattle.iss_window.proofs.SpanLemmas.{held-more-bits, held-more-strays}

-- ---- the set of strays

abbrev pub id_order : ReqId → ReqId → Ordering
id_order = (id_ord.ghosts).cmp

order-tells : (a b : ReqId) → is_eq (id_order a b) ≡ same_id a b
order-tells a b = by-number (nat_cmp a.client b.client) ∙ ap (λ t. t && eqb a.number b.number) (same_number a.client b.client)
  where
    by-number : (o : Ordering) → is_eq (ordering_then o (nat_cmp a.number b.number)) ≡ (is_eq o && eqb a.number b.number)
    by-number Less = refl
    by-number Equal = same_number a.number b.number
    by-number Greater = refl

pub found-has_id : (x : ReqId) (xs : List ReqId) → list_any (is_at (id_order x)) xs ≡ has_id x xs
found-has_id x [] = refl
found-has_id x (y ∷ ys) = ap (λ b. b || list_any (is_at (id_order x)) ys) (order-tells x y) ∙ ap (λ b. same_id x y || b) (found-has_id x ys)

pub has-changed : (old new : List ReqId) (x id : ReqId) (b : Bool) → list_any (is_at (id_order id)) new ≡ cond (is_at (id_order x) id) b (list_any (is_at (id_order id)) old)
    → has_id id new ≡ cond (same_id x id) b (has_id id old)
has-changed old new x id b h =
    sym (found-has_id id new) ∙ h ∙ ap (λ t. cond t b (list_any (is_at (id_order id)) old)) (order-tells x id) ∙ ap (λ t. cond (same_id x id) b t) (found-has_id id old)

pub has-more : (old new : List ReqId) (x id : ReqId) → has_id id new ≡ cond (same_id x id) true (has_id id old) → has_id id new ≡ (same_id id x || has_id id old)
has-more old new x id h = h ∙ as-or (same_id x id) (has_id id old) ∙ ap (λ t. t || has_id id old) (same_id-flip x id)
  where
    as-or : (a b : Bool) → cond a true b ≡ (a || b)
    as-or true b = refl
    as-or false b = refl

-- ---- a number is noted by its bit

module _ (lows bits : List ℕ) (strays : List ReqId) (x : ReqId) (new : ℕ) (within : x.client < length bits) where
  pub bits-more : slice_index lows x.client ≤ x.number → x.number < slice_index lows x.client + 64
      → ((i : ℕ) → is_set new i ≡ (eqb i (x.number - slice_index lows x.client) || is_set (slice_index bits x.client) i))
      → (id : ReqId) → is_noted lows (slice_set bits x.client new) strays id ≡ (same_id id x || is_noted lows bits strays id)
  bits-more le lt is id = ⊎_elim here other (same_or_not id.client x.client)
    where
      here : id.client ≡ x.client → is_noted lows (slice_set bits x.client new) strays id ≡ (same_id id x || is_noted lows bits strays id)
      here e =
          let low : slice_index lows id.client ≡ slice_index lows x.client = ap (λ k. slice_index lows k) e in
          let old : slice_index bits id.client ≡ slice_index bits x.client = ap (λ k. slice_index bits k) e in
          let now : slice_index (slice_set bits x.client new) id.client ≡ new = ap (λ k. slice_index (slice_set bits x.client new) k) e ∙ get_or-set_same bits x.client new 0 within in
          let is_x : same_id id x ≡ eqb id.number x.number = ap (λ k. eqb k x.client && eqb id.number x.number) e ∙ ap (λ t. t && eqb id.number x.number) (eqb-same x.client) in
          ap (λ b. is_held (slice_index lows id.client) b id.number (has_id id strays)) now
          ∙ ap (λ l. is_held l new id.number (has_id id strays)) low
          ∙ held-more-bits (slice_index lows x.client) (slice_index bits x.client) new x.number id.number (has_id id strays) le lt is
          ∙ sym (ap (λ t. t || is_noted lows bits strays id) is_x
          ∙ ap (λ l. eqb id.number x.number || is_held l (slice_index bits id.client) id.number (has_id id strays)) low
          ∙ ap (λ b. eqb id.number x.number || is_held (slice_index lows x.client) b id.number (has_id id strays)) old)

      other : id.client ≢ x.client → is_noted lows (slice_set bits x.client new) strays id ≡ (same_id id x || is_noted lows bits strays id)
      other ne =
          let no_x : same_id id x ≡ false = ap (λ t. t && eqb id.number x.number) (eqb-other id.client x.client ne) in
          ap (λ b. is_held (slice_index lows id.client) b id.number (has_id id strays)) (get_or-set_other bits x.client id.client new 0 ne)
          ∙ sym (ap (λ t. t || is_noted lows bits strays id) no_x)

  pub bits-table : IsTable lows bits strays → x.number < 2 ^ 32 → slice_index lows x.client ≤ x.number
      → ((i : ℕ) → is_set new i ≡ (eqb i (x.number - slice_index lows x.client) || is_set (slice_index bits x.client) i))
      → IsTable lows (slice_set bits x.client new) strays
  bits-table h small le is = record {
    size = h.size;
    bits_size = length-set bits x.client new ∙ h.bits_size;
    spans = λ k. ⊎_elim
        (λ (e : k ≡ x.client). subst (λ (j : ℕ). IsSpan j (slice_index lows j) (slice_index (slice_set bits x.client new) j) strays) (sym e)
        (subst (λ (b : ℕ). IsSpan x.client (slice_index lows x.client) b strays) (sym (get_or-set_same bits x.client new 0 within)) more))
        (λ ne. subst (λ (b : ℕ). IsSpan k (slice_index lows k) b strays) (sym (get_or-set_other bits x.client k new 0 ne)) (h.spans k))
        (same_or_not k x.client);
    clients = h.clients;
  }
    where
      marked : (place : ℕ) (b : Bool) → eqb place (x.number - slice_index lows x.client) ≡ b → place < 64 → (b || is_set (slice_index bits x.client) place) ≡ true
          → slice_index lows x.client + place < 2 ^ 32
      marked place true e lt is = let here = is-eq place (x.number - slice_index lows x.client) e in omega (arith, here, small, le)
      marked place false e lt is = (h.spans x.client).marked place lt is

      more : IsSpan x.client (slice_index lows x.client) new strays
      more = record {
        most = (h.spans x.client).most;
        marked = λ place lt set. marked place (eqb place (x.number - slice_index lows x.client)) refl lt (sym (is place) ∙ set);
        behind = (h.spans x.client).behind;
        numbers = (h.spans x.client).numbers;
      }

-- ---- a number is noted as a stray

module _ (lows bits : List ℕ) (old new : List ReqId) (x : ReqId) (is : (id : ReqId) → has_id id new ≡ (same_id id x || has_id id old)) where
  pub strays-more : slice_index lows x.client + 64 ≤ x.number → (id : ReqId) → is_noted lows bits new id ≡ (same_id id x || is_noted lows bits old id)
  strays-more le id =
      ap (λ b. is_held (slice_index lows id.client) (slice_index bits id.client) id.number b) (is id)
      ∙ split (same_id id x) refl
    where
      split : (b : Bool) → same_id id x ≡ b → is_held (slice_index lows id.client) (slice_index bits id.client) id.number (b || has_id id old)
          ≡ (b || is_noted lows bits old id)
      split true e =
          let here = same_id-tells id x e in
          let far : slice_index lows id.client + 64 ≤ x.number = subst (λ (k : ReqId). slice_index lows k.client + 64 ≤ x.number) (sym here) le in
          held-more-strays (slice_index lows id.client) (slice_index bits id.client) x.number id.number true (has_id id old) far (λ t. ap (λ (k : ReqId). k.number) here)
      split false e = refl

  pub strays-table : IsTable lows bits old → x.client < 256 → x.number < 2 ^ 32 → slice_index lows x.client + 64 ≤ x.number → IsTable lows bits new
  strays-table h client small le = record {
    size = h.size;
    bits_size = h.bits_size;
    spans = λ k. record {
      most = (h.spans k).most;
      marked = (h.spans k).marked;
      behind = λ id e there. either id (λ here. subst (λ (c : ℕ). slice_index lows c + 64 ≤ id.number) e (subst (λ (i : ReqId). slice_index lows i.client + 64 ≤ i.number) (sym here) le)) ((h.spans k).behind id e) there;
      numbers = λ id e there. either id (λ here. subst (λ (i : ReqId). i.number < 2 ^ 32) (sym here) small) ((h.spans k).numbers id e) there;
    };
    clients = λ id there. either id (λ here. subst (λ (i : ReqId). i.client < 256) (sym here) client) (h.clients id) there;
  }
    where
      either : {P : Type 0} (id : ReqId) → (id ≡ x → P) → (has_id id old ≡ true → P) → has_id id new ≡ true → P
      either {P} id first second there = go (same_id id x) refl (sym (is id) ∙ there)
        where
          go : (b : Bool) → same_id id x ≡ b → (b || has_id id old) ≡ true → P
          go true e k = first (same_id-tells id x e)
          go false e k = second k

-- ---- a client's span moved

module _ (lows bits : List ℕ) (c low old : ℕ) (t : Span) (before after : List ReqId) (within : c < length lows) (size : length bits ≡ length lows)
    (low_is : low ≡ slice_index lows c) (old_is : old ≡ slice_index bits c) (moved : IsMoved c (record { low = low; bits = old }) t before after) where
  pub spans-same : (id : ReqId) → is_noted (slice_set lows c t.low) (slice_set bits c t.bits) after id ≡ is_noted lows bits before id
  spans-same id = ⊎_elim here other (same_or_not id.client c)
    where
      here : id.client ≡ c → is_noted (slice_set lows c t.low) (slice_set bits c t.bits) after id ≡ is_noted lows bits before id
      here e =
          let in_bits : c < length bits = omega (arith, within, size) in
          ap (λ l. is_held l (slice_index (slice_set bits c t.bits) id.client) id.number (has_id id after))
          (ap (λ k. slice_index (slice_set lows c t.low) k) e ∙ get_or-set_same lows c t.low 0 within)
          ∙ ap (λ b. is_held t.low b id.number (has_id id after)) (ap (λ k. slice_index (slice_set bits c t.bits) k) e ∙ get_or-set_same bits c t.bits 0 in_bits)
          ∙ moved.same id e
          ∙ ap (λ l. is_held l old id.number (has_id id before)) (low_is ∙ sym (ap (λ k. slice_index lows k) e))
          ∙ ap (λ b. is_held (slice_index lows id.client) b id.number (has_id id before)) (old_is ∙ sym (ap (λ k. slice_index bits k) e))

      other : id.client ≢ c → is_noted (slice_set lows c t.low) (slice_set bits c t.bits) after id ≡ is_noted lows bits before id
      other ne =
          ap (λ l. is_held l (slice_index (slice_set bits c t.bits) id.client) id.number (has_id id after)) (get_or-set_other lows c id.client t.low 0 ne)
          ∙ ap (λ b. is_held (slice_index lows id.client) b id.number (has_id id after)) (get_or-set_other bits c id.client t.bits 0 ne)
          ∙ ap (λ s. is_held (slice_index lows id.client) (slice_index bits id.client) id.number s) (moved.others id ne)

  pub spans-table : IsTable lows bits before → c < 256 → IsTable (slice_set lows c t.low) (slice_set bits c t.bits) after
  spans-table h small = record {
    size = length-set lows c t.low ∙ h.size;
    bits_size = length-set bits c t.bits ∙ h.bits_size;
    spans = λ k. ⊎_elim (here k) (other k) (same_or_not k c);
    clients = λ id there. ⊎_elim (λ (e : id.client ≡ c). omega (arith, e, small)) (λ ne. h.clients id (sym (moved.others id ne) ∙ there)) (same_or_not id.client c);
  }
    where
      here : (k : ℕ) → k ≡ c → IsSpan k (slice_index (slice_set lows c t.low) k) (slice_index (slice_set bits c t.bits) k) after
      here k e =
          let in_bits : c < length bits = omega (arith, within, size) in
          subst (λ (j : ℕ). IsSpan j (slice_index (slice_set lows c t.low) j) (slice_index (slice_set bits c t.bits) j) after) (sym e)
          (subst (λ (l : ℕ). IsSpan c l (slice_index (slice_set bits c t.bits) c) after) (sym (get_or-set_same lows c t.low 0 within))
          (subst (λ (b : ℕ). IsSpan c t.low b after) (sym (get_or-set_same bits c t.bits 0 in_bits)) moved.span))

      other : (k : ℕ) → k ≢ c → IsSpan k (slice_index (slice_set lows c t.low) k) (slice_index (slice_set bits c t.bits) k) after
      other k ne =
          subst (λ (l : ℕ). IsSpan k l (slice_index (slice_set bits c t.bits) k) after) (sym (get_or-set_other lows c k t.low 0 ne))
          (subst (λ (b : ℕ). IsSpan k (slice_index lows k) b after) (sym (get_or-set_other bits c k t.bits 0 ne)) (record {
            most = (h.spans k).most;
            marked = (h.spans k).marked;
            behind = λ id e there. (h.spans k).behind id e (sym (moved.others id (λ d. ne (sym e ∙ d))) ∙ there);
            numbers = λ id e there. (h.spans k).numbers id e (sym (moved.others id (λ d. ne (sym e ∙ d))) ∙ there);
          }))

  pub first-same : (k : ℕ) → k ≢ c → is_set (slice_index bits k) 0 ≡ false → is_set (slice_index (slice_set bits c t.bits) k) 0 ≡ false
  first-same k ne h = ap (λ b. is_set b 0) (get_or-set_other bits c k t.bits 0 ne) ∙ h

  pub first-here : (k : ℕ) → k ≡ c → is_set t.bits 0 ≡ false → is_set (slice_index (slice_set bits c t.bits) k) 0 ≡ false
  first-here k e h =
      let in_bits : c < length bits = omega (arith, within, size) in
      ap (λ j. is_set (slice_index (slice_set bits c t.bits) j) 0) e ∙ ap (λ b. is_set b 0) (get_or-set_same bits c t.bits 0 in_bits) ∙ h
