-- Where each number was inside its window when it was noted, none is behind its client's window, so there is no stray.
use Rattle.std.proofs.Common.{◌≡◌, ⊎_elim, ℕ, ◌+◌, ◌<◌, ◌≤◌, Bool, true, false, ◌||◌, cond, nat_lt, List, [], ◌∷◌, slice_index, refl, sym, ap, ◌∙◌, subst, arith}
use Rattle.std.proofs.lemmas.Bool.{cases_lt}
use Rattle.std.proofs.lemmas.Bool.Decides.{nat_tests}
use Rattle.iss_request.specs.Log.{has_id, same_id}
use Rattle.iss_request.specs.declared.ids.ReqId.{ReqId}
use Rattle.iss_request.proofs.Identities.{same_id-self, same_id-tells}
use Rattle.iss_window.specs.declared.windows.Place.TheVariants.{Below, Inside, Above}
use Rattle.iss_window.specs.History.{AreInside, Moment, noted_after}
use Rattle.iss_window.specs.History.Moment.{Notes, Ends}
use Rattle.iss_window.specs.Window.{Noted, and_closed, and_noted, id_of, low, none_noted, place_in}
use Rattle.iss_window.specs.Kept.{IsTable, Kept, RefinesNoted}
use Rattle.iss_window.proofs.LowLemmas.{low-is, low-least}
use Rattle.iss_window.proofs.SpanLemmas.{held-stray}

low-rises : (a b : List ReqId) (client : ℕ) → ((id : ReqId) → has_id id a ≡ true → has_id id b ≡ true) → low a client ≤ low b client
low-rises a b client sub = ⊎_elim
    (λ (lt : low b client < low a client).
    let there = sub (id_of client (low b client)) ((low-least a client).below (low b client) lt) in
    absurd (let bad : true ≡ false = sym there ∙ (low-least b client).absent in cc))
    (λ le. le)
    (cases_lt (low b client) (low a client))

inside-is : (from width number : ℕ) → place_in from width number ≡ Inside → number < from + width
inside-is from width number h = go (nat_lt number from) refl (nat_lt number (from + width)) refl h
  where
    go : (a : Bool) → nat_lt number from ≡ a → (b : Bool) → nat_lt number (from + width) ≡ b → cond a Below (cond b Inside Above) ≡ Inside → number < from + width
    go true e b f h = cc
    go false e true f h = grind (arith, nat_tests)
    go false e false f h = cc

-- no noted number is behind its client's window
record NoneBehind (width : ℕ) (n : Noted) : Type 0 where
  within : (id : ReqId) → has_id id n.all ≡ true → id.number < low n.closed id.client + width
  older : (id : ReqId) → has_id id n.closed ≡ true → has_id id n.all ≡ true

none-behind : (width : ℕ) (n : Noted) (ms : List Moment) → NoneBehind width n → AreInside width n ms → NoneBehind width (noted_after n ms)
none-behind width n [] h inside = h
none-behind width n (Notes x ∷ ms) h inside = none-behind width (and_noted n x) ms (record {
  within = λ id there. among id (same_id id x) refl there;
  older = λ id there. later (same_id id x) (has_id id n.all) (h.older id there);
}) inside.1
  where
    among : (id : ReqId) (b : Bool) → same_id id x ≡ b → (b || has_id id n.all) ≡ true → id.number < low n.closed id.client + width
    among id true e k = subst (λ (i : ReqId). i.number < low n.closed i.client + width) (sym (same_id-tells id x e)) (inside-is (low n.closed x.client) width x.number inside.0)
    among id false e k = h.within id k

    later : (a b : Bool) → b ≡ true → (a || b) ≡ true
    later true b e = refl
    later false b e = e
none-behind width n (Ends ∷ ms) h inside = none-behind width (and_closed n) ms (record {
  within = λ id there. let up = low-rises n.closed n.all id.client h.older in let lt = h.within id there in omega (arith, up, lt);
  older = λ id there. there;
}) inside

none-at-first : (width : ℕ) → NoneBehind width none_noted
none-at-first width = record { within = λ id there. cc; older = λ id there. there }

abbrev pub NoStrays : Kept → List Moment → Type 0
NoStrays k ms = k.width ≤ 64 → RefinesNoted k (noted_after none_noted ms) → AreInside k.width none_noted ms → k.strays ≡ []

pub no-strays : (k : Kept) (ms : List Moment) → IsTable k.lows k.bits k.strays → NoStrays k ms
no-strays k ms h narrow st inside = go k.strays refl
  where
    n : Noted
    n = noted_after none_noted ms

    stray : (x : ReqId) → has_id x k.strays ≡ true → x.number < slice_index k.lows x.client + 64
    stray x there =
        let far = (h.spans x.client).behind x refl there in
        let held = held-stray (slice_index k.lows x.client) (slice_index k.bits x.client) x.number (has_id x k.strays) far in
        let noted : has_id x n.all ≡ true = sym (st.noted x) ∙ held ∙ there in
        let lt = (none-behind k.width none_noted ms (none-at-first k.width) inside).within x noted in
        let low_is = low-is n.closed x.client (slice_index k.lows x.client) (st.lows x.client (h.clients x there)) in
        omega (arith, lt, low_is, narrow)

    go : (xs : List ReqId) → k.strays ≡ xs → xs ≡ []
    go [] e = refl
    go (x ∷ xs) e =
        let there : has_id x k.strays ≡ true = ap (λ (ys : List ReqId). has_id x ys) e ∙ ap (λ b. b || has_id x xs) (same_id-self x) in
        let lt = stray x there in
        let far = (h.spans x.client).behind x refl there in
        absurd (omega (arith, lt, far))
