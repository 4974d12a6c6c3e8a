-- Windows move only past what the log holds.
use Rattle.std.proofs.Common.{◌≡◌, inl, inr, ℕ, suc, ◌+◌, ◌<◌, ◌≤◌, true, List, sym, ap, ◌∙◌, subst, arith, true≢false}
use Rattle.std.proofs.lemmas.Bool.Decides.{leb_tells}
use Rattle.iss_base.specs.Lists.{In, Extends}
use Rattle.iss_request.specs.Log.{log_ids}
use Rattle.iss_request.specs.declared.ids.ReqId.{ReqId}
use Rattle.iss_request.specs.declared.requests.Value.{Value}
use Rattle.iss_request.specs.declared.setups.Setup.{Setup}
use Rattle.iss_window.specs.Window.{IsLow, id_of, is_inside, low, place_of}
use Rattle.iss_window.specs.declared.windows.Place.{Place}
use Rattle.iss_window.proofs.KeptLemmas.{is-above, is-below, is-inside}
use Rattle.iss_window.proofs.LowLemmas.{low-least}
use Rattle.iss_rules.specs.Concrete.{rules_of}
use Rattle.iss_rules.proofs.Ids.{has-in, in-has, log_ids-extends}
use Rattle.iss_rules.specs.Rules.{Rules}

-- windows move only past what the log holds
pub record AreWindows (R : Rules) : Type 0 where
  pub kept : (old new : List Value) (d e : ℕ) (x : ReqId) → R.inside old d x ≡ true → Extends old new → d ≤ e →
      (In x (log_ids new) → ⊥) → R.inside new e x ≡ true

-- a number that is inside a window
pub inside-at : (w : ℕ) (ids : List ReqId) (x : ReqId) (at : ℕ) → IsLow ids x.client at → is_inside (place_of w ids x) ≡ true →
    (at ≤ x.number) × (x.number < at + w)
inside-at w ids x at least h = elim (leb_tells (suc x.number) at) [
  | inl t ↦ absurd (true≢false (sym (ap (λ (p : Place). is_inside p) (is-below w ids x at least (omega (arith, t.1))) ∙ h)))
  | inr t ↦ elim (leb_tells (at + w) x.number) [
    | inl u ↦ absurd (true≢false (sym (ap (λ (p : Place). is_inside p) (is-above w ids x at least u.1) ∙ h)))
    | inr u ↦ (omega (arith, t.1), omega (arith, u.1))
  ]
]

pub are-windows : (s : Setup) → AreWindows (rules_of s)
are-windows s = record {
  kept = λ old new d e x h longer le none.
      let c = x.client in
      let a = low (log_ids old) c in
      let b = low (log_ids new) c in
      let first : IsLow (log_ids old) c a = low-least (log_ids old) c in
      let next : IsLow (log_ids new) c b = low-least (log_ids new) c in
      let was = inside-at s.window (log_ids old) x a first h in
      let above : b ≤ x.number = elim (leb_tells (suc x.number) b) [
        | inl t ↦ absurd (none (in-has x (log_ids new) (next.below x.number (omega (arith, t.1)))))
        | inr t ↦ omega (arith, t.1)
      ] in
      let moved : a ≤ b = elim (leb_tells (suc b) a) [
        | inl t ↦
            let there : In (id_of c b) (log_ids old) = in-has (id_of c b) (log_ids old) (first.below b (omega (arith, t.1))) in
            let still : In (id_of c b) (log_ids new) =
            subst (λ (l : List Value). In (id_of c b) (log_ids l)) (sym longer.1) (log_ids-extends (id_of c b) longer.0 old there) in
            absurd (true≢false (sym (has-in (id_of c b) (log_ids new) still) ∙ next.absent))
        | inr t ↦ omega (arith, t.1)
      ] in
      let below : x.number < b + s.window = omega (arith, was.1, moved) in
      sym (ap (λ (p : Place). is_inside p) (is-inside s.window (log_ids new) x b next above below));
}
