-- The code's test of a proposal is the model's.
use Rattle.std.proofs.Common.{◌≡◌, ℕ, Bool, true, false, ◌&&◌, ◌||◌, List, refl, sym, ap, ◌∙◌}
use Rattle.std.specs.Prelude.{nat_lt}
use Rattle.iss_base.specs.Lists.{same_bytes}
use Rattle.iss_request.specs.Digest.{digest}
use Rattle.iss_sb.specs.declared.effects.Params.{Params}
use Rattle.iss_sb.specs.declared.content.Content.{Content}
use Rattle.hs_tree.specs.declared.certificates.Certificate.{Certificate}
use Rattle.hs_tree.specs.Certificates.{digest_of, view_of}
use Rattle.hs_tree.specs.Tree.{extends, is_known, plain_string}
use Rattle.sb_hotstuff.specs.declared.state.Node.{Node}
use Rattle.sb_hotstuff.specs.Rules.{State, is_allowed, is_just, is_safe, is_timely, may_prepare, node_digest, slots_below}
use Rattle.hs_views.specs.Views.{round_of}
use Rattle.sb_hotstuff.specs.Refines.{RefinesState}

module _ (p : Params) (m : Node) (s : State) (h : RefinesState m s) (view : ℕ) (what : Content) (just : Certificate) where
  pub locked : (parent lock node : List ℕ) (b : Bool) → parent ≡ digest_of just → lock ≡ digest_of m.lock → node ≡ digest (plain_string p.setup.version view parent what) → b ≡ same_bytes node lock →
      b ≡ same_bytes (node_digest p view what just) (digest_of s.lock)
  locked parent lock node b hp hl hn hb =
      hb ∙ ap (λ (z : List ℕ). same_bytes z lock) (hn ∙ ap (λ (z : List ℕ). digest (plain_string p.setup.version view z what)) hp)
      ∙ ap (λ (z : List ℕ). same_bytes (node_digest p view what just) z) (hl ∙ ap (λ (c : Certificate). digest_of c) h.lock)

  abbrev locks : Bool
  locks = same_bytes (node_digest p view what just) (digest_of s.lock)

  abbrev on : Bool
  on = extends s.tree (digest_of just) (digest_of s.lock)

  abbrev above : Bool
  above = nat_lt (view_of s.lock) (view_of just)

  by-lock : (a b c : Bool) → b ≡ false → c ≡ false → a ≡ ((a || b) || c)
  by-lock true false false e f = refl
  by-lock false false false e f = refl
  by-lock a true c e f = absurd cc
  by-lock a false true e f = absurd cc

  view-above : (low high : ℕ) → low ≡ view_of m.lock → high ≡ view_of just → nat_lt low high ≡ above
  view-above low high hl hh = (λ i. nat_lt (hl i) (hh i)) ∙ ap (λ (c : Certificate). nat_lt (view_of c) (view_of just)) h.lock

  extends-is : (parent lock : List ℕ) (b : Bool) → parent ≡ digest_of just → lock ≡ digest_of m.lock → b ≡ extends s.tree parent lock → b ≡ on
  extends-is parent lock b hp hl hb = hb ∙ (λ i. extends s.tree (hp i) (hl i)) ∙ ap (λ (c : Certificate). extends s.tree (digest_of just) (digest_of c)) h.lock

  pub safe-locked : (low high : ℕ) (parent lock : List ℕ) (b c : Bool) → low ≡ view_of m.lock → high ≡ view_of just → nat_lt low high ≡ false →
      parent ≡ digest_of just → lock ≡ digest_of m.lock → b ≡ extends s.tree parent lock → b ≡ false → c ≡ locks → c ≡ is_safe p s view what just
  safe-locked low high parent lock b c hl hh lt hp hk hb e hc =
      hc ∙ by-lock locks on above (sym (extends-is parent lock b hp hk hb) ∙ e) (sym (view-above low high hl hh) ∙ lt)

  -- ---- The whole test

  all-but : (t f s a : Bool) → t ≡ true → f ≡ true → a ≡ true → s ≡ ((t && f) && (s && a))
  all-but true true true true e g h = refl
  all-but true true false true e g h = refl
  all-but false f s a e g h = absurd cc
  all-but true false s a e g h = absurd cc
  all-but true true s false e g h = absurd cc

  pub prepared : (from : ℕ) (t f a b : Bool) → t ≡ is_timely p s from view → t ≡ true → f ≡ (is_just p view just && is_known s.tree (digest_of just)) → f ≡ true →
      a ≡ is_allowed p (round_of view) (slots_below s just) what → a ≡ true → b ≡ is_safe p s view what just → b ≡ may_prepare p s from view what just
  prepared from t f a b ht et hf ef ha ea hb =
      hb ∙ all-but (is_timely p s from view) _ (is_safe p s view what just) _ (sym ht ∙ et) (sym hf ∙ ef) (sym ha ∙ ea)
