-- The votes of epochs without a certificate, where there are further certificates.
use Rattle.std.proofs.Common.{◌≡◌, ℕ, Bool, true, false, cond, eqb, not, ◌&&◌, List, [], ◌∷◌, ◌++◌, Option, Some, refl, sym, ap, ◌∙◌, is_some, true≢false}
use Rattle.std.specs.List.{filter}
use Rattle.iss_checkpoint.specs.declared.votes.Cert.{Cert}
use Rattle.iss_checkpoint.specs.declared.votes.Vote.{Vote}
use Rattle.iss_rules.specs.Votes.{cert_on, is_open}

pub cert-behind : (s a b : List Cert) (e : ℕ) → cert_on a e ≡ cert_on b e → cert_on (s ++ a) e ≡ cert_on (s ++ b) e
cert-behind [] a b e q = q
cert-behind (x ∷ s) a b e q = ap (λ (o : Option Cert). cond (eqb x.epoch.0 e) (Some x) o) (cert-behind s a b e q)

pub open-behind : (s a : List Cert) (v : Vote) → is_open (s ++ a) v ≡ (is_open s v && is_open a v)
open-behind [] a v = refl
open-behind (x ∷ s) a v = go (eqb x.epoch.0 v.epoch.0) (open-behind s a v)
  where
    go : (b : Bool) → is_open (s ++ a) v ≡ (is_open s v && is_open a v) →
        not (is_some (cond b (Some x) (cert_on (s ++ a) v.epoch.0))) ≡ (not (is_some (cond b (Some x) (cert_on s v.epoch.0))) && is_open a v)
    go true ih = refl
    go false ih = ih

pub filter-both : (p q r : Vote → Bool) → ((v : Vote) → p v ≡ (q v && r v)) → (vs : List Vote) → filter p vs ≡ filter q (filter r vs)
filter-both p q r h [] = refl
filter-both p q r h (v ∷ vs) = go (p v) (q v) (r v) refl refl refl (h v) (filter-both p q r h vs)
  where
    go : (a b d : Bool) → p v ≡ a → q v ≡ b → r v ≡ d → a ≡ (b && d) → filter p vs ≡ filter q (filter r vs) →
        cond a (v ∷ filter p vs) (filter p vs) ≡ filter q (cond d (v ∷ filter r vs) (filter r vs))
    go true true true x y z e ih = ap (λ (ws : List Vote). v ∷ ws) ih ∙ ap (λ (t : Bool). cond t (v ∷ filter q (filter r vs)) (filter q (filter r vs))) (sym y)
    go true true false x y z e ih = absurd (true≢false e)
    go true false d x y z e ih = absurd (true≢false e)
    go false true true x y z e ih = absurd (true≢false (sym e))
    go false true false x y z e ih = ih
    go false false true x y z e ih = ih ∙ ap (λ (t : Bool). cond t (v ∷ filter q (filter r vs)) (filter q (filter r vs))) (sym y)
    go false false false x y z e ih = ih
