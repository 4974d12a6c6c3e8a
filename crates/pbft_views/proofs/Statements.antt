-- Digests, strings and statements determine what they are of.
use Rattle.std.proofs.Common.{◌≡◌, ℕ, true, List, [], ◌∷◌, ◌++◌, length, refl, sym, ap, ◌∙◌, inl, inr, suc}
use Rattle.sha2.proofs.Facts256.{length-sha256}
use Rattle.iss_base.specs.Lists.{In}
use Rattle.iss_base.proofs.Lists.{ends-same}
use Rattle.iss_request.specs.Fields.{Good}
use Rattle.iss_request.specs.Formats.{parse_value, spell_value}
use Rattle.iss_request.specs.declared.requests.Value.{Value}
use Rattle.iss_sb.specs.declared.effects.Params.{Params}
use Rattle.iss_sb.specs.Statements.{eight_bytes}
use Rattle.iss_sb.proofs.Statements.{statement-same, wide-same}
use Rattle.pbft_wire.specs.declared.messages.Certificate.{Certificate}
use Rattle.pbft_wire.specs.Certificates.{fits_value}
use Rattle.pbft_wire.specs.Statements.{digest_of, marks, state_at, state_change, string_of, tag}
use Rattle.pbft_wire.proofs.Fields.{value-again}

-- ---- strings

good-same : (x y : Value) → Good x [] ≡ Good y [] → x ≡ y
good-same x y h = cc

-- distinct values with encodings have distinct strings
pub one-value : (p : Params) (x y : Value) → fits_value p.setup.version x ≡ true → fits_value p.setup.version y ≡ true →
    string_of p x ≡ string_of p y → x ≡ y
one-value p x y h k e =
    let v = p.setup.version in
    let same : spell_value v x ≡ spell_value v y = cc in
    good-same x y (sym (value-again v x [] h) ∙ ap (λ (s : List ℕ). parse_value v (s ++ [])) same ∙ value-again v y [] k)

pub digest-length : (p : Params) (x : Value) → length (digest_of p x) ≡ 32
digest-length p x = length-sha256 (string_of p x)

-- ---- statements

pub record SameAt (k l v w s t : ℕ) (d e : List ℕ) : Type 0 where
  pub kind : k ≡ l
  pub view : v ≡ w
  pub slot : s ≡ t
  pub digest : d ≡ e

pub at-same : (p : Params) (k l v w s t : ℕ) (d e : List ℕ) → state_at p k v s d ≡ state_at p l w t e →
    SameAt k l v w s t d e
at-same p k l v w s t d e h =
    let a = statement-same 1 p tag k l v w (eight_bytes s ++ d) (eight_bytes t ++ e) h in
    let b = wide-same 7 s t d e a.behind in
    record { kind = a.kind; view = a.number; slot = b.0; digest = b.1 }

-- ---- the statement of a ViewChange determines its certificates up to slot, view and digest

-- there is a certificate of that slot, view and digest
pub record HasMark (p : Params) (c : Certificate) (cs : List Certificate) : Type 0 where
  pub other : Certificate
  pub stands : In other cs
  pub slot : other.slot.0 ≡ c.slot.0
  pub view : other.view ≡ c.view
  pub digest : digest_of p other.value ≡ digest_of p c.value

no-length : (n : ℕ) → suc n ≡ 0 → ⊥
no-length n h = cc

same-length : (n m : ℕ) → suc n ≡ suc m → n ≡ m
same-length n m h = cc

marks-same : (p : Params) (cs ds : List Certificate) (c : Certificate) → length cs ≡ length ds →
    marks p cs ≡ marks p ds → In c cs → HasMark p c ds
marks-same p [] ds c n e h = absurd h
marks-same p (x ∷ cs) [] c n e h = absurd (no-length (length cs) n)
marks-same p (x ∷ cs) (y ∷ ds) c n e h =
    let a = wide-same 7 x.slot.0 y.slot.0 _ _ e in
    let b = wide-same 1 x.view y.view _ _ a.1 in
    let d = ends-same (digest_of p x.value) (digest_of p y.value) (marks p cs) (marks p ds) (digest-length p x.value ∙ sym (digest-length p y.value)) b.1 in
    elim h [
      | inl q ↦ record {
        other = y;
        stands = inl refl;
        slot = sym a.0 ∙ ap (λ (z : Certificate). z.slot.0) (sym q);
        view = sym b.0 ∙ ap (λ (z : Certificate). z.view) (sym q);
        digest = sym d.0 ∙ ap (λ (z : Certificate). digest_of p z.value) (sym q);
      }
      | inr k ↦ let r = marks-same p cs ds c (same-length (length cs) (length ds) n) d.1 k in record { other = r.other; stands = inr r.stands; slot = r.slot; view = r.view; digest = r.digest }
    ]

pub record SameChange (p : Params) (v w : ℕ) (cs ds : List Certificate) : Type 0 where
  pub view : v ≡ w
  pub each : (c : Certificate) → In c cs → HasMark p c ds

pub change-same : (p : Params) (v w : ℕ) (cs ds : List Certificate) → state_change p v cs ≡ state_change p w ds →
    SameChange p v w cs ds
change-same p v w cs ds h =
    let a = statement-same 1 p tag 4 4 v w (length cs ∷ marks p cs) (length ds ∷ marks p ds) h in
    let f : length cs ∷ marks p cs ≡ length ds ∷ marks p ds = a.behind in
    let n : length cs ≡ length ds = cc in
    let m : marks p cs ≡ marks p ds = cc in
    record { view = a.number; each = λ c k. marks-same p cs ds c n m k }
