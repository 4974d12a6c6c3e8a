-- The premises of the laws and facts can be met: the world of the example run meets them.
use Rattle.std.proofs.Common.{◌≡◌, ◌⊎◌, ℕ, Bool, true, false, cond, eqb, List, [], ◌∷◌, refl, sym, ap, ◌∙◌, subst, inl, inr}
use Rattle.sha2.specs.Sha256.{sha256, digest_bytes, hash_after, compress, rounds, schedule, first_words}
use Rattle.iss_base.specs.Lists.{In, same_bytes}
use Rattle.iss_request.specs.Digest.{digest}
use Rattle.iss_request.specs.Formats.{spell_batch, spell_count, spell_value}
use Rattle.iss_request.specs.declared.requests.Value.TheVariants.{Nil as Value_nil, Batch as Value_batch}
use Rattle.iss_sb.specs.declared.effects.To.{To}
use Rattle.iss_sb.specs.declared.effects.To.TheVariants.{All as To_all}
use Rattle.iss_sb.specs.Evidence.{Item, Made, IsHashed, IsSigned, IsString, Separate}
use Rattle.iss_sb.specs.Laws.{IsBroadcast}
use Rattle.iss_sb.specs.Legal.{Front}
use Rattle.iss_sb.proofs.Cases.{different}
use Rattle.pbft_wire.specs.declared.messages.Message.{Message}
use Rattle.pbft_wire.specs.Signed.{Commit}
use Rattle.pbft_wire.specs.Statements.{state_change, string_of}
use Rattle.pbft_views.specs.Claims.{certificate_claims}
use Rattle.sb_pbft.specs.Facts.{HasVoted, IsCertificate, IsDecidedView, IsKnown, IsRooted}
use Rattle.sb_pbft.specs.Makes.{makes}
use Rattle.sb_pbft.specs.Pbft.{pbft}
use Rattle.sb_pbft.proofs.Examples.FourReplicas.{b, certificate, d, from, give_up, nil, p, sig, slot}
use Rattle.sb_pbft.proofs.Safety.PbftIsSafe.{decided-views, pbft-safe, roots}
use Rattle.sb_pbft.proofs.Examples.ByzantineRun.{Items, again, cast, certificate-signed, delivers, good, last, o10, r17, signed-again, signed-all, signed-one, signed-shown, signed-two, t3, t4, two-commits, two_gave_up, z3}

-- ---- its strings have distinct digests: the empty one, that of the batch, that of nil

abbrev pub OneOf : List ℕ → Type 0
OneOf s = (s ≡ string_of p (Value_batch b)) ⊎ (s ≡ string_of p Value_nil)

abbrev pub AreOf : List (List ℕ) → Type 0
AreOf [] = Unit {0}
AreOf (s ∷ ss) = OneOf s × AreOf ss

abbrev pub EachOf : Items → Type 0
EachOf [] = Unit {0}
EachOf (x ∷ xs) = AreOf x.made.strings × EachOf xs

one-of : (ss : List (List ℕ)) (s : List ℕ) → AreOf ss → In s ss → OneOf s
one-of [] s o h = absurd h
one-of (t ∷ ss) s o (inl e) = subst (λ (z : List ℕ). OneOf z) (sym e) o.0
one-of (t ∷ ss) s o (inr h) = one-of ss s o.1 h

pub each-of : (xs : Items) (x : Item Message) (s : List ℕ) → EachOf xs → In x xs → In s x.made.strings → OneOf s
each-of [] x s o h k = absurd h
each-of (y ∷ xs) x s o (inl e) k = one-of y.made.strings s o.0 (subst (λ (z : Item Message). In s z.made.strings) e k)
each-of (y ∷ xs) x s o (inr h) k = each-of xs x s o.1 h k

of-zero : EachOf z3
of-zero = (tt, (tt, ((inl refl, tt), tt)))

of-one : EachOf o10
of-one = ((inl refl, (inr refl, tt)), (tt, ((inl refl, tt), (tt, (tt, (tt, (tt, (tt, (tt, ((inl refl, tt), tt))))))))))

of-two : EachOf t4
of-two = (tt, (tt, ((inl refl, (inl refl, (inr refl, tt))), (tt, tt))))

hashed-of : (s : List ℕ) → IsHashed last s → OneOf s
hashed-of s h = go (eqb h.node 0) (eqb h.node 1) (eqb h.node 2) h.taken
  where
    go : (t u v : Bool) → In h.item (cond t z3 (cond u o10 (cond v t4 []))) → OneOf s
    go true u v k = each-of z3 h.item s of-zero k h.hashed
    go false true v k = each-of o10 h.item s of-one k h.hashed
    go false false true k = each-of t4 h.item s of-two k h.hashed
    go false false false k = absurd k

empty-batch : same_bytes (digest []) d ≡ false
unfolding sha256 digest_bytes hash_after compress rounds schedule first_words spell_batch spell_count spell_value
empty-batch = refl

empty-nil : same_bytes (digest []) nil ≡ false
unfolding sha256 digest_bytes hash_after compress rounds schedule first_words spell_batch spell_count spell_value
empty-nil = refl

batch-nil : same_bytes d nil ≡ false
unfolding sha256 digest_bytes hash_after compress rounds schedule first_words spell_batch spell_count spell_value
batch-nil = refl

abbrev pub IsOne : List ℕ → Type 0
IsOne s = (s ≡ []) ⊎ OneOf s

is-one : (s : List ℕ) → IsString last s → IsOne s
is-one s (inl e) = inl e
is-one s (inr h) = inr (hashed-of s h)

apart : (x y a c : List ℕ) → x ≡ a → y ≡ c → digest x ≡ digest y → digest a ≡ digest c
apart x y a c e f h = ap digest (sym e) ∙ h ∙ ap digest f

pub one-string : (x y : List ℕ) → IsOne x → IsOne y → digest x ≡ digest y → x ≡ y
one-string x y (inl e) (inl f) h = e ∙ sym f
one-string x y (inl e) (inr (inl f)) h = absurd (different (digest []) d empty-batch (apart x y [] (string_of p (Value_batch b)) e f h))
one-string x y (inl e) (inr (inr f)) h = absurd (different (digest []) nil empty-nil (apart x y [] (string_of p Value_nil) e f h))
one-string x y (inr (inl e)) (inl f) h = absurd (different (digest []) d empty-batch (sym (apart x y (string_of p (Value_batch b)) [] e f h)))
one-string x y (inr (inl e)) (inr (inl f)) h = e ∙ sym f
one-string x y (inr (inl e)) (inr (inr f)) h = absurd (different d nil batch-nil (apart x y (string_of p (Value_batch b)) (string_of p Value_nil) e f h))
one-string x y (inr (inr e)) (inl f) h = absurd (different (digest []) nil empty-nil (sym (apart x y (string_of p Value_nil) [] e f h)))
one-string x y (inr (inr e)) (inr (inl f)) h = absurd (different d nil batch-nil (sym (apart x y (string_of p Value_nil) (string_of p (Value_batch b)) e f h)))
one-string x y (inr (inr e)) (inr (inr f)) h = e ∙ sym f

separate : Separate (IsString last)
separate x y h k e = one-string x y (is-one x h) (is-one y k) e

-- ---- the premises of the facts

-- replica 1 committed the batch in view 0, showed its certificate, and proposed it again in view 1, where replica 2
-- prepared it
committed : HasVoted p last 1 3 0 0 d
committed = record { correct = refl; signed = signed-one last (inr (inr (inr (inr (inr (inr (inr (inl refl)))))))) }

showed : IsSigned pbft p last 1 (state_change p 1 (certificate ∷ []))
showed = signed-shown last (inr (inr (inr (inl refl))))

proposed-again : HasVoted p last 1 1 1 0 d
proposed-again = record { correct = refl; signed = signed-again last (inl refl) }

prepared-again : HasVoted p last 2 2 1 0 d
prepared-again = record { correct = refl; signed = signed-two last (inr (inr (inl refl))) }

batch-known : IsKnown p last (Value_batch b)
batch-known = record { hashed = inr (record { node = 0; item = cast; taken = inr (inr (inl refl)); hashed = inl refl }); spelled = refl }

is-certificate : IsCertificate p last certificate
is-certificate = record {
  good = refl;
  signed = λ c i. signed-all last (certificate_claims p certificate) (certificate-signed last (inr (inr (inl refl))) (inr (inr (inr (inr (inr (inr (inr (inr (inr (inl refl))))))))))) c i;
}

-- replica 2 left view 0 before it committed there
record IsQuietAt : Type 0 where
  item : Item Message
  before : Items
  front : Front (item ∷ before) (last 2)
  older : Item Message
  stands : In older before
  gave_up : In {A = To × Message} (To_all, give_up 2 3 1 []) older.made.sends
  committed_it : In {A = To × Message} (To_all, Commit 1 (slot 0) d (sig 2 7 3 1 0 d)) item.made.sends

quiet-at : IsQuietAt
quiet-at = record {
  item = record { input = from 3 (again 3 5); leaf = 7; made = makes p 2 t3 (from 3 (again 3 5)) 7 };
  before = t3;
  front = inl refl;
  older = two_gave_up;
  stands = inr (inr (inl refl));
  gave_up = inl refl;
  committed_it = subst (λ (z : Made Message). In {A = To × Message} (To_all, Commit 1 (slot 0) d (sig 2 7 3 1 0 d)) z.sends) (sym two-commits) (inl refl);
}

-- what the facts and laws say of this world
its-view : (v : ℕ) × IsDecidedView p last v 0 d
its-view = decided-views p good last r17 1 0 (Value_batch b) refl delivers

its-root : IsRooted p last 0 b
its-root = roots p good last r17 separate certificate b is-certificate batch-known refl

its-broadcast : IsBroadcast pbft p last
its-broadcast = pbft-safe p last good r17 separate
