-- The composition theorem over every run of a cluster.
use Rattle.std.proofs.Common.{inl, inr, ◌∷◌, ◌++◌, length, arith}
use Rattle.std.proofs.lemmas.Bool.Decides.{leb_tells}
use Rattle.iss_base.specs.Lists.{Chain, In}
use Rattle.iss_base.proofs.Lists.{chain-part}
use Rattle.iss_request.specs.declared.requests.Value.TheVariants.{Batch as Value_batch}
use Rattle.iss_request.specs.declared.setups.Setup.{Setup}
use Rattle.iss_sb.specs.Evidence.{IsString, Module, Separate}
use Rattle.iss_sb.specs.Laws.{IsLawful, IsSafe}
use Rattle.iss_rules.specs.Books.{Signed}
use Rattle.iss_composition.specs.Cluster.{Backed, Cluster, IsTrueLog, Reach, Scheme, adopt, begin, ends, move, rest, world_of}
use Rattle.iss_rules.specs.SoundRules.{IsSoundRules}
use Rattle.iss_composition.specs.Ordered.{Among, IsExact, Ordered}
use Rattle.iss_rules.specs.Past.{before, before_at, epoch_at, leader_at, log_of}
use Rattle.iss_rules.specs.Rules.{Rules}
use Rattle.iss_rules.proofs.Judged.{valid-of}
use Rattle.iss_composition.proofs.Adopts.{good-adopted}
use Rattle.iss_composition.proofs.Agree.{befores-agree, own-true, separate-part, strings-are, true-meet}
use Rattle.iss_composition.proofs.Ends.{good-begun, good-ended, good-rested}
use Rattle.iss_composition.proofs.Good.{Good}
use Rattle.iss_composition.proofs.Moves.{good-moved}
use Rattle.iss_composition.proofs.Once.{once, valid}

-- a scheme that is exact for a book is so for a part of it
exact-part : {Msg : Type 0} (s : Setup) (S : Scheme) (v w : Cluster Msg) → ((x : Signed) → In x v.book → In x w.book) → IsExact s S w → IsExact s S v
exact-part s S v w sub exact = record {
  chained = λ x e a q i. exact.chained x e a q (sub x i);
  quorums = exact.quorums;
}

module _ {Msg : Type 0} (s : Setup) (S : Scheme) (R : Rules) (M : Module Msg) (safe : IsSafe M) (law : IsLawful M) (sound : IsSoundRules s M R) where
  pub good-reach : (w : Cluster Msg) → IsExact s S w → Separate (Among w.strings) → Reach s S R M w → Good s R M w S
  good-reach w exact sep (begin b) = good-begun s S R M w b
  good-reach w exact sep (move {v} i l input leaf r mv) =
      good-moved s S R M safe law sound v w sep
      (good-reach v (exact-part s S v w mv.old_book exact) (separate-part (Among w.strings) (Among v.strings) mv.strings sep) r) i l input leaf mv
  good-reach w exact sep (ends {v} i r en) =
      good-ended s S R M safe sound v w sep
      (good-reach v (exact-part s S v w en.quiet.old_book exact) (separate-part (Among w.strings) (Among v.strings) en.quiet.strings sep) r) i en
  good-reach w exact sep (adopt {v} i piece cert r ad) =
      good-adopted s S R M safe sound v w exact sep
      (good-reach v (exact-part s S v w ad.quiet.old_book exact) (separate-part (Among w.strings) (Among v.strings) ad.quiet.strings sep) r) i piece cert ad
  good-reach w exact sep (rest {v} r rs) =
      good-rested s S R M v w
      (good-reach v (exact-part s S v w rs.quiet.old_book exact) (separate-part (Among w.strings) (Among v.strings) rs.quiet.strings sep) r) rs

  pub ordered : (w : Cluster Msg) → Separate (Among w.strings) → Good s R M w S → Ordered s R M w.pasts
  ordered w sep g = record {
    one = λ i j oki okj.
        let a = log_of R M i (w.pasts i) in
        let b = log_of R M j (w.pasts j) in
        let la : IsTrueLog s R M w.pasts a = own-true s S R M safe sound w sep g i oki in
        let lb : IsTrueLog s R M w.pasts b = own-true s S R M safe sound w sep g j okj in
        elim (leb_tells (length a) (length b)) [
          | inl t ↦ inl (true-meet s S R M safe sound w sep g a b la lb t.1)
          | inr t ↦ inr (true-meet s S R M safe sound w sep g b a lb la (omega (arith, t.1)))
        ];
    once = λ i ok. once s S R M safe sound w sep g (log_of R M i (w.pasts i)) (own-true s S R M safe sound w sep g i ok);
    valid = λ i ok older b x.
        let h : Chain (Backed s R M w.pasts) (x.0 ++ (Value_batch b ∷ older)) = rw x.1 at (own-true s S R M safe sound w sep g i ok) in
        let k = chain-part (Backed s R M w.pasts) x.0 (Value_batch b) older h in
        let y = valid s S R M safe sound w sep g older b (record { log = k.0; is = k.1 }) in
        record {
          node = y.node;
          correct = y.correct;
          newer = y.newer;
          earlier = y.earlier;
          held = y.held;
          start = y.start;
          judged = y.judged;
          valid = valid-of R (before_at R older) (epoch_at R older) (leader_at R older) _ b y.is;
        };
    instances = g.inv;
    broadcasts = λ i e l ok begun leads.
        let log = before R M i (w.pasts i) e in
        let apart : Separate (IsString (world_of s w.pasts e l)) =
        separate-part (Among w.strings) (IsString (world_of s w.pasts e l)) (strings-are s S R M w g e l) sep in
        safe (R.params log e l) (world_of s w.pasts e l) (sound.good log e l leads) (g.inv i e l ok begun leads) apart;
    backed = own-true s S R M safe sound w sep g;
    epochs = λ i j e oki okj lei lej. befores-agree s S R M safe sound w sep g i j oki okj e lei lej;
  }

  pub composition : (w : Cluster Msg) → IsExact s S w → Separate (Among w.strings) → Reach s S R M w → Ordered s R M w.pasts
  composition w exact sep r = ordered w sep (good-reach w exact sep r)
