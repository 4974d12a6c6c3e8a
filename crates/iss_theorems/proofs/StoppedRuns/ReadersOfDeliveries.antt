-- Who read the evidence among deliveries in sequence: the reader of the first ones, or that of the later ones.
use Rattle.std.proofs.Common.{◌≡◌, ℕ, zero, suc, ◌+◌, List, [], ◌∷◌, ◌++◌, Option, Some, None, refl, sym, ap, ◌∙◌, arith}
use Rattle.iss_rules.specs.Ends.{End}
use Rattle.iss_model.specs.Courses.{Machines}
use Rattle.iss_model.specs.Driver.{Driver, Upshot, calms, delivers, delivers_each, pumps, unless}
use Rattle.iss_theorems.specs.Readers.{addressee, reader_at, reader_of_calm, reader_of_each, reader_of_pump}

-- The reader of one delivery or pump and the later ones.
reader-step : {Msg : Type 0} (o : Option End) (d : Upshot (Machines Msg)) → d.ended ≡ o → (f : Machines Msg → Upshot (Machines Msg)) (here : Option ℕ) (all some more : Machines Msg → Option ℕ) →
    ((u : Machines Msg) → all u ≡ reader_at (f u).ended (some u) (more (f u).state)) →
    reader_at o here (all d.state) ≡ reader_at (unless o d f).ended (reader_at o here (some d.state)) (more (unless o d f).state)
reader-step None d e f here all some more h = h d.state
reader-step (Some x) d e f here all some more h = sym (ap (λ (o : Option End). reader_at o here (more d.state)) e)

module _ {Msg : Type 0} (W : Driver (Machines Msg)) where
  pub reader-append : (xs ys : List ℕ) (w : Machines Msg) →
      reader_of_each W (xs ++ ys) w ≡ reader_at (delivers_each W xs w).ended (reader_of_each W xs w) (reader_of_each W ys (delivers_each W xs w).state)
  reader-append [] ys w = refl
  reader-append (x ∷ xs) ys w =
      reader-step (delivers W w x).ended (delivers W w x) refl (λ u. delivers_each W xs u) (addressee w x)
      (λ u. reader_of_each W (xs ++ ys) u) (λ u. reader_of_each W xs u) (λ u. reader_of_each W ys u) (λ u. reader-append xs ys u)

  pub reader-plus : (i k : ℕ) (w : Machines Msg) →
      reader_of_calm W (i + k) w ≡ reader_at (calms W i w).ended (reader_of_calm W i w) (reader_of_calm W k (calms W i w).state)
  reader-plus zero k w = let e : zero + k ≡ k = omega arith in ap (λ (n : ℕ). reader_of_calm W n w) e
  reader-plus (suc i) k w =
      let e : suc i + k ≡ suc (i + k) = omega arith in
      ap (λ (n : ℕ). reader_of_calm W n w) e
      ∙ reader-step (pumps W w).ended (pumps W w) refl (λ u. calms W i u) (reader_of_pump W w)
      (λ u. reader_of_calm W (i + k) u) (λ u. reader_of_calm W i u) (λ u. reader_of_calm W k u) (λ u. reader-plus i k u)
