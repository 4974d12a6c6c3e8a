-- Examples of the last line.
use Rattle.std.proofs.Common.{◌≡◌, ◌∷◌, ◌++◌, [], None, Some, codes, refl}
use Rattle.std.specs.Fmt.{digits}
use Rattle.hex.specs.Hex.{encode_with}
use Rattle.iss_rules.specs.Ends.{Collision, Forged}
use Rattle.iss_replay.specs.Text.{end_line}

ok : end_line None ≡ codes "end ok" ++ 10 ∷ []
ok = refl

forged : end_line (Some (7, Forged (record { by = record { 0 = 3 }; statement = 0 ∷ 171 ∷ []; sig = [] }))) ≡ codes "end forged 7 3 00ab -" ++ 10 ∷ []
unfolding digits encode_with
forged = refl

collision : end_line (Some (12, Collision [] (16 ∷ []))) ≡ codes "end collision 12 - 10" ++ 10 ∷ []
unfolding digits encode_with
collision = refl
