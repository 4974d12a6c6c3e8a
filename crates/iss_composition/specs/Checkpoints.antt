-- How logs are chained under a set-up, and whose votes make a certificate. A value is hashed behind the byte 64 and a
-- link behind 66. A quorum of distinct nodes decides.
use Rattle.std.specs.Prelude.{Bool, true, false, ◌&&◌, nat_le, ◌∷◌, ◌++◌, length}
use Rattle.iss_base.specs.Quorum.{all_below, distinct}
use Rattle.iss_request.specs.Fields.{Bad, Good, Parsed}
use Rattle.iss_request.specs.Formats.{parse_value, spell_value, value_string}
use Rattle.iss_request.specs.declared.setups.Setup.{Setup}
use Rattle.iss_composition.specs.Cluster.{Scheme}

-- whether parsing succeeded
abbrev pub is_good : {A : Type 0} → Parsed A → Bool
is_good (Good thing rest) = true
is_good (Bad at) = false

-- A value is hashed after the byte 64. A chain link is hashed after the byte 66: the digest of the log before, and the
-- digest of the value. Votes of a quorum of different nodes make a certificate.
abbrev pub scheme_of : Setup → Scheme
scheme_of s =
    record {
      spells = λ v. is_good (parse_value s.version (spell_value s.version v));
      spelled = λ v. value_string s.version v;
      link = λ before value. 66 ∷ (before ++ value);
      is_quorum = λ ks. all_below s.n ks && (distinct ks && nat_le s.quorum (length ks));
    }
