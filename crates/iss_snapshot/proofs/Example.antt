-- An example: a replica enters epoch 1 after three slots with empty batches; one leaf of its key is used.
use Rattle.std.proofs.Common.{◌≡◌, ℕ, List, [], ◌∷◌, refl}
use Rattle.iss_request.specs.Fields.{Good}
use Rattle.iss_request.specs.Formats.{count_field, parse_batch, parse_count, parse_rest, parse_value, spell_batch, spell_count, spell_value}
use Rattle.iss_request.specs.Parsing.{◌>>=◌, block, byte, done, number, such_that, times}
use Rattle.iss_request.specs.declared.requests.Value.TheVariants.{Batch as Value_batch}
use Rattle.iss_snapshot.specs.declared.snapshots.Snapshot.{Snapshot}
use Rattle.iss_snapshot.specs.Snapshots.{equal_epochs, parse_body, parse_counted, parse_epochs, parse_kind, parse_snapshot, parse_span, parse_to, spell_snapshot}

abbrev first : Snapshot
first = record {
  from = record { 0 = 0 };
  to = record { 0 = 1 };
  epochs = (Value_batch [] ∷ Value_batch [] ∷ Value_batch [] ∷ []) ∷ [];
  leaf = 1;
  waiting = [];
  certs = [];
  votes = [];
  early = [];
}

-- kind, from, to, three values, leaf, and four counts
abbrev bytes : List ℕ
bytes =
    5 ∷ 0 ∷ 0 ∷ 0 ∷ 0 ∷ 0 ∷ 0 ∷ 0 ∷ 0 ∷ 0 ∷ 0 ∷ 0 ∷ 0 ∷ 0 ∷ 0 ∷ 0 ∷ 1 ∷ 1 ∷ 0 ∷ 1 ∷ 0 ∷ 1 ∷ 0 ∷ 0 ∷ 0 ∷ 0 ∷ 1 ∷ 0 ∷ 0 ∷ 0 ∷ 0
    ∷ 0 ∷ 0 ∷ 0 ∷ 0 ∷ 0 ∷ 0 ∷ 0 ∷ 0 ∷ 0 ∷ 0 ∷ []

encoded : spell_snapshot 1 first ≡ bytes
unfolding spell_snapshot spell_value spell_batch spell_count
encoded = refl

decoded : parse_snapshot 1 (equal_epochs 3) [] bytes ≡ Good first []
unfolding parse_snapshot parse_span parse_kind parse_to parse_epochs parse_body parse_counted parse_value parse_batch parse_count parse_rest count_field ◌>>=◌ block byte done number such_that times
decoded = refl
