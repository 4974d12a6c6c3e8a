-- The relay on a worked example: node 0 leads the segment of the slots 0 and 3.
use Rattle.std.proofs.Common.{◌≡◌, ℕ, List, [], ◌∷◌, ◌++◌, Some, None, refl}
use Rattle.iss_request.specs.declared.ids.NodeId.{NodeId}
use Rattle.iss_request.specs.declared.ids.Slot.{Slot}
use Rattle.iss_request.specs.declared.requests.Batch.{Batch}
use Rattle.iss_request.specs.declared.requests.Value.TheVariants.{Batch as Value_batch}
use Rattle.iss_request.specs.declared.setups.Setup.{Setup}
use Rattle.iss_sb.specs.declared.effects.Input.TheVariants.{Cast, Receive, Timeout}
use Rattle.iss_sb.specs.declared.effects.Params.{Params}
use Rattle.iss_sb.specs.declared.effects.To.TheVariants.{All as To_all}
use Rattle.iss_sb.specs.Evidence.{Item, and_then, delivered}
use Rattle.sb_relay.specs.declared.say.Say.{Say}
use Rattle.iss_keys.specs.Directories.{DirectoryView}
use Rattle.iss_request.specs.Fields.{Good}
use Rattle.iss_request.specs.Formats.{count_field, parse_batch, parse_count, parse_rest, parse_value, spell_batch, spell_count, spell_value}
use Rattle.iss_request.specs.Parsing.{◌>>=◌, block, byte, done, number, such_that, times}
use Rattle.sb_relay.specs.Relay.{asks, parse, relay, spell}

abbrev slot : ℕ → Slot
slot n = record { 0 = n }

abbrev node : ℕ → NodeId
node n = record { 0 = n }

abbrev say : ℕ → Batch → Say
say n batch = record { slot = slot n; batch = batch }

module _ (setup : Setup) (directory : DirectoryView) (b c : Batch) where
  abbrev p : Params
  p = record { setup = setup; epoch = record { 0 = 0 }; leader = node 0; slots = slot 0 ∷ slot 3 ∷ []; directory = directory }

  -- the leader casts b at slot 0: it accepts b and sends it to all
  abbrev after_cast : List (Item Say)
  after_cast = and_then relay p 0 [] (Cast (slot 0) b) 0

  casts : after_cast ≡ record { input = Cast (slot 0) b; leaf = 0; made = record { sends = (To_all, say 0 b) ∷ []; accepted = Some (slot 0, b); strings = []; used = 0 } } ∷ []
  casts = refl

  -- a slot is cast once, and the other one is still free
  casts_once : asks p 0 after_cast (Cast (slot 0) c) ≡ None
  casts_once = refl

  casts_another : asks p 0 after_cast (Cast (slot 3) c) ≡ Some (slot 3, c)
  casts_another = refl

  -- a slot of another segment, and another node than the leader
  no_cast_outside : asks p 0 [] (Cast (slot 1) b) ≡ None
  no_cast_outside = refl

  no_cast_elsewhere : asks p 1 [] (Cast (slot 0) b) ≡ None
  no_cast_elsewhere = refl

  -- node 1 delivers the leader's first batch for slot 0, and no later one
  abbrev after_word : List (Item Say)
  after_word = and_then relay p 1 [] (Receive (node 0) (say 0 b)) 0

  delivers : delivered relay p 1 after_word 0 ≡ Some (Value_batch b)
  delivers = refl

  delivers_first : delivered relay p 1 (and_then relay p 1 after_word (Receive (node 0) (say 0 c)) 0) 0 ≡ Some (Value_batch b)
  delivers_first = refl

  -- not a message of another node, nor one for a slot of another segment; nor does a cast deliver
  no_stranger : delivered relay p 1 (and_then relay p 1 [] (Receive (node 2) (say 0 b)) 0) 0 ≡ None
  no_stranger = refl

  no_word_outside : delivered relay p 1 (and_then relay p 1 [] (Receive (node 0) (say 1 b)) 0) 1 ≡ None
  no_word_outside = refl

  no_word_yet : delivered relay p 0 (and_then relay p 0 after_cast Timeout 0) 0 ≡ None
  no_word_yet = refl

-- the number of the message, the slot, and the empty batch, in each version
abbrev row : List ℕ
row = 1 ∷ 0 ∷ 0 ∷ 0 ∷ 0 ∷ 0 ∷ 0 ∷ 1 ∷ 3 ∷ 1 ∷ 0 ∷ []

abbrev second_row : List ℕ
second_row = 1 ∷ 0 ∷ 0 ∷ 0 ∷ 0 ∷ 0 ∷ 0 ∷ 1 ∷ 3 ∷ 2 ∷ 0 ∷ 0 ∷ []

spelling : spell 1 (say 259 []) ≡ row
unfolding spell_batch spell_count spell_value
spelling = refl

second_spelling : spell 2 (say 259 []) ≡ second_row
unfolding spell_batch spell_count spell_value
second_spelling = refl

-- and it decodes, with the bytes after it left
reading : parse 1 (row ++ 7 ∷ []) ≡ Good (say 259 []) (7 ∷ [])
unfolding parse parse_value parse_rest parse_batch parse_count count_field times such_that byte number block done ◌>>=◌
reading = refl
