-- What a payload asks of the store. All other payloads are malformed.
--
--   get      0, the key's length (1 byte), the key
--   put      1, the key's length (1 byte), the key, the value, which is all that is left
--   delete   2, the key's length (1 byte), the key
use Rattle.std.specs.Prelude.{ℕ, ◌==◌, nat_le, Bool, if◌then◌else◌, List, [], ◌∷◌, length, take, drop, Option, Some, None}
use Rattle.iss_reply.specs.declared.commands.Action.{Action}
use Rattle.iss_reply.specs.declared.commands.Action.TheVariants.{Get, Put, Delete}

-- a command as contracts see it; only a put has a value
pub record CommandView : Type 0 where
  pub action : Action
  pub key : List ℕ
  pub value : List ℕ

-- the action of a payload's first byte
abbrev pub action_of : ℕ → Option Action
action_of kind = if kind == 0 then Some Get else if kind == 1 then Some Put else if kind == 2 then Some Delete else None

-- whether a key of n bytes fits a rest of m bytes: only a put may have bytes behind its key
abbrev pub fits : Action → ℕ → ℕ → Bool
fits Get n m = n == m
fits Put n m = nat_le n m
fits Delete n m = n == m

-- the command with a key of n bytes at the start of the rest
abbrev pub command_in : Option Action → ℕ → List ℕ → Option CommandView
command_in None n rest = None
command_in (Some action) n rest =
    if fits action n (length rest) then Some (record { action = action; key = take n rest; value = drop n rest })
    else None

-- the command of a payload, if it is not malformed
-- rule: Replies: A payload is a get, put or delete of a key, with bytes behind the key only in a put
abbrev pub command_of : List ℕ → Option CommandView
command_of [] = None
command_of (kind ∷ []) = None
command_of (kind ∷ n ∷ rest) = command_in (action_of kind) n rest
