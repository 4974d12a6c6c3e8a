-- The head of each statement of an instance.
use Rattle.std.specs.Prelude.{◌≡◌, ℕ, List, ◌++◌}
use Rattle.iss_request.specs.declared.setups.Setup.{Setup}
use Rattle.iss_sb.specs.Evidence.{Module}
use Rattle.iss_sb.specs.Statements.{head_of}

-- the head of every statement of the instance of leader l in epoch e
abbrev pub instance_head : {Msg : Type 0} → Setup → Module Msg → ℕ → ℕ → List ℕ
instance_head s M e l = head_of s.tag e l M.tag

abbrev pub Names : {Msg : Type 0} → Setup → Module Msg → ℕ → ℕ → List ℕ → Type 0
Names s M e l statement = (rest : List ℕ) × (statement ≡ instance_head s M e l ++ rest)
