use Rattle.std.proofs.Common.{◌≡◌, List, [], Option, Bool, true, false, refl, subst, ◌⊎◌, inl, inr}
use Rattle.std.specs.Prelude.{◌&&◌}
use Rattle.clap.specs.Words.{App, Row, Text, Kinds, IsAmong, fault_of, is_simple, is_simple_and_free, subcommand_of}
use Rattle.clap.specs.declared.error.ErrorKind.{ErrorKind}
use Rattle.clap.specs.declared.error.ErrorKind.TheVariants.{OutOfMemory}
use Rattle.clap.proofs.OnLiterals.{clap_on_literals}
use Rattle.iss_words.specs.Commands.{commands}

pub commands_are_free : is_simple_and_free commands ≡ true
unfolding clap_on_literals
commands_are_free = refl

first_of_both : (x y : Bool) → (x && y) ≡ true → x ≡ true
first_of_both true y e = refl
first_of_both false y e = e

commands_are_simple : is_simple commands ≡ true
commands_are_simple = first_of_both _ _ commands_are_free

-- what a parse says, at the commands
pub taken_of : (a : App) (ws : List Text) → a ≡ commands → (is_simple_and_free a ≡ true → fault_of a ws ≡ []) → fault_of commands ws ≡ []
taken_of a ws e h = subst (λ (x : App). is_simple_and_free x ≡ true → fault_of x ws ≡ []) e h commands_are_free

pub named_of : (a : App) (ws : List Text) (found : Option (Text × List Row)) → a ≡ commands → (is_simple a ≡ true → found ≡ subcommand_of a ws) → found ≡ subcommand_of commands ws
named_of a ws found e h = subst (λ (x : App). is_simple x ≡ true → found ≡ subcommand_of x ws) e h commands_are_simple

none_among : (k : ErrorKind) (ks : Kinds) → ks ≡ [] → IsAmong k ks → ⊥
none_among k ks none among = subst (λ (x : Kinds). IsAmong k x) none among

pub refused_of : (a : App) (ws : List Text) (k : ErrorKind) → a ≡ commands
    → (is_simple_and_free a ≡ true → (k ≡ OutOfMemory) ⊎ IsAmong k (fault_of a ws)) → (k ≡ OutOfMemory → ⊥) → fault_of commands ws ≡ [] → ⊥
refused_of a ws k e h other none =
    elim (subst (λ (x : App). is_simple_and_free x ≡ true → (k ≡ OutOfMemory) ⊎ IsAmong k (fault_of x ws)) e h commands_are_free) [
      | inl memory ↦ other memory
      | inr among ↦ none_among k (fault_of commands ws) none among
    ]
