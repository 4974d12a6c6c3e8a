-- Reading a message field by field is what the parser does.
use Rattle.std.proofs.Common.{◌≡◌, ℕ, Bool, ◌==◌, ◌||◌, if◌then◌else◌, refl}
use Rattle.iss_request.specs.Fields.{IsRead, IsUnreadable, Reading}
use Rattle.iss_request.specs.Parsing.{Parser, byte}
use Rattle.iss_sb.proofs.Fields.{kind-read, kind-unread}
use Rattle.sb_echo.specs.declared.word.Word.{Word}
use Rattle.sb_echo.specs.Echo.{parse, parse_echo, parse_say}

abbrev pub known : ℕ → Bool
known n = (n == 1) || (n == 2)

abbrev pub after_message : ℕ → ℕ → Parser Word
after_message version message = if message == 1 then parse_say version else parse_echo

pub say-read-then : (v : ℕ) {a b c : Reading} (n : ℕ) (m : Word) → n ≡ 1 → IsRead byte a b n →
    IsRead (parse_say v) b c m → IsRead (parse v) a c m
unfolding parse
say-read-then v n m e h k = kind-read known (after_message v) n 1 m e refl h k

pub say-unread-then : (v : ℕ) {a b : Reading} (n : ℕ) {at : ℕ} → n ≡ 1 → IsRead byte a b n →
    IsUnreadable (parse_say v) b at → IsUnreadable (parse v) a at
unfolding parse
say-unread-then v n e h k = kind-unread known (after_message v) n 1 e refl h k

pub echo-read-then : (v : ℕ) {a b c : Reading} (n : ℕ) (m : Word) → n ≡ 2 → IsRead byte a b n →
    IsRead parse_echo b c m → IsRead (parse v) a c m
unfolding parse
echo-read-then v n m e h k = kind-read known (after_message v) n 2 m e refl h k

pub echo-unread-then : (v : ℕ) {a b : Reading} (n : ℕ) {at : ℕ} → n ≡ 2 → IsRead byte a b n →
    IsUnreadable parse_echo b at → IsUnreadable (parse v) a at
unfolding parse
echo-unread-then v n e h k = kind-unread known (after_message v) n 2 e refl h k
