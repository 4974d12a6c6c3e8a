-- The line of a reply in range: it has no line feed, its form, and the words of one reply alone.
use Rattle.std.proofs.Common.{◌≡◌, ◌≢◌, ℕ, ◌<◌, ◌≤◌, ◌^◌, List, [], ◌∷◌, ◌++◌, length, get_or, append_assoc, Bool, false, true≢false, IsTrue, ◌↔◌, Option, Some, None, decimal, refl, sym, ap, ap₂, ◌∙◌, subst, arith}
use Rattle.std.specs.Prelude.{Result, IfOk, IfNone, IfSome, Ok, Err}
use Rattle.std.proofs.lemmas.Fmt.{decimal_injective}
use Rattle.std.proofs.lemmas.List.{append_cancel_left}
use Rattle.std.proofs.lemmas.List.Splits.{join_with_byte-slice_split}
use Rattle.hex.specs.Hex.{IsBytes}
use Rattle.iss_request.specs.declared.ids.ReqId.{ReqId}
use Rattle.iss_reply.specs.declared.replies.Reply.{Reply}
use Rattle.iss_schedule.specs.Reads.{Reads}
use Rattle.iss_schedule.specs.Words.{IsNumber, Lacks, line_of, word_of, words_of}
use Rattle.iss_schedule.proofs.Encoding.DecimalIsInjective.{decimal_is_number}
use Rattle.iss_schedule.proofs.Encoding.HexIsInjective.{word_injective}
use Rattle.iss_schedule.proofs.Encoding.NoSeparatorInWords.{AllLack, IsBlank, feed, lacks_append, lacks_by_test, lacks_decimal, lacks_line, lacks_word, space, words_of-line_of}
use Rattle.iss_schedule.proofs.Encoding.SplitsAreUnique.{cut_same, lacks_all, uncut}
use Rattle.iss_texts.specs.Bodies.{last_line}
use Rattle.iss_answers.specs.Lines.{AreFormed, AreLastFormed, IsAnswerInRange, IsFormed, IsHex, IsIdFormed, IsIdInRange, IsInRange, id_word, reply_line, reply_name, reply_words}

-- ---- words

id-lacks : (c : ℕ) (id : ReqId) → IsBlank c → IsIdInRange id → Lacks c (id_word id)
id-lacks c id blank ok =
    lacks_append c (decimal id.client) (46 ∷ decimal id.number) (lacks_decimal c id.client (omega (arith, blank.low)) (omega (arith, ok.0)))
    ((λ e. omega (arith, e, blank.low)), lacks_decimal c id.number (omega (arith, blank.low)) (omega (arith, ok.1)))

words-lack : (c : ℕ) (r : Reply) → IsBlank c → IsInRange r → AllLack c (reply_words r)
words-lack c r blank ok = (
  lacks_decimal c r.by.0 (omega (arith, blank.low)) (omega (arith, ok.0)),
  (
    lacks_decimal c r.epoch.0 (omega (arith, blank.low)) ok.1,
    (
      lacks_decimal c r.q (omega (arith, blank.low)) ok.2,
      (id-lacks c r.id blank ok.3, (lacks_word c r.answer blank ok.4.0, lacks_word c r.sig blank ok.5)),
    ),
  ),
)

pub words-are : (r : Reply) → IsInRange r → words_of (line_of (reply_words r)) ≡ reply_words r
words-are r ok = words_of-line_of (reply_words r) (words-lack 32 r space ok)

-- no line feed
pub whole-line : (r : Reply) → IsInRange r → Lacks 10 (reply_line r)
whole-line r ok =
    lacks_append 10 reply_name (32 ∷ line_of (reply_words r)) (lacks_by_test 10 reply_name refl)
    ((λ e. omega (arith, e)), lacks_line (reply_words r) (words-lack 10 r feed ok))

-- ---- one reply for a line

behind-name : (x y : List ℕ) → reply_name ++ 32 ∷ x ≡ reply_name ++ 32 ∷ y → x ≡ y
behind-name x y e = let both = append_cancel_left reply_name (32 ∷ x) (32 ∷ y) e in cc

pub same-id : (a b : ReqId) → IsIdInRange a → IsIdInRange b → id_word a ≡ id_word b → a ≡ b
same-id a b h k e =
    let ac : a.client < 2 ^ 64 = omega (arith, h.0) in
    let bc : b.client < 2 ^ 64 = omega (arith, k.0) in
    let an : a.number < 2 ^ 64 = omega (arith, h.1) in
    let bn : b.number < 2 ^ 64 = omega (arith, k.1) in
    let parts = cut_same 46 (decimal a.client) (decimal b.client) (decimal a.number) (decimal b.number)
    (lacks_decimal 46 a.client (omega arith) ac) (lacks_decimal 46 b.client (omega arith) bc) e in
    both a b (decimal_injective a.client b.client ac bc parts.0) (decimal_injective a.number b.number an bn parts.1)
  where
    both : (a b : ReqId) → a.client ≡ b.client → a.number ≡ b.number → a ≡ b
    both a b p q = ap₂ (λ (c n : ℕ). (let z : ReqId = record { client = c; number = n } in z)) p q

-- equal words, one by one
record Same (r u : Reply) : Type 0 where
  by : decimal r.by.0 ≡ decimal u.by.0
  epoch : decimal r.epoch.0 ≡ decimal u.epoch.0
  q : decimal r.q ≡ decimal u.q
  id : id_word r.id ≡ id_word u.id
  answer : word_of r.answer ≡ word_of u.answer
  sig : word_of r.sig ≡ word_of u.sig

same-words : (r u : Reply) → reply_words r ≡ reply_words u → Same r u
same-words r u e = record { by = cc; epoch = cc; q = cc; id = cc; answer = cc; sig = cc }

abbrev made : ℕ → ℕ → ℕ → ReqId → List ℕ → List ℕ → Reply
made by epoch q id answer sig = record {
  by = record { 0 = by };
  epoch = record { 0 = epoch };
  q = q;
  id = id;
  answer = answer;
  sig = sig;
}

fields-same : (r u : Reply) → r.by.0 ≡ u.by.0 → r.epoch.0 ≡ u.epoch.0 → r.q ≡ u.q → r.id ≡ u.id → r.answer ≡ u.answer → r.sig ≡ u.sig → r ≡ u
fields-same r u by epoch q id answer sig =
    ap (λ x. made x r.epoch.0 r.q r.id r.answer r.sig) by
    ∙ ap (λ x. made u.by.0 x r.q r.id r.answer r.sig) epoch
    ∙ ap (λ x. made u.by.0 u.epoch.0 x r.id r.answer r.sig) q
    ∙ ap (λ x. made u.by.0 u.epoch.0 u.q x r.answer r.sig) id
    ∙ ap (λ x. made u.by.0 u.epoch.0 u.q u.id x r.sig) answer
    ∙ ap (λ x. made u.by.0 u.epoch.0 u.q u.id u.answer x) sig

pub same-reply : (r u : Reply) → IsInRange r → IsInRange u → reply_line r ≡ reply_line u → r ≡ u
same-reply r u h k e =
    let lines = behind-name (line_of (reply_words r)) (line_of (reply_words u)) e in
    let words : reply_words r ≡ reply_words u = sym (words-are r h) ∙ ap words_of lines ∙ words-are u k in
    let same = same-words r u words in
    fields-same r u
    (decimal_injective r.by.0 u.by.0 (omega (arith, h.0)) (omega (arith, k.0)) same.by)
    (decimal_injective r.epoch.0 u.epoch.0 h.1 k.1 same.epoch)
    (decimal_injective r.q u.q h.2 k.2 same.q)
    (same-id r.id u.id h.3 k.3 same.id)
    (word_injective r.answer u.answer h.4.0 k.4.0 same.answer)
    (word_injective r.sig u.sig h.5 k.5 same.sig)

-- ---- what was read

-- what was read of the words after the name was read of the line
pub line-reads : {E : Type 0} (line rest : List ℕ) (r : Result (Option Reply) E) → line ≡ reply_name ++ 32 ∷ rest →
    IfOk r (Reads reply_words IsInRange (words_of rest)) → IfOk r (Reads reply_line IsInRange line)
line-reads line rest (Ok (Some r)) is h =
    (is ∙ ap (λ (l : List ℕ). reply_name ++ 32 ∷ l) (sym (join_with_byte-slice_split 32 rest) ∙ ap line_of h.0), h.1)
line-reads line rest (Ok None) is h =
    λ r ok e. h r ok (ap words_of (behind-name rest (line_of (reply_words r)) (sym is ∙ e)) ∙ words-are r ok)
line-reads line rest (Err x) is h = tt

pub not-named : (line : List ℕ) → ((word : List ℕ) → line ≢ reply_name ++ 32 ∷ word) → (r : Reply) → IsInRange r →
    line ≢ reply_line r
not-named line none r ok e = none (line_of (reply_words r)) e

-- ---- forms

-- the line of a reply has its form
pub line-formed : (r : Reply) → IsInRange r → IsFormed (reply_line r)
line-formed r ok = (
  line_of (reply_words r),
  (
    refl,
    subst AreFormed (sym (words-are r ok)) (
      decimal_is_number r.by.0 (omega (arith, ok.0)),
      decimal_is_number r.epoch.0 ok.1,
      decimal_is_number r.q ok.2,
      (
        (decimal r.id.client, (decimal r.id.number, (refl, decimal_is_number r.id.client (omega (arith, ok.3.0)), decimal_is_number r.id.number (omega (arith, ok.3.1))))),
        (r.answer, (ok.4.0, refl)),
        (r.sig, (ok.5, refl)),
      ),
    ),
  ),
)

-- the last line is no reply's
pub not-last : (r : Reply) → reply_line r ≢ last_line
not-last r e =
    let first : ℕ = 114 in
    let last : ℕ = 101 in
    let heads : first ≡ last = ap (λ (l : List ℕ). get_or l 0 0) e in
    omega (arith, heads)

-- ---- the words of numbers, identities and answers

pub number-not : (words rest : List (List ℕ)) (word : List ℕ) (m most : ℕ) → words ≡ word ∷ rest → word ≡ decimal m → m < 2 ^ 64 → most < m → (n : ℕ) (ws : List (List ℕ)) → n ≤ most → words ≢ decimal n ∷ ws
number-not words rest word m most at is fits over n ws le e =
    let both : word ∷ rest ≡ decimal n ∷ ws = sym at ∙ e in
    let same : word ≡ decimal n = cc in
    let equal = decimal_injective m n fits (omega (arith, le, over, fits)) (sym is ∙ same) in
    omega (arith, equal, over, le)

pub answer-not : (words rest : List (List ℕ)) (word xs : List ℕ) → words ≡ word ∷ rest → word ≡ word_of xs → IsBytes xs → 65535 < length xs → (ys : List ℕ) (ws : List (List ℕ)) → IsAnswerInRange ys → words ≢ word_of ys ∷ ws
answer-not words rest word xs at is fits over ys ws ok e =
    let both : word ∷ rest ≡ word_of ys ∷ ws = sym at ∙ e in
    let same : word ≡ word_of ys = cc in
    let long = ap length (word_injective xs ys fits ok.0 (sym is ∙ same)) in
    omega (arith, long, over, ok.1)

digits-lack : (word : List ℕ) → IsNumber word → Lacks 46 word
digits-lack word h = lacks_all 46 word (length word) (omega arith) (λ k at e. omega (arith, h.0 k at, e))

pub id-uncut : (word : List ℕ) → Lacks 46 word → (a : ReqId) → IsIdInRange a → word ≢ id_word a
id-uncut word none a ok e = uncut 46 word (decimal a.client) (decimal a.number) none e

record IsCutId (x y : List ℕ) (a : ReqId) : Type 0 where
  client : x ≡ decimal a.client
  number : y ≡ decimal a.number

id-cut : (word x y : List ℕ) (a : ReqId) → word ≡ x ++ 46 ∷ y → Lacks 46 x → IsIdInRange a → word ≡ id_word a → IsCutId x y a
id-cut word x y a at first ok e =
    let parts = cut_same 46 x (decimal a.client) y (decimal a.number) first (lacks_decimal 46 a.client (omega arith) (omega (arith, ok.0))) (sym at ∙ e) in
    record { client = parts.0; number = parts.1 }

pub id-no-client : (word x y : List ℕ) → word ≡ x ++ 46 ∷ y → Lacks 46 x → ((n : ℕ) → n < 2 ^ 64 → x ≢ decimal n) → (a : ReqId) → IsIdInRange a → word ≢ id_word a
id-no-client word x y at first none a ok e = none a.client (omega (arith, ok.0)) (id-cut word x y a at first ok e).client

pub id-no-number : (word x y : List ℕ) → word ≡ x ++ 46 ∷ y → Lacks 46 x → ((n : ℕ) → n < 2 ^ 64 → y ≢ decimal n) → (a : ReqId) → IsIdInRange a → word ≢ id_word a
id-no-number word x y at first none a ok e = none a.number (omega (arith, ok.1)) (id-cut word x y a at first ok e).number

-- what is made of both numbers is the identity of the word, if there is one
pub id-made : (word x y : List ℕ) (m n : ℕ) (o : Option ReqId) → word ≡ x ++ 46 ∷ y → Lacks 46 x → x ≡ decimal m → y ≡ decimal n → m < 2 ^ 64 → n < 2 ^ 64 → IfSome o (λ id. (id.client ≡ m) × (id.number ≡ n)) → IfSome o IsIdInRange → IfNone o (m < 256 → n < 2 ^ 32 → ⊥) → Reads id_word IsIdInRange word o
id-made word x y m n (Some id) at first mx ny mf nf same range out =
    let client : x ≡ decimal id.client = mx ∙ ap decimal (sym same.0) in
    let number : y ≡ decimal id.number = ny ∙ ap decimal (sym same.1) in
    (at ∙ ap₂ (λ (a b : List ℕ). a ++ 46 ∷ b) client number, range)
id-made word x y m n None at first mx ny mf nf same range out = λ a ok e.
    let cut = id-cut word x y a at first ok e in
    let client = decimal_injective m a.client mf (omega (arith, ok.0)) (sym mx ∙ cut.client) in
    let number = decimal_injective n a.number nf (omega (arith, ok.1)) (sym ny ∙ cut.number) in
    out (omega (arith, client, ok.0)) (omega (arith, number, ok.1))

-- ---- tests of forms

pub uncut-formed : (word : List ℕ) (b : Bool) → Lacks 46 word → b ≡ false → IsTrue b ↔ IsIdFormed word
uncut-formed word b none no-one = (
  (λ t. absurd (true≢false (sym t ∙ no-one))),
  (λ h. absurd (uncut 46 word h.0 h.1.0 none h.1.1.0)),
)

pub cut-formed : (word x y : List ℕ) (b : Bool) → word ≡ x ++ 46 ∷ y → Lacks 46 x → IsTrue b ↔ (IsNumber x × IsNumber y) → IsTrue b ↔ IsIdFormed word
cut-formed word x y b at first test = (
  (λ t. let both = test.0 t in (x, (y, (at, both.0, both.1)))),
  (λ h.
      let parts = cut_same 46 x h.0 y h.1.0 first (digits-lack h.0 h.1.1.1) (sym at ∙ h.1.1.0) in
      test.1 (subst IsNumber (sym parts.0) h.1.1.1, subst IsNumber (sym parts.1) h.1.1.2)),
)

pub last-formed : (words w1 w2 w3 : List (List ℕ)) (id answer sig : List ℕ) (b : Bool) → words ≡ id ∷ w1 → w1 ≡ answer ∷ w2 → w2 ≡ sig ∷ w3 → w3 ≡ [] → IsIdFormed id → IsHex answer → IsTrue b ↔ IsHex sig → IsTrue b ↔ AreLastFormed words
last-formed words w1 w2 w3 id answer sig b e1 e2 e3 e4 i a s =
    let all : words ≡ id ∷ answer ∷ sig ∷ [] =
    e1 ∙ ap (λ (ws : List (List ℕ)). id ∷ ws) (e2 ∙ ap (λ (ws : List (List ℕ)). answer ∷ ws) (e3 ∙ ap (λ (ws : List (List ℕ)). sig ∷ ws) e4)) in
    let here : IsTrue b ↔ AreLastFormed (id ∷ answer ∷ sig ∷ []) = ((λ t. (i, a, s.0 t)), (λ h. s.1 h.2)) in
    subst (λ (ws : List (List ℕ)). IsTrue b ↔ AreLastFormed ws) (sym all) here

pub all-formed : (words w1 w2 w3 : List (List ℕ)) (by epoch q : List ℕ) (b : Bool) → words ≡ by ∷ w1 → w1 ≡ epoch ∷ w2 → w2 ≡ q ∷ w3 → IsNumber by → IsNumber epoch → IsNumber q → IsTrue b ↔ AreLastFormed w3 → IsTrue b ↔ AreFormed words
all-formed words w1 w2 w3 by epoch q b e1 e2 e3 i a s last =
    let all : words ≡ by ∷ epoch ∷ q ∷ w3 =
    e1 ∙ ap (λ (ws : List (List ℕ)). by ∷ ws) (e2 ∙ ap (λ (ws : List (List ℕ)). epoch ∷ ws) e3) in
    let here : IsTrue b ↔ AreFormed (by ∷ epoch ∷ q ∷ w3) = ((λ t. (i, a, s, last.0 t)), (λ h. last.1 h.3)) in
    subst (λ (ws : List (List ℕ)). IsTrue b ↔ AreFormed ws) (sym all) here

-- ---- a reply is written

grouped : (p q r s t u v w : List ℕ) → ((((((p ++ q) ++ r) ++ s) ++ t) ++ u) ++ v) ++ w ≡ p ++ (q ++ (r ++ (s ++ (t ++ (u ++ (v ++ w))))))
grouped p q r s t u v w = simp append_assoc

more-put : (o p x old new : List ℕ) → old ≡ o ++ p → new ≡ old ++ x → new ≡ o ++ (p ++ x)
more-put o p x old new is more = more ∙ ap (λ (l : List ℕ). l ++ x) is ∙ append_assoc o p x

pub reply-put : (r : Reply) (o a b c d e f g h : List ℕ) → a ≡ o ++ reply_name → b ≡ a ++ 32 ∷ decimal r.by.0 → c ≡ b ++ 32 ∷ decimal r.epoch.0 → d ≡ c ++ 32 ∷ decimal r.q → e ≡ d ++ 32 ∷ [] → f ≡ e ++ id_word r.id → g ≡ f ++ 32 ∷ word_of r.answer → h ≡ g ++ 32 ∷ word_of r.sig → h ≡ o ++ reply_line r
reply-put r o a b c d e f g h ea eb ec ed ee ef eg eh =
    more-put o _ (32 ∷ word_of r.sig) g h
    (more-put o _ (32 ∷ word_of r.answer) f g
    (more-put o _ (id_word r.id) e f
    (more-put o _ (32 ∷ []) d e
    (more-put o _ (32 ∷ decimal r.q) c d
    (more-put o _ (32 ∷ decimal r.epoch.0) b c
    (more-put o reply_name (32 ∷ decimal r.by.0) a b ea eb) ec) ed) ee) ef) eg) eh
    ∙ ap (λ (l : List ℕ). o ++ l) (grouped reply_name (32 ∷ decimal r.by.0) (32 ∷ decimal r.epoch.0) (32 ∷ decimal r.q) (32 ∷ []) (id_word r.id) (32 ∷ word_of r.answer) (32 ∷ word_of r.sig))
