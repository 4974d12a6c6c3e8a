-- What is written for the replies so far.
use Rattle.std.proofs.Common.{◌≡◌, ℕ, zero, suc, ◌+◌, ◌<◌, ◌≤◌, ◌^◌, List, [], ◌∷◌, ◌++◌, length, map, take, get_or, reverse, Some, append_assoc, append-nil, refl, sym, ap, ◌∙◌, subst, arith}
use Rattle.std.specs.Prelude.{min, Ok}
use Rattle.std.proofs.lemmas.List.{length-reverse, map-append, reverse-append, take_more, take_all}
use Rattle.iss_request.specs.Log.{requests}
use Rattle.iss_request.specs.declared.requests.Value.{Value}
use Rattle.iss_schedule.specs.Words.{ended}
use Rattle.iss_schedule.proofs.BadLines.PrefixesAreRead.{ended-append}
use Rattle.iss_reply.specs.Clients.{Cluster, HasTaken, ClientState, outcome}
use Rattle.iss_reply.specs.Replies.{Replying, and_reply, replies_below, replies_to, reply_at}
use Rattle.iss_reply.specs.Repliers.{Answered, IsNext, ReplierState}
use Rattle.iss_reply.specs.declared.clients.Taken.{Taken}
use Rattle.iss_reply.specs.declared.repliers.Next.{Next}
use Rattle.iss_reply.specs.declared.repliers.Next.TheVariants.{Reply as Next_reply, UpToDate, Spent}
use Rattle.iss_reply.specs.declared.replies.Reply.{Reply}
use Rattle.iss_answers.specs.Lines.{reply_line}
use Rattle.iss_answers.specs.Printed.{taken_line, taken_lines}

-- ---- a list of replies, newest first, one by one

pub seen-more : (rs : List Reply) (k : ℕ) (r : Reply) → k < length rs → r ≡ get_or rs k r → take (k + 1) rs ≡ take k rs ++ r ∷ []
seen-more rs k r lt at = take_more rs k r lt ∙ ap (λ (x : Reply). take k rs ++ x ∷ []) (sym at)

pub newest-first : (rs : List Reply) (k : ℕ) (r : Reply) → k < length rs → r ≡ get_or rs k r → reverse (take (k + 1) rs) ≡ r ∷ reverse (take k rs)
newest-first rs k r lt at = ap reverse (seen-more rs k r lt at) ∙ reverse-append (take k rs) (r ∷ [])

pub line-more : (c : Cluster) (rs : List Reply) (k : ℕ) (r : Reply) (taken : Taken) (start old new : List ℕ) → k < length rs → r ≡ get_or rs k r → old ≡ start ++ taken_lines c (reverse (take k rs)) → taken ≡ outcome c (reverse (take k rs)) r →
    new ≡ old ++ taken_line (12 + k) r.id taken → new ≡ start ++ taken_lines c (reverse (take (k + 1) rs))
line-more c rs k r taken start old new lt at is becomes more =
    let earlier = reverse (take k rs) in
    let long : length earlier ≡ k = length-reverse (take k rs) ∙ length-take rs k lt in
    more
    ∙ ap (λ (o : List ℕ). o ++ taken_line (12 + k) r.id taken) is
    ∙ append_assoc start (taken_lines c earlier) (taken_line (12 + k) r.id taken)
    ∙ ap (λ (t : Taken). start ++ (taken_lines c earlier ++ taken_line (12 + k) r.id t)) becomes
    ∙ ap (λ (n : ℕ). start ++ (taken_lines c earlier ++ taken_line (12 + n) r.id (outcome c earlier r))) (sym long)
    ∙ ap (λ (l : List Reply). start ++ taken_lines c l) (sym (newest-first rs k r lt at))
  where
    length-take : (xs : List Reply) (n : ℕ) → n < length xs → length (take n xs) ≡ n
    length-take [] n lt = absurd (omega (arith, lt))
    length-take (x ∷ xs) zero lt = refl
    length-take (x ∷ xs) (suc n) lt = ap suc (length-take xs n (omega (arith, lt)))

pub all-lines : (c : Cluster) (rs : List Reply) (k : ℕ) (start out : List ℕ) → length rs ≤ k → out ≡ start ++ taken_lines c (reverse (take k rs)) → out ≡ start ++ taken_lines c (reverse rs)
all-lines c rs k start out le is = is ∙ ap (λ (l : List Reply). start ++ taken_lines c (reverse l)) (take_all k rs le)

pub all-taken : (s : ClientState) (rs : List Reply) (k : ℕ) → length rs ≤ k → HasTaken s (reverse (take k rs)) → HasTaken s (reverse rs)
all-taken s rs k le h = subst (λ (l : List Reply). HasTaken s (reverse l)) (take_all k rs le) h

-- ---- the lines of a node's replies

-- the lines of its replies to the requests with numbers below q
abbrev pub lines_below : Replying → List Value → ℕ → List ℕ
lines_below w log q = ended (map reply_line (replies_below w log q))

pub lines-more : (w : Replying) (log : List Value) (q next : ℕ) (r : Reply) (start old new : List ℕ) → old ≡ start ++ lines_below w log q → reply_at w log q ≡ Some r → next ≡ q + 1 → new ≡ old ++ reply_line r ++ 10 ∷ [] → new ≡ start ++ lines_below w log next
lines-more w log q next r start old new is there one more =
    let rs = replies_below w log q in
    let below : replies_below w log (suc q) ≡ rs ++ r ∷ [] = ap (and_reply rs) there in
    let lines : lines_below w log (suc q) ≡ lines_below w log q ++ (reply_line r ++ 10 ∷ []) =
    ap (λ (l : List Reply). ended (map reply_line l)) below ∙ ap ended (map-append reply_line rs (r ∷ [])) ∙ ended-append (map reply_line rs) (reply_line r ∷ []) in
    let same : suc q ≡ next = omega (arith, one) in
    more ∙ append_assoc old (reply_line r) (10 ∷ []) ∙ ap (λ (o : List ℕ). o ++ (reply_line r ++ 10 ∷ [])) is ∙ append_assoc start (lines_below w log q) (reply_line r ++ 10 ∷ [])
    ∙ ap (λ (l : List ℕ). start ++ l) (sym lines) ∙ ap (λ (n : ℕ). start ++ lines_below w log n) same

pub lines-none : (w : Replying) (log : List Value) (q : ℕ) (out : List ℕ) → q ≤ 0 → out ≡ out ++ lines_below w log q
lines-none w log q out le =
    let none : 0 ≡ q = omega (arith, le) in
    sym (append-nil out) ∙ ap (λ (n : ℕ). out ++ lines_below w log n) none

pub replied : (old new : ReplierState) (log : List Value) (next : Next) (r : Reply) → next ≡ Next_reply r → IsNext old log new (Ok next) → IsNext old log new (Ok (Next_reply r))
replied old new log next r is h = subst (λ (n : Next). IsNext old log new (Ok n)) is h

-- the replier did not reply, so it has replied to all that it can
pub stopped : (old new : ReplierState) (log : List Value) (next : Next) → Answered old log → old.number ≤ 2 ^ old.who.height → IsNext old log new (Ok next) → ((r : Reply) → next ≡ Next_reply r → ⊥) →
    old.number ≡ min (requests log) (2 ^ old.who.height)
stopped old new log (Next_reply r) a le h other = absurd (other r refl)
stopped old new log UpToDate a le h other = omega (arith, le, h.0)
stopped old new log Spent a le h other = omega (arith, le, h.1, a.number)

-- where a replier stops, all its replies are written
pub lines-all : (w : Replying) (log : List Value) (q : ℕ) (start out : List ℕ) → out ≡ start ++ lines_below w log q → q ≡ min (requests log) (2 ^ w.height) → out ≡ start ++ ended (map reply_line (replies_to w log))
lines-all w log q start out is stop = is ∙ ap (λ (n : ℕ). start ++ lines_below w log n) stop
