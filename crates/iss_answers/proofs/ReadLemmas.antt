-- Where the reader of replies is, line by line, and why it refuses one.
use Rattle.std.proofs.Common.{◌≡◌, inl, ℕ, ◌+◌, ◌<◌, ◌≤◌, List, [], ◌∷◌, ◌++◌, length, length-append, map, sym, ap, ◌∙◌, subst, arith}
use Rattle.std.proofs.lemmas.List.{length-map, map-append}
use Rattle.std.specs.List.{AllByRecursion}
use Rattle.iss_reply.specs.declared.replies.Reply.{Reply}
use Rattle.iss_schedule.specs.BadLines.{IsNext}
use Rattle.iss_schedule.specs.Places.{GoesPast, Place}
use Rattle.iss_schedule.specs.Schedules.{most_events}
use Rattle.iss_schedule.specs.Words.{ended}
use Rattle.iss_schedule.specs.declared.errors.LineFault.{LineFault}
use Rattle.iss_schedule.specs.declared.errors.LineFault.TheVariants.{Cut, Form, Faulty, Injected, Range, Size}
use Rattle.iss_schedule.specs.declared.errors.ReadError.{ReadError}
use Rattle.iss_schedule.specs.declared.errors.ReadError.TheVariants.{BadLine, NoMemory}
use Rattle.iss_schedule.proofs.BadLines.PrefixesAreRead.{past}
use Rattle.iss_texts.specs.Bodies.{IsBadNext, last_line}
use Rattle.iss_texts.specs.Internal.Refusals.{IsNextRefused}
use Rattle.iss_texts.proofs.BodyLemmas.{next-bad}
use Rattle.iss_answers.specs.Internal.Reading.{IsBodyRefused, IsLineRefused}
use Rattle.iss_answers.specs.Lines.{IsInRange, reply_line}
use Rattle.iss_answers.specs.Refusals.{IsFault}
use Rattle.iss_answers.specs.Texts.{body_lines}

-- Some replies were read from these bytes.
pub record IsAt (all : List ℕ) (before : List Reply) (place : Place) : Type 0 where
  pub text : all ≡ ended (map reply_line before) ++ place.rest
  pub range : AllByRecursion IsInRange before
  pub read : place.read ≡ 11 + length before
  pub few : length before ≤ most_events

range-push : (rs : List Reply) (r : Reply) → AllByRecursion IsInRange rs → IsInRange r → AllByRecursion IsInRange (rs ++ r ∷ [])
range-push [] r all ok = (ok, tt)
range-push (x ∷ rs) r all ok = (all.0, range-push rs r all.1 ok)

pub at-reply : (all : List ℕ) (before new : List Reply) (r : Reply) (line : List ℕ) (old later : Place) → IsAt all before old →
    new ≡ before ++ r ∷ [] → line ≡ reply_line r → IsInRange r → GoesPast line old later → later.read ≡ old.read + 1 →
    old.read < 11 + most_events → IsAt all new later
at-reply all before new r line old later at more is ok goes read few =
    let lines : map reply_line new ≡ map reply_line before ++ line ∷ [] =
    ap (map reply_line) more ∙ map-append reply_line before (r ∷ []) ∙ ap (λ (l : List ℕ). map reply_line before ++ l ∷ []) (sym is) in
    let count : length new ≡ length before + 1 = ap length more ∙ length-append before (r ∷ []) in
    record {
      text = past all (map reply_line before) line old.rest later.rest at.text goes.text ∙ ap (λ (ls : List (List ℕ)). ended ls ++ later.rest) (sym lines);
      range = subst (AllByRecursion IsInRange) (sym more) (range-push before r at.range ok);
      read = omega (arith, count, read, at.read);
      few = omega (arith, count, few, at.read);
    }

-- the last line was read
pub record IsClosed (all : List ℕ) (replies : List Reply) (place : Place) : Type 0 where
  pub text : all ≡ ended (body_lines replies) ++ place.rest
  pub range : AllByRecursion IsInRange replies
  pub count : place.read ≡ 11 + length (body_lines replies)
  pub few : length (body_lines replies) ≤ most_events

pub at-end : (all : List ℕ) (before : List Reply) (line : List ℕ) (old later : Place) → IsAt all before old → line ≡ last_line →
    GoesPast line old later → later.read ≡ old.read + 1 → old.read < 11 + most_events → IsClosed all before later
at-end all before line old later at is goes read few =
    let lines : body_lines before ≡ map reply_line before ++ line ∷ [] = ap (λ (l : List ℕ). map reply_line before ++ l ∷ []) (sym is) in
    let count : length (body_lines before) ≡ length before + 1 =
    length-append (map reply_line before) (last_line ∷ []) ∙ ap (λ (k : ℕ). k + 1) (length-map before reply_line) in
    record {
      text = past all (map reply_line before) line old.rest later.rest at.text goes.text ∙ ap (λ (ls : List (List ℕ)). ended ls ++ later.rest) (sym lines);
      range = at.range;
      count = omega (arith, count, read, at.read);
      few = omega (arith, count, few, at.read);
    }

-- ---- refusals

pub no-next : (all : List ℕ) (before : List Reply) (place : Place) (e : ReadError) → IsAt all before place → IsNextRefused place e → IsBodyRefused all e
no-next all before place (BadLine line why) at h = inl (record {
  before = before;
  rest = place.rest;
  text = at.text;
  range = at.range;
  number = omega (arith, h.0, at.read);
  bad = next-bad (length before) IsFault place.rest why (h.1 (length before) at.read);
})
no-next all before place NoMemory at h = tt

-- a line with a fault has one reason that is not its end
fault-bad : (count : ℕ) (line rest : List ℕ) (why : LineFault) → count < most_events → IsNext line rest → IsFault line why → IsBadNext count IsFault rest why
fault-bad count line rest Form few next h = (few, (line, (next, h)))
fault-bad count line rest Range few next h = (few, (line, (next, h)))
fault-bad count line rest Cut few next h = absurd h
fault-bad count line rest Faulty few next h = absurd h
fault-bad count line rest Injected few next h = absurd h
fault-bad count line rest Size few next h = absurd h

pub bad-reply : (all : List ℕ) (before : List Reply) (line : List ℕ) (old later : Place) (e : ReadError) → IsAt all before old → GoesPast line old later →
    later.read ≡ old.read + 1 → old.read < 11 + most_events → IsLineRefused later.read line e → IsBodyRefused all e
bad-reply all before line old later (BadLine number why) at goes read few h = inl (record {
  before = before;
  rest = old.rest;
  text = at.text;
  range = at.range;
  number = omega (arith, h.0, read, at.read);
  bad = fault-bad (length before) line old.rest why (omega (arith, few, at.read)) (record { more = later.rest; text = goes.text; whole = goes.whole }) h.1;
})
bad-reply all before line old later NoMemory at goes read few h = tt
