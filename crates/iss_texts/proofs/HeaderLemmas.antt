-- A text that begins with the header of a set-up has no bad line there, and no other header.
use Rattle.std.proofs.Common.{◌≡◌, inl, inr, ℕ, ◌≤◌, List, [], ◌∷◌, ◌++◌, length, append_assoc, append-nil, length-append, refl, sym, ap, ◌∙◌, subst, arith}
use Rattle.iss_request.specs.declared.setups.Setup.{Setup}
use Rattle.iss_schedule.specs.BadLines.{IsBadLine, IsBadRest, IsFirstBad, IsNext}
use Rattle.iss_schedule.specs.Schedules.{IsKnown, header_lines, most_bytes}
use Rattle.iss_schedule.specs.Words.{Lacks, ended}
use Rattle.iss_schedule.specs.declared.errors.LineFault.{LineFault}
use Rattle.iss_schedule.specs.declared.errors.LineFault.TheVariants.{Cut, Form, Faulty, Injected, Range, Size}
use Rattle.iss_schedule.proofs.BadLines.LinesHaveTheirForm.{AreWhole, Left, Meets, Right, Same, meets, whole_header, whole_lines, whole_take}
use Rattle.iss_schedule.proofs.BadLines.OneFirstBadLine.{refused_none}
use Rattle.iss_schedule.proofs.BadLines.PrefixesAreRead.{ended-append}
use Rattle.iss_schedule.proofs.Encoding.SplitsAreUnique.{cut_same, no_cut}
use Rattle.iss_schedule.proofs.HeaderTable.ValuesDetermineSetup.{same_setup}

header-length : (s : Setup) → length (header_lines s) ≡ 11
header-length s = refl

-- equal texts have one header
pub same-header : (s t : Setup) (a b : List ℕ) → IsKnown s → IsKnown t →
    ended (header_lines s) ++ a ≡ ended (header_lines t) ++ b → (s ≡ t) × (a ≡ b)
same-header s t a b h k e = go (meets (header_lines s) (header_lines t) a b (whole_header s h) (whole_header t k) e)
  where
    go : Meets (header_lines s) (header_lines t) a b → (s ≡ t) × (a ≡ b)
    go (Same p q) = (same_setup s t h k p, q)
    go (Left m ms p q) = absurd (omega (arith, ap length p, length-append (header_lines s) (m ∷ ms), header-length s, header-length t))
    go (Right m ms p q) = absurd (omega (arith, ap length p, length-append (header_lines t) (m ∷ ms), header-length s, header-length t))

-- the first line behind a common front has no line feed
pub first-whole : (ls : List (List ℕ)) (m : List ℕ) (ms : List (List ℕ)) → AreWhole (ls ++ m ∷ ms) → Lacks 10 m
first-whole [] m ms h = h.0
first-whole (a ∷ ls) m ms h = first-whole ls m ms h.1

next-here : (l m : List ℕ) (ms : List (List ℕ)) (rest more : List ℕ) → Lacks 10 m → rest ≡ m ++ 10 ∷ more →
    IsNext l rest → IsNext l (ended (m ∷ ms))
next-here l m ms rest more whole is next =
    let same = cut_same 10 l m next.more more next.whole whole (sym next.text ∙ is) in
    record { more = ended ms; text = ap (λ (z : List ℕ). z ++ 10 ∷ ended ms) (sym same.0); whole = next.whole }

bad-here : (front : List (List ℕ)) (m : List ℕ) (ms : List (List ℕ)) (rest more : List ℕ) (why : LineFault) →
    length front ≤ 10 → Lacks 10 m → rest ≡ m ++ 10 ∷ more → IsBadRest front rest why →
    IsBadRest front (ended (m ∷ ms)) why
bad-here front m ms rest more Size low whole is h = absurd (omega (arith, low, h.0))
bad-here front m ms rest more Cut low whole is h = absurd (no_cut 10 m more (subst (Lacks 10) is h.1))
bad-here front m ms rest more Form low whole is h = (h.0, (h.1.0, (next-here h.1.0 m ms rest more whole is h.1.1.0, h.1.1.1)))
bad-here front m ms rest more Faulty low whole is h = (h.0, (h.1.0, (next-here h.1.0 m ms rest more whole is h.1.1.0, h.1.1.1)))
bad-here front m ms rest more Injected low whole is h = (h.0, (h.1.0, (next-here h.1.0 m ms rest more whole is h.1.1.0, h.1.1.1)))
bad-here front m ms rest more Range low whole is h = (h.0, (h.1.0, (next-here h.1.0 m ms rest more whole is h.1.1.0, h.1.1.1)))

first-bad : (bytes : List ℕ) (s : Setup) (body : List ℕ) (line : ℕ) (why : LineFault) → IsKnown s →
    bytes ≡ ended (header_lines s) ++ body → length bytes ≤ most_bytes → line ≤ 11 → IsFirstBad bytes line why → ⊥
first-bad bytes s body line why known text short low bad =
    go (meets bad.front (header_lines s) bad.rest body (subst AreWhole (sym bad.good.front) (whole_take (length bad.front) _ (whole_lines bad.good.schedule bad.good.fine))) (whole_header s known) (sym bad.text ∙ text))
  where
    header-short : length (ended (header_lines s)) ≤ most_bytes
    header-short = omega (arith, short, ap length text, length-append (ended (header_lines s)) body)

    go : Meets bad.front (header_lines s) bad.rest body → ⊥
    go (Same p q) = omega (arith, ap length p, header-length s, bad.number, low)
    go (Right m ms p q) = omega (arith, ap length p, length-append (header_lines s) (m ∷ ms), header-length s, bad.number, low)
    go (Left m ms p q) =
        refused_none (ended (header_lines s)) line why (record { setup = s; events = [] })
        (inr (
          header-short,
          record {
            front = bad.front;
            rest = ended (m ∷ ms);
            text = ap ended p ∙ ended-append bad.front (m ∷ ms);
            number = bad.number;
            good = bad.good;
            bad = bad-here bad.front m ms bad.rest (ended ms ++ body) why (omega (arith, bad.number, low)) (first-whole bad.front m ms (subst AreWhole p (whole_header s known)))
                (q ∙ append_assoc m (10 ∷ ended ms) body) bad.bad;
          },
        ))
        (record {
          text = ap ended (sym (append-nil (header_lines s)));
          fine = record { setup = known; events = tt; few = omega arith };
          short = header-short;
        })

-- no line of the header is bad
pub good-header : (bytes : List ℕ) (s : Setup) (body : List ℕ) (line : ℕ) (why : LineFault) → IsKnown s →
    bytes ≡ ended (header_lines s) ++ body → length bytes ≤ most_bytes → line ≤ 11 → IsBadLine bytes line why → ⊥
good-header bytes s body line why known text short low (inl long) = omega (arith, long.0, short)
good-header bytes s body line why known text short low (inr bad) = first-bad bytes s body line why known text short low bad.1
