use Rattle.std.proofs.Common.{◌≡◌, ◌∙◌, ℕ, suc, List, [], Result, Ok, Err, refl, ap, subst, arith, codes, get_or}
use Rattle.iss_schedule.specs.declared.errors.LineFault.{LineFault}
use Rattle.iss_schedule.specs.declared.errors.LineFault.TheVariants.{Cut, Form, Faulty, Injected, Range, Size}
use Rattle.iss_schedule.specs.Headers.{Number, OneOf, header_fields, row_at, see, setup_with, value}
use Rattle.iss_schedule.specs.Places.{ReadsLine}
use Rattle.iss_schedule.proofs.BadLines.PrefixesAreRead.{nodes_are, read_at}
use Rattle.iss_schedule.proofs.header.value_of.Goals as goal

-- bounds computed from the values above
number_at : (name : List ℕ) (low end : List ℕ → ℕ) (l e : ℕ) (above line : List ℕ) (r : Result ℕ LineFault) →
    l ≡ low above → e ≡ end above → ReadsLine (Number name (λ _. l) (λ _. e)) above line r →
    ReadsLine (Number name low end) above line r
number_at name low end l e above line r is is' h =
    go r (subst (λ x. ReadsLine (Number name (λ _. low above) (λ _. x)) above line r) is'
    (subst (λ x. ReadsLine (Number name (λ _. x) (λ _. e)) above line r) is h))
  where
    bad : (why : LineFault) → ReadsLine (Number name (λ _. low above) (λ _. end above)) above line (Err why) →
        ReadsLine (Number name low end) above line (Err why)
    bad Cut h = h
    bad Form h = h
    bad Faulty h = h
    bad Injected h = h
    bad Range h = h
    bad Size h = h

    go : (r : Result ℕ LineFault) → ReadsLine (Number name (λ _. low above) (λ _. end above)) above line r →
        ReadsLine (Number name low end) above line r
    go (Ok v) h = h
    go (Err why) h = bad why h

pub faults_at : (above line : List ℕ) (r : Result ℕ LineFault) (place end : ℕ) → place ≡ value above 1 →
    end ≡ suc (row_at place).most_faults → ReadsLine (Number (codes "f") (λ _. 0) (λ _. end)) above line r →
    ReadsLine (get_or header_fields 2 (OneOf [])) above line r
faults_at above line r place end here is =
    number_at (codes "f") (λ above. 0) (λ above. suc (row_at (value above 1)).most_faults) 0 end above line r refl
    (is ∙ ap (λ k. suc (row_at k).most_faults) here)

pub epoch_at : (above line : List ℕ) (r : Result ℕ LineFault) (low : ℕ) → low ≡ (setup_with above [] []).n →
    ReadsLine (Number (codes "epoch") (λ _. low) (λ _. 65)) above line r →
    ReadsLine (get_or header_fields 3 (OneOf [])) above line r
epoch_at above line r low is =
    number_at (codes "epoch") (λ above. (setup_with above [] []).n) (λ above. 65) low 65 above line r is refl

pub returns-in-0 : goal.returns-in-0
returns-in-0 c =
    read_at c.args.above.now c.args.line.now c.expect.result 0 _ c.in-0.is refl
    (c.expect.ensures c.args.above.now)

pub returns-in-1 : goal.returns-in-1
returns-in-1 c =
    read_at c.args.above.now c.args.line.now c.module.result 1 _ c.in-1.is refl
    (c.module.ensures c.args.above.now)

pub returns-in-2 : goal.returns-in-2
returns-in-2 c =
    read_at c.args.above.now c.args.line.now c.number.result 2 _ c.in-2.is refl
    (faults_at c.args.above.now c.args.line.now c.number.result _ _ refl c.too_many.ensures
    (c.number.ensures c.args.above.now))

pub returns-in-3 : goal.returns-in-3
returns-in-3 c =
    read_at c.args.above.now c.args.line.now c.number-in-3.result 3 _ c.in-3.is refl
    (epoch_at c.args.above.now c.args.line.now c.number-in-3.result _
    (nodes_are c.args.above.now c.of.result.f (see c.of.result.row.now) c.nodes.result c.of.ensures.row
    c.of.ensures.faults c.nodes.ensures.nodes)
    (c.number-in-3.ensures c.args.above.now))

pub returns-in-4 : goal.returns-in-4
returns-in-4 c =
    read_at c.args.above.now c.args.line.now c.number-in-4.result 4 _ c.in-4.is refl
    (c.number-in-4.ensures c.args.above.now)

pub returns-in-5 : goal.returns-in-5
returns-in-5 c =
    read_at c.args.above.now c.args.line.now c.number-in-5.result 5 _ c.in-5.is refl
    (c.number-in-5.ensures c.args.above.now)

pub returns-in-6 : goal.returns-in-6
returns-in-6 c =
    read_at c.args.above.now c.args.line.now c.number-in-6.result 6 _ c.in-6.is refl
    (c.number-in-6.ensures c.args.above.now)

pub returns-in-7 : goal.returns-in-7
returns-in-7 c =
    read_at c.args.above.now c.args.line.now c.policy.result 7 _ c.in-7.is refl
    (c.policy.ensures c.args.above.now)

pub returns-in-8 : goal.returns-in-8
returns-in-8 c =
    read_at c.args.above.now c.args.line.now c.number-in-8.result 8 _ c.in-8.is refl
    (c.number-in-8.ensures c.args.above.now)

pub returns-in_default : goal.returns-in_default
returns-in_default c =
    read_at c.args.above.now c.args.line.now c.number-in_default.result 9 _
    (omega (arith, c.requires.few)) refl (c.number-in_default.ensures c.args.above.now)
