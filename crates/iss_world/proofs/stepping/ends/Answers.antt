use Rattle.std.proofs.Common.{List, ℕ, subst}
use Rattle.iss_base.specs.Lists.{push_all}
use Rattle.iss_world.specs.Books.{AreHashed}
use Rattle.iss_world.proofs.BookLemmas.{if-ok}
use Rattle.iss_world.proofs.MachineLemmas.{ends-collided, ends-forged}
use Rattle.iss_world.proofs.stepping.ends.Goals as goal

pub returns-in-Some-clause-told : goal.returns-in-Some-clause-told
returns-in-Some-clause-told c claims strings hs hh =
    ends-forged c.args.members.now claims strings c.args.outcome.now.hashed c.args.outcome.now.early c.as_slice-early.result.now c.in-Some.claim _ c.as_slice-early.ensures c.in-Some.is (c.in_ok-claim.ensures claims hs)

pub returns-in-None-clause-told : goal.returns-in-None-clause-told
returns-in-None-clause-told c =
    if-ok _ _ c.book.result c.book.ensures.told (λ end f claims strings hs hh.
    ends-collided c.args.members.now claims strings c.args.outcome.now.hashed c.as_slice.result.now c.args.outcome.now.early c.as_slice-early.result.now _ _ c.as_slice-early.ensures c.as_slice.ensures c.in-None.is
    (c.in_ok-claim.ensures claims hs) (f strings hh))

pub returns-in-None-clause-booked : goal.returns-in-None-clause-booked
returns-in-None-clause-booked c =
    if-ok _ _ c.book.result c.book.ensures.booked (λ end f strings hh none.
    subst (λ (xs : List (List ℕ)). AreHashed c.book.new.self (push_all xs strings)) c.as_slice.ensures (f strings hh none))
