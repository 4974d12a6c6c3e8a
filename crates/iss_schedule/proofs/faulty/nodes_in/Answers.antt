use Rattle.std.proofs.Common.{◌∙◌, ◌++◌, List, ℕ, ap, arith, subst, sym}
use Rattle.iss_schedule.specs.Headers.{node_words}
use Rattle.iss_schedule.specs.Reads.{IsWithin}
use Rattle.iss_schedule.proofs.HeaderTable.LineDeterminesFaultyNodes.{goes_on_not, one_node}
use Rattle.iss_schedule.proofs.faulty.nodes_in.Goals as goal

pub returns-then-left-eq0 : goal.returns-then-left-eq0
returns-then-left-eq0 c =
    goes_on_not c.args.bounds.most c.args.bounds.n c.loop-word.nodes c.args.words.now c.in-Some.word.now c.next.new.self
    (omega (arith, c.args.bounds.bytes)) c.loop-word.invariant.ascending
    (c.loop-word.invariant.text
    ∙ ap (λ (ws : List (List ℕ)). node_words c.loop-word.nodes ++ ws) c.in-Some.ensures.some)
    (λ k few within e. omega (arith, few, c.loop-word.invariant.left))

pub returns-in_default-number_within : goal.returns-in_default-number_within
returns-in_default-number_within c =
    goes_on_not c.args.bounds.most c.args.bounds.n c.loop-word.nodes c.args.words.now c.in-Some.word.now c.next.new.self
    (omega (arith, c.args.bounds.bytes)) c.loop-word.invariant.ascending
    (c.loop-word.invariant.text
    ∙ ap (λ (ws : List (List ℕ)). node_words c.loop-word.nodes ++ ws) c.in-Some.ensures.some)
    (λ k few within e. c.in_default-number_within.ensures k
    (subst (λ from. IsWithin from c.args.bounds.n k) (sym c.loop-word.invariant.from) within) e)

pub loop-word-preserved : goal.loop-word-preserved
loop-word-preserved c =
    let more = one_node c.args.bounds.n c.loop-word.from c.in-Some-number_within.number c.loop-word.nodes
    c.push.new.self c.args.words.now c.loop-word.words c.next.new.self c.in-Some.word.now
    c.in_ok-push.ensures.ok c.in-Some.ensures.some c.in-Some-number_within.ensures.0 c.in-Some-number_within.ensures.1
    c.loop-word.invariant.text c.loop-word.invariant.ascending c.loop-word.invariant.from in
    record {
      text = more.0;
      ascending = more.1;
      from = more.2;
      left = omega (arith, more.3, c.loop-word.invariant.left);
    }
