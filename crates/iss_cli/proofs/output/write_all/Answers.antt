use Rattle.std.proofs.Common.{◌≡◌, ◌∙◌, ◌≤◌, ◌-◌, ℕ, List, length, take, drop, ap, subst, arith, length-drop}
use Rattle.std.proofs.lemmas.List.{take_all}
use Rattle.iss_cli.specs.Ends.{and_more}
use Rattle.iss_cli.proofs.EndLemmas.{and_more_piece, no_error}
use Rattle.iss_cli.proofs.output.write_all.Goals as goal

pub loop-put-preserved : goal.loop-put-preserved
loop-put-preserved g c =
    let n = c.in_ok-put.field-0 in
    let put = c.loop-put.put in
    let bytes : List ℕ = c.args.bytes.now in
    let rest : take (length bytes - put) (drop put bytes) ≡ drop put bytes = take_all (length bytes - put) (drop put bytes) (omega (arith, length-drop put bytes)) in
    let bound : n ≤ length (drop put bytes) = (let P : List ℕ → Type 0 = λ xs. n ≤ length xs in subst P rest c.in_ok-put.ensures.bound) in
    record {
      within = omega (arith, bound, length-drop put bytes);
      held = and_more_piece (g.O.Sink.held c.args.out.now) (g.O.Sink.held c.loop-put.out) (g.O.Sink.held c.put.new.self) put n bytes c.loop-put.invariant.held
          (c.in_ok-put.ensures.held ∙ ap (λ xs. and_more (g.O.Sink.held c.loop-put.out) (take n xs)) rest);
      still = c.in_ok-put.ensures.cause.still (no_error _ _) ∙ c.loop-put.invariant.still;
    }
