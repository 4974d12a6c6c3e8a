use Rattle.std.proofs.Common.{◌≡◌, ◌∙◌, ◌≤◌, ap, List, ℕ, length, take, sym, subst, arith, rules}
use Rattle.std.proofs.lemmas.List.{length-take}
use Rattle.iss_cli.proofs.EndLemmas.{IsRead, gave_some, read_piece, longer, refilled, no_error}
use Rattle.iss_cli.proofs.input.read_up_to.Goals as goal

pub loop-bytes-preserved : goal.loop-bytes-preserved
loop-bytes-preserved g c =
    let n = c.in_ok-take_more.field-0 in
    let slice = take c.min-room.result c.deref_mut.result.now in
    let bound : n ≤ c.min-room.result = omega (arith, c.in_ok-take_more.ensures.bound, length-take c.min-room.result c.deref_mut.result.now) in
    let more = longer c.loop-bytes.bytes.items c.take_more.new.buffer c.take_more.new.bytes.items n c.in_ok-take_more.ensures.bytes in
    let held : length c.loop-bytes.bytes.items ≡ c.len-in-loop-bytes.result = search rules in
    let size : c.loop-bytes.buffer.len ≡ length c.loop-bytes.buffer.items = sym c.deref_mut.ensures.len ∙ ap length c.deref_mut.ensures.value in
    let read = read_piece (g.I.Source.left c.args.input.now) (g.I.Source.left c.loop-bytes.input) (g.I.Source.left c.take_more.new.input) c.loop-bytes.bytes.items slice c.take_more.new.buffer n
    c.loop-bytes.invariant.read c.in_ok-take_more.ensures.taken in
    let P : List ℕ → Type 0 = λ bytes. IsRead (g.I.Source.left c.args.input.now) (g.I.Source.left c.take_more.new.input) bytes in
    record {
      within = omega (arith, more, bound, held, c.min-room.ensures);
      piece = refilled c.loop-bytes.buffer.len _ c.loop-bytes.buffer.items size ∙ size ∙ c.loop-bytes.invariant.piece;
      read = subst P (sym c.in_ok-take_more.ensures.bytes) read;
      gave = c.in_ok-take_more.ensures.empty ∙ gave_some n _ c.if-branch-eq0.false ∙ c.loop-bytes.invariant.gave;
      still = c.in_ok-take_more.ensures.cause.still (no_error _ _) ∙ c.loop-bytes.invariant.still;
    }
