use Rattle.std.proofs.Common.{◌≡◌, ◌++◌, ◌∙◌, ap, subst, sym}
use Rattle.std.proofs.lemmas.Result.{err_from_is_err_and}
use Rattle.iss_schedule.specs.Headers.{faulty_line, header_fields, lines_of, row_at, see, value}
use Rattle.iss_schedule.specs.Places.{AreFew, Place, most_faulty}
use Rattle.iss_schedule.specs.Words.{ended}
use Rattle.iss_schedule.proofs.BadLines.PrefixesAreRead.{faulty_refused, known_made, made, most_are, nodes_are, past, text_made}
use Rattle.iss_schedule.proofs.reading.read_setup.Goals as goal

pub returns-in_err-faulty-clause-bad : goal.returns-in_err-faulty-clause-bad
returns-in_err-faulty-clause-bad c =
    let text : c.args.bytes.now ≡ ended (lines_of header_fields c.in-Ok.values) ++ c.read_header.new.lines.rest =
    ap (λ (p : Place). p.rest) (sym c.requires.all) ∙ c.in-Ok.ensures.ok in
    let p = err_from_is_err_and c.from_residual.result c.from_residual.ensures.1 in
    rw (p.1, p.2)
    (faulty_refused c.in-Ok.values c.args.bytes.now c.read_header.new.lines c.most_faulty.result c.nodes.result
    c.in_err-faulty.field-0.0 c.in-Ok.ensures.range text c.in-Ok.ensures.read c.requires.short
    (most_are c.in-Ok.values c.of-cluster.result.f (see c.of-cluster.result.row.now) c.most_faulty.result
    c.of-cluster.ensures.row c.of-cluster.ensures.faults c.most_faulty.ensures.most)
    (nodes_are c.in-Ok.values c.of-cluster.result.f (see c.of-cluster.result.row.now) c.nodes.result
    c.of-cluster.ensures.row c.of-cluster.ensures.faults c.nodes.ensures.nodes) c.in_err-faulty.ensures.bad)

pub returns-clause-known : goal.returns-clause-known
returns-clause-known c =
    let text : c.args.bytes.now ≡ ended (lines_of header_fields c.in-Ok.values) ++ c.read_header.new.lines.rest =
    ap (λ (p : Place). p.rest) (sym c.requires.all) ∙ c.in-Ok.ensures.ok in
    let all = past c.args.bytes.now (lines_of header_fields c.in-Ok.values)
    (faulty_line c.in_ok-faulty.faulty) c.read_header.new.lines.rest c.read_faulty.new.lines.rest text
    c.in_ok-faulty.ensures.ok.text in
    let is = made c.in-Ok.values c.in_ok-faulty.faulty c.args.bytes.now c.front.result.now c.read_faulty.new.lines.rest
    c.rest.result.now c.setup_of.result c.in-Ok.ensures.range c.setup_of.ensures c.front.ensures
    c.rest.ensures all in
    let few = c.in_ok-faulty.ensures.few in
    let at_most = subst (λ k. AreFew k c.nodes.result c.in_ok-faulty.faulty)
    (most_are c.in-Ok.values c.of-cluster.result.f (see c.of-cluster.result.row.now) c.most_faulty.result
    c.of-cluster.ensures.row c.of-cluster.ensures.faults c.most_faulty.ensures.most) few in
    let may = subst (λ n. AreFew
    (most_faulty (row_at (value c.in-Ok.values 1)).kind (value c.in-Ok.values 2)) n c.in_ok-faulty.faulty)
    (nodes_are c.in-Ok.values c.of-cluster.result.f (see c.of-cluster.result.row.now) c.nodes.result
    c.of-cluster.ensures.row c.of-cluster.ensures.faults c.nodes.ensures.nodes) at_most in
    known_made c.in-Ok.values c.in_ok-faulty.faulty c.setup_of.result c.in-Ok.ensures.range may is

pub returns-clause-text : goal.returns-clause-text
returns-clause-text c =
    let text : c.args.bytes.now ≡ ended (lines_of header_fields c.in-Ok.values) ++ c.read_header.new.lines.rest =
    ap (λ (p : Place). p.rest) (sym c.requires.all) ∙ c.in-Ok.ensures.ok in
    let all = past c.args.bytes.now (lines_of header_fields c.in-Ok.values)
    (faulty_line c.in_ok-faulty.faulty) c.read_header.new.lines.rest c.read_faulty.new.lines.rest text
    c.in_ok-faulty.ensures.ok.text in
    let is = made c.in-Ok.values c.in_ok-faulty.faulty c.args.bytes.now c.front.result.now c.read_faulty.new.lines.rest
    c.rest.result.now c.setup_of.result c.in-Ok.ensures.range c.setup_of.ensures c.front.ensures
    c.rest.ensures all in
    text_made c.in-Ok.values c.in_ok-faulty.faulty c.setup_of.result c.args.bytes.now c.read_faulty.new.lines.rest
    c.in-Ok.ensures.range is all
