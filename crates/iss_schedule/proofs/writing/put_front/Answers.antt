use Rattle.std.proofs.Common.{◌≡◌, ◌∙◌, ◌∷◌, ◌++◌, [], ℕ, List, codes, get_or, refl, ap, append_assoc}
use Rattle.std.proofs.lemmas.Result.{on_ok_weaker}
use Rattle.iss_schedule.specs.Headers.{field, lines_of_rows, module_rows, place_among}
use Rattle.iss_schedule.proofs.Encoding.TextIsWritten.{line_before, field_before}
use Rattle.iss_schedule.proofs.writing.put_front.Goals as goal

pub returns : goal.returns
returns c =
    let s = c.args.setup.now in
    let m : List ℕ = get_or (lines_of_rows module_rows) (place_among s.module module_rows) [] in
    let z = c.put_field-3.new.out.items in
    let x5 = field (codes "buckets") s.buckets ++ 10 ∷ [] in
    let x4 = field (codes "epoch") s.epoch ++ 10 ∷ x5 in
    let x3 = field (codes "f") s.f ++ 10 ∷ x4 in
    let x2 = m ++ 10 ∷ x3 in
    on_ok_weaker c.put_field-3.result
    (λ (e : z ≡ c.put_field-2.new.out.items ++ field (codes "buckets") c.from-2.result ++ 10 ∷ []).
    let e5 = e ∙ ap (λ k. c.put_field-2.new.out.items ++ field (codes "buckets") k ++ 10 ∷ []) c.from-2.ensures
    ∙ append_assoc c.put_field-2.new.out.items (field (codes "buckets") s.buckets) (10 ∷ []) in
    let e4 = field_before c.put_field.new.out.items c.put_field-2.new.out.items z
    (codes "epoch") s.epoch s.epoch x5 refl c.in_ok-put_field-2.ensures e5 in
    let e3 = field_before c.put_line-2.new.out.items c.put_field.new.out.items z
    (codes "f") c.from.result s.f x4 c.from.ensures c.in_ok-put_field.ensures e4 in
    let e2 = line_before c.put_line.new.out.items c.put_line-2.new.out.items z m x3 (c.in_ok-put_line-2.ensures
    ∙ ap (λ (t : List ℕ). c.put_line.new.out.items ++ t ++ 10 ∷ []) c.line_of.ensures) e3 in
    line_before c.args.out.now.items c.put_line.new.out.items z (codes "iss 1") x2 c.in_ok-put_line.ensures e2)
    c.put_field-3.ensures
