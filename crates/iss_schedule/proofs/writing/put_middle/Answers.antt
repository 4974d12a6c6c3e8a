use Rattle.std.proofs.Common.{◌≡◌, ◌∙◌, ◌∷◌, ◌++◌, [], ℕ, List, codes, get_or, ap, append_assoc}
use Rattle.std.proofs.lemmas.Result.{on_ok_weaker}
use Rattle.iss_schedule.specs.Headers.{field, place_of_policy, policy_lines}
use Rattle.iss_schedule.proofs.Encoding.TextIsWritten.{line_before, field_before}
use Rattle.iss_schedule.proofs.writing.put_middle.Goals as goal

pub returns : goal.returns
returns c =
    let s = c.args.setup.now in
    let p : List ℕ = get_or policy_lines (place_of_policy s.policy) [] in
    let z = c.put_field-4.new.out.items in
    let x5 = field (codes "keys") s.keys ++ 10 ∷ [] in
    let x4 = field (codes "clients") s.clients ++ 10 ∷ x5 in
    let x3 = p ++ 10 ∷ x4 in
    let x2 = field (codes "window") s.window ++ 10 ∷ x3 in
    on_ok_weaker c.put_field-4.result
    (λ (e : z ≡ c.put_field-3.new.out.items ++ field (codes "keys") c.from-4.result ++ 10 ∷ []).
    let e5 = e ∙ ap (λ k. c.put_field-3.new.out.items ++ field (codes "keys") k ++ 10 ∷ []) c.from-4.ensures
    ∙ append_assoc c.put_field-3.new.out.items (field (codes "keys") s.keys) (10 ∷ []) in
    let e4 = field_before c.put_line.new.out.items c.put_field-3.new.out.items z
    (codes "clients") c.from-3.result s.clients x5 c.from-3.ensures c.in_ok-put_field-3.ensures e5 in
    let e3 = line_before c.put_field-2.new.out.items c.put_line.new.out.items z p x4 (c.in_ok-put_line.ensures
    ∙ ap (λ (t : List ℕ). c.put_field-2.new.out.items ++ t ++ 10 ∷ []) c.policy_line.ensures) e4 in
    let e2 = field_before c.put_field.new.out.items c.put_field-2.new.out.items z
    (codes "window") c.from-2.result s.window x3 c.from-2.ensures c.in_ok-put_field-2.ensures e3 in
    field_before c.args.out.now.items c.put_field.new.out.items z
    (codes "batch") c.from.result s.batch x2 c.from.ensures c.in_ok-put_field.ensures e2)
    c.put_field-4.ensures
