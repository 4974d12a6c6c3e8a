use Rattle.std.proofs.Common.{rules, ◌≡◌, ◌<◌, ◌≤◌, ◌∙◌, ℕ, Bool, ⊎_elim, sym, ap, subst, arith, length, map, slice_set}
use Rattle.std.proofs.lemmas.Bool.{cases_lt}
use Rattle.std.specs.List.{filter}
use Rattle.iss_layout.specs.Layout.{Conduct, carried, is_slot_of_leader, leads, past_all}
use Rattle.iss_layout.specs.Internal.Standings.{behind, changed, shown}
use Rattle.iss_layout.proofs.StandingLemmas.{carried_at, carried_set, carried_other}
use Rattle.iss_layout.proofs.standing.change_all.Goals as goal

pub loop-i-preserved : goal.loop-i-preserved
loop-i-preserved c =
    let i = c.loop-i.i in
    let nodes = c.loop-i.nodes in
    let within : i < length nodes = omega (arith, c.loop-i.invariant.size, c.requires.few) in
    let was = carried (map shown c.args.nodes.now) i in
    let worst = past_all (filter (is_slot_of_leader c.args.ended.now.layout.now i) c.args.ended.now.nil_slots.now) in
    let same = sym (carried_at nodes i) ∙ c.loop-i.invariant.left i (omega arith) in
    let at : carried (map shown (slice_set nodes i c.changed.result)) i ≡ changed was (leads c.args.ended.now.layout.now i) worst =
    carried_set nodes i c.changed.result within ∙ c.changed.ensures
    ∙ ap (λ (d : Conduct). changed d c.leads-led.result (behind c.worst_under-worst.result)) same
    ∙ ap (λ (b : Bool). changed was b (behind c.worst_under-worst.result)) c.leads-led.ensures
    ∙ ap (λ (w : ℕ). changed was (leads c.args.ended.now.layout.now i) w) c.worst_under-worst.ensures
    in
    record {
      size = search rules;
      done = λ j lt. ⊎_elim
          (λ (before : j < i). carried_other nodes i j c.changed.result (λ e. omega (arith, e, before)) ∙ c.loop-i.invariant.done j before)
          (λ (from : i ≤ j).
          let here : j ≡ i = omega (arith, from, lt) in
          subst (λ (k : ℕ). carried (map shown (slice_set nodes i c.changed.result)) k ≡ changed (carried (map shown c.args.nodes.now) k) (leads c.args.ended.now.layout.now k) (past_all (filter (is_slot_of_leader c.args.ended.now.layout.now k) c.args.ended.now.nil_slots.now))) (sym here) at)
          (cases_lt j i);
      left = λ j le. carried_other nodes i j c.changed.result (λ e. omega (arith, e, le)) ∙ c.loop-i.invariant.left j (omega (arith, le));
    }
