use Rattle.std.proofs.Common.{rules, ◌≡◌, ◌∙◌, ap, sym, ℕ, false, true, is_some, nat_cmp}
use Rattle.std.specs.BTreeMap.{insert_entry, is_at}
use Rattle.std.specs.Map.{lookup}
use Rattle.std.proofs.lemmas.Result.{on_ok_weaker}
use Rattle.iss_links.specs.Frames.{Fragment}
use Rattle.iss_links.specs.Reassembly.{Partial}
use Rattle.iss_links.proofs.MapLemmas.{fragment-again, fragment-new, parts_in}
use Rattle.iss_links.proofs.reassembly.PartialPacket.add.Goals as goal

pub returns-then-contains_key : goal.returns-then-contains_key
returns-then-contains_key c =
    let there : is_some (lookup (is_at (nat_cmp c.args.frame.part)) c.self.inside.received.entries) ≡ true = search rules in
    fragment-again c.args.frame c.args.self.now c.self.inside.received.entries (ap (λ (g : Partial). g.received) (sym c.self.view_is)) there

pub returns : goal.returns
returns c =
    let none : is_some (lookup (is_at (nat_cmp c.args.frame.part)) c.self.inside.received.entries) ≡ false = search rules in
    let same : c.frame.inside.part ≡ c.args.frame.part = ap (λ (f : Fragment). f.part) c.frame.view_is in
    on_ok_weaker c.insert_part.result (λ e. fragment-new c.args.frame c.args.self.now _ c.frame.inside.bytes c.self.inside.received.entries c.insert_part.new.received.entries
    (ap (λ (g : Partial). g.received) (sym c.self.view_is)) (search rules) none (e ∙ ap (λ (k : ℕ). insert_entry nat_cmp c.self.inside.received.entries k c.frame.inside.bytes) same)
    (ap (λ (g : Partial). record g { received = parts_in c.insert_part.new.received.entries }) c.self.view_is)) c.insert_part.ensures
