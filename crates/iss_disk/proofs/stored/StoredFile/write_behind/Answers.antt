use Rattle.std.proofs.Common.{rules, sym, ◌≡◌, ◌∙◌, ap, ℕ, ◌≤◌, List, ◌++◌, ◌+◌, length, vec_capacity, take, drop, arith, length-append}
use Rattle.std.proofs.lemmas.List.{take_all}
use Rattle.iss_disk.specs.File.{overwritten, wrote}
use Rattle.iss_disk.specs.NoteViews.{calls_in}
use Rattle.iss_disk.specs.States.{states, after, calls_of}
use Rattle.iss_disk.specs.StoredViews.{room_of}
use Rattle.iss_disk.specs.declared.call.Recent.{Recent}
use Rattle.iss_disk.specs.declared.call.Recent.TheVariants.{Wrote as Just_wrote}
use Rattle.iss_disk.specs.EachState.{states_some}
use Rattle.iss_disk.proofs.StoredLemmas.{write_keeps, written_behind, to-end-overwritten, nothing_behind}
use Rattle.iss_disk.proofs.stored.StoredFile.write_behind.Goals as goal

pub invariant_of-self-clause-stored : goal.invariant_of-self-clause-stored
invariant_of-self-clause-stored c =
    let content = c.args.self.now.content.items in
    let listed = calls_in c.args.self.now.calls in
    let calls = calls_of c.args.self.now.recent ++ listed in
    let lost = c.args.self.now.lost.items in
    let behind = c.args.self.now.behind.items in
    let same = c.args.self.now.same in
    let resumes = c.args.self.now.resumes in
    let bytes = c.args.bytes.now in
    let longer = c.put_all.new.content.items in
    let at = length content in
    let all : same ≡ at = c.requires.rest.all_synced in
    let extended : longer ≡ content ++ bytes = search rules in
    let one_more : states (calls_of (Just_wrote same) ++ listed) lost longer
    ≡ after (wrote at bytes) (states calls lost content) =
    written_behind c.args.self.now.recent listed same bytes content lost longer c.requires.rest.all_noted all extended
    in
    let over : longer ≡ overwritten at bytes content =
    extended ∙ ap (λ (l : List ℕ). l ++ bytes) (sym (take_all at content (omega arith)))
    ∙ sym (to-end-overwritten at bytes content (omega arith)) in
    let parted : take same content ++ behind ≡ take same content ++ (behind ++ drop resumes content) =
    ap (λ (l : List ℕ). take same content ++ l)
    (sym (nothing_behind behind content resumes (omega (arith, all, c.args.self.now.stored.in_order)))) in
    let grows : length content ≤ length longer = omega (arith, ap length extended, length-append content bytes) in
    let ends : c.len-self.result ≡ length longer = search rules in
    write_keeps (states calls lost content)
    (states (calls_of (Just_wrote same) ++ listed) lost longer) at bytes content longer behind behind same resumes same
    c.len-self.result
    (states_some calls lost content) c.args.self.now.stored (omega arith) (omega arith)
    (omega (arith, all)) parted one_more over grows ends

pub returns : goal.returns
returns c =
    let extended : c.put_all.new.content.items ≡ c.args.self.now.content.items ++ c.args.bytes.now = search rules in
    let few : length (calls_of c.args.self.now.recent) ≡ 0 =
    ap (λ (r : Recent). length (calls_of r)) c.requires.rest.all_noted in
    let call : 1 ≤ (room_of c.args.self.now).calls = c.requires.room.calls in
    let fits : length c.args.bytes.now ≤ (room_of c.args.self.now).bytes = c.requires.room.bytes in
    let capacity : vec_capacity c.args.self.now.content ≤ vec_capacity c.put_all.new.content =
    c.put_all.ensures.capacity in
    let grows : length c.put_all.new.content.items ≡ length c.args.self.now.content.items + length c.args.bytes.now =
    ap length extended ∙ length-append c.args.self.now.content.items c.args.bytes.now in
    record {
      states = written_behind c.args.self.now.recent
          (calls_in c.args.self.now.calls) c.args.self.now.same c.args.bytes.now c.args.self.now.content.items
          c.args.self.now.lost.items c.put_all.new.content.items c.requires.rest.all_noted c.requires.rest.all_synced
          extended;
      room = search rules;
      name = search rules;
    }
