-- A write and a cut can be undone, and keep the invariant of a stored file.
use Rattle.std.proofs.Common.{◌≡◌, ℕ, ◌+◌, ◌-◌, ◌<◌, ◌≤◌, List, [], ◌∷◌, ◌++◌, length, take, drop, get_or, set, refl, sym, ◌∙◌, ap, arith, length-append, length-take-le, length-drop}
use Rattle.std.proofs.lemmas.List.{append-nil, append_assoc, take_at, drop_at, drop_all, drop_more, take_all, take-set, drop-set, take-take, take-append-le, take-append-drop, drop-drop}
use Rattle.iss_disk.specs.File.{File, overwritten, wrote, shortened, synced, restarted}
use Rattle.iss_disk.specs.EachState.{HasNewest}
use Rattle.iss_disk.specs.States.{states, after, newest, calls_of, last_bytes, all_but, with_tail, with_part, IsStored}
use Rattle.iss_disk.specs.declared.call.Call.{Call}
use Rattle.iss_disk.specs.declared.call.Recent.{Recent}
use Rattle.iss_disk.specs.declared.call.Recent.TheVariants.{Nothing, Wrote as Just_wrote, Kept as Just_kept, Opening}
use Rattle.iss_disk.specs.declared.call.Call.TheVariants.{ToEnd, Within, Cut, Kept, Restarted}

pub newest_after : (change : File → File) (files : List File) → HasNewest files →
    newest (after change files) ≡ change (newest files)
newest_after change files some = ap (λ (fs : List File). newest (after change fs)) some.is
    ∙ sym (ap (λ (fs : List File). change (newest fs)) some.is)

-- what the last call removed, and what was removed before it
pub last_taken : (lost taken : List ℕ) (n : ℕ) → length taken ≡ n → last_bytes n (lost ++ taken) ≡ taken
last_taken lost taken n is =
    let front : length (lost ++ taken) - n ≡ length lost = omega (arith, length-append lost taken, is) in
    drop_at lost taken _ (sym front)

pub taken_before : (lost taken : List ℕ) (n : ℕ) → length taken ≡ n → all_but n (lost ++ taken) ≡ lost
taken_before lost taken n is =
    let front : length (lost ++ taken) - n ≡ length lost = omega (arith, length-append lost taken, is) in
    take_at lost taken _ (sym front)

-- a write changes nothing after its end
pub drop-overwritten : (at : ℕ) (bytes content : List ℕ) → at + length bytes ≤ length content →
    drop (at + length bytes) (overwritten at bytes content) ≡ drop (at + length bytes) content
drop-overwritten at bytes content within =
    let l : length (take at content ++ bytes) ≡ at + length bytes =
    omega (arith, length-append (take at content) bytes, length-take-le at content (omega (arith, within))) in
    drop_at (take at content ++ bytes) (drop (at + length bytes) content) (at + length bytes) l

-- a write changes nothing before its offset
pub take-overwritten : (same at : ℕ) (bytes content : List ℕ) → same ≤ at → at ≤ length content →
    take same (overwritten at bytes content) ≡ take same content
take-overwritten same at bytes content le within =
    let l : length (take at content) ≡ at = length-take-le at content within in
    take-append-le same (take at content ++ bytes) (drop (at + length bytes) content)
    (omega (arith, length-append (take at content) bytes, l, le))
    ∙ take-append-le same (take at content) bytes (omega (arith, l, le))
    ∙ take-take same at content le

-- after a write that reaches the end, the bytes from its offset on are what it wrote
pub to-end-overwritten : (at : ℕ) (bytes content : List ℕ) → length content ≤ at + length bytes →
    overwritten at bytes content ≡ take at content ++ bytes
to-end-overwritten at bytes content past =
    ap (λ (l : List ℕ). (take at content ++ bytes) ++ l) (drop_all (at + length bytes) content past)
    ∙ append-nil (take at content ++ bytes)

-- a write within the file is undone
pub undone_within : (calls : List Call) (at len : ℕ) (bytes content lost : List ℕ) → length bytes ≡ len →
    at + len ≤ length content
    → states (Within at len ∷ calls) (lost ++ take len (drop at content)) (overwritten at bytes content)
    ≡ after (wrote at bytes) (states calls lost content)
undone_within calls at len bytes content lost long within =
    let over = overwritten at bytes content in
    let taken = take len (drop at content) in
    let behind : length (drop at content) ≡ length content - at = length-drop at content in
    let n : length taken ≡ len = length-take-le len (drop at content) (omega (arith, behind, within)) in
    let l : length (take at content) ≡ at = length-take-le at content (omega (arith, within)) in
    let ends : at + length bytes ≤ length content = omega (arith, long, within) in
    let there : take len (drop at over) ≡ bytes =
    ap (λ (xs : List ℕ). take len (drop at xs))
    (append_assoc (take at content) bytes (drop (at + length bytes) content))
    ∙ ap (take len) (drop_at (take at content) (bytes ++ drop (at + length bytes) content) at l)
    ∙ take_at bytes (drop (at + length bytes) content) len long in
    let front : take at over ≡ take at content =
    take-overwritten at at bytes content (omega arith) (omega (arith, within)) in
    let rest : drop (at + len) over ≡ drop (at + len) content =
    ap (λ (k : ℕ). drop (at + k) over) (sym long) ∙ drop-overwritten at bytes content ends
    ∙ ap (λ (k : ℕ). drop (at + k) content) long in
    let back : with_part at len taken over ≡ content =
    ap (λ (xs : List ℕ). (xs ++ taken) ++ drop (at + len) over) front
    ∙ ap (λ (xs : List ℕ). (take at content ++ taken) ++ xs) rest
    ∙ append_assoc (take at content) taken (drop (at + len) content)
    ∙ ap (λ (xs : List ℕ). take at content ++ (taken ++ xs)) (sym (drop-drop len at content))
    ∙ ap (λ (xs : List ℕ). take at content ++ xs) (take-append-drop len (drop at content))
    ∙ take-append-drop at content in
    ap (λ (xs : List ℕ). after (wrote at xs)
    (states calls (all_but len (lost ++ taken)) (with_part at len (last_bytes len (lost ++ taken)) over))) there
    ∙ ap (λ (xs : List ℕ). after (wrote at bytes)
    (states calls xs (with_part at len (last_bytes len (lost ++ taken)) over))) (taken_before lost taken len n)
    ∙ ap (λ (xs : List ℕ). after (wrote at bytes) (states calls lost (with_part at len xs over)))
    (last_taken lost taken len n)
    ∙ ap (λ (xs : List ℕ). after (wrote at bytes) (states calls lost xs)) back

-- a write that reaches the end is undone
pub undone_to_end : (calls : List Call) (at over : ℕ) (bytes content lost : List ℕ) → at ≤ length content →
    length content ≤ at + length bytes → over ≡ length content - at
    → states (ToEnd at over ∷ calls) (lost ++ drop at content) (overwritten at bytes content)
    ≡ after (wrote at bytes) (states calls lost content)
undone_to_end calls at over bytes content lost within past is_over =
    let taken = drop at content in
    let n : length taken ≡ over = omega (arith, length-drop at content, is_over) in
    let l : length (take at content) ≡ at = length-take-le at content within in
    let whole = take at content ++ bytes in
    let there : drop at whole ≡ bytes = drop_at (take at content) bytes at l in
    let back : with_tail at taken whole ≡ content =
    ap (λ (xs : List ℕ). xs ++ taken) (take_at (take at content) bytes at l) ∙ take-append-drop at content in
    ap (states (ToEnd at over ∷ calls) (lost ++ taken)) (to-end-overwritten at bytes content past)
    ∙ ap (λ (xs : List ℕ). after (wrote at xs)
    (states calls (all_but over (lost ++ taken)) (with_tail at (last_bytes over (lost ++ taken)) whole))) there
    ∙ ap (λ (xs : List ℕ). after (wrote at bytes)
    (states calls xs (with_tail at (last_bytes over (lost ++ taken)) whole))) (taken_before lost taken over n)
    ∙ ap (λ (xs : List ℕ). after (wrote at bytes) (states calls lost (with_tail at xs whole)))
    (last_taken lost taken over n)
    ∙ ap (λ (xs : List ℕ). after (wrote at bytes) (states calls lost xs)) back

-- a write at the end, which removes nothing, is undone
pub undone_behind : (calls : List Call) (bytes content lost : List ℕ) →
    states (ToEnd (length content) 0 ∷ calls) lost (content ++ bytes)
    ≡ after (wrote (length content) bytes) (states calls lost content)
undone_behind calls bytes content lost =
    let at = length content in
    let there : drop at (content ++ bytes) ≡ bytes = drop_at content bytes at refl in
    let front : take at (content ++ bytes) ≡ content = take_at content bytes at refl in
    let none : last_bytes 0 lost ≡ [] = drop_all (length lost - 0) lost (omega arith) in
    let all : all_but 0 lost ≡ lost = take_all (length lost - 0) lost (omega arith) in
    ap (λ (xs : List ℕ). after (wrote at xs)
    (states calls (all_but 0 lost) (with_tail at (last_bytes 0 lost) (content ++ bytes)))) there
    ∙ ap (λ (xs : List ℕ). after (wrote at bytes)
    (states calls xs (with_tail at (last_bytes 0 lost) (content ++ bytes)))) all
    ∙ ap (λ (xs : List ℕ). after (wrote at bytes) (states calls lost (take at (content ++ bytes) ++ xs))) none
    ∙ ap (λ (xs : List ℕ). after (wrote at bytes) (states calls lost xs)) (append-nil (take at (content ++ bytes))
    ∙ front)

-- a cut is undone
pub undone_cut : (calls : List Call) (n by : ℕ) (content lost : List ℕ) → n ≤ length content → by ≡ length content - n
    → states (Cut by ∷ calls) (lost ++ drop n content) (take n content)
    ≡ after (shortened n) (states calls lost content)
undone_cut calls n by content lost within is_by =
    let taken = drop n content in
    let l : length (take n content) ≡ n = length-take-le n content within in
    let k : length taken ≡ by = omega (arith, length-drop n content, is_by) in
    ap (λ (m : ℕ). after (shortened m)
    (states calls (all_but by (lost ++ taken)) (take n content ++ last_bytes by (lost ++ taken)))) l
    ∙ ap (λ (xs : List ℕ). after (shortened n) (states calls xs (take n content ++ last_bytes by (lost ++ taken))))
    (taken_before lost taken by k)
    ∙ ap (λ (xs : List ℕ). after (shortened n) (states calls lost (take n content ++ xs))) (last_taken lost taken by k)
    ∙ ap (λ (xs : List ℕ). after (shortened n) (states calls lost xs)) (take-append-drop n content)

-- what a crash removed is restored
pub undone_restart : (calls : List Call) (at over : ℕ) (content lost whole : List ℕ) → at ≤ length content →
    over ≡ length content - at → take at whole ≡ take at content
    → states (Restarted at over ∷ calls) (lost ++ drop at content) whole ≡ after restarted (states calls lost content)
undone_restart calls at over content lost whole within is_over front =
    let taken = drop at content in
    let k : length taken ≡ over = omega (arith, length-drop at content, is_over) in
    ap (λ (xs : List ℕ). after restarted (states calls xs (with_tail at (last_bytes over (lost ++ taken)) whole)))
    (taken_before lost taken over k)
    ∙ ap (λ (xs : List ℕ). after restarted (states calls lost (with_tail at xs whole))) (last_taken lost taken over k)
    ∙ ap (λ (xs : List ℕ). after restarted (states calls lost (xs ++ taken))) front
    ∙ ap (λ (xs : List ℕ). after restarted (states calls lost xs)) (take-append-drop at content)

-- nothing of the content after the saved bytes was synced
pub nothing_behind : (apart content : List ℕ) (resumes : ℕ) → length content ≤ resumes →
    apart ++ drop resumes content ≡ apart
nothing_behind apart content resumes past = ap (λ (l : List ℕ). apart ++ l) (drop_all resumes content past)
    ∙ append-nil apart

pub write_keeps : (old_states new_states : List File) (at : ℕ) (bytes content over behind apart : List ℕ)
    (same resumes m end : ℕ) → HasNewest old_states → IsStored old_states content behind same resumes →
    at ≤ length content → m ≤ same → m ≤ at
    → take m content ++ apart ≡ take same content ++ (behind ++ drop resumes content)
    → new_states ≡ after (wrote at bytes) old_states → over ≡ overwritten at bytes content →
    length content ≤ length over → end ≡ length over → IsStored new_states over apart m end
write_keeps old_states new_states at bytes content over behind apart same resumes m end some old within le_same le_at
    parted one_more is_over longer ends =
    let now : newest new_states ≡ wrote at bytes (newest old_states) = ap newest one_more
    ∙ newest_after (wrote at bytes) old_states some in
    record {
      is_content = ap (λ (f : File). f.content) now ∙ ap (overwritten at bytes) old.is_content ∙ sym is_over;
      is_kept =
          let front : take m over ≡ take m content = ap (take m) is_over
          ∙ take-overwritten m at bytes content le_at within in
          let rest = nothing_behind apart over end (omega (arith, ends)) in
          ap (λ (f : File). f.kept) now ∙ old.is_kept ∙ sym parted ∙ ap (λ (l : List ℕ). l ++ apart) (sym front)
          ∙ ap (λ (l : List ℕ). take m over ++ l) (sym rest);
      in_content = omega (arith, le_same, old.in_content, longer);
      in_order = omega (arith, le_same, old.in_content, longer, ends);
    }

-- setting one byte is a write of one byte
pub set-overwritten : (at byte : ℕ) (content : List ℕ) → at < length content →
    set content at byte ≡ overwritten at (byte ∷ []) content
set-overwritten at byte content within =
    sym (take-append-drop at (set content at byte))
    ∙ ap (λ (l : List ℕ). l ++ drop at (set content at byte)) (take-set content at byte)
    ∙ ap (λ (l : List ℕ). take at content ++ l) (drop-set content at byte within)
    ∙ sym (append_assoc (take at content) (byte ∷ []) (drop (at + 1) content))

-- a write of one byte before what was just synced is undone
pub undone_byte : (recent : Recent) (calls : List Call) (at byte former : ℕ) (content lost after_loss over : List ℕ) →
    at < length content → former ≡ get_or content at former → recent ≡ Just_kept (at + 1)
    → after_loss ≡ lost ++ former ∷ [] → over ≡ overwritten at (byte ∷ []) content →
    states (calls_of (Opening (at + 1)) ++ calls) after_loss over
    ≡ after (wrote at (byte ∷ [])) (states (calls_of recent ++ calls) lost content)
undone_byte recent calls at byte former content lost after_loss over within was just_kept loses is_over =
    let before : (at + 1) - 1 ≡ at = omega arith in
    let taken : take 1 (drop at content) ≡ former ∷ [] = ap (take 1) (drop_more content at former within)
    ∙ ap (λ (b : ℕ). b ∷ []) (sym was) in
    ap (λ (n : ℕ). states (Within n 1 ∷ Kept (at + 1) ∷ calls) after_loss over) before
    ∙ ap (states (Within at 1 ∷ Kept (at + 1) ∷ calls) after_loss) is_over
    ∙ ap (λ (l : List ℕ). states (Within at 1 ∷ Kept (at + 1) ∷ calls) l (overwritten at (byte ∷ []) content)) (loses
    ∙ ap (λ (l : List ℕ). lost ++ l) (sym taken))
    ∙ undone_within (Kept (at + 1) ∷ calls) at 1 (byte ∷ []) content lost refl (omega (arith, within))
    ∙ ap (λ (o : Recent). after (wrote at (byte ∷ [])) (states (calls_of o ++ calls) lost content)) (sym just_kept)

-- a write at the end is undone
pub written_behind : (recent : Recent) (calls : List Call) (at : ℕ) (bytes content lost longer : List ℕ) →
    recent ≡ Nothing → at ≡ length content → longer ≡ content ++ bytes
    → states (calls_of (Just_wrote at) ++ calls) lost longer
    ≡ after (wrote (length content) bytes) (states (calls_of recent ++ calls) lost content)
written_behind recent calls at bytes content lost longer nothing is_end extended =
    ap (λ (n : ℕ). states (ToEnd n 0 ∷ calls) lost longer) is_end
    ∙ ap (states (ToEnd (length content) 0 ∷ calls) lost) extended
    ∙ undone_behind calls bytes content lost
    ∙ ap (λ (o : Recent). after (wrote (length content) bytes) (states (calls_of o ++ calls) lost content))
    (sym nothing)

-- one byte over another in a file that is all synced: only the byte that it replaced is saved
pub over_keeps : (old_states new_states : List File) (at byte former : ℕ) (content over : List ℕ) (same resumes : ℕ) →
    HasNewest old_states → IsStored old_states content [] same resumes → same ≡ length content → at < length content
    → former ≡ get_or content at former → new_states ≡ after (wrote at (byte ∷ [])) old_states →
    over ≡ overwritten at (byte ∷ []) content → IsStored new_states over (former ∷ []) at (at + 1)
over_keeps old_states new_states at byte former content over same resumes some old all within was one_more is_over =
    let now : newest new_states ≡ wrote at (byte ∷ []) (newest old_states) = ap newest one_more
    ∙ newest_after (wrote at (byte ∷ [])) old_states some in
    let longer : length over ≡ length content =
    omega (
      arith,
      ap length is_over,
      length-append (take at content ++ (byte ∷ [])) (drop (at + 1) content),
      length-append (take at content) (byte ∷ []),
      length-take-le at content (omega (arith, within)),
      length-drop (at + 1) content,
    ) in
    let front : take at over ≡ take at content = ap (take at) is_over
    ∙ take-overwritten at at (byte ∷ []) content (omega arith) (omega (arith, within)) in
    let behind : drop (at + 1) over ≡ drop (at + 1) content = ap (drop (at + 1)) is_over
    ∙ drop-overwritten at (byte ∷ []) content (omega (arith, within)) in
    record {
      is_content = ap (λ (f : File). f.content) now ∙ ap (overwritten at (byte ∷ [])) old.is_content ∙ sym is_over;
      is_kept =
          let whole : (newest old_states).kept ≡ content =
          old.is_kept ∙ ap (λ (l : List ℕ). take same content ++ l)
          (drop_all resumes content (omega (arith, all, old.in_order))) ∙ append-nil (take same content)
          ∙ take_all same content (omega (arith, all)) in
          let parted : take at content ++ (former ∷ drop (at + 1) content) ≡ content =
          ap (λ (l : List ℕ). take at content ++ l)
          (sym (drop_more content at former within ∙ ap (λ (b : ℕ). b ∷ drop (at + 1) content) (sym was)))
          ∙ take-append-drop at content in
          ap (λ (f : File). f.kept) now ∙ whole ∙ sym parted
          ∙ ap (λ (l : List ℕ). l ++ (former ∷ drop (at + 1) content)) (sym front)
          ∙ ap (λ (l : List ℕ). take at over ++ (former ∷ l)) (sym behind);
      in_content = omega (arith, within, longer);
      in_order = omega arith;
    }

pub cut_keeps : (old_states new_states : List File) (n : ℕ) (content short behind apart : List ℕ) (same resumes m : ℕ) →
    HasNewest old_states → IsStored old_states content behind same resumes → n ≤ length content → m ≤ same → m ≤ n
    → take m content ++ apart ≡ take same content ++ (behind ++ drop resumes content)
    → new_states ≡ after (shortened n) old_states → short ≡ take n content → IsStored new_states short apart m n
cut_keeps old_states new_states n content short behind apart same resumes m some old within le_same le_n parted
    one_more is_short =
    let now : newest new_states ≡ shortened n (newest old_states) = ap newest one_more
    ∙ newest_after (shortened n) old_states some in
    record {
      is_content = ap (λ (f : File). f.content) now ∙ ap (take n) old.is_content ∙ sym is_short;
      is_kept =
          let front : take m short ≡ take m content = ap (take m) is_short ∙ take-take m n content le_n in
          let rest = nothing_behind apart short n
          (omega (arith, ap length is_short, length-take-le n content within)) in
          ap (λ (f : File). f.kept) now ∙ old.is_kept ∙ sym parted ∙ ap (λ (l : List ℕ). l ++ apart) (sym front)
          ∙ ap (λ (l : List ℕ). take m short ++ l) (sym rest);
      in_content = omega (arith, ap length is_short, length-take-le n content within, le_n);
      in_order = omega (arith, le_n);
    }

-- after a sync the stored bytes are all synced
pub sync_keeps : (old_states new_states : List File) (content behind : List ℕ) (same resumes end : ℕ) →
    HasNewest old_states → IsStored old_states content behind same resumes
    → new_states ≡ after synced old_states → end ≡ length content → IsStored new_states content [] end end
sync_keeps old_states new_states content behind same resumes end some old one_more ends =
    let now : newest new_states ≡ synced (newest old_states) = ap newest one_more
    ∙ newest_after synced old_states some in
    record {
      is_content = ap (λ (f : File). f.content) now ∙ old.is_content;
      is_kept =
          let whole : take end content ++ drop end content ≡ content = take-append-drop end content in
          ap (λ (f : File). f.kept) now ∙ old.is_content ∙ sym whole;
      in_content = omega (arith, ends);
      in_order = omega arith;
    }

-- after a restart the stored bytes are all synced
pub restart_keeps : (old_states new_states : List File) (content behind whole : List ℕ) (same resumes end : ℕ) →
    HasNewest old_states → IsStored old_states content behind same resumes
    → new_states ≡ after restarted old_states → whole ≡ take same content ++ (behind ++ drop resumes content) →
    end ≡ length whole → IsStored new_states whole [] end end
restart_keeps old_states new_states content behind whole same resumes end some old one_more is_whole ends =
    let now : newest new_states ≡ restarted (newest old_states) = ap newest one_more
    ∙ newest_after restarted old_states some in
    let kept : (newest old_states).kept ≡ whole = old.is_kept ∙ sym is_whole in
    record {
      is_content = ap (λ (f : File). f.content) now ∙ kept;
      is_kept =
          ap (λ (f : File). f.kept) now ∙ kept ∙ sym (take_all end whole (omega (arith, ends)))
          ∙ sym (append-nil (take end whole))
          ∙ ap (λ (l : List ℕ). take end whole ++ l) (sym (drop_all end whole (omega (arith, ends))));
      in_content = omega (arith, ends);
      in_order = omega arith;
    }
