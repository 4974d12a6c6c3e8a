-- Texts and the lines that are a prefix of them.
use Rattle.std.proofs.Common.{◌≡◌, ℕ, zero, suc, ◌+◌, ◌<◌, ◌≤◌, List, [], ◌∷◌, ◌++◌, length, take, drop, set, get_or, map, codes, Option, Some, None, Result, Err, refl, sym, ap, subst, ◌∙◌, arith, append_assoc, length-append, inl, inr}
use Rattle.std.proofs.Math.Seq.{drop-cons}
use Rattle.std.proofs.lemmas.List.{length-take-le, take_more_set}
use Rattle.sha2.specs.Sha256.{sha256}
use Rattle.iss_base.specs.Lists.{nth}
use Rattle.iss_base.proofs.Lists.{nth-below, some-injective}
use Rattle.iss_request.specs.declared.ids.NodeId.{NodeId}
use Rattle.iss_request.specs.declared.setups.Setup.{Setup}
use Rattle.iss_schedule.specs.declared.errors.LineFault.{LineFault}
use Rattle.iss_schedule.specs.declared.errors.LineFault.TheVariants.{Cut, Form, Faulty, Injected, Range, Size}
use Rattle.iss_schedule.specs.declared.errors.ReadError.{ReadError}
use Rattle.iss_schedule.specs.declared.errors.ReadError.TheVariants.{BadLine, NoMemory}
use Rattle.iss_schedule.specs.declared.schedules.Schedule.{Schedule}
use Rattle.iss_schedule.specs.BadLines.{Begins, IsBadRest, IsFirstBad, IsRefused}
use Rattle.iss_schedule.specs.declared.schedules.Event.{Event}
use Rattle.iss_schedule.specs.Events.{spell_event, IsInRange, AreInRange}
use Rattle.iss_schedule.specs.Forms.{Field, HasForm, IsFieldFormed, IsFaultyFormed, IsFormed, LineForm, forms_of}
use Rattle.iss_schedule.specs.Headers.{HeaderField, ModuleRow, OneOf, header_fields, AreValues, IsGoodLine, IsValue, faulty_line, lines_of, next_field, row_at, setup_of_row, setup_with, spell_value, value, values_of}
use Rattle.iss_schedule.specs.Places.{AreFew, GoesPast, Place, IsFieldFault, IsLineFault, IsFaultyLineFault, IsFaultyRefused, ReadsLine, most_faulty}
use Rattle.iss_schedule.specs.Schedules.{header_lines, schedule_lines, cluster_tag, IsKnown, IsFine, IsSchedule, most_events, most_bytes}
use Rattle.iss_schedule.specs.Words.{ended}
use Rattle.iss_schedule.proofs.HeaderTable.FieldsDetermineValues.{AreSome, all_some, field_behind, front_of, gone_on, length_lines, length_some, lines_more, next_good, some_more}
use Rattle.iss_schedule.proofs.HeaderTable.ValuesDetermineSetup.{MayFail, are_read, fields_fill, fields_sound, setup_made, known_faulty, known_read, same_header_lines, values_back, values_in_range}

pub ended-append : (xs ys : List (List ℕ)) → ended (xs ++ ys) ≡ ended xs ++ ended ys
ended-append [] ys = refl
ended-append (x ∷ xs) ys = ap (λ (t : List ℕ). x ++ 10 ∷ t) (ended-append xs ys)
    ∙ sym (append_assoc x (10 ∷ ended xs) (ended ys))

-- one more line in the prefix
pub past : (text : List ℕ) (front : List (List ℕ)) (line rest more : List ℕ) → text ≡ ended front ++ rest →
    rest ≡ line ++ 10 ∷ more → text ≡ ended (front ++ line ∷ []) ++ more
past text front line rest more e cut =
    e ∙ ap (λ (t : List ℕ). ended front ++ t) (cut ∙ sym (append_assoc line (10 ∷ []) more))
    ∙ sym (append_assoc (ended front) (line ++ 10 ∷ []) more)
    ∙ ap (λ (t : List ℕ). t ++ more) (sym (ended-append front (line ∷ [])))

-- the element that follows the prefix
pub nth_behind : (front : List (List ℕ)) (line : List ℕ) (lines : List (List ℕ)) →
    front ++ line ∷ [] ≡ take (length (front ++ line ∷ [])) lines → nth lines (length front) ≡ Some line
nth_behind [] line [] e = cc
nth_behind [] line (l ∷ ls) e = cc
nth_behind (f ∷ fs) line [] e = cc
nth_behind (f ∷ fs) line (l ∷ ls) e = let tails : fs ++ line ∷ [] ≡ take (length (fs ++ line ∷ [])) ls = cc in
    nth_behind fs line ls tails

-- ---- headers

-- the schedule without events and faulty nodes whose header has these values
abbrev pub empty_schedule : List ℕ → Schedule
empty_schedule vs = record { setup = setup_made vs []; events = [] }

pub fine_header : (vs : List ℕ) → AreValues header_fields [] vs → IsFine (empty_schedule vs)
fine_header vs ok = record {
  setup = known_read vs [] (are_read vs ok) (omega arith, tt);
  events = tt;
  few = omega arith;
}

-- lines of values in range begin a schedule
pub begun : (vs : List ℕ) (left : List HeaderField) → AreSome header_fields [] vs left →
    Begins (lines_of header_fields vs)
begun vs left some =
    let rest = gone_on header_fields [] vs left fields_fill some in
    let all : List ℕ = vs ++ rest.0 in
    let back = values_back all [] (cluster_tag (setup_with all [] [])) (are_read all rest.1) in
    record {
      schedule = empty_schedule all;
      fine = fine_header all rest.1;
      front = subst (λ (z : List ℕ). lines_of header_fields vs
          ≡ take (length (lines_of header_fields vs)) (lines_of header_fields z ++ codes "faulty none" ∷ [])) (sym back)
          (front_of header_fields [] vs rest.0 left (codes "faulty none" ∷ []) some);
    }

-- the form of a field's line is the form of its place
pub form_at : (fs : List HeaderField) (k : ℕ) (f : HeaderField) → nth fs k ≡ Some f →
    nth (forms_of fs) k ≡ Some (Field f)
form_at [] k f e = absurd (let none : None ≡ Some f = e in cc)
form_at (g ∷ fs) zero f e = let same : Some g ≡ Some f = e in
    ap (λ (z : HeaderField). Some (Field z)) (some-injective g f same)
form_at (g ∷ fs) (suc k) f e = form_at fs k f e

-- what is wrong with the next line of a header
line_bad : (front : List (List ℕ)) (rest : List ℕ) (f : HeaderField) (G : List ℕ → Type 0) → length front < 10 →
    nth header_fields (length front) ≡ Some f → ((line : List ℕ) → Begins (front ++ line ∷ []) → G line) →
    (why : LineFault) → IsLineFault (IsFieldFormed f) G rest why → IsBadRest front rest why
line_bad front rest f G short place fits Cut x = (omega (arith, short), x, inl (omega (arith, short)))
line_bad front rest f G short place fits Form x = (
  omega (arith, short),
  (
    x.0,
    (
      x.1.0,
      (λ has. x.1.1 (subst (λ (o : Option LineForm). IsFormed o x.0)
          (form_at header_fields (length front) f place) has)),
    ),
  ),
)
line_bad front rest f G short place fits Range x = (
  omega (arith, short),
  (
    x.0,
    (
      x.1.0,
      (
        subst (λ (o : Option LineForm). IsFormed o x.0) (sym (form_at header_fields (length front) f place)) x.1.1,
        (λ last. omega (arith, last, short)),
        (λ injected. omega (arith, injected.0, short)),
        (λ begin. x.1.2 (fits x.0 begin)),
      ),
    ),
  ),
)
line_bad front rest f G short place fits Faulty x = absurd x
line_bad front rest f G short place fits Injected x = absurd x
line_bad front rest f G short place fits Size x = absurd x

-- after values in range, a field could not be read
pub field_bad : (vs : List ℕ) (f : HeaderField) (more : List HeaderField) → AreSome header_fields [] vs (f ∷ more) →
    (text rest : List ℕ) → text ≡ ended (lines_of header_fields vs) ++ rest → (read : ℕ) → read ≡ suc (length vs) →
    (why : LineFault) → IsFieldFault f vs rest why → IsFirstBad text read why
field_bad vs f more some text rest e read count why fault =
    let len = length_some header_fields [] vs (f ∷ more) some in
    let place : nth header_fields (length (lines_of header_fields vs)) ≡ Some f =
    subst (λ k. nth header_fields k ≡ Some f) (sym len) (field_behind header_fields [] vs f more some) in
    let short : length (lines_of header_fields vs) < 10 =
    nth-below header_fields (length (lines_of header_fields vs)) f place in
    record {
      front = lines_of header_fields vs;
      rest = rest;
      text = e;
      number = count ∙ ap suc (sym len);
      good = begun vs (f ∷ more) some;
      bad = line_bad (lines_of header_fields vs) rest f (IsGoodLine f vs) short place
          (λ line begin. next_good header_fields fields_sound [] vs (values_of begin.schedule.setup) f more line
          (faulty_line begin.schedule.setup.faulty ∷ map spell_event begin.schedule.events) some
          (values_in_range begin.schedule.setup begin.fine.setup) begin.front)
          why fault;
    }

-- the values read so far, and the field to read next
pub next_is : (all : List ℕ) (place : ℕ) → length all ≡ 10 → place < 10 →
    drop place header_fields ≡ next_field (take place all) ∷ drop (suc place) header_fields
next_is all place size lt =
    drop-cons header_fields place (OneOf []) lt
    ∙ ap (λ k. get_or header_fields k (OneOf []) ∷ drop (suc place) header_fields)
    (sym (length-take-le place all (omega (arith, size, lt))))

-- what was read as the field of this place was read as the next one
pub read_at : (above line : List ℕ) (r : Result ℕ LineFault) (k : ℕ) (f : HeaderField) → length above ≡ k →
    f ≡ get_or header_fields k (OneOf []) → ReadsLine f above line r → ReadsLine (next_field above) above line r
read_at above line r k f e is h =
    subst (λ (z : HeaderField). ReadsLine z above line r) (is
    ∙ ap (λ n. get_or header_fields n (OneOf [])) (sym e)) h

-- what is wrong with the next line is wrong with the rest
pub amiss : (f : HeaderField) (above line : List ℕ) (old new : Place) (why : LineFault) → GoesPast line old new →
    ReadsLine f above line (Err why) → IsFieldFault f above old.rest why
amiss f above line old new Cut next x = absurd x
amiss f above line old new Form next x =
    (line, (record { more = new.rest; text = next.text; whole = next.whole }, x))
amiss f above line old new Range next x =
    (line, (record { more = new.rest; text = next.text; whole = next.whole }, x.0, x.1))
amiss f above line old new Faulty next x = absurd x
amiss f above line old new Injected next x = absurd x
amiss f above line old new Size next x = absurd x

-- the nodes of a cluster with these values, counted by its row and its faults alone
pub nodes_are : (vs : List ℕ) (f : ℕ) (r : ModuleRow) (n : ℕ) → r ≡ row_at (value vs 1) → f ≡ value vs 2 →
    n ≡ (setup_of_row r (0 ∷ 0 ∷ f ∷ []) [] []).n → n ≡ (setup_with vs [] []).n
nodes_are vs f r n row faults is =
    is ∙ ap (λ (k : ℕ). (setup_of_row r (0 ∷ 0 ∷ k ∷ []) [] []).n) faults
    ∙ ap (λ (q : ModuleRow). (setup_of_row q (0 ∷ 0 ∷ value vs 2 ∷ []) [] []).n) row

-- how many of them may be faulty
pub most_are : (vs : List ℕ) (f : ℕ) (r : ModuleRow) (most : ℕ) → r ≡ row_at (value vs 1) → f ≡ value vs 2 →
    most ≡ most_faulty r.kind f → most ≡ most_faulty (row_at (value vs 1)).kind (value vs 2)
most_are vs f r most row faults is =
    is ∙ ap (λ (k : ℕ). most_faulty r.kind k) faults ∙ ap (λ (q : ModuleRow). most_faulty q.kind (value vs 2)) row

-- one more value
pub one_more : (text all new : List ℕ) (place v : ℕ) (rest left : List ℕ) → length all ≡ 10 → place < 10 →
    AreSome header_fields [] (take place all) (drop place header_fields) →
    text ≡ ended (lines_of header_fields (take place all)) ++ rest → rest ≡ spell_value (next_field (take place all)) v
    ++ 10 ∷ left → IsValue (next_field (take place all)) (take place all) v → new ≡ set all place v →
    (text ≡ ended (lines_of header_fields (take (place + 1) new)) ++ left)
    × AreSome header_fields [] (take (place + 1) new) (drop (place + 1) header_fields)
one_more text all new place v rest left size lt some e cut ok is =
    let vs = take place all in
    let f = next_field vs in
    let more = drop (suc place) header_fields in
    let here = subst (AreSome header_fields [] vs) (next_is all place size lt) some in
    let grown : vs ++ v ∷ [] ≡ take (place + 1) new =
    sym (ap (λ (z : List ℕ). take (place + 1) z) is ∙ take_more_set all place v (omega (arith, size, lt))) in
    let behind : suc place ≡ place + 1 = omega arith in (
      past text (lines_of header_fields vs) (spell_value f v) rest left e cut
          ∙ ap (λ (ls : List (List ℕ)). ended ls ++ left) (sym (lines_more header_fields [] vs v f more here))
          ∙ ap (λ (z : List ℕ). ended (lines_of header_fields z) ++ left) grown,
      subst (λ k. AreSome header_fields [] (take (place + 1) new) (drop k header_fields)) behind
          (subst (λ (z : List ℕ). AreSome header_fields [] z more) grown
          (some_more header_fields [] vs v f more here ok)),
    )

pub read_amiss : (text all : List ℕ) (place : ℕ) (rest : List ℕ) → length all ≡ 10 → place < 10 →
    AreSome header_fields [] (take place all) (drop place header_fields) →
    text ≡ ended (lines_of header_fields (take place all)) ++ rest → (read : ℕ) → read ≡ place + 1 → (why : LineFault) →
    IsFieldFault (next_field (take place all)) (take place all) rest why → IsFirstBad text read why
read_amiss text all place rest size lt some e read count why fault =
    let long = length-take-le place all (omega (arith, size, lt)) in
    field_bad (take place all) (next_field (take place all)) (drop (suc place) header_fields)
    (subst (AreSome header_fields [] (take place all)) (next_is all place size lt) some) text rest e read
    (omega (arith, count, long)) why fault

-- ---- events

pub in_range_push : (s : Setup) (es : List Event) (e : Event) → AreInRange s es → IsInRange s e →
    AreInRange s (es ++ e ∷ [])
in_range_push s [] e h ok = (ok, tt)
in_range_push s (x ∷ xs) e h ok = (h.0, in_range_push s xs e h.1 ok)

pub map_push : (es : List Event) (e : Event) → map spell_event (es ++ e ∷ []) ≡ map spell_event es ++ spell_event e ∷ []
map_push [] e = refl
map_push (x ∷ xs) e = ap (λ (t : List (List ℕ)). spell_event x ∷ t) (map_push xs e)

pub past_event : (text : List ℕ) (es : List Event) (e : Event) (rest more : List ℕ) →
    text ≡ ended (map spell_event es) ++ rest → rest ≡ spell_event e ++ 10 ∷ more →
    text ≡ ended (map spell_event (es ++ e ∷ [])) ++ more
past_event text es e rest more eq cut =
    past text (map spell_event es) (spell_event e) rest more eq cut
    ∙ ap (λ (ls : List (List ℕ)). ended ls ++ more) (sym (map_push es e))

-- a line is shorter than a text that begins with it and a line feed
pub shorter : (line rest more : List ℕ) → rest ≡ line ++ 10 ∷ more → length more < length rest
shorter line rest more cut = omega (arith, ap length cut, length-append line (10 ∷ more))

pub events_more : (s : Setup) (text : List ℕ) (es more : List Event) (e : Event) (rest left : List ℕ) →
    more ≡ es ++ e ∷ [] → text ≡ ended (map spell_event es) ++ rest → AreInRange s es → IsInRange s e →
    rest ≡ spell_event e ++ 10 ∷ left → (text ≡ ended (map spell_event more) ++ left) × AreInRange s more
    × (length more ≡ length es + 1)
events_more s text es more e rest left pushed eq range ok cut =
    subst (λ (m : List Event). (text ≡ ended (map spell_event m) ++ left) × AreInRange s m × (length m ≡ length es + 1))
    (sym pushed)
    (past_event text es e rest left eq cut, in_range_push s es e range ok, length-append es (e ∷ []))

-- ---- the line of the faulty nodes

-- after ten lines with values in range, the line of the faulty nodes could not be read
pub faulty_bad : (vs : List ℕ) (text rest : List ℕ) (read most n : ℕ) → AreValues header_fields [] vs →
    text ≡ ended (lines_of header_fields vs) ++ rest → read ≡ 11 →
    most ≡ most_faulty (row_at (value vs 1)).kind (value vs 2) → n ≡ (setup_with vs [] []).n → (why : LineFault) →
    IsFaultyLineFault most n rest why → IsFirstBad text read why
faulty_bad vs text rest read most n ok e count is nodes why fault =
    let len = length_lines header_fields [] vs ok in
    record {
      front = lines_of header_fields vs;
      rest = rest;
      text = e;
      number = omega (arith, count, len);
      good = begun vs [] (all_some header_fields [] vs ok);
      bad = bad why fault;
    }
  where
    size : length (lines_of header_fields vs) ≡ 10
    size = length_lines header_fields [] vs ok

    formed : (line : List ℕ) → IsFaultyFormed line → HasForm (length (lines_of header_fields vs)) line
    formed line h = subst (λ k. HasForm k line) (sym size) h

    unformed : (line : List ℕ) → HasForm (length (lines_of header_fields vs)) line → IsFaultyFormed line
    unformed line h = subst (λ k. HasForm k line) size h

    -- if a schedule continues with this line, the line names its faulty nodes
    taken : (line : List ℕ) → Begins (lines_of header_fields vs ++ line ∷ []) → (js : List NodeId)
        × (AreFew most n js × (line ≡ faulty_line js))
    taken line b =
        let s = b.schedule.setup in
        let known = b.fine.setup in
        let long : length (lines_of header_fields vs ++ line ∷ []) ≡ 11 =
        omega (arith, length-append (lines_of header_fields vs) (line ∷ []), size) in
        let lines : lines_of header_fields vs ++ line ∷ [] ≡ lines_of header_fields (values_of s)
        ++ faulty_line s.faulty ∷ [] = b.front ∙ ap (λ k. take k (schedule_lines b.schedule)) long in
        let same = same_header_lines vs (values_of s) line (faulty_line s.faulty) ok (values_in_range s known) lines in
        let may : MayFail vs s.faulty =
        subst (λ (z : List ℕ). MayFail z s.faulty) (sym same.0) (known_faulty s known) in (
          s.faulty,
          (
            subst (λ k. AreFew k n s.faulty) (sym is)
                (subst (λ k. AreFew (most_faulty (row_at (value vs 1)).kind (value vs 2)) k s.faulty) (sym nodes) may),
            same.1,
          ),
        )

    bad : (why : LineFault) → IsFaultyLineFault most n rest why → IsBadRest (lines_of header_fields vs) rest why
    bad Cut x = (omega (arith, size), x, inl (omega (arith, size)))
    bad Form x = (omega (arith, size), (x.0, (x.1.0, (λ has. x.1.1 (unformed x.0 has)))))
    bad Faulty x = (
      omega (arith, size),
      (x.0, (x.1.0, (formed x.0 x.1.1, size, (λ b. let t = taken x.0 b in x.1.2 t.0 t.1.0 t.1.1)))),
    )
    bad Range x = absurd x
    bad Injected x = absurd x
    bad Size x = absurd x

pub faulty_refused : (vs : List ℕ) (bytes : List ℕ) (old : Place) (most n : ℕ) (e : ReadError) →
    AreValues header_fields [] vs → bytes ≡ ended (lines_of header_fields vs) ++ old.rest → old.read ≡ 10 →
    length bytes ≤ most_bytes → most ≡ most_faulty (row_at (value vs 1)).kind (value vs 2) →
    n ≡ (setup_with vs [] []).n → IsFaultyRefused most n old e → IsRefused bytes e
faulty_refused vs bytes old most n (BadLine line why) ok text read short is nodes h =
    inr (short, faulty_bad vs bytes old.rest line most n ok text (omega (arith, h.0, read)) is nodes why h.1)
faulty_refused vs bytes old most n NoMemory ok text read short is nodes h = tt

-- ---- the header

-- the set-up that was built has the header that was read
pub made : (vs : List ℕ) (is : List NodeId) (bytes front rest rest' : List ℕ) (s : Setup) →
    AreValues header_fields [] vs → s ≡ setup_with vs is (sha256 (67 ∷ front)) →
    ((read : List ℕ) → bytes ≡ read ++ rest' → front ≡ read) → rest' ≡ rest →
    bytes ≡ ended (lines_of header_fields vs ++ faulty_line is ∷ []) ++ rest → s ≡ setup_made vs is
made vs is bytes front rest rest' s ok e front_is same text =
    e ∙ ap (λ (t : List ℕ). setup_with vs is (sha256 (67 ∷ t)))
    (front_is (ended (lines_of header_fields vs ++ faulty_line is ∷ [])) (text
    ∙ ap (λ (t : List ℕ). ended (lines_of header_fields vs ++ faulty_line is ∷ []) ++ t) (sym same)))
    ∙ ap (λ (z : List ℕ). setup_with vs is (sha256 (67 ∷ ended (lines_of header_fields z ++ faulty_line is ∷ []))))
    (sym (values_back vs is [] (are_read vs ok)))

pub known_made : (vs : List ℕ) (is : List NodeId) (s : Setup) → AreValues header_fields [] vs → MayFail vs is →
    s ≡ setup_made vs is → IsKnown s
known_made vs is s ok few e = subst IsKnown (sym e) (known_read vs is (are_read vs ok) few)

pub text_made : (vs : List ℕ) (is : List NodeId) (s : Setup) (bytes rest : List ℕ) → AreValues header_fields [] vs →
    s ≡ setup_made vs is → bytes ≡ ended (lines_of header_fields vs ++ faulty_line is ∷ []) ++ rest →
    bytes ≡ ended (header_lines s) ++ rest
text_made vs is s bytes rest ok e text =
    subst (λ (x : Setup). bytes ≡ ended (header_lines x) ++ rest) (sym e)
    (text ∙ ap (λ (z : List ℕ). ended (lines_of header_fields z ++ faulty_line is ∷ []) ++ rest)
    (sym (values_back vs is (cluster_tag (setup_with vs is [])) (are_read vs ok))))

-- a header and events that were read are a schedule
pub schedule_read : (s : Setup) (es : List Event) (bytes rest : List ℕ) → IsKnown s →
    bytes ≡ ended (header_lines s) ++ rest → rest ≡ ended (map spell_event es) → AreInRange s es →
    length es ≤ most_events → length bytes ≤ most_bytes → IsSchedule bytes (record { setup = s; events = es })
schedule_read s es bytes rest known text events range few short = record {
  text = text ∙ ap (λ (t : List ℕ). ended (header_lines s) ++ t) events
      ∙ sym (ended-append (header_lines s) (map spell_event es));
  fine = record { setup = known; events = range; few = few };
  short = short;
}
