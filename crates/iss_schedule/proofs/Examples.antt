-- The definitions, evaluated on worked schedules.
use Rattle.std.proofs.Common.{◌≡◌, ℕ, List, ◌∷◌, [], codes, refl, arith, inl}
use Rattle.std.specs.Fmt.{digits}
use Rattle.hex.specs.Hex.{encode_with}
use Rattle.iss_request.specs.declared.ids.NodeId.{NodeId}
use Rattle.iss_schedule.specs.declared.errors.LineFault.TheVariants.{Cut}
use Rattle.iss_schedule.specs.declared.schedules.Event.TheVariants.{Request as Event_request, Propose, Timeout as Event_timeout, Ask, Deliver, Lose, Pump, Calm, Hold, Free, Drop as Event_drop, Restart, Crash}
use Rattle.iss_schedule.specs.declared.schedules.Schedule.{Schedule}
use Rattle.iss_schedule.specs.BadLines.{IsFirstBad}
use Rattle.iss_schedule.specs.Cores.{cores_of}
use Rattle.iss_schedule.specs.Headers.{faulty_line, setup_with}
use Rattle.iss_schedule.specs.Schedules.{text_of}
use Rattle.iss_schedule.specs.Words.{words_of}
use Rattle.iss_schedule.proofs.Encoding.NoSeparatorInWords.{lacks_by_test}
use Rattle.iss_schedule.proofs.BadLines.PrefixesAreRead.{empty_schedule, fine_header}

three : List ℕ
three = 0 ∷ 0 ∷ 0 ∷ 3 ∷ 3 ∷ 4 ∷ 8 ∷ 0 ∷ 1 ∷ 4 ∷ []

-- one request, its proposal, and rounds of deliveries
worked : Schedule
worked = record {
  setup = setup_with three [] [];
  events = Event_request 0 0 0 (170 ∷ []) ∷ Propose 0 ∷ Event_timeout 1 (record { 0 = 2 }) ∷ Ask 2
      (record { 0 = 0 }) ∷ Deliver 12 ∷ Lose 0 ∷ Pump ∷ Calm 10 ∷ Hold 2 ∷ Free 2 ∷ Event_drop 1 ∷ Crash 1 0 ∷ Restart 1 ∷ [];
}

worked_text : text_of worked
    ≡ codes "iss 1\nmodule relay\nf 0\nepoch 3\nbuckets 3\nbatch 4\nwindow 8\npolicy simple\nclients 1\nkeys 4\nfaulty none\nrequest 0 0 0 aa\npropose 0\ntimeout 1 2\nask 2 0\ndeliver 12\nlose 0\npump\ncalm 10\nhold 2\nfree 2\ndrop 1\ncrash 1 0\nrestart 1\n"
unfolding worked three digits encode_with
worked_text = refl

-- the same cluster with another policy
backs_off : text_of (record {
  setup = setup_with (0 ∷ 0 ∷ 0 ∷ 3 ∷ 3 ∷ 4 ∷ 8 ∷ 1 ∷ 1 ∷ 4 ∷ []) [] [];
  events = Pump ∷ [];
}) ≡ codes
    "iss 1\nmodule relay\nf 0\nepoch 3\nbuckets 3\nbatch 4\nwindow 8\npolicy backoff\nclients 1\nkeys 4\nfaulty none\npump\n"
unfolding digits
backs_off = refl

-- five nodes of Raft, of which two may crash
of_raft : text_of (record { setup = setup_with (0 ∷ 1 ∷ 2 ∷ 5 ∷ 3 ∷ 4 ∷ 8 ∷ 0 ∷ 1 ∷ 4 ∷ []) [] []; events = Pump ∷ [] })
    ≡ codes "iss 1\nmodule raft\nf 2\nepoch 5\nbuckets 3\nbatch 4\nwindow 8\npolicy simple\nclients 1\nkeys 4\nfaulty none\npump\n"
unfolding digits
of_raft = refl

-- two Byzantine nodes; their second cores are numbered after the three nodes
two_faulty : List NodeId
two_faulty = record { 0 = 1 } ∷ record { 0 = 2 } ∷ []

names_two : faulty_line two_faulty ≡ codes "faulty 1 2"
unfolding two_faulty digits
names_two = refl

five_cores : cores_of (setup_with three two_faulty []) ≡ 5
unfolding three two_faulty
five_cores = refl

-- words are separated by one space, so two spaces have an empty word between them
two_spaces : words_of (codes "propose  0") ≡ codes "propose" ∷ [] ∷ codes "0" ∷ []
two_spaces = refl

-- a text that ends inside its first line is cut there
cut_text : IsFirstBad (codes "iss 1") 1 Cut
unfolding three
cut_text = record {
  front = [];
  rest = codes "iss 1";
  text = refl;
  number = refl;
  good = record {
    schedule = empty_schedule three;
    fine = fine_header three (
      omega arith,
      (
        omega arith,
        (
          (omega arith, omega arith),
          (
            (omega arith, omega arith),
            (
              (omega arith, omega arith),
              (
                (omega arith, omega arith),
                (
                  (omega arith, omega arith),
                  (omega arith, ((omega arith, omega arith), ((omega arith, omega arith), refl))),
                ),
              ),
            ),
          ),
        ),
      ),
    );
    front = refl;
  };
  bad = (omega arith, lacks_by_test 10 (codes "iss 1") refl, inl (omega arith));
}
