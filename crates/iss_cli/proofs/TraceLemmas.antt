-- A trace of a cluster without faulty nodes is a schedule: it is within a schedule's limits.
use Rattle.std.proofs.Common.{◌≡◌, ◌∙◌, ℕ, zero, suc, ◌*◌, ◌≤◌, true, List, [], ◌∷◌, ◌++◌, length, decimal, refl, sym, ap, subst, arith, length-append}
use Rattle.std.specs.Prelude.{codes, get_or, nat_le}
use Rattle.std.proofs.lemmas.Bool.{leb-true}
use Rattle.std.proofs.lemmas.List.{append-nil}
use Rattle.std.proofs.lemmas.Fmt.{length-decimal-le_succ}
use Rattle.iss_base.proofs.Lists.{and-true}
use Rattle.iss_config.specs.Configs.{IsInRange, setup_of}
use Rattle.iss_config.specs.declared.configs.Config.{Config}
use Rattle.iss_loops.specs.Behavior.{Behavior}
use Rattle.iss_loops.specs.Traces.{IsTrace, is_within_limits, most_trace_bytes, most_trace_events, text_length}
use Rattle.iss_base.specs.Heights.{IsHeight}
use Rattle.iss_request.specs.Setup.{IsGoodSetup}
use Rattle.iss_request.specs.declared.ids.NodeId.{NodeId}
use Rattle.iss_request.specs.declared.setups.Setup.{Setup}
use Rattle.iss_schedule.specs.Events.{AreInRange}
use Rattle.iss_schedule.specs.Headers.{faulty_line, field, lines_of_rows, module_rows, place_among, place_of_policy, policy_lines}
use Rattle.iss_schedule.specs.Schedules.{IsKnown, IsSchedule, header_lines, text_of}
use Rattle.iss_schedule.specs.Words.{ended}
use Rattle.iss_schedule.specs.declared.schedules.Event.{Event}
use Rattle.iss_schedule.specs.declared.schedules.Schedule.{Schedule}

-- ---- the header alone

-- lines of at most 999 bytes
abbrev pub AreShort : List (List ℕ) → Type 0
AreShort [] = Unit {0}
AreShort (line ∷ lines) = (length line ≤ 999) × AreShort lines

short-text : (lines : List (List ℕ)) → AreShort lines → length (ended lines) ≤ 1000 * length lines
short-text [] short = omega arith
short-text (line ∷ lines) short =
    let rest = short-text lines short.1 in let one = short.0 in
    omega (arith, rest, one, length-append line (10 ∷ ended lines))

one-of : (texts : List (List ℕ)) (v : ℕ) → AreShort texts → length (get_or texts v []) ≤ 999
one-of [] v short = omega arith
one-of (text ∷ texts) zero short = short.0
one-of (text ∷ texts) (suc v) short = one-of texts v short.1

numbered : (name : List ℕ) (v : ℕ) → length name ≤ 99 → v ≤ 256 → length (field name v) ≤ 999
numbered name v few low =
    let digits = length-decimal-le_succ v (omega (arith, low)) in
    omega (arith, few, low, digits, length-append name (32 ∷ decimal v))

literal : (line : List ℕ) → nat_le (length line) 999 ≡ true → length line ≤ 999
literal line h = leb-true (length line) 999 h

short-modules : AreShort (lines_of_rows module_rows)
short-modules = (
  literal (codes "module relay") refl,
  (
    literal (codes "module raft") refl,
    (
      literal (codes "module pbft") refl,
      (literal (codes "module hotstuff") refl, (literal (codes "module chained") refl, tt)),
    ),
  ),
)

short-policies : AreShort policy_lines
short-policies =
    (literal (codes "policy simple") refl, (literal (codes "policy backoff") refl, (literal (codes "policy blacklist") refl, tt)))

short-height : (h : ℕ) → IsHeight h → h ≤ 256
short-height h is = let most = is.1 in omega (arith, most)

short-lines : (s : Setup) → IsGoodSetup s → s.faulty ≡ [] → AreShort (header_lines s)
short-lines s good none =
    let f = good.faults in let epoch = good.epoch_high in let buckets = good.buckets_high in
    let batch = good.batch_high in let window = good.window_high in let clients = good.clients_high in (
      literal (codes "iss 1") refl,
      (
        one-of (lines_of_rows module_rows) (place_among s.module module_rows) short-modules,
        (
          numbered (codes "f") s.f (omega arith) (omega (arith, f)),
          (
            numbered (codes "epoch") s.epoch (omega arith) (omega (arith, epoch)),
            (
              numbered (codes "buckets") s.buckets (omega arith) buckets,
              (
                numbered (codes "batch") s.batch (omega arith) (omega (arith, batch)),
                (
                  numbered (codes "window") s.window (omega arith) (omega (arith, window)),
                  (
                    one-of policy_lines (place_of_policy s.policy) short-policies,
                    (
                      numbered (codes "clients") s.clients (omega arith) clients,
                      (
                        numbered (codes "keys") s.keys (omega arith) (short-height s.keys good.keys_height),
                        (subst (λ (faulty : List NodeId). length (faulty_line faulty) ≤ 999) (sym none) (literal (codes "faulty none") refl), tt),
                      ),
                    ),
                  ),
                ),
              ),
            ),
          ),
        ),
      ),
    )

short-header : (s : Setup) → IsGoodSetup s → s.faulty ≡ [] → length (ended (header_lines s)) ≤ 11000
short-header s good none = short-text (header_lines s) (short-lines s good none)

-- ---- a trace

last-of : (x : Event) (xs : List Event) → (before : List Event) × ((e : Event) × (x ∷ xs ≡ before ++ e ∷ []))
last-of x [] = ([], (x, refl))
last-of x (y ∷ ys) = let r = last-of y ys in (x ∷ r.0, (r.1.0, ap (λ (es : List Event). x ∷ es) r.1.1))

pub record IsSmall (s : Setup) (events : List Event) : Type 0 where
  pub few : length events ≤ 1000000
  pub short : text_length s events ≤ 16000000

small-within : (s : Setup) (events : List Event) → is_within_limits s events ≡ true → IsSmall s events
small-within s events within =
    let parts = and-true (nat_le (length events) most_trace_events) (nat_le (text_length s events) most_trace_bytes) within in
    record {
      few = leb-true (length events) most_trace_events parts.0;
      short = leb-true (text_length s events) most_trace_bytes parts.1;
    }

small-trace : (B : Behavior) (events : List Event) → IsGoodSetup B.setup → B.setup.faulty ≡ [] → IsTrace B events → IsSmall B.setup events
small-trace B [] good none is = record { few = omega arith; short = let header = short-header B.setup good none in omega (arith, header, append-none) }
  where
    append-none : text_length B.setup [] ≡ length (ended (header_lines B.setup))
    append-none = ap (λ (lines : List (List ℕ)). length (ended lines)) (append-nil (header_lines B.setup))
small-trace B (x ∷ xs) good none is =
    let at = last-of x xs in
    let next = is at.0 [] at.1.0 at.1.1 in
    subst (λ (es : List Event). IsSmall B.setup es) (sym at.1.1) (small-within B.setup (at.0 ++ at.1.0 ∷ []) next.limits)

pub trace-is-schedule : (c : Config) (B : Behavior) (trace : Schedule) → IsInRange c → B.setup ≡ setup_of c → trace.setup ≡ setup_of c → AreInRange (setup_of c) trace.events → IsTrace B trace.events
    → IsSchedule (text_of trace) trace
trace-is-schedule c B trace range same setup events is =
    let known = range.setup in
    let good : IsGoodSetup B.setup = subst (λ (s : Setup). IsGoodSetup s) (sym same) known.good in
    let here : trace.setup ≡ B.setup = setup ∙ sym same in
    let small = small-trace B trace.events good (ap (λ (s : Setup). s.faulty) same) is in
    let few = small.few in
    let short : length (text_of trace) ≤ 16000000 = subst (λ (s : Setup). text_length s trace.events ≤ 16000000) (sym here) small.short in
    record {
      text = refl;
      fine = record {
        setup = subst (λ (s : Setup). IsKnown s) (sym setup) known;
        events = subst (λ (s : Setup). AreInRange s trace.events) (sym setup) events;
        few = omega (arith, few);
      };
      short = omega (arith, short);
    }
