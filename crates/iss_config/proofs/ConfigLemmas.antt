-- What a table holds, and the configuration that it is.
use Rattle.std.proofs.Common.{◌≡◌, ℕ, ℤ, suc, pos, ◌≤◌, List, [], ◌∷◌, length, Option, Some, None, String, Global, refl, ap, subst, arith, inl, inr, codes, option_and_then}
use Rattle.std.proofs.lemmas.Option.{same_Some}
use Rattle.std.specs.Option.{IfNone}
use Rattle.std.specs.List.Sorted.{IsStrictlySortedBy}
use Rattle.std.specs.Map.{keys_of}
use Rattle.std.specs.String.{string_cmp}
use Rattle.toml.specs.Data.{Data, Members, as_integer, as_str, get_member, integer, string, float, boolean, datetime, array, table}
use Rattle.toml.specs.View.{members_view}
use Rattle.toml.specs.declared.value.Value.{Value}
use Rattle.iss_request.specs.Setup.{IsFewFaulty}
use Rattle.iss_request.specs.declared.setups.Kind.{Kind}
use Rattle.iss_request.specs.declared.setups.Kind.TheVariants.{Byzantine, Stopping}
use Rattle.iss_schedule.specs.Headers.{IsOneOf, module_rows, row_of}
use Rattle.iss_schedule.specs.Schedules.{IsKnown}
use Rattle.iss_config.specs.Configs.{entries_of, setup_of, whole}
use Rattle.iss_config.specs.Internal.{HasNumber, Holds, HoldsProtocol, HoldsSizes, HoldsWork, IsTableOf, count_of, integer_at, protocol_of, sizes_of, work_of}
use Rattle.iss_config.specs.declared.parts.Protocol.{Protocol}
use Rattle.iss_config.specs.declared.parts.Sizes.{Sizes}
use Rattle.iss_base.proofs.Lists.{none-some}
use Rattle.iss_config.specs.declared.parts.Work.{Work}
use Rattle.iss_config.specs.declared.configs.Config.{Config}
use Rattle.iss_config.proofs.TableLemmas.{AreAt, is_table}

pub count_of_view : (es : List (String Global × Value)) → count_of (members_view es) ≡ length es
count_of_view [] = refl
count_of_view (e ∷ es) = ap suc (count_of_view es)

-- ---- values

integer_is : (o : Option Data) (z : ℤ) → option_and_then as_integer o ≡ Some z → o ≡ Some (integer z)
integer_is None z e = absurd (none-some z e)
integer_is (Some (integer y)) z e = ap (λ (x : ℤ). Some (integer x)) (same_Some y z e)
integer_is (Some (string s)) z e = absurd (none-some z e)
integer_is (Some (float x)) z e = absurd (none-some z e)
integer_is (Some (boolean b)) z e = absurd (none-some z e)
integer_is (Some (datetime t)) z e = absurd (none-some z e)
integer_is (Some (array xs)) z e = absurd (none-some z e)
integer_is (Some (table ms)) z e = absurd (none-some z e)

text_is : (o : Option Data) (w : List ℕ) → option_and_then as_str o ≡ Some w → o ≡ Some (string w)
text_is None w e = absurd (none-some w e)
text_is (Some (string s)) w e = ap (λ (x : List ℕ). Some (string x)) (same_Some s w e)
text_is (Some (integer y)) w e = absurd (none-some w e)
text_is (Some (float x)) w e = absurd (none-some w e)
text_is (Some (boolean b)) w e = absurd (none-some w e)
text_is (Some (datetime t)) w e = absurd (none-some w e)
text_is (Some (array xs)) w e = absurd (none-some w e)
text_is (Some (table ms)) w e = absurd (none-some w e)

number_is : (ms : Members) (key : List ℕ) (low high n : ℕ) → HasNumber ms key low high n → get_member key ms ≡ Some (whole n)
number_is ms key low high n h = integer_is (get_member key ms) (pos n) h.is

-- ---- set-ups

few_faults : (m : ℕ) → IsOneOf m module_rows → (row_of m).most_faults ≤ 3
few_faults m (inl e) = rw e (omega arith)
few_faults m (inr (inl e)) = rw e (omega arith)
few_faults m (inr (inr (inl e))) = rw e (omega arith)
few_faults m (inr (inr (inr (inl e)))) = rw e (omega arith)
few_faults m (inr (inr (inr (inr e)))) = rw e (omega arith)

none_faulty : (k : Kind) (f : ℕ) → IsFewFaulty k f []
none_faulty Byzantine f = omega arith
none_faulty Stopping f = refl

relay_stands : (m f : ℕ) → f ≤ (row_of m).most_faults → m ≡ 1 → f ≡ 0
relay_stands m f h e = let few : f ≤ (row_of 1).most_faults = subst (λ (x : ℕ). f ≤ (row_of x).most_faults) e h in omega (arith, few)

pub known_by : (ms : Members) (c : Config) → Holds ms c → IsKnown (setup_of c)
known_by ms c h =
    let most = h.protocol.f_is.most in
    let bound = few_faults c.module h.protocol.module_is.0 in
    record {
      good = record {
        version = refl;
        faults = omega (arith, most, bound);
        relay_faults = relay_stands c.module c.f most;
        relay_kind = λ e. ap (λ (x : ℕ). (row_of x).kind) e;
        nodes = refl;
        majority = refl;
        epoch_low = h.protocol.epoch_is.least;
        epoch_high = h.protocol.epoch_is.most;
        buckets_low = h.sizes.buckets_is.least;
        buckets_high = h.sizes.buckets_is.most;
        batch_low = h.sizes.batch_is.least;
        batch_high = h.sizes.batch_is.most;
        window_low = h.sizes.window_is.least;
        window_high = h.sizes.window_is.most;
        clients_low = h.sizes.clients_is.least;
        clients_high = h.sizes.clients_is.most;
        keys_height = (h.sizes.keys_is.least, h.sizes.keys_is.most);
        few_faulty = none_faulty (row_of c.module).kind c.f;
        ascending_faulty = tt;
      };
      known = h.protocol.module_is.0;
      kind = refl;
      faults = most;
      tag = refl;
    }

-- ---- tables

values_at : (ms : Members) (c : Config) → Holds ms c → AreAt (entries_of c) ms
values_at ms c h = (
  number_is ms (codes "batch") _ _ c.batch h.sizes.batch_is,
  (
    number_is ms (codes "buckets") _ _ c.buckets h.sizes.buckets_is,
    (
      number_is ms (codes "clients") _ _ c.clients h.sizes.clients_is,
      (
        number_is ms (codes "epoch") _ _ c.epoch h.protocol.epoch_is,
        (
          number_is ms (codes "f") _ _ c.f h.protocol.f_is,
          (
            number_is ms (codes "keys") _ _ c.keys h.sizes.keys_is,
            (
              text_is (get_member (codes "module") ms) _ h.protocol.module_is.1,
              (
                text_is (get_member (codes "policy") ms) _ h.protocol.policy_is,
                (
                  number_is ms (codes "requests") _ _ c.requests h.work.requests_is,
                  (
                    number_is ms (codes "turns") _ _ c.turns h.work.turns_is,
                    (number_is ms (codes "window") _ _ c.window h.sizes.window_is, tt),
                  ),
                ),
              ),
            ),
          ),
        ),
      ),
    ),
  ),
)

-- a table with eleven keys that holds the values of a configuration is its table
pub table_of_held : (es : List (String Global × Value)) (c : Config) → IsStrictlySortedBy string_cmp (keys_of es)
    → count_of (members_view es) ≡ 11 → Holds (members_view es) c → IsTableOf (members_view es) c
table_of_held es c sorted count h = record {
  same = is_table (entries_of c) es refl sorted (values_at (members_view es) c h) count;
  range = record {
    setup = known_by (members_view es) c h;
    requests_high = h.work.requests_is.most;
    requests_in_windows = h.work.in_windows;
    requests_have_leaves = h.work.have_leaves;
    turns_low = h.work.turns_is.least;
    turns_high = h.work.turns_is.most;
  };
}

-- ---- tables that hold no configuration

pub none_anyway : {T : Type 0} (r : Option T) (P : Type 0) → P → IfNone r P
none_anyway None P p = p
none_anyway (Some x) P p = tt

same_whole : (o : Option ℤ) (n m : ℕ) → o ≡ Some (pos n) → o ≡ Some (pos m) → n ≡ m
same_whole o n m a b = cc

same_number : (ms : Members) (key : List ℕ) (low high n m : ℕ) → HasNumber ms key low high n → HasNumber ms key low high m → n ≡ m
same_number ms key low high n m a b = same_whole (integer_at key ms) n m a.is b.is

pub no_protocol : (ms : Members) → ((p : Protocol) → HoldsProtocol ms p → ⊥) → (c : Config) → Holds ms c → ⊥
no_protocol ms none c h = none (protocol_of c) h.protocol

pub no_sizes : (ms : Members) → ((s : Sizes) → HoldsSizes ms s → ⊥) → (c : Config) → Holds ms c → ⊥
no_sizes ms none c h = none (sizes_of c) h.sizes

pub no_work : (ms : Members) (s : Sizes) → HoldsSizes ms s → ((w : Work) → HoldsWork ms s w → ⊥) → (c : Config) → Holds ms c → ⊥
no_work ms s held none c h =
    let e : c.clients ≡ s.clients = same_number ms (codes "clients") 1 256 c.clients s.clients h.sizes.clients_is held.clients_is in
    let w : c.window ≡ s.window = same_number ms (codes "window") 1 64 c.window s.window h.sizes.window_is held.window_is in
    let k : c.keys ≡ s.keys = same_number ms (codes "keys") 2 20 c.keys s.keys h.sizes.keys_is held.keys_is in
    none (work_of c) (record {
      requests_is = h.work.requests_is;
      turns_is = h.work.turns_is;
      in_windows = rw (← e, ← w) h.work.in_windows;
      have_leaves = rw (← e, ← k) h.work.have_leaves;
    })
