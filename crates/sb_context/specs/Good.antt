-- That parameters are good has at most one proof, so that a type may have the fact as its invariant.
use Rattle.std.specs.Prelude.{◌≡◌, refl, ℕ, suc, Bool, true, false, List, [], ◌∷◌}
use mathlib.Core.HLevel.{×₃_prop}
use Rattle.std.specs.Coded.{Coded, Coded-set, code_by, coded_ℕ, coded_bool, coded_list, coded×, ×_prop, Unit-prop, le_prop}
use Rattle.iss_keys.specs.Directories.{DirectoryView}
use Rattle.iss_keys.specs.KeyStates.{PublicKeyView}
use Rattle.iss_request.specs.Setup.{AreAscendingBelow, IsFewFaulty}
use Rattle.iss_request.specs.Slots.{AreAscending}
use Rattle.iss_request.specs.declared.ids.NodeId.{NodeId}
use Rattle.iss_request.specs.declared.ids.Slot.{Slot}
use Rattle.iss_request.specs.declared.setups.Kind.{Kind}
use Rattle.iss_request.specs.declared.setups.Kind.TheVariants.{Byzantine, Stopping}
use Rattle.iss_sb.specs.Calls.{AreBelow}

-- ---- codes, by which values are told apart

abbrev is_stopping : Kind → Bool
is_stopping Byzantine = false
is_stopping Stopping = true

abbrev kind_if : Bool → Kind
kind_if false = Byzantine
kind_if true = Stopping

kind_back : (k : Kind) → kind_if (is_stopping k) ≡ k
kind_back Byzantine = refl
kind_back Stopping = refl

abbrev kind_code : Coded Kind
kind_code = code_by Bool coded_bool is_stopping kind_if kind_back

abbrev node_code : Coded NodeId
node_code = code_by ℕ coded_ℕ (λ n. n.0) (λ k. record { 0 = k }) (λ _. refl)

abbrev key_code : Coded PublicKeyView
key_code =
    code_by (List ℕ × ℕ) (coded× (coded_list coded_ℕ) coded_ℕ) (λ k. (k.root, k.height))
    (λ x. record { root = x.0; height = x.1 }) (λ _. refl)

abbrev directory_code : Coded DirectoryView
directory_code =
    code_by (List PublicKeyView × List PublicKeyView) (coded× (coded_list key_code) (coded_list key_code))
    (λ d. (d.nodes, d.clients)) (λ x. record { nodes = x.0; clients = x.1 }) (λ _. refl)

-- ---- facts with at most one proof

pub kind_prop : (x y : Kind) → IsProp (x ≡ y)
kind_prop = Coded-set kind_code

pub directory_prop : (x y : DirectoryView) → IsProp (x ≡ y)
directory_prop = Coded-set directory_code

pub faulty_prop : (k : Kind) (f : ℕ) (nodes : List NodeId) → IsProp (IsFewFaulty k f nodes)
faulty_prop Byzantine f nodes = le_prop
faulty_prop Stopping f nodes = Coded-set (coded_list node_code) nodes []

pub nodes_prop : (from n : ℕ) (nodes : List NodeId) → IsProp (AreAscendingBelow from n nodes)
nodes_prop from n [] = Unit-prop
nodes_prop from n (k ∷ nodes) = ×₃_prop le_prop le_prop (nodes_prop (suc k.0) n nodes)

pub ascending_prop : (from : ℕ) (slots : List Slot) → IsProp (AreAscending from slots)
ascending_prop from [] = Unit-prop
ascending_prop from (s ∷ slots) = ×_prop le_prop (ascending_prop (suc s.0) slots)

pub below_prop : (bound : ℕ) (slots : List Slot) → IsProp (AreBelow bound slots)
below_prop bound [] = Unit-prop
below_prop bound (s ∷ slots) = ×_prop le_prop (below_prop bound slots)

-- what `hlevel` needs to know of good parameters
pub ruleset good_parts = (ascending_prop, below_prop, directory_prop, faulty_prop, kind_prop, nodes_prop)
