use Rattle.std.proofs.Common.{ℕ, List, ◌++◌, take}
use Rattle.std.specs.List.{flat_map}
use Rattle.sha2.specs.Hashers.{Holds256}
use Rattle.iss_request.specs.Formats.{spell_request}
use Rattle.iss_request.proofs.values.hash_requests.Given as goal

abbrev pub invariant-loop-request : goal.invariant-loop-request
invariant-loop-request l = (m : List ℕ) → Holds256 l.fn.hasher m →
    Holds256 l.hasher (m ++ flat_map spell_request (take l.request-index l.requests))
