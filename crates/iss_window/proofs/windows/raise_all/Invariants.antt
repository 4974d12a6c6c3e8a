use Rattle.std.proofs.Common.{◌≡◌, ◌<◌, ℕ, false, slice_index}
use Rattle.iss_request.specs.declared.ids.ReqId.{ReqId}
use Rattle.iss_window.specs.Kept.{IsTable, is_noted, is_set}
use Rattle.iss_window.proofs.windows.raise_all.Given as goal

abbrev pub invariant-loop-client : goal.invariant-loop-client
invariant-loop-client l = record {
  table : IsTable l.lows.items l.bits.items l.strays.keys;
  same : (id : ReqId) → is_noted l.lows.items l.bits.items l.strays.keys id ≡ is_noted l.fn.lows.items l.fn.bits.items l.fn.strays.keys id;
  raised : (k : ℕ) → k < l.client → is_set (slice_index l.bits.items k) 0 ≡ false;
}
