-- Which requests the owner of a turn may cast, as the code holds the turn.
use Rattle.std.specs.Prelude.{Bool}
use Rattle.iss_request.specs.declared.requests.Request.{Request}
use Rattle.iss_buckets.specs.declared.pending.Turn.{Turn}
use Rattle.iss_buckets.specs.Waiting.{may_cast}

abbrev pub may_cast_at : Turn → Request → Bool
may_cast_at t = may_cast t.layout.now t.owner.0 t.marks.now.keys
