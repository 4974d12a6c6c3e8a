-- A set of identities, seen as the list of them in order of arrival. Only membership is asked of it.
use Rattle.std.specs.Prelude.{List, [], ◌∷◌, ◌++◌, if◌then◌else◌, fold}
use Rattle.iss_request.specs.Log.{has_id}
use Rattle.iss_request.specs.declared.ids.ReqId.{ReqId}
use Rattle.iss_request.specs.declared.requests.Request.{Request}

-- the set with one more identity; one that is there keeps its place
abbrev pub and_id : List ReqId → ReqId → List ReqId
and_id xs x = if has_id x xs then xs else xs ++ x ∷ []

abbrev pub and_ids : List ReqId → List Request → List ReqId
and_ids xs qs = fold (λ ys q. and_id ys q.id) xs qs
