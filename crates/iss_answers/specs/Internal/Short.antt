-- The least open identity of the replies that were looked at so far.
use Rattle.std.specs.Prelude.{◌≡◌, ◌⊎◌, true, false, List, Option, Some, None}
use Rattle.iss_base.specs.Lists.{In}
use Rattle.iss_request.specs.declared.ids.ReqId.{ReqId}
use Rattle.iss_reply.specs.Clients.{Cluster, is_open_after}
use Rattle.iss_reply.specs.declared.replies.Reply.{Reply}
use Rattle.iss_answers.specs.Printed.{IsUpTo}

-- the lesser of two identities, if there is a first one
abbrev pub IsLesser : Option ReqId → ReqId → Option ReqId → Type 0
IsLesser None id result = result ≡ Some id
IsLesser (Some first) id result = ((result ≡ Some first) × IsUpTo first id) ⊎ ((result ≡ Some id) × IsUpTo id first)

-- the least of these and an identity, if it is open
abbrev pub IsWithOpen : Cluster → List Reply → Option ReqId → ReqId → Option ReqId → Type 0
IsWithOpen c all least id result = ((is_open_after c all id ≡ false) × (result ≡ least))
    ⊎ ((is_open_after c all id ≡ true) × IsLesser least id result)

-- given all replies, newest first, and those that were looked at
abbrev pub IsLeastOf : Cluster → List Reply → List Reply → Option ReqId → Type 0
IsLeastOf c all seen None = (r : Reply) → In r seen → is_open_after c all r.id ≡ false
IsLeastOf c all seen (Some least) = (is_open_after c all least ≡ true)
    × ((r : Reply) → In r seen → is_open_after c all r.id ≡ true → IsUpTo least r.id)
