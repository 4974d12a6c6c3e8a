use Rattle.std.proofs.Common.{rules, ◌≡◌, ◌∙◌, sym, ap, cond, ◌++◌, ◌∷◌, [], List, Some, map}
use Rattle.std.specs.Prelude.{unwrap_or}
use Rattle.std.specs.Map.{lookup, set_value}
use Rattle.std.proofs.lemmas.Map.Steps.{set_value_same}
use Rattle.iss_keys.specs.KeyStates.{public_of}
use Rattle.iss_request.specs.Log.{same_id}
use Rattle.iss_request.specs.declared.ids.ReqId.{ReqId}
use Rattle.iss_reply.specs.declared.clients.Stated.{Stated}
use Rattle.iss_reply.specs.Clients.{ClientState, stated_by, stated_in}
use Rattle.iss_reply.proofs.ClientLemmas.{on-err, put-stated}
use Rattle.iss_reply.proofs.clients.Client.count.Goals as goal

pub returns-in_err-push-in-Some-clause-err : goal.returns-in_err-push-in-Some-clause-err
returns-in_err-push-in-Some-clause-err c =
    let es = c.self.inside.stated.entries in
    let rid = c.args.reply.now.id in
    let same = (c.get_mut.follows.holds c.push.new.self).0
    ∙ ap (λ (x : List Stated). set_value (same_id rid) es x) c.in_err-push-in-Some.ensures.err
    ∙ set_value_same (same_id rid) es c.in-Some.all.now (sym c.in-Some.ensures.value) in
    let view : List (ReqId × List Stated) → ClientState = λ stated. record {
      cluster = record { tag = c.self.inside.tag; f = c.self.inside.f; keys = map public_of c.self.inside.keys.items };
      stated = stated;
    } in
    on-err _ (ap view same ∙ c.self.view_is)

pub returns-in-Some-clause-counted : goal.returns-in-Some-clause-counted
returns-in-Some-clause-counted c = λ id.
    let es = c.self.inside.stated.entries in
    let reply = c.args.reply.now in
    let w = c.push.new.self in
    let changed = (c.get_mut.follows.holds w).3 (search rules) in
    let all : w ≡ stated_in es reply.id ++ stated_by reply ∷ [] =
    c.in_ok-push-in-Some.ensures.ok ∙ ap (λ (y : Stated). c.in-Some.all.now ++ y ∷ []) c.in_ok-stated.ensures
    ∙ ap (λ o. unwrap_or o [] ++ stated_by reply ∷ []) c.in-Some.ensures.value in
    put-stated es (c.get_mut.follows.lender w).entries reply.id (stated_by reply) w (λ q. changed.0 q) all id
    ∙ ap (λ (v : ClientState). cond (same_id reply.id id) (stated_in v.stated id ++ stated_by reply ∷ []) (stated_in v.stated id)) c.self.view_is

pub returns-clause-counted : goal.returns-clause-counted
returns-clause-counted c = λ id.
    let es = c.self.inside.stated.entries in
    let reply = c.args.reply.now in
    let w = c.push-2.new.self in
    let all : w ≡ stated_in es reply.id ++ stated_by reply ∷ [] =
    c.in_ok-push.ensures.ok ∙ ap (λ (y : List Stated). y ++ c.in_ok-stated.stated ∷ []) c.new-all.ensures
    ∙ ap (λ (y : Stated). y ∷ []) c.in_ok-stated.ensures
    ∙ ap (λ o. unwrap_or o [] ++ stated_by reply ∷ []) c.in-None.ensures.value in
    put-stated es c.insert.new.self.entries reply.id (stated_by reply) w
    (λ q. c.in_ok-_none.ensures.updates.0 q ∙ ap (λ m. cond (same_id reply.id q) (Some w) (lookup (same_id q) m.entries)) c.get_mut.follows.holds-at-none) all id
    ∙ ap (λ (v : ClientState). cond (same_id reply.id id) (stated_in v.stated id ++ stated_by reply ∷ []) (stated_in v.stated id)) c.self.view_is
