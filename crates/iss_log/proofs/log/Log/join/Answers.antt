use Rattle.std.proofs.Common.{rules, ◌≡◌, ◌+◌, ◌++◌, ◌∷◌, [], true}
use Rattle.std.specs.Result.{is_ok}
use Rattle.iss_request.specs.Log.{size_of}
use Rattle.iss_log.proofs.LogLemmas.{numbered_more}
use Rattle.iss_log.proofs.log.Log.join.Goals as goal

pub invariant_of-self-2 : goal.invariant_of-self-2
invariant_of-self-2 c =
    let ok : is_ok c.push.result ≡ true = search rules in
    let ok-2 : is_ok c.push-2.result ≡ true = search rules in
    let values : c.push.new.self.items ≡ c.self.inside.values.items ++ c.args.value ∷ [] = rw ok at c.push.ensures.items in
    let firsts : c.push-2.new.self.items ≡ c.reserve.new.self.items ++ c.self.inside.count ∷ [] = rw ok-2 at c.push-2.ensures.items in
    let next : c.in_ok-count.count ≡ c.self.inside.count + size_of c.args.value = search rules in
    rw (values, firsts, c.reserve.ensures.items) (numbered_more c.self.inside.values.items c.args.value c.self.inside.firsts.items c.self.inside.count c.in_ok-count.count c.self.invariant next)
