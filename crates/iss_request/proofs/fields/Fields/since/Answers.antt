use Rattle.std.proofs.Common.{◌≡◌, List, ℕ, refl, Bor, subst}
use Rattle.std.specs.Prelude.{IfOk, Option, IfSome}
use Rattle.iss_request.proofs.Parts.{since_read}
use Rattle.iss_request.proofs.fields.Fields.since.Goals as goal

pub returns-in-Some : goal.returns-in-Some
returns-in-Some c =
    since_read c.part.result c.args.self.now c.self.inside.version c.self.inside.at c.args.from c.self.inside.all.now
    c.in-Some.bytes.now c.self.view_is c.part.ensures
    (subst (λ (o : Option (Bor (List ℕ))). IfSome o (λ bytes. bytes.now ≡ c.self.inside.all.now)) c.in-Some.is
    c.self.invariant.1) c.requires

pub returns-in_ok-from_slice-in-None : goal.returns-in_ok-from_slice-in-None
returns-in_ok-from_slice-in-None c =
    since_read c.shared.result c.args.self.now c.self.inside.version c.self.inside.at c.args.from c.self.inside.all.now
    c.self.inside.all.now c.self.view_is
    (subst (λ (xs : List ℕ). IfOk c.shared.result (λ b. b ≡ xs)) c.in_ok-from_slice-in-None.ensures.items
    c.shared.ensures) refl c.requires
