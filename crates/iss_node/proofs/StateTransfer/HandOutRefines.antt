-- Asking for an epoch and handing one out refines the model's step.
use Rattle.std.proofs.Common.{arith, ◌≡◌, ℕ, suc, ◌*◌, ◌<◌, ◌≤◌, Bool, true, false, cond, not, List, [], ◌∷◌, ◌++◌, Option, Some, None, drop, length, nat_le, nat_lt, reverse, take, refl, sym, ap, ◌∙◌, subst, Ok, Err}
use Rattle.std.proofs.lemmas.Bool.{leb-true}
use Rattle.std.proofs.lemmas.Bool.Decides.{nat_tests}
use Rattle.std.proofs.lemmas.List.{length-reverse, length-take-le, reverse-append, reverse-reverse, take-append-drop}
use Rattle.iss_base.specs.Lists.{oldest}
use Rattle.iss_base.proofs.Lists.{none-some, oldest-all, oldest-append, some-injective}
use Rattle.iss_checkpoint.specs.declared.votes.Cert.{Cert}
use Rattle.iss_model.proofs.Casts.{joined-newer}
use Rattle.iss_rules.specs.Concrete.{rules_of}
use Rattle.iss_rules.specs.Formats.{formats_of}
use Rattle.iss_rules.specs.Parcels.{Formats}
use Rattle.iss_model.specs.Node.{Core, handing, hands_out, joined, values_of}
use Rattle.iss_rules.specs.Past.{cut_at, log_of, start_of}
use Rattle.iss_rules.specs.Rules.{Rules}
use Rattle.iss_rules.specs.declared.events.Why.TheVariants.{NoCert}
use Rattle.iss_node.proofs.Log.LogIsDelivered.{start-is}
use Rattle.iss_node.specs.State.{StateRefinesCore, StateView}
use Rattle.iss_node.specs.Steps.{IsHeldStep}
use Rattle.iss_node.specs.Internal.Transfers.{IsHandedPiece, held_values}
use Rattle.iss_node.specs.declared.answers.Outcome.{Outcome}
use Rattle.iss_packet.specs.Packets.{spell_packet}
use Rattle.iss_packet.specs.declared.packets.PacketKind.TheVariants.{Piece as Kind_piece}
use Rattle.iss_request.specs.declared.ids.NodeId.{NodeId}
use Rattle.iss_request.specs.declared.requests.Value.{Value}
use Rattle.iss_request.specs.declared.setups.Setup.{Setup}
use Rattle.iss_sb.specs.Calls.{AreToNodes}
use Rattle.iss_sb.specs.Evidence.{Item, Module}
use Rattle.iss_sb.specs.declared.effects.Params.{Params}
use Rattle.iss_sb.specs.declared.effects.To.{To}
use Rattle.iss_sb.specs.declared.effects.To.TheVariants.{One as To_one}
use Rattle.iss_transfer.specs.Bodies.{spell_piece}
use Rattle.iss_transfer.specs.declared.pieces.Piece.{Piece}

-- ---- the values of an epoch; the model has them newest first

parted : {A : Type 0} (n : ℕ) (xs : List A) → reverse xs ≡ reverse (drop n xs) ++ reverse (take n xs)
parted n xs = ap (λ ys. reverse ys) (sym (take-append-drop n xs)) ∙ reverse-append (take n xs) (drop n xs)

-- The oldest values of a log are its first slots.
oldest-taken : {A : Type 0} (n : ℕ) (xs : List A) → n ≤ length xs → oldest n (reverse xs) ≡ reverse (take n xs)
oldest-taken n xs le =
    let front = reverse (take n xs) in
    let long : length front ≡ n = length-reverse (take n xs) ∙ length-take-le n xs le in
    ap (λ ys. oldest n ys) (parted n xs) ∙ oldest-append n (reverse (drop n xs)) front (omega (arith, long)) ∙ oldest-all n front (omega (arith, long))

newer-dropped : (ys : List Value) (a : ℕ) → a ≤ length ys → reverse (joined a (reverse ys)) ≡ drop a ys
newer-dropped ys a le =
    let front = reverse (take a ys) in
    let long : length front ≡ a = length-reverse (take a ys) ∙ length-take-le a ys le in
    ap (λ (zs : List Value). reverse zs)
    (ap (λ (k : ℕ). joined k (reverse ys)) (sym long) ∙ ap (λ (zs : List Value). joined (length front) zs) (parted a ys) ∙ joined-newer (reverse (drop a ys)) front)
    ∙ reverse-reverse (drop a ys)

pub values-are : (s : Setup) (entries : List Value) (e : ℕ) → suc e * s.epoch ≤ length entries → values_of (rules_of s) (reverse entries) e ≡ drop (e * s.epoch) (take (suc e * s.epoch) entries)
values-are s entries e le =
    let R = rules_of s in
    let log = reverse entries in
    let few : e * s.epoch ≤ length entries = omega (arith, le) in
    let ys = take (suc e * s.epoch) entries in
    let low : cut_at R log e ≡ reverse (take (e * s.epoch) entries) = ap (λ (k : ℕ). oldest k log) (start-is s log e) ∙ oldest-taken (e * s.epoch) entries few in
    let high : cut_at R log (suc e) ≡ reverse ys = ap (λ (k : ℕ). oldest k log) (start-is s log (suc e)) ∙ oldest-taken (suc e * s.epoch) entries le in
    let size : length (cut_at R log e) ≡ e * s.epoch = ap (λ (zs : List Value). length zs) low ∙ length-reverse (take (e * s.epoch) entries) ∙ length-take-le (e * s.epoch) entries few in
    let room = length-take-le (suc e * s.epoch) entries le in
    ap (λ (zs : List Value). reverse (joined (length (cut_at R log e)) zs)) high
    ∙ ap (λ (k : ℕ). reverse (joined k (reverse ys))) size
    ∙ newer-dropped ys (e * s.epoch) (omega (arith, room))

-- ---- the outcome

pub some-held : (b : Bool) (xs ys : List Value) → Some ys ≡ cond b (Some xs) None → (b ≡ true) × (ys ≡ xs)
some-held true xs ys h = (refl, some-injective ys xs h)
some-held false xs ys h = absurd (none-some ys (sym h))

pub none-held : (b : Bool) (xs : List Value) → None ≡ cond b (Some xs) None → b ≡ false
none-held true xs h = absurd (none-some xs h)
none-held false xs h = refl

-- A comparison and its negation.
lt-of-le : (a b : ℕ) (t : Bool) → nat_le a b ≡ t → nat_lt b a ≡ not t
lt-of-le a b t h = grind (arith, nat_tests)

module _ {M Msg : Type 0} (m : Module Msg) (refines : M → Params → ℕ → List (Item Msg) → Type 0) (v : StateView M Msg) (to : NodeId) (e : ℕ) (c : Core Msg) (h : StateRefinesCore m refines v c) where
  abbrev pub F : Formats Msg
  F = formats_of v.setup m

  abbrev pub R : Rules
  R = rules_of v.setup

  log-is : log_of R m v.me.0 c.past ≡ reverse v.log.entries
  log-is = h.state.tied.log

  -- Whether the log lacks a slot of the epoch.
  lacks : (t : Bool) → nat_le (suc e * v.setup.epoch) (length v.log.entries) ≡ t → nat_lt (length (log_of R m v.me.0 c.past)) (start_of R (log_of R m v.me.0 c.past) (suc e)) ≡ not t
  lacks t q =
      ap (λ (k : ℕ). nat_lt (length (log_of R m v.me.0 c.past)) k) (start-is v.setup (log_of R m v.me.0 c.past) (suc e))
      ∙ ap (λ (k : ℕ). nat_lt k (suc e * v.setup.epoch)) (ap (λ (ys : List Value). length ys) log-is ∙ length-reverse v.log.entries)
      ∙ lt-of-le (suc e * v.setup.epoch) (length v.log.entries) t q

  pub hands-short : (o : Option Cert) (cert : Cert) → o ≡ Some cert → None ≡ held_values v e → IsHeldStep m refines (Unit {0}) c (hands_out F R m v.me.0 c to.0 e o) v (Err NoCert)
  hands-short o cert is gone = let short = lacks false (none-held _ _ gone) in record { step_is = rw (is, short) refl; refined = h }

  pub hands-so : (o : Option Cert) (p : Piece) (out : Outcome) → o ≡ Some p.cert → Some p.values ≡ held_values v e → p.epoch.0 ≡ e → IsHandedPiece v to p out → to.0 < v.setup.n → (asked : Type 0) →
      IsHeldStep m refines asked c (hands_out F R m v.me.0 c to.0 e o) v (Ok out)
  hands-so o p out is held epoch handed low asked =
      let both = some-held _ _ _ held in
      let full = lacks true both.0 in
      let values : p.values ≡ values_of R (log_of R m v.me.0 c.past) e =
      both.1 ∙ sym (values-are v.setup v.log.entries e (leb-true (suc e * v.setup.epoch) (length v.log.entries) both.0)) ∙ ap (λ (ys : List Value). values_of R ys e) (sym log-is) in
      let piece : p ≡ record { epoch = record { 0 = e }; values = values_of R (log_of R m v.me.0 c.past) e; cert = p.cert } = λ i. record { epoch = record { 0 = epoch i }; values = values i; cert = p.cert } in
      let packet : Piece → List ℕ = λ z. spell_packet v.setup.version (record { kind = Kind_piece; from = v.me.0; epoch = z.epoch; leader = 0; body = spell_piece v.setup.version z }) in
      let sent : out.sends ≡ (To_one to, packet (record { epoch = record { 0 = e }; values = values_of R (log_of R m v.me.0 c.past) e; cert = p.cert })) ∷ [] =
      handed.sent ∙ ap (λ (z : Piece). (To_one to, packet z) ∷ []) piece in
      record {
        turn = handing F R m v.me.0 c to.0 e p.cert;
        step_is = rw (is, full) refl;
        turned = record {
          refined = h;
          made = record { sends = sent; own = handed.own; early = handed.early; hashed = handed.hashed };
          entered = handed.entered;
          addressed = λ a. subst (λ (xs : List (To × List ℕ)). AreToNodes v.setup.n xs) (sym sent) (low, tt);
        };
      }
