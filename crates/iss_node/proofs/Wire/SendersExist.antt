-- The sender of a packet.
use Rattle.std.proofs.Common.{arith, ◌≡◌, ℕ, ◌<◌, Bool, true, false, ◌&&◌, nat_lt, Option, Some, None, Result, Ok, Err, IfOk, IfSome, refl, sym, subst}
use Rattle.std.proofs.lemmas.Bool.Decides.{nat_tests}
use Rattle.iss_node.specs.Internal.Parcels.{IsFromNode, carried}
use Rattle.iss_node.specs.declared.parcels.Body.{Body}
use Rattle.iss_node.specs.declared.parcels.Body.TheVariants.{Ask as Body_ask, Message as Body_message, Piece as Body_piece, Request as Body_request, Vote as Body_vote}
use Rattle.iss_node.specs.declared.parcels.Parcel.{Parcel}
use Rattle.iss_packet.specs.Packets.{is_routed, is_routed_as}
use Rattle.iss_packet.specs.declared.packets.Packet.{Packet}
use Rattle.iss_packet.specs.declared.packets.PacketKind.{PacketKind}
use Rattle.iss_packet.specs.declared.packets.PacketKind.TheVariants.{Message}
use Rattle.iss_request.specs.declared.errors.NoMemory.{NoMemory}

pub from-of : (a b : Bool) → (a && b) ≡ true → a ≡ true
from-of true b h = refl
from-of false b h = cc

body-from : {Msg : Type 0} (n : ℕ) (k : Parcel Msg) → k.from.0 < n → IsFromNode n k
body-from {Msg} n k lt = go k.body
  where
    go : (b : Body Msg) → IsFromNode n (record { from = k.from; epoch = k.epoch; body = b })
    go (Body_message leader msg) = lt
    go (Body_vote v) = lt
    go Body_ask = lt
    go (Body_piece p) = lt
    go (Body_request q) = tt

-- A kind of packet that only nodes send.
pub sender-below : (n : ℕ) (p : Packet) (kind : PacketKind) → p.kind ≡ kind → is_routed n p ≡ true → (is_routed_as n kind p.from p.epoch.0 p.leader ≡ true → nat_lt p.from n ≡ true) → p.from < n
unfolding is_routed
sender-below n p kind is routed of_node =
    let first : nat_lt p.from n ≡ true = of_node (subst (λ (z : PacketKind). is_routed_as n z p.from p.epoch.0 p.leader ≡ true) is routed) in
    let lt : p.from < n = grind (arith, nat_tests) in
    lt

pub carried-from : {Msg : Type 0} (n : ℕ) (p : Packet) (body : Option (Body Msg)) (k : Option (Parcel Msg)) → k ≡ carried p body → p.from < n → IfSome k (IsFromNode n)
carried-from {Msg} n p body k is lt = subst (λ (z : Option (Parcel Msg)). IfSome z (IsFromNode n)) (sym is) (go body)
  where
    go : (o : Option (Body Msg)) → IfSome (carried p o) (IsFromNode n)
    go None = tt
    go (Some b) = body-from n (record { from = record { 0 = p.from }; epoch = p.epoch; body = b }) lt

pub from-node : {Msg : Type 0} (n : ℕ) (p : Packet) (r : Result (Option (Parcel Msg)) NoMemory) → p.kind ≡ Message → is_routed n p ≡ true → IfOk r (λ o. IfSome o (λ k. k.from.0 ≡ p.from)) → IfOk r (λ o. IfSome o (IsFromNode n))
from-node n p (Err e) kind routed h = tt
from-node n p (Ok None) kind routed h = tt
from-node n p (Ok (Some k)) kind routed h =
    let lt : p.from < n = sender-below n p Message kind routed (λ first. from-of _ _ first) in
    body-from n k (omega (arith, h, lt))

pub from-any : {Msg : Type 0} (n : ℕ) (r : Result (Option (Parcel Msg)) NoMemory) → IfOk r (λ o. IfSome o (IsFromNode 0)) → IfOk r (λ o. IfSome o (IsFromNode n))
from-any {Msg} n (Err e) h = tt
from-any {Msg} n (Ok None) h = tt
from-any {Msg} n (Ok (Some k)) h = go k.body h
  where
    go : (b : Body Msg) → IsFromNode 0 (record { from = k.from; epoch = k.epoch; body = b }) → IsFromNode n (record { from = k.from; epoch = k.epoch; body = b })
    go (Body_message leader msg) lt = absurd (omega (arith, lt))
    go (Body_vote v) lt = absurd (omega (arith, lt))
    go Body_ask lt = absurd (omega (arith, lt))
    go (Body_piece p) lt = absurd (omega (arith, lt))
    go (Body_request q) lt = tt
