-- The packets of a node's sends, and the messages in them.
use Rattle.std.proofs.Common.{◌≡◌, ◌⊎◌, inl, inr, ℕ, List, [], ◌∷◌, ◌++◌, refl, sym, ap, ◌∙◌}
use Rattle.iss_base.specs.Lists.{In}
use Rattle.iss_base.proofs.Lists.{in_append, in_left, in_right}
use Rattle.iss_network.specs.Network.{Network, posted}
use Rattle.iss_network.specs.declared.packets.Sent.{Sent}
use Rattle.iss_request.specs.declared.setups.Setup.{Setup}
use Rattle.iss_sb.specs.declared.effects.To.{To}
use Rattle.iss_composition.specs.Cluster.{IsOneOf, Message}
use Rattle.iss_rules.specs.Parcels.{Formats, OfModule}
use Rattle.iss_model.specs.Node.{packed}
use Rattle.iss_model.specs.Run.{addressees, posted_all, posted_to}
use Rattle.iss_model.proofs.Twins.{addressee-reached}

-- the messages of sends in the instance of l, in epoch d
abbrev pub told_to : {Msg : Type 0} → ℕ → ℕ → ℕ → Msg → List ℕ → List (Message Msg)
told_to i d l msg [] = []
told_to i d l msg (j ∷ js) = record { from = i; to = j; epoch = d; leader = l; msg = msg } ∷ told_to i d l msg js

abbrev pub told : {Msg : Type 0} → Setup → ℕ → ℕ → ℕ → List (To × Msg) → List (Message Msg)
told s i d l [] = []
told s i d l (x ∷ xs) = told_to i d l x.1 (addressees s x.0) ++ told s i d l xs

told_to-is : {Msg : Type 0} (i d l : ℕ) (msg : Msg) (js : List ℕ) (k : Message Msg) → In k (told_to i d l msg js) →
    In k.to js × (k ≡ record { from = i; to = k.to; epoch = d; leader = l; msg = msg })
told_to-is i d l msg [] k h = absurd h
told_to-is i d l msg (j ∷ js) k (inl e) = (
  inl (ap (λ (z : Message _). z.to) e),
  e ∙ ap (λ (t : ℕ). record { from = i; to = t; epoch = d; leader = l; msg = msg })
      (sym (ap (λ (z : Message _). z.to) e)),
)
told_to-is i d l msg (j ∷ js) k (inr h) = let r = told_to-is i d l msg js k h in (inr r.0, r.1)

pub told-is : {Msg : Type 0} (s : Setup) (none : s.faulty ≡ []) (i d l : ℕ) (sends : List (To × Msg)) (k : Message Msg) → In k (told s i d l sends) →
    IsOneOf i d l sends k
told-is s none i d l [] k h = absurd h
told-is s none i d l (x ∷ xs) k h = elim (in_append k (told_to i d l x.1 (addressees s x.0)) (told s i d l xs) h) [
  | inl a ↦
      let r = told_to-is i d l x.1 (addressees s x.0) k a in
      record {
        from = ap (λ (z : Message _). z.from) r.1;
        epoch = ap (λ (z : Message _). z.epoch) r.1;
        leader = ap (λ (z : Message _). z.leader) r.1;
        to = x.0;
        reaches = addressee-reached s none x.0 k.to r.0;
        sent = inl (ap (λ m. (x.0, m)) (ap (λ (z : Message _). z.msg) r.1));
      }
  | inr b ↦
      let r = told-is s none i d l xs k b in
      record { from = r.from; epoch = r.epoch; leader = r.leader; to = r.to; reaches = r.reaches; sent = inr r.sent }
]

in-told_to : {Msg : Type 0} (i d l : ℕ) (msg : Msg) (js : List ℕ) (j : ℕ) → In j js →
    In (record { from = i; to = j; epoch = d; leader = l; msg = msg }) (told_to i d l msg js)
in-told_to i d l msg [] j h = absurd h
in-told_to i d l msg (k ∷ js) j (inl e) = inl (ap (λ (t : ℕ). record { from = i; to = t; epoch = d; leader = l; msg = msg }) e)
in-told_to i d l msg (k ∷ js) j (inr h) = inr (in-told_to i d l msg js j h)

-- a packet is old, or one of these
posted_to-in : (js : List ℕ) (w : Network) (from : ℕ) (bytes : List ℕ) (p : Sent) → In p (posted_to w from bytes js).packets →
    In p w.packets ⊎ ((p.bytes ≡ bytes) × In p.to js)
posted_to-in [] w from bytes p h = inl h
posted_to-in (j ∷ js) w from bytes p h = elim (posted_to-in js (posted w (record { from = from; to = j; bytes = bytes })) from bytes p h) [
  | inr r ↦ inr (r.0, inr r.1)
  | inl a ↦ elim (in_append p w.packets (record { from = from; to = j; bytes = bytes } ∷ []) a) [
    | inl b ↦ inl b
    | inr b ↦ elim b [ inl e ↦ inr (ap (λ (z : Sent). z.bytes) e, inl (ap (λ (z : Sent). z.to) e)) | inr f ↦ absurd f ]
  ]
]

-- the packet holds a message of the sends
pub record Carries {Msg : Type 0} (s : Setup) (F : Formats Msg) (i d l : ℕ) (sends : List (To × Msg)) (p : Sent) : Type 0 where
  pub to : To
  pub msg : Msg
  pub sent : In {A = To × Msg} (to, msg) sends
  pub addressed : In p.to (addressees s to)
  pub bytes : p.bytes ≡ F.wrap (record { from = i; epoch = d; body = OfModule l msg })
  pub is_told : In (record { from = i; to = p.to; epoch = d; leader = l; msg = msg }) (told s i d l sends)

pub posted-in : {Msg : Type 0} (s : Setup) (F : Formats Msg) (i d l : ℕ) (sends : List (To × Msg)) (w : Network) (p : Sent) →
    In p (posted_all s w i (packed F i d l sends)).packets → In p w.packets ⊎ Carries s F i d l sends p
posted-in s F i d l [] w p h = inl h
posted-in s F i d l (x ∷ xs) w p h =
    elim (posted-in s F i d l xs (posted_to w i (F.wrap (record { from = i; epoch = d; body = OfModule l x.1 })) (addressees s x.0)) p h) [
      | inr r ↦ inr (record {
        to = r.to;
        msg = r.msg;
        sent = inr r.sent;
        addressed = r.addressed;
        bytes = r.bytes;
        is_told =
            in_right _ (told_to i d l x.1 (addressees s x.0)) (told s i d l xs) r.is_told;
      })
      | inl a ↦ elim (posted_to-in (addressees s x.0) w i (F.wrap (record { from = i; epoch = d; body = OfModule l x.1 })) p a) [
        | inl b ↦ inl b
        | inr b ↦ inr (record {
          to = x.0;
          msg = x.1;
          sent = inl refl;
          addressed = b.1;
          bytes = b.0;
          is_told =
              in_left _ (told_to i d l x.1 (addressees s x.0)) (told s i d l xs) (in-told_to i d l x.1 (addressees s x.0) p.to b.1);
        })
      ]
    ]

-- a packet is old, or of one of the sends
pub posted-from : (s : Setup) (from : ℕ) (sends : List (To × List ℕ)) (w : Network) (p : Sent) → In p (posted_all s w from sends).packets →
    In p w.packets ⊎ ((x : To × List ℕ) × In x sends × (p.bytes ≡ x.1) × In p.to (addressees s x.0))
posted-from s from [] w p h = inl h
posted-from s from (x ∷ xs) w p h = elim (posted-from s from xs (posted_to w from x.1 (addressees s x.0)) p h) [
  | inr r ↦ inr (r.0, inr r.1, r.2, r.3)
  | inl a ↦ elim (posted_to-in (addressees s x.0) w from x.1 p a) [ inl b ↦ inl b | inr b ↦ inr (x, inl refl, b.0, b.1) ]
]

-- sends in two parts
pub posted-append : (s : Setup) (w : Network) (from : ℕ) (xs ys : List (To × List ℕ)) →
    posted_all s w from (xs ++ ys) ≡ posted_all s (posted_all s w from xs) from ys
posted-append s w from [] ys = refl
posted-append s w from (x ∷ xs) ys = posted-append s (posted_to w from x.1 (addressees s x.0)) from xs ys
