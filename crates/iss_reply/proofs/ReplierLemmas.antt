-- A replier's next reply, and what it answered then.
use Rattle.std.proofs.Common.{◌≡◌, refl, sym, ap, subst, ◌∙◌, ℕ, suc, ◌+◌, ◌/◌, ◌≤◌, List, [], ◌∷◌, length, take, Some, arith}
use Rattle.iss_request.specs.Log.{requests}
use Rattle.iss_keys.specs.KeyStates.{KeyState}
use Rattle.iss_keys.specs.Signatures.{signature_of}
use Rattle.iss_request.specs.declared.ids.ReqId.{ReqId}
use Rattle.iss_request.specs.declared.requests.Request.{Request}
use Rattle.iss_request.specs.declared.requests.Value.{Value}
use Rattle.iss_reply.specs.declared.replies.Reply.{Reply}
use Rattle.iss_reply.specs.Answers.{answer_to, held_after, left_under, or_before, requests_of}
use Rattle.iss_reply.specs.Commands.{command_of}
use Rattle.iss_reply.specs.Internal.Held.{held_in}
use Rattle.iss_reply.specs.Replies.{Replying, reply_at, reply_key, reply_secret, reply_statement, reply_to, signed_reply, unsigned_reply}
use Rattle.iss_reply.specs.Repliers.{Answered, ReplierState}
use Rattle.iss_reply.proofs.RequestLemmas.{IsThere, answer-same, get-below, held-more, requests-length, take-more}

pub reply-made : (old : ReplierState) (log : List Value) (s : ℕ) (r : Request) (reply : Reply) → Answered old log → IsThere log s old.number r
    → reply ≡ signed_reply old.who (s / old.who.slots) r.id old.number (answer_to (held_in old.store) r.payload) → reply_at old.who log old.number ≡ Some reply
reply-made old log s r reply a there made =
    ap (λ o. reply_to old.who log old.number o) there.request
    ∙ ap (λ k. Some (signed_reply old.who (k / old.who.slots) r.id old.number (answer_to (held_after (take old.number (requests_of log))) r.payload))) there.slot
    ∙ ap (λ b. Some (signed_reply old.who (s / old.who.slots) r.id old.number b)) (sym (answer-same (held_in old.store) (held_after (take old.number (requests_of log))) a.held (command_of r.payload)))
    ∙ ap Some (sym made)

-- a draft that the reply key signed is the signed reply
pub reply-signed : (w : Replying) (key : KeyState) (epoch q : ℕ) (id : ReqId) (answer : List ℕ) (draft reply : Reply) →
    key ≡ reply_key w.me w.height → draft ≡ unsigned_reply w epoch id q answer
    → reply ≡ record draft { sig = signature_of key.secret key.height draft.q (reply_statement w.tag draft.epoch.0 draft.id draft.q draft.answer) }
    → reply ≡ signed_reply w epoch id q answer
reply-signed w key epoch q id answer draft reply own of made =
    made
    ∙ ap (λ (k : KeyState). let r : Reply = record draft { sig = signature_of k.secret k.height draft.q (reply_statement w.tag draft.epoch.0 draft.id draft.q draft.answer) } in r) own
    ∙ ap (λ (d : Reply). let r : Reply = record d { sig = signature_of (reply_secret w.me) w.height d.q (reply_statement w.tag d.epoch.0 d.id d.q d.answer) } in r) of

-- a request in the log was answered
pub answered-more : (old new : ReplierState) (log : List Value) (s p : ℕ) (r : Request) → Answered old log → IsThere log s old.number r → s ≤ length log → old.number ≡ requests (take s log) + p
    → new.number ≡ old.number + 1 → new.slot ≡ s → new.place ≡ p + 1
    → ((key : List ℕ) → held_in new.store key ≡ or_before (held_in old.store key) (left_under key (command_of r.payload))) → Answered new log
answered-more old new log s p r a there le at number slot place store =
    let below = get-below (requests_of log) old.number r there.request in
    let long = requests-length log in
    let one : new.number ≡ suc old.number = omega (arith, number) in
    record {
      position =
          let sum : new.number ≡ requests (take s log) + new.place = omega (arith, number, at, place) in
          sum ∙ ap (λ i. requests (take i log) + new.place) (sym slot);
      slot = subst (λ i. i ≤ length log) (sym slot) le;
      number = omega (arith, below, long, number);
      held = λ key.
          store key
          ∙ ap (λ o. or_before o (left_under key (command_of r.payload))) (a.held key)
          ∙ sym (held-more key (take old.number (requests_of log)) r)
          ∙ ap (λ rs. held_after rs key) (sym (take-more (requests_of log) old.number r there.request))
          ∙ ap (λ i. held_after (take i (requests_of log)) key) (sym one);
    }

take-none : {A : Type 0} (xs : List A) → take 0 xs ≡ []
take-none [] = refl
take-none (x ∷ xs) = refl

-- a new replier answered no request of any log
pub answered-none : (r : ReplierState) (log : List Value) → r.number ≡ 0 → r.slot ≡ 0 → r.place ≡ 0 → r.store ≡ [] → Answered r log
answered-none r log n s p st =
    let e : requests (take r.slot log) ≡ 0 = ap (λ k. requests (take k log)) s ∙ ap requests (take-none log) in
    record {
      position = omega (arith, n, e, p);
      slot = omega (arith, s);
      number = omega (arith, n);
      held = λ key.
          ap (λ es. held_in es key) st
          ∙ sym (ap (λ k. held_after (take k (requests_of log)) key) n ∙ ap (λ rs. held_after rs key) (take-none (requests_of log)));
    }
