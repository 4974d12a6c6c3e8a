use Rattle.std.proofs.Common.{rules, ◌≡◌, ◌∙◌, ◌+◌, ◌/◌, Some, sym, ap, refl}
use Rattle.iss_keys.specs.Signatures.{signature_of}
use Rattle.iss_reply.specs.Answers.{answer_to, left_under, or_before}
use Rattle.iss_reply.specs.Commands.{command_of}
use Rattle.iss_reply.specs.Internal.Held.{held_in}
use Rattle.iss_reply.specs.declared.replies.Reply.{Reply}
use Rattle.iss_reply.specs.Replies.{reply_key, reply_statement, signed_reply}
use Rattle.iss_reply.specs.Repliers.{number_at, request_at}
use Rattle.iss_reply.proofs.RequestLemmas.{is-there}
use Rattle.iss_reply.proofs.ReplierLemmas.{answered-more, reply-made, reply-signed}
use Rattle.iss_reply.proofs.repliers.Replier.next.Goals as goal

pub returns-clause-next : goal.returns-clause-next
returns-clause-next c =
    let log = c.args.log.now.entries in
    let s = c.seek-at.result.slot in
    let p = c.seek-at.result.place in
    let r = c.in-Some.request.now in
    let at : number_at log s p ≡ c.args.self.now.number =
    ap (λ es. number_at es s p) (sym c.entries.ensures) ∙ c.seek-at.ensures.same
    ∙ ap (λ es. number_at es c.self.inside.at.slot c.self.inside.at.place) c.entries.ensures
    ∙ ap (λ v. number_at log v.slot v.place) c.self.view_is ∙ sym c.requires.position in
    let here : request_at log s p ≡ Some r = sym (c.in-Some.ensures ∙ ap (λ es. request_at es s p) c.entries-2.ensures) in
    let there = is-there log s p c.args.self.now.number r here at in
    let w = c.args.self.now.who in
    let key = c.self.inside.key in
    let draft = c.in_ok-unsigned.unsigned in
    let own : key ≡ reply_key w.me w.height = c.self.invariant.2 ∙ ap (λ v. reply_key v.who.me v.who.height) c.self.view_is in
    let made = c.in_ok-reply.ensures.signed
    ∙ ap (λ v. let y : Reply = record draft { sig = signature_of key.secret key.height draft.q (reply_statement v.who.tag draft.epoch.0 draft.id draft.q draft.answer) } in y) c.self.view_is in
    let signed = reply-signed w key _ _ r.id _ draft c.in_ok-reply.reply own c.in_ok-unsigned.ensures made in (
      reply-made c.args.self.now log s r c.in_ok-reply.reply c.requires there
          (signed ∙ ap (λ k. signed_reply c.args.self.now.who (s / k) r.id c.args.self.now.number (answer_to (held_in c.args.self.now.store) r.payload)) (ap (λ v. v.who.slots) c.self.view_is)),
      search rules,
      ap (λ v. v.number + 1) c.self.view_is,
      ap (λ v. v.who) c.self.view_is,
    )

pub returns-clause-answered : goal.returns-clause-answered
returns-clause-answered c =
    let log = c.args.log.now.entries in
    let s = c.seek-at.result.slot in
    let p = c.seek-at.result.place in
    let r = c.in-Some.request.now in
    let at : number_at log s p ≡ c.args.self.now.number =
    ap (λ es. number_at es s p) (sym c.entries.ensures) ∙ c.seek-at.ensures.same
    ∙ ap (λ es. number_at es c.self.inside.at.slot c.self.inside.at.place) c.entries.ensures
    ∙ ap (λ v. number_at log v.slot v.place) c.self.view_is ∙ sym c.requires.position in
    let here : request_at log s p ≡ Some r = sym (c.in-Some.ensures ∙ ap (λ es. request_at es s p) c.entries-2.ensures) in
    let there = is-there log s p c.args.self.now.number r here at in
    let payload : c.as_slice.result.now ≡ r.payload = search rules in
    answered-more c.args.self.now _ log s p r c.requires there (search rules) (sym at) (ap (λ v. v.number + 1) c.self.view_is) refl refl
    (λ key.
    c.in_ok-write.ensures.ok key
    ∙ ap (λ b. or_before (held_in c.self.inside.store key) (left_under key (command_of b))) payload
    ∙ ap (λ v. or_before (held_in v.store key) (left_under key (command_of r.payload))) c.self.view_is)
