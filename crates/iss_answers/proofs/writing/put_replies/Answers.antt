use Rattle.std.proofs.Common.{◌≡◌, ◌<◌, ◌^◌, ◌∙◌, [], Some, arith, subst}
use Rattle.iss_reply.specs.Replies.{Replying, reply_at, replying}
use Rattle.iss_answers.proofs.WrittenLemmas.{lines-more, lines-none, replied}
use Rattle.iss_answers.proofs.writing.put_replies.Goals as goal

pub requests-init : goal.requests-init
requests-init c =
    let none = (c.in_ok-replier.ensures.none []).number in
    record {
      text = lines-none (replying c.args.setup.now c.args.me.0) c.args.log.now.entries c.in_ok-replier.replier.number c.args.out.now.items none;
      answered = c.in_ok-replier.ensures.none c.args.log.now.entries;
      who = c.in_ok-replier.ensures.who;
      few = omega (arith, none);
    }

pub requests-preserved : goal.requests-preserved
requests-preserved c =
    let s = c.args.setup.now in
    let log = c.args.log.now.entries in
    let h = replied c.requests.replier c.next.new.self log c.in_ok-next.next c.in-Reply.reply c.in-Reply.is c.in_ok-next.ensures.next in
    let who = c.requests.invariant.who in
    let bound : c.requests.replier.number < 2 ^ s.keys = subst (λ (w : Replying). c.requests.replier.number < 2 ^ w.height) who h.1 in
    record {
      text = lines-more (replying s c.args.me.0) log c.requests.replier.number c.next.new.self.number c.in-Reply.reply c.args.out.now.items c.requests.out.items c.put_reply.new.out.items c.requests.invariant.text
          (subst (λ (w : Replying). reply_at w log c.requests.replier.number ≡ Some c.in-Reply.reply) who h.0) h.2 c.in_ok-put_reply.ensures;
      answered = c.in_ok-next.ensures.answered;
      who = h.3 ∙ who;
      few = omega (arith, bound, h.2);
    }

pub requests-preserved-in_ok-put_reply : goal.requests-preserved-in_ok-put_reply
requests-preserved-in_ok-put_reply c =
    let s = c.args.setup.now in
    let log = c.args.log.now.entries in
    let h = replied c.requests.replier c.next.new.self log c.in_ok-next.next c.in-Reply.reply c.in-Reply.is c.in_ok-next.ensures.next in
    let who = c.requests.invariant.who in
    let bound : c.requests.replier.number < 2 ^ s.keys = subst (λ (w : Replying). c.requests.replier.number < 2 ^ w.height) who h.1 in
    record {
      text = lines-more (replying s c.args.me.0) log c.requests.replier.number c.next.new.self.number c.in-Reply.reply c.args.out.now.items c.requests.out.items c.put_reply.new.out.items c.requests.invariant.text
          (subst (λ (w : Replying). reply_at w log c.requests.replier.number ≡ Some c.in-Reply.reply) who h.0) h.2 c.in_ok-put_reply.ensures;
      answered = c.in_ok-next.ensures.answered;
      who = h.3 ∙ who;
      few = omega (arith, bound, h.2);
    }
