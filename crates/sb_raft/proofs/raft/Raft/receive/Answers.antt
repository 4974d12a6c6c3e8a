use Rattle.std.proofs.Common.{◌≡◌, ◌∙◌, ap}
use Rattle.std.proofs.lemmas.Result.{IfOk-weaker}
use Rattle.raft_wire.specs.declared.messages.Message.{Message}
use Rattle.sb_raft.specs.Rules.{on_append, on_ask, on_reply, on_vote, raised, term_of}
use Rattle.sb_raft.specs.Refines.{held}
use Rattle.sb_raft.proofs.Refinement.RulesCompose.{raised-does}
use Rattle.sb_raft.proofs.raft.Raft.receive.Goals as goal

pub returns-in-Append : goal.returns-in-Append
returns-in-Append c =
    let term : c.term_of-told.result ≡ c.in-Append.term = c.term_of-told.ensures ∙ ap (λ (z : Message). term_of z) c.in-Append.is in
    rw c.in-Append.is (IfOk-weaker c.take_append.result _ _ (λ e d. raised-does c.args.context.now.p.now c.args.self.now c.raise.new.self c.take_append.new.self c.in-Append.term (λ k s. on_append s c.args.from.0 c.in-Append.term c.in-Append.previous c.in-Append.previous_term c.in-Append.commit c.in-Append.entries) e c.raise.ensures.me (c.raise.ensures.state ∙ ap (λ t. raised (held c.args.self.now) t) term) d) c.take_append.ensures)

pub returns-in-Reply : goal.returns-in-Reply
returns-in-Reply c =
    let term : c.term_of-told.result ≡ c.in-Reply.term = c.term_of-told.ensures ∙ ap (λ (z : Message). term_of z) c.in-Reply.is in
    rw c.in-Reply.is (IfOk-weaker c.take_reply.result _ _ (λ e d. raised-does c.args.context.now.p.now c.args.self.now c.raise.new.self c.take_reply.new.self c.in-Reply.term (λ k s. on_reply c.args.context.now.p.now k s c.args.from.0 c.in-Reply.term c.in-Reply.ok c.in-Reply.index) e c.raise.ensures.me (c.raise.ensures.state ∙ ap (λ t. raised (held c.args.self.now) t) term) d) c.take_reply.ensures)

pub returns-in-AskVote : goal.returns-in-AskVote
returns-in-AskVote c =
    let term : c.term_of-told.result ≡ c.in-AskVote.term = c.term_of-told.ensures ∙ ap (λ (z : Message). term_of z) c.in-AskVote.is in
    rw c.in-AskVote.is (IfOk-weaker c.take_ask.result _ _ (λ e d. raised-does c.args.context.now.p.now c.args.self.now c.raise.new.self c.take_ask.new.self c.in-AskVote.term (λ k s. on_ask s c.args.from.0 c.in-AskVote.term c.in-AskVote.last c.in-AskVote.last_term) e c.raise.ensures.me (c.raise.ensures.state ∙ ap (λ t. raised (held c.args.self.now) t) term) d) c.take_ask.ensures)

pub returns-in-Vote : goal.returns-in-Vote
returns-in-Vote c =
    let term : c.term_of-told.result ≡ c.in-Vote.term = c.term_of-told.ensures ∙ ap (λ (z : Message). term_of z) c.in-Vote.is in
    rw c.in-Vote.is (IfOk-weaker c.take_vote.result _ _ (λ e d. raised-does c.args.context.now.p.now c.args.self.now c.raise.new.self c.take_vote.new.self c.in-Vote.term (λ k s. on_vote c.args.context.now.p.now k s c.args.from.0 c.in-Vote.term c.in-Vote.granted) e c.raise.ensures.me (c.raise.ensures.state ∙ ap (λ t. raised (held c.args.self.now) t) term) d) c.take_vote.ensures)
