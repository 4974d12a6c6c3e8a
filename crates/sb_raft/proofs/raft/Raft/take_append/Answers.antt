use Rattle.std.proofs.Common.{◌<◌, ◌^◌, ◌∙◌, refl, sym, arith}
use Rattle.std.proofs.lemmas.Result.{IfOk-weaker}
use Rattle.sb_raft.specs.declared.raft.Role.TheVariants.{Follower as Role_follower}
use Rattle.sb_raft.specs.declared.raft.Raft.{Raft}
use Rattle.sb_raft.proofs.Refinement.FollowerRulesRefine.{append-fits, append-late, append-unfit}
use Rattle.sb_raft.proofs.raft.Raft.take_append.Goals as goal

pub returns-then-term-self : goal.returns-then-term-self
returns-then-term-self c =
    let field : c.args.sent.previous < 2 ^ 32 = omega arith in
    IfOk-weaker c.reply.result _ _ (λ e h. append-late c.args.context.now.p.now c.args.self.now c.args.from.0 c.args.term c.args.sent.previous c.args.sent.previous_term c.args.sent.commit c.args.sent.entries c.requires e c.if-term-self.true field h) c.reply.ensures

pub returns-then-not-fits_behind : goal.returns-then-not-fits_behind
returns-then-not-fits_behind c =
    let m = c.args.self.now in
    let field : c.args.sent.previous < 2 ^ 32 = omega arith in
    let new : Raft = record m { part = Role_follower } in
    IfOk-weaker c.reply-then-not-fits_behind.result _ _ (λ e h. append-unfit c.args.context.now.p.now m c.args.from.0 c.args.term c.args.sent.previous c.args.sent.previous_term c.args.sent.commit c.args.sent.entries c.requires e new refl refl refl c.if-term-self.false
    (sym c.fits_behind.ensures ∙ c.if-not-fits_behind.true) field h) c.reply-then-not-fits_behind.ensures

pub returns : goal.returns
returns c =
    let m = c.args.self.now in
    let mid : Raft = record m { part = Role_follower } in
    IfOk-weaker c.merge.result _ _ (λ e d. append-fits c.args.context.now.p.now m c.args.from.0 c.args.term c.args.sent.previous c.args.sent.previous_term c.args.sent.commit c.args.sent.entries c.requires e mid c.merge.new.self refl refl refl c.if-term-self.false
    (sym c.fits_behind.ensures ∙ c.if-not-fits_behind.false) d) c.merge.ensures
