use Rattle.std.proofs.Common.{List, ℕ, ◌++◌, ap, ◌∙◌}
use Rattle.std.proofs.lemmas.Result.{IfOk-weaker}
use Rattle.iss_request.specs.Digest.{digest}
use Rattle.iss_sb.specs.Statements.{four_bytes, two_bytes}
use Rattle.hs_tree.specs.Protocols.{form_of}
use Rattle.hs_tree.specs.Statements.{statement}
use Rattle.hs_tree.proofs.claiming.body_statement.Goals as goal

pub returns-in-NewView : goal.returns-in-NewView
returns-in-NewView c =
    let form = form_of c.args.protocol in
    rw c.in-NewView.is (IfOk-weaker c.round_statement.result _ _
    (λ s h. h form c.args.p.now (c.in_ok-out.ensures form c.tag-tag.ensures) ∙ ap (λ (v : ℕ). statement form c.args.p.now 1 (two_bytes c.in-NewView.round ++ four_bytes v)) c.view.ensures) c.round_statement.ensures)

pub returns-in_ok-node-in-Prepare : goal.returns-in_ok-node-in-Prepare
returns-in_ok-node-in-Prepare c =
    let form = form_of c.args.protocol in
    let version = c.args.p.now.setup.version in
    let hashed = c.in_ok-node-in-Prepare.ensures in
    rw c.in-Prepare.is (IfOk-weaker c.node_statement.result _ _
    (λ s h. h form c.args.p.now (c.in_ok-out.ensures form c.tag-tag.ensures) ∙ ap (λ (d : List ℕ). statement form c.args.p.now 2 (four_bytes c.in-Prepare.view ++ d))
    (hashed.digest_is ∙ ap (λ (d : List ℕ). digest d) (c.shown_view-shown.ensures version c.digest.result c.in-Prepare.what)
    ∙ ap (λ (d : List ℕ). digest (form.string version c.in-Prepare.view d c.in-Prepare.what)) c.digest.ensures)) c.node_statement.ensures)

pub returns-in-PreCommit : goal.returns-in-PreCommit
returns-in-PreCommit c =
    let form = form_of c.args.protocol in
    rw c.in-PreCommit.is (IfOk-weaker c.node_statement-in-PreCommit.result _ _
    (λ s h. h form c.args.p.now (c.in_ok-out.ensures form c.tag-tag.ensures) ∙ ap (λ (d : List ℕ). statement form c.args.p.now 3 (four_bytes c.in-PreCommit.view ++ d)) c.digest-in-PreCommit.ensures) c.node_statement-in-PreCommit.ensures)

pub returns-in-Commit : goal.returns-in-Commit
returns-in-Commit c =
    let form = form_of c.args.protocol in
    rw c.in-Commit.is (IfOk-weaker c.node_statement-in-Commit.result _ _
    (λ s h. h form c.args.p.now (c.in_ok-out.ensures form c.tag-tag.ensures) ∙ ap (λ (d : List ℕ). statement form c.args.p.now 4 (four_bytes c.in-Commit.view ++ d)) c.digest-in-Commit.ensures) c.node_statement-in-Commit.ensures)

pub returns-in-Decide : goal.returns-in-Decide
returns-in-Decide c =
    let form = form_of c.args.protocol in
    rw c.in-Decide.is (IfOk-weaker c.node_statement-in-Decide.result _ _
    (λ s h. h form c.args.p.now (c.in_ok-out.ensures form c.tag-tag.ensures) ∙ ap (λ (d : List ℕ). statement form c.args.p.now 5 (four_bytes c.in-Decide.view ++ d)) c.digest-in-Decide.ensures) c.node_statement-in-Decide.ensures)

pub returns-in-Vote : goal.returns-in-Vote
returns-in-Vote c = rw c.in-Vote.is (IfOk-weaker c.vote_statement.result _ _ (λ s h. h (form_of c.args.protocol) c.args.p.now (c.in_ok-out.ensures (form_of c.args.protocol) c.tag-tag.ensures)) c.vote_statement.ensures)
