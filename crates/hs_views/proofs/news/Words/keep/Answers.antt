use Rattle.std.proofs.Common.{◌∙◌, cond, ap, sym, Option, Some}
use Rattle.std.specs.Ordering.{is_eq}
use Rattle.hs_tree.specs.declared.certificates.Certificate.{Certificate}
use Rattle.hs_views.specs.declared.news.Sender.{Sender}
use Rattle.hs_views.specs.declared.news.Words.{Words}
use Rattle.hs_views.specs.Views.{News}
use Rattle.hs_views.specs.Counts.{sender_order, word_at}
use Rattle.hs_views.proofs.CountsAgree.{news-more}
use Rattle.hs_views.proofs.news.Words.keep.Goals as goal

pub returns : goal.returns
returns c w ws is h =
    let key : Sender = record { by = c.args.by; round = c.args.round } in
    let new : Words = record { all = c.insert.new.self } in
    news-more c.args.self.now new key w ws (ap (λ (z : News). z.by) (sym is)) (ap (λ (z : News). z.round) (sym is)) h
    (λ k round. c.in_ok-insert.ensures.updates.0 (record { by = k; round = round })
    ∙ ap (λ (z : News). let o : Option Certificate = cond (is_eq (sender_order key (record { by = k; round = round }))) (Some z.high) (word_at c.args.self.now k round) in o) (sym is))
