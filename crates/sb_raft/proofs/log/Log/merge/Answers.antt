use Rattle.std.proofs.Common.{◌≡◌, ◌∙◌, length, ap, sym, arith}
use Rattle.std.specs.Prelude.{nat_le}
use Rattle.sb_raft.specs.Held.{LogState}
use Rattle.sb_raft.proofs.Refinement.MergeAgrees.{merge-all-is, merge-all-log, merge-long-is, merge-low-is, merge-part-is, merge-part-log, same-of}
use Rattle.sb_raft.proofs.log.Log.merge.Goals as goal

pub returns-then-same-len-clause-tells : goal.returns-then-same-len-clause-tells
returns-then-same-len-clause-tells c =
    let l = c.args.self.now in
    let es = c.args.entries in
    let k = same-of l.entries c.args.index es _ c.same-same.result c.as_slice.ensures c.same-same.ensures in
    let len = c.len.ensures in
    let most = c.if-same-len.true in
    let commit = ap (λ (v : LogState). v.commit) c.self.view_is in
    let long = ap (λ (v : LogState). length v.entries) c.self.view_is in
    let low = c.self.invariant.1 in
    let ok = c.self.inside.entries.ok in
    let here = c.len-then-same-len.ensures in
    let all : c.len-then-same-len.result ≡ length l.entries = omega (arith, here, ok.0, long) in
    ap (λ n. nat_le n 65600) all ∙ sym (merge-all-is l c.args.index es c.requires c.same-same.result k (omega (arith, len, most)) (omega (arith, commit, long, low)))

pub returns-then-same-len-clause-log : goal.returns-then-same-len-clause-log
returns-then-same-len-clause-log c =
    let l = c.args.self.now in
    let es = c.args.entries in
    let k = same-of l.entries c.args.index es _ c.same-same.result c.as_slice.ensures c.same-same.ensures in
    let len = c.len.ensures in
    let most = c.if-same-len.true in
    merge-all-log l c.args.index es c.requires c.same-same.result k (omega (arith, len, most)) (nat_le c.len-then-same-len.result 65600)

pub returns-then-stay-self-clause-tells : goal.returns-then-stay-self-clause-tells
returns-then-stay-self-clause-tells c =
    let l = c.args.self.now in
    let es = c.args.entries in
    let k = same-of l.entries c.args.index es _ c.same-same.result c.as_slice.ensures c.same-same.ensures in
    let len = c.len.ensures in
    let less = c.if-same-len.false in
    let low = c.if-stay-self.true in
    let commit = ap (λ (v : LogState). v.commit) c.self.view_is in
    sym (merge-low-is l c.args.index es c.requires c.same-same.result k (omega (arith, len, less)) (omega (arith, low, commit)))

pub returns-then-saturating_add-gt-LOG_LIMIT-clause-tells : goal.returns-then-saturating_add-gt-LOG_LIMIT-clause-tells
returns-then-saturating_add-gt-LOG_LIMIT-clause-tells c =
    let l = c.args.self.now in
    let es = c.args.entries in
    let k = same-of l.entries c.args.index es _ c.same-same.result c.as_slice.ensures c.same-same.ensures in
    let len = c.len.ensures in
    let less = c.if-same-len.false in
    let long = c.if-saturating_add-gt-LOG_LIMIT.true in
    let sum = c.saturating_add.ensures in
    let len2 = c.len-2.ensures in
    sym (merge-long-is l c.args.index es c.requires c.same-same.result k (omega (arith, len, less)) (omega (arith, long, sum, len2)))

pub returns-clause-tells : goal.returns-clause-tells
returns-clause-tells c =
    let l = c.args.self.now in
    let es = c.args.entries in
    let k = same-of l.entries c.args.index es _ c.same-same.result c.as_slice.ensures c.same-same.ensures in
    let len = c.len.ensures in
    let less = c.if-same-len.false in
    let high = c.if-stay-self.false in
    let commit = ap (λ (v : LogState). v.commit) c.self.view_is in
    let short = c.if-saturating_add-gt-LOG_LIMIT.false in
    let sum = c.saturating_add.ensures in
    let len2 = c.len-2.ensures in
    sym (merge-part-is l c.args.index es c.requires c.same-same.result k (omega (arith, len, less)) (omega (arith, high, commit)) (omega (arith, short, sum, len2)))

pub returns-clause-log : goal.returns-clause-log
returns-clause-log c =
    let l = c.args.self.now in
    let es = c.args.entries in
    let k = same-of l.entries c.args.index es _ c.same-same.result c.as_slice.ensures c.same-same.ensures in
    let len = c.len.ensures in
    let less = c.if-same-len.false in
    merge-part-log l c.args.index es c.requires c.same-same.result k (omega (arith, len, less)) c.cut.new.self c.append.new.self c.into_vec.result.items c.cut.ensures c.into_vec.ensures c.in_ok-append.ensures
