use Rattle.std.proofs.Common.{◌≡◌, ◌<◌, ◌≤◌, ◌+◌, ap, arith, rules, length, slice_index}
use Rattle.std.proofs.lemmas.Grind.{common_steps}
use Rattle.iss_window.specs.Kept.{Kept}
use Rattle.iss_window.proofs.KeptLemmas.{is-below, is-inside, is-above}
use Rattle.iss_window.proofs.windows.Windows.test.Goals as goal

pub returns-then-number-low : goal.returns-then-number-low
returns-then-number-low c = λ n st.
    let client : c.args.id.client < 256 = search rules in
    let same : slice_index c.self.inside.lows.items c.args.id.client ≡ slice_index c.args.self.now.lows c.args.id.client = ap (λ (k : Kept). slice_index k.lows c.args.id.client) c.self.view_is in
    let within : c.args.id.client < length c.self.inside.lows.items = omega (arith, client, c.self.invariant.size) in
    let is : c.index-low.result.now ≡ slice_index c.self.inside.lows.items c.args.id.client = grind (arith, common_steps, within) in
    let lt : c.args.id.number < slice_index c.args.self.now.lows c.args.id.client = omega (arith, same, is, c.if-number-low.true) in
    is-below c.args.self.now.width n.closed c.args.id (slice_index c.args.self.now.lows c.args.id.client) (st.lows c.args.id.client client) lt

pub returns-then-number-low-2 : goal.returns-then-number-low-2
returns-then-number-low-2 c = λ n st.
    let client : c.args.id.client < 256 = search rules in
    let same : slice_index c.self.inside.lows.items c.args.id.client ≡ slice_index c.args.self.now.lows c.args.id.client = ap (λ (k : Kept). slice_index k.lows c.args.id.client) c.self.view_is in
    let width : c.self.inside.width ≡ c.args.self.now.width = ap (λ (k : Kept). k.width) c.self.view_is in
    let within : c.args.id.client < length c.self.inside.lows.items = omega (arith, client, c.self.invariant.size) in
    let is : c.index-low.result.now ≡ slice_index c.self.inside.lows.items c.args.id.client = grind (arith, common_steps, within) in
    let le : slice_index c.args.self.now.lows c.args.id.client ≤ c.args.id.number = omega (arith, same, is, c.if-number-low.false) in
    let lt : c.args.id.number < slice_index c.args.self.now.lows c.args.id.client + c.args.self.now.width = omega (arith, same, width, is, c.if-number-low-2.true) in
    is-inside c.args.self.now.width n.closed c.args.id (slice_index c.args.self.now.lows c.args.id.client) (st.lows c.args.id.client client) le lt

pub returns-else-number-low-2 : goal.returns-else-number-low-2
returns-else-number-low-2 c = λ n st.
    let client : c.args.id.client < 256 = search rules in
    let same : slice_index c.self.inside.lows.items c.args.id.client ≡ slice_index c.args.self.now.lows c.args.id.client = ap (λ (k : Kept). slice_index k.lows c.args.id.client) c.self.view_is in
    let width : c.self.inside.width ≡ c.args.self.now.width = ap (λ (k : Kept). k.width) c.self.view_is in
    let within : c.args.id.client < length c.self.inside.lows.items = omega (arith, client, c.self.invariant.size) in
    let is : c.index-low.result.now ≡ slice_index c.self.inside.lows.items c.args.id.client = grind (arith, common_steps, within) in
    let le : slice_index c.args.self.now.lows c.args.id.client + c.args.self.now.width ≤ c.args.id.number = omega (arith, same, width, is, c.if-number-low-2.false) in
    is-above c.args.self.now.width n.closed c.args.id (slice_index c.args.self.now.lows c.args.id.client) (st.lows c.args.id.client client) le
