-- The messages of what was taken are signed with the next leaves.
use Rattle.std.proofs.Common.{◌≡◌, ℕ, suc, ◌+◌, ◌-◌, ◌^◌, ◌<◌, ◌≤◌, List, [], ◌∷◌, ◌++◌, length, Option, refl, sym, ap, ◌∙◌, arith}
use Rattle.iss_keys.specs.Directories.{AreKeysOf}
use Rattle.iss_keys.specs.KeyStates.{KeyState, left_of}
use Rattle.iss_sb.specs.declared.effects.Params.{Params}
use Rattle.iss_sb.specs.declared.effects.To.{To}
use Rattle.iss_sb.specs.Calls.{AreToNodes}
use Rattle.iss_sb.specs.Statements.{signature}
use Rattle.hs_tree.specs.declared.messages.Message.{Message}
use Rattle.hs_tree.specs.declared.messages.Body.{Body}
use Rattle.hs_tree.specs.Messages.{signed}
use Rattle.hs_tree.specs.Statements.{stated}
use Rattle.hs_tree.specs.Tree.{basic}
use Rattle.sb_hotstuff.specs.declared.outcomes.Taken.{Taken}
use Rattle.hs_views.specs.declared.drafts.Draft.{Draft}
use Rattle.sb_hotstuff.specs.Drafts.{AreDrafts}
use Rattle.hs_views.specs.Drafts.{count_of}
use Rattle.hs_views.proofs.DraftsAgree.{count-few, drafts-long}
use Rattle.sb_hotstuff.specs.HotStuff.{sign_all}
use Rattle.sb_hotstuff.specs.Internal.Instances.{IsSigned}

-- ---- The number of messages

less : (n used c : ℕ) → 2 ≤ n - used → c ≤ 1 → 0 < n - (used + c)
less n used c h few = omega (arith, h, few)

pub left-enough : (k l : KeyState) (d : Option Draft) → 2 ≤ left_of k → l ≡ record k { used = k.used + count_of d } → 0 < left_of l
left-enough k l d h e =
    let few = less (2 ^ k.height) k.used (count_of d) h (count-few d) in
    let left : left_of l ≡ 2 ^ k.height - (k.used + count_of d) = ap (λ (z : KeyState). left_of z) e in
    omega (arith, few, left)

-- ---- Signatures in sequence

sign-both : (p : Params) (me leaf : ℕ) (xs ys : List (To × Body)) → sign_all p me leaf (xs ++ ys) ≡ sign_all p me leaf xs ++ sign_all p me (leaf + length xs) ys
sign-both p me leaf [] ys = ap (λ (n : ℕ). sign_all p me n ys) (none leaf)
  where
    none : (n : ℕ) → n ≡ n + 0
    none n = omega arith
sign-both p me leaf (x ∷ xs) ys =
    ap (λ (z : List (To × Message)). (x.0, signed x.1 (signature p me leaf (stated basic p x.1))) ∷ z)
    (sign-both p me (suc leaf) xs ys ∙ ap (λ (n : ℕ). sign_all p me (suc leaf) xs ++ sign_all p me n ys) (next leaf (length xs)))
  where
    next : (n k : ℕ) → suc n + k ≡ n + suc k
    next n k = omega arith

same-owner : (me height : ℕ) (before mid : KeyState) (count : ℕ) → mid ≡ record before { used = before.used + count } → AreKeysOf me height before → AreKeysOf me height mid
same-owner me height before mid count h own = record { own = ap (λ (k : KeyState). k.secret) h ∙ own.own; tall = ap (λ (k : KeyState). k.height) h ∙ own.tall }

add : (a b c : ℕ) → a + b + c ≡ a + (b + c)
add a b c = omega arith

module _ (p : Params) (t : Taken) (before mid later : KeyState) (empty first second : List (To × Message)) (e : empty ≡ [])
    (one : (me : ℕ) (xs : List (To × Body)) → AreKeysOf me p.setup.keys before → AreDrafts p t.outcome.answer xs → first ≡ empty ++ sign_all p me before.used xs)
    (two : (me : ℕ) (ys : List (To × Body)) → AreKeysOf me p.setup.keys mid → AreDrafts p t.outcome.proposal ys → second ≡ first ++ sign_all p me mid.used ys)
    (used : mid ≡ record before { used = before.used + count_of t.outcome.answer }) (again : later ≡ record mid { used = mid.used + count_of t.outcome.proposal }) where
  sends : (me : ℕ) (xs ys : List (To × Body)) → AreKeysOf me p.setup.keys before → AreDrafts p t.outcome.answer xs → AreDrafts p t.outcome.proposal ys → second ≡ sign_all p me before.used (xs ++ ys)
  sends me xs ys own dx dy =
      let leaf : mid.used ≡ before.used + length xs = ap (λ (k : KeyState). k.used) used ∙ ap (λ (n : ℕ). before.used + n) (drafts-long basic p t.outcome.answer xs dx) in
      two me ys (same-owner me p.setup.keys before mid (count_of t.outcome.answer) used own) dy
      ∙ ap (λ (z : List (To × Message)). z ++ sign_all p me mid.used ys) (one me xs own dx ∙ ap (λ (z : List (To × Message)). z ++ sign_all p me before.used xs) e)
      ∙ ap (λ (n : ℕ). sign_all p me before.used xs ++ sign_all p me n ys) leaf
      ∙ sym (sign-both p me before.used xs ys)

  pub both-signed : AreToNodes p.setup.n second → IsSigned p t before later (record { sends = second; accepted = t.accepted; delivers = t.delivers; hashed = t.outcome.hashed })
  both-signed to = record {
    sends = sends;
    addressed = to;
    accepts = refl;
    delivers = refl;
    hashed = refl;
    used = again ∙ ap (λ (k : KeyState). record k { used = k.used + count_of t.outcome.proposal }) used
        ∙ ap (λ (n : ℕ). record before { used = n }) (add before.used (count_of t.outcome.answer) (count_of t.outcome.proposal));
  }
