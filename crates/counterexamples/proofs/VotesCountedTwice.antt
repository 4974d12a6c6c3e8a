-- Four replicas under PBFT, of which replica 3 is Byzantine, if votes count each time that they arrive. Replica 0 casts a
-- batch. Replica 1 hears the Prepare of replica 3 twice and its Commit three times, and delivers. Replica 1 itself sent
-- no Commit and shows no certificate, so view 1 begins with nil. There replica 2 hears the votes of replica 3 again and
-- again, and delivers nil.
use Rattle.std.proofs.Common.{◌≡◌, ℕ, Bool, true, false, cond, eqb, List, [], ◌∷◌, Option, Some, refl, ap, inl, inr, arith, true≢false}
use Rattle.sha2.specs.Sha256.{sha256, digest_bytes, hash_after, compress, rounds, schedule, first_words}
use Rattle.iss_base.specs.Lists.{In}
use Rattle.iss_base.proofs.Lists.{both}
use Rattle.iss_request.specs.Formats.{spell_batch, spell_count, spell_value}
use Rattle.iss_request.specs.declared.requests.Value.{Value}
use Rattle.iss_request.specs.declared.requests.Value.TheVariants.{Nil as Value_nil, Batch as Value_batch}
use Rattle.iss_sb.specs.declared.effects.Input.TheVariants.{Cast, Timeout}
use Rattle.iss_sb.specs.Calls.{IsGoodParams}
use Rattle.iss_sb.specs.Evidence.{Item, World, IsHashed, IsReached, IsSigned, IsString, Separate, at_start, after, delivered}
use Rattle.iss_sb.specs.Laws.{IsSafe}
use Rattle.iss_sb.specs.Statements.{signature}
use Rattle.pbft_wire.specs.declared.messages.Message.{Message}
use Rattle.pbft_wire.specs.Signed.{Prepare, Commit, NewView}
use Rattle.pbft_wire.specs.Messages.{fits}
use Rattle.pbft_wire.specs.Statements.{state_at, state_change, state_new, string_of}
use Rattle.pbft_views.specs.Claims.{claims}
use Rattle.sb_pbft.specs.Makes.{makes}
use Rattle.sb_pbft.specs.Pbft.{pbft}
use Rattle.sb_pbft.proofs.Examples.FourReplicas.{b, change, commit, d, from, give_up, next, nil, p, prepare, proposal, said, sig, slot}
use Rattle.sb_pbft.proofs.Examples.ByzantineRun.{AreSigned, Items, by_key, by-leaf, b-read, commit-fit, credible, empty-fit, first-move, good-setup, move-one, move-two, of-three, one-claim, prepare-fit, proposal-fit, sent-claim, shape, signed-proposal, world, z1}
use Rattle.sb_pbft.proofs.Examples.PremisesAreMet.{EachOf, OneOf, each-of}
use Rattle.counterexamples.proofs.PbftStrings.{nil-fit, two-are-separate}
use Rattle.counterexamples.specs.Pbft.{counting_votes, decided_by_votes}
use Rattle.counterexamples.proofs.Deciding.{reached-too}

good : IsGoodParams counting_votes p
good = record {
  setup = good-setup;
  kind = refl;
  nodes = refl;
  majority = refl;
  leader = omega arith;
  some = omega arith;
  few = omega arith;
  ascending = (omega arith, (omega arith, tt));
  slots_low = (omega arith, (omega arith, tt));
  directory = refl;
}

-- ---- replica 1 delivers the batch in view 0

abbrev o1 : Items
o1 = next 1 9 (from 0 proposal) []

abbrev o2 : Items
o2 = next 1 10 (from 3 (prepare 3 7)) o1

abbrev o3 : Items
o3 = next 1 10 (from 3 (prepare 3 7)) o2

abbrev o4 : Items
o4 = next 1 10 (from 3 (commit 3 8)) o3

abbrev o5 : Items
o5 = next 1 10 (from 3 (commit 3 8)) o4

abbrev o6 : Items
o6 = next 1 10 (from 3 (commit 3 8)) o5

-- ---- nobody shows a certificate, so view 1 begins with nil

abbrev o7 : Items
o7 = next 1 10 Timeout o6

abbrev t1 : Items
t1 = next 2 3 Timeout []

abbrev o8 : Items
o8 = next 1 11 (from 1 (give_up 1 10 1 [])) o7

abbrev o9 : Items
o9 = next 1 11 (from 2 (give_up 2 3 1 [])) o8

abbrev o10 : Items
o10 = next 1 11 (from 3 (give_up 3 4 1 [])) o9

abbrev renewal : Message
renewal =
    NewView 1 (change 1 10 1 [] ∷ change 2 3 1 [] ∷ change 3 4 1 [] ∷ [])
    (sig 1 11 1 1 0 nil ∷ sig 1 12 1 1 4 nil ∷ []) (signature p 1 13 (state_new p 1))

-- ---- replica 2 enters it, and delivers nil

abbrev prepare_nil : Message
prepare_nil = Prepare 1 (slot 0) nil (sig 3 5 2 1 0 nil)

abbrev commit_nil : Message
commit_nil = Commit 1 (slot 0) nil (sig 3 6 3 1 0 nil)

abbrev t2 : Items
t2 = next 2 5 (from 1 renewal) t1

abbrev t3 : Items
t3 = next 2 7 (from 3 prepare_nil) t2

abbrev t4 : Items
t4 = next 2 7 (from 3 prepare_nil) t3

abbrev t5 : Items
t5 = next 2 7 (from 3 commit_nil) t4

abbrev t6 : Items
t6 = next 2 7 (from 3 commit_nil) t5

abbrev t7 : Items
t7 = next 2 7 (from 3 commit_nil) t6

abbrev last : World Message
last = world z1 o10 t7

batch-delivered : delivered counting_votes p 1 (last 1) 0 ≡ Some (Value_batch b)
unfolding sha256 digest_bytes hash_after compress rounds schedule first_words spell_batch spell_count spell_value
batch-delivered = refl

nil-delivered : delivered counting_votes p 2 (last 2) 0 ≡ Some Value_nil
unfolding sha256 digest_bytes hash_after compress rounds schedule first_words spell_batch spell_count spell_value
nil-delivered = refl

-- ---- messages that decode

prepare-nil-fit : fits 1 prepare_nil ≡ true
prepare-nil-fit = both _ _ refl (both _ _ refl (nil-fit 3 5 (state_at p 2 1 0 nil)))

commit-nil-fit : fits 1 commit_nil ≡ true
commit-nil-fit = both _ _ refl (both _ _ refl (nil-fit 3 6 (state_at p 3 1 0 nil)))

renewal-fit : fits 1 renewal ≡ true
renewal-fit =
    both _ _ refl
    (both _ _ (both _ _ refl (both _ _ (both _ _ refl (empty-fit 1 10)) (both _ _ (both _ _ refl (empty-fit 2 3)) (both _ _ (both _ _ refl (empty-fit 3 4)) refl))))
    (both _ _ (both _ _ refl (both _ _ (shape 1 11 (state_at p 1 1 0 nil)) (both _ _ (shape 1 12 (state_at p 1 1 4 nil)) refl))) (shape 1 13 (state_new p 1))))

-- ---- who signed what

one-gives-up : makes p 1 o6 Timeout 10 ≡ said (give_up 1 10 1 [] ∷ []) [] 1
unfolding sha256 digest_bytes hash_after compress rounds schedule first_words spell_batch spell_count spell_value
one-gives-up = refl

one-renews : makes p 1 o9 (from 3 (give_up 3 4 1 [])) 11 ≡ said (renewal ∷ []) (string_of p Value_nil ∷ string_of p Value_nil ∷ []) 3
unfolding sha256 digest_bytes hash_after compress rounds schedule first_words spell_batch spell_count spell_value
one-renews = refl

abbrev one_gave_up : Item Message
one_gave_up = record { input = Timeout; leaf = 10; made = makes p 1 o6 Timeout 10 }

abbrev two_gave_up : Item Message
two_gave_up = record { input = Timeout; leaf = 3; made = makes p 2 [] Timeout 3 }

abbrev one_renewed : Item Message
one_renewed = record { input = from 3 (give_up 3 4 1 []); leaf = 11; made = makes p 1 o9 (from 3 (give_up 3 4 1 [])) 11 }

module _ (w : World Message) where
  signed-change : In one_gave_up (w 1) → IsSigned pbft p w 1 (state_change p 1 [])
  signed-change i = sent-claim w 1 one_gave_up _ (give_up 1 10 1 []) (by_key 1 10 (state_change p 1 [])) one-gives-up i (inl refl) (inl refl) refl

  signed-empty : In two_gave_up (w 2) → IsSigned pbft p w 2 (state_change p 1 [])
  signed-empty i = sent-claim w 2 two_gave_up _ (give_up 2 3 1 []) (by_key 2 3 (state_change p 1 [])) refl i (inl refl) (inl refl) refl

  signed-first : In one_renewed (w 1) → IsSigned pbft p w 1 (state_at p 1 1 0 nil)
  signed-first i = sent-claim w 1 one_renewed _ renewal (by_key 1 11 (state_at p 1 1 0 nil)) one-renews i (inl refl) (inr (inr (inr (inl refl)))) refl

  signed-second : In one_renewed (w 1) → IsSigned pbft p w 1 (state_at p 1 1 4 nil)
  signed-second i = sent-claim w 1 one_renewed _ renewal (by_key 1 12 (state_at p 1 1 4 nil)) one-renews i (inl refl) (inr (inr (inr (inr (inl refl))))) refl

  signed-new : In one_renewed (w 1) → IsSigned pbft p w 1 (state_new p 1)
  signed-new i = sent-claim w 1 one_renewed _ renewal (by_key 1 13 (state_new p 1)) one-renews i (inl refl) (inr (inr (inr (inr (inr (inl refl)))))) refl

-- ---- each step

-- the votes of replica 3 may come at any time
prepare-three : (w : World Message) → AreSigned w (claims p 3 (prepare 3 7))
prepare-three w = one-claim w 3 7 (state_at p 2 0 0 d) (omega arith) (omega arith) (of-three w (state_at p 2 0 0 d))

commit-three : (w : World Message) → AreSigned w (claims p 3 (commit 3 8))
commit-three w = one-claim w 3 8 (state_at p 3 0 0 d) (omega arith) (omega arith) (of-three w (state_at p 3 0 0 d))

prepare-nil-three : (w : World Message) → AreSigned w (claims p 3 prepare_nil)
prepare-nil-three w = one-claim w 3 5 (state_at p 2 1 0 nil) (omega arith) (omega arith) (of-three w (state_at p 2 1 0 nil))

commit-nil-three : (w : World Message) → AreSigned w (claims p 3 commit_nil)
commit-nil-three w = one-claim w 3 6 (state_at p 3 1 0 nil) (omega arith) (omega arith) (of-three w (state_at p 3 1 0 nil))

r1 : IsReached pbft p (world z1 [] [])
r1 = after at_start (first-move (Cast (slot 0) b) 5 (refl, b-read))

r2 : IsReached pbft p (world z1 o1 [])
r2 = let w = world z1 [] [] in after r1 (move-one z1 [] [] (from 0 proposal) 9 (credible w 0 proposal (omega arith) proposal-fit (one-claim w 0 5 (state_at p 1 0 0 d) (omega arith) (omega arith) (λ q. signed-proposal w (inl refl)))))

-- replica 1 takes a Prepare and a Commit of replica 3
module _ (ys : Items) where
  hears-prepare : IsReached pbft p (world z1 ys []) → IsReached pbft p (world z1 (next 1 10 (from 3 (prepare 3 7)) ys) [])
  hears-prepare r = let w = world z1 ys [] in after r (move-one z1 ys [] (from 3 (prepare 3 7)) 10 (credible w 3 (prepare 3 7) (omega arith) (prepare-fit 3 7) (prepare-three w)))

  hears-commit : IsReached pbft p (world z1 ys []) → IsReached pbft p (world z1 (next 1 10 (from 3 (commit 3 8)) ys) [])
  hears-commit r = let w = world z1 ys [] in after r (move-one z1 ys [] (from 3 (commit 3 8)) 10 (credible w 3 (commit 3 8) (omega arith) (commit-fit 3 8) (commit-three w)))

r6 : IsReached pbft p (world z1 o6 [])
r6 = hears-commit o5 (hears-commit o4 (hears-commit o3 (hears-prepare o2 (hears-prepare o1 r2))))

r7 : IsReached pbft p (world z1 o7 t1)
r7 = after (after r6 (move-one z1 o6 [] Timeout 10 tt)) (move-two z1 o7 [] Timeout 3 tt)

r8 : IsReached pbft p (world z1 o8 t1)
r8 = let w = world z1 o7 t1 in after r7 (move-one z1 o7 t1 (from 1 (give_up 1 10 1 [])) 11 (credible w 1 (give_up 1 10 1 []) (omega arith) (empty-fit 1 10) (one-claim w 1 10 (state_change p 1 []) (omega arith) (omega arith) (λ q. signed-change w (inl refl)))))

r9 : IsReached pbft p (world z1 o9 t1)
r9 = let w = world z1 o8 t1 in after r8 (move-one z1 o8 t1 (from 2 (give_up 2 3 1 [])) 11 (credible w 2 (give_up 2 3 1 []) (omega arith) (empty-fit 2 3) (one-claim w 2 3 (state_change p 1 []) (omega arith) (omega arith) (λ q. signed-empty w (inl refl)))))

r10 : IsReached pbft p (world z1 o10 t1)
r10 = let w = world z1 o9 t1 in after r9 (move-one z1 o9 t1 (from 3 (give_up 3 4 1 [])) 11 (credible w 3 (give_up 3 4 1 []) (omega arith) (empty-fit 3 4) (one-claim w 3 4 (state_change p 1 []) (omega arith) (omega arith) (of-three w (state_change p 1 [])))))

renewal-signed : AreSigned (world z1 o10 t1) (claims p 1 renewal)
renewal-signed =
    let w = world z1 o10 t1 in (
      by-leaf 1 10 (state_change p 1 []) (omega arith) (omega arith),
      (λ q. signed-change w (inr (inr (inr (inl refl))))),
      (
        by-leaf 2 3 (state_change p 1 []) (omega arith) (omega arith),
        (λ q. signed-empty w (inl refl)),
        (
          by-leaf 3 4 (state_change p 1 []) (omega arith) (omega arith),
          of-three w (state_change p 1 []),
          (
            by-leaf 1 11 (state_at p 1 1 0 nil) (omega arith) (omega arith),
            (λ q. signed-first w (inl refl)),
            (
              by-leaf 1 12 (state_at p 1 1 4 nil) (omega arith) (omega arith),
              (λ q. signed-second w (inl refl)),
              one-claim w 1 13 (state_new p 1) (omega arith) (omega arith) (λ q. signed-new w (inl refl)),
            ),
          ),
        ),
      ),
    )

r11 : IsReached pbft p (world z1 o10 t2)
r11 = let w = world z1 o10 t1 in after r10 (move-two z1 o10 t1 (from 1 renewal) 5 (credible w 1 renewal (omega arith) renewal-fit renewal-signed))

-- replica 2 takes a Prepare and a Commit of replica 3 in view 1
module _ (zs : Items) where
  hears-prepare-nil : IsReached pbft p (world z1 o10 zs) → IsReached pbft p (world z1 o10 (next 2 7 (from 3 prepare_nil) zs))
  hears-prepare-nil r = let w = world z1 o10 zs in after r (move-two z1 o10 zs (from 3 prepare_nil) 7 (credible w 3 prepare_nil (omega arith) prepare-nil-fit (prepare-nil-three w)))

  hears-commit-nil : IsReached pbft p (world z1 o10 zs) → IsReached pbft p (world z1 o10 (next 2 7 (from 3 commit_nil) zs))
  hears-commit-nil r = let w = world z1 o10 zs in after r (move-two z1 o10 zs (from 3 commit_nil) 7 (credible w 3 commit_nil (omega arith) commit-nil-fit (commit-nil-three w)))

r12 : IsReached pbft p last
r12 = hears-commit-nil t6 (hears-commit-nil t5 (hears-commit-nil t4 (hears-prepare-nil t3 (hears-prepare-nil t2 r11))))

-- ---- its strings have distinct digests

of-zero : EachOf z1
of-zero = ((inl refl, tt), tt)

of-one : EachOf o10
of-one = ((inr refl, (inr refl, tt)), (tt, (tt, (tt, (tt, (tt, (tt, (tt, (tt, ((inl refl, tt), tt))))))))))

of-two : EachOf t7
of-two = (tt, (tt, (tt, (tt, (tt, ((inr refl, (inr refl, tt)), (tt, tt)))))))

hashed-of : (s : List ℕ) → IsHashed last s → OneOf s
hashed-of s h = go (eqb h.node 0) (eqb h.node 1) (eqb h.node 2) h.taken
  where
    go : (t u v : Bool) → In h.item (cond t z1 (cond u o10 (cond v t7 []))) → OneOf s
    go true u v k = each-of z1 h.item s of-zero k h.hashed
    go false true v k = each-of o10 h.item s of-one k h.hashed
    go false false true k = each-of t7 h.item s of-two k h.hashed
    go false false false k = absurd k

separate : Separate (IsString last)
separate = two-are-separate last hashed-of

-- ---- two correct replicas disagree

abbrev is-batch : Option Value → Bool
is-batch (Some (Value_batch c)) = true
is-batch x = false

pub not-safe : IsSafe counting_votes → ⊥
not-safe safe =
    let broadcast = safe p last good (reached-too pbft decided_by_votes p last r12) separate in
    let same = broadcast.agreement 1 2 0 (Value_batch b) Value_nil refl refl batch-delivered nil-delivered in
    true≢false (ap (λ x. is-batch (Some x)) same)
