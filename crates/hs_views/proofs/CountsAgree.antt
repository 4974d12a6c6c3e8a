-- Adding a vote or a NewView message, and counting them, as the model does.
use Rattle.std.proofs.Common.{◌≡◌, ℕ, zero, suc, Bool, true, false, cond, ◌==◌, ◌&&◌, if◌then◌else◌, List, [], ◌∷◌, ◌++◌, length, Option, Some, None, is_some, refl, sym, ap, ◌∙◌, arith}
use Rattle.std.specs.Prelude.{nat_lt}
use Rattle.std.specs.Cmp.Lexicographic.{slice_cmp}
use Rattle.std.specs.Ordering.{is_eq, nat_cmp, ordering_then}
use Rattle.std.proofs.lemmas.List.{length-append}
use Rattle.iss_base.specs.Lists.{same_bytes}
use Rattle.iss_sb.specs.Evidence.{one_or_none}
use Rattle.hs_tree.specs.declared.certificates.Certificate.{Certificate}
use Rattle.hs_tree.specs.declared.certificates.Certificate.TheVariants.{Root}
use Rattle.iss_sb.specs.declared.signers.Signed.{Signed}
use Rattle.hs_tree.specs.Certificates.{view_of}
use Rattle.iss_sb.proofs.Cases.{both_equal, same_list, same_number}
use Rattle.hs_views.specs.declared.ballots.Ballot.{Ballot}
use Rattle.hs_views.specs.declared.ballots.Ballots.{Ballots}
use Rattle.hs_views.specs.declared.news.Sender.{Sender}
use Rattle.hs_views.specs.declared.news.Words.{Words}
use Rattle.hs_views.specs.Counts.{AreNews, AreVotes, ballot_order, best_at, better, count_at, sender_order, signed, vote_at, votes_at, word_at, words_at}
use Rattle.hs_views.specs.Views.{Kept, News, all_news, best, is_for, news_of, vote_of, votes_of}

-- ---- Keys of the maps

pub same_sender : (a b : Sender) → is_eq (sender_order a b) ≡ ((a.by == b.by) && (a.round == b.round))
same_sender a b =
    let nodes = same_number a.by b.by in
    let rounds = same_number a.round b.round in
    both_equal (nat_cmp a.by b.by) (nat_cmp a.round b.round) ∙ rw (nodes, rounds) refl

and-four : (a b c d : Bool) → (a && (b && (c && d))) ≡ ((a && b) && (c && d))
and-four true b c d = refl
and-four false b c d = refl

pub same_ballot : (a b : Ballot) → is_eq (ballot_order a b) ≡ (((a.by == b.by) && (a.phase == b.phase)) && ((a.view == b.view) && same_bytes a.digest b.digest))
same_ballot a b =
    let nodes = same_number a.by b.by in
    let phases = same_number a.phase b.phase in
    let views = same_number a.view b.view in
    let digests = same_list a.digest b.digest in
    both_equal (nat_cmp a.by b.by) (ordering_then (nat_cmp a.phase b.phase) (ordering_then (nat_cmp a.view b.view) (slice_cmp nat_cmp a.digest b.digest)))
    ∙ ap (λ t. is_eq (nat_cmp a.by b.by) && t) (both_equal (nat_cmp a.phase b.phase) (ordering_then (nat_cmp a.view b.view) (slice_cmp nat_cmp a.digest b.digest)))
    ∙ ap (λ t. is_eq (nat_cmp a.by b.by) && (is_eq (nat_cmp a.phase b.phase) && t)) (both_equal (nat_cmp a.view b.view) (slice_cmp nat_cmp a.digest b.digest))
    ∙ rw (nodes, phases, views, digests) (and-four (a.by == b.by) (a.phase == b.phase) (a.view == b.view) (same_bytes a.digest b.digest))

-- ---- Votes

pub votes-more : (m n : Ballots) (key : Ballot) (v : Kept) (vs : List Kept) → key.by ≡ v.by → key.phase ≡ v.phase → key.view ≡ v.view → key.digest ≡ v.digest → AreVotes m vs →
    ((k phase view : ℕ) (d : List ℕ) → vote_at n k phase view d ≡ cond (is_eq (ballot_order key (record { by = k; phase = phase; view = view; digest = d }))) (Some v.sig) (vote_at m k phase view d)) → AreVotes n (v ∷ vs)
votes-more m n key v vs hb hp hv hd h put k phase view d =
    go (is_for phase view d k v) refl (put k phase view d)
  where
    other : Ballot
    other = record { by = k; phase = phase; view = view; digest = d }

    is : is_eq (ballot_order key other) ≡ is_for phase view d k v
    is = same_ballot key other ∙ (λ i. ((hb i == k) && (hp i == phase)) && ((hv i == view) && same_bytes (hd i) d))

    go : (b : Bool) → is_for phase view d k v ≡ b → vote_at n k phase view d ≡ cond (is_eq (ballot_order key other)) (Some v.sig) (vote_at m k phase view d) →
        (if is_for phase view d k v then Some (record { by = record { 0 = k }; sig = v.sig }) else vote_of vs phase view d k) ≡ signed k (vote_at n k phase view d)
    go true q e = let t = is ∙ q in rw (q, e, t) refl
    go false q e = let t = is ∙ q in rw (q, e, t) (h k phase view d)

long-one : (o : Option Signed) → length (one_or_none o) ≡ cond (is_some o) 1 0
long-one None = refl
long-one (Some s) = refl

signed-some : (k : ℕ) (o : Option (List ℕ)) → is_some (signed k o) ≡ is_some o
signed-some k None = refl
signed-some k (Some s) = refl

pub voted-is : (m : Ballots) (vs : List Kept) (k phase view : ℕ) (d : List ℕ) → AreVotes m vs → is_some (vote_at m k phase view d) ≡ is_some (vote_of vs phase view d k)
voted-is m vs k phase view d h = sym (ap (λ (o : Option Signed). is_some o) (h k phase view d) ∙ signed-some k (vote_at m k phase view d))

pub count-is : (m : Ballots) (vs : List Kept) (n phase view : ℕ) (d : List ℕ) → AreVotes m vs → count_at m n phase view d ≡ length (votes_of n vs phase view d)
count-is m vs zero phase view d h = refl
count-is m vs (suc k) phase view d h =
    let rest = count-is m vs k phase view d h in
    let both = length-append (votes_of k vs phase view d) (one_or_none (vote_of vs phase view d k)) in
    let here = long-one (vote_of vs phase view d k) in
    let same = ap {B = ℕ} (λ (b : Bool). cond b 1 0) (voted-is m vs k phase view d h) in
    omega (arith, rest, both, here, same)

pub votes-are : (m : Ballots) (vs : List Kept) (n phase view : ℕ) (d : List ℕ) → AreVotes m vs → votes_at m n phase view d ≡ votes_of n vs phase view d
votes-are m vs zero phase view d h = refl
votes-are m vs (suc k) phase view d h =
    ap (λ (z : List Signed). z ++ one_or_none (signed k (vote_at m k phase view d))) (votes-are m vs k phase view d h)
    ∙ ap (λ (o : Option Signed). votes_of k vs phase view d ++ one_or_none o) (sym (h k phase view d))

-- ---- NewView messages

pub news-more : (m n : Words) (key : Sender) (w : News) (ws : List News) → key.by ≡ w.by → key.round ≡ w.round → AreNews m ws →
    ((k round : ℕ) → word_at n k round ≡ cond (is_eq (sender_order key (record { by = k; round = round }))) (Some w.high) (word_at m k round)) → AreNews n (w ∷ ws)
news-more m n key w ws hb hr h put k round = go ((w.by == k) && (w.round == round)) refl (put k round)
  where
    other : Sender
    other = record { by = k; round = round }

    is : is_eq (sender_order key other) ≡ ((w.by == k) && (w.round == round))
    is = same_sender key other ∙ (λ i. (hb i == k) && (hr i == round))

    go : (b : Bool) → ((w.by == k) && (w.round == round)) ≡ b → word_at n k round ≡ cond (is_eq (sender_order key other)) (Some w.high) (word_at m k round) →
        (if (w.by == k) && (w.round == round) then Some w.high else news_of ws round k) ≡ word_at n k round
    go true q e = let t = is ∙ q in rw (q, e, t) refl
    go false q e = let t = is ∙ q in rw (q, e, t) (h k round)

pub word-is : (m : Words) (ws : List News) (k round : ℕ) → AreNews m ws → is_some (word_at m k round) ≡ is_some (news_of ws round k)
word-is m ws k round h = sym (ap (λ (o : Option Certificate). is_some o) (h k round))

long-word : (o : Option Certificate) → length (one_or_none o) ≡ cond (is_some o) 1 0
long-word None = refl
long-word (Some s) = refl

pub words-are : (m : Words) (ws : List News) (n round : ℕ) → AreNews m ws → words_at m n round ≡ length (all_news n ws round)
words-are m ws zero round h = refl
words-are m ws (suc k) round h =
    let rest = words-are m ws k round h in
    let both = length-append (all_news k ws round) (one_or_none (news_of ws round k)) in
    let here = long-word (news_of ws round k) in
    let same = ap {B = ℕ} (λ (b : Bool). cond b 1 0) (word-is m ws k round h) in
    omega (arith, rest, both, here, same)

best-more : (c : Certificate) (xs : List Certificate) (o : Option Certificate) → best c (xs ++ one_or_none o) ≡ better (best c xs) o
best-more c [] None = refl
best-more c [] (Some d) = go (nat_lt (view_of c) (view_of d))
  where
    go : (b : Bool) → (if b then best d [] else best c []) ≡ (if b then d else c)
    go true = refl
    go false = refl
best-more c (x ∷ xs) o = go (nat_lt (view_of c) (view_of x)) (best-more x xs o) (best-more c xs o)
  where
    go : (b : Bool) → best x (xs ++ one_or_none o) ≡ better (best x xs) o → best c (xs ++ one_or_none o) ≡ better (best c xs) o →
        (if b then best x (xs ++ one_or_none o) else best c (xs ++ one_or_none o)) ≡ better (if b then best x xs else best c xs) o
    go true a b = a
    go false a b = b

pub best-is : (m : Words) (ws : List News) (n round : ℕ) → AreNews m ws → best_at m n round ≡ best Root (all_news n ws round)
best-is m ws zero round h = refl
best-is m ws (suc k) round h =
    ap (λ (c : Certificate). better c (word_at m k round)) (best-is m ws k round h)
    ∙ ap (λ (o : Option Certificate). better (best Root (all_news k ws round)) o) (sym (h k round))
    ∙ sym (best-more Root (all_news k ws round) (news_of ws round k))
