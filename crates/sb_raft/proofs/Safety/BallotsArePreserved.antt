-- Each move preserves the ballots.
use Rattle.std.proofs.Common.{true≢false, ◌≡◌, ℕ, Bool, true, List, [], ◌∷◌, arith, inl, inr, ◌⊎◌, sym, ◌∙◌, subst, ap}
use Rattle.std.proofs.lemmas.Bool.{eqb-true}
use Rattle.iss_sb.specs.declared.effects.Params.{Params}
use Rattle.iss_sb.specs.Evidence.{Item, World, IsSent, Move}
use Rattle.iss_base.proofs.Lists.{same_or_not}
use Rattle.raft_wire.specs.declared.entries.Entry.{Entry}
use Rattle.raft_wire.specs.declared.messages.Message.{Message}
use Rattle.raft_wire.specs.declared.messages.Message.TheVariants.{Vote}
use Rattle.sb_raft.specs.Raft.{makes, raft, state}
use Rattle.sb_raft.specs.Rules.{Candidate, Leader}
use Rattle.sb_raft.proofs.Safety.VotesPrecedeAppends.{Ballot, Ballots}
use Rattle.iss_sb.specs.Legal.{Front}
use Rattle.sb_raft.proofs.StateChanges.TermVoteRoleLog.{Turn, follows, stands, runs, rules, wins, wins_alone, turn}
use Rattle.iss_sb.proofs.Legal.{front_self, front_trans}
use Rattle.sb_raft.proofs.Safety.NodeHistories.{LeadIn, VotedIn, cand_never, lead_at, Later, origin, counts}
use Rattle.sb_raft.proofs.Safety.Invariant.{Inv, MaySend, majority-is}
use Rattle.sb_raft.proofs.Safety.ElectionSafety.{LeadOf, Elected, elected_one, elected, vote_sent, later_term, legal_front, still_of, voted_here}

module _ (p : Params) (w u : World Message) (inv : Inv p w) (v : Move raft p w u) where
  abbrev item : Item Message
  item = record { input = v.input; leaf = v.leaf; made = makes p v.node (w v.node) v.input v.leaf }

  abbrev now : List (Item Message)
  now = item ∷ w v.node

  list_cases : (j : ℕ) → ((j ≡ v.node) × (u j ≡ now)) ⊎ ((j ≡ v.node → ⊥) × (u j ≡ w j))
  list_cases j = elim (same_or_not j v.node) [ inl q ↦ inl (q, ap u q ∙ v.takes) | inr ne ↦ inr (ne, v.others j ne) ]

  front_more : (j : ℕ) (a : List (Item Message)) → Front a (w j) → Front a (u j)
  front_more j a f = elim (list_cases j) [
    | inl q ↦ subst (λ (z : List (Item Message)). Front a z) (sym q.1) (inr (subst (λ (z : ℕ). Front a (w z)) q.0 f))
    | inr q ↦ subst (λ (z : List (Item Message)). Front a z) (sym q.1) f
  ]

  front_cases : (j : ℕ) (a : List (Item Message)) → Front a (u j) → ((j ≡ v.node) × (a ≡ now)) ⊎ Front a (w j)
  front_cases j a f = elim (list_cases j) [
    | inl q ↦ new q.0 (subst (λ (z : List (Item Message)). Front a z) q.1 f)
    | inr q ↦ inr (subst (λ (z : List (Item Message)). Front a z) q.1 f)
  ]
    where
      new : j ≡ v.node → (a ≡ now) ⊎ Front a (w v.node) → ((j ≡ v.node) × (a ≡ now)) ⊎ Front a (w j)
      new e (inl q) = inl (e, q)
      new e (inr q) = inr (subst (λ (z : ℕ). Front a (w z)) (sym e) q)

  ballot_more : (j k t : ℕ) → Ballot p w j k t → Ballot p u j k t
  ballot_more j k t b = record { item = b.item; before = b.before; last = b.last; last_term = b.last_term; front = front_more k (b.item ∷ b.before) b.front; asked = b.asked; granted = b.granted; still = b.still }

  -- a node that wins now wins a term that nobody has led
  none_leads : (c : Later p v.node (w v.node)) → (state p v.node (w v.node)).role ≡ Candidate → Elected p w v.node (state p v.node (w v.node)).term → (j : ℕ) (m : List Entry) → LeadOf p w (state p v.node (w v.node)).term j m → ⊥
  none_leads c r e j m h =
      let a = lead_at p j (w j) (state p v.node (w v.node)).term m h in
      elim (elected p w inv j a.0 a.1 a.2) [
        | inl x ↦ let t = later_term p w inv v.node (w v.node) c in let o = x.term in let q = a.3 in absurd (omega arith)
        | inr x ↦
            let same = elected_one p w j v.node (state p v.node (w v.node)).term (subst (λ (z : ℕ). Elected p w j z) a.3 x.1) e in
            cand_never p v.node (w v.node) m r (subst (λ (z : ℕ). LeadIn p z (w z) (state p v.node (w v.node)).term m) same h)
      ]

  new_ballot : (c : Later p v.node (w v.node)) → (state p v.node (w v.node)).role ≡ Candidate → Elected p w v.node (state p v.node (w v.node)).term → (k : ℕ) → IsSent w k v.node (Vote (state p v.node (w v.node)).term true) → Ballot p w v.node k (state p v.node (w v.node)).term
  new_ballot c r e k h = let q = inv.justified k v.node (Vote (state p v.node (w v.node)).term true) h in go q.0 q.1 q.2
    where
      go : (b : List (Item Message)) → Front b (w k) → MaySend p k b v.node (Vote (state p v.node (w v.node)).term true) → Ballot p w v.node k (state p v.node (w v.node)).term
      go [] f m = elim m [ ]
      go (i ∷ b) f m =
          let fb = front_trans b (i ∷ b) (w k) (inr (front_self b)) f in
          record {
            item = i;
            before = b;
            last = m.0;
            last_term = m.1;
            front = f;
            asked = m.2;
            granted = m.3;
            still = still_of p w inv (state p v.node (w v.node)).term k (none_leads c r e) b fb (legal_front p w k b (w k) fb (inv.legal k));
          }

  -- the ballots of the node that moves, if it leads now
  now_ballots : (k : ℕ) → (state p v.node now).role ≡ Leader → (state p v.node now).granted k ≡ true → (k ≡ v.node → ⊥) → Ballot p w v.node k (state p v.node now).term
  now_ballots k r m ne = go (turn p v.node (state p v.node (w v.node)) v.input)
    where
      go : Turn p v.node (state p v.node (w v.node)) v.input (state p v.node now) → Ballot p w v.node k (state p v.node now).term
      go (follows a) = cc
      go (stands a b c d e) = cc
      go (runs a b c d e) = cc
      go (rules a b c own e f g) = subst (λ (z : ℕ). Ballot p w v.node k z) c (inv.ballots v.node (w v.node) (front_self (w v.node)) b k (subst (λ (z : ℕ → Bool). z k ≡ true) g m) ne)
      go (wins a b c j ei eg n own eo ot) =
          elim (counts p v.node w now (v.may, inv.legal v.node) (inl r)) [
            | inl x ↦ absurd (true≢false (sym m ∙ x.none k))
            | inr q ↦ elim (origin p v.node (w v.node) (inr b)) [
              | inl x ↦ absurd (let y = x.leads in cc)
              | inr x ↦
                  let el : Elected p w v.node (state p v.node (w v.node)).term = record {
                    makers = (state p v.node now).granted;
                    majority = majority-is p w inv (state p v.node now).granted n;
                    each = λ i h. elim (q.from i h) [
                      | inl e ↦ subst (λ (z : ℕ). VotedIn p z (w z) (state p v.node (w v.node)).term v.node) (sym e) (voted_here p v.node (w v.node) v.node x.vote)
                      | inr e ↦ vote_sent p w inv i v.node (state p v.node (w v.node)).term (subst (λ (z : ℕ). IsSent w i v.node (Vote z true)) (sym c) e)
                    ];
                  } in
                  elim (q.from k m) [
                    | inl e ↦ absurd (ne e)
                    | inr e ↦ subst (λ (z : ℕ). Ballot p w v.node k z) c (new_ballot x b el k (subst (λ (z : ℕ). IsSent w k v.node (Vote z true)) (sym c) e))
                  ]
            ]
          ]
      go (wins_alone a b c d n own e o) = absurd (ne (eqb-true k v.node (subst (λ (z : ℕ → Bool). z k ≡ true) c m)))

  moved : (j : ℕ) (a : List (Item Message)) → j ≡ v.node → a ≡ now → (state p j a).role ≡ Leader → (k : ℕ) → (state p j a).granted k ≡ true → (k ≡ j → ⊥) → Ballot p u j k (state p j a).term
  moved j a ej ea =
      let P : ℕ → List (Item Message) → Type 0 = λ j a. (state p j a).role ≡ Leader → (k : ℕ) → (state p j a).granted k ≡ true → (k ≡ j → ⊥) → Ballot p u j k (state p j a).term in
      subst (λ (z : ℕ). P z a) (sym ej) (subst (λ (z : List (Item Message)). P v.node z) (sym ea) (λ r k m ne. ballot_more v.node k (state p v.node now).term (now_ballots k r m ne)))

  pub ballots-kept : Ballots p u
  ballots-kept j a f r k m ne = elim (front_cases j a f) [
    | inl q ↦ moved j a q.0 q.1 r k m ne
    | inr q ↦ ballot_more j k (state p j a).term (inv.ballots j a q r k m ne)
  ]
