-- Voting at the end of an epoch refines the model's step.
use Rattle.std.proofs.Common.{arith, ◌≡◌, ℕ, suc, ◌+◌, true, Some, List, [], ◌∷◌, length, reverse, take, sym, ap, ◌∙◌, subst, add-one}
use Rattle.std.proofs.lemmas.List.{length-reverse, reverse-reverse, take_all}
use Rattle.iss_base.proofs.Lists.{some-injective}
use Rattle.iss_ballots.specs.Claims.{claim_by}
use Rattle.iss_checkpoint.specs.Bodies.{spell_vote}
use Rattle.iss_checkpoint.specs.Votes.{vote_statement}
use Rattle.iss_checkpoint.specs.declared.votes.Vote.{Vote}
use Rattle.iss_keys.specs.Signatures.{signature_of}
use Rattle.iss_log.specs.Chains.{end_of}
use Rattle.iss_log.specs.declared.chains.End.{End}
use Rattle.iss_model.proofs.Casts.{kept-sound}
use Rattle.iss_rules.proofs.Ending.{ended-start, ended-whole}
use Rattle.iss_rules.specs.Concrete.{rules_of}
use Rattle.iss_rules.specs.Formats.{formats_of}
use Rattle.iss_model.specs.Node.{ends, in_next_epoch, vote_on}
use Rattle.iss_rules.specs.Past.{Past, before_own, ended_log, is_complete, log_of}
use Rattle.iss_node.proofs.Log.LogIsExtended.{bounded}
use Rattle.iss_node.proofs.EpochEnd.EpochEndRefines.{over-tied}
use Rattle.iss_node.proofs.EpochEnd.NextEpochStarts.{next-parts}
use Rattle.iss_node.proofs.Log.LogIsDelivered.{has-slots, start-is}
use Rattle.iss_node.specs.Internal.Shape.{IsNodeState}
use Rattle.iss_node.specs.State.{RefinesBareCore, RefinesPast, StateView, core_of, seen_early}
use Rattle.iss_node.proofs.Steps.EntriesCompose.{entry-of}
use Rattle.iss_node.specs.Entered.{IsEntryOf}
use Rattle.iss_node.specs.Steps.{IsEnded, IsNextEpoch, IsTurned}
use Rattle.iss_node.specs.Internal.Votes.{IsVoteHandedOut, IsVoted}
use Rattle.iss_node.specs.declared.answers.Early.{Early}
use Rattle.iss_node.specs.declared.answers.Outcome.{Outcome}
use Rattle.iss_packet.specs.Packets.{spell_packet}
use Rattle.iss_packet.specs.declared.packets.PacketKind.TheVariants.{Vote as Kind_vote}
use Rattle.iss_request.specs.declared.requests.Value.{Value}
use Rattle.iss_sb.specs.Calls.{AreToNodes}
use Rattle.iss_sb.specs.Evidence.{Item, Module}
use Rattle.iss_sb.specs.declared.effects.Params.{Params}
use Rattle.iss_sb.specs.declared.effects.To.{To}
use Rattle.iss_sb.specs.declared.effects.To.TheVariants.{All as To_all}

-- After the next leaf signed, the state still refines its history.
pub signed-tied : {M Msg : Type 0} (m : Module Msg) (refines : M → Params → ℕ → List (Item Msg) → Type 0) (v : StateView M Msg) (past : Past Msg) → RefinesPast m refines v past →
    RefinesPast m refines (record v { keys = record v.keys { used = v.keys.used + 1 } }) past
signed-tied m refines v past tied = record {
  epoch = tied.epoch;
  log = tied.log;
  chained = tied.chained;
  rests = tied.rests;
  standing = tied.standing;
  start = tied.start;
  begun = tied.begun;
  cells = tied.cells;
  outside = tied.outside;
  hole = tied.hole;
  leading = tied.leading;
  instances = tied.instances;
  accepted = tied.accepted;
  logged = tied.logged;
  flown = tied.flown;
  sound = kept-sound (formats_of v.setup m) (rules_of v.setup) m v.me.0 (core_of v past) (seen_early v.early) [] [] (v.keys.used + 1) tied.sound;
  keys = record { own = tied.keys.own; tall = tied.keys.tall };
}

signed-shape : {M Msg : Type 0} (m : Module Msg) (v : StateView M Msg) → IsNodeState m v → IsNodeState m (record v { keys = record v.keys { used = v.keys.used + 1 } })
signed-shape m v h = record {
  good = h.good;
  me = h.me;
  directory = h.directory;
  count = h.count;
  slots = h.slots;
  nodes = h.nodes;
  fits = h.fits;
  segments = h.segments;
  early = h.early;
  version = h.version;
  voters = h.voters;
}

-- ---- the vote at an epoch's end

module _ {M Msg : Type 0} (m : Module Msg) (refines : M → Params → ℕ → List (Item Msg) → Type 0) (v : StateView M Msg) (shape : IsNodeState m v)
    (past : Past Msg) (tied : RefinesPast m refines v past) (complete : is_complete (rules_of v.setup) m v.me.0 past ≡ true) (u : StateView M Msg) (vote : Vote) (voted : IsVoted v u vote) where
  -- The log ends with the epoch.
  pub whole : v.plan.start + v.setup.epoch ≡ length v.log.entries
  whole =
      let R = rules_of v.setup in
      let first = tied.start in
      let start = start-is v.setup (log_of R m v.me.0 past) (suc past.epoch) in
      let long = ended-start R (has-slots v.setup shape.good.good) m v.me.0 past (bounded m refines v shape past tied) complete in
      let same = ap (λ (ys : List Value). length ys) tied.log ∙ length-reverse v.log.entries in
      omega (arith, first, start, long, same)

  abbrev pub said : End
  said = record { chain = vote.chain; requests = vote.requests }

  abbrev pub own : Vote
  own = vote_on (rules_of v.setup) m v.me.0 (core_of v past)

  -- The digest and the number of requests of the log at the end of the epoch.
  end-is : said ≡ (rules_of v.setup).end (ended_log (rules_of v.setup) m v.me.0 past)
  end-is =
      let version = shape.version in
      let log : ended_log (rules_of v.setup) m v.me.0 past ≡ reverse v.log.entries =
      ended-whole (rules_of v.setup) (has-slots v.setup shape.good.good) m v.me.0 past (bounded m refines v shape past tied) complete ∙ tied.log in
      let end = tied.chained.ends (v.plan.start + v.setup.epoch) (omega (arith, whole)) in
      some-injective said (end_of v.chains.version (take (v.plan.start + v.setup.epoch) v.log.entries)) (sym voted.end ∙ end)
      ∙ ap (λ (k : ℕ). end_of k (take (v.plan.start + v.setup.epoch) v.log.entries)) version
      ∙ ap (λ (xs : List Value). end_of v.setup.version xs) (take_all (v.plan.start + v.setup.epoch) v.log.entries (omega (arith, whole)))
      ∙ ap (λ (xs : List Value). end_of v.setup.version xs) (sym (reverse-reverse v.log.entries))
      ∙ ap (λ (xs : List Value). end_of v.setup.version (reverse xs)) (sym log)

  sig-is : vote.sig ≡ own.sig
  sig-is =
      voted.sig
      ∙ ap (λ (x : List ℕ). signature_of x v.keys.height v.keys.used (vote_statement v.setup.tag v.epoch vote.chain vote.requests)) tied.keys.own
      ∙ ap (λ (h : ℕ). (rules_of (record v.setup { keys = h })).signature v.me.0 v.keys.used (vote_statement v.setup.tag v.epoch vote.chain vote.requests)) tied.keys.tall
      ∙ ap (λ (e : ℕ). (rules_of v.setup).signature v.me.0 v.keys.used (vote_statement v.setup.tag e vote.chain vote.requests)) tied.epoch
      ∙ ap (λ (x : End). (rules_of v.setup).signature v.me.0 v.keys.used (vote_statement v.setup.tag past.epoch x.chain x.requests)) end-is

  pub vote-is : vote ≡ own
  vote-is = λ i. record {
    epoch = record { 0 = (voted.epoch ∙ tied.epoch) i };
    chain = (end-is i).chain;
    requests = (end-is i).requests;
    by = voted.by i;
    sig = sig-is i;
  }

  -- The next epoch starts.
  module _ (w : StateView M Msg) (early : List (Early Msg)) (next : IsNextEpoch refines u w early) where
    abbrev pub after : StateView M Msg
    after = record v { keys = record v.keys { used = v.keys.used + 1 } }

    begins : IsNextEpoch refines after w early
    begins = subst (λ (z : StateView M Msg). IsNextEpoch refines z w early) voted.rest next

    pub next-refined : RefinesBareCore m refines w (record (in_next_epoch (core_of v past)) { leaf = suc v.keys.used })
    next-refined = subst (λ (k : ℕ). RefinesBareCore m refines w (record (in_next_epoch (core_of v past)) { leaf = k })) (add-one v.keys.used)
        (next-parts m refines after shape.slots (before_own (rules_of v.setup) m v.me.0 past) past (over-tied m refines after (signed-shape m v shape) past (signed-tied m refines v past tied) complete) w early begins)

    abbrev packet : Vote → List ℕ
    packet z = spell_packet v.setup.version (record { kind = Kind_vote; from = z.by.0; epoch = z.epoch; leader = 0; body = spell_vote z })

    -- The vote is sent, with a snapshot for the journal.
    module _ (first o : Outcome) (bytes : List ℕ) (handed : IsVoteHandedOut u vote first) (is : o ≡ record first { entered = Some bytes }) (entry : IsEntryOf m refines w early bytes) where
      there : IsVoteHandedOut after vote first
      there = subst (λ (z : StateView M Msg). IsVoteHandedOut z vote first) voted.rest handed

      sent : o.sends ≡ (To_all, packet vote) ∷ []
      sent = ap (λ (z : Outcome). z.sends) is ∙ there.sent

      pub ended-so : IsTurned m refines (ends (formats_of v.setup m) (rules_of v.setup) m v.me.0 (core_of v past)) w o
      ended-so = record {
        refined = next-refined;
        made = record {
          sends = sent ∙ ap (λ (z : Vote). (To_all, packet z) ∷ []) vote-is;
          own = ap (λ (z : Outcome). z.own) is ∙ (there.own ∙ ap (λ (z : Vote). claim_by v.setup.tag z ∷ []) vote-is);
          early = ap (λ (z : Outcome). z.early) is ∙ there.early;
          hashed = ap (λ (z : Outcome). z.hashed) is ∙ there.hashed;
        };
        entered = λ votes certs kept.
            ap (λ (z : Outcome). z.entered) is
            ∙ ap (λ (x : List ℕ). Some x)
            (entry-of m refines w early bytes entry (record (in_next_epoch (core_of v past)) { leaf = suc v.keys.used }) next-refined (seen_early v.early)
            (ap (λ (xs : List (Early Msg)). seen_early xs) (next.kept ∙ ap (λ (z : StateView M Msg). z.early) voted.rest)) votes certs kept);
        addressed = subst (λ (xs : List (To × List ℕ)). AreToNodes w.setup.n xs) (sym sent) (tt, tt);
      }

-- The whole end of the epoch.
pub ended-all : {M Msg : Type 0} (m : Module Msg) (refines : M → Params → ℕ → List (Item Msg) → Type 0) (v u w : StateView M Msg) (shape : IsNodeState m v) (vote : Vote) (first o : Outcome) (bytes : List ℕ) (early : List (Early Msg)) →
    IsVoted v u vote → IsVoteHandedOut u vote first → o ≡ record first { entered = Some bytes } → IsEntryOf m refines w early bytes → IsNextEpoch refines u w early → IsEnded m refines v w o early
ended-all m refines v u w shape vote first o bytes early voted handed is entry next = record {
  turned = λ past tied complete. ended-so m refines v shape past tied complete u vote voted w early next first o bytes handed is entry;
  kept = next.kept ∙ ap (λ (z : StateView _ _). z.early) voted.rest;
}
