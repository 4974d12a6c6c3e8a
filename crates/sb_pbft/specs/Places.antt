-- What the code's tables hold at a place: proposals by view and slot, votes by node too, ViewChanges by view and node,
-- and each slot's highest certificate.
use Rattle.std.specs.Prelude.{ℕ, Bool, false, List, [], Option, Some, None}
use Rattle.std.specs.BTreeMap.{get}
use Rattle.std.specs.Ordering.{nat_cmp}
use Rattle.std.specs.declared.cmp.Ordering.{Ordering}
use Rattle.iss_base.specs.Lists.{same_bytes}
use Rattle.pbft_wire.specs.declared.messages.Certificate.{Certificate}
use Rattle.pbft_wire.specs.declared.messages.Change.{Change}
use Rattle.sb_pbft.specs.declared.view_changes.ViewChanges.{ViewChanges}
use Rattle.sb_pbft.specs.declared.view_changes.Maker.{Maker}
use Rattle.sb_pbft.specs.declared.proposals.Place.{Place}
use Rattle.sb_pbft.specs.declared.proposals.Proposal.{Proposal}
use Rattle.sb_pbft.specs.declared.proposals.Proposals.{Proposals}
use Rattle.sb_pbft.specs.declared.prepared.PreparedCertificates.{PreparedCertificates}
use Rattle.sb_pbft.specs.declared.tallies.Mark.{Mark}
use Rattle.sb_pbft.specs.declared.tallies.Voted.{Voted}
use Rattle.sb_pbft.specs.declared.tallies.Votes.{Votes}
use Rattle.sb_pbft.specs.contracts.view_changes.MakerOrd.TheImpl as maker_ord
use Rattle.sb_pbft.specs.contracts.proposals.PlaceOrd.TheImpl as place_ord
use Rattle.sb_pbft.specs.contracts.tallies.MarkOrd.TheImpl as mark_ord
use Rattle.sb_pbft.specs.Rules.{Ballot}

abbrev pub by_place : Place → Place → Ordering
by_place = (place_ord.ghosts).cmp

abbrev pub proposal_at : Proposals → ℕ → ℕ → Option Proposal
proposal_at m v s = get by_place m.all (record { view = v; slot = s })

abbrev pub by_mark : Mark → Mark → Ordering
by_mark = (mark_ord.ghosts).cmp

abbrev pub ballot_of : Option Voted → Option Ballot
ballot_of None = None
ballot_of (Some b) = Some (record { digest = b.digest; sig = b.sig })

abbrev pub vote_at : Votes → ℕ → ℕ → ℕ → Option Ballot
vote_at m v s k = ballot_of (get by_mark m.first (record { view = v; slot = s; node = k }))

abbrev pub has_voted : List ℕ → Option Ballot → Bool
has_voted d None = false
has_voted d (Some b) = same_bytes d b.digest

abbrev pub signature_in : Option Ballot → List ℕ
signature_in None = []
signature_in (Some b) = b.sig

abbrev pub by_maker : Maker → Maker → Ordering
by_maker = (maker_ord.ghosts).cmp

abbrev pub change_at : ViewChanges → ℕ → ℕ → Option Change
change_at m v k = get by_maker m.first (record { view = v; node = k })

abbrev pub top_at : PreparedCertificates → ℕ → Option Certificate
top_at m s = get nat_cmp m.highest s
