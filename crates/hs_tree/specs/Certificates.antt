-- How certificates of HotStuff are encoded and decoded. A certificate is the root's, or votes of strictly ascending
-- nodes for a digest in a view and a phase. A good one has exactly a quorum of votes.
--
--   certificate   view (4 bytes); 0 is the root's, and ends here; else phase (1), digest (32), count (1), and that
--                 many signers, strictly ascending
use Rattle.std.specs.Prelude.{◌≡◌, ◌≤◌, ◌<◌, ℕ, zero, suc, ◌^◌, ◌==◌, ◌&&◌, Bool, true, false, nat_lt, nat_le, List, [], ◌∷◌, ◌++◌, length, if◌then◌else◌}
use Rattle.std.specs.Int.{to_be_bytes, w32}
use Rattle.std.specs.List.{flat_map}
use Rattle.iss_request.specs.Parsing.{Parser, ◌>>=◌, block, byte, done, number, such_that}
use Rattle.iss_sb.specs.declared.signers.Signed.{Signed}
use Rattle.iss_sb.specs.Signers.{AreSigners, are_signers, parse_signers, spell_signed}
use Rattle.hs_tree.specs.declared.certificates.Certificate.{Certificate}
use Rattle.hs_tree.specs.declared.certificates.Certificate.TheVariants.{Root, Votes}
use Rattle.hs_tree.specs.Tree.{root}

-- the view of the votes, 0 for the root's certificate
abbrev pub view_of : Certificate → ℕ
view_of Root = 0
view_of (Votes view phase d votes) = view

-- the digest of the certified node
abbrev pub digest_of : Certificate → List ℕ
digest_of Root = root
digest_of (Votes view phase d votes) = d

abbrev pub votes_in : Certificate → List Signed
votes_in Root = []
votes_in (Votes view phase d votes) = votes

abbrev pub signers : List Signed → List ℕ
signers [] = []
signers (v ∷ vs) = v.by.0 ∷ signers vs

-- signers strictly ascending, from this number on
abbrev pub is_ascending : ℕ → List Signed → Bool
is_ascending from [] = true
is_ascending from (v ∷ vs) = nat_le from v.by.0 && is_ascending (suc v.by.0) vs

-- a quorum certificate: exactly a quorum's votes for this phase in this view
abbrev pub is_quorum : ℕ → ℕ → ℕ → Certificate → Bool
is_quorum quorum phase view Root = false
is_quorum quorum phase view (Votes w q d votes) = ((w == view) && (q == phase)) &&
    ((length votes == quorum) && is_ascending 0 votes)

-- ---- Encoding

-- phases are numbered from 1
abbrev pub is_phase : ℕ → ℕ → Bool
is_phase phases n = nat_le 1 n && nat_le n phases

-- at most 255 votes, by strictly ascending signers, each with a signature
abbrev pub are_votes : List Signed → Bool
are_votes votes = nat_lt (length votes) 256 && are_signers 0 votes

-- whether the votes have an encoding
abbrev pub fits : ℕ → ℕ → ℕ → List ℕ → List Signed → Bool
fits phases view phase d votes = (nat_lt 0 view && nat_lt view (2 ^ 32)) &&
    ((is_phase phases phase && (length d == 32)) && are_votes votes)

abbrev pub root_row : List ℕ
root_row = to_be_bytes w32 0

abbrev pub votes_row : ℕ → ℕ → List ℕ → List Signed → List ℕ
votes_row view phase d votes = to_be_bytes w32 view ++ phase ∷ d ++ length votes ∷ flat_map spell_signed votes

-- Votes without an encoding are written as view 1 and phase 0, which no reader accepts.
abbrev pub no_certificate : List ℕ
no_certificate = 0 ∷ 0 ∷ 0 ∷ 1 ∷ 0 ∷ []

abbrev pub spell_certificate : ℕ → Certificate → List ℕ
spell_certificate phases Root = root_row
spell_certificate phases (Votes view phase d votes) =
    if fits phases view phase d votes then votes_row view phase d votes else no_certificate

-- ---- The encoding as a relation between certificates and bytes

pub record AreSpelledVotes (phases view phase : ℕ) (d : List ℕ) (votes : List Signed) (bytes : List ℕ) : Type 0 where
  pub view_low : 1 ≤ view
  pub view_fits : view < 2 ^ 32
  pub phase_low : 1 ≤ phase
  pub phase_fits : phase ≤ phases
  pub digest_fits : length d ≡ 32
  pub count_fits : length votes < 256
  pub signers : AreSigners 0 votes
  pub row : bytes ≡ votes_row view phase d votes

abbrev pub IsSpelledCertificate : ℕ → Certificate → List ℕ → Type 0
IsSpelledCertificate phases Root bytes = bytes ≡ root_row
IsSpelledCertificate phases (Votes view phase d votes) bytes = AreSpelledVotes phases view phase d votes bytes

-- ---- Decoding

-- what follows the view: nothing if it is 0, the root's
unfoldable pub parse_votes : ℕ → ℕ → Parser Certificate
parse_votes phases zero = done Root
parse_votes phases (suc less) = do
  phase ← such_that (is_phase phases) byte
  d ← block 32
  count ← such_that (λ n. nat_lt n 256) byte
  votes ← parse_signers count 0
  done (Votes (suc less) phase d votes)

unfoldable pub parse_certificate : ℕ → Parser Certificate
parse_certificate phases = do
  view ← number w32
  parse_votes phases view
