-- How a vote is encoded in the body of its packet, whose head names the node and the epoch.
--
--   vote     chain (32 bytes), number of requests (8), signature
use Rattle.std.specs.Prelude.{◌≡◌, ℕ, ◌<◌, ◌^◌, nat_lt, ◌==◌, ◌&&◌, Bool, true, List, ◌++◌, length, if◌then◌else◌, replicate}
use Rattle.std.specs.Int.{to_be_bytes, w64}
use Rattle.iss_request.specs.Formats.{is_signature, parse_signature}
use Rattle.iss_request.specs.Parsing.{Parser, ◌>>=◌, block, done, number}
use Rattle.iss_checkpoint.specs.declared.votes.Vote.{Vote}

-- whether the vote has an encoding
abbrev pub fits : Vote → Bool
fits v = (length v.chain == 32) && (nat_lt v.requests (2 ^ 64) && is_signature v.sig)

-- the encoding
abbrev pub vote_row : Vote → List ℕ
vote_row v = v.chain ++ (to_be_bytes w64 v.requests ++ v.sig)

-- A vote without an encoding is written as these bytes, whose signature has height 0: they decode to no vote.
abbrev pub no_vote : List ℕ
no_vote = replicate 41 0

-- what is written for a vote
abbrev pub spell_vote : Vote → List ℕ
spell_vote v = if fits v then vote_row v else no_vote

-- the table as a relation between a node's votes for an epoch and bytes
-- rule: Checkpoints: A vote has one encoding in a packet's body: chain, count, signature
pub record IsSpelledVote (by e : ℕ) (v : Vote) (bytes : List ℕ) : Type 0 where
  pub own : v.by.0 ≡ by
  pub epoch : v.epoch.0 ≡ e
  pub chain_fits : length v.chain ≡ 32
  pub count_fits : v.requests < 2 ^ 64
  pub signed : is_signature v.sig ≡ true
  pub row : bytes ≡ vote_row v

-- decodes the vote of node `by` for epoch e
unfoldable pub parse_vote : ℕ → ℕ → Parser Vote
parse_vote by e = do
  chain ← block 32
  requests ← number w64
  sig ← parse_signature
  done (record { epoch = record { 0 = e }; chain = chain; requests = requests; by = record { 0 = by }; sig = sig })
