-- A text and its configuration, and texts that are refused.
use Rattle.std.proofs.Common.{◌≡◌, ◌++◌, List, ℕ, Some, None, codes, refl}
use Rattle.toml.specs.Parse.{parse_document}
use Rattle.toml.proofs.OnLiterals.{toml_on_literals}
use Rattle.iss_request.specs.declared.setups.Policy.TheVariants.{Blacklist}
use Rattle.iss_config.specs.Configs.{entries_of, members_of}
use Rattle.iss_config.specs.declared.configs.Config.{Config}

-- four nodes under PBFT
abbrev pbft : Config
pbft = record {
  «module» = 3;
  policy = Blacklist;
  f = 1;
  epoch = 8;
  buckets = 4;
  batch = 8;
  window = 16;
  clients = 4;
  keys = 6;
  requests = 20;
  turns = 100;
}

abbrev text : List ℕ
text = codes "module = \"pbft\"\nf = 1\nepoch = 8 # two slots a leader\n" ++ codes "policy = \"blacklist\"\nbuckets = 4\nbatch = 8\nwindow = 16\nclients = 4\nkeys = 6\nrequests = 20\nturns = 100\n"

is_read : parse_document text ≡ Some (members_of (entries_of pbft))
unfolding toml_on_literals
is_read = refl

-- a key that is there twice
is_refused : parse_document (codes "f = 1\nf = 1\n") ≡ None
unfolding toml_on_literals
is_refused = refl
