use Rattle.std.proofs.Common.{◌∙◌, ap, ap₂, List, ℕ}
use Rattle.sha2.specs.Sha256.{sha256}
use Rattle.iss_request.specs.declared.ids.NodeId.{NodeId}
use Rattle.iss_request.specs.declared.setups.Setup.{Setup}
use Rattle.iss_lab.specs.Generated.{untagged}
use Rattle.iss_lab.proofs.GeneratedLemmas.{header_is}
use Rattle.iss_lab.proofs.generating.lab_setup.Goals as goal

abbrev with : List NodeId → List ℕ → Setup
with faulty tag = record untagged { faulty = faulty; tag = tag }

pub returns : goal.returns
returns c = ap₂ with c.new.ensures (c.tag_of.ensures ∙ ap sha256 header_is)
