-- A disk over real files tells no states of its files, so clauses about their bytes promise nothing.
use Rattle.std.proofs.Common.{◌≡◌, List, [], ◌∷◌}
use Rattle.iss_disk.specs.File.{File, Image}

pub nothing_told : (file : File) (past : List File) → [] ≡ file ∷ past → Image file file.content
nothing_told file past is = cc
