-- The directory that one of several owners shares.
use Rattle.iss_keys.specs.Directories.{DirectoryView}
use Rattle.iss_keys.specs.declared.shared.Home.{Home}
use Rattle.iss_keys.specs.declared.shared.Home.TheVariants.{Shared, Alone}

abbrev pub directory_in : Home → DirectoryView
directory_in (Shared directory) = directory.value
directory_in (Alone directory) = directory
