-- What the code's name of a protocol stands for.
use Rattle.hs_tree.specs.declared.protocols.Protocol.{Protocol}
use Rattle.hs_tree.specs.declared.protocols.Protocol.TheVariants.{Basic, Chained}
use Rattle.hs_tree.specs.Tree.{Form, basic, chained}

abbrev pub form_of : Protocol → Form
form_of Basic = basic
form_of Chained = chained
