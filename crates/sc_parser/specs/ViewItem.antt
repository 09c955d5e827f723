-- An item of the code as plain data.
use Rattle.sc_tree.specs.ViewTree.{plain_function}
use Rattle.sc_parser.specs.declared.items.Item.{Item as CodeItem}
use Rattle.sc_parser.specs.declared.items.Item.TheVariants as code
use Rattle.sc_grammar.specs.Items.{Item, objects, function}

abbrev pub plain_item : CodeItem → Item
plain_item (code.Objects all) = objects all
plain_item (code.Function f) = function (plain_function f)
