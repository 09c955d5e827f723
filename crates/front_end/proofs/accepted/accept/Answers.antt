use Rattle.std.proofs.Common.{refl}
use Rattle.sc_tree.specs.ViewTree.{plain_tree}
use Rattle.front_end.proofs.Lawful.{lawful}
use Rattle.front_end.proofs.accepted.accept.Goals as goal

pub returns-in-Err : goal.returns-in-Err
returns-in-Err c = c.in-Err.ensures.refused c.args.nodes

pub returns-in-Err-tree_of : goal.returns-in-Err-tree_of
returns-in-Err-tree_of c = c.in-Err-tree_of.ensures.refused c.args.source.now c.args.nodes c.in-Ok.ensures.lexed

pub layout_of-requires-clause-lawful : goal.layout_of-requires-clause-lawful
layout_of-requires-clause-lawful c =
    lawful c.in-Ok.lexed.tokens (plain_tree c.in-Ok-tree_of.tree) (c.in-Ok-tree_of.ensures.read c.args.source.now c.in-Ok.ensures.lexed).sentence

pub returns-in-Err-layout_of : goal.returns-in-Err-layout_of
returns-in-Err-layout_of c =
    c.in-Err-layout_of.ensures.refused c.args.source.now c.in-Ok.lexed (c.in-Ok-tree_of.ensures.read c.args.source.now c.in-Ok.ensures.lexed)

pub returns-in-Err-typed_of : goal.returns-in-Err-typed_of
returns-in-Err-typed_of c =
    let read = c.in-Ok-tree_of.ensures.read c.args.source.now c.in-Ok.ensures.lexed in
    c.in-Err-typed_of.ensures.refused c.args.source.now (c.in-Ok-layout_of.ensures.laid c.args.source.now c.in-Ok.lexed read)

pub returns : goal.returns
returns c =
    let read = c.in-Ok-tree_of.ensures.read c.args.source.now c.in-Ok.ensures.lexed in
    record {
      lexed = c.in-Ok.lexed;
      tree = plain_tree c.in-Ok-tree_of.tree;
      laid = c.in-Ok-layout_of.ensures.laid c.args.source.now c.in-Ok.lexed read;
      well_typed = c.in-Ok-typed_of.ensures.typed.1;
      names_are = refl;
      typed_is = c.in-Ok-typed_of.ensures.typed.0;
    }
