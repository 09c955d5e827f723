use Rattle.std.proofs.Common.{◌≡◌, ◌++◌, map, drop}
use Rattle.sc_tree.specs.ViewTree.{plain_function}
use Rattle.sc_tree.specs.ViewTypedTree.{plain_typed_function}
use Rattle.sc_typing.specs.Program.{typed_function}
use Rattle.sc_typing.proofs.ProgramNotes.{note_functions}
use Rattle.sc_typing.specs.ViewSource.{source_of}
use Rattle.sc_check.proofs.functions.functions_of.Given as goal

abbrev pub invariant-loop-f : goal.invariant-loop-f
invariant-loop-f l =
    let left = map plain_function (drop l.f-index l.functions) in
    record {
      typed : map plain_typed_function l.made.items ++ map (typed_function (source_of l.file)) left
          ≡ map (typed_function (source_of l.file)) (map plain_function l.functions);
      notes : note_functions (source_of l.file) left l.notes
          ≡ note_functions (source_of l.file) (map plain_function l.functions) l.fn.notes;
    }
