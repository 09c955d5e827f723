use Rattle.std.proofs.Common.{◌≡◌, drop}
use Rattle.sc_typing.specs.ViewSource.{source_of}
use Rattle.sc_typing.proofs.ProgramNotes.{note_objects}
use Rattle.sc_check.proofs.file_scope.note_objects.Given as goal

abbrev pub invariant-loop-o : goal.invariant-loop-o
invariant-loop-o l =
    note_objects (source_of l.file) (drop l.o-index l.objects) l.notes
    ≡ note_objects (source_of l.file) l.objects l.fn.notes
