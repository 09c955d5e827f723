use Rattle.std.proofs.Common.{◌≡◌, drop}
use Rattle.sc_typing.specs.Program.{after_parameters}
use Rattle.sc_typing.proofs.ProgramNotes.{note_parameters}
use Rattle.sc_typing.specs.Scope.{nothing_in_scope}
use Rattle.sc_typing.specs.ViewSource.{source_of}
use Rattle.sc_check.proofs.parameters.scope_of.Given as goal

abbrev pub invariant-loop-p : goal.invariant-loop-p
invariant-loop-p l =
    let left = drop l.p-index l.params in
    record {
      scope : after_parameters l.scope left ≡ after_parameters nothing_in_scope l.params;
      notes : note_parameters (source_of l.file) l.defined l.scope left l.notes
          ≡ note_parameters (source_of l.file) l.defined nothing_in_scope l.params l.fn.notes;
    }
