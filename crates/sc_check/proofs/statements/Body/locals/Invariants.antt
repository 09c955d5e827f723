use Rattle.std.proofs.Common.{◌≡◌, ◌++◌, map, drop}
use Rattle.sc_tree.specs.ViewStmt.{declared}
use Rattle.sc_tree.specs.ViewTypedStmt.{typed_declared}
use Rattle.sc_typing.specs.ViewSource.{source_of}
use Rattle.sc_typing.specs.Statements.{typed_locals, after_locals}
use Rattle.sc_typing.proofs.StatementNotes.{note_locals}
use Rattle.sc_check.proofs.statements.Body.locals.Given as goal

abbrev pub invariant-loop-l : goal.invariant-loop-l
invariant-loop-l l =
    let left = map declared (drop l.l-index l.locals) in
    record {
      typed : map typed_declared l.all.items ++ typed_locals (source_of l.self.file) l.scope left
          ≡ typed_locals (source_of l.self.file) l.fn.scope (map declared l.locals);
      scope : after_locals l.scope left ≡ after_locals l.fn.scope (map declared l.locals);
      notes : note_locals (source_of l.self.file) l.from l.scope left l.notes
          ≡ note_locals (source_of l.self.file) l.from l.fn.scope (map declared l.locals) l.fn.notes;
    }
