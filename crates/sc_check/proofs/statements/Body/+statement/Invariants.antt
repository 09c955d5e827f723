use Rattle.std.proofs.Common.{◌≡◌, ◌++◌, map, drop}
use Rattle.sc_tree.specs.ViewStmt.{plain_arm, arms_of}
use Rattle.sc_tree.specs.ViewTree.{plain_block}
use Rattle.sc_tree.specs.ViewTypedStmt.{plain_typed_stmt, plain_typed_arm}
use Rattle.sc_typing.specs.Statements.{typed_all, after_all, typed_arms, after_arms}
use Rattle.sc_typing.proofs.StatementNotes.{note_all, note_arms}
use Rattle.sc_check.specs.ViewStatements.{within_of}
use Rattle.sc_check.proofs.statements.Body.+statement.Given as goal

abbrev pub invariant-sequence-loop-s : goal.invariant-sequence-loop-s
invariant-sequence-loop-s l =
    let left = plain_block (drop l.s-index l.all) in
    record {
      typed : map plain_typed_stmt l.made.items ++ typed_all (within_of l.self) l.scope left
          ≡ typed_all (within_of l.self) l.fn.scope (plain_block l.all);
      scope : after_all l.scope left ≡ after_all l.fn.scope (plain_block l.all);
      notes : note_all (within_of l.self) l.looped l.from l.scope left l.notes
          ≡ note_all (within_of l.self) l.looped l.from l.fn.scope (plain_block l.all) l.fn.notes;
    }

abbrev pub invariant-arms-loop-a : goal.invariant-arms-loop-a
invariant-arms-loop-a l =
    let left = arms_of (map plain_arm (drop l.a-index l.all)) in
    let whole = arms_of (map plain_arm l.all) in
    record {
      typed : map plain_typed_arm l.made.items ++ typed_arms (within_of l.self) l.scope left
          ≡ typed_arms (within_of l.self) l.fn.scope whole;
      scope : after_arms l.scope left ≡ after_arms l.fn.scope whole;
      notes : note_arms (within_of l.self) l.looped l.from l.scope left l.notes
          ≡ note_arms (within_of l.self) l.looped l.from l.fn.scope whole l.fn.notes;
    }
