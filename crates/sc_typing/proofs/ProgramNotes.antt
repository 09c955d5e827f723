-- The rules that a whole source breaks, in the order in which a reader meets them.
use Rattle.std.specs.Prelude.{ℕ, Bool, true, false, Option, Some, None, List, [], ◌∷◌, length}
use Rattle.sc_base.specs.declared.shape.Shape.{Shape}
use Rattle.sc_tree.specs.Names.{Text}
use Rattle.sc_tree.specs.declared.tree.Param.{Param}
use Rattle.sc_tree.specs.PlainStmt.{Statements}
use Rattle.sc_tree.specs.PlainTree.{PlainFunction, PlainTree}
use Rattle.sc_typing.specs.declared.notes.Breach.{Breach}
use Rattle.sc_typing.specs.declared.rule.Rule.TheVariants as rules
use Rattle.sc_typing.specs.Scope.{Scope, nothing_in_scope}
use Rattle.sc_typing.specs.Source.{Source}
use Rattle.sc_typing.specs.NameRules
use Rattle.sc_typing.specs.Program.{definition_of, main_token, source_of_tree, name_token, after_parameter, within}
use Rattle.sc_typing.specs.Program.{body_scope}
use Rattle.sc_typing.specs.Notes.{unless}
use Rattle.sc_typing.proofs.ExpressionNotes.{Noting}
use Rattle.sc_typing.proofs.StatementNotes.{note_declared, note_all}

unfoldable pub note_object_name : Source → Shape → Noting
note_object_name c o broken = unless (NameRules.not_of_library c o.name) o.at rules.LibraryName (unless (NameRules.declared_once_in_file c o.name o.at) o.at rules.DeclaredOnce broken)

abbrev pub note_objects : Source → List Shape → Noting
note_objects c [] broken = broken
note_objects c (o ∷ more) broken = note_objects c more (note_object_name c o broken)

abbrev pub note_parameter_name : Source → Param → Scope → Option ℕ → Noting
note_parameter_name c p s None broken = broken
note_parameter_name c p s (Some n) broken = note_declared c 0 n (name_token p) s broken

unfoldable pub note_parameter : Source → (defined : Bool) → Scope → Param → Noting
note_parameter c defined s p broken =
    note_parameter_name c p s p.name (unless (NameRules.parameter_kept defined p.name) p.at rules.Prototype broken)

abbrev pub note_parameters : Source → (defined : Bool) → Scope → List Param → Noting
note_parameters c defined s [] broken = broken
note_parameters c defined s (p ∷ more) broken =
    note_parameters c defined (after_parameter s p) more (note_parameter c defined s p broken)

-- a prototype, or a definition with its body
abbrev pub note_body : Source → PlainFunction → Option Statements → Noting
note_body c f None broken =
    note_parameters c false nothing_in_scope f.params (unless (NameRules.prototype_kept c (definition_of f)) f.at rules.Prototype broken)
note_body c f (Some all) broken =
    note_all (within c f) false 0 (body_scope f) all
    (note_parameters c true nothing_in_scope f.params (unless (NameRules.declared_once_in_file c f.name f.at) f.at rules.DeclaredOnce broken))

unfoldable pub note_function : Source → PlainFunction → Noting
note_function c f broken = note_body c f f.body (unless (NameRules.not_of_library c f.name) f.at rules.LibraryName broken)

abbrev pub note_functions : Source → List PlainFunction → Noting
note_functions c [] broken = broken
note_functions c (f ∷ more) broken = note_functions c more (note_function c f broken)

unfoldable pub note_main : Source → (last : ℕ) → Noting
note_main c last broken =
    unless (NameRules.main_kept (NameRules.main_definition c)) (main_token last (NameRules.main_definition c)) rules.Main broken

-- the source's objects, its functions, and `splitc_main`
unfoldable pub note_file : Source → PlainTree → Noting
note_file c tree broken = note_main c (length tree.lines) (note_functions c tree.functions (note_objects c tree.objects broken))

abbrev pub noted : PlainTree → (names texts : List Text) → List Breach
noted tree names texts = note_file (source_of_tree tree names texts) tree []
