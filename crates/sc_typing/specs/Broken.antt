-- Which rules a source breaks, and at which tokens, in no order: a pair is broken where some part of the source breaks
-- the rule there.
use Rattle.std.specs.Prelude.{ℕ, ◌≡◌, true, false, Some, None, List, ◌∷◌, length}
use Rattle.std.specs.List.{Contains}
use Rattle.sc_base.specs.declared.shape.Shape.{Shape}
use Rattle.sc_tree.specs.Names.{Text}
use Rattle.sc_tree.specs.declared.tree.Param.{Param}
use Rattle.sc_tree.specs.PlainStmt.{Statement, Statements}
use Rattle.sc_tree.specs.PlainTree.{PlainFunction, PlainTree}
use Rattle.sc_typing.specs.declared.notes.Breach.{Breach}
use Rattle.sc_typing.specs.declared.rule.Rule.TheVariants as rules
use Rattle.sc_typing.specs.Scope.{Scope, nothing_in_scope}
use Rattle.sc_typing.specs.Source.{Source}
use Rattle.sc_typing.specs.NameRules
use Rattle.sc_typing.specs.Program.{definition_of, main_token, source_of_tree, name_token, after_parameter, within}
use Rattle.sc_typing.specs.Program.{body_scope}
use Rattle.sc_typing.specs.BrokenExpressions.{breach}
use Rattle.sc_typing.specs.StatementParts.{place, InSequence}
use Rattle.sc_typing.specs.BrokenStatements.{BrokenBy}

-- a parameter, with what is in scope where it stands
pub data InParameters (s_there : Scope) (it : Param) : Scope → List Param → Type 0 where
  at_front : {more : List Param} → InParameters s_there it s_there (it ∷ more)
  further : {s : Scope} {other : Param} {more : List Param} →
      InParameters s_there it (after_parameter s other) more →
      InParameters s_there it s (other ∷ more)

-- Rules that a function or a prototype breaks.
pub data FunctionBreaks (c : Source) (f : PlainFunction) (b : Breach) : Type 0 where
  library_declared :
      NameRules.not_of_library c f.name ≡ false →
      b ≡ breach f.at rules.LibraryName →
      FunctionBreaks c f b
  defined_twice : {all : Statements} →
      f.body ≡ Some all →
      NameRules.declared_once_in_file c f.name f.at ≡ false →
      b ≡ breach f.at rules.DeclaredOnce →
      FunctionBreaks c f b
  prototype_differs :
      f.body ≡ None →
      NameRules.prototype_kept c (definition_of f) ≡ false →
      b ≡ breach f.at rules.Prototype →
      FunctionBreaks c f b
  parameter_unnamed : {all : Statements} {s : Scope} {p : Param} →
      f.body ≡ Some all →
      InParameters s p nothing_in_scope f.params →
      NameRules.parameter_kept true p.name ≡ false →
      b ≡ breach p.at rules.Prototype →
      FunctionBreaks c f b
  parameter_twice : {s : Scope} {p : Param} {n : ℕ} →
      InParameters s p nothing_in_scope f.params →
      p.name ≡ Some n →
      NameRules.declared_once 0 n s ≡ false →
      b ≡ breach (name_token p) rules.DeclaredOnce →
      FunctionBreaks c f b
  parameter_of_library : {s : Scope} {p : Param} {n : ℕ} →
      InParameters s p nothing_in_scope f.params →
      p.name ≡ Some n →
      NameRules.not_of_library c n ≡ false →
      b ≡ breach (name_token p) rules.LibraryName →
      FunctionBreaks c f b
  in_body : {all : Statements} {s : Scope} {it : Statement} →
      f.body ≡ Some all →
      InSequence s it (body_scope f) all →
      BrokenBy (within c f) b (place false 0 s) it →
      FunctionBreaks c f b

-- Rules that a file breaks.
pub data FileBreaks (c : Source) (tree : PlainTree) (b : Breach) : Type 0 where
  declared_twice : {o : Shape} →
      Contains tree.objects o →
      NameRules.declared_once_in_file c o.name o.at ≡ false →
      b ≡ breach o.at rules.DeclaredOnce →
      FileBreaks c tree b
  library_declared : {o : Shape} →
      Contains tree.objects o →
      NameRules.not_of_library c o.name ≡ false →
      b ≡ breach o.at rules.LibraryName →
      FileBreaks c tree b
  no_main :
      NameRules.main_kept (NameRules.main_definition c) ≡ false →
      b ≡ breach (main_token (length tree.lines) (NameRules.main_definition c)) rules.Main →
      FileBreaks c tree b
  in_function : {f : PlainFunction} → Contains tree.functions f → FunctionBreaks c f b → FileBreaks c tree b

-- The source breaks the rule at the token. `names` and `texts` are the names and formats of its tokens.
abbrev pub Broken : PlainTree → (names texts : List Text) → Breach → Type 0
Broken tree names texts b = FileBreaks (source_of_tree tree names texts) tree b
