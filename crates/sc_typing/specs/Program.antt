-- The typed tree of a whole source.
use Rattle.std.specs.Prelude.{ℕ, ◌+◌, ◌-◌, Option, Some, None, List, [], ◌∷◌, ◌++◌, map, slice_get}
use Rattle.std.specs.Option.{option_map_or}
use Rattle.sc_base.specs.declared.shape.Star.{Star}
use Rattle.sc_base.specs.declared.shape.Star.TheVariants as star
use Rattle.sc_base.specs.declared.shape.Ty.{Ty}
use Rattle.sc_tree.specs.Names.{Text}
use Rattle.sc_tree.specs.declared.tree.Param.{Param}
use Rattle.sc_tree.specs.declared.typed_stmt.TypedParam.{TypedParam}
use Rattle.sc_tree.specs.PlainStmt.{Statements}
use Rattle.sc_tree.specs.PlainTree.{PlainFunction, PlainTree}
use Rattle.sc_tree.specs.PlainTypedTree.{PlainTypedFunction, PlainTypedTree}
use Rattle.sc_tree.specs.PlainTypedStmt.{TypedStatements}
use Rattle.sc_tree.specs.ViewTypedStmt.{typed_statements_of}
use Rattle.sc_typing.specs.declared.file.Definition.{Definition}
use Rattle.sc_typing.specs.Scope.{Scope, nothing_in_scope, with_declared}
use Rattle.sc_typing.specs.Source.{Source}
use Rattle.sc_typing.specs.Statements.{Within, typed_all}

abbrev pub types_of : List Param → List Ty
types_of params = map (λ p. p.ty) params

-- the function definitions in text order
abbrev pub definition_of : PlainFunction → Definition
definition_of f = record { name = f.name; at = f.at; result = f.result; params = types_of f.params }

abbrev pub definition_if : Option Statements → Definition → List Definition → List Definition
definition_if None d more = more
definition_if (Some _) d more = d ∷ more

abbrev pub definitions_of : List PlainFunction → List Definition
definitions_of [] = []
definitions_of (f ∷ more) = definition_if f.body (definition_of f) (definitions_of more)

-- what names at file scope mean, for the names and formats of the source's tokens
abbrev pub source_of_tree : PlainTree → (names texts : List Text) → Source
source_of_tree tree names texts =
    record { objects = tree.objects; definitions = definitions_of tree.functions; names = names; texts = texts }

-- the tokens of stars: `*` alone, or with `global` or `spread`
abbrev pub star_tokens : List Star → ℕ
star_tokens [] = 0
star_tokens (star.Local ∷ more) = star_tokens more + 1
star_tokens (star.Global ∷ more) = star_tokens more + 2
star_tokens (star.Spread ∷ more) = star_tokens more + 2

-- the token of the parameter's name, behind its type word and stars
abbrev pub name_token : Param → ℕ
name_token p = p.at + star_tokens p.ty.stars + 1

-- a parameter is a local, which has its number whether it has a name or not
unfoldable pub after_parameter : Scope → Param → Scope
after_parameter s p = with_declared p.name p.ty s

abbrev pub after_parameters : Scope → List Param → Scope
after_parameters s [] = s
after_parameters s (p ∷ more) = after_parameters (after_parameter s p) more

abbrev pub within : Source → PlainFunction → Within
within c f = record { source = c; result = f.result }

-- the scope at the beginning of a function's body
abbrev pub body_scope : PlainFunction → Scope
body_scope f = after_parameters nothing_in_scope f.params

abbrev pub typed_body : Source → PlainFunction → Option Statements → Option TypedStatements
typed_body c f None = None
typed_body c f (Some all) = Some (typed_statements_of (typed_all (within c f) (body_scope f) all))

abbrev pub typed_param : Param → TypedParam
typed_param p = record { name = p.name; ty = p.ty; at = p.at }

unfoldable pub typed_function : Source → PlainFunction → PlainTypedFunction
typed_function c f =
    record {
      name = f.name;
      result = f.result;
      params = map typed_param f.params;
      body = typed_body c f f.body;
      at = f.at;
      line = f.line;
    }

-- the text of a function's name
abbrev pub name_text : List Text → ℕ → Text
name_text names n = option_map_or (λ text. text) (slice_get names n) []

-- the formats, and behind them the names of the function definitions
abbrev pub typed_texts : Source → List Text
typed_texts c = c.texts ++ map (λ d. name_text c.names d.name) c.definitions

abbrev pub typed_in : Source → PlainTree → PlainTypedTree
typed_in c tree =
    record {
      objects = tree.objects;
      functions = map (typed_function c) tree.functions;
      lines = tree.lines;
      last = tree.last;
      texts = typed_texts c;
    }

-- the token of `splitc_main`, or the last one
abbrev pub main_token : (last : ℕ) → Option Definition → ℕ
main_token last d = option_map_or (λ d. d.at) d last

-- the typed tree of a well-typed source
abbrev pub typed_of : PlainTree → (names texts : List Text) → PlainTypedTree
typed_of tree names texts = typed_in (source_of_tree tree names texts) tree

-- the line of a token, counted from 1
abbrev pub line_of : PlainTree → ℕ → ℕ
line_of tree at = option_map_or (λ line. line) (slice_get tree.lines (at - 1)) tree.last
