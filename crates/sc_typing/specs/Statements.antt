-- Typed statements, and the locals that are in scope behind a statement.
use Rattle.std.specs.Prelude.{ℕ, Bool, Option, Some, None, List, [], ◌∷◌, if◌then◌else◌}
use Rattle.sc_base.specs.declared.shape.Ty.{Ty}
use Rattle.sc_tree.specs.Plain.{Expression}
use Rattle.sc_tree.specs.PlainStmt.{Declared, Statement, block, empty, declare, simple, split, choose, choose_else}
use Rattle.sc_tree.specs.PlainStmt.{while_, do_while, for_, for_mine, return, break, continue, Statements}
use Rattle.sc_tree.specs.PlainStmt.{no_statements, statements, Arm, arm, Arms, no_arms, arms}
use Rattle.sc_tree.specs.PlainTyped.{TypedExpression}
use Rattle.sc_tree.specs.PlainTypedStmt as typed
use Rattle.sc_tree.specs.PlainTypedStmt.{TypedDeclared, TypedStatement, TypedArm}
use Rattle.sc_tree.specs.ViewTypedStmt.{typed_statements_of, typed_arms_of}
use Rattle.sc_tree.specs.declared.typed.Named.{Named}
use Rattle.sc_tree.specs.declared.typed.Named.TheVariants as named_as
use Rattle.sc_typing.specs.declared.places.PlaceKind.{PlaceKind}
use Rattle.sc_typing.specs.declared.scope.InScope.{InScope}
use Rattle.sc_typing.specs.Known.{Valued, Judgement, met_expression, expression_for}
use Rattle.sc_typing.specs.Places.{may_be_global}
use Rattle.sc_typing.specs.Scope.{Scope, innermost, depth, with_declared, left_block}
use Rattle.sc_typing.specs.Source.{Source}
use Rattle.sc_typing.specs.Typing.{judge}

-- what statements of a function see: the file, and the function's result
pub record Within : Type 0 where
  pub source : Source
  pub result : Ty

abbrev pub after_declared : Scope → Declared → Scope
after_declared s l = with_declared (Some l.name) l.ty s

abbrev pub after_locals : Scope → List Declared → Scope
after_locals s [] = s
after_locals s (l ∷ more) = after_locals (after_declared s l) more

-- The scope behind a statement. The locals of a block leave it at its end, and none of them shares its number.
abbrev mutual
  pub after : Scope → Statement → Scope
  after s (block all) = left_block (depth s) (after_all s all)
  after s (declare locals) = after_locals s locals
  after s (choose all) = after_arms s all
  after s (choose_else all rest) = after (after_arms s all) rest
  after s (while_ test body) = after s body
  after s (do_while body test) = after s body
  after s (for_ first test next body) = after s body
  after s (for_mine n bound body at line) = after s body
  after s empty = s
  after s (simple e) = s
  after s (split left right oneway at line) = s
  after s (return e at line) = s
  after s (break at) = s
  after s (continue at) = s

  pub after_all : Scope → Statements → Scope
  after_all s no_statements = s
  after_all s (statements one more) = after_all (after s one) more

  pub after_arms : Scope → Arms → Scope
  after_arms s no_arms = s
  after_arms s (arms (arm test body) more) = after_arms (after s body) more

-- the typed expression in the scope
unfoldable pub typed_value : Source → Scope → Expression → TypedExpression
typed_value c s e = expression_for (judge c s.locals 0 e)

abbrev pub typed_if : Source → Scope → Option Expression → Option TypedExpression
typed_if c s None = None
typed_if c s (Some e) = Some (typed_value c s e)

-- what a local begins with, which its own name does not see
abbrev pub typed_initial : Source → Scope → Ty → Option Expression → Option TypedExpression
typed_initial c s ty None = None
typed_initial c s ty (Some e) = Some (met_expression (judge c s.locals 0 e) ty)

unfoldable pub typed_local : Source → Scope → Declared → TypedDeclared
typed_local c s l = record { name = l.name; ty = l.ty; init = typed_initial c s l.ty l.init; at = l.at; line = l.line }

abbrev pub typed_locals : Source → Scope → List Declared → List TypedDeclared
typed_locals c s [] = []
typed_locals c s (l ∷ more) = typed_local c s l ∷ typed_locals c (after_declared s l) more

-- the right side of a put or a store becomes of the type of the global place; that of a get stays
abbrev pub sent_as : PlaceKind → Option Valued → Judgement → TypedExpression
sent_as place None right = expression_for right
sent_as place (Some v) right = if may_be_global place then met_expression right v.ty else expression_for right

abbrev pub sent_expression : Judgement → Judgement → TypedExpression
sent_expression left right = sent_as left.place left.known right

unfoldable pub typed_split : Judgement → Judgement → (oneway : Bool) → (at line : ℕ) → TypedStatement
typed_split l r oneway at line = typed.split (expression_for l) (sent_expression l r) oneway at line

abbrev pub local_number : Option InScope → Named
local_number None = named_as.Local 0
local_number (Some l) = named_as.Local l.number

-- the result becomes of the function's type
abbrev pub typed_result : Within → Scope → Option Expression → Option TypedExpression
typed_result w s None = None
typed_result w s (Some e) = Some (met_expression (judge w.source s.locals 0 e) w.result)

abbrev mutual
  pub typed_statement : Within → Scope → Statement → TypedStatement
  typed_statement w s (block all) = typed.block (typed_statements_of (typed_all w s all))
  typed_statement w s empty = typed.empty
  typed_statement w s (declare locals) = typed.declare (typed_locals w.source s locals)
  typed_statement w s (simple e) = typed.simple (typed_value w.source s e)
  typed_statement w s (split left right oneway at line) =
      typed_split (judge w.source s.locals 0 left) (judge w.source s.locals 0 right) oneway at line
  typed_statement w s (choose all) = typed.choose (typed_arms_of (typed_arms w s all))
  typed_statement w s (choose_else all rest) =
      typed.choose_else (typed_arms_of (typed_arms w s all)) (typed_statement w (after_arms s all) rest)
  typed_statement w s (while_ test body) = typed.while_ (typed_value w.source s test) (typed_statement w s body)
  typed_statement w s (do_while body test) =
      typed.do_while (typed_statement w s body) (typed_value w.source (after s body) test)
  typed_statement w s (for_ first test next body) =
      typed.for_ (typed_if w.source s first) (typed_if w.source s test) (typed_if w.source s next)
      (typed_statement w s body)
  typed_statement w s (for_mine n bound body at line) =
      typed.for_mine (local_number (innermost n s.locals)) (typed_value w.source s bound) (typed_statement w s body)
      at line
  typed_statement w s (return e at line) = typed.return (typed_result w s e) at line
  typed_statement w s (break at) = typed.break at
  typed_statement w s (continue at) = typed.continue at

  pub typed_all : Within → Scope → Statements → List TypedStatement
  typed_all w s no_statements = []
  typed_all w s (statements one more) = typed_statement w s one ∷ typed_all w (after s one) more

  pub typed_arms : Within → Scope → Arms → List TypedArm
  typed_arms w s no_arms = []
  typed_arms w s (arms (arm test body) more) =
      typed.arm (typed_value w.source s test) (typed_statement w s body) ∷ typed_arms w (after s body) more
