-- What is known of an expression that has a type, and when it fits another type.
use Rattle.std.specs.Prelude.{ℕ, Bool, true, false, ◌&&◌, ◌||◌, Option, Some, None, List, [], if◌then◌else◌}
use Rattle.std.specs.Option.{option_map}
use Rattle.sc_base.specs.declared.shape.Ty.{Ty}
use Rattle.sc_tree.specs.PlainTyped.{TypedExpression, typed_expression, TypedForm, null, convert}
use Rattle.sc_typing.specs.declared.known.Spot.{Spot}
use Rattle.sc_typing.specs.declared.places.PlaceKind.{PlaceKind}
use Rattle.sc_typing.specs.Types.{is_pointer, same_type, widens, int}

-- one token
abbrev pub spot_at : (at line : ℕ) → Spot
spot_at at line = record { start = at; at = at; line = line }

-- an expression with its type, and whether it is `NULL` or the number 0
pub record Valued : Type 0 where
  pub expression : TypedExpression
  pub ty : Ty
  pub is_null : Bool
  pub spot : Spot

abbrev pub valued : TypedForm → Ty → (is_null : Bool) → Spot → Valued
valued form ty is_null spot =
    record {
      expression = typed_expression form ty spot.start spot.at spot.line;
      ty = ty;
      is_null = is_null;
      spot = spot;
    }

abbrev pub expression_of : Valued → TypedExpression
expression_of v = v.expression

-- A type fits another where they are equal, where a local or spread pointer meets a global one to the same type,
-- or where `NULL` or the number 0 meets a pointer type.
abbrev pub fits : Ty → (is_null : Bool) → Ty → Bool
fits from is_null to = same_type from to || (is_null && is_pointer to) || widens from to

-- The value as one of the type that it fits. `NULL` and 0 become null of that type, and a pointer is converted
-- where it becomes global.
abbrev pub meets : Valued → Ty → Valued
meets v ty =
    if same_type v.ty ty then v
    else if v.is_null then valued null ty true v.spot
    else valued (convert ty (expression_of v)) ty false v.spot

-- a type to which two values fit, where one fits the other's
abbrev pub common : Ty → (is_null : Bool) → Ty → Ty
common left is_null right = if fits left is_null right then right else left

-- what a rule sees of an expression: its first token; which place it is, as its form and the declarations tell; how
-- many of the indices behind it belong to it; and itself, where it has a type
pub record Judgement : Type 0 where
  pub start : ℕ
  pub place : PlaceKind
  pub taken : ℕ
  pub known : Option Valued

abbrev pub judged : Spot → PlaceKind → Option Valued → Judgement
judged spot place known = record { start = spot.start; place = place; taken = 0; known = known }

-- the value of an operand, where it is no void value and the rule on it is kept
abbrev pub only : (kept : Bool) → Option Valued → Option Valued
only kept None = None
only kept (Some v) = if v.ty.void then None else if kept then Some v else None

abbrev pub used : Judgement → Option Valued
used j = only true j.known

-- whether it has a value that can be used
abbrev pub has_value : Option Valued → Bool
has_value None = false
has_value (Some v) = if v.ty.void then false else true

abbrev pub is_used : Judgement → Bool
is_used j = has_value j.known

-- what stands for the expression in the tree; where it has no type a rule is broken, and the tree is not asked for
abbrev pub standing_in : ℕ → Option Valued → TypedExpression
standing_in start (Some v) = expression_of v
standing_in start None = typed_expression null int start start 0

abbrev pub expression_for : Judgement → TypedExpression
expression_for j = standing_in j.start j.known

-- the value as one of the type, where it has one itself
abbrev pub met_known : Option Valued → Ty → Option Valued
met_known known ty = option_map (λ v. meets v ty) known

abbrev pub met_expression : Judgement → Ty → TypedExpression
met_expression j ty = standing_in j.start (met_known j.known ty)
