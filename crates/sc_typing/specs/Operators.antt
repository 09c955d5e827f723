-- What becomes of judged operands under an operator: the typed expression, where the rule on its operands is kept.
use Rattle.std.specs.Prelude.{◌+◌, ℤ, pos, Bool, true, false, ◌&&◌, Option, Some, None, List, [], ◌∷◌, ◌++◌}
use Rattle.std.specs.Option.{option_map}
use Rattle.std.specs.Ordering.{int_eq}
use Rattle.sc_base.specs.declared.operator.Binary.{Binary}
use Rattle.sc_base.specs.declared.operator.Unary.{Unary}
use Rattle.sc_base.specs.declared.operator.Unary.TheVariants as unary
use Rattle.sc_base.specs.declared.shape.Star.{Star}
use Rattle.sc_base.specs.declared.shape.Ty.{Ty}
use Rattle.sc_tree.specs.PlainTyped as typed
use Rattle.sc_tree.specs.PlainTyped.{TypedExpression, TypedForm}
use Rattle.sc_typing.specs.declared.known.Spot.{Spot}
use Rattle.sc_typing.specs.declared.places.PlaceKind.{PlaceKind}
use Rattle.sc_typing.specs.declared.places.PlaceKind.TheVariants as place
use Rattle.sc_typing.specs.Types.{int, pointer, element}
use Rattle.sc_typing.specs.Known.{Valued, valued, expression_of, meets, common, Judgement, judged, only, used}
use Rattle.sc_typing.specs.Places.{reached_by}
use Rattle.sc_typing.specs.Rules

abbrev pub int_value : TypedForm → Spot → Valued
int_value form spot = valued form int false spot

-- an int that is made of the expression
abbrev pub int_of : (TypedExpression → TypedForm) → Spot → Valued → Valued
int_of form spot v = int_value (form (expression_of v)) spot

unfoldable pub number_of : ℤ → Spot → Judgement
number_of n spot = judged spot place.NoPlace (Some (valued (typed.number n) int (int_eq n (pos 0)) spot))

unfoldable pub plus_of : Judgement → Spot → Judgement
plus_of e spot = judged spot place.NoPlace (option_map (int_of typed.plus spot) (only (Rules.int_kept e.known) e.known))

-- `!` asks for a value that can be tested, `-` and `~` for an int
abbrev pub prefix_kept : Unary → Option Valued → Bool
prefix_kept unary.Not known = Rules.test_kept known
prefix_kept unary.Minus known = Rules.int_kept known
prefix_kept unary.Invert known = Rules.int_kept known

unfoldable pub prefix_of : Unary → Judgement → Spot → Judgement
prefix_of op e spot =
    judged spot place.NoPlace (option_map (int_of (typed.prefix op) spot) (only (prefix_kept op e.known) e.known))

abbrev pub deref_value : Spot → Valued → Valued
deref_value spot v = valued (typed.deref (expression_of v)) (element v.ty) false spot

unfoldable pub deref_of : Judgement → Spot → Judgement
deref_of e spot =
    judged spot (reached_by e.known) (option_map (deref_value spot) (only (Rules.pointer_kept e.known) e.known))

-- the type of a pointer to the place
abbrev pub address_type : Ty → PlaceKind → Ty
address_type ty (place.Memory (Some star)) = pointer ty star
address_type ty _ = ty

abbrev pub address_value : Spot → PlaceKind → Valued → Valued
address_value spot at_place v = valued (typed.address (expression_of v)) (address_type v.ty at_place) false spot

unfoldable pub address_of : Judgement → Spot → Judgement
address_of e spot =
    judged spot place.NoPlace (option_map (address_value spot e.place) (only (Rules.address_kept e) e.known))

abbrev pub cast_type : List Star → Ty
cast_type stars = record { void = false; stars = stars }

abbrev pub cast_value : List Star → Spot → Valued → Valued
cast_value stars spot v = valued (typed.cast stars (expression_of v)) (cast_type stars) false spot

unfoldable pub cast_of : List Star → Judgement → Spot → Judgement
cast_of stars e spot =
    judged spot place.NoPlace
    (option_map (cast_value stars spot) (only (Rules.cast_kept (cast_type stars) e.known) e.known))

abbrev pub step_value : Bool → Spot → Valued → Valued
step_value is_up spot v = valued (typed.step is_up (expression_of v)) v.ty false spot

unfoldable pub step_of : Bool → Judgement → Spot → Judgement
step_of is_up e spot =
    judged spot place.NoPlace
    (option_map (step_value is_up spot) (only (Rules.place_kept true e.place e.known) e.known))

-- what is made of two expressions, where the rule on them is kept and both have a type
abbrev pub both_of : (Valued → Valued → Valued) → Option Valued → Option Valued → Option Valued
both_of f None right = None
both_of f (Some a) None = None
both_of f (Some a) (Some b) = Some (f a b)

abbrev pub set_value : Option Binary → Spot → Valued → Valued → Valued
set_value op spot a b = valued (typed.assign op (expression_of a) (expression_of b)) a.ty false spot

abbrev pub assigned_value : Spot → Valued → Valued → Valued
assigned_value spot a b = set_value None spot a (meets b a.ty)

unfoldable pub assign_of : Judgement → Judgement → Spot → Judgement
assign_of left right spot =
    judged spot place.NoPlace
    (both_of (assigned_value spot) (only (Rules.assignment_kept left right) left.known) (used right))

unfoldable pub compound_of : Binary → Judgement → Judgement → Spot → Judgement
compound_of op left right spot =
    judged spot place.NoPlace
    (both_of (set_value (Some op) spot) (only (Rules.update_kept op left right) left.known) (used right))

-- `=` where there is no operator, and else a compound assignment
abbrev pub set_of : Option Binary → Judgement → Judgement → Spot → Judgement
set_of None left right spot = assign_of left right spot
set_of (Some op) left right spot = compound_of op left right spot

abbrev pub choice_value : TypedExpression → Spot → Ty → Valued → Valued → Valued
choice_value test spot ty a b =
    valued (typed.choice test (expression_of (meets a ty)) (expression_of (meets b ty))) ty false spot

abbrev pub chosen_value : Spot → Valued → Valued → Valued → Valued
chosen_value spot t a b = choice_value (expression_of t) spot (common a.ty a.is_null b.ty) a b

abbrev pub all_of : (Valued → Valued → Valued → Valued) → Option Valued → Option Valued →
    Option Valued → Option Valued
all_of f None on off = None
all_of f (Some t) on off = both_of (f t) on off

unfoldable pub choice_of : Judgement → Judgement → Judgement → Spot → Judgement
choice_of test on off spot =
    judged spot place.NoPlace
    (all_of (chosen_value spot)
    (only (Rules.test_kept test.known && Rules.arms_kept on.known off.known) test.known) (used on) (used off))

-- the operands of `&&` or `||` so far, and whether each has a type
pub record Gathered : Type 0 where
  pub all : List TypedExpression
  pub whole : Bool

abbrev pub gathered : Gathered → Option Valued → Gathered
gathered g None = record { all = g.all; whole = false }
gathered g (Some v) = record { all = g.all ++ expression_of v ∷ []; whole = g.whole }

unfoldable pub gather : Gathered → Judgement → Gathered
gather g j = gathered g (only (Rules.test_kept j.known) j.known)
