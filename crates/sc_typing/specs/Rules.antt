-- The typing rules, each true where it is kept. An expression in which a rule is broken has no type; a rule is not
-- broken by that, so what it says of a type holds where there is none. Rules 19, 22 and 23, on arguments, are in Calls.
use Rattle.std.specs.Prelude.{ℕ, Bool, true, false, ◌&&◌, ◌||◌, min, Option, Some, None, if◌then◌else◌}
use Rattle.sc_base.specs.declared.operator.Binary.{Binary}
use Rattle.sc_base.specs.declared.operator.Binary.TheVariants as op
use Rattle.sc_base.specs.declared.shape.Shape.{Shape}
use Rattle.sc_base.specs.declared.shape.Ty.{Ty}
use Rattle.sc_typing.specs.Types.{element, same_type, is_int, is_pointer, is_wide, last_star}
use Rattle.sc_typing.specs.Source.{dimensions, has_its_indices}
use Rattle.sc_typing.specs.declared.places.PlaceKind.{PlaceKind}
use Rattle.sc_typing.specs.Known.{Valued, Judgement, fits}
use Rattle.sc_typing.specs.Places.{may_be_memory, may_be_local, may_be_set, may_be_global, may_be_other}

abbrev pub opposite : Bool → Bool
opposite true = false
opposite false = true

abbrev pub passes : (Valued → Bool) → Option Valued → Bool
passes p None = true
passes p (Some v) = p v

abbrev pub are_int : Option Valued → Bool
are_int known = passes (λ v. is_int v.ty) known

-- an int or a pointer, and no void value
abbrev pub are_scalar : Option Valued → Bool
are_scalar known = passes (λ v. opposite v.ty.void) known

abbrev pub are_pointers : Option Valued → Bool
are_pointers known = passes (λ v. is_pointer v.ty) known

abbrev pub fit : Option Valued → Ty → Bool
fit known ty = passes (λ v. fits v.ty v.is_null ty) known

-- Rule 7: an object has as many indices as it may, of those that stand behind its name.
abbrev pub indices_kept : Shape → (indices : ℕ) → Bool
indices_kept object indices = has_its_indices object (min indices (dimensions object))

-- Rule 8: an index is an int.
abbrev pub index_kept : Option Valued → Bool
index_kept index = are_int index

-- Rule 9: the operands of `* / % & | ^ ~ << >> < <= > >=`, prefix `-` and prefix `+` are ints.
abbrev pub int_kept : Option Valued → Bool
int_kept operand = are_int operand

-- Rule 10: the operands of `==` and `!=` are two ints, or the type of one fits the pointer type of the other.
abbrev pub comparable : Valued → Valued → Bool
comparable a b =
    (is_int a.ty && is_int b.ty)
    || (is_pointer b.ty && fits a.ty a.is_null b.ty)
    || (is_pointer a.ty && fits b.ty b.is_null a.ty)

abbrev pub comparison_kept : Option Valued → Option Valued → Bool
comparison_kept left right = passes (λ a. passes (λ b. comparable a b) right) left

-- Rule 11: `+` and `-` have two ints, or a pointer and an int, in this order.
abbrev pub sum_kept : Option Valued → Option Valued → Bool
sum_kept left right = are_scalar left && are_int right

-- Rule 12: a test, and an operand of `!`, `&&` and `||`, is an int or a pointer.
abbrev pub test_kept : Option Valued → Bool
test_kept test = are_scalar test

-- Rule 13: the operand of `*`, and what is indexed, is a pointer or an array.
abbrev pub pointer_kept : Option Valued → Bool
pointer_kept pointed = are_pointers pointed

-- Rule 14: the operand of `&` is a memory place.
abbrev pub address_kept : Judgement → Bool
address_kept e = may_be_memory e.place

-- the right side fits the type of the left one
abbrev pub fit_left : Judgement → Judgement → Bool
fit_left left right = passes (λ v. fit right.known v.ty) left.known

-- Rule 15: the left side of `=` is a local or a memory place, and the right side fits its type.
abbrev pub assignment_kept : Judgement → Judgement → Bool
assignment_kept left right = may_be_set left.place && fit_left left right

-- Rule 16: the left side of a compound assignment, `++` or `--` is a local or memory place of type int, or for
-- `+=`, `-=`, `++` and `--` of a pointer type. The right side is an int.
abbrev pub place_kept : (moves : Bool) → PlaceKind → Option Valued → Bool
place_kept moves place known = may_be_set place && passes (λ v. is_int v.ty || (moves && is_pointer v.ty)) known

abbrev pub moves : Binary → Bool
moves op.Add = true
moves op.Sub = true
moves _ = false

abbrev pub update_kept : Binary → Judgement → Judgement → Bool
update_kept op left right = place_kept (moves op) left.place left.known && are_int right.known

-- Rule 17: in `:=`, either the left side is a global place and the right side fits its type, or the left side is a
-- local or another memory place and the right side is a global place of the same type.
abbrev pub same_types : Judgement → Judgement → Bool
same_types left right = passes (λ v. passes (λ w. same_type w.ty v.ty) right.known) left.known

abbrev pub puts : Judgement → Judgement → Bool
puts left right = may_be_global left.place && fit_left left right

abbrev pub gets : Judgement → Judgement → Bool
gets left right = may_be_other left.place && may_be_global right.place && same_types left right

abbrev pub split_assignment_kept : Judgement → Judgement → Bool
split_assignment_kept left right = puts left right || gets left right

-- Rule 18: in `:-`, the left side is a global place and the right side fits its type.
abbrev pub store_kept : Judgement → Judgement → Bool
store_kept left right = puts left right

-- Rule 20: `return` has a value that fits exactly where the result is not void. A function of result int may also
-- return without one.
abbrev pub return_kept : Ty → Option Judgement → Bool
return_kept result None = result.void || is_int result
return_kept result (Some value) = opposite result.void && fit value.known result

-- Rule 21: `break` and `continue` stand in a loop.
abbrev pub loop_kept : (looped : Bool) → Bool
loop_kept looped = looped

-- Rule 24, of values: a void value is used only as a whole statement.
abbrev pub value_kept : Option Valued → Bool
value_kept used = are_scalar used

-- Rule 24, of `?:`: one arm fits the type of the other.
abbrev pub arms_kept : Option Valued → Option Valued → Bool
arms_kept on off =
    passes (λ a. passes (λ b. fits a.ty a.is_null b.ty || fits b.ty b.is_null a.ty) off) on

-- Rule 24, of casts: a cast has no star and an int operand, or ends in `*global` or `*spread` and has an operand of a
-- pointer type with the same element type.
abbrev pub cast_kept : Ty → Option Valued → Bool
cast_kept to operand =
    if is_pointer to
    then is_wide (last_star to) && passes (λ v. is_pointer v.ty && same_type (element v.ty) (element to)) operand
    else are_int operand

-- Rule 24, of `for_my_1d`: its name is an int local, and its bound an int.
abbrev pub turns_kept : Judgement → Bool
turns_kept name = may_be_local name.place && are_int name.known

abbrev pub bound_kept : Option Valued → Bool
bound_kept bound = are_int bound
