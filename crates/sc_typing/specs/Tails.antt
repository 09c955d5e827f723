-- Postfix expressions from the left, and what each index, `++` or `--` makes of them.
use Rattle.std.specs.Prelude.{ℕ, ◌+◌, ◌-◌, Bool, true, false, ◌&&◌, Option, Some, None, List, [], ◌∷◌, ◌++◌, nat_lt}
use Rattle.std.specs.Prelude.{if◌then◌else◌}
use Rattle.std.specs.Option.{option_map}
use Rattle.sc_base.specs.declared.shape.Ty.{Ty}
use Rattle.sc_tree.specs.PlainTyped as typed
use Rattle.sc_tree.specs.PlainTyped.{TypedExpression, TypedTail}
use Rattle.sc_tree.specs.ViewTyped.{typed_tails_of}
use Rattle.sc_typing.specs.declared.known.Spot.{Spot}
use Rattle.sc_typing.specs.declared.places.PlaceKind.{PlaceKind}
use Rattle.sc_typing.specs.declared.places.PlaceKind.TheVariants as place
use Rattle.sc_typing.specs.Types.{element}
use Rattle.sc_typing.specs.Known.{spot_at, Valued, valued, expression_of, Judgement, only, used}
use Rattle.sc_typing.specs.Places.{reached_by}
use Rattle.sc_typing.specs.Rules

-- a postfix expression so far: its first part and what stands behind it, its type, and whether it is null
pub record Tailed : Type 0 where
  pub first : TypedExpression
  pub rest : List TypedTail
  pub ty : Ty
  pub is_null : Bool

-- with which place it is, and how many of the next indices belong to its object
pub record Tailing : Type 0 where
  pub place : PlaceKind
  pub skip : ℕ
  pub tailed : Option Tailed

abbrev pub first_tail : Valued → Tailed
first_tail v = record { first = expression_of v; rest = []; ty = v.ty; is_null = v.is_null }

unfoldable pub begin_tails : Judgement → Tailing
begin_tails j =
    record { place = j.place; skip = j.taken; tailed = option_map first_tail (used j) }

abbrev pub value_so_far : Tailed → Valued
value_so_far t = record { expression = t.first; ty = t.ty; is_null = t.is_null; spot = spot_at 0 0 }

-- an index of the object itself leaves the type and the place that the object is with all of them
abbrev pub with_own_index : (at line : ℕ) → Tailed → Valued → Tailed
with_own_index at line t v =
    record {
      first = t.first;
      rest = t.rest ++ typed.index (expression_of v) at line ∷ [];
      ty = t.ty;
      is_null = false;
    }

abbrev pub indexed : (at line : ℕ) → Tailed → TypedExpression → Tailed
indexed at line t e =
    record { first = t.first; rest = t.rest ++ typed.index e at line ∷ []; ty = element t.ty; is_null = false }

abbrev pub with_index : (at line : ℕ) → Tailed → Valued → Tailed
with_index at line t v = indexed at line t (expression_of v)

abbrev pub tail_with : (Tailed → Valued → Tailed) → Option Tailed → Option Valued → Option Tailed
tail_with f None v = None
tail_with f (Some t) v = option_map (f t) v

unfoldable pub own_index : Tailing → Judgement → (at line : ℕ) → Tailing
own_index t index at line =
    record {
      place = t.place;
      skip = t.skip - 1;
      tailed = tail_with (with_own_index at line) t.tailed (only (Rules.index_kept index.known) index.known);
    }

-- whether what stands before an index that is not the object's own is a pointer
abbrev pub pointed : Tailing → Bool
pointed t = Rules.pointer_kept (option_map value_so_far t.tailed)

unfoldable pub pointer_index : Tailing → Judgement → (at line : ℕ) → Tailing
pointer_index t index at line =
    record {
      place = reached_by (option_map value_so_far t.tailed);
      skip = 0;
      tailed = tail_with (with_index at line) t.tailed (only (Rules.index_kept index.known && pointed t) index.known);
    }

unfoldable pub index_tail : Tailing → Judgement → (at line : ℕ) → Tailing
index_tail t index at line = if nat_lt 0 t.skip then own_index t index at line else pointer_index t index at line

abbrev pub with_step : TypedTail → Tailed → Tailed
with_step tail t = record { first = t.first; rest = t.rest ++ tail ∷ []; ty = t.ty; is_null = false }

abbrev pub kept_tail : Bool → Option Tailed → Option Tailed
kept_tail kept tailed = if kept then tailed else None

abbrev pub step_of_tail : Bool → (at line : ℕ) → TypedTail
step_of_tail is_up at line = if is_up then typed.up at line else typed.down at line

-- whether what stands before `++` or `--` can be stepped
abbrev pub stepped : Tailing → Bool
stepped t = Rules.place_kept true t.place (option_map value_so_far t.tailed)

unfoldable pub step_tail : Tailing → Bool → (at line : ℕ) → Tailing
step_tail t is_up at line =
    record {
      place = place.NoPlace;
      skip = 0;
      tailed = option_map (with_step (step_of_tail is_up at line)) (kept_tail (stepped t) t.tailed);
    }

abbrev pub postfix_value : Spot → Tailed → Valued
postfix_value spot t = valued (typed.postfix t.first (typed_tails_of t.rest)) t.ty t.is_null spot
