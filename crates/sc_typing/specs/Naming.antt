-- What names, constants and calls of names mean: judged names and constants, and what is called with which format.
use Rattle.std.specs.Prelude.{ℕ, ◌+◌, Bool, true, false, Option, Some, None, List, min, slice_get, if◌then◌else◌}
use Rattle.sc_base.specs.declared.shape.Star.TheVariants as star
use Rattle.sc_base.specs.declared.shape.Shape.{Shape}
use Rattle.sc_tree.specs.Plain.{Expression, expression, format, Expressions, no_expressions, expressions, index, Tails}
use Rattle.sc_tree.specs.Plain.{no_tails, tails}
use Rattle.sc_tree.specs.PlainTyped as typed
use Rattle.sc_tree.specs.PlainTyped.{TypedForm}
use Rattle.sc_tree.specs.declared.typed.Named.TheVariants as named_as
use Rattle.sc_typing.specs.declared.calls.Given.{Given}
use Rattle.sc_typing.specs.declared.file.Meaning.{Meaning}
use Rattle.sc_typing.specs.declared.file.Meaning.TheVariants as means
use Rattle.sc_typing.specs.declared.library.Library.TheVariants as lib
use Rattle.sc_typing.specs.declared.known.Spot.{Spot}
use Rattle.sc_typing.specs.declared.places.PlaceKind.TheVariants as place
use Rattle.sc_typing.specs.declared.scope.InScope.{InScope}
use Rattle.sc_typing.specs.Types.{int, pointer}
use Rattle.sc_typing.specs.Known.{Valued, valued, Judgement, judged}
use Rattle.sc_typing.specs.Scope.{innermost}
use Rattle.sc_typing.specs.Source.{Source, meaning_of, dimensions, has_its_indices, object_type}
use Rattle.sc_typing.specs.Places.{object_place}
use Rattle.sc_typing.specs.Operators.{int_value}

-- An object stands with as many of its indices as it may.
abbrev pub object_value : (o taken : ℕ) → Shape → Spot → Valued
object_value o taken object spot =
    valued (typed.name (named_as.Object o)) (object_type object taken) false spot

abbrev pub object_if : Bool → Valued → Option Valued
object_if kept v = if kept then Some v else None

abbrev pub object_with : (o taken : ℕ) → Shape → Spot → Judgement
object_with o taken object spot =
    record {
      start = spot.start;
      place = object_place object taken;
      taken = taken;
      known = object_if (has_its_indices object taken) (object_value o taken object spot);
    }

abbrev pub object_named : (o indices : ℕ) → Option Shape → Spot → Judgement
object_named o indices None spot = judged spot place.Unknown None
object_named o indices (Some object) spot = object_with o (min indices (dimensions object)) object spot

abbrev pub local_value : InScope → Spot → Valued
local_value l spot = valued (typed.name (named_as.Local l.number)) l.ty false spot

-- what a name means that no local has
abbrev pub meaning_named : Source → (indices : ℕ) → Meaning → Spot → Judgement
meaning_named c indices (means.Object o) spot = object_named o indices (slice_get c.objects o) spot
meaning_named c indices _ spot = judged spot place.Unknown None

abbrev pub name_in : Source → (indices n : ℕ) → Spot → Option InScope → Judgement
name_in c indices n spot (Some l) = judged spot place.Local (Some (local_value l spot))
name_in c indices n spot None = meaning_named c indices (meaning_of c n) spot

unfoldable pub named : Source → List InScope → (indices n : ℕ) → Spot → Judgement
named c locals indices n spot = name_in c indices n spot (innermost n locals)

abbrev pub constant : TypedForm → Spot → Judgement
constant form spot = judged spot place.NoPlace (Some (int_value form spot))

abbrev pub null_constant : Spot → Judgement
null_constant spot = judged spot place.NoPlace (Some (valued typed.null (pointer int star.Local) true spot))

abbrev pub leading : Tails → ℕ
leading no_tails = 0
leading (tails (index _ _ _) more) = leading more + 1
leading (tails _ more) = 0

abbrev pub is_printf : Meaning → Bool
is_printf (means.Library lib.Printf) = true
is_printf _ = false

-- what a called name means, where no local has it
abbrev pub unless_local : Source → ℕ → Option InScope → Option Meaning
unless_local c n (Some _) = None
unless_local c n None = Some (meaning_of c n)

unfoldable pub called_meaning : Source → List InScope → ℕ → Option Meaning
called_meaning c locals n = unless_local c n (innermost n locals)

-- whether the call is one of `printf`, whose first argument is a format
abbrev pub printing : Option Meaning → Bool
printing None = false
printing (Some meaning) = is_printf meaning

abbrev pub given_in : Expression → Option Given
given_in (expression (format f) start at line) = Some (record { format = f; at = at })
given_in (expression _ start at line) = None

abbrev pub first_given : Expressions → Option Given
first_given no_expressions = None
first_given (expressions e _) = given_in e

abbrev pub given_if : Bool → Option Given → Option Given
given_if format_first given = if format_first then given else None

-- the format that the call prints, if it is one of `printf` whose first argument is a format
abbrev pub format_given : Option Meaning → Expressions → Option Given
format_given meaning args = given_if (printing meaning) (first_given args)
