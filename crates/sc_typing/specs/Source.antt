-- What the names at file scope mean: the declared objects and function definitions, and the functions of the
-- library of Split-C (Culler and others, 1995).
use Rattle.std.specs.Prelude.{ℕ, suc, ◌+◌, ◌==◌, ◌||◌, ◌&&◌, Bool, true, false, Option, Some, None, List, [], ◌∷◌}
use Rattle.std.specs.Prelude.{length, slice_get, find, nat_eq, nat_lt, codes, position, if◌then◌else◌}
use Rattle.std.specs.Option.{option_map, option_and_then, option_map_or}
use Rattle.std.specs.Str.{bytes_eq}
use Rattle.sc_base.specs.declared.shape.Star.{Star}
use Rattle.sc_base.specs.declared.shape.Star.TheVariants.{Local, Global, Spread}
use Rattle.sc_base.specs.declared.shape.Ty.{Ty}
use Rattle.sc_base.specs.declared.shape.Bound.{Bound}
use Rattle.sc_base.specs.declared.shape.Shape.{Shape}
use Rattle.sc_tree.specs.Names.{Text}
use Rattle.sc_typing.specs.declared.library.Library.{Library}
use Rattle.sc_typing.specs.declared.library.Library.TheVariants as lib
use Rattle.sc_typing.specs.declared.file.Definition.{Definition}
use Rattle.sc_typing.specs.declared.file.Meaning.{Meaning}
use Rattle.sc_typing.specs.declared.file.Meaning.TheVariants as means
use Rattle.sc_typing.specs.Types.{pointer}

-- the objects and the function definitions in text order, and the names and formats of the source
pub record Source : Type 0 where
  pub objects : List Shape
  pub definitions : List Definition
  pub names : List Text
  pub texts : List Text

abbrev pub library_text : Library → Text
library_text lib.Printf = codes "printf"
library_text lib.Sync = codes "sync"
library_text lib.Barrier = codes "barrier"
library_text lib.AllStoreSync = codes "all_store_sync"
library_text lib.ToGlobal = codes "toglobal"
library_text lib.ToProc = codes "toproc"
library_text lib.ToLocal = codes "tolocal"
library_text lib.BulkRead = codes "bulk_read"
library_text lib.BulkWrite = codes "bulk_write"
library_text lib.BulkGet = codes "bulk_get"
library_text lib.BulkPut = codes "bulk_put"
library_text lib.BulkStore = codes "bulk_store"

abbrev pub libraries : List Library
libraries =
    lib.Printf ∷ lib.Sync ∷ lib.Barrier ∷ lib.AllStoreSync ∷ lib.ToGlobal ∷ lib.ToProc ∷ lib.ToLocal ∷
    lib.BulkRead ∷
    lib.BulkWrite ∷ lib.BulkGet ∷ lib.BulkPut ∷ lib.BulkStore ∷ []

-- the function of the library that the text names
unfoldable pub library_of : Text → Option Library
library_of text = find (λ l. bytes_eq text (library_text l)) libraries

unfoldable pub library_named : Source → ℕ → Option Library
library_named source name = option_and_then library_of (slice_get source.names name)

abbrev pub object_called : Source → ℕ → Option ℕ
object_called source name = position (λ o. nat_eq o.name name) source.objects

abbrev pub definition_called : Source → ℕ → Option ℕ
definition_called source name = position (λ d. nat_eq d.name name) source.definitions

-- the token of the declaration
abbrev pub object_token : Source → ℕ → ℕ
object_token source object = option_map_or (λ o. o.at) (slice_get source.objects object) 0

abbrev pub definition_token : Source → ℕ → ℕ
definition_token source function = option_map_or (λ d. d.at) (slice_get source.definitions function) 0

-- of an object and a function with one name the one that is declared first
abbrev pub declared_first : Source → Option ℕ → Option ℕ → Meaning
declared_first source None None = means.Nothing
declared_first source (Some object) None = means.Object object
declared_first source None (Some function) = means.Function function
declared_first source (Some object) (Some function) =
    if nat_lt (object_token source object) (definition_token source function)
    then means.Object object
    else means.Function function

abbrev pub library_first : Option Library → Meaning → Meaning
library_first (Some library) meaning = means.Library library
library_first None meaning = meaning

-- what a name that no local has means
unfoldable pub meaning_of : Source → ℕ → Meaning
meaning_of source name =
    library_first (library_named source name)
    (declared_first source (object_called source name) (definition_called source name))

-- How many `%d` a format has, if in pairs taken from the left each `%` is followed by `d` or `%`. The second is that
-- of what stands behind such a `%`.
abbrev mutual
  pub directives : Text → Option ℕ
  directives [] = Some 0
  directives (b ∷ more) = if b == 37 then directives_behind more else directives more

  pub directives_behind : Text → Option ℕ
  directives_behind [] = None
  directives_behind (b ∷ more) =
      if b == 100 then option_map (λ count. count + 1) (directives more)
      else if b == 37 then directives more
      else None

unfoldable pub directives_of : Source → ℕ → Option ℕ
directives_of source format = option_and_then directives (slice_get source.texts format)

abbrev pub has_bounds : List Bound → Bool
has_bounds [] = false
has_bounds (_ ∷ _) = true

-- the last star of a pointer to one of the object's cells
abbrev pub object_star : Shape → Star
object_star object = if object.spread then (if has_bounds object.right then Global else Spread) else Local

abbrev pub dimensions : Shape → ℕ
dimensions object = length object.left + length object.right

-- An object stands with all its indices; or, if it is an array, with exactly the last missing, where it is a
-- pointer to the first cell that remains. A spread array with two or more left dimensions and no right one stands
-- with all its indices only.
unfoldable pub has_its_indices : Shape → ℕ → Bool
has_its_indices object taken =
    (taken == dimensions object)
    || ((taken + 1 == dimensions object)
    && (if object.spread then has_bounds object.right || (dimensions object == 1) else true))

-- its type with so many indices
unfoldable pub object_type : Shape → ℕ → Ty
object_type object taken = if taken == dimensions object then object.ty else pointer object.ty (object_star object)
