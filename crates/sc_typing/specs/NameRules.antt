-- The typing rules on names, each true where it is kept.
use Rattle.std.specs.Prelude.{ℕ, Bool, true, false, ◌&&◌, ◌||◌, Option, Some, None, List, [], ◌∷◌, find, slice_get}
use Rattle.std.specs.Prelude.{codes, nat_eq, nat_lt}
use Rattle.std.specs.Option.{option_map_or}
use Rattle.std.specs.List.{list_any}
use Rattle.std.specs.Str.{bytes_eq}
use Rattle.std.specs.Cmp.Lexicographic.{pointwise}
use Rattle.sc_base.specs.declared.shape.Ty.{Ty}
use Rattle.sc_tree.specs.Names.{Text}
use Rattle.sc_typing.specs.declared.file.Definition.{Definition}
use Rattle.sc_typing.specs.declared.file.Meaning.{Meaning}
use Rattle.sc_typing.specs.declared.file.Meaning.TheVariants as means
use Rattle.sc_typing.specs.declared.library.Library.{Library}
use Rattle.sc_typing.specs.declared.scope.InScope.{InScope}
use Rattle.sc_typing.specs.Types.{same_type, is_int}
use Rattle.sc_typing.specs.Scope.{Scope, innermost, declared_since}
use Rattle.sc_typing.specs.Source.{Source, library_named, meaning_of}
use Rattle.sc_typing.specs.Rules.{opposite}

-- Rule 1, of locals and parameters: no name is declared twice in one scope, which begins behind the first `from`
-- locals.
abbrev pub declared_once : (from n : ℕ) → Scope → Bool
declared_once from n s = opposite (declared_since from n s)

-- Rule 1, of the file: no object or function definition before the token has the name.
abbrev pub has_earlier_object : Source → (n at : ℕ) → Bool
has_earlier_object c n at = list_any (λ o. nat_eq o.name n && nat_lt o.at at) c.objects

abbrev pub has_earlier_definition : Source → (n at : ℕ) → Bool
has_earlier_definition c n at = list_any (λ d. nat_eq d.name n && nat_lt d.at at) c.definitions

abbrev pub is_earlier : Source → (n at : ℕ) → Bool
is_earlier c n at = has_earlier_object c n at || has_earlier_definition c n at

abbrev pub declared_once_in_file : Source → (n at : ℕ) → Bool
declared_once_in_file c n at = opposite (is_earlier c n at)

-- Rule 2: a used name is declared: as a local in scope, in the file, or by the library.
abbrev pub is_something : Meaning → Bool
is_something means.Nothing = false
is_something _ = true

abbrev pub is_local : Option InScope → Bool
is_local None = false
is_local (Some _) = true

abbrev pub is_declared : Source → List InScope → (n : ℕ) → Bool
is_declared c locals n = is_local (innermost n locals) || is_something (meaning_of c n)

-- Rule 3: a name of the library is not declared.
abbrev pub is_library : Option Library → Bool
is_library None = false
is_library (Some _) = true

abbrev pub not_of_library : Source → (n : ℕ) → Bool
not_of_library c n = opposite (is_library (library_named c n))

-- Rule 4: `splitc_main` has a definition without parameters, with result int or void.
abbrev pub is_main : List Text → ℕ → Bool
is_main names n = option_map_or (λ text. bytes_eq text (codes "splitc_main")) (slice_get names n) false

abbrev pub main_definition : Source → Option Definition
main_definition c = find (λ d. is_main c.names d.name) c.definitions

abbrev pub no_types : List Ty → Bool
no_types [] = true
no_types (_ ∷ _) = false

abbrev pub main_kept : Option Definition → Bool
main_kept None = false
main_kept (Some d) = no_types d.params && (d.result.void || is_int d.result)

-- Rule 5, of prototypes: the first definition of the name has the same result and parameter types.
abbrev pub first_called : Source → ℕ → Option Definition
first_called c n = find (λ d. nat_eq d.name n) c.definitions

abbrev pub same_signature : Definition → Definition → Bool
same_signature a b = same_type a.result b.result && pointwise same_type a.params b.params

abbrev pub agrees : Definition → Option Definition → Bool
agrees f None = false
agrees f (Some d) = same_signature d f

abbrev pub prototype_kept : Source → Definition → Bool
prototype_kept c prototype = agrees prototype (first_called c prototype.name)

-- Rule 5, of parameters: each parameter of a definition has a name.
abbrev pub has_name : Option ℕ → Bool
has_name None = false
has_name (Some _) = true

abbrev pub parameter_kept : (defined : Bool) → Option ℕ → Bool
parameter_kept defined name = opposite defined || has_name name

-- Rule 6, of names: the name of a function stands only in a call.
abbrev pub is_function : Meaning → Bool
is_function (means.Function _) = true
is_function (means.Library _) = true
is_function _ = false

abbrev pub name_kept : Source → List InScope → (n : ℕ) → Bool
name_kept c locals n = is_local (innermost n locals) || opposite (is_function (meaning_of c n))

-- Rule 6, of calls: what a call names is no local and no object.
abbrev pub is_object : Meaning → Bool
is_object (means.Object _) = true
is_object _ = false

abbrev pub call_kept : Source → List InScope → (n : ℕ) → Bool
call_kept c locals n = opposite (is_local (innermost n locals) || is_object (meaning_of c n))
