-- What is noted of the objects, parameters and functions of a file is exactly what they break.
use Rattle.std.proofs.Common.{◌≡◌, refl, sym, subst, ℕ, arith, Bool, true, false, List, [], ◌∷◌, length, Option, Some}
use Rattle.std.proofs.Common.{None, ◌⊎◌, inl, inr}
use Rattle.std.specs.List.{Contains}
use Rattle.std.proofs.lemmas.List.Elements.{Contains-append_right, Contains-append_cases}
use Rattle.sc_base.specs.declared.shape.Shape.{Shape}
use Rattle.sc_tree.specs.declared.tree.Param.{Param}
use Rattle.sc_tree.specs.PlainStmt.{Statements}
use Rattle.sc_tree.specs.PlainTree.{PlainFunction, PlainTree}
use Rattle.sc_typing.specs.declared.notes.Breach.{Breach}
use Rattle.sc_typing.specs.declared.rule.Rule.{Rule}
use Rattle.sc_typing.specs.declared.rule.Rule.TheVariants as rules
use Rattle.sc_typing.specs.Scope.{Scope, nothing_in_scope}
use Rattle.sc_typing.specs.Source.{Source}
use Rattle.sc_typing.specs.NameRules
use Rattle.sc_typing.specs.Program.{main_token, definition_of, name_token, after_parameter, within, body_scope}
use Rattle.sc_typing.proofs.ExpressionNotes.{Noting}
use Rattle.sc_typing.proofs.ProgramNotes.{note_object_name, note_objects, note_parameter_name, note_parameter}
use Rattle.sc_typing.proofs.ProgramNotes.{note_parameters, note_body, note_function, note_functions, note_main}
use Rattle.sc_typing.proofs.ProgramNotes.{note_file}
use Rattle.sc_typing.specs.BrokenExpressions.{breach}
use Rattle.sc_typing.specs.Broken.{InParameters, FunctionBreaks, FileBreaks}
use Rattle.sc_typing.proofs.Exactly.{Exact, Fails, fails, Never, Either, the_one, exact-nothing, exact-unless}
use Rattle.sc_typing.proofs.Exactly.{exact-then, exact-as}
use Rattle.sc_typing.proofs.LocalsNoted.{DeclaredFails, exact-declared, SomeStatement, some_statement}
use Rattle.sc_typing.proofs.StatementsNoted.{exact-all}

fails_at : {kept : Bool} {at : ℕ} {rule : Rule} {b : Breach} → kept ≡ false → b ≡ breach at rule → Fails kept at rule b
fails_at {kept = kept} {at = at} {rule = rule} h e = subst (λ (x : Breach). Fails kept at rule x) (sym e) (fails h)

-- ---- members of a list

pub no_member : {X : Type 0} (x : X) → Contains [] x → ⊥
no_member x (k, lt, e) = absurd (omega arith)

pub first_member : {X : Type 0} (x : X) (xs : List X) → Contains (x ∷ xs) x
first_member x xs = (0, omega arith, refl)

pub more_member : {X : Type 0} (x y : X) (xs : List X) → Contains xs y → Contains (x ∷ xs) y
more_member x y xs h = Contains-append_right (x ∷ []) xs y h

pub member_cases : {X : Type 0} (x y : X) (xs : List X) → Contains (x ∷ xs) y → Contains (x ∷ []) y ⊎ Contains xs y
member_cases x y xs h = Contains-append_cases (x ∷ []) xs y h

module _ {X : Type 0} (Q : X → Breach → Type 0) where
  pub data AtMember (xs : List X) (b : Breach) : Type 0 where
    at_member : (x : X) → Contains xs x → Q x b → AtMember xs b

  exact-no_member : Exact (λ broken. broken) (AtMember [])
  exact-no_member = exact-as (λ b h. elim h [ ]) fro exact-nothing
    where
      fro : (b : Breach) → AtMember [] b → Never b
      fro b (at_member x i h) = absurd (no_member x i)

  member_to : (x : X) (xs : List X) (b : Breach) → Either (Q x) (AtMember xs) b → AtMember (x ∷ xs) b
  member_to x xs b (inl h) = at_member x (first_member x xs) h
  member_to x xs b (inr (at_member y i h)) = at_member y (more_member x y xs i) h

  member_fro : (x : X) (xs : List X) (b : Breach) → AtMember (x ∷ xs) b → Either (Q x) (AtMember xs) b
  member_fro x xs b (at_member y i h) = go (member_cases x y xs i)
    where
      go : Contains (x ∷ []) y ⊎ Contains xs y → Either (Q x) (AtMember xs) b
      go (inl j) = inl (subst (λ (z : X). Q z b) (sym (the_one x y j)) h)
      go (inr j) = inr (at_member y j h)

  exact-member : {f g : Noting} (x : X) (xs : List X) → Exact f (Q x) → Exact g (AtMember xs) →
      Exact (λ broken. g (f broken)) (AtMember (x ∷ xs))
  exact-member x xs p q = exact-as (member_to x xs) (member_fro x xs) (exact-then p q)

-- ---- objects

abbrev pub ObjectBreaks : Source → Shape → Breach → Type 0
ObjectBreaks c o = Either (Fails (NameRules.declared_once_in_file c o.name o.at) o.at rules.DeclaredOnce) (Fails (NameRules.not_of_library c o.name) o.at rules.LibraryName)

exact-object_name : (c : Source) (o : Shape) → Exact (note_object_name c o) (ObjectBreaks c o)
unfolding note_object_name
exact-object_name c o =
    exact-then (exact-unless (NameRules.declared_once_in_file c o.name o.at) o.at rules.DeclaredOnce) (exact-unless (NameRules.not_of_library c o.name) o.at rules.LibraryName)

exact-objects : (c : Source) (objects : List Shape) → Exact (note_objects c objects) (AtMember (ObjectBreaks c) objects)
exact-objects c [] = exact-no_member (ObjectBreaks c)
exact-objects c (o ∷ more) = exact-member (ObjectBreaks c) o more (exact-object_name c o) (exact-objects c more)

-- ---- parameters

abbrev pub ParameterNameFails : Source → Param → Scope → Option ℕ → Breach → Type 0
ParameterNameFails c p s None = Never
ParameterNameFails c p s (Some n) = DeclaredFails c 0 n (name_token p) s

exact-parameter_name : (c : Source) (p : Param) (s : Scope) (n : Option ℕ) →
    Exact (note_parameter_name c p s n) (ParameterNameFails c p s n)
exact-parameter_name c p s None = exact-nothing
exact-parameter_name c p s (Some n) = exact-declared c 0 n (name_token p) s

abbrev pub ParameterBreaks : Source → (defined : Bool) → Scope → Param → Breach → Type 0
ParameterBreaks c defined s p =
    Either (Fails (NameRules.parameter_kept defined p.name) p.at rules.Prototype) (ParameterNameFails c p s p.name)

exact-parameter : (c : Source) (defined : Bool) (s : Scope) (p : Param) →
    Exact (note_parameter c defined s p) (ParameterBreaks c defined s p)
unfolding note_parameter
exact-parameter c defined s p =
    exact-then (exact-unless (NameRules.parameter_kept defined p.name) p.at rules.Prototype) (exact-parameter_name c p s p.name)

pub data SomeParameter (c : Source) (defined : Bool) (s : Scope) (params : List Param) (b : Breach) : Type 0 where
  some_parameter : {there : Scope} {p : Param} → InParameters there p s params → ParameterBreaks c defined there p b →
      SomeParameter c defined s params b

exact-parameters : (c : Source) (defined : Bool) (s : Scope) (params : List Param) →
    Exact (note_parameters c defined s params) (SomeParameter c defined s params)
exact-parameters c defined s [] = exact-as (λ b h. elim h [ ]) fro exact-nothing
  where
    fro : (b : Breach) → SomeParameter c defined s [] b → Never b
    fro b (some_parameter i h) = elim i [ ]
exact-parameters c defined s (p ∷ more) =
    exact-as to fro (exact-then (exact-parameter c defined s p) (exact-parameters c defined (after_parameter s p) more))
  where
    to : (b : Breach) → Either (ParameterBreaks c defined s p) (SomeParameter c defined (after_parameter s p) more) b →
        SomeParameter c defined s (p ∷ more) b
    to b (inl h) = some_parameter InParameters.at_front h
    to b (inr (some_parameter i h)) = some_parameter (InParameters.further i) h

    fro : (b : Breach) → SomeParameter c defined s (p ∷ more) b →
        Either (ParameterBreaks c defined s p) (SomeParameter c defined (after_parameter s p) more) b
    fro b (some_parameter InParameters.at_front h) = inl h
    fro b (some_parameter (InParameters.further i) h) = inr (some_parameter i h)

-- ---- functions

module _ (c : Source) (f : PlainFunction) where
  abbrev Parameters : (defined : Bool) → Breach → Type 0
  Parameters defined = SomeParameter c defined nothing_in_scope f.params

  abbrev BodyBreaks : Option Statements → Breach → Type 0
  BodyBreaks None = Either (Fails (NameRules.prototype_kept c (definition_of f)) f.at rules.Prototype) (Parameters false)
  BodyBreaks (Some all) =
      Either (Either (Fails (NameRules.declared_once_in_file c f.name f.at) f.at rules.DeclaredOnce) (Parameters true))
      (SomeStatement (within c f) false 0 (body_scope f) all)

  exact-body : (body : Option Statements) → Exact (note_body c f body) (BodyBreaks body)
  exact-body None =
      exact-then (exact-unless (NameRules.prototype_kept c (definition_of f)) f.at rules.Prototype)
      (exact-parameters c false nothing_in_scope f.params)
  exact-body (Some all) =
      exact-then (exact-then (exact-unless (NameRules.declared_once_in_file c f.name f.at) f.at rules.DeclaredOnce)
      (exact-parameters c true nothing_in_scope f.params))
      (exact-all (within c f) false 0 (body_scope f) all)

  name_breaks : {s : Scope} {p : Param} → InParameters s p nothing_in_scope f.params → (n : Option ℕ) → p.name ≡ n →
      (b : Breach) → ParameterNameFails c p s n b → FunctionBreaks c f b
  name_breaks i None e b h = elim h [ ]
  name_breaks i (Some n) e b (inl (fails h)) = FunctionBreaks.parameter_twice i e h refl
  name_breaks i (Some n) e b (inr (fails h)) = FunctionBreaks.parameter_of_library i e h refl

  prototype_parameter : (b : Breach) → Parameters false b → FunctionBreaks c f b
  prototype_parameter b (some_parameter i (inl (fails h))) = absurd (let z : true ≡ false = h in cc)
  prototype_parameter b (some_parameter {p = p} i (inr h)) = name_breaks i p.name refl b h

  defined_parameter : (all : Statements) → f.body ≡ Some all → (b : Breach) → Parameters true b → FunctionBreaks c f b
  defined_parameter all e b (some_parameter i (inl (fails h))) = FunctionBreaks.parameter_unnamed e i h refl
  defined_parameter all e b (some_parameter {p = p} i (inr h)) = name_breaks i p.name refl b h

  body_to : (body : Option Statements) → f.body ≡ body → (b : Breach) → BodyBreaks body b → FunctionBreaks c f b
  body_to None e b (inl (fails h)) = FunctionBreaks.prototype_differs e h refl
  body_to None e b (inr h) = prototype_parameter b h
  body_to (Some all) e b (inl (inl (fails h))) = FunctionBreaks.defined_twice e h refl
  body_to (Some all) e b (inl (inr h)) = defined_parameter all e b h
  body_to (Some all) e b (inr (some_statement i h)) = FunctionBreaks.in_body e i h

  of_name : {s : Scope} {p : Param} → InParameters s p nothing_in_scope f.params → (body : Option Statements) →
      (b : Breach) → ParameterNameFails c p s p.name b → BodyBreaks body b
  of_name i None b h = inr (some_parameter i (inr h))
  of_name i (Some all) b h = inl (inr (some_parameter i (inr h)))

  named_as : {s : Scope} {p : Param} {n : ℕ} → InParameters s p nothing_in_scope f.params → p.name ≡ Some n →
      (b : Breach) → DeclaredFails c 0 n (name_token p) s b → BodyBreaks f.body b
  named_as {s = s} {p = p} i e b h =
      of_name i f.body b (subst (λ (n : Option ℕ). ParameterNameFails c p s n b) (sym e) h)

  of_body : {body : Option Statements} → f.body ≡ body → (b : Breach) → BodyBreaks body b → BodyBreaks f.body b
  of_body e b h = subst (λ (x : Option Statements). BodyBreaks x b) (sym e) h

  abbrev Function : Breach → Type 0
  Function = Either (Fails (NameRules.not_of_library c f.name) f.at rules.LibraryName) (BodyBreaks f.body)

  function_to : (b : Breach) → Function b → FunctionBreaks c f b
  function_to b (inl (fails h)) = FunctionBreaks.library_declared h refl
  function_to b (inr h) = body_to f.body refl b h

  function_fro : (b : Breach) → FunctionBreaks c f b → Function b
  function_fro b (FunctionBreaks.library_declared h e) = inl (fails_at h e)
  function_fro b (FunctionBreaks.defined_twice d h e) = inr (of_body d b (inl (inl (fails_at h e))))
  function_fro b (FunctionBreaks.prototype_differs d h e) = inr (of_body d b (inl (fails_at h e)))
  function_fro b (FunctionBreaks.parameter_unnamed d i h e) =
      inr (of_body d b (inl (inr (some_parameter i (inl (fails_at h e))))))
  function_fro b (FunctionBreaks.parameter_twice i n h e) = inr (named_as i n b (inl (fails_at h e)))
  function_fro b (FunctionBreaks.parameter_of_library i n h e) = inr (named_as i n b (inr (fails_at h e)))
  function_fro b (FunctionBreaks.in_body d i h) = inr (of_body d b (inr (some_statement i h)))

  pub exact-function : Exact (note_function c f) (FunctionBreaks c f)
  unfolding note_function
  exact-function =
      exact-as function_to function_fro (exact-then (exact-unless (NameRules.not_of_library c f.name) f.at rules.LibraryName) (exact-body f.body))

exact-functions : (c : Source) (functions : List PlainFunction) →
    Exact (note_functions c functions) (AtMember (FunctionBreaks c) functions)
exact-functions c [] = exact-no_member (FunctionBreaks c)
exact-functions c (f ∷ more) = exact-member (FunctionBreaks c) f more (exact-function c f) (exact-functions c more)

-- ---- a file

module _ (c : Source) (tree : PlainTree) where
  abbrev MainFails : Breach → Type 0
  MainFails =
      Fails (NameRules.main_kept (NameRules.main_definition c)) (main_token (length tree.lines) (NameRules.main_definition c)) rules.Main

  exact-main : Exact (note_main c (length tree.lines)) MainFails
  unfolding note_main
  exact-main =
      exact-unless (NameRules.main_kept (NameRules.main_definition c)) (main_token (length tree.lines) (NameRules.main_definition c)) rules.Main

  abbrev File : Breach → Type 0
  File = Either (Either (AtMember (ObjectBreaks c) tree.objects) (AtMember (FunctionBreaks c) tree.functions)) MainFails

  file_to : (b : Breach) → File b → FileBreaks c tree b
  file_to b (inl (inl (at_member o i (inl (fails h))))) = FileBreaks.declared_twice i h refl
  file_to b (inl (inl (at_member o i (inr (fails h))))) = FileBreaks.library_declared i h refl
  file_to b (inl (inr (at_member f i h))) = FileBreaks.in_function i h
  file_to b (inr (fails h)) = FileBreaks.no_main h refl

  file_fro : (b : Breach) → FileBreaks c tree b → File b
  file_fro b (FileBreaks.declared_twice {o = o} i h e) = inl (inl (at_member o i (inl (fails_at h e))))
  file_fro b (FileBreaks.library_declared {o = o} i h e) = inl (inl (at_member o i (inr (fails_at h e))))
  file_fro b (FileBreaks.no_main h e) = inr (fails_at h e)
  file_fro b (FileBreaks.in_function {f = f} i h) = inl (inr (at_member f i h))

  pub exact-file : Exact (note_file c tree) (FileBreaks c tree)
  unfolding note_file
  exact-file =
      exact-as file_to file_fro (exact-then
      (exact-then (exact-objects c tree.objects) (exact-functions c tree.functions)) exact-main)
