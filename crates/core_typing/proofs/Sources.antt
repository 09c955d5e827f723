-- The core of a source in which nothing is broken is typed: its functions, and the one that is begun with.
use Rattle.std.proofs.Common.{◌≡◌, refl, sym, ◌∙◌, ap, subst, ℕ, zero, suc, ◌+◌, ◌-◌, ◌<◌, ◌≤◌, arith, Bool, true, false, cond, List, [], ◌∷◌, ◌++◌, length, drop, ◌⊎◌, inl, inr, length-append}
use Rattle.std.specs.Prelude.{Option, Some, None, map, slice_get, find, codes}
use Rattle.std.specs.Option.{option_map, option_map_or}
use Rattle.std.specs.Str.{bytes_eq}
use Rattle.std.specs.List.{Contains, All}
use Rattle.std.proofs.lemmas.List.Elements.{Contains-append_right, All-head, All-tail, All-nil, All-cons}
use Rattle.std.proofs.lemmas.Option.{slice_get-map}
use Rattle.std.proofs.Math.Seq.{drop-append_seam}
use Rattle.sc_base.specs.declared.shape.Ty.{Ty}
use Rattle.sc_tree.specs.Names.{Text}
use Rattle.sc_tree.specs.declared.tree.Param.{Param}
use Rattle.sc_tree.specs.declared.typed_stmt.TypedParam.{TypedParam}
use Rattle.sc_tree.specs.PlainStmt.{Statements}
use Rattle.sc_tree.specs.PlainTree.{PlainFunction, PlainTree}
use Rattle.sc_tree.specs.ViewTypedStmt.{typed_statements_of}
use Rattle.sc_typing.specs.declared.file.Definition.{Definition}
use Rattle.sc_typing.specs.Answer.{IsWellTyped}
use Rattle.sc_typing.specs.Broken.{FunctionBreaks, FileBreaks}
use Rattle.sc_typing.specs.NameRules.{is_main, main_definition, main_kept, no_types}
use Rattle.sc_typing.specs.Program.{definition_of, definition_if, definitions_of, source_of_tree, after_parameter, after_parameters, within, body_scope, typed_body, typed_param, typed_function, name_text, typed_texts, typed_of}
use Rattle.sc_typing.specs.Program as program
use Rattle.sc_typing.specs.Scope as typing
use Rattle.sc_typing.specs.Scope.{nothing_in_scope, with_local, with_declared}
use Rattle.sc_typing.specs.Source.{Source}
use Rattle.sc_typing.specs.Statements.{typed_all}
use Rattle.sc_core.specs.Core.{Function, Program}
use Rattle.sc_core.specs.Kinds.{kind_of_type, Scope, HasBegun}
use Rattle.sc_core.specs.Lowering.{types_of, all_of, function_with, functions_of, main_in, core_of}
use Rattle.sc_core.specs.Typed.{below, scope_of, IsTypedFunction, IsTyped, IsTypedDoes}
use Rattle.core_typing.specs.Proper.{IsProperBody, IsProperTree, AreProper}
use Rattle.core_typing.proofs.Types.{left_of, no_more}
use Rattle.core_typing.proofs.Made.{never_some, some-is}
use Rattle.core_typing.proofs.Seen.{Defines, Sees, AllBegun, none_begun, more_begun, begun-append}
use Rattle.core_typing.proofs.Scopes.{Numbered, numbered-first, numbered-rest, numbered-front, numbered-back}
use Rattle.core_typing.proofs.Stated.{kept}
use Rattle.core_typing.proofs.Bodies.{AllUnbroken, all-typed}

-- ---- lists

param-types : (params : List Param) → map (λ (p : TypedParam). p.ty) (map typed_param params) ≡ program.types_of params
param-types [] = refl
param-types (p ∷ params) = ap (λ (ts : List Ty). p.ty ∷ ts) (param-types params)

params-count : (params : List Param) → length (map typed_param params) ≡ length (program.types_of params)
params-count [] = refl
params-count (p ∷ params) = ap suc (params-count params)

in-rest : {X : Type 0} (x y : X) (xs : List X) → Contains xs y → Contains (x ∷ xs) y
in-rest x y xs h = Contains-append_right (x ∷ []) xs y h

at-first : {X : Type 0} (x : X) (xs : List X) → Contains (x ∷ xs) x
at-first x xs = (0, omega arith, refl)

below-there : (n x : ℕ) → x < n → Contains (below n) x
below-there zero x h = absurd (omega (arith, h))
below-there (suc n) x h = go (below-there n x) (apart n x h)
  where
    apart : (n x : ℕ) → x < suc n → (x ≡ n) ⊎ (x < n)
    apart n x h = grind arith

    go : (x < n → Contains (below n) x) → (x ≡ n) ⊎ (x < n) → Contains (n ∷ below n) x
    go further (inl e) = subst (λ (y : ℕ). Contains (n ∷ below n) y) (sym e) (at-first n (below n))
    go further (inr l) = in-rest n x (below n) (further l)

-- ---- parameters

-- the parameters so far have begun, and those that follow too
parameters-begun : (scope : Scope) (s : typing.Scope) (params : List Param) → AllBegun scope s.locals →
    Numbered scope s.count (program.types_of params) →
    ((x : ℕ) → x < s.count + length (program.types_of params) → Contains scope.begun x) →
    AllBegun scope (after_parameters s params).locals
unfolding after_parameter with_declared
parameters-begun scope s [] begun n there = begun
parameters-begun scope s (p ∷ params) begun n there =
    parameters-begun scope (after_parameter s p) params (one p.name)
    (numbered-rest s.count p.ty (program.types_of params) n)
    (λ x h. there x (omega (arith, h)))
  where
    here : HasBegun scope s.count (kind_of_type p.ty)
    here = (numbered-first s.count p.ty (program.types_of params) n, there s.count (omega arith))

    one : (name : Option ℕ) → AllBegun scope (with_local name p.ty s)
    one None = begun
    one (Some x) =
        begun-append scope begun
        (more_begun {l = record { name = x; number = s.count; ty = p.ty }} here none_begun)

parameters-count : (s : typing.Scope) (params : List Param) →
    (after_parameters s params).count ≡ s.count + length (program.types_of params)
unfolding after_parameter with_declared
parameters-count s [] = omega arith
parameters-count s (p ∷ params) =
    let e = parameters-count (after_parameter s p) params in
    omega (arith, e)

-- ---- functions

-- the core's functions are the definitions, in their order
pub record Aligned (function : Function) (d : Definition) : Type 0 where
  pub params : function.params ≡ d.params
  pub result : function.result ≡ d.result

module _ (c : Source) where
  abbrev cores : List PlainFunction → List Function
  cores fs = functions_of c.objects (map (typed_function c) fs)

  function-of : PlainFunction → Statements → Function
  unfolding typed_function
  function-of f all =
      function_with c.objects (typed_function c f) (typed_statements_of (typed_all (within c f) (body_scope f) all))

  cores-none : (f : PlainFunction) (fs : List PlainFunction) → f.body ≡ None → cores (f ∷ fs) ≡ cores fs
  unfolding typed_function
  cores-none f fs e = rw e refl

  cores-some : (f : PlainFunction) (fs : List PlainFunction) (all : Statements) → f.body ≡ Some all →
      cores (f ∷ fs) ≡ function-of f all ∷ cores fs
  unfolding typed_function function-of
  cores-some f fs all e = rw e refl

  definitions-none : (f : PlainFunction) (fs : List PlainFunction) → f.body ≡ None →
      definitions_of (f ∷ fs) ≡ definitions_of fs
  definitions-none f fs e = rw e refl

  definitions-some : (f : PlainFunction) (fs : List PlainFunction) (all : Statements) → f.body ≡ Some all →
      definitions_of (f ∷ fs) ≡ definition_of f ∷ definitions_of fs
  definitions-some f fs all e = rw e refl

  aligned : (f : PlainFunction) (all : Statements) → Aligned (function-of f all) (definition_of f)
  unfolding typed_function function-of
  aligned f all = record { params = param-types f.params; result = refl }

  pub record Finds (fs : List Function) (n : ℕ) (d : Definition) : Type 0 where
    pub function : Function
    pub there : slice_get fs n ≡ Some function
    pub is : Aligned function d

  finds-definition : (fs : List PlainFunction) (n : ℕ) (d : Definition) → slice_get (definitions_of fs) n ≡ Some d →
      Finds (cores fs) n d
  finds-definition [] n d h = never_some h
  finds-definition (f ∷ fs) n d h = go f.body refl (finds-definition fs) n h
    where
      first : (all : Statements) → ((n : ℕ) (d : Definition) → slice_get (definitions_of fs) n ≡ Some d → Finds (cores fs) n d) →
          (n : ℕ) → slice_get (definition_of f ∷ definitions_of fs) n ≡ Some d → Finds (function-of f all ∷ cores fs) n d
      first all further zero x =
          record {
            function = function-of f all;
            there = refl;
            is = subst (λ (d : Definition). Aligned (function-of f all) d) (some-is _ d x) (aligned f all);
          }
      first all further (suc n) x =
          let g = further n d x in record { function = g.function; there = g.there; is = g.is }

      go : (o : Option Statements) → f.body ≡ o →
          ((n : ℕ) (d : Definition) → slice_get (definitions_of fs) n ≡ Some d → Finds (cores fs) n d) →
          (n : ℕ) → slice_get (definitions_of (f ∷ fs)) n ≡ Some d → Finds (cores (f ∷ fs)) n d
      go None e further n x =
          subst (λ (gs : List Function). Finds gs n d) (sym (cores-none f fs e))
          (further n d (subst (λ (ds : List Definition). slice_get ds n ≡ Some d) (definitions-none f fs e) x))
      go (Some all) e further n x =
          subst (λ (gs : List Function). Finds gs n d) (sym (cores-some f fs all e))
          (first all further n (subst (λ (ds : List Definition). slice_get ds n ≡ Some d) (definitions-some f fs all e) x))

  pub cores-count : (fs : List PlainFunction) → length (cores fs) ≡ length (definitions_of fs)
  cores-count [] = refl
  cores-count (f ∷ fs) = go f.body refl (cores-count fs)
    where
      go : (o : Option Statements) → f.body ≡ o → length (cores fs) ≡ length (definitions_of fs) →
          length (cores (f ∷ fs)) ≡ length (definitions_of (f ∷ fs))
      go None e h = rw (cores-none f fs e, definitions-none f fs e) h
      go (Some all) e h = rw (cores-some f fs all e, definitions-some f fs all e) (ap suc h)

  -- ---- the scope of a function

  -- what the program is made of, as a function sees it
  pub record Sourced (p : Program) : Type 0 where
    pub functions : (n : ℕ) (d : Definition) → slice_get c.definitions n ≡ Some d → Finds p.functions n d
    pub texts : length c.texts ≤ length p.texts

  function-sees : (p : Program) (g : Function) → Sourced p → Sees c (scope_of c.objects p g)
  function-sees p g is = record {
    objects = λ o s h. h;
    functions = λ n d h. defined n d (is.functions n d h);
    texts = is.texts;
  }
    where
      defined : (n : ℕ) (d : Definition) → Finds p.functions n d → Defines (scope_of c.objects p g) n d
      defined n d f = record { function = f.function; there = f.there; params = f.is.params; result = f.is.result }

  function-numbered : (p : Program) (g : Function) → Numbered (scope_of c.objects p g) 0 (g.params ++ g.others)
  function-numbered p g = record { is = at }
    where
      at : (i : ℕ) (ty : Ty) → slice_get (g.params ++ g.others) i ≡ Some ty →
          slice_get (map kind_of_type (g.params ++ g.others)) (0 + i) ≡ Some (kind_of_type ty)
      at i ty h =
          let e : 0 + i ≡ i = omega arith in
          rw e (slice_get-map kind_of_type (g.params ++ g.others) i ∙ ap (option_map kind_of_type) h)

  body-count : (f : PlainFunction) → (body_scope f).count ≡ length (map typed_param f.params)
  body-count f =
      let e = parameters-count nothing_in_scope f.params in
      let n = params-count f.params in
      omega (arith, e, n)

  -- a function in whose body nothing is broken
  function-typed : (p : Program) (f : PlainFunction) (all : Statements) → Sourced p → AreProper all →
      AllUnbroken (within c f) false 0 (body_scope f) all → IsTypedFunction c.objects p (function-of f all)
  unfolding typed_function function-of
  function-typed p f all is proper u =
      let g = function-of f all in
      let scope = scope_of c.objects p g in
      let types = map (λ (x : TypedParam). x.ty) (map typed_param f.params) in
      let others = types_of (typed_statements_of (typed_all (within c f) (body_scope f) all)) in
      let n = function-numbered p g in
      let front : Numbered scope 0 (program.types_of f.params) =
      subst (λ (ts : List Ty). Numbered scope 0 ts) (param-types f.params) (numbered-front types others n) in
      let count : length types ≡ length (program.types_of f.params) = ap length (param-types f.params) in
      let begun =
      parameters-begun scope nothing_in_scope f.params none_begun front
      (λ x h. below-there (length types) x (omega (arith, h, count))) in
      let from : 0 + length types ≡ (body_scope f).count =
      (let e = parameters-count nothing_in_scope f.params in omega (arith, e, count)) in
      let back = subst (λ (k : ℕ). Numbered scope k others) from (numbered-back 0 types others n) in
      let h = all-typed (within c f) scope (function-sees p g is) false 0 (body_scope f) all proper begun back u in
      subst
      (λ (k : ℕ). IsTypedDoes scope (kind_of_type f.result) false false
      (all_of c.objects f.result k (typed_statements_of (typed_all (within c f) (body_scope f) all)))) (body-count f) h

  -- nothing is broken in the bodies of these functions
  abbrev BodiesUnbroken : List PlainFunction → Type 0
  BodiesUnbroken fs =
      (f : PlainFunction) → Contains fs f → (all : Statements) → f.body ≡ Some all →
      AllUnbroken (within c f) false 0 (body_scope f) all

  functions-typed : (p : Program) → Sourced p → (fs : List PlainFunction) →
      All (λ (f : PlainFunction). IsProperBody f.body) fs → BodiesUnbroken fs →
      All (IsTypedFunction c.objects p) (cores fs)
  functions-typed p is [] proper u = All-nil (IsTypedFunction c.objects p)
  functions-typed p is (f ∷ fs) proper u =
      go f.body refl
      (functions-typed p is fs (All-tail (λ (f : PlainFunction). IsProperBody f.body) f fs proper)
      (λ g i. u g (in-rest f g fs i)))
    where
      go : (o : Option Statements) → f.body ≡ o → All (IsTypedFunction c.objects p) (cores fs) →
          All (IsTypedFunction c.objects p) (cores (f ∷ fs))
      go None e h = subst (λ (gs : List Function). All (IsTypedFunction c.objects p) gs) (sym (cores-none f fs e)) h
      go (Some all) e h =
          subst (λ (gs : List Function). All (IsTypedFunction c.objects p) gs) (sym (cores-some f fs all e))
          (All-cons (IsTypedFunction c.objects p) (function-of f all) (cores fs)
          (function-typed p f all is
          (subst (λ (o : Option Statements). IsProperBody o) e
          (All-head (λ (f : PlainFunction). IsProperBody f.body) f fs proper)) (u f (at-first f fs) all e)) h)

-- ---- the function that is begun with

main-text : (names : List Text) (n : ℕ) → bytes_eq (name_text names n) (codes "splitc_main") ≡ is_main names n
main-text names n = go (slice_get names n)
  where
    go : (o : Option Text) →
        bytes_eq (option_map_or (λ text. text) o []) (codes "splitc_main")
        ≡ option_map_or (λ text. bytes_eq text (codes "splitc_main")) o false
    go None = refl
    go (Some t) = refl

finds-main : (names : List Text) (ds : List Definition) (d : Definition) →
    find (λ (d : Definition). is_main names d.name) ds ≡ Some d →
    slice_get ds (main_in (map (λ (d : Definition). name_text names d.name) ds)) ≡ Some d
finds-main names [] d h = never_some h
finds-main names (e ∷ ds) d h = go (finds-main names ds d) (is_main names e.name) (main-text names e.name) h
  where
    go : (find (λ (d : Definition). is_main names d.name) ds ≡ Some d →
        slice_get ds (main_in (map (λ (d : Definition). name_text names d.name) ds)) ≡ Some d) → (t : Bool) →
        bytes_eq (name_text names e.name) (codes "splitc_main") ≡ t →
        cond t (Some e) (find (λ (d : Definition). is_main names d.name) ds) ≡ Some d →
        slice_get (e ∷ ds) (main_in (map (λ (d : Definition). name_text names d.name) (e ∷ ds))) ≡ Some d
    go further true same x = rw same x
    go further false same x = rw same (further x)

-- the definition that is begun with, which takes nothing
record Main (c : Source) : Type 0 where
  pub definition : Definition
  pub is : main_definition c ≡ Some definition
  pub no_params : definition.params ≡ []

main-there : (c : Source) → main_kept (main_definition c) ≡ true → Main c
main-there c h = go (main_definition c) refl h
  where
    none_of : (ts : List Ty) → no_types ts ≡ true → ts ≡ []
    none_of [] x = refl
    none_of (t ∷ ts) x = no_more x

    go : (o : Option Definition) → main_definition c ≡ o → main_kept o ≡ true → Main c
    go None e x = no_more x
    go (Some d) e x = record { definition = d; is = e; no_params = none_of d.params (left_of (no_types d.params) _ x) }

-- the texts behind the formats are the functions' names
last-texts : (xs ys : List Text) (n : ℕ) → n ≡ length ys → drop (length (xs ++ ys) - n) (xs ++ ys) ≡ ys
last-texts xs ys n same =
    let e : length (xs ++ ys) - n ≡ length xs = omega (arith, length-append xs ys, same) in
    rw e (drop-append_seam xs ys)

name-count : (names : List Text) (ds : List Definition) → length (map (λ (d : Definition). name_text names d.name) ds) ≡ length ds
name-count names [] = refl
name-count names (d ∷ ds) = ap suc (name-count names ds)

module _ (tree : PlainTree) (names texts : List Text) where
  abbrev c : Source
  c = source_of_tree tree names texts

  abbrev p : Program
  p = core_of (typed_of tree names texts)

  main-number : p.main ≡ main_in (map (λ (d : Definition). name_text names d.name) c.definitions)
  main-number =
      ap main_in
      (last-texts texts (map (λ (d : Definition). name_text names d.name) c.definitions) (length p.functions)
      (cores-count c tree.functions ∙ sym (name-count names c.definitions)))

  sourced : Sourced c p
  sourced = record {
    functions = λ n d h. finds-definition c tree.functions n d h;
    texts = (let e = length-append texts (map (λ (d : Definition). name_text names d.name) c.definitions) in omega (arith, e));
  }

  unbroken : IsWellTyped tree names texts → BodiesUnbroken c tree.functions
  unbroken typed f i all e =
      record { is = λ there it at b h. typed b (FileBreaks.in_function i (FunctionBreaks.in_body e at h)) }

  pub cores-typed : IsProperTree tree → IsWellTyped tree names texts → IsTyped tree.objects p
  cores-typed proper typed =
      let m =
      main-there c
      (kept (main_kept (main_definition c)) (λ h. typed _ (FileBreaks.no_main h refl))) in
      let f = finds-definition c tree.functions (main_in (map (λ (d : Definition). name_text names d.name) c.definitions))
      m.definition (finds-main names c.definitions m.definition m.is) in
      record {
        functions = functions-typed c p sourced tree.functions proper (unbroken typed);
        main = f.function;
        begins = subst (λ (n : ℕ). slice_get p.functions n ≡ Some f.function) (sym main-number) f.there;
        no_params = f.is.params ∙ m.no_params;
      }
