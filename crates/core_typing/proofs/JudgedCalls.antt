-- What is known of judged calls, from what is known of the arguments.
use Rattle.std.proofs.Common.{◌≡◌, refl, sym, ◌∙◌, subst, ℕ, ◌<◌, lt_of_lt_of_le, Bool, true, false, ◌&&◌, List, [], ◌∷◌, ◌++◌, length}
use Rattle.std.specs.Prelude.{Option, Some, None, slice_get, nat_lt, replicate, if◌then◌else◌}
use Rattle.std.specs.Option.{option_map, option_and_then}
use Rattle.std.proofs.lemmas.List.Quantifiers.{position-Some}
use Rattle.std.proofs.lemmas.Option.{slice_get-get_or, slice_get_within}
use Rattle.sc_base.specs.declared.shape.Star.{Star}
use Rattle.sc_base.specs.declared.shape.Star.TheVariants as star
use Rattle.sc_base.specs.declared.shape.Shape.{Shape}
use Rattle.sc_base.specs.declared.shape.Ty.{Ty}
use Rattle.sc_tree.specs.PlainTyped.{TypedExpression, TypedForm}
use Rattle.sc_tree.specs.PlainTyped as typed
use Rattle.sc_tree.specs.ViewTyped.{typed_expressions_of}
use Rattle.sc_typing.specs.declared.calls.Given.{Given}
use Rattle.sc_typing.specs.declared.file.Definition.{Definition}
use Rattle.sc_typing.specs.declared.file.Meaning.{Meaning}
use Rattle.sc_typing.specs.declared.file.Meaning.TheVariants as means
use Rattle.sc_typing.specs.declared.library.Library.{Library}
use Rattle.sc_typing.specs.declared.library.Library.TheVariants as lib
use Rattle.sc_typing.specs.declared.known.Spot.{Spot}
use Rattle.sc_typing.specs.Types.{int, nothing, pointer, element, last_star}
use Rattle.sc_typing.specs.Known.{Valued, valued, Judgement, has_value, is_used}
use Rattle.sc_typing.specs.Source.{Source, library_named, object_called, definition_called, declared_first, library_first, meaning_of, object_token, definition_token, directives, directives_of}
use Rattle.sc_typing.specs.Rules
use Rattle.sc_typing.specs.Arguments as arguments
use Rattle.sc_typing.specs.Arguments.{format_directives, ints_wanted, fit_all, params_of, arguments_kept, element_among, type_or_int, first_known, library_wanted, library_asks, library_kept, are_wide, pointers_wanted, to_global_wanted}
use Rattle.sc_typing.specs.Calls.{met_all, all_used, result_of, library_type, given_format, of_one, of_two, of_three, copy_form, library_form, call_value, form_if, library_call, call_form, function_call, call_of}
use Rattle.sc_typing.specs.Naming.{unless_local, called_meaning}
use Rattle.sc_typing.specs.Scope.{innermost}
use Rattle.sc_typing.specs.declared.scope.InScope.{InScope}
use Rattle.sc_tree.specs.Names.{Text}
use Rattle.sc_base.specs.declared.value.CopyMode.{CopyMode}
use Rattle.sc_base.specs.declared.value.CopyMode.TheVariants.{Blocking, Split, OneWay}
use Rattle.sc_core.specs.Core.{Does}
use Rattle.sc_core.specs.Statements.{whole_form, copying}
use Rattle.sc_core.specs.Kinds as kinds
use Rattle.sc_core.specs.Expressions.{object_in, found_form}
use Rattle.sc_core.specs.Kinds.{Scope}
use Rattle.core_typing.proofs.Types.{left_of, right_of, no_more, Points, points-last, last-is, element-stars, wide-there, kind-push}
use Rattle.core_typing.proofs.Cores.{no-arguments, gives-zero}
use Rattle.core_typing.proofs.Acts.{Acts, act-acts, print-acts, copy-acts}
use Rattle.core_typing.proofs.Founds.{FoundIs, a_value}
use Rattle.core_typing.proofs.Lists.{Fit, none_fit, more_fit, call-comes, to_global-comes, to_proc-comes, to_local-comes}
use Rattle.core_typing.proofs.Made.{never_some, some-is}
use Rattle.core_typing.proofs.Seen.{Sees}
use Rattle.core_typing.proofs.Sound.{Knows, Whole, whole-as, acting-whole, value-whole, standing-met}

module _ (objects : List Shape) (scope : Scope) where
  pub data AllKnown : List Judgement → Type 0 where
    none_known : AllKnown []
    more_known : {j : Judgement} {js : List Judgement} → Knows objects scope j → AllKnown js → AllKnown (j ∷ js)

  -- a used argument has a type
  used-there : (known : Option Valued) → has_value known ≡ true → (v : Valued) × (known ≡ Some v)
  used-there None h = no_more h
  used-there (Some v) h = (v, refl)

  -- the arguments as those that are wanted
  pub fit-met : (wanted : List Ty) (js : List Judgement) → fit_all wanted js ≡ true → all_used js ≡ true → AllKnown js →
      Fit objects scope (met_all wanted js) wanted
  fit-met [] [] h u k = none_fit
  fit-met [] (j ∷ js) h u k = no_more h
  fit-met (ty ∷ wanted) [] h u k = no_more h
  fit-met (ty ∷ wanted) (j ∷ js) h u (more_known k ks) =
      let v = used-there j.known (left_of (is_used j) (all_used js) u) in
      let f = subst (λ (o : Option Valued). Rules.fit o ty ≡ true) v.1 (left_of (Rules.fit j.known ty) (fit_all wanted js) h) in
      more_fit (standing-met objects scope j ty v.1 (k v.0 v.1) f)
      (fit-met wanted js (right_of (Rules.fit j.known ty) (fit_all wanted js) h) (right_of (is_used j) (all_used js) u) ks)

  -- ---- a call that has a type

  pub record Formed (kept : Bool) (form : Option TypedForm) (f : TypedForm → Valued) (v : Valued) : Type 0 where
    pub of : TypedForm
    pub is : form ≡ Some of
    pub rule : kept ≡ true
    pub gives : f of ≡ v

  pub formed : (kept : Bool) (form : Option TypedForm) (f : TypedForm → Valued) (v : Valued) →
      option_map f (form_if kept form) ≡ Some v → Formed kept form f v
  formed false form f v h = never_some h
  formed true None f v h = never_some h
  formed true (Some x) f v h = record { of = x; is = refl; rule = refl; gives = some-is (f x) v h }

  -- ---- calls of functions

  pub function-whole : (c : Source) (function : ℕ) (d : Definition) (js : List Judgement) (spot : Spot) (v : Valued) →
      slice_get c.definitions function ≡ Some d → Sees c scope → AllKnown js →
      (function_call c function js spot).known ≡ Some v → Whole objects scope (function_call c function js spot) v
  unfolding function_call
  function-whole c function d js spot v there sees known h =
      let m =
      formed (arguments_kept c function js && all_used js)
      (Some (call_form function (met_all (params_of (slice_get c.definitions function)) js)))
      (call_value spot (result_of (slice_get c.definitions function))) v h in
      let f = sees.functions function d there in
      let fit_rule = left_of (arguments_kept c function js) (all_used js) m.rule in
      let used_rule = right_of (arguments_kept c function js) (all_used js) m.rule in
      let fit =
      fit-met d.params js (subst (λ (o : Option Definition). fit_all (params_of o) js ≡ true) there fit_rule) used_rule
      known in
      whole-as objects scope _ v m.gives
      (subst (λ (form : TypedForm). Whole objects scope (function_call c function js spot)
      (valued form (result_of (slice_get c.definitions function)) false spot)) (some-is _ m.of m.is)
      (subst (λ (o : Option Definition). Whole objects scope (function_call c function js spot)
      (valued (call_form function (met_all (params_of o) js)) (result_of o) false spot)) (sym there)
      (value-whole objects scope (call_form function (met_all d.params js)) d.result false spot _ refl refl refl (λ d. refl)
      (subst (λ (r : Ty). FoundIs scope r.stars (found_form objects (call_form function (met_all d.params js)) spot.line))
      f.result (call-comes objects scope function f.function spot.line f.there f.params fit)))))

  -- ---- calls of the library

  -- what a call of this form comes to, and what it does as a whole statement
  pub record Formal (form : TypedForm) (ty : Ty) (line : ℕ) : Type 0 where
    pub nameless : object_in form ≡ None
    pub found : FoundIs scope ty.stars (found_form objects form line)
    pub acts : (d : Does) → Acts scope d → Acts scope (whole_form objects form d line)

  formal-as : {ty : Ty} {line : ℕ} (f g : TypedForm) → Some f ≡ Some g → Formal f ty line → Formal g ty line
  formal-as {ty = ty} {line = line} f g e h = subst (λ (f : TypedForm). Formal f ty line) (some-is f g e) h

  quiet : {form : TypedForm} {ty : Ty} {line : ℕ} → object_in form ≡ None →
      FoundIs scope ty.stars (found_form objects form line) → ((d : Does) → whole_form objects form d line ≡ d) →
      Formal form ty line
  quiet o f q =
      record { nameless = o; found = f; acts = λ d a. subst (λ (s : Does). Acts scope s) (sym (q d)) a }

  global-formal : (el : Ty) {form : TypedForm} {es : List TypedExpression} (line : ℕ) →
      Fit objects scope es (int ∷ pointer el star.Local ∷ []) → of_two typed.to_global es ≡ Some form →
      Formal form (pointer el star.Global) line
  global-formal el {form = form} line (more_fit f (more_fit g none_fit)) e =
      formal-as _ form e
      (quiet refl (to_global-comes objects scope star.Global line f g (kind-push el.stars star.Local)) (λ d. refl))

  proc-formal : {ty : Ty} {form : TypedForm} {es : List TypedExpression} (line : ℕ) → Points ty.stars →
      Fit objects scope es (ty ∷ []) → of_one typed.to_proc es ≡ Some form → Formal form int line
  proc-formal {form = form} line p (more_fit f none_fit) e =
      formal-as _ form e (quiet refl (to_proc-comes objects scope line p f) (λ d. refl))

  local-formal : {ty : Ty} {form : TypedForm} {es : List TypedExpression} (line : ℕ) → Points ty.stars →
      Fit objects scope es (ty ∷ []) → of_one typed.to_local es ≡ Some form →
      Formal form (pointer (element ty) star.Local) line
  local-formal {ty = ty} {form = form} line p (more_fit {e = arg} f none_fit) e =
      formal-as _ form e
      (quiet refl
      (subst (λ (ss : List Star). FoundIs scope (ss ++ star.Local ∷ []) (found_form objects (typed.to_local arg) line))
      (sym (element-stars ty)) (to_local-comes objects scope star.Local line p f)) (λ d. refl))

  -- the callee takes its first argument's own type, which is a global or spread pointer's
  wide-argument : (js : List Judgement) → fit_all (type_or_int (first_known js) ∷ []) js ≡ true → all_used js ≡ true →
      are_wide (first_known js) ≡ true → Points (type_or_int (first_known js)).stars
  wide-argument [] h u w = no_more h
  wide-argument (j ∷ js) h u w = go (used-there j.known (left_of (is_used j) (all_used js) u))
    where
      go : (v : Valued) × (j.known ≡ Some v) → Points (type_or_int j.known).stars
      go v =
          let t = wide-there (last_star (v.0).ty) (subst (λ (o : Option Valued). are_wide o ≡ true) v.1 w) in
          subst (λ (o : Option Valued). Points (type_or_int o).stars) (sym v.1)
          (points-last (v.0).ty.stars t.0 (sym (last-is (v.0).ty) ∙ t.1))

  -- forms that stand as whole statements alone
  sync-formal : (line : ℕ) → Formal typed.sync nothing line
  unfolding found_form
  sync-formal line = record {
    nameless = refl;
    found = a_value (gives-zero scope);
    acts = λ d a. act-acts scope line (no-arguments scope) kinds.sync;
  }

  barrier-formal : (line : ℕ) → Formal typed.barrier nothing line
  unfolding found_form
  barrier-formal line = record {
    nameless = refl;
    found = a_value (gives-zero scope);
    acts = λ d a. act-acts scope line (no-arguments scope) kinds.barrier;
  }

  all_store_sync-formal : (line : ℕ) → Formal typed.all_store_sync nothing line
  unfolding found_form
  all_store_sync-formal line = record {
    nameless = refl;
    found = a_value (gives-zero scope);
    acts = λ d a. act-acts scope line (no-arguments scope) kinds.all_store_sync;
  }

  print-formal : {es : List TypedExpression} (n f line : ℕ) → f < scope.texts → Fit objects scope es (replicate n int) →
      Formal (typed.printf f (typed_expressions_of es)) nothing line
  unfolding found_form
  print-formal n f line t fs = record {
    nameless = refl;
    found = a_value (gives-zero scope);
    acts = λ d a. print-acts objects scope n f line t fs;
  }

  -- ---- copies

  -- the five calls that copy
  pub data Copies : Library → Type 0 where
    read_copies : Copies lib.BulkRead
    write_copies : Copies lib.BulkWrite
    get_copies : Copies lib.BulkGet
    put_copies : Copies lib.BulkPut
    store_copies : Copies lib.BulkStore

  copied : {l : Library} (to_ from bytes : TypedExpression) (line : ℕ) → Copies l →
      ((mode : CopyMode) → Acts scope (copying objects mode to_ from bytes line)) →
      Formal (copy_form l to_ from bytes) nothing line
  unfolding found_form
  copied to_ from bytes line read_copies a = record { nameless = refl; found = a_value (gives-zero scope); acts = λ d x. a Blocking }
  copied to_ from bytes line write_copies a = record { nameless = refl; found = a_value (gives-zero scope); acts = λ d x. a Blocking }
  copied to_ from bytes line get_copies a = record { nameless = refl; found = a_value (gives-zero scope); acts = λ d x. a Split }
  copied to_ from bytes line put_copies a = record { nameless = refl; found = a_value (gives-zero scope); acts = λ d x. a Split }
  copied to_ from bytes line store_copies a = record { nameless = refl; found = a_value (gives-zero scope); acts = λ d x. a OneWay }

  copy-formal : (el : Ty) (to_ from : Star) {form : TypedForm} {es : List TypedExpression} (l : Library) (line : ℕ) →
      Copies l → Fit objects scope es (pointers_wanted el to_ from) → of_three (copy_form l) es ≡ Some form →
      Formal form nothing line
  copy-formal el to_ from {form = form} l line c (more_fit f (more_fit g (more_fit h none_fit))) e =
      formal-as _ form e
      (copied _ _ _ line c
      (λ mode. copy-acts objects scope mode line f (kind-push el.stars to_) g (kind-push el.stars from) h))

  -- ---- the format of `printf`

  directed : (c : Source) (f n : ℕ) → directives_of c f ≡ Some n → f < length c.texts
  unfolding directives_of
  directed c f n h = go (slice_get c.texts f) refl h
    where
      go : (o : Option Text) → slice_get c.texts f ≡ o → option_and_then directives o ≡ Some n → f < length c.texts
      go None e x = never_some x
      go (Some t) e x = slice_get_within c.texts f t e

  some-there : (o : Option ℕ) → arguments.is_some o ≡ true → (n : ℕ) × (o ≡ Some n)
  some-there None h = no_more h
  some-there (Some n) h = (n, refl)

  printed-formal : (c : Source) (given : Option Given) (js : List Judgement) (form : TypedForm) (line : ℕ) → Sees c scope →
      AllKnown js → fit_all (ints_wanted (format_directives c given)) js ≡ true → all_used js ≡ true →
      arguments.is_some (format_directives c given) ≡ true →
      Some (typed.printf (given_format given) (typed_expressions_of (met_all (ints_wanted (format_directives c given)) js)))
      ≡ Some form → Formal form nothing line
  printed-formal c None js form line sees known h u some e = no_more some
  printed-formal c (Some g) js form line sees known h u some e =
      let n = some-there (directives_of c g.format) some in
      let fit : Fit objects scope (met_all (ints_wanted (directives_of c g.format)) js) (ints_wanted (directives_of c g.format)) =
      fit-met (ints_wanted (directives_of c g.format)) js h u known in
      formal-as _ form e
      (print-formal n.0 g.format line (lt_of_lt_of_le (directed c g.format n.0 n.1) sees.texts)
      (subst (λ (o : Option ℕ). Fit objects scope (met_all (ints_wanted (directives_of c g.format)) js) (ints_wanted o)) n.1
      fit))

  -- ---- each call

  library-formal : (c : Source) (l : Library) (given : Option Given) (js : List Judgement) (form : TypedForm) (line : ℕ) →
      Sees c scope → AllKnown js → fit_all (library_wanted c given js l) js ≡ true → library_asks c given js l ≡ true →
      all_used js ≡ true → library_form given l (met_all (library_wanted c given js l) js) ≡ Some form →
      Formal form (library_type js l) line
  library-formal c lib.Printf given js form line sees known h asks u e =
      printed-formal c given js form line sees known h u asks e
  library-formal c lib.Sync given js form line sees known h asks u e = formal-as _ form e (sync-formal line)
  library-formal c lib.Barrier given js form line sees known h asks u e = formal-as _ form e (barrier-formal line)
  library-formal c lib.AllStoreSync given js form line sees known h asks u e = formal-as _ form e (all_store_sync-formal line)
  library-formal c lib.ToGlobal given js form line sees known h asks u e =
      global-formal _ line (fit-met (to_global_wanted js) js h u known) e
  library-formal c lib.ToProc given js form line sees known h asks u e =
      proc-formal line (wide-argument js h u asks) (fit-met (type_or_int (first_known js) ∷ []) js h u known) e
  library-formal c lib.ToLocal given js form line sees known h asks u e =
      local-formal line (wide-argument js h u asks) (fit-met (type_or_int (first_known js) ∷ []) js h u known) e
  library-formal c lib.BulkRead given js form line sees known h asks u e =
      copy-formal _ _ _ lib.BulkRead line read_copies (fit-met (library_wanted c given js lib.BulkRead) js h u known) e
  library-formal c lib.BulkWrite given js form line sees known h asks u e =
      copy-formal _ _ _ lib.BulkWrite line write_copies (fit-met (library_wanted c given js lib.BulkWrite) js h u known) e
  library-formal c lib.BulkGet given js form line sees known h asks u e =
      copy-formal _ _ _ lib.BulkGet line get_copies (fit-met (library_wanted c given js lib.BulkGet) js h u known) e
  library-formal c lib.BulkPut given js form line sees known h asks u e =
      copy-formal _ _ _ lib.BulkPut line put_copies (fit-met (library_wanted c given js lib.BulkPut) js h u known) e
  library-formal c lib.BulkStore given js form line sees known h asks u e =
      copy-formal _ _ _ lib.BulkStore line store_copies (fit-met (library_wanted c given js lib.BulkStore) js h u known) e

  pub library-whole : (c : Source) (l : Library) (given : Option Given) (js : List Judgement) (spot : Spot) (v : Valued) →
      Sees c scope → AllKnown js → (library_call c l given js spot).known ≡ Some v →
      Whole objects scope (library_call c l given js spot) v
  unfolding library_call
  library-whole c l given js spot v sees known h =
      let m =
      formed (library_kept c l given js && all_used js) (library_form given l (met_all (library_wanted c given js l) js))
      (call_value spot (library_type js l)) v h in
      let kept = left_of (library_kept c l given js) (all_used js) m.rule in
      let f =
      library-formal c l given js m.of spot.line sees known
      (left_of (fit_all (library_wanted c given js l) js) (library_asks c given js l) kept)
      (right_of (fit_all (library_wanted c given js l) js) (library_asks c given js l) kept)
      (right_of (library_kept c l given js) (all_used js) m.rule) m.is in
      whole-as objects scope _ v m.gives
      (acting-whole objects scope m.of (library_type js l) false spot _ refl refl f.nameless f.found f.acts)

  -- ---- what a call names

  called-there : (c : Source) (n f : ℕ) → definition_called c n ≡ Some f → (d : Definition) × (slice_get c.definitions f ≡ Some d)
  called-there c n f h =
      let blank : Definition = record { name = 0; at = 0; result = int; params = [] } in
      (_, slice_get-get_or c.definitions f blank (position-Some _ c.definitions f blank h).0)

  first-there : (c : Source) (n f : ℕ) (object function : Option ℕ) → definition_called c n ≡ function →
      declared_first c object function ≡ means.Function f → (d : Definition) × (slice_get c.definitions f ≡ Some d)
  first-there c n f None None same h = absurd (let z : means.Nothing ≡ means.Function f = h in cc)
  first-there c n f (Some o) None same h = absurd (let z : means.Object o ≡ means.Function f = h in cc)
  first-there c n f None (Some g) same h =
      called-there c n f (same ∙ (let z : means.Function g ≡ means.Function f = h in cc))
  first-there c n f (Some o) (Some g) same h = go (nat_lt (object_token c o) (definition_token c g)) h
    where
      go : (t : Bool) → (if t then means.Object o else means.Function g) ≡ means.Function f →
          (d : Definition) × (slice_get c.definitions f ≡ Some d)
      go true e = absurd (let z : means.Object o ≡ means.Function f = e in cc)
      go false e = called-there c n f (same ∙ (let z : means.Function g ≡ means.Function f = e in cc))

  function-there : (c : Source) (n f : ℕ) → meaning_of c n ≡ means.Function f →
      (d : Definition) × (slice_get c.definitions f ≡ Some d)
  unfolding meaning_of
  function-there c n f h = go (library_named c n) h
    where
      go : (l : Option Library) →
          library_first l (declared_first c (object_called c n) (definition_called c n)) ≡ means.Function f →
          (d : Definition) × (slice_get c.definitions f ≡ Some d)
      go None e = first-there c n f (object_called c n) (definition_called c n) refl e
      go (Some l) e = absurd (let z : means.Library l ≡ means.Function f = e in cc)

  pub call-whole : (c : Source) (locals : List InScope) (n : ℕ) (given : Option Given) (js : List Judgement) (spot : Spot)
      (v : Valued) → Sees c scope → AllKnown js → (call_of c (called_meaning c locals n) given js spot).known ≡ Some v →
      Whole objects scope (call_of c (called_meaning c locals n) given js spot) v
  unfolding call_of called_meaning
  call-whole c locals n given js spot v sees known h = by_local (innermost n locals) h
    where
      by_meaning : (m : Meaning) → meaning_of c n ≡ m → (call_of c (Some m) given js spot).known ≡ Some v →
          Whole objects scope (call_of c (Some m) given js spot) v
      by_meaning (means.Library l) e x = library-whole c l given js spot v sees known x
      by_meaning (means.Function f) e x =
          let d = function-there c n f e in function-whole c f d.0 js spot v d.1 sees known x
      by_meaning (means.Object o) e x = never_some x
      by_meaning means.Nothing e x = never_some x

      by_local : (l : Option InScope) → (call_of c (unless_local c n l) given js spot).known ≡ Some v →
          Whole objects scope (call_of c (unless_local c n l) given js spot) v
      by_local None x = by_meaning (meaning_of c n) refl x
      by_local (Some l) x = never_some x
