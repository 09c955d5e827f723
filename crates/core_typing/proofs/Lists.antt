-- What chains, `&&` and `||`, and calls come to, whose operands are lists.
use Rattle.std.proofs.Common.{◌≡◌, refl, sym, ◌∙◌, ap, ℕ, suc, ◌+◌, arith, List, [], ◌∷◌, ◌++◌, length}
use Rattle.std.specs.Prelude.{Option, Some, None, map, slice_get}
use Rattle.sc_base.specs.declared.operator.Binary.{Binary}
use Rattle.sc_base.specs.declared.operator.Binary.TheVariants as op
use Rattle.sc_base.specs.declared.shape.Star.{Star}
use Rattle.sc_base.specs.declared.shape.Shape.{Shape}
use Rattle.sc_base.specs.declared.shape.Ty.{Ty}
use Rattle.sc_tree.specs.declared.typed.Named.TheVariants as named_as
use Rattle.sc_tree.specs.PlainTyped.{TypedExpression, TypedLink}
use Rattle.sc_tree.specs.PlainTyped as typed
use Rattle.sc_tree.specs.ViewTyped.{typed_expressions_of, typed_links_of}
use Rattle.sc_core.specs.Core.{Core, Function}
use Rattle.sc_core.specs.Places.{last_of, without_last, operation_on, star_after, with_two}
use Rattle.sc_core.specs.Expressions.{star_of, count_of, value_of, values_of, found_form, joined, every, any}
use Rattle.sc_core.specs.Kinds.{Kind, number, to, kind_of, kind_of_type, Scope, Takes, numbers}
use Rattle.sc_core.specs.Kinds as kinds
use Rattle.core_typing.proofs.Types.{Points, kind-push}
use Rattle.core_typing.proofs.Cores.{Gives, GiveAll, gives-as, no-arguments, one-more, gives-step, gives-one, gives-two, number-value, gives-zero, gives-one_number}
use Rattle.core_typing.proofs.Founds.{FoundIs, a_value}
use Rattle.core_typing.proofs.Finds.{Finds, value-gives, star-is, value-points}
use Rattle.core_typing.proofs.Forms.{Operates, on_number, computes-on, tested-gives}

-- the last star of the type of a chain behind these links
abbrev pub star_behind : Option Star → List TypedLink → Option Star
star_behind s [] = s
star_behind s (typed.link o e at line ∷ more) = star_behind (star_after o s) more

star_behind-push : (s : Option Star) (rest : List TypedLink) (o : Binary) (e : TypedExpression) (at line : ℕ) →
    star_behind s (rest ++ typed.link o e at line ∷ []) ≡ star_after o (star_behind s rest)
star_behind-push s [] o e at line = refl
star_behind-push s (typed.link p f a l ∷ rest) o e at line = star_behind-push (star_after p s) rest o e at line

star_after-number : (o : Binary) → star_after o None ≡ None
star_after-number op.Add = refl
star_after-number op.Sub = refl
star_after-number _ = refl

module _ (objects : List Shape) (scope : Scope) where
  abbrev E : List Star → TypedExpression → Type 0
  E ss e = Finds objects scope ss e

  -- ---- chains

  joined-push : (s : Option Star) (left : Core) (rest : List TypedLink) (o : Binary) (e : TypedExpression) (at line : ℕ) →
      joined objects s left (typed_links_of (rest ++ typed.link o e at line ∷ []))
      ≡ with_two (operation_on (star_behind s rest) o) (joined objects s left (typed_links_of rest)) (value_of objects e) line
  unfolding joined
  joined-push s left [] o e at line = refl
  joined-push s left (typed.link p f a l ∷ rest) o e at line =
      joined-push (star_after p s) (with_two (operation_on s p) left (value_of objects f) l) rest o e at line

  -- the chain of these links has a type with these stars
  pub record Chained (first : TypedExpression) (rest : List TypedLink) (ss : List Star) : Type 0 where
    pub gives : Gives scope (joined objects (star_of first) (value_of objects first) (typed_links_of rest)) (kind_of ss)
    pub star : star_behind (star_of first) rest ≡ last_of ss

  pub chained-first : {first : TypedExpression} {ss : List Star} → E ss first → Chained first [] ss
  unfolding joined
  chained-first f = record { gives = value-gives objects scope f; star = star-is objects scope f }

  chained-push : {first : TypedExpression} {rest : List TypedLink} {ss ts : List Star} {j : Kind} (e : TypedExpression)
      (o : Binary) (at line : ℕ) → Chained first rest ss →
      Takes scope (operation_on (last_of ss) o) (kind_of ss ∷ j ∷ []) (kind_of ts) →
      star_after o (last_of ss) ≡ last_of ts → Gives scope (value_of objects e) j →
      Chained first (rest ++ typed.link o e at line ∷ []) ts
  chained-push {first = first} {rest = rest} e o at line c t s g = record {
    gives =
        rw (joined-push (star_of first) (value_of objects first) rest o e at line, c.star)
        (gives-two scope line c.gives g t);
    star = star_behind-push (star_of first) rest o e at line ∙ ap (star_after o) c.star ∙ s;
  }

  -- a whole number behind a whole number or a pointer that it moves, which stays one
  pub chained-moved : {first : TypedExpression} {rest : List TypedLink} {ss : List Star} {e : TypedExpression}
      (o : Binary) (at line : ℕ) → Operates ss o → star_after o (last_of ss) ≡ last_of ss → Chained first rest ss →
      E [] e → Chained first (rest ++ typed.link o e at line ∷ []) ss
  chained-moved {e = e} o at line operates s c f =
      chained-push e o at line c (kinds.computes (computes-on operates)) s (value-gives objects scope f)

  -- two whole numbers
  pub chained-number : {first : TypedExpression} {rest : List TypedLink} {e : TypedExpression}
      (o : Binary) (at line : ℕ) → Chained first rest [] → E [] e →
      Chained first (rest ++ typed.link o e at line ∷ []) []
  chained-number o at line c f = chained-moved o at line (on_number refl) (star_after-number o) c f

  -- two pointers that are compared
  pub chained-equal : {first : TypedExpression} {rest : List TypedLink} {ss ts : List Star} {e : TypedExpression}
      (at line : ℕ) → Points ss → Points ts → without_last ss ≡ without_last ts → Chained first rest ss → E ts e →
      Chained first (rest ++ typed.link op.Eq e at line ∷ []) []
  chained-equal {e = e} at line p q same c f =
      chained-push e op.Eq at line c (rw (p.last, p.kind) kinds.same) refl
      (gives-as scope (ap to (sym same)) (value-points objects scope f q))

  pub chained-differ : {first : TypedExpression} {rest : List TypedLink} {ss ts : List Star} {e : TypedExpression}
      (at line : ℕ) → Points ss → Points ts → without_last ss ≡ without_last ts → Chained first rest ss → E ts e →
      Chained first (rest ++ typed.link op.Ne e at line ∷ []) []
  chained-differ {e = e} at line p q same c f =
      chained-push e op.Ne at line c (rw (p.last, p.kind) kinds.differ) refl
      (gives-as scope (ap to (sym same)) (value-points objects scope f q))

  pub chain-comes : {first : TypedExpression} {rest : List TypedLink} {ss : List Star} (line : ℕ) →
      Chained first rest ss → FoundIs scope ss (found_form objects (typed.chain first (typed_links_of rest)) line)
  unfolding found_form
  chain-comes line c = a_value c.gives

  -- ---- operands of `&&` and `||`

  pub data AllFind : List TypedExpression → Type 0 where
    none_found : AllFind []
    more_found : {ss : List Star} {e : TypedExpression} {es : List TypedExpression} → E ss e → AllFind es → AllFind (e ∷ es)

  pub all-push : {ss : List Star} {e : TypedExpression} {es : List TypedExpression} → AllFind es → E ss e → AllFind (es ++ e ∷ [])
  all-push none_found f = more_found f none_found
  all-push (more_found g gs) f = more_found g (all-push gs f)

  every-gives : {es : List TypedExpression} → AllFind es → Gives scope (every objects (typed_expressions_of es)) number
  unfolding every
  every-gives none_found = gives-one_number scope
  every-gives (more_found f fs) = tested-gives objects scope f (number-value scope) (every-gives fs) (gives-zero scope)

  any-gives : {es : List TypedExpression} → AllFind es → Gives scope (any objects (typed_expressions_of es)) number
  unfolding any
  any-gives none_found = gives-zero scope
  any-gives (more_found f fs) = tested-gives objects scope f (number-value scope) (gives-one_number scope) (any-gives fs)

  pub both-comes : {es : List TypedExpression} (line : ℕ) → AllFind es →
      FoundIs scope [] (found_form objects (typed.both (typed_expressions_of es)) line)
  unfolding found_form
  both-comes line fs = a_value (every-gives fs)

  pub either-comes : {es : List TypedExpression} (line : ℕ) → AllFind es →
      FoundIs scope [] (found_form objects (typed.either (typed_expressions_of es)) line)
  unfolding found_form
  either-comes line fs = a_value (any-gives fs)

  -- ---- calls

  -- as many arguments as types, and each of its type
  pub data Fit : List TypedExpression → List Ty → Type 0 where
    none_fit : Fit [] []
    more_fit : {e : TypedExpression} {es : List TypedExpression} {ty : Ty} {wanted : List Ty} → E ty.stars e → Fit es wanted →
        Fit (e ∷ es) (ty ∷ wanted)

  pub fit-gives : {es : List TypedExpression} {wanted : List Ty} → Fit es wanted →
      GiveAll scope (values_of objects (typed_expressions_of es)) (map kind_of_type wanted)
  unfolding values_of
  fit-gives none_fit = no-arguments scope
  fit-gives (more_fit f fs) = one-more scope (value-gives objects scope f) (fit-gives fs)

  pub fit-count : {es : List TypedExpression} {wanted : List Ty} → Fit es wanted →
      count_of (typed_expressions_of es) ≡ length wanted
  fit-count none_fit = refl
  fit-count (more_fit {wanted = wanted} f fs) =
      let e = fit-count fs in
      let n : 1 + length wanted ≡ suc (length wanted) = omega arith in
      ap (λ (k : ℕ). 1 + k) e ∙ n

  pub call-comes : {es : List TypedExpression} {wanted : List Ty} (called : ℕ) (f : Function) (line : ℕ) →
      slice_get scope.functions called ≡ Some f → f.params ≡ wanted → Fit es wanted →
      FoundIs scope f.result.stars (found_form objects (typed.call (named_as.Function called) (typed_expressions_of es)) line)
  unfolding found_form
  call-comes {es = es} {wanted = wanted} called f line there same fs =
      a_value (gives-step scope line (fit-gives fs)
      (rw (fit-count fs, ← same) (kinds.call {f = f} there)))

  pub to_global-comes : {node e : TypedExpression} {ss cell : List Star} (s : Star) (line : ℕ) → E [] node → E ss e →
      kind_of ss ≡ to cell → FoundIs scope (cell ++ s ∷ []) (found_form objects (typed.to_global node e) line)
  unfolding found_form
  to_global-comes {cell = cell} s line n f same =
      a_value (gives-as scope (sym (kind-push cell s))
      (gives-two scope line (value-gives objects scope n) (gives-as scope same (value-gives objects scope f)) kinds.to_global))

  pub to_proc-comes : {e : TypedExpression} {ss : List Star} (line : ℕ) → Points ss → E ss e →
      FoundIs scope [] (found_form objects (typed.to_proc e) line)
  unfolding found_form
  to_proc-comes line p f = a_value (gives-one scope line (value-points objects scope f p) kinds.to_proc)

  pub to_local-comes : {e : TypedExpression} {ss : List Star} (s : Star) (line : ℕ) → Points ss → E ss e →
      FoundIs scope (without_last ss ++ s ∷ []) (found_form objects (typed.to_local e) line)
  unfolding found_form
  to_local-comes {ss = ss} s line p f =
      a_value (gives-as scope (sym (kind-push (without_last ss) s))
      (gives-one scope line (value-points objects scope f p) kinds.to_local))
