-- The core's scope as statements follow one another: what has begun stays so, and locals keep their kinds.
use Rattle.std.proofs.Common.{◌≡◌, refl, sym, ◌∙◌, ap, subst, ℕ, zero, suc, ◌+◌, arith, Bool, List, [], ◌∷◌, ◌++◌, length, ⊎_elim}
use Rattle.std.specs.Prelude.{Option, Some, None, slice_get}
use Rattle.std.specs.List.{Contains}
use Rattle.std.proofs.lemmas.List.Elements.{Contains-append_left, Contains-append_right, Contains-append_cases}
use Rattle.sc_base.specs.declared.shape.Star.{Star}
use Rattle.sc_base.specs.declared.shape.Shape.{Shape}
use Rattle.sc_base.specs.declared.shape.Ty.{Ty}
use Rattle.sc_tree.specs.PlainTyped.{TypedExpression}
use Rattle.sc_typing.specs.declared.file.Definition.{Definition}
use Rattle.sc_typing.specs.declared.scope.InScope.{InScope}
use Rattle.sc_typing.specs.Source.{Source}
use Rattle.sc_core.specs.Core.{Does, nothing, break, continue, then_, act, choose, loop, return}
use Rattle.sc_core.specs.Places.{is_pointer, without_last}
use Rattle.sc_core.specs.Expressions.{star_of, value_of}
use Rattle.sc_core.specs.Statements.{mine_first}
use Rattle.sc_core.specs.Kinds.{Kind, kind_of_type, Scope, IsLocal}
use Rattle.sc_core.specs.Typed.{begins, after, IsTypedDoes}
use Rattle.core_typing.proofs.Types.{points}
use Rattle.core_typing.proofs.Made.{never_some}
use Rattle.core_typing.proofs.Finds.{Finds, value-gives, value-points, star-is}
use Rattle.core_typing.proofs.Seen.{Defines, Sees, AllBegun, none_begun, more_begun}

-- ---- what has begun

pub begun-more : (scope : Scope) (xs ys : List ℕ) → ((x : ℕ) → Contains xs x → Contains ys x) → {ls : List InScope} →
    AllBegun (record scope { begun = xs }) ls → AllBegun (record scope { begun = ys }) ls
begun-more scope xs ys f none_begun = none_begun
begun-more scope xs ys f (more_begun {l = l} b bs) = more_begun (b.0, f l.number b.1) (begun-more scope xs ys f bs)

pub begun-after : (scope : Scope) (s : Does) {ls : List InScope} → AllBegun scope ls → AllBegun (after scope s) ls
begun-after scope s bs =
    begun-more scope scope.begun (begins s ++ scope.begun)
    (λ x h. Contains-append_right (begins s) scope.begun x h) bs

pub begun-then : (scope : Scope) (first second : Does) {ls : List InScope} →
    AllBegun (after (after scope first) second) ls → AllBegun (after scope (then_ first second)) ls
begun-then scope first second bs =
    begun-more scope (begins second ++ (begins first ++ scope.begun))
    ((begins first ++ begins second) ++ scope.begun) there bs
  where
    early : (x : ℕ) → Contains (begins first ++ scope.begun) x → Contains ((begins first ++ begins second) ++ scope.begun) x
    early x h =
        ⊎_elim
        (λ a. Contains-append_left (begins first ++ begins second) scope.begun x
        (Contains-append_left (begins first) (begins second) x a))
        (λ a. Contains-append_right (begins first ++ begins second) scope.begun x a)
        (Contains-append_cases (begins first) scope.begun x h)

    there : (x : ℕ) → Contains (begins second ++ (begins first ++ scope.begun)) x →
        Contains ((begins first ++ begins second) ++ scope.begun) x
    there x h =
        ⊎_elim
        (λ a. Contains-append_left (begins first ++ begins second) scope.begun x
        (Contains-append_right (begins first) (begins second) x a))
        (early x) (Contains-append_cases (begins second) (begins first ++ scope.begun) x h)

pub sees-after : (c : Source) (scope : Scope) (s : Does) → Sees c scope → Sees c (after scope s)
sees-after c scope s sees = record {
  objects = sees.objects;
  functions = λ n d h. defined d n (sees.functions n d h);
  texts = sees.texts;
}
  where
    defined : (d : Definition) (n : ℕ) → Defines scope n d → Defines (after scope s) n d
    defined d n f = record { function = f.function; there = f.there; params = f.params; result = f.result }

-- ---- the kinds of locals

-- the locals from this one on have these types
pub record Numbered (scope : Scope) (next : ℕ) (types : List Ty) : Type 0 where
  pub is : (i : ℕ) (ty : Ty) → slice_get types i ≡ Some ty → slice_get scope.locals (next + i) ≡ Some (kind_of_type ty)

pub numbered-after : (scope : Scope) (s : Does) {next : ℕ} {types : List Ty} → Numbered scope next types →
    Numbered (after scope s) next types
numbered-after scope s n = record { is = n.is }

get-front : (xs ys : List Ty) (i : ℕ) (ty : Ty) → slice_get xs i ≡ Some ty → slice_get (xs ++ ys) i ≡ Some ty
get-front [] ys i ty h = never_some h
get-front (x ∷ xs) ys zero ty h = h
get-front (x ∷ xs) ys (suc i) ty h = get-front xs ys i ty h

get-back : (xs ys : List Ty) (i : ℕ) → slice_get (xs ++ ys) (length xs + i) ≡ slice_get ys i
get-back [] ys i =
    let e : length {A = Ty} [] + i ≡ i = omega arith in
    ap (slice_get ys) e
get-back (x ∷ xs) ys i =
    let e : length (x ∷ xs) + i ≡ suc (length xs + i) = omega arith in
    rw e (get-back xs ys i)

pub numbered-front : {scope : Scope} {next : ℕ} (xs ys : List Ty) → Numbered scope next (xs ++ ys) →
    Numbered scope next xs
numbered-front xs ys n = record { is = λ i ty h. n.is i ty (get-front xs ys i ty h) }

pub numbered-back : {scope : Scope} (next : ℕ) (xs ys : List Ty) → Numbered scope next (xs ++ ys) →
    Numbered scope (next + length xs) ys
numbered-back {scope = scope} next xs ys n = record { is = back }
  where
    back : (i : ℕ) (ty : Ty) → slice_get ys i ≡ Some ty →
        slice_get scope.locals ((next + length xs) + i) ≡ Some (kind_of_type ty)
    back i ty h =
        let e : (next + length xs) + i ≡ next + (length xs + i) = omega arith in
        rw e (n.is (length xs + i) ty (get-back xs ys i ∙ h))

pub numbered-first : {scope : Scope} (next : ℕ) (ty : Ty) (more : List Ty) → Numbered scope next (ty ∷ more) →
    IsLocal scope next (kind_of_type ty)
numbered-first {scope = scope} next ty more n =
    let e : next + 0 ≡ next = omega arith in
    subst (λ (x : ℕ). slice_get scope.locals x ≡ Some (kind_of_type ty)) e (n.is 0 ty refl)

pub numbered-rest : {scope : Scope} (next : ℕ) (ty : Ty) (more : List Ty) → Numbered scope next (ty ∷ more) →
    Numbered scope (next + 1) more
numbered-rest {scope = scope} next ty more n = record { is = back }
  where
    back : (i : ℕ) (t : Ty) → slice_get more i ≡ Some t → slice_get scope.locals ((next + 1) + i) ≡ Some (kind_of_type t)
    back i t h =
        let e : (next + 1) + i ≡ next + suc i = omega arith in
        rw e (n.is (suc i) t h)

-- ---- statements one after the other

module _ (result : Kind) (breaks continues : Bool) where
  -- a loop of a `for_my_1d` stands only behind its first assignment
  mine-alone : (scope : Scope) (x : ℕ) (a b d more : Does) →
      IsTypedDoes scope result breaks continues (then_ (loop (Some x) a b d) more) → ⊥
  mine-alone scope x a b d (then_ (loop (Some y) e f g) more) h =
      let l = h.0 in
      never (loop (Some x) a b d) y l.line refl l.begins_at
    where
      never : (s : Does) (y line : ℕ) → s ≡ loop (Some x) a b d → s ≡ mine_first y line → ⊥
      never s y line p q = let z : loop (Some x) a b d ≡ mine_first y line = sym p ∙ q in cc
  mine-alone scope x a b d (then_ (loop None e f g) more) h = h.0
  mine-alone scope x a b d (then_ nothing more) h = h.0
  mine-alone scope x a b d (then_ break more) h = h.0
  mine-alone scope x a b d (then_ continue more) h = h.0
  mine-alone scope x a b d (then_ (then_ e f) more) h = h.0
  mine-alone scope x a b d (then_ (act e f g) more) h = h.0
  mine-alone scope x a b d (then_ (choose e f g i) more) h = h.0
  mine-alone scope x a b d (then_ (return e f) more) h = h.0
  mine-alone scope x a b d nothing h = h.0
  mine-alone scope x a b d break h = h.0
  mine-alone scope x a b d continue h = h.0
  mine-alone scope x a b d (act e f g) h = h.0
  mine-alone scope x a b d (choose e f g i) h = h.0
  mine-alone scope x a b d (loop e f g i) h = h.0
  mine-alone scope x a b d (return e f) h = h.0

  pub then-typed : (scope : Scope) (first second : Does) → IsTypedDoes scope result breaks continues first →
      IsTypedDoes (after scope first) result breaks continues second →
      IsTypedDoes scope result breaks continues (then_ first second)
  then-typed scope first (then_ (loop (Some x) a b d) more) h g = absurd (mine-alone (after scope first) x a b d more g)
  then-typed scope first (then_ (loop None a b d) more) h g = (h, g)
  then-typed scope first (then_ nothing more) h g = (h, g)
  then-typed scope first (then_ break more) h g = (h, g)
  then-typed scope first (then_ continue more) h g = (h, g)
  then-typed scope first (then_ (then_ a b) more) h g = (h, g)
  then-typed scope first (then_ (act a b d) more) h g = (h, g)
  then-typed scope first (then_ (choose a b d e) more) h g = (h, g)
  then-typed scope first (then_ (return a b) more) h g = (h, g)
  then-typed scope first nothing h g = (h, g)
  then-typed scope first break h g = (h, g)
  then-typed scope first continue h g = (h, g)
  then-typed scope first (act a b d) h g = (h, g)
  then-typed scope first (choose a b d e) h g = (h, g)
  then-typed scope first (loop a b d e) h g = (h, g)
  then-typed scope first (return a b) h g = (h, g)

  -- a test of a whole number or a pointer
  pub choose-typed : (objects : List Shape) (scope : Scope) {ss : List Star} {e : TypedExpression} (on off : Does) →
      Finds objects scope ss e → IsTypedDoes scope result breaks continues on →
      IsTypedDoes scope result breaks continues off →
      IsTypedDoes scope result breaks continues (choose (is_pointer (star_of e)) (value_of objects e) on off)
  choose-typed objects scope {ss = []} {e = e} on off f a b =
      subst (λ (s : Option Star). IsTypedDoes scope result breaks continues (choose (is_pointer s) (value_of objects e) on off))
      (sym (star-is objects scope f)) ((value-gives objects scope f).has, a, b)
  choose-typed objects scope {ss = s ∷ ss} {e = e} on off f a b =
      let p = points (s ∷ ss) refl in
      subst (λ (s : Option Star). IsTypedDoes scope result breaks continues (choose (is_pointer s) (value_of objects e) on off))
      (sym (star-is objects scope f ∙ p.last))
      (without_last (s ∷ ss), (value-points objects scope f p).has, a, b)
