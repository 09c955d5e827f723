-- What a part of a function sees: objects, functions and texts as the core has them, and locals that have begun.
use Rattle.std.proofs.Common.{◌≡◌, subst, ℕ, zero, suc, ◌≤◌, Bool, true, false, cond, List, [], ◌∷◌, ◌++◌, length, take, reverse}
use Rattle.std.specs.Prelude.{Some, slice_get, find, nat_eq}
use mathlib.Core.List.{reverse-cons}
use Rattle.sc_base.specs.declared.shape.Shape.{Shape}
use Rattle.sc_typing.specs.declared.file.Definition.{Definition}
use Rattle.sc_typing.specs.declared.scope.InScope.{InScope}
use Rattle.sc_typing.specs.Source.{Source}
use Rattle.sc_typing.specs.Scope.{innermost}
use Rattle.sc_core.specs.Core.{Function}
use Rattle.sc_core.specs.Kinds.{kind_of_type, Scope, HasBegun}
use Rattle.core_typing.proofs.Made.{never_some, some-is}

-- the core's function of this number has this signature
pub record Defines (scope : Scope) (number : ℕ) (d : Definition) : Type 0 where
  pub function : Function
  pub there : slice_get scope.functions number ≡ Some function
  pub params : function.params ≡ d.params
  pub result : function.result ≡ d.result

-- the file's names mean in the core what typing took them to mean
pub record Sees (c : Source) (scope : Scope) : Type 0 where
  pub objects : (o : ℕ) (s : Shape) → slice_get c.objects o ≡ Some s → slice_get scope.objects o ≡ Some s
  pub functions : (n : ℕ) (d : Definition) → slice_get c.definitions n ≡ Some d → Defines scope n d
  pub texts : length c.texts ≤ scope.texts

-- each of the locals has begun, and has values of its type
pub data AllBegun (scope : Scope) : List InScope → Type 0 where
  none_begun : AllBegun scope []
  more_begun : {l : InScope} {more : List InScope} → HasBegun scope l.number (kind_of_type l.ty) → AllBegun scope more →
      AllBegun scope (l ∷ more)

module _ (scope : Scope) where
  pub begun-append : {xs ys : List InScope} → AllBegun scope xs → AllBegun scope ys → AllBegun scope (xs ++ ys)
  begun-append none_begun h = h
  begun-append (more_begun b bs) h = more_begun b (begun-append bs h)

  pub begun-take : (n : ℕ) {xs : List InScope} → AllBegun scope xs → AllBegun scope (take n xs)
  begun-take n none_begun = go n
    where
      go : (n : ℕ) → AllBegun scope (take n [])
      go zero = none_begun
      go (suc n) = none_begun
  begun-take zero (more_begun b bs) = none_begun
  begun-take (suc n) (more_begun b bs) = more_begun b (begun-take n bs)

  begun-reverse : {xs : List InScope} → AllBegun scope xs → AllBegun scope (reverse xs)
  begun-reverse none_begun = none_begun
  begun-reverse (more_begun {l = l} {more = more} b bs) =
      rw (reverse-cons l more) (begun-append (begun-reverse bs) (more_begun b none_begun))

  begun-find : (test : InScope → Bool) (l : InScope) {xs : List InScope} → AllBegun scope xs → find test xs ≡ Some l →
      HasBegun scope l.number (kind_of_type l.ty)
  begun-find test l none_begun h = never_some h
  begun-find test l (more_begun {l = m} {more = more} b bs) h = go (begun-find test l bs) (test m) h
    where
      go : (find test more ≡ Some l → HasBegun scope l.number (kind_of_type l.ty)) → (t : Bool) →
          cond t (Some m) (find test more) ≡ Some l → HasBegun scope l.number (kind_of_type l.ty)
      go further true e = subst (λ (l : InScope). HasBegun scope l.number (kind_of_type l.ty)) (some-is m l e) b
      go further false e = further e

  -- the local that a name means
  pub innermost-begun : (name : ℕ) (l : InScope) (locals : List InScope) → AllBegun scope locals →
      innermost name locals ≡ Some l → HasBegun scope l.number (kind_of_type l.ty)
  innermost-begun name l locals bs h = begun-find (λ l. nat_eq l.name name) l (begun-reverse bs) h
