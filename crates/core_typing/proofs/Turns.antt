-- The name of a `for_my_1d` is a local whole number that has begun.
use Rattle.std.proofs.Common.{◌≡◌, refl, subst, ℕ, Bool, true, false, List, min}
use Rattle.std.specs.Prelude.{Option, Some, None, slice_get, is_some}
use Rattle.sc_base.specs.declared.shape.Shape.{Shape}
use Rattle.sc_typing.specs.declared.file.Meaning.{Meaning}
use Rattle.sc_typing.specs.declared.file.Meaning.TheVariants as means
use Rattle.sc_typing.specs.declared.known.Spot.{Spot}
use Rattle.sc_typing.specs.declared.places.PlaceKind.{PlaceKind}
use Rattle.sc_typing.specs.declared.scope.InScope.{InScope}
use Rattle.sc_typing.specs.Types.{is_int}
use Rattle.sc_typing.specs.Source.{Source, meaning_of, dimensions, has_its_indices}
use Rattle.sc_typing.specs.Scope.{innermost}
use Rattle.sc_typing.specs.Places.{may_be_local, object_place}
use Rattle.sc_typing.specs.Naming.{object_value, object_if, object_named, meaning_named, name_in, named}
use Rattle.sc_typing.specs.Rules
use Rattle.core_typing.proofs.Types.{left_of, no_more}
use Rattle.core_typing.proofs.JudgedNames.{Stands, with_all, with_most, stands}

pub record IsTurner (locals : List InScope) (n : ℕ) : Type 0 where
  pub it : InScope
  pub is : innermost n locals ≡ Some it
  pub number : is_int it.ty ≡ true

no-object : (s : Shape) (taken : ℕ) → has_its_indices s taken ≡ true → may_be_local (object_place s taken) ≡ true → ⊥
no-object s taken h l = go (stands s taken h)
  where
    go : Stands s taken → ⊥
    go (with_all t ty p) = no_more (subst (λ (p : PlaceKind). may_be_local p ≡ true) p l)
    go (with_most t ty p) = no_more (subst (λ (p : PlaceKind). may_be_local p ≡ true) p l)

pub turner : (c : Source) (locals : List InScope) (n : ℕ) (spot : Spot) →
    is_some (named c locals 0 n spot).known ≡ true → Rules.turns_kept (named c locals 0 n spot) ≡ true →
    IsTurner locals n
unfolding named
turner c locals n spot some kept = by_local (innermost n locals) refl some kept
  where
    by_object : (o : ℕ) (object : Option Shape) → is_some (object_named o 0 object spot).known ≡ true →
        may_be_local (object_named o 0 object spot).place ≡ true → ⊥
    by_object o None h l = no_more h
    by_object o (Some s) h l = go (has_its_indices s (min 0 (dimensions s))) refl h
      where
        go : (kept : Bool) → has_its_indices s (min 0 (dimensions s)) ≡ kept →
            is_some (object_if kept (object_value o (min 0 (dimensions s)) s spot)) ≡ true → ⊥
        go false k x = no_more x
        go true k x = no-object s (min 0 (dimensions s)) k l

    by_meaning : (m : Meaning) → is_some (meaning_named c 0 m spot).known ≡ true →
        may_be_local (meaning_named c 0 m spot).place ≡ true → ⊥
    by_meaning (means.Object o) h l = by_object o (slice_get c.objects o) h l
    by_meaning (means.Function f) h l = no_more h
    by_meaning (means.Library l) h x = no_more h
    by_meaning means.Nothing h l = no_more h

    by_local : (l : Option InScope) → innermost n locals ≡ l → is_some (name_in c 0 n spot l).known ≡ true →
        Rules.turns_kept (name_in c 0 n spot l) ≡ true → IsTurner locals n
    by_local None e h k =
        absurd
        (by_meaning (meaning_of c n) h
        (left_of (may_be_local (meaning_named c 0 (meaning_of c n) spot).place)
        (Rules.are_int (meaning_named c 0 (meaning_of c n) spot).known) k))
    by_local (Some l) e h k = record { it = l; is = e; number = k }
