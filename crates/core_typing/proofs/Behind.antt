-- What postfix expressions come to: an object with its indices, and what stands behind any other part.
use Rattle.std.proofs.Common.{◌≡◌, refl, sym, ◌∙◌, ap, subst, ℕ, suc, ◌+◌, arith, Bool, true, false, ◌&&◌, List, [], ◌∷◌, ◌++◌, length, append_assoc, append-nil}
use Rattle.std.specs.Prelude.{Some, None, slice_get, nat_eq}
use Rattle.sc_base.specs.declared.operator.Binary.TheVariants as op
use Rattle.sc_base.specs.declared.shape.Star.{Star}
use Rattle.sc_base.specs.declared.shape.Shape.{Shape}
use Rattle.sc_tree.specs.declared.typed.Named.TheVariants as named_as
use Rattle.sc_tree.specs.PlainTyped.{TypedExpression, TypedTail}
use Rattle.sc_tree.specs.PlainTyped as typed
use Rattle.sc_tree.specs.ViewTyped.{typed_tails_of}
use Rattle.sc_core.specs.Core.{Arguments, none}
use Rattle.sc_core.specs.Places.{Found, without_last, dimensions_of, object_with}
use Rattle.sc_core.specs.Expressions.{type_of, line_of, value_of, found, found_form, object_named, is_plain, behind_all, stars_behind, indices_found, tails_found, tail_found}
use Rattle.sc_core.specs.Kinds.{Kind, number, to, kind_of, Scope, HasIndices, numbers}
use Rattle.sc_core.specs.Kinds as kinds
use Rattle.core_typing.proofs.Types.{Points, kind-push}
use Rattle.core_typing.proofs.Cores.{GiveAll, gives-as, no-arguments, one-number-more, gives-step, gives-two}
use Rattle.core_typing.proofs.Founds.{FoundIs, a_value, a_cell, fetched-gives, behind-is, cell-named}
use Rattle.core_typing.proofs.Finds.{Finds, value-gives}
use Rattle.core_typing.proofs.Forms.{Operates, stepped-after-is}

pub same-number : (n : ℕ) → nat_eq n n ≡ true
same-number n = grind arith

pub other-number : (m n : ℕ) → m + 1 ≡ n → nat_eq m n ≡ false
other-number m n h = grind arith

module _ (objects : List Shape) (scope : Scope) where
  abbrev E : List Star → TypedExpression → Type 0
  E ss e = Finds objects scope ss e

  -- ---- what stands behind a part

  pub index-found : {ss : List Star} {what : Found} {e : TypedExpression} (at line : ℕ) → Points ss → FoundIs scope ss what →
      E [] e → FoundIs scope (without_last ss) (tail_found objects what ss (typed.index e at line))
  unfolding tail_found
  index-found {ss = ss} {what = what} {e = e} at line p f g =
      rw p.last
      (behind-is scope (Some p.star) line
      (gives-two scope line (gives-as scope p.kind (fetched-gives scope f)) (value-gives objects scope g)
      (kinds.computes kinds.forward)))

  pub up-found : {ss : List Star} {what : Found} (at line : ℕ) → Operates ss op.Add → Operates ss op.Sub →
      FoundIs scope ss what → FoundIs scope ss (tail_found objects what ss (typed.up at line))
  unfolding tail_found
  up-found at line up down f = stepped-after-is objects scope true line up down f

  pub down-found : {ss : List Star} {what : Found} (at line : ℕ) → Operates ss op.Add → Operates ss op.Sub →
      FoundIs scope ss what → FoundIs scope ss (tail_found objects what ss (typed.down at line))
  unfolding tail_found
  down-found at line up down f = stepped-after-is objects scope false line up down f

  -- The postfix expression so far comes to this, which has a type with these stars, and what stands behind it goes on
  -- from there.
  pub record Runs (first : TypedExpression) (rest : List TypedTail) (ss : List Star) (what : Found) : Type 0 where
    pub goes_on : (line : ℕ) (more : List TypedTail) →
        found_form objects (typed.postfix first (typed_tails_of (rest ++ more))) line
        ≡ tails_found objects what ss (typed_tails_of more)
    pub is : FoundIs scope ss what

  pub runs-first : {first : TypedExpression} {ss : List Star} → object_named first ≡ None → E ss first →
      Runs first [] ss (found objects first)
  unfolding found_form tails_found
  runs-first {first = first} {ss = ss} nameless f = record { goes_on = go; is = f.is }
    where
      go : (line : ℕ) (more : List TypedTail) →
          found_form objects (typed.postfix first (typed_tails_of ([] ++ more))) line
          ≡ tails_found objects (found objects first) ss (typed_tails_of more)
      go line more = rw (nameless, f.type_is) refl

  pub runs-push : {first : TypedExpression} {rest : List TypedTail} {ss : List Star} {what : Found} (t : TypedTail) →
      Runs first rest ss what → FoundIs scope (stars_behind ss t) (tail_found objects what ss t) →
      Runs first (rest ++ t ∷ []) (stars_behind ss t) (tail_found objects what ss t)
  unfolding tails_found
  runs-push {first = first} {rest = rest} {ss = ss} {what = what} t r f = record { goes_on = go; is = f }
    where
      go : (line : ℕ) (more : List TypedTail) →
          found_form objects (typed.postfix first (typed_tails_of ((rest ++ t ∷ []) ++ more))) line
          ≡ tails_found objects (tail_found objects what ss t) (stars_behind ss t) (typed_tails_of more)
      go line more = rw (append_assoc rest (t ∷ []) more) (r.goes_on line (t ∷ more))

  pub runs-comes : {first : TypedExpression} {rest : List TypedTail} {ss : List Star} {what : Found} (line : ℕ) →
      Runs first rest ss what → found_form objects (typed.postfix first (typed_tails_of rest)) line ≡ what
  unfolding tails_found
  runs-comes {first = first} {rest = rest} line r =
      ap (λ (ts : List TypedTail). found_form objects (typed.postfix first (typed_tails_of ts)) line) (sym (append-nil rest))
      ∙ r.goes_on line []

  -- ---- an object and its own indices

  -- So many indices of the object stand so far, and as many more as are left belong to it.
  pub record Own (first : TypedExpression) (rest : List TypedTail) (ss : List Star) (o left count : ℕ) : Type 0 where
    pub plain : Bool
    pub indices : Arguments
    pub at : ℕ
    pub goes_on : (line : ℕ) (more : List TypedTail) →
        found_form objects (typed.postfix first (typed_tails_of (rest ++ more))) line
        ≡ indices_found objects o left count plain indices at ss (typed_tails_of more)
    pub have : GiveAll scope indices (numbers count)

  pub own-first : {first : TypedExpression} {o : ℕ} → object_named first ≡ Some o →
      Own first [] (type_of first).stars o (dimensions_of objects o) 0
  unfolding found_form
  own-first {first = first} {o = o} n = record {
    plain = true;
    indices = none;
    at = line_of first;
    goes_on = λ line more. (rw n refl);
    have = no-arguments scope;
  }

  pub own-push : {first : TypedExpression} {rest : List TypedTail} {ss : List Star} {o left count : ℕ} {e : TypedExpression}
      (at line : ℕ) → Own first rest ss o (suc left) count → E [] e →
      Own first (rest ++ typed.index e at line ∷ []) ss o left (count + 1)
  unfolding indices_found
  own-push {first = first} {rest = rest} {ss = ss} {o = o} {left = left} {count = count} {e = e} at line w f = record {
    plain = w.plain && is_plain e;
    indices = behind_all w.indices (value_of objects e);
    at = line;
    goes_on = go;
    have =
        let n : suc count ≡ count + 1 = omega arith in
        subst (λ (n : ℕ). GiveAll scope (behind_all w.indices (value_of objects e)) (numbers n)) n
        (one-number-more scope w.indices count w.have (value-gives objects scope f));
  }
    where
      go : (l : ℕ) (more : List TypedTail) →
          found_form objects (typed.postfix first (typed_tails_of ((rest ++ typed.index e at line ∷ []) ++ more))) l
          ≡ indices_found objects o left (count + 1) (w.plain && is_plain e)
          (behind_all w.indices (value_of objects e)) line ss (typed_tails_of more)
      go l more =
          rw (append_assoc rest (typed.index e at line ∷ []) more) (w.goes_on l (typed.index e at line ∷ more))

  -- the object with all its indices, or with all but the last
  pub object-whole : (o : ℕ) (plain : Bool) {indices : Arguments} (line count : ℕ) (s : Shape) →
      slice_get objects o ≡ Some s → slice_get scope.objects o ≡ Some s → count ≡ length s.left + length s.right →
      GiveAll scope indices (numbers count) →
      FoundIs scope s.ty.stars (object_with objects o count plain indices line)
  object-whole o plain {indices = indices} line count s here there same gs =
      rw (same, here, same-number (length s.left + length s.right))
      (a_cell (cell-named scope s there (subst (λ (n : ℕ). GiveAll scope indices (numbers n)) same gs)))

  pub object-short : (o : ℕ) (plain : Bool) {indices : Arguments} (line count : ℕ) (s : Shape) (t : Star) →
      slice_get objects o ≡ Some s → slice_get scope.objects o ≡ Some s → count + 1 ≡ length s.left + length s.right →
      GiveAll scope indices (numbers count) →
      FoundIs scope (s.ty.stars ++ t ∷ []) (object_with objects o count plain indices line)
  object-short o plain line count s t here there same gs =
      rw (here, other-number count (length s.left + length s.right) same)
      (a_value (gives-as scope (sym (kind-push s.ty.stars t)) (gives-step scope line gs (kinds.address there bounds))))
    where
      bounds : HasIndices s count
      bounds = record { enough = omega (arith, same); not_more = omega (arith, same) }

  -- all indices stand, and what follows stands behind the object's cell
  pub own-all : {first : TypedExpression} {rest : List TypedTail} {ss : List Star} {o count : ℕ} →
      (w : Own first rest ss o 0 count) → FoundIs scope ss (object_with objects o count w.plain w.indices w.at) →
      Runs first rest ss (object_with objects o count w.plain w.indices w.at)
  unfolding indices_found tails_found
  own-all {first = first} {rest = rest} {ss = ss} {o = o} {count = count} w f = record { goes_on = go; is = f }
    where
      ends : (more : List TypedTail) →
          indices_found objects o 0 count w.plain w.indices w.at ss (typed_tails_of more)
          ≡ tails_found objects (object_with objects o count w.plain w.indices w.at) ss (typed_tails_of more)
      ends [] = refl
      ends (t ∷ more) = refl

      go : (line : ℕ) (more : List TypedTail) →
          found_form objects (typed.postfix first (typed_tails_of (rest ++ more))) line
          ≡ tails_found objects (object_with objects o count w.plain w.indices w.at) ss (typed_tails_of more)
      go line more = w.goes_on line more ∙ ends more

  -- the last index does not stand, and nothing follows
  pub own-short : {first : TypedExpression} {rest : List TypedTail} {ss : List Star} {o left count : ℕ} (line : ℕ) →
      (w : Own first rest ss o left count) →
      found_form objects (typed.postfix first (typed_tails_of rest)) line
      ≡ object_with objects o count w.plain w.indices w.at
  unfolding indices_found
  own-short {first = first} {rest = rest} line w =
      ap (λ (ts : List TypedTail). found_form objects (typed.postfix first (typed_tails_of ts)) line) (sym (append-nil rest))
      ∙ w.goes_on line []

  -- an object's name alone
  pub name-comes : (o line : ℕ) →
      found_form objects (typed.name (named_as.Object o)) line ≡ object_with objects o 0 true none line
  unfolding found_form
  name-comes o line = refl
