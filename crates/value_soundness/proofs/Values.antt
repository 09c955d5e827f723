-- Values of a kind, and what may stand in a cell of a kind.
use Rattle.std.proofs.Common.{◌≡◌, ◌≢◌, ℕ, ◌^◌, ◌<◌, ℤ, Option, Some, None, false, List, [], ◌∷◌, ◌++◌, slice_get, IsSomeAnd, refl, sym, ap, ◌∙◌, subst}
use Rattle.std.specs.Prelude.{FitsSigned}
use Rattle.std.specs.Int.{w64}
use Rattle.std.specs.List.{Contains}
use Rattle.sc_base.specs.declared.shape.Star.{Star}
use Rattle.sc_base.specs.declared.shape.Ty.{Ty}
use Rattle.sc_base.specs.declared.value.Place.{Place}
use Rattle.sc_base.specs.declared.value.Value.{Value}
use Rattle.sc_base.specs.declared.value.Value.TheVariants.{Int, Null, Ptr}
use Rattle.sc_layout.specs.Layout.{Arrangement, LaidObject}
use Rattle.sc_layout.specs.Place.{IsPlace, IsPointerTo, FitsType}
use Rattle.sc_core.specs.Places.{without_last}
use Rattle.sc_core.specs.Kinds.{Kind, number, to, named, kind_of}
use Rattle.value_soundness.specs.Lawful.{NamesOnly, IsLawfulAt}

-- the pointer is to a cell whose type has these stars
pub record Points (layout : Arrangement) (cell : List Star) (object node offset : ℕ) : Type 0 where
  pub laid : LaidObject
  pub laid_is : slice_get layout.objects object ≡ Some laid
  pub stars : laid.shape.ty.stars ≡ cell
  pub node_within : node < layout.nodes
  pub offset_within : offset < 2 ^ 32

-- the value is of this kind
abbrev pub IsOf : Arrangement → (exposed : List ℕ) → Kind → Value → Type 0
IsOf layout exposed number (Int n) = FitsSigned w64 n
IsOf layout exposed (to cell) Null = Unit {0}
IsOf layout exposed (to cell) (Ptr object node offset) = Points layout cell object node offset × Contains exposed object
IsOf layout exposed (named placed cell) Null = Unit {0}
IsOf layout exposed (named placed cell) (Ptr object node offset) = Points layout cell object node offset
IsOf layout exposed _ _ = ⊥

abbrev pub AreOf : Arrangement → (exposed : List ℕ) → List Kind → List Value → Type 0
AreOf layout exposed [] [] = Unit {0}
AreOf layout exposed (k ∷ ks) (v ∷ vs) = IsOf layout exposed k v × AreOf layout exposed ks vs
AreOf layout exposed _ _ = ⊥

-- a cell of the layout whose type has these stars
pub record IsCell (layout : Arrangement) (cell : List Star) (place : Place) : Type 0 where
  pub placed : IsPlace layout place
  pub laid : LaidObject
  pub laid_is : slice_get layout.objects place.object ≡ Some laid
  pub stars : laid.shape.ty.stars ≡ cell

-- ---- what fits a cell is of its kind

pub some_inv : {A : Type 0} (P : A → Type 0) (o : Option A) (a : A) → o ≡ Some a → IsSomeAnd o P → P a
some_inv P None a e h = absurd h
some_inv P (Some b) a e h = subst P (let s : b ≡ a = cc in s) h

pub some_intro : {A : Type 0} (P : A → Type 0) (o : Option A) (a : A) → o ≡ Some a → P a → IsSomeAnd o P
some_intro P None a e h = absurd (cc)
some_intro P (Some b) a e h = subst P (let s : a ≡ b = cc in s) h

without_plus : (cell : List Star) (star : Star) → without_last (cell ++ star ∷ []) ≡ cell
without_plus [] star = refl
without_plus (c ∷ []) star = refl
without_plus (c ∷ d ∷ cs) star = ap (λ (xs : List Star). c ∷ xs) (without_plus (d ∷ cs) star)

kind_plus : (cell : List Star) (star : Star) → kind_of (cell ++ star ∷ []) ≡ to cell
kind_plus [] star = refl
kind_plus (c ∷ cs) star = ap to (without_plus (c ∷ cs) star)

module _ (layout : Arrangement) (exposed : List ℕ) where
  null_of : (stars : List Star) → stars ≢ [] → IsOf layout exposed (kind_of stars) Null
  null_of [] h = absurd (h refl)
  null_of (s ∷ ss) h = tt

  pointer_of : (stars cell : List Star) (star : Star) (object node offset : ℕ) → stars ≡ cell ++ star ∷ []
      → Points layout cell object node offset → Contains exposed object
      → IsOf layout exposed (kind_of stars) (Ptr object node offset)
  pointer_of stars cell star object node offset e p c = rw (e, kind_plus cell star) (p, c)

  -- what fits a type is of its kind
  pub of_type : (ty : Ty) (v : Value) → FitsType layout ty v → NamesOnly exposed v
      → IsOf layout exposed (kind_of ty.stars) v
  of_type ty (Int n) h names = rw h.0 h.1
  of_type ty Null h names = null_of ty.stars h
  of_type ty (Ptr object node offset) h names = found (slice_get layout.objects object) refl h.2
    where
      found : (o : Option LaidObject) → slice_get layout.objects object ≡ o
          → IsSomeAnd o (λ o. IsPointerTo o.shape.ty ty)
          → IsOf layout exposed (kind_of ty.stars) (Ptr object node offset)
      found None e p = absurd p
      found (Some laid) e p =
          pointer_of ty.stars laid.shape.ty.stars p.star object node offset p.stars
          (record { laid = laid; laid_is = e; stars = refl; node_within = h.0; offset_within = h.1 }) names

  pub of_cell : (cell : List Star) (place : Place) (v : Value) → IsCell layout cell place
      → IsLawfulAt layout exposed place v
      → IsOf layout exposed (kind_of cell) v
  of_cell cell place v c l =
      subst (λ (stars : List Star). IsOf layout exposed (kind_of stars) v) c.stars
      (of_type c.laid.shape.ty v (some_inv (λ o. FitsType layout o.shape.ty v) _ c.laid c.laid_is l.fits) l.names)

-- ---- what is of a cell's kind fits it

record EndsIn (stars : List Star) : Type 0 where
  pub star : Star
  pub is : stars ≡ without_last stars ++ star ∷ []

ends_in : (s : Star) (ss : List Star) → EndsIn (s ∷ ss)
ends_in s [] = record { star = s; is = refl }
ends_in s (t ∷ ts) =
    let more = ends_in t ts in record { star = more.star; is = ap (λ (xs : List Star). s ∷ xs) more.is }

module _ (layout : Arrangement) (exposed : List ℕ) (laid : (k : ℕ) (o : LaidObject)
    → slice_get layout.objects k ≡ Some o → o.shape.ty.void ≡ false) where
  int_type : (stars : List Star) (n : ℤ) → IsOf layout exposed (kind_of stars) (Int n) → (stars ≡ []) × FitsSigned w64 n
  int_type [] n h = (refl, h)
  int_type (s ∷ ss) n h = absurd h

  null_type : (stars : List Star) → IsOf layout exposed (kind_of stars) Null → stars ≢ []
  null_type [] h e = absurd h
  null_type (s ∷ ss) h e = absurd (cc)

  pointer_type : (ty : Ty) (stars : List Star) (object node offset : ℕ) → ty.void ≡ false → ty.stars ≡ stars
      → IsOf layout exposed (kind_of stars) (Ptr object node offset)
      → FitsType layout ty (Ptr object node offset) × Contains exposed object
  pointer_type ty [] object node offset v e h = absurd h
  pointer_type ty (s ∷ ss) object node offset v e h =
      let last = ends_in s ss in
      let p = h.0 in
      let pointed : IsPointerTo p.laid.shape.ty ty = record {
        star = last.star;
        stars = e ∙ last.is ∙ ap (λ (xs : List Star). xs ++ last.star ∷ []) (sym p.stars);
        void = v ∙ sym (laid object p.laid p.laid_is);
      } in (
        (p.node_within, p.offset_within, some_intro (λ o. IsPointerTo o.shape.ty ty) _ p.laid p.laid_is pointed),
        h.1,
      )

  to_type : (ty : Ty) (v : Value) → ty.void ≡ false → IsOf layout exposed (kind_of ty.stars) v
      → FitsType layout ty v × NamesOnly exposed v
  to_type ty (Int n) void h = (int_type ty.stars n h, tt)
  to_type ty Null void h = (null_type ty.stars h, tt)
  to_type ty (Ptr object node offset) void h = pointer_type ty ty.stars object node offset void refl h

  pub to_cell : (cell : List Star) (place : Place) (v : Value) → IsCell layout cell place
      → IsOf layout exposed (kind_of cell) v → IsLawfulAt layout exposed place v
  to_cell cell place v c h =
      let both = to_type c.laid.shape.ty v (laid place.object c.laid c.laid_is)
      (subst (λ (stars : List Star). IsOf layout exposed (kind_of stars) v) (sym c.stars) h) in
      record { fits = some_intro (λ o. FitsType layout o.shape.ty v) _ c.laid c.laid_is both.0; names = both.1 }
