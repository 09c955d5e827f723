-- What a source promises of all that it does, with its points, where answers may name every object of the layout.
use Rattle.std.proofs.Common.{◌≡◌, inl, inr, ⊎_elim, ℕ, zero, suc, ◌<◌, ◌≤◌, ◌&&◌, List, [], ◌∷◌, ◌++◌, length, Option, Some, None, Bool, true, nat_lt, slice_get, refl, sym, arith}
use Rattle.std.specs.Prelude.{◌^◌}
use Rattle.std.specs.List.{All, Contains}
use Rattle.std.proofs.Math.Nat.{eq-or-lt_of_le}
use Rattle.std.proofs.lemmas.Bool.{and_parts}
use Rattle.std.proofs.lemmas.List.Elements.{All-nil, All-cons}
use Rattle.resumption.specs.Resumption.{Asks, Makes, Says, Stops}
use Rattle.sc_base.specs.declared.value.Place.{Place}
use Rattle.sc_base.specs.declared.value.Value.{Value}
use Rattle.sc_base.specs.declared.value.Value.TheVariants.{Int, Null, Ptr}
use Rattle.sc_layout.specs.Layout.{Arrangement, LaidObject}
use Rattle.sc_isa.specs.Fitting.{fits, fits_type, is_pointer_to, object_is}
use Rattle.sc_core.specs.Core.{Program}
use Rattle.sc_core.specs.Forms.{exposes_of}
use Rattle.sc_meaning.specs.declared.request.Request.TheVariants.{Sync}
use Rattle.sc_meaning.specs.Asking as source
use Rattle.sc_meaning.specs.Asking.{PointedDoing, Requested, Finishes, Breaks}
use Rattle.sc_meaning.specs.Meaning.{Setting, pointed}
use Rattle.effect_order.specs.Lists.{In}
use Rattle.value_soundness.specs.Laws.{IsLaidSource}
use Rattle.value_soundness.specs.Lawful.{NamesOnly}
use Rattle.value_soundness.proofs.Promises.{Promises, PromisesPointed, then_gets}
use Rattle.value_soundness.proofs.Sources.{promises}
use Rattle.forgotten_marks.proofs.Well.{Well, gets_after, pointed_good}

contains_of : (xs : List ℕ) (x : ℕ) → In x xs → Contains xs x
contains_of [] x h = absurd h
contains_of (y ∷ ys) x (inl e) = (zero, omega arith, sym e)
contains_of (y ∷ ys) x (inr h) = let g = contains_of ys x h in (suc g.0, omega (arith, g.1), g.2)

-- ---- a source promises the same with its points

module _ (layout : Arrangement) (exposed : List ℕ) where
  pointed_of : (d : PointedDoing) (n : ℕ) (gets : List Place) → Well n d → Promises layout exposed gets (source.without_points (Sync 0) d) → PromisesPointed layout exposed gets d
  unfolding Well
  pointed_of (Asks (Requested r) fits_ go) n gets w h =
      (h.0, λ answer fit names. pointed_of (go answer) (gets_after n r) (then_gets gets r) (w.1 answer) (h.1 answer fit names))
  pointed_of (Asks (source.Came point) fits_ go) n gets w h = absurd w
  pointed_of (Makes (Requested r) rest) n gets w h = (h.0, pointed_of rest (gets_after n r) (then_gets gets r) w.1 h.1)
  pointed_of (Makes (source.Came point) rest) n gets w h = pointed_of rest n gets w h
  pointed_of (Says text rest) n gets w h = pointed_of rest n gets w h
  pointed_of (Stops (Finishes end)) n gets w h = tt
  pointed_of (Stops Breaks) n gets w h = absurd h

-- ---- what fits names an object of the layout

abbrev pub upto : ℕ → List ℕ
upto zero = []
upto (suc n) = n ∷ upto n

in_upto : (n k : ℕ) → k < n → In k (upto n)
in_upto zero k lt = absurd (omega (arith, lt))
in_upto (suc n) k lt = ⊎_elim (λ e. inl e) (λ less. inr (in_upto n k less)) (let le : k ≤ n = omega (arith, lt) in eq-or-lt_of_le le)

in_back : (x : ℕ) (xs ys : List ℕ) → In x ys → In x (xs ++ ys)
in_back x [] ys i = i
in_back x (y ∷ xs) ys i = inr (in_back x xs ys i)

in_front : (x : ℕ) (xs ys : List ℕ) → In x xs → In x (xs ++ ys)
in_front x [] ys i = absurd i
in_front x (y ∷ xs) ys (inl e) = inl e
in_front x (y ∷ xs) ys (inr i) = inr (in_front x xs ys i)

contains_all : (zs xs : List ℕ) → ((x : ℕ) → In x xs → In x zs) → All (Contains zs) xs
contains_all zs [] h = All-nil (Contains zs)
contains_all zs (x ∷ xs) h = All-cons (Contains zs) x xs (contains_of zs x (h x (inl refl))) (contains_all zs xs (λ y i. h y (inr i)))

object_within : (test : LaidObject → Bool) (objects : List LaidObject) (k : ℕ) → object_is test (slice_get objects k) ≡ true → k < length objects
object_within test [] k e = absurd (cc)
object_within test (o ∷ objects) zero e = omega arith
object_within test (o ∷ objects) (suc k) e = let h = object_within test objects k e in omega (arith, h)

module _ (layout : Arrangement) (program : Program) where
  abbrev pub all_objects : List ℕ
  all_objects = exposes_of program ++ upto (length layout.objects)

  pub fits_names : (place : Place) (v : Value) → fits layout place v ≡ true → NamesOnly all_objects v
  fits_names place (Int n) e = tt
  fits_names place Null e = tt
  fits_names place (Ptr object node offset) e = by_object (slice_get layout.objects place.object) e
    where
      by_object : (o : Option LaidObject) → object_is (λ o. fits_type layout o.shape.ty (Ptr object node offset)) o ≡ true → Contains all_objects object
      by_object None e = absurd (cc)
      by_object (Some o) e =
          let is = λ (p : LaidObject). is_pointer_to p.shape.ty o.shape.ty in
          let h = and_parts (nat_lt node layout.nodes) (nat_lt offset (2 ^ 32) && object_is is (slice_get layout.objects object)) e in
          let g = and_parts (nat_lt offset (2 ^ 32)) (object_is is (slice_get layout.objects object)) h.1 in
          contains_of all_objects object (in_back object (exposes_of program) (upto (length layout.objects))
          (in_upto (length layout.objects) object (object_within is layout.objects object g.1)))

  pub promised : (node budget : ℕ) → IsLaidSource layout program → node < layout.nodes
      → PromisesPointed layout all_objects [] (pointed (record { layout = layout; node = node; program = program }) budget)
  promised node budget source_ below =
      let here : Setting = record { layout = layout; node = node; program = program } in
      pointed_of layout all_objects (pointed here budget) 0 [] (pointed_good here budget)
      (promises layout program all_objects node budget source_ below (contains_all all_objects (exposes_of program) (λ x i. in_front x (exposes_of program) (upto (length layout.objects)) i)))
