-- What types say of kinds: types that fit have one kind, and which last star a pointer's type has.
use Rattle.std.proofs.Common.{◌≡◌, refl, sym, ◌∙◌, ap, suc, ◌-◌, arith, Bool, true, false, ◌&&◌, ◌||◌, List, [], ◌∷◌, ◌++◌, length, take}
use Rattle.std.specs.Prelude.{Option, Some, None, slice_get, if◌then◌else◌}
use Rattle.std.specs.Cmp.Lexicographic.{pointwise}
use Rattle.sc_base.specs.declared.shape.Star.{Star}
use Rattle.sc_base.specs.declared.shape.Star.TheVariants as star
use Rattle.sc_base.specs.declared.shape.Ty.{Ty}
use Rattle.sc_typing.specs.Types as types
use Rattle.sc_typing.specs.Types.{int, pointer, element, last_star, same_bool, same_star, same_type, has_stars, is_int, is_star, widens}
use Rattle.sc_typing.specs.Known.{fits}
use Rattle.sc_core.specs.Places.{last_of, without_last}
use Rattle.sc_core.specs.Kinds.{number, to, kind_of}

-- ---- tests

pub left_of : (s t : Bool) → (s && t) ≡ true → s ≡ true
left_of true t x = refl
left_of false t x = x

pub right_of : (s t : Bool) → (s && t) ≡ true → t ≡ true
right_of true t x = x
right_of false t x = absurd (let z : false ≡ true = x in cc)

pub one_of : {P : Type 0} (s t : Bool) → (s || t) ≡ true → (s ≡ true → P) → (t ≡ true → P) → P
one_of true t x f g = f refl
one_of false t x f g = g x

pub no_more : {P : Type 0} → false ≡ true → P
no_more x = absurd (let z : false ≡ true = x in cc)

-- ---- lists of stars

pub without_last-push : (ss : List Star) (s : Star) → without_last (ss ++ s ∷ []) ≡ ss
without_last-push [] s = refl
without_last-push (a ∷ []) s = refl
without_last-push (a ∷ b ∷ ss) s = ap (λ (r : List Star). a ∷ r) (without_last-push (b ∷ ss) s)

pub last_of-push : (ss : List Star) (s : Star) → last_of (ss ++ s ∷ []) ≡ Some s
last_of-push [] s = refl
last_of-push (a ∷ []) s = refl
last_of-push (a ∷ b ∷ ss) s = last_of-push (b ∷ ss) s

pub take-most : (ss : List Star) → take (length ss - 1) ss ≡ without_last ss
take-most [] = refl
take-most (a ∷ []) = refl
take-most (a ∷ b ∷ ss) =
    let e : length (a ∷ b ∷ ss) - 1 ≡ suc (length (b ∷ ss) - 1) = omega arith in
    rw e (ap (λ (r : List Star). a ∷ r) (take-most (b ∷ ss)))

pub get-last : (ss : List Star) → slice_get ss (length ss - 1) ≡ last_of ss
get-last [] = refl
get-last (a ∷ []) = refl
get-last (a ∷ b ∷ ss) =
    let e : length (a ∷ b ∷ ss) - 1 ≡ suc (length (b ∷ ss) - 1) = omega arith in
    rw e (get-last (b ∷ ss))

pub kind-push : (ss : List Star) (s : Star) → kind_of (ss ++ s ∷ []) ≡ to ss
kind-push [] s = refl
kind-push (a ∷ ss) s = ap to (without_last-push (a ∷ ss) s)

-- ---- a type that is an int's, or a pointer's

pub int-stars : (ty : Ty) → is_int ty ≡ true → ty.stars ≡ []
int-stars ty h = go ty.void ty.stars h
  where
    go : (void : Bool) (ss : List Star) → (if void then false else (if has_stars ss then false else true)) ≡ true → ss ≡ []
    go true ss h = no_more h
    go false [] h = refl
    go false (s ∷ ss) h = no_more h

pub int-kind : (ty : Ty) → is_int ty ≡ true → kind_of ty.stars ≡ number
int-kind ty h = ap kind_of (int-stars ty h)

-- a pointer's type has a last star
pub record Points (ss : List Star) : Type 0 where
  pub star : Star
  pub last : last_of ss ≡ Some star
  pub kind : kind_of ss ≡ to (without_last ss)

last-there : (s : Star) (ss : List Star) → (t : Star) × (last_of (s ∷ ss) ≡ Some t)
last-there s [] = (s, refl)
last-there s (t ∷ ss) = last-there t ss

pub points : (ss : List Star) → has_stars ss ≡ true → Points ss
points [] h = no_more h
points (s ∷ ss) h = record { star = (last-there s ss).0; last = (last-there s ss).1; kind = refl }

pub points-last : (ss : List Star) (t : Star) → last_of ss ≡ Some t → Points ss
points-last [] t h = absurd (let z : None ≡ Some t = h in cc)
points-last (s ∷ ss) t h = points (s ∷ ss) refl

-- a type without a last star is no pointer's
pub unpointed : (ss : List Star) → last_of ss ≡ None → ss ≡ []
unpointed [] h = refl
unpointed (s ∷ ss) h = absurd (let p = last-there s ss in let z : None ≡ Some p.0 = sym h ∙ p.1 in cc)

pub element-stars : (ty : Ty) → (element ty).stars ≡ without_last ty.stars
element-stars ty = take-most ty.stars

pub last-is : (ty : Ty) → last_star ty ≡ last_of ty.stars
last-is ty = get-last ty.stars

-- ---- types that are the same, or fit

star-same : (a b : Star) → same_star a b ≡ true → a ≡ b
star-same star.Local star.Local h = refl
star-same star.Global star.Global h = refl
star-same star.Spread star.Spread h = refl
star-same star.Local star.Global h = no_more h
star-same star.Local star.Spread h = no_more h
star-same star.Global star.Local h = no_more h
star-same star.Global star.Spread h = no_more h
star-same star.Spread star.Local h = no_more h
star-same star.Spread star.Global h = no_more h

stars-same : (xs ys : List Star) → pointwise same_star xs ys ≡ true → xs ≡ ys
stars-same [] [] h = refl
stars-same [] (b ∷ ys) h = no_more h
stars-same (a ∷ xs) [] h = no_more h
stars-same (a ∷ xs) (b ∷ ys) h =
    let e = star-same a b (left_of (same_star a b) (pointwise same_star xs ys) h) in
    let f = stars-same xs ys (right_of (same_star a b) (pointwise same_star xs ys) h) in
    cc

pub same-stars : (a b : Ty) → same_type a b ≡ true → a.stars ≡ b.stars
same-stars a b h = stars-same a.stars b.stars (right_of (same_bool a.void b.void) (pointwise same_star a.stars b.stars) h)

pub same-elements : (a b : Ty) → same_type (element a) (element b) ≡ true → without_last a.stars ≡ without_last b.stars
same-elements a b h = sym (element-stars a) ∙ same-stars (element a) (element b) h ∙ element-stars b

is-star-there : (s : Star) (o : Option Star) → is_star s o ≡ true → (t : Star) × (o ≡ Some t)
is-star-there s None h = no_more h
is-star-there s (Some t) h = (t, refl)

pub wide-there : (o : Option Star) → types.is_wide o ≡ true → (t : Star) × (o ≡ Some t)
wide-there None h = no_more h
wide-there (Some t) h = (t, refl)

-- two pointers to one element
pub record Alike (xs ys : List Star) : Type 0 where
  pub from : Points xs
  pub onto : Points ys
  pub elements : without_last xs ≡ without_last ys

pub alike-kinds : {xs ys : List Star} → Alike xs ys → kind_of xs ≡ kind_of ys
alike-kinds a = a.from.kind ∙ ap to a.elements ∙ sym a.onto.kind

pub widens-alike : (a b : Ty) → widens a b ≡ true → Alike a.stars b.stars
widens-alike a b h = record {
  from = points a.stars (left_of (has_stars a.stars) (is_star star.Global (last_star b)) first);
  onto = points-last b.stars t.0 (sym (last-is b) ∙ t.1);
  elements = same-elements a b
      (right_of (has_stars a.stars && is_star star.Global (last_star b)) (same_type (element a) (element b)) h);
}
  where
    first : (has_stars a.stars && is_star star.Global (last_star b)) ≡ true
    first = left_of (has_stars a.stars && is_star star.Global (last_star b)) (same_type (element a) (element b)) h

    t : (t : Star) × (last_star b ≡ Some t)
    t =
        is-star-there star.Global (last_star b)
        (right_of (has_stars a.stars) (is_star star.Global (last_star b)) first)

-- a type that fits another has its kind, or is null's where the other is a pointer's
pub data Fitting (from to : List Star) (is_null : Bool) : Type 0 where
  equal : from ≡ to → Fitting from to is_null
  null : is_null ≡ true → Points to → Fitting from to is_null
  wider : Alike from to → Fitting from to is_null

pub fitting : (a : Ty) (is_null : Bool) (b : Ty) → fits a is_null b ≡ true → Fitting a.stars b.stars is_null
fitting a n b h =
    one_of (same_type a b || (n && has_stars b.stars)) (widens a b) h
    (λ x. one_of (same_type a b) (n && has_stars b.stars) x (λ y. equal (same-stars a b y))
    (λ y. null (left_of n (has_stars b.stars) y) (points b.stars (right_of n (has_stars b.stars) y))))
    (λ x. wider (widens-alike a b x))
