-- Each get that has not landed is awaited by its local, and nothing else awaits; so a sync fills what awaits.
use Rattle.std.proofs.Common.{◌≡◌, ◌⊎◌, inl, inr, ⊎_elim, ℕ, zero, suc, ◌+◌, ◌<◌, ◌≤◌, ◌==◌, List, [], ◌∷◌, ◌++◌, length, map, Option, Some, None, slice_get, slice_set, if◌then◌else◌, refl, sym, ap, ◌∙◌, subst, arith}
use Rattle.std.proofs.lemmas.Bool.Decides.{Decides-eqb}
use Rattle.std.proofs.lemmas.List.{length-map}
use Rattle.std.proofs.lemmas.Option.{slice_get_within}
use Rattle.sc_base.specs.declared.value.Place.{Place}
use Rattle.sc_base.specs.declared.value.Value.{Value}
use Rattle.sc_isa.specs.State.{value_at}
use Rattle.sc_meaning.specs.Memory.{Spot}
use Rattle.emit_laws.proofs.Parts.{Setup}
use Rattle.emit_laws.proofs.Ghosts.{Token, Thing, val, awaited, plain, newest, older, put_top, put_at, put_all, called_with}
use Rattle.emit_laws.proofs.Cells.{set_cases}
use Rattle.emit_laws.proofs.Masks.{by_bool}

-- ---- where gets are awaited

pub record KnownAt (getting : List Spot) (level x n : ℕ) : Type 0 where
  pub spot : Spot
  pub is_spot : slice_get getting n ≡ Some spot
  pub level_is : spot.level ≡ level
  pub local_is : spot.local ≡ x

-- what awaits is the local of its get
abbrev pub Known : List Spot → List (List Thing) → Type 0
Known getting [] = Unit {0}
Known getting (f ∷ fs) = ((x n : ℕ) → slice_get f x ≡ Some (awaited n) → KnownAt getting (length fs) x n) × Known getting fs

-- the get with this number is awaited by its local
abbrev pub IsAwaited : ℕ → Spot → List (List Thing) → Type 0
IsAwaited n s [] = ⊥
IsAwaited n s (f ∷ fs) =
    ((s.level ≡ length fs) × (slice_get f s.local ≡ Some (awaited n))) ⊎ ((s.level < length fs) × IsAwaited n s fs)

pub record Spots (getting : List Spot) (cells : List (List Thing)) : Type 0 where
  pub known : Known getting cells
  pub awaits : (n : ℕ) (s : Spot) → slice_get getting n ≡ Some s → IsAwaited n s cells

level_below : (n : ℕ) (s : Spot) (cells : List (List Thing)) → IsAwaited n s cells → s.level < length cells
level_below n s [] h = absurd h
level_below n s (f ∷ fs) (inl h) = omega (arith, h.0)
level_below n s (f ∷ fs) (inr h) = omega (arith, h.0)

-- ---- one fill

abbrev fill : ℕ → Value → Thing → Thing
fill n v (val u from) = val u from
fill n v (awaited m) = if m == n then plain v else awaited m

-- no thing awaits the get
NoneIn : ℕ → List Thing → Type 0
NoneIn n f = (y : ℕ) → slice_get f y ≡ Some (awaited n) → ⊥

fill_other : (n : ℕ) (v : Value) (d : Thing) → (d ≡ awaited n → ⊥) → fill n v d ≡ d
fill_other n v (val u from) h = refl
fill_other n v (awaited m) h =
    by_bool (m == n) (λ e. absurd (h (ap awaited ((Decides-eqb m n).0 e)))) (λ e. ap (λ b. if b then plain v else awaited m) e)

none_fill : (n : ℕ) (v : Value) (f : List Thing) → NoneIn n f → map (fill n v) f ≡ f
unfolding NoneIn
none_fill n v [] h = refl
none_fill n v (d ∷ ds) h =
    let a = fill_other n v d (λ e. h zero (ap Some e)) in
    let b = none_fill n v ds (λ y e. h (suc y) e) in cc

set_fill : (n : ℕ) (v : Value) (f : List Thing) (x : ℕ) → slice_get f x ≡ Some (awaited n) → ((y : ℕ) → slice_get f y ≡ Some (awaited n) → x ≡ y)
    → slice_set f x (plain v) ≡ map (fill n v) f
unfolding NoneIn
set_fill n v [] x h only = absurd (cc)
set_fill n v (d ∷ ds) zero h only =
    let e : d ≡ awaited n = cc in
    let a : fill n v d ≡ plain v = ap (fill n v) e ∙ ap (λ b. if b then plain v else awaited n) ((Decides-eqb n n).1 refl) in
    let b = none_fill n v ds (λ y is. let no = only (suc y) is in absurd (omega (arith, no))) in cc
set_fill n v (d ∷ ds) (suc x) h only =
    let a = fill_other n v d (λ e. let no = only zero (ap Some e) in absurd (omega (arith, no))) in
    let b = set_fill n v ds x h (λ y is. let no = only (suc y) is in omega (arith, no)) in cc

-- all that awaits the get is its local
abbrev Only : ℕ → Spot → List (List Thing) → Type 0
Only n s [] = Unit {0}
Only n s (f ∷ fs) = ((y : ℕ) → slice_get f y ≡ Some (awaited n) → (s.level ≡ length fs) × (s.local ≡ y)) × Only n s fs

none_cells : (n : ℕ) (s : Spot) (v : Value) (cells : List (List Thing)) → length cells ≤ s.level → Only n s cells → map (map (fill n v)) cells ≡ cells
unfolding NoneIn
none_cells n s v [] l h = refl
none_cells n s v (f ∷ fs) l h =
    let a = none_fill n v f (λ y is. let e = (h.0 y is).0 in absurd (omega (arith, l, e))) in
    let b = none_cells n s v fs (omega (arith, l)) h.1 in cc

put_fill : (n : ℕ) (s : Spot) (v : Value) (cells : List (List Thing)) → IsAwaited n s cells → Only n s cells → put_at s v cells ≡ map (map (fill n v)) cells
unfolding NoneIn
put_fill n s v [] h only = absurd h
put_fill n s v (f ∷ fs) (inl h) only =
    let a = set_fill n v f s.local h.1 (λ y is. (only.0 y is).1) in
    let b = none_cells n s v fs (omega (arith, h.0)) only.1 in
    ap (λ b. if b then slice_set f s.local (plain v) ∷ fs else f ∷ put_at s v fs) ((Decides-eqb s.level (length fs)).1 h.0)
    ∙ ap (λ g. g ∷ fs) a ∙ ap (λ gs. map (fill n v) f ∷ gs) (sym b)
put_fill n s v (f ∷ fs) (inr h) only =
    let a = none_fill n v f (λ y is. let e = (only.0 y is).0 in let l = h.0 in absurd (omega (arith, l, e))) in
    let b = put_fill n s v fs h.1 only.1 in
    ap (λ b. if b then slice_set f s.local (plain v) ∷ fs else f ∷ put_at s v fs)
    (by_bool (s.level == length fs) (λ e. let l = h.0 in let q = (Decides-eqb s.level (length fs)).0 e in absurd (let no : ⊥ = omega (arith, l, q) in no)) (λ e. e))
    ∙ ap (λ g. f ∷ g) b ∙ ap (λ g. g ∷ map (map (fill n v)) fs) (sym a)

-- ---- all of them

abbrev pub fill_all : ℕ → List Value → Thing → Thing
fill_all n [] x = x
fill_all n (v ∷ vs) x = fill_all (n + 1) vs (fill n v x)

-- what awaits after a fill awaited before
filled_from : (n : ℕ) (v : Value) (m : ℕ) (f : List Thing) (y : ℕ) → slice_get (map (fill n v) f) y ≡ Some (awaited m) → slice_get f y ≡ Some (awaited m)
filled_from n v m [] y h = h
filled_from n v m (val u from ∷ ds) zero h = h
filled_from n v m (awaited k ∷ ds) zero h =
    by_bool (k == n)
    (λ e. let g : plain v ≡ awaited m = (let p : (if k == n then plain v else awaited k) ≡ plain v = ap (λ b. if b then plain v else awaited k) e in cc) in absurd (no_plain g))
    (λ e. let p : (if k == n then plain v else awaited k) ≡ awaited k = ap (λ b. if b then plain v else awaited k) e in cc)
  where
    no_plain : plain v ≡ awaited m → ⊥
    no_plain g = cc
filled_from n v m (d ∷ ds) (suc y) h = filled_from n v m ds y h

filled_to : (n : ℕ) (v : Value) (m : ℕ) (f : List Thing) (y : ℕ) → n < m → slice_get f y ≡ Some (awaited m) → slice_get (map (fill n v) f) y ≡ Some (awaited m)
filled_to n v m [] y l h = h
filled_to n v m (d ∷ ds) zero l h =
    let e : d ≡ awaited m = cc in
    ap Some (ap (fill n v) e ∙ ap (λ b. if b then plain v else awaited m)
    (by_bool (m == n) (λ q. let r = (Decides-eqb m n).0 q in absurd (let no : ⊥ = omega (arith, l, r) in no)) (λ q. q)))
filled_to n v m (d ∷ ds) (suc y) l h = filled_to n v m ds y l h

filled_only : (n : ℕ) (v : Value) (m : ℕ) (s : Spot) (cells : List (List Thing)) → Only m s cells → Only m s (map (map (fill n v)) cells)
filled_only n v m s [] h = tt
filled_only n v m s (f ∷ fs) h =
    (λ y is. let g = h.0 y (filled_from n v m f y is) in (g.0 ∙ sym (length-map fs (map (fill n v))), g.1), filled_only n v m s fs h.1)

filled_awaited : (n : ℕ) (v : Value) (m : ℕ) (s : Spot) (cells : List (List Thing)) → n < m → IsAwaited m s cells → IsAwaited m s (map (map (fill n v)) cells)
filled_awaited n v m s [] l h = h
filled_awaited n v m s (f ∷ fs) l (inl h) = inl (h.0 ∙ sym (length-map fs (map (fill n v))), filled_to n v m f s.local l h.1)
filled_awaited n v m s (f ∷ fs) l (inr h) =
    inr (subst (λ k. s.level < k) (sym (length-map fs (map (fill n v)))) h.0, filled_awaited n v m s fs l h.1)

-- the gets from the number n on
record From (n : ℕ) (ss : List Spot) (cells : List (List Thing)) : Type 0 where
  pub awaits : (i : ℕ) (s : Spot) → slice_get ss i ≡ Some s → IsAwaited (n + i) s cells
  pub only : (i : ℕ) (s : Spot) → slice_get ss i ≡ Some s → Only (n + i) s cells

map_map : (g h : Thing → Thing) (cells : List (List Thing)) → map (map g) (map (map h) cells) ≡ map (map (λ x. g (h x))) cells
map_map g h [] = refl
map_map g h (f ∷ fs) = let a = map_one f in let b = map_map g h fs in cc
  where
    map_one : (xs : List Thing) → map g (map h xs) ≡ map (λ x. g (h x)) xs
    map_one [] = refl
    map_one (x ∷ xs) = ap (λ l. g (h x) ∷ l) (map_one xs)

map_same : (cells : List (List Thing)) → map (map (λ x. x)) cells ≡ cells
map_same [] = refl
map_same (f ∷ fs) = let a = map_one f in let b = map_same fs in cc
  where
    map_one : (xs : List Thing) → map (λ x. x) xs ≡ xs
    map_one [] = refl
    map_one (x ∷ xs) = ap (λ l. x ∷ l) (map_one xs)

fills_from : (n : ℕ) (ss : List Spot) (vs : List Value) (cells : List (List Thing)) → length vs ≡ length ss → From n ss cells
    → put_all ss vs cells ≡ map (map (fill_all n vs)) cells
fills_from n [] [] cells e h = sym (map_same cells)
fills_from n [] (v ∷ vs) cells e h = absurd (omega (arith, e))
fills_from n (s ∷ ss) [] cells e h = absurd (omega (arith, e))
fills_from n (s ∷ ss) (v ∷ vs) cells e h =
    let first : n + 0 ≡ n = omega arith in
    let a : put_at s v cells ≡ map (map (fill n v)) cells =
    put_fill n s v cells (subst (λ k. IsAwaited k s cells) first (h.awaits zero s refl)) (subst (λ k. Only k s cells) first (h.only zero s refl)) in
    ap (put_all ss vs) a
    ∙ fills_from (n + 1) ss vs (map (map (fill n v)) cells) (omega (arith, e)) (record {
      awaits = λ i t is. let up : n + suc i ≡ n + 1 + i = omega arith in
          subst (λ k. IsAwaited k t (map (map (fill n v)) cells)) up (filled_awaited n v (n + suc i) t cells (omega arith) (h.awaits (suc i) t is));
      only = λ i t is. let up : n + suc i ≡ n + 1 + i = omega arith in
          subst (λ k. Only k t (map (map (fill n v)) cells)) up (filled_only n v (n + suc i) t cells (h.only (suc i) t is));
    })
    ∙ map_map (fill_all (n + 1) vs) (fill n v) cells

only_known : (getting : List Spot) (n : ℕ) (s : Spot) (cells : List (List Thing)) → slice_get getting n ≡ Some s → Known getting cells → Only n s cells
only_known getting n s [] e h = tt
only_known getting n s (f ∷ fs) e h = (
  λ y is. let k = h.0 y n is in let same : s ≡ k.spot = same_spot k in (ap (λ (t : Spot). t.level) same ∙ k.level_is, ap (λ (t : Spot). t.local) same ∙ k.local_is),
  only_known getting n s fs e h.1,
)
  where
    same_spot : {level x : ℕ} (k : KnownAt getting level x n) → s ≡ k.spot
    same_spot k = let a = k.is_spot in cc

pub sync_fills : (getting : List Spot) (vs : List Value) (cells : List (List Thing)) → length vs ≡ length getting → Spots getting cells
    → put_all getting vs cells ≡ map (map (fill_all 0 vs)) cells
sync_fills getting vs cells e h =
    fills_from 0 getting vs cells e (record {
      awaits = λ i s is. let z : i ≡ 0 + i = omega arith in subst (λ k. IsAwaited k s cells) z (h.awaits i s is);
      only = λ i s is. let z : i ≡ 0 + i = omega arith in subst (λ k. Only k s cells) z (only_known getting i s cells is h.known);
    })

pub fill_all_val : (n : ℕ) (vs : List Value) (v : Value) (from : Option Token) → fill_all n vs (val v from) ≡ val v from
fill_all_val n [] v from = refl
fill_all_val n (u ∷ vs) v from = fill_all_val (n + 1) vs v from

fills_at : (n m k : ℕ) (vs : List Value) → k ≡ n + m → m < length vs → fill_all n vs (awaited k) ≡ plain (value_at vs m)
fills_at n m k [] e l = absurd (omega (arith, l))
fills_at n zero k (v ∷ vs) e l =
    ap (λ b. fill_all (n + 1) vs (if b then plain v else awaited k)) ((Decides-eqb k n).1 (omega (arith, e))) ∙ fill_all_val (n + 1) vs v None
fills_at n (suc m) k (v ∷ vs) e l =
    ap (λ b. fill_all (n + 1) vs (if b then plain v else awaited k))
    (by_bool (k == n) (λ q. let r = (Decides-eqb k n).0 q in absurd (let no : ⊥ = omega (arith, e, r) in no)) (λ q. q))
    ∙ fills_at (n + 1) m k vs (omega (arith, e)) (omega (arith, l))

pub fill_all_at : (m : ℕ) (vs : List Value) → m < length vs → fill_all 0 vs (awaited m) ≡ plain (value_at vs m)
fill_all_at m vs l = fills_at 0 m m vs (omega arith) l

-- each awaited get is one of them
pub known_within : (getting : List Spot) (level x n : ℕ) → KnownAt getting level x n → n < length getting
known_within getting level x n k = slice_get_within getting n k.spot k.is_spot

-- ---- what keeps it

pub no_gets : (c : Setup) (others : ℕ) → Spots [] (called_with c [] others ∷ [])
no_gets c others = record { known = (λ x n is. absurd (plain_only [] others x n is), tt); awaits = λ n s is. absurd (cc) }
  where
    plain_only : (vs : List Value) (others x n : ℕ) → slice_get (called_with c vs others) x ≡ Some (awaited n) → ⊥
    plain_only [] zero x n h = cc
    plain_only [] (suc others) zero n h = cc
    plain_only [] (suc others) (suc x) n h = plain_only [] others x n h
    plain_only (v ∷ vs) others zero n h = cc
    plain_only (v ∷ vs) others (suc x) n h = plain_only vs others x n h

called_plain : (c : Setup) (vs : List Value) (others x n : ℕ) → slice_get (called_with c vs others) x ≡ Some (awaited n) → ⊥
called_plain c [] zero x n h = cc
called_plain c [] (suc others) zero n h = cc
called_plain c [] (suc others) (suc x) n h = called_plain c [] others x n h
called_plain c (v ∷ vs) others zero n h = cc
called_plain c (v ∷ vs) others (suc x) n h = called_plain c vs others x n h

pub spots_called : (c : Setup) (getting : List Spot) (vs : List Value) (others : ℕ) (cells : List (List Thing)) → Spots getting cells
    → Spots getting (called_with c vs others ∷ cells)
spots_called c getting vs others cells h = record {
  known = (λ x n is. absurd (called_plain c vs others x n is), h.known);
  awaits = λ n s is. inr (level_below n s cells (h.awaits n s is), h.awaits n s is);
}

-- a frame in which nothing awaits is left
pub spots_older : (getting : List Spot) (cells : List (List Thing)) → ((x n : ℕ) → slice_get (newest cells) x ≡ Some (awaited n) → ⊥) → Spots getting cells
    → Spots getting (older cells)
spots_older getting [] none h = h
spots_older getting (f ∷ fs) none h = record {
  known = h.known.1;
  awaits = λ n s is. ⊎_elim (λ g. absurd (none s.local n g.1)) (λ g. g.1) (h.awaits n s is);
}

set_same : (f : List Thing) (x : ℕ) (old v : Thing) → slice_get f x ≡ Some old → slice_get (slice_set f x v) x ≡ Some v
set_same [] x old v h = absurd (cc)
set_same (d ∷ ds) zero old v h = refl
set_same (d ∷ ds) (suc x) old v h = set_same ds x old v h

set_keeps : (f : List Thing) (x y : ℕ) (v w : Thing) → (x ≡ y → ⊥) → slice_get f y ≡ Some w → slice_get (slice_set f x v) y ≡ Some w
set_keeps [] x y v w n h = h
set_keeps (d ∷ ds) zero zero v w n h = absurd (n refl)
set_keeps (d ∷ ds) zero (suc y) v w n h = h
set_keeps (d ∷ ds) (suc x) zero v w n h = h
set_keeps (d ∷ ds) (suc x) (suc y) v w n h = set_keeps ds x y v w (λ e. n (ap suc e)) h

-- the local was not awaiting
awaited_put : (n x : ℕ) (s : Spot) (cells : List (List Thing)) (old : Value) (from : Option Token) (v : Thing) → slice_get (newest cells) x ≡ Some (val old from)
    → IsAwaited n s cells → IsAwaited n s (put_top cells x v)
awaited_put n x s [] old from v is h = h
awaited_put n x s (f ∷ fs) old from v is (inl h) = inl (h.0, set_keeps f x s.local v (awaited n) (λ e. clash e) h.1)
  where
    clash : x ≡ s.local → ⊥
    clash e = let a = subst (λ i. slice_get f i ≡ Some (val old from)) e is in let b = h.1 in cc
awaited_put n x s (f ∷ fs) old from v is (inr h) = inr h

pub spots_put : (getting : List Spot) (cells : List (List Thing)) (x : ℕ) (old : Value) (from : Option Token) (v : Value) (source : Option Token)
    → slice_get (newest cells) x ≡ Some (val old from) → Spots getting cells → Spots getting (put_top cells x (val v source))
spots_put getting cells x old from v source is h = record {
  known = known_put cells h.known;
  awaits = λ n s at_. awaited_put n x s cells old from (val v source) is (h.awaits n s at_);
}
  where
    known_put : (cells : List (List Thing)) → Known getting cells → Known getting (put_top cells x (val v source))
    known_put [] k = k
    known_put (f ∷ fs) k =
        (λ y n e. ⊎_elim (λ g. let b = g.1 in absurd (cc)) (λ g. k.0 y n g) (set_cases f x y (val v source) (awaited n) e), k.1)

known_more : (getting : List Spot) (s : Spot) (level x n : ℕ) → KnownAt getting level x n → KnownAt (getting ++ s ∷ []) level x n
known_more getting s level x n k = record { spot = k.spot; is_spot = get_more getting s n k.spot k.is_spot; level_is = k.level_is; local_is = k.local_is }
  where
    get_more : (ss : List Spot) (s : Spot) (n : ℕ) (t : Spot) → slice_get ss n ≡ Some t → slice_get (ss ++ s ∷ []) n ≡ Some t
    get_more [] s n t h = absurd (cc)
    get_more (u ∷ ss) s zero t h = h
    get_more (u ∷ ss) s (suc n) t h = get_more ss s n t h

known_all_more : (getting : List Spot) (s : Spot) (cells : List (List Thing)) → Known getting cells → Known (getting ++ s ∷ []) cells
known_all_more getting s [] h = tt
known_all_more getting s (f ∷ fs) h = (λ x n is. known_more getting s (length fs) x n (h.0 x n is), known_all_more getting s fs h.1)

get_last : (ss : List Spot) (s : Spot) → slice_get (ss ++ s ∷ []) (length ss) ≡ Some s
get_last [] s = refl
get_last (u ∷ ss) s = get_last ss s

get_cases : (ss : List Spot) (s : Spot) (n : ℕ) (t : Spot) → slice_get (ss ++ s ∷ []) n ≡ Some t → (slice_get ss n ≡ Some t) ⊎ ((n ≡ length ss) × (s ≡ t))
get_cases [] s zero t h = inr (refl, cc)
get_cases [] s (suc n) t h = absurd (cc)
get_cases (u ∷ ss) s zero t h = inl h
get_cases (u ∷ ss) s (suc n) t h = ⊎_elim (λ g. inl g) (λ g. inr (ap suc g.0, g.1)) (get_cases ss s n t h)

pub spots_get : (getting : List Spot) (cells : List (List Thing)) (x : ℕ) (p : Place) (old : Value) (from : Option Token)
    → slice_get (newest cells) x ≡ Some (val old from) → Spots getting cells
    → (let s : Spot = record { level = length (older cells); local = x; place = p } in Spots (getting ++ s ∷ []) (put_top cells x (awaited (length getting))))
spots_get getting [] x p old from is h = absurd (cc)
spots_get getting (f ∷ fs) x p old from is h =
    let s : Spot = record { level = length fs; local = x; place = p } in
    record {
      known = (
        λ y n e. ⊎_elim (λ g. at_new s y n g) (λ g. known_more getting s (length fs) y n (h.known.0 y n g)) (set_cases f x y (awaited (length getting)) (awaited n) e),
        known_all_more getting s fs h.known.1,
      );
      awaits = λ n t e. ⊎_elim (λ g. awaited_put n x t (f ∷ fs) old from (awaited (length getting)) is (h.awaits n t g))
          (λ g. inl (ap (λ (u : Spot). u.level) (sym g.1), put_new s n t g)) (get_cases getting s n t e);
    }
  where
    same_number : (n : ℕ) → awaited n ≡ awaited (length getting) → n ≡ length getting
    same_number n e = cc

    at_new : (s : Spot) (y n : ℕ) → (x ≡ y) × (awaited n ≡ awaited (length getting)) → KnownAt (getting ++ record { level = length fs; local = x; place = p } ∷ []) (length fs) y n
    at_new s y n g = record {
      spot = record { level = length fs; local = x; place = p };
      is_spot = subst (λ k. slice_get (getting ++ record { level = length fs; local = x; place = p } ∷ []) k ≡ Some (record { level = length fs; local = x; place = p }))
          (sym (same_number n g.1)) (get_last getting (record { level = length fs; local = x; place = p }));
      level_is = refl;
      local_is = g.0;
    }

    put_new : (s : Spot) (n : ℕ) (t : Spot) → (n ≡ length getting) × (record { level = length fs; local = x; place = p } ≡ t)
        → slice_get (slice_set f x (awaited (length getting))) t.local ≡ Some (awaited n)
    put_new s n t g =
        subst (λ k. slice_get (slice_set f x (awaited (length getting))) t.local ≡ Some (awaited k)) (sym g.0)
        (subst (λ (u : Spot). slice_get (slice_set f x (awaited (length getting))) u.local ≡ Some (awaited (length getting))) g.1 (set_same f x (val old from) (awaited (length getting)) is))

-- a sync leaves nothing that awaits
pub spots_synced : (getting : List Spot) (vs : List Value) (cells : List (List Thing)) → length vs ≡ length getting → Spots getting cells → Spots [] (put_all getting vs cells)
spots_synced getting vs cells e h = record {
  known = subst (Known []) (sym (sync_fills getting vs cells e h)) (filled_known cells h.known);
  awaits = λ n s is. absurd (cc);
}
  where
    none_left : (level x n : ℕ) (d : Thing) → ((m : ℕ) → d ≡ awaited m → KnownAt getting level x m) → fill_all 0 vs d ≡ awaited n → ⊥
    none_left level x n (val u from) k is = let a = fill_all_val 0 vs u from in cc
    none_left level x n (awaited m) k is =
        let l = known_within getting level x m (k m refl) in
        let a = fill_all_at m vs (omega (arith, l, e)) in cc

    none_in : (level y n : ℕ) (f : List Thing) (x : ℕ) → ((m : ℕ) → slice_get f x ≡ Some (awaited m) → KnownAt getting level y m)
        → slice_get (map (fill_all 0 vs) f) x ≡ Some (awaited n) → ⊥
    none_in level y n [] x k is = cc
    none_in level y n (d ∷ ds) zero k is = none_left level y n d (λ m q. k m (ap Some q)) (some_same is)
      where
        some_same : {a b : Thing} → Some a ≡ Some b → a ≡ b
        some_same q = cc
    none_in level y n (d ∷ ds) (suc x) k is = none_in level y n ds x k is

    filled_known : (cells : List (List Thing)) → Known getting cells → Known [] (map (map (fill_all 0 vs)) cells)
    filled_known [] k = tt
    filled_known (f ∷ fs) k = (λ x n is. absurd (none_in (length fs) x n f x (λ m q. k.0 x m q) is), filled_known fs k.1)
