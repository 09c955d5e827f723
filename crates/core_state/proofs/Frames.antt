-- Frames of locals that are kept with the newest last.
use Rattle.std.proofs.Common.{◌≡◌, ◌≢◌, ◌⊎◌, inl, inr, ℕ, zero, suc, ◌+◌, ◌-◌, ◌<◌, ◌≤◌, ◌==◌, Bool, true, false, if◌then◌else◌, Option, Some, None, List, [], ◌∷◌, ◌++◌, length, reverse, map, drop, min, slice_get, slice_set, is_none, refl, sym, ap, ◌∙◌, subst, arith, length-drop}
use Rattle.std.specs.List.{list_any}
use Rattle.std.specs.Option.{option_map}
use Rattle.std.proofs.lemmas.List.{reverse-append, reverse-reverse, length-reverse, length-append, length-map, map-set}
use Rattle.std.proofs.lemmas.Bool.{eq-eqb}
use Rattle.std.proofs.lemmas.Bool.Decides.{eqb_tells}
use Rattle.std.proofs.lemmas.Option.{slice_get_within, slice_get-map}
use Rattle.sc_base.specs.declared.value.Value.{Value}
use Rattle.sc_meaning.specs.Memory.{Slot, has, awaits, Spot, Memory, with_top, with_slot, with_get, top, below, landed_at, landed_all}
use Rattle.core_machine.specs.Moves.{any_awaited}
use Rattle.core_state.specs.Locals.{slot_in, put_at}

module _ (level x : ℕ) (s : Slot) where
  -- the frame at the level, by how the list goes on
  pub put_here : (frame : List Slot) (frames : List (List Slot)) → (level == length frames) ≡ true
      → put_at level x s (frame ∷ frames) ≡ slice_set frame x s ∷ frames
  put_here frame frames e = ap (λ b. if b then slice_set frame x s ∷ frames else frame ∷ put_at level x s frames) e

  pub put_deeper : (frame : List Slot) (frames : List (List Slot)) → (level == length frames) ≡ false
      → put_at level x s (frame ∷ frames) ≡ frame ∷ put_at level x s frames
  put_deeper frame frames e = ap (λ b. if b then slice_set frame x s ∷ frames else frame ∷ put_at level x s frames) e

-- a value that lands is put into its local
pub landed_is : (s : Spot) (v : Value) (frames : List (List Slot)) → landed_at s v frames ≡ put_at s.level s.local (has v) frames
landed_is s v [] = refl
landed_is s v (frame ∷ frames) =
    ap (λ fs. if s.level == length frames then slice_set frame s.local (has v) ∷ frames else frame ∷ fs) (landed_is s v frames)

get_seam : (rs : List (List Slot)) (f frame : List Slot) (n : ℕ) → n ≡ length rs → slice_get (rs ++ f ∷ []) n ≡ Some frame → f ≡ frame
get_seam [] f frame zero e h = cc
get_seam [] f frame (suc n) e h = absurd (omega (arith, e))
get_seam (r ∷ rs) f frame zero e h = absurd (omega (arith, e))
get_seam (r ∷ rs) f frame (suc n) e h = get_seam rs f frame n (omega (arith, e)) h

get_before : (rs : List (List Slot)) (f : List Slot) (n : ℕ) → n < length rs → slice_get (rs ++ f ∷ []) n ≡ slice_get rs n
get_before [] f n lt = absurd (omega (arith, lt))
get_before (r ∷ rs) f zero lt = refl
get_before (r ∷ rs) f (suc n) lt = get_before rs f n (omega (arith, lt))

set_seam : (rs : List (List Slot)) (f g : List Slot) (n : ℕ) → n ≡ length rs → slice_set (rs ++ f ∷ []) n g ≡ rs ++ g ∷ []
set_seam [] f g zero e = refl
set_seam [] f g (suc n) e = absurd (omega (arith, e))
set_seam (r ∷ rs) f g zero e = absurd (omega (arith, e))
set_seam (r ∷ rs) f g (suc n) e = ap (λ l. r ∷ l) (set_seam rs f g n (omega (arith, e)))

set_before : (rs : List (List Slot)) (f g : List Slot) (n : ℕ) → n < length rs → slice_set (rs ++ f ∷ []) n g ≡ slice_set rs n g ++ f ∷ []
set_before [] f g n lt = absurd (omega (arith, lt))
set_before (r ∷ rs) f g zero lt = refl
set_before (r ∷ rs) f g (suc n) lt = ap (λ l. r ∷ l) (set_before rs f g n (omega (arith, lt)))

turned : (f : List Slot) (fs : List (List Slot)) → reverse (f ∷ fs) ≡ reverse fs ++ f ∷ []
turned f fs = reverse-append (f ∷ []) fs

-- the frame at the level is replaced in the list as it is kept
pub put_is : (fs : List (List Slot)) (level x : ℕ) (s : Slot) (frame : List Slot) → slice_get (reverse fs) level ≡ Some frame
    → put_at level x s fs ≡ reverse (slice_set (reverse fs) level (slice_set frame x s))
put_is [] level x s frame h = absurd (none h)
  where
    none : None ≡ Some frame → ⊥
    none e = cc
put_is (f ∷ fs) level x s frame h =
    by_case (put_is fs level x s frame) (eqb_tells level (length fs))
  where
    got : slice_get (reverse fs ++ f ∷ []) level ≡ Some frame
    got = ap (λ l. slice_get l level) (sym (turned f fs)) ∙ h

    at_last : level ≡ length fs → slice_set f x s ∷ fs ≡ reverse (slice_set (reverse (f ∷ fs)) level (slice_set frame x s))
    at_last e =
        let n : level ≡ length (reverse fs) = e ∙ sym (length-reverse fs) in
        let g = slice_set frame x s in
        ap (λ f. slice_set f x s ∷ fs) (get_seam (reverse fs) f frame level n got)
        ∙ ap (λ l. g ∷ l) (sym (reverse-reverse fs))
        ∙ sym (reverse-append (reverse fs) (g ∷ []))
        ∙ ap reverse (sym (set_seam (reverse fs) f g level n))
        ∙ ap (λ l. reverse (slice_set l level g)) (sym (turned f fs))

    before : (slice_get (reverse fs) level ≡ Some frame → put_at level x s fs ≡ reverse (slice_set (reverse fs) level (slice_set frame x s)))
        → level < length (reverse fs) → f ∷ put_at level x s fs ≡ reverse (slice_set (reverse (f ∷ fs)) level (slice_set frame x s))
    before deeper lt =
        let g = slice_set frame x s in
        ap (λ l. f ∷ l) (deeper (sym (get_before (reverse fs) f level lt) ∙ got))
        ∙ sym (reverse-append (slice_set (reverse fs) level g) (f ∷ []))
        ∙ ap reverse (sym (set_before (reverse fs) f g level lt))
        ∙ ap (λ l. reverse (slice_set l level g)) (sym (turned f fs))

    within : level < length (reverse fs) + 1
    within = omega (arith, slice_get_within (reverse fs ++ f ∷ []) level frame got, length-append (reverse fs) (f ∷ []))

    by_case : (slice_get (reverse fs) level ≡ Some frame → put_at level x s fs ≡ reverse (slice_set (reverse fs) level (slice_set frame x s)))
        → ((level == length fs) ≡ true) × (level ≡ length fs) ⊎ ((level == length fs) ≡ false) × (level ≢ length fs)
        → put_at level x s (f ∷ fs) ≡ reverse (slice_set (reverse (f ∷ fs)) level (slice_set frame x s))
    by_case deeper (inl e) = put_here level x s f fs e.0 ∙ at_last e.1
    by_case deeper (inr e) = put_deeper level x s f fs e.0 ∙ before deeper (omega (arith, within, e.1, length-reverse fs))

-- past the last frame nothing is put
pub put_past : (fs : List (List Slot)) (level x : ℕ) (s : Slot) → length fs ≤ level → put_at level x s fs ≡ fs
put_past [] level x s past = refl
put_past (f ∷ fs) level x s past = by_case (put_past fs level x s (omega (arith, past))) (eqb_tells level (length fs))
  where
    by_case : put_at level x s fs ≡ fs
        → ((level == length fs) ≡ true) × (level ≡ length fs) ⊎ ((level == length fs) ≡ false) × (level ≢ length fs)
        → put_at level x s (f ∷ fs) ≡ f ∷ fs
    by_case deeper (inl e) = absurd (omega (arith, past, e.1))
    by_case deeper (inr e) = put_deeper level x s f fs e.0 ∙ ap (λ l. f ∷ l) deeper

-- ---- the slots of the code

pub any_is : (xs : List (Option Value)) → list_any is_none xs ≡ any_awaited (map slot_in xs)
any_is [] = refl
any_is (Some v ∷ xs) = any_is xs
any_is (None ∷ xs) = refl

abbrev seen : List (List (Option Value)) → List (List Slot)
seen frames = reverse (map (map slot_in) frames)

unturned : (frames : List (List (Option Value))) → reverse (seen frames) ≡ map (map slot_in) frames
unturned frames = reverse-reverse (map (map slot_in) frames)

got_at : (frames : List (List (Option Value))) (level : ℕ) (frame : List (Option Value)) → slice_get frames level ≡ Some frame
    → slice_get (reverse (seen frames)) level ≡ Some (map slot_in frame)
got_at frames level frame e =
    ap (λ l. slice_get l level) (unturned frames) ∙ slice_get-map (map slot_in) frames level ∙ ap (option_map (map slot_in)) e

-- a frame with one local replaced
pub put_seen : (frames : List (List (Option Value))) (level x : ℕ) (slot : Option Value) (frame : List (Option Value))
    → slice_get frames level ≡ Some frame
    → seen (slice_set frames level (slice_set frame x slot)) ≡ put_at level x (slot_in slot) (seen frames)
put_seen frames level x slot frame e =
    ap reverse (map-set (map slot_in) frames level (slice_set frame x slot))
    ∙ ap (λ g. reverse (slice_set (map (map slot_in) frames) level g)) (map-set slot_in frame x slot)
    ∙ ap (λ l. reverse (slice_set l level (slice_set (map slot_in frame) x (slot_in slot)))) (sym (unturned frames))
    ∙ sym (put_is (seen frames) level x (slot_in slot) (map slot_in frame) (got_at frames level frame e))

-- ---- gets that land, one after another

further : (n : ℕ) → suc (n + 1) ≡ suc n + 1
further n = omega arith

drop_at_some : {A : Type 0} → (xs : List A) (n : ℕ) (x : A) → slice_get xs n ≡ Some x → drop n xs ≡ x ∷ drop (n + 1) xs
drop_at_some [] n x e = absurd cc
drop_at_some (y ∷ xs) zero x e = ap (λ y. y ∷ xs) cc
drop_at_some (y ∷ xs) (suc n) x e = drop_at_some xs n x e ∙ ap (λ k. x ∷ drop k (y ∷ xs)) (further n)

pub land_step : (ss : List Spot) (vs : List Value) (frames : List (List Slot)) (n : ℕ) (s : Spot) (v : Value)
    → slice_get ss n ≡ Some s → slice_get vs n ≡ Some v
    → landed_all (drop n ss) (drop n vs) frames
    ≡ landed_all (drop (n + 1) ss) (drop (n + 1) vs) (put_at s.level s.local (has v) frames)
land_step ss vs frames n s v e h =
    ap (λ l. landed_all l (drop n vs) frames) (drop_at_some ss n s e)
    ∙ ap (λ l. landed_all (s ∷ drop (n + 1) ss) l frames) (drop_at_some vs n v h)
    ∙ ap (landed_all (drop (n + 1) ss) (drop (n + 1) vs)) (landed_is s v frames)

landed_none : (ss : List Spot) (vs : List Value) (frames : List (List Slot)) → min (length ss) (length vs) ≡ 0 → landed_all ss vs frames ≡ frames
landed_none [] [] frames e = refl
landed_none [] (v ∷ vs) frames e = refl
landed_none (s ∷ ss) [] frames e = refl
landed_none (s ∷ ss) (v ∷ vs) frames e = absurd (omega (arith, e))

pub land_end : (ss : List Spot) (vs : List Value) (frames : List (List Slot)) (n : ℕ) → min (length ss) (length vs) ≤ n
    → landed_all (drop n ss) (drop n vs) frames ≡ frames
land_end ss vs frames n e =
    landed_none (drop n ss) (drop n vs) frames (omega (arith, e, length-drop n ss, length-drop n vs))

-- ---- the newest frame

pub length_below : (frames : List (List Slot)) → length (below frames) ≡ length frames - 1
length_below [] = refl
length_below (f ∷ fs) = omega arith

pub put_top : (frames : List (List Slot)) (level x : ℕ) (s : Slot) → level ≡ length frames - 1
    → put_at level x s frames ≡ with_top (λ frame. slice_set frame x s) frames
put_top [] level x s e = refl
put_top (f ∷ fs) level x s e = put_here level x s f fs (eq-eqb level (length fs) (omega (arith, e)))

-- how many frames stand below the newest, by the list as it is kept
pub newest_level : (frames : List (List (Option Value))) (all : List (List Slot)) → seen frames ≡ all → length frames - 1 ≡ length all - 1
newest_level frames all e =
    omega (arith, ap length e, length-reverse (map (map slot_in) frames), length-map frames (map slot_in))

top_of : (fs : List (List Slot)) (g : List Slot) → slice_get (reverse fs) (length (reverse fs) - 1) ≡ Some g → top fs ≡ g
top_of [] g h = absurd cc
top_of (f ∷ fs) g h =
    let n = length (reverse (f ∷ fs)) - 1 in
    get_seam (reverse fs) f g n (omega (arith, length-reverse (f ∷ fs), length-reverse fs)) (ap (λ l. slice_get l n) (sym (turned f fs)) ∙ h)

-- the newest frame is the last that is kept
pub newest_is : (frames : List (List (Option Value))) (frame : List (Option Value))
    → slice_get frames (length frames - 1) ≡ Some frame → top (seen frames) ≡ map slot_in frame
newest_is frames frame e =
    let F : List (Option Value) → List Slot = map slot_in in
    top_of (seen frames) (F frame) (ap (λ l. slice_get l (length l - 1)) (unturned frames)
    ∙ ap (λ n. slice_get (map F frames) (n - 1)) (length-map frames F)
    ∙ slice_get-map F frames (length frames - 1) ∙ ap (option_map F) e)
