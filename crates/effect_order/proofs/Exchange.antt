-- Effects that do not conflict change neither what the others read nor what is left in the end.
use Rattle.std.proofs.Common.{◌≡◌, ◌⊎◌, List, [], ◌∷◌, ◌++◌, refl, sym, ap, ◌∙◌, subst, inl, inr, ⊎_elim, Bool, true, false, ◌||◌, ◌&&◌, cond}
use Rattle.std.proofs.lemmas.Bool.{both_ways, cases_Bool, and_from, and_parts, or_left, or_right, or_cases, or_parts, false_from_ne_true, cond-false}
use mathlib.Core.Path.{fun_ext}
use Rattle.sc_base.specs.declared.value.Place.{Place}
use Rattle.sc_base.specs.declared.value.Value.{Value}
use Rattle.effect_order.specs.Effect.{Effect, same_place, held, conflicts, IsShown}
use Rattle.effect_order.specs.Items.{effects_of, memory_of, some_conflict, items_conflict}
use Rattle.effect_order.specs.Lists.{In, is_held}
use Rattle.effect_order.proofs.Equal.{place_is, place_self}
use Rattle.effect_order.proofs.Members.{held_by, held_from, not_held}

pub conflict_from : (a b : Effect) → a.place ≡ b.place → (a.wrote ≡ true) ⊎ (b.wrote ≡ true) → conflicts a b ≡ true
conflict_from a b e w = and_from _ _ (place_self _ _ e) (⊎_elim (λ u. or_left _ _ u) (λ u. or_right _ _ u) w)

pub conflict_back : (a b : Effect) → conflicts a b ≡ true → conflicts b a ≡ true
conflict_back a b h =
    let p = and_parts _ _ h in
    conflict_from b a (sym (place_is _ _ p.0)) (⊎_elim (λ u. inr u) (λ u. inl u) (or_cases a.wrote b.wrote p.1))

-- the two lists have effects that conflict
some-find : (us vs : List Effect) → some_conflict us vs ≡ true → (a b : Effect) × In a us × In b vs × (conflicts a b ≡ true)
some-find us [] h = absurd (cc)
some-find us (v ∷ vs) h =
    ⊎_elim
    (λ x. let p = held_by conflicts v us x in (p.0, v, p.1, inl refl, p.2))
    (λ x. let p = some-find us vs x in (p.0, p.1, p.2, inr p.3, p.4))
    (or_cases (is_held conflicts v us) (some_conflict us vs) h)

some-from : (us vs : List Effect) (a b : Effect) → In a us → In b vs → conflicts a b ≡ true → some_conflict us vs ≡ true
some-from us [] a b i j h = absurd j
some-from us (v ∷ vs) a b i (inl q) h = or_left _ _ (held_from conflicts v us a i (subst (λ u. conflicts a u ≡ true) q h))
some-from us (v ∷ vs) a b i (inr j) h = or_right _ _ (some-from us vs a b i j h)

pub some-back : (us vs : List Effect) → some_conflict us vs ≡ false → some_conflict vs us ≡ false
some-back us vs h =
    false_from_ne_true _ (λ e. let p = some-find vs us e in both_ways _ h (some-from us vs p.1 p.0 p.3 p.2 (conflict_back p.0 p.1 p.4)))

pub items-back : {X : Type 0} (does : X → List Effect) (a b : X) → items_conflict does a b ≡ true → items_conflict does b a ≡ true
items-back does a b h =
    ⊎_elim (λ e. e) (λ e. absurd (both_ways _ (some-back (does b) (does a) e) h)) (cases_Bool (some_conflict (does b) (does a)))

-- an effect of the list writes the place
some_writes : Place → List Effect → Bool
some_writes p [] = false
some_writes p (e ∷ es) = (e.wrote && same_place e.place p) || some_writes p es

writer : (p : Place) (es : List Effect) → some_writes p es ≡ true → (e : Effect) × In e es × (e.wrote ≡ true) × (e.place ≡ p)
unfolding some_writes
writer p [] h = absurd (cc)
writer p (e ∷ es) h =
    ⊎_elim
    (λ x. let q = and_parts _ _ x in (e, inl refl, q.0, place_is _ _ q.1))
    (λ x. let q = writer p es x in (q.0, inr q.1, q.2, q.3))
    (or_cases (e.wrote && same_place e.place p) (some_writes p es) h)

-- where none writes the place, it holds what it did
untouched : (m : Place → Value) (p : Place) (es : List Effect) → some_writes p es ≡ false → held m p es ≡ m p
unfolding some_writes
untouched m p [] h = refl
untouched m p (e ∷ es) h =
    let q = or_parts _ _ h in
    cond-false (e.wrote && same_place e.place p) e.value (held m p es) q.0 ∙ untouched m p es q.1

-- where one does, what it held is of no matter
overwritten : (m n : Place → Value) (p : Place) (es : List Effect) → some_writes p es ≡ true → held m p es ≡ held n p es
unfolding some_writes
overwritten m n p [] h = absurd (cc)
overwritten m n p (e ∷ es) h = by (e.wrote && same_place e.place p) refl (overwritten m n p es)
  where
    by : (b : Bool) → (e.wrote && same_place e.place p) ≡ b → (some_writes p es ≡ true → held m p es ≡ held n p es) → cond b e.value (held m p es) ≡ cond b e.value (held n p es)
    by true q f = refl
    by false q f = f (⊎_elim (λ x. absurd (both_ways _ q x)) (λ x. x) (or_cases (e.wrote && same_place e.place p) (some_writes p es) h))

-- where no effect of us conflicts with e, us leave at e's place what was there, or e's list overwrites it
beside : (m : Place → Value) (us : List Effect) (e : Effect) (es : List Effect) → is_held conflicts e us ≡ false → held (λ q. held m q us) e.place es ≡ held m e.place es
beside m us e es h =
    ⊎_elim
    (λ w. overwritten (λ q. held m q us) m e.place es w)
    (λ w.
    untouched (λ q. held m q us) e.place es w
    ∙ untouched m e.place us (false_from_ne_true _ (λ t. let p = writer e.place us t in not_held conflicts e us p.0 h p.1 (conflict_from p.0 e p.3 (inl p.2))))
    ∙ sym (untouched m e.place es w))
    (cases_Bool (some_writes e.place es))

-- what es read is the same after us
pub shown_after : (m : Place → Value) (us es : List Effect) → some_conflict us es ≡ false → IsShown m es → IsShown (λ q. held m q us) es
shown_after m us [] h k = tt
shown_after m us (e ∷ es) h k =
    let p = or_parts (is_held conflicts e us) (some_conflict us es) h in
    ((λ r. k.0 r ∙ sym (beside m us e es p.0)), shown_after m us es p.1 k.1)

pub shown_before : (m : Place → Value) (us es : List Effect) → some_conflict us es ≡ false → IsShown (λ q. held m q us) es → IsShown m es
shown_before m us [] h k = tt
shown_before m us (e ∷ es) h k =
    let p = or_parts (is_held conflicts e us) (some_conflict us es) h in
    ((λ r. k.0 r ∙ beside m us e es p.0), shown_before m us es p.1 k.1)

-- what the places hold after the effects
abbrev over : (Place → Value) → List Effect → Place → Value
over m us p = held m p us

-- effects that do not conflict leave the same in either order
pub exchanged : (m : Place → Value) (us vs : List Effect) → some_conflict us vs ≡ false → over (over m us) vs ≡ over (over m vs) us
exchanged m us vs h = fun_ext (λ p. at p)
  where
    one_only : (p : Place) → some_writes p us ≡ true → some_writes p vs ≡ true → ⊥
    one_only p a b =
        let x = writer p us a in
        let y = writer p vs b in
        both_ways _ h (some-from us vs x.0 y.0 x.1 y.1 (conflict_from x.0 y.0 (x.3 ∙ sym y.3) (inl x.2)))

    at : (p : Place) → held (λ q. held m q us) p vs ≡ held (λ q. held m q vs) p us
    at p =
        ⊎_elim
        (λ b.
        overwritten (λ q. held m q us) m p vs b
        ∙ sym (untouched (λ q. held m q vs) p us (false_from_ne_true _ (λ a. one_only p a b))))
        (λ b.
        untouched (λ q. held m q us) p vs b
        ∙ ⊎_elim
        (λ a. overwritten m (λ q. held m q vs) p us a)
        (λ a. untouched m p us a ∙ sym (untouched m p vs b) ∙ sym (untouched (λ q. held m q vs) p us a))
        (cases_Bool (some_writes p us)))
        (cases_Bool (some_writes p vs))

held-append : (m : Place → Value) (p : Place) (us vs : List Effect) → held m p (us ++ vs) ≡ held (λ q. held m q vs) p us
held-append m p [] vs = refl
held-append m p (u ∷ us) vs = ap (λ x. cond (u.wrote && same_place u.place p) u.value x) (held-append m p us vs)

-- what items leave is what their effects leave
pub one_memory : {X : Type 0} (does : X → List Effect) (start : Place → Value) (p : Place) (past : List X) → memory_of does start past p ≡ held start p (effects_of does past)
one_memory does start p [] = refl
one_memory does start p (x ∷ past) =
    ap (λ (m : Place → Value). held m p (does x)) (fun_ext (λ q. one_memory does start q past)) ∙ sym (held-append start p (does x) (effects_of does past))
