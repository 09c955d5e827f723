-- The tests of places and of values tell equality.
use Rattle.std.proofs.Common.{◌≡◌, ℕ, eqb-true, eq-eqb, refl, ap, ◌∙◌, subst, true, ◌&&◌, ◌==◌}
use Rattle.std.proofs.lemmas.Bool.{and_from, and_parts}
use Rattle.std.proofs.lemmas.Bool.Decides.{Decides-int_eq}
use Rattle.sc_base.specs.declared.value.Place.{Place}
use Rattle.sc_base.specs.declared.value.Value.{Value}
use Rattle.sc_base.specs.declared.value.Value.TheVariants.{Int, Null, Ptr}
use Rattle.effect_order.specs.Effect.{same_place, same_value}

place : ℕ → ℕ → ℕ → Place
place object node offset = record { object = object; node = node; offset = offset }

pub place_is : (p q : Place) → same_place p q ≡ true → p ≡ q
unfolding place
place_is p q h =
    let a = and_parts ((p.object == q.object) && (p.node == q.node)) (p.offset == q.offset) h in
    let b = and_parts (p.object == q.object) (p.node == q.node) a.0 in
    let object : p.object ≡ q.object = eqb-true _ _ b.0 in
    let node : p.node ≡ q.node = eqb-true _ _ b.1 in
    let offset : p.offset ≡ q.offset = eqb-true _ _ a.1 in
    ap (λ u. place u p.node p.offset) object ∙ ap (λ u. place q.object u p.offset) node ∙ ap (λ u. place q.object q.node u) offset

pub place_self : (p q : Place) → p ≡ q → same_place p q ≡ true
place_self p q e =
    let object : (p.object == q.object) ≡ true = eq-eqb _ _ (ap (λ (u : Place). u.object) e) in
    let node : (p.node == q.node) ≡ true = eq-eqb _ _ (ap (λ (u : Place). u.node) e) in
    let offset : (p.offset == q.offset) ≡ true = eq-eqb _ _ (ap (λ (u : Place). u.offset) e) in
    and_from _ _ (and_from _ _ object node) offset

pub value_is : (v w : Value) → same_value v w ≡ true → v ≡ w
value_is (Int a) (Int b) h = ap (λ u. Int u) ((Decides-int_eq a b).0 h)
value_is (Int a) Null h = absurd (cc)
value_is (Int a) (Ptr object node offset) h = absurd (cc)
value_is Null (Int b) h = absurd (cc)
value_is Null Null h = refl
value_is Null (Ptr object node offset) h = absurd (cc)
value_is (Ptr o n f) (Int b) h = absurd (cc)
value_is (Ptr o n f) Null h = absurd (cc)
value_is (Ptr o n f) (Ptr object node offset) h =
    let a = and_parts ((o == object) && (n == node)) (f == offset) h in
    let b = and_parts (o == object) (n == node) a.0 in
    ap (λ u. Ptr u n f) (eqb-true o object b.0) ∙ ap (λ u. Ptr object u f) (eqb-true n node b.1) ∙ ap (λ u. Ptr object node u) (eqb-true f offset a.1)

same_self : (v : Value) → same_value v v ≡ true
same_self (Int a) = (Decides-int_eq a a).1 refl
same_self Null = refl
same_self (Ptr o n f) = and_from _ _ (and_from _ _ (eq-eqb o o refl) (eq-eqb n n refl)) (eq-eqb f f refl)

pub value_self : (v w : Value) → v ≡ w → same_value v w ≡ true
value_self v w e = subst (λ u. same_value v u ≡ true) e (same_self v)
