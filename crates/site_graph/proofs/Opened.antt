-- One point after another is opened.
use Rattle.std.proofs.Common.{◌≡◌, ◌⊎◌, ℕ, zero, suc, ◌+◌, ◌<◌, ◌≤◌, List, [], ◌∷◌, ◌++◌, Some, Bool, true, false, cond, ◌&&◌, ◌==◌, length, get_or, refl, sym, ap, ◌∙◌, subst, inl, inr, ⊎_elim, arith}
use Rattle.std.specs.List.{Contains, slice_get}
use Rattle.std.proofs.lemmas.Option.{slice_get-get_or, get_or_from_slice_get}
use Rattle.std.proofs.lemmas.Bool.{or_cases, or_left, or_right, and_parts, and_from, eqb-true, eq-eqb, cases_eq, cases_Bool, both_ways, false_from_ne_true}
use Rattle.std.proofs.lemmas.List.{length_push}
use Rattle.std.proofs.lemmas.List.Elements.{Contains-get_or, Contains-append_left, Contains-push, Contains-push_cases}
use Rattle.site_graph.specs.declared.flow.Edge.{Edge}
use Rattle.site_graph.specs.Bits.{Bits, IsSet, IsWith}
use Rattle.site_graph.specs.Graph.{Graph}
use Rattle.site_graph.specs.Ways.{Goes}
use Rattle.site_graph.specs.Opened.{IsTarget, IsBegunBefore, has, unset, IsOpened}
use Rattle.site_graph.proofs.Members.{in_nil, in_first, in_later, in_cons}

-- ---- whether a pair is in a list

pub has_from : (ps : List (ℕ × ℕ)) (r c : ℕ) → Contains ps (r, c) → has ps r c ≡ true
has_from [] r c i = absurd (in_nil (r, c) i)
has_from (p ∷ ps) r c i =
    ⊎_elim
    (λ e. or_left ((p.0 == r) && (p.1 == c)) (has ps r c)
    (and_from (p.0 == r) (p.1 == c) (eq-eqb _ _ (ap (λ (x : ℕ × ℕ). x.0) e)) (eq-eqb _ _ (ap (λ (x : ℕ × ℕ). x.1) e))))
    (λ i. or_right ((p.0 == r) && (p.1 == c)) (has ps r c) (has_from ps r c i))
    (in_cons p (r, c) ps i)

pub in_from_has : (ps : List (ℕ × ℕ)) (r c : ℕ) → has ps r c ≡ true → Contains ps (r, c)
in_from_has [] r c h = cc
in_from_has (p ∷ ps) r c h =
    ⊎_elim
    (λ e. let s = and_parts (p.0 == r) (p.1 == c) e in
    let same : p ≡ (r, c) = ap (λ x. (x, p.1)) (eqb-true _ _ s.0) ∙ ap (λ x. (r, x)) (eqb-true _ _ s.1) in
    subst (Contains (p ∷ ps)) same (in_first p ps))
    (λ e. in_later p (r, c) ps (in_from_has ps r c e))
    (or_cases ((p.0 == r) && (p.1 == c)) (has ps r c) h)

pub not_has : (ps : List (ℕ × ℕ)) (r c : ℕ) → (Contains ps (r, c) → ⊥) → has ps r c ≡ false
not_has ps r c h = false_from_ne_true (has ps r c) (λ t. h (in_from_has ps r c t))

pub same_has : (ps qs : List (ℕ × ℕ)) (r c : ℕ) → (Contains ps (r, c) → Contains qs (r, c)) → (Contains qs (r, c) → Contains ps (r, c)) → has ps r c ≡ has qs r c
same_has ps qs r c to from =
    ⊎_elim (λ t. t ∙ sym (has_from qs r c (to (in_from_has ps r c t))))
    (λ f. f ∙ sym (not_has qs r c (λ i. both_ways (has ps r c) f (has_from ps r c (from i)))))
    (cases_Bool (has ps r c))

-- ---- how many columns are not set

same_unset : (old new : Bits) (n : ℕ) → ((c : ℕ) → c < n → has new.set 0 c ≡ has old.set 0 c) → unset new n ≡ unset old n
same_unset old new zero h = refl
same_unset old new (suc n) h =
    let e = same_unset old new n (λ c l. h c (omega arith)) in
    let f = ap {B = ℕ} (λ (b : Bool). cond {A = ℕ} b 0 1) (h n (omega arith)) in
    omega (arith, e, f)

one_unset : (old new : Bits) (p n : ℕ) → p < n → has old.set 0 p ≡ false → has new.set 0 p ≡ true
    → ((c : ℕ) → (c ≡ p → ⊥) → has new.set 0 c ≡ has old.set 0 c) → unset new n + 1 ≡ unset old n
one_unset old new p zero l f t h = absurd (omega arith)
one_unset old new p (suc n) l f t h =
    ⊎_elim
    (λ e. let same = same_unset old new n (λ c k. h c (λ q. omega (arith, q, e, k))) in
    let was = ap {B = ℕ} (λ (b : Bool). cond {A = ℕ} b 0 1) (subst (λ x. has old.set 0 x ≡ false) e f) in
    let is = ap {B = ℕ} (λ (b : Bool). cond {A = ℕ} b 0 1) (subst (λ x. has new.set 0 x ≡ true) e t) in
    omega (arith, same, was, is))
    (λ e. let fewer = one_unset old new p n (omega arith) f t h in
    let same = ap {B = ℕ} (λ (b : Bool). cond {A = ℕ} b 0 1) (h n (λ q. e (sym q))) in
    omega (arith, fewer, same))
    (cases_eq p n)

-- ---- no point, one, and more

pub none_opened : (T : ℕ → Type 0) (bits : Bits) (todo : List ℕ) → ((t : ℕ) → T t → IsSet bits 0 t) → IsOpened T bits bits todo todo
none_opened T bits todo set = record {
  same_rows = refl;
  same_columns = refl;
  pairs = λ r c. (λ s. inl s, λ s. ⊎_elim (λ o. o) (λ n. subst (λ x. IsSet bits x c) (sym n.0) (set c n.1)) s);
  kept = λ t i. i;
  opened = λ t s. inl s;
  listed = λ t i. inl i;
  left = refl;
}

pub one_opened : (p : ℕ) (old new : Bits) (todo after : List ℕ) → (IsSet old 0 p → ⊥) → p < old.columns → IsWith 0 p old new → after ≡ todo ++ p ∷ []
    → IsOpened (λ t. t ≡ p) old new todo after
one_opened p old new todo after fresh l w e =
    subst (λ ys. IsOpened (λ t. t ≡ p) old new todo ys) (sym e) (record {
      same_rows = w.same_rows;
      same_columns = w.same_columns;
      pairs = λ r c. w.pairs r c;
      kept = λ t i. Contains-append_left todo (p ∷ []) t i;
      opened = λ t s. ⊎_elim inl (λ n. inr (subst (Contains (todo ++ p ∷ [])) (sym n.1) (Contains-push todo p))) ((w.pairs 0 t).0 s);
      listed = λ t i. ⊎_elim inl (λ n. inr ((w.pairs 0 t).1 (inr (refl, sym n)))) (Contains-push_cases todo p t i);
      left =
          let fewer : unset new old.columns + 1 ≡ unset old old.columns =
          one_unset old new p old.columns l (not_has old.set 0 p fresh) (has_from new.set 0 p ((w.pairs 0 p).1 (inr (refl, refl))))
          (λ c d. same_has new.set old.set 0 c (λ s. ⊎_elim (λ o. o) (λ n. absurd (d n.1)) ((w.pairs 0 c).0 s)) (λ o. (w.pairs 0 c).1 (inl o))) in
          let same = ap (λ n. unset new n) w.same_columns in
          omega (arith, fewer, same, length_push todo p);
    })

pub then_opened : (T U V : ℕ → Type 0) (a b c : Bits) (xs ys zs : List ℕ) → IsOpened T a b xs ys → IsOpened U b c ys zs
    → ((t : ℕ) → V t → T t ⊎ U t) → ((t : ℕ) → T t → V t) → ((t : ℕ) → U t → V t) → IsOpened V a c xs zs
then_opened T U V a b c xs ys zs f g split left right = record {
  same_rows = g.same_rows ∙ f.same_rows;
  same_columns = g.same_columns ∙ f.same_columns;
  pairs = λ r d. (
    (λ s. ⊎_elim (λ o. ⊎_elim inl (λ n. inr (n.0, left d n.1)) ((f.pairs r d).0 o)) (λ n. inr (n.0, right d n.1)) ((g.pairs r d).0 s)),
    (λ s. ⊎_elim (λ o. (g.pairs r d).1 (inl ((f.pairs r d).1 (inl o))))
        (λ n. ⊎_elim (λ x. (g.pairs r d).1 (inl ((f.pairs r d).1 (inr (n.0, x))))) (λ x. (g.pairs r d).1 (inr (n.0, x))) (split d n.1)) s),
  );
  kept = λ t i. g.kept t (f.kept t i);
  opened = λ t s. ⊎_elim (λ o. ⊎_elim inl (λ i. inr (g.kept t i)) (f.opened t o)) inr (g.opened t s);
  listed = λ t i. ⊎_elim (λ j. ⊎_elim inl (λ s. inr ((g.pairs 0 t).1 (inl s))) (f.listed t j)) inr (g.listed t i);
  left = g.left ∙ f.left;
}

pub as_opened : (T V : ℕ → Type 0) (a b : Bits) (xs ys : List ℕ) → IsOpened T a b xs ys → ((t : ℕ) → V t → T t) → ((t : ℕ) → T t → V t) → IsOpened V a b xs ys
as_opened T V a b xs ys f to from =
    then_opened T T V a b b xs ys ys f (none_opened T b ys (λ t x. (f.pairs 0 t).1 (inr (refl, x)))) (λ t v. inl (to t v)) from from

-- ---- the points to which edges lead

pub no_target : (edges : List Edge) (from t : ℕ) → IsTarget edges from from t → ⊥
no_target edges from t x = omega (arith, x.2, x.3)

pub more_opened : (edges : List Edge) (from i p : ℕ) (d : Edge) (a b c : Bits) (xs ys zs : List ℕ) → from ≤ i → i < length edges → p ≡ (get_or edges i d).to
    → IsOpened (IsTarget edges from i) a b xs ys → IsOpened (λ t. t ≡ p) b c ys zs → IsOpened (IsTarget edges from (i + 1)) a c xs zs
more_opened edges from i p d a b c xs ys zs l h s f g =
    let some = slice_get-get_or edges i d h in
    then_opened (IsTarget edges from i) (λ t. t ≡ p) (IsTarget edges from (i + 1)) a b c xs ys zs f g
    (λ t (k, e, m, n, at, is). ⊎_elim
    (λ q. inr (sym is ∙ (ap (λ (x : Edge). x.to) (sym (get_or_from_slice_get edges i e d (subst (λ x. slice_get edges x ≡ Some e) q at))) ∙ sym s)))
    (λ q. inl (k, e, m, omega arith, at, is)) (cases_eq k i))
    (λ t (k, e, m, n, at, is). (k, e, m, omega arith, at, is))
    (λ t q. (i, get_or edges i d, l, omega arith, some, sym s ∙ sym q))

-- ---- the points to which edges lead from a list of starts

pub more_begun : (graph : Graph) (starts : List ℕ) (i p : ℕ) (a b c : Bits) (xs ys zs : List ℕ) → slice_get starts i ≡ Some p
    → IsOpened (IsBegunBefore graph starts i) a b xs ys → IsOpened (Goes graph p) b c ys zs → IsOpened (IsBegunBefore graph starts (i + 1)) a c xs zs
more_begun graph starts i p a b c xs ys zs at f g =
    then_opened (IsBegunBefore graph starts i) (Goes graph p) (IsBegunBefore graph starts (i + 1)) a b c xs ys zs f g
    (λ t (k, q, n, is, e). ⊎_elim
    (λ same. inr (subst (λ x. Goes graph x t) (let one : q ≡ p = cc in one) e))
    (λ other. inl (k, q, omega arith, is, e)) (cases_eq k i))
    (λ t (k, q, n, is, e). (k, q, omega arith, is, e))
    (λ t e. (i, p, omega arith, at, e))

pub begun_all : (graph : Graph) (starts : List ℕ) (a b : Bits) (xs ys : List ℕ) → IsOpened (IsBegunBefore graph starts (length starts)) a b xs ys
    → IsOpened (λ t. (p : ℕ) × Contains starts p × Goes graph p t) a b xs ys
begun_all graph starts a b xs ys f =
    as_opened (IsBegunBefore graph starts (length starts)) (λ t. (p : ℕ) × Contains starts p × Goes graph p t) a b xs ys f
    (λ t (p, (k, n, is), e). (k, p, n, subst (λ x. slice_get starts k ≡ Some x) is (slice_get-get_or starts k p n), e))
    (λ t (k, p, n, is, e). (p, subst (Contains starts) (get_or_from_slice_get starts k p p is) (Contains-get_or starts k p n), e))
