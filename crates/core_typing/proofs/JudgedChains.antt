-- What is known of judged chains, and of `&&` and `||`, a link or an operand at a time.
use Rattle.std.proofs.Common.{◌≡◌, refl, sym, ◌∙◌, subst, ℕ, Bool, true, false, ◌&&◌, ◌||◌, List, [], ◌∷◌, ◌++◌}
use Rattle.std.specs.Prelude.{Option, Some, None, if◌then◌else◌}
use Rattle.sc_base.specs.declared.operator.Binary.{Binary}
use Rattle.sc_base.specs.declared.operator.Binary.TheVariants as op
use Rattle.sc_base.specs.declared.shape.Star.{Star}
use Rattle.sc_base.specs.declared.shape.Shape.{Shape}
use Rattle.sc_base.specs.declared.shape.Ty.{Ty}
use Rattle.sc_tree.specs.Plain.{Expression, Expressions, no_expressions, expressions, link, Links, links}
use Rattle.sc_tree.specs.PlainTyped.{TypedExpression, TypedForm, TypedLink}
use Rattle.sc_tree.specs.PlainTyped as typed
use Rattle.sc_tree.specs.ViewTyped.{typed_links_of}
use Rattle.sc_typing.specs.declared.known.Spot.{Spot}
use Rattle.sc_typing.specs.declared.places.PlaceKind.{PlaceKind}
use Rattle.sc_typing.specs.declared.scope.InScope.{InScope}
use Rattle.sc_typing.specs.Source.{Source}
use Rattle.sc_typing.specs.Types.{int, has_stars, is_int}
use Rattle.sc_typing.specs.Known.{Valued, expression_of, fits, common, Judgement, only}
use Rattle.sc_typing.specs.Rules
use Rattle.sc_typing.specs.Operators.{int_value, Gathered, gathered, gather}
use Rattle.sc_typing.specs.Chains.{Linked, first_link, begin_chain, left_operand, has_links, met_unless, with_first, as_they_are, of_one_type, pushed, row_of, with_link, join_kept, join, chain_value}
use Rattle.sc_typing.specs.Typing.{gathered_value, both_form, either_form, nothing_gathered, chained, judge, judge_links, judge_operands}
use Rattle.sc_typing.proofs.TypedLists.{no_chain}
use Rattle.sc_core.specs.Places.{last_of, without_last, star_after}
use Rattle.sc_core.specs.Expressions.{object_in, found_form}
use Rattle.sc_core.specs.Kinds.{Scope}
use Rattle.core_typing.proofs.Types.{left_of, right_of, one_of, no_more, Points, points, int-stars, Fitting, equal, null, wider, fitting}
use Rattle.core_typing.proofs.Founds.{FoundIs}
use Rattle.sc_core.specs.Core.{Does}
use Rattle.sc_core.specs.Statements.{whole_form}
use Rattle.core_typing.proofs.Finds.{Finds}
use Rattle.core_typing.proofs.Forms.{Operates, on_number, on_pointer}
use Rattle.core_typing.proofs.Lists.{Chained, chained-first, chained-moved, chained-number, chained-equal, chained-differ, chain-comes, AllFind, all-push, both-comes, either-comes}
use Rattle.core_typing.proofs.Made.{never_some, some-is, only-is, made-of}
use Rattle.core_typing.proofs.Judged.{int-finds}
use Rattle.core_typing.proofs.Sound.{fit-both, fits-self, Sound, Knows, Whole, whole-as, value-whole, met-finds}

-- ---- operands of one type

int-void : (ty : Ty) → is_int ty ≡ true → ty.void ≡ false
int-void ty h = go ty.void h
  where
    go : (void : Bool) → (if void then false else (if has_stars ty.stars then false else true)) ≡ true → void ≡ false
    go true h = no_more h
    go false h = refl

int-is : (ty : Ty) → is_int ty ≡ true → ty ≡ int
int-is ty h = λ i. record { void = int-void ty h i; stars = int-stars ty h i }

-- what is compared fits one type
compared-fit : (a b : Valued) → Rules.comparable a b ≡ true →
    (fits a.ty a.is_null b.ty || fits b.ty b.is_null a.ty) ≡ true
compared-fit a b h =
    one_of ((is_int a.ty && is_int b.ty) || (has_stars b.ty.stars && fits a.ty a.is_null b.ty))
    (has_stars a.ty.stars && fits b.ty b.is_null a.ty) h
    (λ x. one_of (is_int a.ty && is_int b.ty) (has_stars b.ty.stars && fits a.ty a.is_null b.ty) x
    (λ y. first (ints (left_of (is_int a.ty) (is_int b.ty) y) (right_of (is_int a.ty) (is_int b.ty) y)))
    (λ y. first (right_of (has_stars b.ty.stars) (fits a.ty a.is_null b.ty) y)))
    (λ x. second (fits a.ty a.is_null b.ty) (right_of (has_stars a.ty.stars) (fits b.ty b.is_null a.ty) x))
  where
    first : fits a.ty a.is_null b.ty ≡ true → (fits a.ty a.is_null b.ty || fits b.ty b.is_null a.ty) ≡ true
    first e = rw e refl

    second : (s : Bool) → fits b.ty b.is_null a.ty ≡ true → (s || fits b.ty b.is_null a.ty) ≡ true
    second true e = refl
    second false e = e

    ints : is_int a.ty ≡ true → is_int b.ty ≡ true → fits a.ty a.is_null b.ty ≡ true
    ints x y =
        subst (λ (t : Ty). fits t a.is_null b.ty ≡ true) (sym (int-is a.ty x))
        (subst (λ (t : Ty). fits int a.is_null t ≡ true) (sym (int-is b.ty y)) (fits-self int a.is_null))

-- two types whose values are compared, both whole numbers or both pointers to one element
pub data Compared (ss ts : List Star) : Type 0 where
  numbers_compared : ss ≡ [] → ts ≡ [] → Compared ss ts
  pointers_compared : Points ss → Points ts → without_last ss ≡ without_last ts → Compared ss ts

compared-self : (ss : List Star) → Compared ss ss
compared-self [] = numbers_compared refl refl
compared-self (s ∷ ss) = pointers_compared (points (s ∷ ss) refl) (points (s ∷ ss) refl) refl

compared-fitting : {ss ts : List Star} → Fitting ss ts false → Compared ss ts
compared-fitting {ss = ss} (equal e) = subst (λ (ts : List Star). Compared ss ts) e (compared-self ss)
compared-fitting (null e p) = absurd (let z : false ≡ true = e in cc)
compared-fitting (wider a) = pointers_compared a.from a.onto a.elements

has_links-push : (rest : List TypedLink) (l : TypedLink) → has_links (rest ++ l ∷ []) ≡ true
has_links-push [] l = refl
has_links-push (m ∷ rest) l = refl

module _ (objects : List Shape) (scope : Scope) where
  -- what is known of a chain so far: it is its first operand alone, or has links, and its type is that of its value
  pub data Linking (l : Linked) : Type 0 where
    alone : {at_place : PlaceKind} → l.rest ≡ [] → l.ty ≡ l.first.ty → l.is_null ≡ l.first.is_null →
        Sound objects scope at_place l.first → Linking l
    with_links : has_links l.rest ≡ true → l.is_null ≡ false →
        Chained objects scope l.first.expression l.rest l.ty.stars → Linking l

  linking-chained : (l : Linked) → Linking l → Chained objects scope l.first.expression l.rest l.ty.stars
  linking-chained l (alone r t n s) =
      subst (λ (rest : List TypedLink). Chained objects scope l.first.expression rest l.ty.stars) (sym r)
      (subst (λ (ty : Ty). Chained objects scope l.first.expression [] ty.stars) (sym t)
      (chained-first objects scope s.finds))
  linking-chained l (with_links h n c) = c

  -- ---- a link

  moves-any : (ss : List Star) (o : Binary) → Rules.moves o ≡ true → Operates ss o
  moves-any [] o m = on_number refl
  moves-any (s ∷ ss) o m = on_pointer (points (s ∷ ss) refl) m

  sum-linking : {at_place : PlaceKind} (l : Linked) (o : Binary) (at line : ℕ) (v : Valued) → Rules.moves o ≡ true →
      star_after o (last_of l.ty.stars) ≡ last_of l.ty.stars → Linking l → Sound objects scope at_place v →
      Rules.sum_kept (Some (left_operand l)) (Some v) ≡ true → Linking (pushed (as_they_are l v) o l.ty at line)
  sum-linking l o at line v m s k f h =
      with_links (has_links-push l.rest _) refl
      (chained-moved objects scope o at line (moves-any l.ty.stars o m) s (linking-chained l k)
      (int-finds objects scope v f (right_of (Rules.are_scalar (Some (left_operand l))) (is_int v.ty) h)))

  other-linking : {at_place : PlaceKind} (l : Linked) (o : Binary) (at line : ℕ) (v : Valued) → Linking l →
      Sound objects scope at_place v → (is_int l.ty && is_int v.ty) ≡ true →
      Linking (pushed (as_they_are l v) o int at line)
  other-linking l o at line v k f h =
      with_links (has_links-push l.rest _) refl
      (chained-number objects scope o at line
      (subst (λ (ss : List Star). Chained objects scope l.first.expression l.rest ss)
      (int-stars l.ty (left_of (is_int l.ty) (is_int v.ty) h)) (linking-chained l k))
      (int-finds objects scope v f (right_of (is_int l.ty) (is_int v.ty) h)))

  -- `==` or `!=`
  pub data IsEquality : Binary → Type 0 where
    is_eq : IsEquality op.Eq
    is_ne : IsEquality op.Ne

  chained-compared : {first : TypedExpression} {rest : List TypedLink} {ss ts : List Star} {e : TypedExpression}
      {o : Binary} (at line : ℕ) → IsEquality o → Compared ss ts → Chained objects scope first rest ss →
      Finds objects scope ts e → Chained objects scope first (rest ++ typed.link o e at line ∷ []) []
  chained-compared {first = first} {rest = rest} {e = e} {o = o} at line is (numbers_compared x y) c f =
      chained-number objects scope o at line (subst (λ (ss : List Star). Chained objects scope first rest ss) x c)
      (subst (λ (ss : List Star). Finds objects scope ss e) y f)
  chained-compared at line is_eq (pointers_compared p q same) c f = chained-equal objects scope at line p q same c f
  chained-compared at line is_ne (pointers_compared p q same) c f = chained-differ objects scope at line p q same c f

  first-met : (l : Linked) (ty : Ty) → Linking l → fits l.ty l.is_null ty ≡ true →
      (ss : List Star) × Compared ss ty.stars × Chained objects scope (with_first l ty).first.expression l.rest ss
  first-met l ty (alone r t n s) h = (
    ty.stars,
    compared-self ty.stars,
    subst (λ (rest : List TypedLink). Chained objects scope (met_unless (has_links rest) l.first ty).expression rest ty.stars)
        (sym r) (chained-first objects scope (met-finds objects scope l.first ty s
        (subst (λ (m : Bool). fits l.first.ty m ty ≡ true) n (subst (λ (a : Ty). fits a l.is_null ty ≡ true) t h)))),
  )
  first-met l ty (with_links r n c) h = (
    l.ty.stars,
    compared-fitting (fitting l.ty false ty (subst (λ (m : Bool). fits l.ty m ty ≡ true) n h)),
    subst (λ (has : Bool). Chained objects scope (met_unless has l.first ty).expression l.rest l.ty.stars) (sym r) c,
  )

  equality-linking : {at_place : PlaceKind} (l : Linked) (o : Binary) (at line : ℕ) (v : Valued) → IsEquality o → Linking l →
      Sound objects scope at_place v → Rules.comparable (left_operand l) v ≡ true →
      Linking (pushed (of_one_type l v) o int at line)
  equality-linking l o at line v is k f h =
      let fit = fit-both l.ty l.is_null v.ty v.is_null (compared-fit (left_operand l) v h) in
      let m = first-met l (common l.ty l.is_null v.ty) k fit.first in
      with_links (has_links-push l.rest _) refl
      (chained-compared at line is m.1 m.2 (met-finds objects scope v (common l.ty l.is_null v.ty) f fit.second))

  pub link-linking : {at_place : PlaceKind} (l : Linked) (o : Binary) (at line : ℕ) (v : Valued) → Linking l →
      Sound objects scope at_place v → (row_of o).kept (Some (left_operand l)) (Some v) ≡ true →
      Linking (with_link (row_of o) l o at line v)
  link-linking l op.Add at line v k f h = sum-linking l op.Add at line v refl refl k f h
  link-linking l op.Sub at line v k f h = sum-linking l op.Sub at line v refl refl k f h
  link-linking l op.Eq at line v k f h = equality-linking l op.Eq at line v is_eq k f h
  link-linking l op.Ne at line v k f h = equality-linking l op.Ne at line v is_ne k f h
  link-linking l o at line v k f h = other-linking l o at line v k f h

  module _ (c : Source) (locals : List InScope) where
    joined : (l : Linked) (o : Binary) (e : Expression) (at line : ℕ) → Linking l → Knows objects scope (judge c locals 0 e) →
        (m : Linked) → join (Some l) o (judge c locals 0 e) at line ≡ Some m → Linking m
    unfolding join
    joined l o e at line x known m same =
        let d =
        made-of (with_link (row_of o) l o at line) (join_kept (Some l) o (judge c locals 0 e))
        (judge c locals 0 e).known m same in
        subst (λ (m : Linked). Linking m) d.gives
        (link-linking l o at line d.of x (known d.of d.is)
        (subst (λ (t : Option Valued). (row_of o).kept (Some (left_operand l)) t ≡ true) d.is d.rule))

    -- the chain with one link more, and with those that follow
    pub link-step : (l : Linked) (o : Binary) (e : Expression) (at line : ℕ) (more : Links) → Linking l →
        Knows objects scope (judge c locals 0 e) →
        ((m : Linked) → Linking m → (k : Linked) → judge_links c locals (Some m) more ≡ Some k → Linking k) →
        (k : Linked) → judge_links c locals (Some l) (links (link o e at line) more) ≡ Some k → Linking k
    link-step l o e at line more x known further k h = go (join (Some l) o (judge c locals 0 e) at line) refl h
      where
        go : (m : Option Linked) → join (Some l) o (judge c locals 0 e) at line ≡ m →
            judge_links c locals m more ≡ Some k → Linking k
        go None same g = never_some (sym (no_chain c locals more) ∙ g)
        go (Some m) same g = further m (joined l o e at line x known m same) k g

    begun : (j : Judgement) → Knows objects scope j → (m : Linked) → begin_chain j ≡ Some m → Linking m
    unfolding begin_chain
    begun j known m same =
        let d = made-of first_link true j.known m same in
        subst (λ (m : Linked). Linking m) d.gives (alone refl refl refl (known d.of d.is))

    pub chain-whole : (first : Expression) (rest : Links) (spot : Spot) (v : Valued) →
        Knows objects scope (judge c locals 0 first) →
        ((m : Linked) → Linking m → (k : Linked) → judge_links c locals (Some m) rest ≡ Some k → Linking k) →
        (chained spot (judge_links c locals (begin_chain (judge c locals 0 first)) rest)).known ≡ Some v →
        Whole objects scope (chained spot (judge_links c locals (begin_chain (judge c locals 0 first)) rest)) v
    chain-whole first rest spot v known further h = go (begin_chain (judge c locals 0 first)) refl h
      where
        ends : (k : Linked) → Linking k → Whole objects scope (chained spot (Some k)) (chain_value spot k)
        ends k x =
            value-whole objects scope (typed.chain (expression_of k.first) (typed_links_of k.rest)) k.ty false spot _ refl
            refl refl (λ d. refl) (chain-comes objects scope spot.line (linking-chained k x))

        last : (m : Option Linked) → ((k : Linked) → m ≡ Some k → Linking k) → (chained spot m).known ≡ Some v →
            Whole objects scope (chained spot m) v
        last None x g = never_some g
        last (Some k) x g = whole-as objects scope (chain_value spot k) v (some-is _ v g) (ends k (x k refl))

        go : (m : Option Linked) → begin_chain (judge c locals 0 first) ≡ m →
            (chained spot (judge_links c locals m rest)).known ≡ Some v →
            Whole objects scope (chained spot (judge_links c locals m rest)) v
        go None same g =
            never_some
            (subst (λ (m : Option Linked). (chained spot m).known ≡ Some v) (no_chain c locals rest) g)
        go (Some m) same g =
            last (judge_links c locals (Some m) rest) (further m (begun (judge c locals 0 first) known m same)) g

    -- ---- operands of `&&` and `||`

    pub whole-before : (all : Expressions) (g : Gathered) → (judge_operands c locals g all).whole ≡ true → g.whole ≡ true
    unfolding gather
    whole-before no_expressions g h = h
    whole-before (expressions e more) g h =
        go (only (Rules.test_kept (judge c locals 0 e).known) (judge c locals 0 e).known)
        (whole-before more (gather g (judge c locals 0 e)) h)
      where
        go : (o : Option Valued) → (gathered g o).whole ≡ true → g.whole ≡ true
        go None x = no_more x
        go (Some v) x = x

    gather-finds : (g : Gathered) (j : Judgement) → Knows objects scope j → AllFind objects scope g.all →
        (gather g j).whole ≡ true → AllFind objects scope (gather g j).all
    unfolding gather
    gather-finds g j known fs h = go (only (Rules.test_kept j.known) j.known) refl h
      where
        go : (o : Option Valued) → only (Rules.test_kept j.known) j.known ≡ o → (gathered g o).whole ≡ true →
            AllFind objects scope (gathered g o).all
        go None e x = no_more x
        go (Some v) e x = all-push objects scope fs (known v (only-is (Rules.test_kept j.known) j.known v e).is).finds

    pub operand-step : (g : Gathered) (e : Expression) (more : Expressions) → Knows objects scope (judge c locals 0 e) →
        ((k : Gathered) → AllFind objects scope k.all → (judge_operands c locals k more).whole ≡ true →
        AllFind objects scope (judge_operands c locals k more).all) →
        AllFind objects scope g.all → (judge_operands c locals g (expressions e more)).whole ≡ true →
        AllFind objects scope (judge_operands c locals g (expressions e more)).all
    operand-step g e more known further fs h =
        further (gather g (judge c locals 0 e))
        (gather-finds g (judge c locals 0 e) known fs (whole-before more (gather g (judge c locals 0 e)) h)) h

    gathered-whole : (form : List TypedExpression → TypedForm) (spot : Spot) (g : Gathered) (v : Valued) →
        object_in (form g.all) ≡ None → ((d : Does) → whole_form objects (form g.all) d spot.line ≡ d) →
        (g.whole ≡ true → FoundIs scope [] (found_form objects (form g.all) spot.line)) →
        (gathered_value form spot g).known ≡ Some v → Whole objects scope (gathered_value form spot g) v
    gathered-whole form spot g v o q f h = go g.whole refl h
      where
        go : (w : Bool) → g.whole ≡ w → (if w then Some (int_value (form g.all) spot) else None) ≡ Some v →
            Whole objects scope (gathered_value form spot g) v
        go false e x = never_some x
        go true e x =
            whole-as objects scope _ v (some-is _ v x) (value-whole objects scope (form g.all) int false spot _ refl refl o q (f e))

    pub both-whole : (all : Expressions) (spot : Spot) (v : Valued) →
        ((judge_operands c locals nothing_gathered all).whole ≡ true →
        AllFind objects scope (judge_operands c locals nothing_gathered all).all) →
        (gathered_value both_form spot (judge_operands c locals nothing_gathered all)).known ≡ Some v →
        Whole objects scope (gathered_value both_form spot (judge_operands c locals nothing_gathered all)) v
    both-whole all spot v f h =
        gathered-whole both_form spot (judge_operands c locals nothing_gathered all) v refl (λ d. refl)
        (λ w. both-comes objects scope spot.line (f w)) h

    pub either-whole : (all : Expressions) (spot : Spot) (v : Valued) →
        ((judge_operands c locals nothing_gathered all).whole ≡ true →
        AllFind objects scope (judge_operands c locals nothing_gathered all).all) →
        (gathered_value either_form spot (judge_operands c locals nothing_gathered all)).known ≡ Some v →
        Whole objects scope (gathered_value either_form spot (judge_operands c locals nothing_gathered all)) v
    either-whole all spot v f h =
        gathered-whole either_form spot (judge_operands c locals nothing_gathered all) v refl (λ d. refl)
        (λ w. either-comes objects scope spot.line (f w)) h
