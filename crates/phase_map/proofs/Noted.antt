-- Notes of locals, point after point: each is uneven, and a pass that notes none has found all.
use Rattle.std.proofs.Common.{◌≡◌, ◌≢◌, ◌⊎◌, ◌↔◌, ℕ, ◌+◌, ◌<◌, List, [], ◌∷◌, Bool, true, false, ◌||◌, Some, length, get_or, refl, sym, ap, ◌∙◌, subst, inl, inr, ⊎_elim, arith}
use Rattle.std.specs.List.{Contains, slice_get}
use Rattle.std.proofs.lemmas.Bool.{cases_eq, cases_Bool, both_ways, false_from_ne_true, or_left, or_right, or_cases}
use Rattle.std.proofs.lemmas.Option.{slice_get-get_or, slice_get_within}
use Rattle.site_graph.specs.declared.point.Point.{Point}
use Rattle.site_graph.specs.declared.point.TheConstants.{NODE_MARK}
use Rattle.site_graph.specs.Bits.{Bits, IsSet, IsWith, no_bits}
use Rattle.site_graph.specs.Graph.{Graph}
use Rattle.site_graph.specs.Opened.{unset}
use Rattle.site_graph.proofs.Members.{in_nil}
use Rattle.site_graph.proofs.Opened.{one_opened}
use Rattle.phase_map.specs.declared.noting.Locals.{Locals}
use Rattle.phase_map.specs.Uneven.{IsPoint, MainIsCalled, UnevenLocal, of_called, main_called, set_by_mark, set_by_local, set_behind}
use Rattle.phase_map.specs.Noting.{MayDiffer, ReadsUneven, WritesBelow, AreKnown, IsBehind, SetsUneven, IsNoted, AreNoted}

pub point_read : (graph : Graph) (points : List Point) (n : ℕ) (p : Point) → points ≡ graph.points → n < length points → p ≡ get_or points n p → IsPoint graph n p
point_read graph points n p e l is = ap (λ ps. slice_get ps n) (sym e) ∙ (slice_get-get_or points n p l ∙ ap Some (sym is))

same_point : (graph : Graph) (t : ℕ) (p q : Point) → IsPoint graph t p → IsPoint graph t q → p ≡ q
same_point graph t p q s r = let e : Some p ≡ Some q = sym s ∙ r in cc

pub known_first : (graph : Graph) (main end : ℕ) (called : Bool) (noted : Bits) (p : Point) → IsPoint graph 0 p → p.function ≡ main → (called ≡ true) ↔ MainIsCalled graph
    → WritesBelow graph (length graph.points) end → noted ≡ no_bits 1 end → AreKnown graph (record { main = main; called = called; noted = noted })
known_first graph main end called noted p is e called_is below none = record {
  main_is = λ f. (
    (λ h. h p is ∙ e),
    (λ same q at. same ∙ (sym e ∙ ap (λ (x : Point). x.function) (same_point graph 0 p q is at))),
  );
  called_is = called_is;
  rows = ap (λ (b : Bits). b.rows) none;
  room = subst (WritesBelow graph (length graph.points)) (sym (ap (λ (b : Bits). b.columns) none)) below;
  noted = λ x s. absurd (in_nil (0, x) (subst (λ (b : Bits). IsSet b 0 x) none s));
}

-- ---- what is known is so

pub differs_so : (graph : Graph) (known : Locals) (f x : ℕ) → AreKnown graph known → MayDiffer known f x → UnevenLocal graph f x
differs_so graph known f x is d = ⊎_elim
    (λ c. main_called f x (is.called_is.0 c))
    (λ m. ⊎_elim
    (λ e. ⊎_elim (λ other. absurd (other e)) (λ s. subst (λ g. UnevenLocal graph g x) (sym e) (is.noted x s)) m)
    (λ e. of_called f x (λ own. e ((is.main_is f).0 own))) (cases_eq f known.main)) d

pub reads_so : (graph : Graph) (known : Locals) (p : Point) → AreKnown graph known → ReadsUneven known p
    → Contains p.reads NODE_MARK ⊎ ((x : ℕ) × Contains p.reads x × (x ≢ NODE_MARK) × UnevenLocal graph p.function x)
reads_so graph known p is (x, i, d) = ⊎_elim
    (λ e. inl (subst (Contains p.reads) e i))
    (λ e. inr (x, i, e, ⊎_elim (λ q. absurd (e q)) (λ m. differs_so graph known p.function x is m) d)) (cases_eq x NODE_MARK)

sets_so : (graph : Graph) (known : Locals) (behind : Bits) (w x : ℕ) (p : Point) (parted : Bool) → AreKnown graph known → IsBehind graph behind
    → (parted ≡ true → IsSet behind 0 w) → IsPoint graph w p → p.writes ≡ Some x → SetsUneven known p parted → UnevenLocal graph p.function x
sets_so graph known behind w x p parted is b here at writes sets = ⊎_elim
    (λ t. let (u, uneven, clear) = b w (here t) in set_behind u w x p uneven clear at writes)
    (λ r. ⊎_elim (λ mark. set_by_mark w x p at writes mark) (λ (y, i, e, d). set_by_local w x y p at writes i e d) (reads_so graph known p is r)) sets

-- ---- one point

fewer_unset : (x : ℕ) (old new : Bits) → (IsSet old 0 x → ⊥) → x < old.columns → IsWith 0 x old new → unset new new.columns < unset old old.columns
fewer_unset x old new fresh l w =
    let o = one_opened x old new [] (x ∷ []) fresh l w refl in
    let left : unset new new.columns + 1 ≡ unset old old.columns + 0 = o.left in
    omega arith

one_noted : (graph : Graph) (behind : Bits) (n : ℕ) (p : Point) (parted : Bool) (old new : Locals) → IsPoint graph n p → IsBehind graph behind
    → (parted ≡ true → IsSet behind 0 n) → AreKnown graph old → (new.main ≡ old.main) → (new.called ≡ old.called) → (x : ℕ) → p.writes ≡ Some x → x ≢ NODE_MARK
    → SetsUneven old p parted → (MayDiffer old p.function x → ⊥) → IsWith 0 x old.noted new.noted
    → AreKnown graph new × (unset new.noted new.noted.columns < unset old.noted old.noted.columns)
one_noted graph behind n p parted old new at b here is main called x writes other sets none w =
    let own : p.function ≡ old.main = ⊎_elim (λ e. e) (λ e. absurd (none (inr (inl e)))) (cases_eq p.function old.main) in
    let uneven = sets_so graph old behind n x p parted is b here at writes sets in (
      record {
        main_is = λ f. ((λ h. (is.main_is f).0 h ∙ sym main), (λ e. (is.main_is f).1 (e ∙ main)));
        called_is = ((λ c. is.called_is.0 (sym called ∙ c)), (λ c. called ∙ is.called_is.1 c));
        rows = w.same_rows ∙ is.rows;
        room = subst (WritesBelow graph (length graph.points)) (sym w.same_columns) is.room;
        noted = λ y s. subst (λ f. UnevenLocal graph f y) (sym main)
            (⊎_elim (λ o. is.noted y o) (λ (r, e). subst (UnevenLocal graph old.main) (sym e) (subst (λ f. UnevenLocal graph f x) own uneven)) ((w.pairs 0 y).0 s));
      },
      fewer_unset x old.noted new.noted (λ s. none (inr (inr s))) (is.room n x p (slice_get_within graph.points n p at) at writes other) w,
    )

-- ---- point after point

pub none_noted : (graph : Graph) (behind : Bits) (known : Locals) → AreKnown graph known → AreNoted graph behind 0 known known false
none_noted graph behind known is = record {
  known = is;
  none = λ e. (refl, λ w x p l. absurd (omega arith));
  some = λ e. cc;
}

pub note_more : (graph : Graph) (behind : Bits) (n : ℕ) (p : Point) (parted gains more : Bool) (old now new : Locals) → IsPoint graph n p → IsBehind graph behind
    → (parted ≡ true) ↔ IsSet behind 0 n → AreNoted graph behind n old now gains → IsNoted p parted now new more → AreNoted graph behind (n + 1) old new (gains || more)
note_more graph behind n p parted gains more old now new at b here a i = ⊎_elim one none (cases_Bool more)
  where
    less : more ≡ true → (x : ℕ) → (gains ≡ true) ⊎ (gains ≡ false) → x < unset now.noted now.noted.columns → x < unset old.noted old.noted.columns
    less m x g l = ⊎_elim (λ t. let s = a.some t in omega arith)
        (λ f. let e = ap (λ (k : Locals). unset k.noted k.noted.columns) (a.none f).0 in omega arith) g

    one : more ≡ true → AreNoted graph behind (n + 1) old new (gains || more)
    one m =
        let (main, called, (x, writes, other, sets, none, w)) = i.some m in
        let (known, fewer) = one_noted graph behind n p parted now new at b here.0 a.known main called x writes other sets none w in
        record {
          known = known;
          none = λ e. absurd (both_ways _ e (or_right gains more m));
          some = λ e. less m (unset new.noted new.noted.columns) (cases_Bool gains) fewer;
        }

    none : more ≡ false → AreNoted graph behind (n + 1) old new (gains || more)
    none m =
        let (same, differ) = i.none m in
        record {
          known = subst (AreKnown graph) (sym same) a.known;
          none = λ e.
              let (before, all) = a.none (false_from_ne_true gains (λ t. both_ways _ e (or_left gains more t))) in (
                same ∙ before,
                λ w x q l is writes other s. ⊎_elim
                    (λ k. let is_n : IsPoint graph n q = subst (λ t. IsPoint graph t q) k is in
                    let e = same_point graph n q p is_n at in
                    let sets : SetsUneven old p parted = ⊎_elim (λ h. inl (here.1 (subst (IsSet behind 0) k h))) (λ h. inr (subst (ReadsUneven old) e h)) s in
                    subst (λ (y : Point). MayDiffer old y.function x) (sym e)
                    (subst (λ (k : Locals). MayDiffer k p.function x) before
                    (differ x (sym (ap (λ (y : Point). y.writes) e) ∙ writes) other (subst (λ (k : Locals). SetsUneven k p parted) (sym before) sets))))
                    (λ k. all w x q (omega (arith, l, k)) is writes other s) (cases_eq w n),
              );
          some = λ e. ⊎_elim
              (λ g. let s = a.some g in let same_left = ap (λ (k : Locals). unset k.noted k.noted.columns) same in omega arith)
              (λ t. absurd (both_ways _ m t)) (or_cases gains more e);
        }
