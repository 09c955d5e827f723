-- The locals in scope behind a statement, and how many it declares: typing numbers them as the core does.
use Rattle.std.proofs.Common.{◌≡◌, refl, sym, ◌∙◌, ap, ℕ, ◌+◌, arith, Bool, List, [], ◌∷◌, ◌++◌, length, take, append_assoc, append-nil, length-append}
use Rattle.std.specs.Prelude.{map}
use Rattle.sc_tree.specs.Plain.{Expression}
use Rattle.sc_tree.specs.PlainStmt.{Declared, Statement, block, empty, declare, simple, split, choose, choose_else, while_, do_while, for_, for_mine, return, break, continue, Statements, no_statements, statements, arm, Arms, no_arms, arms}
use Rattle.sc_tree.specs.PlainTypedStmt.{TypedDeclared}
use Rattle.sc_tree.specs.ViewTypedStmt.{typed_statements_of, typed_arms_of}
use Rattle.sc_typing.specs.declared.scope.InScope.{InScope}
use Rattle.sc_typing.specs.Scope.{Scope, depth, with_declared, left_block}
use Rattle.sc_typing.specs.Source.{Source}
use Rattle.sc_typing.specs.Statements.{Within, after_declared, after_locals, after, after_all, after_arms, typed_locals, typed_split, typed_statement, typed_all, typed_arms}
use Rattle.sc_typing.specs.Typing.{judge}
use Rattle.sc_core.specs.Lowering.{types_in, types_of, types_of_arms}
use Rattle.core_typing.specs.Proper.{IsProper, AreProper, ArmsAreProper, IsNoDeclaration}

-- ---- locals in scope

-- the first scope's locals are the first of the second
pub record Grows (s t : Scope) : Type 0 where
  pub more : List InScope
  pub is : t.locals ≡ s.locals ++ more

grows-not : {s t : Scope} → t.locals ≡ s.locals → Grows s t
grows-not {s = s} e = record { more = []; is = e ∙ sym (append-nil s.locals) }

grows-then : {s t u : Scope} → Grows s t → Grows t u → Grows s u
grows-then {s = s} g h = record {
  more = g.more ++ h.more;
  is = h.is ∙ ap (λ (ls : List InScope). ls ++ h.more) g.is ∙ append_assoc s.locals g.more h.more;
}

grows-declared : (s : Scope) (l : Declared) → Grows s (after_declared s l)
unfolding with_declared
grows-declared s l = record { more = record { name = l.name; number = s.count; ty = l.ty } ∷ []; is = refl }

grows-locals : (s : Scope) (locals : List Declared) → Grows s (after_locals s locals)
grows-locals s [] = grows-not refl
grows-locals s (l ∷ more) = grows-then (grows-declared s l) (grows-locals (after_declared s l) more)

take-front : (xs ys : List InScope) → take (length xs) (xs ++ ys) ≡ xs
take-front [] [] = refl
take-front [] (y ∷ ys) = refl
take-front (x ∷ xs) ys = ap (λ (ls : List InScope). x ∷ ls) (take-front xs ys)

kept-block : (s t : Scope) → Grows s t → (left_block (depth s) t).locals ≡ s.locals
unfolding left_block
kept-block s t g = ap (take (length s.locals)) g.is ∙ take-front s.locals g.more

-- only a declaration leaves locals in scope
abbrev pub Kept : Scope → Statement → Type 0
Kept s (declare locals) = Grows s (after s (declare locals))
Kept s it = (after s it).locals ≡ s.locals

kept-grows : (s : Scope) (it : Statement) → Kept s it → Grows s (after s it)
kept-grows s (declare locals) k = k
kept-grows s it k = grows-not k

pub kept-locals : (s : Scope) (it : Statement) → IsNoDeclaration it → Kept s it → (after s it).locals ≡ s.locals
kept-locals s (declare locals) n k = absurd n
kept-locals s it n k = k

mutual
  pub keeps : (s : Scope) (it : Statement) → IsProper it → Kept s it
  keeps s (block all) p = kept-block s (after_all s all) (all-grow s all p)
  keeps s empty p = refl
  keeps s (declare locals) p = grows-locals s locals
  keeps s (simple e) p = refl
  keeps s (split left right oneway at line) p = refl
  keeps s (choose all) p = arms-keep s all p
  keeps s (choose_else all rest) p =
      kept-locals (after_arms s all) rest p.1 (keeps (after_arms s all) rest p.2) ∙ arms-keep s all p.0
  keeps s (while_ test body) p = kept-locals s body p.1 (keeps s body p.2)
  keeps s (do_while body test) p = kept-locals s body p.1 (keeps s body p.2)
  keeps s (for_ first test next body) p = kept-locals s body p.3 (keeps s body p.4)
  keeps s (for_mine n bound body at line) p = kept-locals s body p.1 (keeps s body p.2)
  keeps s (return e at line) p = refl
  keeps s (break at) p = refl
  keeps s (continue at) p = refl

  pub all-grow : (s : Scope) (all : Statements) → AreProper all → Grows s (after_all s all)
  all-grow s no_statements p = grows-not refl
  all-grow s (statements one more) p =
      grows-then (kept-grows s one (keeps s one p.0)) (all-grow (after s one) more p.1)

  pub arms-keep : (s : Scope) (all : Arms) → ArmsAreProper all → (after_arms s all).locals ≡ s.locals
  arms-keep s no_arms p = refl
  arms-keep s (arms (arm test body) more) p =
      arms-keep (after s body) more p.3 ∙ kept-locals s body p.1 (keeps s body p.2)

-- ---- how many locals a statement declares

locals-count : (c : Source) (s : Scope) (locals : List Declared) →
    (after_locals s locals).count ≡ s.count + length (map (λ (l : TypedDeclared). l.ty) (typed_locals c s locals))
unfolding with_declared
locals-count c s [] = omega arith
locals-count c s (l ∷ more) =
    let e = locals-count c (after_declared s l) more in
    omega (arith, e)

block-count : (n : ℕ) (s : Scope) → (left_block n s).count ≡ s.count
unfolding left_block
block-count n s = refl

split-types : (w : Within) (s : Scope) (left right : Expression) (oneway : Bool) (at line : ℕ) →
    types_in (typed_split (judge w.source s.locals 0 left) (judge w.source s.locals 0 right) oneway at line) ≡ []
unfolding typed_split
split-types w s left right oneway at line = refl

mutual
  pub count-of : (w : Within) (s : Scope) (it : Statement) →
      (after s it).count ≡ s.count + length (types_in (typed_statement w s it))
  count-of w s (block all) = block-count (depth s) (after_all s all) ∙ count-of-all w s all
  count-of w s empty = omega arith
  count-of w s (declare locals) = locals-count w.source s locals
  count-of w s (simple e) = omega arith
  count-of w s (split left right oneway at line) = rw (split-types w s left right oneway at line) (omega arith)
  count-of w s (choose all) = count-of-arms w s all
  count-of w s (choose_else all rest) =
      let e = count-of w (after_arms s all) rest in
      let f = count-of-arms w s all in
      rw (length-append (types_of_arms (typed_arms_of (typed_arms w s all)))
      (types_in (typed_statement w (after_arms s all) rest)))
      (omega (arith, e, f))
  count-of w s (while_ test body) = count-of w s body
  count-of w s (do_while body test) = count-of w s body
  count-of w s (for_ first test next body) = count-of w s body
  count-of w s (for_mine n bound body at line) = count-of w s body
  count-of w s (return e at line) = omega arith
  count-of w s (break at) = omega arith
  count-of w s (continue at) = omega arith

  pub count-of-all : (w : Within) (s : Scope) (all : Statements) →
      (after_all s all).count ≡ s.count + length (types_of (typed_statements_of (typed_all w s all)))
  count-of-all w s no_statements = omega arith
  count-of-all w s (statements one more) =
      let e = count-of w s one in
      let f = count-of-all w (after s one) more in
      rw (length-append (types_in (typed_statement w s one))
      (types_of (typed_statements_of (typed_all w (after s one) more))))
      (omega (arith, e, f))

  pub count-of-arms : (w : Within) (s : Scope) (all : Arms) →
      (after_arms s all).count ≡ s.count + length (types_of_arms (typed_arms_of (typed_arms w s all)))
  count-of-arms w s no_arms = omega arith
  count-of-arms w s (arms (arm test body) more) =
      let e = count-of w s body in
      let f = count-of-arms w (after s body) more in
      rw (length-append (types_in (typed_statement w s body))
      (types_of_arms (typed_arms_of (typed_arms w (after s body) more))))
      (omega (arith, e, f))
