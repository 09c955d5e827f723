-- Operands of the ten levels of operators are read exactly.
use Rattle.std.proofs.Common.{◌≡◌, refl, sym, subst, ℕ, zero, suc, ◌≤◌, ◌<◌, arith, Bool, true, false, List, ◌∷◌, Option, Some, None, nat_lt, if◌then◌else◌}
use Rattle.sc_base.specs.declared.operator.Binary.{Binary}
use Rattle.sc_tree.specs.declared.token.Token.{Token}
use Rattle.sc_tree.specs.declared.token.TokenKind.{TokenKind}
use Rattle.sc_tree.specs.declared.token.TokenKind.TheVariants.{Mark}
use Rattle.sc_tree.specs.declared.token.Mark.{Mark as TheMark}
use Rattle.sc_tree.specs.Plain.{Expression, Link, link}
use Rattle.sc_tree.specs.View.{expressions_of, links_of}
use Rattle.sc_grammar.specs.declared.position.Position.{Position}
use Rattle.sc_grammar.specs.Marks.{operator_of}
use Rattle.sc_grammar.specs.Rest.{Rest, Takes, number_of, line_of}
use Rattle.sc_grammar.specs.Expressions.{chained, listed, IsLevel, tightest, arithmetic, logic, IsLinks, no_more_links, one_more_link, IsOperands, no_more_operands, one_more_operand, IsUnary}
use Rattle.sc_grammar.proofs.Reading.{Parser, got, ◌>>=◌, pure, here, if_given, many}
use Rattle.sc_grammar.proofs.ReadingExpressions.{arithmetic_in, is_logical, one_link, one_operand, with_links, with_operands, joined, level_by}
use Rattle.sc_grammar.proofs.Local.{Local, Consumes, Advances, local-pure, local-here, local-bind, local-many, advances-none, advances-here, advances-if_given, advances-if_taken, consumes-first, consumes-second}
use Rattle.sc_grammar.proofs.Fits.{Fits, After, fits-bind, fits-pure, fits-wider}
use Rattle.sc_grammar.proofs.FitsTokens.{Gave, Was, Matches, At, OneMore, fits-if_given, fits-if_taken, fits-here, fits-many, never_idle}
use Rattle.sc_grammar.proofs.Derived.{Stands, Reads, reads-bind, reads-pure, reads-here, reads-given, reads-not_given, reads-taken, reads-not_taken, reads-none, reads-more}
use Rattle.sc_grammar.proofs.Laws.{Exact, Without, without, extends_level, ExpressionEnds}
use Rattle.sc_grammar.proofs.Extends.{joins-arithmetic, joins-logical, arithmetic-joins, logical-joins, operator-ends, level-lower, no_arithmetic, no_logical}

-- a single operator with the operand after it
pub data IsLink (l d : ℕ) (a b : Rest) : Link → Type 0 where
  linked : {c : Rest} {m : TheMark} {op : Binary} {e : Expression} →
      operator_of m ≡ Some (record { level = l; op = Some op }) → Takes (Mark m) d a c → IsLevel l d c b e → IsLink l d a b (link op e (number_of a) (line_of a))

pub data IsOperand (l d : ℕ) (a b : Rest) (e : Expression) : Type 0 where
  joined_by : {c : Rest} {m : TheMark} → operator_of m ≡ Some (record { level = l; op = None }) → Takes (Mark m) d a c → IsLevel l d c b e → IsOperand l d a b e

link_at : (l d : ℕ) (p : Position) (op : Binary) (e : Expression) (a b c : Rest) → Gave (arithmetic_in l) d a c op → IsLevel l d c b e → Matches p a → IsLink l d a b (link op e p.at p.line)
link_at l d p op e a b c g h m =
    let j = joins-arithmetic l g.kind op g.gives in
    let t : Takes (Mark j.mark) d a c = subst (λ (k : TokenKind). Takes k d a c) j.is g.takes in
    let whole : IsLink l d a b (link op e (number_of a) (line_of a)) = linked j.operator t h in
    subst (λ (i : ℕ). IsLink l d a b (link op e i p.line)) (sym m.at) (subst (λ (i : ℕ). IsLink l d a b (link op e (number_of a) i)) (sym m.line) whole)

operand_of : (l d : ℕ) (e : Expression) (a b c : Rest) → Was (is_logical l) d a c tt → IsLevel l d c b e → IsOperand l d a b e
operand_of l d e a b c w h =
    let j = joins-logical l w.kind w.so in
    joined_by j.operator (subst (λ (k : TokenKind). Takes k d a c) j.is w.takes) h

more_links : (l d : ℕ) (a b c : Rest) (x : Link) (xs : List Link) → IsLink l d a b x → IsLinks l d b c xs → IsLinks l d a c (x ∷ xs)
more_links l d a b c x xs (linked i t h) g = one_more_link i t h g

more_operands : (l d : ℕ) (a b c : Rest) (x : Expression) (xs : List Expression) → IsOperand l d a b x → IsOperands l d b c xs → IsOperands l d a c (x ∷ xs)
more_operands l d a b c x xs (joined_by i t h) g = one_more_operand i t h g

chained_at : (l d : ℕ) (p : Position) (first : Expression) (ls : List Link) (a b c : Rest) → l < 8 → IsLevel l d a b first → IsLinks l d b c ls → Matches p a →
    IsLevel (suc l) d a c (chained p.at p.line first (links_of ls))
chained_at l d p first ls a b c lt h g m =
    subst (λ (i : ℕ). IsLevel (suc l) d a c (chained i p.line first (links_of ls))) (sym m.at)
    (subst (λ (i : ℕ). IsLevel (suc l) d a c (chained (number_of a) i first (links_of ls))) (sym m.line) (arithmetic lt h g))

listed_at : (l d : ℕ) (p : Position) (first : Expression) (es : List Expression) (a b c : Rest) → 8 ≤ l → IsLevel l d a b first → IsOperands l d b c es → Matches p a →
    IsLevel (suc l) d a c (listed l p.at p.line first (expressions_of es))
listed_at l d p first es a b c le h g m =
    subst (λ (i : ℕ). IsLevel (suc l) d a c (listed l i p.line first (expressions_of es))) (sym m.at)
    (subst (λ (i : ℕ). IsLevel (suc l) d a c (listed l (number_of a) i first (expressions_of es))) (sym m.line) (logic le h g))

level_below : (m n : ℕ) → nat_lt m n ≡ true → m < n
level_below m n h = grind arith

level_from : (m n : ℕ) → nat_lt m n ≡ false → n ≤ m
level_from m n h = grind arith

-- an operand of a level is one of the next level
pub next_level : (l d : ℕ) (a b : Rest) (e : Expression) → IsLevel l d a b e → IsLevel (suc l) d a b e
next_level l d a b e h = go (nat_lt l 8) refl
  where
    go : (x : Bool) → nat_lt l 8 ≡ x → IsLevel (suc l) d a b e
    go true i = arithmetic (level_below l 8 i) h no_more_links
    go false i = logic (level_from l 8 i) h no_more_operands

module _ (limit d : ℕ) (le : d ≤ limit) (operand : Parser Expression) (l : ℕ) (h : Exact limit operand (IsLevel l d) (ExpressionEnds (extends_level l))) where
  -- ---- local

  advances_link : Advances (one_link operand l)
  unfolding one_link
  advances_link = advances-here (λ p. advances-if_given _ (λ op. local-bind h.local (λ e. local-pure _)) advances-none)

  advances_operand : Advances (one_operand operand l)
  unfolding one_operand
  advances_operand = advances-if_taken _ (local-bind h.local (λ e. local-pure _)) advances-none

  local_links : (p : Position) (e : Expression) → Local (with_links operand l p e)
  unfolding with_links
  local_links p e = local-bind (local-many advances_link) (λ ls. local-pure _)

  local_operands : (p : Position) (e : Expression) → Local (with_operands operand l p e)
  unfolding with_operands
  local_operands p e = local-bind (local-many advances_operand) (λ es. local-pure _)

  local_joined : (p : Position) (e : Expression) → Local (joined operand l p e)
  local_joined p e = go (nat_lt l 8)
    where
      go : (x : Bool) → Local (if x then with_links operand l p e else with_operands operand l p e)
      go true = local_links p e
      go false = local_operands p e

  -- ---- fits

  fits_link : Fits (one_link operand l) (OneMore (IsLink l d))
  unfolding one_link
  fits_link =
      fits-here (λ n. (fits-pure {R = OneMore (IsLink l d)} None (λ a. refl)).sample n)
      idle
      (λ p. fits-if_given _ d (λ op. fits-bind h.fits (λ e. fits-pure _ (λ b c g a v m. link_at l d p op e a b c v g m))) (fits-pure None (λ a m. refl)))
    where
      idle : (p : Position) (ts : List Token) (n : ℕ) (y : Option Link) →
          if_given (arithmetic_in l) (λ op. operand >>= λ e. pure (Some (link op e p.at p.line))) (pure None) ts n ≡ got y n → (a : Rest) → OneMore (IsLink l d) a a y
      idle p ts n None i a = refl
      idle p ts n (Some x) i a = absurd (let lt = (advances-if_given (arithmetic_in l) (λ op. local-bind h.local (λ e. local-pure (Some (link op e p.at p.line)))) advances-none).moves ts n x n i in omega arith)

  fits_operand : Fits (one_operand operand l) (OneMore (IsOperand l d))
  unfolding one_operand
  fits_operand = fits-if_taken _ d (fits-bind h.fits (λ e. fits-pure _ (λ b c g a v. operand_of l d e a b c v g))) (fits-pure None (λ a. refl))

  fits_links : Fits (many (one_link operand l)) (IsLinks l d)
  fits_links = fits-many (IsLink l d) (IsLinks l d) (λ a. no_more_links) (more_links l d) (one_link operand l) fits_link

  fits_operands : Fits (many (one_operand operand l)) (IsOperands l d)
  fits_operands = fits-many (IsOperand l d) (IsOperands l d) (λ a. no_more_operands) (more_operands l d) (one_operand operand l) fits_operand

  fits_with_links : l < 8 → (p : Position) (e : Expression) → Fits (with_links operand l p e) (After (IsLevel l d) e (At p (IsLevel (suc l) d)))
  unfolding with_links
  fits_with_links lt p e = fits-bind fits_links (λ ls. fits-pure _ (λ c b g a v m. chained_at l d p e ls a b c lt v g m))

  fits_with_operands : 8 ≤ l → (p : Position) (e : Expression) → Fits (with_operands operand l p e) (After (IsLevel l d) e (At p (IsLevel (suc l) d)))
  unfolding with_operands
  fits_with_operands ge p e = fits-bind fits_operands (λ es. fits-pure _ (λ c b g a v m. listed_at l d p e es a b c ge v g m))

  fits_joined : (p : Position) (e : Expression) → Fits (joined operand l p e) (After (IsLevel l d) e (At p (IsLevel (suc l) d)))
  fits_joined p e = go (nat_lt l 8) refl
    where
      go : (x : Bool) → nat_lt l 8 ≡ x → Fits (if x then with_links operand l p e else with_operands operand l p e) (After (IsLevel l d) e (At p (IsLevel (suc l) d)))
      go true i = fits_with_links (level_below l 8 i) p e
      go false i = fits_with_operands (level_from l 8 i) p e

  -- ---- reads

  module _ (ts : List Token) where
    reads_no_link : {a : Rest} → Stands ts a → Without (extends_level (suc l)) a → Reads limit ts a a None (one_link operand l)
    unfolding one_link
    reads_no_link {a = a} s w = reads-here limit ts _ s (reads-not_given limit ts _ _ (no_arithmetic l a w) s (reads-pure limit ts s))

    reads_link : {a b c : Rest} {m : TheMark} {op : Binary} {e : Expression} → operator_of m ≡ Some (record { level = l; op = Some op }) → Takes (Mark m) d a b → IsLevel l d b c e →
        Stands ts a → Without (extends_level l) c → Reads limit ts a c (Some (link op e (number_of a) (line_of a))) (one_link operand l)
    unfolding one_link
    reads_link {b = b} {c = c} {m = m} {op = op} {e = e} i t g s w =
        reads-here limit ts _ s
        (reads-given limit ts (arithmetic_in l) _ _ (arithmetic-joins l m op i) t le s (λ r. reads-bind limit ts _ (h.reads ts b c e g r w) (λ q. reads-pure limit ts q)))

    reads_no_operand : {a : Rest} → Stands ts a → Without (extends_level (suc l)) a → Reads limit ts a a None (one_operand operand l)
    unfolding one_operand
    reads_no_operand {a = a} s w = reads-not_taken limit ts _ _ (no_logical l a w) s (reads-pure limit ts s)

    reads_operand : {a b c : Rest} {m : TheMark} {e : Expression} → operator_of m ≡ Some (record { level = l; op = None }) → Takes (Mark m) d a b → IsLevel l d b c e →
        Stands ts a → Without (extends_level l) c → Reads limit ts a c (Some e) (one_operand operand l)
    unfolding one_operand
    reads_operand {b = b} {c = c} {m = m} {e = e} i t g s w =
        reads-taken limit ts (is_logical l) _ (logical-joins l m i) t le s (λ r. reads-bind limit ts _ (h.reads ts b c e g r w) (λ q. reads-pure limit ts q))

    -- where links begin, no token goes on with the operand before
    links_then : (a b : Rest) (ls : List Link) → IsLinks l d a b ls → Without (extends_level (suc l)) b → Without (extends_level l) a
    links_then a b ls no_more_links w = level-lower l a w
    links_then a b ls (one_more_link i t g more) w = without (extends_level l) t (operator-ends l _ _ i)

    operands_then : (a b : Rest) (es : List Expression) → IsOperands l d a b es → Without (extends_level (suc l)) b → Without (extends_level l) a
    operands_then a b es no_more_operands w = level-lower l a w
    operands_then a b es (one_more_operand i t g more) w = without (extends_level l) t (operator-ends l _ _ i)

    reads_links : (a b : Rest) (ls : List Link) → IsLinks l d a b ls → Stands ts a → Without (extends_level (suc l)) b → Reads limit ts a b ls (many (one_link operand l))
    reads_links a b ls no_more_links s w = reads-none limit ts _ advances_link s (reads_no_link s w)
    reads_links a b ls (one_more_link {c = c} {ls = more} i t g gs) s w =
        reads-more limit ts _ advances_link (reads_link i t g s (links_then c b more gs w)) (λ r. reads_links c b more gs r w)

    reads_operands : (a b : Rest) (es : List Expression) → IsOperands l d a b es → Stands ts a → Without (extends_level (suc l)) b → Reads limit ts a b es (many (one_operand operand l))
    reads_operands a b es no_more_operands s w = reads-none limit ts _ advances_operand s (reads_no_operand s w)
    reads_operands a b es (one_more_operand {c = c} {es = more} i t g gs) s w =
        reads-more limit ts _ advances_operand (reads_operand i t g s (operands_then c b more gs w)) (λ r. reads_operands c b more gs r w)

    -- ---- the next level

    reads_with_links : (p : Position) (first : Expression) (a b : Rest) (ls : List Link) → IsLinks l d a b ls → Stands ts a → Without (extends_level (suc l)) b →
        Reads limit ts a b (chained p.at p.line first (links_of ls)) (with_links operand l p first)
    unfolding with_links
    reads_with_links p first a b ls g s w = reads-bind limit ts _ (reads_links a b ls g s w) (λ r. reads-pure limit ts r)

    reads_with_operands : (p : Position) (first : Expression) (a b : Rest) (es : List Expression) → IsOperands l d a b es → Stands ts a → Without (extends_level (suc l)) b →
        Reads limit ts a b (listed l p.at p.line first (expressions_of es)) (with_operands operand l p first)
    unfolding with_operands
    reads_with_operands p first a b es g s w = reads-bind limit ts _ (reads_operands a b es g s w) (λ r. reads-pure limit ts r)

    reads_arithmetic : (p : Position) (first : Expression) (a b : Rest) (ls : List Link) → l < 8 → IsLinks l d a b ls → Stands ts a → Without (extends_level (suc l)) b →
        Reads limit ts a b (chained p.at p.line first (links_of ls)) (joined operand l p first)
    reads_arithmetic p first a b ls lt g s w = go (nat_lt l 8) refl
      where
        go : (x : Bool) → nat_lt l 8 ≡ x → Reads limit ts a b (chained p.at p.line first (links_of ls)) (if x then with_links operand l p first else with_operands operand l p first)
        go true i = reads_with_links p first a b ls g s w
        go false i = absurd (let ge = level_from l 8 i in omega arith)

    reads_logic : (p : Position) (first : Expression) (a b : Rest) (es : List Expression) → 8 ≤ l → IsOperands l d a b es → Stands ts a → Without (extends_level (suc l)) b →
        Reads limit ts a b (listed l p.at p.line first (expressions_of es)) (joined operand l p first)
    reads_logic p first a b es ge g s w = go (nat_lt l 8) refl
      where
        go : (x : Bool) → nat_lt l 8 ≡ x → Reads limit ts a b (listed l p.at p.line first (expressions_of es)) (if x then with_links operand l p first else with_operands operand l p first)
        go true i = absurd (let lt = level_below l 8 i in omega arith)
        go false i = reads_with_operands p first a b es g s w

    reads_next : (a b : Rest) (e : Expression) → IsLevel (suc l) d a b e → Stands ts a → Without (extends_level (suc l)) b →
        Reads limit ts a b e (here >>= λ start. operand >>= λ first. joined operand l start first)
    reads_next a b e (arithmetic {b = c} {first = first} {ls = ls} lt g gs) s w =
        reads-here limit ts _ s
        (reads-bind limit ts _ (h.reads ts a c first g s (links_then c b ls gs w)) (λ r. reads_arithmetic _ first c b ls lt gs r w))
    reads_next a b e (logic {b = c} {first = first} {es = es} ge g gs) s w =
        reads-here limit ts _ s
        (reads-bind limit ts _ (h.reads ts a c first g s (operands_then c b es gs w)) (λ r. reads_logic _ first c b es ge gs r w))

  exact_next : Exact limit (here >>= λ start. operand >>= λ first. joined operand l start first) (IsLevel (suc l) d) (ExpressionEnds (extends_level (suc l)))
  exact_next = record {
    local = local-bind local-here (λ p. local-bind h.local (λ e. local_joined p e));
    consumes = consumes-second local-here (λ p. consumes_at p);
    fits = fits-here (fits-wider (next_level l d) h.fits).sample (never_idle (IsLevel (suc l) d) consumes_at) (λ p. fits-bind h.fits (λ e. fits_joined p e));
    reads = λ ts a b e g s w. reads_next ts a b e g s w;
  }
    where
      consumes_at : (p : Position) → Consumes (operand >>= λ first. joined operand l p first)
      consumes_at p = consumes-first h.consumes (λ e. local_joined p e)

exact_tightest : (limit d : ℕ) (operand : Parser Expression) → Exact limit operand (IsUnary d) (ExpressionEnds (extends_level 0)) → Exact limit operand (IsLevel 0 d) (ExpressionEnds (extends_level 0))
exact_tightest limit d operand h = record {
  local = h.local;
  consumes = h.consumes;
  fits = fits-wider (λ a b e g. tightest g) h.fits;
  reads = reads;
}
  where
    reads : (ts : List Token) (a b : Rest) (e : Expression) → IsLevel 0 d a b e → Stands ts a → Without (extends_level 0) b → Reads limit ts a b e operand
    reads ts a b e (tightest g) s w = h.reads ts a b e g s w

-- each level, over how an operand of the tightest one is read
pub exact-level : (limit d : ℕ) → d ≤ limit → (operand : Parser Expression) → Exact limit operand (IsUnary d) (ExpressionEnds (extends_level 0)) →
    (l : ℕ) → Exact limit (level_by operand l) (IsLevel l d) (ExpressionEnds (extends_level l))
unfolding level_by
exact-level limit d le operand h zero = exact_tightest limit d operand h
exact-level limit d le operand h (suc l) = exact_next limit d le (level_by operand l) l (exact-level limit d le operand h l)
