-- Statements of an expression, and those that leave, are read exactly, where an `assign` is.
use Rattle.std.proofs.Common.{◌≡◌, refl, ℕ, suc, ◌≤◌, Bool, true, false, List, [], ◌∷◌, Option}
use Rattle.sc_tree.specs.declared.token.Token.{Token}
use Rattle.sc_tree.specs.declared.token.TokenKind.TheVariants.{Word, Mark}
use Rattle.sc_tree.specs.declared.token.Word.{Word as TheWord}
use Rattle.sc_tree.specs.declared.token.Word.TheVariants as words
use Rattle.sc_tree.specs.declared.token.Mark.{Mark as TheMark}
use Rattle.sc_tree.specs.declared.token.Mark.TheVariants as marks
use Rattle.sc_tree.specs.Plain.{Expression}
use Rattle.sc_tree.specs.PlainStmt.{Statement, simple, split, return, break, continue}
use Rattle.sc_grammar.specs.declared.position.Position.{Position}
use Rattle.sc_grammar.specs.Rest.{Rest, Takes, takes, number_of, line_of}
use Rattle.sc_grammar.specs.Expressions.{IsAssign}
use Rattle.sc_grammar.specs.Statements.{IsOptional, IsStatement, return_statement, break_statement, continue_statement, simple_statement, split_statement, one_way_statement}
use Rattle.sc_grammar.proofs.Reading.{Parser, pure, fail, if_taken, is_mark, is_word}
use Rattle.sc_grammar.proofs.ReadingExpressions.{begins_expression}
use Rattle.sc_grammar.proofs.ReadingStatements.{split_after, by_expression, return_after, by_other_word}
use Rattle.sc_grammar.proofs.Local.{Local, Consumes, local-bind, local-here, local-pure, local-fail, local-must, local-if_taken, consumes-first, consumes-if_taken, consumes-fail}
use Rattle.sc_grammar.proofs.Fits.{Rule, Fits, Sample, After, fits-bind, fits-pure, fits-fail, fits-wider}
use Rattle.sc_grammar.proofs.FitsTokens.{Was, At, fits-here, never_idle, fits-if_taken, fits-mark, was-mark, was-word}
use Rattle.sc_grammar.proofs.Derived.{Stands, Reads, Opened, place_at, reads-bind, reads-here, reads-pure, reads-mark, reads-taken_mark, reads-taken_word, reads-not_taken}
use Rattle.sc_grammar.proofs.Apart.{apart-mark, apart-word}
use Rattle.sc_grammar.proofs.Laws.{Exact, Without, without, opened_without, ExpressionEnds, Greedy, extends_assign}
use Rattle.sc_grammar.proofs.LocalsRead.{at-place, local-optional_before, fits-optional_before, reads-optional_before}
use Rattle.sc_grammar.proofs.Greedy.{greedy-bind, greedy-if_taken, greedy-closed, greedy-fail}

-- what begins an expression is no such word, and no such mark
pub without_word : (w : TheWord) → begins_expression (Word w) ≡ false → {d : ℕ} {a : Rest} → Opened begins_expression d a → Without (is_word w) a
without_word w h o = opened_without begins_expression (is_word w) (apart-word begins_expression w h) o

pub without_first : (m : TheMark) → begins_expression (Mark m) ≡ false → {d : ℕ} {a : Rest} → Opened begins_expression d a → Without (is_mark m) a
without_first m h o = opened_without begins_expression (is_mark m) (apart-mark begins_expression m h) o

module _ (limit d : ℕ) (le : suc d ≤ limit) (value : Parser Expression) (hv : Exact limit value (IsAssign (suc d)) (ExpressionEnds extends_assign)) where
  -- ---- statements of an expression

  local-split_after : (oneway : Bool) (p : Position) (e : Expression) → Local (split_after value oneway p e)
  unfolding split_after
  local-split_after oneway p e = local-bind hv.local (λ r. local-bind (local-must _) (λ u. local-pure _))

  -- what stands after an expression
  abbrev after_left : Position → Expression → Parser Statement
  after_left p e =
      if_taken (is_mark marks.Semicolon) (pure (simple e)) (
      if_taken (is_mark marks.ColonEqual) (split_after value false p e) (
      if_taken (is_mark marks.ColonMinus) (split_after value true p e) fail))

  local_after_left : (p : Position) (e : Expression) → Local (after_left p e)
  local_after_left p e = local-if_taken _ (local-pure _) (local-if_taken _ (local-split_after false p e) (local-if_taken _ (local-split_after true p e) local-fail))

  consumes_after_left : (p : Position) (e : Expression) → Consumes (after_left p e)
  consumes_after_left p e =
      consumes-if_taken _ (local-pure _) (consumes-if_taken _ (local-split_after false p e) (consumes-if_taken _ (local-split_after true p e) consumes-fail))

  pub local-by_expression : Local (by_expression value)
  unfolding by_expression
  local-by_expression = local-bind hv.local (λ e. local-bind local-here (λ p. local_after_left p e))

  pub consumes-by_expression : Consumes (by_expression value)
  unfolding by_expression
  consumes-by_expression = consumes-first hv.consumes (λ e. local-bind local-here (λ p. local_after_left p e))

  greedy_after_left : (p : Position) (e : Expression) → Greedy (after_left p e)
  unfolding split_after
  greedy_after_left p e =
      greedy-if_taken _ (greedy-closed (simple e) refl) (
      greedy-if_taken _ (greedy-bind _ (λ r. greedy-bind _ (λ u. greedy-closed (split e r false p.at p.line) refl))) (
      greedy-if_taken _ (greedy-bind _ (λ r. greedy-bind _ (λ u. greedy-closed (split e r true p.at p.line) refl))) greedy-fail))

  pub greedy-by_expression : Greedy (by_expression value)
  unfolding by_expression
  greedy-by_expression = greedy-bind _ (λ e. greedy-bind _ (λ p. greedy_after_left p e))

  -- what is left after the left side
  abbrev Left : Expression → Rule Statement
  Left e = After (IsAssign (suc d)) e (IsStatement d)

  then_semicolon : (e : Expression) (n : ℕ) → Sample (Left e) n
  then_semicolon e n = record {
    more = record { token = record { kind = Mark marks.Semicolon; at = 0; line = 0 }; depth = suc d } ∷ [];
    value = simple e;
    quiet = refl;
    holds = λ tail w a h. simple_statement h takes;
  }

  fits_split : (oneway : Bool) (p : Position) (e : Expression) {R : Rule Statement} →
      ((b c f g : Rest) (right : Expression) → IsAssign (suc d) c f right → Takes (Mark marks.Semicolon) (suc d) f g → R c g (split e right oneway p.at p.line)) →
      Fits (split_after value oneway p e) R
  unfolding split_after
  fits_split oneway p e h = fits-bind hv.fits (λ r. fits-bind (fits-mark marks.Semicolon (suc d)) (λ u. fits-pure _ (λ g f t c i. h c c f g r i t)))

  fits_after_left : (p : Position) (e : Expression) → Fits (after_left p e) (At p (Left e))
  fits_after_left p e =
      fits-if_taken _ (suc d) (fits-pure (simple e) (λ b a w m i h. simple_statement h (was-mark _ (suc d) a b tt w))) (
      fits-if_taken _ (suc d) (fits_split false p e (λ x c f g r hr t b w m a h.
      at-place (λ at line. IsStatement d a g (split e r false at line)) p b m (split_statement h (was-mark _ (suc d) b c tt w) hr t))) (
      fits-if_taken _ (suc d) (fits_split true p e (λ x c f g r hr t b w m a h.
      at-place (λ at line. IsStatement d a g (split e r true at line)) p b m (one_way_statement h (was-mark _ (suc d) b c tt w) hr t))) (
      fits-wider (λ a b x h m. h) (fits-fail (then_semicolon e)))))

  pub fits-by_expression : Fits (by_expression value) (IsStatement d)
  unfolding by_expression
  fits-by_expression =
      fits-bind hv.fits (λ e. fits-here (then_semicolon e) (never_idle (Left e) (λ p. consumes_after_left p e)) (λ p. fits_after_left p e))

  reads_split : (ts : List Token) (oneway : Bool) (p : Position) (left right : Expression) (a b c : Rest) → IsAssign (suc d) a b right → Takes (Mark marks.Semicolon) (suc d) b c → Stands ts a →
      Reads limit ts a c (split left right oneway p.at p.line) (split_after value oneway p left)
  unfolding split_after
  reads_split ts oneway p left right a b c h t s =
      reads-bind limit ts _ (hv.reads ts a b right h s (without _ t refl)) (λ r. reads-mark limit ts marks.Semicolon _ t le r (λ q. reads-pure limit ts q))

  pub reads-simple : (ts : List Token) (a b c : Rest) (e : Expression) → IsAssign (suc d) a b e → Takes (Mark marks.Semicolon) (suc d) b c → Stands ts a →
      Reads limit ts a c (simple e) (by_expression value)
  unfolding by_expression
  reads-simple ts a b c e h t s =
      reads-bind limit ts _ (hv.reads ts a b e h s (without _ t refl)) (λ r.
      reads-here limit ts _ r (reads-taken_mark limit ts marks.Semicolon _ t le r (λ q. reads-pure limit ts q)))

  pub reads-split : (ts : List Token) (a b c f g : Rest) (left right : Expression) → IsAssign (suc d) a b left → Takes (Mark marks.ColonEqual) (suc d) b c → IsAssign (suc d) c f right →
      Takes (Mark marks.Semicolon) (suc d) f g → Stands ts a → Reads limit ts a g (split left right false (number_of b) (line_of b)) (by_expression value)
  unfolding by_expression
  reads-split ts a b c f g left right h t i u s =
      reads-bind limit ts _ (hv.reads ts a b left h s (without _ t refl)) (λ r.
      reads-here limit ts _ r (reads-not_taken limit ts _ _ (without _ t refl) r (
      reads-taken_mark limit ts marks.ColonEqual _ t le r (λ q. reads_split ts false (place_at b) left right c f g i u q))))

  pub reads-one_way : (ts : List Token) (a b c f g : Rest) (left right : Expression) → IsAssign (suc d) a b left → Takes (Mark marks.ColonMinus) (suc d) b c → IsAssign (suc d) c f right →
      Takes (Mark marks.Semicolon) (suc d) f g → Stands ts a → Reads limit ts a g (split left right true (number_of b) (line_of b)) (by_expression value)
  unfolding by_expression
  reads-one_way ts a b c f g left right h t i u s =
      reads-bind limit ts _ (hv.reads ts a b left h s (without _ t refl)) (λ r.
      reads-here limit ts _ r (reads-not_taken limit ts _ _ (without _ t refl) r (reads-not_taken limit ts _ _ (without _ t refl) r (
      reads-taken_mark limit ts marks.ColonMinus _ t le r (λ q. reads_split ts true (place_at b) left right c f g i u q)))))

  -- ---- statements that leave

  local-return_after : (p : Position) → Local (return_after value p)
  unfolding return_after
  local-return_after p = local-bind (local-optional_before limit (suc d) le value hv marks.Semicolon) (λ e. local-bind (local-must _) (λ u. local-pure _))

  fits_return : (p : Position) → Fits (return_after value p) (After (Was (is_word words.Return) (suc d)) tt (At p (IsStatement d)))
  unfolding return_after
  fits_return p =
      fits-bind (fits-optional_before limit (suc d) le value hv marks.Semicolon) (λ e. fits-bind (fits-mark marks.Semicolon (suc d)) (λ u. fits-pure _ (λ f c t b h a w m.
      at-place (λ at line. IsStatement d a f (return e at line)) p a m (return_statement (was-word _ (suc d) a b tt w) h t))))

  module _ (inner : Parser Statement) where
    pub local-by_other_word : (p : Position) → Local (by_other_word value inner p)
    unfolding by_other_word
    local-by_other_word p =
        local-if_taken _ (local-return_after p) (
        local-if_taken _ (local-bind (local-must _) (λ u. local-pure _)) (
        local-if_taken _ (local-bind (local-must _) (λ u. local-pure _)) local-by_expression))

    pub consumes-by_other_word : (p : Position) → Consumes (by_other_word value inner p)
    unfolding by_other_word
    consumes-by_other_word p =
        consumes-if_taken _ (local-return_after p) (
        consumes-if_taken _ (local-bind (local-must _) (λ u. local-pure _)) (
        consumes-if_taken _ (local-bind (local-must _) (λ u. local-pure _)) consumes-by_expression))

    pub greedy-by_other_word : (p : Position) → Greedy (by_other_word value inner p)
    unfolding by_other_word return_after
    greedy-by_other_word p =
        greedy-if_taken _ (greedy-bind _ (λ e. greedy-bind _ (λ u. greedy-closed (return e p.at p.line) refl))) (
        greedy-if_taken _ (greedy-bind _ (λ u. greedy-closed (break p.at) refl)) (
        greedy-if_taken _ (greedy-bind _ (λ u. greedy-closed (continue p.at) refl)) greedy-by_expression))

    pub fits-by_other_word : (p : Position) → Fits (by_other_word value inner p) (At p (IsStatement d))
    unfolding by_other_word
    fits-by_other_word p =
        fits-if_taken _ (suc d) (fits_return p) (
        fits-if_taken _ (suc d) (fits-bind (fits-mark marks.Semicolon (suc d)) (λ u. fits-pure _ (λ c b t a w m.
        at-place (λ at line. IsStatement d a c (break at)) p a m (break_statement (was-word _ (suc d) a b tt w) t)))) (
        fits-if_taken _ (suc d) (fits-bind (fits-mark marks.Semicolon (suc d)) (λ u. fits-pure _ (λ c b t a w m.
        at-place (λ at line. IsStatement d a c (continue at)) p a m (continue_statement (was-word _ (suc d) a b tt w) t)))) (
        fits-wider (λ a b x h m. h) fits-by_expression)))

    pub reads-return : (ts : List Token) (a b c f : Rest) (o : Option Expression) → Takes (Word words.Return) (suc d) a b → IsOptional (suc d) b c o → Takes (Mark marks.Semicolon) (suc d) c f → Stands ts a →
        Reads limit ts a f (return o (number_of a) (line_of a)) (by_other_word value inner (place_at a))
    unfolding by_other_word return_after
    reads-return ts a b c f o t h u s =
        reads-taken_word limit ts words.Return _ t le s (λ r.
        reads-bind limit ts _ (reads-optional_before limit (suc d) le value hv marks.Semicolon refl refl ts b c f o h u r) (λ q.
        reads-mark limit ts marks.Semicolon _ u le q (λ z. reads-pure limit ts z)))

    pub reads-break : (ts : List Token) (a b c : Rest) → Takes (Word words.Break) (suc d) a b → Takes (Mark marks.Semicolon) (suc d) b c → Stands ts a →
        Reads limit ts a c (break (number_of a)) (by_other_word value inner (place_at a))
    unfolding by_other_word
    reads-break ts a b c t u s =
        reads-not_taken limit ts _ _ (without _ t refl) s (reads-taken_word limit ts words.Break _ t le s (λ r. reads-mark limit ts marks.Semicolon _ u le r (λ z. reads-pure limit ts z)))

    pub reads-continue : (ts : List Token) (a b c : Rest) → Takes (Word words.Continue) (suc d) a b → Takes (Mark marks.Semicolon) (suc d) b c → Stands ts a →
        Reads limit ts a c (continue (number_of a)) (by_other_word value inner (place_at a))
    unfolding by_other_word
    reads-continue ts a b c t u s =
        reads-not_taken limit ts _ _ (without _ t refl) s (reads-not_taken limit ts _ _ (without _ t refl) s (
        reads-taken_word limit ts words.Continue _ t le s (λ r. reads-mark limit ts marks.Semicolon _ u le r (λ z. reads-pure limit ts z))))

    -- what begins an expression is read as one
    pub reads-others : (ts : List Token) (a c : Rest) (x : Statement) {e : ℕ} → Opened begins_expression e a → Stands ts a →
        Reads limit ts a c x (by_expression value) → Reads limit ts a c x (by_other_word value inner (place_at a))
    unfolding by_other_word
    reads-others ts a c x o s h =
        reads-not_taken limit ts _ _ (without_word words.Return refl o) s (
        reads-not_taken limit ts _ _ (without_word words.Break refl o) s (
        reads-not_taken limit ts _ _ (without_word words.Continue refl o) s h))
