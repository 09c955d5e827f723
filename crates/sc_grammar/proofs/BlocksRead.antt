-- Blocks are read exactly, where an `assign` and a statement inside are.
use Rattle.std.proofs.Common.{◌≡◌, refl, ap, ℕ, suc, ◌≤◌, arith, Bool, true, false, List, ◌∷◌, Some, None}
use Rattle.std.specs.Prelude.{if◌then◌else◌}
use Rattle.sc_tree.specs.declared.token.Token.{Token}
use Rattle.sc_tree.specs.declared.token.TokenKind.{TokenKind}
use Rattle.sc_tree.specs.declared.token.TokenKind.TheVariants.{Number, Name, Format, Word, Mark}
use Rattle.sc_tree.specs.declared.token.Word.{Word as TheWord}
use Rattle.sc_tree.specs.declared.token.Word.TheVariants as words
use Rattle.sc_tree.specs.declared.token.Mark.{Mark as TheMark}
use Rattle.sc_tree.specs.declared.token.Mark.TheVariants as marks
use Rattle.sc_tree.specs.Plain.{Expression}
use Rattle.sc_tree.specs.PlainStmt.{Statement, declare, Arm}
use Rattle.sc_grammar.specs.Rest.{Rest, Takes, takes}
use Rattle.sc_grammar.specs.Expressions.{IsAssign}
use Rattle.sc_grammar.specs.Statements.{stands_before, is_else, IsStatement, block_statement, empty_statement, if_statement, if_else_statement, while_statement, do_statement, for_statement, for_mine_statement, return_statement, break_statement, continue_statement, simple_statement, split_statement, one_way_statement, IsArm, if_arm, IsBlock, braces, IsParts, no_more_parts, locals_part, statement_part}
use Rattle.sc_grammar.proofs.Reading.{Parser, ◌>>=◌, pure, if_taken, is_word, other_than, mark, many}
use Rattle.sc_grammar.proofs.ReadingExpressions.{begins_expression, begins_mark, begins_word}
use Rattle.sc_grammar.proofs.ReadingStatements.{begins_statement, begins_statement_mark, begins_statement_word, locals, one_part, block_after}
use Rattle.sc_grammar.proofs.Local.{Local, Consumes, Advances, local-bind, local-pure, local-must, local-many, local-if_taken, advances-if_next, consumes-first, consumes-if_taken, consumes-must}
use Rattle.sc_grammar.proofs.Fits.{Fits, fits-bind, fits-pure, fits-wider}
use Rattle.sc_grammar.proofs.FitsTokens.{OneMore, fits-if_taken, fits-if_next, fits-mark, fits-many, was-word}
use Rattle.sc_grammar.proofs.Derived.{Stands, Reads, Opened, opened, reads-bind, reads-pure, reads-next, reads-not_next, reads-mark, reads-taken_word, reads-not_taken, reads-none, reads-more}
use Rattle.sc_grammar.proofs.Apart.{apart-mark, apart-word}
use Rattle.sc_grammar.proofs.Laws.{Exact, Without, without, with_token, opened_without, ExpressionEnds, StatementEnds, extends_assign}
use Rattle.sc_grammar.proofs.Openings.{opened-assign}
use Rattle.sc_grammar.proofs.LocalsRead.{IsLocals, locals_after, local-locals, fits-locals, reads-locals}

-- ---- what begins a statement

opened_token : {d : ℕ} {kind : TokenKind} {a b : Rest} → Takes kind d a b → begins_statement kind ≡ true → Opened begins_statement d a
opened_token takes h = opened h (omega arith)

-- what begins an expression begins a statement
begins_word-also : (w : TheWord) → begins_word w ≡ true → begins_statement_word w ≡ true
begins_word-also words.Null h = refl
begins_word-also words.MyProc h = refl
begins_word-also words.Procs h = refl
begins_word-also words.Sizeof h = refl
begins_word-also w h = cc

begins_mark-also : (m : TheMark) → begins_mark m ≡ true → begins_statement_mark m ≡ true
begins_mark-also marks.OpenCurly h = refl
begins_mark-also marks.Semicolon h = refl
begins_mark-also m h = h

begins-also : (k : TokenKind) → begins_expression k ≡ true → begins_statement k ≡ true
begins-also (Word w) h = begins_word-also w h
begins-also (Mark m) h = begins_mark-also m h
begins-also (Number n) h = h
begins-also (Name n) h = h
begins-also (Format n) h = h

opened-also : {d : ℕ} {a : Rest} → Opened begins_expression (suc d) a → Opened begins_statement d a
opened-also (opened h le) = opened (begins-also _ h) (omega arith)

opened-arm : {d : ℕ} {a b : Rest} {x : Arm} → IsArm d a b x → Opened begins_statement d a
opened-arm (if_arm t u h v s n) = opened_token t refl

pub opened-statement : {d : ℕ} {a b : Rest} {s : Statement} → IsStatement d a b s → Opened begins_statement (suc d) a
opened-statement (block_statement (braces t h u)) = opened_token t refl
opened-statement (empty_statement t) = opened_token t refl
opened-statement (if_statement x xs) = opened-arm x
opened-statement (if_else_statement x xs t n s) = opened-arm x
opened-statement (while_statement t u h v s) = opened_token t refl
opened-statement (do_statement t s u v h w x) = opened_token t refl
opened-statement (for_statement t u f v g w h x s) = opened_token t refl
opened-statement (for_mine_statement t u v w h x s) = opened_token t refl
opened-statement (return_statement t h u) = opened_token t refl
opened-statement (break_statement t u) = opened_token t refl
opened-statement (continue_statement t u) = opened_token t refl
opened-statement (simple_statement h t) = opened-also (opened-assign h)
opened-statement (split_statement h t g u) = opened-also (opened-assign h)
opened-statement (one_way_statement h t g u) = opened-also (opened-assign h)

not_else : (k : TokenKind) → begins_statement k ≡ true → is_else k ≡ false
not_else (Word words.Else) h = cc
not_else (Word w) h = refl
not_else (Mark m) h = refl
not_else (Number n) h = refl
not_else (Name n) h = refl
not_else (Format n) h = refl

-- what begins a statement is no closing brace
no_closing : (k : TokenKind) → begins_statement k ≡ true → other_than marks.CloseCurly k ≡ true
no_closing k h = ap (λ (b : Bool). if b then false else true) (apart-mark begins_statement marks.CloseCurly refl k h)

opened_before : (k : TokenKind → Bool) {d : ℕ} {a : Rest} → ((kind : TokenKind) → begins_statement kind ≡ true → k kind ≡ true) → Opened begins_statement d a → stands_before k a ≡ true
opened_before k h (opened e le) = h _ e

-- after a part comes a part or the closing brace
part_ends : {d : ℕ} {a b c : Rest} {ss : List Statement} → IsParts d a b ss → Takes (Mark marks.CloseCurly) d b c → Without is_else a
part_ends no_more_parts t = without _ t refl
part_ends (locals_part u h hs v ss) t = without _ u refl
part_ends (statement_part s ss) t = opened_without begins_statement is_else not_else (opened-statement s)

-- ---- parts of blocks

-- a declaration of locals, or a statement
pub data IsPart (d : ℕ) (a b : Rest) (s : Statement) : Type 0 where
  declaring : {c : Rest} → Takes (Word words.Int) d a c → IsLocals d c b s → IsPart d a b s
  doing : IsStatement d a b s → IsPart d a b s

more_parts : (d : ℕ) (a b c : Rest) (s : Statement) (ss : List Statement) → IsPart d a b s → IsParts d b c ss → IsParts d a c (s ∷ ss)
more_parts d a b c s ss (declaring t (locals_after h hs u)) more = locals_part t h hs u more
more_parts d a b c s ss (doing h) more = statement_part h more

-- what stands after the brace
pub data IsBlockAfter (d : ℕ) (a c : Rest) (ss : List Statement) : Type 0 where
  closing : {b : Rest} → IsParts d a b ss → Takes (Mark marks.CloseCurly) d b c → IsBlockAfter d a c ss

module _ (limit d : ℕ) (le : d ≤ limit) (value : Parser Expression) (hv : Exact limit value (IsAssign d) (ExpressionEnds extends_assign))
    (inner : Parser Statement) (hi : Exact limit inner (IsStatement d) StatementEnds) where
  consumes_part : Consumes (if_taken (is_word words.Int) (locals value >>= λ s. pure (Some s)) (inner >>= λ s. pure (Some s)))
  consumes_part = consumes-if_taken _ (local-bind (local-locals limit d le value hv) (λ s. local-pure _)) (consumes-first hi.consumes (λ s. local-pure _))

  advances-one_part : Advances (one_part value inner)
  unfolding one_part
  advances-one_part =
      advances-if_next _
      (local-if_taken _ (local-bind (local-locals limit d le value hv) (λ s. local-pure _)) (local-bind hi.local (λ s. local-pure _)))
      (λ ts n s m e. consumes_part ts n (Some s) m e)

  fits-one_part : Fits (one_part value inner) (OneMore (IsPart d))
  unfolding one_part
  fits-one_part =
      fits-if_next _
      (fits-if_taken _ d
      (fits-bind (fits-locals limit d le value hv) (λ s. fits-pure _ (λ c b h a w. declaring (was-word _ d a b tt w) h)))
      (fits-bind hi.fits (λ s. fits-pure _ (λ b a h. doing h))))
      (fits-pure None (λ a. refl))

  reads-parts : (ts : List Token) (a b c : Rest) (ss : List Statement) → IsParts d a b ss → Takes (Mark marks.CloseCurly) d b c → Stands ts a → Reads limit ts a b ss (many (one_part value inner))
  unfolding one_part
  reads-parts ts a b c ss no_more_parts u s =
      reads-none limit ts (one_part value inner) advances-one_part s (reads-not_next limit ts _ _ (without _ u refl) s (reads-pure limit ts s))
  reads-parts ts a b c ss (locals_part {b = f} {c = g} {f = i} {g = j} {l = l} {ls = ls} {ss = more} t h hs v parts) u s =
      reads-more limit ts (one_part value inner) advances-one_part
      (reads-next limit ts _ _ (with_token _ t refl) s
      (reads-taken_word limit ts _ _ t le s (λ r. reads-bind limit ts _ (reads-locals limit d le value hv ts f j (declare (l ∷ ls)) (locals_after h hs v) r) (λ z. reads-pure limit ts z))))
      (λ r. reads-parts ts j b c more parts u r)
  reads-parts ts a b c ss (statement_part {b = f} {s = x} {ss = more} h parts) u s =
      let o = opened-statement h in
      reads-more limit ts (one_part value inner) advances-one_part
      (reads-next limit ts _ _ (opened_before _ no_closing o) s
      (reads-not_taken limit ts _ _ (opened_without begins_statement (is_word words.Int) (apart-word begins_statement words.Int refl) o) s
      (reads-bind limit ts _ (hi.reads ts a f x h s (λ _. part_ends parts u)) (λ z. reads-pure limit ts z))))
      (λ r. reads-parts ts f b c more parts u r)

  pub local-block_after : Local (block_after value inner)
  unfolding block_after
  local-block_after = local-bind (local-many advances-one_part) (λ ss. local-bind (local-must _) (λ u. local-pure _))

  pub fits-block_after : Fits (block_after value inner) (IsBlockAfter d)
  unfolding block_after
  fits-block_after =
      fits-bind (fits-many (IsPart d) (IsParts d) (λ a. no_more_parts) (more_parts d) (one_part value inner) fits-one_part) (λ ss.
      fits-bind (fits-mark marks.CloseCurly d) (λ u. fits-pure ss (λ c b t a h. closing h t)))

  pub reads-block_after : (ts : List Token) (a b : Rest) (ss : List Statement) → IsBlockAfter d a b ss → Stands ts a → Reads limit ts a b ss (block_after value inner)
  unfolding block_after
  reads-block_after ts a c ss (closing {b = b} h t) s =
      reads-bind limit ts _ (reads-parts ts a b c ss h t s) (λ r. reads-mark limit ts marks.CloseCurly _ t le r (λ z. reads-pure limit ts z))

  -- a whole block
  pub exact-block : Exact limit (mark marks.OpenCurly >>= λ u. block_after value inner) (IsBlock d) (λ ss b. Unit {0})
  exact-block = record {
    local = local-bind (local-must _) (λ u. local-block_after);
    consumes = consumes-first (consumes-must _) (λ u. local-block_after);
    fits = fits-bind (fits-mark marks.OpenCurly d) (λ u. fits-wider widen fits-block_after);
    reads = reads_block;
  }
    where
      widen : (b c : Rest) (ss : List Statement) → IsBlockAfter d b c ss → (a : Rest) → Takes (Mark marks.OpenCurly) d a b → IsBlock d a c ss
      widen b c ss (closing h t) a o = braces o h t

      reads_block : (ts : List Token) (a b : Rest) (ss : List Statement) → IsBlock d a b ss → Stands ts a → Unit {0} → Reads limit ts a b ss (mark marks.OpenCurly >>= λ u. block_after value inner)
      reads_block ts a f ss (braces {b = b} o h t) s u = reads-mark limit ts marks.OpenCurly _ o le s (λ r. reads-block_after ts b f ss (closing h t) r)
