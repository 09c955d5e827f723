-- Statements are read exactly, where an `assign` and a statement of the next depth are.
use Rattle.std.proofs.Common.{◌≡◌, refl, ap, ◌∙◌, subst, ℕ, suc, ◌≤◌, Bool, true, false, List, ◌∷◌, Option, Some, None}
use Rattle.std.specs.Prelude.{slice_get}
use Rattle.sc_tree.specs.declared.token.Token.{Token}
use Rattle.sc_tree.specs.declared.token.TokenKind.TheVariants.{Mark}
use Rattle.sc_tree.specs.declared.token.Word.TheVariants as words
use Rattle.sc_tree.specs.declared.token.Mark.TheVariants as marks
use Rattle.sc_tree.specs.Plain.{Expression}
use Rattle.sc_tree.specs.PlainStmt.{Statement, block, empty, Arm}
use Rattle.sc_tree.specs.ViewStmt.{statements_of}
use Rattle.sc_grammar.specs.declared.position.Position.{Position}
use Rattle.sc_grammar.specs.Rest.{Rest, Takes}
use Rattle.sc_grammar.specs.Expressions.{IsAssign}
use Rattle.sc_grammar.specs.Statements.{is_else, is_open, IsStatement, block_statement, empty_statement, if_statement, if_else_statement, while_statement, do_statement, for_statement, for_mine_statement, return_statement, break_statement, continue_statement, simple_statement, split_statement, one_way_statement, IsArm, if_arm, braces}
use Rattle.sc_grammar.proofs.Reading.{Out, got, refused, Parser, and_then, bind, ◌>>=◌, pure, sees, if_taken, is_mark, is_word}
use Rattle.sc_grammar.proofs.ReadingExpressions.{begins_expression}
use Rattle.sc_grammar.proofs.ReadingStatements.{Elses, if_with, if_of, block_after, elses, if_after, by_loop_word, by_expression, statement_by}
use Rattle.sc_grammar.proofs.Local.{Local, Consumes, local-bind, local-here, local-pure, local-if_taken, consumes-second, consumes-if_taken}
use Rattle.sc_grammar.proofs.Fits.{Fits, fits-bind, fits-pure}
use Rattle.sc_grammar.proofs.FitsTokens.{sample-token, fits-here, never_idle, fits-if_taken, was-mark, was-word}
use Rattle.sc_grammar.proofs.Derived.{Stands, Reads, Opened, place_at, reads-bind, reads-here, reads-pure, reads-taken_mark, reads-taken_word, reads-not_taken}
use Rattle.sc_grammar.proofs.Laws.{Exact, Without, without, ExpressionEnds, StatementEnds, Greedy, extends_assign}
use Rattle.sc_grammar.proofs.Openings.{opened-assign}
use Rattle.sc_grammar.proofs.LocalsRead.{in_parentheses}
use Rattle.sc_grammar.proofs.BlocksRead.{IsBlockAfter, closing, local-block_after, fits-block_after, reads-block_after}
use Rattle.sc_grammar.proofs.ElsesRead.{IsArmAfter, guarded, arm-of, IsElses, IsArmsThenLast, arms_alone, arms_then_last, parted, arms_only, arms_and_last, ElsesEnd, Closed, ClosedOut, local-arm_after, fits-arm_after, reads-arm_after, local-elses, fits-elses, reads-elses, closed-elses}
use Rattle.sc_grammar.proofs.Greedy.{greedy-bind, greedy-if_taken, greedy-closed}
use Rattle.sc_grammar.proofs.SimpleRead.{without_word, without_first, reads-simple, reads-split, reads-one_way, reads-return, reads-break, reads-continue, reads-others}
use Rattle.sc_grammar.proofs.LoopsRead.{AfterWord, local-by_loop_word, consumes-by_loop_word, greedy-by_loop_word, fits-by_loop_word, reads-while, reads-do, reads-for, reads-for_mine, reads-no_loop}

-- ---- the tree of an `if`

if-of : (d : ℕ) (a b c : Rest) (x : Arm) (r : Elses) → IsArm (suc d) a b x → IsElses (suc d) b c r → IsStatement d a c (if_of x r)
if-of d a b c x r h hs = go r h (parted (suc d) b c r hs)
  where
    go : (r : Elses) → IsArm (suc d) a b x → IsArmsThenLast (suc d) b c r → IsStatement d a c (if_of x r)
    go r h (arms_alone xs) = if_statement h xs
    go r h (arms_then_last xs t n s) = if_else_statement h xs t n s

closed_if : (xs : List Arm) (o : Option Statement) (b : Bool) → Closed o b → is_open (if_with xs o) ≡ true → b ≡ false
closed_if xs None b h e = h
closed_if xs (Some s) b h e = h e

greedy_of : (x : Arm) (ts : List Token) (o : Out Elses) → ClosedOut ts o → (s : Statement) (m : ℕ) → and_then o (λ r j. got (if_of x r) j) ≡ got s m → is_open s ≡ true → sees is_else (slice_get ts m) ≡ false
greedy_of x ts (got r j) h s m e o =
    let i : if_of x r ≡ s = cc in
    let k : j ≡ m = cc in
    subst (λ (l : ℕ). sees is_else (slice_get ts l) ≡ false) k (closed_if (x ∷ r.arms) r.last (sees is_else (slice_get ts j)) h (ap is_open i ∙ o))
greedy_of x ts (refused z) h s m e o = cc

module _ (limit d : ℕ) (le : suc d ≤ limit) (value : Parser Expression) (hv : Exact limit value (IsAssign (suc d)) (ExpressionEnds extends_assign))
    (inner : Parser Statement) (hi : Exact limit inner (IsStatement (suc d)) StatementEnds) (gi : Greedy inner) where
  -- ---- if

  local-if_after : Local (if_after value inner)
  unfolding if_after
  local-if_after = local-bind (local-arm_after limit (suc d) le value hv inner hi gi) (λ x. local-bind (local-elses limit (suc d) le value hv inner hi gi) (λ r. local-pure _))

  greedy_elses : (x : Arm) → Greedy (elses value inner >>= λ r. pure (if_of x r))
  unfolding bind pure
  greedy_elses x ts n s m e o = greedy_of x ts (elses value inner ts n) (closed-elses limit (suc d) le value hv inner hi gi ts n) s m e o

  greedy-if_after : Greedy (if_after value inner)
  unfolding if_after
  greedy-if_after = greedy-bind _ greedy_elses

  fits-if_after : (p : Position) → Fits (if_after value inner) (AfterWord d words.If p)
  unfolding if_after
  fits-if_after p =
      fits-bind (fits-arm_after limit (suc d) le value hv inner hi gi) (λ x. fits-bind (fits-elses limit (suc d) le value hv inner hi gi) (λ r. fits-pure _ (λ c b hs i h a w m.
      if-of d a b c x r (arm-of (suc d) a i b x (was-word words.If (suc d) a i tt w) h) hs)))

  reads-if_after : (ts : List Token) (a b c : Rest) (x : Arm) (r : Elses) → IsArmAfter (suc d) a b x → IsElses (suc d) b c r → ElsesEnd r c → Stands ts a →
      Reads limit ts a c (if_of x r) (if_after value inner)
  unfolding if_after
  reads-if_after ts a b c x r h hs ends s =
      reads-bind limit ts _ (reads-arm_after limit (suc d) le value hv inner hi gi ts a b x h s) (λ q.
      reads-bind limit ts _ (reads-elses limit (suc d) le value hv inner hi gi ts b c r hs q ends) (λ z. reads-pure limit ts z))

  -- ---- each by its first token

  block_of : (a b c : Rest) (ss : List Statement) → Takes (Mark marks.OpenCurly) (suc d) a b → IsBlockAfter (suc d) b c ss → IsStatement d a c (block (statements_of ss))
  block_of a b c ss t (closing h u) = block_statement (braces t h u)

  abbrev by_first : Position → Parser Statement
  by_first p =
      if_taken (is_mark marks.OpenCurly) (block_after value inner >>= λ ss. pure (block (statements_of ss))) (
      if_taken (is_mark marks.Semicolon) (pure empty) (
      if_taken (is_word words.If) (if_after value inner) (by_loop_word value inner p)))

  local_block : Local (block_after value inner >>= λ ss. pure (block (statements_of ss)))
  local_block = local-bind (local-block_after limit (suc d) le value hv inner hi) (λ ss. local-pure _)

  local-statement_by : Local (statement_by value inner)
  unfolding statement_by
  local-statement_by =
      local-bind local-here (λ p. local-if_taken _ local_block (local-if_taken _ (local-pure _) (local-if_taken _ local-if_after (local-by_loop_word limit d le value hv inner hi gi p))))

  consumes_by_first : (p : Position) → Consumes (by_first p)
  consumes_by_first p =
      consumes-if_taken _ local_block (consumes-if_taken _ (local-pure _) (consumes-if_taken _ local-if_after (consumes-by_loop_word limit d le value hv inner hi gi p)))

  pub greedy-statement_by : Greedy (statement_by value inner)
  unfolding statement_by
  greedy-statement_by =
      greedy-bind _ (λ p.
      greedy-if_taken _ (greedy-bind _ (λ ss. greedy-closed (block (statements_of ss)) refl)) (
      greedy-if_taken _ (greedy-closed empty refl) (
      greedy-if_taken _ greedy-if_after (greedy-by_loop_word limit d le value hv inner hi gi p))))

  fits-statement_by : Fits (statement_by value inner) (IsStatement d)
  unfolding statement_by
  fits-statement_by =
      fits-here (sample-token {R = IsStatement d} (suc d) (Mark marks.Semicolon) empty refl (λ a b t. empty_statement t)) (never_idle (IsStatement d) consumes_by_first) (λ p.
      fits-if_taken _ (suc d)
      (fits-bind (fits-block_after limit (suc d) le value hv inner hi) (λ ss. fits-pure _ (λ c b h a w m. block_of a b c ss (was-mark marks.OpenCurly (suc d) a b tt w) h))) (
      fits-if_taken _ (suc d) (fits-pure empty (λ b a w m. empty_statement (was-mark marks.Semicolon (suc d) a b tt w))) (
      fits-if_taken _ (suc d) (fits-if_after p) (fits-by_loop_word limit d le value hv inner hi gi p))))

  -- what is no block, no `;` and no `if`
  reads_on : (ts : List Token) (a c : Rest) (x : Statement) → Without (is_mark marks.OpenCurly) a → Without (is_mark marks.Semicolon) a → Without (is_word words.If) a → Stands ts a →
      Reads limit ts a c x (by_loop_word value inner (place_at a)) → Reads limit ts a c x (statement_by value inner)
  unfolding statement_by
  reads_on ts a c x w1 w2 w3 s h = reads-here limit ts _ s (reads-not_taken limit ts _ _ w1 s (reads-not_taken limit ts _ _ w2 s (reads-not_taken limit ts _ _ w3 s h)))

  -- what begins an expression
  reads_expression : (ts : List Token) (a c : Rest) (x : Statement) {e : ℕ} → Opened begins_expression e a → Stands ts a → Reads limit ts a c x (by_expression value) → Reads limit ts a c x (statement_by value inner)
  reads_expression ts a c x o s h =
      reads_on ts a c x (without_first marks.OpenCurly refl o) (without_first marks.Semicolon refl o) (without_word words.If refl o) s
      (reads-no_loop limit d le value hv inner hi gi ts a c x (without_word words.While refl o) (without_word words.Do refl o) (without_word words.For refl o) (without_word words.ForMine refl o) s
      (reads-others limit d le value hv inner ts a c x o s h))

  reads_if : (ts : List Token) (a b c : Rest) (x : Arm) (r : Elses) → IsArm (suc d) a b x → IsElses (suc d) b c r → ElsesEnd r c → Stands ts a → Reads limit ts a c (if_of x r) (statement_by value inner)
  unfolding statement_by
  reads_if ts a b c x r (if_arm {b = f} t u h v i n) hs ends s =
      reads-here limit ts _ s (reads-not_taken limit ts _ _ (without _ t refl) s (reads-not_taken limit ts _ _ (without _ t refl) s (
      reads-taken_word limit ts words.If _ t le s (λ q. reads-if_after ts f b c x r (guarded (in_parentheses u h v) (i, n)) hs ends q))))

  reads-statement_by : (ts : List Token) (a b : Rest) (x : Statement) → IsStatement d a b x → Stands ts a → StatementEnds x b → Reads limit ts a b x (statement_by value inner)
  unfolding statement_by
  reads-statement_by ts a c x (block_statement {ss = ss} (braces {b = b} t h u)) s ends =
      reads-here limit ts _ s (reads-taken_mark limit ts marks.OpenCurly _ t le s (λ r.
      reads-bind limit ts _ (reads-block_after limit (suc d) le value hv inner hi ts b c ss (closing h u) r) (λ q. reads-pure limit ts q)))
  reads-statement_by ts a c x (empty_statement t) s ends =
      reads-here limit ts _ s (reads-not_taken limit ts _ _ (without _ t refl) s (reads-taken_mark limit ts marks.Semicolon _ t le s (λ r. reads-pure limit ts r)))
  reads-statement_by ts a c x (if_statement {b = b} {x = y} {xs = xs} h hs) s ends =
      reads_if ts a b c y (record { arms = xs; last = None }) h (arms_only (suc d) b c xs hs) (ends refl) s
  reads-statement_by ts a g x (if_else_statement {b = b} {c = c} {f = f} {x = y} {xs = xs} {s = z} h hs t n i) s ends =
      reads_if ts a b g y (record { arms = xs; last = Some z }) h (arms_and_last (suc d) b c f g xs z hs t n i) ends s
  reads-statement_by ts a h x (while_statement {b = b} {c = c} {f = f} {g = g} {test = e} {s = z} t u i v j) s ends =
      reads_on ts a h x (without _ t refl) (without _ t refl) (without _ t refl) s (reads-while limit d le value hv inner hi gi ts a b g h e z t (in_parentheses u i v) j ends s)
  reads-statement_by ts a j x (do_statement {b = b} {c = c} {f = f} {i = i} {test = e} {s = z} t y u v h w o) s ends =
      reads_on ts a j x (without _ t refl) (without _ t refl) (without _ t refl) s (reads-do limit d le value hv inner hi gi ts a b c f i j e z t y u (in_parentheses v h w) o s)
  reads-statement_by ts a m x (for_statement {b = b} {c = c} {f = f} {g = g} {h = h} {i = i} {j = j} {k = k} {first = first} {test = test} {next = next} {s = z} t t1 o1 t2 o2 t3 o3 t4 y) s ends =
      reads_on ts a m x (without _ t refl) (without _ t refl) (without _ t refl) s
      (reads-for limit d le value hv inner hi gi ts a b c f g h i j k m first test next z t t1 o1 t2 o2 t3 o3 t4 y ends s)
  reads-statement_by ts a j x (for_mine_statement {x = n} {b = b} {c = c} {f = f} {g = g} {h = h} {i = i} {bound = e} {s = z} t t1 t2 t3 y t4 o) s ends =
      reads_on ts a j x (without _ t refl) (without _ t refl) (without _ t refl) s
      (reads-for_mine limit d le value hv inner hi gi ts a b c f g h i j n e z t t1 t2 t3 y t4 o ends s)
  reads-statement_by ts a f x (return_statement {b = b} {c = c} {value = o} t h u) s ends =
      reads_on ts a f x (without _ t refl) (without _ t refl) (without _ t refl) s
      (reads-no_loop limit d le value hv inner hi gi ts a f x (without _ t refl) (without _ t refl) (without _ t refl) (without _ t refl) s (reads-return limit d le value hv inner ts a b c f o t h u s))
  reads-statement_by ts a c x (break_statement {b = b} t u) s ends =
      reads_on ts a c x (without _ t refl) (without _ t refl) (without _ t refl) s
      (reads-no_loop limit d le value hv inner hi gi ts a c x (without _ t refl) (without _ t refl) (without _ t refl) (without _ t refl) s (reads-break limit d le value hv inner ts a b c t u s))
  reads-statement_by ts a c x (continue_statement {b = b} t u) s ends =
      reads_on ts a c x (without _ t refl) (without _ t refl) (without _ t refl) s
      (reads-no_loop limit d le value hv inner hi gi ts a c x (without _ t refl) (without _ t refl) (without _ t refl) (without _ t refl) s (reads-continue limit d le value hv inner ts a b c t u s))
  reads-statement_by ts a c x (simple_statement {b = b} {e = e} h t) s ends = reads_expression ts a c x (opened-assign h) s (reads-simple limit d le value hv ts a b c e h t s)
  reads-statement_by ts a g x (split_statement {b = b} {c = c} {f = f} {left = left} {right = right} h t i u) s ends =
      reads_expression ts a g x (opened-assign h) s (reads-split limit d le value hv ts a b c f g left right h t i u s)
  reads-statement_by ts a g x (one_way_statement {b = b} {c = c} {f = f} {left = left} {right = right} h t i u) s ends =
      reads_expression ts a g x (opened-assign h) s (reads-one_way limit d le value hv ts a b c f g left right h t i u s)

  pub exact-statement_by : Exact limit (statement_by value inner) (IsStatement d) StatementEnds
  unfolding statement_by
  exact-statement_by = record {
    local = local-statement_by;
    consumes = consumes-second local-here consumes_by_first;
    fits = fits-statement_by;
    reads = reads-statement_by;
  }
