-- Loops are read exactly, where an `assign` and a statement inside are.
use Rattle.std.proofs.Common.{◌+◌, refl, ℕ, suc, ◌≤◌, List, [], ◌∷◌, Option}
use Rattle.sc_tree.specs.declared.token.Token.{Token}
use Rattle.sc_tree.specs.declared.token.TokenKind.TheVariants.{Name, Word, Mark}
use Rattle.sc_tree.specs.declared.token.Word.{Word as TheWord}
use Rattle.sc_tree.specs.declared.token.Word.TheVariants as words
use Rattle.sc_tree.specs.declared.token.Mark.{Mark as TheMark}
use Rattle.sc_tree.specs.declared.token.Mark.TheVariants as marks
use Rattle.sc_tree.specs.Plain.{Expression}
use Rattle.sc_tree.specs.PlainStmt.{Statement, while_, do_while, for_, for_mine}
use Rattle.sc_grammar.specs.declared.position.Position.{Position}
use Rattle.sc_grammar.specs.Rest.{Rest, Takes, takes, number_of, line_of}
use Rattle.sc_grammar.specs.Expressions.{IsAssign}
use Rattle.sc_grammar.specs.Statements.{is_else, IsOptional, IsStatement, while_statement, do_statement, for_statement, for_mine_statement}
use Rattle.sc_grammar.proofs.Reading.{Parser, ◌>>=◌, pure, mark, is_word, name_in}
use Rattle.sc_grammar.proofs.ReadingStatements.{optional_before, while_after, do_after, for_after, for_mine_after, by_other_word, by_loop_word}
use Rattle.sc_grammar.proofs.Local.{Local, Consumes, local-bind, local-here, local-pure, local-must, local-if_taken, consumes-first, consumes-must, consumes-if_taken}
use Rattle.sc_grammar.proofs.Fits.{Rule, Fits, Sample, After, sample_more, fits-bind, fits-pure, fits-wider}
use Rattle.sc_grammar.proofs.FitsTokens.{Was, TakesMark, Matches, At, fits-here, never_idle, fits-if_taken, fits-must, fits-mark, fits-word, was-word}
use Rattle.sc_grammar.proofs.Derived.{Stands, Reads, place_at, reads-bind, reads-here, reads-pure, reads-must, reads-mark, reads-word, reads-taken_word, reads-not_taken}
use Rattle.sc_grammar.proofs.Laws.{Exact, Without, without, ExpressionEnds, StatementEnds, Greedy, extends_assign}
use Rattle.sc_grammar.proofs.PrimaryRead.{gave-name}
use Rattle.sc_grammar.proofs.LocalsRead.{at-place, IsTest, in_parentheses, local-optional_before, fits-optional_before, reads-optional_before, local-test, fits-test, reads-test}
use Rattle.sc_grammar.proofs.Greedy.{greedy-bind, greedy-if_taken, greedy-closed, greedy-body}
use Rattle.sc_grammar.proofs.SimpleRead.{local-by_other_word, consumes-by_other_word, greedy-by_other_word, fits-by_other_word}

-- a name at the position
abbrev pub NamedAt : Position → ℕ → Rule ℕ
NamedAt p d a b x = Takes (Name x) d a b × Matches p a

abbrev pub first_on_no_line : ℕ → Position
first_on_no_line n = record { at = n + 1; line = 0 }

-- any name, in some place
unfoldable pub some_name : (d n : ℕ) → Sample (NamedAt (first_on_no_line n) d) n
some_name d n = record {
  more = record { token = record { kind = Name 0; at = 0; line = 0 }; depth = d } ∷ [];
  value = 0;
  quiet = refl;
  holds = λ tail w. (takes, record { at = refl; line = refl });
}

-- what is left of a statement after its first word
abbrev pub AfterWord : ℕ → TheWord → Position → Rule Statement
AfterWord d w p = After (Was (is_word w) (suc d)) tt (At p (IsStatement d))

-- ---- the loops with a test alone

pub while-of : (d : ℕ) (a b c f : Rest) (e : Expression) (s : Statement) → Takes (Word words.While) (suc d) a b → IsTest (suc d) b c e → IsStatement (suc d) c f s → IsStatement d a f (while_ e s)
while-of d a b c f e s t (in_parentheses u h v) i = while_statement t u h v i

pub do-of : (d : ℕ) (a b c f g h : Rest) (e : Expression) (s : Statement) → Takes (Word words.Do) (suc d) a b → IsStatement (suc d) b c s → Takes (Word words.While) (suc d) c f → IsTest (suc d) f g e →
    Takes (Mark marks.Semicolon) (suc d) g h → IsStatement d a h (do_while s e)
do-of d a b c f g h e s t i u (in_parentheses o j v) x = do_statement t i u o j v x

module _ (limit d : ℕ) (le : suc d ≤ limit) (value : Parser Expression) (hv : Exact limit value (IsAssign (suc d)) (ExpressionEnds extends_assign))
    (inner : Parser Statement) (hi : Exact limit inner (IsStatement (suc d)) StatementEnds) (gi : Greedy inner) where
  -- ---- while

  local-while_after : Local (while_after value inner)
  unfolding while_after
  local-while_after = local-bind (local-test limit (suc d) le value hv) (λ e. local-bind hi.local (λ s. local-pure _))

  fits-while_after : (p : Position) → Fits (while_after value inner) (AfterWord d words.While p)
  unfolding while_after
  fits-while_after p =
      fits-bind (fits-test limit (suc d) le value hv) (λ e. fits-bind hi.fits (λ s. fits-pure _ (λ f c i b t a w m. while-of d a b c f e s (was-word _ (suc d) a b tt w) t i)))

  reads-while_after : (ts : List Token) (a b c : Rest) (e : Expression) (s : Statement) → IsTest (suc d) a b e → IsStatement (suc d) b c s → StatementEnds s c → Stands ts a →
      Reads limit ts a c (while_ e s) (while_after value inner)
  unfolding while_after
  reads-while_after ts a b c e x t i ends s =
      reads-bind limit ts _ (reads-test limit (suc d) le value hv ts a b e t s) (λ r. reads-bind limit ts _ (hi.reads ts b c x i r ends) (λ q. reads-pure limit ts q))

  -- ---- do

  local-do_after : Local (do_after value inner)
  unfolding do_after
  local-do_after = local-bind hi.local (λ s. local-bind (local-must _) (λ u. local-bind (local-test limit (suc d) le value hv) (λ e. local-bind (local-must _) (λ v. local-pure _))))

  fits-do_after : (p : Position) → Fits (do_after value inner) (AfterWord d words.Do p)
  unfolding do_after
  fits-do_after p =
      fits-bind hi.fits (λ s. fits-bind (fits-word words.While (suc d) refl) (λ u. fits-bind (fits-test limit (suc d) le value hv) (λ e.
      fits-bind (fits-mark marks.Semicolon (suc d)) (λ v. fits-pure _ (λ h g x f j c u b i a w m. do-of d a b c f g h e s (was-word _ (suc d) a b tt w) i u j x)))))

  reads-do_after : (ts : List Token) (a b c f g : Rest) (e : Expression) (s : Statement) → IsStatement (suc d) a b s → Takes (Word words.While) (suc d) b c → IsTest (suc d) c f e →
      Takes (Mark marks.Semicolon) (suc d) f g → Stands ts a → Reads limit ts a g (do_while s e) (do_after value inner)
  unfolding do_after
  reads-do_after ts a b c f g e x i u t v s =
      reads-bind limit ts _ (hi.reads ts a b x i s (λ o. without is_else u refl)) (λ r.
      reads-word limit ts words.While _ u le r (λ q. reads-bind limit ts _ (reads-test limit (suc d) le value hv ts c f e t q) (λ z.
      reads-mark limit ts marks.Semicolon _ v le z (λ y. reads-pure limit ts y))))

  -- ---- for

  local_optional : (m : TheMark) → Local (optional_before value m)
  local_optional m = local-optional_before limit (suc d) le value hv m

  local-for_after : Local (for_after value inner)
  unfolding for_after
  local-for_after =
      local-bind (local-must _) (λ t. local-bind (local_optional marks.Semicolon) (λ f. local-bind (local-must _) (λ u. local-bind (local_optional marks.Semicolon) (λ e.
      local-bind (local-must _) (λ v. local-bind (local_optional marks.CloseRound) (λ n. local-bind (local-must _) (λ w. local-bind hi.local (λ s. local-pure _))))))))

  fits-for_after : (p : Position) → Fits (for_after value inner) (AfterWord d words.For p)
  unfolding for_after
  fits-for_after p =
      let first = fits-optional_before limit (suc d) le value hv marks.Semicolon in
      fits-bind (fits-mark marks.OpenRound (suc d)) (λ _. fits-bind first (λ e1. fits-bind (fits-mark marks.Semicolon (suc d)) (λ _. fits-bind first (λ e2. fits-bind (fits-mark marks.Semicolon (suc d)) (λ _.
      fits-bind (fits-optional_before limit (suc d) le value hv marks.CloseRound) (λ e3. fits-bind (fits-mark marks.CloseRound (suc d)) (λ _. fits-bind hi.fits (λ s. fits-pure _
      (λ z k body j t4 i o3 h t3 g o2 f t2 c o1 b t1 a w m. for_statement (was-word words.For (suc d) a b tt w) t1 o1 t2 o2 t3 o3 t4 body)))))))))

  reads-for_after : (ts : List Token) (b c f g h i j k m : Rest) (first test next : Option Expression) (s : Statement) →
      Takes (Mark marks.OpenRound) (suc d) b c → IsOptional (suc d) c f first → Takes (Mark marks.Semicolon) (suc d) f g → IsOptional (suc d) g h test → Takes (Mark marks.Semicolon) (suc d) h i →
      IsOptional (suc d) i j next → Takes (Mark marks.CloseRound) (suc d) j k → IsStatement (suc d) k m s → StatementEnds s m → Stands ts b → Reads limit ts b m (for_ first test next s) (for_after value inner)
  unfolding for_after
  reads-for_after ts b c f g h i j k m first test next x t1 o1 t2 o2 t3 o3 t4 body ends s =
      reads-mark limit ts marks.OpenRound _ t1 le s (λ r. reads-bind limit ts _ (reads-optional_before limit (suc d) le value hv marks.Semicolon refl refl ts c f g first o1 t2 r) (λ r.
      reads-mark limit ts marks.Semicolon _ t2 le r (λ r. reads-bind limit ts _ (reads-optional_before limit (suc d) le value hv marks.Semicolon refl refl ts g h i test o2 t3 r) (λ r.
      reads-mark limit ts marks.Semicolon _ t3 le r (λ r. reads-bind limit ts _ (reads-optional_before limit (suc d) le value hv marks.CloseRound refl refl ts i j k next o3 t4 r) (λ r.
      reads-mark limit ts marks.CloseRound _ t4 le r (λ r. reads-bind limit ts _ (hi.reads ts k m x body r ends) (λ q. reads-pure limit ts q))))))))

  -- ---- for_my_1d

  -- after its name
  abbrev after_index : Position → ℕ → Parser Statement
  after_index p x = mark marks.Comma >>= λ _. value >>= λ e. mark marks.CloseRound >>= λ _. inner >>= λ s. pure (for_mine x e s p.at p.line)

  local_after_index : (p : Position) (x : ℕ) → Local (after_index p x)
  local_after_index p x = local-bind (local-must _) (λ u. local-bind hv.local (λ e. local-bind (local-must _) (λ v. local-bind hi.local (λ s. local-pure _))))

  local-for_mine_after : Local (for_mine_after value inner)
  unfolding for_mine_after
  local-for_mine_after = local-bind (local-must _) (λ t. local-bind local-here (λ p. local-bind (local-must _) (λ x. local_after_index p x)))

  abbrev AfterRound : Position → Rule Statement
  AfterRound p = After (TakesMark marks.OpenRound (suc d)) tt (AfterWord d words.ForMine p)

  fits_after_index : (p q : Position) (x : ℕ) → Fits (after_index q x) (After (NamedAt q (suc d)) x (AfterRound p))
  fits_after_index p q x =
      fits-bind (fits-mark marks.Comma (suc d)) (λ _. fits-bind hv.fits (λ e. fits-bind (fits-mark marks.CloseRound (suc d)) (λ _. fits-bind hi.fits (λ s. fits-pure _
      (λ j i body h t4 g bound f t3 c named b t1 a w m.
      at-place (λ at line. IsStatement d a j (for_mine x e s at line)) q c named.1
      (for_mine_statement (was-word words.ForMine (suc d) a b tt w) t1 named.0 t3 bound t4 body))))))

  some_index : (p : Position) (n : ℕ) → Sample (AfterRound p) n
  unfolding some_name
  some_index p n = sample_more n (some_name (suc d) n) ((fits_after_index p (first_on_no_line n) 0).sample (n + 1))

  fits-for_mine_after : (p : Position) → Fits (for_mine_after value inner) (AfterWord d words.ForMine p)
  unfolding for_mine_after
  fits-for_mine_after p =
      fits-bind (fits-mark marks.OpenRound (suc d)) (λ _.
      fits-wider (λ b c y h a t. h a t)
      (fits-here (some_index p) (never_idle (AfterRound p) (λ q. consumes-first (consumes-must _) (λ x. local_after_index q x)))
      (λ q. fits-bind (fits-must name_in (suc d) (Name 0) 0 refl refl) (λ x.
      fits-wider (λ b c y h a g m. h a (gave-name (suc d) x a b g, m)) (fits_after_index p q x)))))

  reads-for_mine_after : (ts : List Token) (b c f g h i j : Rest) (x : ℕ) (e : Expression) (s : Statement) →
      Takes (Mark marks.OpenRound) (suc d) b c → Takes (Name x) (suc d) c f → Takes (Mark marks.Comma) (suc d) f g → IsAssign (suc d) g h e → Takes (Mark marks.CloseRound) (suc d) h i →
      IsStatement (suc d) i j s → StatementEnds s j → Stands ts b → Reads limit ts b j (for_mine x e s (number_of c) (line_of c)) (for_mine_after value inner)
  unfolding for_mine_after
  reads-for_mine_after ts b c f g h i j x e y t1 t2 t3 bound t4 body ends s =
      reads-mark limit ts marks.OpenRound _ t1 le s (λ r. reads-here limit ts _ r (reads-must limit ts name_in _ refl t2 le r (λ r.
      reads-mark limit ts marks.Comma _ t3 le r (λ r. reads-bind limit ts _ (hv.reads ts g h e bound r (without _ t4 refl)) (λ r.
      reads-mark limit ts marks.CloseRound _ t4 le r (λ r. reads-bind limit ts _ (hi.reads ts i j y body r ends) (λ q. reads-pure limit ts q)))))))

  -- ---- each by its word

  pub local-by_loop_word : (p : Position) → Local (by_loop_word value inner p)
  unfolding by_loop_word
  local-by_loop_word p =
      local-if_taken _ local-while_after (local-if_taken _ local-do_after (local-if_taken _ local-for_after (local-if_taken _ local-for_mine_after (
      local-by_other_word limit d le value hv inner p))))

  pub consumes-by_loop_word : (p : Position) → Consumes (by_loop_word value inner p)
  unfolding by_loop_word
  consumes-by_loop_word p =
      consumes-if_taken _ local-while_after (consumes-if_taken _ local-do_after (consumes-if_taken _ local-for_after (consumes-if_taken _ local-for_mine_after (
      consumes-by_other_word limit d le value hv inner p))))

  greedy_while : Greedy (while_after value inner)
  unfolding while_after
  greedy_while = greedy-bind _ (λ e. greedy-body gi (λ s. while_ e s) (λ s. refl))

  greedy_do : Greedy (do_after value inner)
  unfolding do_after
  greedy_do = greedy-bind _ (λ s. greedy-bind _ (λ u. greedy-bind _ (λ e. greedy-bind _ (λ v. greedy-closed (do_while s e) refl))))

  greedy_for : Greedy (for_after value inner)
  unfolding for_after
  greedy_for =
      greedy-bind _ (λ t. greedy-bind _ (λ f. greedy-bind _ (λ u. greedy-bind _ (λ e. greedy-bind _ (λ v. greedy-bind _ (λ n. greedy-bind _ (λ w.
      greedy-body gi (λ s. for_ f e n s) (λ s. refl))))))))

  greedy_for_mine : Greedy (for_mine_after value inner)
  unfolding for_mine_after
  greedy_for_mine =
      greedy-bind _ (λ t. greedy-bind _ (λ p. greedy-bind _ (λ x. greedy-bind _ (λ u. greedy-bind _ (λ e. greedy-bind _ (λ v.
      greedy-body gi (λ s. for_mine x e s p.at p.line) (λ s. refl)))))))

  pub greedy-by_loop_word : (p : Position) → Greedy (by_loop_word value inner p)
  unfolding by_loop_word
  greedy-by_loop_word p =
      greedy-if_taken _ greedy_while (greedy-if_taken _ greedy_do (greedy-if_taken _ greedy_for (greedy-if_taken _ greedy_for_mine (
      greedy-by_other_word limit d le value hv inner p))))

  pub fits-by_loop_word : (p : Position) → Fits (by_loop_word value inner p) (At p (IsStatement d))
  unfolding by_loop_word
  fits-by_loop_word p =
      fits-if_taken _ (suc d) (fits-while_after p) (fits-if_taken _ (suc d) (fits-do_after p) (fits-if_taken _ (suc d) (fits-for_after p) (fits-if_taken _ (suc d) (fits-for_mine_after p) (
      fits-by_other_word limit d le value hv inner p))))

  pub reads-while : (ts : List Token) (a b c f : Rest) (e : Expression) (s : Statement) → Takes (Word words.While) (suc d) a b → IsTest (suc d) b c e → IsStatement (suc d) c f s → StatementEnds s f →
      Stands ts a → Reads limit ts a f (while_ e s) (by_loop_word value inner (place_at a))
  unfolding by_loop_word
  reads-while ts a b c f e x t h i ends s = reads-taken_word limit ts words.While _ t le s (λ r. reads-while_after ts b c f e x h i ends r)

  pub reads-do : (ts : List Token) (a b c f g h : Rest) (e : Expression) (s : Statement) → Takes (Word words.Do) (suc d) a b → IsStatement (suc d) b c s → Takes (Word words.While) (suc d) c f →
      IsTest (suc d) f g e → Takes (Mark marks.Semicolon) (suc d) g h → Stands ts a → Reads limit ts a h (do_while s e) (by_loop_word value inner (place_at a))
  unfolding by_loop_word
  reads-do ts a b c f g h e x t i u v w s =
      reads-not_taken limit ts _ _ (without _ t refl) s (reads-taken_word limit ts words.Do _ t le s (λ r. reads-do_after ts b c f g h e x i u v w r))

  pub reads-for : (ts : List Token) (a b c f g h i j k m : Rest) (first test next : Option Expression) (s : Statement) → Takes (Word words.For) (suc d) a b →
      Takes (Mark marks.OpenRound) (suc d) b c → IsOptional (suc d) c f first → Takes (Mark marks.Semicolon) (suc d) f g → IsOptional (suc d) g h test → Takes (Mark marks.Semicolon) (suc d) h i →
      IsOptional (suc d) i j next → Takes (Mark marks.CloseRound) (suc d) j k → IsStatement (suc d) k m s → StatementEnds s m → Stands ts a →
      Reads limit ts a m (for_ first test next s) (by_loop_word value inner (place_at a))
  unfolding by_loop_word
  reads-for ts a b c f g h i j k m first test next x t t1 o1 t2 o2 t3 o3 t4 body ends s =
      reads-not_taken limit ts _ _ (without _ t refl) s (reads-not_taken limit ts _ _ (without _ t refl) s (
      reads-taken_word limit ts words.For _ t le s (λ r. reads-for_after ts b c f g h i j k m first test next x t1 o1 t2 o2 t3 o3 t4 body ends r)))

  pub reads-for_mine : (ts : List Token) (a b c f g h i j : Rest) (x : ℕ) (e : Expression) (s : Statement) → Takes (Word words.ForMine) (suc d) a b →
      Takes (Mark marks.OpenRound) (suc d) b c → Takes (Name x) (suc d) c f → Takes (Mark marks.Comma) (suc d) f g → IsAssign (suc d) g h e → Takes (Mark marks.CloseRound) (suc d) h i →
      IsStatement (suc d) i j s → StatementEnds s j → Stands ts a → Reads limit ts a j (for_mine x e s (number_of c) (line_of c)) (by_loop_word value inner (place_at a))
  unfolding by_loop_word
  reads-for_mine ts a b c f g h i j x e y t t1 t2 t3 bound t4 body ends s =
      reads-not_taken limit ts _ _ (without _ t refl) s (reads-not_taken limit ts _ _ (without _ t refl) s (reads-not_taken limit ts _ _ (without _ t refl) s (
      reads-taken_word limit ts words.ForMine _ t le s (λ r. reads-for_mine_after ts b c f g h i j x e y t1 t2 t3 bound t4 body ends r))))

  -- what is no loop
  pub reads-no_loop : (ts : List Token) (a c : Rest) (x : Statement) → Without (is_word words.While) a → Without (is_word words.Do) a → Without (is_word words.For) a → Without (is_word words.ForMine) a →
      Stands ts a → Reads limit ts a c x (by_other_word value inner (place_at a)) → Reads limit ts a c x (by_loop_word value inner (place_at a))
  unfolding by_loop_word
  reads-no_loop ts a c x w1 w2 w3 w4 s h =
      reads-not_taken limit ts _ _ w1 s (reads-not_taken limit ts _ _ w2 s (reads-not_taken limit ts _ _ w3 s (reads-not_taken limit ts _ _ w4 s h)))
