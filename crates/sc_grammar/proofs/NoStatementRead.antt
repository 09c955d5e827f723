-- Where no level of depth is left, each token that begins a statement is refused as too deep.
use Rattle.std.proofs.Common.{◌+◌, ◌≡◌, refl, ap, ◌∙◌, ℕ, suc, arith, Bool, true, false, List, [], ◌∷◌, ◌++◌, None}
use Rattle.sc_tree.specs.declared.token.Token.{Token}
use Rattle.sc_tree.specs.declared.token.TokenKind.{TokenKind}
use Rattle.sc_tree.specs.declared.token.TokenKind.TheVariants.{Number, Name, Format, Word, Mark}
use Rattle.sc_tree.specs.declared.token.Word.{Word as TheWord}
use Rattle.sc_tree.specs.declared.token.Word.TheVariants as words
use Rattle.sc_tree.specs.declared.token.Mark.{Mark as TheMark}
use Rattle.sc_tree.specs.declared.token.Mark.TheVariants as marks
use Rattle.sc_tree.specs.Plain.{Expression}
use Rattle.sc_tree.specs.PlainStmt.{Statement, block, empty, choose, simple, while_, do_while, for_, for_mine, return, break, continue, no_statements, arm, arms, no_arms}
use Rattle.sc_grammar.specs.declared.position.Position.{Position}
use Rattle.sc_grammar.specs.Rest.{Spelt, Rest, rest, Takes, takes}
use Rattle.sc_grammar.specs.Expressions.{IsAssign}
use Rattle.sc_grammar.specs.Statements.{is_else, left_out, IsStatement, block_statement, empty_statement, if_statement, for_statement, for_mine_statement, return_statement, break_statement, continue_statement, simple_statement, if_arm, no_else_if, braces, no_more_parts}
use Rattle.sc_grammar.proofs.Reading.{is_mark, is_word, no_deeper}
use Rattle.sc_grammar.proofs.ReadingExpressions.{begins_expression}
use Rattle.sc_grammar.proofs.ReadingStatements.{begins_statement}
use Rattle.sc_grammar.proofs.Local.{local-no_deeper, consumes-no_deeper}
use Rattle.sc_grammar.proofs.Fits.{Rule, Fits, Sample, After, Quiet, past, sample_more}
use Rattle.sc_grammar.proofs.FitsTokens.{Was, TakesMark, TakesWord, At, Opens, spelt, sample-token, sample-then, fits-no_deeper, was-mark, was-word}
use Rattle.sc_grammar.proofs.Derived.{reads-too_deep}
use Rattle.sc_grammar.proofs.Laws.{Exact, StatementEnds}
use Rattle.sc_grammar.proofs.LocalsRead.{at-place, IsTest, in_parentheses}
use Rattle.sc_grammar.proofs.BlocksRead.{opened-statement}
use Rattle.sc_grammar.proofs.LoopsRead.{AfterWord, NamedAt, first_on_no_line, some_name, while-of, do-of}

-- ---- samples by their parts

some_mark : (m : TheMark) (d : ℕ) → (n : ℕ) → Sample (TakesMark m d) n
some_mark m d n = sample-token {R = TakesMark m d} d (Mark m) tt refl (λ a b t. t) n

some_word : (w : TheWord) (d : ℕ) → is_else (Word w) ≡ false → (n : ℕ) → Sample (TakesWord w d) n
some_word w d q n = sample-token {R = TakesWord w d} d (Word w) tt q (λ a b t. t) n

sample-pure : {A : Type 0} (R : Rule A) (x : A) → ((a : Rest) → R a a x) → (n : ℕ) → Sample R n
sample-pure R x h n = record { more = []; value = x; quiet = refl; holds = λ tail w. h (rest n tail) }

-- a token that begins it, and a sample of what is left
opens-taken : {A : Type 0} (R : Rule A) (k : TokenKind → Bool) (d : ℕ) → ((p : Position) (n : ℕ) → Sample (After (Was k d) tt (At p R)) n) → Opens R k
opens-taken R k d h t e n =
    let b = h (record { at = n + 1; line = t.line }) (n + 1) in (
      spelt t d,
      refl,
      b.more,
      b.value,
      b.quiet,
      λ tail w. b.holds tail w (rest n (spelt t d ∷ (b.more ++ tail))) (record { kind = t.kind; so = e; takes = takes }) (record { at = refl; line = refl }),
    )

-- what the rule says from a token before
abbrev From : {A : Type 0} → Spelt → ℕ → Rule A → Rule A
From s n R (rest m us) b x = R (rest n (s ∷ us)) b x

module _ (d : ℕ) (opens : Opens (IsAssign (suc d)) begins_expression) where
  -- ---- parts

  some_assign : (n : ℕ) → Sample (IsAssign (suc d)) n
  some_assign n =
      let o = opens (record { kind = Name 0; at = 0; line = 0 }) refl n in
      record {
        more = o.0 ∷ o.2;
        value = o.3;
        quiet = ap (λ (t : Token). is_else t.kind) o.1;
        holds = o.5;
      }

  some_test : (n : ℕ) → Sample (IsTest (suc d)) n
  some_test =
      sample-then (some_mark marks.OpenRound (suc d)) (λ _. sample-then some_assign (λ e. sample-then (some_mark marks.CloseRound (suc d)) (λ _.
      sample-pure _ e (λ f c t b h a o. in_parentheses o h t))))

  nothing : (e : ℕ) (n : ℕ) → Sample (IsStatement e) n
  nothing e n = sample-token {R = IsStatement e} (suc e) (Mark marks.Semicolon) empty refl (λ a b t. empty_statement t) n

  -- ---- each statement after its first token

  block_left : (p : Position) (n : ℕ) → Sample (After (Was (is_mark marks.OpenCurly) (suc d)) tt (At p (IsStatement d))) n
  block_left p =
      sample-then (some_mark marks.CloseCurly (suc d)) (λ _. sample-pure _ (block no_statements) (λ c b u a t m.
      block_statement (braces (was-mark marks.OpenCurly (suc d) a b tt t) no_more_parts u)))

  empty_left : (p : Position) (n : ℕ) → Sample (After (Was (is_mark marks.Semicolon) (suc d)) tt (At p (IsStatement d))) n
  empty_left p = sample-pure _ empty (λ b a t m. empty_statement (was-mark marks.Semicolon (suc d) a b tt t))

  if_of : (a b c f : Rest) (e : Expression) → Takes (Word words.If) (suc d) a b → IsTest (suc d) b c e → Takes (Mark marks.Semicolon) (suc (suc d)) c f → IsStatement d a f (choose (arms (arm e empty) no_arms))
  if_of a b c f e t (in_parentheses u h v) w = if_statement (if_arm t u h v (empty_statement w) (λ e. refl)) no_else_if

  if_left : (p : Position) (n : ℕ) → Sample (AfterWord d words.If p) n
  if_left p =
      sample-then some_test (λ e. sample-then (some_mark marks.Semicolon (suc (suc d))) (λ _. sample-pure _ (choose (arms (arm e empty) no_arms)) (λ f c w b h a t m.
      if_of a b c f e (was-word words.If (suc d) a b tt t) h w)))

  while_left : (p : Position) (n : ℕ) → Sample (AfterWord d words.While p) n
  while_left p =
      sample-then some_test (λ e. sample-then (nothing (suc d)) (λ s. sample-pure _ (while_ e s) (λ f c i b h a t m. while-of d a b c f e s (was-word words.While (suc d) a b tt t) h i)))

  do_left : (p : Position) (n : ℕ) → Sample (AfterWord d words.Do p) n
  do_left p =
      sample-then (nothing (suc d)) (λ s. sample-then (some_word words.While (suc d) refl) (λ _. sample-then some_test (λ e. sample-then (some_mark marks.Semicolon (suc d)) (λ _.
      sample-pure _ (do_while s e) (λ h g x f j c u b i a t m. do-of d a b c f g h e s (was-word words.Do (suc d) a b tt t) i u j x)))))

  for_left : (p : Position) (n : ℕ) → Sample (AfterWord d words.For p) n
  for_left p =
      sample-then (some_mark marks.OpenRound (suc d)) (λ _. sample-then (some_mark marks.Semicolon (suc d)) (λ _. sample-then (some_mark marks.Semicolon (suc d)) (λ _.
      sample-then (some_mark marks.CloseRound (suc d)) (λ _. sample-then (nothing (suc d)) (λ s. sample-pure _ (for_ None None None s) (λ i h body g t4 f t3 c t2 b t1 a t m.
      for_statement (was-word words.For (suc d) a b tt t) t1 left_out t2 left_out t3 left_out t4 body))))))

  index_left : (p q : Position) (n : ℕ) → Sample (After (NamedAt q (suc d)) 0 (After (TakesMark marks.OpenRound (suc d)) tt (AfterWord d words.ForMine p))) n
  index_left p q =
      sample-then (some_mark marks.Comma (suc d)) (λ _. sample-then some_assign (λ e. sample-then (some_mark marks.CloseRound (suc d)) (λ _. sample-then (nothing (suc d)) (λ s.
      sample-pure _ (for_mine 0 e s q.at q.line) (λ j i body h t4 g bound f t3 c named b t1 a t m.
      at-place (λ at line. IsStatement d a j (for_mine 0 e s at line)) q c named.1
      (for_mine_statement (was-word words.ForMine (suc d) a b tt t) t1 named.0 t3 bound t4 body))))))

  some_index : (p : Position) (n : ℕ) → Sample (After (TakesMark marks.OpenRound (suc d)) tt (AfterWord d words.ForMine p)) n
  unfolding some_name
  some_index p n = sample_more n (some_name (suc d) n) (index_left p (first_on_no_line n) (n + 1))

  for_mine_left : (p : Position) (n : ℕ) → Sample (AfterWord d words.ForMine p) n
  for_mine_left p = sample-then (some_mark marks.OpenRound (suc d)) (λ _. some_index p)

  return_left : (p : Position) (n : ℕ) → Sample (AfterWord d words.Return p) n
  return_left p =
      sample-then (some_mark marks.Semicolon (suc d)) (λ _. sample-pure _ (return None p.at p.line) (λ c b u a t m.
      at-place (λ at line. IsStatement d a c (return None at line)) p a m (return_statement (was-word words.Return (suc d) a b tt t) left_out u)))

  break_left : (p : Position) (n : ℕ) → Sample (AfterWord d words.Break p) n
  break_left p =
      sample-then (some_mark marks.Semicolon (suc d)) (λ _. sample-pure _ (break p.at) (λ c b u a t m.
      at-place (λ at line. IsStatement d a c (break at)) p a m (break_statement (was-word words.Break (suc d) a b tt t) u)))

  continue_left : (p : Position) (n : ℕ) → Sample (AfterWord d words.Continue p) n
  continue_left p =
      sample-then (some_mark marks.Semicolon (suc d)) (λ _. sample-pure _ (continue p.at) (λ c b u a t m.
      at-place (λ at line. IsStatement d a c (continue at)) p a m (continue_statement (was-word words.Continue (suc d) a b tt t) u)))

  -- ---- each token that begins a statement

  opens_by_word : (w : TheWord) → ((p : Position) (n : ℕ) → Sample (AfterWord d w p) n) → Opens (IsStatement d) (is_word w)
  opens_by_word w h = opens-taken (IsStatement d) (is_word w) (suc d) h

  semicolon_left : (s : Spelt) (n : ℕ) (e : Expression) (k : ℕ) → Sample (After (From s n (IsAssign (suc d))) e (From s n (IsStatement d))) k
  semicolon_left s n e k = record {
    more = spelt (record { kind = Mark marks.Semicolon; at = 0; line = 0 }) (suc d) ∷ [];
    value = simple e;
    quiet = refl;
    holds = λ tail w a h. go tail a h;
  }
    where
      go : (tail : List Spelt) (a : Rest) → From s n (IsAssign (suc d)) a (rest k (spelt (record { kind = Mark marks.Semicolon; at = 0; line = 0 }) (suc d) ∷ tail)) e →
          From s n (IsStatement d) a (rest (k + 1) tail) (simple e)
      go tail (rest m us) h = simple_statement h takes

  simple_left : Opens (IsStatement d) begins_expression
  simple_left t e n =
      let o = opens t e n in
      let first : Sample (From o.0 n (IsAssign (suc d))) (n + 1) = record { more = o.2; value = o.3; quiet = o.4; holds = o.5 } in
      let b = sample_more {R = From o.0 n (IsStatement d)} (n + 1) first (semicolon_left o.0 n o.3 (past o.2 (n + 1))) in
      (o.0, o.1, b.more, b.value, b.quiet, b.holds)

  opens_by_kind : (t : Token) (k : TokenKind) → t.kind ≡ k → begins_statement k ≡ true → (n : ℕ) →
      (s : Spelt) × (s.token ≡ t) × (more : List Spelt) × (x : Statement) × Quiet more × ((tail : List Spelt) → Quiet tail → IsStatement d (rest n (s ∷ (more ++ tail))) (rest (past more (n + 1)) tail) x)
  opens_by_kind t (Word words.If) e h n = opens_by_word words.If if_left t (ap (is_word words.If) e) n
  opens_by_kind t (Word words.While) e h n = opens_by_word words.While while_left t (ap (is_word words.While) e) n
  opens_by_kind t (Word words.Do) e h n = opens_by_word words.Do do_left t (ap (is_word words.Do) e) n
  opens_by_kind t (Word words.For) e h n = opens_by_word words.For for_left t (ap (is_word words.For) e) n
  opens_by_kind t (Word words.ForMine) e h n = opens_by_word words.ForMine for_mine_left t (ap (is_word words.ForMine) e) n
  opens_by_kind t (Word words.Return) e h n = opens_by_word words.Return return_left t (ap (is_word words.Return) e) n
  opens_by_kind t (Word words.Break) e h n = opens_by_word words.Break break_left t (ap (is_word words.Break) e) n
  opens_by_kind t (Word words.Continue) e h n = opens_by_word words.Continue continue_left t (ap (is_word words.Continue) e) n
  opens_by_kind t (Word w) e h n = simple_left t (ap begins_expression e ∙ h) n
  opens_by_kind t (Mark marks.OpenCurly) e h n = opens-taken (IsStatement d) (is_mark marks.OpenCurly) (suc d) block_left t (ap (is_mark marks.OpenCurly) e) n
  opens_by_kind t (Mark marks.Semicolon) e h n = opens-taken (IsStatement d) (is_mark marks.Semicolon) (suc d) empty_left t (ap (is_mark marks.Semicolon) e) n
  opens_by_kind t (Mark m) e h n = simple_left t (ap begins_expression e ∙ h) n
  opens_by_kind t (Number x) e h n = simple_left t (ap begins_expression e ∙ h) n
  opens_by_kind t (Name x) e h n = simple_left t (ap begins_expression e ∙ h) n
  opens_by_kind t (Format x) e h n = simple_left t (ap begins_expression e ∙ h) n

  pub opens-statement : Opens (IsStatement d) begins_statement
  opens-statement t e n = opens_by_kind t t.kind refl e n

  pub fits-no_statement : Fits (no_deeper begins_statement) (IsStatement d)
  fits-no_statement = fits-no_deeper begins_statement opens-statement (nothing d)

-- where no level of depth is left
pub exact-no_statement : (limit : ℕ) → Opens (IsAssign (suc limit)) begins_expression → Exact limit (no_deeper begins_statement) (IsStatement limit) StatementEnds
exact-no_statement limit opens = record {
  local = local-no_deeper begins_statement;
  consumes = consumes-no_deeper begins_statement;
  fits = fits-no_statement limit opens;
  reads = λ ts a b x h s ends. reads-too_deep limit ts begins_statement _ (opened-statement h) (omega arith) s;
}
