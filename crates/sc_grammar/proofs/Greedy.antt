-- Statements that take each `else` that follows, by their parts.
use Rattle.std.proofs.Common.{◌≡◌, refl, sym, ap, ◌∙◌, subst, ℕ, Bool, true, false, List}
use Rattle.std.specs.Prelude.{slice_get}
use Rattle.sc_tree.specs.declared.token.Token.{Token}
use Rattle.sc_tree.specs.declared.token.TokenKind.{TokenKind}
use Rattle.sc_tree.specs.PlainStmt.{Statement}
use Rattle.sc_grammar.specs.Statements.{is_else, is_open}
use Rattle.sc_grammar.proofs.Reading.{Out, got, refused, Parser, and_then, bind, ◌>>=◌, pure, fail, too_deep, sees, chosen, if_taken, no_deeper}
use Rattle.sc_grammar.proofs.Laws.{Greedy}

greedy_then : {A : Type 0} (f : A → Parser Statement) → ((x : A) → Greedy (f x)) → (ts : List Token) (o : Out A) (s : Statement) (m : ℕ) → and_then o (λ x j. f x ts j) ≡ got s m → is_open s ≡ true → sees is_else (slice_get ts m) ≡ false
greedy_then f h ts (got x j) s m e o = h x ts j s m e o
greedy_then f h ts (refused r) s m e o = cc

pub greedy-bind : {A : Type 0} (p : Parser A) {f : A → Parser Statement} → ((x : A) → Greedy (f x)) → Greedy (bind p f)
unfolding bind
greedy-bind p {f = f} h ts n s m e o = greedy_then f h ts (p ts n) s m e o

greedy_chosen : {p q : Parser Statement} → Greedy p → Greedy q → (b : Bool) → Greedy (chosen p q b)
greedy_chosen hp hq true = hp
greedy_chosen hp hq false = hq

pub greedy-if_taken : (k : TokenKind → Bool) {p q : Parser Statement} → Greedy p → Greedy q → Greedy (if_taken k p q)
greedy-if_taken k hp hq = greedy-bind _ (greedy_chosen hp hq)

-- no `else` goes on with it
pub greedy-closed : (s : Statement) → is_open s ≡ false → Greedy (pure s)
unfolding pure
greedy-closed s h ts n x m e o = let i : s ≡ x = out_value e in absurd (let z : true ≡ false = sym o ∙ ap is_open (sym i) ∙ h in cc)
  where
    out_value : {x y : Statement} {j k : ℕ} → got x j ≡ got y k → x ≡ y
    out_value e = cc

pub greedy-fail : Greedy fail
unfolding fail
greedy-fail ts n s m e o = cc

pub greedy-too_deep : Greedy too_deep
unfolding too_deep
greedy-too_deep ts n s m e o = cc

pub greedy-no_deeper : (k : TokenKind → Bool) → Greedy (no_deeper k)
greedy-no_deeper k = greedy-bind _ (greedy_chosen greedy-too_deep greedy-fail)

body_then : (g : Statement → Statement) → ((s : Statement) → is_open (g s) ≡ is_open s) → (ts : List Token) (o : Out Statement) →
    ((s : Statement) (m : ℕ) → o ≡ got s m → is_open s ≡ true → sees is_else (slice_get ts m) ≡ false) →
    (s : Statement) (m : ℕ) → and_then o (λ x j. got (g x) j) ≡ got s m → is_open s ≡ true → sees is_else (slice_get ts m) ≡ false
body_then g h ts (got x j) f s m e o =
    let i : g x ≡ s = cc in
    let k : j ≡ m = cc in
    subst (λ (l : ℕ). sees is_else (slice_get ts l) ≡ false) k (f x j refl (sym (h x) ∙ ap is_open i ∙ o))
body_then g h ts (refused r) f s m e o = cc

-- an `else` goes on with it as with its body
pub greedy-body : {p : Parser Statement} → Greedy p → (g : Statement → Statement) → ((s : Statement) → is_open (g s) ≡ is_open s) → Greedy (p >>= λ s. pure (g s))
unfolding bind pure
greedy-body {p = p} f g h ts n s m e o = body_then g h ts (p ts n) (λ x j i u. f ts n x j i u) s m e o
