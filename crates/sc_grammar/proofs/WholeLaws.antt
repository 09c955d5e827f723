-- What is read of a whole source.
use Rattle.std.proofs.Common.{◌≡◌, refl, ap, sym, ◌∙◌, ℕ, ◌+◌, ◌-◌, ◌<◌, ◌≤◌, List, [], ◌∷◌, ◌++◌, append_assoc, length, Option, Some, None, arith}
use Rattle.std.proofs.lemmas.List.{append-nil}
use Rattle.std.specs.Prelude.{slice_get}
use Rattle.sc_tree.specs.declared.token.Token.{Token}
use Rattle.sc_base.specs.declared.shape.Shape.{Shape}
use Rattle.sc_tree.specs.PlainTree.{PlainFunction}
use Rattle.sc_grammar.specs.declared.error.Refused.{Refused}
use Rattle.sc_grammar.specs.declared.error.Refused.TheVariants.{Memory, Syntax, Deep}
use Rattle.sc_grammar.specs.Items.{Item, objects, function}
use Rattle.sc_grammar.specs.Sentence.{objects_in, functions_in, last_line}
use Rattle.sc_grammar.proofs.Reading.{Parser, Out, got, refused, Refusal, and_then, many_by, bind, pure, Fails, line_of_token}
use Rattle.sc_grammar.proofs.ReadingItems.{items}
use Rattle.sc_grammar.proofs.ReadingWhole.{Sorted, with_items, with_item, sorted, sorted_items, ReadSorted}
use Rattle.sc_grammar.proofs.ManyLaws.{Collects, turn_more, turn_stop, turn_fail, turn_end}

abbrev pub with_sorted : Sorted → Out (List Item) → Out Sorted
with_sorted s (got all m) = got (with_items s all) m
with_sorted s (refused r) = refused r

abbrev apart : List Shape → List PlainFunction → Sorted
apart a b = record { objects = a; functions = b }

both : (a c : List Shape) (b d : List PlainFunction) (m : ℕ) → a ≡ c → b ≡ d → got (apart a b) m ≡ got (apart c d) m
both a c b d m e f = ap (λ (x : List Shape). got (apart x b) m) e ∙ ap (λ (y : List PlainFunction). got (apart c y) m) f

sorted_step : (s : Sorted) (x : Item) (o : Out (List Item)) → with_sorted s (and_then o (λ xs m. got (x ∷ xs) m)) ≡ with_sorted (with_item s x) o
sorted_step s (objects all) (got xs m) = both _ _ _ _ m (ap (λ (l : List Shape). s.objects ++ l) (ap (λ (l : List Shape). l ++ objects_in xs) (sym (append-nil all))) ∙ sym (append_assoc s.objects (all ++ []) (objects_in xs))) (ap (λ (l : List PlainFunction). l ++ functions_in xs) (sym (append-nil s.functions)))
sorted_step s (function f) (got xs m) = both _ _ _ _ m (ap (λ (l : List Shape). l ++ objects_in xs) (sym (append-nil s.objects))) (sym (append_assoc s.functions (f ∷ []) (functions_in xs)))
sorted_step s x (refused r) = refl

with_none : (s : Sorted) (m : ℕ) → got (with_items s []) m ≡ got s m
with_none s m = both _ _ _ _ m (append-nil s.objects) (append-nil s.functions)

in_sorted : Collects with_item with_sorted
in_sorted = record { one = sorted_step; nothing = with_none; refusal = λ s r. refl }

module _ (s : Sorted) (p : Parser (Option Item)) (ts : List Token) where
  pub items_more : (i end n m : ℕ) (x : Item) → i < end → p ts n ≡ got (Some x) m → with_sorted s (many_by p (end - i) ts n) ≡ with_sorted (with_item s x) (many_by p (end - (i + 1)) ts m)
  items_more i end n m x h e = turn_more in_sorted s p i end ts n m x h e

  pub items_stop : (i end n m : ℕ) → i < end → p ts n ≡ got None m → with_sorted s (many_by p (end - i) ts n) ≡ got s m
  items_stop i end n m h e = turn_stop in_sorted s p i end ts n m h e

  pub items_fail : (i end n : ℕ) (r : Refusal) → i < end → p ts n ≡ refused r → with_sorted s (many_by p (end - i) ts n) ≡ refused r
  items_fail i end n r h e = turn_fail in_sorted s p i end ts n r h e

  pub items_end : (i end n : ℕ) → end ≤ i → with_sorted s (many_by p (end - i) ts n) ≡ got s n
  items_end i end n h = turn_end in_sorted s p i end ts n h

-- what was found so far, and one item more
pub items_found : (s t : Sorted) (p : Parser (Option Item)) (i end : ℕ) (us ts : List Token) (n m : ℕ) (x : Item) (o : Out Sorted) → us ≡ ts → o ≡ with_sorted s (many_by p (end - i) ts n) → i < end → p us n ≡ got (Some x) m → t ≡ with_item s x → o ≡ with_sorted t (many_by p (end - (i + 1)) ts m)
items_found s t p i end us ts n m x o same is lt h added =
    is ∙ items_more s p ts i end n m x lt (ap (λ (l : List Token). p l n) (sym same) ∙ h) ∙ ap (λ (z : Sorted). with_sorted z (many_by p (end - (i + 1)) ts m)) (sym added)

-- the first item, and the further ones
abbrev pub no_items : Sorted
no_items = record { objects = []; functions = [] }

first_sorted : (x : Item) (xs : List Item) (m : ℕ) → got (with_items (with_item no_items x) xs) m ≡ got (sorted (x ∷ xs)) m
first_sorted (objects all) xs m = both _ _ _ _ m (ap (λ (l : List Shape). l ++ objects_in xs) (append-nil all)) refl
first_sorted (function f) xs m = refl

pub first_item : (x : Item) (o : Out (List Item)) → with_sorted (with_item no_items x) o ≡ and_then (and_then o (λ xs m. got (x ∷ xs) m)) (λ all m. got (sorted all) m)
first_item x (got xs m) = first_sorted x xs m
first_item x (refused r) = refl

pub ruleset item_turns = (items_more, items_stop, items_fail, items_end, first_item)

-- all the items
got_sorted : (k : ℕ) (ts : List Token) (s : Sorted) (m : ℕ) (o : Out (List Item)) → items k ts 0 ≡ o → and_then o (λ all n. got (sorted all) n) ≡ got s m → ReadSorted k ts s
got_sorted k ts s m (got all n) e h = let is : s ≡ sorted all = cc in record { all = all; end = n; reads = e; is = is }
got_sorted k ts s m (refused r) e h = cc

pub reads_sorted : (k : ℕ) (ts : List Token) (s : Sorted) (m : ℕ) → sorted_items k ts 0 ≡ got s m → ReadSorted k ts s
unfolding sorted_items bind pure
reads_sorted k ts s m h = got_sorted k ts s m (items k ts 0) refl h

refused_sorted : (o : Out (List Item)) (r : Refusal) → and_then o (λ all n. got (sorted all) n) ≡ refused r → o ≡ refused r
refused_sorted (got all n) r h = cc
refused_sorted (refused q) r h = cc

pub fails_sorted : (k : ℕ) (ts : List Token) (e : Refused) → Fails e (sorted_items k ts 0) → Fails e (items k ts 0)
unfolding sorted_items bind pure
fails_sorted k ts Memory h = h
fails_sorted k ts (Syntax n) h = refused_sorted (items k ts 0) _ h
fails_sorted k ts (Deep n) h = refused_sorted (items k ts 0) _ h

pub ruleset all_items = (reads_sorted, fails_sorted)

-- the line of the last token
at_last : (t : Token) (ts : List Token) → line_of_token (slice_get (t ∷ ts) (length ts)) ≡ last_line (t ∷ ts)
at_last t [] = refl
at_last t (u ∷ ts) = at_last u ts

before_last : (t : Token) (ts : List Token) → length (t ∷ ts) - 1 ≡ length ts
before_last t ts = omega arith

line_is : (ts : List Token) → line_of_token (slice_get ts (length ts - 1)) ≡ last_line ts
line_is [] = refl
line_is (t ∷ ts) = ap (λ k. line_of_token (slice_get (t ∷ ts) k)) (before_last t ts) ∙ at_last t ts

pub last_some : (ts : List Token) (t : Token) → slice_get ts (length ts - 1) ≡ Some t → last_line ts ≡ t.line
last_some ts t e = sym (line_is ts) ∙ ap line_of_token e

pub last_none : (ts : List Token) → slice_get ts (length ts - 1) ≡ None → last_line ts ≡ 0
last_none ts e = sym (line_is ts) ∙ ap line_of_token e

pub ruleset last_lines = (last_some, last_none)
