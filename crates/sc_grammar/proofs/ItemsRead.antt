-- What stands at file scope is read exactly, where blocks are.
use Rattle.std.proofs.Common.{◌+◌, ◌≡◌, refl, ap, ℕ, Bool, true, false, List, [], ◌∷◌, Some, None}
use Rattle.sc_base.specs.declared.shape.Star.{Star}
use Rattle.sc_base.specs.declared.shape.Shape.{Shape}
use Rattle.sc_tree.specs.declared.token.Token.{Token}
use Rattle.sc_tree.specs.declared.token.TokenKind.{TokenKind}
use Rattle.sc_tree.specs.declared.token.TokenKind.TheVariants.{Name, Word, Mark}
use Rattle.sc_tree.specs.declared.token.Word.TheVariants as words
use Rattle.sc_tree.specs.declared.token.Mark.TheVariants as marks
use Rattle.sc_grammar.specs.declared.position.Position.{Position}
use Rattle.sc_grammar.specs.Rest.{Rest, rest, Takes, takes}
use Rattle.sc_grammar.specs.Expressions.{IsStars}
use Rattle.sc_grammar.specs.Statements.{begins_by, stands_before, int_with, IsBlock}
use Rattle.sc_grammar.specs.Items.{no_more_bounds, ordinary, spread, IsMoreDeclarators, no_more_declarators, no_result, int_result, void_result, Item, objects, IsItem, objects_item, function_item, IsMoreItems, no_more_items, one_more_item as one_more, IsItems, all_items}
use Rattle.sc_grammar.proofs.Reading.{bind, pure, if_taken, is_mark, is_word, many, name_in}
use Rattle.sc_grammar.proofs.ReadingItems.{function_after, objects_after, after_int, void_type, item, one_more_item, items}
use Rattle.sc_grammar.proofs.Local.{Local, Consumes, Advances, local-bind, local-pure, local-here, local-if_taken, local-many, local-must, advances-if_next, consumes-first, consumes-must, consumes-if_taken}
use Rattle.sc_grammar.proofs.Fits.{Sample, Fits, After, fits-bind, fits-pure, fits-wider}
use Rattle.sc_grammar.proofs.FitsTokens.{Was, OneMore, fits-if_taken, fits-if_next, fits-here, never_idle, fits-must, fits-mark, fits-many, was-mark, was-word, Matches}
use Rattle.sc_grammar.proofs.Derived.{Stands, Reads, place_at, reads-bind, reads-pure, reads-here, reads-must, reads-mark, reads-taken_mark, reads-taken_word, reads-not_taken, reads-next, reads-not_next, reads-none, reads-more}
use Rattle.sc_grammar.proofs.Laws.{Exact, Without, without, with_token}
use Rattle.sc_grammar.proofs.StarsRead.{local-stars, fits-stars, reads-stars}
use Rattle.sc_grammar.proofs.Answer.{AtEnd}
use Rattle.sc_grammar.proofs.Parts.{some_token, in_limit}
use Rattle.sc_grammar.proofs.PrimaryRead.{gave-name}
use Rattle.sc_grammar.proofs.DeclaratorsRead.{IsDeclaratorAfter, ordinary_after, spread_after, declare, declarators_then, no_parenthesis, local-declarator_after, advances-one_more_declarator, fits-declarator_after, fits-more_declarators, reads-declarator_after, reads-more_declarators}
use Rattle.sc_grammar.proofs.FunctionsRead.{braced, IsFunctionAfter, function_parts, name_function, local-function_after, local-function_named, consumes-function_named, fits-function_after, fits-function_named, reads-function_after, reads-function_named}

-- what stands after the name of objects, where the stars, the position and the name are these
pub data IsObjectsAfter (d : ℕ) (ss : List Star) (p : Position) (x : ℕ) (a b : Rest) : Item → Type 0 where
  objects_parts : {c f : Rest} {s : Shape} {more : List Shape} →
      IsDeclaratorAfter d ss p x a c s → IsMoreDeclarators d c f more → Takes (Mark marks.Semicolon) d f b →
      IsObjectsAfter d ss p x a b (objects (s ∷ more))

no_function : {d x : ℕ} {ss : List Star} {p : Position} {a b : Rest} {y : Item} → IsObjectsAfter d ss p x a b y → Without (is_mark marks.OpenRound) a
no_function (objects_parts h hs t) = no_parenthesis h (declarators_then _ refl hs (without _ t refl))

sample-after_int : (d : ℕ) (ss : List Star) (n : ℕ) → Sample (After (IsStars d) ss (After (Was (is_word words.Int) d) tt (IsItem d))) n
sample-after_int d ss n = record {
  more = some_token (Name 0) d ∷ some_token (Mark marks.Semicolon) d ∷ [];
  value = objects (record { name = 0; ty = int_with ss; spread = false; left = []; right = []; at = n + 1; line = 0 } ∷ []);
  quiet = refl;
  holds = λ tail w a st k v. objects_item (was-word _ d k a tt v) (ordinary st takes no_more_bounds) no_more_declarators takes;
}

-- some token stands where an item begins
item_first : {d : ℕ} {a b : Rest} {y : Item} (k : TokenKind → Bool) → ((kind : TokenKind) → k kind ≡ true) → IsItem d a b y → stands_before k a ≡ true
item_first k every (objects_item t h hs u) = with_token k t (every _)
item_first k every (function_item no_result x o ps u h) = with_token k x (every _)
item_first k every (function_item (int_result t st) x o ps u h) = with_token k t (every _)
item_first k every (function_item (void_result t) x o ps u h) = with_token k t (every _)

at_end : (k : TokenKind → Bool) (a : Rest) → AtEnd a → Without k a
at_end k (rest n us) e = ap (begins_by k) e

module _ (limit levels d : ℕ) (e : d + levels ≡ limit) (hb : Exact limit (braced levels) (IsBlock d) (λ ss b. Unit {0})) where
  local-objects_after : (ss : List Star) (p : Position) (x : ℕ) → Local (objects_after levels ss p x)
  unfolding objects_after
  local-objects_after ss p x =
      local-bind (local-declarator_after limit levels d e ss p x) (λ s.
      local-bind (local-many (advances-one_more_declarator limit levels d e)) (λ more. local-bind (local-must _) (λ u. local-pure _)))

  local-after_name : (ss : List Star) (p : Position) (x : ℕ) → Local (if_taken (is_mark marks.OpenRound) (function_after levels (int_with ss) p x) (objects_after levels ss p x))
  local-after_name ss p x = local-if_taken _ (local-function_after limit levels d e hb (int_with ss) p x) (local-objects_after ss p x)

  local-after_int : Local (after_int levels)
  unfolding after_int
  local-after_int = local-bind local-stars (λ ss. local-bind local-here (λ p. local-bind (local-must _) (λ x. local-after_name ss p x)))

  local-item : Local (item levels)
  unfolding item
  local-item = local-if_taken _ local-after_int (local-if_taken _ (local-function_named limit levels d e hb _) (local-function_named limit levels d e hb _))

  consumes-item : Consumes (item levels)
  unfolding item
  consumes-item =
      consumes-if_taken _ local-after_int (
      consumes-if_taken _ (local-function_named limit levels d e hb _) (consumes-function_named limit levels d e hb _))

  pub advances-one_more_item : Advances (one_more_item levels)
  unfolding one_more_item
  advances-one_more_item =
      advances-if_next _ (local-bind local-item (λ x. local-pure _)) (λ ts n x m i. some_item ts n (Some x) m i)
    where
      some_item : Consumes (bind (item levels) (λ x. pure (Some x)))
      some_item = consumes-first consumes-item (λ x. local-pure (Some x))

  local-items : Local (items levels)
  unfolding items
  local-items = local-bind local-item (λ x. local-bind (local-many advances-one_more_item) (λ xs. local-pure _))

  consumes-items : Consumes (items levels)
  unfolding items
  consumes-items = consumes-first consumes-item (λ x. local-bind (local-many advances-one_more_item) (λ xs. local-pure _))

  fits-objects_after : (ss : List Star) (p : Position) (x : ℕ) → Fits (objects_after levels ss p x) (IsObjectsAfter d ss p x)
  unfolding objects_after
  fits-objects_after ss p x =
      fits-bind (fits-declarator_after limit levels d e ss p x) (λ s.
      fits-bind (fits-more_declarators limit levels d e) (λ more. fits-bind (fits-mark _ d) (λ u.
      fits-pure _ (λ g f t c hs a h. objects_parts h hs t))))

  object_item : {x : ℕ} {k a b c f : Rest} {ss : List Star} {p : Position} {y : Item} →
      Takes (Word words.Int) d k a → IsStars d a b ss → Takes (Name x) d b c → Matches p b → IsObjectsAfter d ss p x c f y → IsItem d k f y
  object_item t st n m (objects_parts h hs u) = objects_item t (declare st n m h) hs u

  fits-after_int : Fits (after_int levels) (After (Was (is_word words.Int) d) tt (IsItem d))
  unfolding after_int
  fits-after_int =
      fits-bind (fits-stars d) (λ ss.
      fits-here (sample-after_int d ss)
      (never_idle (After (IsStars d) ss (After (Was (is_word words.Int) d) tt (IsItem d))) (λ p. consumes-first (consumes-must _) (λ x. local-after_name ss p x)))
      (λ p. fits-bind (fits-must name_in d (Name 0) 0 refl refl) (λ x.
      fits-if_taken _ d
      (fits-wider (λ f i y h c o b g m a st k w. name_function (int_result (was-word _ d k a tt w) st) (gave-name d x b c g) (was-mark _ d c f tt o) m h)
      (fits-function_after limit levels d e hb (int_with ss) p x))
      (fits-wider (λ c i y h b g m a st k w. object_item (was-word _ d k a tt w) st (gave-name d x b c g) m h)
      (fits-objects_after ss p x)))))

  fits-item : Fits (item levels) (IsItem d)
  unfolding item
  fits-item =
      fits-if_taken _ d fits-after_int (
      fits-if_taken _ d
      (fits-wider (λ b i y h a w. h a (void_result (was-word _ d a b tt w))) (fits-function_named limit levels d e hb (void_type levels)))
      (fits-wider (λ b i y h. h b no_result) (fits-function_named limit levels d e hb (int_with []))))

  fits-one_more_item : Fits (one_more_item levels) (OneMore (IsItem d))
  unfolding one_more_item
  fits-one_more_item = fits-if_next _ (fits-bind fits-item (λ x. fits-pure _ (λ b a h. h))) (fits-pure None (λ a. refl))

  fits-more_items : Fits (many (one_more_item levels)) (IsMoreItems d)
  fits-more_items =
      fits-many (IsItem d) (IsMoreItems d) (λ a. no_more_items) (λ a b c x xs h hs. one_more h hs) (one_more_item levels) fits-one_more_item

  fits-items : Fits (items levels) (IsItems d)
  unfolding items
  fits-items = fits-bind fits-item (λ x. fits-bind fits-more_items (λ xs. fits-pure _ (λ c b hs a h. all_items h hs)))

  reads-objects_after : (ts : List Token) (ss : List Star) (p : Position) (x : ℕ) {a b : Rest} {y : Item} → IsObjectsAfter d ss p x a b y → Stands ts a →
      Reads limit ts a b y (objects_after levels ss p x)
  unfolding objects_after
  reads-objects_after ts ss p x (objects_parts {c = c} {f = f} {more = more} h hs t) s =
      reads-bind limit ts _ (reads-declarator_after limit levels d e ts ss p x h s (declarators_then _ refl hs (without _ t refl))) (λ r.
      reads-bind limit ts _ (reads-more_declarators limit levels d e ts c f more hs r (without _ t refl) (without _ t refl)) (λ q.
      reads-mark limit ts _ _ t (in_limit limit levels d e) q (λ v. reads-pure limit ts v)))

  reads-int_objects : (ts : List Token) {x : ℕ} {a b c f : Rest} {ss : List Star} {y : Item} → IsStars d a b ss → Takes (Name x) d b c →
      IsObjectsAfter d ss (place_at b) x c f y → Stands ts a → Reads limit ts a f y (after_int levels)
  unfolding after_int
  reads-int_objects ts {x = x} {a = a} {b = b} {ss = ss} st n h s =
      reads-bind limit ts _ (reads-stars limit d (in_limit limit levels d e) ts a b ss st s (without _ n refl)) (λ r.
      reads-here limit ts _ r (
      reads-must limit ts name_in _ refl n (in_limit limit levels d e) r (λ q.
      reads-not_taken limit ts _ _ (no_function h) q (reads-objects_after ts ss (place_at b) x h q))))

  reads-int_function : (ts : List Token) {x : ℕ} {a b c f g : Rest} {ss : List Star} {y : Item} → IsStars d a b ss → Takes (Name x) d b c → Takes (Mark marks.OpenRound) d c f →
      IsFunctionAfter d (int_with ss) (place_at b) x f g y → Stands ts a → Reads limit ts a g y (after_int levels)
  unfolding after_int
  reads-int_function ts {x = x} {a = a} {b = b} {ss = ss} st n o h s =
      reads-bind limit ts _ (reads-stars limit d (in_limit limit levels d e) ts a b ss st s (without _ n refl)) (λ r.
      reads-here limit ts _ r (
      reads-must limit ts name_in _ refl n (in_limit limit levels d e) r (λ q.
      reads-taken_mark limit ts _ _ o (in_limit limit levels d e) q (λ v. reads-function_after limit levels d e hb ts (int_with ss) (place_at b) x h v))))

  reads-item : (ts : List Token) (a b : Rest) (y : Item) → IsItem d a b y → Stands ts a → Reads limit ts a b y (item levels)
  unfolding item
  reads-item ts a b y (objects_item t (ordinary st n bs) hs u) s =
      reads-taken_word limit ts _ _ t (in_limit limit levels d e) s (λ r. reads-int_objects ts st n (objects_parts (ordinary_after bs) hs u) r)
  reads-item ts a b y (objects_item t (spread st n bs v right) hs u) s =
      reads-taken_word limit ts _ _ t (in_limit limit levels d e) s (λ r. reads-int_objects ts st n (objects_parts (spread_after bs v right) hs u) r)
  reads-item ts a b y (function_item no_result n o ps u h) s =
      reads-not_taken limit ts _ _ (without _ n refl) s (
      reads-not_taken limit ts _ _ (without _ n refl) s (
      reads-function_named limit levels d e hb ts (int_with []) n o (function_parts ps u h) s))
  reads-item ts a b y (function_item (int_result t st) n o ps u h) s =
      reads-taken_word limit ts _ _ t (in_limit limit levels d e) s (λ r. reads-int_function ts st n o (function_parts ps u h) r)
  reads-item ts a b y (function_item (void_result t) n o ps u h) s =
      reads-not_taken limit ts _ _ (without _ t refl) s (
      reads-taken_word limit ts _ _ t (in_limit limit levels d e) s (λ r. reads-function_named limit levels d e hb ts (void_type levels) n o (function_parts ps u h) r))

  pub exact-item : Exact limit (item levels) (IsItem d) (λ y b. Unit {0})
  exact-item = record { local = local-item; consumes = consumes-item; fits = fits-item; reads = λ ts a b y h s w. reads-item ts a b y h s }

  reads-one_more_item : (ts : List Token) (a b : Rest) (y : Item) → IsItem d a b y → Stands ts a → Reads limit ts a b (Some y) (one_more_item levels)
  unfolding one_more_item
  reads-one_more_item ts a b y h s =
      reads-next limit ts _ _ (item_first _ (λ k. refl) h) s (reads-bind limit ts _ (reads-item ts a b y h s) (λ r. reads-pure limit ts r))

  reads-no_item : (ts : List Token) (a : Rest) → Stands ts a → AtEnd a → Reads limit ts a a None (one_more_item levels)
  unfolding one_more_item
  reads-no_item ts a s w = reads-not_next limit ts _ _ (at_end _ a w) s (reads-pure limit ts s)

  reads-more_items : (ts : List Token) (a b : Rest) (ys : List Item) → IsMoreItems d a b ys → Stands ts a → AtEnd b → Reads limit ts a b ys (many (one_more_item levels))
  reads-more_items ts a b ys no_more_items s w = reads-none limit ts (one_more_item levels) advances-one_more_item s (reads-no_item ts a s w)
  reads-more_items ts a b ys (one_more {b = c} {x = y} {xs = more} h hs) s w =
      reads-more limit ts (one_more_item levels) advances-one_more_item (reads-one_more_item ts a c y h s) (λ r. reads-more_items ts c b more hs r w)

  reads-items : (ts : List Token) (a b : Rest) (ys : List Item) → IsItems d a b ys → Stands ts a → AtEnd b → Reads limit ts a b ys (items levels)
  unfolding items
  reads-items ts a b ys (all_items {b = c} {x = y} {xs = more} h hs) s w =
      reads-bind limit ts _ (reads-item ts a c y h s) (λ r. reads-bind limit ts _ (reads-more_items ts c b more hs r w) (λ q. reads-pure limit ts q))

  -- items are read up to the end of the tokens
  pub exact-items : Exact limit (items levels) (IsItems d) (λ xs b. AtEnd b)
  exact-items = record { local = local-items; consumes = consumes-items; fits = fits-items; reads = λ ts a b ys h s w. reads-items ts a b ys h s w }
