-- Stories of code beside that of its source, by the number of instructions.
use Rattle.std.proofs.Common.{◌≡◌, ◌≢◌, inl, inr, ℕ, zero, suc, ◌≤◌, List, [], ◌∷◌, ◌++◌, Bool, true, false, if◌then◌else◌, refl, sym, ap, ◌∙◌, subst, arith}
use Rattle.resumption.specs.Resumption.{Short, after_event, after_text}
use Rattle.node_emit.specs.Oracles.{Shown, Story, at, nothing_more, at_point}
use Rattle.node_emit.specs.Law.{IsFront, Agree, IsBegun}

-- the one is shown in the other, with enough instructions
abbrev pub IsShown : (told : Story) → (played : ℕ → Story) → Type 0
IsShown told played =
    (enough : ℕ) × ((many : ℕ) → enough ≤ many → IsFront told.events (played many).events × IsFront told.text (played many).text)

pub record Shows (told : Story) (played : ℕ → Story) : Type 0 where
  pub whole : told.end ≢ Short → (enough : ℕ) × ((many : ℕ) → enough ≤ many → played many ≡ told)
  pub begins : (many : ℕ) → told.end ≢ Short → IsBegun (played many) told
  pub agree : (many : ℕ) → Agree (played many).events told.events
  pub texts_agree : (many : ℕ) → Agree (played many).text told.text
  pub reaches : IsShown told played

front_all : {A : Type 0} (xs : List A) → IsFront xs xs
front_all xs = (([]), sym (append_nil xs))
  where
    append_nil : {A : Type 0} (xs : List A) → xs ++ [] ≡ xs
    append_nil [] = refl
    append_nil (x ∷ xs) = ap (λ l. x ∷ l) (append_nil xs)

front_cons : {A : Type 0} (x : A) (xs ys : List A) → IsFront xs ys → IsFront (x ∷ xs) (x ∷ ys)
front_cons x xs ys h = (h.0, ap (λ l. x ∷ l) h.1)

front_on : {A : Type 0} (t xs ys : List A) → IsFront xs ys → IsFront (t ++ xs) (t ++ ys)
front_on [] xs ys h = h
front_on (x ∷ t) xs ys h = front_cons x (t ++ xs) (t ++ ys) (front_on t xs ys h)

agree_cons : {A : Type 0} (x : A) (xs ys : List A) → Agree xs ys → Agree (x ∷ xs) (x ∷ ys)
agree_cons x xs ys (inl h) = inl (front_cons x xs ys h)
agree_cons x xs ys (inr h) = inr (front_cons x ys xs h)

agree_on : {A : Type 0} (t xs ys : List A) → Agree xs ys → Agree (t ++ xs) (t ++ ys)
agree_on t xs ys (inl h) = inl (front_on t xs ys h)
agree_on t xs ys (inr h) = inr (front_on t ys xs h)

pub shows_event : (e : Shown) (told : Story) (played : ℕ → Story) → Shows told played → Shows (after_event e told) (λ many. after_event e (played many))
shows_event e told played h = record {
  whole = λ n. let w = h.whole n in (w.0, λ many le. ap (after_event e) (w.1 many le));
  begins = λ many n. let b = h.begins many n in record {
    events = front_cons e (played many).events told.events b.events;
    text = b.text;
    over = λ ended. ap (after_event e) (b.over ended);
  };
  agree = λ many. agree_cons e (played many).events told.events (h.agree many);
  texts_agree = h.texts_agree;
  reaches = let r = h.reaches in (r.0, λ many le. let f = r.1 many le in (front_cons e told.events (played many).events f.0, f.1));
}

pub shows_text : (t : List ℕ) (told : Story) (played : ℕ → Story) → Shows told played → Shows (after_text t told) (λ many. after_text t (played many))
shows_text t told played h = record {
  whole = λ n. let w = h.whole n in (w.0, λ many le. ap (after_text t) (w.1 many le));
  begins = λ many n. let b = h.begins many n in record {
    events = b.events;
    text = front_on t (played many).text told.text b.text;
    over = λ ended. ap (after_text t) (b.over ended);
  };
  agree = h.agree;
  texts_agree = λ many. agree_on t (played many).text told.text (h.texts_agree many);
  reaches = let r = h.reaches in (r.0, λ many le. let f = r.1 many le in (f.0, front_on t told.text (played many).text f.1));
}

pub shows_point : (empty : ℕ → Bool) (t : ℕ) (told : Story) (played : ℕ → Story) → Shows told played
    → Shows (at_point empty t told) (λ many. at_point empty t (played many))
shows_point empty t told played h = go (empty t)
  where
    go : (b : Bool) → Shows (if b then told else after_event (at t) told) (λ many. if b then played many else after_event (at t) (played many))
    go true = h
    go false = shows_event (at t) told played h

pub shows_end : (told : Story) → Shows told (λ many. told)
shows_end told = record {
  whole = λ n. (0, λ many le. refl);
  begins = λ many n. record { events = front_all told.events; text = front_all told.text; over = λ ended. refl };
  agree = λ many. inl (front_all told.events);
  texts_agree = λ many. inl (front_all told.text);
  reaches = (0, λ many le. (front_all told.events, front_all told.text));
}

-- where the source's story stops short nothing more is known
pub shows_short : (played : ℕ → Story) → Shows nothing_more played
shows_short played = record {
  whole = λ n. absurd (n refl);
  begins = λ many n. absurd (n refl);
  agree = λ many. inr ((played many).events, refl);
  texts_agree = λ many. inr ((played many).text, refl);
  reaches = (0, λ many le. (((played many).events, refl), ((played many).text, refl)));
}

-- one instruction more
pub shows_later : (told : Story) (played next : ℕ → Story) → played 0 ≡ nothing_more → ((many : ℕ) → played (suc many) ≡ next many) → Shows told next → Shows told played
shows_later told played next first then_ h = record {
  whole = λ n. let w = h.whole n in (suc w.0, λ many le. by_number w.0 w.1 many le);
  begins = λ many n. begins_by n many;
  agree = agree_by;
  texts_agree = texts_by;
  reaches = let r = h.reaches in (suc r.0, λ many le. shown_by r.0 r.1 many le);
}
  where
    shown_by : (enough : ℕ) → ((many : ℕ) → enough ≤ many → IsFront told.events (next many).events × IsFront told.text (next many).text)
        → (many : ℕ) → suc enough ≤ many → IsFront told.events (played many).events × IsFront told.text (played many).text
    shown_by enough w zero le = absurd (omega (arith, le))
    shown_by enough w (suc many) le =
        subst (λ (s : Story). IsFront told.events s.events × IsFront told.text s.text) (sym (then_ many)) (w many (omega (arith, le)))

    by_number : (enough : ℕ) → ((many : ℕ) → enough ≤ many → next many ≡ told) → (many : ℕ) → suc enough ≤ many → played many ≡ told
    by_number enough w zero le = absurd (omega (arith, le))
    by_number enough w (suc many) le = then_ many ∙ w many (omega (arith, le))

    begins_by : told.end ≢ Short → (many : ℕ) → IsBegun (played many) told
    begins_by n zero = subst (λ s. IsBegun s told) (sym first) (record { events = (told.events, refl); text = (told.text, refl); over = λ ended. absurd (ended refl) })
    begins_by n (suc many) = subst (λ s. IsBegun s told) (sym (then_ many)) (h.begins many n)

    agree_by : (many : ℕ) → Agree (played many).events told.events
    agree_by zero = subst (λ (s : Story). Agree s.events told.events) (sym first) (inl (told.events, refl))
    agree_by (suc many) = subst (λ (s : Story). Agree s.events told.events) (sym (then_ many)) (h.agree many)

    texts_by : (many : ℕ) → Agree (played many).text told.text
    texts_by zero = subst (λ (s : Story). Agree s.text told.text) (sym first) (inl (told.text, refl))
    texts_by (suc many) = subst (λ (s : Story). Agree s.text told.text) (sym (then_ many)) (h.texts_agree many)

pub shows_as : (told told' : Story) (played played' : ℕ → Story) → told ≡ told' → ((many : ℕ) → played many ≡ played' many) → Shows told' played' → Shows told played
shows_as told told' played played' e f h =
    subst (λ t. Shows t played) (sym e) (record {
      whole = λ n. let w = h.whole n in (w.0, λ many le. f many ∙ w.1 many le);
      begins = λ many n. subst (λ s. IsBegun s told') (sym (f many)) (h.begins many n);
      agree = λ many. subst (λ (s : Story). Agree s.events told'.events) (sym (f many)) (h.agree many);
      texts_agree = λ many. subst (λ (s : Story). Agree s.text told'.text) (sym (f many)) (h.texts_agree many);
      reaches =
          let r = h.reaches in
          (r.0, λ many le. subst (λ (s : Story). IsFront told'.events s.events × IsFront told'.text s.text) (sym (f many)) (r.1 many le));
    })
