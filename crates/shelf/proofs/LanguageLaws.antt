-- What reads by a word is what belongs to the language.
use Rattle.std.proofs.Common.{◌≡◌, ℕ, Bool, List, [], ◌∷◌, ◌++◌, sym, refl, ap, subst, inl, inr}
use Rattle.pattern.specs.Expressions.{Expr, test, seq, either, star, plus, opt, tag, Word}
use Rattle.shelf.specs.Matching.{Admitted, stretch}
use Rattle.shelf.specs.Languages.{Closure, none, more, OneSymbol, Language, ReadsByLanguage}

module _ {S : Type 0} (admits : ℕ → S → Bool) where
  -- a word that is cut in two cuts its string in two
  record Cut (u v : List ℕ) (string : List S) : Type 0 where
    front : List S
    back : List S
    is : string ≡ front ++ back
    on_front : Admitted admits u front
    on_back : Admitted admits v back

  cut : (u v : List ℕ) (string : List S) → Admitted admits (u ++ v) string → Cut u v string
  cut [] v string h = record { front = []; back = string; is = refl; on_front = tt; on_back = h }
  cut (p ∷ u) v [] h = absurd h
  cut (p ∷ u) v (s ∷ string) h =
      let c = cut u v string h.1 in
      record { front = s ∷ c.front; back = c.back; is = ap (λ l. s ∷ l) c.is; on_front = (h.0, c.on_front); on_back = c.on_back }

  joined : (u v : List ℕ) (a b : List S) → Admitted admits u a → Admitted admits v b → Admitted admits (u ++ v) (a ++ b)
  joined [] v [] b h k = k
  joined [] v (s ∷ a) b h k = absurd h
  joined (p ∷ u) v [] b h k = absurd h
  joined (p ∷ u) v (s ∷ a) b h k = (h.0, joined u v a b h.1 k)

  single : (p : ℕ) (string : List S) → Admitted admits (p ∷ []) string → OneSymbol admits p string
  single p [] h = absurd h
  single p (s ∷ []) h = record { symbol = s; is = refl; admitted = h.0 }
  single p (s ∷ t ∷ string) h = absurd h.1

  blank : (string : List S) → Admitted admits [] string → string ≡ []
  blank [] h = refl
  blank (s ∷ string) h = absurd h

  belongs : {e : Expr} {w : List ℕ} → Word e w → (string : List S) → Admitted admits w string → Language admits e string
  belongs (Word.one {p = p}) string h = single p string h
  belongs (Word.join {u = u} {v = v} x y) string h =
      let c = cut u v string h in
      record { front = c.front; back = c.back; is = c.is; in_front = belongs x c.front c.on_front; in_back = belongs y c.back c.on_back }
  belongs (Word.left x) string h = inl (belongs x string h)
  belongs (Word.right x) string h = inr (belongs x string h)
  belongs (Word.none {e = e}) string h = subst (Closure (Language admits e)) (sym (blank string h)) none
  belongs (Word.more {e = e} {u = u} {v = v} x y) string h =
      let c = cut u v string h in
      subst (Closure (Language admits e)) (sym c.is) (more (belongs x c.front c.on_front) (belongs y c.back c.on_back))
  belongs (Word.some {u = u} {v = v} x y) string h =
      let c = cut u v string h in
      record { front = c.front; back = c.back; is = c.is; in_front = belongs x c.front c.on_front; in_back = belongs y c.back c.on_back }
  belongs Word.skipped string h = inl (blank string h)
  belongs (Word.taken x) string h = inr (belongs x string h)
  belongs (Word.tagged x) string h = belongs x string h

  -- a word for the string
  record Spelling (e : Expr) (string : List S) : Type 0 where
    word : List ℕ
    is_word : Word e word
    admitted : Admitted admits word string

  closed : (e : Expr) → ((string : List S) → Language admits e string → Spelling e string) → (string : List S) → Closure (Language admits e) string → Spelling (star e) string
  closed e f string none = record { word = []; is_word = Word.none; admitted = tt }
  closed e f string (more {u = u} {v = v} x y) =
      let a = f u x in
      let b = closed e f v y in
      record { word = a.word ++ b.word; is_word = Word.more a.is_word b.is_word; admitted = joined a.word b.word u v a.admitted b.admitted }

  spells : (e : Expr) (string : List S) → Language admits e string → Spelling e string
  spells (test p) string h = record { word = p ∷ []; is_word = Word.one; admitted = subst (Admitted admits (p ∷ [])) (sym h.is) (h.admitted, tt) }
  spells (seq e f) string h =
      let a = spells e h.front h.in_front in
      let b = spells f h.back h.in_back in
      record { word = a.word ++ b.word; is_word = Word.join a.is_word b.is_word; admitted = subst (Admitted admits (a.word ++ b.word)) (sym h.is) (joined a.word b.word h.front h.back a.admitted b.admitted) }
  spells (either e f) string (inl h) = let a = spells e string h in record { word = a.word; is_word = Word.left a.is_word; admitted = a.admitted }
  spells (either e f) string (inr h) = let a = spells f string h in record { word = a.word; is_word = Word.right a.is_word; admitted = a.admitted }
  spells (star e) string h = closed e (spells e) string h
  spells (plus e) string h =
      let a = spells e h.front h.in_front in
      let b = closed e (spells e) h.back h.in_back in
      record { word = a.word ++ b.word; is_word = Word.some a.is_word b.is_word; admitted = subst (Admitted admits (a.word ++ b.word)) (sym h.is) (joined a.word b.word h.front h.back a.admitted b.admitted) }
  spells (opt e) string (inl h) = record { word = []; is_word = Word.skipped; admitted = subst (Admitted admits []) (sym h) tt }
  spells (opt e) string (inr h) = let a = spells e string h in record { word = a.word; is_word = Word.taken a.is_word; admitted = a.admitted }
  spells (tag n e) string h = let a = spells e string h in record { word = a.word; is_word = Word.tagged a.is_word; admitted = a.admitted }

  pub by_language : (e : Expr) (line : List S) → ReadsByLanguage admits e line
  by_language e line =
      record {
        belongs = λ l r x. belongs x.is_word (stretch line l r) x.admitted;
        reads = λ l r o w h. let a = spells e (stretch line l r) h in record { ordered = o; within = w; word = a.word; is_word = a.is_word; admitted = a.admitted };
      }
