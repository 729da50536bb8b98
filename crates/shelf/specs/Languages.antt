-- The regular language of an expression over symbols, as the textbooks define it.
use Rattle.std.specs.Prelude.{◌≡◌, ℕ, ◌≤◌, Bool, true, ◌⊎◌, List, [], ◌∷◌, ◌++◌, length}
use Rattle.pattern.specs.Expressions.{Expr, test, seq, either, star, plus, opt, tag}
use Rattle.shelf.specs.Matching.{Reads, stretch}

-- a string of one language and then one of another
pub record Concatenation {S : Type 0} (L M : List S → Type 0) (string : List S) : Type 0 where
  pub front : List S
  pub back : List S
  pub is : string ≡ front ++ back
  pub in_front : L front
  pub in_back : M back

-- none or more strings of a language, one after another
pub data Closure {S : Type 0} (L : List S → Type 0) : List S → Type 0 where
  none : Closure L []
  more : {u v : List S} → L u → Closure L v → Closure L (u ++ v)

-- a string of one symbol, which the test admits
pub record OneSymbol {S : Type 0} (admits : ℕ → S → Bool) (p : ℕ) (string : List S) : Type 0 where
  pub symbol : S
  pub is : string ≡ symbol ∷ []
  pub admitted : admits p symbol ≡ true

-- the language of an expression: the strings of symbols that belong to it
abbrev pub Language : {S : Type 0} → (ℕ → S → Bool) → Expr → List S → Type 0
Language admits (test p) string = OneSymbol admits p string
Language admits (seq e f) string = Concatenation (Language admits e) (Language admits f) string
Language admits (either e f) string = Language admits e string ⊎ Language admits f string
Language admits (star e) string = Closure (Language admits e) string
Language admits (plus e) string = Concatenation (Language admits e) (Closure (Language admits e)) string
Language admits (opt e) string = (string ≡ []) ⊎ Language admits e string
Language admits (tag n e) string = Language admits e string

-- a stretch of the line reads exactly when its symbols belong to the language
pub record ReadsByLanguage {S : Type 0} (admits : ℕ → S → Bool) (e : Expr) (line : List S) : Type 0 where
  pub belongs : (l r : ℕ) → Reads admits e line l r → Language admits e (stretch line l r)
  pub reads : (l r : ℕ) → l ≤ r → r ≤ length line → Language admits e (stretch line l r) → Reads admits e line l r
