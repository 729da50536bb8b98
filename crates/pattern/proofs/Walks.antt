-- A word is a walk: from a test that may begin one, over tests that may follow one another, to a test that may end one.
use Rattle.std.proofs.Common.{◌≡◌, ℕ, ◌+◌, List, [], ◌∷◌, ◌++◌, append-nil}
use Rattle.pattern.specs.Expressions.{Expr, seq, either, star, plus, opt, tag, test, Word}

-- an expression with the empty word
pub data Null : Expr → Type 0 where
  join : {e f : Expr} → Null e → Null f → Null (seq e f)
  left : {e f : Expr} → Null e → Null (either e f)
  right : {e f : Expr} → Null f → Null (either e f)
  in_star : {e : Expr} → Null (star e)
  in_plus : {e : Expr} → Null e → Null (plus e)
  in_opt : {e : Expr} → Null (opt e)
  in_tag : {k : ℕ} {e : Expr} → Null e → Null (tag k e)

-- a test with which a word begins
pub data First : Expr → ℕ → Type 0 where
  one : {p : ℕ} → First (test p) p
  seq_left : {e f : Expr} {p : ℕ} → First e p → First (seq e f) p
  seq_right : {e f : Expr} {p : ℕ} → Null e → First f p → First (seq e f) p
  left : {e f : Expr} {p : ℕ} → First e p → First (either e f) p
  right : {e f : Expr} {p : ℕ} → First f p → First (either e f) p
  in_star : {e : Expr} {p : ℕ} → First e p → First (star e) p
  in_plus : {e : Expr} {p : ℕ} → First e p → First (plus e) p
  in_opt : {e : Expr} {p : ℕ} → First e p → First (opt e) p
  in_tag : {k : ℕ} {e : Expr} {p : ℕ} → First e p → First (tag k e) p

-- a test with which a word ends
pub data Last : Expr → ℕ → Type 0 where
  one : {p : ℕ} → Last (test p) p
  seq_left : {e f : Expr} {p : ℕ} → Last e p → Null f → Last (seq e f) p
  seq_right : {e f : Expr} {p : ℕ} → Last f p → Last (seq e f) p
  left : {e f : Expr} {p : ℕ} → Last e p → Last (either e f) p
  right : {e f : Expr} {p : ℕ} → Last f p → Last (either e f) p
  in_star : {e : Expr} {p : ℕ} → Last e p → Last (star e) p
  in_plus : {e : Expr} {p : ℕ} → Last e p → Last (plus e) p
  in_opt : {e : Expr} {p : ℕ} → Last e p → Last (opt e) p
  in_tag : {k : ℕ} {e : Expr} {p : ℕ} → Last e p → Last (tag k e) p

-- two tests that may stand side by side in a word
pub data Follow : Expr → ℕ → ℕ → Type 0 where
  seq_left : {e f : Expr} {p q : ℕ} → Follow e p q → Follow (seq e f) p q
  seq_right : {e f : Expr} {p q : ℕ} → Follow f p q → Follow (seq e f) p q
  seq_over : {e f : Expr} {p q : ℕ} → Last e p → First f q → Follow (seq e f) p q
  left : {e f : Expr} {p q : ℕ} → Follow e p q → Follow (either e f) p q
  right : {e f : Expr} {p q : ℕ} → Follow f p q → Follow (either e f) p q
  in_star : {e : Expr} {p q : ℕ} → Follow e p q → Follow (star e) p q
  star_back : {e : Expr} {p q : ℕ} → Last e p → First e q → Follow (star e) p q
  in_plus : {e : Expr} {p q : ℕ} → Follow e p q → Follow (plus e) p q
  plus_back : {e : Expr} {p q : ℕ} → Last e p → First e q → Follow (plus e) p q
  in_opt : {e : Expr} {p q : ℕ} → Follow e p q → Follow (opt e) p q
  in_tag : {k : ℕ} {e : Expr} {p q : ℕ} → Follow e p q → Follow (tag k e) p q

-- from the test p the tests of a list follow one another to a last one
abbrev pub Path : Expr → ℕ → List ℕ → Type 0
Path e p [] = Last e p
Path e p (q ∷ w) = Follow e p q × Path e q w

-- a walk over an expression's tests
abbrev pub Walk : Expr → List ℕ → Type 0
Walk e [] = Null e
Walk e (p ∷ w) = First e p × Path e p w

-- the tests of an expression are numbered from lo up to hi, each once, from left to right
abbrev pub Ranged : Expr → ℕ → ℕ → Type 0
Ranged (test p) lo hi = (p ≡ lo) × (hi ≡ lo + 1)
Ranged (seq e f) lo hi = (m : ℕ) × Ranged e lo m × Ranged f m hi
Ranged (either e f) lo hi = (m : ℕ) × Ranged e lo m × Ranged f m hi
Ranged (star e) lo hi = Ranged e lo hi
Ranged (plus e) lo hi = Ranged e lo hi
Ranged (opt e) lo hi = Ranged e lo hi
Ranged (tag k e) lo hi = Ranged e lo hi

-- what holds of each part of a path holds of it in a larger pattern
pub path_in : {e g : Expr} → ((p q : ℕ) → Follow e p q → Follow g p q) → ((p : ℕ) → Last e p → Last g p) → (p : ℕ) (w : List ℕ) → Path e p w → Path g p w
path_in f l p [] h = l p h
path_in f l p (q ∷ w) h = (f p q h.0, path_in f l q w h.1)

walk_in : {e g : Expr} → (Null e → Null g) → ((p : ℕ) → First e p → First g p) → ((p q : ℕ) → Follow e p q → Follow g p q) → ((p : ℕ) → Last e p → Last g p) → (w : List ℕ) → Walk e w → Walk g w
walk_in n b f l [] h = n h
walk_in n b f l (p ∷ w) h = (b p h.0, path_in f l p w h.1)

-- a path, and a path behind it
path_join : {e e' g : Expr} → ((p q : ℕ) → Follow e p q → Follow g p q) → ((p q : ℕ) → Last e p → First e' q → Follow g p q) → (p : ℕ) (u : List ℕ) (q : ℕ) (v : List ℕ) → Path e p u → First e' q → Path g q v → Path g p (u ++ (q ∷ v))
path_join f over p [] q v h b r = (over p q h b, r)
path_join f over p (x ∷ u) q v h b r = (f p x h.0, path_join f over x u q v h.1 b r)

seq_walk : (e f : Expr) (u v : List ℕ) → Walk e u → Walk f v → Walk (seq e f) (u ++ v)
seq_walk e f [] [] h k = Null.join h k
seq_walk e f [] (q ∷ v) h k = (First.seq_right h k.0, path_in (λ _ _. Follow.seq_right) (λ _. Last.seq_right) q v k.1)
seq_walk e f (p ∷ u) [] h k = (First.seq_left h.0, rw (append-nil u) (path_in (λ _ _. Follow.seq_left) (λ _ l. Last.seq_left l k) p u h.1))
seq_walk e f (p ∷ u) (q ∷ v) h k = (First.seq_left h.0, path_join (λ _ _. Follow.seq_left) (λ _ _. Follow.seq_over) p u q v h.1 k.0 (path_in (λ _ _. Follow.seq_right) (λ _. Last.seq_right) q v k.1))

star_over : {e : Expr} (p q : ℕ) → Last e p → First (star e) q → Follow (star e) p q
star_over p q l (First.in_star b) = Follow.star_back l b

star_walk : (e : Expr) (u v : List ℕ) → Walk e u → Walk (star e) v → Walk (star e) (u ++ v)
star_walk e [] v h k = k
star_walk e (p ∷ u) [] h k = (First.in_star h.0, rw (append-nil u) (path_in (λ _ _. Follow.in_star) (λ _. Last.in_star) p u h.1))
star_walk e (p ∷ u) (q ∷ v) h k = (First.in_star h.0, path_join (λ _ _. Follow.in_star) star_over p u q v h.1 k.0 k.1)

star_plus_first : {e : Expr} (p : ℕ) → First (star e) p → First (plus e) p
star_plus_first p (First.in_star b) = First.in_plus b

star_plus_follow : {e : Expr} (p q : ℕ) → Follow (star e) p q → Follow (plus e) p q
star_plus_follow p q (Follow.in_star f) = Follow.in_plus f
star_plus_follow p q (Follow.star_back l b) = Follow.plus_back l b

star_plus_last : {e : Expr} (p : ℕ) → Last (star e) p → Last (plus e) p
star_plus_last p (Last.in_star l) = Last.in_plus l

plus_walk : (e : Expr) (u v : List ℕ) → Walk e u → Walk (star e) v → Walk (plus e) (u ++ v)
plus_walk e [] [] h k = Null.in_plus h
plus_walk e [] (q ∷ v) h k = (star_plus_first q k.0, path_in star_plus_follow star_plus_last q v k.1)
plus_walk e (p ∷ u) v h k = let s = star_walk e (p ∷ u) v h k in (star_plus_first p s.0, path_in star_plus_follow star_plus_last p (u ++ v) s.1)

pub word_walk : {e : Expr} {w : List ℕ} → Word e w → Walk e w
word_walk Word.one = (First.one, Last.one)
word_walk (Word.join {e = e} {f = f} {u = u} {v = v} x y) = seq_walk e f u v (word_walk x) (word_walk y)
word_walk (Word.left {u = u} x) = walk_in Null.left (λ _. First.left) (λ _ _. Follow.left) (λ _. Last.left) u (word_walk x)
word_walk (Word.right {u = u} x) = walk_in Null.right (λ _. First.right) (λ _ _. Follow.right) (λ _. Last.right) u (word_walk x)
word_walk Word.none = Null.in_star
word_walk (Word.more {e = e} {u = u} {v = v} x y) = star_walk e u v (word_walk x) (word_walk y)
word_walk (Word.some {e = e} {u = u} {v = v} x y) = plus_walk e u v (word_walk x) (word_walk y)
word_walk Word.skipped = Null.in_opt
word_walk (Word.taken {u = u} x) = walk_in (λ _. Null.in_opt) (λ _. First.in_opt) (λ _ _. Follow.in_opt) (λ _. Last.in_opt) u (word_walk x)
word_walk (Word.tagged {u = u} x) = walk_in Null.in_tag (λ _. First.in_tag) (λ _ _. Follow.in_tag) (λ _. Last.in_tag) u (word_walk x)
