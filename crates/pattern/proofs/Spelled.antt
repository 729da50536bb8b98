-- A walk is a word, of an expression whose tests are numbered from left to right.
use Rattle.std.proofs.Common.{◌≡◌, ℕ, ◌<◌, ◌≤◌, List, [], ◌∷◌, ◌++◌, refl, ap, subst, arith}
use Rattle.pattern.specs.Expressions.{Expr, seq, either, star, plus, opt, tag, test, Word}
use Rattle.pattern.proofs.Walks.{Null, First, Last, Follow, Path, Walk, Ranged, path_in}

ranged_le : (e : Expr) (lo hi : ℕ) → Ranged e lo hi → lo ≤ hi
ranged_le (test p) lo hi r = omega arith
ranged_le (seq e f) lo hi r = let a = ranged_le e lo r.0 r.1 in let b = ranged_le f r.0 hi r.2 in omega arith
ranged_le (either e f) lo hi r = let a = ranged_le e lo r.0 r.1 in let b = ranged_le f r.0 hi r.2 in omega arith
ranged_le (star e) lo hi r = ranged_le e lo hi r
ranged_le (plus e) lo hi r = ranged_le e lo hi r
ranged_le (opt e) lo hi r = ranged_le e lo hi r
ranged_le (tag k e) lo hi r = ranged_le e lo hi r

pub in_first : {e : Expr} {p : ℕ} → First e p → (lo hi : ℕ) → Ranged e lo hi → (lo ≤ p) × (p < hi)
in_first First.one lo hi r = (omega arith, omega arith)
in_first (First.seq_left {f = f} x) lo hi r = let a = in_first x lo r.0 r.1 in let b = ranged_le f r.0 hi r.2 in (omega arith, omega arith)
in_first (First.seq_right {e = e} n x) lo hi r = let a = in_first x r.0 hi r.2 in let b = ranged_le e lo r.0 r.1 in (omega arith, omega arith)
in_first (First.left {f = f} x) lo hi r = let a = in_first x lo r.0 r.1 in let b = ranged_le f r.0 hi r.2 in (omega arith, omega arith)
in_first (First.right {e = e} x) lo hi r = let a = in_first x r.0 hi r.2 in let b = ranged_le e lo r.0 r.1 in (omega arith, omega arith)
in_first (First.in_star x) lo hi r = in_first x lo hi r
in_first (First.in_plus x) lo hi r = in_first x lo hi r
in_first (First.in_opt x) lo hi r = in_first x lo hi r
in_first (First.in_tag x) lo hi r = in_first x lo hi r

pub in_last : {e : Expr} {p : ℕ} → Last e p → (lo hi : ℕ) → Ranged e lo hi → (lo ≤ p) × (p < hi)
in_last Last.one lo hi r = (omega arith, omega arith)
in_last (Last.seq_left {f = f} x n) lo hi r = let a = in_last x lo r.0 r.1 in let b = ranged_le f r.0 hi r.2 in (omega arith, omega arith)
in_last (Last.seq_right {e = e} x) lo hi r = let a = in_last x r.0 hi r.2 in let b = ranged_le e lo r.0 r.1 in (omega arith, omega arith)
in_last (Last.left {f = f} x) lo hi r = let a = in_last x lo r.0 r.1 in let b = ranged_le f r.0 hi r.2 in (omega arith, omega arith)
in_last (Last.right {e = e} x) lo hi r = let a = in_last x r.0 hi r.2 in let b = ranged_le e lo r.0 r.1 in (omega arith, omega arith)
in_last (Last.in_star x) lo hi r = in_last x lo hi r
in_last (Last.in_plus x) lo hi r = in_last x lo hi r
in_last (Last.in_opt x) lo hi r = in_last x lo hi r
in_last (Last.in_tag x) lo hi r = in_last x lo hi r

pub in_follow : {e : Expr} {p q : ℕ} → Follow e p q → (lo hi : ℕ) → Ranged e lo hi → (lo ≤ p) × (p < hi) × (lo ≤ q) × (q < hi)
in_follow (Follow.seq_left {f = f} x) lo hi r = let a = in_follow x lo r.0 r.1 in let b = ranged_le f r.0 hi r.2 in (omega arith, omega arith, omega arith, omega arith)
in_follow (Follow.seq_right {e = e} x) lo hi r = let a = in_follow x r.0 hi r.2 in let b = ranged_le e lo r.0 r.1 in (omega arith, omega arith, omega arith, omega arith)
in_follow (Follow.seq_over l b) lo hi r = let x = in_last l lo r.0 r.1 in let y = in_first b r.0 hi r.2 in (omega arith, omega arith, omega arith, omega arith)
in_follow (Follow.left {f = f} x) lo hi r = let a = in_follow x lo r.0 r.1 in let b = ranged_le f r.0 hi r.2 in (omega arith, omega arith, omega arith, omega arith)
in_follow (Follow.right {e = e} x) lo hi r = let a = in_follow x r.0 hi r.2 in let b = ranged_le e lo r.0 r.1 in (omega arith, omega arith, omega arith, omega arith)
in_follow (Follow.in_star x) lo hi r = in_follow x lo hi r
in_follow (Follow.star_back l b) lo hi r = let x = in_last l lo hi r in let y = in_first b lo hi r in (omega arith, omega arith, omega arith, omega arith)
in_follow (Follow.in_plus x) lo hi r = in_follow x lo hi r
in_follow (Follow.plus_back l b) lo hi r = let x = in_last l lo hi r in let y = in_first b lo hi r in (omega arith, omega arith, omega arith, omega arith)
in_follow (Follow.in_opt x) lo hi r = in_follow x lo hi r
in_follow (Follow.in_tag x) lo hi r = in_follow x lo hi r

-- two expressions side by side: the tests of the first are below m, those of the second from m on
module _ (e f : Expr) (lo m hi : ℕ) (re : Ranged e lo m) (rf : Ranged f m hi) where
  last_right : (p : ℕ) → m ≤ p → Last (seq e f) p → Last f p
  last_right p h (Last.seq_left l n) = let a = in_last l lo m re in let z : ⊥ = omega arith in elim z [ ]
  last_right p h (Last.seq_right l) = l

  follow_right : (p q : ℕ) → m ≤ p → Follow (seq e f) p q → Follow f p q
  follow_right p q h (Follow.seq_left x) = let a = in_follow x lo m re in let z : ⊥ = omega arith in elim z [ ]
  follow_right p q h (Follow.seq_right x) = x
  follow_right p q h (Follow.seq_over l b) = let a = in_last l lo m re in let z : ⊥ = omega arith in elim z [ ]

  path_right : (p : ℕ) (w : List ℕ) → m ≤ p → Path (seq e f) p w → Path f p w
  path_right p [] h x = last_right p h x
  path_right p (q ∷ w) h x = let y = follow_right p q h x.0 in let a = in_follow y m hi rf in (y, path_right q w a.2 x.1)

  pub record Cut (p : ℕ) (w : List ℕ) : Type 0 where
    pub front : List ℕ
    pub back : List ℕ
    pub is : front ++ back ≡ w
    pub on_left : Path e p front
    pub on_right : Walk f back

  cut_end : (p : ℕ) → p < m → Last (seq e f) p → Cut p []
  cut_end p h (Last.seq_left l n) = record { front = []; back = []; is = refl; on_left = l; on_right = n }
  cut_end p h (Last.seq_right l) = let a = in_last l m hi rf in let z : ⊥ = omega arith in elim z [ ]

  cut_step : (p q : ℕ) (w : List ℕ) → p < m → Follow (seq e f) p q → (q < m → Cut q w) → Path (seq e f) q w → Cut p (q ∷ w)
  cut_step p q w h (Follow.seq_left x) ih r =
      let a = in_follow x lo m re in
      let c = ih a.3 in
      record { front = q ∷ c.front; back = c.back; is = ap (λ l. q ∷ l) c.is; on_left = (x, c.on_left); on_right = c.on_right }
  cut_step p q w h (Follow.seq_right x) ih r = let a = in_follow x m hi rf in let z : ⊥ = omega arith in elim z [ ]
  cut_step p q w h (Follow.seq_over l b) ih r =
      let a = in_first b m hi rf in
      record { front = []; back = q ∷ w; is = refl; on_left = l; on_right = (b, path_right q w a.0 r) }

  cut : (p : ℕ) (w : List ℕ) → p < m → Path (seq e f) p w → Cut p w
  cut p [] h x = cut_end p h x
  cut p (q ∷ w) h x = cut_step p q w h x.0 (λ g. cut q w g x.1) x.1

  seq_word : ((w : List ℕ) → Walk e w → Word e w) → ((w : List ℕ) → Walk f w → Word f w) → (w : List ℕ) → Walk (seq e f) w → Word (seq e f) w
  seq_word we wf [] x = none x
    where
      none : Null (seq e f) → Word (seq e f) []
      none (Null.join a b) = Word.join (we [] a) (wf [] b)
  seq_word we wf (p ∷ w) x = begin x.0
    where
      begin : First (seq e f) p → Word (seq e f) (p ∷ w)
      begin (First.seq_left b) =
          let a = in_first b lo m re in
          let c = cut p w a.1 x.1 in
          let P : List ℕ → Type 0 = λ l. Word (seq e f) (p ∷ l) in
          subst P c.is (Word.join (we (p ∷ c.front) (b, c.on_left)) (wf c.back c.on_right))
      begin (First.seq_right n b) = let a = in_first b m hi rf in Word.join (we [] n) (wf (p ∷ w) (b, path_right p w a.0 x.1))

  either_last_left : (p : ℕ) → p < m → Last (either e f) p → Last e p
  either_last_left p h (Last.left l) = l
  either_last_left p h (Last.right l) = let a = in_last l m hi rf in let z : ⊥ = omega arith in elim z [ ]

  either_last_right : (p : ℕ) → m ≤ p → Last (either e f) p → Last f p
  either_last_right p h (Last.left l) = let a = in_last l lo m re in let z : ⊥ = omega arith in elim z [ ]
  either_last_right p h (Last.right l) = l

  either_follow_left : (p q : ℕ) → p < m → Follow (either e f) p q → Follow e p q
  either_follow_left p q h (Follow.left x) = x
  either_follow_left p q h (Follow.right x) = let a = in_follow x m hi rf in let z : ⊥ = omega arith in elim z [ ]

  either_follow_right : (p q : ℕ) → m ≤ p → Follow (either e f) p q → Follow f p q
  either_follow_right p q h (Follow.left x) = let a = in_follow x lo m re in let z : ⊥ = omega arith in elim z [ ]
  either_follow_right p q h (Follow.right x) = x

  either_path_left : (p : ℕ) (w : List ℕ) → p < m → Path (either e f) p w → Path e p w
  either_path_left p [] h x = either_last_left p h x
  either_path_left p (q ∷ w) h x = let y = either_follow_left p q h x.0 in let a = in_follow y lo m re in (y, either_path_left q w a.3 x.1)

  either_path_right : (p : ℕ) (w : List ℕ) → m ≤ p → Path (either e f) p w → Path f p w
  either_path_right p [] h x = either_last_right p h x
  either_path_right p (q ∷ w) h x = let y = either_follow_right p q h x.0 in let a = in_follow y m hi rf in (y, either_path_right q w a.2 x.1)

  either_word : ((w : List ℕ) → Walk e w → Word e w) → ((w : List ℕ) → Walk f w → Word f w) → (w : List ℕ) → Walk (either e f) w → Word (either e f) w
  either_word we wf [] x = none x
    where
      none : Null (either e f) → Word (either e f) []
      none (Null.left a) = Word.left (we [] a)
      none (Null.right b) = Word.right (wf [] b)
  either_word we wf (p ∷ w) x = begin x.0
    where
      begin : First (either e f) p → Word (either e f) (p ∷ w)
      begin (First.left b) = let a = in_first b lo m re in Word.left (we (p ∷ w) (b, either_path_left p w a.1 x.1))
      begin (First.right b) = let a = in_first b m hi rf in Word.right (wf (p ∷ w) (b, either_path_right p w a.0 x.1))

-- a walk over a repeated expression: its first round, and the rest
module _ (e : Expr) (we : (w : List ℕ) → Walk e w → Word e w) where
  pub record Round (p : ℕ) (w : List ℕ) : Type 0 where
    pub front : List ℕ
    pub back : List ℕ
    pub is : front ++ back ≡ w
    pub on_left : Path e p front
    pub rest : Word (star e) back

  round_end : (p : ℕ) → Last (star e) p → Round p []
  round_end p (Last.in_star l) = record { front = []; back = []; is = refl; on_left = l; rest = Word.none }

  round_step : (p q : ℕ) (w : List ℕ) → Follow (star e) p q → Round q w → Round p (q ∷ w)
  round_step p q w (Follow.in_star x) c = record { front = q ∷ c.front; back = c.back; is = ap (λ l. q ∷ l) c.is; on_left = (x, c.on_left); rest = c.rest }
  round_step p q w (Follow.star_back l b) c = record { front = []; back = (q ∷ c.front) ++ c.back; is = ap (λ l. q ∷ l) c.is; on_left = l; rest = Word.more (we (q ∷ c.front) (b, c.on_left)) c.rest }

  round : (p : ℕ) (w : List ℕ) → Path (star e) p w → Round p w
  round p [] x = round_end p x
  round p (q ∷ w) x = round_step p q w x.0 (round q w x.1)

  star_word : (w : List ℕ) → Walk (star e) w → Word (star e) w
  star_word [] x = Word.none
  star_word (p ∷ w) x = begin x.0
    where
      begin : First (star e) p → Word (star e) (p ∷ w)
      begin (First.in_star b) =
          let c = round p w x.1 in
          let P : List ℕ → Type 0 = λ l. Word (star e) (p ∷ l) in
          subst P c.is (Word.more (we (p ∷ c.front) (b, c.on_left)) c.rest)

  plus_last : (p : ℕ) → Last (plus e) p → Last (star e) p
  plus_last p (Last.in_plus l) = Last.in_star l

  plus_follow : (p q : ℕ) → Follow (plus e) p q → Follow (star e) p q
  plus_follow p q (Follow.in_plus x) = Follow.in_star x
  plus_follow p q (Follow.plus_back l b) = Follow.star_back l b

  plus_word : (w : List ℕ) → Walk (plus e) w → Word (plus e) w
  plus_word [] x = none x
    where
      none : Null (plus e) → Word (plus e) []
      none (Null.in_plus n) = Word.some (we [] n) Word.none
  plus_word (p ∷ w) x = begin x.0
    where
      begin : First (plus e) p → Word (plus e) (p ∷ w)
      begin (First.in_plus b) =
          let c = round p w (path_in plus_follow plus_last p w x.1) in
          let P : List ℕ → Type 0 = λ l. Word (plus e) (p ∷ l) in
          subst P c.is (Word.some (we (p ∷ c.front) (b, c.on_left)) c.rest)

  opt_last : (p : ℕ) → Last (opt e) p → Last e p
  opt_last p (Last.in_opt l) = l

  opt_follow : (p q : ℕ) → Follow (opt e) p q → Follow e p q
  opt_follow p q (Follow.in_opt x) = x

  opt_word : (w : List ℕ) → Walk (opt e) w → Word (opt e) w
  opt_word [] x = Word.skipped
  opt_word (p ∷ w) x = begin x.0
    where
      begin : First (opt e) p → Word (opt e) (p ∷ w)
      begin (First.in_opt b) = Word.taken (we (p ∷ w) (b, path_in opt_follow opt_last p w x.1))

  tag_last : (k p : ℕ) → Last (tag k e) p → Last e p
  tag_last k p (Last.in_tag l) = l

  tag_follow : (k p q : ℕ) → Follow (tag k e) p q → Follow e p q
  tag_follow k p q (Follow.in_tag x) = x

  tag_word : (k : ℕ) (w : List ℕ) → Walk (tag k e) w → Word (tag k e) w
  tag_word k [] x = none x
    where
      none : Null (tag k e) → Word (tag k e) []
      none (Null.in_tag n) = Word.tagged (we [] n)
  tag_word k (p ∷ w) x = begin x.0
    where
      begin : First (tag k e) p → Word (tag k e) (p ∷ w)
      begin (First.in_tag b) = Word.tagged (we (p ∷ w) (b, path_in (tag_follow k) (tag_last k) p w x.1))

test_one : (n p : ℕ) → First (test n) p → Word (test n) (p ∷ [])
test_one n p First.one = Word.one

test_word : (n : ℕ) (w : List ℕ) → Walk (test n) w → Word (test n) w
test_word n [] x = elim x [ ]
test_word n (p ∷ []) x = test_one n p x.0
test_word n (p ∷ q ∷ w) x = let f : Follow (test n) p q = x.1.0 in elim f [ ]

pub walk_word : (e : Expr) (lo hi : ℕ) → Ranged e lo hi → (w : List ℕ) → Walk e w → Word e w
walk_word (test n) lo hi r w x = test_word n w x
walk_word (seq e f) lo hi r w x = seq_word e f lo r.0 hi r.1 r.2 (walk_word e lo r.0 r.1) (walk_word f r.0 hi r.2) w x
walk_word (either e f) lo hi r w x = either_word e f lo r.0 hi r.1 r.2 (walk_word e lo r.0 r.1) (walk_word f r.0 hi r.2) w x
walk_word (star e) lo hi r w x = star_word e (walk_word e lo hi r) w x
walk_word (plus e) lo hi r w x = plus_word e (walk_word e lo hi r) w x
walk_word (opt e) lo hi r w x = opt_word e (walk_word e lo hi r) w x
walk_word (tag k e) lo hi r w x = tag_word e (walk_word e lo hi r) k w x
