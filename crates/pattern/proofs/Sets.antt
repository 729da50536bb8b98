-- The tests that begin, end and follow, as tests that compute and as the rules of a walk.
use Rattle.std.proofs.Common.{◌≡◌, ℕ, ◌+◌, true, ◌&&◌, ◌||◌, refl, subst, inl, inr, arith, eqb-true}
use Rattle.std.proofs.lemmas.Bool.{and_from, and_parts, or_cases, or_left, or_right, eq-eqb}
use Rattle.pattern.specs.Expressions.{Expr, test, seq, either, star, plus, opt, tag}
use Rattle.pattern.specs.Positions.{has_empty, begins, ends, follows, size, numbered}
use Rattle.pattern.proofs.Steps.{absurd_of}
use Rattle.pattern.proofs.Walks.{Null, First, Last, Follow, Ranged}

pub to_null : (e : Expr) → has_empty e ≡ true → Null e
to_null (test p) h = absurd_of h
to_null (seq e f) h = let b = and_parts (has_empty e) (has_empty f) h in Null.join (to_null e b.0) (to_null f b.1)
to_null (either e f) h = elim (or_cases (has_empty e) (has_empty f) h) [ inl a ↦ Null.left (to_null e a) | inr b ↦ Null.right (to_null f b) ]
to_null (star e) h = Null.in_star
to_null (plus e) h = Null.in_plus (to_null e h)
to_null (opt e) h = Null.in_opt
to_null (tag n e) h = Null.in_tag (to_null e h)

pub of_null : {e : Expr} → Null e → has_empty e ≡ true
of_null (Null.join {e = e} {f = f} a b) = and_from (has_empty e) (has_empty f) (of_null a) (of_null b)
of_null (Null.left {e = e} {f = f} a) = or_left (has_empty e) (has_empty f) (of_null a)
of_null (Null.right {e = e} {f = f} b) = or_right (has_empty e) (has_empty f) (of_null b)
of_null Null.in_star = refl
of_null (Null.in_plus a) = of_null a
of_null Null.in_opt = refl
of_null (Null.in_tag a) = of_null a

one_first : (q p : ℕ) → q ≡ p → First (test q) p
one_first q p e = let P : ℕ → Type 0 = λ x. First (test q) x in subst P e First.one

one_last : (q p : ℕ) → q ≡ p → Last (test q) p
one_last q p e = let P : ℕ → Type 0 = λ x. Last (test q) x in subst P e Last.one

pub to_first : (e : Expr) (p : ℕ) → begins e p ≡ true → First e p
to_first (test q) p h = one_first q p (eqb-true q p h)
to_first (seq e f) p h = elim (or_cases (begins e p) (has_empty e && begins f p) h) [ inl a ↦ First.seq_left (to_first e p a) | inr b ↦ (let c = and_parts (has_empty e) (begins f p) b in First.seq_right (to_null e c.0) (to_first f p c.1)) ]
to_first (either e f) p h = elim (or_cases (begins e p) (begins f p) h) [ inl a ↦ First.left (to_first e p a) | inr b ↦ First.right (to_first f p b) ]
to_first (star e) p h = First.in_star (to_first e p h)
to_first (plus e) p h = First.in_plus (to_first e p h)
to_first (opt e) p h = First.in_opt (to_first e p h)
to_first (tag n e) p h = First.in_tag (to_first e p h)

pub of_first : {e : Expr} {p : ℕ} → First e p → begins e p ≡ true
of_first (First.one {p = p}) = eq-eqb p p refl
of_first (First.seq_left {e = e} {f = f} {p = p} x) = or_left (begins e p) (has_empty e && begins f p) (of_first x)
of_first (First.seq_right {e = e} {f = f} {p = p} n x) = or_right (begins e p) (has_empty e && begins f p) (and_from (has_empty e) (begins f p) (of_null n) (of_first x))
of_first (First.left {e = e} {f = f} {p = p} x) = or_left (begins e p) (begins f p) (of_first x)
of_first (First.right {e = e} {f = f} {p = p} x) = or_right (begins e p) (begins f p) (of_first x)
of_first (First.in_star x) = of_first x
of_first (First.in_plus x) = of_first x
of_first (First.in_opt x) = of_first x
of_first (First.in_tag x) = of_first x

pub to_last : (e : Expr) (p : ℕ) → ends e p ≡ true → Last e p
to_last (test q) p h = one_last q p (eqb-true q p h)
to_last (seq e f) p h = elim (or_cases (ends f p) (has_empty f && ends e p) h) [ inl a ↦ Last.seq_right (to_last f p a) | inr b ↦ (let c = and_parts (has_empty f) (ends e p) b in Last.seq_left (to_last e p c.1) (to_null f c.0)) ]
to_last (either e f) p h = elim (or_cases (ends e p) (ends f p) h) [ inl a ↦ Last.left (to_last e p a) | inr b ↦ Last.right (to_last f p b) ]
to_last (star e) p h = Last.in_star (to_last e p h)
to_last (plus e) p h = Last.in_plus (to_last e p h)
to_last (opt e) p h = Last.in_opt (to_last e p h)
to_last (tag n e) p h = Last.in_tag (to_last e p h)

pub of_last : {e : Expr} {p : ℕ} → Last e p → ends e p ≡ true
of_last (Last.one {p = p}) = eq-eqb p p refl
of_last (Last.seq_left {e = e} {f = f} {p = p} x n) = or_right (ends f p) (has_empty f && ends e p) (and_from (has_empty f) (ends e p) (of_null n) (of_last x))
of_last (Last.seq_right {e = e} {f = f} {p = p} x) = or_left (ends f p) (has_empty f && ends e p) (of_last x)
of_last (Last.left {e = e} {f = f} {p = p} x) = or_left (ends e p) (ends f p) (of_last x)
of_last (Last.right {e = e} {f = f} {p = p} x) = or_right (ends e p) (ends f p) (of_last x)
of_last (Last.in_star x) = of_last x
of_last (Last.in_plus x) = of_last x
of_last (Last.in_opt x) = of_last x
of_last (Last.in_tag x) = of_last x

-- one test after another, across two expressions
across : (e f : Expr) (p q : ℕ) → ends e p && begins f q ≡ true → Last e p × First f q
across e f p q h = let b = and_parts (ends e p) (begins f q) h in (to_last e p b.0, to_first f q b.1)

pub to_follow : (e : Expr) (p q : ℕ) → follows e p q ≡ true → Follow e p q
to_follow (test r) p q h = absurd_of h
to_follow (seq e f) p q h = elim (or_cases (follows e p q || follows f p q) (ends e p && begins f q) h) [
  | inl a ↦ elim (or_cases (follows e p q) (follows f p q) a) [ inl x ↦ Follow.seq_left (to_follow e p q x) | inr y ↦ Follow.seq_right (to_follow f p q y) ]
  | inr b ↦ (let c = across e f p q b in Follow.seq_over c.0 c.1)
]
to_follow (either e f) p q h = elim (or_cases (follows e p q) (follows f p q) h) [ inl a ↦ Follow.left (to_follow e p q a) | inr b ↦ Follow.right (to_follow f p q b) ]
to_follow (star e) p q h = elim (or_cases (follows e p q) (ends e p && begins e q) h) [ inl a ↦ Follow.in_star (to_follow e p q a) | inr b ↦ (let c = across e e p q b in Follow.star_back c.0 c.1) ]
to_follow (plus e) p q h = elim (or_cases (follows e p q) (ends e p && begins e q) h) [ inl a ↦ Follow.in_plus (to_follow e p q a) | inr b ↦ (let c = across e e p q b in Follow.plus_back c.0 c.1) ]
to_follow (opt e) p q h = Follow.in_opt (to_follow e p q h)
to_follow (tag n e) p q h = Follow.in_tag (to_follow e p q h)

pub of_follow : {e : Expr} {p q : ℕ} → Follow e p q → follows e p q ≡ true
of_follow (Follow.seq_left {e = e} {f = f} {p = p} {q = q} x) = or_left (follows e p q || follows f p q) (ends e p && begins f q) (or_left (follows e p q) (follows f p q) (of_follow x))
of_follow (Follow.seq_right {e = e} {f = f} {p = p} {q = q} x) = or_left (follows e p q || follows f p q) (ends e p && begins f q) (or_right (follows e p q) (follows f p q) (of_follow x))
of_follow (Follow.seq_over {e = e} {f = f} {p = p} {q = q} l b) = or_right (follows e p q || follows f p q) (ends e p && begins f q) (and_from (ends e p) (begins f q) (of_last l) (of_first b))
of_follow (Follow.left {e = e} {f = f} {p = p} {q = q} x) = or_left (follows e p q) (follows f p q) (of_follow x)
of_follow (Follow.right {e = e} {f = f} {p = p} {q = q} x) = or_right (follows e p q) (follows f p q) (of_follow x)
of_follow (Follow.in_star {e = e} {p = p} {q = q} x) = or_left (follows e p q) (ends e p && begins e q) (of_follow x)
of_follow (Follow.star_back {e = e} {p = p} {q = q} l b) = or_right (follows e p q) (ends e p && begins e q) (and_from (ends e p) (begins e q) (of_last l) (of_first b))
of_follow (Follow.in_plus {e = e} {p = p} {q = q} x) = or_left (follows e p q) (ends e p && begins e q) (of_follow x)
of_follow (Follow.plus_back {e = e} {p = p} {q = q} l b) = or_right (follows e p q) (ends e p && begins e q) (and_from (ends e p) (begins e q) (of_last l) (of_first b))
of_follow (Follow.in_opt x) = of_follow x
of_follow (Follow.in_tag x) = of_follow x

-- tests that are numbered one by one lie between two numbers
pub to_ranged : (e : Expr) (lo : ℕ) → numbered e lo ≡ true → Ranged e lo (lo + size e)
to_ranged (test p) lo h = (eqb-true p lo h, refl)
to_ranged (seq e f) lo h = let b = and_parts (numbered e lo) (numbered f (lo + size e)) h in (lo + size e, to_ranged e lo b.0, let P : ℕ → Type 0 = λ n. Ranged f (lo + size e) n in subst P (omega arith) (to_ranged f (lo + size e) b.1))
to_ranged (either e f) lo h = let b = and_parts (numbered e lo) (numbered f (lo + size e)) h in (lo + size e, to_ranged e lo b.0, let P : ℕ → Type 0 = λ n. Ranged f (lo + size e) n in subst P (omega arith) (to_ranged f (lo + size e) b.1))
to_ranged (star e) lo h = to_ranged e lo h
to_ranged (plus e) lo h = to_ranged e lo h
to_ranged (opt e) lo h = to_ranged e lo h
to_ranged (tag n e) lo h = to_ranged e lo h
