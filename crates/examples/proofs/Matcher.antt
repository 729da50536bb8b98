-- A matcher that computes: whether a string of symbols is read by some word of an expression that passes a check.
use Rattle.std.proofs.Common.{◌≡◌, ℕ, ◌+◌, Bool, true, ◌&&◌, List, [], ◌∷◌}
use Rattle.std.proofs.lemmas.Bool.{and_from, and_parts}
use Rattle.pattern.specs.Expressions.{Expr, Word}
use Rattle.pattern.specs.Positions.{has_empty, begins, ends, follows, size, numbered}
use Rattle.pattern.proofs.Sets.{to_null, of_null, to_first, of_first, to_last, of_last, to_follow, of_follow, to_ranged}
use Rattle.pattern.proofs.Spelled.{walk_word, in_first, in_follow}
use Rattle.pattern.proofs.Walks.{Path, Walk, Ranged, word_walk}
use Rattle.shelf.specs.Matching.{Admitted}
use Rattle.examples.proofs.Bounded.{some, to_some, of_some}

-- after the test p, tests below n that follow one another admit the symbols, the last of them ends a word, and they pass
abbrev pub goes_on : {S : Type 0} → Expr → ℕ → (ℕ → S → Bool) → (List ℕ → Bool) → ℕ → List S → Bool
goes_on e n admits passes p [] = ends e p && passes []
goes_on e n admits passes p (s ∷ string) = some n (λ q. follows e p q && (admits q s && goes_on e n admits (λ w. passes (q ∷ w)) q string))

-- a word of tests below n admits the symbols, and passes
abbrev pub matches : {S : Type 0} → Expr → ℕ → (ℕ → S → Bool) → (List ℕ → Bool) → List S → Bool
matches e n admits passes [] = has_empty e && passes []
matches e n admits passes (s ∷ string) = some n (λ q. begins e q && (admits q s && goes_on e n admits (λ w. passes (q ∷ w)) q string))

module _ {S : Type 0} (e : Expr) (n : ℕ) (admits : ℕ → S → Bool) where
  path_of : (passes : List ℕ → Bool) (p : ℕ) (string : List S) → goes_on e n admits passes p string ≡ true → (w : List ℕ) × Path e p w × Admitted admits w string × (passes w ≡ true)
  path_of passes p [] h = let a = and_parts (ends e p) (passes []) h in ([], to_last e p a.0, tt, a.1)
  path_of passes p (s ∷ string) h =
      let x = of_some n (λ q. follows e p q && (admits q s && goes_on e n admits (λ w. passes (q ∷ w)) q string)) h in
      let q = x.0 in
      let a = and_parts (follows e p q) (admits q s && goes_on e n admits (λ w. passes (q ∷ w)) q string) x.2 in
      let b = and_parts (admits q s) (goes_on e n admits (λ w. passes (q ∷ w)) q string) a.1 in
      let r = path_of (λ w. passes (q ∷ w)) q string b.1 in
      (q ∷ r.0, (to_follow e p q a.0, r.1), (b.0, r.2), r.3)

  walk_of : (passes : List ℕ → Bool) (string : List S) → matches e n admits passes string ≡ true → (w : List ℕ) × Walk e w × Admitted admits w string × (passes w ≡ true)
  walk_of passes [] h = let a = and_parts (has_empty e) (passes []) h in ([], to_null e a.0, tt, a.1)
  walk_of passes (s ∷ string) h =
      let x = of_some n (λ q. begins e q && (admits q s && goes_on e n admits (λ w. passes (q ∷ w)) q string)) h in
      let q = x.0 in
      let a = and_parts (begins e q) (admits q s && goes_on e n admits (λ w. passes (q ∷ w)) q string) x.2 in
      let b = and_parts (admits q s) (goes_on e n admits (λ w. passes (q ∷ w)) q string) a.1 in
      let r = path_of (λ w. passes (q ∷ w)) q string b.1 in
      (q ∷ r.0, (to_first e q a.0, r.1), (b.0, r.2), r.3)

  module _ (ranged : Ranged e 1 n) where
    on_path : (passes : List ℕ → Bool) (p : ℕ) (w : List ℕ) (string : List S) → Path e p w → Admitted admits w string → passes w ≡ true → goes_on e n admits passes p string ≡ true
    on_path passes p [] [] x a h = and_from (ends e p) (passes []) (of_last x) h
    on_path passes p [] (s ∷ string) x a h = elim a [ ]
    on_path passes p (q ∷ w) [] x a h = elim a [ ]
    on_path passes p (q ∷ w) (s ∷ string) x a h =
        to_some n (λ q. follows e p q && (admits q s && goes_on e n admits (λ w. passes (q ∷ w)) q string)) q (in_follow x.0 1 n ranged).3
        (and_from (follows e p q) (admits q s && goes_on e n admits (λ w. passes (q ∷ w)) q string) (of_follow x.0)
        (and_from (admits q s) (goes_on e n admits (λ w. passes (q ∷ w)) q string) a.0 (on_path (λ w. passes (q ∷ w)) q w string x.1 a.1 h)))

    on_walk : (passes : List ℕ → Bool) (w : List ℕ) (string : List S) → Walk e w → Admitted admits w string → passes w ≡ true → matches e n admits passes string ≡ true
    on_walk passes [] [] x a h = and_from (has_empty e) (passes []) (of_null x) h
    on_walk passes [] (s ∷ string) x a h = elim a [ ]
    on_walk passes (q ∷ w) [] x a h = elim a [ ]
    on_walk passes (q ∷ w) (s ∷ string) x a h =
        to_some n (λ q. begins e q && (admits q s && goes_on e n admits (λ w. passes (q ∷ w)) q string)) q (in_first x.0 1 n ranged).1
        (and_from (begins e q) (admits q s && goes_on e n admits (λ w. passes (q ∷ w)) q string) (of_first x.0)
        (and_from (admits q s) (goes_on e n admits (λ w. passes (q ∷ w)) q string) a.0 (on_path (λ w. passes (q ∷ w)) q w string x.1 a.1 h)))

-- the matcher is right, of an expression whose tests are numbered from 1 on
module _ {S : Type 0} (e : Expr) (admits : ℕ → S → Bool) (in_order : numbered e 1 ≡ true) (passes : List ℕ → Bool) where
  pub word_of : (string : List S) → matches e (1 + size e) admits passes string ≡ true → (w : List ℕ) × Word e w × Admitted admits w string × (passes w ≡ true)
  word_of string h =
      let x = walk_of e (1 + size e) admits passes string h in
      (x.0, walk_word e 1 (1 + size e) (to_ranged e 1 in_order) x.0 x.1, x.2, x.3)

  pub of_word : (w : List ℕ) (string : List S) → Word e w → Admitted admits w string → passes w ≡ true → matches e (1 + size e) admits passes string ≡ true
  of_word w string x a h = on_walk e (1 + size e) admits (to_ranged e 1 in_order) passes w string (word_walk x) a h
