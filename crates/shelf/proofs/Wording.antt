-- The best trail by positions of the automaton is the best trail by words of the pattern.
use Rattle.std.proofs.Common.{◌≡◌, ℕ, zero, suc, ◌+◌, ◌<◌, ◌≤◌, Bool, List, [], ◌∷◌, length, get_or, Ordering, sym, refl, ap, ◌∙◌, subst, arith}
use Rattle.automaton.specs.declared.machine.Automaton.{Automaton}
use Rattle.pattern.specs.Expressions.{Expr, Word, Syntax}
use Rattle.automaton.specs.Reads.{tests_of}
use Rattle.pattern.specs.Spelling.{Below, HasWords}
use Rattle.pattern.specs.Tags.{tag_set}
use Rattle.ranking.specs.Ranks.{rank_of}
use Rattle.splitting.specs.Trails as machine
use Rattle.splitting.specs.Trails.{sets_along, Before, Over, Best}
use Rattle.splitting.proofs.Lengths.{length_of}
use Rattle.shelf.specs.Matching.{test_admits, Admitted, stretch}
use Rattle.shelf.specs.Splits.{Trail, rank, BestWord}
use Rattle.shelf.proofs.Bridging.{passes, same}

pub tests_length : (t : List ℕ) → length (tests_of t) ≡ length t
tests_length [] = refl
tests_length (q ∷ t) = ap suc (tests_length t)

pub test_at : (t : List ℕ) (k : ℕ) → k < length t → get_or (tests_of t) k 0 ≡ get_or t k 0 + 1
test_at [] k h = absurd (omega (arith, h))
test_at (q ∷ t) zero h = refl
test_at (q ∷ t) (suc k) h = test_at t k (omega (arith, h))

-- ---- the tie order
tests_before : (t u : List ℕ) → length t ≡ length u → Before t u → Before (tests_of t) (tests_of u)
tests_before t u e b = record {
  place = b.place;
  within = omega (arith, b.within, tests_length t);
  lower = omega (arith, b.lower, test_at t b.place b.within, test_at u b.place (omega (arith, b.within, e)));
  after = λ j h l.
      let lt : j < length t = omega (arith, l, tests_length t) in
      test_at t j lt ∙ ap (λ n. n + 1) (b.after j h lt) ∙ sym (test_at u j (omega (arith, lt, e)));
}

-- ---- the symbols that are admitted
module _ {S : Type 0} (meaning : ℕ → S → Bool) (codes : List ℕ) where
  tests_admit : (string : List S) (t : List ℕ) → machine.Admitted (passes meaning codes) (length codes) string t → Admitted (test_admits meaning codes) (tests_of t) string
  tests_admit [] [] a = tt
  tests_admit [] (q ∷ t) a = absurd a
  tests_admit (s ∷ string) [] a = absurd a
  tests_admit (s ∷ string) (q ∷ t) a = (same meaning codes q s ∙ a.2, tests_admit string t a.3)

  positions_admit : length codes ≤ 64 → (string : List S) (t : List ℕ) → Below (length codes) t → Admitted (test_admits meaning codes) (tests_of t) string → machine.Admitted (passes meaning codes) (length codes) string t
  positions_admit few [] [] b a = tt
  positions_admit few [] (q ∷ t) b a = absurd a
  positions_admit few (s ∷ string) [] b a = absurd a
  positions_admit few (s ∷ string) (q ∷ t) b a = (omega (arith, b.0, few), b.0, sym (same meaning codes q s) ∙ a.0, positions_admit few string t b.1 a.1)

  pub positions_below : (string : List S) (t : List ℕ) → machine.Admitted (passes meaning codes) (length codes) string t → Below (length codes) t
  positions_below [] [] a = tt
  positions_below [] (q ∷ t) a = absurd a
  positions_below (s ∷ string) [] a = absurd a
  positions_below (s ∷ string) (q ∷ t) a = (a.1, positions_below string t a.3)

-- ---- the ranks, where the sets are those of the tests
module _ {M : Type 0} (stepped : M → ℕ → M) (n : ℕ) (e : Expr) (sets : List ℕ) (are_sets : (q : ℕ) → q < n → get_or sets q 0 ≡ tag_set e (q + 1)) where
  tests_rank : (start : M) (t : List ℕ) → Below n t → rank start stepped e (tests_of t) ≡ rank_of start stepped (sets_along sets t)
  tests_rank start [] b = refl
  tests_rank start (q ∷ t) b = ap (λ s. rank (stepped start s) stepped e (tests_of t)) (sym (are_sets q b.0)) ∙ tests_rank (stepped start (get_or sets q 0)) t b.1

-- ---- trails
module _ {S : Type 0} (meaning : ℕ → S → Bool) (x : Syntax) (a : Automaton) (words : HasWords (length x.codes) x.tree a) (few : length x.codes ≤ 64) (line : List S) (l r : ℕ) where
  abbrev PositionTrail : List ℕ → Type 0
  PositionTrail = machine.Trail a (passes meaning x.codes) (length x.codes) (stretch line l r)

  abbrev WordTrail : List ℕ → Type 0
  WordTrail = Trail (test_admits meaning x.codes) x.tree line l r

  to_word : (t : List ℕ) → PositionTrail t → WordTrail (tests_of t)
  to_word t h = record { is_word = words.spelled t h.walk; admitted = tests_admit meaning x.codes (stretch line l r) t h.admitted }

  from_word : (w : List ℕ) → WordTrail w → (t : List ℕ) × (w ≡ tests_of t) × PositionTrail t
  from_word w h =
      let p = words.placed w h.is_word in
      let t = p.0 in (
        t,
        p.1,
        record {
          walk = words.walked t (subst (Word x.tree) p.1 h.is_word);
          admitted = positions_admit meaning x.codes few (stretch line l r) t p.2 (subst (λ v. Admitted (test_admits meaning x.codes) v (stretch line l r)) p.1 h.admitted);
        },
      )

  pub no_word : ((t : List ℕ) → PositionTrail t → ⊥) → (w : List ℕ) → WordTrail w → ⊥
  no_word none w h = let p = from_word w h in none p.0 p.2

  module _ {M : Type 0} (start : M) (stepped : M → ℕ → M) (compared : M → M → Ordering) (sets : List ℕ) (are_sets : (q : ℕ) → q < length x.codes → get_or sets q 0 ≡ tag_set x.tree (q + 1)) where
    abbrev position_rank : List ℕ → M
    position_rank t = rank_of start stepped (sets_along sets t)

    ranked : (t : List ℕ) → PositionTrail t → rank start stepped x.tree (tests_of t) ≡ position_rank t
    ranked t h = tests_rank stepped (length x.codes) x.tree sets are_sets start t (positions_below meaning x.codes (stretch line l r) t h.admitted)

    compared_same : (t u : List ℕ) → PositionTrail t → PositionTrail u → compared (rank start stepped x.tree (tests_of u)) (rank start stepped x.tree (tests_of t)) ≡ compared (position_rank u) (position_rank t)
    compared_same t u h k = ap (λ m. compared m (rank start stepped x.tree (tests_of t))) (ranked u k) ∙ ap (compared (position_rank u)) (ranked t h)

    words_over : (t u : List ℕ) → PositionTrail t → PositionTrail u → Over position_rank compared t u → Over (rank start stepped x.tree) compared (tests_of t) (tests_of u)
    words_over t u h k (Over.same e) = Over.same (ap tests_of e)
    words_over t u h k (Over.higher lower) = Over.higher (compared_same t u h k ∙ lower)
    words_over t u h k (Over.earlier equal before) =
        let whole = length_of (passes meaning x.codes) (length x.codes) (stretch line l r) in
        Over.earlier (compared_same t u h k ∙ equal) (tests_before t u (whole t h.admitted ∙ sym (whole u k.admitted)) before)

    pub best_word : (t : List ℕ) → Best PositionTrail position_rank compared t → BestWord start stepped compared (test_admits meaning x.codes) x.tree line l r (tests_of t)
    best_word t best = record {
      trail = to_word t best.trail;
      over = λ w h.
          let p = from_word w h in
          subst (Over (rank start stepped x.tree) compared (tests_of t)) (sym p.1) (words_over t p.0 best.trail p.2 (best.over p.0 p.2));
    }
