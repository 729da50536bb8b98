-- The walks of a pattern's automaton are its words.
use Rattle.std.proofs.Common.{◌≡◌, ℕ, ◌+◌, ◌-◌, ◌<◌, ◌≤◌, true, List, [], ◌∷◌, get_or, sym, refl, ap, ◌∙◌, subst, arith}
use Rattle.automaton.specs.declared.machine.Automaton.{Automaton}
use Rattle.automaton.specs.Bit.{In}
use Rattle.automaton.specs.Reads as machine
use Rattle.pattern.specs.Expressions.{Expr}
use Rattle.pattern.specs.Positions.{size, numbered}
use Rattle.pattern.specs.Gathering.{PositionsOf}
use Rattle.automaton.specs.Reads.{tests_of}
use Rattle.pattern.specs.Spelling.{Below, HasWords}
use Rattle.automaton.proofs.BitTests.{bit_in, in_bit}
use Rattle.pattern.proofs.Sets.{to_null, of_null, to_first, of_first, to_last, of_last, to_follow, of_follow, to_ranged}
use Rattle.pattern.proofs.Walks.{First, Last, Follow, Path, Walk, Ranged, word_walk}
use Rattle.pattern.proofs.Spelled.{in_first, in_follow, walk_word}

module _ (e : Expr) (a : Automaton) (p : PositionsOf e a) (n : numbered e 1 ≡ true) (few : size e ≤ 64) where
  ranged : Ranged e 1 (1 + size e)
  ranged = to_ranged e 1 n

  -- the automaton's steps, as the expression's
  first_of : (k : ℕ) → In a.first k → First e (k + 1)
  first_of k h = to_first e (k + 1) (sym (p.first k) ∙ in_bit h)

  last_of : (k : ℕ) → In a.last k → Last e (k + 1)
  last_of k h = to_last e (k + 1) (sym (p.last k) ∙ in_bit h)

  follow_of : (k j : ℕ) → k < 64 → In (get_or a.follow k 0) j → Follow e (k + 1) (j + 1)
  follow_of k j l h = to_follow e (k + 1) (j + 1) (sym (p.follow k j l) ∙ in_bit h)

  below : (k : ℕ) → (1 ≤ k + 1) × (k + 1 < 1 + size e) → k < 64
  below k h = omega (arith, h.1)

  path_of : (k : ℕ) (ks : List ℕ) → k < 64 → machine.Path a k ks → Path e (k + 1) (tests_of ks)
  path_of k [] l h = last_of k h
  path_of k (j ∷ ks) l h = let f = follow_of k j l h.0 in let b = in_follow f 1 (1 + size e) ranged in (f, path_of j ks (below j (b.2, b.3)) h.1)

  walk_of : (ks : List ℕ) → machine.Walk a ks → Walk e (tests_of ks)
  walk_of [] h = to_null e (sym p.empty ∙ h)
  walk_of (k ∷ ks) h = let f = first_of k h.0 in (f, path_of k ks (below k (in_first f 1 (1 + size e) ranged)) h.1)

  of_path : (k : ℕ) (ks : List ℕ) → k < 64 → Path e (k + 1) (tests_of ks) → machine.Path a k ks
  of_path k [] l h = bit_in {x = a.last} {k = k} (p.last k ∙ of_last h)
  of_path k (j ∷ ks) l h = let b = in_follow h.0 1 (1 + size e) ranged in (bit_in {x = get_or a.follow k 0} {k = j} (p.follow k j l ∙ of_follow h.0), of_path j ks (below j (b.2, b.3)) h.1)

  of_walk : (ks : List ℕ) → Walk e (tests_of ks) → machine.Walk a ks
  of_walk [] h = p.empty ∙ of_null h
  of_walk (k ∷ ks) h = (bit_in {x = a.first} {k = k} (p.first k ∙ of_first h.0), of_path k ks (below k (in_first h.0 1 (1 + size e) ranged)) h.1)

  -- every test of a walk has a position
  at : (q : ℕ) → 1 ≤ q → q ≡ (q - 1) + 1
  at q l = omega arith

  positions_path : (q : ℕ) (w : List ℕ) → Path e q w → (ks : List ℕ) × (w ≡ tests_of ks) × Below (size e) ks
  positions_path q [] h = ([], refl, tt)
  positions_path q (r ∷ w) h =
      let b = in_follow h.0 1 (1 + size e) ranged in
      let t = positions_path r w h.1 in
      ((r - 1) ∷ t.0, ap (λ x. x ∷ w) (at r b.2) ∙ ap (λ l. ((r - 1) + 1) ∷ l) t.1, (omega (arith, b.2, b.3), t.2))

  positions : (w : List ℕ) → Walk e w → (ks : List ℕ) × (w ≡ tests_of ks) × Below (size e) ks
  positions [] h = ([], refl, tt)
  positions (q ∷ w) h =
      let b = in_first h.0 1 (1 + size e) ranged in
      let t = positions_path q w h.1 in
      ((q - 1) ∷ t.0, ap (λ x. x ∷ w) (at q b.0) ∙ ap (λ l. ((q - 1) + 1) ∷ l) t.1, (omega (arith, b.0, b.1), t.2))

  pub has_words : (m : ℕ) → size e ≡ m → HasWords m e a
  has_words m is =
      record {
        walked = λ ks h. of_walk ks (word_walk h);
        spelled = λ ks h. walk_word e 1 (1 + size e) ranged (tests_of ks) (walk_of ks h);
        placed = λ w h. let t = positions w (word_walk h) in (t.0, t.1, subst (λ n. Below n t.0) is t.2);
      }
