-- What the automaton reads by the rows of a line is what the pattern reads of the line.
use Rattle.std.proofs.Common.{◌≡◌, ℕ, zero, suc, ◌+◌, ◌-◌, ◌≤◌, Bool, ltb, List, [], ◌∷◌, length, get_or, take, drop, sum, sym, refl, ap, ◌∙◌, subst, inl, inr, arith, length-drop, drop-cons}
use Rattle.std.proofs.lemmas.Bool.{and_from, and_parts}
use borrow.Author.Tests.{lt-true}
use Rattle.automaton.specs.declared.machine.Automaton.{Automaton}
use Rattle.automaton.specs.Reads as machine
use Rattle.automaton.specs.Stretches.{Longest, NoneReads, Covered, MarkedRight, Marks}
use Rattle.pattern.specs.Expressions.{Word, Syntax}
use Rattle.automaton.specs.Reads.{tests_of}
use Rattle.pattern.specs.Spelling.{Below}
use Rattle.automaton.proofs.BitTests.{bit_in, in_bit}
use Rattle.shelf.specs.Asking.{Asked}
use Rattle.shelf.specs.Matching.{test_admits, Admitted, stretch, Reads}
use Rattle.asking.specs.RowTables.{RowsOf}
use Rattle.asking.proofs.Rowing.{rows_length}

-- what one relation of stretches covers, a wider one covers
covered_by : {R Q : ℕ → ℕ → Type 0} → ((l r : ℕ) → R l r → Q l r) → (i : ℕ) → Covered R i → Covered Q i
covered_by f i h = record { left = h.left; right = h.right; from = h.from; to = h.to; reads = f h.left h.right h.reads }

module _ {S : Type 0} (meaning : ℕ → S → Bool) (codes : List ℕ) where
  abbrev pub admits : ℕ → S → Bool
  admits = test_admits meaning codes

  -- by positions
  abbrev pub passes : ℕ → S → Bool
  passes k s = meaning (get_or codes k 0) s

  pub same : (k : ℕ) (s : S) → admits (k + 1) s ≡ passes k s
  same k s = ap (λ j. meaning (get_or codes j 0) s) (let e : k + 1 - 1 ≡ k = omega arith in e)

  rows_drop : (n l : ℕ) (line : List S) (rows : List ℕ) → RowsOf passes n line rows → RowsOf passes n (drop l line) (drop l rows)
  rows_drop n zero line rows h = h
  rows_drop n (suc l) [] [] h = tt
  rows_drop n (suc l) [] (x ∷ rows) h = absurd h
  rows_drop n (suc l) (s ∷ line) [] h = absurd h
  rows_drop n (suc l) (s ∷ line) (x ∷ rows) h = rows_drop n l line rows h.1

  -- so many symbols as there are positions
  ends_at : (rows : List ℕ) (l r : ℕ) (ks : List ℕ) → machine.Admits rows l r ks → (r ≡ l + length ks) × (r ≤ length rows)
  ends_at rows l r [] h = (omega (arith, h.0), h.1)
  ends_at rows l r (k ∷ ks) h = let t = ends_at rows (l + 1) r ks h.2 in (omega (arith, t.0), t.1)

  forth : (n l r : ℕ) (rows ks : List ℕ) (line : List S) → RowsOf passes n line (drop l rows) → machine.Admits rows l r ks → Admitted admits (tests_of ks) (take (length ks) line)
  forth n l r rows [] line h a = tt
  forth n l r rows (k ∷ ks) line h a = by line (subst (RowsOf passes n line) (drop-cons rows l 0 a.0) h) (λ rest q. forth n (l + 1) r rows ks rest (subst (λ i. RowsOf passes n rest (drop i rows)) (let e : suc l ≡ l + 1 = omega arith in e) q) a.2)
    where
      by : (xs : List S) → RowsOf passes n xs (get_or rows l 0 ∷ drop (suc l) rows) → ((rest : List S) → RowsOf passes n rest (drop (suc l) rows) → Admitted admits (tests_of ks) (take (length ks) rest)) → Admitted admits (tests_of (k ∷ ks)) (take (length (k ∷ ks)) xs)
      by [] q on = absurd q
      by (s ∷ rest) q on = (same k s ∙ (and_parts (ltb k n) (passes k s) (sym (q.0 k) ∙ in_bit a.1)).1, on rest q.1)

  long_enough : (n l m : ℕ) (line : List S) (rows : List ℕ) → RowsOf passes n line (drop l rows) → l + m ≤ length rows → m ≤ length line
  long_enough n l m line rows h b = omega (arith, rows_length passes n line (drop l rows) h, length-drop l rows)

  none_left : (m : ℕ) (line : List S) → m ≤ length line → Admitted admits [] (take m line) → m ≡ 0
  none_left zero line h a = refl
  none_left (suc m) [] h a = absurd (omega arith)
  none_left (suc m) (s ∷ line) h a = absurd a

  back : (n l m : ℕ) (rows ks : List ℕ) (line : List S) → RowsOf passes n line (drop l rows) → l + m ≤ length rows → Below n ks → Admitted admits (tests_of ks) (take m line) → machine.Admits rows l (l + m) ks
  back n l m rows [] line h b f a = let e = none_left m line (long_enough n l m line rows h b) a in (omega (arith, e), b)
  back n l zero rows (k ∷ ks) line h b f a = absurd a
  back n l (suc m) rows (k ∷ ks) line h b f a = by line (subst (RowsOf passes n line) (drop-cons rows l 0 (omega arith)) h) a (λ rest q c. subst (λ i. machine.Admits rows (l + 1) i ks) (let e : l + 1 + m ≡ l + suc m = omega arith in e) (back n (l + 1) m rows ks rest (subst (λ i. RowsOf passes n rest (drop i rows)) (let e : suc l ≡ l + 1 = omega arith in e) q) (omega arith) f.1 c))
    where
      by : (xs : List S) → RowsOf passes n xs (get_or rows l 0 ∷ drop (suc l) rows) → Admitted admits (tests_of (k ∷ ks)) (take (suc m) xs) → ((rest : List S) → RowsOf passes n rest (drop (suc l) rows) → Admitted admits (tests_of ks) (take m rest) → machine.Admits rows (l + 1) (l + suc m) ks) → machine.Admits rows l (l + suc m) (k ∷ ks)
      by [] q c on = absurd q
      by (s ∷ rest) q c on = (omega arith, bit_in {x = get_or rows l 0} {k = k} (q.0 k ∙ and_from (ltb k n) (passes k s) (sym (lt-true k n f.0)) (sym (same k s) ∙ c.0)), on rest q.1 c.1)

-- the two readings
module _ {S : Type 0} (meaning : ℕ → S → Bool) (line : List S) (x : Syntax) (a : Automaton) (rows : List ℕ) (asked : Asked meaning line x a rows) where
  abbrev pub PatternReads : ℕ → ℕ → Type 0
  PatternReads = Reads (test_admits meaning x.codes) x.tree line

  pub long : length rows ≡ length line
  long = rows_length (λ k s. meaning (get_or x.codes k 0) s) (length x.codes) line rows asked.are_rows

  from_machine : (l r : ℕ) → machine.Reads a rows l r → PatternReads l r
  from_machine l r h =
      let ks = h.positions in
      let t = ends_at meaning x.codes rows l r ks h.admits in
      record {
        ordered = omega (arith, t.0);
        within = omega (arith, t.1, long);
        word = tests_of ks;
        is_word = asked.has_words.spelled ks h.walks;
        admitted = subst (λ m. Admitted (test_admits meaning x.codes) (tests_of ks) (take m (drop l line))) (let q : length ks ≡ r - l = omega (arith, t.0) in q) (forth meaning x.codes (length x.codes) l r rows ks (drop l line) (rows_drop meaning x.codes (length x.codes) l line rows asked.are_rows) h.admits);
      }

  to_machine : (l r : ℕ) → PatternReads l r → machine.Reads a rows l r
  to_machine l r h =
      let p = asked.has_words.placed h.word h.is_word in
      let ks = p.0 in
      let whole : l + (r - l) ≡ r = omega (arith, h.ordered) in
      record {
        positions = ks;
        walks = asked.has_words.walked ks (subst (Word x.tree) p.1 h.is_word);
        admits = subst (λ i. machine.Admits rows l i ks) whole (back meaning x.codes (length x.codes) l (r - l) rows ks (drop l line) (rows_drop meaning x.codes (length x.codes) l line rows asked.are_rows) (omega (arith, h.ordered, h.within, long)) p.2 (subst (λ w. Admitted (test_admits meaning x.codes) w (stretch line l r)) p.1 h.admitted));
      }

  pub longest_of : (ends : ℕ × ℕ) → Longest (machine.Reads a rows) ends → Longest PatternReads ends
  longest_of ends h = record { reads = from_machine ends.0 ends.1 h.reads; ahead = λ l r k. h.ahead l r (to_machine l r k) }

  pub none_of : NoneReads (machine.Reads a rows) → NoneReads PatternReads
  none_of h l r k = h l r (to_machine l r k)

  marked_of : (i m : ℕ) → MarkedRight (machine.Reads a rows) i m → MarkedRight PatternReads i m
  marked_of i m (inl h) = inl (h.0, covered_by from_machine i h.1)
  marked_of i m (inr h) = inr (h.0, λ k. h.1 (covered_by to_machine i k))

  pub marks_of : (before after : List ℕ) (count : ℕ) → Marks (machine.Reads a rows) (length rows) before after count → Marks PatternReads (length line) before after count
  marks_of before after count h =
      record {
        room = omega (arith, h.room, long);
        kept = h.kept;
        marks = λ i k. marked_of i (get_or after i 0) (h.marks i (omega (arith, long)));
        rest = λ i k. h.rest i (omega (arith, long));
        counted = h.counted ∙ ap (λ n. sum (take n after)) long;
      }
