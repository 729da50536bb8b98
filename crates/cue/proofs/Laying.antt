-- Marks by their runs, and runs by their marks.
use Rattle.std.proofs.Common.{◌≡◌, ℕ, zero, suc, ◌+◌, ◌-◌, ◌*◌, ◌<◌, ◌≤◌, min, Bool, true, false, cond, eqb, List, [], ◌∷◌, ◌++◌, length, replicate, sym, refl, ap, ◌∙◌, append_assoc, append-nil, arith}
use Rattle.std.proofs.lemmas.List.{replicate_more, length-replicate, map-append}
use Rattle.std.proofs.lemmas.Grind.{common_steps}
use Rattle.cue.specs.Marks.{mark, marks, runs_after, runs_of, least_gap, LongestRuns, laid}

-- one of the same in front of so many
replicate_one : {X : Type 0} (n : ℕ) (x : X) (xs : List X) → replicate n x ++ (x ∷ xs) ≡ replicate (n + 1) x ++ xs
replicate_one n x xs = sym (append_assoc (replicate n x) (x ∷ []) xs) ∙ ap (λ l. l ++ xs) (replicate_more n x)

-- a fact of both truth values
by_bool : (P : Bool → Type 0) → P true → P false → (b : Bool) → P b
by_bool P t f true = t
by_bool P t f false = f

-- the runs of some marks, laid out again, are these marks
laid_again : (gap k : ℕ) (ms : List ℕ) (n : ℕ) → n ≡ gap + k + length ms → laid n (runs_after gap k ms) ≡ replicate gap 0 ++ (replicate k 1 ++ marks ms)
laid_again gap zero [] n e = let z : n ≡ gap = omega (arith, e) in ap (λ i. replicate i 0) z ∙ sym (append-nil (replicate gap 0))
laid_again gap (suc k) [] n e = let z : n - (gap + suc k) ≡ 0 = omega (arith, e) in ap (λ i. replicate gap 0 ++ (replicate (suc k) 1 ++ replicate i 0)) z
laid_again gap zero (m ∷ ms) n e =
    by_bool (λ b. laid n (cond b (runs_after (gap + 1) zero ms) (runs_after gap 1 ms)) ≡ replicate gap 0 ++ (cond b 0 1 ∷ marks ms))
    (laid_again (gap + 1) zero ms n (omega (arith, e)) ∙ sym (replicate_one gap 0 (marks ms)))
    (laid_again gap 1 ms n (omega (arith, e)))
    (eqb m 0)
laid_again gap (suc k) (m ∷ ms) n e =
    let one_more : suc (suc k) ≡ suc k + 1 = omega arith in
    by_bool (λ b. laid n (cond b ((gap, suc k) ∷ runs_after 1 zero ms) (runs_after gap (suc (suc k)) ms)) ≡ replicate gap 0 ++ (replicate (suc k) 1 ++ (cond b 0 1 ∷ marks ms)))
    (ap (λ l. replicate gap 0 ++ (replicate (suc k) 1 ++ l)) (laid_again 1 zero ms (n - (gap + suc k)) (omega (arith, e))))
    (laid_again gap (suc (suc k)) ms n (omega (arith, e)) ∙ ap (λ l. replicate gap 0 ++ l) (ap (λ i. replicate i 1 ++ marks ms) one_more ∙ sym (replicate_one (suc k) 1 (marks ms))))
    (eqb m 0)

-- and they are longest runs
longest_after : (gap k : ℕ) (ms : List ℕ) (n end : ℕ) → end + gap + k + length ms ≤ n → least_gap end ≤ gap → LongestRuns n end (runs_after gap k ms)
longest_after gap zero [] n end h l = omega (arith, h)
longest_after gap (suc k) [] n end h l = (l, omega arith, omega (arith, h))
longest_after gap zero (m ∷ ms) n end h l =
    by_bool (λ b. LongestRuns n end (cond b (runs_after (gap + 1) zero ms) (runs_after gap 1 ms)))
    (longest_after (gap + 1) zero ms n end (omega (arith, h)) (omega (arith, l)))
    (longest_after gap 1 ms n end (omega (arith, h)) l)
    (eqb m 0)
longest_after gap (suc k) (m ∷ ms) n end h l =
    by_bool (λ b. LongestRuns n end (cond b ((gap, suc k) ∷ runs_after 1 zero ms) (runs_after gap (suc (suc k)) ms)))
    (l, omega arith, longest_after 1 zero ms n (end + gap + suc k) (omega (arith, h)) (omega arith))
    (longest_after gap (suc (suc k)) ms n end (omega (arith, h)) l)
    (eqb m 0)

pub laid_whole : (ms : List ℕ) → laid (length ms) (runs_of ms) ≡ marks ms
laid_whole ms = laid_again 0 0 ms (length ms) (omega arith)

pub longest_runs : (ms : List ℕ) → LongestRuns (length ms) 0 (runs_of ms)
longest_runs ms = longest_after 0 0 ms (length ms) 0 (omega arith) (omega arith)

-- so many unmarked symbols in front lengthen the gap
pass_unmarked : (n gap : ℕ) (ms : List ℕ) → runs_after gap zero (replicate n 0 ++ ms) ≡ runs_after (gap + n) zero ms
pass_unmarked zero gap ms = let e : gap ≡ gap + 0 = omega arith in ap (λ g. runs_after g zero ms) e
pass_unmarked (suc n) gap ms = let e : gap + 1 + n ≡ gap + suc n = omega arith in pass_unmarked n (gap + 1) ms ∙ ap (λ g. runs_after g zero ms) e

-- and so many marked ones the run
pass_marked : (n gap k : ℕ) (ms : List ℕ) → runs_after gap (suc k) (replicate n 1 ++ ms) ≡ runs_after gap (suc (k + n)) ms
pass_marked zero gap k ms = let e : suc k ≡ suc (k + 0) = omega arith in ap (λ i. runs_after gap i ms) e
pass_marked (suc n) gap k ms = let e : suc (suc k + n) ≡ suc (k + suc n) = omega arith in pass_marked n gap (suc k) ms ∙ ap (λ i. runs_after gap i ms) e

-- the first gap is at least so long
abbrev Past : ℕ → List (ℕ × ℕ) → Type 0
Past g [] = Unit {0}
Past g (run ∷ rs) = g ≤ run.0

-- what is laid out, without that many of the unmarked symbols in front
abbrev behind : ℕ → ℕ → List (ℕ × ℕ) → List ℕ
behind g n [] = replicate (n - g) 0
behind g n (run ∷ rs) = replicate (run.0 - g) 0 ++ (replicate run.1 1 ++ laid (n - (run.0 + run.1)) rs)

unmarked : (n gap : ℕ) → runs_after gap zero (replicate n 0) ≡ []
unmarked n gap = ap (runs_after gap zero) (sym (append-nil (replicate n 0))) ∙ pass_unmarked n gap []

-- behind a run there is the line's end, or an unmarked symbol
run_ends : (gap k m n end : ℕ) (rs : List (ℕ × ℕ)) → m ≡ n - end → 0 < end → LongestRuns n end rs → runs_after 1 zero (behind 1 m rs) ≡ rs
    → runs_after gap (suc k) (laid m rs) ≡ (gap, suc k) ∷ rs
run_ends gap k zero n end [] e h l again = refl
run_ends gap k (suc m) n end [] e h l again = ap (λ r. (gap, suc k) ∷ r) (unmarked m 1)
run_ends gap k m n end ((zero, len) ∷ rs) e h l again = absurd (omega (arith, l.0, h))
run_ends gap k m n end ((suc j, len) ∷ rs) e h l again =
    let less : suc j - 1 ≡ j = omega arith in
    ap (λ r. (gap, suc k) ∷ r) (ap (λ i. runs_after 1 zero (replicate i 0 ++ (replicate len 1 ++ laid (m - (suc j + len)) rs))) (sym less) ∙ again)

-- marks that are laid out by runs have these runs
runs_behind : (rs : List (ℕ × ℕ)) (n end g m : ℕ) → m ≡ n - end → Past g rs → LongestRuns n end rs → runs_after g zero (behind g m rs) ≡ rs
runs_behind [] n end g m e p l = unmarked (m - g) g
runs_behind ((gap, zero) ∷ rs) n end g m e p l = absurd (omega (arith, l.1))
runs_behind ((gap, suc k) ∷ rs) n end g m e p l =
    let all : g + (gap - g) ≡ gap = omega (arith, p) in
    let rest : m - (gap + suc k) ≡ n - (end + gap + suc k) = omega (arith, e) in
    pass_unmarked (gap - g) g (replicate (suc k) 1 ++ laid (m - (gap + suc k)) rs)
    ∙ ap (λ i. runs_after i zero (replicate (suc k) 1 ++ laid (m - (gap + suc k)) rs)) all
    ∙ pass_marked k gap 0 (laid (m - (gap + suc k)) rs)
    ∙ ap (λ i. runs_after gap (suc i) (laid (m - (gap + suc k)) rs)) (omega arith)
    ∙ run_ends gap k (m - (gap + suc k)) n (end + gap + suc k) rs rest (omega arith) l.2
    (runs_behind rs n (end + gap + suc k) 1 (m - (gap + suc k)) rest (past rs l.2) l.2)
  where
    past : (rs : List (ℕ × ℕ)) → LongestRuns n (end + gap + suc k) rs → Past 1 rs
    past [] l = tt
    past (run ∷ rs) l = omega (arith, l.0)

pub runs_again : (n : ℕ) (rs : List (ℕ × ℕ)) → LongestRuns n 0 rs → runs_of (laid n rs) ≡ rs
runs_again n rs l = ap (runs_after 0 zero) (start rs) ∙ runs_behind rs n 0 0 n (omega arith) (none rs) l
  where
    none : (rs : List (ℕ × ℕ)) → Past 0 rs
    none [] = tt
    none (run ∷ rs) = omega arith

    start : (rs : List (ℕ × ℕ)) → laid n rs ≡ behind 0 n rs
    start [] = let e : n ≡ n - 0 = omega arith in ap (λ i. replicate i 0) e
    start (run ∷ rs) = let e : run.0 ≡ run.0 - 0 = omega arith in ap (λ i. replicate i 0 ++ (replicate run.1 1 ++ laid (n - (run.0 + run.1)) rs)) e

-- marks that are laid out are 1 and 0 already
marks_replicate : (n m : ℕ) → mark m ≡ m → marks (replicate n m) ≡ replicate n m
marks_replicate zero m e = refl
marks_replicate (suc n) m e = rw (e, marks_replicate n m e) refl

pub marks_laid : (n : ℕ) (rs : List (ℕ × ℕ)) → marks (laid n rs) ≡ laid n rs
marks_laid n [] = marks_replicate n 0 refl
marks_laid n (run ∷ rs) =
    map-append mark (replicate run.0 0) _
    ∙ rw (marks_replicate run.0 0 refl, map-append mark (replicate run.1 1) (laid (n - (run.0 + run.1)) rs), marks_replicate run.1 1 refl, marks_laid (n - (run.0 + run.1)) rs) refl

-- at most every second symbol begins a run
runs_apart : (n end : ℕ) (rs : List (ℕ × ℕ)) → LongestRuns n end rs → 2 * length rs + end + min end 1 ≤ n + 1
runs_apart n end [] l = omega (arith, l)
runs_apart n end (run ∷ rs) l = omega (arith, l.0, l.1, runs_apart n (end + run.0 + run.1) rs l.2)

pub few_runs : (ms : List ℕ) → 2 * length (runs_of ms) ≤ length ms + 1
few_runs ms = omega (arith, runs_apart (length ms) 0 (runs_of ms) (longest_runs ms))

-- runs end within the line
pub within_line : (n end : ℕ) (rs : List (ℕ × ℕ)) → LongestRuns n end rs → end ≤ n
within_line n end [] l = l
within_line n end (run ∷ rs) l = omega (arith, within_line n (end + run.0 + run.1) rs l.2)

pub laid_length : (n end m : ℕ) (rs : List (ℕ × ℕ)) → LongestRuns n end rs → m ≡ n - end → length (laid m rs) ≡ m
laid_length n end m [] l e = length-replicate {A = ℕ} m 0
laid_length n end m (run ∷ rs) l e =
    grind (arith, common_steps, laid_length n (end + run.0 + run.1) (m - (run.0 + run.1)) rs l.2 (omega (arith, e)), within_line n (end + run.0 + run.1) rs l.2)
