use Rattle.std.proofs.Common.{◌≡◌, ℕ, suc, ◌+◌, ◌-◌, ◌<◌, ◌≤◌, List, [], ◌∷◌, ◌++◌, map, reverse, length, get_or, drop, set, sym, ap, ◌∙◌, append_assoc, arith}
use mathlib.Core.List.{reverse-cons}
use Rattle.std.proofs.lemmas.List.{drop-set, map-append}
use Rattle.splitting.specs.Steps.{back_from}
use Rattle.splitting.proofs.sweep.walk_back.Goals as goal

-- the numbers of the tests of a list of positions, from the last on
abbrev numbers : List ℕ → List ℕ
numbers w = map (λ p. p + 1) (reverse w)

more : (back : List (List ℕ)) (trail whole : List ℕ) (i q : ℕ) → 0 < i → i ≤ length trail → numbers (back_from back i q) ++ drop i trail ≡ whole
    → numbers (back_from back (i - 1) (get_or (get_or back (i - 1) []) q 0)) ++ drop (i - 1) (set trail (i - 1) (q + 1)) ≡ whole
more back trail whole i q h l e =
    let w = back_from back (i - 1) (get_or (get_or back (i - 1) []) q 0) in
    let up : i ≡ suc (i - 1) = omega arith in
    let at : i - 1 + 1 ≡ i = omega arith in
    let front : numbers (back_from back i q) ≡ numbers w ++ ((q + 1) ∷ []) =
    ap (λ n. numbers (back_from back n q)) up ∙ ap (map (λ p. p + 1)) (reverse-cons q w) ∙ map-append (λ p. p + 1) (reverse w) (q ∷ []) in
    ap (λ t. numbers w ++ t) (drop-set trail (i - 1) (q + 1) (omega arith) ∙ ap (λ k. (q + 1) ∷ drop k trail) at)
    ∙ sym (append_assoc (numbers w) ((q + 1) ∷ []) (drop i trail))
    ∙ sym (ap (λ t. t ++ drop i trail) front)
    ∙ e

pub loop-i-preserved : goal.loop-i-preserved
loop-i-preserved c = record {
  low = c.requires.low (c.loop-i.i - 1) c.loop-i.q;
  written = more c.args.back.now c.loop-i.trail _ c.loop-i.i c.loop-i.q c.loop-i-test.true (omega arith) c.loop-i.invariant.written;
}
