-- Under two rankings that rank alike, a splitting answers alike.
use Rattle.std.proofs.Common.{ℕ, Bool, List, map, Ok, Err, Option, Result, Ordering, sym, ◌∙◌}
use Rattle.pattern.specs.Expressions.{Expr, Syntax}
use Rattle.pattern.specs.Tags.{tag_set}
use Rattle.ranking.specs.Ranks.{RankAlike}
use Rattle.sheet.specs.declared.Part.{Part}
use Rattle.splitting.specs.Trails.{Over, same, higher, earlier}
use Rattle.shelf.specs.declared.refusal.Refusal.{Refusal}
use Rattle.shelf.specs.Matching.{test_admits}
use Rattle.shelf.specs.Splits.{rank, BestWord, SplitBy}

module _ {M N : Type 0} (start : M) (stepped : M → ℕ → M) (compared : M → M → Ordering) (start' : N) (stepped' : N → ℕ → N) (compared' : N → N → Ordering) (alike : RankAlike start stepped compared start' stepped' compared') where
  over_alike : (e : Expr) (t u : List ℕ) → Over (rank start stepped e) compared t u → Over (rank start' stepped' e) compared' t u
  over_alike e t u (same p) = same p
  over_alike e t u (higher p) = higher (sym (alike (map (λ q. tag_set e q) u) (map (λ q. tag_set e q) t)) ∙ p)
  over_alike e t u (earlier p b) = earlier (sym (alike (map (λ q. tag_set e q) u) (map (λ q. tag_set e q) t)) ∙ p) b

  best_alike : {S : Type 0} (admits : ℕ → S → Bool) (e : Expr) (line : List S) (l r : ℕ) (word : List ℕ) → BestWord start stepped compared admits e line l r word → BestWord start' stepped' compared' admits e line l r word
  best_alike admits e line l r word best = record { trail = best.trail; over = λ u h. over_alike e word u (best.over u h) }

  pub split_alike : {S : Type 0} (meaning : ℕ → S → Bool) (asked : Result Syntax Refusal) (line : List S) (l r : ℕ) (before after : List ℕ) (was is : List (Option Part)) (answer : Result (Unit {0}) Refusal)
      → SplitBy start stepped compared meaning asked line l r before after was is answer → SplitBy start' stepped' compared' meaning asked line l r before after was is answer
  split_alike meaning (Err refusal) line l r before after was is answer h = h
  split_alike meaning (Ok x) line l r before after was is (Ok done) h =
      record { word = h.word; best = best_alike (test_admits meaning x.codes) x.tree line l r h.word h.best; front = h.front; rest = h.rest; parts = h.parts }
  split_alike meaning (Ok x) line l r before after was is (Err refusal) h = h
