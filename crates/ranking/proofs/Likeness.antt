-- One of two rankings ranks as the ranking that is there.
use Rattle.std.proofs.Common.{◌≡◌, ℕ, List, [], ◌∷◌, refl, ap, ◌∙◌}
use Rattle.std.specs.declared.cmp.Ordering.{Ordering}
use Rattle.either.specs.declared.Either.{Either}
use Rattle.either.specs.declared.Either.TheVariants.{Left, Right}
use Rattle.either.specs.Either.{map_either}
use Rattle.ranking.specs.OneOfTwo.{step_either, compare_either, start_there, stepped_there, compared_there}
use Rattle.ranking.specs.Ranks.{rank_of, RankAlike}

-- ranks that stand on one side, by `put`, and are stepped and compared there as without it
module _ {M E : Type 0} (put : M → E) (stepped : M → ℕ → M) (compared : M → M → Ordering) (step : E → ℕ → E) (compare : E → E → Ordering) (steps : (x : M) (tags : ℕ) → step (put x) tags ≡ put (stepped x tags)) (compares : (x y : M) → compare (put x) (put y) ≡ compared x y) where
  rank_there : (start : M) (sets : List ℕ) → rank_of (put start) step sets ≡ put (rank_of start stepped sets)
  rank_there start [] = refl
  rank_there start (tags ∷ sets) = ap (λ m. rank_of m step sets) (steps start tags) ∙ rank_there (stepped start tags) sets

  alike_there : (start : M) → RankAlike (put start) step compare start stepped compared
  alike_there start sets sets' =
      ap (λ m. compare m (rank_of (put start) step sets')) (rank_there start sets)
      ∙ ap (compare (put (rank_of start stepped sets))) (rank_there start sets')
      ∙ compares (rank_of start stepped sets) (rank_of start stepped sets')

module _ {Q R M N : Type 0} (start : Q → M) (stepped : Q → M → ℕ → M) (compared : Q → M → M → Ordering) (start' : R → N) (stepped' : R → N → ℕ → N) (compared' : R → N → N → Ordering) where
  pub either_alike : (s : Either Q R)
      → RankAlike (map_either start start' s) (step_either stepped stepped' s) (compare_either compared compared' s) (start_there start start' s) (stepped_there stepped stepped' s) (compared_there compared compared' s)
  either_alike (Left q) =
      alike_there Left (stepped q) (compared q) (step_either stepped stepped' (Left q)) (compare_either compared compared' (Left q)) (λ x tags. refl) (λ x y. refl) (start q)
  either_alike (Right r) =
      alike_there Right (stepped' r) (compared' r) (step_either stepped stepped' (Right r)) (compare_either compared compared' (Right r)) (λ x tags. refl) (λ x y. refl) (start' r)
