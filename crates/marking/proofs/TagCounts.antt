-- The numbers of tags that a marker keeps, as patterns are filed and withdrawn.
use Rattle.std.proofs.Common.{◌≡◌, ℕ, zero, suc, List, [], ◌∷◌, refl, get_or, map, Some, None, Ok, Err, Option, Result, sym, ap, ◌∙◌, slice_set}
use Rattle.std.proofs.lemmas.List.{map-set}
use Rattle.pattern.specs.declared.kept.Pattern.{Pattern}
use Rattle.pattern.specs.Expressions.{Syntax}
use Rattle.pattern.specs.Patterns.{syntax}
use Rattle.shelf.specs.declared.refusal.Refusal.{Refusal}
use Rattle.shelf.specs.Filing.{counts, FiledAfter}
use Rattle.shelf.specs.Places.{held, held_at}
use Rattle.marking.specs.Tags.{tags_at}

-- a pattern with so many tags is filed
pub tags_filed : (f : Result Syntax Refusal) (place : ℕ) (was is : List (Option Pattern)) (kept : List ℕ) (tests tags : ℕ)
    → kept ≡ map tags_at was → FiledAfter f place was is → Ok (tests, tags) ≡ counts f → slice_set kept place tags ≡ map tags_at is
tags_filed (Ok x) place was is kept tests tags e (p, s, w) h =
    let t : tags ≡ (syntax p).tags = ap (λ r. elim r as (λ _. ℕ) [ Ok n ↦ n.1 | Err r ↦ 0 ]) h ∙ sym (ap (λ y. y.tags) s) in
    ap (λ l. slice_set l place tags) e ∙ ap (slice_set (map tags_at was) place) t ∙ sym (map-set tags_at was place (Some p)) ∙ sym (ap (map tags_at) w)
tags_filed (Err r) place was is kept tests tags e a h = cc

-- what stands at a place is withdrawn
pub tags_bared : (place : ℕ) (was is : List (Option Pattern)) (kept : List ℕ) → kept ≡ map tags_at was → is ≡ slice_set was place None → slice_set kept place 0 ≡ map tags_at is
tags_bared place was is kept e w = ap (λ l. slice_set l place 0) e ∙ sym (map-set tags_at was place None) ∙ sym (ap (map tags_at) w)

-- what is kept for a place is what is so of what stands there
kept_at : (places : List (Option Pattern)) (place : ℕ) → get_or (map tags_at places) place 0 ≡ tags_at (get_or places place None)
kept_at [] place = refl
kept_at (p ∷ places) zero = refl
kept_at (p ∷ places) (suc place) = kept_at places place

-- what is kept for a place at which a pattern stands
pub tags_kept : (places : List (Option Pattern)) (place : ℕ) (kept : List ℕ) (x : Syntax) → kept ≡ map tags_at places → held_at places place ≡ Some x → get_or kept place 0 ≡ x.tags
tags_kept places place kept x e h = ap (λ l. get_or l place 0) e ∙ kept_at places place ∙ go (get_or places place None) h
  where
    go : (o : Option Pattern) → held o ≡ Some x → tags_at o ≡ x.tags
    go None h = cc
    go (Some p) h = ap (λ o. elim o as (λ _. ℕ) [ None ↦ 0 | Some y ↦ y.tags ]) h
