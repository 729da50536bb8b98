-- A line ends at the first line feed of the chunk.
use Rattle.std.proofs.Common.{◌≡◌, ℕ, suc, ◌+◌, ◌<◌, Bool, true, false, cond, not, eqb, ltb, List, [], ◌∷◌, Some, None, length, take, sym, refl, ap, ◌∙◌, arith}
use Rattle.std.specs.List.{position, position_or_len}
use Rattle.std.proofs.lemmas.Bool.{lt-ltb, ltb-true, ltb-false, cond-false}
use Rattle.std.proofs.lemmas.Grind.{common_steps}
use Rattle.text.specs.Lines.{front, ends, through}

abbrev is_feed : ℕ → Bool
is_feed b = eqb b 10

feed : (s : List ℕ) → (front s ≡ take (position_or_len is_feed s) s) × (ends s ≡ ltb (position_or_len is_feed s) (length s))
feed [] = (refl, refl)
feed (b ∷ bs) = go (eqb b 10) (feed bs)
  where
    go : (t : Bool) → (front bs ≡ take (position_or_len is_feed bs) bs) × (ends bs ≡ ltb (position_or_len is_feed bs) (length bs))
        → (cond t [] (b ∷ front bs) ≡ take (cond (not t) (1 + position_or_len is_feed bs) 0) (b ∷ bs)) × (cond t true (ends bs) ≡ ltb (cond (not t) (1 + position_or_len is_feed bs) 0) (length (b ∷ bs)))
    go true h = (refl, sym (lt-ltb 0 (suc (length bs)) (omega arith)))
    go false h = (grind (arith, common_steps, h.0), grind (arith, common_steps, h.1))

pub at_feed : (s : List ℕ) (n : ℕ) → Some n ≡ position is_feed s → (front s ≡ take n s) × (ends s ≡ true) × (through s ≡ n + 1)
at_feed s n e = go (ltb (position_or_len is_feed s) (length s)) refl (sym e)
  where
    go : (t : Bool) → ltb (position_or_len is_feed s) (length s) ≡ t → cond t (Some (position_or_len is_feed s)) None ≡ Some n → (front s ≡ take n s) × (ends s ≡ true) × (through s ≡ n + 1)
    go false t e = cc
    go true t e =
        let at : position_or_len is_feed s ≡ n = cc in
        let cut : front s ≡ take n s = (feed s).0 ∙ ap (λ k. take k s) at in
        let ended : ends s ≡ true = (feed s).1 ∙ t in
        let lt : n < length s = omega (arith, ltb-true _ _ t, at) in
        (cut, ended, grind (arith, common_steps, ended, cut))

pub no_feed : (s : List ℕ) → None ≡ position is_feed s → (front s ≡ s) × (ends s ≡ false) × (through s ≡ length s)
no_feed s e = go (ltb (position_or_len is_feed s) (length s)) refl (sym e)
  where
    go : (t : Bool) → ltb (position_or_len is_feed s) (length s) ≡ t → cond t (Some (position_or_len is_feed s)) None ≡ None → (front s ≡ s) × (ends s ≡ false) × (through s ≡ length s)
    go true t e = cc
    go false t e =
        let unended : ends s ≡ false = (feed s).1 ∙ t in
        (grind (arith, common_steps, (feed s).0, ltb-false _ _ t), unended, cond-false _ _ _ unended)
