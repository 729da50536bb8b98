-- Where the input is cut does not matter.
use Rattle.std.proofs.Common.{◌≡◌, ℕ, ◌+◌, Bool, true, false, cond, eqb, List, [], ◌∷◌, ◌++◌, length, refl, true≢false, arith}
use Rattle.std.proofs.lemmas.Grind.{common_steps}
use Rattle.text.specs.Lines.{front, ends, through, CutsAnywhere}
use Rattle.text.proofs.Takes.{take_twice}

-- a chunk with no line feed is all of it front, and does not end the line
record Whole (a b : List ℕ) : Type 0 where
  alone : front a ≡ a
  joined : front (a ++ b) ≡ front a ++ front b
  later : ends b ≡ ends (a ++ b)

unended : (a b : List ℕ) → ends a ≡ false → Whole a b
unended [] b e = record { alone = refl; joined = refl; later = refl }
unended (x ∷ a) b e = go (eqb x 10) refl e (unended a b)
  where
    go : (t : Bool) → eqb x 10 ≡ t → cond t true (ends a) ≡ false → (ends a ≡ false → Whole a b) → Whole (x ∷ a) b
    go true _ e below = absurd (true≢false e)
    go false n e below =
        let w = below e in
        record { alone = grind (arith, n, w.alone); joined = grind (arith, common_steps, n, w.joined); later = grind (arith, n, w.later) }

through_later : (a b : List ℕ) (w : Whole a b) (t : Bool) → ends b ≡ t → length a + through b ≡ through (a ++ b)
through_later a b w true e = grind (arith, common_steps, w.alone, w.joined, w.later, e)
through_later a b w false e = grind (arith, common_steps, w.later, e)

pub cuts : (most : ℕ) → CutsAnywhere most
cuts most h a b e =
    let w = unended a b e in (grind (arith, common_steps, w.joined, take_twice most (h ++ front a) (front b)), through_later a b w (ends b) refl, w.later)
