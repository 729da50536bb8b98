-- How long a trail is.
use Rattle.std.proofs.Common.{◌≡◌, ℕ, suc, Bool, List, [], ◌∷◌, length, refl, ap}
use Rattle.splitting.specs.Trails.{Admitted}

-- a trail has as many positions as the stretch has symbols
pub length_of : {S : Type 0} (admits : ℕ → S → Bool) (codes : ℕ) (stretch : List S) (t : List ℕ) → Admitted admits codes stretch t → length t ≡ length stretch
length_of admits codes [] [] x = refl
length_of admits codes [] (q ∷ t) x = absurd x
length_of admits codes (s ∷ stretch) [] x = absurd x
length_of admits codes (s ∷ stretch) (q ∷ t) x = ap suc (length_of admits codes stretch t x.3)
