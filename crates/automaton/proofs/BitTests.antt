-- Whether a position is in a set, as a test.
use Rattle.std.proofs.Common.{◌≡◌, ℕ, ◌/◌, ◌%◌, ◌^◌, Bool, true, false, sym, refl, true≢false, eqb-true}
use borrow.Author.Tests.{eq-true}
use Rattle.automaton.specs.Bit.{In, bit}
use Rattle.automaton.proofs.Bits.{in_zero}

pub bit_in : {x k : ℕ} → bit x k ≡ true → In x k
bit_in {x = x} {k = k} e = record { is = eqb-true ((x / 2 ^ k) % 2) 1 e }

pub in_bit : {x k : ℕ} → In x k → bit x k ≡ true
in_bit {x = x} {k = k} e = sym (eq-true ((x / 2 ^ k) % 2) 1 e.is)

-- two tests that come out true together are one
pub same_test : (a b : Bool) → (a ≡ true → b ≡ true) → (b ≡ true → a ≡ true) → a ≡ b
same_test true b f g = sym (f refl)
same_test false true f g = g refl
same_test false false f g = refl

pub bit_none : (k : ℕ) → bit 0 k ≡ false
bit_none k = same_test _ _ (λ e. absurd (in_zero (bit_in {x = 0} {k = k} e))) (λ e. absurd (true≢false (sym e)))
