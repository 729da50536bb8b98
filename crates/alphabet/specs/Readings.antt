-- What a notation may answer, and what it is to read exactly certain forms.
use Rattle.std.specs.Prelude.{◌≡◌, ℕ, ◌^◌, ◌<◌, ◌≤◌, Bool, List, length, Ok, Err, Result}
use Rattle.alphabet.specs.declared.Cause.{Cause}

-- a test that was read takes at least one of the bytes, and none past their end
pub record UsesSome (bytes : List ℕ) (read : ℕ × ℕ) : Type 0 where
  pub some : 0 < read.1
  pub within : read.1 ≤ length bytes

-- What is read of these bytes is the form that they begin with, and what is refused begins with none. Form says which bytes begin
-- with a form, the set of symbols that it admits and how many bytes it takes; Fault, what is wrong with bytes that begin with none;
-- Means, which set a test admits.
pub record ReadByForms (Form : List ℕ → (ℕ → Bool) → ℕ → Type 0) (Fault : List ℕ → Cause → Type 0) (Means : ℕ → (ℕ → Bool) → Type 0) (reading : List ℕ → Result (ℕ × ℕ) Cause) (bytes : List ℕ) : Type 0 where
  -- what is read is a form, and the test means what the form admits
  pub is_form : (test used : ℕ) → reading bytes ≡ Ok (test, used) → (test < 2 ^ 32) × ((admitted : ℕ → Bool) × Form bytes admitted used × Means test admitted)
  -- every form is read, and the test means what the form admits
  pub form_is_read : (admitted : ℕ → Bool) (used : ℕ) → Form bytes admitted used → (test : ℕ) × (reading bytes ≡ Ok (test, used)) × Means test admitted
  -- what is refused has a fault of that cause
  pub is_fault : (cause : Cause) → reading bytes ≡ Err cause → Fault bytes cause
  -- every fault is refused for its cause
  pub fault_is_refused : (cause : Cause) → Fault bytes cause → reading bytes ≡ Err cause
