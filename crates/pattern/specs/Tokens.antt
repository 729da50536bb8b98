-- The tokens of a pattern's bytes.
use Rattle.std.specs.Prelude.{◌≡◌, ℕ, zero, suc, ◌+◌, ◌-◌, cond, List, [], ◌∷◌, length, Some, None, Ok, Err, Option, Result, ◌==◌}
use Rattle.alphabet.specs.declared.Cause.{Cause}
use Rattle.alphabet.specs.Signs.{BeginsNoSign}
use Rattle.pattern.specs.declared.token.Kind.{Kind}
use Rattle.pattern.specs.declared.token.Kind.TheVariants.{Or, Star, Plus, Opt, Open, Close, OpenTag, CloseTag, Test, End}
use Rattle.pattern.specs.declared.token.Token.{Token}

-- what a notation reads: of bytes, a test's number and how many bytes it takes, or a cause
abbrev pub Reading : Type 0
Reading = List ℕ → Result (ℕ × ℕ) Cause

-- two notations, or one at two times, read the same wherever a notation may be asked
abbrev pub SameReading : Reading → Reading → Type 0
SameReading r r' = (bytes : List ℕ) → BeginsNoSign bytes → r bytes ≡ r' bytes

-- the sign that a byte is: | * + ? ( ) { }
abbrev pub sign_kind : ℕ → Option Kind
sign_kind b =
    cond (b == 124) (Some Or)
    (cond (b == 42) (Some Star)
    (cond (b == 43) (Some Plus)
    (cond (b == 63) (Some Opt)
    (cond (b == 40) (Some Open)
    (cond (b == 41) (Some Close)
    (cond (b == 123) (Some OpenTag)
    (cond (b == 125) (Some CloseTag) None)))))))

-- a token of this kind at this offset
abbrev pub token : Kind → ℕ → Token
token k at = record { kind = k; offset = at }

-- what a notation read at the offset `at`, and how many of the `left` bytes it takes: a bad test takes them all
abbrev pub tested : ℕ → ℕ → Result (ℕ × ℕ) Cause → Kind × ℕ
tested at left (Ok p) = (Test (Ok p.0), p.1)
tested at left (Err c) = (Test (Err (record { cause = c; offset = at })), left)

-- the token at the front of the bytes that stand from the offset `at` on, and how many bytes it takes
abbrev pub first_token : Reading → ℕ → List ℕ → Kind × ℕ
first_token reading at [] = (End, 0)
first_token reading at (b ∷ bytes) = elim (sign_kind b) [ Some k ↦ (k, 1) | None ↦ tested at (length (b ∷ bytes)) (reading (b ∷ bytes)) ]

-- the tokens of the bytes that stand from the offset `at` on, of which the first `skip` belong to the token before
abbrev pub tokens_from : Reading → ℕ → ℕ → List ℕ → List Token
tokens_from reading at skip [] = []
tokens_from reading at zero (b ∷ bytes) =
    token (first_token reading at (b ∷ bytes)).0 at ∷ tokens_from reading (at + 1) ((first_token reading at (b ∷ bytes)).1 - 1) bytes
tokens_from reading at (suc skip) (b ∷ bytes) = tokens_from reading (at + 1) skip bytes

-- the tokens of a pattern's bytes
abbrev pub tokens : Reading → List ℕ → List Token
tokens reading bytes = tokens_from reading 0 0 bytes

-- the number of the test that a token is
abbrev pub code_of : Kind → List ℕ
code_of (Test (Ok code)) = code ∷ []
code_of _ = []

-- how many tags a token opens
abbrev pub tag_of : Kind → ℕ
tag_of OpenTag = 1
tag_of _ = 0
