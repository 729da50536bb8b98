-- What an order asks for, and how it is written.
use Rattle.std.specs.Prelude.{◌≡◌, ℕ, ◌+◌, ◌<◌, ◌≤◌, List, [], ◌∷◌, ◌++◌, length, take, codes}
use Rattle.orders.specs.declared.order.Order.{Order}
use Rattle.orders.specs.declared.order.Order.TheVariants.{File, Withdraw, Ask}
use Rattle.orders.specs.declared.order.TheConstants.{FRONT}

-- that a pattern is filed at a place, that what stands at a place is withdrawn, or what the pattern at a place reads of a line
pub data Wanted : Type 0 where
  to_file : ℕ → List ℕ → Wanted
  to_withdraw : ℕ → Wanted
  to_ask : ℕ → List ℕ → Wanted

-- what an order asks for
abbrev pub wanted : Order → Wanted
wanted (File place pattern) = to_file place pattern.now
wanted (Withdraw place) = to_withdraw place
wanted (Ask place line) = to_ask place line.now

-- the place that it is about
abbrev pub place_of : Wanted → ℕ
place_of (to_file place pattern) = place
place_of (to_withdraw place) = place
place_of (to_ask place line) = place

-- a sign, the digit of the place (48 is the digit 0), and for a pattern or a line a space and then its bytes
abbrev pub order_text : Wanted → List ℕ
order_text (to_file place pattern) = codes "+" ++ ((48 + place) ∷ (codes " " ++ pattern))
order_text (to_withdraw place) = codes "-" ++ ((48 + place) ∷ [])
order_text (to_ask place line) = codes "?" ++ ((48 + place) ∷ (codes " " ++ line))

-- the bytes are an order for this: they are its text, its place has one digit, and they are 200 at most
pub record IsOrder (w : Wanted) (bytes : List ℕ) : Type 0 where
  pub text : bytes ≡ order_text w
  pub digit : place_of w < 10
  pub few : length bytes ≤ 200

-- the bytes are an order for nothing
abbrev pub NoOrder : List ℕ → Type 0
NoOrder bytes = (w : Wanted) → IsOrder w bytes → ⊥

-- the same bytes are an order for one thing only
abbrev pub OneOrder : List ℕ → Type 0
OneOrder bytes = (v w : Wanted) → IsOrder v bytes → IsOrder w bytes → v ≡ w

-- The first bytes of a line, as many as `FRONT`, are an order for what the whole line is one for, and for nothing else.
abbrev pub FrontSuffices : List ℕ → Type 0
FrontSuffices line = (w : Wanted) → (IsOrder w line → IsOrder w (take FRONT line)) × (IsOrder w (take FRONT line) → IsOrder w line)
