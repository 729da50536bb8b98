-- The outcome of the order that the bytes are is that of every order that they are.
use Rattle.std.proofs.Common.{ℕ, List, Option, subst}
use Rattle.orders.specs.Orders.{Wanted, IsOrder, OneOrder}
use Rattle.pattern.specs.declared.kept.Pattern.{Pattern}
use Rattle.marking.specs.Answers.{Outcome, Answered}

pub answered : (v : Wanted) (bytes : List ℕ) (was is : List (Option Pattern)) (text : List ℕ) → IsOrder v bytes → OneOrder bytes → Outcome v was is text → Answered bytes was is text
answered v bytes was is text p one done = record {
  order = λ w q. subst (λ u. Outcome u was is text) (one v w p q) done;
  no_order = λ none. absurd (none v p);
}
