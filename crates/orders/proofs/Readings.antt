-- The same bytes are an order for one thing only, and the first of a line tell which.
use Rattle.std.proofs.Common.{◌≡◌, ℕ, ◌+◌, List, length, take, take_all, length-take, sym, ◌∙◌, subst, inl, inr, arith}
use Rattle.std.proofs.lemmas.Bool.{cases_lt}
use Rattle.orders.specs.Orders.{Wanted, to_file, to_withdraw, to_ask, order_text, IsOrder, OneOrder, FrontSuffices}

same_place : (k j : ℕ) → 48 + k ≡ 48 + j → k ≡ j
same_place k j e = omega arith

same_text : (v w : Wanted) → order_text v ≡ order_text w → v ≡ w
same_text (to_file k p) (to_file j q) e = let n : 48 + k ≡ 48 + j = cc in let m = same_place k j n in cc
same_text (to_file k p) (to_withdraw j) e = cc
same_text (to_file k p) (to_ask j q) e = cc
same_text (to_withdraw k) (to_file j q) e = cc
same_text (to_withdraw k) (to_withdraw j) e = let n : 48 + k ≡ 48 + j = cc in let m = same_place k j n in cc
same_text (to_withdraw k) (to_ask j q) e = cc
same_text (to_ask k p) (to_file j q) e = cc
same_text (to_ask k p) (to_withdraw j) e = cc
same_text (to_ask k p) (to_ask j q) e = let n : 48 + k ≡ 48 + j = cc in let m = same_place k j n in cc

pub one_order : (bytes : List ℕ) → OneOrder bytes
one_order bytes v w p q = same_text v w (sym p.text ∙ q.text)

pub front_suffices : (line : List ℕ) → FrontSuffices line
front_suffices line w = elim (cases_lt (length line) 201) [
  | inl h ↦
      (let whole : take 201 line ≡ line = take_all 201 line (omega arith) in
      (λ is. subst (IsOrder w) (sym whole) is, λ is. subst (IsOrder w) whole is))
  | inr h ↦ (λ is. absurd (omega (arith, is.few)), λ is. absurd (omega (arith, is.few, length-take 201 line)))
]
